-- Events in the order raised, and what each tells of the call that raised it.
use Rattle.std.specs.Prelude.{◌≡◌, ℕ, ◌+◌, ◌≤◌, Bool, true, false, cond, List, [], ◌∷◌, ◌++◌, reverse, length, Ok, Err, Result, ◌≢◌}
use Rattle.std.specs.List.{AllByRecursion}
use Rattle.links.specs.Meaning.{LinkKind}
use Rattle.records.specs.declared.event.Event.{Event}
use Rattle.records.specs.declared.event.EventKind.{EventKind}
use Rattle.records.specs.declared.event.EventKind.TheVariants.{Trouble, Clear, NoAck, Nack, Odd}
use Rattle.records.specs.declared.refusal.Refusal.{Refusal}
use Rattle.watches.specs.Meaning.{WatchKind}
use Rattle.machine.specs.Calls.{Call, submit, deliver, tick, sample, collect, answer_to, after}
use Rattle.machine.specs.Parts.{Handed}
use Rattle.machine.specs.Parts as out
use Rattle.machine.specs.Calls.{Told}
use Rattle.machine.specs.Calls.{submitted, delivered, ticked, sampled, collected}
use Rattle.machine.specs.Machine.{Machine, Answer}
use Rattle.machine.specs.Runs.{History}

-- the event that an answer handed out
abbrev pub handed_by : Handed → List Event
handed_by (out.event e) = e ∷ []
handed_by (out.report r) = []
handed_by out.nothing = []

abbrev pub handed_as : Told → List Event
handed_as (submitted r) = []
handed_as (delivered r) = []
handed_as ticked = []
handed_as (sampled r) = []
handed_as (collected x) = handed_by x

-- the events that a history handed out, the newest first
abbrev pub handed_in : History → List Event
handed_in [] = []
handed_in (e ∷ h) = handed_as e.answer.outcome ++ handed_in h

-- all events that were stored, collected ones first, oldest first
abbrev pub stored : {K0 K1 K2 : LinkKind} {W : WatchKind} → History → Machine K0 K1 K2 W → List Event
stored h m = reverse (handed_in h) ++ m.desk.log.events

-- NO ACK, NACK and ODD are of a link
abbrev pub is_links : EventKind → Bool
is_links Trouble = false
is_links Clear = false
is_links NoAck = true
is_links Nack = true
is_links Odd = true

-- a link's event names the link, and has no value but a NACK's
pub record OfLink (e : Event) : Type 0 where
  pub kind : is_links e.kind ≡ true
  pub place : e.place ≤ 2
  pub value : (e.kind ≢ Nack) → e.value ≡ 0

-- a sample's event is TROUBLE when its answer is in trouble, else CLEAR, with the function and the value
abbrev pub OfState : Result Bool Refusal → ℕ → ℕ → Event → Type 0
OfState (Ok state) f v e = e ≡ record { kind = cond state Trouble Clear; place = f; value = v }
OfState (Err refusal) f v e = ⊥

abbrev pub OfSample : Told → ℕ → ℕ → Event → Type 0
OfSample (submitted r) f v e = ⊥
OfSample (delivered r) f v e = ⊥
OfSample ticked f v e = ⊥
OfSample (sampled r) f v e = OfState r f v e
OfSample (collected x) f v e = ⊥

-- only ticks and samples raise events
abbrev pub Tells : Call → Told → Event → Type 0
Tells (submit bytes) o e = ⊥
Tells (deliver link bytes) o e = ⊥
Tells tick o e = OfLink e
Tells (sample f v) o e = OfSample o f v e
Tells collect o e = ⊥

-- a call only adds events behind those that there are: those it raised, less those it lost
pub record AddsEvents (c : Call) (a : Answer Told) (before after : List Event) : Type 0 where
  pub new : List Event
  pub behind : after ≡ before ++ new
  pub counted : length new + a.lost ≡ a.raised
  pub told : AllByRecursion (Tells c a.outcome) new

-- Events come out in the order raised, each telling of the call that raised it.
abbrev pub EventsInOrder : LinkKind → LinkKind → LinkKind → WatchKind → Type 0
EventsInOrder K0 K1 K2 W =
    (h : History) (m : Machine K0 K1 K2 W) (c : Call)
    → AddsEvents c (answer_to m c) (stored h m) (stored (record { call = c; answer = answer_to m c } ∷ h) (after m c))
