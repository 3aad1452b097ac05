-- What a link means, what each call does to that, and what every kind of link keeps.
use Rattle.std.specs.Prelude.{◌≡◌, ℕ, ◌+◌, ◌≤◌, Bool, true, false, cond, not, ◌&&◌, List, [], is_some, is_ok, Some, None, Ok, Err, Option, Result, nat_lt}
use Rattle.records.specs.declared.command.Command.{Command}
use Rattle.records.specs.declared.command.Reply.{Reply}
use Rattle.links.specs.declared.answers.OfferRefusal.{OfferRefusal}
use Rattle.links.specs.declared.answers.OfferRefusal.TheVariants.{Busy, Spent}
use Rattle.links.specs.declared.answers.Receipt.{Receipt}
use Rattle.links.specs.declared.answers.Receipt.TheVariants.{Kept, Ignored}

-- how many commands were taken; the command that is held, if any; the reply that the next poll answers, if any
pub record LinkMeaning : Type 0 where
  pub taken : ℕ
  pub held : Option Command
  pub due : Option Reply

-- at most a million taken; an idle link, one that holds nothing, has nothing due
pub record Sound (m : LinkMeaning) : Type 0 where
  pub count : m.taken ≤ 1000000
  pub idle : m.held ≡ None → m.due ≡ None

-- an idle link that has taken so many
abbrev pub idle : ℕ → LinkMeaning
idle taken = record { taken = taken; held = None; due = None }

-- the answer to an offer: busy before spent
abbrev pub offer_answer : LinkMeaning → Result (Unit {0}) OfferRefusal
offer_answer m = cond (is_some m.held) (Err Busy) (cond (nat_lt m.taken 1000000) (Ok tt) (Err Spent))

-- the meaning after an offer with that answer; `due` is what the kind then has due
abbrev pub after_offer : Result (Unit {0}) OfferRefusal → LinkMeaning → Command → Option Reply → LinkMeaning
after_offer (Ok u) m command due = record { taken = m.taken + 1; held = Some command; due = due }
after_offer (Err refusal) m command due = m

-- the meaning after a poll with that answer; `due` is what the kind then has due
abbrev pub after_poll : Option Reply → LinkMeaning → Option Reply → LinkMeaning
after_poll (Some reply) m due = idle m.taken
after_poll None m due = record { taken = m.taken; held = m.held; due = due }

-- kept: a command was held, nothing was due, and now a reply is due
abbrev pub is_kept : LinkMeaning → LinkMeaning → Bool
is_kept before after = is_some before.held && not (is_some before.due) && is_some after.due

abbrev pub receipt : LinkMeaning → LinkMeaning → Receipt
receipt before after = cond (is_kept before after) Kept Ignored

-- A kind of link: its states, which of them it can be in, what they mean, what each call makes of them, its message and its wait limit.
pub record LinkKind : Type 1 where
  pub State : Type 0
  pub Ok : State → Type 0
  pub means : State → LinkMeaning
  pub offered : State → Command → State
  pub polled : State → State
  pub received : State → List ℕ → State
  pub abandoned : State → State
  pub message : State → List ℕ
  pub limit : ℕ

-- What every kind keeps; what a kind chooses is what this leaves open. A refused offer and ignored bytes leave the whole state as it was.
pub record Lawful (K : LinkKind) : Type 0 where
  pub sound : (s : K.State) → K.Ok s → Sound (K.means s)
  pub offers : (s : K.State) (c : Command) → K.Ok s
      → K.means (K.offered s c) ≡ after_offer (offer_answer (K.means s)) (K.means s) c (K.means (K.offered s c)).due
  pub refuses : (s : K.State) (c : Command) → K.Ok s → is_ok (offer_answer (K.means s)) ≡ false → K.offered s c ≡ s
  pub polls : (s : K.State) → K.Ok s → K.means (K.polled s) ≡ after_poll (K.means s).due (K.means s) (K.means (K.polled s)).due
  pub keeps_bytes : (s : K.State) (bytes : List ℕ) → K.Ok s → is_kept (K.means s) (K.means (K.received s bytes)) ≡ true
      → ((K.means (K.received s bytes)).taken ≡ (K.means s).taken) × ((K.means (K.received s bytes)).held ≡ (K.means s).held)
  pub ignores_bytes : (s : K.State) (bytes : List ℕ) → K.Ok s → is_kept (K.means s) (K.means (K.received s bytes)) ≡ false
      → K.received s bytes ≡ s
  pub abandons : (s : K.State) → K.Ok s → K.means (K.abandoned s) ≡ idle (K.means s).taken
  pub no_message : (s : K.State) → K.Ok s → (K.means s).held ≡ None → K.message s ≡ []
  pub stays_offered : (s : K.State) (c : Command) → K.Ok s → K.Ok (K.offered s c)
  pub stays_polled : (s : K.State) → K.Ok s → K.Ok (K.polled s)
  pub stays_received : (s : K.State) (bytes : List ℕ) → K.Ok s → K.Ok (K.received s bytes)
  pub stays_abandoned : (s : K.State) → K.Ok s → K.Ok (K.abandoned s)
  pub shortest : 1 ≤ K.limit
  pub longest : K.limit ≤ 50
