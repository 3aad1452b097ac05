-- What loaded procedures, the run and waiting reports keep to: the three links, 28 steps, 28 commands.
use Rattle.std.proofs.Common.{◌≡◌, ℕ, zero, suc, ◌+◌, ◌-◌, ◌<◌, ◌≤◌, min, Bool, cond, ◌&&◌, eqb, ltb, leb, List, [], ◌∷◌, ◌++◌, map, length, get_or, drop, replicate, is_some, Some, None, Option, sym, subst, arith}
use Rattle.std.specs.List.{AllByRecursion}
use Rattle.std.proofs.ByRecursion.{All-append, All-set, All-push}
use Rattle.std.proofs.lemmas.Bool.{cond_both, and_parts, leb-true, ltb-true}
use Rattle.std.proofs.lemmas.Bool.Decides.{nat_tests}
use Rattle.records.specs.declared.fault.Fault.{Fault}
use Rattle.records.specs.declared.fault.FaultKind.TheVariants.{InvalidProcedure, IllegalLoad, TooManyParameters, InvalidStep, EmptyProcedure, RunningProcedure}
use Rattle.records.specs.declared.report.Report.{Report}
use Rattle.records.specs.declared.report.Stage.{Stage}
use Rattle.records.specs.declared.report.Stage.TheVariants.{Started, Done, Failed}
use Rattle.records.specs.declared.step.Step.{Step}
use Rattle.records.specs.Faults.{at_step}
use Rattle.telecommands.specs.Fields.{Settings}
use Rattle.telecommands.specs.Fields.{Steps}
use Rattle.watches.specs.Meaning.{within}
use Rattle.machine.specs.declared.state.Action.{Action}
use Rattle.machine.specs.declared.state.Action.TheVariants.{Wait, Send, Expect}
use Rattle.machine.specs.declared.state.Procedure.{Procedure}
use Rattle.machine.specs.declared.state.Run.{Run}
use Rattle.machine.specs.declared.state.RunState.{RunState}
use Rattle.machine.specs.declared.state.RunState.TheVariants.{Ready, Sent}
use Rattle.machine.specs.Balance.{run_commands}
use Rattle.machine.specs.Desks.{Desk, new_desk, with_run, with_procedure, reported, procedure_at, id_of, runs, settled, steps_of, failed_run, passed}
use Rattle.machine.specs.Machine.{action_at, sent_on, spent_on}
use Rattle.machine.specs.Procedures.{Outcome, good, failed, setting, is_procedure, action_of, first_bad, action_in, steps_in, loaded_with, loading, deleting, written_to, settings_in, with_parameters, illegal_fault, writing, setting_loaded, setting_parameters, starting_loaded, starting, new_run, begun}
use Rattle.machine.specs.Written.{Bounded, AllBounded}
use Rattle.machine.proofs.Adding.{RightIf}

-- an action that sends names one of the three links
abbrev pub Sends : Action → Type 0
Sends (Wait ticks) = Unit {0}
Sends (Send link id sid v) = link ≤ 2
Sends (Expect f) = Unit {0}

-- a loaded procedure has at most 28 steps
abbrev pub Loaded : Option Procedure → Type 0
Loaded None = Unit {0}
Loaded (Some p) = (p.actions.count ≤ 28) × AllByRecursion Sends p.actions.items

-- no more commands were sent than there are steps up to the one where the run stands
abbrev pub FitState : RunState → ℕ → ℕ → Type 0
FitState (Ready spent) step sent = sent ≤ step
FitState (Sent link) step sent = (sent ≤ step + 1) × (link ≤ 2)

abbrev pub FitRun : Option Run → Type 0
FitRun None = Unit {0}
FitRun (Some r) = (r.step < 28) × FitState r.state r.step r.sent

pub record Fit (d : Desk) : Type 0 where
  pub procedures : AllByRecursion Loaded d.procedures
  pub run : FitRun d.run
  pub reports : AllBounded d.log.reports

-- the same in all three is as fit
pub fit_same : (d e : Desk) → e.procedures ≡ d.procedures → e.run ≡ d.run → e.log.reports ≡ d.log.reports → Fit d → Fit e
fit_same d e p r l fit = record {
  procedures = subst (AllByRecursion Loaded) (sym p) fit.procedures;
  run = subst FitRun (sym r) fit.run;
  reports = subst AllBounded (sym l) fit.reports;
}

-- a report more, whatever the run is now
pub filed_fit : (d : Desk) (run : Option Run) (n : ℕ) (stage : Stage) → Fit d → FitRun run → Bounded stage → Fit (reported (with_run d run) n stage)
filed_fit d run n stage fit now bounded =
    let x : Report = record { number = n; stage = stage } in
    record {
      procedures = fit.procedures;
      run = now;
      reports = cond_both (ltb (length d.log.reports) 400) (d.log.reports ++ x ∷ []) d.log.reports AllBounded
          (λ e. All-push (λ (r : Report). Bounded r.stage) d.log.reports x fit.reports bounded)
          (λ e. fit.reports);
    }

pub reported_fit : (d : Desk) (n : ℕ) (stage : Stage) → Fit d → Bounded stage → Fit (reported d n stage)
reported_fit d n stage fit bounded = filed_fit d d.run n stage fit fit.run bounded

pub settled_fit : (n : ℕ) (f : Option Fault) (d : Desk) → RightIf f → Fit d → Fit (settled n f d)
settled_fit n None d right fit = reported_fit d n (Done 0) fit (omega arith)
settled_fit n (Some f) d right fit = reported_fit d n (Failed 0 f) fit (omega arith, omega (arith, right.1))

rerun_fit : (d : Desk) (run : Option Run) → Fit d → FitRun run → Fit (with_run d run)
rerun_fit d run fit now = record { procedures = fit.procedures; run = now; reports = fit.reports }

-- at most 28 were sent
state_few : (s : RunState) (step sent : ℕ) → step < 28 → FitState s step sent → sent ≤ 28
state_few (Ready spent) step sent low fits = omega (arith, fits)
state_few (Sent link) step sent low fits = omega (arith, fits.0)

state_next : (s : RunState) (step sent : ℕ) → FitState s step sent → sent ≤ step + 1
state_next (Ready spent) step sent fits = omega (arith, fits)
state_next (Sent link) step sent fits = fits.0

pub run_few : (run : Option Run) → FitRun run → run_commands run ≤ 28
run_few None fits = omega arith
run_few (Some r) fits = state_few r.state r.step r.sent fits.0 fits.1

pub failed_fit : (r : Run) (f : Fault) (d : Desk) → Fit d → FitRun (Some r) → Fit (failed_run (Some r) f d)
failed_fit r f d fit now =
    filed_fit d None r.number (Failed r.sent (at_step (min (r.step + 1) 255) f)) fit tt
    (state_few r.state r.step r.sent now.0 now.1, omega (arith, now.0))

-- any place of a list, there or not
all_read : {X : Type 0} (P : X → Type 0) (xs : List X) (i : ℕ) (d : X) → AllByRecursion P xs → P d → P (get_or xs i d)
all_read P [] i d all p = p
all_read P (x ∷ xs) zero d all p = all.0
all_read P (x ∷ xs) (suc i) d all p = all_read P xs i d all.1 p

pub loaded_at : (d : Desk) (id : ℕ) → Fit d → Loaded (procedure_at d id)
loaded_at d id fit = all_read Loaded d.procedures (id - 1) None fit.procedures tt

steps_few : (p : Option Procedure) → Loaded p → steps_of p ≤ 28
steps_few None loaded = omega arith
steps_few (Some p) loaded = loaded.0

pub passed_fit : (r : Run) (d : Desk) → Fit d → FitRun (Some r) → Fit (passed r d)
passed_fit r d fit now =
    let next : Run = record { id = r.id; number = r.number; step = r.step + 1; sent = r.sent; state = Ready 0 } in
    let steps = steps_of (procedure_at d r.id) in
    let few = steps_few (procedure_at d r.id) (loaded_at d r.id fit) in
    cond_both (ltb (r.step + 1) steps) (with_run d (Some next)) (reported (with_run d None) r.number (Done r.sent)) Fit
    (λ t. rerun_fit d (Some next) fit (omega (arith, ltb-true (r.step + 1) steps t, few), state_next r.state r.step r.sent now.1))
    (λ t. filed_fit d None r.number (Done r.sent) fit tt (state_few r.state r.step r.sent now.0 now.1))

-- a run before a step, that waits on or sends
pub spent_fit : (r : Run) (spent : ℕ) (d : Desk) → Fit d → FitRun (Some r) → r.sent ≤ r.step → Fit (with_run d (Some (spent_on r spent)))
spent_fit r spent d fit now few = rerun_fit d (Some (spent_on r spent)) fit (now.0, few)

pub sent_fit : (r : Run) (link : ℕ) (d : Desk) → Fit d → FitRun (Some r) → r.sent ≤ r.step → link ≤ 2 → Fit (with_run d (Some (sent_on r link)))
sent_fit r link d fit now few low = rerun_fit d (Some (sent_on r link)) fit (now.0, (omega (arith, few), low))

pub action_sends : (p : Option Procedure) (step : ℕ) → Loaded p → Sends (action_at p step)
action_sends None step loaded = tt
action_sends (Some p) step loaded = all_read Sends p.actions.items step (Wait 0) loaded.1 tt

-- what is loaded
abbrev SendsIf : Option Action → Type 0
SendsIf None = Unit {0}
SendsIf (Some action) = Sends action

step_sends : (width nop : ℕ) (s : Step) → SendsIf (action_of width nop s)
step_sends width nop s =
    let expect = within width s.b && eqb s.w 0 && eqb s.u 0 && eqb s.v 0 in
    let third = cond (eqb s.op 3) (cond expect (Some (Expect s.b)) None) None in
    let wait = eqb s.b 0 && eqb s.u 0 && eqb s.v 0 in
    let second = cond (eqb s.op 2) (cond wait (Some (Wait s.w)) None) third in
    let send = leb s.b 2 && leb s.v nop in
    cond_both (eqb s.op 1) (cond send (Some (Send s.b s.w s.u s.v)) None) second SendsIf
    (λ e. cond_both send (Some (Send s.b s.w s.u s.v)) None SendsIf
    (λ t. leb-true s.b 2 (and_parts (leb s.b 2) (leb s.v nop) t).0) (λ t. tt))
    (λ e. cond_both (eqb s.op 2) (cond wait (Some (Wait s.w)) None) third SendsIf
    (λ t. cond_both wait (Some (Wait s.w)) None SendsIf (λ u. tt) (λ u. tt))
    (λ t. cond_both (eqb s.op 3) (cond expect (Some (Expect s.b)) None) None SendsIf
    (λ u. cond_both expect (Some (Expect s.b)) None SendsIf (λ v. tt) (λ v. tt)) (λ u. tt)))

action_in_sends : (a : Option Action) → SendsIf a → Sends (action_in a)
action_in_sends None ok = tt
action_in_sends (Some action) ok = ok

all_sends : (width nop : ℕ) (steps : List Step) → AllByRecursion Sends (map (λ step. action_in (action_of width nop step)) steps)
all_sends width nop [] = tt
all_sends width nop (s ∷ steps) = (action_in_sends (action_of width nop s) (step_sends width nop s), all_sends width nop steps)

all_same : {X : Type 0} (P : X → Type 0) (n : ℕ) (x : X) → P x → AllByRecursion P (replicate n x)
all_same P zero x p = tt
all_same P (suc n) x p = (p, all_same P n x p)

all_rest : {X : Type 0} (P : X → Type 0) (n : ℕ) (xs : List X) → AllByRecursion P xs → AllByRecursion P (drop n xs)
all_rest P zero xs all = all
all_rest P (suc n) [] all = tt
all_rest P (suc n) (x ∷ xs) all = all_rest P n xs all.1

loaded_with_few : (width nop : ℕ) (s : Steps) → s.count ≤ 28 → Loaded (Some (loaded_with width nop s))
loaded_with_few width nop s few =
    let rest = drop s.count (replicate 28 (Wait 0)) in (
      few,
      All-append Sends (map (λ step. action_in (action_of width nop step)) (steps_in s)) rest (all_sends width nop (steps_in s))
          (all_rest Sends s.count (replicate 28 (Wait 0)) (all_same Sends 28 (Wait 0) tt)),
    )

-- telecommands about settings and procedures
abbrev FitO : Outcome → Type 0
FitO o = Fit o.desk

fit_of : (b : Bool) (x y : Outcome) → FitO x → FitO y → FitO (cond b x y)
fit_of b x y p q = cond_both b x y FitO (λ e. p) (λ e. q)

put_fit : (d : Desk) (id : ℕ) (p : Option Procedure) → Fit d → Loaded p → Fit (with_procedure d id p)
put_fit d id p fit loaded = record { procedures = All-set Loaded d.procedures (id - 1) p loaded fit.procedures; run = fit.run; reports = fit.reports }

pub setting_fit : (width : ℕ) (d : Desk) (activity sid value : ℕ) → Fit d → Fit (setting width d activity sid value).desk
setting_fit width d activity sid value fit =
    fit_same d (setting width d activity sid value).desk (grind (arith, nat_tests)) (grind (arith, nat_tests)) (grind (arith, nat_tests)) fit

pub loading_fit : (width : ℕ) (d : Desk) (id nop : ℕ) (s : Steps) → s.count ≤ 28 → Fit d → Fit (loading width d id nop s).desk
loading_fit width d id nop s few fit =
    let bad = first_bad width nop 1 (steps_in s) in
    let new = good (with_procedure d id (Some (loaded_with width nop s))) in
    let judged = cond (eqb bad 0) new (failed d InvalidStep bad) in
    let counted = cond (ltb 25 nop) (failed d TooManyParameters nop) judged in
    let idle = cond (runs d id) (failed d IllegalLoad id) counted in
    fit_of (is_procedure id) idle (failed d InvalidProcedure id)
    (fit_of (runs d id) (failed d IllegalLoad id) counted fit
    (fit_of (ltb 25 nop) (failed d TooManyParameters nop) judged fit
    (fit_of (eqb bad 0) new (failed d InvalidStep bad) (put_fit d id (Some (loaded_with width nop s)) fit (loaded_with_few width nop s few)) fit)))
    fit

pub deleting_fit : (d : Desk) (id : ℕ) → Fit d → Fit (deleting d id).desk
deleting_fit d id fit =
    let gone = good (with_procedure d id None) in
    let idle = cond (runs d id) (failed d RunningProcedure id) gone in
    let loaded = cond (is_some (procedure_at d id)) idle (failed d EmptyProcedure id) in
    fit_of (is_procedure id) loaded (failed d InvalidProcedure id)
    (fit_of (is_some (procedure_at d id)) idle (failed d EmptyProcedure id) (fit_of (runs d id) (failed d RunningProcedure id) gone fit (put_fit d id None fit tt)) fit)
    fit

writing_fit : (d : Desk) (id : ℕ) (p : Procedure) (s : Settings) → Loaded (Some p) → Fit d → Fit (writing d id p s).desk
writing_fit d id p s loaded fit =
    let w = written_to p.nop p.parameters (settings_in s) in
    let set : Outcome = record { desk = with_procedure d id (Some (with_parameters p w.parameters)); fault = illegal_fault w.illegal } in
    fit_of (ltb p.nop s.count) (failed d TooManyParameters s.count) set fit (put_fit d id (Some (with_parameters p w.parameters)) fit loaded)

setting_loaded_fit : (p : Option Procedure) (d : Desk) (id : ℕ) (s : Settings) → Loaded p → Fit d → Fit (setting_loaded p d id s).desk
setting_loaded_fit None d id s loaded fit = fit
setting_loaded_fit (Some p) d id s loaded fit = writing_fit d id p s loaded fit

pub parameters_fit : (d : Desk) (id : ℕ) (s : Settings) → Fit d → Fit (setting_parameters d id s).desk
parameters_fit d id s fit =
    fit_of (is_procedure id) (setting_loaded (procedure_at d id) d id s) (failed d InvalidProcedure id)
    (setting_loaded_fit (procedure_at d id) d id s (loaded_at d id fit) fit) fit

starting_loaded_fit : (p : Option Procedure) (d : Desk) (id : ℕ) (s : Settings) → Loaded p → Fit d → Fit (starting_loaded p d id s).desk
starting_loaded_fit None d id s loaded fit = fit
starting_loaded_fit (Some p) d id s loaded fit =
    fit_of (is_some d.run) (failed d RunningProcedure (id_of d.run)) (writing d id p s) fit (writing_fit d id p s loaded fit)

pub starting_fit : (d : Desk) (id : ℕ) (s : Settings) → Fit d → Fit (starting d id s).desk
starting_fit d id s fit =
    fit_of (is_procedure id) (starting_loaded (procedure_at d id) d id s) (failed d InvalidProcedure id)
    (starting_loaded_fit (procedure_at d id) d id s (loaded_at d id fit) fit) fit

pub begun_fit : (f : Option Fault) (id n : ℕ) (d : Desk) → RightIf f → Fit d → Fit (begun f id n d)
begun_fit None id n d right fit = filed_fit d (Some (new_run id n)) n Started fit (omega arith, omega arith) tt
begun_fit (Some f) id n d right fit = settled_fit n (Some f) d right fit

pub fit_made : Fit new_desk
fit_made = record { procedures = all_same Loaded 16 None tt; run = tt; reports = tt }
