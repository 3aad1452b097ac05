-- A call goes on with any run, and the run is balanced.
use Rattle.std.proofs.Common.{[], ◌∷◌}
use Rattle.links.specs.Meaning.{LinkKind, Lawful}
use Rattle.machine.specs.Calls.{Told}
use Rattle.machine.specs.Calls as calls
use Rattle.machine.specs.Machine.{Machine}
use Rattle.machine.specs.Parts as parts
use Rattle.machine.specs.Runs.{History, Ran}
use Rattle.machine.proofs.Balancing.{balanced, tied}
use Rattle.watches.specs.Meaning.{WatchKind, LawfulWatch}
use Rattle.console.specs.Consoles.{Steps, GoesOn, BalancedThroughout}

module _ {K0 K1 K2 : LinkKind} {W : WatchKind} (L0 : Lawful K0) (L1 : Lawful K1) (L2 : Lawful K2) (LW : LawfulWatch W) where
  pub goes_on : (m : Machine K0 K1 K2 W) (c : calls.Call) (a : parts.Answer Told) (n : Machine K0 K1 K2 W) → Steps m c a n → GoesOn m c a n
  goes_on m c a n s = record {
    run = λ h ran. (m, ran, s.0, s.1);
    balance = λ h ran. balanced L0 L1 L2 LW (record { call = c; answer = a } ∷ h) n (m, ran, s.0, s.1);
    tied = λ h ran. tied L0 L1 L2 LW (record { call = c; answer = a } ∷ h) n (m, ran, s.0, s.1);
  }

  pub throughout : (h : History) (m : Machine K0 K1 K2 W) → Ran h m → BalancedThroughout h m
  throughout [] m new = (new, balanced L0 L1 L2 LW [] m new, tied L0 L1 L2 LW [] m new)
  throughout (e ∷ h) n ran = (ran.0, throughout h ran.0 ran.1, (ran.2, ran.3), balanced L0 L1 L2 LW (e ∷ h) n ran, tied L0 L1 L2 LW (e ∷ h) n ran)
