-- A shift that is over: what its history and its totals agree on.
use Rattle.std.specs.Prelude.{ℕ, ◌≤◌}
use Rattle.links.specs.Meaning.{LinkKind}
use Rattle.console.specs.Consoles.{BalancedThroughout}
use Rattle.machine.specs.Balance.{view_of, finals_of}
use Rattle.machine.specs.Machine.{Machine}
use Rattle.machine.specs.Runs.{History, collected_in}
use Rattle.watches.specs.Meaning.{WatchKind}
use Rattle.sheets.specs.declared.tally.Totals.{Totals}
use Rattle.sheets.specs.Totals.{Totalled, AddsUp}

module _ (K0 K1 K2 : LinkKind) (W : WatchKind) where
  pub record Closed (h : History) (t : Totals) : Type 0 where
    -- the machine at the end of the shift
    pub end : Machine K0 K1 K2 W
    pub balanced : BalancedThroughout h end
    pub totalled : Totalled t h (view_of end)
    pub totals_add_up : AddsUp t
    -- so a line has one final report at most
    pub ticked_once : (n : ℕ) → finals_of n (collected_in h) ≤ 1
