-- Definitions beside those of Rules, of which clauses inside the program speak: what the whole program promises does
-- not rest on them.
use Rattle.std.specs.Prelude.{◌≡◌, ℕ, List}
use Rattle.ar_base.specs.Lists.{Stands}
use Rattle.ar_meaning.specs.Systems.{Assign, Variable, System}
use Rattle.ar_firing.specs.Rules.{Rule, KeepsStaticRule}

-- each assignment of an assertion has a variable of the net as its target, as it must have to be shown
pub record HasTargets {V : Type 0} (sys : System V) : Type 0 where
  pub each : (k : ℕ) (a : Assign V) → Stands sys.net.assertions k a
      → (n : ℕ) × (x : Variable V) × Stands sys.net.variables n x × (a.target ≡ x.key)

-- every rule is kept
pub record KeepsAll {V : Type 0} (sys : System V) (dropped : List ℕ) : Type 0 where
  pub each : (rule : Rule) → KeepsStaticRule sys dropped rule
