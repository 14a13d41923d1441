-- Definitions beside those of Verdicts, of which clauses inside the program speak: what the whole program promises does
-- not rest on them.
use Rattle.std.specs.Prelude.{◌≡◌, ℕ, List, Option}
use Rattle.ar_base.specs.Lists.{Stands}
use Rattle.ar_base.specs.Sets.{Within}
use Rattle.domains.specs.declared.Value.{Value}
use Rattle.typed_expr.specs.declared.expr.Expr.{Expr}
use Rattle.ar_meaning.specs.Systems.{System}
use Rattle.ar_meaning.specs.Runs.{Label}
use Rattle.ar_firing.specs.Cuts.{Cut}
use Rattle.ar_firing.specs.CutsInside.{UpTo}
use Rattle.cut_check.specs.Verdicts.{events_of, IsTrueLine, IsGood, IsSaid, good, IsListed, IsMissing}

-- each line is good, and no cut is missing of those that have at most as many events as are asked for; where no number
-- is given, none at all
pub record IsRight {V : Type 0} (order : Option ℕ) (sys : System V) (dropped : List ℕ) (observer : Expr V)
    (wanted : Value) (lines : List (List Label)) : Type 0 where
  pub good : (n : ℕ) (ls : List Label) → Stands lines n ls → IsSaid sys dropped observer wanted lines n IsGood
  pub whole : (set : List ℕ) → UpTo order set → IsMissing sys dropped observer wanted lines set → ⊥

-- the sets of the lines are cuts, each once, and each line is an order of its events that ends with the wanted value;
-- each cut that has at most as many events as are asked for is there; where no number is given, each cut is
pub record AreTheCuts {V : Type 0} (order : Option ℕ) (sys : System V) (dropped : List ℕ) (observer : Expr V)
    (wanted : Value) (lines : List (List Label)) : Type 0 where
  pub true_lines : (n : ℕ) (ls : List Label) → Stands lines n ls → IsTrueLine sys dropped observer wanted ls
  pub sound : (n : ℕ) (ls : List Label) → Stands lines n ls → Cut sys dropped observer wanted (events_of ls)
  pub whole : (set : List ℕ) → UpTo order set → Cut sys dropped observer wanted set → IsListed lines set
  pub once : (j k : ℕ) (ls ms : List Label) → Stands lines j ls → Stands lines k ms
      → Within (events_of ls) (events_of ms)
      → Within (events_of ms) (events_of ls) → j ≡ k
