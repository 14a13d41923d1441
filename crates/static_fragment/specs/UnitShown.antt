-- The first thing that a broken rule is shown with.
use Rattle.std.specs.Prelude.{ℕ, List}
use Rattle.ar_meaning.specs.Systems.{System}
use Rattle.ar_firing.specs.Rules.{Spot, AtVariable, AtObserver, IsShownBefore, Rule, BreaksStaticRule}
use Rattle.mode_search.specs.declared.searches.Wide.{Wide}
use Rattle.mode_search.specs.declared.searches.Wide.TheVariants as wide

-- the rule is broken, and nothing that it is shown with comes before this
pub record IsFirstShown {V : Type 0} (sys : System V) (dropped : List ℕ) (rule : Rule) (spot : Spot) : Type 0 where
  pub breaks : BreaksStaticRule sys dropped rule spot
  pub is_first : (other : Spot) → IsShownBefore other spot → BreaksStaticRule sys dropped rule other → ⊥

-- what a flow or an observer with too many possible values is shown as
abbrev pub spot_of_wide : Wide → Spot
spot_of_wide (wide.Flow n) = AtVariable n
spot_of_wide (wide.Observer n) = AtObserver n
