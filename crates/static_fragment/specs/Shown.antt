-- How the answers of the searches are shown.
use Rattle.std.specs.Prelude.{◌≡◌, ◌<◌, ◌≤◌, ℕ, nat_lt, if◌then◌else◌, Option, Some, None, Result, Ok, Err}
use Rattle.ar_firing.specs.Rules.{AtVariable, AtObserver, AtWhole}
use Rattle.ar_firing.specs.Rules as rules
use Rattle.mode_search.specs.declared.searches.Wide.{Wide}
use Rattle.mode_search.specs.declared.searches.Wide.TheVariants as wide
use Rattle.static_fragment.specs.declared.faults.FragmentFault.{FragmentFault}
use Rattle.static_fragment.specs.declared.faults.FragmentFault.TheVariants.{Outside, Memory}
use Rattle.static_fragment.specs.Recognised.{spot_of}

-- the rule of this number is broken, shown with this
abbrev pub IsRuleShown : ℕ → rules.Spot → FragmentFault → Type 0
IsRuleShown rule spot (Outside number there) = (number ≡ rule) × (spot_of there ≡ spot)
IsRuleShown rule spot Memory = ⊥

-- where a number was found, the rule is broken, shown with the thing of this number
abbrev pub IsShownWith : ℕ → (ℕ → rules.Spot) → Option ℕ → Result (Unit {0}) FragmentFault → Type 0
IsShownWith rule spot None (Ok x) = Unit {0}
IsShownWith rule spot None (Err e) = ⊥
IsShownWith rule spot (Some n) (Ok x) = ⊥
IsShownWith rule spot (Some n) (Err e) = IsRuleShown rule (spot n) e

-- the same of a flow or an observer with too many possible values
abbrev pub IsWideShown : Option Wide → Result (Unit {0}) FragmentFault → Type 0
IsWideShown None (Ok x) = Unit {0}
IsWideShown None (Err e) = ⊥
IsWideShown (Some w) (Ok x) = ⊥
IsWideShown (Some (wide.Flow n)) (Err e) = IsRuleShown 7 (AtVariable n) e
IsWideShown (Some (wide.Observer n)) (Err e) = IsRuleShown 7 (AtObserver n) e

-- whether there are more than 2,048
abbrev pub IsUnitCount : ℕ → Result (Unit {0}) FragmentFault → Type 0
IsUnitCount count (Ok x) = count ≤ 2048
IsUnitCount count (Err e) = (2048 < count) × IsRuleShown 8 AtWhole e

-- the same where the cuts of all orders are asked for; where those of at most so many events are, it is not judged
abbrev pub IsCountedUpTo : Option ℕ → ℕ → Result (Unit {0}) FragmentFault → Type 0
IsCountedUpTo None count result = IsUnitCount count result
IsCountedUpTo (Some k) count (Ok x) = Unit {0}
IsCountedUpTo (Some k) count (Err e) = ⊥

-- the lesser of two numbers, where there are both
abbrev pub lesser_of_both : Option ℕ → Option ℕ → Option ℕ
lesser_of_both None other = other
lesser_of_both (Some m) None = Some m
lesser_of_both (Some m) (Some n) = if nat_lt n m then Some n else Some m
