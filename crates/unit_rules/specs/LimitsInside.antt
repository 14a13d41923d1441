-- Definitions beside those of Limits, of which clauses inside the program speak: what the whole program promises does
-- not rest on them.
use Rattle.std.specs.Prelude.{◌≡◌, List, Result}
use Rattle.ar_base.specs.StagesInside.{Meets}
use Rattle.ar_base.specs.declared.faults.RuleFault.{RuleFault}
use Rattle.hierarchy.specs.Models.{RootedModel}
use Rattle.hierarchy.specs.Units.{UnitPath}
use Rattle.hierarchy.specs.Listing.{Unfolded}
use Rattle.unit_rules.specs.Limits.{FitsLimits}

-- the answer of a call that tests the limits
abbrev pub AnswersLimits : {X : Type 0} → RootedModel → List UnitPath → Result X RuleFault → Type 0
AnswersLimits m units answer = let t : Unfolded = record { model = m; units = units } in Meets FitsLimits (λ u x. u ≡ t) t answer
