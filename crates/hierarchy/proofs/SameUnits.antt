-- Units that are one test as one.
use Rattle.std.proofs.Common.{◌≡◌, Bool, true, ◌&&◌, ◌==◌, [], ◌∷◌, refl, ◌∙◌, ap}
use Rattle.ar_base.proofs.Comparing.{itself}
use Rattle.hierarchy.specs.Units.{UnitPath, same_unit}

-- a unit tests as itself
pub unit_itself : (u : UnitPath) → same_unit u u ≡ true
unit_itself [] = refl
unit_itself (l ∷ u) =
    let a = itself l.name in
    let b = itself l.body in
    let c = unit_itself u in
    ap (λ (z : Bool). z && ((l.body == l.body) && same_unit u u)) a ∙ (ap (λ (z : Bool). z && same_unit u u) b ∙ c)
