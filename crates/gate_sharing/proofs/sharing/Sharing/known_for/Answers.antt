use Rattle.std.proofs.Common.{◌≡◌, List, Option, Some, None, IfSome, map, sym, ◌∙◌, subst}
use Rattle.std.specs.Map.{lookup}
use Rattle.eq_core.specs.Gates.{Gate}
use Rattle.eq_core.specs.Views.{gate_of, operand_of}
use Rattle.eq_core.specs.declared.joints.Operand.{Operand}
use Rattle.gate_sharing.specs.Literals.{literal_operands}
use Rattle.gate_sharing.specs.Sharing.{IsAllOf}
use Rattle.gate_sharing.specs.Known.{same_literals}
use Rattle.gate_sharing.proofs.sharing.Sharing.known_for.Goals as goal

pub returns : goal.returns
returns c =
    let key = c.args.key.now in
    let held : lookup (same_literals key) c.self.inside.known.entries ≡ c.copied.result =
    sym c.get.ensures.value ∙ sym c.copied.ensures in
    subst (λ (z : List Gate). IfSome c.copied.result (λ known. IsAllOf z (operand_of known) (literal_operands key.all.items)))
    c.self.view_is
    (found c.copied.result held)
  where
    found : (r : Option Operand) → lookup (same_literals c.args.key.now) c.self.inside.known.entries ≡ r
        → IfSome r (λ known. IsAllOf (map gate_of c.self.inside.gates.items) (operand_of known) (literal_operands c.args.key.now.all.items))
    found None e = tt
    found (Some known) e = c.self.invariant.each c.args.key.now known e
