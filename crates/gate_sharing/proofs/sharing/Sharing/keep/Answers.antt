use Rattle.std.proofs.Common.{List, map, sym, subst}
use Rattle.eq_core.specs.Gates.{Gate}
use Rattle.eq_core.specs.Views.{gate_of, operand_of}
use Rattle.eq_core.proofs.Telling.{grows_self}
use Rattle.gate_sharing.specs.Literals.{literal_operands}
use Rattle.gate_sharing.specs.Sharing.{IsAllOf}
use Rattle.gate_sharing.proofs.Sharings.{sharing_more}
use Rattle.gate_sharing.proofs.sharing.Sharing.keep.Goals as goal

pub invariant_of-self-2 : goal.invariant_of-self-2
invariant_of-self-2 c =
    let gates = map gate_of c.self.inside.gates.items in
    let all : IsAllOf gates (operand_of c.args.operand) (literal_operands c.args.key.all.items) =
    subst (λ (z : List Gate). IsAllOf z (operand_of c.args.operand) (literal_operands c.args.key.all.items)) (sym c.self.view_is) c.requires in
    sharing_more gates gates c.args.key c.args.operand c.self.inside.known.entries c.insert.new.self.entries
    (grows_self gates) c.self.invariant.ordered all c.self.invariant c.in_ok-insert.ensures.updates.0
