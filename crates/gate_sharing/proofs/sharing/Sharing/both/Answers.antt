use Rattle.std.proofs.Common.{List, [], ◌∷◌, length, MatchOption, sym, subst}
use Rattle.eq_core.specs.Gates.{Operand}
use Rattle.eq_core.specs.Ordered.{AreBelow}
use Rattle.eq_core.specs.Views.{operand_of}
use Rattle.gate_sharing.specs.declared.literals.Literal.{Literal}
use Rattle.gate_sharing.specs.Literals.{literal_operands, AreEnough, AreNeverAll}
use Rattle.gate_sharing.proofs.Voting.{both_enough}
use Rattle.gate_sharing.proofs.sharing.Sharing.both.Goals as goal

pub simplest-requires : goal.simplest-requires
simplest-requires c =
    let os : List Operand = operand_of c.args.first ∷ operand_of c.args.second ∷ [] in
    let n = length c.args.self.now in
    let enough : AreEnough os (literal_operands c.in-Some.literals.items) =
    subst (λ z. MatchOption z (AreNeverAll os) (λ ls. AreEnough os (literal_operands ls.items))) c.in-Some.is c.in_ok-literals.ensures in
    subst (λ (z : List Literal). AreBelow n (literal_operands z)) (sym c.deref.ensures.value)
    (both_enough n (operand_of c.args.first) (operand_of c.args.second) c.in-Some.literals.items c.requires.first c.requires.second enough)
