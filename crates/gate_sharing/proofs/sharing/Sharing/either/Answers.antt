use Rattle.std.proofs.Common.{List, [], ◌∷◌, Ok, ap₂, subst}
use Rattle.eq_core.specs.Gates.{Operand}
use Rattle.eq_core.specs.Views.{operand_of}
use Rattle.gate_sharing.specs.Literals.{literal_of}
use Rattle.gate_sharing.specs.Sharing.{AddsGates}
use Rattle.gate_sharing.proofs.Voting.{either_made}
use Rattle.gate_sharing.proofs.sharing.Sharing.either.Goals as goal

pub returns : goal.returns
returns c =
    let both = c.in_ok-both.both in
    let larger = operand_of c.args.larger in
    let smaller = operand_of c.args.smaller in
    either_made c.args.self.now c.both.new.self c.both-2.new.self (literal_of c.args.test) larger smaller
    both c.in_ok-neither.neither c.negated-3.result c.requires.test c.requires.larger c.requires.smaller
    (subst (λ (z : Operand). AddsGates (z ∷ larger ∷ []) c.args.self.now c.both.new.self (Ok both)) c.operand.ensures c.in_ok-both.ensures)
    (subst (λ (z : List Operand). AddsGates z c.both.new.self c.both-2.new.self (Ok c.in_ok-neither.neither))
    (ap₂ (λ (x y : Operand). x ∷ y ∷ []) c.negated.ensures c.negated-2.ensures) c.in_ok-neither.ensures)
    c.negated-3.ensures
