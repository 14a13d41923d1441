use Rattle.std.proofs.Common.{◌≡◌, List, true, IfSome, refl, subst}
use Rattle.eq_core.specs.Values.{joint_at}
use Rattle.gate_sharing.specs.declared.literals.Literal.{Literal}
use Rattle.gate_sharing.specs.Literals.{literal_of, literal_operands}
use Rattle.gate_sharing.specs.Votes.{AreSides}
use Rattle.gate_sharing.proofs.Voting.{implied_so}
use Rattle.gate_sharing.proofs.terms.vote_by.Goals as goal

pub returns : goal.returns
returns c =
    let with = c.in-Some.sides.with.items in
    let without = c.in-Some.sides.without.items in
    let test = literal_of c.args.test in
    record {
      test = refl;
      sides = subst (λ z. IfSome z (λ sides. AreSides test c.args.terms.now sides.with.items sides.without.items)) c.in-Some.is c.in_ok-sides.ensures;
      implied = λ set values.
          implied_so c.in_ok-rises.rises c.in_ok-falls.falls (joint_at true set values (literal_operands with))
          (joint_at true set values (literal_operands without)) c.else-not-rises.either
          (λ e. subst (λ (z : List Literal). joint_at true set values (literal_operands without) ≡ true
          → joint_at true set values (literal_operands z) ≡ true) c.deref-2.ensures.value
          (subst (λ (z : List Literal). joint_at true set values (literal_operands z) ≡ true
          → joint_at true set values (literal_operands c.deref-2.result.now) ≡ true) c.deref.ensures.value
          (c.in_ok-rises.ensures e set values)))
          (λ e. subst (λ (z : List Literal). joint_at true set values (literal_operands with) ≡ true
          → joint_at true set values (literal_operands z) ≡ true) c.deref-4.ensures.value
          (subst (λ (z : List Literal). joint_at true set values (literal_operands z) ≡ true
          → joint_at true set values (literal_operands c.deref-4.result.now) ≡ true) c.deref-3.ensures.value
          (c.in_ok-falls.ensures e set values)));
    }
