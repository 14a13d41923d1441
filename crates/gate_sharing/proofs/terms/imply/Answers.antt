use Rattle.std.proofs.Common.{◌≡◌, ◌++◌, List, MatchOption, sym, ap, ◌∙◌, subst}
use Rattle.gate_sharing.specs.declared.literals.Literal.{Literal}
use Rattle.gate_sharing.specs.Literals.{literal_operands, AreEnough, AreNeverAll}
use Rattle.gate_sharing.proofs.Sharings.{one_key}
use Rattle.gate_sharing.proofs.Terming.{among_so}
use Rattle.gate_sharing.proofs.terms.imply.Goals as goal

pub returns : goal.returns
returns c = λ yes.
    let these = c.args.these.now in
    let those = c.args.those.now in
    let few = c.in-Some.few.all.items in
    let more = c.in-Some-2.more.all.items in
    let all : c.deref.result.now ≡ these ++ those =
    c.deref.ensures.value ∙ c.in_ok-extend_from_slice.ensures.items ∙ ap (λ (z : List Literal). z ++ those) c.in_ok-all.ensures.items in
    let a : AreEnough (literal_operands these) (literal_operands few) =
    subst (λ z. MatchOption z (AreNeverAll (literal_operands these)) (λ key. AreEnough (literal_operands these) (literal_operands key.all.items)))
    c.in-Some.is c.in_ok-few.ensures in
    let b : AreEnough (literal_operands c.deref.result.now) (literal_operands more) =
    subst (λ z. MatchOption z (AreNeverAll (literal_operands c.deref.result.now))
    (λ key. AreEnough (literal_operands c.deref.result.now) (literal_operands key.all.items))) c.in-Some-2.is c.in_ok-more.ensures in
    among_so these those few more a
    (subst (λ (z : List Literal). AreEnough (literal_operands z) (literal_operands more)) all b)
    (one_key few more (sym c.eq.ensures ∙ yes))
