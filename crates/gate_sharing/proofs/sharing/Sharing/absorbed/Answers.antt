use Rattle.std.proofs.Common.{◌+◌, ◌++◌, List, false, Ok, drop, get_or, sym, ap, ◌∙◌, subst}
use Rattle.eq_core.specs.Views.{operand_of}
use Rattle.eq_core.proofs.Telling.{grows_on}
use Rattle.gate_sharing.specs.declared.literals.Literal.{Literal}
use Rattle.gate_sharing.specs.declared.literals.Literal.TheVariants as l
use Rattle.gate_sharing.specs.Absorbing.{AddsBeside}
use Rattle.gate_sharing.specs.Literals.{literal_of, literal_operands}
use Rattle.gate_sharing.proofs.Absorbings.{Absorbing, literal_below, rest_all, absorbing_passes, absorbing_never, absorbing_keeps}
use Rattle.gate_sharing.proofs.sharing.Sharing.absorbed.Goals as goal
use Rattle.gate_sharing.proofs.sharing.Sharing.absorbed.Goals.{in-Always, in-Event+in_ok-push-in-Event, in-Gate+in_ok-push-in-Gate}

pub beside-requires : goal.beside-requires
beside-requires c = record {
  literal = literal_below _ c.args.literals.now c.loop-place.place (l.Event 0 false) c.loop-place-test.true c.loop-place.invariant.all_below;
}

pub returns-in-Never : goal.returns-in-Never
returns-in-Never c =
    let ls = c.args.literals.now in
    let i = c.loop-place.place in
    let kept = c.loop-place.kept.items in
    let d = l.Event 0 false in
    let b = subst (λ (z : List Literal). AddsBeside (literal_operands (z ++ drop (i + 1) ls)) (literal_of (get_or ls i d)) c.loop-place.self
    c.beside.new.self (Ok c.in_ok-beside.field-0)) c.deref.ensures.value
    (subst (λ (z : List Literal). AddsBeside (literal_operands (c.deref.result.now ++ z)) (literal_of (get_or ls i d)) c.loop-place.self
    c.beside.new.self (Ok c.in_ok-beside.field-0)) (rest_all ls (i + 1)) c.in_ok-beside.ensures) in
    record {
      grows = grows_on c.loop-place.invariant.grows b.grows;
      left = absorbing_never ls c.args.self.now c.loop-place.self c.beside.new.self i kept d c.loop-place-test.true
          c.loop-place.invariant c.in_ok-beside.field-0 b c.in-Never.is;
    }

pub loop-place-preserved : goal.loop-place-preserved
loop-place-preserved c =
    let ls = c.args.literals.now in
    let i = c.loop-place.place in
    let old = c.args.self.now in
    let new = c.loop-place.self in
    let more = c.beside.new.self in
    let kept = c.loop-place.kept.items in
    let d = l.Event 0 false in
    let r = c.in_ok-beside.field-0 in
    let b = subst (λ (z : List Literal). AddsBeside (literal_operands (z ++ drop (i + 1) ls)) (literal_of (get_or ls i d)) new
    more (Ok r)) c.deref.ensures.value
    (subst (λ (z : List Literal). AddsBeside (literal_operands (c.deref.result.now ++ z)) (literal_of (get_or ls i d)) c.loop-place.self
    c.beside.new.self (Ok c.in_ok-beside.field-0)) (rest_all ls (i + 1)) c.in_ok-beside.ensures) in
    elim c.match-branch-2.branch [
      | in-Always w ↦ subst (λ (z : List Literal). Absorbing ls old more (i + 1) z) (sym (ap (λ v. v.items) w.kept-is))
          (absorbing_passes ls old new more i kept d c.loop-place-test.true c.loop-place.invariant r b w.in-Always.is)
      | in-Event+in_ok-push-in-Event w ↦ absorbing_keeps ls old new more i kept d c.loop-place-test.true c.loop-place.invariant r b
          (l.Event w.in-Event.event.n w.in-Event.sign) c.match-branch-2.kept.items (ap operand_of w.in-Event.is)
          (ap (λ v. v.items) w.kept-is ∙ w.in_ok-push-in-Event.ensures.items)
      | in-Gate+in_ok-push-in-Gate w ↦ absorbing_keeps ls old new more i kept d c.loop-place-test.true c.loop-place.invariant r b
          (l.Gate w.in-Gate.gate.n w.in-Gate.sign) c.match-branch-2.kept.items (ap operand_of w.in-Gate.is)
          (ap (λ v. v.items) w.kept-is ∙ w.in_ok-push-in-Gate.ensures.items)
    ]
