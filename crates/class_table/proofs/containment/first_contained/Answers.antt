use Rattle.ar_base.proofs.Standing.{stands_some}
use Rattle.class_table.proofs.Beside.{finds_start, finds_next, finds_end, finds_first}
use Rattle.class_table.proofs.Enclosing.{contained_to, contained_back}
use Rattle.class_table.proofs.containment.first_contained.Goals as goal

pub loop-place-init : goal.loop-place-init
loop-place-init c = λ d known. finds_start _ _ _

pub loop-place-preserved : goal.loop-place-preserved
loop-place-preserved c = λ d known.
    let s = stands_some c.args.bodies.now c.loop-place.place c.loop-place-test.true in
    let inner = c.in_ok-rows.ensures.inner d known in
    finds_next _ _ _ _ _ _ _ s.1 (c.loop-place.invariant d known)
    (c.in_ok-found.ensures d _ s.0 known inner (rw c.deref.ensures.value c.in_ok-ranks.ensures) s.1)

pub returns : goal.returns
returns c = λ d known. finds_first _ (finds_end _ _ _ _ _ _ c.loop-place-test.false (contained_to d _ known.as_text)
    (contained_back d _ known.as_text) (c.loop-place.invariant d known))
