use Rattle.std.proofs.Common.{◌+◌, ℕ, List, [], take, get_or, rules, sym, ap, ◌∙◌, subst, arith}
use Rattle.ar_base.proofs.Standing.{stands_get, one_here, stands_item}
use Rattle.flow_reasons.specs.Bringing.{AreBringing}
use Rattle.ar_meaning.proofs.Found.{holds, fails}
use Rattle.flow_reasons.proofs.Marking.{target_below}
use Rattle.flow_reasons.proofs.Gathering.{bring_none, bring_taken, bring_left, bring_done}
use Rattle.flow_reasons.proofs.bringing.bringing.Goals as goal
use Rattle.flow_reasons.proofs.bringing.bringing.Goals.{then-brings+in_ok-push, else-brings}

pub loop-n-init : goal.loop-n-init
loop-n-init c = subst (λ (z : List ℕ). AreBringing c.args.parts.now c.args.values.now c.args.marks.now [] z)
    (sym c.new-found.ensures.items) (bring_none c.args.parts.now c.args.values.now c.args.marks.now c.args.among.now)

pub index-requires : goal.index-requires
index-requires c =
    let xs = c.args.among.now in
    let i = c.loop-n.n-index in
    let h = c.requires.inside (get_or xs i 0) (one_here xs i (get_or xs i 0) (stands_get xs i 0 c.loop-n-test.true)) in search (rules, h)

pub brings-requires-clause-marks : goal.brings-requires-clause-marks
brings-requires-clause-marks c =
    let xs = c.args.among.now in
    let i = c.loop-n.n-index in
    let h = c.requires.inside (get_or xs i 0) (one_here xs i (get_or xs i 0) (stands_get xs i 0 c.loop-n-test.true)) in
    let t = target_below c.args.parts.now c.requires.sound (get_or xs i 0) c.index.result.now
    (stands_item c.args.parts.now.assigns.items (get_or xs i 0) c.index.result.now h c.index.ensures) in
    omega (arith, t, c.requires.marks)

pub brings-requires-clause-values : goal.brings-requires-clause-values
brings-requires-clause-values c =
    let xs = c.args.among.now in
    let i = c.loop-n.n-index in
    let h = c.requires.inside (get_or xs i 0) (one_here xs i (get_or xs i 0) (stands_get xs i 0 c.loop-n-test.true)) in
    let t = target_below c.args.parts.now c.requires.sound (get_or xs i 0) c.index.result.now
    (stands_item c.args.parts.now.assigns.items (get_or xs i 0) c.index.result.now h c.index.ensures) in
    omega (arith, t, c.requires.values)

pub loop-n-preserved : goal.loop-n-preserved
loop-n-preserved c =
    let p = c.args.parts.now in
    let xs = c.args.among.now in
    let i = c.loop-n.n-index in
    let found = c.loop-n.found.items in
    let a = c.index.result.now in
    let h = c.requires.inside (get_or xs i 0) (one_here xs i (get_or xs i 0) (stands_get xs i 0 c.loop-n-test.true)) in
    let st = stands_item p.assigns.items (get_or xs i 0) a h c.index.ensures in
    let P : List ℕ → Type 0 = λ z. AreBringing p c.args.values.now c.args.marks.now (take (i + 1) xs) z in
    elim c.if-brings.branch [
      | then-brings+in_ok-push w ↦ subst P (sym (ap (λ z. z.items) w.found-is ∙ w.in_ok-push.ensures.items))
          (bring_taken p c.args.values.now c.args.marks.now xs found i a c.requires.ascends c.loop-n-test.true st
          c.loop-n.invariant (holds _ _ w.if-brings.true c.in_ok-brings.ensures))
      | else-brings w ↦ subst P (sym (ap (λ z. z.items) w.found-is))
          (bring_left p c.args.values.now c.args.marks.now xs found i a c.requires.ascends c.loop-n-test.true st
          c.loop-n.invariant (fails _ _ w.if-brings.false c.in_ok-brings.ensures))
    ]

pub returns : goal.returns
returns c = bring_done c.args.parts.now c.args.values.now c.args.marks.now c.args.among.now c.loop-n.found.items
    c.loop-n.n-index c.loop-n-test.false c.loop-n.invariant
