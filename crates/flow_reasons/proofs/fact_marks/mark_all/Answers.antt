use Rattle.std.proofs.Common.{◌<◌, ◌+◌, ℕ, List, [], take, set, length, get_or, rules, sym, ap, ◌∙◌, subst, arith}
use Rattle.ar_base.proofs.Standing.{stands_get, one_here, stands_item}
use Rattle.flow_reasons.specs.declared.fact_marks.Mark.{Mark}
use Rattle.flow_reasons.specs.declared.fact_marks.Mark.TheVariants.{Added}
use Rattle.flow_reasons.specs.FactMarks.{MarksAll}
use Rattle.flow_reasons.proofs.Marking.{target_below, open_from, not_open, marks_none, marks_left, marks_taken, marks_done}
use Rattle.flow_reasons.proofs.fact_marks.mark_all.Goals as goal
use Rattle.flow_reasons.proofs.fact_marks.mark_all.Goals.{then-not-is_known+in_ok-push, else-not-is_known}

pub loop-n-init : goal.loop-n-init
loop-n-init c =
    subst (λ (z : List ℕ). MarksAll c.args.parts.now [] c.args.round c.args.marks.now c.args.marks.now z)
    (sym c.new-fresh.ensures.items)
    (marks_none c.args.parts.now c.args.round c.args.marks.now c.args.bringing.now)

pub index-requires : goal.index-requires
index-requires c =
    let xs = c.args.bringing.now in
    let i = c.loop-n.n-index in
    let h = c.requires.inside (get_or xs i 0) (one_here xs i (get_or xs i 0) (stands_get xs i 0 c.loop-n-test.true)) in search (rules, h)

pub bounds-marks-target : goal.bounds-marks-target
bounds-marks-target c =
    let xs = c.args.bringing.now in
    let i = c.loop-n.n-index in
    let h = c.requires.inside (get_or xs i 0) (one_here xs i (get_or xs i 0) (stands_get xs i 0 c.loop-n-test.true)) in
    let t = target_below c.args.parts.now c.requires.sound (get_or xs i 0) c.index.result.now
    (stands_item c.args.parts.now.assigns.items (get_or xs i 0) c.index.result.now h c.index.ensures) in
    omega (arith, t, c.requires.marks, c.loop-n.invariant.long)

pub loop-n-preserved : goal.loop-n-preserved
loop-n-preserved c =
    let p = c.args.parts.now in
    let xs = c.args.bringing.now in
    let i = c.loop-n.n-index in
    let a = c.index.result.now in
    let marks = c.loop-n.marks in
    let fresh = c.loop-n.fresh.items in
    let h = c.requires.inside (get_or xs i 0) (one_here xs i (get_or xs i 0) (stands_get xs i 0 c.loop-n-test.true)) in
    let st = stands_item p.assigns.items (get_or xs i 0) a h c.index.ensures in
    let t = target_below p c.requires.sound (get_or xs i 0) a st in
    let inside : a.target.n < length marks = omega (arith, t, c.requires.marks, c.loop-n.invariant.long) in
    let P : List Mark → List ℕ → Type 0 = λ y z. MarksAll p (take (i + 1) xs) c.args.round c.args.marks.now y z in
    elim c.if-not-is_known.branch [
      | then-not-is_known+in_ok-push w ↦
          let o = open_from marks a.target.n inside (sym c.is_known.ensures ∙ w.if-not-is_known.true) in
          let new : List Mark = set marks a.target.n (Added c.args.round w.new.result) in
          subst (λ (z : List Mark). P z c.if-not-is_known.fresh.items) (sym w.marks-is)
          (subst (λ (z : List ℕ). P new z) (sym (ap (λ z. z.items) w.fresh-is ∙ w.in_ok-push.ensures.items))
          (marks_taken p c.args.round c.args.marks.now xs i c.requires.ascends c.loop-n-test.true a st marks fresh
          c.loop-n.invariant w.new.result w.new.ensures o inside))
      | else-not-is_known w ↦
          subst (λ (z : List Mark). P z c.if-not-is_known.fresh.items) (sym w.marks-is)
          (subst (λ (z : List ℕ). P marks z) (sym (ap (λ z. z.items) w.fresh-is))
          (marks_left p c.args.round c.args.marks.now xs i c.requires.ascends c.loop-n-test.true a st marks fresh
          c.loop-n.invariant
          (not_open marks a.target.n (sym c.is_known.ensures ∙ w.if-not-is_known.false))))
    ]

pub returns : goal.returns
returns c = marks_done c.args.parts.now c.args.round c.args.marks.now c.args.bringing.now c.loop-n.n-index
    c.loop-n.marks c.loop-n.fresh.items c.loop-n-test.false c.loop-n.invariant
