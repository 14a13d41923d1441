use Rattle.std.proofs.Common.{◌≡◌, ◌<◌, ◌+◌, ◌++◌, ◌∷◌, [], Bool, List, Vec, Global, length, get_or, true, false, not, refl, sym, ap, ◌∙◌, subst, arith}
use Rattle.std.proofs.Math.Bool.{beq}
use Rattle.ar_base.specs.Lists.{Stands}
use Rattle.ar_base.specs.Numbers.{VarId}
use Rattle.ar_base.proofs.Standing.{stands_get}
use Rattle.flow_changes.proofs.Found.{AreTurned, turned_none, turned_more, turned_same, turned_all}
use Rattle.flow_changes.proofs.changes.turned_marks.Goals as goal
use Rattle.flow_changes.proofs.changes.turned_marks.Goals.{then-old_known-place+in_ok-push, else-old_known-place}

-- what the test says of two marks
marks_differ : (a b : Bool) → not (beq a b) ≡ true → a ≡ b → ⊥
marks_differ true true h e = cc
marks_differ true false h e = cc
marks_differ false true h e = cc
marks_differ false false h e = cc

marks_same : (a b : Bool) → not (beq a b) ≡ false → a ≡ b
marks_same true true h = refl
marks_same true false h = cc
marks_same false true h = cc
marks_same false false h = refl

pub loop-place-init : goal.loop-place-init
loop-place-init c =
    let m = c.args.members.now in
    subst (λ (z : List VarId). AreTurned m 0 c.args.old_known.now c.args.known.now z)
    (sym c.new-variables.ensures.items) (turned_none m c.args.old_known.now c.args.known.now c.requires.ascend)

pub bounds-known-n : goal.bounds-known-n
bounds-known-n c =
    let m = c.args.members.now in
    let i = c.loop-place.place in
    c.requires.within (get_or m i 0) (record { place = i; stands = stands_get m i 0 c.loop-place-test.true })

pub loop-place-preserved : goal.loop-place-preserved
loop-place-preserved c =
    let m = c.args.members.now in
    let old = c.args.old_known.now in
    let new = c.args.known.now in
    let i = c.loop-place.place in
    let n = get_or m i 0 in
    let xs = c.loop-place.variables.items in
    let a = get_or old i false in
    let b = get_or new n false in
    let s : Stands m i n = stands_get m i 0 c.loop-place-test.true in
    let below : n < length new = c.requires.within n (record { place = i; stands = s }) in
    let also : i < length old = omega (arith, c.loop-place-test.true, c.requires.long) in
    let at : Stands old i a = stands_get old i false also in
    let there : Stands new n b = stands_get new n false below in
    elim c.if-old_known-place.branch [
      | then-old_known-place+in_ok-push h ↦
          let x = h.new.result in
          let variables : c.if-old_known-place.variables.items ≡ xs ++ x ∷ [] =
          ap (λ (z : Vec VarId Global). z.items) h.variables-is ∙ h.in_ok-push.ensures.items in
          let differ : a ≡ b → ⊥ = marks_differ a b h.if-old_known-place.true in
          let more : AreTurned m (i + 1) old new (xs ++ x ∷ []) =
          turned_more m old new c.requires.ascend i n xs s c.loop-place.invariant a b at there differ x
          h.new.ensures in
          subst (λ (z : List VarId). AreTurned m (i + 1) old new z) (sym variables) more
      | else-old_known-place h ↦
          let same : a ≡ b = marks_same a b h.if-old_known-place.false in
          let more : AreTurned m (i + 1) old new xs =
          turned_same m old new c.requires.ascend i n xs s c.loop-place.invariant a b at there same in
          subst (λ (z : Vec VarId Global). AreTurned m (i + 1) old new z.items) (sym h.variables-is) more
    ]

pub returns : goal.returns
returns c = turned_all c.args.members.now c.args.old_known.now c.args.known.now c.requires.ascend c.loop-place.place
    c.loop-place.variables.items c.loop-place-test.false c.loop-place.invariant
