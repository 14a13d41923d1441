use Rattle.std.proofs.Common.{◌<◌, ◌+◌, ℕ, Bool, false, List, Vec, Global, length, get_or, sym, ap, ◌∙◌, subst, arith}
use Rattle.ar_base.specs.Lists.{IsOneOf, Stands}
use Rattle.ar_base.specs.Numbers.{VarId}
use Rattle.ar_base.proofs.Standing.{stands_get, stands_map, one_here}
use Rattle.flow_reasons.specs.Answers.{numbers_of}
use Rattle.flow_reasons.specs.Cones.{SeesVariable, SeesAll}
use Rattle.std.proofs.Common.{take}
use Rattle.flow_reasons.proofs.SeenLists.{sees_none, sees_new, sees_again, sees_next, numbers_next}
use Rattle.flow_reasons.proofs.seeing.see_all.Goals as goal
use Rattle.flow_reasons.proofs.seeing.see_all.Goals.{then-not-seen-n+in_ok-push, else-not-seen-n}

-- what is read past the end
abbrev past : VarId
past = record { n = 0; of = record {} }

pub loop-variable-init : goal.loop-variable-init
loop-variable-init c = sees_none c.args.seen.now c.args.found.now.items c.requires.are

below : (xs : List VarId) (i : ℕ) (count : ℕ) → i < length xs
    → ((n : ℕ) → IsOneOf (numbers_of xs) n → n < count) → (get_or xs i past).n < count
below xs i count l each = each (get_or xs i past).n
    (one_here (numbers_of xs) i (get_or xs i past).n
    (stands_map (λ (x : VarId). x.n) xs i (get_or xs i past) (stands_get xs i past l)))

pub bounds-seen-n : goal.bounds-seen-n
bounds-seen-n c =
    let h = below c.args.variables.now c.loop-variable.variable-index (length c.args.seen.now) c.loop-variable-test.true
    c.requires.below in
    omega (arith, h, c.loop-variable.invariant.long)

pub bounds-seen-n-then-not-seen-n : goal.bounds-seen-n-then-not-seen-n
bounds-seen-n-then-not-seen-n c =
    let h = below c.args.variables.now c.loop-variable.variable-index (length c.args.seen.now) c.loop-variable-test.true
    c.requires.below in
    omega (arith, h, c.loop-variable.invariant.long)

pub loop-variable-preserved : goal.loop-variable-preserved
loop-variable-preserved c =
    let xs = c.args.variables.now in
    let i = c.loop-variable.variable-index in
    let n = (get_or xs i past).n in
    let first = c.args.seen.now in
    let start = c.args.found.now.items in
    let seen = c.loop-variable.seen in
    let found = c.loop-variable.found.items in
    let before = c.loop-variable.invariant in
    let h = below xs i (length first) c.loop-variable-test.true c.requires.below in
    let inside : n < length seen = omega (arith, h, before.long) in
    let mark = stands_get seen n false inside in
    let all = numbers_of (take (i + 1) xs) in
    let next : (last : List Bool) (more : List ℕ) → SeesVariable n seen last found more → SeesAll all first last start more =
    λ last more s. sees_next (numbers_of (take i xs)) all n first seen last start found more
    (numbers_next xs i past c.loop-variable-test.true) before s in
    let new = c.if-not-seen-n.seen in
    let grown = c.if-not-seen-n.found.items in
    elim c.if-not-seen-n.branch [
      | then-not-seen-n+in_ok-push w ↦
          next new grown (subst (λ (z : List Bool). SeesVariable n seen z found grown) (sym w.seen-is)
          (sees_new n seen found grown before.are inside
          (subst (λ (z : Bool). Stands seen n z) w.if-not-seen-n.true mark)
          (ap (λ (z : Vec ℕ Global). z.items) w.found-is ∙ w.in_ok-push.ensures.items)))
      | else-not-seen-n w ↦
          next new grown (subst (λ (z : List Bool). SeesVariable n seen z found grown) (sym w.seen-is)
          (subst (λ (z : List ℕ). SeesVariable n seen seen found z)
          (sym (ap (λ (z : Vec ℕ Global). z.items) w.found-is))
          (sees_again n seen found before.are (subst (λ (z : Bool). Stands seen n z) w.if-not-seen-n.false mark))))
    ]
