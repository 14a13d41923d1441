use Rattle.std.proofs.Common.{◌+◌, ◌++◌, ◌∷◌, [], Bool, false, List, Vec, Global, sym, ap, ◌∙◌, subst}
use Rattle.std.proofs.lemmas.List.{map-append}
use Rattle.ar_base.specs.Lists.{Stands}
use Rattle.ar_base.specs.Numbers.{VarId}
use Rattle.ar_base.proofs.Standing.{stands_get}
use Rattle.flow_reasons.specs.Answers.{numbers_of}
use Rattle.flow_reasons.specs.Cones.{AreMembers}
use Rattle.flow_reasons.proofs.SeenLists.{members_none, members_taken, members_left}
use Rattle.flow_reasons.proofs.seeing.members.Goals as goal
use Rattle.flow_reasons.proofs.seeing.members.Goals.{then-is_seen+in_ok-push, else-is_seen}

pub loop-place-init : goal.loop-place-init
loop-place-init c = members_none c.args.seen.now (numbers_of c.new-found.result.items)
    (ap numbers_of c.new-found.ensures.items)

pub loop-place-preserved : goal.loop-place-preserved
loop-place-preserved c =
    let seen = c.args.seen.now in
    let i = c.loop-place.place in
    let old = c.loop-place.found.items in
    let P : List VarId → Type 0 = λ z. AreMembers seen (i + 1) (numbers_of z) in
    elim c.if-is_seen.branch [
      | then-is_seen+in_ok-push w ↦
          let e = ap (λ (z : Vec VarId Global). z.items) w.found-is ∙ w.in_ok-push.ensures.items in
          subst P (sym e)
          (members_taken seen i (numbers_of old) (numbers_of (old ++ w.new.result ∷ [])) c.loop-place.invariant
          (subst (λ (z : Bool). Stands seen i z) w.if-is_seen.true (stands_get seen i false c.loop-place-test.true))
          (map-append (λ (x : VarId). x.n) old (w.new.result ∷ []) ∙ ap (λ z. numbers_of old ++ z ∷ []) w.new.ensures))
      | else-is_seen w ↦
          subst P (sym (ap (λ (z : Vec VarId Global). z.items) w.found-is))
          (members_left seen i (numbers_of old) c.loop-place.invariant
          (subst (λ (z : Bool). Stands seen i z) w.if-is_seen.false (stands_get seen i false c.loop-place-test.true)))
    ]
