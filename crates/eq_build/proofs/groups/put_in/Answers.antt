use Rattle.std.proofs.Common.{◌≡◌, ◌<◌, ◌++◌, [], ◌∷◌, List, length, get_or, map, true, false, sym, ap, ◌∙◌, subst, arith}
use Rattle.std.proofs.lemmas.List.{get_or_default}
use Rattle.domains.specs.Values.{is_before}
use Rattle.domains.specs.Same.{is_same}
use Rattle.eq_build.specs.Entries.{Term}
use Rattle.eq_build.specs.EntriesInside.{Rises}
use Rattle.eq_build.specs.Views.{operands_in, group_of}
use Rattle.eq_build.specs.declared.groups.Group as flat
use Rattle.eq_build.proofs.GroupsRise.{term_rises}
use Rattle.eq_build.proofs.Rising.{set_same}
use Rattle.eq_build.proofs.Grouping.{same_group, Lower, put_same, put_new, neither_same, one_pushed, one_alone}
use Rattle.eq_build.proofs.groups.put_in.Goals as goal
use Rattle.eq_build.proofs.groups.put_in.Goals.{else-place-len-via-then-place-len+else-not-before, else-place-len-via-else-place-len}

pub returns-then-not-before-clause-put : goal.returns-then-not-before-clause-put
returns-then-not-before-clause-put c =
    let v = c.args.value in
    let t : Term = record { value = v; operands = operands_in c.args.operands.now } in
    let ps = c.args.groups.now.items in
    let k = c.place_of-place.result in
    let is = c.deref.ensures.value in
    let lower = subst (λ (z : List flat.Group). Lower t z k) is c.place_of-place.ensures.lower in
    let upper = subst (λ (z : List flat.Group). k < length z → (d : flat.Group)
    → is_before (get_or z k d).value v ≡ false)
    is c.place_of-place.ensures.upper in
    let l : k < length ps = omega (arith, c.if-place-len.true, c.len.ensures) in
    let p = c.index_mut-group.result.now in
    let at : p ≡ get_or ps k p = c.index_mut-group.ensures.value in
    let from : (d : flat.Group) → p ≡ get_or ps k d = λ d. at ∙ get_or_default ps k p d l in
    let q = c.index.result.now in
    let after : is_before v p.value ≡ false =
    subst (λ (z : flat.Group). is_before v z.value ≡ false) (c.index.ensures ∙ sym (from q))
    (sym c.before-then-place-len.ensures ∙ c.if-not-before.true) in
    let same : is_same p.value v ≡ true = neither_same p.value v
    (subst (λ (z : flat.Group). is_before z.value v ≡ false) (sym at) (upper l p)) after in
    let made = one_pushed p c.push.new.self c.in_ok-term.term c.args.operands.now c.in_ok-push.ensures.items
    c.in_ok-term.ensures.items in
    put_same t ps k _ l lower (λ d. subst (λ (z : flat.Group). is_same z.value v ≡ true) (from d) same)
    (λ d. subst (λ (z : flat.Group). group_of (record { value = p.value; terms = c.push.new.self }) ≡ record
    { value = z.value; terms = (group_of z).terms ++ t.operands ∷ [] }) (from d) made)

pub returns-clause-put : goal.returns-clause-put
returns-clause-put c =
    let v = c.args.value in
    let t : Term = record { value = v; operands = operands_in c.args.operands.now } in
    let ps = c.args.groups.now.items in
    let k = c.place_of-place.result in
    let is = c.deref.ensures.value in
    let lower = subst (λ (z : List flat.Group). Lower t z k) is c.place_of-place.ensures.lower in
    let upper = subst (λ (z : List flat.Group). k < length z → (d : flat.Group)
    → is_before (get_or z k d).value v ≡ false)
    is c.place_of-place.ensures.upper in
    let after : k < length ps → (d : flat.Group) → is_before v (get_or ps k d).value ≡ true =
    elim c.else-place-len.branch [
      | else-place-len-via-then-place-len+else-not-before w ↦ λ l d.
          subst (λ (z : flat.Group). is_before v z.value ≡ true)
          (w.index.ensures ∙ get_or_default ps k w.index.result.now d l)
          (sym w.before-then-place-len.ensures ∙ w.if-not-before.false)
      | else-place-len-via-else-place-len w ↦ λ l d. absurd (omega (arith, l, w.if-place-len.false, c.len.ensures))
    ] in
    let made = one_alone v c.push-2.new.self c.in_ok-term.term c.args.operands.now
    (c.in_ok-push-2.ensures.items ∙ ap (λ z. z ++ c.in_ok-term.term ∷ []) c.new-terms.ensures.items)
    c.in_ok-term.ensures.items in
    ap (map group_of) c.in_ok-insert.ensures.items
    ∙ put_new t ps k _ (omega (arith, c.place_of-place.ensures.bound, ap length is)) lower after upper made

pub returns-then-not-before-clause-rises : goal.returns-then-not-before-clause-rises
returns-then-not-before-clause-rises c =
    let t : Term = record { value = c.args.value; operands = operands_in c.args.operands.now } in
    subst Rises (sym (returns-then-not-before-clause-put c))
    (term_rises t (map group_of c.args.groups.now.items) c.requires)

pub returns-clause-rises : goal.returns-clause-rises
returns-clause-rises c =
    let t : Term = record { value = c.args.value; operands = operands_in c.args.operands.now } in
    subst Rises (sym (returns-clause-put c)) (term_rises t (map group_of c.args.groups.now.items) c.requires)

pub returns-in_err-push-clause-rises : goal.returns-in_err-push-clause-rises
returns-in_err-push-clause-rises c =
    let ps = c.args.groups.now.items in
    let k = c.place_of-place.result in
    let p = c.index_mut-group.result.now in
    let l : k < length ps = omega (arith, c.if-place-len.true, c.len.ensures) in
    let from : (d : flat.Group) → p ≡ get_or ps k d =
    λ d. c.index_mut-group.ensures.value ∙ get_or_default ps k p d l in
    let same = same_group p c.push.new.self c.in_err-push.ensures.items in
    subst Rises (sym (set_same ps k (record { value = p.value; terms = c.push.new.self }) l
    (λ d. same ∙ ap group_of (from d))))
    c.requires
