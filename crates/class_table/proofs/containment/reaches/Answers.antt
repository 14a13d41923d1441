use Rattle.std.proofs.Common.{rules, arith, refl, subst, sym, ap, ◌∙◌, ◌≡◌, false, replicate, length}
use Rattle.std.proofs.lemmas.List.{take_at, length-replicate}
use Rattle.class_table.proofs.MemberNames.{copied_get, copied_past, none_of}
use Rattle.ar_base.proofs.Standing.{one_here}
use Rattle.ar_base.proofs.Truths.{not_both}
use Rattle.class_table.specs.Rules.{IsWithin}
use Rattle.class_table.proofs.Searches.{search_start, search_next, search_end, search_fits, none_open, has_body}
use Rattle.class_table.proofs.containment.reaches.Goals as goal

pub loop-next-init : goal.loop-next-init
loop-next-init c = λ d known.
    let same : c.in_ok-seen.seen.items ≡ replicate (length c.args.bodies.now) false =
    c.in_ok-seen.ensures.items_if_clones_equal (search rules) in
    let many : length c.in_ok-seen.seen.items ≡ length c.args.bodies.now = ap length same ∙ length-replicate _ _ in
    let e : length c.add_one.new.seen ≡ c.in_ok-seen.seen.len =
    (let a = c.add_one.auto.seen in let b = c.deref_mut.ensures.len in let f = c.in_ok-seen.seen.ok.0 in let g = ap length c.deref_mut.ensures.value in omega arith) in
    let room : length c.add_one.new.seen ≡ length c.args.bodies.now =
    (let a = c.add_one.auto.seen in let g = ap length c.deref_mut.ensures.value in omega arith) in
    rw (take_at c.add_one.new.seen _ _ e)
    (search_start d _ _ _ _ _ _ room c.new-opened.ensures.items
    (c.in_ok-add_one.ensures (rw c.deref_mut.ensures.value (none_open _ _ _ same c.new-opened.ensures.items))))

pub loop-next-preserved : goal.loop-next-preserved
loop-next-preserved c = λ d known.
    let h = c.loop-next.invariant d known in
    let g = ap length c.deref_mut-in-loop-next.ensures.value in
    let a = c.open_inside.auto.seen in
    let e : length c.open_inside.new.seen ≡ c.loop-next.seen.len =
    (let b = c.deref_mut-in-loop-next.ensures.len in let f = c.loop-next.seen.ok.0 in omega arith) in
    let many : length c.open_inside.new.seen ≡ length c.loop-next.seen.items = omega arith in
    let v = rw c.deref.ensures.value at c.get.ensures.lookup in
    let s = sym (copied_get c.loop-next.opened.items c.loop-next.next _ v.0 v.1)
    ∙ (sym c.copied.ensures ∙ c.in-Some.is) in
    rw (take_at c.open_inside.new.seen _ _ e)
    (search_next d _ _ _ _ _ _ _ _ _ h s c.if-body-to.false many
    (c.in_ok-open_inside.ensures d known (rw c.deref_mut-in-loop-next.ensures.value h.is_seen)))

pub returns-in_default : goal.returns-in_default
returns-in_default c = λ d known.
    let h = c.loop-next.invariant d known in
    let g = rw c.deref.ensures.value at c.get.ensures.lookup in
    let e = sym c.copied.ensures ∙ none_of c.copied.result c.in_default.not-Some in
    let l = copied_past c.loop-next.opened.items c.loop-next.next _ g.0 e in
    (λ f. absurd (not_both false refl f), λ w. absurd (search_end d _ _ _ _ _ _ (has_body d _ known.as_text) c.requires l h w))

pub returns-then-body-to : goal.returns-then-body-to
returns-then-body-to c = λ d known.
    let h = c.loop-next.invariant d known in
    let g = rw c.deref.ensures.value at c.get.ensures.lookup in
    let s = sym (copied_get c.loop-next.opened.items c.loop-next.next _ g.0 g.1)
    ∙ (sym c.copied.ensures ∙ c.in-Some.is) in (
      λ f. subst (IsWithin d c.args.from) c.if-body-to.true (h.within c.in-Some.body (one_here _ c.loop-next.next _ s)),
      λ w. refl,
    )

pub returns : goal.returns
returns c = λ d known.
    let h = c.loop-next.invariant d known in
    let fits = search_fits d _ _ _ _ _ _ h in
    (λ f. absurd (not_both false refl f), λ w. absurd (search_end d _ _ _ _ _ _ (has_body d _ known.as_text) c.requires (omega arith) h w))
