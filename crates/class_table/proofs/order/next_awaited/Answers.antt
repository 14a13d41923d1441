use Rattle.std.proofs.Common.{◌≡◌, ℕ, ◌-◌, inl, inr, true, false, List, length, take, slice_get, Some, refl, sym, ap, ◌∙◌, subst}
use Rattle.ar_base.specs.Lists.{Stands, IsOneOf}
use Rattle.ar_base.proofs.Standing.{stands_get, stands_one}
use Rattle.ar_base.proofs.Truths.{not_both}
use Rattle.class_table.proofs.Taken.{last_or_before, stands_take}
use Rattle.class_table.proofs.Ordered.{is_true}
use Rattle.class_table.proofs.order.next_awaited.Goals as goal

last_is : (items seen : List ℕ) (last : ℕ) → seen ≡ items → slice_get seen (length seen - 1) ≡ Some last
    → Stands items (length items - 1) last
last_is items seen last is p = subst (λ (l : List ℕ). Stands l (length l - 1) last) is p

pub bounds-placed-place : goal.bounds-placed-place
bounds-placed-place c =
    let at = last_is c.loop-body.row.items c.deref.result.now c.in-Some.body c.deref.ensures.value
    (sym c.last.ensures.value ∙ sym c.copied.ensures ∙ c.in-Some.is) in
    c.requires c.in-Some.body (c.loop-body.invariant.fewer c.in-Some.body
    (record { place = length c.loop-body.row.items - 1; stands = at }))

pub loop-body-preserved : goal.loop-body-preserved
loop-body-preserved c =
    let items = c.loop-body.row.items in
    let at = last_is items c.deref.result.now c.in-Some.body c.deref.ensures.value
    (sym c.last.ensures.value ∙ sym c.copied.ensures ∙ c.in-Some.is) in
    let low = c.requires c.in-Some.body (c.loop-body.invariant.fewer c.in-Some.body
    (record { place = length items - 1; stands = at })) in
    let placed : Stands c.args.placed.now c.in-Some.body true =
    is_true c.args.placed.now c.in-Some.body _ false low refl c.if-not-placed-place.false in
    let rest : c.pop.new.self.items ≡ take (length items - 1) items =
    c.pop.ensures.rest ∙ ap (λ (n : ℕ). take (n - 1) items) c.loop-body.row.ok.0 in
    record {
      fewer = λ b one. let o = subst (λ (l : List ℕ). IsOneOf l b) rest one in
          c.loop-body.invariant.fewer b
          (record { place = o.place; stands = stands_take items (length items - 1) o.place b o.stands });
      kept = λ b one. elim (c.loop-body.invariant.kept b one) [
        | inl p ↦ inl p
        | inr there ↦ elim (last_or_before items c.in-Some.body b at there) [
          | inl is ↦ inl (subst (λ (k : ℕ). Stands c.args.placed.now k true) (sym is) placed)
          | inr before ↦ inr (subst (λ (l : List ℕ). IsOneOf l b) (sym rest) before)
        ]
      ];
    }

pub loop-body-init : goal.loop-body-init
loop-body-init c = record { fewer = λ b one. one; kept = λ b one. inr one }

pub returns-then-not-placed-place-clause-some : goal.returns-then-not-placed-place-clause-some
returns-then-not-placed-place-clause-some c =
    let items = c.loop-body.row.items in
    let at = last_is items c.deref.result.now c.in-Some.body c.deref.ensures.value
    (sym c.last.ensures.value ∙ sym c.copied.ensures ∙ c.in-Some.is) in
    let there = c.loop-body.invariant.fewer c.in-Some.body (record { place = length items - 1; stands = at }) in
    let low = c.requires c.in-Some.body there in (
      there,
      λ s. not_both _ c.if-not-placed-place.true
          (stands_one c.args.placed.now c.in-Some.body _ true (stands_get c.args.placed.now c.in-Some.body false low) s),
    )

pub returns-then-not-placed-place-clause-fewer : goal.returns-then-not-placed-place-clause-fewer
returns-then-not-placed-place-clause-fewer c = c.loop-body.invariant.fewer

pub returns-then-not-placed-place-clause-kept : goal.returns-then-not-placed-place-clause-kept
returns-then-not-placed-place-clause-kept c = c.loop-body.invariant.kept

pub returns-clause-fewer : goal.returns-clause-fewer
returns-clause-fewer c = c.loop-body.invariant.fewer

pub returns-clause-kept : goal.returns-clause-kept
returns-clause-kept c = c.loop-body.invariant.kept
