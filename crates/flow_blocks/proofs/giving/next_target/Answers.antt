-- The last target is looked at, and dropped where it is passed.
use Rattle.std.proofs.Common.{◌≡◌, ℕ, ◌-◌, ◌⊎◌, Bool, true, false, true≢false, inl, inr, List, length, take, slice_get, Some, sym, ap, ◌∙◌, subst}
use Rattle.ar_base.specs.Lists.{Stands, IsOneOf}
use Rattle.ar_base.proofs.Standing.{stands_get, stands_one}
use Rattle.flow_blocks.specs.Waits.{WasGiven}
use Rattle.flow_blocks.proofs.UseLemmas.{one_of_all, last_or_before}
use Rattle.flow_blocks.proofs.giving.next_target.Goals as goal
use Rattle.flow_blocks.proofs.giving.next_target.Goals.{else-target-class-via-then-target-class+else-not-given-target, else-target-class-via-else-target-class}

last_is : (items seen : List ℕ) (target : ℕ) → seen ≡ items → slice_get seen (length seen - 1) ≡ Some target
    → Stands items (length items - 1) target
last_is items seen target is p = subst (λ (l : List ℕ). Stands l (length l - 1) target) is p

pub bounds-given-target : goal.bounds-given-target
bounds-given-target c =
    let at = last_is c.loop-target.targets.items c.deref.result.now c.in-Some.target c.deref.ensures.value
    (sym c.last.ensures.value ∙ sym c.copied.ensures ∙ c.in-Some.is) in
    c.requires c.in-Some.target (c.loop-target.invariant.fewer c.in-Some.target
    (record { place = length c.loop-target.targets.items - 1; stands = at }))

pub returns-then-not-given-target-clause-some : goal.returns-then-not-given-target-clause-some
returns-then-not-given-target-clause-some c =
    let at = last_is c.loop-target.targets.items c.deref.result.now c.in-Some.target c.deref.ensures.value
    (sym c.last.ensures.value ∙ sym c.copied.ensures ∙ c.in-Some.is) in
    let one = c.loop-target.invariant.fewer c.in-Some.target
    (record { place = length c.loop-target.targets.items - 1; stands = at }) in
    let free = stands_get c.args.given.now c.in-Some.target false (c.requires c.in-Some.target one) in (
      one,
      c.if-target-class.true,
      λ was. true≢false (stands_one c.args.given.now c.in-Some.target _ _ was free ∙ c.if-not-given-target.true),
    )

pub loop-target-preserved : goal.loop-target-preserved
loop-target-preserved c =
    let at = last_is c.loop-target.targets.items c.deref.result.now c.in-Some.target c.deref.ensures.value
    (sym c.last.ensures.value ∙ sym c.copied.ensures ∙ c.in-Some.is) in
    let one = c.loop-target.invariant.fewer c.in-Some.target
    (record { place = length c.loop-target.targets.items - 1; stands = at }) in
    let passed : (c.in-Some.target ≡ c.args.class) ⊎ WasGiven c.args.given.now c.in-Some.target =
    elim c.else-target-class.branch [
      | else-target-class-via-then-target-class+else-not-given-target w ↦
          inr (subst (λ (z : Bool). Stands c.args.given.now c.in-Some.target z) w.if-not-given-target.false
          (stands_get c.args.given.now c.in-Some.target false (c.requires c.in-Some.target one)))
      | else-target-class-via-else-target-class w ↦ inl w.if-target-class.false
    ] in
    let rest : c.pop.new.self.items ≡ take (length c.loop-target.targets.items - 1) c.loop-target.targets.items =
    c.pop.ensures.rest ∙ ap (λ (n : ℕ). take (n - 1) c.loop-target.targets.items) c.loop-target.targets.ok.0 in
    record {
      fewer = λ d one. c.loop-target.invariant.fewer d
          (one_of_all c.loop-target.targets.items (length c.loop-target.targets.items - 1) d
          (subst (λ (l : List ℕ). IsOneOf l d) rest one));
      kept = λ d one. elim (c.loop-target.invariant.kept d one) [
        | inl same ↦ inl same
        | inr more ↦ elim more [
          | inl g ↦ inr (inl g)
          | inr there ↦ elim (last_or_before c.loop-target.targets.items c.in-Some.target d at there) [
            | inl is ↦ elim passed [
              | inl own ↦ inl (is ∙ own)
              | inr g ↦ inr (inl (subst (λ (k : ℕ). WasGiven c.args.given.now k) (sym is) g))
            ]
            | inr before ↦ inr (inr (subst (λ (l : List ℕ). IsOneOf l d) (sym rest) before))
          ]
        ]
      ];
    }
