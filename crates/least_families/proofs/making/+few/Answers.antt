use Rattle.std.proofs.Common.{◌≡◌, ℕ, Option, Some, refl, sym, ap, ◌∙◌, subst, arith}
use Rattle.std.proofs.lemmas.Result.{err_from_is_err_and}
use Rattle.zdd_nodes.specs.Nodes.{Stored, family, IsNode}
use Rattle.diagram_steps.proofs.Growing.{extends_by}
use Rattle.least_families.specs.declared.memo.Operation.TheVariants.{Few}
use Rattle.least_families.specs.Least.{covers}
use Rattle.least_families.specs.Kept.{IsLeastOf}
use Rattle.least_families.proofs.Held.{keeps_none, keeps_then, keeps_by, keeps_more, handed}
use Rattle.least_families.proofs.Steps.{falls, small_least, none_least, spent, few_operands, few_lo_above, few_hi_above, few_made, few_result}
use Rattle.least_families.proofs.making.+few.Goals as goal

some_left : (most : ℕ) → (most ≡ 0 → ⊥) → Some most ≡ Some 0 → ⊥
some_left most n e = let same : most ≡ 0 = cc in n same

pub returns-in_default-clause-kept : goal.returns-in_default-clause-kept
returns-in_default-clause-kept t c = keeps_none c.args.ops.now c.args.memo.now c.requires.held

pub returns-in_default-clause-least : goal.returns-in_default-clause-least
returns-in_default-clause-least t c = record {
  in_store = c.requires.operand.in_store;
  least = small_least (Some c.args.most) c.args.ops.now.families c.args.f.n c.in_default.ensures.halves
      c.requires.operand.apart;
}

pub returns-then-most-eq0-clause-kept : goal.returns-then-most-eq0-clause-kept
returns-then-most-eq0-clause-kept t c = keeps_none c.args.ops.now c.args.memo.now c.requires.held

pub returns-then-most-eq0-clause-least : goal.returns-then-most-eq0-clause-least
returns-then-most-eq0-clause-least t c =
    let zero_is = c.new.ensures in
    subst (λ m. IsLeastOf (Some m) (covers (family c.args.ops.now c.args.f.n)) c.args.ops.now c.new.result.n)
    (sym c.if-most-eq0.true)
    (record {
      in_store = omega (arith, zero_is);
      least = none_least (Some 0) (covers (family c.args.ops.now c.args.f.n)) (family c.args.ops.now c.new.result.n)
          (ap (λ n. family c.args.ops.now n) zero_is)
          (spent c.args.ops.now.families c.args.f.n c.in-Some.event.n c.in-Some.f0.n c.in-Some.f1.n
          (subst (λ (z : Stored). IsNode z.families c.args.f.n c.in-Some.event.n c.in-Some.f0.n c.in-Some.f1.n) c.store.ensures.same c.in-Some.ensures.halves) c.requires.operand.apart);
    })

pub returns-in-Some-recall-clause-kept : goal.returns-in-Some-recall-clause-kept
returns-in-Some-recall-clause-kept t c = keeps_none c.args.ops.now c.args.memo.now c.requires.held

pub returns-in-Some-recall-clause-least : goal.returns-in-Some-recall-clause-least
returns-in-Some-recall-clause-least t c =
    let i = c.requires.held.each (Few c.args.f c.args.most) c.in-Some-recall.number
    (sym c.recall.ensures ∙ c.in-Some-recall.is) in
    record { in_store = i.in_store; least = i.is }

pub few-requires : goal.few-requires
few-requires t c =
    let o = few_operands c.args.ops.now c.args.ops.now c.args.f.n c.in-Some.event.n c.in-Some.f0.n c.in-Some.f1.n
    (subst (λ (z : Stored). IsNode z.families c.args.f.n c.in-Some.event.n c.in-Some.f0.n c.in-Some.f1.n) c.store.ensures.same c.in-Some.ensures.halves) c.requires.operand (keeps_none c.args.ops.now c.args.memo.now c.requires.held).grows in (
      falls _ _ t c.in-Some.ensures.halves.lo_before c.decreases,
      (o.0, c.requires.held),
    )

pub few-requires-2 : goal.few-requires-2
few-requires-2 t c =
    let o = few_operands c.args.ops.now c.few.new.ops c.args.f.n c.in-Some.event.n c.in-Some.f0.n c.in-Some.f1.n
    (subst (λ (z : Stored). IsNode z.families c.args.f.n c.in-Some.event.n c.in-Some.f0.n c.in-Some.f1.n) c.store.ensures.same c.in-Some.ensures.halves) c.requires.operand c.in_ok-lo.ensures.kept.grows in (
      falls _ _ t c.in-Some.ensures.halves.hi_before c.decreases,
      (o.1, c.in_ok-lo.ensures.kept.held),
    )

pub returns-in_err-hi-clause-kept : goal.returns-in_err-hi-clause-kept
returns-in_err-hi-clause-kept t c =
    keeps_then c.args.ops.now c.few.new.ops c.few-2.new.ops c.few.new.memo c.few-2.new.memo c.in_ok-lo.ensures.kept
    c.in_err-hi.ensures.kept

pub node-requires-clause-lo_above : goal.node-requires-clause-lo_above
node-requires-clause-lo_above t c =
    few_lo_above c.args.ops.now c.few.new.ops c.few-2.new.ops (Some c.args.most) c.args.f.n c.in-Some.event.n
    c.in-Some.f0.n c.in-Some.f1.n c.in_ok-lo.lo.n c.in_ok-hi.hi.n (subst (λ (z : Stored). IsNode z.families c.args.f.n c.in-Some.event.n c.in-Some.f0.n c.in-Some.f1.n) c.store.ensures.same c.in-Some.ensures.halves) c.requires.operand.in_store
    (some_left c.args.most c.if-most-eq0.false) c.in_ok-lo.ensures.kept.grows c.in_ok-hi.ensures.kept.grows
    c.in_ok-lo.ensures.least c.in_ok-hi.ensures.least

pub node-requires-clause-hi_above : goal.node-requires-clause-hi_above
node-requires-clause-hi_above t c =
    few_hi_above c.args.ops.now c.few.new.ops c.few-2.new.ops (Some c.args.most) c.args.f.n c.in-Some.event.n
    c.in-Some.f0.n c.in-Some.f1.n c.in_ok-lo.lo.n c.in_ok-hi.hi.n (subst (λ (z : Stored). IsNode z.families c.args.f.n c.in-Some.event.n c.in-Some.f0.n c.in-Some.f1.n) c.store.ensures.same c.in-Some.ensures.halves) c.requires.operand.in_store
    (some_left c.args.most c.if-most-eq0.false) c.in_ok-lo.ensures.kept.grows c.in_ok-hi.ensures.kept.grows
    c.in_ok-lo.ensures.least c.in_ok-hi.ensures.least

pub returns-in_err-made-clause-kept : goal.returns-in_err-made-clause-kept
returns-in_err-made-clause-kept t c =
    keeps_by _ c.args.ops.now c.few-2.new.ops c.node.new.self c.few-2.new.memo
    (keeps_then c.args.ops.now c.few.new.ops c.few-2.new.ops c.few.new.memo c.few-2.new.memo c.in_ok-lo.ensures.kept
    c.in_ok-hi.ensures.kept) c.in_err-made.ensures.drawn.grows

pub returns-clause-kept : goal.returns-clause-kept
returns-clause-kept t c =
    let s = c.args.ops.now in
    let u = c.few-2.new.ops in
    let z = c.node.new.self in
    let kept = keeps_by _ s u z c.few-2.new.memo
    (keeps_then s c.few.new.ops u c.few.new.memo c.few-2.new.memo c.in_ok-lo.ensures.kept c.in_ok-hi.ensures.kept)
    c.in_ok-made.ensures.drawn.grows in
    let made = few_made s c.few.new.ops u (Some c.args.most) c.args.f.n c.in-Some.event.n
    c.in-Some.f0.n c.in-Some.f1.n c.in_ok-lo.lo.n c.in_ok-hi.hi.n (subst (λ (z : Stored). IsNode z.families c.args.f.n c.in-Some.event.n c.in-Some.f0.n c.in-Some.f1.n) c.store.ensures.same c.in-Some.ensures.halves) c.requires.operand.in_store
    (some_left c.args.most c.if-most-eq0.false) c.in_ok-lo.ensures.kept.grows c.in_ok-hi.ensures.kept.grows
    c.in_ok-lo.ensures.least c.in_ok-hi.ensures.least z c.in_ok-made.made.n c.requires.operand.apart
    c.in_ok-made.ensures.drawn.ok.0 c.in_ok-made.ensures.drawn.ok.1 in
    keeps_more s z (Few c.args.f c.args.most) c.in_ok-made.made c.few-2.new.memo c.remember.new.self kept
    (few_result s z c.args.f c.args.most c.in_ok-made.made.n kept.grows c.requires.operand.in_store made)
    c.remember.ensures.entry

pub returns-clause-least : goal.returns-clause-least
returns-clause-least t c =
    let made = few_made c.args.ops.now c.few.new.ops c.few-2.new.ops (Some c.args.most) c.args.f.n c.in-Some.event.n
    c.in-Some.f0.n c.in-Some.f1.n c.in_ok-lo.lo.n c.in_ok-hi.hi.n (subst (λ (z : Stored). IsNode z.families c.args.f.n c.in-Some.event.n c.in-Some.f0.n c.in-Some.f1.n) c.store.ensures.same c.in-Some.ensures.halves) c.requires.operand.in_store
    (some_left c.args.most c.if-most-eq0.false) c.in_ok-lo.ensures.kept.grows c.in_ok-hi.ensures.kept.grows
    c.in_ok-lo.ensures.least c.in_ok-hi.ensures.least c.node.new.self c.in_ok-made.made.n c.requires.operand.apart
    c.in_ok-made.ensures.drawn.ok.0 c.in_ok-made.ensures.drawn.ok.1 in
    handed (Some c.args.most) (covers (family c.args.ops.now c.args.f.n)) c.node.new.self c.in_ok-made.made
    c.remember.result made c.remember.ensures.number
