use Rattle.std.proofs.Common.{◌&&◌, ◌≤◌, None, sym, ap, ◌∙◌, subst, arith}
use Rattle.zdd_nodes.specs.Nodes.{Stored, family, IsSoundStore}
use Rattle.diagram_steps.proofs.Growing.{extends_by}
use Rattle.least_families.specs.declared.memo.Operation.TheVariants.{Product}
use Rattle.least_families.specs.Halves.{AreLeastHalves}
use Rattle.least_families.specs.Least.{covers}
use Rattle.least_families.specs.Kept.{IsLeastOf}
use Rattle.least_families.proofs.Held.{keeps_none, keeps_then, keeps_by, keeps_more, handed}
use Rattle.least_families.proofs.Steps.{falls, operand_kept, operand_of, least_kept, f0_operand, f1_operand, g0_operand, g1_operand, product_lo_above, product_hi_above, product_made, product_result, product_zero, product_spent}
use Rattle.least_families.proofs.making.+product_least.Goals as goal

pub returns-then-f-eq0-clause-kept : goal.returns-then-f-eq0-clause-kept
returns-then-f-eq0-clause-kept t c = keeps_none c.args.ops.now c.args.memo.now c.requires.held

pub returns-then-is_spent-clause-kept : goal.returns-then-is_spent-clause-kept
returns-then-is_spent-clause-kept t c = keeps_none c.args.ops.now c.args.memo.now c.requires.held

pub returns-then-is_spent-clause-least : goal.returns-then-is_spent-clause-least
returns-then-is_spent-clause-least t c =
    let two : 2 ≤ c.args.f.n = omega (arith, c.if-f-eq0.false, c.if-f-eq1.false) in
    subst (λ o. IsLeastOf o (λ x. covers (family c.args.ops.now c.args.f.n) x && covers (family c.args.ops.now c.args.g.n) x)
    c.args.ops.now c.new-then-is_spent.result.n) (sym (c.is_spent.ensures.yes c.if-is_spent.true))
    (product_spent c.args.ops.now c.args.f.n c.args.g.n c.new-then-is_spent.result.n (subst (λ (z : Stored). IsSoundStore z) c.store.ensures.same c.store.ensures.sound)
    c.requires.first two c.new-then-is_spent.ensures)

pub returns-in-Some-clause-kept : goal.returns-in-Some-clause-kept
returns-in-Some-clause-kept t c = keeps_none c.args.ops.now c.args.memo.now c.requires.held

pub returns-in-Some-clause-least : goal.returns-in-Some-clause-least
returns-in-Some-clause-least t c =
    let i = c.requires.held.each (Product c.args.f c.args.g c.args.order) c.in-Some.number
    (sym c.recall.ensures ∙ c.in-Some.is) in
    record { in_store = i.in_store; least = i.is }

pub product_least-requires : goal.product_least-requires
product_least-requires t c =
    let s = c.args.ops.now in
    let cut = (subst (λ (z : Stored). AreLeastHalves z.families c.args.f.n c.args.g.n c.halves_of-halves.result) c.store.ensures.same c.halves_of-halves.ensures) in (
      falls _ _ t cut.less00 c.decreases,
      (
        f0_operand s c.args.f.n c.args.g.n c.halves_of-halves.result cut c.requires.first,
        (g0_operand s c.args.f.n c.args.g.n c.halves_of-halves.result cut c.requires.second, c.requires.held),
      ),
    )

pub product_least-requires-2 : goal.product_least-requires-2
product_least-requires-2 t c =
    let s = c.args.ops.now in
    let cut = (subst (λ (z : Stored). AreLeastHalves z.families c.args.f.n c.args.g.n c.halves_of-halves.result) c.store.ensures.same c.halves_of-halves.ensures) in (
      falls _ _ t cut.less11 c.decreases,
      (
        operand_kept s c.product_least.new.ops c.halves_of-halves.result.f1.n c.in_ok-lo.ensures.kept.grows (f1_operand s c.args.f.n c.args.g.n c.halves_of-halves.result cut c.requires.first),
        (operand_kept s c.product_least.new.ops c.halves_of-halves.result.g1.n c.in_ok-lo.ensures.kept.grows (g1_operand s c.args.f.n c.args.g.n c.halves_of-halves.result cut c.requires.second), c.in_ok-lo.ensures.kept.held),
      ),
    )

pub product_least-requires-3 : goal.product_least-requires-3
product_least-requires-3 t c =
    let s = c.args.ops.now in
    let cut = (subst (λ (z : Stored). AreLeastHalves z.families c.args.f.n c.args.g.n c.halves_of-halves.result) c.store.ensures.same c.halves_of-halves.ensures) in (
      falls _ _ t cut.less10 c.decreases,
      (
        operand_kept s c.product_least-2.new.ops c.halves_of-halves.result.f1.n ((keeps_then s c.product_least.new.ops c.product_least-2.new.ops c.product_least.new.memo c.product_least-2.new.memo c.in_ok-lo.ensures.kept c.in_ok-both.ensures.kept)).grows (f1_operand s c.args.f.n c.args.g.n c.halves_of-halves.result cut c.requires.first),
        (operand_kept s c.product_least-2.new.ops c.halves_of-halves.result.g0.n ((keeps_then s c.product_least.new.ops c.product_least-2.new.ops c.product_least.new.memo c.product_least-2.new.memo c.in_ok-lo.ensures.kept c.in_ok-both.ensures.kept)).grows (g0_operand s c.args.f.n c.args.g.n c.halves_of-halves.result cut c.requires.second), c.in_ok-both.ensures.kept.held),
      ),
    )

pub product_least-requires-4 : goal.product_least-requires-4
product_least-requires-4 t c =
    let s = c.args.ops.now in
    let cut = (subst (λ (z : Stored). AreLeastHalves z.families c.args.f.n c.args.g.n c.halves_of-halves.result) c.store.ensures.same c.halves_of-halves.ensures) in (
      falls _ _ t cut.less01 c.decreases,
      (
        operand_kept s c.product_least-3.new.ops c.halves_of-halves.result.f0.n ((keeps_then s c.product_least-2.new.ops c.product_least-3.new.ops c.product_least-2.new.memo c.product_least-3.new.memo (keeps_then s c.product_least.new.ops c.product_least-2.new.ops c.product_least.new.memo c.product_least-2.new.memo c.in_ok-lo.ensures.kept c.in_ok-both.ensures.kept) c.in_ok-first.ensures.kept)).grows (f0_operand s c.args.f.n c.args.g.n c.halves_of-halves.result cut c.requires.first),
        (operand_kept s c.product_least-3.new.ops c.halves_of-halves.result.g1.n ((keeps_then s c.product_least-2.new.ops c.product_least-3.new.ops c.product_least-2.new.memo c.product_least-3.new.memo (keeps_then s c.product_least.new.ops c.product_least-2.new.ops c.product_least.new.memo c.product_least-2.new.memo c.in_ok-lo.ensures.kept c.in_ok-both.ensures.kept) c.in_ok-first.ensures.kept)).grows (g1_operand s c.args.f.n c.args.g.n c.halves_of-halves.result cut c.requires.second), c.in_ok-first.ensures.kept.held),
      ),
    )

pub returns-in_err-both-clause-kept : goal.returns-in_err-both-clause-kept
returns-in_err-both-clause-kept t c =
    let s = c.args.ops.now in
    (keeps_then s c.product_least.new.ops c.product_least-2.new.ops c.product_least.new.memo c.product_least-2.new.memo c.in_ok-lo.ensures.kept c.in_err-both.ensures.kept)

pub returns-in_err-first-clause-kept : goal.returns-in_err-first-clause-kept
returns-in_err-first-clause-kept t c =
    let s = c.args.ops.now in
    (keeps_then s c.product_least-2.new.ops c.product_least-3.new.ops c.product_least-2.new.memo c.product_least-3.new.memo (keeps_then s c.product_least.new.ops c.product_least-2.new.ops c.product_least.new.memo c.product_least-2.new.memo c.in_ok-lo.ensures.kept c.in_ok-both.ensures.kept) c.in_err-first.ensures.kept)

pub returns-in_err-second-clause-kept : goal.returns-in_err-second-clause-kept
returns-in_err-second-clause-kept t c =
    let s = c.args.ops.now in
    (keeps_then s c.product_least-3.new.ops c.product_least-4.new.ops c.product_least-3.new.memo c.product_least-4.new.memo (keeps_then s c.product_least-2.new.ops c.product_least-3.new.ops c.product_least-2.new.memo c.product_least-3.new.memo (keeps_then s c.product_least.new.ops c.product_least-2.new.ops c.product_least.new.memo c.product_least-2.new.memo c.in_ok-lo.ensures.kept c.in_ok-both.ensures.kept) c.in_ok-first.ensures.kept) c.in_err-second.ensures.kept)

pub returns-in_err-either-clause-kept : goal.returns-in_err-either-clause-kept
returns-in_err-either-clause-kept t c =
    let s = c.args.ops.now in
    (keeps_then s c.product_least-4.new.ops c.union_least.new.ops c.product_least-4.new.memo c.union_least.new.memo (keeps_then s c.product_least-3.new.ops c.product_least-4.new.ops c.product_least-3.new.memo c.product_least-4.new.memo (keeps_then s c.product_least-2.new.ops c.product_least-3.new.ops c.product_least-2.new.memo c.product_least-3.new.memo (keeps_then s c.product_least.new.ops c.product_least-2.new.ops c.product_least.new.memo c.product_least-2.new.memo c.in_ok-lo.ensures.kept c.in_ok-both.ensures.kept) c.in_ok-first.ensures.kept) c.in_ok-second.ensures.kept) c.in_err-either.ensures.kept)

pub returns-in_err-upper-clause-kept : goal.returns-in_err-upper-clause-kept
returns-in_err-upper-clause-kept t c =
    let s = c.args.ops.now in
    (keeps_then s c.union_least.new.ops c.union_least-2.new.ops c.union_least.new.memo c.union_least-2.new.memo (keeps_then s c.product_least-4.new.ops c.union_least.new.ops c.product_least-4.new.memo c.union_least.new.memo (keeps_then s c.product_least-3.new.ops c.product_least-4.new.ops c.product_least-3.new.memo c.product_least-4.new.memo (keeps_then s c.product_least-2.new.ops c.product_least-3.new.ops c.product_least-2.new.memo c.product_least-3.new.memo (keeps_then s c.product_least.new.ops c.product_least-2.new.ops c.product_least.new.memo c.product_least-2.new.memo c.in_ok-lo.ensures.kept c.in_ok-both.ensures.kept) c.in_ok-first.ensures.kept) c.in_ok-second.ensures.kept) c.in_ok-either.ensures.kept) c.in_err-upper.ensures.kept)

pub union_least-requires : goal.union_least-requires
union_least-requires t c = record {
  first = operand_of _ _ c.product_least-4.new.ops c.in_ok-first.first.n
      (least_kept _ _ c.product_least-3.new.ops c.product_least-4.new.ops c.in_ok-first.first.n c.in_ok-second.ensures.kept.grows c.in_ok-first.ensures.least);
  second = operand_of _ _ c.product_least-4.new.ops c.in_ok-second.second.n c.in_ok-second.ensures.least;
  held = c.in_ok-second.ensures.kept.held;
}

pub union_least-requires-2 : goal.union_least-requires-2
union_least-requires-2 t c = record {
  first = operand_of _ _ c.union_least.new.ops c.in_ok-both.both.n
      (least_kept _ _ c.product_least-4.new.ops c.union_least.new.ops c.in_ok-both.both.n c.in_ok-either.ensures.kept.grows
      (least_kept _ _ c.product_least-3.new.ops c.product_least-4.new.ops c.in_ok-both.both.n c.in_ok-second.ensures.kept.grows
      (least_kept _ _ c.product_least-2.new.ops c.product_least-3.new.ops c.in_ok-both.both.n c.in_ok-first.ensures.kept.grows c.in_ok-both.ensures.least)));
  second = operand_of _ _ c.union_least.new.ops c.in_ok-either.either.n c.in_ok-either.ensures.least;
  held = c.in_ok-either.ensures.kept.held;
}

pub returns-in_err-hi-clause-kept : goal.returns-in_err-hi-clause-kept
returns-in_err-hi-clause-kept t c =
    let s = c.args.ops.now in
    keeps_by _ s c.union_least-2.new.ops c.without.new.self c.union_least-2.new.memo (keeps_then s c.union_least.new.ops c.union_least-2.new.ops c.union_least.new.memo c.union_least-2.new.memo (keeps_then s c.product_least-4.new.ops c.union_least.new.ops c.product_least-4.new.memo c.union_least.new.memo (keeps_then s c.product_least-3.new.ops c.product_least-4.new.ops c.product_least-3.new.memo c.product_least-4.new.memo (keeps_then s c.product_least-2.new.ops c.product_least-3.new.ops c.product_least-2.new.memo c.product_least-3.new.memo (keeps_then s c.product_least.new.ops c.product_least-2.new.ops c.product_least.new.memo c.product_least-2.new.memo c.in_ok-lo.ensures.kept c.in_ok-both.ensures.kept) c.in_ok-first.ensures.kept) c.in_ok-second.ensures.kept) c.in_ok-either.ensures.kept) c.in_ok-upper.ensures.kept) c.in_err-hi.ensures.drawn.grows

pub node-requires-clause-lo_above : goal.node-requires-clause-lo_above
node-requires-clause-lo_above t c =
    let s = c.args.ops.now in
    let cut = (subst (λ (z : Stored). AreLeastHalves z.families c.args.f.n c.args.g.n c.halves_of-halves.result) c.store.ensures.same c.halves_of-halves.ensures) in
    product_lo_above c.args.order c.one_fewer-fewer.result c.one_fewer-fewer.ensures s c.product_least.new.ops c.product_least-2.new.ops c.product_least-3.new.ops c.product_least-4.new.ops c.union_least.new.ops c.union_least-2.new.ops c.args.f.n c.args.g.n c.halves_of-halves.result cut c.in_ok-lo.lo.n c.in_ok-both.both.n c.in_ok-first.first.n c.in_ok-second.second.n c.in_ok-either.either.n c.in_ok-upper.upper.n c.in_ok-lo.ensures.kept.grows c.in_ok-both.ensures.kept.grows c.in_ok-first.ensures.kept.grows c.in_ok-second.ensures.kept.grows c.in_ok-either.ensures.kept.grows c.in_ok-upper.ensures.kept.grows c.in_ok-lo.ensures.least c.in_ok-both.ensures.least c.in_ok-first.ensures.least c.in_ok-second.ensures.least c.in_ok-either.ensures.least c.in_ok-upper.ensures.least (c.is_spent.ensures.no c.if-is_spent.false) c.without.new.self c.in_ok-hi.hi.n (extends_by _ c.union_least-2.new.ops c.without.new.self c.in_ok-hi.ensures.drawn.grows) c.in_ok-hi.ensures.drawn.ok.1

pub node-requires-clause-hi_above : goal.node-requires-clause-hi_above
node-requires-clause-hi_above t c =
    let s = c.args.ops.now in
    let cut = (subst (λ (z : Stored). AreLeastHalves z.families c.args.f.n c.args.g.n c.halves_of-halves.result) c.store.ensures.same c.halves_of-halves.ensures) in
    product_hi_above c.args.order c.one_fewer-fewer.result c.one_fewer-fewer.ensures s c.product_least.new.ops c.product_least-2.new.ops c.product_least-3.new.ops c.product_least-4.new.ops c.union_least.new.ops c.union_least-2.new.ops c.args.f.n c.args.g.n c.halves_of-halves.result cut c.in_ok-lo.lo.n c.in_ok-both.both.n c.in_ok-first.first.n c.in_ok-second.second.n c.in_ok-either.either.n c.in_ok-upper.upper.n c.in_ok-lo.ensures.kept.grows c.in_ok-both.ensures.kept.grows c.in_ok-first.ensures.kept.grows c.in_ok-second.ensures.kept.grows c.in_ok-either.ensures.kept.grows c.in_ok-upper.ensures.kept.grows c.in_ok-lo.ensures.least c.in_ok-both.ensures.least c.in_ok-first.ensures.least c.in_ok-second.ensures.least c.in_ok-either.ensures.least c.in_ok-upper.ensures.least (c.is_spent.ensures.no c.if-is_spent.false) c.without.new.self c.in_ok-hi.hi.n (extends_by _ c.union_least-2.new.ops c.without.new.self c.in_ok-hi.ensures.drawn.grows) c.in_ok-hi.ensures.drawn.ok.1

pub returns-in_err-made-clause-kept : goal.returns-in_err-made-clause-kept
returns-in_err-made-clause-kept t c =
    let s = c.args.ops.now in
    keeps_by _ s c.without.new.self c.node.new.self c.union_least-2.new.memo
    (keeps_by _ s c.union_least-2.new.ops c.without.new.self c.union_least-2.new.memo (keeps_then s c.union_least.new.ops c.union_least-2.new.ops c.union_least.new.memo c.union_least-2.new.memo (keeps_then s c.product_least-4.new.ops c.union_least.new.ops c.product_least-4.new.memo c.union_least.new.memo (keeps_then s c.product_least-3.new.ops c.product_least-4.new.ops c.product_least-3.new.memo c.product_least-4.new.memo (keeps_then s c.product_least-2.new.ops c.product_least-3.new.ops c.product_least-2.new.memo c.product_least-3.new.memo (keeps_then s c.product_least.new.ops c.product_least-2.new.ops c.product_least.new.memo c.product_least-2.new.memo c.in_ok-lo.ensures.kept c.in_ok-both.ensures.kept) c.in_ok-first.ensures.kept) c.in_ok-second.ensures.kept) c.in_ok-either.ensures.kept) c.in_ok-upper.ensures.kept) c.in_ok-hi.ensures.drawn.grows)
    c.in_err-made.ensures.drawn.grows

pub returns-clause-kept : goal.returns-clause-kept
returns-clause-kept t c =
    let s = c.args.ops.now in
    let z = c.node.new.self in
    let cut = (subst (λ (z : Stored). AreLeastHalves z.families c.args.f.n c.args.g.n c.halves_of-halves.result) c.store.ensures.same c.halves_of-halves.ensures) in
    let kept = keeps_by _ s c.without.new.self z c.union_least-2.new.memo
    (keeps_by _ s c.union_least-2.new.ops c.without.new.self c.union_least-2.new.memo (keeps_then s c.union_least.new.ops c.union_least-2.new.ops c.union_least.new.memo c.union_least-2.new.memo (keeps_then s c.product_least-4.new.ops c.union_least.new.ops c.product_least-4.new.memo c.union_least.new.memo (keeps_then s c.product_least-3.new.ops c.product_least-4.new.ops c.product_least-3.new.memo c.product_least-4.new.memo (keeps_then s c.product_least-2.new.ops c.product_least-3.new.ops c.product_least-2.new.memo c.product_least-3.new.memo (keeps_then s c.product_least.new.ops c.product_least-2.new.ops c.product_least.new.memo c.product_least-2.new.memo c.in_ok-lo.ensures.kept c.in_ok-both.ensures.kept) c.in_ok-first.ensures.kept) c.in_ok-second.ensures.kept) c.in_ok-either.ensures.kept) c.in_ok-upper.ensures.kept) c.in_ok-hi.ensures.drawn.grows)
    c.in_ok-made.ensures.drawn.grows in
    let made = product_made c.args.order c.one_fewer-fewer.result c.one_fewer-fewer.ensures s c.product_least.new.ops c.product_least-2.new.ops c.product_least-3.new.ops c.product_least-4.new.ops c.union_least.new.ops c.union_least-2.new.ops c.args.f.n c.args.g.n c.halves_of-halves.result cut c.in_ok-lo.lo.n c.in_ok-both.both.n c.in_ok-first.first.n c.in_ok-second.second.n c.in_ok-either.either.n c.in_ok-upper.upper.n c.in_ok-lo.ensures.kept.grows c.in_ok-both.ensures.kept.grows c.in_ok-first.ensures.kept.grows c.in_ok-second.ensures.kept.grows c.in_ok-either.ensures.kept.grows c.in_ok-upper.ensures.kept.grows c.in_ok-lo.ensures.least c.in_ok-both.ensures.least c.in_ok-first.ensures.least c.in_ok-second.ensures.least c.in_ok-either.ensures.least c.in_ok-upper.ensures.least (c.is_spent.ensures.no c.if-is_spent.false) c.without.new.self c.in_ok-hi.hi.n (extends_by _ c.union_least-2.new.ops c.without.new.self c.in_ok-hi.ensures.drawn.grows) c.in_ok-hi.ensures.drawn.ok.1 z c.in_ok-made.made.n c.in_ok-made.ensures.drawn.ok.0 c.in_ok-made.ensures.drawn.ok.1 in
    keeps_more s z (Product c.args.f c.args.g c.args.order) c.in_ok-made.made c.union_least-2.new.memo c.remember.new.self kept
    (product_result s z c.args.f c.args.g c.args.order c.in_ok-made.made.n kept.grows c.requires.first.in_store
    c.requires.second.in_store made) c.remember.ensures.entry

pub returns-clause-least : goal.returns-clause-least
returns-clause-least t c =
    let s = c.args.ops.now in
    let z = c.node.new.self in
    let cut = (subst (λ (z : Stored). AreLeastHalves z.families c.args.f.n c.args.g.n c.halves_of-halves.result) c.store.ensures.same c.halves_of-halves.ensures) in
    let made = product_made c.args.order c.one_fewer-fewer.result c.one_fewer-fewer.ensures s c.product_least.new.ops c.product_least-2.new.ops c.product_least-3.new.ops c.product_least-4.new.ops c.union_least.new.ops c.union_least-2.new.ops c.args.f.n c.args.g.n c.halves_of-halves.result cut c.in_ok-lo.lo.n c.in_ok-both.both.n c.in_ok-first.first.n c.in_ok-second.second.n c.in_ok-either.either.n c.in_ok-upper.upper.n c.in_ok-lo.ensures.kept.grows c.in_ok-both.ensures.kept.grows c.in_ok-first.ensures.kept.grows c.in_ok-second.ensures.kept.grows c.in_ok-either.ensures.kept.grows c.in_ok-upper.ensures.kept.grows c.in_ok-lo.ensures.least c.in_ok-both.ensures.least c.in_ok-first.ensures.least c.in_ok-second.ensures.least c.in_ok-either.ensures.least c.in_ok-upper.ensures.least (c.is_spent.ensures.no c.if-is_spent.false) c.without.new.self c.in_ok-hi.hi.n (extends_by _ c.union_least-2.new.ops c.without.new.self c.in_ok-hi.ensures.drawn.grows) c.in_ok-hi.ensures.drawn.ok.1 z c.in_ok-made.made.n c.in_ok-made.ensures.drawn.ok.0 c.in_ok-made.ensures.drawn.ok.1 in
    handed c.args.order (λ x. covers (family s c.args.f.n) x && covers (family s c.args.g.n) x) z c.in_ok-made.made
    c.remember.result made c.remember.ensures.number
