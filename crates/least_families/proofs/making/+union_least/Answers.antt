use Rattle.std.proofs.Common.{◌||◌, None, sym, ap, ◌∙◌, subst}
use Rattle.zdd_nodes.specs.Nodes.{Stored}
use Rattle.least_families.specs.declared.memo.Operation.TheVariants.{Union}
use Rattle.least_families.specs.Halves.{AreLeastHalves}
use Rattle.zdd_nodes.specs.Nodes.{family}
use Rattle.diagram_steps.proofs.Growing.{extends_by}
use Rattle.least_families.specs.Least.{covers}
use Rattle.least_families.proofs.Held.{keeps_none, keeps_then, keeps_by, keeps_more, handed}
use Rattle.least_families.proofs.Steps.{falls, operand_kept, f0_operand, f1_operand, g0_operand, g1_operand, union_one, union_lo_above, union_hi_above, union_made, union_result}
use Rattle.least_families.proofs.making.+union_least.Goals as goal

pub returns-in-Some-clause-kept : goal.returns-in-Some-clause-kept
returns-in-Some-clause-kept t c = keeps_none c.args.ops.now c.args.memo.now c.requires.held

pub returns-in-Some-clause-least : goal.returns-in-Some-clause-least
returns-in-Some-clause-least t c =
    union_one c.args.ops.now c.args.f.n c.args.g.n c.in-Some.number.n c.requires.first c.requires.second c.in-Some.ensures

pub returns-in-Some-recall-clause-kept : goal.returns-in-Some-recall-clause-kept
returns-in-Some-recall-clause-kept t c = keeps_none c.args.ops.now c.args.memo.now c.requires.held

pub returns-in-Some-recall-clause-least : goal.returns-in-Some-recall-clause-least
returns-in-Some-recall-clause-least t c =
    let i = c.requires.held.each (Union c.args.f c.args.g) c.in-Some-recall.number
    (sym c.recall.ensures ∙ c.in-Some-recall.is) in
    record { in_store = i.in_store; least = i.is }

pub union_least-requires : goal.union_least-requires
union_least-requires t c =
    let cut = (subst (λ (z : Stored). AreLeastHalves z.families c.args.f.n c.args.g.n c.halves_of-halves.result) c.store.ensures.same c.halves_of-halves.ensures) in (
      falls _ _ t cut.less00 c.decreases,
      (
        f0_operand c.args.ops.now c.args.f.n c.args.g.n c.halves_of-halves.result cut c.requires.first,
        (
          g0_operand c.args.ops.now c.args.f.n c.args.g.n c.halves_of-halves.result cut c.requires.second,
          c.requires.held,
        ),
      ),
    )

pub union_least-requires-2 : goal.union_least-requires-2
union_least-requires-2 t c =
    let s = c.args.ops.now in
    let cut = (subst (λ (z : Stored). AreLeastHalves z.families c.args.f.n c.args.g.n c.halves_of-halves.result) c.store.ensures.same c.halves_of-halves.ensures) in
    let grows = c.in_ok-lo.ensures.kept.grows in (
      falls _ _ t cut.less11 c.decreases,
      (
        operand_kept s c.union_least.new.ops c.halves_of-halves.result.f1.n grows
            (f1_operand s c.args.f.n c.args.g.n c.halves_of-halves.result cut c.requires.first),
        (
          operand_kept s c.union_least.new.ops c.halves_of-halves.result.g1.n grows
              (g1_operand s c.args.f.n c.args.g.n c.halves_of-halves.result cut c.requires.second),
          c.in_ok-lo.ensures.kept.held,
        ),
      ),
    )

pub returns-in_err-with-clause-kept : goal.returns-in_err-with-clause-kept
returns-in_err-with-clause-kept t c =
    keeps_then c.args.ops.now c.union_least.new.ops c.union_least-2.new.ops c.union_least.new.memo
    c.union_least-2.new.memo c.in_ok-lo.ensures.kept c.in_err-with.ensures.kept

pub returns-in_err-hi-clause-kept : goal.returns-in_err-hi-clause-kept
returns-in_err-hi-clause-kept t c =
    keeps_by _ c.args.ops.now c.union_least-2.new.ops c.without.new.self c.union_least-2.new.memo
    (keeps_then c.args.ops.now c.union_least.new.ops c.union_least-2.new.ops c.union_least.new.memo
    c.union_least-2.new.memo c.in_ok-lo.ensures.kept c.in_ok-with.ensures.kept) c.in_err-hi.ensures.drawn.grows

pub node-requires-clause-lo_above : goal.node-requires-clause-lo_above
node-requires-clause-lo_above t c =
    let cut = (subst (λ (z : Stored). AreLeastHalves z.families c.args.f.n c.args.g.n c.halves_of-halves.result) c.store.ensures.same c.halves_of-halves.ensures) in
    union_lo_above c.args.ops.now c.union_least.new.ops c.union_least-2.new.ops c.without.new.self c.args.f.n c.args.g.n
    c.halves_of-halves.result cut c.in_ok-lo.lo.n c.in_ok-with.with.n c.in_ok-hi.hi.n c.in_ok-lo.ensures.kept.grows
    c.in_ok-with.ensures.kept.grows
    (extends_by _ c.union_least-2.new.ops c.without.new.self c.in_ok-hi.ensures.drawn.grows)
    c.in_ok-lo.ensures.least c.in_ok-with.ensures.least c.in_ok-hi.ensures.drawn.ok.1

pub node-requires-clause-hi_above : goal.node-requires-clause-hi_above
node-requires-clause-hi_above t c =
    let cut = (subst (λ (z : Stored). AreLeastHalves z.families c.args.f.n c.args.g.n c.halves_of-halves.result) c.store.ensures.same c.halves_of-halves.ensures) in
    union_hi_above c.args.ops.now c.union_least.new.ops c.union_least-2.new.ops c.without.new.self c.args.f.n c.args.g.n
    c.halves_of-halves.result cut c.in_ok-lo.lo.n c.in_ok-with.with.n c.in_ok-hi.hi.n c.in_ok-lo.ensures.kept.grows
    c.in_ok-with.ensures.kept.grows
    (extends_by _ c.union_least-2.new.ops c.without.new.self c.in_ok-hi.ensures.drawn.grows)
    c.in_ok-lo.ensures.least c.in_ok-with.ensures.least c.in_ok-hi.ensures.drawn.ok.1

pub returns-in_err-made-clause-kept : goal.returns-in_err-made-clause-kept
returns-in_err-made-clause-kept t c =
    keeps_by _ c.args.ops.now c.without.new.self c.node.new.self c.union_least-2.new.memo
    (keeps_by _ c.args.ops.now c.union_least-2.new.ops c.without.new.self c.union_least-2.new.memo
    (keeps_then c.args.ops.now c.union_least.new.ops c.union_least-2.new.ops c.union_least.new.memo
    c.union_least-2.new.memo c.in_ok-lo.ensures.kept c.in_ok-with.ensures.kept) c.in_ok-hi.ensures.drawn.grows) c.in_err-made.ensures.drawn.grows

pub returns-clause-kept : goal.returns-clause-kept
returns-clause-kept t c =
    let s = c.args.ops.now in
    let z = c.node.new.self in
    let cut = (subst (λ (z : Stored). AreLeastHalves z.families c.args.f.n c.args.g.n c.halves_of-halves.result) c.store.ensures.same c.halves_of-halves.ensures) in
    let kept = keeps_by _ s c.without.new.self z c.union_least-2.new.memo
    (keeps_by _ s c.union_least-2.new.ops c.without.new.self c.union_least-2.new.memo
    (keeps_then s c.union_least.new.ops c.union_least-2.new.ops c.union_least.new.memo
    c.union_least-2.new.memo c.in_ok-lo.ensures.kept c.in_ok-with.ensures.kept) c.in_ok-hi.ensures.drawn.grows) c.in_ok-made.ensures.drawn.grows in
    let made = union_made s c.union_least.new.ops c.union_least-2.new.ops c.without.new.self c.args.f.n c.args.g.n
    c.halves_of-halves.result cut c.in_ok-lo.lo.n c.in_ok-with.with.n c.in_ok-hi.hi.n c.in_ok-lo.ensures.kept.grows
    c.in_ok-with.ensures.kept.grows
    (extends_by _ c.union_least-2.new.ops c.without.new.self c.in_ok-hi.ensures.drawn.grows)
    c.in_ok-lo.ensures.least c.in_ok-with.ensures.least c.in_ok-hi.ensures.drawn.ok.1 z c.in_ok-made.made.n
    c.in_ok-made.ensures.drawn.ok.0 c.in_ok-made.ensures.drawn.ok.1 in
    keeps_more s z (Union c.args.f c.args.g) c.in_ok-made.made c.union_least-2.new.memo c.remember.new.self kept
    (union_result s z c.args.f c.args.g c.in_ok-made.made.n kept.grows c.requires.first.in_store
    c.requires.second.in_store made) c.remember.ensures.entry

pub returns-clause-least : goal.returns-clause-least
returns-clause-least t c =
    let s = c.args.ops.now in
    let z = c.node.new.self in
    let cut = (subst (λ (z : Stored). AreLeastHalves z.families c.args.f.n c.args.g.n c.halves_of-halves.result) c.store.ensures.same c.halves_of-halves.ensures) in
    let made = union_made s c.union_least.new.ops c.union_least-2.new.ops c.without.new.self c.args.f.n c.args.g.n
    c.halves_of-halves.result cut c.in_ok-lo.lo.n c.in_ok-with.with.n c.in_ok-hi.hi.n c.in_ok-lo.ensures.kept.grows
    c.in_ok-with.ensures.kept.grows
    (extends_by _ c.union_least-2.new.ops c.without.new.self c.in_ok-hi.ensures.drawn.grows)
    c.in_ok-lo.ensures.least c.in_ok-with.ensures.least c.in_ok-hi.ensures.drawn.ok.1 z c.in_ok-made.made.n
    c.in_ok-made.ensures.drawn.ok.0 c.in_ok-made.ensures.drawn.ok.1 in
    handed None (λ x. covers (family s c.args.f.n) x || covers (family s c.args.g.n) x) z c.in_ok-made.made
    c.remember.result made c.remember.ensures.number
