use Rattle.std.proofs.Common.{Ok, sym, ap, ◌∙◌, subst, ne_eqb, lt_trans, arith}
use Rattle.std.proofs.lemmas.Result.{err_from_is_err_and}
use Rattle.zdd_nodes.proofs.Growing.{Draws-stays, Draws-refused, Draws-after, still}
use Rattle.zdd_nodes.proofs.Halved.{lo_in, lo_above, hi_above, done}
use Rattle.zdd_ops.proofs.Held.{IsSound-grow, IsSound-remember, handed}
use Rattle.zdd_nodes.specs.Nodes.{at}
use Rattle.zdd_nodes.specs.Nodes.{Stored}
use Rattle.zdd_ops.specs.Operations.{AreResultsHeld}
use Rattle.zdd_ops.specs.declared.memo.Operation.TheVariants.{Having}
use Rattle.zdd_ops.proofs.Passing.{falls_to}
use Rattle.zdd_ops.proofs.Havings.{having_small, having_none, having_first, having_halved, having_lower, having_upper}
use Rattle.zdd_ops.proofs.halving.+having_in.Goals as goal

pub returns-in_default-clause-drawn : goal.returns-in_default-clause-drawn
returns-in_default-clause-drawn t c =
    Draws-stays _ _ c.args.store.now c.new-none.result (omega (arith, c.new-none.ensures))
    (ap (at c.args.store.now.families) c.new-none.ensures
    ∙ having_small c.args.store.now.families c.args.f.n c.args.event.n c.in_default.ensures.halves)

pub returns-then-event-least-clause-drawn : goal.returns-then-event-least-clause-drawn
returns-then-event-least-clause-drawn t c =
    Draws-stays _ _ c.args.store.now c.new-none.result (omega (arith, c.new-none.ensures))
    (ap (at c.args.store.now.families) c.new-none.ensures
    ∙ having_none c.args.store.now c.args.f.n c.args.event.n c.in-Some.least.n c.in-Some.f0.n c.in-Some.f1.n
    c.in-Some.ensures.halves c.requires.f_in c.if-event-least.true)

pub returns-then-event-least-2-clause-sound : goal.returns-then-event-least-2-clause-sound
returns-then-event-least-2-clause-sound t c =
    IsSound-grow _ c.args.store.now c.node.new.self c.args.memo.now c.node.ensures.drawn.grows c.requires.sound

pub returns-then-event-least-2-clause-drawn : goal.returns-then-event-least-2-clause-drawn
returns-then-event-least-2-clause-drawn t c =
    having_first c.args.store.now c.args.f.n c.args.event.n c.in-Some.least.n c.in-Some.f0.n c.in-Some.f1.n
    c.in-Some.ensures.halves c.requires.f_in c.node.new.self c.node.result c.new-none.result.n c.new-none.ensures
    c.if-event-least-2.true c.node.ensures.drawn

pub returns-in-Some-recall-clause-drawn : goal.returns-in-Some-recall-clause-drawn
returns-in-Some-recall-clause-drawn t c =
    let i = c.requires.sound.each (Having c.args.f c.args.event) c.in-Some-recall.number
    (sym c.recall.ensures ∙ c.in-Some-recall.is) in
    Draws-stays _ _ c.args.store.now c.in-Some-recall.number i.in_store i.is

pub returns-in_err-lo-clause-drawn : goal.returns-in_err-lo-clause-drawn
returns-in_err-lo-clause-drawn t c =
    let p = err_from_is_err_and c.from_residual.result c.from_residual.ensures.1 in
    rw (p.1, p.2) (Draws-refused _ _ _ c.args.store.now c.having_in.new.store _
    (having_lower c.args.store.now c.args.f.n c.args.event.n c.in-Some.least.n c.in-Some.f0.n c.in-Some.f1.n
    c.in-Some.ensures.halves c.requires.f_in (ne_eqb c.args.event.n c.in-Some.least.n c.if-event-least-2.false)
    c.having_in.new.store _ c.in_err-lo.ensures.drawn))

pub returns-in_err-hi-clause-drawn : goal.returns-in_err-hi-clause-drawn
returns-in_err-hi-clause-drawn t c =
    let p = err_from_is_err_and c.from_residual-in_err-hi.result c.from_residual-in_err-hi.ensures.1 in
    let dl = having_lower c.args.store.now c.args.f.n c.args.event.n c.in-Some.least.n c.in-Some.f0.n c.in-Some.f1.n
    c.in-Some.ensures.halves c.requires.f_in (ne_eqb c.args.event.n c.in-Some.least.n c.if-event-least-2.false)
    c.having_in.new.store (Ok c.in_ok-lo.lo) c.in_ok-lo.ensures.drawn in
    rw (p.1, p.2) (Draws-refused _ _ _ c.args.store.now c.having_in-2.new.store _
    (Draws-after _ _ c.args.store.now c.having_in.new.store c.having_in-2.new.store _ dl.grows
    (having_upper c.args.store.now c.args.f.n c.args.event.n c.in-Some.least.n c.in-Some.f0.n c.in-Some.f1.n
    c.in-Some.ensures.halves c.requires.f_in (ne_eqb c.args.event.n c.in-Some.least.n c.if-event-least-2.false)
    c.having_in.new.store c.having_in-2.new.store _ dl.grows c.in_err-hi.ensures.drawn)))

-- each call is of something smaller
pub having_in-requires : goal.having_in-requires
having_in-requires t c = (
  falls_to _ _ t c.in-Some.ensures.halves.lo_before c.decreases,
  (
    lt_trans c.in-Some.ensures.halves.lo_before c.requires.f_in,
    (
      c.requires.sound,
      c.requires.store,
    ),
  ),
)

pub having_in-requires-2 : goal.having_in-requires-2
having_in-requires-2 t c =
    let dl = having_lower c.args.store.now c.args.f.n c.args.event.n c.in-Some.least.n c.in-Some.f0.n c.in-Some.f1.n
    c.in-Some.ensures.halves c.requires.f_in (ne_eqb c.args.event.n c.in-Some.least.n c.if-event-least-2.false)
    c.having_in.new.store (Ok c.in_ok-lo.lo) c.in_ok-lo.ensures.drawn in (
      falls_to _ _ t c.in-Some.ensures.halves.hi_before c.decreases,
      (
        still _ c.args.store.now c.having_in.new.store c.in-Some.f1.n dl.grows (lt_trans
            c.in-Some.ensures.halves.hi_before c.requires.f_in),
        (
          c.in_ok-lo.ensures.sound,
          c.in_ok-lo.ensures.store,
        ),
      ),
    )

pub node-requires-2-clause-lo_in : goal.node-requires-2-clause-lo_in
node-requires-2-clause-lo_in t c =
    let dl = having_lower c.args.store.now c.args.f.n c.args.event.n c.in-Some.least.n c.in-Some.f0.n c.in-Some.f1.n
    c.in-Some.ensures.halves c.requires.f_in (ne_eqb c.args.event.n c.in-Some.least.n c.if-event-least-2.false)
    c.having_in.new.store (Ok c.in_ok-lo.lo) c.in_ok-lo.ensures.drawn in
    let dh = having_upper c.args.store.now c.args.f.n c.args.event.n c.in-Some.least.n c.in-Some.f0.n c.in-Some.f1.n
    c.in-Some.ensures.halves c.requires.f_in (ne_eqb c.args.event.n c.in-Some.least.n c.if-event-least-2.false)
    c.having_in.new.store c.having_in-2.new.store (Ok c.in_ok-hi.hi) dl.grows c.in_ok-hi.ensures.drawn in
    lo_in _ _ _ _ _ (having_halved c.args.store.now c.args.f.n c.args.event.n c.in-Some.least.n c.in-Some.f0.n
    c.in-Some.f1.n c.in-Some.ensures.halves c.requires.f_in
    (ne_eqb c.args.event.n c.in-Some.least.n c.if-event-least-2.false)) c.args.store.now c.having_in.new.store
    c.having_in-2.new.store c.in_ok-lo.lo c.in_ok-hi.hi dl dh

pub node-requires-2-clause-hi_in : goal.node-requires-2-clause-hi_in
node-requires-2-clause-hi_in t c =
    let dl = having_lower c.args.store.now c.args.f.n c.args.event.n c.in-Some.least.n c.in-Some.f0.n c.in-Some.f1.n
    c.in-Some.ensures.halves c.requires.f_in (ne_eqb c.args.event.n c.in-Some.least.n c.if-event-least-2.false)
    c.having_in.new.store (Ok c.in_ok-lo.lo) c.in_ok-lo.ensures.drawn in
    let dh = having_upper c.args.store.now c.args.f.n c.args.event.n c.in-Some.least.n c.in-Some.f0.n c.in-Some.f1.n
    c.in-Some.ensures.halves c.requires.f_in (ne_eqb c.args.event.n c.in-Some.least.n c.if-event-least-2.false)
    c.having_in.new.store c.having_in-2.new.store (Ok c.in_ok-hi.hi) dl.grows c.in_ok-hi.ensures.drawn in
    dh.ok.0

pub returns-in_err-made-clause-sound : goal.returns-in_err-made-clause-sound
returns-in_err-made-clause-sound t c =
    subst (λ (s : Stored). AreResultsHeld c.having_in-2.new.memo s.families) (sym c.in_err-made.ensures.err)
    c.in_ok-hi.ensures.sound

pub node-requires-2-clause-lo_above : goal.node-requires-2-clause-lo_above
node-requires-2-clause-lo_above t c =
    let dl = having_lower c.args.store.now c.args.f.n c.args.event.n c.in-Some.least.n c.in-Some.f0.n c.in-Some.f1.n
    c.in-Some.ensures.halves c.requires.f_in (ne_eqb c.args.event.n c.in-Some.least.n c.if-event-least-2.false)
    c.having_in.new.store (Ok c.in_ok-lo.lo) c.in_ok-lo.ensures.drawn in
    let dh = having_upper c.args.store.now c.args.f.n c.args.event.n c.in-Some.least.n c.in-Some.f0.n c.in-Some.f1.n
    c.in-Some.ensures.halves c.requires.f_in (ne_eqb c.args.event.n c.in-Some.least.n c.if-event-least-2.false)
    c.having_in.new.store c.having_in-2.new.store (Ok c.in_ok-hi.hi) dl.grows c.in_ok-hi.ensures.drawn in
    lo_above _ _ _ _ _ (having_halved c.args.store.now c.args.f.n c.args.event.n c.in-Some.least.n c.in-Some.f0.n
    c.in-Some.f1.n c.in-Some.ensures.halves c.requires.f_in
    (ne_eqb c.args.event.n c.in-Some.least.n c.if-event-least-2.false)) c.args.store.now c.having_in.new.store
    c.having_in-2.new.store c.in_ok-lo.lo c.in_ok-hi.hi dl dh

pub node-requires-2-clause-hi_above : goal.node-requires-2-clause-hi_above
node-requires-2-clause-hi_above t c =
    let dl = having_lower c.args.store.now c.args.f.n c.args.event.n c.in-Some.least.n c.in-Some.f0.n c.in-Some.f1.n
    c.in-Some.ensures.halves c.requires.f_in (ne_eqb c.args.event.n c.in-Some.least.n c.if-event-least-2.false)
    c.having_in.new.store (Ok c.in_ok-lo.lo) c.in_ok-lo.ensures.drawn in
    let dh = having_upper c.args.store.now c.args.f.n c.args.event.n c.in-Some.least.n c.in-Some.f0.n c.in-Some.f1.n
    c.in-Some.ensures.halves c.requires.f_in (ne_eqb c.args.event.n c.in-Some.least.n c.if-event-least-2.false)
    c.having_in.new.store c.having_in-2.new.store (Ok c.in_ok-hi.hi) dl.grows c.in_ok-hi.ensures.drawn in
    hi_above _ _ _ _ _ (having_halved c.args.store.now c.args.f.n c.args.event.n c.in-Some.least.n c.in-Some.f0.n
    c.in-Some.f1.n c.in-Some.ensures.halves c.requires.f_in
    (ne_eqb c.args.event.n c.in-Some.least.n c.if-event-least-2.false)) c.args.store.now c.having_in.new.store
    c.having_in-2.new.store c.in_ok-lo.lo c.in_ok-hi.hi dl dh

pub returns-in_err-made-clause-drawn : goal.returns-in_err-made-clause-drawn
returns-in_err-made-clause-drawn t c =
    let p = err_from_is_err_and c.from_residual-in_err-made.result c.from_residual-in_err-made.ensures.1 in
    let dl = having_lower c.args.store.now c.args.f.n c.args.event.n c.in-Some.least.n c.in-Some.f0.n c.in-Some.f1.n
    c.in-Some.ensures.halves c.requires.f_in (ne_eqb c.args.event.n c.in-Some.least.n c.if-event-least-2.false)
    c.having_in.new.store (Ok c.in_ok-lo.lo) c.in_ok-lo.ensures.drawn in
    let dh = having_upper c.args.store.now c.args.f.n c.args.event.n c.in-Some.least.n c.in-Some.f0.n c.in-Some.f1.n
    c.in-Some.ensures.halves c.requires.f_in (ne_eqb c.args.event.n c.in-Some.least.n c.if-event-least-2.false)
    c.having_in.new.store c.having_in-2.new.store (Ok c.in_ok-hi.hi) dl.grows c.in_ok-hi.ensures.drawn in
    rw (p.1, p.2) (done _ _ _ _ _ (having_halved c.args.store.now c.args.f.n c.args.event.n c.in-Some.least.n
    c.in-Some.f0.n c.in-Some.f1.n c.in-Some.ensures.halves c.requires.f_in
    (ne_eqb c.args.event.n c.in-Some.least.n c.if-event-least-2.false)) c.args.store.now c.having_in.new.store
    c.having_in-2.new.store c.in_ok-lo.lo c.in_ok-hi.hi dl dh c.node-2.new.self _ c.in_err-made.ensures.drawn)

pub returns-clause-drawn : goal.returns-clause-drawn
returns-clause-drawn t c =
    let dl = having_lower c.args.store.now c.args.f.n c.args.event.n c.in-Some.least.n c.in-Some.f0.n c.in-Some.f1.n
    c.in-Some.ensures.halves c.requires.f_in (ne_eqb c.args.event.n c.in-Some.least.n c.if-event-least-2.false)
    c.having_in.new.store (Ok c.in_ok-lo.lo) c.in_ok-lo.ensures.drawn in
    let dh = having_upper c.args.store.now c.args.f.n c.args.event.n c.in-Some.least.n c.in-Some.f0.n c.in-Some.f1.n
    c.in-Some.ensures.halves c.requires.f_in (ne_eqb c.args.event.n c.in-Some.least.n c.if-event-least-2.false)
    c.having_in.new.store c.having_in-2.new.store (Ok c.in_ok-hi.hi) dl.grows c.in_ok-hi.ensures.drawn in
    handed _ _ c.args.store.now c.node-2.new.self c.in_ok-made.made c.remember.result
    (done _ _ _ _ _ (having_halved c.args.store.now c.args.f.n c.args.event.n c.in-Some.least.n c.in-Some.f0.n
    c.in-Some.f1.n c.in-Some.ensures.halves c.requires.f_in
    (ne_eqb c.args.event.n c.in-Some.least.n c.if-event-least-2.false)) c.args.store.now c.having_in.new.store
    c.having_in-2.new.store c.in_ok-lo.lo c.in_ok-hi.hi dl dh c.node-2.new.self _ c.in_ok-made.ensures.drawn)
    c.remember.ensures.number

pub returns-clause-sound : goal.returns-clause-sound
returns-clause-sound t c =
    let dl = having_lower c.args.store.now c.args.f.n c.args.event.n c.in-Some.least.n c.in-Some.f0.n c.in-Some.f1.n
    c.in-Some.ensures.halves c.requires.f_in (ne_eqb c.args.event.n c.in-Some.least.n c.if-event-least-2.false)
    c.having_in.new.store (Ok c.in_ok-lo.lo) c.in_ok-lo.ensures.drawn in
    let dh = having_upper c.args.store.now c.args.f.n c.args.event.n c.in-Some.least.n c.in-Some.f0.n c.in-Some.f1.n
    c.in-Some.ensures.halves c.requires.f_in (ne_eqb c.args.event.n c.in-Some.least.n c.if-event-least-2.false)
    c.having_in.new.store c.having_in-2.new.store (Ok c.in_ok-hi.hi) dl.grows c.in_ok-hi.ensures.drawn in
    let w = done _ _ _ _ _ (having_halved c.args.store.now c.args.f.n c.args.event.n c.in-Some.least.n c.in-Some.f0.n
    c.in-Some.f1.n c.in-Some.ensures.halves c.requires.f_in
    (ne_eqb c.args.event.n c.in-Some.least.n c.if-event-least-2.false)) c.args.store.now c.having_in.new.store
    c.having_in-2.new.store c.in_ok-lo.lo c.in_ok-hi.hi dl dh c.node-2.new.self _ c.in_ok-made.ensures.drawn in
    IsSound-remember _ _ c.args.store.now c.having_in-2.new.store c.node-2.new.self (Having c.args.f c.args.event)
    c.in_ok-made.made c.having_in-2.new.memo c.remember.new.self w.grows c.requires.f_in
    c.in_ok-made.ensures.drawn.grows c.in_ok-hi.ensures.sound w.ok c.remember.ensures.entry
