use Rattle.std.proofs.Common.{Ok, sym, ◌∙◌, subst, lt_trans}
use Rattle.std.proofs.lemmas.Result.{err_from_is_err_and}
use Rattle.zdd_nodes.proofs.Growing.{Draws-stays, Draws-refused, Draws-after, still}
use Rattle.zdd_nodes.proofs.Halved.{lo_in, lo_above, hi_above, done}
use Rattle.zdd_ops.proofs.Held.{IsSound-remember, handed}
use Rattle.zdd_nodes.specs.Nodes.{Stored}
use Rattle.zdd_ops.specs.Operations.{AreResultsHeld}
use Rattle.zdd_ops.specs.declared.memo.Operation.TheVariants.{Minimal}
use Rattle.zdd_ops.proofs.Passing.{falls_to}
use Rattle.zdd_ops.proofs.Minimals.{minimal_small, minimal_halved, minimal_lower, minimal_above, minimal_upper}
use Rattle.zdd_ops.proofs.halving.+minimal_in.Goals as goal

pub returns-in_default-clause-drawn : goal.returns-in_default-clause-drawn
returns-in_default-clause-drawn t c =
    Draws-stays _ _ c.args.store.now c.args.f c.requires.f_in
    (minimal_small c.args.store.now.families c.args.f.n c.in_default.ensures.halves)

pub returns-in-Some-recall-clause-drawn : goal.returns-in-Some-recall-clause-drawn
returns-in-Some-recall-clause-drawn t c =
    let i = c.requires.sound.each (Minimal c.args.f) c.in-Some-recall.number
    (sym c.recall.ensures ∙ c.in-Some-recall.is) in
    Draws-stays _ _ c.args.store.now c.in-Some-recall.number i.in_store i.is

pub returns-in_err-lo-clause-drawn : goal.returns-in_err-lo-clause-drawn
returns-in_err-lo-clause-drawn t c =
    let p = err_from_is_err_and c.from_residual.result c.from_residual.ensures.1 in
    rw (p.1, p.2) (Draws-refused _ _ _ c.args.store.now c.minimal_in.new.store _
    (minimal_lower c.args.store.now c.args.f.n c.in-Some.event.n c.in-Some.f0.n c.in-Some.f1.n
    c.in-Some.ensures.halves c.requires.f_in
    (c.split.ensures.sound.families c.in-Some.f0.n
    (lt_trans c.in-Some.ensures.halves.lo_before c.requires.f_in)).ascending c.minimal_in.new.store _
    c.in_err-lo.ensures.drawn))

pub returns-in_err-upper-clause-drawn : goal.returns-in_err-upper-clause-drawn
returns-in_err-upper-clause-drawn t c =
    let p = err_from_is_err_and c.from_residual-in_err-upper.result c.from_residual-in_err-upper.ensures.1 in
    let dl = minimal_lower c.args.store.now c.args.f.n c.in-Some.event.n c.in-Some.f0.n c.in-Some.f1.n
    c.in-Some.ensures.halves c.requires.f_in
    (c.split.ensures.sound.families c.in-Some.f0.n
    (lt_trans c.in-Some.ensures.halves.lo_before c.requires.f_in)).ascending c.minimal_in.new.store
    (Ok c.in_ok-lo.lo) c.in_ok-lo.ensures.drawn in
    rw (p.1, p.2) (Draws-refused _ _ _ c.args.store.now c.minimal_in-2.new.store _
    (Draws-after _ _ c.args.store.now c.minimal_in.new.store c.minimal_in-2.new.store _ dl.grows
    (minimal_above c.args.store.now c.args.f.n c.in-Some.event.n c.in-Some.f0.n c.in-Some.f1.n
    c.in-Some.ensures.halves c.requires.f_in
    (c.split.ensures.sound.families c.in-Some.f0.n
    (lt_trans c.in-Some.ensures.halves.lo_before c.requires.f_in)).ascending c.minimal_in.new.store
    c.minimal_in-2.new.store _ dl.grows c.in_err-upper.ensures.drawn)))

pub returns-in_err-hi-clause-drawn : goal.returns-in_err-hi-clause-drawn
returns-in_err-hi-clause-drawn t c =
    let p = err_from_is_err_and c.from_residual-in_err-hi.result c.from_residual-in_err-hi.ensures.1 in
    let dl = minimal_lower c.args.store.now c.args.f.n c.in-Some.event.n c.in-Some.f0.n c.in-Some.f1.n
    c.in-Some.ensures.halves c.requires.f_in
    (c.split.ensures.sound.families c.in-Some.f0.n
    (lt_trans c.in-Some.ensures.halves.lo_before c.requires.f_in)).ascending c.minimal_in.new.store
    (Ok c.in_ok-lo.lo) c.in_ok-lo.ensures.drawn in
    let du = minimal_above c.args.store.now c.args.f.n c.in-Some.event.n c.in-Some.f0.n c.in-Some.f1.n
    c.in-Some.ensures.halves c.requires.f_in
    (c.split.ensures.sound.families c.in-Some.f0.n
    (lt_trans c.in-Some.ensures.halves.lo_before c.requires.f_in)).ascending c.minimal_in.new.store
    c.minimal_in-2.new.store (Ok c.in_ok-upper.upper) dl.grows c.in_ok-upper.ensures.drawn in
    rw (p.1, p.2) (Draws-refused _ _ _ c.args.store.now c.without_in.new.store _
    (Draws-after _ _ c.args.store.now c.minimal_in.new.store c.without_in.new.store _ dl.grows
    (minimal_upper c.args.store.now c.args.f.n c.in-Some.event.n c.in-Some.f0.n c.in-Some.f1.n
    c.in-Some.ensures.halves c.requires.f_in
    (c.split.ensures.sound.families c.in-Some.f0.n
    (lt_trans c.in-Some.ensures.halves.lo_before c.requires.f_in)).ascending c.minimal_in.new.store
    c.minimal_in-2.new.store c.in_ok-lo.lo c.in_ok-upper.upper dl du c.without_in.new.store _
    c.in_err-hi.ensures.drawn)))

-- each call is of something smaller
pub minimal_in-requires : goal.minimal_in-requires
minimal_in-requires t c = (
  falls_to _ _ t c.in-Some.ensures.halves.lo_before c.decreases,
  (
    lt_trans c.in-Some.ensures.halves.lo_before c.requires.f_in,
    (
      c.requires.sound,
      c.requires.store,
    ),
  ),
)

pub minimal_in-requires-2 : goal.minimal_in-requires-2
minimal_in-requires-2 t c =
    let dl = minimal_lower c.args.store.now c.args.f.n c.in-Some.event.n c.in-Some.f0.n c.in-Some.f1.n
    c.in-Some.ensures.halves c.requires.f_in
    (c.split.ensures.sound.families c.in-Some.f0.n
    (lt_trans c.in-Some.ensures.halves.lo_before c.requires.f_in)).ascending c.minimal_in.new.store
    (Ok c.in_ok-lo.lo) c.in_ok-lo.ensures.drawn in (
      falls_to _ _ t c.in-Some.ensures.halves.hi_before c.decreases,
      (
        still _ c.args.store.now c.minimal_in.new.store c.in-Some.f1.n dl.grows (lt_trans
            c.in-Some.ensures.halves.hi_before c.requires.f_in),
        (
          c.in_ok-lo.ensures.sound,
          c.in_ok-lo.ensures.store,
        ),
      ),
    )

pub without_in-requires : goal.without_in-requires
without_in-requires t c =
    let dl = minimal_lower c.args.store.now c.args.f.n c.in-Some.event.n c.in-Some.f0.n c.in-Some.f1.n
    c.in-Some.ensures.halves c.requires.f_in
    (c.split.ensures.sound.families c.in-Some.f0.n
    (lt_trans c.in-Some.ensures.halves.lo_before c.requires.f_in)).ascending c.minimal_in.new.store
    (Ok c.in_ok-lo.lo) c.in_ok-lo.ensures.drawn in
    let du = minimal_above c.args.store.now c.args.f.n c.in-Some.event.n c.in-Some.f0.n c.in-Some.f1.n
    c.in-Some.ensures.halves c.requires.f_in
    (c.split.ensures.sound.families c.in-Some.f0.n
    (lt_trans c.in-Some.ensures.halves.lo_before c.requires.f_in)).ascending c.minimal_in.new.store
    c.minimal_in-2.new.store (Ok c.in_ok-upper.upper) dl.grows c.in_ok-upper.ensures.drawn in
    record {
      f_in = du.ok.0;
      g_in = still _ c.minimal_in.new.store c.minimal_in-2.new.store c.in_ok-lo.lo.n du.grows dl.ok.0;
      sound = c.in_ok-upper.ensures.sound;
      store = c.in_ok-upper.ensures.store;
    }

pub node-requires-clause-lo_in : goal.node-requires-clause-lo_in
node-requires-clause-lo_in t c =
    let dl = minimal_lower c.args.store.now c.args.f.n c.in-Some.event.n c.in-Some.f0.n c.in-Some.f1.n
    c.in-Some.ensures.halves c.requires.f_in
    (c.split.ensures.sound.families c.in-Some.f0.n
    (lt_trans c.in-Some.ensures.halves.lo_before c.requires.f_in)).ascending c.minimal_in.new.store
    (Ok c.in_ok-lo.lo) c.in_ok-lo.ensures.drawn in
    let du = minimal_above c.args.store.now c.args.f.n c.in-Some.event.n c.in-Some.f0.n c.in-Some.f1.n
    c.in-Some.ensures.halves c.requires.f_in
    (c.split.ensures.sound.families c.in-Some.f0.n
    (lt_trans c.in-Some.ensures.halves.lo_before c.requires.f_in)).ascending c.minimal_in.new.store
    c.minimal_in-2.new.store (Ok c.in_ok-upper.upper) dl.grows c.in_ok-upper.ensures.drawn in
    let dh = minimal_upper c.args.store.now c.args.f.n c.in-Some.event.n c.in-Some.f0.n c.in-Some.f1.n
    c.in-Some.ensures.halves c.requires.f_in
    (c.split.ensures.sound.families c.in-Some.f0.n
    (lt_trans c.in-Some.ensures.halves.lo_before c.requires.f_in)).ascending c.minimal_in.new.store
    c.minimal_in-2.new.store c.in_ok-lo.lo c.in_ok-upper.upper dl du c.without_in.new.store (Ok c.in_ok-hi.hi)
    c.in_ok-hi.ensures.drawn in
    lo_in _ _ _ _ _ (minimal_halved c.args.store.now c.args.f.n c.in-Some.event.n c.in-Some.f0.n c.in-Some.f1.n
    c.in-Some.ensures.halves c.requires.f_in
    (c.split.ensures.sound.families c.in-Some.f0.n
    (lt_trans c.in-Some.ensures.halves.lo_before c.requires.f_in)).ascending) c.args.store.now
    c.minimal_in.new.store c.without_in.new.store c.in_ok-lo.lo c.in_ok-hi.hi dl dh

pub node-requires-clause-hi_in : goal.node-requires-clause-hi_in
node-requires-clause-hi_in t c =
    let dl = minimal_lower c.args.store.now c.args.f.n c.in-Some.event.n c.in-Some.f0.n c.in-Some.f1.n
    c.in-Some.ensures.halves c.requires.f_in
    (c.split.ensures.sound.families c.in-Some.f0.n
    (lt_trans c.in-Some.ensures.halves.lo_before c.requires.f_in)).ascending c.minimal_in.new.store
    (Ok c.in_ok-lo.lo) c.in_ok-lo.ensures.drawn in
    let du = minimal_above c.args.store.now c.args.f.n c.in-Some.event.n c.in-Some.f0.n c.in-Some.f1.n
    c.in-Some.ensures.halves c.requires.f_in
    (c.split.ensures.sound.families c.in-Some.f0.n
    (lt_trans c.in-Some.ensures.halves.lo_before c.requires.f_in)).ascending c.minimal_in.new.store
    c.minimal_in-2.new.store (Ok c.in_ok-upper.upper) dl.grows c.in_ok-upper.ensures.drawn in
    let dh = minimal_upper c.args.store.now c.args.f.n c.in-Some.event.n c.in-Some.f0.n c.in-Some.f1.n
    c.in-Some.ensures.halves c.requires.f_in
    (c.split.ensures.sound.families c.in-Some.f0.n
    (lt_trans c.in-Some.ensures.halves.lo_before c.requires.f_in)).ascending c.minimal_in.new.store
    c.minimal_in-2.new.store c.in_ok-lo.lo c.in_ok-upper.upper dl du c.without_in.new.store (Ok c.in_ok-hi.hi)
    c.in_ok-hi.ensures.drawn in
    dh.ok.0

pub returns-in_err-made-clause-sound : goal.returns-in_err-made-clause-sound
returns-in_err-made-clause-sound t c =
    subst (λ (s : Stored). AreResultsHeld c.without_in.new.memo s.families) (sym c.in_err-made.ensures.err)
    c.in_ok-hi.ensures.sound

pub node-requires-clause-lo_above : goal.node-requires-clause-lo_above
node-requires-clause-lo_above t c =
    let dl = minimal_lower c.args.store.now c.args.f.n c.in-Some.event.n c.in-Some.f0.n c.in-Some.f1.n
    c.in-Some.ensures.halves c.requires.f_in
    (c.split.ensures.sound.families c.in-Some.f0.n
    (lt_trans c.in-Some.ensures.halves.lo_before c.requires.f_in)).ascending c.minimal_in.new.store
    (Ok c.in_ok-lo.lo) c.in_ok-lo.ensures.drawn in
    let du = minimal_above c.args.store.now c.args.f.n c.in-Some.event.n c.in-Some.f0.n c.in-Some.f1.n
    c.in-Some.ensures.halves c.requires.f_in
    (c.split.ensures.sound.families c.in-Some.f0.n
    (lt_trans c.in-Some.ensures.halves.lo_before c.requires.f_in)).ascending c.minimal_in.new.store
    c.minimal_in-2.new.store (Ok c.in_ok-upper.upper) dl.grows c.in_ok-upper.ensures.drawn in
    let dh = minimal_upper c.args.store.now c.args.f.n c.in-Some.event.n c.in-Some.f0.n c.in-Some.f1.n
    c.in-Some.ensures.halves c.requires.f_in
    (c.split.ensures.sound.families c.in-Some.f0.n
    (lt_trans c.in-Some.ensures.halves.lo_before c.requires.f_in)).ascending c.minimal_in.new.store
    c.minimal_in-2.new.store c.in_ok-lo.lo c.in_ok-upper.upper dl du c.without_in.new.store (Ok c.in_ok-hi.hi)
    c.in_ok-hi.ensures.drawn in
    lo_above _ _ _ _ _ (minimal_halved c.args.store.now c.args.f.n c.in-Some.event.n c.in-Some.f0.n c.in-Some.f1.n
    c.in-Some.ensures.halves c.requires.f_in
    (c.split.ensures.sound.families c.in-Some.f0.n
    (lt_trans c.in-Some.ensures.halves.lo_before c.requires.f_in)).ascending) c.args.store.now
    c.minimal_in.new.store c.without_in.new.store c.in_ok-lo.lo c.in_ok-hi.hi dl dh

pub node-requires-clause-hi_above : goal.node-requires-clause-hi_above
node-requires-clause-hi_above t c =
    let dl = minimal_lower c.args.store.now c.args.f.n c.in-Some.event.n c.in-Some.f0.n c.in-Some.f1.n
    c.in-Some.ensures.halves c.requires.f_in
    (c.split.ensures.sound.families c.in-Some.f0.n
    (lt_trans c.in-Some.ensures.halves.lo_before c.requires.f_in)).ascending c.minimal_in.new.store
    (Ok c.in_ok-lo.lo) c.in_ok-lo.ensures.drawn in
    let du = minimal_above c.args.store.now c.args.f.n c.in-Some.event.n c.in-Some.f0.n c.in-Some.f1.n
    c.in-Some.ensures.halves c.requires.f_in
    (c.split.ensures.sound.families c.in-Some.f0.n
    (lt_trans c.in-Some.ensures.halves.lo_before c.requires.f_in)).ascending c.minimal_in.new.store
    c.minimal_in-2.new.store (Ok c.in_ok-upper.upper) dl.grows c.in_ok-upper.ensures.drawn in
    let dh = minimal_upper c.args.store.now c.args.f.n c.in-Some.event.n c.in-Some.f0.n c.in-Some.f1.n
    c.in-Some.ensures.halves c.requires.f_in
    (c.split.ensures.sound.families c.in-Some.f0.n
    (lt_trans c.in-Some.ensures.halves.lo_before c.requires.f_in)).ascending c.minimal_in.new.store
    c.minimal_in-2.new.store c.in_ok-lo.lo c.in_ok-upper.upper dl du c.without_in.new.store (Ok c.in_ok-hi.hi)
    c.in_ok-hi.ensures.drawn in
    hi_above _ _ _ _ _ (minimal_halved c.args.store.now c.args.f.n c.in-Some.event.n c.in-Some.f0.n c.in-Some.f1.n
    c.in-Some.ensures.halves c.requires.f_in
    (c.split.ensures.sound.families c.in-Some.f0.n
    (lt_trans c.in-Some.ensures.halves.lo_before c.requires.f_in)).ascending) c.args.store.now
    c.minimal_in.new.store c.without_in.new.store c.in_ok-lo.lo c.in_ok-hi.hi dl dh

pub returns-in_err-made-clause-drawn : goal.returns-in_err-made-clause-drawn
returns-in_err-made-clause-drawn t c =
    let p = err_from_is_err_and c.from_residual-in_err-made.result c.from_residual-in_err-made.ensures.1 in
    let dl = minimal_lower c.args.store.now c.args.f.n c.in-Some.event.n c.in-Some.f0.n c.in-Some.f1.n
    c.in-Some.ensures.halves c.requires.f_in
    (c.split.ensures.sound.families c.in-Some.f0.n
    (lt_trans c.in-Some.ensures.halves.lo_before c.requires.f_in)).ascending c.minimal_in.new.store
    (Ok c.in_ok-lo.lo) c.in_ok-lo.ensures.drawn in
    let du = minimal_above c.args.store.now c.args.f.n c.in-Some.event.n c.in-Some.f0.n c.in-Some.f1.n
    c.in-Some.ensures.halves c.requires.f_in
    (c.split.ensures.sound.families c.in-Some.f0.n
    (lt_trans c.in-Some.ensures.halves.lo_before c.requires.f_in)).ascending c.minimal_in.new.store
    c.minimal_in-2.new.store (Ok c.in_ok-upper.upper) dl.grows c.in_ok-upper.ensures.drawn in
    let dh = minimal_upper c.args.store.now c.args.f.n c.in-Some.event.n c.in-Some.f0.n c.in-Some.f1.n
    c.in-Some.ensures.halves c.requires.f_in
    (c.split.ensures.sound.families c.in-Some.f0.n
    (lt_trans c.in-Some.ensures.halves.lo_before c.requires.f_in)).ascending c.minimal_in.new.store
    c.minimal_in-2.new.store c.in_ok-lo.lo c.in_ok-upper.upper dl du c.without_in.new.store (Ok c.in_ok-hi.hi)
    c.in_ok-hi.ensures.drawn in
    rw (p.1, p.2) (done _ _ _ _ _ (minimal_halved c.args.store.now c.args.f.n c.in-Some.event.n c.in-Some.f0.n
    c.in-Some.f1.n c.in-Some.ensures.halves c.requires.f_in
    (c.split.ensures.sound.families c.in-Some.f0.n
    (lt_trans c.in-Some.ensures.halves.lo_before c.requires.f_in)).ascending) c.args.store.now
    c.minimal_in.new.store c.without_in.new.store c.in_ok-lo.lo c.in_ok-hi.hi dl dh c.node.new.self _
    c.in_err-made.ensures.drawn)

pub returns-clause-drawn : goal.returns-clause-drawn
returns-clause-drawn t c =
    let dl = minimal_lower c.args.store.now c.args.f.n c.in-Some.event.n c.in-Some.f0.n c.in-Some.f1.n
    c.in-Some.ensures.halves c.requires.f_in
    (c.split.ensures.sound.families c.in-Some.f0.n
    (lt_trans c.in-Some.ensures.halves.lo_before c.requires.f_in)).ascending c.minimal_in.new.store
    (Ok c.in_ok-lo.lo) c.in_ok-lo.ensures.drawn in
    let du = minimal_above c.args.store.now c.args.f.n c.in-Some.event.n c.in-Some.f0.n c.in-Some.f1.n
    c.in-Some.ensures.halves c.requires.f_in
    (c.split.ensures.sound.families c.in-Some.f0.n
    (lt_trans c.in-Some.ensures.halves.lo_before c.requires.f_in)).ascending c.minimal_in.new.store
    c.minimal_in-2.new.store (Ok c.in_ok-upper.upper) dl.grows c.in_ok-upper.ensures.drawn in
    let dh = minimal_upper c.args.store.now c.args.f.n c.in-Some.event.n c.in-Some.f0.n c.in-Some.f1.n
    c.in-Some.ensures.halves c.requires.f_in
    (c.split.ensures.sound.families c.in-Some.f0.n
    (lt_trans c.in-Some.ensures.halves.lo_before c.requires.f_in)).ascending c.minimal_in.new.store
    c.minimal_in-2.new.store c.in_ok-lo.lo c.in_ok-upper.upper dl du c.without_in.new.store (Ok c.in_ok-hi.hi)
    c.in_ok-hi.ensures.drawn in
    handed _ _ c.args.store.now c.node.new.self c.in_ok-made.made c.remember.result
    (done _ _ _ _ _ (minimal_halved c.args.store.now c.args.f.n c.in-Some.event.n c.in-Some.f0.n c.in-Some.f1.n
    c.in-Some.ensures.halves c.requires.f_in
    (c.split.ensures.sound.families c.in-Some.f0.n
    (lt_trans c.in-Some.ensures.halves.lo_before c.requires.f_in)).ascending) c.args.store.now
    c.minimal_in.new.store c.without_in.new.store c.in_ok-lo.lo c.in_ok-hi.hi dl dh c.node.new.self _
    c.in_ok-made.ensures.drawn)
    c.remember.ensures.number

pub returns-clause-sound : goal.returns-clause-sound
returns-clause-sound t c =
    let dl = minimal_lower c.args.store.now c.args.f.n c.in-Some.event.n c.in-Some.f0.n c.in-Some.f1.n
    c.in-Some.ensures.halves c.requires.f_in
    (c.split.ensures.sound.families c.in-Some.f0.n
    (lt_trans c.in-Some.ensures.halves.lo_before c.requires.f_in)).ascending c.minimal_in.new.store
    (Ok c.in_ok-lo.lo) c.in_ok-lo.ensures.drawn in
    let du = minimal_above c.args.store.now c.args.f.n c.in-Some.event.n c.in-Some.f0.n c.in-Some.f1.n
    c.in-Some.ensures.halves c.requires.f_in
    (c.split.ensures.sound.families c.in-Some.f0.n
    (lt_trans c.in-Some.ensures.halves.lo_before c.requires.f_in)).ascending c.minimal_in.new.store
    c.minimal_in-2.new.store (Ok c.in_ok-upper.upper) dl.grows c.in_ok-upper.ensures.drawn in
    let dh = minimal_upper c.args.store.now c.args.f.n c.in-Some.event.n c.in-Some.f0.n c.in-Some.f1.n
    c.in-Some.ensures.halves c.requires.f_in
    (c.split.ensures.sound.families c.in-Some.f0.n
    (lt_trans c.in-Some.ensures.halves.lo_before c.requires.f_in)).ascending c.minimal_in.new.store
    c.minimal_in-2.new.store c.in_ok-lo.lo c.in_ok-upper.upper dl du c.without_in.new.store (Ok c.in_ok-hi.hi)
    c.in_ok-hi.ensures.drawn in
    let w = done _ _ _ _ _ (minimal_halved c.args.store.now c.args.f.n c.in-Some.event.n c.in-Some.f0.n c.in-Some.f1.n
    c.in-Some.ensures.halves c.requires.f_in
    (c.split.ensures.sound.families c.in-Some.f0.n
    (lt_trans c.in-Some.ensures.halves.lo_before c.requires.f_in)).ascending) c.args.store.now
    c.minimal_in.new.store c.without_in.new.store c.in_ok-lo.lo c.in_ok-hi.hi dl dh c.node.new.self _
    c.in_ok-made.ensures.drawn in
    IsSound-remember _ _ c.args.store.now c.without_in.new.store c.node.new.self (Minimal c.args.f) c.in_ok-made.made
    c.without_in.new.memo c.remember.new.self w.grows c.requires.f_in c.in_ok-made.ensures.drawn.grows
    c.in_ok-hi.ensures.sound w.ok c.remember.ensures.entry
