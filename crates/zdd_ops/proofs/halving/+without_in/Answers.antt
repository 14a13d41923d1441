use Rattle.std.proofs.Common.{Ok, sym, ◌∙◌, subst}
use Rattle.std.proofs.lemmas.Result.{err_from_is_err_and}
use Rattle.zdd_nodes.proofs.Growing.{Draws-stays, Draws-refused, Draws-after, Grows-then, still}
use Rattle.zdd_nodes.proofs.Halved.{lo_in, lo_above, hi_above, done}
use Rattle.zdd_ops.proofs.Held.{IsSound-remember, handed}
use Rattle.zdd_nodes.specs.Nodes.{Stored}
use Rattle.zdd_ops.specs.Operations.{AreResultsHeld}
use Rattle.zdd_ops.specs.declared.memo.Operation.TheVariants.{Without}
use Rattle.zdd_ops.proofs.Passing.{falls_left, without_passed}
use Rattle.zdd_ops.proofs.Withouts.{without_halved, without_lower, without_first, without_second, without_upper}
use Rattle.zdd_ops.proofs.halving.+without_in.Goals as goal

pub returns-in-Some-recall-clause-drawn : goal.returns-in-Some-recall-clause-drawn
returns-in-Some-recall-clause-drawn t c =
    let i = c.requires.sound.each (Without c.args.f c.pass-left.result) c.in-Some-recall.number
    (sym c.recall.ensures ∙ c.in-Some-recall.is) in
    without_passed c.args.store.now c.args.store.now c.args.f.n c.args.g.n c.pass-left.result.n _ c.pass-left.ensures
    (Draws-stays _ _ c.args.store.now c.in-Some-recall.number i.in_store i.is)

pub returns-in-Some-clause-drawn : goal.returns-in-Some-clause-drawn
returns-in-Some-clause-drawn t c =
    let i = c.in-Some.ensures c.args.store.now.families c.requires.f_in c.pass-left.ensures.left_in in
    without_passed c.args.store.now c.args.store.now c.args.f.n c.args.g.n c.pass-left.result.n _ c.pass-left.ensures
    (Draws-stays _ _ c.args.store.now c.in-Some.number i.0 i.1)

pub returns-in_err-lo-clause-drawn : goal.returns-in_err-lo-clause-drawn
returns-in_err-lo-clause-drawn t c =
    let p = err_from_is_err_and c.from_residual.result c.from_residual.ensures.1 in
    rw (p.1, p.2) (without_passed c.args.store.now c.without_in.new.store c.args.f.n c.args.g.n c.pass-left.result.n _
    c.pass-left.ensures (Draws-refused _ _ _ c.args.store.now c.without_in.new.store _
    (without_lower c.args.store.now c.args.f.n c.pass-left.result.n c.cut_at-cut.result c.cut_at-cut.ensures
    c.without_in.new.store _ c.in_err-lo.ensures.drawn)))

pub returns-in_err-first-clause-drawn : goal.returns-in_err-first-clause-drawn
returns-in_err-first-clause-drawn t c =
    let p = err_from_is_err_and c.from_residual-in_err-first.result c.from_residual-in_err-first.ensures.1 in
    let dl = without_lower c.args.store.now c.args.f.n c.pass-left.result.n c.cut_at-cut.result c.cut_at-cut.ensures
    c.without_in.new.store (Ok c.in_ok-lo.lo) c.in_ok-lo.ensures.drawn in
    rw (p.1, p.2) (without_passed c.args.store.now c.without_in-2.new.store c.args.f.n c.args.g.n c.pass-left.result.n _
    c.pass-left.ensures (Draws-refused _ _ _ c.args.store.now c.without_in-2.new.store _
    (Draws-after _ _ c.args.store.now c.without_in.new.store c.without_in-2.new.store _ dl.grows
    (without_first c.args.store.now c.args.f.n c.pass-left.result.n c.cut_at-cut.result c.cut_at-cut.ensures
    c.without_in.new.store c.without_in-2.new.store _ dl.grows c.in_err-first.ensures.drawn))))

pub returns-in_err-second-clause-drawn : goal.returns-in_err-second-clause-drawn
returns-in_err-second-clause-drawn t c =
    let p = err_from_is_err_and c.from_residual-in_err-second.result c.from_residual-in_err-second.ensures.1 in
    let dl = without_lower c.args.store.now c.args.f.n c.pass-left.result.n c.cut_at-cut.result c.cut_at-cut.ensures
    c.without_in.new.store (Ok c.in_ok-lo.lo) c.in_ok-lo.ensures.drawn in
    let da = without_first c.args.store.now c.args.f.n c.pass-left.result.n c.cut_at-cut.result c.cut_at-cut.ensures
    c.without_in.new.store c.without_in-2.new.store (Ok c.in_ok-first.first) dl.grows
    c.in_ok-first.ensures.drawn in
    let upto = Grows-then _ c.args.store.now c.without_in.new.store c.without_in-2.new.store dl.grows da.grows in
    rw (p.1, p.2) (without_passed c.args.store.now c.without_in-3.new.store c.args.f.n c.args.g.n c.pass-left.result.n _
    c.pass-left.ensures (Draws-refused _ _ _ c.args.store.now c.without_in-3.new.store _
    (Draws-after _ _ c.args.store.now c.without_in-2.new.store c.without_in-3.new.store _ upto
    (without_second c.args.store.now c.args.f.n c.pass-left.result.n c.cut_at-cut.result c.cut_at-cut.ensures
    c.without_in-2.new.store c.without_in-3.new.store _ upto c.in_err-second.ensures.drawn))))

pub returns-in_err-hi-clause-drawn : goal.returns-in_err-hi-clause-drawn
returns-in_err-hi-clause-drawn t c =
    let p = err_from_is_err_and c.from_residual-in_err-hi.result c.from_residual-in_err-hi.ensures.1 in
    let dl = without_lower c.args.store.now c.args.f.n c.pass-left.result.n c.cut_at-cut.result c.cut_at-cut.ensures
    c.without_in.new.store (Ok c.in_ok-lo.lo) c.in_ok-lo.ensures.drawn in
    let da = without_first c.args.store.now c.args.f.n c.pass-left.result.n c.cut_at-cut.result c.cut_at-cut.ensures
    c.without_in.new.store c.without_in-2.new.store (Ok c.in_ok-first.first) dl.grows
    c.in_ok-first.ensures.drawn in
    let upto = Grows-then _ c.args.store.now c.without_in.new.store c.without_in-2.new.store dl.grows da.grows in
    let db = without_second c.args.store.now c.args.f.n c.pass-left.result.n c.cut_at-cut.result c.cut_at-cut.ensures
    c.without_in-2.new.store c.without_in-3.new.store (Ok c.in_ok-second.second) upto
    c.in_ok-second.ensures.drawn in
    rw (p.1, p.2) (without_passed c.args.store.now c.join_in.new.store c.args.f.n c.args.g.n c.pass-left.result.n _
    c.pass-left.ensures (Draws-refused _ _ _ c.args.store.now c.join_in.new.store _
    (Draws-after _ _ c.args.store.now c.without_in.new.store c.join_in.new.store _ dl.grows
    (without_upper c.args.store.now c.args.f.n c.pass-left.result.n c.cut_at-cut.result c.cut_at-cut.ensures
    c.without_in.new.store c.without_in-2.new.store c.without_in-3.new.store c.in_ok-first.first
    c.in_ok-second.second da db c.join_in.new.store _ c.in_err-hi.ensures.drawn))))

-- each call is of something smaller
pub without_in-requires : goal.without_in-requires
without_in-requires t c = (
  falls_left _ _ _ _ t c.cut_at-cut.ensures.less00 c.pass-left.ensures.no_more c.decreases,
  (
    c.cut_at-cut.ensures.f0_in,
    (
      c.cut_at-cut.ensures.g0_in,
      (
        c.requires.sound,
        c.requires.store,
      ),
    ),
  ),
)

pub without_in-requires-2 : goal.without_in-requires-2
without_in-requires-2 t c =
    let dl = without_lower c.args.store.now c.args.f.n c.pass-left.result.n c.cut_at-cut.result c.cut_at-cut.ensures
    c.without_in.new.store (Ok c.in_ok-lo.lo) c.in_ok-lo.ensures.drawn in (
      falls_left _ _ _ _ t c.cut_at-cut.ensures.less10 c.pass-left.ensures.no_more c.decreases,
      (
        still _ c.args.store.now c.without_in.new.store c.cut_at-cut.result.f1.n dl.grows
            c.cut_at-cut.ensures.f1_in,
        (
          still _ c.args.store.now c.without_in.new.store c.cut_at-cut.result.g0.n dl.grows
              c.cut_at-cut.ensures.g0_in,
          (
            c.in_ok-lo.ensures.sound,
            c.in_ok-lo.ensures.store,
          ),
        ),
      ),
    )

pub without_in-requires-3 : goal.without_in-requires-3
without_in-requires-3 t c =
    let dl = without_lower c.args.store.now c.args.f.n c.pass-left.result.n c.cut_at-cut.result c.cut_at-cut.ensures
    c.without_in.new.store (Ok c.in_ok-lo.lo) c.in_ok-lo.ensures.drawn in
    let da = without_first c.args.store.now c.args.f.n c.pass-left.result.n c.cut_at-cut.result c.cut_at-cut.ensures
    c.without_in.new.store c.without_in-2.new.store (Ok c.in_ok-first.first) dl.grows
    c.in_ok-first.ensures.drawn in
    let upto = Grows-then _ c.args.store.now c.without_in.new.store c.without_in-2.new.store dl.grows da.grows in (
      falls_left _ _ _ _ t c.cut_at-cut.ensures.less11 c.pass-left.ensures.no_more c.decreases,
      (
        still _ c.args.store.now c.without_in-2.new.store c.cut_at-cut.result.f1.n upto
            c.cut_at-cut.ensures.f1_in,
        (
          still _ c.args.store.now c.without_in-2.new.store c.cut_at-cut.result.g1.n upto
              c.cut_at-cut.ensures.g1_in,
          (
            c.in_ok-first.ensures.sound,
            c.in_ok-first.ensures.store,
          ),
        ),
      ),
    )

pub join_in-requires : goal.join_in-requires
join_in-requires t c =
    let dl = without_lower c.args.store.now c.args.f.n c.pass-left.result.n c.cut_at-cut.result c.cut_at-cut.ensures
    c.without_in.new.store (Ok c.in_ok-lo.lo) c.in_ok-lo.ensures.drawn in
    let da = without_first c.args.store.now c.args.f.n c.pass-left.result.n c.cut_at-cut.result c.cut_at-cut.ensures
    c.without_in.new.store c.without_in-2.new.store (Ok c.in_ok-first.first) dl.grows
    c.in_ok-first.ensures.drawn in
    let upto = Grows-then _ c.args.store.now c.without_in.new.store c.without_in-2.new.store dl.grows da.grows in
    let db = without_second c.args.store.now c.args.f.n c.pass-left.result.n c.cut_at-cut.result c.cut_at-cut.ensures
    c.without_in-2.new.store c.without_in-3.new.store (Ok c.in_ok-second.second) upto
    c.in_ok-second.ensures.drawn in
    record {
      f_in = still _ c.without_in-2.new.store c.without_in-3.new.store c.in_ok-first.first.n db.grows da.ok.0;
      g_in = db.ok.0;
      sound = c.in_ok-second.ensures.sound;
      store = c.in_ok-second.ensures.store;
    }

pub node-requires-clause-lo_in : goal.node-requires-clause-lo_in
node-requires-clause-lo_in t c =
    let dl = without_lower c.args.store.now c.args.f.n c.pass-left.result.n c.cut_at-cut.result c.cut_at-cut.ensures
    c.without_in.new.store (Ok c.in_ok-lo.lo) c.in_ok-lo.ensures.drawn in
    let da = without_first c.args.store.now c.args.f.n c.pass-left.result.n c.cut_at-cut.result c.cut_at-cut.ensures
    c.without_in.new.store c.without_in-2.new.store (Ok c.in_ok-first.first) dl.grows
    c.in_ok-first.ensures.drawn in
    let upto = Grows-then _ c.args.store.now c.without_in.new.store c.without_in-2.new.store dl.grows da.grows in
    let db = without_second c.args.store.now c.args.f.n c.pass-left.result.n c.cut_at-cut.result c.cut_at-cut.ensures
    c.without_in-2.new.store c.without_in-3.new.store (Ok c.in_ok-second.second) upto
    c.in_ok-second.ensures.drawn in
    let dh = without_upper c.args.store.now c.args.f.n c.pass-left.result.n c.cut_at-cut.result c.cut_at-cut.ensures
    c.without_in.new.store c.without_in-2.new.store c.without_in-3.new.store c.in_ok-first.first
    c.in_ok-second.second da db c.join_in.new.store (Ok c.in_ok-hi.hi) c.in_ok-hi.ensures.drawn in
    lo_in _ _ _ _ _ (without_halved c.args.store.now c.args.f.n c.pass-left.result.n c.cut_at-cut.result
    c.cut_at-cut.ensures) c.args.store.now c.without_in.new.store c.join_in.new.store c.in_ok-lo.lo c.in_ok-hi.hi dl
    dh

pub node-requires-clause-hi_in : goal.node-requires-clause-hi_in
node-requires-clause-hi_in t c =
    let dl = without_lower c.args.store.now c.args.f.n c.pass-left.result.n c.cut_at-cut.result c.cut_at-cut.ensures
    c.without_in.new.store (Ok c.in_ok-lo.lo) c.in_ok-lo.ensures.drawn in
    let da = without_first c.args.store.now c.args.f.n c.pass-left.result.n c.cut_at-cut.result c.cut_at-cut.ensures
    c.without_in.new.store c.without_in-2.new.store (Ok c.in_ok-first.first) dl.grows
    c.in_ok-first.ensures.drawn in
    let upto = Grows-then _ c.args.store.now c.without_in.new.store c.without_in-2.new.store dl.grows da.grows in
    let db = without_second c.args.store.now c.args.f.n c.pass-left.result.n c.cut_at-cut.result c.cut_at-cut.ensures
    c.without_in-2.new.store c.without_in-3.new.store (Ok c.in_ok-second.second) upto
    c.in_ok-second.ensures.drawn in
    let dh = without_upper c.args.store.now c.args.f.n c.pass-left.result.n c.cut_at-cut.result c.cut_at-cut.ensures
    c.without_in.new.store c.without_in-2.new.store c.without_in-3.new.store c.in_ok-first.first
    c.in_ok-second.second da db c.join_in.new.store (Ok c.in_ok-hi.hi) c.in_ok-hi.ensures.drawn in
    dh.ok.0

pub returns-in_err-made-clause-sound : goal.returns-in_err-made-clause-sound
returns-in_err-made-clause-sound t c =
    subst (λ (s : Stored). AreResultsHeld c.join_in.new.memo s.families) (sym c.in_err-made.ensures.err)
    c.in_ok-hi.ensures.sound

pub node-requires-clause-lo_above : goal.node-requires-clause-lo_above
node-requires-clause-lo_above t c =
    let dl = without_lower c.args.store.now c.args.f.n c.pass-left.result.n c.cut_at-cut.result c.cut_at-cut.ensures
    c.without_in.new.store (Ok c.in_ok-lo.lo) c.in_ok-lo.ensures.drawn in
    let da = without_first c.args.store.now c.args.f.n c.pass-left.result.n c.cut_at-cut.result c.cut_at-cut.ensures
    c.without_in.new.store c.without_in-2.new.store (Ok c.in_ok-first.first) dl.grows
    c.in_ok-first.ensures.drawn in
    let upto = Grows-then _ c.args.store.now c.without_in.new.store c.without_in-2.new.store dl.grows da.grows in
    let db = without_second c.args.store.now c.args.f.n c.pass-left.result.n c.cut_at-cut.result c.cut_at-cut.ensures
    c.without_in-2.new.store c.without_in-3.new.store (Ok c.in_ok-second.second) upto
    c.in_ok-second.ensures.drawn in
    let dh = without_upper c.args.store.now c.args.f.n c.pass-left.result.n c.cut_at-cut.result c.cut_at-cut.ensures
    c.without_in.new.store c.without_in-2.new.store c.without_in-3.new.store c.in_ok-first.first
    c.in_ok-second.second da db c.join_in.new.store (Ok c.in_ok-hi.hi) c.in_ok-hi.ensures.drawn in
    lo_above _ _ _ _ _ (without_halved c.args.store.now c.args.f.n c.pass-left.result.n c.cut_at-cut.result
    c.cut_at-cut.ensures) c.args.store.now c.without_in.new.store c.join_in.new.store c.in_ok-lo.lo c.in_ok-hi.hi dl
    dh

pub node-requires-clause-hi_above : goal.node-requires-clause-hi_above
node-requires-clause-hi_above t c =
    let dl = without_lower c.args.store.now c.args.f.n c.pass-left.result.n c.cut_at-cut.result c.cut_at-cut.ensures
    c.without_in.new.store (Ok c.in_ok-lo.lo) c.in_ok-lo.ensures.drawn in
    let da = without_first c.args.store.now c.args.f.n c.pass-left.result.n c.cut_at-cut.result c.cut_at-cut.ensures
    c.without_in.new.store c.without_in-2.new.store (Ok c.in_ok-first.first) dl.grows
    c.in_ok-first.ensures.drawn in
    let upto = Grows-then _ c.args.store.now c.without_in.new.store c.without_in-2.new.store dl.grows da.grows in
    let db = without_second c.args.store.now c.args.f.n c.pass-left.result.n c.cut_at-cut.result c.cut_at-cut.ensures
    c.without_in-2.new.store c.without_in-3.new.store (Ok c.in_ok-second.second) upto
    c.in_ok-second.ensures.drawn in
    let dh = without_upper c.args.store.now c.args.f.n c.pass-left.result.n c.cut_at-cut.result c.cut_at-cut.ensures
    c.without_in.new.store c.without_in-2.new.store c.without_in-3.new.store c.in_ok-first.first
    c.in_ok-second.second da db c.join_in.new.store (Ok c.in_ok-hi.hi) c.in_ok-hi.ensures.drawn in
    hi_above _ _ _ _ _ (without_halved c.args.store.now c.args.f.n c.pass-left.result.n c.cut_at-cut.result
    c.cut_at-cut.ensures) c.args.store.now c.without_in.new.store c.join_in.new.store c.in_ok-lo.lo c.in_ok-hi.hi dl
    dh

pub returns-in_err-made-clause-drawn : goal.returns-in_err-made-clause-drawn
returns-in_err-made-clause-drawn t c =
    let p = err_from_is_err_and c.from_residual-in_err-made.result c.from_residual-in_err-made.ensures.1 in
    let dl = without_lower c.args.store.now c.args.f.n c.pass-left.result.n c.cut_at-cut.result c.cut_at-cut.ensures
    c.without_in.new.store (Ok c.in_ok-lo.lo) c.in_ok-lo.ensures.drawn in
    let da = without_first c.args.store.now c.args.f.n c.pass-left.result.n c.cut_at-cut.result c.cut_at-cut.ensures
    c.without_in.new.store c.without_in-2.new.store (Ok c.in_ok-first.first) dl.grows
    c.in_ok-first.ensures.drawn in
    let upto = Grows-then _ c.args.store.now c.without_in.new.store c.without_in-2.new.store dl.grows da.grows in
    let db = without_second c.args.store.now c.args.f.n c.pass-left.result.n c.cut_at-cut.result c.cut_at-cut.ensures
    c.without_in-2.new.store c.without_in-3.new.store (Ok c.in_ok-second.second) upto
    c.in_ok-second.ensures.drawn in
    let dh = without_upper c.args.store.now c.args.f.n c.pass-left.result.n c.cut_at-cut.result c.cut_at-cut.ensures
    c.without_in.new.store c.without_in-2.new.store c.without_in-3.new.store c.in_ok-first.first
    c.in_ok-second.second da db c.join_in.new.store (Ok c.in_ok-hi.hi) c.in_ok-hi.ensures.drawn in
    rw (p.1, p.2) (without_passed c.args.store.now c.node.new.self c.args.f.n c.args.g.n c.pass-left.result.n _
    c.pass-left.ensures (done _ _ _ _ _
    (without_halved c.args.store.now c.args.f.n c.pass-left.result.n c.cut_at-cut.result c.cut_at-cut.ensures)
    c.args.store.now c.without_in.new.store c.join_in.new.store c.in_ok-lo.lo c.in_ok-hi.hi dl dh c.node.new.self _
    c.in_err-made.ensures.drawn))

pub returns-clause-drawn : goal.returns-clause-drawn
returns-clause-drawn t c =
    let dl = without_lower c.args.store.now c.args.f.n c.pass-left.result.n c.cut_at-cut.result c.cut_at-cut.ensures
    c.without_in.new.store (Ok c.in_ok-lo.lo) c.in_ok-lo.ensures.drawn in
    let da = without_first c.args.store.now c.args.f.n c.pass-left.result.n c.cut_at-cut.result c.cut_at-cut.ensures
    c.without_in.new.store c.without_in-2.new.store (Ok c.in_ok-first.first) dl.grows
    c.in_ok-first.ensures.drawn in
    let upto = Grows-then _ c.args.store.now c.without_in.new.store c.without_in-2.new.store dl.grows da.grows in
    let db = without_second c.args.store.now c.args.f.n c.pass-left.result.n c.cut_at-cut.result c.cut_at-cut.ensures
    c.without_in-2.new.store c.without_in-3.new.store (Ok c.in_ok-second.second) upto
    c.in_ok-second.ensures.drawn in
    let dh = without_upper c.args.store.now c.args.f.n c.pass-left.result.n c.cut_at-cut.result c.cut_at-cut.ensures
    c.without_in.new.store c.without_in-2.new.store c.without_in-3.new.store c.in_ok-first.first
    c.in_ok-second.second da db c.join_in.new.store (Ok c.in_ok-hi.hi) c.in_ok-hi.ensures.drawn in
    handed _ _ c.args.store.now c.node.new.self c.in_ok-made.made c.remember.result
    (without_passed c.args.store.now c.node.new.self c.args.f.n c.args.g.n c.pass-left.result.n _ c.pass-left.ensures
    (done _ _ _ _ _ (without_halved c.args.store.now c.args.f.n c.pass-left.result.n c.cut_at-cut.result
    c.cut_at-cut.ensures) c.args.store.now c.without_in.new.store c.join_in.new.store c.in_ok-lo.lo c.in_ok-hi.hi dl
    dh c.node.new.self _ c.in_ok-made.ensures.drawn))
    c.remember.ensures.number

pub returns-clause-sound : goal.returns-clause-sound
returns-clause-sound t c =
    let dl = without_lower c.args.store.now c.args.f.n c.pass-left.result.n c.cut_at-cut.result c.cut_at-cut.ensures
    c.without_in.new.store (Ok c.in_ok-lo.lo) c.in_ok-lo.ensures.drawn in
    let da = without_first c.args.store.now c.args.f.n c.pass-left.result.n c.cut_at-cut.result c.cut_at-cut.ensures
    c.without_in.new.store c.without_in-2.new.store (Ok c.in_ok-first.first) dl.grows
    c.in_ok-first.ensures.drawn in
    let upto = Grows-then _ c.args.store.now c.without_in.new.store c.without_in-2.new.store dl.grows da.grows in
    let db = without_second c.args.store.now c.args.f.n c.pass-left.result.n c.cut_at-cut.result c.cut_at-cut.ensures
    c.without_in-2.new.store c.without_in-3.new.store (Ok c.in_ok-second.second) upto
    c.in_ok-second.ensures.drawn in
    let dh = without_upper c.args.store.now c.args.f.n c.pass-left.result.n c.cut_at-cut.result c.cut_at-cut.ensures
    c.without_in.new.store c.without_in-2.new.store c.without_in-3.new.store c.in_ok-first.first
    c.in_ok-second.second da db c.join_in.new.store (Ok c.in_ok-hi.hi) c.in_ok-hi.ensures.drawn in
    let w = done _ _ _ _ _ (without_halved c.args.store.now c.args.f.n c.pass-left.result.n c.cut_at-cut.result
    c.cut_at-cut.ensures) c.args.store.now c.without_in.new.store c.join_in.new.store c.in_ok-lo.lo
    c.in_ok-hi.hi dl dh c.node.new.self _ c.in_ok-made.ensures.drawn in
    IsSound-remember _ _ c.args.store.now c.join_in.new.store c.node.new.self (Without c.args.f c.pass-left.result)
    c.in_ok-made.made c.join_in.new.memo c.remember.new.self w.grows (c.requires.f_in, c.pass-left.ensures.left_in)
    c.in_ok-made.ensures.drawn.grows c.in_ok-hi.ensures.sound w.ok c.remember.ensures.entry
