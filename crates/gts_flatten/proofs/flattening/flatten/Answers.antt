use Rattle.std.proofs.Common.{map, length}
use Rattle.std.proofs.lemmas.Result.{err_from_is_err_and}
use Rattle.gts_core.specs.Bound.{declared_from}
use Rattle.sync_expand.proofs.DeclaredLemmas.{declared_key, declared_keyed}
use Rattle.sync_expand.proofs.WaysLemmas.{are_counts}
use Rattle.gts_flatten.proofs.Planning.{are_declared}
use Rattle.gts_flatten.proofs.Staged.{refused_told, refused_so, passed, nodes_refused, is_system, flattens, ways_of, flat_of, few_assigns, expandable, events_different, elaborated}
use Rattle.gts_flatten.proofs.Sound.{plan_small, sound}
use Rattle.gts_flatten.proofs.Flattened.{is_flat}
use Rattle.gts_flatten.proofs.flattening.flatten.Goals as goal

pub ways-requires : goal.ways-requires
ways-requires c = rw c.deref.ensures.value (expandable c.args.bound.now c.requires)

pub returns-in_err-plan : goal.returns-in_err-plan
returns-in_err-plan c m units d k are of from =
    let r = err_from_is_err_and c.from_residual.result c.from_residual.ensures.1 in
    let different = events_different m units d k are of in
    refused_so d c.args.bound.now from different _ _ _ r.1 r.2
    (refused_told d c.args.bound.now from different _ (rw c.deref.ensures.value at c.in_err-plan.ensures))

pub returns-in_err-fit_nodes : goal.returns-in_err-fit_nodes
returns-in_err-fit_nodes c m units d k are of from =
    let r = err_from_is_err_and c.from_residual-in_err-fit_nodes.result c.from_residual-in_err-fit_nodes.ensures.1 in
    let different = events_different m units d k are of in
    let e = rw c.deref.ensures.value at c.in_ok-plan.ensures in
    let p = passed d c.args.bound.now from different e.0 e.1 in
    let f = rw c.deref-2.ensures.value
    at (rw c.deref-3.ensures.value at (rw c.deref-4.ensures.value at c.in_err-fit_nodes.ensures)) in
    refused_so d c.args.bound.now from different _ _ _ r.1 r.2
    (nodes_refused d c.args.bound.now from different e.0 p _
    (f p.meant.flat (is_system d c.args.bound.now from different p.meant)))

pub parts_of-requires-clause-plan : goal.parts_of-requires-clause-plan
parts_of-requires-clause-plan c =
    let e = rw c.deref.ensures.value at c.in_ok-plan.ensures in
    let w = ways_of c.args.bound.now.events.items e.0 e.1 in
    rw c.deref-5.ensures.value (plan_small c.args.bound.now e.0 w.0 c.in_ok-plan.plan.items e.2.is c.requires w.1)

pub parts_of-requires-clause-declared : goal.parts_of-requires-clause-declared
parts_of-requires-clause-declared c =
    let e = rw c.deref.ensures.value at c.in_ok-plan.ensures in
    rw c.deref-5.ensures.value (are_declared c.args.bound.now.events.items (map length e.0) c.in_ok-plan.plan.items e.2.is)

pub new-requires : goal.new-requires
new-requires c =
    let b = c.args.bound.now in
    let e = rw c.deref.ensures.value at c.in_ok-plan.ensures in
    let w = ways_of b.events.items e.0 e.1 in
    let n = are_counts (declared_from 0 b.events.items) (declared_keyed b.events.items) (declared_key b.events.items)
    e.0 w.0 in
    let made = (rw c.deref-5.ensures.value at c.in_ok-parts.ensures) (map length e.0) n e.2.is in
    let f = flat_of b e.0 w.0 in
    let g = (rw c.deref-2.ensures.value
    at (rw c.deref-3.ensures.value at (rw c.deref-4.ensures.value at c.in_ok-fit_nodes.ensures))) f.0 f.1 in
    sound b e.0 w.0 c.in_ok-plan.plan.items e.2.is c.requires c.in_ok-parts.parts made w.1
    (few_assigns b f.0 g.0 f.1 g.1)

pub returns : goal.returns
returns c m units d k are of from =
    let b = c.args.bound.now in
    let different = events_different m units d k are of in
    let e = rw c.deref.ensures.value at c.in_ok-plan.ensures in
    let p = passed d b from different e.0 e.1 in
    let w = ways_of b.events.items e.0 e.1 in
    let n = are_counts (declared_from 0 b.events.items) (declared_keyed b.events.items) (declared_key b.events.items)
    e.0 w.0 in
    let made = (rw c.deref-5.ensures.value at c.in_ok-parts.ensures) (map length e.0) n e.2.is in
    let g = (rw c.deref-2.ensures.value
    at (rw c.deref-3.ensures.value at (rw c.deref-4.ensures.value at c.in_ok-fit_nodes.ensures)))
    p.meant.flat (is_system d b from different p.meant) in
    let is_sound = sound b e.0 w.0 c.in_ok-plan.plan.items e.2.is c.requires c.in_ok-parts.parts made w.1 (few_assigns b p.meant.flat g.0 (is_system d b from different p.meant) g.1) in (
      elaborated d b from different p.meant,
      flattens d b from different e.0 p g.0 g.1,
      rw c.new.ensures (is_flat d b from different p.meant w.0 c.in_ok-plan.plan.items e.2.is c.requires
          c.in_ok-parts.parts made is_sound),
    )
