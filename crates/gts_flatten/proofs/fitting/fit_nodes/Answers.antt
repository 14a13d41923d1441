use Rattle.std.proofs.Common.{◌≡◌, [], refl, min, arith}
use Rattle.ar_base.specs.Stages.{fits, passes_it}
use Rattle.gts_flatten.specs.Sizes.{system_nodes}
use Rattle.gts_flatten.proofs.Fitted.{system_counted, fit_counted}
use Rattle.gts_flatten.proofs.fitting.fit_nodes.Goals as goal

pub returns-then-sum-ge-TOO_MANY : goal.returns-then-sum-ge-TOO_MANY
returns-then-sum-ge-TOO_MANY c = λ system is.
    let e = system_counted c.args.events.now c.args.assertions.now c.args.observers.now system is in
    let n : c.sum-2.result ≡ min 1000001 (system_nodes system) =
    fit_counted _ _ _ _ c.events_nodes-own.result c.acts_nodes-flows.result c.observer_nodes-seen.result
    c.sum.result c.sum-2.result e c.events_nodes-own.ensures
    (c.acts_nodes-flows.ensures [] refl) c.observer_nodes-seen.ensures c.sum.ensures c.sum-2.ensures in
    passes_it (omega (arith, n, c.if-sum-ge-TOO_MANY.true))

pub returns : goal.returns
returns c = λ system is.
    let e = system_counted c.args.events.now c.args.assertions.now c.args.observers.now system is in
    let n : c.sum-2.result ≡ min 1000001 (system_nodes system) =
    fit_counted _ _ _ _ c.events_nodes-own.result c.acts_nodes-flows.result c.observer_nodes-seen.result
    c.sum.result c.sum-2.result e c.events_nodes-own.ensures
    (c.acts_nodes-flows.ensures [] refl) c.observer_nodes-seen.ensures c.sum.ensures c.sum-2.ensures in
    (system, fits (omega (arith, n, c.if-sum-ge-TOO_MANY.false)), tt)
