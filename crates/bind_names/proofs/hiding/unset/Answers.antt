use Rattle.std.proofs.Common.{◌≡◌, ℕ, ◌++◌, ◌∷◌, [], List, Bool, replicate, false, ◌∙◌, ap, arith}
use Rattle.bind_names.proofs.Marked.{replicate_next}
use Rattle.bind_names.proofs.hiding.unset.Goals as goal

pub loop-init : goal.loop-init
loop-init c = c.new-marks.ensures.items

pub loop-preserved : goal.loop-preserved
loop-preserved c = c.in_ok-push.ensures.items
    ∙ (ap (λ (xs : List Bool). xs ++ false ∷ []) c.loop.invariant ∙ replicate_next c.loop.counter)

pub returns : goal.returns
returns c =
    let e : c.loop.counter ≡ c.args.count = omega (arith, c.loop-test.false, c.loop.auto.counter-end) in
    c.loop.invariant ∙ ap (λ (n : ℕ). replicate n false) e
