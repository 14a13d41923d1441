use Rattle.std.proofs.Common.{◌≡◌, length, reverse, sym, ap, ◌∙◌, arith}
use Rattle.std.proofs.lemmas.List.{length-reverse}
use Rattle.stepper.specs.Steps.{Standing}
use Rattle.stepper.specs.Keeping.{point_of}
use Rattle.stepper.proofs.Going.{below_long}
use Rattle.stepper.proofs.stepper.Stepper.steps.Goals as goal

pub returns : goal.returns
returns c =
    let s = c.self.inside in
    let count : c.len.result ≡ length s.steps.items = omega (arith, s.steps.ok.0) in
    count ∙ sym (length-reverse s.steps.items) ∙ sym (below_long s.gts.now (point_of s) (reverse s.steps.items))
    ∙ ap (λ (z : Standing). length z.below) c.self.view_is
