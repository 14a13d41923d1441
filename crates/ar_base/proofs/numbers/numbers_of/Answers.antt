use Rattle.std.proofs.Common.{ap, ◌∙◌}
use Rattle.std.proofs.lemmas.List.{take_all}
use Rattle.ar_base.specs.NumbersInside.{numbers_of}
use Rattle.ar_base.proofs.Counting.{numbers_more}
use Rattle.ar_base.proofs.numbers.numbers_of.Goals as goal

pub loop-id-preserved : goal.loop-id-preserved
loop-id-preserved g c = c.in_ok-push.ensures.items
    ∙ numbers_more c.args.ids.now c.loop-id.id-index (record { n = 0; of = record {} }) c.loop-id.numbers.items
    c.loop-id-test.true c.loop-id.invariant

pub returns : goal.returns
returns g c = c.loop-id.invariant
    ∙ ap numbers_of (take_all c.loop-id.id-index c.args.ids.now c.loop-id-test.false)
