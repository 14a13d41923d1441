use Rattle.std.proofs.Common.{length, get_or, inl}
use Rattle.std.proofs.lemmas.Option.{slice_get-get_or}
use Rattle.flow_propagate.proofs.Worklists.{adds_none, adds_again, ok_by}
use Rattle.flow_propagate.proofs.worklist.add.Goals as goal

pub returns-then-work-place : goal.returns-then-work-place
returns-then-work-place c =
    let places = c.args.work.now.places.now in
    adds_none (length places) c.args.assign (get_or places c.args.assign 0) c.args.work.now c.requires.is
    (slice_get-get_or places c.args.assign 0 c.requires.below) (inl c.if-work-place.true)

pub returns : goal.returns
returns c =
    let places = c.args.work.now.places.now in
    let st = slice_get-get_or places c.args.assign 0 c.requires.below in
    ok_by _ _ _ c.add_again.result
    (λ all few. adds_again (length places) c.args.assign (get_or places c.args.assign 0) c.args.work.now
    c.add_again.new.again c.requires.is st all few) c.add_again.ensures.all c.add_again.ensures.few
