use Rattle.std.proofs.Common.{◌&&◌, Bool, ap, sym, ◌∙◌}
use Rattle.ar_io.proofs.Writing.{writes_exit, writes_on, writes_front, writes_as}
use Rattle.min_cuts.specs.Kept.{numbers_of_set}
use Rattle.check_text.proofs.Listing.{listed_yes, listed_not, missing_none, missing_some, and_false, on_ok}
use Rattle.check_text.proofs.printing.missing_line.Goals as goal
use Rattle.cut_check.proofs.LookupLemmas.{has_room}
use Rattle.eq_core.proofs.Telling.{and_true}

pub has-requires : goal.has-requires
has-requires g c = has_room c.args.gts.now c.requires.sets.lines c.args.sets.now (numbers_of_set c.args.events.now)
    c.requires.sets.are c.requires.events

pub returns-then-has-clause-text : goal.returns-then-has-clause-text
returns-then-has-clause-text g c = λ lines are.
    writes_as _ _ (missing_none c.args.gts.now c.args.ways.now lines (numbers_of_set c.args.events.now)
    (c.if-has.ensures.answer c.args.gts.now lines are)) c.write_text.ensures

pub returns-then-has-clause-whole : goal.returns-then-has-clause-whole
returns-then-has-clause-whole g c = λ lines are.
    on_ok _ c.write_text.result
    (and_true c.args.whole.now ∙ ap (λ (b : Bool). c.args.whole.now && b)
    (sym (listed_yes lines (numbers_of_set c.args.events.now) (c.if-has.ensures.answer c.args.gts.now lines are))))

pub returns-in_err-write_text-clause-text : goal.returns-in_err-write_text-clause-text
returns-in_err-write_text-clause-text g c = λ lines are.
    writes_exit _ _ c.from_residual.ensures.1
    (writes_as _ _ (missing_some c.args.gts.now c.args.ways.now lines (numbers_of_set c.args.events.now)
    (c.if-has.ensures.answer c.args.gts.now lines are)) (writes_front _ _ c.in_err-write_text.ensures))

pub returns-in_err-write_set-clause-text : goal.returns-in_err-write_set-clause-text
returns-in_err-write_set-clause-text g c = λ lines are.
    writes_exit _ _ c.from_residual-in_err-write_set.ensures.1
    (writes_as _ _ (missing_some c.args.gts.now c.args.ways.now lines (numbers_of_set c.args.events.now)
    (c.if-has.ensures.answer c.args.gts.now lines are))
    (writes_on c.in_ok-write_text.ensures (writes_front _ _ c.in_err-write_set.ensures)))

pub returns-clause-text : goal.returns-clause-text
returns-clause-text g c = λ lines are.
    writes_as _ _ (missing_some c.args.gts.now c.args.ways.now lines (numbers_of_set c.args.events.now)
    (c.if-has.ensures.answer c.args.gts.now lines are))
    (writes_on c.in_ok-write_text.ensures (writes_on c.in_ok-write_set.ensures c.write_text-3.ensures))

pub returns-clause-whole : goal.returns-clause-whole
returns-clause-whole g c = λ lines are.
    on_ok _ c.write_text-3.result
    (and_false c.args.whole.now ∙ ap (λ (b : Bool). c.args.whole.now && b)
    (sym (listed_not lines (numbers_of_set c.args.events.now) (c.if-has.ensures.answer c.args.gts.now lines are))))
