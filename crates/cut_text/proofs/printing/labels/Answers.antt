use Rattle.std.proofs.Common.{List, ap, sym, true, codes}
use Rattle.ar_base.specs.NumbersInside.{EventId}
use Rattle.ar_base.specs.Texts.{separated}
use Rattle.ar_io.proofs.Writing.{writes_exit, writes_on, writes_front, writes_as}
use Rattle.min_cuts.specs.Kept.{numbers_of_set}
use Rattle.cut_text.specs.Tables.{texts_at}
use Rattle.cut_text.proofs.Pieces.{have_first, have_rest}
use Rattle.cut_text.proofs.printing.labels.Goals as goal

pub label-requires : goal.label-requires
label-requires g c =
    have_first c.args.gts.now c.args.ways.now c.args.events.now c.in-Some.first.now c.in-Some.others.now
    c.in-Some.ensures.cases.0 c.requires

pub more_labels-requires : goal.more_labels-requires
more_labels-requires g c =
    have_rest c.args.gts.now c.args.ways.now c.args.events.now c.in-Some.first.now c.in-Some.others.now
    c.in-Some.ensures.cases.0 c.requires

pub returns-in_err-label : goal.returns-in_err-label
returns-in_err-label g c =
    writes_exit _ _ c.from_residual.ensures.1
    (writes_as _ _ (ap (λ (z : List EventId). separated true (codes ", ")
    (texts_at c.args.gts.now c.args.ways.now (numbers_of_set z))) (sym c.in-Some.ensures.cases.0))
    (writes_front _ _ c.in_err-label.ensures))

pub returns : goal.returns
returns g c =
    writes_as _ _ (ap (λ (z : List EventId). separated true (codes ", ")
    (texts_at c.args.gts.now c.args.ways.now (numbers_of_set z))) (sym c.in-Some.ensures.cases.0))
    (writes_on c.in_ok-label.ensures c.more_labels.ensures)
