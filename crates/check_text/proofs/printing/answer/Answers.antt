use Rattle.std.proofs.Common.{◌++◌, ℕ, List, ap}
use Rattle.ar_io.proofs.Writing.{writes_exit, writes_on, writes_front, writes_as}
use Rattle.cut_text.specs.Texts.{order_end}
use Rattle.check_text.proofs.printing.answer.Goals as goal

pub returns-in_err-write_text : goal.returns-in_err-write_text
returns-in_err-write_text g c =
    writes_exit _ _ c.from_residual.ensures.1
    (writes_as _ _ (ap (λ (z : List ℕ). z ++ order_end c.args.order) c.word.ensures)
    (writes_front _ _ c.in_err-write_text.ensures))

pub returns : goal.returns
returns g c =
    writes_as _ _ (ap (λ (z : List ℕ). z ++ order_end c.args.order) c.word.ensures)
    (writes_on c.in_ok-write_text.ensures c.write_order_end.ensures)
