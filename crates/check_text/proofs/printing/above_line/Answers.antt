use Rattle.std.proofs.Common.{◌≡◌, ◌++◌, ℕ, codes, decimal, refl}
use Rattle.ar_base.proofs.Lines.{line_after}
use Rattle.ar_io.proofs.Writing.{writes_exit, writes_on, writes_front, writes_as}
use Rattle.check_text.specs.Texts.{above_line}
use Rattle.check_text.proofs.printing.above_line.Goals as goal

-- the pieces make the line
pieces : (n : ℕ) → codes "line " ++ (decimal n ++ codes " above\n") ≡ above_line n
pieces n = line_after (codes "line ") (decimal n ++ codes " above") _ (line_after (decimal n) (codes " above") _ refl)

pub returns-in_err-write_text : goal.returns-in_err-write_text
returns-in_err-write_text g c =
    writes_exit _ _ c.from_residual.ensures.1
    (writes_as _ _ (pieces c.args.number) (writes_front _ _ c.in_err-write_text.ensures))

pub returns-in_err-write_number : goal.returns-in_err-write_number
returns-in_err-write_number g c =
    writes_exit _ _ c.from_residual-in_err-write_number.ensures.1
    (writes_as _ _ (pieces c.args.number)
    (writes_on c.in_ok-write_text.ensures (writes_front _ _ c.in_err-write_number.ensures)))

pub returns : goal.returns
returns g c =
    writes_as _ _ (pieces c.args.number)
    (writes_on c.in_ok-write_text.ensures (writes_on c.in_ok-write_number.ensures c.write_text-2.ensures))
