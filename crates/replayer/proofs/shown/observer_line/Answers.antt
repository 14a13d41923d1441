use Rattle.ar_io.proofs.Writing.{writes_exit, writes_on, writes_front, writes_as}
use Rattle.std.proofs.Common.{ℕ, List, ◌++◌, codes, ap}
use Rattle.ar_meaning.specs.ValueTexts.{value_text}
use Rattle.replayer.proofs.shown.observer_line.Goals as goal

pub returns-in_err-write_text : goal.returns-in_err-write_text
returns-in_err-write_text g c =
    writes_exit _ _ c.from_residual.ensures.1
    (writes_front _ _ c.in_err-write_text.ensures)

pub returns-in_err-named_value : goal.returns-in_err-named_value
returns-in_err-named_value g c =
    writes_exit _ _ c.from_residual-in_err-named_value.ensures.1
    (writes_on c.in_ok-write_text.ensures (writes_front _ _
    (writes_as _ _ (ap (λ (z : List ℕ). z ++ (codes " = " ++ value_text c.args.parts.now.symbols.items c.args.v))
    c.observer_path.ensures) c.in_err-named_value.ensures)))

pub returns : goal.returns
returns g c =
    writes_on c.in_ok-write_text.ensures (writes_on
    (writes_as _ _ (ap (λ (z : List ℕ). z ++ (codes " = " ++ value_text c.args.parts.now.symbols.items c.args.v))
    c.observer_path.ensures) c.in_ok-named_value.ensures) c.write_text-2.ensures)
