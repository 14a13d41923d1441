use Rattle.std.proofs.Common.{◌≡◌, ◌++◌, ◌∷◌, [], List, ℕ, codes, decimal, sym, ◌∙◌, ap, append_assoc}
use Rattle.ar_io.proofs.Writing.{writes_exit, writes_on, writes_front, writes_as}
use Rattle.check_text.specs.Printed.{verdict_text, verdict_line}
use Rattle.cut_check.specs.declared.checking.Verdict.{Verdict}
use Rattle.check_text.proofs.printing.verdict_line.Goals as goal

-- the pieces make the line
pieces : (n : ℕ) (v : Verdict) → codes "line " ++ (decimal n ++ (codes " " ++ (verdict_text v ++ 10 ∷ [])))
    ≡ verdict_line n v
pieces n v =
    sym (append_assoc (codes "line ") (decimal n ++ (codes " " ++ verdict_text v)) (10 ∷ [])
    ∙ ap (λ (z : List ℕ). codes "line " ++ z) (append_assoc (decimal n) (codes " " ++ verdict_text v) (10 ∷ [])
    ∙ ap (λ (z : List ℕ). decimal n ++ z) (append_assoc (codes " ") (verdict_text v) (10 ∷ []))))

pub returns-in_err-write_text : goal.returns-in_err-write_text
returns-in_err-write_text g c =
    writes_exit _ _ c.from_residual.ensures.1
    (writes_as _ _ (pieces c.args.number c.args.verdict) (writes_front _ _ c.in_err-write_text.ensures))

pub returns-in_err-write_number : goal.returns-in_err-write_number
returns-in_err-write_number g c =
    writes_exit _ _ c.from_residual-in_err-write_number.ensures.1
    (writes_as _ _ (pieces c.args.number c.args.verdict)
    (writes_on c.in_ok-write_text.ensures (writes_front _ _ c.in_err-write_number.ensures)))

pub returns-in_err-write_text-2 : goal.returns-in_err-write_text-2
returns-in_err-write_text-2 g c =
    writes_exit _ _ c.from_residual-in_err-write_text-2.ensures.1
    (writes_as _ _ (pieces c.args.number c.args.verdict)
    (writes_on c.in_ok-write_text.ensures (writes_on c.in_ok-write_number.ensures
    (writes_front _ _ c.in_err-write_text-2.ensures))))

pub returns-in_err-said : goal.returns-in_err-said
returns-in_err-said g c =
    writes_exit _ _ c.from_residual-in_err-said.ensures.1
    (writes_as _ _ (pieces c.args.number c.args.verdict)
    (writes_on c.in_ok-write_text.ensures (writes_on c.in_ok-write_number.ensures
    (writes_on c.in_ok-write_text-2.ensures (writes_front _ _ c.in_err-said.ensures)))))

pub returns : goal.returns
returns g c =
    writes_as _ _ (pieces c.args.number c.args.verdict)
    (writes_on c.in_ok-write_text.ensures (writes_on c.in_ok-write_number.ensures
    (writes_on c.in_ok-write_text-2.ensures (writes_on c.in_ok-said.ensures c.write_text-3.ensures))))
