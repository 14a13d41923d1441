use Rattle.std.proofs.Common.{◌≡◌, ◌++◌, List, ℕ, codes, decimal, ap, ◌∙◌}
use Rattle.ar_base.specs.Texts.{line}
use Rattle.ar_io.proofs.Writing.{writes_exit, writes_on, writes_front, writes_as}
use Rattle.job_stages.specs.Refusals.{place_text}
use Rattle.job_stages.proofs.LineLemmas.{line_onto}
use Rattle.job_stages.proofs.refusals.put_rule.Goals as goal

-- the line of a rule in its four parts
ruled : (n rule : ℕ) (place : List ℕ) → n ≡ rule
    → codes "rule: L" ++ (decimal n ++ (codes " at " ++ line place))
    ≡ line (codes "rule: L" ++ (decimal rule ++ (codes " at " ++ place)))
ruled n rule place e =
    line_onto (codes "rule: L") (decimal n) (codes " at " ++ place)
    ∙ ap (λ (k : ℕ). line (codes "rule: L" ++ (decimal k ++ (codes " at " ++ place)))) e

pub returns-in_err-write_text : goal.returns-in_err-write_text
returns-in_err-write_text g c =
    writes_exit _ _ c.from_residual.ensures.1
    (writes_front _ _ c.in_err-write_text.ensures)

pub returns-in_err-write_number : goal.returns-in_err-write_number
returns-in_err-write_number g c =
    writes_exit _ _ c.from_residual-in_err-write_number.ensures.1
    (writes_as _ _ (ruled _ _ (place_text c.args.place) c.from.ensures)
    (writes_on c.in_ok-write_text.ensures (writes_front _ _ c.in_err-write_number.ensures)))

pub returns-in_err-write_text-2 : goal.returns-in_err-write_text-2
returns-in_err-write_text-2 g c =
    writes_exit _ _ c.from_residual-in_err-write_text-2.ensures.1
    (writes_as _ _ (ruled _ _ (place_text c.args.place) c.from.ensures)
    (writes_on c.in_ok-write_text.ensures (writes_on c.in_ok-write_number.ensures (writes_front _ _ c.in_err-write_text-2.ensures))))

pub returns : goal.returns
returns g c =
    writes_as _ _ (ruled _ _ (place_text c.args.place) c.from.ensures)
    (writes_on c.in_ok-write_text.ensures (writes_on c.in_ok-write_number.ensures
    (writes_on c.in_ok-write_text-2.ensures c.put_place.ensures)))
