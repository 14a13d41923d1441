use Rattle.std.proofs.Common.{◌≡◌, ◌++◌, ◌∷◌, [], List, ℕ, codes, decimal, ap, ◌∙◌}
use Rattle.ar_base.specs.Texts.{line}
use Rattle.ar_io.proofs.Writing.{writes_exit, writes_on, writes_front, writes_as}
use Rattle.job_stages.proofs.LineLemmas.{line_four}
use Rattle.job_stages.proofs.refusals.put_outside.Goals as goal

-- the line of a broken rule in its five parts
shown : (n rule : ℕ) (path : List ℕ) → n ≡ rule
    → codes "outside: S" ++ (decimal n ++ (codes " at " ++ (path ++ 10 ∷ [])))
    ≡ line (codes "outside: S" ++ (decimal rule ++ (codes " at " ++ path)))
shown n rule path e =
    line_four (codes "outside: S") (decimal n) (codes " at ") path
    ∙ ap (λ (k : ℕ). line (codes "outside: S" ++ (decimal k ++ (codes " at " ++ path)))) e

pub returns-in_err-write_text : goal.returns-in_err-write_text
returns-in_err-write_text g c =
    writes_exit _ _ c.from_residual.ensures.1
    (writes_front _ _ c.in_err-write_text.ensures)

pub returns-in_err-write_number : goal.returns-in_err-write_number
returns-in_err-write_number g c =
    writes_exit _ _ c.from_residual-in_err-write_number.ensures.1
    (writes_as _ _ (shown _ _ c.args.path.now c.from.ensures)
    (writes_on c.in_ok-write_text.ensures (writes_front _ _ c.in_err-write_number.ensures)))

pub returns-in_err-write_text-2 : goal.returns-in_err-write_text-2
returns-in_err-write_text-2 g c =
    writes_exit _ _ c.from_residual-in_err-write_text-2.ensures.1
    (writes_as _ _ (shown _ _ c.args.path.now c.from.ensures)
    (writes_on c.in_ok-write_text.ensures (writes_on c.in_ok-write_number.ensures (writes_front _ _ c.in_err-write_text-2.ensures))))

pub returns-in_err-write_text-3 : goal.returns-in_err-write_text-3
returns-in_err-write_text-3 g c =
    writes_exit _ _ c.from_residual-in_err-write_text-3.ensures.1
    (writes_as _ _ (shown _ _ c.args.path.now c.from.ensures)
    (writes_on c.in_ok-write_text.ensures (writes_on c.in_ok-write_number.ensures
    (writes_on c.in_ok-write_text-2.ensures (writes_front _ _ c.in_err-write_text-3.ensures)))))

pub returns : goal.returns
returns g c =
    writes_as _ _ (shown _ _ c.args.path.now c.from.ensures)
    (writes_on c.in_ok-write_text.ensures (writes_on c.in_ok-write_number.ensures
    (writes_on c.in_ok-write_text-2.ensures (writes_on c.in_ok-write_text-3.ensures c.write_text-4.ensures))))
