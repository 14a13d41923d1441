use Rattle.std.proofs.Common.{◌≡◌, ◌++◌, ◌∷◌, [], List, ℕ, codes, decimal, ap, ◌∙◌, refl}
use Rattle.ar_base.specs.Counts.{limit_of}
use Rattle.ar_base.specs.declared.counts.Count.{Count}
use Rattle.ar_io.proofs.Writing.{writes_exit, writes_on, writes_front, writes_as}
use Rattle.job_stages.specs.Refusals.{count_text, line_of}
use Rattle.job_stages.specs.declared.refusals.Refusal.TheVariants.{Size}
use Rattle.job_stages.proofs.LineLemmas.{line_four}
use Rattle.job_stages.proofs.refusals.put_size.Goals as goal

-- the line of a limit in its five parts
sized : (count : Count) (what : List ℕ) (limit : ℕ) → what ≡ count_text count → limit ≡ limit_of count
    → codes "size: " ++ (what ++ (codes " " ++ (decimal limit ++ 10 ∷ []))) ≡ line_of (Size count)
sized count what limit e i =
    ap (λ (w : List ℕ). codes "size: " ++ (w ++ (codes " " ++ (decimal limit ++ 10 ∷ [])))) e
    ∙ ap (λ (n : ℕ). codes "size: " ++ (count_text count ++ (codes " " ++ (decimal n ++ 10 ∷ [])))) i
    ∙ line_four (codes "size: ") (count_text count) (codes " ") (decimal (limit_of count))

pub returns-in_err-write_text : goal.returns-in_err-write_text
returns-in_err-write_text g c =
    writes_exit _ _ c.from_residual.ensures.1
    (writes_front _ _ c.in_err-write_text.ensures)

pub returns-in_err-write_text-2 : goal.returns-in_err-write_text-2
returns-in_err-write_text-2 g c =
    writes_exit _ _ c.from_residual-in_err-write_text-2.ensures.1
    (writes_as _ _ (sized c.args.count _ _ c.count_text.ensures refl)
    (writes_on c.in_ok-write_text.ensures (writes_front _ _ c.in_err-write_text-2.ensures)))

pub returns-in_err-write_text-3 : goal.returns-in_err-write_text-3
returns-in_err-write_text-3 g c =
    writes_exit _ _ c.from_residual-in_err-write_text-3.ensures.1
    (writes_as _ _ (sized c.args.count _ _ c.count_text.ensures refl)
    (writes_on c.in_ok-write_text.ensures (writes_on c.in_ok-write_text-2.ensures (writes_front _ _ c.in_err-write_text-3.ensures))))

pub returns-in_err-write_number : goal.returns-in_err-write_number
returns-in_err-write_number g c =
    writes_exit _ _ c.from_residual-in_err-write_number.ensures.1
    (writes_as _ _ (sized c.args.count _ _ c.count_text.ensures c.limit.ensures)
    (writes_on c.in_ok-write_text.ensures (writes_on c.in_ok-write_text-2.ensures
    (writes_on c.in_ok-write_text-3.ensures (writes_front _ _ c.in_err-write_number.ensures)))))

pub returns : goal.returns
returns g c =
    writes_as _ _ (sized c.args.count _ _ c.count_text.ensures c.limit.ensures)
    (writes_on c.in_ok-write_text.ensures (writes_on c.in_ok-write_text-2.ensures
    (writes_on c.in_ok-write_text-3.ensures (writes_on c.in_ok-write_number.ensures c.write_text-4.ensures))))
