use Rattle.std.proofs.Common.{◌≡◌, ◌∙◌, ℕ, ◌++◌, ◌∷◌, [], codes, decimal, length, refl, ap, rules}
use Rattle.ar_io.proofs.Writing.{writes_exit, writes_on, writes_front, writes_as}
use Rattle.gts_core.specs.declared.system.GtsParts.{GtsParts}
use Rattle.job_stages.specs.Tells.{counts_line}
use Rattle.job_stages.proofs.LineLemmas.{line_counts, counts_same}
use Rattle.job_stages.proofs.telling.write_counts.Goals as goal

-- the four parts of the line, by the numbers of what a system has
parts_line : {p q : GtsParts} → p ≡ q → (u v e o : ℕ) → u ≡ length p.units.items → v ≡ length p.variables.items
    → e ≡ length p.events.items → o ≡ length p.observers.items
    → (codes "ok units " ++ decimal u) ++ ((codes " variables " ++ decimal v) ++ ((codes " events " ++ decimal e)
    ++ ((codes " observers " ++ decimal o) ++ 10 ∷ [])))
    ≡ counts_line (length q.units.items) (length q.variables.items) (length q.events.items) (length q.observers.items)
parts_line same u v e o units variables events observers =
    line_counts u v e o
    ∙ counts_same (units ∙ ap (λ (z : GtsParts). length z.units.items) same)
    (variables ∙ ap (λ (z : GtsParts). length z.variables.items) same)
    (events ∙ ap (λ (z : GtsParts). length z.events.items) same)
    (observers ∙ ap (λ (z : GtsParts). length z.observers.items) same)

pub returns-in_err-put_many : goal.returns-in_err-put_many
returns-in_err-put_many g c =
    let units : c.len.result ≡ length c.parts-parts.result.now.units.items = search rules in
    writes_exit _ _ c.from_residual.ensures.1
    (writes_as _ _ (parts_line c.parts-parts.ensures.parts c.len.result _ _ _ units refl refl refl)
    (writes_front _ _ c.in_err-put_many.ensures))

pub returns-in_err-put_many-2 : goal.returns-in_err-put_many-2
returns-in_err-put_many-2 g c =
    let units : c.len.result ≡ length c.parts-parts.result.now.units.items = search rules in
    let variables : c.len-2.result ≡ length c.parts-parts.result.now.variables.items = search rules in
    writes_exit _ _ c.from_residual-in_err-put_many-2.ensures.1
    (writes_as _ _ (parts_line c.parts-parts.ensures.parts c.len.result c.len-2.result _ _ units variables refl refl)
    (writes_on c.in_ok-put_many.ensures (writes_front _ _ c.in_err-put_many-2.ensures)))

pub returns-in_err-put_many-3 : goal.returns-in_err-put_many-3
returns-in_err-put_many-3 g c =
    let units : c.len.result ≡ length c.parts-parts.result.now.units.items = search rules in
    let variables : c.len-2.result ≡ length c.parts-parts.result.now.variables.items = search rules in
    let events : c.len-3.result ≡ length c.parts-parts.result.now.events.items = search rules in
    writes_exit _ _ c.from_residual-in_err-put_many-3.ensures.1
    (writes_as _ _
    (parts_line c.parts-parts.ensures.parts c.len.result c.len-2.result c.len-3.result _ units variables events refl)
    (writes_on c.in_ok-put_many.ensures
    (writes_on c.in_ok-put_many-2.ensures (writes_front _ _ c.in_err-put_many-3.ensures))))

pub returns-in_err-put_many-4 : goal.returns-in_err-put_many-4
returns-in_err-put_many-4 g c =
    let units : c.len.result ≡ length c.parts-parts.result.now.units.items = search rules in
    let variables : c.len-2.result ≡ length c.parts-parts.result.now.variables.items = search rules in
    let events : c.len-3.result ≡ length c.parts-parts.result.now.events.items = search rules in
    let observers : c.len-4.result ≡ length c.parts-parts.result.now.observers.items = search rules in
    writes_exit _ _ c.from_residual-in_err-put_many-4.ensures.1
    (writes_as _ _ (parts_line c.parts-parts.ensures.parts _ _ _ _ units variables events observers)
    (writes_on c.in_ok-put_many.ensures (writes_on c.in_ok-put_many-2.ensures
    (writes_on c.in_ok-put_many-3.ensures (writes_front _ _ c.in_err-put_many-4.ensures)))))

pub returns : goal.returns
returns g c =
    let units : c.len.result ≡ length c.parts-parts.result.now.units.items = search rules in
    let variables : c.len-2.result ≡ length c.parts-parts.result.now.variables.items = search rules in
    let events : c.len-3.result ≡ length c.parts-parts.result.now.events.items = search rules in
    let observers : c.len-4.result ≡ length c.parts-parts.result.now.observers.items = search rules in
    writes_as _ _ (parts_line c.parts-parts.ensures.parts _ _ _ _ units variables events observers)
    (writes_on c.in_ok-put_many.ensures (writes_on c.in_ok-put_many-2.ensures
    (writes_on c.in_ok-put_many-3.ensures (writes_on c.in_ok-put_many-4.ensures c.write_text.ensures))))
