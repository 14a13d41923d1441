use Rattle.std.proofs.Common.{◌≡◌, ◌∙◌, ap, Err}
use Rattle.std.proofs.lemmas.Result.{err_from_is_err_and}
use Rattle.class_table.specs.Testing.{TakesApart}
use Rattle.class_table.specs.declared.declaring.Declared.{Declared as Parts}
use Rattle.class_table.proofs.Answering.{refuses1, passes1, meets_err}
use Rattle.class_table.proofs.tabling.taken_apart.Goals as goal

pub returns-in_err-keep-clause-parts : goal.returns-in_err-keep-clause-parts
returns-in_err-keep-clause-parts c =
    let w = rw c.deref.ensures.value at c.in_ok-wrong_item.ensures in
    let r = err_from_is_err_and c.from_residual-in_err-keep.result c.from_residual-in_err-keep.ensures.1 in
    meets_err TakesApart (λ (p answer : Parts). answer ≡ p) c.args.items.items _ _ (r.1 ∙ ap (λ e. Err e) r.2)
    (refuses1 c.args.items.items _ _ _ c.in_ok-declared.ensures.parts w c.in_err-keep.ensures)

pub returns-clause-parts : goal.returns-clause-parts
returns-clause-parts c =
    let w = rw c.deref.ensures.value at c.in_ok-wrong_item.ensures in
    passes1 c.args.items.items _ _ _ c.in_ok-declared.ensures.parts w c.in_ok-keep.ensures
