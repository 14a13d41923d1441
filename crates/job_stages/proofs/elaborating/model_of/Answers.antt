use Rattle.std.proofs.Common.{◌≡◌, ℕ, List, refl, subst}
use Rattle.std.proofs.lemmas.Result.{err_from_is_err_and}
use Rattle.ar_syntax.specs.declared.items.Model.{Model}
use Rattle.ar_parser.specs.Models.{Reads}
use Rattle.job_stages.specs.Elaborates.{Parses, reads}
use Rattle.job_stages.specs.Passing.{IsStageOf}
use Rattle.job_stages.proofs.ElaborateLemmas.{parse_stops}
use Rattle.job_stages.proofs.elaborating.model_of.Goals as goal

pub returns-in_err-model : goal.returns-in_err-model
returns-in_err-model c =
    let r = err_from_is_err_and c.from_residual.result c.from_residual.ensures.1 in
    let h = c.in_err-model.ensures in
    subst
    (λ (z : List ℕ). IsStageOf (λ (m model : Model). model ≡ m) (Parses z) c.from_residual.result) c.deref.ensures.value
    (parse_stops c.deref.result.now _ _ _ r.1 r.2 (record { lex = h.lex; syntax_at = h.syntax; depth = h.depth }))

pub returns : goal.returns
returns c = (
  c.in_ok-model.model,
  reads (subst (λ (z : List ℕ). Reads z c.in_ok-model.model) c.deref.ensures.value
      c.in_ok-model.ensures.found),
  refl,
)
