use Rattle.std.proofs.Common.{◌≡◌, Ok, Err, subst}
use Rattle.std.proofs.lemmas.Result.{err_from_is_err_and}
use Rattle.ar_base.specs.StagesInside.{Meets}
use Rattle.ar_base.proofs.Stages.{stage_stops, stage_passes}
use Rattle.ar_syntax.specs.declared.items.Model.{Model}
use Rattle.job_stages.specs.Elaborates.{Parses, Ruled, Systems, Elaborates}
use Rattle.job_stages.specs.Passing.{stop_told, IsFlattened}
use Rattle.job_stages.proofs.ElaborateLemmas.{ruled_stops, ruled_passes, at_stop}
use Rattle.job_stages.proofs.elaborating.elaborate.Goals as goal

pub returns-in_err-model : goal.returns-in_err-model
returns-in_err-model c =
    let r = err_from_is_err_and c.from_residual.result c.from_residual.ensures.1 in
    stage_stops stop_told Parses (Ruled (Systems c.args.main.now)) c.args.text.items
    (λ (m model : Model). model ≡ m) IsFlattened _ _ _ r.1 r.2 c.in_err-model.ensures

pub returns-in_err-flattened : goal.returns-in_err-flattened
returns-in_err-flattened c =
    let r = err_from_is_err_and c.from_residual-in_err-flattened.result c.from_residual-in_err-flattened.ensures.1 in
    let p = c.in_ok-model.ensures in
    let h = subst (λ (z : Model). Meets (Systems c.args.main.now) IsFlattened z (Err c.in_err-flattened.field-0.0)) p.2
    c.in_err-flattened.ensures in
    at_stop IsFlattened (Elaborates c.args.main.now c.args.text.items) _ _ r.1
    (stage_passes stop_told Parses (Ruled (Systems c.args.main.now)) c.args.text.items (λ (m model : Model). model ≡ m)
    IsFlattened p.0 (Err r.0) p.1
    (ruled_stops (Systems c.args.main.now) IsFlattened p.0 _ _ r.2 h))

pub returns : goal.returns
returns c =
    let p = c.in_ok-model.ensures in
    let h = subst (λ (z : Model). Meets (Systems c.args.main.now) IsFlattened z (Ok c.in_ok-flattened.flattened)) p.2
    c.in_ok-flattened.ensures in
    stage_passes stop_told Parses (Ruled (Systems c.args.main.now)) c.args.text.items
    (λ (m model : Model). model ≡ m) IsFlattened p.0 (Ok c.in_ok-flattened.flattened) p.1
    (ruled_passes (Systems c.args.main.now) IsFlattened p.0 c.in_ok-flattened.flattened h)
