use Rattle.std.proofs.Common.{◌∷◌, List, map, ap, sym, ◌∙◌}
use Rattle.std.proofs.lemmas.Result.{err_from_is_err_and}
use Rattle.job_inputs.specs.CutLines.{trimmed}
use Rattle.job_inputs.specs.Chains.{chain_labels}
use Rattle.job_inputs.specs.CutReads.{commas_left}
use Rattle.job_inputs.proofs.CutLineLemmas.{comma_first}
use Rattle.job_inputs.proofs.CutListLemmas.{reached_none, reached_more, label_fails, known_none, known_more, labels_more, labels_as}
use Rattle.job_inputs.proofs.cut_lists.ways_between.Goals as goal

pub loop-rest-init : goal.loop-rest-init
loop-rest-init c = record {
  reached = λ x of. reached_none _ _ (ap (chain_labels c.args.gts.now) c.new-ways.ensures.items);
  known = λ x of. known_none c.args.gts.now _ c.new-ways.ensures.items;
}

pub returns-in_err-way : goal.returns-in_err-way
returns-in_err-way c = λ x of.
    let r = err_from_is_err_and c.from_residual.result c.from_residual.ensures.1 in
    labels_as x c.args.gts.now _ c.args.line _ _ _ r.1 r.2
    (label_fails x c.args.gts.now _ _ _ _ _ c.args.line _
    (ap (map trimmed) (comma_first _ _ _ _ c.in-Some.is c.first_piece.ensures)
    ∙ ap (λ (z : List _). z ∷ map trimmed (commas_left c.first_piece.result.1)) (sym c.trimmed.ensures))
    (c.loop-rest.invariant.reached x of) (c.in_err-way.ensures x of))

pub loop-rest-preserved : goal.loop-rest-preserved
loop-rest-preserved c = record {
  reached = λ x of.
      let a = c.in_ok-way.ensures x of in
      reached_more _ _ _ _ _ _ _
      (ap (map trimmed) (comma_first _ _ _ _ c.in-Some.is c.first_piece.ensures)
      ∙ ap (λ (z : List _). z ∷ map trimmed (commas_left c.first_piece.result.1)) (sym c.trimmed.ensures))
      (labels_more c.args.gts.now _ _ c.in_ok-way.way c.in_ok-push.ensures.items)
      (c.loop-rest.invariant.reached x of) a.0 a.2;
  known = λ x of.
      let a = c.in_ok-way.ensures x of in
      known_more c.args.gts.now _ _ c.in_ok-way.way c.in_ok-push.ensures.items a.1 (c.loop-rest.invariant.known x of);
}
