use Rattle.std.proofs.Common.{List, Err, ◌∙◌, ap, subst}
use Rattle.std.proofs.lemmas.Result.{err_from_is_err_and}
use Rattle.mode_search.specs.declared.searching.Reach.{Reach}
use Rattle.mode_search.specs.Events.{IsLeastNumber}
use Rattle.mode_search.specs.Reaches.{IsWrongAt}
use Rattle.static_fragment.proofs.Judging.{on_err, refused4, kept4}
use Rattle.static_fragment.proofs.stages.judged_reaches.Goals as goal

pub returns-in_err-at_variable-clause-rules : goal.returns-in_err-at_variable-clause-rules
returns-in_err-at_variable-clause-rules c = λ order system dropped h.
    let r = err_from_is_err_and c.from_residual-in_err-at_variable.result c.from_residual-in_err-at_variable.ensures.1
    in
    let wrong = subst (λ (z : List Reach). IsLeastNumber (IsWrongAt z) c.least_wrong.result) c.deref.ensures.value
    c.least_wrong.ensures in
    on_err _ _ c.from_residual-in_err-at_variable.result _ (r.1 ∙ ap Err r.2)
    (refused4 system dropped (record { ways = h.ways; are = c.in_ok-reaches.ensures }) h.keeps order
    c.least_action.result c.least_wrong.result c.lesser.result c.lesser.ensures
    c.least_action.ensures wrong _ c.in_err-at_variable.ensures)

pub returns-clause-rules : goal.returns-clause-rules
returns-clause-rules c = λ order system dropped h.
    let wrong = subst (λ (z : List Reach). IsLeastNumber (IsWrongAt z) c.least_wrong.result) c.deref.ensures.value
    c.least_wrong.ensures in
    record {
      kept = c.args.kept.now;
      reached = record { ways = h.ways; are = c.in_ok-reaches.ensures };
      keeps = kept4 system dropped (record { ways = h.ways; are = c.in_ok-reaches.ensures }) h.keeps
          c.least_action.result c.least_wrong.result c.lesser.result _
          c.lesser.ensures c.least_action.ensures wrong c.in_ok-at_variable.ensures;
    }
