use Rattle.std.proofs.Common.{List, Err, ◌∙◌, ap, subst}
use Rattle.std.proofs.lemmas.Result.{err_from_is_err_and}
use Rattle.mode_search.specs.Events.{IsLeastNumber}
use Rattle.mode_search.specs.Kept.{OtherInGuard}
use Rattle.mode_search.specs.declared.kept.KeptWay.{KeptWay}
use Rattle.static_fragment.proofs.Judging.{on_err, refused3, kept3, ways_are}
use Rattle.static_fragment.proofs.stages.judged_ways.Goals as goal

pub returns-in_err-at_variable-clause-rules : goal.returns-in_err-at_variable-clause-rules
returns-in_err-at_variable-clause-rules c = λ order system dropped h.
    let r = err_from_is_err_and c.from_residual-in_err-at_variable.result c.from_residual-in_err-at_variable.ensures.1
    in
    let are = ways_are system dropped c.args.parts.now c.args.units.now c.deref.result.now c.in_ok-kept.kept.items
    c.requires.sound h c.deref.ensures.value c.in_ok-kept.ensures in
    let least = subst (λ (z : List KeptWay). IsLeastNumber (OtherInGuard z) c.least_guard.result) c.deref-3.ensures.value
    c.least_guard.ensures in
    on_err _ _ c.from_residual-in_err-at_variable.result _ (r.1 ∙ ap Err r.2)
    (refused3 system dropped are h.keeps order c.least_guard.result least _ c.in_err-at_variable.ensures)

pub returns-clause-rules : goal.returns-clause-rules
returns-clause-rules c = λ order system dropped h.
    let are = ways_are system dropped c.args.parts.now c.args.units.now c.deref.result.now c.in_ok-kept.kept.items
    c.requires.sound h c.deref.ensures.value c.in_ok-kept.ensures in
    let least = subst (λ (z : List KeptWay). IsLeastNumber (OtherInGuard z) c.least_guard.result) c.deref-3.ensures.value
    c.least_guard.ensures in
    record {
      ways = are;
      keeps = kept3 system dropped are h.keeps c.least_guard.result _ least
          c.in_ok-at_variable.ensures;
    }
