use Rattle.std.proofs.Common.{Err, ◌∙◌, ap}
use Rattle.std.proofs.lemmas.Result.{err_from_is_err_and}
use Rattle.instantiate.proofs.Ruled.{rule6, rule7, rule8, lost, looping, declaring, setting, below_first, passes_test, refuses_test, last_test}
use Rattle.instantiate.proofs.rules.keep_rules.Goals as goal

pub returns-in_err-keep : goal.returns-in_err-keep
returns-in_err-keep c = λ m units o a.
    let r = err_from_is_err_and c.from_residual.result c.from_residual.ensures.1 in
    refuses_test m units 6 _ _ _ rule6 (below_first m units) (lost m units _ (c.first_lost.ensures m units o a))
    c.in_err-keep.ensures (r.1 ∙ ap Err r.2)

pub returns-in_err-keep-2 : goal.returns-in_err-keep-2
returns-in_err-keep-2 c = λ m units o a.
    let k7 = passes_test m units 6 _ _ c.in_ok-keep.ensures (below_first m units)
    (lost m units _ (c.first_lost.ensures m units o a)) in
    let r = err_from_is_err_and c.from_residual-in_err-keep-2.result c.from_residual-in_err-keep-2.ensures.1 in
    refuses_test m units 7 _ _ _ rule7 k7 (looping m units _ (c.first_looping.ensures m units o a))
    c.in_err-keep-2.ensures (r.1 ∙ ap Err r.2)

pub returns-in_err-keep-3 : goal.returns-in_err-keep-3
returns-in_err-keep-3 c = λ m units o a.
    let k7 = passes_test m units 6 _ _ c.in_ok-keep.ensures (below_first m units)
    (lost m units _ (c.first_lost.ensures m units o a)) in
    let k8 = passes_test m units 7 _ _ c.in_ok-keep-2.ensures k7
    (looping m units _ (c.first_looping.ensures m units o a)) in
    let r = err_from_is_err_and c.from_residual-in_err-keep-3.result c.from_residual-in_err-keep-3.ensures.1 in
    refuses_test m units 8 _ _ _ rule8 k8 (declaring m units _ (c.in_ok-first_wrong_declaration.ensures m units o))
    c.in_err-keep-3.ensures (r.1 ∙ ap Err r.2)

pub returns : goal.returns
returns c = λ m units o a.
    let k7 = passes_test m units 6 _ _ c.in_ok-keep.ensures (below_first m units)
    (lost m units _ (c.first_lost.ensures m units o a)) in
    let k8 = passes_test m units 7 _ _ c.in_ok-keep-2.ensures k7
    (looping m units _ (c.first_looping.ensures m units o a)) in
    let k9 = passes_test m units 8 _ _ c.in_ok-keep-3.ensures k8
    (declaring m units _ (c.in_ok-first_wrong_declaration.ensures m units o)) in
    last_test m units _ _ k9 (setting m units _ (c.in_ok-first_wrong_setting.ensures m units o a)) c.keep-4.ensures
