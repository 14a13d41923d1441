use Rattle.std.proofs.Common.{Result, Err, ◌∙◌, ap, subst, arith}
use Rattle.std.proofs.lemmas.Result.{err_from_is_err_and}
use Rattle.ar_base.specs.declared.places.Place.{Place}
use Rattle.bind_names.specs.Values.{IsValued}
use Rattle.bind_names.specs.declared.all_values.Values.{Values}
use Rattle.bind_names.proofs.Ruled.{rule10, rule11, rule13, below_first, naming, kinds, targets, names_kept, passes10, passes11, passes13, refuses_test, outside_told, values_pass, keeps_names}
use Rattle.bind_names.proofs.rules.settled.Goals as goal

pub returns-in_err-keep : goal.returns-in_err-keep
returns-in_err-keep c = λ m units a.
    let r = err_from_is_err_and c.from_residual.result c.from_residual.ensures.1 in
    refuses_test m units c.args.scopes.now 10 _ _ _ rule10 (below_first m units)
    (naming m units _ (c.first_misnamed_in.ensures m units a)) c.in_err-keep.ensures (r.1 ∙ ap Err r.2)

pub returns-in_err-keep-2 : goal.returns-in_err-keep-2
returns-in_err-keep-2 c = λ m units a.
    let k11 = passes10 m units _ _ c.in_ok-keep.ensures (c.first_misnamed_in.ensures m units a) in
    let r = err_from_is_err_and c.from_residual-in_err-keep-2.result c.from_residual-in_err-keep-2.ensures.1 in
    refuses_test m units c.args.scopes.now 11 _ _ _ rule11 k11
    (kinds m units _ (c.first_mistyped_in.ensures m units a)) c.in_err-keep-2.ensures (r.1 ∙ ap Err r.2)

pub returns-in-Err : goal.returns-in-Err
returns-in-Err c = λ m units a.
    let k11 = passes10 m units _ _ c.in_ok-keep.ensures (c.first_misnamed_in.ensures m units a) in
    let k12 = passes11 m units _ _ c.in_ok-keep-2.ensures k11 (c.first_mistyped_in.ensures m units a) in
    let v = c.in_ok-values.ensures m units a (names_kept m units 12 (omega arith) k12) in
    outside_told m units c.args.scopes.now c.in-Err.place k12
    (subst (λ (z : Result Values Place). IsValued m units c.args.scopes.now.tree.now z) c.in-Err.is v)

pub returns-in_err-keep-3 : goal.returns-in_err-keep-3
returns-in_err-keep-3 c = λ m units a.
    let k11 = passes10 m units _ _ c.in_ok-keep.ensures (c.first_misnamed_in.ensures m units a) in
    let k12 = passes11 m units _ _ c.in_ok-keep-2.ensures k11 (c.first_mistyped_in.ensures m units a) in
    let v = subst (λ (z : Result Values Place). IsValued m units c.args.scopes.now.tree.now z) c.in-Ok.is
    (c.in_ok-values.ensures m units a (names_kept m units 12 (omega arith) k12)) in
    let k13 = values_pass m units c.args.scopes.now c.in-Ok.values k12 v in
    let r = err_from_is_err_and c.from_residual-in_err-keep-3.result c.from_residual-in_err-keep-3.ensures.1 in
    refuses_test m units c.args.scopes.now 13 _ _ _ rule13 k13
    (targets m units _ (c.first_misplaced_in.ensures m units a)) c.in_err-keep-3.ensures (r.1 ∙ ap Err r.2)

pub returns : goal.returns
returns c = λ m units a.
    let k11 = passes10 m units _ _ c.in_ok-keep.ensures (c.first_misnamed_in.ensures m units a) in
    let k12 = passes11 m units _ _ c.in_ok-keep-2.ensures k11 (c.first_mistyped_in.ensures m units a) in
    let v = subst (λ (z : Result Values Place). IsValued m units c.args.scopes.now.tree.now z) c.in-Ok.is
    (c.in_ok-values.ensures m units a (names_kept m units 12 (omega arith) k12)) in
    let k13 = values_pass m units c.args.scopes.now c.in-Ok.values k12 v in
    let k14 = passes13 m units _ _ c.in_ok-keep-3.ensures k13 (c.first_misplaced_in.ensures m units a) in
    keeps_names m units c.args.scopes.now c.in-Ok.values a v k14
