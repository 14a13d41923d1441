use Rattle.std.proofs.lemmas.Result.{err_from_is_err_and}
use Rattle.bind_names.proofs.Answering.{memory_refuses, rules_refuse, bound_told}
use Rattle.bind_names.proofs.binding.bind.Goals as goal

pub settled-requires : goal.settled-requires
settled-requires c =
    let t = c.requires in
    record { model = t.model; units = t.units; are = c.in_ok-scopes.ensures.scopes t.model t.units t.is_tree }

pub returns-in_err-values : goal.returns-in_err-values
returns-in_err-values c = λ m units t.
    let r = err_from_is_err_and c.from_residual-in_err-values.result c.from_residual-in_err-values.ensures.1 in
    rules_refuse m units c.in_ok-scopes.scopes _ _ _ r.1 r.2
    (c.in_err-values.ensures m units (c.in_ok-scopes.ensures.scopes m units t))

pub returns-in_err-bound : goal.returns-in_err-bound
returns-in_err-bound c = λ m units t.
    let r = err_from_is_err_and c.from_residual-in_err-bound.result c.from_residual-in_err-bound.ensures.1 in
    memory_refuses m units c.from_residual-in_err-bound.result r.0 r.1 r.2

pub returns : goal.returns
returns c = λ m units t.
    let k = c.in_ok-values.ensures m units (c.in_ok-scopes.ensures.scopes m units t) in
    bound_told m units c.in_ok-scopes.scopes c.in_ok-values.values c.in_ok-bound.bound k
    (c.in_ok-bound.ensures m units k.settled)
