use Rattle.expression_grammar.proofs.Finding.{finds_given, finds_then, finds_fails, finds_err, finds_ok, follows_any, err_memory, finds_memory}
use Rattle.expression_grammar.proofs.PathForms.{pushed_more}
use Rattle.ar_grammar.proofs.NameForms.{names_made, turns_placed}
use Rattle.ar_grammar.proofs.names.names.Goals as goal
use Rattle.expression_grammar.proofs.Standing.{halts_err, halts_memory, refuses_fails, refuses_then, passes, begins_no_more}

pub returns-in_err-first-clause-only : goal.returns-in_err-first-clause-only
returns-in_err-first-clause-only c = λ left.
    finds_given (finds_fails (c.in_err-first.ensures.only left) c.from_residual.ensures.1 follows_any)
    (λ n next ts h s k. (h, s))

pub returns-in_err-more_names-clause-only : goal.returns-in_err-more_names-clause-only
returns-in_err-more_names-clause-only c = λ left.
    finds_given (finds_then (c.in_ok-first.ensures.only left)
    (finds_err (c.in_err-more_names.ensures.only left) c.from_residual-in_err-more_names.ensures.1) follows_any)
    (λ n next ts h s k. (h, s))

pub returns-clause-found : goal.returns-clause-found
returns-clause-found c = let m = c.in_ok-more_names.ensures.found in
    names_made m.0 c.in_ok-first.ensures.found m.2
    (pushed_more c.in_ok-names.ensures.items m.1)

pub returns-clause-only : goal.returns-clause-only
returns-clause-only c = λ left.
    finds_given (finds_then (c.in_ok-first.ensures.only left) (finds_ok _ (c.in_ok-more_names.ensures.only left))
    follows_any)
    (λ n next ts h s k. (h, s))

pub returns-in_err-first-clause-stuck : goal.returns-in_err-first-clause-stuck
returns-in_err-first-clause-stuck c =
    λ left. halts_err _ _ c.from_residual.ensures.1
    (refuses_fails (c.in_err-first.ensures.stuck left) (λ m. begins_no_more))

pub returns-in_err-names-clause-stuck : goal.returns-in_err-names-clause-stuck
returns-in_err-names-clause-stuck c = λ left. halts_memory _ _ _ _ _ (err_memory _ _ c.from_residual-in_err-names.ensures.1 c.in_err-names.ensures.err)

pub returns-in_err-more_names-clause-stuck : goal.returns-in_err-more_names-clause-stuck
returns-in_err-more_names-clause-stuck c =
    λ left. halts_err _ _ c.from_residual-in_err-more_names.ensures.1
    (refuses_then (passes c.in_ok-first.ensures.found (λ m l. turns_placed _)) (c.in_err-more_names.ensures.stuck left))

pub returns-in_err-names-clause-only : goal.returns-in_err-names-clause-only
returns-in_err-names-clause-only c = λ left.
    let f = c.in_ok-first.ensures.only left in
    finds_memory f.front f.passed
    (err_memory _ _ c.from_residual-in_err-names.ensures.1 c.in_err-names.ensures.err)
