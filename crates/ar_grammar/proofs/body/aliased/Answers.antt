use Rattle.std.proofs.Common.{refl}
use Rattle.expression_grammar.proofs.Finding.{finds_then, finds_fails, finds_err, finds_ok, spans_then, spans_expected, follows_then, follows_any}
use Rattle.ar_grammar.proofs.body.aliased.Goals as goal
use Rattle.expression_grammar.proofs.Standing.{halts_err, refuses_fails, refuses_then, passes, passes_expected}
use Rattle.expression_grammar.proofs.Turning.{turns_path}
use Rattle.ar_grammar.proofs.BodyTexts.{some_alias, some_as}

pub returns-in_err-expect-clause-only : goal.returns-in_err-expect-clause-only
returns-in_err-expect-clause-only c =
    λ left. finds_fails (c.in_err-expect.ensures.only left) c.from_residual.ensures.1 follows_any

pub returns-in_err-path-clause-only : goal.returns-in_err-path-clause-only
returns-in_err-path-clause-only c =
    λ left. finds_then (c.in_ok-expect.ensures.only left)
    (finds_fails (c.in_err-path.ensures.only left) c.from_residual-in_err-path.ensures.1 (follows_then refl))
    follows_any

pub returns-in_err-name-clause-only : goal.returns-in_err-name-clause-only
returns-in_err-name-clause-only c =
    λ left. finds_then (c.in_ok-expect.ensures.only left)
    (finds_then (c.in_ok-path.ensures.only left)
    (finds_err (c.in_err-name.ensures.only left) c.from_residual-in_err-name.ensures.1) (follows_then refl)) follows_any

pub returns-clause-found : goal.returns-clause-found
returns-clause-found c = spans_then (spans_expected c.in_ok-expect.ensures.found)
    (spans_then c.in_ok-path.ensures.found c.in_ok-name.ensures.found)

pub returns-clause-only : goal.returns-clause-only
returns-clause-only c = λ left. finds_then (c.in_ok-expect.ensures.only left)
    (finds_then (c.in_ok-path.ensures.only left) (finds_ok _ (c.in_ok-name.ensures.only left)) (follows_then refl))
    follows_any

pub returns-in_err-expect-clause-stuck : goal.returns-in_err-expect-clause-stuck
returns-in_err-expect-clause-stuck c =
    λ left. halts_err _ _ c.from_residual.ensures.1
    (refuses_fails (c.in_err-expect.ensures.stuck left) (λ m. some_alias))

pub returns-in_err-path-clause-stuck : goal.returns-in_err-path-clause-stuck
returns-in_err-path-clause-stuck c =
    λ left. halts_err _ _ c.from_residual-in_err-path.ensures.1
    (refuses_then (passes_expected c.in_ok-expect.ensures.found)
    (refuses_fails (c.in_err-path.ensures.stuck left) (λ m. some_as)))

pub returns-in_err-name-clause-stuck : goal.returns-in_err-name-clause-stuck
returns-in_err-name-clause-stuck c =
    λ left. halts_err _ _ c.from_residual-in_err-name.ensures.1
    (refuses_then (passes_expected c.in_ok-expect.ensures.found)
    (refuses_then (passes c.in_ok-path.ensures.found (λ m l. turns_path c.in_ok-path.path))
    (c.in_err-name.ensures.stuck left)))
