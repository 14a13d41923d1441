use Rattle.expression_grammar.proofs.Finding.{finds_then, finds_fails, finds_given, finds_err, finds_ok, finds_memory, err_memory}
use Rattle.expression_grammar.proofs.PathForms.{pushed_more}
use Rattle.ar_grammar.proofs.ItemParts.{unsigned_past, items_follow, items_made, turns_item}
use Rattle.ar_grammar.proofs.items.items.Goals as goal
use Rattle.expression_grammar.proofs.Standing.{halts_err, refuses_fails, refuses_then, passes, begins_no_more, halts_memory}

pub returns-in_err-first-clause-only : goal.returns-in_err-first-clause-only
returns-in_err-first-clause-only c =
    finds_given (finds_fails c.in_err-first.ensures.only c.from_residual.ensures.1 items_follow)
    (λ n next ts h s k. (h, s))

pub returns-in_err-items-clause-only : goal.returns-in_err-items-clause-only
returns-in_err-items-clause-only c = let f = c.in_ok-first.ensures.only in finds_memory f.front f.passed (err_memory _ _ c.from_residual-in_err-items.ensures.1 c.in_err-items.ensures.err)

pub returns-in_err-more_items-clause-only : goal.returns-in_err-more_items-clause-only
returns-in_err-more_items-clause-only c =
    finds_given (finds_then c.in_ok-first.ensures.only
    (finds_err c.in_err-more_items.ensures.only c.from_residual-in_err-more_items.ensures.1) items_follow)
    (λ n next ts h s k. (h, s))

pub returns-clause-found : goal.returns-clause-found
returns-clause-found c = let m = c.in_ok-more_items.ensures.found in items_made c.args.left _ m.0 _ c.in_ok-first.ensures.found m.2 (pushed_more c.in_ok-items.ensures.items m.1)

pub returns-clause-only : goal.returns-clause-only
returns-clause-only c = finds_given
    (finds_then c.in_ok-first.ensures.only (finds_ok _ c.in_ok-more_items.ensures.only) items_follow)
    (λ n next ts h s k. (h, s))

pub returns-in_err-first-clause-stuck : goal.returns-in_err-first-clause-stuck
returns-in_err-first-clause-stuck c =
    halts_err _ _ c.from_residual.ensures.1 (refuses_fails c.in_err-first.ensures.stuck (λ m. begins_no_more))

pub returns-in_err-more_items-clause-stuck : goal.returns-in_err-more_items-clause-stuck
returns-in_err-more_items-clause-stuck c =
    halts_err _ _ c.from_residual-in_err-more_items.ensures.1
    (refuses_then (passes c.in_ok-first.ensures.found (λ m l. turns_item _ m l c.in_ok-first.first))
    c.in_err-more_items.ensures.stuck)

pub more_items-requires : goal.more_items-requires
more_items-requires c = unsigned_past c.in_ok-first.ensures.found c.requires

pub returns-in_err-items-clause-stuck : goal.returns-in_err-items-clause-stuck
returns-in_err-items-clause-stuck c =
    halts_memory _ _ _ _ _ (err_memory _ _ c.from_residual-in_err-items.ensures.1 c.in_err-items.ensures.err)
