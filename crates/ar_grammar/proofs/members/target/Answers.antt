use Rattle.ar_lexer.specs.declared.token.TokenKind.TheVariants.{Sign}
use Rattle.ar_lexer.specs.declared.signs.TheConstants.{DOT}
use Rattle.ar_grammar.specs.Members.{ReadsWord}
use Rattle.expression_grammar.proofs.Finding.{finds_then, finds_fails, finds_given, finds_err, finds_ok, follows_any, err_memory, finds_memory}
use Rattle.expression_grammar.proofs.PathForms.{pushed_more}
use Rattle.ar_grammar.proofs.MemberParts.{separated_made, turns_word}
use Rattle.ar_grammar.proofs.members.target.Goals as goal
use Rattle.expression_grammar.proofs.Standing.{halts_err, halts_memory, refuses_fails, refuses_then, passes, begins_no_more}

pub returns-in_err-first-clause-only : goal.returns-in_err-first-clause-only
returns-in_err-first-clause-only c =
    λ left. finds_given (finds_fails (c.in_err-first.ensures.only left) c.from_residual.ensures.1 follows_any)
    (λ n next ts h s k. (h, s))

pub returns-in_err-more_words-clause-only : goal.returns-in_err-more_words-clause-only
returns-in_err-more_words-clause-only c =
    λ left. finds_given (finds_then (c.in_ok-first.ensures.only left)
    (finds_err (c.in_err-more_words.ensures.only left) c.from_residual-in_err-more_words.ensures.1) follows_any)
    (λ n next ts h s k. (h, s))

pub returns-clause-found : goal.returns-clause-found
returns-clause-found c = let m = c.in_ok-more_words.ensures.found in separated_made (Sign DOT) ReadsWord c.in_ok-first.first m.0 _ (pushed_more c.in_ok-target.ensures.items m.1) c.in_ok-first.ensures.found m.2

pub returns-clause-only : goal.returns-clause-only
returns-clause-only c = λ left. finds_given
    (finds_then (c.in_ok-first.ensures.only left) (finds_ok _ (c.in_ok-more_words.ensures.only left)) follows_any)
    (λ n next ts h s k. (h, s))

pub returns-in_err-first-clause-stuck : goal.returns-in_err-first-clause-stuck
returns-in_err-first-clause-stuck c =
    λ left. halts_err _ _ c.from_residual.ensures.1
    (refuses_fails (c.in_err-first.ensures.stuck left) (λ m. begins_no_more))

pub returns-in_err-target-clause-stuck : goal.returns-in_err-target-clause-stuck
returns-in_err-target-clause-stuck c = λ left. halts_memory _ _ _ _ _ (err_memory _ _ c.from_residual-in_err-target.ensures.1 c.in_err-target.ensures.err)

pub returns-in_err-more_words-clause-stuck : goal.returns-in_err-more_words-clause-stuck
returns-in_err-more_words-clause-stuck c =
    λ left. halts_err _ _ c.from_residual-in_err-more_words.ensures.1
    (refuses_then (passes c.in_ok-first.ensures.found (λ m l. turns_word c.in_ok-first.first))
    (c.in_err-more_words.ensures.stuck left))

pub returns-in_err-target-clause-only : goal.returns-in_err-target-clause-only
returns-in_err-target-clause-only c = λ left.
    let f = c.in_ok-first.ensures.only left in
    finds_memory f.front f.passed
    (err_memory _ _ c.from_residual-in_err-target.ensures.1 c.in_err-target.ensures.err)
