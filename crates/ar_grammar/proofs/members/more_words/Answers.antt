use Rattle.std.proofs.Common.{sym, ap, ◌∙◌}
use Rattle.ar_grammar.specs.Results.{ends_target}
use Rattle.expression_grammar.proofs.Finding.{finds_then, finds_memory, finds_token, finds_at, loops_stop, loops_fail, loops_next, gathers_push, spans_then, spans_token, eats_kind, then_kind, follows_any, err_memory}
use Rattle.ar_grammar.proofs.members.more_words.Goals as goal
use Rattle.expression_grammar.proofs.Standing.{halts_err, halts_memory, refuses_turn, refuses_then, passes, passes_token, turns_each, turns_then, turns_token}
use Rattle.ar_grammar.proofs.MemberParts.{turns_word}

pub returns-in_err-word-clause-only : goal.returns-in_err-word-clause-only
returns-in_err-word-clause-only c = λ left. let e = c.loop-parser-test.ensures.taken in loops_fail c.loop-parser.invariant.loops (ap ends_target (eats_kind e)) (finds_then (finds_token e) (c.in_err-word.ensures.only _) follows_any) c.from_residual.ensures.1 follows_any

pub loop-parser-preserved : goal.loop-parser-preserved
loop-parser-preserved c = let e = c.loop-parser-test.ensures.taken in gathers_push c.loop-parser.invariant (ap ends_target (eats_kind e)) (spans_then (spans_token e) c.in_ok-word.ensures.found) (finds_then (finds_token e) (c.in_ok-word.ensures.only 0) follows_any) follows_any c.in_ok-put.ensures.items

pub returns-in_err-put-clause-only : goal.returns-in_err-put-clause-only
returns-in_err-put-clause-only c = λ left. let e = c.loop-parser-test.ensures.taken in let l = loops_next c.loop-parser.invariant.loops (ap ends_target (eats_kind e)) (finds_then (finds_token e) (c.in_ok-word.ensures.only 0) follows_any) follows_any in finds_memory l.front l.passed (err_memory _ _ c.from_residual-in_err-put.ensures.1 c.in_err-put.ensures.err)

pub returns-clause-only : goal.returns-clause-only
returns-clause-only c = λ left. let a = c.loop-parser-test.ensures in finds_at (loops_stop c.loop-parser.invariant.loops (λ n next ts h k. a.other (sym k ∙ then_kind h))) a.left

pub returns-in_err-word-clause-stuck : goal.returns-in_err-word-clause-stuck
returns-in_err-word-clause-stuck c = λ left. let g = c.loop-parser.invariant in halts_err _ _ c.from_residual.ensures.1 (refuses_turn (passes g.taken (λ m l. turns_each (λ x. turns_then turns_token (turns_word x)) g.more)) (refuses_then (passes_token c.loop-parser-test.ensures.taken) (c.in_err-word.ensures.stuck left)))

pub returns-in_err-put-clause-stuck : goal.returns-in_err-put-clause-stuck
returns-in_err-put-clause-stuck c = λ left. halts_memory _ _ _ _ _ (err_memory _ _ c.from_residual-in_err-put.ensures.1 c.in_err-put.ensures.err)
