use Rattle.std.proofs.Common.{sym, ap, ◌∙◌}
use Rattle.ar_grammar.specs.Results.{ends_transitions}
use Rattle.expression_grammar.proofs.Finding.{finds_memory, loops_stop, loops_fail, loops_next, gathers_push, follows_any, err_memory}
use Rattle.ar_grammar.proofs.MemberParts.{transition_kind}
use Rattle.ar_grammar.proofs.members.transitions.Goals as goal
use Rattle.expression_grammar.proofs.Standing.{halts_err, halts_memory}
use Rattle.ar_grammar.proofs.InstrTexts.{leads, refuses_again, moves_each}
use Rattle.ar_grammar.proofs.MemberParts.{moves_transition}
use Rattle.std.proofs.Common.{inl, refl}
use Rattle.expression_grammar.specs.Results.{is_word}
use Rattle.ar_lexer.specs.declared.words.TheConstants.{ELSE}
use Rattle.expression_grammar.proofs.Finding.{apart}

pub returns-in_err-transition-clause-only : goal.returns-in_err-transition-clause-only
returns-in_err-transition-clause-only c =
    loops_fail c.loop-parser.invariant.loops (ap ends_transitions c.loop-parser-test.ensures.yes)
    c.in_err-transition.ensures.only c.from_residual.ensures.1 follows_any

pub loop-parser-preserved : goal.loop-parser-preserved
loop-parser-preserved c = gathers_push c.loop-parser.invariant (ap ends_transitions c.loop-parser-test.ensures.yes)
    c.in_ok-transition.ensures.found c.in_ok-transition.ensures.only follows_any c.in_ok-put.ensures.items

pub returns-in_err-put-clause-only : goal.returns-in_err-put-clause-only
returns-in_err-put-clause-only c = let l = loops_next c.loop-parser.invariant.loops (ap ends_transitions c.loop-parser-test.ensures.yes) c.in_ok-transition.ensures.only follows_any in finds_memory l.front l.passed (err_memory _ _ c.from_residual-in_err-put.ensures.1 c.in_err-put.ensures.err)

pub returns-clause-only : goal.returns-clause-only
returns-clause-only c = loops_stop c.loop-parser.invariant.loops
    (λ n next ts h k. c.loop-parser-test.ensures.no (sym k ∙ transition_kind n next ts h))

pub returns-in_err-transition-clause-stuck : goal.returns-in_err-transition-clause-stuck
returns-in_err-transition-clause-stuck c = let g = c.loop-parser.invariant in halts_err _ _ c.from_residual.ensures.1 (refuses_again (leads g.taken (λ m l. moves_each (moves_transition _ m l) g.more)) (λ m next ts h. inl (λ e. apart (is_word ELSE) e (transition_kind m next ts h) refl refl)) c.in_err-transition.ensures.stuck)

pub returns-in_err-put-clause-stuck : goal.returns-in_err-put-clause-stuck
returns-in_err-put-clause-stuck c =
    halts_memory _ _ _ _ _ (err_memory _ _ c.from_residual-in_err-put.ensures.1 c.in_err-put.ensures.err)
