use Rattle.std.proofs.Common.{◌≡◌, true, false, not, refl, sym, ap, ◌∙◌}
use Rattle.ar_grammar.specs.Results.{begins_instr}
use Rattle.expression_grammar.proofs.Finding.{finds_memory, loops_fail, loops_next, gathers_push, spans_map, follows_any, err_memory}
use Rattle.ar_grammar.proofs.Finding.{loops_stop_plain}
use Rattle.ar_grammar.proofs.InstrTexts.{instr_begins}
use Rattle.ar_grammar.proofs.members.assertions.Goals as goal
use Rattle.expression_grammar.proofs.Standing.{halts_err, halts_memory}
use Rattle.ar_grammar.proofs.InstrTexts.{leads, refuses_again, moves_each, instr_clear}
use Rattle.ar_grammar.proofs.BodyTexts.{moves_assertion}
use Rattle.std.proofs.Common.{inl}

pub returns-in_err-instr-clause-only : goal.returns-in_err-instr-clause-only
returns-in_err-instr-clause-only c =
    loops_fail c.loop-parser.invariant.loops (ap not (sym (c.loop-parser-test.ensures ∙ ap begins_instr c.kind.ensures)))
    c.in_err-instr.ensures.only c.from_residual.ensures.1 follows_any

pub loop-parser-preserved : goal.loop-parser-preserved
loop-parser-preserved c = gathers_push c.loop-parser.invariant
    (ap not (sym (c.loop-parser-test.ensures ∙ ap begins_instr c.kind.ensures)))
    (spans_map c.in_ok-instr.ensures.found (λ next ts h. record { i = _; is = refl; reads = h }))
    c.in_ok-instr.ensures.only follows_any c.in_ok-put.ensures.items

pub returns-in_err-put-clause-only : goal.returns-in_err-put-clause-only
returns-in_err-put-clause-only c = let l = loops_next c.loop-parser.invariant.loops (ap not (sym (c.loop-parser-test.ensures ∙ ap begins_instr c.kind.ensures))) c.in_ok-instr.ensures.only follows_any in finds_memory l.front l.passed (err_memory _ _ c.from_residual-in_err-put.ensures.1 c.in_err-put.ensures.err)

pub returns-clause-only : goal.returns-clause-only
returns-clause-only c = loops_stop_plain c.loop-parser.invariant.loops (λ n next ts h k none. let x : true ≡ false = sym (instr_begins n next ts h none) ∙ ap begins_instr (k ∙ sym c.kind.ensures) ∙ sym c.loop-parser-test.ensures in absurd (cc))

pub returns-in_err-instr-clause-stuck : goal.returns-in_err-instr-clause-stuck
returns-in_err-instr-clause-stuck c = let g = c.loop-parser.invariant in halts_err _ _ c.from_residual.ensures.1 (refuses_again (leads g.taken (λ m l. moves_each (moves_assertion _ m l) g.more)) (λ m next ts h. inl (instr_clear m next ts h)) c.in_err-instr.ensures.stuck)

pub returns-in_err-put-clause-stuck : goal.returns-in_err-put-clause-stuck
returns-in_err-put-clause-stuck c =
    halts_memory _ _ _ _ _ (err_memory _ _ c.from_residual-in_err-put.ensures.1 c.in_err-put.ensures.err)
