use Rattle.std.proofs.Common.{◌++◌, ◌∷◌, [], sym, ap, ◌∙◌, append_assoc}
use Rattle.expression_grammar.specs.Words.{token, ◌▸◌}
use Rattle.expression_grammar.specs.Paths.{ReadsName}
use Rattle.expression_grammar.specs.Results.{ends_path}
use Rattle.ar_lexer.specs.declared.token.TokenKind.TheVariants.{Sign}
use Rattle.ar_lexer.specs.declared.signs.TheConstants.{DOT}
use Rattle.expression_grammar.proofs.Finding.{finds_then, finds_token, finds_memory, loops_next, loops_fail, loops_stop, spans_token, spans_then, spans_push, eats_kind, follows_any, then_kind, finds_at, err_memory}
use Rattle.expression_grammar.proofs.PathForms.{spans_name}
use Rattle.expression_grammar.proofs.cursor.Parser.more_steps.Goals as goal
use Rattle.expression_grammar.proofs.Standing.{halts_err, halts_memory, refuses_turn, refuses_then, passes, passes_token, turns_each, turns_then, turns_token}
use Rattle.expression_grammar.proofs.Turning.{turns_name}

pub returns-in_err-name-clause-only : goal.returns-in_err-name-clause-only
returns-in_err-name-clause-only c = λ left.
    let e = c.loop-self-test.ensures.taken in
    loops_fail c.loop-self.invariant.3 (ap ends_path (eats_kind e))
    (finds_then (finds_token e) (c.in_err-name.ensures.only left) follows_any) c.from_residual.ensures.1 follows_any

pub loop-self-preserved : goal.loop-self-preserved
loop-self-preserved c =
    let e = c.loop-self-test.ensures.taken in
    let i = c.loop-self.invariant in (
      i.0 ++ c.in_ok-name.name.name ∷ [],
      c.in_ok-put.ensures.items ∙ ap (λ s. s ++ c.in_ok-name.name.name ∷ []) i.1 ∙ append_assoc _ i.0 _,
      spans_push (λ x. token (Sign DOT) ▸ ReadsName x) i.0 c.in_ok-name.name.name i.2
          (spans_then (spans_token e) (spans_name c.in_ok-name.ensures.found)),
      loops_next i.3 (ap ends_path (eats_kind e)) (finds_then (finds_token e) (c.in_ok-name.ensures.only 0) follows_any)
          follows_any,
      c.in_ok-name.ensures.end ∙ c.loop-self-test.ensures.end ∙ i.4,
    )

pub returns-in_err-put-clause-only : goal.returns-in_err-put-clause-only
returns-in_err-put-clause-only c = λ left.
    let e = c.loop-self-test.ensures.taken in
    let l = loops_next c.loop-self.invariant.3 (ap ends_path (eats_kind e))
    (finds_then (finds_token e) (c.in_ok-name.ensures.only 0) follows_any) follows_any in
    finds_memory l.front l.passed (err_memory _ _ c.from_residual-in_err-put.ensures.1 c.in_err-put.ensures.err)

pub returns-clause-only : goal.returns-clause-only
returns-clause-only c = λ left.
    let a = c.loop-self-test.ensures in
    finds_at (loops_stop c.loop-self.invariant.3 (λ n next ts h k. a.other (sym k ∙ then_kind h))) a.left

pub returns-in_err-name-clause-stuck : goal.returns-in_err-name-clause-stuck
returns-in_err-name-clause-stuck c = λ left.
    let i = c.loop-self.invariant in
    halts_err _ _ c.from_residual.ensures.1
    (refuses_turn (passes i.2 (λ m l. turns_each (λ x. turns_then turns_token (turns_name x)) i.0))
    (refuses_then (passes_token c.loop-self-test.ensures.taken) (c.in_err-name.ensures.stuck left)))

pub returns-in_err-put-clause-stuck : goal.returns-in_err-put-clause-stuck
returns-in_err-put-clause-stuck c = λ left. halts_memory _ _ _ _ _ (err_memory _ _ c.from_residual-in_err-put.ensures.1 c.in_err-put.ensures.err)
