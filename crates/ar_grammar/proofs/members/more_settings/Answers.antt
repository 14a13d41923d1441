use Rattle.std.proofs.Common.{refl, sym, ap, ◌∙◌}
use Rattle.ar_lexer.specs.declared.token.TokenKind.TheVariants.{Sign}
use Rattle.ar_lexer.specs.declared.signs.TheConstants.{COMMA}
use Rattle.expression_grammar.specs.Words.{deep}
use Rattle.expression_grammar.specs.Texts.{expr_tokens}
use Rattle.ar_grammar.specs.Texts.{setting_tokens}
use Rattle.expression_grammar.specs.Results.{ends_expr, ends_list}
use Rattle.expression_grammar.proofs.Finding.{finds_then, finds_memory, finds_token, finds_at, loops_stop, loops_fail, loops_next, gathers_push, spans_then, spans_token, eats_kind, then_kind, follows_any, err_memory}
use Rattle.ar_grammar.proofs.MemberParts.{separated_more, list_end, turns_setting}
use Rattle.ar_grammar.proofs.members.more_settings.Goals as goal
use Rattle.expression_grammar.proofs.Standing.{halts_err, refuses_turn, refuses_then, passes, passes_token, turns_each, turns_then, turns_token, halts_memory}

pub returns-in_err-setting-clause-only : goal.returns-in_err-setting-clause-only
returns-in_err-setting-clause-only c = let e = c.loop-parser-test.ensures.taken in loops_fail c.loop-parser.invariant.loops (ap ends_list (eats_kind e)) (finds_then (finds_token e) c.in_err-setting.ensures.only follows_any) c.from_residual.ensures.1 (separated_more (Sign COMMA) (λ n. setting_tokens (expr_tokens deep n)) ends_expr ends_list refl list_end)

pub loop-parser-preserved : goal.loop-parser-preserved
loop-parser-preserved c = let e = c.loop-parser-test.ensures.taken in gathers_push c.loop-parser.invariant (ap ends_list (eats_kind e)) (spans_then (spans_token e) c.in_ok-setting.ensures.found) (finds_then (finds_token e) c.in_ok-setting.ensures.only follows_any) (separated_more (Sign COMMA) (λ n. setting_tokens (expr_tokens deep n)) ends_expr ends_list refl list_end) c.in_ok-put.ensures.items

pub returns-in_err-put-clause-only : goal.returns-in_err-put-clause-only
returns-in_err-put-clause-only c = let e = c.loop-parser-test.ensures.taken in let l = loops_next c.loop-parser.invariant.loops (ap ends_list (eats_kind e)) (finds_then (finds_token e) c.in_ok-setting.ensures.only follows_any) (separated_more (Sign COMMA) (λ n. setting_tokens (expr_tokens deep n)) ends_expr ends_list refl list_end) in finds_memory l.front l.passed (err_memory _ _ c.from_residual-in_err-put.ensures.1 c.in_err-put.ensures.err)

pub returns-clause-only : goal.returns-clause-only
returns-clause-only c = let a = c.loop-parser-test.ensures in finds_at (loops_stop c.loop-parser.invariant.loops (λ n next ts h k. a.other (sym k ∙ then_kind h))) a.left

pub returns-in_err-setting-clause-stuck : goal.returns-in_err-setting-clause-stuck
returns-in_err-setting-clause-stuck c = let g = c.loop-parser.invariant in halts_err _ _ c.from_residual.ensures.1 (refuses_turn (passes g.taken (λ m l. turns_each (λ x. turns_then turns_token (turns_setting _ m l x)) g.more)) (refuses_then (passes_token c.loop-parser-test.ensures.taken) c.in_err-setting.ensures.stuck))

pub returns-in_err-put-clause-stuck : goal.returns-in_err-put-clause-stuck
returns-in_err-put-clause-stuck c =
    halts_memory _ _ _ _ _ (err_memory _ _ c.from_residual-in_err-put.ensures.1 c.in_err-put.ensures.err)
