use Rattle.std.proofs.Common.{◌≡◌, ◌+◌, ◌*◌, ◌-◌, length, Err, true, false, refl, sym, ap, ◌∙◌, subst}
use Rattle.std.specs.Prelude.{◌==◌}
use Rattle.std.proofs.lemmas.Bool.{eqb-true}
use Rattle.ar_syntax.specs.declared.expressions.RawExpr.{RawExpr}
use Rattle.expression_grammar.specs.declared.terms.Chain.{Chain}
use Rattle.expression_grammar.specs.declared.terms.Chain.TheVariants.{Any}
use Rattle.expression_grammar.specs.Expressions.{Node, ReadsExpr, ReadsNot, ReadsMinus, ReadsProduct, ReadsSum, ReadsCompare, ReadsPrimary, ReadsIf, ReadsSwitch}
use Rattle.expression_grammar.specs.Chains.{IsConstant, chain_form, ends_chain, ends_operand}
use Rattle.expression_grammar.specs.Results.{first_token_kind, FindsRefusal, begins_term, begins_expr, begins_not, begins_minus, ends_list, ends_cases, ends_sum, is_relation}
use Rattle.expression_grammar.proofs.Finding.{finds_then, finds_fails, finds_given, finds_plain, finds_err, finds_ok, finds_memory, finds_inside, finds_no_room, finds_syntax, finds_nothing, finds_token, finds_from, finds_at, loops_start, loops_stop, loops_fail, loops_next, gathers_push, spans_then, spans_token, spans_expected, spans_at, spans_map, takes_map, takes_from, err_memory, eats_as, eats_kind, then_kind, follows_token, follows_then, follows_any}
use Rattle.expression_grammar.proofs.PathForms.{pushed_more}
use Rattle.expression_grammar.proofs.ExpressionForms.{and_left}
use Rattle.expression_grammar.proofs.ExpressionParts.{expr_choice_in, expr_plain_in, if_made, sep_open, chain_made, not_plain_in, not_made, compare_made, compare_one, relation_ends, term_sign, term_eats, term_open, sum_one, sum_made, minus_plain_in, minus_made}
use Rattle.expression_grammar.proofs.PrimaryParts.{constant_begins, constant_made, brackets_made, switch_in, call_made, path_made_primary, operands_made, switch_made, no_cases, some_length}
use Rattle.expression_grammar.proofs.TextParts.{expr_begins, expr_some, expr_if, expr_plain, chain_follows, not_begins, not_some, not_negated, not_plain, compare_follows, compare_over, compare_more, term_begins, term_given, sum_follows, minus_begins, minus_some, minus_negated, minus_plain, primary_constant, primary_brackets, primary_switch, primary_call, primary_path, arguments_follow, operands_follow, case_kind, cases_follow, switch_parts}
use Rattle.expression_grammar.proofs.Measures.{falls, falls_inside, one_below, two_below, next_below, word_some, sign_some}
use Rattle.expression_grammar.proofs.cursor.Parser.+expression.Invariants.{rank_of}
use Rattle.ar_lexer.specs.declared.words.TheConstants.{CASE, IF, THEN}
use Rattle.expression_grammar.proofs.cursor.Parser.+expression.Goals as goal
use Rattle.std.proofs.Common.{inl, inr}
use Rattle.ar_lexer.specs.declared.token.TokenKind.TheVariants.{Sign}
use Rattle.ar_lexer.specs.declared.signs.TheConstants.{OPEN_BRACE, CLOSE_BRACE, OPEN_PARENTHESIS, CLOSE_PARENTHESIS, COLON}
use Rattle.expression_grammar.specs.Texts.{relation_tokens, plus_tokens, one_of, begins_constant, begins_call}
use Rattle.expression_grammar.specs.Texts as text
use Rattle.expression_grammar.proofs.ExpressionForms.{then_assoc, then_unassoc}
use Rattle.expression_grammar.proofs.Standing.{halts_err, halts_over, refuses_fails, refuses_then, refuses_map, refuses_inside, refuses_from, refuses_turn, refuses_some, refuses_here, refuses_no_room, passes, passes_token, passes_expected, passes_one, begins_token, begins_nothing, begins_no_more, begins_then, begins_map, turns_each, turns_then, turns_token, halts_memory}
use Rattle.expression_grammar.proofs.Turning.{turns_operand, turns_tree, turns_product, turns_a_term, turns_a_sum, turns_a_case, turns_enclosed, turns_all_cases}
use Rattle.expression_grammar.proofs.Beginnings.{some_expr, some_not, some_minus, some_arguments, some_case, some_default, some_else, expr_at, not_at, minus_at, call_one}
use Rattle.expression_grammar.specs.Parts.{operand_tokens}
use Rattle.expression_grammar.specs.declared.lexeme.Refusal.TheVariants.{Syntax}

pub cases-returns-in_err-case-clause-only : goal.cases-returns-in_err-case-clause-only
cases-returns-in_err-case-clause-only t c =
    loops_fail c.loop-self.invariant.0.loops (ap ends_cases c.loop-self-test.ensures.yes) c.in_err-case.ensures.only
    c.from_residual.ensures.1 cases_follow

pub cases-loop-self-preserved : goal.cases-loop-self-preserved
cases-loop-self-preserved t c = (
  gathers_push c.loop-self.invariant.0 (ap ends_cases c.loop-self-test.ensures.yes)
      c.in_ok-case.ensures.found c.in_ok-case.ensures.only cases_follow c.in_ok-put.ensures.items,
  c.in_ok-case.ensures.end ∙ c.loop-self.invariant.1,
)

pub cases-returns-in_err-put-clause-only : goal.cases-returns-in_err-put-clause-only
cases-returns-in_err-put-clause-only t c = let l = loops_next c.loop-self.invariant.0.loops (ap ends_cases c.loop-self-test.ensures.yes) c.in_ok-case.ensures.only cases_follow in finds_memory l.front l.passed (err_memory _ _ c.from_residual-in_err-put.ensures.1 c.in_err-put.ensures.err)

pub cases-returns-clause-only : goal.cases-returns-clause-only
cases-returns-clause-only t c = loops_stop c.loop-self.invariant.0.loops
    (λ n next ts h k. c.loop-self-test.ensures.no (sym k ∙ case_kind n next ts h))

pub chain-returns-in_err-first-clause-only : goal.chain-returns-in_err-first-clause-only
chain-returns-in_err-first-clause-only t c =
    finds_given (finds_fails c.in_err-first.ensures.only c.from_residual.ensures.1 (chain_follows c.args.chain))
    (λ n next ts h s k. (h, s))

pub chain-returns-then-not-is_at-clause-only : goal.chain-returns-then-not-is_at-clause-only
chain-returns-then-not-is_at-clause-only t c =
    finds_given (finds_then c.in_ok-first.ensures.only
    (loops_stop loops_start (λ n next ts h k. c.if-not-is_at.ensures.no
    (sym k ∙ then_kind h ∙ sym c.separator_of.ensures.value))) (chain_follows c.args.chain)) (λ n next ts h s k. (h, s))

pub chain-returns-in_err-more_operands-clause-only : goal.chain-returns-in_err-more_operands-clause-only
chain-returns-in_err-more_operands-clause-only t c =
    finds_given (finds_then c.in_ok-first.ensures.only
    (finds_err c.in_err-more_operands.ensures.only c.from_residual-in_err-more_operands.ensures.1)
    (chain_follows c.args.chain)) (λ n next ts h s k. (h, s))

pub chain-returns-clause-found : goal.chain-returns-clause-found
chain-returns-clause-found t c = let m = c.in_ok-more_operands.ensures.found in chain_made c.args.chain _ c.in_ok-first.first m.0 _ _ (pushed_more c.in_ok-operands.ensures.items m.1) (record { form = c.node.ensures.form ∙ c.chain_of.ensures; there = c.node.ensures.there; span = c.node.ensures.span }) c.in_ok-first.ensures.found m.2 (c.if-not-is_at.ensures.yes ∙ c.separator_of.ensures.value) c.in_ok-more_operands.ensures.over

pub chain-returns-clause-only : goal.chain-returns-clause-only
chain-returns-clause-only t c = finds_given
    (finds_then c.in_ok-first.ensures.only (finds_ok _ c.in_ok-more_operands.ensures.only) (chain_follows c.args.chain))
    (λ n next ts h s k. (h, s))

pub choice-returns-in_err-case-clause-only : goal.choice-returns-in_err-case-clause-only
choice-returns-in_err-case-clause-only t c =
    finds_given (finds_fails c.in_err-case.ensures.only c.from_residual.ensures.1 (follows_then refl))
    (λ n next ts h s k. (then_unassoc h, s))

pub choice-returns-in_err-expect-clause-only : goal.choice-returns-in_err-expect-clause-only
choice-returns-in_err-expect-clause-only t c =
    finds_given (finds_then c.in_ok-case.ensures.only
    (finds_fails (c.in_err-expect.ensures.only _) c.from_residual-in_err-expect.ensures.1 follows_any)
    (follows_then refl)) (λ n next ts h s k. (then_unassoc h, s))

pub choice-returns-in_err-other-clause-only : goal.choice-returns-in_err-other-clause-only
choice-returns-in_err-other-clause-only t c =
    finds_given (finds_then c.in_ok-case.ensures.only
    (finds_then (c.in_ok-expect.ensures.only _)
    (finds_err c.in_err-other.ensures.only c.from_residual-in_err-other.ensures.1) follows_any) (follows_then refl))
    (λ n next ts h s k. (then_unassoc h, s))

pub choice-returns-in_err-cases-clause-only : goal.choice-returns-in_err-cases-clause-only
choice-returns-in_err-cases-clause-only t c = let f = finds_then c.in_ok-case.ensures.only (finds_then (c.in_ok-expect.ensures.only _) c.in_ok-other.ensures.only follows_any) (follows_then refl) in finds_memory f.front f.passed (err_memory _ _ c.from_residual-in_err-cases.ensures.1 c.in_err-cases.ensures.err)

pub choice-returns-in_err-boxed-clause-only : goal.choice-returns-in_err-boxed-clause-only
choice-returns-in_err-boxed-clause-only t c = let f = finds_then c.in_ok-case.ensures.only (finds_then (c.in_ok-expect.ensures.only _) c.in_ok-other.ensures.only follows_any) (follows_then refl) in finds_memory f.front f.passed (err_memory _ _ c.from_residual-in_err-boxed.ensures.1 c.in_err-boxed.ensures.err)

pub choice-returns-clause-found : goal.choice-returns-clause-found
choice-returns-clause-found t c = if_made _ c.in_ok-case.case.0 c.in_ok-case.case.1 c.in_ok-other.other _ _
    (record {
      cases = c.in_ok-cases.cases;
      d = c.in_ok-boxed.boxed;
      is = refl;
      one = c.in_ok-cases.ensures.items;
      other_is = c.in_ok-boxed.ensures.ok;
    })
    (record { form = c.node.ensures.form; there = c.node.ensures.there; span = c.node.ensures.span })
    c.in_ok-case.ensures.found (spans_expected c.in_ok-expect.ensures.found) c.in_ok-other.ensures.found

pub choice-returns-clause-only : goal.choice-returns-clause-only
choice-returns-clause-only t c = finds_ok _
    (finds_given (finds_then c.in_ok-case.ensures.only
    (finds_then (c.in_ok-expect.ensures.only _) c.in_ok-other.ensures.only follows_any) (follows_then refl))
    (λ n next ts h s k. (then_unassoc h, s)))

pub compare-returns-in_err-first-clause-only : goal.compare-returns-in_err-first-clause-only
compare-returns-in_err-first-clause-only t c =
    finds_given (finds_fails c.in_err-first.ensures.only c.from_residual.ensures.1 compare_follows)
    (λ n next ts h s k. (h, s))

pub compare-returns-in_err-second-in-Some-clause-only : goal.compare-returns-in_err-second-in-Some-clause-only
compare-returns-in_err-second-in-Some-clause-only t c =
    finds_given (finds_then c.in_ok-first.ensures.only
    (finds_given (finds_then (finds_token c.in-Some.ensures.taken)
    (finds_err c.in_err-second-in-Some.ensures.only c.from_residual-in_err-second-in-Some.ensures.1) follows_any)
    (λ n next ts h s k. (
      compare_more n c.in-Some.relation next ts h s (k ∙ eats_kind c.in-Some.ensures.taken),
      and_left
          (ends_sum next) _ s,
    ))) compare_follows) (λ n next ts h s k. (h, s))

pub compare-returns-in_err-form-in-Some-clause-only : goal.compare-returns-in_err-form-in-Some-clause-only
compare-returns-in_err-form-in-Some-clause-only t c = let f = finds_then c.in_ok-first.ensures.only (finds_then (finds_token c.in-Some.ensures.taken) c.in_ok-second-in-Some.ensures.only follows_any) (follows_then (relation_ends c.in-Some.relation)) in finds_memory f.front f.passed (err_memory _ _ c.from_residual-in_err-form-in-Some.ensures.1 c.in_err-form-in-Some.ensures.err)

pub compare-returns-in-None-clause-found : goal.compare-returns-in-None-clause-found
compare-returns-in-None-clause-found t c =
    spans_at (Node (ReadsCompare (ReadsSum (ReadsProduct (ReadsMinus c.args.left)))) c.in_ok-first.first)
    (spans_map c.in_ok-first.ensures.found (compare_one _ _)) c.in-None.ensures.left

pub compare-returns-in-None-clause-only : goal.compare-returns-in-None-clause-only
compare-returns-in-None-clause-only t c =
    finds_given (finds_then c.in_ok-first.ensures.only
    (finds_at (finds_given (finds_nothing _)
    (λ n next ts h s k. (compare_over n next ts h (ap is_relation k ∙ c.in-None.ensures.other), s)))
    c.in-None.ensures.left) compare_follows) (λ n next ts h s k. (h, s))

pub compare-returns-in_ok-form-in-Some-clause-found : goal.compare-returns-in_ok-form-in-Some-clause-found
compare-returns-in_ok-form-in-Some-clause-found t c =
    compare_made _ c.in-Some.relation _ _ _ _ c.in_ok-form-in-Some.ensures.made
    (record { form = c.node.ensures.form; there = c.node.ensures.there; span = c.node.ensures.span })
    c.in_ok-first.ensures.found (spans_token c.in-Some.ensures.taken) c.in_ok-second-in-Some.ensures.found

pub compare-returns-in_ok-form-in-Some-clause-only : goal.compare-returns-in_ok-form-in-Some-clause-only
compare-returns-in_ok-form-in-Some-clause-only t c =
    finds_given (finds_then c.in_ok-first.ensures.only
    (finds_given (finds_then (finds_token c.in-Some.ensures.taken) (finds_ok _ c.in_ok-second-in-Some.ensures.only)
    follows_any) (λ n next ts h s k. (
      compare_more n c.in-Some.relation next ts h s
          (k ∙ eats_kind c.in-Some.ensures.taken),
      and_left (ends_sum next) _ s,
    ))) compare_follows)
    (λ n next ts h s k. (h, s))

pub enclosed-returns-in_err-expect-clause-only : goal.enclosed-returns-in_err-expect-clause-only
enclosed-returns-in_err-expect-clause-only t c =
    finds_fails (c.in_err-expect.ensures.only _) c.from_residual.ensures.1 follows_any

pub enclosed-returns-in_err-inner-clause-only : goal.enclosed-returns-in_err-inner-clause-only
enclosed-returns-in_err-inner-clause-only t c =
    finds_then (c.in_ok-expect.ensures.only _)
    (finds_fails c.in_err-inner.ensures.only c.from_residual-in_err-inner.ensures.1 (follows_token c.requires.ends))
    follows_any

pub enclosed-returns-in_err-expect-2-clause-only : goal.enclosed-returns-in_err-expect-2-clause-only
enclosed-returns-in_err-expect-2-clause-only t c =
    finds_then (c.in_ok-expect.ensures.only _)
    (finds_then c.in_ok-inner.ensures.only
    (finds_err (c.in_err-expect-2.ensures.only _) c.from_residual-in_err-expect-2.ensures.1)
    (follows_token c.requires.ends)) follows_any

pub enclosed-returns-clause-found : goal.enclosed-returns-clause-found
enclosed-returns-clause-found t c =
    spans_then (spans_expected c.in_ok-expect.ensures.found)
    (spans_then c.in_ok-inner.ensures.found (spans_expected c.in_ok-expect-2.ensures.found))

pub enclosed-returns-clause-only : goal.enclosed-returns-clause-only
enclosed-returns-clause-only t c = finds_then (c.in_ok-expect.ensures.only _)
    (finds_then c.in_ok-inner.ensures.only (finds_ok _ (c.in_ok-expect-2.ensures.only _))
    (follows_token c.requires.ends)) follows_any

pub expr-returns-then-left-eq0-clause-only : goal.expr-returns-then-left-eq0-clause-only
expr-returns-then-left-eq0-clause-only t c =
    finds_no_room begins_expr _ _ (c.begins_expr.ensures ∙ ap begins_expr c.kind.ensures) c.no_room.ensures.deep
    c.no_room.ensures.other c.if-left-eq0.true expr_begins expr_some

pub expr-returns-then-is_at-clause-found : goal.expr-returns-then-is_at-clause-found
expr-returns-then-is_at-clause-found t c =
    takes_map (Node (ReadsIf (ReadsExpr (c.args.left - 1)))) (Node (ReadsExpr c.args.left)) _ _ _ c.choice.ensures.found
    (λ e next ts h. expr_choice_in c.args.left e next ts c.if-left-eq0.false h)

pub expr-returns-then-is_at-clause-only : goal.expr-returns-then-is_at-clause-only
expr-returns-then-is_at-clause-only t c =
    finds_given (finds_inside c.if-left-eq0.false c.choice.ensures.only)
    (λ n next ts h s k. (expr_if n next ts h (k ∙ c.if-is_at.ensures.yes), s))

pub expr-returns-clause-found : goal.expr-returns-clause-found
expr-returns-clause-found t c = takes_map (Node (chain_form Any (c.args.left - 1))) (Node (ReadsExpr c.args.left)) _ _ _
    c.chain.ensures.found (λ e next ts h. expr_plain_in c.args.left e next ts c.if-left-eq0.false h)

pub expr-returns-clause-only : goal.expr-returns-clause-only
expr-returns-clause-only t c = finds_plain (finds_inside c.if-left-eq0.false c.chain.ensures.only)
    (λ n next ts h s k none. (expr_plain n next ts h (λ e. c.if-is_at.ensures.no (sym k ∙ e)) none, s))

pub minus-returns-then-left-eq0-clause-only : goal.minus-returns-then-left-eq0-clause-only
minus-returns-then-left-eq0-clause-only t c =
    finds_no_room begins_minus _ _ (c.begins_minus.ensures ∙ ap begins_minus c.kind.ensures) c.no_room.ensures.deep
    c.no_room.ensures.other c.if-left-eq0.true minus_begins minus_some

pub minus-returns-in_err-operand-clause-only : goal.minus-returns-in_err-operand-clause-only
minus-returns-in_err-operand-clause-only t c =
    finds_given (finds_inside c.if-left-eq0.false
    (finds_then (finds_token c.if-eat.ensures.taken) (finds_err c.in_err-operand.ensures.only c.from_residual.ensures.1)
    follows_any)) (λ n next ts h s k. (minus_negated n next ts h (k ∙ eats_kind c.if-eat.ensures.taken), s))

pub minus-returns-in_err-boxed-clause-only : goal.minus-returns-in_err-boxed-clause-only
minus-returns-in_err-boxed-clause-only t c = let f = finds_then (finds_token c.if-eat.ensures.taken) c.in_ok-operand.ensures.only follows_any in finds_memory f.front f.passed (err_memory _ _ c.from_residual-in_err-boxed.ensures.1 c.in_err-boxed.ensures.err)

pub minus-returns-then-eat-clause-found : goal.minus-returns-then-eat-clause-found
minus-returns-then-eat-clause-found t c =
    minus_made c.args.left c.in_ok-boxed.boxed _ _ c.if-left-eq0.false c.in_ok-boxed.ensures.ok
    (record { form = c.node.ensures.form; there = c.node.ensures.there; span = c.node.ensures.span })
    (spans_token c.if-eat.ensures.taken) c.in_ok-operand.ensures.found

pub minus-returns-then-eat-clause-only : goal.minus-returns-then-eat-clause-only
minus-returns-then-eat-clause-only t c =
    finds_given (finds_inside c.if-left-eq0.false
    (finds_then (finds_token c.if-eat.ensures.taken) (finds_ok _ c.in_ok-operand.ensures.only) follows_any))
    (λ n next ts h s k. (minus_negated n next ts h (k ∙ eats_kind c.if-eat.ensures.taken), s))

pub minus-returns-clause-found : goal.minus-returns-clause-found
minus-returns-clause-found t c = takes_from (Node (ReadsMinus c.args.left)) _ _ _ _
    (takes_map (Node (ReadsPrimary (ReadsExpr (c.args.left - 1)))) (Node (ReadsMinus c.args.left)) _ _ _
    c.primary.ensures.found
    (λ e next ts h. minus_plain_in c.args.left e next ts c.if-left-eq0.false h)) (sym c.if-eat.ensures.left)

pub minus-returns-clause-only : goal.minus-returns-clause-only
minus-returns-clause-only t c = finds_from
    (finds_plain (finds_inside c.if-left-eq0.false c.primary.ensures.only)
    (λ n next ts h s k none. (
      minus_plain n next ts h
          (λ e. c.if-eat.ensures.other (ap first_token_kind (sym c.if-eat.ensures.left) ∙ sym k ∙ e)) none,
      s,
    ))) c.if-eat.ensures.left

pub more_arguments-returns-in_err-operand-clause-only : goal.more_arguments-returns-in_err-operand-clause-only
more_arguments-returns-in_err-operand-clause-only t c = let e = c.loop-self-test.ensures.taken in loops_fail c.loop-self.invariant.0.loops (ap ends_list (eats_kind e)) (finds_then (finds_token e) c.in_err-operand.ensures.only follows_any) c.from_residual.ensures.1 arguments_follow

pub more_arguments-loop-self-preserved : goal.more_arguments-loop-self-preserved
more_arguments-loop-self-preserved t c = let e = c.loop-self-test.ensures.taken in (
  gathers_push c.loop-self.invariant.0 (ap ends_list (eats_kind e)) (spans_then (spans_token e) c.in_ok-operand.ensures.found) (finds_then (finds_token e) c.in_ok-operand.ensures.only follows_any) arguments_follow c.in_ok-put.ensures.items,
  c.in_ok-operand.ensures.end ∙ c.loop-self-test.ensures.end ∙ c.loop-self.invariant.1,
)

pub more_arguments-returns-in_err-put-clause-only : goal.more_arguments-returns-in_err-put-clause-only
more_arguments-returns-in_err-put-clause-only t c = let e = c.loop-self-test.ensures.taken in let l = loops_next c.loop-self.invariant.0.loops (ap ends_list (eats_kind e)) (finds_then (finds_token e) c.in_ok-operand.ensures.only follows_any) arguments_follow in finds_memory l.front l.passed (err_memory _ _ c.from_residual-in_err-put.ensures.1 c.in_err-put.ensures.err)

pub more_arguments-returns-clause-only : goal.more_arguments-returns-clause-only
more_arguments-returns-clause-only t c = let a = c.loop-self-test.ensures in finds_at (loops_stop c.loop-self.invariant.0.loops (λ n next ts h k. a.other (sym k ∙ then_kind h))) a.left

pub more_operands-returns-in_err-operand-clause-only : goal.more_operands-returns-in_err-operand-clause-only
more_operands-returns-in_err-operand-clause-only t c = let e = eats_as c.loop-chain-test.ensures.taken c.separator_of-separator.ensures.value in loops_fail c.loop-chain.invariant.0.loops (ap (ends_chain c.args.chain) (eats_kind e) ∙ sep_open c.args.chain) (finds_then (finds_token e) c.in_err-operand.ensures.only follows_any) c.from_residual.ensures.1 (chain_follows c.args.chain)

pub more_operands-loop-chain-preserved : goal.more_operands-loop-chain-preserved
more_operands-loop-chain-preserved t c = let e = eats_as c.loop-chain-test.ensures.taken c.separator_of-separator.ensures.value in (
  gathers_push c.loop-chain.invariant.0 (ap (ends_chain c.args.chain) (eats_kind e) ∙ sep_open c.args.chain) (spans_then (spans_token e) c.in_ok-operand.ensures.found) (finds_then (finds_token e) c.in_ok-operand.ensures.only follows_any) (chain_follows c.args.chain) c.in_ok-put.ensures.items,
  c.in_ok-operand.ensures.end ∙ c.loop-chain-test.ensures.end ∙ c.loop-chain.invariant.1,
)

pub more_operands-returns-in_err-put-clause-only : goal.more_operands-returns-in_err-put-clause-only
more_operands-returns-in_err-put-clause-only t c = let e = eats_as c.loop-chain-test.ensures.taken c.separator_of-separator.ensures.value in let l = loops_next c.loop-chain.invariant.0.loops (ap (ends_chain c.args.chain) (eats_kind e) ∙ sep_open c.args.chain) (finds_then (finds_token e) c.in_ok-operand.ensures.only follows_any) (chain_follows c.args.chain) in finds_memory l.front l.passed (err_memory _ _ c.from_residual-in_err-put.ensures.1 c.in_err-put.ensures.err)

pub more_operands-returns-clause-only : goal.more_operands-returns-clause-only
more_operands-returns-clause-only t c = let a = c.loop-chain-test.ensures in finds_at (loops_stop c.loop-chain.invariant.0.loops (λ n next ts h k. a.other (sym k ∙ then_kind h ∙ sym c.separator_of-separator.ensures.value))) a.left

pub more_terms-returns-in_err-term-clause-only : goal.more_terms-returns-in_err-term-clause-only
more_terms-returns-in_err-term-clause-only t c = let e = term_eats c.in-Some.plus c.in-Some.ensures.plus c.in-Some.ensures.minus in let o = term_open (first_token_kind c.loop-plus.self.rest.now) (ap begins_term (eats_kind e) ∙ term_sign c.in-Some.plus) in loops_fail c.loop-plus.invariant.0.loops o (finds_given (finds_then (finds_token e) c.in_err-term.ensures.only follows_any) (λ n next ts h s k. (term_given n c.in-Some.plus next ts h (k ∙ eats_kind e), s))) c.from_residual.ensures.1 sum_follows

pub more_terms-loop-plus-preserved : goal.more_terms-loop-plus-preserved
more_terms-loop-plus-preserved t c = let e = term_eats c.in-Some.plus c.in-Some.ensures.plus c.in-Some.ensures.minus in let o = term_open (first_token_kind c.loop-plus.self.rest.now) (ap begins_term (eats_kind e) ∙ term_sign c.in-Some.plus) in (
  gathers_push c.loop-plus.invariant.0 o (spans_then (spans_token e) c.in_ok-term.ensures.found) (finds_given (finds_then (finds_token e) c.in_ok-term.ensures.only follows_any) (λ n next ts h s k. (term_given n c.in-Some.plus next ts h (k ∙ eats_kind e), s))) sum_follows c.in_ok-put.ensures.items,
  c.in_ok-term.ensures.end ∙ c.in-Some.ensures.end ∙ c.loop-plus.invariant.1,
)

pub more_terms-returns-in_err-put-clause-only : goal.more_terms-returns-in_err-put-clause-only
more_terms-returns-in_err-put-clause-only t c = let e = term_eats c.in-Some.plus c.in-Some.ensures.plus c.in-Some.ensures.minus in let o = term_open (first_token_kind c.loop-plus.self.rest.now) (ap begins_term (eats_kind e) ∙ term_sign c.in-Some.plus) in let l = loops_next c.loop-plus.invariant.0.loops o (finds_given (finds_then (finds_token e) c.in_ok-term.ensures.only follows_any) (λ n next ts h s k. (term_given n c.in-Some.plus next ts h (k ∙ eats_kind e), s))) sum_follows in finds_memory l.front l.passed (err_memory _ _ c.from_residual-in_err-put.ensures.1 c.in_err-put.ensures.err)

pub more_terms-returns-clause-only : goal.more_terms-returns-clause-only
more_terms-returns-clause-only t c =
    finds_at (loops_stop c.loop-plus.invariant.0.loops
    (λ n next ts h k. term_begins n next ts _ h k c.in_default.ensures.other)) c.in_default.ensures.left

pub not-returns-then-left-eq0-clause-only : goal.not-returns-then-left-eq0-clause-only
not-returns-then-left-eq0-clause-only t c =
    finds_no_room begins_not _ _ (c.begins_not.ensures ∙ ap begins_not c.kind.ensures) c.no_room.ensures.deep
    c.no_room.ensures.other c.if-left-eq0.true not_begins not_some

pub not-returns-in_err-operand-clause-only : goal.not-returns-in_err-operand-clause-only
not-returns-in_err-operand-clause-only t c =
    finds_given (finds_inside c.if-left-eq0.false
    (finds_then (finds_token c.if-eat.ensures.taken) (finds_err c.in_err-operand.ensures.only c.from_residual.ensures.1)
    follows_any)) (λ n next ts h s k. (not_negated n next ts h (k ∙ eats_kind c.if-eat.ensures.taken), s))

pub not-returns-in_err-boxed-clause-only : goal.not-returns-in_err-boxed-clause-only
not-returns-in_err-boxed-clause-only t c = let f = finds_then (finds_token c.if-eat.ensures.taken) c.in_ok-operand.ensures.only follows_any in finds_memory f.front f.passed (err_memory _ _ c.from_residual-in_err-boxed.ensures.1 c.in_err-boxed.ensures.err)

pub not-returns-then-eat-clause-found : goal.not-returns-then-eat-clause-found
not-returns-then-eat-clause-found t c =
    not_made c.args.left c.in_ok-boxed.boxed _ _ c.if-left-eq0.false c.in_ok-boxed.ensures.ok
    (record { form = c.node.ensures.form; there = c.node.ensures.there; span = c.node.ensures.span })
    (spans_token c.if-eat.ensures.taken) c.in_ok-operand.ensures.found

pub not-returns-then-eat-clause-only : goal.not-returns-then-eat-clause-only
not-returns-then-eat-clause-only t c =
    finds_given (finds_inside c.if-left-eq0.false
    (finds_then (finds_token c.if-eat.ensures.taken) (finds_ok _ c.in_ok-operand.ensures.only) follows_any))
    (λ n next ts h s k. (not_negated n next ts h (k ∙ eats_kind c.if-eat.ensures.taken), s))

pub not-returns-clause-found : goal.not-returns-clause-found
not-returns-clause-found t c = takes_from (Node (ReadsNot c.args.left)) _ _ _ _
    (takes_map (Node (ReadsCompare (ReadsSum (ReadsProduct (ReadsMinus (c.args.left - 1))))))
    (Node (ReadsNot c.args.left)) _ _ _
    c.compare.ensures.found (λ e next ts h. not_plain_in c.args.left e next ts c.if-left-eq0.false h))
    (sym c.if-eat.ensures.left)

pub not-returns-clause-only : goal.not-returns-clause-only
not-returns-clause-only t c = finds_from
    (finds_plain (finds_inside c.if-left-eq0.false c.compare.ensures.only)
    (λ n next ts h s k none. (
      not_plain n next ts h
          (λ e. c.if-eat.ensures.other (ap first_token_kind (sym c.if-eat.ensures.left) ∙ sym k ∙ e)) none,
      s,
    ))) c.if-eat.ensures.left

pub operand-returns-in-Any-clause-only : goal.operand-returns-in-Any-clause-only
operand-returns-in-Any-clause-only t c =
    subst (λ (k : Chain). FindsRefusal (operand_tokens k) (ends_operand k) c.args.left c.chain.result c.args.self.now.rest.now
    c.chain.new.self.rest.now) (sym c.in-Any.is) c.chain.ensures.only

pub operands-returns-in_err-expect-clause-only : goal.operands-returns-in_err-expect-clause-only
operands-returns-in_err-expect-clause-only t c =
    finds_given (finds_fails (c.in_err-expect.ensures.only _) c.from_residual.ensures.1 follows_any)
    (λ n next ts h s k. (h, s))

pub operands-returns-in_err-first-clause-only : goal.operands-returns-in_err-first-clause-only
operands-returns-in_err-first-clause-only t c =
    finds_given (finds_then (c.in_ok-expect.ensures.only _)
    (finds_fails c.in_err-first.ensures.only c.from_residual-in_err-first.ensures.1 operands_follow) follows_any)
    (λ n next ts h s k. (h, s))

pub operands-returns-in_err-operands-clause-only : goal.operands-returns-in_err-operands-clause-only
operands-returns-in_err-operands-clause-only t c = let f = finds_then (c.in_ok-expect.ensures.only c.args.left) c.in_ok-first.ensures.only follows_any in finds_memory f.front f.passed (err_memory _ _ c.from_residual-in_err-operands.ensures.1 c.in_err-operands.ensures.err)

pub operands-returns-in_err-more_arguments-clause-only : goal.operands-returns-in_err-more_arguments-clause-only
operands-returns-in_err-more_arguments-clause-only t c =
    finds_given (finds_then (c.in_ok-expect.ensures.only _)
    (finds_then c.in_ok-first.ensures.only
    (finds_fails c.in_err-more_arguments.ensures.only c.from_residual-in_err-more_arguments.ensures.1
    (follows_token refl)) operands_follow) follows_any) (λ n next ts h s k. (h, s))

pub operands-returns-in_err-expect-2-clause-only : goal.operands-returns-in_err-expect-2-clause-only
operands-returns-in_err-expect-2-clause-only t c =
    finds_given (finds_then (c.in_ok-expect.ensures.only _)
    (finds_then c.in_ok-first.ensures.only
    (finds_then c.in_ok-more_arguments.ensures.only
    (finds_err (c.in_err-expect-2.ensures.only _) c.from_residual-in_err-expect-2.ensures.1) (follows_token refl))
    operands_follow) follows_any) (λ n next ts h s k. (h, s))

pub operands-returns-clause-found : goal.operands-returns-clause-found
operands-returns-clause-found t c = let m = c.in_ok-more_arguments.ensures.found in operands_made _ c.in_ok-first.first m.0 _ (pushed_more c.in_ok-operands.ensures.items m.1) (spans_expected c.in_ok-expect.ensures.found) c.in_ok-first.ensures.found m.2 (spans_expected c.in_ok-expect-2.ensures.found)

pub operands-returns-clause-only : goal.operands-returns-clause-only
operands-returns-clause-only t c = finds_given
    (finds_then (c.in_ok-expect.ensures.only _)
    (finds_then c.in_ok-first.ensures.only
    (finds_then c.in_ok-more_arguments.ensures.only (finds_ok _ (c.in_ok-expect-2.ensures.only _)) (follows_token refl))
    operands_follow) follows_any) (λ n next ts h s k. (h, s))

pub primary-returns-in-Some-clause-found : goal.primary-returns-in-Some-clause-found
primary-returns-in-Some-clause-found t c = constant_made _ _ _ _ (subst (IsConstant c.in-Some.form) c.kind.ensures c.in-Some.ensures.found)
    (record { form = c.node.ensures.form; there = c.node.ensures.there; span = c.node.ensures.span })
    (spans_token c.skip.ensures.taken)

pub primary-returns-in-Some-clause-only : goal.primary-returns-in-Some-clause-only
primary-returns-in-Some-clause-only t c = finds_given (finds_ok _ (finds_token c.skip.ensures.taken))
    (λ n next ts h s q. (primary_constant n _ next ts h q (constant_begins _ _ (subst (IsConstant c.in-Some.form) c.kind.ensures c.in-Some.ensures.found)), refl))

pub primary-returns-in_err-inner-clause-only : goal.primary-returns-in_err-inner-clause-only
primary-returns-in_err-inner-clause-only t c =
    finds_given (finds_err c.in_err-inner.ensures.only c.from_residual.ensures.1)
    (λ n next ts h s k. (primary_brackets n next ts h (k ∙ c.if-is_at.ensures.yes), refl))

pub primary-returns-then-is_at-clause-found : goal.primary-returns-then-is_at-clause-found
primary-returns-then-is_at-clause-found t c =
    brackets_made _ c.in_ok-inner.inner _
    (record { form = c.node-then-is_at.ensures.form; there = c.node-then-is_at.ensures.there; span = c.node-then-is_at.ensures.span })
    c.in_ok-inner.ensures.found

pub primary-returns-then-is_at-clause-only : goal.primary-returns-then-is_at-clause-only
primary-returns-then-is_at-clause-only t c =
    finds_given (finds_ok _ c.in_ok-inner.ensures.only)
    (λ n next ts h s k. (primary_brackets n next ts h (k ∙ c.if-is_at.ensures.yes), refl))

pub primary-returns-then-is_at-2-clause-found : goal.primary-returns-then-is_at-2-clause-found
primary-returns-then-is_at-2-clause-found t c =
    takes_map (Node (ReadsSwitch (ReadsExpr c.args.left))) (Node (ReadsPrimary (ReadsExpr c.args.left))) _ _ _
    c.switch.ensures.found (λ e next ts h. switch_in c.args.left e next ts h)

pub primary-returns-then-is_at-2-clause-only : goal.primary-returns-then-is_at-2-clause-only
primary-returns-then-is_at-2-clause-only t c =
    finds_given c.switch.ensures.only
    (λ n next ts h s k. (primary_switch n next ts h (k ∙ c.if-is_at-2.ensures.yes), refl))

pub primary-returns-in_err-operands-clause-only : goal.primary-returns-in_err-operands-clause-only
primary-returns-in_err-operands-clause-only t c =
    let taken = eats_as c.skip-in-Some-call_at.ensures.taken (sym c.kind-2.ensures ∙ c.in-Some-call_at.ensures.found) in
    finds_given (finds_then (finds_token taken)
    (finds_err c.in_err-operands.ensures.only c.from_residual-in_err-operands.ensures.1) follows_any)
    (λ n next ts h s k. (primary_call n c.in-Some-call_at.call next ts h (k ∙ eats_kind taken), refl))

pub primary-returns-in-Some-call_at-clause-found : goal.primary-returns-in-Some-call_at-clause-found
primary-returns-in-Some-call_at-clause-found t c =
    let taken = eats_as c.skip-in-Some-call_at.ensures.taken (sym c.kind-2.ensures ∙ c.in-Some-call_at.ensures.found) in
    call_made _ c.in-Some-call_at.call c.in_ok-operands.operands _
    (record {
      form = c.node-in-Some-call_at.ensures.form ∙ c.call_of.ensures;
      there = c.node-in-Some-call_at.ensures.there;
      span = c.node-in-Some-call_at.ensures.span;
    })
    (spans_token taken) c.in_ok-operands.ensures.found

pub primary-returns-in-Some-call_at-clause-only : goal.primary-returns-in-Some-call_at-clause-only
primary-returns-in-Some-call_at-clause-only t c =
    let taken = eats_as c.skip-in-Some-call_at.ensures.taken (sym c.kind-2.ensures ∙ c.in-Some-call_at.ensures.found) in
    finds_given (finds_then (finds_token taken) (finds_ok _ c.in_ok-operands.ensures.only) follows_any)
    (λ n next ts h s k. (primary_call n c.in-Some-call_at.call next ts h (k ∙ eats_kind taken), refl))

pub primary-returns-in_err-path-clause-only : goal.primary-returns-in_err-path-clause-only
primary-returns-in_err-path-clause-only t c =
    finds_given (finds_err (c.in_err-path.ensures.only _) c.from_residual-in_err-path.ensures.1)
    (λ n next ts h s k. (
      primary_path n next ts h
          (ap begins_constant (k ∙ sym c.kind.ensures) ∙ c.in_default.ensures.none)
          (λ e. c.if-is_at.ensures.no (sym k ∙ e)) (λ e. c.if-is_at-2.ensures.no (sym k ∙ e))
          (ap begins_call (k ∙ sym c.kind-2.ensures) ∙ c.in_default-call_at.ensures.none),
      s,
    ))

pub primary-returns-clause-found : goal.primary-returns-clause-found
primary-returns-clause-found t c = path_made_primary _ c.in_ok-path.path _
    (record { form = c.node-2.ensures.form; there = c.node-2.ensures.there; span = c.node-2.ensures.span })
    c.in_ok-path.ensures.found

pub primary-returns-clause-only : goal.primary-returns-clause-only
primary-returns-clause-only t c =
    finds_given (finds_ok _ (c.in_ok-path.ensures.only _))
    (λ n next ts h s k. (
      primary_path n next ts h
          (ap begins_constant (k ∙ sym c.kind.ensures) ∙ c.in_default.ensures.none)
          (λ e. c.if-is_at.ensures.no (sym k ∙ e)) (λ e. c.if-is_at-2.ensures.no (sym k ∙ e))
          (ap begins_call (k ∙ sym c.kind-2.ensures) ∙ c.in_default-call_at.ensures.none),
      s,
    ))

pub sum-returns-in_err-first-clause-only : goal.sum-returns-in_err-first-clause-only
sum-returns-in_err-first-clause-only t c =
    finds_given (finds_fails c.in_err-first.ensures.only c.from_residual.ensures.1 sum_follows)
    (λ n next ts h s k. (h, s))

pub sum-returns-then-not-is_at_term-clause-found : goal.sum-returns-then-not-is_at_term-clause-found
sum-returns-then-not-is_at_term-clause-found t c = spans_map c.in_ok-first.ensures.found (sum_one _ _)

pub sum-returns-then-not-is_at_term-clause-only : goal.sum-returns-then-not-is_at_term-clause-only
sum-returns-then-not-is_at_term-clause-only t c =
    finds_given (finds_then c.in_ok-first.ensures.only
    (loops_stop loops_start (λ n next ts h k. term_begins n next ts _ h k (sym c.if-not-is_at_term.ensures)))
    sum_follows) (λ n next ts h s k. (h, s))

pub sum-returns-in_err-more_terms-clause-only : goal.sum-returns-in_err-more_terms-clause-only
sum-returns-in_err-more_terms-clause-only t c =
    finds_given (finds_then c.in_ok-first.ensures.only
    (finds_err c.in_err-more_terms.ensures.only c.from_residual-in_err-more_terms.ensures.1) sum_follows)
    (λ n next ts h s k. (h, s))

pub sum-returns-clause-found : goal.sum-returns-clause-found
sum-returns-clause-found t c = let m = c.in_ok-more_terms.ensures.found in sum_made _ c.in_ok-first.first m.0 _ _ (pushed_more c.in_ok-terms.ensures.items m.1) (record { form = c.node.ensures.form; there = c.node.ensures.there; span = c.node.ensures.span }) c.in_ok-first.ensures.found m.2 (sym c.if-not-is_at_term.ensures) c.in_ok-more_terms.ensures.over

pub sum-returns-clause-only : goal.sum-returns-clause-only
sum-returns-clause-only t c = finds_given
    (finds_then c.in_ok-first.ensures.only (finds_ok _ c.in_ok-more_terms.ensures.only) sum_follows)
    (λ n next ts h s k. (h, s))

pub switch-returns-in_err-expect-clause-only : goal.switch-returns-in_err-expect-clause-only
switch-returns-in_err-expect-clause-only t c =
    finds_given (finds_fails (c.in_err-expect.ensures.only _) c.from_residual.ensures.1 follows_any)
    (λ n next ts h s k. (switch_parts n next ts h, refl))

pub switch-returns-in_err-expect-2-clause-only : goal.switch-returns-in_err-expect-2-clause-only
switch-returns-in_err-expect-2-clause-only t c =
    finds_given (finds_then (c.in_ok-expect.ensures.only _)
    (finds_fails (c.in_err-expect-2.ensures.only _) c.from_residual-in_err-expect-2.ensures.1 follows_any) follows_any)
    (λ n next ts h s k. (switch_parts n next ts h, refl))

pub switch-returns-in_err-cases-clause-only : goal.switch-returns-in_err-cases-clause-only
switch-returns-in_err-cases-clause-only t c =
    finds_given (finds_then (c.in_ok-expect.ensures.only _)
    (finds_then (c.in_ok-expect-2.ensures.only _)
    (finds_fails c.in_err-cases.ensures.only c.from_residual-in_err-cases.ensures.1 (follows_then refl)) follows_any)
    follows_any) (λ n next ts h s k. (switch_parts n next ts h, refl))

pub switch-returns-then-is_empty-clause-only : goal.switch-returns-then-is_empty-clause-only
switch-returns-then-is_empty-clause-only t c = let z = ap length (sym c.as_slice.ensures.value) ∙ eqb-true _ 0 (sym c.if-is_empty.ensures) in finds_at (finds_given (finds_then (c.in_ok-expect.ensures.only _) (finds_then (c.in_ok-expect-2.ensures.only _) (finds_fails {A = RawExpr} {B = RawExpr} {r = Err _} (finds_syntax (λ n next ts h s k. c.in_ok-cases.ensures.over (ap first_token_kind (no_cases _ _ z c.in_ok-cases.ensures.found) ∙ sym k ∙ case_kind n next ts h))) refl follows_any) follows_any) follows_any) (λ n next ts h s k. (h, refl))) (no_cases _ _ z c.in_ok-cases.ensures.found)

pub switch-returns-in_err-expect-3-clause-only : goal.switch-returns-in_err-expect-3-clause-only
switch-returns-in_err-expect-3-clause-only t c =
    finds_given (finds_then (c.in_ok-expect.ensures.only _)
    (finds_then (c.in_ok-expect-2.ensures.only _)
    (finds_then c.in_ok-cases.ensures.only
    (finds_fails (c.in_err-expect-3.ensures.only _) c.from_residual-in_err-expect-3.ensures.1 follows_any)
    (follows_then refl)) follows_any) follows_any) (λ n next ts h s k. (switch_parts n next ts h, refl))

pub switch-returns-in_err-other-clause-only : goal.switch-returns-in_err-other-clause-only
switch-returns-in_err-other-clause-only t c =
    finds_given (finds_then (c.in_ok-expect.ensures.only _)
    (finds_then (c.in_ok-expect-2.ensures.only _)
    (finds_then c.in_ok-cases.ensures.only
    (finds_then (c.in_ok-expect-3.ensures.only _)
    (finds_err c.in_err-other.ensures.only c.from_residual-in_err-other.ensures.1) follows_any) (follows_then refl))
    follows_any) follows_any) (λ n next ts h s k. (switch_parts n next ts h, refl))

pub switch-returns-in_err-boxed-clause-only : goal.switch-returns-in_err-boxed-clause-only
switch-returns-in_err-boxed-clause-only t c = let f = finds_then (c.in_ok-expect.ensures.only c.args.left) (finds_then (c.in_ok-expect-2.ensures.only _) (finds_then c.in_ok-cases.ensures.only (finds_then (c.in_ok-expect-3.ensures.only _) c.in_ok-other.ensures.only follows_any) (follows_then refl)) follows_any) follows_any in finds_memory f.front f.passed (err_memory _ _ c.from_residual-in_err-boxed.ensures.1 c.in_err-boxed.ensures.err)

pub switch-returns-clause-found : goal.switch-returns-clause-found
switch-returns-clause-found t c = switch_made _ c.in_ok-cases.cases c.in_ok-boxed.boxed _ _ (let e = c.if-is_empty.ensures in let f = ap length c.as_slice.ensures.value in some_length _ (λ z. let q : false ≡ true = e ∙ ap (λ m. m == 0) (f ∙ z) in absurd (cc))) c.in_ok-boxed.ensures.ok (record { form = c.node.ensures.form; there = c.node.ensures.there; span = c.node.ensures.span }) (spans_expected c.in_ok-expect.ensures.found) (spans_expected c.in_ok-expect-2.ensures.found) c.in_ok-cases.ensures.found (spans_expected c.in_ok-expect-3.ensures.found) c.in_ok-other.ensures.found

pub switch-returns-clause-only : goal.switch-returns-clause-only
switch-returns-clause-only t c = finds_given
    (finds_then (c.in_ok-expect.ensures.only _)
    (finds_then (c.in_ok-expect-2.ensures.only _)
    (finds_then c.in_ok-cases.ensures.only
    (finds_then (c.in_ok-expect-3.ensures.only _) (finds_ok _ c.in_ok-other.ensures.only) follows_any)
    (follows_then refl)) follows_any) follows_any) (λ n next ts h s k. (switch_parts n next ts h, refl))

pub cases-returns-in_err-case-clause-stuck : goal.cases-returns-in_err-case-clause-stuck
cases-returns-in_err-case-clause-stuck t c = halts_err _ _ c.from_residual.ensures.1 (refuses_some (let g = c.loop-self.invariant.0 in passes g.taken (λ m l. turns_each (turns_a_case _ m l) g.more)) c.in_err-case.ensures.stuck)

pub chain-returns-in_err-first-clause-stuck : goal.chain-returns-in_err-first-clause-stuck
chain-returns-in_err-first-clause-stuck t c =
    halts_err _ _ c.from_residual.ensures.1 (refuses_fails c.in_err-first.ensures.stuck (λ m. begins_no_more))

pub chain-returns-in_err-more_operands-clause-stuck : goal.chain-returns-in_err-more_operands-clause-stuck
chain-returns-in_err-more_operands-clause-stuck t c =
    halts_err _ _ c.from_residual-in_err-more_operands.ensures.1
    (refuses_then (passes c.in_ok-first.ensures.found (λ m l. turns_operand c.args.chain _ m l _))
    c.in_err-more_operands.ensures.stuck)

pub choice-returns-in_err-case-clause-stuck : goal.choice-returns-in_err-case-clause-stuck
choice-returns-in_err-case-clause-stuck t c =
    halts_err _ _ c.from_residual.ensures.1
    (refuses_map (refuses_fails c.in_err-case.ensures.stuck (λ m. some_else m)) (λ m next ts h. then_assoc h))

pub choice-returns-in_err-expect-clause-stuck : goal.choice-returns-in_err-expect-clause-stuck
choice-returns-in_err-expect-clause-stuck t c =
    halts_err _ _ c.from_residual-in_err-expect.ensures.1
    (refuses_map (refuses_then
    (passes c.in_ok-case.ensures.found (λ m l. turns_then (turns_enclosed _ _ _ m l _) (turns_tree _ m l _)))
    (refuses_fails (c.in_err-expect.ensures.stuck _) (λ m. some_expr m))) (λ m next ts h. then_assoc h))

pub choice-returns-in_err-other-clause-stuck : goal.choice-returns-in_err-other-clause-stuck
choice-returns-in_err-other-clause-stuck t c =
    halts_err _ _ c.from_residual-in_err-other.ensures.1
    (refuses_map (refuses_then
    (passes c.in_ok-case.ensures.found (λ m l. turns_then (turns_enclosed _ _ _ m l _) (turns_tree _ m l _)))
    (refuses_then (passes_expected c.in_ok-expect.ensures.found) c.in_err-other.ensures.stuck))
    (λ m next ts h. then_assoc h))

pub compare-returns-in_err-first-clause-stuck : goal.compare-returns-in_err-first-clause-stuck
compare-returns-in_err-first-clause-stuck t c =
    halts_err _ _ c.from_residual.ensures.1
    (refuses_fails c.in_err-first.ensures.stuck (λ m. begins_map begins_nothing (λ next ts h. inl h)))

pub compare-returns-in_err-second-in-Some-clause-stuck : goal.compare-returns-in_err-second-in-Some-clause-stuck
compare-returns-in_err-second-in-Some-clause-stuck t c =
    halts_err _ _ c.from_residual-in_err-second-in-Some.ensures.1
    (refuses_then (passes c.in_ok-first.ensures.found (λ m l. turns_a_sum _ m l _))
    (refuses_map (refuses_then {P = λ m. relation_tokens}
    (passes (spans_token c.in-Some.ensures.taken)
    (λ m l next next' ts h. (c.in-Some.relation, turns_token next next' ts h))) c.in_err-second-in-Some.ensures.stuck)
    (λ m next ts h. inr h)))

pub enclosed-returns-in_err-expect-clause-stuck : goal.enclosed-returns-in_err-expect-clause-stuck
enclosed-returns-in_err-expect-clause-stuck t c =
    halts_err _ _ c.from_residual.ensures.1
    (refuses_fails (c.in_err-expect.ensures.stuck _) (λ m. begins_then (some_expr m) (begins_token c.args.closes)))

pub enclosed-returns-in_err-inner-clause-stuck : goal.enclosed-returns-in_err-inner-clause-stuck
enclosed-returns-in_err-inner-clause-stuck t c =
    halts_err _ _ c.from_residual-in_err-inner.ensures.1
    (refuses_then (passes_expected c.in_ok-expect.ensures.found)
    (refuses_fails c.in_err-inner.ensures.stuck (λ m. begins_token c.args.closes)))

pub enclosed-returns-in_err-expect-2-clause-stuck : goal.enclosed-returns-in_err-expect-2-clause-stuck
enclosed-returns-in_err-expect-2-clause-stuck t c =
    halts_err _ _ c.from_residual-in_err-expect-2.ensures.1
    (refuses_then (passes_expected c.in_ok-expect.ensures.found)
    (refuses_then (passes c.in_ok-inner.ensures.found (λ m l. turns_tree _ m l _)) (c.in_err-expect-2.ensures.stuck _)))

pub expr-returns-then-left-eq0-clause-stuck : goal.expr-returns-then-left-eq0-clause-stuck
expr-returns-then-left-eq0-clause-stuck t c =
    refuses_no_room begins_expr _ _ (c.begins_expr.ensures ∙ ap begins_expr c.kind.ensures) c.no_room.ensures.deep
    c.no_room.ensures.other refl c.if-left-eq0.true some_expr (expr_at 0)

pub not-returns-then-left-eq0-clause-stuck : goal.not-returns-then-left-eq0-clause-stuck
not-returns-then-left-eq0-clause-stuck t c =
    refuses_no_room begins_not _ _ (c.begins_not.ensures ∙ ap begins_not c.kind.ensures) c.no_room.ensures.deep
    c.no_room.ensures.other refl c.if-left-eq0.true some_not (not_at 1)

pub minus-returns-then-left-eq0-clause-stuck : goal.minus-returns-then-left-eq0-clause-stuck
minus-returns-then-left-eq0-clause-stuck t c =
    refuses_no_room begins_minus _ _ (c.begins_minus.ensures ∙ ap begins_minus c.kind.ensures) c.no_room.ensures.deep
    c.no_room.ensures.other refl c.if-left-eq0.true some_minus (minus_at 2)

pub expr-returns-then-is_at-clause-stuck : goal.expr-returns-then-is_at-clause-stuck
expr-returns-then-is_at-clause-stuck t c =
    halts_over _ c.choice.ensures.stuck (λ e r. refuses_inside c.if-left-eq0.false r (λ m next ts h. inl h))

pub expr-returns-clause-stuck : goal.expr-returns-clause-stuck
expr-returns-clause-stuck t c = halts_over _ c.chain.ensures.stuck
    (λ e r. refuses_inside c.if-left-eq0.false r (λ m next ts h. inr h))

pub not-returns-in_err-operand-clause-stuck : goal.not-returns-in_err-operand-clause-stuck
not-returns-in_err-operand-clause-stuck t c =
    halts_err _ _ c.from_residual.ensures.1
    (refuses_inside c.if-left-eq0.false
    (refuses_then (passes_token c.if-eat.ensures.taken) c.in_err-operand.ensures.stuck) (λ m next ts h. inl h))

pub not-returns-clause-stuck : goal.not-returns-clause-stuck
not-returns-clause-stuck t c = halts_over _ c.compare.ensures.stuck
    (λ e r. refuses_from (refuses_inside c.if-left-eq0.false r (λ m next ts h. inr h)) (sym c.if-eat.ensures.left))

pub minus-returns-in_err-operand-clause-stuck : goal.minus-returns-in_err-operand-clause-stuck
minus-returns-in_err-operand-clause-stuck t c =
    halts_err _ _ c.from_residual.ensures.1
    (refuses_inside c.if-left-eq0.false
    (refuses_then (passes_token c.if-eat.ensures.taken) c.in_err-operand.ensures.stuck) (λ m next ts h. inl h))

pub minus-returns-clause-stuck : goal.minus-returns-clause-stuck
minus-returns-clause-stuck t c = halts_over _ c.primary.ensures.stuck
    (λ e r. refuses_from (refuses_inside c.if-left-eq0.false r (λ m next ts h. inr h)) (sym c.if-eat.ensures.left))

pub more_arguments-returns-in_err-operand-clause-stuck : goal.more_arguments-returns-in_err-operand-clause-stuck
more_arguments-returns-in_err-operand-clause-stuck t c = halts_err _ _ c.from_residual.ensures.1 (let g = c.loop-self.invariant.0 in refuses_turn (passes g.taken (λ m l. turns_each (λ x. turns_then turns_token (turns_tree _ m l x)) g.more)) (refuses_then (passes_token c.loop-self-test.ensures.taken) c.in_err-operand.ensures.stuck))

pub more_operands-returns-in_err-operand-clause-stuck : goal.more_operands-returns-in_err-operand-clause-stuck
more_operands-returns-in_err-operand-clause-stuck t c = halts_err _ _ c.from_residual.ensures.1 (let g = c.loop-chain.invariant.0 in refuses_turn (passes g.taken (λ m l. turns_each (λ x. turns_then turns_token (turns_operand c.args.chain _ m l x)) g.more)) (refuses_then (passes_token (eats_as c.loop-chain-test.ensures.taken c.separator_of-separator.ensures.value)) c.in_err-operand.ensures.stuck))

pub more_terms-returns-in_err-term-clause-stuck : goal.more_terms-returns-in_err-term-clause-stuck
more_terms-returns-in_err-term-clause-stuck t c = halts_err _ _ c.from_residual.ensures.1 (let g = c.loop-plus.invariant.0 in refuses_turn (passes g.taken (λ m l. turns_each (turns_a_term _ m l) g.more)) (refuses_then {P = λ m. plus_tokens} (passes (spans_token (term_eats c.in-Some.plus c.in-Some.ensures.plus c.in-Some.ensures.minus)) (λ m l next next' ts h. (c.in-Some.plus, turns_token next next' ts h))) c.in_err-term.ensures.stuck))

pub operand-returns-in-Any-clause-stuck : goal.operand-returns-in-Any-clause-stuck
operand-returns-in-Any-clause-stuck t c =
    halts_over _ c.chain.ensures.stuck
    (λ e r. refuses_map r (λ m next ts h. subst (λ (k : Chain). operand_tokens k m next ts) (sym c.in-Any.is) h))

pub operand-returns-in-All-clause-stuck : goal.operand-returns-in-All-clause-stuck
operand-returns-in-All-clause-stuck t c =
    halts_over _ c.not.ensures.stuck (λ e r. refuses_map r
    (λ m next ts h. subst (λ (k : Chain). operand_tokens k m next ts) (sym c.in-All.is) h))

pub operand-returns-in-Product-clause-stuck : goal.operand-returns-in-Product-clause-stuck
operand-returns-in-Product-clause-stuck t c =
    halts_over _ c.minus.ensures.stuck
    (λ e r. refuses_map r (λ m next ts h. subst (λ (k : Chain). operand_tokens k m next ts) (sym c.in-Product.is) h))

pub operands-returns-in_err-expect-clause-stuck : goal.operands-returns-in_err-expect-clause-stuck
operands-returns-in_err-expect-clause-stuck t c =
    halts_err _ _ c.from_residual.ensures.1
    (refuses_fails (c.in_err-expect.ensures.stuck _) (λ m. begins_then (some_expr m) (some_arguments m)))

pub operands-returns-in_err-first-clause-stuck : goal.operands-returns-in_err-first-clause-stuck
operands-returns-in_err-first-clause-stuck t c =
    halts_err _ _ c.from_residual-in_err-first.ensures.1
    (refuses_then (passes_expected c.in_ok-expect.ensures.found)
    (refuses_fails c.in_err-first.ensures.stuck (λ m. some_arguments m)))

pub operands-returns-in_err-more_arguments-clause-stuck : goal.operands-returns-in_err-more_arguments-clause-stuck
operands-returns-in_err-more_arguments-clause-stuck t c =
    halts_err _ _ c.from_residual-in_err-more_arguments.ensures.1
    (refuses_then (passes_expected c.in_ok-expect.ensures.found)
    (refuses_then (passes c.in_ok-first.ensures.found (λ m l. turns_tree _ m l _))
    (refuses_fails c.in_err-more_arguments.ensures.stuck (λ m. begins_token (Sign CLOSE_PARENTHESIS)))))

pub operands-returns-in_err-expect-2-clause-stuck : goal.operands-returns-in_err-expect-2-clause-stuck
operands-returns-in_err-expect-2-clause-stuck t c = halts_err _ _ c.from_residual-in_err-expect-2.ensures.1 (let g = c.in_ok-more_arguments.ensures.found in refuses_then (passes_expected c.in_ok-expect.ensures.found) (refuses_then (passes c.in_ok-first.ensures.found (λ m l. turns_tree _ m l _)) (refuses_then (passes g.2 (λ m l. turns_each (λ x. turns_then turns_token (turns_tree _ m l x)) g.0)) (c.in_err-expect-2.ensures.stuck _))))

pub primary-returns-in_err-inner-clause-stuck : goal.primary-returns-in_err-inner-clause-stuck
primary-returns-in_err-inner-clause-stuck t c =
    halts_err _ _ c.from_residual.ensures.1
    (refuses_map c.in_err-inner.ensures.stuck (λ m next ts h. text.brackets h))

pub primary-returns-then-is_at-2-clause-stuck : goal.primary-returns-then-is_at-2-clause-stuck
primary-returns-then-is_at-2-clause-stuck t c =
    halts_over _ c.switch.ensures.stuck (λ e r. refuses_map r (λ m next ts h. text.switch h))

pub primary-returns-in_err-operands-clause-stuck : goal.primary-returns-in_err-operands-clause-stuck
primary-returns-in_err-operands-clause-stuck t c =
    halts_err _ _ c.from_residual-in_err-operands.ensures.1
    (refuses_map (refuses_then {P = λ m. one_of begins_call} (passes_one (eats_as c.skip-in-Some-call_at.ensures.taken (sym c.kind-2.ensures ∙ c.in-Some-call_at.ensures.found))
    (call_one c.in-Some-call_at.call)) c.in_err-operands.ensures.stuck) (λ m next ts h. text.call h))

pub primary-returns-in_err-path-clause-stuck : goal.primary-returns-in_err-path-clause-stuck
primary-returns-in_err-path-clause-stuck t c =
    halts_err _ _ c.from_residual-in_err-path.ensures.1
    (refuses_map (c.in_err-path.ensures.stuck _) (λ m next ts h. text.path h))

pub sum-returns-in_err-first-clause-stuck : goal.sum-returns-in_err-first-clause-stuck
sum-returns-in_err-first-clause-stuck t c =
    halts_err _ _ c.from_residual.ensures.1 (refuses_fails c.in_err-first.ensures.stuck (λ m. begins_no_more))

pub sum-returns-in_err-more_terms-clause-stuck : goal.sum-returns-in_err-more_terms-clause-stuck
sum-returns-in_err-more_terms-clause-stuck t c =
    halts_err _ _ c.from_residual-in_err-more_terms.ensures.1
    (refuses_then (passes c.in_ok-first.ensures.found (λ m l. turns_product _ m l _)) c.in_err-more_terms.ensures.stuck)

pub switch-returns-in_err-expect-clause-stuck : goal.switch-returns-in_err-expect-clause-stuck
switch-returns-in_err-expect-clause-stuck t c =
    halts_err _ _ c.from_residual.ensures.1
    (refuses_fails (c.in_err-expect.ensures.stuck _)
    (λ m. begins_then (begins_token (Sign OPEN_BRACE))
    (begins_then (some_case m) (begins_then begins_no_more (some_default m)))))

pub switch-returns-in_err-expect-2-clause-stuck : goal.switch-returns-in_err-expect-2-clause-stuck
switch-returns-in_err-expect-2-clause-stuck t c =
    halts_err _ _ c.from_residual-in_err-expect-2.ensures.1
    (refuses_then (passes_expected c.in_ok-expect.ensures.found)
    (refuses_fails (c.in_err-expect-2.ensures.stuck _)
    (λ m. begins_then (some_case m) (begins_then begins_no_more (some_default m)))))

pub switch-returns-in_err-cases-clause-stuck : goal.switch-returns-in_err-cases-clause-stuck
switch-returns-in_err-cases-clause-stuck t c =
    halts_err _ _ c.from_residual-in_err-cases.ensures.1
    (refuses_then (passes_expected c.in_ok-expect.ensures.found)
    (refuses_then (passes_expected c.in_ok-expect-2.ensures.found)
    (refuses_map (refuses_fails c.in_err-cases.ensures.stuck (λ m. some_default m)) (λ m next ts h. then_assoc h))))

pub switch-returns-then-is_empty-clause-stuck : goal.switch-returns-then-is_empty-clause-stuck
switch-returns-then-is_empty-clause-stuck t c = (let z = ap length (sym c.as_slice.ensures.value) ∙ eqb-true _ 0 (sym c.if-is_empty.ensures) in refuses_then (passes_expected c.in_ok-expect.ensures.found) (refuses_then (passes_expected c.in_ok-expect-2.ensures.found) (refuses_fails (refuses_from (refuses_here Syntax refl (λ m. some_case m)) (sym (no_cases _ _ z c.in_ok-cases.ensures.found))) (λ m. (begins_then begins_no_more (some_default m))))))

pub switch-returns-in_err-expect-3-clause-stuck : goal.switch-returns-in_err-expect-3-clause-stuck
switch-returns-in_err-expect-3-clause-stuck t c = halts_err _ _ c.from_residual-in_err-expect-3.ensures.1 (refuses_then (passes_expected c.in_ok-expect.ensures.found) (refuses_then (passes_expected c.in_ok-expect-2.ensures.found) (refuses_map (refuses_then (passes c.in_ok-cases.ensures.found (λ m l. turns_all_cases _ m l _ (let e = c.if-is_empty.ensures in let f = ap length c.as_slice.ensures.value in some_length _ (λ z. let q : false ≡ true = e ∙ ap (λ m. m == 0) (f ∙ z) in absurd (cc))))) (refuses_fails (c.in_err-expect-3.ensures.stuck _) (λ m. begins_then (begins_token (Sign COLON)) (begins_then (some_expr m) (begins_token (Sign CLOSE_BRACE)))))) (λ m next ts h. then_assoc h))))

pub switch-returns-in_err-other-clause-stuck : goal.switch-returns-in_err-other-clause-stuck
switch-returns-in_err-other-clause-stuck t c = halts_err _ _ c.from_residual-in_err-other.ensures.1 (refuses_then (passes_expected c.in_ok-expect.ensures.found) (refuses_then (passes_expected c.in_ok-expect-2.ensures.found) (refuses_map (refuses_then (passes c.in_ok-cases.ensures.found (λ m l. turns_all_cases _ m l _ (let e = c.if-is_empty.ensures in let f = ap length c.as_slice.ensures.value in some_length _ (λ z. let q : false ≡ true = e ∙ ap (λ m. m == 0) (f ∙ z) in absurd (cc))))) (refuses_then (passes_expected c.in_ok-expect-3.ensures.found) c.in_err-other.ensures.stuck)) (λ m next ts h. then_assoc h))))

pub case-returns-in_err-test-clause-only : goal.case-returns-in_err-test-clause-only
case-returns-in_err-test-clause-only t c =
    finds_fails c.in_err-test.ensures.only c.from_residual.ensures.1 follows_any

pub case-returns-in_err-value-clause-only : goal.case-returns-in_err-value-clause-only
case-returns-in_err-value-clause-only t c =
    finds_then c.in_ok-test.ensures.only
    (finds_err c.in_err-value.ensures.only c.from_residual-in_err-value.ensures.1) follows_any

pub case-returns-clause-found : goal.case-returns-clause-found
case-returns-clause-found t c = spans_then c.in_ok-test.ensures.found c.in_ok-value.ensures.found

pub case-returns-clause-only : goal.case-returns-clause-only
case-returns-clause-only t c =
    finds_then c.in_ok-test.ensures.only (finds_ok _ c.in_ok-value.ensures.only) follows_any

pub case-returns-in_err-test-clause-stuck : goal.case-returns-in_err-test-clause-stuck
case-returns-in_err-test-clause-stuck t c =
    halts_err _ _ c.from_residual.ensures.1 (refuses_fails c.in_err-test.ensures.stuck (λ m. some_expr m))

pub case-returns-in_err-value-clause-stuck : goal.case-returns-in_err-value-clause-stuck
case-returns-in_err-value-clause-stuck t c =
    halts_err _ _ c.from_residual-in_err-value.ensures.1
    (refuses_then (passes c.in_ok-test.ensures.found (λ m l. turns_enclosed _ _ _ m l _))
    c.in_err-value.ensures.stuck)

pub chain-returns-in_err-operands-clause-only : goal.chain-returns-in_err-operands-clause-only
chain-returns-in_err-operands-clause-only t c = let f = c.in_ok-first.ensures.only in finds_memory f.front f.passed (err_memory _ _ c.from_residual-in_err-operands.ensures.1 c.in_err-operands.ensures.err)

pub sum-returns-in_err-terms-clause-only : goal.sum-returns-in_err-terms-clause-only
sum-returns-in_err-terms-clause-only t c = let f = c.in_ok-first.ensures.only in finds_memory f.front f.passed (err_memory _ _ c.from_residual-in_err-terms.ensures.1 c.in_err-terms.ensures.err)

pub chain-returns-in_err-operands-clause-stuck : goal.chain-returns-in_err-operands-clause-stuck
chain-returns-in_err-operands-clause-stuck t c =
    halts_memory _ _ _ _ _ (err_memory _ _ c.from_residual-in_err-operands.ensures.1 c.in_err-operands.ensures.err)

pub sum-returns-in_err-terms-clause-stuck : goal.sum-returns-in_err-terms-clause-stuck
sum-returns-in_err-terms-clause-stuck t c =
    halts_memory _ _ _ _ _ (err_memory _ _ c.from_residual-in_err-terms.ensures.1 c.in_err-terms.ensures.err)

pub operands-returns-in_err-operands-clause-stuck : goal.operands-returns-in_err-operands-clause-stuck
operands-returns-in_err-operands-clause-stuck t c =
    halts_memory _ _ _ _ _ (err_memory _ _ c.from_residual-in_err-operands.ensures.1 c.in_err-operands.ensures.err)

pub cases-returns-in_err-put-clause-stuck : goal.cases-returns-in_err-put-clause-stuck
cases-returns-in_err-put-clause-stuck t c =
    halts_memory _ _ _ _ _ (err_memory _ _ c.from_residual-in_err-put.ensures.1 c.in_err-put.ensures.err)

pub more_arguments-returns-in_err-put-clause-stuck : goal.more_arguments-returns-in_err-put-clause-stuck
more_arguments-returns-in_err-put-clause-stuck t c =
    halts_memory _ _ _ _ _ (err_memory _ _ c.from_residual-in_err-put.ensures.1 c.in_err-put.ensures.err)

pub more_operands-returns-in_err-put-clause-stuck : goal.more_operands-returns-in_err-put-clause-stuck
more_operands-returns-in_err-put-clause-stuck t c =
    halts_memory _ _ _ _ _ (err_memory _ _ c.from_residual-in_err-put.ensures.1 c.in_err-put.ensures.err)

pub more_terms-returns-in_err-put-clause-stuck : goal.more_terms-returns-in_err-put-clause-stuck
more_terms-returns-in_err-put-clause-stuck t c =
    halts_memory _ _ _ _ _ (err_memory _ _ c.from_residual-in_err-put.ensures.1 c.in_err-put.ensures.err)

pub choice-returns-in_err-cases-clause-stuck : goal.choice-returns-in_err-cases-clause-stuck
choice-returns-in_err-cases-clause-stuck t c =
    halts_memory _ _ _ _ _ (err_memory _ _ c.from_residual-in_err-cases.ensures.1 c.in_err-cases.ensures.err)

pub choice-returns-in_err-boxed-clause-stuck : goal.choice-returns-in_err-boxed-clause-stuck
choice-returns-in_err-boxed-clause-stuck t c =
    halts_memory _ _ _ _ _ (err_memory _ _ c.from_residual-in_err-boxed.ensures.1 c.in_err-boxed.ensures.err)

pub not-returns-in_err-boxed-clause-stuck : goal.not-returns-in_err-boxed-clause-stuck
not-returns-in_err-boxed-clause-stuck t c =
    halts_memory _ _ _ _ _ (err_memory _ _ c.from_residual-in_err-boxed.ensures.1 c.in_err-boxed.ensures.err)

pub minus-returns-in_err-boxed-clause-stuck : goal.minus-returns-in_err-boxed-clause-stuck
minus-returns-in_err-boxed-clause-stuck t c =
    halts_memory _ _ _ _ _ (err_memory _ _ c.from_residual-in_err-boxed.ensures.1 c.in_err-boxed.ensures.err)

pub switch-returns-in_err-boxed-clause-stuck : goal.switch-returns-in_err-boxed-clause-stuck
switch-returns-in_err-boxed-clause-stuck t c =
    halts_memory _ _ _ _ _ (err_memory _ _ c.from_residual-in_err-boxed.ensures.1 c.in_err-boxed.ensures.err)

pub compare-returns-in_err-form-in-Some-clause-stuck : goal.compare-returns-in_err-form-in-Some-clause-stuck
compare-returns-in_err-form-in-Some-clause-stuck t c =
    halts_memory _ _ _ _ _
    (err_memory _ _ c.from_residual-in_err-form-in-Some.ensures.1 c.in_err-form-in-Some.ensures.err)

pub expr-choice-requires : goal.expr-choice-requires
expr-choice-requires t c = (falls_inside 3 0 4 _ t refl c.if-left-eq0.false c.decreases, tt)

pub expr-chain-requires : goal.expr-chain-requires
expr-chain-requires t c = (falls_inside 6 0 1 _ t refl c.if-left-eq0.false c.decreases, tt)

pub enclosed-expr-requires : goal.enclosed-expr-requires
enclosed-expr-requires t c = (falls 0 1 0 _ t refl c.decreases, tt)

pub case-enclosed-requires : goal.case-enclosed-requires
case-enclosed-requires t c = (falls 1 2 0 _ t refl c.decreases, (c.requires.opens, (c.requires.closes, c.requires.ends)))

pub case-expr-requires : goal.case-expr-requires
case-expr-requires t c = (falls 0 2 1 _ t refl c.decreases, tt)

pub choice-case-requires : goal.choice-case-requires
choice-case-requires t c = (falls 2 3 0 _ t refl c.decreases, (word_some IF, (word_some THEN, refl)))

pub choice-expr-requires : goal.choice-expr-requires
choice-expr-requires t c = (falls 0 3 2 _ t refl c.decreases, tt)

pub chain-operand-requires : goal.chain-operand-requires
chain-operand-requires t c = (two_below _ _ t c.decreases, tt)

pub chain-more_operands-requires : goal.chain-more_operands-requires
chain-more_operands-requires t c = (next_below _ _ t c.decreases, tt)

pub more_operands-operand-requires : goal.more_operands-operand-requires
more_operands-operand-requires t c = (one_below _ _ t c.decreases, tt)

pub operand-chain-requires : goal.operand-chain-requires
operand-chain-requires t c = (falls 3 4 0 _ t refl (ap (λ (k : Chain). 8 * c.args.left + rank_of k) (sym c.in-Any.is) ∙ c.decreases), tt)

pub operand-not-requires : goal.operand-not-requires
operand-not-requires t c = (falls 0 1 0 _ t refl (ap (λ (k : Chain). 8 * c.args.left + rank_of k) (sym c.in-All.is) ∙ c.decreases), tt)

pub operand-minus-requires : goal.operand-minus-requires
operand-minus-requires t c = (falls 0 1 0 _ t refl (ap (λ (k : Chain). 8 * c.args.left + rank_of k) (sym c.in-Product.is) ∙ c.decreases), tt)

pub not-not-requires : goal.not-not-requires
not-not-requires t c = (falls_inside 0 0 7 _ t refl c.if-left-eq0.false c.decreases, tt)

pub not-compare-requires : goal.not-compare-requires
not-compare-requires t c = (falls_inside 6 0 1 _ t refl c.if-left-eq0.false c.decreases, tt)

pub compare-sum-requires : goal.compare-sum-requires
compare-sum-requires t c = (falls 5 6 0 _ t refl c.decreases, tt)

pub compare-sum-requires-in-Some : goal.compare-sum-requires-in-Some
compare-sum-requires-in-Some t c = (falls 5 6 0 _ t refl c.decreases, tt)

pub sum-chain-requires : goal.sum-chain-requires
sum-chain-requires t c = (falls 3 5 1 _ t refl c.decreases, tt)

pub sum-more_terms-requires : goal.sum-more_terms-requires
sum-more_terms-requires t c = (falls 4 5 0 _ t refl c.decreases, tt)

pub more_terms-chain-requires : goal.more_terms-chain-requires
more_terms-chain-requires t c = (falls 3 4 0 _ t refl c.decreases, tt)

pub minus-minus-requires : goal.minus-minus-requires
minus-minus-requires t c = (falls_inside 0 0 7 _ t refl c.if-left-eq0.false c.decreases, tt)

pub minus-primary-requires : goal.minus-primary-requires
minus-primary-requires t c = (falls_inside 5 0 2 _ t refl c.if-left-eq0.false c.decreases, tt)

pub primary-enclosed-requires : goal.primary-enclosed-requires
primary-enclosed-requires t c = (falls 1 5 3 _ t refl c.decreases, (sign_some OPEN_PARENTHESIS, (sign_some CLOSE_PARENTHESIS, refl)))

pub primary-switch-requires : goal.primary-switch-requires
primary-switch-requires t c = (falls 4 5 0 _ t refl c.decreases, tt)

pub primary-operands-requires : goal.primary-operands-requires
primary-operands-requires t c = (falls 2 5 2 _ t refl c.decreases, tt)

pub operands-expr-requires : goal.operands-expr-requires
operands-expr-requires t c = (falls 0 2 1 _ t refl c.decreases, tt)

pub operands-more_arguments-requires : goal.operands-more_arguments-requires
operands-more_arguments-requires t c = (falls 1 2 0 _ t refl c.decreases, tt)

pub more_arguments-expr-requires : goal.more_arguments-expr-requires
more_arguments-expr-requires t c = (falls 0 1 0 _ t refl c.decreases, tt)

pub switch-cases-requires : goal.switch-cases-requires
switch-cases-requires t c = (falls 3 4 0 _ t refl c.decreases, tt)

pub switch-enclosed-requires : goal.switch-enclosed-requires
switch-enclosed-requires t c = (falls 1 4 2 _ t refl c.decreases, (sign_some COLON, (sign_some CLOSE_BRACE, refl)))

pub cases-case-requires : goal.cases-case-requires
cases-case-requires t c = (falls 2 3 0 _ t refl c.decreases, (word_some CASE, (sign_some COLON, refl)))
