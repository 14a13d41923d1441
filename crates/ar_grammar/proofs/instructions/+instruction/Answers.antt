use Rattle.std.proofs.Common.{◌-◌, List, refl, sym, ap, ◌∙◌, subst}
use Rattle.ar_lexer.specs.declared.token.TokenKind.TheVariants.{Sign, Reserved}
use Rattle.ar_lexer.specs.declared.signs.TheConstants.{OPEN_BRACE, CLOSE_BRACE}
use Rattle.ar_lexer.specs.declared.words.TheConstants.{ELSE}
use Rattle.ar_syntax.specs.declared.instructions.Instr.{Instr}
use Rattle.expression_grammar.specs.Words.{between, each}
use Rattle.ar_grammar.specs.Instructions.{ReadsInstr}
use Rattle.ar_grammar.specs.InstructionsInside.{ReadsSimple, ReadsGroup, ReadsConditional}
use Rattle.expression_grammar.specs.Results.{is_word}
use Rattle.ar_grammar.specs.Results.{begins_instr}
use Rattle.expression_grammar.proofs.Finding.{apart, err_memory}
use Rattle.ar_grammar.proofs.Finding.{finds_kept, boxed_takes}
use Rattle.expression_grammar.proofs.ExpressionForms.{then_map}
use Rattle.expression_grammar.proofs.Finding.{finds_then, finds_fails, finds_given, finds_plain, finds_err, finds_ok, finds_memory, finds_inside, finds_no_room, finds_nothing, finds_token, finds_at, loops_stop, loops_fail, loops_next, gathers_push, spans_then, spans_token, spans_expected, spans_map, takes_map, eats_kind, follows_token, follows_any}
use Rattle.ar_grammar.proofs.InstrParts.{not_sign, pushed_all, conditional_in, group_in, simple_in}
use Rattle.ar_grammar.proofs.InstrTexts.{instr_begins, instr_some, instr_if, instr_group, instr_simple, else_taken, else_none, instr_not_over, some_instr, some_group_end, instr_at, instr_clear, moves_instr, moves_each, leads, refuses_leads, refuses_again}
use Rattle.std.proofs.Common.{inl, inr}
use Rattle.ar_grammar.specs.Texts as text
use Rattle.expression_grammar.proofs.Finding.{token_kind, then_kind}
use Rattle.expression_grammar.proofs.Standing.{halts_err, halts_over, refuses_fails, refuses_then, refuses_map, refuses_inside, refuses_no_room, passes, passes_token, passes_expected, begins_token, begins_then, begins_map, halts_memory}
use Rattle.ar_grammar.proofs.Standing.{halts_kept}
use Rattle.expression_grammar.proofs.Turning.{turns_enclosed}
use Rattle.expression_grammar.proofs.Measures.{falls, falls_inside}
use Rattle.ar_grammar.proofs.instructions.+instruction.Goals as goal

pub instr-returns-then-left-eq0-clause-only : goal.instr-returns-then-left-eq0-clause-only
instr-returns-then-left-eq0-clause-only t c =
    finds_no_room begins_instr _ _ (c.begins_instr.ensures ∙ ap begins_instr c.kind.ensures) c.no_room.ensures.deep
    c.no_room.ensures.other c.if-left-eq0.true instr_begins instr_some

pub instr-returns-then-is_at-clause-found : goal.instr-returns-then-is_at-clause-found
instr-returns-then-is_at-clause-found t c =
    takes_map (ReadsConditional (c.args.left - 1)) (ReadsInstr c.args.left) _ _ _ c.conditional.ensures.found
    (λ i next ts h. conditional_in c.args.left i next ts c.if-left-eq0.false h)

pub instr-returns-then-is_at-clause-only : goal.instr-returns-then-is_at-clause-only
instr-returns-then-is_at-clause-only t c =
    finds_given (finds_inside c.if-left-eq0.false c.conditional.ensures.only)
    (λ n next ts h s k. (instr_if n next ts h (k ∙ c.if-is_at.ensures.yes), s))

pub instr-returns-then-is_at-2-clause-found : goal.instr-returns-then-is_at-2-clause-found
instr-returns-then-is_at-2-clause-found t c =
    takes_map (ReadsGroup (c.args.left - 1)) (ReadsInstr c.args.left) _ _ _ c.group.ensures.found
    (λ i next ts h. group_in c.args.left i next ts c.if-left-eq0.false h)

pub instr-returns-then-is_at-2-clause-only : goal.instr-returns-then-is_at-2-clause-only
instr-returns-then-is_at-2-clause-only t c =
    finds_given (finds_inside c.if-left-eq0.false c.group.ensures.only)
    (λ n next ts h s k. (instr_group n next ts h (k ∙ c.if-is_at-2.ensures.yes), s))

pub instr-returns-clause-found : goal.instr-returns-clause-found
instr-returns-clause-found t c = takes_map (ReadsSimple (c.args.left - 1)) (ReadsInstr c.args.left) _ _ _
    c.simple.ensures.found (λ i next ts h. simple_in c.args.left i next ts c.if-left-eq0.false h)

pub instr-returns-clause-only : goal.instr-returns-clause-only
instr-returns-clause-only t c = finds_plain (finds_inside c.if-left-eq0.false c.simple.ensures.only)
    (λ n next ts h s k none. (
      instr_simple n next ts h (λ e. c.if-is_at.ensures.no (sym k ∙ e))
          (λ e. c.if-is_at-2.ensures.no (sym k ∙ e)) none,
      s,
    ))

pub conditional-returns-in_err-test-clause-only : goal.conditional-returns-in_err-test-clause-only
conditional-returns-in_err-test-clause-only t c =
    finds_given (finds_fails c.in_err-test.ensures.only c.from_residual.ensures.1 follows_any)
    (λ n next ts h s k. (h, s))

pub conditional-returns-in_err-yes-clause-only : goal.conditional-returns-in_err-yes-clause-only
conditional-returns-in_err-yes-clause-only t c =
    finds_given (finds_then c.in_ok-test.ensures.only
    (finds_fails c.in_err-yes.ensures.only c.from_residual-in_err-yes.ensures.1 follows_any) follows_any)
    (λ n next ts h s k. (h, s))

pub conditional-returns-in_err-no-clause-only : goal.conditional-returns-in_err-no-clause-only
conditional-returns-in_err-no-clause-only t c =
    finds_given (finds_then c.in_ok-test.ensures.only
    (finds_then c.in_ok-yes.ensures.only (finds_err c.in_err-no.ensures.only c.from_residual-in_err-no.ensures.1)
    follows_any) follows_any) (λ n next ts h s k. (h, s))

pub conditional-returns-clause-found : goal.conditional-returns-clause-found
conditional-returns-clause-found t c =
    spans_map (spans_then c.in_ok-test.ensures.found (spans_then c.in_ok-yes.ensures.found c.in_ok-no.ensures.found))
    (λ next ts h. record {
      test = c.in_ok-test.test;
      yes = c.in_ok-yes.yes;
      no = c.in_ok-no.no;
      is = refl;
      reads = h;
    })

pub conditional-returns-clause-only : goal.conditional-returns-clause-only
conditional-returns-clause-only t c =
    finds_ok _ (finds_given (finds_then c.in_ok-test.ensures.only
    (finds_then c.in_ok-yes.ensures.only c.in_ok-no.ensures.only follows_any) follows_any)
    (λ n next ts h s k. (h, s)))

pub other_branch-returns-in_err-branch-clause-only : goal.other_branch-returns-in_err-branch-clause-only
other_branch-returns-in_err-branch-clause-only t c =
    finds_given (finds_then (finds_token c.if-eat.ensures.taken)
    (finds_err c.in_err-branch.ensures.only c.from_residual.ensures.1) follows_any)
    (λ n next ts h s k. (else_taken n next ts h (k ∙ eats_kind c.if-eat.ensures.taken), s))

pub other_branch-returns-then-eat-clause-found : goal.other_branch-returns-then-eat-clause-found
other_branch-returns-then-eat-clause-found t c =
    spans_then (spans_token c.if-eat.ensures.taken) c.in_ok-branch.ensures.found

pub other_branch-returns-then-eat-clause-only : goal.other_branch-returns-then-eat-clause-only
other_branch-returns-then-eat-clause-only t c =
    finds_given (finds_then (finds_token c.if-eat.ensures.taken) (finds_ok _ c.in_ok-branch.ensures.only) follows_any)
    (λ n next ts h s k. (else_taken n next ts h (k ∙ eats_kind c.if-eat.ensures.taken), s))

pub other_branch-returns-clause-only : goal.other_branch-returns-clause-only
other_branch-returns-clause-only t c =
    finds_at (finds_given (finds_nothing _)
    (λ n next ts h s k. (else_none n next ts h (λ e. c.if-eat.ensures.other (sym k ∙ e)), refl))) c.if-eat.ensures.left

pub group-returns-in_err-expect-clause-only : goal.group-returns-in_err-expect-clause-only
group-returns-in_err-expect-clause-only t c =
    finds_given (finds_fails (c.in_err-expect.ensures.only _) c.from_residual.ensures.1 follows_any)
    (λ n next ts h s k. (h, s))

pub group-returns-in_err-more_instrs-clause-only : goal.group-returns-in_err-more_instrs-clause-only
group-returns-in_err-more_instrs-clause-only t c =
    finds_given (finds_then (c.in_ok-expect.ensures.only _)
    (finds_fails c.in_err-more_instrs.ensures.only c.from_residual-in_err-more_instrs.ensures.1 (follows_token refl))
    follows_any) (λ n next ts h s k. (h, s))

pub group-returns-in_err-expect-2-clause-only : goal.group-returns-in_err-expect-2-clause-only
group-returns-in_err-expect-2-clause-only t c =
    finds_given (finds_then (c.in_ok-expect.ensures.only _)
    (finds_then c.in_ok-more_instrs.ensures.only
    (finds_err (c.in_err-expect-2.ensures.only _) c.from_residual-in_err-expect-2.ensures.1) (follows_token refl))
    follows_any) (λ n next ts h s k. (h, s))

pub group-returns-clause-found : goal.group-returns-clause-found
group-returns-clause-found t c = let m = c.in_ok-more_instrs.ensures.found in
    spans_map (spans_then (spans_expected c.in_ok-expect.ensures.found)
    (spans_then m.2 (spans_expected c.in_ok-expect-2.ensures.found)))
    (λ next ts h. record {
      instrs = c.more_instrs.new.instrs;
      is = refl;
      reads = subst (λ (xs : List Instr). between (Sign OPEN_BRACE) (Sign CLOSE_BRACE) (each (ReadsInstr c.args.left)
          xs) next ts) (sym (pushed_all m.1 c.new-instrs.ensures.items)) h;
    })

pub group-returns-clause-only : goal.group-returns-clause-only
group-returns-clause-only t c = finds_given
    (finds_then (c.in_ok-expect.ensures.only _)
    (finds_then c.in_ok-more_instrs.ensures.only (finds_ok _ (c.in_ok-expect-2.ensures.only _)) (follows_token refl))
    follows_any) (λ n next ts h s k. (h, s))

pub more_instrs-returns-in_err-inner-clause-only : goal.more_instrs-returns-in_err-inner-clause-only
more_instrs-returns-in_err-inner-clause-only t c =
    loops_fail c.loop-parser.invariant.loops (not_sign CLOSE_BRACE _ c.loop-parser-test.ensures.no)
    c.in_err-inner.ensures.only c.from_residual.ensures.1 follows_any

pub more_instrs-loop-parser-preserved : goal.more_instrs-loop-parser-preserved
more_instrs-loop-parser-preserved t c =
    gathers_push c.loop-parser.invariant (not_sign CLOSE_BRACE _ c.loop-parser-test.ensures.no) c.in_ok-inner.ensures.found
    c.in_ok-inner.ensures.only follows_any c.in_ok-put.ensures.items

pub more_instrs-returns-in_err-put-clause-only : goal.more_instrs-returns-in_err-put-clause-only
more_instrs-returns-in_err-put-clause-only t c = let l = loops_next c.loop-parser.invariant.loops (not_sign CLOSE_BRACE _ c.loop-parser-test.ensures.no) c.in_ok-inner.ensures.only follows_any in finds_memory l.front l.passed (err_memory _ _ c.from_residual-in_err-put.ensures.1 c.in_err-put.ensures.err)

pub more_instrs-returns-clause-only : goal.more_instrs-returns-clause-only
more_instrs-returns-clause-only t c =
    loops_stop c.loop-parser.invariant.loops
    (λ n next ts h k. instr_not_over n next ts h (k ∙ c.loop-parser-test.ensures.yes))

pub instr-returns-then-left-eq0-clause-stuck : goal.instr-returns-then-left-eq0-clause-stuck
instr-returns-then-left-eq0-clause-stuck t c =
    refuses_no_room begins_instr _ _ (c.begins_instr.ensures ∙ ap begins_instr c.kind.ensures) c.no_room.ensures.deep
    c.no_room.ensures.other refl c.if-left-eq0.true some_instr (instr_at 2)

pub instr-returns-then-is_at-clause-stuck : goal.instr-returns-then-is_at-clause-stuck
instr-returns-then-is_at-clause-stuck t c =
    halts_over _ c.conditional.ensures.stuck
    (λ e r. refuses_inside c.if-left-eq0.false r (λ m next ts h. text.conditional h))

pub instr-returns-then-is_at-2-clause-stuck : goal.instr-returns-then-is_at-2-clause-stuck
instr-returns-then-is_at-2-clause-stuck t c =
    halts_over _ c.group.ensures.stuck (λ e r. refuses_inside c.if-left-eq0.false r (λ m next ts h. text.group h))

pub instr-returns-clause-stuck : goal.instr-returns-clause-stuck
instr-returns-clause-stuck t c = halts_over _ c.simple.ensures.stuck
    (λ e r. refuses_inside c.if-left-eq0.false r (λ m next ts h. text.simple h))

pub conditional-returns-in_err-test-clause-stuck : goal.conditional-returns-in_err-test-clause-stuck
conditional-returns-in_err-test-clause-stuck t c =
    halts_err _ _ c.from_residual.ensures.1
    (refuses_fails c.in_err-test.ensures.stuck
    (λ m. begins_then (some_instr m) (begins_map (begins_then (begins_token (Reserved ELSE)) (some_instr m))
    (λ next ts h. inr h))))

pub conditional-returns-in_err-yes-clause-stuck : goal.conditional-returns-in_err-yes-clause-stuck
conditional-returns-in_err-yes-clause-stuck t c =
    halts_err _ _ c.from_residual-in_err-yes.ensures.1
    (refuses_then (passes c.in_ok-test.ensures.found (λ m l. turns_enclosed _ _ _ m l _))
    (refuses_fails c.in_err-yes.ensures.stuck
    (λ m. begins_map (begins_then (begins_token (Reserved ELSE)) (some_instr m)) (λ next ts h. inr h))))

pub conditional-returns-in_err-no-clause-stuck : goal.conditional-returns-in_err-no-clause-stuck
conditional-returns-in_err-no-clause-stuck t c =
    halts_err _ _ c.from_residual-in_err-no.ensures.1
    (refuses_then (passes c.in_ok-test.ensures.found (λ m l. turns_enclosed _ _ _ m l _))
    (refuses_map (refuses_leads (leads c.in_ok-yes.ensures.found (λ m l. moves_instr _ m l _))
    (λ m next ts h. inr (then_kind h ∙ sym c.in_err-no.ensures.began)) c.in_err-no.ensures.stuck)
    (λ m next ts h. then_map h (λ next ts j. j) (λ next ts j. inr j))))

pub other_branch-returns-in_err-branch-clause-stuck : goal.other_branch-returns-in_err-branch-clause-stuck
other_branch-returns-in_err-branch-clause-stuck t c =
    halts_err _ _ c.from_residual.ensures.1
    (refuses_then (passes_token c.if-eat.ensures.taken) c.in_err-branch.ensures.stuck)

pub group-returns-in_err-expect-clause-stuck : goal.group-returns-in_err-expect-clause-stuck
group-returns-in_err-expect-clause-stuck t c =
    halts_err _ _ c.from_residual.ensures.1 (refuses_fails (c.in_err-expect.ensures.stuck _) (λ m. some_group_end))

pub group-returns-in_err-more_instrs-clause-stuck : goal.group-returns-in_err-more_instrs-clause-stuck
group-returns-in_err-more_instrs-clause-stuck t c =
    halts_err _ _ c.from_residual-in_err-more_instrs.ensures.1
    (refuses_then (passes_expected c.in_ok-expect.ensures.found)
    (refuses_fails c.in_err-more_instrs.ensures.stuck (λ m. begins_token (Sign CLOSE_BRACE))))

pub group-returns-in_err-expect-2-clause-stuck : goal.group-returns-in_err-expect-2-clause-stuck
group-returns-in_err-expect-2-clause-stuck t c = halts_err _ _ c.from_residual-in_err-expect-2.ensures.1 (let g = c.in_ok-more_instrs.ensures.found in refuses_then (passes_expected c.in_ok-expect.ensures.found) (refuses_leads (leads g.2 (λ m l. moves_each (moves_instr _ m l) g.0)) (λ m next ts h. inl (λ e. apart (is_word ELSE) e (token_kind h) refl refl)) (c.in_err-expect-2.ensures.stuck _)))

pub more_instrs-returns-in_err-inner-clause-stuck : goal.more_instrs-returns-in_err-inner-clause-stuck
more_instrs-returns-in_err-inner-clause-stuck t c = halts_err _ _ c.from_residual.ensures.1 (let g = c.loop-parser.invariant in refuses_again (leads g.taken (λ m l. moves_each (moves_instr _ m l) g.more)) (λ m next ts h. inl (instr_clear m next ts h)) c.in_err-inner.ensures.stuck)

pub branch-returns-in_err-inner-clause-only : goal.branch-returns-in_err-inner-clause-only
branch-returns-in_err-inner-clause-only t c = finds_err c.in_err-inner.ensures.only c.from_residual.ensures.1

pub branch-returns-clause-found : goal.branch-returns-clause-found
branch-returns-clause-found t c = boxed_takes (ReadsInstr c.args.left) c.in_box.result _ c.in_box.ensures.ok c.in_ok-inner.ensures.found

pub branch-returns-clause-only : goal.branch-returns-clause-only
branch-returns-clause-only t c = finds_kept _ c.in_ok-inner.ensures.only c.in_box.ensures.err

pub branch-returns-clause-stuck : goal.branch-returns-clause-stuck
branch-returns-clause-stuck t c = halts_kept _ _ _ _ _ c.in_box.ensures.err

pub branch-returns-in_err-inner-clause-stuck : goal.branch-returns-in_err-inner-clause-stuck
branch-returns-in_err-inner-clause-stuck t c = halts_err _ _ c.from_residual.ensures.1 c.in_err-inner.ensures.stuck

pub more_instrs-returns-in_err-put-clause-stuck : goal.more_instrs-returns-in_err-put-clause-stuck
more_instrs-returns-in_err-put-clause-stuck t c =
    halts_memory _ _ _ _ _ (err_memory _ _ c.from_residual-in_err-put.ensures.1 c.in_err-put.ensures.err)

pub instr-conditional-requires : goal.instr-conditional-requires
instr-conditional-requires t c = (falls_inside 3 0 4 _ t refl c.if-left-eq0.false c.decreases, tt)

pub instr-group-requires : goal.instr-group-requires
instr-group-requires t c = (falls_inside 2 0 5 _ t refl c.if-left-eq0.false c.decreases, tt)

pub conditional-branch-parser-requires : goal.conditional-branch-parser-requires
conditional-branch-parser-requires t c = (falls 1 3 1 _ t refl c.decreases, tt)

pub conditional-other_branch-requires : goal.conditional-other_branch-requires
conditional-other_branch-requires t c = (falls 2 3 0 _ t refl c.decreases, tt)

pub branch-instr-requires : goal.branch-instr-requires
branch-instr-requires t c = (falls 0 1 0 _ t refl c.decreases, tt)

pub other_branch-branch-parser-requires : goal.other_branch-branch-parser-requires
other_branch-branch-parser-requires t c = (falls 1 2 0 _ t refl c.decreases, tt)

pub group-more_instrs-requires : goal.group-more_instrs-requires
group-more_instrs-requires t c = (falls 1 2 0 _ t refl c.decreases, tt)

pub more_instrs-instr-requires : goal.more_instrs-instr-requires
more_instrs-instr-requires t c = (falls 0 1 0 _ t refl c.decreases, tt)
