use Rattle.std.proofs.Common.{◌≡◌, ◌≢◌, [], ◌∷◌, true, false, refl, sym, ap, ◌∙◌}
use Rattle.ar_lexer.specs.declared.token.TokenKind.TheVariants.{Sign, Reserved}
use Rattle.ar_syntax.specs.declared.members.Member.TheVariants as member
use Rattle.expression_grammar.specs.Words.{between}
use Rattle.ar_grammar.specs.Members.{ReadsKeyed, single, block, event, hide, ReadsMember, keyed, ReadsLater, ReadsBody}
use Rattle.expression_grammar.specs.Results.{first_token_kind}
use Rattle.ar_grammar.specs.Results.{begins_section, begins_later, begins_member, begins_body, ends_body}
use Rattle.expression_grammar.proofs.Finding.{finds_then, finds_fails, finds_given, finds_plain, finds_err, finds_ok, finds_nothing, finds_token, finds_from, loops_stop, loops_fail, spans_then, spans_token, spans_expected, spans_from, spans_map, eats_kind, follows_token, follows_any}
use Rattle.ar_grammar.proofs.Finding.{finds_kept, kept_as, finds_deep}
use Rattle.ar_grammar.proofs.BodyParts.{spans_first, member_declared, keyed_event, keyed_hide, keyed_block, keyed_single, member_first, member_named, member_keyed, member_open, later_open, later_first, later_section, later_keyed, later_follows, sections_none, sections_parts, sections_follow, finds_body, body_empty, body_some, body_in, groups_push}
use Rattle.std.proofs.Common.{inl, inr}
use Rattle.ar_lexer.specs.declared.signs.TheConstants.{SEMICOLON, COMMA}
use Rattle.ar_lexer.specs.declared.words.TheConstants.{EVENT, HIDE}
use Rattle.expression_grammar.specs.Words.{separated_by}
use Rattle.ar_grammar.specs.Members.{ReadsSection, ReadsEvent, ReadsHidden}
use Rattle.ar_grammar.proofs.BodyParts.{adds_map, sections_added, sections_nothing}
use Rattle.expression_grammar.proofs.Measures.{falls, falls_inside}
use Rattle.ar_grammar.proofs.body.+body.Goals as goal
use Rattle.expression_grammar.proofs.Standing.{halts_err, halts_over, refuses_fails, refuses_then, refuses_map, refuses_inside, refuses_from, refuses_turn, refuses_deep, passes, passes_token, begins_then, begins_token, begins_no_more}
use Rattle.ar_grammar.proofs.Standing.{halts_kept, refuses_given, begins_maybe}
use Rattle.ar_grammar.proofs.BodyParts.{member_of_declared, keyed_of_single, later_clear}
use Rattle.ar_grammar.proofs.BodyTexts.{some_body, some_member, body_at, moves_body, moves_section, moves_laters, turns_members}
use Rattle.ar_grammar.proofs.NameForms.{turns_placed}
use Rattle.ar_grammar.proofs.InstrTexts.{leads, refuses_leads, refuses_some_again}
use Rattle.expression_grammar.proofs.Finding.{apart, token_kind}
use Rattle.expression_grammar.specs.Results.{is_word}
use Rattle.ar_grammar.specs.Texts as text
use Rattle.ar_lexer.specs.declared.words.TheConstants.{ELSE, END}
use Rattle.ar_grammar.proofs.BodyParts.{later_some_clear}
use Rattle.ar_grammar.proofs.Standing.{many_of}
use Rattle.expression_grammar.proofs.ExpressionForms.{then_map}

pub unit-returns-in_err-name-clause-only : goal.unit-returns-in_err-name-clause-only
unit-returns-in_err-name-clause-only t c =
    finds_given (finds_fails (c.in_err-name.ensures.only _) c.from_residual.ensures.1 follows_any)
    (λ n next ts h s k. (h, s))

pub unit-returns-in_err-members-clause-only : goal.unit-returns-in_err-members-clause-only
unit-returns-in_err-members-clause-only t c =
    finds_given (finds_then (c.in_ok-name.ensures.only _)
    (finds_fails c.in_err-members.ensures.only c.from_residual-in_err-members.ensures.1 (follows_token refl))
    follows_any) (λ n next ts h s k. (h, s))

pub unit-returns-in_err-expect-clause-only : goal.unit-returns-in_err-expect-clause-only
unit-returns-in_err-expect-clause-only t c =
    finds_given (finds_then (c.in_ok-name.ensures.only _)
    (finds_then c.in_ok-members.ensures.only
    (finds_err (c.in_err-expect.ensures.only _) c.from_residual-in_err-expect.ensures.1) (follows_token refl))
    follows_any) (λ n next ts h s k. (h, s))

pub unit-returns-clause-found : goal.unit-returns-clause-found
unit-returns-clause-found t c = spans_then c.in_ok-name.ensures.found
    (spans_then c.in_ok-members.ensures.found (spans_expected c.in_ok-expect.ensures.found))

pub unit-returns-clause-only : goal.unit-returns-clause-only
unit-returns-clause-only t c = finds_given
    (finds_then (c.in_ok-name.ensures.only _)
    (finds_then c.in_ok-members.ensures.only (finds_ok _ (c.in_ok-expect.ensures.only _)) (follows_token refl))
    follows_any) (λ n next ts h s k. (h, s))

pub body-returns-then-begins_body-clause-only : goal.body-returns-then-begins_body-clause-only
body-returns-then-begins_body-clause-only t c =
    finds_plain (finds_deep {P = λ n next ts. n ≢ 0} {ends = ends_body} c.no_room.ensures.deep c.if-left-eq0.true
    (λ n next ts h none. h)) (λ n next ts h s k none. (
      body_some n next ts h s (ap begins_body k ∙ ap begins_body (sym c.kind.ensures) ∙ sym c.if-begins_body.ensures)
          none,
      s,
    ))

pub body-returns-then-left-eq0-clause-only : goal.body-returns-then-left-eq0-clause-only
body-returns-then-left-eq0-clause-only t c =
    finds_plain (finds_nothing _) (λ n next ts h s k none. (
      body_empty n next ts h (ap begins_body k ∙ ap begins_body (sym c.kind.ensures) ∙ sym c.if-begins_body.ensures)
          none,
      s,
    ))

pub body-returns-in_err-opening_members-clause-only : goal.body-returns-in_err-opening_members-clause-only
body-returns-in_err-opening_members-clause-only t c =
    finds_body c.if-left-eq0.false (finds_fails c.in_err-opening_members.ensures.only c.from_residual.ensures.1 sections_follow)

pub body-returns-in_err-sections-clause-only : goal.body-returns-in_err-sections-clause-only
body-returns-in_err-sections-clause-only t c =
    finds_body c.if-left-eq0.false (finds_then c.in_ok-opening_members.ensures.only
    (finds_err c.in_err-sections.ensures.only c.from_residual-in_err-sections.ensures.1) sections_follow)

pub body-returns-clause-found : goal.body-returns-clause-found
body-returns-clause-found t c = let a = c.in_ok-opening_members.ensures.found in let b = c.in_ok-sections.ensures.found in body_in c.args.left _ a.0 b.0 _ _ c.if-left-eq0.false c.new-members.ensures.items a.1 b.1 a.2 b.2

pub body-returns-clause-only : goal.body-returns-clause-only
body-returns-clause-only t c = finds_body c.if-left-eq0.false
    (finds_then c.in_ok-opening_members.ensures.only (finds_ok _ c.in_ok-sections.ensures.only) sections_follow)

pub opening_members-returns-in_err-member-clause-only : goal.opening_members-returns-in_err-member-clause-only
opening_members-returns-in_err-member-clause-only t c =
    loops_fail c.loop-parser.invariant.loops
    (member_open (first_token_kind c.loop-parser.parser.rest.now)
    (ap begins_member (sym c.kind.ensures) ∙ sym c.loop-parser-test.ensures)) c.in_err-member.ensures.only
    c.from_residual.ensures.1 follows_any

pub opening_members-loop-parser-preserved : goal.opening_members-loop-parser-preserved
opening_members-loop-parser-preserved t c = let m = c.in_ok-member.ensures.found in groups_push m.0 c.loop-parser.invariant (member_open (first_token_kind c.loop-parser.parser.rest.now) (ap begins_member (sym c.kind.ensures) ∙ sym c.loop-parser-test.ensures)) m.2 c.in_ok-member.ensures.only follows_any m.1

pub opening_members-returns-clause-only : goal.opening_members-returns-clause-only
opening_members-returns-clause-only t c = loops_stop c.loop-parser.invariant.loops (λ n next ts h k. let x : true ≡ false = sym (member_first n next ts h) ∙ ap begins_member (k ∙ sym c.kind.ensures) ∙ sym c.loop-parser-test.ensures in absurd (cc))

pub member-returns-in_err-declaration-clause-only : goal.member-returns-in_err-declaration-clause-only
member-returns-in_err-declaration-clause-only t c =
    finds_given (finds_err c.in_err-declaration.ensures.only c.from_residual.ensures.1)
    (λ n next ts h s k. (member_named n next ts h (k ∙ c.if-is_at.ensures.yes), s))

pub member-returns-then-is_at-clause-found : goal.member-returns-then-is_at-clause-found
member-returns-then-is_at-clause-found t c = let s = c.in_ok-declaration.ensures.found in kept_as _ _ c.put.result (λ e. (c.in_ok-declaration.declaration ∷ [], e, record { front = s.front; split = s.split; form = member_declared c.args.left (ReadsBody c.args.left) _ _ s.front s.form (spans_first s ∙ c.if-is_at.ensures.yes) })) c.put.ensures.items

pub member-returns-then-is_at-clause-only : goal.member-returns-then-is_at-clause-only
member-returns-then-is_at-clause-only t c =
    finds_given (finds_kept _ c.in_ok-declaration.ensures.only c.put.ensures.err)
    (λ n next ts h s k. (member_named n next ts h (k ∙ c.if-is_at.ensures.yes), s))

pub member-returns-clause-found : goal.member-returns-clause-found
member-returns-clause-found t c = adds_map (ReadsKeyed c.args.left (ReadsBody c.args.left))
    (ReadsMember c.args.left (ReadsBody c.args.left)) _ _ _ _ _ c.keyed.ensures.found (λ ms next ts h. keyed h)

pub member-returns-clause-only : goal.member-returns-clause-only
member-returns-clause-only t c = finds_given c.keyed.ensures.only
    (λ n next ts h s k. (member_keyed n next ts h (λ e. c.if-is_at.ensures.no (sym k ∙ e)), s))

pub keyed-returns-then-is_at-clause-found : goal.keyed-returns-then-is_at-clause-found
keyed-returns-then-is_at-clause-found t c =
    adds_map (λ ms. between (Reserved EVENT) (Sign SEMICOLON) (separated_by (Sign COMMA) (ReadsEvent c.args.left) ms))
    (ReadsKeyed c.args.left (ReadsBody c.args.left)) _ _ _ _ _ c.events.ensures.found (λ ms next ts h. event h)

pub keyed-returns-then-is_at-clause-only : goal.keyed-returns-then-is_at-clause-only
keyed-returns-then-is_at-clause-only t c =
    finds_given c.events.ensures.only (λ n next ts h s k. (keyed_event n next ts h (k ∙ c.if-is_at.ensures.yes), s))

pub keyed-returns-then-is_at-2-clause-found : goal.keyed-returns-then-is_at-2-clause-found
keyed-returns-then-is_at-2-clause-found t c =
    adds_map (λ ms. between (Reserved HIDE) (Sign SEMICOLON) (separated_by (Sign COMMA) ReadsHidden ms))
    (ReadsKeyed c.args.left (ReadsBody c.args.left)) _ _ _ _ _ c.hides.ensures.found (λ ms next ts h. hide h)

pub keyed-returns-then-is_at-2-clause-only : goal.keyed-returns-then-is_at-2-clause-only
keyed-returns-then-is_at-2-clause-only t c =
    finds_given (c.hides.ensures.only _) (λ n next ts h s k. (keyed_hide n next ts h (k ∙ c.if-is_at-2.ensures.yes), s))

pub keyed-returns-in_err-unit-clause-only : goal.keyed-returns-in_err-unit-clause-only
keyed-returns-in_err-unit-clause-only t c =
    finds_given (finds_then (finds_token c.if-eat.ensures.taken)
    (finds_err c.in_err-unit.ensures.only c.from_residual.ensures.1) follows_any)
    (λ n next ts h s k. (keyed_block n next ts h (k ∙ eats_kind c.if-eat.ensures.taken), s))

pub keyed-returns-then-eat-clause-found : goal.keyed-returns-then-eat-clause-found
keyed-returns-then-eat-clause-found t c =
    kept_as _ _ c.put.result (λ e. (
      member.Block c.in_ok-unit.unit ∷ [],
      e,
      spans_map
          (spans_then (spans_token c.if-eat.ensures.taken) c.in_ok-unit.ensures.found) (λ next ts h. block _ refl h),
    )) c.put.ensures.items

pub keyed-returns-then-eat-clause-only : goal.keyed-returns-then-eat-clause-only
keyed-returns-then-eat-clause-only t c =
    finds_given (finds_then (finds_token c.if-eat.ensures.taken)
    (finds_kept _ c.in_ok-unit.ensures.only c.put.ensures.err) follows_any)
    (λ n next ts h s k. (keyed_block n next ts h (k ∙ eats_kind c.if-eat.ensures.taken), s))

pub keyed-returns-in_err-member-clause-only : goal.keyed-returns-in_err-member-clause-only
keyed-returns-in_err-member-clause-only t c =
    finds_from (finds_given (finds_err c.in_err-member.ensures.only c.from_residual-in_err-member.ensures.1)
    (λ n next ts h s k. (
      keyed_single n next ts h
          (λ e. c.if-is_at.ensures.no (ap first_token_kind (sym c.if-eat.ensures.left) ∙ sym k ∙ e))
          (λ e. c.if-is_at-2.ensures.no (ap first_token_kind (sym c.if-eat.ensures.left) ∙ sym k ∙ e))
          (λ e. c.if-eat.ensures.other (ap first_token_kind (sym c.if-eat.ensures.left) ∙ sym k ∙ e)),
      s,
    ))) c.if-eat.ensures.left

pub keyed-returns-clause-found : goal.keyed-returns-clause-found
keyed-returns-clause-found t c =
    kept_as _ _ c.put-2.result (λ e. (
      c.in_ok-member.member ∷ [],
      e,
      spans_from
          (spans_map c.in_ok-member.ensures.found (λ next ts h. single _ refl h)) (sym c.if-eat.ensures.left),
    )) c.put-2.ensures.items

pub keyed-returns-clause-only : goal.keyed-returns-clause-only
keyed-returns-clause-only t c = finds_from
    (finds_given (finds_kept _ c.in_ok-member.ensures.only c.put-2.ensures.err)
    (λ n next ts h s k. (
      keyed_single n next ts h
          (λ e. c.if-is_at.ensures.no (ap first_token_kind (sym c.if-eat.ensures.left) ∙ sym k ∙ e))
          (λ e. c.if-is_at-2.ensures.no (ap first_token_kind (sym c.if-eat.ensures.left) ∙ sym k ∙ e))
          (λ e. c.if-eat.ensures.other (ap first_token_kind (sym c.if-eat.ensures.left) ∙ sym k ∙ e)),
      s,
    ))) c.if-eat.ensures.left

pub sections-returns-then-not-begins_section-clause-found : goal.sections-returns-then-not-begins_section-clause-found
sections-returns-then-not-begins_section-clause-found t c = sections_nothing c.args.left (ReadsBody c.args.left) _ _

pub sections-returns-then-not-begins_section-clause-only : goal.sections-returns-then-not-begins_section-clause-only
sections-returns-then-not-begins_section-clause-only t c =
    finds_given (finds_nothing _) (λ n next ts h s k. (
      sections_none n next ts h (ap begins_section k ∙ ap begins_section (sym c.kind.ensures)
          ∙ sym c.if-not-begins_section.ensures),
      s,
    ))

pub sections-returns-in_err-section-clause-only : goal.sections-returns-in_err-section-clause-only
sections-returns-in_err-section-clause-only t c =
    finds_given (finds_fails c.in_err-section.ensures.only c.from_residual.ensures.1 later_follows)
    (λ n next ts h s k. (
      sections_parts n next ts h s
          (ap begins_section k ∙ ap begins_section (sym c.kind.ensures) ∙ sym c.if-not-begins_section.ensures),
      s,
    ))

pub sections-returns-in_err-later_clauses-clause-only : goal.sections-returns-in_err-later_clauses-clause-only
sections-returns-in_err-later_clauses-clause-only t c =
    finds_given (finds_then c.in_ok-section.ensures.only
    (finds_err c.in_err-later_clauses.ensures.only c.from_residual-in_err-later_clauses.ensures.1) later_follows)
    (λ n next ts h s k. (
      sections_parts n next ts h s
          (ap begins_section k ∙ ap begins_section (sym c.kind.ensures) ∙ sym c.if-not-begins_section.ensures),
      s,
    ))

pub sections-returns-clause-found : goal.sections-returns-clause-found
sections-returns-clause-found t c = let a = c.in_ok-section.ensures.found in let b = c.in_ok-later_clauses.ensures.found in sections_added c.args.left (ReadsBody c.args.left) _ _ _ a.0 b.0 a.1 b.1 a.2 b.2

pub sections-returns-clause-only : goal.sections-returns-clause-only
sections-returns-clause-only t c = finds_given
    (finds_then c.in_ok-section.ensures.only (finds_ok _ c.in_ok-later_clauses.ensures.only) later_follows)
    (λ n next ts h s k. (
      sections_parts n next ts h s
          (ap begins_section k ∙ ap begins_section (sym c.kind.ensures) ∙ sym c.if-not-begins_section.ensures),
      s,
    ))

pub later_clauses-returns-in_err-later_clause-clause-only : goal.later_clauses-returns-in_err-later_clause-clause-only
later_clauses-returns-in_err-later_clause-clause-only t c =
    loops_fail c.loop-parser.invariant.loops
    (later_open (first_token_kind c.loop-parser.parser.rest.now)
    (ap begins_later (sym c.kind.ensures) ∙ sym c.loop-parser-test.ensures)) c.in_err-later_clause.ensures.only
    c.from_residual.ensures.1 later_follows

pub later_clauses-loop-parser-preserved : goal.later_clauses-loop-parser-preserved
later_clauses-loop-parser-preserved t c = let m = c.in_ok-later_clause.ensures.found in groups_push m.0 c.loop-parser.invariant (later_open (first_token_kind c.loop-parser.parser.rest.now) (ap begins_later (sym c.kind.ensures) ∙ sym c.loop-parser-test.ensures)) m.2 c.in_ok-later_clause.ensures.only later_follows m.1

pub later_clauses-returns-clause-only : goal.later_clauses-returns-clause-only
later_clauses-returns-clause-only t c = loops_stop c.loop-parser.invariant.loops (λ n next ts h k. let x : true ≡ false = sym (later_first n next ts h) ∙ ap begins_later (k ∙ sym c.kind.ensures) ∙ sym c.loop-parser-test.ensures in absurd (cc))

pub later_clause-returns-then-begins_section-clause-found : goal.later_clause-returns-then-begins_section-clause-found
later_clause-returns-then-begins_section-clause-found t c =
    adds_map (ReadsSection c.args.left) (ReadsLater c.args.left (ReadsBody c.args.left)) _ _ _ _ _
    c.section.ensures.found
    (λ ms next ts h. inl h)

pub later_clause-returns-then-begins_section-clause-only : goal.later_clause-returns-then-begins_section-clause-only
later_clause-returns-then-begins_section-clause-only t c =
    finds_given c.section.ensures.only
    (λ n next ts h s k. (
      later_section n next ts h
          (ap begins_section k ∙ ap begins_section (sym c.kind.ensures) ∙ sym c.if-begins_section.ensures),
      s,
    ))

pub later_clause-returns-clause-found : goal.later_clause-returns-clause-found
later_clause-returns-clause-found t c =
    adds_map (ReadsKeyed c.args.left (ReadsBody c.args.left)) (ReadsLater c.args.left (ReadsBody c.args.left)) _ _ _ _ _
    c.keyed.ensures.found (λ ms next ts h. inr h)

pub later_clause-returns-clause-only : goal.later_clause-returns-clause-only
later_clause-returns-clause-only t c =
    finds_given c.keyed.ensures.only (λ n next ts h s k. (
      later_keyed n next ts h (ap begins_section k ∙ ap begins_section (sym c.kind.ensures)
          ∙ sym c.if-begins_section.ensures),
      refl,
    ))

pub unit-returns-in_err-name-clause-stuck : goal.unit-returns-in_err-name-clause-stuck
unit-returns-in_err-name-clause-stuck t c =
    halts_err _ _ c.from_residual.ensures.1
    (refuses_fails (c.in_err-name.ensures.stuck _) (λ m. begins_then (some_body m) (begins_token (Reserved END))))

pub unit-returns-in_err-members-clause-stuck : goal.unit-returns-in_err-members-clause-stuck
unit-returns-in_err-members-clause-stuck t c =
    halts_err _ _ c.from_residual-in_err-members.ensures.1
    (refuses_then (passes c.in_ok-name.ensures.found (λ m l. turns_placed _))
    (refuses_fails c.in_err-members.ensures.stuck (λ m. begins_token (Reserved END))))

pub unit-returns-in_err-expect-clause-stuck : goal.unit-returns-in_err-expect-clause-stuck
unit-returns-in_err-expect-clause-stuck t c =
    halts_err _ _ c.from_residual-in_err-expect.ensures.1
    (refuses_then (passes c.in_ok-name.ensures.found (λ m l. turns_placed _))
    (refuses_leads (leads c.in_ok-members.ensures.found (λ m l. moves_body _ m l c.in_ok-members.members.items))
    (λ m next ts h. inl (λ e. apart (is_word ELSE) e (token_kind h) refl refl)) (c.in_err-expect.ensures.stuck _)))

pub body-returns-then-begins_body-clause-stuck : goal.body-returns-then-begins_body-clause-stuck
body-returns-then-begins_body-clause-stuck t c =
    refuses_deep c.no_room.result begins_body c.no_room.ensures.deep
    (ap begins_body (sym c.kind.ensures) ∙ sym c.if-begins_body.ensures) refl c.if-left-eq0.true some_body (body_at 2)

pub body-returns-in_err-opening_members-clause-stuck : goal.body-returns-in_err-opening_members-clause-stuck
body-returns-in_err-opening_members-clause-stuck t c =
    halts_err _ _ c.from_residual.ensures.1
    (refuses_inside c.if-left-eq0.false (refuses_fails c.in_err-opening_members.ensures.stuck (λ m. begins_maybe))
    (λ m next ts h. h))

pub body-returns-in_err-sections-clause-stuck : goal.body-returns-in_err-sections-clause-stuck
body-returns-in_err-sections-clause-stuck t c = halts_err _ _ c.from_residual-in_err-sections.ensures.1 (let g = c.in_ok-opening_members.ensures.found in refuses_inside c.if-left-eq0.false (refuses_then (passes g.2 (λ m l. turns_members _ m l g.0)) c.in_err-sections.ensures.stuck) (λ m next ts h. h))

pub opening_members-returns-in_err-member-clause-stuck : goal.opening_members-returns-in_err-member-clause-stuck
opening_members-returns-in_err-member-clause-stuck t c = halts_err _ _ c.from_residual.ensures.1 (let g = c.loop-parser.invariant in refuses_turn (passes g.taken (λ m l. turns_members _ m l g.more)) c.in_err-member.ensures.stuck)

pub member-returns-in_err-declaration-clause-stuck : goal.member-returns-in_err-declaration-clause-stuck
member-returns-in_err-declaration-clause-stuck t c =
    halts_err _ _ c.from_residual.ensures.1
    (refuses_given c.in_err-declaration.ensures.stuck some_member
    (λ m next ts h k. member_of_declared m next ts h (k ∙ c.if-is_at.ensures.yes)))

pub member-returns-clause-stuck : goal.member-returns-clause-stuck
member-returns-clause-stuck t c = halts_over _ c.keyed.ensures.stuck (λ e r. refuses_map r (λ m next ts h. inl h))

pub keyed-returns-then-is_at-clause-stuck : goal.keyed-returns-then-is_at-clause-stuck
keyed-returns-then-is_at-clause-stuck t c =
    halts_over _ c.events.ensures.stuck (λ e r. refuses_map r (λ m next ts h. text.event h))

pub keyed-returns-then-is_at-2-clause-stuck : goal.keyed-returns-then-is_at-2-clause-stuck
keyed-returns-then-is_at-2-clause-stuck t c =
    halts_over _ (c.hides.ensures.stuck _) (λ e r. refuses_map r (λ m next ts h. text.hide h))

pub keyed-returns-in_err-unit-clause-stuck : goal.keyed-returns-in_err-unit-clause-stuck
keyed-returns-in_err-unit-clause-stuck t c =
    halts_err _ _ c.from_residual.ensures.1
    (refuses_map (refuses_then (passes_token c.if-eat.ensures.taken) c.in_err-unit.ensures.stuck)
    (λ m next ts h. text.block h))

pub keyed-returns-in_err-member-clause-stuck : goal.keyed-returns-in_err-member-clause-stuck
keyed-returns-in_err-member-clause-stuck t c =
    halts_err _ _ c.from_residual-in_err-member.ensures.1
    (refuses_from (refuses_map c.in_err-member.ensures.stuck (λ m next ts h. keyed_of_single m next ts h))
    (sym c.if-eat.ensures.left))

pub sections-returns-in_err-section-clause-stuck : goal.sections-returns-in_err-section-clause-stuck
sections-returns-in_err-section-clause-stuck t c =
    halts_err _ _ c.from_residual.ensures.1
    (refuses_map (refuses_fails c.in_err-section.ensures.stuck (λ m. begins_no_more)) (λ m next ts h. inr h))

pub sections-returns-in_err-later_clauses-clause-stuck : goal.sections-returns-in_err-later_clauses-clause-stuck
sections-returns-in_err-later_clauses-clause-stuck t c = halts_err _ _ c.from_residual-in_err-later_clauses.ensures.1 (let g = c.in_ok-section.ensures.found in refuses_map (refuses_leads (leads g.2 (λ m l. moves_section _ m l g.0)) (λ m next ts h. inl (later_some_clear m next ts h)) c.in_err-later_clauses.ensures.stuck) (λ m next ts h. inr (then_map h (λ next ts j. j) (λ next ts j. many_of j))))

pub later_clauses-returns-in_err-later_clause-clause-stuck : goal.later_clauses-returns-in_err-later_clause-clause-stuck
later_clauses-returns-in_err-later_clause-clause-stuck t c = halts_err _ _ c.from_residual.ensures.1 (let g = c.loop-parser.invariant in refuses_some_again (leads g.taken (λ m l. moves_laters _ m l g.more)) (λ m next ts h. inl (later_clear m next ts h)) c.in_err-later_clause.ensures.stuck)

pub later_clause-returns-then-begins_section-clause-stuck : goal.later_clause-returns-then-begins_section-clause-stuck
later_clause-returns-then-begins_section-clause-stuck t c =
    halts_over _ c.section.ensures.stuck (λ e r. refuses_map r (λ m next ts h. inl h))

pub later_clause-returns-clause-stuck : goal.later_clause-returns-clause-stuck
later_clause-returns-clause-stuck t c = halts_over _ c.keyed.ensures.stuck (λ e r. refuses_map r (λ m next ts h. inr h))

pub member-returns-then-is_at-clause-stuck : goal.member-returns-then-is_at-clause-stuck
member-returns-then-is_at-clause-stuck t c = halts_kept _ _ _ _ _ c.put.ensures.err

pub keyed-returns-then-eat-clause-stuck : goal.keyed-returns-then-eat-clause-stuck
keyed-returns-then-eat-clause-stuck t c = halts_kept _ _ _ _ _ c.put.ensures.err

pub keyed-returns-clause-stuck : goal.keyed-returns-clause-stuck
keyed-returns-clause-stuck t c = halts_kept _ _ _ _ _ c.put-2.ensures.err

pub unit-body-requires : goal.unit-body-requires
unit-body-requires t c = (falls 0 1 0 _ t refl c.decreases, tt)

pub body-opening_members-requires : goal.body-opening_members-requires
body-opening_members-requires t c = (falls_inside 4 0 3 _ t refl c.if-left-eq0.false c.decreases, tt)

pub body-sections-requires : goal.body-sections-requires
body-sections-requires t c = (falls_inside 5 0 2 _ t refl c.if-left-eq0.false c.decreases, tt)

pub opening_members-member-requires : goal.opening_members-member-requires
opening_members-member-requires t c = (falls 3 4 0 _ t refl c.decreases, tt)

pub member-keyed-requires : goal.member-keyed-requires
member-keyed-requires t c = (falls 2 3 0 _ t refl c.decreases, tt)

pub keyed-unit-requires : goal.keyed-unit-requires
keyed-unit-requires t c = (falls 1 2 0 _ t refl c.decreases, tt)

pub sections-later_clauses-requires : goal.sections-later_clauses-requires
sections-later_clauses-requires t c = (falls 4 5 0 _ t refl c.decreases, tt)

pub later_clauses-later_clause-requires : goal.later_clauses-later_clause-requires
later_clauses-later_clause-requires t c = (falls 3 4 0 _ t refl c.decreases, tt)

pub later_clause-keyed-requires : goal.later_clause-keyed-requires
later_clause-keyed-requires t c = (falls 2 3 0 _ t refl c.decreases, tt)
