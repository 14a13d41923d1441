-- The first tokens of what has a tree.
use Rattle.std.proofs.Common.{◌≡◌, ℕ, zero, suc, inl, inr, Bool, true, List, refl, ap, ◌∙◌, ◌≢◌, false, not}
use Rattle.ar_lexer.specs.declared.token.TokenKind.{TokenKind}
use Rattle.ar_lexer.specs.declared.token.TokenKind.TheVariants.{Name, Whole, Real, Sign, Reserved, End}
use Rattle.ar_lexer.specs.declared.signs.TheConstants.{CLOSE_PARENTHESIS}
use Rattle.ar_lexer.specs.declared.words.TheConstants.{BLOCK, BOOLEAN, CLONES, EMBEDS, EVENT, EXTENDS, HIDE, MAIN, OBSERVER, OWNER, PARAMETER, SKIP}
use Rattle.ar_syntax.specs.declared.expressions.RawForm.{RawForm}
use Rattle.ar_syntax.specs.declared.instructions.Instr.{Instr}
use Rattle.ar_syntax.specs.declared.members.Member.{Member}
use Rattle.expression_grammar.specs.Words.{Form, Tokens, kind_or, ReadsSome}
use Rattle.expression_grammar.specs.Expressions.{ReadsExpr}
use Rattle.ar_grammar.specs.Instructions.{ReadsSimpleOf, assign, tie, skip, simple, group, conditional, ReadsInstr}
use Rattle.ar_grammar.specs.Members.{unread_piece, ReadsSingle, extends, boolean, clones, embeds, kept_value, parameter, observer, ReadsSection, ReadsKeyed, single, block, event, hide, ReadsMember, keyed, named, ReadsLater}
use Rattle.std.specs.Prelude.{◌==◌}
use Rattle.std.proofs.lemmas.Bool.{eqb-true, or_right, or_left}
use Rattle.expression_grammar.specs.Results.{is_name}
use Rattle.ar_grammar.specs.Results.{goes_unread, begins_instr, begins_keyed, begins_member, begins_section, begins_later}
use Rattle.expression_grammar.proofs.Finding.{then_kind}
use Rattle.ar_grammar.proofs.ExpressionForms.{then_first, path_first}
use Rattle.ar_grammar.proofs.InstrParts.{between_kind}
use Rattle.ar_grammar.proofs.BodyParts.{boolean_kind, named_kind}
use Rattle.ar_grammar.proofs.UnreadParts.{plain_kind}

-- Instructions

simple_first : (test : TokenKind → Bool) → test Name ≡ true → test (Reserved OWNER) ≡ true → test (Reserved MAIN) ≡ true
    → test (Reserved SKIP) ≡ true → (Expr : RawForm → Form) (i : Instr) (next : TokenKind) (ts : Tokens)
    → ReadsSimpleOf Expr i next ts → test (kind_or next ts) ≡ true
simple_first test name owner main skips Expr i next ts (assign p e q h) =
    then_first test h (path_first test name owner main p)
simple_first test name owner main skips Expr i next ts (tie p r q h) =
    then_first test h (path_first test name owner main p)
simple_first test name owner main skips Expr i next ts (skip q h) = ap test (then_kind h) ∙ skips

pub instr_first : (n : ℕ) (i : Instr) (next : TokenKind) (ts : Tokens) → ReadsInstr n i next ts
    → begins_instr (kind_or next ts) ≡ true
instr_first zero i next ts h = elim h [ ]
instr_first (suc n) i next ts (simple h) = simple_first begins_instr refl refl refl refl (ReadsExpr n) i next ts h
instr_first (suc n) i next ts (group h) = ap begins_instr (then_kind h.reads)
instr_first (suc n) i next ts (conditional h) = ap begins_instr (between_kind h.reads)

-- Members

pub single_first : (test : TokenKind → Bool) → test (Reserved EXTENDS) ≡ true → test (Reserved BOOLEAN) ≡ true
    → test (Reserved CLONES) ≡ true → test (Reserved EMBEDS) ≡ true → test (Reserved PARAMETER) ≡ true
    → test (Reserved OBSERVER) ≡ true → (n : ℕ) (m : Member) (next : TokenKind) (ts : Tokens) → ReadsSingle n m next ts
    → test (kind_or next ts) ≡ true
single_first test a b c d g i n m next ts (extends name at e h) = ap test (then_kind h) ∙ a
single_first test a b c d g i n m next ts (boolean x e) = ap test (boolean_kind x e) ∙ b
single_first test a b c d g i n m next ts (clones p name at e h) = ap test (then_kind h) ∙ c
single_first test a b c d g i n m next ts (embeds p name at e h) = ap test (then_kind h) ∙ d
single_first test a b c d g i n m next ts (kept_value name at span e h) = ap test (then_kind h) ∙ g
single_first test a b c d g i n m next ts (parameter type name at value e h) = ap test (then_kind h) ∙ g
single_first test a b c d g i n m next ts (observer type name at value e h) = ap test (then_kind h) ∙ i

pub section_first : (n : ℕ) (next : TokenKind) (ts : Tokens) → ReadsSome (ReadsSection n) next ts
    → begins_section (kind_or next ts) ≡ true
section_first n next ts (ms, inl h) = ap begins_section (then_kind h)
section_first n next ts (ms, inr h) = ap begins_section (then_kind h)

keyed_by : (test : TokenKind → Bool) → test (Reserved EXTENDS) ≡ true → test (Reserved BOOLEAN) ≡ true
    → test (Reserved CLONES) ≡ true → test (Reserved EMBEDS) ≡ true → test (Reserved PARAMETER) ≡ true
    → test (Reserved OBSERVER) ≡ true → test (Reserved BLOCK) ≡ true → test (Reserved EVENT) ≡ true
    → test (Reserved HIDE) ≡ true → (n : ℕ) (Body : List Member → Form) (ms : List Member) (next : TokenKind)
    (ts : Tokens) → ReadsKeyed n Body ms next ts → test (kind_or next ts) ≡ true
keyed_by test a b c d g i u v w n Body ms next ts (single m e h) = single_first test a b c d g i n m next ts h
keyed_by test a b c d g i u v w n Body ms next ts (block x e h) = ap test (then_kind h) ∙ u
keyed_by test a b c d g i u v w n Body ms next ts (event h) = ap test (then_kind h) ∙ v
keyed_by test a b c d g i u v w n Body ms next ts (hide h) = ap test (then_kind h) ∙ w

pub keyed_first : (n : ℕ) (Body : List Member → Form) (next : TokenKind) (ts : Tokens) → ReadsSome (ReadsKeyed n Body)
    next ts → begins_keyed (kind_or next ts) ≡ true
keyed_first n Body next ts (ms, h) =
    keyed_by begins_keyed refl refl refl refl refl refl refl refl refl n Body ms next ts h

pub member_first : (n : ℕ) (Body : List Member → Form) (next : TokenKind) (ts : Tokens) → ReadsSome (ReadsMember n Body)
    next ts → begins_member (kind_or next ts) ≡ true
member_first n Body next ts (ms, keyed h) =
    or_right (is_name (kind_or next ts)) (begins_keyed (kind_or next ts)) (keyed_first n Body next ts (ms, h))
member_first n Body next ts (ms, named m e d id f) = ap begins_member (named_kind id d f)

pub later_first : (n : ℕ) (Body : List Member → Form) (next : TokenKind) (ts : Tokens) → ReadsSome (ReadsLater n Body)
    next ts → begins_later (kind_or next ts) ≡ true
later_first n Body next ts (ms, inl h) =
    or_left (begins_section (kind_or next ts)) (begins_keyed (kind_or next ts)) (section_first n next ts (ms, h))
later_first n Body next ts (ms, inr h) =
    or_right (begins_section (kind_or next ts)) (begins_keyed (kind_or next ts)) (keyed_first n Body next ts (ms, h))

-- Unread texts

by_eq : (s : ℕ) → s ≢ CLOSE_PARENTHESIS → not (s == CLOSE_PARENTHESIS) ≡ true
by_eq s h = by_test (s == CLOSE_PARENTHESIS) refl
  where
    by_test : (b : Bool) → (s == CLOSE_PARENTHESIS) ≡ b → not b ≡ true
    by_test true e = absurd (h (eqb-true s CLOSE_PARENTHESIS e))
    by_test false e = refl

goes : (k : TokenKind) → k ≢ Sign CLOSE_PARENTHESIS → k ≢ End → goes_unread k ≡ true
goes Name c e = refl
goes (Whole n) c e = refl
goes Real c e = refl
goes (Sign s) c e = by_eq s (λ q. c (ap Sign q))
goes (Reserved w) c e = refl
goes End c e = absurd (e refl)

pub unread_first : (n : ℕ) (next : TokenKind) (ts : Tokens) → unread_piece n next ts
    → goes_unread (kind_or next ts) ≡ true
unread_first zero next ts h = ap goes_unread (plain_kind next ts h) ∙ goes h.one.kind h.no_close h.no_end
unread_first (suc n) next ts (inl h) = ap goes_unread (plain_kind next ts h) ∙ goes h.one.kind h.no_close h.no_end
unread_first (suc n) next ts (inr h) = ap goes_unread (then_kind h)
