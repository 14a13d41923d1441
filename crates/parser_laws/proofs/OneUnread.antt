-- Unread texts that begin alike, and end where they may, are one.
use Rattle.std.proofs.Common.{◌≡◌, ◌≢◌, ℕ, zero, suc, inl, inr, Bool, true, false, not, [], ◌∷◌, ◌++◌, refl, sym, ap, ◌∙◌, subst}
use Rattle.std.specs.Prelude.{Option, Some, None, ◌==◌}
use Rattle.std.proofs.lemmas.Bool.{eqb-true}
use Rattle.ar_base.specs.declared.places.Span.{Span}
use Rattle.ar_base.proofs.Truths.{not_true}
use Rattle.ar_lexer.specs.declared.token.TokenKind.{TokenKind}
use Rattle.ar_lexer.specs.declared.token.TokenKind.TheVariants.{Name, Whole, Real, Sign, Reserved, End}
use Rattle.ar_lexer.specs.declared.signs.TheConstants.{OPEN_PARENTHESIS, SEMICOLON}
use Rattle.ar_lexer.proofs.NumberLemmas.{cons_head}
use Rattle.expression_grammar.specs.declared.lexeme.Lexeme.{Lexeme}
use Rattle.expression_grammar.specs.Words.{Form, Tokens, kind_or, token, ◌▸◌, many, covering, IsSpanOf}
use Rattle.ar_grammar.specs.Members.{plain_token, unread, unread_piece, ReadsAttribute, kept, kept_piece}
use Rattle.expression_grammar.specs.Results.{first_token_kind, anything, is_sign}
use Rattle.ar_grammar.specs.Results.{ends_unread, ends_kept, ends_attribute}
use Rattle.expression_grammar.proofs.Finding.{then_kind}
use Rattle.ar_grammar.proofs.UnreadParts.{unread_open}
use Rattle.parser_laws.proofs.Firsts.{unread_first}
use Rattle.parser_laws.proofs.Agreeing.{Agree, First, other, first_token, first_front, first_nothing, meet, agree_map, agree_apart, agree_nothing, agree_next, agree_each}
use Rattle.parser_laws.proofs.OneExpression.{agree_between, one_span}

differs : (n : ℕ) (k : TokenKind) → k ≢ Sign n → other (is_sign n) k ≡ true
differs n Name d = refl
differs n (Whole m) d = refl
differs n Real d = refl
differs n (Sign m) d = by_test (m == n) refl
  where
    by_test : (b : Bool) → (m == n) ≡ b → not b ≡ true
    by_test true e = absurd (d (ap Sign (eqb-true m n e)))
    by_test false e = refl
differs n (Reserved w) d = refl
differs n End d = refl

agree_plain : {ends : TokenKind → Bool} → Agree ends plain_token plain_token (Unit {0})
agree_plain = record {
  holds = λ a b rest rest' h j e s s'.
      let both : h.one ∷ rest ≡ j.one ∷ rest' =
      sym (ap (λ (t : Tokens). t ++ rest) h.alone) ∙ e ∙ ap (λ (t : Tokens). t ++ rest') j.alone in
      (tt, h.alone ∙ ap (λ (t : Lexeme). t ∷ []) (cons_head both) ∙ sym j.alone);
}

-- a plain token is no bracket
plain_group : {B : Form} (a b rest rest' : Tokens) → plain_token (first_token_kind rest) a
    → (token (Sign OPEN_PARENTHESIS) ▸ B) (first_token_kind rest') b → a ++ rest ≡ b ++ rest' → ⊥
plain_group a b rest rest' h j e = h.no_open
    (sym (ap (kind_or (first_token_kind rest)) h.alone) ∙ meet a b rest rest' e ∙ then_kind j)

agree_many : {A : Form} {ends ends' : TokenKind → Bool} → Agree ends A A (Unit {0}) → First A anything ends
    → First A anything (other ends') → ((k : TokenKind) → ends' k ≡ true → ends k ≡ true)
    → Agree ends' (many A) (many A) (Unit {0})
agree_many {A} {ends} {ends'} f fits starts w = record {
  holds = λ a b rest rest' h j e s s'. (
    tt,
    ((agree_each {X = Unit {0}} {One = λ _. A} {ends = ends} {ends' = ends'} {R = λ _ _. Unit {0}} (λ x y. f)
        (λ x. fits) (λ x. starts) w h.0 j.0).holds a b rest rest' h.1 j.1 e s s').1,
  );
}

unread_starts : (n : ℕ) → First (unread_piece n) anything (other ends_unread)
unread_starts n = record { holds = λ next ts h s. ap not (unread_open (kind_or next ts) (unread_first n next ts h)) }

agree_unread : (n : ℕ) → Agree anything (unread_piece n) (unread_piece n) (Unit {0})
    → Agree ends_unread (unread n) (unread n) (Unit {0})
agree_unread n f = agree_many f (record { holds = λ next ts h s. refl }) (unread_starts n) (λ k s. refl)

piece_case : (n : ℕ) → Agree anything (unread_piece n) (unread_piece n) (Unit {0}) → (a b rest rest' : Tokens)
    → unread_piece (suc n) (first_token_kind rest) a → unread_piece (suc n) (first_token_kind rest') b → a ++ rest ≡ b ++ rest'
    → Unit {0} × (a ≡ b)
piece_case n f a b rest rest' (inl h) (inl j) e = (agree_plain {ends = anything}).holds a b rest rest' h j e refl refl
piece_case n f a b rest rest' (inl h) (inr j) e = absurd (plain_group a b rest rest' h j e)
piece_case n f a b rest rest' (inr h) (inl j) e = absurd (plain_group b a rest' rest j h (sym e))
piece_case n f a b rest rest' (inr h) (inr j) e =
    (agree_between {ends' = anything} (agree_unread n f) refl).holds a b rest rest' h j e refl refl

agree_piece : (n : ℕ) → Agree anything (unread_piece n) (unread_piece n) (Unit {0})
agree_piece zero = agree_plain
agree_piece (suc n) = let f = agree_piece n in record { holds = λ a b rest rest' h j e s s'. piece_case n f a b rest rest' h j e }

pub agree_covering : {A : Form} {ends : TokenKind → Bool} {R : Type 0} → Agree ends A A R → (s t : Span)
    → Agree ends (covering s A) (covering t A) (s ≡ t)
agree_covering f s t = record {
  holds = λ a b rest rest' h j e x x'.
      let r = f.holds a b rest rest' h.form j.form e x x' in
      (one_span a s t h.span_is (subst (λ (u : Tokens). IsSpanOf t u) (sym r.1) j.span_is), r.1);
}

-- [ "(" Unread ")" ]
pub agree_attribute : (n : ℕ) (x y : Option Span) → Agree ends_attribute (ReadsAttribute n x) (ReadsAttribute n y)
    (x ≡ y)
agree_attribute n None None = agree_map agree_nothing (λ r. refl)
agree_attribute zero None (Some t) = record { holds = λ a b rest rest' h j e s s'. elim j [ ] }
agree_attribute (suc n) None (Some t) =
    agree_apart {test = ends_attribute} {test' = other ends_attribute} (first_nothing (λ k e. e))
    (first_front (first_token refl)) (λ k p q. not_true (ends_attribute k) q p)
agree_attribute zero (Some s) y = record { holds = λ a b rest rest' h j e x x'. elim h [ ] }
agree_attribute (suc n) (Some s) None =
    agree_apart {test = other ends_attribute} {test' = ends_attribute} (first_front (first_token refl))
    (first_nothing (λ k e. e)) (λ k p q. not_true (ends_attribute k) p q)
agree_attribute (suc n) (Some s) (Some t) =
    agree_map (agree_between (agree_covering (agree_unread n (agree_piece n)) s t) refl) (λ r. ap Some r)

-- Kept texts

kept_starts : (n : ℕ) → First (kept_piece n) anything (other ends_kept)
kept_starts zero = record {
  holds = λ next ts h s. ap (other ends_kept) (ap (kind_or next) h.plain.alone)
      ∙ differs SEMICOLON h.plain.one.kind h.no_semicolon;
}
kept_starts (suc n) = record { holds = λ next ts h s. by_case next ts h }
  where
    by_case : (next : TokenKind) (ts : Tokens) → kept_piece (suc n) next ts → other ends_kept (kind_or next ts) ≡ true
    by_case next ts (inl h) = ap (other ends_kept) (ap (kind_or next) h.plain.alone)
        ∙ differs SEMICOLON h.plain.one.kind h.no_semicolon
    by_case next ts (inr h) = ap (other ends_kept) (then_kind h)

agree_kept_piece : (n : ℕ) → Agree anything (kept_piece n) (kept_piece n) (Unit {0})
agree_kept_piece zero = record {
  holds = λ a b rest rest' h j e s s'. (agree_plain {ends = anything}).holds a b rest
      rest' h.plain j.plain e refl refl;
}
agree_kept_piece (suc n) = record { holds = λ a b rest rest' h j e s s'. by_case a b rest rest' h j e }
  where
    by_case : (a b rest rest' : Tokens) → kept_piece (suc n) (first_token_kind rest) a → kept_piece (suc n) (first_token_kind rest') b
        → a ++ rest ≡ b ++ rest' → Unit {0} × (a ≡ b)
    by_case a b rest rest' (inl h) (inl j) e =
        (agree_plain {ends = anything}).holds a b rest rest' h.plain j.plain e refl refl
    by_case a b rest rest' (inl h) (inr j) e = absurd (plain_group a b rest rest' h.plain j e)
    by_case a b rest rest' (inr h) (inl j) e = absurd (plain_group b a rest' rest j.plain h (sym e))
    by_case a b rest rest' (inr h) (inr j) e =
        (agree_between {ends' = anything} (agree_unread n (agree_piece n)) refl).holds a b rest rest' h j e refl refl

-- Kept = Piece { Piece }
pub agree_kept : (n : ℕ) → Agree ends_kept (kept n) (kept n) (Unit {0})
agree_kept n = agree_map (agree_next (agree_kept_piece n)
    (agree_many (agree_kept_piece n) (record { holds = λ next ts h s. refl }) (kept_starts n) (λ k s. refl))) (λ r. tt)
