-- What an expression is, by its first token and part by part.
use Rattle.std.proofs.Common.{◌≡◌, ℕ, Bool, true, false, ◌&&◌, [], ◌∷◌, ◌++◌, refl, sym, ap, ◌∙◌, subst, append_assoc}
use Rattle.std.proofs.lemmas.Bool.{eqb-true}
use Rattle.ar_lexer.specs.declared.token.TokenKind.{TokenKind}
use Rattle.ar_lexer.specs.declared.token.TokenKind.TheVariants.{Name, Whole, Real, Sign, Reserved, End}
use Rattle.ar_syntax.specs.declared.expressions.RawExpr.{RawExpr}
use Rattle.ar_syntax.specs.declared.expressions.RawForm.{RawForm}
use Rattle.expression_grammar.specs.declared.lexeme.Lexeme.{Lexeme}
use Rattle.expression_grammar.specs.Words.{Form, Tokens, kind_or, token, ◌▸◌, StandsAt, IsSpanOf}
use Rattle.expression_grammar.specs.Expressions.{Node}
use Rattle.expression_grammar.specs.Results.{first_token_kind, Spans, is_sign, is_word}
use Rattle.expression_grammar.proofs.Finding.{kind_join}

-- Forms one behind the other

pub then_map : {A A' B B' : Form} {next : TokenKind} {ts : Tokens} → (A ▸ B) next ts
    → ((next : TokenKind) (ts : Tokens) → A next ts → A' next ts)
    → ((next : TokenKind) (ts : Tokens) → B next ts → B' next ts) → (A' ▸ B') next ts
then_map {next = next} h f g = record {
  front = h.front;
  back = h.back;
  split = h.split;
  first = f (kind_or next h.back) h.front h.first;
  second = g next h.back h.second;
}

pub then_assoc : {A B C : Form} {next : TokenKind} {ts : Tokens} → ((A ▸ B) ▸ C) next ts → (A ▸ B ▸ C) next ts
then_assoc {A} {next = next} h = record {
  front = h.first.front;
  back = h.first.back ++ h.back;
  split = h.split ∙ ap (λ (t : Tokens). t ++ h.back) h.first.split ∙ append_assoc h.first.front h.first.back h.back;
  first = subst (λ (k : TokenKind). A k h.first.front) (sym (kind_join h.first.back h.back next)) h.first.first;
  second = record { front = h.first.back; back = h.back; split = refl; first = h.first.second; second = h.second };
}

pub then_unassoc : {A B C : Form} {next : TokenKind} {ts : Tokens} → (A ▸ B ▸ C) next ts → ((A ▸ B) ▸ C) next ts
then_unassoc {A} {next = next} h = record {
  front = h.front ++ h.second.front;
  back = h.second.back;
  split = h.split ∙ ap (λ (t : Tokens). h.front ++ t) h.second.split
      ∙ sym (append_assoc h.front h.second.front h.second.back);
  first = record {
    front = h.front;
    back = h.second.front;
    split = refl;
    first = subst (λ (k : TokenKind). A k h.front)
        (ap (kind_or next) h.second.split ∙ kind_join h.second.front h.second.back next) h.first;
    second = h.second.first;
  };
  second = h.second.second;
}

-- not without tokens
pub then_some : {A B : Form} {next : TokenKind} {ts : Tokens} → (A ▸ B) next ts
    → ((next : TokenKind) (ts : Tokens) → A next ts → ts ≡ [] → ⊥) → ts ≡ [] → ⊥
then_some {next = next} h f z = f (kind_or next h.back) h.front h.first (no_front h.front h.back (sym h.split ∙ z))
  where
    no_front : (a b : Tokens) → a ++ b ≡ [] → a ≡ []
    no_front [] b e = refl
    no_front (t ∷ a) b e = absurd (cc)

pub token_some : (kind next : TokenKind) (ts : Tokens) → token kind next ts → ts ≡ [] → ⊥
token_some kind next ts h z = let q : h.one ∷ [] ≡ [] = sym h.alone ∙ z in absurd (cc)

pub node_some : (Is : RawForm → Form) (e : RawExpr) (next : TokenKind) (ts : Tokens) → Node Is e next ts → ts ≡ [] → ⊥
node_some Is e next [] h z = h.there
node_some Is e next (t ∷ ts) h z = absurd (cc)

-- An expression that was placed

-- what a call that places a form says
pub record Places (e : RawExpr) (f : RawForm) (old new : Tokens) : Type 0 where
  pub form : e.form ≡ f
  pub there : (t : Lexeme) (ts : Tokens) → old ≡ (t ∷ ts) ++ new → StandsAt e.at (t ∷ ts)
  pub span : (ts : Tokens) → old ≡ ts ++ new → IsSpanOf e.span ts

pub node_made : (A : Form) (Is : RawForm → Form) (e : RawExpr) (f : RawForm) {old new : Tokens} → Places e f old new
    → Spans A old new → ((next : TokenKind) (ts : Tokens) → A next ts → ts ≡ [] → ⊥)
    → ((next : TokenKind) (ts : Tokens) → A next ts → Is f next ts) → Spans (Node Is e) old new
node_made A Is e f {old} {new} p s some made = record {
  front = s.front;
  split = s.split;
  form = record {
    there = stands s.front s.split (some (first_token_kind new) s.front s.form);
    span_is = p.span s.front s.split;
    form = subst (λ (g : RawForm). Is g (first_token_kind new) s.front) (sym p.form) (made (first_token_kind new) s.front s.form);
  };
}
  where
    stands : (front : Tokens) → old ≡ front ++ new → (front ≡ [] → ⊥) → StandsAt e.at front
    stands [] split none = absurd (none refl)
    stands (t ∷ ts) split none = p.there t ts split

-- Tests

pub and_left : (p q : Bool) → (p && q) ≡ true → p ≡ true
and_left true q h = refl
and_left false q h = absurd (cc)

pub sign_from : (n : ℕ) (k : TokenKind) → is_sign n k ≡ true → k ≡ Sign n
sign_from n (Sign m) h = ap Sign (eqb-true m n h)
sign_from n Name h = absurd (cc)
sign_from n (Whole z) h = absurd (cc)
sign_from n Real h = absurd (cc)
sign_from n (Reserved m) h = absurd (cc)
sign_from n End h = absurd (cc)

pub word_from : (n : ℕ) (k : TokenKind) → is_word n k ≡ true → k ≡ Reserved n
word_from n (Reserved m) h = ap Reserved (eqb-true m n h)
word_from n Name h = absurd (cc)
word_from n (Whole z) h = absurd (cc)
word_from n Real h = absurd (cc)
word_from n (Sign m) h = absurd (cc)
word_from n End h = absurd (cc)
