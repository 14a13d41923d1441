-- What is said of one call gives what is said of a call around it.
use Rattle.std.proofs.Common.{◌≡◌, ◌≢◌, ℕ, Bool, [], ◌∷◌, ◌++◌, Box, Global, Result, Ok, Err, IfOk, IfErr, refl, sym, ◌∙◌, subst}
use Rattle.ar_lexer.specs.declared.token.TokenKind.{TokenKind}
use Rattle.expression_grammar.specs.declared.lexeme.Refusal.{Refusal}
use Rattle.expression_grammar.specs.declared.lexeme.Refusal.TheVariants.{Depth, Memory}
use Rattle.expression_grammar.specs.Words.{Form, Tokens, kind_or, no_kind, nothing, each, many}
use Rattle.expression_grammar.specs.Results.{first_token_kind, Spans, TakesTokens, FindsRefusal}
use Rattle.expression_grammar.proofs.Finding.{plain_behind, plain_at, plain_kind, finds_ok, finds_memory, finds_too_deep, Loops, loop_over, spans_push}

-- What was taken

pub spans_nothing : {old : Tokens} → Spans nothing old old
spans_nothing = record { front = []; split = refl; form = refl }

-- What a call finds

-- all went well, but that memory may have run out at the end
pub finds_kept : {A B : Type 0} {P : ℕ → Form} {ends : TokenKind → Bool} {left : ℕ} {x : A} (r : Result B Refusal)
    {old new : Tokens} → FindsRefusal P ends left (Ok x) old new → IfErr r (λ e. e ≡ Memory) → FindsRefusal P ends left r old new
finds_kept (Ok y) f h = finds_ok y f
finds_kept (Err e) f h = finds_memory f.front f.passed h

pub kept_as : (P Q : Type 0) (r : Result (Unit {0}) Refusal) → (P → Q) → IfOk r (λ _. P) → IfOk r (λ _. Q)
kept_as P Q (Ok x) f h = f h
kept_as P Q (Err e) f h = tt

pub boxed_takes : {A : Type 0} (One : A → Form) (r : Result (Box A Global) Refusal) (x : A) {old new : Tokens}
    → IfOk r (λ b. b.value ≡ x) → Spans (One x) old new → TakesTokens (λ b. One b.value) r old new
boxed_takes One (Ok b) x {old} {new} e s = subst (λ (y : _). Spans (One y) old new) (sym e) s
boxed_takes One (Err f) x e s = tt

-- Loops

-- so it is where the next token is one of a text
pub loops_stop_plain : {A : ℕ → Form} {ends : TokenKind → Bool} {left : ℕ} {X : Type 0} {x : X} {start rest : Tokens}
    → Loops A ends start rest → ((n : ℕ) (next : TokenKind) (ts : Tokens) → A n next ts → kind_or next ts ≡ first_token_kind rest
    → (kind_or next ts ≡ no_kind → ⊥) → ⊥) → FindsRefusal (λ n. many (A n)) ends left (Ok x) start rest
loops_stop_plain {A} {rest = rest} l none = record {
  front = l.front;
  passed = l.passed;
  only = λ p n other ts after same h w s.
      let g = l.goes p n other ts after same h w s in
      let q = plain_behind l.front rest (plain_at l.passed p) in
      loop_over (A n) (first_token_kind after) g.0 after other (first_token_kind rest) refl g.1 same g.2.0 g.2.1
      (λ next' ts h k. none n next' ts h k (λ z. plain_kind rest q (sym k ∙ z)));
}

-- Where no room is left

-- no room is left where a production surely begins
pub finds_deep : {A : Type 0} {P : ℕ → Form} {ends : TokenKind → Bool} {left : ℕ} {e : Refusal} {old : Tokens}
    → e ≡ Depth → left ≡ 0 → ((n : ℕ) (next : TokenKind) (ts : Tokens) → P n next ts → (kind_or next ts ≡ no_kind → ⊥)
    → n ≢ 0) → FindsRefusal {A = A} P ends left (Err e) old old
finds_deep {A} {P} {ends} {left} {old = old} d none some =
    subst (λ (f : Refusal). FindsRefusal {A = A} P ends left (Err f) old old) (sym d) (finds_too_deep none some)

-- A loop whose values play no part

pub many_push : (A : Form) {start rest new : Tokens} → Spans (many A) start rest → Spans A rest new
    → Spans (many A) start new
many_push A {start} {rest} {new} a b =
    let p : Spans (each (λ (x : Unit {0}). A) (a.form.0 ++ tt ∷ [])) start new =
    spans_push (λ (x : Unit {0}). A) a.form.0 tt (record { front = a.front; split = a.split; form = a.form.1 })
    b in
    record { front = p.front; split = p.split; form = (a.form.0 ++ tt ∷ [], p.form) }
