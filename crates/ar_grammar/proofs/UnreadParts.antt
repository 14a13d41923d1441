-- What is unread, piece by piece.
use Rattle.std.proofs.Common.{◌≡◌, ◌≢◌, ℕ, zero, suc, ◌-◌, ◌≤◌, inl, inr, Bool, true, false, not, ◌&&◌, [], ◌∷◌, Result, Ok, Err, IfOk, refl, sym, ap, ◌∙◌, subst, arith, ◌++◌, Some, None}
use Rattle.std.specs.Prelude.{◌==◌}
use Rattle.std.proofs.lemmas.Bool.{eqb-true, and_from}
use Rattle.std.proofs.Math.Numerals.{sub-one}
use Rattle.ar_lexer.specs.declared.token.TokenKind.{TokenKind}
use Rattle.ar_lexer.specs.declared.token.TokenKind.TheVariants.{Name, Whole, Real, Sign, Reserved, End}
use Rattle.ar_lexer.specs.declared.signs.TheConstants.{OPEN_PARENTHESIS, CLOSE_PARENTHESIS, SEMICOLON}
use Rattle.expression_grammar.specs.declared.lexeme.Refusal.{Refusal}
use Rattle.expression_grammar.specs.Words.{Form, Tokens, kind_or, token, no_kind, deep, ◌▸◌, many, between}
use Rattle.ar_grammar.specs.Members.{plain_token, unread, unread_piece}
use Rattle.ar_grammar.specs.MembersInside.{bracketed}
use Rattle.expression_grammar.specs.declared.lexeme.Lexeme.{Lexeme}
use Rattle.expression_grammar.specs.Texts.{one_of}
use Rattle.ar_grammar.specs.Texts.{is_unread, bracketed_tokens}
use Rattle.expression_grammar.proofs.TextParts.{one_kind, one_as, token_as}
use Rattle.expression_grammar.proofs.Standing.{Turns, turns_token, turns_then, turns_each, begins_token, begins_here, begins_no_more, begins_then}
use Rattle.expression_grammar.specs.Results.{first_token_kind, Spans, Eats, BeginsForm, is_sign}
use Rattle.ar_grammar.specs.Results.{goes_unread, ends_unread}
use Rattle.expression_grammar.proofs.Finding.{inside, apart, fails, token_kind, then_kind, spans_map}
use Rattle.expression_grammar.proofs.ExpressionForms.{sign_from}
use Rattle.ar_grammar.proofs.ExpressionForms.{and_right}
use Rattle.ar_grammar.specs.Parts.{unread_tokens}
use Rattle.std.specs.Prelude.{Option}
use Rattle.expression_grammar.specs.Words.{nothing, covering, IsSpanOf}
use Rattle.ar_grammar.specs.Members.{kept_token, kept, kept_piece, ReadsAttribute}
use Rattle.ar_grammar.specs.Texts.{is_kept, kept_tokens}
use Rattle.ar_grammar.specs.Parts.{attribute_tokens, kept_piece_tokens}
use Rattle.ar_grammar.specs.Results.{goes_kept, ends_kept, ends_attribute}
use Rattle.expression_grammar.proofs.Finding.{spans_then}
use Rattle.expression_grammar.proofs.ExpressionForms.{and_left}
use Rattle.expression_grammar.proofs.TextParts.{first_of}
use Rattle.expression_grammar.proofs.Standing.{begins_one, begins_map}
use Rattle.ar_base.specs.declared.places.Span.{Span}

-- a bracket that closes goes on with nothing
pub unread_open : (k : TokenKind) → goes_unread k ≡ true → ends_unread k ≡ false
unread_open k h = by_test (ends_unread k) refl
  where
    by_test : (b : Bool) → ends_unread k ≡ b → b ≡ false
    by_test true e = let q : true ≡ false = sym h ∙ ap goes_unread (sign_from CLOSE_PARENTHESIS k e) in absurd (cc)
    by_test false e = refl

pub plain_kind : (next : TokenKind) (ts : Tokens) → (h : plain_token next ts) → kind_or next ts ≡ h.one.kind
plain_kind next ts h = ap (kind_or next) h.alone

-- what goes on is no end
no_end : (k : TokenKind) → goes_unread k ≡ true → k ≢ End
no_end k h e = let q : true ≡ false = sym h ∙ ap goes_unread e in absurd (cc)

no_close : (k : TokenKind) → goes_unread k ≡ true → k ≢ Sign CLOSE_PARENTHESIS
no_close k h e = let q : true ≡ false = sym h ∙ ap goes_unread e in absurd (cc)

-- the first token of a piece
unread_of_bracketed : (n : ℕ) (next : TokenKind) (ts : Tokens) → bracketed n next ts → unread_piece n next ts
unread_of_bracketed zero next ts h = elim h [ ]
unread_of_bracketed (suc n) next ts h = inr h

pub unread_grouped : (n : ℕ) (r : Result (Unit {0}) Refusal) (old new : Tokens)
    → IfOk r (λ _. Spans (bracketed n) old new) → IfOk r (λ _. Spans (unread_piece n) old new)
unread_grouped n (Ok x) old new s = spans_map s (unread_of_bracketed n)
unread_grouped n (Err e) old new s = tt

-- a token that is no bracket
plain_of : (k : TokenKind) {old new : Tokens} → Eats k old new → goes_unread k ≡ true → k ≢ Sign OPEN_PARENTHESIS
    → Spans plain_token old new
plain_of k e g o = record {
  front = e.one ∷ [];
  split = e.split;
  form = record {
    one = e.one;
    alone = refl;
    no_open = λ q. o (sym e.of_kind ∙ q);
    no_close = λ q. no_close k g (sym e.of_kind ∙ q);
    no_end = λ q. no_end k g (sym e.of_kind ∙ q);
  };
}

unread_of_plain : (n : ℕ) (next : TokenKind) (ts : Tokens) → plain_token next ts → unread_piece n next ts
unread_of_plain zero next ts h = h
unread_of_plain (suc n) next ts h = inl h

pub unread_plain : (n : ℕ) {old new : Tokens} → Eats (first_token_kind old) old new → goes_unread (first_token_kind old) ≡ true
    → first_token_kind old ≢ Sign OPEN_PARENTHESIS → Spans (unread_piece n) old new
unread_plain n {old} e g o = spans_map (plain_of (first_token_kind old) e g o) (unread_of_plain n)

-- "(" Unread ")"

pub bracketed_in : (n : ℕ) → n ≢ 0 → (next : TokenKind) (ts : Tokens)
    → (token (Sign OPEN_PARENTHESIS) ▸ unread (n - 1) ▸ token (Sign CLOSE_PARENTHESIS)) next ts → bracketed n next ts
bracketed_in zero some next ts h = absurd (some refl)
bracketed_in (suc n) some next ts h =
    subst (λ (m : ℕ). (token (Sign OPEN_PARENTHESIS) ▸ unread m ▸ token (Sign CLOSE_PARENTHESIS)) next ts)
    (sub-one (suc n)) h

-- Texts

unread_goes : (k : TokenKind) → is_unread k ≡ true → goes_unread k ≡ true
unread_goes Name h = refl
unread_goes (Whole n) h = refl
unread_goes Real h = refl
unread_goes (Sign s) h = and_right (not (s == OPEN_PARENTHESIS)) (not (s == CLOSE_PARENTHESIS)) h
unread_goes (Reserved w) h = refl
unread_goes End h = absurd (cc)

pub unread_over : (n : ℕ) (next : TokenKind) (ts : Tokens) → unread_tokens n next ts
    → goes_unread (kind_or next ts) ≡ false → ⊥
unread_over n next ts (inl h) k = let q : true ≡ false = sym (unread_goes (kind_or next ts) (one_kind h)) ∙ k in absurd (cc)
unread_over zero next ts (inr h) k = let q : true ≡ false = sym (ap goes_unread (token_kind h)) ∙ k in absurd (cc)
unread_over (suc n) next ts (inr h) k = let q : true ≡ false = sym (ap goes_unread (then_kind h)) ∙ k in absurd (cc)

pub unread_bracketed : (n : ℕ) (next : TokenKind) (ts : Tokens) → unread_tokens n next ts
    → kind_or next ts ≡ Sign OPEN_PARENTHESIS → bracketed_tokens deep n next ts
unread_bracketed n next ts (inl h) k = fails is_unread (one_kind h) k refl
unread_bracketed n next ts (inr h) k = h

pub unread_token : (n : ℕ) (next : TokenKind) (ts : Tokens) {k : TokenKind} → unread_tokens n next ts
    → kind_or next ts ≡ k → k ≢ Sign OPEN_PARENTHESIS → token k next ts
unread_token n next ts (inl h) q o = one_as h q
unread_token zero next ts (inr h) q o = token_as h q
unread_token (suc n) next ts (inr h) q o = absurd (o (sym q ∙ then_kind h))

pub bracketed_some : (n : ℕ) (next : TokenKind) (ts : Tokens) → bracketed_tokens deep n next ts
    → (kind_or next ts ≡ no_kind → ⊥) → n ≢ 0
bracketed_some zero next ts h none = absurd (none (token_kind h))
bracketed_some (suc n) next ts h none = λ e. absurd (cc)

pub bracketed_inside : (n : ℕ) (next : TokenKind) (ts : Tokens) → bracketed_tokens deep n next ts
    → kind_or next ts ≡ Sign OPEN_PARENTHESIS
    → inside (λ m. token (Sign OPEN_PARENTHESIS) ▸ many (unread_tokens m) ▸ token (Sign CLOSE_PARENTHESIS)) n next ts
bracketed_inside zero next ts h k = apart (is_sign 256) (token_kind h) k refl refl
bracketed_inside (suc n) next ts h k = (n, refl, h)

pub turns_many : {A B : Form} → Turns A B → Turns (many A) (many B)
turns_many f = λ next next' ts h. turns_each (λ x. f) h.0 next next' ts h.1

other_sign : (s n : ℕ) → s ≢ n → not (s == n) ≡ true
other_sign s n h = by_test (s == n) refl
  where
    by_test : (b : Bool) → (s == n) ≡ b → not b ≡ true
    by_test true e = absurd (h (eqb-true s n e))
    by_test false e = refl

unread_from : (k : TokenKind) → k ≢ Sign OPEN_PARENTHESIS → k ≢ Sign CLOSE_PARENTHESIS → k ≢ End → is_unread k ≡ true
unread_from Name o c e = refl
unread_from (Whole n) o c e = refl
unread_from Real o c e = refl
unread_from (Sign s) o c e = and_from (not (s == OPEN_PARENTHESIS)) (not (s == CLOSE_PARENTHESIS))
    (other_sign s OPEN_PARENTHESIS (λ q. o (ap Sign q))) (other_sign s CLOSE_PARENTHESIS (λ q. c (ap Sign q)))
unread_from (Reserved w) o c e = refl
unread_from End o c e = absurd (e refl)

piece_case : (n m : ℕ) → n ≤ m → (next next' : TokenKind) (ts : Tokens) → unread_piece n next ts
    → unread_tokens m next' ts
piece_case zero m l next next' ts h =
    inl (record { one = h.one; alone = h.alone; passes = unread_from h.one.kind h.no_open h.no_close h.no_end })
piece_case (suc n) m l next next' ts (inl h) =
    inl (record { one = h.one; alone = h.alone; passes = unread_from h.one.kind h.no_open h.no_close h.no_end })
piece_case (suc n) zero l next next' ts (inr h) = absurd (omega (arith, l))
piece_case (suc n) (suc m) l next next' ts (inr h) =
    inr (turns_then turns_token (turns_then
    (turns_many (λ next next' ts j. piece_case n m (omega (arith, l)) next next' ts j)) turns_token) next next' ts h)

pub turns_unread : (n m : ℕ) → n ≤ m → Turns (unread n) (many (unread_tokens m))
turns_unread n m l = turns_many (λ next next' ts j. piece_case n m l next next' ts j)

pub some_unread_end : {A : Form} → BeginsForm (many A ▸ token (Sign CLOSE_PARENTHESIS)) []
some_unread_end = begins_then begins_no_more (begins_token (Sign CLOSE_PARENTHESIS))

pub some_bracketed : (m : ℕ) → BeginsForm (bracketed_tokens deep m) []
some_bracketed zero = begins_token no_kind
some_bracketed (suc m) = begins_then (begins_token (Sign OPEN_PARENTHESIS)) some_unread_end

pub bracketed_at : (m : ℕ) (t : Lexeme) → is_sign OPEN_PARENTHESIS t.kind ≡ true
    → BeginsForm (bracketed_tokens deep (suc m)) (t ∷ [])
bracketed_at m t h = begins_then (begins_here t (Sign OPEN_PARENTHESIS) (sign_from OPEN_PARENTHESIS t.kind h))
    some_unread_end

-- Attributes

pub attribute_none : (n : ℕ) (next : TokenKind) (ts : Tokens) → attribute_tokens n next ts
    → kind_or next ts ≢ Sign OPEN_PARENTHESIS → (kind_or next ts ≡ no_kind → ⊥) → nothing next ts
attribute_none n next ts (inl h) k none = h
attribute_none zero next ts (inr h) k none = absurd (none (token_kind h))
attribute_none (suc n) next ts (inr h) k none = absurd (k (then_kind h))

pub attribute_there : (n : ℕ) (next : TokenKind) (ts : Tokens) → attribute_tokens n next ts → ends_attribute next ≡ true
    → kind_or next ts ≡ Sign OPEN_PARENTHESIS → bracketed_tokens deep n next ts
attribute_there n next ts (inl h) s k = fails ends_attribute s (sym (ap (kind_or next) h) ∙ k) refl
attribute_there n next ts (inr h) s k = h

pub attribute_inside : (n : ℕ) (next : TokenKind) (ts : Tokens) → attribute_tokens n next ts → ends_attribute next
    ≡ true → kind_or next ts ≡ Sign OPEN_PARENTHESIS
    → inside (λ m. token (Sign OPEN_PARENTHESIS) ▸ many (unread_tokens m) ▸ token (Sign CLOSE_PARENTHESIS)) n next ts
attribute_inside n next ts h s k = bracketed_inside n next ts (attribute_there n next ts h s k) k

pub attribute_in : (n : ℕ) (span : Span) {old a b new : Tokens} → n ≢ 0 → Spans (token (Sign OPEN_PARENTHESIS)) old a
    → Spans (unread (n - 1)) a b → ((ts : Tokens) → a ≡ ts ++ b → IsSpanOf span ts)
    → Spans (token (Sign CLOSE_PARENTHESIS)) b new → Spans (ReadsAttribute n (Some span)) old new
attribute_in zero span some o u c d = absurd (some refl)
attribute_in (suc n) span some o u c d =
    spans_map (spans_then o (spans_then
    (record { front = u.front; split = u.split; form = record { span_is = c u.front u.split; form = u.form } }) d))
    (λ next ts h. subst (λ (m : ℕ). between (Sign OPEN_PARENTHESIS) (Sign CLOSE_PARENTHESIS) (covering span (unread m))
    next ts) (sub-one (suc n)) h)

pub turns_attribute : (n m : ℕ) → n ≤ m → (a : Option Span) → Turns (ReadsAttribute n a) (attribute_tokens m)
turns_attribute n m l None = λ next next' ts h. inl h
turns_attribute zero m l (Some span) = λ next next' ts h. elim h [ ]
turns_attribute (suc n) zero l (Some span) = λ next next' ts h. absurd (omega (arith, l))
turns_attribute (suc n) (suc m) l (Some span) = λ next next' ts h.
    inr (turns_then turns_token (turns_then {A = covering span (unread n)}
    (λ next next' ts j. turns_unread n m (omega (arith, l)) next next' ts j.form) turns_token) next next' ts h)

-- Kept values

pub kept_open : (k : TokenKind) → goes_kept k ≡ true → ends_kept k ≡ false
kept_open k h = by_test (ends_kept k) refl
  where
    by_test : (b : Bool) → ends_kept k ≡ b → b ≡ false
    by_test true e = let q : true ≡ false = sym h ∙ ap goes_kept (sign_from SEMICOLON k e) in absurd (cc)
    by_test false e = refl

no_semicolon : (k : TokenKind) → goes_kept k ≡ true → k ≢ Sign SEMICOLON
no_semicolon k h e = let q : true ≡ false = sym h ∙ ap goes_kept e in absurd (cc)

kept_goes : (k : TokenKind) → goes_kept k ≡ true → goes_unread k ≡ true
kept_goes Name h = refl
kept_goes (Whole n) h = refl
kept_goes Real h = refl
kept_goes (Sign s) h = and_left (not (s == CLOSE_PARENTHESIS)) (not (s == SEMICOLON)) h
kept_goes (Reserved w) h = refl
kept_goes End h = absurd (cc)

kept_on : (k : TokenKind) → is_kept k ≡ true → goes_kept k ≡ true
kept_on Name h = refl
kept_on (Whole n) h = refl
kept_on Real h = refl
kept_on (Sign s) h = and_right (not (s == OPEN_PARENTHESIS)) (not (s == CLOSE_PARENTHESIS) && not (s == SEMICOLON)) h
kept_on (Reserved w) h = refl
kept_on End h = absurd (cc)

piece_first : (n : ℕ) (next : TokenKind) (ts : Tokens) → kept_piece_tokens n next ts
    → goes_kept (kind_or next ts) ≡ true
piece_first n next ts (inl h) = kept_on (kind_or next ts) (one_kind h)
piece_first zero next ts (inr h) = ap goes_kept (token_kind h)
piece_first (suc n) next ts (inr h) = ap goes_kept (then_kind h)

pub kept_over : (n : ℕ) (next : TokenKind) (ts : Tokens) → kept_piece_tokens n next ts
    → goes_kept (kind_or next ts) ≡ false → ⊥
kept_over n next ts h k = let q : true ≡ false = sym (piece_first n next ts h) ∙ k in absurd (cc)

pub kept_first : (n : ℕ) (next : TokenKind) (ts : Tokens) → kept_tokens (bracketed_tokens deep n) next ts
    → goes_kept (kind_or next ts) ≡ false → ⊥
kept_first n next ts h k = kept_over n (kind_or next h.back) h.front h.first (ap goes_kept (sym (first_of h)) ∙ k)

pub kept_bracketed : (n : ℕ) (next : TokenKind) (ts : Tokens) → kept_piece_tokens n next ts
    → kind_or next ts ≡ Sign OPEN_PARENTHESIS → bracketed_tokens deep n next ts
kept_bracketed n next ts (inl h) k = fails is_kept (one_kind h) k refl
kept_bracketed n next ts (inr h) k = h

pub kept_token_given : (n : ℕ) (next : TokenKind) (ts : Tokens) {k : TokenKind} → kept_piece_tokens n next ts
    → kind_or next ts ≡ k → k ≢ Sign OPEN_PARENTHESIS → token k next ts
kept_token_given n next ts (inl h) q o = one_as h q
kept_token_given zero next ts (inr h) q o = token_as h q
kept_token_given (suc n) next ts (inr h) q o = absurd (o (sym q ∙ then_kind h))

kept_of_bracketed : (n : ℕ) (next : TokenKind) (ts : Tokens) → bracketed n next ts → kept_piece n next ts
kept_of_bracketed zero next ts h = elim h [ ]
kept_of_bracketed (suc n) next ts h = inr h

pub kept_grouped : (n : ℕ) (r : Result (Unit {0}) Refusal) (old new : Tokens)
    → IfOk r (λ _. Spans (bracketed n) old new) → IfOk r (λ _. Spans (kept_piece n) old new)
kept_grouped n (Ok x) old new s = spans_map s (kept_of_bracketed n)
kept_grouped n (Err e) old new s = tt

kept_of : (n : ℕ) (next : TokenKind) (ts : Tokens) → kept_token next ts → kept_piece n next ts
kept_of zero next ts h = h
kept_of (suc n) next ts h = inl h

pub kept_plain : (n : ℕ) {old new : Tokens} → Eats (first_token_kind old) old new → goes_kept (first_token_kind old) ≡ true
    → first_token_kind old ≢ Sign OPEN_PARENTHESIS → Spans (kept_piece n) old new
kept_plain n {old} e g o =
    let k = first_token_kind old in
    record {
      front = e.one ∷ [];
      split = e.split;
      form = kept_of n _ (e.one ∷ []) (record {
        plain = record {
          one = e.one;
          alone = refl;
          no_open = λ q. o (sym e.of_kind ∙ q);
          no_close = λ q. no_close k (kept_goes k g) (sym e.of_kind ∙ q);
          no_end =
              λ q. no_end k (kept_goes k g) (sym e.of_kind ∙ q);
        };
        no_semicolon = λ q. no_semicolon k g (sym e.of_kind ∙ q);
      });
    }

pub kept_made : (n : ℕ) (span : Span) {old mid new : Tokens} → Spans (kept_piece n) old mid
    → Spans (many (kept_piece n)) mid new → ((ts : Tokens) → old ≡ ts ++ new → IsSpanOf span ts)
    → Spans (covering span (kept n)) old new
kept_made n span a b c = let s = spans_then a b in record { front = s.front; split = s.split; form = record { span_is = c s.front s.split; form = s.form } }

-- A kept value, before any token

kept_from : (k : TokenKind) → k ≢ Sign OPEN_PARENTHESIS → k ≢ Sign CLOSE_PARENTHESIS → k ≢ End → k ≢ Sign SEMICOLON
    → is_kept k ≡ true
kept_from Name o c e s = refl
kept_from (Whole n) o c e s = refl
kept_from Real o c e s = refl
kept_from (Sign m) o c e s = and_from (not (m == OPEN_PARENTHESIS))
    (not (m == CLOSE_PARENTHESIS) && not (m == SEMICOLON)) (other_sign m OPEN_PARENTHESIS (λ q. o (ap Sign q)))
    (and_from (not (m == CLOSE_PARENTHESIS)) (not (m == SEMICOLON))
    (other_sign m CLOSE_PARENTHESIS (λ q. c (ap Sign q))) (other_sign m SEMICOLON (λ q. s (ap Sign q))))
kept_from (Reserved w) o c e s = refl
kept_from End o c e s = absurd (e refl)

kept_one : (next next' : TokenKind) (ts : Tokens) → kept_token next ts → one_of is_kept next' ts
kept_one next next' ts h = record {
  one = h.plain.one;
  alone = h.plain.alone;
  passes = kept_from h.plain.one.kind h.plain.no_open h.plain.no_close h.plain.no_end h.no_semicolon;
}

pub turns_kept_piece : (n m : ℕ) → n ≤ m → Turns (kept_piece n) (kept_piece_tokens m)
turns_kept_piece n m l = λ next next' ts h. by_case n m l next next' ts h
  where
    by_case : (n m : ℕ) → n ≤ m → (next next' : TokenKind) (ts : Tokens) → kept_piece n next ts
        → kept_piece_tokens m next' ts
    by_case zero m l next next' ts h = inl (kept_one next next' ts h)
    by_case (suc n) m l next next' ts (inl h) = inl (kept_one next next' ts h)
    by_case (suc n) zero l next next' ts (inr h) = absurd (omega (arith, l))
    by_case (suc n) (suc m) l next next' ts (inr h) =
        inr (turns_then turns_token (turns_then (turns_unread n m (omega (arith, l))) turns_token) next next' ts h)

pub turns_kept : (n m : ℕ) → n ≤ m → Turns (kept n) (kept_tokens (bracketed_tokens deep m))
turns_kept n m l = turns_then (turns_kept_piece n m l) (turns_many (turns_kept_piece n m l))

pub some_kept : (m : ℕ) → BeginsForm (kept_tokens (bracketed_tokens deep m)) []
some_kept m = begins_then (begins_map (begins_one {test = is_kept} Name refl) (λ next ts h. inl h)) begins_no_more
