-- What a refusal of one call tells gives what a refusal of a call around it tells.
use Rattle.std.proofs.Common.{◌≡◌, ℕ, [], ◌∷◌, ◌++◌, Result, Ok, Err, IfErr, refl, sym, ap, ◌∙◌, subst, inl}
use Rattle.ar_lexer.specs.declared.token.TokenKind.{TokenKind}
use Rattle.expression_grammar.specs.declared.lexeme.Refusal.{Refusal}
use Rattle.expression_grammar.specs.declared.lexeme.Refusal.TheVariants.{Memory}
use Rattle.expression_grammar.specs.Words.{Form, Tokens, kind_or, ◌▸◌, nothing, many}
use Rattle.expression_grammar.specs.Texts.{maybe}
use Rattle.expression_grammar.specs.Results.{first_token_kind, BeginsForm, TellsRefusal, before, through, Refuses, Halts, StandsWhereStopped}
use Rattle.expression_grammar.proofs.Standing.{Turns, begins_no_more, begins_then, begins_map}

-- Forms whose texts stay texts whatever follows them

pub turns_nothing : Turns nothing nothing
turns_nothing = λ next next' ts h. h

-- What a refusal tells

pub refuses_at : {P : ℕ → Form} {left : ℕ} {e : Refusal} {old new new' : Tokens} → Refuses P left e old new → new' ≡ new
    → Refuses P left e old new'
refuses_at {P} {left} {e} {old} r q = subst (λ (t : Tokens). Refuses P left e old t) (sym q) r

-- Results

pub halts_kept : {A : Type 0} (P : ℕ → Form) (left : ℕ) (old new : Tokens) (r : Result A Refusal)
    → IfErr r (λ e. e ≡ Memory) → Halts P left r old new
halts_kept P left old new (Ok x) h = tt
halts_kept P left old new (Err x) h = λ n. absurd (n h)

-- What a form is that begins with the token that stands there

-- the next token decides which form it can be
pub refuses_given : {P Q : ℕ → Form} {left : ℕ} {e : Refusal} {old new : Tokens} → Refuses P left e old new
    → ((m : ℕ) → BeginsForm (Q m) []) → ((m : ℕ) (next : TokenKind) (ts : Tokens) → P m next ts
    → kind_or next ts ≡ first_token_kind old → Q m next ts) → Refuses Q left e old new
refuses_given {P} {Q} {left} {e} {old} {new} r none f n = record {
  front = s.front;
  passed = s.passed;
  opens = s.opens;
  tells = λ m more t. by_tokens m more (s.tells m more t) (more_kind t) (s.front ++ more) refl;
}
  where
    s : StandsWhereStopped P left e old new
    s = r n

    -- a token of `more` is the next one
    more_kind : {m : ℕ} {more : Tokens} → TellsRefusal left e new m more → (next : TokenKind) (rest : Tokens) → s.front ≡ []
        → (more ≡ [] → ⊥) → kind_or next (more ++ rest) ≡ first_token_kind old
    more_kind (before h z) next rest q some = absurd (some z)
    more_kind (through t back d k h z) next rest q some =
        ap (λ (x : Tokens). kind_or next (x ++ rest)) z
        ∙ sym (ap first_token_kind (s.passed ∙ ap (λ (x : Tokens). x ++ new) q ∙ k))

    first : (next : TokenKind) (front more rest : Tokens) → s.front ≡ front → (front ++ more ≡ [] → ⊥)
        → ((front ≡ []) → (more ≡ [] → ⊥) → kind_or next (more ++ rest) ≡ first_token_kind old)
        → kind_or next ((front ++ more) ++ rest) ≡ first_token_kind old
    first next [] more rest q some k = k refl some
    first next (t ∷ front) more rest q some k = sym (ap first_token_kind (s.passed ∙ ap (λ (x : Tokens). x ++ new) q))

    by_tokens : (m : ℕ) (more : Tokens) → BeginsForm (P m) (s.front ++ more)
        → ((next : TokenKind) (rest : Tokens) → s.front ≡ [] → (more ≡ [] → ⊥)
        → kind_or next (more ++ rest) ≡ first_token_kind old) → (all : Tokens) → s.front ++ more ≡ all
        → BeginsForm (Q m) (s.front ++ more)
    by_tokens m more b k [] z = subst (λ (x : Tokens). BeginsForm (Q m) x) (sym z) (none m)
    by_tokens m more b k (t ∷ all) z = record { more = b.more; form = λ next. f m next ((s.front ++ more) ++ b.more) (b.form next) (first next s.front more b.more refl (λ y. let w : t ∷ all ≡ [] = sym z ∙ y in absurd (cc)) (k next b.more)) }

-- where the form may stand or not, it begins
pub begins_maybe : {A : Form} → BeginsForm (maybe A) []
begins_maybe = record { more = []; form = λ next. inl refl }

-- at least once is many
pub many_of : {A : Form} {next : TokenKind} {ts : Tokens} → (A ▸ many A) next ts → many A next ts
many_of h = (
  tt ∷ h.second.0,
  record
      { front = h.front; back = h.back; split = h.split; first = h.first; second = h.second.1 },
)

pub begins_some : {A : Form} {front : Tokens} → BeginsForm A front → BeginsForm (many A) front
begins_some {A} a = begins_map (begins_then a begins_no_more) (λ next ts h. many_of h)
