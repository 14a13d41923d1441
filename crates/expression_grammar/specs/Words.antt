-- The notation of the grammar: what a list of tokens is, before a token of some kind.
use Rattle.std.specs.Prelude.{◌≡◌, ◌≢◌, ℕ, ◌⊎◌, List, [], ◌∷◌, ◌++◌}
use Rattle.ar_base.specs.declared.places.Place.{Place}
use Rattle.ar_base.specs.declared.places.Span.{Span}
use Rattle.ar_lexer.specs.declared.token.TokenKind.{TokenKind}
use Rattle.ar_lexer.specs.declared.token.TokenKind.TheVariants.{Sign}
use Rattle.expression_grammar.specs.declared.lexeme.Lexeme.{Lexeme}

abbrev pub Tokens : Type 0
Tokens = List Lexeme

-- A form of texts: which tokens have it, before a token of this kind. Only an `if` without `else` looks at what
-- follows.
abbrev pub Form : Type 1
Form = TokenKind → Tokens → Type 0

-- the kind of the first token, or of what follows where there is none
abbrev pub kind_or : TokenKind → Tokens → TokenKind
kind_or next [] = next
kind_or next (t ∷ ts) = t.kind

-- one token of this kind
pub record token (kind next : TokenKind) (ts : Tokens) : Type 0 where
  pub one : Lexeme
  pub alone : ts ≡ one ∷ []
  pub of_kind : one.kind ≡ kind

-- first the one form and then the other
pub record InTurn (A B : Form) (next : TokenKind) (ts : Tokens) : Type 0 where
  pub front : Tokens
  pub back : Tokens
  pub split : ts ≡ front ++ back
  pub first : A (kind_or next back) front
  pub second : B next back

infixr 5 ◌▸◌
abbrev pub ◌▸◌ : Form → Form → Form
A ▸ B = InTurn A B

-- no token
abbrev pub nothing : Form
nothing next ts = ts ≡ []

-- no token, and none of this kind follows
pub record not_before (kind next : TokenKind) (ts : Tokens) : Type 0 where
  pub empty : ts ≡ []
  pub other : next ≢ kind

-- no text
abbrev pub never : Form
never next ts = ⊥

-- the kind that no token of a text has
abbrev pub no_kind : TokenKind
no_kind = Sign 256

-- in what only begins a text, a production that would open too deep
abbrev pub deep : Form
deep = token no_kind

-- { x }
abbrev pub each : {A : Type 0} → (A → Form) → List A → Form
each One [] = nothing
each One (x ∷ xs) = One x ▸ each One xs

-- x { separator x }
abbrev pub separated_by : {A : Type 0} → TokenKind → (A → Form) → List A → Form
separated_by separator One [] = never
separated_by separator One (x ∷ xs) = One x ▸ each (λ y. token separator ▸ One y) xs

-- the form of some value
abbrev pub ReadsSome : {A : Type 0} → (A → Form) → Form
ReadsSome One next ts = (x : _) × One x next ts

-- the place of the first token
abbrev pub StandsAt : Place → Tokens → Type 0
StandsAt at [] = ⊥
StandsAt at (t ∷ ts) = at ≡ t.at

-- the place of the first token; the end of the text where there is none
abbrev pub place_at : Place → Tokens → Place
place_at end [] = end
place_at end (t ∷ ts) = t.at

-- this form, from this place on
pub record standing (at : Place) (A : Form) (next : TokenKind) (ts : Tokens) : Type 0 where
  pub there : StandsAt at ts
  pub form : A next ts

-- the form between two tokens of these kinds
abbrev pub between : TokenKind → TokenKind → Form → Form
between opens closes A = token opens ▸ A ▸ token closes

-- the one form or the other
infixr 4 ◌∣◌
abbrev pub ◌∣◌ : Form → Form → Form
(A ∣ B) next ts = A next ts ⊎ B next ts

-- { x }, where the values play no part
abbrev pub many : Form → Form
many A = ReadsSome {A = List (Unit {0})} (each (λ _. A))

abbrev pub concat : {A : Type 0} → List (List A) → List A
concat [] = []
concat (xs ∷ more) = xs ++ concat more

-- { group }, where each group has values of its own
pub record groups {A : Type 0} (One : List A → Form) (xs : List A) (next : TokenKind) (ts : Tokens) : Type 0 where
  pub parts : List (List A)
  pub all : xs ≡ concat parts
  pub are : each One parts next ts

-- From the first token to the last

abbrev pub end_of_tokens : ℕ → Tokens → ℕ
end_of_tokens n [] = n
end_of_tokens n (t ∷ ts) = end_of_tokens t.span.to ts

-- the span of these tokens, which is from 0 to 0 where there are none
abbrev pub IsSpanOf : Span → Tokens → Type 0
IsSpanOf span [] = (span.from ≡ 0) × (span.to ≡ 0)
IsSpanOf span (t ∷ ts) = (span.from ≡ t.span.from) × (span.to ≡ end_of_tokens t.span.to ts)

-- this form, with this span
pub record covering (span : Span) (A : Form) (next : TokenKind) (ts : Tokens) : Type 0 where
  pub span_is : IsSpanOf span ts
  pub form : A next ts
