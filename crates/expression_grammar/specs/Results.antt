-- What a function of the parser says of the tokens that it takes.
use Rattle.std.specs.Prelude.{◌≡◌, ◌≢◌, ℕ, ◌<◌, ◌+◌, Bool, true, false, not, ◌||◌, ◌&&◌, ◌==◌, [], ◌∷◌, ◌++◌, Result, Ok, Err, IfOk, IfErr}
use Rattle.ar_lexer.specs.declared.token.TokenKind.{TokenKind}
use Rattle.ar_lexer.specs.declared.token.TokenKind.TheVariants.{Name, Whole, Real, Sign, Reserved, End}
use Rattle.ar_lexer.specs.declared.signs.TheConstants.{OPEN_PARENTHESIS, CLOSE_PARENTHESIS, DOT, EQUAL, DIFFERS, LESS, AT_MOST, MORE, AT_LEAST, PLUS, MINUS, STAR}
use Rattle.ar_lexer.specs.declared.words.TheConstants.{AND, COUNT, DEFAULT, FALSE, IF, MAIN, MAX, MIN, NOT, OR, OWNER, SWITCH, TRUE}
use Rattle.expression_grammar.specs.declared.lexeme.Lexeme.{Lexeme}
use Rattle.expression_grammar.specs.declared.lexeme.Refusal.{Refusal}
use Rattle.expression_grammar.specs.declared.lexeme.Refusal.TheVariants.{Syntax, Depth, Memory}
use Rattle.expression_grammar.specs.Words.{Form, Tokens, kind_or, no_kind}

-- the kind of the first token; the end of the text where there is none
abbrev pub first_token_kind : Tokens → TokenKind
first_token_kind = kind_or End

-- The front of the tokens that was taken has this form.
pub record Spans (A : Form) (old new : Tokens) : Type 0 where
  pub front : Tokens
  pub split : old ≡ front ++ new
  pub form : A (first_token_kind new) front

-- What was taken is of the value that is answered.
abbrev pub TakesTokens : {A : Type 0} → (A → Form) → Result A Refusal → Tokens → Tokens → Type 0
TakesTokens One result old new = IfOk result (λ x. Spans (One x) old new)

-- How a call with room for `left` open productions may end where a text of nesting n goes to `after`: there, or by
-- want of room or of memory.
abbrev pub Arrives : {A : Type 0} → ℕ → ℕ → Result A Refusal → Tokens → Tokens → Type 0
Arrives left n (Ok x) new after = new ≡ after
Arrives left n (Err Syntax) new after = ⊥
Arrives left n (Err Depth) new after = left < n
Arrives left n (Err Memory) new after = Unit {0}

-- none of these tokens has the kind that no token of a text has
abbrev pub Plain : Tokens → Type 0
Plain [] = Unit {0}
Plain (t ∷ ts) = (t.kind ≢ no_kind) × Plain ts

-- The call stands at `new`. Whatever stood there in its place, if its first token had the same kind: a front of this
-- form, of any nesting, with what ends it behind it, would end right there.
pub record FindsRefusal {A : Type 0} (P : ℕ → Form) (ends : TokenKind → Bool) (left : ℕ) (result : Result A Refusal)
    (old new : Tokens) : Type 0 where
  pub front : Tokens
  pub passed : old ≡ front ++ new
  pub only : Plain old → (n : ℕ) (other ts after : Tokens) → first_token_kind other ≡ first_token_kind new → P n (first_token_kind after) ts
      → front ++ other ≡ ts ++ after → ends (first_token_kind after) ≡ true → Arrives left n result other after

-- Some text of this form begins with these tokens, whatever follows it.
pub record BeginsForm (A : Form) (front : Tokens) : Type 0 where
  pub more : Tokens
  pub form : (next : TokenKind) → A next (front ++ more)

-- What a refusal at `new` with room for `left` open productions tells of the tokens passed, with `more` of the next
-- ones:
-- that they begin a text with at most m open.
pub data TellsRefusal (left : ℕ) (e : Refusal) (new : Tokens) (m : ℕ) (more : Tokens) : Type 0 where
  before : m ≡ left → more ≡ [] → TellsRefusal left e new m more
  through : (t : Lexeme) (rest : Tokens) → e ≡ Depth → new ≡ t ∷ rest → m ≡ left + 3 → more ≡ t ∷ []
      → TellsRefusal left e new m more

-- A refusal stands where the call stopped: what was passed begins a text of this form with no token that opens a
-- production too deep, and at Depth some text of the form goes on with the next token.
pub record StandsWhereStopped (P : ℕ → Form) (left : ℕ) (e : Refusal) (old new : Tokens) : Type 0 where
  pub front : Tokens
  pub passed : old ≡ front ++ new
  pub opens : e ≡ Depth → new ≢ []
  pub tells : (m : ℕ) (more : Tokens) → TellsRefusal left e new m more → BeginsForm (P m) (front ++ more)

-- so it is with each refusal but for want of memory
abbrev pub Refuses : (ℕ → Form) → ℕ → Refusal → Tokens → Tokens → Type 0
Refuses P left e old new = e ≢ Memory → StandsWhereStopped P left e old new

abbrev pub Halts : {A : Type 0} → (ℕ → Form) → ℕ → Result A Refusal → Tokens → Tokens → Type 0
Halts P left result old new = IfErr result (λ e. Refuses P left e old new)

-- a token of this kind is gone
pub record Eats (kind : TokenKind) (old new : Tokens) : Type 0 where
  pub one : Lexeme
  pub split : old ≡ one ∷ new
  pub of_kind : one.kind ≡ kind

-- What ends a text: the kinds that do not go on with it

-- the sign of this number
abbrev pub is_sign : ℕ → TokenKind → Bool
is_sign n (Sign m) = m == n
is_sign n _ = false

-- the reserved word of this number
abbrev pub is_word : ℕ → TokenKind → Bool
is_word n (Reserved m) = m == n
is_word n _ = false

-- any kind: what looks at no token behind it
abbrev pub anything : TokenKind → Bool
anything k = true

abbrev pub is_name : TokenKind → Bool
is_name Name = true
is_name _ = false

-- no dot
abbrev pub ends_path : TokenKind → Bool
ends_path k = not (is_sign DOT k)

-- what goes on with neither a path nor a product
abbrev pub ends_product : TokenKind → Bool
ends_product k = ends_path k && not (is_sign STAR k)

-- `+` or `-`
abbrev pub begins_term : TokenKind → Bool
begins_term k = is_sign PLUS k || is_sign MINUS k

-- what goes on with no sum either
abbrev pub ends_sum : TokenKind → Bool
ends_sum k = ends_product k && not (begins_term k)

-- a sign that compares
abbrev pub is_relation : TokenKind → Bool
is_relation k = is_sign EQUAL k || (is_sign DIFFERS k ||
    (is_sign LESS k || (is_sign AT_MOST k || (is_sign MORE k || is_sign AT_LEAST k))))

-- what goes on with no comparison either
abbrev pub ends_not : TokenKind → Bool
ends_not k = ends_sum k && not (is_relation k)

-- what goes on with no chain of `and` either
abbrev pub ends_and : TokenKind → Bool
ends_and k = ends_not k && not (is_word AND k)

-- what goes on with no expression
abbrev pub ends_expr : TokenKind → Bool
ends_expr k = ends_and k && not (is_word OR k)

-- What begins a text

-- a name, `owner` or `main`
abbrev pub begins_path : TokenKind → Bool
begins_path Name = true
begins_path (Reserved w) = (w == OWNER) || (w == MAIN)
begins_path _ = false

-- a constant, a path, a call, a choice or a bracket
abbrev pub begins_primary : TokenKind → Bool
begins_primary Name = true
begins_primary (Whole n) = true
begins_primary Real = true
begins_primary (Sign s) = s == OPEN_PARENTHESIS
begins_primary (Reserved w) = (w == OWNER) || (w == MAIN) || (w == TRUE) || (w == FALSE) || (w == MIN) || (w == MAX) ||
    (w == COUNT) || (w == SWITCH)
begins_primary End = false

-- an operand of a product
abbrev pub begins_minus : TokenKind → Bool
begins_minus k = is_sign MINUS k || begins_primary k

-- an operand of `and`
abbrev pub begins_not : TokenKind → Bool
begins_not k = is_word NOT k || begins_minus k

-- an expression
abbrev pub begins_expr : TokenKind → Bool
begins_expr k = is_word IF k || begins_not k

-- what stands behind the operands of a call
abbrev pub ends_list : TokenKind → Bool
ends_list k = is_sign CLOSE_PARENTHESIS k

-- what stands behind the cases of a choice
abbrev pub ends_cases : TokenKind → Bool
ends_cases k = is_word DEFAULT k
