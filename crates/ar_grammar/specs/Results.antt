-- What reading a model says of the tokens, and which kinds end and begin the texts of instructions, bodies and items.
use Rattle.std.specs.Prelude.{◌≡◌, ℕ, ◌<◌, Bool, true, false, not, ◌||◌, ◌&&◌, ◌==◌, ℤ, pos, ◌≤ℤ◌, [], ◌∷◌, ◌++◌, Result, Ok, Err}
use Rattle.ar_lexer.specs.declared.token.TokenKind.{TokenKind}
use Rattle.ar_lexer.specs.declared.token.TokenKind.TheVariants.{Name, Whole, Sign, Reserved, End}
use Rattle.ar_lexer.specs.declared.signs.TheConstants.{OPEN_BRACE, CLOSE_BRACE, OPEN_PARENTHESIS, CLOSE_PARENTHESIS, SEMICOLON, COMMA, EQUALS, EXCLAMATION, QUESTION}
use Rattle.ar_lexer.specs.declared.words.TheConstants.{ASSERTION, BLOCK, BOOLEAN, CLASS, CLONES, DOMAIN, EMBEDS, END, EVENT, EXTENDS, HIDE, IF, MAIN, OBSERVER, OWNER, PARAMETER, SKIP, TRANSITION}
use Rattle.expression_grammar.specs.declared.lexeme.Refusal.{Refusal}
use Rattle.expression_grammar.specs.declared.lexeme.Refusal.TheVariants.{Syntax, Depth, Memory}
use Rattle.expression_grammar.specs.Words.{Tokens}
use Rattle.ar_grammar.specs.Texts.{IsSyntaxAt, IsDepthAt}
use Rattle.expression_grammar.specs.Results.{is_sign, is_word, is_name}

-- How a call with room for `left` open productions may end where the whole text has the nesting n: well, or by want of
-- room or of memory.
abbrev pub Gets : {A : Type 0} → ℕ → ℕ → Result A Refusal → Type 0
Gets left n (Ok x) = Unit {0}
Gets left n (Err Syntax) = ⊥
Gets left n (Err Depth) = left < n
Gets left n (Err Memory) = Unit {0}

-- no whole number among these tokens has a sign
abbrev pub AreUnsigned : Tokens → Type 0
AreUnsigned [] = Unit {0}
AreUnsigned (t ∷ ts) = ((n : ℤ) → t.kind ≡ Whole n → pos 0 ≤ℤ n) × AreUnsigned ts

-- A whole text is refused at `new`, and why.
abbrev pub IsRefusedAs : ℕ → Refusal → Tokens → Tokens → Type 0
IsRefusedAs n Syntax old new = (front : Tokens) × (old ≡ front ++ new) × IsSyntaxAt n front new
IsRefusedAs n Depth old new = (front : Tokens) × (old ≡ front ++ new) × IsDepthAt n front new
IsRefusedAs n Memory old new = Unit {0}

-- What ends a text: the kinds that do not go on with it

-- no comma
abbrev pub ends_names : TokenKind → Bool
ends_names k = not (is_sign COMMA k)

-- What begins a text

-- an instruction
abbrev pub begins_instr : TokenKind → Bool
begins_instr Name = true
begins_instr (Sign s) = s == OPEN_BRACE
begins_instr (Reserved w) = (w == OWNER) || (w == MAIN) || (w == SKIP) || (w == IF)
begins_instr _ = false

-- what stands behind the instructions of a group
abbrev pub ends_group : TokenKind → Bool
ends_group k = is_sign CLOSE_BRACE k

-- what goes on with an unread text, and with a kept value

abbrev pub goes_unread : TokenKind → Bool
goes_unread (Sign s) = not (s == CLOSE_PARENTHESIS)
goes_unread End = false
goes_unread _ = true

abbrev pub goes_kept : TokenKind → Bool
goes_kept (Sign s) = not (s == CLOSE_PARENTHESIS) && not (s == SEMICOLON)
goes_kept End = false
goes_kept _ = true

-- what stands behind an unread text
abbrev pub ends_unread : TokenKind → Bool
ends_unread k = is_sign CLOSE_PARENTHESIS k

-- what stands behind a kept value
abbrev pub ends_kept : TokenKind → Bool
ends_kept k = is_sign SEMICOLON k

-- what follows an event without an attribute
abbrev pub ends_attribute : TokenKind → Bool
ends_attribute k = not (is_sign OPEN_PARENTHESIS k)

-- what stands behind the last of a list that a semicolon ends
abbrev pub ends_semicolon : TokenKind → Bool
ends_semicolon k = is_sign SEMICOLON k

-- what stands behind the target of a setting
abbrev pub ends_target : TokenKind → Bool
ends_target k = is_sign EQUALS k

-- what begins no transition
abbrev pub ends_transitions : TokenKind → Bool
ends_transitions k = not (is_name k)

-- what begins no instruction
abbrev pub ends_assertions : TokenKind → Bool
ends_assertions k = not (begins_instr k)

-- a part of a synchronisation
abbrev pub begins_part : TokenKind → Bool
begins_part k = is_sign EXCLAMATION k || is_sign QUESTION k

-- a clause that begins with a reserved word
abbrev pub begins_keyed : TokenKind → Bool
begins_keyed (Reserved w) = (w == EXTENDS) || (w == BOOLEAN) || (w == BLOCK) || (w == CLONES) || (w == EMBEDS) ||
    (w == PARAMETER) || (w == EVENT) || (w == OBSERVER) || (w == HIDE)
begins_keyed _ = false

-- a member
abbrev pub begins_member : TokenKind → Bool
begins_member k = is_name k || begins_keyed k

-- a section
abbrev pub begins_section : TokenKind → Bool
begins_section k = is_word TRANSITION k || is_word ASSERTION k

-- a section or a clause that begins with a reserved word
abbrev pub begins_later : TokenKind → Bool
begins_later k = begins_section k || begins_keyed k

-- a body that is not empty
abbrev pub begins_body : TokenKind → Bool
begins_body k = begins_section k || begins_member k

-- what stands behind a body
abbrev pub ends_body : TokenKind → Bool
ends_body k = is_word END k

-- what stands behind the members before the first section
abbrev pub ends_members : TokenKind → Bool
ends_members k = begins_section k || is_word END k

-- what stands behind a section
abbrev pub ends_section : TokenKind → Bool
ends_section k = begins_later k || is_word END k

-- what follows an item
abbrev pub ends_item : TokenKind → Bool
ends_item k = not (is_sign SEMICOLON k)

-- an item
abbrev pub begins_item : TokenKind → Bool
begins_item k = is_word DOMAIN k || is_word CLASS k || is_word BLOCK k

abbrev pub is_end : TokenKind → Bool
is_end End = true
is_end _ = false
