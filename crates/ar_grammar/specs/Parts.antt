-- The texts that single calls take, with at most n productions open at one token. Where one more would open stands one
-- token `deep`.
use Rattle.std.specs.Prelude.{ℕ}
use Rattle.ar_lexer.specs.declared.token.TokenKind.TheVariants.{Name, Sign, Reserved}
use Rattle.ar_lexer.specs.declared.signs.TheConstants.{OPEN_BRACE, CLOSE_BRACE, OPEN_BRACKET, CLOSE_BRACKET, COMMA, SEMICOLON, EQUALS, ARROW, AMPERSAND}
use Rattle.ar_lexer.specs.declared.words.TheConstants.{AS, BOOLEAN, CLONES, EMBEDS, EXTENDS, OBSERVER, PARAMETER, REAL}
use Rattle.expression_grammar.specs.Words.{Form, token, deep, ◌▸◌, ◌∣◌, many, between}
use Rattle.expression_grammar.specs.Texts.{one_of, list_of, maybe, path_tokens, expr_tokens, names_tokens}
use Rattle.ar_grammar.specs.Texts.{instr_tokens, is_type, is_unread, is_kept, bracketed_tokens, kept_tokens, declared_rest, valued_tokens, is_part, transition_tokens, section_tokens, unit_tokens, keyed_tokens, body_tokens, bound_tokens}

-- Unread and kept texts, piece by piece, and an event

abbrev pub unread_tokens : ℕ → Form
unread_tokens n = one_of is_unread ∣ bracketed_tokens deep n

abbrev pub attribute_tokens : ℕ → Form
attribute_tokens n = maybe (bracketed_tokens deep n)

abbrev pub kept_piece_tokens : ℕ → Form
kept_piece_tokens n = one_of is_kept ∣ bracketed_tokens deep n

abbrev pub event_tokens : ℕ → Form
event_tokens n = token Name ▸ attribute_tokens n

-- Transitions and sections

abbrev pub part_tokens : Form
part_tokens = one_of is_part ▸ path_tokens

abbrev pub parts_tokens : Form
parts_tokens = list_of (Sign AMPERSAND) part_tokens ▸ token (Sign SEMICOLON)

abbrev pub guarded_tokens : ℕ → Form
guarded_tokens n = expr_tokens deep n ▸ token (Sign ARROW) ▸ instr_tokens deep n

abbrev pub transition_form : ℕ → Form
transition_form n = transition_tokens (expr_tokens deep n) (instr_tokens deep n)

abbrev pub section_of : ℕ → Form
section_of n = section_tokens (expr_tokens deep n) (instr_tokens deep n)

-- Clauses that make one member

abbrev pub declaration_tokens : ℕ → Form
declaration_tokens n = one_of is_type ▸ declared_rest (expr_tokens deep n)

abbrev pub alias_tokens : Form
alias_tokens = path_tokens ▸ between (Reserved AS) (Sign SEMICOLON) (token Name)

abbrev pub value_tokens : ℕ → Form
value_tokens n = valued_tokens (expr_tokens deep n)

abbrev pub kept_value_tokens : ℕ → Form
kept_value_tokens n = token (Reserved REAL) ▸ token Name ▸ between (Sign EQUALS) (Sign SEMICOLON)
    (kept_tokens (bracketed_tokens deep n))

abbrev pub parameter_tokens : ℕ → Form
parameter_tokens n = token (Reserved PARAMETER) ▸ (kept_value_tokens n ∣ value_tokens n)

abbrev pub single_tokens : ℕ → Form
single_tokens n =
    (token (Reserved EXTENDS) ▸ token Name ▸ token (Sign SEMICOLON))
    ∣ (token (Reserved BOOLEAN) ▸ declared_rest (expr_tokens deep n))
    ∣ (token (Reserved CLONES) ▸ alias_tokens)
    ∣ (token (Reserved EMBEDS) ▸ alias_tokens)
    ∣ (token (Reserved OBSERVER) ▸ value_tokens n)
    ∣ parameter_tokens n

-- Bodies

abbrev pub unit_of : ℕ → Form
unit_of n = unit_tokens (body_tokens deep n)

abbrev pub keyed_of : ℕ → Form
keyed_of n = keyed_tokens (expr_tokens deep n) (bracketed_tokens deep n) (body_tokens deep n)

abbrev pub member_tokens : ℕ → Form
member_tokens n = keyed_of n ∣ (token Name ▸ declared_rest (expr_tokens deep n))

abbrev pub later_tokens : ℕ → Form
later_tokens n = section_of n ∣ keyed_of n

abbrev pub sections_tokens : ℕ → Form
sections_tokens n = maybe (section_of n ▸ many (later_tokens n))

abbrev pub inside_body : ℕ → Form
inside_body n = many (member_tokens n) ▸ sections_tokens n

-- What a domain holds

abbrev pub domain_body_tokens : Form
domain_body_tokens =
    between (Sign OPEN_BRACE) (Sign CLOSE_BRACE) names_tokens
    ∣ (between (Sign OPEN_BRACKET) (Sign COMMA) bound_tokens ▸ bound_tokens ▸ token (Sign CLOSE_BRACKET))
