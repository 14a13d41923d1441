-- Definitions beside those of Models, of which clauses inside the program speak: what the whole program promises does
-- not rest on them.
use Rattle.std.specs.Prelude.{ℕ, ◌<◌, Result, Ok, Err}
use Rattle.ar_lexer.specs.declared.token.LexFault.TheVariants.{Memory}
use Rattle.ar_parser.specs.declared.fault.ParseFault.{ParseFault}
use Rattle.ar_parser.specs.declared.fault.ParseFault.TheVariants as fault

-- How a call with room for `left` open productions may end where the text has a tree of nesting n: well, or by want of
-- room or of memory.
abbrev pub EndsWithin : {A : Type 0} → ℕ → ℕ → Result A ParseFault → Type 0
EndsWithin left n (Ok x) = Unit {0}
EndsWithin left n (Err (fault.Lex at)) = ⊥
EndsWithin left n (Err (fault.Syntax at)) = ⊥
EndsWithin left n (Err (fault.Depth at)) = left < n
EndsWithin left n (Err fault.Memory) = Unit {0}
