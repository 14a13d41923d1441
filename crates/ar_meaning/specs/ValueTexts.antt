-- The text of a value.
use Rattle.std.specs.Prelude.{ℕ, List}
use Rattle.std.specs.Fmt.{signed_decimal}
use Rattle.ar_base.specs.Texts.{text_at, truth_text}
use Rattle.domains.specs.declared.Value.{Value}
use Rattle.domains.specs.declared.Value.TheVariants.{Truth, Whole, Symbol}

-- a value: `true`, `false`, a number, or a symbol's name, where these are the names of the symbols by number
abbrev pub value_text : List (List ℕ) → Value → List ℕ
value_text symbols (Truth b) = truth_text b
value_text symbols (Whole n) = signed_decimal n
value_text symbols (Symbol n) = text_at symbols n
