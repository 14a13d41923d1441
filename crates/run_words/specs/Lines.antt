-- The program's command line, as one simple command of `clap`.
use Rattle.std.specs.Prelude.{List, [], ◌∷◌, Option, Some, None, true, codes, fold}
use Rattle.clap.specs.Lexer.{usize_max}
use Rattle.clap.specs.Simple.{on_top}
use Rattle.clap.specs.Words.{App, Row, Rule, Text, all_of, first_of, new_app, new_rule, with_rule}
use Rattle.clap.specs.declared.builder.range.ValueRange.{ValueRange}
use Rattle.clap.specs.declared.builder.action.ArgAction.TheVariants.{Set}

-- the word of the command, which must be there
abbrev pub command : Rule
command = record (new_rule (codes "command")) { required = true }

-- the files: any number of further words
abbrev pub any_number : ValueRange
any_number = record { start_inclusive = 0; end_inclusive = usize_max }

abbrev pub files : Rule
files = record (new_rule (codes "file")) { range = Some any_number }

-- an option with one value: `--NAME VALUE` or `--NAME=VALUE`
abbrev pub option : Text → Rule
option name = record (new_rule name) { long = Some name; action = Some Set }

-- the command without any argument yet, and without help and version flags
abbrev pub bare_command : App
bare_command = on_top (λ s. record s { disable_help_flag = true; disable_version_flag = true })
    (new_app (codes "altarica"))

-- the rules of the arguments: the command's word, the files, and the six options
abbrev pub rules : List Rule
rules = command ∷ files ∷ option (codes "main") ∷ option (codes "observer") ∷ option (codes "value")
    ∷ option (codes "nodes") ∷ option (codes "drop") ∷ option (codes "max-order") ∷ []

-- the program's command: one with these arguments, in their order
unfoldable pub program : App
program = fold with_rule bare_command rules

-- the words of `file`, none where it was not used
abbrev pub or_none : Option (List Text) → List Text
or_none None = []
or_none (Some words) = words

abbrev pub files_in : List Row → List Text
files_in rows = or_none (all_of (codes "file") rows)

-- what a command line says: the command's word, the files, and the value of each option that was used
pub record CommandWords : Type 0 where
  pub command : Option Text
  pub files : List Text
  pub main : Option Text
  pub observer : Option Text
  pub value : Option Text
  pub nodes : Option Text
  pub dropped : Option Text
  pub order : Option Text

abbrev pub command_words_of : List Row → CommandWords
command_words_of rows = record {
  command = first_of (codes "command") rows;
  files = files_in rows;
  main = first_of (codes "main") rows;
  observer = first_of (codes "observer") rows;
  value = first_of (codes "value") rows;
  nodes = first_of (codes "nodes") rows;
  dropped = first_of (codes "drop") rows;
  order = first_of (codes "max-order") rows;
}
