-- The lines of a script, and what each says.
use Rattle.std.specs.Prelude.{ℕ, ◌==◌, ◌||◌, Bool, true, false, if◌then◌else◌, List, [], ◌∷◌, filter, nat_eq, codes}
use Rattle.std.specs.List.{starts_with}
use Rattle.std.specs.Str.{bytes_eq}

-- Lines and words

-- the byte in front of the first piece
abbrev pub onto_first : ℕ → List (List ℕ) → List (List ℕ)
onto_first b [] = (b ∷ []) ∷ []
onto_first b (piece ∷ more) = (b ∷ piece) ∷ more

-- the pieces between the bytes that pass the test
abbrev pub pieces : (ℕ → Bool) → List ℕ → List (List ℕ)
pieces cuts [] = [] ∷ []
pieces cuts (b ∷ bs) = if cuts b then [] ∷ pieces cuts bs else onto_first b (pieces cuts bs)

-- this mark
abbrev pub is_mark : ℕ → ℕ → Bool
is_mark mark b = b == mark

-- a line feed
abbrev pub ends_line : ℕ → Bool
ends_line b = is_mark 10 b

-- the lines, each ended by a line feed or by the end of the text
abbrev pub lines_of : List ℕ → List (List ℕ)
lines_of script = pieces ends_line script

-- the line without a carriage return at its end
abbrev pub without_return : List ℕ → List ℕ
without_return [] = []
without_return (b ∷ []) = if b == 13 then [] else b ∷ []
without_return (b ∷ c ∷ bs) = b ∷ without_return (c ∷ bs)

-- a space or a tab
abbrev pub is_space_or_tab : ℕ → Bool
is_space_or_tab b = (b == 32) || (b == 9)

-- not empty
abbrev pub is_some_word : List ℕ → Bool
is_some_word [] = false
is_some_word (b ∷ bs) = true

-- the words between spaces and tabs
abbrev pub words_of : List ℕ → List (List ℕ)
words_of line = filter is_some_word (pieces is_space_or_tab line)

-- What a line says

-- a skipped line, a command, or none
pub data ScriptLine : Type 0 where
  Skipped : ScriptLine
  Fires : (label : List ℕ) → ScriptLine
  GoesBack : ScriptLine
  Shows : ScriptLine
  ListsEnabled : ScriptLine
  NoCommand : ScriptLine

-- `back`, `show` or `enabled`
abbrev pub word_said : List ℕ → ScriptLine
word_said word =
    if bytes_eq word (codes "back") then GoesBack
    else (if bytes_eq word (codes "show") then Shows
    else (if bytes_eq word (codes "enabled") then ListsEnabled else NoCommand))

-- one of these alone, or `fire` with one label
abbrev pub command_said : List ℕ → List (List ℕ) → ScriptLine
command_said word [] = word_said word
command_said word (label ∷ []) = if bytes_eq word (codes "fire") then Fires label else NoCommand
command_said word (label ∷ more ∷ words) = NoCommand

-- nothing where there is no word, or where the first one begins with `//`
abbrev pub words_said : List (List ℕ) → ScriptLine
words_said [] = Skipped
words_said (word ∷ words) = if starts_with nat_eq word (codes "//") then Skipped else command_said word words

-- what a line says
abbrev pub line_said : List ℕ → ScriptLine
line_said line = words_said (words_of (without_return line))
