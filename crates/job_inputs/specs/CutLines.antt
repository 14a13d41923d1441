-- The lines of a list of cuts, and the texts of their labels.
use Rattle.std.specs.Prelude.{◌≡◌, ◌-◌, ◌||◌, ◌&&◌, ℕ, Bool, true, not, if◌then◌else◌, List, [], ◌++◌, map, take, drop, length, codes, nat_eq}
use Rattle.std.specs.List.{starts_with, prefix_len, suffix_len, list_all}
use Rattle.job_inputs.specs.Lines.{is_mark, is_space_or_tab, is_some_word, pieces, without_return, line_said, Skipped}

-- the text without the spaces and tabs at its start
abbrev pub from_word : List ℕ → List ℕ
from_word text = drop (prefix_len is_space_or_tab text) text

-- the text without the spaces and tabs at its end
abbrev pub up_to_word : List ℕ → List ℕ
up_to_word text = take (length text - suffix_len is_space_or_tab text) text

-- the text without the spaces and tabs at both ends
abbrev pub trimmed : List ℕ → List ℕ
trimmed text = up_to_word (from_word text)

-- a line without the carriage return at its end, and then trimmed
abbrev pub trimmed_line : List ℕ → List ℕ
trimmed_line line = trimmed (without_return line)

-- a line that is skipped: one that a script skips, or one that begins with `count`
pub data IsPassed (line : List ℕ) : Type 0 where
  skipped : line_said line ≡ Skipped → IsPassed line
  counts : starts_with nat_eq (trimmed_line line) (codes "count") ≡ true → IsPassed line

-- a comma
abbrev pub is_comma : ℕ → Bool
is_comma b = is_mark 44 b

-- a byte of a label: no comma, no brace, no space and no tab
abbrev pub is_of_label : ℕ → Bool
is_of_label b = not (is_comma b || is_mark 123 b || is_mark 125 b || is_space_or_tab b)

-- a nonempty run of such bytes
abbrev pub is_label : List ℕ → Bool
is_label text = is_some_word text && list_all is_of_label text

-- the texts between the commas, each without the spaces and tabs round it; none where nothing else stands there
abbrev pub texts_in : List ℕ → List (List ℕ)
texts_in inner = if is_some_word (trimmed inner) then map trimmed (pieces is_comma inner) else []

-- the line is `{`, these labels separated by commas, or none, and `}`, with spaces and tabs free round each
pub record IsCutLine (line : List ℕ) (labels : List (List ℕ)) : Type 0 where
  pub inner : List ℕ
  pub braces : trimmed_line line ≡ codes "{" ++ (inner ++ codes "}")
  pub texts : labels ≡ texts_in inner
  pub are_labels : list_all is_label labels ≡ true
