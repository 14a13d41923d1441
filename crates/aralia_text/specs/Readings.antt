-- Which text is that of which table.
use Rattle.std.specs.Prelude.{◌≡◌, ◌<◌, ◌≤◌, ℕ, ◌+◌, Bool, true, ◌||◌, ◌==◌, List, ◌++◌, length, take}
use Rattle.std.specs.Char.{is_ascii_digit, is_ascii_alphabetic}
use Rattle.std.specs.List.{AllByRecursion}
use Rattle.ar_base.specs.declared.places.Place.{Place}
use Rattle.ar_base.specs.Lists.{Stands, IsOneOf}
use Rattle.ar_lexer.specs.Tokens.{place_after}
use Rattle.eq_core.specs.Gates.{Operand, Always, Never, EventIs, GateIs, Gate, Table}
use Rattle.eq_core.specs.Ordered.{IsOrderedTable}
use Rattle.aralia_text.specs.Texts.{equations_text}

-- a letter, a digit, `_` or `.`
abbrev pub is_path_byte : ℕ → Bool
is_path_byte b = is_ascii_alphabetic b || is_ascii_digit b || (b == 95) || (b == 46)

-- letters, digits, `_` and `.`
abbrev pub IsPath : List ℕ → Type 0
IsPath = AllByRecursion (λ b. is_path_byte b ≡ true)

-- the event of this number has a text, of letters, digits, `_` and `.`
pub record HasPathText (events : List (List ℕ)) (e : ℕ) : Type 0 where
  pub path : List ℕ
  pub stands : Stands events e path
  pub is_path : IsPath path

-- an event that the operand names has such a text
abbrev pub HasEventText : List (List ℕ) → Operand → Type 0
HasEventText events Always = Unit {0}
HasEventText events Never = Unit {0}
HasEventText events (EventIs e sign) = HasPathText events e
HasEventText events (GateIs g sign) = Unit {0}

-- each operand of the gate names such an event, if any
pub record HaveEventTexts (events : List (List ℕ)) (gate : Gate) : Type 0 where
  pub each : (o : Operand) → IsOneOf gate.operands o → HasEventText events o

-- the text is that of this table: the table's gates are in order, all its events have texts of letters, digits, `_` and
-- `.`, and it is written so
pub record IsTextOf (events : List (List ℕ)) (text : List ℕ) (table : Table) : Type 0 where
  pub ordered : IsOrderedTable table
  pub gates : (n : ℕ) (gate : Gate) → Stands table.gates n gate → HaveEventTexts events gate
  pub conflict : HasEventText events table.conflict
  pub top : HasEventText events table.top
  pub is_text : text ≡ equations_text events table

-- some text of a table has this first part
abbrev pub BeginsTable : List (List ℕ) → List ℕ → Type 0
BeginsTable events front = (table : Table) × (more : List ℕ) × IsTextOf events (front ++ more) table

-- The first so many bytes of the text are the first part of a text of a table. With the next byte they are that of
-- none, or the text ends there and is that of no table.
pub record IsFirstWrong (events : List (List ℕ)) (text : List ℕ) (k : ℕ) : Type 0 where
  pub within : k ≤ length text
  pub begins : BeginsTable events (take k text)
  pub wrong : k < length text → BeginsTable events (take (k + 1) text) → ⊥
  pub open_end : k ≡ length text → (table : Table) → IsTextOf events text table → ⊥

-- the place of the first byte with which no text of a table goes on, or of the end where only that is wrong
pub record IsWrongPlace (events : List (List ℕ)) (text : List ℕ) (place : Place) : Type 0 where
  pub at : ℕ
  pub first : IsFirstWrong events text at
  pub place_is : place ≡ place_after (take at text)

-- the texts are of letters, digits, `_` and `.`
pub record ArePaths (events : List (List ℕ)) : Type 0 where
  pub each : (e : ℕ) (path : List ℕ) → Stands events e path → IsPath path

-- an event that the operand names is one of so many
abbrev pub NamesOneOf : ℕ → Operand → Type 0
NamesOneOf n Always = Unit {0}
NamesOneOf n Never = Unit {0}
NamesOneOf n (EventIs e sign) = e < n
NamesOneOf n (GateIs g sign) = Unit {0}

-- every event that the table names has a text
pub record NamesTextedEvents (events : List (List ℕ)) (table : Table) : Type 0 where
  pub gates : (n : ℕ) (gate : Gate) (o : Operand) → Stands table.gates n gate → IsOneOf gate.operands o
      → NamesOneOf (length events) o
  pub conflict : NamesOneOf (length events) table.conflict
  pub top : NamesOneOf (length events) table.top
