-- What the code's lines and labels say, and how far a script is read.
use Rattle.std.specs.Prelude.{◌≡◌, ◌==◌, ◌||◌, ◌+◌, ◌<◌, ◌≤◌, ℕ, Bool, true, false, List, [], ◌∷◌, ◌++◌, decimal, length, slice_get, Option, Some, None, Result, Ok, Err, Vec}
use Rattle.std.specs.Global.{Global}
use denote.Bor.{Bor}
use Rattle.ar_base.specs.Lists.{Stands}
use Rattle.ar_base.specs.Numbers.{NameId, WayId}
use Rattle.ar_base.specs.NumbersInside.{EventId}
use Rattle.ar_meaning.specs.Runs.{Command, Label}
use Rattle.gts_core.specs.declared.system.Event.{Event}
use Rattle.gts_core.specs.declared.system.GtsParts.{GtsParts}
use Rattle.gts_flatten.specs.Elaborating.{Elaborated}
use Rattle.hierarchy.specs.Units.{numbers}
use Rattle.text_pieces.specs.WayLabels.{numbered_label, ways_found}
use Rattle.job_inputs.specs.Labels.{is_dot, Spells, NamesEvent, NamesVisible, IsLabel, NeedsWay}
use Rattle.job_inputs.specs.Lines.{ScriptLine, Skipped, Fires, GoesBack, Shows, ListsEnabled, NoCommand, pieces, lines_of}
use Rattle.job_inputs.specs.Scripts.{IsBad, IsNoCommand, LacksWay, NamesNoEvent, Why, GivesCommands}
use Rattle.job_inputs.specs.declared.faults.ScriptFault.{ScriptFault}
use Rattle.job_inputs.specs.declared.faults.ScriptFault.TheVariants as fault
use Rattle.job_inputs.specs.declared.lines.Line as code
use Rattle.job_inputs.specs.declared.script_labels.Counted.{Counted}
use Rattle.job_inputs.specs.declared.script_labels.Counted.TheVariants as count
use Rattle.job_inputs.specs.declared.lines.Line.TheVariants as lines

-- the code's line says this
abbrev pub IsLineSaid : code.Line → ScriptLine → Type 0
IsLineSaid lines.Skipped said = said ≡ Skipped
IsLineSaid (lines.Fires label) said = said ≡ Fires label.now
IsLineSaid lines.GoesBack said = said ≡ GoesBack
IsLineSaid lines.Shows said = said ≡ Shows
IsLineSaid lines.ListsEnabled said = said ≡ ListsEnabled
IsLineSaid lines.NoCommand said = said ≡ NoCommand

-- the lines that are left to read
abbrev pub lines_left : Option (Bor (List ℕ)) → List (List ℕ)
lines_left None = []
lines_left (Some rest) = lines_of rest.now

-- how many bytes are left, and one more where any line is
abbrev pub bytes_left : Option (Bor (List ℕ)) → ℕ
bytes_left None = 0
bytes_left (Some rest) = length rest.now + 1

-- Numbers of ways

-- the text has a `#`
abbrev pub has_mark : List ℕ → Bool
has_mark [] = false
has_mark (b ∷ bs) = (b == 35) || has_mark bs

-- Paths

-- the names that a text spells, or none where it spells no names
abbrev pub AnswersNames : List (List ℕ) → List ℕ → Option (Vec NameId Global) → Type 0
AnswersNames table text (Some names) = Spells table text (numbers names.items)
AnswersNames table text None = (names : List ℕ) → Spells table text names → ⊥

-- the event that a text names, or none
abbrev pub AnswersEvent : Elaborated → List ℕ → Option EventId → Type 0
AnswersEvent x text (Some e) = NamesEvent x text e.n × ((f : ℕ) → NamesEvent x text f → f ≡ e.n)
AnswersEvent x text None = (f : ℕ) → NamesEvent x text f → ⊥

-- the event, which is visible, and how many ways it has; no other is named
pub record IsVisible (x : Elaborated) (p : GtsParts) (text : List ℕ) (e : EventId) : Type 0 where
  pub names : NamesVisible x text e.n (ways_found (slice_get p.events.items e.n))
  pub one : (f ways : ℕ) → NamesVisible x text f ways → (f ≡ e.n) × (ways ≡ ways_found (slice_get p.events.items e.n))

-- the visible event that a text names, or none
abbrev pub AnswersVisible : Elaborated → GtsParts → List ℕ → Option EventId → Type 0
AnswersVisible x p text (Some e) = IsVisible x p text e
AnswersVisible x p text None = (f ways : ℕ) → NamesVisible x text f ways → ⊥

-- the event, unless it is hidden
abbrev pub IsUnlessHidden : GtsParts → EventId → Option EventId → Type 0
IsUnlessHidden p e (Some f) = (f ≡ e) × ((v : Event) × Stands p.events.items e.n v × (v.hidden ≡ false))
IsUnlessHidden p e None = (v : Event) → Stands p.events.items e.n v → v.hidden ≡ true

-- how many ways an event has, and its way where it is the only one
abbrev pub IsWayCount : GtsParts → EventId → Counted → Type 0
IsWayCount p e count.None = ways_found (slice_get p.events.items e.n) ≡ 0
IsWayCount p e (count.One w) = (v : Event) × Stands p.events.items e.n v × (v.ways.items ≡ w ∷ [])
IsWayCount p e count.Many = 2 ≤ ways_found (slice_get p.events.items e.n)

-- the way has the number, from 1, that the digits write, among those of the event
abbrev pub IsNumberedWay : GtsParts → EventId → List ℕ → WayId → Type 0
IsNumberedWay p e digits w = (v : Event) × (i : ℕ) × (digits ≡ decimal (i + 1)) × Stands p.events.items e.n v
    × Stands v.ways.items i w

-- no way has the number that the digits write
abbrev pub IsNoWayOf : GtsParts → EventId → List ℕ → Type 0
IsNoWayOf p e digits = (i : ℕ) → digits ≡ decimal (i + 1) → i < ways_found (slice_get p.events.items e.n) → ⊥

-- Labels

-- the way that a label names, or the fault of its line
abbrev pub AnswersLabel : Elaborated → GtsParts → List ℕ → ℕ → Result WayId ScriptFault → Type 0
AnswersLabel x p label number (Ok w) =
    IsLabel x label (numbered_label p w.n) × (w.n < length p.ways.items) × (NeedsWay x label → ⊥)
AnswersLabel x p label number (Err (fault.Which n)) = (n ≡ number) × NeedsWay x label
AnswersLabel x p label number (Err (fault.Unknown n)) =
    (n ≡ number) × (NeedsWay x label → ⊥) × ((l : Label) → IsLabel x label l → ⊥)
AnswersLabel x p label number (Err (fault.Line n)) = ⊥
AnswersLabel x p label number (Err fault.Memory) = Unit {0}

-- Lines

-- the commands with those that a line adds, which is not bad
pub record AddsCommands (x : Elaborated) (line : List ℕ) (old new : List Command) : Type 0 where
  pub added : List Command
  pub is : new ≡ old ++ added
  pub gives : (lines : List (List ℕ)) (more : List Command) → GivesCommands x lines more
      → GivesCommands x (line ∷ lines) (added ++ more)
  pub good : (why : Why) → IsBad x why line → ⊥

-- the line of this number is bad, as the fault says
abbrev pub IsBadLine : Elaborated → List ℕ → ℕ → ScriptFault → Type 0
IsBadLine x line number (fault.Line n) = (n ≡ number) × IsBad x IsNoCommand line
IsBadLine x line number (fault.Unknown n) = (n ≡ number) × IsBad x NamesNoEvent line
IsBadLine x line number (fault.Which n) = (n ≡ number) × IsBad x LacksWay line
IsBadLine x line number fault.Memory = Unit {0}

-- the lines before those that are left have given the commands, and none of them is bad; this is the next line's number
pub record ReachedLine (x : Elaborated) (all left : List (List ℕ)) (cs : List Command) (number : ℕ) : Type 0 where
  pub done : List (List ℕ)
  pub split : all ≡ done ++ left
  pub counts : length done + 1 ≡ number
  pub given : (lines : List (List ℕ)) (more : List Command) → GivesCommands x lines more
      → GivesCommands x (done ++ lines) (cs ++ more)
  pub good : (k : ℕ) (line : List ℕ) (why : Why) → Stands done k line → IsBad x why line → ⊥

-- the pieces that are left to read
abbrev pub pieces_left : Option (Bor (List ℕ)) → List (List ℕ)
pieces_left None = []
pieces_left (Some rest) = pieces is_dot rest.now
