-- The line and the status of each refusal.
use Rattle.std.specs.Prelude.{ℕ, ◌++◌, List, codes, decimal}
use Rattle.ar_base.specs.Counts.{limit_of}
use Rattle.ar_base.specs.Texts.{line}
use Rattle.ar_base.specs.declared.counts.Count.{Count}
use Rattle.ar_base.specs.declared.counts.Count.TheVariants.{ModelBytes, ScriptBytes, Nesting, Depth, Units, Variables, Events, TreeNodes, Ways, WayParts, ExpressionNodes, Gates, CutLines}
use Rattle.ar_base.specs.declared.places.Place.{Place}
use Rattle.job_stages.specs.declared.refusals.FileKind.TheVariants.{Model, Script}
use Rattle.job_stages.specs.declared.refusals.Refusal.{Refusal}
use Rattle.job_stages.specs.declared.refusals.Refusal.TheVariants.{Usage, NotRead, Size, Syntax, Rule, NoCommand, NoCut, NeedsWay, NoEvent, NoDropped, NoObserver, NoValue, Outside}
use Rattle.job_stages.specs.declared.status.Status.{Status}
use Rattle.job_stages.specs.declared.status.Status.TheVariants as status

-- what is counted, as a line names it
abbrev pub count_text : Count → List ℕ
count_text ModelBytes = codes "model bytes"
count_text ScriptBytes = codes "script bytes"
count_text Nesting = codes "nesting"
count_text Depth = codes "depth"
count_text Units = codes "units"
count_text Variables = codes "variables"
count_text Events = codes "events"
count_text TreeNodes = codes "tree nodes"
count_text Ways = codes "ways"
count_text WayParts = codes "way parts"
count_text ExpressionNodes = codes "expression nodes"
count_text Gates = codes "gates"
count_text CutLines = codes "cut lines"

-- `LINE:COLUMN`
abbrev pub place_text : Place → List ℕ
place_text p = decimal p.line ++ (codes ":" ++ decimal p.column)

-- the line that tells a refusal
abbrev pub line_of : Refusal → List ℕ
line_of Usage =
    line (codes "usage: altarica COMMAND FILES [--main B] [--observer O] [--value V] [--nodes N] [--drop EVENTS]")
line_of (NotRead Model) = line (codes "read: model")
line_of (NotRead Script) = line (codes "read: script")
line_of (Size count) = line (codes "size: " ++ (count_text count ++ (codes " " ++ decimal (limit_of count))))
line_of (Syntax place) = line (codes "syntax: " ++ place_text place)
line_of (Rule rule place) = line (codes "rule: L" ++ (decimal rule ++ (codes " at " ++ place_text place)))
line_of (NoCommand n) = line (codes "script: line " ++ (decimal n ++ codes " is no command"))
line_of (NoCut n) = line (codes "script: line " ++ (decimal n ++ codes " is no cut"))
line_of (NeedsWay n) = line (codes "script: line " ++ (decimal n ++ codes " needs a way"))
line_of (NoEvent n) = line (codes "script: line " ++ (decimal n ++ codes " names no event"))
line_of NoDropped = line (codes "script: no event")
line_of NoObserver = line (codes "script: no observer")
line_of NoValue = line (codes "script: no value")
line_of (Outside rule path) = line (codes "outside: S" ++ (decimal rule ++ (codes " at " ++ path)))

-- the status of a refusal
abbrev pub status_of : Refusal → Status
status_of Usage = status.Usage
status_of (NotRead file) = status.Read
status_of (Size count) = status.Size
status_of (Syntax place) = status.Syntax
status_of (Rule rule place) = status.Rule
status_of (NoCommand n) = status.Script
status_of (NoCut n) = status.Script
status_of (NeedsWay n) = status.Script
status_of (NoEvent n) = status.Script
status_of NoDropped = status.Script
status_of NoObserver = status.Script
status_of NoValue = status.Script
status_of (Outside rule path) = status.Outside
