-- Commands and scripts by the numbers of a flat system's ways.
use Rattle.std.specs.Prelude.{◌<◌, ℕ, List, length, map, Result, Ok, Err, Vec}
use Rattle.std.specs.Global.{Global}
use Rattle.ar_base.specs.Lists.{IsOneOf}
use Rattle.ar_base.specs.Numbers.{WayId}
use Rattle.ar_meaning.specs.Runs as runs
use Rattle.gts_core.specs.declared.system.GtsParts.{GtsParts}
use Rattle.gts_flatten.specs.Elaborating.{Elaborated}
use Rattle.gts_flatten.specs.Flat.{IsFlat}
use Rattle.hierarchy.specs.Tie.{IsTreeOf}
use Rattle.hierarchy.specs.declared.tree.Tree.{Tree}
use Rattle.job_inputs.specs.Scripts.{Commands, IsNoCommand, LacksWay, NamesNoEvent}
use Rattle.job_inputs.specs.declared.commands.Command.{Command}
use Rattle.job_inputs.specs.declared.commands.Command.TheVariants.{Fire, Back, Show, Enabled}
use Rattle.job_inputs.specs.declared.faults.ScriptFault.{ScriptFault}
use Rattle.job_inputs.specs.declared.faults.ScriptFault.TheVariants.{Line, Unknown, Which, Memory}
use Rattle.text_pieces.specs.WayLabels.{numbered_label}

-- a command by the label of its way
abbrev pub command_of : GtsParts → Command → runs.Command
command_of p (Fire w) = runs.Fire (numbered_label p w.n)
command_of p Back = runs.Back
command_of p Show = runs.Show
command_of p Enabled = runs.Enabled

-- the way of a command is one of the system's
abbrev pub IsWayOfSystem : GtsParts → Command → Type 0
IsWayOfSystem p (Fire w) = w.n < length p.ways.items
IsWayOfSystem p Back = Unit {0}
IsWayOfSystem p Show = Unit {0}
IsWayOfSystem p Enabled = Unit {0}

-- the ways of these commands are those of the system
pub record AreFirable (p : GtsParts) (commands : List Command) : Type 0 where
  pub each : (w : WayId) → IsOneOf commands (Fire w) → w.n < length p.ways.items

-- the flat system is that of the tree
pub record IsOfTree (x : Elaborated) (tree : Tree) (p : GtsParts) : Type 0 where
  pub is_tree : IsTreeOf x.declarations.model x.declarations.units tree
  pub flat : IsFlat x p

-- a bad line, or want of memory
abbrev pub IsBadScript : Elaborated → List ℕ → ScriptFault → Type 0
IsBadScript x script (Line n) = Commands script x (Err (record { number = n; why = IsNoCommand }))
IsBadScript x script (Which n) = Commands script x (Err (record { number = n; why = LacksWay }))
IsBadScript x script (Unknown n) = Commands script x (Err (record { number = n; why = NamesNoEvent }))
IsBadScript x script Memory = Unit {0}

-- what the reading of a script answers: its commands, whose ways are those of the system, or its first bad line
abbrev pub AnswersScript : Elaborated → GtsParts → List ℕ → Result (Vec Command Global) ScriptFault → Type 0
AnswersScript x p script (Ok commands) =
    Commands script x (Ok (map (command_of p) commands.items)) × AreFirable p commands.items
AnswersScript x p script (Err fault) = IsBadScript x script fault
