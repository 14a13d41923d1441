-- The table of the commands: the word that names each, what it takes, and how far it goes.
use Rattle.std.specs.Prelude.{Bool, true, false, codes}
use Rattle.clap.specs.Words.{Text}
use Rattle.run_words.specs.declared.shapes.Form.{Form}
use Rattle.run_words.specs.declared.shapes.Form.TheVariants as form
use Rattle.run_words.specs.declared.shapes.Reach.{Reach}
use Rattle.run_words.specs.declared.shapes.Reach.TheVariants as reach
use Rattle.run_words.specs.declared.shapes.Shape.{Shape}
use Rattle.run_words.specs.declared.shapes.Takes.TheVariants as takes
use Rattle.run_words.specs.declared.verbs.Verb.{Verb}
use Rattle.run_words.specs.declared.verbs.Verb.TheVariants.{Check, Flat, Replay, Fragment, Equations, Cuts, Make, Explain, CheckCuts, Modules}

-- the word that names a command
abbrev pub word_of : Verb → Text
word_of Check = codes "check"
word_of Flat = codes "flat"
word_of Replay = codes "replay"
word_of Fragment = codes "fragment"
word_of Equations = codes "equations"
word_of Cuts = codes "cuts"
word_of Make = codes "make"
word_of Explain = codes "explain"
word_of CheckCuts = codes "checkcuts"
word_of Modules = codes "modules"

-- what a command about the flat system takes
abbrev pub of_system : Shape
of_system = record {
  files = form.Model;
  main = true;
  observer = takes.Never;
  value = false;
  nodes = false;
  order = false;
  dropped = false;
  reach = reach.System;
  explains = false;
  units = false;
}

-- about the trees of modes
abbrev pub of_forest : Shape
of_forest = record of_system { dropped = true; reach = reach.Forest }

-- about the gate table
abbrev pub of_table : Shape
of_table = record of_forest { observer = takes.Must; value = true; reach = reach.Table }

-- about the cuts
abbrev pub of_cuts : Shape
of_cuts = record of_table { nodes = true; reach = reach.Cuts }

-- about the cuts, or about those of at most so many events alone
abbrev pub of_listed_cuts : Shape
of_listed_cuts = record of_cuts { order = true }

-- what each command takes, and how far it goes
abbrev pub shape_of : Verb → Shape
shape_of Check = of_system
shape_of Flat = of_system
shape_of Replay = record of_system { files = form.ModelAndScript }
shape_of Explain = record of_system { files = form.ModelAndScript; observer = takes.May; explains = true }
shape_of Fragment = of_forest
shape_of Equations = of_table
shape_of Cuts = of_listed_cuts
shape_of CheckCuts = record of_listed_cuts { files = form.ModelAndList }
shape_of Modules = record of_cuts { units = true }
shape_of Make = record of_system { files = form.Number; reach = reach.Cuts; main = false }

-- What stands behind a command

-- the second file is a script
abbrev pub is_script : Form → Bool
is_script form.ModelAndScript = true
is_script _ = false

-- the second file is a list of cuts
abbrev pub is_list : Form → Bool
is_list form.ModelAndList = true
is_list _ = false

-- there is no file, and the command makes its model
abbrev pub is_made : Form → Bool
is_made form.Number = true
is_made _ = false

-- How far a command goes

-- to the trees of modes, for systems of the static fragment: each command that goes further than the flat system
abbrev pub to_forest : Reach → Bool
to_forest reach.System = false
to_forest _ = true

-- to the gate table of an observer's value, by the trees
abbrev pub to_table : Reach → Bool
to_table reach.Table = true
to_table reach.Cuts = true
to_table _ = false

-- to the cuts of the value, by diagrams of the gates
abbrev pub to_cuts : Reach → Bool
to_cuts reach.Cuts = true
to_cuts _ = false
