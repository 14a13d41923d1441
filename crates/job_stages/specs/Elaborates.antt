-- From a text to the system that it means: the grammar, the table, the units, the declarations and the ways, each with
-- its refusals.
use Rattle.std.specs.Prelude.{ℕ, List, Option, Result, Ok, Err}
use Rattle.ar_base.specs.Breach.{IsBroken, AreKept}
use Rattle.ar_base.specs.Stages.{Then}
use Rattle.ar_base.specs.declared.counts.Count.{Count}
use Rattle.ar_base.specs.declared.counts.Count.TheVariants.{Nesting}
use Rattle.ar_base.specs.declared.faults.RuleFault.{RuleFault}
use Rattle.ar_base.specs.declared.faults.RuleFault.TheVariants as fault
use Rattle.ar_base.specs.declared.places.Place.{Place}
use Rattle.ar_syntax.specs.declared.items.Model.{Model}
use Rattle.ar_parser.specs.Models.{Reads, HasFaultAt, SyntaxStandsAt, DepthStandsAt}
use Rattle.class_table.specs.Declaring.{Declared, IsDeclared}
use Rattle.class_table.specs.Rules.{BreaksTextRule, text_rules}
use Rattle.hierarchy.specs.Models.{RootedModel, IsRootedIn}
use Rattle.instantiate.specs.Unfolding.{Instantiates}
use Rattle.source_meaning.specs.Systems.{Binds}
use Rattle.gts_flatten.specs.Elaborating.{Elaborated, Flattens}
use Rattle.job_stages.specs.declared.refusals.Refusal.{Refusal}
use Rattle.job_stages.specs.declared.refusals.Refusal.TheVariants.{Size, Syntax, Rule}

-- the tree of the text, or the first token that no model goes on with, or the first that is nested too deep
pub data Parses (text : List ℕ) : Result Model Refusal → Type 0 where
  reads : {m : Model} → Reads text m → Parses text (Ok m)
  no_tokens : {p : Place} → HasFaultAt text p → Parses text (Err (Syntax p))
  no_reading : {p : Place} → SyntaxStandsAt text p → Parses text (Err (Syntax p))
  too_deep : {p : Place} → DepthStandsAt text p → Parses text (Err (Size Nesting))

-- the model seen from the main block that is asked for, where it keeps the rules L1 to L5, or the least that it breaks
pub data Tables (main : Option (List ℕ)) (model : Model) : Result RootedModel RuleFault → Type 0 where
  rooted : {m : RootedModel} → IsRootedIn model main m → AreKept text_rules (BreaksTextRule model main m.declared)
      → Tables main model (Ok m)
  breach : {r : ℕ} {p : Place} (d : Declared) → IsDeclared model d → IsBroken text_rules (BreaksTextRule model main d) r
      p → Tables main model (Err (fault.Rule r p))

-- the system that the model means from its main block: L1 to L5, the limits of units with L6 to L9, L10 to L13, then
-- L14 with the limits of ways
abbrev pub Systems : Option (List ℕ) → Model → Result Elaborated RuleFault → Type 0
Systems main = Then (Tables main) (Then Instantiates (Then Binds Flattens))

-- a stage of rules and limits, with its refusal as the job's
pub data Ruled {A B : Type 0} (stage : A → Result B RuleFault → Type 0) (a : A) : Result B Refusal → Type 0 where
  passes : {b : B} → stage a (Ok b) → Ruled stage a (Ok b)
  breaks : {r : ℕ} {p : Place} → stage a (Err (fault.Rule r p)) → Ruled stage a (Err (Rule r p))
  exceeds : {count : Count} → stage a (Err (fault.Limit count)) → Ruled stage a (Err (Size count))

-- the system that the text means from the main block that is asked for, or the first refusal
abbrev pub Elaborates : Option (List ℕ) → List ℕ → Result Elaborated Refusal → Type 0
Elaborates main = Then Parses (Ruled (Systems main))
