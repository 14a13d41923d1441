-- Lists of events by their paths.
use Rattle.std.specs.Prelude.{ℕ, List}
use Rattle.ar_base.specs.Lists.{IsOneOf, Along}
use Rattle.gts_flatten.specs.Elaborating.{Elaborated}
use Rattle.job_inputs.specs.Labels.{NamesEvent}
use Rattle.job_inputs.specs.Lines.{pieces}
use Rattle.job_inputs.specs.CutLines.{is_comma}

-- the parts of the text between its commas name these events, in order
abbrev pub NamesEvents : Elaborated → List ℕ → List ℕ → Type 0
NamesEvents x text events = Along (NamesEvent x) (pieces is_comma text) events

-- one of the parts names no event
pub record HasUnknown (x : Elaborated) (text : List ℕ) : Type 0 where
  pub part : List ℕ
  pub is_part : IsOneOf (pieces is_comma text) part
  pub names_none : (e : ℕ) → NamesEvent x part e → ⊥
