-- Definitions beside those of Parts, of which clauses inside the program speak: what the whole program promises does
-- not rest on them.
use Rattle.std.specs.Prelude.{List}
use Rattle.ar_base.specs.Lists.{IsOneOf}
use Rattle.ar_base.specs.declared.places.Place.{Place}
use Rattle.ar_syntax.specs.declared.instructions.Instr.{Instr, out-Instr}
use Rattle.ar_syntax.specs.declared.instructions.Instr.TheOpen as instr
use Rattle.written_forms.specs.Parts.{InstrForm, IsPartOf}

-- a part of the instruction breaks a rule by itself, at this place
pub record BreaksInside (breaks : InstrForm → Place → Type 0) (whole : InstrForm) (at : Place) : Type 0 where
  pub part : InstrForm
  pub is_part : IsPartOf part whole
  pub broken : breaks part at

-- one of the instructions does so
pub record BreaksInOne (breaks : InstrForm → Place → Type 0) (instrs : List Instr) (at : Place) : Type 0 where
  pub instr : Instr
  pub is_one : IsOneOf instrs instr
  pub inside : BreaksInside breaks (out-Instr instr) at
