-- What is written for a table is a text of it.
use Rattle.std.proofs.Common.{ℕ, List, length, refl}
use Rattle.ar_base.proofs.Standing.{stands_some}
use Rattle.eq_core.specs.Gates.{Operand, Always, Never, EventIs, GateIs, Table}
use Rattle.eq_core.specs.Ordered.{IsOrderedTable}
use Rattle.aralia_text.specs.Texts.{equations_text}
use Rattle.aralia_text.specs.Readings.{HasEventText, ArePaths, NamesOneOf, NamesTextedEvents, IsTextOf}

named : (events : List (List ℕ)) → ArePaths events → (o : Operand) → NamesOneOf (length events) o → HasEventText events o
named events paths Always h = tt
named events paths Never h = tt
named events paths (EventIs e s) h = let p = stands_some events e h in record { path = p.0; stands = p.1; is_path = paths.each e p.0 p.1 }
named events paths (GateIs g s) h = tt

pub printed_text : (events : List (List ℕ)) (table : Table) → ArePaths events → IsOrderedTable table
    → NamesTextedEvents events table → IsTextOf events (equations_text events table) table
printed_text events table paths ordered names = record {
  ordered = ordered;
  gates = λ n gate s. record { each = λ o one. named events paths o (names.gates n gate o s one) };
  conflict = named events paths table.conflict names.conflict;
  top = named events paths table.top names.top;
  is_text = refl;
}
