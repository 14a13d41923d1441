-- What printing answers.
use Rattle.std.specs.Prelude.{◌≡◌, ℕ, List, Result, Ok, Err}
use Rattle.ar_io.specs.Writing.{SinkState}
use Rattle.ar_io.specs.Handing.{Writes}
use Rattle.cut_text.specs.declared.faults.PrintFault.{PrintFault}
use Rattle.cut_text.specs.declared.faults.PrintFault.TheVariants.{Write, Memory}

-- the text is written; or the sink failed, and some first bytes of it are written; or memory was
-- refused, and nothing is written
abbrev pub Prints : SinkState → SinkState → List ℕ → Result (Unit {0}) PrintFault → Type 0
Prints old new text (Ok u) = Writes old new text (Ok u)
Prints old new text (Err Write) = Writes old new text (Err (record {}))
Prints old new text (Err Memory) = new ≡ old
