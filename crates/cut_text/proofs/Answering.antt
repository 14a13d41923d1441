-- What printing answers at its exits.
use Rattle.std.proofs.Common.{◌≡◌, ℕ, List, Result, Err, refl, sym, subst}
use Rattle.ar_io.specs.Writing.{SinkState}
use Rattle.ar_io.specs.Handing.{Writes}
use Rattle.ar_io.specs.declared.outside.SinkFailed.{SinkFailed}
use Rattle.cut_text.specs.Answers.{Prints}
use Rattle.cut_text.specs.declared.faults.PrintFault.{PrintFault}
use Rattle.cut_text.specs.declared.faults.PrintFault.TheVariants.{Write, Memory}

pub failed : {a b : SinkState} {text : List ℕ} {e : SinkFailed} (r : Result (Unit {0}) PrintFault) → r ≡ Err Write
    → Writes a b text (Err e) → Prints a b text r
failed {a = a} {b = b} {text = text} r i h = subst (λ (z : Result (Unit {0}) PrintFault). Prints a b text z) (sym i) h

pub refused : (a : SinkState) (text : List ℕ) (r : Result (Unit {0}) PrintFault) → r ≡ Err Memory → Prints a a text r
refused a text r i = subst (λ (z : Result (Unit {0}) PrintFault). Prints a a text z) (sym i) refl
