use Rattle.std.proofs.Common.{ℕ}
use Rattle.ar_syntax.specs.declared.instructions.Instr.{Instr, out-Instr}
use Rattle.class_table.specs.Earliest.{IsEarliest, Until}
use Rattle.class_table.proofs.Looping.{AtItem}
use Rattle.written_forms.specs.PartsInside.{BreaksInside}
use Rattle.written_forms.proofs.parts.+parts.Given as goal

abbrev pub invariant-first_in-loop-instr : goal.invariant-first_in-loop-instr
invariant-first_in-loop-instr g l =
    IsEarliest (Until (AtItem l.instrs (λ (k : ℕ) (i : Instr). BreaksInside (g.R.Rule.breaks l.rule) (out-Instr i)))
    l.instr-index) l.found
