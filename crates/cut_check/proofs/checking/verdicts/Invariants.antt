use Rattle.std.proofs.Common.{◌≡◌, ℕ, length}
use Rattle.ar_base.specs.Lists.{Stands}
use Rattle.ar_meaning.specs.Systems.{System}
use Rattle.gts_core.specs.View.{Views, numbered}
use Rattle.gts_core.specs.declared.system.Observer.{Observer}
use Rattle.cut_check.specs.Flat.{flat_event_numbers, chain_lines, IsVerdict}
use Rattle.cut_check.specs.declared.checking.Verdict.{Verdict}
use Rattle.cut_check.proofs.checking.verdicts.Given as goal

-- the verdicts so far
abbrev pub invariant-loop-n : goal.invariant-loop-n
invariant-loop-n l = record {
  long : length l.all.items ≡ l.n;
  each : (system : System ℕ) → Views l.gts system → (o : Observer) → Stands l.gts.observers.items l.fn.observer o
      → (n : ℕ) (v : Verdict) → Stands l.all.items n v
      → IsVerdict system (flat_event_numbers l.dropped) (numbered o.value) l.fn.wanted (chain_lines l.gts l.chains) l.chains n
      v;
}
