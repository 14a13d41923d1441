use Rattle.std.proofs.Common.{rules, inl, inr, sym, ◌∙◌, arith}
use Rattle.aralia_text.specs.Texts.{gate_name}
use Rattle.aralia_text.specs.Fronts.{IsStuck, IsBelowGate, PathStops}
use Rattle.aralia_text.proofs.Runs.{stop_len, len_stops}
use Rattle.aralia_text.proofs.Stuck.{stuck_at_once}
use Rattle.aralia_text.proofs.Numbers.{no_mark, stuck_at, read_at}
use Rattle.aralia_text.proofs.fronts.gate.Goals as goal
use Rattle.aralia_text.proofs.fronts.gate.Goals.{then-n-eq0-via-then-n-eq0, then-n-eq0-via-else-n-eq0+then-run-gt0}

pub returns-then-gates-eq0-clause-stuck : goal.returns-then-gates-eq0-clause-stuck
returns-then-gates-eq0-clause-stuck c = stuck_at_once (IsBelowGate c.args.gates) gate_name PathStops _ (λ a is. let z = c.if-gates-eq0.true in omega (arith, is, z))

pub returns-in_err-behind-clause-stuck : goal.returns-in_err-behind-clause-stuck
returns-in_err-behind-clause-stuck c =
    let k : IsStuck (IsBelowGate c.args.gates) gate_name PathStops c.args.rest.now c.in_err-behind.field-0.0.left =
    no_mark c.args.gates _ _ (let z = c.if-gates-eq0.false in omega (arith, z)) c.in_err-behind.ensures.stuck in
    search rules

pub returns-then-n-eq0-clause-stuck : goal.returns-then-n-eq0-clause-stuck
returns-then-n-eq0-clause-stuck c =
    stuck_at c.args.gates _ _ _ _ _ c.in_ok-behind.ensures.found (let f = c.ranges.gates.fits in omega (arith, f)) (let z = c.if-gates-eq0.false in omega (arith, z)) c.digits-value.ensures c.split_at.ensures.back
    (elim c.then-n-eq0.branch [
      | then-n-eq0-via-then-n-eq0 w ↦ inl w.if-n-eq0.true
      | then-n-eq0-via-else-n-eq0+then-run-gt0 w ↦ inr (λ stops.
          let none = c.path_len-run.ensures.value ∙ stop_len _ stops in let some = w.if-run-gt0.true in omega (arith, none, some))
    ])

pub returns-clause-found : goal.returns-clause-found
returns-clause-found c =
    read_at c.args.gates _ _ _ _ _ c.in_ok-behind.ensures.found (let f = c.ranges.gates.fits in omega (arith, f)) c.digits-value.ensures c.split_at.ensures.back
    (let z = c.if-n-eq0.false in omega (arith, z)) (len_stops _ (sym c.path_len-run.ensures.value ∙ (let none = c.if-run-gt0.false in omega (arith, none)))) _ c.new.ensures
