use Rattle.std.proofs.Common.{◌≡◌, ◌+◌, ◌-◌, ℕ, take, drop, subst, arith}
use Rattle.gts_core.specs.Readings.{valuation_values}
use Rattle.gts_core.proofs.Reading.{one_there, one_past}
use Rattle.gts_core.proofs.readings.AssignedEnvVarId.facts.Goals as goal

pub returns-then-place-self : goal.returns-then-place-self
returns-then-place-self c =
    let t = c.args.self.now.values.now in
    let n = c.args.v.now.n in
    let e : 1 ≡ n + 1 - n = omega arith in
    subst (λ (k : ℕ). take k (drop n t) ≡ valuation_values t n) e (one_there t n c.if-place-self.true)

pub returns-else-place-self : goal.returns-else-place-self
returns-else-place-self c = one_past c.args.self.now.values.now c.args.v.now.n c.if-place-self.false
