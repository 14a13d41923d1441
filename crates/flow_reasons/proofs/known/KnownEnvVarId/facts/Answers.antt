use Rattle.std.proofs.Common.{◌≡◌, ◌+◌, ◌-◌, ℕ, Bool, true, [], take, drop, slice_get, if◌then◌else◌, sym, ap, ◌∙◌, subst, arith}
use Rattle.gts_core.specs.Readings.{valuation_values}
use Rattle.gts_core.proofs.Reading.{one_there, one_past}
use Rattle.flow_reasons.specs.FactMarks.{is_fact_found}
use Rattle.flow_reasons.proofs.known.KnownEnvVarId.facts.Goals as goal

pub returns-then-place-self : goal.returns-then-place-self
returns-then-place-self c =
    let t = c.args.self.now.values.now in
    let n = c.args.v.now.n in
    let e : 1 ≡ n + 1 - n = omega arith in
    let k : true ≡ is_fact_found (slice_get c.args.self.now.marks.now n) =
    sym c.if-not-is_known.false ∙ c.is_known.ensures in
    subst (λ (k : ℕ). take k (drop n t) ≡ valuation_values t n) e (one_there t n c.if-place-self.true)
    ∙ ap (λ (b : Bool). if b then valuation_values t n else []) k

pub returns-else-place-self : goal.returns-else-place-self
returns-else-place-self c =
    let t = c.args.self.now.values.now in
    let n = c.args.v.now.n in
    let k : true ≡ is_fact_found (slice_get c.args.self.now.marks.now n) =
    sym c.if-not-is_known.false ∙ c.is_known.ensures in
    one_past t n c.if-place-self.false ∙ ap (λ (b : Bool). if b then valuation_values t n else []) k
