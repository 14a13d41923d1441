use Rattle.std.proofs.Common.{◌≡◌, ◌+◌, ◌-◌, ℕ, Bool, List, [], cond, take, drop, subst, sym, ap, ◌∙◌, arith}
use Rattle.domains.specs.declared.Value.{Value}
use Rattle.gts_core.specs.Readings.{valuation_values}
use Rattle.gts_core.proofs.Reading.{one_there, one_past}
use Rattle.flow_changes.proofs.known.KnownEnvVarId.facts.Goals as goal

pub returns-then-not-is_set : goal.returns-then-not-is_set
returns-then-not-is_set c =
    let t = c.args.self.now.values.now in
    let n = c.args.v.now.n in
    ap (λ (b : Bool). let e : List Value = [] in cond b (valuation_values t n) e) (sym c.if-not-is_set.true ∙ c.is_set.ensures)

pub returns-then-place-self : goal.returns-then-place-self
returns-then-place-self c =
    let t = c.args.self.now.values.now in
    let n = c.args.v.now.n in
    one_past t n c.if-place-self.true ∙ ap (λ (b : Bool). let e : List Value = [] in cond b (valuation_values t n) e) (sym c.if-not-is_set.false ∙ c.is_set.ensures)

pub returns : goal.returns
returns c =
    let t = c.args.self.now.values.now in
    let n = c.args.v.now.n in
    let e : 1 ≡ n + 1 - n = omega arith in
    subst (λ (k : ℕ). take k (drop n t) ≡ valuation_values t n) e (one_there t n c.if-place-self.false) ∙ ap (λ (b : Bool). let e : List Value = [] in cond b (valuation_values t n) e) (sym c.if-not-is_set.false ∙ c.is_set.ensures)
