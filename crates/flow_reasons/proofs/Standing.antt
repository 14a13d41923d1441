-- A valuation that determines itself: its facts are its values.
use Rattle.std.proofs.Common.{◌≡◌, ℕ, false, List, refl, sym, ◌∙◌, subst, arith}
use Rattle.ar_base.specs.Lists.{Stands, HasNo}
use Rattle.ar_base.proofs.Standing.{stands_within, stands_some, stands_one}
use Rattle.domains.specs.declared.Value.{Value}
use Rattle.domains.proofs.Domains.{listed}
use Rattle.ar_meaning.specs.Systems as s
use Rattle.ar_meaning.specs.Facts.{FactOf, given, assigned, Allows}
use Rattle.ar_meaning.specs.Dependence.{IsFlow}
use Rattle.ar_meaning.specs.Flows.{HasTwo, Completes, Flows, Total, all_hold}
use Rattle.ar_meaning.proofs.Completing.{as_state, as_known, as_reset, stays_at}
use Rattle.flow_reasons.proofs.RoundStanding.{no_two, one_fact}
use Rattle.gts_core.specs.Sound.{IsSound}
use Rattle.gts_core.specs.View.{net_of, variable_of}
use Rattle.gts_core.specs.declared.system.Variable.{Variable}
use Rattle.gts_core.specs.declared.system.GtsParts.{GtsParts}
use Rattle.gts_core.proofs.Viewing.{variable_there, are_numbered}
use Rattle.gts_core.proofs.Lawfulness.{system_lawful}
use Rattle.flow_reasons.specs.Marks.{IsStanding}

pub completes_itself : {V : Type 0} {net : s.Net V} {t u : List Value} → Flows net t (Total u)
    → Completes (FactOf net t) net.variables t u
completes_itself (all_hold n m c b) = c

module _ (p : GtsParts) (sound : IsSound p) (values : List Value) (standing : IsStanding p values) where
  pub two_none : HasNo (net_of p).variables (HasTwo (net_of p) values)
  two_none = no_two standing.flows

  -- a variable by its number is the one of its key
  pub at_number : (k n : ℕ) (y : s.Variable ℕ) → Stands (net_of p).variables k y → y.key ≡ n → k ≡ n
  at_number k n y st e = sym ((are_numbered p).key k y st) ∙ e

  flow_stands : (n : ℕ) (v : Value) → (k : ℕ) × IsFlow (net_of p) k n → FactOf (net_of p) values n v → Stands values n v
  flow_stands n v (k, f) h =
      let e : f.place ≡ n = at_number f.place n f.variable f.stands f.is_key in
      let own : FactOf (net_of p) values f.variable.key v =
      subst (λ z. FactOf (net_of p) values z v) (sym f.is_key) h in
      subst (λ z. Stands values z v) e (elim (stays_at (completes_itself standing.flows) f.place f.variable f.stands) as
      (λ _. Stands values f.place v) [
        | as_state i w a b ↦ absurd (cc (i, f.is_flow))
        | as_known i w g b ↦ subst (λ z. Stands values f.place z)
            (one_fact (net_of p) values f.variable (λ t. two_none.has_not f.place f.variable f.stands t) f.is_flow w v g
            own) b
        | as_reset i g b ↦ absurd (g v own)
      ])

  -- a fact is the value of its variable
  pub fact_stands : (n : ℕ) (v : Value) → FactOf (net_of p) values n v → Stands values n v
  fact_stands n v (given h) = subst (λ z. Stands values z v) (at_number h.place n h.variable h.stands h.is_key) h.value
  fact_stands n v (assigned a K o h q y l) =
      flow_stands a.target v ((system_lawful p sound).targets a o) (assigned a K o h q y l)

  -- a value is one that its variable may have
  pub value_allowed : (n : ℕ) (v : Value) → Stands values n v → Allows (net_of p) n v
  value_allowed n v h =
      let l = stands_within values n v h in
      let x = stands_some p.variables.items n (omega (arith, l, standing.total.long)) in
      record {
        place = n;
        variable = variable_of n x.0;
        stands = variable_there p n x.0 x.1;
        is_key = refl;
        has = listed x.0.domain v (standing.total.in_domain n x.0 v x.1 h);
      }

  -- a flow without a fact has its reset
  pub reset_value : (n : ℕ) (x : Variable) (v : Value) → Stands p.variables.items n x → x.is_state ≡ false
      → Stands values n v
      → ((w : Value) → FactOf (net_of p) values n w → ⊥) → v ≡ x.value
  reset_value n x v st f h none =
      elim (stays_at (completes_itself standing.flows) n (variable_of n x) (variable_there p n x st)) as
      (λ _. v ≡ x.value) [
        | as_state i w a b ↦ absurd (cc (i, f))
        | as_known i w g b ↦ absurd (none w g)
        | as_reset i g b ↦ stands_one values n v x.value h b
      ]
