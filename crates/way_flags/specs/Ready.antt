-- What a way that is fired leads to, before the flows.
use Rattle.std.specs.Prelude.{◌≡◌, ℕ, List, ⊤}
use Rattle.ar_base.specs.Lists.{HasNo, IsOneOf}
use Rattle.ar_base.specs.Numbers.{VarId}
use Rattle.domains.specs.declared.Value.{Value}
use Rattle.ar_meaning.specs.Systems as s
use Rattle.ar_meaning.specs.Steps as steps
use Rattle.ar_meaning.specs.Facts.{HasValue}
use Rattle.ar_meaning.specs.Ways.{Can, Effects}
use Rattle.way_flags.specs.declared.faults.ReceiveFault.{ReceiveFault}
use Rattle.way_flags.specs.declared.faults.ReceiveFault.TheVariants as fault

-- the way can be fired from t without a fault before the flows, and leads to this state
pub record IsReadyWay (net : s.Net ℕ) (t : List Value) (w : s.Way ℕ) (state : List Value) : Type 0 where
  pub can : Can (HasValue net t) w
  pub no_clash : HasNo net.variables (steps.Clashes (Effects (HasValue net t) w))
  pub no_range : HasNo net.variables (steps.LeavesDomain (Effects (HasValue net t) w))
  pub receives : steps.Receives (Effects (HasValue net t) w) net.variables t state

-- the pairs are the variables that receive a value where the way is fired from t, each with that value
pub record AreReceived (net : s.Net ℕ) (t : List Value) (w : s.Way ℕ) (new : List (VarId × Value)) : Type 0 where
  pub only : (q : VarId × Value) → IsOneOf new q → Effects (HasValue net t) w q.0.n q.1
  pub all : (n : ℕ) (v : Value) → Effects (HasValue net t) w n v
      → (q : VarId × Value) × IsOneOf new q × (q.0.n ≡ n) × (q.1 ≡ v)

-- the fault is the one that firing the way from t gives; want of memory says nothing
abbrev pub IsReceiveFault : s.Net ℕ → List Value → s.Way ℕ → ReceiveFault → Type 0
IsReceiveFault net t w (fault.Clash x) = steps.Step net t w (steps.Refused (steps.Clash x.n))
IsReceiveFault net t w (fault.Range x) = steps.Step net t w (steps.Refused (steps.Range x.n))
IsReceiveFault net t w fault.Memory = ⊤
