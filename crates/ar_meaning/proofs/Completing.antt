-- What stands at each place where the values of flows are completed.
use Rattle.std.proofs.Common.{◌≡◌, ℕ, zero, suc, true, false, List, ◌∷◌, refl, subst}
use Rattle.ar_base.specs.Lists.{Stands}
use Rattle.domains.specs.declared.Value.{Value}
use Rattle.ar_meaning.specs.Systems.{Variable}
use Rattle.ar_meaning.specs.Flows.{Completes}
use Rattle.ar_meaning.specs.Flows as flows

-- what stands at a variable's place where the values are completed
pub data Stays {V : Type 0} (facts : V → Value → Type 0) (t ws : List Value) (n : ℕ) (x : Variable V) : Type 0 where
  as_state : x.is_state ≡ true → (v : Value) → Stands t n v → Stands ws n v → Stays facts t ws n x
  as_known : x.is_state ≡ false → (v : Value) → facts x.key v → Stands ws n v → Stays facts t ws n x
  as_reset : x.is_state ≡ false → ((v : Value) → facts x.key v → ⊥) → Stands ws n x.value → Stays facts t ws n x

later : {V : Type 0} {facts : V → Value → Type 0} {t ws : List Value} {v w : Value} {n : ℕ} {x : Variable V}
    → Stays facts t ws n x → Stays facts (v ∷ t) (w ∷ ws) (suc n) x
later (as_state s v a b) = as_state s v a b
later (as_known s v a b) = as_known s v a b
later (as_reset s a b) = as_reset s a b

pub stays_at : {V : Type 0} {facts : V → Value → Type 0} {xs : List (Variable V)} {t ws : List Value}
    → Completes facts xs t ws → (n : ℕ) (x : Variable V) → Stands xs n x → Stays facts t ws n x
stays_at flows.none zero x s = cc
stays_at flows.none (suc n) x s = cc
stays_at {V = V} {facts = facts} (flows.state {x = y} {v = v} {vs = vs} {ws = ws} i c) zero x s =
    let e : y ≡ x = cc in
    subst (λ z. Stays facts (v ∷ vs) (v ∷ ws) zero z) e (as_state i v refl refl)
stays_at {V = V} {facts = facts} (flows.known {x = y} {v = v} {w = u} {vs = vs} {ws = ws} i f c) zero x s =
    let e : y ≡ x = cc in
    subst (λ z. Stays facts (v ∷ vs) (u ∷ ws) zero z) e (as_known i u f refl)
stays_at {V = V} {facts = facts} (flows.unknown {x = y} {v = v} {vs = vs} {ws = ws} i f c) zero x s =
    let e : y ≡ x = cc in
    subst (λ z. Stays facts (v ∷ vs) (y.value ∷ ws) zero z) e (as_reset i f refl)
stays_at (flows.state i c) (suc n) x s = later (stays_at c n x s)
stays_at (flows.known i f c) (suc n) x s = later (stays_at c n x s)
stays_at (flows.unknown i f c) (suc n) x s = later (stays_at c n x s)
