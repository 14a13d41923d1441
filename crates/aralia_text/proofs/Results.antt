-- What a result tells, told otherwise.
use Rattle.std.proofs.Common.{◌≡◌, length, vec_len, Result, Ok, Err, IfErr, IsErrAnd, subst, sym, ◌∙◌, rules, arith}
use Rattle.std.specs.declared.vec.Vec.{Vec}
use Rattle.std.proofs.lemmas.Grind.{common_steps}
use Rattle.aralia_text.specs.declared.fronts.Stuck.{Stuck}
use Rattle.aralia_text.specs.declared.gates.Stop.{Stop}
use Rattle.aralia_text.specs.declared.gates.Stop.TheVariants as stop

pub err_map : {A E : Type 0} {P Q : E → Type 0} (r : Result A E) → ((e : E) → P e → Q e) → IfErr r P → IfErr r Q
err_map (Ok a) f h = tt
err_map (Err e) f h = f e h

-- the error is this one
pub err_is : {A E : Type 0} (P : E → Type 0) (r : Result A E) (x : E) → IsErrAnd r (λ e. e ≡ x) → P x → IfErr r P
err_is P (Ok a) x h p = tt
err_is P (Err e) x h p = subst P (sym h) p

-- the error is this one, said of a reading
pub stop_is : {A : Type 0} (P : Stuck → Type 0) (r : Result A Stop) (x : Stuck) → IsErrAnd r (λ e. e ≡ stop.Stuck x)
    → P x
    → IfErr r (λ e. (stuck : Stuck) → e ≡ stop.Stuck stuck → P stuck)
stop_is P (Ok a) x h p = tt
stop_is P (Err e) x h p = λ stuck i. let j : ◌≡◌ {A = Stop} (stop.Stuck x) (stop.Stuck stuck) = sym h ∙ i in let same : ◌≡◌ {A = Stuck} x stuck = cc in subst P same p

pub stuck_same : (P : Stuck → Type 0) (x : Stuck) → P x → (stuck : Stuck)
    → ◌≡◌ {A = Stop} (stop.Stuck x) (stop.Stuck stuck) → P stuck
stuck_same P x p stuck e = let same : ◌≡◌ {A = Stuck} x stuck = cc in subst P same p

-- how many items a vector has
pub vec_len-items : {X Z : Type 0} (v : Vec X Z) → vec_len v ≡ length v.items
vec_len-items v = first_of (search rules, grind (arith, common_steps))
