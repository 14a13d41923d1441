-- Lists in which some items were written.
use Rattle.std.proofs.Common.{◌≡◌, ℕ, zero, suc, ◌<◌, ◌⊎◌, inl, inr, List, [], ◌∷◌, length, set, Some, slice_get, refl, sym, ap, ◌∙◌, subst, arith, length-set}
use Rattle.std.proofs.lemmas.Bool.{cases_eq}
use Rattle.ar_base.specs.Lists.{Stands, IsOneOf}
use Rattle.ar_base.specs.Numbers.{VarId}
use Rattle.ar_base.specs.Sets.{Ascends}
use Rattle.ar_base.proofs.Standing.{one_none, one_cases, one_first, one_rest, one_here, stands_map, stands_within}
use Rattle.ar_base.proofs.Sets.{ascends_rest, member_told, ascends_first}
use Rattle.domains.specs.declared.Value.{Value}
use Rattle.domains.specs.Domains.{Holds}
use Rattle.gts_core.specs.Readings.{IsTotal}
use Rattle.gts_core.specs.declared.system.Variable.{Variable}
use Rattle.gts_core.specs.declared.system.GtsParts.{GtsParts}
use Rattle.flow_propagate.specs.NewValues.{written, IsNewValue, IsRenewed}
use Rattle.flow_changes.proofs.Picks.{set_same, set_other, same_lists}
use Rattle.flow_changes.specs.Known.{changing_numbers}

-- a variable that gets no new value keeps its own
pub written_not : (t : List Value) (new : List (VarId × Value)) (n : ℕ) → (IsRenewed new n → ⊥)
    → slice_get (written t new) n ≡ slice_get t n
written_not t [] n f = refl
written_not t (r ∷ more) n f =
    written_not (set t r.0.n r.1) more n
    (λ h. f (record { pair = h.pair; is_one = one_rest r more h.pair h.is_one; is = h.is }))
    ∙ set_other t r.0.n n r.1 (λ e. f (record { pair = r; is_one = one_first r more; is = sym e }))

number_one : (new : List (VarId × Value)) (r : VarId × Value) → IsOneOf new r → IsOneOf (changing_numbers new) r.0.n
number_one new r o = one_here (changing_numbers new) o.place r.0.n
    (stands_map (λ (r : VarId × Value). r.0.n) new o.place r o.stands)

-- a new value is the variable's
pub written_at : (t : List Value) (new : List (VarId × Value)) (r : VarId × Value) → Ascends (changing_numbers new)
    → IsOneOf new r → r.0.n < length t → Stands (written t new) r.0.n r.1
written_at t [] r a o h = absurd (one_none r o)
written_at t (q ∷ more) r a o h = elim (one_cases q more r o) [
  | inl e ↦ (
      let here : Stands (written (set t q.0.n q.1) more) r.0.n r.1 =
      written_not (set t q.0.n q.1) more r.0.n (λ k. let l = ascends_first q.0.n (changing_numbers more) a k.pair.0.n (number_one more k.pair k.is_one) in let i = ap (λ (z : VarId × Value). z.0.n) e in omega (arith, l, i, k.is))
      ∙ subst (λ (z : VarId × Value). Stands (set t z.0.n z.1) r.0.n r.1) (sym e) (set_same t r.0.n r.1 h) in
      here)
  | inr k ↦ written_at (set t q.0.n q.1) more r (ascends_rest q.0.n (changing_numbers more) a) k (let l = length-set t q.0.n q.1 in omega (arith, h, l))
]

-- a total valuation stays one
pub written_total : (p : GtsParts) (t : List Value) (new : List (VarId × Value))
    → ((r : VarId × Value) → IsOneOf new r → IsNewValue p r) → IsTotal p t → IsTotal p (written t new)
written_total p t [] each total = total
written_total p t (r ∷ more) each total =
    written_total p (set t r.0.n r.1) more (λ q o. each q (one_rest r more q o))
    (set_total r (each r (one_first r more)))
  where
    set_total : (r : VarId × Value) → IsNewValue p r → IsTotal p (set t r.0.n r.1)
    set_total r is = record {
      long = length-set t r.0.n r.1 ∙ total.long;
      in_domain = λ n x v sx sv. at n x v sx sv (cases_eq n r.0.n);
    }
      where
        at : (n : ℕ) (x : Variable) (v : Value) → Stands p.variables.items n x → Stands (set t r.0.n r.1) n v
            → (n ≡ r.0.n) ⊎ (n ≡ r.0.n → ⊥) → Holds x.domain v
        at n x v sx sv (inl e) =
            let one : Stands p.variables.items n is.variable =
            subst (λ (z : ℕ). Stands p.variables.items z is.variable) (sym e) is.stands in
            let same : is.variable ≡ x = cc in
            let below = let w = stands_within p.variables.items r.0.n is.variable is.stands in let l : r.0.n < length t = omega (arith, w, total.long) in l in
            let value : Stands (set t r.0.n r.1) n r.1 =
            subst (λ (z : ℕ). Stands (set t r.0.n r.1) z r.1) (sym e) (set_same t r.0.n r.1 below) in
            let i : r.1 ≡ v = cc in
            subst (λ (z : Variable). Holds z.domain v) same
            (subst (λ (z : Value). Holds is.variable.domain z) i is.in_domain)
        at n x v sx sv (inr f) = total.in_domain n x v sx (sym (set_other t r.0.n n r.1 f) ∙ sv)
