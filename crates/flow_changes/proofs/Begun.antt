-- The values of the new state, and the values of flows that have no fact.
use Rattle.std.proofs.Common.{◌≡◌, ℕ, suc, ◌+◌, ◌<◌, ◌≤◌, ◌⊎◌, inl, inr, Bool, true, false, cond, List, [], ◌∷◌, take, drop, set, length, slice_get, Some, refl, sym, ap, ◌∙◌, subst, arith, length-set, take_all}
use Rattle.std.proofs.lemmas.Bool.{cases_eq}
use Rattle.ar_base.specs.Lists.{Stands, IsOneOf}
use Rattle.ar_base.specs.Numbers.{VarId}
use Rattle.ar_base.proofs.Standing.{stands_one, stands_within, one_none, one_here, stands_map, stands_map_back}
use Rattle.domains.specs.declared.Value.{Value}
use Rattle.domains.specs.declared.Value.TheVariants.{Truth}
use Rattle.gts_core.specs.declared.system.Variable.{Variable}
use Rattle.gts_core.specs.declared.system.GtsParts.{GtsParts}
use Rattle.flow_propagate.specs.NewValues.{written, AreNewValues}
use Rattle.flow_changes.specs.Picking.{AreWithin}
use Rattle.flow_changes.specs.Known.{changing_numbers, Resets}
use Rattle.flow_changes.proofs.Picks.{set_same, set_other, drop_next, drop_none, one_taken, one_before, one_now}

pub written_next : (cur : List Value) (new : List (VarId × Value)) (i : ℕ) (r : VarId × Value) → Stands new i r
    → written (set cur r.0.n r.1) (drop (i + 1) new) ≡ written cur (drop i new)
written_next cur new i r s = ap (λ (z : List (VarId × Value)). written cur z) (sym (drop_next new i r s))

pub written_done : (cur : List Value) (new : List (VarId × Value)) (i : ℕ) → length new ≤ i
    → written cur (drop i new) ≡ cur
written_done cur new i h = ap (λ (z : List (VarId × Value)). written cur z) (drop_none new i h)

module _ (p : GtsParts) (members : List ℕ) (known : List Bool) (old : List Value) where
  pub resets_none : Resets p (take 0 members) known old old
  resets_none = record {
    keeps = record { long = refl; others = λ n o. refl };
    marked = λ n s. refl;
    declared = λ n x w o. absurd (one_none n o);
  }

  pub resets_next : (i n : ℕ) (x : Variable) (k : Bool) (v w : Value) (new : List Value) → Stands members i n
      → Stands p.variables.items n x → Stands known n k → Stands new n v → w ≡ cond k v x.value
      → Resets p (take i members) known old new
      → Resets p (take (i + 1) members) known old (set new n w)
  resets_next i n x k v w new st sx sk sv is r = record {
    keeps = record {
      long = length-set new n w ∙ r.keeps.long;
      others = λ m o. set_other new n m w
          (λ e. o (subst (λ (z : ℕ). IsOneOf (take (i + 1) members) z) (sym e) (one_now members i n st)))
          ∙ r.keeps.others m (λ h. o (one_before members i n m st h));
    };
    marked = λ m s. marks m s (cases_eq m n);
    declared = λ m y u o sy not s. value m y u sy not s (cases_eq m n) (one_taken members i n m st o);
  }
    where
      here : Stands (set new n w) n w
      here = set_same new n w (stands_within new n v sv)

      marks : (m : ℕ) → Stands known m true → (m ≡ n) ⊎ (m ≡ n → ⊥) → slice_get (set new n w) m ≡ slice_get old m
      marks m s (inl e) =
          let t : Stands known n true = subst (λ (z : ℕ). Stands known z true) e s in
          let j : k ≡ true = stands_one known n k true sk t in
          let a : w ≡ v = is ∙ ap (λ (b : Bool). cond b v x.value) j in
          subst (λ (z : ℕ). slice_get (set new n w) z ≡ slice_get old z) (sym e)
          (here ∙ ap Some a ∙ sym sv ∙ r.marked n t)
      marks m s (inr f) = set_other new n m w f ∙ r.marked m s

      unset : (b : Bool) → Stands known n b → (Stands known n true → ⊥) → b ≡ false
      unset true s not = absurd (not s)
      unset false s not = refl

      value : (m : ℕ) (y : Variable) (u : Value) → Stands p.variables.items m y → (Stands known m true → ⊥)
          → Stands (set new n w) m u → (m ≡ n) ⊎ (m ≡ n → ⊥) → IsOneOf (take i members) m ⊎ (n ≡ m) → u ≡ y.value
      value m y u sy not s (inl e) o =
          let same : x ≡ y = stands_one p.variables.items n x y sx
          (subst (λ (z : ℕ). Stands p.variables.items z y) e sy) in
          let a : w ≡ u = stands_one (set new n w) n w u here (subst (λ (z : ℕ). Stands (set new n w) z u) e s) in
          let j : k ≡ false = unset k sk (λ t. not (subst (λ (z : ℕ). Stands known z true) (sym e) t)) in
          sym a ∙ is ∙ ap (λ (b : Bool). cond b v x.value) j ∙ ap (λ (z : Variable). z.value) same
      value m y u sy not s (inr f) (inl o) = r.declared m y u o sy not (sym (set_other new n m w f) ∙ s)
      value m y u sy not s (inr f) (inr e) = absurd (f (sym e))

  pub resets_done : (i : ℕ) (new : List Value) → length members ≤ i → Resets p (take i members) known old new
      → Resets p members known old new
  resets_done i new h r = subst (λ (z : List ℕ). Resets p z known old new) (take_all i members h) r

pub new_there : (new : List (VarId × Value)) (i : ℕ) (r : VarId × Value) → Stands new i r
    → Stands (changing_numbers new) i r.0.n
new_there new i r s = stands_map (λ (r : VarId × Value). r.0.n) new i r s

pub new_within : {A : Type 0} (new : List (VarId × Value)) (all : List A) → AreWithin (changing_numbers new) all
    → (i : ℕ) (r : VarId × Value) → Stands new i r → r.0.n < length all
new_within new all w i r s = w r.0.n (record { place = i; stands = new_there new i r s })

-- what stands for no pair where a list of new values is read
abbrev pub no_pair : VarId × Value
no_pair = (record { n = 0; of = record {} }, Truth false)

pub numbers_long : (new : List (VarId × Value)) → length (changing_numbers new) ≡ length new
numbers_long [] = refl
numbers_long (r ∷ new) = ap suc (numbers_long new)

-- the variables that get new values are those of the system
pub new_inside : (p : GtsParts) (new : List (VarId × Value)) → AreNewValues p new
    → AreWithin (changing_numbers new) p.variables.items
new_inside p new are n o =
    let r = stands_map_back (λ (r : VarId × Value). r.0.n) new o.place n o.stands in
    let is = are.each r.0 (one_here new o.place r.0 r.1) in
    subst (λ (z : ℕ). z < length p.variables.items) r.2 (stands_within p.variables.items r.0.0.n is.variable is.stands)

-- lists of one length have the same numbers within them
pub within_long : {A B : Type 0} (numbers : List ℕ) (xs : List A) (ys : List B) → length xs ≡ length ys
    → AreWithin numbers xs → AreWithin numbers ys
within_long numbers xs ys e w n o = let h = w n o in omega (arith, h, e)
