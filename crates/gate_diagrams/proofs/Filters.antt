-- Families of operands and gates are filters of the firable sets, made by meets, unions and differences.
use Rattle.std.proofs.Common.{◌≡◌, ℕ, Bool, true, false, not, ◌&&◌, ◌||◌, eqb, List, [], ◌∷◌, ◌++◌, refl, sym, ap, ap₂, ◌∙◌, eqb-true, eq-eqb}
use Rattle.ar_base.specs.Lists.{Stands}
use Rattle.zdd_nodes.specs.Families.{Family, holds}
use Rattle.zdd_nodes.specs.FamiliesInside.{IsInOrder, union, meet, minus, having}
use Rattle.zdd_nodes.proofs.Laws.{filter_alike, filter-all, filter-none, every, meet-filters}
use Rattle.zdd_nodes.proofs.Gates.{union-filters}
use Rattle.eq_core.specs.Gates.{Operand, Always, Never, EventIs, GateIs, Gate, opposite}
use Rattle.eq_core.specs.Values.{has_event, signed, operand_at, joint_at, values_from, values_at, value_at}
use Rattle.eq_core.proofs.Telling.{turned, gate_value}
use Rattle.eq_core.specs.Ordered.{AreBelow}
use Rattle.firable_families.specs.FirableInside.{IsOfMembers}
use Rattle.ar_base.specs.Sets.{Within}
use Rattle.ar_base.proofs.Truths.{alike}
use Rattle.zdd_nodes.proofs.Members.{holds_law}
use Rattle.zdd_nodes.proofs.Filters.{minus-filter}
use Rattle.gate_diagrams.specs.Needed.{family_at, joint_family}

-- ---- operands
pub eqb_turned : (x y : ℕ) → eqb x y ≡ eqb y x
eqb_turned x y = step (eqb x y) refl (eqb y x) refl
  where
    step : (a : Bool) → eqb x y ≡ a → (b : Bool) → eqb y x ≡ b → a ≡ b
    step true e true h = refl
    step true e false h = let g : eqb y x ≡ true = eq-eqb y x (sym (eqb-true x y e)) in sym g ∙ h
    step false e true h = let g : eqb x y ≡ true = eq-eqb x y (sym (eqb-true y x h)) in sym e ∙ g
    step false e false h = refl

pub has_event_holds : (set : List ℕ) (e : ℕ) → has_event set e ≡ holds e set
has_event_holds [] e = refl
has_event_holds (x ∷ set) e = ap₂ (λ a b. a || b) (eqb_turned x e) (has_event_holds set e)

pub family_of_event : (all : Family) (gates : List Gate) (e : ℕ) → family_at all gates (EventIs e true) ≡ having all e
unfolding family_at having
family_of_event all gates e = filter_alike (value_at gates (EventIs e true)) (holds e) all
    (every (λ s. value_at gates (EventIs e true) s ≡ holds e s) (λ s. has_event_holds s e) all)

pub family_of_always : (all : Family) (gates : List Gate) → family_at all gates Always ≡ all
unfolding family_at
family_of_always all gates = filter-all (value_at gates Always) all
    (every (λ s. value_at gates Always s ≡ true) (λ s. refl) all)

pub family_of_never : (all : Family) (gates : List Gate) → family_at all gates Never ≡ []
unfolding family_at
family_of_never all gates = filter-none (value_at gates Never) all
    (every (λ s. value_at gates Never s ≡ false) (λ s. refl) all)

-- operands with the same values
pub family_same : (all : Family) (g h : List Gate) (o p : Operand) → ((set : List ℕ) → value_at g o set ≡ value_at h p set)
    → family_at all g o ≡ family_at all h p
unfolding family_at
family_same all g h o p e = filter_alike (value_at g o) (value_at h p) all
    (every (λ s. value_at g o s ≡ value_at h p s) e all)

-- the other sign
pub family_of_opposite : (all : Family) (gates : List Gate) (o : Operand)
    → family_at all gates (opposite o) ≡ minus all (family_at all gates o)
unfolding family_at
family_of_opposite all gates o =
    filter_alike (value_at gates (opposite o)) (λ s. not (value_at gates o s)) all
    (every (λ s. value_at gates (opposite o) s ≡ not (value_at gates o s)) (λ s. turned s (values_at s gates) o)
    all)
    ∙ sym (minus-filter (value_at gates o) all)

-- ---- first so many operands
joint_one : (both : Bool) (s : List ℕ) (v : List Bool) (o : Operand) → joint_at both s v (o ∷ []) ≡ operand_at s v o
joint_one true s v o = elim (operand_at s v o) as (λ b. (b && true) ≡ b) [ true ↦ refl | false ↦ refl ]
joint_one false s v o = elim (operand_at s v o) as (λ b. (b || false) ≡ b) [ true ↦ refl | false ↦ refl ]

all_last : (s : List ℕ) (v : List Bool) (os : List Operand) (o : Operand)
    → joint_at true s v (os ++ o ∷ []) ≡ (joint_at true s v os && operand_at s v o)
all_last s v [] o = joint_one true s v o
all_last s v (p ∷ os) o = elim (operand_at s v p) as
    (λ b. (b && joint_at true s v (os ++ o ∷ [])) ≡ ((b && joint_at true s v os) && operand_at s v o))
    [ true ↦ all_last s v os o | false ↦ refl ]

any_last : (s : List ℕ) (v : List Bool) (os : List Operand) (o : Operand)
    → joint_at false s v (os ++ o ∷ []) ≡ (joint_at false s v os || operand_at s v o)
any_last s v [] o = joint_one false s v o
any_last s v (p ∷ os) o = elim (operand_at s v p) as
    (λ b. (b || joint_at false s v (os ++ o ∷ [])) ≡ ((b || joint_at false s v os) || operand_at s v o))
    [ true ↦ refl | false ↦ any_last s v os o ]

-- one operand alone
pub joint_first : (all : Family) (gates : List Gate) (both : Bool) (o : Operand)
    → joint_family all gates both (o ∷ []) ≡ family_at all gates o
unfolding joint_family family_at
joint_first all gates both o = filter_alike (λ s. joint_at both s (values_at s gates) (o ∷ [])) (value_at gates o) all
    (every (λ s. joint_at both s (values_at s gates) (o ∷ []) ≡ value_at gates o s)
    (λ s. joint_one both s (values_at s gates) o) all)

-- one operand more is met
pub joint_meet : (all : Family) (gates : List Gate) (os : List Operand) (o : Operand)
    → joint_family all gates true (os ++ o ∷ []) ≡ meet (joint_family all gates true os) (family_at all gates o)
unfolding joint_family family_at
joint_meet all gates os o =
    let j = λ (s : List ℕ). joint_at true s (values_at s gates) os in
    filter_alike (λ s. joint_at true s (values_at s gates) (os ++ o ∷ [])) (λ s. j s && value_at gates o s) all
    (every (λ s. joint_at true s (values_at s gates) (os ++ o ∷ []) ≡ (j s && value_at gates o s))
    (λ s. all_last s (values_at s gates) os o) all)
    ∙ sym (meet-filters j (value_at gates o) all)

-- one operand more is joined
pub joint_union : (all : Family) (gates : List Gate) (os : List Operand) (o : Operand) → IsInOrder all
    → joint_family all gates false (os ++ o ∷ []) ≡ union (joint_family all gates false os) (family_at all gates o)
unfolding joint_family family_at
joint_union all gates os o a =
    let j = λ (s : List ℕ). joint_at false s (values_at s gates) os in
    filter_alike (λ s. joint_at false s (values_at s gates) (os ++ o ∷ [])) (λ s. j s || value_at gates o s) all
    (every (λ s. joint_at false s (values_at s gates) (os ++ o ∷ []) ≡ (j s || value_at gates o s))
    (λ s. any_last s (values_at s gates) os o) all)
    ∙ sym (union-filters j (value_at gates o) all a)

-- ---- gates
pub family_of_gate : (all : Family) (gates : List Gate) (g : ℕ) (gate : Gate) → Stands gates g gate
    → AreBelow g gate.operands
    → family_at all gates (GateIs g true) ≡ joint_family all gates gate.both gate.operands
unfolding family_at joint_family
family_of_gate all gates g gate i b =
    filter_alike (value_at gates (GateIs g true)) (λ s. joint_at gate.both s (values_at s gates) gate.operands) all
    (every (λ s. value_at gates (GateIs g true) s ≡ joint_at gate.both s (values_at s gates) gate.operands)
    (λ s. gate_value s gates g gate i b) all)

module _ (s t : List ℕ) (v : Within s t) (w : Within t s) where
  event_same : (e : ℕ) → has_event s e ≡ has_event t e
  event_same e =
      has_event_holds s e
      ∙ alike (holds e s) (holds e t) (λ h. (holds_law e t).1 (v.each e ((holds_law e s).0 h)))
      (λ h. (holds_law e s).1 (w.each e ((holds_law e t).0 h)))
      ∙ sym (has_event_holds t e)

  operand_same : (values : List Bool) (o : Operand) → operand_at s values o ≡ operand_at t values o
  operand_same values Always = refl
  operand_same values Never = refl
  operand_same values (EventIs e sign) = ap (signed sign) (event_same e)
  operand_same values (GateIs g sign) = refl

  joint_same : (both : Bool) (values : List Bool) (os : List Operand)
      → joint_at both s values os ≡ joint_at both t values os
  joint_same both values [] = refl
  joint_same true values (o ∷ os) = ap₂ (λ a b. a && b) (operand_same values o) (joint_same true values os)
  joint_same false values (o ∷ os) = ap₂ (λ a b. a || b) (operand_same values o) (joint_same false values os)

  values_same : (before : List Bool) (gates : List Gate) → values_from s before gates ≡ values_from t before gates
  values_same before [] = refl
  values_same before (g ∷ gs) =
      ap (λ b. values_from s (before ++ b ∷ []) gs) (joint_same g.both before g.operands)
      ∙ values_same (before ++ joint_at g.both t before g.operands ∷ []) gs

  value_same : (gates : List Gate) (o : Operand) → value_at gates o s ≡ value_at gates o t
  value_same gates o = operand_same (values_at s gates) o ∙ ap (λ z. operand_at t z o) (values_same [] gates)

pub of_members : (gates : List Gate) (o : Operand) → IsOfMembers (value_at gates o)
of_members gates o = record { same = λ s t v w. value_same s t v w gates o }
