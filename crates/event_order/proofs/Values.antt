-- The values of operands over new numbers.
use Rattle.std.proofs.Common.{◌≡◌, ⊎_elim, inl, inr, ℕ, zero, suc, ◌<◌, Bool, true, false, ◌&&◌, ◌||◌, nat_eq, List, [], ◌∷◌, length, refl, sym, ap, ap₂, ◌∙◌, subst, arith, eqb-true, eq-eqb}
use Rattle.ar_base.specs.Lists.{Stands, IsOneOf, Along, one_and}
use Rattle.ar_base.specs.NumbersInside.{EventId}
use Rattle.ar_base.proofs.Standing.{stands_one, stands_within, stands_some, one_none, one_cases, one_first, one_rest, along_on, along_back, along_length}
use Rattle.ar_base.proofs.Truths.{alike}
use Rattle.eq_core.specs.Gates.{Operand, Always, Never, EventIs, GateIs, Gate}
use Rattle.eq_core.specs.Ordered.{AreBelow, NamesEarlier, AreOrdered}
use Rattle.eq_core.specs.Values.{has_event, value_of_gate, signed, operand_at, joint_at, values_at, value_at}
use Rattle.eq_core.specs.ValuesInside.{IsBelow}
use Rattle.eq_core.proofs.Telling.{gate_value, place_below}
use Rattle.eq_core.specs.Cones.{InGateCone, own, named}
use Rattle.event_order.specs.Renumbered.{IsNamed, IsNumberFor, IsRenamed, IsRenamedGate}
use Rattle.event_order.specs.Ordered.{RestsOn}
use Rattle.event_order.specs.Ordered.RestsOn.{own as names_it, inside}
use Rattle.event_order.proofs.Parts.{IsPartBy}

-- ---- members
has_true : (set : List ℕ) (e : ℕ) → IsOneOf set e → has_event set e ≡ true
has_true [] e one = absurd (one_none e one)
has_true (x ∷ xs) e one = ⊎_elim
    (λ p. ap (λ b. b || has_event xs e) (eq-eqb x e p))
    (λ o. or_true (nat_eq x e) (has_event xs e) (has_true xs e o))
    (one_cases x xs e one)
  where
    or_true : (a b : Bool) → b ≡ true → (a || b) ≡ true
    or_true true b h = refl
    or_true false b h = h

one_of : (set : List ℕ) (e : ℕ) → has_event set e ≡ true → IsOneOf set e
one_of [] e h = let wrong : ⊥ = cc in absurd wrong
one_of (x ∷ xs) e h = by (λ k. one_of xs e k) (nat_eq x e) refl
  where
    by : (has_event xs e ≡ true → IsOneOf xs e) → (b : Bool) → nat_eq x e ≡ b → IsOneOf (x ∷ xs) e
    by f true p = let same : x ≡ e = eqb-true x e p in subst (λ y. IsOneOf (x ∷ xs) y) same (one_first x xs)
    by f false p = one_rest x xs e (f (sym (ap (λ b. b || has_event xs e) p) ∙ h))

-- ---- renamed gates are in order where the others are
renamed_earlier : (names : List EventId) (n : ℕ) (o p : Operand) → IsRenamed names o p → NamesEarlier n o → NamesEarlier n p
renamed_earlier names n Always p r h = absurd h
renamed_earlier names n Never p r h = absurd h
renamed_earlier names n (EventIs e sign) p r h = subst (NamesEarlier n) (sym r.1) tt
renamed_earlier names n (GateIs g sign) p r h = subst (NamesEarlier n) (sym r) h

pub renamed_below : (names : List EventId) (n : ℕ) (o p : Operand) → IsRenamed names o p → IsBelow n o → IsBelow n p
renamed_below names n Always p r h = subst (IsBelow n) (sym r) tt
renamed_below names n Never p r h = subst (IsBelow n) (sym r) tt
renamed_below names n (EventIs e sign) p r h = subst (IsBelow n) (sym r.1) tt
renamed_below names n (GateIs g sign) p r h = subst (IsBelow n) (sym r) h

pub renamed_ordered : (names : List EventId) (olds news : List Gate) → Along (IsRenamedGate names) olds news
    → AreOrdered olds → AreOrdered news
renamed_ordered names olds news along a = record {
  each = λ n gate st.
      let w = along_back olds news along n gate st in
      let old = a.each n w.0 w.1 in record {
        two = let l = old.two in omega (arith, l, along_length w.0.operands gate.operands w.2.operands);
        earlier = λ p o.
            let y = along_back w.0.operands gate.operands w.2.operands o.place p o.stands in
            renamed_earlier names n y.0 p y.2 (old.earlier y.0 (record { place = o.place; stands = y.1 }));
      };
}

-- ---- values
module _ (names : List EventId) (olds news : List Gate) (root : Operand) (a : AreOrdered olds)
    (root_in : IsBelow (length olds) root) (along : Along (IsRenamedGate names) olds news) (t s : List ℕ)
    (part : IsPartBy names t s)
    (lacks : (e : ℕ) → RestsOn olds root e → (IsNamed names e → ⊥) → IsOneOf s e → ⊥) where
  event_same : (e i : ℕ) → RestsOn olds root e → IsNumberFor names e i → has_event t i ≡ has_event s e
  event_same e i rests (inl w) = alike (has_event t i) (has_event s e)
      (λ h.
      let y = part.sound i (one_of t i h) in
      let same : y.0 ≡ w.0 = stands_one names i y.0 w.0 y.1 w.1 in
      has_true s e (subst (λ k. IsOneOf s k) (ap (λ (n : EventId). n.n) same ∙ w.2) y.2))
      (λ h. has_true t i (part.whole i w.0 w.1 (subst (λ k. IsOneOf s k) (sym w.2) (one_of s e h))))
  event_same e i rests (inr w) = alike (has_event t i) (has_event s e)
      (λ h.
      let y = part.sound i (one_of t i h) in
      let l = stands_within names i y.0 y.1 in
      let high = w.0 in
      absurd (omega (arith, l, high)))
      (λ h. absurd (lacks e rests w.1 (one_of s e h)))

  operand_same : (vs ws : List Bool) → ((g : ℕ) → InGateCone olds root g → value_of_gate ws g ≡ value_of_gate vs g)
      → (o p : Operand) → IsRenamed names o p → ((e : ℕ) (sign : Bool) → o ≡ EventIs e sign → RestsOn olds root e)
      → ((g : ℕ) (sign : Bool) → o ≡ GateIs g sign → InGateCone olds root g)
      → operand_at t ws p ≡ operand_at s vs o
  operand_same vs ws v Always p r events gates = ap (operand_at t ws) r
  operand_same vs ws v Never p r events gates = ap (operand_at t ws) r
  operand_same vs ws v (EventIs e sign) p r events gates =
      ap (operand_at t ws) r.1 ∙ ap (signed sign) (event_same e r.0 (events e sign refl) r.2)
  operand_same vs ws v (GateIs g sign) p r events gates =
      ap (operand_at t ws) r ∙ ap (signed sign) (v g (gates g sign refl))

  joint_same : (both : Bool) (vs ws : List Bool)
      → (os ps : List Operand) → Along (IsRenamed names) os ps
      → ((o p : Operand) → IsOneOf os o → IsRenamed names o p → operand_at t ws p ≡ operand_at s vs o)
      → joint_at both t ws ps ≡ joint_at both s vs os
  joint_same both vs ws [] [] along v = refl
  joint_same both vs ws [] (p ∷ ps) along v = elim along [ ]
  joint_same both vs ws (o ∷ os) [] along v = elim along [ ]
  joint_same true vs ws (o ∷ os) (p ∷ ps) (one_and r rest) v = ap₂ (λ b c. b && c) (v o p (one_first o os) r)
      (joint_same true vs ws os ps rest (λ x y i w. v x y (one_rest o os x i) w))
  joint_same false vs ws (o ∷ os) (p ∷ ps) (one_and r rest) v = ap₂ (λ b c. b || c) (v o p (one_first o os) r)
      (joint_same false vs ws os ps rest (λ x y i w. v x y (one_rest o os x i) w))

  cone_in : {g : ℕ} → InGateCone olds root g → g < length olds
  cone_in (own {g = g} {sign = sign} e) = subst (IsBelow (length olds)) e root_in
  cone_in (named {g = g} {h = h} {gate = gate} {sign = sign} c st o) =
      let l = (place_below (a.each g gate st)).each (GateIs h sign) o in
      let m = stands_within olds g gate st in
      omega (arith, l, m)

  -- the values of the gate of this number, where the gates of the cone before it have theirs
  module _ (g : ℕ) (ih : (h : ℕ) → h < g → InGateCone olds root h
      → value_of_gate (values_at t news) h ≡ value_of_gate (values_at s olds) h) (c : InGateCone olds root g) where
    one_same : (gate : Gate) → Stands olds g gate → (o p : Operand) → IsOneOf gate.operands o → IsRenamed names o p
        → operand_at t (values_at t news) p ≡ operand_at s (values_at s olds) o
    one_same gate st Always p i r = ap (operand_at t (values_at t news)) r
    one_same gate st Never p i r = ap (operand_at t (values_at t news)) r
    one_same gate st (EventIs e sign) p i r =
        ap (operand_at t (values_at t news)) r.1 ∙ ap (signed sign) (event_same e r.0 (inside c st i) r.2)
    one_same gate st (GateIs h sign) p i r =
        let l = (place_below (a.each g gate st)).each (GateIs h sign) i in
        ap (operand_at t (values_at t news)) r ∙ ap (signed sign) (ih h l (named c st i))

    new_below : (old new : Gate) → Stands olds g old → IsRenamedGate names old new → AreBelow g new.operands
    new_below old new st r = record {
      each = λ p o.
          let y = along_back old.operands new.operands r.operands o.place p o.stands in
          renamed_below names g y.0 p y.2
          ((place_below (a.each g old st)).each y.0 (record { place = o.place; stands = y.1 }));
    }

    at_same : (old new : Gate) → Stands olds g old → Stands news g new → IsRenamedGate names old new
        → value_of_gate (values_at t news) g ≡ value_of_gate (values_at s olds) g
    at_same old new so sn r =
        gate_value t news g new sn (new_below old new so r)
        ∙ ap (λ b. joint_at b t (values_at t news) new.operands) r.both
        ∙ joint_same old.both (values_at s olds) (values_at t news) old.operands new.operands r.operands
        (λ o p i w. one_same old so o p i w)
        ∙ sym (gate_value s olds g old so (place_below (a.each g old so)))

  gate_same : (fuel g : ℕ) → g < fuel → InGateCone olds root g
      → value_of_gate (values_at t news) g ≡ value_of_gate (values_at s olds) g
  gate_same zero g f c = absurd (omega (arith, f))
  gate_same (suc fuel) g f c =
      let old = stands_some olds g (cone_in c) in
      let new = along_on olds news along g old.0 old.1 in
      at_same g (λ h l d. gate_same fuel h (omega (arith, l, f)) d) c old.0 new.0 old.1 new.1 new.2

  pub value_same : (p : Operand) → IsRenamed names root p → value_at news p t ≡ value_at olds root s
  value_same p r = operand_same (values_at s olds) (values_at t news) (λ g c. gate_same (suc g) g (omega arith) c) root p r
      (λ e sign q. names_it q) (λ g sign q. own q)
