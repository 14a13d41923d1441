-- The operands of a gate, one after the other, and the gates of a table.
use Rattle.std.proofs.Common.{◌≡◌, ◌<◌, ◌≤◌, ◌+◌, ⊎_elim, ℕ, zero, suc, Bool, true, false, List, [], ◌∷◌, ◌++◌, length, length-append, drop, Option, refl, sym, ap, ◌∙◌, subst, arith}
use Rattle.std.specs.Int.{from_bool}
use Rattle.ar_base.specs.Lists.{Stands, IsOneOf}
use Rattle.ar_base.proofs.Standing.{stands_one, stands_none, stands_split, stands_within}
use Rattle.zdd_nodes.specs.Families.{Family}
use Rattle.zdd_nodes.specs.Nodes.{NodeId, Stored, family, IsFamilyNumber}
use Rattle.eq_core.specs.Gates.{Operand, GateIs, Gate}
use Rattle.eq_core.specs.Ordered.{AreOrdered}
use Rattle.eq_core.specs.Values.{operand_at, joint_at, values_at, value_at}
use Rattle.eq_core.specs.ValuesInside.{IsBelow}
use Rattle.eq_core.proofs.Telling.{gate_value, place_below}
use Rattle.eq_core.specs.Cones.{own, named}
use Rattle.eq_core.specs.Marks.{AreConeMarks}
use Rattle.diagram_steps.specs.Putting.{Extends}
use Rattle.diagram_steps.specs.declared.trees.NumberedTree.{NumberedTree}
use Rattle.diagram_steps.proofs.Growing.{kept, still}
use Rattle.least_families.specs.declared.memo.Operation.{Operation}
use Rattle.least_families.specs.Least.{AreLeast}
use Rattle.least_families.specs.Kept.{KeepsHeld, IsOperand}
use Rattle.least_families.proofs.Held.{keeps_then}
use Rattle.least_families.proofs.Steps.{operand_kept}
use Rattle.std.proofs.lemmas.Bool.{cases_eq}
use Rattle.coherent_cuts.specs.Coherent.{IsPlain, ArePlain, IsCoherent}
use Rattle.coherent_cuts.specs.Gates.{HasPathsUpTo, IsFamilyOf, IsFamilyOfJoint, IsJoined, AreTabledOperands, IsTabled, EachTabled}
use Rattle.coherent_cuts.proofs.Families.{both_least, either_least, never_least, always_least}

-- ---- families in a store that grows
pub family_kept : (order : Option ℕ) (ns : List NumberedTree) (gates : List Gate) (o : Operand) (s t : Stored) (n : ℕ)
    → Extends s t → IsFamilyOf order ns gates o s n → IsFamilyOf order ns gates o t n
family_kept order ns gates o s t n g f = record {
  in_store = still s t n g f.in_store;
  least = subst (AreLeast (HasPathsUpTo order ns) (value_at gates o)) (sym (kept s t n g f.in_store)) f.least;
}

pub tabled_kept : (table : List NodeId) (s t : Stored) → Extends s t → AreTabledOperands table s → AreTabledOperands table t
tabled_kept table s t g a = record { each = λ h n st. operand_kept s t n.n g (a.each h n st) }

pub each_kept : (order : Option ℕ) (ns : List NumberedTree) (gates : List Gate) (table : List NodeId) (s t : Stored)
    (o : Operand) → Extends s t → IsTabled order ns gates table s o → IsTabled order ns gates table t o
each_kept order ns gates table s t o g a =
    record { gate = λ h sign n e st. family_kept order ns gates (GateIs h true) s t n.n g (a.gate h sign n e st) }

pub joined_operand : (order : Option ℕ) (both : Bool) (f g : Family) (s : Stored) (n : ℕ) → IsJoined order both f g s n
    → IsOperand s n
joined_operand order true f g s n j = record { in_store = j.in_store; apart = j.least.apart }
joined_operand order false f g s n j = record { in_store = j.in_store; apart = j.least.apart }

-- ---- operand after operand
drop_at : (os : List Operand) (k : ℕ) (o : Operand) → Stands os k o → drop k os ≡ o ∷ drop (suc k) os
drop_at [] k o st = absurd (stands_none k o st)
drop_at (p ∷ os) zero o st = let same : p ≡ o = cc in ap (λ q. q ∷ os) same
drop_at (p ∷ os) (suc k) o st = drop_at os k o st

drop_all : (os : List Operand) (k : ℕ) → k ≡ length os → drop k os ≡ []
drop_all [] zero e = refl
drop_all [] (suc k) e = absurd (omega (arith, e))
drop_all (o ∷ os) zero e = absurd (omega (arith, e))
drop_all (o ∷ os) (suc k) e = drop_all os k (omega (arith, e))

pub record IsFolded (order : Option ℕ) (ns : List NumberedTree) (table : List NodeId) (old : Stored) (both : Bool)
    (os : List Operand) (left : ℕ) (entries : List (Operation × NodeId)) (s : Stored) (n : ℕ) : Type 0 where
  pub within : left ≤ length os
  pub kept : KeepsHeld old entries s
  pub operand : IsOperand s n
  pub least : (gates : List Gate) → EachTabled order ns gates table old os
      → AreLeast (HasPathsUpTo order ns) (λ set. joint_at both set (values_at set gates) (drop left os)) (family s n)

-- the family of no operands
constant : (order : Option ℕ) (ns : List NumberedTree) (both : Bool) (gates : List Gate) (s : Stored) (n : ℕ)
    → n ≡ from_bool both → AreLeast (HasPathsUpTo order ns) (λ set. both) (family s n)
constant order ns true gates s n e = always_least order ns (family s n) (ap (family s) e)
constant order ns false gates s n e = never_least (family s n) (ap (family s) e)

constant_number : (both : Bool) (s : Stored) (n : ℕ) → n ≡ from_bool both → IsFamilyNumber s n
constant_number true s n e = omega (arith, e)
constant_number false s n e = omega (arith, e)

pub folded_none : (order : Option ℕ) (ns : List NumberedTree) (table : List NodeId) (old : Stored) (both : Bool)
    (os : List Operand) (left : ℕ) (entries : List (Operation × NodeId)) (n : ℕ) → left ≡ length os
    → n ≡ from_bool both → KeepsHeld old entries old → IsFolded order ns table old both os left entries old n
folded_none order ns table old both os left entries n e z k = record {
  within = omega (arith, e);
  kept = k;
  operand = record {
    in_store = constant_number both old n z;
    apart = (constant order ns both [] old n z).apart;
  };
  least = λ gates each.
      subst (λ ps. AreLeast (HasPathsUpTo order ns) (λ set. joint_at both set (values_at set gates) ps) (family old n))
      (sym (drop_all os left e)) (constant order ns both gates old n z);
}

joined_least : (order : Option ℕ) (ns : List NumberedTree) (both : Bool) (gates : List Gate) (o : Operand)
    (os : List Operand) (f g : Family) (s : Stored) (n : ℕ)
    → AreLeast (HasPathsUpTo order ns) (λ set. operand_at set (values_at set gates) o) f
    → AreLeast (HasPathsUpTo order ns) (λ set. joint_at both set (values_at set gates) os) g
    → IsJoined order both f g s n
    → AreLeast (HasPathsUpTo order ns) (λ set. joint_at both set (values_at set gates) (o ∷ os)) (family s n)
joined_least order ns true gates o os f g s n a b j = both_least order ns f g
    (λ set. operand_at set (values_at set gates) o) (λ set. joint_at true set (values_at set gates) os) a b (family s n)
    j.least
joined_least order ns false gates o os f g s n a b j = either_least order ns f g
    (λ set. operand_at set (values_at set gates) o) (λ set. joint_at false set (values_at set gates) os) a b (family s n)
    j.least

pub folded_more : (order : Option ℕ) (ns : List NumberedTree) (table : List NodeId) (old : Stored) (both : Bool)
    (os : List Operand) (k : ℕ) (es fs gs : List (Operation × NodeId)) (s t u : Stored) (so_far next r : ℕ) (o : Operand)
    → Stands os k o → IsFolded order ns table old both os (suc k) es s so_far → KeepsHeld s fs t → IsOperand t next
    → ((gates : List Gate) → IsTabled order ns gates table s o → IsFamilyOf order ns gates o t next) → KeepsHeld t gs u
    → IsJoined order both (family t next) (family t so_far) u r → IsFolded order ns table old both os k gs u r
folded_more order ns table old both os k es fs gs s t u so_far next r o st f ks on made ku j = record {
  within = let w = f.within in omega (arith, w);
  kept = keeps_then old s u es gs f.kept (keeps_then s t u fs gs ks ku);
  operand = joined_operand order both (family t next) (family t so_far) u r j;
  least = λ gates each.
      let tabled = each_kept order ns gates table old s o f.kept.grows (each.each o (record { place = k; stands = st })) in
      subst (λ ps. AreLeast (HasPathsUpTo order ns) (λ set. joint_at both set (values_at set gates) ps) (family u r))
      (sym (drop_at os k o st))
      (joined_least order ns both gates o (drop (suc k) os) (family t next) (family t so_far) u r
      (made gates tabled).least
      (subst (AreLeast (HasPathsUpTo order ns) (λ set. joint_at both set (values_at set gates) (drop (suc k) os)))
      (sym (kept s t so_far ks.grows f.operand.in_store)) (f.least gates each)) j);
}

pub folded_all : (order : Option ℕ) (ns : List NumberedTree) (table : List NodeId) (old : Stored) (both : Bool)
    (os : List Operand) (left : ℕ) (es : List (Operation × NodeId)) (s : Stored) (n : ℕ) → left ≡ 0
    → IsFolded order ns table old both os left es s n → (gates : List Gate) → EachTabled order ns gates table old os
    → IsFamilyOfJoint order ns gates both os s n
folded_all order ns table old both os left es s n z f gates each = record {
  in_store = f.operand.in_store;
  least = subst (λ k. AreLeast (HasPathsUpTo order ns) (λ set. joint_at both set (values_at set gates) (drop k os))
      (family s n)) z (f.least gates each);
}

-- ---- gate after gate
pub record IsMaking (order : Option ℕ) (ns : List NumberedTree) (gates : List Gate) (marks : List Bool) (k : ℕ)
    (table : List NodeId) (s : Stored) : Type 0 where
  pub long : length table ≡ k
  pub numbers : AreTabledOperands table s
  pub made : (g : ℕ) (n : NodeId) → Stands table g n → Stands marks g true
      → IsFamilyOf order ns gates (GateIs g true) s n.n

pub making_begins : (order : Option ℕ) (ns : List NumberedTree) (gates : List Gate) (marks : List Bool) (s : Stored)
    → IsMaking order ns gates marks 0 [] s
making_begins order ns gates marks s = record {
  long = refl;
  numbers = record { each = λ g n st. absurd (stands_none g n st) };
  made = λ g n st m. absurd (stands_none g n st);
}

module _ (order : Option ℕ) (ns : List NumberedTree) (gates : List Gate) (root : Operand) (marks : List Bool)
    (ordered : AreOrdered gates) (root_in : IsBelow (length gates) root) (m : AreConeMarks gates root marks) where
  pub gate_tabled : (k : ℕ) (gate : Gate) (table : List NodeId) (s : Stored) → Stands gates k gate
      → Stands marks k true → IsMaking order ns gates marks k table s → EachTabled order ns gates table s gate.operands
  gate_tabled k gate table s st mk d = record {
    each = λ o one. record {
      gate = λ h sign n e at.
          let o_is = subst (IsOneOf gate.operands) e one in
          let low = (place_below (ordered.each k gate st)).each (GateIs h sign) o_is in
          let inside = stands_within gates k gate st in
          d.made h n at (m.whole h (named (m.sound k mk) st o_is) (omega (arith, low, inside)));
    };
  }

  pub root_tabled : (k : ℕ) (table : List NodeId) (s : Stored) → IsMaking order ns gates marks k table s
      → IsTabled order ns gates table s root
  root_tabled k table s d = record {
    gate = λ g sign n e at. d.made g n at (m.whole g (own e) (subst (IsBelow (length gates)) e root_in));
  }

  pub gate_plain : IsCoherent gates root → (k : ℕ) (gate : Gate) → Stands gates k gate → Stands marks k true
      → ArePlain gate.operands
  gate_plain c k gate st mk = c.operands k gate (m.sound k mk) st

  pub making_next : (k : ℕ) (gate : Gate) (table : List NodeId) (s t : Stored) (n : NodeId) → Stands gates k gate
      → IsMaking order ns gates marks k table s → Extends s t → IsOperand t n.n
      → (Stands marks k true → IsFamilyOfJoint order ns gates gate.both gate.operands t n.n)
      → IsMaking order ns gates marks (k + 1) (table ++ n ∷ []) t
  making_next k gate table s t n st d grows operand joint = record {
    long = omega (arith, d.long, length-append table (n ∷ []));
    numbers = record {
      each = λ g x at. ⊎_elim
          (λ p. operand_kept s t x.n grows (d.numbers.each g x p))
          (λ r. last_number g x r.0 r.2)
          (stands_split table (n ∷ []) g x at);
    };
    made = λ g x at mk. ⊎_elim
        (λ p. family_kept order ns gates (GateIs g true) s t x.n grows (d.made g x p mk))
        (λ r. new g x r.0 r.1 r.2 mk)
        (stands_split table (n ∷ []) g x at);
  }
    where
      last_number : (g : ℕ) (x : NodeId) (j : ℕ) → Stands (n ∷ []) j x → IsOperand t x.n
      last_number g x zero so = let same : n ≡ x = cc in subst (λ (y : NodeId). IsOperand t y.n) same operand
      last_number g x (suc j) so = absurd (stands_none j x so)

      at_gate : IsFamilyOfJoint order ns gates gate.both gate.operands t n.n → IsFamilyOf order ns gates (GateIs k true) t n.n
      at_gate f = record {
        in_store = f.in_store;
        least = record {
          apart = f.least.apart;
          each = f.least.each;
          at = λ set p. f.least.at set p ∙ sym (gate_value set gates k gate st (place_below (ordered.each k gate st)));
        };
      }

      new : (g : ℕ) (x : NodeId) (j : ℕ) → g ≡ length table + j → Stands (n ∷ []) j x → Stands marks g true
          → IsFamilyOf order ns gates (GateIs g true) t x.n
      new g x zero q so mk =
          let same : n ≡ x = cc in
          let here : k ≡ g = omega (arith, q, d.long) in
          let a = at_gate (joint (subst (λ i. Stands marks i true) (sym here) mk)) in
          subst (λ i. IsFamilyOf order ns gates (GateIs i true) t x.n) here
          (subst (λ (y : NodeId). IsFamilyOf order ns gates (GateIs k true) t y.n) same a)
      new g x (suc j) q so mk = absurd (stands_none j x so)

-- ---- operands without signs
pub record AreFirstPlain (os : List Operand) (k : ℕ) : Type 0 where
  pub each : (j : ℕ) (o : Operand) → j < k → Stands os j o → IsPlain o

pub plain_more : (os : List Operand) (k : ℕ) (o : Operand) → Stands os k o → IsPlain o → AreFirstPlain os k
    → AreFirstPlain os (k + 1)
plain_more os k o st p a = record {
  each = λ j q lt so. ⊎_elim
      (λ (e : j ≡ k).
      let same = stands_one os k q o (subst (λ z. Stands os z q) e so) st in subst IsPlain (sym same) p)
      (λ differs. a.each j q (let x : j < k = grind (arith, lt, differs) in x) so)
      (cases_eq j k);
}

pub plain_all : (os : List Operand) (k : ℕ) → length os ≤ k → AreFirstPlain os k → ArePlain os
plain_all os k h a = record {
  each = λ o one.
      let w = stands_within os one.place o one.stands in a.each one.place o (omega (arith, w, h)) one.stands;
}

pub record AreGatesPlain (gates : List Gate) (marks : List Bool) (k : ℕ) : Type 0 where
  pub each : (g : ℕ) (gate : Gate) → g < k → Stands gates g gate → Stands marks g true → ArePlain gate.operands

pub gates_more : (gates : List Gate) (marks : List Bool) (k : ℕ) (gate : Gate) → Stands gates k gate
    → (Stands marks k true → ArePlain gate.operands) → AreGatesPlain gates marks k → AreGatesPlain gates marks (k + 1)
gates_more gates marks k gate st p a = record {
  each = λ g other lt so m. ⊎_elim
      (λ (e : g ≡ k).
      let same = stands_one gates k other gate (subst (λ z. Stands gates z other) e so) st in
      subst (λ (y : Gate). ArePlain y.operands) (sym same) (p (subst (λ z. Stands marks z true) e m)))
      (λ differs. a.each g other (let x : g < k = grind (arith, lt, differs) in x) so m)
      (cases_eq g k);
}

pub gates_all : (gates : List Gate) (root : Operand) (marks : List Bool) (k : ℕ) → length gates ≤ k
    → AreConeMarks gates root marks → IsPlain root → AreGatesPlain gates marks k → IsCoherent gates root
gates_all gates root marks k h m p a = record {
  own = p;
  operands = λ g gate c st.
      let w = stands_within gates g gate st in a.each g gate (omega (arith, w, h)) st (m.whole g c w);
}
