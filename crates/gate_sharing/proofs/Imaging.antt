-- Images of gates have the gates' values.
use Rattle.std.proofs.Common.{◌≡◌, inl, inr, ⊎_elim, ℕ, ◌<◌, Bool, true, false, ◌&&◌, ◌||◌, List, [], ◌∷◌, ◌++◌, map, get_or, length, Ok, refl, sym, ap, ap₂, ◌∙◌, subst, arith}
use Rattle.std.proofs.lemmas.Bool.{or_cases, or_left, or_right}
use Rattle.ar_base.specs.Lists.{Stands, IsOneOf}
use Rattle.ar_base.proofs.Standing.{stands_one, stands_within, stands_get, stands_split, stands_none, stands_alone, one_first, one_rest}
use Rattle.eq_core.specs.Gates.{Operand, Always, Never, EventIs, GateIs, Gate, Table}
use Rattle.eq_core.specs.Ordered.{AreBelow, AreOrdered, IsOrderedTable}
use Rattle.eq_core.specs.Values.{signed, operand_at, joint_at, values_at, value_at}
use Rattle.eq_core.specs.ValuesInside.{IsBelow, GainsGates}
use Rattle.eq_core.specs.Views.{operand_of}
use Rattle.eq_core.specs.declared.joints.Operand as code
use Rattle.eq_core.proofs.Telling.{gate_value, place_below, turned, opposite_below, value_kept, below_kept}
use Rattle.eq_core.specs.Cones.{own, named}
use Rattle.eq_core.specs.Marks.{AreConeMarks}
use Rattle.gate_sharing.specs.Images.{with_sign, image, needed_for, RestsOnGate, IsGateImage, AreImages, AddsImage}
use Rattle.gate_sharing.specs.Literals.{AreEnough}
use Rattle.gate_sharing.specs.Sharing.{AddsGates}
use Rattle.gate_sharing.specs.Simplified.{HaveSameValues}
use Rattle.gate_sharing.proofs.Alls.{one_unmapped}
use Rattle.gate_sharing.proofs.Making.{morgan_back}

pub sign_below : (n : ℕ) (sign : Bool) (o : Operand) → IsBelow n o → IsBelow n (with_sign sign o)
sign_below n true o h = h
sign_below n false o h = opposite_below n o h

sign_value : (set : List ℕ) (gates : List Gate) (sign : Bool) (o : Operand)
    → value_at gates (with_sign sign o) set ≡ signed sign (value_at gates o set)
sign_value set gates true o = refl
sign_value set gates false o = turned set (values_at set gates) o

gate_sign : (set : List ℕ) (gates : List Gate) (n : ℕ) (sign : Bool)
    → value_at gates (GateIs n sign) set ≡ signed sign (value_at gates (GateIs n true) set)
gate_sign set gates n true = refl
gate_sign set gates n false = refl

pub twice : (both b : Bool) → signed both (signed both b) ≡ b
twice true b = refl
twice false true = refl
twice false false = refl

-- a joint over images, each with the value of its operand
joint_same : (both : Bool) (set : List ℕ) (v w : List Bool) (f : Operand → Operand) (os : List Operand)
    → ((p : Operand) → IsOneOf os p → operand_at set v (f p) ≡ operand_at set w p)
    → joint_at both set v (map f os) ≡ joint_at both set w os
joint_same both set v w f [] h = refl
joint_same true set v w f (o ∷ os) h =
    ap₂ (λ a b. a && b) (h o (one_first o os)) (joint_same true set v w f os (λ p m. h p (one_rest o os p m)))
joint_same false set v w f (o ∷ os) h =
    ap₂ (λ a b. a || b) (h o (one_first o os)) (joint_same false set v w f os (λ p m. h p (one_rest o os p m)))

image_kept : {old new more : List Gate} {n : ℕ} {o : Operand} → GainsGates new more → IsGateImage old new n o → IsGateImage old more n o
image_kept {o = o} grown i = record {
  below = below_kept o grown i.below;
  same = λ set. value_kept set o grown i.below ∙ i.same set;
}

pub images_none : (table : Table) (new : List Gate) → AreImages table new []
images_none table new = record { each = λ n o s. absurd (stands_none n o s) }

module _ (table : Table) (new : List Gate) (images : List Operand) (a : AreImages table new images) where
  -- what an operand has that names a needed gate that has its image
  pub image_below : (o : Operand) → IsBelow (length images) o → ((g : ℕ) (sign : Bool) → o ≡ GateIs g sign → RestsOnGate table g)
      → IsBelow (length new) (image images o)
  image_below Always b n = tt
  image_below Never b n = tt
  image_below (EventIs e sign) b n = tt
  image_below (GateIs g sign) b n =
      sign_below (length new) sign (get_or images g Never)
      (a.each g (get_or images g Never) (stands_get images g Never b) (n g sign refl)).below

  pub image_value : (set : List ℕ) (o : Operand) → IsBelow (length images) o
      → ((g : ℕ) (sign : Bool) → o ≡ GateIs g sign → RestsOnGate table g)
      → value_at new (image images o) set ≡ value_at table.gates o set
  image_value set Always b n = refl
  image_value set Never b n = refl
  image_value set (EventIs e sign) b n = refl
  image_value set (GateIs g sign) b n =
      sign_value set new sign (get_or images g Never)
      ∙ ap (λ z. signed sign z)
      ((a.each g (get_or images g Never) (stands_get images g Never b) (n g sign refl)).same set)
      ∙ sym (gate_sign set table.gates g sign)

module _ (table : Table) (ordered : AreOrdered table.gates) (gate : Gate) (n : ℕ) (stands : Stands table.gates n gate) where
  -- the operands of a needed gate name needed gates
  names_needed : RestsOnGate table n → (o : Operand) → IsOneOf gate.operands o
      → (g : ℕ) (sign : Bool) → o ≡ GateIs g sign → RestsOnGate table g
  names_needed i o m g sign e =
      let k = subst (λ (z : Operand). IsOneOf gate.operands z) e m in
      ⊎_elim (λ x. inl (named x stands k)) (λ x. inr (named x stands k)) i

  pub operands_below : (images : List Operand) → length images ≡ n → AreBelow (length images) gate.operands
  operands_below images e =
      subst (λ k. AreBelow k gate.operands) (sym e) (place_below (ordered.each n gate stands))

  pub needed_below : (new : List Gate) (images : List Operand) → AreImages table new images → length images ≡ n
      → RestsOnGate table n → AreBelow (length new) (needed_for gate.both images gate.operands)
  needed_below new images a e i = record {
    each = λ o m.
        let r = one_unmapped (λ (p : Operand). with_sign gate.both (image images p)) gate.operands o m in
        subst (λ (z : Operand). IsBelow (length new) z) r.2
        (sign_below (length new) gate.both (image images r.0)
        (image_below table new images a r.0 ((operands_below images e).each r.0 r.1) (names_needed i r.0 r.1)));
  }

  pub images_more : (new more : List Gate) (images : List Operand) (o : Operand) → AreImages table new images
      → length images ≡ n → GainsGates new more → IsBelow (length more) o
      → (RestsOnGate table n → (set : List ℕ) → value_at more o set
      ≡ signed gate.both (joint_at true set (values_at set more) (needed_for gate.both images gate.operands)))
      → AreImages table more (images ++ o ∷ [])
  images_more new more images o a e grown below made = record {
    each = λ k p s i. ⊎_elim
        (λ x. image_kept grown (a.each k p x i))
        (λ x. let y = stands_alone o x.0 p x.2 in
        let at : k ≡ n = omega (arith, x.1, y.0, e) in
        subst (λ (j : ℕ). IsGateImage table.gates more j p) (sym at)
        (subst (λ (z : Operand). IsGateImage table.gates more n z) (sym y.1)
        (next (subst (λ (j : ℕ). RestsOnGate table j) at i))))
        (stands_split images (o ∷ []) k p s);
  }
    where
      still : AreImages table more images
      still = record { each = λ k p s i. image_kept grown (a.each k p s i) }

      next : RestsOnGate table n → IsGateImage table.gates more n o
      next i = record {
        below = below;
        same = λ set.
            made i set
            ∙ ap (λ b. signed gate.both b) (morgan_back (image images) gate.both set (values_at set more) gate.operands)
            ∙ twice gate.both (joint_at gate.both set (values_at set more) (map (image images) gate.operands))
            ∙ joint_same gate.both set (values_at set more) (values_at set table.gates) (image images) gate.operands
            (λ p m. image_value table more images still set p ((operands_below images e).each p m) (names_needed i p m))
            ∙ sym (gate_value set table.gates n gate stands (place_below (ordered.each n gate stands)));
      }

-- what is made of literals that are enough
pub image_made : (needed both : Bool) (os ps : List Operand) (old new : List Gate) (all r : code.Operand) → AreEnough os ps
    → AddsGates ps old new (Ok all) → operand_of r ≡ with_sign both (operand_of all) → AddsImage needed both os old new (Ok r)
image_made needed both os ps old new all r e a is = record {
  grows = a.grows;
  below = subst (λ (o : Operand). IsBelow (length new) o) (sym is) (sign_below (length new) both (operand_of all) a.made.below);
  made = λ n set.
      ap (λ (o : Operand). value_at new o set) is ∙ sign_value set new both (operand_of all)
      ∙ ap (λ b. signed both b) (a.made.same set ∙ e.same set (values_at set new));
}

-- marks of both cones
pub needed_marked : (table : Table) (conflict top : List Bool) (n : ℕ) → AreConeMarks table.gates table.conflict conflict
    → AreConeMarks table.gates table.top top → n < length table.gates → RestsOnGate table n
    → (get_or conflict n false || get_or top n false) ≡ true
needed_marked table conflict top n c t h i = ⊎_elim
    (λ x. or_left (get_or conflict n false) (get_or top n false) (read conflict (c.whole n x h)))
    (λ x. or_right (get_or conflict n false) (get_or top n false) (read top (t.whole n x h))) i
  where
    read : (marks : List Bool) → Stands marks n true → get_or marks n false ≡ true
    read marks s = stands_one marks n (get_or marks n false) true (stands_get marks n false (stands_within marks n true s)) s

pub marked_needed : (table : Table) (conflict top : List Bool) (n : ℕ) → AreConeMarks table.gates table.conflict conflict
    → AreConeMarks table.gates table.top top → n < length table.gates
    → (get_or conflict n false || get_or top n false) ≡ true → RestsOnGate table n
marked_needed table conflict top n c t h e = ⊎_elim
    (λ x. inl (c.sound n (subst (λ (b : Bool). Stands conflict n b) x (stands_get conflict n false (omega (arith, c.long, h))))))
    (λ x. inr (t.sound n (subst (λ (b : Bool). Stands top n b) x (stands_get top n false (omega (arith, t.long, h))))))
    (or_cases (get_or conflict n false) (get_or top n false) e)

pub conflict_needed : (table : Table) (g : ℕ) (sign : Bool) → table.conflict ≡ GateIs g sign → RestsOnGate table g
conflict_needed table g sign e = inl (own e)

pub top_needed : (table : Table) (g : ℕ) (sign : Bool) → table.top ≡ GateIs g sign → RestsOnGate table g
top_needed table g sign e = inr (own e)

-- the whole table
pub whole_ordered : (table : Table) (new : List Gate) (images : List Operand) → IsOrderedTable table
    → AreImages table new images → length images ≡ length table.gates → AreOrdered new
    → IsOrderedTable (record { gates = new; conflict = image images table.conflict; top = image images table.top })
whole_ordered table new images t a e o = record {
  gates = o;
  conflict = image_below table new images a table.conflict
      (subst (λ n. IsBelow n table.conflict) (sym e) t.conflict) (conflict_needed table);
  top = image_below table new images a table.top (subst (λ n. IsBelow n table.top) (sym e) t.top) (top_needed table);
}

pub whole_same : (table : Table) (new : List Gate) (images : List Operand) → IsOrderedTable table
    → AreImages table new images → length images ≡ length table.gates
    → HaveSameValues table (record { gates = new; conflict = image images table.conflict; top = image images table.top })
whole_same table new images t a e = record {
  conflict = λ set. image_value table new images a set table.conflict
      (subst (λ n. IsBelow n table.conflict) (sym e) t.conflict) (conflict_needed table);
  top = λ set. image_value table new images a set table.top
      (subst (λ n. IsBelow n table.top) (sym e) t.top) (top_needed table);
}
