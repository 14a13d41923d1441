-- Operands beside others that are all true.
use Rattle.std.proofs.Common.{◌≡◌, inl, inr, ⊎_elim, ℕ, ◌+◌, ◌<◌, Bool, true, false, not, ◌&&◌, ◌||◌, List, [], ◌∷◌, ◌++◌, map, take, drop, get_or, length, Result, Ok, Err, append_assoc, append-nil, length-drop, take_all, ◌-◌, ◌≤◌, refl, sym, ap, ap₂, ◌∙◌, subst, arith, true≢false}
use Rattle.std.specs.List.{list_any}
use Rattle.std.proofs.lemmas.Bool.{or_cases}
use Rattle.std.proofs.lemmas.List.{take_more, map-append, drop_more, take-append-drop}
use Rattle.ar_base.specs.Lists.{Stands, IsOneOf}
use Rattle.ar_base.proofs.Standing.{one_here, one_left, one_right, one_first, one_rest, stands_get, stands_left, one_split}
use Rattle.ar_base.proofs.Items.{one_last, last_cases}
use Rattle.eq_core.specs.Gates.{Operand, Always, Never, EventIs, GateIs, Gate, opposite}
use Rattle.eq_core.specs.Ordered.{AreBelow}
use Rattle.eq_core.specs.Values.{signed, operand_at, joint_at, values_at, value_at}
use Rattle.eq_core.specs.ValuesInside.{IsBelow, GainsGates}
use Rattle.eq_core.specs.Views.{operand_of}
use Rattle.eq_core.specs.declared.joints.Operand as code
use Rattle.eq_core.specs.declared.joints.Operand.TheVariants as c
use Rattle.eq_core.proofs.Telling.{turned, gate_value, below_more, none_below, grows_self, grows_on}
use Rattle.gate_sharing.specs.declared.unshared.Unshared.{Unshared}
use Rattle.gate_sharing.specs.contracts.literals.LiteralPartialEq.TheImpl as literal
use Rattle.gate_sharing.specs.declared.literals.Literal.{Literal}
use Rattle.gate_sharing.specs.Absorbing.{needed_parts, IsBeside, AreEnoughBeside, AreNeverBeside, AddsBeside}
use Rattle.gate_sharing.specs.Literals.{literal_of, literal_operands}
use Rattle.gate_sharing.specs.Sharing.{IsAllOf, AddsGates}
use Rattle.gate_sharing.specs.Images.{with_sign}
use Rattle.gate_sharing.proofs.Alls.{all_each, joint_append, one_mapped, one_unmapped}
use Rattle.gate_sharing.proofs.Sharings.{one_literal, all_kept, all_below_kept}
use Rattle.gate_sharing.proofs.Imaging.{sign_below}

-- a list that has the literal
pub one_any : (xs : List Literal) (l : Literal) → list_any (λ (y : Literal). literal.eq-value.it y l) xs ≡ true → IsOneOf xs l
one_any [] l h = absurd (true≢false (sym h))
one_any (x ∷ xs) l h = ⊎_elim
    (λ e. subst (λ (z : Literal). IsOneOf (x ∷ xs) z) (one_literal x l e) (one_first x xs))
    (λ k. one_rest x xs l (one_any xs l k))
    (or_cases (literal.eq-value.it x l) (list_any (λ (y : Literal). literal.eq-value.it y l) xs) h)

pub has_before : (xs ys : List Literal) (l : Literal) → IsOneOf xs l → IsOneOf (literal_operands (xs ++ ys)) (literal_of l)
has_before xs ys l m = one_mapped literal_of (xs ++ ys) l (one_left xs ys l m)

pub has_after : (xs ys : List Literal) (l : Literal) → IsOneOf ys l → IsOneOf (literal_operands (xs ++ ys)) (literal_of l)
has_after xs ys l m = one_mapped literal_of (xs ++ ys) l (one_right xs ys l m)

-- ---- one operand
pub beside_known : (others : List Operand) (o : Operand) → IsOneOf others o → IsBeside others o Always
beside_known others o m = record {
  same = λ set values h. sym (all_each set values others h o m);
  among = inl refl;
}

false_of : (b : Bool) → not b ≡ true → false ≡ b
false_of true h = h
false_of false h = refl

pub beside_denied : (others : List Operand) (o p : Operand) → p ≡ opposite o → IsOneOf others p → IsBeside others o Never
beside_denied others o p e m = record {
  same = λ set values h.
      false_of (operand_at set values o)
      (sym (turned set values o) ∙ ap (λ z. operand_at set values z) (sym e) ∙ all_each set values others h p m);
  among = inr (inl refl);
}

pub beside_self : (others : List Operand) (o : Operand) → IsBeside others o o
beside_self others o = record { same = λ set values h. refl; among = inr (inr refl) }

-- ---- parts, one by one
pub enough_beside_none : (others : List Operand) → AreEnoughBeside others [] []
enough_beside_none others = record { same = λ set values h. refl; within = λ o m. m }

false_and : (a b : Bool) → b ≡ false → (a && b) ≡ false
false_and true b e = e
false_and false b e = refl

false_left : (a b : Bool) → a ≡ false → (a && b) ≡ false
false_left true b e = absurd (true≢false e)
false_left false b e = refl

is_not_true : (b : Bool) → (b ≡ true → ⊥) → b ≡ false
is_not_true true h = absurd (h refl)
is_not_true false h = refl

and_true : (b : Bool) → (b && true) ≡ b
and_true true = refl
and_true false = refl

pub never_beside : (others os : List Operand) (o r : Operand) → IsBeside others o r → r ≡ Never → IsOneOf os o
    → AreNeverBeside others os
never_beside others os o r b e m = record {
  never = λ set values h.
      is_not_true (joint_at true set values os)
      (λ t. true≢false
      (sym (all_each set values os t o m) ∙ sym (b.same set values h) ∙ ap (λ z. operand_at set values z) e));
}

pub beside_passes : (others os ps : List Operand) (o r : Operand) → IsBeside others o r → r ≡ Always
    → AreEnoughBeside others os ps → AreEnoughBeside others (os ++ o ∷ []) ps
beside_passes others os ps o r b e a = record {
  same = λ set values h.
      a.same set values h ∙ sym (and_true (joint_at true set values os))
      ∙ ap (λ z. joint_at true set values os && z)
      (sym (ap (λ z. z && true) (sym (b.same set values h) ∙ ap (λ z. operand_at set values z) e)))
      ∙ sym (joint_append set values os (o ∷ []));
  within = λ p m. one_left os (o ∷ []) p (a.within p m);
}

is_itself : (others : List Operand) (o r : Operand) → IsBeside others o r → (r ≡ Always → ⊥) → (r ≡ Never → ⊥) → r ≡ o
is_itself others o r b not_always not_never =
    ⊎_elim (λ e. absurd (not_always e)) (λ k. ⊎_elim (λ e. absurd (not_never e)) (λ e. e) k) b.among

pub beside_keeps : (others os ps : List Operand) (o r : Operand) → IsBeside others o r → (r ≡ Always → ⊥)
    → (r ≡ Never → ⊥) → AreEnoughBeside others os ps → AreEnoughBeside others (os ++ o ∷ []) (ps ++ r ∷ [])
beside_keeps others os ps o r b not_always not_never a = record {
  same = λ set values h.
      joint_append set values ps (r ∷ [])
      ∙ ap₂ (λ x y. x && y) (a.same set values h) (ap (λ z. z && true) (b.same set values h))
      ∙ sym (joint_append set values os (o ∷ []));
  within = λ p m. ⊎_elim
      (λ k. one_left os (o ∷ []) p (a.within p k))
      (λ q. subst (λ (z : Operand). IsOneOf (os ++ o ∷ []) z)
      (sym (is_itself others o r b not_always not_never) ∙ q) (one_last os o))
      (last_cases ps r p m);
}

-- in terms of the code
module _ (others : List Operand) (both : Bool) (items : List code.Operand) (i : ℕ) (h : i < length items) (o r : code.Operand)
    (is : operand_of o ≡ with_sign both (operand_of (get_or items i c.Always)))
    (b : IsBeside others (operand_of o) (operand_of r)) where
  item_one : IsOneOf (map (with_sign both) (map operand_of items)) (operand_of o)
  item_one =
      let x = get_or items i c.Always in
      subst (λ (z : Operand). IsOneOf (map (with_sign both) (map operand_of items)) z) (sym is)
      (one_mapped (with_sign both) (map operand_of items) (operand_of x)
      (one_mapped operand_of items x (one_here items i x (stands_get items i c.Always h))))

  further : map (with_sign both) (map operand_of (take (i + 1) items))
      ≡ map (with_sign both) (map operand_of (take i items)) ++ operand_of o ∷ []
  further =
      let x = get_or items i c.Always in
      ap (λ (z : List code.Operand). map (with_sign both) (map operand_of z)) (take_more items i c.Always h)
      ∙ ap (λ (z : List Operand). map (with_sign both) z) (map-append operand_of (take i items) (x ∷ []))
      ∙ map-append (with_sign both) (map operand_of (take i items)) (operand_of x ∷ [])
      ∙ ap (λ (p : Operand). map (with_sign both) (map operand_of (take i items)) ++ p ∷ []) (sym is)

  pub part_never : r ≡ c.Never → AreNeverBeside others (map (with_sign both) (map operand_of items))
  part_never e =
      never_beside others (map (with_sign both) (map operand_of items)) (operand_of o) (operand_of r) b (ap operand_of e) item_one

  module _ (ls : List Literal)
      (a : AreEnoughBeside others (map (with_sign both) (map operand_of (take i items))) (literal_operands ls)) where
    pub part_passes : r ≡ c.Always
        → AreEnoughBeside others (map (with_sign both) (map operand_of (take (i + 1) items))) (literal_operands ls)
    part_passes e =
        subst (λ (z : List Operand). AreEnoughBeside others z (literal_operands ls)) (sym further)
        (beside_passes others (map (with_sign both) (map operand_of (take i items))) (literal_operands ls) (operand_of o)
        (operand_of r) b (ap operand_of e) a)

    pub part_kept : (l : Literal) (new : List Literal) → operand_of r ≡ literal_of l → (literal_of l ≡ Always → ⊥)
        → (literal_of l ≡ Never → ⊥) → new ≡ ls ++ l ∷ []
        → AreEnoughBeside others (map (with_sign both) (map operand_of (take (i + 1) items))) (literal_operands new)
    part_kept l new e not_always not_never m =
        subst (λ (z : List Operand). AreEnoughBeside others z (literal_operands new)) (sym further)
        (subst (λ (z : List Operand). AreEnoughBeside others
        (map (with_sign both) (map operand_of (take i items)) ++ operand_of o ∷ []) z)
        (sym (ap (map literal_of) m ∙ map-append literal_of ls (l ∷ []) ∙ ap (λ (p : Operand). literal_operands ls ++ p ∷ []) (sym e)))
        (beside_keeps others (map (with_sign both) (map operand_of (take i items))) (literal_operands ls) (operand_of o)
        (operand_of r) b (λ q. not_always (sym e ∙ q)) (λ q. not_never (sym e ∙ q)) a))

-- ---- a literal of a gate
or_signed : (a r : Bool) → (a || not r) ≡ not (not a && r)
or_signed true r = refl
or_signed false r = refl

parts_value : (both : Bool) (set : List ℕ) (values : List Bool) (os : List Operand)
    → joint_at both set values os ≡ signed both (joint_at true set values (map (with_sign both) os))
parts_value true set values [] = refl
parts_value true set values (o ∷ os) = ap (λ b. operand_at set values o && b) (parts_value true set values os)
parts_value false set values [] = refl
parts_value false set values (o ∷ os) =
    let rest = joint_at true set values (map (with_sign false) os) in
    ap (λ b. operand_at set values o || b) (parts_value false set values os)
    ∙ or_signed (operand_at set values o) rest
    ∙ ap (λ b. not (b && rest)) (sym (turned set values o))

with_its_sign : (set : List ℕ) (gates : List Gate) (n : ℕ) (sign : Bool)
    → value_at gates (GateIs n sign) set ≡ signed sign (value_at gates (GateIs n true) set)
with_its_sign set gates n true = refl
with_its_sign set gates n false = refl

pub signed_value : (set : List ℕ) (gates : List Gate) (sign : Bool) (o : Operand)
    → value_at gates (with_sign sign o) set ≡ signed sign (value_at gates o set)
signed_value set gates true o = refl
signed_value set gates false o = turned set (values_at set gates) o

module _ (gates : List Gate) (n : ℕ) (gate : Gate) (sign whole : Bool) (below : AreBelow n gate.operands)
    (is : (b : Bool) → signed whole b ≡ signed sign (signed gate.both b)) where
  pub literal_value : (new : List Gate) → Stands new n gate → (set : List ℕ) → value_at new (GateIs n sign) set
      ≡ signed whole (joint_at true set (values_at set new) (needed_parts gate))
  literal_value new s set =
      with_its_sign set new n sign
      ∙ ap (λ b. signed sign b)
      (gate_value set new n gate s below ∙ parts_value gate.both set (values_at set new) gate.operands)
      ∙ sym (is (joint_at true set (values_at set new) (needed_parts gate)))

  pub beside_decided : (others : List Operand) (r : code.Operand) → Stands gates n gate
      → AreNeverBeside others (needed_parts gate) → operand_of r ≡ with_sign whole Never
      → AddsBeside others (GateIs n sign) gates gates (Ok r)
  beside_decided others r s never e = record {
    grows = grows_self gates;
    below = subst (λ (o : Operand). IsBelow (length gates) o) (sym e) (constant_below (length gates) whole);
    same = λ set h.
        ap (λ (o : Operand). value_at gates o set) e ∙ signed_value set gates whole Never
        ∙ ap (λ b. signed whole b) (sym (never.never set (values_at set gates) h))
        ∙ sym (literal_value gates s set);
  }
    where
      constant_below : (k : ℕ) (b : Bool) → IsBelow k (with_sign b Never)
      constant_below k true = tt
      constant_below k false = tt

  pub beside_left : (others left : List Operand) (new : List Gate) (all r : code.Operand) → Stands gates n gate
      → GainsGates gates new → AreEnoughBeside others (needed_parts gate) left → IsAllOf new (operand_of all) left
      → operand_of r ≡ with_sign whole (operand_of all) → AddsBeside others (GateIs n sign) gates new (Ok r)
  beside_left others left new all r s grown enough made e = record {
    grows = grown;
    below = subst (λ (o : Operand). IsBelow (length new) o) (sym e) (sign_below (length new) whole (operand_of all) made.below);
    same = λ set h.
        ap (λ (o : Operand). value_at new o set) e ∙ signed_value set new whole (operand_of all)
        ∙ ap (λ b. signed whole b) (made.same set ∙ enough.same set (values_at set new) h)
        ∙ sym (literal_value new (subst (λ (z : List Gate). Stands z n gate) (sym grown.is)
        (stands_left gates grown.more n gate s)) set);
  }

pub beside_itself : (others : List Operand) (gates : List Gate) (o : Operand) (r : code.Operand)
    → IsBelow (length gates) o → operand_of r ≡ o → AddsBeside others o gates gates (Ok r)
beside_itself others gates o r b e = record {
  grows = grows_self gates;
  below = subst (λ (z : Operand). IsBelow (length gates) z) (sym e) b;
  same = λ set h. ap (λ (z : Operand). value_at gates z set) e;
}

pub beside_refused : (others : List Operand) (gates : List Gate) (o : Operand) (e : Unshared)
    → AddsBeside others o gates gates (Err e)
beside_refused others gates o e = record { grows = grows_self gates; below = tt; same = tt }

pub below_up : (l n : ℕ) (o : Operand) → l ≤ n → IsBelow l o → IsBelow n o
below_up l n Always h b = tt
below_up l n Never h b = tt
below_up l n (EventIs e sign) h b = tt
below_up l n (GateIs g sign) h b = omega (arith, h, b)

-- the parts of a gate in its place name no later gates
pub parts_below : (n : ℕ) (gate : Gate) → AreBelow n gate.operands → AreBelow n (needed_parts gate)
parts_below n gate b = record {
  each = λ o m.
      let r = one_unmapped (with_sign gate.both) gate.operands o m in
      subst (λ (z : Operand). IsBelow n z) r.2 (sign_below n gate.both r.0 (b.each r.0 r.1));
}

pub left_below : (n k : ℕ) (others : List Operand) (gate : Gate) (left : List Operand) → n ≤ k → AreBelow n gate.operands
    → AreEnoughBeside others (needed_parts gate) left → AreBelow k left
left_below n k others gate left h b e = record {
  each = λ o m. below_up n k o h ((parts_below n gate b).each o (e.within o m));
}

pub literal_below : (n : ℕ) (ls : List Literal) (i : ℕ) (d : Literal) → i < length ls → AreBelow n (literal_operands ls)
    → IsBelow n (literal_of (get_or ls i d))
literal_below n ls i d h b =
    let x = get_or ls i d in
    b.each (literal_of x) (one_mapped literal_of ls x (one_here ls i x (stands_get ls i d h)))

-- those behind a place
pub rest_all : (ls : List Literal) (k : ℕ) → take (length ls - k) (drop k ls) ≡ drop k ls
rest_all ls k = take_all (length ls - k) (drop k ls) (omega (arith, length-drop k ls))

-- ---- all literals, one by one
pub record Absorbing (ls : List Literal) (old new : List Gate) (i : ℕ) (kept : List Literal) : Type 0 where
  pub grows : GainsGates old new
  pub below : AreBelow (length new) (literal_operands kept)
  pub all_below : AreBelow (length new) (literal_operands ls)
  pub same : (set : List ℕ) → joint_at true set (values_at set new) (literal_operands kept ++ literal_operands (drop i ls))
      ≡ joint_at true set (values_at set new) (literal_operands ls)

pub absorbing_begins : (ls : List Literal) (old : List Gate) → AreBelow (length old) (literal_operands ls)
    → Absorbing ls old old 0 []
absorbing_begins ls old b = record {
  grows = grows_self old;
  below = none_below (length old);
  all_below = b;
  same = λ set. refl;
}

append_below : (n : ℕ) (os ps : List Operand) → AreBelow n os → AreBelow n ps → AreBelow n (os ++ ps)
append_below n os ps a b = record { each = λ o m. ⊎_elim (λ k. a.each o k) (λ k. b.each o k) (one_split os ps o m) }

drop_below : (n i : ℕ) (ls : List Literal) → AreBelow n (literal_operands ls) → AreBelow n (literal_operands (drop i ls))
drop_below n i ls a = record {
  each = λ o m.
      let r = one_unmapped literal_of (drop i ls) o m in
      a.each o (subst (λ (z : Operand). IsOneOf (literal_operands ls) z) r.2
      (one_mapped literal_of ls r.0
      (subst (λ (z : List Literal). IsOneOf z r.0) (take-append-drop i ls) (one_right (take i ls) (drop i ls) r.0 r.1))));
}

swapped : (k c l r : Bool) → ((k && c) ≡ true → r ≡ l) → (k && (r && c)) ≡ (k && (l && c))
swapped true true l r h = ap (λ b. b && true) (h refl)
swapped true false l r h = and_false r ∙ sym (and_false l)
  where
    and_false : (b : Bool) → (b && false) ≡ false
    and_false true = refl
    and_false false = refl
swapped false c l r h = refl

module _ (ls : List Literal) (old new more : List Gate) (i : ℕ) (kept : List Literal) (d : Literal) (h : i < length ls)
    (a : Absorbing ls old new i kept) (r : code.Operand)
    (b : AddsBeside (literal_operands (kept ++ drop (i + 1) ls)) (literal_of (get_or ls i d)) new more (Ok r)) where
  -- at the new gates all are true exactly where the kept ones, what stands for the next and the rest are
  all_so : (set : List ℕ) → (joint_at true set (values_at set more) (literal_operands kept)
      && (operand_at set (values_at set more) (operand_of r) && joint_at true set (values_at set more) (literal_operands (drop (i + 1) ls))))
      ≡ joint_at true set (values_at set more) (literal_operands ls)
  all_so set =
      let v = values_at set more in
      let x = get_or ls i d in
      let k = joint_at true set v (literal_operands kept) in
      let c = joint_at true set v (literal_operands (drop (i + 1) ls)) in
      let split : joint_at true set v (literal_operands (kept ++ drop (i + 1) ls)) ≡ (k && c) =
      ap (λ z. joint_at true set v z) (map-append literal_of kept (drop (i + 1) ls))
      ∙ joint_append set v (literal_operands kept) (literal_operands (drop (i + 1) ls)) in
      let left : literal_operands (drop i ls) ≡ literal_of x ∷ literal_operands (drop (i + 1) ls) =
      ap (map literal_of) (drop_more ls i d h) in
      let both_below : AreBelow (length new) (literal_operands kept ++ literal_operands (drop i ls)) =
      append_below (length new) (literal_operands kept) (literal_operands (drop i ls)) a.below (drop_below (length new) i ls a.all_below) in
      swapped k c (operand_at set v (literal_of x)) (operand_at set v (operand_of r)) (λ t. b.same set (split ∙ t))
      ∙ sym (joint_append set v (literal_operands kept) (literal_of x ∷ literal_operands (drop (i + 1) ls)))
      ∙ sym (ap (λ z. joint_at true set v (literal_operands kept ++ z)) left)
      ∙ all_kept set (literal_operands kept ++ literal_operands (drop i ls)) b.grows both_below
      ∙ a.same set
      ∙ sym (all_kept set (literal_operands ls) b.grows a.all_below)

  pub absorbing_passes : r ≡ c.Always → Absorbing ls old more (i + 1) kept
  absorbing_passes e = record {
    grows = grows_on a.grows b.grows;
    below = all_below_kept (literal_operands kept) b.grows a.below;
    all_below = all_below_kept (literal_operands ls) b.grows a.all_below;
    same = λ set.
        joint_append set (values_at set more) (literal_operands kept) (literal_operands (drop (i + 1) ls))
        ∙ ap (λ z. joint_at true set (values_at set more) (literal_operands kept)
        && (operand_at set (values_at set more) z && joint_at true set (values_at set more) (literal_operands (drop (i + 1) ls))))
        (sym (ap operand_of e))
        ∙ all_so set;
  }

  pub absorbing_never : r ≡ c.Never → (set : List ℕ) → joint_at true set (values_at set more) (literal_operands ls) ≡ false
  absorbing_never e = λ set.
      sym (all_so set)
      ∙ ap (λ z. joint_at true set (values_at set more) (literal_operands kept)
      && (operand_at set (values_at set more) z && joint_at true set (values_at set more) (literal_operands (drop (i + 1) ls))))
      (ap operand_of e)
      ∙ false_and (joint_at true set (values_at set more) (literal_operands kept)) false refl

  pub absorbing_keeps : (l : Literal) (kept_too : List Literal) → operand_of r ≡ literal_of l → kept_too ≡ kept ++ l ∷ []
      → Absorbing ls old more (i + 1) kept_too
  absorbing_keeps l kept_too e m = record {
    grows = grows_on a.grows b.grows;
    below = subst (λ (z : List Operand). AreBelow (length more) z) (sym grown)
        (below_more (length more) (literal_operands kept) (literal_of l) (all_below_kept (literal_operands kept) b.grows a.below)
        (subst (λ (z : Operand). IsBelow (length more) z) e b.below));
    all_below = all_below_kept (literal_operands ls) b.grows a.all_below;
    same = λ set.
        let v = values_at set more in
        ap (λ z. joint_at true set v (z ++ literal_operands (drop (i + 1) ls))) grown
        ∙ ap (λ z. joint_at true set v z)
        (append_assoc (literal_operands kept) (literal_of l ∷ []) (literal_operands (drop (i + 1) ls)))
        ∙ joint_append set v (literal_operands kept) (literal_of l ∷ literal_operands (drop (i + 1) ls))
        ∙ ap (λ z. joint_at true set v (literal_operands kept)
        && (operand_at set v z && joint_at true set v (literal_operands (drop (i + 1) ls)))) (sym e)
        ∙ all_so set;
  }
    where
      grown : literal_operands kept_too ≡ literal_operands kept ++ literal_of l ∷ []
      grown = ap (map literal_of) m ∙ map-append literal_of kept (l ∷ [])

pub absorbing_ends : (ls : List Literal) (old new : List Gate) (i : ℕ) (kept : List Literal) → drop i ls ≡ []
    → Absorbing ls old new i kept → (set : List ℕ)
    → joint_at true set (values_at set new) (literal_operands kept) ≡ joint_at true set (values_at set new) (literal_operands ls)
absorbing_ends ls old new i kept e a = λ set.
    ap (λ z. joint_at true set (values_at set new) z)
    (sym (append-nil (literal_operands kept)) ∙ ap (λ (z : List Literal). literal_operands kept ++ literal_operands z) (sym e))
    ∙ a.same set

-- ---- what is made of what is left
pub simplest_never : (os : List Operand) (old new : List Gate) → GainsGates old new → AreBelow (length old) os
    → ((set : List ℕ) → joint_at true set (values_at set new) os ≡ false) → AddsGates os old new (Ok c.Never)
simplest_never os old new grown b never = record {
  grows = grown;
  made = record {
    below = tt;
    operands = all_below_kept os grown b;
    same = λ set. sym (never set);
  };
}

pub simplest_adds : (os left : List Operand) (old mid new : List Gate) (r : Result code.Operand Unshared) → GainsGates old mid
    → AreBelow (length old) os → AreBelow (length mid) left
    → ((set : List ℕ) → joint_at true set (values_at set mid) left ≡ joint_at true set (values_at set mid) os)
    → AddsGates left mid new r → AddsGates os old new r
simplest_adds os left old mid new (Err e) grown b l same a = record { grows = grows_on grown a.grows; made = tt }
simplest_adds os left old mid new (Ok r) grown b l same a = record {
  grows = grows_on grown a.grows;
  made = record {
    below = a.made.below;
    operands = all_below_kept os (grows_on grown a.grows) b;
    same = λ set.
        a.made.same set ∙ all_kept set left a.grows l ∙ same set
        ∙ sym (all_kept set os a.grows (all_below_kept os grown b));
  };
}
