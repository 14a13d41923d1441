-- What operands that are all needed come to: their members decide.
use Rattle.std.proofs.Common.{◌≡◌, ℕ, ◌+◌, ◌<◌, inl, inr, Bool, true, false, ◌&&◌, List, [], ◌∷◌, ◌++◌, map, take, drop, get_or, length, refl, sym, ap, ◌∙◌, subst, true≢false, Option, Some, None, Result, Ok, Err, IfOk, MatchOption}
use Rattle.std.proofs.lemmas.Bool.{and_from, and_parts}
use Rattle.std.proofs.lemmas.List.{take_more, take-append-drop}
use Rattle.std.proofs.lemmas.List.Sorted.{Contains-permutation, IsPermutation-sym}
use Rattle.std.specs.List.Sorted.{IsPermutation}
use Rattle.ar_base.specs.Lists.{IsOneOf}
use Rattle.ar_base.proofs.Standing.{one_cases, one_first, one_rest, one_none, one_here, one_left, stands_map, stands_map_back, stands_get, one_contains, contains_one}
use Rattle.ar_base.proofs.Items.{one_last, last_cases}
use Rattle.ar_base.proofs.Truths.{alike, not_true}
use Rattle.eq_core.specs.Gates.{Operand, Always, Never, opposite}
use Rattle.eq_core.specs.Values.{operand_at, joint_at}
use Rattle.eq_core.specs.Ordered.{AreBelow}
use Rattle.eq_core.proofs.Telling.{turned}
use Rattle.gate_sharing.specs.declared.literals.Literal.{Literal}
use Rattle.ar_base.specs.declared.faults.Memory.{Memory}
use Rattle.gate_sharing.specs.declared.literals.Literals.{Literals}
use Rattle.gate_sharing.specs.Literals.{literal_of, literal_operands, AreEnough, AreNeverAll}

pub all_each : (set : List ℕ) (values : List Bool) (os : List Operand) → joint_at true set values os ≡ true
    → (o : Operand) → IsOneOf os o → operand_at set values o ≡ true
all_each set values [] h o m = absurd (one_none o m)
all_each set values (p ∷ os) h o m =
    let b = and_parts (operand_at set values p) (joint_at true set values os) h in
    elim (one_cases p os o m) [
      | inl e ↦ ap (λ z. operand_at set values z) (sym e) ∙ b.0
      | inr k ↦ all_each set values os b.1 o k
    ]

pub each_all : (set : List ℕ) (values : List Bool) (os : List Operand)
    → ((o : Operand) → IsOneOf os o → operand_at set values o ≡ true) → joint_at true set values os ≡ true
each_all set values [] f = refl
each_all set values (p ∷ os) f =
    and_from (operand_at set values p) (joint_at true set values os) (f p (one_first p os))
    (each_all set values os (λ o m. f o (one_rest p os o m)))

-- lists with the same members
pub record Same {A : Type 0} (xs ys : List A) : Type 0 where
  pub there : (a : A) → IsOneOf xs a → IsOneOf ys a
  pub back : (a : A) → IsOneOf ys a → IsOneOf xs a

pub same_self : {A : Type 0} (xs : List A) → Same xs xs
same_self xs = record { there = λ a m. m; back = λ a m. m }

pub same_on : {A : Type 0} {xs ys zs : List A} → Same xs ys → Same ys zs → Same xs zs
same_on s t = record { there = λ a m. t.there a (s.there a m); back = λ a m. s.back a (t.back a m) }

pub same_turned : {A : Type 0} {xs ys : List A} → Same xs ys → Same ys xs
same_turned s = record { there = s.back; back = s.there }

pub one_mapped : {A B : Type 0} (f : A → B) (xs : List A) (a : A) → IsOneOf xs a → IsOneOf (map f xs) (f a)
one_mapped f xs a m = one_here (map f xs) m.place (f a) (stands_map f xs m.place a m.stands)

pub one_unmapped : {A B : Type 0} (f : A → B) (xs : List A) (b : B) → IsOneOf (map f xs) b
    → (a : A) × IsOneOf xs a × (f a ≡ b)
one_unmapped f xs b m =
    let r = stands_map_back f xs m.place b m.stands in
    (r.0, one_here xs m.place r.0 r.1, r.2)

pub same_map : {A B : Type 0} (f : A → B) (xs ys : List A) → Same xs ys → Same (map f xs) (map f ys)
same_map {B = B} f xs ys s = record {
  there = λ b m. let r = one_unmapped f xs b m in
      subst (λ (z : B). IsOneOf (map f ys) z) r.2 (one_mapped f ys r.0 (s.there r.0 r.1));
  back = λ b m. let r = one_unmapped f ys b m in
      subst (λ (z : B). IsOneOf (map f xs) z) r.2 (one_mapped f xs r.0 (s.back r.0 r.1));
}

pub same_enough : (os ps : List Operand) → Same os ps → AreEnough os ps
same_enough os ps s = record {
  same = λ set values. alike (joint_at true set values ps) (joint_at true set values os)
      (λ h. each_all set values os (λ o m. all_each set values ps h o (s.there o m)))
      (λ h. each_all set values ps (λ o m. all_each set values os h o (s.back o m)));
  within = s.back;
}

pub literals_enough : (os ps : List Literal) → Same os ps → AreEnough (literal_operands os) (literal_operands ps)
literals_enough os ps s = same_enough (literal_operands os) (literal_operands ps) (same_map literal_of os ps s)

pub enough_on : (os ps qs : List Operand) → AreEnough os ps → AreEnough ps qs → AreEnough os qs
enough_on os ps qs a b = record {
  same = λ set values. b.same set values ∙ a.same set values;
  within = λ o m. a.within o (b.within o m);
}

pub never_on : (os ps : List Operand) → AreEnough os ps → AreNeverAll ps → AreNeverAll os
never_on os ps a n = record { never = λ set values. sym (a.same set values) ∙ n.never set values }

pub enough_below : (n : ℕ) (os ps : List Operand) → AreEnough os ps → AreBelow n os → AreBelow n ps
enough_below n os ps a b = record { each = λ o m. b.each o (a.within o m) }

is_false : (b : Bool) → (b ≡ true → ⊥) → b ≡ false
is_false true h = absurd (h refl)
is_false false h = refl

-- an operand and its opposite are not both true
pub never_both : (os : List Operand) (o : Operand) → IsOneOf os o → IsOneOf os (opposite o) → AreNeverAll os
never_both os o m n = record {
  never = λ set values. is_false (joint_at true set values os)
      (λ h. not_true (operand_at set values o)
      (sym (turned set values o) ∙ all_each set values os h (opposite o) n) (all_each set values os h o m));
}

pub never_one : (os : List Operand) → IsOneOf os Never → AreNeverAll os
never_one os m = record {
  never = λ set values. is_false (joint_at true set values os)
      (λ h. true≢false (sym (all_each set values os h Never m)));
}

-- the next literal is one that was kept
pub same_passes : (kept xs : List Literal) (i : ℕ) (d last : Literal) → i < length xs → IsOneOf kept last
    → last ≡ get_or xs i d → Same (take i xs) kept → Same (take (i + 1) xs) kept
same_passes kept xs i d last h m e s =
    subst (λ (z : List Literal). Same z kept) (sym (take_more xs i d h)) (record {
      there = λ a n. elim (last_cases (take i xs) (get_or xs i d) a n) [
        | inl k ↦ s.there a k
        | inr q ↦ subst (λ (z : Literal). IsOneOf kept z) (e ∙ q) m
      ];
      back = λ a n. one_left (take i xs) (get_or xs i d ∷ []) a (s.back a n);
    })

-- the next literal is kept
pub same_keeps : (kept new xs : List Literal) (i : ℕ) (d : Literal) → i < length xs
    → new ≡ kept ++ get_or xs i d ∷ [] → Same (take i xs) kept → Same (take (i + 1) xs) new
same_keeps kept new xs i d h e s =
    subst (λ (z : List Literal). Same z new) (sym (take_more xs i d h))
    (subst (λ (z : List Literal). Same (take i xs ++ get_or xs i d ∷ []) z) (sym e) (record {
      there = λ a n. elim (last_cases (take i xs) (get_or xs i d) a n) [
        | inl k ↦ one_left kept (get_or xs i d ∷ []) a (s.there a k)
        | inr q ↦ subst (λ (z : Literal). IsOneOf (kept ++ get_or xs i d ∷ []) z) q (one_last kept (get_or xs i d))
      ];
      back = λ a n. elim (last_cases kept (get_or xs i d) a n) [
        | inl k ↦ one_left (take i xs) (get_or xs i d ∷ []) a (s.back a k)
        | inr q ↦ subst (λ (z : Literal). IsOneOf (take i xs ++ get_or xs i d ∷ []) z) q
            (one_last (take i xs) (get_or xs i d))
      ];
    }))

one_of_front : (xs : List Literal) (i : ℕ) (a : Literal) → IsOneOf (take i xs) a → IsOneOf xs a
one_of_front xs i a m = subst (λ (z : List Literal). IsOneOf z a) (take-append-drop i xs) (one_left (take i xs) (drop i xs) a m)

-- the next literal is the opposite of one that was kept
pub opposites_found : (kept xs : List Literal) (i : ℕ) (d last : Literal) → i < length xs → IsOneOf kept last
    → literal_of last ≡ opposite (literal_of (get_or xs i d)) → Same (take i xs) kept → AreNeverAll (literal_operands xs)
opposites_found kept xs i d last h m e s =
    let next = get_or xs i d in
    never_both (literal_operands xs) (literal_of next)
    (one_mapped literal_of xs next (one_here xs i next (stands_get xs i d h)))
    (subst (λ (z : Operand). IsOneOf (literal_operands xs) z) e
    (one_mapped literal_of xs last (one_of_front xs i last (s.back last m))))

-- the same literals in another order
pub permuted : (xs ys : List Literal) → IsPermutation xs ys → Same xs ys
permuted xs ys p = record {
  there = λ a m. one_contains ys a (Contains-permutation xs ys a p (contains_one xs a m));
  back = λ a m. one_contains xs a (Contains-permutation ys xs a (IsPermutation-sym xs ys p) (contains_one ys a m));
}

-- what is found of them is found of both
pub found_as : (os ss : List Literal) (r : Result (Option Literals) Memory) → Same os ss
    → IfOk r (λ found. MatchOption found (AreNeverAll (literal_operands ss))
    (λ key. AreEnough (literal_operands ss) (literal_operands key.all.items)))
    → IfOk r (λ found. MatchOption found (AreNeverAll (literal_operands os))
    (λ key. AreEnough (literal_operands os) (literal_operands key.all.items)))
found_as os ss (Err e) s f = tt
found_as os ss (Ok None) s f = never_on (literal_operands os) (literal_operands ss) (literals_enough os ss s) f
found_as os ss (Ok (Some key)) s f =
    enough_on (literal_operands os) (literal_operands ss) (literal_operands key.all.items) (literals_enough os ss s) f

-- ---- literals of needed operands, one by one
pub enough_none : AreEnough [] []
enough_none = same_enough [] [] (same_self [])

and_true_at : (b : Bool) → (b && true) ≡ b
and_true_at true = refl
and_true_at false = refl

and_three : (a b c : Bool) → (a && b && c) ≡ (a && (b && c))
and_three true b c = refl
and_three false b c = refl

pub joint_append : (set : List ℕ) (values : List Bool) (os ps : List Operand)
    → joint_at true set values (os ++ ps) ≡ (joint_at true set values os && joint_at true set values ps)
joint_append set values [] ps = refl
joint_append set values (o ∷ os) ps =
    ap (λ b. operand_at set values o && b) (joint_append set values os ps)
    ∙ sym (and_three (operand_at set values o) (joint_at true set values os) (joint_at true set values ps))

-- one more operand that is always true, and one more that is kept
pub enough_passes : (os ps : List Operand) → AreEnough os ps → AreEnough (os ++ Always ∷ []) ps
enough_passes os ps e = record {
  same = λ set values. e.same set values ∙ sym (and_true_at (joint_at true set values os))
      ∙ sym (joint_append set values os (Always ∷ []));
  within = λ o m. one_left os (Always ∷ []) o (e.within o m);
}

pub enough_keeps : (os ps : List Operand) (o : Operand) → AreEnough os ps → AreEnough (os ++ o ∷ []) (ps ++ o ∷ [])
enough_keeps os ps o e = record {
  same = λ set values. joint_append set values ps (o ∷ [])
      ∙ ap (λ b. b && joint_at true set values (o ∷ [])) (e.same set values)
      ∙ sym (joint_append set values os (o ∷ []));
  within = λ p m. elim (last_cases ps o p m) [
    | inl k ↦ one_left os (o ∷ []) p (e.within p k)
    | inr q ↦ subst (λ (z : Operand). IsOneOf (os ++ o ∷ []) z) q (one_last os o)
  ];
}
