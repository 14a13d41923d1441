-- One class more in the table of classes.
use Rattle.std.proofs.Common.{◌≡◌, ℕ, zero, suc, ◌+◌, ◌<◌, ◌≤◌, ◌⊎◌, inl, inr, List, [], ◌∷◌, ◌++◌, length, replicate, get_or, slice_get, Some, refl, sym, ap, ◌∙◌, subst, arith, length-append}
use Rattle.std.proofs.lemmas.Bool.{cases_eq, cases_lt}
use Rattle.std.proofs.lemmas.List.{length-replicate}
use Rattle.std.proofs.lemmas.Option.{slice_get-get_or}
use Rattle.ar_base.specs.Lists.{Stands, IsOneOf}
use Rattle.ar_base.proofs.Standing.{stands_split, stands_left, stands_next, stands_none, stands_one, stands_within, stands_some}
use Rattle.ar_base.proofs.Sets.{member_told}
use Rattle.flow_blocks.specs.Blocks.{Together, IsClass}
use Rattle.flow_blocks.specs.Table.{IsPartTable, IsClassTable}
use Rattle.flow_blocks.proofs.ClassLemmas.{together_on, together_back}

-- what stands in a list of one item is that item
pub the_one : {A : Type 0} (a b : A) (k : ℕ) → Stands (a ∷ []) k b → (k ≡ 0) × (b ≡ a)
the_one a b zero p = (refl, cc)
the_one a b (suc k) p = absurd (stands_none k b p)

module _ (count none : ℕ) (uses : List (ℕ × ℕ)) (number : ℕ) (classes : List (List ℕ)) (class_of : List ℕ)
    (t : IsPartTable count none uses number classes class_of)
    (free : Stands class_of number none) (lt : number < count) (low : count ≤ none) where
  -- a number together with the free one has no class
  pub no_class : (n c : ℕ) (members : List ℕ) → Together uses number n → Stands classes c members → IsOneOf members n
      → ⊥
  no_class n c members t_n st one =
      let cl = t.are_classes c members st in
      let there = cl.all number lt (together_on (cl.only n one) (together_back t_n)) in
      let is_none : c ≡ none = stands_one class_of number c none (t.class_of_member c number members st there) free in
      let within = stands_within classes c members st in
      omega (arith, is_none, within, t.few)

  -- no lesser number is together with the free one
  pub lone : (n : ℕ) → n < number → Together uses number n → ⊥
  lone n less t_n =
      let some = stands_some class_of n (omega (arith, t.long)) in
      elim (t.member_of_class n some.0 some.1) [
        | inl is ↦ t.looked_at n less (subst (λ (c : ℕ). Stands class_of n c) is some.1)
        | inr found ↦ no_class n some.0 found.0 t_n found.1 found.2
      ]

  module _ (members new : List ℕ) (cl : IsClass count uses members) (first : Stands members 0 number)
      (long_new : length new ≡ count)
      (noted : (n : ℕ) → IsOneOf members n → Stands new n (length classes))
      (kept : (n : ℕ) → (IsOneOf members n → ⊥) → slice_get new n ≡ slice_get class_of n) where
    own : IsOneOf members number
    own = record { place = 0; stands = first }

    with_own : (n : ℕ) → IsOneOf members n → Together uses number n
    with_own n one = together_on (together_back (cl.only number own)) (cl.only n one)

    not_none : length classes ≡ none → ⊥
    not_none e = omega (arith, t.few, e)

    pub part_more : IsPartTable count none uses (number + 1) (classes ++ members ∷ []) new
    part_more = record {
      long = long_new;
      few = let l = length-append classes (members ∷ []) in omega (arith, t.few, l);
      are_classes = λ c ms st. elim (stands_split classes (members ∷ []) c ms st) [
        | inl old ↦ t.are_classes c ms old
        | inr last ↦ subst (λ (l : List ℕ). IsClass count uses l) (sym (the_one members ms last.0 last.2).1) cl
      ];
      class_of_member = λ c n ms st one. elim (stands_split classes (members ∷ []) c ms st) [
        | inl old ↦ kept n (λ mine. no_class n c ms (with_own n mine) old one) ∙ t.class_of_member c n ms old one
        | inr last ↦
            let e = the_one members ms last.0 last.2 in
            let at : length classes ≡ c = omega (arith, last.1, e.0) in
            subst (λ (k : ℕ). Stands new n k) at (noted n (subst (λ (l : List ℕ). IsOneOf l n) e.1 one))
      ];
      member_of_class = λ n c st. elim (member_told members n) [
        | inl mine ↦
            let at : length classes ≡ c = stands_one new n (length classes) c (noted n mine) st in
            inr (
              members,
              subst (λ (k : ℕ). Stands (classes ++ members ∷ []) k members)
                  at (stands_next classes members []),
              mine,
            )
        | inr other ↦ elim (t.member_of_class n c (sym (kept n other) ∙ st)) [
          | inl is ↦ inl is
          | inr found ↦ inr (found.0, stands_left classes (members ∷ []) c found.0 found.1, found.2)
        ]
      ];
      looked_at = λ n less st. elim (member_told members n) [
        | inl mine ↦ not_none (stands_one new n (length classes) none (noted n mine) st)
        | inr other ↦ elim (cases_lt n number) [
          | inl below ↦ t.looked_at n below (sym (kept n other) ∙ st)
          | inr not_below ↦ let e : number ≡ n = omega arith in other (subst (λ (k : ℕ). IsOneOf members k) e own)
        ]
      ];
      ascend = λ c d m k ms ks less p q a b. elim (stands_split classes (members ∷ []) c ms p) [
        | inl old_c ↦ elim (stands_split classes (members ∷ []) d ks q) [
          | inl old_d ↦ t.ascend c d m k ms ks less old_c old_d a b
          | inr last ↦
              let e = the_one members ks last.0 last.2 in
              let at : k ≡ number = stands_one members 0 k number (subst (λ (l : List ℕ). Stands l 0 k) e.1 b) first in
              let under = t.below c m ms old_c a in
              omega (arith, at, under)
        ]
        | inr last ↦
            let e = the_one members ms last.0 last.2 in
            let within = stands_within (classes ++ members ∷ []) d ks q in
            let l = length-append classes (members ∷ []) in
            absurd (omega (arith, last.1, e.0, within, l, less))
      ];
      below = λ c m ms st a. elim (stands_split classes (members ∷ []) c ms st) [
        | inl old ↦ let under = t.below c m ms old a in omega arith
        | inr last ↦
            let e = the_one members ms last.0 last.2 in
            let at : m ≡ number = stands_one members 0 m number (subst (λ (l : List ℕ). Stands l 0 m) e.1 a) first in
            omega (arith, at)
      ];
    }

-- before the first number was looked at there is no class
each_none : (many none n c : ℕ) → Stands (replicate many none) n c → c ≡ none
each_none zero none n c p = absurd (stands_none n c p)
each_none (suc many) none zero c p = cc
each_none (suc many) none (suc n) c p = each_none many none n c p

pub empty_table : (count none : ℕ) (uses : List (ℕ × ℕ)) (class_of : List ℕ) → class_of ≡ replicate count none
    → IsPartTable count none uses 0 [] class_of
empty_table count none uses class_of e = record {
  long = ap length e ∙ length-replicate count none;
  few = omega arith;
  are_classes = λ c ms st. absurd (stands_none c ms st);
  class_of_member = λ c n ms st one. absurd (stands_none c ms st);
  member_of_class = λ n c st. inl (each_none count none n c (subst (λ (l : List ℕ). Stands l n c) e st));
  looked_at = λ n less st. omega arith;
  ascend = λ c d m k ms ks less p q a b. absurd (stands_none c ms p);
  below = λ c m ms st a. absurd (stands_none c ms st);
}

-- a number whose class was found before
pub passed : (count none : ℕ) (uses : List (ℕ × ℕ)) (number : ℕ) (classes : List (List ℕ)) (class_of : List ℕ) (x : ℕ)
    → IsPartTable count none uses number classes class_of → number < count → x ≡ get_or class_of number x
    → (x ≡ none → ⊥) → IsPartTable count none uses (number + 1) classes class_of
passed count none uses number classes class_of x t lt e differs = record {
  long = t.long;
  few = omega (arith, t.few);
  are_classes = t.are_classes;
  class_of_member = t.class_of_member;
  member_of_class = t.member_of_class;
  looked_at = λ n less st. elim (cases_lt n number) [
    | inl below ↦ t.looked_at n below st
    | inr not_below ↦
        let same : n ≡ number = omega arith in
        let stands : Stands class_of number x =
        slice_get-get_or class_of number x (omega (arith, lt, t.long)) ∙ ap (λ (k : ℕ). Some k) (sym e) in
        differs (stands_one class_of number x none stands (subst (λ (k : ℕ). Stands class_of k none) same st))
  ];
  ascend = t.ascend;
  below = λ c m ms st a. let under = t.below c m ms st a in omega (arith, under);
}

-- where all numbers were looked at, the table is whole
pub whole_table : (count none : ℕ) (uses : List (ℕ × ℕ)) (classes : List (List ℕ)) (class_of : List ℕ)
    → IsPartTable count none uses count classes class_of → IsClassTable count uses classes class_of
whole_table count none uses classes class_of t = record {
  long = t.long;
  few = t.few;
  are_classes = t.are_classes;
  class_of_member = t.class_of_member;
  member_of_class = λ n c st. elim (t.member_of_class n c st) [
    | inl is ↦ absurd (t.looked_at n (let within = stands_within class_of n c st in omega (arith, within, t.long)) (subst (λ (k : ℕ). Stands class_of n k) is st))
    | inr found ↦ found
  ];
  ascend = t.ascend;
}
