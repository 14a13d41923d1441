-- A graph has one list of classes, and each number is in one of them.
use Rattle.std.proofs.Common.{◌≡◌, ℕ, zero, suc, ◌<◌, ◌≤◌, ◌⊎◌, inl, inr, List, [], ◌∷◌, ◌++◌, length, take, refl, sym, ap, subst, arith}
use Rattle.ar_base.specs.Sets.{Ascends}
use Rattle.ar_base.specs.Lists.{Stands, IsOneOf}
use Rattle.ar_base.proofs.Standing.{stands_none, stands_one, stands_left, stands_next, stands_split, one_rest, one_cases, one_first, one_split, one_left}
use Rattle.ar_base.proofs.Sets.{ascends_rest, same_ascending}
use Rattle.flow_blocks.specs.Blocks.{Depends, same, IsGiven, IsNext, Follow, all_given, next}
use Rattle.flow_blocks.proofs.ClassLemmas.{together_on, together_back}
use Rattle.flow_blocks.proofs.TableLemmas.{the_one}

first_of : (members : List ℕ) (n : ℕ) → IsOneOf members n → (m : ℕ) × Stands members 0 m
first_of [] n one = absurd (stands_none one.place n one.stands)
first_of (x ∷ xs) n one = (x, refl)

module _ {count : ℕ} {uses : List (ℕ × ℕ)} where
  -- the next class is one
  same_next : {given : List (List ℕ)} (xs ys : List ℕ) → IsNext count uses given xs → IsNext count uses given ys
      → xs ≡ ys
  same_next {given} xs ys p q =
      let m = first_of xs p.is_class.one p.is_class.is_member in
      let k = first_of ys q.is_class.one q.is_class.is_member in
      let m_in : IsOneOf xs m.0 = record { place = 0; stands = m.1 } in
      let k_in : IsOneOf ys k.0 = record { place = 0; stands = k.1 } in
      let low = p.least m.0 k.0 m.1 (q.is_class.below k.0 k_in) (q.is_new k.0 k_in) (q.may k.0 k_in) in
      let high = q.least k.0 m.0 k.1 (p.is_class.below m.0 m_in) (p.is_new m.0 m_in) (p.may m.0 m_in) in
      let is : m.0 ≡ k.0 = omega arith in
      let m_in_ys : IsOneOf ys m.0 = subst (λ (n : ℕ). IsOneOf ys n) (sym is) k_in in
      same_ascending xs ys p.is_class.ascending q.is_class.ascending
      (λ n one. q.is_class.all n (p.is_class.below n one)
      (together_on (q.is_class.only m.0 m_in_ys)
      (together_on (together_back (p.is_class.only m.0 m_in)) (p.is_class.only n one))))
      (λ n one. p.is_class.all n (q.is_class.below n one)
      (together_on (p.is_class.only m.0 m_in)
      (together_on (together_back (q.is_class.only m.0 m_in_ys)) (q.is_class.only n one))))

  pub same_blocks : {given : List (List ℕ)} (xs ys : List (List ℕ)) → Follow count uses given xs
      → Follow count uses given ys → xs ≡ ys
  same_blocks [] [] (all_given f) (all_given g) = refl
  same_blocks [] (y ∷ ys) (all_given f) (next q rest) = absurd (let c = q.is_class in q.is_new c.one c.is_member (f c.one (c.below c.one c.is_member)))
  same_blocks (x ∷ xs) [] (next p rest) (all_given g) = absurd (let c = p.is_class in p.is_new c.one c.is_member (g c.one (c.below c.one c.is_member)))
  same_blocks {given} (x ∷ xs) (y ∷ ys) (next p f) (next q g) =
      let is = same_next x y p q in
      let rest = same_blocks xs ys f (subst (λ (l : List ℕ). Follow count uses (given ++ l ∷ []) ys) (sym is) g) in
      λ j. is j ∷ rest j

  -- each number is in a class given before or to come
  pub in_some : {given : List (List ℕ)} (blocks : List (List ℕ)) → Follow count uses given blocks → (n : ℕ) → n < count
      → IsGiven given n ⊎ IsGiven blocks n
  in_some [] (all_given f) n lt = inl (f n lt)
  in_some {given} (x ∷ xs) (next p f) n lt = elim (in_some xs f n lt) [
    | inl before ↦ elim (stands_split given (x ∷ []) before.is_one.place before.members before.is_one.stands) [
      | inl old ↦ inl (record {
        members = before.members;
        is_one = record { place = before.is_one.place; stands = old };
        is_member = before.is_member;
      })
      | inr last ↦ inr (record {
        members = x;
        is_one = one_first x xs;
        is_member = subst (λ (l : List ℕ). IsOneOf l n) (the_one x before.members last.0 last.2).1 before.is_member;
      })
    ]
    | inr later ↦ inr (record {
      members = later.members;
      is_one = one_rest x xs later.members later.is_one;
      is_member = later.is_member;
    })
  ]

  -- no number of a class to come was given
  not_given : {given : List (List ℕ)} (blocks : List (List ℕ)) → Follow count uses given blocks
      → (k n : ℕ) (members : List ℕ) → Stands blocks k members → IsOneOf members n → IsGiven given n → ⊥
  not_given [] (all_given f) k n members st one g = stands_none k members st
  not_given (x ∷ xs) (next p f) zero n members st one g =
      p.is_new n (subst (λ (l : List ℕ). IsOneOf l n) (stands_one (x ∷ xs) 0 members x st refl) one) g
  not_given {given} (x ∷ xs) (next p f) (suc k) n members st one g =
      not_given xs f k n members st one (record {
        members = g.members;
        is_one = record
            { place = g.is_one.place; stands = stands_left given (x ∷ []) g.is_one.place g.members g.is_one.stands };
        is_member = g.is_member;
      })

  -- no number is in two classes
  pub in_one : {given : List (List ℕ)} (blocks : List (List ℕ)) → Follow count uses given blocks
      → (j k n : ℕ) (xs ys : List ℕ) → Stands blocks j xs → Stands blocks k ys → IsOneOf xs n → IsOneOf ys n → j ≡ k
  in_one [] (all_given f) j k n xs ys p q a b = absurd (stands_none j xs p)
  in_one (x ∷ rest) (next h f) zero zero n xs ys p q a b = refl
  in_one {given} (x ∷ rest) (next h f) zero (suc k) n xs ys p q a b =
      absurd (not_given rest f k n ys q b
      (record {
        members = x;
        is_one = record { place = length given; stands = stands_next given x [] };
        is_member = subst (λ (l : List ℕ). IsOneOf l n) (stands_one (x ∷ rest) 0 xs x p refl) a;
      }))
  in_one {given} (x ∷ rest) (next h f) (suc j) zero n xs ys p q a b =
      absurd (not_given rest f j n xs p a
      (record {
        members = x;
        is_one = record { place = length given; stands = stands_next given x [] };
        is_member = subst (λ (l : List ℕ). IsOneOf l n) (stands_one (x ∷ rest) 0 ys x q refl) b;
      }))
  in_one (x ∷ rest) (next h f) (suc j) (suc k) n xs ys p q a b = ap suc (in_one rest f j k n xs ys p q a b)

  -- what a number of a class depends on is in the class, was given before, or is in an earlier one
  pub in_earlier : {given : List (List ℕ)} (blocks : List (List ℕ)) → Follow count uses given blocks
      → (k a n : ℕ) (xs : List ℕ) → n < count → Stands blocks k xs → IsOneOf xs a → Depends uses a n
      → IsOneOf xs n ⊎ (IsGiven given n ⊎ IsGiven (take k blocks) n)
  in_earlier [] (all_given f) k a n xs lt p one d = absurd (stands_none k xs p)
  in_earlier (x ∷ rest) (next h f) zero a n xs lt p one d =
      let is : x ≡ xs = stands_one (x ∷ rest) 0 x xs refl p in
      let there : IsOneOf x a = subst (λ (l : List ℕ). IsOneOf l a) (sym is) one in
      elim (h.may a there a n same d) [
        | inl with_it ↦ inl (subst (λ (l : List ℕ). IsOneOf l n) is
            (h.is_class.all n lt (together_on (h.is_class.only a there) with_it)))
        | inr before ↦ inr (inl before)
      ]
  in_earlier {given} (x ∷ rest) (next h f) (suc k) a n xs lt p one d = elim (in_earlier rest f k a n xs lt p one d) [
    | inl own ↦ inl own
    | inr other ↦ elim other [
      | inl before ↦ elim (one_split given (x ∷ []) before.members before.is_one) [
        | inl old ↦ inr (inl (record { members = before.members; is_one = old; is_member = before.is_member }))
        | inr last ↦ inr (inr (record {
          members = before.members;
          is_one = one_left (x ∷ []) (take k rest) before.members last;
          is_member = before.is_member;
        }))
      ]
      | inr later ↦ inr (inr (record {
        members = later.members;
        is_one = one_rest x (take k rest) later.members later.is_one;
        is_member = later.is_member;
      }))
    ]
  ]
