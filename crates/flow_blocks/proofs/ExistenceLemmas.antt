-- A graph has a list of classes.
use Rattle.std.proofs.Common.{◌≡◌, ℕ, zero, suc, ◌<◌, ◌≤◌, ◌⊎◌, inl, inr, Bool, true, false, true≢false, List, [], ◌∷◌, ◌++◌, length, refl, sym, subst, arith}
use Rattle.std.proofs.lemmas.Bool.{cases_eq, cases_lt}
use Rattle.ar_base.specs.Lists.{Stands, IsOneOf}
use Rattle.ar_base.proofs.Standing.{stands_none, stands_one, stands_left, stands_next, stands_split}
use Rattle.flow_blocks.specs.Blocks.{Depends, directly, through, Together, same, each_other, IsGiven, MayBeGiven, IsNext, Follow, all_given, next}
use Rattle.flow_blocks.specs.BlocksInside.{AreUsesBelow}
use Rattle.flow_blocks.proofs.ClassLemmas.{depends_on, together_back, together_on}
use Rattle.flow_blocks.proofs.TableLemmas.{the_one}
use Rattle.flow_blocks.proofs.DescentLemmas.{count_upto, less}
use Rattle.flow_blocks.proofs.ReachLemmas.{IsDecided, Reaches, decide_both, decide_either, decide_depends, decide_together, decide_given, least_below, IsListOf, list_below}

-- a decided fact as a truth value
says : {A : Type 0} → IsDecided A → Bool
says (inl holds) = true
says (inr fails) = false

says_yes : {A : Type 0} → (d : IsDecided A) → A → says d ≡ true
unfolding says
says_yes (inl holds) h = refl
says_yes (inr fails) h = absurd (fails h)

says_no : {A : Type 0} → (d : IsDecided A) → (A → ⊥) → says d ≡ false
unfolding says
says_no (inl holds) none = absurd (none holds)
says_no (inr fails) none = refl

said : {A : Type 0} → (d : IsDecided A) → says d ≡ true → A
unfolding says
said (inl holds) e = holds
said (inr fails) e = absurd (true≢false (sym e))

decide_no : {A : Type 0} → IsDecided A → IsDecided (A → ⊥)
decide_no (inl holds) = inr (λ fails. fails holds)
decide_no (inr fails) = inl fails

-- how many numbers below an end have P
how_many : (P : ℕ → Type 0) → ((n : ℕ) → IsDecided (P n)) → ℕ → ℕ
how_many P decide end = count_upto (λ n. says (decide n)) end

fewer_have : (P Q : ℕ → Type 0) (p : (n : ℕ) → IsDecided (P n)) (q : (n : ℕ) → IsDecided (Q n)) (end k : ℕ)
    → ((n : ℕ) → P n → Q n) → k < end → (P k → ⊥) → Q k → how_many P p end < how_many Q q end
unfolding how_many
fewer_have P Q p q end k more lt fails holds =
    less (λ n. says (p n)) (λ n. says (q n)) end k (λ n below e. says_yes (q n) (more n (said (p n) e))) lt
    (says_no (p k) fails) (says_yes (q k) holds)

-- the first of an ascending list is the least
first_least : (P : ℕ → Type 0) (end m n : ℕ) (xs : List ℕ) → IsListOf P end xs → Stands xs 0 m → IsOneOf xs n → m ≤ n
first_least P end m n xs of first one = by one.place one.stands
  where
    by : (k : ℕ) → Stands xs k n → m ≤ n
    by zero p = let e : m ≡ n = stands_one xs 0 m n first p in omega arith
    by (suc k) p = let lt = of.ascending.ascends 0 (suc k) m n (omega arith) first p in omega arith

module _ (count : ℕ) (uses : List (ℕ × ℕ)) (low : AreUsesBelow count uses) where
  target_below : {a b : ℕ} → Depends uses a b → b < count
  target_below {a} {b} (directly one) = (low a b one).1
  target_below (through one rest) = target_below rest

  on : {a b n : ℕ} → Together uses a b → Depends uses b n → Depends uses a n
  on same d = d
  on (each_other f g) d = depends_on f d

  decide_reaches : (a n : ℕ) → IsDecided (Reaches uses a n)
  decide_reaches a n = decide_either (cases_eq a n) (decide_depends uses a n)

  reach : ℕ → ℕ
  reach a = how_many (λ n. Reaches uses a n) (decide_reaches a) count

  -- a number that does not depend back reaches less
  reaches_less : (a n : ℕ) → a < count → Depends uses a n → (Together uses a n → ⊥) → reach n < reach a
  unfolding reach
  reaches_less a n lt d apart = fewer_have (λ k. Reaches uses n k) (λ k. Reaches uses a k) (decide_reaches n)
      (decide_reaches a) count a
      (λ k r. elim r [ inl is ↦ inr (subst (λ (m : ℕ). Depends uses a m) is d) | inr rest ↦ inr (depends_on d rest) ])
      lt
      (λ r. elim r [
        | inl is ↦ apart (subst (λ (k : ℕ). Together uses a k) (sym is) same)
        | inr back ↦ apart (each_other d back)
      ]) (inl refl)

  module _ (given : List (List ℕ)) where
    -- a number outside its class that a number depends on and that was not given
    record IsAwaited (a n : ℕ) : Type 0 where
      depends : Depends uses a n
      apart : Together uses a n → ⊥
      free : IsGiven given n → ⊥

    -- the number's class may come
    record CanCome (n : ℕ) : Type 0 where
      free : IsGiven given n → ⊥
      may : MayBeGiven uses given n

    decide_awaited : (a n : ℕ) → IsDecided (IsAwaited a n)
    decide_awaited a n = elim (decide_both (decide_depends uses a n)
        (decide_both (decide_no (decide_together uses a n)) (decide_no (decide_given given n)))) [
          | inl holds ↦ inl (record { depends = holds.0; apart = holds.1.0; free = holds.1.1 })
          | inr fails ↦ inr (λ w. fails (w.depends, (w.apart, w.free)))
        ]

    awaits_or_may : (a : ℕ) → ((n : ℕ) × IsAwaited a n) ⊎ MayBeGiven uses given a
    awaits_or_may a = elim (least_below (λ n. IsAwaited a n) (decide_awaited a) count) [
      | inl found ↦ inl (found.0, found.2)
      | inr none ↦ inr (λ b n t d. elim (decide_together uses a n) [
        | inl holds ↦ inl holds
        | inr fails ↦ elim (decide_given given n) [
          | inl g ↦ inr g
          | inr free ↦ absurd (none n (target_below d) (record { depends = on t d; apart = fails; free = free }))
        ]
      ])
    ]

    decide_can_come : (n : ℕ) → IsDecided (CanCome n)
    decide_can_come n = elim (decide_given given n) [
      | inl g ↦ inr (λ c. c.free g)
      | inr free ↦ elim (awaits_or_may n) [
        | inl waits ↦ inr (λ c. elim (c.may n waits.0 same waits.1.depends)
            [ inl t ↦ waits.1.apart t | inr g ↦ waits.1.free g ])
        | inr may ↦ inl (record { free = free; may = may })
      ]
    ]

    -- where a number was not given, some number's class may come
    some_can_come : (fuel a : ℕ) → reach a ≤ fuel → a < count → (IsGiven given a → ⊥)
        → (n : ℕ) × (n < count) × CanCome n
    some_can_come zero a le lt free = elim (awaits_or_may a) [
      | inl waits ↦ absurd (let down = reaches_less a waits.0 lt waits.1.depends waits.1.apart in omega (arith, down, le))
      | inr may ↦ (a, lt, record { free = free; may = may })
    ]
    some_can_come (suc fuel) a le lt free = elim (awaits_or_may a) [
      | inl waits ↦ let down = reaches_less a waits.0 lt waits.1.depends waits.1.apart in some_can_come fuel waits.0 (omega (arith, down, le)) (target_below waits.1.depends) waits.1.free
      | inr may ↦ (a, lt, record { free = free; may = may })
    ]

    given_before : (xs : List ℕ) (n : ℕ) → IsGiven given n → IsGiven (given ++ xs ∷ []) n
    given_before xs n g = record {
      members = g.members;
      is_one = record {
        place = g.is_one.place;
        stands = stands_left given (xs ∷ []) g.is_one.place g.members g.is_one.stands;
      };
      is_member = g.is_member;
    }

    given_now : (xs : List ℕ) (n : ℕ) → IsOneOf xs n → IsGiven (given ++ xs ∷ []) n
    given_now xs n one = record {
      members = xs;
      is_one = record { place = length given; stands = stands_next given xs [] };
      is_member = one;
    }

    given_split : (xs : List ℕ) (n : ℕ) → IsGiven (given ++ xs ∷ []) n → IsGiven given n ⊎ IsOneOf xs n
    given_split xs n g = elim (stands_split given (xs ∷ []) g.is_one.place g.members g.is_one.stands) [
      | inl old ↦ inl (record {
        members = g.members;
        is_one = record { place = g.is_one.place; stands = old };
        is_member = g.is_member;
      })
      | inr last ↦ inr (subst (λ (l : List ℕ). IsOneOf l n) (the_one xs g.members last.0 last.2).1 g.is_member)
    ]

    -- classes were given whole
    record AreWhole : Type 0 where
      whole : (n k : ℕ) → IsGiven given n → Together uses n k → k < count → IsGiven given k

    -- the class of the least number that can come is next
    next_class : (r : ℕ) (xs : List ℕ) → AreWhole → r < count → CanCome r → ((k : ℕ) → k < r → CanCome k → ⊥)
        → IsListOf (λ n. Together uses r n) count xs → IsNext count uses given xs
    next_class r xs whole lt can lowest of = record {
      is_class = record {
        one = r;
        is_member = of.all r lt same;
        below = of.below;
        only = of.only;
        all = of.all;
        ascending = of.ascending;
      };
      is_new = λ n one g. can.free (whole.whole n r g (together_back (of.only n one)) lt);
      may = λ n one b k t d. elim (can.may b k (together_on (of.only n one) t) d)
          [ inl there ↦ inl (together_on (together_back (of.only n one)) there) | inr g ↦ inr g ];
      least = λ m n first below free may.
          let le = first_least (λ k. Together uses r k) count m r xs of first (of.all r lt same) in
          elim (cases_lt n r) [
            | inl before ↦ absurd (lowest n before (record { free = free; may = may }))
            | inr not_before ↦ omega (arith, le, not_before)
          ];
    }

  whole_on : (given : List (List ℕ)) (r : ℕ) (xs : List ℕ) → AreWhole given → IsListOf (λ n. Together uses r n) count xs
      → AreWhole (given ++ xs ∷ [])
  whole_on given r xs old of = record {
    whole = λ n k g t lt. elim (given_split given xs n g) [
      | inl before ↦ given_before given xs k (old.whole n k before t lt)
      | inr now ↦ given_now given xs k (of.all k lt (together_on (of.only n now) t))
    ];
  }

  left : List (List ℕ) → ℕ
  left given = how_many (λ n. IsGiven given n → ⊥) (λ n. decide_no (decide_given given n)) count

  fewer_left : (given : List (List ℕ)) (r : ℕ) (xs : List ℕ) → r < count → (IsGiven given r → ⊥) → IsOneOf xs r
      → left (given ++ xs ∷ []) < left given
  unfolding left
  fewer_left given r xs lt free one = fewer_have (λ n. IsGiven (given ++ xs ∷ []) n → ⊥) (λ n. IsGiven given n → ⊥)
      (λ n. decide_no (decide_given (given ++ xs ∷ []) n)) (λ n. decide_no (decide_given given n)) count r
      (λ n not_now g. not_now (given_before given xs n g)) lt (λ fails. fails (given_now given xs r one)) free

  -- where no class can come, all were given
  done : (given : List (List ℕ)) → ((n : ℕ) → n < count → CanCome given n → ⊥) → (n : ℕ) → n < count → IsGiven given n
  done given none n lt = elim (decide_given given n) [
    | inl g ↦ g
    | inr free ↦ absurd (let some = some_can_come given (reach n) n (omega arith) lt free in none some.0 some.1 some.2)
  ]

  -- the next class, where one can come
  step : (given : List (List ℕ)) → AreWhole given → ((n : ℕ) → n < count → CanCome given n → ⊥)
      ⊎ ((xs : List ℕ) × IsNext count uses given xs × AreWhole (given ++ xs ∷ [])
      × (left (given ++ xs ∷ []) < left given))
  step given whole = elim (least_below (λ n. CanCome given n) (decide_can_come given) count) [
    | inr none ↦ inl none
    | inl found ↦
        let class = list_below (λ n. Together uses found.0 n) (decide_together uses found.0) count in
        inr (
          class.0,
          next_class given found.0 class.0 whole found.1 found.2 found.3 class.1,
          whole_on given found.0 class.0 whole class.1,
          fewer_left given found.0 class.0 found.1 found.2.free (class.1.all found.0 found.1 same),
        )
  ]

  -- the classes that follow, where at most so many numbers are left
  rest_of : (fuel : ℕ) (given : List (List ℕ)) → AreWhole given → left given ≤ fuel
      → (blocks : List (List ℕ)) × Follow count uses given blocks
  rest_of zero given whole le = elim (step given whole) [
    | inl none ↦ ([], all_given (done given none))
    | inr more ↦ absurd (let down = more.3 in omega (arith, down, le))
  ]
  rest_of (suc fuel) given whole le = elim (step given whole) [
    | inl none ↦ ([], all_given (done given none))
    | inr more ↦
        let down = more.3 in
        let rest = rest_of fuel (given ++ more.0 ∷ []) more.2 (omega (arith, down, le)) in
        (more.0 ∷ rest.0, next more.1 rest.1)
  ]

  pub some_list : (blocks : List (List ℕ)) × Follow count uses [] blocks
  some_list = rest_of (left []) [] (record
      { whole = λ n k g t lt. absurd (stands_none g.is_one.place g.members g.is_one.stands) }) (omega arith)
