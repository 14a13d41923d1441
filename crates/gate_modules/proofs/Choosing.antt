-- The chosen units.
use Rattle.std.proofs.Common.{◌≡◌, ◌⊎◌, inl, inr, ℕ, zero, suc, ◌+◌, ◌<◌, true, List, [], ◌∷◌, ◌++◌, length, map, take, get_or, refl, sym, ap, ◌∙◌, subst, arith, true≢false, lt_irrefl}
use Rattle.std.proofs.lemmas.Bool.{cases_lt}
use Rattle.std.proofs.lemmas.List.{take_more}
use Rattle.ar_base.specs.Lists.{Stands, IsOneOf, Along}
use Rattle.ar_base.specs.Lists.Along.{none, one_and}
use Rattle.ar_base.proofs.Standing.{one_left, one_right, one_split, one_none, only_item, stands_get, stands_one, stands_split, stands_within, one_here}
use Rattle.zdd_nodes.specs.Families.{Family}
use Rattle.zdd_nodes.specs.Sections.{section}
use Rattle.zdd_nodes.proofs.Behind.{behind_none}
use Rattle.zdd_nodes.specs.Nodes.{Stored, family, IsFamilyNumber, IsSoundStore}
use Rattle.gate_modules.specs.Choosing.{IsWithinNone, Considers, AreChosenSoFar}
use Rattle.gate_modules.specs.Choosing.Considers.{within, no_module, is_new}
use Rattle.gate_modules.specs.Forms.{AreOfDifferentUnits, PassesTaken, AddsForms}
use Rattle.gate_modules.specs.Modules.{lies, Covers, IsModule, IsRound, IsChosen, AreChosen}
use Rattle.gate_modules.specs.ModulesInside.{AreRanges}
use Rattle.gate_modules.specs.Shortened.{UnitSets, ShortForm, short_form, once, IsModuleOf, IsShortened}
use Rattle.gate_modules.specs.declared.ranges.Range.{Range}
use Rattle.gate_modules.proofs.Exchange.{exit_has, together_part, exits_alike, in_lies}
use Rattle.gate_modules.proofs.Splitting.{has_some}

covers_through : (a b c : Range) → Covers a b → Covers b c → Covers a c
covers_through a b c x y = (omega (arith, x.0, y.0), omega (arith, x.1, y.1))

covers_self : (a : Range) → Covers a a
covers_self a = (omega arith, omega arith)

along_push : {A B : Type 0} (R : A → B → Type 0) (xs : List A) (ys : List B) (x : A) (y : B) → Along R xs ys → R x y
    → Along R (xs ++ x ∷ []) (ys ++ y ∷ [])
along_push R _ _ x y none r = one_and r none
along_push R _ _ x y (one_and {xs = xs} {ys = ys} q a) r = one_and q (along_push R xs ys x y a r)

module _ (f : Family) (ranges : List Range) (are : AreRanges ranges) where
  pub none_yet : AreChosenSoFar f ranges [] [] []
  none_yet = record {
    from_done = λ c i. absurd (one_none c i);
    sound = λ c i. absurd (one_none c i);
    covering = λ o i m. absurd (one_none o i);
    ascend = λ j k a b l i m. cc;
    modules_are = none;
  }

  -- the places of two ranges, by their units
  unit_places : (j k : ℕ) (a b : Range) → Stands ranges j a → Stands ranges k b → a.unit.n < b.unit.n → j < k
  unit_places j k a b i m l = elim (cases_lt j k) [
    | inl y ↦ y
    | inr x ↦ elim (cases_lt k j) [
      | inl z ↦ (let u = are.ascend k j b a z m i in absurd (omega (arith, l, u)))
      | inr z ↦ (let e : j ≡ k = omega (arith, x, z) in
          let ab = stands_one ranges k a b (subst (λ w. Stands ranges w a) e i) m in
          absurd (lt_irrefl a.unit.n (subst (λ (w : Range). a.unit.n < w.unit.n) (sym ab) l)))
    ]
  ]

  module _ (n : ℕ) (r : Range) (r_at : Stands ranges n r) (done chosen : List Range) (modules : List UnitSets)
      (done_before : (o : Range) → IsOneOf done o → o.unit.n < r.unit.n)
      (done_all : (k : ℕ) (o : Range) → k < n → Stands ranges k o → IsOneOf done o)
      (so : AreChosenSoFar f ranges done chosen modules) where
    last : IsOneOf (done ++ r ∷ []) r
    last = one_right done (r ∷ []) r (record { place = zero; stands = refl })

    in_done : (o : Range) → IsOneOf (done ++ r ∷ []) o → IsOneOf done o ⊎ (r ≡ o)
    in_done o i = elim (one_split done (r ∷ []) o i) [ inl j ↦ inl j | inr j ↦ inr (only_item r o j) ]

    skipped : (IsModule f r → (c : Range) × IsOneOf chosen c × ((c ≡ r) ⊎ IsRound c r))
        → AreChosenSoFar f ranges (done ++ r ∷ []) chosen modules
    skipped h = record {
      from_done = λ c i. one_left done (r ∷ []) c (so.from_done c i);
      sound = so.sound;
      covering = λ o i m. elim (in_done o i) [
        | inl j ↦ so.covering o j m
        | inr e ↦ subst (λ z. (c : Range) × IsOneOf chosen c × ((c ≡ z) ⊎ IsRound c z)) e
            (h (subst (IsModule f) (sym e) m))
      ];
      ascend = so.ascend;
      modules_are = so.modules_are;
    }

    -- no module is round one that lies within no chosen unit
    outermost : IsWithinNone chosen r → (o : Range) → IsOneOf ranges o → IsRound o r → IsModule f o → ⊥
    outermost free o i h m =
        let j = done_all i.place o (unit_places i.place n o r i.stands r_at h.first) i.stands in
        let t = so.covering o j m in
        free.none t.0 t.1 (elim t.2 [
          | inl e ↦ subst (λ z. Covers z r) (sym e) h.covers
          | inr k ↦ covers_through t.0 o r k.covers h.covers
        ])

    pushed : (m : UnitSets) → IsWithinNone chosen r → IsModule f r → IsModuleOf f r m
        → AreChosenSoFar f ranges (done ++ r ∷ []) (chosen ++ r ∷ []) (modules ++ m ∷ [])
    pushed m free is_module parts = record {
      from_done = λ c i. elim (one_split chosen (r ∷ []) c i)
          [ inl j ↦ one_left done (r ∷ []) c (so.from_done c j) | inr j ↦ one_right done (r ∷ []) c j ];
      sound = λ c i. elim (one_split chosen (r ∷ []) c i) [
        | inl j ↦ so.sound c j
        | inr j ↦ subst (IsChosen f ranges) (only_item r c j)
            (record { listed = record { place = n; stands = r_at }; is_module = is_module; outermost = outermost free })
      ];
      covering = λ o i k. elim (in_done o i) [
        | inl j ↦ (let t = so.covering o j k in (t.0, one_left chosen (r ∷ []) t.0 t.1, t.2))
        | inr e ↦ (r, one_right chosen (r ∷ []) r (record { place = zero; stands = refl }), inl e)
      ];
      ascend = λ j k a b l i h. ascending j k a b l (stands_split chosen (r ∷ []) j a i)
          (stands_split chosen (r ∷ []) k b h);
      modules_are = along_push (IsModuleOf f) chosen modules r m so.modules_are parts;
    }
      where
        ascending : (j k : ℕ) (a b : Range) → j < k
            → Stands chosen j a ⊎ ((i : ℕ) × (j ≡ length chosen + i) × Stands (r ∷ []) i a)
            → Stands chosen k b ⊎ ((i : ℕ) × (k ≡ length chosen + i) × Stands (r ∷ []) i b) → a.unit.n < b.unit.n
        ascending j k a b l (inl x) (inl y) = so.ascend j k a b l x y
        ascending j k a b l (inl x) (inr y) =
            let e = only_item r b (one_here (r ∷ []) y.0 b y.2) in
            subst (λ (z : Range). a.unit.n < z.unit.n) e (done_before a (so.from_done a (one_here chosen j a x)))
        ascending j k a b l (inr x) (inl y) = let w = stands_within chosen k b y in absurd (omega (arith, l, x.1, w))
        ascending j k a b l (inr x) (inr y) =
            let u = stands_within (r ∷ []) x.0 a x.2 in
            let w = stands_within (r ∷ []) y.0 b y.2 in
            absurd (omega (arith, l, x.1, y.1, u, w))

    pub considered : (new : List Range) (new_modules : List UnitSets) → Considers f r chosen modules new new_modules
        → AreChosenSoFar f ranges (done ++ r ∷ []) new new_modules
    considered _ _ (within w) = skipped
        (λ m. (
          w.outer,
          w.is_chosen,
          inr (record
              { first = done_before w.outer (so.from_done w.outer w.is_chosen); covers = w.covers }),
        ))
    considered _ _ (no_module h) = skipped (λ m. absurd (h m))
    considered _ _ (is_new {new = new} {modules = after} m free parts unit e k) =
        subst (λ z. AreChosenSoFar f ranges (done ++ r ∷ []) z after) (sym e)
        (subst (λ z. AreChosenSoFar f ranges (done ++ r ∷ []) (chosen ++ r ∷ []) z) (sym k)
        (pushed m free parts.is_module (record { unit = unit; sets = parts.are_parts })))

  -- no event is of two of the chosen units
  module _ (chosen : List Range) (sound : (c : Range) → IsOneOf chosen c → IsChosen f ranges c) where
    apart_at : (a b : Range) → IsOneOf chosen a → IsOneOf chosen b → (e : ℕ) → lies a e ≡ true → lies b e ≡ true
        → (j k : ℕ) → j < k → Stands ranges j a → Stands ranges k b → ⊥
    apart_at a b ia ib e ea eb j k l sa sb =
        let x = in_lies a e ea in
        let y = in_lies b e eb in
        elim (are.nested j k a b l sa sb (omega (arith, x.0, x.1)) (omega (arith, y.0, y.1))) [
          | inl apart ↦ apart e ea eb
          | inr covers ↦ (sound b ib).outermost a (sound a ia).listed
              (record { first = are.ascend j k a b l sa sb; covers = covers }) (sound a ia).is_module
        ]

    pub different_units : AreOfDifferentUnits chosen
    different_units = record {
      one = λ a b ia ib e ea eb. let pa = (sound a ia).listed in let pb = (sound b ib).listed in
          elim (cases_lt pa.place pb.place) [
            | inl l ↦ absurd (apart_at a b ia ib e ea eb pa.place pb.place l pa.stands pb.stands)
            | inr g ↦ elim (cases_lt pb.place pa.place) [
              | inl l ↦ absurd (apart_at b a ib ia e eb ea pb.place pa.place l pb.stands pa.stands)
              | inr h ↦ stands_one ranges pb.place a b (subst (λ z. Stands ranges z a) (let i : pa.place ≡ pb.place = omega (arith, g, h) in i) pa.stands) pb.stands
            ]
          ];
      units = λ a b ia ib u. let pa = (sound a ia).listed in let pb = (sound b ib).listed in
          elim (cases_lt pa.place pb.place) [
            | inl l ↦ (let w = are.ascend pa.place pb.place a b l pa.stands pb.stands in absurd (omega (arith, u, w)))
            | inr g ↦ elim (cases_lt pb.place pa.place) [
              | inl l ↦ (let w = are.ascend pb.place pa.place b a l pb.stands pa.stands in absurd (omega (arith, u, w)))
              | inr h ↦ stands_one ranges pb.place a b (subst (λ z. Stands ranges z a) (let i : pa.place ≡ pb.place = omega (arith, g, h) in i) pa.stands) pb.stands
            ]
          ];
    }

  -- all ranges are considered
  module _ (chosen : List Range) (modules : List UnitSets) (so : AreChosenSoFar f ranges ranges chosen modules) where
    pub are_chosen : AreChosen f ranges chosen
    are_chosen = record {
      sound = so.sound;
      whole = λ r c. elim (so.covering r c.listed c.is_module).2 [
        | inl e ↦ subst (IsOneOf chosen) e (so.covering r c.listed c.is_module).1
        | inr h ↦ (let t = so.covering r c.listed c.is_module in absurd (c.outermost t.0 (so.sound t.0 t.1).listed h (so.sound t.0 t.1).is_module))
      ];
      ascend = so.ascend;
    }

    pub different : AreOfDifferentUnits chosen
    different = different_units chosen so.sound

    pub shortened : (forms : List ShortForm) → AddsForms chosen [] f [] forms → IsShortened f ranges modules forms
    shortened forms e = record {
      chosen = chosen;
      are_chosen = are_chosen;
      modules_are = so.modules_are;
      forms_are = e ∙ ap (λ z. once (map (short_form chosen) z)) (behind_none f);
    }

-- in a module the parts go on alike
pub fit_root : (s : Stored) → IsSoundStore s → (root : ℕ) → IsFamilyNumber s root → (ranges chosen : List Range)
    → ((c : Range) → IsOneOf chosen c → IsChosen (family s root) ranges c) → PassesTaken chosen [] (family s root)
fit_root s sound root inside ranges chosen h = record {
  alike = λ r i. record {
    alike = λ p a b na nb sa sb.
        let q = has_some (section r.to a (section r.from p (family s root))) sa in
        exits_alike s sound root inside r (h r i).is_module p b a nb sb
        (together_part s sound root inside r p a q.0 na (exit_has s sound root inside r p a q.0 na q.1));
  };
  passed = λ r i t. absurd (true≢false (sym t));
}

-- ranges one by one
pub done_more : (xs : List Range) (k : ℕ) (d : Range) → k < length xs
    → take (k + 1) xs ≡ take k xs ++ get_or xs k d ∷ []
done_more xs k d l = take_more xs k d l

pub stands_taken : (xs : List Range) (n k : ℕ) (o : Range) → k < n → Stands xs k o → IsOneOf (take n xs) o
stands_taken xs zero k o l i = absurd (omega (arith, l))
stands_taken [] (suc n) k o l i = cc
stands_taken (x ∷ xs) (suc n) zero o l i = record { place = zero; stands = i }
stands_taken (x ∷ xs) (suc n) (suc k) o l i = let t = stands_taken xs n k o (omega (arith, l)) i in record { place = suc t.place; stands = t.stands }

pub taken_stands : (xs : List Range) (n : ℕ) (o : Range) → IsOneOf (take n xs) o → (k : ℕ) × (k < n) × Stands xs k o
taken_stands xs n o i = at xs n i.place i.stands
  where
    at : (xs : List Range) (n k : ℕ) → Stands (take n xs) k o → (k : ℕ) × (k < n) × Stands xs k o
    at xs zero k i = cc
    at [] (suc n) k i = cc
    at (x ∷ xs) (suc n) zero i = (zero, omega arith, i)
    at (x ∷ xs) (suc n) (suc k) i = let t = at xs n k i in (suc t.0, omega (arith, t.1), t.2)

-- one more range is considered
pub one_more : (f : Family) (ranges : List Range) (are : AreRanges ranges) (n : ℕ) (d : Range) → n < length ranges
    → (chosen : List Range) (modules : List UnitSets) → AreChosenSoFar f ranges (take n ranges) chosen modules
    → (new : List Range) (new_modules : List UnitSets) → Considers f (get_or ranges n d) chosen modules new new_modules
    → AreChosenSoFar f ranges (take (n + 1) ranges) new new_modules
one_more f ranges are n d l chosen modules so new new_modules c =
    let r = get_or ranges n d in
    let r_at = stands_get ranges n d l in
    subst (λ z. AreChosenSoFar f ranges z new new_modules) (sym (done_more ranges n d l))
    (considered f ranges are n r r_at (take n ranges) chosen modules
    (λ o i. let t = taken_stands ranges n o i in are.ascend t.0 n o r t.1 t.2 r_at)
    (λ k o h i. stands_taken ranges n k o h i) so new new_modules c)

-- none of these covers the range, and neither does one more
pub none_more : (xs : List Range) (k : ℕ) (d : Range) → k < length xs → (r : Range) → IsWithinNone (take k xs) r
    → (Covers (get_or xs k d) r → ⊥) → IsWithinNone (take (k + 1) xs) r
none_more xs k d l r before free = record {
  none = λ x i h. elim (one_split (take k xs) (get_or xs k d ∷ []) x (subst (λ z. IsOneOf z x) (done_more xs k d l) i)) [
    | inl j ↦ before.none x j h
    | inr j ↦ free (subst (λ z. Covers z r) (sym (only_item (get_or xs k d) x j)) h)
  ];
}
