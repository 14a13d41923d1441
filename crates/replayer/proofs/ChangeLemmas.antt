-- The lines of what changed, by the numbers of what changed.
use Rattle.std.proofs.Common.{◌≡◌, ◌+◌, ◌<◌, ◌≤◌, ◌⊎◌, ℕ, zero, suc, Bool, true, false, if◌then◌else◌, List, [], ◌∷◌, ◌++◌, length, set, get_or, inl, inr, refl, sym, ◌∙◌, ap, subst, arith}
use Rattle.ar_base.specs.Lists.{Stands, IsOneOf}
use Rattle.ar_base.specs.Numbers.{VarId}
use Rattle.ar_base.specs.Sets.{Ascends}
use Rattle.ar_base.proofs.Standing.{stands_within, stands_some, stands_none, stands_map, stands_get, one_first, one_rest, one_cases, one_here}
use Rattle.ar_base.proofs.Sets.{ascends_rest, ascends_first}
use Rattle.ar_base.proofs.Comparing.{three}
use Rattle.domains.specs.declared.Value.{Value}
use Rattle.domains.specs.Same.{is_same}
use Rattle.domains.proofs.Same.{same_is, same_self}
use Rattle.ar_meaning.proofs.OneAnswer.{same_value}
use Rattle.gts_core.specs.Readings.{valuation_at}
use Rattle.gts_core.proofs.Reading.{read_value}
use Rattle.flow_changes.specs.Changes.{changed_numbers, HasChanged, AreChanges}
use Rattle.replayer.specs.Printing.{change_text, changes_from, numbered_texts}
use Rattle.stepper.proofs.Kept.{kept_value}

-- the texts of so many numbers from n on
abbrev span : (ℕ → List ℕ) → ℕ → ℕ → List ℕ
span text n zero = []
span text n (suc k) = text n ++ span text (n + 1) k

-- all texts are those of the numbers whose texts are not empty
span_texts : (text : ℕ → List ℕ) (k n : ℕ) (ns : List ℕ) → Ascends ns → ((m : ℕ) → IsOneOf ns m → (n ≤ m) × (m < n + k))
    → ((m : ℕ) → n ≤ m → m < n + k → (IsOneOf ns m → ⊥) → text m ≡ []) → span text n k ≡ numbered_texts text ns
span_texts text zero n [] up within empty = refl
span_texts text zero n (m ∷ ns) up within empty = let h = within m (one_first m ns) in let a = h.0 in let b = h.1 in absurd (omega (arith, a, b))
span_texts text (suc k) n [] up within empty =
    ap (λ (z : List ℕ). z ++ span text (n + 1) k)
    (empty n (omega arith) (omega arith) (λ o. stands_none o.place n o.stands))
    ∙ span_texts text k (n + 1) [] up (λ m o. absurd (stands_none o.place m o.stands))
    (λ m a b o. empty m (omega (arith, a)) (omega (arith, b)) o)
span_texts text (suc k) n (m ∷ ns) up within empty = elim (three n m) [
  | inl h ↦ (
      ap (λ (z : List ℕ). z ++ span text (n + 1) k) (empty n (omega arith) (omega arith) (absent h))
      ∙ span_texts text k (n + 1) (m ∷ ns) up (λ j o. later h j o)
      (λ j a b o. empty j (omega (arith, a)) (omega (arith, b)) o)
      )
  | inr g ↦ (elim g [
    | inl e ↦ (
        ap (λ (z : List ℕ). text n ++ z) (span_texts text k (n + 1) ns (ascends_rest m ns up) (λ j o. rest e j o)
        (λ j a b o. empty j (omega (arith, a)) (omega (arith, b)) (other e j a o)))
        ∙ ap (λ (z : ℕ). text z ++ numbered_texts text ns) e
        )
    | inr h ↦ (let a = (within m (one_first m ns)).0 in absurd (omega (arith, a, h)))
  ])
]
  where
    least : (j : ℕ) → IsOneOf (m ∷ ns) j → m ≤ j
    least j o = elim (one_cases m ns j o) [ inl e ↦ omega (arith, e) | inr r ↦ (let a = ascends_first m ns up j r in omega (arith, a)) ]

    absent : n < m → IsOneOf (m ∷ ns) n → ⊥
    absent h o = let a = least n o in omega (arith, a, h)

    later : n < m → (j : ℕ) → IsOneOf (m ∷ ns) j → (n + 1 ≤ j) × (j < n + 1 + k)
    later h j o = let a = least j o in let b = (within j o).1 in (omega (arith, a, h), omega (arith, b))

    rest : n ≡ m → (j : ℕ) → IsOneOf ns j → (n + 1 ≤ j) × (j < n + 1 + k)
    rest e j o = let a = ascends_first m ns up j o in let b = (within j (one_rest m ns j o)).1 in (omega (arith, a, e), omega (arith, b))

    other : n ≡ m → (j : ℕ) → n + 1 ≤ j → (IsOneOf ns j → ⊥) → IsOneOf (m ∷ ns) j → ⊥
    other e j a lacks o = elim (one_cases m ns j o) [ inl i ↦ omega (arith, a, e, i) | inr r ↦ lacks r ]

-- the texts of the same numbers
pub texts_same : (some other : ℕ → List ℕ) (ns : List ℕ) → ((n : ℕ) → IsOneOf ns n → some n ≡ other n)
    → numbered_texts some ns ≡ numbered_texts other ns
texts_same some other [] same = refl
texts_same some other (n ∷ ns) same =
    ap (λ (z : List ℕ). z ++ numbered_texts some ns) (same n (one_first n ns))
    ∙ ap (λ (z : List ℕ). other n ++ z) (texts_same some other ns (λ m o. same m (one_rest n ns m o)))

module _ (one : ℕ → Value → List ℕ) where
  unchanged : (n : ℕ) (v w : Value) → v ≡ w → change_text one n v w ≡ []
  unchanged n v w e = ap (λ (z : Value). change_text one n v z) (sym e)
      ∙ ap (λ (b : Bool). if b then [] else one n v) (same_self v)

  changed : (n : ℕ) (v w : Value) → (v ≡ w → ⊥) → change_text one n v w ≡ one n w
  changed n v w differ = by (is_same v w) refl
    where
      by : (b : Bool) → is_same v w ≡ b → (if b then [] else one n w) ≡ one n w
      by true e = absurd (differ (same_is v w e))
      by false e = refl

  changes_span : (text : ℕ → List ℕ) (n : ℕ) (vs ws : List Value) → length vs ≡ length ws
      → ((k m : ℕ) (v w : Value) → m ≡ n + k → Stands vs k v → Stands ws k w → text m ≡ change_text one m v w)
      → changes_from one n vs ws ≡ span text n (length vs)
  changes_span text n [] ws e same = refl
  changes_span text n (v ∷ vs) [] e same = absurd (omega (arith, e))
  changes_span text n (v ∷ vs) (w ∷ ws) e same =
      ap (λ (z : List ℕ). z ++ changes_from one (n + 1) vs ws) (sym (same 0 n v w (omega arith) refl refl))
      ∙ ap (λ (z : List ℕ). text n ++ z)
      (changes_span text (n + 1) vs ws (omega (arith, e))
      (λ k m x y i s t. same (suc k) m x y (omega (arith, i)) s t))

  -- the lines of all changes, where these are numbers of values among which are all that changed
  pub changes_texts : (vs ws : List Value) (ns : List ℕ) → length vs ≡ length ws → Ascends ns
      → ((m : ℕ) → IsOneOf ns m → m < length vs)
      → ((m : ℕ) (v w : Value) → Stands vs m v → Stands ws m w → (v ≡ w → ⊥) → IsOneOf ns m)
      → changes_from one 0 vs ws ≡ numbered_texts (λ m. change_text one m (valuation_at vs m) (valuation_at ws m)) ns
  changes_texts vs ws ns long up within all =
      changes_span text 0 vs ws long (λ k m v w e s t. same k m v w e s t) ∙ span_texts text (length vs) 0 ns up (λ m o. (omega arith, let l = within m o in omega (arith, l))) (λ m a b lacks. empty m (omega (arith, b)) lacks)
    where
      text : ℕ → List ℕ
      text m = change_text one m (valuation_at vs m) (valuation_at ws m)

      same : (k m : ℕ) (v w : Value) → m ≡ 0 + k → Stands vs k v → Stands ws k w → text m ≡ change_text one m v w
      same k m v w e s t =
          let i : m ≡ k = omega (arith, e) in
          ap (λ z. change_text one m z (valuation_at ws m)) (ap (valuation_at vs) i ∙ read_value vs k v s)
          ∙ ap (λ z. change_text one m v z) (ap (valuation_at ws) i ∙ read_value ws k w t)

      empty : (m : ℕ) → m < length vs → (IsOneOf ns m → ⊥) → text m ≡ []
      empty m l lacks =
          let v = stands_some vs m l in
          let w = stands_some ws m (omega (arith, l, long)) in
          let i : v.0 ≡ w.0 = same_value v.0 w.0 (λ differ. lacks (all m v.0 w.0 v.1 w.1 differ)) in
          unchanged m (valuation_at vs m) (valuation_at ws m) (read_value vs m v.0 v.1 ∙ i ∙ sym (read_value ws m w.0 w.1))

  -- the lines of the variables that changed
  pub changes_named : (old new : List Value) (xs : List VarId) → length old ≡ length new → AreChanges old new xs
      → numbered_texts (λ m. one m (valuation_at new m)) (changed_numbers xs) ≡ changes_from one 0 old new
  changes_named old new xs long are =
      sym (changes_texts old new (changed_numbers xs) long are.ascend within all
      ∙ texts_same (λ m. change_text one m (valuation_at old m) (valuation_at new m)) (λ m. one m (valuation_at new m))
      (changed_numbers xs) (λ m o. differs m ((are.each m).0 o)))
    where
      within : (m : ℕ) → IsOneOf (changed_numbers xs) m → m < length old
      within m o = let h = (are.each m).0 o in stands_within old m h.before h.had

      all : (m : ℕ) (v w : Value) → Stands old m v → Stands new m w → (v ≡ w → ⊥) → IsOneOf (changed_numbers xs) m
      all m v w s t differ = (are.each m).1 (record { before = v; after = w; had = s; has = t; differ = differ })

      differs : (m : ℕ) → HasChanged old new m
          → change_text one m (valuation_at old m) (valuation_at new m) ≡ one m (valuation_at new m)
      differs m h = changed m (valuation_at old m) (valuation_at new m)
          (λ e. h.differ (sym (read_value old m h.before h.had) ∙ e ∙ read_value new m h.after h.has))

-- lists with the same values
same_lists : (xs ys : List Value) → length xs ≡ length ys → ((n : ℕ) → valuation_at xs n ≡ valuation_at ys n) → xs ≡ ys
same_lists [] [] e same = refl
same_lists [] (y ∷ ys) e same = absurd (omega (arith, e))
same_lists (x ∷ xs) [] e same = absurd (omega (arith, e))
same_lists (x ∷ xs) (y ∷ ys) e same =
    ap (λ (z : Value). z ∷ xs) (same 0)
    ∙ ap (λ (z : List Value). y ∷ z) (same_lists xs ys (omega (arith, e)) (λ n. same (suc n)))

-- the values are those of the next valuation, but for these variables
pub record AreBut (values next : List Value) (left : List VarId) : Type 0 where
  pub long : length values ≡ length next
  pub same : (n : ℕ) → (IsOneOf (changed_numbers left) n → ⊥) → valuation_at values n ≡ valuation_at next n

pub but_changed : (old new : List Value) (xs : List VarId) → length old ≡ length new → AreChanges old new xs
    → AreBut old new xs
but_changed old new xs long are = record
    { long = long; same = λ n lacks. kept_value old new long n (λ h. lacks ((are.each n).1 h)) }

pub but_none : (values next : List Value) (left : List VarId) → left ≡ [] → AreBut values next left → values ≡ next
but_none values next left e are = same_lists values next are.long (λ n. are.same n (λ o. nothing left e o))
  where
    nothing : (left : List VarId) → left ≡ [] → {n : ℕ} → IsOneOf (changed_numbers left) n → ⊥
    nothing left e {n = n} o = let k = subst (λ (z : List VarId). IsOneOf (changed_numbers z) n) e o in stands_none k.place n k.stands

set_long : (xs : List Value) (n : ℕ) (v : Value) → length (set xs n v) ≡ length xs
set_long [] n v = refl
set_long (x ∷ xs) zero v = refl
set_long (x ∷ xs) (suc n) v = ap suc (set_long xs n v)

set_here : (xs : List Value) (n : ℕ) (v : Value) → n < length xs → valuation_at (set xs n v) n ≡ v
set_here [] n v h = absurd (omega (arith, h))
set_here (x ∷ xs) zero v h = refl
set_here (x ∷ xs) (suc n) v h = set_here xs n v (omega (arith, h))

set_other : (xs : List Value) (n m : ℕ) (v : Value) → (m ≡ n → ⊥) → valuation_at (set xs n v) m ≡ valuation_at xs m
set_other [] n m v h = refl
set_other (x ∷ xs) zero zero v h = absurd (h refl)
set_other (x ∷ xs) zero (suc m) v h = refl
set_other (x ∷ xs) (suc n) zero v h = refl
set_other (x ∷ xs) (suc n) (suc m) v h = set_other xs n m v (λ e. h (ap suc e))

-- one variable more got its value
pub but_next : (values next : List Value) (x : VarId) (left : List VarId) (v : Value) → x.n < length values
    → Stands next x.n v → AreBut values next (x ∷ left) → AreBut (set values x.n v) next left
but_next values next x left v h s are = record {
  long = set_long values x.n v ∙ are.long;
  same = λ n lacks. at n lacks (three n x.n);
}
  where
    other : (n : ℕ) → (IsOneOf (changed_numbers left) n → ⊥) → (n ≡ x.n → ⊥) → valuation_at (set values x.n v) n ≡ valuation_at next n
    other n lacks f = set_other values x.n n v f
        ∙ are.same n (λ o. elim (one_cases x.n (changed_numbers left) n o) [ inl e ↦ f (sym e) | inr r ↦ lacks r ])

    at : (n : ℕ) → (IsOneOf (changed_numbers left) n → ⊥) → (n < x.n) ⊎ ((n ≡ x.n) ⊎ (x.n < n))
        → valuation_at (set values x.n v) n ≡ valuation_at next n
    at n lacks (inl l) = other n lacks (λ e. omega (arith, l, e))
    at n lacks (inr (inr l)) = other n lacks (λ e. omega (arith, l, e))
    at n lacks (inr (inl e)) = ap (λ m. valuation_at (set values x.n v) m) e ∙ set_here values x.n v h
        ∙ sym (read_value next x.n v s) ∙ ap (valuation_at next) (sym e)

-- a variable that changed has its number below
pub changed_within : (old new : List Value) (xs : List VarId) (i : ℕ) (d : VarId) → AreChanges old new xs
    → i < length xs → (get_or xs i d).n < length new
changed_within old new xs i d are h =
    let o : IsOneOf (changed_numbers xs) (get_or xs i d).n =
    one_here (changed_numbers xs) i (get_or xs i d).n
    (stands_map (λ (x : VarId). x.n) xs i (get_or xs i d) (stands_get xs i d h)) in
    let c = (are.each (get_or xs i d).n).0 o in
    stands_within new (get_or xs i d).n c.after c.has
