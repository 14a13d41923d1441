-- Where a call is refused as Full, more families are stored or allowed than the limit.
use Rattle.std.proofs.Common.{◌≡◌, ◌≢◌, ℕ, zero, suc, ◌-◌, ◌<◌, ◌≤◌, List, [], ◌∷◌, ◌++◌, length, get_or, Result, Err, refl, sym, ap, ◌∙◌, subst, arith, length-append, ⊎_elim, ◌⊎◌, inl, inr}
use Rattle.std.proofs.lemmas.List.{get_or-append_right}
use Rattle.std.proofs.lemmas.List.Elements.{All-append, All-cons, All-nil, All-from_get_or}
use Rattle.std.proofs.lemmas.Option.{slice_get_within, slice_get-get_or, get_or_from_slice_get}
use Rattle.std.specs.List.{All}
use Rattle.ar_base.specs.Lists.{Stands, IsOneOf, AreDifferent}
use Rattle.ar_base.proofs.Standing.{stands_none, stands_within, stands_one, one_here, one_rest}
use Rattle.zdd_nodes.specs.Families.{Family}
use Rattle.zdd_nodes.specs.Sections.{IsMoreThan}
use Rattle.zdd_nodes.specs.Nodes.{NodeId, Stored, family, IsFamilyNumber, Grows, Draws, IsFullFor, IsStored}
use Rattle.zdd_nodes.specs.declared.NodeFault.{NodeFault}
use Rattle.zdd_nodes.specs.declared.NodeFault.TheVariants.{Full}
use Rattle.zdd_nodes.proofs.Lists.{AreDifferent-push}
use Rattle.zdd_nodes.proofs.Growing.{kept, full_weaker}

-- a family of the grown store was stored before or is one that P allows
before_or_allowed : (P : Family → Type 0) (s t : Stored) → Grows P s t → (j : ℕ) → j < length t.families
    → IsStored (get_or t.families j []) s ⊎ P (get_or t.families j [])
before_or_allowed P s t g j h =
    let split : (j < length s.families) ⊎ (length s.families ≤ j) = grind arith in
    ⊎_elim
    (λ l. inl (suc (suc j), omega arith, omega (arith, l), sym (kept P s t (suc (suc j)) g (omega (arith, l)))))
    (λ l. let e : get_or t.families j [] ≡ get_or g.added (j - length s.families) [] = ap (λ x. get_or x j []) g.families ∙ get_or-append_right s.families g.added (length s.families) j [] refl l in
    inr (subst P (sym e) (g.all (j - length s.families) []
    (omega (arith, ap length g.families, length-append s.families g.added)))))
    split

-- where all families of the nodes are allowed, a full store shows more allowed families than its limit
pub full_is_more : (P : Family → Type 0) (s : Stored) → All P s.families → IsFullFor P s → IsMoreThan s.limit P
full_is_more P s allowed f =
    let fs = s.families in
    record {
      members = fs ++ f.family ∷ [];
      different = AreDifferent-push fs f.family f.different
          (λ k h. f.missing k [] (slice_get_within fs k f.family h) (get_or_from_slice_get fs k f.family [] h));
      all = All-append P fs (f.family ∷ []) allowed (All-cons P f.family [] f.allowed (All-nil P));
      count = omega (arith, length-append fs (f.family ∷ []), f.full);
    }

pub more_than_limit : (P : Family → Type 0) (made : Family) (s t : Stored) (r : Result NodeId NodeFault)
    → Draws P made s t r → r ≡ Err Full → IsMoreThan s.limit (λ h. IsStored h s ⊎ P h)
more_than_limit P made s t r d e =
    let Q = λ (h : Family). IsStored h s ⊎ P h in
    subst (λ n. IsMoreThan n Q) d.grows.limit
    (full_is_more Q t (All-from_get_or Q t.families [] (λ i h. before_or_allowed P s t d.grows i h))
    (full_weaker P Q t (λ h x. inr x) (d.full e)))

-- ---- different families take different nodes

-- a list without the item at a place
abbrev removed : {A : Type 0} → List A → ℕ → List A
removed [] n = []
removed (y ∷ ys) zero = ys
removed (y ∷ ys) (suc n) = y ∷ removed ys n

length-removed : {A : Type 0} (ys : List A) (n : ℕ) → n < length ys → suc (length (removed ys n)) ≡ length ys
length-removed [] n h = absurd (omega (arith, h))
length-removed (y ∷ ys) zero h = refl
length-removed (y ∷ ys) (suc n) h = ap suc (length-removed ys n (omega (arith, h)))

stays : {A : Type 0} (ys : List A) (n j : ℕ) (z : A) → Stands ys j z → j ≢ n → IsOneOf (removed ys n) z
stays [] n j z p other = absurd (stands_none j z p)
stays (y ∷ ys) zero zero z p other = absurd (other refl)
stays (y ∷ ys) zero (suc j) z p other = one_here ys j z p
stays (y ∷ ys) (suc n) zero z p other = one_here (y ∷ removed ys n) 0 z p
stays (y ∷ ys) (suc n) (suc j) z p other = let one = stays ys n j z p (λ e. other (ap suc e)) in one_rest y (removed ys n) z one

module _ {A : Type 0} where
  -- different items of a list are no more than its items
  pub different_fit : (xs ys : List A) → AreDifferent xs → ((k : ℕ) (x : A) → Stands xs k x → IsOneOf ys x)
      → length xs ≤ length ys
  different_fit [] ys d among = omega arith
  different_fit (x ∷ xs) ys d among =
      let one = among 0 x refl in
      let long = length-removed ys one.place (stands_within ys one.place x one.stands) in
      let rest = different_fit xs (removed ys one.place) (record { one = λ m n a p q. let e : suc m ≡ suc n = d.one (suc m) (suc n) a p q in omega (arith, e) }) later in
      omega (arith, long, rest)
    where
      later : (k : ℕ) (z : A) → Stands xs k z → IsOneOf (removed ys (among 0 x refl).place) z
      later k z p =
          let one = among 0 x refl in
          let other = among (suc k) z p in
          stays ys one.place other.place z other.stands (λ e.
          let same_item : z ≡ x = stands_one ys one.place z x (subst (λ n. Stands ys n z) e other.stands) one.stands in
          let two : 0 ≡ suc k = d.one 0 (suc k) x refl (subst (λ y. Stands xs k y) same_item p) in
          omega (arith, two))

-- the family of a node's number is one of the families
stored_one : (s : Stored) (n : ℕ) → 2 ≤ n → IsFamilyNumber s n → IsOneOf s.families (family s n)
stored_one s zero two h = absurd (omega (arith, two))
stored_one s (suc zero) two h = absurd (omega (arith, two))
stored_one s (suc (suc k)) two h = one_here s.families k (family s (suc (suc k)))
    (slice_get-get_or s.families k [] (omega (arith, h)))

pub each_takes_a_node : (s : Stored) (n : ℕ) → IsMoreThan n (λ h. IsStored h s) → n < length s.families
each_takes_a_node s n m =
    let fit = different_fit m.members s.families m.different (λ k x p.
    let st = m.all k [] (stands_within m.members k x p) in
    subst (IsOneOf s.families) (st.3 ∙ get_or_from_slice_get m.members k x [] p) (stored_one s st.0 st.1 st.2)) in
    omega (arith, fit, m.count)
