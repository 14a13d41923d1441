-- The flows' places among the flows, and their dependences.
use Rattle.std.proofs.Common.{◌≡◌, ℕ, zero, suc, ◌+◌, ◌<◌, ◌≤◌, ◌⊎◌, inl, inr, Bool, true, false, not, cond, List, [], ◌∷◌, ◌++◌, length, take, get_or, refl, sym, ap, ◌∙◌, subst, arith, take_all, length-append}
use Rattle.std.proofs.lemmas.List.Sums.{count_by_more_no, count_by_more_yes, count_by-le-length, sum_by-cons}
use Rattle.ar_base.specs.Lists.{Stands, IsOneOf}
use Rattle.ar_base.proofs.Standing.{stands_within, stands_one, stands_none, stands_left, stands_next, stands_map, stands_map_back, one_left, at_most}
use Rattle.ar_base.proofs.Items.{one_last, last_cases}
use Rattle.flow_blocks.specs.BlocksInside.{AreUsesBelow}
use Rattle.ar_base.specs.Numbers.{VarId}
use Rattle.gts_core.specs.View.{assign_of, net_of}
use Rattle.gts_core.specs.Sound.{IsSound, IsAssignTo}
use Rattle.gts_core.specs.declared.system.Variable.{Variable}
use Rattle.gts_core.specs.declared.system.Assign.{Assign}
use Rattle.gts_core.specs.declared.system.GtsParts.{GtsParts}
use Rattle.ar_meaning.specs.Systems as s
use Rattle.ar_meaning.specs.Dependence.{Names, IsFlow, DependsOn, AreUses}
use Rattle.ar_meaning.specs.DependenceInside.{IsReadBy}
use Rattle.ar_meaning.proofs.Dependence.{tests_one}
use Rattle.flow_propagate.specs.Plan.{AreReaders}
use Rattle.flow_propagate.specs.Dependence.{flows_in, ArePlaces, AddsUse, AreUsesSoFar}
use Rattle.flow_propagate.proofs.Numbered.{ReadHere, flow_there, flow_back, read_back}
use Rattle.gts_core.proofs.NamesNumbered.{reads_back}
use Rattle.gts_core.specs.Named.{ReadsVariable}

-- one variable more
pub count_more : (xs : List Variable) (i : ℕ) (x : Variable) (n : ℕ) → i < length xs → x ≡ get_or xs i x
    → n ≡ flows_in (take i xs) → n + cond x.is_state 0 1 ≡ flows_in (take (i + 1) xs)
count_more xs i x n h is e = go x.is_state (ap (λ (z : Variable). z.is_state) is)
  where
    go : (b : Bool) → b ≡ (get_or xs i x).is_state → n + cond b 0 1 ≡ flows_in (take (i + 1) xs)
    go true k = let r = count_by_more_no (λ (z : Variable). not z.is_state) xs i x h (ap not (sym k)) in omega arith
    go false k = let r = count_by_more_yes (λ (z : Variable). not z.is_state) xs i x h (ap not (sym k)) in omega arith

pub count_below : (xs : List Variable) (i n : ℕ) → i < length xs → n ≡ flows_in (take i xs) → n + 1 ≤ length xs
count_below xs i n h e =
    let r = count_by-le-length (λ (z : Variable). not z.is_state) (take i xs) in
    let k : length (take i xs) ≤ i = front_short xs i in
    omega arith
  where
    front_short : (xs : List Variable) (i : ℕ) → length (take i xs) ≤ i
    front_short [] zero = omega arith
    front_short [] (suc i) = omega arith
    front_short (x ∷ xs) zero = omega arith
    front_short (x ∷ xs) (suc i) = let r = front_short xs i in omega arith

pub places_start : (xs : List Variable) → ArePlaces xs 0 []
places_start xs = record { long = refl; place = λ n h. absurd (omega arith) }

pub places_more : (xs : List Variable) (i n : ℕ) (before after : List ℕ) → ArePlaces xs i before
    → n ≡ flows_in (take i xs) → after ≡ before ++ n ∷ [] → ArePlaces xs (i + 1) after
places_more xs i n before after a e is =
    let P : List ℕ → Type 0 = λ z. ArePlaces xs (i + 1) z in
    subst P (sym is) (record { long = long; place = λ k h. at k (at_most k i h) })
  where
    long : length (before ++ n ∷ []) ≡ i + 1
    long = let r = length-append {A = ℕ} before (n ∷ []) in omega (arith, a.long, r)

    at : (k : ℕ) → (k < i) ⊎ (k ≡ i) → Stands (before ++ n ∷ []) k (flows_in (take k xs))
    at k (inl h) = stands_left before (n ∷ []) k (flows_in (take k xs)) (a.place k h)
    at k (inr j) =
        let there = stands_next before n [] in
        let here : length before ≡ k = a.long ∙ sym j in
        let same : n ≡ flows_in (take k xs) = e ∙ ap (λ z. flows_in (take z xs)) (sym j) in
        subst (λ (z : ℕ). Stands (before ++ n ∷ []) k z) same
        (subst (λ (z : ℕ). Stands (before ++ n ∷ []) z n) here there)

pub places_all : (xs : List Variable) (i : ℕ) (before : List ℕ) → length xs ≤ i → i ≤ length xs → ArePlaces xs i before
    → ArePlaces xs (length xs) before
places_all xs i before h k a = let e : i ≡ length xs = omega arith in subst (λ (z : ℕ). ArePlaces xs z before) e a

pub count_all : (xs : List Variable) (i n : ℕ) → length xs ≤ i → n ≡ flows_in (take i xs) → n ≡ flows_in xs
count_all xs i n h e = e ∙ ap flows_in (take_all i xs h)

-- a flow is below the number of flows
pub flow_below : (xs : List Variable) (n : ℕ) (x : Variable) → Stands xs n x → x.is_state ≡ false
    → flows_in (take n xs) < flows_in xs
flow_below [] n x s e = absurd (stands_none n x s)
flow_below (y ∷ xs) zero x s e =
    let i : y ≡ x = cc in
    let j : y.is_state ≡ false = ap (λ (z : Variable). z.is_state) i ∙ e in
    let k : cond {A = ℕ} (not y.is_state) 1 0 ≡ 1 = ap (λ b. cond {A = ℕ} (not b) 1 0) j in
    let whole : flows_in (y ∷ xs) ≡ cond {A = ℕ} (not y.is_state) 1 0 + flows_in xs =
    sum_by-cons (λ (z : Variable). cond {A = ℕ} (not z.is_state) 1 0) y xs in
    let none : flows_in [] ≡ 0 = refl in
    omega (arith, k, whole, none)
flow_below (y ∷ xs) (suc n) x s e =
    let r = flow_below xs n x s e in
    let whole : flows_in (y ∷ xs) ≡ cond {A = ℕ} (not y.is_state) 1 0 + flows_in xs =
    sum_by-cons (λ (z : Variable). cond {A = ℕ} (not z.is_state) 1 0) y xs in
    let front : flows_in (y ∷ take n xs) ≡ cond {A = ℕ} (not y.is_state) 1 0 + flows_in (take n xs) =
    sum_by-cons (λ (z : Variable). cond {A = ℕ} (not z.is_state) 1 0) y (take n xs) in
    omega (arith, r, whole, front)

-- what an assignment names is a variable of the system
pub reads_below : (p : GtsParts) (x n : ℕ) → IsSound p → IsReadBy (net_of p) x n → x < length p.variables.items
reads_below p x n s h =
    let t = reads_back r.assign x r.names in
    let P : ℕ → Type 0 = λ z. z < length p.variables.items in
    subst P t.is (at t.variable t.has)
  where
    r : ReadHere p x n
    r = read_back p x n h

    typed : IsAssignTo p false r.assign
    typed = s.assertions r.assign (record { place = n; stands = r.stands })

    at : (v : VarId) → ReadsVariable r.assign v → v.n < length p.variables.items
    at v (inl d) = typed.value.variables v d
    at v (inr d) = let o = tests_one v r.assign.when.items d in (typed.conditions o.0 o.1).variables v o.2

-- a state variable makes no use
pub use_not : (p : GtsParts) (x n : ℕ) (y : Variable) (old : List (ℕ × ℕ)) → Stands p.variables.items x y
    → y.is_state ≡ true → AddsUse p x n old old
use_not p x n y old st is = record {
  grows = λ q o. o;
  only = λ a b o. inl o;
  all = λ a b assign s f g.
      let h = flow_back p b x g in
      let e : h.variable ≡ y = stands_one p.variables.items x h.variable y h.stands st in
      let k : true ≡ false = sym is ∙ ap (λ (z : Variable). z.is_state) (sym e) ∙ h.is_flow in
      absurd (cc k);
}

-- a flow makes the use of it by the target
module _ (p : GtsParts) (x n : ℕ) (y : Variable) (a : Assign) (before : List ℕ) (sound : IsSound p)
    (places : ArePlaces p.variables.items (length p.variables.items) before)
    (reads : IsReadBy (net_of p) x n) (st : Stands p.variables.items x y) (is : y.is_state ≡ false)
    (sa : Stands p.assigns.items n a) where
  typed : IsAssignTo p false a
  typed = sound.assertions a (record { place = n; stands = sa })

  place_of : (k : ℕ) (z : Variable) (u : ℕ) → Stands p.variables.items k z → Stands before k u
      → flows_in (take k p.variables.items) ≡ u
  place_of k z u h b = stands_one before k (flows_in (take k p.variables.items)) u
      (places.place k (stands_within p.variables.items k z h)) b

  names_a : Names (assign_of a) x
  names_a = let r = read_back p x n reads in subst (λ (z : Assign). Names (assign_of z) x) (stands_one p.assigns.items n r.assign a r.stands sa) r.names

  depends : (u v : ℕ) → Stands before a.target.n u → Stands before x v → DependsOn (net_of p) u v
  depends u v bu bv = record {
    assign = assign_of a;
    is_one = record { place = n; stands = stands_map assign_of p.assigns.items n a sa };
    to = flow_there p u a.target.n (record {
      variable = typed.variable;
      stands = typed.stands;
      is_flow = typed.is;
      before = place_of a.target.n typed.variable u typed.stands bu;
    });
    named = x;
    names = names_a;
    other = flow_there p v x (record { variable = y; stands = st; is_flow = is; before = place_of x y v st bv });
  }

  pub use_one : (u v : ℕ) (old new : List (ℕ × ℕ)) → Stands before a.target.n u → Stands before x v
      → new ≡ old ++ (u, v) ∷ [] → AddsUse p x n old new
  use_one u v old new bu bv e = record {
    grows = λ q o. subst (λ (z : List (ℕ × ℕ)). IsOneOf z q) (sym e) (one_left old ((u, v) ∷ []) q o);
    only = λ j k o. elim (last_cases old (u, v) (j, k) (subst (λ (z : List (ℕ × ℕ)). IsOneOf z (j, k)) e o)) [
      | inl h ↦ inl h
      | inr i ↦ inr (let D : ℕ × ℕ → Type 0 = λ q. DependsOn (net_of p) q.0 q.1 in subst D i (depends u v bu bv))
    ];
    all = λ j k assign s f g.
        let one : assign ≡ a = stands_one p.assigns.items n assign a s sa in
        let eu : j ≡ u = sym (flow_back p j assign.target.n f).before
        ∙ ap (λ (z : Assign). flows_in (take z.target.n p.variables.items)) one
        ∙ place_of a.target.n typed.variable u typed.stands bu in
        let ev : k ≡ v = sym (flow_back p k x g).before ∙ place_of x y v st bv in
        let there : IsOneOf new (u, v) = subst (λ (z : List (ℕ × ℕ)). IsOneOf z (u, v)) (sym e) (one_last old (u, v)) in
        subst (λ (z : ℕ). IsOneOf new (z, k)) (sym eu) (subst (λ (z : ℕ). IsOneOf new (u, z)) (sym ev) there);
  }

pub uses_start : (p : GtsParts) (readers : List (ℕ × ℕ)) → AreUsesSoFar p readers 0 []
uses_start p readers = record {
  only = λ a b o. absurd (stands_none o.place (a, b) o.stands);
  all = λ k x n a b assign h. absurd (omega arith);
}

pub uses_more : (p : GtsParts) (readers : List (ℕ × ℕ)) (i : ℕ) (x n : ℕ) (old new : List (ℕ × ℕ))
    → Stands readers i (x, n) → AreUsesSoFar p readers i old → AddsUse p x n old new
    → AreUsesSoFar p readers (i + 1) new
uses_more p readers i x n old new st r m = record {
  only = λ a b o. elim (m.only a b o) [ inl h ↦ r.only a b h | inr d ↦ d ];
  all = λ k y j a b assign h s sa f g. at k y j a b assign s sa f g (at_most k i h);
}
  where
    at : (k y j a b : ℕ) (assign : Assign) → Stands readers k (y, j) → Stands p.assigns.items j assign
        → IsFlow (net_of p) a assign.target.n → IsFlow (net_of p) b y → (k < i) ⊎ (k ≡ i) → IsOneOf new (a, b)
    at k y j a b assign s sa f g (inl h) = m.grows (a, b) (r.all k y j a b assign h s sa f g)
    at k y j a b assign s sa f g (inr e) =
        let q : (y, j) ≡ (x, n) = stands_one readers i (y, j) (x, n) (subst (λ (z : ℕ). Stands readers z (y, j)) e s)
        st in
        let ey : y ≡ x = ap (λ (z : ℕ × ℕ). z.0) q in
        let ej : j ≡ n = ap (λ (z : ℕ × ℕ). z.1) q in
        m.all a b assign (subst (λ (z : ℕ). Stands p.assigns.items z assign) ej sa) f
        (subst (λ (z : ℕ). IsFlow (net_of p) b z) ey g)

pub uses_all : (p : GtsParts) (readers : List (ℕ × ℕ)) (i : ℕ) (uses : List (ℕ × ℕ)) → AreReaders p readers
    → length readers ≤ i → AreUsesSoFar p readers i uses → AreUses (net_of p) uses
uses_all p readers i uses r h u = record {
  only = u.only;
  all = λ a b d.
      let one = r.all d.named d.is_one.place
      (record { assign = d.assign; stands = d.is_one.stands; names = d.names }) in
      let below = stands_within readers one.place (d.named, d.is_one.place) one.stands in
      let k = stands_map_back assign_of p.assigns.items d.is_one.place d.assign d.is_one.stands in
      u.all one.place d.named d.is_one.place a b k.0 (omega (arith, below)) one.stands k.1
      (subst (λ (z : s.Assign ℕ). IsFlow (net_of p) a z.target) (sym k.2) d.to) d.other;
}

pub uses_below : (p : GtsParts) (uses : List (ℕ × ℕ)) → AreUses (net_of p) uses
    → AreUsesBelow (flows_in p.variables.items) uses
uses_below p uses u = λ a b o. let d = u.only a b o in (below a d.assign.target d.to, below b d.named d.other)
  where
    below : (a n : ℕ) → IsFlow (net_of p) a n → a < flows_in p.variables.items
    below a n h = let f = flow_back p a n h in let P : ℕ → Type 0 = λ z. z < flows_in p.variables.items in subst P f.before (flow_below p.variables.items n f.variable f.stands f.is_flow)

pub target_below : (p : GtsParts) (n : ℕ) (a : Assign) → IsSound p → Stands p.assigns.items n a
    → a.target.n < length p.variables.items
target_below p n a s st = let t = s.assertions a (record { place = n; stands = st }) in stands_within p.variables.items a.target.n t.variable t.stands
