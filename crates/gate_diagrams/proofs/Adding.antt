-- One more event in a family of one set.
use Rattle.std.proofs.Common.{◌≡◌, ◌≢◌, inl, inr, ⊎_elim, ℕ, zero, suc, ◌<◌, List, [], ◌∷◌, ◌++◌, map, Result, Ok, Err, IfOk, refl, sym, ap, ◌∙◌, subst, arith}
use Rattle.std.specs.List.{AllByRecursion}
use Rattle.ar_base.specs.Lists.{IsOneOf}
use Rattle.ar_base.proofs.Standing.{one_none, one_cases, one_first, one_rest}
use Rattle.zdd_nodes.specs.Families.{Family}
use Rattle.zdd_nodes.specs.FamiliesInside.{node, IsAbove}
use Rattle.zdd_nodes.specs.SectionsInside.{IsMade}
use Rattle.zdd_nodes.specs.Nodes.{NodeId, Stored, family, IsFamilyNumber, IsNode, Grows, Draws}
use Rattle.zdd_nodes.specs.declared.NodeFault.{NodeFault}
use Rattle.zdd_nodes.proofs.Growing.{Grows-weaker, kept, still}
use Rattle.gate_diagrams.specs.Paths.{AddsFamilies, IsOneSet, IsWith}

pub extends : (P : Family → Type 0) (s t : Stored) → Grows P s t → AddsFamilies s t
extends P s t g = Grows-weaker P (λ h. Unit {0}) s t (λ h p. tt) g

pub one_still : (s t : Stored) (n : ℕ) (set : List ℕ) → AddsFamilies s t → IsOneSet s n set → IsOneSet t n set
one_still s t n set g o =
    record { in_store = still (λ h. Unit {0}) s t n g o.in_store; is = kept (λ h. Unit {0}) s t n g o.in_store ∙ o.is }

-- a node of what is the same store
pub node_here : {s t : Stored} {f v lo hi : ℕ} → t ≡ s → IsNode t.families f v lo hi → IsNode s.families f v lo hi
node_here {f = f} {v = v} {lo = lo} {hi = hi} e i = subst (λ (z : Stored). IsNode z.families f v lo hi) e i

all_each : (P : ℕ → Type 0) (xs : List ℕ) → ((x : ℕ) → IsOneOf xs x → P x) → AllByRecursion P xs
all_each P [] f = tt
all_each P (x ∷ xs) f = (f x (one_first x xs), all_each P xs (λ y i. f y (one_rest x xs y i)))

each_all : (P : ℕ → Type 0) (xs : List ℕ) → AllByRecursion P xs → (x : ℕ) → IsOneOf xs x → P x
each_all P [] a x i = absurd (one_none x i)
each_all P (y ∷ ys) a x i = ⊎_elim (λ q. subst P q a.0) (λ j. each_all P ys a.1 x j) (one_cases y ys x i)

split_one : (v : ℕ) (lo hi : Family) (s : List ℕ) → node v lo hi ≡ s ∷ [] → hi ≢ []
    → (rest : List ℕ) × (s ≡ v ∷ rest) × (hi ≡ rest ∷ [])
split_one v lo [] s e n = absurd (n refl)
split_one v [] (r ∷ []) s e n =
    let q : (v ∷ r) ∷ [] ≡ s ∷ [] = e in
    let w : s ≡ v ∷ r = cc in
    (r, w, refl)
split_one v (l ∷ lo) (r ∷ []) s e n =
    let q : (v ∷ r) ∷ l ∷ lo ≡ s ∷ [] = e in
    let w : ⊥ = cc in
    absurd w
split_one v lo (r ∷ t ∷ hi) s e n =
    let q : (v ∷ r) ∷ (v ∷ t) ∷ (map (λ z. v ∷ z) hi ++ lo) ≡ s ∷ [] = e in
    let w : ⊥ = cc in
    absurd w

-- the set of a number below the nodes'
pub none_one : (s : Stored) (f : ℕ) (set : List ℕ) → f < 2 → IsOneSet s f set → set ≡ []
none_one s zero set l o =
    let q : [] ≡ set ∷ [] = o.is in
    let w : ⊥ = cc in
    absurd w
none_one s (suc zero) set l o =
    let q : [] ∷ [] ≡ set ∷ [] = o.is in
    let w : set ≡ [] = cc in
    w
none_one s (suc (suc f)) set l o = absurd (omega (arith, l))

-- what a call that adds the event says
abbrev pub Adds : ℕ → List ℕ → Stored → Result NodeId NodeFault → Type 0
Adds e set t r = IfOk r (λ n. (more : List ℕ) × IsOneSet t n.n more × IsWith e set more)

with_first : (e : ℕ) (set : List ℕ) → IsWith e set (e ∷ set)
with_first e set = record {
  sound = λ x i. ⊎_elim (λ q. inl (sym q)) (λ j. inr j) (one_cases e set x i);
  event = one_first e set;
  kept = record { each = λ x i. one_rest e set x i };
}

with_later : (v e : ℕ) (rest more : List ℕ) → IsWith e rest more → IsWith e (v ∷ rest) (v ∷ more)
with_later v e rest more w = record {
  sound = λ x i. ⊎_elim (λ q. inr (subst (IsOneOf (v ∷ rest)) q (one_first v rest)))
      (λ j. ⊎_elim (λ q. inl q) (λ k. inr (one_rest v rest x k)) (w.sound x j)) (one_cases v more x i);
  event = one_rest v more e w.event;
  kept = record {
    each = λ x i. ⊎_elim (λ q. subst (IsOneOf (v ∷ more)) q (one_first v more))
        (λ j. one_rest v more x (w.kept.each x j)) (one_cases v rest x i);
  };
}

-- the event in front of all of the set
pub in_front : (e : ℕ) (s t : Stored) (z u : ℕ) (set : List ℕ) (r : Result NodeId NodeFault) → z ≡ 0
    → family s u ≡ set ∷ []
    → (let m = node e (family s z) (family s u) in Draws (IsMade m) m s t r) → Adds e set t r
in_front e s t z u set (Ok n) zero_is is d =
    let q : node e (family s z) (family s u) ≡ (e ∷ set) ∷ [] =
    ap (λ x. node e (family s x) (family s u)) zero_is ∙ ap (node e []) is in
    (e ∷ set, record { in_store = d.ok.0; is = d.ok.1 ∙ q }, with_first e set)
in_front e s t z u set (Err x) zero_is is d = tt

pub in_empty : (e : ℕ) (s t : Stored) (f z u : ℕ) (set : List ℕ) (r : Result NodeId NodeFault) → f < 2
    → IsOneSet s f set → z ≡ 0 → u ≡ 1
    → (let m = node e (family s z) (family s u) in Draws (IsMade m) m s t r) → Adds e set t r
in_empty e s t f z u set r l o zero_is one_is d =
    in_front e s t z u set r zero_is (ap (family s) one_is ∙ ap (λ (x : List ℕ). x ∷ []) (sym (none_one s f set l o))) d

module _ (s : Stored) (f v lo hi : ℕ) (i : IsNode s.families f v lo hi) (f_in : IsFamilyNumber s f) where
  abbrev Parts : List ℕ → Type 0
  Parts set = (rest : List ℕ) × (set ≡ v ∷ rest) × (family s hi ≡ rest ∷ [])

  parts : (set : List ℕ) → IsOneSet s f set → Parts set
  parts set o = split_one v (family s lo) (family s hi) set (sym i.is ∙ o.is) i.hi_some

  pub rest_one : (set : List ℕ) → IsOneSet s f set → (rest : List ℕ) × IsOneSet s hi rest
  rest_one set o = let p = parts set o in (p.0, record { in_store = omega (arith, i.hi_before, f_in); is = p.2 })

  -- the set has the event
  pub has_event : (e : ℕ) (n : NodeId) → e ≡ v → n.n ≡ f → (set : List ℕ) → IsOneSet s f set → Adds e set s (Ok n)
  has_event e n q same set o =
      let p = parts set o in (
        set,
        record { in_store = subst (IsFamilyNumber s) (sym same) f_in; is = ap (family s) same ∙ o.is },
        record {
          sound = λ x k. inr k;
          event = subst (λ z. IsOneOf z e) (sym p.1) (subst (IsOneOf (v ∷ p.0)) (sym q) (one_first v p.0));
          kept = record { each = λ x k. k };
        },
      )

  module _ (e : ℕ) (later : v < e) (t : Stored) (m : NodeId)
      (more : (set : List ℕ) → IsOneSet s hi set → Adds e set t (Ok m)) (set : List ℕ) (o : IsOneSet s f set) where
    abbrev pub rest : (rest : List ℕ) × IsOneSet s hi rest
    rest = rest_one set o

    abbrev pub added : Adds e rest.0 t (Ok m)
    added = more rest.0 rest.1

    pub more_above : IsAbove v (family t m.n)
    unfolding parts rest_one
    more_above =
        let p = parts set o in
        let above : AllByRecursion (λ x. v < x) p.0 = (subst (IsAbove v) p.2 i.hi_above).0 in
        let w = added.2 in
        subst (IsAbove v) (sym added.1.is) (
          all_each (λ x. v < x) added.0 (λ x k. ⊎_elim (λ q. subst (λ z. v < z) (sym q) later)
              (λ j. each_all (λ x. v < x) p.0 above x j) (w.sound x k)),
          tt,
        )

    pub in_rest : (z : ℕ) (u : Stored) (r : Result NodeId NodeFault) → z ≡ 0
        → (let made = node v (family t z) (family t m.n) in Draws (IsMade made) made t u r) → Adds e set u r
    unfolding parts rest_one
    in_rest z u (Ok n) zero_is d =
        let p = parts set o in
        let q : node v (family t z) (family t m.n) ≡ (v ∷ added.0) ∷ [] =
        ap (λ x. node v (family t x) (family t m.n)) zero_is ∙ ap (node v []) added.1.is in (
          v ∷ added.0,
          record { in_store = d.ok.0; is = d.ok.1 ∙ q },
          subst (λ y. IsWith e y (v ∷ added.0)) (sym p.1) (with_later v e p.0 added.0 added.2),
        )
    in_rest z u (Err x) zero_is d = tt
