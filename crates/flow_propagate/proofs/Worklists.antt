-- The assignments that wait.
use Rattle.std.proofs.Common.{◌≡◌, ◌↔◌, ℕ, zero, suc, ◌+◌, ◌<◌, ◌≤◌, ◌⊎◌, inl, inr, Result, Ok, Err, OnOk, List, [], ◌∷◌, map, length, get_or, set, refl, sym, ap, ◌∙◌, subst, arith}
use Rattle.std.specs.BTreeSet.{BTreeSet, btree_set_len}
use Rattle.std.specs.List.Sorted.{IsNonDecreasingBy, IsPermutation}
use Rattle.std.proofs.lemmas.Bool.{cases_eq}
use Rattle.std.proofs.lemmas.List.Sorted.{Contains-permutation, IsPermutation-sym}
use Rattle.std.proofs.lemmas.Option.{slice_get-get_or}
use Rattle.ar_base.specs.Lists.{Stands, IsOneOf}
use Rattle.ar_base.proofs.Standing.{stands_one, stands_within, stands_some, stands_map, stands_map_back, one_contains, contains_one, at_most}
use Rattle.ar_base.specs.declared.faults.Memory.{Memory}
use Rattle.gts_core.specs.declared.system.GtsParts.{GtsParts}
use Rattle.flow_propagate.specs.Plan.{ComesBefore, AreReaders, IsNumberOrder, Reader, plain_pair}
use Rattle.flow_propagate.specs.Closing.{IsAddedAgain, WaitsAtPlace, Waits, IsWorklist, TakesWorkPlace, TakesAssignment, AddsWork}
use Rattle.flow_propagate.specs.declared.worklist.Worklist.{Worklist}
use Rattle.flow_propagate.proofs.Numbered.{read_back}

module _ {A : Type 0} where
  pub set_here : (xs : List A) (k : ℕ) (x : A) → k < length xs → Stands (set xs k x) k x
  set_here [] k x h = absurd (omega arith)
  set_here (y ∷ xs) zero x h = refl
  set_here (y ∷ xs) (suc k) x h = set_here xs k x (omega arith)

  pub set_back : (xs : List A) (k n : ℕ) (x y : A) → Stands (set xs k x) n y → ((n ≡ k) × (x ≡ y)) ⊎ Stands xs n y
  set_back [] k n x y s = inr s
  set_back (z ∷ xs) zero zero x y s = inl (refl, cc)
  set_back (z ∷ xs) zero (suc n) x y s = inr s
  set_back (z ∷ xs) (suc k) zero x y s = inr s
  set_back (z ∷ xs) (suc k) (suc n) x y s =
      elim (set_back xs k n x y s) [ inl e ↦ inl (ap suc e.0, e.1) | inr h ↦ inr h ]

-- the count of a worklist is the number of its places
pub by_length : (count : ℕ) (w : Worklist) → IsWorklist count w → IsWorklist (length w.places.now) w
by_length count w h = subst (λ (z : ℕ). IsWorklist z w) (sym h.long) h

-- the worklist without the place that was taken
pub takes_one : (count n place : ℕ) (old new : Worklist) → IsWorklist count old → TakesWorkPlace place old new
    → Stands new.order.now place n → TakesAssignment count n old new
takes_one count n place old new w t stands = record {
  is = record {
    long = ap (λ (z : List ℕ). length z) t.places ∙ w.long;
    placed = λ m p s. subst (λ (z : List ℕ). Stands z p m) (sym t.order)
        (w.placed m p (subst (λ (z : List ℕ). Stands z m p) t.places s));
    below = λ m p s. w.below m p (subst (λ (z : List ℕ). Stands z p m) t.order s);
    reached = subst (λ (z : List ℕ). new.fresh ≤ length z) (sym t.order) t.reached;
    within = λ p h. subst (λ (z : List ℕ). p < length z) (sym t.order) (w.within p (t.only p h));
  };
  below = w.below n place st;
  less = t.less;
  others = λ m h. elim (t.others h.place h.waits) [
    | inl e ↦ inl (stands_one old.order.now place m n
        (subst (λ (z : ℕ). Stands old.order.now z m) e (w.placed m h.place h.stands)) st)
    | inr k ↦ inr (record {
      place = h.place;
      stands = subst (λ (z : List ℕ). Stands z m h.place) (sym t.places) h.stands;
      waits = k;
    })
  ];
}
  where
    st : Stands old.order.now place n
    st = subst (λ (z : List ℕ). Stands z place n) t.order stands

-- where no place waits no assignment does
pub none_waits : (count : ℕ) (w : Worklist) → IsWorklist count w → ((p : ℕ) → p < length w.order.now → WaitsAtPlace w p → ⊥)
    → (n : ℕ) → Waits w n → ⊥
none_waits count w h lacks n k = lacks k.place (stands_within w.order.now k.place n (h.placed n k.place k.stands))
    k.waits

-- where the assignment's place waits, nothing has to be added
pub adds_none : (count n place : ℕ) (w : Worklist) → IsWorklist count w → Stands w.places.now n place → WaitsAtPlace w place
    → AddsWork count 1 (λ m. m ≡ n) w w
adds_none count n place w h st waits = record {
  is = h;
  few = omega arith;
  keeps = λ m k. k;
  adds = λ m e. subst (λ (z : ℕ). Waits w z) (sym e) (record { place = place; stands = st; waits = waits });
}

-- the worklist with its places that were added again
abbrev pub with_again : Worklist → BTreeSet ℕ → Worklist
with_again w again = record { order = w.order; places = w.places; fresh = w.fresh; again = again }

-- the assignment's place was added again
pub adds_again : (count n place : ℕ) (w : Worklist) (again : BTreeSet ℕ) → IsWorklist count w
    → Stands w.places.now n place → ((p : ℕ) → IsAddedAgain again p ↔ (IsAddedAgain w.again p ⊎ (p ≡ place)))
    → btree_set_len again ≤ btree_set_len w.again + 1 → AddsWork count 1 (λ m. m ≡ n) w (with_again w again)
adds_again count n place w again h st all few = record {
  is = record {
    long = h.long;
    placed = h.placed;
    below = h.below;
    reached = h.reached;
    within = λ p a. elim ((all p).0 a) [
      | inl b ↦ h.within p b
      | inr e ↦ subst (λ (z : ℕ). z < length w.order.now) (sym e)
          (stands_within w.order.now place n (h.placed n place st))
    ];
  };
  few = omega (arith, few);
  keeps = λ m k. record {
    place = k.place;
    stands = k.stands;
    waits = elim k.waits [ inl f ↦ inl f | inr a ↦ inr ((all k.place).1 (inl a)) ];
  };
  adds = λ m e. subst (λ (z : ℕ). Waits (with_again w again) z) (sym e)
      (record { place = place; stands = st; waits = inr ((all place).1 (inr refl)) });
}

-- what holds of a success by two facts of it
pub ok_by : (P S Q : Type 0) (r : Result (Unit {0}) Memory) → (P → S → Q) → OnOk r P → OnOk r S → OnOk r Q
ok_by P S Q (Ok x) f p s = f p s
ok_by P S Q (Err e) f p s = tt

-- the assignments of the first so many pairs
abbrev pub IsAmong : List Reader → ℕ → ℕ → Type 0
IsAmong readers i m = (k : ℕ) × (r : Reader) × (k < i) × Stands readers k r × (r.1.n ≡ m)

pub adds_start : (count : ℕ) (readers : List Reader) (w : Worklist) → IsWorklist count w
    → AddsWork count 0 (IsAmong readers 0) w w
adds_start count readers w h = record { is = h; few = omega arith; keeps = λ m k. k; adds = λ m f. absurd (let k = f.2 in omega (arith, k)) }

pub adds_more : (count i : ℕ) (readers : List Reader) (r : Reader) (old mid new : Worklist) → Stands readers i r
    → AddsWork count i (IsAmong readers i) old mid → AddsWork count 1 (λ m. m ≡ r.1.n) mid new
    → AddsWork count (i + 1) (IsAmong readers (i + 1)) old new
adds_more count i readers r old mid new st a b = record {
  is = b.is;
  few = (let f = a.few in let g = b.few in omega (arith, f, g));
  keeps = λ m h. b.keeps m (a.keeps m h);
  adds = λ m f. at m f (at_most f.0 i f.2);
}
  where
    at : (m : ℕ) (f : IsAmong readers (i + 1) m) → (f.0 < i) ⊎ (f.0 ≡ i) → Waits new m
    at m f (inl l) = b.keeps m (a.adds m (f.0, f.1, l, f.3, f.4))
    at m f (inr e) =
        let one : f.1 ≡ r = stands_one readers i f.1 r (subst (λ (z : ℕ). Stands readers z f.1) e f.3) st in
        b.adds m (sym f.4 ∙ ap (λ (z : Reader). z.1.n) one)

pub adds_all : (count i : ℕ) (readers : List Reader) (old new : Worklist) → length readers ≤ i → i ≤ length readers
    → AddsWork count i (IsAmong readers i) old new
    → AddsWork count (length readers) (λ m. (r : Reader) × IsOneOf readers r × (r.1.n ≡ m)) old new
adds_all count i readers old new h k a = record {
  is = a.is;
  few = (let f = a.few in omega (arith, f));
  keeps = a.keeps;
  adds = λ m f. a.adds m (f.1.place, f.0, (let w = stands_within readers f.1.place f.0 f.1.stands in omega (arith, w)), f.1.stands, f.2);
}

pub adds_run : (count : ℕ) (readers run : List Reader) (variable : ℕ) (old new : Worklist)
    → ((r : Reader) → IsOneOf readers r → r.0.n ≡ variable → IsOneOf run r) → length run ≤ length readers
    → AddsWork count (length run) (λ m. (r : Reader) × IsOneOf run r × (r.1.n ≡ m)) old new
    → AddsWork count (length readers) (λ m. (r : Reader) × IsOneOf readers r × (r.0.n ≡ variable) × (r.1.n ≡ m)) old
    new
adds_run count readers run variable old new all short a = record {
  is = a.is;
  few = (let f = a.few in omega (arith, f));
  keeps = a.keeps;
  adds = λ m f. a.adds m (f.0, all f.0 f.1 f.2, f.3);
}

pub adds_pairs : (count most : ℕ) (readers : List Reader) (variable : ℕ) (old new : Worklist)
    → AddsWork count most (λ m. (r : Reader) × IsOneOf readers r × (r.0.n ≡ variable) × (r.1.n ≡ m)) old new
    → AddsWork count most (λ m. IsOneOf (map plain_pair readers) (variable, m)) old new
adds_pairs count most readers variable old new a = record {
  is = a.is;
  few = a.few;
  keeps = a.keeps;
  adds = λ m o.
      let r = stands_map_back plain_pair readers o.place (variable, m) o.stands in
      a.adds m (
        r.0,
        record { place = o.place; stands = r.1 },
        ap (λ (q : ℕ × ℕ). q.0) r.2,
        ap (λ (q : ℕ × ℕ). q.1)
            r.2,
      );
}

-- ascending pairs have ascending variables
pub rising : (pairs : List Reader) → ((j k : ℕ) (q r : ℕ × ℕ) → j < k → Stands (map plain_pair pairs) j q
    → Stands (map plain_pair pairs) k r → ComesBefore q r)
    → IsNonDecreasingBy (λ (r : Reader). r.0.n) pairs
rising pairs ascending = λ i j d h k. at i j d h k (cases_eq i j)
  where
    item : (i : ℕ) (d : Reader) → i < length pairs → Stands (map plain_pair pairs) i (plain_pair (get_or pairs i d))
    item i d h = stands_map plain_pair pairs i (get_or pairs i d) (slice_get-get_or pairs i d h)

    at : (i j : ℕ) (d : Reader) → i ≤ j → j < length pairs → (i ≡ j) ⊎ (i ≡ j → ⊥)
        → (get_or pairs i d).0.n ≤ (get_or pairs j d).0.n
    at i j d h k (inl e) = let s : (get_or pairs i d).0.n ≡ (get_or pairs j d).0.n = ap (λ (z : ℕ). (get_or pairs z d).0.n) e in omega (arith, s)
    at i j d h k (inr f) =
        let l : i < j = omega (arith, f) in
        elim (ascending i j (plain_pair (get_or pairs i d)) (plain_pair (get_or pairs j d)) l (item i d (omega arith))
        (item j d k)) [
          | inl x ↦ omega (arith, x)
          | inr x ↦ (let y = x.0 in omega (arith, y))
        ]

pub readers_below : (p : GtsParts) (readers : List Reader) → AreReaders p (map plain_pair readers) → (r : Reader)
    → IsOneOf readers r → r.1.n < length p.assigns.items
readers_below p readers a r o =
    let q = read_back p r.0.n r.1.n (a.only r.0.n r.1.n
    (record { place = o.place; stands = stands_map plain_pair readers o.place r o.stands })) in
    stands_within p.assigns.items r.1.n q.assign q.stands

-- what stands for no pair where a list of pairs is read
abbrev pub no_reader : Reader
no_reader = (record { n = 0; of = record {} }, record { n = 0; of = record {} })

pub reader_at : (readers : List Reader) (i : ℕ) → i < length readers → Stands readers i (get_or readers i no_reader)
reader_at readers i h = slice_get-get_or readers i no_reader h

-- numbers in another order
pub order_moved : (count : ℕ) (xs ys : List ℕ) → IsPermutation xs ys → IsNumberOrder count xs → IsNumberOrder count ys
order_moved count xs ys perm o = record {
  all = λ n h. one_contains ys n (Contains-permutation xs ys n perm (contains_one xs n (o.all n h)));
  below = λ n h. o.below n (one_contains xs n
      (Contains-permutation ys xs n (IsPermutation-sym xs ys perm) (contains_one ys n h)));
}

-- the places of the first so many numbers are right
abbrev pub ArePlaced : List ℕ → ℕ → List ℕ → Type 0
ArePlaced order i places = (j n p : ℕ) → j < i → Stands order j n → Stands places n p → Stands order p n

pub placed_more : (order places : List ℕ) (i m : ℕ) → Stands order i m → m < length places → ArePlaced order i places
    → ArePlaced order (i + 1) (set places m i)
placed_more order places i m st h a j n p l s q = go (cases_eq n m)
  where
    go : (n ≡ m) ⊎ (n ≡ m → ⊥) → Stands order p n
    go (inl e) =
        let here : Stands (set places m i) n i =
        subst (λ (z : ℕ). Stands (set places m i) z i) (sym e) (set_here places m i h) in
        let same : i ≡ p = stands_one (set places m i) n i p here q in
        subst (λ (z : ℕ). Stands order z n) same (subst (λ (z : ℕ). Stands order i z) (sym e) st)
    go (inr f) = elim (set_back places m n i p q) [
      | inl e ↦ absurd (f e.0)
      | inr k ↦ (elim (at_most j i l) [
        | inl b ↦ a j n p b s k
        | inr e ↦ absurd (f (stands_one order i n m (subst (λ (z : ℕ). Stands order z n) e s) st))
      ])
    ]

pub placed_all : (count i : ℕ) (order places : List ℕ) → IsNumberOrder count order → length places ≡ count → length order ≤ i
    → ArePlaced order i places → (n p : ℕ) → Stands places n p → Stands order p n
placed_all count i order places o long end a n p s =
    let one = o.all n (let k = stands_within places n p s in omega (arith, k, long)) in
    a one.place n p (let k = stands_within order one.place n one.stands in omega (arith, k, end)) one.stands s

-- an item of an order is below its count
pub order_below : (count : ℕ) (order : List ℕ) (i : ℕ) → IsNumberOrder count order → i < length order
    → get_or order i 0 < count
order_below count order i o h = o.below (get_or order i 0) (record { place = i; stands = slice_get-get_or order i 0 h })

-- all wait
pub all_work : (count : ℕ) (w : Worklist) → IsNumberOrder count w.order.now → length w.places.now ≡ count
    → ((n p : ℕ) → Stands w.places.now n p → Stands w.order.now p n) → w.fresh ≡ 0 → ((p : ℕ) → IsAddedAgain w.again p → ⊥)
    → IsWorklist count w
all_work count w o long placed fresh none = record {
  long = long;
  placed = placed;
  below = λ n p s. o.below n (record { place = p; stands = s });
  reached = omega (arith, fresh);
  within = λ p h. absurd (none p h);
}

pub all_wait : (count n : ℕ) (w : Worklist) → length w.places.now ≡ count → w.fresh ≡ 0 → n < count → Waits w n
all_wait count n w long fresh h =
    let at = stands_some w.places.now n (omega (arith, h, long)) in
    record { place = at.0; stands = at.1; waits = inl (omega (arith, fresh)) }
