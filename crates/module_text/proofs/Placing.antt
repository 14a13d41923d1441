-- The places of edges, and lines made by them.
use Rattle.std.proofs.Common.{◌≡◌, ◌↔◌, ◌⊎◌, Result, Ok, Err, OnOk, Option, slice_get, inl, inr, ℕ, zero, suc, ◌+◌, ◌<◌, ◌≤◌, Bool, true, false, cond, Less, List, [], ◌∷◌, ◌++◌, map, length, filter, take, get_or, set, nat_eq, Vec, Global, refl, sym, ap, ◌∙◌, subst, arith, append_assoc}
use Rattle.std.specs.Ordering.{nat_cmp}
use Rattle.std.specs.Cmp.{unsigned_ties, unsigned_Decides}
use Rattle.std.specs.List.{AllByRecursion, dedup}
use Rattle.std.specs.List.Sorted.{IsSorted, IsPermutation, IsStrictlySortedBy}
use Rattle.std.specs.List.Retain.{IsFiltered, DiffersFromLast}
use Rattle.std.proofs.lemmas.Bool.{cases_eq}
use Rattle.std.proofs.lemmas.Cmp.{nat_cmp_total, nat_eq_equiv, ranked}
use Rattle.std.proofs.lemmas.List.{map-append, take_more, length-map}
use Rattle.std.proofs.lemmas.List.Filters.{dedup_is}
use Rattle.std.proofs.lemmas.List.Kept.{Contains-dedup, Contains-from_dedup, IsStrictlySortedBy-dedup}
use Rattle.std.proofs.lemmas.List.Sorted.{Contains-permutation, IsPermutation-sym}
use Rattle.ar_base.specs.Lists.{Stands, IsOneOf}
use Rattle.ar_base.specs.Numbers.{WayId}
use Rattle.ar_base.specs.NumbersInside.{EventId}
use Rattle.ar_base.specs.Sets.{Ascends}
use Rattle.ar_base.specs.declared.faults.Memory.{Memory}
use Rattle.ar_base.proofs.Items.{all_stand}
use Rattle.ar_base.proofs.Standing.{stands_none, stands_left, stands_next, stands_split, stands_map, stands_within, one_here, one_none, one_first, one_rest, one_cases, one_split, one_left, one_right, one_contains, contains_one}
use Rattle.ar_firing.proofs.OneListing.{ascending_same}
use Rattle.flow_blocks.specs.Bits.{row_of}
use Rattle.flow_blocks.proofs.RowLemmas.{row_set_same, row_set_other}
use Rattle.gate_modules.specs.ShortenedInside.{event_numbers}
use Rattle.mode_trees.specs.declared.forests.Edge.{Edge}
use Rattle.zdd_nodes.specs.Families.{holds}
use Rattle.zdd_nodes.proofs.Ascending.{IsAscending, ascends_from}
use Rattle.zdd_nodes.proofs.Members.{holds_law}
use Rattle.mode_trees.specs.declared.forests.ModeTree.{ModeTree}
use Rattle.cut_text.specs.Printed.{forest_edges}
use Rattle.module_text.specs.Arranged.{way_pieces, pieces_of}
use Rattle.module_text.specs.declared.arranging.Line.{Line}
use Rattle.module_text.proofs.Pieces.{edges_push}
use Rattle.module_text.specs.Places.{IsEdgeAt, ArePlacesOf, IsOfEdges, IsPlaced, way_read, pieces_at}
use Rattle.module_text.specs.declared.arranging.Piece.{Piece}
use Rattle.module_text.specs.declared.arranging.Piece.TheVariants.{Way as AWay}
use Rattle.module_text.specs.declared.places.EdgePlaces.{EdgePlaces}

abbrev Row : Type 0
Row = Vec ℕ Global

-- what holds where the call succeeds, in another form
pub on_ok_as : (P Q : Type 0) (r : Result (Unit {0}) Memory) → (P → Q) → OnOk r P → OnOk r Q
on_ok_as P Q (Ok x) f h = f h
on_ok_as P Q (Err e) f h = tt

-- ---- the table
pub more_room : (rows : List Row) (r : Row) → r.items ≡ [] → (e : ℕ) → row_of (rows ++ r ∷ []) e ≡ row_of rows e
more_room [] r n zero = n
more_room [] r n (suc e) = refl
more_room (x ∷ rows) r n zero = refl
more_room (x ∷ rows) r n (suc e) = more_room rows r n e

pub no_edges : (table : EdgePlaces) → table.ways.items ≡ [] → table.places.items ≡ [] → ArePlacesOf [] table
no_edges table w p = record {
  ways = w;
  places = λ e n. (
    (λ o. absurd (one_none n (subst (λ (z : List Row). IsOneOf (row_of z e) n) p o))),
    (λ h. absurd (stands_none n h.edge h.stands)),
  );
}

-- one edge more
module _ (edges : List Edge) (x : Edge) (old new : EdgePlaces) (rows : List Row) (pushed : Row)
    (are : ArePlacesOf edges old) (same : (e : ℕ) → row_of rows e ≡ row_of old.places.items e)
    (lt : x.event.n < length rows) (n : ℕ) (at : n ≡ length old.ways.items)
    (push : pushed.items ≡ row_of rows x.event.n ++ n ∷ [])
    (put : new.places.items ≡ set rows x.event.n pushed) (way : new.ways.items ≡ old.ways.items ++ x.way ∷ []) where
  long : n ≡ length edges
  long = at ∙ ap length are.ways ∙ length-map edges (λ (y : Edge). y.way)

  its_row : (e : ℕ) → e ≡ x.event.n → row_of new.places.items e ≡ row_of old.places.items e ++ n ∷ []
  its_row e i =
      ap (λ (z : List Row). row_of z e) put ∙ ap (λ (k : ℕ). row_of (set rows x.event.n pushed) k) i
      ∙ row_set_same rows x.event.n pushed lt
      ∙ push ∙ ap (λ (z : List ℕ). z ++ n ∷ []) (same x.event.n ∙ ap (λ (k : ℕ). row_of old.places.items k) (sym i))

  other_row : (e : ℕ) → (e ≡ x.event.n → ⊥) → row_of new.places.items e ≡ row_of old.places.items e
  other_row e ne = ap (λ (z : List Row). row_of z e) put ∙ row_set_other rows x.event.n e pushed ne ∙ same e

  earlier : (e p : ℕ) → IsEdgeAt edges e p → IsEdgeAt (edges ++ x ∷ []) e p
  earlier e p h = record
      { edge = h.edge; stands = stands_left edges (x ∷ []) p h.edge h.stands; is_event = h.is_event }

  last : (e p : ℕ) → e ≡ x.event.n → n ≡ p → IsEdgeAt (edges ++ x ∷ []) e p
  last e p i j = record {
    edge = x;
    stands = subst (λ (z : ℕ). Stands (edges ++ x ∷ []) z x) (sym long ∙ j) (stands_next edges x []);
    is_event = sym i;
  }

  on : (e p : ℕ) → ((e ≡ x.event.n) ⊎ (e ≡ x.event.n → ⊥)) → IsOneOf (row_of new.places.items e) p
      → IsEdgeAt (edges ++ x ∷ []) e p
  on e p (inl i) o =
      elim (one_split (row_of old.places.items e) (n ∷ []) p (subst (λ (z : List ℕ). IsOneOf z p) (its_row e i) o)) [
        | inl q ↦ earlier e p ((are.places e p).0 q)
        | inr q ↦ elim (one_cases n [] p q) [ inl j ↦ last e p i j | inr r ↦ absurd (one_none p r) ]
      ]
  on e p (inr ne) o = earlier e p ((are.places e p).0 (subst (λ (z : List ℕ). IsOneOf z p) (other_row e ne) o))

  kept : (e p : ℕ) → ((e ≡ x.event.n) ⊎ (e ≡ x.event.n → ⊥)) → IsOneOf (row_of old.places.items e) p
      → IsOneOf (row_of new.places.items e) p
  kept e p (inl i) o = subst (λ (z : List ℕ). IsOneOf z p) (sym (its_row e i))
      (one_left (row_of old.places.items e) (n ∷ []) p o)
  kept e p (inr ne) o = subst (λ (z : List ℕ). IsOneOf z p) (sym (other_row e ne)) o

  new_one : (e p j : ℕ) (y : Edge) → y.event.n ≡ e → p ≡ length edges + j → Stands (x ∷ []) j y
      → IsOneOf (row_of new.places.items e) p
  new_one e p zero y i q s =
      let same_edge : x ≡ y = cc in
      let its : e ≡ x.event.n = sym i ∙ ap (λ (z : Edge). z.event.n) (sym same_edge) in
      let here : n ≡ p = omega (arith, long, q) in
      subst (λ (z : List ℕ). IsOneOf z p) (sym (its_row e its))
      (one_right (row_of old.places.items e) (n ∷ []) p
      (subst (λ (z : ℕ). IsOneOf (n ∷ []) z) here (one_first n [])))
  new_one e p (suc j) y i q s = absurd (stands_none j y s)

  off : (e p : ℕ) → IsEdgeAt (edges ++ x ∷ []) e p → IsOneOf (row_of new.places.items e) p
  off e p h = elim (stands_split edges (x ∷ []) p h.edge h.stands) [
    | inl s ↦ kept e p (cases_eq e x.event.n)
        ((are.places e p).1 (record { edge = h.edge; stands = s; is_event = h.is_event }))
    | inr s ↦ new_one e p s.0 h.edge h.is_event s.1 s.2
  ]

  pub edge_more : ArePlacesOf (edges ++ x ∷ []) new
  edge_more = record {
    ways = way ∙ ap (λ (z : List WayId). z ++ x.way ∷ []) are.ways
        ∙ sym (map-append (λ (y : Edge). y.way) edges (x ∷ []));
    places = λ e p. (on e p (cases_eq e x.event.n), off e p);
  }

-- the edges of a list or of a tree more
pub edges_more : (before edges : List Edge) (i : ℕ) (d : Edge) (table : EdgePlaces) → i < length edges
    → ArePlacesOf ((before ++ take i edges) ++ get_or edges i d ∷ []) table
    → ArePlacesOf (before ++ take (i + 1) edges) table
edges_more before edges i d table lt are =
    subst (λ (z : List Edge). ArePlacesOf z table)
    (append_assoc before (take i edges) (get_or edges i d ∷ [])
    ∙ ap (λ (z : List Edge). before ++ z) (sym (take_more edges i d lt))) are

pub tree_more : (ts xs : List ModeTree) (k : ℕ) (t : ModeTree) → xs ≡ ts → k < length xs → t ≡ get_or xs k t
    → (es : List Edge) → es ≡ t.edges.items → (table : EdgePlaces) → ArePlacesOf (forest_edges (take k ts) ++ es) table
    → ArePlacesOf (forest_edges (take (k + 1) ts)) table
tree_more ts xs k t same l is es e table are =
    let at : t ≡ get_or ts k t = subst (λ (z : List ModeTree). t ≡ get_or z k t) same is in
    let more : take (k + 1) ts ≡ take k ts ++ t ∷ [] =
    take_more ts k t (subst (λ (z : List ModeTree). k < length z) same l)
    ∙ ap (λ (z : ModeTree). take k ts ++ z ∷ []) (sym at) in
    subst (λ (z : List Edge). ArePlacesOf z table)
    (ap (λ (z : List Edge). forest_edges (take k ts) ++ z) e ∙ sym (edges_push (take k ts) t) ∙ ap forest_edges (sym more)) are

-- ---- rows
pub row_past : (rows : List Row) (e : ℕ) → length rows ≤ e → row_of rows e ≡ []
row_past [] e h = refl
row_past (x ∷ rows) zero h = absurd (omega arith)
row_past (x ∷ rows) (suc e) h = row_past rows e (omega arith)

-- ---- spots
pub numbers_more : (events : List EventId) (i : ℕ) (d : EventId) → i < length events
    → event_numbers (take (i + 1) events) ≡ event_numbers (take i events) ++ (get_or events i d).n ∷ []
numbers_more events i d lt = ap event_numbers (take_more events i d lt)
    ∙ map-append (λ (e : EventId). e.n) (take i events) (get_or events i d ∷ [])

pub none_placed : (rows : List Row) (p : ℕ) → IsOneOf [] p ↔ IsPlaced rows [] p
none_placed rows p = (λ o. absurd (one_none p o), λ h. absurd (one_none h.event h.is_one))

pub placed_more : (rows : List Row) (events : List EventId) (i : ℕ) (d : EventId) (old new : List ℕ)
    → i < length events → ((p : ℕ) → IsOneOf old p ↔ IsPlaced rows (event_numbers (take i events)) p)
    → new ≡ old ++ row_of rows (get_or events i d).n → (p : ℕ)
    → IsOneOf new p ↔ IsPlaced rows (event_numbers (take (i + 1) events)) p
placed_more rows events i d old new lt before grown p = (on, off)
  where
    x : ℕ
    x = (get_or events i d).n

    first : List ℕ
    first = event_numbers (take i events)

    now : (y : ℕ) → IsOneOf (first ++ x ∷ []) y → IsOneOf (event_numbers (take (i + 1) events)) y
    now y o = subst (λ (z : List ℕ). IsOneOf z y) (sym (numbers_more events i d lt)) o

    on : IsOneOf new p → IsPlaced rows (event_numbers (take (i + 1) events)) p
    on o = elim (one_split old (row_of rows x) p (subst (λ (z : List ℕ). IsOneOf z p) grown o)) [
      | inl q ↦ let h = (before p).0 q in record { event = h.event; is_one = now h.event (one_left first (x ∷ []) h.event h.is_one); placed = h.placed }
      | inr q ↦ record { event = x; is_one = now x (one_right first (x ∷ []) x (one_first x [])); placed = q }
    ]

    off : IsPlaced rows (event_numbers (take (i + 1) events)) p → IsOneOf new p
    off h = subst (λ (z : List ℕ). IsOneOf z p) (sym grown)
        (elim (one_split first (x ∷ []) h.event
        (subst (λ (z : List ℕ). IsOneOf z h.event) (numbers_more events i d lt) h.is_one)) [
          | inl q ↦ one_left old (row_of rows x) p
              ((before p).1 (record { event = h.event; is_one = q; placed = h.placed }))
          | inr q ↦ elim (one_cases x [] h.event q) [
            | inl e ↦ one_right old (row_of rows x) p
                (subst (λ (z : ℕ). IsOneOf (row_of rows z) p) (sym e) h.placed)
            | inr r ↦ absurd (one_none h.event r)
          ]
        ])

strictly : (xs : List ℕ) (j k q r : ℕ) → IsStrictlySortedBy nat_cmp xs → j < k → Stands xs j q → Stands xs k r → q < r
unfolding IsStrictlySortedBy
strictly [] j k q r s h a b = absurd (stands_none j q a)
strictly (x ∷ xs) j zero q r s h a b = absurd (omega arith)
strictly (x ∷ xs) zero (suc k) q r s h a b =
    let e : x ≡ q = cc in
    ranked q r Less (sym (subst (λ (z : ℕ). nat_cmp z r ≡ Less) e (all_stand (λ y. nat_cmp x y ≡ Less) xs k r s.0 b)))
strictly (x ∷ xs) (suc j) (suc k) q r s h a b = strictly xs j k q r s.1 (omega arith) a b

-- the numbers, sorted and each once, ascend and are the same
pub sorted_ascends : (sorted kept : List ℕ) → IsSorted nat_cmp sorted
    → IsFiltered (DiffersFromLast nat_eq) [] sorted kept → Ascends kept
sorted_ascends sorted kept order filtered =
    subst Ascends (sym (dedup_is nat_eq sorted kept filtered))
    (record {
      ascends = λ j k a b l s t. strictly (dedup nat_eq sorted) j k a b
          (IsStrictlySortedBy-dedup nat_cmp_total unsigned_ties sorted order) l s t;
    })

pub sorted_same : (all sorted kept : List ℕ) → IsPermutation all sorted
    → IsFiltered (DiffersFromLast nat_eq) [] sorted kept → (n : ℕ) → IsOneOf kept n ↔ IsOneOf all n
sorted_same all sorted kept perm filtered n =
    subst (λ (z : List ℕ). IsOneOf z n ↔ IsOneOf all n) (sym (dedup_is nat_eq sorted kept filtered)) (back, there)
  where
    there : IsOneOf all n → IsOneOf (dedup nat_eq sorted) n
    there o = one_contains (dedup nat_eq sorted) n
        (Contains-dedup nat_eq_equiv (λ x y. (unsigned_Decides x y).0) sorted n
        (Contains-permutation all sorted n perm (contains_one all n o)))

    back : IsOneOf (dedup nat_eq sorted) n → IsOneOf all n
    back o = one_contains all n (Contains-permutation sorted all n (IsPermutation-sym all sorted perm)
        (Contains-from_dedup nat_eq sorted n (contains_one (dedup nat_eq sorted) n o)))

-- ---- lines
module _ (set : List ℕ) where
  -- the places, counted from i, of the edges of which the set has the event
  held : ℕ → List Edge → List ℕ
  held i [] = []
  held i (x ∷ xs) = cond (holds x.event.n set) (i ∷ held (suc i) xs) (held (suc i) xs)

  all_cond : (P : ℕ → Type 0) (b : Bool) (x : ℕ) (xs : List ℕ) → P x → AllByRecursion P xs
      → AllByRecursion P (cond b (x ∷ xs) xs)
  all_cond P true x xs p h = (p, h)
  all_cond P false x xs p h = h

  ascending_cond : (b : Bool) (x : ℕ) (xs : List ℕ) → AllByRecursion (λ y. x < y) xs → IsAscending xs
      → IsAscending (cond b (x ∷ xs) xs)
  ascending_cond true x xs p h = (p, h)
  ascending_cond false x xs p h = h

  held_above : (i j : ℕ) (es : List Edge) → i < j → AllByRecursion (λ y. i < y) (held j es)
  unfolding held
  held_above i j [] l = tt
  held_above i j (e ∷ es) l = all_cond (λ y. i < y) (holds e.event.n set) j (held (suc j) es) l
      (held_above i (suc j) es (omega (arith, l)))

  held_ascends : (i : ℕ) (es : List Edge) → IsAscending (held i es)
  unfolding held
  held_ascends i [] = tt
  held_ascends i (e ∷ es) = ascending_cond (holds e.event.n set) i (held (suc i) es)
      (held_above i (suc i) es (omega arith)) (held_ascends (suc i) es)

  -- a place is held where the set has the event of the edge there
  record IsHeld (i : ℕ) (es : List Edge) (p : ℕ) : Type 0 where
    k : ℕ
    e : Edge
    place : p ≡ i + k
    stands : Stands es k e
    holds_it : holds e.event.n set ≡ true

  held_is : (i : ℕ) (es : List Edge) (p : ℕ) → IsOneOf (held i es) p → IsHeld i es p
  unfolding held
  held_is i [] p o = absurd (one_none p o)
  held_is i (e ∷ es) p o = by (holds e.event.n set) refl (λ q. held_is (suc i) es p q) o
    where
      later : IsHeld (suc i) es p → IsHeld i (e ∷ es) p
      later h = record {
        k = suc h.k;
        e = h.e;
        place = omega (arith, h.place);
        stands = h.stands;
        holds_it = h.holds_it;
      }

      by : (b : Bool) → holds e.event.n set ≡ b → (IsOneOf (held (suc i) es) p → IsHeld (suc i) es p)
          → IsOneOf (cond b (i ∷ held (suc i) es) (held (suc i) es)) p → IsHeld i (e ∷ es) p
      by true h ih o = elim (one_cases i (held (suc i) es) p o) [
        | inl q ↦ record { k = zero; e = e; place = omega (arith, q); stands = refl; holds_it = h }
        | inr q ↦ later (ih q)
      ]
      by false h ih o = later (ih o)

  one_cond : (b : Bool) (x : ℕ) (xs : List ℕ) (p : ℕ) → IsOneOf xs p → IsOneOf (cond b (x ∷ xs) xs) p
  one_cond true x xs p o = one_rest x xs p o
  one_cond false x xs p o = o

  is_held : (i : ℕ) (es : List Edge) (k : ℕ) (e : Edge) → Stands es k e → holds e.event.n set ≡ true
      → IsOneOf (held i es) (i + k)
  unfolding held
  is_held i [] k e s h = absurd (stands_none k e s)
  is_held i (x ∷ es) zero e s h =
      let y : x ≡ e = cc in
      let here : i + zero ≡ i = omega arith in
      subst (λ b. IsOneOf (cond b (i ∷ held (suc i) es) (held (suc i) es)) (i + zero))
      (sym (ap (λ (z : Edge). holds z.event.n set) y ∙ h))
      (subst (λ z. IsOneOf (i ∷ held (suc i) es) z) (sym here) (one_first i (held (suc i) es)))
  is_held i (x ∷ es) (suc k) e s h =
      let there : suc i + k ≡ i + suc k = omega arith in
      one_cond (holds x.event.n set) i (held (suc i) es) (i + suc k)
      (subst (λ z. IsOneOf (held (suc i) es) z) there (is_held (suc i) es k e s h))

  -- the ways at the places that are held
  at_held : (at : ℕ → Piece) (i : ℕ) (es : List Edge) → ((k : ℕ) (e : Edge) → Stands es k e → at (i + k) ≡ AWay e.way)
      → map at (held i es) ≡ way_pieces es set
  unfolding held
  at_held at i [] h = refl
  at_held at i (e ∷ es) h =
      by (at_held at (suc i) es (λ k x s. let same : suc i + k ≡ i + suc k = omega arith in ap at same
      ∙ h (suc k) x s)) (holds e.event.n set)
    where
      first : at i ≡ AWay e.way
      first = let same : i ≡ i + zero = omega arith in ap at same ∙ h zero e refl

      by : map at (held (suc i) es) ≡ way_pieces es set → (b : Bool)
          → map at (cond b (i ∷ held (suc i) es) (held (suc i) es))
          ≡ map (λ (x : Edge). AWay x.way) (cond b (e ∷ filter (λ (x : Edge). holds x.event.n set) es)
          (filter (λ (x : Edge). holds x.event.n set) es))
      by rest true = ap (λ z. z ∷ map at (held (suc i) es)) first ∙ ap (λ z. AWay e.way ∷ z) rest
      by rest false = rest

module _ (edges : List Edge) (table : EdgePlaces) (are : ArePlacesOf edges table) (set spots : List ℕ)
    (each : (p : ℕ) → IsOneOf spots p ↔ IsPlaced table.places.items set p) where
  -- the spots are places of ways
  pub spots_inside : (p : ℕ) → IsOneOf spots p → p < length table.ways.items
  spots_inside p o =
      let h = (each p).0 o in
      let x = (are.places h.event p).0 h.placed in
      let w = stands_within edges p x.edge x.stands in
      let long = ap length are.ways ∙ length-map edges (λ (y : Edge). y.way) in
      omega (arith, w, long)

  spots_held : Ascends spots → spots ≡ held set 0 edges
  spots_held up = ascending_same spots (held set 0 edges) up (ascends_from (held set 0 edges) (held_ascends set 0 edges))
      (record { each = λ p o. there p o })
      (record { each = λ p o. back p o })
    where
      there : (p : ℕ) → IsOneOf spots p → IsOneOf (held set 0 edges) p
      there p o =
          let h = (each p).0 o in
          let x = (are.places h.event p).0 h.placed in
          let has : holds x.edge.event.n set ≡ true = (holds_law x.edge.event.n set).1
          (subst (λ (z : ℕ). IsOneOf set z) (sym x.is_event) h.is_one) in
          let at : 0 + p ≡ p = omega arith in
          subst (λ (z : ℕ). IsOneOf (held set 0 edges) z) at (is_held set 0 edges p x.edge x.stands has)

      back : (p : ℕ) → IsOneOf (held set 0 edges) p → IsOneOf spots p
      back p o =
          let h = held_is set 0 edges p o in
          let at : h.k ≡ p = omega (arith, h.place) in
          (each p).1 (record {
            event = h.e.event.n;
            is_one = (holds_law h.e.event.n set).0 h.holds_it;
            placed = (are.places h.e.event.n p).1 (record {
              edge = h.e;
              stands = subst (λ (z : ℕ). Stands edges z h.e) at h.stands;
              is_event = refl;
            });
          })

  -- the ways at the spots are those of the set's edges, as they stand
  pub arranged : Ascends spots → pieces_at table.ways.items spots ≡ way_pieces edges set
  arranged up = ap (pieces_at table.ways.items) (spots_held up)
      ∙ at_held set (λ p. AWay (way_read (slice_get table.ways.items p))) 0 edges (λ k e s. read k e s)
    where
      read : (k : ℕ) (e : Edge) → Stands edges k e → AWay (way_read (slice_get table.ways.items (0 + k))) ≡ AWay e.way
      read k e s =
          let z : 0 + k ≡ k = omega arith in
          ap (λ (j : ℕ). AWay (way_read (slice_get table.ways.items j))) z
          ∙ ap (λ (o : Option WayId). AWay (way_read o))
          (subst (λ (ws : List WayId). Stands ws k e.way) (sym are.ways)
          (stands_map (λ (y : Edge). y.way) edges k e s))

-- one line more
pub lines_more : {A : Type 0} (f : A → List Piece) (xs : List A) (i : ℕ) (x : A) (old new : List Line) (l : Line)
    → i < length xs → x ≡ get_or xs i x → new ≡ old ++ l ∷ [] → pieces_of l ≡ f x
    → map pieces_of old ≡ map f (take i xs) → map pieces_of new ≡ map f (take (i + 1) xs)
lines_more f xs i x old new l lt is grown e h =
    ap (map pieces_of) grown ∙ map-append pieces_of old (l ∷ [])
    ∙ ap (λ (z : List (List Piece)). z ++ pieces_of l ∷ []) h ∙ ap (λ (z : List Piece). map f (take i xs) ++ z ∷ []) e
    ∙ sym (map-append f (take i xs) (x ∷ []))
    ∙ ap (map f) (ap (λ z. take i xs ++ z ∷ []) is ∙ sym (take_more xs i x lt))

-- one way more
pub ways_more : (ways : List WayId) (spots : List ℕ) (i d : ℕ) (w : WayId) (start old new : List Piece)
    → i < length spots → Stands ways (get_or spots i d) w → old ≡ start ++ pieces_at ways (take i spots)
    → new ≡ old ++ AWay w ∷ [] → new ≡ start ++ pieces_at ways (take (i + 1) spots)
ways_more ways spots i d w start old new lt s h grown =
    let at = get_or spots i d in
    let read : ◌≡◌ {A = Piece} (AWay w) (AWay (way_read (slice_get ways at))) =
    ap (λ (o : Option WayId). AWay (way_read o)) (sym s) in
    grown ∙ ap (λ (z : List Piece). z ++ AWay w ∷ []) h
    ∙ append_assoc start (pieces_at ways (take i spots)) (AWay w ∷ [])
    ∙ ap (λ (z : List Piece). start ++ z)
    (ap (λ (z : Piece). pieces_at ways (take i spots) ++ z ∷ []) read
    ∙ sym (map-append (λ p. AWay (way_read (slice_get ways p))) (take i spots) (at ∷ []))
    ∙ ap (pieces_at ways) (sym (take_more spots i d lt)))
