-- How a state of sorting changes.
use Rattle.std.proofs.Common.{◌≡◌, ℕ, zero, suc, ◌+◌, ◌<◌, ◌≤◌, ◌⊎◌, inl, inr, Bool, true, false, List, [], ◌∷◌, ◌++◌, Vec, Global, length, set, get_or, refl, sym, ap, ◌∙◌, subst, arith, length-append}
use Rattle.std.proofs.lemmas.Bool.{cases_eq, cases_lt}
use Rattle.std.proofs.lemmas.List.{length-set}
use Rattle.std.specs.Vec.{with_item}
use Rattle.ar_base.specs.Lists.{Stands, IsOneOf}
use Rattle.ar_base.proofs.Standing.{stands_none, stands_one, stands_get, stands_left, stands_split, stands_within, one_here, one_left, one_right, one_split, one_first, one_rest, one_cases, one_none, only_item}
use Rattle.class_table.specs.Searching.{count_of_marked, IsSeen, OpensOne}
use Rattle.class_table.specs.Rows.{IsInRow}
use Rattle.class_table.specs.Ordering.{IsAfter, IsBodyOrder, WaitsFor, IsSorting}
use Rattle.class_table.specs.declared.order.Sorting.{Sorting}
use Rattle.class_table.proofs.Taken.{set_there, set_kept}
use Rattle.class_table.proofs.Listed.{stands_set_same, stands_set_other}
use Rattle.class_table.proofs.Searches.{marked-le-length}

abbrev pub Row : Type 0
Row = Vec ℕ Global

-- one row is written
module _ (rows : List Row) (i : ℕ) (v : Row) (lt : i < length rows) where
  pub row_put : (b : ℕ) → IsOneOf v.items b → IsInRow (set rows i v) i b
  row_put b one = record { row = v; stands = set_there rows i v lt; is_one = one }

  pub row_same : (b : ℕ) → IsInRow (set rows i v) i b → IsOneOf v.items b
  row_same b h = subst (λ (r : Row). IsOneOf r.items b) (stands_set_same rows i v h.row lt h.stands) h.is_one

  pub row_kept : (a b : ℕ) → (a ≡ i → ⊥) → IsInRow rows a b → IsInRow (set rows i v) a b
  row_kept a b n h = record { row = h.row; stands = set_kept rows i v a h.row n h.stands; is_one = h.is_one }

  pub row_other : (a b : ℕ) → (a ≡ i → ⊥) → IsInRow (set rows i v) a b → IsInRow rows a b
  row_other a b n h = record { row = h.row; stands = stands_set_other rows i v a h.row n h.stands; is_one = h.is_one }

  -- the row that was read
  pub row_got : (d : Row) (b : ℕ) → IsInRow rows i b → IsOneOf (get_or rows i d).items b
  row_got d b h = subst (λ (r : Row). IsOneOf r.items b) (stands_one rows i h.row (get_or rows i d) h.stands (stands_get rows i d lt)) h.is_one

  pub got_row : (d : Row) (b : ℕ) → IsOneOf (get_or rows i d).items b → IsInRow rows i b
  got_row d b one = record { row = get_or rows i d; stands = stands_get rows i d lt; is_one = one }

-- the rows after one of them was trimmed of bodies that are placed
pub record AreTrimmed (old new : List Row) (placed : List Bool) : Type 0 where
  pub long : length new ≡ length old
  pub fewer : (a b : ℕ) → IsInRow new a b → IsInRow old a b
  pub kept : (a b : ℕ) → IsInRow old a b → Stands placed b true ⊎ IsInRow new a b

pub trimmed_set : (rows : List Row) (i : ℕ) (v d : Row) (placed : List Bool) → i < length rows
    → ((b : ℕ) → IsOneOf v.items b → IsOneOf (get_or rows i d).items b)
    → ((b : ℕ) → IsOneOf (get_or rows i d).items b → Stands placed b true ⊎ IsOneOf v.items b)
    → AreTrimmed rows (set rows i v) placed
trimmed_set rows i v d placed lt fewer kept = record {
  long = length-set rows i v;
  fewer = λ a b h. elim (cases_eq a i) [
    | inl e ↦ subst (λ (k : ℕ). IsInRow rows k b) (sym e)
        (got_row rows i v lt d b (fewer b (row_same rows i v lt b (subst (λ (k : ℕ). IsInRow (set rows i v) k b) e h))))
    | inr n ↦ row_other rows i v lt a b n h
  ];
  kept = λ a b h. elim (cases_eq a i) [
    | inl e ↦ elim (kept b (row_got rows i v lt d b (subst (λ (k : ℕ). IsInRow rows k b) e h))) [
      | inl p ↦ inl p
      | inr one ↦ inr (subst (λ (k : ℕ). IsInRow (set rows i v) k b) (sym e) (row_put rows i v lt b one))
    ]
    | inr n ↦ inr (row_kept rows i v lt a b n h)
  ];
}

module _ (rows : List Row) (s t : Sorting) (next body : ℕ) (pending : List ℕ)
    (h : IsSorting rows s next (body ∷ pending)) (trimmed : AreTrimmed s.rows.items t.rows.items s.placed.items) where
  own : body < length rows
  own = h.to_settle body (one_first body pending)

  left_on : (a b : ℕ) → IsInRow rows a b → IsOneOf s.order.items b ⊎ IsInRow t.rows.items a b
  left_on a b r = elim (h.left a b r) [
    | inl o ↦ inl o
    | inr q ↦ elim (trimmed.kept a b q) [ inl p ↦ inl (h.is_seen.is_open b p) | inr u ↦ inr u ]
  ]

  -- the body waits
  pub waits_now : (awaited : ℕ) (v d : Row) → IsInRow s.rows.items body awaited → (Stands s.placed.items awaited true → ⊥)
      → t.order ≡ s.order → t.placed ≡ s.placed → t.waiting.items ≡ set s.waiting.items awaited v
      → v.items ≡ (get_or s.waiting.items awaited d).items ++ body ∷ [] → IsSorting rows t next pending
  waits_now awaited v d is_target free same_order same_placed written pushed = record {
    long_rows = trimmed.long ∙ h.long_rows;
    long_waiting = ap length written ∙ length-set s.waiting.items awaited v ∙ h.long_waiting;
    long_placed = ap (λ (p : Vec Bool Global). length p.items) same_placed ∙ h.long_placed;
    within = h.within;
    is_seen = subst (λ (o : Row). IsSeen t.placed.items o.items) (sym same_order)
        (subst (λ (p : Vec Bool Global). IsSeen p.items s.order.items) (sym same_placed) h.is_seen);
    taken = subst (λ (o : Row). next ≤ length o.items) (sym same_order) h.taken;
    fewer = λ a b r. h.fewer a b (trimmed.fewer a b r);
    left = λ a b r. subst (λ (o : Row). IsOneOf o.items b ⊎ IsInRow t.rows.items a b) (sym same_order) (left_on a b r);
    after = subst (λ (o : Row). IsAfter rows o.items) (sym same_order) h.after;
    each = λ a l. elim (h.each a l) [
      | inl o ↦ inl (subst (λ (q : Row). IsOneOf q.items a) (sym same_order) o)
      | inr more ↦ elim more [
        | inl w ↦ inr (inl (record {
          other = w.other;
          waits = kept w.other a w.waits;
          in_row = w.in_row;
          later = subst (λ (q : Row). (k : ℕ) → Stands q.items k w.other → next ≤ k) (sym same_order) w.later;
        }))
        | inr one ↦ elim (one_cases body pending a one) [
          | inl e ↦ inr (inl (subst (WaitsFor rows t next) e now))
          | inr rest ↦ inr (inr rest)
        ]
      ]
    ];
    waiters = λ a b r. split a b (subst (λ (l : List Row). IsInRow l a b) written r);
    to_settle = λ a one. h.to_settle a (one_rest body pending a one);
  }
    where
      room : awaited < length s.waiting.items
      room = let l = h.within body awaited (h.fewer body awaited is_target) in omega (arith, l, h.long_waiting)

      kept : (a b : ℕ) → IsInRow s.waiting.items a b → IsInRow t.waiting.items a b
      kept a b r = subst (λ (l : List Row). IsInRow l a b) (sym written) (elim (cases_eq a awaited) [
        | inl e ↦ subst (λ (k : ℕ). IsInRow (set s.waiting.items awaited v) k b) (sym e)
            (row_put s.waiting.items awaited v room b (subst (λ (l : List ℕ). IsOneOf l b) (sym pushed)
            (one_left _ (body ∷ []) b (row_got s.waiting.items awaited v room d b
            (subst (λ (k : ℕ). IsInRow s.waiting.items k b) e r)))))
        | inr n ↦ row_kept s.waiting.items awaited v room a b n r
      ])

      split : (a b : ℕ) → IsInRow (set s.waiting.items awaited v) a b → b < length rows
      split a b r = elim (cases_eq a awaited) [
        | inl e ↦ elim (one_split (get_or s.waiting.items awaited d).items (body ∷ []) b
            (subst (λ (l : List ℕ). IsOneOf l b) pushed
            (row_same s.waiting.items awaited v room b (subst (λ (k : ℕ). IsInRow (set s.waiting.items awaited v) k b) e
            r)))) [
              | inl old ↦ h.waiters awaited b (got_row s.waiting.items awaited v room d b old)
              | inr new ↦ elim (one_cases body [] b new)
                  [ inl f ↦ subst (λ (k : ℕ). k < length rows) f own | inr f ↦ absurd (one_none b f) ]
            ]
        | inr n ↦ h.waiters a b (row_other s.waiting.items awaited v room a b n r)
      ]

      now : WaitsFor rows t next body
      now = record {
        other = awaited;
        waits = subst (λ (l : List Row). IsInRow l awaited body) (sym written)
            (row_put s.waiting.items awaited v room body (subst (λ (l : List ℕ). IsOneOf l body) (sym pushed)
            (one_right _ (body ∷ []) body (one_first body []))));
        in_row = h.fewer body awaited is_target;
        later = λ k p. absurd (free (h.is_seen.has_seen awaited
            (subst (λ (q : Row). IsOneOf q.items awaited) same_order (one_here t.order.items k awaited p))));
      }

  -- the body is placed
  pub placed_now : ((b : ℕ) → IsInRow s.rows.items body b → Stands s.placed.items b true)
      → OpensOne body s.order.items t.order.items t.placed.items → length t.placed.items ≡ length s.placed.items
      → t.waiting ≡ s.waiting → IsSorting rows t next pending
  placed_now none_left opens long same_waiting = record {
    long_rows = trimmed.long ∙ h.long_rows;
    long_waiting = ap (λ (w : Vec Row Global). length w.items) same_waiting ∙ h.long_waiting;
    long_placed = long ∙ h.long_placed;
    within = h.within;
    is_seen = opens.is_seen;
    taken = let a = at_least in let b = h.taken in omega (arith, a, b);
    fewer = λ a b r. h.fewer a b (trimmed.fewer a b r);
    left = λ a b r. elim (left_on a b r) [ inl o ↦ inl (more b o) | inr q ↦ inr q ];
    after = record { each = after_on };
    each = λ a l. elim (h.each a l) [
      | inl o ↦ inl (more a o)
      | inr rest ↦ elim rest [
        | inl w ↦ inr (inl (record {
          other = w.other;
          waits = subst (λ (q : Vec Row Global). IsInRow q.items w.other a) (sym same_waiting) w.waits;
          in_row = w.in_row;
          later = λ k p. elim (stands_split s.order.items opens.added k w.other (whole k w.other p)) [
            | inl q ↦ w.later k q
            | inr q ↦ (let b = h.taken in omega (arith, b, q.1))
          ];
        }))
        | inr one ↦ elim (one_cases body pending a one) [
          | inl e ↦ inl (subst (IsOneOf t.order.items) e
              (opens.is_open (let l = own in let m = h.long_placed in omega (arith, l, m, long))))
          | inr q ↦ inr (inr q)
        ]
      ]
    ];
    waiters = λ a b r. h.waiters a b (subst (λ (q : Vec Row Global). IsInRow q.items a b) same_waiting r);
    to_settle = λ a one. h.to_settle a (one_rest body pending a one);
  }
    where
      more : (b : ℕ) → IsOneOf s.order.items b → IsOneOf t.order.items b
      more b o = subst (λ (l : List ℕ). IsOneOf l b) (sym opens.joined) (one_left s.order.items opens.added b o)

      whole : (k b : ℕ) → Stands t.order.items k b → Stands (s.order.items ++ opens.added) k b
      whole k b p = subst (λ (l : List ℕ). Stands l k b) opens.joined p

      at_least : length s.order.items ≤ length t.order.items
      at_least = longer s.order.items opens.added t.order.items opens.joined
        where
          longer : (xs ys zs : List ℕ) → zs ≡ xs ++ ys → length xs ≤ length zs
          longer xs ys zs e = let a = ap length e in let b = length-append xs ys in omega (arith, a, b)

      front : (k b : ℕ) → Stands s.order.items k b → Stands t.order.items k b
      front k b p = subst (λ (l : List ℕ). Stands l k b) (sym opens.joined) (stands_left s.order.items opens.added k b p)

      after_on : (k a b : ℕ) → Stands t.order.items k a → IsInRow rows a b → (j : ℕ) × (j < k) × Stands t.order.items j b
      after_on k a b p r = elim (stands_split s.order.items opens.added k a (whole k a p)) [
        | inl q ↦ (let w = h.after.each k a b q r in (w.0, w.1, front w.0 b w.2))
        | inr q ↦
            let e : a ≡ body = opens.only a (one_here opens.added q.0 a q.2) in
            let o = in_order b (subst (λ (x : ℕ). IsInRow rows x b) e r) in
            let l = stands_within s.order.items o.place b o.stands in
            (o.place, omega (arith, l, q.1), front o.place b o.stands)
      ]
        where
          in_order : (b : ℕ) → IsInRow rows body b → IsOneOf s.order.items b
          in_order b r = elim (h.left body b r) [ inl o ↦ o | inr q ↦ h.is_seen.is_open b (none_left b q) ]

-- those that wait for the next one in the order are to be settled
pub released : (rows : List Row) (s t : Sorting) (next body : ℕ) (v d : Row) → IsSorting rows s next []
    → Stands s.order.items next body → t.rows ≡ s.rows → t.placed ≡ s.placed → t.order ≡ s.order
    → t.waiting.items ≡ set s.waiting.items body v → v.items ≡ []
    → IsSorting rows t (next + 1) (get_or s.waiting.items body d).items
released rows s t next body v d h at same_rows same_placed same_order written none = record {
  long_rows = ap (λ (q : Vec Row Global). length q.items) same_rows ∙ h.long_rows;
  long_waiting = ap length written ∙ length-set s.waiting.items body v ∙ h.long_waiting;
  long_placed = ap (λ (p : Vec Bool Global). length p.items) same_placed ∙ h.long_placed;
  within = h.within;
  is_seen = subst (λ (o : Row). IsSeen t.placed.items o.items) (sym same_order)
      (subst (λ (p : Vec Bool Global). IsSeen p.items s.order.items) (sym same_placed) h.is_seen);
  taken = subst (λ (o : Row). next + 1 ≤ length o.items) (sym same_order)
      (let l = stands_within s.order.items next body at in omega (arith, l));
  fewer = λ a b r. h.fewer a b (subst (λ (q : Vec Row Global). IsInRow q.items a b) same_rows r);
  left = λ a b r. subst (λ (o : Row). IsOneOf o.items b ⊎ IsInRow t.rows.items a b) (sym same_order)
      (subst (λ (q : Vec Row Global). IsOneOf s.order.items b ⊎ IsInRow q.items a b) (sym same_rows) (h.left a b r));
  after = subst (λ (o : Row). IsAfter rows o.items) (sym same_order) h.after;
  each = λ a l. elim (h.each a l) [
    | inl o ↦ inl (subst (λ (q : Row). IsOneOf q.items a) (sym same_order) o)
    | inr more ↦ elim more [
      | inl w ↦ elim (cases_eq w.other body) [
        | inl e ↦ inr (inr (row_got s.waiting.items body v room d a (subst (λ (k : ℕ). IsInRow s.waiting.items k a) e w.waits)))
        | inr n ↦ inr (inl (record {
          other = w.other;
          waits = subst (λ (q : List Row). IsInRow q w.other a) (sym written)
              (row_kept s.waiting.items body v room w.other a n w.waits);
          in_row = w.in_row;
          later = λ k p.
              let q = subst (λ (o : Row). Stands o.items k w.other) same_order p in
              let m = w.later k q in
              elim (cases_eq k next) [
                | inl e ↦ absurd (n (stands_one s.order.items next w.other body
                    (subst (λ (i : ℕ). Stands s.order.items i w.other) e q) at))
                | inr f ↦ later_on k m f
              ];
        }))
      ]
      | inr one ↦ absurd (one_none a one)
    ]
  ];
  waiters = λ a b r. waiters_on a b (subst (λ (q : List Row). IsInRow q a b) written r);
  to_settle = λ a one. h.waiters body a (got_row s.waiting.items body v room d a one);
}
  where
    room : body < length s.waiting.items
    room = let l = stands_within s.placed.items body true (h.is_seen.has_seen body (one_here s.order.items next body at)) in omega (arith, l, h.long_placed, h.long_waiting)

    later_on : (k : ℕ) → next ≤ k → (k ≡ next → ⊥) → next + 1 ≤ k
    later_on k l n = elim (cases_lt next k) [ inl m ↦ omega (arith, m) | inr m ↦ absurd (n (omega (arith, l, m))) ]

    waiters_on : (a b : ℕ) → IsInRow (set s.waiting.items body v) a b → b < length rows
    waiters_on a b r = elim (cases_eq a body) [
      | inl e ↦ absurd (one_none b (subst (λ (l : List ℕ). IsOneOf l b) none (row_same s.waiting.items body v room b
          (subst (λ (k : ℕ). IsInRow (set s.waiting.items body v) k b) e r))))
      | inr n ↦ h.waiters a b (row_other s.waiting.items body v room a b n r)
    ]

-- all are marked
pub all_marked : (seen : List Bool) → length seen ≤ count_of_marked seen → (k : ℕ) → k < length seen → Stands seen k true
all_marked [] l k m = absurd (omega (arith, m))
all_marked (true ∷ xs) l zero m = refl
all_marked (true ∷ xs) l (suc k) m = all_marked xs (omega (arith, l)) k (omega (arith, m))
all_marked (false ∷ xs) l k m = let n = marked-le-length xs in absurd (omega (arith, l, n))

-- where all of the order was taken, the sorting is done
pub sorted : (rows : List Row) (s : Sorting) (next : ℕ) → length s.order.items ≤ next → IsSorting rows s next []
    → IsBodyOrder rows s.order.items
sorted rows s next l h = record {
  within = λ a o. let m = stands_within s.placed.items a true (h.is_seen.has_seen a o) in omega (arith, m, h.long_placed);
  after = h.after;
  stuck = record { each = stuck_at };
  whole = λ m a q. h.is_seen.is_open a (all_marked s.placed.items
      (let n = h.is_seen.no_more in omega (arith, m, n, h.long_placed)) a (omega (arith, q, h.long_placed)));
}
  where
    stuck_at : (a : ℕ) → a < length rows → (IsOneOf s.order.items a → ⊥)
        → (b : ℕ) × IsInRow rows a b × (IsOneOf s.order.items b → ⊥)
    stuck_at a m n = elim (h.each a m) [
      | inl o ↦ absurd (n o)
      | inr more ↦ elim more [
        | inl w ↦ (
          w.other,
          w.in_row,
          λ o. (let p = w.later o.place o.stands in let q = stands_within s.order.items o.place w.other o.stands in omega (arith, p, q, l)),
        )
        | inr one ↦ absurd (one_none a one)
      ]
    ]

-- no more are in the order than there are
pub order_fits : (rows : List Row) (s : Sorting) (next : ℕ) (pending : List ℕ) → IsSorting rows s next pending
    → length s.order.items ≤ length s.placed.items
order_fits rows s next pending h = let a = h.is_seen.no_more in let b = marked-le-length s.placed.items in omega (arith, a, b)

-- at first none is in the order
pub sorting_start : (rows : List Row) (s : Sorting) (pending : List ℕ) → ((a b : ℕ) → IsInRow rows a b → b < length rows)
    → s.rows.items ≡ rows → length s.waiting.items ≡ length rows → length s.placed.items ≡ length rows
    → ((a b : ℕ) → IsInRow s.waiting.items a b → ⊥) → IsSeen s.placed.items s.order.items → s.order.items ≡ []
    → ((a : ℕ) → a < length rows → IsOneOf pending a) → ((a : ℕ) → IsOneOf pending a → a < length rows)
    → IsSorting rows s 0 pending
sorting_start rows s pending within same long_waiting long_placed no_waiting seen none all low = record {
  long_rows = ap length same;
  long_waiting = long_waiting;
  long_placed = long_placed;
  within = within;
  is_seen = seen;
  taken = omega arith;
  fewer = λ a b r. subst (λ (q : List Row). IsInRow q a b) same r;
  left = λ a b r. inr (subst (λ (q : List Row). IsInRow q a b) (sym same) r);
  after = record { each = λ k a b p r. absurd (stands_none k a (subst (λ (q : List ℕ). Stands q k a) none p)) };
  each = λ a l. inr (inr (all a l));
  waiters = λ a b r. absurd (no_waiting a b r);
  to_settle = low;
}

-- empty rows
pub no_rows : (rows : List Row) → rows ≡ [] → (a b : ℕ) → IsInRow rows a b → ⊥
no_rows rows e a b h = stands_none a h.row (subst (λ (l : List Row). Stands l a h.row) e h.stands)

pub empty_more : (rows new : List Row) (v : Row) → new ≡ rows ++ v ∷ [] → v.items ≡ []
    → ((a b : ℕ) → IsInRow rows a b → ⊥) → (a b : ℕ) → IsInRow new a b → ⊥
empty_more rows new v e none h a b r =
    elim (stands_split rows (v ∷ []) a r.row (subst (λ (l : List Row). Stands l a r.row) e r.stands)) [
      | inl s ↦ h a b (record { row = r.row; stands = s; is_one = r.is_one })
      | inr s ↦ (let same = only_item v r.row (record { place = s.0; stands = s.2 }) in one_none b (subst (λ (l : List ℕ). IsOneOf l b) none (subst (λ (q : Row). IsOneOf q.items b) (sym same) r.is_one)))
    ]

-- what was read
pub got_stands : {A : Type 0} (xs : List A) (i : ℕ) (a d : A) → i < length xs → a ≡ get_or xs i d → Stands xs i a
got_stands xs i a d lt e = subst (λ z. Stands xs i z) (sym e) (stands_get xs i d lt)

pub not_seen : (seen : List Bool) (b : ℕ) (v d : Bool) → b < length seen → v ≡ get_or seen b d → v ≡ false
    → get_or seen b false ≡ false
not_seen seen b v d lt e f =
    stands_one seen b (get_or seen b false) v (stands_get seen b false lt) (got_stands seen b v d lt e) ∙ f

pub is_true : (seen : List Bool) (b : ℕ) (v d : Bool) → b < length seen → v ≡ get_or seen b d → v ≡ true
    → Stands seen b true
is_true seen b v d lt e f = subst (λ (x : Bool). Stands seen b x) f (got_stands seen b v d lt e)

-- a body in the order has a row of those that wait
pub in_room : (rows : List Row) (s : Sorting) (next : ℕ) (pending : List ℕ) → IsSorting rows s next pending → (b : ℕ)
    → IsOneOf s.order.items b → b < length s.waiting.items
in_room rows s next pending h b o =
    let l = stands_within s.placed.items b true (h.is_seen.has_seen b o) in omega (arith, l, h.long_placed, h.long_waiting)

-- the state in which those that wait for a body were taken
abbrev pub after_release : Sorting → ℕ → Row → Sorting
after_release s body empty = record {
  rows = s.rows;
  waiting = with_item s.waiting body empty;
  placed = s.placed;
  order = s.order;
}

pub released_state : (rows : List Row) (s : Sorting) (next body : ℕ) (v d : Row) (waiters : List ℕ)
    → IsSorting rows s next [] → Stands s.order.items next body → v.items ≡ []
    → waiters ≡ (get_or s.waiting.items body d).items → IsSorting rows (after_release s body v) (next + 1) waiters
released_state rows s next body v d waiters h at none e =
    subst (λ (l : List ℕ). IsSorting rows (after_release s body v) (next + 1) l) (sym e)
    (released rows s (after_release s body v) next body v d h at refl refl refl refl none)
