-- Trees over new numbers, one after the other.
use Rattle.std.proofs.Common.{◌≡◌, ◌⊎◌, ⊎_elim, inl, inr, ℕ, ◌+◌, ◌<◌, ◌≤◌, List, [], ◌∷◌, ◌++◌, length, refl, sym, ap, ◌∙◌, subst, arith, length-append}
use Rattle.ar_base.specs.Lists.{Stands, Along, none, one_and}
use Rattle.ar_base.specs.NumbersInside.{EventId}
use Rattle.ar_base.proofs.Items.{along_push}
use Rattle.ar_base.proofs.Standing.{stands_none, stands_one, stands_within, stands_some, stands_left, stands_split, stands_next, stands_alone, stands_map_back, different_more, along_on, along_back}
use Rattle.diagram_steps.specs.declared.trees.NumberedEdge.{NumberedEdge}
use Rattle.diagram_steps.specs.declared.trees.NumberedTree.{NumberedTree}
use Rattle.diagram_steps.specs.Order.{IsTreeBefore}
use Rattle.diagram_steps.specs.Trees.{edges_of, TreeHasEvent}
use Rattle.event_order.specs.Renumbered.{AreDistinct, IsNamed, IsRenumbered, IsRenumberedAt, AreRenumbered}
use Rattle.event_order.specs.Taking.{events_of, IsNew, IsFrom}

-- ---- more names
renumbered_grows : (names more : List EventId) (old new : NumberedTree) → IsRenumbered names old new
    → IsRenumbered (names ++ more) old new
renumbered_grows names more old new r = record {
  long = r.long;
  from = r.from;
  event = λ j a b p q. stands_left names more b.event.n a.event (r.event j a b p q);
  start = r.start;
  next = r.next;
}

at_grows : (names more : List EventId) (olds : List NumberedTree) (place : ℕ) (new : NumberedTree)
    → IsRenumberedAt names olds place new → IsRenumberedAt (names ++ more) olds place new
at_grows names more olds place new r =
    record { old = r.old; stands = r.stands; is = renumbered_grows names more r.old new r.is }

along_as : {A B : Type 0} {R S : A → B → Type 0} → ((a : A) (b : B) → R a b → S a b) → (xs : List A) (ys : List B)
    → Along R xs ys → Along S xs ys
along_as h [] [] none = none
along_as h [] (y ∷ ys) r = elim r [ ]
along_as h (x ∷ xs) [] r = elim r [ ]
along_as h (x ∷ xs) (y ∷ ys) (one_and r rest) = one_and (h x y r) (along_as h xs ys rest)

-- ---- the events of new trees
-- where the new tree has this number, the old one has the event that it stands for
pub old_event : (names : List EventId) (old new : NumberedTree) → IsRenumbered names old new → (i : ℕ) → TreeHasEvent new i
    → (n : EventId) × Stands names i n × TreeHasEvent old n.n
old_event names old new r i h =
    let j = h.one.place in
    let a = stands_some (edges_of old) j
    (let w = stands_within (edges_of new) j h.edge h.one.stands in omega (arith, w, r.long)) in (
      a.0.event,
      subst (λ k. Stands names k a.0.event) h.is (r.event j a.0 h.edge a.1 h.one.stands),
      record { edge = a.0; one = record { place = j; stands = a.1 }; is = refl },
    )

-- where the old tree has the event, the new one has its number
pub new_event : (names : List EventId) (old new : NumberedTree) → IsRenumbered names old new → (e : ℕ) → TreeHasEvent old e
    → (i : ℕ) × (n : EventId) × Stands names i n × (n.n ≡ e) × TreeHasEvent new i
new_event names old new r e h =
    let j = h.one.place in
    let b = stands_some (edges_of new) j
    (let w = stands_within (edges_of old) j h.edge h.one.stands in omega (arith, w, r.long)) in (
      b.0.event.n,
      h.edge.event,
      r.event j h.edge b.0 h.one.stands b.1,
      h.is,
      record { edge = b.0; one = record { place = j; stands = b.1 }; is = refl },
    )

pub new_named : (names : List EventId) (old new : NumberedTree) → IsRenumbered names old new → (e : ℕ) → TreeHasEvent old e
    → IsNamed names e
new_named names old new r e h =
    let w = new_event names old new r e h in record { number = w.0; name = w.1; stands = w.2; is = w.3 }

pub event_below : (names : List EventId) (olds news : List NumberedTree) → AreRenumbered names olds news → (k : ℕ)
    (new : NumberedTree) → Stands news k new → (i : ℕ) → TreeHasEvent new i → i < length names
event_below names olds news r k new st i h =
    let w = along_back r.places news r.trees k new st in
    let x = old_event names w.2.old new w.2.is i h in
    stands_within names i x.0 x.1

-- ---- no trees
pub renumbered_none : (olds : List NumberedTree) → AreRenumbered [] olds []
renumbered_none olds = record {
  places = [];
  once = record { one = λ m n a p q. absurd (stands_none m a p) };
  trees = none;
  used = λ i n st. absurd (stands_none i n st);
  distinct = record { one = λ i j m n p q e. absurd (stands_none i m p) };
  ascend = record { each = λ j k s t l sj sk. absurd (stands_none j s sj) };
}

-- ---- one tree more
module _ (names : List EventId) (olds news : List NumberedTree) (r : AreRenumbered names olds news) (place : ℕ)
    (old new : NumberedTree) (stands : Stands olds place old) (fresh : IsNew names old)
    (distinct : AreDistinct (names ++ events_of (edges_of old)))
    (is : IsRenumbered (names ++ events_of (edges_of old)) old new) (from : IsFrom (length names) new) where
  events : List EventId
  events = events_of (edges_of old)

  not_taken : (k p : ℕ) → Stands r.places k p → p ≡ place → ⊥
  not_taken k p st q =
      let w = along_on r.places news r.trees k p st in
      let same = stands_one olds place w.2.old old (subst (λ j. Stands olds j w.2.old) q w.2.stands) stands in
      fresh.none fresh.some fresh.has_some
      (new_named names old w.0 (subst (λ (t : NumberedTree). IsRenumbered names t w.0) same w.2.is) fresh.some
      fresh.has_some)

  new_used : (i k : ℕ) (n : EventId) → i ≡ length names + k → Stands (events_of (edges_of old)) k n → TreeHasEvent new i
  new_used i k n at st =
      let a = stands_map_back (λ (e : NumberedEdge). e.event) (edges_of old) k n st in
      let b = stands_some (edges_of new) k
      (let w = stands_within (edges_of old) k a.0 a.1 in omega (arith, w, is.long)) in record {
        edge = b.0;
        one = record { place = k; stands = b.1 };
        is = from.each k b.0 b.1 ∙ sym at;
      }

  used : (i : ℕ) (n : EventId) → Stands (names ++ events_of (edges_of old)) i n
      → (k : ℕ) × (t : NumberedTree) × Stands (news ++ new ∷ []) k t × TreeHasEvent t i
  used i n st = ⊎_elim
      (λ l. let w = r.used i n l in (w.0, w.1, stands_left news (new ∷ []) w.0 w.1 w.2, w.3))
      (λ m. (length news, new, stands_next news new [], new_used i m.0 n m.1 m.2))
      (stands_split names (events_of (edges_of old)) i n st)

  new_above : (b : ℕ) → TreeHasEvent new b → length names ≤ b
  new_above b h = let e = from.each h.one.place h.edge h.one.stands in omega (arith, e, h.is)

  before : (j k : ℕ) (s t : NumberedTree) → j < k → Stands news j s ⊎ ((m : ℕ) × (j ≡ length news + m) × Stands (new ∷ []) m s)
      → Stands news k t ⊎ ((m : ℕ) × (k ≡ length news + m) × Stands (new ∷ []) m t) → IsTreeBefore s t
  before j k s t l (inl a) (inl b) = r.ascend.each j k s t l a b
  before j k s t l (inl a) (inr b) =
      let n = (stands_alone new b.0 t b.2).1 in record {
        each = λ x y hx hy.
            let low = event_below names olds news r j s a x hx in
            let high = new_above y (subst (λ (z : NumberedTree). TreeHasEvent z y) n hy) in
            omega (arith, low, high);
      }
  before j k s t l (inr a) (inl b) =
      let w = stands_within news k t b in
      let wrong : ⊥ = omega (arith, l, w, a.1) in absurd wrong
  before j k s t l (inr a) (inr b) =
      let m = (stands_alone new a.0 s a.2).0 in
      let n = (stands_alone new b.0 t b.2).0 in
      let wrong : ⊥ = omega (arith, l, m, n, a.1, b.1) in absurd wrong

  pub renumbered_more : AreRenumbered (names ++ events_of (edges_of old)) olds (news ++ new ∷ [])
  renumbered_more = record {
    places = r.places ++ place ∷ [];
    once = different_more r.places place r.once (record { has_not = λ k p st q. not_taken k p st q });
    trees = along_push r.places news place new
        (along_as (λ p t x. at_grows names (events_of (edges_of old)) olds p t x) r.places news r.trees)
        (record { old = old; stands = stands; is = is });
    used = used;
    distinct = distinct;
    ascend = record {
      each = λ j k s t l sj sk. before j k s t l (stands_split news (new ∷ []) j s sj) (stands_split news (new ∷ []) k t sk);
    };
  }

-- ---- edge after edge
-- the first so many edges over new numbers
pub record IsRenumbering (names : List EventId) (old : NumberedTree) (count : ℕ) (now : List EventId)
    (made : List NumberedEdge) : Type 0 where
  pub long : length made ≡ count
  pub from : (j : ℕ) (a b : NumberedEdge) → Stands (edges_of old) j a → Stands made j b → b.from ≡ a.from
  pub event : (j : ℕ) (a b : NumberedEdge) → Stands (edges_of old) j a → Stands made j b → Stands now b.event.n a.event
  pub next : (j : ℕ) (b : NumberedEdge) → Stands made j b → b.event.n ≡ length names + j

pub renumbering_none : (names : List EventId) (old : NumberedTree) → IsRenumbering names old 0 names []
renumbering_none names old = record {
  long = refl;
  from = λ j a b p q. absurd (stands_none j b q);
  event = λ j a b p q. absurd (stands_none j b q);
  next = λ j b q. absurd (stands_none j b q);
}

module _ (names : List EventId) (old : NumberedTree) (count : ℕ) (now : List EventId) (made : List NumberedEdge)
    (r : IsRenumbering names old count now made) (a : NumberedEdge) (at : Stands (edges_of old) count a)
    (long : length now ≡ length names + count) (b : NumberedEdge) (event : b.event.n ≡ length now)
    (from : b.from ≡ a.from) where
  same_edge : (j k : ℕ) (x : NumberedEdge) → Stands (edges_of old) j x → j ≡ length made + k → k ≡ 0 → x ≡ a
  same_edge j k x p q z =
      let here : j ≡ count = omega (arith, q, z, r.long) in
      stands_one (edges_of old) count x a (subst (λ n. Stands (edges_of old) n x) here p) at

  pub renumbering_more : IsRenumbering names old (count + 1) (now ++ a.event ∷ []) (made ++ b ∷ [])
  renumbering_more = record {
    long = length-last made b ∙ ap (λ n. n + 1) r.long;
    from = λ j x y p q. ⊎_elim
        (λ l. r.from j x y p l)
        (λ m. let one = stands_alone b m.0 y m.2 in
        ap (λ (z : NumberedEdge). z.from) one.1 ∙ from
        ∙ ap (λ (z : NumberedEdge). z.from) (sym (same_edge j m.0 x p m.1 one.0)))
        (stands_split made (b ∷ []) j y q);
    event = λ j x y p q. ⊎_elim
        (λ l. stands_left now (a.event ∷ []) y.event.n x.event (r.event j x y p l))
        (λ m. let one = stands_alone b m.0 y m.2 in
        subst (λ (z : NumberedEdge). Stands (now ++ a.event ∷ []) y.event.n z.event)
        (sym (same_edge j m.0 x p m.1 one.0))
        (subst (λ n. Stands (now ++ a.event ∷ []) n a.event)
        (sym (ap (λ (z : NumberedEdge). z.event.n) one.1 ∙ event)) (stands_next now a.event [])))
        (stands_split made (b ∷ []) j y q);
    next = λ j y q. ⊎_elim
        (λ l. r.next j y l)
        (λ m. let one = stands_alone b m.0 y m.2 in
        let e = ap (λ (z : NumberedEdge). z.event.n) one.1 in
        omega (arith, e, event, long, m.1, one.0, r.long))
        (stands_split made (b ∷ []) j y q);
  }
    where
      length-last : (xs : List NumberedEdge) (x : NumberedEdge) → length (xs ++ x ∷ []) ≡ length xs + 1
      length-last xs x = omega (arith, length-append xs (x ∷ []))

pub renumbered_all : (names : List EventId) (old : NumberedTree) (count : ℕ) (now : List EventId) (made : List NumberedEdge)
    (new : NumberedTree) → edges_of new ≡ made → length (edges_of old) ≤ count → count ≤ length (edges_of old)
    → IsRenumbering names old count now made → IsRenumbered now old new × IsFrom (length names) new
renumbered_all names old count now made new is high low r = (
  record {
    long = ap length is ∙ omega (arith, r.long, high, low);
    from = λ j a b p q. r.from j a b p (subst (λ z. Stands z j b) is q);
    event = λ j a b p q. r.event j a b p (subst (λ z. Stands z j b) is q);
    start = length names;
    next = λ j b q. r.next j b (subst (λ z. Stands z j b) is q);
  },
  record { each = λ j b q. r.next j b (subst (λ z. Stands z j b) is q) },
)
