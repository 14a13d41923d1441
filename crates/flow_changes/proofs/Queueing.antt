-- Places that are taken and added.
use Rattle.std.proofs.Common.{◌≡◌, ℕ, zero, suc, ◌+◌, ◌<◌, ◌≤◌, ◌⊎◌, inl, inr, List, length, take, refl, sym, ap, ◌∙◌, subst, arith, take_all}
use Rattle.std.proofs.lemmas.Bool.{cases_eq}
use Rattle.std.specs.BTreeSet.{btree_set_len}
use Rattle.ar_base.specs.Lists.{Stands, IsOneOf}
use Rattle.ar_base.proofs.Standing.{stands_within, stands_one, one_none}
use Rattle.ar_base.proofs.Comparing.{side}
use Rattle.flow_propagate.specs.Plan.{Reader}
use Rattle.flow_propagate.specs.Closing.{IsAddedAgain}
use Rattle.flow_changes.specs.Queue.{NeverFalls, IsLater, PlaceWaits, IsQueue, TakesPlace, AddsPlaces, IsPairPlace}
use Rattle.flow_changes.specs.declared.queue.Queue.{Queue}
use Rattle.flow_changes.proofs.Picks.{one_taken}

-- a place of the list that is not less than the next one was not taken
pub later_there : (list : List ℕ) (next q a : ℕ) → NeverFalls list → IsOneOf list q → Stands list next a → a ≤ q
    → IsLater list next q
later_there list next q a r o s h = go (side next o.place)
  where
    go : (next ≤ o.place) ⊎ (o.place < next) → IsLater list next q
    go (inl l) = record { at = o.place; later = l; stands = o.stands }
    go (inr l) =
        let k : q ≤ a = r o.place next q a (omega (arith, l)) o.stands s in
        let e : a ≡ q = omega (arith, h, k) in
        record { at = next; later = omega arith; stands = subst (λ (z : ℕ). Stands list next z) e s }

-- the next place of the list was taken
module _ (work new : Queue) (is : IsQueue work) (same : new.list.items ≡ work.list.items)
    (again : (q : ℕ) → IsAddedAgain work.again q → ⊥) (none : (q : ℕ) → IsAddedAgain new.again q → ⊥)
    (few : btree_set_len work.again ≡ btree_set_len new.again)
    (more : new.next ≡ work.next + 1) (place : ℕ) (st : Stands work.list.items work.next place) where
  below : work.next < length work.list.items
  below = stands_within work.list.items work.next place st

  left : (q : ℕ) → (l : IsLater work.list.items work.next q) → (l.at ≡ work.next) ⊎ (l.at ≡ work.next → ⊥)
      → (q ≡ place) ⊎ PlaceWaits new q
  left q l (inl e) = inl (stands_one work.list.items work.next q place
      (subst (λ (z : ℕ). Stands work.list.items z q) e l.stands) st)
  left q l (inr f) = inr (inl (record { at = l.at; later = (let h = l.later in grind (arith, h, f, more)); stands = subst (λ (z : List ℕ). Stands z l.at q) (sym same) l.stands }))

  pub takes_next : TakesPlace place work new
  takes_next = record {
    is = record {
      reached = (let l = ap (λ (z : List ℕ). length z) same in omega (arith, below, more, l));
      rises = subst NeverFalls (sym same) is.rises;
      within = λ q h. absurd (none q h);
    };
    same = same;
    one = record { place = work.next; stands = st };
    less = (let l = ap (λ (z : List ℕ). length z) same in omega (arith, below, more, l, few));
    others = λ q w. elim w [ inl l ↦ left q l (cases_eq l.at work.next) | inr h ↦ absurd (again q h) ];
  }

-- a place that was added again was taken
pub takes_again : (place : ℕ) (work new : Queue) → IsQueue work → new.list.items ≡ work.list.items
    → new.next ≡ work.next → IsAddedAgain work.again place
    → ((q : ℕ) → IsAddedAgain new.again q → IsAddedAgain work.again q)
    → ((q : ℕ) → IsAddedAgain work.again q → (q ≡ place → ⊥) → IsAddedAgain new.again q)
    → btree_set_len work.again ≡ btree_set_len new.again + 1 → TakesPlace place work new
takes_again place work new is same next one only kept less = record {
  is = record {
    reached = (let l = ap (λ (z : List ℕ). length z) same in let r = is.reached in omega (arith, r, next, l));
    rises = subst NeverFalls (sym same) is.rises;
    within = λ q h. subst (λ (z : List ℕ). IsOneOf z q) (sym same) (is.within q (only q h));
  };
  same = same;
  one = is.within place one;
  less = (let l = ap (λ (z : List ℕ). length z) same in omega (arith, next, l, less));
  others = λ q w. elim w [
    | inl l ↦ inr (inl (record { at = l.at; later = (let h = l.later in omega (arith, h, next)); stands = subst (λ (z : List ℕ). Stands z l.at q) (sym same) l.stands }))
    | inr h ↦ (elim (cases_eq q place) [ inl e ↦ inl e | inr f ↦ inr (inr (kept q h f)) ])
  ];
}

-- where all were taken none waits
pub none_waits : (work : Queue) → length work.list.items ≤ work.next → ((q : ℕ) → IsAddedAgain work.again q → ⊥) → (q : ℕ)
    → PlaceWaits work q → ⊥
none_waits work h none q (inl l) = let b = stands_within work.list.items l.at q l.stands in let k = l.later in omega (arith, h, b, k)
none_waits work h none q (inr k) = none q k

-- a place that waits was added
pub adds_waiting : (place : ℕ) (work : Queue) → IsQueue work → IsLater work.list.items work.next place
    → AddsPlaces 1 (λ q. q ≡ place) work work
adds_waiting place work is l = record {
  is = is;
  same = refl;
  few = omega arith;
  keeps = λ q w. w;
  adds = λ q e. inl (subst (λ (z : ℕ). IsLater work.list.items work.next z) (sym e) l);
}

pub adds_again : (place : ℕ) (work new : Queue) → IsQueue work → new.list.items ≡ work.list.items → new.next ≡ work.next
    → IsOneOf work.list.items place
    → ((q : ℕ) → IsAddedAgain new.again q → IsAddedAgain work.again q ⊎ (q ≡ place))
    → ((q : ℕ) → IsAddedAgain work.again q ⊎ (q ≡ place) → IsAddedAgain new.again q)
    → btree_set_len new.again ≤ btree_set_len work.again + 1 → AddsPlaces 1 (λ q. q ≡ place) work new
adds_again place work new is same next one only all few = record {
  is = record {
    reached = (let l = ap (λ (z : List ℕ). length z) same in let r = is.reached in omega (arith, r, next, l));
    rises = subst NeverFalls (sym same) is.rises;
    within = λ q h. subst (λ (z : List ℕ). IsOneOf z q) (sym same)
        (elim (only q h) [ inl k ↦ is.within q k | inr e ↦ subst (λ (z : ℕ). IsOneOf work.list.items z) (sym e) one ]);
  };
  same = same;
  few = (let l = ap (λ (z : List ℕ). length z) same in omega (arith, next, l, few));
  keeps = λ q w. elim w [
    | inl l ↦ inl (record { at = l.at; later = (let h = l.later in omega (arith, h, next)); stands = subst (λ (z : List ℕ). Stands z l.at q) (sym same) l.stands })
    | inr h ↦ inr (all q (inl h))
  ];
  adds = λ q e. inr (all q (inr e));
}

pub adds_none : (places : List ℕ) (pairs : List Reader) (work : Queue) → IsQueue work
    → AddsPlaces 0 (IsPairPlace places (take 0 pairs)) work work
adds_none places pairs work is = record
    { is = is; same = refl; few = omega arith; keeps = λ q w. w; adds = λ q h. absurd (one_none h.pair h.is_one) }

pub adds_more : (places : List ℕ) (pairs : List Reader) (i : ℕ) (r : Reader) (place : ℕ) (old mid new : Queue)
    → Stands pairs i r → Stands places r.1.n place → AddsPlaces i (IsPairPlace places (take i pairs)) old mid
    → AddsPlaces 1 (λ q. q ≡ place) mid new
    → AddsPlaces (i + 1) (IsPairPlace places (take (i + 1) pairs)) old new
adds_more places pairs i r place old mid new st sp a b = record {
  is = b.is;
  same = b.same ∙ a.same;
  few = (let f = a.few in let g = b.few in omega (arith, f, g));
  keeps = λ q w. b.keeps q (a.keeps q w);
  adds = λ q h. elim (one_taken pairs i r h.pair st h.is_one) [
    | inl o ↦ b.keeps q (a.adds q (record { pair = h.pair; is_one = o; stands = h.stands }))
    | inr e ↦ b.adds q (stands_one places r.1.n q place (subst (λ (z : Reader). Stands places z.1.n q) (sym e) h.stands)
        sp)
  ];
}

pub adds_done : (places : List ℕ) (pairs : List Reader) (i : ℕ) (old new : Queue) → length pairs ≤ i → i ≤ length pairs
    → AddsPlaces i (IsPairPlace places (take i pairs)) old new
    → AddsPlaces (length pairs) (IsPairPlace places pairs) old new
adds_done places pairs i old new h k a = record {
  is = a.is;
  same = a.same;
  few = (let f = a.few in omega (arith, f, k));
  keeps = a.keeps;
  adds = λ q p. a.adds q (record {
    pair = p.pair;
    is_one = subst (λ (z : List Reader). IsOneOf z p.pair) (sym (take_all i pairs h)) p.is_one;
    stands = p.stands;
  });
}

-- what stands for no pair where a list of pairs is read
abbrev pub no_reader : Reader
no_reader = (record { n = 0; of = record {} }, record { n = 0; of = record {} })
