-- What events share, one live edge after the other.
use Rattle.std.proofs.Common.{◌≡◌, ◌<◌, ◌+◌, ℕ, zero, suc, ◌⊎◌, inl, inr, Bool, true, false, cond, nat_lt, List, [], ◌∷◌, ◌++◌, length, get_or, set, Option, Some, None, refl, sym, ap, ◌∙◌, subst, arith}
use Rattle.std.proofs.lemmas.Bool.{cases_eq, ltb-false}
use Rattle.std.proofs.lemmas.List.{length-set}
use Rattle.ar_base.specs.Lists.{Stands}
use Rattle.ar_base.specs.NumbersInside.{EventId}
use Rattle.ar_base.proofs.Standing.{stands_one, stands_none, stands_left, stands_split, stands_next, at_most, stands_get}
use Rattle.ar_base.proofs.Comparing.{low, three}
use Rattle.mode_search.specs.Events.{IsLeastNumber}
use Rattle.mode_search.proofs.Reading.{stands_set_other, stands_set_same, stands_repeat, long_repeat}
use Rattle.mode_search.specs.declared.listing.Live.{Live}
use Rattle.mode_search.specs.declared.sharing.Sharing.{Sharing}
use Rattle.mode_search.specs.Sharing.{IsFirstOf, HasFirstLive, IsEventKnown, IsShared, lesser_found, IsLiveIn, IsSharing, IsEmptySharing, Notes, again, fresh}

least_lesser : (P Q : ℕ → Type 0) (v : ℕ) (old : Option ℕ) → IsLeastNumber P old → ((n : ℕ) → Q n → P n ⊎ (n ≡ v))
    → ((n : ℕ) → P n → Q n) → Q v → IsLeastNumber Q (Some (lesser_found old v))
least_lesser P Q v None h split grow here =
    (here, λ n q. elim (split n q) [ inl p ↦ absurd (h n p) | inr e ↦ omega arith ])
least_lesser P Q v (Some m) h split grow here = by (nat_lt v m) cc
  where
    by : (c : Bool) → nat_lt v m ≡ c → IsLeastNumber Q (Some (cond c v m))
    by true t = (here, λ n q. elim (split n q) [ inl p ↦ (let u = h.1 n p in let w = low v m t in omega arith) | inr e ↦ omega arith ])
    by false t = (grow m h.0, λ n q. elim (split n q) [ inl p ↦ h.1 n p | inr e ↦ (let w = ltb-false v m t in omega arith) ])

least_same : (P Q : ℕ → Type 0) (old : Option ℕ) → IsLeastNumber P old → ((n : ℕ) → Q n → P n) → ((n : ℕ) → P n → Q n)
    → IsLeastNumber Q old
least_same P Q None h back grow = λ n q. h n (back n q)
least_same P Q (Some m) h back grow = (grow m h.0, λ n q. h.1 n (back n q))

module _ (events : ℕ) (live : List Live) where
  pub sharing_start : (s : Sharing) → IsEmptySharing events s → IsSharing events live 0 s
  sharing_start s h = record {
    long = ap length h.firsts ∙ long_repeat events None;
    firsts = λ e o st. subst (λ (z : Option ℕ). IsEventKnown live 0 e z)
        (sym (stands_repeat events e None o (subst (λ (z : List (Option ℕ)). Stands z e o) h.firsts st)))
        (λ k l b. absurd (omega arith));
    sound = λ k e st. absurd (stands_none k e (subst (λ (z : List EventId). Stands z k e) h.events st));
    whole = λ k l b. absurd (omega arith);
    different = λ j k d e p q. absurd (stands_none j d (subst (λ (z : List EventId). Stands z j d) h.events p));
    least = subst (λ (z : Option ℕ). IsLeastNumber (IsShared live 0) z) (sym h.least) (λ n q. omega (arith, q.below));
  }

  first_grows : (i e n : ℕ) → HasFirstLive live i e n → HasFirstLive live (i + 1) e n
  first_grows i e n h = record { place = h.place; below = omega (arith, h.below); first = h.first; number = h.number }

  shared_grows : (i n : ℕ) → IsShared live i n → IsShared live (i + 1) n
  shared_grows i n h = record {
    event = h.event;
    first = record {
      place = h.first.place;
      below = omega (arith, h.first.below);
      first = h.first.first;
      number = h.first.number;
    };
    place = h.place;
    below = omega (arith, h.below);
    after = h.after;
    second = h.second;
    stands = h.stands;
    is_event = h.is_event;
  }

  live_grows : (i : ℕ) (e : EventId) → IsLiveIn live i e → IsLiveIn live (i + 1) e
  live_grows i e h = record {
    place = h.place;
    below = omega (arith, h.below);
    live_edge = h.live_edge;
    stands = h.stands;
    is_event = h.is_event;
  }

  -- the first live edges of one event stand at one place
  one_first : (e : ℕ) (m n : ℕ) (h : HasFirstLive live m e n) (k : ℕ) → IsFirstOf live e k → h.place ≡ k
  one_first e m n h k f = by (three h.place k)
    where
      by : (h.place < k) ⊎ ((h.place ≡ k) ⊎ (k < h.place)) → h.place ≡ k
      by (inl l) = absurd (f.before h.place h.first.live_edge l h.first.stands h.first.is_event)
      by (inr (inl i)) = i
      by (inr (inr l)) = absurd (h.first.before k f.live_edge l f.stands f.is_event)

  module _ (i : ℕ) (one : Live) (st : Stands live i one) (old new : Sharing) (s : IsSharing events live i old) where
    this : (l : Live) (k : ℕ) → k ≡ i → Stands live k l → l ≡ one
    this l k e t = stands_one live i l one (subst (λ (z : ℕ). Stands live z l) e t) st

    known_on : (e : ℕ) (o : Option ℕ) → (one.edge.event.n ≡ e → o ≡ None → ⊥) → IsEventKnown live i e o
        → IsEventKnown live (i + 1) e o
    known_on e None d h = λ k l b t q. elim (at_most k i b) [
      | inl u ↦ h k l u t q
      | inr u ↦ d (sym (ap (λ (z : Live). z.edge.event.n) (this l k u t)) ∙ q) refl
    ]
    known_on e (Some n) d h = first_grows i e n h

    -- a pair that ends at the new edge begins at the first of its event
    shared_cases : (n : ℕ) → IsShared live (i + 1) n → IsShared live i n ⊎ HasFirstLive live i one.edge.event.n n
    shared_cases n q = elim (at_most q.place i q.below) [
      | inl u ↦ inl (record {
        event = q.event;
        first = record {
          place = q.first.place;
          below = omega (arith, q.after);
          first = q.first.first;
          number = q.first.number;
        };
        place = q.place;
        below = u;
        after = q.after;
        second = q.second;
        stands = q.stands;
        is_event = q.is_event;
      })
      | inr u ↦ (let e : q.event ≡ one.edge.event.n = sym q.is_event ∙ ap (λ (z : Live). z.edge.event.n) (this q.second q.place u q.stands) in
          inr (subst (λ (z : ℕ). HasFirstLive live i z n) e
          (record {
            place = q.first.place;
            below = omega (arith, q.after);
            first = q.first.first;
            number = q.first.number;
          })))
    ]

    noted_again : (v : ℕ) → Stands old.firsts.items one.edge.event.n (Some v) → new.firsts.items ≡ old.firsts.items
        → new.events.items ≡ old.events.items → new.least ≡ Some (lesser_found old.least v)
        → IsSharing events live (i + 1) new
    noted_again v sv ef ee el =
        let has = s.firsts one.edge.event.n (Some v) sv in record {
          long = ap length ef ∙ s.long;
          firsts = λ e o t. let told_there = subst (λ (z : List (Option ℕ)). Stands z e o) ef t in
              known_on e o (λ d n. let u = stands_one old.firsts.items e (Some v) o (subst (λ (z : ℕ). Stands old.firsts.items z (Some v)) d sv) told_there in cc) (s.firsts e o told_there);
          sound = λ k e t. live_grows i e (s.sound k e (subst (λ (z : List EventId). Stands z k e) ee t));
          whole = λ k l b t. subst (λ (z : List EventId). (j : ℕ) × (e : EventId) × Stands z j e
              × (e.n ≡ l.edge.event.n)) (sym ee) (elim (at_most k i b) [
                | inl u ↦ s.whole k l u t
                | inr u ↦ (let w = s.whole has.place has.first.live_edge has.below has.first.stands in
                    (w.0, w.1, w.2, w.3 ∙ has.first.is_event ∙ sym (ap (λ (z : Live). z.edge.event.n) (this l k u t))))
              ]);
          different = λ j k d e p q. s.different j k d e (subst (λ (z : List EventId). Stands z j d) ee p)
              (subst (λ (z : List EventId). Stands z k e) ee q);
          least = subst (λ (z : Option ℕ). IsLeastNumber (IsShared live (i + 1)) z) (sym el)
              (least_lesser (IsShared live i) (IsShared live (i + 1)) v old.least s.least
              (λ n q. elim (shared_cases n q) [
                | inl h ↦ inl h
                | inr h ↦ inr (sym h.number ∙ ap (λ (z : Live). z.variable.n) (same_edge h has) ∙ has.number)
              ])
              (shared_grows i)
              (record {
                event = one.edge.event.n;
                first = record {
                  place = has.place;
                  below = omega (arith, has.below);
                  first = has.first;
                  number = has.number;
                };
                place = i;
                below = omega arith;
                after = has.below;
                second = one;
                stands = st;
                is_event = refl;
              }));
        }
      where
        same_edge : {m n : ℕ} (h : HasFirstLive live i one.edge.event.n m) (k : HasFirstLive live i one.edge.event.n n)
            → h.first.live_edge ≡ k.first.live_edge
        same_edge {m = m} h k =
            let at = one_first one.edge.event.n i m h k.place k.first in
            stands_one live k.place h.first.live_edge k.first.live_edge
            (subst (λ (z : ℕ). Stands live z h.first.live_edge) at h.first.stands) k.first.stands

    noted_fresh : Stands old.firsts.items one.edge.event.n None
        → new.firsts.items ≡ set old.firsts.items one.edge.event.n (Some one.variable.n)
        → new.events.items ≡ old.events.items ++ one.edge.event ∷ [] → new.least ≡ old.least
        → IsSharing events live (i + 1) new
    noted_fresh sn ef ee el =
        let none = s.firsts one.edge.event.n None sn in record {
          long = ap length ef ∙ length-set old.firsts.items one.edge.event.n (Some one.variable.n) ∙ s.long;
          firsts = λ e o t. let t2 = subst (λ (z : List (Option ℕ)). Stands z e o) ef t in elim (cases_eq e one.edge.event.n) [
            | inl same ↦ (let u : o ≡ Some one.variable.n = stands_set_same old.firsts.items one.edge.event.n (Some one.variable.n) o (subst (λ (z : ℕ). Stands (set old.firsts.items one.edge.event.n (Some one.variable.n)) z o) same t2) in
                subst (λ (z : Option ℕ). IsEventKnown live (i + 1) e z) (sym u)
                (record {
                  place = i;
                  below = omega arith;
                  first = record {
                    live_edge = one;
                    stands = st;
                    is_event = sym same;
                    before = λ k l b q r. none k l b q (r ∙ same);
                  };
                  number = refl;
                }))
            | inr d ↦ known_on e o (λ x n. d (sym x))
                (s.firsts e o (stands_set_other old.firsts.items one.edge.event.n e (Some one.variable.n) o d t2))
          ];
          sound = λ k e t. sound_by k e (stands_split old.events.items (one.edge.event ∷ []) k e
              (subst (λ (z : List EventId). Stands z k e) ee t));
          whole = λ k l b t. subst (λ (z : List EventId). (j : ℕ) × (e : EventId) × Stands z j e
              × (e.n ≡ l.edge.event.n)) (sym ee) (elim (at_most k i b) [
                | inl u ↦ (let w = s.whole k l u t in (w.0, w.1, stands_left old.events.items (one.edge.event ∷ []) w.0 w.1 w.2, w.3))
                | inr u ↦ (
                  length old.events.items,
                  one.edge.event,
                  stands_next old.events.items one.edge.event [],
                  sym
                      (ap (λ (z : Live). z.edge.event.n) (this l k u t)),
                )
              ]);
          different = λ j k d e p q x. different_by none j k d e
              (stands_split old.events.items (one.edge.event ∷ []) j d
              (subst (λ (z : List EventId). Stands z j d) ee p))
              (stands_split old.events.items (one.edge.event ∷ []) k e
              (subst (λ (z : List EventId). Stands z k e) ee q)) x;
          least = subst (λ (z : Option ℕ). IsLeastNumber (IsShared live (i + 1)) z) (sym el)
              (least_same (IsShared live i) (IsShared live (i + 1)) old.least s.least
              (λ n q. elim (shared_cases n q) [
                | inl h ↦ h
                | inr h ↦ absurd (none h.place h.first.live_edge h.below h.first.stands h.first.is_event)
              ])
              (shared_grows i));
        }
      where
        last : (k : ℕ) (e : EventId) → Stands (one.edge.event ∷ []) k e → (k ≡ 0) × (one.edge.event ≡ e)
        last zero e t = (refl, cc)
        last (suc k) e t = absurd (stands_none k e t)

        sound_by : (k : ℕ) (e : EventId) → Stands old.events.items k e
            ⊎ ((j : ℕ) × (k ≡ length old.events.items + j) × Stands (one.edge.event ∷ []) j e) → IsLiveIn live (i + 1) e
        sound_by k e (inl t) = live_grows i e (s.sound k e t)
        sound_by k e (inr t) = record {
          place = i;
          below = omega arith;
          live_edge = one;
          stands = st;
          is_event = (last t.0 e t.2).1;
        }

        no_old : (none : IsEventKnown live i one.edge.event.n None) (j : ℕ) (d : EventId) → Stands old.events.items j d
            → d.n ≡ one.edge.event.n → ⊥
        no_old none j d t x = let h = s.sound j d t in none h.place h.live_edge h.below h.stands (ap (λ (z : EventId). z.n) h.is_event ∙ x)

        different_by : (none : IsEventKnown live i one.edge.event.n None) (j k : ℕ) (d e : EventId)
            → Stands old.events.items j d ⊎ ((m : ℕ) × (j ≡ length old.events.items + m)
            × Stands (one.edge.event ∷ []) m d)
            → Stands old.events.items k e ⊎ ((m : ℕ) × (k ≡ length old.events.items + m)
            × Stands (one.edge.event ∷ []) m e) → d.n ≡ e.n → j ≡ k
        different_by none j k d e (inl p) (inl q) x = s.different j k d e p q x
        different_by none j k d e (inl p) (inr q) x =
            absurd (no_old none j d p (x ∙ sym (ap (λ (z : EventId). z.n) (last q.0 e q.2).1)))
        different_by none j k d e (inr p) (inl q) x =
            absurd (no_old none k e q (sym x ∙ sym (ap (λ (z : EventId). z.n) (last p.0 d p.2).1)))
        different_by none j k d e (inr p) (inr q) x = let u = (last p.0 d p.2).0 in let w = (last q.0 e q.2).0 in omega (arith, p.1, q.1)

    pub sharing_more : Notes one.edge.event one.variable.n old new → IsSharing events live (i + 1) new
    sharing_more (again {v = v} sv ef ee el) = noted_again v sv ef ee el
    sharing_more (fresh sn ef ee el) = noted_fresh sn ef ee el

-- one live edge more of a list
pub shared_more : (events : ℕ) (live : List Live) (i : ℕ) (d : Live) (old new : Sharing) → i < length live
    → IsSharing events live i old → Notes (get_or live i d).edge.event (get_or live i d).variable.n old new
    → IsSharing events live (i + 1) new
shared_more events live i d old new h s n =
    sharing_more events live i (get_or live i d) (stands_get live i d h) old new s n
