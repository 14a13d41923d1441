-- The places of the assignments to the members.
use Rattle.std.proofs.Common.{◌≡◌, ℕ, ◌+◌, ◌≤◌, inl, inr, List, [], ◌∷◌, ◌++◌, take, length, sym, subst, take_all}
use Rattle.std.specs.List.Sorted.{IsPermutation}
use Rattle.ar_base.specs.Lists.{Stands, IsOneOf}
use Rattle.ar_base.proofs.Standing.{stands_one, one_none, one_first, one_left, one_right, one_split, only_item}
use Rattle.flow_propagate.specs.Plan.{Reader}
use Rattle.flow_changes.specs.Gathering.{GathersPlaces, ArePlacesTo}
use Rattle.flow_changes.proofs.Picks.{one_taken, one_before, one_now}
use Rattle.flow_changes.proofs.Sorting.{one_moved, one_back}

pub gathers_none : (places : List ℕ) (pairs : List Reader) (old : List ℕ) → GathersPlaces places (take 0 pairs) old old
gathers_none places pairs old = record
    { grows = λ q o. o; only = λ q o. inl o; all = λ q h. absurd (one_none h.pair h.is_one) }

pub gathers_next : (places : List ℕ) (pairs : List Reader) (i : ℕ) (r : Reader) (q : ℕ) (old mid new : List ℕ)
    → Stands pairs i r → Stands places r.1.n q → new ≡ mid ++ q ∷ [] → GathersPlaces places (take i pairs) old mid
    → GathersPlaces places (take (i + 1) pairs) old new
gathers_next places pairs i r q old mid new st sq e g =
    subst (λ (z : List ℕ). GathersPlaces places (take (i + 1) pairs) old z) (sym e) (record {
      grows = λ k o. one_left mid (q ∷ []) k (g.grows k o);
      only = λ k o. elim (one_split mid (q ∷ []) k o) [
        | inl h ↦ (elim (g.only k h) [
          | inl a ↦ inl a
          | inr b ↦ inr (record { pair = b.pair; is_one = one_before pairs i r b.pair st b.is_one; stands = b.stands })
        ])
        | inr h ↦ inr (record {
          pair = r;
          is_one = one_now pairs i r st;
          stands = subst (λ (z : ℕ). Stands places r.1.n z) (only_item q k h) sq;
        })
      ];
      all = λ k h. elim (one_taken pairs i r h.pair st h.is_one) [
        | inl o ↦ one_left mid (q ∷ []) k (g.all k (record { pair = h.pair; is_one = o; stands = h.stands }))
        | inr j ↦ (
            let same : q ≡ k = stands_one places r.1.n q k sq
            (subst (λ (z : Reader). Stands places z.1.n k) (sym j) h.stands) in
            subst (λ (z : ℕ). IsOneOf (mid ++ q ∷ []) z) same (one_right mid (q ∷ []) q (one_first q [])))
      ];
    })

pub gathers_done : (places : List ℕ) (pairs : List Reader) (i : ℕ) (old new : List ℕ) → length pairs ≤ i
    → GathersPlaces places (take i pairs) old new → GathersPlaces places pairs old new
gathers_done places pairs i old new h g =
    subst (λ (z : List Reader). GathersPlaces places z old new) (take_all i pairs h) g

module _ (givers : List Reader) (places members : List ℕ) where
  pub places_none : ArePlacesTo givers places (take 0 members) []
  places_none = record { only = λ q o. absurd (one_none q o); all = λ q h. absurd (one_none h.pair.0.n h.member) }

  pub places_next : (i n : ℕ) (run : List Reader) (old new : List ℕ) → Stands members i n
      → ((r : Reader) → IsOneOf run r → IsOneOf givers r)
      → ((r : Reader) → IsOneOf givers r → r.0.n ≡ n → IsOneOf run r) → ((r : Reader) → IsOneOf run r → r.0.n ≡ n)
      → GathersPlaces places run old new → ArePlacesTo givers places (take i members) old
      → ArePlacesTo givers places (take (i + 1) members) new
  places_next i n run old new st among all exact g a = record {
    only = λ q o. elim (g.only q o) [
      | inl h ↦ (let b = a.only q h in record { pair = b.pair; is_one = b.is_one; member = one_before members i n b.pair.0.n st b.member; stands = b.stands })
      | inr h ↦ record {
        pair = h.pair;
        is_one = among h.pair h.is_one;
        member = subst (λ (z : ℕ). IsOneOf (take (i + 1) members) z) (sym (exact h.pair h.is_one))
            (one_now members i n st);
        stands = h.stands;
      }
    ];
    all = λ q h. elim (one_taken members i n h.pair.0.n st h.member) [
      | inl o ↦ g.grows q (a.all q (record { pair = h.pair; is_one = h.is_one; member = o; stands = h.stands }))
      | inr e ↦ g.all q (record { pair = h.pair; is_one = all h.pair h.is_one (sym e); stands = h.stands })
    ];
  }

  pub places_done : (i : ℕ) (list : List ℕ) → length members ≤ i → ArePlacesTo givers places (take i members) list
      → ArePlacesTo givers places members list
  places_done i list h a = subst (λ (z : List ℕ). ArePlacesTo givers places z list) (take_all i members h) a

  pub places_moved : (list sorted : List ℕ) → IsPermutation list sorted → ArePlacesTo givers places members list
      → ArePlacesTo givers places members sorted
  places_moved list sorted perm a = record
      { only = λ q o. a.only q (one_back list sorted q perm o); all = λ q h. one_moved list sorted q perm (a.all q h) }
