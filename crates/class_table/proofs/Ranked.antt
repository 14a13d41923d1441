-- How ranks are given, and what they tell.
use Rattle.std.proofs.Common.{◌≡◌, ℕ, zero, suc, ◌+◌, ◌<◌, ◌≤◌, inl, inr, List, [], ◌∷◌, ◌++◌, Vec, Global, false, length, set, get_or, replicate, Option, Some, None, is_some, option_to_list, IfSome, IfNone, refl, sym, ap, ◌∙◌, subst, arith, length-append}
use Rattle.std.proofs.lemmas.Option.{same_Some}
use Rattle.std.proofs.lemmas.List.{length-set, length-replicate}
use Rattle.std.proofs.lemmas.Bool.{cases_eq}
use Rattle.ar_base.specs.Lists.{Stands, IsOneOf}
use Rattle.ar_base.proofs.Comparing.{lt_or_same}
use Rattle.ar_base.proofs.Standing.{stands_none, stands_one, stands_within, one_left, one_right, one_split, one_first, one_none, only_item}
use Rattle.class_table.specs.Declaring.{Declared}
use Rattle.class_table.specs.Ranks.{HasRankTo, AreRanks, AreTurned, AddsSource, IsRanking, IsMarked, count_unranked, count_entries}
use Rattle.class_table.specs.Rows.{IsInRow, AreInnerBodies}
use Rattle.class_table.specs.Rules.{HasInside, IsWithin, itself, further}
use Rattle.class_table.proofs.Ordered.{Row, row_put, row_got, row_kept, got_stands}
use Rattle.class_table.proofs.Taken.{stands_set, set_there, set_kept}

-- what ranks tell

module _ (d : Declared) (rows : List (Vec ℕ Global)) (ranks : List (Option ℕ)) (inner : AreInnerBodies d rows)
    (are : AreRanks rows ranks) where
  rank_within : (a b s : ℕ) → IsWithin d a b → Stands ranks b (Some s) → HasRankTo ranks a s
  rank_within a b s itself t = record { rank = s; stands = t; at_most = omega arith }
  rank_within a b s (further c i w) t =
      let h = rank_within c b s w t in
      let k = are.each a c h.rank (inner.from a c i) h.stands in
      record { rank = k.rank; stands = k.stands; at_most = (let l = k.at_most in let m = h.at_most in omega (arith, l, m)) }

  one_rank : (a : ℕ) (r s : ℕ) → Stands ranks a (Some r) → Stands ranks a (Some s) → r ≡ s
  one_rank a r s t u = same_Some _ _ (stands_one ranks a (Some r) (Some s) t u)

  -- what is inside a body and has it inside has its rank
  pub ranks_same : (body class r s : ℕ) → Stands ranks body (Some r) → Stands ranks class (Some s) → HasInside d body class
      → IsWithin d class body → r ≡ s
  ranks_same body class r s t u i w =
      let h = rank_within class body r w t in
      let k = are.each body class s (inner.from body class i) u in
      let e = one_rank class h.rank s h.stands u in
      let f = one_rank body k.rank r k.stands t in
      let l = h.at_most in
      let m = k.at_most in
      omega (arith, l, m, e, f)

-- the rank is given to a number

pub unranked-set : (ranks : List (Option ℕ)) (b r : ℕ) → Stands ranks b None
    → count_unranked (set ranks b (Some r)) + 1 ≡ count_unranked ranks
unranked-set [] b r s = absurd (stands_none b None s)
unranked-set (None ∷ xs) zero r s = refl
unranked-set (Some q ∷ xs) zero r s = cc
unranked-set (None ∷ xs) (suc b) r s = ap (λ (n : ℕ). n + 1) (unranked-set xs b r s)
unranked-set (Some q ∷ xs) (suc b) r s = unranked-set xs b r s

module _ (now : ℕ) (ranks : List (Option ℕ)) (number : ℕ) (unranked : Stands ranks number None) where
  other : (a s : ℕ) → Stands ranks a (Some s) → a ≡ number → ⊥
  other a s t e =
      let h : None ≡ Some s = stands_one ranks number None (Some s) unranked (subst (λ (k : ℕ). Stands ranks k (Some s)) e t) in cc

  pub rank_kept : (a s : ℕ) → HasRankTo ranks a s → HasRankTo (set ranks number (Some now)) a s
  rank_kept a s h = record {
    rank = h.rank;
    stands = set_kept ranks number (Some now) a (Some h.rank) (other a h.rank h.stands) h.stands;
    at_most = h.at_most;
  }

  pub rank_given : HasRankTo (set ranks number (Some now)) number now
  rank_given = record {
    rank = now;
    stands = set_there ranks number (Some now) (stands_within ranks number None unranked);
    at_most = omega arith;
  }

  pub marked_kept : (a : ℕ) → IsMarked a now ranks → IsMarked a now (set ranks number (Some now))
  marked_kept a h l = rank_kept a now (h (let e = length-set ranks number (Some now) in omega (arith, l, e)))

  module _ (rows : List (Vec ℕ Global)) (open_ones more pending : List ℕ) (grown : more ≡ open_ones ++ number ∷ [])
      (h : IsRanking rows now ranks open_ones pending) where
    is_more : (b : ℕ) → IsOneOf (open_ones ++ number ∷ []) b → IsOneOf more b
    is_more b o = subst (λ (xs : List ℕ). IsOneOf xs b) (sym grown) o

    kept_there : (b : ℕ) → Stands ranks b (Some now) → Stands (set ranks number (Some now)) b (Some now)
    kept_there b s = set_kept ranks number (Some now) b (Some now) (other b now s) s

    pub ranking_given : IsRanking rows now (set ranks number (Some now)) more pending
    ranking_given = record {
      long = length-set ranks number (Some now) ∙ h.long;
      top = λ b s t. elim (stands_set ranks number (Some now) b (Some s) t) [
        | inl e ↦ (let f = same_Some _ _ e.1 in omega (arith, f))
        | inr u ↦ h.top b s u
      ];
      is_open = λ b o. elim (one_split open_ones (number ∷ []) b (subst (λ (xs : List ℕ). IsOneOf xs b) grown o)) [
        | inl p ↦ kept_there b (h.is_open b p)
        | inr p ↦ subst (λ (k : ℕ). Stands (set ranks number (Some now)) k (Some now)) (only_item number b p)
            (set_there ranks number (Some now) (stands_within ranks number None unranked))
      ];
      is_pending = λ b o. kept_there b (h.is_pending b o);
      closed = λ a b s r t. elim (stands_set ranks number (Some now) b (Some s) t) [
        | inl e ↦ inl (is_more b (one_right open_ones (number ∷ []) b (subst (IsOneOf (number ∷ [])) (sym e.0) (one_first number []))))
        | inr u ↦ elim (h.closed a b s r u) [
          | inl o ↦ inl (is_more b (one_left open_ones (number ∷ []) b o))
          | inr o ↦ elim o [ inl p ↦ inr (inl p) | inr p ↦ inr (inr (rank_kept a s p)) ]
        ]
      ];
    }

module _ (rows : List (Vec ℕ Global)) (now : ℕ) (ranks : List (Option ℕ)) where
  -- a number that has a rank
  pub marked_seen : (open_ones pending : List ℕ) (number s : ℕ) → IsRanking rows now ranks open_ones pending
      → Stands ranks number (Some s) → IsMarked number now ranks
  marked_seen open_ones pending number s h t l = record { rank = s; stands = t; at_most = h.top number s t }

  -- one that is open is pending
  pub next_pending : (open_ones more : List ℕ) (number : ℕ) → more ≡ open_ones ++ number ∷ []
      → IsRanking rows now ranks more [] → IsRanking rows now ranks open_ones (number ∷ [])
  next_pending open_ones more number e h = record {
    long = h.long;
    top = h.top;
    is_open = λ b o. h.is_open b (back b (one_left open_ones (number ∷ []) b o));
    is_pending = λ b o. h.is_open b (back b (one_right open_ones (number ∷ []) b o));
    closed = λ a b s r t. elim (h.closed a b s r t) [
      | inl o ↦ elim (one_split open_ones (number ∷ []) b (subst (λ (xs : List ℕ). IsOneOf xs b) e o)) [ inl p ↦ inl p | inr p ↦ inr (inl p) ]
      | inr o ↦ elim o [ inl p ↦ absurd (one_none b p) | inr p ↦ inr (inr p) ]
    ];
  }
    where
      back : (b : ℕ) → IsOneOf (open_ones ++ number ∷ []) b → IsOneOf more b
      back b o = subst (λ (xs : List ℕ). IsOneOf xs b) (sym e) o

  -- one that is pending is done, where those in whose rows it is have ranks
  module _ (sources : List (Vec ℕ Global)) (turned : AreTurned rows sources) (open_ones : List ℕ) (number : ℕ)
      (h : IsRanking rows now ranks open_ones (number ∷ [])) where
    pub pending_done : ((a : ℕ) → IsInRow sources number a → IsMarked a now ranks) → IsRanking rows now ranks open_ones []
    pending_done marked = record {
      long = h.long;
      top = h.top;
      is_open = h.is_open;
      is_pending = λ b o. absurd (one_none b o);
      closed = λ a b s r t. elim (h.closed a b s r t) [
        | inl o ↦ inl o
        | inr o ↦ elim o [ inl p ↦ inr (inr (to a b s r t p)) | inr p ↦ inr (inr p) ]
      ];
    }
      where
        to : (a b s : ℕ) → IsInRow rows a b → Stands ranks b (Some s) → IsOneOf (number ∷ []) b → HasRankTo ranks a s
        to a b s r t p =
            let e = only_item number b p in
            let u = h.is_pending number (one_first number []) in
            let f : now ≡ s = same_Some _ _ (stands_one ranks b (Some now) (Some s) (subst (λ (k : ℕ). Stands ranks k (Some now)) e u) t) in
            let i = stands_within ranks b (Some s) t in
            let l = h.long in
            let q = turned.each a b r (omega (arith, i, l)) in
            let j = stands_within rows a r.row r.stands in
            subst (HasRankTo ranks a) f
            (marked a (subst (λ (k : ℕ). IsInRow sources k a) (sym e) q) (omega (arith, j, l)))

    -- there is no row of those
    pub no_sources : length sources ≤ number → IsRanking rows now ranks open_ones []
    no_sources l =
        let u = stands_within ranks number (Some now) (h.is_pending number (one_first number [])) in
        let e = turned.long in
        let f = h.long in
        absurd (omega (arith, l, u, e, f))

  -- the next rank is given
  pub ranking_next : IsRanking rows now ranks [] [] → IsRanking rows (now + 1) ranks [] []
  ranking_next h = record {
    long = h.long;
    top = λ b s t. let l = h.top b s t in omega (arith, l);
    is_open = λ b o. absurd (one_none b o);
    is_pending = λ b o. absurd (one_none b o);
    closed = h.closed;
  }

  pub ranking_end : IsRanking rows now ranks [] [] → AreRanks rows ranks
  ranking_end h = record {
    each = λ a b s r t. elim (h.closed a b s r t) [
      | inl o ↦ absurd (one_none b o)
      | inr o ↦ elim o [ inl p ↦ absurd (one_none b p) | inr p ↦ p ]
    ];
  }

no_rank : (n b s : ℕ) → Stands (replicate {A = Option ℕ} n None) b (Some s) → ⊥
no_rank zero b s t = stands_none b (Some s) t
no_rank (suc n) zero s t = cc
no_rank (suc n) (suc b) s t = no_rank n b s t

pub ranking_start : (rows : List (Vec ℕ Global)) (n : ℕ) (ranks : List (Option ℕ)) → n ≡ length rows
    → ranks ≡ replicate n None → IsRanking rows 0 ranks [] []
ranking_start rows n ranks e f = record {
  long = ap length f ∙ (length-replicate n None ∙ e);
  top = λ b s t. absurd (none b s t);
  is_open = λ b o. absurd (one_none b o);
  is_pending = λ b o. absurd (one_none b o);
  closed = λ a b s r t. absurd (none b s t);
}
  where
    none : (b s : ℕ) → Stands ranks b (Some s) → ⊥
    none b s t = no_rank n b s (subst (λ (xs : List (Option ℕ)). Stands xs b (Some s)) f t)

pub no_items : (xs : List ℕ) → length xs ≤ 0 → xs ≡ []
no_items [] l = refl
no_items (x ∷ xs) l = absurd (omega (arith, l))

-- entries are taken from rows

pub entries-set : (rows : List (Vec ℕ Global)) (i : ℕ) (v w : Vec ℕ Global) → Stands rows i w
    → count_entries (set rows i v) + length w.items ≡ count_entries rows + length v.items
entries-set [] i v w s = absurd (stands_none i w s)
entries-set (x ∷ xs) zero v w s = let e : x ≡ w = same_Some _ _ s in let f = ap (λ (r : Vec ℕ Global). length r.items) e in omega (arith, f)
entries-set (x ∷ xs) (suc i) v w s = let h = entries-set xs i v w s in omega (arith, h)

-- a row of some vector of which the last was taken, or none

pub entries_fewer : (rows : List (Vec ℕ Global)) (i : ℕ) (v w : Vec ℕ Global) (taken : Option ℕ) → Stands rows i w
    → w.items ≡ v.items ++ option_to_list taken → IfSome taken (λ x. count_entries (set rows i v) < count_entries rows)
entries_fewer rows i v w None s e = tt
entries_fewer rows i v w (Some x) s e =
    let h = entries-set rows i v w s in
    let l = ap length e ∙ length-append v.items (x ∷ []) in
    omega (arith, h, l)

pub entries_same : (rows : List (Vec ℕ Global)) (i : ℕ) (v w : Vec ℕ Global) (taken : Option ℕ) → Stands rows i w
    → w.items ≡ v.items ++ option_to_list taken → IfNone taken (count_entries (set rows i v) ≡ count_entries rows)
entries_same rows i v w None s e =
    let h = entries-set rows i v w s in
    let l = ap length e ∙ length-append v.items [] in
    omega (arith, h, l)
entries_same rows i v w (Some x) s e = tt

-- what was read is no rank
no_rank_there : (ranks : List (Option ℕ)) (i : ℕ) (v d : Option ℕ) → i < length ranks → v ≡ get_or ranks i d
    → is_some v ≡ false → Stands ranks i None
no_rank_there ranks i None d l e f = got_stands ranks i None d l e
no_rank_there ranks i (Some x) d l e f = cc

pub unranked_there : (ranks : List (Option ℕ)) (i : ℕ) (d : Option ℕ) → i < length ranks → is_some (get_or ranks i d) ≡ false
    → Stands ranks i None
unranked_there ranks i d l f = no_rank_there ranks i (get_or ranks i d) d l refl f

-- rows are turned

pub sources_none : (from_one : ℕ) (sources : List Row) → AddsSource [] from_one sources sources
sources_none from_one sources = record { kept = λ b a h. h; added = λ b o l. absurd (one_none b o) }

pub sources_past : (row : List ℕ) (from_one : ℕ) (old mid : List Row) (to : ℕ) → length old ≤ to
    → AddsSource row from_one old mid → AddsSource (row ++ to ∷ []) from_one old mid
sources_past row from_one old mid to l h = record {
  kept = h.kept;
  added = λ b o m. elim (one_split row (to ∷ []) b o) [
    | inl p ↦ h.added b p m
    | inr p ↦ (let e = only_item to b p in absurd (omega (arith, l, m, e)))
  ];
}

pub sources_put : (row : List ℕ) (from_one : ℕ) (old mid : List Row) (to : ℕ) (v d : Row) → to < length mid
    → v.items ≡ (get_or mid to d).items ++ from_one ∷ [] → AddsSource row from_one old mid
    → AddsSource (row ++ to ∷ []) from_one old (set mid to v)
sources_put row from_one old mid to v d l e h = record {
  kept = λ b a r. more b a (h.kept b a r);
  added = λ b o m. elim (one_split row (to ∷ []) b o) [
    | inl p ↦ more b from_one (h.added b p m)
    | inr p ↦ subst (λ (k : ℕ). IsInRow (set mid to v) k from_one) (only_item to b p)
        (row_put mid to v l from_one (here from_one (one_right (get_or mid to d).items (from_one ∷ []) from_one (one_first from_one []))))
  ];
}
  where
    here : (a : ℕ) → IsOneOf ((get_or mid to d).items ++ from_one ∷ []) a → IsOneOf v.items a
    here a o = subst (λ (xs : List ℕ). IsOneOf xs a) (sym e) o

    more : (b a : ℕ) → IsInRow mid b a → IsInRow (set mid to v) b a
    more b a r = elim (cases_eq b to) [
      | inl f ↦ subst (λ (k : ℕ). IsInRow (set mid to v) k a) (sym f)
          (row_put mid to v l a (here a (one_left (get_or mid to d).items (from_one ∷ []) a
          (row_got mid to v l d a (subst (λ (k : ℕ). IsInRow mid k a) f r)))))
      | inr n ↦ row_kept mid to v l b a n r
    ]

-- the first rows are turned
pub record AreTurnedTo (rows : List Row) (i : ℕ) (sources : List Row) : Type 0 where
  pub long : length sources ≡ length rows
  pub each : (a b : ℕ) → a < i → IsInRow rows a b → b < length rows → IsInRow sources b a

pub turned_start : (rows sources : List Row) → length sources ≡ length rows → AreTurnedTo rows 0 sources
turned_start rows sources e = record { long = e; each = λ a b l r m. absurd (omega (arith, l)) }

pub turned_next : (rows : List Row) (i : ℕ) (row : Row) (items : List ℕ) (old new : List Row) → Stands rows i row
    → items ≡ row.items → length new ≡ length old → AddsSource items i old new → AreTurnedTo rows i old
    → AreTurnedTo rows (i + 1) new
turned_next rows i row items old new s q e a h = record {
  long = e ∙ h.long;
  each = λ x b l r m. elim (lt_or_same x i (omega (arith, l))) [
    | inl k ↦ a.kept b x (h.each x b k r m)
    | inr f ↦
        let g = subst (λ (k : ℕ). Stands rows k r.row) f r.stands in
        let same : r.row ≡ row = stands_one rows i r.row row g s in
        let o = subst (λ (z : Row). IsOneOf z.items b) same r.is_one in
        let n = h.long in
        subst (IsInRow new b) (sym f) (a.added b (subst (λ (xs : List ℕ). IsOneOf xs b) (sym q) o) (omega (arith, m, n)))
  ];
}

pub turned_end : (rows : List Row) (i : ℕ) (sources : List Row) → length rows ≤ i → AreTurnedTo rows i sources
    → AreTurned rows sources
turned_end rows i sources l h = record {
  long = h.long;
  each = λ a b r m. h.each a b (let k = stands_within rows a r.row r.stands in omega (arith, k, l)) r m;
}
