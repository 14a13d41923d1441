-- The walk of two families by their numbers.
use Rattle.std.proofs.Common.{◌≡◌, ◌≢◌, ◌⊎◌, inl, inr, ⊎_elim, ℕ, ◌<◌, [], sym, ap, ◌∙◌, subst, arith}
use Rattle.std.proofs.lemmas.Bool.{cases_lt}
use Rattle.zdd_nodes.specs.Families.{Family}
use Rattle.zdd_nodes.specs.FamiliesInside.{node, IsAbove}
use Rattle.zdd_nodes.specs.Nodes.{Stored, family, IsFamilyNumber, IsNode, IsSoundStore}
use Rattle.zdd_nodes.proofs.Lists.{same_number, some_sets, node_above}
use Rattle.gate_modules.specs.Ends.{Agree, AgreeSome}
use Rattle.zdd_nodes.specs.Bounds.{EndsBelow, HasBelow}
use Rattle.gate_modules.specs.Walked.{HaveTwinFamilies, AgreesSome, AreEnds}
use Rattle.gate_modules.specs.declared.twins.Question.{Question}
use Rattle.gate_modules.proofs.Sections.{agree_node, agree_upper, agree_lower, some_node, some_upper, some_lower, differ_first, differ_second, all_agree, none_from_end, none_from_above, agree_ends, ends_agree, ends_some}

module _ (s : Stored) (sound : IsSoundStore s) where
  pub number_of : (n m : ℕ) → IsFamilyNumber s n → IsFamilyNumber s m → family s n ≡ family s m → n ≡ m
  number_of n m p q e = same_number s.families sound.different n m p q e

  pub not_empty : (n : ℕ) → 0 < n → IsFamilyNumber s n → family s n ≢ []
  not_empty n l p = some_sets s.families sound.different n l p

  pub lo_in : (n v lo hi : ℕ) → IsFamilyNumber s n → IsNode s.families n v lo hi → IsFamilyNumber s lo
  lo_in n v lo hi p i = omega (arith, p, i.lo_before)

  pub hi_in : (n v lo hi : ℕ) → IsFamilyNumber s n → IsNode s.families n v lo hi → IsFamilyNumber s hi
  hi_in n v lo hi p i = omega (arith, p, i.hi_before)

  module _ (asked : Question) (ends : AreEnds s asked) (n m : ℕ) (n_in : IsFamilyNumber s n) (m_in : IsFamilyNumber s m) where
    pub ends_are : EndsBelow s asked.to n → EndsBelow s asked.to m
        → ((n ≡ 0) × (m ≡ 0)) ⊎ ((n ≡ asked.end.n) × (m ≡ asked.node_end.n)) → HaveTwinFamilies s asked n m
    ends_are a b h = agree_ends asked.to (family s n) (family s m) (family s asked.end.n) (family s asked.node_end.n)
        a.at_least b.at_least
        (⊎_elim (λ e. inl (ap (family s) e.0, ap (family s) e.1)) (λ e. inr (ap (family s) e.0, ap (family s) e.1)) h)

    zero_in : IsFamilyNumber s 0
    zero_in = omega arith

    pub are_ends : EndsBelow s asked.to n → EndsBelow s asked.to m → HaveTwinFamilies s asked n m
        → ((n ≡ 0) × (m ≡ 0)) ⊎ ((n ≡ asked.end.n) × (m ≡ asked.node_end.n))
    are_ends a b g = ⊎_elim
        (λ e. inl (number_of n 0 n_in zero_in e.0, number_of m 0 m_in zero_in e.1))
        (λ e. inr (
          number_of n asked.end.n n_in ends.end_in e.0,
          number_of m asked.node_end.n m_in ends.node_end_in
              e.1,
        ))
        (ends_agree asked.to (family s n) (family s m) (family s asked.end.n) (family s asked.node_end.n) a.at_least
        b.at_least g)

    pub some_ends : EndsBelow s asked.to n → EndsBelow s asked.to m → AgreesSome s asked n m
    some_ends a b = ends_some asked.to (family s n) (family s m) (family s asked.end.n) (family s asked.node_end.n)
        a.at_least b.at_least

    -- one has events below the bound, the other has none
    pub first_alone : (v lo hi : ℕ) → HasBelow s asked.to n v lo hi → EndsBelow s asked.to m → AgreesSome s asked n m
        → ⊥
    first_alone v lo hi a b g =
        differ_first asked.to v (family s lo) (family s hi) (family s m) (family s asked.end.n)
        (family s asked.node_end.n) a.below a.node.lo_above a.node.hi_some
        (none_from_end asked.to v (family s m) b.at_least)
        (not_empty asked.node_end.n ends.node_end_some ends.node_end_in)
        (subst (λ f. AgreeSome asked.to f (family s m) (family s asked.end.n) (family s asked.node_end.n)) a.node.is g)

    pub second_alone : (v lo hi : ℕ) → EndsBelow s asked.to n → HasBelow s asked.to m v lo hi → AgreesSome s asked n m
        → ⊥
    second_alone v lo hi a b g =
        differ_second asked.to v (family s lo) (family s hi) (family s n) (family s asked.end.n)
        (family s asked.node_end.n) b.below b.node.lo_above b.node.hi_some
        (none_from_end asked.to v (family s n) a.at_least) (not_empty asked.end.n ends.end_some ends.end_in)
        (subst (λ f. AgreeSome asked.to (family s n) f (family s asked.end.n) (family s asked.node_end.n)) b.node.is g)

    module _ (v lo hi w lo2 hi2 : ℕ) (a : HasBelow s asked.to n v lo hi) (b : HasBelow s asked.to m w lo2 hi2) where
      pub same_event : AgreesSome s asked n m → v ≡ w
      same_event g = ⊎_elim (λ l. absurd (first l))
          (λ r. ⊎_elim (λ l. absurd (second l)) (λ k. omega (arith, r, k)) (cases_lt w v)) (cases_lt v w)
        where
          first : v < w → ⊥
          first l = differ_first asked.to v (family s lo) (family s hi) (family s m) (family s asked.end.n)
              (family s asked.node_end.n) a.below a.node.lo_above a.node.hi_some
              (none_from_above asked.to v (family s m) (node_above s.families v m w lo2 hi2 l b.node))
              (not_empty asked.node_end.n ends.node_end_some ends.node_end_in)
              (subst (λ f. AgreeSome asked.to f (family s m) (family s asked.end.n) (family s asked.node_end.n))
              a.node.is g)

          second : w < v → ⊥
          second l = differ_second asked.to w (family s lo2) (family s hi2) (family s n) (family s asked.end.n)
              (family s asked.node_end.n) b.below b.node.lo_above b.node.hi_some
              (none_from_above asked.to w (family s n) (node_above s.families w n v lo hi l a.node))
              (not_empty asked.end.n ends.end_some ends.end_in)
              (subst (λ f. AgreeSome asked.to (family s n) f (family s asked.end.n) (family s asked.node_end.n))
              b.node.is g)

      opened : (P : Family → Family → Type 0) → v ≡ w
          → P (node v (family s lo) (family s hi)) (node v (family s lo2) (family s hi2)) → P (family s n) (family s m)
      opened P e p = subst (λ f. P f (family s m)) (sym a.node.is)
          (subst (λ g. P (node v (family s lo) (family s hi)) g)
          (ap (λ z. node z (family s lo2) (family s hi2)) e ∙ sym b.node.is) p)

      closed : (P : Family → Family → Type 0) → v ≡ w → P (family s n) (family s m)
          → P (node v (family s lo) (family s hi)) (node v (family s lo2) (family s hi2))
      closed P e p = subst (λ f. P f (node v (family s lo2) (family s hi2))) a.node.is
          (subst (λ g. P (family s n) g) (b.node.is ∙ sym (ap (λ z. node z (family s lo2) (family s hi2)) e)) p)

      second_above : v ≡ w → IsAbove v (family s lo2)
      second_above e = subst (λ z. IsAbove z (family s lo2)) (sym e) b.node.lo_above

      pub both_halves : v ≡ w → HaveTwinFamilies s asked lo lo2 → HaveTwinFamilies s asked hi hi2 → HaveTwinFamilies s asked n m
      both_halves e g h = opened (λ f k. Agree asked.to f k (family s asked.end.n) (family s asked.node_end.n)) e
          (agree_node asked.to v (family s lo) (family s hi) (family s lo2) (family s hi2) (family s asked.end.n)
          (family s asked.node_end.n) a.below a.node.lo_above (second_above e) g h)

      pub upper_half : v ≡ w → HaveTwinFamilies s asked n m → HaveTwinFamilies s asked hi hi2
      upper_half e g = agree_upper asked.to v (family s lo) (family s hi) (family s lo2) (family s hi2)
          (family s asked.end.n) (family s asked.node_end.n) a.below a.node.lo_above (second_above e)
          (closed (λ f k. Agree asked.to f k (family s asked.end.n) (family s asked.node_end.n)) e g)

      pub lower_half : v ≡ w → HaveTwinFamilies s asked n m → HaveTwinFamilies s asked lo lo2
      lower_half e g = agree_lower asked.to v (family s lo) (family s hi) (family s lo2) (family s hi2)
          (family s asked.end.n) (family s asked.node_end.n) a.below a.node.lo_above (second_above e)
          (closed (λ f k. Agree asked.to f k (family s asked.end.n) (family s asked.node_end.n)) e g)

      pub some_halves : v ≡ w → AgreesSome s asked lo lo2 → HaveTwinFamilies s asked hi hi2 → AgreesSome s asked n m
      some_halves e g h = opened (λ f k. AgreeSome asked.to f k (family s asked.end.n) (family s asked.node_end.n)) e
          (some_node asked.to v (family s lo) (family s hi) (family s lo2) (family s hi2) (family s asked.end.n)
          (family s asked.node_end.n) a.below a.node.lo_above (second_above e) g h)

      pub some_upper_half : v ≡ w → AgreesSome s asked n m → HaveTwinFamilies s asked hi hi2
      some_upper_half e g = some_upper asked.to v (family s lo) (family s hi) (family s lo2) (family s hi2)
          (family s asked.end.n) (family s asked.node_end.n) a.below a.node.lo_above (second_above e)
          (closed (λ f k. AgreeSome asked.to f k (family s asked.end.n) (family s asked.node_end.n)) e g)

      pub some_lower_half : v ≡ w → AgreesSome s asked n m → AgreesSome s asked lo lo2
      some_lower_half e g = some_lower asked.to v (family s lo) (family s hi) (family s lo2) (family s hi2)
          (family s asked.end.n) (family s asked.node_end.n) a.below a.node.lo_above (second_above e)
          (closed (λ f k. AgreeSome asked.to f k (family s asked.end.n) (family s asked.node_end.n)) e g)

    pub some_of : HaveTwinFamilies s asked n m → AgreesSome s asked n m
    some_of g = all_agree asked.to (family s n) (family s m) (family s asked.end.n) (family s asked.node_end.n) g
