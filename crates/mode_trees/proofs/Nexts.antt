-- The next edge, one edge after the other, and the edges below it.
use Rattle.std.proofs.Common.{◌≡◌, ◌<◌, ◌≤◌, ◌+◌, ◌++◌, ◌⊎◌, inl, inr, ℕ, Bool, true, false, nat_lt, if◌then◌else◌, append-nil, List, [], ◌∷◌, length, Option, Some, None, append_assoc, refl, sym, ◌∙◌, ap, subst, arith}
use Rattle.std.proofs.lemmas.Bool.{ltb-false}
use Rattle.ar_base.specs.Lists.{Stands}
use Rattle.ar_base.proofs.Standing.{stands_one, stands_within, one_here, at_most}
use Rattle.ar_base.proofs.Comparing.{low as low_of}
use Rattle.domains.specs.declared.Value.{Value}
use Rattle.mode_trees.specs.declared.forests.Edge.{Edge}
use Rattle.mode_trees.specs.Below.{AreEdgesBelow, no_more, next}
use Rattle.mode_trees.specs.Paths.{LeavesMode, IsNextEdge, IsNextOrNone, earlier_of, GetsBelow}

module _ (edges : List Edge) (from : Value) (low : ℕ) where
  -- of the first edges and the one behind them
  one_more : (P : Edge → Type 0) (i : ℕ) (e : Edge) → Stands edges i e
      → ((k : ℕ) (f : Edge) → k < i → Stands edges k f → P f) → P e
      → (k : ℕ) (f : Edge) → k < i + 1 → Stands edges k f → P f
  one_more P i e s h p k f l t = go (at_most k i l)
    where
      go : (k < i) ⊎ (k ≡ i) → P f
      go (inl b) = h k f b t
      go (inr b) = subst P (stands_one edges i e f s (subst (λ (n : ℕ). Stands edges n f) b t)) p

  pub next_skip : (i : ℕ) (e : Edge) (found : Option Edge) → Stands edges i e → IsNextOrNone edges i from low found
      → (LeavesMode from low e → ⊥)
      → IsNextOrNone edges (i + 1) from low found
  next_skip i e None s h n = one_more (λ f. LeavesMode from low f → ⊥) i e s h n
  next_skip i e (Some g) s h n = record {
    place = h.place;
    below = omega (arith, h.below);
    stands = h.stands;
    leaves = h.leaves;
    least = one_more (λ f. LeavesMode from low f → g.event.n ≤ f.event.n) i e s h.least (λ l. absurd (n l));
  }

  pub next_take : (i : ℕ) (e : Edge) (found : Option Edge) → Stands edges i e → IsNextOrNone edges i from low found
      → LeavesMode from low e
      → IsNextOrNone edges (i + 1) from low (Some (earlier_of found e))
  next_take i e None s h l = record {
    place = i;
    below = omega arith;
    stands = s;
    leaves = l;
    least = one_more (λ f. LeavesMode from low f → e.event.n ≤ f.event.n) i e s (λ k f b t m. absurd (h k f b t m))
        (λ m. omega arith);
  }
  next_take i e (Some g) s h l = by (nat_lt e.event.n g.event.n) refl
    where
      by : (b : Bool) → nat_lt e.event.n g.event.n ≡ b → IsNextOrNone edges (i + 1) from low (Some (if b then e else g))
      by true t =
          let less = low_of e.event.n g.event.n t in
          record {
            place = i;
            below = omega arith;
            stands = s;
            leaves = l;
            least = one_more (λ f. LeavesMode from low f → e.event.n ≤ f.event.n) i e s
                (λ k f b u m. let q = h.least k f b u m in omega (arith, q, less)) (λ m. omega arith);
          }
      by false t =
          let less = ltb-false e.event.n g.event.n t in
          record {
            place = h.place;
            below = omega (arith, h.below);
            stands = h.stands;
            leaves = h.leaves;
            least = one_more (λ f. LeavesMode from low f → g.event.n ≤ f.event.n) i e s h.least (λ m. less);
          }

  -- at the end of the list
  none_below : IsNextOrNone edges (length edges) from low None → AreEdgesBelow edges from low []
  none_below h = no_more (λ e o i l. h o.place e (stands_within edges o.place e o.stands) o.stands
      (record { leaves = i; late = l }))

  next_below : (e : Edge) (es fs : List Edge) → IsNextEdge edges (length edges) from low e → AreEdgesBelow edges e.to 0 es
      → AreEdgesBelow edges from (e.event.n + 1) fs → AreEdgesBelow edges from low (e ∷ (es ++ fs))
  next_below e es fs h x y =
      next e (one_here edges h.place e h.stands) h.leaves.leaves h.leaves.late
      (λ f o i l b. let q = h.least o.place f (stands_within edges o.place f o.stands) o.stands
      (record { leaves = i; late = l }) in absurd (omega (arith, q, b)))
      x y

  pub gets_none : (old : List Edge) → IsNextOrNone edges (length edges) from low None → GetsBelow edges from low old old
  gets_none old h = record { below = []; are = none_below h; got = sym (append-nil old) }

  pub gets_next : (e : Edge) (old pushed deep new : List Edge) → IsNextEdge edges (length edges) from low e
      → pushed ≡ old ++ (e ∷ [])
      → GetsBelow edges e.to 0 pushed deep → GetsBelow edges from (e.event.n + 1) deep new
      → GetsBelow edges from low old new
  gets_next e old pushed deep new h i x y = record {
    below = e ∷ (x.below ++ y.below);
    are = next_below e x.below y.below h x.are y.are;
    got =
        y.got ∙ ap (λ (z : List Edge). z ++ y.below) (x.got ∙ ap (λ (z : List Edge). z ++ x.below) i)
        ∙ append_assoc (old ++ (e ∷ [])) x.below y.below ∙ append_assoc old (e ∷ []) (x.below ++ y.below);
  }
