-- The least sets without those that have events on no one path are the least firable ones.
use Rattle.std.proofs.Common.{◌≡◌, ℕ, Bool, true, ◌&&◌, List, Option, sym, ap₂, ◌∙◌, subst}
use Rattle.std.proofs.lemmas.Bool.{and_parts}
use Rattle.ar_base.specs.Sets.{Within}
use Rattle.ar_base.proofs.Truths.{not_true, true_not}
use Rattle.ar_firing.specs.Cuts.{IsLeast}
use Rattle.ar_firing.specs.Forest.{ModeTree}
use Rattle.zdd_nodes.specs.Families.{Family, has, within, without}
use Rattle.zdd_nodes.specs.FamiliesInside.{IsFamily}
use Rattle.zdd_nodes.proofs.Members.{within_law, has-without}
use Rattle.zdd_nodes.proofs.Minimal.{Witness, within-through}
use Rattle.firable_families.specs.FirableInside.{IsTrueUpTo, ListsLeastUpTo}
use Rattle.firable_families.proofs.Few.{firable_of, small_of, firable_up_to}
use Rattle.firable_families.proofs.Listing.{lists_listed}
use Rattle.diagram_steps.specs.declared.trees.NumberedTree.{NumberedTree}
use Rattle.mode_diagrams.specs.Trees.{AreNumbered, AreApart as AreTreesApart}
use Rattle.mode_diagrams.specs.Costs.{HaveDifferentEvents}
use Rattle.mode_diagrams.specs.Numbers.{IsByModes}
use Rattle.least_families.specs.Least.{covers, AreLeast}
use Rattle.least_families.proofs.Covering.{covers_self, covered, covers_more}
use Rattle.coherent_cuts.specs.Exclusive.{HasExclusive}
use Rattle.coherent_cuts.specs.Gates.{HasPathsUpTo}
use Rattle.coherent_cuts.proofs.OnPaths.{set_has_paths, no_pair, set_of_paths}

to_within : (s t : List ℕ) → within s t ≡ true → Within s t
to_within s t w = record { each = (within_law s t).0 w }

from_within : (s t : List ℕ) → Within s t → within s t ≡ true
from_within s t w = (within_law s t).1 w.each

module _ (order : Option ℕ) (ns : List NumberedTree) (numbered : AreNumbered ns) (apart : AreTreesApart ns)
    (different : HaveDifferentEvents ns) (forest : List ModeTree) (b : IsByModes forest ns) (test : List ℕ → Bool)
    (w pairs : Family) (l : AreLeast (HasPathsUpTo order ns) test w) (x : HasExclusive ns pairs) where
  is_true : (s : List ℕ) → has w s ≡ true → (covers pairs s ≡ true → ⊥) → IsTrueUpTo order forest test s
  is_true s i free =
      let e = l.each s i in
      let m = set_of_paths ns numbered apart different s e.0 (λ h. free ((x.each s).1 h)) in record {
        is_firable = firable_up_to order forest s (b.firable m.0 s m.1) e.1;
        holds = sym (l.at s e) ∙ covers_self w s i;
      }

  paths_of : (s : List ℕ) → IsTrueUpTo order forest test s → HasPathsUpTo order ns s
  paths_of s t =
      let m = b.modes s (firable_of order forest s t.is_firable) in
      (set_has_paths ns numbered apart different m.0 s m.1, small_of order forest s t.is_firable)

  free_of : (s : List ℕ) → IsTrueUpTo order forest test s → covers pairs s ≡ true → ⊥
  free_of s t c =
      let m = b.modes s (firable_of order forest s t.is_firable) in
      no_pair ns numbered apart different m.0 s m.1 ((x.each s).0 c)

  some_in : (s : List ℕ) → IsTrueUpTo order forest test s → Witness (λ t. within t s) w
  some_in s t = covered w s (l.at s (paths_of s t) ∙ t.holds)

  left_of : (s : List ℕ) → has (without w pairs) s ≡ true → (has w s ≡ true) × (covers pairs s ≡ true → ⊥)
  left_of s i = let p = and_parts (has w s) _ (sym (has-without w pairs s) ∙ i) in (p.0, λ c. not_true (covers pairs s) p.1 c)

  left_sound : (s : List ℕ) → has (without w pairs) s ≡ true → IsLeast (IsTrueUpTo order forest test) s
  left_sound s i =
      let p = left_of s i in record {
        has = is_true s p.0 p.1;
        least = λ part v t.
            let y = some_in part t in
            let down = within-through y.set part s y.passes (from_within part s v) in
            to_within s part (within-through s y.set part (l.apart.least y.set s y.in_family p.0 down) y.passes);
      }

  left_whole : (s : List ℕ) → IsLeast (IsTrueUpTo order forest test) s
      → (t : List ℕ) × (has (without w pairs) t ≡ true) × Within s t × Within t s
  left_whole s k =
      let y = some_in s k.has in
      let free = λ (c : covers pairs y.set ≡ true). free_of s k.has (covers_more pairs y.set s y.passes c) in
      let inside = to_within y.set s y.passes in (
        y.set,
        has-without w pairs y.set ∙ ap₂ (λ a c. a && c) y.in_family (true_not (covers pairs y.set) free),
        k.least y.set inside (is_true y.set y.in_family free),
        inside,
      )

  pub least_firable : (r : Family) → r ≡ without w pairs → IsFamily r → ListsLeastUpTo order forest test r
  least_firable r is k = lists_listed (record {
    is_family = k;
    sound = λ s i. left_sound s (subst (λ f. has f s ≡ true) is i);
    whole = λ s p. let y = left_whole s p in (y.0, subst (λ f. has f y.0 ≡ true) (sym is) y.1, y.2, y.3);
  })
