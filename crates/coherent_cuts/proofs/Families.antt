-- Families of least sets with the paths to their events.
use Rattle.std.proofs.Common.{◌≡◌, inl, ⊎_elim, ℕ, suc, Bool, true, false, ◌&&◌, ◌||◌, List, [], ◌∷◌, ◌++◌, Option, Some, None, refl, sym, ap, ap₂, ◌∙◌, subst, arith, true≢false, nat_eq, eq-eqb, eqb-true}
use Rattle.std.proofs.lemmas.Bool.{and_parts, or_cases}
use Rattle.ar_base.specs.Lists.{Stands, IsOneOf}
use Rattle.ar_base.proofs.Standing.{one_split, one_left, one_right, one_none, one_first, one_rest, one_cases}
use Rattle.ar_base.proofs.Truths.{alike}
use Rattle.ar_firing.specs.CutsInside.{UpTo}
use Rattle.zdd_nodes.specs.Families.{Family, has, within}
use Rattle.zdd_nodes.proofs.Members.{within_law}
use Rattle.eq_core.specs.Values.{has_event}
use Rattle.diagram_steps.specs.declared.trees.NumberedEdge.{NumberedEdge}
use Rattle.diagram_steps.specs.declared.trees.NumberedTree.{NumberedTree}
use Rattle.diagram_steps.specs.Trees.{edges_of, TreeHasEvent}
use Rattle.mode_diagrams.specs.Trees.{IsOnPath, last, AreNumbered, AreApart as AreTreesApart}
use Rattle.mode_diagrams.specs.Costs.{HaveDifferentEvents}
use Rattle.mode_diagrams.specs.Sets.{HasPathEvents}
use Rattle.least_families.specs.Least.{covers, AreIncomparable, AreLeast, AreLeastUpTo}
use Rattle.least_families.proofs.Covering.{covers_from, covers_self, covered, up_to_part}
use Rattle.least_families.proofs.Least.{least_within}
use Rattle.coherent_cuts.specs.Gates.{IsWithPathOf, HasPaths, HasPathsUpTo}
use Rattle.coherent_cuts.specs.Places.{Enters}
use Rattle.coherent_cuts.proofs.OnPaths.{place_on, with_path_at}

-- ---- members
within_one : (s t : List ℕ) (x : ℕ) → within s t ≡ true → IsOneOf s x → IsOneOf t x
within_one s t x w o = (within_law s t).0 w x o

-- what has the path to an event has it in a greater set too
path_within : (ns : List NumberedTree) (a s : List ℕ) (e : ℕ) → within a s ≡ true → IsWithPathOf ns a e
    → IsWithPathOf ns s e
path_within ns a s e w p = record {
  place = p.place;
  tree = p.tree;
  stands = p.stands;
  at = p.at;
  edge = p.edge;
  edge_stands = p.edge_stands;
  event = p.event;
  path = λ x o. within_one a s x w (p.path x o);
}

-- a set of which each member is one of a or b, which lie within it, has the paths to its events
paths_of_two : (ns : List NumberedTree) (a b s : List ℕ) → HasPaths ns a → HasPaths ns b → within a s ≡ true
    → within b s ≡ true → within s (a ++ b) ≡ true → HasPaths ns s
paths_of_two ns a b s p q wa wb w = record {
  each = λ e one. ⊎_elim
      (λ o. path_within ns a s e wa (p.each e o))
      (λ o. path_within ns b s e wb (q.each e o))
      (one_split a b e (within_one s (a ++ b) e w one));
}

paths_of_one : (ns : List NumberedTree) (a s : List ℕ) → HasPaths ns a → within a s ≡ true → within s a ≡ true
    → HasPaths ns s
paths_of_one ns a s p wa w =
    record { each = λ e one. path_within ns a s e wa (p.each e (within_one s a e w one)) }

both_within : (a b s : List ℕ) → within a s ≡ true → within b s ≡ true → within (a ++ b) s ≡ true
both_within a b s wa wb = (within_law (a ++ b) s).1
    (λ x o. ⊎_elim (λ i. within_one a s x wa i) (λ i. within_one b s x wb i) (one_split a b x o))

left_within : (a b : List ℕ) → within a (a ++ b) ≡ true
left_within a b = (within_law a (a ++ b)).1 (λ x o. one_left a b x o)

right_within : (a b : List ℕ) → within b (a ++ b) ≡ true
right_within a b = (within_law b (a ++ b)).1 (λ x o. one_right a b x o)

-- ---- both of two operands, and either
module _ (order : Option ℕ) (ns : List NumberedTree) (f g : Family) (t u : List ℕ → Bool)
    (a : AreLeast (HasPathsUpTo order ns) t f) (b : AreLeast (HasPathsUpTo order ns) u g) where
  both_paths : (r : Family) → AreLeastUpTo order (λ s. covers f s && covers g s) r → (s : List ℕ) → has r s ≡ true
      → HasPaths ns s
  both_paths r l s i =
      let p = and_parts (covers f s) (covers g s) (sym (l.at s (l.each s i)) ∙ covers_self r s i) in
      let x = covered f s p.0 in
      let y = covered g s p.1 in
      let w = both_within x.set y.set s x.passes y.passes in
      paths_of_two ns x.set y.set s (a.each x.set x.in_family).0 (b.each y.set y.in_family).0 x.passes y.passes
      (least_within r l s (x.set ++ y.set) i w (up_to_part order (x.set ++ y.set) s w (l.each s i))
      (ap₂ (λ c d. c && d) (covers_from f x.set (x.set ++ y.set) x.in_family (left_within x.set y.set))
      (covers_from g y.set (x.set ++ y.set) y.in_family (right_within x.set y.set))))

  pub both_least : (r : Family) → AreLeastUpTo order (λ s. covers f s && covers g s) r
      → AreLeast (HasPathsUpTo order ns) (λ s. t s && u s) r
  both_least r l = record {
    apart = l.apart;
    each = λ s i. (both_paths r l s i, l.each s i);
    at = λ s p. l.at s p.1 ∙ ap₂ (λ c d. c && d) (a.at s p) (b.at s p);
  }

  either_each : (r : Family) → AreLeastUpTo None (λ s. covers f s || covers g s) r → (s : List ℕ) → has r s ≡ true
      → HasPathsUpTo order ns s
  either_each r l s i = ⊎_elim
      (λ c. let x = covered f s c in
      let back = least_within r l s x.set i x.passes tt
      (ap (λ d. d || covers g x.set) (covers_self f x.set x.in_family)) in
      let e = a.each x.set x.in_family in
      (paths_of_one ns x.set s e.0 x.passes back, up_to_part order s x.set back e.1))
      (λ c. let x = covered g s c in
      let back = least_within r l s x.set i x.passes tt
      (ap (λ d. covers f x.set || d) (covers_self g x.set x.in_family) ∙ or_right (covers f x.set)) in
      let e = b.each x.set x.in_family in
      (paths_of_one ns x.set s e.0 x.passes back, up_to_part order s x.set back e.1))
      (or_cases (covers f s) (covers g s) (sym (l.at s tt) ∙ covers_self r s i))
    where
      or_right : (d : Bool) → (d || true) ≡ true
      or_right true = refl
      or_right false = refl

  pub either_least : (r : Family) → AreLeastUpTo None (λ s. covers f s || covers g s) r
      → AreLeast (HasPathsUpTo order ns) (λ s. t s || u s) r
  either_least r l = record {
    apart = l.apart;
    each = either_each r l;
    at = λ s p. l.at s tt ∙ ap₂ (λ c d. c || d) (a.at s p) (b.at s p);
  }

-- ---- the path to an event
-- the family has one set, the events on the path to this mode
pub record IsPathFamily (edges : List NumberedEdge) (mode : ℕ) (f : Family) : Type 0 where
  pub some : (p : List ℕ) × (has f p ≡ true)
  pub sound : (p : List ℕ) → has f p ≡ true → (x : ℕ) → IsOneOf p x → IsOnPath edges x mode
  pub whole : (p : List ℕ) → has f p ≡ true → (x : ℕ) → IsOnPath edges x mode → IsOneOf p x

pub path_family : (edges : List NumberedEdge) (mode : ℕ) (f : Family) → HasPathEvents edges mode ([] ∷ []) f
    → IsPathFamily edges mode f
path_family edges mode f h = record {
  some = let w = h.whole [] refl in (w.0, w.1);
  sound = λ p i x o.
      let w = h.sound p i in
      ⊎_elim (λ k. k) (λ k. absurd (nothing w.0 w.1 x k)) ((w.2.each x).0 o);
  whole = λ p i x o. let w = h.sound p i in (w.2.each x).1 (inl o);
}
  where
    nothing : (s : List ℕ) → has ([] ∷ []) s ≡ true → (x : ℕ) → IsOneOf s x → ⊥
    nothing [] i x o = one_none x o
    nothing (y ∷ s) i x o = true≢false (sym i)

pub path_apart : (edges : List NumberedEdge) (mode : ℕ) (f : Family) → IsPathFamily edges mode f → AreIncomparable f
path_apart edges mode f p = record {
  least = λ s t i j w. (within_law t s).1 (λ x o. p.whole s i x (p.sound t j x o));
}

has_true : (set : List ℕ) (e : ℕ) → IsOneOf set e → has_event set e ≡ true
has_true [] e one = absurd (one_none e one)
has_true (x ∷ xs) e one = ⊎_elim
    (λ p. ap (λ b. b || has_event xs e) (eq-eqb x e p))
    (λ o. or_true (nat_eq x e) (has_event xs e) (has_true xs e o))
    (one_cases x xs e one)
  where
    or_true : (a b : Bool) → b ≡ true → (a || b) ≡ true
    or_true true b h = refl
    or_true false b h = h

one_of : (set : List ℕ) (e : ℕ) → has_event set e ≡ true → IsOneOf set e
one_of [] e h = let wrong : ⊥ = cc in absurd wrong
one_of (x ∷ xs) e h = by (λ k. one_of xs e k) (nat_eq x e) refl
  where
    by : (has_event xs e ≡ true → IsOneOf xs e) → (b : Bool) → nat_eq x e ≡ b → IsOneOf (x ∷ xs) e
    by f true p = let same : x ≡ e = eqb-true x e p in subst (λ y. IsOneOf (x ∷ xs) y) same (one_first x xs)
    by f false p = one_rest x xs e (f (ap (λ b. b || has_event xs e) (sym p) ∙ h))

module _ (order : Option ℕ) (ns : List NumberedTree) (numbered : AreNumbered ns) (apart : AreTreesApart ns)
    (different : HaveDifferentEvents ns) where
  module _ (k : ℕ) (tree : NumberedTree) (stands : Stands ns k tree) (e mode : ℕ)
      (enters : Enters (edges_of tree) e mode) (f : Family) (p : IsPathFamily (edges_of tree) mode f) (r : Family)
      (l : AreLeastUpTo order (covers f) r) where
    mode_of_edge : mode ≡ suc enters.place
    mode_of_edge = let m = enters.mode in omega (arith, m)

    path_has_paths : (a : List ℕ) → has f a ≡ true → HasPaths ns a
    path_has_paths a i = record {
      each = λ x o.
          let w = place_on tree (numbered.each k tree stands) x mode (p.sound a i x o) in record {
            place = k;
            tree = tree;
            stands = stands;
            at = w.at;
            edge = w.edge;
            edge_stands = w.stands;
            event = w.event;
            path = λ y q. p.whole a i y (w.path y q);
          };
    }

    event_each : (s : List ℕ) → has r s ≡ true → HasPathsUpTo order ns s
    event_each s i =
        let x = covered f s (sym (l.at s (l.each s i)) ∙ covers_self r s i) in
        let back = least_within r l s x.set i x.passes (up_to_part order x.set s x.passes (l.each s i))
        (covers_self f x.set x.in_family) in
        (paths_of_one ns x.set s (path_has_paths x.set x.in_family) x.passes back, l.each s i)

    event_at : (s : List ℕ) → HasPaths ns s → covers f s ≡ has_event s e
    event_at s c = alike _ _
        (λ h. let x = covered f s h in
        has_true s e (within_one x.set s e x.passes
        (p.whole x.set x.in_family e (last mode_of_edge enters.stands enters.event))))
        (λ h. covers_from f p.some.0 s p.some.1 ((within_law p.some.0 s).1
        (λ x o. with_path_at ns numbered apart different s e k enters.place tree enters.edge
        (c.each e (one_of s e h)) stands enters.stands enters.event x
        (subst (IsOnPath (edges_of tree) x) mode_of_edge (p.sound p.some.0 p.some.1 x o)))))

    pub event_least : AreLeast (HasPathsUpTo order ns) (λ s. has_event s e) r
    event_least = record {
      apart = l.apart;
      each = event_each;
      at = λ s c. l.at s c.1 ∙ event_at s c.0;
    }

  -- an event that no tree has is in no such set
  pub event_nowhere : (e : ℕ) → ((k : ℕ) (tree : NumberedTree) → Stands ns k tree → TreeHasEvent tree e → ⊥) → (r : Family)
      → r ≡ [] → AreLeast (HasPathsUpTo order ns) (λ s. has_event s e) r
  event_nowhere e none r is = subst (AreLeast (HasPathsUpTo order ns) (λ s. has_event s e)) (sym is) (record {
    apart = record { least = λ s t i j w. absurd (true≢false (sym i)) };
    each = λ s i. absurd (true≢false (sym i));
    at = λ s c. sym (nowhere s c.0 (has_event s e) refl);
  })
    where
      nowhere : (s : List ℕ) → HasPaths ns s → (b : Bool) → has_event s e ≡ b → has_event s e ≡ false
      nowhere s c false q = q
      nowhere s c true q =
          let w = c.each e (one_of s e q) in
          absurd (none w.place w.tree w.stands (record {
            edge = w.edge;
            one = record { place = w.at; stands = w.edge_stands };
            is = w.event;
          }))

-- ---- constants
pub never_least : {P : List ℕ → Type 0} (f : Family) → f ≡ [] → AreLeast P (λ s. false) f
never_least {P = P} f e = subst (AreLeast P (λ s. false)) (sym e) (record {
  apart = record { least = λ s t i j w. absurd (true≢false (sym i)) };
  each = λ s i. absurd (true≢false (sym i));
  at = λ s u. refl;
})

pub always_least : (order : Option ℕ) (ns : List NumberedTree) (f : Family) → f ≡ [] ∷ []
    → AreLeast (HasPathsUpTo order ns) (λ s. true) f
always_least order ns f e = subst (AreLeast (HasPathsUpTo order ns) (λ s. true)) (sym e) (record {
  apart = record { least = λ s t i j w. by s t i j };
  each = λ s i. empty s i;
  at = λ s u. refl;
})
  where
    by : (s t : List ℕ) → has ([] ∷ []) s ≡ true → has ([] ∷ []) t ≡ true → within t s ≡ true
    by s [] i j = refl
    by s (x ∷ t) i j = absurd (true≢false (sym j))

    up_to_none : (order : Option ℕ) → UpTo order []
    up_to_none None = tt
    up_to_none (Some k) = record { list = []; within = record { each = λ e o. o }; few = omega arith }

    empty : (s : List ℕ) → has ([] ∷ []) s ≡ true → HasPathsUpTo order ns s
    empty [] i = (record { each = λ e o. absurd (one_none e o) }, up_to_none order)
    empty (x ∷ s) i = absurd (true≢false (sym i))
