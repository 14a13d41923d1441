-- Sets on paths of the old trees, and those of the new.
use Rattle.std.proofs.Common.{◌≡◌, ◌⊎◌, inl, inr, ℕ, zero, suc, ◌<◌, ◌≤◌, List, [], ◌∷◌, length, map, refl, sym, ap, ◌∙◌, subst, arith}
use Rattle.std.proofs.lemmas.List.{length-map}
use Rattle.ar_base.specs.Lists.{Stands, IsOneOf}
use Rattle.ar_base.specs.NumbersInside.{EventId}
use Rattle.ar_base.proofs.Standing.{stands_one, stands_within, stands_some, stands_map, along_on, along_back, along_length}
use Rattle.diagram_steps.specs.declared.trees.NumberedEdge.{NumberedEdge}
use Rattle.diagram_steps.specs.declared.trees.NumberedTree.{NumberedTree}
use Rattle.diagram_steps.specs.Trees.{edges_of, TreeHasEvent}
use Rattle.mode_nodes.specs.Diagrams.{mode_of}
use Rattle.mode_diagrams.specs.Trees.{IsOnPath, last, earlier, AreApart, IsSetFrom}
use Rattle.mode_diagrams.proofs.Firable.{mode_end}
use Rattle.mode_diagrams.proofs.Laws.{path_event}
use Rattle.named_families.specs.Names.{IsNamedBy}
use Rattle.event_order.specs.Renumbered.{IsRenumbered, AreRenumbered}
use Rattle.event_order.proofs.Taken.{old_event}
use Rattle.event_order.proofs.Parts.{IsPartBy, mode_at, looked}

no_path : (edges : List NumberedEdge) (e m : ℕ) → m ≡ 0 → IsOnPath edges e m → ⊥
no_path edges e m z (last n st is) = let wrong : ⊥ = omega (arith, z, n) in wrong
no_path edges e m z (earlier n st p) = let wrong : ⊥ = omega (arith, z, n) in wrong

-- ---- paths
module _ (names : List EventId) (old new : NumberedTree) (r : IsRenumbered names old new) where
  path_new : (e m : ℕ) → IsOnPath (edges_of old) e m
      → (i : ℕ) × (n : EventId) × Stands names i n × (n.n ≡ e) × IsOnPath (edges_of new) i m
  path_new e m (last {m = k} {edge = edge} up st is) =
      let b = stands_some (edges_of new) k (let w = stands_within (edges_of old) k edge st in omega (arith, w, r.long)) in
      (b.0.event.n, edge.event, r.event k edge b.0 st b.1, is, last up b.1 refl)
  path_new e m (earlier {m = k} {edge = edge} up st p) =
      let b = stands_some (edges_of new) k (let w = stands_within (edges_of old) k edge st in omega (arith, w, r.long)) in
      let w = path_new e edge.from p in (
        w.0,
        w.1,
        w.2,
        w.3,
        earlier up b.1 (subst (λ j. IsOnPath (edges_of new) w.0 j) (sym (r.from k edge b.0 st b.1)) w.4),
      )

  path_old : (i m : ℕ) → IsOnPath (edges_of new) i m
      → (n : EventId) × Stands names i n × IsOnPath (edges_of old) n.n m
  path_old i m (last {m = k} {edge = edge} up st is) =
      let a = stands_some (edges_of old) k (let w = stands_within (edges_of new) k edge st in omega (arith, w, r.long)) in
      (a.0.event, subst (λ j. Stands names j a.0.event) is (r.event k a.0 edge a.1 st), last up a.1 refl)
  path_old i m (earlier {m = k} {edge = edge} up st p) =
      let a = stands_some (edges_of old) k (let w = stands_within (edges_of new) k edge st in omega (arith, w, r.long)) in
      let w = path_old i edge.from p in (
        w.0,
        w.1,
        earlier up a.1 (subst (λ j. IsOnPath (edges_of old) w.0.n j) (r.from k a.0 edge a.1 st) w.2),
      )

-- ---- lists of modes
abbrev up_to : (ℕ → ℕ) → ℕ → List ℕ
up_to g zero = []
up_to g (suc c) = g 0 ∷ up_to (λ k. g (suc k)) c

up_to_at : (g : ℕ → ℕ) (c k : ℕ) → k < c → mode_of (up_to g c) k ≡ g k
up_to_at g zero k l = absurd (omega (arith, l))
up_to_at g (suc c) zero l = refl
up_to_at g (suc c) (suc k) l = up_to_at (λ j. g (suc j)) c k (omega (arith, l))

up_to_long : (g : ℕ → ℕ) (c : ℕ) → length (up_to g c) ≡ c
up_to_long g zero = refl
up_to_long g (suc c) = ap suc (up_to_long (λ j. g (suc j)) c)

module _ (names : List EventId) (olds news : List NumberedTree) (r : AreRenumbered names olds news) where
  -- ---- from new modes to old ones
  module _ (modes t s : List ℕ) (is : IsSetFrom news 0 modes t) (b : IsNamedBy names t s) where
    abbrev mode_at_place : ℕ → ℕ
    mode_at_place p = (looked r.places (mode_of modes) p).0

    abbrev old_modes : List ℕ
    old_modes = up_to mode_at_place (length olds)

    -- the mode of a place among the old trees
    abbrev IsModeAt : ℕ → ℕ → Type 0
    IsModeAt p m = ((k : ℕ) × Stands r.places k p × (m ≡ mode_of modes k))
        ⊎ (((k : ℕ) → Stands r.places k p → ⊥) × (m ≡ 0))

    mode_there : (p : ℕ) → p < length olds → IsModeAt p (mode_of old_modes p)
    mode_there p l = subst (IsModeAt p) (sym (up_to_at mode_at_place (length olds) p l)) (looked r.places (mode_of modes) p).1

    old_within : (p : ℕ) (tree : NumberedTree) → Stands olds p tree → (m : ℕ) → IsModeAt p m → m ≤ length (edges_of tree)
    old_within p tree st m (inl w) =
        let x = along_on r.places news r.trees w.0 p w.1 in
        let same = stands_one olds p x.2.old tree x.2.stands st in
        let l = is.within w.0 x.0 (omega arith) x.1 in
        let long : length (edges_of x.0) ≡ length (edges_of tree) =
        x.2.is.long ∙ ap (λ (y : NumberedTree). length (edges_of y)) same in
        omega (arith, l, long, w.2)
    old_within p tree st m (inr w) = omega (arith, w.1)

    old_mode : (k p : ℕ) → Stands r.places k p → (m : ℕ) → IsModeAt p m → m ≡ mode_of modes k
    old_mode k p st m (inl w) = w.2 ∙ ap (mode_of modes) (r.once.one w.0 k p w.1 st)
    old_mode k p st m (inr w) = absurd (w.0 k st)

    old_sound : (e : ℕ) → IsOneOf s e
        → (p : ℕ) × (tree : NumberedTree) × (0 ≤ p) × Stands olds p tree × IsOnPath (edges_of tree) e (mode_of old_modes p)
    old_sound e o =
        let x = b.sound e o in
        let y = is.sound x.0 x.2 in
        let z = along_back r.places news r.trees y.0 y.1 y.3 in
        let q = path_old names z.2.old y.1 z.2.is x.0 (mode_of modes y.0) y.4 in
        let event : q.0.n ≡ e = ap (λ (n : EventId). n.n) (stands_one names x.0 q.0 x.1 q.1 x.3) ∙ x.4 in
        let there = mode_there z.0 (stands_within olds z.0 z.2.old z.2.stands) in
        let mode = old_mode y.0 z.0 z.1 (mode_of old_modes z.0) there in (
          z.0,
          z.2.old,
          omega arith,
          z.2.stands,
          subst (λ m. IsOnPath (edges_of z.2.old) e m) (sym mode)
              (subst (λ n. IsOnPath (edges_of z.2.old) n (mode_of modes y.0)) event q.2),
        )

    old_whole : (p : ℕ) (tree : NumberedTree) (e : ℕ) → Stands olds p tree → (m : ℕ) → IsModeAt p m
        → IsOnPath (edges_of tree) e m → IsOneOf s e
    old_whole p tree e st m (inl w) path =
        let x = along_on r.places news r.trees w.0 p w.1 in
        let same = stands_one olds p tree x.2.old st x.2.stands in
        let y = path_new names x.2.old x.0 x.2.is e (mode_of modes w.0)
        (subst (λ j. IsOnPath (edges_of x.2.old) e j) w.2
        (subst (λ (z : NumberedTree). IsOnPath (edges_of z) e m) same path)) in
        let o = is.whole w.0 x.0 y.0 (omega arith) x.1 y.4 in
        let z = b.whole y.0 o in
        subst (λ n. IsOneOf s n) (ap (λ (n : EventId). n.n) (stands_one names y.0 z.0 y.1 z.1 y.2) ∙ y.3) z.2
    old_whole p tree e st m (inr w) path = absurd (no_path (edges_of tree) e m w.1 path)

    pub set_old : (ms : List ℕ) × IsSetFrom olds 0 ms s
    set_old = (
      old_modes,
      record {
        ends = λ k l. old_ends k l;
        within = λ k tree l st. old_within k tree st (mode_of old_modes k) (mode_there k (stands_within olds k tree st));
        sound = λ e o. old_sound e o;
        whole = λ k tree e l st path.
            old_whole k tree e st (mode_of old_modes k) (mode_there k (stands_within olds k tree st)) path;
      },
    )
      where
        old_ends : (k : ℕ) → length olds ≤ k → mode_of old_modes k ≡ 0
        old_ends k l = mode_end old_modes k (omega (arith, l, up_to_long mode_at_place (length olds)))

  -- ---- from old modes to new ones
  module _ (apart : AreApart olds) (modes s t : List ℕ) (is : IsSetFrom olds 0 modes s) (part : IsPartBy names t s) where
    abbrev new_modes : List ℕ
    new_modes = map (mode_of modes) r.places

    new_mode : (k p : ℕ) → Stands r.places k p → mode_of new_modes k ≡ mode_of modes p
    new_mode k p st = mode_at (map (mode_of modes) r.places) k (mode_of modes p)
        (stands_map (mode_of modes) r.places k p st)

    new_ends : (k : ℕ) → length news ≤ k → mode_of new_modes k ≡ 0
    new_ends k l = mode_end (map (mode_of modes) r.places) k
        (omega (arith, l, length-map r.places (mode_of modes), along_length r.places news r.trees))

    new_sound : (i : ℕ) → IsOneOf t i
        → (k : ℕ) × (tree : NumberedTree) × (0 ≤ k) × Stands news k tree × IsOnPath (edges_of tree) i (mode_of new_modes k)
    new_sound i o =
        let x = part.sound i o in
        let y = is.sound x.0.n x.2 in
        let u = r.used i x.0 x.1 in
        let z = along_back r.places news r.trees u.0 u.1 u.2 in
        let q = old_event names z.2.old u.1 z.2.is i u.3 in
        let name : q.0 ≡ x.0 = stands_one names i q.0 x.0 q.1 x.1 in
        let here : y.0 ≡ z.0 = apart.one y.0 z.0 y.1 z.2.old x.0.n y.3 z.2.stands
        (path_event y.1 x.0.n (mode_of modes y.0) y.4)
        (subst (λ (n : EventId). TreeHasEvent z.2.old n.n) name q.2) in
        let tree : y.1 ≡ z.2.old =
        stands_one olds z.0 y.1 z.2.old (subst (λ j. Stands olds j y.1) here y.3) z.2.stands in
        let path : IsOnPath (edges_of z.2.old) x.0.n (mode_of modes z.0) =
        subst (λ (w : NumberedTree). IsOnPath (edges_of w) x.0.n (mode_of modes z.0)) tree
        (subst (λ j. IsOnPath (edges_of y.1) x.0.n (mode_of modes j)) here y.4) in
        let w = path_new names z.2.old u.1 z.2.is x.0.n (mode_of modes z.0) path in
        let number : w.0 ≡ i = r.distinct.one w.0 i w.1 x.0 w.2 x.1 w.3 in (
          u.0,
          u.1,
          omega arith,
          u.2,
          subst (λ m. IsOnPath (edges_of u.1) i m) (sym (new_mode u.0 z.0 z.1))
              (subst (λ j. IsOnPath (edges_of u.1) j (mode_of modes z.0)) number w.4),
        )

    new_whole : (k : ℕ) (tree : NumberedTree) (i : ℕ) → Stands news k tree
        → IsOnPath (edges_of tree) i (mode_of new_modes k) → IsOneOf t i
    new_whole k tree i st path =
        let z = along_back r.places news r.trees k tree st in
        let q = path_old names z.2.old tree z.2.is i (mode_of modes z.0)
        (subst (λ m. IsOnPath (edges_of tree) i m) (new_mode k z.0 z.1) path) in
        part.whole i q.0 q.1 (is.whole z.0 z.2.old q.0.n (omega arith) z.2.stands q.2)

    new_within : (k : ℕ) (tree : NumberedTree) → Stands news k tree → mode_of new_modes k ≤ length (edges_of tree)
    new_within k tree st =
        let z = along_back r.places news r.trees k tree st in
        let l = is.within z.0 z.2.old (omega arith) z.2.stands in
        omega (arith, l, new_mode k z.0 z.1, z.2.is.long)

    pub set_new : (ms : List ℕ) × IsSetFrom news 0 ms t
    set_new = (
      new_modes,
      record {
        ends = λ k l. new_ends k l;
        within = λ k tree l st. new_within k tree st;
        sound = λ e o. new_sound e o;
        whole = λ k tree e l st path. new_whole k tree e st path;
      },
    )
