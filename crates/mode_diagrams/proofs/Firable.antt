-- Firable sets by the modes of numbered trees.
use Rattle.std.proofs.Common.{◌≡◌, ℕ, zero, suc, ◌≤◌, List, [], ◌∷◌, length, refl, sym, ap, ◌∙◌, subst, arith}
use Rattle.ar_base.specs.Lists.{Stands, IsOneOf}
use Rattle.ar_base.proofs.Standing.{stands_within, stands_some, stands_none, one_none}
use Rattle.domains.specs.declared.Value.{Value}
use Rattle.ar_meaning.specs.Runs.{Label}
use Rattle.ar_firing.specs.Forest.{Row, ModeTree}
use Rattle.ar_firing.specs.Trees.{IsTree, AreTrees}
use Rattle.firable_families.specs.FirableInside.{LeadsToMode, root, edge, IsFirableOf}
use Rattle.mode_nodes.specs.Diagrams.{mode_of}
use Rattle.diagram_steps.specs.declared.trees.NumberedTree.{NumberedTree}
use Rattle.diagram_steps.specs.Trees.{edges_of, TreeHasEvent}
use Rattle.mode_diagrams.specs.Trees.{IsSetFrom}
use Rattle.mode_diagrams.specs.Numbers.{AreNumberedTrees, none, passed, one_and, IsNumberOf, IsByModes}
use Rattle.mode_diagrams.proofs.Ends.{IsPathTo, number_of, path_of, number_within, is_numbered, has_different}

abbrev AreTreesEach : List ModeTree → Type 0
AreTreesEach trees = (k : ℕ) (tree : ModeTree) → Stands trees k tree → IsTree tree

-- ---- the places of the numbered trees among all
place_of : {trees : List ModeTree} {ns : List NumberedTree} → AreNumberedTrees trees ns → ℕ → ℕ
place_of none k = k
place_of (passed e are) k = suc (place_of are k)
place_of (one_and is are) zero = zero
place_of (one_and is are) (suc k) = suc (place_of are k)

place_once : {trees : List ModeTree} {ns : List NumberedTree} (are : AreNumberedTrees trees ns) (j k : ℕ)
    → place_of are j ≡ place_of are k → j ≡ k
unfolding place_of
place_once none j k e = e
place_once (passed x are) j k e = place_once are j k (omega (arith, e))
place_once (one_and is are) zero zero e = refl
place_once (one_and is are) zero (suc k) e = let wrong : ⊥ = cc in absurd wrong
place_once (one_and is are) (suc j) zero e = let wrong : ⊥ = cc in absurd wrong
place_once (one_and is are) (suc j) (suc k) e = ap suc (place_once are j k (omega (arith, e)))

stands_at : {trees : List ModeTree} {ns : List NumberedTree} (are : AreNumberedTrees trees ns) (k : ℕ) (n : NumberedTree)
    → Stands ns k n → (tree : ModeTree) × Stands trees (place_of are k) tree × IsNumberOf tree n
unfolding place_of
stands_at none k n st = absurd (stands_none k n st)
stands_at (passed e are) k n st = stands_at are k n st
stands_at (one_and {tree = tree} {n = m} is are) zero n st =
    let same : m ≡ n = cc in (tree, refl, subst (IsNumberOf tree) same is)
stands_at (one_and is are) (suc k) n st = stands_at are k n st

-- ---- the modes of paths
record IsAtMode (trees : List ModeTree) (path : ℕ → List Label) (n : NumberedTree) (mode : ℕ) : Type 0 where
  pub place : ℕ
  pub tree : ModeTree
  pub stands : Stands trees place tree
  pub to : IsPathTo tree n mode (path place)

record HasMode (ns : List NumberedTree) (mode : ℕ → ℕ) (tree : ModeTree) (labels : List Label) : Type 0 where
  pub place : ℕ
  pub n : NumberedTree
  pub stands : Stands ns place n
  pub to : IsPathTo tree n (mode place) labels

record Modes (trees : List ModeTree) (ns : List NumberedTree) (path : ℕ → List Label) : Type 0 where
  pub modes : List ℕ
  pub long : length modes ≡ length ns
  pub within : (k : ℕ) (n : NumberedTree) → Stands ns k n → mode_of modes k ≤ length (edges_of n)
  pub each : (k : ℕ) (n : NumberedTree) → Stands ns k n → IsAtMode trees path n (mode_of modes k)
  pub back : (j : ℕ) (tree : ModeTree) → Stands trees j tree → (l : Label) → IsOneOf (path j) l
      → HasMode ns (mode_of modes) tree (path j)

-- no path of a tree without an edge has a label
no_label : (tree : ModeTree) (labels : List Label) (end : Value) → tree.edges ≡ [] → LeadsToMode tree labels end
    → (l : Label) → IsOneOf labels l → ⊥
no_label tree [] end e (root f) l o = one_none l o
no_label tree (x ∷ xs) end e (edge {m = m} w one) l o =
    one_none (record { from = m; label = x; to = end })
    (subst (λ z. IsOneOf z (record { from = m; label = x; to = end })) e one)

collect : (trees : List ModeTree) (ns : List NumberedTree) → AreTreesEach trees → AreNumberedTrees trees ns
    → (path : ℕ → List Label)
    → ((k : ℕ) (tree : ModeTree) → Stands trees k tree → (m : Value) × LeadsToMode tree (path k) m)
    → Modes trees ns path
collect _ _ each none path walks = record {
  modes = [];
  long = refl;
  within = λ k n st. absurd (stands_none k n st);
  each = λ k n st. absurd (stands_none k n st);
  back = λ j tree st l o. absurd (stands_none j tree st);
}
collect _ _ each (passed {tree = tree} {trees = trees} {ns = ns} e rest) path walks =
    let w = walks 0 tree refl in
    let more = collect trees ns (λ k other st. each (suc k) other st) rest (λ k. path (suc k))
    (λ k other st. walks (suc k) other st) in
    record {
      modes = more.modes;
      long = more.long;
      within = more.within;
      each = λ k n st. let x = more.each k n st in
          record { place = suc x.place; tree = x.tree; stands = x.stands; to = x.to };
      back = λ j other st l o. by w.0 w.1 more j other st l o;
    }
  where
    by : (end : Value) → LeadsToMode tree (path 0) end → (more : Modes trees ns (λ k. path (suc k))) → (j : ℕ)
        (other : ModeTree) → Stands (tree ∷ trees) j other → (l : Label) → IsOneOf (path j) l
        → HasMode ns (mode_of more.modes) other (path j)
    by end w more zero other st l o = absurd (no_label tree (path 0) end e w l o)
    by end w more (suc j) other st l o = more.back j other st l o
collect _ _ each (one_and {tree = tree} {n = n} {trees = trees} {ns = ns} is rest) path walks =
    let w = walks 0 tree refl in
    let here = number_of tree (each 0 tree refl) n is (path 0) w.0 w.1 in
    let more = collect trees ns (λ k other st. each (suc k) other st) rest (λ k. path (suc k))
    (λ k other st. walks (suc k) other st) in
    record {
      modes = here.0 ∷ more.modes;
      long = ap suc more.long;
      within = λ k m st. low here.0 (number_within tree (each 0 tree refl) n is here.0 (path 0) here.1) more k m st;
      each = λ k m st. on here.0 here.1 more k m st;
      back = λ j other st l o. by here.0 here.1 more j other st l o;
    }
  where
    low : (q : ℕ) → q ≤ length (edges_of n) → (more : Modes trees ns (λ k. path (suc k))) → (k : ℕ)
        (m : NumberedTree) → Stands (n ∷ ns) k m → mode_of (q ∷ more.modes) k ≤ length (edges_of m)
    low q h more zero m st =
        let b : n ≡ m = cc in subst (λ (y : NumberedTree). q ≤ length (edges_of y)) b h
    low q h more (suc k) m st = more.within k m st

    on : (q : ℕ) → IsPathTo tree n q (path 0) → (more : Modes trees ns (λ k. path (suc k))) → (k : ℕ)
        (m : NumberedTree) → Stands (n ∷ ns) k m → IsAtMode (tree ∷ trees) path m (mode_of (q ∷ more.modes) k)
    on q p more zero m st =
        let b : n ≡ m = cc in
        record { place = 0; tree = tree; stands = refl; to = subst (λ (y : NumberedTree). IsPathTo tree y q (path 0)) b p }
    on q p more (suc k) m st = let x = more.each k m st in
        record { place = suc x.place; tree = x.tree; stands = x.stands; to = x.to }

    by : (q : ℕ) → IsPathTo tree n q (path 0) → (more : Modes trees ns (λ k. path (suc k))) → (j : ℕ)
        (other : ModeTree) → Stands (tree ∷ trees) j other → (l : Label) → IsOneOf (path j) l
        → HasMode (n ∷ ns) (mode_of (q ∷ more.modes)) other (path j)
    by q p more zero other st l o =
        let a : tree ≡ other = cc in
        record { place = 0; n = n; stands = refl; to = subst (λ (x : ModeTree). IsPathTo x n q (path 0)) a p }
    by q p more (suc j) other st l o = let x = more.back j other st l o in
        record { place = suc x.place; n = x.n; stands = x.stands; to = x.to }

pub mode_end : (ms : List ℕ) (k : ℕ) → length ms ≤ k → mode_of ms k ≡ 0
mode_end [] k h = refl
mode_end (m ∷ ms) zero h = let wrong : ⊥ = omega (arith, h) in absurd wrong
mode_end (m ∷ ms) (suc k) h = mode_end ms k (omega (arith, h))

-- ---- the paths to modes
record Paths (trees : List ModeTree) (ns : List NumberedTree) (mode : ℕ → ℕ) : Type 0 where
  pub path : ℕ → List Label
  pub walks : (j : ℕ) (tree : ModeTree) → Stands trees j tree → (m : Value) × LeadsToMode tree (path j) m
  pub each : (k : ℕ) (n : NumberedTree) → Stands ns k n → IsAtMode trees path n (mode k)
  pub back : (j : ℕ) (tree : ModeTree) → Stands trees j tree → (l : Label) → IsOneOf (path j) l
      → HasMode ns mode tree (path j)

first_then : List Label → (ℕ → List Label) → ℕ → List Label
first_then a f zero = a
first_then a f (suc k) = f k

paths : (trees : List ModeTree) (ns : List NumberedTree) → AreTreesEach trees → AreNumberedTrees trees ns → (mode : ℕ → ℕ)
    → ((k : ℕ) (n : NumberedTree) → Stands ns k n → mode k ≤ length (edges_of n)) → Paths trees ns mode
unfolding first_then
paths _ _ each none mode within = record {
  path = λ k. [];
  walks = λ j tree st. absurd (stands_none j tree st);
  each = λ k n so. absurd (stands_none k n so);
  back = λ j tree st l o. absurd (stands_none j tree st);
}
paths _ _ each (passed {tree = tree} {trees = trees} {ns = ns} e rest) mode within =
    let more = paths trees ns (λ k other st. each (suc k) other st) rest mode within in
    record {
      path = first_then [] more.path;
      walks = λ j other st. on more j other st;
      each = λ k n st. let x = more.each k n st in
          record { place = suc x.place; tree = x.tree; stands = x.stands; to = x.to };
      back = λ j other st l o. by more j other st l o;
    }
  where
    on : (more : Paths trees ns mode) (j : ℕ) (other : ModeTree) → Stands (tree ∷ trees) j other
        → (m : Value) × LeadsToMode other (first_then [] more.path j) m
    on more zero other st = (other.first, root refl)
    on more (suc j) other st = more.walks j other st

    by : (more : Paths trees ns mode) (j : ℕ) (other : ModeTree) → Stands (tree ∷ trees) j other → (l : Label)
        → IsOneOf (first_then [] more.path j) l → HasMode ns mode other (first_then [] more.path j)
    by more zero other st l o = absurd (one_none l o)
    by more (suc j) other st l o = more.back j other st l o
paths _ _ each (one_and {tree = tree} {n = n} {trees = trees} {ns = ns} is rest) mode within =
    let here = path_of tree (each 0 tree refl) n is (suc (mode 0)) (mode 0) (omega arith) (within 0 n refl) in
    let more = paths trees ns (λ k other st. each (suc k) other st) rest (λ k. mode (suc k))
    (λ k other st. within (suc k) other st) in
    record {
      path = first_then here.0 more.path;
      walks = λ j other st. on here.0 here.1 more j other st;
      each = λ k m st. at here.0 here.1 more k m st;
      back = λ j other st l o. by here.0 here.1 more j other st l o;
    }
  where
    on : (ls : List Label) → IsPathTo tree n (mode 0) ls → (more : Paths trees ns (λ k. mode (suc k))) (j : ℕ)
        (other : ModeTree) → Stands (tree ∷ trees) j other
        → (m : Value) × LeadsToMode other (first_then ls more.path j) m
    on ls p more zero other st =
        let a : tree ≡ other = cc in (p.end, subst (λ (x : ModeTree). LeadsToMode x ls p.end) a p.leads)
    on ls p more (suc j) other st = more.walks j other st

    at : (ls : List Label) → IsPathTo tree n (mode 0) ls → (more : Paths trees ns (λ k. mode (suc k))) (k : ℕ)
        (m : NumberedTree) → Stands (n ∷ ns) k m → IsAtMode (tree ∷ trees) (first_then ls more.path) m (mode k)
    at ls p more zero m st =
        let b : n ≡ m = cc in
        record { place = 0; tree = tree; stands = refl; to = subst (λ (y : NumberedTree). IsPathTo tree y (mode 0) ls) b p }
    at ls p more (suc k) m st = let x = more.each k m st in
        record { place = suc x.place; tree = x.tree; stands = x.stands; to = x.to }

    by : (ls : List Label) → IsPathTo tree n (mode 0) ls → (more : Paths trees ns (λ k. mode (suc k))) (j : ℕ)
        (other : ModeTree) → Stands (tree ∷ trees) j other → (l : Label)
        → IsOneOf (first_then ls more.path j) l → HasMode (n ∷ ns) mode other (first_then ls more.path j)
    by ls p more zero other st l o =
        let a : tree ≡ other = cc in
        record { place = 0; n = n; stands = refl; to = subst (λ (x : ModeTree). IsPathTo x n (mode 0) ls) a p }
    by ls p more (suc j) other st l o = let x = more.back j other st l o in
        record { place = suc x.place; n = x.n; stands = x.stands; to = x.to }

module _ (trees : List ModeTree) (ns : List NumberedTree) (t : AreTrees trees) (are : AreNumberedTrees trees ns) where
  modes_of : (set : List ℕ) → IsFirableOf trees set → (modes : List ℕ) × IsSetFrom ns 0 modes set
  modes_of set f =
      let w = collect trees ns t.each are f.path f.walks in (
        w.modes,
        record {
          ends = λ k l. mode_end w.modes k (omega (arith, l, w.long));
          within = λ k n l st. w.within k n st;
          sound = λ e o.
              let x = f.whole e o in
              let b = w.back x.0 x.1 x.3 x.2 x.4 in
              (b.place, b.n, omega arith, b.stands, b.to.back e (x.2, x.4, x.5));
          whole = λ k n e l st p.
              let b = w.each k n st in
              let y = b.to.to e p in
              subst (IsOneOf set) y.2 (f.sound b.place b.tree b.stands y.1.place y.0 y.1.stands);
        },
      )

  firable_of : (modes set : List ℕ) → IsSetFrom ns 0 modes set → IsFirableOf trees set
  firable_of modes set s =
      let w = paths trees ns t.each are (mode_of modes) (λ k n st. s.within k n (omega arith) st) in
      record {
        path = w.path;
        walks = w.walks;
        sound = λ k tree st j l so.
            let o : IsOneOf (w.path k) l = record { place = j; stands = so } in
            let b = w.back k tree st l o in
            s.whole b.place b.n l.event (omega arith) b.stands (b.to.back l.event (l, o, refl));
        whole = λ e o.
            let x = s.sound e o in
            let b = w.each x.0 x.1 x.3 in
            let y = b.to.to e x.4 in
            (b.place, b.tree, y.0, b.stands, y.1, y.2);
      }

  row_of : (k : ℕ) (n : NumberedTree) (e : ℕ) → Stands ns k n → TreeHasEvent n e
      → (tree : ModeTree) × (r : Row) × Stands trees (place_of are k) tree × IsOneOf tree.edges r × (r.label.event ≡ e)
  row_of k n e st h =
      let b = stands_at are k n st in
      let j = h.one.place in
      let row = stands_some b.0.edges j (omega (arith, b.2.long, stands_within (edges_of n) j h.edge h.one.stands)) in
      (b.0, row.0, b.1, record { place = j; stands = row.1 }, sym (b.2.event j row.0 h.edge row.1 h.one.stands) ∙ h.is)

  pub by_modes : IsByModes trees ns
  by_modes = record {
    numbered = record {
      each = λ k n st. let b = stands_at are k n st in is_numbered b.0 (t.each (place_of are k) b.0 b.1) n b.2;
    };
    apart = record {
      one = λ j k n m e st so hn hm.
          let a = row_of j n e st hn in
          let b = row_of k m e so hm in
          place_once are j k (t.apart.one (place_of are j) (place_of are k) a.0 b.0 a.1.from a.1.to b.1.from b.1.to a.1.label b.1.label a.2 b.2 a.3 b.3 (a.4 ∙ sym b.4));
    };
    different = record {
      each = λ k n st. let b = stands_at are k n st in has_different b.0 (t.each (place_of are k) b.0 b.1) n b.2;
    };
    modes = modes_of;
    firable = firable_of;
  }
