-- The line of a firable set is that of its paths in the trees, and the labels of its events' edges.
use Rattle.std.proofs.Common.{◌≡◌, ◌<◌, ◌≤◌, ◌-◌, ◌+◌, ◌⊎◌, inl, inr, ⊎_elim, ℕ, zero, suc, Bool, true, false, cond, List, [], ◌∷◌, ◌++◌, map, reverse, Option, refl, sym, ◌∙◌, ap, subst, arith}
use Rattle.std.proofs.lemmas.Bool.{cases_order}
use Rattle.ar_base.specs.Lists.{Stands, IsOneOf}
use Rattle.ar_base.proofs.Standing.{stands_one, stands_none, one_first, one_rest}
use Rattle.domains.specs.declared.Value.{Value}
use Rattle.ar_meaning.specs.Systems.{Variable, System}
use Rattle.ar_meaning.specs.FactsInside.{AreKeyed}
use Rattle.ar_meaning.specs.Runs.{Label}
use Rattle.ar_firing.specs.Fragment as sys_
use Rattle.ar_firing.specs.Fragment.{Path, Edge, IsModeOf}
use Rattle.ar_firing.specs.Static.{IsStatic}
use Rattle.ar_firing.specs.Cuts.{IsFirable}
use Rattle.ar_firing.specs.Forest.{IsModeVariable, IsForest, IsLine, firing_line}
use Rattle.ar_firing.specs.Forest as firing
use Rattle.ar_firing.specs.Trees.{AreTrees}
use Rattle.ar_firing.proofs.Shapes.{are_trees}
use Rattle.gts_core.specs.declared.system.GtsParts.{GtsParts}
use Rattle.gts_core.specs.declared.system.Way.{Way}
use Rattle.mode_trees.specs.Views.{edge_row, tree_of, number_in, number_of_found}
use Rattle.mode_trees.specs.Ways.{HasOwnWay, OwnTheirWays}
use Rattle.mode_trees.specs.declared.forests.Edge as edges
use Rattle.mode_trees.specs.declared.forests.ModeTree as code
use Rattle.firable_families.specs.FirableInside.{IsFirableOf}
use Rattle.min_cuts.specs.Lines.{line_from, IsInFiringOrder}
use Rattle.text_pieces.specs.WayLabels.{way_label_found, numbered_label}
use Rattle.cut_text.specs.Printed.{forest_edges, way_in, labels_in}
use Rattle.cut_text.proofs.TableLemmas.{tree_of_edge}
use Rattle.cut_text.proofs.Known.{first_way}
use Rattle.cut_text.proofs.Relabelled.{one_way, edge_on_line, renumbered}
use Rattle.cut_text.proofs.InSystem.{in_system}

-- a variable with an edge is a mode variable
is_of_mode : {V : Type 0} {sys : System V} {dropped : List ℕ} {l : Label} {n : ℕ} {from to : Value}
    (e : Edge sys dropped l n from to) (unit : ℕ) → e.is_open.is_kept.is_way.event.unit ≡ unit
    → IsModeOf sys unit e.way n
    → IsModeVariable sys dropped n
is_of_mode {l = l} e unit i (sys_.named f) = record {
  variable = f.item;
  stands = f.stands;
  is_state = f.has.is_state;
  moves = record { label = l; way = e.way; is_kept = e.is_open.is_kept; is_unit = i ∙ sym f.has.is_unit };
}
is_of_mode {l = l} e unit i (sys_.first h f) = record {
  variable = f.item;
  stands = f.stands;
  is_state = f.has.is_state;
  moves = record { label = l; way = e.way; is_kept = e.is_open.is_kept; is_unit = i ∙ sym f.has.is_unit };
}

-- a path of another variable is empty
no_path : {V : Type 0} {sys : System V} {dropped : List ℕ} {n : ℕ} {ls : List Label} {m : Value}
    → Path sys dropped n ls m
    → (IsModeVariable sys dropped n → ⊥) → ls ≡ []
no_path (sys_.root s i e) h = refl
no_path (sys_.edge p e) h = absurd (h (is_of_mode e e.is_open.is_kept.is_way.event.unit refl e.is_mode))

module _ {V : Type 0} (sys : System V) (dropped : List ℕ) (keyed : AreKeyed sys.net) (static : IsStatic sys dropped)
    (trees : List firing.ModeTree) (forest : IsForest sys dropped trees) (set : List ℕ) (t : List Value)
    (f : IsFirable sys dropped set t) (path : ℕ → List Label)
    (at_tree : (k : ℕ) (tree : firing.ModeTree) → Stands trees k tree → f.path tree.variable ≡ path k) where
  -- a variable that has no tree adds nothing to the line
  adds_none : (n : ℕ) (x : Variable V) → Stands sys.net.variables n x → (IsModeVariable sys dropped n → ⊥)
      → cond x.is_state (reverse (f.path n)) [] ≡ []
  adds_none n x s h = step x.is_state refl
    where
      step : (b : Bool) → x.is_state ≡ b → cond x.is_state (reverse (f.path n)) [] ≡ []
      step true e =
          ap (λ b. cond b (reverse (f.path n)) []) e ∙ ap reverse (no_path (f.walks n x s e).2 h)
      step false e = ap (λ b. cond b (reverse (f.path n)) []) e

  -- what is left of the variables, from number n on, and of the trees, from place k on
  record AreLeft (n k : ℕ) (xs : List (Variable V)) (ts : List firing.ModeTree) : Type 0 where
    pub variables : (j : ℕ) (x : Variable V) → Stands xs j x → Stands sys.net.variables (n + j) x
    pub no_more : (m : ℕ) (x : Variable V) → n ≤ m → Stands sys.net.variables m x → Stands xs (m - n) x
    pub trees_are : (j : ℕ) (tree : firing.ModeTree) → Stands ts j tree → Stands trees (k + j) tree
    pub low : (j : ℕ) (tree : firing.ModeTree) → Stands ts j tree → n ≤ tree.variable
    pub whole : (m : ℕ) → n ≤ m → IsModeVariable sys dropped m → (j : ℕ) × (tree : firing.ModeTree) × Stands ts j tree
        × (tree.variable ≡ m)

  -- one variable less, with no tree
  without : (n k : ℕ) (x : Variable V) (xs : List (Variable V)) (ts : List firing.ModeTree) → AreLeft n k (x ∷ xs) ts
      → ((j : ℕ) (tree : firing.ModeTree) → Stands ts j tree → n < tree.variable) → AreLeft (suc n) k xs ts
  without n k x xs ts a above = record {
    variables = λ j y s. let e : n + suc j ≡ suc n + j = omega arith in
        subst (λ (z : ℕ). Stands sys.net.variables z y) e (a.variables (suc j) y s);
    no_more = λ m y l s. let e : m - n ≡ suc (m - suc n) = omega (arith, l) in
        subst (λ (z : ℕ). Stands (x ∷ xs) z y) e (a.no_more m y (omega (arith, l)) s);
    trees_are = a.trees_are;
    low = λ j tree s. let l = above j tree s in omega (arith, l);
    whole = λ m l h. a.whole m (omega (arith, l)) h;
  }

  -- one variable less, with its tree
  with_tree : (n k : ℕ) (x : Variable V) (xs : List (Variable V)) (u : firing.ModeTree) (ts : List firing.ModeTree)
      → AreLeft n k (x ∷ xs) (u ∷ ts) → u.variable ≡ n → AreLeft (suc n) (suc k) xs ts
  with_tree n k x xs u ts a e = record {
    variables = λ j y s. let e : n + suc j ≡ suc n + j = omega arith in
        subst (λ (z : ℕ). Stands sys.net.variables z y) e (a.variables (suc j) y s);
    no_more = λ m y l s. let e : m - n ≡ suc (m - suc n) = omega (arith, l) in
        subst (λ (z : ℕ). Stands (x ∷ xs) z y) e (a.no_more m y (omega (arith, l)) s);
    trees_are = λ j tree s. let e : k + suc j ≡ suc k + j = omega arith in
        subst (λ (z : ℕ). Stands trees z tree) e (a.trees_are (suc j) tree s);
    low = λ j tree s.
        let l = forest.ascends (k + zero) (k + suc j) u tree (omega arith) (a.trees_are zero u refl)
        (a.trees_are (suc j) tree s) in
        omega (arith, l, e);
    whole = λ m l h. found m l (a.whole m (omega (arith, l)) h);
  }
    where
      found : (m : ℕ) → suc n ≤ m → (j : ℕ) × (tree : firing.ModeTree) × Stands (u ∷ ts) j tree × (tree.variable ≡ m)
          → (j : ℕ) × (tree : firing.ModeTree) × Stands ts j tree × (tree.variable ≡ m)
      found m l (zero, tree, s, i) = let q : u ≡ tree = cc in absurd
          (omega (arith, l, e, i, ap (λ (z : firing.ModeTree). z.variable) q))
      found m l (suc j, tree, s, i) = (j, tree, s, i)

  -- the first tree's variable is the least
  least : (n k : ℕ) (xs : List (Variable V)) (u : firing.ModeTree) (ts : List firing.ModeTree) → AreLeft n k xs (u ∷ ts)
      → (j : ℕ) (tree : firing.ModeTree) → Stands (u ∷ ts) j tree → u.variable ≤ tree.variable
  least n k xs u ts a zero tree s = let q : u ≡ tree = cc in omega (arith, ap (λ (z : firing.ModeTree). z.variable) q)
  least n k xs u ts a (suc j) tree s =
      let l = forest.ascends (k + zero) (k + suc j) u tree (omega arith) (a.trees_are zero u refl)
      (a.trees_are (suc j) tree s) in omega (arith, l)

  one_more : (x : Variable V) (xs : List (Variable V)) (u : firing.ModeTree) (ts : List firing.ModeTree) (n k : ℕ)
      → AreLeft n k (x ∷ xs) (u ∷ ts)
      → (u.variable ≡ n → firing_line (suc n) xs f.path ≡ line_from (suc k) ts path)
      → (((j : ℕ) (tree : firing.ModeTree) → Stands (u ∷ ts) j tree → n < tree.variable)
      → firing_line (suc n) xs f.path ≡ line_from k (u ∷ ts) path)
      → firing_line n (x ∷ xs) f.path ≡ line_from k (u ∷ ts) path
  one_more x xs u ts n k a on off = ⊎_elim
      (λ (e : u.variable ≡ n).
      let is = forest.sound (k + zero) u (a.trees_are zero u refl) in
      let same : is.is_mode.variable ≡ x =
      stands_one sys.net.variables n is.is_mode.variable x (subst
      (λ (z : ℕ). Stands sys.net.variables z is.is_mode.variable) e is.is_mode.stands) here in
      let state : x.is_state ≡ true = ap (λ (z : Variable V). z.is_state) (sym same) ∙ is.is_mode.is_state in
      let same_path : f.path n ≡ path k =
      ap f.path (sym e) ∙ at_tree k u (subst (λ (z : ℕ). Stands trees z u) at_k (a.trees_are zero u refl)) in
      ap (λ (b : Bool). cond b (reverse (f.path n)) [] ++ firing_line (suc n) xs f.path) state
      ∙ ap (λ (z : List Label). reverse z ++ firing_line (suc n) xs f.path) same_path
      ∙ ap (λ (z : List Label). reverse (path k) ++ z) (on e))
      (λ (l : n < u.variable).
      ap (λ (z : List Label). z ++ firing_line (suc n) xs f.path)
      (adds_none n x here (λ h. let w = a.whole n (omega arith) h in let low = least n k
      (x ∷ xs) u ts a w.0 w.1 w.2 in omega (arith, l, low, w.3)))
      ∙ off (λ j tree s. let low = least n k (x ∷ xs) u ts a j tree s in omega (arith, l, low)))
      (order (a.low zero u refl))
    where
      at_n : n + zero ≡ n
      at_n = omega arith

      at_k : k + zero ≡ k
      at_k = omega arith

      here : Stands sys.net.variables n x
      here = subst (λ (z : ℕ). Stands sys.net.variables z x) at_n (a.variables zero x refl)

      order : n ≤ u.variable → (u.variable ≡ n) ⊎ (n < u.variable)
      order l = ⊎_elim (λ e. inl e) (λ o. ⊎_elim (λ s. absurd (omega (arith, s, l))) (λ s. inr s) o)
          (cases_order u.variable n)

  lines_from : (xs : List (Variable V)) (ts : List firing.ModeTree) (n k : ℕ) → AreLeft n k xs ts
      → firing_line n xs f.path ≡ line_from k ts path
  lines_from [] [] n k a = refl
  lines_from [] (u ∷ ts) n k a =
      let m = forest.sound (k + zero) u (a.trees_are zero u refl) in
      absurd (stands_none (u.variable - n) m.is_mode.variable
      (a.no_more u.variable m.is_mode.variable (a.low zero u refl) m.is_mode.stands))
  lines_from (x ∷ xs) [] n k a =
      let at_n : n + zero ≡ n = omega arith in
      let here : Stands sys.net.variables n x = subst (λ (z : ℕ). Stands sys.net.variables z x) at_n
      (a.variables zero x refl) in
      ap (λ (z : List Label). z ++ firing_line (suc n) xs f.path)
      (adds_none n x here (λ h. let w = a.whole n (omega arith) h in stands_none w.0 w.1 w.2))
      ∙ lines_from xs [] (suc n) k (without n k x xs [] a (λ j tree s. absurd (stands_none j tree s)))
  lines_from (x ∷ xs) (u ∷ ts) n k a =
      one_more x xs u ts n k a
      (λ e. lines_from xs ts (suc n) (suc k) (with_tree n k x xs u ts a e))
      (λ above. lines_from xs (u ∷ ts) (suc n) k (without n k x xs (u ∷ ts) a above))

  -- the line of the set is that of its paths in the trees
  pub line_in_trees : firing_line 0 sys.net.variables f.path ≡ line_from 0 trees path
  line_in_trees = lines_from sys.net.variables trees 0 0 (record {
    variables = λ j x s. let e : j ≡ 0 + j = omega arith in subst (λ (z : ℕ). Stands sys.net.variables z x) e s;
    no_more = λ m x l s. let e : m ≡ m - 0 = omega arith in subst (λ (z : ℕ). Stands sys.net.variables z x) e s;
    trees_are = λ j tree s. let e : j ≡ 0 + j = omega arith in subst (λ (z : ℕ). Stands trees z tree) e s;
    low = λ j tree s. omega arith;
    whole = λ m l h. let w = forest.whole m h in (w.1.place, w.0, w.1.stands, w.2);
  })

-- a flat system's forest
module _ (p : GtsParts) (sys : System ℕ) (dropped : List ℕ) (keyed : AreKeyed sys.net) (static : IsStatic sys dropped)
    (ts : List code.ModeTree) (own : OwnTheirWays p ts) (forest : IsForest sys dropped
    (map (tree_of (number_in p)) ts)) where
  shapes : AreTrees (map (tree_of (number_in p)) ts)
  shapes = are_trees sys dropped keyed static (map (tree_of (number_in p)) ts) forest

  own_label : (x : edges.Edge) → IsOneOf (forest_edges ts) x → (edge_row (number_in p) x).label ≡ numbered_label p x.way.n
  own_label x o =
      let t = tree_of_edge ts x o in
      let h : HasOwnWay p x = (own.each t.0 t.1).each x t.2 in
      ap (λ (w : Option Way). (let k : Label = record { event = x.event.n; way = number_of_found w } in k)) h.stands
      ∙ ap (λ (n : ℕ). (let k : Label = record { event = n; way = h.way.number - 1 } in k)) (sym h.is_event)
      ∙ sym (ap way_label_found h.stands)

  -- the label of the edge of an event on a line
  back : (set : List ℕ) (f : IsFirableOf (map (tree_of (number_in p)) ts) set) (l : Label)
      → IsOneOf (line_from 0 (map (tree_of (number_in p)) ts) f.path) l → numbered_label p (way_in (forest_edges ts) l.event) ≡ l
  back set f l o =
      let x = edge_on_line (number_in p) ts set f l o in
      ap (λ (k : Label). numbered_label p (way_in (forest_edges ts) k.event)) (sym x.2)
      ∙ ap (numbered_label p) (first_way (forest_edges ts) (one_way (number_in p) (number_in p) ts shapes) x.0 x.1)
      ∙ sym (own_label x.0 x.1) ∙ x.2

  all_back : (ls : List Label) → ((l : Label) → IsOneOf ls l → numbered_label p (way_in (forest_edges ts) l.event) ≡ l)
      → map (λ e. numbered_label p (way_in (forest_edges ts) e)) (map (λ (l : Label). l.event) ls) ≡ ls
  all_back [] h = refl
  all_back (l ∷ ls) h =
      ap (λ (z : Label). z ∷ map (λ e. numbered_label p (way_in (forest_edges ts) e)) (map (λ (l : Label). l.event) ls))
      (h l (one_first l ls))
      ∙ ap (λ (z : List Label). l ∷ z) (all_back ls (λ k o. h k (one_rest l ls k o)))

  -- the labels of the edges of a set's events in firing order are its line
  pub flat_line : (set : List ℕ) (events : List ℕ) → IsInFiringOrder (map (tree_of (λ n. n)) ts) set events
      → IsLine sys dropped set (labels_in p (forest_edges ts) events)
  flat_line set events given =
      let numbers : List firing.ModeTree = map (tree_of (number_in p)) ts in
      let g = renumbered (number_in p) ts set given.is_firable in
      let r = in_system sys dropped keyed static numbers forest set g.0 in
      let line : List Label = line_from 0 numbers g.0.path in
      let same : events ≡ map (λ (l : Label). l.event) line = given.is ∙ sym g.1 in
      record {
        values = r.0;
        is_firable = r.1;
        is = ap (map (λ e. numbered_label p (way_in (forest_edges ts) e))) same
            ∙ all_back line (λ l o. back set g.0 l o)
            ∙ sym (line_in_trees sys dropped keyed static numbers forest set r.0 r.1 g.0.path r.2);
      }
