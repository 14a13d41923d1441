-- The trees of a forest, whichever numbers their ways have, and its edges by their events.
use Rattle.std.proofs.Common.{◌≡◌, inl, inr, ⊎_elim, ◌+◌, ℕ, zero, suc, List, [], ◌∷◌, ◌++◌, map, reverse, refl, sym, ◌∙◌, ap, ap₂, subst, arith}
use Rattle.std.proofs.lemmas.List.{reverse-append, map-append}
use Rattle.ar_base.specs.Lists.{Stands, IsOneOf}
use Rattle.ar_base.proofs.Standing.{stands_one, stands_map, stands_map_back, one_here, one_first, one_rest, one_cases, one_none, one_split, along_back}
use Rattle.domains.specs.declared.Value.{Value}
use Rattle.ar_meaning.specs.Runs.{Label}
use Rattle.ar_firing.specs.Forest.{Row}
use Rattle.ar_firing.specs.Forest as firing
use Rattle.ar_firing.specs.Trees.{IsTree, AreTrees}
use Rattle.mode_trees.specs.Views.{edge_row, tree_of}
use Rattle.mode_trees.specs.declared.forests.Edge.{Edge}
use Rattle.mode_trees.specs.declared.forests.ModeTree.{ModeTree}
use Rattle.firable_families.specs.FirableInside.{LeadsToMode, IsFirableOf}
use Rattle.firable_families.specs.FirableInside.LeadsToMode.{root, edge}
use Rattle.min_cuts.specs.Lines.{line_from, IsInFiringOrder, AreInFiringOrder}
use Rattle.cut_text.specs.Printed.{forest_edges, HaveOneWay, AreOfEdges}
use Rattle.cut_text.proofs.TableLemmas.{edge_in, tree_of_edge}

-- edges that differ in the number of their way alone
record Alike (q r : Row) : Type 0 where
  pub from : q.from ≡ r.from
  pub to : q.to ≡ r.to
  pub event : q.label.event ≡ r.label.event

module _ (number other : ℕ → ℕ) where
  row_there : (es : List Edge) (k : ℕ) (r : Row) → Stands (map (edge_row other) es) k r
      → (q : Row) × Stands (map (edge_row number) es) k q × Alike q r
  row_there es k r s =
      let b = stands_map_back (edge_row other) es k r s in (
        edge_row number b.0,
        stands_map (edge_row number) es k b.0 b.1,
        record {
          from = ap (λ (z : Row). z.from) b.2;
          to = ap (λ (z : Row). z.to) b.2;
          event = ap
              (λ (z : Row). z.label.event) b.2;
        },
      )

module _ (number other : ℕ → ℕ) (t : ModeTree) (h : IsTree (tree_of number t)) where
  tree_as : IsTree (tree_of other t)
  tree_as = record {
    from = λ k r s.
        let a = row_there number other t.edges.items k r s in
        ⊎_elim
        (λ (i : a.0.from ≡ t.first). inl (sym a.2.from ∙ i))
        (λ p.
        let b = row_there other number t.edges.items p.0 p.1 p.3 in
        inr (p.0, b.0, p.2, b.1, b.2.to ∙ p.4 ∙ a.2.from))
        (h.from k a.0 a.1);
    begins = λ k r s i.
        let a = row_there number other t.edges.items k r s in h.begins k a.0 a.1 (a.2.to ∙ i);
    enters = λ j k q r s u i.
        let a = row_there number other t.edges.items j q s in
        let b = row_there number other t.edges.items k r u in
        h.enters j k a.0 b.0 a.1 b.1 (a.2.to ∙ i ∙ sym b.2.to);
    event = λ j k q r s u i.
        let a = row_there number other t.edges.items j q s in
        let b = row_there number other t.edges.items k r u in
        h.event j k a.0 b.0 a.1 b.1 (a.2.event ∙ i ∙ sym b.2.event);
  }

module _ (number other : ℕ → ℕ) (ts : List ModeTree) (h : AreTrees (map (tree_of number) ts)) where
  each_as : (k : ℕ) (tree : firing.ModeTree) → Stands (map (tree_of other) ts) k tree → IsTree tree
  each_as k tree s =
      let b = stands_map_back (tree_of other) ts k tree s in
      subst (λ (z : firing.ModeTree). IsTree z) b.2 (tree_as number other b.0
      (h.each k (tree_of number b.0) (stands_map (tree_of number) ts k b.0 b.1)))

  -- the trees are trees whichever numbers their ways have
  pub trees_as : AreTrees (map (tree_of other) ts)
  trees_as = record {
    each = each_as;
    apart = record {
      one = λ j k s t a b c d l m x y p q e.
          let u = stands_map_back (tree_of other) ts j s x in
          let v = stands_map_back (tree_of other) ts k t y in
          let p2 : IsOneOf (map (edge_row other) u.0.edges.items) (record { from = a; label = l; to = b }) = subst
          (λ (z : firing.ModeTree). IsOneOf z.edges (record { from = a; label = l; to = b })) (sym u.2) p in
          let q2 : IsOneOf (map (edge_row other) v.0.edges.items) (record { from = c; label = m; to = d }) = subst
          (λ (z : firing.ModeTree). IsOneOf z.edges (record { from = c; label = m; to = d })) (sym v.2) q in
          let f = row_there number other u.0.edges.items p2.place _ p2.stands in
          let g = row_there number other v.0.edges.items q2.place _ q2.stands in
          h.apart.one j k (tree_of number u.0) (tree_of number v.0) f.0.from f.0.to g.0.from g.0.to f.0.label g.0.label
          (stands_map (tree_of number) ts j u.0 u.1) (stands_map (tree_of number) ts k v.0 v.1)
          (one_here (map (edge_row number) u.0.edges.items) p2.place f.0 f.1)
          (one_here (map (edge_row number) v.0.edges.items) q2.place g.0 g.1)
          (f.2.event ∙ e ∙ sym g.2.event);
    };
  }

  -- edges with one event are one
  pub one_edge : (a b : Edge) → IsOneOf (forest_edges ts) a → IsOneOf (forest_edges ts) b → a.event.n ≡ b.event.n → a ≡ b
  one_edge a b o q e =
      let t = tree_of_edge ts a o in
      let u = tree_of_edge ts b q in
      let s = stands_map (tree_of number) ts t.1.place t.0 t.1.stands in
      let v = stands_map (tree_of number) ts u.1.place u.0 u.1.stands in
      let x = stands_map (edge_row number) t.0.edges.items t.2.place a t.2.stands in
      let y = stands_map (edge_row number) u.0.edges.items u.2.place b u.2.stands in
      let i : t.1.place ≡ u.1.place =
      h.apart.one t.1.place u.1.place (tree_of number t.0) (tree_of number u.0) a.from a.to b.from b.to
      (edge_row number a).label (edge_row number b).label s v
      (one_here (map (edge_row number) t.0.edges.items) t.2.place (edge_row number a) x)
      (one_here (map (edge_row number) u.0.edges.items) u.2.place (edge_row number b) y) e in
      let same : t.0 ≡ u.0 = stands_one ts u.1.place t.0 u.0
      (subst (λ (n : ℕ). Stands ts n t.0) i t.1.stands) u.1.stands in
      let there : Stands t.0.edges.items u.2.place b = subst (λ (z : ModeTree). Stands z.edges.items u.2.place b)
      (sym same) u.2.stands in
      let k : t.2.place ≡ u.2.place =
      (h.each t.1.place (tree_of number t.0) s).event t.2.place u.2.place (edge_row number a) (edge_row number b) x
      (stands_map (edge_row number) t.0.edges.items u.2.place b there) e in
      stands_one t.0.edges.items u.2.place a b (subst (λ (n : ℕ). Stands t.0.edges.items n a) k t.2.stands) there

  pub one_way : HaveOneWay (forest_edges ts)
  one_way = record { one = λ a b o q e. ap (λ (z : Edge). z.way.n) (one_edge a b o q e) }

-- a label of a list turned round
pub one_turned : {A : Type 0} (xs : List A) (a : A) → IsOneOf (reverse xs) a → IsOneOf xs a
one_turned [] a o = o
one_turned (x ∷ xs) a o = ⊎_elim
    (λ q. one_rest x xs a (one_turned xs a q))
    (λ q. ⊎_elim (λ (i : x ≡ a). subst (λ z. IsOneOf (x ∷ xs) z) i (one_first x xs)) (λ r. absurd (one_none a r))
    (one_cases x [] a q))
    (one_split (reverse xs) (x ∷ []) a (subst (λ z. IsOneOf z a) (reverse-append (x ∷ []) xs) o))

-- the path on which a label of a line stands
pub on_line : (k : ℕ) (ts : List firing.ModeTree) (path : ℕ → List Label) (l : Label) → IsOneOf (line_from k ts path) l
    → (j : ℕ) × (t : firing.ModeTree) × Stands ts j t × IsOneOf (path (k + j)) l
on_line k [] path l o = absurd (one_none l o)
on_line k (t ∷ ts) path l o = ⊎_elim
    (λ q. (zero, t, refl, subst (λ (n : ℕ). IsOneOf (path n) l) (omega arith) (one_turned (path k) l q)))
    (λ q. let r = on_line (suc k) ts path l q in (
      suc r.0,
      r.1,
      r.2,
      subst (λ (n : ℕ). IsOneOf (path n) l)
          (omega arith) r.3,
    ))
    (one_split (reverse (path k)) (line_from (suc k) ts path) l o)

-- the edge of a path's label
pub path_row : {tree : firing.ModeTree} {ls : List Label} {m : Value} → LeadsToMode tree ls m → (l : Label) → IsOneOf ls
    l → (r : Row) × IsOneOf tree.edges r × (r.label ≡ l)
path_row (root e) l o = absurd (one_none l o)
path_row (edge {l = x} {ls = xs} {m = m} {to = to} p s) l o = ⊎_elim
    (λ (e : x ≡ l). (record { from = m; label = x; to = to }, s, e))
    (λ (q : IsOneOf xs l). path_row p l q)
    (one_cases x xs l o)

-- the edge of a label of a line
pub edge_on_line : (number : ℕ → ℕ) (ts : List ModeTree) (set : List ℕ)
    (f : IsFirableOf (map (tree_of number) ts) set) (l : Label)
    → IsOneOf (line_from 0 (map (tree_of number) ts) f.path) l
    → (x : Edge) × IsOneOf (forest_edges ts) x × ((edge_row number x).label ≡ l)
edge_on_line number ts set f l o =
    let p = on_line 0 (map (tree_of number) ts) f.path l o in
    let w = f.walks p.0 p.1 p.2 in
    let r = path_row w.1 l (subst (λ (n : ℕ). IsOneOf (f.path n) l) (omega arith) p.3) in
    let t = stands_map_back (tree_of number) ts p.0 p.1 p.2 in
    let q : IsOneOf (map (edge_row number) t.0.edges.items) r.0 = subst (λ (z : firing.ModeTree). IsOneOf z.edges r.0)
    (sym t.2) r.1 in
    let x = stands_map_back (edge_row number) t.0.edges.items q.place r.0 q.stands in (
      x.0,
      edge_in ts t.0 x.0 (one_here ts p.0 t.0 t.1) (one_here t.0.edges.items q.place x.0 x.1),
      ap
          (λ (z : Row). z.label) x.2 ∙ r.2,
    )

-- the events of sets in firing order are those of edges
pub known : (ts : List ModeTree) (sets lists : List (List ℕ)) → AreInFiringOrder (map (tree_of (λ n. n)) ts) sets lists
    → AreOfEdges (forest_edges ts) lists
known ts sets lists h = record {
  each = λ events o e q.
      let b = along_back sets lists h o.place events o.stands in
      let f : IsInFiringOrder (map (tree_of (λ n. n)) ts) b.0 events = b.2 in
      let i = subst (λ (z : List ℕ). IsOneOf z e) f.is q in
      let l = stands_map_back (λ (k : Label). k.event) (line_from 0 (map (tree_of (λ n. n)) ts) f.is_firable.path)
      i.place e i.stands in
      let x = edge_on_line (λ n. n) ts b.0 f.is_firable l.0
      (one_here (line_from 0 (map (tree_of (λ n. n)) ts) f.is_firable.path) i.place l.0 l.1) in
      record { edge = x.0; is_edge = x.1; is_event = ap (λ (k : Label). k.event) x.2 ∙ l.2 };
}

turned_map : {A B : Type 0} (f : A → B) (xs : List A) → map f (reverse xs) ≡ reverse (map f xs)
turned_map f [] = refl
turned_map f (x ∷ xs) =
    ap (map f) (reverse-append (x ∷ []) xs) ∙ map-append f (reverse xs) (x ∷ [])
    ∙ ap (λ z. z ++ f x ∷ []) (turned_map f xs) ∙ sym (reverse-append (f x ∷ []) (map f xs))

-- labels by the number of their way among the ways of their event
abbrev pub renumber : (ℕ → ℕ) → Label → Label
renumber number l = record { event = l.event; way = number l.way }

module _ (number : ℕ → ℕ) where
  leads_as : (t : ModeTree) {ls : List Label} {m : Value} → LeadsToMode (tree_of (λ n. n) t) ls m
      → LeadsToMode (tree_of number t) (map (renumber number) ls) m
  leads_as t (root e) = root e
  leads_as t (edge {l = l} {m = m} {to = to} p o) =
      let b = stands_map_back (edge_row (λ n. n)) t.edges.items o.place
      (record { from = m; label = l; to = to }) o.stands in
      let e : edge_row number b.0 ≡ record { from = m; label = renumber number l; to = to } =
      ap (λ (z : Row). (let r : Row = record { from = z.from; label = renumber number z.label; to = z.to } in r)) b.2 in
      edge (leads_as t p)
      (subst (λ (z : Row). IsOneOf (map (edge_row number) t.edges.items) z) e
      (one_here (map (edge_row number) t.edges.items) o.place (edge_row number b.0)
      (stands_map (edge_row number) t.edges.items o.place b.0 b.1)))

  events_kept : (ls : List Label) → map (λ (l : Label). l.event) (map (renumber number) ls) ≡ map
      (λ (l : Label). l.event) ls
  events_kept [] = refl
  events_kept (l ∷ ls) = ap (λ z. l.event ∷ z) (events_kept ls)

  line_kept : (k : ℕ) (ts : List ModeTree) (path : ℕ → List Label)
      → map (λ (l : Label). l.event) (line_from k (map (tree_of number) ts) (λ j. map (renumber number) (path j)))
      ≡ map (λ (l : Label). l.event) (line_from k (map (tree_of (λ n. n)) ts) path)
  line_kept k [] path = refl
  line_kept k (t ∷ ts) path =
      map-append (λ (l : Label). l.event) (reverse (map (renumber number) (path k)))
      (line_from (suc k) (map (tree_of number) ts) (λ j. map (renumber number) (path j)))
      ∙ ap₂ (λ (a b : List ℕ). a ++ b)
      (ap (map (λ (l : Label). l.event)) (sym (turned_map (renumber number) (path k))) ∙ events_kept (reverse (path k)))
      (line_kept (suc k) ts path)
      ∙ sym (map-append (λ (l : Label). l.event) (reverse (path k))
      (line_from (suc k) (map (tree_of (λ n. n)) ts) path))

  -- what is firable in the trees is so by the numbers of the ways among those of their events, with the same events
  pub renumbered : (ts : List ModeTree) (set : List ℕ) (f : IsFirableOf (map (tree_of (λ n. n)) ts) set)
      → (g : IsFirableOf (map (tree_of number) ts) set)
      × (map (λ (l : Label). l.event) (line_from 0 (map (tree_of number) ts) g.path) ≡ map (λ (l : Label). l.event)
      (line_from 0 (map (tree_of (λ n. n)) ts) f.path))
  renumbered ts set f = (
    record {
      path = λ k. map (renumber number) (f.path k);
      walks = λ k tree s.
          let b = stands_map_back (tree_of number) ts k tree s in
          let w = f.walks k (tree_of (λ n. n) b.0) (stands_map (tree_of (λ n. n)) ts k b.0 b.1) in (
            w.0,
            subst (λ (z : firing.ModeTree). LeadsToMode z (map (renumber number) (f.path k)) w.0) b.2
                (leads_as b.0 w.1),
          );
      sound = λ k tree s j l i.
          let b = stands_map_back (tree_of number) ts k tree s in
          let a = stands_map_back (renumber number) (f.path k) j l i in
          subst (λ (e : ℕ). IsOneOf set e) (ap (λ (z : Label). z.event) a.2)
          (f.sound k (tree_of (λ n. n) b.0) (stands_map (tree_of (λ n. n)) ts k b.0 b.1) j a.0 a.1);
      whole = λ e o.
          let w = f.whole e o in
          let b = stands_map_back (tree_of (λ n. n)) ts w.0 w.1 w.3 in (
            w.0,
            tree_of number b.0,
            renumber number w.2,
            stands_map (tree_of number) ts w.0 b.0 b.1,
            one_here (map (renumber number) (f.path w.0)) w.4.place (renumber number w.2)
                (stands_map (renumber number) (f.path w.0) w.4.place w.2 w.4.stands),
            w.5,
          );
    },
    line_kept 0 ts f.path,
  )
