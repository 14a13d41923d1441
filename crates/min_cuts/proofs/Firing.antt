-- Firing order is the order of the trees' edges.
use Rattle.std.proofs.Common.{◌≡◌, ◌⊎◌, ⊎_elim, ℕ, zero, suc, ◌+◌, Bool, true, false, cond, ◌||◌, eqb, List, [], ◌∷◌, ◌++◌, map, reverse, filter, refl, sym, ap, ap₂, ◌∙◌, subst, arith, eq-eqb, append-nil}
use Rattle.std.proofs.lemmas.List.Elements.{filter-append}
use Rattle.std.proofs.lemmas.List.{map-append}
use Rattle.ar_base.specs.Lists.{Stands, IsOneOf, AreDifferent}
use Rattle.ar_base.specs.Lists.Along.{none, one_and}
use Rattle.ar_base.specs.Sets.{Ascends}
use Rattle.ar_base.proofs.Standing.{stands_within, stands_map_back, stands_map, one_here, one_cases, one_left, one_right, one_split}
use Rattle.ar_base.proofs.Items.{different_both}
use Rattle.ar_base.proofs.Truths.{alike}
use Rattle.domains.specs.declared.Value.{Value}
use Rattle.ar_meaning.specs.Runs.{Label}
use Rattle.ar_firing.specs.Forest.{Row, ModeTree}
use Rattle.ar_firing.specs.Trees.{AreTrees}
use Rattle.zdd_nodes.specs.Families.{Family, holds, has}
use Rattle.zdd_nodes.proofs.Members.{holds_law}
use Rattle.firable_families.specs.FirableInside.{LeadsToMode, IsFirableOf}
use Rattle.firable_families.specs.FirableInside.LeadsToMode.{root, edge}
use Rattle.firable_families.proofs.Listing.{stands_has}
use Rattle.min_cuts.specs.Lines.{line_from, IsInFiringOrder, AreInFiringOrder}
use Rattle.min_cuts.specs.Kept.{edge_events, events_in_order, IsInTheOrder}
use Rattle.min_cuts.proofs.Order.{on, label_of, same_tests, on_some, in_front}

abbrev event_of : Row → ℕ
event_of r = r.label.event

-- ---- the events of the edges
pub event_here : (trees : List ModeTree) (k : ℕ) (tree : ModeTree) (r : Row) → Stands trees k tree
    → IsOneOf tree.edges r
    → IsOneOf (edge_events trees) r.label.event
event_here [] k tree r s o = cc
event_here (t ∷ ts) zero tree r s o =
    let e : t ≡ tree = cc in
    let p : IsOneOf t.edges r = subst (λ (z : ModeTree). IsOneOf z.edges r) (sym e) o in
    one_left (map event_of t.edges) (edge_events ts) r.label.event
    (record { place = p.place; stands = stands_map event_of t.edges p.place r p.stands })
event_here (t ∷ ts) (suc k) tree r s o =
    one_right (map event_of t.edges) (edge_events ts) r.label.event (event_here ts k tree r s o)

-- an event is that of an edge of a tree
pub record Edged (trees : List ModeTree) (e : ℕ) : Type 0 where
  pub k : ℕ
  pub tree : ModeTree
  pub row : Row
  pub stands : Stands trees k tree
  pub one : IsOneOf tree.edges row
  pub is : row.label.event ≡ e

pub edged : (trees : List ModeTree) (e : ℕ) → IsOneOf (edge_events trees) e → Edged trees e
edged [] e o = absurd (let p = o.stands in cc)
edged (t ∷ ts) e o = ⊎_elim
    (λ (a : IsOneOf (map event_of t.edges) e). let b = stands_map_back event_of t.edges a.place e a.stands in
    record { k = zero; tree = t; row = b.0; stands = refl; one = one_here t.edges a.place b.0 b.1; is = b.2 })
    (λ (a : IsOneOf (edge_events ts) e). let b = edged ts e a in
    record { k = suc b.k; tree = b.tree; row = b.row; stands = b.stands; one = b.one; is = b.is })
    (one_split (map event_of t.edges) (edge_events ts) e o)

tail_trees : (t : ModeTree) (ts : List ModeTree) → AreTrees (t ∷ ts) → AreTrees ts
tail_trees t ts a = record {
  each = λ k tree s. a.each (suc k) tree s;
  apart = record {
    one = λ j k s u b c d e l m p q o r h.
        let g : suc j ≡ suc k = a.apart.one (suc j) (suc k) s u b c d e l m p q o r h in omega (arith, g);
  };
}

pub events_different : (trees : List ModeTree) → AreTrees trees → AreDifferent (edge_events trees)
events_different [] a = record { one = λ m n x h k. cc }
events_different (t ∷ ts) a = different_both (map event_of t.edges) (edge_events ts)
    (record {
      one = λ m n x h k.
          let p = stands_map_back event_of t.edges m x h in
          let q = stands_map_back event_of t.edges n x k in
          (a.each zero t refl).event m n p.0 q.0 p.1 q.1 (p.2 ∙ sym q.2);
    })
    (events_different ts (tail_trees t ts a))
    (λ x h k.
    let p = stands_map_back event_of t.edges h.place x h.stands in
    let q = edged ts x k in
    let z : zero ≡ suc q.k = a.apart.one zero
    (suc q.k) t q.tree p.0.from p.0.to q.row.from q.row.to p.0.label q.row.label refl q.stands
    (one_here t.edges h.place p.0 p.1) q.one (p.2 ∙ sym q.is) in
    cc)

-- ---- one tree
path_edge : {tree : ModeTree} {ls : List Label} {m : Value} → LeadsToMode tree ls m → (l : Label) → IsOneOf ls l
    → (r : Row) × IsOneOf tree.edges r × (r.label ≡ l)
path_edge (root e) l o = absurd (let p = o.stands in cc)
path_edge (edge {l = x} {ls = xs} {m = m} {to = to} p s) l o = ⊎_elim
    (λ (e : x ≡ l). (record { from = m; label = x; to = to }, s, e))
    (λ (q : IsOneOf xs l). path_edge p l q)
    (one_cases x xs l o)

some_on : (ls : List Label) (r : Row) (k : ℕ) (l : Label) → Stands ls k l → l.event ≡ r.label.event → on ls r ≡ true
some_on [] r k l s e = cc
some_on (x ∷ ls) r zero l s e =
    let y : x ≡ l = cc in
    ap (λ b. b || on ls r) (eq-eqb x.event r.label.event (ap (λ (z : Label). z.event) y ∙ e))
some_on (x ∷ ls) r (suc k) l s e = either (eqb x.event r.label.event) (on ls r) (some_on ls r k l s e)
  where
    either : (a b : Bool) → b ≡ true → a || b ≡ true
    either true b h = refl
    either false b h = h

module _ (trees : List ModeTree) (are : AreTrees trees) (set : List ℕ) (fires : IsFirableOf trees set) where
  on_path : (k : ℕ) (tree : ModeTree) → Stands trees k tree → (r : Row) → IsOneOf tree.edges r
      → holds r.label.event set ≡ on (fires.path k) r
  on_path k tree s r o = alike (holds r.label.event set) (on (fires.path k) r)
      (λ h.
      let w = fires.whole r.label.event ((holds_law r.label.event set).0 h) in
      let e = path_edge (fires.walks w.0 w.1 w.3).1 w.2 w.4 in
      let same : w.0 ≡ k = are.apart.one w.0 k w.1 tree e.0.from e.0.to r.from r.to e.0.label r.label w.3 s e.1 o
      (ap (λ (z : Label). z.event) e.2 ∙ w.5) in
      let p : IsOneOf (fires.path k) w.2 = subst (λ z. IsOneOf (fires.path z) w.2) same w.4 in
      some_on (fires.path k) r p.place w.2 p.stands w.5)
      (λ h.
      let p = on_some (fires.path k) r h in
      let q : IsOneOf set p.1.event = fires.sound k tree s p.0 p.1 p.2 in
      (holds_law r.label.event set).1 (subst (λ z. IsOneOf set z) p.3 q))

  tree_line : (k : ℕ) (tree : ModeTree) → Stands trees k tree
      → map label_of (filter (λ r. holds r.label.event set) tree.edges) ≡ reverse (fires.path k)
  tree_line k tree s =
      ap (map label_of) (same_tests (λ r. holds r.label.event set) (on (fires.path k)) tree.edges
      (λ j r i. on_path k tree s r (one_here tree.edges j r i)))
      ∙ in_front tree (are.each k tree s) (fires.walks k tree s).1 tree.edges [] (sym (append-nil tree.edges))
      (λ i l a j q b e. stands_within tree.edges j q b)

-- ---- all trees
filter_map : (p : ℕ → Bool) (rs : List Row)
    → filter p (map event_of rs) ≡ map event_of (filter (λ r. p (event_of r)) rs)
filter_map p [] = refl
filter_map p (r ∷ rs) = by (filter_map p rs) (p (event_of r))
  where
    by : filter p (map event_of rs) ≡ map event_of (filter (λ r. p (event_of r)) rs) → (b : Bool)
        → cond b (event_of r ∷ filter p (map event_of rs)) (filter p (map event_of rs))
        ≡ map event_of (cond b (r ∷ filter (λ r. p (event_of r)) rs) (filter (λ r. p (event_of r)) rs))
    by ih true = ap (λ z. event_of r ∷ z) ih
    by ih false = ih

events_of_labels : (rs : List Row) → map (λ (l : Label). l.event) (map label_of rs) ≡ map event_of rs
events_of_labels [] = refl
events_of_labels (r ∷ rs) = ap (λ z. r.label.event ∷ z) (events_of_labels rs)

lines : (n : ℕ) (trees : List ModeTree) (path : ℕ → List Label) (set : List ℕ)
    → ((k : ℕ) (tree : ModeTree) → Stands trees k tree
    → map label_of (filter (λ r. holds r.label.event set) tree.edges) ≡ reverse (path (n + k)))
    → events_in_order (edge_events trees) set ≡ map (λ (l : Label). l.event) (line_from n trees path)
lines n [] path set h = refl
lines n (t ∷ ts) path set h =
    let here : reverse (path (n + zero)) ≡ reverse (path n) = ap (λ z. reverse (path z)) (omega arith) in
    filter-append (λ e. holds e set) (map event_of t.edges) (edge_events ts)
    ∙ ap₂ (λ (a b : List ℕ). a ++ b)
    (filter_map (λ e. holds e set) t.edges ∙ sym (events_of_labels (filter (λ r. holds r.label.event set) t.edges))
    ∙ ap (map (λ (l : Label). l.event)) (h zero t refl ∙ here))
    (lines (suc n) ts path set (λ k tree s. h (suc k) tree s ∙ ap (λ z. reverse (path z)) (omega arith)))
    ∙ sym (map-append (λ (l : Label). l.event) (reverse (path n)) (line_from (suc n) ts path))

-- a firable set's events, as they stand among those of the edges, are in firing order
pub in_firing_order : (trees : List ModeTree) → AreTrees trees → (set : List ℕ) → IsFirableOf trees set
    → IsInFiringOrder trees set (events_in_order (edge_events trees) set)
in_firing_order trees are set fires = record {
  is_firable = fires;
  is = lines 0 trees fires.path set (λ k tree s. tree_line trees are set fires k tree s
      ∙ ap (λ z. reverse (fires.path z)) (omega arith));
}

pub firable_known : (trees : List ModeTree) (set : List ℕ) → Ascends set → IsFirableOf trees set
    → IsInTheOrder (edge_events trees) set
firable_known trees set a fires = record {
  ascends = a;
  listed = λ e o.
      let w = fires.whole e o in
      let p = path_edge (fires.walks w.0 w.1 w.3).1 w.2 w.4 in
      subst (λ z. IsOneOf (edge_events trees) z) (ap (λ (z : Label). z.event) p.2
      ∙ w.5) (event_here trees w.0 w.1 p.0 w.3 p.1);
}

-- ---- all sets of a family
along_map : (trees : List ModeTree) (f : List ℕ → List ℕ) (sets : Family)
    → ((k : ℕ) (s : List ℕ) → Stands sets k s → IsInFiringOrder trees s (f s))
    → AreInFiringOrder trees sets (map f sets)
along_map trees f [] h = none
along_map trees f (s ∷ sets) h = one_and (h zero s refl) (along_map trees f sets (λ k t i. h (suc k) t i))

pub all_in_firing_order : (trees : List ModeTree) → AreTrees trees → (sets : Family)
    → ((s : List ℕ) → has sets s ≡ true → IsFirableOf trees s)
    → AreInFiringOrder trees sets (map (events_in_order (edge_events trees)) sets)
all_in_firing_order trees are sets h = along_map trees (events_in_order (edge_events trees)) sets
    (λ k s i. in_firing_order trees are s (h s (stands_has sets k s i)))
