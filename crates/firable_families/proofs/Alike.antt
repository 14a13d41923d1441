-- Trees that differ in the numbers of their ways alone: what is firable in them, and that they are trees.
use Rattle.std.proofs.Common.{◌≡◌, inl, inr, ⊎_elim, ℕ, zero, suc, List, [], ◌∷◌, map, refl, sym, ◌∙◌, subst}
use Rattle.ar_base.specs.Lists.{Stands, IsOneOf, Along}
use Rattle.ar_base.specs.Lists.Along.{none, one_and}
use Rattle.ar_base.proofs.Standing.{one_here, along_on, along_back}
use Rattle.domains.specs.declared.Value.{Value}
use Rattle.ar_meaning.specs.Runs.{Label}
use Rattle.ar_firing.specs.Forest.{Row, ModeTree}
use Rattle.ar_firing.specs.Trees.{IsTree, AreTrees, HaveOwnEvents}
use Rattle.mode_trees.specs.declared.forests.Edge.{Edge}
use Rattle.mode_trees.specs.declared.forests.ModeTree as flat
use Rattle.mode_trees.specs.declared.forests.Forest.{Forest}
use Rattle.mode_trees.specs.Views.{edge_row, tree_of, trees_of}
use Rattle.firable_families.specs.FirableInside.{LeadsToMode, root, edge, IsFirableOf}
use Rattle.firable_families.proofs.Trees.{fore}

-- edges between the same modes, of one event
pub record AreAlikeRows (q r : Row) : Type 0 where
  pub from : q.from ≡ r.from
  pub event : q.label.event ≡ r.label.event
  pub to : q.to ≡ r.to

-- trees with one first mode and such edges
pub record AreAlike (s t : ModeTree) : Type 0 where
  pub first : s.first ≡ t.first
  pub edges : Along AreAlikeRows s.edges t.edges

abbrev HaveOneEvent : Label → Label → Type 0
HaveOneEvent l k = l.event ≡ k.event

leads_alike : (s t : ModeTree) → AreAlike s t → {ls : List Label} {m : Value} → LeadsToMode s ls m
    → (ks : List Label) × LeadsToMode t ks m × Along HaveOneEvent ls ks
leads_alike s t h (root e) = ([], root (sym h.first ∙ e), none)
leads_alike s t h (edge {l = l} {m = m} {to = to} p o) =
    let w = leads_alike s t h p in
    let r = along_on s.edges t.edges h.edges o.place (record { from = m; label = l; to = to }) o.stands in (
      r.0.label ∷ w.0,
      subst (LeadsToMode t (r.0.label ∷ w.0)) (sym r.2.to)
          (edge (subst (LeadsToMode t w.0) r.2.from w.1) (one_here t.edges o.place r.0 r.1)),
      one_and r.2.event w.2,
    )

paths_alike : {ss ts : List ModeTree} → Along AreAlike ss ts → (path : ℕ → List Label)
    → ((k : ℕ) (s : ModeTree) → Stands ss k s → (m : Value) × LeadsToMode s (path k) m)
    → (other : ℕ → List Label) × ((k : ℕ) (t : ModeTree) → Stands ts k t
    → ((m : Value) × LeadsToMode t (other k) m) × Along HaveOneEvent (path k) (other k))
paths_alike none path leads = (λ k. [], λ k t i. cc)
paths_alike (one_and {a = s} {b = t} {ys = ts} r rest) path leads =
    let l = leads zero s refl in
    let w = leads_alike s t r l.1 in
    let ih = paths_alike rest (λ k. path (suc k)) (λ k u i. leads (suc k) u i) in
    (fore w.0 ih.0, at ts ih.0 w.0 l.0 w.1 w.2 ih.1)
  where
    at : (us : List ModeTree) (other : ℕ → List Label) (ks : List Label) (m : Value) → LeadsToMode t ks m
        → Along HaveOneEvent (path zero) ks
        → ((k : ℕ) (u : ModeTree) → Stands us k u
        → ((m : Value) × LeadsToMode u (other k) m) × Along HaveOneEvent (path (suc k)) (other k))
        → (k : ℕ) (u : ModeTree) → Stands (t ∷ us) k u
        → ((m : Value) × LeadsToMode u (fore ks other k) m) × Along HaveOneEvent (path k) (fore ks other k)
    at us other ks m p a ih zero u i = let e : t ≡ u = cc in ((m, subst (λ z. LeadsToMode z ks m) e p), a)
    at us other ks m p a ih (suc k) u i = ih k u i

pub firable_alike : (ss ts : List ModeTree) → Along AreAlike ss ts → (set : List ℕ) → IsFirableOf ss set
    → IsFirableOf ts set
firable_alike ss ts h set p =
    let c = paths_alike h p.path p.walks in
    record {
      path = c.0;
      walks = λ k t i. (c.1 k t i).0;
      sound = λ k t i j l s.
          let o = along_back ss ts h k t i in
          let q = along_back (p.path k) (c.0 k) (c.1 k t i).1 j l s in
          subst (IsOneOf set) q.2 (p.sound k o.0 o.1 j q.0 q.1);
      whole = λ e o.
          let w = p.whole e o in
          let t = along_on ss ts h w.0 w.1 w.3 in
          let q = along_on (p.path w.0) (c.0 w.0) (c.1 w.0 t.0 t.1).1 w.4.place w.2 w.4.stands in
          (w.0, t.0, q.0, t.1, one_here (c.0 w.0) w.4.place q.0 q.1, sym q.2 ∙ w.5);
    }

tree_alike : (s t : ModeTree) → AreAlike s t → IsTree s → IsTree t
tree_alike s t h i = record {
  from = λ k r x.
      let q = back k r x in
      ⊎_elim (λ e. inl (sym q.2.from ∙ e ∙ h.first))
      (λ o. let u = along_on s.edges t.edges h.edges o.0 o.1 o.3 in inr (o.0, u.0, o.2, u.1, sym u.2.to ∙ o.4 ∙ q.2.from))
      (i.from k q.0 q.1);
  begins = λ k r x e. let q = back k r x in i.begins k q.0 q.1 (q.2.to ∙ e ∙ sym h.first);
  enters = λ j k q r x y e.
      let u = back j q x in
      let v = back k r y in
      i.enters j k u.0 v.0 u.1 v.1 (u.2.to ∙ e ∙ sym v.2.to);
  event = λ j k q r x y e.
      let u = back j q x in
      let v = back k r y in
      i.event j k u.0 v.0 u.1 v.1 (u.2.event ∙ e ∙ sym v.2.event);
}
  where
    back : (k : ℕ) (r : Row) → Stands t.edges k r → (q : Row) × Stands s.edges k q × AreAlikeRows q r
    back k r x = along_back s.edges t.edges h.edges k r x

-- where they are alike, an edge of a tree has one of the other tree beside it
apart_alike : (ss ts : List ModeTree) → Along AreAlike ss ts → HaveOwnEvents ss → HaveOwnEvents ts
apart_alike ss ts h p = record {
  one = λ j k s t a b c d l m x y u v e.
      let q = along_back ss ts h j s x in
      let r = along_back ss ts h k t y in
      let f = along_back q.0.edges s.edges q.2.edges u.place (record { from = a; label = l; to = b }) u.stands in
      let g = along_back r.0.edges t.edges r.2.edges v.place (record { from = c; label = m; to = d }) v.stands in
      p.one j k q.0 r.0 f.0.from f.0.to g.0.from g.0.to f.0.label g.0.label q.1 r.1
      (one_here q.0.edges u.place f.0 f.1) (one_here r.0.edges v.place g.0 g.1) (f.2.event ∙ e ∙ sym g.2.event);
}

pub trees_alike : (ss ts : List ModeTree) → Along AreAlike ss ts → AreTrees ss → AreTrees ts
trees_alike ss ts h i = record {
  each = λ k t x. let q = along_back ss ts h k t x in tree_alike q.0 t q.2 (i.each k q.0 q.1);
  apart = apart_alike ss ts h i.apart;
}

-- one forest, with its ways numbered in two ways
module _ (number other : ℕ → ℕ) where
  rows_seen : (es : List Edge) → Along AreAlikeRows (map (edge_row number) es) (map (edge_row other) es)
  rows_seen [] = none
  rows_seen (e ∷ es) = one_and (record { from = refl; event = refl; to = refl }) (rows_seen es)

  trees_seen : (ts : List flat.ModeTree) → Along AreAlike (map (tree_of number) ts) (map (tree_of other) ts)
  trees_seen [] = none
  trees_seen (t ∷ ts) = one_and (record { first = refl; edges = rows_seen t.edges.items }) (trees_seen ts)

  pub firable_seen : (forest : Forest) (set : List ℕ) → IsFirableOf (trees_of number forest) set
      → IsFirableOf (trees_of other forest) set
  firable_seen forest set p = firable_alike (trees_of number forest) (trees_of other forest)
      (trees_seen forest.trees.items) set p

  pub are_trees_seen : (forest : Forest) → AreTrees (trees_of number forest) → AreTrees (trees_of other forest)
  are_trees_seen forest i = trees_alike (trees_of number forest) (trees_of other forest) (trees_seen forest.trees.items)
      i
