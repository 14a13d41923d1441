-- A forest with the modes of numbered trees.
use Rattle.std.proofs.Common.{◌≡◌, ◌⊎◌, inl, inr, ℕ, zero, suc, ◌+◌, ◌<◌, ◌≤◌, List, [], ◌∷◌, length, map, refl, sym, ap, ◌∙◌, subst, arith}
use Rattle.ar_base.specs.Lists.{Stands, IsOneOf}
use Rattle.ar_base.proofs.Standing.{stands_none, stands_one, stands_within, stands_some, stands_map, stands_map_back}
use Rattle.domains.specs.declared.Value.{Value}
use Rattle.domains.specs.declared.Value.TheVariants.{Symbol}
use Rattle.ar_firing.specs.Forest.{Row, ModeTree}
use Rattle.ar_firing.specs.Trees.{IsTree, HaveOwnEvents as AreTreesApart}
use Rattle.diagram_steps.specs.declared.trees.NumberedEdge.{NumberedEdge}
use Rattle.diagram_steps.specs.declared.trees.NumberedTree.{NumberedTree}
use Rattle.diagram_steps.specs.Trees.{edges_of, TreeHasEvent}
use Rattle.mode_diagrams.specs.Costs.{HasDifferentEvents, HaveDifferentEvents}
use Rattle.mode_diagrams.specs.Numbers.{modes_in, IsNumberOf, AreNumberedTrees, none, one_and, IsByModes}
use Rattle.mode_diagrams.specs.Trees.{IsNumberedTree, AreNumbered, AreApart}
use Rattle.mode_diagrams.proofs.Firable.{by_modes}

-- mode n by its number
abbrev row_of : ℕ → NumberedEdge → Row
row_of j e = record { from = Symbol e.from; label = record { event = e.event.n; way = 0 }; to = Symbol (suc j) }

abbrev rows_from : ℕ → List NumberedEdge → List Row
rows_from j [] = []
rows_from j (e ∷ es) = row_of j e ∷ rows_from (suc j) es

abbrev tree_for : NumberedTree → ModeTree
tree_for n = record { variable = 0; first = Symbol 0; edges = rows_from 0 (edges_of n) }

abbrev pub forest_for : List NumberedTree → List ModeTree
forest_for ns = map tree_for ns

rows_at : (j : ℕ) (es : List NumberedEdge) (k i : ℕ) (e : NumberedEdge) → Stands es k e → i ≡ j + k
    → Stands (rows_from j es) k (row_of i e)
rows_at j [] k i e st q = absurd (stands_none k e st)
rows_at j (x ∷ es) zero i e st q =
    let same : x ≡ e = cc in
    let at : j ≡ i = omega (arith, q) in
    subst (λ n. Stands (rows_from j (x ∷ es)) 0 (row_of n e)) at
    (subst (λ (y : NumberedEdge). Stands (rows_from j (x ∷ es)) 0 (row_of j y)) same refl)
rows_at j (x ∷ es) (suc k) i e st q = rows_at (suc j) es k i e st (omega (arith, q))

rows_long : (j : ℕ) (es : List NumberedEdge) → length (rows_from j es) ≡ length es
rows_long j [] = refl
rows_long j (x ∷ es) = ap suc (rows_long (suc j) es)

row_at : (es : List NumberedEdge) (k : ℕ) (e : NumberedEdge) → Stands es k e → Stands (rows_from 0 es) k (row_of k e)
row_at es k e st = rows_at 0 es k k e st (omega arith)

row_back : (es : List NumberedEdge) (k : ℕ) (r : Row) → Stands (rows_from 0 es) k r
    → (e : NumberedEdge) × Stands es k e × (r ≡ row_of k e)
row_back es k r st =
    let e = stands_some es k (let w = stands_within (rows_from 0 es) k r st in omega (arith, w, rows_long 0 es)) in
    (e.0, e.1, stands_one (rows_from 0 es) k r (row_of k e.0) st (row_at es k e.0 e.1))

-- ---- each is a tree
from_before : (es : List NumberedEdge) (k f : ℕ) (v : Value) → v ≡ Symbol f → f ≤ k → k < length es
    → (v ≡ Symbol 0) ⊎ ((j : ℕ) × (q : Row) × (j < k) × Stands (rows_from 0 es) j q × (q.to ≡ v))
from_before es k zero v is low in_es = inl is
from_before es k (suc j) v is low in_es =
    let e = stands_some es j (omega (arith, low, in_es)) in
    inr (j, row_of j e.0, omega (arith, low), row_at es j e.0 e.1, sym is)

module _ (n : NumberedTree) (numbered : IsNumberedTree n) (different : HasDifferentEvents n) where
  is_tree : IsTree (tree_for n)
  is_tree = record {
    from = λ k r st.
        let e = row_back (edges_of n) k r st in
        from_before (edges_of n) k e.0.from r.from (ap (λ (y : Row). y.from) e.2) (numbered.each k e.0 e.1)
        (stands_within (edges_of n) k e.0 e.1);
    begins = λ k r st q.
        let e = row_back (edges_of n) k r st in
        let w : Symbol (suc k) ≡ Symbol 0 = sym (ap (λ (y : Row). y.to) e.2) ∙ q in
        let x : suc k ≡ 0 = cc in
        omega (arith, x);
    enters = λ j k q r sj sk w.
        let a = row_back (edges_of n) j q sj in
        let b = row_back (edges_of n) k r sk in
        let v : Symbol (suc j) ≡ Symbol (suc k) =
        sym (ap (λ (y : Row). y.to) a.2) ∙ w ∙ ap (λ (y : Row). y.to) b.2 in
        let x : suc j ≡ suc k = cc in
        omega (arith, x);
    event = λ j k q r sj sk w.
        let a = row_back (edges_of n) j q sj in
        let b = row_back (edges_of n) k r sk in
        different.one j k a.0 b.0 a.1 b.1
        (sym (ap (λ (y : Row). y.label.event) a.2) ∙ w ∙ ap (λ (y : Row). y.label.event) b.2);
  }

  is_number : IsNumberOf (tree_for n) n
  is_number = record {
    long = sym (rows_long 0 (edges_of n));
    event = λ k r e sr se.
        let x = row_back (edges_of n) k r sr in
        ap (λ (y : NumberedEdge). y.event.n) (stands_one (edges_of n) k e x.0 se x.1)
        ∙ sym (ap (λ (y : Row). y.label.event) x.2);
    from = λ k r e sr se.
        let x = row_back (edges_of n) k r sr in
        let same = stands_one (edges_of n) k x.0 e x.1 se in
        let is : r.from ≡ Symbol e.from =
        ap (λ (y : Row). y.from) x.2 ∙ ap (λ (y : NumberedEdge). Symbol y.from) same in
        record {
          early = numbered.each k e se;
          stands = subst (λ v. Stands (modes_in (tree_for n)) e.from v) (sym is)
              (number_stands e.from (let w = stands_within (edges_of n) k e se in
              let l = numbered.each k e se in omega (arith, w, l)));
        };
  }
    where
      number_stands : (m : ℕ) → m ≤ length (edges_of n) → Stands (modes_in (tree_for n)) m (Symbol m)
      number_stands zero l = refl
      number_stands (suc j) l =
          let e = stands_some (edges_of n) j (omega (arith, l)) in
          stands_map (λ (y : Row). y.to) (rows_from 0 (edges_of n)) j (row_of j e.0) (row_at (edges_of n) j e.0 e.1)

numbers_for : (ns : List NumberedTree)
    → ((k : ℕ) (n : NumberedTree) → Stands ns k n → IsNumberOf (tree_for n) n) → AreNumberedTrees (map tree_for ns) ns
numbers_for [] each = none
numbers_for (n ∷ ns) each = one_and (each 0 n refl) (numbers_for ns (λ k m st. each (suc k) m st))

has_event_of : (n : NumberedTree) (r : Row) → IsOneOf (rows_from 0 (edges_of n)) r → TreeHasEvent n r.label.event
has_event_of n r o =
    let e = row_back (edges_of n) o.place r o.stands in record {
      edge = e.0;
      one = record { place = o.place; stands = e.1 };
      is = sym (ap (λ (y : Row). y.label.event) e.2);
    }

trees_apart : (ns : List NumberedTree) → AreApart ns → AreTreesApart (map tree_for ns)
trees_apart ns apart = record {
  one = λ j k s t a b c d l m sj sk os ot q.
      let x = stands_map_back tree_for ns j s sj in
      let y = stands_map_back tree_for ns k t sk in
      let hs = has_event_of x.0 (record { from = a; label = l; to = b })
      (subst (λ (z : ModeTree). IsOneOf z.edges (record { from = a; label = l; to = b })) (sym x.2) os) in
      let ht = has_event_of y.0 (record { from = c; label = m; to = d })
      (subst (λ (z : ModeTree). IsOneOf z.edges (record { from = c; label = m; to = d })) (sym y.2) ot) in
      apart.one j k x.0 y.0 m.event x.1 y.1 (subst (λ e. TreeHasEvent x.0 e) q hs) ht;
}

pub forest_by_modes : (ns : List NumberedTree) → AreNumbered ns → AreApart ns → HaveDifferentEvents ns
    → IsByModes (forest_for ns) ns
forest_by_modes ns numbered apart different =
    by_modes (map tree_for ns) ns
    (record {
      each = λ k tree st.
          let x = stands_map_back tree_for ns k tree st in
          subst (λ (z : ModeTree). IsTree z) x.2 (is_tree x.0 (numbered.each k x.0 x.1) (different.each k x.0 x.1));
      apart = trees_apart ns apart;
    })
    (numbers_for ns (λ k n st. is_number n (numbered.each k n st) (different.each k n st)))
