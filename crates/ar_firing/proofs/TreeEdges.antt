-- The edges of a mode variable's tree are its live edges.
use Rattle.std.proofs.Common.{◌≡◌, ◌+◌, ◌≤◌, ⊎_elim, ℕ, zero, suc, List, ◌∷◌, ◌++◌, length, refl, sym, ◌∙◌, ap, subst, arith}
use Rattle.std.proofs.lemmas.Bool.{cases_order}
use Rattle.ar_base.specs.Lists.{Stands, IsOneOf}
use Rattle.ar_base.proofs.Standing.{stands_one, stands_left, stands_right, stands_split}
use Rattle.domains.specs.declared.Value.{Value}
use Rattle.ar_meaning.specs.Systems.{System}
use Rattle.ar_meaning.specs.FactsInside.{AreKeyed}
use Rattle.ar_meaning.specs.Runs.{Label}
use Rattle.ar_firing.specs.Fragment.{Path, root, edge, Edge, IsLive}
use Rattle.ar_firing.specs.Static.{IsStatic}
use Rattle.ar_firing.specs.Forest.{Row, Under, no_more, next, ModeTree, IsModeTree}
use Rattle.ar_firing.proofs.Ends.{live, end_same, label_same}

module _ {V : Type 0} (sys : System V) (dropped : List ℕ) (keyed : AreKeyed sys.net)
    (static : IsStatic sys dropped) where
  under_is_live : {n : ℕ} {m : Value} {low : ℕ} {rows : List Row} {ls : List Label} → Path sys dropped n ls m
      → Under sys dropped n m low rows → (k : ℕ) (r : Row) → Stands rows k r → IsLive sys dropped r.label n r.from r.to
  under_is_live p (no_more h) k r s = cc
  under_is_live {n = n} {m = m} p (next {to = to} {l = l} b e h d f) zero r s =
      let i : ◌≡◌ {A = Row} (record { from = m; label = l; to = to }) r =
      cc in subst (λ (z : Row). IsLive sys dropped z.label n z.from z.to) i (live sys dropped keyed static p e)
  under_is_live p (next {es = es} {fs = fs} b e h d f) (suc k) r s =
      ⊎_elim (λ q. under_is_live (edge p e) d k r q) (λ q. under_is_live p f q.0 r q.2) (stands_split es fs k r s)

  pub row_is_live : (tree : ModeTree) → IsModeTree sys dropped tree → (r : Row) → IsOneOf tree.edges r
      → IsLive sys dropped r.label tree.variable r.from r.to
  row_is_live tree h r o =
      under_is_live (root h.is_mode.stands h.is_mode.is_state (sym h.first)) h.edges o.place r o.stands

  -- an edge from the mode is one of the rows, and so are the edges below it
  record Below (n : ℕ) (rows : List Row) (r : Row) : Type 0 where
    pub is_one : IsOneOf rows r
    pub under : List Row
    pub is_under : Under sys dropped n r.to 0 under
    pub all : (q : Row) → IsOneOf under q → IsOneOf rows q

  below : {n : ℕ} {m : Value} {low : ℕ} {rows : List Row} {ls : List Label} → Path sys dropped n ls m
      → Under sys dropped n m low rows → (l : Label) (to : Value) → low ≤ l.event → Edge sys dropped l n m to
      → Below n rows (record { from = m; label = l; to = to })
  below p (no_more h) l to b e = absurd (h l to b e)
  below {n = n} {m = m} p (next {to = on} {l = k} {es = es} {fs = fs} c d h u f) l to b e = ⊎_elim
      (λ i. here i)
      (λ o. ⊎_elim (λ i. absurd (h l to b i e)) (λ i. later (below p f l to (omega (arith, i)) e)) o)
      (cases_order l.event k.event)
    where
      here : l.event ≡ k.event
          → Below n (record { from = m; label = k; to = on } ∷ (es ++ fs)) (record { from = m; label = l; to = to })
      here i =
          let a =
          static.one_edge.one l k n n m m to on (live sys dropped keyed static p e)
          (live sys dropped keyed static p d) i in
          let j : k ≡ l = sym (label_same l k i a.0) in
          let g : on ≡ to = end_same sys dropped keyed static (subst (λ z. Edge sys dropped z n m on) j d) e in
          let w : ◌≡◌ {A = Row} (record { from = m; label = k; to = on }) (record { from = m; label = l; to = to }) =
          rows k l on to j g in
          subst (λ z. Below n (record { from = m; label = k; to = on } ∷ (es ++ fs)) z) w
          (record {
            is_one = record { place = zero; stands = refl };
            under = es;
            is_under = u;
            all = λ q o. record { place = suc o.place; stands = stands_left es fs o.place q o.stands };
          })
        where
          rows : (k l : Label) (on to : Value) → k ≡ l → on ≡ to
              → ◌≡◌ {A = Row} (record { from = m; label = k; to = on }) (record { from = m; label = l; to = to })
          rows k l on to i j = cc

      beyond : (q : Row) → IsOneOf fs q → IsOneOf (record { from = m; label = k; to = on } ∷ (es ++ fs)) q
      beyond q o = record {
        place = suc (length es + o.place);
        stands = stands_right es fs o.place (length es + o.place) q refl o.stands;
      }

      later : Below n fs (record { from = m; label = l; to = to })
          → Below n (record { from = m; label = k; to = on } ∷ (es ++ fs)) (record { from = m; label = l; to = to })
      later r = record {
        is_one = beyond (record { from = m; label = l; to = to }) r.is_one;
        under = r.under;
        is_under = r.is_under;
        all = λ q o. beyond q (r.all q o);
      }

  -- the rows below a mode that is reached are among the tree's
  record Among (n : ℕ) (m : Value) (rows : List Row) : Type 0 where
    pub under : List Row
    pub is_under : Under sys dropped n m 0 under
    pub all : (q : Row) → IsOneOf under q → IsOneOf rows q

  among : (tree : ModeTree) → IsModeTree sys dropped tree → {ls : List Label} {m : Value}
      → Path sys dropped tree.variable ls m → Among tree.variable m tree.edges
  among tree h {m = m} (root {x = x} s i e) =
      let j : h.is_mode.variable ≡ x =
      stands_one sys.net.variables tree.variable h.is_mode.variable x h.is_mode.stands s in
      let k : tree.first ≡ m = h.first ∙ (ap (λ z. z.value) j ∙ e) in
      record {
        under = tree.edges;
        is_under = subst (λ z. Under sys dropped tree.variable z 0 tree.edges) k h.edges;
        all = λ q o. o;
      }
  among tree h (edge {l = l} {to = to} p e) =
      let a = among tree h p in
      let b = below p a.is_under l to (omega arith) e in
      record { under = b.under; is_under = b.is_under; all = λ q o. a.all q (b.all q o) }

  pub live_is_row : (tree : ModeTree) → IsModeTree sys dropped tree → (r : Row)
      → IsLive sys dropped r.label tree.variable r.from r.to → IsOneOf tree.edges r
  live_is_row tree h r v =
      let a = among tree h v.reached.path in
      let b = below v.reached.path a.is_under r.label r.to (omega arith) v.edge in
      a.all r b.is_one
