-- The labels of a firable set in order: as long as no fault was met the next can fire.
use Rattle.std.proofs.Common.{◌≡◌, ◌+◌, ◌<◌, ◌⊎◌, inl, inr, ⊎_elim, ℕ, zero, suc, true, List, [], ◌∷◌, ◌++◌, map, length, length-append, refl, sym, ◌∙◌, ap, subst, arith}
use Rattle.ar_base.specs.Lists.{Stands, IsOneOf}
use Rattle.ar_meaning.specs.Systems.{Variable, System}
use Rattle.ar_meaning.specs.Facts.{HasValue}
use Rattle.ar_meaning.specs.FactsInside.{AreKeyed}
use Rattle.ar_meaning.specs.Ways.{Can}
use Rattle.ar_meaning.specs.Runs.{Label}
use Rattle.ar_firing.specs.Fragment.{Path, root, edge, Edge}
use Rattle.ar_firing.specs.Static.{IsStatic}
use Rattle.ar_firing.specs.Cuts.{Reaches, IsFirable, AreEvents}
use Rattle.ar_firing.specs.CutsInside.{FollowTheirModes}
use Rattle.ar_base.specs.Sets.{Within}
use Rattle.domains.specs.declared.Value.{Value}
use Rattle.ar_base.proofs.Standing.{stands_one, stands_none}
use Rattle.ar_firing.proofs.Firing.{all_firable, enabled}
use Rattle.ar_firing.proofs.Ends.{split_live, Split, split, Tail, tail_of, path_unique, path_end, live, on_path, label_same}
use Rattle.ar_firing.proofs.EachHasOrder.{event_of, label_of}

-- past a place of a joined list
beyond : (front : List Label) (l : Label) (b : List Label) (j : ℕ) (m : Label) → length front < j
    → Stands (front ++ (l ∷ b)) j m → IsOneOf b m
beyond [] l b zero m h s = absurd (omega arith)
beyond [] l b (suc j) m h s = record { place = j; stands = s }
beyond (x ∷ front) l b zero m h s = absurd (omega arith)
beyond (x ∷ front) l b (suc j) m h s = beyond front l b j m (omega arith) s

at_front : (front : List Label) (l : Label) (b : List Label) → Stands (front ++ (l ∷ b)) (length front) l
at_front [] l b = refl
at_front (x ∷ front) l b = at_front front l b

shifted : (front : List Label) (l : Label) (b : List Label) (k : ℕ) (m : Label) → Stands b k m
    → (j : ℕ) × (length front < j) × Stands (front ++ (l ∷ b)) j m
shifted [] l b k m s = (suc k, omega arith, s)
shifted (x ∷ front) l b k m s = let r = shifted front l b k m s in (suc r.0, omega (arith, r.1), r.2)

module _ {V : Type 0} (sys : System V) (dropped : List ℕ) (keyed : AreKeyed sys.net)
    (static : IsStatic sys dropped) where
  -- what stands on the path before a label comes before it in the order
  before : {ls : List Label} {n : ℕ} {q : List Label} {from to : Value} → FollowTheirModes sys dropped ls
      → (k : ℕ) (l : Label) → Stands ls k l → Path sys dropped n q from → Edge sys dropped l n from to
      → (i : ℕ) (m : Label) → Stands q i m → (j : ℕ) × (k < j) × Stands ls j m
  before o k l s (root a b c) e i m h = absurd (stands_none i m h)
  before {ls = ls} {n = n} {from = from} {to = to} o k l s (edge {l = x} {ls = q} p d) e zero m h =
      let i : x ≡ m = cc in
      let r = o.after k l n from to x q s (edge p d) e in
      (r.0, r.1, subst (λ z. Stands ls r.0 z) i r.2)
  before {n = n} {from = from} {to = to} o k l s (edge {l = x} {ls = q} p d) e (suc i) m h =
      let r = o.after k l n from to x q s (edge p d) e in
      let t = before o r.0 x r.2 p d i m h in (t.0, omega (arith, r.1, t.1), t.2)

  -- where a path goes on past a mode, one of its edges leaves it
  pub record LeavesBy (n : ℕ) (ls : List Label) (from : Value) : Type 0 where
    pub label : Label
    pub to : Value
    pub edge_on : Edge sys dropped label n from to
    pub is_one : IsOneOf ls label

  pub leaves : (fr : List Label) {n : ℕ} {q : List Label} {from m : Value} → Path sys dropped n (fr ++ q) m
      → Path sys dropped n q from → (fr ≡ []) ⊎ LeavesBy n (fr ++ q) from
  leaves [] p d = inl refl
  leaves (x ∷ []) {n = n} {from = from} (edge {m = u} {to = to} p e) d =
      let i : u ≡ from = path_end sys dropped keyed static p d in
      inr
      (record {
        label = x;
        to = to;
        edge_on = subst (λ z. Edge sys dropped x n z to) i e;
        is_one = record { place = zero; stands = refl };
      })
  leaves (x ∷ y ∷ fr) {n = n} {q = q} {from = from} (edge p e) d =
      ⊎_elim (λ i. absurd (full i))
      (λ r. inr (record {
        label = r.label;
        to = r.to;
        edge_on = r.edge_on;
        is_one = record { place = suc r.is_one.place; stands = r.is_one.stands };
      }))
      (leaves (y ∷ fr) p d)
    where
      full : y ∷ fr ≡ [] → ⊥
      full i = cc

  module _ {set : List ℕ} {t u : List Value} (front : List Label) (l : Label) (b : List Label)
      (f : IsFirable sys dropped set t) (events : AreEvents (front ++ (l ∷ b)) set)
      (order : FollowTheirModes sys dropped (front ++ (l ∷ b)))
      (n : ℕ) (x : Variable V) (st : Stands sys.net.variables n x) (state : x.is_state ≡ true)
      (on : IsOneOf (f.path n) l) (r : Reaches sys dropped b u) where
    pub can_go_on : (from : Value) × (to : Value) × (e : Edge sys dropped l n from to) × Can (HasValue sys.net u) e.way
    can_go_on =
        let w = f.walks n x st state in
        let s = split sys dropped keyed static w.2 on.place l on.stands in
        let g = all_firable sys dropped keyed static r in
        let v = g.walks n x st state in
        let q_in : (m : Label) → IsOneOf s.rest m → IsOneOf (g.path n) m = λ m o. in_path g s m o in
        let tail = tail_of sys dropped keyed static s.path v.2 q_in in
        let e : s.rest ≡ g.path n =
        ⊎_elim (λ i. sym (tail.is ∙ ap (λ z. z ++ s.rest) i)) (λ k. absurd (never g s tail k))
        (leaves tail.front (subst (λ z. Path sys dropped n z v.0) tail.is v.2) s.path) in
        let m : v.0 ≡ s.from =
        path_end sys dropped keyed static v.2 (subst (λ z. Path sys dropped n z s.from) e s.path) in (
          s.from,
          s.to,
          s.edge,
          enabled sys dropped keyed g static l n s.from s.to s.edge
              (subst (λ z. Stands u n z) m v.1),
        )
      where
        in_path : (g : IsFirable sys dropped (map (λ l. l.event) b) u) (s : Split sys dropped n (f.path n) l)
            (m : Label)
            → IsOneOf s.rest m → IsOneOf (g.path n) m
        in_path g s m o =
            let a = before order (length front) l (at_front front l b) s.path s.edge o.place m o.stands in
            let c = beyond front l b a.0 m a.1 a.2 in
            let h = g.whole m.event (record { place = c.place; stands = event_of b c.place m c.stands }) in
            let y = g.walks h.0 h.1 h.3 h.4 in
            let z = split sys dropped keyed static y.2 h.5.place h.2 h.5.stands in
            let k = split sys dropped keyed static s.path o.place m o.stands in
            let d =
            static.one_edge.one h.2 m h.0 n z.from k.from z.to k.to (split_live sys dropped keyed static z)
            (split_live sys dropped keyed static k) h.6 in
            let i : h.2 ≡ m = label_same h.2 m h.6 d.0 in
            subst (λ z. IsOneOf (g.path z) m) d.1 (subst (λ z. IsOneOf (g.path h.0) z) i h.5)

        inside : Within (map (λ l. l.event) b) set
        inside = record {
          each = λ e o.
              let a = label_of b o.place e o.stands in
              let c = shifted front l b o.place a.0 a.1 in
              subst (λ z. IsOneOf set z) a.2 (events.sound c.0 a.0 c.2);
        }

        never : (g : IsFirable sys dropped (map (λ l. l.event) b) u) (s : Split sys dropped n (f.path n) l)
            (t : Tail sys dropped keyed static s.rest (g.path n))
            → LeavesBy n (t.front ++ s.rest) s.from → ⊥
        never g s t k =
            let i = k.label in
            let o : IsOneOf (g.path n) i = subst (λ z. IsOneOf z i) (sym t.is) k.is_one in
            let p = on_path sys dropped keyed static g f inside n x st state i o in
            let w = f.walks n x st state in
            let r = split sys dropped keyed static w.2 p.place i p.stands in
            let c =
            static.one_edge.one i i n n r.from s.from r.to k.to (split_live sys dropped keyed static r)
            (live sys dropped keyed static s.path k.edge_on) refl in
            let q : r.rest ≡ s.rest =
            path_unique sys dropped keyed static (subst (λ z. Path sys dropped n r.rest z) c.2 r.path) s.path in
            let a : length (f.path n) ≡ length s.front + suc (length s.rest) =
            ap length s.is ∙ length-append s.front (l ∷ s.rest) in
            let d : length (f.path n) ≡ length r.front + suc (length r.rest) =
            ap length r.is ∙ length-append r.front (i ∷ r.rest) in
            let e : length r.rest ≡ length s.rest = ap length q in
            let h : length r.front ≡ length s.front = omega arith in
            let here : Stands (f.path n) (length s.front) l =
            subst (λ z. Stands z (length s.front) l) (sym s.is) (at_front s.front l s.rest) in
            let there : Stands (f.path n) (length r.front) i =
            subst (λ z. Stands z (length r.front) i) (sym r.is) (at_front r.front i r.rest) in
            let j : i ≡ l =
            stands_one (f.path n) (length s.front) i l (subst (λ z. Stands (f.path n) z i) h there) here in
            let m = g.sound n x st state o.place i o.stands in
            let v = label_of b m.place i.event m.stands in
            let y = shifted front l b m.place v.0 v.1 in
            let z : length front ≡ y.0 =
            events.once (length front) y.0 l v.0 (at_front front l b) y.2 (sym (v.2 ∙ ap (λ z. z.event) j)) in
            absurd (omega (arith, y.1))
