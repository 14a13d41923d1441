-- The ends of paths by number.
use Rattle.std.proofs.Common.{◌≡◌, ⊎_elim, ℕ, zero, suc, ◌<◌, ◌≤◌, List, [], ◌∷◌, length, Some, refl, sym, ap, ◌∙◌, subst, arith}
use Rattle.std.proofs.lemmas.List.{length-map}
use Rattle.ar_base.specs.Lists.{Stands, IsOneOf}
use Rattle.ar_base.proofs.Standing.{stands_one, stands_within, stands_some, stands_map, stands_map_back, one_none, one_cases, one_first, one_rest}
use Rattle.domains.specs.declared.Value.{Value}
use Rattle.ar_meaning.specs.Runs.{Label}
use Rattle.ar_firing.specs.Forest.{Row, ModeTree}
use Rattle.ar_firing.specs.Trees.{IsTree}
use Rattle.firable_families.specs.FirableInside.{LeadsToMode, root, edge}
use Rattle.diagram_steps.specs.declared.trees.NumberedEdge.{NumberedEdge}
use Rattle.diagram_steps.specs.declared.trees.NumberedTree.{NumberedTree}
use Rattle.diagram_steps.specs.Trees.{edges_of}
use Rattle.mode_diagrams.specs.Trees.{IsOnPath, last, earlier, IsNumberedTree}
use Rattle.mode_diagrams.specs.Costs.{HasDifferentEvents}
use Rattle.mode_diagrams.specs.Numbers.{modes_in, IsNumberOf}

-- an edge of this event is one of these labels'
abbrev IsTaken : List Label → ℕ → Type 0
IsTaken labels e = (l : Label) × IsOneOf labels l × (l.event ≡ e)

no_path : (edges : List NumberedEdge) (e m : ℕ) → m ≡ 0 → IsOnPath edges e m → ⊥
no_path edges e m z (last n st is) = let wrong : ⊥ = omega (arith, z, n) in wrong
no_path edges e m z (earlier n st p) = let wrong : ⊥ = omega (arith, z, n) in wrong

-- a mode has one number
one_number : (tree : ModeTree) → IsTree tree → (a b : ℕ) (v : Value) → Stands (modes_in tree) a v
    → Stands (modes_in tree) b v → a ≡ b
one_number tree t zero zero v p q = refl
one_number tree t zero (suc b) v p q =
    let first : tree.first ≡ v = cc in
    let r = stands_map_back (λ (r : Row). r.to) tree.edges b v q in
    absurd (t.begins b r.0 r.1 (r.2 ∙ sym first))
one_number tree t (suc a) zero v p q =
    let first : tree.first ≡ v = cc in
    let r = stands_map_back (λ (r : Row). r.to) tree.edges a v p in
    absurd (t.begins a r.0 r.1 (r.2 ∙ sym first))
one_number tree t (suc a) (suc b) v p q =
    let r = stands_map_back (λ (r : Row). r.to) tree.edges a v p in
    let s = stands_map_back (λ (r : Row). r.to) tree.edges b v q in
    ap suc (t.enters a b r.0 s.0 r.1 s.1 (r.2 ∙ sym s.2))

-- the labels lead to mode m, and their events are those on the path to it
pub record IsPathTo (tree : ModeTree) (n : NumberedTree) (m : ℕ) (labels : List Label) : Type 0 where
  pub end : Value
  pub leads : LeadsToMode tree labels end
  pub stands : Stands (modes_in tree) m end
  pub to : (e : ℕ) → IsOnPath (edges_of n) e m → IsTaken labels e
  pub back : (e : ℕ) → IsTaken labels e → IsOnPath (edges_of n) e m

module _ (tree : ModeTree) (t : IsTree tree) (n : NumberedTree) (is : IsNumberOf tree n) where
  path_root : (m : Value) → tree.first ≡ m → (p : IsPathTo tree n 0 []) × (p.end ≡ m)
  path_root m f = (
    record {
      end = m;
      leads = root f;
      stands = ap Some f;
      to = λ e p. absurd (no_path (edges_of n) e 0 refl p);
      back = λ e x. absurd (one_none x.0 x.1);
    },
    refl,
  )

  -- along one edge more
  path_edge : (q : ℕ) (ls : List Label) (p : IsPathTo tree n q ls) (j : ℕ) (r : Row) → Stands tree.edges j r
      → r.from ≡ p.end → (w : IsPathTo tree n (suc j) (r.label ∷ ls)) × (w.end ≡ r.to)
  path_edge q ls p j r st from =
      let found = stands_some (edges_of n) j (omega (arith, is.long, stands_within tree.edges j r st)) in
      made found.0 found.1
    where
      made : (x : NumberedEdge) → Stands (edges_of n) j x
          → (w : IsPathTo tree n (suc j) (r.label ∷ ls)) × (w.end ≡ r.to)
      made x at =
          let event = is.event j r x st at in
          let number = is.from j r x st at in
          let same : x.from ≡ q =
          one_number tree t x.from q p.end (subst (Stands (modes_in tree) x.from) from number.stands) p.stands in (
            record {
              end = r.to;
              leads = edge p.leads (subst (λ v. IsOneOf tree.edges (record { from = v; label = r.label; to = r.to })) from
                  (record { place = j; stands = st }));
              stands = stands_map (λ (y : Row). y.to) tree.edges j r st;
              to = λ e o. on e (suc j) refl o;
              back = λ e y. ⊎_elim
                  (λ h. last refl at (event ∙ ap (λ (l : Label). l.event) h ∙ y.2))
                  (λ o. earlier refl at (subst (IsOnPath (edges_of n) e) (sym same) (p.back e (y.0, o, y.2))))
                  (one_cases r.label ls y.0 y.1);
            },
            refl,
          )
        where
          only : (i m : ℕ) (other : NumberedEdge) → m ≡ suc j → m ≡ suc i → Stands (edges_of n) i other → other ≡ x
          only i m other a b so =
              let here : i ≡ j = omega (arith, a, b) in
              stands_one (edges_of n) j other x (subst (λ k. Stands (edges_of n) k other) here so) at

          on : (e m : ℕ) → m ≡ suc j → IsOnPath (edges_of n) e m → IsTaken (r.label ∷ ls) e
          on e m a (last {m = i} {edge = other} b so w) = (
            r.label,
            one_first r.label ls,
            sym (is.event j r x st at)
                ∙ ap (λ (y : NumberedEdge). y.event.n) (sym (only i m other a b so)) ∙ w,
          )
          on e m a (earlier {m = i} {edge = other} b so o) =
              let number = is.from j r x st at in
              let same : x.from ≡ q = one_number tree t x.from q p.end
              (subst (Stands (modes_in tree) x.from) from number.stands) p.stands in
              let up = p.to e (subst (IsOnPath (edges_of n) e) same
              (subst (λ (y : NumberedEdge). IsOnPath (edges_of n) e y.from) (only i m other a b so) o)) in
              (up.0, one_rest r.label ls up.0 up.1, up.2)

  -- each path has the number of its end
  pub number_of : (labels : List Label) (end : Value) → LeadsToMode tree labels end
      → (m : ℕ) × (p : IsPathTo tree n m labels) × (p.end ≡ end)
  number_of [] end (root f) = let w = path_root end f in (0, w.0, w.1)
  number_of (l ∷ ls) end (edge {m = from} w one) =
      let up = number_of ls from w in
      let w = path_edge up.0 ls up.1 one.place (record { from = from; label = l; to = end }) one.stands (sym up.2) in
      (suc one.place, w.0, w.1)

  -- each number is that of the end of a path
  pub path_of : (fuel m : ℕ) → m < fuel → m ≤ length (edges_of n) → (labels : List Label) × IsPathTo tree n m labels
  path_of zero m f h = absurd (omega (arith, f))
  path_of (suc fuel) zero f h = ([], (path_root tree.first refl).0)
  path_of (suc fuel) (suc j) f h =
      let row = stands_some tree.edges j (omega (arith, h, is.long)) in
      let found = stands_some (edges_of n) j (omega (arith, h)) in
      let number = is.from j row.0 found.0 row.1 found.1 in
      let low = number.early in
      let up = path_of fuel found.0.from (omega (arith, f, low)) (omega (arith, h, low)) in
      let same : row.0.from ≡ up.1.end =
      stands_one (modes_in tree) found.0.from row.0.from up.1.end number.stands up.1.stands in
      (row.0.label ∷ up.0, (path_edge found.0.from up.0 up.1 j row.0 row.1 same).0)

  pub number_within : (m : ℕ) (labels : List Label) → IsPathTo tree n m labels → m ≤ length (edges_of n)
  number_within m labels p =
      let low = stands_within (modes_in tree) m p.end p.stands in
      omega (arith, low, is.long, length-map tree.edges (λ (r : Row). r.to))

  pub is_numbered : IsNumberedTree n
  is_numbered = record {
    each = λ m x st.
        let row = stands_some tree.edges m (omega (arith, is.long, stands_within (edges_of n) m x st)) in
        (is.from m row.0 x row.1 st).early;
  }

  pub has_different : HasDifferentEvents n
  has_different = record {
    one = λ j k a b sa sb e.
        let p = stands_some tree.edges j (omega (arith, is.long, stands_within (edges_of n) j a sa)) in
        let q = stands_some tree.edges k (omega (arith, is.long, stands_within (edges_of n) k b sb)) in
        t.event j k p.0 q.0 p.1 q.1 (sym (is.event j p.0 a p.1 sa) ∙ e ∙ is.event k q.0 b q.1 sb);
  }
