-- What a firable set says of the modes of its state.
use Rattle.std.proofs.Common.{◌≡◌, ◌+◌, ◌⊎◌, inl, inr, ⊎_elim, ℕ, zero, suc, true, List, [], ◌∷◌, ◌++◌, length, length-append, refl, sym, ◌∙◌, ap, subst, arith}
use Rattle.ar_base.specs.Lists.{Stands, IsOneOf}
use Rattle.ar_base.proofs.Standing.{stands_one}
use Rattle.domains.specs.declared.Value.{Value}
use Rattle.ar_meaning.specs.Systems.{Variable, System}
use Rattle.ar_meaning.specs.FactsInside.{AreKeyed}
use Rattle.ar_meaning.specs.Runs.{Label}
use Rattle.ar_firing.specs.Fragment.{Path, root, edge, Edge, IsLive}
use Rattle.ar_firing.specs.Static.{IsStatic}
use Rattle.ar_firing.specs.Cuts.{IsFirable}
use Rattle.ar_firing.specs.CutsInside.{NoneLeaves}
use Rattle.ar_firing.proofs.Ends.{split_live, split, path_unique, path_end, live, end_same, label_same}
use Rattle.ar_firing.proofs.InOrder.{leaves}

module _ {V : Type 0} (sys : System V) (dropped : List ℕ) (keyed : AreKeyed sys.net) (static : IsStatic sys dropped)
    {set : List ℕ} {t : List Value} (f : IsFirable sys dropped set t)
    (n : ℕ) (x : Variable V) (s : Stands sys.net.variables n x) (state : x.is_state ≡ true) where
  -- a live edge of this variable whose event is in the set stands on its path
  on_its_path : (l : Label) (from to : Value) → IsLive sys dropped l n from to → IsOneOf set l.event
      → IsOneOf (f.path n) l
  on_its_path l from to h o =
      let w = f.whole l.event o in
      let v = f.walks w.0 w.1 w.3 w.4 in
      let r = split sys dropped keyed static v.2 w.5.place w.2 w.5.stands in
      let c = static.one_edge.one w.2 l w.0 n r.from from r.to to (split_live sys dropped keyed static r) h w.6 in
      let i : w.2 ≡ l = label_same w.2 l w.6 c.0 in
      subst (λ z. IsOneOf (f.path z) l) c.1 (subst (λ z. IsOneOf (f.path w.0) z) i w.5)

  pub stays : (m : Value) → Stands t n m → NoneLeaves sys dropped set n m
  stays m h l to e o =
      let p = on_its_path l m to e o in
      let w = f.walks n x s state in
      let r = split sys dropped keyed static w.2 p.place l p.stands in
      let c = static.one_edge.one l l n n r.from m r.to to (split_live sys dropped keyed static r) e refl in
      let i : w.0 ≡ m = stands_one t n w.0 m w.1 h in
      let u : r.rest ≡ f.path n =
      path_unique sys dropped keyed static (subst (λ z. Path sys dropped n r.rest z) c.2 r.path)
      (subst (λ z. Path sys dropped n (f.path n) z) i w.2) in
      let a : length (f.path n) ≡ length r.front + suc (length r.rest) =
      ap length r.is ∙ length-append r.front (l ∷ r.rest) in
      let b : length r.rest ≡ length (f.path n) = ap length u in absurd (omega arith)

  -- where no edge leaves a mode on the way, the path ends there
  ends_at : (front ls : List Label) (m : Value) → f.path n ≡ front ++ ls → Path sys dropped n ls m
      → NoneLeaves sys dropped set n m → Stands t n m
  ends_at front ls m is p h =
      let w = f.walks n x s state in
      let q : Path sys dropped n (front ++ ls) w.0 = subst (λ z. Path sys dropped n z w.0) is w.2 in
      ⊎_elim
      (λ e. let k : w.0 ≡ m = path_end sys dropped keyed static (subst (λ z. Path sys dropped n (z ++ ls) w.0) e q) p in subst (λ z. Stands t n z) k w.1)
      (λ b. let o : IsOneOf (f.path n) b.label = subst (λ z. IsOneOf z b.label) (sym is) b.is_one in
      absurd
      (h b.label b.to (record { reached = record { labels = ls; path = p }; edge = b.edge_on })
      (f.sound n x s state o.place b.label o.stands)))
      (leaves sys dropped keyed static front q p)

  pub entered : (l : Label) (from m : Value) → IsLive sys dropped l n from m → Stands t n m → IsOneOf set l.event
  entered l from m h v = go (f.path n) refl w.0 w.2 (stands_one t n w.0 m w.1 v)
    where
      w : (m : Value) × Stands t n m × Path sys dropped n (f.path n) m
      w = f.walks n x s state

      go : (ls : List Label) → f.path n ≡ ls → (k : Value) → Path sys dropped n ls k → k ≡ m → IsOneOf set l.event
      go [] is k (root {x = y} st i e) j =
          absurd (static.enters_once.begins l n from y st (subst (λ z. IsLive sys dropped l n from z) (sym (e ∙ j)) h))
      go (a ∷ ls) is k (edge {m = u} p d) j =
          let b =
          static.enters_once.enters a l n u from m
          (subst (λ z. IsLive sys dropped a n u z) j (live sys dropped keyed static p d)) h in
          subst (λ z. IsOneOf set z) b.0 (f.sound n x s state zero a (subst (λ z. Stands z zero a) (sym is) refl))

  pub enters_and_stays : (l : Label) (from m : Value) → IsLive sys dropped l n from m → IsOneOf set l.event
      → NoneLeaves sys dropped set n m → Stands t n m
  enters_and_stays l from m h o k =
      let p = on_its_path l from m h o in
      let w = f.walks n x s state in
      let r = split sys dropped keyed static w.2 p.place l p.stands in
      let c = static.one_edge.one l l n n r.from from r.to m (split_live sys dropped keyed static r) h refl in
      let e : r.to ≡ m =
      end_same sys dropped keyed static (subst (λ z. Edge sys dropped l n z r.to) c.2 r.edge) h.edge in
      ends_at r.front (l ∷ r.rest) m r.is (subst (λ z. Path sys dropped n (l ∷ r.rest) z) e (edge r.path r.edge)) k

  pub stays_at_first : NoneLeaves sys dropped set n x.value → Stands t n x.value
  stays_at_first k = ends_at (f.path n) [] x.value (nil (f.path n)) (root s state refl) k
    where
      nil : (xs : List Label) → xs ≡ xs ++ []
      nil [] = refl
      nil (y ∷ ys) = ap (λ z. y ∷ z) (nil ys)

  -- a mode of the state is the init value or is entered by an edge of the set
  pub comes_by : (m : Value) → Stands t n m
      → (m ≡ x.value) ⊎ ((l : Label) × (from : Value) × IsLive sys dropped l n from m × IsOneOf set l.event)
  comes_by m v = go (f.path n) refl w.0 w.2 (stands_one t n w.0 m w.1 v)
    where
      w : (m : Value) × Stands t n m × Path sys dropped n (f.path n) m
      w = f.walks n x s state

      go : (ls : List Label) → f.path n ≡ ls → (k : Value) → Path sys dropped n ls k → k ≡ m
          → (m ≡ x.value) ⊎ ((l : Label) × (from : Value) × IsLive sys dropped l n from m × IsOneOf set l.event)
      go [] is k (root {x = y} st i e) j =
          inl (sym j ∙ (sym e ∙ ap (λ z. z.value) (stands_one sys.net.variables n y x st s)))
      go (a ∷ ls) is k (edge {m = u} p d) j =
          inr (
            a,
            u,
            subst (λ z. IsLive sys dropped a n u z) j (live sys dropped keyed static p d),
            f.sound n x s state zero
                a (subst (λ z. Stands z zero a) (sym is) refl),
          )
