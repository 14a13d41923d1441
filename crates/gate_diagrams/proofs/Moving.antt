-- Trees with the empty path alone: the walk is the same without them.
use Rattle.std.proofs.Common.{◌≡◌, ℕ, zero, suc, Bool, true, false, not, cond, ◌&&◌, ◌||◌, eqb, eqb-true, List, [], ◌∷◌, Option, Result, refl, sym, ap, ap₂, ◌∙◌, subst}
use Rattle.std.specs.List.{list_all}
use Rattle.ar_base.specs.Lists.{Stands}
use Rattle.zdd_nodes.specs.Families.{Family, has}
use Rattle.zdd_nodes.specs.FamiliesInside.{node}
use Rattle.zdd_nodes.specs.Sections.{IsCounted, lower}
use Rattle.zdd_nodes.specs.Nodes.{NodeId, Stored, family, Draws}
use Rattle.zdd_nodes.specs.declared.NodeFault.{NodeFault}
use Rattle.firable_families.specs.Walk.{occurs, taken, some_occurs, all_lower, all_taken, left, few_of, AreEventsBelow}
use Rattle.firable_families.proofs.Halving.{lower_above, taken_above}
use Rattle.gate_diagrams.specs.Walked.{families_left, moving, AreNumbers}
use Rattle.gate_diagrams.proofs.Going.{DrawsLeft}

-- the second list is the first without some families of the empty set alone
data Thins : List Family → List Family → Type 0 where
  done : Thins [] []
  keeps : {f : Family} {fs gs : List Family} → Thins fs gs → Thins (f ∷ fs) (f ∷ gs)
  drops : {f : Family} {fs gs : List Family} → f ≡ [] ∷ [] → Thins fs gs → Thins (f ∷ fs) gs

thin_lower : (i : ℕ) (fs gs : List Family) → Thins fs gs → Thins (all_lower i fs) (all_lower i gs)
thin_lower i _ _ done = done
thin_lower i _ _ (keeps {fs = fs} {gs = gs} t) = keeps (thin_lower i fs gs t)
thin_lower i _ _ (drops {fs = fs} {gs = gs} e t) =
    drops (ap (lower i) e ∙ lower_above i ([] ∷ []) (tt, tt)) (thin_lower i fs gs t)

thin_taken : (i : ℕ) (fs gs : List Family) → Thins fs gs → Thins (all_taken i fs) (all_taken i gs)
thin_taken i _ _ done = done
thin_taken i _ _ (keeps {fs = fs} {gs = gs} t) = keeps (thin_taken i fs gs t)
thin_taken i _ _ (drops {fs = fs} {gs = gs} e t) =
    drops (ap (taken i) e ∙ taken_above i ([] ∷ []) (tt, tt)) (thin_taken i fs gs t)

thin_occurs : (i : ℕ) (fs gs : List Family) → Thins fs gs → some_occurs i fs ≡ some_occurs i gs
thin_occurs i _ _ done = refl
thin_occurs i _ _ (keeps {f = f} {fs = fs} {gs = gs} t) = ap (λ b. occurs i f || b) (thin_occurs i fs gs t)
thin_occurs i _ _ (drops {f = f} {fs = fs} {gs = gs} e t) =
    ap (λ h. occurs i h || some_occurs i fs) e ∙ thin_occurs i fs gs t

thin_ends : (fs gs : List Family) → Thins fs gs
    → list_all (λ (f : Family). has f []) fs ≡ list_all (λ (f : Family). has f []) gs
thin_ends _ _ done = refl
thin_ends _ _ (keeps {f = f} {fs = fs} {gs = gs} t) = ap (λ b. has f [] && b) (thin_ends fs gs t)
thin_ends _ _ (drops {f = f} {fs = fs} {gs = gs} e t) =
    ap (λ h. has h [] && list_all (λ (f : Family). has f []) fs) e ∙ thin_ends fs gs t

thin_left : (k i : ℕ) (fs gs : List Family) → Thins fs gs → left k i fs ≡ left k i gs
thin_left zero i fs gs t = ap (λ b. cond b ([] ∷ []) []) (thin_ends fs gs t)
thin_left (suc k) i fs gs t =
    ap₂ (λ (lo hi : Family). node i lo (cond (some_occurs i fs) hi []))
    (thin_left k (suc i) (all_lower i fs) (all_lower i gs) (thin_lower i fs gs t))
    (thin_left k (suc i) (all_taken i fs) (all_taken i gs) (thin_taken i fs gs t))
    ∙ ap (λ b. node i (left k (suc i) (all_lower i gs)) (cond b (left k (suc i) (all_taken i gs)) []))
    (thin_occurs i fs gs t)

thin_stands : (fs gs : List Family) → Thins fs gs → (m : ℕ) (f : Family) → Stands gs m f → (j : ℕ) × Stands fs j f
thin_stands _ _ done m f s = (m, s)
thin_stands _ _ (keeps {fs = fs} {gs = gs} t) zero f s = (zero, s)
thin_stands _ _ (keeps {fs = fs} {gs = gs} t) (suc m) f s = let w = thin_stands fs gs t m f s in (suc w.0, w.1)
thin_stands _ _ (drops {fs = fs} {gs = gs} e t) m f s = let w = thin_stands fs gs t m f s in (suc w.0, w.1)

thins : (trees : Stored) (state : List NodeId) → Thins (families_left trees state) (families_left trees (moving state))
thins trees [] = done
thins trees (n ∷ state) = step (thins trees state) (eqb n.n 1) refl
  where
    step : Thins (families_left trees state) (families_left trees (moving state)) → (b : Bool) → eqb n.n 1 ≡ b
        → Thins (family trees n.n ∷ families_left trees state)
        (families_left trees (cond (not (eqb n.n 1)) (n ∷ moving state) (moving state)))
    step t true e = subst (λ b. Thins (family trees n.n ∷ families_left trees state)
        (families_left trees (cond (not b) (n ∷ moving state) (moving state)))) (sym e)
        (drops (ap (family trees) (eqb-true n.n 1 e)) t)
    step t false e = subst (λ b. Thins (family trees n.n ∷ families_left trees state)
        (families_left trees (cond (not b) (n ∷ moving state) (moving state)))) (sym e) (keeps t)

pub moving_numbers : (trees : Stored) (state : List NodeId) → AreNumbers trees state → AreNumbers trees (moving state)
moving_numbers trees state a = record { each = λ k n s. let w = back state k n s in a.each w.0 n w.1 }
  where
    back : (ns : List NodeId) (k : ℕ) (n : NodeId) → Stands (moving ns) k n → (j : ℕ) × Stands ns j n
    back [] k n s = (k, s)
    back (x ∷ ns) k n s = step (λ j t. back ns j n t) (eqb x.n 1) refl k s
      where
        step : ((j : ℕ) → Stands (moving ns) j n → (i : ℕ) × Stands ns i n) → (b : Bool) → eqb x.n 1 ≡ b → (k : ℕ)
            → Stands (cond (not (eqb x.n 1)) (x ∷ moving ns) (moving ns)) k n → (j : ℕ) × Stands (x ∷ ns) j n
        step ih true e k s =
            let w = ih k (subst (λ b. Stands (cond (not b) (x ∷ moving ns) (moving ns)) k n) e s) in (suc w.0, w.1)
        step ih false e zero s = (zero, subst (λ b. Stands (cond (not b) (x ∷ moving ns) (moving ns)) 0 n) e s)
        step ih false e (suc k) s =
            let w = ih k (subst (λ b. Stands (cond (not b) (x ∷ moving ns) (moving ns)) (suc k) n) e s) in (suc w.0, w.1)

-- what the walk draws without these trees is what it draws with them
pub moving_drawn : (order : Option ℕ) (trees : Stored) (state : List NodeId) (s t : Stored) (r : Result NodeId NodeFault)
    → DrawsLeft order trees (moving state) s t r → DrawsLeft order trees state s t r
moving_drawn order trees state s t r d = λ n b.
    let fs = families_left trees state in
    let gs = families_left trees (moving state) in
    let few : AreEventsBelow n gs = record
    { each = λ m e f st o. let w = thin_stands fs gs (thins trees state) m f st in b.each w.0 e f w.1 o } in
    subst (λ made. Draws (IsCounted made) made s t r)
    (ap (few_of order) (sym (thin_left n 0 fs gs (thins trees state)))) (d n few)
