-- What is firable in the trees of a static system's forest is firable in the system.
use Rattle.std.proofs.Common.{◌≡◌, ⊎_elim, ◌↔◌, ℕ, zero, suc, Bool, true, false, cond, eqb, List, [], ◌∷◌, map, length, get_or, refl, sym, ap, ◌∙◌, subst, arith, true≢false, eqb-true, eq-eqb}
use Rattle.std.proofs.lemmas.Bool.{cases_order}
use Rattle.std.proofs.lemmas.Option.{get_or_from_slice_get}
use Rattle.ar_base.specs.Lists.{Stands, IsOneOf}
use Rattle.ar_base.proofs.Standing.{stands_one, stands_map}
use Rattle.domains.specs.declared.Value.{Value}
use Rattle.ar_meaning.specs.Systems.{Variable, System}
use Rattle.ar_meaning.specs.FactsInside.{AreKeyed}
use Rattle.ar_meaning.specs.Runs.{Label}
use Rattle.ar_firing.specs.Fragment as sys_
use Rattle.ar_firing.specs.Fragment.{Path, Edge, IsModeOf}
use Rattle.ar_firing.specs.Static.{IsStatic}
use Rattle.ar_firing.specs.Cuts.{IsFirable}
use Rattle.ar_firing.specs.Operands.{IsFirableWith}
use Rattle.ar_firing.specs.Forest.{ModeTree, IsModeVariable, IsModeTree, IsForest}
use Rattle.ar_firing.proofs.Ends.{live}
use Rattle.ar_firing.proofs.TreeEdges.{row_is_live, live_is_row}
use Rattle.firable_families.specs.FirableInside.{LeadsToMode, root, edge, IsFirableOf, IsTrueAt}

-- the path of the tree of this variable, where there is one
abbrev pub path_for : List ModeTree → (ℕ → List Label) → ℕ → List Label
path_for [] p n = []
path_for (t ∷ ts) p n = cond (eqb t.variable n) (p zero) (path_for ts (λ k. p (suc k)) n)

-- it is that of a tree, or there is none
pub data Found (trees : List ModeTree) (p : ℕ → List Label) (n : ℕ) (path : List Label) : Type 0 where
  at : (k : ℕ) (tree : ModeTree) → Stands trees k tree → tree.variable ≡ n → path ≡ p k → Found trees p n path
  nowhere : ((k : ℕ) (tree : ModeTree) → Stands trees k tree → tree.variable ≡ n → ⊥) → path ≡ [] → Found trees p n path

pub found : (trees : List ModeTree) (p : ℕ → List Label) (n : ℕ) → Found trees p n (path_for trees p n)
found [] p n = nowhere (λ k tree i e. cc) refl
found (t ∷ ts) p n = step (found ts (λ k. p (suc k)) n) (eqb t.variable n) refl
  where
    later : {path : List Label} → Found ts (λ k. p (suc k)) n path → (t.variable ≡ n → ⊥) → Found (t ∷ ts) p n path
    later (at k tree i e q) d = at (suc k) tree i e q
    later (nowhere h q) d = nowhere (λ k tree i e. none k tree i e) q
      where
        none : (k : ℕ) (tree : ModeTree) → Stands (t ∷ ts) k tree → tree.variable ≡ n → ⊥
        none zero tree i e = let r : t ≡ tree = cc in d (ap (λ z. z.variable) r ∙ e)
        none (suc k) tree i e = h k tree i e

    step : Found ts (λ k. p (suc k)) n (path_for ts (λ k. p (suc k)) n) → (b : Bool) → eqb t.variable n ≡ b
        → Found (t ∷ ts) p n (cond (eqb t.variable n) (p zero) (path_for ts (λ k. p (suc k)) n))
    step f true h = at zero t refl (eqb-true t.variable n h)
        (ap (λ b. cond b (p zero) (path_for ts (λ k. p (suc k)) n)) h)
    step f false h = subst (λ b. Found (t ∷ ts) p n (cond b (p zero) (path_for ts (λ k. p (suc k)) n))) (sym h)
        (later f (λ e. true≢false (sym (eq-eqb t.variable n e) ∙ h)))

-- a state, from what each state variable has
pub build : {V : Type 0} (xs : List (Variable V)) (Q : ℕ → Value → Type 0)
    → ((k : ℕ) (x : Variable V) → Stands xs k x → x.is_state ≡ true → (m : Value) × Q k m)
    → (t : List Value) × (length t ≡ length xs)
    × ((k : ℕ) (x : Variable V) → Stands xs k x → x.is_state ≡ true → (m : Value) × Stands t k m × Q k m)
build [] Q h = ([], refl, λ k x i s. cc)
build {V = V} (y ∷ xs) Q h =
    let r = build xs (λ k. Q (suc k)) (λ k x i s. h (suc k) x i s) in
    let v = first y.is_state refl in
    (v.0 ∷ r.0, ap suc r.1, after v.0 v.1 r.0 r.2)
  where
    first : (b : Bool) → y.is_state ≡ b → (v : Value) × (y.is_state ≡ true → Q zero v)
    first true e = let m = h zero y refl e in (m.0, λ s. m.1)
    first false e = (y.value, λ s. absurd (true≢false (sym s ∙ e)))

    after : (v : Value) → (y.is_state ≡ true → Q zero v) → (t : List Value)
        → ((k : ℕ) (x : Variable V) → Stands xs k x → x.is_state ≡ true → (m : Value) × Stands t k m × Q (suc k) m)
        → (k : ℕ) (x : Variable V) → Stands (y ∷ xs) k x → x.is_state ≡ true → (m : Value) × Stands (v ∷ t) k m × Q k m
    after v q t r zero x i s = let e : y ≡ x = cc in (v, refl, q (ap (λ z. z.is_state) e ∙ s))
    after v q t r (suc k) x i s = r k x i s

module _ {V : Type 0} (sys : System V) (dropped : List ℕ) (keyed : AreKeyed sys.net) (static : IsStatic sys dropped)
    (trees : List ModeTree) (forest : IsForest sys dropped trees) where
  one_tree : (j k : ℕ) (s t : ModeTree) → Stands trees j s → Stands trees k t → s.variable ≡ t.variable → j ≡ k
  one_tree j k s t i h e = ⊎_elim (λ x. x) (λ o. ⊎_elim
      (λ l. let a = forest.ascends j k s t l i h in absurd (omega (arith, a, e)))
      (λ l. let a = forest.ascends k j t s l h i in absurd (omega (arith, a, e))) o) (cases_order j k)

  -- paths of a tree are those of its variable
  path_of : (tree : ModeTree) → IsModeTree sys dropped tree → {ls : List Label} {m : Value} → LeadsToMode tree ls m
      → Path sys dropped tree.variable ls m
  path_of tree h {m = m} (root e) = sys_.root h.is_mode.stands h.is_mode.is_state (sym h.first ∙ e)
  path_of tree h (edge {l = l} {m = m} {to = to} p r) =
      sys_.edge (path_of tree h p) (row_is_live sys dropped keyed static tree h
      (record { from = m; label = l; to = to }) r).edge

  of_path : (tree : ModeTree) → IsModeTree sys dropped tree → {ls : List Label} {m : Value}
      → Path sys dropped tree.variable ls m → LeadsToMode tree ls m
  of_path tree h {m = m} (sys_.root {x = x} s i e) =
      root (h.first ∙ ap (λ z. z.value) (stands_one sys.net.variables tree.variable h.is_mode.variable x
      h.is_mode.stands s) ∙ e)
  of_path tree h (sys_.edge {l = l} {m = m} {to = to} p e) =
      edge (of_path tree h p) (live_is_row sys dropped keyed static tree h (record { from = m; label = l; to = to })
      (live sys dropped keyed static p e))

  -- a variable with an edge is a mode variable
  moves : (l : Label) (n : ℕ) (a b : Value) → Edge sys dropped l n a b → IsModeVariable sys dropped n
  moves l n a b e = record {
    variable = e.variable;
    stands = e.is_variable;
    is_state = (state_of e.is_mode).0;
    moves = record { label = l; way = e.way; is_kept = e.is_open.is_kept; is_unit = sym (state_of e.is_mode).1 };
  }
    where
      state_of : IsModeOf sys e.is_open.is_kept.is_way.event.unit e.way n
          → (e.variable.is_state ≡ true) × (e.variable.unit ≡ e.is_open.is_kept.is_way.event.unit)
      state_of (sys_.named f) =
          let q : f.item ≡ e.variable = stands_one sys.net.variables n f.item e.variable f.stands e.is_variable in
          (ap (λ z. z.is_state) (sym q) ∙ f.has.is_state, ap (λ z. z.unit) (sym q) ∙ f.has.is_unit)
      state_of (sys_.first g f) =
          let q : f.item ≡ e.variable = stands_one sys.net.variables n f.item e.variable f.stands e.is_variable in
          (ap (λ z. z.is_state) (sym q) ∙ f.has.is_state, ap (λ z. z.unit) (sym q) ∙ f.has.is_unit)

  on_path_moves : {n : ℕ} {ls : List Label} {m : Value} → Path sys dropped n ls m → (k : ℕ) (l : Label) → Stands ls k l
      → IsModeVariable sys dropped n
  on_path_moves (sys_.root s i e) k l h = cc
  on_path_moves {n = n} (sys_.edge {l = j} {m = m} {to = to} p e) k l h = moves j n m to e

  pub firable_in_trees : (set : List ℕ) (t : List Value) → IsFirable sys dropped set t → IsFirableOf trees set
  firable_in_trees set t p = record {
    path = λ k. p.path (variable k);
    walks = λ k tree i.
        let h = forest.sound k tree i in
        let w = p.walks tree.variable h.is_mode.variable h.is_mode.stands h.is_mode.is_state in
        (w.0, subst (λ z. LeadsToMode tree (p.path z) w.0) (variable_is k tree i) (of_path tree h w.2));
    sound = λ k tree i j l s.
        let h = forest.sound k tree i in
        p.sound tree.variable h.is_mode.variable h.is_mode.stands h.is_mode.is_state j l
        (subst (λ z. Stands (p.path z) j l) (sym (variable_is k tree i)) s);
    whole = λ e o.
        let w = p.whole e o in
        let x = p.walks w.0 w.1 w.3 w.4 in
        let f = forest.whole w.0 (on_path_moves x.2 w.5.place w.2 w.5.stands) in (
          f.1.place,
          f.0,
          w.2,
          f.1.stands,
          subst (λ z. IsOneOf (p.path z) w.2)
              (sym f.2 ∙ variable_is f.1.place f.0 f.1.stands) w.5,
          w.6,
        );
  }
    where
      variable : ℕ → ℕ
      variable k = get_or (map (λ (t : ModeTree). t.variable) trees) k 0

      variable_is : (k : ℕ) (tree : ModeTree) → Stands trees k tree → tree.variable ≡ variable k
      variable_is k tree i = sym (get_or_from_slice_get (map (λ (t : ModeTree). t.variable) trees) k tree.variable 0
          (stands_map (λ (t : ModeTree). t.variable) trees k tree i))

  pub firable_in_system : (set : List ℕ) → IsFirableOf trees set → (t : List Value) × IsFirable sys dropped set t
  firable_in_system set p =
      let b = build sys.net.variables (λ n m. Path sys dropped n (path n) m) walks in
      (b.0, record { long = b.1; path = path; walks = b.2; sound = sound; whole = whole })
    where
      path : ℕ → List Label
      path n = path_for trees p.path n

      path_at : (k : ℕ) (tree : ModeTree) → Stands trees k tree → path tree.variable ≡ p.path k
      path_at k tree i = step (found trees p.path tree.variable)
        where
          step : Found trees p.path tree.variable (path tree.variable) → path tree.variable ≡ p.path k
          step (at j s h e q) = q ∙ ap p.path (one_tree j k s tree h i e)
          step (nowhere h q) = absurd (h k tree i refl)

      walks : (n : ℕ) (x : Variable V) → Stands sys.net.variables n x → x.is_state ≡ true
          → (m : Value) × Path sys dropped n (path n) m
      walks n x s i = step (found trees p.path n)
        where
          step : Found trees p.path n (path n) → (m : Value) × Path sys dropped n (path n) m
          step (at k tree h e q) =
              let w = p.walks k tree h in (
                w.0,
                subst (λ z. Path sys dropped n z w.0) (sym q)
                    (subst (λ z. Path sys dropped z (p.path k) w.0) e (path_of tree (forest.sound k tree h) w.1)),
              )
          step (nowhere h q) = (x.value, subst (λ z. Path sys dropped n z x.value) (sym q) (sys_.root s i refl))

      sound : (n : ℕ) (x : Variable V) → Stands sys.net.variables n x → x.is_state ≡ true → (k : ℕ) (l : Label)
          → Stands (path n) k l → IsOneOf set l.event
      sound n x s i k l h = step (found trees p.path n)
        where
          step : Found trees p.path n (path n) → IsOneOf set l.event
          step (at j tree g e q) = p.sound j tree g k l (subst (λ z. Stands z k l) q h)
          step (nowhere g q) = let r : Stands [] k l = subst (λ z. Stands z k l) q h in cc

      whole : (e : ℕ) → IsOneOf set e → (n : ℕ) × (x : Variable V) × (l : Label) × Stands sys.net.variables n x
          × (x.is_state ≡ true) × IsOneOf (path n) l × (l.event ≡ e)
      whole e o =
          let w = p.whole e o in
          let h = forest.sound w.0 w.1 w.3 in (
            w.1.variable,
            h.is_mode.variable,
            w.2,
            h.is_mode.stands,
            h.is_mode.is_state,
            subst (λ z. IsOneOf z w.2)
                (sym (path_at w.0 w.1 w.3)) w.4,
            w.5,
          )

  -- the sets at which an operand is true, in the trees and in the system
  pub true_in_system : (test : List ℕ → Bool) (set : List ℕ) → IsTrueAt trees test set
      ↔ IsFirableWith sys dropped test set
  true_in_system test set = (
    (λ h. let f = firable_in_system set h.is_firable in record { values = f.0; is_firable = f.1; holds = h.holds }),
    (λ h. record { is_firable = firable_in_trees set h.values h.is_firable; holds = h.holds }),
  )
