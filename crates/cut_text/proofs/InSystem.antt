-- What is firable in the trees of a static system's forest is firable in the system, along the same paths.
use Rattle.std.proofs.Common.{◌≡◌, ⊎_elim, ℕ, true, List, [], refl, sym, ap, ◌∙◌, subst, arith}
use Rattle.std.proofs.lemmas.Bool.{cases_order}
use Rattle.ar_base.specs.Lists.{Stands, IsOneOf}
use Rattle.domains.specs.declared.Value.{Value}
use Rattle.ar_meaning.specs.Systems.{Variable, System}
use Rattle.ar_meaning.specs.FactsInside.{AreKeyed}
use Rattle.ar_meaning.specs.Runs.{Label}
use Rattle.ar_firing.specs.Fragment as sys_
use Rattle.ar_firing.specs.Fragment.{Path}
use Rattle.ar_firing.specs.Static.{IsStatic}
use Rattle.ar_firing.specs.Cuts.{IsFirable}
use Rattle.ar_firing.specs.Forest.{ModeTree, IsModeTree, IsForest}
use Rattle.ar_firing.proofs.TreeEdges.{row_is_live}
use Rattle.firable_families.specs.FirableInside.{LeadsToMode, root, edge, IsFirableOf}
use Rattle.firable_families.proofs.InForests.{path_for, Found, at, nowhere, found, build}

module _ {V : Type 0} (sys : System V) (dropped : List ℕ) (keyed : AreKeyed sys.net) (static : IsStatic sys dropped)
    (trees : List ModeTree) (forest : IsForest sys dropped trees) where
  one_tree : (j k : ℕ) (s t : ModeTree) → Stands trees j s → Stands trees k t → s.variable ≡ t.variable → j ≡ k
  one_tree j k s t i h e = ⊎_elim (λ x. x) (λ o. ⊎_elim
      (λ l. let a = forest.ascends j k s t l i h in absurd (omega (arith, a, e)))
      (λ l. let a = forest.ascends k j t s l h i in absurd (omega (arith, a, e))) o) (cases_order j k)

  -- paths of a tree are those of its variable
  path_of : (tree : ModeTree) → IsModeTree sys dropped tree → {ls : List Label} {m : Value} → LeadsToMode tree ls m
      → Path sys dropped tree.variable ls m
  path_of tree h {m = m} (root e) = sys_.root h.is_mode.stands h.is_mode.is_state (sym h.first ∙ e)
  path_of tree h (edge {l = l} {m = m} {to = to} p r) = sys_.edge (path_of tree h p)
      (row_is_live sys dropped keyed static tree h (record { from = m; label = l; to = to }) r).edge

  pub in_system : (set : List ℕ) (p : IsFirableOf trees set) → (t : List Value) × (f : IsFirable sys dropped set t)
      × ((k : ℕ) (tree : ModeTree) → Stands trees k tree → f.path tree.variable ≡ p.path k)
  in_system set p =
      let b = build sys.net.variables (λ n m. Path sys dropped n (path n) m) walks in
      (b.0, record { long = b.1; path = path; walks = b.2; sound = sound; whole = whole }, path_at)
    where
      path : ℕ → List Label
      path n = path_for trees p.path n

      path_at : (k : ℕ) (tree : ModeTree) → Stands trees k tree → path tree.variable ≡ p.path k
      path_at k tree i = step (found trees p.path tree.variable)
        where
          step : Found trees p.path tree.variable (path tree.variable) → path tree.variable ≡ p.path k
          step (at j s h e q) = q ∙ ap p.path (one_tree j k s tree h i e)
          step (nowhere h q) = absurd (h k tree i refl)

      walks : (n : ℕ) (x : Variable V) → Stands sys.net.variables n x → x.is_state ≡ true → (m : Value)
          × Path sys dropped n (path n) m
      walks n x s i = step (found trees p.path n)
        where
          step : Found trees p.path n (path n) → (m : Value) × Path sys dropped n (path n) m
          step (at k tree h e q) =
              let w = p.walks k tree h in (
                w.0,
                subst (λ z. Path sys dropped n z w.0) (sym q)
                    (subst (λ z. Path sys dropped z (p.path k) w.0) e (path_of tree (forest.sound k tree h) w.1)),
              )
          step (nowhere h q) = (x.value, subst (λ z. Path sys dropped n z x.value) (sym q) (sys_.root s i refl))

      sound : (n : ℕ) (x : Variable V) → Stands sys.net.variables n x → x.is_state ≡ true → (k : ℕ) (l : Label)
          → Stands (path n) k l → IsOneOf set l.event
      sound n x s i k l h = step (found trees p.path n)
        where
          step : Found trees p.path n (path n) → IsOneOf set l.event
          step (at j tree g e q) = p.sound j tree g k l (subst (λ z. Stands z k l) q h)
          step (nowhere g q) = let r : Stands [] k l = subst (λ z. Stands z k l) q h in cc

      whole : (e : ℕ) → IsOneOf set e → (n : ℕ) × (x : Variable V) × (l : Label) × Stands sys.net.variables n x ×
          (x.is_state ≡ true) × IsOneOf (path n) l × (l.event ≡ e)
      whole e o =
          let w = p.whole e o in
          let h = forest.sound w.0 w.1 w.3 in (
            w.1.variable,
            h.is_mode.variable,
            w.2,
            h.is_mode.stands,
            h.is_mode.is_state,
            subst (λ z. IsOneOf z w.2)
                (sym (path_at w.0 w.1 w.3)) w.4,
            w.5,
          )
