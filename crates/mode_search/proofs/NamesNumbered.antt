-- The variables that a transition names, by number and by plain number.
use Rattle.std.proofs.Common.{◌≡◌, ℕ, ◌⊎◌, inl, inr, List, sym, ap, subst}
use Rattle.ar_base.specs.Lists.{IsOneOf}
use Rattle.ar_base.specs.Numbers.{VarId}
use Rattle.ar_base.proofs.Standing.{stands_map, stands_map_back}
use Rattle.typed_expr.specs.Mentions.{Mentions}
use Rattle.typed_expr.specs.declared.expr.Expr.{Expr, out-Expr}
use Rattle.ar_meaning.specs.Systems as s
use Rattle.ar_meaning.specs.Systems.{Transition, Leaf}
use Rattle.ar_meaning.specs.Dependence.{Names}
use Rattle.ar_firing.specs.Fragment.{Involves, as_target, as_source, GuardNames, guard, ActionNames, action}
use Rattle.gts_core.specs.View.{assign_of}
use Rattle.gts_core.specs.declared.system.Assign.{Assign}
use Rattle.gts_core.proofs.NamesNumbered.{ByNumber, mentions_there, mentions_back, reads_there, reads_back}
use Rattle.mode_search.specs.Named.{AssignNamesVariable, OneNames}
use Rattle.mode_search.specs.Modes.{transition_of}
use Rattle.mode_search.proofs.Added.{some_item, some_here}

involves_there : (a : Assign) (v : VarId) → AssignNamesVariable a v → Involves v.n (assign_of a)
involves_there a v (inl e) = as_target (sym (ap (λ (z : VarId). z.n) e))
involves_there a v (inr d) = as_source (reads_there a v d)

involves_parts : (x : ℕ) (b : s.Assign ℕ) → Involves x b → (b.target ≡ x) ⊎ Names b x
involves_parts x b (as_target e) = inl e
involves_parts x b (as_source d) = inr d

involves_back : (a : Assign) (x : ℕ) → Involves x (assign_of a) → ByNumber (AssignNamesVariable a) x
involves_back a x h = elim (involves_parts x (assign_of a) h) [
  | inl e ↦ record { variable = a.target; is = e; has = inl refl_target }
  | inr d ↦ (let r = reads_back a x d in record { variable = r.variable; is = r.is; has = inr r.has })
]
  where
    refl_target : a.target ≡ a.target
    refl_target = cc

module _ (g : Expr VarId) (acts : List Assign) where
  pub guard_there : (v : VarId) → Mentions v (out-Expr VarId g) → GuardNames v.n (Leaf (transition_of g acts))
  guard_there v m = guard (mentions_there v g m)

  guard_parts : (x : ℕ) (d : Transition ℕ) → GuardNames x (Leaf d) → Mentions x (out-Expr ℕ d.guard)
  guard_parts x d (guard m) = m

  pub guard_back : (x : ℕ) → GuardNames x (Leaf (transition_of g acts))
      → ByNumber (λ v. Mentions v (out-Expr VarId g)) x
  guard_back x h = mentions_back x g (guard_parts x (transition_of g acts) h)

  pub action_there : (v : VarId) → OneNames acts v → ActionNames v.n (Leaf (transition_of g acts))
  action_there v h =
      let o = some_item AssignNamesVariable acts v h in
      action (assign_of o.0) (record { place = o.1.place; stands = stands_map assign_of acts o.1.place o.0 o.1.stands })
      (involves_there o.0 v o.2)

  action_parts : (x : ℕ) (d : Transition ℕ) → ActionNames x (Leaf d)
      → (b : s.Assign ℕ) × IsOneOf d.action b × Involves x b
  action_parts x d (action b o i) = (b, o, i)

  pub action_back : (x : ℕ) → ActionNames x (Leaf (transition_of g acts)) → ByNumber (OneNames acts) x
  action_back x h =
      let o = action_parts x (transition_of g acts) h in
      let k = stands_map_back assign_of acts o.1.place o.0 o.1.stands in
      let r = involves_back k.0 x (subst (λ (z : s.Assign ℕ). Involves x z) (sym k.2) o.2) in
      record { variable = r.variable; is = r.is; has = some_here AssignNamesVariable acts r.variable k.0 o.1.place k.1 r.has }
