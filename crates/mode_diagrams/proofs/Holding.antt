-- The states that are held stay right.
use Rattle.std.proofs.Common.{◌≡◌, ◌⊎◌, ⊎_elim, inl, inr, ℕ, Bool, true, false, cond, ◌&&◌, eqb, List, [], ◌∷◌, Some, Result, Ok, Err, OnOk, OnErr, IfOk, MatchResult, refl, sym, ap, ap₂, ◌∙◌, subst, eqb-true}
use Rattle.std.proofs.Math.Bool.{and-true}
use Rattle.std.proofs.lemmas.Bool.{and_parts}
use Rattle.std.specs.Map.{lookup}
use Rattle.ar_base.proofs.Comparing.{id_from}
use Rattle.zdd_nodes.specs.Families.{Family}
use Rattle.zdd_nodes.specs.Nodes.{NodeId, Stored, family, Grows}
use Rattle.zdd_nodes.specs.declared.NodeFault.{NodeFault}
use Rattle.zdd_nodes.specs.declared.NodeFault.TheVariants.{Memory as OutOfMemory}
use Rattle.zdd_nodes.proofs.Growing.{kept, still}
use Rattle.mode_nodes.specs.Diagrams.{DiagramId}
use Rattle.mode_nodes.specs.Bounds.{Bounded}
use Rattle.diagram_steps.specs.declared.trees.NumberedTree.{NumberedTree}
use Rattle.mode_diagrams.specs.declared.held.State.{State}
use Rattle.mode_diagrams.specs.Sets.{HasSets}
use Rattle.mode_diagrams.specs.Kept.{state_eq, Remembers, IsTrueIn, IsStateFamily, AreHeld}

-- ---- the derived `==` of states
abbrev pub derived_eq : State → State → Bool
derived_eq a b = eqb a.place b.place && (eqb a.most b.most && (eqb a.diagram.n b.diagram.n && true))

same_states : (a b : State) → derived_eq a b ≡ state_eq a b
same_states a b = ap (λ x. eqb a.place b.place && (eqb a.most b.most && x)) (and-true (eqb a.diagram.n b.diagram.n))

lookup_alike : (p q : State → Bool) → ((k : State) → p k ≡ q k) → (es : List (State × NodeId)) → lookup p es ≡ lookup q es
lookup_alike p q h [] = refl
lookup_alike p q h (e ∷ es) = ap₂ (λ b x. cond b (Some e.1) x) (h e.0) (lookup_alike p q h es)

derived_lookup : (k : State) (es : List (State × NodeId)) → lookup (derived_eq k) es ≡ lookup (state_eq k) es
derived_lookup k es = lookup_alike (derived_eq k) (state_eq k) (same_states k) es

pub derived_updates : (k : State) (n : NodeId) (old new : List (State × NodeId))
    → ((q : State) → lookup (derived_eq q) new ≡ cond (derived_eq k q) (Some n) (lookup (derived_eq q) old))
    → (q : State) → lookup (state_eq q) new ≡ cond (state_eq k q) (Some n) (lookup (state_eq q) old)
derived_updates k n old new u q = sym (derived_lookup q new) ∙ u q
    ∙ ap₂ (λ b x. cond b (Some n) x) (same_states k q) (derived_lookup q old)

-- ---- one entry more
remember_ok : (k : State) (n : NodeId) (old new : List (State × NodeId))
    → ((q : State) → lookup (state_eq q) new ≡ cond (state_eq k q) (Some n) (lookup (state_eq q) old))
    → Remembers k n old new
remember_ok k n old new u = record { each = λ q m h. step q m h (state_eq k q) refl }
  where
    step : (q : State) (m : NodeId) → lookup (state_eq q) new ≡ Some m → (b : Bool) → state_eq k q ≡ b
        → (lookup (state_eq q) old ≡ Some m) ⊎ ((state_eq k q ≡ true) × (m ≡ n))
    step q m h true e =
        let w : Some n ≡ Some m = ap (λ b. cond b (Some n) (lookup (state_eq q) old)) (sym e) ∙ sym (u q) ∙ h in
        let nm : m ≡ n = cc in inr (e, nm)
    step q m h false e = inl (ap (λ b. cond b (Some n) (lookup (state_eq q) old)) (sym e) ∙ sym (u q) ∙ h)

pub remember_after : {T E : Type 0} (U : Type 0) (r : Result T E) (k : State) (n : NodeId)
    (old new : List (State × NodeId)) → OnOk r U → OnErr r (new ≡ old)
    → (U → (q : State) → lookup (state_eq q) new ≡ cond (state_eq k q) (Some n) (lookup (state_eq q) old))
    → Remembers k n old new
remember_after U (Ok x) k n old new u e f = remember_ok k n old new (f u)
remember_after U (Err x) k n old new u e f =
    record { each = λ q m h. inl (ap (lookup (state_eq q)) (sym e) ∙ h) }

-- ---- what is held
pub held_none : (trees : List NumberedTree) (s : Bounded) (made : Stored) → AreHeld trees s made []
held_none trees s made = record { each = λ k n h. let wrong : ⊥ = cc in absurd wrong }

pub held_grow : (P : Family → Type 0) (trees : List NumberedTree) (s : Bounded) (made more : Stored)
    (es : List (State × NodeId)) → Grows P made more → AreHeld trees s made es → AreHeld trees s more es
held_grow P trees s made more es g a = record {
  each = λ k n h. let x = a.each k n h in record {
    in_store = still P made more n.n g x.in_store;
    sets = subst (HasSets (IsTrueIn trees s k)) (sym (kept P made more n.n g x.in_store)) x.sets;
  };
}

state_same : (k q : State) → state_eq k q ≡ true → k ≡ q
state_same k q e =
    let p = and_parts (eqb k.place q.place) (eqb k.most q.most && eqb k.diagram.n q.diagram.n) e in
    let r = and_parts (eqb k.most q.most) (eqb k.diagram.n q.diagram.n) p.1 in
    ap₂ (λ (x : ℕ) (y : ℕ × DiagramId). record { place = x; most = y.0; diagram = y.1 }) (eqb-true k.place q.place p.0)
    (ap₂ (λ (x : ℕ) (y : DiagramId). (x, y)) (eqb-true k.most q.most r.0)
    (id_from k.diagram q.diagram (eqb-true k.diagram.n q.diagram.n r.1)))

pub held_more : (trees : List NumberedTree) (s : Bounded) (made : Stored) (k : State) (n : NodeId)
    (old new : List (State × NodeId)) → AreHeld trees s made old → IsStateFamily trees s made k n.n
    → Remembers k n old new → AreHeld trees s made new
held_more trees s made k n old new a f r = record {
  each = λ q m h. ⊎_elim
      (λ l. a.each q m l)
      (λ x. subst (λ y. IsStateFamily trees s made y m.n) (state_same k q x.0)
      (subst (λ (y : NodeId). IsStateFamily trees s made k y.n) (sym x.1) f))
      (r.each q m h);
}

-- the number is handed on, or memory for it was refused
pub handed_sets : (P : List ℕ → Type 0) (made : Stored) (n : NodeId) (r : Result NodeId NodeFault)
    → HasSets P (family made n.n) → MatchResult r (λ m. m ≡ n) (λ e. e ≡ OutOfMemory)
    → IfOk r (λ m. HasSets P (family made m.n))
handed_sets P made n (Ok m) h e = subst (λ (x : NodeId). HasSets P (family made x.n)) (sym e) h
handed_sets P made n (Err x) h e = tt
