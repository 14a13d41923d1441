-- The results that are held stay right.
use Rattle.std.proofs.Common.{◌≡◌, ℕ, ◌+◌, ◌<◌, Bool, true, false, cond, ◌&&◌, eqb, List, [], ◌∷◌, length, Some, Result, Ok, Err, OnOk, OnErr, MatchResult, refl, sym, ap, ap₂, ◌∙◌, subst, ⊎_elim, ◌⊎◌, inl, inr, eqb-true}
use Rattle.std.proofs.Math.Bool.{and-true}
use Rattle.std.proofs.lemmas.Bool.{and_parts}
use Rattle.std.specs.Map.{lookup}
use Rattle.ar_base.proofs.Comparing.{id_from}
use Rattle.zdd_nodes.specs.Families.{Family, without, minimal}
use Rattle.zdd_nodes.specs.FamiliesInside.{having}
use Rattle.zdd_nodes.specs.Nodes.{NodeId, Stored, at, Grows, Draws}
use Rattle.zdd_nodes.specs.declared.NodeFault.{NodeFault}
use Rattle.zdd_nodes.specs.declared.NodeFault.TheVariants.{Full, Memory as OutOfMemory}
use Rattle.zdd_nodes.proofs.Growing.{kept, still}
use Rattle.zdd_ops.specs.declared.memo.Join.{Join}
use Rattle.zdd_ops.specs.declared.memo.Join.TheVariants.{Union, Meet, Minus}
use Rattle.zdd_ops.specs.declared.memo.Operation.{Operation}
use Rattle.zdd_ops.specs.declared.memo.Operation.TheVariants.{Joined, Without, Having, Minimal}
use Rattle.zdd_ops.specs.contracts.memo.OperationPartialEq.TheImpl as derived
use Rattle.zdd_ops.specs.contracts.memo.Join.{the_type}
use denote.Enum.Bare.{sameb}
use Rattle.zdd_ops.specs.Operations.{join_of, family_made_by, HasStoredOperands, join_eq, operation_eq, IsResult, AreResultsHeld, RemembersResult}

numbers-grow : (P : Family → Type 0) (s t : Stored) (k : Operation) → Grows P s t → HasStoredOperands s.families k
    → HasStoredOperands t.families k
numbers-grow P s t (Joined j f g) a n = (still P s t f.n a n.0, still P s t g.n a n.1)
numbers-grow P s t (Without f g) a n = (still P s t f.n a n.0, still P s t g.n a n.1)
numbers-grow P s t (Having f e) a n = still P s t f.n a n
numbers-grow P s t (Minimal f) a n = still P s t f.n a n

result-grow : (P : Family → Type 0) (s t : Stored) (k : Operation) → Grows P s t → HasStoredOperands s.families k
    → family_made_by t.families k ≡ family_made_by s.families k
result-grow P s t (Joined j f g) a n = ap₂ (join_of j) (kept P s t f.n a n.0) (kept P s t g.n a n.1)
result-grow P s t (Without f g) a n = ap₂ without (kept P s t f.n a n.0) (kept P s t g.n a n.1)
result-grow P s t (Having f e) a n = ap (λ x. having x e.n) (kept P s t f.n a n)
result-grow P s t (Minimal f) a n = ap minimal (kept P s t f.n a n)

IsResult-grow : (P : Family → Type 0) (s t : Stored) (k : Operation) (n : ℕ) → Grows P s t → IsResult s.families k n
    → IsResult t.families k n
IsResult-grow P s t k n a i = record {
  operands = numbers-grow P s t k a i.operands;
  in_store = still P s t n a i.in_store;
  is = kept P s t n a i.in_store ∙ i.is ∙ sym (result-grow P s t k a i.operands);
}

pub IsSound-grow : (P : Family → Type 0) (s t : Stored) (entries : List (Operation × NodeId)) → Grows P s t
    → AreResultsHeld entries s.families → AreResultsHeld entries t.families
IsSound-grow P s t entries a i = record { each = λ k n h. IsResult-grow P s t k n.n a (i.each k n h) }

join_same : (a b : Join) → join_eq a b ≡ true → a ≡ b
join_same Union Union e = refl
join_same Union Meet e = let wrong : ⊥ = cc in absurd wrong
join_same Union Minus e = let wrong : ⊥ = cc in absurd wrong
join_same Meet Union e = let wrong : ⊥ = cc in absurd wrong
join_same Meet Meet e = refl
join_same Meet Minus e = let wrong : ⊥ = cc in absurd wrong
join_same Minus Union e = let wrong : ⊥ = cc in absurd wrong
join_same Minus Meet e = let wrong : ⊥ = cc in absurd wrong
join_same Minus Minus e = refl

operation_same : (k q : Operation) → operation_eq k q ≡ true → k ≡ q
operation_same (Joined j f g) (Joined k h i) e =
    let a = and_parts _ _ e in let b = and_parts _ _ a.1 in
    ap (λ x. Joined x f g) (join_same j k a.0)
    ∙ ap₂ (Joined k) (id_from f h (eqb-true _ _ b.0)) (id_from g i (eqb-true _ _ b.1))
operation_same (Without f g) (Without h i) e = let b = and_parts _ _ e in ap₂ Without (id_from f h (eqb-true _ _ b.0)) (id_from g i (eqb-true _ _ b.1))
operation_same (Having f d) (Having h i) e = let b = and_parts _ _ e in ap₂ Having (id_from f h (eqb-true _ _ b.0)) (id_from d i (eqb-true _ _ b.1))
operation_same (Minimal f) (Minimal h) e = ap Minimal (id_from f h (eqb-true _ _ e))
operation_same (Joined j f g) (Without h i) e = let wrong : ⊥ = cc in absurd wrong
operation_same (Joined j f g) (Having h i) e = let wrong : ⊥ = cc in absurd wrong
operation_same (Joined j f g) (Minimal h) e = let wrong : ⊥ = cc in absurd wrong
operation_same (Without f g) (Joined k h i) e = let wrong : ⊥ = cc in absurd wrong
operation_same (Without f g) (Having h i) e = let wrong : ⊥ = cc in absurd wrong
operation_same (Without f g) (Minimal h) e = let wrong : ⊥ = cc in absurd wrong
operation_same (Having f d) (Joined k h i) e = let wrong : ⊥ = cc in absurd wrong
operation_same (Having f d) (Without h i) e = let wrong : ⊥ = cc in absurd wrong
operation_same (Having f d) (Minimal h) e = let wrong : ⊥ = cc in absurd wrong
operation_same (Minimal f) (Joined k h i) e = let wrong : ⊥ = cc in absurd wrong
operation_same (Minimal f) (Without h i) e = let wrong : ⊥ = cc in absurd wrong
operation_same (Minimal f) (Having h i) e = let wrong : ⊥ = cc in absurd wrong

-- one more result, of an operation on numbers of the older store s
pub IsSound-remember : (P Q : Family → Type 0) (s t u : Stored) (k : Operation) (n : NodeId)
    (old new : List (Operation × NodeId)) → Grows P s u → HasStoredOperands s.families k → Grows Q t u → AreResultsHeld old t.families
    → (n.n < length u.families + 2) × (at u.families n.n ≡ family_made_by s.families k) → RemembersResult k n old new
    → AreResultsHeld new u.families
IsSound-remember P Q s t u k n old new a numbers b sound is r =
    let here : IsResult u.families k n.n =
    record {
      operands = numbers-grow P s u k a numbers;
      in_store = is.0;
      is = is.1
          ∙ sym (result-grow P s u k a numbers);
    } in
    record {
      each = λ q m h. ⊎_elim
          (λ l. (IsSound-grow Q t u old b sound).each q m l)
          (λ x. subst (λ y. IsResult u.families y m.n) (operation_same k q x.0)
          (subst (λ y. IsResult u.families k y.n) (sym x.1) here))
          (r.each q m h);
    }

-- ---- the number that is handed on
-- what was drawn is so, or memory for the result was refused
pub handed : (P : Family → Type 0) (made : Family) (s t : Stored) (n : NodeId) (r : Result NodeId NodeFault)
    → Draws P made s t (Ok n) → MatchResult r (λ m. m ≡ n) (λ e. e ≡ OutOfMemory) → Draws P made s t r
handed P made s t n (Ok m) d e = subst (λ x. Draws P made s t (Ok x)) (sym e) d
handed P made s t n (Err x) d e = record {
  grows = d.grows;
  ok = tt;
  full = λ f. let y : x ≡ Full = cc in let wrong : OutOfMemory ≡ Full = sym e ∙ y in cc;
}

-- ---- one entry more
remember_ok : (k : Operation) (n : NodeId) (old new : List (Operation × NodeId))
    → ((q : Operation) → lookup (operation_eq q) new ≡ cond (operation_eq k q) (Some n) (lookup (operation_eq q) old))
    → RemembersResult k n old new
remember_ok k n old new u = record { each = λ q m h. step q m h (operation_eq k q) refl }
  where
    step : (q : Operation) (m : NodeId) → lookup (operation_eq q) new ≡ Some m → (b : Bool) → operation_eq k q ≡ b
        → (lookup (operation_eq q) old ≡ Some m) ⊎ ((operation_eq k q ≡ true) × (m ≡ n))
    step q m h true e = let w : Some n ≡ Some m = ap (λ b. cond b (Some n) (lookup (operation_eq q) old)) (sym e) ∙ sym (u q) ∙ h in let nm : m ≡ n = cc in inr (e, nm)
    step q m h false e = inl (ap (λ b. cond b (Some n) (lookup (operation_eq q) old)) (sym e) ∙ sym (u q) ∙ h)

remember_same : (k : Operation) (n : NodeId) (old new : List (Operation × NodeId)) → new ≡ old → RemembersResult k n old new
remember_same k n old new e = record { each = λ q m h. inl (ap (lookup (operation_eq q)) (sym e) ∙ h) }

pub remember_after : {T E : Type 0} (U : Type 0) (r : Result T E) (k : Operation) (n : NodeId)
    (old new : List (Operation × NodeId)) → OnOk r U → OnErr r (new ≡ old)
    → (U → (q : Operation) → lookup (operation_eq q) new
    ≡ cond (operation_eq k q) (Some n) (lookup (operation_eq q) old)) → RemembersResult k n old new
remember_after U (Ok x) k n old new u e f = remember_ok k n old new (f u)
remember_after U (Err x) k n old new u e f = remember_same k n old new e

pub remember_from : (k : Operation) (n : NodeId) (old mid new : List (Operation × NodeId)) → (mid ≡ old) ⊎ (mid ≡ [])
    → RemembersResult k n mid new → RemembersResult k n old new
remember_from k n old mid new e r =
    record { each = λ q m h. ⊎_elim (λ l. inl (back q m l)) (λ t. inr t) (r.each q m h) }
  where
    back : (q : Operation) (m : NodeId) → lookup (operation_eq q) mid ≡ Some m → lookup (operation_eq q) old ≡ Some m
    back q m l = ⊎_elim (λ x. ap (lookup (operation_eq q)) (sym x) ∙ l) (λ x. let y : lookup (operation_eq q) [] ≡ Some m = ap (lookup (operation_eq q)) (sym x) ∙ l in cc) e

-- ---- the derived `==` of operations
same_joins : (a b : Join) → sameb the_type a b ≡ join_eq a b
same_joins Union Union = refl
same_joins Union Meet = refl
same_joins Union Minus = refl
same_joins Meet Union = refl
same_joins Meet Meet = refl
same_joins Meet Minus = refl
same_joins Minus Union = refl
same_joins Minus Meet = refl
same_joins Minus Minus = refl

both : (a b : Bool) → ((a && true) && (b && true)) ≡ (a && b)
both a b = ap₂ (λ x y. x && y) (and-true a) (and-true b)

same_operations : (a b : Operation) → (derived.eq-value).it a b ≡ operation_eq a b
same_operations (Joined j f g) (Joined k h i) = ap₂ (λ x y. x && y) (same_joins j k) (both (eqb f.n h.n) (eqb g.n i.n))
same_operations (Without f g) (Without h i) = both (eqb f.n h.n) (eqb g.n i.n)
same_operations (Having f d) (Having h e) = both (eqb f.n h.n) (eqb d.n e.n)
same_operations (Minimal f) (Minimal h) = and-true (eqb f.n h.n)
same_operations (Joined j f g) (Without h i) = refl
same_operations (Joined j f g) (Having h i) = refl
same_operations (Joined j f g) (Minimal h) = refl
same_operations (Without f g) (Joined k h i) = refl
same_operations (Without f g) (Having h i) = refl
same_operations (Without f g) (Minimal h) = refl
same_operations (Having f d) (Joined k h i) = refl
same_operations (Having f d) (Without h i) = refl
same_operations (Having f d) (Minimal h) = refl
same_operations (Minimal f) (Joined k h i) = refl
same_operations (Minimal f) (Without h i) = refl
same_operations (Minimal f) (Having h i) = refl

lookup_alike : (p q : Operation → Bool) → ((k : Operation) → p k ≡ q k) → (es : List (Operation × NodeId))
    → lookup p es ≡ lookup q es
lookup_alike p q h [] = refl
lookup_alike p q h (e ∷ es) = ap₂ (λ b x. cond b (Some e.1) x) (h e.0) (lookup_alike p q h es)

derived_lookup : (k : Operation) (es : List (Operation × NodeId))
    → lookup ((derived.eq-value).it k) es ≡ lookup (operation_eq k) es
derived_lookup k es = lookup_alike ((derived.eq-value).it k) (operation_eq k) (same_operations k) es

pub derived_updates : (k : Operation) (n : NodeId) (old new : List (Operation × NodeId))
    → ((q : Operation) → lookup ((derived.eq-value).it q) new
    ≡ cond ((derived.eq-value).it k q) (Some n) (lookup ((derived.eq-value).it q) old))
    → (q : Operation) → lookup (operation_eq q) new ≡ cond (operation_eq k q) (Some n) (lookup (operation_eq q) old)
derived_updates k n old new u q = sym (derived_lookup q new) ∙ u q
    ∙ ap₂ (λ b x. cond b (Some n) x) (same_operations k q) (derived_lookup q old)
