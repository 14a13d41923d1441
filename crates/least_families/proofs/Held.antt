-- The results that are held stay right.
use Rattle.std.proofs.Common.{◌≡◌, ℕ, ◌+◌, ◌<◌, Bool, true, false, cond, ◌&&◌, ◌||◌, eqb, List, [], ◌∷◌, length, Option, Some, None, Result, Ok, Err, OnOk, OnErr, MatchResult, IfOk, refl, sym, ap, ap₂, ◌∙◌, subst, ⊎_elim, ◌⊎◌, inl, inr, eqb-true}
use Rattle.std.proofs.Math.Bool.{and-true}
use Rattle.std.proofs.lemmas.Bool.{and_parts}
use Rattle.std.specs.Map.{lookup}
use Rattle.std.specs.Option.{option_eq}
use Rattle.ar_base.proofs.Comparing.{id_from}
use Rattle.zdd_nodes.specs.Families.{Family}
use Rattle.zdd_nodes.specs.Nodes.{NodeId, Stored, at, family, IsFamilyNumber, Grows}
use Rattle.zdd_nodes.specs.declared.NodeFault.{NodeFault}
use Rattle.zdd_nodes.specs.declared.NodeFault.TheVariants.{Memory as OutOfMemory}
use Rattle.zdd_nodes.proofs.Growing.{kept, still}
use Rattle.diagram_steps.specs.Putting.{Extends}
use Rattle.diagram_steps.proofs.Growing.{extends_none, extends_then, extends_by}
use Rattle.least_families.specs.declared.memo.Operation.{Operation}
use Rattle.least_families.specs.declared.memo.Operation.TheVariants.{Union, Product, Few}
use Rattle.least_families.specs.contracts.memo.OperationPartialEq.TheImpl as derived
use Rattle.least_families.specs.Least.{covers, AreLeastUpTo}
use Rattle.least_families.specs.Held.{HasNumberedOperands, IsMadeByOperation, is_same_least_operation, IsLeastResult, AreLeastHeld, RemembersLeast}
use Rattle.least_families.specs.Kept.{KeepsHeld, IsLeastOf}

numbers-grow : (P : Family → Type 0) (s t : Stored) (k : Operation) → Grows P s t → HasNumberedOperands s.families k
    → HasNumberedOperands t.families k
numbers-grow P s t (Union f g) a n = (still P s t f.n a n.0, still P s t g.n a n.1)
numbers-grow P s t (Product f g order) a n = (still P s t f.n a n.0, still P s t g.n a n.1)
numbers-grow P s t (Few f most) a n = still P s t f.n a n

made-grow : (P : Family → Type 0) (s t : Stored) (k : Operation) (m : Family) → Grows P s t → HasNumberedOperands s.families k
    → IsMadeByOperation s.families k m → IsMadeByOperation t.families k m
made-grow P s t (Union f g) m a n h =
    subst (λ x. AreLeastUpTo None (λ z. covers x z || covers (family t g.n) z) m) (sym (kept P s t f.n a n.0))
    (subst (λ x. AreLeastUpTo None (λ z. covers (family s f.n) z || covers x z) m) (sym (kept P s t g.n a n.1)) h)
made-grow P s t (Product f g order) m a n h =
    subst (λ x. AreLeastUpTo order (λ z. covers x z && covers (family t g.n) z) m) (sym (kept P s t f.n a n.0))
    (subst (λ x. AreLeastUpTo order (λ z. covers (family s f.n) z && covers x z) m) (sym (kept P s t g.n a n.1)) h)
made-grow P s t (Few f most) m a n h =
    subst (λ x. AreLeastUpTo (Some most) (covers x) m) (sym (kept P s t f.n a n)) h

IsResult-grow : (P : Family → Type 0) (s t : Stored) (k : Operation) (n : ℕ) → Grows P s t → IsLeastResult s.families k n
    → IsLeastResult t.families k n
IsResult-grow P s t k n a i = record {
  operands = numbers-grow P s t k a i.operands;
  in_store = still P s t n a i.in_store;
  is = subst (IsMadeByOperation t.families k) (sym (kept P s t n a i.in_store))
      (made-grow P s t k (family s n) a i.operands i.is);
}

pub IsSound-grow : (P : Family → Type 0) (s t : Stored) (entries : List (Operation × NodeId)) → Grows P s t
    → AreLeastHeld entries s.families → AreLeastHeld entries t.families
IsSound-grow P s t entries a i = record { each = λ k n h. IsResult-grow P s t k n.n a (i.each k n h) }

pub sound_none : (fs : List Family) → AreLeastHeld [] fs
sound_none fs = record { each = λ k n h. let wrong : ⊥ = cc in absurd wrong }

-- ---- what is kept
pub keeps_none : (s : Stored) (es : List (Operation × NodeId)) → AreLeastHeld es s.families → KeepsHeld s es s
keeps_none s es r = record { grows = extends_none s; held = r }

pub keeps_then : (s t u : Stored) (es fs : List (Operation × NodeId)) → KeepsHeld s es t → KeepsHeld t fs u → KeepsHeld s fs u
keeps_then s t u es fs a b = record { grows = extends_then s t u a.grows b.grows; held = b.held }

pub keeps_by : (P : Family → Type 0) (s t u : Stored) (es : List (Operation × NodeId)) → KeepsHeld s es t → Grows P t u
    → KeepsHeld s es u
keeps_by P s t u es a g = record {
  grows = extends_then s t u a.grows (extends_by P t u g);
  held = IsSound-grow P t u es g a.held;
}

option_same : (a b : Option ℕ) → option_eq eqb a b ≡ true → a ≡ b
option_same None None e = refl
option_same None (Some y) e = let wrong : ⊥ = cc in absurd wrong
option_same (Some x) None e = let wrong : ⊥ = cc in absurd wrong
option_same (Some x) (Some y) e = ap Some (eqb-true x y e)

operation_same : (k q : Operation) → is_same_least_operation k q ≡ true → k ≡ q
operation_same (Union f g) (Union h i) e =
    let b = and_parts _ _ e in ap₂ Union (id_from f h (eqb-true _ _ b.0)) (id_from g i (eqb-true _ _ b.1))
operation_same (Product f g m) (Product h i n) e =
    let b = and_parts _ _ e in let c = and_parts _ _ b.1 in
    ap₂ (λ x y. Product x y m) (id_from f h (eqb-true _ _ b.0)) (id_from g i (eqb-true _ _ c.0))
    ∙ ap (Product h i) (option_same m n c.1)
operation_same (Few f m) (Few h n) e =
    let b = and_parts _ _ e in ap₂ Few (id_from f h (eqb-true _ _ b.0)) (eqb-true m n b.1)
operation_same (Union f g) (Product h i n) e = let wrong : ⊥ = cc in absurd wrong
operation_same (Union f g) (Few h n) e = let wrong : ⊥ = cc in absurd wrong
operation_same (Product f g m) (Union h i) e = let wrong : ⊥ = cc in absurd wrong
operation_same (Product f g m) (Few h n) e = let wrong : ⊥ = cc in absurd wrong
operation_same (Few f m) (Union h i) e = let wrong : ⊥ = cc in absurd wrong
operation_same (Few f m) (Product h i n) e = let wrong : ⊥ = cc in absurd wrong

-- one more result
pub keeps_more : (s t : Stored) (k : Operation) (n : NodeId) (old new : List (Operation × NodeId)) → KeepsHeld s old t
    → IsLeastResult t.families k n.n → RemembersLeast k n old new → KeepsHeld s new t
keeps_more s t k n old new a here r = record {
  grows = a.grows;
  held = record {
    each = λ q m h. ⊎_elim
        (λ l. a.held.each q m l)
        (λ x. subst (λ y. IsLeastResult t.families y m.n) (operation_same k q x.0)
        (subst (λ y. IsLeastResult t.families k y.n) (sym x.1) here))
        (r.each q m h);
  };
}

-- the number is handed on, or memory for it was refused
pub handed : (order : Option ℕ) (test : List ℕ → Bool) (t : Stored) (n : NodeId) (r : Result NodeId NodeFault)
    → IsLeastOf order test t n.n → MatchResult r (λ m. m ≡ n) (λ e. e ≡ OutOfMemory)
    → IfOk r (λ m. IsLeastOf order test t m.n)
handed order test t n (Ok m) l e = subst (λ (x : NodeId). IsLeastOf order test t x.n) (sym e) l
handed order test t n (Err x) l e = tt

-- ---- one entry more
remember_ok : (k : Operation) (n : NodeId) (old new : List (Operation × NodeId))
    → ((q : Operation) → lookup (is_same_least_operation q) new ≡ cond (is_same_least_operation k q) (Some n) (lookup (is_same_least_operation q) old))
    → RemembersLeast k n old new
remember_ok k n old new u = record { each = λ q m h. step q m h (is_same_least_operation k q) refl }
  where
    step : (q : Operation) (m : NodeId) → lookup (is_same_least_operation q) new ≡ Some m → (b : Bool) → is_same_least_operation k q ≡ b
        → (lookup (is_same_least_operation q) old ≡ Some m) ⊎ ((is_same_least_operation k q ≡ true) × (m ≡ n))
    step q m h true e =
        let w : Some n ≡ Some m = ap (λ b. cond b (Some n) (lookup (is_same_least_operation q) old)) (sym e) ∙ sym (u q) ∙ h in
        let nm : m ≡ n = cc in inr (e, nm)
    step q m h false e = inl (ap (λ b. cond b (Some n) (lookup (is_same_least_operation q) old)) (sym e) ∙ sym (u q) ∙ h)

pub remember_after : {T E : Type 0} (U : Type 0) (r : Result T E) (k : Operation) (n : NodeId)
    (old new : List (Operation × NodeId)) → OnOk r U → OnErr r (new ≡ old)
    → (U → (q : Operation) → lookup (is_same_least_operation q) new
    ≡ cond (is_same_least_operation k q) (Some n) (lookup (is_same_least_operation q) old)) → RemembersLeast k n old new
remember_after U (Ok x) k n old new u e f = remember_ok k n old new (f u)
remember_after U (Err x) k n old new u e f =
    record { each = λ q m h. inl (ap (lookup (is_same_least_operation q)) (sym e) ∙ h) }

pub remember_from : (k : Operation) (n : NodeId) (old mid new : List (Operation × NodeId)) → (mid ≡ old) ⊎ (mid ≡ [])
    → RemembersLeast k n mid new → RemembersLeast k n old new
remember_from k n old mid new e r =
    record { each = λ q m h. ⊎_elim (λ l. inl (back q m l)) (λ t. inr t) (r.each q m h) }
  where
    back : (q : Operation) (m : NodeId) → lookup (is_same_least_operation q) mid ≡ Some m → lookup (is_same_least_operation q) old ≡ Some m
    back q m l = ⊎_elim (λ x. ap (lookup (is_same_least_operation q)) (sym x) ∙ l)
        (λ x. let y : lookup (is_same_least_operation q) [] ≡ Some m = ap (lookup (is_same_least_operation q)) (sym x) ∙ l in cc) e

-- ---- the derived `==` of operations
both : (a b : Bool) → ((a && true) && (b && true)) ≡ (a && b)
both a b = ap₂ (λ x y. x && y) (and-true a) (and-true b)

same_operations : (a b : Operation) → (derived.eq-value).it a b ≡ is_same_least_operation a b
same_operations (Union f g) (Union h i) = both (eqb f.n h.n) (eqb g.n i.n)
same_operations (Product f g m) (Product h i n) =
    ap₂ (λ x y. x && y) (and-true (eqb f.n h.n)) (ap (λ x. x && option_eq eqb m n) (and-true (eqb g.n i.n)))
same_operations (Few f m) (Few h n) = ap (λ x. x && eqb m n) (and-true (eqb f.n h.n))
same_operations (Union f g) (Product h i n) = refl
same_operations (Union f g) (Few h n) = refl
same_operations (Product f g m) (Union h i) = refl
same_operations (Product f g m) (Few h n) = refl
same_operations (Few f m) (Union h i) = refl
same_operations (Few f m) (Product h i n) = refl

lookup_alike : (p q : Operation → Bool) → ((k : Operation) → p k ≡ q k) → (es : List (Operation × NodeId))
    → lookup p es ≡ lookup q es
lookup_alike p q h [] = refl
lookup_alike p q h (e ∷ es) = ap₂ (λ b x. cond b (Some e.1) x) (h e.0) (lookup_alike p q h es)

derived_lookup : (k : Operation) (es : List (Operation × NodeId))
    → lookup ((derived.eq-value).it k) es ≡ lookup (is_same_least_operation k) es
derived_lookup k es = lookup_alike ((derived.eq-value).it k) (is_same_least_operation k) (same_operations k) es

pub derived_updates : (k : Operation) (n : NodeId) (old new : List (Operation × NodeId))
    → ((q : Operation) → lookup ((derived.eq-value).it q) new
    ≡ cond ((derived.eq-value).it k q) (Some n) (lookup ((derived.eq-value).it q) old))
    → (q : Operation) → lookup (is_same_least_operation q) new ≡ cond (is_same_least_operation k q) (Some n) (lookup (is_same_least_operation q) old)
derived_updates k n old new u q = sym (derived_lookup q new) ∙ u q
    ∙ ap₂ (λ b x. cond b (Some n) x) (same_operations k q) (derived_lookup q old)
