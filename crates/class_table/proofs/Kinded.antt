-- Types that are looked up.
use Rattle.std.proofs.Common.{◌≡◌, ℕ, ◌⊎◌, Bool, true, false, cond, nat_eq, List, [], ◌∷◌, ◌++◌, Option, Some, None, is_some, refl, sym, ◌∙◌, ap, subst, inl, inr, eq-eqb, ne_eqb}
use Rattle.std.proofs.lemmas.Bool.{cases_eq}
use Rattle.ar_base.specs.Lists.{Along}
use Rattle.ar_base.specs.Lists.Along.{none as along_none, one_and as along_and}
use Rattle.ar_base.specs.Numbers.{NameId}
use Rattle.class_table.specs.Declaring.{NamedType, Declared}
use Rattle.class_table.specs.Members.{type_in}
use Rattle.class_table.specs.TablesInside.{IsNamedType, IsTypeOf}
use Rattle.class_table.specs.TablesInside.IsTypeOf.{domain as domain_type, class as class_type}
use Rattle.class_table.specs.Kinds.{IsKindOf, none, domain, class, KnowsTypes, kind_looked_up}
use Rattle.class_table.specs.Kinding.{kind_of_type_body, kind_among}
use Rattle.class_table.specs.declared.tables.TypeBody.{TypeBody}
use Rattle.class_table.specs.declared.types.Kind.{Kind}
use Rattle.class_table.specs.declared.types.TypeKinds.{TypeKinds}

-- one type more, of another name
kind_apart : (ts : List (NameId × TypeBody)) (t : NameId × TypeBody) (x : ℕ) → (t.0.n ≡ x → ⊥)
    → kind_among (ts ++ t ∷ []) x ≡ kind_among ts x
kind_apart [] t x n = ap (λ (b : Bool). cond b (Some (kind_of_type_body t.1)) None) (ne_eqb t.0.n x n)
kind_apart (u ∷ us) t x n = ap (λ (o : Option Kind). cond (nat_eq u.0.n x) (Some (kind_of_type_body u.1)) o)
    (kind_apart us t x n)

-- one type more, of a name that was there
kind_had : (ts : List (NameId × TypeBody)) (t : NameId × TypeBody) (x : ℕ) → is_some (kind_among ts x) ≡ true
    → kind_among (ts ++ t ∷ []) x ≡ kind_among ts x
kind_had [] t x e = cc
kind_had (u ∷ us) t x e = by (nat_eq u.0.n x) (λ f. kind_had us t x f) e
  where
    by : (b : Bool) → (is_some (kind_among us x) ≡ true → kind_among (us ++ t ∷ []) x ≡ kind_among us x)
        → is_some (cond b (Some (kind_of_type_body u.1)) (kind_among us x)) ≡ true
        → cond b (Some (kind_of_type_body u.1)) (kind_among (us ++ t ∷ []) x) ≡ cond b (Some (kind_of_type_body u.1)) (kind_among us x)
    by true f e = refl
    by false f e = f e

-- one type more, of a new name
kind_new : (ts : List (NameId × TypeBody)) (t : NameId × TypeBody) (x : ℕ) → t.0.n ≡ x → kind_among ts x ≡ None
    → kind_among (ts ++ t ∷ []) x ≡ Some (kind_of_type_body t.1)
kind_new [] t x e n = ap (λ (b : Bool). cond b (Some (kind_of_type_body t.1)) None) (eq-eqb t.0.n x e)
kind_new (u ∷ us) t x e n = by (nat_eq u.0.n x) (λ f. kind_new us t x e f) n
  where
    by : (b : Bool) → (kind_among us x ≡ None → kind_among (us ++ t ∷ []) x ≡ Some (kind_of_type_body t.1))
        → cond b (Some (kind_of_type_body u.1)) (kind_among us x) ≡ None
        → cond b (Some (kind_of_type_body u.1)) (kind_among (us ++ t ∷ []) x) ≡ Some (kind_of_type_body t.1)
    by true f n = cc
    by false f n = f n

-- a step where the name was there
pub known_step : (get : ℕ → Option Kind) (ts : List (NameId × TypeBody)) (t : NameId × TypeBody)
    → ((x : ℕ) → get x ≡ kind_among ts x) → is_some (get t.0.n) ≡ true → (x : ℕ) → get x ≡ kind_among (ts ++ t ∷ []) x
known_step get ts t h e x = by (cases_eq t.0.n x)
  where
    by : (t.0.n ≡ x) ⊎ (t.0.n ≡ x → ⊥) → get x ≡ kind_among (ts ++ t ∷ []) x
    by (inl i) = h x ∙ sym (kind_had ts t x
        (ap (λ (o : Option Kind). is_some o) (sym (h x)) ∙ (ap (λ (z : ℕ). is_some (get z)) (sym i) ∙ e)))
    by (inr n) = h x ∙ sym (kind_apart ts t x n)

-- a step where it is new
pub new_step : (get new : ℕ → Option Kind) (ts : List (NameId × TypeBody)) (t : NameId × TypeBody)
    → ((x : ℕ) → get x ≡ kind_among ts x) → is_some (get t.0.n) ≡ false
    → ((x : ℕ) → new x ≡ cond (nat_eq t.0.n x) (Some (kind_of_type_body t.1)) (get x)) → (x : ℕ)
    → new x ≡ kind_among (ts ++ t ∷ []) x
new_step get new ts t h e u x = by (cases_eq t.0.n x)
  where
    empty : (o : Option Kind) → is_some o ≡ false → o ≡ None
    empty None e = refl
    empty (Some k) e = cc

    by : (t.0.n ≡ x) ⊎ (t.0.n ≡ x → ⊥) → new x ≡ kind_among (ts ++ t ∷ []) x
    by (inl i) =
        let n = empty (kind_among ts x) (ap (λ (o : Option Kind). is_some o) (sym (h x))
        ∙ (ap (λ (z : ℕ). is_some (get z)) (sym i) ∙ e)) in
        u x ∙ (ap (λ (b : Bool). cond b (Some (kind_of_type_body t.1)) (get x)) (eq-eqb t.0.n x i)
        ∙ sym (kind_new ts t x i n))
    by (inr n) = u x ∙ (ap (λ (b : Bool). cond b (Some (kind_of_type_body t.1)) (get x)) (ne_eqb t.0.n x n)
        ∙ (h x ∙ sym (kind_apart ts t x n)))

-- the kinds of types are those that are declared
pub kinds_along : (symbols : List ℕ) (ts : List (NameId × TypeBody)) (ds : List (ℕ × NamedType))
    → Along (IsNamedType symbols) ts ds → (x : ℕ) → IsKindOf (kind_among ts x) (type_in ds x)
kinds_along symbols ts ds along_none x = none
kinds_along symbols ts ds (along_and {a = t} {b = d} {xs = us} {ys = es} h r) x =
    subst (λ (n : ℕ). IsKindOf (kind_among (t ∷ us) x) (cond (nat_eq n x) (Some d.1) (type_in es x))) h.name
    (by (nat_eq t.0.n x) (kinds_along symbols us es r x))
  where
    one : (t : TypeBody) (d : NamedType) → IsTypeOf symbols d t → IsKindOf (Some (kind_of_type_body t)) (Some d)
    one t d (domain_type k) = domain
    one t d (class_type e) = class e

    by : (b : Bool) → IsKindOf (kind_among us x) (type_in es x)
        → IsKindOf (cond b (Some (kind_of_type_body t.1)) (kind_among us x)) (cond b (Some d.1) (type_in es x))
    by true k = one t.1 d.1 h.is_type
    by false k = k

pub knows : (d : Declared) (k : TypeKinds) (ts : List (NameId × TypeBody)) → Along (IsNamedType d.symbols) ts d.types
    → ((x : ℕ) → kind_looked_up k x ≡ kind_among ts x) → KnowsTypes d k
knows d k ts a h = record {
  each = λ x. subst (λ (o : Option Kind). IsKindOf o (type_in d.types x)) (sym (h x))
      (kinds_along d.symbols ts d.types a x);
}
