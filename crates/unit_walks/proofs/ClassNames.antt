-- Classes that are looked up by their names.
use Rattle.std.proofs.Common.{◌≡◌, ℕ, ◌⊎◌, Bool, true, false, cond, nat_eq, List, [], ◌∷◌, ◌++◌, Option, Some, None, is_some, option_map, option_and_then, refl, sym, ◌∙◌, ap, subst, inl, inr, eq-eqb, ne_eqb}
use Rattle.std.proofs.lemmas.Bool.{cases_eq}
use Rattle.ar_base.specs.Lists.{Along}
use Rattle.ar_base.specs.Lists.Along.{none as along_none, one_and as along_and}
use Rattle.ar_base.specs.Numbers.{NameId, BodyId}
use Rattle.class_table.specs.Declaring.{NamedType, Declared}
use Rattle.class_table.specs.Members.{type_in, class_body}
use Rattle.class_table.specs.TablesInside.{IsNamedType, IsTypeOf}
use Rattle.class_table.specs.TablesInside.IsTypeOf.{domain, class}
use Rattle.class_table.specs.declared.tables.TypeBody.{TypeBody}
use Rattle.unit_walks.specs.Classes.{ClassBodies, class_by, class_in, class_at, flat, AreClasses}

-- one type more, of another name
class_apart : (ts : List (NameId × TypeBody)) (t : NameId × TypeBody) (x : ℕ) → (t.0.n ≡ x → ⊥)
    → class_in (ts ++ t ∷ []) x ≡ class_in ts x
class_apart [] t x n = ap (λ (b : Bool). cond b (Some (class_by t.1)) None) (ne_eqb t.0.n x n)
class_apart (u ∷ us) t x n = ap (λ (o : Option (Option BodyId)). cond (nat_eq u.0.n x) (Some (class_by u.1)) o)
    (class_apart us t x n)

-- one type more, of a name that was there
class_had : (ts : List (NameId × TypeBody)) (t : NameId × TypeBody) (x : ℕ) → is_some (class_in ts x) ≡ true
    → class_in (ts ++ t ∷ []) x ≡ class_in ts x
class_had [] t x e = cc
class_had (u ∷ us) t x e = by (nat_eq u.0.n x) (λ f. class_had us t x f) e
  where
    by : (b : Bool) → (is_some (class_in us x) ≡ true → class_in (us ++ t ∷ []) x ≡ class_in us x)
        → is_some (cond b (Some (class_by u.1)) (class_in us x)) ≡ true
        → cond b (Some (class_by u.1)) (class_in (us ++ t ∷ []) x) ≡ cond b (Some (class_by u.1)) (class_in us x)
    by true f e = refl
    by false f e = f e

-- one type more, of a new name
class_new : (ts : List (NameId × TypeBody)) (t : NameId × TypeBody) (x : ℕ) → t.0.n ≡ x → class_in ts x ≡ None
    → class_in (ts ++ t ∷ []) x ≡ Some (class_by t.1)
class_new [] t x e n = ap (λ (b : Bool). cond b (Some (class_by t.1)) None) (eq-eqb t.0.n x e)
class_new (u ∷ us) t x e n = by (nat_eq u.0.n x) (λ f. class_new us t x e f) n
  where
    by : (b : Bool) → (class_in us x ≡ None → class_in (us ++ t ∷ []) x ≡ Some (class_by t.1))
        → cond b (Some (class_by u.1)) (class_in us x) ≡ None
        → cond b (Some (class_by u.1)) (class_in (us ++ t ∷ []) x) ≡ Some (class_by t.1)
    by true f n = cc
    by false f n = f n

-- a step where the name was there
pub class_kept : (get : ℕ → Option (Option BodyId)) (ts : List (NameId × TypeBody)) (t : NameId × TypeBody)
    → ((x : ℕ) → get x ≡ class_in ts x) → is_some (get t.0.n) ≡ true → (x : ℕ) → get x ≡ class_in (ts ++ t ∷ []) x
class_kept get ts t h e x = by (cases_eq t.0.n x)
  where
    by : (t.0.n ≡ x) ⊎ (t.0.n ≡ x → ⊥) → get x ≡ class_in (ts ++ t ∷ []) x
    by (inl i) = h x ∙ sym (class_had ts t x
        (ap (λ (o : Option (Option BodyId)). is_some o) (sym (h x)) ∙ (ap (λ (z : ℕ). is_some (get z)) (sym i) ∙ e)))
    by (inr n) = h x ∙ sym (class_apart ts t x n)

-- a step where it is new
pub class_added : (get new : ℕ → Option (Option BodyId)) (ts : List (NameId × TypeBody)) (t : NameId × TypeBody)
    → ((x : ℕ) → get x ≡ class_in ts x) → is_some (get t.0.n) ≡ false
    → ((x : ℕ) → new x ≡ cond (nat_eq t.0.n x) (Some (class_by t.1)) (get x)) → (x : ℕ)
    → new x ≡ class_in (ts ++ t ∷ []) x
class_added get new ts t h e u x = by (cases_eq t.0.n x)
  where
    empty : (o : Option (Option BodyId)) → is_some o ≡ false → o ≡ None
    empty None e = refl
    empty (Some k) e = cc

    by : (t.0.n ≡ x) ⊎ (t.0.n ≡ x → ⊥) → new x ≡ class_in (ts ++ t ∷ []) x
    by (inl i) =
        let n = empty (class_in ts x) (ap (λ (o : Option (Option BodyId)). is_some o) (sym (h x))
        ∙ (ap (λ (z : ℕ). is_some (get z)) (sym i) ∙ e)) in
        u x ∙ (ap (λ (b : Bool). cond b (Some (class_by t.1)) (get x)) (eq-eqb t.0.n x i) ∙ sym (class_new ts t x i n))
    by (inr n) = u x ∙ (ap (λ (b : Bool). cond b (Some (class_by t.1)) (get x)) (ne_eqb t.0.n x n)
        ∙ (h x ∙ sym (class_apart ts t x n)))

-- the classes are those that are declared
abbrev body_number : Option (Option BodyId) → Option ℕ
body_number o = option_map (λ (b : BodyId). b.n) (flat o)

classes_along : (symbols : List ℕ) (ts : List (NameId × TypeBody)) (ds : List (ℕ × NamedType))
    → Along (IsNamedType symbols) ts ds → (x : ℕ)
    → body_number (class_in ts x) ≡ option_and_then class_body (type_in ds x)
classes_along symbols ts ds along_none x = refl
classes_along symbols ts ds (along_and {a = t} {b = d} {xs = us} {ys = es} h r) x =
    subst (λ (n : ℕ). body_number (class_in (t ∷ us) x)
    ≡ option_and_then class_body (cond (nat_eq n x) (Some d.1) (type_in es x))) h.name
    (by (nat_eq t.0.n x) (classes_along symbols us es r x))
  where
    one : (t : TypeBody) (d : NamedType) → IsTypeOf symbols d t
        → body_number (Some (class_by t)) ≡ option_and_then class_body (Some d)
    one t d (domain k) = refl
    one t d (class e) = ap Some e

    by : (b : Bool) → body_number (class_in us x) ≡ option_and_then class_body (type_in es x)
        → body_number (cond b (Some (class_by t.1)) (class_in us x))
        ≡ option_and_then class_body (cond b (Some d.1) (type_in es x))
    by true k = one t.1 d.1 h.is_type
    by false k = k

pub are_classes : (d : Declared) (classes : ClassBodies) (ts : List (NameId × TypeBody))
    → Along (IsNamedType d.symbols) ts d.types → ((x : ℕ) → class_at classes x ≡ class_in ts x) → AreClasses d classes
are_classes d classes ts a h = record { each = λ x. ap body_number (h x) ∙ classes_along d.symbols ts d.types a x }
