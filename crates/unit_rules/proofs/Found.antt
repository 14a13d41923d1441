-- Types that are looked up.
use Rattle.std.proofs.Common.{◌≡◌, ℕ, suc, ◌+◌, ◌⊎◌, Bool, true, false, cond, nat_eq, List, [], ◌∷◌, ◌++◌, length, Option, Some, None, is_some, option_map, option_and_then, refl, sym, ◌∙◌, ap, subst, inl, inr, eq-eqb, ne_eqb, arith}
use Rattle.std.proofs.lemmas.Bool.{cases_eq}
use Rattle.ar_base.specs.Lists.{Stands, Along}
use Rattle.ar_base.specs.Lists.Along.{none as along_none, one_and as along_and}
use Rattle.ar_base.specs.Numbers.{NameId, BodyId}
use Rattle.class_table.specs.Declaring.{NamedType, Declared}
use Rattle.class_table.specs.Members.{type_in, type_named, domain_body}
use Rattle.class_table.specs.TablesInside.{IsNamedType, IsTypeOf}
use Rattle.class_table.specs.TablesInside.IsTypeOf.{domain as domain_type, class as class_type}
use Rattle.class_table.specs.declared.tables.TypeBody.TheVariants as types
use Rattle.domains.specs.declared.Domain.{Domain}
use Rattle.class_table.specs.declared.tables.TypeBody.{TypeBody}
use Rattle.unit_rules.specs.TypingInside.{type_place_in, IsFound, none, some}

-- one type more, of another name
place_apart : (ts : List (NameId × TypeBody)) (t : NameId × TypeBody) (x : ℕ) → (t.0.n ≡ x → ⊥)
    → type_place_in (ts ++ t ∷ []) x ≡ type_place_in ts x
place_apart [] t x n = ap (λ (b : Bool). cond b (Some 0) None) (ne_eqb t.0.n x n)
place_apart (u ∷ us) t x n = ap (λ (o : Option ℕ). cond (nat_eq u.0.n x) (Some 0) (option_map (λ k. k + 1) o))
    (place_apart us t x n)

-- one type more, of a name that was there
place_had : (ts : List (NameId × TypeBody)) (t : NameId × TypeBody) (x : ℕ) → is_some (type_place_in ts x) ≡ true
    → type_place_in (ts ++ t ∷ []) x ≡ type_place_in ts x
place_had [] t x e = cc
place_had (u ∷ us) t x e = by (nat_eq u.0.n x) (λ f. place_had us t x f) e
  where
    mapped : (o : Option ℕ) → is_some (option_map (λ k. k + 1) o) ≡ true → is_some o ≡ true
    mapped None e = cc
    mapped (Some k) e = refl

    by : (b : Bool) → (is_some (type_place_in us x) ≡ true → type_place_in (us ++ t ∷ []) x ≡ type_place_in us x)
        → is_some (cond b (Some 0) (option_map (λ k. k + 1) (type_place_in us x))) ≡ true
        → cond b (Some 0) (option_map (λ k. k + 1) (type_place_in (us ++ t ∷ []) x))
        ≡ cond b (Some 0) (option_map (λ k. k + 1) (type_place_in us x))
    by true f e = refl
    by false f e = ap (λ (o : Option ℕ). option_map (λ k. k + 1) o) (f (mapped (type_place_in us x) e))

-- one type more, of a new name
place_new : (ts : List (NameId × TypeBody)) (t : NameId × TypeBody) (x : ℕ) → t.0.n ≡ x → type_place_in ts x ≡ None
    → type_place_in (ts ++ t ∷ []) x ≡ Some (length ts)
place_new [] t x e n = ap (λ (b : Bool). cond b (Some 0) None) (eq-eqb t.0.n x e)
place_new (u ∷ us) t x e n = by (nat_eq u.0.n x) (λ f. place_new us t x e f) n
  where
    mapped : (o : Option ℕ) → option_map (λ k. k + 1) o ≡ None → o ≡ None
    mapped None e = refl
    mapped (Some k) e = cc

    more : length us + 1 ≡ suc (length us)
    more = omega arith

    by : (b : Bool) → (type_place_in us x ≡ None → type_place_in (us ++ t ∷ []) x ≡ Some (length us))
        → cond b (Some 0) (option_map (λ k. k + 1) (type_place_in us x)) ≡ None
        → cond b (Some 0) (option_map (λ k. k + 1) (type_place_in (us ++ t ∷ []) x)) ≡ Some (suc (length us))
    by true f n = cc
    by false f n = ap (λ (o : Option ℕ). option_map (λ k. k + 1) o) (f (mapped (type_place_in us x) n))
        ∙ ap (λ (k : ℕ). Some k) more

-- a step where the name was there
pub known_step : (get : ℕ → Option ℕ) (ts : List (NameId × TypeBody)) (t : NameId × TypeBody)
    → ((x : ℕ) → get x ≡ type_place_in ts x) → is_some (get t.0.n) ≡ true → (x : ℕ)
    → get x ≡ type_place_in (ts ++ t ∷ []) x
known_step get ts t h e x = by (cases_eq t.0.n x)
  where
    by : (t.0.n ≡ x) ⊎ (t.0.n ≡ x → ⊥) → get x ≡ type_place_in (ts ++ t ∷ []) x
    by (inl i) = h x ∙ sym (place_had ts t x
        (ap (λ (o : Option ℕ). is_some o) (sym (h x)) ∙ (ap (λ (z : ℕ). is_some (get z)) (sym i) ∙ e)))
    by (inr n) = h x ∙ sym (place_apart ts t x n)

-- a step where it is new
pub new_step : (get new : ℕ → Option ℕ) (ts : List (NameId × TypeBody)) (t : NameId × TypeBody) (k : ℕ) → length ts ≡ k
    → ((x : ℕ) → get x ≡ type_place_in ts x) → is_some (get t.0.n) ≡ false
    → ((x : ℕ) → new x ≡ cond (nat_eq t.0.n x) (Some k) (get x)) → (x : ℕ) → new x ≡ type_place_in (ts ++ t ∷ []) x
new_step get new ts t k l h e u x = by (cases_eq t.0.n x)
  where
    empty : (o : Option ℕ) → is_some o ≡ false → o ≡ None
    empty None e = refl
    empty (Some k) e = cc

    by : (t.0.n ≡ x) ⊎ (t.0.n ≡ x → ⊥) → new x ≡ type_place_in (ts ++ t ∷ []) x
    by (inl i) =
        let n = empty (type_place_in ts x) (ap (λ (o : Option ℕ). is_some o) (sym (h x))
        ∙ (ap (λ (z : ℕ). is_some (get z)) (sym i) ∙ e)) in
        u x ∙ (ap (λ (b : Bool). cond b (Some k) (get x)) (eq-eqb t.0.n x i)
        ∙ (ap (λ (m : ℕ). Some m) (sym l) ∙ sym (place_new ts t x i n)))
    by (inr n) = u x ∙ (ap (λ (b : Bool). cond b (Some k) (get x)) (ne_eqb t.0.n x n)
        ∙ (h x ∙ sym (place_apart ts t x n)))

-- what the place says of the type that is declared
abbrev IsTypeAt : List ℕ → List (NameId × TypeBody) → List (ℕ × NamedType) → ℕ → Option ℕ → Type 0
IsTypeAt symbols ts ds x None = type_in ds x ≡ None
IsTypeAt symbols ts ds x (Some k) =
    (t : NameId × TypeBody) × (n : NamedType) × Stands ts k t × (type_in ds x ≡ Some n) × IsTypeOf symbols n t.1

types_along : (symbols : List ℕ) (ts : List (NameId × TypeBody)) (ds : List (ℕ × NamedType))
    → Along (IsNamedType symbols) ts ds → (x : ℕ) → IsTypeAt symbols ts ds x (type_place_in ts x)
types_along symbols ts ds along_none x = refl
types_along symbols ts ds (along_and {a = t} {b = d} {xs = us} {ys = es} h r) x =
    by (nat_eq t.0.n x) (ap (λ (n : ℕ). cond (nat_eq n x) (Some d.1) (type_in es x)) (sym h.name)) (type_place_in us x)
    (types_along symbols us es r x)
  where
    by : (b : Bool) → type_in (d ∷ es) x ≡ cond b (Some d.1) (type_in es x) → (o : Option ℕ)
        → IsTypeAt symbols us es x o
        → IsTypeAt symbols (t ∷ us) (d ∷ es) x (cond b (Some 0) (option_map (λ k. k + 1) o))
    by true e o k = (t, d.1, refl, e, h.is_type)
    by false e None k = e ∙ k
    by false e (Some p) (u, n, s, i, j) = (u, n, subst (λ (q : ℕ). Stands (t ∷ us) q u) (let q : suc p ≡ p + 1 = omega arith in q) s, e ∙ i, j)

module _ (d : Declared) (ts : List (NameId × TypeBody)) (a : Along (IsNamedType d.symbols) ts d.types) where
  -- what is found where the name has no place
  pub found_none : (x : ℕ) → type_place_in ts x ≡ None → IsFound d.symbols (type_named d x) None
  found_none x e = let h = subst (IsTypeAt d.symbols ts d.types x) e (types_along d.symbols ts d.types a x) in subst (λ (t : Option NamedType). IsFound d.symbols t None) (sym h) none

  -- and where it has one
  pub found_some : (x k : ℕ) → type_place_in ts x ≡ Some k
      → (t : NameId × TypeBody) × Stands ts k t × IsFound d.symbols (type_named d x) (Some t.1)
  found_some x k e =
      let h = subst (IsTypeAt d.symbols ts d.types x) e (types_along d.symbols ts d.types a x) in
      (h.0, h.2, subst (λ (t : Option NamedType). IsFound d.symbols t (Some h.0.1)) (sym h.3) (some h.4))

module _ (symbols : List ℕ) where
  -- what is found shows whether the type is a domain
  pub found_domain : (t : Option NamedType) (b : TypeBody) (v : Domain) → b ≡ types.Domain v
      → IsFound symbols t (Some b) → true ≡ is_some (option_and_then domain_body t)
  found_domain t b v e (some (domain_type k)) = refl
  found_domain t b v e (some (class_type i)) = cc

  pub found_class : (t : Option NamedType) (b : TypeBody) (id : BodyId) → b ≡ types.Class id
      → IsFound symbols t (Some b) → false ≡ is_some (option_and_then domain_body t)
  found_class t b id e (some (domain_type k)) = cc
  found_class t b id e (some (class_type i)) = refl
