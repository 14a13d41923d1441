-- The main block.
use Rattle.std.proofs.Common.{◌≡◌, ℕ, List, [], ◌∷◌, ◌++◌, map, length, ◌-◌, slice_get, IfSome, IfNone, Option, Some, None, refl, sym, ◌∙◌, ap, subst}
use Rattle.ar_base.specs.Lists.{Stands, IsOneOf, HasNo, AreDifferent, Along}
use Rattle.ar_base.specs.Numbers.{NameId, BodyId}
use Rattle.std.proofs.Common.{◌<◌, ◌+◌, zero, suc, arith}
use Rattle.ar_base.proofs.Standing.{stands_some, stands_within, stands_map, stands_map_back, one_here, along_on, along_back}
use Rattle.class_table.specs.Declaring.{Declared}
use Rattle.class_table.specs.Tables.{IsMain, named, last}
use Rattle.class_table.specs.TablesInside.{IsBodyOf}
use Rattle.class_table.specs.Main.{IsNamedBlock}
use Rattle.class_table.specs.declared.tables.Body.{Body}
use Rattle.class_table.proofs.Taken.{map_join}

module _ (names : List (List ℕ)) (d : Declared) (bodies : List Body) (blocks : List BodyId)
    (shown : Along IsBodyOf bodies d.bodies) (same : map (λ (b : BodyId). b.n) blocks ≡ d.blocks)
    (text : List ℕ) (name : NameId) (is_text : Stands names name.n text) where
  -- a block of the name is the main block
  pub main_some : (b : BodyId) → IsOneOf blocks b × IsNamedBlock bodies name.n b → IsMain names d (Some text) b.n
  main_some b h =
      let w = along_on bodies d.bodies shown b.n h.1.body h.1.stands in
      let one : IsOneOf d.blocks b.n = subst (λ (xs : List ℕ). IsOneOf xs b.n) same
      (one_here _ h.0.place b.n (stands_map (λ (x : BodyId). x.n) blocks h.0.place b h.0.stands)) in
      let n : w.0.name.n ≡ name.n = ap (λ (x : NameId). x.n) (sym w.2.name) ∙ h.1.has_name in
      named w.0 one w.1 (subst (λ (k : ℕ). Stands names k text) (sym n) is_text)

  -- without one there is none
  pub main_none : AreDifferent names → HasNo blocks (IsNamedBlock bodies name.n) → (b : ℕ)
      → IsMain names d (Some text) b → ⊥
  main_none different h b (named block one at t) =
      let o = subst (λ (xs : List ℕ). IsOneOf xs b) (sym same) one in
      let w = stands_map_back (λ (x : BodyId). x.n) blocks o.place b o.stands in
      let v = along_back bodies d.bodies shown b block at in
      let e = different.one block.name.n name.n text t is_text in
      h.has_not o.place w.0 w.1 (record {
        body = v.0;
        stands = subst (λ (k : ℕ). Stands bodies k v.0) (sym w.2) v.1;
        has_name = ap (λ (x : NameId). x.n) v.2.name ∙ e;
      })

-- a text that names nothing names no block
pub main_absent : (names : List (List ℕ)) (d : Declared) (text : List ℕ) → HasNo names (λ t. t ≡ text) → (b : ℕ)
    → IsMain names d (Some text) b → ⊥
main_absent names d text h b (named block one at t) = h.has_not block.name.n text t refl

last_split : (b : BodyId) (xs : List BodyId) (k : ℕ) → length xs ≡ k + 1 → slice_get xs k ≡ Some b
    → (ys : List BodyId) × (xs ≡ ys ++ b ∷ [])
last_split b [] k l h = absurd (omega (arith, l))
last_split b (x ∷ []) zero l h = ([], let g : x ≡ b = cc in ap (λ (z : BodyId). z ∷ []) g)
last_split b (x ∷ y ∷ zs) zero l h = absurd (omega (arith, l))
last_split b (x ∷ xs) (suc k) l h = let w = last_split b xs k (omega (arith, l)) h in (x ∷ w.0, ap (λ (us : List BodyId). x ∷ us) w.1)

-- the last block is the main one
pub last_some : (names : List (List ℕ)) (d : Declared) (blocks : List BodyId) (r : Option BodyId)
    → map (λ (b : BodyId). b.n) blocks ≡ d.blocks → r ≡ slice_get blocks (length blocks - 1)
    → IfSome r (λ b. IsMain names d None b.n)
last_some names d blocks None same e = tt
last_some names d blocks (Some b) same e =
    let l = stands_within blocks (length blocks - 1) b (sym e) in
    let w = last_split b blocks (length blocks - 1) (omega arith) (sym e) in
    last (map (λ (x : BodyId). x.n) w.0)
    (sym same ∙ (ap (map (λ (x : BodyId). x.n)) w.1 ∙ map_join (λ (x : BodyId). x.n) w.0 (b ∷ [])))

-- what an option that holds something keeps
pub some_map : {A : Type 0} {P Q : A → Type 0} (r : Option A) → ((a : A) → P a → Q a) → IfSome r P → IfSome r Q
some_map (Some a) f h = f a h
some_map None f h = h

pub none_map : {A P Q : Type 0} (r : Option A) → (P → Q) → IfNone r P → IfNone r Q
none_map (Some a) f h = h
none_map None f h = f h

-- where there is no block none is the last
pub last_none : (names : List (List ℕ)) (d : Declared) (blocks : List BodyId) (r : Option BodyId)
    → map (λ (b : BodyId). b.n) blocks ≡ d.blocks → r ≡ slice_get blocks (length blocks - 1)
    → IfNone r ((b : ℕ) → IsMain names d None b → ⊥)
last_none names d blocks (Some b) same e = tt
last_none names d [] None same e = λ b m. none b m
  where
    none : (b : ℕ) → IsMain names d None b → ⊥
    none b (last [] f) = let g = same ∙ f in cc
    none b (last (x ∷ xs) f) = let g = same ∙ f in cc
last_none names d (x ∷ xs) None same e = absurd (past (x ∷ xs) (length xs) (omega arith) (sym e'))
  where
    e' : None ≡ slice_get (x ∷ xs) (length xs)
    e' = e ∙ ap (slice_get (x ∷ xs)) (let g : length (x ∷ xs) - 1 ≡ length xs = omega arith in g)

    past : (ys : List BodyId) (k : ℕ) → k < length ys → slice_get ys k ≡ None → ⊥
    past ys k l h = let w = stands_some ys k l in let s = w.1 in cc
