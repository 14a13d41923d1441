-- Blocks in a body have later numbers than the body.
use Rattle.std.proofs.Common.{◌≡◌, ℕ, zero, suc, ◌+◌, ◌≤◌, ◌<◌, inl, inr, List, [], ◌∷◌, ◌++◌, length, Option, Some, None, slice_get, refl, sym, ap, subst, arith}
use Rattle.ar_base.specs.Lists.{Stands, IsOneOf}
use Rattle.ar_base.specs.Numbers.{NameId, BodyId}
use Rattle.ar_base.specs.declared.places.Place.{Place}
use Rattle.ar_base.proofs.Standing.{stands_none, stands_split, one_cases, one_none}
use Rattle.ar_syntax.specs.declared.items.Item.{Item}
use Rattle.ar_syntax.specs.declared.items.Model.{Model}
use Rattle.ar_syntax.specs.declared.members.Member.{Member}
use Rattle.class_table.specs.Declaring.{MemberForm, TextBody, NamedType, Declared, Lays, Lays_one, Lays_items, IsDeclared}
use Rattle.class_table.specs.Declaring.Lays.{none, one_and}
use Rattle.class_table.specs.Declaring.Lays_one.{plain, block}
use Rattle.class_table.specs.Declaring.Lays_items.{none as no_items, domain, class, block as item_block}
use Rattle.class_table.specs.Members.{own_of, own_at}
use Rattle.class_table.specs.declared.tables.Owned.{Owned}
use Rattle.class_table.specs.declared.tables.Owned.TheVariants.{Nested}

-- the blocks among these have numbers from n on
pub record AreFrom (n : ℕ) (own : List Owned) : Type 0 where
  pub later : (x : NameId) (at : Place) (id : BodyId) → IsOneOf own (Nested x at id) → n ≤ id.n

-- the blocks in each of these bodies, the first of which has number n, have later numbers than the body
pub record AreNested (n : ℕ) (bodies : List TextBody) : Type 0 where
  pub each : (k : ℕ) (b : TextBody) (x : NameId) (at : Place) (id : BodyId) → Stands bodies k b
      → IsOneOf b.own (Nested x at id) → n + k < id.n

nested_first : (n : ℕ) (b : TextBody) (bs : List TextBody) → AreFrom (n + 1) b.own → AreNested (n + 1) bs
    → AreNested n (b ∷ bs)
nested_first n b bs f h = record { each = go }
  where
    go : (k : ℕ) (c : TextBody) (x : NameId) (at : Place) (id : BodyId) → Stands (b ∷ bs) k c
        → IsOneOf c.own (Nested x at id) → n + k < id.n
    go zero c x at id s o = let same : b ≡ c = cc in let l = f.later x at id (subst (λ (z : TextBody). IsOneOf z.own (Nested x at id)) (sym same) o) in omega (arith, l)
    go (suc k) c x at id s o = let l = h.each k c x at id s o in omega (arith, l)

nested_join : (n : ℕ) (bs cs : List TextBody) → AreNested n bs → AreNested (n + length bs) cs → AreNested n (bs ++ cs)
nested_join n bs cs f h = record {
  each = λ k b x at id s o. elim (stands_split bs cs k b s) [
    | inl p ↦ f.each k b x at id p o
    | inr p ↦ (let l = h.each p.0 b x at id p.2 o in let e = p.1 in omega (arith, l, e))
  ];
}

nested_none : (n : ℕ) → AreNested n []
nested_none n = record { each = λ k b x at id s o. absurd (stands_none k b s) }

mutual
  members_nested : {n : ℕ} {ms : List Member} {os : List Owned} {bs : List TextBody} → Lays n ms os bs
      → AreFrom n os × AreNested n bs
  members_nested {n = n} none = (record { later = λ x at id o. absurd (one_none _ o) }, nested_none n)
  members_nested {n = n} (one_and {o = o} {os = os} {bs = bs} {cs = cs} l ls) =
      let a = one_nested l in
      let r = members_nested ls in (
        record {
          later = λ x at id i. elim (one_cases o os (Nested x at id) i) [
            | inl e ↦ a.0.later x at id (record { place = 0; stands = ap Some e })
            | inr j ↦ (let m = r.0.later x at id j in omega (arith, m))
          ];
        },
        nested_join n bs cs a.1 r.1,
      )

  one_nested : {n : ℕ} {m : Member} {f : MemberForm} {o : Owned} {bs : List TextBody} → Lays_one n m f o bs
      → AreFrom n (o ∷ []) × AreNested n bs
  one_nested {n = n} {o = o} (plain e) = (
    record {
      later = λ x at id i. elim (one_cases o [] (Nested x at id) i)
          [ inl q ↦ cc | inr j ↦ absurd (one_none _ j) ];
    },
    nested_none n,
  )
  one_nested {n = n} {o = o} (block {id = b} {bs = bs} e l) =
      let r = members_nested l in (
        record {
          later = λ x at id i. elim (one_cases o [] (Nested x at id) i) [
            | inl q ↦ (let same : b ≡ id = cc in let g = ap (λ (z : BodyId). z.n) same in omega (arith, e, g))
            | inr j ↦ absurd (one_none _ j)
          ];
        },
        nested_first n _ bs r.0 r.1,
      )

items_nested : {n : ℕ} {is : List Item} {bs : List TextBody} {ts : List (ℕ × NamedType)} {ms : List ℕ}
    → Lays_items n is bs ts ms → AreNested n bs
items_nested {n = n} no_items = nested_none n
items_nested (domain l) = items_nested l
items_nested {n = n} (class {bs = bs} {cs = cs} l ls) =
    let r = members_nested l in nested_first n _ (bs ++ cs) r.0 (nested_join (n + 1) bs cs r.1 (items_nested ls))
items_nested {n = n} (item_block {bs = bs} {cs = cs} l ls) =
    let r = members_nested l in nested_first n _ (bs ++ cs) r.0 (nested_join (n + 1) bs cs r.1 (items_nested ls))

-- a block that stands in a body has a later number
pub block_later : {model : Model} {d : Declared} → IsDeclared model d → (a : ℕ) (x : NameId) (at : Place) (id : BodyId)
    → IsOneOf (own_at d a) (Nested x at id) → a < id.n
block_later {d = d} h a x at id o = go (slice_get d.bodies a) refl
  where
    go : (b : Option TextBody) → slice_get d.bodies a ≡ b → a < id.n
    go None e = absurd (one_none _ (subst (λ (z : Option TextBody). IsOneOf (own_of z) (Nested x at id)) e o))
    go (Some b) e = let l = (items_nested h.items).each a b x at id e (subst (λ (z : Option TextBody). IsOneOf (own_of z) (Nested x at id)) e o) in omega (arith, l)
