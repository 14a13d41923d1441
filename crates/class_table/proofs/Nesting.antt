-- Blocks in a body have later numbers than the body, and all numbers of bodies are those of bodies that are there.
use Rattle.std.proofs.Common.{◌≡◌, ℕ, zero, suc, ◌+◌, ◌≤◌, ◌<◌, ◌==◌, Bool, true, false, inl, inr, List, [], ◌∷◌, ◌++◌, length, Option, Some, None, slice_get, option_and_then, if◌then◌else◌, refl, sym, ap, ◌∙◌, subst, arith, length-append}
use Rattle.ar_base.specs.Lists.{Stands, IsOneOf}
use Rattle.ar_base.specs.Numbers.{NameId, BodyId}
use Rattle.ar_base.specs.declared.places.Place.{Place}
use Rattle.ar_base.proofs.Standing.{stands_none, stands_split, one_cases, one_none}
use Rattle.ar_syntax.specs.declared.items.Item.{Item}
use Rattle.ar_syntax.specs.declared.items.Model.{Model}
use Rattle.ar_syntax.specs.declared.members.Member.{Member}
use Rattle.class_table.specs.Declaring.{MemberForm, TextBody, NamedType, DomainType, ClassType, Declared, Lays, Lays_one, Lays_items, IsDeclared}
use Rattle.class_table.specs.Declaring.Lays.{none, one_and}
use Rattle.class_table.specs.Declaring.Lays_one.{plain, block}
use Rattle.class_table.specs.Declaring.Lays_items.{none as no_items, domain, class as item_class, block as item_block}
use Rattle.class_table.specs.Members.{own_of, own_at, type_in, class_body}
use Rattle.class_table.specs.Rules.{NamesClass, extends, instances, HasInside, class as inside_class, block as inside_block}
use Rattle.class_table.specs.declared.tables.Owned.{Owned}
use Rattle.class_table.specs.declared.tables.Owned.TheVariants.{Nested}

-- the blocks among these have numbers from n on, below top
pub record AreFrom (n top : ℕ) (own : List Owned) : Type 0 where
  pub from : (x : NameId) (at : Place) (id : BodyId) → IsOneOf own (Nested x at id) → n ≤ id.n
  pub below : (x : NameId) (at : Place) (id : BodyId) → IsOneOf own (Nested x at id) → id.n < top

-- the blocks in each of these bodies, the first of which has number n, have later numbers than the body, below top
pub record AreNested (n top : ℕ) (bodies : List TextBody) : Type 0 where
  pub later : (k : ℕ) (b : TextBody) (x : NameId) (at : Place) (id : BodyId) → Stands bodies k b
      → IsOneOf b.own (Nested x at id) → n + k < id.n
  pub below : (k : ℕ) (b : TextBody) (x : NameId) (at : Place) (id : BodyId) → Stands bodies k b
      → IsOneOf b.own (Nested x at id) → id.n < top

nested_first : (n top : ℕ) (b : TextBody) (bs : List TextBody) → AreFrom (n + 1) top b.own → AreNested (n + 1) top bs
    → AreNested n top (b ∷ bs)
nested_first n top b bs f h = record { later = go; below = low }
  where
    go : (k : ℕ) (c : TextBody) (x : NameId) (at : Place) (id : BodyId) → Stands (b ∷ bs) k c
        → IsOneOf c.own (Nested x at id) → n + k < id.n
    go zero c x at id s o = let same : b ≡ c = cc in let l = f.from x at id (subst (λ (z : TextBody). IsOneOf z.own (Nested x at id)) (sym same) o) in omega (arith, l)
    go (suc k) c x at id s o = let l = h.later k c x at id s o in omega (arith, l)

    low : (k : ℕ) (c : TextBody) (x : NameId) (at : Place) (id : BodyId) → Stands (b ∷ bs) k c
        → IsOneOf c.own (Nested x at id) → id.n < top
    low zero c x at id s o = let same : b ≡ c = cc in f.below x at id (subst (λ (z : TextBody). IsOneOf z.own (Nested x at id)) (sym same) o)
    low (suc k) c x at id s o = h.below k c x at id s o

nested_join : (n mid top : ℕ) (bs cs : List TextBody) → mid ≤ top → AreNested n mid bs
    → AreNested (n + length bs) top cs → AreNested n top (bs ++ cs)
nested_join n mid top bs cs m f h = record {
  later = λ k b x at id s o. elim (stands_split bs cs k b s) [
    | inl p ↦ f.later k b x at id p o
    | inr p ↦ (let l = h.later p.0 b x at id p.2 o in let e = p.1 in omega (arith, l, e))
  ];
  below = λ k b x at id s o. elim (stands_split bs cs k b s) [
    | inl p ↦ (let l = f.below k b x at id p o in omega (arith, l, m))
    | inr p ↦ h.below p.0 b x at id p.2 o
  ];
}

nested_none : (n top : ℕ) → AreNested n top []
nested_none n top = record {
  later = λ k b x at id s o. absurd (stands_none k b s);
  below = λ k b x at id s o. absurd (stands_none k b s);
}

nested_top : (n top high : ℕ) (bs : List TextBody) → top ≡ high → AreNested n top bs → AreNested n high bs
nested_top n top high bs e h = subst (λ (t : ℕ). AreNested n t bs) e h

from_top : (n top high : ℕ) (os : List Owned) → top ≡ high → AreFrom n top os → AreFrom n high os
from_top n top high os e h = subst (λ (t : ℕ). AreFrom n t os) e h

mutual
  members_nested : {n : ℕ} {ms : List Member} {os : List Owned} {bs : List TextBody} → Lays n ms os bs
      → AreFrom n (n + length bs) os × AreNested n (n + length bs) bs
  members_nested {n = n} none =
      (record { from = λ x at id o. absurd (one_none _ o); below = λ x at id o. absurd (one_none _ o) }, nested_none n _)
  members_nested {n = n} (one_and {o = o} {os = os} {bs = bs} {cs = cs} l ls) =
      let a = one_nested l in
      let r = members_nested ls in
      let e : (n + length bs) + length cs ≡ n + length (bs ++ cs) = (let g = length-append bs cs in omega (arith, g)) in (
        record {
          from = λ x at id i. elim (one_cases o os (Nested x at id) i) [
            | inl e ↦ a.0.from x at id (record { place = 0; stands = ap Some e })
            | inr j ↦ (let m = r.0.from x at id j in omega (arith, m))
          ];
          below = λ x at id i. elim (one_cases o os (Nested x at id) i) [
            | inl f ↦ (let m = a.0.below x at id (record { place = 0; stands = ap Some f }) in omega (arith, m, e))
            | inr j ↦ (let m = r.0.below x at id j in omega (arith, m, e))
          ];
        },
        nested_top n _ _ (bs ++ cs) e (nested_join n (n + length bs) _ bs cs (omega arith) a.1 r.1),
      )

  one_nested : {n : ℕ} {m : Member} {f : MemberForm} {o : Owned} {bs : List TextBody} → Lays_one n m f o bs
      → AreFrom n (n + length bs) (o ∷ []) × AreNested n (n + length bs) bs
  one_nested {n = n} {o = o} (plain e) = (
    record {
      from = λ x at id i. elim (one_cases o [] (Nested x at id) i) [ inl q ↦ cc | inr j ↦ absurd (one_none _ j) ];
      below = λ x at id i. elim (one_cases o [] (Nested x at id) i) [ inl q ↦ cc | inr j ↦ absurd (one_none _ j) ];
    },
    nested_none n _,
  )
  one_nested {n = n} {o = o} (block {id = b} {own = own} {bs = bs} e l) =
      let r = members_nested l in
      let t : (n + 1) + length bs ≡ n + suc (length bs) = omega arith in (
        record {
          from = λ x at id i. elim (one_cases o [] (Nested x at id) i) [
            | inl q ↦ (let same : b ≡ id = cc in let g = ap (λ (z : BodyId). z.n) same in omega (arith, e, g))
            | inr j ↦ absurd (one_none _ j)
          ];
          below = λ x at id i. elim (one_cases o [] (Nested x at id) i) [
            | inl q ↦ (let same : b ≡ id = cc in let g = ap (λ (z : BodyId). z.n) same in omega (arith, e, g))
            | inr j ↦ absurd (one_none _ j)
          ];
        },
        nested_first n _ _ bs (from_top (n + 1) _ _ own t r.0) (nested_top (n + 1) _ _ bs t r.1),
      )

-- the classes among these types have bodies below top
pub record AreBelow (top : ℕ) (types : List (ℕ × NamedType)) : Type 0 where
  pub each : (x c : ℕ) → option_and_then class_body (type_in types x) ≡ Some c → c < top

below_none : (top : ℕ) → AreBelow top []
below_none top = record { each = λ x c e. cc }

below_type : (top x : ℕ) (t : NamedType) (ts : List (ℕ × NamedType)) → ((c : ℕ) → class_body t ≡ Some c → c < top)
    → AreBelow top ts → AreBelow top ((x, t) ∷ ts)
below_type top x t ts f h = record { each = λ y c e. by y c (x == y) refl e }
  where
    by : (y c : ℕ) (b : Bool) → (x == y) ≡ b → option_and_then class_body (type_in ((x, t) ∷ ts) y) ≡ Some c → c < top
    by y c true i e = f c (sym (ap (λ (b : Bool). option_and_then class_body (if b then Some t else type_in ts y)) i) ∙ e)
    by y c false i e = h.each y c (sym (ap (λ (b : Bool). option_and_then class_body (if b then Some t else type_in ts y)) i) ∙ e)

below_top : (top high : ℕ) (ts : List (ℕ × NamedType)) → top ≡ high → AreBelow top ts → AreBelow high ts
below_top top high ts e h = subst (λ (t : ℕ). AreBelow t ts) e h

-- what items lay is in range
record AreLaid (n : ℕ) (bs : List TextBody) (ts : List (ℕ × NamedType)) : Type 0 where
  pub nested : AreNested n (n + length bs) bs
  pub types : AreBelow (n + length bs) ts

unit_laid : (n : ℕ) (b : TextBody) (bs cs : List TextBody) → AreFrom (n + 1) ((n + 1) + length bs) b.own
    → AreNested (n + 1) ((n + 1) + length bs) bs
    → AreNested ((n + 1) + length bs) (((n + 1) + length bs) + length cs) cs
    → AreNested n (n + suc (length (bs ++ cs))) (b ∷ bs ++ cs)
unit_laid n b bs cs f h k =
    let g = length-append bs cs in
    let e : ((n + 1) + length bs) + length cs ≡ n + suc (length (bs ++ cs)) = omega (arith, g) in
    nested_first n _ b (bs ++ cs)
    (record { from = f.from; below = λ x at id i. let l = f.below x at id i in omega (arith, l, g) })
    (nested_top (n + 1) _ _ (bs ++ cs) e (nested_join (n + 1) ((n + 1) + length bs) _ bs cs (omega arith) h k))

items_laid : {n : ℕ} {is : List Item} {bs : List TextBody} {ts : List (ℕ × NamedType)} {ms : List ℕ}
    → Lays_items n is bs ts ms → AreLaid n bs ts
items_laid {n = n} no_items = record { nested = nested_none n _; types = below_none _ }
items_laid {n = n} (domain {d = d} {ts = ts} l) =
    let r = items_laid l in
    record { nested = r.nested; types = below_type _ d.name.n (DomainType d.body) ts (λ c e. cc) r.types }
items_laid {n = n} (item_class {u = u} {own = own} {bs = bs} {cs = cs} {ts = ts} l ls) =
    let r = members_nested l in
    let k = items_laid ls in
    let g = length-append bs cs in
    let e : ((n + 1) + length bs) + length cs ≡ n + suc (length (bs ++ cs)) = omega (arith, g) in
    record {
      nested = unit_laid n _ bs cs r.0 r.1 k.nested;
      types = below_type _ u.name.n (ClassType n) ts (λ c f. let i : n ≡ c = cc in omega (arith, i))
          (below_top _ _ ts e k.types);
    }
items_laid {n = n} (item_block {own = own} {bs = bs} {cs = cs} {ts = ts} l ls) =
    let r = members_nested l in
    let k = items_laid ls in
    let g = length-append bs cs in
    let e : ((n + 1) + length bs) + length cs ≡ n + suc (length (bs ++ cs)) = omega (arith, g) in
    record { nested = unit_laid n _ bs cs r.0 r.1 k.nested; types = below_top _ _ ts e k.types }

module _ {model : Model} {d : Declared} (h : IsDeclared model d) where
  -- a block that stands in a body has a later number
  pub block_later : (a : ℕ) (x : NameId) (at : Place) (id : BodyId) → IsOneOf (own_at d a) (Nested x at id) → a < id.n
  block_later a x at id o = go (slice_get d.bodies a) refl
    where
      go : (b : Option TextBody) → slice_get d.bodies a ≡ b → a < id.n
      go None e = absurd (one_none _ (subst (λ (z : Option TextBody). IsOneOf (own_of z) (Nested x at id)) e o))
      go (Some b) e = let l = (items_laid h.items).nested.later a b x at id e (subst (λ (z : Option TextBody). IsOneOf (own_of z) (Nested x at id)) e o) in omega (arith, l)

  -- what is inside a body is a body that is there
  pub inside_there : (a b : ℕ) → HasInside d a b → b < length d.bodies
  inside_there a b (inside_class m s n) = named n
    where
      named : {f : MemberForm} {p : Place} → NamesClass d f b p → b < length d.bodies
      named (extends {x = x} e) = let l = (items_laid h.items).types.each x.n b e in omega (arith, l)
      named (instances x i e) = let l = (items_laid h.items).types.each x.n b e in omega (arith, l)
  inside_there a b (inside_block x at id o) = go (slice_get d.bodies a) refl
    where
      go : (t : Option TextBody) → slice_get d.bodies a ≡ t → id.n < length d.bodies
      go None e = absurd (one_none _ (subst (λ (z : Option TextBody). IsOneOf (own_of z) (Nested x at id)) e o))
      go (Some t) e = let l = (items_laid h.items).nested.below a t x at id e (subst (λ (z : Option TextBody). IsOneOf (own_of z) (Nested x at id)) e o) in omega (arith, l)
