-- The main block is one where no two items have one name and no two names have one text.
use Rattle.std.proofs.Common.{◌≡◌, ℕ, zero, suc, ◌+◌, ◌<◌, ◌≤◌, inl, inr, List, ◌∷◌, ◌++◌, length, Option, refl, sym, ap, ◌∙◌, arith}
use Rattle.ar_base.specs.Breach.{AreKept}
use Rattle.ar_base.specs.Lists.{Stands, IsOneOf, AreDifferent}
use Rattle.ar_base.proofs.Items.{last_one}
use Rattle.ar_base.proofs.Standing.{one_none, one_cases, stands_within, stands_split}
use Rattle.ar_syntax.specs.declared.items.Item.{Item}
use Rattle.ar_syntax.specs.declared.items.Model.{Model}
use Rattle.class_table.specs.Declaring.{TextBody, NamedType, Declared, Lays_items, IsDeclared}
use Rattle.class_table.specs.Declaring.Lays_items.{none as no_items, domain as lays_domain, class as lays_class, block as lays_block}
use Rattle.class_table.specs.Rules.{item_name, one_name, BreaksTextRule, text_rules, l1}
use Rattle.class_table.specs.Tables.{IsMain, named, last}

-- no two of these items have one name
record HaveNames (items : List Item) : Type 0 where
  apart : (j k : ℕ) (x y : Item) → j < k → Stands items j x → Stands items k y → (item_name x).n ≡ (item_name y).n → ⊥

names_rest : (x : Item) (items : List Item) → HaveNames (x ∷ items) → HaveNames items
names_rest x items h =
    record { apart = λ j k y z less s t e. h.apart (suc j) (suc k) y z (omega (arith, less)) s t e }

-- blocks of later items have later numbers
blocks_from : {n b : ℕ} {items : List Item} {bs : List TextBody} {ts : List (ℕ × NamedType)} {ms : List ℕ}
    → Lays_items n items bs ts ms → IsOneOf ms b → n ≤ b
blocks_from {b = b} no_items o = absurd (one_none b o)
blocks_from (lays_domain l) o = blocks_from l o
blocks_from (lays_class h l) o = let i = blocks_from l o in omega (arith, i)
blocks_from {n = n} {b = b} (lays_block {ms = ms} h l) o = elim (one_cases n ms b o) [
  | inl e ↦ omega (arith, e)
  | inr r ↦ (let i = blocks_from l r in omega (arith, i))
]

-- and their bodies stand behind those of the first item
record Shifted (n b : ℕ) (bs cs : List TextBody) (x : TextBody) : Type 0 where
  place : ℕ
  stands : Stands cs place x
  number : b ≡ n + 1 + length bs + place

shifted : (n b i : ℕ) (a : TextBody) (bs cs : List TextBody) (x : TextBody) → n + 1 + length bs ≤ b → b ≡ n + i
    → Stands (a ∷ bs ++ cs) i x → Shifted n b bs cs x
shifted n b zero a bs cs x l e s = absurd (omega (arith, l, e))
shifted n b (suc i) a bs cs x l e s = elim (stands_split bs cs i x s) [
  | inl p ↦ (let w = stands_within bs i x p in absurd (omega (arith, l, e, w)))
  | inr p ↦ (let q = p.1 in record { place = p.0; stands = p.2; number = omega (arith, e, q) })
]

-- a block is the first one or one behind it
data IsAt (n : ℕ) (a : TextBody) (bs cs : List TextBody) (ms : List ℕ) (b : ℕ) (x : TextBody) : Type 0 where
  first : n ≡ b → a ≡ x → IsAt n a bs cs ms b x
  behind : IsOneOf ms b → Shifted n b bs cs x → IsAt n a bs cs ms b x

first_body : (a x : TextBody) (bs : List TextBody) (n b i : ℕ) → n ≡ b → b ≡ n + i → Stands (a ∷ bs) i x → a ≡ x
first_body a x bs n b zero e f s = cc
first_body a x bs n b (suc i) e f s = absurd (omega (arith, e, f))

block_at : {n b : ℕ} {items : List Item} {cs : List TextBody} {ts : List (ℕ × NamedType)} {ms : List ℕ} (a : TextBody)
    (bs : List TextBody) → Lays_items (n + 1 + length bs) items cs ts ms → IsOneOf (n ∷ ms) b → (i : ℕ) (x : TextBody)
    → b ≡ n + i → Stands (a ∷ bs ++ cs) i x → IsAt n a bs cs ms b x
block_at {n = n} {b = b} {cs = cs} {ms = ms} a bs l o i x e s = elim (one_cases n ms b o) [
  | inl f ↦ first f (first_body a x (bs ++ cs) n b i f e s)
  | inr r ↦ behind r (shifted n b i a bs cs x (blocks_from l r) e s)
]

-- a block's body has the name of an item
record ItemOf (items : List Item) (x : TextBody) : Type 0 where
  place : ℕ
  item : Item
  stands : Stands items place item
  name : (item_name item).n ≡ x.name.n

item_after : {items : List Item} {x : TextBody} (y : Item) → ItemOf items x → ItemOf (y ∷ items) x
item_after y i = record { place = suc i.place; item = i.item; stands = i.stands; name = i.name }

item_of : {n b : ℕ} {items : List Item} {bs : List TextBody} {ts : List (ℕ × NamedType)} {ms : List ℕ}
    → Lays_items n items bs ts ms → IsOneOf ms b → (i : ℕ) (x : TextBody) → b ≡ n + i → Stands bs i x → ItemOf items x
item_of {b = b} no_items o i x e s = absurd (one_none b o)
item_of (lays_domain l) o i x e s = item_after _ (item_of l o i x e s)
item_of {n = n} {b = b} (lays_class {bs = bs} {cs = cs} h l) o i x e s =
    let p = shifted n b i _ bs cs x (blocks_from l o) e s in
    item_after _ (item_of l o p.place x p.number p.stands)
item_of (lays_block {bs = bs} h l) o i x e s = elim (block_at _ bs l o i x e s) [
  | first f g ↦ record { place = zero; item = _; stands = refl; name = ap (λ (z : TextBody). z.name.n) g }
  | behind r p ↦ item_after _ (item_of l r p.place x p.number p.stands)
]

-- no item has the name of an earlier one
earlier_name : (x : Item) (items : List Item) (y : TextBody) → HaveNames (x ∷ items) → ItemOf items y
    → (item_name x).n ≡ y.name.n → ⊥
earlier_name x items y a i e = a.apart zero (suc i.place) x i.item (omega arith) refl i.stands (e ∙ sym i.name)

-- two blocks of one name are one
one_block : {n b c : ℕ} {items : List Item} {bs : List TextBody} {ts : List (ℕ × NamedType)} {ms : List ℕ}
    → Lays_items n items bs ts ms → HaveNames items → IsOneOf ms b → IsOneOf ms c → (i j : ℕ) (x y : TextBody)
    → b ≡ n + i → c ≡ n + j → Stands bs i x → Stands bs j y → x.name.n ≡ y.name.n → b ≡ c
one_block {b = b} no_items a o p i j x y e f s t same = absurd (one_none b o)
one_block (lays_domain l) a o p i j x y e f s t same = one_block l (names_rest _ _ a) o p i j x y e f s t same
one_block {n = n} {b = b} {c = c} (lays_class {bs = bs} {cs = cs} h l) a o p i j x y e f s t same =
    let q = shifted n b i _ bs cs x (blocks_from l o) e s in
    let r = shifted n c j _ bs cs y (blocks_from l p) f t in
    one_block l (names_rest _ _ a) o p q.place r.place x y q.number r.number q.stands r.stands same
one_block (lays_block {items = items} {bs = bs} h l) a o p i j x y e f s t same = elim (block_at _ bs l o i x e s) [
  | first d g ↦ elim (block_at _ bs l p j y f t) [
    | first k q ↦ sym d ∙ k
    | behind w r ↦ absurd (earlier_name _ items y a (item_of l w r.place y r.number r.stands)
        (ap (λ (z : TextBody). z.name.n) g ∙ same))
  ]
  | behind v q ↦ elim (block_at _ bs l p j y f t) [
    | first k g ↦ absurd (earlier_name _ items x a (item_of l v q.place x q.number q.stands)
        (ap (λ (z : TextBody). z.name.n) g ∙ sym same))
    | behind w r ↦
        one_block l (names_rest _ _ a) v w q.place r.place x y q.number r.number q.stands r.stands same
  ]
]

-- the main block
pub main_one : (model : Model) (names : List (List ℕ)) (d : Declared) (main : Option (List ℕ)) → IsDeclared model d
    → AreDifferent names → AreKept text_rules (BreaksTextRule model main d) → (b c : ℕ) → IsMain names d main b
    → IsMain names d main c → b ≡ c
main_one model names d _ is different k b c (named {text = text} x o s t) (named y p r u) =
    one_block is.items (record {
      apart = λ i j v w less e f g. k.kept 1 _ (record { place = zero; stands = refl })
          (l1 (one_name i j v w less e f g));
    }) o p b c x y (omega arith) (omega arith) s r
    (different.one x.name.n y.name.n text t u)
main_one model names d _ is different k b c (last front e) (last rest f) = (last_one front rest b c (sym e ∙ f)).1
