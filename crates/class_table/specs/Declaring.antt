-- What a model declares: its bodies in the order of their headings, its types, its symbols, and its top-level blocks.
use Rattle.std.specs.Prelude.{◌≡◌, ℕ, ◌+◌, Bool, true, false, List, [], ◌∷◌, ◌++◌, map, length}
use Rattle.std.specs.List.{flat_map}
use Rattle.ar_base.specs.Lists.{IsOneOf, HasNo}
use Rattle.ar_base.specs.Numbers.{NameId, BodyId}
use Rattle.ar_base.specs.declared.places.Place.{Place}
use Rattle.ar_syntax.specs.declared.items.DomainBody.{DomainBody}
use Rattle.ar_syntax.specs.declared.items.DomainBody.TheVariants as body
use Rattle.ar_syntax.specs.declared.items.Item.{Item}
use Rattle.ar_syntax.specs.declared.items.Item.TheVariants as item
use Rattle.ar_syntax.specs.declared.items.DomainDecl.{DomainDecl}
use Rattle.ar_syntax.specs.declared.items.Model.{Model}
use Rattle.ar_syntax.specs.declared.members.Member.{Member, out-Member}
use Rattle.ar_syntax.specs.declared.members.Member.TheOpen.{Member-F}
use Rattle.ar_syntax.specs.declared.members.Member.TheOpen as member
use Rattle.ar_syntax.specs.declared.members.Unit.{Unit as UnitTree}
use Rattle.class_table.specs.declared.tables.Owned.{Owned}
use Rattle.class_table.specs.declared.tables.Owned.TheVariants.{Plain, Nested}

-- a member with its outermost form in view
abbrev pub MemberForm : Type 0
MemberForm = Member-F Member UnitTree

-- the body of a class or block as the text has it: its name, where the name stands, and the members that stand in it
pub record TextBody : Type 0 where
  pub name : NameId
  pub at : Place
  pub own : List Owned

-- what the name of a type is declared to be: a domain, or the class with this body
pub data NamedType : Type 0 where
  DomainType : DomainBody → NamedType
  ClassType : ℕ → NamedType

-- what a model declares: the bodies, the types by the numbers of their names, the symbols by the numbers of their
-- names, and the bodies of the top-level blocks
pub record Declared : Type 0 where
  pub bodies : List TextBody
  pub types : List (ℕ × NamedType)
  pub symbols : List ℕ
  pub blocks : List ℕ

-- Bodies

-- the member is a block
abbrev pub is_block : MemberForm → Bool
is_block (member.Block u) = true
is_block _ = false

mutual
  -- where n is the next free number, these members of a body are kept so, and the blocks among them have these bodies
  pub data Lays : ℕ → List Member → List Owned → List TextBody → Type 0 where
    none : {n : ℕ} → Lays n [] [] []
    one_and : {n : ℕ} {m : Member} {ms : List Member} {o : Owned} {os : List Owned} {bs cs : List TextBody}
        → Lays_one n m (out-Member m) o bs
        → Lays (n + length bs) ms os cs → Lays n (m ∷ ms) (o ∷ os) (bs ++ cs)

  -- a block has the next number and the blocks in it the numbers after that; any other member stays as it is
  pub data Lays_one : ℕ → Member → MemberForm → Owned → List TextBody → Type 0 where
    plain : {n : ℕ} {m : Member} {f : MemberForm} → is_block f ≡ false → Lays_one n m f (Plain m) []
    block : {n : ℕ} {m : Member} {u : UnitTree} {id : BodyId} {own : List Owned} {bs : List TextBody} → id.n ≡ n
        → Lays (n + 1) u.members.items own bs
        → Lays_one n m (member.Block u) (Nested u.name u.at id) (record { name = u.name; at = u.at; own = own } ∷ bs)

-- Symbols

-- the symbols that an item declares, by the numbers of their names
abbrev pub symbols_in : DomainBody → List ℕ
symbols_in (body.Symbols names) = map (λ (n : NameId × Place). n.0.n) names.items
symbols_in (body.Range low high) = []

abbrev pub symbols_of : Item → List ℕ
symbols_of (item.Domain d) = symbols_in d.body
symbols_of (item.Class u) = []
symbols_of (item.Block u) = []

-- the list with the numbers that are used, each where it is used first
pub data FirstUses : List ℕ → List ℕ → List ℕ → Type 0 where
  none : {old : List ℕ} → FirstUses old [] old
  known : {old xs new : List ℕ} {x : ℕ} → IsOneOf old x → FirstUses old xs new → FirstUses old (x ∷ xs) new
  first : {old xs new : List ℕ} {x : ℕ} → HasNo old (λ y. y ≡ x) → FirstUses (old ++ x ∷ []) xs new
      → FirstUses old (x ∷ xs) new

-- Items

-- where n is the next free number, the bodies of these items, the types that they declare, and the bodies of their
-- top-level blocks
pub data Lays_items : ℕ → List Item → List TextBody → List (ℕ × NamedType) → List ℕ → Type 0 where
  none : {n : ℕ} → Lays_items n [] [] [] []
  domain : {n : ℕ} {d : DomainDecl} {items : List Item} {bs : List TextBody} {ts : List (ℕ × NamedType)} {ms : List ℕ}
      → Lays_items n items bs ts ms → Lays_items n (item.Domain d ∷ items) bs ((d.name.n, DomainType d.body) ∷ ts) ms
  class : {n : ℕ} {u : UnitTree} {own : List Owned} {items : List Item} {bs cs : List TextBody}
      {ts : List (ℕ × NamedType)} {ms : List ℕ}
      → Lays (n + 1) u.members.items own bs → Lays_items (n + 1 + length bs) items cs ts ms
      → Lays_items n (item.Class u ∷ items) (record { name = u.name; at = u.at; own = own } ∷ bs ++ cs)
      ((u.name.n, ClassType n) ∷ ts) ms
  block : {n : ℕ} {u : UnitTree} {own : List Owned} {items : List Item} {bs cs : List TextBody}
      {ts : List (ℕ × NamedType)} {ms : List ℕ}
      → Lays (n + 1) u.members.items own bs → Lays_items (n + 1 + length bs) items cs ts ms
      → Lays_items n (item.Block u ∷ items) (record { name = u.name; at = u.at; own = own } ∷ bs ++ cs) ts (n ∷ ms)

-- this is what the model declares
pub record IsDeclared (model : Model) (d : Declared) : Type 0 where
  pub symbols : FirstUses [] (flat_map symbols_of model.items.items) d.symbols
  pub items : Lays_items 0 model.items.items d.bodies d.types d.blocks
