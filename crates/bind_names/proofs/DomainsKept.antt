-- The domains of types, where the model keeps the rules over its whole text.
use Rattle.std.proofs.Common.{◌≡◌, ◌≢◌, ℕ, ◌<◌, ◌≤◌, ◌==◌, ℤ, pos, ◌+ℤ◌, ◌<ℤ◌, ◌≤ℤ◌, nat_lt, int_lt, if◌then◌else◌, Bool, true, false, List, [], ◌∷◌, length, get_or, Vec, Contains, AllPairs, Option, Some, None, option_and_then, refl, sym, ap, subst, arith}
use Rattle.std.specs.Global.{Global}
use Rattle.std.proofs.lemmas.Bool.Decides.{nat_tests}
use Rattle.std.proofs.lemmas.Int.{ints}
use Rattle.std.proofs.lemmas.List.{length-map}
use Rattle.ar_base.specs.Lists.{Stands, IsOneOf, Along}
use Rattle.ar_base.specs.Numbers.{NameId}
use Rattle.ar_base.specs.declared.places.Place.{Place}
use Rattle.ar_base.proofs.Standing.{stands_get, stands_one, stands_within, one_first, one_rest, along_back, along_length, one_contains}
use Rattle.ar_syntax.specs.declared.items.DomainBody.{DomainBody}
use Rattle.ar_syntax.specs.declared.items.DomainBody.TheVariants as body
use Rattle.ar_syntax.specs.declared.items.DomainDecl.{DomainDecl}
use Rattle.ar_syntax.specs.declared.items.Item.{Item}
use Rattle.ar_syntax.specs.declared.items.Item.TheVariants as item
use Rattle.ar_syntax.specs.declared.members.TypeForm.{TypeForm}
use Rattle.domains.specs.Domains.{IsDomain, Holds}
use Rattle.domains.specs.declared.Domain.{Domain}
use Rattle.domains.specs.declared.Domain.TheVariants.{Symbols}
use Rattle.domains.specs.declared.Value.{Value}
use Rattle.domains.specs.declared.Value.TheVariants as value
use Rattle.class_table.specs.Declaring.{TextBody, NamedType, DomainType, ClassType, Declared, Lays_items}
use Rattle.class_table.specs.Declaring.Lays_items.{none, domain, class, block}
use Rattle.class_table.specs.Members.{type_in, type_named, domain_body, domain_named}
use Rattle.class_table.specs.Rules.{IsNoDomain, twice, many, wide, no_domain, l1}
use Rattle.class_table.specs.Tables.{IsDomainOf, symbols, range}
use Rattle.class_table.specs.TablesInside.{HoldsDeclared}
use Rattle.hierarchy.specs.Models.{RootedModel}
use Rattle.hierarchy.specs.ModelsInside.{KeepsTextRules}
use Rattle.hierarchy.specs.TypeDomains.{HasDomain, boolean, named}
use Rattle.hierarchy.specs.declared.tree.Tree.{Tree}
use Rattle.bind_names.specs.Typed.{IsSymbolIn}

-- Domains are declared by items

-- the domain is that of one of these items
record IsOfItem (items : List Item) (b : DomainBody) : Type 0 where
  pub decl : DomainDecl
  pub is_one : IsOneOf items (item.Domain decl)
  pub body : decl.body ≡ b

of_later : {items : List Item} {b : DomainBody} (x : Item) → IsOfItem items b → IsOfItem (x ∷ items) b
of_later {items = items} x h = record
    { decl = h.decl; is_one = one_rest x items (item.Domain h.decl) h.is_one; body = h.body }

-- the domain of a name is that of an item
declared_by : {n : ℕ} {items : List Item} {bs : List TextBody} {ts : List (ℕ × NamedType)} {ms : List ℕ}
    → Lays_items n items bs ts ms → (x : ℕ) (b : DomainBody)
    → type_in ts x ≡ Some (DomainType b) → IsOfItem items b
declared_by none x b e = cc
declared_by (domain {d = d} {items = items} {ts = ts} h) x b e = by (d.name.n == x) e (λ f. declared_by h x b f)
  where
    by : (t : Bool) → (if t then Some (DomainType d.body) else type_in ts x) ≡ Some (DomainType b)
        → (type_in ts x ≡ Some (DomainType b) → IsOfItem items b) → IsOfItem (item.Domain d ∷ items) b
    by true f more = record { decl = d; is_one = one_first (item.Domain d) items; body = cc }
    by false f more = of_later (item.Domain d) (more f)
declared_by (class {n = n} {u = u} {items = items} {ts = ts} g h) x b e =
    by (u.name.n == x) e (λ f. declared_by h x b f)
  where
    by : (t : Bool) → (if t then Some (ClassType n) else type_in ts x) ≡ Some (DomainType b)
        → (type_in ts x ≡ Some (DomainType b) → IsOfItem items b) → IsOfItem (item.Class u ∷ items) b
    by true f more = cc
    by false f more = of_later (item.Class u) (more f)
declared_by (block {u = u} g h) x b e = of_later (item.Block u) (declared_by h x b e)

-- a name with a domain is that of a type which is one
domain_type : (t : Option NamedType) (b : DomainBody) → option_and_then domain_body t ≡ Some b → t ≡ Some (DomainType b)
domain_type None b e = cc
domain_type (Some (DomainType c)) b e = let q : c ≡ b = cc in ap (λ (z : DomainBody). Some (DomainType z)) q
domain_type (Some (ClassType n)) b e = cc

-- the body of a domain keeps the rule of items
module _ {m : RootedModel} (kept : KeepsTextRules m) where
  body_kept : (x : ℕ) (b : DomainBody) → domain_named m.declared x ≡ Some b → IsNoDomain b → ⊥
  body_kept x b e n =
      let w = declared_by kept.rooted.declared.items x b (domain_type (type_named m.declared x) b e) in
      kept.kept.kept 1 w.decl.at (one_first 1 (2 ∷ 3 ∷ 4 ∷ 5 ∷ []))
      (l1 (no_domain w.decl w.is_one (subst IsNoDomain (sym w.body) n)))

-- Domains of bodies that keep the rule

not_below : (a b : ℕ) → (a < b → ⊥) → b ≤ a
not_below a b n = by (nat_lt a b) refl
  where
    by : (t : Bool) → nat_lt a b ≡ t → b ≤ a
    by true e = absurd (n (grind (arith, nat_tests)))
    by false e = grind (arith, nat_tests)

not_wide : (low high : ℤ) → ((low +ℤ pos 255) <ℤ high → ⊥) → high <ℤ (low +ℤ pos 256)
not_wide low high n = by (int_lt (low +ℤ pos 255) high) refl
  where
    by : (t : Bool) → int_lt (low +ℤ pos 255) high ≡ t → high <ℤ (low +ℤ pos 256)
    by true e = absurd (n (grind (arith, ints)))
    by false e = grind (arith, ints)

ends_in_order : (low high n : ℤ) → low ≤ℤ n → n ≤ℤ high → low ≤ℤ high
ends_in_order low high n h k = omega (arith, ints)

module _ (all : List ℕ) (names : Vec (NameId × Place) Global) (numbers : Vec ℕ Global)
    (along : Along (λ (n : NameId × Place) (k : ℕ). Stands all k n.0.n) names.items numbers.items) where
  -- one number is one name
  apart : (IsNoDomain (body.Symbols names) → ⊥) → AllPairs (λ (a b : ℕ). a ≢ b) numbers.items
  apart right i j d below inside e =
      let within : i < length numbers.items = omega (arith, below, inside) in
      let v = along_back names.items numbers.items along i (get_or numbers.items i d)
      (stands_get numbers.items i d within) in
      let w = along_back names.items numbers.items along j (get_or numbers.items j d)
      (stands_get numbers.items j d inside) in
      let same = stands_one all (get_or numbers.items j d) v.0.0.n w.0.0.n
      (subst (λ (k : ℕ). Stands all k v.0.0.n) e v.2) w.2 in
      right (twice i j v.0 w.0 below v.1 w.1 same)

  symbols_right : (IsNoDomain (body.Symbols names) → ⊥) → (v : Value) → Holds (Symbols numbers) v
      → IsDomain (Symbols numbers)
  symbols_right right (value.Truth t) h = absurd h
  symbols_right right (value.Whole n) h = absurd h
  symbols_right right (value.Symbol s) (k, l, e) =
      let few = not_below 256 (length names.items) (λ more. right (many more)) in
      let n = along_length names.items numbers.items along in
      (omega (arith, l), omega (arith, few, n), apart right)

  -- its symbols are among those
  symbols_among : (s : ℕ) → Contains numbers.items s → s < length all
  symbols_among s h =
      let o = one_contains numbers.items s h in
      let w = along_back names.items numbers.items along o.place s o.stands in
      stands_within all s w.0.0.n w.2

body_right : (all : List ℕ) (b : DomainBody) (d : Domain) → IsDomainOf all b d → (IsNoDomain b → ⊥) → (v : Value)
    → Holds d v → IsDomain d
body_right all b d (symbols {names = names} {numbers = numbers} h) right v is =
    symbols_right all names numbers h right v is
body_right all b d range right (value.Truth t) is = absurd is
body_right all b d (range {low = low} {high = high}) right (value.Whole n) is =
    (ends_in_order low high n is.0 is.1, not_wide low high (λ more. right (wide more)))
body_right all b d range right (value.Symbol s) is = absurd is

-- a domain that has a value is one, in a model that keeps the rule of items
pub domain_kept : {m : RootedModel} → KeepsTextRules m → {type : TypeForm} {d : Domain} → HasDomain m.declared type d
    → (v : Value) → Holds d v → IsDomain d
domain_kept kept boolean v is = tt
domain_kept {m = m} kept {d = d} (named {x = x} {declared = b} e h) v is =
    body_right m.declared.symbols b d h (body_kept kept x.n b e) v is

-- Symbols

-- the symbols of a domain are those of the model
module _ (declared : Declared) (tree : Tree) (holds : HoldsDeclared declared tree.classes) where
  symbol_in : (s : ℕ) → s < length declared.symbols → s < length tree.classes.symbols.items
  symbol_in s l =
      let e = ap length holds.symbols in
      let n = length-map tree.classes.symbols.items (λ (x : NameId). x.n) in
      omega (arith, l, e, n)

  body_symbols : (b : DomainBody) (d : Domain) → IsDomainOf declared.symbols b d → (v : Value) → Holds d v
      → IsSymbolIn tree v
  body_symbols b d (symbols h) (value.Truth t) is = tt
  body_symbols b d (symbols h) (value.Whole n) is = tt
  body_symbols b d (symbols {names = names} {numbers = numbers} h) (value.Symbol s) is =
      symbol_in s (symbols_among declared.symbols names numbers h s is)
  body_symbols b d range (value.Truth t) is = tt
  body_symbols b d range (value.Whole n) is = tt
  body_symbols b d range (value.Symbol s) is = absurd is

  pub domain_symbols : {type : TypeForm} {d : Domain} → HasDomain declared type d → (v : Value) → Holds d v
      → IsSymbolIn tree v
  domain_symbols boolean (value.Truth t) is = tt
  domain_symbols boolean (value.Whole n) is = tt
  domain_symbols boolean (value.Symbol s) is = absurd is
  domain_symbols {d = d} (named {declared = b} e h) v is = body_symbols b d h v is
