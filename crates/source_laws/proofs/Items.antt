-- Models that agree declare tables that agree.
use Rattle.std.proofs.Common.{◌≡◌, ℕ, ◌+◌, List, [], ◌∷◌, ◌++◌, map, length, refl, sym, ap, subst, ◌∙◌}
use Rattle.std.specs.List.{flat_map}
use Rattle.ar_base.specs.Lists.{Along}
use Rattle.ar_base.specs.Lists as along
use Rattle.ar_base.specs.Numbers.{NameId}
use Rattle.ar_base.specs.declared.places.Place.{Place}
use Rattle.parser_laws.specs.Members.{SameMember}
use Rattle.parser_laws.specs.Models.{SameDomain, symbols, range, SameItem, domains, classes, blocks, SameModel}
use Rattle.parser_laws.specs.Opened.{SameKind}
use Rattle.ar_syntax.specs.declared.items.DomainBody.{DomainBody}
use Rattle.ar_syntax.specs.declared.items.Item.{Item}
use Rattle.ar_syntax.specs.declared.items.Item.TheVariants as item
use Rattle.ar_syntax.specs.declared.items.Model.{Model}
use Rattle.ar_syntax.specs.declared.members.Member.{Member, out-Member}
use Rattle.class_table.specs.Declaring.{TextBody, NamedType, DomainType, ClassType, Declared, symbols_in, symbols_of, FirstUses, Lays_items, IsDeclared}
use Rattle.class_table.specs.Declaring.Lays_items.{none as no_items, domain as lays_domain, class as lays_class, block as lays_block}
use Rattle.source_laws.specs.Tables.{SameText, SameNamedType, SameTable}
use Rattle.source_laws.specs.Views.{SameItems}
use Rattle.source_laws.specs.Views as same
use Rattle.source_laws.proofs.Laid.{along_long, along_joined, laid_there}

along_as : {A : Type 0} {R S : A → A → Type 0} → ((a b : A) → R a b → S a b) → {xs ys : List A} → Along R xs ys
    → Along S xs ys
along_as f along.none = along.none
along_as f (along.one_and {a = a} {b = b} r more) = along.one_and (f a b r) (along_as f more)

-- items that agree, kind by kind
pub viewed_item : (x y : Item) → SameItem x y → SameItems x y
viewed_item x y (domains d c e f s) =
    subst (λ (z : Item). SameItems z y) (sym e)
    (subst (λ (z : Item). SameItems (item.Domain d) z) (sym f) (same.domain s))
viewed_item x y (classes u w e f s) =
    subst (λ (z : Item). SameItems z y) (sym e)
    (subst (λ (z : Item). SameItems (item.Class u) z) (sym f) (same.class s))
viewed_item x y (blocks u w e f s) =
    subst (λ (z : Item). SameItems z y) (sym e)
    (subst (λ (z : Item). SameItems (item.Block u) z) (sym f) (same.block_item s))

-- Symbols

symbols_same : (x y : DomainBody) → SameDomain x y → symbols_in x ≡ symbols_in y
symbols_same x y (symbols v w e f i) =
    ap symbols_in e ∙ ap (map (λ (n : NameId × Place). n.0.n)) i ∙ sym (ap symbols_in f)
symbols_same x y (range e) = ap symbols_in e

item_symbols : {x y : Item} → SameItems x y → symbols_of x ≡ symbols_of y
item_symbols (same.domain {d = d} {c = c} s) = symbols_same d.body c.body s.body
item_symbols (same.class s) = refl
item_symbols (same.block_item s) = refl

all_symbols : {ms ns : List Item} → Along SameItems ms ns → flat_map symbols_of ms ≡ flat_map symbols_of ns
all_symbols along.none = refl
all_symbols (along.one_and {a = x} {b = y} {xs = ms} {ys = ns} s more) =
    ap (λ (z : List ℕ). z ++ flat_map symbols_of ms) (item_symbols s)
    ∙ ap (λ (z : List ℕ). symbols_of y ++ z) (all_symbols more)

-- Items

-- the items lay what agrees with these
record ItemsThere (n : ℕ) (ms : List Item) (bs : List TextBody) (ts : List (ℕ × NamedType)) (ks : List ℕ) : Type 0 where
  bodies : List TextBody
  types : List (ℕ × NamedType)
  lays : Lays_items n ms bodies types ks
  same_bodies : Along SameText bs bodies
  same_types : Along SameNamedType ts types

module _ (opens : (m n : Member) → SameMember m n → SameKind (out-Member m) (out-Member n)) where
  items_there : (n : ℕ) (ms ns : List Item) (bs : List TextBody) (ts : List (ℕ × NamedType)) (ks : List ℕ)
      → Along SameItems ms ns → Lays_items n ms bs ts ks → ItemsThere n ns bs ts ks
  items_there n [] [] bs ts ks along.none no_items =
      record { bodies = []; types = []; lays = no_items; same_bodies = along.none; same_types = along.none }
  items_there n [] (y ∷ ns) bs ts ks s no_items = elim s [ ]
  items_there n _ _ _ _ _ (along.one_and {xs = ms} {ys = ns} (same.domain {d = d} {c = c} s) more)
      (lays_domain {bs = bs} {ts = ts} {ms = ks} h) =
      let on = items_there n ms ns bs ts ks more h in
      record {
        bodies = on.bodies;
        types = (c.name.n, DomainType c.body) ∷ on.types;
        lays = lays_domain on.lays;
        same_bodies = on.same_bodies;
        same_types = along.one_and (ap (λ (z : NameId). z.n) s.name, s.body) on.same_types;
      }
  items_there n _ _ _ _ _ (along.one_and {xs = ms} {ys = ns} (same.class {u = u} {w = w} s) more)
      (lays_class {own = own} {bs = bs} {cs = cs} {ts = ts} {ms = ks} h rest) =
      let here = laid_there opens (n + 1) u.members.items w.members.items own bs s.members h in
      let on = items_there (n + 1 + length bs) ms ns cs ts ks more rest in
      record {
        bodies = record { name = w.name; at = w.at; own = here.own } ∷ here.bodies ++ on.bodies;
        types = (w.name.n, ClassType n) ∷ on.types;
        lays = lays_class here.lays
            (subst (λ (i : ℕ). Lays_items (n + 1 + i) ns on.bodies on.types ks) (along_long here.same_bodies) on.lays);
        same_bodies = along.one_and (record { name = s.name; place = s.place; own = here.same_own })
            (along_joined here.same_bodies on.same_bodies);
        same_types = along.one_and (ap (λ (z : NameId). z.n) s.name, refl) on.same_types;
      }
  items_there n _ _ _ _ _ (along.one_and {xs = ms} {ys = ns} (same.block_item {u = u} {w = w} s) more)
      (lays_block {own = own} {bs = bs} {cs = cs} {ts = ts} {ms = ks} h rest) =
      let here = laid_there opens (n + 1) u.members.items w.members.items own bs s.members h in
      let on = items_there (n + 1 + length bs) ms ns cs ts ks more rest in
      record {
        bodies = record { name = w.name; at = w.at; own = here.own } ∷ here.bodies ++ on.bodies;
        types = on.types;
        lays = lays_block here.lays
            (subst (λ (i : ℕ). Lays_items (n + 1 + i) ns on.bodies on.types ks) (along_long here.same_bodies) on.lays);
        same_bodies = along.one_and (record { name = s.name; place = s.place; own = here.same_own })
            (along_joined here.same_bodies on.same_bodies);
        same_types = on.same_types;
      }

  -- Models

  pub table_there : (one : (model : Model) (d e : Declared) → IsDeclared model d → IsDeclared model e → d ≡ e)
      → (m n : Model) (d e : Declared) → SameModel m n → IsDeclared m d → IsDeclared n e → SameTable d e
  table_there one m n d e s h k =
      let agree = along_as viewed_item s.items in
      let on = items_there 0 m.items.items n.items.items d.bodies d.types d.blocks agree h.items in
      let there : Declared =
      record { bodies = on.bodies; types = on.types; symbols = d.symbols; blocks = d.blocks } in
      let is : IsDeclared n there = record {
        symbols = subst (λ (z : List ℕ). FirstUses [] z d.symbols) (all_symbols agree) h.symbols;
        items = on.lays;
      } in
      let alike : SameTable d there =
      record { bodies = on.same_bodies; types = on.same_types; symbols = refl; blocks = refl } in
      subst (λ (z : Declared). SameTable d z) (one n there e is k) alike
