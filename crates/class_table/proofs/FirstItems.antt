-- The parts of rule L1.
use Rattle.std.proofs.Common.{◌≡◌, ℕ, ℤ, ◌+◌, ◌≤◌, ◌⊎◌, ◌↔◌, IsTrue, Bool, true, is_some, List, [], ◌∷◌, ◌++◌, map, take, length, Vec, Option, Some, None, refl, sym, ◌∙◌, ap, subst, inl, inr, arith}
use Rattle.std.specs.Global.{Global}
use Rattle.ar_base.specs.Lists.{Stands, IsOneOf}
use Rattle.ar_base.specs.Numbers.{NameId}
use Rattle.ar_base.specs.declared.places.Place.{Place}
use Rattle.ar_base.proofs.Standing.{stands_map, stands_map_back, one_here}
use Rattle.ar_base.proofs.Comparing.{not_before}
use Rattle.ar_syntax.specs.declared.items.DomainBody.{DomainBody}
use Rattle.ar_syntax.specs.declared.items.DomainBody.TheVariants as body
use Rattle.ar_syntax.specs.declared.items.Item.{Item}
use Rattle.ar_syntax.specs.declared.items.Item.TheVariants as item
use Rattle.ar_syntax.specs.declared.items.DomainDecl.{DomainDecl}
use Rattle.class_table.specs.Earliest.{IsEarliest, nowhere, there}
use Rattle.class_table.specs.Names.{name_and_place}
use Rattle.class_table.specs.Repeating.{IsRepeated, HasMet}
use Rattle.class_table.specs.declared.repeats.Repeats.{Repeats}
use Rattle.class_table.specs.Rules.{IsNoDomain, twice, many, turned, wide, BreaksItems, one_name, no_domain}
use Rattle.class_table.specs.Items.{IsNoneAt, IsNoDomainItem, HasNoDomain, IsNoRange, AreNoSymbols, item_pair}
use Rattle.class_table.proofs.Taken.{map_next}
use Rattle.class_table.proofs.Looping.{AtItem}

-- something was found where there is something
pub found_tells : {P : Place → Type 0} (f : Option Place) → IsEarliest P f → (is_some f ≡ true) ↔ ((p : Place) × P p)
found_tells f (nowhere h) = (λ e. cc, λ w. absurd (h w.0 w.1))
found_tells f (there {p = p} a h) = (λ e. (p, a), λ w. refl)

-- a list of symbols is tested
pub symbols_tell : (names : List (NameId × Place)) (f : Option Place) → length names ≤ 256
    → IsEarliest (IsRepeated (map name_and_place names)) f
    → (is_some f ≡ true) ↔ AreNoSymbols names
symbols_tell names f l h = let t = found_tells f h in (λ e. inr (t.0 e), λ n. by n)
  where
    by : AreNoSymbols names → is_some f ≡ true
    by (inl m) = absurd (omega (arith, m, l))
    by (inr w) = (found_tells f h).1 w

no_symbols_to : (names : Vec (NameId × Place) Global) → AreNoSymbols names.items → IsNoDomain (body.Symbols names)
no_symbols_to names (inl m) = many m
no_symbols_to names (inr w) =
    let r = w.1 in
    let a = stands_map_back name_and_place names.items r.j r.first r.is_first in
    let b = stands_map_back name_and_place names.items r.k r.later r.is_later in
    twice r.j r.k a.0 b.0 r.before a.1 b.1
    (ap (λ (n : ℕ × Place). n.0) a.2 ∙ (r.one_name ∙ sym (ap (λ (n : ℕ × Place). n.0) b.2)))

no_symbols_from : (names : Vec (NameId × Place) Global) → IsNoDomain (body.Symbols names) → AreNoSymbols names.items
no_symbols_from names (twice j k x y l p q e) = inr (
  y.1,
  record {
    j = j;
    k = k;
    first = name_and_place x;
    later = name_and_place y;
    before = l;
    is_first = stands_map name_and_place names.items j x p;
    is_later = stands_map name_and_place names.items k y q;
    one_name = e;
    place = refl;
  },
)
no_symbols_from names (many m) = inl m

-- the body is tested by its case
pub body_symbols : (b : DomainBody) (names : Vec (NameId × Place) Global) (r : Bool) → b ≡ body.Symbols names
    → (IsTrue r ↔ AreNoSymbols names.items) → IsTrue r ↔ IsNoDomain b
body_symbols b names r e t =
    subst (λ (z : DomainBody). IsTrue r ↔ IsNoDomain z) (sym e)
    (λ h. no_symbols_to names (t.0 h), λ n. t.1 (no_symbols_from names n))

no_range_from : (low high : ℤ) → IsNoDomain (body.Range low high) → IsNoRange low high
no_range_from low high (turned h) = inl h
no_range_from low high (wide h) = inr h

no_range_to : (low high : ℤ) → IsNoRange low high → IsNoDomain (body.Range low high)
no_range_to low high (inl h) = turned h
no_range_to low high (inr h) = wide h

pub body_range : (b : DomainBody) (low high : ℤ) (r : Bool) → b ≡ body.Range low high → (IsTrue r ↔ IsNoRange low high)
    → IsTrue r ↔ IsNoDomain b
body_range b low high r e t =
    subst (λ (z : DomainBody). IsTrue r ↔ IsNoDomain z) (sym e)
    (λ h. no_range_to low high (t.0 h), λ n. t.1 (no_range_from low high n))

-- the place of a domain that is none
pub none_there : (d : DomainDecl) → IsNoDomain d.body → IsEarliest (IsNoneAt d) (Some d.at)
none_there d n = there (record { is_none = n; at = refl }) (λ q e h. not_before q d.at e h.at)

pub none_nowhere : (d : DomainDecl) → (IsNoDomain d.body → ⊥) → IsEarliest (IsNoneAt d) None
none_nowhere d n = nowhere (λ p h. n h.is_none)

-- items by their cases
pub item_domain : (i : Item) (d : DomainDecl) (f : Option Place) → i ≡ item.Domain d → IsEarliest (IsNoneAt d) f
    → IsEarliest (IsNoDomainItem i) f
item_domain i d f e h = subst (λ (z : Item). IsEarliest (IsNoDomainItem z) f) (sym e) h

-- loops over items
pub none_to : (items : List Item) (k : ℕ) (i : Item) (p : Place) → Stands items k i → IsNoDomainItem i p
    → HasNoDomain items p
none_to items k i p s h = record { item = i; is_item = one_here items k i s; is_none = h }

pub none_back : (items : List Item) (p : Place) → HasNoDomain items p
    → (k : ℕ) × AtItem items (λ (k : ℕ) (i : Item). IsNoDomainItem i) k p
none_back items p h = (h.is_item.place, record { item = h.item; stands = h.is_item.stands; has = h.is_none })

-- one more name was met
pub met_next : {A : Type 0} (f : A → ℕ × Place) (r : Repeats) (xs : List A) (i : ℕ) (a : A) (x : ℕ) (at : Place)
    → Stands xs i a → x ≡ (f a).0 → at ≡ (f a).1
    → HasMet r (map f (take i xs) ++ (x, at) ∷ []) → HasMet r (map f (take (i + 1) xs))
met_next f r xs i a x at s e g h =
    let both : (x, at) ≡ f a = ap (λ (z : ℕ). (z, at)) e ∙ ap (λ (z : Place). ((f a).0, z)) g in
    subst (HasMet r) (ap (λ (n : ℕ × Place). map f (take i xs) ++ n ∷ []) both ∙ sym (map_next f xs i a s)) h

-- the rule is broken by a repeated name or by a domain that is none
pub items_to : (items : List Item) (p : Place) → IsRepeated (map item_pair items) p ⊎ HasNoDomain items p
    → BreaksItems items p
items_to items p (inl r) =
    let a = stands_map_back item_pair items r.j r.first r.is_first in
    let b = stands_map_back item_pair items r.k r.later r.is_later in
    subst (BreaksItems items) (sym (r.place ∙ sym (ap (λ (n : ℕ × Place). n.1) b.2)))
    (one_name r.j r.k a.0 b.0 r.before a.1 b.1
    (ap (λ (n : ℕ × Place). n.0) a.2 ∙ (r.one_name ∙ sym (ap (λ (n : ℕ × Place). n.0) b.2))))
items_to items p (inr h) = by h.item h.is_item h.is_none
  where
    by : (i : Item) → IsOneOf items i → IsNoDomainItem i p → BreaksItems items p
    by (item.Domain d) o n = subst (BreaksItems items) (sym n.at) (no_domain d o n.is_none)
    by (item.Class u) o n = absurd n
    by (item.Block u) o n = absurd n

pub items_back : (items : List Item) (p : Place) → BreaksItems items p
    → IsRepeated (map item_pair items) p ⊎ HasNoDomain items p
items_back items p (one_name j k x y l s t e) = inl (record {
  j = j;
  k = k;
  first = item_pair x;
  later = item_pair y;
  before = l;
  is_first = stands_map item_pair items j x s;
  is_later = stands_map item_pair items k y t;
  one_name = e;
  place = refl;
})
items_back items p (no_domain d o n) =
    inr (record { item = item.Domain d; is_item = o; is_none = record { is_none = n; at = refl } })
