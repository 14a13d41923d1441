-- Symbols that are numbered one after the other.
use Rattle.std.proofs.Common.{◌≡◌, ℕ, ◌<◌, ◌^◌, ◌⊎◌, Bool, cond, nat_eq, List, [], ◌∷◌, ◌++◌, map, length, Some, None, sym, ◌∙◌, ap, subst, inl, inr, eq-eqb, ne_eqb, arith}
use Rattle.std.proofs.lemmas.List.{length-append}
use Rattle.std.proofs.lemmas.Bool.{cases_eq}
use Rattle.std.specs.HashMap as hash
use Rattle.ar_base.specs.Lists.{Stands, IsOneOf, HasNo, AreDifferent, Along, none as along_none, one_and as along_and}
use Rattle.ar_base.specs.Numbers.{NameId}
use Rattle.ar_base.specs.declared.places.Place.{Place}
use Rattle.ar_base.proofs.Standing.{stands_left, stands_next, one_here, one_split, one_cases, one_none, only_item, different_more}
use Rattle.ar_base.proofs.Few.{few_below}
use Rattle.ar_syntax.specs.declared.items.DomainBody.{DomainBody}
use Rattle.ar_syntax.specs.declared.items.DomainBody.TheVariants as body
use Rattle.class_table.specs.Declaring.{FirstUses, none, known, first, NamedType, DomainType}
use Rattle.class_table.specs.Tables.{IsDomainOf, symbols, range}
use Rattle.class_table.specs.TablesInside.{IsTypeOf, domain, class, IsNamedType}
use Rattle.class_table.specs.Symbols.{AreNumberedSymbols, UsesMore, names_of_symbols}
use Rattle.class_table.specs.declared.symbols.Symbols.{Symbols}
use Rattle.class_table.specs.declared.tables.TypeBody.{TypeBody}
use Rattle.std.proofs.Common.{Vec, ℤ}
use Rattle.std.specs.Global.{Global}
use Rattle.class_table.specs.Declaring.{symbols_in}
use Rattle.class_table.specs.declared.tables.TypeBody.TheVariants as types
use Rattle.domains.specs.declared.Domain.{Domain}
use Rattle.domains.specs.declared.Domain.TheVariants as values
use Rattle.class_table.proofs.Laid.{along_append}

-- uses after others
pub uses_append : (old mid new xs ys : List ℕ) → FirstUses old xs mid → FirstUses mid ys new
    → FirstUses old (xs ++ ys) new
uses_append old mid new xs ys none k = k
uses_append old mid new xs ys (known {xs = zs} o h) k = known o (uses_append old mid new zs ys h k)
uses_append old mid new xs ys (first {xs = zs} {x = x} o h) k = first o (uses_append (old ++ x ∷ []) mid new zs ys h k)

-- a symbol keeps its place
pub uses_stand : (old new xs : List ℕ) → FirstUses old xs new → (k x : ℕ) → Stands old k x → Stands new k x
uses_stand old new xs none k x s = s
uses_stand old new xs (known {xs = zs} o h) k x s = uses_stand old new zs h k x s
uses_stand old new xs (first {xs = zs} {x = y} o h) k x s =
    uses_stand (old ++ y ∷ []) new zs h k x (stands_left old (y ∷ []) k x s)

-- a symbol that was there
pub number_known : (s : Symbols) (x k : ℕ) → hash.get nat_eq s.numbers x ≡ Some k → AreNumberedSymbols s
    → UsesMore (x ∷ []) s s × Stands (names_of_symbols s) k x
number_known s x k e h = (
  record { numbered = h; uses_of = known (one_here (names_of_symbols s) k x (h.at x k e)) none },
  h.at x
      k e,
)

-- a symbol that has no number is none of those that have one
lacks_new : (s : Symbols) (x : ℕ) → hash.get nat_eq s.numbers x ≡ None → AreNumberedSymbols s
    → HasNo (names_of_symbols s) (λ y. y ≡ x)
lacks_new s x e h =
    record { has_not = λ n y t i. h.all x e (subst (IsOneOf (names_of_symbols s)) i (one_here (names_of_symbols s) n y t)) }

-- where a symbol has no number, there is room for one
pub room_new : (s : Symbols) (x : ℕ) → hash.get nat_eq s.numbers x ≡ None → x < 2 ^ 32 → AreNumberedSymbols s
    → length (names_of_symbols s) < 2 ^ 32
room_new s x e w h =
    let l = few_below (2 ^ 32) (names_of_symbols s ++ x ∷ [])
    (different_more (names_of_symbols s) x h.different (lacks_new s x e h)) small in
    let m = length-append (names_of_symbols s) (x ∷ []) in
    omega (arith, l, m)
  where
    small : (y : ℕ) → IsOneOf (names_of_symbols s ++ x ∷ []) y → y < 2 ^ 32
    small y o = elim (one_split (names_of_symbols s) (x ∷ []) y o) [
      | inl p ↦ h.small y p
      | inr p ↦ subst (λ (z : ℕ). z < 2 ^ 32) (only_item x y p) w
    ]

-- a new symbol
pub number_new : (old new : Symbols) (x k : ℕ) → hash.get nat_eq old.numbers x ≡ None → k ≡ length (names_of_symbols old)
    → names_of_symbols new ≡ names_of_symbols old ++ x ∷ []
    → ((q : ℕ) → hash.get nat_eq new.numbers q ≡ cond (nat_eq x q) (Some k) (hash.get nat_eq old.numbers q))
    → x < 2 ^ 32 → AreNumberedSymbols old → UsesMore (x ∷ []) old new × Stands (names_of_symbols new) k x
number_new old new x k e l j u w h = (
  record { numbered = record { at = at; all = all; different = different; small = small }; uses_of = uses },
  here,
)
  where
    here : Stands (names_of_symbols new) k x
    here = subst (λ (xs : List ℕ). Stands xs k x) (sym j)
        (subst (λ (n : ℕ). Stands (names_of_symbols old ++ x ∷ []) n x) (sym l) (stands_next (names_of_symbols old) x []))

    is_new : (y : ℕ) → x ≡ y → hash.get nat_eq new.numbers y ≡ Some k
    is_new y i = u y ∙ ap (λ (b : Bool). cond b (Some k) (hash.get nat_eq old.numbers y)) (eq-eqb x y i)

    is_old : (y : ℕ) → (x ≡ y → ⊥) → hash.get nat_eq new.numbers y ≡ hash.get nat_eq old.numbers y
    is_old y n = u y ∙ ap (λ (b : Bool). cond b (Some k) (hash.get nat_eq old.numbers y)) (ne_eqb x y n)

    at : (y n : ℕ) → hash.get nat_eq new.numbers y ≡ Some n → Stands (names_of_symbols new) n y
    at y n f = by (cases_eq x y)
      where
        by : (x ≡ y) ⊎ (x ≡ y → ⊥) → Stands (names_of_symbols new) n y
        by (inl i) = let g = is_new y i in let m : k ≡ n = cc in subst (λ (z : ℕ). Stands (names_of_symbols new) n z) i (subst (λ (z : ℕ). Stands (names_of_symbols new) z x) m here)
        by (inr i) = subst (λ (xs : List ℕ). Stands xs n y) (sym j)
            (stands_left (names_of_symbols old) (x ∷ []) n y (h.at y n (sym (is_old y i) ∙ f)))

    all : (y : ℕ) → hash.get nat_eq new.numbers y ≡ None → IsOneOf (names_of_symbols new) y → ⊥
    all y f o = by (cases_eq x y) (one_split (names_of_symbols old) (x ∷ []) y (subst (λ (xs : List ℕ). IsOneOf xs y) j o))
      where
        by : (x ≡ y) ⊎ (x ≡ y → ⊥) → IsOneOf (names_of_symbols old) y ⊎ IsOneOf (x ∷ []) y → ⊥
        by (inl i) o = let g = is_new y i in cc
        by (inr i) (inl p) = h.all y (sym (is_old y i) ∙ f) p
        by (inr i) (inr p) = elim (one_cases x [] y p) [ inl q ↦ i q | inr q ↦ one_none y q ]

    lacks : HasNo (names_of_symbols old) (λ y. y ≡ x)
    lacks = lacks_new old x e h

    different : AreDifferent (names_of_symbols new)
    different = subst AreDifferent (sym j) (different_more (names_of_symbols old) x h.different lacks)

    small : (y : ℕ) → IsOneOf (names_of_symbols new) y → y < 2 ^ 32
    small y o = by (one_split (names_of_symbols old) (x ∷ []) y (subst (λ (xs : List ℕ). IsOneOf xs y) j o))
      where
        by : IsOneOf (names_of_symbols old) y ⊎ IsOneOf (x ∷ []) y → y < 2 ^ 32
        by (inl p) = h.small y p
        by (inr p) = subst (λ (z : ℕ). z < 2 ^ 32) (only_item x y p) w

    uses : FirstUses (names_of_symbols old) (x ∷ []) (names_of_symbols new)
    uses = first lacks
        (subst (λ (xs : List ℕ). FirstUses (names_of_symbols old ++ x ∷ []) [] xs) (sym j) none)

-- the numbers of the symbols of a declaration so far
pub numbers_next : (a b c : Symbols) (xs : List ℕ) (ns : List (NameId × Place)) (ks ks' : List ℕ) (n : NameId × Place)
    (k : ℕ) → ks' ≡ ks ++ k ∷ []
    → UsesMore xs a b × Along (λ (m : NameId × Place) (i : ℕ). Stands (names_of_symbols b) i m.0.n) ns ks
    → UsesMore (n.0.n ∷ []) b c × Stands (names_of_symbols c) k n.0.n
    → UsesMore (xs ++ n.0.n ∷ []) a c × Along (λ (m : NameId × Place) (i : ℕ). Stands (names_of_symbols c) i m.0.n)
    (ns ++ n ∷ []) ks'
numbers_next a b c xs ns ks ks' n k e h g = (
  record {
    numbered = g.0.numbered;
    uses_of = uses_append (names_of_symbols a) (names_of_symbols b) (names_of_symbols c) xs (n.0.n ∷ [])
        h.0.uses_of g.0.uses_of;
  },
  subst (Along (λ (m : NameId × Place) (i : ℕ). Stands (names_of_symbols c) i m.0.n) (ns ++ n ∷ [])) (sym e)
      (along_append ns ks (n ∷ []) (k ∷ []) (later ns ks h.1) (along_and g.1 along_none)),
)
  where
    later : (ms : List (NameId × Place)) (is : List ℕ)
        → Along (λ (m : NameId × Place) (i : ℕ). Stands (names_of_symbols b) i m.0.n) ms is
        → Along (λ (m : NameId × Place) (i : ℕ). Stands (names_of_symbols c) i m.0.n) ms is
    later ms is along_none = along_none
    later ms is (along_and {a = m} {b = i} {xs = ns} {ys = js} s t) =
        along_and (uses_stand (names_of_symbols b) (names_of_symbols c) (n.0.n ∷ []) g.0.uses_of i m.0.n s) (later ns js t)

-- a type keeps the numbers of its symbols
pub types_later : (old new xs : List ℕ) → FirstUses old xs new
    → (ts : List (NameId × TypeBody)) (ds : List (ℕ × NamedType)) → Along (IsNamedType old) ts ds
    → Along (IsNamedType new) ts ds
types_later old new xs u ts ds along_none = along_none
types_later old new xs u ts ds (along_and {a = t} {b = d} {xs = us} {ys = es} h r) =
    along_and (record { name = h.name; is_type = one t.1 d.1 h.is_type }) (types_later old new xs u us es r)
  where
    numbers : (ms : List (NameId × Place)) (is : List ℕ)
        → Along (λ (m : NameId × Place) (i : ℕ). Stands old i m.0.n) ms is
        → Along (λ (m : NameId × Place) (i : ℕ). Stands new i m.0.n) ms is
    numbers ms is along_none = along_none
    numbers ms is (along_and {a = m} {b = i} {xs = ns} {ys = js} s q) =
        along_and (uses_stand old new xs u i m.0.n s) (numbers ns js q)

    values : (b : DomainBody) (v : Domain) → IsDomainOf old b v → IsDomainOf new b v
    values b v (symbols {names = ns} {numbers = ks} a) = symbols (numbers ns.items ks.items a)
    values b v range = range

    one : (t : TypeBody) (d : NamedType) → IsTypeOf old d t → IsTypeOf new d t
    one t d (domain {declared = b} {v = v} k) = domain (values b v k)
    one t d (class e) = class e

pub numbers_start : (s : Symbols) (ks : List ℕ) → ks ≡ [] → AreNumberedSymbols s
    → UsesMore [] s s × Along (λ (m : NameId × Place) (i : ℕ). Stands (names_of_symbols s) i m.0.n) [] ks
numbers_start s ks e h = (
  record { numbered = h; uses_of = none },
  subst
      (Along (λ (m : NameId × Place) (i : ℕ). Stands (names_of_symbols s) i m.0.n) []) (sym e) along_none,
)

-- the type of a declaration
pub domain_symbols : (s t : Symbols) (b : DomainBody) (names : Vec (NameId × Place) Global) (numbers : Vec ℕ Global)
    → b ≡ body.Symbols names
    → UsesMore (map (λ (n : NameId × Place). n.0.n) names.items) s t
    × Along (λ (m : NameId × Place) (i : ℕ). Stands (names_of_symbols t) i m.0.n) names.items numbers.items
    → UsesMore (symbols_in b) s t × IsTypeOf (names_of_symbols t) (DomainType b) (types.Domain (values.Symbols numbers))
domain_symbols s t b names numbers e h =
    subst (λ (z : DomainBody). UsesMore (symbols_in z) s t
    × IsTypeOf (names_of_symbols t) (DomainType z) (types.Domain (values.Symbols numbers))) (sym e)
    (h.0, domain (symbols h.1))

pub domain_range : (s : Symbols) (b : DomainBody) (low high : ℤ) → b ≡ body.Range low high → AreNumberedSymbols s
    → UsesMore (symbols_in b) s s × IsTypeOf (names_of_symbols s) (DomainType b) (types.Domain (values.Range low high))
domain_range s b low high e h =
    subst (λ (z : DomainBody). UsesMore (symbols_in z) s s
    × IsTypeOf (names_of_symbols s) (DomainType z) (types.Domain (values.Range low high))) (sym e)
    (record { numbered = h; uses_of = none }, domain range)
