-- Values outside their domains.
use Rattle.std.proofs.Common.{◌≡◌, ℕ, ◌⊎◌, inl, inr, Bool, true, false, ℤ, ◌≤ℤ◌, int_lt, List, [], ◌∷◌, Contains, map, Option, Some, None, option_map, refl, sym, ◌∙◌, ap, subst, arith}
use Rattle.std.proofs.lemmas.Int.{ints}
use Rattle.ar_base.specs.Lists.{Stands, IsOneOf, AreDifferent, Along}
use Rattle.ar_base.specs.Lists as along
use Rattle.ar_base.specs.Breach.{IsEarlier}
use Rattle.ar_base.specs.declared.places.Place.{Place}
use Rattle.ar_base.proofs.Standing.{stands_none, stands_one, one_here, one_first, one_rest, along_on, different_more}
use Rattle.ar_base.proofs.Comparing.{not_before}
use Rattle.ar_syntax.specs.declared.expressions.RawExpr.{RawExpr}
use Rattle.ar_syntax.specs.declared.members.TypeForm.{TypeForm}
use Rattle.domains.specs.Domains.{Holds}
use Rattle.domains.specs.declared.Domain.{Domain}
use Rattle.domains.specs.declared.Domain.TheVariants.{Boolean, Symbols, Range}
use Rattle.domains.specs.declared.Value.{Value}
use Rattle.domains.specs.declared.Value.TheVariants.{Truth, Whole, Symbol}
use Rattle.domains.proofs.Members.{nothing-in, contains-head, contains-cons, contains-cases, contains-map, contains-from_map}
use Rattle.class_table.specs.Declaring.{Declared, FirstUses}
use Rattle.class_table.specs.Declaring.FirstUses.{none, known, first}
use Rattle.class_table.specs.Earliest.{IsEarliest, nowhere, there}
use Rattle.class_table.specs.Members.{NamedMember, MemberKind}
use Rattle.class_table.specs.Tables.{IsDomainOf, symbols, range}
use Rattle.class_table.proofs.FirstPlaces.{earliest_same}
use Rattle.class_table.proofs.Looping.{AtItem}
use Rattle.hierarchy.specs.Models.{RootedModel}
use Rattle.hierarchy.specs.ModelsInside.{KeepsTextRules}
use Rattle.hierarchy.specs.Units.{UnitPath, Thing, name_at, kind_at}
use Rattle.hierarchy.specs.Settings.{Attribute, in_force}
use Rattle.hierarchy.specs.Tie.{HasParameterDomain, domain, integer, kept, IsVariableNode, IsParameterNode}
use Rattle.hierarchy.specs.TypeDomains.{HasDomain, boolean, named}
use Rattle.hierarchy.specs.declared.tree.ParNode.{ParNode}
use Rattle.hierarchy.specs.declared.tree.VarNode.{VarNode}
use Rattle.hierarchy.proofs.Finding.{same_or_not}
use Rattle.source_meaning.specs.Means.{is_valued, ValueOf}
use Rattle.hierarchy.specs.Walks.{PassesTest}
use Rattle.source_meaning.specs.Tested.{IsReadable}
use Rattle.source_meaning.specs.Rules.{BreaksValue, type_of}
use Rattle.source_meaning.proofs.OneMeaning.{value_same}
use Rattle.source_meaning.proofs.OneDomain.{values_same}
use Rattle.domains.specs.Domains.{values_of}
use Rattle.bind_scopes.proofs.NamedPaths.{kind_one}
use Rattle.bind_names.specs.Values.{IsValue, IsDomainAt, BreaksAs, BreaksOneValue}
use Rattle.gts_core.proofs.Reading.{read_value}
use Rattle.gts_core.specs.Readings.{valuation_at}

-- Domains

-- no symbol is listed twice
uses_different : (old xs new : List ℕ) → FirstUses old xs new → AreDifferent old → AreDifferent new
uses_different old xs new none d = d
uses_different old xs new (known {xs = ys} o h) d = uses_different old ys new h d
uses_different old xs new (first {xs = ys} {x = x} n h) d = uses_different _ ys new h (different_more old x d n)

pub symbols_different : {m : RootedModel} → KeepsTextRules m → AreDifferent m.declared.symbols
symbols_different k = uses_different [] _ _ k.rooted.declared.symbols
    (record { one = λ i j a p q. absurd (stands_none i a p) })

-- the domains of a type have the same values
listed_same : (v w : Domain) (x : Value) (ks js : List ℕ) → values_of v ≡ values_of w → values_of v ≡ map Symbol ks
    → values_of w ≡ map Symbol js → (s : ℕ) → Contains ks s → Contains js s
listed_same v w x ks js e f g s h =
    let i = subst (λ (z : List Value). Contains z (Symbol s)) (sym f ∙ (e ∙ g)) (contains-map Symbol s ks h) in
    let r = contains-from_map Symbol (Symbol s) js i in
    let q : r.0 ≡ s = (let p = r.2 in cc) in
    subst (λ (z : ℕ). Contains js z) q r.1

holds_body : {numbers : List ℕ} (v w : Domain) (b : _) → IsDomainOf numbers b v → IsDomainOf numbers b w
    → values_of v ≡ values_of w → (x : Value) → Holds v x → Holds w x
holds_body v w b (symbols {numbers = ks} p) (symbols {numbers = js} q) e (Symbol s) h =
    listed_same v w (Symbol s) ks.items js.items e refl refl s h
holds_body v w b (symbols {numbers = ks} p) (symbols {numbers = js} q) e (Truth t) h = absurd h
holds_body v w b (symbols {numbers = ks} p) (symbols {numbers = js} q) e (Whole n) h = absurd h
holds_body v w b range range e x h = h

pub holds_same : {d : Declared} {t : TypeForm} {v w : Domain} → AreDifferent d.symbols → HasDomain d t v
    → HasDomain d t w → (x : Value) → Holds v x → Holds w x
holds_same s boolean boolean x h = h
holds_same {d = d} {v = v} {w = w} s (named {x = y} {declared = b} e p) (named f q) x h =
    let same = values_same {d = d} s (named {x = y} e p) (named {x = y} f q) in
    holds_body v w b p (subst (λ z. IsDomainOf d.symbols z w) (kind_one f e) q) same x h

-- whether a domain has a value
contained : (xs : List ℕ) (s : ℕ) → Contains xs s ⊎ (Contains xs s → ⊥)
contained [] s = inr (λ h. nothing-in s h)
contained (x ∷ xs) s = elim (same_or_not x s) [
  | inl e ↦ inl (subst (λ (z : ℕ). Contains (x ∷ xs) z) e.1 (contains-head x xs))
  | inr n ↦ elim (contained xs s) [
    | inl h ↦ inl (contains-cons x s xs h)
    | inr h ↦ inr (λ c. elim (contains-cases x s xs c) [ inl e ↦ n.1 e | inr r ↦ h r ])
  ]
]

order : (a b : ℤ) → (a ≤ℤ b) ⊎ (a ≤ℤ b → ⊥)
order a b = by (int_lt b a) refl
  where
    by : (t : Bool) → int_lt b a ≡ t → (a ≤ℤ b) ⊎ (a ≤ℤ b → ⊥)
    by true e = inr (λ h. grind (arith, ints))
    by false e = inl (grind (arith, ints))

between : (low high n : ℤ) → ((low ≤ℤ n) × (n ≤ℤ high)) ⊎ ((low ≤ℤ n) × (n ≤ℤ high) → ⊥)
between low high n = elim (order low n) [
  | inl p ↦ elim (order n high) [ inl q ↦ inl (p, q) | inr q ↦ inr (λ h. q h.1) ]
  | inr p ↦ inr (λ h. p h.0)
]

holds_or_not : (d : Domain) (v : Value) → Holds d v ⊎ (Holds d v → ⊥)
holds_or_not Boolean (Truth b) = inl tt
holds_or_not Boolean (Whole n) = inr (λ h. h)
holds_or_not Boolean (Symbol s) = inr (λ h. h)
holds_or_not (Symbols ks) (Truth b) = inr (λ h. h)
holds_or_not (Symbols ks) (Whole n) = inr (λ h. h)
holds_or_not (Symbols ks) (Symbol s) = contained ks.items s
holds_or_not (Range low high) (Truth b) = inr (λ h. h)
holds_or_not (Range low high) (Whole n) = between low high n
holds_or_not (Range low high) (Symbol s) = inr (λ h. h)

pub holds_by : (d : Domain) (v : Value) → ((Holds d v → ⊥) → ⊥) → Holds d v
holds_by d v n = elim (holds_or_not d v) [ inl h ↦ h | inr h ↦ absurd (n h) ]

-- One thing

module _ {m : RootedModel} {units : List UnitPath} (kept : KeepsTextRules m) (t : Thing) (v : Value) (is : IsValue m t
    v) (d : Domain) (at_type : IsDomainAt m t d) where
  -- where the domain has the value, nothing is broken
  pub inside_none : Holds d v → IsEarliest (BreaksAs m units t) None
  inside_none h = nowhere (λ p b. never b.breaks b.thing)
    where
      never : {p : Place} (b : BreaksValue m units p) → b.thing ≡ t → ⊥
      never b e =
          let w = value_same m (symbols_different kept) is.value
          (subst (λ (z : Thing). ValueOf m z b.value) e b.is_value) in
          let g = kind_one at_type.is (ap (λ (z : Thing). kind_at m z.unit z.name) (sym e) ∙ b.is) in
          let q = kind_one at_type.is_type (ap type_of g ∙ b.is_type) in
          let there = subst (λ (z : TypeForm). HasDomain m.declared z b.domain) (sym q) b.is_domain in
          b.outside (subst (λ (z : Value). Holds b.domain z) w
          (holds_same (symbols_different kept) at_type.domain there v h))

  -- where it has not, the value breaks the rule where it stands
  pub outside_there : IsReadable m units t → (a : Attribute) → in_force m t ≡ Some a → (Holds d v → ⊥) → (w : RawExpr)
      → a.value ≡ w → IsEarliest (BreaksAs m units t) (Some w.at)
  outside_there has a force n w e = there (record { breaks = one; thing = refl }) (λ q l b. never q l b.breaks b.thing)
    where
      one : BreaksValue m units w.at
      one = record {
        thing = t;
        has_value = has;
        attribute = a;
        in_force = force;
        value = v;
        is_value = is.value;
        member = at_type.member;
        is = at_type.is;
        type = at_type.type;
        is_type = at_type.is_type;
        domain = d;
        is_domain = at_type.domain;
        outside = n;
        place = ap (λ (z : RawExpr). z.at) (sym e);
      }

      never : (q : Place) → IsEarlier q w.at → (b : BreaksValue m units q) → b.thing ≡ t → ⊥
      never q l b i =
          let f = kind_one (ap (in_force m) (sym i) ∙ b.in_force) force in
          not_before q w.at l (b.place ∙ (ap (λ (z : Attribute). z.value.at) f ∙ ap (λ (z : RawExpr). z.at) e))

-- the domain of a parameter is that of its type
parameter_type : {d : Declared} (k : MemberKind) (o : Option Domain) (v : Domain) → HasParameterDomain d k o
    → o ≡ Some v → (type : TypeForm) × (type_of k ≡ Some type) × HasDomain d type v
parameter_type {d = d} k o v (domain {type = f} {v = w} h) e = let q : w ≡ v = cc in (f, refl, subst (λ (z : Domain). HasDomain d f z) q h)
parameter_type k o v integer e = cc
parameter_type k o v kept e = cc

has_value : {d : Declared} (k : MemberKind) (o : Option Domain) (v : Domain) → HasParameterDomain d k o → o ≡ Some v
    → is_valued k ≡ true
has_value k o v (domain h) e = refl
has_value k o v integer e = cc
has_value k o v kept e = cc

no_type : {d : Declared} (k : MemberKind) (o : Option Domain) → HasParameterDomain d k o → o ≡ None
    → (f : TypeForm) (v : Domain) → type_of k ≡ Some f → HasDomain d f v → ⊥
no_type k o (domain h) e f v i g = cc
no_type k o integer e f v i boolean = cc
no_type k o integer e f v i (named j g) = cc
no_type k o kept e f v i g = cc

module _ (m : RootedModel) (units : List UnitPath) (t : Thing) where
  given_is : (g : NamedMember) → name_at m t.unit t.name ≡ Some g → kind_at m t.unit t.name ≡ Some g.kind
  given_is g e = ap (λ (o : Option NamedMember). option_map (λ (z : NamedMember). z.kind) o) e

  pub variable_domain : (d : VarNode) → IsVariableNode m units t d → IsDomainAt m t d.domain
  variable_domain d h = record {
    member = h.given.kind;
    is = given_is h.given h.node.is;
    type = h.type;
    is_type = ap type_of h.is;
    domain = h.domain;
  }

  module _ (d : ParNode) (h : IsParameterNode m units t d) where
    pub parameter_domain : (v : Domain) → d.domain ≡ Some v → IsDomainAt m t v
    parameter_domain v e =
        let w = parameter_type h.given.kind d.domain v h.domain e in
        record { member = h.given.kind; is = given_is h.given h.node.is; type = w.0; is_type = w.1; domain = w.2 }

    -- a parameter with a domain has a value
    pub domain_valued : (v : Domain) → d.domain ≡ Some v → PassesTest m is_valued t
    domain_valued v e = record {
      kind = h.given.kind;
      is = given_is h.given h.node.is;
      passes = has_value h.given.kind d.domain v h.domain e;
    }

    -- a parameter without a domain breaks nothing
    pub no_domain : d.domain ≡ None → IsEarliest (BreaksAs m units t) None
    no_domain e = nowhere (λ p b. never b.breaks b.thing)
      where
        never : {p : Place} (b : BreaksValue m units p) → b.thing ≡ t → ⊥
        never b i =
            let g = kind_one (given_is h.given h.node.is)
            (ap (λ (z : Thing). kind_at m z.unit z.name) (sym i) ∙ b.is) in
            no_type h.given.kind d.domain h.domain e b.type b.domain (ap type_of g ∙ b.is_type) b.is_domain

-- Things in lists

module _ (m : RootedModel) (units : List UnitPath) (things : List Thing) where
  -- the thing at this place of the list breaks the rule at the place of the text
  pub record BreaksAt (n : ℕ) (at : Place) : Type 0 where
    pub thing : Thing
    pub stands : Stands things n thing
    pub breaks : BreaksAs m units thing at

  pub thing_now : (n : ℕ) (t : Thing) (r : Option Place) → Stands things n t → IsEarliest (BreaksAs m units t) r
      → IsEarliest (BreaksAt n) r
  thing_now n t r s h =
      earliest_same r (λ at b. record { thing = t; stands = s; breaks = b })
      (λ at b. subst (λ (z : Thing). BreaksAs m units z at) (stands_one things n b.thing t b.stands s) b.breaks) h

  module _ {A : Type 0} {R : Thing → A → Type 0} (nodes : List A) (rows : Along R things nodes) where
    pub thing_to : (k : ℕ) (d : A) (at : Place) → Stands nodes k d → BreaksAt k at → BreaksOneValue m units things at
    thing_to k d at s b = record { thing = b.thing; is_one = one_here things k b.thing b.stands; breaks = b.breaks }

    pub thing_back : (at : Place) → BreaksOneValue m units things at → (k : ℕ)
        × AtItem nodes (λ (j : ℕ) (d : A) (q : Place). BreaksAt j q) k at
    thing_back at b =
        let a = along_on things nodes rows b.is_one.place b.thing b.is_one.stands in (
          b.is_one.place,
          record {
            item = a.0;
            stands = a.1;
            has = record { thing = b.thing; stands = b.is_one.stands; breaks = b.breaks };
          },
        )

-- two lists that go along a third go along each other
pub along_both : {A B C : Type 0} {R : A → B → Type 0} {S : A → C → Type 0} {T : B → C → Type 0} (xs : List A)
    (ys : List B) (zs : List C)
    → ((a : A) (b : B) (c : C) → IsOneOf xs a → R a b → S a c → T b c) → Along R xs ys → Along S xs zs → Along T ys zs
along_both xs ys zs f along.none along.none = along.none
along_both xs ys zs f (along.one_and {a = a} {b = b} {xs = more} {ys = bs} r rs)
    (along.one_and {b = c} {ys = cs} s ss) =
    along.one_and (f a b c (one_first a more) r s)
    (along_both more bs cs (λ d e g i p q. f d e g (one_rest a more d i) p q) rs ss)

-- the value that stands at the place of a thing is the thing's
pub known_value : (P : Thing → Value → Type 0) (things : List Thing) (vs : List Value) → Along P things vs
    → (k : ℕ) (t : Thing) (v : Value) → Stands things k t → v ≡ valuation_at vs k → P t v
known_value P things vs rows k t v s e =
    let b = along_on things vs rows k t s in
    subst (λ (z : Value). P t z) (sym (e ∙ read_value vs k b.0 b.1)) b.2
