-- Where the walks of clones and aliases end.
use Rattle.std.proofs.Common.{◌≡◌, ◌≤◌, ℕ, inl, inr, Bool, true, false, IsTrue, List, [], map, length, Option, Some, None, option_map, slice_get, refl, sym, ◌∙◌, ap, subst, arith}
use Rattle.ar_base.specs.Breach.{IsEarlier}
use Rattle.ar_base.specs.Lists.{Stands, IsOneOf}
use Rattle.ar_base.specs.Numbers.{BodyId}
use Rattle.ar_base.specs.declared.places.Place.{Place}
use Rattle.ar_base.proofs.Standing.{stands_map, stands_map_back, one_none, one_first, along_on, only_item}
use Rattle.std.proofs.lemmas.Option.{slice_get_past}
use Rattle.std.proofs.lemmas.List.{length-map}
use Rattle.ar_syntax.specs.declared.members.Member.{out-Member}
use Rattle.ar_syntax.specs.declared.members.Member.TheOpen as member
use Rattle.ar_syntax.specs.declared.paths.Path.{Path}
use Rattle.class_table.specs.Declaring.{Declared, MemberForm}
use Rattle.class_table.specs.Earliest.{IsEarliest, nowhere, there}
use Rattle.class_table.specs.Members.{Site, owned_at, names_of, names_of_form, NamedMember, Clone, Alias}
use Rattle.class_table.specs.TablesInside.{site_of}
use Rattle.class_table.specs.declared.tables.Classes.{Classes}
use Rattle.class_table.specs.declared.tables.Owned.{Owned}
use Rattle.class_table.specs.declared.tables.Owned.TheVariants.{Plain, Nested}
use Rattle.class_table.proofs.FirstPlaces.{earliest_same}
use Rattle.class_table.proofs.Looping.{AtItem}
use Rattle.hierarchy.specs.Models.{RootedModel}
use Rattle.hierarchy.specs.ModelsInside.{KeepsTextRules, IsKeptTable, sites_kept}
use Rattle.hierarchy.specs.Units.{UnitPath, body_of, members_at, names_at, kind_at}
use Rattle.hierarchy.specs.Walks.{WalkOutcome, Reaches, Nothing, Loops, NameLeads}
use Rattle.hierarchy.specs.WalksInside.{LeadsFrom}
use Rattle.hierarchy.specs.Tie.{AreOutlines}
use Rattle.hierarchy.specs.declared.outline.Outline.{Outline}
use Rattle.hierarchy.proofs.Apart.{members_apart, named_here}
use Rattle.hierarchy.proofs.Outcomes.{leads_same}
use Rattle.hierarchy.proofs.Things.{flat_origin, flat_one}
use Rattle.unit_rules.specs.Statements.{HasPath, clones, embeds, WalkEnds, EndsIn}
use Rattle.unit_rules.specs.Naming.{statement_form, statement_of, EndsWalk, ends, SiteEndsSo, owned, SitesEndSo, broken_so}
use Rattle.unit_rules.proofs.Named.{declared_plain}

-- One statement

not_before_itself : (p : Place) → IsEarlier p p → ⊥
not_before_itself p (inl h) = omega (arith, h)
not_before_itself p (inr h) = let k = h.1 in omega (arith, k)

pub ends_none : {m : RootedModel} {u : UnitPath} {o : WalkOutcome} (s : Option (Path × ℕ)) → s ≡ None
    → IsEarliest (EndsWalk m u o s) None
ends_none None e = nowhere (λ p h. elim h [ ])
ends_none (Some s) e = cc e

only_place : {m : RootedModel} {u : UnitPath} {o : WalkOutcome} {p : Path} {x : ℕ} {q : Place}
    → EndsWalk m u o (Some (p, x)) q → q ≡ p.at
only_place (ends l) = refl

pub ends_here : {m : RootedModel} {u : UnitPath} {o : WalkOutcome} (s : Option (Path × ℕ)) (p : Path) (x : ℕ)
    → Some (p, x) ≡ s → LeadsFrom m u x o → IsEarliest (EndsWalk m u o s) (Some p.at)
ends_here {m = m} {u = u} {o = o} s p x e l =
    subst (λ (t : Option (Path × ℕ)). IsEarliest (EndsWalk m u o t) (Some p.at)) e
    (there (ends l) (λ q b h. not_before_itself p.at (subst (λ (r : Place). IsEarlier r p.at) (only_place h) b)))

no_end : {m : RootedModel} {u : UnitPath} {o r : WalkOutcome} {p : Path} {x : ℕ} {q : Place} → LeadsFrom m u x r
    → (o ≡ r → ⊥) → EndsWalk m u o (Some (p, x)) q → ⊥
no_end l n (ends k) = n (leads_same k l)

pub ends_other : {m : RootedModel} {u : UnitPath} {o : WalkOutcome} (r : WalkOutcome) (s : Option (Path × ℕ)) (p : Path)
    (x : ℕ) → Some (p, x) ≡ s → LeadsFrom m u x r → (o ≡ r → ⊥) → IsEarliest (EndsWalk m u o s) None
ends_other {m = m} {u = u} {o = o} r s p x e l n =
    subst (λ (t : Option (Path × ℕ)). IsEarliest (EndsWalk m u o t) None) e (nowhere (λ q h. no_end l n h))

pub broken_reaches : (b : Bool) (v : UnitPath) → broken_so b ≡ Reaches v → ⊥
broken_reaches true v e = cc e
broken_reaches false v e = cc e

pub looping_not_nothing : (b : Bool) → IsTrue b → broken_so b ≡ Nothing → ⊥
looping_not_nothing true t e = cc e
looping_not_nothing false t e = cc t

pub nothing_not_looping : (b : Bool) → b ≡ false → broken_so b ≡ Loops → ⊥
nothing_not_looping true n e = cc n
nothing_not_looping false n e = cc e

-- The member at a site

owned_back : {m : RootedModel} {u : UnitPath} {o : WalkOutcome} {w : Owned} {p : Place} → SiteEndsSo m u o (Some w) p
    → EndsWalk m u o (statement_of w) p
owned_back (owned h) = h

pub site_none : {m : RootedModel} {u : UnitPath} {o : WalkOutcome} (t : Option Owned) → None ≡ t
    → IsEarliest (SiteEndsSo m u o t) None
site_none None e = nowhere (λ p h. elim h [ ])
site_none (Some w) e = cc e

pub site_some : {m : RootedModel} {u : UnitPath} {o : WalkOutcome} (t : Option Owned) (w : Owned) (r : Option Place)
    → Some w ≡ t → IsEarliest (EndsWalk m u o (statement_of w)) r → IsEarliest (SiteEndsSo m u o t) r
site_some {m = m} {u = u} {o = o} t w r e h =
    subst (λ (z : Option Owned). IsEarliest (SiteEndsSo m u o z) r) e
    (earliest_same r (λ p k. owned k) (λ p k. owned_back k) h)

-- The members of a body

-- the member at this site of the list ends so
abbrev pub SiteEnds : RootedModel → UnitPath → WalkOutcome → ℕ → BodyId × ℕ → Place → Type 0
SiteEnds m u o k a p = SiteEndsSo m u o (owned_at m.declared (site_of a)) p

pub among_to : {m : RootedModel} {u : UnitPath} {o : WalkOutcome} (all : List (BodyId × ℕ)) (k : ℕ) (a : BodyId × ℕ)
    (p : Place) → Stands all k a → SiteEnds m u o k a p → SitesEndSo m u o (map site_of all) p
among_to all k a p s h = record {
  site = site_of a;
  is_one = record { place = k; stands = stands_map site_of all k a s };
  ends = h;
}

pub among_back : {m : RootedModel} {u : UnitPath} {o : WalkOutcome} (all : List (BodyId × ℕ)) (p : Place)
    → SitesEndSo m u o (map site_of all) p → (k : ℕ) × AtItem all (SiteEnds m u o) k p
among_back {m = m} {u = u} {o = o} all p h =
    let r = stands_map_back site_of all h.is_one.place h.site h.is_one.stands in (
      h.is_one.place,
      record {
        item = r.0;
        stands = r.1;
        has = subst (λ (s : Site). SiteEndsSo m u o (owned_at m.declared s) p) (sym r.2) h.ends;
      },
    )

-- A unit

pair_same : {a b : Path × ℕ} → Some a ≡ Some b → a ≡ b
pair_same e = cc

form_gives : (d : Declared) (s : Site) (f : MemberForm) (p : Path) (x : ℕ) → statement_form f ≡ Some (p, x)
    → (g : NamedMember) × IsOneOf (names_of_form d s f) g × (g.name ≡ x) × HasPath g.kind p
form_gives d s (member.Extends y at) p x e = cc e
form_gives d s (member.Declare t names settings) p x e = cc e
form_gives d s (member.Block b) p x e = cc e
form_gives d s (member.Clones q y at) p x e = let r : (q, y.n) ≡ (p, x) = pair_same e in let a : q ≡ p = ap (λ (z : Path × ℕ). z.0) r in let b : y.n ≡ x = ap (λ (z : Path × ℕ). z.1) r in (record { name = y.n; at = at; kind = Clone q; site = s }, one_first _ _, b, subst (λ (z : Path). HasPath (Clone q) z) a clones)
form_gives d s (member.Embeds q y at) p x e = let r : (q, y.n) ≡ (p, x) = pair_same e in let a : q ≡ p = ap (λ (z : Path × ℕ). z.0) r in let b : y.n ≡ x = ap (λ (z : Path × ℕ). z.1) r in (record { name = y.n; at = at; kind = Alias q; site = s }, one_first _ _, b, subst (λ (z : Path). HasPath (Alias q) z) a embeds)
form_gives d s (member.Parameter t y at v) p x e = cc e
form_gives d s (member.Kept y at span) p x e = cc e
form_gives d s (member.Event y at span) p x e = cc e
form_gives d s (member.Observer t y at v) p x e = cc e
form_gives d s (member.Hide q) p x e = cc e
form_gives d s (member.Local y at guard action) p x e = cc e
form_gives d s (member.Sync y at parts) p x e = cc e
form_gives d s (member.Assert i) p x e = cc e

clone_path : {q p : Path} → HasPath (Clone q) p → q ≡ p
clone_path clones = refl

alias_path : {q p : Path} → HasPath (Alias q) p → q ≡ p
alias_path embeds = refl

kind_path : {g h : NamedMember} {p : Path} → g ≡ h → HasPath h.kind p → HasPath g.kind p
kind_path {p = p} e k = subst (λ (z : NamedMember). HasPath z.kind p) (sym e) k

form_takes : (d : Declared) (s : Site) (f : MemberForm) (g : NamedMember) (p : Path) → IsOneOf (names_of_form d s f) g
    → HasPath g.kind p → statement_form f ≡ Some (p, g.name)
form_takes d s (member.Extends y at) g p o h = absurd (one_none g o)
form_takes d s (member.Declare t names settings) g p o h =
    absurd (declared_plain d s t.form settings.items names.items g p o h)
form_takes d s (member.Block b) g p o h = absurd (one_none g o)
form_takes d s (member.Clones q y at) g p o h = let e = only_item _ _ o in let a : q ≡ p = clone_path (kind_path e h) in let b : y.n ≡ g.name = ap (λ (z : NamedMember). z.name) e in cc
form_takes d s (member.Embeds q y at) g p o h = let e = only_item _ _ o in let a : q ≡ p = alias_path (kind_path e h) in let b : y.n ≡ g.name = ap (λ (z : NamedMember). z.name) e in cc
form_takes d s (member.Parameter t y at v) g p o h = elim (kind_path (only_item _ _ o) h) [ ]
form_takes d s (member.Kept y at span) g p o h = elim (kind_path (only_item _ _ o) h) [ ]
form_takes d s (member.Event y at span) g p o h = elim (kind_path (only_item _ _ o) h) [ ]
form_takes d s (member.Observer t y at v) g p o h = elim (kind_path (only_item _ _ o) h) [ ]
form_takes d s (member.Hide q) g p o h = absurd (one_none g o)
form_takes d s (member.Local y at guard action) g p o h = absurd (one_none g o)
form_takes d s (member.Sync y at parts) g p o h = absurd (one_none g o)
form_takes d s (member.Assert i) g p o h = absurd (one_none g o)

-- what the name of a member is in its unit
kind_here : {m : RootedModel} → KeepsTextRules m → (u : UnitPath) (g : NamedMember) → IsOneOf (names_at m u) g
    → kind_at m u g.name ≡ Some g.kind
kind_here {m = m} k u g o = ap (option_map (λ (h : NamedMember). h.kind))
    (named_here (names_at m u) o.place g (members_apart k u) o.stands)

statement_ends : {m : RootedModel} {u : UnitPath} {o : WalkOutcome} → KeepsTextRules m → (s : Site)
    → IsOneOf (members_at m u) s
    → (w : Owned) → owned_at m.declared s ≡ Some w → (t : Option (Path × ℕ)) → statement_of w ≡ t → (p : Place)
    → EndsWalk m u o t p → EndsIn m u o p
statement_ends k s i (Nested y at b) e None q p h = elim h [ ]
statement_ends k s i (Nested y at b) e (Some t) q p h = cc q
statement_ends k s i (Plain w) e None q p h = elim h [ ]
statement_ends {m = m} {u = u} {o = o} k s i (Plain w) e (Some (path, x)) q p h =
    let g = form_gives m.declared s (out-Member w) path x q in
    let here = subst (λ (z : Option Owned). IsOneOf (names_of m.declared s z) g.0) (sym e) g.1 in
    let all = flat_one (λ s. names_of m.declared s (owned_at m.declared s)) (members_at m u) s g.0 i here in
    let l = ended h in
    record {
      given = g.0;
      is_given = all;
      path = path;
      has_path = g.3;
      comes = subst (λ z. NameLeads m [] u g.0.name z o) (kind_here k u g.0 all)
          (subst (λ (y : ℕ). NameLeads m [] u y (kind_at m u y) o) (sym g.2) l);
      place = only_place h;
    }
  where
    ended : {p : Place} → EndsWalk m u o (Some (path, x)) p → LeadsFrom m u x o
    ended (ends l) = l

pub unit_to : {m : RootedModel} {u : UnitPath} {o : WalkOutcome} → KeepsTextRules m → (p : Place)
    → SitesEndSo m u o (members_at m u) p → EndsIn m u o p
unit_to {m = m} {u = u} {o = o} k p h = go (owned_at m.declared h.site) refl h.ends
  where
    go : (t : Option Owned) → owned_at m.declared h.site ≡ t → SiteEndsSo m u o t p → EndsIn m u o p
    go None e z = elim z [ ]
    go (Some w) e z = statement_ends k h.site h.is_one w e (statement_of w) refl p (owned_back z)

pub unit_back : {m : RootedModel} {u : UnitPath} {o : WalkOutcome} → KeepsTextRules m → (p : Place) → EndsIn m u o p
    → SitesEndSo m u o (members_at m u) p
unit_back {m = m} {u = u} {o = o} k p h =
    let c = flat_origin (λ s. names_of m.declared s (owned_at m.declared s)) (members_at m u) h.is_given.place h.given
    h.is_given.stands in
    record {
      site = c.item;
      is_one = record { place = c.from; stands = c.stands };
      ends = go c.item (owned_at m.declared c.item) c.is_one;
    }
  where
    led : LeadsFrom m u h.given.name o
    led = subst (λ z. NameLeads m [] u h.given.name z o) (sym (kind_here k u h.given h.is_given)) h.comes

    at : (t : Option (Path × ℕ)) → t ≡ Some (h.path, h.given.name) → EndsWalk m u o t p
    at t e = subst (λ z. EndsWalk m u o z p) (sym e)
        (subst (λ (q : Place). EndsWalk m u o (Some (h.path, h.given.name)) q) (sym h.place) (ends led))

    go : (s : Site) (t : Option Owned) → IsOneOf (names_of m.declared s t) h.given → SiteEndsSo m u o t p
    go s None i = absurd (one_none h.given i)
    go s (Some (Plain w)) i = owned (at (statement_form (out-Member w))
        (form_takes m.declared s (out-Member w) h.given h.path i h.has_path))
    go s (Some (Nested y b c)) i = elim (kind_path (only_item _ _ i) h.has_path) [ ]

-- the earliest among the members that the table keeps is the earliest of the unit
pub unit_ends : {m : RootedModel} {u : UnitPath} {o : WalkOutcome} {all read : List (BodyId × ℕ)} → KeepsTextRules m
    → (r : Option Place) → members_at m u ≡ map site_of all → read ≡ all
    → IsEarliest (SitesEndSo m u o (map site_of read)) r → IsEarliest (EndsIn m u o) r
unit_ends {m = m} {u = u} {o = o} k r at same h =
    let i = subst (λ (xs : List (BodyId × ℕ)). IsEarliest (SitesEndSo m u o (map site_of xs)) r) same h in
    earliest_same r (unit_to k) (unit_back k)
    (subst (λ (sites : List Site). IsEarliest (SitesEndSo m u o sites) r) (sym at) i)

-- where the table has no such body, the unit has no members
pub no_body : {m : RootedModel} {c : Classes} (u : UnitPath) {b : ℕ} {o : WalkOutcome} → IsKeptTable m c → b ≡ body_of m
    u → length c.bodies.items ≤ b → IsEarliest (EndsIn m u o) None
no_body {m = m} {c = c} u {b = b} {o = o} t e h =
    nowhere (λ p k. one_none k.given (subst (λ (gs : List NamedMember). IsOneOf gs k.given) empty k.is_given))
  where
    past : slice_get m.members (body_of m u) ≡ None
    past = slice_get_past m.members (body_of m u) (let l : length m.members ≡ length c.bodies.items = ap length (sym t.table.members) ∙ length-map c.bodies.items sites_kept in omega (arith, l, e, h))

    empty : names_at m u ≡ []
    empty = rw past refl

-- All units

-- the unit of this number has such an end
pub record UnitEnds (m : RootedModel) (units : List UnitPath) (o : WalkOutcome) (k : ℕ) (d : Outline) (p : Place) : Type
    0 where
  pub unit : UnitPath
  pub stands : Stands units k unit
  pub ends : EndsIn m unit o p

pub here_to : {m : RootedModel} {units : List UnitPath} {o : WalkOutcome} (k : ℕ) (d : Outline) (u : UnitPath)
    (r : Option Place) → Stands units k u → IsEarliest (EndsIn m u o) r → IsEarliest (UnitEnds m units o k d) r
here_to {m = m} {units = units} {o = o} k d u r s h =
    earliest_same r (λ p e. record { unit = u; stands = s; ends = e })
    (λ p e. subst (λ (v : UnitPath). EndsIn m v o p) (some_same (sym e.stands ∙ s)) e.ends) h
  where
    some_same : {A : Type 0} {a b : A} → Some a ≡ Some b → a ≡ b
    some_same e = cc

pub all_to : {m : RootedModel} {units : List UnitPath} {o : WalkOutcome} (k : ℕ) (d : Outline) (p : Place)
    → UnitEnds m units o k d p → WalkEnds m units o p
all_to k d p h = record {
  unit = h.unit;
  is_unit = record { place = k; stands = h.stands };
  ends = h.ends;
}

pub all_back : {m : RootedModel} {units : List UnitPath} {c : Classes} {outlines : List Outline} {o : WalkOutcome}
    → AreOutlines m units c outlines → (p : Place) → WalkEnds m units o p
    → (k : ℕ) × AtItem outlines (UnitEnds m units o) k p
all_back {units = units} {outlines = outlines} a p h =
    let r = along_on units outlines a.along h.is_unit.place h.unit h.is_unit.stands in (
      h.is_unit.place,
      record {
        item = r.0;
        stands = r.1;
        has = record {
          unit = h.unit;
          stands = h.is_unit.stands;
          ends = h.ends;
        };
      },
    )
