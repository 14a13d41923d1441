-- Names lead to the same units in models that agree, and their units are the same.
use Rattle.std.proofs.Common.{◌≡◌, ℕ, ◌++◌, Bool, true, false, if◌then◌else◌, List, [], ◌∷◌, map, filter, Option, Some, slice_get, unwrap_or, option_map, refl, sym, ap, subst, ◌∙◌}
use Rattle.std.specs.List.{flat_map}
use Rattle.ar_base.specs.Lists.{Along}
use Rattle.ar_base.specs.Lists as along
use Rattle.ar_base.specs.Numbers.{NameId}
use Rattle.ar_syntax.specs.declared.members.Member.{Member, out-Member}
use Rattle.ar_syntax.specs.declared.paths.Path.{Path}
use Rattle.ar_syntax.specs.declared.paths.PathStart.{PathStart}
use Rattle.parser_laws.specs.Expressions.{SamePath}
use Rattle.parser_laws.specs.Members.{SameMember}
use Rattle.parser_laws.specs.Opened.{SameKind}
use Rattle.class_table.specs.Members.{Site, NamedMember, MemberKind, named_at}
use Rattle.hierarchy.specs.Models.{RootedModel}
use Rattle.hierarchy.specs.Units.{UnitPath, Thing, body_of, set_at_of, bodies_of, has_number, members_at, names_at, name_at, kind_at, start_of, numbers}
use Rattle.hierarchy.specs.Walks.{WalkOutcome, Reaches, Nothing, Loops, thing, cloned, is_unitless, NameLeads, NamesLead, inner, clones, embeds, clones_again, embeds_again, no_unit, absent, nowhere, arrives, on, stops, loops, is_variable, is_parameter, is_event, is_observer}
use Rattle.hierarchy.specs.Listing.{is_inner, MakesUnit, MakesNone, no_inner, ListsUnits, unit, Insides, none, cut, makes, makes_cut, passes, things_in}
use Rattle.hierarchy.specs.Listing.MakesNone.{nothing as makes_nothing, loops as makes_loops}
use Rattle.source_laws.specs.Named.{SameMeant, SameNamed}
use Rattle.source_laws.specs.Named as meant
use Rattle.source_laws.specs.Tables.{SameRooted}
use Rattle.source_laws.proofs.Named.{Both, neither, both, sites_named, named_both}

-- Tests of what a name is

pub unitless_same : {k l : MemberKind} → SameMeant k l → is_unitless k ≡ is_unitless l
unitless_same meant.inner = refl
unitless_same (meant.clone s) = refl
unitless_same (meant.alias s) = refl
unitless_same (meant.variable s) = refl
unitless_same (meant.parameter s) = refl
unitless_same meant.kept = refl
unitless_same meant.event = refl
unitless_same (meant.observer s) = refl

inner_same : {k l : MemberKind} → SameMeant k l → is_inner k ≡ is_inner l
inner_same meant.inner = refl
inner_same (meant.clone s) = refl
inner_same (meant.alias s) = refl
inner_same (meant.variable s) = refl
inner_same (meant.parameter s) = refl
inner_same meant.kept = refl
inner_same meant.event = refl
inner_same (meant.observer s) = refl

pub variable_same : {k l : MemberKind} → SameMeant k l → is_variable k ≡ is_variable l
variable_same meant.inner = refl
variable_same (meant.clone s) = refl
variable_same (meant.alias s) = refl
variable_same (meant.variable s) = refl
variable_same (meant.parameter s) = refl
variable_same meant.kept = refl
variable_same meant.event = refl
variable_same (meant.observer s) = refl

pub parameter_same : {k l : MemberKind} → SameMeant k l → is_parameter k ≡ is_parameter l
parameter_same meant.inner = refl
parameter_same (meant.clone s) = refl
parameter_same (meant.alias s) = refl
parameter_same (meant.variable s) = refl
parameter_same (meant.parameter s) = refl
parameter_same meant.kept = refl
parameter_same meant.event = refl
parameter_same (meant.observer s) = refl

pub event_same : {k l : MemberKind} → SameMeant k l → is_event k ≡ is_event l
event_same meant.inner = refl
event_same (meant.clone s) = refl
event_same (meant.alias s) = refl
event_same (meant.variable s) = refl
event_same (meant.parameter s) = refl
event_same meant.kept = refl
event_same meant.event = refl
event_same (meant.observer s) = refl

pub observer_same : {k l : MemberKind} → SameMeant k l → is_observer k ≡ is_observer l
observer_same meant.inner = refl
observer_same (meant.clone s) = refl
observer_same (meant.alias s) = refl
observer_same (meant.variable s) = refl
observer_same (meant.parameter s) = refl
observer_same meant.kept = refl
observer_same meant.event = refl
observer_same (meant.observer s) = refl

-- what is so of the kinds of members is so of those that were found
kinds_of : {a b : Option NamedMember} → Both SameNamed a b
    → Both SameMeant (option_map (λ (g : NamedMember). g.kind) a) (option_map (λ (g : NamedMember). g.kind) b)
kinds_of neither = neither
kinds_of (both r) = both r.kind

module _ (opens : (m n : Member) → SameMember m n → SameKind (out-Member m) (out-Member n)) (m n : RootedModel)
    (agree : SameRooted m n) where
  -- Units

  pub body_same : (u : UnitPath) → body_of m u ≡ body_of n u
  body_same [] = agree.main
  body_same (l ∷ u) = refl

  bodies_same : (u : UnitPath) → bodies_of m u ≡ bodies_of n u
  bodies_same [] = ap (λ (b : ℕ). b ∷ []) agree.main
  bodies_same (l ∷ u) = ap (λ (bs : List ℕ). l.body ∷ bs) (bodies_same u)

  pub members_same : (u : UnitPath) → members_at m u ≡ members_at n u
  members_same u =
      ap (λ (b : ℕ). unwrap_or (slice_get m.members b) []) (body_same u)
      ∙ ap (λ (ms : List (List Site)). unwrap_or (slice_get ms (body_of n u)) []) agree.members

  pub names_same : (u : UnitPath) → Along SameNamed (names_at m u) (names_at n u)
  names_same u =
      subst (λ (z : List Site). Along SameNamed (names_at m u) (named_at n.declared z)) (members_same u)
      (sites_named opens m.declared n.declared agree.declared (members_at m u))

  pub name_same : (u : UnitPath) (x : ℕ) → Both SameNamed (name_at m u x) (name_at n u x)
  name_same u x = named_both x (names_at m u) (names_at n u) (names_same u)

  pub kind_same : (u : UnitPath) (x : ℕ) → Both SameMeant (kind_at m u x) (kind_at n u x)
  kind_same u x = kinds_of (name_same u x)

  -- Walks

  cloned_same : (u : UnitPath) (x : ℕ) (o : WalkOutcome) → cloned m u x o ≡ cloned n u x o
  cloned_same u x (Reaches t) =
      ap (λ (bs : List ℕ). if has_number bs (body_of m t) then Loops
      else Reaches (record { name = x; body = body_of m t; set_at = set_at_of t } ∷ u)) (bodies_same u)
      ∙ ap (λ (b : ℕ). if has_number (bodies_of n u) b then Loops
      else Reaches (record { name = x; body = b; set_at = set_at_of t } ∷ u)) (body_same t)
  cloned_same u x Nothing = refl
  cloned_same u x Loops = refl

  path_read : {f : List Thing} (u : UnitPath) {p q : Path} {o : WalkOutcome} → SamePath p q
      → NamesLead n f (start_of p.start u) (numbers p.names.items) o
      → NamesLead n f (start_of q.start u) (numbers q.names.items) o
  path_read {f = f} u {p = p} {q = q} {o = o} s l =
      subst (λ (z : List NameId). NamesLead n f (start_of q.start u) (numbers z) o) s.names
      (subst (λ (z : PathStart). NamesLead n f (start_of z u) (numbers p.names.items) o) s.start l)

  mutual
    -- names lead to the same outcome
    pub leads_there : {f : List Thing} {u : UnitPath} {x : ℕ} {a b : Option MemberKind} {o : WalkOutcome}
        → Both SameMeant a b → NameLeads m f u x a o → NameLeads n f u x b o
    leads_there (both meant.inner) inner = inner
    leads_there {u = u} {x = x} (both (meant.clone s)) (clones {o = o} new l e) =
        clones new (path_read u s (walks_there l)) (e ∙ cloned_same u x o)
    leads_there {u = u} (both (meant.alias s)) (embeds new l) = embeds new (path_read u s (walks_there l))
    leads_there (both (meant.clone s)) (clones_again e) = clones_again e
    leads_there (both (meant.alias s)) (embeds_again e) = embeds_again e
    leads_there (both r) (no_unit e) = no_unit (sym (unitless_same r) ∙ e)
    leads_there neither absent = absent

    -- and so do paths
    pub walks_there : {f : List Thing} {u : Option UnitPath} {xs : List ℕ} {o : WalkOutcome} → NamesLead m f u xs o
        → NamesLead n f u xs o
    walks_there nowhere = nowhere
    walks_there arrives = arrives
    walks_there (on {u = u} {x = x} v l more) = on v (leads_there (kind_same u x) l) (walks_there more)
    walks_there (stops {u = u} {x = x} l) = stops (leads_there (kind_same u x) l)
    walks_there (loops {u = u} {x = x} l) = loops (leads_there (kind_same u x) l)

  -- Lists of units

  pub given_there : {f : List Thing} {u : UnitPath} {g h : NamedMember} {o : WalkOutcome} → SameNamed g h
      → NameLeads m f u g.name (Some g.kind) o → NameLeads n f u h.name (Some h.kind) o
  given_there {f = f} {u = u} {g = g} {h = h} {o = o} r l =
      subst (λ (x : ℕ). NameLeads n f u x (Some h.kind) o) r.name (leads_there (both r.kind) l)

  pub makes_there : {u v : UnitPath} {g h : NamedMember} → SameNamed g h → MakesUnit m u g v → MakesUnit n u h v
  makes_there r k = record { inner = sym (inner_same r.kind) ∙ k.inner; leads = given_there r k.leads }

  none_there : {u : UnitPath} {g h : NamedMember} → SameNamed g h → MakesNone m u g → MakesNone n u h
  none_there r (no_inner e) = no_inner (sym (inner_same r.kind) ∙ e)
  none_there r (makes_nothing l) = makes_nothing (given_there r l)
  none_there r (makes_loops l) = makes_loops (given_there r l)

  mutual
    -- a unit has the same units below it, all of them or the first of them
    pub lists_there : {whole : Bool} {u : UnitPath} {us : List UnitPath} → ListsUnits m whole u us
        → ListsUnits n whole u us
    lists_there {u = u} (unit i) = unit (insides_there (names_same u) i)

    insides_there : {whole : Bool} {u : UnitPath} {gs hs : List NamedMember} {us : List UnitPath}
        → Along SameNamed gs hs → Insides m whole u gs us → Insides n whole u hs us
    insides_there along.none none = none
    insides_there s cut = cut
    insides_there (along.one_and r s) (makes k l i) = makes (makes_there r k) (lists_there l) (insides_there s i)
    insides_there (along.one_and r s) (makes_cut k l) = makes_cut (makes_there r k) (lists_there l)
    insides_there (along.one_and r s) (passes k i) = passes (none_there r k) (insides_there s i)

-- Things

filter_same : (test : MemberKind → Bool) → ((k l : MemberKind) → SameMeant k l → test k ≡ test l) → (u : UnitPath)
    (gs hs : List NamedMember) → Along SameNamed gs hs
    → map (λ (g : NamedMember). thing u g.name) (filter (λ (g : NamedMember). test g.kind) gs)
    ≡ map (λ (g : NamedMember). thing u g.name) (filter (λ (g : NamedMember). test g.kind) hs)
filter_same test one u [] [] along.none = refl
filter_same test one u _ _ (along.one_and {a = g} {b = h} {xs = gs} {ys = hs} s more) =
    ap (λ (b : Bool). things (if b then g ∷ passing gs else passing gs)) (one g.kind h.kind s.kind)
    ∙ go (test h.kind) (filter_same test one u gs hs more)
  where
    things : List NamedMember → List Thing
    things ks = map (λ (k : NamedMember). thing u k.name) ks

    passing : List NamedMember → List NamedMember
    passing ks = filter (λ (k : NamedMember). test k.kind) ks

    go : (b : Bool) → things (passing gs) ≡ things (passing hs)
        → things (if b then g ∷ passing gs else passing gs) ≡ things (if b then h ∷ passing hs else passing hs)
    go true e = ap (λ (x : ℕ). thing u x ∷ things (passing gs)) s.name ∙ ap (λ (ts : List Thing). thing u h.name ∷ ts) e
    go false e = e

module _ (opens : (m n : Member) → SameMember m n → SameKind (out-Member m) (out-Member n)) (m n : RootedModel)
    (agree : SameRooted m n) (test : MemberKind → Bool) (one : (k l : MemberKind) → SameMeant k l → test k ≡ test l) where
  -- the units hold the same things that pass a test
  pub things_same : (units : List UnitPath) → flat_map (things_in test m) units ≡ flat_map (things_in test n) units
  things_same [] = refl
  things_same (u ∷ us) =
      ap (λ (ts : List Thing). ts ++ flat_map (things_in test m) us)
      (filter_same test one u (names_at m u) (names_at n u) (names_same opens m n agree u))
      ∙ ap (λ (ts : List Thing). things_in test n u ++ ts) (things_same us)
