-- Models that agree break the rules of their units at the same places.
use Rattle.std.proofs.Common.{◌≡◌, ℕ, Bool, is_some, List, [], ◌∷◌, map, Option, Some, option_and_then, refl, sym, ap, subst, ◌∙◌}
use Rattle.std.specs.List.{flat_map}
use Rattle.ar_base.specs.Lists.{Along}
use Rattle.ar_base.specs.Lists as along
use Rattle.ar_base.specs.declared.places.Place.{Place}
use Rattle.ar_base.proofs.Standing.{along_on}
use Rattle.ar_syntax.specs.declared.members.Member.{Member, out-Member}
use Rattle.ar_syntax.specs.declared.members.Setting.{Setting}
use Rattle.ar_syntax.specs.declared.members.TypeForm.{TypeForm}
use Rattle.ar_syntax.specs.declared.members.TypeForm.TheVariants as type_form
use Rattle.ar_syntax.specs.declared.members.Word.{Word}
use Rattle.ar_syntax.specs.declared.paths.Path.{Path}
use Rattle.parser_laws.specs.Expressions.{SamePath}
use Rattle.parser_laws.specs.Members.{SameMember, SameSetting}
use Rattle.parser_laws.specs.Opened.{SameKind}
use Rattle.class_table.specs.Declaring.{MemberForm, NamedType, DomainType, ClassType, Declared}
use Rattle.class_table.specs.Members.{Site, MemberKind, domain_body, owned_at}
use Rattle.class_table.specs.declared.tables.Owned.{Owned}
use Rattle.class_table.specs.declared.tables.Owned.TheVariants.{Plain, Nested}
use Rattle.hierarchy.specs.Models.{RootedModel}
use Rattle.hierarchy.specs.Units.{UnitPath, Thing, members_at, names_at}
use Rattle.hierarchy.specs.Walks.{WalkOutcome, thing, PassesTest, is_parameter}
use Rattle.hierarchy.specs.Listing.{form_of, forms_at}
use Rattle.hierarchy.specs.Settings.{TargetWord, target_word_of, target_of, settings_in, settings_of, settings_at, is_init, is_reset, is_state, is_flow, is_state_variable, is_flow_variable}
use Rattle.unit_rules.specs.Typing.{bounds_variables}
use Rattle.unit_rules.specs.Statements.{HasPath, clones, embeds, WalkEnds}
use Rattle.unit_rules.specs.Rules.{BreaksForm, declares, BreaksDeclaration, IsSettingTarget, parameter, init, reset, inside, HasSetting, BreaksSetting, no_target, twice}
use Rattle.instantiate.specs.Unfolding.{BreaksUnitRule, l6, l7, l8, l9}
use Rattle.source_laws.specs.Named.{SameMeant}
use Rattle.source_laws.specs.Named as meant
use Rattle.source_laws.specs.Tables.{SameOwned, SameType, SameTable, SameRooted}
use Rattle.source_laws.specs.Views.{SameForms}
use Rattle.source_laws.specs.Views as same
use Rattle.source_laws.proofs.Laid.{viewed, along_joined}
use Rattle.source_laws.proofs.Named.{Both, neither, both, types_both, owned_both}
use Rattle.source_laws.proofs.Leading.{parameter_same, members_same, names_same, name_same, kind_same, given_there, makes_there}

-- what stands for the first is there for the second, and agrees
pub other_of : {A : Type 0} {R : A → A → Type 0} {o p : Option A} → Both R o p → (a : A) → o ≡ Some a
    → (b : A) × (p ≡ Some b) × R a b
other_of neither a e = cc
other_of {R = R} (both {a = c} {b = b} r) a e = let same : c ≡ a = cc in (b, refl, subst (λ z. R z b) same r)

-- Settings

pub target_same : {s t : Setting} → SameSetting s t → target_of s ≡ target_of t
target_same r = ap (λ (ws : List Word). map target_word_of ws) r.target

pub state_same : {ss rs : List Setting} → Along SameSetting ss rs → is_state ss ≡ is_state rs
state_same along.none = refl
state_same (along.one_and r along.none) = ap is_init (target_same r)
state_same (along.one_and r (along.one_and s more)) = refl

flow_same : {ss rs : List Setting} → Along SameSetting ss rs → is_flow ss ≡ is_flow rs
flow_same along.none = refl
flow_same (along.one_and r along.none) = ap is_reset (target_same r)
flow_same (along.one_and r (along.one_and s more)) = refl

pub state_variable_same : {k l : MemberKind} → SameMeant k l → is_state_variable k ≡ is_state_variable l
state_variable_same meant.inner = refl
state_variable_same (meant.clone s) = refl
state_variable_same (meant.alias s) = refl
state_variable_same (meant.variable s) = state_same s
state_variable_same (meant.parameter s) = refl
state_variable_same meant.kept = refl
state_variable_same meant.event = refl
state_variable_same (meant.observer s) = refl

pub flow_variable_same : {k l : MemberKind} → SameMeant k l → is_flow_variable k ≡ is_flow_variable l
flow_variable_same meant.inner = refl
flow_variable_same (meant.clone s) = refl
flow_variable_same (meant.alias s) = refl
flow_variable_same (meant.variable s) = flow_same s
flow_variable_same (meant.parameter s) = refl
flow_variable_same meant.kept = refl
flow_variable_same meant.event = refl
flow_variable_same (meant.observer s) = refl

settings_along : {f g : MemberForm} → SameForms f g → Along SameSetting (settings_in f) (settings_in g)
settings_along same.extends = along.none
settings_along (same.declares i h) = h
settings_along (same.block s) = along.none
settings_along (same.clones s) = along.none
settings_along (same.embeds s) = along.none
settings_along (same.parameter s) = along.none
settings_along same.kept = along.none
settings_along same.event = along.none
settings_along (same.observer s) = along.none
settings_along (same.hides s) = along.none
settings_along (same.local s r) = along.none
settings_along (same.sync s) = along.none
settings_along (same.asserts s) = along.none

-- Types

domain_there : (t u : NamedType) → SameType t u → is_some (domain_body t) ≡ is_some (domain_body u)
domain_there (DomainType x) (DomainType y) s = refl
domain_there (ClassType a) (ClassType b) s = refl
domain_there _ _ s = absurd s

domains_there : {a b : Option NamedType} → Both SameType a b
    → is_some (option_and_then domain_body a) ≡ is_some (option_and_then domain_body b)
domains_there neither = refl
domains_there (both {a = t} {b = u} s) = domain_there t u s

module _ (d e : Declared) (agree : SameTable d e) where
  bounds_same : (f : TypeForm) → bounds_variables d f ≡ bounds_variables e f
  bounds_same type_form.Boolean = refl
  bounds_same type_form.Integer = refl
  bounds_same (type_form.Named x) = domains_there (types_both d e agree x.n)

  -- a declaration without its one setting
  form_there : {f g : MemberForm} {p : Place} → SameForms f g → BreaksForm d f p → BreaksForm e g p
  form_there (same.declares {t = t} i h) (declares x more b s f j) =
      declares x more (sym (bounds_same t.form) ∙ b) (sym (state_same h) ∙ s) (sym (flow_same h) ∙ f) (sym i ∙ j)
  form_there same.extends b = elim b [ ]
  form_there (same.block s) b = elim b [ ]
  form_there (same.clones s) b = elim b [ ]
  form_there (same.embeds s) b = elim b [ ]
  form_there (same.parameter s) b = elim b [ ]
  form_there same.kept b = elim b [ ]
  form_there same.event b = elim b [ ]
  form_there (same.observer s) b = elim b [ ]
  form_there (same.hides s) b = elim b [ ]
  form_there (same.local s r) b = elim b [ ]
  form_there (same.sync s) b = elim b [ ]
  form_there (same.asserts s) b = elim b [ ]

-- Paths

record PathThere (l : MemberKind) (p : Path) : Type 0 where
  path : Path
  has : HasPath l path
  agree : SamePath p path

path_there : {k l : MemberKind} {p : Path} → SameMeant k l → HasPath k p → PathThere l p
path_there (meant.clone {q = q} s) clones = record { path = q; has = clones; agree = s }
path_there (meant.alias {q = q} s) embeds = record { path = q; has = embeds; agree = s }
path_there meant.inner h = elim h [ ]
path_there (meant.variable s) h = elim h [ ]
path_there (meant.parameter s) h = elim h [ ]
path_there meant.kept h = elim h [ ]
path_there meant.event h = elim h [ ]
path_there (meant.observer s) h = elim h [ ]

module _ (opens : (m n : Member) → SameMember m n → SameKind (out-Member m) (out-Member n)) where
  -- Forms

  forms_of : {o p : Option Owned} → Both SameOwned o p → Along SameForms (form_of o) (form_of p)
  forms_of neither = along.none
  forms_of (both {a = o} {b = p} r) = go o p r
    where
      go : (o p : Owned) → SameOwned o p → Along SameForms (form_of (Some o)) (form_of (Some p))
      go (Plain m) (Plain n) s = along.one_and (viewed (out-Member m) (out-Member n) (opens m n s)) along.none
      go (Nested x at b) (Nested y q c) s = along.none
      go _ _ s = absurd s

  settings_there : {o p : Option Owned} → Both SameOwned o p → Along SameSetting (settings_of o) (settings_of p)
  settings_there neither = along.none
  settings_there (both {a = o} {b = p} r) = go o p r
    where
      go : (o p : Owned) → SameOwned o p → Along SameSetting (settings_of (Some o)) (settings_of (Some p))
      go (Plain m) (Plain n) s = settings_along (viewed (out-Member m) (out-Member n) (opens m n s))
      go (Nested x at b) (Nested y q c) s = along.none
      go _ _ s = absurd s

  module _ (m n : RootedModel) (agree : SameRooted m n) where
    sites_forms : (ss : List Site) → Along SameForms (flat_map (λ s. form_of (owned_at m.declared s)) ss)
        (flat_map (λ s. form_of (owned_at n.declared s)) ss)
    sites_forms [] = along.none
    sites_forms (s ∷ ss) =
        along_joined (forms_of (owned_both m.declared n.declared agree.declared s)) (sites_forms ss)

    -- the members of a unit without its blocks
    pub forms_there : (u : UnitPath) → Along SameForms (forms_at m u) (forms_at n u)
    forms_there u =
        subst (λ (ss : List Site). Along SameForms (forms_at m u) (flat_map (λ s. form_of (owned_at n.declared s)) ss))
        (members_same opens m n agree u) (sites_forms (members_at m u))

    pub settings_same : (s : Site) → Along SameSetting (settings_at m s) (settings_at n s)
    settings_same s = settings_there (owned_both m.declared n.declared agree.declared s)

    -- Things that pass a test

    pub passes_there : (test : MemberKind → Bool) → ((k l : MemberKind) → SameMeant k l → test k ≡ test l) → (t : Thing)
        → PassesTest m test t → PassesTest n test t
    passes_there test one t h =
        let o = other_of (kind_same opens m n agree t.unit t.name) h.kind h.is in
        record { kind = o.0; is = o.1; passes = sym (one h.kind o.0 o.2) ∙ h.passes }

    -- Rules

    walk_ends_there : (units : List UnitPath) (o : WalkOutcome) (p : Place) → WalkEnds m units o p → WalkEnds n units o p
    walk_ends_there units o p h =
        let e = h.ends in
        let g = along_on (names_at m h.unit) (names_at n h.unit) (names_same opens m n agree h.unit) e.is_given.place e.given
        e.is_given.stands in
        let q = path_there g.2.kind e.has_path in
        record {
          unit = h.unit;
          is_unit = h.is_unit;
          ends = record {
            given = g.0;
            is_given = record { place = e.is_given.place; stands = g.1 };
            path = q.path;
            has_path = q.has;
            comes = given_there opens m n agree g.2 e.comes;
            place = e.place ∙ q.agree.place;
          };
        }

    declaration_there : (units : List UnitPath) (p : Place) → BreaksDeclaration m units p → BreaksDeclaration n units p
    declaration_there units p h =
        let f = along_on (forms_at m h.unit) (forms_at n h.unit) (forms_there h.unit) h.is_member.place h.form
        h.is_member.stands in
        record {
          unit = h.unit;
          is_unit = h.is_unit;
          form = f.0;
          is_member = record { place = h.is_member.place; stands = f.1 };
          breaks = form_there m.declared n.declared agree.declared f.2 h.breaks;
        }

    target_there : {u : UnitPath} {words : List TargetWord} → IsSettingTarget m u words → IsSettingTarget n u words
    target_there (parameter {u = u} {x = x} h) = parameter (passes_there is_parameter (λ k l r. parameter_same r) (thing u x) h)
    target_there (init {u = u} {x = x} h) = init (passes_there is_state_variable (λ k l r. state_variable_same r) (thing u x) h)
    target_there (reset {u = u} {x = x} h) = reset (passes_there is_flow_variable (λ k l r. flow_variable_same r) (thing u x) h)
    target_there (inside {u = u} {x = x} g e k h) =
        let o = other_of (name_same opens m n agree u x) g e in
        inside o.0 o.1 (makes_there opens m n agree o.2 k) (target_there h)

    setting_there : {units : List UnitPath} {u : UnitPath} {k : ℕ} {s : Setting} → HasSetting m units u k s
        → (t : Setting) × HasSetting n units u k t × SameSetting s t
    setting_there {k = k} {s = s} h =
        let o = along_on (settings_at m h.site) (settings_at n h.site) (settings_same h.site) k s h.stands in (
          o.0,
          record {
            level = h.level;
            above = h.above;
            split = h.split;
            is_unit = h.is_unit;
            site = h.site;
            set_at = h.set_at;
            stands = o.1;
          },
          o.2,
        )

  module _ (m n : RootedModel) (agree : SameRooted m n) (back : SameRooted n m) (units : List UnitPath) where
    setting_breaks_there : {p : Place} → BreaksSetting m units p → BreaksSetting n units p
    setting_breaks_there (no_target {u = u} h not) =
        let o = setting_there m n agree h in
        subst (BreaksSetting n units) (sym o.2.place)
        (no_target o.1 (λ t. not (subst (IsSettingTarget m u) (sym (target_same o.2)) (target_there n m back t))))
    setting_breaks_there (twice h k before e) =
        let o = setting_there m n agree h in
        let p = setting_there m n agree k in
        subst (BreaksSetting n units) (sym p.2.place)
        (twice o.1 p.1 before (sym (target_same o.2) ∙ e ∙ target_same p.2))

    -- the rules of units are broken at the same places
    pub unit_rules_there : (r : ℕ) (p : Place) → BreaksUnitRule m units r p → BreaksUnitRule n units r p
    unit_rules_there _ p (l6 h) = l6 (walk_ends_there m n agree units _ p h)
    unit_rules_there _ p (l7 h) = l7 (walk_ends_there m n agree units _ p h)
    unit_rules_there _ p (l8 h) = l8 (declaration_there m n agree units p h)
    unit_rules_there _ p (l9 h) = l9 (setting_breaks_there h)
