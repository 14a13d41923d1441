-- In models that agree paths name the same things and have the same texts, and the values in force agree.
use Rattle.std.proofs.Common.{◌≡◌, ◌↔◌, ℕ, zero, ◌+◌, ◌++◌, if◌then◌else◌, Bool, true, false, List, [], ◌∷◌, filter, Option, Some, None, refl, sym, ap, subst, ◌∙◌}
use Rattle.std.specs.Prelude.{codes, option_and_then}
use Rattle.std.specs.List.{flat_map}
use Rattle.std.specs.Option.{option_or}
use Rattle.ar_base.specs.Lists.{Along, Stands}
use Rattle.ar_base.specs.Lists as along
use Rattle.ar_base.specs.Numbers.{NameId}
use Rattle.ar_base.specs.Texts.{text_at}
use Rattle.ar_base.specs.declared.places.Place.{Place}
use Rattle.ar_syntax.specs.declared.items.DomainBody.{DomainBody}
use Rattle.ar_syntax.specs.declared.items.DomainBody.TheVariants as body
use Rattle.ar_syntax.specs.declared.members.Member.{Member, out-Member}
use Rattle.ar_syntax.specs.declared.members.Setting.{Setting}
use Rattle.ar_syntax.specs.declared.members.TypeForm.{TypeForm}
use Rattle.ar_syntax.specs.declared.paths.Path.{Path}
use Rattle.ar_syntax.specs.declared.paths.PathStart.{PathStart}
use Rattle.domains.specs.declared.Domain.{Domain}
use Rattle.parser_laws.specs.Expressions.{SamePath, SameOption, SameInstr}
use Rattle.parser_laws.specs.Members.{SameMember, SameSetting}
use Rattle.parser_laws.specs.Models.{SameDomain, symbols, range}
use Rattle.parser_laws.specs.Opened.{SameKind}
use Rattle.class_table.specs.Declaring.{MemberForm, NamedType, DomainType, ClassType, Declared}
use Rattle.class_table.specs.Members.{Site, NamedMember, MemberKind, domain_body}
use Rattle.class_table.specs.Tables.{IsDomainOf}
use Rattle.class_table.specs.Tables.IsDomainOf.{symbols as of_symbols}
use Rattle.hierarchy.specs.Models.{RootedModel}
use Rattle.hierarchy.specs.Units.{UnitPath, Thing, numbers}
use Rattle.hierarchy.specs.Walks.{LeadsTo, IsThingAt, Finds}
use Rattle.hierarchy.specs.Listing.{all_in, asserted, hidden, found, forms_at, is_way_of, ways_declared}
use Rattle.hierarchy.specs.Paths.{name_text, prefix, thing_path, unit_path}
use Rattle.hierarchy.specs.PathsInside.{dotted}
use Rattle.hierarchy.specs.Settings.{TargetWord, Named, target_of, same_target, settings_at, Attribute, setting_for, set_by, outermost, target_in, declared_in, in_force_by, in_force_given, in_force}
use Rattle.hierarchy.specs.TypeDomains.{HasDomain, boolean, named}
use Rattle.source_laws.specs.Named.{SameMeant, SameNamed}
use Rattle.source_laws.specs.Named as meant
use Rattle.source_laws.specs.Tables.{SameType, SameTable, SameRooted}
use Rattle.source_laws.specs.Units.{SameAttribute, SameIn}
use Rattle.source_laws.specs.Views.{SameForms}
use Rattle.source_laws.specs.Views as same
use Rattle.source_laws.proofs.Laid.{along_joined}
use Rattle.source_laws.proofs.Named.{Both, neither, both, types_both}
use Rattle.source_laws.proofs.Leading.{name_same, walks_there}
use Rattle.source_laws.proofs.Turned.{rooted_turned}
use Rattle.source_laws.proofs.Settled.{target_same, settings_same, forms_there, passes_there}

-- Texts of paths

module _ (m n : RootedModel) (agree : m.names ≡ n.names) where
  text_same : (x : ℕ) → name_text m x ≡ name_text n x
  text_same x = ap (λ (ts : List (List ℕ)). text_at ts x) agree

  prefix_same : (u : UnitPath) → prefix m u ≡ prefix n u
  prefix_same [] = refl
  prefix_same (l ∷ u) =
      ap (λ (t : List ℕ). t ++ (name_text m l.name ++ codes ".")) (prefix_same u)
      ∙ ap (λ (t : List ℕ). prefix n u ++ (t ++ codes ".")) (text_same l.name)

  pub thing_path_same : (t : Thing) → thing_path m t ≡ thing_path n t
  thing_path_same t =
      ap (λ (a : List ℕ). a ++ name_text m t.name) (prefix_same t.unit)
      ∙ ap (λ (a : List ℕ). prefix n t.unit ++ a) (text_same t.name)

  pub unit_path_same : (u : UnitPath) → unit_path m u ≡ unit_path n u
  unit_path_same [] = refl
  unit_path_same (l ∷ u) =
      ap (λ (a : List ℕ). a ++ name_text m l.name) (prefix_same u)
      ∙ ap (λ (a : List ℕ). prefix n u ++ a) (text_same l.name)

  pub dotted_same : (xs : List ℕ) → dotted m xs ≡ dotted n xs
  dotted_same [] = refl
  dotted_same (x ∷ []) = text_same x
  dotted_same (x ∷ y ∷ more) =
      ap (λ (a : List ℕ). a ++ (codes "." ++ dotted m (y ∷ more))) (text_same x)
      ∙ ap (λ (a : List ℕ). name_text n x ++ (codes "." ++ a)) (dotted_same (y ∷ more))

-- Settings

either_same : {A : Type 0} {R : A → A → Type 0} {a b c d : Option A} → Both R a b → Both R c d
    → Both R (option_or a c) (option_or b d)
either_same neither s = s
either_same (both r) s = both r

setting_picked : (c : Bool) {a b o p : Option Attribute} → Both SameAttribute a b → Both SameAttribute o p
    → Both SameAttribute (if c then a else o) (if c then b else p)
setting_picked true r s = r
setting_picked false r s = s

-- the first setting of a target
setting_same : (u : UnitPath) (s : Site) (k : ℕ) (target : List TargetWord) (xs ys : List Setting)
    → Along SameSetting xs ys → Both SameAttribute (setting_for u s k xs target) (setting_for u s k ys target)
setting_same u s k target [] [] along.none = neither
setting_same u s k target _ _ (along.one_and {a = x} {b = y} {xs = xs} {ys = ys} r more) =
    subst (λ (ws : List TargetWord). Both SameAttribute (setting_for u s k (x ∷ xs) target)
    (if same_target ws target then Some (record { unit = u; site = s; setting = Some k; value = y.value })
    else setting_for u s (k + 1) ys target)) (target_same r)
    (setting_picked (same_target (target_of x) target)
    (both (record { unit = refl; site = refl; setting = refl; value = r.value }))
    (setting_same u s (k + 1) target xs ys more))

target_in_same : (x : ℕ) {k l : MemberKind} → SameMeant k l → target_in x k ≡ target_in x l
target_in_same x meant.inner = refl
target_in_same x (meant.clone s) = refl
target_in_same x (meant.alias s) = refl
target_in_same x (meant.variable along.none) = refl
target_in_same x (meant.variable (along.one_and r more)) =
    ap (λ (ws : List TargetWord). Some (Named x ∷ ws)) (target_same r)
target_in_same x (meant.parameter s) = refl
target_in_same x meant.kept = refl
target_in_same x meant.event = refl
target_in_same x (meant.observer s) = refl

declared_same : (u : UnitPath) (s : Site) {k l : MemberKind} → SameMeant k l
    → Both SameAttribute (declared_in u s k) (declared_in u s l)
declared_same u s meant.inner = neither
declared_same u s (meant.clone r) = neither
declared_same u s (meant.alias r) = neither
declared_same u s (meant.variable along.none) = neither
declared_same u s (meant.variable (along.one_and r more)) =
    both (record { unit = refl; site = refl; setting = refl; value = r.value })
declared_same u s (meant.parameter r) = both (record { unit = refl; site = refl; setting = refl; value = r })
declared_same u s meant.kept = neither
declared_same u s meant.event = neither
declared_same u s (meant.observer r) = neither

-- both or neither, as a clause says it
pub as_option : {A : Type 0} {R : A → A → Type 0} {a b : Option A} → Both R a b → SameOption R a b
as_option neither = tt
as_option (both r) = r

-- Members by their forms

asserted_same : {f g : MemberForm} → SameForms f g → Along SameInstr (asserted f) (asserted g)
asserted_same same.extends = along.none
asserted_same (same.declares i h) = along.none
asserted_same (same.block s) = along.none
asserted_same (same.clones s) = along.none
asserted_same (same.embeds s) = along.none
asserted_same (same.parameter s) = along.none
asserted_same same.kept = along.none
asserted_same same.event = along.none
asserted_same (same.observer s) = along.none
asserted_same (same.hides s) = along.none
asserted_same (same.local s r) = along.none
asserted_same (same.sync s) = along.none
asserted_same (same.asserts s) = along.one_and s along.none

hidden_same : {f g : MemberForm} → SameForms f g → Along SamePath (hidden f) (hidden g)
hidden_same same.extends = along.none
hidden_same (same.declares i h) = along.none
hidden_same (same.block s) = along.none
hidden_same (same.clones s) = along.none
hidden_same (same.embeds s) = along.none
hidden_same (same.parameter s) = along.none
hidden_same same.kept = along.none
hidden_same same.event = along.none
hidden_same (same.observer s) = along.none
hidden_same (same.hides s) = along.one_and s along.none
hidden_same (same.local s r) = along.none
hidden_same (same.sync s) = along.none
hidden_same (same.asserts s) = along.none

way_same : (x : ℕ) {f g : MemberForm} → SameForms f g → is_way_of x f ≡ is_way_of x g
way_same x same.extends = refl
way_same x (same.declares i h) = refl
way_same x (same.block s) = refl
way_same x (same.clones s) = refl
way_same x (same.embeds s) = refl
way_same x (same.parameter s) = refl
way_same x same.kept = refl
way_same x same.event = refl
way_same x (same.observer s) = refl
way_same x (same.hides s) = refl
way_same x (same.local s r) = refl
way_same x (same.sync s) = refl
way_same x (same.asserts s) = refl

ways_same : (x : ℕ) (fs gs : List MemberForm) → Along SameForms fs gs
    → Along SameForms (filter (is_way_of x) fs) (filter (is_way_of x) gs)
ways_same x [] [] along.none = along.none
ways_same x _ _ (along.one_and {a = f} {b = g} {xs = fs} {ys = gs} s more) =
    subst (λ (c : Bool). Along SameForms (filter (is_way_of x) (f ∷ fs))
    (if c then g ∷ filter (is_way_of x) gs else filter (is_way_of x) gs)) (way_same x s)
    (go (is_way_of x f) (ways_same x fs gs more))
  where
    go : (c : Bool) → Along SameForms (filter (is_way_of x) fs) (filter (is_way_of x) gs)
        → Along SameForms (if c then f ∷ filter (is_way_of x) fs else filter (is_way_of x) fs)
        (if c then g ∷ filter (is_way_of x) gs else filter (is_way_of x) gs)
    go true a = along.one_and s a
    go false a = a

all_in_same : {A : Type 0} {R : A → A → Type 0} (u : UnitPath) (xs ys : List A) → Along R xs ys
    → Along (SameIn R) (all_in u xs) (all_in u ys)
all_in_same u [] [] along.none = along.none
all_in_same u _ _ (along.one_and {xs = xs} {ys = ys} r more) = along.one_and (refl, r) (all_in_same u xs ys more)

tests_same : {A : Type 0} {R : A → A → Type 0} (test : MemberForm → List A)
    → ((f g : MemberForm) → SameForms f g → Along R (test f) (test g)) → (fs gs : List MemberForm)
    → Along SameForms fs gs → Along R (flat_map test fs) (flat_map test gs)
tests_same test one [] [] along.none = along.none
tests_same test one _ _ (along.one_and {a = f} {b = g} {xs = fs} {ys = gs} s more) =
    along_joined (one f g s) (tests_same test one fs gs more)

-- Domains

domain_of : (d e : Declared) → d.symbols ≡ e.symbols → (x y : DomainBody) → SameDomain x y → (v : Domain)
    → IsDomainOf d.symbols x v → IsDomainOf e.symbols y v
domain_of d e i x y (range f) v h =
    subst (λ (z : DomainBody). IsDomainOf e.symbols z v) f (subst (λ (ss : List ℕ). IsDomainOf ss x v) i h)
domain_of d e i x y (symbols a b f g same) v h =
    subst (λ (z : DomainBody). IsDomainOf e.symbols z v) (sym g)
    (go v (subst (λ (ss : List ℕ). IsDomainOf ss (body.Symbols a) v) i
    (subst (λ (z : DomainBody). IsDomainOf d.symbols z v) f h)))
  where
    go : (w : Domain) → IsDomainOf e.symbols (body.Symbols a) w → IsDomainOf e.symbols (body.Symbols b) w
    go _ (of_symbols {numbers = numbers} h) =
        of_symbols
        (subst (λ (z : List (NameId × Place)). Along (λ (n : NameId × Place) (k : ℕ). Stands e.symbols k n.0.n) z
        numbers.items) same h)

named_domain : {a b : Option NamedType} {x : DomainBody} → Both SameType a b → option_and_then domain_body a ≡ Some x
    → (y : DomainBody) × (option_and_then domain_body b ≡ Some y) × SameDomain x y
named_domain neither e = cc
named_domain {x = x} (both {a = t} {b = u} s) e = go t u s e
  where
    go : (t u : NamedType) → SameType t u → domain_body t ≡ Some x
        → (y : DomainBody) × (domain_body u ≡ Some y) × SameDomain x y
    go (DomainType v) (DomainType w) s e =
        let i : v ≡ x = cc in (w, refl, subst (λ (z : DomainBody). SameDomain z w) i s)
    go (ClassType v) (ClassType w) s e = cc
    go _ _ s e = absurd s

pub domains_there : (d e : Declared) → SameTable d e → (f : TypeForm) (v : Domain) → HasDomain d f v → HasDomain e f v
domains_there d e agree _ _ boolean = boolean
domains_there d e agree _ v (named {x = x} {declared = b} i h) =
    let o = named_domain (types_both d e agree x.n) i in
    named o.1 (domain_of d e agree.symbols b o.0 o.2 v h)

module _ (opens : (m n : Member) → SameMember m n → SameKind (out-Member m) (out-Member n)) (m n : RootedModel)
    (agree : SameRooted m n) where
  -- Paths

  pub leads_to_there : {u : UnitPath} {start : PathStart} {names : List ℕ} {t : Thing} → LeadsTo m u start names t
      → LeadsTo n u start names t
  leads_to_there h = record { front = h.front; split = h.split; reaches = walks_there opens m n agree h.reaches }

  pub thing_there : (test : MemberKind → Bool) → ((k l : MemberKind) → SameMeant k l → test k ≡ test l) → (u : UnitPath)
      (start : PathStart) (names : List ℕ) (t : Thing) → IsThingAt m test u start names t
      → IsThingAt n test u start names t
  thing_there test one u start names t h =
      record { leads = leads_to_there h.leads; has = passes_there opens m n agree test one t h.has }

  -- Values in force

  set_by_same : (u : UnitPath) (s : Option Site) (target : List TargetWord)
      → Both SameAttribute (set_by m u s target) (set_by n u s target)
  set_by_same u None target = neither
  set_by_same u (Some s) target =
      setting_same u s zero target (settings_at m s) (settings_at n s) (settings_same opens m n agree s)

  outermost_same : (u : UnitPath) (target : List TargetWord)
      → Both SameAttribute (outermost m u target) (outermost n u target)
  outermost_same [] target = neither
  outermost_same (l ∷ u) target =
      either_same (outermost_same u (Named l.name ∷ target)) (set_by_same u l.set_at target)

  force_same : (u : UnitPath) (target : Option (List TargetWord)) {a b : Option Attribute} → Both SameAttribute a b
      → Both SameAttribute (in_force_by m u target a) (in_force_by n u target b)
  force_same u None s = neither
  force_same u (Some target) s = either_same (outermost_same u target) s

  given_same : (u : UnitPath) {g h : Option NamedMember} → Both SameNamed g h
      → Both SameAttribute (in_force_given m u g) (in_force_given n u h)
  given_same u neither = neither
  given_same u (both {a = g} {b = h} r) =
      subst (λ (s : Site). Both SameAttribute (in_force_given m u (Some g))
      (in_force_by n u (target_in h.name h.kind) (declared_in u s h.kind))) r.site
      (subst (λ (t : Option (List TargetWord)). Both SameAttribute (in_force_given m u (Some g))
      (in_force_by n u t (declared_in u g.site h.kind)))
      (target_in_same g.name r.kind ∙ ap (λ (x : ℕ). target_in x h.kind) r.name)
      (force_same u (target_in g.name g.kind) (declared_same u g.site r.kind)))

  -- the value in force of a thing
  pub in_force_same : (t : Thing) → Both SameAttribute (in_force m t) (in_force n t)
  in_force_same t = given_same t.unit (name_same opens m n agree t.unit t.name)

  -- Forms

  found_same : {A : Type 0} {R : A → A → Type 0} (test : MemberForm → List A)
      → ((f g : MemberForm) → SameForms f g → Along R (test f) (test g)) → (us : List UnitPath)
      → Along (SameIn R) (found m test us) (found n test us)
  found_same test one [] = along.none
  found_same test one (u ∷ us) =
      along_joined
      (all_in_same u (flat_map test (forms_at m u)) (flat_map test (forms_at n u))
      (tests_same test one (forms_at m u) (forms_at n u) (forms_there opens m n agree u))) (found_same test one us)

  pub assertions_same : (us : List UnitPath) → Along (SameIn SameInstr) (found m asserted us) (found n asserted us)
  assertions_same us = found_same asserted (λ f g s. asserted_same s) us

  pub hidden_paths_same : (us : List UnitPath) → Along (SameIn SamePath) (found m hidden us) (found n hidden us)
  hidden_paths_same us = found_same hidden (λ f g s. hidden_same s) us

  pub ways_there : (e : Thing) → Along SameForms (ways_declared m e) (ways_declared n e)
  ways_there e = ways_same e.name (forms_at m e.unit) (forms_at n e.unit) (forms_there opens m n agree e.unit)

-- what a path finds
pub found_both : (opens : (m n : Member) → SameMember m n → SameKind (out-Member m) (out-Member n)) (m n : RootedModel)
    → SameRooted m n → (test : MemberKind → Bool) → ((k l : MemberKind) → SameMeant k l → test k ≡ test l)
    → (u : UnitPath) (p : Path) (t : Thing) → (Finds m test u p t ↔ Finds n test u p t)
found_both opens m n s test one u p t = (
  thing_there opens m n s test one u p.start (numbers p.names.items) t,
  thing_there opens n m (rooted_turned s) test one u p.start (numbers p.names.items) t,
)
