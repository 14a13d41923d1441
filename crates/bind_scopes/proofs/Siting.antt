-- What stands at the members of things.
use Rattle.std.proofs.Common.{◌≡◌, ℕ, zero, suc, ◌+◌, Bool, true, false, List, [], ◌∷◌, Option, Some, None, slice_get, option_map, option_and_then, if◌then◌else◌, refl, sym, ◌∙◌, ap, subst, arith}
use Rattle.std.proofs.Common.{◌≤◌, length}
use Rattle.std.specs.Option.{option_or}
use Rattle.std.proofs.lemmas.Option.{slice_get_past}
use Rattle.ar_base.specs.Lists.{Stands, IsOneOf, Along}
use Rattle.ar_syntax.specs.declared.expressions.RawExpr.{RawExpr}
use Rattle.ar_syntax.specs.declared.members.Member.{out-Member}
use Rattle.ar_syntax.specs.declared.members.Member.TheOpen as member
use Rattle.ar_syntax.specs.declared.members.Setting.{Setting}
use Rattle.ar_syntax.specs.declared.members.TypeForm.{TypeForm}
use Rattle.class_table.specs.Declaring.{MemberForm, Declared}
use Rattle.class_table.specs.Members.{Site, NamedMember, MemberKind, Variable, Parameter, Kept, Inner, Clone, Alias, Event, Observer, owned_at, names_of, names_of_form}
use Rattle.class_table.specs.TablesInside.{IsBodyOf}
use Rattle.class_table.specs.declared.tables.Body.{Body}
use Rattle.class_table.specs.declared.tables.Classes.{Classes}
use Rattle.class_table.specs.declared.tables.Owned.{Owned}
use Rattle.class_table.specs.declared.tables.Owned.TheVariants.{Plain, Nested}
use Rattle.class_table.proofs.MemberNames.{site_there, site_past}
use Rattle.hierarchy.specs.Models.{RootedModel}
use Rattle.hierarchy.specs.ModelsInside.{IsRootedTable}
use Rattle.hierarchy.specs.Units.{UnitPath, Thing, name_at}
use Rattle.hierarchy.specs.Walks.{is_variable, is_parameter}
use Rattle.hierarchy.specs.Settings.{Attribute, TargetWord, Named, settings_of, settings_at, setting_for, set_by, outermost, target_in, target_of, declared_in, in_force, in_force_by, in_force_given, same_target}
use Rattle.hierarchy.specs.Tie.{IsSource, IsAttribute, HasAttribute}
use Rattle.hierarchy.specs.declared.tree.Attribute as tree
use Rattle.hierarchy.specs.declared.tree.Source.{Source}
use Rattle.source_meaning.specs.Means.{is_valued}
use Rattle.instantiate.proofs.Named.{given_at, declares_owned, single_one}
use Rattle.instantiate.proofs.Parametered.{parameter_owned, IsParameterSo, typed, kept}
use Rattle.instantiate.specs.Values.{parameter_type_in, parameter_type}
use Rattle.bind_scopes.specs.Sites.{owned_in, reads_value, is_read, value_of_parameter, looked_up_value, written_of}

-- the member at a place, in the table and as it is declared
pub owned_same : (d : Declared) (c : Classes) → Along IsBodyOf c.bodies.items d.bodies
    → (s : Source) (site : Site) (o : Option ℕ) → IsSource site o s → owned_in c s ≡ owned_at d site
owned_same d c shown s site o is = by (slice_get c.bodies.items s.body.n) refl ∙ moved
  where
    moved : owned_at d (record { body = s.body.n; place = s.member }) ≡ owned_at d site
    moved = ap (λ (n : ℕ). owned_at d (record { body = n; place = s.member })) is.body
        ∙ ap (λ (n : ℕ). owned_at d (record { body = site.body; place = n })) is.member

    by : (b : Option Body) → slice_get c.bodies.items s.body.n ≡ b
        → option_and_then (λ (b : Body). slice_get b.own.items s.member) b
        ≡ owned_at d (record { body = s.body.n; place = s.member })
    by None e = site_past d c.bodies.items shown s.body.n s.member (past c.bodies.items s.body.n e)
      where
        past : (bodies : List Body) (n : ℕ) → slice_get bodies n ≡ None → length bodies ≤ n
        past [] n e = omega arith
        past (b ∷ bs) zero e = cc
        past (b ∷ bs) (suc n) e = let h = past bs n e in omega (arith, h)
    by (Some b) e = site_there d c.bodies.items shown s.body.n s.member b e

-- a parameter is read where it has a value
read_form : (f : MemberForm) (k : MemberKind) → is_parameter k ≡ true → (g : NamedMember) → g.kind ≡ k
    → IsParameterSo g (parameter_type_in f) → reads_value f ≡ is_valued k
read_form (member.Parameter t x at e) k p g i (typed v j) = ap is_valued (sym j ∙ i)
read_form (member.Kept x at span) k p g i (kept j) = ap is_valued (sym j ∙ i)
read_form (member.Extends x at) k p g i h = elim h [ ]
read_form (member.Declare t names settings) k p g i h = elim h [ ]
read_form (member.Block u) k p g i h = elim h [ ]
read_form (member.Clones q x at) k p g i h = elim h [ ]
read_form (member.Embeds q x at) k p g i h = elim h [ ]
read_form (member.Event x at span) k p g i h = elim h [ ]
read_form (member.Observer t x at e) k p g i h = elim h [ ]
read_form (member.Hide q) k p g i h = elim h [ ]
read_form (member.Local x at guard action) k p g i h = elim h [ ]
read_form (member.Sync x at parts) k p g i h = elim h [ ]
read_form (member.Assert q) k p g i h = elim h [ ]

read_owned : (o : Option Owned) (k : MemberKind) → is_parameter k ≡ true → (g : NamedMember) → g.kind ≡ k
    → IsParameterSo g (parameter_type o) → is_read o ≡ is_valued k
read_owned None k p g i h = elim h [ ]
read_owned (Some (Plain m)) k p g i h = read_form (out-Member m) k p g i h
read_owned (Some (Nested x at b)) k p g i h = elim h [ ]

pub read_parameter : (m : RootedModel) (u : UnitPath) (x : ℕ) (g : NamedMember) → name_at m u x ≡ Some g
    → is_parameter g.kind ≡ true → is_read (owned_at m.declared g.site) ≡ is_valued g.kind
read_parameter m u x g e p =
    let at = given_at m u x g e in
    read_owned (owned_at m.declared g.site) g.kind p g refl
    (parameter_owned m.declared g.site g p (owned_at m.declared g.site) at.given)

-- the settings of a variable are those of the member that gives it
pub variable_settings : (m : RootedModel) (u : UnitPath) (x : ℕ) (g : NamedMember) (f : TypeForm)
    (settings : List Setting) → name_at m u x ≡ Some g → g.kind ≡ Variable f settings
    → settings_of (owned_at m.declared g.site) ≡ settings
variable_settings m u x g f settings e k =
    let at = given_at m u x g e in
    let w = declares_owned m.declared g.site g (ap is_variable k) (owned_at m.declared g.site) at.given in
    let j : Variable w.declares.type.form w.declares.settings.items ≡ Variable f settings = sym w.declares.kind ∙ k in
    let i : w.declares.settings.items ≡ settings = cc in w.settings_are ∙ i

-- the value of a parameter is that of the member that gives it
value_form : (d : Declared) (s : Site) (f : MemberForm) (g : NamedMember) (t : TypeForm) (e : RawExpr)
    → IsOneOf (names_of_form d s f) g → g.kind ≡ Parameter t e → IsParameterSo g (parameter_type_in f) → value_of_parameter f ≡ Some e
value_form d s (member.Parameter t x at v) g f e h k (typed w j) =
    let q : Parameter t.form v ≡ Parameter f e = (single_one s x at (Parameter t.form v) g h).1 ∙ k in let r : v ≡ e = cc in ap (λ (z : RawExpr). Some z) r
value_form d s (member.Kept x at span) g f e h k (kept j) = let q : Kept ≡ Parameter f e = sym j ∙ k in cc
value_form d s (member.Extends x at) g t e o k h = elim h [ ]
value_form d s (member.Declare t names settings) g f e o k h = elim h [ ]
value_form d s (member.Block u) g t e o k h = elim h [ ]
value_form d s (member.Clones q x at) g t e o k h = elim h [ ]
value_form d s (member.Embeds q x at) g t e o k h = elim h [ ]
value_form d s (member.Event x at span) g t e o k h = elim h [ ]
value_form d s (member.Observer t x at v) g f e o k h = elim h [ ]
value_form d s (member.Hide q) g t e o k h = elim h [ ]
value_form d s (member.Local x at guard action) g t e o k h = elim h [ ]
value_form d s (member.Sync x at parts) g t e o k h = elim h [ ]
value_form d s (member.Assert q) g t e o k h = elim h [ ]

value_owned : (d : Declared) (s : Site) (o : Option Owned) (g : NamedMember) (t : TypeForm) (e : RawExpr)
    → IsOneOf (names_of d s o) g → g.kind ≡ Parameter t e → IsParameterSo g (parameter_type o) → looked_up_value o ≡ Some e
value_owned d s None g t e i k h = elim h [ ]
value_owned d s (Some (Plain m)) g t e i k h = value_form d s (out-Member m) g t e i k h
value_owned d s (Some (Nested x at b)) g t e i k h = elim h [ ]

parameter_value : (m : RootedModel) (u : UnitPath) (x : ℕ) (g : NamedMember) (t : TypeForm) (e : RawExpr)
    → name_at m u x ≡ Some g → g.kind ≡ Parameter t e → looked_up_value (owned_at m.declared g.site) ≡ Some e
parameter_value m u x g t e n k =
    let at = given_at m u x g n in
    value_owned m.declared g.site (owned_at m.declared g.site) g t e at.given k
    (parameter_owned m.declared g.site g (ap is_parameter k) (owned_at m.declared g.site) at.given)

-- Values in force

-- the expression at a site
abbrev pub written_at : Declared → Site → Option ℕ → Option RawExpr
written_at d s setting = written_of setting (owned_at d s)

-- the value is written at its site
abbrev pub IsWritten : RootedModel → Attribute → Type 0
IsWritten m a = written_at m.declared a.site a.setting ≡ Some a.value

module _ (m : RootedModel) (u : UnitPath) (s : Site) (all : List Setting) (target : List TargetWord) where
  set_written : (k : ℕ) (xs : List Setting) → ((n : ℕ) (x : Setting) → Stands xs n x → Stands all (k + n) x)
      → (a : Attribute) → setting_for u s k xs target ≡ Some a
      → (n : ℕ) × (x : Setting) × (a.site ≡ s) × (a.setting ≡ Some n) × Stands all n x × (a.value ≡ x.value)
  set_written k [] h a e = cc
  set_written k (x ∷ xs) h a e = by (same_target (target_of x) target) e
      (λ f. set_written (k + 1) xs (λ n y q. subst (λ (i : ℕ). Stands all i y) (omega arith) (h (suc n) y q)) a f)
    where
      by : (b : Bool) → (if b then Some (record { unit = u; site = s; setting = Some k; value = x.value })
          else setting_for u s (k + 1) xs target) ≡ Some a
          → (setting_for u s (k + 1) xs target ≡ Some a
          → (n : ℕ) × (x : Setting) × (a.site ≡ s) × (a.setting ≡ Some n) × Stands all n x × (a.value ≡ x.value))
          → (n : ℕ) × (x : Setting) × (a.site ≡ s) × (a.setting ≡ Some n) × Stands all n x × (a.value ≡ x.value)
      by true f more =
          let one : Attribute = record { unit = u; site = s; setting = Some k; value = x.value } in
          let q : one ≡ a = cc in (
            k,
            x,
            ap (λ (z : Attribute). z.site) (sym q),
            ap (λ (z : Attribute). z.setting) (sym q),
            subst
                (λ (i : ℕ). Stands all i x) (omega arith) (h 0 x refl),
            ap (λ (z : Attribute). z.value) (sym q),
          )
      by false f more = more f

module _ (m : RootedModel) where
  set_by_written : (u : UnitPath) (o : Option Site) (target : List TargetWord) (a : Attribute)
      → set_by m u o target ≡ Some a → IsWritten m a
  set_by_written u None target a e = cc
  set_by_written u (Some s) target a e =
      let w = set_written m u s (settings_at m s) target 0 (settings_at m s) (λ n x q. let i : n ≡ 0 + n = omega arith in subst (λ (z : ℕ). Stands (settings_at m s) z x) i q) a e in
      ap (λ (z : Site). written_at m.declared z a.setting) w.2
      ∙ (ap (λ (z : Option ℕ). written_at m.declared s z) w.3
      ∙ (ap (λ (z : Option Setting). option_map (λ (x : Setting). x.value) z) w.4
      ∙ ap (λ (z : RawExpr). Some z) (sym w.5)))

  outer_written : (u : UnitPath) (target : List TargetWord) (a : Attribute) → outermost m u target ≡ Some a
      → IsWritten m a
  outer_written [] target a e = cc
  outer_written (l ∷ above) target a e =
      by (outermost m above (Named l.name ∷ target)) refl e (λ f. outer_written above (Named l.name ∷ target) a f)
    where
      by : (o : Option Attribute) → outermost m above (Named l.name ∷ target) ≡ o
          → option_or o (set_by m above l.set_at target) ≡ Some a
          → (outermost m above (Named l.name ∷ target) ≡ Some a → IsWritten m a) → IsWritten m a
      by None i f more = set_by_written above l.set_at target a f
      by (Some b) i f more = more (i ∙ f)

  own_written : (u : UnitPath) (x : ℕ) (g : NamedMember) → name_at m u x ≡ Some g → (k : MemberKind) → g.kind ≡ k
      → (a : Attribute) → declared_in u g.site k ≡ Some a → IsWritten m a
  own_written u x g n (Variable f []) i a e = cc
  own_written u x g n (Variable f (y ∷ more)) i a e =
      let s = variable_settings m u x g f (y ∷ more) n i in
      let one : Attribute = record { unit = u; site = g.site; setting = Some 0; value = y.value } in
      let q : one ≡ a = cc in
      subst (λ (z : Attribute). IsWritten m z) q
      (ap (λ (z : List Setting). option_map (λ (w : Setting). w.value) (slice_get z 0)) s)
  own_written u x g n (Parameter t v) i a e =
      let one : Attribute = record { unit = u; site = g.site; setting = None; value = v } in
      let q : one ≡ a = cc in
      subst (λ (z : Attribute). IsWritten m z) q (parameter_value m u x g t v n i)
  own_written u x g n Kept i a e = cc
  own_written u x g n Event i a e = cc
  own_written u x g n (Observer t v) i a e = cc
  own_written u x g n (Inner b s) i a e = cc
  own_written u x g n (Clone p) i a e = cc
  own_written u x g n (Alias p) i a e = cc

  -- a value in force is written at its site
  pub force_written : (t : Thing) (a : Attribute) → in_force m t ≡ Some a → IsWritten m a
  force_written t a e = by (name_at m t.unit t.name) refl e
    where
      last : (g : NamedMember) → name_at m t.unit t.name ≡ Some g → (words : Option (List TargetWord))
          → in_force_by m t.unit words (declared_in t.unit g.site g.kind) ≡ Some a → IsWritten m a
      last g n None f = cc
      last g n (Some words) f = or (outermost m t.unit words) refl f
        where
          or : (o : Option Attribute) → outermost m t.unit words ≡ o
              → option_or o (declared_in t.unit g.site g.kind) ≡ Some a → IsWritten m a
          or None i h = own_written t.unit t.name g n g.kind refl a h
          or (Some b) i h = outer_written t.unit words a (i ∙ h)

      by : (o : Option NamedMember) → name_at m t.unit t.name ≡ o → in_force_given m t.unit o ≡ Some a → IsWritten m a
      by None n f = cc
      by (Some g) n f = last g n (target_in g.name g.kind) f

-- Values that a thing declares itself

module _ (m : RootedModel) where
  set_setting : (u : UnitPath) (o : Option Site) (target : List TargetWord) (a : Attribute)
      → set_by m u o target ≡ Some a → a.setting ≡ None → ⊥
  set_setting u None target a e n = cc
  set_setting u (Some s) target a e n =
      let w = set_written m u s (settings_at m s) target 0 (settings_at m s) (λ k x q. let i : k ≡ 0 + k = omega arith in subst (λ (z : ℕ). Stands (settings_at m s) z x) i q) a e in
      let h = w.3 in cc

  outer_setting : (u : UnitPath) (target : List TargetWord) (a : Attribute) → outermost m u target ≡ Some a
      → a.setting ≡ None → ⊥
  outer_setting [] target a e n = cc
  outer_setting (l ∷ above) target a e n =
      by (outermost m above (Named l.name ∷ target)) refl e (λ f. outer_setting above (Named l.name ∷ target) a f n)
    where
      by : (o : Option Attribute) → outermost m above (Named l.name ∷ target) ≡ o
          → option_or o (set_by m above l.set_at target) ≡ Some a
          → (outermost m above (Named l.name ∷ target) ≡ Some a → ⊥) → ⊥
      by None i f more = set_setting above l.set_at target a f n
      by (Some b) i f more = more (i ∙ f)

  own_setting : (u : UnitPath) (s : Site) (k : MemberKind) (a : Attribute) → declared_in u s k ≡ Some a
      → a.setting ≡ None → (a.unit ≡ u) × (is_valued k ≡ true)
  own_setting u s (Variable f []) a e n = cc
  own_setting u s (Variable f (y ∷ more)) a e n =
      let one : Attribute = record { unit = u; site = s; setting = Some 0; value = y.value } in
      let q : one ≡ a = cc in let h = ap (λ (z : Attribute). z.setting) q in cc
  own_setting u s (Parameter t v) a e n =
      let one : Attribute = record { unit = u; site = s; setting = None; value = v } in
      let q : one ≡ a = cc in (ap (λ (z : Attribute). z.unit) (sym q), refl)
  own_setting u s Kept a e n = cc
  own_setting u s Event a e n = cc
  own_setting u s (Observer t v) a e n = cc
  own_setting u s (Inner b o) a e n = cc
  own_setting u s (Clone p) a e n = cc
  own_setting u s (Alias p) a e n = cc

  -- a value in force that stands in no setting is that of a parameter, declared in its unit
  pub force_own : (t : Thing) (a : Attribute) → in_force m t ≡ Some a → a.setting ≡ None
      → (g : NamedMember) × (name_at m t.unit t.name ≡ Some g) × (a.unit ≡ t.unit) × (is_valued g.kind ≡ true)
  force_own t a e none = by (name_at m t.unit t.name) refl e
    where
      last : (g : NamedMember) (words : Option (List TargetWord))
          → in_force_by m t.unit words (declared_in t.unit g.site g.kind) ≡ Some a
          → (a.unit ≡ t.unit) × (is_valued g.kind ≡ true)
      last g None f = cc
      last g (Some words) f = either (outermost m t.unit words) refl f
        where
          either : (o : Option Attribute) → outermost m t.unit words ≡ o
              → option_or o (declared_in t.unit g.site g.kind) ≡ Some a → (a.unit ≡ t.unit) × (is_valued g.kind ≡ true)
          either None i h = own_setting t.unit g.site g.kind a h none
          either (Some b) i h = absurd (outer_setting t.unit words a (i ∙ h) none)

      by : (o : Option NamedMember) → name_at m t.unit t.name ≡ o → in_force_given m t.unit o ≡ Some a
          → (g : NamedMember) × (name_at m t.unit t.name ≡ Some g) × (a.unit ≡ t.unit) × (is_valued g.kind ≡ true)
      by None n f = cc
      by (Some g) n f = let w = last g (target_in g.name g.kind) f in (g, n, w.0, w.1)

-- where nothing stands, nothing is written
pub nothing_written : (setting : Option ℕ) (o : Option Owned) → None ≡ o → None ≡ written_of setting o
nothing_written None o e = ap (written_of None) e
nothing_written (Some k) o e = ap (written_of (Some k)) e

-- what the table says of the value of a thing
pub attribute_written : (m : RootedModel) (c : Classes) (units : List UnitPath) (t : Thing) (b : tree.Attribute)
    (source : Source) → IsRootedTable m c → b.source ≡ source → HasAttribute m units t b
    → (a : Attribute) × (in_force m t ≡ Some a) × IsAttribute units a b
    × (written_of source.setting (owned_in c source) ≡ Some a.value)
attribute_written m c units t b source table e h =
    let is : IsSource h.attribute.site h.attribute.setting source = subst (λ (z : Source). IsSource h.attribute.site h.attribute.setting z) e h.is.source in (
      h.attribute,
      h.in_force,
      h.is,
      ap (λ (o : Option Owned). written_of source.setting o)
          (owned_same m.declared c table.holds.bodies source h.attribute.site h.attribute.setting is)
          ∙ (ap (λ (o : Option ℕ). written_of o (owned_at m.declared h.attribute.site)) is.setting_is
          ∙ force_written m t h.attribute h.in_force),
    )

-- the setting at a place of a declaration
pub setting_written : (settings : List Setting) (k : ℕ) (x : Setting) → Stands settings k x
    → Some x.value ≡ option_map (λ (s : Setting). s.value) (slice_get settings k)
setting_written settings k x s = ap (λ (o : Option Setting). option_map (λ (z : Setting). z.value) o) (sym s)

pub setting_past : (settings : List Setting) (k : ℕ) → length settings ≤ k
    → None ≡ option_map (λ (s : Setting). s.value) (slice_get settings k)
setting_past settings k l = ap (λ (o : Option Setting). option_map (λ (z : Setting). z.value) o)
    (sym (slice_get_past settings k l))
