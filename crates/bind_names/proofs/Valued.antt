-- Values in force and observers, and where they break a rule.
use Rattle.std.proofs.Common.{◌≡◌, ℕ, true, false, List, Option, Some, None, option_map, refl, sym, ◌∙◌, ap, subst}
use Rattle.ar_base.specs.Lists.{Stands, IsOneOf, Along}
use Rattle.ar_base.specs.Numbers.{NameId}
use Rattle.ar_base.specs.declared.places.Place.{Place}
use Rattle.ar_base.proofs.Standing.{stands_one, one_here, one_none, along_on}
use Rattle.ar_syntax.specs.declared.expressions.RawExpr.{RawExpr}
use Rattle.ar_syntax.specs.declared.members.Member.{out-Member}
use Rattle.ar_syntax.specs.declared.members.Member.TheOpen as member
use Rattle.ar_syntax.specs.declared.members.Setting.{Setting}
use Rattle.ar_syntax.specs.declared.members.TypeForm.{TypeForm}
use Rattle.ar_syntax.specs.declared.members.TypeForm.TheVariants as form
use Rattle.typed_expr.specs.declared.expr.ValueKind.{ValueKind}
use Rattle.gts_core.specs.Sound.{kind_of_domain}
use Rattle.class_table.specs.Declaring.{MemberForm, Declared, NamedType, DomainType, ClassType}
use Rattle.class_table.specs.Earliest.{IsEarliest, nowhere}
use Rattle.class_table.specs.Members.{Site, NamedMember, MemberKind, Variable, Observer, names_of, names_of_form, owned_at, declared_kind, member_kind_of, type_named, one_named}
use Rattle.class_table.specs.declared.tables.Owned.{Owned}
use Rattle.class_table.specs.declared.tables.Owned.TheVariants.{Plain, Nested}
use Rattle.class_table.proofs.FirstPlaces.{earliest_same}
use Rattle.class_table.proofs.Looping.{AtItem}
use Rattle.hierarchy.specs.Models.{RootedModel}
use Rattle.hierarchy.specs.ModelsInside.{KeepsTextRules}
use Rattle.hierarchy.specs.Tie.{IsSource, IsPlainNode}
use Rattle.hierarchy.specs.declared.tree.Source.{Source}
use Rattle.hierarchy.specs.declared.tree.MemNode.{MemNode}
use Rattle.class_table.specs.TablesInside.{site_of}
use Rattle.hierarchy.specs.Units.{UnitPath, Thing, name_at, kind_at}
use Rattle.hierarchy.specs.Walks.{PassesTest, thing, is_observer}
use Rattle.hierarchy.specs.Listing.{parameters, observers, things_in}
use Rattle.hierarchy.specs.Settings.{Attribute, in_force}
use Rattle.hierarchy.specs.Tie.{IsVariableNode, IsParameterNode, HasAttribute}
use Rattle.hierarchy.specs.declared.tree.ParNode.{ParNode}
use Rattle.hierarchy.specs.declared.tree.VarNode.{VarNode}
use Rattle.hierarchy.proofs.Things.{flat_origin, listed_has}
use Rattle.source_meaning.specs.Means.{is_valued}
use Rattle.source_meaning.specs.Kinds.{kind_of_type, kind_of_member, IsOfKind}
use Rattle.source_meaning.specs.Tested as s
use Rattle.source_meaning.proofs.Attributed.{valued_attribute}
use Rattle.instantiate.proofs.Named.{given_at, all_one, single_one}
use Rattle.bind_scopes.specs.Naming.{kind_of_parameter}
use Rattle.bind_scopes.specs.Scopes.{IsScope, constants, before}
use Rattle.bind_scopes.specs.declared.scopes.Scope.{Scope}
use Rattle.bind_scopes.specs.declared.scopes.Scope.TheVariants as scope
use Rattle.bind_scopes.proofs.Kinding.{domain_kind, parameter_kind}
use Rattle.bind_scopes.proofs.NamedPaths.{kind_one, one_of_kind}
use Rattle.bind_scopes.proofs.Siting.{force_own}
use Rattle.bind_names.specs.Breaking.{BreaksExpression, BreaksValueInForce, BreaksParameter, BreaksObserver, BreaksThing}
use Rattle.bind_names.specs.Owning.{IsOwnScope, scope_by, observed_form, observed_in}
use Rattle.bind_names.specs.declared.breaches.Rule.{Rule}

-- Things in lists

module _ (things : List Thing) (P : Thing → Place → Type 0) where
  -- the thing at this place of the list has P at the place of the text
  pub record BreaksAt (n : ℕ) (at : Place) : Type 0 where
    pub thing : Thing
    pub stands : Stands things n thing
    pub breaks : P thing at

  pub thing_now : (n : ℕ) (t : Thing) (r : Option Place) → Stands things n t → IsEarliest (P t) r
      → IsEarliest (BreaksAt n) r
  thing_now n t r s h = earliest_same r (λ at b. record { thing = t; stands = s; breaks = b })
      (λ at b. subst (λ (z : Thing). P z at) (stands_one things n b.thing t b.stands s) b.breaks) h

  module _ {A : Type 0} {R : Thing → A → Type 0} (nodes : List A) (along : Along R things nodes) where
    pub thing_to : (k : ℕ) (d : A) (at : Place) → Stands nodes k d → BreaksAt k at → BreaksThing things P at
    thing_to k d at s b = record { thing = b.thing; is_one = one_here things k b.thing b.stands; breaks = b.breaks }

    pub thing_back : (at : Place) → BreaksThing things P at → (k : ℕ)
        × AtItem nodes (λ (j : ℕ) (d : A) (q : Place). BreaksAt j q) k at
    thing_back at b =
        let a = along_on things nodes along b.is_one.place b.thing b.is_one.stands in (
          b.is_one.place,
          record {
            item = a.0;
            stands = a.1;
            has = record { thing = b.thing; stands = b.is_one.stands; breaks = b.breaks };
          },
        )

-- Values

module _ (m : RootedModel) (rule : Rule) (t : Thing) (a : Attribute) (force : in_force m t ≡ Some a) (kind : ValueKind)
    (is : IsOfKind m t kind) where
  pub value_earliest : (e : RawExpr) → a.value ≡ e → (r : Option Place)
      → IsEarliest (BreaksExpression m rule a.unit (s.scope_of t.name a.setting) kind e) r
      → IsEarliest (BreaksValueInForce m rule t) r
  value_earliest e q r h = earliest_same r to from
      (subst (λ (z : RawExpr). IsEarliest (BreaksExpression m rule a.unit (s.scope_of t.name a.setting) kind z) r)
      (sym q) h)
    where
      to : (at : Place) → BreaksExpression m rule a.unit (s.scope_of t.name a.setting) kind a.value at → BreaksValueInForce m
          rule t at
      to at b = record { attribute = a; in_force = force; kind = kind; is_kind = is; breaks = b }

      from : (at : Place) → BreaksValueInForce m rule t at → BreaksExpression m rule a.unit (s.scope_of t.name a.setting) kind
          a.value at
      from at b =
          let i = kind_one b.in_force force in
          let j = one_of_kind b.is_kind is in
          subst (λ (z : ValueKind). BreaksExpression m rule a.unit (s.scope_of t.name a.setting) z a.value at) j
          (subst (λ (z : Attribute). BreaksExpression m rule z.unit (s.scope_of t.name z.setting) b.kind z.value at) i
          b.breaks)

-- the scope of a value by its setting
pub scope_is : (m : RootedModel) (units : List UnitPath) (t : Thing) (own : Scope) (a : Attribute) (setting : Option ℕ)
    → IsOwnScope m units t own → in_force m t ≡ Some a → setting ≡ a.setting
    → IsScope m units a.unit (scope_by own setting) (s.scope_of t.name a.setting)
scope_is m units t own a setting h f e = by setting e
  where
    by : (o : Option ℕ) → o ≡ a.setting → IsScope m units a.unit (scope_by own o) (s.scope_of t.name a.setting)
    by None i = subst (λ (z : Option ℕ). IsScope m units a.unit own (s.scope_of t.name z)) i (h.scope a f (sym i))
    by (Some k) i = subst (λ (z : Option ℕ). IsScope m units a.unit scope.Constants (s.scope_of t.name z)) i constants

-- a variable declares no value without a setting
no_value : (f : TypeForm) (ss : List Setting) → is_valued (Variable f ss) ≡ true → ⊥
no_value f ss e = cc

pub variable_scope : (m : RootedModel) (units : List UnitPath) (t : Thing) (d : VarNode) → IsVariableNode m units t d
    → (own : Scope) → IsOwnScope m units t own
variable_scope m units t d h own = record { scope = λ a f e. absurd (never a f e) }
  where
    never : (a : Attribute) → in_force m t ≡ Some a → a.setting ≡ None → ⊥
    never a f e =
        let w = force_own m t a f e in
        let q = kind_one w.1 h.node.is in
        no_value h.type h.settings (ap is_valued (sym (ap (λ (z : NamedMember). z.kind) q ∙ h.is)) ∙ w.3)

pub parameter_scope : (m : RootedModel) (units : List UnitPath) (t : Thing) (place : ℕ)
    → Stands (parameters m units) place t → IsOwnScope m units t (scope.Before place)
parameter_scope m units t place st = record { scope = λ a f e. let w = force_own m t a f e in before t.name (subst (λ (u : UnitPath). Stands (parameters m units) place (thing u t.name)) (sym w.2) st) }

pub variable_of_kind : (m : RootedModel) (units : List UnitPath) (t : Thing) (d : VarNode) → IsVariableNode m units t d
    → (k : ValueKind) → k ≡ kind_of_domain d.domain → IsOfKind m t k
variable_of_kind m units t d h k e = record {
  member = h.given.kind;
  is = ap (λ (o : Option NamedMember). option_map (λ (z : NamedMember). z.kind) o) h.node.is;
  kind = ap (kind_of_member m) h.is ∙ (domain_kind m h.type d.domain h.domain ∙ ap (λ (z : ValueKind). Some z) (sym e));
}

module _ (m : RootedModel) (units : List UnitPath) (t : Thing) (d : ParNode) (h : IsParameterNode m units t d)
    (v : PassesTest m is_valued t) where
  given_valued : is_valued h.given.kind ≡ true
  given_valued =
      let e : kind_at m t.unit t.name ≡ Some h.given.kind =
      ap (λ (o : Option NamedMember). option_map (λ (z : NamedMember). z.kind) o) h.node.is in
      sym (ap is_valued (kind_one v.is e)) ∙ v.passes

  pub parameter_attribute : HasAttribute m units t d.value
  parameter_attribute = valued_attribute m units t h.given.kind d.value given_valued h.value

  pub parameter_of_kind : (k : ValueKind) → k ≡ kind_of_parameter d.domain → IsOfKind m t k
  parameter_of_kind k e = record {
    member = h.given.kind;
    is = ap (λ (o : Option NamedMember). option_map (λ (z : NamedMember). z.kind) o) h.node.is;
    kind = parameter_kind m h.given.kind d.domain given_valued h.domain ∙ ap (λ (z : ValueKind). Some z) (sym e);
  }

  pub parameter_earliest : (rule : Rule) (r : Option Place) → IsEarliest (BreaksValueInForce m rule t) r
      → IsEarliest (BreaksParameter m rule t) r
  parameter_earliest rule r k = earliest_same r (λ at b. record { valued = v; breaks = b }) (λ at b. b.breaks) k

pub not_valued : (m : RootedModel) (rule : Rule) (t : Thing) → (PassesTest m is_valued t → ⊥)
    → IsEarliest (BreaksParameter m rule t) None
not_valued m rule t n = nowhere (λ at b. n b.valued)

-- Observers

no_declared : (d : Declared) (z : Site) (f : TypeForm) (ss : List Setting) (k : MemberKind) → is_observer k ≡ true
    → declared_kind d z f ss ≡ Some k → ⊥
no_declared d z form.Boolean ss k v e = let q = ap (λ (o : Option MemberKind). option_map is_observer o) e in cc
no_declared d z form.Integer ss k v e = cc
no_declared d z (form.Named x) ss k v e = by (type_named d x.n) e
  where
    by : (t : Option NamedType) → option_map (λ (u : NamedType). member_kind_of z (form.Named x) u ss) t ≡ Some k → ⊥
    by None f = cc
    by (Some (DomainType b)) f = let q = ap (λ (o : Option MemberKind). option_map is_observer o) f in cc
    by (Some (ClassType b)) f = let q = ap (λ (o : Option MemberKind). option_map is_observer o) f in cc

module _ (d : Declared) (z : Site) (g : NamedMember) (v : is_observer g.kind ≡ true) where
  no_observer : (x : NameId) (at : Place) (k : MemberKind) → is_observer k ≡ false → IsOneOf (one_named z x at k) g → ⊥
  no_observer x at k n h = let e = ap is_observer (single_one z x at k g h).1 in cc

  observed_by_form : (f : MemberForm) → IsOneOf (names_of_form d z f) g
      → (t : TypeForm) × (e : RawExpr) × (g.kind ≡ Observer t e) × (observed_form f ≡ Some (t, e))
  observed_by_form (member.Observer t x at e) h = (t.form, e, sym (single_one z x at _ g h).1, refl)
  observed_by_form (member.Declare t names ss) h =
      absurd (no_declared d z t.form ss.items g.kind v
      (all_one z (declared_kind d z t.form ss.items) names.items g h).kind_is)
  observed_by_form (member.Clones p x at) h = absurd (no_observer x at _ refl h)
  observed_by_form (member.Embeds p x at) h = absurd (no_observer x at _ refl h)
  observed_by_form (member.Parameter t x at e) h = absurd (no_observer x at _ refl h)
  observed_by_form (member.Kept x at span) h = absurd (no_observer x at _ refl h)
  observed_by_form (member.Event x at span) h = absurd (no_observer x at _ refl h)
  observed_by_form f h = absurd (one_none g h)

  observed_by_owned : (o : Option Owned) → IsOneOf (names_of d z o) g
      → (t : TypeForm) × (e : RawExpr) × (g.kind ≡ Observer t e) × (observed_in o ≡ Some (t, e))
  observed_by_owned None h = absurd (one_none g h)
  observed_by_owned (Some (Plain w)) h = observed_by_form (out-Member w) h
  observed_by_owned (Some (Nested x at b)) h = absurd (no_observer x at _ refl h)

pub observed_of : (m : RootedModel) (u : UnitPath) (x : ℕ) (g : NamedMember) → name_at m u x ≡ Some g
    → is_observer g.kind ≡ true
    → (t : TypeForm) × (e : RawExpr) × (g.kind ≡ Observer t e)
    × (observed_in (owned_at m.declared g.site) ≡ Some (t, e))
observed_of m u x g e v = observed_by_owned m.declared g.site g v (owned_at m.declared g.site)
    (given_at m u x g e).given

module _ (m : RootedModel) (rule : Rule) (t : Thing) (f : TypeForm) (e : RawExpr)
    (is : kind_at m t.unit t.name ≡ Some (Observer f e)) where
  same_type : (f' : TypeForm) (e' : RawExpr) → kind_at m t.unit t.name ≡ Some (Observer f' e') → (f' ≡ f) × (e' ≡ e)
  same_type f' e' i = let q : Observer f' e' ≡ Observer f e = kind_one i is in (cc, cc)

  pub observer_earliest : (k : ValueKind) → Some k ≡ kind_of_type m f → (r : Option Place)
      → IsEarliest (BreaksExpression m rule t.unit s.Everything k e) r → IsEarliest (BreaksObserver m rule t) r
  observer_earliest k q r h = earliest_same r to from h
    where
      to : (at : Place) → BreaksExpression m rule t.unit s.Everything k e at → BreaksObserver m rule t at
      to at b = record { type = f; written = e; is = is; kind = k; is_kind = sym q; breaks = b }

      from : (at : Place) → BreaksObserver m rule t at → BreaksExpression m rule t.unit s.Everything k e at
      from at b =
          let w = same_type b.type b.written b.is in
          let j : b.kind ≡ k = kind_one (sym (ap (kind_of_type m) w.0) ∙ b.is_kind) (sym q) in
          subst (λ (z : RawExpr). BreaksExpression m rule t.unit s.Everything k z at) w.1
          (subst (λ (z : ValueKind). BreaksExpression m rule t.unit s.Everything z b.written at) j b.breaks)

  pub untyped_observer : None ≡ kind_of_type m f → IsEarliest (BreaksObserver m rule t) None
  untyped_observer q = nowhere (λ at b. by at b)
    where
      by : (at : Place) → BreaksObserver m rule t at → ⊥
      by at b = let w = same_type b.type b.written b.is in let j = q ∙ (sym (ap (kind_of_type m) w.0) ∙ b.is_kind) in cc

-- the site of a node
site_same : (site : Site) (o : Option ℕ) (source : Source) → IsSource site o source
    → site_of (source.body, source.member) ≡ site
site_same site o source h = ap (λ (n : ℕ). record { body = n; place = source.member }) h.body
    ∙ ap (λ (n : ℕ). record { body = site.body; place = n }) h.member

-- an observer is declared where its node says
module _ (m : RootedModel) (units : List UnitPath) (t : Thing) (d : MemNode) (h : IsPlainNode m units t d)
    (v : PassesTest m is_observer t) where
  given_at_node : (f : TypeForm) × (e : RawExpr) × (kind_at m t.unit t.name ≡ Some (Observer f e))
      × (observed_in (owned_at m.declared (site_of (d.source.body, d.source.member))) ≡ Some (f, e))
  given_at_node =
      let k : kind_at m t.unit t.name ≡ Some h.given.kind =
      ap (λ (o : Option NamedMember). option_map (λ (z : NamedMember). z.kind) o) h.node.is in
      let q = kind_one v.is k in
      let w = observed_of m t.unit t.name h.given h.node.is (sym (ap is_observer q) ∙ v.passes) in (
        w.0,
        w.1,
        k ∙ ap (λ (z : MemberKind). Some z) w.2,
        ap (λ (z : Site). observed_in (owned_at m.declared z))
            (site_same h.given.site None d.source h.node.source) ∙ w.3,
      )

  pub observer_there : None ≡ observed_in (owned_at m.declared (site_of (d.source.body, d.source.member))) → ⊥
  observer_there e = let w = given_at_node in let q = e ∙ w.3 in cc

  pub observer_is : (f : TypeForm) (e : RawExpr)
      → Some (f, e) ≡ observed_in (owned_at m.declared (site_of (d.source.body, d.source.member)))
      → kind_at m t.unit t.name ≡ Some (Observer f e)
  observer_is f e q =
      let w = given_at_node in
      let i = kind_one w.3 (sym q) in
      w.2 ∙ ap (λ (z : TypeForm × RawExpr). Some (Observer z.0 z.1)) i

pub observer_has : (m : RootedModel) (units : List UnitPath) → KeepsTextRules m → (n : ℕ) (t : Thing)
    → Stands (observers m units) n t → PassesTest m is_observer t
observer_has m units k n t s = let o = flat_origin (things_in is_observer m) units n t s in listed_has m is_observer k o.item t o.is_one
