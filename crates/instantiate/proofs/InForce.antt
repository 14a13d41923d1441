-- Values in force, found by the way up.
use Rattle.std.proofs.Common.{◌≡◌, ℕ, Bool, true, false, List, [], ◌∷◌, Option, Some, None, refl, sym, ◌∙◌, ap, subst}
use Rattle.std.specs.Option.{option_or}
use Rattle.ar_syntax.specs.declared.expressions.RawExpr.{RawExpr}
use Rattle.ar_syntax.specs.declared.members.Setting.{Setting}
use Rattle.ar_syntax.specs.declared.members.TypeForm.{TypeForm}
use Rattle.class_table.specs.Members.{Site, NamedMember, Variable}
use Rattle.hierarchy.specs.Models.{RootedModel}
use Rattle.hierarchy.specs.Units.{UnitPath, Thing}
use Rattle.hierarchy.specs.Settings.{TargetWord, Named, Init, Reset, target_of, is_state, is_flow, outermost, target_in, declared_in, in_force, in_force_given, in_force_by}
use Rattle.hierarchy.specs.Settings as s
use Rattle.hierarchy.specs.Tie.{IsThingNode, HasAttribute}
use Rattle.hierarchy.specs.declared.tree.MemNode.{MemNode}
use Rattle.hierarchy.specs.declared.tree.Attribute.{Attribute}
use Rattle.ar_base.proofs.Standing.{one_here}
use Rattle.class_table.specs.Declaring.{MemberForm}
use Rattle.class_table.specs.TablesInside.{site_of}
use Rattle.class_table.specs.Members.{owned_at}
use Rattle.hierarchy.specs.Units.{members_at}
use Rattle.hierarchy.specs.Walks.{is_variable}
use Rattle.hierarchy.specs.Listing.{form_of}
use Rattle.hierarchy.specs.Settings.{settings_of}
use Rattle.hierarchy.proofs.TargetWords.{one_init, one_reset}
use Rattle.unit_rules.specs.Rules.{BreaksForm, declares}
use Rattle.unit_rules.specs.Typing.{bounds_variables}
use Rattle.unit_rules.proofs.Sited.{one_flat}
use Rattle.instantiate.specs.Nodes.{IsNodeSo}
use Rattle.instantiate.specs.Values.{KeepsDeclarations, declared_type, last_target_word}
use Rattle.instantiate.specs.InForce.{AreAttribute, none, some}
use Rattle.instantiate.proofs.Named.{IsGivenAt, given_at, DeclaredBy, declares_owned}

module _ (m : RootedModel) (units : List UnitPath) (t : Thing) (g : NamedMember) (d : MemNode)
    (node : IsThingNode m units t g d) (words : List TargetWord) (e : target_in g.name g.kind ≡ Some words) where
  forced : in_force m t ≡ option_or (outermost m t.unit words) (declared_in t.unit g.site g.kind)
  forced = ap (λ (o : Option NamedMember). in_force_given m t.unit o) node.is
      ∙ ap (λ (o : Option (List TargetWord)). in_force_by m t.unit o (declared_in t.unit g.site g.kind)) e

  -- what a unit sets
  pub value_set : (b : Attribute) → AreAttribute units (outermost m t.unit words) (Some b) → HasAttribute m units t b
  value_set b h = go (outermost m t.unit words) refl h
    where
      go : (o : Option s.Attribute) → outermost m t.unit words ≡ o → AreAttribute units o (Some b)
          → HasAttribute m units t b
      go o i (some {a = a} k) = record {
        attribute = a;
        in_force = forced
            ∙ ap (λ (p : Option s.Attribute). option_or p (declared_in t.unit g.site g.kind)) i;
        is = k;
      }

  -- where none does, what the member says
  pub value_own : (own : Option ℕ) (value : RawExpr)
      → declared_in t.unit g.site g.kind ≡ Some (record { unit = t.unit; site = g.site; setting = own; value = value })
      → AreAttribute units (outermost m t.unit words) None
      → HasAttribute m units t (record
      { from = d.unit; source = record { body = d.source.body; member = d.source.member; setting = own } })
  value_own own value f h = go (outermost m t.unit words) refl h
    where
      go : (o : Option s.Attribute) → outermost m t.unit words ≡ o → AreAttribute units o None
          → HasAttribute m units t (record
          { from = d.unit; source = record { body = d.source.body; member = d.source.member; setting = own } })
      go o i none = record {
        attribute = record { unit = t.unit; site = g.site; setting = own; value = value };
        in_force = forced ∙ (ap (λ (p : Option s.Attribute). option_or p (declared_in t.unit g.site g.kind)) i ∙ f);
        is = record {
          unit = node.unit;
          source = record
              { body = node.source.body; member = node.source.member; setting_is = refl };
        };
      }

-- the site of a node is that of what gives its thing
pub node_site : {m : RootedModel} {units : List UnitPath} {t : Thing} {g : NamedMember} {d : MemNode}
    → IsThingNode m units t g d → site_of (d.source.body, d.source.member) ≡ g.site
node_site {g = g} {d = d} node =
    ap (λ (n : ℕ). record { body = n; place = d.source.member }) node.source.body
    ∙ ap (λ (n : ℕ). record { body = g.site.body; place = n }) node.source.member

pub no_some : {A : Type 0} {a : A} → None ≡ Some a → ⊥
no_some e = cc

-- a setting with this one word
pub record HasOne (settings : List Setting) (word : TargetWord) : Type 0 where
  pub one : Setting
  pub is : settings ≡ one ∷ []
  pub target : target_of one ≡ word ∷ []

pub state_one : (settings : List Setting) → is_state settings ≡ true → HasOne settings Init
state_one [] e = cc
state_one (x ∷ []) e = record { one = x; is = refl; target = one_init (target_of x) e }
state_one (x ∷ (y ∷ more)) e = cc

pub flow_one : (settings : List Setting) → is_flow settings ≡ true → HasOne settings Reset
flow_one [] e = cc
flow_one (x ∷ []) e = record { one = x; is = refl; target = one_reset (target_of x) e }
flow_one (x ∷ (y ∷ more)) e = cc

-- the target of a variable with this one setting, and what it declares
pub target_one : (x : ℕ) (f : TypeForm) (settings : List Setting) (word : TargetWord) → HasOne settings word
    → target_in x (Variable f settings) ≡ Some (Named x ∷ (word ∷ []))
target_one x f settings word h = ap (λ (ss : List Setting). target_in x (Variable f ss)) h.is
    ∙ ap (λ (ws : List TargetWord). Some (Named x ∷ ws)) h.target

pub declared_one : (u : UnitPath) (z : Site) (f : TypeForm) (settings : List Setting) (word : TargetWord)
    (h : HasOne settings word)
    → declared_in u z (Variable f settings)
    ≡ Some (record { unit = u; site = z; setting = Some 0; value = h.one.value })
declared_one u z f settings word h = ap (λ (ss : List Setting). declared_in u z (Variable f ss)) h.is

-- what is known of the variable of a node
pub record IsVariableAt (m : RootedModel) (g : NamedMember) : Type 0 where
  pub type : TypeForm
  pub settings : List Setting
  pub kind : g.kind ≡ Variable type settings
  pub type_is : declared_type (owned_at m.declared g.site) ≡ Some type
  pub settings_are : settings_of (owned_at m.declared g.site) ≡ settings
  pub bounds : bounds_variables m.declared type ≡ true
  pub one : HasOne settings (last_target_word (is_state settings))

pub variable_at : (m : RootedModel) (units : List UnitPath) (t : Thing) (d : MemNode)
    (so : IsNodeSo m units is_variable t d) → KeepsDeclarations m units → IsVariableAt m so.given
variable_at m units t d so kept =
    let g = so.given in
    let at = given_at m t.unit t.name g so.node.is in
    let w = declares_owned m.declared g.site g so.passes (owned_at m.declared g.site) at.given in
    let settings = w.declares.settings.items in
    record {
      type = w.declares.type.form;
      settings = settings;
      kind = w.declares.kind;
      type_is = w.type_is;
      settings_are = w.settings_are;
      bounds = w.declares.bounds;
      one = by at w (is_state settings) refl (is_flow settings) refl;
    }
  where
    by : (at : IsGivenAt m t.unit so.given) (w : DeclaredBy m.declared (owned_at m.declared so.given.site) so.given)
        (b : Bool) → is_state w.declares.settings.items ≡ b → (f : Bool) → is_flow w.declares.settings.items ≡ f
        → HasOne w.declares.settings.items (last_target_word b)
    by at w true i f j = state_one w.declares.settings.items i
    by at w false i true j = flow_one w.declares.settings.items j
    by at w false i false j = absurd (kept.kept w.declares.first.1 (record {
      unit = t.unit;
      is_unit = one_here units d.unit.n t.unit so.node.unit;
      form = w.form;
      is_member = one_flat (λ (z : Site). form_of (owned_at m.declared z)) (members_at m t.unit) at.place so.given.site
          w.form at.stands w.is_form;
      breaks = subst (λ (f : MemberForm). BreaksForm m.declared f w.declares.first.1) (sym w.declares.is)
          (declares w.declares.first.0 w.declares.more w.declares.bounds i j w.declares.is_first);
    }))
