-- What sources that are alike have in common.
use Rattle.std.proofs.Common.{◌≡◌, ℕ, List, [], map, Option, Some, option_map, refl, sym, ◌∙◌, ap}
use Rattle.std.specs.Prelude.{option_and_then}
use Rattle.ar_base.specs.Lists.{Along}
use Rattle.ar_base.specs.Texts.{text_at}
use Rattle.ar_base.specs.declared.places.Place.{Place}
use Rattle.ar_syntax.specs.declared.expressions.RawExpr.{RawExpr}
use Rattle.ar_syntax.specs.declared.items.DomainBody.{DomainBody}
use Rattle.ar_syntax.specs.declared.members.Member.{Member, out-Member}
use Rattle.ar_syntax.specs.declared.members.TypeForm.{TypeForm}
use Rattle.ar_syntax.specs.declared.members.TypeForm.TheVariants as type_form
use Rattle.ar_syntax.specs.declared.paths.PathStart.TheVariants.{Here}
use Rattle.parser_laws.specs.Members.{SameMember}
use Rattle.parser_laws.specs.Models.{SameDomain, symbols, range}
use Rattle.parser_laws.specs.Opened.{SameKind}
use Rattle.typed_expr.specs.declared.expr.ValueKind.{ValueKind}
use Rattle.ar_meaning.specs.ExpandImage.{Declared_renames}
use Rattle.ar_meaning.specs.ImageInside.{IsImage}
use Rattle.ar_meaning.specs.TraceText.{Naming}
use Rattle.class_table.specs.Declaring.{NamedType, DomainType, ClassType}
use Rattle.class_table.specs.Members.{MemberKind, Observer, domain_body}
use Rattle.hierarchy.specs.Models.{RootedModel}
use Rattle.hierarchy.specs.Units.{Thing, kind_at}
use Rattle.hierarchy.specs.Walks.{IsThingAt, is_variable, is_event, is_observer}
use Rattle.hierarchy.specs.Listing.{variables, events, observers}
use Rattle.hierarchy.specs.Paths.{name_text, unit_path, thing_path}
use Rattle.source_meaning.specs.Kinds.{kind_of_body, kind_of_type}
use Rattle.gts_flatten.specs.Elaborating.{Elaborated}
use Rattle.gts_flatten.specs.Flat.{naming_of}
use Rattle.source_laws.specs.Named.{SameMeant}
use Rattle.source_laws.specs.Named as meant
use Rattle.source_laws.specs.Tables.{SameType, SameRooted}
use Rattle.source_laws.proofs.Forced.{thing_path_same, unit_path_same, thing_there}
use Rattle.source_laws.proofs.Leading.{variable_same, event_same, observer_same, kind_same, things_same}
use Rattle.source_laws.proofs.Named.{Both, neither, both, types_both}
use Rattle.source_laws.proofs.Settled.{other_of}
use Rattle.source_laws.specs.Declarations.{IsSameThing}
use Rattle.source_laws.specs.Sources.{SameSource}
use Rattle.job_laws.proofs.Lists.{each_same}

-- an observer with the same type
pub record HasType (m : RootedModel) (t : Thing) (type : TypeForm) (kind : ValueKind) : Type 0 where
  pub written : RawExpr
  pub is : kind_at m t.unit t.name ≡ Some (Observer type written)
  pub kind_is : kind_of_type m type ≡ Some kind

-- names, lists of things, and systems: what is told of the first is told of the second
pub record Share (x y : Elaborated) : Type 0 where
  pub naming : naming_of x.declarations ≡ naming_of y.declarations
  pub names : x.declarations.model.names ≡ y.declarations.model.names
  pub units : x.declarations.units ≡ y.declarations.units
  pub unit_paths : map (unit_path x.declarations.model) x.declarations.units
      ≡ map (unit_path y.declarations.model) y.declarations.units
  pub variables : variables x.declarations.model x.declarations.units
      ≡ variables y.declarations.model y.declarations.units
  pub events : events x.declarations.model x.declarations.units ≡ events y.declarations.model y.declarations.units
  pub observers : observers x.declarations.model x.declarations.units
      ≡ observers y.declarations.model y.declarations.units
  pub event : (names : List ℕ) (t : Thing) → IsThingAt x.declarations.model is_event [] Here names t
      → IsThingAt y.declarations.model is_event [] Here names t
  pub observer : (names : List ℕ) (t : Thing) → IsThingAt x.declarations.model is_observer [] Here names t
      → IsThingAt y.declarations.model is_observer [] Here names t
  pub types : (t : Thing) (type : TypeForm) (kind : ValueKind) → HasType x.declarations.model t type kind
      → HasType y.declarations.model t type kind
  pub declared : Along (Declared_renames IsSameThing IsSameThing) x.declarations.events y.declarations.events
  pub system : IsImage IsSameThing x.system y.system

-- Types

body_same : {a b : DomainBody} → SameDomain a b → kind_of_body a ≡ kind_of_body b
body_same (symbols v w e f i) = ap kind_of_body e ∙ sym (ap kind_of_body f)
body_same (range e) = ap kind_of_body e

named_same : {a b : Option NamedType} → Both SameType a b
    → option_map kind_of_body (option_and_then domain_body a) ≡ option_map kind_of_body (option_and_then domain_body b)
named_same neither = refl
named_same (both {a = t} {b = u} s) = go t u s
  where
    go : (t u : NamedType) → SameType t u
        → option_map kind_of_body (domain_body t) ≡ option_map kind_of_body (domain_body u)
    go (DomainType v) (DomainType w) s = ap Some (body_same s)
    go (ClassType v) (ClassType w) s = refl
    go _ _ s = absurd s

type_kind_same : (m n : RootedModel) → SameRooted m n → (f : TypeForm) → kind_of_type m f ≡ kind_of_type n f
type_kind_same m n agree type_form.Boolean = refl
type_kind_same m n agree type_form.Integer = refl
type_kind_same m n agree (type_form.Named x) = named_same (types_both m.declared n.declared agree.declared x.n)

observer_of : (type : TypeForm) (e : RawExpr) (k : MemberKind) → SameMeant (Observer type e) k
    → (f : RawExpr) × (k ≡ Observer type f)
observer_of type e _ (meant.observer {f = f} s) = (f, refl)

-- Names

module _ (opens : (m n : Member) → SameMember m n → SameKind (out-Member m) (out-Member n)) (m n : RootedModel)
    (agree : SameRooted m n) where
  type_there : (t : Thing) (type : TypeForm) (kind : ValueKind) → HasType m t type kind → HasType n t type kind
  type_there t type kind h =
      let o = other_of (kind_same opens m n agree t.unit t.name) (Observer type h.written) h.is in
      let f = observer_of type h.written o.0 o.2 in
      record {
        written = f.0;
        is = o.1 ∙ ap Some f.1;
        kind_is = sym (type_kind_same m n agree type) ∙ h.kind_is;
      }

  paths_same : (ts us : List Thing) → ts ≡ us → map (thing_path m) ts ≡ map (thing_path n) us
  paths_same ts us e =
      ap (map (thing_path m)) e ∙ each_same (thing_path m) (thing_path n) (thing_path_same m n agree.names) us

  symbols_same : map (name_text m) m.declared.symbols ≡ map (name_text n) n.declared.symbols
  symbols_same =
      ap (λ (z : List ℕ). map (name_text m) z) agree.declared.symbols
      ∙ each_same (name_text m) (name_text n) (λ x. ap (λ (ts : List (List ℕ)). text_at ts x) agree.names)
      n.declared.symbols

naming_from : (a b : Naming) → a.variables ≡ b.variables → a.events ≡ b.events → a.observers ≡ b.observers
    → a.symbols ≡ b.symbols → a.places ≡ b.places → a ≡ b
naming_from a b e f g h i =
    go a.variables b.variables a.events b.events a.observers b.observers a.symbols b.symbols a.places b.places e f g h
    i
  where
    go : (v w e f o p s t : List (List ℕ)) (k l : List Place) → v ≡ w → e ≡ f → o ≡ p → s ≡ t → k ≡ l
        → ◌≡◌ {A = Naming} (record { variables = v; events = e; observers = o; symbols = s; places = k })
        (record { variables = w; events = f; observers = p; symbols = t; places = l })
    go v w e f o p s t k l i j m n q = cc

module _ (opens : (m n : Member) → SameMember m n → SameKind (out-Member m) (out-Member n)) (x y : Elaborated)
    (same : SameSource x y) where
  abbrev first : RootedModel
  first = x.declarations.model

  abbrev second : RootedModel
  second = y.declarations.model

  abbrev agree : SameRooted first second
  agree = same.declarations.model

  -- the units' things, of models with the same units
  variables_same : variables first x.declarations.units ≡ variables second y.declarations.units
  variables_same =
      things_same opens first second agree is_variable (λ k l r. variable_same r) x.declarations.units
      ∙ ap (variables second) same.declarations.units

  events_same : events first x.declarations.units ≡ events second y.declarations.units
  events_same =
      things_same opens first second agree is_event (λ k l r. event_same r) x.declarations.units
      ∙ ap (events second) same.declarations.units

  observers_same : observers first x.declarations.units ≡ observers second y.declarations.units
  observers_same =
      things_same opens first second agree is_observer (λ k l r. observer_same r) x.declarations.units
      ∙ ap (observers second) same.declarations.units

  pub shared : Share x y
  shared = record {
    naming = naming_from (naming_of x.declarations) (naming_of y.declarations)
        (paths_same opens first second agree _ _ variables_same)
        (paths_same opens first second agree _ _ events_same)
        (paths_same opens first second agree _ _ observers_same) (symbols_same opens first second agree)
        same.declarations.places;
    names = agree.names;
    units = same.declarations.units;
    unit_paths = ap (map (unit_path first)) same.declarations.units
        ∙ each_same (unit_path first) (unit_path second) (unit_path_same first second agree.names)
        y.declarations.units;
    variables = variables_same;
    events = events_same;
    observers = observers_same;
    event = λ names t h. thing_there opens first second agree is_event (λ k l r. event_same r) [] Here names t h;
    observer = λ names t h.
        thing_there opens first second agree is_observer (λ k l r. observer_same r) [] Here names t h;
    types = type_there opens first second agree;
    declared = same.declarations.events;
    system = same.system;
  }
