-- The kinds and sorts of what paths name.
use Rattle.std.proofs.Common.{◌≡◌, ℕ, ◌⊎◌, inl, inr, Bool, true, false, not, List, Option, Some, None, slice_get, option_map, option_and_then, refl, sym, ◌∙◌, ap, subst}
use Rattle.ar_base.specs.Lists.{Stands}
use Rattle.ar_base.proofs.Standing.{along_on}
use Rattle.ar_syntax.specs.declared.items.DomainBody.{DomainBody}
use Rattle.ar_syntax.specs.declared.paths.Path.{Path}
use Rattle.ar_syntax.specs.declared.members.TypeForm.{TypeForm}
use Rattle.domains.specs.declared.Domain.{Domain}
use Rattle.typed_expr.specs.declared.expr.ValueKind.{ValueKind}
use Rattle.typed_expr.specs.declared.expr.ValueKind.TheVariants as kind
use Rattle.gts_core.specs.Sound.{kind_of_domain}
use Rattle.class_table.specs.Members.{NamedMember, MemberKind, Variable, Parameter, Kept, Event, Observer, Inner, Clone, Alias}
use Rattle.class_table.specs.Tables.{IsDomainOf, symbols, range}
use Rattle.class_table.specs.TablesInside.{domain as domain_type, class as class_type}
use Rattle.class_table.specs.Declaring.{NamedType}
use Rattle.class_table.specs.Members.{domain_body}
use Rattle.class_table.specs.declared.tables.TypeBody.{TypeBody}
use Rattle.class_table.specs.declared.tables.TypeBody.TheVariants as types
use Rattle.unit_rules.specs.TypingInside.{IsFound, none, some}
use Rattle.hierarchy.specs.Models.{RootedModel}
use Rattle.hierarchy.specs.Units.{UnitPath, Thing, kind_at, numbers}
use Rattle.hierarchy.specs.Walks.{Finds, PassesTest, is_variable}
use Rattle.hierarchy.specs.Listing.{variables, parameters}
use Rattle.hierarchy.specs.Settings.{is_flow, is_state_variable, is_flow_variable}
use Rattle.hierarchy.specs.Tie.{IsTreeOf, IsVariableNode, HasParameterDomain, domain, integer, kept, AnswersThing}
use Rattle.hierarchy.specs.TypeDomains.{HasDomain, boolean, named}
use Rattle.hierarchy.specs.declared.tree.ParNode.{ParNode}
use Rattle.hierarchy.specs.declared.tree.VarNode.{VarNode}
use Rattle.hierarchy.specs.declared.tree.Tree.{Tree}
use Rattle.source_meaning.specs.Means.{is_valued}
use Rattle.source_meaning.specs.Kinds as k
use Rattle.source_meaning.specs.Kinds.{kind_of_body, kind_of_type, kind_of_member, IsOfKind, HasKindAt}
use Rattle.source_meaning.specs.Rules.{IsNot, Is}
use Rattle.source_meaning.specs.Tested as s
use Rattle.source_meaning.proofs.OneMeaning.{leads_same}
use Rattle.written_forms.specs.WrongInside.{NamesKind, IsNamedPath}
use Rattle.written_forms.specs.BreachesInside.{IsSort, IsTarget}
use Rattle.bind_scopes.specs.Searching.{variable_in}
use Rattle.bind_scopes.specs.Sites.{declares_flows}
use Rattle.bind_scopes.specs.Scopes.{AreScopes, IsNamedIn, variable, parameter, symbol, IsScope, scoped_in}
use Rattle.bind_scopes.specs.Naming.{IsInTree, kind_of_parameter, kind_named, sort_of, kind_in, sort_in}
use Rattle.bind_scopes.specs.declared.naming.Sort.{Sort}
use Rattle.bind_scopes.specs.declared.naming.Sort.TheVariants.{States, Flows}
use Rattle.bind_scopes.specs.declared.naming.UnitNames.{UnitNames}
use Rattle.bind_scopes.specs.declared.scopes.Named.{Named}
use Rattle.bind_scopes.proofs.NamedPaths.{kind_one, NamesIn, scoped_names, symbol_alone, variable_answers, variable_there}
use Rattle.bind_scopes.proofs.Siting.{owned_same, variable_settings}

-- a domain is of the kind of its declaration
body_kind : (numbers : List ℕ) (b : DomainBody) (v : Domain) → IsDomainOf numbers b v
    → kind_of_body b ≡ kind_of_domain v
body_kind numbers b v (symbols h) = refl
body_kind numbers b v range = refl

pub domain_kind : (m : RootedModel) (t : TypeForm) (v : Domain) → HasDomain m.declared t v
    → kind_of_type m t ≡ Some (kind_of_domain v)
domain_kind m t v boolean = refl
domain_kind m t v (named {declared = b} e h) =
    ap (λ (o : Option DomainBody). option_map kind_of_body o) e
    ∙ ap (λ (z : ValueKind). Some z) (body_kind m.declared.symbols b v h)

-- a parameter with a value is of the kind of its domain, or a whole number
pub parameter_kind : (m : RootedModel) (g : MemberKind) (v : Option Domain) → is_valued g ≡ true
    → HasParameterDomain m.declared g v → kind_of_member m g ≡ Some (kind_of_parameter v)
parameter_kind m g v e (domain {type = t} {v = w} h) = domain_kind m t w h
parameter_kind m g v e integer = refl
parameter_kind m g v e kept = cc

module _ {m : RootedModel} {units : List UnitPath} {tree : Tree} (is : IsTreeOf m units tree) where
  -- the kind of a variable that is listed, and of a parameter
  pub variable_kind : (n : ℕ) (t : Thing) → Stands (variables m units) n t
      → (j : ValueKind) × (option_map (λ (d : VarNode). kind_of_domain d.domain) (slice_get tree.variables.items n)
      ≡ Some j) × IsOfKind m t j
  variable_kind n t st =
      let a = along_on (variables m units) tree.variables.items is.variables_are n t st in
      let g = a.2.given in (
        kind_of_domain a.0.domain,
        ap (λ (o : Option VarNode). option_map (λ (d : VarNode). kind_of_domain d.domain) o) a.1,
        record {
          member = g.kind;
          is = ap (λ (o : Option NamedMember). option_map (λ (z : NamedMember). z.kind) o) a.2.node.is;
          kind = ap (kind_of_member m) a.2.is ∙ domain_kind m a.2.type a.0.domain a.2.domain;
        },
      )

  pub valued_kind : (n : ℕ) (t : Thing) → Stands (parameters m units) n t → PassesTest m is_valued t
      → (j : ValueKind) × (option_map (λ (d : ParNode). kind_of_parameter d.domain) (slice_get tree.parameters.items n)
      ≡ Some j) × IsOfKind m t j
  valued_kind n t st h =
      let a = along_on (parameters m units) tree.parameters.items is.parameters_are n t st in
      let g = a.2.given in
      let e : kind_at m t.unit t.name ≡ Some g.kind =
      ap (λ (o : Option NamedMember). option_map (λ (z : NamedMember). z.kind) o) a.2.node.is in
      let q = kind_one h.is e in (
        kind_of_parameter a.0.domain,
        ap (λ (o : Option ParNode). option_map (λ (d : ParNode). kind_of_parameter d.domain) o) a.1,
        record {
          member = g.kind;
          is = e;
          kind = parameter_kind m g.kind a.0.domain (sym (ap is_valued q) ∙ h.passes) a.2.domain;
        },
      )

  -- what is named has a kind
  pub named_kind : (u : UnitPath) (p : Path) (r : Named) → IsNamedIn m units u p (Some r)
      → (j : ValueKind) × (kind_named tree r ≡ Some j) × HasKindAt m u p j
  named_kind u p r (variable {v = v} t f st) = let w = variable_kind v.n t st in (w.0, w.1, k.thing t f.leads w.2)
  named_kind u p r (parameter {k = n} t f st) = let w = valued_kind n t st f.has in (w.0, w.1, k.thing t f.leads w.2)
  named_kind u p r (symbol {k = n} i) = (kind.Symbol, refl, k.symbol n i)

-- what has a kind is a variable or a parameter with a value
kinded : (m : RootedModel) (g : MemberKind) (j : ValueKind) → kind_of_member m g ≡ Some j
    → (is_variable g ≡ true) ⊎ (is_valued g ≡ true)
kinded m (Variable t ss) j e = inl refl
kinded m (Parameter t v) j e = inr refl
kinded m Kept j e = cc
kinded m Event j e = cc
kinded m (Observer t v) j e = cc
kinded m (Inner b o) j e = cc
kinded m (Clone p) j e = cc
kinded m (Alias p) j e = cc

-- what has a kind may be named
pub kind_may : {m : RootedModel} {u : UnitPath} {p : Path} {j : ValueKind} → HasKindAt m u p j
    → s.MayName m u s.Everything p
kind_may {m = m} (k.thing {k = j} t l h) = elim (kinded m h.member j h.kind) [
  | inl v ↦ s.variable t (record { leads = l; has = record { kind = h.member; is = h.is; passes = v } })
  | inr v ↦ s.parameter t (record { leads = l; has = record { kind = h.member; is = h.is; passes = v } })
]
kind_may (k.symbol n i) = s.symbol n i

-- a path has one kind
pub kind_same : {m : RootedModel} {u : UnitPath} {p : Path} {i j : ValueKind} → HasKindAt m u p i → HasKindAt m u p j
    → i ≡ j
kind_same {m = m} (k.thing t l h) (k.thing t' l' h') =
    let q = leads_same l l' in
    let e = kind_one (ap (λ (z : Thing). kind_at m z.unit z.name) (sym q) ∙ h.is) h'.is in
    kind_one (sym (ap (kind_of_member m) e) ∙ h.kind) h'.kind
kind_same (k.thing t l h) (k.symbol n i) = absurd (symbol_alone i l h.is)
kind_same (k.symbol n i) (k.thing t l h) = absurd (symbol_alone i l h.is)
kind_same (k.symbol n i) (k.symbol n' i') = refl

-- Sorts

-- what is told of a variable of each sort
abbrev pub sort_kind : Sort → MemberKind → Bool
sort_kind States g = is_state_variable g
sort_kind Flows g = not (is_flow_variable g)

module _ {m : RootedModel} {units : List UnitPath} {tree : Tree} (is : IsTreeOf m units tree) where
  node_sort : (sort : Sort) (t : Thing) (d : VarNode) (h : IsVariableNode m units t d)
      → sort_of tree sort d ≡ sort_kind sort h.given.kind
  node_sort States t d h = h.state ∙ sym (ap is_state_variable h.is)
  node_sort Flows t d h = ap not (
      ap declares_flows (owned_same m.declared tree.classes is.table.table.holds.bodies d.node.source h.given.site None
      h.node.source)
      ∙ (ap is_flow (variable_settings m t.unit t.name h.given h.type h.settings h.node.is h.is)
      ∙ sym (ap is_flow_variable h.is)))

  pub listed_sort : (sort : Sort) (n : ℕ) (t : Thing) → Stands (variables m units) n t
      → (g : MemberKind) × (kind_at m t.unit t.name ≡ Some g)
      × (option_map (sort_of tree sort) (slice_get tree.variables.items n) ≡ Some (sort_kind sort g))
  listed_sort sort n t st =
      let a = along_on (variables m units) tree.variables.items is.variables_are n t st in (
        a.2.given.kind,
        ap (λ (o : Option NamedMember). option_map (λ (z : NamedMember). z.kind) o) a.2.node.is,
        ap (λ (o : Option VarNode). option_map (sort_of tree sort) o) a.1
            ∙ ap (λ (b : Bool). Some b) (node_sort sort t a.0 a.2),
      )

-- the names are those of the unit u, in this scope
pub record AreNamesOf (m : RootedModel) (units : List UnitPath) (u : UnitPath) (scope : s.Scope)
    (names : UnitNames) : Type 0 where
  pub are : AreScopes m units names.scopes.now
  pub at : Stands units names.unit.n u
  pub in_scope : IsScope m units u names.scope scope

-- the variable has this sort
pub record HasSort (m : RootedModel) (u : UnitPath) (sort : Sort) (p : Path) (b : Bool) : Type 0 where
  pub thing : Thing
  pub finds : Finds m is_variable u p thing
  pub member : MemberKind
  pub is : kind_at m thing.unit thing.name ≡ Some member
  pub sort_is : sort_kind sort member ≡ b

module _ {m : RootedModel} {units : List UnitPath} {u : UnitPath} {scope : s.Scope} {names : UnitNames}
    (h : AreNamesOf m units u scope names) (p : Path) where
  abbrev pub tree_of : Tree
  tree_of = names.scopes.now.tree.now

  may_by : (r : Option Named) → NamesIn m units u scope p r → (j : ValueKind)
      → option_and_then (kind_named tree_of) r ≡ Some j → s.MayName m u scope p
  may_by None n j e = cc
  may_by (Some f) n j e = n.0

  named_by : (r : Option Named) → NamesIn m units u scope p r → s.MayName m u scope p
      → (j : ValueKind) × (option_and_then (kind_named tree_of) r ≡ Some j)
  named_by None n may = absurd (n may)
  named_by (Some f) n may = let w = named_kind h.are.is_tree u p f n.1 in (w.0, w.1)

  kind_by : (r : Option Named) → NamesIn m units u scope p r → (j : ValueKind)
      → option_and_then (kind_named tree_of) r ≡ Some j → HasKindAt m u p j
  kind_by None n j e = cc
  kind_by (Some f) n j e = let w = named_kind h.are.is_tree u p f n.1 in subst (λ (z : ValueKind). HasKindAt m u p z) (kind_one w.1 e) w.2

  in_names : NamesIn m units u scope p (scoped_in names.scopes.now names.unit.n names.scope p)
  in_names = scoped_names h.are names.unit.n u h.at names.scope scope h.in_scope p

  -- what is named in the scope is what may be named there
  pub named_may : IsNamedPath (kind_in names) p → s.MayName m u scope p
  named_may n = may_by (scoped_in names.scopes.now names.unit.n names.scope p) in_names n.0 n.1

  pub may_named : s.MayName m u scope p → IsNamedPath (kind_in names) p
  may_named may = named_by (scoped_in names.scopes.now names.unit.n names.scope p) in_names may

  -- the kind of what is named is its kind
  pub kind_names : (j : ValueKind) → NamesKind (kind_in names) p j → HasKindAt m u p j
  kind_names j e = kind_by (scoped_in names.scopes.now names.unit.n names.scope p) in_names j e

  pub names_kind : scope ≡ s.Everything → (j : ValueKind) → HasKindAt m u p j → NamesKind (kind_in names) p j
  names_kind e j k =
      let w = may_named (subst (λ (z : s.Scope). s.MayName m u z p) (sym e) (kind_may k)) in
      w.1 ∙ ap (λ (z : ValueKind). Some z) (kind_same (kind_names w.0 w.1) k)

  sort_by : (r : Option ℕ) → AnswersThing m (variables m units) is_variable u p.start (numbers p.names.items) r
      → (b : Bool)
      → option_and_then (λ n. option_map (sort_of tree_of names.sort) (slice_get tree_of.variables.items n)) r ≡ Some b
      → HasSort m u names.sort p b
  sort_by None a b e = cc
  sort_by (Some n) a b e =
      let w = listed_sort h.are.is_tree names.sort n a.0 a.1 in
      record { thing = a.0; finds = a.2; member = w.0; is = w.1; sort_is = kind_one w.2 e }

  by_sort : (r : Option ℕ) → AnswersThing m (variables m units) is_variable u p.start (numbers p.names.items) r
      → (b : Bool) → HasSort m u names.sort p b
      → option_and_then (λ n. option_map (sort_of tree_of names.sort) (slice_get tree_of.variables.items n)) r ≡ Some b
  by_sort None a b k = absurd (a k.thing k.finds)
  by_sort (Some n) a b k =
      let w = listed_sort h.are.is_tree names.sort n a.0 a.1 in
      let q = leads_same a.2.leads k.finds.leads in
      let e = kind_one w.1 (ap (λ (z : Thing). kind_at m z.unit z.name) q ∙ k.is) in
      w.2 ∙ ap (λ (z : Bool). Some z) (ap (sort_kind names.sort) e ∙ k.sort_is)

  -- the sort of what is named is its sort
  pub sort_names : (b : Bool) → IsSort (sort_in names) b p → HasSort m u names.sort p b
  sort_names b e = sort_by (variable_in tree_of names.unit.n p) (variable_answers h.are names.unit.n u h.at p) b e

  pub names_sort : (b : Bool) → HasSort m u names.sort p b → IsSort (sort_in names) b p
  names_sort b k = by_sort (variable_in tree_of names.unit.n p) (variable_answers h.are names.unit.n u h.at p) b k

  -- a target is a variable
  pub target_names : IsTarget (sort_in names) p → s.NamesVariable m u p
  target_names t = let k = sort_names t.0 t.1 in record { thing = k.thing; finds = k.finds }

  pub names_target : s.NamesVariable m u p → IsTarget (sort_in names) p
  names_target n = (
    sort_kind names.sort n.finds.has.kind,
    names_sort (sort_kind names.sort n.finds.has.kind)
        (record { thing = n.thing; finds = n.finds; member = n.finds.has.kind; is = n.finds.has.is; sort_is = refl }),
  )

  -- a variable that is no state variable
  pub no_state : names.sort ≡ States → IsSort (sort_in names) false p → IsNot m is_state_variable u p
  no_state e i =
      let k = sort_names false i in
      record {
        thing = k.thing;
        finds = k.finds;
        member = k.member;
        is = k.is;
        fails = ap (λ (z : Sort). sort_kind z k.member) (sym e) ∙ k.sort_is;
      }

  pub state_no : names.sort ≡ States → IsNot m is_state_variable u p → IsSort (sort_in names) false p
  state_no e n = names_sort false (record {
    thing = n.thing;
    finds = n.finds;
    member = n.member;
    is = n.is;
    sort_is = ap (λ (z : Sort). sort_kind z n.member) e ∙ n.fails;
  })

  -- a variable that is no flow, and a flow
  pub no_flow : names.sort ≡ Flows → IsSort (sort_in names) true p → IsNot m is_flow_variable u p
  no_flow e i =
      let k = sort_names true i in
      record {
        thing = k.thing;
        finds = k.finds;
        member = k.member;
        is = k.is;
        fails = not_true (is_flow_variable k.member) (ap (λ (z : Sort). sort_kind z k.member) (sym e) ∙ k.sort_is);
      }
    where
      not_true : (b : Bool) → not b ≡ true → b ≡ false
      not_true false e = refl
      not_true true e = cc

  pub flow_no : names.sort ≡ Flows → IsNot m is_flow_variable u p → IsSort (sort_in names) true p
  flow_no e n = names_sort true (record {
    thing = n.thing;
    finds = n.finds;
    member = n.member;
    is = n.is;
    sort_is = ap (λ (z : Sort). sort_kind z n.member) e ∙ ap not n.fails;
  })

  pub is_flow_named : names.sort ≡ Flows → IsSort (sort_in names) false p → Is m is_flow_variable u p
  is_flow_named e i =
      let k = sort_names false i in
      let q : is_flow_variable k.member ≡ true =
      not_false (is_flow_variable k.member) (ap (λ (z : Sort). sort_kind z k.member) (sym e) ∙ k.sort_is) in
      record {
        thing = k.thing;
        finds = record
            { leads = k.finds.leads; has = record { kind = k.member; is = k.is; passes = q } };
      }
    where
      not_false : (b : Bool) → not b ≡ false → b ≡ true
      not_false true e = refl
      not_false false e = cc

  pub named_flow : names.sort ≡ Flows → Is m is_flow_variable u p → IsSort (sort_in names) false p
  named_flow e n = names_sort false (record {
    thing = n.thing;
    finds = record {
      leads = n.finds.leads;
      has = record {
        kind = n.finds.has.kind;
        is = n.finds.has.is;
        passes = flow_variable n.finds.has.kind n.finds.has.passes;
      };
    };
    member = n.finds.has.kind;
    is = n.finds.has.is;
    sort_is = ap (λ (z : Sort). sort_kind z n.finds.has.kind) e ∙ ap not n.finds.has.passes;
  })
    where
      flow_variable : (g : MemberKind) → is_flow_variable g ≡ true → is_variable g ≡ true
      flow_variable (Variable t ss) e = refl
      flow_variable (Parameter t v) e = cc
      flow_variable Kept e = cc
      flow_variable Event e = cc
      flow_variable (Observer t v) e = cc
      flow_variable (Inner b o) e = cc
      flow_variable (Clone q) e = cc
      flow_variable (Alias q) e = cc

-- what the code finds of a variable
pub sort_found : (names : UnitNames) → IsInTree names → (p : Path) (r : Option ℕ)
    → ((m : RootedModel) (units : List UnitPath) (u : UnitPath) → IsTreeOf m units names.scopes.now.tree.now
    → Stands units names.unit.n u → AnswersThing m (variables m units) is_variable u p.start (numbers p.names.items)
    r)
    → option_and_then (λ n. option_map (sort_of names.scopes.now.tree.now names.sort)
    (slice_get names.scopes.now.tree.now.variables.items n)) r ≡ sort_in names p
sort_found names h p r a =
    ap (λ (o : Option ℕ). option_and_then
    (λ n. option_map (sort_of names.scopes.now.tree.now names.sort)
    (slice_get names.scopes.now.tree.now.variables.items n)) o)
    (variable_there names.scopes.now h.scopes names.unit.n h.in_range p r a)

pub sort_read : (t : Tree) (sort : Sort) (n : ℕ) (o : Option VarNode) → slice_get t.variables.items n ≡ o
    → option_map (sort_of t sort) o ≡ option_map (sort_of t sort) (slice_get t.variables.items n)
sort_read t sort n o e = ap (option_map (sort_of t sort)) (sym e)

-- Types

-- the kind of a type that is found
pub type_kind : (numbers : List ℕ) (t : Option NamedType) (b : TypeBody) (v : Domain) → b ≡ types.Domain v
    → IsFound numbers t (Some b) → Some (kind_of_domain v) ≡ option_map kind_of_body (option_and_then domain_body t)
type_kind numbers t b v e (some (domain_type {declared = d} {v = w} h)) =
    let q : w ≡ v = cc in ap (λ (z : Domain). Some (kind_of_domain z)) (sym q) ∙ ap (λ (z : ValueKind). Some z) (sym (body_kind numbers d w h))
type_kind numbers t b v e (some (class_type i)) = cc

pub no_type_kind : (numbers : List ℕ) (t : Option NamedType) (r : Option TypeBody)
    → ((v : Domain) → r ≡ Some (types.Domain v) → ⊥) → IsFound numbers t r
    → None ≡ option_map kind_of_body (option_and_then domain_body t)
no_type_kind numbers t r n none = refl
no_type_kind numbers t r n (some (domain_type {v = v} h)) = absurd (n v refl)
no_type_kind numbers t r n (some (class_type i)) = refl
