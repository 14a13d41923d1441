-- What paths stand for in a unit, where the values of parameters are known and in their domains.
use Rattle.std.proofs.Common.{◌≡◌, ℕ, ◌<◌, false, List, length, Option, Some, None, slice_get, option_map, option_and_then, refl, sym, ◌∙◌, ap, subst}
use Rattle.std.proofs.lemmas.List.{length-map}
use Rattle.ar_base.specs.Lists.{Stands, IsOneOf, Along}
use Rattle.ar_base.specs.declared.places.Place.{Place}
use Rattle.ar_base.specs.Numbers.{VarId, NameId}
use Rattle.ar_base.proofs.Standing.{stands_within, along_on, along_back, one_contains}
use Rattle.ar_syntax.specs.declared.members.TypeForm.{TypeForm}
use Rattle.ar_syntax.specs.declared.paths.Path.{Path}
use Rattle.domains.specs.declared.Domain.{Domain}
use Rattle.domains.specs.declared.Value.{Value}
use Rattle.domains.specs.declared.Value.TheVariants as value
use Rattle.typed_expr.specs.Kinds.{kind_of, HasKind}
use Rattle.typed_expr.specs.Kinds as kind
use Rattle.typed_expr.specs.declared.expr.Expr.TheOpen.{Variable, Constant}
use Rattle.typed_expr.specs.declared.expr.ValueKind.{ValueKind}
use Rattle.gts_core.specs.Sound.{kind_of_domain}
use Rattle.gts_core.specs.Readings.{valuation_at}
use Rattle.gts_core.proofs.Reading.{read_value}
use Rattle.class_table.specs.Members.{MemberKind}
use Rattle.class_table.specs.Tables.{symbols, range}
use Rattle.hierarchy.specs.Models.{RootedModel}
use Rattle.hierarchy.specs.ModelsInside.{IsKeptTable}
use Rattle.hierarchy.specs.Units.{UnitPath, Thing}
use Rattle.hierarchy.specs.Walks.{Finds, PassesTest, is_variable}
use Rattle.hierarchy.specs.Listing.{variables, parameters}
use Rattle.hierarchy.specs.Tie.{HasParameterDomain, domain}
use Rattle.hierarchy.specs.TypeDomains.{HasDomain, boolean, named}
use Rattle.hierarchy.specs.declared.tree.ParNode.{ParNode}
use Rattle.hierarchy.specs.declared.tree.VarNode.{VarNode}
use Rattle.hierarchy.specs.declared.tree.Tree.{Tree}
use Rattle.source_meaning.specs.Means.{is_valued}
use Rattle.source_meaning.specs.Tested as s
use Rattle.source_meaning.specs.BoundExpressions.{IsLeafFor}
use Rattle.written_forms.specs.Translating.{leaf_level}
use Rattle.written_forms.specs.declared.naming.Leaf.TheVariants as leaf
use Rattle.bind_scopes.specs.Scopes.{AreScopes, IsNamedIn, variable, parameter, symbol, nothing, named_in, everything}
use Rattle.bind_scopes.specs.Naming.{kind_of_parameter, kind_named, kind_in}
use Rattle.bind_scopes.specs.declared.naming.Sort.{Sort}
use Rattle.bind_scopes.specs.declared.naming.UnitNames.{UnitNames}
use Rattle.bind_scopes.specs.declared.scopes.Named.{Named}
use Rattle.bind_scopes.specs.declared.scopes.Scope.TheVariants.{Everything}
use Rattle.bind_scopes.proofs.NamedPaths.{kind_one, names_right, one_of_kind}
use Rattle.bind_scopes.proofs.Kinding.{valued_kind, AreNamesOf}
use Rattle.bind_names.specs.Leaves.{leaf_of, leaf_in}
use Rattle.bind_names.specs.Values.{IsValue, IsParameterValue, HoldsIn}
use Rattle.bind_names.specs.declared.leaves.UnitLeaves.{UnitLeaves}
use Rattle.bind_names.proofs.Leafing.{right_leaf}
use Rattle.bind_names.specs.Typed as typed
use Rattle.bind_names.specs.Typed.{kind_of_node, IsSymbolIn}

-- symbols in domains are those of the model
module _ (m : RootedModel) (tree : Tree) (same : length m.declared.symbols ≡ length tree.classes.symbols.items) where
  within : (names : List (NameId × Place)) (numbers : List ℕ)
      → Along (λ (n : NameId × Place) (k : ℕ). Stands m.declared.symbols k n.0.n) names numbers → (k : ℕ)
      → IsOneOf numbers k
      → k < length tree.classes.symbols.items
  within names numbers h k i =
      let a = along_back names numbers h i.place k i.stands in
      subst (λ (z : ℕ). k < z) same (stands_within m.declared.symbols k a.0.0.n a.2)

  held_symbol : (type : TypeForm) (d : Domain) → HasDomain m.declared type d → (v : Value) → HoldsIn (Some d) v
      → IsSymbolIn tree v
  held_symbol type d h (value.Truth b) k = record {}
  held_symbol type d h (value.Whole n) k = record {}
  held_symbol type d boolean (value.Symbol n) k = absurd k
  held_symbol type d (named e range) (value.Symbol n) k = absurd k
  held_symbol type d (named e (symbols {names = names} {numbers = numbers} h)) (value.Symbol n) k =
      within names.items numbers.items h n (one_contains numbers.items n k)

  in_domain : (g : MemberKind) (o : Option Domain) → HasParameterDomain m.declared g o → (v : Value) → HoldsIn o v
      → kind_of v ≡ kind_of_parameter o → IsSymbolIn tree v
  in_domain g None h (value.Truth b) k e = record {}
  in_domain g None h (value.Whole n) k e = record {}
  in_domain g None h (value.Symbol n) k e = cc
  in_domain g (Some d) (domain {type = type} h) v k e = held_symbol type d h v k

-- the symbols that the table keeps are those of the model
pub symbols_same : {m : RootedModel} (tree : Tree) → IsKeptTable m tree.classes
    → length m.declared.symbols ≡ length tree.classes.symbols.items
symbols_same tree t = ap length (sym t.table.holds.symbols)
    ∙ length-map tree.classes.symbols.items (λ (x : NameId). x.n)

-- what is known of the leaves of a unit
pub record AreLeavesOf (m : RootedModel) (units : List UnitPath) (u : UnitPath) (leaves : UnitLeaves) : Type 0 where
  pub are : AreScopes m units leaves.scopes.now
  pub at : Stands units leaves.unit.n u
  pub along : Along (IsParameterValue m) (parameters m units) leaves.parameters.now
  pub held : Along (λ (d : ParNode) (v : Value). HoldsIn d.domain v) leaves.scopes.now.tree.now.parameters.items
      leaves.parameters.now

-- the names of the unit
abbrev pub names_for : UnitLeaves → Sort → UnitNames
names_for leaves sort = record { scopes = leaves.scopes; unit = leaves.unit; scope = Everything; sort = sort }

abbrev pub tree_for : UnitLeaves → Tree
tree_for leaves = leaves.scopes.now.tree.now

module _ {m : RootedModel} {units : List UnitPath} {u : UnitPath} {leaves : UnitLeaves}
    (h : AreLeavesOf m units u leaves) where
  pub names_of : (sort : Sort) → AreNamesOf m units u s.Everything (names_for leaves sort)
  names_of sort = record { are = h.are; at = h.at; in_scope = everything }

  abbrev tree : Tree
  tree = tree_for leaves

  abbrev vs : List Value
  vs = leaves.parameters.now

  -- the value of a parameter
  parameter_value : (n : ℕ) (t : Thing) → Stands (parameters m units) n t → PassesTest m is_valued t
      → IsValue m t (valuation_at vs n)
  parameter_value n t st has =
      let b = along_on (parameters m units) vs h.along n t st in
      subst (λ (z : Value). IsValue m t z) (sym (read_value vs n b.0 b.1)) (b.2.value has)

  parameter_symbol : (n : ℕ) (t : Thing) → Stands (parameters m units) n t → PassesTest m is_valued t
      → IsSymbolIn tree (valuation_at vs n)
  parameter_symbol n t st has =
      let a = along_on (parameters m units) tree.parameters.items h.are.is_tree.parameters_are n t st in
      let b = along_on tree.parameters.items vs h.held n a.0 a.1 in
      let e = read_value vs n b.0 b.1 in
      let w = valued_kind h.are.is_tree n t st has in
      let k : kind_of_parameter a.0.domain ≡ w.0 =
      kind_one (ap (λ (o : Option ParNode). option_map (λ (d : ParNode). kind_of_parameter d.domain) o) a.1)
      w.1 in
      let q : kind_of b.0 ≡ kind_of_parameter a.0.domain =
      ap kind_of (sym e) ∙ (one_of_kind (parameter_value n t st has).kind w.2 ∙ sym k) in
      subst (IsSymbolIn tree) (sym e) (in_domain m tree (symbols_same tree h.are.is_tree.table) a.2.given.kind
      a.0.domain a.2.domain b.0 b.2 q)

  module _ (p : Path) where
    is_named : IsNamedIn m units u p (named_in leaves.scopes.now leaves.unit.n p)
    is_named = names_right h.are leaves.unit.n u h.at p

    kind_by : (k : ValueKind) (r : Option Named) → IsNamedIn m units u p r
        → option_and_then (kind_named tree) r ≡ Some k → HasKind (typed.kind_of_number tree) (leaf_level (leaf_of vs r)) k
    kind_by k r (variable {v = v} t f st) e =
        let a = along_on (variables m units) tree.variables.items h.are.is_tree.variables_are v.n t st in
        let q : kind_of_node (slice_get tree.variables.items v.n) ≡ kind_of_domain a.0.domain = ap kind_of_node a.1 in
        let w : kind_of_domain a.0.domain ≡ k =
        kind_one (ap (λ (o : Option VarNode). option_map (λ (d : VarNode). kind_of_domain d.domain) o) a.1) e in
        subst (λ (z : ValueKind). HasKind (typed.kind_of_number tree) (Variable v) z) (q ∙ w) kind.variable
    kind_by k r (parameter {k = n} t f st) e =
        let w = valued_kind h.are.is_tree n t st f.has in
        let q : kind_of (valuation_at vs n) ≡ k = one_of_kind (parameter_value n t st f.has).kind w.2 ∙ kind_one w.1 e in
        subst (λ (z : ValueKind). HasKind (typed.kind_of_number tree) (Constant (valuation_at vs n)) z) q kind.constant
    kind_by k r (symbol {k = n} i) e =
        subst (λ (z : ValueKind). HasKind (typed.kind_of_number tree) (Constant (value.Symbol n)) z) (kind_one refl e)
        kind.constant
    kind_by k r (nothing n) e = cc

    -- what stands for a path has the kind of what it names
    pub leaf_kind : (sort : Sort) (k : ValueKind) → kind_in (names_for leaves sort) p ≡ Some k
        → HasKind (typed.kind_of_number tree) (leaf_level (leaf_in leaves p)) k
    leaf_kind sort k e = kind_by k (named_in leaves.scopes.now leaves.unit.n p) is_named e

    number_by : (x : VarId) (r : Option Named) → IsNamedIn m units u p r → leaf_of vs r ≡ leaf.Variable x
        → x.n < length tree.variables.items
    number_by x r (variable {v = v} t f st) e =
        let q : v ≡ x = cc in
        let a = along_on (variables m units) tree.variables.items h.are.is_tree.variables_are v.n t st in
        subst (λ (z : VarId). z.n < length tree.variables.items) q (stands_within tree.variables.items v.n a.0 a.1)
    number_by x r (parameter t f st) e = cc
    number_by x r (symbol i) e = cc
    number_by x r (nothing n) e = cc

    -- a variable has the number of one of the tree
    pub leaf_number : (x : VarId) → leaf_in leaves p ≡ leaf.Variable x → x.n < length tree.variables.items
    leaf_number x e = number_by x (named_in leaves.scopes.now leaves.unit.n p) is_named e

    variable_by : (x : VarId) (r : Option Named) → IsNamedIn m units u p r → leaf_of vs r ≡ leaf.Variable x
        → (t : Thing) × Finds m is_variable u p t × Stands (variables m units) x.n t
    variable_by x r (variable {v = v} t f st) e =
        let q : v ≡ x = cc in (t, f, subst (λ (z : VarId). Stands (variables m units) z.n t) q st)
    variable_by x r (parameter t f st) e = cc
    variable_by x r (symbol i) e = cc
    variable_by x r (nothing n) e = cc

    -- the path of a variable names it
    pub leaf_variable : (x : VarId) → leaf_in leaves p ≡ leaf.Variable x
        → (t : Thing) × Finds m is_variable u p t × Stands (variables m units) x.n t
    leaf_variable x e = variable_by x (named_in leaves.scopes.now leaves.unit.n p) is_named e

    symbol_by : (v : Value) (r : Option Named) → IsNamedIn m units u p r → leaf_of vs r ≡ leaf.Constant v
        → IsSymbolIn tree v
    symbol_by v r (variable t f st) e = cc
    symbol_by v r (parameter {k = n} t f st) e =
        let q : valuation_at vs n ≡ v = cc in
        subst (IsSymbolIn tree) q (parameter_symbol n t st f.has)
    symbol_by v r (symbol {k = n} i) e =
        let q : value.Symbol n ≡ v = cc in
        subst (IsSymbolIn tree) q (subst (λ (z : ℕ). n < z) (symbols_same tree h.are.is_tree.table)
        (stands_within m.declared.symbols n i.name i.stands))
    symbol_by v r (nothing n) e =
        let q : value.Truth false ≡ v = cc in
        subst (IsSymbolIn tree) q (record {})

    -- a symbol has the number of one of the model
    pub leaf_symbol : (v : Value) → leaf_in leaves p ≡ leaf.Constant v → IsSymbolIn tree v
    leaf_symbol v e = symbol_by v (named_in leaves.scopes.now leaves.unit.n p) is_named e

    -- what may be named has what it stands for as its leaf
    pub leaf_for : s.MayName m u s.Everything p → IsLeafFor m units u p (leaf_in leaves p)
    leaf_for may = right_leaf h.are leaves.unit.n u h.at vs p h.along may
