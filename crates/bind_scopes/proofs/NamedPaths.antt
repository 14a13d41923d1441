-- What a path names, and in which scopes it may.
use Rattle.std.proofs.Common.{◌≡◌, ℕ, ◌<◌, ◌≤◌, ◌⊎◌, inl, inr, Bool, true, false, nat_eq, nat_lt, ◌==◌, ◌&&◌, if◌then◌else◌, List, [], ◌∷◌, Option, Some, None, slice_get, option_map, length, IfNone, IfSome, IsTrue, ◌↔◌, refl, sym, ◌∙◌, ap, subst, arith}
use Rattle.std.proofs.lemmas.Bool.Decides.{nat_tests}
use Rattle.std.specs.HashMap as hash
use Rattle.std.specs.HashSet as bag
use Rattle.ar_base.specs.Lists.{Stands, IsOneOf}
use Rattle.ar_base.proofs.Standing.{stands_one, along_on, one_none, one_cases}
use Rattle.ar_base.proofs.Comparing.{side}
use Rattle.ar_syntax.specs.declared.paths.Path.{Path}
use Rattle.ar_syntax.specs.declared.paths.PathStart.{PathStart}
use Rattle.ar_syntax.specs.declared.paths.PathStart.TheVariants.{Here, Owner, Main}
use Rattle.class_table.specs.Members.{NamedMember, MemberKind, Variable, Parameter, Kept, Event, Observer, Inner, Clone, Alias, member_named}
use Rattle.hierarchy.specs.Models.{RootedModel}
use Rattle.hierarchy.specs.Units.{UnitPath, Thing, names_at, name_at, kind_at, numbers, body_of, start_of}
use Rattle.hierarchy.specs.UnitsInside.{names_in}
use Rattle.hierarchy.specs.Walks.{Finds, PassesTest, LeadsTo, thing, is_variable, is_parameter, arrives, NamesLead, Reaches}
use Rattle.hierarchy.specs.Listing.{variables, parameters, things_in}
use Rattle.hierarchy.specs.Tie.{IsTreeOf, IsVariableNode, IsParameterNode, AnswersThing}
use Rattle.hierarchy.specs.declared.tree.ParNode.{ParNode}
use Rattle.hierarchy.specs.declared.tree.UnitNode.{UnitNode}
use Rattle.hierarchy.specs.declared.tree.VarNode.{VarNode}
use Rattle.hierarchy.specs.declared.tree.Tree.{Tree}
use Rattle.hierarchy.proofs.Apart.{named_back}
use Rattle.hierarchy.proofs.Finding.{same_or_not}
use Rattle.hierarchy.proofs.Looking.{some_unit, main_first}
use Rattle.hierarchy.proofs.Things.{ComesFrom, flat_origin, listed_has}
use Rattle.source_meaning.specs.Means.{is_valued, IsSymbol}
use Rattle.source_meaning.specs.Tested as s
use Rattle.source_meaning.specs.Kinds.{IsOfKind, kind_of_member}
use Rattle.source_meaning.proofs.OneMeaning.{apart, leads_same}
use Rattle.bind_scopes.specs.Indexed.{is_same_index}
use Rattle.bind_scopes.specs.Members.{HasName, NamesSo}
use Rattle.bind_scopes.specs.Searching.{variable_in, parameter_in}
use Rattle.bind_scopes.specs.Sites.{owned_in, is_read}
use Rattle.bind_scopes.specs.Scopes.{AreScopes, IsNamedIn, variable, parameter, symbol, nothing, HasScopes, symbol_by, is_read_in, first_named, named_in, IsScope, everything, constants, before, is_one_name, allowed, scoped_in}
use Rattle.bind_scopes.specs.declared.scopes.Named.{Named}
use Rattle.bind_scopes.specs.declared.scopes.Named.TheVariants as named
use Rattle.bind_scopes.specs.declared.scopes.Scope.{Scope}
use Rattle.bind_scopes.specs.declared.scopes.Scope.TheVariants.{Constants, Before}
use Rattle.bind_scopes.specs.declared.scopes.Scopes.{Scopes}
use Rattle.bind_scopes.proofs.Order.{all_different, listed_order, one_earlier, not_earlier}
use Rattle.bind_scopes.proofs.Siting.{owned_same, read_parameter}
use Rattle.bind_scopes.proofs.Walking.{answers, answer_one}
use Rattle.typed_expr.specs.declared.expr.ValueKind.{ValueKind}

-- one thing is told
pub kind_one : {A : Type 0} {a b : A} {o : Option A} → o ≡ Some a → o ≡ Some b → a ≡ b
kind_one e f = cc

-- what has a value is a parameter
pub valued_parameter : (k : MemberKind) → is_valued k ≡ true → is_parameter k ≡ true
valued_parameter (Parameter t e) h = refl
valued_parameter (Variable t ss) h = cc
valued_parameter Kept h = cc
valued_parameter Event h = cc
valued_parameter (Observer t e) h = cc
valued_parameter (Inner b o) h = cc
valued_parameter (Clone p) h = cc
valued_parameter (Alias p) h = cc

pub finds_parameter : (m : RootedModel) (u : UnitPath) (p : Path) (t : Thing) → Finds m is_valued u p t
    → Finds m is_parameter u p t
finds_parameter m u p t f = record {
  leads = f.leads;
  has = record { kind = f.has.kind; is = f.has.is; passes = valued_parameter f.has.kind f.has.passes };
}

-- the thing that one name names
module _ {m : RootedModel} {u : UnitPath} {start : PathStart} {names : List ℕ} (x : ℕ) (here : start ≡ Here)
    (single : names ≡ x ∷ []) where
  pub name_leads : LeadsTo m u start names (thing u x)
  name_leads = record {
    front = [];
    split = single;
    reaches = subst (λ (z : PathStart). NamesLead m [] (start_of z u) [] (Reaches u)) (sym here) arrives;
  }

  pub name_only : (t : Thing) → LeadsTo m u start names t → t ≡ thing u x
  name_only t h = leads_same h name_leads

-- a symbol is no thing
pub symbol_alone : {m : RootedModel} {u : UnitPath} {p : Path} {k : ℕ} {t : Thing} {kind : MemberKind}
    → IsSymbol m u p k → LeadsTo m u p.start (numbers p.names.items) t → kind_at m t.unit t.name ≡ Some kind → ⊥
symbol_alone {m = m} {t = t} i h e =
    let q = name_only i.name i.here i.single t h in
    let n : kind_at m t.unit t.name ≡ None = ap (λ (z : Thing). kind_at m z.unit z.name) q ∙ i.not_given in cc

none_named : (gs : List NamedMember) (y : ℕ) (g : NamedMember) → IsOneOf gs g → g.name ≡ y → member_named gs y ≡ None
    → ⊥
none_named [] y g o q e = one_none g o
none_named (h ∷ hs) y g o q e = elim (same_or_not h.name y) [
  | inl w ↦ (let v : (h.name == y) ≡ true = w.0 in let r = rw v at e in cc)
  | inr w ↦ (let v : (h.name == y) ≡ false = w.0 in let r = rw v at e in elim (one_cases h hs g o) [ inl i ↦ absurd (w.1 (ap (λ (z : NamedMember). z.name) i ∙ q)) | inr i ↦ none_named hs y g i q r ])
]

-- a name that the body has
name_given : (m : RootedModel) (u : UnitPath) (x : ℕ) → NamesSo (names_at m u) x → kind_at m u x ≡ None → ⊥
name_given m u x n e = by (name_at m u x) refl e
  where
    by : (r : Option NamedMember) → name_at m u x ≡ r → option_map (λ (h : NamedMember). h.kind) r ≡ None → ⊥
    by (Some h) i f = cc
    by None i f = none_named (names_at m u) x n.member n.is_one n.name i

module _ {m : RootedModel} {units : List UnitPath} {table : Scopes} (are : AreScopes m units table) (n : ℕ)
    (u : UnitPath) (at : Stands units n u) where
  -- the node of the unit has the unit's body
  unit_node : (d : UnitNode) × (slice_get table.tree.now.units.items n ≡ Some d) × (d.body.n ≡ body_of m u)
  unit_node = let a = along_on units table.tree.now.units.items are.is_tree.units_are n u at in (a.0, a.1, a.2.body)

  -- the number of a symbol, or none where the name is none
  abbrev pub AnswersSymbol : Path → Option ℕ → Type 0
  AnswersSymbol p None = (k : ℕ) → IsSymbol m u p k → ⊥
  AnswersSymbol p (Some k) = IsSymbol m u p k

  symbol_looked : (p : Path) (x : ℕ) → p.start ≡ Here → numbers p.names.items ≡ x ∷ [] → (d : UnitNode)
      → d.body.n ≡ body_of m u
      → (has : Bool) → bag.contains is_same_index table.members (d.body.n, x) ≡ has → (r : Option ℕ)
      → hash.get nat_eq table.symbols x ≡ r → AnswersSymbol p (if has then None else r)
  symbol_looked p x here single d b true h r g = λ k i.
      let e : i.name ≡ x = (let q = sym i.single ∙ single in cc) in
      let w = are.only_names d.body.n x h in
      name_given m u x (subst (λ (z : ℕ). NamesSo (names_in m z) x) b w)
      (subst (λ (z : ℕ). kind_at m u z ≡ None) e i.not_given)
  symbol_looked p x here single d b false h None g = λ k i.
      let e : i.name ≡ x = (let q = sym i.single ∙ single in cc) in
      are.no_symbols x k g (subst (λ (z : ℕ). Stands m.declared.symbols k z) e i.stands)
  symbol_looked p x here single d b false h (Some k) g = record {
    name = x;
    here = here;
    single = single;
    not_given = by (name_at m u x) refl;
    stands = are.symbols x k g;
  }
    where
      by : (o : Option NamedMember) → name_at m u x ≡ o → option_map (λ (g : NamedMember). g.kind) o ≡ None
      by None e = refl
      by (Some g) e =
          let w = named_back (names_at m u) x g e in
          let f = subst (λ (z : ℕ). HasName table.members z x) (sym b)
          (are.names n u x at (record { member = g; is_one = w.0; name = w.1 })) in cc

  symbol_node : (p : Path) → (start : PathStart) (names : List ℕ) → p.start ≡ start → numbers p.names.items ≡ names
      → (d : UnitNode) → d.body.n ≡ body_of m u → AnswersSymbol p (symbol_by table (Some d) start names)
  symbol_node p Here (x ∷ []) e f d b =
      symbol_looked p x e f d b (bag.contains is_same_index table.members (d.body.n, x)) refl
      (hash.get nat_eq table.symbols x) refl
  symbol_node p Here [] e f d b = λ k i. let q = sym f ∙ i.single in cc
  symbol_node p Here (x ∷ y ∷ more) e f d b = λ k i. let q = sym f ∙ i.single in cc
  symbol_node p Owner names e f d b = λ k i. let q = sym e ∙ i.here in cc
  symbol_node p Main names e f d b = λ k i. let q = sym e ∙ i.here in cc

  pub symbol_answers : (p : Path) → AnswersSymbol p
      (symbol_by table (slice_get table.tree.now.units.items n) p.start (numbers p.names.items))
  symbol_answers p =
      let a = unit_node in
      subst (λ (o : Option UnitNode). AnswersSymbol p (symbol_by table o p.start (numbers p.names.items))) (sym a.1)
      (symbol_node p p.start (numbers p.names.items) refl refl a.0 a.2)

  pub variable_answers : (p : Path) → AnswersThing m (variables m units) is_variable u p.start (numbers p.names.items)
      (variable_in table.tree.now n p)
  variable_answers p = answers are.is_tree is_variable (λ (d : VarNode). d.node) (IsVariableNode m units)
      (λ t d i. (i.given, i.node)) table.tree.now.variables.items are.is_tree.variables_are n u at p.start
      (numbers p.names.items)

  pub parameter_answers : (p : Path) → AnswersThing m (parameters m units) is_parameter u p.start
      (numbers p.names.items) (parameter_in table.tree.now n p)
  parameter_answers p = answers are.is_tree is_parameter (λ (d : ParNode). d.node) (IsParameterNode m units)
      (λ t d i. (i.given, i.node)) table.tree.now.parameters.items are.is_tree.parameters_are n u at p.start
      (numbers p.names.items)

  -- a parameter is read where it has a value
  pub read_is : (k : ℕ) (t : Thing) → Stands (parameters m units) k t → (kind : MemberKind)
      → kind_at m t.unit t.name ≡ Some kind → is_parameter kind ≡ true → is_read_in table.tree.now k ≡ is_valued kind
  read_is k t st kind e p =
      let a = along_on (parameters m units) table.tree.now.parameters.items are.is_tree.parameters_are k t st in
      let g = a.2.given in
      let q : g.kind ≡ kind = kind_one (ap (option_map (λ (g : NamedMember). g.kind)) a.2.node.is) e in
      ap (λ (o : Option ParNode). read_node o) a.1
      ∙ (ap is_read (owned_same m.declared table.tree.now.classes are.is_tree.table.table.holds.bodies a.0.node.source
      g.site None a.2.node.source)
      ∙ (read_parameter m t.unit t.name g a.2.node.is (ap is_parameter q ∙ p) ∙ ap is_valued q))
    where
      read_node : Option ParNode → Bool
      read_node None = false
      read_node (Some d) = is_read (owned_in table.tree.now.classes d.node.source)

  -- what is found first is what the path names
  named_first : (p : Path) (a b c : Option ℕ)
      → AnswersThing m (variables m units) is_variable u p.start (numbers p.names.items) a
      → AnswersThing m (parameters m units) is_parameter u p.start (numbers p.names.items) b → AnswersSymbol p c
      → IsNamedIn m units u p (first_named table.tree.now a b c)
  named_first p (Some v) b c h i j = variable h.0 h.2 h.1
  named_first p None (Some k) c h i j = by (is_read_in table.tree.now k) refl
    where
      same : is_read_in table.tree.now k ≡ is_valued i.2.has.kind
      same = read_is k i.0 i.1 i.2.has.kind i.2.has.is i.2.has.passes

      by : (r : Bool) → is_read_in table.tree.now k ≡ r
          → IsNamedIn m units u p (if r then Some (named.Parameter k) else None)
      by true e = parameter i.0 (record {
        leads = i.2.leads;
        has = record { kind = i.2.has.kind; is = i.2.has.is; passes = sym same ∙ e };
      }) i.1
      by false e = nothing none
        where
          none : s.MayName m u s.Everything p → ⊥
          none (s.symbol n y) = symbol_alone y i.2.leads i.2.has.is
          none (s.variable t f) = h t f
          none (s.parameter t f) =
              let q = leads_same f.leads i.2.leads in
              let z : f.has.kind ≡ i.2.has.kind =
              kind_one (ap (λ (w : Thing). kind_at m w.unit w.name) (sym q) ∙ f.has.is) i.2.has.is in
              let y : is_valued i.2.has.kind ≡ true = ap is_valued (sym z) ∙ f.has.passes in
              let x : is_valued i.2.has.kind ≡ false = sym same ∙ e in cc
  named_first p None None (Some k) h i j = symbol j
  named_first p None None None h i j = nothing none
    where
      none : s.MayName m u s.Everything p → ⊥
      none (s.symbol k y) = j k y
      none (s.variable t f) = h t f
      none (s.parameter t f) = i t (finds_parameter m u p t f)

  pub names_right : (p : Path) → IsNamedIn m units u p (named_in table n p)
  names_right p = named_first p (variable_in table.tree.now n p) (parameter_in table.tree.now n p) _
      (variable_answers p) (parameter_answers p) (symbol_answers p)

  -- what the code finds is what the lists tell
  pub variable_same : (p : Path) (r : Option ℕ)
      → AnswersThing m (variables m units) is_variable u p.start (numbers p.names.items) r
      → r ≡ variable_in table.tree.now n p
  variable_same p r h = answer_one m (variables m units) is_variable u p.start (numbers p.names.items)
      (all_different m is_variable are.is_tree.table.kept are.is_tree.are_units) r (variable_in table.tree.now n p) h
      (variable_answers p)

  pub parameter_same : (p : Path) (r : Option ℕ)
      → AnswersThing m (parameters m units) is_parameter u p.start (numbers p.names.items) r
      → r ≡ parameter_in table.tree.now n p
  parameter_same p r h = answer_one m (parameters m units) is_parameter u p.start (numbers p.names.items)
      (all_different m is_parameter are.is_tree.table.kept are.is_tree.are_units) r (parameter_in table.tree.now n p) h
      (parameter_answers p)

-- What the code finds

module _ (table : Scopes) (h : HasScopes table) (n : ℕ) (l : n < length table.tree.now.units.items) (p : Path) where
  pub variable_there : (r : Option ℕ)
      → ((m : RootedModel) (units : List UnitPath) (u : UnitPath) → IsTreeOf m units table.tree.now → Stands units n u
      → AnswersThing m (variables m units) is_variable u p.start (numbers p.names.items) r)
      → r ≡ variable_in table.tree.now n p
  variable_there r a = let w = some_unit h.are.is_tree l in variable_same h.are n w.0 w.1 p r (a h.model h.units w.0 h.are.is_tree w.1)

  pub parameter_there : (r : Option ℕ)
      → ((m : RootedModel) (units : List UnitPath) (u : UnitPath) → IsTreeOf m units table.tree.now → Stands units n u
      → AnswersThing m (parameters m units) is_parameter u p.start (numbers p.names.items) r)
      → r ≡ parameter_in table.tree.now n p
  parameter_there r a = let w = some_unit h.are.is_tree l in parameter_same h.are n w.0 w.1 p r (a h.model h.units w.0 h.are.is_tree w.1)

  pub first_variable : (v : ℕ) → Some v ≡ variable_in table.tree.now n p
      → Some (named.Variable (record { n = v; of = record {} })) ≡ named_in table n p
  first_variable v e = ap (λ (z : Option ℕ). first_named table.tree.now z (parameter_in table.tree.now n p)
      (symbol_by table (slice_get table.tree.now.units.items n) p.start (numbers p.names.items))) e

  pub first_constant : None ≡ variable_in table.tree.now n p
      → first_named table.tree.now None (parameter_in table.tree.now n p)
      (symbol_by table (slice_get table.tree.now.units.items n) p.start (numbers p.names.items))
      ≡ named_in table n p
  first_constant e = ap (λ (z : Option ℕ). first_named table.tree.now z (parameter_in table.tree.now n p)
      (symbol_by table (slice_get table.tree.now.units.items n) p.start (numbers p.names.items))) e

  pub first_parameter : (k : ℕ) (b : Bool) → Some k ≡ parameter_in table.tree.now n p → is_read_in table.tree.now k ≡ b
      → (if b then Some (named.Parameter k) else None)
      ≡ first_named table.tree.now None (parameter_in table.tree.now n p)
      (symbol_by table (slice_get table.tree.now.units.items n) p.start (numbers p.names.items))
  first_parameter k b e f =
      ap (λ (z : Bool). if z then Some (named.Parameter k) else None) (sym f)
      ∙ ap (λ (z : Option ℕ). first_named table.tree.now None z
      (symbol_by table (slice_get table.tree.now.units.items n) p.start (numbers p.names.items))) e

  pub first_symbol : (o : Option ℕ) → None ≡ parameter_in table.tree.now n p
      → o ≡ symbol_by table (slice_get table.tree.now.units.items n) p.start (numbers p.names.items)
      → option_map (λ k. named.Symbol k) o
      ≡ first_named table.tree.now None (parameter_in table.tree.now n p)
      (symbol_by table (slice_get table.tree.now.units.items n) p.start (numbers p.names.items))
  first_symbol o e f = ap (λ (z : Option ℕ). first_named table.tree.now None None z) f
      ∙ ap (λ (z : Option ℕ). first_named table.tree.now None z
      (symbol_by table (slice_get table.tree.now.units.items n) p.start (numbers p.names.items))) e

-- Scopes

-- a path that is one name
name_true : (start : PathStart) (names : List ℕ) → is_one_name start names ≡ true
    → (x : ℕ) × (start ≡ Here) × (names ≡ x ∷ [])
name_true Here (x ∷ []) e = (x, refl, refl)
name_true Here [] e = cc
name_true Here (x ∷ y ∷ more) e = cc
name_true Owner names e = cc
name_true Main names e = cc

true_name : (start : PathStart) (names : List ℕ) (x : ℕ) → start ≡ Here → names ≡ x ∷ [] → is_one_name start names ≡ true
true_name start names x e f = ap (λ (z : PathStart). is_one_name z names) e ∙ ap (λ (z : List ℕ). is_one_name Here z) f

and_true : (a b : Bool) → a && b ≡ true → (a ≡ true) × (b ≡ true)
and_true true b e = (refl, e)
and_true false b e = cc

-- what is named in a scope, or nothing that may be named there
abbrev pub NamesIn : RootedModel → List UnitPath → UnitPath → s.Scope → Path → Option Named → Type 0
NamesIn m units u scope p None = s.MayName m u scope p → ⊥
NamesIn m units u scope p (Some found) = s.MayName m u scope p × IsNamedIn m units u p (Some found)

-- what the code finds in a scope
pub none_named_in : (m : RootedModel) (units : List UnitPath) (u : UnitPath) (p : Path) (meant : s.Scope)
    (r r' : Option Named) → r ≡ r' → NamesIn m units u meant p r' → IfNone r (s.MayName m u meant p → ⊥)
none_named_in m units u p meant r r' e h = by r (subst (λ (z : Option Named). NamesIn m units u meant p z) (sym e) h)
  where
    by : (r : Option Named) → NamesIn m units u meant p r → IfNone r (s.MayName m u meant p → ⊥)
    by None h = h
    by (Some f) h = tt

pub some_named_in : (m : RootedModel) (units : List UnitPath) (u : UnitPath) (p : Path) (meant : s.Scope)
    (r r' : Option Named) → r ≡ r' → NamesIn m units u meant p r'
    → IfSome r (λ f. s.MayName m u meant p × IsNamedIn m units u p (Some f))
some_named_in m units u p meant r r' e h = by r (subst (λ (z : Option Named). NamesIn m units u meant p z) (sym e) h)
  where
    by : (r : Option Named) → NamesIn m units u meant p r
        → IfSome r (λ f. s.MayName m u meant p × IsNamedIn m units u p (Some f))
    by None h = tt
    by (Some f) h = h

-- what may be named in a narrower scope may be named at all
pub may_more : {m : RootedModel} {u : UnitPath} {p : Path} (scope : s.Scope) → s.MayName m u scope p
    → s.MayName m u s.Everything p
may_more scope (s.symbol k i) = s.symbol k i
may_more scope (s.variable t f) = s.variable t f
may_more scope (s.parameter t f) = s.parameter t f
may_more {u = u} scope (s.own x n h) =
    s.parameter (thing u x) (record { leads = name_leads x n.here n.single; has = h })
may_more {u = u} scope (s.earlier x n h e) =
    s.parameter (thing u x) (record { leads = name_leads x n.here n.single; has = h })

-- one name, what it names, and what another word says of that
module _ {m : RootedModel} {u : UnitPath} {p : Path} (x : ℕ) (n : s.IsOneName p x) where
  not_variable : PassesTest m is_valued (thing u x) → (t : Thing) → Finds m is_variable u p t → ⊥
  not_variable h t f =
      let q = name_only x n.here n.single t f.leads in
      let e = kind_one (ap (λ (z : Thing). kind_at m z.unit z.name) (sym q) ∙ f.has.is) h.is in
      apart f.has.kind f.has.passes (ap is_valued e ∙ h.passes)

module _ {m : RootedModel} {units : List UnitPath} {tree : Tree} (is : IsTreeOf m units tree) (u : UnitPath)
    (p : Path) where
  everything_names : (r : Option Named) → IsNamedIn m units u p r → NamesIn m units u s.Everything p r
  everything_names r (variable t f st) = (s.variable t f, variable t f st)
  everything_names r (parameter t f st) = (s.parameter t f, parameter t f st)
  everything_names r (symbol {k = k} i) = (s.symbol k i, symbol i)
  everything_names r (nothing n) = n

  -- constants
  constant_variable : (t : Thing) → Finds m is_variable u p t → s.MayName m u s.Constants p → ⊥
  constant_variable t f (s.symbol k i) = symbol_alone i f.leads f.has.is
  constant_variable t f (s.own x n h) = not_variable x n h t f

  constant_other : (t : Thing) → Finds m is_valued u p t → is_one_name p.start (numbers p.names.items) ≡ false
      → s.MayName m u s.Constants p → ⊥
  constant_other t f e (s.symbol k i) = symbol_alone i f.leads f.has.is
  constant_other t f e (s.own x n h) = let q = true_name p.start (numbers p.names.items) x n.here n.single in cc

  has_name : (x : ℕ) (t : Thing) → p.start ≡ Here → numbers p.names.items ≡ x ∷ [] → Finds m is_valued u p t
      → PassesTest m is_valued (thing u x)
  has_name x t here single f = subst (λ (z : Thing). PassesTest m is_valued z) (name_only x here single t f.leads) f.has

  constant_parameter : (k : ℕ) (t : Thing) → Finds m is_valued u p t → Stands (parameters m units) k t → (single : Bool)
      → is_one_name p.start (numbers p.names.items) ≡ single
      → NamesIn m units u s.Constants p (if single then Some (named.Parameter k) else None)
  constant_parameter k t f st true e =
      let w = name_true p.start (numbers p.names.items) e in
      (s.own w.0 (record { here = w.1; single = w.2 }) (has_name w.0 t w.1 w.2 f), parameter t f st)
  constant_parameter k t f st false e = constant_other t f e

  constants_name : (r : Option Named) → IsNamedIn m units u p r
      → NamesIn m units u s.Constants p (allowed Constants (is_one_name p.start (numbers p.names.items)) r)
  constants_name r (variable t f st) = constant_variable t f
  constants_name r (parameter {k = k} t f st) =
      constant_parameter k t f st (is_one_name p.start (numbers p.names.items)) refl
  constants_name r (symbol {k = k} i) = (s.symbol k i, symbol i)
  constants_name r (nothing n) = λ h. n (may_more s.Constants h)

  -- earlier constants
  module _ (j y : ℕ) (at : Stands (parameters m units) j (thing u y)) where
    before_variable : (t : Thing) → Finds m is_variable u p t → s.MayName m u (s.Before y) p → ⊥
    before_variable t f (s.symbol k i) = symbol_alone i f.leads f.has.is
    before_variable t f (s.earlier x n h e) = not_variable x n h t f

    -- a parameter that stands no earlier is named by no earlier name
    not_before : (k : ℕ) (t : Thing) → Finds m is_valued u p t → Stands (parameters m units) k t → j ≤ k → (x : ℕ)
        → s.IsOneName p x → s.IsEarlierMember m u x y → ⊥
    not_before k t f st l x n e = by (side k j)
      where
        q : t ≡ thing u x
        q = name_only x n.here n.single t f.leads

        by : (k ≤ j) ⊎ (j < k) → ⊥
        by (inl a) =
            let i : j ≡ k = omega (arith, a, l) in
            let r = stands_one (parameters m units) k (thing u y) t
            (subst (λ (z : ℕ). Stands (parameters m units) z (thing u y)) i at) st ∙ q in
            not_earlier m is_parameter is.table.kept u y
            (subst (λ (z : ℕ). s.IsEarlierMember m u z y) (sym (ap (λ (z : Thing). z.name) r)) e)
        by (inr a) =
            let o = listed_order m is_parameter is.table.kept is.are_units j k (thing u y) (thing u x) a
            at (subst (λ (z : Thing). Stands (parameters m units) k z) q st) refl in
            one_earlier m is_parameter is.table.kept u x y e o

    before_other : (k : ℕ) (t : Thing) → Finds m is_valued u p t → Stands (parameters m units) k t
        → (is_one_name p.start (numbers p.names.items) && nat_lt k j) ≡ false → s.MayName m u (s.Before y) p → ⊥
    before_other k t f st e (s.symbol n i) = symbol_alone i f.leads f.has.is
    before_other k t f st e (s.earlier x n h o) =
        let q = true_name p.start (numbers p.names.items) x n.here n.single in
        let g : nat_lt k j ≡ false = sym (ap (λ (b : Bool). b && nat_lt k j) q) ∙ e in
        not_before k t f st (grind (arith, nat_tests)) x n o

    before_parameter : (k : ℕ) (t : Thing) → Finds m is_valued u p t → Stands (parameters m units) k t → (b : Bool)
        → (is_one_name p.start (numbers p.names.items) && nat_lt k j) ≡ b
        → NamesIn m units u (s.Before y) p (if b then Some (named.Parameter k) else None)
    before_parameter k t f st true e =
        let c = and_true (is_one_name p.start (numbers p.names.items)) (nat_lt k j) e in
        let w = name_true p.start (numbers p.names.items) c.0 in
        let q = name_only w.0 w.1 w.2 t f.leads in
        let l : nat_lt k j ≡ true = c.1 in
        let o = listed_order m is_parameter is.table.kept is.are_units k j (thing u w.0) (thing u y)
        (grind (arith, nat_tests)) (subst (λ (z : Thing). Stands (parameters m units) k z) q st) at refl in
        (s.earlier w.0 (record { here = w.1; single = w.2 }) (has_name w.0 t w.1 w.2 f) o, parameter t f st)
    before_parameter k t f st false e = before_other k t f st e

    before_names : (r : Option Named) → IsNamedIn m units u p r
        → NamesIn m units u (s.Before y) p (allowed (Before j) (is_one_name p.start (numbers p.names.items)) r)
    before_names r (variable t f st) = before_variable t f
    before_names r (parameter {k = k} t f st) =
        before_parameter k t f st (is_one_name p.start (numbers p.names.items) && nat_lt k j) refl
    before_names r (symbol {k = k} i) = (s.symbol k i, symbol i)
    before_names r (nothing n) = λ h. n (may_more (s.Before y) h)

  pub allowed_names : (scope : Scope) (meant : s.Scope) → IsScope m units u scope meant → (r : Option Named)
      → IsNamedIn m units u p r
      → NamesIn m units u meant p (allowed scope (is_one_name p.start (numbers p.names.items)) r)
  allowed_names scope meant everything r h = everything_names r h
  allowed_names scope meant constants r h = constants_name r h
  allowed_names scope meant (before {k = j} y at) r h = before_names j y at r h

-- what is found in a scope is what may be named there
pub scoped_names : {m : RootedModel} {units : List UnitPath} {table : Scopes} (are : AreScopes m units table) (n : ℕ)
    (u : UnitPath) → Stands units n u → (scope : Scope) (meant : s.Scope) → IsScope m units u scope meant → (p : Path)
    → NamesIn m units u meant p (scoped_in table n scope p)
scoped_names {table = table} are n u at scope meant i p =
    allowed_names are.is_tree u p scope meant i (named_in table n p) (names_right are n u at p)

-- a parameter that is read has a value
pub read_valued : {m : RootedModel} {units : List UnitPath} {table : Scopes} (are : AreScopes m units table) (k : ℕ)
    (t : Thing) → Stands (parameters m units) k t → (r : Bool) → r ≡ is_read_in table.tree.now k
    → IsTrue r ↔ PassesTest m is_valued t
read_valued {m = m} {units = units} {table = table} are k t st r e =
    by r (e ∙ read_is are 0 [] (main_first are.is_tree.are_units) k t st has.kind has.is has.passes)
  where
    from : ComesFrom (things_in is_parameter m) units t
    from = flat_origin (things_in is_parameter m) units k t st

    has : PassesTest m is_parameter t
    has = listed_has m is_parameter are.is_tree.table.kept from.item t from.is_one

    by : (r : Bool) → r ≡ is_valued has.kind → IsTrue r ↔ PassesTest m is_valued t
    by true f = (λ h. record { kind = has.kind; is = has.is; passes = sym f }, λ v. (let g : true ≡ true = cc in g))
    by false f = (λ h. cc, λ v. (let q = kind_one has.is v.is in let g = v.passes in let i : is_valued v.kind ≡ false = ap is_valued (sym q) ∙ sym f in cc))

-- a thing has values of one kind
pub one_of_kind : {m : RootedModel} {t : Thing} {j k : ValueKind} → IsOfKind m t j → IsOfKind m t k → j ≡ k
one_of_kind {m = m} h g = kind_one (sym (ap (kind_of_member m) (kind_one h.is g.is)) ∙ h.kind) g.kind
