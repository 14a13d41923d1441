-- What paths stand for, where the values of the parameters that they name are known.
use Rattle.std.proofs.Common.{◌≡◌, ℕ, List, [], Option, Some, None, refl, sym, ◌∙◌, ap, subst}
use Rattle.ar_base.specs.Lists.{Stands, Along}
use Rattle.ar_base.proofs.Standing.{along_on}
use Rattle.ar_syntax.specs.declared.paths.Path.{Path}
use Rattle.domains.specs.declared.Value.{Value}
use Rattle.domains.specs.declared.Value.TheVariants as value
use Rattle.typed_expr.specs.Kinds.{kind_of}
use Rattle.hierarchy.specs.Models.{RootedModel}
use Rattle.hierarchy.specs.Units.{UnitPath, Thing, kind_at}
use Rattle.hierarchy.specs.Walks.{Finds, PassesTest, thing, is_variable}
use Rattle.hierarchy.specs.Listing.{parameters}
use Rattle.source_meaning.specs.Means.{is_valued}
use Rattle.source_meaning.specs.Kinds.{HasKindAt}
use Rattle.source_meaning.specs.Kinds as k
use Rattle.source_meaning.specs.Tested as s
use Rattle.source_meaning.specs.BoundExpressions.{IsLeafFor}
use Rattle.source_meaning.specs.BoundExpressions as leaf
use Rattle.source_meaning.proofs.OneMeaning.{apart}
use Rattle.written_forms.specs.declared.naming.Leaf.{Leaf}
use Rattle.written_forms.specs.declared.naming.Leaf.TheVariants as stands
use Rattle.bind_scopes.specs.Scopes.{AreScopes, IsNamedIn, variable, parameter, symbol, nothing, named_in}
use Rattle.bind_scopes.specs.declared.scopes.Named.{Named}
use Rattle.bind_scopes.specs.declared.scopes.Scopes.{Scopes}
use Rattle.bind_scopes.proofs.NamedPaths.{kind_one, name_only, symbol_alone, names_right, may_more}
use Rattle.bind_names.specs.Leaves.{leaf_of}
use Rattle.bind_names.specs.Values.{IsValue, IsParameterValue}
use Rattle.gts_core.proofs.Reading.{read_value}
use Rattle.gts_core.specs.Readings.{valuation_at}

module _ {m : RootedModel} {u : UnitPath} {p : Path} (t : Thing) (f : Finds m is_variable u p t) where
  no_own : (x : ℕ) → s.IsOneName p x → PassesTest m is_valued (thing u x) → ⊥
  no_own x n h =
      let q = name_only x n.here n.single t f.leads in
      let e = kind_one (ap (λ (z : Thing). kind_at m z.unit z.name) (sym q) ∙ f.has.is) h.is in
      apart f.has.kind f.has.passes (ap is_valued e ∙ h.passes)

  -- a value names no variable
  no_variable : (x : ℕ) (o : Option ℕ) → s.MayName m u (s.scope_of x o) p → ⊥
  no_variable x None (s.symbol n i) = symbol_alone i f.leads f.has.is
  no_variable x None (s.earlier y n h e) = no_own y n h
  no_variable x (Some j) (s.symbol n i) = symbol_alone i f.leads f.has.is
  no_variable x (Some j) (s.own y n h) = no_own y n h

-- the values of the parameters that the path names
abbrev pub Knows : RootedModel → List UnitPath → UnitPath → Path → List Value → Type 0
Knows m units u p vs = (t : Thing) (n : ℕ) → Finds m is_valued u p t → Stands (parameters m units) n t
    → IsValue m t (valuation_at vs n)

-- in a value a path stands for a value, of the kind of what it names
record IsConstant (m : RootedModel) (u : UnitPath) (p : Path) (l : Leaf) : Type 0 where
  value : Value
  is : l ≡ stands.Constant value
  kind : HasKindAt m u p (kind_of value)
  leaf_for : IsLeafFor m [] u p l

module _ {m : RootedModel} {units : List UnitPath} {u : UnitPath} {p : Path} (vs : List Value)
    (known : Knows m units u p vs) where
  leaf_right : (r : Option Named) → IsNamedIn m units u p r → s.MayName m u s.Everything p
      → IsLeafFor m units u p (leaf_of vs r)
  leaf_right r (variable t f st) may = leaf.variable t f st
  leaf_right r (parameter {k = n} t f st) may = leaf.parameter t f (known t n f st).value
  leaf_right r (symbol {k = n} i) may = leaf.symbol n i
  leaf_right r (nothing n) may = absurd (n may)

  constant_right : (r : Option Named) → IsNamedIn m units u p r → (x : ℕ) (o : Option ℕ)
      → ((s.MayName m u (s.scope_of x o) p → ⊥) → ⊥) → IsConstant m u p (leaf_of vs r)
  constant_right r (variable t f st) x o nn = absurd (nn (λ may. no_variable t f x o may))
  constant_right r (parameter {k = n} t f st) x o nn =
      let v = known t n f st in
      record {
        value = valuation_at vs n;
        is = refl;
        kind = k.thing t f.leads v.kind;
        leaf_for = leaf.parameter t f v.value;
      }
  constant_right r (symbol {k = n} i) x o nn =
      record { value = value.Symbol n; is = refl; kind = k.symbol n i; leaf_for = leaf.symbol n i }
  constant_right r (nothing n) x o nn = absurd (nn (λ may. n (may_more (s.scope_of x o) may)))

module _ {m : RootedModel} {units : List UnitPath} {table : Scopes} (are : AreScopes m units table) (n : ℕ)
    (u : UnitPath) (at : Stands units n u) (vs : List Value) (p : Path) where
  pub constant_leaf : Knows m units u p vs → (x : ℕ) (o : Option ℕ) → ((s.MayName m u (s.scope_of x o) p → ⊥) → ⊥)
      → (v : Value) × (leaf_of vs (named_in table n p) ≡ stands.Constant v) × HasKindAt m u p (kind_of v)
      × IsLeafFor m [] u p (leaf_of vs (named_in table n p))
  constant_leaf known x o nn = let c = constant_right vs known (named_in table n p) (names_right are n u at p) x o nn in (c.value, c.is, c.kind, c.leaf_for)

  pub right_leaf : Along (IsParameterValue m) (parameters m units) vs → s.MayName m u s.Everything p
      → IsLeafFor m units u p (leaf_of vs (named_in table n p))
  right_leaf along may = leaf_right vs known (named_in table n p) (names_right are n u at p) may
    where
      known : Knows m units u p vs
      known t j f st =
          let b = along_on (parameters m units) vs along j t st in
          subst (λ (z : Value). IsValue m t z) (sym (read_value vs j b.0 b.1)) (b.2.value f.has)
