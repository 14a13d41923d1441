-- The kinds of what paths name, by their declared types.
use Rattle.std.specs.Prelude.{◌≡◌, ℕ, Option, Some, None, option_map}
use Rattle.ar_syntax.specs.declared.items.DomainBody.{DomainBody}
use Rattle.ar_syntax.specs.declared.items.DomainBody.TheVariants as body
use Rattle.ar_syntax.specs.declared.members.TypeForm.{TypeForm}
use Rattle.ar_syntax.specs.declared.members.TypeForm.TheVariants as form
use Rattle.ar_syntax.specs.declared.paths.Path.{Path}
use Rattle.typed_expr.specs.declared.expr.ValueKind.{ValueKind}
use Rattle.typed_expr.specs.declared.expr.ValueKind.TheVariants.{Truth, Whole, Symbol}
use Rattle.class_table.specs.Members.{MemberKind, Variable, Parameter, domain_named}
use Rattle.hierarchy.specs.Models.{RootedModel}
use Rattle.hierarchy.specs.Units.{UnitPath, Thing, kind_at, numbers}
use Rattle.hierarchy.specs.Walks.{LeadsTo}
use Rattle.source_meaning.specs.Means.{IsSymbol}

-- the kind of the values of a declared domain
abbrev pub kind_of_body : DomainBody → ValueKind
kind_of_body (body.Symbols names) = Symbol
kind_of_body (body.Range low high) = Whole

-- the kind of a type; a name that names no domain has none
abbrev pub kind_of_type : RootedModel → TypeForm → Option ValueKind
kind_of_type m form.Boolean = Some Truth
kind_of_type m form.Integer = Some Whole
kind_of_type m (form.Named x) = option_map kind_of_body (domain_named m.declared x.n)

-- the kind of what an expression may name: a variable, or a parameter that is not Real
abbrev pub kind_of_member : RootedModel → MemberKind → Option ValueKind
kind_of_member m (Variable t settings) = kind_of_type m t
kind_of_member m (Parameter t e) = kind_of_type m t
kind_of_member m _ = None

-- the kind of the thing's values
pub record IsOfKind (m : RootedModel) (t : Thing) (k : ValueKind) : Type 0 where
  pub member : MemberKind
  pub is : kind_at m t.unit t.name ≡ Some member
  pub kind : kind_of_member m member ≡ Some k

-- the path, read in the unit u, names a variable or a parameter of this kind, or a symbol
pub data HasKindAt (m : RootedModel) (u : UnitPath) (p : Path) : ValueKind → Type 0 where
  thing : {k : ValueKind} (t : Thing) → LeadsTo m u p.start (numbers p.names.items) t → IsOfKind m t k
      → HasKindAt m u p k
  symbol : (n : ℕ) → IsSymbol m u p n → HasKindAt m u p Symbol
