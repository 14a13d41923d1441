-- Observers by their paths, and values of their types by words.
use Rattle.std.specs.Prelude.{◌≡◌, ℕ, ℤ, Bool, true, List, Option, Some, None, pos, codes, FitsSigned}
use Rattle.std.specs.Fmt.{signed_decimal}
use Rattle.std.specs.Int.{w64}
use Rattle.ar_base.specs.Lists.{Stands}
use Rattle.ar_base.specs.Texts.{truth_text}
use Rattle.ar_syntax.specs.declared.expressions.RawExpr.{RawExpr}
use Rattle.ar_syntax.specs.declared.members.TypeForm.{TypeForm}
use Rattle.class_table.specs.Members.{Observer}
use Rattle.domains.specs.declared.Value.{Value}
use Rattle.domains.specs.declared.Value.TheVariants as value
use Rattle.typed_expr.specs.declared.expr.ValueKind.{ValueKind}
use Rattle.typed_expr.specs.declared.expr.ValueKind.TheVariants.{Truth, Whole, Symbol}
use Rattle.hierarchy.specs.Units.{Thing, kind_at}
use Rattle.hierarchy.specs.Walks.{is_observer}
use Rattle.hierarchy.specs.Listing.{observers}
use Rattle.source_meaning.specs.Kinds.{kind_of_type}
use Rattle.gts_flatten.specs.Elaborating.{Elaborated}
use Rattle.gts_flatten.specs.Flat.{naming_of}
use Rattle.job_inputs.specs.Labels.{NamesOne}

-- the text is a path from the main block that names the observer of this number
abbrev pub NamesObserver : Elaborated → List ℕ → ℕ → Type 0
NamesObserver x = NamesOne x is_observer observers

-- the observer of this number is declared with a type whose values are of this kind
pub record IsObserverOfKind (x : Elaborated) (n : ℕ) (kind : ValueKind) : Type 0 where
  pub thing : Thing
  pub number : Stands (observers x.declarations.model x.declarations.units) n thing
  pub type : TypeForm
  pub written : RawExpr
  pub is : kind_at x.declarations.model thing.unit thing.name ≡ Some (Observer type written)
  pub kind_is : kind_of_type x.declarations.model type ≡ Some kind

-- the word writes this value among those of the kind, where these are the symbols' names by number: `true` or `false`;
-- a number of 64 bits in digits without leading zeros, behind a `-` where it is negative, or `-0`; or the name of a
-- symbol
pub data WritesValue (symbols : List (List ℕ)) (word : List ℕ) : ValueKind → Value → Type 0 where
  truth : {b : Bool} → word ≡ truth_text b → WritesValue symbols word Truth (value.Truth b)
  whole : {n : ℤ} → FitsSigned w64 n → word ≡ signed_decimal n → WritesValue symbols word Whole (value.Whole n)
  less_zero : word ≡ codes "-0" → WritesValue symbols word Whole (value.Whole (pos 0))
  symbol : {s : ℕ} → Stands symbols s word → WritesValue symbols word Symbol (value.Symbol s)

-- the value that is asked for: the one that the word writes, or true where there is no word and the observer is Boolean
pub data Wants (symbols : List (List ℕ)) : Option (List ℕ) → ValueKind → Value → Type 0 where
  as_written : {word : List ℕ} {kind : ValueKind} {v : Value} → WritesValue symbols word kind v
      → Wants symbols (Some word) kind v
  true_unsaid : Wants symbols None Truth (value.Truth true)

-- the observer is named, and the value is the one that is asked for of its type
pub record IsWanted (x : Elaborated) (observer : List ℕ) (word : Option (List ℕ)) (n : ℕ) (v : Value) : Type 0 where
  pub names : NamesObserver x observer n
  pub kind : ValueKind
  pub of_kind : IsObserverOfKind x n kind
  pub wants : Wants (naming_of x.declarations).symbols word kind v

-- the path names no observer
abbrev pub NamesNone : Elaborated → List ℕ → Type 0
NamesNone x observer = (n : ℕ) → NamesObserver x observer n → ⊥

-- the path names an observer, and no value of its type is asked for
pub record WantsNone (x : Elaborated) (observer : List ℕ) (word : Option (List ℕ)) : Type 0 where
  pub number : ℕ
  pub names : NamesObserver x observer number
  pub none : (v : Value) → IsWanted x observer word number v → ⊥
