-- The unfolding and the binding of models that agree have one answer together.
use Rattle.std.specs.Prelude.{◌≡◌, Result, Ok}
use Rattle.std.proofs.Common.{refl, sym, subst}
use Rattle.ar_base.specs.Stages.{Then, passes, kept, fits}
use Rattle.ar_base.specs.declared.faults.RuleFault.{RuleFault}
use Rattle.ar_syntax.specs.declared.expressions.RawExpr.{RawExpr}
use Rattle.ar_syntax.specs.declared.expressions.RawForm.{out-RawForm}
use Rattle.ar_syntax.specs.declared.instructions.Instr.{Instr, out-Instr}
use Rattle.ar_syntax.specs.declared.members.Member.{Member, out-Member}
use Rattle.parser_laws.specs.Expressions.{SameExpr, SameInstr}
use Rattle.parser_laws.specs.Members.{SameMember}
use Rattle.parser_laws.specs.Opened.{SameForm, SameStep, SameKind}
use Rattle.hierarchy.specs.Listing.{Unfolded, AreUnits}
use Rattle.hierarchy.specs.Models.{RootedModel}
use Rattle.hierarchy.specs.ModelsInside.{KeepsTextRules}
use Rattle.unit_walks.specs.Unfolding.{whole}
use Rattle.instantiate.specs.Unfolding.{Instantiates}
use Rattle.source_meaning.specs.Systems.{Declarations, Binds}
use Rattle.source_laws.specs.Answers.{SameAnswer}
use Rattle.source_laws.specs.Tables.{SameRooted}
use Rattle.source_laws.specs.Units.{SameUnfolded}
use Rattle.source_laws.proofs.Alike.{AreAlike, alike_of, alike_where, then_alike, told}
use Rattle.source_laws.specs.Declarations.{SameDeclarations}
use Rattle.source_laws.proofs.OneBinding.{AreKeptAlike, binding_alike}

-- it is the model, with the units of its main block
record IsUnfoldingOf (m : RootedModel) (t : Unfolded) : Type 0 where
  model : t.model ≡ m
  are : AreUnits t.model t.units

unfolding_of : (m : RootedModel) (t : Unfolded) → Instantiates m (Ok t) → IsUnfoldingOf m t
unfolding_of m t (passes a (whole u s l) (passes b (passes c (fits f) (passes d (fits g) (fits h))) (kept k))) =
    record { model = refl; are = u }

-- models that agree, the second of which keeps the rules of the text
pub record AreRootedAlike (m n : RootedModel) : Type 0 where
  pub same : SameRooted m n
  pub kept : KeepsTextRules n

module _ (one : (m n : RootedModel) → SameRooted m n → (a b : Result Unfolded RuleFault) → Instantiates m a
    → Instantiates n b → SameAnswer SameUnfolded a b) where
  pub trees_alike : (m n : RootedModel) → AreRootedAlike m n → (x y : Result Unfolded RuleFault) → Instantiates m x
      → Instantiates n y → AreAlike AreKeptAlike x y
  trees_alike m n s x y h k =
      alike_where (λ t u i j r.
      let o = unfolding_of n u (subst (λ (z : Result Unfolded RuleFault). Instantiates n z) j k) in
      record { same = r; kept = subst KeepsTextRules (sym o.model) s.kept; are = o.are })
      (alike_of SameUnfolded x y (one m n s.same x y h k))

  pub text_one : ((e f : RawExpr) → SameExpr e f → SameForm (out-RawForm e.form) (out-RawForm f.form))
      → ((i j : Instr) → SameInstr i j → SameStep (out-Instr i) (out-Instr j))
      → ((m n : Member) → SameMember m n → SameKind (out-Member m) (out-Member n)) → (m n : RootedModel)
      → SameRooted m n → KeepsTextRules n → (x y : Result Declarations RuleFault) → Then Instantiates Binds m x
      → Then Instantiates Binds n y → SameAnswer SameDeclarations x y
  text_one forms steps kinds m n s keeps x y h k =
      told SameDeclarations x y
      (then_alike AreRootedAlike AreKeptAlike SameDeclarations Instantiates Binds trees_alike
      (binding_alike forms steps kinds) m n (record { same = s; kept = keeps }) x y h k)
