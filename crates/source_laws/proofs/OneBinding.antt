-- The binding of models that agree has one answer.
use Rattle.std.specs.Prelude.{◌≡◌, ◌↔◌, ℕ, List, Result}
use Rattle.std.proofs.Common.{refl, sym, subst}
use Rattle.ar_base.specs.Stages.{Keeps}
use Rattle.ar_base.specs.declared.faults.RuleFault.{RuleFault}
use Rattle.ar_base.specs.declared.places.Place.{Place}
use Rattle.ar_syntax.specs.declared.expressions.RawExpr.{RawExpr}
use Rattle.ar_syntax.specs.declared.expressions.RawForm.{out-RawForm}
use Rattle.ar_syntax.specs.declared.instructions.Instr.{Instr, out-Instr}
use Rattle.ar_syntax.specs.declared.members.Member.{Member, out-Member}
use Rattle.parser_laws.specs.Expressions.{SameExpr, SameInstr}
use Rattle.parser_laws.specs.Members.{SameMember}
use Rattle.parser_laws.specs.Opened.{SameForm, SameStep, SameKind}
use Rattle.hierarchy.specs.Listing.{Unfolded, AreUnits}
use Rattle.hierarchy.specs.Models.{RootedModel}
use Rattle.hierarchy.specs.ModelsInside.{KeepsTextRules}
use Rattle.hierarchy.specs.Units.{UnitPath}
use Rattle.source_meaning.specs.Rules.{BreaksNameRule, name_rules}
use Rattle.source_meaning.specs.Systems.{Declarations, AreOf, name_breaks, Declares, declares, Binds}
use Rattle.source_laws.specs.Answers.{SameAnswer}
use Rattle.source_laws.specs.Tables.{SameRooted}
use Rattle.source_laws.specs.Units.{SameUnfolded}
use Rattle.source_laws.proofs.Alike.{AreAlike, give, then_alike, told, keeps_alike}
use Rattle.source_laws.proofs.Turned.{rooted_turned}
use Rattle.source_laws.specs.Declarations.{SameDeclarations}
use Rattle.source_laws.proofs.Carried.{declarations_there}
use Rattle.source_laws.proofs.Itself.{rooted_itself}
use Rattle.source_laws.proofs.OneDeclarations.{declarations_same}
use Rattle.source_laws.proofs.BindingsRuled.{name_rules_there}

-- unfoldings that are alike, the second of which is of a model that keeps the rules of the text, with its own units
pub record AreKeptAlike (t u : Unfolded) : Type 0 where
  pub same : SameUnfolded t u
  pub kept : KeepsTextRules u.model
  pub are : AreUnits u.model u.units

-- declarations of models that agree are of models that agree
pub models_given : (m n : RootedModel) (d e : Declarations) → SameRooted m n → d.model ≡ m → e.model ≡ n
    → SameRooted d.model e.model
models_given m n d e agree i j =
    subst (λ (z : RootedModel). SameRooted z e.model) (sym i)
    (subst (λ (z : RootedModel). SameRooted m z) (sym j) agree)

module _ (forms : (e f : RawExpr) → SameExpr e f → SameForm (out-RawForm e.form) (out-RawForm f.form))
    (steps : (i j : Instr) → SameInstr i j → SameStep (out-Instr i) (out-Instr j))
    (kinds : (m n : Member) → SameMember m n → SameKind (out-Member m) (out-Member n)) where
  rules_same : (t u : Unfolded) → AreKeptAlike t u → (r : ℕ) (p : Place) → (name_breaks t r p ↔ name_breaks u r p)
  rules_same t u s r p =
      let back = rooted_turned s.same.model in (
        λ b. subst (λ (us : List UnitPath). BreaksNameRule u.model us r p) s.same.units
            (name_rules_there forms steps kinds t.model u.model s.same.model back t.units r p b),
        λ b. name_rules_there forms steps kinds u.model t.model back s.same.model t.units r p
            (subst (λ (us : List UnitPath). BreaksNameRule u.model us r p) (sym s.same.units) b),
      )

  declares_alike : (t u : Unfolded) → AreKeptAlike t u → (x y : Result Declarations RuleFault) → Declares t x
      → Declares u y → AreAlike SameDeclarations x y
  declares_alike t u s _ _ (declares {d = d} p) (declares {d = e} q) =
      let there = subst (λ (us : List UnitPath). AreOf u.model us (record d { model = u.model })) s.same.units
      (declarations_there forms steps kinds t.model u.model s.same.model t.units d p) in
      let r = declarations_same u.model u.units s.kept s.are (record d { model = u.model }) e
      (models_given u.model u.model (record d { model = u.model }) e (rooted_itself u.model) refl q.model) there q in
      give (record {
        model = models_given t.model u.model d e s.same.model p.model q.model;
        units = r.units;
        net = r.net;
        events = r.events;
        observers = r.observers;
        places = r.places;
      })

  -- the stage has one answer
  pub binding_alike : (t u : Unfolded) → AreKeptAlike t u → (x y : Result Declarations RuleFault) → Binds t x
      → Binds u y → AreAlike SameDeclarations x y
  binding_alike =
      then_alike AreKeptAlike AreKeptAlike SameDeclarations (Keeps name_rules name_breaks) Declares
      (keeps_alike AreKeptAlike name_rules name_breaks rules_same) declares_alike

  pub binding_one : (t u : Unfolded) → SameUnfolded t u → KeepsTextRules u.model → AreUnits u.model u.units
      → (x y : Result Declarations RuleFault) → Binds t x → Binds u y → SameAnswer SameDeclarations x y
  binding_one t u s kept are x y h k =
      told SameDeclarations x y (binding_alike t u (record { same = s; kept = kept; are = are }) x y h k)
