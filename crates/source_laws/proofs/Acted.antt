-- In models that agree instructions that agree have the same assignments at the same places.
use Rattle.std.specs.Prelude.{List, [], ◌∷◌, Option, Box}
use Rattle.std.specs.Global.{Global}
use Rattle.std.proofs.Common.{sym, subst}
use Rattle.ar_base.specs.Lists.{Along}
use Rattle.ar_base.specs.Lists as along
use Rattle.ar_base.specs.declared.places.Place.{Place}
use Rattle.ar_syntax.specs.declared.expressions.RawExpr.{RawExpr}
use Rattle.ar_syntax.specs.declared.expressions.RawForm.{out-RawForm}
use Rattle.ar_syntax.specs.declared.instructions.Instr.{Instr, out-Instr}
use Rattle.ar_syntax.specs.declared.instructions.Instr.TheOpen as instr
use Rattle.ar_syntax.specs.declared.members.Member.{Member, out-Member}
use Rattle.parser_laws.specs.Expressions.{SameExpr, SameInstr}
use Rattle.parser_laws.specs.Members.{SameMember}
use Rattle.parser_laws.specs.Opened.{SameForm, SameStep, SameKind}
use Rattle.hierarchy.specs.Listing.{In}
use Rattle.hierarchy.specs.Models.{RootedModel}
use Rattle.hierarchy.specs.Units.{UnitPath}
use Rattle.source_laws.specs.Tables.{SameRooted}
use Rattle.source_laws.specs.Units.{SameIn}
use Rattle.written_forms.specs.Parts.{InstrForm}
use Rattle.source_meaning.specs.Acts.{Conditions, Placed, sets, Sets, skip, assign, tie, conditional, all, Sets_else, no_branch, branch, Sets_all}
use Rattle.source_meaning.specs.Acts as a
use Rattle.source_meaning.specs.Systems.{AreAsserted}
use Rattle.source_meaning.specs.Systems as asserted
use Rattle.source_laws.proofs.Levels.{SameElse, SameActs, level_there, acts_there}
use Rattle.source_laws.proofs.Levels as same
use Rattle.source_laws.proofs.BindingsMeant.{variable_found, means_there}

module _ (forms : (e f : RawExpr) → SameExpr e f → SameForm (out-RawForm e.form) (out-RawForm f.form))
    (steps : (i j : Instr) → SameInstr i j → SameStep (out-Instr i) (out-Instr j))
    (kinds : (m n : Member) → SameMember m n → SameKind (out-Member m) (out-Member n)) (m n : RootedModel)
    (agree : SameRooted m n) where
  mutual
    pub sets_there : {u : UnitPath} {when : Conditions} {f g : InstrForm} {xs : List Placed} → SameActs f g
        → Sets m u when f xs → Sets n u when g xs
    sets_there same.skip skip = skip
    sets_there {u = u} (same.assign {q = q} {e = e} {f = f} s r) (assign {when = when} {t = t} {e = v} h d) =
        subst (λ (at : Place). Sets n u when (instr.Assign q f) (sets t when v at ∷ [])) (sym s.place)
        (assign (variable_found forms kinds m n agree s h)
        (means_there forms kinds m n agree (level_there forms e f r) d))
    sets_there {u = u} (same.tie {p = p} {r = r} {s = q} s o)
        (tie {when = when} {s = t} {t = v} {d = d} {e = e} h k i j) =
        subst (λ (at : Place). Sets n u when (instr.Tie r q) (sets t when e p.at ∷ sets v when d at ∷ [])) (sym o.place)
        (subst (λ (at : Place). Sets n u when (instr.Tie r q) (sets t when e at ∷ sets v when d q.at ∷ []))
        (sym s.place)
        (tie (variable_found forms kinds m n agree s h) (variable_found forms kinds m n agree o k) i j))
    sets_there (same.conditional {e = e} {f = f} {a = b} {b = c} s r o) (conditional v d x y) =
        conditional v (means_there forms kinds m n agree (level_there forms e f s) d)
        (sets_there (acts_there steps b.value c.value r) x) (else_there o y)
    sets_there (same.group s) (all d) = all (sets_all_there s d)

    else_there : {u : UnitPath} {when : Conditions} {o p : Option (Box Instr Global)} {xs : List Placed} → SameElse o p
        → Sets_else m u when o xs → Sets_else n u when p xs
    else_there same.no_branch no_branch = no_branch
    else_there (same.branch {a = b} {b = c} s) (branch d) = branch (sets_there (acts_there steps b.value c.value s) d)

    sets_all_there : {u : UnitPath} {when : Conditions} {is js : List Instr} {xs : List Placed} → Along SameInstr is js
        → Sets_all m u when is xs → Sets_all n u when js xs
    sets_all_there along.none a.none = a.none
    sets_all_there (along.one_and {a = i} {b = j} s more) (a.one_and d ds) =
        a.one_and (sets_there (acts_there steps i j s) d) (sets_all_there more ds)

  -- assertions that agree assign the same
  pub asserted_there : {is js : List (In Instr)} {xs : List Placed} → Along (SameIn SameInstr) is js
      → AreAsserted m is xs → AreAsserted n js xs
  asserted_there along.none asserted.none = asserted.none
  asserted_there (along.one_and {a = i} {b = j} s more) (asserted.one_and {xs = xs} d ds) =
      asserted.one_and
      (subst (λ (u : UnitPath). Sets n u [] (out-Instr j.item) xs) s.0
      (sets_there (acts_there steps i.item j.item s.1) d)) (asserted_there more ds)
