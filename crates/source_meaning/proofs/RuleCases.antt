-- Cases of the rules.
use Rattle.std.proofs.Common.{◌≡◌, ℕ, List, [], ◌∷◌, Option, Some, None, Ok, Err, inr, refl, sym, ◌∙◌, subst}
use Rattle.ar_base.specs.Lists.{IsOneOf}
use Rattle.ar_base.specs.Stages.{refuses, passes, kept, broken}
use Rattle.ar_base.specs.declared.faults.RuleFault.{RuleFault}
use Rattle.ar_base.specs.declared.faults.RuleFault.TheVariants.{Rule}
use Rattle.ar_base.specs.declared.places.Place.{Place}
use Rattle.ar_syntax.specs.declared.expressions.RawExpr.{RawExpr}
use Rattle.ar_syntax.specs.declared.instructions.Instr.{Instr, out-Instr}
use Rattle.ar_syntax.specs.declared.instructions.Instr.TheOpen as instr
use Rattle.ar_syntax.specs.declared.members.Member.TheOpen as member
use Rattle.ar_syntax.specs.declared.paths.Path.{Path}
use Rattle.ar_syntax.specs.declared.paths.PathStart.TheVariants.{Here}
use Rattle.class_table.proofs.OneRefusal.{breach_one}
use Rattle.class_table.specs.Members.{MemberKind}
use Rattle.hierarchy.specs.Models.{RootedModel}
use Rattle.hierarchy.specs.Units.{UnitPath, kind_at, numbers}
use Rattle.hierarchy.specs.Listing.{Unfolded, forms_at}
use Rattle.source_meaning.specs.Means.{IsSymbol}
use Rattle.source_meaning.specs.Acts.{Conditions, Placed, Sets, tie}
use Rattle.source_meaning.specs.ActsInside.{AreTied}
use Rattle.written_forms.specs.Parts.{InstrForm, IsPartOf, itself}
use Rattle.written_forms.specs.Breaches.{target, ties}
use Rattle.source_meaning.specs.Tested.{InAction}
use Rattle.source_meaning.specs.Rules.{in_instruction, in_action, BreaksNameRule, l10, l13, name_rules}
use Rattle.source_meaning.specs.Systems.{Declarations, Declares, Binds, name_breaks}
use Rattle.source_meaning.proofs.OneMeaning.{single_found}

none_some : {o : Option MemberKind} {k : MemberKind} → o ≡ None → o ≡ Some k → ⊥
none_some p q = cc

-- a target that the unit gives nothing
pub unknown_target : (m : RootedModel) (units : List UnitPath) (u : UnitPath) (whole : Instr) (p : Path) (e : RawExpr)
    (x : ℕ) → IsOneOf units u → IsOneOf (forms_at m u) (member.Assert whole)
    → out-Instr whole ≡ instr.Assign p e → p.start ≡ Here → numbers p.names.items ≡ x ∷ [] → kind_at m u x ≡ None
    → BreaksNameRule m units 10 p.at
unknown_target m units u whole p e x i j q here single none =
    l10 (in_instruction (instr.Assign p e) i
    (inr (record {
      whole = whole;
      is_member = j;
      is_part = subst (λ (f : InstrForm). IsPartOf (instr.Assign p e) f) (sym q) itself;
    }))
    (target (λ n. none_some none (single_found p n.finds here single))))

-- a `:=:` in an action
pub acted_tie : (m : RootedModel) (units : List UnitPath) (u : UnitPath) (p q : Path) → IsOneOf units u
    → InAction m u (instr.Tie p q) → BreaksNameRule m units 13 p.at
acted_tie m units u p q i a = l13 (in_action (instr.Tie p q) i a ties)

-- a name of a member and of a symbol
pub hidden_symbol : (m : RootedModel) (u : UnitPath) (p : Path) (x k : ℕ) (kind : MemberKind)
    → numbers p.names.items ≡ x ∷ [] → kind_at m u x ≡ Some kind → IsSymbol m u p k → ⊥
hidden_symbol m u p x k kind single given s =
    let names : s.name ∷ [] ≡ x ∷ [] = sym s.single ∙ single in
    let same : s.name ≡ x = cc names in
    none_some (subst (λ (z : ℕ). kind_at m u z ≡ None) same s.not_given) given

-- a `:=:` is two assignments
pub two_ways : (m : RootedModel) (u : UnitPath) (when : Conditions) (p q : Path) (ps : List Placed)
    → Sets m u when (instr.Tie p q) ps → AreTied m u when p q ps
two_ways m u when p q ps (tie {s = s} {t = t} {d = d} {e = e} f g i j) =
    record {
      left = s;
      right = t;
      of_left = d;
      of_right = e;
      is_left = f;
      is_right = g;
      names_left = i;
      names_right = j;
      are = refl;
    }

-- one refusal
declared_never : {t : Unfolded} {f : RuleFault} → Declares t (Err f) → ⊥
declared_never h = elim h [ ]

pub refusal_one : (t : Unfolded) (r s : ℕ) (p q : Place) → Binds t (Err (Rule r p)) → Binds t (Err (Rule s q))
    → (r ≡ s) × (p ≡ q)
refusal_one t r s p q (refuses (broken b)) (refuses (broken c)) = breach_one name_rules (name_breaks t) r s p q b c
refusal_one t r s p q (refuses h) (passes b k d) = absurd (declared_never d)
refusal_one t r s p q (passes b k d) h = absurd (declared_never d)

pub never_both : (t : Unfolded) (d : Declarations) (f : RuleFault) → Binds t (Ok d) → Binds t (Err f) → ⊥
never_both t d f (passes b (kept k) h) (refuses (broken {r = r} {p = p} c)) = k.kept r p c.is_one c.breaks_there
never_both t d f h (passes b k e) = declared_never e
