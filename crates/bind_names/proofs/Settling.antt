-- What is known of a settled tree, for the leaves and the instructions of a unit.
use Rattle.std.proofs.Common.{◌≡◌, ℕ, true, false, List, inl, inr, sym, subst}
use Rattle.ar_base.specs.Lists.{Stands, IsOneOf, Along}
use Rattle.ar_base.specs.Numbers.{NameId}
use Rattle.ar_base.specs.declared.places.Place.{Place}
use Rattle.ar_base.proofs.Standing.{one_here}
use Rattle.ar_syntax.specs.declared.expressions.RawExpr.{RawExpr}
use Rattle.ar_syntax.specs.declared.instructions.Instr.{Instr, out-Instr}
use Rattle.ar_syntax.specs.declared.members.Member.TheOpen.{Local, Assert}
use Rattle.domains.specs.declared.Value.{Value}
use Rattle.hierarchy.specs.Models.{RootedModel}
use Rattle.hierarchy.specs.Units.{UnitPath}
use Rattle.hierarchy.specs.Listing.{parameters, forms_at}
use Rattle.hierarchy.specs.declared.tree.ParNode.{ParNode}
use Rattle.source_meaning.specs.Rules as rule
use Rattle.source_meaning.specs.Tested.{InAction, InAssertion}
use Rattle.written_forms.specs.Parts.{InstrForm, IsPartOf}
use Rattle.bind_scopes.specs.declared.scopes.Scopes.{Scopes}
use Rattle.bind_names.specs.Values.{IsParameterValue, HoldsIn}
use Rattle.bind_names.specs.declared.leaves.UnitLeaves.{UnitLeaves}
use Rattle.bind_names.specs.declared.all_values.Values.{Values}
use Rattle.bind_names.specs.Keeping.{KeepsInside}
use Rattle.bind_names.specs.Settled.{AreSettled}
use Rattle.bind_names.proofs.FormLeafing.{AreLeavesOf}

pub settled_leaves : {m : RootedModel} {units : List UnitPath} {u : UnitPath} (leaves : UnitLeaves) (known : Values)
    → AreSettled m units leaves.scopes.now known → Stands units leaves.unit.n u
    → leaves.parameters.now ≡ known.parameters.items → AreLeavesOf m units u leaves
settled_leaves {m = m} {units = units} leaves known s at q = record {
  are = s.are;
  at = at;
  along = subst (λ (z : List Value). Along (IsParameterValue m) (parameters m units) z) (sym q) s.values.parameters_are;
  held = subst (λ (z : List Value). Along (λ (d : ParNode) (v : Value). HoldsIn d.domain v)
      leaves.scopes.now.tree.now.parameters.items z) (sym q) s.values.parameters_held;
}

module _ {m : RootedModel} {units : List UnitPath} {scopes : Scopes} {known : Values}
    (s : AreSettled m units scopes known) (n : ℕ) (u : UnitPath) (at : Stands units n u) (written : Instr) where
  pub settled_action : (x : NameId) (place : Place) (guard : RawExpr)
      → IsOneOf (forms_at m u) (Local x place guard written) → KeepsInside m u true (out-Instr written)
  settled_action x place guard f = record {
    keeps = λ i p. record {
      naming = λ q w. s.names.naming q (rule.in_instruction i (one_here units n u at) (inl (here i p)) w);
      kinds = λ q w. s.names.kinds q (rule.in_instruction i (one_here units n u at) (inl (here i p)) w);
      targets = λ q w. s.targets q (rule.in_action i (one_here units n u at) (here i p) w);
    };
  }
    where
      here : (i : InstrForm) → IsPartOf i (out-Instr written) → InAction m u i
      here i p = record { event = x; at = place; guard = guard; action = written; is_member = f; is_part = p }

  pub settled_assertion : IsOneOf (forms_at m u) (Assert written) → KeepsInside m u false (out-Instr written)
  settled_assertion f = record {
    keeps = λ i p. record {
      naming = λ q w. s.names.naming q (rule.in_instruction i (one_here units n u at) (inr (here i p)) w);
      kinds = λ q w. s.names.kinds q (rule.in_instruction i (one_here units n u at) (inr (here i p)) w);
      targets = λ q w. s.targets q (rule.in_assertion i (one_here units n u at) (here i p) w);
    };
  }
    where
      here : (i : InstrForm) → IsPartOf i (out-Instr written) → InAssertion m u i
      here i p = record { whole = written; is_member = f; is_part = p }
