-- The lines that are told, as they are written and as they are meant.
use Rattle.std.proofs.Common.{◌≡◌, ◌<◌, ℕ, Bool, true, false, List, [], ◌∷◌, ◌++◌, length, Option, Some, None, Result, Err, if◌then◌else◌, refl, sym, ap, ◌∙◌, subst, arith}
use Rattle.ar_base.specs.Lists.{IsOneOf}
use Rattle.ar_base.specs.NumbersInside.{AssignId}
use Rattle.ar_base.proofs.Standing.{stands_within, stands_map, stands_map_back, one_here, one_first, one_rest}
use Rattle.ar_io.specs.Writing.{SinkState}
use Rattle.ar_io.specs.Handing.{Writes}
use Rattle.ar_io.specs.declared.outside.SinkFailed.{SinkFailed}
use Rattle.domains.specs.declared.Value.{Value}
use Rattle.ar_meaning.specs.Systems as s
use Rattle.ar_meaning.specs.Found.{IsAnswer}
use Rattle.ar_meaning.specs.TraceText.{Naming}
use Rattle.flow_reasons.specs.Reasons.{IsReason, derived, reset, AreReasons}
use Rattle.flow_reasons.specs.Reasons as rounds
use Rattle.flow_reasons.proofs.RoundStanding.{reason_at}
use Rattle.gts_core.specs.View.{net_of, assign_of}
use Rattle.gts_core.specs.declared.system.GtsParts.{GtsParts}
use Rattle.gts_core.proofs.Viewing.{variables_long}
use Rattle.gts_flatten.specs.Flat.{naming_of_parts}
use Rattle.replayer.specs.declared.ends.ReplayFault.{ReplayFault}
use Rattle.replayer.specs.declared.ends.ReplayFault.TheVariants.{Write, Memory}
use Rattle.flow_reasons.specs.Answers.{reason_of, reasons_of}
use Rattle.flow_reasons.specs.declared.reason.Reason.{Reason}
use Rattle.reason_text.specs.Answers.{Explains, told_at, told_line, told_lines, AreToldVariables, HaveAssigns}
use Rattle.reason_text.specs.Texts.{reason_line, ReasonLines, none, tells, leaves, IsTold}

-- a test that decides the flow
lines_told : (names : Naming) (told : List Bool) (P : ℕ → Type 0) (rs : List rounds.Reason)
    → ((r : rounds.Reason) → IsOneOf rs r → IsAnswer (told_at told r.flow) (P r.flow))
    → ReasonLines names P rs (told_lines names told rs)
lines_told names told P [] each = none
lines_told names told P (r ∷ rs) each =
    go (told_at told r.flow) refl (each r (one_first r rs))
    (lines_told names told P rs (λ q o. each q (one_rest r rs q o)))
  where
    go : (b : Bool) → told_at told r.flow ≡ b → IsAnswer (told_at told r.flow) (P r.flow)
        → ReasonLines names P rs (told_lines names told rs)
        → ReasonLines names P (r ∷ rs) (told_line names told r ++ told_lines names told rs)
    go true e h more =
        subst (λ (z : Bool). ReasonLines names P (r ∷ rs)
        ((if z then reason_line names r else []) ++ told_lines names told rs)) (sym e)
        (tells (subst (λ (z : Bool). IsAnswer z (P r.flow)) e h) more)
    go false e h more =
        subst (λ (z : Bool). ReasonLines names P (r ∷ rs)
        ((if z then reason_line names r else []) ++ told_lines names told rs)) (sym e)
        (leaves (subst (λ (z : Bool). IsAnswer z (P r.flow)) e h) more)

module _ (p : GtsParts) (values : List Value) (found : List Reason)
    (are : AreReasons (net_of p) values (reasons_of found)) where
  flow_below : (r : rounds.Reason) → IsOneOf (reasons_of found) r → r.flow < length p.variables.items
  flow_below r o =
      let h = reason_at (net_of p) values are r o in
      let l = stands_within (net_of p).variables h.place h.variable h.stands in
      let k = variables_long 0 p.variables.items in
      omega (arith, h.number, l, k)

  -- the lines that are written are those of the flows that are told
  pub lines_are : (names : Naming) (observer : _) (told : List Bool) → AreToldVariables p (reasons_of found) observer told
      → ReasonLines names (IsTold (net_of p) (reasons_of found) observer) (reasons_of found)
      (told_lines names told (reasons_of found))
  lines_are names observer told h =
      lines_told names told (IsTold (net_of p) (reasons_of found) observer) (reasons_of found)
      (λ r o. h.each r.flow (flow_below r o))

  by_below : {x : s.Variable ℕ} (r : rounds.Reason) (n : ℕ) → IsReason (net_of p) values x r → r.by ≡ Some n
      → n < length p.assigns.items
  by_below r n (derived d) e =
      let i : d.assertion ≡ n = cc (d.by, e) in
      let b = stands_map_back assign_of p.assigns.items d.assertion d.first.item d.first.stands in
      let l = stands_within p.assigns.items d.assertion b.0 b.1 in omega (arith, l, i)
  by_below r n (reset d) e = let i = d.by in cc (i, e)

  pub have_assigns : HaveAssigns p found
  have_assigns = record {
    each = λ r o a e.
        let q = one_here (reasons_of found) o.place (reason_of r) (stands_map reason_of found o.place r o.stands) in
        let h = reason_at (net_of p) values are (reason_of r) q in
        by_below (reason_of r) a.n h.is (ap (λ (z : Option AssignId). by_number z) e);
  }
    where
      by_number : Option AssignId → Option ℕ
      by_number None = None
      by_number (Some a) = Some a.n

-- what is answered at an exit
pub failed : {a b : SinkState} {text : List ℕ} {e : SinkFailed} (P : List ℕ → Type 0)
    (r : Result (Unit {0}) ReplayFault) → r ≡ Err Write → P text
    → Writes a b text (Err e) → Explains a b P r
failed {a = a} {b = b} {text = text} P r i t h =
    subst (λ (z : Result (Unit {0}) ReplayFault). Explains a b P z) (sym i) (text, t, h)

pub refused : (a : SinkState) (P : List ℕ → Type 0) (r : Result (Unit {0}) ReplayFault) → r ≡ Err Memory
    → Explains a a P r
refused a P r i = subst (λ (z : Result (Unit {0}) ReplayFault). Explains a a P z) (sym i) refl

-- the lines over the lists that were passed
pub line_as : (p q : GtsParts) (told passed : List Bool) (found given : List Reason) → q ≡ p → passed ≡ told
    → given ≡ found
    → told_lines (naming_of_parts q) passed (reasons_of given) ≡ told_lines (naming_of_parts p) told (reasons_of found)
line_as p q told passed found given e f g =
    ap (λ (z : GtsParts). told_lines (naming_of_parts z) passed (reasons_of given)) e
    ∙ (ap (λ (z : List Bool). told_lines (naming_of_parts p) z (reasons_of given)) f
    ∙ ap (λ (z : List Reason). told_lines (naming_of_parts p) told (reasons_of z)) g)
