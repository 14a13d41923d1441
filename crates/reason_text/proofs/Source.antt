-- The text of a flat system is that of its source, and there is one.
use Rattle.std.proofs.Common.{◌≡◌, ℕ, List, ◌++◌, Option, Some, None, refl, sym, ap, subst}
use Rattle.domains.specs.declared.Value.{Value}
use Rattle.typed_expr.specs.PairsInside.{turned_pairs}
use Rattle.typed_expr.specs.declared.expr.Expr.{Expr}
use Rattle.typed_expr.proofs.Renaming.{renames_turned}
use Rattle.ar_meaning.specs.Systems.{Net, System}
use Rattle.ar_meaning.specs.FlatOf.{IsNumber, IsFlatOf}
use Rattle.ar_meaning.specs.TraceText.{Naming}
use Rattle.ar_meaning.proofs.FlatSystems.{flat_image, flat_back}
use Rattle.flow_reasons.specs.Reasons.{Reason, AreReasons}
use Rattle.flow_reasons.proofs.ImageRounds.{reasons_there, cone_there}
use Rattle.flow_reasons.proofs.RoundStanding.{no_two, reasons_one}
use Rattle.ar_firing.specs.Operands.{HasFlows}
use Rattle.gts_core.specs.View.{net_of}
use Rattle.gts_core.specs.declared.system.GtsParts.{GtsParts}
use Rattle.gts_flatten.specs.Elaborating.{Elaborated}
use Rattle.gts_flatten.specs.Flat.{IsFlat, naming_of, naming_of_parts}
use Rattle.hierarchy.specs.Units.{Thing}
use Rattle.hierarchy.specs.Listing.{variables}
use Rattle.reason_text.specs.Answers.{AreSameObserver}
use Rattle.reason_text.specs.Texts.{reason_line, ReasonLines, none, tells, leaves, IsTold, IsReasonText}

-- lines by another test
lines_as : (names : Naming) (P Q : ℕ → Type 0) → ((n : ℕ) → P n → Q n) → ((n : ℕ) → Q n → P n)
    → {rs : List Reason} {text : List ℕ} → ReasonLines names P rs text
    → ReasonLines names Q rs text
lines_as names P Q on off none = none
lines_as names P Q on off (tells {r = r} h d) = tells (on r.flow h) (lines_as names P Q on off d)
lines_as names P Q on off (leaves {r = r} h d) = leaves (λ q. h (off r.flow q)) (lines_as names P Q on off d)

lines_one : (names : Naming) (P : ℕ → Type 0) {rs : List Reason} {s t : List ℕ} → ReasonLines names P rs s
    → ReasonLines names P rs t → s ≡ t
lines_one names P none none = refl
lines_one names P (tells {r = r} h d) (tells k e) =
    ap (λ (z : List ℕ). reason_line names r ++ z) (lines_one names P d e)
lines_one names P (tells h d) (leaves k e) = absurd (k h)
lines_one names P (leaves h d) (tells k e) = absurd (h k)
lines_one names P (leaves h d) (leaves k e) = lines_one names P d e

pub text_one : {V : Type 0} (names : Naming) (net : Net V) (values : List Value) → HasFlows net values
    → (observer : Option (Expr V)) (s t : List ℕ)
    → IsReasonText names net values observer s → IsReasonText names net values observer t → s ≡ t
text_one names net values f observer s t a b =
    let e = reasons_one net values (no_two f.flows) a.are_reasons b.are_reasons in
    lines_one names (IsTold net b.reasons observer)
    (subst (λ (z : List Reason). ReasonLines names (IsTold net z observer) z s) e a.lines) b.lines

module _ {V : Type 0} (things : List V) (sys : System V) (flat : System ℕ) (of : IsFlatOf things sys flat) (reasons : List Reason) where
  told_there : (observer : Option (Expr V)) (other : Option (Expr ℕ)) → AreSameObserver things observer other → (n : ℕ)
      → IsTold sys.net reasons observer n
      → IsTold flat.net reasons other n
  told_there None None a n h = tt
  told_there None (Some f) a n h = absurd a
  told_there (Some e) None a n h = absurd a
  told_there (Some e) (Some f) a n h =
      cone_there (IsNumber things) sys.net flat.net (flat_image things sys flat of).net reasons e f a h

  told_back : (observer : Option (Expr V)) (other : Option (Expr ℕ)) → AreSameObserver things observer other → (n : ℕ)
      → IsTold flat.net reasons other n
      → IsTold sys.net reasons observer n
  told_back None None a n h = tt
  told_back None (Some f) a n h = absurd a
  told_back (Some e) None a n h = absurd a
  told_back (Some e) (Some f) a n h =
      cone_there (turned_pairs (IsNumber things)) flat.net sys.net (flat_back things sys flat of).net reasons f e
      (record { renames = renames_turned (IsNumber things) a.renames }) h

pub text_of_source : (x : Elaborated) (p : GtsParts) → IsFlat x p
    → (values : List Value) (observer : Option (Expr Thing)) (other : Option (Expr ℕ))
    → AreSameObserver (variables x.declarations.model x.declarations.units) observer other
    → (text : List ℕ) → IsReasonText (naming_of_parts p) (net_of p) values other text
    → IsReasonText (naming_of x.declarations) x.system.net values observer text
text_of_source x p f values observer other a text h =
    let things : List Thing = variables x.declarations.model x.declarations.units in
    let back = (flat_back things x.system f.flat f.is_flat).net in
    let r = subst (λ (z : Net ℕ). AreReasons z values h.reasons) (sym f.views.net) h.are_reasons in
    let l = subst (λ (z : Net ℕ). ReasonLines (naming_of_parts p) (IsTold z h.reasons other) h.reasons text)
    (sym f.views.net) h.lines in
    record {
      reasons = h.reasons;
      are_reasons = reasons_there (turned_pairs (IsNumber things)) f.flat.net x.system.net back values back.variables r;
      lines = subst (λ (z : Naming). ReasonLines z (IsTold x.system.net h.reasons observer) h.reasons text) f.names
          (lines_as (naming_of_parts p) (IsTold f.flat.net h.reasons other) (IsTold x.system.net h.reasons observer)
          (told_back things x.system f.flat f.is_flat h.reasons observer other a)
          (told_there things x.system f.flat f.is_flat h.reasons observer other a) l);
    }
