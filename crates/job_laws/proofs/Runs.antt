-- Replays, faults and reasons have the same texts over systems that are images of each other.
use Rattle.std.proofs.Common.{◌≡◌, ℕ, List, Option, Some, None, refl, ap}
use Rattle.ar_base.specs.Texts.{text_at}
use Rattle.domains.specs.declared.Value.{Value}
use Rattle.typed_expr.specs.PairsInside.{turned_pairs}
use Rattle.typed_expr.specs.declared.expr.Expr.{Expr}
use Rattle.typed_expr.proofs.Renaming.{renames_turned}
use Rattle.ar_meaning.specs.Systems.{System}
use Rattle.ar_meaning.specs.FlatOfInside.{NameAlike}
use Rattle.ar_meaning.specs.Image.{Expr_renames}
use Rattle.ar_meaning.specs.ImageInside.{IsImage}
use Rattle.ar_meaning.specs.Runs.{Label, Command}
use Rattle.ar_meaning.specs.TraceText.{Naming, way_text, label_text}
use Rattle.ar_meaning.proofs.ImageRuns.{runs_there}
use Rattle.ar_meaning.proofs.ImageTexts.{moment_there, trace_there}
use Rattle.ar_meaning.proofs.ImageTurned.{image_turned}
use Rattle.ar_meaning.proofs.ImageWays.{ways_count}
use Rattle.flow_reasons.specs.Reasons.{Reason}
use Rattle.flow_reasons.proofs.ImageRounds.{reasons_there, cone_there}
use Rattle.reason_text.specs.Texts.{ReasonLines, none, tells, leaves, IsTold, IsReasonText}
use Rattle.replayer.specs.Replays.{IsReplay}
use Rattle.replayer.specs.Settles.{Settles, IsFaultLine}
use Rattle.replayer.specs.declared.ends.End.{End}

-- names call everything as they do
names_self : (names : Naming) → NameAlike names names
names_self names = record {
  variables = λ n. refl;
  events = λ n. refl;
  observers = λ n. refl;
  symbols = λ n. refl;
  places = λ n. refl;
}

-- observers that are asked for in both, or in neither
abbrev pub SameObserver : {V W : Type 0} → (V → W → Type 0) → Option (Expr V) → Option (Expr W) → Type 0
SameObserver same None None = Unit {0}
SameObserver same None (Some f) = ⊥
SameObserver same (Some e) None = ⊥
SameObserver same (Some e) (Some f) = Expr_renames same e f

module _ {V W : Type 0} (same : V → W → Type 0) (here : System V) (there : System W) (image : IsImage same here there)
    (names : Naming) where
  pub label_same : (l : Label) → label_text names here l ≡ label_text names there l
  label_same l =
      ap (λ (n : ℕ). way_text (text_at names.events l.event) n l.way) (ways_count same image.events l.event)

  pub replay_there : (cs : List Command) (text : List ℕ) (ends : End) → IsReplay names here cs text ends
      → IsReplay names there cs text ends
  replay_there cs text ends h = record {
    moments = h.moments;
    runs = runs_there same here there image h.runs;
    trace = trace_there same here there image names names (names_self names) h.trace;
    ends = h.ends;
  }

  pub settles_there : (cs : List Command) (values : List Value) → Settles here cs values → Settles there cs values
  settles_there cs values h = record {
    first = h.first;
    moments = h.moments;
    runs = runs_there same here there image h.runs;
    no_fault = h.no_fault;
    last = h.last;
  }

  pub fault_there : (cs : List Command) (text : List ℕ) → IsFaultLine names here cs text
      → IsFaultLine names there cs text
  fault_there cs text h = record {
    before = h.before;
    fault = h.fault;
    runs = runs_there same here there image h.runs;
    is_fault = h.is_fault;
    told = moment_there same here there image names names (names_self names) h.told;
  }

  told_there : (reasons : List Reason) (observer : Option (Expr V)) (other : Option (Expr W))
      → SameObserver same observer other → (n : ℕ) → IsTold here.net reasons observer n
      → IsTold there.net reasons other n
  told_there reasons None None s n h = tt
  told_there reasons None (Some f) s n h = absurd s
  told_there reasons (Some e) None s n h = absurd s
  told_there reasons (Some e) (Some f) s n h = cone_there same here.net there.net image.net reasons e f s h

-- lines by another test
lines_as : (names : Naming) (P Q : ℕ → Type 0) → ((n : ℕ) → P n → Q n) → ((n : ℕ) → Q n → P n) → {rs : List Reason}
    {text : List ℕ} → ReasonLines names P rs text → ReasonLines names Q rs text
lines_as names P Q on off none = none
lines_as names P Q on off (tells {r = r} h more) = tells (on r.flow h) (lines_as names P Q on off more)
lines_as names P Q on off (leaves {r = r} h more) = leaves (λ q. h (off r.flow q)) (lines_as names P Q on off more)

observer_turned : {V W : Type 0} (same : V → W → Type 0) (observer : Option (Expr V)) (other : Option (Expr W))
    → SameObserver same observer other → SameObserver (turned_pairs same) other observer
observer_turned same None None s = tt
observer_turned same None (Some f) s = absurd s
observer_turned same (Some e) None s = absurd s
observer_turned same (Some e) (Some f) s = record { renames = renames_turned same s.renames }

module _ {V W : Type 0} (same : V → W → Type 0) (here : System V) (there : System W) (image : IsImage same here there)
    (names : Naming) where
  pub reasons_text_there : (values : List Value) (observer : Option (Expr V)) (other : Option (Expr W))
      → SameObserver same observer other → (text : List ℕ) → IsReasonText names here.net values observer text
      → IsReasonText names there.net values other text
  reasons_text_there values observer other s text h = record {
    reasons = h.reasons;
    are_reasons = reasons_there same here.net there.net image.net values image.net.variables h.are_reasons;
    lines = lines_as names (IsTold here.net h.reasons observer) (IsTold there.net h.reasons other)
        (told_there same here there image names h.reasons observer other s)
        (told_there (turned_pairs same) there here (image_turned same image) names h.reasons other observer
        (observer_turned same observer other s))
        h.lines;
  }
