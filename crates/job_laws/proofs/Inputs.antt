-- Scripts, lists of cuts, lists of events, observers and values mean the same of sources that are alike.
use Rattle.std.proofs.Common.{ℕ, List, Option, Result, subst}
use Rattle.ar_base.specs.Lists.{Stands}
use Rattle.ar_meaning.specs.Runs.{Command}
use Rattle.ar_meaning.specs.TraceText.{Naming}
use Rattle.domains.specs.declared.Value.{Value}
use Rattle.typed_expr.specs.declared.expr.ValueKind.{ValueKind}
use Rattle.hierarchy.specs.Units.{Thing}
use Rattle.gts_flatten.specs.Elaborating.{Elaborated}
use Rattle.job_inputs.specs.CutLists.{CutLine, ListsCutLines, passes, cut, IsBadLabel, IsFirstBadLabel, IsBadCut, no_cut, bad_label, IsFirstBadCut, CutList}
use Rattle.job_inputs.specs.CutLists as list
use Rattle.job_inputs.specs.Naming.{NamesEvents, HasUnknown}
use Rattle.job_inputs.specs.Scripts.{Why, GivesCommands, skips, fires, goes_back, shows, lists, IsBad, no_command, needs_way, no_event, IsFirstBad, BadLine, Commands, gives, bad}
use Rattle.job_inputs.specs.Scripts as script
use Rattle.job_inputs.specs.Wanting.{IsObserverOfKind, Wants, IsWanted, NamesNone, WantsNone}
use Rattle.job_laws.proofs.Shared.{Share}
use Rattle.job_laws.proofs.Lists.{along_each}
use Rattle.job_laws.proofs.ReadyLabels.{event_there, observer_there, label_there, needs_there}

-- One way

module _ (x y : Elaborated) (s : Share x y) where
  gives_there : {lines : List (List ℕ)} {cs : List Command} → GivesCommands x lines cs → GivesCommands y lines cs
  gives_there script.none = script.none
  gives_there (skips e h) = skips e (gives_there h)
  gives_there (fires {label = text} {l = l} e i h) = fires e (label_there x y s text l i) (gives_there h)
  gives_there (goes_back e h) = goes_back e (gives_there h)
  gives_there (shows e h) = shows e (gives_there h)
  gives_there (lists e h) = lists e (gives_there h)

  cuts_there : {n : ℕ} {lines : List (List ℕ)} {cuts : List CutLine} → ListsCutLines x n lines cuts
      → ListsCutLines y n lines cuts
  cuts_there list.none = list.none
  cuts_there (passes e h) = passes e (cuts_there h)
  cuts_there (cut e i a h) = cut e i (along_each (label_there x y s) a) (cuts_there h)

  pub events_there : (text : List ℕ) (events : List ℕ) → NamesEvents x text events → NamesEvents y text events
  events_there text events h = along_each (event_there x y s) h

  kind_there : (n : ℕ) (kind : ValueKind) → IsObserverOfKind x n kind → IsObserverOfKind y n kind
  kind_there n kind h =
      let t = s.types h.thing h.type kind (record { written = h.written; is = h.is; kind_is = h.kind_is }) in
      record {
        thing = h.thing;
        number = subst (λ (z : List Thing). Stands z n h.thing) s.observers h.number;
        type = h.type;
        written = t.written;
        is = t.is;
        kind_is = t.kind_is;
      }

  pub wanted_there : (path : List ℕ) (word : Option (List ℕ)) (n : ℕ) (v : Value) → IsWanted x path word n v
      → IsWanted y path word n v
  wanted_there path word n v h = record {
    names = observer_there x y s path n h.names;
    kind = h.kind;
    of_kind = kind_there n h.kind h.of_kind;
    wants = subst (λ (z : Naming). Wants z.symbols word h.kind v) s.naming h.wants;
  }

-- What is denied wants both ways

module _ (x y : Elaborated) (s : Share x y) (back : Share y x) where
  bad_there : {why : Why} {line : List ℕ} → IsBad x why line → IsBad y why line
  bad_there (no_command e) = no_command e
  bad_there (needs_way {label = text} e h) = needs_way e (needs_there x y s text h)
  bad_there (no_event {label = text} e h k) =
      no_event e (λ n. h (needs_there y x back text n)) (λ l i. k l (label_there y x back text l i))

  bad_label_there : {why : Why} {text : List ℕ} → IsBadLabel x why text → IsBadLabel y why text
  bad_label_there (list.needs_way {text = text} h) = list.needs_way (needs_there x y s text h)
  bad_label_there (list.no_event {text = text} h k) =
      list.no_event (λ n. h (needs_there y x back text n)) (λ l i. k l (label_there y x back text l i))

  pub unknown_there : (text : List ℕ) → HasUnknown x text → HasUnknown y text
  unknown_there text h = record {
    part = h.part;
    is_part = h.is_part;
    names_none = λ e k. h.names_none e (event_there y x back h.part e k);
  }

  pub names_none_there : (path : List ℕ) → NamesNone x path → NamesNone y path
  names_none_there path h = λ n k. h n (observer_there y x back path n k)

  pub wants_none_there : (path : List ℕ) (word : Option (List ℕ)) → WantsNone x path word → WantsNone y path word
  wants_none_there path word h = record {
    number = h.number;
    names = observer_there x y s path h.number h.names;
    none = λ v k. h.none v (wanted_there y x back path word h.number v k);
  }

-- The first bad line

module _ (x y : Elaborated) (s : Share x y) (back : Share y x) where
  first_bad_there : {lines : List (List ℕ)} {n : ℕ} {why : Why} → IsFirstBad x lines n why → IsFirstBad y lines n why
  first_bad_there h = record {
    line = h.line;
    stands = h.stands;
    bad = bad_there x y s back h.bad;
    before = λ k other w less i b. h.before k other w less i (bad_there y x back s b);
  }

  pub commands_there : (text : List ℕ) (a : Result (List Command) BadLine) → Commands text x a → Commands text y a
  commands_there text _ (gives h) = gives (gives_there x y s h)
  commands_there text _ (bad h) = bad (first_bad_there h)

  first_label_there : {texts : List (List ℕ)} {why : Why} → IsFirstBadLabel x texts why → IsFirstBadLabel y texts why
  first_label_there h = record {
    place = h.place;
    text = h.text;
    stands = h.stands;
    bad = bad_label_there x y s back h.bad;
    before = λ k other w less i b. h.before k other w less i (bad_label_there y x back s b);
  }

  bad_cut_there : {why : Why} {line : List ℕ} → IsBadCut x why line → IsBadCut y why line
  bad_cut_there (no_cut e h) = no_cut e h
  bad_cut_there (bad_label e i h) = bad_label e i (first_label_there h)

module _ (x y : Elaborated) (s : Share x y) (back : Share y x) where
  first_cut_there : {lines : List (List ℕ)} {n : ℕ} {why : Why} → IsFirstBadCut x lines n why
      → IsFirstBadCut y lines n why
  first_cut_there h = record {
    line = h.line;
    stands = h.stands;
    bad = bad_cut_there x y s back h.bad;
    before = λ k other w less i b. h.before k other w less i (bad_cut_there y x back s b);
  }

  pub cut_list_there : (text : List ℕ) (a : Result (List CutLine) BadLine) → CutList text x a → CutList text y a
  cut_list_there text _ (list.gives h) = list.gives (cuts_there x y s h)
  cut_list_there text _ (list.bad h) = list.bad (first_cut_there h)
