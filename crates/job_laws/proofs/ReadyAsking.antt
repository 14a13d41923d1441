-- Words, scripts and lists of cuts ask one thing of sources that are alike, or are refused in one way.
use Rattle.std.proofs.Common.{ℕ, List, Option, Some, Result, Ok, Err, refl}
use Rattle.ar_base.specs.Stages.{Then, Where}
use Rattle.gts_flatten.specs.Elaborating.{Elaborated}
use Rattle.run_words.specs.Commands.{shape_of, is_script, is_list}
use Rattle.run_words.specs.declared.jobs.Asked.{Asked}
use Rattle.run_words.specs.declared.shapes.Shape.{Shape}
use Rattle.job_stages.specs.Stages.{Ready, bare, Scripted, ListsCuts, Drops, Wanting, has_table, observer_asked, Showing, AsksByWords, Asks}
use Rattle.job_stages.specs.Stages as s
use Rattle.job_stages.specs.declared.refusals.Refusal.{Refusal}
use Rattle.source_laws.specs.Sources.{SameSource}
use Rattle.job_laws.specs.Ready.{SameReady}
use Rattle.job_laws.proofs.Carrying.{Gives, Carries, then_carries, where_carries}
use Rattle.job_laws.proofs.Inputs.{commands_there, cut_list_there, events_there, unknown_there, wanted_there, names_none_there, wants_none_there}
use Rattle.job_laws.proofs.ReadyLabels.{observer_there}
use Rattle.job_laws.proofs.Shared.{Share}
use Rattle.job_laws.proofs.Turned.{source_back}

module _ (shared : (x y : Elaborated) → SameSource x y → Share x y) where
  -- what jobs that stand ready alike have in common, and back
  there : (w v : Ready) → SameReady w v → Share w.source v.source
  there w v same = shared w.source v.source same.source

  back : (w v : Ready) → SameReady w v → Share v.source w.source
  back w v same = shared v.source w.source (source_back w.source v.source same.source)

  scripted_carries : (texts : List (List ℕ)) → Carries SameReady SameReady (Scripted texts)
  scripted_carries texts w v same _ (s.gives {script = t} {cs = cs} e h) = (
    record v { commands = cs },
    s.gives e (commands_there w.source v.source (there w v same) (back w v same) t (Ok cs) h),
    record {
      source = same.source;
      commands = refl;
      lines = same.lines;
      dropped = same.dropped;
      wanted = same.wanted;
      shown = same.shown;
      order = same.order;
    },
  )
  scripted_carries texts w v same _ (s.bad {script = t} {l = l} e h) =
      s.bad e (commands_there w.source v.source (there w v same) (back w v same) t (Err l) h)

  lists_carry : (texts : List (List ℕ)) → Carries SameReady SameReady (ListsCuts texts)
  lists_carry texts w v same _ (s.lists {list = t} {cuts = cs} e h less) = (
    record v { lines = cs },
    s.lists e (cut_list_there w.source v.source (there w v same) (back w v same) t (Ok cs) h) less,
    record {
      source = same.source;
      commands = same.commands;
      lines = refl;
      dropped = same.dropped;
      wanted = same.wanted;
      shown = same.shown;
      order = same.order;
    },
  )
  lists_carry texts w v same _ (s.bad_line {list = t} {l = l} e h) =
      s.bad_line e (cut_list_there w.source v.source (there w v same) (back w v same) t (Err l) h)
  lists_carry texts w v same _ (s.exceeds_lines {list = t} {cuts = cs} e h less) =
      s.exceeds_lines e (cut_list_there w.source v.source (there w v same) (back w v same) t (Ok cs) h) less

  drops_carry : (list : Option (List ℕ)) → Carries SameReady SameReady (Drops list)
  drops_carry list w v same _ (s.no_list e) = (v, s.no_list e, same)
  drops_carry list w v same _ (s.names {text = t} {events = es} e h) = (
    record v { dropped = es },
    s.names e (events_there w.source v.source (there w v same) t es h),
    record {
      source = same.source;
      commands = same.commands;
      lines = same.lines;
      dropped = refl;
      wanted = same.wanted;
      shown = same.shown;
      order = same.order;
    },
  )
  drops_carry list w v same _ (s.names_none {text = t} e h) =
      s.names_none e (unknown_there w.source v.source (there w v same) (back w v same) t h)

  wanting_carries : (observer word : Option (List ℕ)) → Carries SameReady SameReady (Wanting observer word)
  wanting_carries observer word w v same _ (s.wants {path = p} {wanted = a} e h) = (
    record v { wanted = Some a },
    s.wants e (wanted_there w.source v.source (there w v same) p word a.observer a.value h),
    record {
      source = same.source;
      commands = same.commands;
      lines = same.lines;
      dropped = same.dropped;
      wanted = refl;
      shown = same.shown;
      order = same.order;
    },
  )
  wanting_carries observer word w v same _ (s.no_observer {path = p} e h) =
      s.no_observer e (names_none_there w.source v.source (there w v same) (back w v same) p h)
  wanting_carries observer word w v same _ (s.no_value {path = p} e h) =
      s.no_value e (wants_none_there w.source v.source (there w v same) (back w v same) p word h)

  showing_carries : (observer : Option (List ℕ)) → Carries SameReady SameReady (Showing observer)
  showing_carries observer w v same _ (s.no_path e) = (v, s.no_path e, same)
  showing_carries observer w v same _ (s.shows {path = p} {n = n} e h) = (
    record v { shown = Some n },
    s.shows e (observer_there w.source v.source (there w v same) p n h),
    record {
      source = same.source;
      commands = same.commands;
      lines = same.lines;
      dropped = same.dropped;
      wanted = same.wanted;
      shown = refl;
      order = same.order;
    },
  )
  showing_carries observer w v same _ (s.shows_none {path = p} e h) =
      s.shows_none e (names_none_there w.source v.source (there w v same) (back w v same) p h)

  -- All of them

  module _ (asked : Asked) (texts : List (List ℕ)) where
    abbrev shape : Shape
    shape = shape_of asked.job.command

    abbrev Want : Ready → Result Ready Refusal → Type 0
    Want = Where (has_table asked.job.command) (Wanting (observer_asked asked) asked.job.value)

    abbrev Show : Ready → Result Ready Refusal → Type 0
    Show = Where shape.explains (Showing asked.job.observer)

    abbrev Script : Ready → Result Ready Refusal → Type 0
    Script = Where (is_script shape.files) (Scripted texts)

    abbrev Cuts : Ready → Result Ready Refusal → Type 0
    Cuts = Where (is_list shape.files) (ListsCuts texts)

    words_carry : Carries SameReady SameReady (AsksByWords asked)
    words_carry =
        then_carries SameReady SameReady SameReady (Drops asked.job.dropped) (Then Want Show) (drops_carry asked.job.dropped)
        (then_carries SameReady SameReady SameReady Want Show
        (where_carries SameReady (Wanting (observer_asked asked) asked.job.value) (has_table asked.job.command)
        (wanting_carries (observer_asked asked) asked.job.value))
        (where_carries SameReady (Showing asked.job.observer) shape.explains (showing_carries asked.job.observer)))

    all_carry : Carries SameReady SameReady (Then Script (Then Cuts (AsksByWords asked)))
    all_carry =
        then_carries SameReady SameReady SameReady Script (Then Cuts (AsksByWords asked))
        (where_carries SameReady (Scripted texts) (is_script shape.files) (scripted_carries texts))
        (then_carries SameReady SameReady SameReady Cuts (AsksByWords asked)
        (where_carries SameReady (ListsCuts texts) (is_list shape.files) (lists_carry texts)) words_carry)

    pub bare_same : (x y : Elaborated) → SameSource x y → SameReady (bare asked.order x) (bare asked.order y)
    bare_same x y same =
        record { source = same; commands = refl; lines = refl; dropped = refl; wanted = refl; shown = refl; order = refl }

    given : (y : Elaborated) (a : Result Ready Refusal)
        → Gives SameReady (Then Script (Then Cuts (AsksByWords asked))) (bare asked.order y) a → Gives SameReady (Asks asked texts) y a
    given y (Ok w) h = h
    given y (Err r) h = h

    pub asks_carries : Carries SameSource SameReady (Asks asked texts)
    asks_carries x y same a h = given y a (all_carry (bare asked.order x) (bare asked.order y) (bare_same x y same) a h)
