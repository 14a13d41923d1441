-- What follows from standing valuations, command by command, and that something does.
use Rattle.std.proofs.Common.{◌≡◌, ℕ, List, [], ◌∷◌, ◌++◌, codes, decimal, length, refl, sym, ◌∙◌, ap, subst, inl, inr}
use Rattle.std.proofs.lemmas.List.{append-nil}
use Rattle.std.proofs.lemmas.Bool.{cases_eq}
use Rattle.ar_base.specs.Texts.{line}
use Rattle.ar_base.proofs.Standing.{one_none, one_cases, one_first, one_rest}
use Rattle.domains.specs.declared.Value.{Value}
use Rattle.ar_meaning.specs.Systems as s
use Rattle.ar_meaning.specs.Flows.{FlowFault, Flows, Outcome, Fails, Total}
use Rattle.ar_meaning.specs.Steps.{StepFault, Answer, Refused, Next, Step}
use Rattle.ar_meaning.specs.Runs.{Label, IsWay, Command, Fire, Back, Show, Enabled, Moment, Start, StartFails, first_values, Starts, Start_fails, Fires, Fire_fails, Goes_back, No_step, Shows, Lists, Ends}
use Rattle.ar_meaning.specs.RunsInside.{FiresWays}
use Rattle.ar_meaning.specs.Runs as r
use Rattle.ar_meaning.specs.TraceText.{Naming, MomentText, TraceText, label_text, flow_fault_text, step_fault_text}
use Rattle.ar_meaning.specs.TraceText as tell
use Rattle.ar_meaning.proofs.Answering.{has_answer}
use Rattle.ar_meaning.proofs.Lengths.{first_long}
use Rattle.ar_meaning.proofs.Outcomes.{has_outcome}
use Rattle.gts_core.specs.View.{Views, net_of}
use Rattle.gts_core.specs.Sound.{IsSound}
use Rattle.gts_core.specs.Readings.{IsTotal}
use Rattle.gts_core.specs.declared.system.GtsParts.{GtsParts}
use Rattle.gts_core.proofs.Viewing.{variables_long}
use Rattle.gts_flatten.specs.Flat.{naming_of_parts}
use Rattle.replayer.specs.Listing.{visible_ways, able}
use Rattle.replayer.specs.Printing.{values_text, changes_text, way_lines}
use Rattle.replayer.specs.Playing.{AreTotal, Follows}
use Rattle.replayer.specs.Replays.{IsReplay}
use Rattle.replayer.specs.declared.ends.End.{End}
use Rattle.replayer.specs.declared.ends.End.TheVariants.{Done, Fault}
use Rattle.replayer.proofs.ListLemmas.{some_answers, is_list, IsList}
use Rattle.replayer.proofs.TotalLemmas.{step_total, start_total}
use Rattle.replayer.proofs.ValueLemmas.{observed, changed_lines}

-- total valuations

pub total_below : (p : GtsParts) (t : List Value) (below : List (List Value)) → IsTotal p t → AreTotal p below
    → AreTotal p (t ∷ below)
total_below p t below h k = record {
  each = λ u o. elim (one_cases t below u o)
      [ inl e ↦ subst (λ (z : List Value). IsTotal p z) e h | inr q ↦ k.each u q ];
}

pub total_none : (p : GtsParts) → AreTotal p []
total_none p = record { each = λ u o. absurd (one_none u o) }

pub total_first : (p : GtsParts) (t : List Value) (below : List (List Value)) → AreTotal p (t ∷ below) → IsTotal p t
total_first p t below h = h.each t (one_first t below)

pub total_rest : (p : GtsParts) (t : List Value) (below : List (List Value)) → AreTotal p (t ∷ below) → AreTotal p below
total_rest p t below h = record { each = λ u o. h.each u (one_rest t below u o) }

-- commands that fire ways

pub later : {sys : s.System ℕ} {c : Command} {cs : List Command} → FiresWays sys (c ∷ cs) → FiresWays sys cs
later {c = c} {cs = cs} h = record { each = λ l o. h.each l (one_rest c cs (Fire l) o) }

-- the text of one moment that ends the run
one_moment : (names : Naming) (sys : s.System ℕ) (m : Moment) (text : List ℕ) → MomentText names sys m text
    → TraceText names sys (m ∷ []) text
one_moment names sys m text h =
    subst (λ (z : List ℕ). TraceText names sys (m ∷ []) z) (append-nil text) (tell.one_and h tell.none)

module _ (p : GtsParts) (sound : IsSound p) (sys : s.System ℕ) (views : Views p sys) where
  abbrev names : Naming
  names = naming_of_parts p

  -- the end of the commands
  pub ends_so : (below : List (List Value)) (t : List Value)
      → Follows names sys below t [] (line (codes "end " ++ decimal (length below))) Done
  ends_so below t = record {
    moments = Ends (length below) ∷ [];
    goes = r.ends;
    trace = one_moment names sys (Ends (length below)) (line (codes "end " ++ decimal (length below))) tell.ends;
    ends = refl;
  }

  -- a way that is fired
  pub fires_so : (below : List (List Value)) (t u : List Value) (k : Label) (w : s.Way ℕ) → IsWay sys k w
      → Step sys.net t w (Next u)
      → IsTotal p t → IsTotal p u → (cs : List Command) (more : List ℕ) (end : End)
      → Follows names sys (t ∷ below) u cs more end
      → Follows names sys below t (Fire k ∷ cs)
      ((line (codes "fire " ++ label_text names sys k) ++ changes_text p t u) ++ more) end
  fires_so below t u k w is step before after cs more end f = record {
    moments = Fires k t u ∷ f.moments;
    goes = r.fires w is step f.goes;
    trace = tell.one_and (tell.fires (changed_lines p sound sys views t u before after)) f.trace;
    ends = f.ends;
  }

  pub fails_so : (below : List (List Value)) (t : List Value) (k : Label) (w : s.Way ℕ) (f : StepFault) → IsWay sys k w
      → Step sys.net t w (Refused f) → (cs : List Command)
      → Follows names sys below t (Fire k ∷ cs)
      (line (codes "fault: " ++ (label_text names sys k ++ (codes ": " ++ step_fault_text names f)))) Fault
  fails_so below t k w f is step cs = record {
    moments = Fire_fails k f ∷ [];
    goes = r.fails w is step;
    trace = one_moment names sys (Fire_fails k f)
        (line (codes "fault: " ++ (label_text names sys k ++ (codes ": " ++ step_fault_text names f)))) tell.fire_fails;
    ends = refl;
  }

  -- a step that is taken back
  pub back_so : (below : List (List Value)) (t u : List Value) → IsTotal p t → IsTotal p u
      → (cs : List Command) (more : List ℕ) (end : End) → Follows names sys below u cs more end
      → Follows names sys (u ∷ below) t (Back ∷ cs) ((line (codes "back") ++ changes_text p t u) ++ more) end
  back_so below t u before after cs more end f = record {
    moments = Goes_back t u ∷ f.moments;
    goes = r.back f.goes;
    trace = tell.one_and (tell.goes_back (changed_lines p sound sys views t u before after)) f.trace;
    ends = f.ends;
  }

  pub no_step_so : (t : List Value) (cs : List Command)
      → Follows names sys [] t (Back ∷ cs) (line (codes "fault: back: no step")) Fault
  no_step_so t cs = record {
    moments = No_step ∷ [];
    goes = r.no_step;
    trace = one_moment names sys No_step (line (codes "fault: back: no step")) tell.no_step;
    ends = refl;
  }

  pub shows_so : (below : List (List Value)) (t : List Value) → IsTotal p t
      → (cs : List Command) (more : List ℕ) (end : End) → Follows names sys below t cs more end
      → Follows names sys below t (Show ∷ cs) ((line (codes "show") ++ values_text p t) ++ more) end
  shows_so below t total cs more end f = record {
    moments = Shows t ∷ f.moments;
    goes = r.shows f.goes;
    trace = tell.one_and (tell.shows (observed p sound sys views t total)) f.trace;
    ends = f.ends;
  }

  pub lists_so : (below : List (List Value)) (t : List Value) (text : List ℕ)
      → IsList p sys views t (some_answers p sound t).0 (some_answers p sound t).1 sound text
      → (cs : List Command) (more : List ℕ) (end : End) → Follows names sys below t cs more end
      → Follows names sys below t (Enabled ∷ cs) ((line (codes "enabled") ++ text) ++ more) end
  lists_so below t text list cs more end f = record {
    moments = Lists list.labels ∷ f.moments;
    goes = r.lists list.listed f.goes;
    trace = tell.one_and (subst (λ (z : List ℕ). MomentText names sys (Lists list.labels) (line (codes "enabled") ++ z))
        (sym list.lines) tell.lists) f.trace;
    ends = f.ends;
  }

  -- something follows
  pub record Goes_on (below : List (List Value)) (t : List Value) (cs : List Command) : Type 0 where
    pub text : List ℕ
    pub end : End
    pub follows : Follows names sys below t cs text end

  net_step : (t : List Value) (w : s.Way ℕ) (a : Answer) → Step sys.net t w a → Step (net_of p) t w a
  net_step t w a h = subst (λ (n : s.Net ℕ). Step n t w a) views.net h

  pub going : (below : List (List Value)) (t : List Value) (cs : List Command) → AreTotal p below → IsTotal p t
      → FiresWays sys cs → Goes_on below t cs
  going below t [] totals total h = record { text = _; end = Done; follows = ends_so below t }
  going below t (Fire k ∷ cs) totals total h =
      go (has_answer cases_eq sys.net t way.0 long)
      (λ u v. going (t ∷ below) u cs (total_below p t below total totals) v (later h))
    where
      way : (w : s.Way ℕ) × IsWay sys k w
      way = h.each k (one_first (Fire k) cs)

      long : length t ≡ length sys.net.variables
      long = total.long ∙ sym (variables_long 0 p.variables.items)
          ∙ ap (λ (n : s.Net ℕ). length n.variables) (sym views.net)

      go : (a : Answer) × Step sys.net t way.0 a → ((u : List Value) → IsTotal p u → Goes_on (t ∷ below) u cs)
          → Goes_on below t (Fire k ∷ cs)
      go (Refused f, step) on = record { text = _; end = Fault; follows = fails_so below t k way.0 f way.1 step cs }
      go (Next u, step) on =
          let after = step_total p sound t u way.0 total (net_step t way.0 (Next u) step) in
          let f = on u after in
          record {
            text = _;
            end = f.end;
            follows = fires_so below t u k way.0 way.1 step total after cs f.text f.end
                f.follows;
          }
  going [] t (Back ∷ cs) totals total h = record { text = _; end = Fault; follows = no_step_so t cs }
  going (u ∷ below) t (Back ∷ cs) totals total h =
      let f = going below u cs (total_rest p u below totals) (total_first p u below totals) (later h) in
      record {
        text = _;
        end = f.end;
        follows = back_so below t u total (total_first p u below totals) cs f.text f.end
            f.follows;
      }
  going below t (Show ∷ cs) totals total h =
      let f = going below t cs totals total (later h) in
      record { text = _; end = f.end; follows = shows_so below t total cs f.text f.end f.follows }
  going below t (Enabled ∷ cs) totals total h =
      let f = going below t cs totals total (later h) in
      let may = some_answers p sound t in
      record {
        text = _;
        end = f.end;
        follows = lists_so below t (way_lines p (able may.0 (visible_ways p.events.items)))
            (is_list p sys views t may.0 may.1 sound) cs f.text f.end f.follows;
      }

  -- Whole replays

  -- a start and what follows
  pub starts_so : (t : List Value) → Start sys.net t → IsTotal p t → (cs : List Command) (more : List ℕ) (end : End)
      → Follows names sys [] t cs more end
      → IsReplay names sys cs ((line (codes "start") ++ values_text p t) ++ more) end
  starts_so t start total cs more end f = record {
    moments = Starts t ∷ f.moments;
    runs = r.starts start f.goes;
    trace = tell.one_and (tell.starts (observed p sound sys views t total)) f.trace;
    ends = f.ends;
  }

  -- a fault of the start
  pub no_start_so : (f : FlowFault) → StartFails sys.net f → (cs : List Command)
      → IsReplay names sys cs (line (codes "fault: start: " ++ flow_fault_text names f)) Fault
  no_start_so f fails cs = record {
    moments = Start_fails f ∷ [];
    runs = r.start_fails fails;
    trace = one_moment names sys (Start_fails f) (line (codes "fault: start: " ++ flow_fault_text names f))
        tell.start_fails;
    ends = refl;
  }

  pub record Replays (cs : List Command) : Type 0 where
    pub text : List ℕ
    pub end : End
    pub replay : IsReplay names sys cs text end

  -- each list of commands has a replay
  pub some_replay : (cs : List Command) → FiresWays sys cs → Replays cs
  some_replay cs h = go (has_outcome cases_eq sys.net (first_values sys.net.variables) (first_long sys.net.variables))
    where
      go : (o : Outcome) × Flows sys.net (first_values sys.net.variables) o → Replays cs
      go (Fails f, start) = record { text = _; end = Fault; replay = no_start_so f start cs }
      go (Total t, start) =
          let total = start_total p sound t (subst (λ (n : s.Net ℕ). Start n t) views.net start) in
          let f = going [] t cs (total_none p) total h in
          record { text = _; end = f.end; replay = starts_so t start total cs f.text f.end f.follows }
