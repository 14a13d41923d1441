-- What follows from the answer of a call.
use Rattle.std.proofs.Common.{◌≡◌, ◌⊎◌, inl, inr, ℕ, Bool, true, false, List, [], ◌∷◌, Option, Ok, Err, refl, ap, append-nil}
use Rattle.ar_base.specs.Stages.{Where}
use Rattle.ar_base.specs.Stages as then
use Rattle.ar_io.specs.Outside.{Told}
use Rattle.ar_io.specs.Writing.{SinkState, WroteFront}
use Rattle.ar_io.proofs.Writing.{front_nothing}
use Rattle.job_inputs.specs.Scripts.{Why, IsNoCommand, LacksWay, NamesNoEvent}
use Rattle.replayer.specs.declared.ends.End.TheVariants as end
use Rattle.run_words.specs.Commands.{shape_of, is_script, is_list}
use Rattle.run_words.specs.declared.jobs.Asked.{Asked}
use Rattle.run_words.specs.Jobs.{IsAsked}
use Rattle.job_stages.specs.Elaborates.{Elaborates, no_tokens, no_reading, too_deep, breaks, exceeds}
use Rattle.job_stages.specs.Files.{File, Loaded, long, later, files_of}
use Rattle.altarica_run.specs.Follows.{Call, Gave, SinkRose, RoseAt, Wrote, IsQuiet, IsTextSaid, IsPrefix, sink_before, sink_after}
use Rattle.job_stages.specs.Jobs.{IsNoJob}
use Rattle.job_stages.specs.Refusals.{line_of, status_of}
use Rattle.altarica_run.specs.Says.{Says, usage, refuses, tells, EndsSo}
use Rattle.altarica_run.specs.Says as says
use Rattle.job_stages.specs.Stages.{Ready, bare, Passes, not_loaded, loaded, line_refused, cut_refused, Scripted, ListsCuts, Drops, Wanting, Showing, Static, is_static, Tabled, has_table, observer_asked}
use Rattle.job_stages.specs.Stages as stages
use Rattle.altarica_run.specs.Statuses.{IsWholeTold, IsRefused, Meaning_of}
use Rattle.job_stages.specs.Tells.{Tells, check, flat, replay, fragment, equations, cuts, make, unsettled, checks, in_short, conflict, nodes}
use Rattle.job_stages.specs.Tells as tells
use Rattle.job_stages.specs.declared.refusals.Refusal.{Refusal}
use Rattle.job_stages.specs.declared.refusals.Refusal.TheVariants.{Usage, NotRead, Size, Syntax, Rule, NoCommand, NoCut, NeedsWay, NoEvent, NoDropped, NoObserver, NoValue, Outside}
use Rattle.job_stages.specs.declared.status.Status.{Status}
use Rattle.job_stages.specs.declared.status.Status.TheVariants as status

-- Refusals

-- a stage refuses so: it is neither that the words are no job nor that a file was not read
abbrev IsOfStages : Refusal → Type 0
IsOfStages Usage = ⊥
IsOfStages (NotRead kind) = ⊥
IsOfStages (Size count) = Unit {0}
IsOfStages (Syntax place) = Unit {0}
IsOfStages (Rule rule place) = Unit {0}
IsOfStages (NoCommand n) = Unit {0}
IsOfStages (NoCut n) = Unit {0}
IsOfStages (NeedsWay n) = Unit {0}
IsOfStages (NoEvent n) = Unit {0}
IsOfStages NoDropped = Unit {0}
IsOfStages NoObserver = Unit {0}
IsOfStages NoValue = Unit {0}
IsOfStages (Outside rule path) = Unit {0}

of_files : (told : List ℕ → Told) (fs : List File) (r : Refusal) → Loaded told fs (Err r) → IsOfStages r
of_files told [] r h = elim h [ ]
of_files told (f ∷ fs) r (long h) = tt
of_files told (f ∷ fs) r (later text h k) = of_files told fs r k

of_text : (main : Option (List ℕ)) (text : List ℕ) (r : Refusal) → Elaborates main text (Err r) → IsOfStages r
of_text main text r (then.refuses (no_tokens h)) = tt
of_text main text r (then.refuses (no_reading h)) = tt
of_text main text r (then.refuses (too_deep h)) = tt
of_text main text r (then.passes m p (breaks h)) = tt
of_text main text r (then.passes m p (exceeds h)) = tt

of_line : (why : Why) (n : ℕ) → IsOfStages (line_refused why n)
of_line IsNoCommand n = tt
of_line LacksWay n = tt
of_line NamesNoEvent n = tt

of_script : (b : Bool) (texts : List (List ℕ)) (w : Ready) (r : Refusal) → Where b (Scripted texts) w (Err r)
    → IsOfStages r
of_script true texts w r (stages.bad {l = l} i h) = of_line l.why l.number
of_script false texts w r h = cc

of_cut : (why : Why) (n : ℕ) → IsOfStages (cut_refused why n)
of_cut IsNoCommand n = tt
of_cut LacksWay n = tt
of_cut NamesNoEvent n = tt

of_cuts : (b : Bool) (texts : List (List ℕ)) (w : Ready) (r : Refusal) → Where b (ListsCuts texts) w (Err r)
    → IsOfStages r
of_cuts true texts w r (stages.bad_line {l = l} i h) = of_cut l.why l.number
of_cuts true texts w r (stages.exceeds_lines i h k) = tt
of_cuts false texts w r h = cc

of_list : (list : Option (List ℕ)) (w : Ready) (r : Refusal) → Drops list w (Err r) → IsOfStages r
of_list list w r (stages.names_none i h) = tt

of_observer : (b : Bool) (observer word : Option (List ℕ)) (w : Ready) (r : Refusal)
    → Where b (Wanting observer word) w (Err r) → IsOfStages r
of_observer true observer word w r (stages.no_observer i h) = tt
of_observer true observer word w r (stages.no_value i h) = tt
of_observer false observer word w r h = cc

of_shown : (b : Bool) (path : Option (List ℕ)) (w : Ready) (r : Refusal) → Where b (Showing path) w (Err r)
    → IsOfStages r
of_shown true path w r (stages.shows_none i h) = tt
of_shown false path w r h = cc

of_fragment : (b : Bool) (w : Ready) (r : Refusal) → Where b Static w (Err r) → IsOfStages r
of_fragment true w r (stages.outside q h) = tt
of_fragment false w r h = cc

of_table : (b : Bool) (w : Ready) (r : Refusal) → Where b Tabled w (Err r) → IsOfStages r
of_table true w r (stages.exceeds e h k) = tt
of_table false w r h = cc

pub of_stages : (files : List ℕ → Told) (asked : Asked) (r : Refusal) → Passes files asked (Err r) → IsOfStages r
of_stages files asked r (not_loaded h) = of_files files (files_of asked) r h
of_stages files asked r (loaded texts l t (then.refuses h)) = of_text asked.job.main _ r h
of_stages files asked r (loaded texts l t (then.passes x p (then.refuses (then.refuses h)))) =
    of_script (is_script (shape_of asked.job.command).files) texts (bare asked.order x) r h
of_stages files asked r (loaded texts l t (then.passes x p (then.refuses (then.passes w q (then.refuses h))))) =
    of_cuts (is_list (shape_of asked.job.command).files) texts w r h
of_stages files asked r (loaded texts l t
    (then.passes x p (then.refuses (then.passes w q (then.passes v k (then.refuses h)))))) =
    of_list asked.job.dropped v r h
of_stages files asked r (loaded texts l t
    (then.passes x p (then.refuses (then.passes w q (then.passes v k (then.passes u m (then.refuses h))))))) =
    of_observer (has_table asked.job.command) (observer_asked asked) asked.job.value u r h
of_stages files asked r (loaded texts l t
    (then.passes x p (then.refuses (then.passes w q (then.passes v k (then.passes u m (then.passes y n h))))))) =
    of_shown (shape_of asked.job.command).explains asked.job.observer y r h
of_stages files asked r (loaded texts l t (then.passes x p (then.passes w q (then.refuses h)))) =
    of_fragment (is_static asked.job.command) w r h
of_stages files asked r (loaded texts l t (then.passes x p (then.passes w q (then.passes v k h)))) =
    of_table (has_table asked.job.command) v r h

-- Want of memory

abbrev pub is_memory : Status → Bool
is_memory status.Memory = true
is_memory _ = false

-- no refusal, and no text of a job, ends with it
refused_no_memory : (r : Refusal) → is_memory (status_of r) ≡ false
refused_no_memory Usage = refl
refused_no_memory (NotRead kind) = refl
refused_no_memory (Size count) = refl
refused_no_memory (Syntax place) = refl
refused_no_memory (Rule rule place) = refl
refused_no_memory (NoCommand n) = refl
refused_no_memory (NoCut n) = refl
refused_no_memory (NeedsWay n) = refl
refused_no_memory (NoEvent n) = refl
refused_no_memory NoDropped = refl
refused_no_memory NoObserver = refl
refused_no_memory NoValue = refl
refused_no_memory (Outside rule path) = refl

told_no_memory : (asked : Asked) (w : Ready) (text : List ℕ) (s : Status) → Tells asked w text s → is_memory s ≡ false
told_no_memory asked w text s (check e) = refl
told_no_memory asked w text s (flat e h) = refl
told_no_memory asked w text s (replay {ends = end.Done} e h) = refl
told_no_memory asked w text s (replay {ends = end.Fault} e h) = refl
told_no_memory asked w text s (fragment e h) = refl
told_no_memory asked w text s (equations e i h) = refl
told_no_memory asked w text s (cuts e h) = refl
told_no_memory asked w text s (make e h) = refl
told_no_memory asked w text s (tells.explains e h) = refl
told_no_memory asked w text s (unsettled e h) = refl
told_no_memory asked w text s (checks e h) = refl
told_no_memory asked w text s (in_short e h) = refl
told_no_memory asked w text s (conflict e h) = refl
told_no_memory asked w text s (nodes e h) = refl

pub said_no_memory : (files : List ℕ → Told) (words : List (List ℕ)) (text : List ℕ) (s : Status)
    → Says files words text s → is_memory s ≡ false
said_no_memory files words text s (usage never) = refl
said_no_memory files words text s (refuses asked r is p) = refused_no_memory r
said_no_memory files words text s (tells asked w is p t) = told_no_memory asked w text s t

-- Meanings

module _ (c : Call) where
  told : (asked : Asked) (w : Ready) (text : List ℕ) (s : Status) → IsAsked c.words asked → Passes c.files asked (Ok w)
      → Tells asked w text s → Wrote c text → IsWholeTold c s
  told asked w text s is p t a =
      record { asked = asked; is_job = is; ready = w; passes = p; text = text; tells = t; wrote = a }

  refused : (asked : Asked) (r : Refusal) → IsAsked c.words asked → Passes c.files asked (Err r) → Wrote c (line_of r)
      → IsRefused c (status_of r)
  refused asked r is p a = record { asked = asked; is_job = is; refusal = r; stage = p; is_status = refl; wrote = a }

  meant_tells : (asked : Asked) (w : Ready) (text : List ℕ) (s : Status) → IsAsked c.words asked
      → Passes c.files asked (Ok w) → Tells asked w text s → Wrote c text → Meaning_of c s
  meant_tells asked w text s is p (check e) a = told asked w _ status.Done is p (check e) a
  meant_tells asked w text s is p (flat e h) a = told asked w text status.Done is p (flat e h) a
  meant_tells asked w text s is p (replay {ends = end.Done} e h) a = told asked w text status.Done is p (replay e h) a
  meant_tells asked w text s is p (replay {ends = end.Fault} e h) a = told asked w text status.Fault is p (replay e h) a
  meant_tells asked w text s is p (fragment e h) a = told asked w text status.Done is p (fragment e h) a
  meant_tells asked w text s is p (equations e i h) a = told asked w text status.Done is p (equations e i h) a
  meant_tells asked w text s is p (cuts e h) a = told asked w text status.Done is p (cuts e h) a
  meant_tells asked w text s is p (make e h) a = told asked w text status.Done is p (make e h) a
  meant_tells asked w text s is p (tells.explains e h) a = told asked w text status.Done is p (tells.explains e h) a
  meant_tells asked w text s is p (unsettled e h) a = told asked w text status.Fault is p (unsettled e h) a
  meant_tells asked w text s is p (checks e h) a = told asked w text status.Done is p (checks e h) a
  meant_tells asked w text s is p (in_short e h) a = told asked w text status.Done is p (in_short e h) a
  meant_tells asked w text s is p (conflict e h) a = told asked w text status.Fault is p (conflict e h) a
  meant_tells asked w text s is p (nodes e h) a = told asked w text status.Nodes is p (nodes e h) a

  meant_refuses : (asked : Asked) (r : Refusal) → IsAsked c.words asked → Passes c.files asked (Err r) → Wrote c (line_of r)
      → IsOfStages r → Meaning_of c (status_of r)
  meant_refuses asked Usage is p a h = absurd h
  meant_refuses asked (NotRead kind) is p a h = absurd h
  meant_refuses asked (Size count) is p a h = refused asked (Size count) is p a
  meant_refuses asked (Syntax place) is p a h = refused asked (Syntax place) is p a
  meant_refuses asked (Rule rule place) is p a h = refused asked (Rule rule place) is p a
  meant_refuses asked (NoCommand n) is p a h = refused asked (NoCommand n) is p a
  meant_refuses asked (NoCut n) is p a h = refused asked (NoCut n) is p a
  meant_refuses asked (NeedsWay n) is p a h = refused asked (NeedsWay n) is p a
  meant_refuses asked (NoEvent n) is p a h = refused asked (NoEvent n) is p a
  meant_refuses asked NoDropped is p a h = refused asked NoDropped is p a
  meant_refuses asked NoObserver is p a h = refused asked NoObserver is p a
  meant_refuses asked NoValue is p a h = refused asked NoValue is p a
  meant_refuses asked (Outside rule path) is p a h = refused asked (Outside rule path) is p a

  meant_says : (text : List ℕ) (s : Status) → Says c.files c.words text s → Wrote c text → Meaning_of c s
  meant_says text s (usage never) a = (never, a)
  meant_says text s (refuses asked r is p) a = meant_refuses asked r is p a (of_stages c.files asked r p)
  meant_says text s (tells asked w is p t) a = meant_tells asked w text s is p t a

  meant : (s : Status) → EndsSo c.files (RoseAt c) c.words (sink_before c) (sink_after c) s → Meaning_of c s
  meant s (says.says {text = text} h a q) = meant_says text s h a
  meant s (says.not_read {kind} {name} asked is l r a q) =
      record { asked = asked; is_job = is; kind = kind; name = name; loads = l; rose = r; wrote = a }
  meant s (says.not_written b r h) = r
  meant s (says.no_memory e) = tt
  meant s (says.replay_stopped asked is e h k q) = tt

  pub meaning_of : (s : Status) → Gave c s → Meaning_of c s
  meaning_of s g = meant s g.ends

  -- What the sink holds

  whole_front : (text : List ℕ) → Wrote c text → WroteFront c.old c.new text
  whole_front text a = λ bytes e. (text, record { rest = []; joined = append-nil text }, a bytes e)

  fronts : (s : Status) → EndsSo c.files (RoseAt c) c.words (sink_before c) (sink_after c) s → IsPrefix c
  fronts s (says.says {text = text} h a q) = record { text = text; begins = says.said h; front = whole_front text a }
  fronts s (says.not_read {kind} {name} asked is l r a q) =
      record {
        text = line_of (NotRead kind);
        begins = says.not_read asked is l r;
        front = whole_front (line_of (NotRead kind)) a;
      }
  fronts s (says.not_written {text = text} b r h) = record { text = text; begins = b; front = h }
  fronts s (says.no_memory e) =
      record {
        text = [];
        begins = says.nothing;
        front = front_nothing c.old c.new (ap (λ (z : SinkState). z.bytes) e);
      }
  fronts s (says.replay_stopped {text = text} asked is e h k q) =
      record { text = text; begins = says.said h; front = k }

  pub prefix_of : (s : Status) → Gave c s → IsPrefix c
  prefix_of s g = fronts s g.ends

  -- The sink's count

  kept : (s : Status) → EndsSo c.files (RoseAt c) c.words (sink_before c) (sink_after c) s → (s ≡ status.Write → ⊥)
      → c.sink_new ≡ c.sink_old
  kept s (says.says {text = text} h a q) otherwise = q
  kept s (says.not_read asked is l r a q) otherwise = q
  kept s (says.not_written b r h) otherwise = absurd (otherwise refl)
  kept s (says.no_memory e) otherwise = ap (λ (z : SinkState). z.faults) e
  kept s (says.replay_stopped asked is e h k q) otherwise = q

  pub kept_of : (s : Status) → Gave c s → (s ≡ status.Write → ⊥) → c.sink_new ≡ c.sink_old
  kept_of s g otherwise = kept s g.ends otherwise

  -- Words that are no job

  module _ (never : IsNoJob c.words) (written : SinkRose c → ⊥) where
    usage_said : (text : List ℕ) (s : Status) → Says c.files c.words text s → (s ≡ status.Usage) ⊎ (s ≡ status.Memory)
    usage_said text s (usage h) = inl refl
    usage_said text s (refuses asked r is p) = absurd (never asked is)
    usage_said text s (tells asked w is p t) = absurd (never asked is)

    usage_ends : (s : Status) → EndsSo c.files (RoseAt c) c.words (sink_before c) (sink_after c) s
        → (s ≡ status.Usage) ⊎ (s ≡ status.Memory)
    usage_ends s (says.says {text = text} h a q) = usage_said text s h
    usage_ends s (says.not_read asked is l r a q) = absurd (never asked is)
    usage_ends s (says.not_written b r h) = absurd (written r)
    usage_ends s (says.no_memory e) = inr refl
    usage_ends s (says.replay_stopped asked is e h k q) = inr refl

    pub usage_of : (s : Status) → Gave c s → (s ≡ status.Usage) ⊎ (s ≡ status.Memory)
    usage_of s g = usage_ends s g.ends

  -- Calls in which nothing of the outside fails

  module _ (quiet : IsQuiet c) where
    quiet_ends : (s : Status) → EndsSo c.files (RoseAt c) c.words (sink_before c) (sink_after c) s
        → IsTextSaid c s ⊎ (s ≡ status.Memory)
    quiet_ends s (says.says {text = text} h a q) = inl (record { text = text; said = h; wrote = a })
    quiet_ends s (says.not_read {name = name} asked is l r a q) = absurd (quiet.read name r)
    quiet_ends s (says.not_written b r h) = absurd (quiet.written r)
    quiet_ends s (says.no_memory e) = inr refl
    quiet_ends s (says.replay_stopped asked is e h k q) = inr refl

    pub said_of : (s : Status) → Gave c s → IsTextSaid c s ⊎ (s ≡ status.Memory)
    said_of s g = quiet_ends s g.ends

    module _ (asked : Asked) (is : IsAsked c.words asked) where
      job_said : (text : List ℕ) (s : Status) → Says c.files c.words text s → Wrote c text
          → IsWholeTold c s ⊎ (IsRefused c s ⊎ (s ≡ status.Memory))
      job_said text s (usage never) a = absurd (never asked is)
      job_said text s (refuses other r at p) a = inr (inl (refused other r at p a))
      job_said text s (tells other w at p t) a = inl (told other w text s at p t a)

      job_ends : (s : Status) → IsTextSaid c s ⊎ (s ≡ status.Memory) → IsWholeTold c s ⊎ (IsRefused c s ⊎ (s ≡ status.Memory))
      job_ends s (inl h) = job_said h.text s h.said h.wrote
      job_ends s (inr e) = inr (inr e)

      pub asked_of : (s : Status) → Gave c s → IsWholeTold c s ⊎ (IsRefused c s ⊎ (s ≡ status.Memory))
      asked_of s g = job_ends s (said_of s g)
