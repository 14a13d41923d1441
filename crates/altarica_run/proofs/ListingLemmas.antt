-- What a listing of cuts that ends well says of the model.
use Rattle.std.proofs.lemmas.Bool.{cases_order}
use Rattle.std.proofs.Common.{◌≡◌, ◌<◌, ◌++◌, ◌⊎◌, inl, inr, ℕ, Bool, true, false, List, Ok, length, reverse, refl, sym, ◌∙◌, ap, subst}
use Rattle.ar_base.specs.Lists.{Stands, IsOneOf}
use Rattle.ar_base.specs.Sets.{IsBefore, Within}
use Rattle.ar_base.proofs.Standing.{along_on, along_back, along_length}
use Rattle.ar_meaning.specs.Runs.{Label}
use Rattle.ar_firing.specs.Cuts.{AreEvents}
use Rattle.cut_text.specs.Texts.{count_line, label_lists}
use Rattle.gts_flatten.specs.Flat.{naming_of}
use Rattle.run_words.specs.declared.jobs.Asked.{Asked}
use Rattle.run_words.specs.declared.verbs.Verb.{Verb}
use Rattle.run_words.specs.declared.verbs.Verb.TheVariants.{Check, Flat, Replay, Fragment, Equations, Cuts, Make, Explain, CheckCuts, Modules}
use Rattle.run_words.specs.Jobs.{IsAsked}
use Rattle.altarica_run.specs.Follows.{Call, Gave, Wrote}
use Rattle.altarica_run.specs.Listings.{IsCut, IsCutOrder, IsListing}
use Rattle.job_stages.specs.Stages.{Ready, Passes}
use Rattle.job_stages.specs.Tells.{IsCutsText, Tells, check, flat, replay, fragment, equations, cuts, make, explains, unsettled, checks, in_short, conflict, nodes}
use Rattle.job_stages.specs.declared.status.Status.{Status}
use Rattle.job_stages.specs.declared.status.Status.TheVariants as status
use Rattle.altarica_run.proofs.FollowLemmas.{meaning_of}

-- The text of a listing

abbrev is_cuts : Verb → Bool
is_cuts Cuts = true
is_cuts _ = false

other_verb : {A : Type 0} (v u : Verb) → v ≡ u → is_cuts u ≡ false → v ≡ Cuts → A
other_verb v u e i j = let k : false ≡ true = sym i ∙ ap is_cuts (sym e ∙ j) in absurd cc

abbrev pub is_done : Status → Bool
is_done status.Done = true
is_done _ = false

-- a job of `cuts` that ends well has a listing
cuts_text : (asked : Asked) (w : Ready) (text : List ℕ) (s : Status) → asked.job.command ≡ Cuts → s ≡ status.Done
    → Tells asked w text s → IsCutsText w asked.job.nodes text
cuts_text asked w text s j d (check e) = other_verb asked.job.command Check e refl j
cuts_text asked w text s j d (flat e h) = other_verb asked.job.command Flat e refl j
cuts_text asked w text s j d (replay e h) = other_verb asked.job.command Replay e refl j
cuts_text asked w text s j d (fragment e h) = other_verb asked.job.command Fragment e refl j
cuts_text asked w text s j d (equations e i h) = other_verb asked.job.command Equations e refl j
cuts_text asked w text s j d (cuts e h) = h
cuts_text asked w text s j d (make e h) = other_verb asked.job.command Make e refl j
cuts_text asked w text s j d (explains e h) = other_verb asked.job.command Explain e refl j
cuts_text asked w text s j d (unsettled e h) = let k : false ≡ true = ap is_done d in absurd cc
cuts_text asked w text s j d (checks e h) = other_verb asked.job.command CheckCuts e refl j
cuts_text asked w text s j d (in_short e h) = other_verb asked.job.command Modules e refl j
cuts_text asked w text s j d (conflict e h) = let k : false ≡ true = ap is_done d in absurd cc
cuts_text asked w text s j d (nodes e h) = let k : false ≡ true = ap is_done d in absurd cc

-- labels have the events of each set with the same members
pub events_alike : (ls : List Label) (s t : List ℕ) → AreEvents ls s → Within s t → Within t s → AreEvents ls t
events_alike ls s t h there back = record {
  sound = λ k l i. there.each l.event (h.sound k l i);
  whole = λ e o. h.whole e (back.each e o);
  once = h.once;
}

-- and sets of which they have the events have the same members
pub events_within : (ls : List Label) (s t : List ℕ) → AreEvents ls s → AreEvents ls t → Within s t
events_within ls s t h k = record {
  each = λ e o.
      let a = h.whole e o in
      subst (λ (z : ℕ). IsOneOf t z) a.2 (k.sound a.1.place a.0 a.1.stands);
}

-- a set that stands before another one has a member that this has not
pub not_alike : (s t : List ℕ) → IsBefore s t → Within s t → ⊥
not_alike s t h w = h.not_in_second (w.each h.least h.in_first)

pub within_both : (s t u : List ℕ) → Within s t → Within t u → Within s u
within_both s t u h k = record { each = λ e o. k.each e (h.each e o) }

-- The listing of a call

module _ (c : Call) (asked : Asked) (w : Ready) (passes : Passes c.files asked (Ok w)) (text : List ℕ)
    (h : IsCutsText w asked.job.nodes text) where
  abbrev sets : List (List ℕ)
  sets = h.is_text.sets

  abbrev lines : List (List Label)
  lines = h.is_text.lines

  -- the set of a line
  line_set : (k : ℕ) (ls : List Label) → Stands lines k ls
      → (set : List ℕ) × Stands sets k set × AreEvents (reverse ls) set
  line_set k ls s =
      let g = along_back sets lines h.is_text.are_lines k ls s in (g.0, g.1, (h.replay k g.0 ls g.1 s).events)

  is_sound : (k : ℕ) (ls : List Label) → Stands lines k ls → IsCutOrder w h.has ls
  is_sound k ls s =
      let g = along_back sets lines h.is_text.are_lines k ls s in
      record { set = g.0; is_cut = h.is_text.are_listed.sound k g.0 g.1; replay = h.replay k g.0 ls g.1 s }

  is_whole : (set : List ℕ) → IsCut w h.has set
      → (k : ℕ) × (ls : List Label) × Stands lines k ls × AreEvents (reverse ls) set
  is_whole set is =
      let o = h.is_text.are_listed.whole set is in
      let g = along_on sets lines h.is_text.are_lines o.1.place o.0 o.1.stands in (
        o.1.place,
        g.0,
        g.1,
        events_alike (reverse g.0) o.0 set (h.replay o.1.place o.0 g.0 o.1.stands g.1).events o.3
            o.2,
      )

  -- a set with the events of two lines has those of their sets, which are one
  same_sets : (j k : ℕ) (ls ms : List Label) (set : List ℕ) → Stands lines j ls → Stands lines k ms
      → AreEvents (reverse ls) set → AreEvents (reverse ms) set → j < k → ⊥
  same_sets j k ls ms set s r a b less =
      let x = line_set j ls s in
      let y = line_set k ms r in
      not_alike x.0 y.0 (h.is_text.are_listed.in_order j k x.0 y.0 less x.1 y.1)
      (within_both x.0 set y.0 (events_within (reverse ls) x.0 set x.2 a) (events_within (reverse ms) set y.0 b y.2))

  is_once : (j k : ℕ) (ls ms : List Label) (set : List ℕ) → Stands lines j ls → Stands lines k ms
      → AreEvents (reverse ls) set → AreEvents (reverse ms) set → j ≡ k
  is_once j k ls ms set s r a b = go (cases_order j k)
    where
      go : (j ≡ k) ⊎ ((j < k) ⊎ (k < j)) → j ≡ k
      go (inl e) = e
      go (inr (inl less)) = absurd (same_sets j k ls ms set s r a b less)
      go (inr (inr less)) = absurd (same_sets k j ms ls set r s b a less)

  text_is : text ≡ label_lists (naming_of w.source.declarations) w.source.system lines
      ++ count_line w.order (length lines)
  text_is =
      h.is_text.is_text
      ∙ ap (λ (n : ℕ). label_lists (naming_of w.source.declarations) w.source.system lines
      ++ count_line w.order n)
      (along_length sets lines h.is_text.are_lines)

  pub listing : Wrote c text → IsListing c asked
  listing wrote = record {
    ready = w;
    passes = passes;
    has = h.has;
    lines = lines;
    wrote = subst (Wrote c) text_is wrote;
    sound = is_sound;
    whole = is_whole;
    once = is_once;
  }

-- the job of the words is this one
pub listing_of : (c : Call) (asked : Asked)
    → ((a b : Asked) → IsAsked c.words a → IsAsked c.words b → a ≡ b)
    → IsAsked c.words asked → asked.job.command ≡ Cuts → Gave c status.Done → IsListing c asked
listing_of c asked one is e gave =
    let m = meaning_of c status.Done gave in
    let same = one m.asked asked m.is_job is in
    let passes = subst (λ (j : Asked). Passes c.files j (Ok m.ready)) same m.passes in
    let tells = subst (λ (j : Asked). Tells j m.ready m.text status.Done) same m.tells in
    listing c asked m.ready passes m.text (cuts_text asked m.ready m.text status.Done e refl tells) m.wrote
