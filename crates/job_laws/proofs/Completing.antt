-- A call whose job has one answer tells its refusal, or its whole listing.
use Rattle.std.proofs.Common.{◌≡◌, ◌⊎◌, zero, Result, Ok, Err, inl, inr, refl, ap, subst}
use Rattle.ar_firing.specs.Cuts.{ConflictSet, IsConflictFreeUpTo, MeetsConflict}
use Rattle.cut_text.proofs.UpToOrder.{has_other}
use Rattle.altarica_run.proofs.NodeLemmas.{free_met}
use Rattle.run_words.specs.declared.jobs.Asked.{Asked}
use Rattle.run_words.specs.declared.verbs.Verb.TheVariants.{Cuts}
use Rattle.run_words.specs.Jobs.{IsAsked}
use Rattle.altarica_run.specs.Follows.{Call, Gave, IsQuiet}
use Rattle.altarica_run.specs.Listings.{IsListing}
use Rattle.job_stages.specs.Stages.{Ready, Passes, lists_cuts}
use Rattle.altarica_run.specs.Statuses.{IsWholeTold, IsRefused}
use Rattle.job_stages.specs.Tells.{MayNeedMore, Tells}
use Rattle.job_stages.specs.declared.refusals.Refusal.{Refusal}
use Rattle.job_stages.specs.declared.status.Status.{Status}
use Rattle.job_stages.specs.declared.status.Status.TheVariants as status
use Rattle.altarica_run.proofs.FollowLemmas.{meaning_of}
use Rattle.job_laws.specs.Ready.{SameReady}
use Rattle.job_laws.specs.Listings.{IsListingOf}
use Rattle.source_laws.specs.Answers.{SameAnswer}
use Rattle.job_laws.proofs.Enough.{nodes_line_told}
use Rattle.job_laws.proofs.Findings.{conflict_text}

module _ (c : Call) (asked : Asked) (one : (a b : Asked) → IsAsked c.words a → IsAsked c.words b → a ≡ b)
    (is : IsAsked c.words asked)
    (alike : (a b : Result Ready Refusal) → Passes c.files asked a → Passes c.files asked b
    → SameAnswer SameReady a b) where
  -- a refusal is the only answer
  pub refused_alone : (r : Refusal) → Passes c.files asked (Err r) → (x : Result Ready Refusal) → Passes c.files asked x
      → x ≡ Err r
  refused_alone r p (Ok w) h = absurd (alike (Ok w) (Err r) h p)
  refused_alone r p (Err q) h = ap Err (alike (Err q) (Err r) h p)

  at_job : (j : Asked) → IsAsked c.words j → (a : Result Ready Refusal) → Passes c.files j a → Passes c.files asked a
  at_job j i a h = subst (λ (z : Asked). Passes c.files z a) (one j asked i is) h

  module _ (sought : asked.job.command ≡ Cuts) (w : Ready) (p : Passes c.files asked (Ok w))
      (free : (v : Ready) → SameReady w v → IsConflictFreeUpTo v.order v.source.system v.dropped)
      (enough : (v : Ready) → SameReady w v → MayNeedMore v asked.job.nodes → ⊥)
      (listing : Gave c status.Done → IsListing c asked) (quiet : IsQuiet c) where
    told_same : (s : Status) → (m : IsWholeTold c s) → SameReady w m.ready
    told_same s m = alike (Ok w) (Ok m.ready) p (at_job m.asked m.is_job (Ok m.ready) m.passes)

    tells_at : (s : Status) → (m : IsWholeTold c s) → Tells asked m.ready m.text s
    tells_at s m = subst (λ (z : Asked). Tells z m.ready m.text s) (one m.asked asked m.is_job is) m.tells

    never : (s : Status) → IsRefused c s → ⊥
    never s m = alike (Err m.refusal) (Ok w) (at_job m.asked m.is_job (Err m.refusal) m.stage) p

    no_fault : IsWholeTold c status.Fault → ⊥
    no_fault m =
        let h = conflict_text asked m.ready (ap lists_cuts sought) m.text status.Fault refl (tells_at status.Fault m) in
        free_met m.ready (free m.ready (told_same status.Fault m)) h.set
        (has_other m.ready.order (ConflictSet m.ready.source.system m.ready.dropped)
        (MeetsConflict m.ready.source.system m.ready.dropped) (λ t k. k.has) h.set (h.are_listed.sound zero h.set refl))

    no_nodes : IsWholeTold c status.Nodes → ⊥
    no_nodes m =
        enough m.ready (told_same status.Nodes m)
        (nodes_line_told asked m.ready m.text status.Nodes refl (tells_at status.Nodes m)).needs

    done : Gave c status.Done → IsListingOf c asked w
    done g = let l = listing g in record { listing = l; same = alike (Ok w) (Ok l.ready) p l.passes }

    pub listed_whole : (s : Status) → Gave c s → ((s ≡ status.Done) × IsListingOf c asked w) ⊎ (s ≡ status.Memory)
    listed_whole status.Done g = inl (refl, done g)
    listed_whole status.Usage g = absurd ((meaning_of c status.Usage g).0 asked is)
    listed_whole status.Syntax g = absurd (never status.Syntax (meaning_of c status.Syntax g))
    listed_whole status.Rule g = absurd (never status.Rule (meaning_of c status.Rule g))
    listed_whole status.Outside g = absurd (never status.Outside (meaning_of c status.Outside g))
    listed_whole status.Fault g = absurd (no_fault (meaning_of c status.Fault g))
    listed_whole status.Nodes g = absurd (no_nodes (meaning_of c status.Nodes g))
    listed_whole status.Read g =
        let m = meaning_of c status.Read g in absurd (quiet.read m.name m.rose)
    listed_whole status.Write g = absurd (quiet.written (meaning_of c status.Write g))
    listed_whole status.Memory g = inr refl
    listed_whole status.Size g = absurd (never status.Size (meaning_of c status.Size g))
    listed_whole status.Script g = absurd (never status.Script (meaning_of c status.Script g))
