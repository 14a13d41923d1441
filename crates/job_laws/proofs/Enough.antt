-- A job that tells of cuts with nodes enough; and one of which the line `nodes: N` is told.
use Rattle.std.proofs.Common.{◌≡◌, ◌⊎◌, ℕ, List, Result, Ok, Err, inl, inr, true, refl, subst}
use Rattle.ar_io.specs.Outside.{Told}
use Rattle.replayer.specs.declared.ends.End.{End}
use Rattle.replayer.specs.declared.ends.End.TheVariants as end
use Rattle.run_words.specs.declared.jobs.Asked.{Asked}
use Rattle.run_words.specs.Jobs.{IsAsked}
use Rattle.altarica_run.specs.Follows.{Call}
use Rattle.altarica_run.specs.Says.{Says, usage, refuses, tells}
use Rattle.job_stages.specs.Stages.{Ready, Passes, lists_cuts}
use Rattle.job_stages.specs.Tells.{MayNeedMore, Tells, nodes_line, status_at, check, flat, replay, fragment, equations, cuts, make, checks, in_short, explains, unsettled, conflict, nodes}
use Rattle.job_stages.specs.declared.refusals.Refusal.{Refusal}
use Rattle.job_stages.specs.declared.status.Status.{Status}
use Rattle.job_stages.specs.declared.status.Status.TheVariants as status
use Rattle.source_laws.specs.Answers.{SameAnswer}
use Rattle.job_laws.specs.Ready.{SameReady}
use Rattle.job_laws.specs.Told.{IsStopped, IsAnswered, IsToldWith}
use Rattle.job_laws.proofs.Answering.{TellsBack}

-- each text that is told ends so and has P; so one was written, or the call was stopped
module _ (c : Call) (asked : Asked) (w : Ready) (s ends : Status) (P : List ℕ → Type 0)
    (all : (text : List ℕ) → Tells asked w text s → (s ≡ ends) × P text) where
  pub told_with : IsAnswered c asked w s ⊎ IsStopped c s → IsToldWith c s ends P ⊎ IsStopped c s
  told_with (inl a) = let h = all a.text a.tells in inl (h.0, (a.text, h.1, a.wrote))
  told_with (inr h) = inr h

-- The line `nodes: N`

not_nodes : (e : End) → status_at e ≡ status.Nodes → ⊥
not_nodes end.Done e = cc
not_nodes end.Fault e = cc

-- the job tells of cuts, the text is the line of its limit, and more nodes than this may be needed
pub record IsNodesLine (asked : Asked) (w : Ready) (text : List ℕ) : Type 0 where
  pub lists : lists_cuts asked.job.command ≡ true
  pub is_text : text ≡ nodes_line asked.job.nodes
  pub needs : MayNeedMore w asked.job.nodes

-- a text that ends with Nodes is this line
pub nodes_line_told : (asked : Asked) (w : Ready) (text : List ℕ) (s : Status) → s ≡ status.Nodes → Tells asked w text s
    → IsNodesLine asked w text
nodes_line_told asked w text s e (check i) = absurd cc
nodes_line_told asked w text s e (flat i h) = absurd cc
nodes_line_told asked w text s e (replay {ends = last} i h) = absurd (not_nodes last e)
nodes_line_told asked w text s e (fragment i h) = absurd cc
nodes_line_told asked w text s e (equations i q h) = absurd cc
nodes_line_told asked w text s e (cuts i h) = absurd cc
nodes_line_told asked w text s e (make i h) = absurd cc
nodes_line_told asked w text s e (checks i h) = absurd cc
nodes_line_told asked w text s e (in_short i h) = absurd cc
nodes_line_told asked w text s e (explains i h) = absurd cc
nodes_line_told asked w text s e (unsettled i h) = absurd cc
nodes_line_told asked w text s e (conflict i h) = absurd cc
nodes_line_told asked w text s e (nodes i h) = record { lists = i; is_text = refl; needs = h }

module _ (files : List ℕ → Told) (words : List (List ℕ))
    (one : (a b : Asked) → IsAsked words a → IsAsked words b → a ≡ b) (asked : Asked) (is : IsAsked words asked)
    (alike : (a b : Result Ready Refusal) → Passes files asked a → Passes files asked b → SameAnswer SameReady a b)
    (w : Ready) (p : Passes files asked (Ok w)) (back : TellsBack) where
  here : (j : Asked) → IsAsked words j → (a : Result Ready Refusal) → Passes files j a → Passes files asked a
  here j i a h = subst (λ (z : Asked). Passes files z a) (one j asked i is) h

  -- what the words say that ends so is this line
  nodes_said : (text : List ℕ) (s : Status) → s ≡ status.Nodes → Says files words text s → IsNodesLine asked w text
  nodes_said text s e (usage never) = absurd (never asked is)
  nodes_said text s e (refuses j r i q) = absurd (alike (Ok w) (Err r) p (here j i (Err r) q))
  nodes_said text s e (tells j v i q t) =
      let same : SameReady w v = alike (Ok w) (Ok v) p (here j i (Ok v) q) in
      nodes_line_told asked w text s e
      (back w v same asked text s (subst (λ (z : Asked). Tells z v text s) (one j asked i is) t))

  pub nodes_of : (text : List ℕ) → Says files words text status.Nodes
      → (lists_cuts asked.job.command ≡ true) × (text ≡ nodes_line asked.job.nodes) × MayNeedMore w asked.job.nodes
  nodes_of text h = let n = nodes_said text status.Nodes refl h in (n.lists, n.is_text, n.needs)
