-- What the command of the words is given.
use Rattle.std.proofs.Common.{◌≡◌, ◌≤◌, ℕ, Bool, true, false, List, Option, Some, None, Vec, codes, length, refl, ◌∙◌, ap, subst, arith}
use Rattle.std.specs.Global.{Global}
use Rattle.ar_base.specs.Counts.{limit_of}
use Rattle.ar_base.specs.declared.counts.Count.TheVariants.{ModelBytes}
use Rattle.run_words.specs.Commands.{shape_of}
use Rattle.run_words.specs.CommandsInside.{is_second}
use Rattle.run_words.specs.Jobs.{IsAsked, IsAskedOf, IsNodes, IsTaken, NamesFiles, OptionsFit, nodes_by_default}
use Rattle.run_words.specs.Lines.{CommandWords}
use Rattle.run_words.specs.declared.jobs.Asked.{Asked}
use Rattle.run_words.specs.declared.shapes.Form.{Form}
use Rattle.run_words.specs.declared.shapes.Form.TheVariants as form
use Rattle.run_words.specs.declared.shapes.Shape.{Shape}
use Rattle.run_words.specs.declared.verbs.Verb.{Verb}
use Rattle.run_words.specs.declared.verbs.Verb.TheVariants.{Check, Flat, Replay, Fragment, Equations, Cuts, Make, Explain, CheckCuts, Modules}
use Rattle.run_words.proofs.OneJob.{not_taken}
use Rattle.job_stages.specs.Jobs.{makes_model}
use Rattle.job_stages.specs.Passing.{IsThere}
use Rattle.job_stages.specs.Stages.{has_table, path_asked}
use Rattle.job_stages.specs.declared.loading.Texts.{Texts}
use Rattle.job_stages.proofs.FileLemmas.{IsLoadedScript}
use Rattle.altarica_run.specs.Doing.{AreGiven}

-- the limit of nodes of a job
few_usual : (f : Form) → nodes_by_default f ≤ 16777216
few_usual form.Model = omega arith
few_usual form.ModelAndScript = omega arith
few_usual form.ModelAndList = omega arith
few_usual form.Number = omega arith

few_given : (s : Shape) (given : Option (List ℕ)) (n : ℕ) → IsNodes s given n → n ≤ 16777216
few_given s None n e = let few = few_usual s.files in omega (arith, e, few)
few_given s (Some text) n h = h.1.at_most

pub few_nodes : (ws : List (List ℕ)) (asked : Asked) → IsAsked ws asked → asked.job.nodes ≤ 16777216
few_nodes ws asked b = few_given (shape_of asked.job.command) _ asked.job.nodes b.asked_of.job.nodes

-- the second file is there where a command reads one
form_asks : (f : Form) (given : List (List ℕ)) (model : List ℕ) (name : Option (List ℕ)) (n : ℕ)
    (s : Option (Vec ℕ Global)) → NamesFiles f given model name n → IsLoadedScript name s → is_second f ≡ true → IsThere s
form_asks form.Model given model name n s h l e = let k : false ≡ true = e in absurd cc
form_asks form.ModelAndScript given model name n s h l e =
    let b = l.some h.0.0 h.0.2 in record { bytes = b.0; is = b.1; short = l.short b.0 b.1 }
form_asks form.ModelAndList given model name n s h l e =
    let b = l.some h.0.0 h.0.2 in record { bytes = b.0; is = b.1; short = l.short b.0 b.1 }
form_asks form.Number given model name n s h l e = let k : false ≡ true = e in absurd cc

-- and an observer where it asks for the value of one
some_given : (o : Option (List ℕ)) → (o ≡ None → ⊥) → (path : List ℕ) × (o ≡ Some path)
some_given None h = absurd (h refl)
some_given (Some path) h = (path, refl)

command_sees : (v : Verb) (line : CommandWords) → OptionsFit (shape_of v) line → has_table v ≡ true
    → (path : List ℕ) × (path_asked (makes_model v) line.observer ≡ Some path)
command_sees Check line f e = let k : false ≡ true = e in absurd cc
command_sees Flat line f e = let k : false ≡ true = e in absurd cc
command_sees Replay line f e = let k : false ≡ true = e in absurd cc
command_sees Fragment line f e = let k : false ≡ true = e in absurd cc
command_sees Equations line f e = some_given line.observer f.observer
command_sees Cuts line f e = some_given line.observer f.observer
command_sees Make line f e = (codes "lost", refl)
command_sees Explain line f e = let k : false ≡ true = e in absurd cc
command_sees CheckCuts line f e = some_given line.observer f.observer
command_sees Modules line f e = some_given line.observer f.observer

-- what the command of the words is given
line_gives : (line : CommandWords) (asked : Asked) → IsAskedOf line asked → (t : Texts)
    → length t.model.items ≤ limit_of ModelBytes → IsLoadedScript asked.job.script t.script → asked.job.nodes ≤ 16777216
    → AreGiven asked t
line_gives line asked of t short l few = record {
  model = short;
  second = λ e. form_asks (shape_of asked.job.command).files line.files asked.job.model asked.job.script asked.job.number t.script of.job.files l e;
  observer = λ e.
      let seen = command_sees asked.job.command line of.job.options e in (
        seen.0,
        ap (λ (z : Option (List ℕ)). path_asked (makes_model asked.job.command) z) of.job.observer ∙ seen.1,
      );
  dropped = λ e. of.job.dropped ∙ subst (λ (b : Bool). IsTaken b line.dropped) e of.job.options.dropped;
  order = λ e. not_taken (shape_of asked.job.command) line.order asked.order e of.order;
  nodes = few;
}

pub gives : (words : List (List ℕ)) (asked : Asked) → IsAsked words asked → (t : Texts)
    → length t.model.items ≤ limit_of ModelBytes → IsLoadedScript asked.job.script t.script → AreGiven asked t
gives words asked is t short l = line_gives _ asked is.asked_of t short l (few_nodes words asked is)
