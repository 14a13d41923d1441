-- What the drawing of a gate table answers.
use Rattle.std.proofs.Common.{◌≡◌, ◌≤◌, ℕ, true, Option, Result, Ok, Err, IfOk, length, refl, sym, subst}
use Rattle.eq_core.specs.Views.{table_of}
use Rattle.gate_diagrams.specs.Answers.{IsAnswerUpTo, store_of}
use Rattle.gate_diagrams.specs.NodeLimits.{NodesMayUpTo}
use Rattle.gate_diagrams.specs.declared.answer.Drawn.{Drawn}
use Rattle.gts_core.specs.declared.system.GtsParts.{GtsParts}
use Rattle.mode_trees.specs.Views.{trees_of}
use Rattle.mode_trees.specs.declared.forests.Forest.{Forest}
use Rattle.run_words.specs.declared.jobs.Asked.{Asked}
use Rattle.table_laws.specs.DrawnLaws.{NodesByNumbersUpTo}
use Rattle.zdd_nodes.specs.declared.NodeFault.{NodeFault}
use Rattle.zdd_nodes.specs.declared.NodeFault.TheVariants.{Full, Memory as NoMemory}
use Rattle.job_stages.specs.Passing.{HasGates, AnswersDrawn}
use Rattle.job_stages.specs.Stages.{Ready, lists_cuts}
use Rattle.job_stages.specs.Tells.{MayNeedMore}
use Rattle.job_stages.specs.declared.tabling.GateTable.{GateTable}
use Rattle.job_stages.proofs.CutLemmas.{may_need}

-- what the drawing of the gate table answers
pub drawn_answers : (asked : Asked) (w : Ready) (p : GtsParts) (f : Forest) (t : GateTable) → HasGates w p f t
    → lists_cuts asked.job.command ≡ true → (order : Option ℕ) → w.order ≡ order → (n : ℕ) → asked.job.nodes ≡ n
    → ((o : Option ℕ) → NodesByNumbersUpTo o) → (r : Result Drawn NodeFault)
    → IfOk r (λ d. IsAnswerUpTo order (trees_of (λ n. n) f) (table_of t.equations) d)
    → IfOk r (λ d. length (store_of d).families ≤ n)
    → (r ≡ Err Full → NodesMayUpTo order (trees_of (λ n. n) f) (table_of t.equations) n)
    → AnswersDrawn asked w p f r
drawn_answers asked w p f t is e order one n same law (Ok d) sets within full = record {
  lists = e;
  table = t;
  gates = is;
  answer = subst (λ (o : Option ℕ). IsAnswerUpTo o (trees_of (λ n. n) f) (table_of t.equations) d) (sym one) sets;
  within = subst (λ (z : ℕ). length (store_of d).families ≤ z) (sym same) within;
}
drawn_answers asked w p f t is e order one n same law (Err Full) sets within full =
    subst (λ (z : ℕ). MayNeedMore w z) (sym same) (may_need w p f t is (law w.order) n
    (subst (λ (o : Option ℕ). NodesMayUpTo o (trees_of (λ n. n) f) (table_of t.equations) n) (sym one) (full refl)))
drawn_answers asked w p f t is e order one n same law (Err NoMemory) sets within full = tt
