use Rattle.std.proofs.Common.{refl}
use Rattle.std.proofs.lemmas.Result.{err_from_is_err_and}
use Rattle.cut_text.specs.declared.faults.PrintFault.TheVariants as print
use Rattle.job_stages.specs.Telling.{nothing}
use Rattle.job_stages.specs.Tells.{Tells, nodes_line}
use Rattle.job_stages.specs.declared.status.Status.TheVariants.{Nodes}
use Rattle.job_stages.proofs.CutLemmas.{nodes_told, printed_partly, printed_whole}
use Rattle.job_stages.proofs.cutting.write_nodes.Goals as goal

pub returns-in_err-put_nodes-in-Full : goal.returns-in_err-put_nodes-in-Full
returns-in_err-put_nodes-in-Full g c = λ asked w same lists full.
    let r = err_from_is_err_and c.from_residual.result c.from_residual.ensures.1 in
    let n = c.args.nodes in
    let t = nodes_told asked w lists n same (full c.in-Full.is) in
    printed_partly (Tells asked w) (nodes_line n) Nodes t print.Write c.in_err-put_nodes-in-Full.ensures _ _ r.1 r.2

pub returns-in_ok-put_nodes-in-Full : goal.returns-in_ok-put_nodes-in-Full
returns-in_ok-put_nodes-in-Full g c = λ asked w same lists full.
    let n = c.args.nodes in
    let t = nodes_told asked w lists n same (full c.in-Full.is) in
    printed_whole (Tells asked w) (nodes_line n) Nodes t _ c.in_ok-put_nodes-in-Full.ensures

pub returns-in-Memory : goal.returns-in-Memory
returns-in-Memory g c = λ asked w same lists full. nothing refl
