use Rattle.std.proofs.Common.{◌≡◌, min, take}
use Rattle.gts_flatten.specs.Sizes.{nodes_in}
use Rattle.gts_flatten.specs.SizesInside.{term_nodes_in, case_nodes_in}
use Rattle.gts_flatten.proofs.sizes.+nodes.Given as goal

abbrev pub invariant-all_nodes-loop-e : goal.invariant-all_nodes-loop-e
invariant-all_nodes-loop-e l = l.total ≡ min 1000001 (nodes_in (take l.e-index l.es))

abbrev pub invariant-term_nodes-loop-e : goal.invariant-term_nodes-loop-e
invariant-term_nodes-loop-e l = l.total ≡ min 1000001 (term_nodes_in (take l.e-index l.terms))

abbrev pub invariant-case_nodes-loop-test : goal.invariant-case_nodes-loop-test
invariant-case_nodes-loop-test l = l.total ≡ min 1000001 (case_nodes_in (take l.test-index l.cases))
