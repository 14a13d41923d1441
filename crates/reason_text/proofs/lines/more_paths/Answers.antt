use Rattle.std.proofs.Common.{List, ℕ, get_or, false, codes}
use Rattle.ar_base.specs.Numbers.{VarId}
use Rattle.ar_base.specs.Texts.{separated}
use Rattle.ar_io.proofs.Writing.{writes_exit, writes_on, writes_front, writes_as, leaves_all, leaves_on, leaves_front, leaves_none, next_read, no_item}
use Rattle.gts_flatten.specs.Flat.{naming_of_parts}
use Rattle.gts_core.specs.declared.system.GtsParts.{GtsParts}
use Rattle.flow_reasons.specs.Answers.{numbers_of}
use Rattle.reason_text.specs.Texts.{path_of, paths_of}
use Rattle.reason_text.proofs.Pieces.{next_pieces}
use Rattle.reason_text.proofs.lines.more_paths.Goals as goal

-- what is read past the end
abbrev no_variable : VarId
no_variable = record { n = 0; of = record {} }

abbrev rest : GtsParts → List VarId → List ℕ
rest p xs = separated false (codes ", ") (paths_of (naming_of_parts p) (numbers_of xs))

pub loop-variable-init : goal.loop-variable-init
loop-variable-init g c = leaves_all _ _

pub returns-in_err-write_text : goal.returns-in_err-write_text
returns-in_err-write_text g c =
    writes_exit _ _ c.from_residual.ensures.1
    (leaves_front _ _ c.loop-variable.invariant (writes_front _
    (path_of (naming_of_parts c.args.parts.now) (get_or c.args.variables.now c.loop-variable.variable-index no_variable).n)
    c.in_err-write_text.ensures)
    (next_read (rest c.args.parts.now) c.args.variables.now c.loop-variable.variable-index no_variable
    c.loop-variable-test.true))

pub returns-in_err-write_text-2 : goal.returns-in_err-write_text-2
returns-in_err-write_text-2 g c =
    writes_exit _ _ c.from_residual-in_err-write_text-2.ensures.1
    (leaves_front _ _ c.loop-variable.invariant (writes_as _ _ (next_pieces (naming_of_parts c.args.parts.now) _ c.variable_path.result.now
    c.variable_path.ensures)
    (writes_on c.in_ok-write_text.ensures c.in_err-write_text-2.ensures))
    (next_read (rest c.args.parts.now) c.args.variables.now c.loop-variable.variable-index _
    c.loop-variable-test.true))

pub loop-variable-preserved : goal.loop-variable-preserved
loop-variable-preserved g c =
    leaves_on _ _ c.loop-variable.invariant (writes_as _ _ (next_pieces (naming_of_parts c.args.parts.now) _ c.variable_path.result.now
    c.variable_path.ensures)
    (writes_on c.in_ok-write_text.ensures c.in_ok-write_text-2.ensures))
    (next_read (rest c.args.parts.now) c.args.variables.now c.loop-variable.variable-index _
    c.loop-variable-test.true)

pub returns : goal.returns
returns g c = leaves_none _ c.loop-variable.invariant
    (no_item (rest c.args.parts.now) c.args.variables.now c.loop-variable.variable-index c.loop-variable-test.false)
