use Rattle.std.proofs.Common.{◌≡◌, ℕ, [], length, map, sym, ◌∙◌, subst}
use Rattle.std.proofs.lemmas.List.{length-map}
use Rattle.eq_core.specs.Views.{gate_of, operand_of}
use Rattle.aralia_text.specs.Fronts.{IsRead, IsStuck, IsEnd, AreLast, last_of, last_text}
use Rattle.aralia_text.proofs.Results.{stop_is, vec_len-items}
use Rattle.aralia_text.proofs.TableLines.{last_stuck, table_read}
use Rattle.aralia_text.proofs.reading.table.Goals as goal

pub returns-in_err-conflict-clause-stuck : goal.returns-in_err-conflict-clause-stuck
returns-in_err-conflict-clause-stuck c =
    let n : c.len.result ≡ length (map gate_of c.in_ok-gates.gates.items) =
    c.len.ensures ∙ vec_len-items c.in_ok-gates.gates ∙ sym (length-map c.in_ok-gates.gates.items gate_of) in
    stop_is _ c.from_residual-in_err-conflict.result c.in_err-conflict.field-0.0
    c.from_residual-in_err-conflict.ensures.1
    (last_stuck _ _ _ _ c.in_ok-gates.ensures.found c.in_ok-gates.ensures.end _
    (subst (λ (k : ℕ). IsStuck (AreLast k c.args.names.now) (last_text c.args.names.now) IsEnd c.in_ok-gates.left.now
    c.in_err-conflict.field-0.0.left) n c.in_err-conflict.ensures.stuck))

pub returns-clause-found : goal.returns-clause-found
returns-clause-found c =
    let n : c.len.result ≡ length (map gate_of c.in_ok-gates.gates.items) =
    c.len.ensures ∙ vec_len-items c.in_ok-gates.gates ∙ sym (length-map c.in_ok-gates.gates.items gate_of) in
    table_read _ _ _ _ c.in_ok-gates.ensures.found c.in_ok-gates.ensures.end _
    (subst (λ (k : ℕ). IsRead (AreLast k c.args.names.now) (last_text c.args.names.now) IsEnd c.in_ok-gates.left.now
    (last_of (operand_of c.in_ok-conflict.conflict) (operand_of c.in_ok-conflict.top)) []) n
    c.in_ok-conflict.ensures.found)
