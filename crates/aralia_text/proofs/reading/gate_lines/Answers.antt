use Rattle.std.proofs.Common.{◌≡◌, ◌∷◌, ◌++◌, [], ℕ, List, length, map, sym, ap, ◌∙◌, subst}
use Rattle.std.proofs.lemmas.List.{map-append, length-map}
use Rattle.eq_core.specs.Views.{gate_of}
use Rattle.eq_core.specs.Gates as g
use Rattle.eq_core.specs.declared.joints.Gate.{Gate}
use Rattle.aralia_text.specs.Texts.{gate_line}
use Rattle.aralia_text.specs.Fronts.{AreRead, IsAny, IsGateAt, IsRead, IsStuck, HasOperand, IsNoTable}
use Rattle.aralia_text.proofs.Results.{vec_len-items, err_is, stuck_same}
use Rattle.aralia_text.proofs.TableLines.{none_read, no_operand, gate_stuck, gate_read}
use Rattle.aralia_text.proofs.reading.gate_lines.Goals as goal

pub loop-alloc-init : goal.loop-alloc-init
loop-alloc-init c =
    subst (λ (z : List Gate). AreRead c.args.names.now c.args.text.now (map gate_of z) c.args.text.now)
    (sym c.new-gates.ensures.items) (none_read c.args.names.now c.args.text.now)

pub returns-then-not-has_operand-clause-stuck : goal.returns-then-not-has_operand-clause-stuck
returns-then-not-has_operand-clause-stuck c =
    let n : c.len.result ≡ length (map gate_of c.loop-alloc.gates.items) =
    c.len.ensures ∙ vec_len-items c.loop-alloc.gates ∙ sym (length-map c.loop-alloc.gates.items gate_of) in
    stuck_same (λ stuck. IsNoTable c.args.names.now c.args.text.now stuck.left) _
    (no_operand _ _ _ _ c.loop-alloc.invariant (sym c.begins_with.ensures ∙ c.loop-alloc-test.true)
    (λ some. c.has_operand.ensures.no c.if-not-has_operand.true
    (subst (λ (k : ℕ). HasOperand k c.args.names.now) (sym n) some)))

pub returns-in_err-one-clause-stuck : goal.returns-in_err-one-clause-stuck
returns-in_err-one-clause-stuck c =
    let n : c.len-in-loop-alloc.result ≡ length (map gate_of c.loop-alloc.gates.items) =
    c.len-in-loop-alloc.ensures ∙ vec_len-items c.loop-alloc.gates
    ∙ sym (length-map c.loop-alloc.gates.items gate_of) in
    err_is _ c.from_residual.result c.in_err-one.field-0.0 c.from_residual.ensures.1
    (λ stuck e.
    gate_stuck _ _ _ _ c.loop-alloc.invariant (sym c.begins_with.ensures ∙ c.loop-alloc-test.true) stuck.left
    (subst (λ (k : ℕ). IsStuck (IsGateAt k c.args.names.now) (gate_line c.args.names.now k) IsAny c.loop-alloc.left.now
    stuck.left) n (c.in_err-one.ensures.stuck stuck e)))

pub loop-alloc-preserved : goal.loop-alloc-preserved
loop-alloc-preserved c =
    let n : c.len-in-loop-alloc.result ≡ length (map gate_of c.loop-alloc.gates.items) =
    c.len-in-loop-alloc.ensures ∙ vec_len-items c.loop-alloc.gates
    ∙ sym (length-map c.loop-alloc.gates.items gate_of) in
    let items : map gate_of c.push.new.self.items
    ≡ map gate_of c.loop-alloc.gates.items ++ gate_of c.in_ok-one.one ∷ [] =
    ap (λ (z : List Gate). map gate_of z) c.in_ok-push.ensures.items
    ∙ map-append gate_of c.loop-alloc.gates.items (c.in_ok-one.one ∷ []) in
    subst (λ (z : List g.Gate). AreRead c.args.names.now c.args.text.now z c.in_ok-one.behind.now) (sym items)
    (gate_read _ _ _ _ c.loop-alloc.invariant (sym c.begins_with.ensures ∙ c.loop-alloc-test.true) _ _
    (subst (λ (k : ℕ). IsRead (IsGateAt k c.args.names.now) (gate_line c.args.names.now k) IsAny c.loop-alloc.left.now
    (gate_of c.in_ok-one.one) c.in_ok-one.behind.now) n c.in_ok-one.ensures.found))
