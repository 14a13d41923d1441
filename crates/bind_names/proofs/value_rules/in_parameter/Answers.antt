use Rattle.std.proofs.Common.{◌≡◌}
use Rattle.bind_scopes.specs.Naming.{kind_of_parameter}
use Rattle.ar_base.proofs.Truths.{not_read, is_read}
use Rattle.bind_names.proofs.Valued.{not_valued, parameter_scope, parameter_attribute, parameter_of_kind, parameter_earliest}
use Rattle.bind_names.proofs.value_rules.in_parameter.Goals as goal
use Rattle.bind_names.proofs.value_rules.in_parameter.Goals.{in-Some, in-None}

pub returns-then-not-is_read : goal.returns-then-not-is_read
returns-then-not-is_read c = λ m units t are st is. not_valued m c.args.rule t
    (not_read c.is_read.result c.if-not-is_read.true (c.is_read.ensures.valued m units t are st))

pub returns : goal.returns
returns c = λ m units t are st is.
    let v = is_read c.is_read.result c.if-not-is_read.false (c.is_read.ensures.valued m units t are st) in
    let kind : c.match-node.kind ≡ kind_of_parameter c.args.node.now.domain =
    elim c.match-node.branch [
      | in-Some w ↦ rw (w.in-Some.is, w.kind-is) w.kind_of_domain-kind.ensures
      | in-None w ↦ rw w.in-None.is w.kind-is
    ] in
    parameter_earliest m units t c.args.node.now is v c.args.rule c.in_value.result
    (c.in_value.ensures m units t are (parameter_scope m units t c.args.place st)
    (parameter_attribute m units t c.args.node.now is v)
    (parameter_of_kind m units t c.args.node.now is v c.match-node.kind kind))
