use Rattle.std.proofs.Common.{◌≡◌, sym, ◌∙◌, ap, arith}
use Rattle.ar_syntax.specs.declared.members.Member.{out-Member}
use Rattle.unit_rules.specs.Counting.{capped}
use Rattle.unit_rules.proofs.Names.{variables_all, variables_none}
use Rattle.unit_rules.proofs.members.variables_of.Goals as goal

pub returns-then-is_domain : goal.returns-then-is_domain
unfolding out-Member denote.Hole.Carrier.out
returns-then-is_domain c = λ d s a known. rw c.in-Declare.is (
    let e = variables_all d s c.in-Declare.field-2.items c.in-Declare.names.items c.in-Declare.type_name.form
    (sym (c.is_domain.ensures d a known) ∙ c.if-is_domain.true) in
    let n : c.len.result ≡ capped c.len.result = omega arith in
    n ∙ ap capped (c.len.ensures ∙ (c.in-Declare.names.ok.0 ∙ sym e)))

pub returns-else-is_domain : goal.returns-else-is_domain
unfolding out-Member denote.Hole.Carrier.out
returns-else-is_domain c = λ d s a known. rw c.in-Declare.is (
    ap capped (sym (variables_none d s c.in-Declare.field-2.items c.in-Declare.names.items c.in-Declare.type_name.form
    (sym (c.is_domain.ensures d a known) ∙ c.if-is_domain.false))))
