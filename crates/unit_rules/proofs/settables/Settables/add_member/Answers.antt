use Rattle.std.proofs.Common.{Option, OnOk, List, ℕ, sym, ◌∙◌, ap, subst}
use Rattle.ar_syntax.specs.declared.members.Member.{out-Member}
use Rattle.class_table.specs.Members.{declared_kind}
use Rattle.unit_rules.specs.declared.settables.Settable.{Settable}
use Rattle.unit_rules.specs.Settables.{AddsSettables}
use Rattle.unit_rules.proofs.Entries.{same_entries, declared_entries}
use Rattle.unit_rules.proofs.settables.Settables.add_member.Goals as goal

pub returns-in-Declare : goal.returns-in-Declare
unfolding out-Member denote.Hole.Carrier.out
returns-in-Declare c = λ d s holds known. rw (c.in-Plain.is, c.in-Declare.is) (
    let kind = rw c.deref.ensures.value at (c.declared-kind.ensures d s holds known) in
    let entries = ap (λ (o : Option Settable). same_entries o c.in-Declare.names.items) kind
    ∙ sym (declared_entries s (declared_kind d s c.in-Declare.type_name.form c.in-Declare.settings.items)
    c.in-Declare.names.items) in
    subst (λ (es : List (ℕ × Settable)). OnOk c.keep_all.result
    (AddsSettables c.args.body.n es c.args.self.now c.keep_all.new.self)) entries
    (rw c.deref-in-Declare.ensures.value at c.keep_all.ensures))
