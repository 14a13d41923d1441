use Rattle.std.proofs.Common.{◌≡◌, [], Some, refl, sym, ◌∙◌, ap}
use Rattle.unit_walks.specs.Forms.{form_at}
use Rattle.unit_walks.specs.declared.forms.UnitForm.TheVariants as form
use Rattle.unit_walks.proofs.Running.{fresh_absent, fresh_inner, fresh_clone, fresh_alias}
use Rattle.class_table.proofs.MemberNames.{none_of}
use Rattle.unit_walks.proofs.TableSteps.{unit_there}
use Rattle.unit_walks.proofs.walking.discover.Goals as goal

pub returns-in_default : goal.returns-in_default
returns-in_default c = λ m u f t p. absurd (unit_there m [] c.args.table.now t c.args.unit u p
    (sym (none_of c.unit.result c.in_default.not-Some) ∙ c.unit.ensures))

pub returns-in-None : goal.returns-in-None
returns-in-None c = λ m u f t p. fresh_absent m c.args.forms.now c.args.table.now c.args.unit u c.in-Some.here
    c.args.name.n f t p c.in-Some.ensures c.in-None.ensures

pub returns-in_ok-number-in-Some-Inner : goal.returns-in_ok-number-in-Some-Inner
returns-in_ok-number-in-Some-Inner c = λ m u f t p.
    let e : Some (form.Inner c.in-Some-Inner.body c.in-Some-Inner.set_at)
    ≡ form_at c.args.forms.now c.in-Some.here.body.n c.args.name.n =
    ap Some (sym c.in-Some-Inner.field-0-is) ∙ c.in-Some-Inner.ensures in
    fresh_inner m c.args.forms.now c.args.table.now c.args.unit u c.in-Some.here c.args.name.n f t p c.in-Some.ensures
    c.enter.new.table (record {
      owner = Some c.args.unit;
      name = c.args.name;
      body = c.in-Some-Inner.body;
      set_at = c.in-Some-Inner.set_at;
    }) c.in_ok-number-in-Some-Inner.number c.args.name c.in-Some-Inner.body
    c.in-Some-Inner.set_at refl e refl c.in_ok-number-in-Some-Inner.ensures

pub returns-in-Some-Clone : goal.returns-in-Some-Clone
returns-in-Some-Clone c = λ m u f t p.
    let e : Some (form.Clone c.in-Some-Clone.path) ≡ form_at c.args.forms.now c.in-Some.here.body.n c.args.name.n =
    ap Some (sym c.in-Some-Clone.field-0-is) ∙ c.in-Some-Clone.ensures in
    c.statement.ensures m u f t p (fresh_clone m c.args.forms.now c.args.table.now c.args.unit u c.in-Some.here
    c.args.name.n f t p c.in-Some.ensures c.in-Some-Clone.path e)

pub returns-in-Some-Alias : goal.returns-in-Some-Alias
returns-in-Some-Alias c = λ m u f t p.
    let e : Some (form.Alias c.in-Some-Alias.path) ≡ form_at c.args.forms.now c.in-Some.here.body.n c.args.name.n =
    ap Some (sym c.in-Some-Alias.field-0-is) ∙ c.in-Some-Alias.ensures in
    c.statement-in-Some-Alias.ensures m u f t p
    (fresh_alias m c.args.forms.now c.args.table.now c.args.unit u c.in-Some.here c.args.name.n f t p
    c.in-Some.ensures c.in-Some-Alias.path e)
