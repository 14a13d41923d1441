use Rattle.std.proofs.Common.{◌∙◌, ap}
use Rattle.bind_scopes.specs.Sites.{written_of}
use Rattle.bind_scopes.proofs.Siting.{attribute_written, nothing_written}
use Rattle.bind_scopes.proofs.sites.written.Goals as goal

pub returns-in-Some-clause-value : goal.returns-in-Some-clause-value
returns-in-Some-clause-value c = c.written_in.ensures ∙ ap (written_of c.args.source.setting) c.in-Some.ensures

pub returns-in-None-clause-value : goal.returns-in-None-clause-value
returns-in-None-clause-value c = nothing_written c.args.source.setting _ c.in-None.ensures

pub returns-in-Some-clause-in_force : goal.returns-in-Some-clause-in_force
returns-in-Some-clause-in_force c = λ m units t b table e h.
    let w = attribute_written m c.args.classes.now units t b c.args.source table e h in
    (w.0, w.1, w.2, c.written_in.ensures ∙ (ap (written_of c.args.source.setting) c.in-Some.ensures ∙ w.3))

pub returns-in-None-clause-in_force : goal.returns-in-None-clause-in_force
returns-in-None-clause-in_force c = λ m units t b table e h.
    let w = attribute_written m c.args.classes.now units t b c.args.source table e h in
    (w.0, w.1, w.2, nothing_written c.args.source.setting _ c.in-None.ensures ∙ w.3)
