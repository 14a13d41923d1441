use Rattle.std.proofs.Common.{Option, List, sym, ap, ◌∙◌}
use Rattle.ar_base.specs.Numbers.{VarId}
use Rattle.ar_base.specs.NumbersInside.{AssignId}
use Rattle.std.specs.Option.{option_map}
use Rattle.ar_io.proofs.Writing.{writes_as}
use Rattle.gts_flatten.specs.Flat.{naming_of_parts}
use Rattle.flow_reasons.specs.Answers.{numbers_of}
use Rattle.reason_text.specs.Texts.{added_text, why_text}
use Rattle.reason_text.proofs.lines.why.Goals as goal

pub returns-in-Some : goal.returns-in-Some
returns-in-Some g c =
    let names = naming_of_parts c.args.parts.now in
    let r = c.args.reason.now in
    writes_as _ _
    (ap (λ (z : List VarId). added_text names c.in-Some.by.n r.round (numbers_of z)) c.deref.ensures.value
    ∙ ap (λ (z : Option AssignId). why_text names (option_map (λ (a : AssignId). a.n) z) r.round
    (numbers_of r.rests_on.items)) (sym c.in-Some.is))
    c.added.ensures
