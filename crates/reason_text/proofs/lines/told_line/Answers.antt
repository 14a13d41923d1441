use Rattle.std.proofs.Common.{List, ℕ, Bool, [], if◌then◌else◌, sym, ap, ◌∙◌}
use Rattle.ar_io.proofs.Writing.{writes_as}
use Rattle.gts_flatten.specs.Flat.{naming_of_parts}
use Rattle.flow_reasons.specs.Answers.{reason_of}
use Rattle.reason_text.specs.Texts.{reason_line}
use Rattle.reason_text.proofs.lines.told_line.Goals as goal

pub returns-then-is_told : goal.returns-then-is_told
returns-then-is_told g c =
    writes_as _ _ (ap (λ (b : Bool). (let t : List ℕ = if b then reason_line (naming_of_parts c.args.parts.now) (reason_of c.args.reason.now) else [] in t))
    (sym c.if-is_told.true ∙ c.is_told.ensures)) c.reason_line.ensures
