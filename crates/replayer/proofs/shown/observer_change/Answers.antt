use Rattle.std.proofs.Common.{◌≡◌, ◌∙◌, Bool, true, false, if◌then◌else◌, [], ap, sym, rules}
use Rattle.ar_io.proofs.Writing.{writes_as}
use Rattle.ar_meaning.specs.TraceText.{observer_line}
use Rattle.domains.specs.Same.{is_same}
use Rattle.gts_flatten.specs.Flat.{naming_of_parts}
use Rattle.replayer.specs.Printing.{observer_value}
use Rattle.replayer.proofs.shown.observer_change.Goals as goal

pub returns-then-eq : goal.returns-then-eq
returns-then-eq g c =
    let one = observer_line (naming_of_parts c.args.parts.now) in
    let old = observer_value c.args.parts.now c.args.old.now c.args.n in
    let new = observer_value c.args.parts.now c.args.new.now c.args.n in
    let same : is_same c.observer_value-was.result c.observer_value-is.result ≡ true = search rules in
    let e : is_same old new ≡ true = sym
    (ap (λ v. is_same v c.observer_value-is.result) c.observer_value-was.ensures
    ∙ ap (λ v. is_same old v) c.observer_value-is.ensures) ∙ same in
    writes_as _ _ (sym (ap (λ (b : Bool). if b then [] else one c.args.n new) e)) c.write_text.ensures

pub returns-else-eq : goal.returns-else-eq
returns-else-eq g c =
    let one = observer_line (naming_of_parts c.args.parts.now) in
    let old = observer_value c.args.parts.now c.args.old.now c.args.n in
    let new = observer_value c.args.parts.now c.args.new.now c.args.n in
    let same : is_same c.observer_value-was.result c.observer_value-is.result ≡ false = search rules in
    let e : is_same old new ≡ false = sym
    (ap (λ v. is_same v c.observer_value-is.result) c.observer_value-was.ensures
    ∙ ap (λ v. is_same old v) c.observer_value-is.ensures) ∙ same in
    writes_as _ _ (ap (λ v. one c.args.n v) c.observer_value-is.ensures
    ∙ sym (ap (λ (b : Bool). if b then [] else one c.args.n new) e)) c.observer_line.ensures
