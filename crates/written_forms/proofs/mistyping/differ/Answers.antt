use Rattle.written_forms.proofs.TwoKinds.{two_by}
use Rattle.written_forms.proofs.mistyping.differ.Goals as goal

pub returns-in-Some-Some : goal.returns-in-Some-Some
returns-in-Some-Some c = two_by c.args.kind c.args.want c.in-Some-Some.one c.in-Some-Some.other c.is_same.result
    c.in-Some-Some.is-0 c.in-Some-Some.is-1 c.is_same.ensures
