use Rattle.ar_firing.specs.Cuts.{Cut}
use Rattle.ar_firing.proofs.Cutting.{calm_within}
use Rattle.ar_firing.proofs.MakingLines.{line_within}
use Rattle.ar_firing.proofs.SmallSets.{free_within}
use Rattle.ar_firing.proofs.OrderedSets.{undropped}
use Rattle.cut_text.proofs.UpToOrder.{has_it, is_small}
use Rattle.cut_text.proofs.laws.lines_replay.Goals as goal

pub returns : goal.returns
returns g c = λ sys dropped both observer wanted conflict top agrees order free sets listed set o ls is.
    let cut = listed.sound o.place set o.stands in
    let m = (has_it order (Cut sys dropped observer wanted) set cut).has in
    let small = is_small order (Cut sys dropped observer wanted) set cut in
    let r = line_within sys dropped both.keyed both.static observer wanted conflict top agrees
    (calm_within sys dropped both.keyed both.static observer wanted conflict top agrees set
    (free_within order sys dropped free set small)) m is in
    (r.0, r.1, undropped sys dropped r.1, r.2)
