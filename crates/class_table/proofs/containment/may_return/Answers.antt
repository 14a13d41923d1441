use Rattle.std.proofs.lemmas.Bool.{eq-eqb}
use Rattle.ar_base.proofs.Truths.{not_both}
use Rattle.class_table.proofs.Ranked.{ranks_same}
use Rattle.class_table.proofs.containment.may_return.Goals as goal

pub returns-in-Some-rank_of : goal.returns-in-Some-rank_of
returns-in-Some-rank_of c = λ e d rows inner are i w. not_both _ e
    (eq-eqb _ _ (ranks_same d rows c.args.ranks.now inner are c.args.body c.args.class c.in-Some.rank c.in-Some-rank_of.other
    c.in-Some.ensures c.in-Some-rank_of.ensures i w))
