use Rattle.std.proofs.Common.{ℕ, List, ◌∷◌, [], subst, sym}
use Rattle.std.proofs.lemmas.Result.{on_ok_weaker}
use Rattle.ar_base.specs.Lists.{IsOneOf}
use Rattle.ar_base.proofs.Standing.{stands_one}
use Rattle.class_table.proofs.Ordered.{Row}
use Rattle.class_table.proofs.Taken.{item_stands}
use Rattle.class_table.proofs.Ranked.{pending_done, no_sources}
use Rattle.class_table.proofs.ranks.mark_sources.Goals as goal

pub returns-in-Some-clause-ranks : goal.returns-in-Some-clause-ranks
returns-in-Some-clause-ranks c = λ rows t h.
    let s = item_stands c.args.sources.now c.args.number c.in-Some.row.now c.in-Some.ensures.lookup.3.0 c.in-Some.ensures.lookup.1 in
    on_ok_weaker _ (λ k. pending_done rows c.args.rank _ c.args.sources.now t _ c.args.number k.0
    (λ a r. k.1 a (subst (λ (xs : List ℕ). IsOneOf xs a) (sym c.deref.ensures.value)
    (subst (λ (q : Row). IsOneOf q.items a) (stands_one c.args.sources.now c.args.number r.row c.in-Some.row.now r.stands s) r.is_one))))
    (c.mark_all.ensures.ranks rows (c.args.number ∷ []) h)

pub returns-in-None-clause-ranks : goal.returns-in-None-clause-ranks
returns-in-None-clause-ranks c = λ rows t h. no_sources rows c.args.rank _ c.args.sources.now t _ c.args.number h
    c.in-None.ensures.lookup.3
