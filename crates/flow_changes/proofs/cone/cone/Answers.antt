use Rattle.std.proofs.Common.{false, List, ℕ, true, subst}
use Rattle.ar_base.specs.Lists.{IsOneOf}
use Rattle.ar_base.proofs.Standing.{stands_within}
use Rattle.flow_changes.specs.Picking.{AreSet}
use Rattle.flow_changes.proofs.Seeing.{cone_of, marks_back}
use Rattle.flow_changes.proofs.Sorting.{kept_ascends, kept_there, kept_back}
use Rattle.flow_changes.proofs.cone.cone.Goals as goal

pub set_all-requires : goal.set_all-requires
set_all-requires c = λ n o. stands_within c.gather-all.new.marks.items n true
    ((c.gather-all.ensures.marking.each n).0 (subst (λ (z : List ℕ). IsOneOf z n) c.deref.ensures.value o))

pub returns-in_err-all-clause-unset : goal.returns-in_err-all-clause-unset
returns-in_err-all-clause-unset c =
    let e = c.gather-all.ensures in
    let s = subst (λ (z : List ℕ). AreSet false z c.gather-all.new.marks.items c.set_all.new.marks.items)
    c.deref.ensures.value c.set_all.ensures in
    marks_back c.args.marks.now.items c.gather-all.new.marks.items c.set_all.new.marks.items
    c.gather-all.new.found.items e.long c.requires.unset e.marking s

pub returns-clause-unset : goal.returns-clause-unset
returns-clause-unset c =
    let e = c.gather-all.ensures in
    let s = subst (λ (z : List ℕ). AreSet false z c.gather-all.new.marks.items c.set_all.new.marks.items)
    c.deref.ensures.value c.set_all.ensures in
    marks_back c.args.marks.now.items c.gather-all.new.marks.items c.set_all.new.marks.items
    c.gather-all.new.found.items e.long c.requires.unset e.marking s

pub returns-clause-cone : goal.returns-clause-cone
returns-clause-cone c =
    let found = c.gather-all.new.found.items in
    let sorted = c.sort_unstable.new.self.items in
    let kept = c.dedup.new.self.items in
    let perm = c.sort_unstable.ensures.permutation in
    let order = c.sort_unstable.ensures.sorted in
    let filtered = c.dedup.ensures.filtered in
    cone_of c.args.parts.now c.args.new.now found kept c.in_ok-all.ensures.reached
    (kept_there found sorted kept perm order filtered) (kept_back found sorted kept perm order filtered)
    (kept_ascends found sorted kept perm order filtered)
