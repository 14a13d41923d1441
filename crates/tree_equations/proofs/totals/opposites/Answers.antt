use Rattle.std.proofs.Common.{◌≡◌, ◌<◌, ◌+◌, ℕ, List, [], ◌∷◌, ◌++◌, map, length, take, get_or, sym, ap, ◌∙◌}
use Rattle.std.proofs.lemmas.List.{map-append, get_or_default}
use Rattle.ar_base.proofs.Items.{take_item}
use Rattle.eq_core.specs.Gates as g
use Rattle.eq_core.specs.Views.{operand_of}
use Rattle.eq_core.specs.declared.joints.Operand as sign
use Rattle.eq_build.specs.Entries as e
use Rattle.eq_build.specs.Views.{operands_in, entry_of, entries_in}
use Rattle.eq_build.specs.declared.entries.Entry.{Entry}
use Rattle.eq_build.specs.Steps.{opposites}
use Rattle.tree_equations.proofs.totals.opposites.Goals as goal
use Rattle.tree_equations.proofs.totals.opposites.Goals.{in-Always, in-Never, in-Event, in-Gate}

abbrev by : sign.Operand → g.Operand
by z = g.opposite (operand_of z)

-- one more entry, whose operand's opposite is the last
more : (row : List Entry) (i : ℕ) (d : Entry) (old new : List sign.Operand) (one : sign.Operand) → i < length row
    → operand_of one ≡ by (get_or row i d).operand → new ≡ old ++ one ∷ []
    → operands_in old ≡ opposites (entries_in (take i row))
    → operands_in new ≡ opposites (entries_in (take (i + 1) row))
more row i d old new one l other pushed before =
    let x = get_or row i d in
    let back : e.Entry → g.Operand = λ z. g.opposite z.operand in
    ap operands_in pushed ∙ map-append operand_of old (one ∷ [])
    ∙ ap (λ (z : List g.Operand). z ++ operand_of one ∷ []) before
    ∙ ap (λ (z : g.Operand). opposites (entries_in (take i row)) ++ z ∷ []) other
    ∙ sym (map-append back (entries_in (take i row)) (entry_of x ∷ []))
    ∙ ap (map back) (sym (map-append entry_of (take i row) (x ∷ [])))
    ∙ ap (λ (z : List Entry). opposites (entries_in z)) (sym (take_item row i x l (get_or_default row i d x l)))

pub loop-entry-preserved : goal.loop-entry-preserved
loop-entry-preserved c =
    let row = c.args.row.now in
    let i = c.loop-entry.entry-index in
    let old = c.loop-entry.operands.items in
    let new = c.push.new.self.items in
    let one = c.match-entry.opposite in
    let l = c.loop-entry-test.true in
    let pushed = c.in_ok-push.ensures.items in
    let before = c.loop-entry.invariant in
    elim c.match-entry.branch [
      | in-Always w ↦ more row i _ old new one l (ap operand_of w.opposite-is ∙ ap by (sym w.in-Always.is)) pushed before
      | in-Never w ↦ more row i _ old new one l (ap operand_of w.opposite-is ∙ ap by (sym w.in-Never.is)) pushed before
      | in-Event w ↦ more row i _ old new one l (ap operand_of w.opposite-is ∙ ap by (sym w.in-Event.is)) pushed before
      | in-Gate w ↦ more row i _ old new one l (ap operand_of w.opposite-is ∙ ap by (sym w.in-Gate.is)) pushed before
    ]
