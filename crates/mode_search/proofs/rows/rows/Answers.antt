use Rattle.std.proofs.Common.{◌≡◌, ◌<◌, ◌+◌, ◌++◌, ℕ, [], ◌∷◌, true, false, List, Vec, Global, length, take, get_or, set, sym, ap, subst, arith}
use Rattle.ar_base.proofs.Standing.{stands_item}
use Rattle.mode_search.specs.Rows.{AreVariableRows, HaveVariablesBelow}
use Rattle.mode_search.specs.declared.kept.KeptWay.{KeptWay}
use Rattle.mode_search.proofs.Sorting.{puts_hidden, puts_visible, rows_more, rows_all, below_read}
use Rattle.mode_search.proofs.rows.rows.Goals as goal
use Rattle.mode_search.proofs.rows.rows.Goals.{then-way+in_ok-push, else-way}

module _ (count : ℕ) (kept : List KeptWay) (i : ℕ) (d : KeptWay) (old : List (Vec KeptWay Global))
    (l : i < length kept) (are : AreVariableRows count (take i kept) old) where
  -- a visible way goes into the row of its mode variable
  visible : (row new : Vec KeptWay Global) → HaveVariablesBelow count kept → (get_or kept i d).visible ≡ true
      → row ≡ get_or old (get_or kept i d).mode.variable.n row → new.items ≡ row.items ++ get_or kept i d ∷ []
      → AreVariableRows count (take (i + 1) kept) (set old (get_or kept i d).mode.variable.n new)
  visible row new below seen at items = rows_more count kept i d old _ l are
      (puts_visible (get_or kept i d) old row new seen
      (stands_item old (get_or kept i d).mode.variable.n row (below_read count kept i d old l below are.long) at) items)

  -- and no other goes anywhere
  hidden : (get_or kept i d).visible ≡ false → AreVariableRows count (take (i + 1) kept) old
  hidden unseen = rows_more count kept i d old old l are (puts_hidden (get_or kept i d) old unseen)

-- what is read past the end
abbrev past : KeptWay
past = record {
  event = record { n = 0; of = record {} };
  way = record { n = 0; of = record {} };
  visible = false;
  mode = record { variable = record { n = 0; of = record {} }; guard_alone = false; action_alone = false };
}

pub index_mut-requires : goal.index_mut-requires
index_mut-requires c =
    let rows = c.loop-way.rows in
    let below = below_read c.args.count c.args.kept.now c.loop-way.way-index past rows.items c.loop-way-test.true
    c.requires c.loop-way.invariant.long in
    omega (arith, below, rows.ok.0)

pub loop-way-preserved : goal.loop-way-preserved
loop-way-preserved c =
    let kept = c.args.kept.now in
    let i = c.loop-way.way-index in
    let old = c.loop-way.rows.items in
    elim c.if-way.branch [
      | then-way+in_ok-push w ↦
          subst (λ (z : List (Vec KeptWay Global)). AreVariableRows c.args.count (take (i + 1) kept) z)
          (sym (ap (λ (z : Vec (Vec KeptWay Global) Global). z.items) w.rows-is))
          (visible c.args.count kept i _ old c.loop-way-test.true c.loop-way.invariant w.index_mut.result.now
          w.push.new.self c.requires w.if-way.true w.index_mut.ensures.value w.in_ok-push.ensures.items)
      | else-way w ↦
          subst (λ (z : List (Vec KeptWay Global)). AreVariableRows c.args.count (take (i + 1) kept) z)
          (sym (ap (λ (z : Vec (Vec KeptWay Global) Global). z.items) w.rows-is))
          (hidden c.args.count kept i _ old c.loop-way-test.true c.loop-way.invariant w.if-way.false)
    ]

pub returns : goal.returns
returns c = rows_all c.args.count c.args.kept.now c.loop-way.way-index c.loop-way.rows.items c.loop-way-test.false
    c.loop-way.invariant
