-- Each use adds the class that it uses.
use Rattle.std.proofs.Common.{◌≡◌, ℕ, ◌+◌, ◌<◌, ◌↔◌, ◌⊎◌, inl, inr, List, [], ◌∷◌, ◌++◌, take, length, get_or, set, refl, sym, ap, ◌∙◌, subst, arith}
use Rattle.std.proofs.lemmas.Bool.{cases_eq}
use Rattle.std.proofs.lemmas.List.{length-set, take_all}
use Rattle.std.proofs.lemmas.Option.{slice_get-get_or}
use Rattle.ar_base.specs.Lists.{Stands, IsOneOf}
use Rattle.ar_base.proofs.Standing.{stands_none, stands_one, stands_left, stands_next, stands_split}
use Rattle.flow_blocks.specs.Bits.{row_of}
use Rattle.flow_blocks.specs.Waits.{Crosses}
use Rattle.flow_blocks.proofs.RowLemmas.{Row, row_got, row_set_same, row_set_other}
use Rattle.flow_blocks.proofs.TableLemmas.{the_one}
use Rattle.flow_blocks.proofs.UseLemmas.{one_at, one_of_more, next_one, one_of_next}
use Rattle.flow_blocks.proofs.giving.class_targets.Goals as goal

pub loop-from-init : goal.loop-from-init
loop-from-init c = record {
  long = c.in_ok-lists.ensures.long;
  targets = λ e d. (
    (λ one. absurd (c.in_ok-lists.ensures.none e d one)),
    (λ crosses. absurd (stands_none crosses.is_use.place (crosses.from, crosses.to) crosses.is_use.stands)),
  );
}

pub bounds-class_of-from : goal.bounds-class_of-from
bounds-class_of-from c = (c.requires.below _ _
    (one_at c.args.uses.now c.loop-from.from-index (0, 0) c.loop-from-test.true)).0

pub bounds-class_of-to : goal.bounds-class_of-to
bounds-class_of-to c = (c.requires.below _ _
    (one_at c.args.uses.now c.loop-from.from-index (0, 0) c.loop-from-test.true)).1

pub index_mut-requires : goal.index_mut-requires
index_mut-requires c =
    let lt = (c.requires.below _ _ (one_at c.args.uses.now c.loop-from.from-index (0, 0) c.loop-from-test.true)).0 in
    let class = c.requires.classes _ _ (slice_get-get_or c.args.class_of.now _ 0 lt) in
    omega (arith, class, c.loop-from.invariant.long, c.loop-from.lists.ok.0)

-- one use more, where its classes are these
module _ (uses : List (ℕ × ℕ)) (class_of : List ℕ) (k from to e0 d0 : ℕ) (lists : List Row) (v : Row)
    (lt : k < length uses) (is_from : (get_or uses k (0, 0)).0 ≡ from) (is_to : (get_or uses k (0, 0)).1 ≡ to)
    (class_from : Stands class_of from e0) (class_to : Stands class_of to d0) (inside : e0 < length lists)
    (pushed : v.items ≡ row_of lists e0 ++ d0 ∷ [])
    (before : (e d : ℕ) → IsOneOf (row_of lists e) d ↔ Crosses (take k uses) class_of e d) where
  is_use : get_or uses k (0, 0) ≡ (from, to)
  is_use = λ j. (is_from j, is_to j)

  new_crosses : Crosses (take (k + 1) uses) class_of e0 d0
  new_crosses = record {
    from = from;
    to = to;
    is_use = subst (λ (p : ℕ × ℕ). IsOneOf (take (k + 1) uses) p) is_use (next_one uses k (0, 0) lt);
    class_from =
        class_from;
    class_to = class_to;
  }

  crosses_more : (e d : ℕ) → Crosses (take k uses) class_of e d → Crosses (take (k + 1) uses) class_of e d
  crosses_more e d c = record {
    from = c.from;
    to = c.to;
    is_use = one_of_more uses k (c.from, c.to) c.is_use;
    class_from = c.class_from;
    class_to = c.class_to;
  }

  crosses_next : (e d : ℕ) → Crosses (take (k + 1) uses) class_of e d
      → Crosses (take k uses) class_of e d ⊎ ((e ≡ e0) × (d ≡ d0))
  crosses_next e d c = elim (one_of_next uses k (0, 0) (c.from, c.to) lt c.is_use) [
    | inl old ↦ inl (record {
      from = c.from;
      to = c.to;
      is_use = old;
      class_from = c.class_from;
      class_to = c.class_to;
    })
    | inr last ↦
        let same = last ∙ is_use in
        inr (
          stands_one class_of from e e0 (subst (λ (n : ℕ). Stands class_of n e) (ap (λ (p : ℕ × ℕ). p.0) same)
              c.class_from) class_from,
          stands_one class_of to d d0 (subst (λ (n : ℕ). Stands class_of n d) (ap (λ (p : ℕ × ℕ). p.1) same) c.class_to)
              class_to,
        )
  ]

  pub targets_on : (e d : ℕ) → IsOneOf (row_of (set lists e0 v) e) d ↔ Crosses (take (k + 1) uses) class_of e d
  targets_on e d = elim (cases_eq e e0) [
    | inl is ↦
        let row : row_of (set lists e0 v) e ≡ row_of lists e0 ++ d0 ∷ [] = ap (row_of (set lists e0 v)) is ∙ row_set_same lists e0 v inside ∙ pushed in (
          (λ one. let there = subst (λ (l : List ℕ). IsOneOf l d) row one in elim (stands_split (row_of lists e0) (d0 ∷ []) there.place d there.stands) [
            | inl old ↦ subst (λ (n : ℕ). Crosses (take (k + 1) uses) class_of n d) (sym is)
                (crosses_more e0 d ((before e0 d).0 (record { place = there.place; stands = old })))
            | inr last ↦ subst (λ (n : ℕ). Crosses (take (k + 1) uses) class_of n d) (sym is)
                (subst (λ (n : ℕ). Crosses (take (k + 1) uses) class_of e0 n) (sym (the_one d0 d last.0 last.2).1)
                new_crosses)
          ]),
          (λ crosses. subst (λ (l : List ℕ). IsOneOf l d) (sym row) (elim (crosses_next e d crosses) [
            | inl old ↦ let one = (before e0 d).1 (subst (λ (n : ℕ). Crosses (take k uses) class_of n d) is old) in record { place = one.place; stands = stands_left (row_of lists e0) (d0 ∷ []) one.place d one.stands }
            | inr new ↦ record {
              place = length (row_of lists e0);
              stands = subst (λ (n : ℕ). Stands (row_of lists e0 ++ d0 ∷ []) (length (row_of lists e0)) n) (sym new.1)
                  (stands_next (row_of lists e0) d0 []);
            }
          ])),
        )
    | inr other ↦
        let row = row_set_other lists e0 e v other in (
          (λ one. crosses_more e d ((before e d).0 (subst (λ (l : List ℕ). IsOneOf l d) row one))),
          (λ crosses. subst (λ (l : List ℕ). IsOneOf l d) (sym row)
              (elim (crosses_next e d crosses) [ inl old ↦ (before e d).1 old | inr new ↦ absurd (other new.0) ])),
        )
  ]

pub loop-from-preserved : goal.loop-from-preserved
loop-from-preserved c =
    let lts = c.requires.below _ _ (one_at c.args.uses.now c.loop-from.from-index (0, 0) c.loop-from-test.true) in
    let from_at = slice_get-get_or c.args.class_of.now (get_or c.args.uses.now c.loop-from.from-index (0, 0)).0 0
    lts.0 in
    let to_at = slice_get-get_or c.args.class_of.now (get_or c.args.uses.now c.loop-from.from-index (0, 0)).1 0 lts.1 in
    let class = c.requires.classes _ _ from_at in
    let pair = get_or c.args.uses.now c.loop-from.from-index (0, 0) in
    record {
      long = length-set c.loop-from.lists.items _ c.push.new.self ∙ c.loop-from.invariant.long;
      targets = targets_on c.args.uses.now c.args.class_of.now c.loop-from.from-index pair.0 pair.1 _ _
          c.loop-from.lists.items c.push.new.self c.loop-from-test.true refl refl from_at to_at
          (omega (arith, class, c.loop-from.invariant.long))
          (c.in_ok-push.ensures.items ∙ ap (λ (l : List ℕ). l ++ get_or c.args.class_of.now pair.1 0 ∷ [])
          (ap (λ (r : Row). r.items) c.index_mut.ensures.value
          ∙ row_got c.loop-from.lists.items _ _ (omega (arith, class, c.loop-from.invariant.long))))
          c.loop-from.invariant.targets;
    }

pub returns-clause-targets : goal.returns-clause-targets
returns-clause-targets c = λ e d.
    let whole : take c.loop-from.from-index c.args.uses.now ≡ c.args.uses.now =
    take_all c.loop-from.from-index c.args.uses.now (omega (arith, c.loop-from-test.false)) in
    subst (λ (l : List (ℕ × ℕ)). IsOneOf (row_of c.loop-from.lists.items e) d ↔ Crosses l c.args.class_of.now e d) whole
    (c.loop-from.invariant.targets e d)
