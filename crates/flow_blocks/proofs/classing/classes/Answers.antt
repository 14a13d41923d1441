-- All numbers were looked at.
use Rattle.std.proofs.Common.{◌≡◌, ℕ, List, [], Vec, Global, length, replicate, sym, ap, ◌∙◌, subst, rules, arith}
use Rattle.std.proofs.lemmas.List.{length-replicate}
use Rattle.flow_blocks.specs.Slots.{AreSlots}
use Rattle.flow_blocks.specs.Table.{members_of, IsPartTable}
use Rattle.flow_blocks.proofs.TableLemmas.{whole_table, empty_table}
use Rattle.flow_blocks.proofs.classing.classes.Goals as goal

pub loop-number-preserved : goal.loop-number-preserved
loop-number-preserved c = record {
  long = c.in_ok-look_at.ensures.long;
  few = c.in_ok-look_at.ensures.few;
  table = λ uses all. c.in_ok-look_at.ensures.table uses all (c.loop-number.invariant.table uses all);
}

pub returns : goal.returns
returns c = λ uses all.
    let end : c.loop-number.number ≡ c.args.count =
    omega (arith, c.loop-number-test.false, c.loop-number.auto.number-end) in
    whole_table c.args.count 4294967295 uses (members_of c.loop-number.table.blocks.items)
    c.loop-number.table.class_of.items
    (subst (λ (n : ℕ). IsPartTable c.args.count 4294967295 uses n (members_of c.loop-number.table.blocks.items)
    c.loop-number.table.class_of.items) end (c.loop-number.invariant.table uses all))

pub loop-number-init : goal.loop-number-init
loop-number-init c =
    let filled : c.in_ok-class_of.class_of.items ≡ replicate c.args.count 4294967295 =
    c.in_ok-class_of.ensures.items_if_clones_equal (search rules) in
    let none : members_of c.new.result.items ≡ [] = ap members_of c.new.ensures.items in
    record {
      long = ap length filled ∙ length-replicate c.args.count 4294967295;
      few = let e = ap length c.new.ensures.items in omega (arith, e);
      table = λ uses all. subst (λ (l : List (List ℕ)). IsPartTable c.args.count 4294967295 uses 0 l
          c.in_ok-class_of.class_of.items) (sym none)
          (empty_table c.args.count 4294967295 uses c.in_ok-class_of.class_of.items filled);
    }

pub look_at-requires : goal.look_at-requires
look_at-requires c = record {
  rows = c.requires;
  slots = subst (λ (l : List (Vec ℕ Global)). AreSlots c.args.count c.args.rows.now c.args.count l)
      (sym c.deref.ensures.value) c.in_ok-slots.ensures;
  below = c.loop-number-test.true;
  long = c.loop-number.invariant.long;
  few = c.loop-number.invariant.few;
}
