-- The class is given, and those that wait for it are looked at again.
use Rattle.std.proofs.Common.{[], ap, ◌∙◌, arith}
use Rattle.ar_base.proofs.Standing.{one_first}
use Rattle.flow_blocks.proofs.RowLemmas.{Row, row_got}
use Rattle.flow_blocks.proofs.WaitLemmas.{given_state}
use Rattle.flow_blocks.proofs.giving.Waiting.give.Goals as goal

pub index_mut-requires : goal.index_mut-requires
index_mut-requires c = let w = c.requires.0 in let lt = (w.waits.to_look_at c.args.class (one_first c.args.class [])).0 in omega (arith, lt, w.waits.long_given, c.args.self.now.given.ok.0)

pub index_mut-requires-2 : goal.index_mut-requires-2
index_mut-requires-2 c = let w = c.requires.0 in let lt = (w.waits.to_look_at c.args.class (one_first c.args.class [])).0 in omega (arith, lt, w.waits.long_watchers, c.args.self.now.watchers.ok.0)

pub examine_all-requires : goal.examine_all-requires
examine_all-requires c =
    let w = c.requires.0 in
    let lt = (w.waits.to_look_at c.args.class (one_first c.args.class [])).0 in
    record {
      count = w.count;
      uses = w.uses;
      class_of = w.class_of;
      waits = given_state w.count w.uses w.class_of c.args.self.now c.args.class c.replace-watchers.new.dest
          c.deref.result.now w.waits c.requires.1
          (ap (λ (r : Row). r.items) c.replace-watchers.ensures.after ∙ c.new.ensures.items)
          (c.deref.ensures.value ∙ ap (λ (r : Row). r.items)
          (c.replace-watchers.ensures.value ∙ c.index_mut-2.ensures.value)
          ∙ row_got c.args.self.now.watchers.items c.args.class _ (omega (arith, lt, w.waits.long_watchers)));
    }

pub returns-clause-waits : goal.returns-clause-waits
returns-clause-waits c = λ count uses class_of waits taken.
    let lt = (waits.to_look_at c.args.class (one_first c.args.class [])).0 in
    c.in_ok-examine_all.ensures.waits count uses class_of
    (given_state count uses class_of c.args.self.now c.args.class c.replace-watchers.new.dest c.deref.result.now waits
    taken
    (ap (λ (r : Row). r.items) c.replace-watchers.ensures.after ∙ c.new.ensures.items)
    (c.deref.ensures.value ∙ ap (λ (r : Row). r.items) (c.replace-watchers.ensures.value ∙ c.index_mut-2.ensures.value)
    ∙ row_got c.args.self.now.watchers.items c.args.class _ (omega (arith, lt, waits.long_watchers))))
