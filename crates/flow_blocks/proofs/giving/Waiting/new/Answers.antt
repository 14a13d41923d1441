-- At first each class is to be looked at.
use Rattle.std.proofs.Common.{◌≡◌, ℕ, inr, Bool, true, false, List, length, replicate, sym, ap, ◌∙◌, subst, arith, rules}
use Rattle.std.proofs.lemmas.List.{length-replicate}
use Rattle.ar_base.specs.Lists.{Stands}
use Rattle.ar_base.proofs.Items.{none_marked}
use Rattle.flow_blocks.specs.Waits.{Crosses}
use Rattle.flow_blocks.proofs.WaitLemmas.{none_ready}
use Rattle.flow_blocks.proofs.giving.Waiting.new.Goals as goal

pub class_targets-requires-clause-below : goal.class_targets-requires-clause-below
class_targets-requires-clause-below c = λ a b one. let h = c.requires.below a b one in let same = ap length c.deref.ensures.value in (omega (arith, h.0, same), omega (arith, h.1, same))

given_is : (c : goal.After-new) → c.in_ok-vec.field-0.items ≡ replicate c.len-count.result false
given_is c = c.in_ok-vec.ensures.items_if_clones_equal (search rules)

pub returns-clause-given : goal.returns-clause-given
returns-clause-given c = λ e g. none_marked c.len-count.result e
    (subst (λ (l : List Bool). Stands l e true) (given_is c) g)

number : (c : goal.After-new) → c.len-count.result ≡ length c.args.table.now.blocks.items
number c = c.len-count.ensures ∙ c.args.table.now.blocks.ok.0

pub returns-clause-waits : goal.returns-clause-waits
returns-clause-waits c = λ pending all below.
    let crossing = λ (e d : ℕ) (x : Crosses c.args.uses.now c.deref.result.now e d).
    subst (λ (l : List ℕ). Crosses c.args.uses.now l e d) c.deref.ensures.value x in
    let back = λ (e d : ℕ) (x : Crosses c.args.uses.now c.args.table.now.class_of.items e d).
    subst (λ (l : List ℕ). Crosses c.args.uses.now l e d) (sym c.deref.ensures.value) x in
    record {
      long_targets = c.in_ok-class_targets.ensures.long ∙ number c;
      long_watchers = c.in_ok-empty_lists.ensures.long ∙ number c;
      long_given = ap length (given_is c) ∙ length-replicate c.len-count.result false ∙ number c;
      crossed = λ e d x. c.requires.classes x.to d x.class_to;
      each = λ e lt free. inr (inr (all e lt));
      ready = λ e r. absurd (none_ready c.new.result e c.new.ensures.empty r);
      watching = λ d e one. absurd (c.in_ok-empty_lists.ensures.none d e one);
      targets = λ e d one. crossing e d ((c.in_ok-class_targets.ensures.targets e d).0 one);
      left = λ e d free x. inr (inr ((c.in_ok-class_targets.ensures.targets e d).1 (back e d x)));
      closed = λ e d g x. absurd (none_marked c.len-count.result e
          (subst (λ (l : List Bool). Stands l e true) (given_is c) g));
      to_look_at = λ e one. (
        below e one,
        λ g. none_marked c.len-count.result e
            (subst (λ (l : List Bool). Stands l e true) (given_is c) g),
      );
    }
