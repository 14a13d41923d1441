use Rattle.std.proofs.Common.{refl, sym, ◌∙◌, ap, length, arith}
use Rattle.class_table.proofs.PartsLaid.{parts_start, domain_next, class_next, block_next, on_next, on_end, parts_of}
use Rattle.class_table.proofs.declaring.declare.Goals as goal

pub loop-item-init : goal.loop-item-init
loop-item-init c =
    let i = c.into_iter-item-iterator.ensures.into_iter_gives in
    record {
      parts = record {
        done = _;
        joined = i.0;
        count = i.1 ∙ (c.args.items.ok.0 ∙ ap length (sym i.0));
        so_far = parts_start _ _ _ _ c.new-bodies.ensures.items c.new-types.ensures.items c.new-symbols.ensures.list
            c.new-blocks.ensures.items c.new-symbols.ensures.numbered;
      };
      few = (let e = ap length c.new-bodies.ensures.items in omega (arith, e));
    }

pub loop-item-preserved-in_ok-push-in-Domain : goal.loop-item-preserved-in_ok-push-in-Domain
loop-item-preserved-in_ok-push-in-Domain c =
    let h = c.loop-item.invariant.parts in
    record {
      parts = on_next _ _ _ _ _ _ _ _ _ _ _ _ _ _ _ c.in-Some.ensures.steps.0 c.in-Some.ensures.steps.1
          c.in-Domain.is h (domain_next _ _ _ _ _ _ _ c.in-Domain.domain _ c.in_ok-push-in-Domain.ensures.items h.so_far
          c.in_ok-body-in-Domain.ensures);
      few = c.loop-item.invariant.few;
    }

pub loop-item-preserved-in_ok-push-in-Domain-2 : goal.loop-item-preserved-in_ok-push-in-Domain-2
loop-item-preserved-in_ok-push-in-Domain-2 c =
    let h = c.loop-item.invariant.parts in
    record {
      parts = on_next _ _ _ _ _ _ _ _ _ _ _ _ _ _ _ c.in-Some.ensures.steps.0 c.in-Some.ensures.steps.1
          c.in-Domain.is h (domain_next _ _ _ _ _ _ _ c.in-Domain.domain _ c.in_ok-push-in-Domain.ensures.items h.so_far
          c.in_ok-body-in-Domain.ensures);
      few = c.loop-item.invariant.few;
    }

pub loop-item-preserved-in_ok-push-in-Class : goal.loop-item-preserved-in_ok-push-in-Class
loop-item-preserved-in_ok-push-in-Class c =
    let h = c.loop-item.invariant.parts in
    let l = c.in_ok-body-in-Class.ensures in
    record {
      parts = on_next _ _ _ _ _ _ _ _ _ _ _ _ _ _ _ c.in-Some.ensures.steps.0 c.in-Some.ensures.steps.1
          c.in-Class.is h
          (class_next _ _ _ _ _ _ c.in-Class.unit _ l.number h.so_far l.laid _ c.in_ok-push-in-Class.ensures.items);
      few = l.few;
    }

pub loop-item-preserved : goal.loop-item-preserved
loop-item-preserved c =
    let h = c.loop-item.invariant.parts in
    let l = c.in_ok-lay_unit-in-Block.ensures in
    record {
      parts = on_next _ _ _ _ _ _ _ _ _ _ _ _ _ _ _ c.in-Some.ensures.steps.0 c.in-Some.ensures.steps.1
          c.in-Block.is h
          (block_next _ _ _ _ _ _ c.in-Block.unit _ l.number h.so_far l.laid _ c.in_ok-push-in-Block.ensures.items);
      few = l.few;
    }

pub returns-clause-parts : goal.returns-clause-parts
returns-clause-parts c = parts_of _ _ _ refl (on_end _ _ _ _ _ _ _ c.in-None.ensures.steps.0 c.loop-item.invariant.parts)

pub domain-requires : goal.domain-requires
domain-requires c = c.loop-item.invariant.parts.so_far.numbered
