use Rattle.gts_core.specs.declared.bound.Act.TheViews.{outs-If}
use Rattle.written_forms.proofs.acting.conditional.Goals as goal

pub returns : goal.returns
returns g c = record {
  bound = c.in_ok-bound.bound;
  becomes = c.in_ok-bound.ensures;
  here = c.in_ok-here.here;
  there = c.in_ok-there.there;
  is = outs-If c.in_ok-bound.bound c.in_ok-here.here c.in_ok-there.there;
  is_first = c.in_ok-here.ensures.ok;
  is_second = c.in_ok-there.ensures.ok;
}
