-- Two numbers are cut.
use Rattle.std.proofs.Common.{◌≡◌, ℕ, ◌+◌, ◌<◌, List, length, sym, ap, subst, arith, lt_trans}
use Rattle.zdd_nodes.specs.Families.{Family}
use Rattle.zdd_nodes.specs.FamiliesInside.{node, IsAbove}
use Rattle.zdd_nodes.specs.Nodes.{NodeId, at, IsNode}
use Rattle.ar_base.specs.declared.numbers.Id.{Id}
use Rattle.ar_base.specs.declared.numbers.EventKind.{EventKind}
use Rattle.zdd_ops.specs.Cuts.{AreCofactors}

module _ (fs : List Family) (f g none : NodeId) (none_is : none.n ≡ 0) where
  as_node : (v n : ℕ) → at fs n ≡ node v (at fs n) (at fs none.n)
  as_node v n = ap (λ k. node v (at fs n) (at fs k)) (sym none_is)

  nil_above : (v : ℕ) → IsAbove v (at fs none.n)
  nil_above v = subst (λ k. IsAbove v (at fs k)) (sym none_is) tt

  pub cut_left : (event : Id EventKind) (lo hi : NodeId) → IsNode fs f.n event.n lo.n hi.n → f.n < length fs + 2
      → g.n < length fs + 2 → IsAbove event.n (at fs g.n)
      → AreCofactors fs f.n g.n (record { event = event; f0 = lo; f1 = hi; g0 = g; g1 = none })
  cut_left event lo hi i h l a = record {
    f_is = i.is;
    g_is = as_node event.n g.n;
    f0_in = lt_trans i.lo_before h;
    f1_in = lt_trans i.hi_before h;
    g0_in = l;
    g1_in = omega (arith, none_is);
    f0_above = i.lo_above;
    f1_above = i.hi_above;
    g0_above = a;
    g1_above = nil_above event.n;
    less00 = omega (arith, i.lo_before);
    less11 = omega (arith, i.hi_before, none_is);
    less10 = omega (arith, i.hi_before);
  }

  pub cut_right : (event : Id EventKind) (lo hi : NodeId) → IsNode fs g.n event.n lo.n hi.n → f.n < length fs + 2
      → g.n < length fs + 2 → IsAbove event.n (at fs f.n)
      → AreCofactors fs f.n g.n (record { event = event; f0 = f; f1 = none; g0 = lo; g1 = hi })
  cut_right event lo hi i h l a = record {
    f_is = as_node event.n f.n;
    g_is = i.is;
    f0_in = h;
    f1_in = omega (arith, none_is);
    g0_in = lt_trans i.lo_before l;
    g1_in = lt_trans i.hi_before l;
    f0_above = a;
    f1_above = nil_above event.n;
    g0_above = i.lo_above;
    g1_above = i.hi_above;
    less00 = omega (arith, i.lo_before);
    less11 = omega (arith, i.hi_before, none_is);
    less10 = omega (arith, i.lo_before, none_is);
  }
