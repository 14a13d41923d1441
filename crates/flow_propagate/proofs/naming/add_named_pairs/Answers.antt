use Rattle.std.proofs.Common.{List, subst}
use Rattle.ar_base.specs.Lists.{IsOneOf}
use Rattle.ar_base.specs.Numbers.{VarId}
use Rattle.ar_base.proofs.Results.{ok_as}
use Rattle.typed_expr.specs.Mentions.{Mentions}
use Rattle.typed_expr.specs.declared.expr.Expr.{out-Expr}
use Rattle.flow_propagate.specs.Named.{AddsNamed}
use Rattle.flow_propagate.proofs.NamedPairs.{pairs_gathered}
use Rattle.flow_propagate.proofs.naming.add_named_pairs.Goals as goal

pub returns : goal.returns
returns c =
    let names = c.add_named.new.found.items in
    let old = c.args.found.now.items in
    let new = c.add_each.new.found.items in
    let pairs : List VarId → Type 0 = λ z. AddsNamed c.args.number (λ x. IsOneOf z x) old new in
    ok_as _ _ c.add_each.result (λ h.
    pairs_gathered c.args.number (λ x. Mentions x (out-Expr VarId c.args.expr.now)) c.clear.new.self.items names old new
    c.clear.ensures.items c.in_ok-add_named.ensures (subst pairs c.deref.ensures.value h)) c.add_each.ensures
