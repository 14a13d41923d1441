use Rattle.std.proofs.Common.{arith}
use Rattle.ar_base.proofs.Standing.{along_length}
use Rattle.hierarchy.specs.Listing.{variables, events}
use Rattle.instantiate.proofs.Joined.{declarations_kept}
use Rattle.instantiate.proofs.listing.tree_of.Goals as goal

pub name_units-requires : goal.name_units-requires
name_units-requires c = rw c.deref.ensures.value c.requires

pub variables-requires : goal.variables-requires
variables-requires c = rw c.deref-2.ensures.value c.requires

pub parameters-requires : goal.parameters-requires
parameters-requires c = rw c.deref-3.ensures.value c.requires

pub events-requires : goal.events-requires
events-requires c = rw c.deref-4.ensures.value c.requires

pub observers-requires : goal.observers-requires
observers-requires c = rw c.deref-5.ensures.value c.requires

pub returns : goal.returns
returns c = λ t s.
    let o = s.outlines in
    let units = (rw c.deref.ensures.value at c.in_ok-units.ensures) t.model t.units o s.outcomes in
    let variables_are = (rw c.deref-2.ensures.value at c.in_ok-variables.ensures) t.model t.units o
    (declarations_kept t s.kept) in
    let parameters_are = (rw c.deref-3.ensures.value at c.in_ok-parameters.ensures) t.model t.units o in
    let events_are = (rw c.deref-4.ensures.value at c.in_ok-events.ensures) t.model t.units o in
    let observers_are = (rw c.deref-5.ensures.value at c.in_ok-observers.ensures) t.model t.units o in
    let nu = along_length t.units c.in_ok-units.units.items units in
    let nv = along_length (variables t.model t.units) c.in_ok-variables.variables.items variables_are in
    let ne = along_length (events t.model t.units) c.in_ok-events.events.items events_are in
    let fu = s.units_few in
    let fv = s.variables_few in
    let fe = s.events_few in
    record {
      table = o.table;
      are_units = o.are_units;
      units_are = units;
      variables_are = variables_are;
      parameters_are = parameters_are;
      events_are = events_are;
      observers_are = observers_are;
      parameters_few = omega (arith, c.if-len.false, c.len.ensures);
      observers_few = omega (arith, c.if-len-2.false, c.len-2.ensures);
      units_few = omega (arith, nu, fu);
      variables_few = omega (arith, nv, fv);
      events_few = omega (arith, ne, fe);
    }
