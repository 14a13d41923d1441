use Rattle.std.proofs.Common.{arith}
use Rattle.bind_scopes.proofs.index.Index.new.Goals as goal

pub places_of_variables-requires : goal.places_of_variables-requires
places_of_variables-requires c = rw c.deref.ensures.value (let few = c.requires.is_tree.variables_few in omega (arith, few))

pub places_of_parameters-requires : goal.places_of_parameters-requires
places_of_parameters-requires c = rw c.deref-2.ensures.value c.requires.is_tree.parameters_few

pub places_of_events-requires : goal.places_of_events-requires
places_of_events-requires c = rw c.deref-3.ensures.value (let few = c.requires.is_tree.events_few in omega (arith, few))
