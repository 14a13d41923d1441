-- The faults of tables.
use Rattle.eq_build.specs.declared.entries.BuildFault.{BuildFault}
use Rattle.eq_build.specs.declared.entries.BuildFault.TheVariants as build
use Rattle.tree_equations.specs.declared.fault.EqFault.{EqFault}
use Rattle.tree_equations.specs.declared.fault.EqFault.TheVariants.{Gates, Memory}

-- a fault of building as a fault of tables
abbrev pub building_fault : BuildFault → EqFault
building_fault build.Gates = Gates
building_fault build.Memory = Memory
