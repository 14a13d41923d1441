-- A command that goes far goes less far before.
use Rattle.std.proofs.Common.{◌≡◌, true, refl}
use Rattle.run_words.specs.Commands.{to_forest, to_table, to_cuts}
use Rattle.run_words.specs.declared.shapes.Reach.{Reach}
use Rattle.run_words.specs.declared.shapes.Reach.TheVariants.{System, Forest, Table, Cuts}

pub table_to_forest : (r : Reach) → to_table r ≡ true → to_forest r ≡ true
table_to_forest System e = e
table_to_forest Forest e = refl
table_to_forest Table e = refl
table_to_forest Cuts e = refl

pub cuts_to_table : (r : Reach) → to_cuts r ≡ true → to_table r ≡ true
cuts_to_table System e = e
cuts_to_table Forest e = e
cuts_to_table Table e = refl
cuts_to_table Cuts e = refl

pub cuts_to_forest : (r : Reach) → to_cuts r ≡ true → to_forest r ≡ true
cuts_to_forest r e = table_to_forest r (cuts_to_table r e)
