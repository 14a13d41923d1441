-- Names with their places as pairs.
use Rattle.std.specs.Prelude.{ℕ}
use Rattle.ar_base.specs.Numbers.{NameId}
use Rattle.ar_base.specs.declared.places.Place.{Place}

-- a name and its place, by the number of the name
abbrev pub name_and_place : NameId × Place → ℕ × Place
name_and_place n = (n.0.n, n.1)
