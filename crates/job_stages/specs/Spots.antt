-- What a broken rule of the static fragment is shown with, by the parts of a flat system.
use Rattle.std.specs.Prelude.{ℕ, List, codes}
use Rattle.ar_base.specs.Texts.{text_at}
use Rattle.ar_firing.specs.Rules.{Spot, AtEvent, AtUnit, AtVariable, AtObserver, AtWhole}
use Rattle.gts_core.specs.declared.system.GtsParts.{GtsParts}
use Rattle.gts_flatten.specs.Flat.{naming_of_parts}

-- its canonical path; `main` for the whole model
abbrev pub path_in : GtsParts → Spot → List ℕ
path_in p (AtEvent n) = text_at (naming_of_parts p).events n
path_in p (AtUnit n) = text_at p.units.items n
path_in p (AtVariable n) = text_at (naming_of_parts p).variables n
path_in p (AtObserver n) = text_at (naming_of_parts p).observers n
path_in p AtWhole = codes "main"
