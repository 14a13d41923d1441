-- What an outer unit sets wins over what an inner one sets.
use Rattle.std.proofs.Common.{◌≡◌, ℕ, [], ◌∷◌, Some, None, ap}
use Rattle.std.specs.Option.{option_or}
use Rattle.hierarchy.specs.Models.{RootedModel}
use Rattle.hierarchy.specs.Units.{UnitLevel}
use Rattle.hierarchy.specs.Settings.{Named, Init, Attribute, outermost, set_by}

pub override : (m : RootedModel) (d i : UnitLevel) (s : ℕ) (z : Attribute)
    → set_by m [] d.set_at (Named i.name ∷ Named s ∷ Init ∷ []) ≡ Some z
    → outermost m (i ∷ d ∷ []) (Named s ∷ Init ∷ []) ≡ Some z
override m d i s z e = ap (λ o. option_or o (set_by m (d ∷ []) i.set_at (Named s ∷ Init ∷ []))) e

pub inner : (m : RootedModel) (d i : UnitLevel) (s : ℕ) → set_by m [] d.set_at (Named i.name ∷ Named s ∷ Init ∷ [])
    ≡ None → outermost m (i ∷ d ∷ []) (Named s ∷ Init ∷ []) ≡ set_by m (d ∷ []) i.set_at (Named s ∷ Init ∷ [])
inner m d i s e = ap (λ o. option_or o (set_by m (d ∷ []) i.set_at (Named s ∷ Init ∷ []))) e
