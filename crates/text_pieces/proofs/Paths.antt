-- The paths of variables and events, as the names of a flat system have them.
use Rattle.std.proofs.Common.{◌≡◌, ℕ, zero, suc, List, [], ◌∷◌, map, slice_get, refl}
use Rattle.ar_base.specs.Texts.{text_at}
use Rattle.gts_core.specs.Printed.{path_of_found, event_path}
use Rattle.gts_core.specs.declared.system.Event.{Event}
use Rattle.gts_core.specs.declared.system.Variable.{Variable}

pub variable_there : (xs : List Variable) (n : ℕ)
    → path_of_found (slice_get xs n) ≡ text_at (map (λ (x : Variable). x.path) xs) n
variable_there [] zero = refl
variable_there [] (suc n) = refl
variable_there (x ∷ xs) zero = refl
variable_there (x ∷ xs) (suc n) = variable_there xs n

pub event_there : (es : List Event) (n : ℕ)
    → event_path (slice_get es n) ≡ text_at (map (λ (e : Event). e.path) es) n
event_there [] zero = refl
event_there [] (suc n) = refl
event_there (e ∷ es) zero = refl
event_there (e ∷ es) (suc n) = event_there es n
