-- Valuations in which new values are written.
use Rattle.std.proofs.Common.{◌≡◌, List, [], ◌∷◌, length, set, refl, ◌∙◌}
use Rattle.std.proofs.lemmas.List.{length-set}
use Rattle.ar_base.specs.Numbers.{VarId}
use Rattle.domains.specs.declared.Value.{Value}
use Rattle.flow_propagate.specs.NewValues.{written}

-- it is as long as it was
pub written_long : (t : List Value) (new : List (VarId × Value)) → length (written t new) ≡ length t
written_long t [] = refl
written_long t (r ∷ new) = written_long (set t r.0.n r.1) new ∙ length-set t r.0.n r.1
