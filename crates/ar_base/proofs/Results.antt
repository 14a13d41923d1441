-- What answers that are there tell.
use Rattle.std.proofs.Common.{Result, Ok, Err, IfOk}
use Rattle.ar_base.specs.declared.faults.Memory.{Memory}

-- what holds of a success holds of it in another form
pub ok_map : {A E : Type 0} {P Q : A → Type 0} (r : Result A E) → ((a : A) → P a → Q a) → IfOk r P → IfOk r Q
ok_map (Ok a) f h = f a h
ok_map (Err e) f h = h

-- the same of a success that gives nothing
pub ok_as : (P Q : Type 0) (r : Result (Unit {0}) Memory) → (P → Q) → IfOk r (λ _. P) → IfOk r (λ _. Q)
ok_as P Q (Ok x) f h = f h
ok_as P Q (Err e) f h = tt
