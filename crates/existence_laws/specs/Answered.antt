-- What it is that a stage has an answer.
use Rattle.std.specs.Prelude.{}

-- it is not so that the stage answers nothing: whatever follows from each answer, if it is refuted, refutes this
abbrev pub HasAnswer : {X : Type 0} → (X → Type 0) → Type 0
HasAnswer {X = X} stage = ((x : X) → stage x → ⊥) → ⊥
