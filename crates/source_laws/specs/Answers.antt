-- Answers of a stage that are alike.
use Rattle.std.specs.Prelude.{◌≡◌, Result, Ok, Err}

-- both give something, and what they give is alike; or both refuse, and in one way
abbrev pub SameAnswer : {B R : Type 0} → (B → B → Type 0) → Result B R → Result B R → Type 0
SameAnswer Same (Ok b) (Ok c) = Same b c
SameAnswer Same (Ok b) (Err s) = ⊥
SameAnswer Same (Err r) (Ok c) = ⊥
SameAnswer Same (Err r) (Err s) = r ≡ s
