-- A row with two values has one that is not its first.
use Rattle.std.proofs.Common.{◌≡◌, Bool, true, false, List, Contains, sym, ◌∙◌}
use Rattle.domains.specs.declared.Value.{Value}
use Rattle.ar_meaning.specs.Found.{IsAnswer}
use Rattle.ar_meaning.proofs.OneAnswer.{same_value}
use Rattle.ar_base.specs.ListsInside.{HasOther}
use Rattle.flow_propagate.specs.Rows.{AreTwo, IsTwo}

-- a row with a value that is not its first
two_of_other : (row : List Value) (v : Value) → Contains row v → HasOther row v → AreTwo row
two_of_other row v c h = record {
  first = v;
  second = h.other;
  has_first = c;
  has_second = h.has;
  differ = λ e. h.differs (sym e);
}

pub two_answer : (is_state : Bool) (row : List Value) (v : Value) (b : Bool) → is_state ≡ false → Contains row v
    → IsAnswer b (HasOther row v) → IsAnswer b (IsTwo is_state row)
two_answer is_state row v true e c h = (e, two_of_other row v c h)
two_answer is_state row v false e c n = λ two.
    let a : two.1.first ≡ v = same_value two.1.first v
    (λ d. n (record { other = two.1.first; has = two.1.has_first; differs = d })) in
    let b : two.1.second ≡ v = same_value two.1.second v
    (λ d. n (record { other = two.1.second; has = two.1.has_second; differs = d })) in
    two.1.differ (a ∙ sym b)
