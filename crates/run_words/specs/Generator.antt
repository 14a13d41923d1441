-- The text of the generated model of so many components.
use Rattle.std.specs.Prelude.{◌+◌, ◌*◌, ◌-◌, ◌/◌, ◌%◌, ◌==◌, nat_le, if◌then◌else◌, ℕ, zero, suc, List, [], ◌∷◌, ◌++◌, codes, decimal}
use Rattle.ar_base.specs.Texts.{line}

-- the lines of these texts
abbrev pub lines : List (List ℕ) → List ℕ
lines [] = []
lines (text ∷ texts) = line text ++ lines texts

-- the texts for the numbers from 1 to n, one behind the other
abbrev pub up_to : (ℕ → List ℕ) → ℕ → List ℕ
up_to one zero = []
up_to one (suc n) = up_to one n ++ one (n + 1)

-- the domains, the two classes, and the head of the block
abbrev pub classes : List (List ℕ)
classes = codes "domain S {OK, KO}"
    ∷ codes "domain L {GOOD, WORN, DEAD}"
    ∷ codes "class Short"
    ∷ codes "  S m (init = OK);"
    ∷ codes "  Boolean up (reset = false);"
    ∷ codes "  event fail;"
    ∷ codes "  transition fail: m == OK -> m := KO;"
    ∷ codes "  assertion up := m == OK;"
    ∷ codes "end"
    ∷ codes "class Long"
    ∷ codes "  L m (init = GOOD);"
    ∷ codes "  Boolean up (reset = false);"
    ∷ codes "  event wear, fail;"
    ∷ codes "  transition wear: m == GOOD -> m := WORN; fail: m == WORN -> m := DEAD;"
    ∷ codes "  assertion up := m != DEAD;"
    ∷ codes "end"
    ∷ codes "block Make"
    ∷ []

-- component i: a short one for an odd number, a long one for an even number
abbrev pub component : ℕ → List ℕ
component i = line ((if i % 2 == 1 then codes "  Short c" else codes "  Long c") ++ (decimal i ++ codes ";"))

-- flow j
abbrev pub flow : ℕ → List ℕ
flow j = line (codes "  Boolean f" ++ (decimal j ++ codes " (reset = false);"))

-- component i works
abbrev pub works : ℕ → List ℕ
works i = codes "c" ++ (decimal i ++ codes ".up")

-- one of the two components of pair j works, of n components in all; the last pair may have one alone
abbrev pub pair_works : ℕ → ℕ → List ℕ
pair_works n j = works (2 * j - 1) ++ (if nat_le (2 * j) n then codes " or " ++ works (2 * j) else [])

-- the first flow is true where the first pair works
abbrev pub first_link : ℕ → List ℕ
first_link n = line (codes "    f1 := " ++ (pair_works n 1 ++ codes ";"))

-- the flow behind flow j is true where flow j is and its own pair works
abbrev pub link : ℕ → ℕ → List ℕ
link n j = line (codes "    f" ++ (decimal
    (j + 1) ++ (codes " := f" ++ (decimal j ++ (codes " and (" ++ (pair_works n (j + 1) ++ codes ");"))))))

-- how many pairs n components make
abbrev pub pairs : ℕ → ℕ
pairs n = (n + 1) / 2

-- what is lost: this flow, the last one, is not true
abbrev pub observer : ℕ → List ℕ
observer last = line (codes "  observer Boolean lost = not f" ++ (decimal last ++ codes ";"))

-- the whole text for n components
abbrev pub generated : ℕ → List ℕ
generated n = lines classes ++ (up_to component
    n ++ (up_to flow (pairs n) ++ (observer (pairs n) ++ (line (codes "  assertion")
    ++ (first_link n ++ (up_to (link n) (pairs n - 1) ++ line (codes "end")))))))
