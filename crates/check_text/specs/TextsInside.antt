-- Definitions beside those of Texts, of which clauses inside the program speak: what the whole program promises does
-- not rest on them.
use Rattle.std.specs.Prelude.{◌≡◌, ℕ, true, List, ◌++◌, Option}
use Rattle.check_text.specs.Texts.{last_line}

-- the text's last line is `yes`
pub record EndsYes (order : Option ℕ) (text : List ℕ) : Type 0 where
  pub front : List ℕ
  pub is : text ≡ front ++ last_line order true
