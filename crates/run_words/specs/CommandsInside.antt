-- Definitions beside those of Commands, of which clauses inside the program speak: what the whole program promises does
-- not rest on them.
use Rattle.std.specs.Prelude.{Bool, true, false}
use Rattle.run_words.specs.declared.shapes.Form.{Form}
use Rattle.run_words.specs.declared.shapes.Form.TheVariants as form

-- What stands behind a command

-- there is a second file
abbrev pub is_second : Form → Bool
is_second form.ModelAndScript = true
is_second form.ModelAndList = true
is_second _ = false
