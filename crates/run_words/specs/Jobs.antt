-- What a list of words asks for: what `clap` finds in them, and then the table of the commands.
use Rattle.std.specs.Prelude.{◌≡◌, ◌≢◌, ◌≤◌, ℕ, Bool, true, false, List, [], ◌∷◌, Option, Some, None, codes, decimal}
use Rattle.clap.specs.Words.{Text, fault_of, matches_of}
use Rattle.run_words.specs.Commands.{word_of, shape_of}
use Rattle.run_words.specs.Lines.{CommandWords, command_words_of, program}
use Rattle.run_words.specs.declared.jobs.Asked.{Asked}
use Rattle.run_words.specs.declared.jobs.Job.{Job}
use Rattle.run_words.specs.declared.shapes.Form.{Form}
use Rattle.run_words.specs.declared.shapes.Form.TheVariants as form
use Rattle.run_words.specs.declared.shapes.Shape.{Shape}
use Rattle.run_words.specs.declared.shapes.Takes.{Takes}
use Rattle.run_words.specs.declared.shapes.Takes.TheVariants.{Never, May, Must}

-- the text is the number from the least to the most: its decimal digits, without a sign and without leading zeros
pub record IsNumberText (least most : ℕ) (text : Text) (n : ℕ) : Type 0 where
  pub digits : text ≡ decimal n
  pub at_least : least ≤ n
  pub at_most : n ≤ most

-- the words behind the command are these files, or the number
abbrev pub NamesFiles : Form → List Text → Text → Option Text → ℕ → Type 0
NamesFiles form.Model files model second number = (files ≡ model ∷ []) × (second ≡ None) × (number ≡ 0)
NamesFiles form.ModelAndScript files model second number =
    ((name : Text) × (files ≡ model ∷ name ∷ []) × (second ≡ Some name)) × (number ≡ 0)
NamesFiles form.ModelAndList files model second number =
    ((name : Text) × (files ≡ model ∷ name ∷ []) × (second ≡ Some name)) × (number ≡ 0)
NamesFiles form.Number files model second number =
    ((word : Text) × (files ≡ word ∷ []) × IsNumberText 1 200 word number) × (model ≡ []) × (second ≡ None)

-- an option is used only where the command takes it
abbrev pub IsTaken : Bool → Option Text → Type 0
IsTaken true given = Unit {0}
IsTaken false given = given ≡ None

-- an option as the command takes it: one that it does not take is not used, one that it may take is used or not, and one
-- that it cannot do without is used
abbrev pub IsUsed : Takes → Option Text → Type 0
IsUsed Never given = given ≡ None
IsUsed May given = Unit {0}
IsUsed Must given = given ≢ None

-- the node limit where `--nodes` is not used: the most there may be for a model that is made
abbrev pub nodes_by_default : Form → ℕ
nodes_by_default form.Number = 16777216
nodes_by_default _ = 1000000

-- the node limit: what `--nodes` writes, a number from 1 to 16777216, where the command takes this option and it is used,
-- else that by default
abbrev pub IsNodes : Shape → Option Text → ℕ → Type 0
IsNodes shape None nodes = nodes ≡ nodes_by_default shape.files
IsNodes shape (Some text) nodes = (shape.nodes ≡ true) × IsNumberText 1 16777216 text nodes

-- the most events of the cuts: what `--max-order` writes, a number from 1 to 1000, where the command takes this option and it
-- is used; else none
abbrev pub IsOrder : Shape → Option Text → Option ℕ → Type 0
IsOrder shape None order = order ≡ None
IsOrder shape (Some text) order = (shape.order ≡ true) × ((n : ℕ) × (order ≡ Some n) × IsNumberText 1 1000 text n)

-- the command takes each option that is used, but for `--nodes` and `--max-order`, and the observer is there where it is needed
pub record OptionsFit (shape : Shape) (line : CommandWords) : Type 0 where
  pub main : IsTaken shape.main line.main
  pub observer : IsUsed shape.observer line.observer
  pub value : IsTaken shape.value line.value
  pub dropped : IsTaken shape.dropped line.dropped

-- the command line, but for `--max-order`, gives the job
pub record IsJobOf (line : CommandWords) (job : Job) : Type 0 where
  pub command : line.command ≡ Some (word_of job.command)
  pub files : NamesFiles (shape_of job.command).files line.files job.model job.script job.number
  pub options : OptionsFit (shape_of job.command) line
  pub nodes : IsNodes (shape_of job.command) line.nodes job.nodes
  pub main : job.main ≡ line.main
  pub observer : job.observer ≡ line.observer
  pub value : job.value ≡ line.value
  pub dropped : job.dropped ≡ line.dropped

-- the command line asks for the job, with this order
pub record IsAskedOf (line : CommandWords) (asked : Asked) : Type 0 where
  pub job : IsJobOf line asked.job
  pub order : IsOrder (shape_of asked.job.command) line.order asked.order

-- what `clap` is given: the program's word and then the words
abbrev pub given_words : List Text → List Text
given_words words = codes "altarica" ∷ words

-- what `clap` finds in the words
abbrev pub found_words : List Text → CommandWords
found_words words = command_words_of (matches_of program (given_words words))

-- the words ask for this: `clap` takes them, and what it finds asks for it
pub record IsAsked (words : List Text) (asked : Asked) : Type 0 where
  pub taken : fault_of program (given_words words) ≡ []
  pub asked_of : IsAskedOf (found_words words) asked
