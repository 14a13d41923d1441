-- The text of a check as it is written, by the parts of a flat system and the edges of its forest.
use Rattle.std.specs.Prelude.{ℕ, Bool, true, false, if◌then◌else◌, ◌&&◌, ◌||◌, Option, List, [], ◌∷◌, ◌++◌, codes, decimal, length}
use Rattle.ar_base.specs.Numbers.{WayId}
use Rattle.ar_base.specs.Texts.{line}
use Rattle.ar_meaning.specs.Runs.{Label}
use Rattle.eq_core.specs.Values.{has_event}
use Rattle.gts_core.specs.declared.bound.Chain.{Chain}
use Rattle.gts_core.specs.declared.system.GtsParts.{GtsParts}
use Rattle.mode_trees.specs.declared.forests.Edge.{Edge}
use Rattle.cut_text.specs.Printed.{events_text}
use Rattle.cut_text.specs.Tables.{texts_at}
use Rattle.cut_text.specs.Texts.{braced}
use Rattle.cut_check.specs.Flat.{chain_lines}
use Rattle.cut_check.specs.Verdicts.{events_of}
use Rattle.cut_check.specs.declared.checking.Verdict.{Verdict}
use Rattle.cut_check.specs.declared.checking.Verdict.TheVariants.{Good, Fails, Holds}
use Rattle.check_text.specs.Texts.{is_above, later, above_line, last_line}

-- a verdict
abbrev pub verdict_text : Verdict → List ℕ
verdict_text Good = codes "good"
verdict_text Fails = codes "fails"
verdict_text (Holds n) = codes "holds line " ++ decimal n

-- the line of the verdict of the line of this number
abbrev pub verdict_line : ℕ → Verdict → List ℕ
verdict_line n v = line (codes "line " ++ (decimal n ++ (codes " " ++ verdict_text v)))

-- the line of this number, which is above the order, or has the first of these verdicts
abbrev pub chain_line : Bool → ℕ → List Verdict → List ℕ
chain_line true n vs = above_line n
chain_line false n [] = []
chain_line false n (v ∷ vs) = verdict_line n v

-- whether a chain is above the order
abbrev pub is_chain_above : Option ℕ → Chain → Bool
is_chain_above order c = is_above order (length c.ways.items)

-- the lines of these chains, of which those that are not above the order have these verdicts
abbrev pub verdict_lines : Option ℕ → List Chain → List Verdict → List ℕ
verdict_lines order [] vs = []
verdict_lines order (c ∷ cs) vs = chain_line (is_chain_above order c) c.line vs
    ++ verdict_lines order cs (later (is_chain_above order c) vs)

-- the chain, unless it is left out
abbrev pub kept_chain : Bool → Chain → List Chain → List Chain
kept_chain true c chains = chains
kept_chain false c chains = c ∷ chains

-- the chains that are not above the order
abbrev pub chains_within : Option ℕ → List Chain → List Chain
chains_within order [] = []
chains_within order (c ∷ cs) = kept_chain (is_chain_above order c) c (chains_within order cs)

-- a chain's line and its ways
abbrev pub chain_parts : Chain → ℕ × List WayId
chain_parts c = (c.line, c.ways.items)

-- whether each of these numbers is one of the others
abbrev pub all_among : List ℕ → List ℕ → Bool
all_among [] ys = true
all_among (x ∷ xs) ys = has_event ys x && all_among xs ys

-- whether the set has the events of one of the lines
abbrev pub listed_in : List (List Label) → List ℕ → Bool
listed_in [] set = false
listed_in (ls ∷ lines) set = (all_among (events_of ls) set && all_among set (events_of ls)) || listed_in lines set

-- whether each of these sets is listed
abbrev pub all_listed : List (List Label) → List (List ℕ) → Bool
all_listed lines [] = true
all_listed lines (events ∷ more) = listed_in lines events && all_listed lines more

-- whether each verdict is good
abbrev pub all_verdicts_good : List Verdict → Bool
all_verdicts_good [] = true
all_verdicts_good (Good ∷ vs) = all_verdicts_good vs
all_verdicts_good (Fails ∷ vs) = false
all_verdicts_good (Holds n ∷ vs) = false

-- the lines of those of these sets that are not listed
abbrev pub missing_text : GtsParts → List Edge → List (List Label) → List (List ℕ) → List ℕ
missing_text p edges lines [] = []
missing_text p edges lines (events ∷ more) =
    (if listed_in lines events then [] else line (codes "missing " ++ events_text p edges events)) ++ missing_text p
    edges lines more

-- the same by a table of the ways of events
abbrev pub missing_one : GtsParts → List WayId → List (List Label) → List ℕ → List ℕ
missing_one p ways lines events = if listed_in lines events then []
    else line (codes "missing " ++ braced (texts_at p ways events))

abbrev pub missing_at : GtsParts → List WayId → List (List Label) → List (List ℕ) → List ℕ
missing_at p ways lines [] = []
missing_at p ways lines (events ∷ more) = missing_one p ways lines events ++ missing_at p ways lines more

-- the whole text, where the short ones of the chains are checked
abbrev pub text_of_check : GtsParts → List Edge → Option ℕ → List Chain → List Chain → List Verdict → List (List ℕ) → List ℕ
text_of_check p edges order chains short verdicts lists =
    verdict_lines order chains verdicts ++ (missing_text p edges (chain_lines p short) lists
    ++ last_line order (all_verdicts_good verdicts && all_listed (chain_lines p short) lists))
