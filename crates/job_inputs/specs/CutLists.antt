-- The cuts that the lines of a list give, and the first line that is bad.
use Rattle.std.specs.Prelude.{◌<◌, ◌+◌, ℕ, List, [], ◌∷◌, Result, Ok, Err}
use Rattle.ar_base.specs.Lists.{Stands, Along}
use Rattle.ar_meaning.specs.Runs.{Label}
use Rattle.gts_flatten.specs.Elaborating.{Elaborated}
use Rattle.job_inputs.specs.CutLines.{IsPassed, IsCutLine}
use Rattle.job_inputs.specs.Labels.{IsLabel, NeedsWay}
use Rattle.job_inputs.specs.Lines.{lines_of}
use Rattle.job_inputs.specs.Scripts.{Why, IsNoCommand, LacksWay, NamesNoEvent, BadLine}

-- a cut line of a list: its number in the text, counted from 1, and its labels in order
pub record CutLine : Type 0 where
  pub number : ℕ
  pub labels : List Label

-- the cut lines that these lines give, the first of which has this number, where none of them is bad
pub data ListsCutLines (x : Elaborated) : ℕ → List (List ℕ) → List CutLine → Type 0 where
  none : {n : ℕ} → ListsCutLines x n [] []
  passes : {n : ℕ} {line : List ℕ} {lines : List (List ℕ)} {cuts : List CutLine} → IsPassed line
      → ListsCutLines x (n + 1) lines cuts
      → ListsCutLines x n (line ∷ lines) cuts
  cut : {n : ℕ} {line : List ℕ} {texts : List (List ℕ)} {labels : List Label} {lines : List (List ℕ)}
      {cuts : List CutLine}
      → (IsPassed line → ⊥) → IsCutLine line texts → Along (IsLabel x) texts labels → ListsCutLines x (n + 1) lines cuts
      → ListsCutLines x n (line ∷ lines) (record { number = n; labels = labels } ∷ cuts)

-- a label is bad: it needs the number of a way, or it does not and names none
pub data IsBadLabel (x : Elaborated) : Why → List ℕ → Type 0 where
  needs_way : {text : List ℕ} → NeedsWay x text → IsBadLabel x LacksWay text
  no_event : {text : List ℕ} → (NeedsWay x text → ⊥) → ((l : Label) → IsLabel x text l → ⊥)
      → IsBadLabel x NamesNoEvent text

-- this label is bad, and none before it is
pub record IsFirstBadLabel (x : Elaborated) (texts : List (List ℕ)) (why : Why) : Type 0 where
  pub place : ℕ
  pub text : List ℕ
  pub stands : Stands texts place text
  pub bad : IsBadLabel x why text
  pub before : (k : ℕ) (other : List ℕ) (w : Why) → k < place → Stands texts k other → IsBadLabel x w other → ⊥

-- the line is bad: it is not skipped, and it is no cut, or one whose first bad label is bad for this reason
pub data IsBadCut (x : Elaborated) : Why → List ℕ → Type 0 where
  no_cut : {line : List ℕ} → (IsPassed line → ⊥) → ((texts : List (List ℕ)) → IsCutLine line texts → ⊥)
      → IsBadCut x IsNoCommand line
  bad_label : {line : List ℕ} {texts : List (List ℕ)} {why : Why} → (IsPassed line → ⊥) → IsCutLine line texts
      → IsFirstBadLabel x texts why
      → IsBadCut x why line

-- the line at place n is bad, and none before it is
pub record IsFirstBadCut (x : Elaborated) (lines : List (List ℕ)) (n : ℕ) (why : Why) : Type 0 where
  pub line : List ℕ
  pub stands : Stands lines n line
  pub bad : IsBadCut x why line
  pub before : (k : ℕ) (other : List ℕ) (w : Why) → k < n → Stands lines k other → IsBadCut x w other → ⊥

-- the cut lines that a list gives, or its first bad line
pub data CutList (text : List ℕ) (x : Elaborated) : Result (List CutLine) BadLine → Type 0 where
  gives : {cuts : List CutLine} → ListsCutLines x 1 (lines_of text) cuts → CutList text x (Ok cuts)
  bad : {n : ℕ} {why : Why} → IsFirstBadCut x (lines_of text) n why
      → CutList text x (Err (record { number = n + 1; why = why }))
