-- How far a script is read.
use Rattle.std.proofs.Common.{◌≡◌, ◌+◌, ◌<◌, ℕ, zero, suc, List, [], ◌∷◌, ◌++◌, Option, Some, None, Result, Ok, Err, IfErr, Vec, Global, length, map, refl, sym, ◌∙◌, ap, subst, arith, inl, inr, append_assoc}
use Rattle.std.proofs.lemmas.List.{append-nil, length-append, map-append}
use Rattle.std.specs.Option.{MatchOption}
use denote.Bor.{Bor}
use Rattle.ar_base.specs.Lists.{Stands, IsOneOf}
use Rattle.ar_base.proofs.Standing.{stands_none, stands_split, stands_next, one_none, one_split, one_cases}
use Rattle.ar_meaning.specs.Runs.{Command, Label}
use Rattle.ar_meaning.specs.Runs as runs
use Rattle.gts_core.specs.declared.system.GtsParts.{GtsParts}
use Rattle.gts_flatten.specs.Elaborating.{Elaborated}
use Rattle.job_inputs.specs.Flat.{AreFirable, IsWayOfSystem, IsBadScript, AnswersScript}
use Rattle.job_inputs.specs.Labels.{IsLabel, NeedsWay}
use Rattle.job_inputs.specs.Lines.{ScriptLine, Skipped, Fires, GoesBack, Shows, ListsEnabled, NoCommand, lines_of, line_said}
use Rattle.job_inputs.specs.Scripts.{GivesCommands, IsBad, no_command, needs_way, no_event, Why, IsNoCommand, LacksWay, NamesNoEvent, Commands, gives, bad}
use Rattle.job_inputs.specs.Scripts as scripts
use Rattle.job_inputs.specs.Reads.{AddsCommands, AnswersLabel, ReachedLine, IsBadLine, lines_left, bytes_left}
use Rattle.job_inputs.specs.declared.commands.Command.{Command as Code}
use Rattle.job_inputs.specs.declared.commands.Command.TheVariants as code
use Rattle.job_inputs.specs.declared.faults.ScriptFault.{ScriptFault}
use Rattle.job_inputs.specs.declared.faults.ScriptFault.TheVariants as faults

-- Lines that are not bad

module _ {x : Elaborated} {line : List ℕ} where
  -- a line that says anything but a label
  not_bad : (said : ScriptLine) → line_said line ≡ said → (said ≡ NoCommand → ⊥) → ((label : List ℕ) → said ≡ Fires
      label → ⊥) → (why : Why) → IsBad x why line → ⊥
  not_bad said e n f why (no_command i) = n (sym e ∙ i)
  not_bad said e n f why (needs_way {label = label} i h) = f label (sym e ∙ i)
  not_bad said e n f why (no_event {label = label} i h k) = f label (sym e ∙ i)

  -- a line whose label names a way
  label_good : (label : List ℕ) (k : Label) → line_said line ≡ Fires label → IsLabel x label k → (NeedsWay x label → ⊥)
      → (why : Why) → IsBad x why line → ⊥
  label_good label k e is way why (no_command i) = let z = sym e ∙ i in cc
  label_good label k e is way why (needs_way {label = other} i h) =
      let z = sym e ∙ i in let same : other ≡ label = cc in way (subst (λ (t : List ℕ). NeedsWay x t) same h)
  label_good label k e is way why (no_event {label = other} i h f) =
      let z = sym e ∙ i in let same : label ≡ other = cc in f k (subst (λ (t : List ℕ). IsLabel x t k) same is)

  pub adds_nothing : (cs : List Command) → line_said line ≡ Skipped → AddsCommands x line cs cs
  adds_nothing cs e = record {
    added = [];
    is = sym (append-nil cs);
    gives = λ lines more g. scripts.skips e g;
    good = not_bad Skipped e (λ i. cc i) (λ label i. cc i);
  }

  pub adds_back : (cs : List Command) → line_said line ≡ GoesBack → AddsCommands x line cs (cs ++ runs.Back ∷ [])
  adds_back cs e = record {
    added = runs.Back ∷ [];
    is = refl;
    gives = λ lines more g. scripts.goes_back e g;
    good = not_bad GoesBack e (λ i. cc i) (λ label i. cc i);
  }

  pub adds_show : (cs : List Command) → line_said line ≡ Shows → AddsCommands x line cs (cs ++ runs.Show ∷ [])
  adds_show cs e = record {
    added = runs.Show ∷ [];
    is = refl;
    gives = λ lines more g. scripts.shows e g;
    good = not_bad Shows e (λ i. cc i) (λ label i. cc i);
  }

  pub adds_list : (cs : List Command) → line_said line ≡ ListsEnabled → AddsCommands x line cs (cs ++ runs.Enabled ∷ [])
  adds_list cs e = record {
    added = runs.Enabled ∷ [];
    is = refl;
    gives = λ lines more g. scripts.lists e g;
    good = not_bad ListsEnabled e (λ i. cc i) (λ label i. cc i);
  }

  pub adds_fire : (cs : List Command) (label : List ℕ) (k : Label) → line_said line ≡ Fires label → IsLabel x label k
      → (NeedsWay x label → ⊥)
      → AddsCommands x line cs (cs ++ runs.Fire k ∷ [])
  adds_fire cs label k e is way = record {
    added = runs.Fire k ∷ [];
    is = refl;
    gives = λ lines more g. scripts.fires e is g;
    good = label_good label k e is way;
  }

-- the commands with one more, by their images
pub one_added : {A : Type 0} (f : A → Command) (x : Elaborated) (line : List ℕ) (old new : List A) (c : A)
    → new ≡ old ++ c ∷ [] → AddsCommands x line (map f old) (map f old ++ f c ∷ []) → AddsCommands x line (map f old) (map f new)
one_added f x line old new c e a =
    subst (λ (z : List Command). AddsCommands x line (map f old) z) (sym (ap (map f) e ∙ map-append f old (c ∷ []))) a

-- the ways of one command more
pub firable_more : (p : GtsParts) (old new : List Code) (c : Code) → new ≡ old ++ c ∷ [] → IsWayOfSystem p c
    → AreFirable p old → AreFirable p new
firable_more p old new c e is h = record {
  each = λ w o. elim (one_split old (c ∷ []) (code.Fire w) (subst (λ (z : List Code). IsOneOf z (code.Fire w)) e o)) [
    | inl q ↦ h.each w q
    | inr q ↦ elim (one_cases c [] (code.Fire w) q)
        [ inl i ↦ subst (λ (z : Code). IsWayOfSystem p z) i is | inr r ↦ absurd (one_none (code.Fire w) r) ]
  ];
}

-- Line by line

pub reach_none : (x : Elaborated) (all : List (List ℕ)) (cs : List Command) → cs ≡ [] → ReachedLine x all all cs 1
reach_none x all cs e = record {
  done = [];
  split = refl;
  counts = omega arith;
  given = λ lines more g. subst (λ (z : List Command). GivesCommands x lines (z ++ more)) (sym e) g;
  good = λ k line why s b. stands_none k line s;
}

pub reach_more : {x : Elaborated} (all rest left : List (List ℕ)) (line : List ℕ) (cs ds : List Command) (number : ℕ)
    → left ≡ line ∷ rest
    → ReachedLine x all left cs number → AddsCommands x line cs ds → ReachedLine x all rest ds (number + 1)
reach_more {x = x} all rest left line cs ds number e r a = record {
  done = r.done ++ line ∷ [];
  split = r.split ∙ ap (λ z. r.done ++ z) e ∙ sym (append_assoc r.done (line ∷ []) rest);
  counts = omega (arith, r.counts, length-append r.done (line ∷ []));
  given = λ lines more g.
      subst (λ (z : List (List ℕ)). GivesCommands x z (ds ++ more)) (sym (append_assoc r.done (line ∷ []) lines))
      (subst (λ (z : List Command). GivesCommands x (r.done ++ (line ∷ lines)) z)
      (sym (ap (λ z. z ++ more) a.is ∙ append_assoc cs a.added more))
      (r.given (line ∷ lines) (a.added ++ more) (a.gives lines more g)));
  good = λ k other why s b. elim (stands_split r.done (line ∷ []) k other s) [
    | inl q ↦ r.good k other why q b
    | inr q ↦ here q.0 other why q.2 b
  ];
}
  where
    here : (j : ℕ) (other : List ℕ) (why : Why) → Stands (line ∷ []) j other → IsBad x why other → ⊥
    here zero other why s b = let same : line ≡ other = cc in a.good why (subst (λ (z : List ℕ). IsBad x why z) (sym same) b)
    here (suc j) other why s b = stands_none j other s

pub reach_end : {x : Elaborated} (script : List ℕ) (left : List (List ℕ)) (cs : List Command) (number : ℕ) → left ≡ []
    → ReachedLine x (lines_of script) left cs number → Commands script x (Ok cs)
reach_end {x = x} script left cs number e r =
    gives (subst (λ (z : List (List ℕ)). GivesCommands x z cs) (sym (r.split ∙ ap (λ z. r.done ++ z) e))
    (subst (λ (z : List Command). GivesCommands x (r.done ++ []) z) (append-nil cs) (r.given [] [] scripts.none)))

first_bad : {x : Elaborated} (script : List ℕ) (rest left : List (List ℕ)) (line : List ℕ) (cs : List Command)
    (number n : ℕ) (why : Why) → left ≡ line ∷ rest
    → ReachedLine x (lines_of script) left cs number → n ≡ number → IsBad x why line
    → Commands script x (Err (record { number = n; why = why }))
first_bad {x = x} script rest left line cs number n why e r i h =
    let split = r.split ∙ ap (λ z. r.done ++ z) e in
    subst (λ (k : ℕ). Commands script x (Err (record { number = k; why = why }))) (r.counts ∙ sym i)
    (bad (record {
      line = line;
      stands = subst (λ (z : List (List ℕ)). Stands z (length r.done) line) (sym split) (stands_next r.done line rest);
      bad = h;
      before = λ k other w l s b. elim (stands_split r.done (line ∷ rest) k other
          (subst (λ (z : List (List ℕ)). Stands z k other) split s)) [
            | inl p ↦ r.good k other w p b
            | inr p ↦ absurd (omega (arith, l, p.1))
          ];
    }))

-- a bad line is the first one
pub reach_bad : {x : Elaborated} (script : List ℕ) (rest left : List (List ℕ)) (line : List ℕ) (cs : List Command)
    (number : ℕ) (f : ScriptFault) → left ≡ line ∷ rest
    → ReachedLine x (lines_of script) left cs number → IsBadLine x line number f → IsBadScript x script f
reach_bad script rest left line cs number (faults.Line n) e r h =
    first_bad script rest left line cs number n IsNoCommand e r h.0 h.1
reach_bad script rest left line cs number (faults.Unknown n) e r h =
    first_bad script rest left line cs number n NamesNoEvent e r h.0 h.1
reach_bad script rest left line cs number (faults.Which n) e r h =
    first_bad script rest left line cs number n LacksWay e r h.0 h.1
reach_bad script rest left line cs number faults.Memory e r h = tt

-- what is left behind the first line
pub left_first : (rest o : Option (Bor (List ℕ))) (bytes : Bor (List ℕ)) (line : List ℕ) → rest ≡ Some bytes
    → MatchOption o (lines_of bytes.now ≡ line ∷ [])
    (λ more. (lines_of bytes.now ≡ line ∷ lines_of more.now) × (length more.now < length bytes.now))
    → lines_left rest ≡ line ∷ lines_left o
left_first rest None bytes line e h = ap lines_left e ∙ h
left_first rest (Some more) bytes line e h = ap lines_left e ∙ h.0

pub left_less : (rest o : Option (Bor (List ℕ))) (bytes : Bor (List ℕ)) (line : List ℕ) → rest ≡ Some bytes
    → MatchOption o (lines_of bytes.now ≡ line ∷ [])
    (λ more. (lines_of bytes.now ≡ line ∷ lines_of more.now) × (length more.now < length bytes.now))
    → bytes_left o < bytes_left rest
left_less rest None bytes line e h = omega (arith, ap bytes_left e)
left_less rest (Some more) bytes line e h = omega (arith, ap bytes_left e, h.1)

-- Faults

-- a label that names no way makes its line bad
pub label_bad : (x : Elaborated) (p : GtsParts) (line label : List ℕ) (number : ℕ) (f : ScriptFault)
    → line_said line ≡ Fires label
    → AnswersLabel x p label number (Err f) → IsBadLine x line number f
label_bad x p line label number (faults.Line n) e h = absurd h
label_bad x p line label number (faults.Unknown n) e h = (h.0, no_event e h.1 h.2)
label_bad x p line label number (faults.Which n) e h = (h.0, needs_way e h.1)
label_bad x p line label number faults.Memory e h = tt

-- the fault that was passed on
pub line_passed : {A : Type 0} (x : Elaborated) (line : List ℕ) (number : ℕ) (r : Result A ScriptFault)
    (d e : ScriptFault) → r ≡ Err d → d ≡ e
    → IsBadLine x line number e → IfErr r (λ f. IsBadLine x line number f)
line_passed {A = A} x line number r d e i j h =
    let P : Result A ScriptFault → Type 0 = λ z. IfErr z (λ f. IsBadLine x line number f) in
    let Q : ScriptFault → Type 0 = λ z. IsBadLine x line number z in subst P (sym i) (subst Q (sym j) h)

pub script_passed : (x : Elaborated) (p : GtsParts) (script : List ℕ) (r : Result (Vec Code Global) ScriptFault)
    (d e : ScriptFault) → r ≡ Err d → d ≡ e
    → IsBadScript x script e → AnswersScript x p script r
script_passed x p script r d e i j h =
    let Q : ScriptFault → Type 0 = λ z. IsBadScript x script z in
    subst (λ (z : Result (Vec Code Global) ScriptFault). AnswersScript x p script z) (sym i) (subst Q (sym j) h)

pub firable_none : (p : GtsParts) (cs : List Code) → cs ≡ [] → AreFirable p cs
firable_none p cs e = record {
  each = λ w o. absurd
      (one_none (code.Fire w) (subst (λ (z : List Code). IsOneOf z (code.Fire w)) e o));
}
