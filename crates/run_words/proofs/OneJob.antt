-- Words give at most one job.
use Rattle.std.proofs.Common.{◌≡◌, ◌∙◌, ◌<◌, ◌^◌, ℕ, List, [], ◌∷◌, arith, refl, sym, ap, subst, codes}
use Rattle.std.specs.Prelude.{false, Option, Some, None, if◌then◌else◌}
use Rattle.std.specs.Str.{bytes_eq}
use Rattle.std.proofs.lemmas.Fmt.{decimal_injective}
use Rattle.std.proofs.lemmas.Option.{same_Some}
use Rattle.run_words.specs.Lines.{CommandWords}
use Rattle.run_words.specs.Commands.{shape_of, word_of}
use Rattle.run_words.specs.Jobs.{IsJobOf, IsAsked, IsAskedOf, IsNodes, IsOrder, IsNumberText, NamesFiles}
use Rattle.run_words.specs.JobsInside.{IsJob}
use Rattle.run_words.specs.declared.jobs.Asked.{Asked}
use Rattle.run_words.specs.declared.jobs.Job.{Job}
use Rattle.run_words.specs.declared.shapes.Form.{Form}
use Rattle.run_words.specs.declared.shapes.Form.TheVariants as form
use Rattle.run_words.specs.declared.shapes.Shape.{Shape}
use Rattle.run_words.specs.declared.verbs.Verb.{Verb}
use Rattle.run_words.specs.declared.verbs.Verb.TheVariants.{Check, Flat, Replay, Fragment, Equations, Cuts, Make, Explain, CheckCuts, Modules}

-- the command that a word names, the last one for any other word
command_named : List ℕ → Verb
command_named w = if bytes_eq w (codes "check") then Check else if bytes_eq w (codes "flat") then Flat
    else if bytes_eq w (codes "replay") then Replay
    else if bytes_eq w (codes "fragment") then Fragment else if bytes_eq w (codes "equations") then Equations
    else if bytes_eq w (codes "cuts") then Cuts
    else if bytes_eq w (codes "make") then Make else if bytes_eq w (codes "explain") then Explain
    else if bytes_eq w (codes "checkcuts") then CheckCuts else Modules

named_back : (v : Verb) → command_named (word_of v) ≡ v
unfolding command_named
named_back Check = refl
named_back Flat = refl
named_back Replay = refl
named_back Fragment = refl
named_back Equations = refl
named_back Cuts = refl
named_back Make = refl
named_back Explain = refl
named_back CheckCuts = refl
named_back Modules = refl

one_and_same : {A : Type 0} {a b : A} → a ∷ [] ≡ b ∷ [] → a ≡ b
one_and_same e = cc

two_same : {A : Type 0} {a b d e : A} → a ∷ b ∷ [] ≡ d ∷ e ∷ [] → (a ≡ d) × (b ≡ e)
two_same e = (cc, cc)

same_command : (u v : Verb) → word_of u ≡ word_of v → u ≡ v
same_command u v e = sym (named_back u) ∙ ap command_named e ∙ named_back v

same_number : (least most : ℕ) (word : List ℕ) (m n : ℕ) → most < 2 ^ 64 → IsNumberText least most word m
    → IsNumberText least most word n → m ≡ n
same_number least most word m n small a b =
    decimal_injective m n (omega (arith, a.at_most, small)) (omega (arith, b.at_most, small)) (sym a.digits ∙ b.digits)

record SameFiles (ma mb : List ℕ) (sa sb : Option (List ℕ)) (na nb : ℕ) : Type 0 where
  model : ma ≡ mb
  script : sa ≡ sb
  number : na ≡ nb

same_files : (f : Form) (files : List (List ℕ)) (ma mb : List ℕ) (sa sb : Option (List ℕ)) (na nb : ℕ)
    → NamesFiles f files ma sa na → NamesFiles f files mb sb nb
    → SameFiles ma mb sa sb na nb
same_files form.Model files ma mb sa sb na nb a b =
    record { model = one_and_same (sym a.0 ∙ b.0); script = a.1 ∙ sym b.1; number = a.2 ∙ sym b.2 }
same_files form.ModelAndScript files ma mb sa sb na nb a b =
    let both = two_same (sym a.0.1 ∙ b.0.1) in
    record { model = both.0; script = a.0.2 ∙ ap (λ t. Some t) both.1 ∙ sym b.0.2; number = a.1 ∙ sym b.1 }
same_files form.ModelAndList files ma mb sa sb na nb a b =
    let both = two_same (sym a.0.1 ∙ b.0.1) in
    record { model = both.0; script = a.0.2 ∙ ap (λ t. Some t) both.1 ∙ sym b.0.2; number = a.1 ∙ sym b.1 }
same_files form.Number files ma mb sa sb na nb a b =
    let word = one_and_same (sym a.0.1 ∙ b.0.1) in
    record {
      model = a.1 ∙ sym b.1;
      script = a.2 ∙ sym b.2;
      number = same_number 1 200 b.0.0 na nb (omega arith) (subst (λ w. IsNumberText 1 200 w na) word a.0.2) b.0.2;
    }

same_nodes : (s : Shape) (given : Option (List ℕ)) (m n : ℕ) → IsNodes s given m → IsNodes s given n → m ≡ n
same_nodes s None m n a b = a ∙ sym b
same_nodes s (Some text) m n a b = same_number 1 16777216 text m n (omega arith) a.1 b.1

same_job : (a b : Job) → a.command ≡ b.command → SameFiles a.model b.model a.script b.script a.number b.number
    → a.nodes ≡ b.nodes
    → a.main ≡ b.main → a.observer ≡ b.observer → a.value ≡ b.value → a.dropped ≡ b.dropped → a ≡ b
same_job a b command files nodes main observer value dropped =
    ap (λ v. record a { command = v }) command
    ∙ ap (λ t. record b {
      model = t;
      script = a.script;
      main = a.main;
      observer = a.observer;
      value = a.value;
      dropped = a.dropped;
      nodes = a.nodes;
      number = a.number;
    }) files.model
    ∙ ap (λ t. record b {
      script = t;
      main = a.main;
      observer = a.observer;
      value = a.value;
      dropped = a.dropped;
      nodes = a.nodes;
      number = a.number;
    }) files.script
    ∙ ap (λ t. record b {
      main = t;
      observer = a.observer;
      value = a.value;
      dropped = a.dropped;
      nodes = a.nodes;
      number = a.number;
    }) main
    ∙ ap (λ t. record b { observer = t; value = a.value; dropped = a.dropped; nodes = a.nodes; number = a.number })
    observer
    ∙ ap (λ t. record b { value = t; dropped = a.dropped; nodes = a.nodes; number = a.number }) value
    ∙ ap (λ t. record b { dropped = t; nodes = a.nodes; number = a.number }) dropped
    ∙ ap (λ t. record b { nodes = t; number = a.number }) nodes
    ∙ ap (λ t. record b { number = t }) files.number

pub of_one_line : (l : CommandWords) (a b : Job) → IsJobOf l a → IsJobOf l b → a ≡ b
of_one_line l a b x y =
    let command = same_command a.command b.command (same_Some _ _ (sym x.command ∙ y.command)) in
    let shape = ap shape_of command in
    let files = same_files (shape_of b.command).files l.files a.model b.model a.script b.script a.number b.number
    (subst (λ (s : Shape). NamesFiles s.files l.files a.model a.script a.number) shape x.files) y.files in
    let nodes = same_nodes (shape_of b.command) l.nodes a.nodes b.nodes
    (subst (λ (s : Shape). IsNodes s l.nodes a.nodes) shape x.nodes) y.nodes in
    same_job a b command files nodes (x.main ∙ sym y.main) (x.observer ∙ sym y.observer) (x.value ∙ sym y.value)
    (x.dropped ∙ sym y.dropped)

pub one_job_of : (words : List (List ℕ)) (a b : Job) → IsJob words a → IsJob words b → a ≡ b
one_job_of words a b x y = of_one_line _ a b x.job_of y.job_of

-- one option gives at most one order
same_order : (s : Shape) (given : Option (List ℕ)) (m n : Option ℕ) → IsOrder s given m → IsOrder s given n → m ≡ n
same_order s None m n a b = a ∙ sym b
same_order s (Some text) m n a b =
    a.1.1 ∙ ap (λ k. Some k) (same_number 1 1000 text a.1.0 b.1.0 (omega arith) a.1.2 b.1.2) ∙ sym b.1.1

same_asked : (a b : Asked) → a.job ≡ b.job → a.order ≡ b.order → a ≡ b
same_asked a b job order = ap (λ j. record a { job = j }) job ∙ ap (λ o. record b { order = o }) order

of_one_asking : (l : CommandWords) (a b : Asked) → IsAskedOf l a → IsAskedOf l b → a ≡ b
of_one_asking l a b x y =
    let job = of_one_line l a.job b.job x.job y.job in
    same_asked a b job (same_order (shape_of b.job.command) l.order a.order b.order
    (subst (λ (j : Job). IsOrder (shape_of j.command) l.order a.order) job x.order) y.order)

pub one_asked_of : (words : List (List ℕ)) (a b : Asked) → IsAsked words a → IsAsked words b → a ≡ b
one_asked_of words a b x y = of_one_asking _ a b x.asked_of y.asked_of

-- where the option is not used there is no order
pub unused : (s : Shape) (given : Option (List ℕ)) (order : Option ℕ) → given ≡ None → IsOrder s given order → order ≡ None
unused s None order e is = is
unused s (Some text) order e is = cc

-- and where there is none it is not used
pub not_used : (s : Shape) (given : Option (List ℕ)) (order : Option ℕ) → order ≡ None → IsOrder s given order → given ≡ None
not_used s None order e is = refl
not_used s (Some text) order e is = let is_some = is.1.1 in cc

pub not_taken : (s : Shape) (given : Option (List ℕ)) (order : Option ℕ) → s.order ≡ false → IsOrder s given order
    → order ≡ None
not_taken s None order e is = is
not_taken s (Some text) order e is = let taken = is.0 in cc

pub none_asked : (s : Shape) (given : Option (List ℕ)) → given ≡ None → IsOrder s given None
none_asked s None e = refl
none_asked s (Some text) e = cc

pub job_asks : (words : List (List ℕ)) (job : Job) → IsJob words job → IsAsked words (record { job = job; order = None })
job_asks words job is = record {
  taken = is.taken;
  asked_of = record { job = is.job_of; order = none_asked (shape_of job.command) _ is.without_order };
}

pub asked_gives : (words : List (List ℕ)) (asked : Asked) → IsAsked words asked → asked.order ≡ None → IsJob words asked.job
asked_gives words asked is none = record {
  taken = is.taken;
  job_of = is.asked_of.job;
  without_order = not_used (shape_of asked.job.command) _ asked.order none is.asked_of.order;
}
