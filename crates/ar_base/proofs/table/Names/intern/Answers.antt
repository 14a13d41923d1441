-- A known text keeps the table, and a new one goes last.
use Rattle.std.proofs.Common.{◌≡◌, ℕ, ◌<◌, ◌-◌, ◌^◌, List, Some, [], ◌∷◌, ◌++◌, length, take, sym, ap, ◌∙◌, subst, if◌then◌else◌, arith}
use Rattle.std.specs.Global.{Global}
use Rattle.std.specs.Map.{lookup}
use Rattle.std.specs.Vec.{vec_len}
use Rattle.std.specs.declared.string.String.{String}
use Rattle.std.specs.HashMap.{get_by_text}
use Rattle.std.specs.Str.{bytes_eq}
use Rattle.std.specs.String.{string_bytes}
use Rattle.std.proofs.lemmas.List.{length-map, map-append, take_at}
use Rattle.ar_base.specs.Lists.{Stands, HasNo}
use Rattle.ar_base.specs.Texts.{Interns, known, added}
use Rattle.ar_base.specs.TextsInside.{bytes_of_all, AreUtf8, NumbersTexts}
use Rattle.ar_base.proofs.Standing.{stands_next}
use Rattle.ar_base.proofs.Tables.{differ, numbered_more, utf8_more}
use Rattle.ar_base.proofs.table.Names.intern.Goals as goal

pub returns-in-Some-clause-texts : goal.returns-in-Some-clause-texts
returns-in-Some-clause-texts c = known (record { place = c.in-Some.name.n; stands = c.in-Some.ensures.found })

-- the texts before the new one
abbrev before : goal.After-new → List (List ℕ)
before c = bytes_of_all c.self.inside.texts.items

is_new : (c : goal.After-new) → HasNo (before c) (λ t. t ≡ c.args.text.now)
is_new c = subst (λ (all : List (List ℕ)). HasNo all (λ t. t ≡ c.args.text.now)) (sym c.self.view_is)
    c.in_default.ensures.absent

texts : (c : goal.After-new) → bytes_of_all c.push.new.self.items ≡ before c ++ c.args.text.now ∷ []
texts c = ap bytes_of_all c.in_ok-push.ensures.items
    ∙ map-append string_bytes c.self.inside.texts.items (c.in_ok-from_str.field-0 ∷ [])
    ∙ ap (λ (t : List ℕ). before c ++ t ∷ []) c.in_ok-from_str.ensures.ok

number : (c : goal.After-new) → c.len-number.result ≡ length (before c)
number c =
    let place = c.len-number.ensures in
    let long = length-map c.self.inside.texts.items string_bytes in
    omega arith

numbered : (c : goal.After-new) → NumbersTexts (bytes_of_all c.push.new.self.items) (get_by_text c.enter.new.numbers)
numbered c = subst (λ (all : List (List ℕ)). NumbersTexts all (get_by_text c.enter.new.numbers)) (sym (texts c))
    (numbered_more (before c) (get_by_text c.self.inside.numbers) c.self.invariant.2 c.args.text.now
    (get_by_text c.enter.new.numbers) (is_new c) (λ t. c.in-Ok.ensures.entered t
    ∙ ap (λ (n : ℕ). if bytes_eq c.args.text.now t then Some n else get_by_text c.self.inside.numbers t) (number c)))

pub invariant_of-self-in-Ok : goal.invariant_of-self-in-Ok
invariant_of-self-in-Ok c =
    let room = c.requires in
    let was : length c.args.self.now ≡ length c.self.inside.texts.items =
    ap length (sym c.self.view_is) ∙ length-map c.self.inside.texts.items string_bytes in
    let longer = c.in_ok-push.ensures.len in (
      omega arith,
      subst AreUtf8 (sym (texts c)) (utf8_more (before c) c.args.text.now c.self.invariant.1 c.utf8.text),
      numbered c,
    )

pub returns-in-Ok-clause-number : goal.returns-in-Ok-clause-number
returns-in-Ok-clause-number c =
    rw c.new.ensures (subst (λ (all : List (List ℕ)). Stands all c.len-number.result c.args.text.now) (sym (texts c))
    (subst (λ (n : ℕ). Stands (before c ++ c.args.text.now ∷ []) n c.args.text.now) (sym (number c))
    (stands_next (before c) c.args.text.now [])))

pub returns-in-Ok-clause-texts : goal.returns-in-Ok-clause-texts
returns-in-Ok-clause-texts c =
    subst (λ (all : List (List ℕ)). Interns c.args.self.now c.args.text.now all)
    (ap (λ (all : List (List ℕ)). all ++ c.args.text.now ∷ []) (sym c.self.view_is) ∙ sym (texts c))
    (added c.in_default.ensures.absent)

pub returns-in-Ok-clause-different : goal.returns-in-Ok-clause-different
returns-in-Ok-clause-different c =
    differ (bytes_of_all c.push.new.self.items) (get_by_text c.enter.new.numbers) (numbered c)

-- the texts after the new one was taken back
kept : (c : goal.Joined-pop) → c.pop.new.self.items ≡ c.self.inside.texts.items
kept c =
    let longer = c.in_ok-push.ensures.len in
    c.pop.ensures.rest
    ∙ ap (take (vec_len c.push.new.self - 1)) c.in_ok-push.ensures.items
    ∙ take_at c.self.inside.texts.items (c.in_ok-from_str.field-0 ∷ []) (vec_len c.push.new.self - 1) (omega arith)

pub invariant_of-self-in-Err : goal.invariant_of-self-in-Err
invariant_of-self-in-Err c = (
  subst (λ (texts : List (String Global)). length texts < 2 ^ 32) (sym (kept c)) c.self.invariant.0,
  subst (λ (texts : List (String Global)). AreUtf8 (bytes_of_all texts)) (sym (kept c)) c.self.invariant.1,
  subst (λ (texts : List (String Global)). NumbersTexts (bytes_of_all texts) (get_by_text c.enter.new.numbers))
      (sym (kept c))
      (subst (λ (entries : List (String Global × ℕ)). NumbersTexts (bytes_of_all c.self.inside.texts.items)
      (λ t. lookup (λ k. bytes_eq t (string_bytes k)) entries)) (sym c.in-Err.ensures.err) c.self.invariant.2),
)

pub returns-in-Err-clause-err : goal.returns-in-Err-clause-err
returns-in-Err-clause-err c = ap bytes_of_all (kept c) ∙ c.self.view_is
