-- No two names of a text that is read have one text.
use Rattle.std.proofs.Common.{ℕ, List, [], ◌∷◌, sym, subst}
use Rattle.ar_base.specs.Lists.{AreDifferent}
use Rattle.ar_base.specs.Texts.{Interns, known, added}
use Rattle.ar_base.proofs.Standing.{stands_none, different_more}
use Rattle.expression_grammar.specs.Words.{Tokens}
use Rattle.ar_parser.specs.Models.{IsNumbered, name, other, AreNamesNumbered, ReadsWithin}
use Rattle.ar_syntax.specs.declared.items.Model.{Model}

interned_different : {old new : List (List ℕ)} {text : List ℕ} → AreDifferent old → Interns old text new
    → AreDifferent new
interned_different d (known o) = d
interned_different {old = old} {text = text} d (added none) = different_more old text d none

numbered_different : (bytes : List ℕ) (old : List (List ℕ)) (ls : Tokens) (new : List (List ℕ))
    → AreNamesNumbered bytes old ls new → AreDifferent old → AreDifferent new
numbered_different bytes old [] new h d = subst AreDifferent (sym h) d
numbered_different bytes old (l ∷ ls) new h d = numbered_different bytes h.0 ls new h.2 (one h.0 h.1)
  where
    one : (mid : List (List ℕ)) → IsNumbered bytes old l mid → AreDifferent mid
    one mid (name k interns stands) = interned_different d interns
    one mid (other k same number) = subst AreDifferent (sym same) d

pub names_different : (n : ℕ) (bytes : List ℕ) (model : Model) → ReadsWithin n bytes model → AreDifferent model.names
names_different n bytes model r =
    numbered_different bytes [] r.lexemes model.names r.are.names_are
    (record { one = λ i j a h k. absurd (stands_none i a h) })
