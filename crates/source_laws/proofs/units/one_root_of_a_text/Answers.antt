use Rattle.std.proofs.Common.{ℕ, List, sym, subst}
use Rattle.ar_base.specs.Lists.{AreDifferent}
use Rattle.source_laws.proofs.Mains.{main_one}
use Rattle.source_laws.proofs.Numbered.{names_different}
use Rattle.source_laws.proofs.units.one_root_of_a_text.Goals as goal

pub returns : goal.returns
returns c = λ text k x y main m n h i p q kept.
    let seen = c.texts_are_seen_alike.ensures text k x y main m n h i p q in
    let different =
    subst (λ (z : List (List ℕ)). AreDifferent z) (sym q.names) (names_different k text y i) in
    record {
      declared = seen.declared;
      members = seen.members;
      main = main_one y n.names n.declared main q.declared different kept m.main n.main seen.is_main q.is_main;
      names = seen.names;
    }
