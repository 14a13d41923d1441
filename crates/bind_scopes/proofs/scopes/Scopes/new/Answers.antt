use Rattle.std.proofs.Common.{ℕ, List, sym, subst}
use Rattle.ar_base.specs.Lists.{AreDifferent}
use Rattle.ar_base.specs.Numbers.{NameId}
use Rattle.hierarchy.specs.Units.{numbers}
use Rattle.bind_scopes.proofs.NameSets.{scopes_of}
use Rattle.bind_scopes.proofs.SymbolPlaces.{symbols_different}
use Rattle.bind_scopes.proofs.scopes.Scopes.new.Goals as goal

pub numbers_of-requires : goal.numbers_of-requires
numbers_of-requires c =
    let kept = c.requires.is_tree.table in
    subst (λ (list : List NameId). AreDifferent (numbers list)) (sym c.deref.ensures.value)
    (subst (λ (xs : List ℕ). AreDifferent xs) (sym kept.table.holds.symbols) (symbols_different kept.kept))

pub returns-clause-scopes : goal.returns-clause-scopes
returns-clause-scopes c = λ m units is.
    scopes_of m units _ is (rw c.deref.ensures.value at c.in_ok-symbols.ensures.at)
    (rw c.deref.ensures.value at c.in_ok-symbols.ensures.all) (c.in_ok-members.ensures m units is)
    (rw c.deref-2.ensures.value at c.in_ok-types.ensures) c.in_ok-index.ensures
