use Rattle.std.proofs.Common.{◌≡◌, ℕ, suc, List, [], ◌∷◌, Option, Some, None, slice_get, sym, ap, subst, ◌∙◌}
use Rattle.ar_base.specs.Numbers.{NameId}
use Rattle.hierarchy.specs.Models.{RootedModel}
use Rattle.hierarchy.specs.Units.{UnitPath, kind_at, start_of, numbers}
use Rattle.unit_walks.specs.Forms.{IsFormsFor, form_at}
use Rattle.unit_walks.specs.Tables.{table_paths, StandsIf, IsWalkTable}
use Rattle.unit_walks.specs.declared.forms.Forms.{Forms}
use Rattle.unit_walks.specs.declared.tables.Table.{Table}
use Rattle.unit_walks.specs.declared.tables.Met.{Met}
use Rattle.unit_walks.specs.Ends.{NameEnds, NamesEnd, clones_none, stops}
use Rattle.unit_walks.proofs.Running.{fresh_absent}
use Rattle.unit_walks.proofs.growing.is_lost.Goals as goal

-- names of which the first ends in nothing
begins : (m : RootedModel) (n : ℕ) (u : UnitPath) (names : List NameId) (first : NameId)
    → Some first ≡ slice_get names 0 → NameEnds m n u first.n (kind_at m u first.n) None
    → NamesEnd m n (Some u) (numbers names) None
begins m n u [] first e ends = cc
begins m n u (x ∷ xs) first e ends =
    let same : first ≡ x = cc in
    subst (λ (z : NameId). NamesEnd m n (Some u) (z.n ∷ numbers xs) None) same (stops ends)

-- names of which the first is nothing in the unit where they begin
nowhere : (m : RootedModel) (forms : Forms) (t : Table) (at : ℕ) (there : Met) (first : NameId) (names : List NameId)
    (o : Option UnitPath) → IsFormsFor m forms → IsWalkTable m [] t → StandsIf (table_paths t) (Some at) o
    → Some there ≡ slice_get t.units.items at → None ≡ form_at forms there.body.n first.n
    → Some first ≡ slice_get names 0 → (h : ℕ) × NamesEnd m h o (numbers names) None
nowhere m forms t at there first names None f k s e g h = absurd s
nowhere m forms t at there first names (Some v) f k s e g h =
    let ends = (fresh_absent m forms t at v there first.n f k s e g).known v s in
    (ends.height, begins m ends.height v names first h ends.ends)

pub returns-in-None : goal.returns-in-None
returns-in-None c = λ e m u x f t s kind.
    let path = c.args.path.now in
    let start : StandsIf (table_paths c.args.table.now) (Some c.in-Some.start) (start_of path.start u) =
    subst (λ o. StandsIf (table_paths c.args.table.now) o (start_of path.start u)) c.in-Some.is
    (c.start.ensures m [] u t s) in
    let ends = nowhere m c.args.forms.now c.args.table.now c.in-Some.start c.in-Some-unit.there c.in-Some-first.first.now
    path.names.items (start_of path.start u) f t start c.in-Some-unit.ensures c.in-None.ensures
    (c.in-Some-first.ensures.value ∙ ap (λ (z : List NameId). slice_get z 0) c.deref.ensures.value) in
    record {
      height = suc ends.0;
      ends = subst (λ z. NameEnds m (suc ends.0) u x z None) (sym kind) (clones_none ends.1);
    }
