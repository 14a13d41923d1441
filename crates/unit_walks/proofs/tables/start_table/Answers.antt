use Rattle.std.proofs.Common.{◌++◌, [], ◌∷◌, None, refl, ◌∙◌, ap}
use Rattle.std.specs.Map.{lookup}
use Rattle.unit_walks.specs.Forms.{same_pair}
use Rattle.unit_walks.specs.Tables.{same_triple}
use Rattle.unit_walks.specs.declared.tables.Met.{Met}
use Rattle.unit_walks.proofs.TableSteps.{table_started}
use Rattle.unit_walks.proofs.tables.start_table.Goals as goal

pub returns : goal.returns
returns c = λ m e.
    let d : Met = record { owner = None; name = c.new.result; body = c.args.main; set_at = None } in
    table_started m (record { units = c.push.new.self; known = c.new-2.result; count = 0; ends = c.new-3.result }) d
    (c.in_ok-push.ensures.items ∙ ap (λ ds. ds ++ d ∷ []) c.new-units.ensures.items) refl e refl
    (λ a x. ap (lookup (same_pair (a, x))) c.new-2.ensures.empty)
    (λ b x a. ap (lookup (same_triple (b, x, a))) c.new-3.ensures.empty)
