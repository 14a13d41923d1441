use Rattle.std.proofs.Common.{◌≡◌, ◌∙◌, [], ap, length, rules}
use Rattle.flow_blocks.specs.Bits.{words_for}
use Rattle.gts_core.specs.declared.system.GtsParts.{GtsParts}
use Rattle.cut_check.proofs.RowLemmas.{have_bits, is_wide, rows_are}
use Rattle.cut_check.proofs.lookup.line_sets.Goals as goal

pub returns : goal.returns
returns c =
    let p = c.args.gts.now in
    let q = c.parts-parts.result.now in
    let chains = c.args.chains.now in
    let rows = rows_are p q [] chains c.in_ok-allowed.allowed.items c.deref.result.now c.in_ok-rows.rows.items
    c.parts-parts.ensures.parts c.deref.ensures.value c.in_ok-allowed.ensures c.in_ok-rows.ensures in
    let count : c.len.result ≡ length q.events.items = search rules in
    record {
      have = have_bits p [] chains c.in_ok-rows.rows.items rows;
      wide = is_wide p [] chains c.in_ok-rows.rows.items rows;
      room = c.in_ok-asked.ensures.long ∙ ap words_for (count
          ∙ ap (λ (z : GtsParts). length z.events.items) c.parts-parts.ensures.parts);
    }
