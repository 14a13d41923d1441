use Rattle.std.proofs.Common.{◌≡◌, ◌<◌, ◌++◌, ◌+◌, ℕ, Bool, Option, List, length, drop, get_or, sym, ◌∙◌, ap, arith}
use Rattle.ar_io.proofs.Writing.{writes_exit, leaves_on, leaves_front}
use Rattle.gts_core.specs.declared.bound.Chain.{Chain}
use Rattle.cut_check.specs.declared.checking.Verdict.{Verdict}
use Rattle.check_text.specs.Printed.{chain_line, verdict_lines}
use Rattle.check_text.specs.Texts.{is_above, later}
use Rattle.check_text.proofs.Listing.{next_chain}
use Rattle.check_text.proofs.printing.verdict_lines.Goals as goal

-- the lines that are left begin with that of the next chain, whose test has this answer
begins : (order : Option ℕ) (chains : List Chain) (left : List Verdict) (i : ℕ) (c : Chain) → i < length chains
    → c ≡ get_or chains i c → (n : ℕ) → n ≡ length c.ways.items → (b : Bool) → b ≡ is_above order n
    → verdict_lines order (drop i chains) left
    ≡ chain_line b c.line left ++ verdict_lines order (drop (i + 1) chains) (later b left)
begins order chains left i c lt is n long b e =
    next_chain order chains left i c lt is
    ∙ ap (λ (z : Bool). chain_line z c.line left ++ verdict_lines order (drop (i + 1) chains) (later z left))
    (sym (e ∙ ap (is_above order) long))

pub returns-in_err-chain_line : goal.returns-in_err-chain_line
returns-in_err-chain_line g c =
    let item = c.chain-item.result in
    let long : c.len.result ≡ length item.ways.items = omega (arith, c.len.ensures, item.ways.ok.0) in
    writes_exit _ _ c.from_residual.ensures.1
    (leaves_front _ _ c.loop-chain.invariant c.in_err-chain_line.ensures
    (begins c.args.order c.args.chains.now c.loop-chain.left.now c.loop-chain.chain-index item c.loop-chain-test.true
    c.chain-item.is c.len.result long c.is_above-above.result c.is_above-above.ensures))

pub loop-chain-preserved : goal.loop-chain-preserved
loop-chain-preserved g c =
    let item = c.chain-item.result in
    let long : c.len.result ≡ length item.ways.items = omega (arith, c.len.ensures, item.ways.ok.0) in
    leaves_on _ _ c.loop-chain.invariant c.in_ok-chain_line.ensures
    (begins c.args.order c.args.chains.now c.loop-chain.left.now c.loop-chain.chain-index item c.loop-chain-test.true
    c.chain-item.is c.len.result long c.is_above-above.result c.is_above-above.ensures
    ∙ ap (λ (z : List Verdict). chain_line c.is_above-above.result item.line c.loop-chain.left.now
    ++ verdict_lines c.args.order (drop (c.loop-chain.chain-index + 1) c.args.chains.now) z) (sym c.later-left.ensures))
