use Rattle.std.proofs.Common.{◌<◌, ◌++◌, ◌∙◌, ℕ, List, ap, append_assoc, arith, length, refl, rules}
use Rattle.txs_cli_explore.specs.Outcomes.{head}
use Rattle.txs_cli_explore.proofs.Blocks.{first_written, written_done, written_more}
use Rattle.txs_cli_explore.proofs.written.add_outcomes.Goals as goal

pub loop-i-init : goal.loop-i-init
loop-i-init c =
    let first = c.index-outcomes-0.result in
    let some : 0 < length c.args.outcomes.now = search rules in
    let text : List ℕ = head 1 first.list.items ++ first.lines.items in (
      text,
      first_written c.args.outcomes.now first text some c.index-outcomes-0.is refl,
      c.in_ok-extend_from_slice.ensures.items ∙ ap (λ (l : List ℕ). c.add_head.new.output.items ++ l) c.as_slice-2.ensures.value
          ∙ ap (λ (l : List ℕ). l ++ first.lines.items) (c.in_ok-add_head.ensures ∙ ap (λ (l : List ℕ). c.args.output.now.items ++ head 1 l) c.as_slice.ensures.value)
          ∙ append_assoc c.args.output.now.items (head 1 first.list.items) first.lines.items,
    )

pub loop-i-preserved : goal.loop-i-preserved
loop-i-preserved c =
    let h = c.loop-i.invariant in
    let b = c.in_ok-add_block.ensures in (
      h.0 ++ b.0,
      written_more c.args.outcomes.now c.loop-i.i c.index-outcomes-0.result c.index-outcomes-i.result h.0 b.0 (omega arith) c.loop-i-test.true c.index-outcomes-0.is c.index-outcomes-i.is h.1 b.1,
      b.2 ∙ ap (λ (l : List ℕ). l ++ b.0) h.2 ∙ append_assoc c.args.output.now.items h.0 b.0,
    )

pub returns : goal.returns
returns c = let h = c.loop-i.invariant in (h.0, written_done c.args.outcomes.now c.loop-i.i h.0 (omega arith) h.1, h.2)
