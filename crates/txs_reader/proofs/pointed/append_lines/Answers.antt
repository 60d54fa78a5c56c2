use Rattle.std.proofs.Common.{max, ap, ◌∙◌}
use Rattle.txs_reader.proofs.Growing.{then_appended}
use Rattle.txs_reader.proofs.TwoLines.{lines_are}
use Rattle.txs_reader.proofs.pointed.append_lines.Goals as goal

pub returns-clause-ok : goal.returns-clause-ok
returns-clause-ok c =
    then_appended c.append_below.result c.args.out.now.items _ _ _ _ _ c.in_ok-append_line.ensures.ok c.append_below.ensures.ok
    (lines_are c.args.front.now c.args.back.now c.behind-left.result.now c.room_within.result c.last_within-from.result c.room_within-limit.result c.max.result c.args.size
    c.room_within.ensures c.last_within-from.ensures c.behind-left.ensures c.room_within-limit.ensures (c.max.ensures ∙ ap (λ n. max n 1) c.span_width.ensures))
