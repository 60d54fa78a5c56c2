use Rattle.std.proofs.Common.{◌++◌, ◌∙◌, ℕ, List, ap, codes, decimal}
use Rattle.txs_cli_explore.proofs.LastLine.{behind_two}
use Rattle.txs_cli_explore.proofs.explore.add_few.Goals as goal
use Rattle.txs_cli_explore.specs.Explored.{ends_line, switches_word}

pub returns : goal.returns
returns c =
    let first = c.write_number.new.out.items in
    let second = c.extend_from_slice.new.self.items in
    behind_two c.add_ends.result c.args.output.now.items (codes "; each schedule with at most " ++ decimal c.args.most) first (switches_word c.args.most) second (ends_line c.args.outcomes) c.add_ends.new.output.items
    c.in_ok-write_number.ensures.ok (c.in_ok-extend_from_slice.ensures.items ∙ ap (λ (l : List ℕ). first ++ l) c.switches_word.ensures) c.add_ends.ensures
