use Rattle.std.proofs.Common.{◌++◌, ◌∙◌, ℕ, List, ap, codes, decimal}
use Rattle.txs_value_data.proofs.PrintedLemmas.{ended_by, then_more}
use Rattle.txs_cli_explore.specs.Outcomes.{as_word}
use Rattle.txs_cli_explore.proofs.written.add_head.Goals as goal

pub returns : goal.returns
returns c =
    let old = c.args.output.now.items in
    let list = c.args.list.now in
    let first = c.write_number.new.out.items in
    let second = c.extend_from_slice.new.self.items in
    let third = c.extend_from_slice-2.new.self.items in
    let number : List ℕ = codes "outcome " ++ decimal c.args.number in
    let word = c.in_ok-extend_from_slice-2.ensures.items ∙ ap (λ (l : List ℕ). second ++ l) c.as_word.ensures in
    ended_by c.extend_from_slice-3.result old ((number ++ codes ", by --turns ") ++ as_word list) third (codes "\n") c.extend_from_slice-3.new.self.items
    (then_more old (number ++ codes ", by --turns ") second (as_word list) third (then_more old number first (codes ", by --turns ") second c.in_ok-write_number.ensures.ok c.in_ok-extend_from_slice.ensures.items) word) c.extend_from_slice-3.ensures.items
