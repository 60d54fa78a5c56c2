use Rattle.std.proofs.Common.{◌≡◌, ◌++◌, ℕ, List, OnOk, codes, decimal, subst, sym}
use Rattle.txs_value_data.proofs.PrintedLemmas.{ended_by}
use Rattle.txs_cli_explore.proofs.LastLine.{of_several}
use Rattle.txs_cli_explore.proofs.explore.add_ends.Goals as goal

pub returns : goal.returns
returns c =
    let n = c.args.outcomes in
    let r = c.extend_from_slice-2.result in
    let old = c.args.output.now.items in
    let new = c.extend_from_slice-2.new.self.items in
    subst (λ (line : List ℕ). OnOk r (new ≡ old ++ line)) (sym (of_several n c.if-outcomes-eq1.false))
    (ended_by r old (codes " ends in one of these " ++ decimal n) c.write_number.new.out.items (codes " outcomes\n") new c.in_ok-write_number.ensures.ok c.extend_from_slice-2.ensures.items)
