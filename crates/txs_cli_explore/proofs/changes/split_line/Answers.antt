use Rattle.std.proofs.Common.{◌≡◌, ◌+◌, ◌∷◌, ℕ, List, arith, rules, subst, sym, take}
use Rattle.txs_cli_explore.specs.Changes.{lines_in}
use Rattle.txs_cli_explore.proofs.Lines.{line_last, line_split, rest_is}
use Rattle.txs_cli_explore.proofs.changes.split_line.Goals as goal

pub returns-then-byte-eq10-clause-lines : goal.returns-then-byte-eq10-clause-lines
returns-then-byte-eq10-clause-lines c =
    let text = c.args.text.now in
    let i = c.loop-i.i in
    subst (λ (r : List ℕ). lines_in text ≡ take i text ∷ lines_in r) (sym (rest_is (i + 1) text)) (line_split text i (omega arith) c.loop-i.invariant (search rules))

pub returns-clause-lines : goal.returns-clause-lines
returns-clause-lines c = line_last c.args.text.now c.requires (λ k h. c.loop-i.invariant k (omega (arith, h)))
