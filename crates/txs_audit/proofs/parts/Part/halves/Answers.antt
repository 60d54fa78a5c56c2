use Rattle.std.proofs.Common.{ap, ◌∙◌}
use Rattle.txs_audit.proofs.Parting.{split_whole}
use Rattle.txs_audit.proofs.parts.Part.halves.Goals as goal

pub returns : goal.returns
returns g c =
    let p = c.args.self in
    let one = c.split_at.result.0.now in
    let two = c.split_at.result.1.now in
    ap (g.J.Judge.sought p.judge.now p.turns) (split_whole _ p.pieces.now one two c.split_at.ensures.front c.split_at.ensures.back) ∙ c.splits.ensures p.turns one two
