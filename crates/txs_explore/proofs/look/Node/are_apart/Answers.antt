use Rattle.std.proofs.Common.{◌≡◌, get_or, ap, ◌∙◌}
use Rattle.txs_explore.specs.Runners.{are_apart}
use Rattle.txs_world_shared.specs.SharedState.{shared_of}
use Rattle.txs_explore.proofs.Tests.{apart_never, apart_then, asks_read}
use Rattle.txs_explore.proofs.look.Node.are_apart.Goals as goal

pub returns-then-k-j : goal.returns-then-k-j
returns-then-k-j c =
    let v = c.args.self.now in
    let p = c.index.result.now in
    let q = c.index-2.result.now in
    let of_p = asks_read v.looks.items c.args.k p c.requires.one (c.index.ensures ∙ ap (λ n. get_or v.looks.items n p) c.from.ensures) in
    let of_q = asks_read v.looks.items c.args.j q c.requires.other (c.index-2.ensures ∙ ap (λ n. get_or v.looks.items n q) c.from-2.ensures) in
    let said : c.are_apart.result ≡ are_apart v.shared.cells (shared_of v.shared) p.ask q.ask = c.are_apart.ensures in
    apart_then v c.args.k c.args.j c.are_apart.result p q c.if-k-j.true said of_p of_q

pub returns-else-k-j : goal.returns-else-k-j
returns-else-k-j c = apart_never c.args.self.now c.args.k c.args.j c.if-k-j.false
