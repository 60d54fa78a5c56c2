use Rattle.std.proofs.Common.{◌-◌, drop, length, take}
use Rattle.txs_cli_explore.proofs.Lines.{differing_is, rest_is}
use Rattle.txs_cli_explore.proofs.changes.add_differing.Goals as goal

pub returns : goal.returns
returns c =
    let a = c.args.a.now in
    let b = c.args.b.now in
    let front = c.same_first-front.result in
    let behind = c.same_last-behind.result in
    let d = take (length a - front) (drop front a) in
    let e = take (length b - front) (drop front b) in
    differing_is c.add_lines-2.result a b d e front (length d - behind) (length e - behind) c.args.output.now.items c.add_lines.new.output.items c.add_lines-2.new.output.items (rest_is front a) (rest_is front b) c.same_first-front.ensures.same
    c.same_last-behind.ensures.same c.in_ok-add_lines.ensures c.add_lines-2.ensures
