use Rattle.std.proofs.Common.{◌≡◌, ◌<◌, length, get_or, false, nat_lt, rules}
use Rattle.txs_history_run.proofs.Sent.{has_so, has_none}
use Rattle.txs_history_run.proofs.callees.has_parameters.Goals as goal

pub returns-then-f-functions : goal.returns-then-f-functions
returns-then-f-functions c =
    let bs = c.args.functions.now in
    let f = c.args.f in
    let b = c.index-functions-f.result in
    let within : f < length bs = search rules in
    let read : b ≡ get_or bs f b = search rules in
    let many : c.from.result ≡ b.parameters = search rules in
    has_so bs f c.args.count b c.from.result within read many

pub returns-else-f-functions : goal.returns-else-f-functions
returns-else-f-functions c =
    let bs = c.args.functions.now in
    let f = c.args.f in
    let past : nat_lt f (length bs) ≡ false = search rules in
    has_none bs f c.args.count past
