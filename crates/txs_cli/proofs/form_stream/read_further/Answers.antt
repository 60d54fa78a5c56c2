use Rattle.std.proofs.Common.{◌≤◌, length, rules}
use Rattle.txs_cli.specs.CodeStream.{goal_after}
use Rattle.txs_cli.proofs.FormStream.{no_further}
use Rattle.txs_cli.proofs.form_stream.read_further.Goals as goal

pub returns-then-branch-clause-further : goal.returns-then-branch-clause-further
returns-then-branch-clause-further g c =
    let r = c.in_ok-fill.ensures.read in
    let few : length c.fill.new.bytes.items ≤ goal_after (length c.args.bytes.now.items) = search rules in
    no_further c.args.bytes.now.items r.0 c.fill.new.bytes.items r.1 c.requires.yet few

pub returns-in-Ok-clause-further : goal.returns-in-Ok-clause-further
returns-in-Ok-clause-further g c =
    let r = c.in_ok-fill.ensures.read in
    let few : length c.fill.new.bytes.items ≤ goal_after (length c.args.bytes.now.items) = search rules in
    no_further c.args.bytes.now.items r.0 c.fill.new.bytes.items r.1 c.requires.yet few
