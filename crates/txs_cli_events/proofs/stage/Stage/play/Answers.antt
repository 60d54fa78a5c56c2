use Rattle.std.proofs.Common.{arith}
use Rattle.txs_cli_events.proofs.Staging.{staged_next}
use Rattle.txs_cli_events.proofs.stage.Stage.play.Goals as goal

pub play_at-requires-clause-there : goal.play_at-requires-clause-there
play_at-requires-clause-there c =
    let many = c.requires.staged.many in
    let there = c.requires.there in
    omega (arith, many, there)

pub play_at-requires-clause-of : goal.play_at-requires-clause-of
play_at-requires-clause-of c = c.requires.staged.of

pub play_at-requires-clause-playing : goal.play_at-requires-clause-playing
play_at-requires-clause-playing c = c.requires.staged.playing

pub returns : goal.returns
returns c = staged_next c.args.code.now c.args.max_steps c.args.k c.args.budget c.args.self.now c.play_at.new.shared c.play_at.new.players c.play_at.ensures c.requires.staged
