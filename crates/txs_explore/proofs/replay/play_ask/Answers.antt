use Rattle.std.proofs.Common.{arith}
use Rattle.txs_explore.proofs.Stages.{both_many, played_at}
use Rattle.txs_explore.proofs.replay.play_ask.Goals as goal

pub play_at-requires-clause-there : goal.play_at-requires-clause-there
play_at-requires-clause-there c =
    let at = c.requires.at.1 in
    let m = both_many c.args.code.now c.args.max_steps c.args.stage.now.shared c.args.stage.now.players at.turns at.playing in
    let one = c.requires.one in
    omega (arith, one, m)

pub play_at-requires-clause-of : goal.play_at-requires-clause-of
play_at-requires-clause-of c = c.requires.at.1.of

pub play_at-requires-clause-playing : goal.play_at-requires-clause-playing
play_at-requires-clause-playing c = (c.requires.at.1.turns, c.requires.at.1.playing)

pub is_out_at-requires : goal.is_out_at-requires
is_out_at-requires c =
    let at = c.requires.at.1 in
    let m = both_many c.args.code.now c.args.max_steps c.args.stage.now.shared c.args.stage.now.players at.turns at.playing in
    let one = c.requires.one in
    let threads = c.play_at.ensures.many in
    let agents = c.play_at.ensures.agents in
    omega (arith, one, m, threads, agents)

pub returns : goal.returns
returns c = λ ks at.
    played_at c.args.code.now c.args.max_steps c.requires.small ks c.args.k c.args.stage.now.shared c.play_at.new.shared c.args.stage.now.players c.play_at.new.players c.requires.one c.play_at.ensures (c.is_out_at.ensures c.if-is_out_at.false) at
