use Rattle.std.proofs.Common.{◌<◌, length, rules}
use Rattle.txs_cli_events.proofs.listing.list_plays.Goals as goal

pub list_play-requires-clause-there : goal.list_play-requires-clause-there
list_play-requires-clause-there c =
    let within : c.loop-play.play-index < length c.args.made.now = search rules in
    c.requires.made c.loop-play.play-index _ within
