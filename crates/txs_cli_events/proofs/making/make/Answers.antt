use Rattle.txs_cli_events.proofs.Staging.{made_more}
use Rattle.txs_cli_events.proofs.making.make.Goals as goal

pub returns-clause-made : goal.returns-clause-made
returns-clause-made c = made_more c.args.code.now _ _ _ c.in_ok-push.ensures.items c.requires.there c.requires.made
