use Rattle.txs_cli_timeline.proofs.Texts.{plain_text, entities_text}
use Rattle.txs_cli_timeline.proofs.law.escaped_is_text.Goals as goal

pub returns-clause-plain : goal.returns-clause-plain
returns-clause-plain c = plain_text

pub returns-clause-entities : goal.returns-clause-entities
returns-clause-entities c = entities_text
