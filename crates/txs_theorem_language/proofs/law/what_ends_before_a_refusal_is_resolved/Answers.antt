use Rattle.txs_theorem_language.proofs.Told.{before_written, before_body}
use Rattle.txs_theorem_language.proofs.law.what_ends_before_a_refusal_is_resolved.Goals as goal

pub returns-clause-written : goal.returns-clause-written
returns-clause-written c = λ room k scope outer wanted g f e h is st. before_written room k scope outer wanted g f e h is st

pub returns-clause-bodies : goal.returns-clause-bodies
returns-clause-bodies c = λ room k scope outer wanted g at from fs e lt h is st. before_body room k scope outer wanted g at from fs e lt h is st
