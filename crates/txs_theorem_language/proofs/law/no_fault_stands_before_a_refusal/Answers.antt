use Rattle.txs_theorem_language.proofs.Told.{before_written, before_body}
use Rattle.txs_theorem_language.proofs.Treeless.{has_no_tree}
use Rattle.txs_theorem_language.proofs.Undefined.{none_before}
use Rattle.txs_theorem_language.proofs.law.no_fault_stands_before_a_refusal.Goals as goal

pub returns-clause-written : goal.returns-clause-written
returns-clause-written c = λ room k scope outer wanted g f e h is st le d fault. let t = before_written room k scope outer wanted g f e h is st le in has_no_tree room scope t.0 g d fault t.1 t.2

pub returns-clause-bodies : goal.returns-clause-bodies
returns-clause-bodies c = λ room k scope outer wanted g at from fs e lt h is st le d fault. let t = before_body room k scope outer wanted g at from fs e lt h is st le in has_no_tree room scope t.0 g d fault t.1 t.2

pub returns-clause-script : goal.returns-clause-script
returns-clause-script c = none_before
