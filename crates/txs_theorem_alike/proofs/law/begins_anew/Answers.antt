use Rattle.txs_theorem_alike.proofs.Anew as anew_proof
use Rattle.txs_theorem_alike.proofs.law.begins_anew.Goals as goal

pub returns-clause-stands : goal.returns-clause-stands
returns-clause-stands c = anew_proof.alike_stands

pub returns-clause-begins : goal.returns-clause-begins
returns-clause-begins c = anew_proof.begins_anew

pub returns-clause-nothing : goal.returns-clause-nothing
returns-clause-nothing c = anew_proof.failed_tries_are_nothing c.play_holds.ensures
