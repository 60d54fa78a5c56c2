use Rattle.txs_theorem_alike.proofs.Safe as safe_proof
use Rattle.txs_theorem_alike.proofs.law.runs_go_on_alike.Goals as goal

pub returns-clause-free : goal.returns-clause-free
returns-clause-free c = safe_proof.turns_go_freely c.opening_holds.ensures c.play_holds.ensures c.every_ask_is_lawful.ensures c.standing_is_staged.ensures

pub returns-clause-alike : goal.returns-clause-alike
returns-clause-alike c = safe_proof.alike_runs_go_on c.opening_holds.ensures c.play_holds.ensures c.every_ask_is_lawful.ensures c.standing_is_staged.ensures

pub returns-clause-commits : goal.returns-clause-commits
returns-clause-commits c = safe_proof.commits_of_runs_commute c.opening_holds.ensures c.play_holds.ensures c.every_ask_is_lawful.ensures c.standing_is_staged.ensures

pub returns-clause-retries : goal.returns-clause-retries
returns-clause-retries c = safe_proof.retries_dont_matter c.opening_holds.ensures c.play_holds.ensures c.every_ask_is_lawful.ensures c.standing_is_staged.ensures

pub returns-clause-requests : goal.returns-clause-requests
returns-clause-requests c = safe_proof.alike_runs_ask_on c.opening_holds.ensures c.play_holds.ensures c.every_ask_is_lawful.ensures c.standing_is_staged.ensures
