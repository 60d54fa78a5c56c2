use Rattle.txs_theorem_language.proofs.Parameters.{parameter_renamed}
use Rattle.txs_theorem_language.proofs.Renaming.{let_renamed, loop_renamed}
use Rattle.txs_theorem_language.proofs.law.a_local_may_be_renamed.Goals as goal

pub returns-clause-in_let : goal.returns-clause-in_let
returns-clause-in_let c = λ old new may room scope wanted before here e behind there forms at pairs lacks free.
    let_renamed old new may room scope wanted before here e behind there forms at pairs lacks free

pub returns-clause-in_loop : goal.returns-clause-in_loop
returns-clause-in_loop c = λ old new may room scope wanted before here e behind there forms at pairs lacks free.
    loop_renamed old new may room scope wanted before here e behind there forms at pairs lacks free

pub returns-clause-parameter : goal.returns-clause-parameter
returns-clause-parameter c = λ old new may s name named_at about before here behind there forms at lacks free.
    parameter_renamed old new may s name named_at before here behind forms at lacks free about there
