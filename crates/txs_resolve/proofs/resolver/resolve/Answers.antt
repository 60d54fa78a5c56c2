use Rattle.std.proofs.Common.{Ok, sym, ap, ◌∙◌, subst}
use Rattle.txs_reader.specs.Tree.{trees}
use Rattle.txs_resolve_expand.specs.Namespace.{behind_namespace}
use Rattle.txs_tree_meaning.proofs.Marks.{marked_enough}
use Rattle.txs_tree_meaning.specs.View.{program_of}
use Rattle.txs_resolve.specs.Memory.{FirstResolves}
use Rattle.txs_resolve.specs.Scripts.{state_of}
use Rattle.txs_resolve.specs.Names.{program}
use Rattle.txs_resolve.proofs.Marking.{resolved_marked}
use Rattle.txs_resolve.proofs.Openings.{script_as, script_refused}
use Rattle.txs_resolve.proofs.Told.{no_want_at}
use Rattle.txs_resolve.proofs.resolver.resolve.Goals as goal

pub returns-in-Err-Refused-clause-want : goal.returns-in-Err-Refused-clause-want
returns-in-Err-Refused-clause-want c =
    λ is. absurd (no_want_at c.in-Err-Refused.field-0 (state_of c.steps.new.script) (state_of c.new-script.result) (trees c.behind_namespace.result.now) c.in-Err-Refused.error c.in-Err-Refused.ensures.state c.in-Err-Refused.field-0-is is)

pub returns-in-Err-Refused-clause-memory : goal.returns-in-Err-Refused-clause-memory
returns-in-Err-Refused-clause-memory c =
    λ is. absurd (no_want_at c.in-Err-Refused.field-0 (state_of c.steps.new.script) (state_of c.new-script.result) (trees c.behind_namespace.result.now) c.in-Err-Refused.error c.in-Err-Refused.ensures.state c.in-Err-Refused.field-0-is is)

pub returns-in-Ok-clause-ok : goal.returns-in-Ok-clause-ok
returns-in-Ok-clause-ok c =
    script_as (trees c.args.forms.now) (state_of c.new-script.result) (trees c.behind_namespace.result.now) c.new-script.ensures.state c.behind_namespace.ensures (Ok (state_of c.steps.new.script)) c.in-Ok.ensures.state ∙ ap (λ p. Ok (program_of p)) (sym c.new.ensures)

pub returns-in-Err-Refused-clause-err : goal.returns-in-Err-Refused-clause-err
returns-in-Err-Refused-clause-err c =
    λ _. script_refused (trees c.args.forms.now) (state_of c.new-script.result) (trees c.behind_namespace.result.now) c.new-script.ensures.state c.behind_namespace.ensures c.in-Err-Refused.field-0 (state_of c.steps.new.script) c.in-Err-Refused.error c.in-Err-Refused.ensures.state c.in-Err-Refused.field-0-is

pub returns-in-Err-Memory-clause-memory : goal.returns-in-Err-Memory-clause-memory
returns-in-Err-Memory-clause-memory c =
    λ _. subst (λ s. FirstResolves s (behind_namespace (trees c.args.forms.now))) c.new-script.ensures.state
    (subst (FirstResolves (state_of c.new-script.result)) c.behind_namespace.ensures (c.in-Err-Memory.ensures.memory c.in-Err-Memory.field-0-is))

pub new-requires-clause-marked : goal.new-requires-clause-marked
new-requires-clause-marked c =
    let p = program (state_of c.steps.new.script) in
    marked_enough p (resolved_marked (trees c.args.forms.now) p
    (script_as (trees c.args.forms.now) (state_of c.new-script.result) (trees c.behind_namespace.result.now) c.new-script.ensures.state c.behind_namespace.ensures (Ok (state_of c.steps.new.script)) c.in-Ok.ensures.state))
