use Rattle.std.proofs.Common.{◌≡◌, Some, None, Ok, IfOk, refl, sym, ap, ◌∙◌, subst}
use Rattle.txs_value_cell.specs.Cells.{validators_of, validator_at}
use Rattle.txs_tree_meaning.specs.Known.{known}
use Rattle.txs_tree_meaning.specs.View.{program_of}
use Rattle.txs_audit_book.specs.Judged.{AcceptedBy}
use Rattle.txs_audit_book.proofs.Validators.{pure_validator}
use Rattle.txs_audit_book.proofs.acts.checked.Goals as goal

pub accepted-requires : goal.accepted-requires
accepted-requires c =
    let p = program_of c.args.program.now in
    let k = c.args.agent.number in
    let there : Some c.in-Some.callee ≡ validator_at (validators_of p.cells) k = sym c.in-Some.is ∙ c.validator_of.ensures ∙ ap (λ ds. validator_at (validators_of ds) k) c.cells.ensures in
    pure_validator (known p.functions) p.cells k c.in-Some.callee c.is_sound.ensures.cells there

pub returns-in-None : goal.returns-in-None
returns-in-None c =
    let p = program_of c.args.program.now in
    let k = c.args.agent.number in
    let there : None ≡ validator_at (validators_of p.cells) k = sym c.in-None.is ∙ c.validator_of.ensures ∙ ap (λ ds. validator_at (validators_of ds) k) c.cells.ensures in
    subst (λ o. AcceptedBy p c.args.turns o c.args.span c.args.value (Ok c.args.value)) there (Ok c.args.value, refl, tt)

pub returns-in-Some : goal.returns-in-Some
returns-in-Some c =
    let p = program_of c.args.program.now in
    let k = c.args.agent.number in
    let there : Some c.in-Some.callee ≡ validator_at (validators_of p.cells) k = sym c.in-Some.is ∙ c.validator_of.ensures ∙ ap (λ ds. validator_at (validators_of ds) k) c.cells.ensures in
    subst (λ o. IfOk c.accepted.result (λ s. AcceptedBy p c.args.turns o c.args.span c.args.value s)) there c.accepted.ensures
