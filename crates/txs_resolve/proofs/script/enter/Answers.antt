use Rattle.std.proofs.Common.{◌≡◌, ℕ, List, Option, None, Some, Ok, Err, sym, ap, ◌∙◌, subst}
use Rattle.txs_value_data.specs.declared.fault.Span.{Span}
use Rattle.txs_value_data.specs.declared.op.Callee.{Callee}
use Rattle.txs_value_data.specs.declared.value.Value.{Value}
use Rattle.txs_resolve.specs.BodyGiven.{Gives, refusal_of}
use Rattle.std.proofs.lemmas.Result.{err_from_is_err_and}
use Rattle.txs_reader.specs.Tree.{tree}
use Rattle.txs_tree_meaning.specs.Known.{known}
use Rattle.txs_tree_meaning.specs.Scoped.{ScopedValidator}
use Rattle.txs_tree_meaning.specs.View.{functions_of}
use Rattle.txs_resolve.specs.Literals.{literal}
use Rattle.txs_resolve.specs.Given.{Leaves}
use Rattle.txs_resolve.specs.Names.{State, new_name, validator_named, validator_place, with_definition}
use Rattle.txs_resolve.specs.Scripts.{form_in, state_of}
use Rattle.txs_resolve.proofs.Scoping.{Every}
use Rattle.txs_resolve.proofs.ScopedScripts.{validator_scoped}
use Rattle.txs_resolve.proofs.TopLevel.{entered_as, uncalled, unfit, unnamed, unvalued}
use Rattle.txs_resolve.proofs.script.enter.Goals as goal

pub returns-in_err-fits-clause-state : goal.returns-in_err-fits-clause-state
returns-in_err-fits-clause-state c =
    let s = c.args.script.now in
    let o = form_in c.args.opening.validator in
    let made : Value → Option Callee → List ℕ → State = λ v f n. with_definition c.args.opening.sort (state_of s) n v (record { callee = f; at = validator_place c.args.span o }) in
    let p = err_from_is_err_and c.from_residual.result c.from_residual.ensures.1 in
    rw (p.1, p.2) (unfit made (literal 32 (tree c.args.opening.value.now)) (validator_named s.scope.defined c.args.span o) (new_name s.scope.defined c.args.name.now c.args.at) c.in_err-fits.field-0.0
    (subst (λ (n : ℕ). Some c.in_err-fits.field-0.0 ≡ refusal_of (literal n (tree c.args.opening.value.now))) c.from.ensures c.in_err-fits.ensures))

pub returns-in_err-callee-clause-state : goal.returns-in_err-callee-clause-state
returns-in_err-callee-clause-state c =
    let s = c.args.script.now in
    let o = form_in c.args.opening.validator in
    let made : Value → Option Callee → List ℕ → State = λ v f n. with_definition c.args.opening.sort (state_of s) n v (record { callee = f; at = validator_place c.args.span o }) in
    let p = err_from_is_err_and c.from_residual-in_err-callee.result c.from_residual-in_err-callee.ensures.1 in
    rw (p.1, p.2) (uncalled made (literal 32 (tree c.args.opening.value.now)) (validator_named s.scope.defined c.args.span o) (new_name s.scope.defined c.args.name.now c.args.at) _
    (subst (λ (n : ℕ). None ≡ refusal_of (literal n (tree c.args.opening.value.now))) c.from.ensures c.in_ok-fits.ensures) (sym c.in_err-callee.ensures))

pub returns-in_err-name-clause-state : goal.returns-in_err-name-clause-state
returns-in_err-name-clause-state c =
    let s = c.args.script.now in
    let o = form_in c.args.opening.validator in
    let made : Value → Option Callee → List ℕ → State = λ v f n. with_definition c.args.opening.sort (state_of s) n v (record { callee = f; at = validator_place c.args.span o }) in
    let p = err_from_is_err_and c.from_residual-in_err-name.result c.from_residual-in_err-name.ensures.1 in
    rw (p.1, p.2) (unnamed made (literal 32 (tree c.args.opening.value.now)) (validator_named s.scope.defined c.args.span o) (new_name s.scope.defined c.args.name.now c.args.at) c.in_ok-callee.callee _
    (subst (λ (n : ℕ). None ≡ refusal_of (literal n (tree c.args.opening.value.now))) c.from.ensures c.in_ok-fits.ensures) (sym c.in_ok-callee.ensures) (sym c.in_err-name.ensures.name))

pub returns-in_err-value-clause-state : goal.returns-in_err-value-clause-state
returns-in_err-value-clause-state c =
    let s = c.args.script.now in
    let o = form_in c.args.opening.validator in
    let made : Value → Option Callee → List ℕ → State = λ v f n. with_definition c.args.opening.sort (state_of s) n v (record { callee = f; at = validator_place c.args.span o }) in
    let p = err_from_is_err_and c.from_residual-in_err-value.result c.from_residual-in_err-value.ensures.1 in
    rw (p.1, p.2) (unvalued made c.in_err-value.field-0.0 _ (literal 32 (tree c.args.opening.value.now)) (validator_named s.scope.defined c.args.span o) (new_name s.scope.defined c.args.name.now c.args.at) c.in_ok-callee.callee c.in_ok-name.name.now
    (subst (λ (n : ℕ). None ≡ refusal_of (literal n (tree c.args.opening.value.now))) c.from.ensures c.in_ok-fits.ensures) (sym c.in_ok-callee.ensures) (sym c.in_ok-name.ensures.name)
    (subst (λ (n : ℕ). Gives (λ (v : Value). v) (Err c.in_err-value.field-0.0) (literal n (tree c.args.opening.value.now))) c.from-2.ensures c.in_err-value.ensures.value))

pub with_definition-requires-clause-scoped : goal.with_definition-requires-clause-scoped
with_definition-requires-clause-scoped c =
    let s = c.args.script.now in
    subst (Every (ScopedValidator (known (functions_of s.functions.items)))) (sym c.in_ok-callee.ensures) (validator_scoped (state_of s) c.args.span (form_in c.args.opening.validator) c.requires.script.scoped)

pub returns-clause-state : goal.returns-clause-state
returns-clause-state c =
    let s = c.args.script.now in
    let o = form_in c.args.opening.validator in
    let made : Value → Option Callee → List ℕ → State = λ v f n. with_definition c.args.opening.sort (state_of s) n v (record { callee = f; at = validator_place c.args.span o }) in
    let at : Span → State = λ x. with_definition c.args.opening.sort (state_of s) c.in_ok-name.name.now c.in_ok-value.value (record { callee = c.in_ok-callee.callee; at = x }) in
    subst (Leaves c.with_definition.result (state_of c.with_definition.new.script))
    (ap (λ x. Ok (at x)) c.validator_place.ensures
    ∙ sym (entered_as made (literal 32 (tree c.args.opening.value.now)) (validator_named s.scope.defined c.args.span o) (new_name s.scope.defined c.args.name.now c.args.at) c.in_ok-value.value c.in_ok-callee.callee c.in_ok-name.name.now
    (subst (λ (n : ℕ). literal n (tree c.args.opening.value.now) ≡ Ok c.in_ok-value.value) c.from-2.ensures c.in_ok-value.ensures.value) (sym c.in_ok-callee.ensures) (sym c.in_ok-name.ensures.name)))
    c.with_definition.ensures.state
