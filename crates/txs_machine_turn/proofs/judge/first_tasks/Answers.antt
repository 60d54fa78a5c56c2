use Rattle.std.proofs.Common.{◌≡◌, List, [], ◌∷◌, length, ◌∙◌, refl, sym, ap, arith, rules, tests}
use Rattle.std.proofs.lemmas.Bool.Decides.{nat_tests}
use Rattle.txs_frame.specs.Frame.{commuted}
use Rattle.txs_frame.specs.Phase.{PlainPhase, blank, tasks_of}
use Rattle.txs_value_cell.specs.Cells.{validators_of}
use Rattle.txs_value_data.specs.declared.value.CellId.{CellId}
use Rattle.txs_machine_actor.proofs.Looking.{no_task, a_task}
use Rattle.txs_machine_turn.proofs.judge.first_tasks.Goals as goal

-- a list of no length
empty : {A : Type 0} (xs : List A) → length xs ≡ 0 → xs ≡ []
empty [] e = refl
empty (x ∷ xs) e = absurd (omega (arith, e))

pub returns-in-Some-clause-some : goal.returns-in-Some-clause-some
returns-in-Some-clause-some c =
    let w = c.args.frame.now in
    let no_refs : length c.in_ok-refs.refs.items ≡ 0 = first_of (search (rules, tests), grind (arith, nat_tests)) in
    let none : commuted w ≡ [] = sym c.in_ok-refs.ensures ∙ empty c.in_ok-refs.refs.items no_refs in
    let left = a_task c.in_ok-phase.phase.work c.in-Some.field-0 (sym c.callee.ensures ∙ c.in-Some.is) in
    let is : c.in_ok-phase.phase ≡ record { work = tasks_of (validators_of c.args.cells.now) w; values = [] } =
    c.in_ok-phase.ensures ∙ ap (λ (cs : List CellId). record { work = tasks_of (validators_of c.args.cells.now) w; values = blank cs }) none
    in
    (none, left, is)

pub returns-clause-none : goal.returns-clause-none
returns-clause-none c = λ e none. ap (λ (p : PlainPhase). p.work) (sym c.in_ok-phase.ensures) ∙ no_task c.in_ok-phase.phase.work (sym c.callee.ensures ∙ c.in-None.is)
