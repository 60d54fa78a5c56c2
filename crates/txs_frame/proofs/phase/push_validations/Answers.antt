use Rattle.std.proofs.Common.{◌≡◌, ap, sym, ◌∙◌, List, Vec, Global, Option, Some, None, [], ◌∷◌, ◌++◌, take, get_or, append_assoc}
use Rattle.std.proofs.lemmas.List.{append-nil, take_more}
use Rattle.txs_value_data.specs.declared.op.Callee.{Callee}
use Rattle.txs_value_cell.specs.Cells.{validators_of, validator_at}
use Rattle.txs_value_data.specs.declared.value.CellId.{CellId}
use Rattle.txs_value_data.specs.declared.value.CellKind.TheVariants.{Ref}
use Rattle.txs_frame.specs.Phase.{validations, with_validation}
use Rattle.txs_frame.specs.declared.phase.Task.{Task}
use Rattle.txs_frame.specs.declared.phase.Task.TheVariants.{Validates}
use Rattle.txs_frame.proofs.Phasing.{validations_more}
use Rattle.txs_frame.proofs.phase.push_validations.Goals.{in-Some+in_ok-push-in-Some, in-None}
use Rattle.txs_frame.proofs.phase.push_validations.Goals as goal

pub loop-cell-preserved : goal.loop-cell-preserved
loop-cell-preserved c =
    let vs = validators_of c.args.cells.now in
    let was : List Task = c.args.tasks.now.items in
    let i = c.loop-cell.cell-index in
    let ds : List CellId = take i c.args.refs.now in
    let none : CellId = record { kind = Ref; number = 0 } in
    let d : CellId = get_or c.args.refs.now i none in
    let next = ap (validations vs) (take_more c.args.refs.now i none c.loop-cell-test.true) ∙ validations_more vs ds d in
    elim c.match-validator_of.branch [
      | in-Some+in_ok-push-in-Some w ↦
          let is : Some w.in-Some.callee ≡ validator_at vs d.number = sym w.in-Some.is ∙ c.validator_of.ensures in
          ap (λ (v : Vec Task Global). v.items) w.tasks-is ∙ w.in_ok-push-in-Some.ensures.items ∙ ap (λ (x : List Task). x ++ Validates d w.in-Some.callee ∷ []) c.loop-cell.invariant
          ∙ append_assoc was (validations vs ds) (Validates d w.in-Some.callee ∷ [])
          ∙ ap (λ (o : Option Callee). was ++ (validations vs ds ++ with_validation d o [])) is
          ∙ ap (λ (x : List Task). was ++ x) (sym next)
      | in-None w ↦
          let is : None ≡ validator_at vs d.number = sym w.in-None.is ∙ c.validator_of.ensures in
          ap (λ (v : Vec Task Global). v.items) w.tasks-is ∙ c.loop-cell.invariant
          ∙ ap (λ (x : List Task). was ++ x) (sym (append-nil (validations vs ds)) ∙ ap (λ (o : Option Callee). validations vs ds ++ with_validation d o []) is ∙ sym next)
    ]
