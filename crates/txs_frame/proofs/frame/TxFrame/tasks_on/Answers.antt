use Rattle.std.proofs.Common.{◌≡◌, ap, sym, ◌∙◌, List, ◌++◌, map, take, get_or}
use Rattle.std.proofs.lemmas.List.{take_all, take_more, map-append}
use Rattle.txs_value_cell.specs.Cells.{validators_of}
use Rattle.txs_value_data.specs.declared.value.CellId.{CellId}
use Rattle.txs_value_data.specs.declared.value.CellKind.TheVariants.{Ref}
use Rattle.txs_frame.specs.Frame.{commutes_of, by_ref}
use Rattle.txs_frame.specs.Phase.{validations}
use Rattle.txs_frame.specs.declared.frame.Commute.{Commute}
use Rattle.txs_frame.specs.declared.phase.Task.{Task}
use Rattle.txs_frame.specs.declared.phase.Task.TheVariants.{Redoes}
use Rattle.txs_frame.proofs.Phases.{by_ref_more}
use Rattle.txs_frame.proofs.frame.TxFrame.tasks_on.Goals as goal

pub loop-cell-preserved : goal.loop-cell-preserved
loop-cell-preserved c =
    let ds : List CellId = c.args.refs.now in
    let cs : List Commute = c.args.self.now.commutes in
    let i = c.loop-cell.cell-index in
    let none : CellId = record { kind = Ref; number = 0 } in
    let d : CellId = get_or ds i none in
    c.in_ok-push_redone_of.ensures
    ∙ ap (λ (xs : List Commute). c.loop-cell.tasks.items ++ map Redoes (commutes_of d.number xs)) c.commutes.ensures
    ∙ ap (λ (xs : List Task). xs ++ map Redoes (commutes_of d.number cs)) c.loop-cell.invariant
    ∙ sym (map-append Redoes (by_ref (take i ds) cs) (commutes_of d.number cs))
    ∙ ap (map Redoes) (sym (by_ref_more (take i ds) d cs) ∙ ap (λ (xs : List CellId). by_ref xs cs) (sym (take_more ds i none c.loop-cell-test.true)))

pub returns : goal.returns
returns c =
    let vs = validators_of c.args.cells.now in
    let ds : List CellId = c.args.refs.now in
    let cs : List Commute = c.args.self.now.commutes in
    let redone : c.loop-cell.tasks.items ≡ map Redoes (by_ref ds cs) = c.loop-cell.invariant ∙ ap (λ (es : List CellId). map Redoes (by_ref es cs)) (take_all c.loop-cell.cell-index ds c.loop-cell-test.false) in
    c.in_ok-push_validations.ensures
    ∙ ap (λ (xs : List Task). xs ++ validations vs c.as_slice.result.now) redone
    ∙ ap (λ (es : List CellId). map Redoes (by_ref ds cs) ++ validations vs es) (c.as_slice.ensures.value ∙ c.in_ok-written.ensures)
