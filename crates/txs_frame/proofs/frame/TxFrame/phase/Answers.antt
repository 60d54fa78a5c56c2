use Rattle.std.proofs.Common.{◌≡◌, ap, sym, subst, ◌∙◌, ◌+◌, List, [], ◌∷◌, ◌++◌, map, take, get_or, length, length-append}
use Rattle.std.proofs.lemmas.List.{take_all, take_more}
use Rattle.txs_world_protocol.specs.Ask.{Writes}
use Rattle.txs_value_cell.specs.Cells.{validators_of}
use Rattle.txs_value_data.specs.declared.value.CellId.{CellId}
use Rattle.txs_value_data.specs.declared.value.CellKind.TheVariants.{Ref}
use Rattle.txs_value_data.specs.declared.value.Value.TheVariants.{Nil}
use Rattle.txs_frame.specs.Frame.{PlainTxFrame, by_ref, commuted, written}
use Rattle.txs_frame.specs.Phase.{blank, tasks_of, validations, IsPhase, PlainPhase}
use Rattle.txs_frame.specs.declared.phase.Task.{Task}
use Rattle.txs_frame.specs.declared.phase.Task.TheVariants.{Redoes}
use Rattle.txs_frame.proofs.Phasing.{begins, blank_more}
use Rattle.txs_frame.proofs.frame.TxFrame.phase.Goals as goal

pub loop-cell-init : goal.loop-cell-init
loop-cell-init c = let h = c.in_ok-values.ensures in record { many = ap length h.items; room = h.exact; built = h.items }

pub loop-cell-preserved : goal.loop-cell-preserved
loop-cell-preserved c =
    let h = c.loop-cell in
    let ds : List CellId = c.as_slice-refs.result.now in
    let i = h.cell-index in
    let none : CellId = record { kind = Ref; number = 0 } in
    let d : CellId = get_or ds i none in
    let put = c.push_reserved in
    record {
      many = ap length put.ensures.items ∙ length-append h.values.items ((d, Nil) ∷ []) ∙ ap (λ n. n + 1) h.invariant.many;
      room = put.ensures.capacity ∙ h.invariant.room;
      built = put.ensures.items ∙ ap (λ (ws : Writes). ws ++ (d, Nil) ∷ []) h.invariant.built ∙ sym (blank_more (take i ds) d) ∙ ap blank (sym (take_more ds i none c.loop-cell-test.true));
    }

pub begin-requires : goal.begin-requires
begin-requires c =
    let w : PlainTxFrame = c.args.self.now in
    let vs = validators_of c.args.cells.now in
    let ds : List CellId = c.as_slice-refs.result.now in
    let all : ds ≡ commuted w = c.as_slice-refs.ensures.value ∙ c.in_ok-commuted.ensures in
    let values : c.loop-cell.values.items ≡ blank (commuted w) = c.loop-cell.invariant.built ∙ ap blank (take_all c.loop-cell.cell-index ds c.loop-cell-test.false ∙ all) in
    let work : c.in_ok-work.work.items ≡ tasks_of vs w = c.in_ok-work.ensures ∙ ap (λ (cs : List CellId). map Redoes (by_ref cs w.commutes) ++ validations vs (written w)) all in
    subst (λ (ws : Writes). IsPhase ws c.in_ok-work.work.items) (sym values) (subst (λ (xs : List Task). IsPhase (blank (commuted w)) xs) (sym work) (begins vs w))

pub returns : goal.returns
returns c =
    let w : PlainTxFrame = c.args.self.now in
    let vs = validators_of c.args.cells.now in
    let ds : List CellId = c.as_slice-refs.result.now in
    let all : ds ≡ commuted w = c.as_slice-refs.ensures.value ∙ c.in_ok-commuted.ensures in
    let values : c.loop-cell.values.items ≡ blank (commuted w) = c.loop-cell.invariant.built ∙ ap blank (take_all c.loop-cell.cell-index ds c.loop-cell-test.false ∙ all) in
    let work : c.in_ok-work.work.items ≡ tasks_of vs w = c.in_ok-work.ensures ∙ ap (λ (cs : List CellId). map Redoes (by_ref cs w.commutes) ++ validations vs (written w)) all in
    let made : List Task → Writes → PlainPhase = λ xs ws. record { work = xs; values = ws } in
    c.begin.ensures ∙ ap (made c.in_ok-work.work.items) values ∙ ap (λ (xs : List Task). made xs (blank (commuted w))) work
