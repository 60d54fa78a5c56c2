use Rattle.std.proofs.Common.{◌∙◌, List, ap, rules, subst, sym}
use Rattle.txs_value_data.specs.declared.value.CellId.{CellId}
use Rattle.txs_frame.specs.Frame.{PlainTxFrame, with_cell}
use Rattle.txs_frame.specs.Kept.{IsKept}
use Rattle.txs_frame.proofs.Frames.{ensured_kept}
use Rattle.txs_frame.proofs.frame.TxFrame.ensure_by.Goals as goal

pub invariant_of-self : goal.invariant_of-self
invariant_of-self c =
    let s = c.self.inside in
    let e = c.into_vec.ensures ∙ c.requires ∙ ap (λ (w : PlainTxFrame). with_cell w.ensures c.args.cell) (sym c.self.view_is) in
    subst (λ (x : List CellId). IsKept s.own.items x s.commutes.items) (sym e) (ensured_kept s.own.items s.ensured.items s.commutes.items c.args.cell c.self.invariant)

pub returns : goal.returns
returns c = search rules
