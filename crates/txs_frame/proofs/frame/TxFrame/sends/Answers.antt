use Rattle.std.proofs.Common.{◌∙◌, ap}
use Rattle.txs_frame.specs.Frame.{PlainTxFrame}
use Rattle.txs_frame.proofs.frame.TxFrame.sends.Goals as goal

pub returns : goal.returns
returns c = c.as_slice.ensures.value ∙ ap (λ (w : PlainTxFrame). w.sends) c.self.view_is
