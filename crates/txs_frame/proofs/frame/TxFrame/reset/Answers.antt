use Rattle.txs_frame.proofs.Frames.{emptied}
use Rattle.txs_frame.proofs.frame.TxFrame.reset.Goals as goal

pub returns : goal.returns
returns c = emptied _ _ _ _ c.clear.ensures.items c.clear-2.ensures.items c.clear-3.ensures.items c.clear-4.ensures.items
