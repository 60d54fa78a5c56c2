use Rattle.std.proofs.Common.{rules}
use Rattle.std.proofs.lemmas.List.Sorted.{answers_always}
use Rattle.txs_frame.specs.Phase.{write_number}
use Rattle.txs_frame.proofs.Places.{placed}
use Rattle.txs_frame.proofs.phase.find_write.Goals as goal

pub returns : goal.returns
returns c =
    let facts = c.binary_search_by_key.ensures in
    placed write_number c.args.values.now c.args.number c.binary_search_by_key.result c.requires facts.bound (facts.position write_number (answers_always _ _ _ (λ f a r g called. search rules)))
