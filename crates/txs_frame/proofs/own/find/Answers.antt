use Rattle.std.proofs.Common.{rules}
use Rattle.std.proofs.lemmas.List.Sorted.{answers_always}
use Rattle.txs_frame.specs.Kept.{number_of}
use Rattle.txs_frame.proofs.Places.{placed}
use Rattle.txs_frame.proofs.own.find.Goals as goal

pub returns : goal.returns
returns c =
    let facts = c.binary_search_by_key.ensures in
    placed number_of c.args.own.now c.args.number c.binary_search_by_key.result c.requires facts.bound (facts.position number_of (answers_always _ _ _ (λ f a r g called. search rules)))
