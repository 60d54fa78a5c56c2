use Rattle.std.proofs.Common.{◌≡◌, true, false, rules}
use Rattle.txs_history_run.proofs.Sent.{place_sent, place_unsent, read}
use Rattle.txs_history_run.proofs.callees.mark_place.Goals as goal

pub mark_sent-requires : goal.mark_sent-requires
mark_sent-requires c = λ f e. c.requires.sends c.args.at f _ (read c.args.instrs.now c.args.at _ c.requires.within) e

pub returns-then-marked : goal.returns-then-marked
returns-then-marked c =
    let marked : c.is_marked-marked.result ≡ true = search rules in
    let m = c.is_marked-marked.ensures.0 marked in
    place_sent c.args.instrs.now c.args.places.now c.args.at _ m.0 c.args.marks.now.items c.mark_sent.new.marks.items c.requires.within m.1 c.mark_sent.ensures

pub returns-else-marked : goal.returns-else-marked
returns-else-marked c =
    place_unsent c.args.instrs.now c.args.places.now c.args.at c.args.marks.now.items
    (λ m e. (let yes : c.is_marked-marked.result ≡ true = c.is_marked-marked.ensures.1 (m, e) in let no : c.is_marked-marked.result ≡ false = c.if-marked.false in cc))
