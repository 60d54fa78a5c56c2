use Rattle.std.proofs.Common.{◌≡◌, ◌∷◌, ◌++◌, [], rules}
use Rattle.txs_world_shared.proofs.Growing.{book_moved}
use Rattle.txs_world_shared.proofs.parts.move_books.Goals as goal

pub loop-atom-preserved : goal.loop-atom-preserved
loop-atom-preserved c =
    let rest : c.loop-atom.atom-iterator.rest.items ≡ c.in-Some.atom ∷ c.next.new.self.rest.items = search rules in
    let pushed : c.push_reserved.new.self.items ≡ c.loop-atom.books.items ++ c.from_vec.result ∷ [] = c.push_reserved.ensures.items in
    let same : c.from_vec.result ≡ c.in-Some.atom.book = search rules in
    record {
      room = search rules;
      many = search rules;
      moved = book_moved c.loop-atom.books.items c.push_reserved.new.self.items c.from_vec.result c.in-Some.atom c.loop-atom.atom-iterator.rest.items c.next.new.self.rest.items _ pushed same rest c.loop-atom.invariant.moved;
    }
