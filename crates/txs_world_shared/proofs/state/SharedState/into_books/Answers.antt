use Rattle.std.proofs.Common.{◌∙◌, List, length, ap, sym}
use Rattle.std.proofs.lemmas.List.{length-map}
use Rattle.txs_world_protocol.specs.declared.event.Event.{Event}
use Rattle.txs_world_book.specs.Atom.{PlainAtom}
use Rattle.txs_world_shared.specs.Kept.{atoms_of}
use Rattle.txs_world_shared.specs.SharedState.{PlainShared}
use Rattle.txs_world_shared.proofs.Placing.{unbooked_many}
use Rattle.txs_world_shared.proofs.state.SharedState.into_books.Goals as goal

pub returns-clause-atoms : goal.returns-clause-atoms
returns-clause-atoms c =
    let x = c.self.inside in
    ap (λ (l : List (List Event)). length l) c.move_books.ensures ∙ length-map x.atoms.items (λ (a : PlainAtom). a.book)
    ∙ sym (unbooked_many x.atoms.items) ∙ ap (λ (l : List PlainAtom). length l) c.self.invariant.atoms_are
    ∙ ap (λ (s : PlainShared). length (atoms_of 0 s.cells)) c.self.view_is
