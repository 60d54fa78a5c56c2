use Rattle.std.proofs.Common.{◌<◌, sym, subst, length}
use Rattle.txs_value_data.specs.Limits.{most_events}
use Rattle.txs_world_book.specs.Atom.{PlainAtom, IsAtomKept}
use Rattle.txs_world_book.proofs.Atoms.{atom_swapped}
use Rattle.txs_world_book.proofs.atom.AtomBook.swap.Goals as goal

pub invariant_of-self : goal.invariant_of-self
invariant_of-self c =
    let x = c.self.inside in
    let room : length x.journal.book.items < most_events = subst (λ (s : PlainAtom). length s.book < most_events) (sym c.self.view_is) c.requires in
    subst (λ o. IsAtomKept x.cell x.opening o c.in-Ok-add.events c.add.new.self.views.items c.add.new.self.book.items) (sym c.replace.ensures.after)
    (atom_swapped x.cell x.opening c.args.new c.in-Ok.value x.value x.swapped c.in-Ok-add.events x.journal.views.items c.add.new.self.views.items x.journal.book.items c.add.new.self.book.items c.args.actor
    c.self.invariant room c.in-Ok-add.ensures.views c.in-Ok-add.ensures.added c.in-Ok.ensures c.in-Ok-add.ensures.many)
