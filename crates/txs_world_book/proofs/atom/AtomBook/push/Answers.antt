use Rattle.std.proofs.Common.{◌<◌, ◌∙◌, ap, sym, subst, length}
use Rattle.txs_value_data.specs.Limits.{most_events}
use Rattle.txs_world_book.specs.Atom.{PlainAtom, LegalAtomKind}
use Rattle.txs_world_book.specs.Served.{event_of}
use Rattle.txs_world_book.proofs.Atoms.{atom_of, atom_pushed, atom_stored}
use Rattle.txs_world_book.proofs.Outcomes.{if_err, on_ok}
use Rattle.txs_world_book.proofs.atom.AtomBook.push.Goals as goal

pub invariant_of-self : goal.invariant_of-self
invariant_of-self c =
    let x = c.self.inside in
    let room : length x.journal.book.items < most_events = subst (λ (s : PlainAtom). length s.book < most_events) (sym c.self.view_is) c.requires.room in
    let legal : LegalAtomKind x.cell x.journal.book.items c.args.actor c.args.kind = subst (λ (s : PlainAtom). LegalAtomKind s.cell s.book c.args.actor c.args.kind) (sym c.self.view_is) c.requires.legal in
    atom_pushed c.add.result x.cell x.opening x.value x.swapped x.journal.views.items c.add.new.self.views.items x.journal.book.items c.add.new.self.book.items c.args.actor c.args.kind
    c.self.invariant room legal c.requires.quiet c.add.ensures.views c.add.ensures.added c.add.ensures.same_views c.add.ensures.same

pub returns-clause-added : goal.returns-clause-added
returns-clause-added c =
    let x = c.self.inside in
    on_ok c.add.result _ _ (λ e. atom_stored c.args.self.now x.cell x.opening x.journal.book.items c.add.new.self.book.items (event_of c.args.actor c.args.kind) c.self.view_is e) c.add.ensures.added

pub returns-clause-same : goal.returns-clause-same
returns-clause-same c = let x = c.self.inside in if_err c.add.result _ _ (λ e. ap (atom_of x.cell x.opening) e ∙ c.self.view_is) c.add.ensures.same
