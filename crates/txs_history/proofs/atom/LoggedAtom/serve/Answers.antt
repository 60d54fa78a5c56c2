use Rattle.std.proofs.Common.{Bool, length, refl, ap, subst, ◌∙◌}
use Rattle.txs_world_protocol.specs.SeenEvent.{home}
use Rattle.txs_world_book.specs.Atom.{PlainAtom}
use Rattle.txs_history.specs.History.{PlainLog}
use Rattle.txs_history.specs.declared.asked.Asked.{Asked}
use Rattle.txs_history.specs.Logged.{PlainLoggedAtom, MayNot, WasServed}
use Rattle.txs_history.proofs.Serving.{atom_goes, atom_refuses}
use Rattle.txs_history.proofs.atom.LoggedAtom.serve.Goals as goal

abbrev plain : PlainAtom → PlainLog Asked → Bool → PlainLoggedAtom
plain x l b = record { atom = x; log = l; broken = b }

pub returns-in_err-served-clause-refused : goal.returns-in_err-served-clause-refused
returns-in_err-served-clause-refused g c =
    let r = c.serve_atom.ensures.refused c.in_err-served.was in
    λ none works. (
      ap (λ (x : PlainAtom). plain x c.self.inside.log c.self.inside.broken) r.0 ∙ c.self.view_is,
      refl,
      subst (λ (p : PlainLoggedAtom). MayNot g.J.Run.code.cells (length g.J.Run.code.threads) (home g.J.Run.code.cells p.atom.cell) c.args.actor c.args.ask p.log.log) c.self.view_is
          (atom_refuses g.J.Run.code c.self.inside.actors c.self.inside.atom c.self.inside.log c.self.inside.broken c.args.actor c.args.ask c.if-self.false c.self.invariant r.1),
    )

pub invariant_of-self-then-note : goal.invariant_of-self-then-note
invariant_of-self-then-note g c =
    (atom_goes g.J.Run.code c.self.inside.actors c.self.inside.atom c.self.inside.log c.note.new.log c.self.inside.broken c.args.actor c.args.ask c.args.past.now c.note.new.past c.in_ok-served.served
    c.serve_atom.new.atom (g.M.StandsFor.event c.args.about.now) c.if-self.false c.self.invariant c.in_ok-served.ensures.served c.note.ensures.key (c.if-note.ensures.noted refl) c.requires.about).0

pub returns-then-note-clause-served : goal.returns-then-note-clause-served
returns-then-note-clause-served g c =
    subst (λ (p : PlainLoggedAtom). WasServed g.J.Run.code.cells (length g.J.Run.code.threads) (home g.J.Run.code.cells p.atom.cell) c.args.actor c.args.ask c.args.past.now c.note.new.past c.in_ok-served.served) c.self.view_is
    (atom_goes g.J.Run.code c.self.inside.actors c.self.inside.atom c.self.inside.log c.note.new.log c.self.inside.broken c.args.actor c.args.ask c.args.past.now c.note.new.past c.in_ok-served.served
    c.serve_atom.new.atom (g.M.StandsFor.event c.args.about.now) c.if-self.false c.self.invariant c.in_ok-served.ensures.served c.note.ensures.key (c.if-note.ensures.noted refl) c.requires.about).1
