use Rattle.std.proofs.Common.{◌≡◌, ◌<◌, true, get_or, length, sym, ◌∙◌, ap, subst}
use Rattle.txs_world_protocol.specs.SeenEvent.{atoms_below}
use Rattle.txs_world_book.specs.Atom as world
use Rattle.txs_world_shared.specs.Kept.{state_of, no_atom, AnswersAt}
use Rattle.txs_world_shared.specs.SharedState.{PlainShared, is_lawful, answer_to, Answers}
use Rattle.txs_world_shared.proofs.Serving.{atom_serves, atom_answers, atom_kept, store_answers, store_kept}
use Rattle.txs_world_shared.proofs.state.SharedState.serve.Goals as goal

pub serve_at-requires-clause-within : goal.serve_at-requires-clause-within
serve_at-requires-clause-within c =
    let x = c.self.inside in
    let may = ap (λ s. is_lawful s c.args.actor c.args.ask) c.self.view_is ∙ c.requires in
    let at = c.place-place.ensures.place ∙ ap (λ (s : PlainShared). atoms_below s.cells c.in-Some.cell.number) (sym c.self.view_is) in
    let known = atom_serves x.cells.items x.store x.atoms.items c.args.actor c.args.ask c.in-Some.cell c.self.invariant.atoms_are c.place-place.ensures.fits (sym c.in-Some.ensures) may in
    subst (λ k. k < length x.atoms.items) (sym at) known.within

pub serve_at-requires-clause-lawful : goal.serve_at-requires-clause-lawful
serve_at-requires-clause-lawful c =
    let x = c.self.inside in
    let may = ap (λ s. is_lawful s c.args.actor c.args.ask) c.self.view_is ∙ c.requires in
    let at = c.place-place.ensures.place ∙ ap (λ (s : PlainShared). atoms_below s.cells c.in-Some.cell.number) (sym c.self.view_is) in
    let known = atom_serves x.cells.items x.store x.atoms.items c.args.actor c.args.ask c.in-Some.cell c.self.invariant.atoms_are c.place-place.ensures.fits (sym c.in-Some.ensures) may in
    subst (λ k. world.is_lawful_atom (get_or x.atoms.items k no_atom).cell c.args.actor c.args.ask (get_or x.atoms.items k no_atom).book ≡ true) (sym at) known.lawful

pub invariant_of-self : goal.invariant_of-self
invariant_of-self c =
    let x = c.self.inside in
    let may = ap (λ s. is_lawful s c.args.actor c.args.ask) c.self.view_is ∙ c.requires in
    let at = c.place-place.ensures.place ∙ ap (λ (s : PlainShared). atoms_below s.cells c.in-Some.cell.number) (sym c.self.view_is) in
    atom_kept c.serve_keeps.ensures x.cells.items x.store x.atoms.items x.places.items c.args.actor c.args.ask c.self.invariant may c.in-Some.cell c.place-place.ensures.fits (sym c.in-Some.ensures) c.serve_at.result c.serve_at.new.atoms.items
    (subst (λ k. AnswersAt x.atoms.items k c.args.actor c.args.ask c.serve_at.result c.serve_at.new.atoms.items) at c.serve_at.ensures)

pub returns-in-Some : goal.returns-in-Some
returns-in-Some c =
    let x = c.self.inside in
    let may = ap (λ s. is_lawful s c.args.actor c.args.ask) c.self.view_is ∙ c.requires in
    let at = c.place-place.ensures.place ∙ ap (λ (s : PlainShared). atoms_below s.cells c.in-Some.cell.number) (sym c.self.view_is) in
    subst (λ s. Answers s c.args.ask (answer_to s c.args.actor c.args.ask) c.serve_at.result (state_of x.cells.items x.store c.serve_at.new.atoms.items)) c.self.view_is
    (atom_answers c.serve_keeps.ensures x.cells.items x.store x.atoms.items x.places.items c.args.actor c.args.ask c.self.invariant may c.in-Some.cell c.place-place.ensures.fits (sym c.in-Some.ensures) c.serve_at.result c.serve_at.new.atoms.items
    (subst (λ k. AnswersAt x.atoms.items k c.args.actor c.args.ask c.serve_at.result c.serve_at.new.atoms.items) at c.serve_at.ensures))

pub invariant_of-self-in-None : goal.invariant_of-self-in-None
invariant_of-self-in-None c =
    let x = c.self.inside in
    let may = ap (λ s. is_lawful s c.args.actor c.args.ask) c.self.view_is ∙ c.requires in
    store_kept c.serve_keeps.ensures x.cells.items x.store x.atoms.items x.places.items c.args.actor c.args.ask c.self.invariant may (sym c.in-None.ensures) c.serve.result c.serve.new.self c.serve.ensures

pub returns-in-None : goal.returns-in-None
returns-in-None c =
    let x = c.self.inside in
    let may = ap (λ s. is_lawful s c.args.actor c.args.ask) c.self.view_is ∙ c.requires in
    subst (λ s. Answers s c.args.ask (answer_to s c.args.actor c.args.ask) c.serve.result (state_of x.cells.items c.serve.new.self x.atoms.items)) c.self.view_is
    (store_answers c.serve_keeps.ensures x.cells.items x.store x.atoms.items x.places.items c.args.actor c.args.ask c.self.invariant may (sym c.in-None.ensures) c.serve.result c.serve.new.self c.serve.ensures)
