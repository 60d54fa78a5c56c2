use Rattle.std.proofs.Common.{◌<◌, ◌≡◌, [], ◌∷◌, map, get_or, sym, ◌∙◌, ap, subst}
use Rattle.std.proofs.lemmas.List.{get_or_default}
use Rattle.txs_world_protocol.specs.SeenEvent.{atoms_below}
use Rattle.txs_theorem_runs.specs.Shared.{has_atom, atom_of}
use Rattle.txs_world_shared.specs.Kept.{no_atom}
use Rattle.txs_world_shared.specs.SharedState.{PlainShared, book_of}
use Rattle.txs_world_shared.proofs.Placing.{atom_is}
use Rattle.txs_world_shared.proofs.state.SharedState.atom.Goals as goal

pub index-requires : goal.index-requires
index-requires c =
    let x = c.self.inside in
    let has = ap (λ (s : PlainShared). has_atom s.cells c.args.cell) c.self.view_is ∙ c.requires in
    let at = c.place-place.ensures.place ∙ ap (λ (s : PlainShared). atoms_below s.cells c.args.cell.number) (sym c.self.view_is) in
    let r = atom_is x.cells.items x.atoms.items c.args.cell c.self.invariant.atoms_are has c.place-place.ensures.fits in
    subst (λ n. n < x.atoms.len) (sym at) (subst (λ n. atoms_below x.cells.items c.args.cell.number < n) (sym x.atoms.ok.0) r.within)

pub returns : goal.returns
returns c =
    let x = c.self.inside in
    let d = c.args.cell in
    let has = ap (λ (s : PlainShared). has_atom s.cells d) c.self.view_is ∙ c.requires in
    let at = c.place-place.ensures.place ∙ ap (λ (s : PlainShared). atoms_below s.cells d.number) (sym c.self.view_is) in
    let r = atom_is x.cells.items x.atoms.items d c.self.invariant.atoms_are has c.place-place.ensures.fits in
    let i = atoms_below x.cells.items d.number in
    let a = c.index.result.now in
    subst (λ k. a ≡ get_or x.atoms.items k a) at c.index.ensures
    ∙ get_or_default x.atoms.items i a no_atom r.within ∙ r.is
    ∙ ap (λ k. atom_of x.cells.items d (get_or (x.store.book ∷ map (λ y. y.book) x.atoms.items) k [])) (sym r.home_is)
    ∙ ap (λ (s : PlainShared). atom_of s.cells d (book_of s d)) c.self.view_is
