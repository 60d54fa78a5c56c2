use Rattle.std.proofs.Common.{sym, subst}
use Rattle.txs_world_book.specs.Atom.{AtomAnswers, serve_atom}
use Rattle.txs_world_shared.proofs.atoms.serve_atom.Goals as goal

pub returns-in-OpenAt : goal.returns-in-OpenAt
returns-in-OpenAt c =
    let x = c.args.atom.now in
    subst (λ q. AtomAnswers x (serve_atom x.cell x.opening c.args.actor q x.book) c.open_at.result x) (sym c.in-OpenAt.is) (c.open_at.ensures c.args.actor)
