use Rattle.std.proofs.Common.{◌≡◌, ◌+◌, ◌∙◌, ap, arith, get_or, length, refl, suc, sym}
use Rattle.txs_value_cell.specs.Agents.{agents_from}
use Rattle.txs_world_book.specs.Book.{actors}
use Rattle.txs_world_book.specs.Served.{cells_of}
use Rattle.txs_theorem_audit.specs.Audited.{Off, books_of, entry_of, report_as}
use Rattle.txs_theorem_audit.specs.Verdict.{index_if, atoms_from}
use Rattle.txs_audit_book.specs.Replayed.{actor_in}
use Rattle.txs_audit_book.specs.Swapped.{atom_test}
use Rattle.txs_audit_book.specs.Judged.{as_found, is_fine}
use Rattle.txs_theorem_audit.proofs.Listing.{within}
use Rattle.txs_audit_evidence.proofs.Bookwise.{atom_off, atom_through, fine_is, legal_few}
use Rattle.txs_audit_book.proofs.Numbering.{agents_few, atoms_few}
use Rattle.txs_audit_evidence.proofs.Opened.{actors_many, atom_gone, atom_up_to, book_in, book_read}
use Rattle.txs_audit_evidence.proofs.Sized.{nth_at, threads_many}
use Rattle.txs_audit_evidence.proofs.opening.open_atom.Goals as goal

pub overflow_add-actors : goal.overflow_add-actors
overflow_add-actors c =
    let p = c.args.program.now in
    let few = c.is_sound.ensures.scoped.few_threads in
    let many = threads_many p.threads in
    let rows = ap length c.threads.ensures.value in
    let agents = agents_few p.cells in
    let same = c.count_agents.ensures ∙ ap (λ l. length (agents_from 0 l)) c.cells.ensures in
    let cells = c.is_sound.ensures.scoped.few_cells in
    omega (arith, few, many, rows, agents, same, cells)

pub index-requires : goal.index-requires
index-requires c =
    let lt = book_in c.args.program.now c.args.report.now c.args.n c.args.cell c.requires.fits c.requires.there in
    let size = c.args.report.now.atom_books.ok.0 in
    omega (arith, lt, size)

pub overflow_cast-n : goal.overflow_cast-n
overflow_cast-n c =
    let p = c.args.program.now in
    let lt = within (atoms_from 0 p.cells) c.args.n c.args.cell c.requires.there in
    let le = atoms_few p.cells in
    let few = c.is_sound.ensures.scoped.few_cells in
    omega (arith, lt, le, few)

pub overflow_add-n : goal.overflow_add-n
overflow_add-n c =
    let p = c.args.program.now in
    let lt = within (atoms_from 0 p.cells) c.args.n c.args.cell c.requires.there in
    let le = atoms_few p.cells in
    let few = c.is_sound.ensures.scoped.few_cells in
    omega (arith, lt, le, few)

pub returns-in-UpTo : goal.returns-in-UpTo
returns-in-UpTo c =
    let p = c.args.program.now in
    let r = c.args.report.now in
    let n = c.args.n in
    let at = c.in-UpTo.at in
    let e = get_or c.as_slice-events.result.now at c.index-events-at.result in
    let there = book_in p r n c.args.cell c.requires.fits c.requires.there in
    let same = book_read r n c.index.result.now c.as_slice-events.result.now there c.index.ensures c.as_slice-events.ensures in
    let off = atom_up_to c.args.cell (length c.threads.result.now + c.count_agents.result) (actors (length p.threads) (cells_of p.cells)) c.as_slice-events.result.now (books_of (report_as r) (suc n)) (actors_many p c.threads.result.now c.cells.result.now c.count_agents.result (length c.threads.result.now + c.count_agents.result) c.threads.ensures.value c.cells.ensures c.count_agents.ensures refl) same c.in_ok-at.field-0 c.in_ok-at.ensures at c.in-UpTo.is in
    let is = nth_at (books_of (report_as r) (suc n)) at e off.0 (ap (get_or c.as_slice-events.result.now at) c.index-events-at.is ∙ ap (λ l. get_or l at e) same) in
    let next : n + 1 ≡ suc n = omega arith in
    let found = c.off_at.ensures ∙ ap (λ b. Off e.actor (index_if b at (entry_of (report_as r) e.actor))) next in
    let means = atom_off p r n c.args.cell c.requires.there at e.actor off (sym (ap actor_in is)) in
    (found ∙ sym means, ap is_fine found)

pub atom_left-left-requires-clause-few : goal.atom_left-left-requires-clause-few
atom_left-left-requires-clause-few c =
    let p = c.args.program.now in
    let r = c.args.report.now in
    let n = c.args.n in
    let there = book_in p r n c.args.cell c.requires.fits c.requires.there in
    let same = book_read r n c.index.result.now c.as_slice-events.result.now there c.index.ensures c.as_slice-events.ensures in
    let gone = atom_gone c.args.cell (length c.threads.result.now + c.count_agents.result) (actors (length p.threads) (cells_of p.cells)) c.as_slice-events.result.now (books_of (report_as r) (suc n)) (actors_many p c.threads.result.now c.cells.result.now c.count_agents.result (length c.threads.result.now + c.count_agents.result) c.threads.ensures.value c.cells.ensures c.count_agents.ensures refl) same c.in_ok-at.field-0 c.in_ok-at.ensures c.in-Through.swaps c.in-Through.is in
    legal_few (atom_test c.args.cell (actors (length p.threads) (cells_of p.cells))) (books_of (report_as r) (suc n)) gone.0

pub atom_left-left-requires-clause-swapped : goal.atom_left-left-requires-clause-swapped
atom_left-left-requires-clause-swapped c =
    let p = c.args.program.now in
    let r = c.args.report.now in
    let n = c.args.n in
    let there = book_in p r n c.args.cell c.requires.fits c.requires.there in
    let same = book_read r n c.index.result.now c.as_slice-events.result.now there c.index.ensures c.as_slice-events.ensures in
    let gone = atom_gone c.args.cell (length c.threads.result.now + c.count_agents.result) (actors (length p.threads) (cells_of p.cells)) c.as_slice-events.result.now (books_of (report_as r) (suc n)) (actors_many p c.threads.result.now c.cells.result.now c.count_agents.result (length c.threads.result.now + c.count_agents.result) c.threads.ensures.value c.cells.ensures c.count_agents.ensures refl) same c.in_ok-at.field-0 c.in_ok-at.ensures c.in-Through.swaps c.in-Through.is in
    gone.1

pub returns-then-is_fine : goal.returns-then-is_fine
returns-then-is_fine c =
    let p = c.args.program.now in
    let r = c.args.report.now in
    let n = c.args.n in
    let there = book_in p r n c.args.cell c.requires.fits c.requires.there in
    let same = book_read r n c.index.result.now c.as_slice-events.result.now there c.index.ensures c.as_slice-events.ensures in
    let gone = atom_gone c.args.cell (length c.threads.result.now + c.count_agents.result) (actors (length p.threads) (cells_of p.cells)) c.as_slice-events.result.now (books_of (report_as r) (suc n)) (actors_many p c.threads.result.now c.cells.result.now c.count_agents.result (length c.threads.result.now + c.count_agents.result) c.threads.ensures.value c.cells.ensures c.count_agents.ensures refl) same c.in_ok-at.field-0 c.in_ok-at.ensures c.in-Through.swaps c.in-Through.is in
    let fine = fine_is (as_found c.atom_left-left.result) (sym c.is_fine.ensures ∙ c.if-is_fine.true) in
    (gone.0, gone.1, atom_through p r n c.args.cell c.requires.there gone.0 ∙ sym c.atom_left-left.ensures ∙ fine)

pub returns : goal.returns
returns c =
    let p = c.args.program.now in
    let r = c.args.report.now in
    let n = c.args.n in
    let there = book_in p r n c.args.cell c.requires.fits c.requires.there in
    let same = book_read r n c.index.result.now c.as_slice-events.result.now there c.index.ensures c.as_slice-events.ensures in
    let gone = atom_gone c.args.cell (length c.threads.result.now + c.count_agents.result) (actors (length p.threads) (cells_of p.cells)) c.as_slice-events.result.now (books_of (report_as r) (suc n)) (actors_many p c.threads.result.now c.cells.result.now c.count_agents.result (length c.threads.result.now + c.count_agents.result) c.threads.ensures.value c.cells.ensures c.count_agents.ensures refl) same c.in_ok-at.field-0 c.in_ok-at.ensures c.in-Through.swaps c.in-Through.is in
    (c.atom_left-left.ensures ∙ sym (atom_through p r n c.args.cell c.requires.there gone.0), sym c.is_fine.ensures ∙ c.if-is_fine.false)
