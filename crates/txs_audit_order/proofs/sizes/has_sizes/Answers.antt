use Rattle.std.proofs.Common.{◌≡◌, ◌==◌, ap, arith, length, sym, ◌∙◌}
use Rattle.txs_value_data.specs.declared.value.CellKind.TheVariants.{Atom, Agent}
use Rattle.txs_audit_order.specs.Many.{many_of}
use Rattle.txs_audit_order.proofs.Sizing.{five_1, five_2, five_3, five_5, sizes_are}
use Rattle.txs_audit_order.proofs.sizes.has_sizes.Goals as goal

pub returns-then-len-threads : goal.returns-then-len-threads
returns-then-len-threads c =
    let p = c.args.program.now in
    let r = c.args.report.now in
    let size = r.threads.ok.0 in
    let rows = ap length c.threads.ensures.value in
    let off : length r.threads.items ≡ length p.threads → ⊥ = λ e. c.if-len-threads.true (omega (arith, size, rows, c.len.ensures, e)) in
    sym (sizes_are p r ∙ five_1 (length r.threads.items) (length p.threads) (length r.agents.items) (many_of Agent p.cells) (length r.atom_books.items) (many_of Atom p.cells) (length r.cells.items) (length p.cells) (length r.failed.items) (many_of Agent p.cells) off)

pub returns-then-len-agents : goal.returns-then-len-agents
returns-then-len-agents c =
    let p = c.args.program.now in
    let r = c.args.report.now in
    let size = r.threads.ok.0 in
    let rows = ap length c.threads.ensures.value in
    let size2 = r.agents.ok.0 in
    let threads : length r.threads.items ≡ length p.threads = omega (arith, size, rows, c.len.ensures, c.if-len-threads.false) in
    let agents : c.count-agents.result ≡ many_of Agent p.cells = c.count-agents.ensures ∙ ap (many_of Agent) c.cells-cells.ensures in
    let off : length r.agents.items ≡ many_of Agent p.cells → ⊥ = λ e. c.if-len-agents.true (omega (arith, size2, agents, c.len-2.ensures, e)) in
    sym (sizes_are p r ∙ five_2 (length r.threads.items) (length p.threads) (length r.agents.items) (many_of Agent p.cells) (length r.atom_books.items) (many_of Atom p.cells) (length r.cells.items) (length p.cells) (length r.failed.items) (many_of Agent p.cells) threads off)

pub returns-then-len-atoms : goal.returns-then-len-atoms
returns-then-len-atoms c =
    let p = c.args.program.now in
    let r = c.args.report.now in
    let size = r.threads.ok.0 in
    let rows = ap length c.threads.ensures.value in
    let size2 = r.agents.ok.0 in
    let size3 = r.atom_books.ok.0 in
    let threads : length r.threads.items ≡ length p.threads = omega (arith, size, rows, c.len.ensures, c.if-len-threads.false) in
    let many : c.count-agents.result ≡ many_of Agent p.cells = c.count-agents.ensures ∙ ap (many_of Agent) c.cells-cells.ensures in
    let agents : length r.agents.items ≡ many_of Agent p.cells = omega (arith, size2, c.len-2.ensures, c.if-len-agents.false, many) in
    let atoms : c.count-atoms.result ≡ many_of Atom p.cells = c.count-atoms.ensures ∙ ap (many_of Atom) c.cells-cells.ensures in
    let off : length r.atom_books.items ≡ many_of Atom p.cells → ⊥ = λ e. c.if-len-atoms.true (omega (arith, size3, atoms, c.len-3.ensures, e)) in
    sym (sizes_are p r ∙ five_3 (length r.threads.items) (length p.threads) (length r.agents.items) (many_of Agent p.cells) (length r.atom_books.items) (many_of Atom p.cells) (length r.cells.items) (length p.cells) (length r.failed.items) (many_of Agent p.cells) threads agents off)

pub returns : goal.returns
returns c =
    let p = c.args.program.now in
    let r = c.args.report.now in
    let size = r.threads.ok.0 in
    let rows = ap length c.threads.ensures.value in
    let size2 = r.agents.ok.0 in
    let size3 = r.atom_books.ok.0 in
    let size4 = r.cells.ok.0 in
    let rows4 = ap length c.cells-cells.ensures in
    let size5 = r.failed.ok.0 in
    let threads : length r.threads.items ≡ length p.threads = omega (arith, size, rows, c.len.ensures, c.if-len-threads.false) in
    let many : c.count-agents.result ≡ many_of Agent p.cells = c.count-agents.ensures ∙ ap (many_of Agent) c.cells-cells.ensures in
    let agents : length r.agents.items ≡ many_of Agent p.cells = omega (arith, size2, c.len-2.ensures, c.if-len-agents.false, many) in
    let few : c.count-atoms.result ≡ many_of Atom p.cells = c.count-atoms.ensures ∙ ap (many_of Atom) c.cells-cells.ensures in
    let atoms : length r.atom_books.items ≡ many_of Atom p.cells = omega (arith, size3, c.len-3.ensures, c.if-len-atoms.false, few) in
    let cells : length r.cells.items ≡ length p.cells = omega (arith, size4, rows4, c.len-4.ensures, c.if-len-cells.false) in
    let last : c.len-5.result ≡ length r.failed.items = omega (arith, size5, c.len-5.ensures) in
    sym (sizes_are p r ∙ five_5 (length r.threads.items) (length p.threads) (length r.agents.items) (many_of Agent p.cells) (length r.atom_books.items) (many_of Atom p.cells) (length r.cells.items) (length p.cells) (length r.failed.items) (many_of Agent p.cells) threads agents atoms cells ∙ ap (λ n. n == many_of Agent p.cells) (sym last) ∙ ap (λ n. c.len-5.result == n) (sym many))
