use Rattle.std.proofs.Common.{◌≡◌, ◌∙◌, List, length, ap, sym, arith}
use Rattle.txs_code_meaning.specs.PlainCode.{CodeBody, PlainCode}
use Rattle.txs_theorem_runs.specs.Shared.{untouched}
use Rattle.txs_world_book.specs.Atom.{PlainAtom}
use Rattle.txs_threads.specs.Run.{AreOpened}
use Rattle.txs_threads.proofs.Opening.{each_lock, parts_opened}
use Rattle.txs_threads.proofs.run.run_all.Goals as goal

pub run_in-requires-clause-parts : goal.run_in-requires-clause-parts
run_in-requires-clause-parts g c κs within =
    let s = c.in_ok-shared in
    let p = c.into_parts-parts in
    let cells : s.shared.cells ≡ c.args.code.now.cells = s.ensures.cells ∙ c.cells.ensures ∙ ap (λ (x : PlainCode). x.cells) c.code.ensures.value in
    let threads : c.threads.result.now ≡ c.args.code.now.threads = c.threads.ensures ∙ ap (λ (x : PlainCode). x.threads) c.code-2.ensures.value in
    parts_opened c.args.code.now s.shared p.result.0 p.result.1.items cells (s.ensures.threads ∙ ap (λ (l : List CodeBody). length l) threads) (s.ensures.untouched ∙ ap untouched (sym s.ensures.cells ∙ cells)) p.ensures.cells p.ensures.atoms p.ensures.state

pub run_in-requires-clause-locks : goal.run_in-requires-clause-locks
run_in-requires-clause-locks g c κs within =
    let s = c.in_ok-shared in
    let p = c.into_parts-parts in
    let cells : s.shared.cells ≡ c.args.code.now.cells = s.ensures.cells ∙ c.cells.ensures ∙ ap (λ (x : PlainCode). x.cells) c.code.ensures.value in
    let threads : c.threads.result.now ≡ c.args.code.now.threads = c.threads.ensures ∙ ap (λ (x : PlainCode). x.threads) c.code-2.ensures.value in
    let opened : AreOpened c.args.code.now p.result.0 p.result.1.items = parts_opened c.args.code.now s.shared p.result.0 p.result.1.items cells (s.ensures.threads ∙ ap (λ (l : List CodeBody). length l) threads) (s.ensures.untouched ∙ ap untouched (sym s.ensures.cells ∙ cells)) p.ensures.cells p.ensures.atoms p.ensures.state in
    let many = ap (λ (l : List PlainAtom). length l) opened.atoms_are in
    let few = c.requires.few in
    let locks = each_lock c.args.code.now.cells (omega (arith, few)) in
    let count = c.new-opened.ensures.0 in
    let len = c.len.ensures in
    omega (arith, count, len, many, locks)
