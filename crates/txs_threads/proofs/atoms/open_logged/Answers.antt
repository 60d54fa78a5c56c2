use Rattle.std.proofs.Common.{rules, arith, ◌≡◌, ◌≤◌, List, length, ap, sym, subst, ◌∙◌}
use Rattle.txs_code_meaning.specs.PlainCode.{PlainCode}
use Rattle.txs_history.specs.Logged.{locks_of}
use Rattle.txs_world_book.specs.Atom.{PlainAtom}
use Rattle.txs_world_shared.specs.Kept.{atoms_of}
use Rattle.txs_threads.proofs.Opening.{AreNext, all_next, each_lock}
use Rattle.txs_threads.proofs.atoms.open_logged.Goals as goal

pub loop-book-init : goal.loop-book-init
loop-book-init g c =
    let cells = g.J.Run.code.cells in
    let left = c.into_iter-book-iterator.result.rest.items in
    let all : left ≡ c.args.parts.1.items = search rules in
    let same : left ≡ atoms_of 0 cells = all ∙ c.requires.parts.atoms_are ∙ ap (λ (k : PlainCode). atoms_of 0 k.cells) c.requires.code in
    let few : length cells ≤ 65535 = subst (λ (k : PlainCode). length k.cells ≤ 65535) c.requires.code c.requires.few in
    let count : c.next.new.self.count ≡ locks_of cells = search rules in
    let first : c.next.new.self.next ≡ 1 = search rules in
    let many = ap (λ (xs : List PlainAtom). length xs) same in
    let each = each_lock cells few in
    record {
      book = search rules;
      count = count;
      left = omega (arith, count, first, many, each);
      next = subst (λ n. AreNext cells n left) (sym first) (subst (AreNext cells 1) (sym same) (all_next cells few));
    }
