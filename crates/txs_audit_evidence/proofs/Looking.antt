-- What is looked up in the store's book of numbers that no cell has.
use Rattle.std.proofs.Common.{◌≡◌, ◌≤◌, ◌<◌, ◌∙◌, ℕ, false, List, [], ◌∷◌, length, take, Option, Some, None, refl, sym, ap, arith}
use Rattle.std.proofs.lemmas.List.{length-map}
use Rattle.txs_value_data.specs.Places.{nth}
use Rattle.txs_value_data.specs.declared.fault.Fault.{Fault}
use Rattle.txs_value_cell.specs.declared.action.Action.{Action}
use Rattle.txs_value_data.specs.declared.value.CellId.{CellId}
use Rattle.txs_world.specs.Store.{first_action, next_action}
use Rattle.txs_world_book.specs.Book.{is_there, mail_after, written}
use Rattle.txs_world_book.specs.Served.{cell_of, cells_of}
use Rattle.txs_audit_book.specs.Replayed.{PlainReplay, failure_there}
use Rattle.txs_audit_evidence.specs.Evidence.{AreLegal, PlainBooks, replay_in}
use Rattle.txs_audit_evidence.proofs.Unwritten.{faultless, unwritten}

pub cells_many : (b : PlainBooks) → length (cells_of b.program.cells) ≡ length b.program.cells
cells_many b = length-map b.program.cells cell_of

pub never_written : (b : PlainBooks) → AreLegal b → (k since events : ℕ) → length b.program.cells ≤ k → written k since (take events b.report.book) ≡ false
never_written b h k since events le = let many = cells_many b in unwritten (cells_of b.program.cells) (length b.program.threads) b.report.book h.store k since events (omega (arith, le, many))

pub never_failed : (b : PlainBooks) → AreLegal b → (k events : ℕ) → length b.program.cells ≤ k → is_there (mail_after (cells_of b.program.cells) (take events b.report.book) k).fault ≡ false
never_failed b h k events le =
    let many = cells_many b in
    ap is_there (faultless (cells_of b.program.cells) (length b.program.threads) b.report.book h.store k events (omega (arith, le, many)))

-- ---- what an agent runs next

-- a number of a cell is one of the replay
pub cell_replayed : (b : PlainBooks) (q : PlainReplay) → q ≡ replay_in b → (k : ℕ) → k < length b.program.cells → k < length q.cells
cell_replayed b q is k lt =
    let same : length q.cells ≡ length (cells_of b.program.cells) = ap (λ (x : PlainReplay). length x.cells) is in
    let many = cells_many b in
    omega (arith, lt, same, many)

first_of : (xs : List Action) → nth xs 0 ≡ first_action false xs
first_of [] = refl
first_of (x ∷ xs) = refl

pub next_failed : (b : PlainBooks) (q : PlainReplay) → q ≡ replay_in b → (k : ℕ) (f : Fault) → Some f ≡ failure_there q k → (g : CellId) → g.number ≡ k → None ≡ next_action (cells_of b.program.cells) b.report.book g
next_failed b q is k f failed g number =
    let mail = mail_after (cells_of b.program.cells) b.report.book g.number in
    let there : Some f ≡ mail.fault = failed ∙ ap (λ (x : PlainReplay). failure_there x k) is ∙ ap (λ n. (mail_after (cells_of b.program.cells) b.report.book n).fault) (sym number) in
    ap (λ o. first_action (is_there o) mail.actions) there

pub next_is : (b : PlainBooks) (q : PlainReplay) → q ≡ replay_in b → (k : ℕ) → None ≡ failure_there q k → (o : Option Action) → o ≡ nth (mail_after q.cells q.book k).actions 0 → (g : CellId) → g.number ≡ k → o ≡ next_action (cells_of b.program.cells) b.report.book g
next_is b q is k goes o first g number =
    let mail = mail_after (cells_of b.program.cells) b.report.book g.number in
    let there : None ≡ mail.fault = goes ∙ ap (λ (x : PlainReplay). failure_there x k) is ∙ ap (λ n. (mail_after (cells_of b.program.cells) b.report.book n).fault) (sym number) in
    first ∙ ap (λ (x : PlainReplay). nth (mail_after x.cells x.book k).actions 0) is ∙ ap (λ n. nth (mail_after (cells_of b.program.cells) b.report.book n).actions 0) (sym number) ∙ first_of mail.actions
    ∙ ap (λ o. first_action (is_there o) mail.actions) there
