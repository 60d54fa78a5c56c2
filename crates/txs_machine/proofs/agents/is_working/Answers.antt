use Rattle.std.proofs.Common.{◌≡◌, ◌<◌, ◌≤◌, false, length, rules, arith}
use Rattle.std.proofs.lemmas.Bool.Decides.{nat_tests}
use Rattle.txs_world_shared.specs.SharedState.{numbered_book}
use Rattle.txs_world_book.specs.Book.{is_failed, mail_after}
use Rattle.txs_world_book.specs.Served.{cells_of}
use Rattle.txs_machine.proofs.Working.{next_there, none_next}
use Rattle.txs_machine.proofs.agents.is_working.Goals as goal

pub returns-clause-yes : goal.returns-clause-yes
returns-clause-yes c holds =
    let cells = cells_of c.args.shared.now.cells in
    let book = numbered_book c.args.shared.now 0 in
    let g = c.args.agent.now.agent in
    let none : is_failed cells book g ≡ false = search rules in
    let some : 0 < length (mail_after cells book g.number).actions = search (rules, holds) in
    next_there cells book g none some

pub returns-clause-no : goal.returns-clause-no
returns-clause-no c low going =
    let cells = cells_of c.args.shared.now.cells in
    let book = numbered_book c.args.shared.now 0 in
    let g = c.args.agent.now.agent in
    let few : c.waiting.result ≤ 0 = grind (arith, nat_tests, low) in
    let len : c.waiting.result ≡ length (mail_after cells book g.number).actions = search rules in
    none_next cells book g (omega (arith, few, len))
