use Rattle.std.proofs.Common.{◌≡◌, drop, true}
use Rattle.txs_world_book.specs.Book.{are_sends, first_failed}
use Rattle.txs_audit_book.proofs.parts.Parts.none_failed.Given as goal

-- the actions to come are for agents of the store, and the first of them whose agent has failed is that of all
abbrev pub invariant-loop-action : goal.invariant-loop-action
invariant-loop-action l =
    record {
      sends : are_sends l.self.cells (drop l.action-index l.sends) ≡ true;
      answer : first_failed l.self.cells l.done (drop l.action-index l.sends) ≡ first_failed l.self.cells l.done l.sends;
    }
