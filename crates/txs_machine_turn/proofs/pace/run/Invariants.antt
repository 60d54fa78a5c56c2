use Rattle.std.proofs.Common.{◌≡◌, ◌≤◌, ◌+◌, ◌-◌, None}
use Rattle.txs_machine_actor.specs.PlainActor.{Lives, unanswered}
use Rattle.txs_machine_actor.specs.Turns.{TurnsOf}
use Rattle.txs_machine_actor.specs.declared.outcome.Turn.TheVariants as turned
use Rattle.txs_machine_turn.proofs.pace.run.Given as goal

-- the turns so far went, and each round made one at least
abbrev pub invariant-loop : goal.invariant-loop
invariant-loop l =
    record {
      turns : TurnsOf l.code (l.budget - l.left) l.fn.actor turned.Went l.actor;
      lives : Lives l.code l.actor;
      answered : unanswered l.actor ≡ None;
      left : l.left + l.counter ≤ l.budget;
      went : l.turn ≡ turned.Went;
    }
