use Rattle.txs_cli_events.specs.Staged.{AreMade, IsStaged}
use Rattle.txs_cli_events.proofs.making.make_round.Given as goal

abbrev pub invariant-loop-k : goal.invariant-loop-k
invariant-loop-k l = record {
  staged : IsStaged l.code l.max_steps l.stage;
  made : AreMade l.code l.made.items;
}
