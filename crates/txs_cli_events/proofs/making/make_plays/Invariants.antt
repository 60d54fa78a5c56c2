use Rattle.txs_cli_events.specs.Staged.{AreMade, IsStaged}
use Rattle.txs_cli_events.proofs.making.make_plays.Given as goal

abbrev pub invariant-loop-run : goal.invariant-loop-run
invariant-loop-run l = record {
  staged : IsStaged l.code l.max_steps l.stage;
  made : AreMade l.code l.made.items;
}
