use Rattle.txs_cli_events.specs.Staged.{AreMade, IsStaged}
use Rattle.txs_cli_events.proofs.making.make_rounds.Given as goal

abbrev pub invariant-loop-i : goal.invariant-loop-i
invariant-loop-i l = record {
  staged : IsStaged l.code l.max_steps l.stage;
  made : AreMade l.code l.made.items;
}
