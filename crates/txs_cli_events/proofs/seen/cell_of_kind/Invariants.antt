use Rattle.std.proofs.Common.{◌≡◌, drop}
use Rattle.std.specs.List.{slice_get}
use Rattle.txs_cli_events.specs.Run.{numbers_of}
use Rattle.txs_cli_events.proofs.seen.cell_of_kind.Given as goal

-- the number that is sought is the so many-th of those to come
abbrev pub invariant-loop-number : goal.invariant-loop-number
invariant-loop-number l = slice_get (numbers_of l.kind l.number (drop l.number l.cells)) l.before ≡ slice_get (numbers_of l.kind 0 l.cells) l.n
