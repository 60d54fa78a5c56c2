use Rattle.std.proofs.Common.{◌≡◌, ◌++◌, length, take}
use Rattle.std.specs.Int.{w32, to_be_bytes}
use Rattle.std.specs.List.{flat_map}
use Rattle.txs_code_decode.specs.CellForm.{constant_bytes}
use Rattle.txs_code_encode.proofs.encoding.put_constants.Given as goal

abbrev pub invariant-loop-constant : goal.invariant-loop-constant
invariant-loop-constant l = l.out.items ≡ l.fn.out.items ++ (to_be_bytes w32 (length l.constants) ++ flat_map constant_bytes (take l.constant-index l.constants))
