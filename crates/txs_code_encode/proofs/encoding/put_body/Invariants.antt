use Rattle.std.proofs.Common.{◌≡◌, ◌++◌, ◌∷◌, length, take}
use Rattle.std.specs.Int.{w32, to_be_bytes}
use Rattle.std.specs.List.{flat_map}
use Rattle.txs_code_decode.specs.CodeForm.{paired}
use Rattle.txs_code_decode.specs.InstrForm.{placed_bytes}
use Rattle.txs_code_encode.proofs.encoding.put_body.Given as goal

abbrev pub invariant-loop-i : goal.invariant-loop-i
invariant-loop-i l =
    l.out.items ≡ l.fn.out.items ++ ((l.body.parameters ∷ l.body.locals ∷ to_be_bytes w32 (length l.body.instrs)) ++ flat_map placed_bytes (paired (take l.i l.body.instrs) (take l.i l.body.spans)))
