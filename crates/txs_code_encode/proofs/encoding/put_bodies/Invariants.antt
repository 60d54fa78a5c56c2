use Rattle.std.proofs.Common.{◌≡◌, ◌++◌, length, take}
use Rattle.std.specs.Int.{w16, to_be_bytes}
use Rattle.std.specs.List.{flat_map}
use Rattle.txs_code_decode.specs.CodeForm.{body_bytes}
use Rattle.txs_code_encode.proofs.encoding.put_bodies.Given as goal

abbrev pub invariant-loop-body : goal.invariant-loop-body
invariant-loop-body l = l.out.items ≡ l.fn.out.items ++ (to_be_bytes w16 (length l.bodies) ++ flat_map body_bytes (take l.body-index l.bodies))
