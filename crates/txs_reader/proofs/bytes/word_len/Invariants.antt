use Rattle.std.proofs.Common.{◌≡◌, ℕ, ◌<◌, true, get_or}
use Rattle.txs_reader.specs.Bytes.{is_word_byte}
use Rattle.txs_reader.proofs.bytes.word_len.Given as goal

abbrev pub invariant-loop-i : goal.invariant-loop-i
invariant-loop-i l = (k : ℕ) → k < l.i → is_word_byte (get_or l.bytes k 0) ≡ true
