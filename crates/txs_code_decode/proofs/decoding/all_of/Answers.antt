use Rattle.std.proofs.Common.{◌≡◌, ◌==◌, ℕ, List, length, true, refl, Ok}
use Rattle.txs_code_decode.specs.CodeForm.{code_format}
use Rattle.txs_code_decode.specs.Format.{Format, whole}
use Rattle.txs_code_decode.proofs.decoding.all_of.Goals as goal

-- what is read with nothing behind it is the whole
read_whole : {A : Type 0} (f : Format A) (bytes rest : List ℕ) (a : A) → f.read bytes ≡ Ok (a, rest) → (length rest == 0) ≡ true → whole f bytes ≡ Ok a
read_whole f bytes rest a h e = rw (h, e) refl

pub returns-clause-value : goal.returns-clause-value
returns-clause-value c =
    let none_left : (length c.in_ok-code.rest.now == 0) ≡ true = cc in
    read_whole code_format c.args.bytes.now c.in_ok-code.rest.now c.in_ok-code.code c.in_ok-code.ensures.value none_left
