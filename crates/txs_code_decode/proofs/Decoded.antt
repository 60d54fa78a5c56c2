-- What decoding answers, of what reading all bytes gives.
use Rattle.std.proofs.Common.{◌≡◌, ℕ, ◌++◌, Bool, true, false, List, length, Result, Ok, Err, IfErr, refl, sym, ap, subst, ◌∙◌}
use Rattle.txs_code_meaning.specs.PlainCode.{PlainCode}
use Rattle.txs_code_decode.specs.declared.error.CodeError.{CodeError}
use Rattle.txs_code_decode.specs.declared.error.CodeErrorKind.TheVariants.{Memory}
use Rattle.txs_code_decode.specs.declared.error.Stop.{Stop}
use Rattle.txs_code_decode.specs.declared.error.Stop.TheVariants as stops
use Rattle.txs_code_decode.specs.CodeForm.{Answers, HasForm, HasMagic, IsMemory, magic_1, magic_2, at_place, code_format, decoded, error_of, form}
use Rattle.txs_code_decode.specs.Format.{Fails, number_at, whole}
use Rattle.std.specs.Prelude.{◌==◌, ◌||◌}
use Rattle.std.specs.Int.{w32, to_be_bytes}
use Rattle.std.proofs.lemmas.Bool.{eqb-true}
use Rattle.txs_code_decode.proofs.CodeExact.{code_exact}
use Rattle.txs_code_decode.proofs.Exact.{IsBytes, number_exact, whole_again, whole_takes, wide32}
use Rattle.txs_code_decode.proofs.FormLemmas.{code_form}

-- code that was read has the bytes as its form
pub is_code : (bytes : List ℕ) (code : PlainCode) → IsBytes bytes → whole code_format bytes ≡ Ok code → HasForm code × (bytes ≡ form code)
is_code bytes code fits e =
    let t = whole_takes code_format code_exact bytes code fits e in
    (t.0, t.1 ∙ code_form code t.0)

-- code in its form is read
pub is_read : (bytes : List ℕ) (code : PlainCode) → HasForm code → bytes ≡ form code → decoded bytes ≡ Ok code
is_read bytes code fits e =
    ap (at_place (length bytes)) (ap (whole code_format) (e ∙ sym (code_form code fits)) ∙ whole_again code_format code_exact code fits)

-- and no other answer comes of it than that code or want of memory
pub is_only : (r : Result PlainCode CodeError) (bytes : List ℕ) (code : PlainCode) → HasForm code → bytes ≡ form code → Answers r (decoded bytes) → Answers r (Ok code)
is_only r bytes code fits e h = subst (λ (wanted : Result PlainCode CodeError). Answers r wanted) (is_read bytes code fits e) h

-- what was answered is what reading gives
pub first_code : (bytes : List ℕ) (code : PlainCode) → whole code_format bytes ≡ Ok code → decoded bytes ≡ Ok code
first_code bytes code e = ap (at_place (length bytes)) e

-- and so is what it stopped for, unless memory ran out
pub first_error : (bytes : List ℕ) (stop : Stop) → Fails stop (whole code_format bytes) → Answers (Err (error_of (length bytes) stop)) (decoded bytes)
first_error bytes stops.Memory h = λ other. absurd (other refl)
first_error bytes (stops.Refused r) h = λ other. ap (at_place (length bytes)) h

-- a stop that is answered as want of memory is such a one
pub memory_so : (n : ℕ) (stop : Stop) → (error_of n stop).kind ≡ Memory → IsMemory stop
memory_so n stops.Memory e = tt
memory_so n (stops.Refused r) e = e

-- the bytes behind which memory may run out
pub magic_read : (bytes rest : List ℕ) (n : ℕ) → IsBytes bytes → number_at w32 bytes ≡ Ok (n, rest) → (n == magic_1 || n == magic_2) ≡ true → HasMagic bytes
magic_read bytes rest n fits e is =
    let t = (number_exact w32 wide32).takes bytes (n, rest) fits e in
    one_of_two (n == magic_1) (n == magic_2) refl refl is t.parts
  where
    one_of_two : (first second : Bool) → (n == magic_1) ≡ first → (n == magic_2) ≡ second → (first || second) ≡ true → bytes ≡ to_be_bytes w32 n ++ rest → HasMagic bytes
    one_of_two true second f g one parts = (false, rest, parts ∙ ap (λ (k : ℕ). to_be_bytes w32 k ++ rest) (eqb-true n magic_1 f))
    one_of_two false true f g one parts = (true, rest, parts ∙ ap (λ (k : ℕ). to_be_bytes w32 k ++ rest) (eqb-true n magic_2 g))
    one_of_two false false f g one parts = absurd cc

pub behind_magic : {A : Type 0} (r : Result A Stop) (bytes : List ℕ) → HasMagic bytes → IfErr r (λ stop. IsMemory stop → HasMagic bytes)
behind_magic (Ok x) bytes h = tt
behind_magic (Err stop) bytes h = λ m. h
