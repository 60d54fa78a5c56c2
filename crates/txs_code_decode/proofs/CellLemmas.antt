-- Constants, read as values.
use Rattle.std.proofs.Common.{◌≡◌, Bool, List, [], ◌∷◌, map, ℕ, zero, suc, Result, Ok, Err, refl, ap, ◌∙◌}
use Rattle.txs_value_data.specs.View.{plain_of, plains_of, value_of}
use Rattle.txs_value_data.specs.declared.value.CellKind.{CellKind}
use Rattle.txs_value_data.specs.declared.value.Value.{Value}
use Rattle.txs_code_decode.specs.declared.error.Stop.{Stop}
use Rattle.txs_code_decode.specs.declared.error.Stop.TheVariants as stops
use Rattle.txs_code_decode.specs.CellForm.{constant_format}
use Rattle.txs_code_decode.specs.Format.{Gives, Read, ◌>>=◌, many_at}
use Rattle.txs_code_decode.specs.ValueForm.{value_format}
use Rattle.txs_code_decode.proofs.ValueExact.{value_again}

-- one of the two formats reads what the other reads, as values
pub constant_reads : {B : Type 0} (cells : Bool) (kinds : List CellKind) (bytes : List ℕ) (r : Result (Value × B) Stop) (now : B → List ℕ) → Gives (λ x. (plain_of x.0, now x.1)) r ((value_format cells kinds 32).read bytes)
    → Gives (λ x. (x.0, now x.1)) r ((constant_format cells kinds).read bytes)
unfolding constant_format
constant_reads cells kinds bytes (Ok x) now h = rw (h, value_again x.0) refl
constant_reads cells kinds bytes (Err stops.Memory) now h = tt
constant_reads cells kinds bytes (Err (stops.Refused e)) now h = rw h refl

abbrev mapped_read : {A B : Type 0} → (A → B) → Read A → Read B
mapped_read to read = read >>= λ x. Ok (to x.0, x.1)

abbrev behind_one : {A : Type 0} → A → Read (List A) → Read (List A)
behind_one a read = read >>= λ xs. Ok (a ∷ xs.0, xs.1)

mapped_rest : {A B : Type 0} (to : A → B) (a : A) (read : Read (List A)) → behind_one (to a) (mapped_read (map to) read) ≡ mapped_read (map to) (behind_one a read)
mapped_rest to a (Ok x) = refl
mapped_rest to a (Err e) = refl

mapped_first : {A B : Type 0} (to : A → B) (read : List ℕ → Read A) (n : ℕ) → ((bytes : List ℕ) → many_at (λ b. mapped_read to (read b)) n bytes ≡ mapped_read (map to) (many_at read n bytes)) → (first : Read A)
    → (mapped_read to first >>= λ x. behind_one x.0 (many_at (λ b. mapped_read to (read b)) n x.1)) ≡ mapped_read (map to) (first >>= λ x. behind_one x.0 (many_at read n x.1))
mapped_first to read n rest (Ok x) = ap (behind_one (to x.0)) (rest x.1) ∙ mapped_rest to x.0 (many_at read n x.1)
mapped_first to read n rest (Err e) = refl

many_mapped : {A B : Type 0} (to : A → B) (read : List ℕ → Read A) (n : ℕ) (bytes : List ℕ) → many_at (λ b. mapped_read to (read b)) n bytes ≡ mapped_read (map to) (many_at read n bytes)
unfolding many_at
many_mapped to read zero bytes = refl
many_mapped to read (suc n) bytes = mapped_first to read n (many_mapped to read n) (read bytes)

values_again : (vs : List Value) → map value_of (plains_of vs) ≡ vs
values_again [] = refl
values_again (v ∷ vs) = λ i. value_again v i ∷ values_again vs i

many_constants : (cells : Bool) (kinds : List CellKind) (n : ℕ) (bytes : List ℕ) → many_at (constant_format cells kinds).read n bytes ≡ mapped_read (map value_of) (many_at (value_format cells kinds 32).read n bytes)
unfolding constant_format
many_constants cells kinds n bytes = many_mapped value_of (value_format cells kinds 32).read n bytes

-- and so of many, one behind the other
pub constants_read : {V B : Type 0} (cells : Bool) (kinds : List CellKind) (n : ℕ) (bytes : List ℕ) (r : Result (V × B) Stop) (items : V → List Value) (now : B → List ℕ) → Gives (λ x. (plains_of (items x.0), now x.1)) r (many_at (value_format cells kinds 32).read n bytes)
    → Gives (λ x. (items x.0, now x.1)) r (many_at (constant_format cells kinds).read n bytes)
constants_read cells kinds n bytes (Ok x) items now h =
    many_constants cells kinds n bytes ∙ ap (mapped_read (map value_of)) h ∙ ap (λ (vs : List Value). Ok (vs, now x.1)) (values_again (items x.0))
constants_read cells kinds n bytes (Err stops.Memory) items now h = tt
constants_read cells kinds n bytes (Err (stops.Refused e)) items now h =
    many_constants cells kinds n bytes ∙ ap (mapped_read (map value_of)) h
