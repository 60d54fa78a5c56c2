-- Formats: what bytes spell a value, and what reading them from left to right gives. A format is put together from fields.
use Rattle.std.specs.Prelude.{◌≡◌, ℕ, zero, suc, ◌+◌, ◌-◌, ◌*◌, ◌<◌, ◌^◌, nat_lt, ◌==◌, if◌then◌else◌, List, [], ◌∷◌, ◌++◌, length, take, drop, Option, Some, None, Result, Ok, Err}
use Rattle.std.specs.List.{flat_map, AllByRecursion}
use Rattle.std.specs.Int.{Width, byte_len, from_be_bytes, to_be_bytes}
use Rattle.txs_value_data.specs.Places.{nth}
use Rattle.txs_code_decode.specs.declared.error.CodeErrorKind.{CodeErrorKind}
use Rattle.txs_code_decode.specs.declared.error.CodeErrorKind.TheVariants.{Truncated, Trailing}
use Rattle.txs_code_decode.specs.declared.error.Refusal.{Refusal}
use Rattle.txs_code_decode.specs.declared.error.Stop.{Stop}
use Rattle.txs_code_decode.specs.declared.error.Stop.TheVariants as stops

-- what reading gives: a value and the bytes behind it, or the first refusal
abbrev pub Read : Type 0 → Type 0
Read A = Result (A × List ℕ) Refusal

-- the field with which these bytes begin is refused
abbrev pub refuse : {A : Type 0} → CodeErrorKind → List ℕ → Result A Refusal
refuse kind bytes = Err (record { kind = kind; left = length bytes })

-- what is read, and then what is made of it; a refusal stays
infixl 10 ◌>>=◌
abbrev pub ◌>>=◌ : {A B : Type 0} → Result A Refusal → (A → Result B Refusal) → Result B Refusal
(Ok x) >>= f = f x
(Err e) >>= f = Err e

-- a test of a field: the kind of its refusal, if it is refused
abbrev pub Test : Type 0 → Type 0
Test A = A → Option CodeErrorKind

-- the value, or the refusal of the field that it was read from
abbrev pub judge : {A : Type 0} → Option CodeErrorKind → List ℕ → A → List ℕ → Read A
judge None bytes x rest = Ok (x, rest)
judge (Some kind) bytes x rest = refuse kind bytes

-- the same, where the refusal says how many bytes were left
abbrev pub judge_left : {A : Type 0} → Option CodeErrorKind → ℕ → A → List ℕ → Read A
judge_left None left x rest = Ok (x, rest)
judge_left (Some kind) left x rest = Err (record { kind = kind; left = left })

-- A format of the values of a type: the bytes that spell a value, the values that it is for, and what reading gives.
pub record Format (A : Type 0) : Type 1 where
  pub form : A → List ℕ
  pub fits : A → Type 0
  pub read : List ℕ → Read A

-- ---- fields

-- what reading a field of one byte gives
unfoldable pub byte_at : List ℕ → Read ℕ
byte_at [] = refuse Truncated []
byte_at (b ∷ rest) = Ok (b, rest)

-- a field of one byte
abbrev pub byte : Format ℕ
byte = record { form = λ n. n ∷ []; fits = λ n. n < 256; read = byte_at }

-- what reading a field of so many bytes gives
unfoldable pub bytes_at : ℕ → List ℕ → Read (List ℕ)
bytes_at n bytes = if nat_lt (length bytes) n then refuse Truncated [] else Ok (take n bytes, drop n bytes)

-- a field of so many bytes
abbrev pub some_bytes : ℕ → Format (List ℕ)
some_bytes n = record { form = λ bs. bs; fits = λ bs. length bs ≡ n; read = bytes_at n }

-- what is above each number of a width
abbrev pub limit : Width → ℕ
limit w = 2 ^ (8 * byte_len w)

-- what reading a number of a width gives
unfoldable pub number_at : Width → List ℕ → Read ℕ
number_at w bytes = if nat_lt (length bytes) (byte_len w) then refuse Truncated [] else Ok (from_be_bytes w (take (byte_len w) bytes), drop (byte_len w) bytes)

-- a number in a field of two, four or eight bytes, the highest first
abbrev pub number : Width → Format ℕ
number w = record { form = to_be_bytes w; fits = λ n. n < limit w; read = number_at w }

-- ---- put together

-- a field with a test, which refuses it at its first byte
abbrev pub tested : {A : Type 0} → Format A → Test A → Format A
tested f test = record {
  form = f.form;
  fits = λ a. f.fits a × (test a ≡ None);
  read = λ bytes. f.read bytes >>= λ x. judge (test x.0) bytes x.0 x.1;
}

-- a field with a test, which refuses it so many bytes before its first
abbrev pub tested_before : {A : Type 0} → ℕ → Format A → Test A → Format A
tested_before k f test = record {
  form = f.form;
  fits = λ a. f.fits a × (test a ≡ None);
  read = λ bytes. f.read bytes >>= λ x. judge_left (test x.0) (length bytes + k) x.0 x.1;
}

-- what was found, or the refusal of the field that tells it
abbrev pub found : {A : Type 0} → CodeErrorKind → Option A → List ℕ → List ℕ → Read A
found kind None bytes rest = refuse kind bytes
found kind (Some a) bytes rest = Ok (a, rest)

-- one of a list, given by its place there; a place that the list doesn't have is refused so
abbrev pub one_of : {A : Type 0} → Format ℕ → List A → (A → ℕ) → CodeErrorKind → Format A
one_of field all place kind = record {
  form = λ a. field.form (place a);
  fits = λ a. field.fits (place a) × (nth all (place a) ≡ Some a);
  read = λ bytes. field.read bytes >>= λ n. found kind (nth all n.0) bytes n.1;
}

-- nothing, which spells this value
abbrev pub only : {A : Type 0} → A → Format A
only a = record { form = λ x. []; fits = λ x. x ≡ a; read = λ bytes. Ok (a, bytes) }

-- no value, where a test before it refuses
abbrev pub never : {A : Type 0} → Format A
never = record { form = λ x. []; fits = λ x. ⊥; read = λ bytes. refuse Truncated [] }

-- a value, and behind it another, of a format that may depend on the first
abbrev pub pair : {A B : Type 0} → Format A → (A → Format B) → Format (A × B)
pair f g = record {
  form = λ p. f.form p.0 ++ (g p.0).form p.1;
  fits = λ p. f.fits p.0 × (g p.0).fits p.1;
  read = λ bytes. f.read bytes >>= λ x. (g x.0).read x.1 >>= λ y. Ok ((x.0, y.0), y.1);
}

-- the same bytes, as values of another type
abbrev pub mapped : {A B : Type 0} → (A → B) → (B → A) → Format A → Format B
mapped to from f = record {
  form = λ b. f.form (from b);
  fits = λ b. f.fits (from b) × (to (from b) ≡ b);
  read = λ bytes. f.read bytes >>= λ x. Ok (to x.0, x.1);
}

-- what reading so many values gives, one behind the other
unfoldable pub many_at : {A : Type 0} → (List ℕ → Read A) → ℕ → List ℕ → Read (List A)
many_at read zero bytes = Ok ([], bytes)
many_at read (suc n) bytes = read bytes >>= λ x. many_at read n x.1 >>= λ xs. Ok (x.0 ∷ xs.0, xs.1)

-- so many values, one behind the other
abbrev pub many : {A : Type 0} → ℕ → Format A → Format (List A)
many n f = record {
  form = flat_map f.form;
  fits = λ xs. (length xs ≡ n) × AllByRecursion f.fits xs;
  read = many_at f.read n;
}

-- a count, and behind it so many values
abbrev pub counted : {A : Type 0} → Format ℕ → Format A → Format (List A)
counted count f = mapped (λ p. p.1) (λ xs. (length xs, xs)) (pair count (λ n. many n f))

-- a value that says which of several formats is that of what is behind it
abbrev pub tagged : {A T : Type 0} → Format T → (A → T) → (T → Format A) → Format A
tagged field tag body = record {
  form = λ a. field.form (tag a) ++ (body (tag a)).form a;
  fits = λ a. field.fits (tag a) × (body (tag a)).fits a;
  read = λ bytes. field.read bytes >>= λ t. (body t.0).read t.1;
}

-- ---- values that share a limit

-- the bytes of values, each in the format for what those before it left of the limit
unfoldable pub sharing_form : {A : Type 0} → (A → ℕ) → (ℕ → Format A) → ℕ → List A → List ℕ
sharing_form size f left [] = []
sharing_form size f left (x ∷ xs) = (f left).form x ++ sharing_form size f (left - size x) xs

-- so many values, for each of which its format is
unfoldable pub SharingFits : {A : Type 0} → (A → ℕ) → (ℕ → Format A) → ℕ → ℕ → List A → Type 0
SharingFits size f zero left [] = Unit {0}
SharingFits size f (suc n) left (x ∷ xs) = (f left).fits x × SharingFits size f n (left - size x) xs
SharingFits size f _ left _ = ⊥

-- what reading so many of them gives
unfoldable pub sharing_at : {A : Type 0} → (A → ℕ) → (ℕ → Format A) → ℕ → ℕ → List ℕ → Read (List A)
sharing_at size f zero left bytes = Ok ([], bytes)
sharing_at size f (suc n) left bytes = (f left).read bytes >>= λ x. sharing_at size f n (left - size x.0) x.1 >>= λ xs. Ok (x.0 ∷ xs.0, xs.1)

-- so many values, one behind the other, which share a limit: each is of the format for what is left of it
abbrev pub sharing : {A : Type 0} → (A → ℕ) → (ℕ → Format A) → ℕ → ℕ → Format (List A)
sharing size f n left = record { form = sharing_form size f left; fits = SharingFits size f n left; read = sharing_at size f n left }

-- ---- all bytes

-- all of the bytes spell a value
abbrev pub whole : {A : Type 0} → Format A → List ℕ → Result A Refusal
whole f bytes = f.read bytes >>= λ x. if length x.1 == 0 then Ok x.0 else refuse Trailing x.1

-- ---- what code answers

-- Why a function stopped is what reading says, unless memory ran out.
abbrev pub Fails : {Y : Type 0} → Stop → Result Y Refusal → Type 0
Fails stops.Memory read = Unit {0}
Fails (stops.Refused r) read = read ≡ Err r

-- What a function returned, seen by a view, is what reading gives, unless memory ran out.
abbrev pub Gives : {X Y : Type 0} → (X → Y) → Result X Stop → Result Y Refusal → Type 0
Gives view (Ok x) read = read ≡ Ok (view x)
Gives view (Err e) read = Fails e read
