-- What a reader gave of its known bytes, and what holds of an answer carried over.
use Rattle.std.proofs.Common.{◌≡◌, ℕ, List, [], ◌++◌, take, Option, Some, None, Result, Ok, Err, IfOk, OnErr, OnOk, false, is_err, refl, true, ap, ◌∙◌, subst}
use Rattle.std.specs.Io.KnownBytes.{Keeps}
use Rattle.std.specs.Option.{IfSome, option_map}

-- a front of them, read to its end into an empty list
taken : (o : Option (List ℕ)) (k n : ℕ) (old new : List ℕ) → old ≡ [] → k ≡ n → IfSome (option_map (take k) o) (λ xs. new ≡ old ++ xs) → IfSome o (λ input. new ≡ take n input)
taken None k n old new e q h = tt
taken (Some xs) k n old new e q h = h ∙ ap (λ l. l ++ take k xs) e ∙ ap (λ i. take i xs) q

-- the same of a reader that is lent
pub taken_by : {B : Type 0} (a b : B) (f : B → Option (List ℕ)) (k n : ℕ) (old new : List ℕ) → a ≡ b → old ≡ [] → k ≡ n → IfSome (option_map (take k) (f a)) (λ xs. new ≡ old ++ xs) → IfSome (f b) (λ input. new ≡ take n input)
taken_by a b f k n old new is e q h = taken (f b) k n old new e q (subst (λ r. IfSome (option_map (take k) (f r)) (λ xs. new ≡ old ++ xs)) is h)

-- what isn't touched keeps its bytes
pub kept : (o : Option (List ℕ)) → Keeps o o
kept None = tt
kept (Some xs) = refl

-- what follows from what holds of a value, if there is one
pub some_maps : {A : Type 0} (o : Option A) (P Q : A → Type 0) → ((x : A) → P x → Q x) → IfSome o P → IfSome o Q
some_maps None P Q f h = tt
some_maps (Some x) P Q f h = f x h

-- what follows from what holds of an answer, if it is one
pub ok_maps : {A E : Type 0} (r : Result A E) (P Q : A → Type 0) → ((x : A) → P x → Q x) → IfOk r P → IfOk r Q
ok_maps (Ok x) P Q f h = f x h
ok_maps (Err e) P Q f h = tt

-- what follows from three things that hold of an answer, if it is one
pub ok_three : {A E : Type 0} (r : Result A E) (P Q R S : A → Type 0) → ((x : A) → P x → Q x → R x → S x) → IfOk r P → IfOk r Q → IfOk r R → IfOk r S
ok_three (Ok x) P Q R S f p q r = f x p q r
ok_three (Err e) P Q R S f p q r = tt

-- what follows from what holds where an answer is one
pub on_ok : {A E : Type 0} (r : Result A E) (P Q : Type 0) → (P → Q) → OnOk r P → OnOk r Q
on_ok (Ok x) P Q f h = f h
on_ok (Err e) P Q f h = tt

-- what holds whatever the value is
pub some_always : {A : Type 0} (o : Option A) (P : A → Type 0) → ((x : A) → P x) → IfSome o P
some_always None P f = tt
some_always (Some x) P f = f x

-- an answer that isn't an error is one, and an error is none
pub ok_then : {A E : Type 0} (r : Result A E) (P : Type 0) → false ≡ is_err r → OnOk r P → P
ok_then (Ok x) P e h = h
ok_then (Err x) P e h = absurd cc

pub err_then : {A E : Type 0} (r : Result A E) (P : Type 0) → true ≡ is_err r → OnErr r P → P
err_then (Ok x) P e h = absurd cc
err_then (Err x) P e h = h

pub no_ok : {A E : Type 0} (r : Result A E) (P : Type 0) → true ≡ is_err r → OnOk r P
no_ok (Ok x) P e = absurd cc
no_ok (Err x) P e = tt

pub no_err : {A E : Type 0} (r : Result A E) (P : Type 0) → false ≡ is_err r → OnErr r P
no_err (Ok x) P e = tt
no_err (Err x) P e = absurd cc

-- what holds whatever an answer is
pub on_any : {A E : Type 0} (r : Result A E) (P : Type 0) → P → OnOk r P
on_any (Ok x) P p = p
on_any (Err e) P p = tt
