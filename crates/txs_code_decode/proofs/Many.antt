-- A loop that reads so many values one behind the other: what is read so far, with what reading the rest gives, is what reading
-- all gives.
use Rattle.std.proofs.Common.{◌≡◌, ℕ, suc, ◌+◌, ◌-◌, ◌<◌, ◌≤◌, List, [], ◌∷◌, ◌++◌, Ok, Err, refl, sym, ap, ◌∙◌, append_assoc, arith}
use Rattle.std.proofs.lemmas.List.{append-nil}
use Rattle.txs_code_decode.specs.declared.error.Stop.{Stop}
use Rattle.txs_code_decode.specs.declared.error.Stop.TheVariants as stops
use Rattle.txs_code_decode.specs.Format.{Read, ◌>>=◌, Format, many_at, sharing_at, Fails}

abbrev pub with_front : {A : Type 0} → List A → Read (List A) → Read (List A)
with_front front read = read >>= λ x. Ok (front ++ x.0, x.1)

pub starts : {A : Type 0} (read : Read (List A)) → with_front [] read ≡ read
starts (Ok x) = refl
starts (Err r) = refl

regroup : {A : Type 0} (front : List A) (a : A) (read : Read (List A)) → with_front front (read >>= λ xs. Ok (a ∷ xs.0, xs.1)) ≡ with_front (front ++ a ∷ []) read
regroup front a (Ok x) = ap (λ ys. Ok (ys, x.1)) (sym (append_assoc front (a ∷ []) x.0))
regroup front a (Err r) = refl

-- one more value was read
pub goes_on : {A : Type 0} (read : List ℕ → Read A) (front : List A) (count i : ℕ) (bytes : List ℕ) (a : A) (after : List ℕ) (total : Read (List A)) → i < count → read bytes ≡ Ok (a, after)
    → with_front front (many_at read (count - i) bytes) ≡ total → with_front (front ++ a ∷ []) (many_at read (count - (i + 1)) after) ≡ total
unfolding many_at
goes_on {A} read front count i bytes a after total lt h so_far =
    let k : count - i ≡ suc (count - (i + 1)) = omega arith in
    let one : with_front front (many_at read (count - i) bytes) ≡ with_front (front ++ a ∷ []) (many_at read (count - (i + 1)) after) = rw (k, h) (regroup front a (many_at read (count - (i + 1)) after)) in
    sym one ∙ so_far

-- the next value is refused
pub ends : {A : Type 0} (read : List ℕ → Read A) (e : Stop) (front : List A) (count i : ℕ) (bytes : List ℕ) (total : Read (List A)) → i < count → Fails e (read bytes)
    → with_front front (many_at read (count - i) bytes) ≡ total → Fails e total
unfolding many_at
ends read stops.Memory front count i bytes total lt h so_far = tt
ends {A} read (stops.Refused r) front count i bytes total lt h so_far =
    let k : count - i ≡ suc (count - (i + 1)) = omega arith in
    let one : with_front front (many_at read (count - i) bytes) ≡ Err r = rw (k, h) refl in
    sym so_far ∙ one

-- all are read
pub is_done : {A : Type 0} (read : List ℕ → Read A) (front : List A) (count i : ℕ) (bytes : List ℕ) (total : Read (List A)) → count ≤ i → with_front front (many_at read (count - i) bytes) ≡ total → total ≡ Ok (front, bytes)
unfolding many_at
is_done {A} read front count i bytes total le so_far =
    let k : count - i ≡ 0 = omega arith in
    let one : with_front front (many_at read (count - i) bytes) ≡ Ok (front, bytes) = rw k (ap (λ ys. Ok (ys, bytes)) (append-nil front)) in
    sym so_far ∙ one

-- ---- the same of values that share a limit

-- one more value was read
pub shares_on : {A : Type 0} (size : A → ℕ) (f : ℕ → Format A) (front : List A) (count i left : ℕ) (bytes : List ℕ) (a : A) (after : List ℕ) (total : Read (List A)) → i < count → (f left).read bytes ≡ Ok (a, after)
    → with_front front (sharing_at size f (count - i) left bytes) ≡ total → with_front (front ++ a ∷ []) (sharing_at size f (count - (i + 1)) (left - size a) after) ≡ total
unfolding sharing_at
shares_on {A} size f front count i left bytes a after total lt h so_far =
    let k : count - i ≡ suc (count - (i + 1)) = omega arith in
    let one : with_front front (sharing_at size f (count - i) left bytes) ≡ with_front (front ++ a ∷ []) (sharing_at size f (count - (i + 1)) (left - size a) after) = rw (k, h) (regroup front a (sharing_at size f (count - (i + 1)) (left - size a) after)) in
    sym one ∙ so_far

-- the next value is refused
pub share_ends : {A : Type 0} (size : A → ℕ) (f : ℕ → Format A) (e : Stop) (front : List A) (count i left : ℕ) (bytes : List ℕ) (total : Read (List A)) → i < count → Fails e ((f left).read bytes)
    → with_front front (sharing_at size f (count - i) left bytes) ≡ total → Fails e total
unfolding sharing_at
share_ends size f stops.Memory front count i left bytes total lt h so_far = tt
share_ends {A} size f (stops.Refused r) front count i left bytes total lt h so_far =
    let k : count - i ≡ suc (count - (i + 1)) = omega arith in
    let one : with_front front (sharing_at size f (count - i) left bytes) ≡ Err r = rw (k, h) refl in
    sym so_far ∙ one

-- all are read
pub share_done : {A : Type 0} (size : A → ℕ) (f : ℕ → Format A) (front : List A) (count i left : ℕ) (bytes : List ℕ) (total : Read (List A)) → count ≤ i → with_front front (sharing_at size f (count - i) left bytes) ≡ total → total ≡ Ok (front, bytes)
unfolding sharing_at
share_done {A} size f front count i left bytes total le so_far =
    let k : count - i ≡ 0 = omega arith in
    let one : with_front front (sharing_at size f (count - i) left bytes) ≡ Ok (front, bytes) = rw k (ap (λ ys. Ok (ys, bytes)) (append-nil front)) in
    sym so_far ∙ one
