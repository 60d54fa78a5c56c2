-- What holds of an answer, or of a want of memory for it.
use Rattle.std.proofs.Common.{ℕ, List, [], Option, Result, Ok, Err, IfOk, codes, refl}
use Rattle.std.specs.Option.{IfSome}
use Rattle.txs_cli_report.proofs.Fronts.{ok_maps, some_always, some_maps}
use Rattle.txs_cli_report.specs.Lent.{answer_of, told_of}
use Rattle.txs_cli_report.specs.Told.{Told, Answers, IsTold, of_memory, of_told}
use Rattle.txs_cli_report.specs.declared.told.Told as owned

-- there was no memory
abbrev pub IsMemory : Told → Type 0
IsMemory t = IsTold [] (codes "out of memory\n") 4 t

-- of a stream: what is told of all of its bytes
pub stream_answered : {E : Type 0} (r : Result owned.Told E) (known : Option (List ℕ)) (P : List ℕ → Told → Type 0) → ((input : List ℕ) (t : Told) → IsMemory t → P input t)
    → IfOk r (λ t. IfSome known (λ input. P input (told_of t))) → IfSome known (λ input. P input (answer_of r))
stream_answered (Ok t) known P memory h = h
stream_answered (Err e) known P memory h = some_always known (λ input. P input (answer_of (Err e))) (λ input. memory input (answer_of (Err e)) (record { output = refl; errors = refl; status = refl }))

-- the same, where what is told is written
pub stream_written : {E : Type 0} (r : Result owned.Told E) (known : Option (List ℕ)) (P : List ℕ → Told → Type 0) (writes : Told → Type 0) → ((input : List ℕ) (t : Told) → IsMemory t → P input t)
    → IfOk r (λ t. IfSome known (λ input. P input (told_of t))) → writes (answer_of r) → IfSome known (λ input. (t : Told) × P input t × writes t)
stream_written r known P writes memory told written =
    some_maps known (λ input. P input (answer_of r)) (λ input. (t : Told) × P input t × writes t) (λ input is. (answer_of r, is, written)) (stream_answered r known P memory told)

-- an answer of a stream, which is written
pub answer_written : {E : Type 0} (r : Result owned.Told E) (known : Option (List ℕ)) (P : List ℕ → Told → Type 0) (writes : Told → Type 0)
    → IfOk r (λ t. IfSome known (λ input. P input (told_of t))) → writes (answer_of r) → IfSome known (λ input. (t : Told) × Answers (P input) t × writes t)
answer_written r known P writes told written =
    stream_written r known (λ input t. Answers (P input) t) writes (λ input t m. of_memory m)
    (ok_maps r (λ t. IfSome known (λ input. P input (told_of t))) (λ t. IfSome known (λ input. Answers (P input) (told_of t)))
    (λ t h. some_maps known (λ input. P input (told_of t)) (λ input. Answers (P input) (told_of t)) (λ input p. of_told p) h) told) written

-- of a stream that couldn't be read, whatever it has
pub unread_told : {E : Type 0} (r : Result owned.Told E) (known : Option (List ℕ)) (U : Told → Type 0) (P : List ℕ → Told → Type 0) → ((input : List ℕ) (t : Told) → U t → P input t)
    → IfOk r (λ t. U (told_of t)) → IfOk r (λ t. IfSome known (λ input. P input (told_of t)))
unread_told r known U P unread is = ok_maps r (λ t. U (told_of t)) (λ t. IfSome known (λ input. P input (told_of t))) (λ t u. some_always known (λ input. P input (told_of t)) (λ input. unread input (told_of t) u)) is
