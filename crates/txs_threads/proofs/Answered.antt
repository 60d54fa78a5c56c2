-- What is said of what a run leaves.
use Rattle.std.specs.Prelude.{IfOk, Result, Ok, Err}

-- what follows from what an answer promises
pub still : {A E : Type 0} {P Q : A → Type 0} (r : Result A E) → IfOk r P → ((x : A) → P x → Q x) → IfOk r Q
still (Ok x) h f = f x h
still (Err e) h f = tt

-- what holds whatever is answered
pub always : {A E : Type 0} {P : Type 0} (r : Result A E) → P → IfOk r (λ x. P)
always (Ok x) p = p
always (Err e) p = tt
