-- What is known of an answer beside what it was made of.
use Rattle.std.proofs.Common.{◌≡◌, Result, Ok, Err, IfOk, sym, subst}

-- what is true of an answer with this, is true of it with the part of it that this is
pub of_its_own : {A B E : Type 0} (r : Result A E) (b : B) (part : A → B) (P : B → A → Type 0) → IfOk r (λ x. part x ≡ b) → IfOk r (λ x. P b x) → IfOk r (λ x. P (part x) x)
of_its_own (Ok x) b part P is h = subst (λ y. P y x) (sym is) h
of_its_own (Err e) b part P is h = h
