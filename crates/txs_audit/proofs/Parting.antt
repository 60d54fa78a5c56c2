-- What is sought of pieces, put together.
use Rattle.std.proofs.Common.{◌≡◌, ℕ, ◌&&◌, Bool, true, false, List, [], ◌∷◌, ◌++◌, take, drop, Result, refl, sym, ap, ◌∙◌, subst, arith}
use Rattle.std.specs.Prelude.{length, Ok, Err, IfOk, OnOk}
use Rattle.std.proofs.lemmas.List.{take-append-drop}
use Rattle.core.specs.declared.thread.PromisedHandle.{PromisedHandle}
use Rattle.txs_theorem_audit.specs.Audited.{Finding, Fine, Off, Short, and_then, answer}
use Rattle.txs_audit_book.specs.Judged.{as_found}
use Rattle.txs_audit_evidence.specs.declared.transactions.Found.{Found}
use Rattle.txs_audit.specs.Parted.{sought_by, sought_in}
use Rattle.txs_audit.specs.Pieced.{IsFound, Sought, both, nothing}
use Rattle.txs_audit.specs.declared.judging.Judge as Judge
use Rattle.txs_audit.specs.declared.parts.Part.{Part}
use Rattle.txs_audit_book.specs.declared.verdict.AuditError.{AuditError}

abbrev IsFine : Finding → Type 0
IsFine Fine = Unit {0}
IsFine (Off a i) = ⊥
IsFine (Short a i) = ⊥

pub and_fine : (f g : Finding) → and_then f g ≡ Fine → (f ≡ Fine) × (g ≡ Fine)
and_fine Fine g h = (refl, h)
and_fine (Off a i) g h = absurd (subst IsFine (sym h) tt)
and_fine (Short a i) g h = absurd (subst IsFine (sym h) tt)

three : (f g h : Finding) → and_then (and_then f g) h ≡ and_then f (and_then g h)
three Fine g h = refl
three (Off a i) g h = refl
three (Short a i) g h = refl

and_three : (a b c : Bool) → ((a && b) && c) ≡ (a && (b && c))
and_three true b c = refl
and_three false b c = refl

and_nothing : (f : Finding) → and_then f Fine ≡ f
and_nothing Fine = refl
and_nothing (Off a i) = refl
and_nothing (Short a i) = refl

and_true : (b : Bool) → (b && true) ≡ b
and_true true = refl
and_true false = refl

abbrev made : Finding → Bool → Sought
made f b = record { finding = f; serial = b }

same : (f g : Finding) (a b : Bool) → f ≡ g → a ≡ b → made f a ≡ made g b
same f g a b p q = ap (λ h. made h a) p ∙ ap (made g) q

pub both_three : (s t u : Sought) → both (both s t) u ≡ both s (both t u)
both_three s t u =
    same (and_then (and_then s.finding t.finding) u.finding) (and_then s.finding (and_then t.finding u.finding)) ((s.serial && t.serial) && u.serial) (s.serial && (t.serial && u.serial)) (three s.finding t.finding u.finding) (and_three s.serial t.serial u.serial)

pub both_nothing : (s : Sought) → both s nothing ≡ s
both_nothing s = same (and_then s.finding Fine) s.finding (s.serial && true) s.serial (and_nothing s.finding) (and_true s.serial)

-- one worker more
module _ {J : Type 0} (g : Judge.Ghosts J) where
  pub sought_more : (hs : List (PromisedHandle (Result Found AuditError) (Part J))) (h : PromisedHandle (Result Found AuditError) (Part J)) → sought_by g (hs ++ h ∷ []) ≡ both (sought_by g hs) (sought_in g h.promise)
  sought_more [] h = both_nothing (sought_in g h.promise)
  sought_more (x ∷ xs) h = ap (both (sought_in g x.promise)) (sought_more xs h) ∙ sym (both_three (sought_in g x.promise) (sought_by g xs) (sought_in g h.promise))

-- what was found of these and then of those
pub found_both : (s t : Sought) (f g : Found) (r : Found) → IsFound s f → IsFound t g → as_found r.finding ≡ and_then (as_found f.finding) (as_found g.finding) → r.serial ≡ (f.serial && g.serial) → IsFound (both s t) r
found_both s t f g r x y is ser = record {
  finding = is ∙ ap (λ h. and_then h (as_found g.finding)) x.finding ∙ ap (and_then s.finding) y.finding;
  serial = λ fine. (let parts = and_fine s.finding t.finding fine in ser ∙ ap (λ b. b && g.serial) (x.serial parts.0) ∙ ap (λ b. s.serial && b) (y.serial parts.1));
}

answers : (f : Finding) (a b : Bool) → (f ≡ Fine → a ≡ b) → answer f a ≡ answer f b
answers Fine a b h = ap (answer Fine) (h refl)
answers (Off x i) a b h = refl
answers (Short x i) a b h = refl

-- what is answered is the answer of what was sought
pub answered : (s : Sought) (f : Found) → IsFound s f → answer (as_found f.finding) f.serial ≡ answer s.finding s.serial
answered s f x = ap (λ g. answer g f.serial) x.finding ∙ answers s.finding f.serial s.serial x.serial

pub nothing_left : {X : Type 0} (l : List X) → length l ≡ 0 → l ≡ []
nothing_left [] h = refl
nothing_left (x ∷ xs) h = absurd (omega (arith, h))

-- ---- answers

pub on_done : {T E : Type 0} (r : Result T E) (P Q : Type 0) → (P → Q) → OnOk r P → OnOk r Q
on_done (Ok v) P Q f p = f p
on_done (Err e) P Q f p = tt

pub if_done : {T E : Type 0} (r : Result T E) (P Q : T → Type 0) → ((v : T) → P v → Q v) → IfOk r P → IfOk r Q
if_done (Ok v) P Q f p = f v p
if_done (Err e) P Q f p = tt

-- a list that is split
pub split_whole : {X : Type 0} (mid : ℕ) (ws xs ys : List X) → xs ≡ take mid ws → ys ≡ drop mid ws → ws ≡ xs ++ ys
split_whole mid ws xs ys p q = sym (take-append-drop mid ws) ∙ ap (λ l. l ++ drop mid ws) (sym p) ∙ ap (λ l. xs ++ l) (sym q)
