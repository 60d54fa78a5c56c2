-- Two meanings that differ in nothing but that the second may go on where the first needs turns.
use Rattle.std.proofs.Common.{◌≡◌, true, List, [], ◌∷◌, refl, sym, ap, ◌∙◌, subst}
use Rattle.std.proofs.lemmas.Bool.{false≢true}
use Rattle.txs_world_protocol.specs.Ask.{Writes, buffered, with_write}
use Rattle.txs_frame.specs.declared.frame.Commute.{Commute}
use Rattle.txs_value_data.specs.declared.value.Value.{Value}
use Rattle.txs_value_data.specs.declared.value.Value.TheVariants.{Nil}
use Rattle.txs_tree_meaning.specs.Meaning.{Completion, Completes, Recurs, Faults, Retries, Waits, OutOfTurns, Invalid, bind, Applies}
use Rattle.txs_tree_meaning.specs.Transaction.{value_or, redone}
use Rattle.txs_theorem_threads.proofs.Related.{Link, Related, bind_related, Applied}
use Rattle.txs_theorem_threads.specs.RepliesFit.{Halt, Going, Stopped, Short, Rerun}

abbrev SameWait : {S : Type 0} → S → Halt S → Type 0
SameWait s Going = ⊥
SameWait s (Stopped t) = s ≡ t
SameWait s (Short t) = ⊥
SameWait s (Rerun t) = ⊥

abbrev SameRerun : {S : Type 0} → S → Halt S → Type 0
SameRerun s Going = ⊥
SameRerun s (Stopped t) = ⊥
SameRerun s (Short t) = ⊥
SameRerun s (Rerun t) = s ≡ t

-- equal states; where the first needs turns, nothing is said of the second
abbrev pub same_link : (S : Type 0) → Link S S
same_link S = record {
  rel = λ s t. s ≡ t;
  faults = λ s t. s ≡ t;
  waits = SameWait;
  out_of_turns = λ s o. Unit {0};
  retries = SameRerun;
  invalid = λ b. b ≡ true;
  waits_loose = λ s h o. absurd h;
  out_of_turns_loose = λ s h o. tt;
  retries_loose = λ s h o. absurd h;
  faults_of = λ s t r. r;
  out_of_turns_of = λ s t r. tt;
  invalid_both = refl;
  invalid_loose = λ h b. absurd (false≢true h);
  ahead = λ t. ⊥;
  ahead_stops = λ t h s. absurd h;
  ahead_invalid = λ t h. absurd h;
}

module _ (S : Type 0) where
  pub itself : {A : Type 0} (x : Completion S A) → Related (same_link S) x x
  itself (Completes a s) = (refl, refl)
  itself (Recurs vs s) = (refl, refl)
  itself (Faults f s) = (refl, refl)
  itself (Retries s) = refl
  itself (Waits s) = refl
  itself (OutOfTurns s) = tt
  itself Invalid = refl

  -- the same part from equal states
  pub from_same : {A : Type 0} (f : S → Completion S A) (s t : S) → s ≡ t → Related (same_link S) (f s) (f t)
  from_same f s t e = subst (λ u. Related (same_link S) (f s) (f u)) e (itself (f s))

  -- like parts from equal states
  pub from_alike : {A : Type 0} (f g : S → Completion S A) → ((s : S) → Related (same_link S) (f s) (g s)) → (s t : S) → s ≡ t → Related (same_link S) (f s) (g t)
  from_alike f g h s t e = subst (λ u. Related (same_link S) (f s) (g u)) e (h s)

  -- what follows one part
  pub bind_same : {A B : Type 0} (x : Completion S A) (f g : A → S → Completion S B) → ((a : A) (s : S) → Related (same_link S) (f a s) (g a s)) → Related (same_link S) (bind x f) (bind x g)
  bind_same x f g h = bind_related S S (same_link S) x x f g (itself x) (λ a s t r. from_alike (f a) (g a) (h a) s t r)

  -- commutes redone
  pub redone_alike : (f g : Applies S) → Applied S S (same_link S) f g → (work : List Commute) (ws : Writes) (s : S) → Related (same_link S) (redone f work ws s) (redone g work ws s)
  redone_alike f g h [] ws s = (refl, refl)
  redone_alike f g h (c ∷ cs) ws s =
      let args : List Value = value_or (buffered ws c.cell.number) Nil ∷ c.args in
      bind_related S S (same_link S) (f c.callee args s) (g c.callee args s) (λ v s1. redone f cs (with_write ws c.cell v) s1) (λ v s1. redone g cs (with_write ws c.cell v) s1) (h c.callee args s s refl)
      (λ v s1 t1 r1. from_alike (λ u. redone f cs (with_write ws c.cell v) u) (λ u. redone g cs (with_write ws c.cell v) u) (λ u. redone_alike f g h cs (with_write ws c.cell v) u) s1 t1 r1)

  -- it needs no turns
  abbrev pub IsLong : {A : Type 0} → Completion S A → Type 0
  IsLong (Completes a s) = Unit {0}
  IsLong (Recurs vs s) = Unit {0}
  IsLong (Faults f s) = Unit {0}
  IsLong (Retries s) = Unit {0}
  IsLong (Waits s) = Unit {0}
  IsLong (OutOfTurns s) = ⊥
  IsLong Invalid = Unit {0}

  -- an answer that needs no turns is the other's
  pub same_long : {A : Type 0} (x y : Completion S A) → Related (same_link S) x y → IsLong x → y ≡ x
  same_long (Completes v s) (Completes w t) h e = ap (λ u. Completes u t) (sym h.0) ∙ ap (λ u. Completes v u) (sym h.1)
  same_long (Completes v s) _ h e = absurd h
  same_long (Recurs vs s) (Recurs ws t) h e = ap (λ u. Recurs u t) (sym h.0) ∙ ap (λ u. Recurs vs u) (sym h.1)
  same_long (Recurs vs s) _ h e = absurd h
  same_long (Faults f s) (Faults g t) h e = ap (λ u. Faults u t) (sym h.0) ∙ ap (λ u. Faults f u) (sym h.1)
  same_long (Faults f s) _ h e = absurd h
  same_long (Retries s) (Retries t) h e = ap Retries (sym h)
  same_long (Retries s) _ h e = absurd h
  same_long (Waits s) (Waits t) h e = ap Waits (sym h)
  same_long (Waits s) _ h e = absurd h
  same_long (OutOfTurns s) y h e = absurd e
  same_long Invalid Invalid h e = refl
  same_long Invalid _ h e = absurd (false≢true h)
