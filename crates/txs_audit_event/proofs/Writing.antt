-- Writes and sends, against those in their places.
use Rattle.std.proofs.Common.{◌≡◌, ◌<◌, ℕ, zero, suc, ◌+◌, true, false, List, [], ◌∷◌, length, drop, get_or, Some, refl, sym, ap, ◌∙◌, arith, if◌then◌else◌}
use Rattle.std.proofs.lemmas.List.{drop_more}
use Rattle.txs_value_data.specs.Places.{nth}
use Rattle.txs_value_data.specs.declared.fault.Span.{Span}
use Rattle.txs_value_cell.specs.declared.action.Action.{Action}
use Rattle.txs_value_data.specs.declared.value.Value.{Value}
use Rattle.txs_value_data.specs.declared.value.Value.TheVariants.{Nil}
use Rattle.txs_world_protocol.specs.Ask.{Writes, buffered}
use Rattle.txs_frame.specs.declared.frame.Commute.{Commute}
use Rattle.txs_tree_meaning.specs.Meaning.{Completion, Applies}
use Rattle.txs_tree_meaning.specs.Transaction.{value_or}
use Rattle.txs_audit_event.specs.Transactions.{is_sent_at, sent_what}
use Rattle.txs_audit_event.specs.declared.what.What.TheVariants as what

-- ---- lists

pub nth_dropped : {A : Type 0} (ys : List A) (i : ℕ) → nth (drop i ys) 0 ≡ nth ys i
nth_dropped [] zero = refl
nth_dropped [] (suc i) = refl
nth_dropped (y ∷ ys) zero = refl
nth_dropped (y ∷ ys) (suc i) = nth_dropped ys i

pub drop_one : {A : Type 0} (ys : List A) (i : ℕ) → drop 1 (drop i ys) ≡ drop (i + 1) ys
drop_one [] zero = refl
drop_one [] (suc i) = sym (ap (λ n. drop n []) (off i))
  where
    off : (i : ℕ) → suc i + 1 ≡ suc (suc i)
    off i = omega arith
drop_one (y ∷ ys) zero = refl
drop_one (y ∷ ys) (suc i) = drop_one ys i ∙ sym (ap (λ n. drop n (y ∷ ys)) (off i))
  where
    off : (i : ℕ) → suc i + 1 ≡ suc (i + 1)
    off i = omega arith

-- ---- sends

module _ (span : Span) (xs ys : List Action) (i n : ℕ) where
  sent_at : (x : Action) → i < length xs → get_or xs i x ≡ x
      → sent_what span n (drop i xs) (drop i ys) ≡ (if is_sent_at x (nth ys i) then sent_what span (suc n) (drop (i + 1) xs) (drop (i + 1) ys) else Some (what.Sends n (Some x) (nth ys i) span))
  sent_at x lt is =
      ap (λ l. sent_what span n l (drop i ys)) (drop_more xs i x lt ∙ ap (λ z. z ∷ drop (i + 1) xs) is)
      ∙ ap (λ o. if is_sent_at x o then sent_what span (suc n) (drop (i + 1) xs) (drop 1 (drop i ys)) else Some (what.Sends n (Some x) o span)) (nth_dropped ys i)
      ∙ ap (λ l. if is_sent_at x (nth ys i) then sent_what span (suc n) (drop (i + 1) xs) l else Some (what.Sends n (Some x) (nth ys i) span)) (drop_one ys i)

  pub sent_on : (x : Action) → i < length xs → get_or xs i x ≡ x → is_sent_at x (nth ys i) ≡ true → sent_what span (n + 1) (drop (i + 1) xs) (drop (i + 1) ys) ≡ sent_what span n (drop i xs) (drop i ys)
  sent_on x lt is same =
      let next : n + 1 ≡ suc n = omega arith in
      ap (λ m. sent_what span m (drop (i + 1) xs) (drop (i + 1) ys)) next
      ∙ sym (sent_at x lt is ∙ ap (λ b. if b then sent_what span (suc n) (drop (i + 1) xs) (drop (i + 1) ys) else Some (what.Sends n (Some x) (nth ys i) span)) same)

  pub sent_here : (x : Action) → i < length xs → get_or xs i x ≡ x → is_sent_at x (nth ys i) ≡ false → sent_what span n (drop i xs) (drop i ys) ≡ Some (what.Sends n (Some x) (nth ys i) span)
  sent_here x lt is other = sent_at x lt is ∙ ap (λ b. if b then sent_what span (suc n) (drop (i + 1) xs) (drop (i + 1) ys) else Some (what.Sends n (Some x) (nth ys i) span)) other

-- ---- commutes

module _ (f : Applies (Unit {0})) (work : List Commute) (ws : Writes) (i : ℕ) (x : Commute) (lt : i < length work) (is : get_or work i x ≡ x) where
  abbrev made : Completion (Unit {0}) Value
  made = f x.callee (value_or (buffered ws x.cell.number) Nil ∷ x.args) tt
