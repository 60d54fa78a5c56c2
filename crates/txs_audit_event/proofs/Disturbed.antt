-- Who wrote what a transaction held.
use Rattle.std.proofs.Common.{◌≡◌, ◌≤◌, ◌<◌, ℕ, zero, suc, ◌+◌, true, false, List, [], ◌∷◌, length, drop, get_or, refl, sym, ap, ◌∙◌, arith, if◌then◌else◌}
use Rattle.std.proofs.lemmas.List.{drop_more}
use Rattle.txs_world_protocol.specs.declared.event.Event.{Event}
use Rattle.txs_world_book.specs.Book.{writes_to}
use Rattle.txs_audit_event.specs.Transactions.{writer_of}

-- behind the first p events it is asked of the others
pub writer_behind : (k p : ℕ) (es : List Event) → p ≤ length es → writer_of k p es ≡ p + writer_of k 0 (drop p es)
writer_behind k zero es le = zero_more (writer_of k 0 es)
  where
    zero_more : (n : ℕ) → n ≡ 0 + n
    zero_more n = omega arith
writer_behind k (suc p) [] le = absurd (omega (arith, le))
writer_behind k (suc p) (e ∷ es) le = let r = writer_behind k p es (omega (arith, le)) in let s : suc (p + writer_of k 0 (drop p es)) ≡ suc p + writer_of k 0 (drop p es) = omega arith in ap suc r ∙ s

-- beyond all events there is none
pub writer_beyond : (k p : ℕ) (es : List Event) → length es ≤ p → writer_of k p es ≡ length es
writer_beyond k p [] le = refl
writer_beyond k zero (e ∷ es) le = absurd (omega (arith, le))
writer_beyond k (suc p) (e ∷ es) le = ap suc (writer_beyond k p es (omega (arith, le)))

module _ (k i : ℕ) (es : List Event) (e : Event) (lt : i < length es) (is : get_or es i e ≡ e) where
  here : drop i es ≡ e ∷ drop (i + 1) es
  here = drop_more es i e lt ∙ ap (λ z. z ∷ drop (i + 1) es) is

  pub writer_here : writes_to e.kind k ≡ true → i + writer_of k 0 (drop i es) ≡ i
  writer_here w = let z : writer_of k 0 (drop i es) ≡ 0 = ap (writer_of k 0) here ∙ ap (λ b. if b then 0 else suc (writer_of k 0 (drop (i + 1) es))) w in omega (arith, z)

  pub writer_on : writes_to e.kind k ≡ false → (i + 1) + writer_of k 0 (drop (i + 1) es) ≡ i + writer_of k 0 (drop i es)
  writer_on w = let z : writer_of k 0 (drop i es) ≡ suc (writer_of k 0 (drop (i + 1) es)) = ap (writer_of k 0) here ∙ ap (λ b. if b then 0 else suc (writer_of k 0 (drop (i + 1) es))) w in omega (arith, z)

-- an event that writes it is the first one from there, and another one is passed
module _ (k i : ℕ) (es : List Event) (e : Event) (lt : i < length es) (is : get_or es i e ≡ e) where
  pub writer_found : writes_to e.kind k ≡ true → writer_of k i es ≡ i
  writer_found w = writer_behind k i es (omega (arith, lt)) ∙ writer_here k i es e lt is w

  pub writer_passed : writes_to e.kind k ≡ false → writer_of k (i + 1) es ≡ writer_of k i es
  writer_passed w = writer_behind k (i + 1) es (omega (arith, lt)) ∙ writer_on k i es e lt is w ∙ sym (writer_behind k i es (omega (arith, lt)))
