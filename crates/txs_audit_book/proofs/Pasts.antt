-- How often a cell was written, told by the indexes of its values.
use Rattle.std.proofs.Common.{◌≡◌, ◌≤◌, ◌<◌, ◌-◌, ◌||◌, ℕ, zero, suc, Bool, true, false, nat_lt, List, [], ◌∷◌, length, take, refl, sym, ap, ◌∙◌, arith, if◌then◌else◌}
use Rattle.std.proofs.lemmas.Bool.{false≢true, lt-ltb, le-ltb}
use Rattle.std.proofs.lemmas.List.{length-take-le, take-take}
use Rattle.txs_value_cell.specs.Cells.{World}
use Rattle.txs_value_data.specs.declared.value.Value.{Value}
use Rattle.txs_world_book.specs.Book.{times_written, written, writes_to}
use Rattle.txs_world_book.proofs.Older.{times_unwritten}
use Rattle.txs_world_protocol.specs.declared.event.Event.{Event}
use Rattle.txs_audit_book.specs.Gone.{IsHistory, index_at}

-- up to the last event that writes a cell it is written once more than before that event
last_write : (k n p : ℕ) (es : List Event) → written k n es ≡ true → written k (suc n) es ≡ false → p ≤ n → times_written k p es ≡ suc (times_written k p (take n es))
last_write k n p [] on off le = absurd (false≢true on)
last_write k zero zero (e ∷ es) on off le = ap (λ b. if b then suc (times_written k 0 es) else times_written k 0 es) (now (writes_to e.kind k) on) ∙ ap suc (times_unwritten k 0 es off)
  where
    now : (b : Bool) → (b || written k 0 es) ≡ true → b ≡ true
    now true q = refl
    now false q = absurd (false≢true (sym off ∙ q))
last_write k zero (suc p) (e ∷ es) on off le = absurd (omega (arith, le))
last_write k (suc n) zero (e ∷ es) on off le = go (writes_to e.kind k) (last_write k n 0 es on off (omega arith))
  where
    go : (b : Bool) → times_written k 0 es ≡ suc (times_written k 0 (take n es))
        → (if b then suc (times_written k 0 es) else times_written k 0 es) ≡ suc (if b then suc (times_written k 0 (take n es)) else times_written k 0 (take n es))
    go true r = ap suc r
    go false r = r
last_write k (suc n) (suc p) (e ∷ es) on off le = last_write k n p es on off (omega (arith, le))

-- an event that writes a cell is there
written_there : (k n : ℕ) (es : List Event) → written k n es ≡ true → n < length es
written_there k n [] h = absurd (false≢true h)
written_there k zero (e ∷ es) h = omega arith
written_there k (suc n) (e ∷ es) h = (let r = written_there k n es h in omega (arith, r))

-- an index lies behind an event of the book; up to it the cell was written once more than before that event
pub record IsOneMore (done : List Event) (k p j i : ℕ) : Type 0 where
  pub within : i - 1 ≤ length done
  pub times : times_written k p (take j done) ≡ suc (times_written k p (take (i - 1) done))

module _ (w : World) (done : List Event) (k : ℕ) (h : List (ℕ × Value)) (is : IsHistory w done k h) where
  -- from the index of a value on its cell isn't written, up to where it has that value
  pub times_none : (j p : ℕ) → j ≤ length done → index_at h j ≤ p → times_written k p (take j done) ≡ 0
  times_none j p le at = times_unwritten k p (take j done) (is.moved j le p ∙ le-ltb p (index_at h j) at)

  -- from an earlier index on it is written once more than up to the event that wrote that value
  pub times_more : (j p i : ℕ) → j ≤ length done → i ≡ index_at h j → p < i → IsOneMore done k p j i
  times_more j p i le is_index lt =
      let one : i ≡ suc (i - 1) = omega (arith, lt) in
      let told : (q : ℕ) → written k q (take j done) ≡ nat_lt q i = λ q. is.moved j le q ∙ ap (nat_lt q) (sym is_index) in
      let on : written k (i - 1) (take j done) ≡ true = told (i - 1) ∙ lt-ltb (i - 1) i (omega (arith, lt)) in
      let off : written k (suc (i - 1)) (take j done) ≡ false = told (suc (i - 1)) ∙ le-ltb (suc (i - 1)) i (omega (arith, one)) in
      let there = written_there k (i - 1) (take j done) on in
      let many = length-take-le j done le in
      record {
        within = omega (arith, there, many, le);
        times = last_write k (i - 1) p (take j done) on off (omega (arith, lt)) ∙ ap (λ l. suc (times_written k p l)) (take-take (i - 1) j done (omega (arith, there, many)));
      }
