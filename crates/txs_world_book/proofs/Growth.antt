-- What a longer book leaves as it was.
use Rattle.std.proofs.Common.{◌≡◌, ◌≤◌, ℕ, zero, suc, Bool, true, false, not, ◌&&◌, ◌||◌, ◌==◌, List, [], ◌∷◌, ◌++◌, length, refl, sym, ap, ◌∙◌, subst, arith, append_assoc}
use Rattle.std.proofs.lemmas.Bool.{false≢true}
use Rattle.txs_value_cell.specs.Cells.{World}
use Rattle.txs_world_protocol.specs.declared.event.Event.{Event}
use Rattle.txs_world_book.specs.Book.{changed, after, writes_to, written, counts, all_before, Mail, mail_changed, mail_from, Each}
use Rattle.txs_world_protocol.specs.SeenEvent.{SeenEvent}
use Rattle.txs_world_book.specs.History.{past_of, before, history_from}

append_nil : {A : Type 0} (xs : List A) → xs ++ [] ≡ xs
append_nil [] = refl
append_nil (x ∷ xs) = ap (λ l. x ∷ l) (append_nil xs)

or_true : (b : Bool) → (b || true) ≡ true
or_true true = refl
or_true false = refl

and_false : (b : Bool) → (b && false) ≡ false
and_false true = refl
and_false false = refl

-- the refs after the first events are those of the longer book
pub after_front : (w : World) (es fs : List Event) (k : ℕ) → k ≤ length es → after w (es ++ fs) k ≡ after w es k
after_front w [] [] k le = refl
after_front w [] (f ∷ fs) zero le = refl
after_front w [] (f ∷ fs) (suc k) le = absurd (omega (arith, le))
after_front w (e ∷ es) fs zero le = refl
after_front w (e ∷ es) fs (suc k) le = after_front (changed e.kind w) es fs k (omega (arith, le))

-- the refs after one more event
pub after_last : (w : World) (es : List Event) (e : Event) → after w (es ++ e ∷ []) (length (es ++ e ∷ [])) ≡ changed e.kind (after w es (length es))
after_last w [] e = refl
after_last w (d ∷ es) e = after_last (changed d.kind w) es e

pub neither : (a b : Bool) → (a || b) ≡ false → (a ≡ false) × (b ≡ false)
neither true b h = absurd (false≢true (sym h))
neither false b h = (refl, h)

-- a ref that the event doesn't write
pub unwritten_more : (k p : ℕ) (es : List Event) (e : Event) → writes_to e.kind k ≡ false → written k p (es ++ e ∷ []) ≡ written k p es
unwritten_more k zero [] e h = ap (λ b. b || false) h
unwritten_more k (suc p) [] e h = refl
unwritten_more k zero (d ∷ es) e h = ap (λ b. writes_to d.kind k || b) (unwritten_more k zero es e h)
unwritten_more k (suc p) (d ∷ es) e h = unwritten_more k p es e h

-- a ref that the event writes
pub written_more : (k p : ℕ) (es : List Event) (e : Event) → writes_to e.kind k ≡ true → p ≤ length es → written k p (es ++ e ∷ []) ≡ true
written_more k zero [] e h le = ap (λ b. b || false) h
written_more k (suc p) [] e h le = absurd (omega (arith, le))
written_more k zero (d ∷ es) e h le = ap (λ b. writes_to d.kind k || b) (written_more k zero es e h (omega arith)) ∙ or_true (writes_to d.kind k)
written_more k (suc p) (d ∷ es) e h le = written_more k p es e h (omega (arith, le))

pub written_end : (k p : ℕ) (es : List Event) → length es ≤ p → written k p es ≡ false
written_end k p [] le = refl
written_end k zero (e ∷ es) le = absurd (omega (arith, le))
written_end k (suc p) (e ∷ es) le = written_end k p es (omega (arith, le))

-- a cell that isn't written from a place on isn't written from a later one on
pub unwritten_later : (k p q : ℕ) (es : List Event) → p ≤ q → written k p es ≡ false → written k q es ≡ false
unwritten_later k p q [] le h = refl
unwritten_later k zero zero (e ∷ es) le h = h
unwritten_later k zero (suc q) (e ∷ es) le h = unwritten_later k zero q es (omega arith) (neither (writes_to e.kind k) (written k zero es) h).1
unwritten_later k (suc p) zero (e ∷ es) le h = absurd (omega (arith, le))
unwritten_later k (suc p) (suc q) (e ∷ es) le h = unwritten_later k p q es (omega (arith, le)) h

-- an event that doesn't count for an actor leaves the actor's events where they stood
pub before_more : (all : Bool) (a p : ℕ) (es : List Event) (e : Event) → (e.actor == a && counts all e.kind) ≡ false → all_before all a p (es ++ e ∷ []) ≡ all_before all a p es
before_more all a zero [] e h = ap (λ b. not b && true) h
before_more all a (suc p) [] e h = refl
before_more all a zero (d ∷ es) e h = ap (λ b. not (d.actor == a && counts all d.kind) && b) (before_more all a zero es e h)
before_more all a (suc p) (d ∷ es) e h = before_more all a p es e h

-- one that counts
pub before_own : (all : Bool) (a p : ℕ) (es : List Event) (e : Event) → (e.actor == a && counts all e.kind) ≡ true → p ≤ length es → all_before all a p (es ++ e ∷ []) ≡ false
before_own all a zero [] e h le = ap (λ b. not b && true) h
before_own all a (suc p) [] e h le = absurd (omega (arith, le))
before_own all a zero (d ∷ es) e h le = ap (λ b. not (d.actor == a && counts all d.kind) && b) (before_own all a zero es e h (omega arith)) ∙ and_false (not (d.actor == a && counts all d.kind))
before_own all a (suc p) (d ∷ es) e h le = before_own all a p es e h (omega (arith, le))

pub before_end : (all : Bool) (a p : ℕ) (es : List Event) → length es ≤ p → all_before all a p es ≡ true
before_end all a p [] le = refl
before_end all a zero (e ∷ es) le = absurd (omega (arith, le))
before_end all a (suc p) (e ∷ es) le = before_end all a p es (omega (arith, le))

-- the mail after one more event
pub mail_last : (goes : Bool) (k : ℕ) (m : Mail) (es : List Event) (e : Event) → mail_from goes k m (es ++ e ∷ []) ≡ mail_changed goes k e.kind (mail_from goes k m es)
mail_last goes k m [] e = refl
mail_last goes k m (d ∷ es) e = mail_last goes k (mail_changed goes k d.kind m) es e

pub each_more : (P : List Event → Event → Type 0) (done es : List Event) (e : Event) → Each P done es → P (done ++ es) e → Each P done (es ++ e ∷ [])
each_more P done [] e h p = (subst (λ l. P l e) (append_nil done) p, tt)
each_more P done (d ∷ es) e h p = (h.0, each_more P (done ++ d ∷ []) es e h.1 (subst (λ l. P l e) (sym (append_assoc done (d ∷ []) es)) p))

before_append : (b : Bool) (x : SeenEvent) (xs ys : List SeenEvent) → before b x (xs ++ ys) ≡ before b x xs ++ ys
before_append true x xs ys = refl
before_append false x xs ys = refl

-- one more event is in its actor's history alone
pub history_more : (w : World) (a : ℕ) (done es : List Event) (e : Event) → history_from w a done (es ++ e ∷ []) ≡ history_from w a done es ++ before (e.actor == a) (past_of w (done ++ es) e.kind) []
history_more w a done [] e = ap (λ l. before (e.actor == a) (past_of w l e.kind) []) (sym (append_nil done))
history_more w a done (d ∷ es) e =
    let b = d.actor == a in
    let x = past_of w done d.kind in
    let c = e.actor == a in
    ap (before b x) (history_more w a (done ++ d ∷ []) es e)
    ∙ ap (λ l. before b x (history_from w a (done ++ d ∷ []) es ++ before c (past_of w l e.kind) [])) (append_assoc done (d ∷ []) es)
    ∙ before_append b x (history_from w a (done ++ d ∷ []) es) (before c (past_of w (done ++ d ∷ es) e.kind) [])
