-- The refs at an earlier place from the newest, and the worlds of events from the whole book.
use Rattle.std.proofs.Common.{◌≡◌, ◌<◌, ◌≤◌, ℕ, zero, suc, Bool, true, false, ◌&&◌, ◌||◌, ◌==◌, nat_lt, nat_le, List, [], ◌∷◌, ◌++◌, length, Option, Some, None, refl, sym, ap, subst, ◌∙◌, arith, append_assoc, length-append, if◌then◌else◌}
use Rattle.std.proofs.lemmas.Bool.{false≢true}
use Rattle.std.proofs.lemmas.Bool.Decides.{nat_tests}
use Rattle.txs_world_protocol.specs.Ask.{buffered}
use Rattle.txs_value_cell.specs.Cells.{World}
use Rattle.txs_world_protocol.specs.declared.event.Event.{Event}
use Rattle.txs_world_protocol.specs.declared.event.Cause.TheVariants.{Outdated, Held, Commuted}
use Rattle.txs_world_protocol.specs.declared.event.EventKind.{EventKind}
use Rattle.txs_world_protocol.specs.declared.event.EventKind.TheVariants.{Read, Commit, Retry, Fail, Refused, Send, SendRefused, Act, Swap, Broke}
use Rattle.txs_value_data.specs.declared.value.Value.{Value}
use Rattle.txs_world_book.specs.Book.{value_or, changed, after, is_there, writes_of, writes_to, written, times_written, most_older, is_outdated, all_before, may_name, may_end, LegalKind, Each}
use Rattle.txs_world_book.specs.History.{at_of, view_of, seen_event, past_of, before, history_from, past_at, replayed_from}
use Rattle.txs_world_book.specs.declared.cell.StoreCell.{StoreCell}
use Rattle.txs_world_book.proofs.Growth.{neither, after_front, written_end}
use Rattle.txs_world_book.proofs.Outcomes.{both}

after_none : (w : World) (es : List Event) → after w es 0 ≡ w
after_none w [] = refl
after_none w (e ∷ es) = refl

-- an event leaves the cells that it doesn't write
pub unset : (d : EventKind) (w : World) (k : ℕ) → writes_to d k ≡ false → changed d w k ≡ w k
unset d w k e = go (buffered (writes_of d) k) e
  where
    go : (o : Option Value) → is_there o ≡ false → value_or o (w k) ≡ w k
    go None h = refl
    go (Some v) h = absurd (false≢true (sym h))

-- a ref that isn't written since has its value of then
pub after_unwritten : (w : World) (es : List Event) (p k : ℕ) → written k p es ≡ false → after w es (length es) k ≡ after w es p k
after_unwritten w [] p k e = refl
after_unwritten w (d ∷ es) zero k e =
    let h = neither (writes_to d.kind k) (written k 0 es) e in
    after_unwritten (changed d.kind w) es 0 k h.1 ∙ ap (λ u. u k) (after_none (changed d.kind w) es) ∙ unset d.kind w k h.0
after_unwritten w (d ∷ es) (suc p) k e = after_unwritten (changed d.kind w) es p k e

-- a cell that isn't written since is written no time
pub times_unwritten : (k p : ℕ) (es : List Event) → written k p es ≡ false → times_written k p es ≡ 0
times_unwritten k p [] h = refl
times_unwritten k zero (e ∷ es) h =
    let n = neither (writes_to e.kind k) (written k 0 es) h in
    ap (λ b. if b then suc (times_written k 0 es) else times_written k 0 es) n.0 ∙ times_unwritten k 0 es n.1
times_unwritten k (suc p) (e ∷ es) h = times_unwritten k p es h

-- one that is, is written once at least
pub times_some : (k p : ℕ) (es : List Event) → written k p es ≡ true → 0 < times_written k p es
times_some k p [] h = absurd (false≢true h)
times_some k zero (e ∷ es) h = go (writes_to e.kind k) (λ q. times_some k 0 es q) h
  where
    go : (b : Bool) → (written k 0 es ≡ true → 0 < times_written k 0 es) → (b || written k 0 es) ≡ true → 0 < (if b then suc (times_written k 0 es) else times_written k 0 es)
    go true rest q = omega arith
    go false rest q = rest q
times_some k (suc p) (e ∷ es) h = times_some k p es h

-- behind the last event nothing is written
pub times_end : (k p : ℕ) (es : List Event) → length es ≤ p → times_written k p es ≡ 0
times_end k p es le = times_unwritten k p es (written_end k p es le)

-- a value that isn't kept was written over
pub outdated_written : (k p : ℕ) (es : List Event) → is_outdated k p es ≡ true → written k p es ≡ true
outdated_written k p es h = go (written k p es) refl
  where
    go : (b : Bool) → written k p es ≡ b → b ≡ true
    go true e = refl
    go false e = absurd (false≢true (sym (ap (nat_lt most_older) (times_unwritten k p es e)) ∙ h))

-- a place that may be named is one of the events' or their end
pub named : (all : Bool) (done : List Event) (a p : ℕ) → may_name all done a p ≡ true → p ≤ length done
named all done a p h = let le : nat_le p (length done) ≡ true = (both (nat_le p (length done)) (all_before all a p done) h).0 in grind (arith, nat_tests, le)

-- so are a read point and a view
pub record Ends (done : List Event) (a at view : ℕ) : Type 0 where
  pub order : at ≤ view
  pub tried : may_name false done a at ≡ true
  pub viewed : may_name true done a view ≡ true

pub ends : (done : List Event) (a at view : ℕ) → may_end done a at view ≡ true → Ends done a at view
ends done a at view h =
    let m = both (nat_le at view) (may_name false done a at && may_name true done a view) h in
    let n = both (may_name false done a at) (may_name true done a view) m.1 in
    record { order = (let le : nat_le at view ≡ true = m.0 in grind (arith, nat_tests, le)); tried = n.0; viewed = n.1 }

-- an event at the end of some, with the worlds of these and of more
same_worlds : (w : World) (done rest : List Event) (d : EventKind) → at_of d (length done) ≤ length done → view_of d (length done) ≤ length done → past_of w done d ≡ past_at w (done ++ rest) (length done) d
same_worlds w done rest d r q =
    ap (λ (R : World). seen_event d R (after w done (view_of d (length done))) (after w done (length done))) (sym (after_front w done rest (at_of d (length done)) r))
    ∙ ap (λ (Q : World). seen_event d (after w (done ++ rest) (at_of d (length done))) Q (after w done (length done))) (sym (after_front w done rest (view_of d (length done)) q))
    ∙ ap (λ (C : World). seen_event d (after w (done ++ rest) (at_of d (length done))) (after w (done ++ rest) (view_of d (length done))) C) (sym (after_front w done rest (length done) (omega arith)))

ended_worlds : (w : World) (a at view : ℕ) (done rest : List Event) (d : EventKind) → at_of d (length done) ≡ at → view_of d (length done) ≡ view → may_end done a at view ≡ true → past_of w done d ≡ past_at w (done ++ rest) (length done) d
ended_worlds w a at view done rest d r q h =
    let e = ends done a at view h in
    same_worlds w done rest d (subst (λ n. n ≤ length done) (sym r) (named false done a at e.tried)) (subst (λ n. n ≤ length done) (sym q) (named true done a view e.viewed))

same_event : (cells : List StoreCell) (w : World) (a : ℕ) (done rest : List Event) (d : EventKind) → LegalKind cells done a d → past_of w done d ≡ past_at w (done ++ rest) (length done) d
same_event cells w a done rest (Read c) h = same_worlds w done rest (Read c) (omega arith) (omega arith)
same_event cells w a done rest (Commit at view ws sends) h = ended_worlds w a at view done rest (Commit at view ws sends) refl refl h.2
same_event cells w a done rest (Retry p c Outdated) h =
    let n = both (may_name false done a p) (is_outdated c.number p done) h.1 in
    same_worlds w done rest (Retry p c Outdated) (named false done a p n.0) (omega arith)
same_event cells w a done rest (Retry p c Held) h = same_worlds w done rest (Retry p c Held) (named false done a p h.1) (omega arith)
same_event cells w a done rest (Retry p c (Commuted at)) h =
    same_worlds w done rest (Retry p c (Commuted at)) (named false done a at (ends done a at p h.1).tried) (omega arith)
same_event cells w a done rest (Fail at view) h = ended_worlds w a at view done rest (Fail at view) refl refl h
same_event cells w a done rest (Refused at view g) h = ended_worlds w a at view done rest (Refused at view g) refl refl h.1
same_event cells w a done rest (Send x) h = same_worlds w done rest (Send x) (omega arith) (omega arith)
same_event cells w a done rest (SendRefused g) h = same_worlds w done rest (SendRefused g) (omega arith) (omega arith)
same_event cells w a done rest (Act g n new sends) h = same_worlds w done rest (Act g n new sends) (omega arith) (omega arith)
same_event cells w a done rest (Swap new) h = absurd h
same_event cells w a done rest (Broke at) h = absurd h

pub whole_history : (cells : List StoreCell) (w : World) (a : ℕ) (done es : List Event) → Each (λ l e. LegalKind cells l e.actor e.kind) done es
    → history_from w a done es ≡ replayed_from w a (done ++ es) (length done) es
whole_history cells w a done [] h = refl
whole_history cells w a done (e ∷ es) h =
    let n : length (done ++ e ∷ []) ≡ suc (length done) = omega (arith, length-append done (e ∷ [])) in
    let b = e.actor == a in
    ap (λ x. before b x (history_from w a (done ++ e ∷ []) es)) (same_event cells w e.actor done (e ∷ es) e.kind h.0)
    ∙ ap (before b (past_at w (done ++ e ∷ es) (length done) e.kind)) (whole_history cells w a (done ++ e ∷ []) es h.1 ∙ ap (λ l. replayed_from w a l (length (done ++ e ∷ [])) es) (append_assoc done (e ∷ []) es) ∙ ap (λ m. replayed_from w a (done ++ e ∷ es) m es) n)
