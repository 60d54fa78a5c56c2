-- Where an actor stands after one more event.
use Rattle.std.proofs.Common.{◌≡◌, ℕ, suc, Bool, true, false, ◌&&◌, ◌==◌, slice_index, List, [], ◌∷◌, ◌++◌, length, refl, subst, sym, ◌∙◌, arith, length-append, if◌then◌else◌}
use Rattle.txs_world_protocol.specs.declared.event.Event.{Event}
use Rattle.txs_world_protocol.specs.declared.event.EventKind.{EventKind}
use Rattle.txs_world_book.specs.Book.{counts}
use Rattle.txs_world_book.specs.Served.{event_of}
use Rattle.txs_world_book.specs.Stands.{StandsAt, Marked}
use Rattle.txs_world_book.proofs.Growth.{before_more, before_own, before_end}

pub actor_more : (all : Bool) (old new : List ℕ) (es : List Event) (a : ℕ) (d : EventKind) (b : ℕ) → Marked (counts all d) a (suc (length es)) old new → StandsAt all es b (slice_index old b) → StandsAt all (es ++ event_of a d ∷ []) b (slice_index new b)
actor_more all old new es a d b marks h = subst (StandsAt all (es ++ event_of a d ∷ []) b) (sym (marks b)) (go (a == b && counts all d) refl)
  where
    go : (t : Bool) → (a == b && counts all d) ≡ t → StandsAt all (es ++ event_of a d ∷ []) b (if t then suc (length es) else slice_index old b)
    go true e =
        let many = length-append es (event_of a d ∷ []) in
        record {
          stands = λ p le. before_end all b p (es ++ event_of a d ∷ []) (omega (arith, le, many));
          passed = λ p lt. before_own all b p es (event_of a d) e (omega (arith, lt));
        }
    go false e =
        record {
          stands = λ p le. before_more all b p es (event_of a d) e ∙ h.stands p le;
          passed = λ p lt. before_more all b p es (event_of a d) e ∙ h.passed p lt;
        }
