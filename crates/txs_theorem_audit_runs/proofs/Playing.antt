-- Between the plays of a run there are times of all events, in which each came after what it had to come after.
use Rattle.std.proofs.Common.{◌≡◌, ◌≤◌, ℕ, suc, Bool, true, false, ◌==◌, List, [], ◌∷◌, ◌++◌, length, take, if◌then◌else◌, refl, sym, ap, ◌∙◌, subst, arith}
use Rattle.std.proofs.lemmas.List.{append-nil}
use Rattle.std.proofs.lemmas.Bool.{false≢true}
use Rattle.txs_value_cell.specs.declared.cell.CellDefinition.{CellDefinition}
use Rattle.txs_value_data.proofs.SameLemmas.{numbers, number-itself}
use Rattle.txs_world_protocol.specs.declared.ask.Ask.{Ask}
use Rattle.txs_world_protocol.specs.declared.event.Event.{Event}
use Rattle.txs_code_meaning.specs.Machine.{ThreadCode}
use Rattle.txs_world_book.specs.Book.{Legal}
use Rattle.txs_world_book.specs.Served.{event_of, cells_of}
use Rattle.txs_world.proofs.Serves.{serve_stands}
use Rattle.txs_theorem_runs.specs.Invariant.{ActorInvariant, RunInvariant}
use Rattle.txs_theorem_runs.specs.Run.{Actor, State, Play, moves, actor_of, play, plays, plays_from, opens}
use Rattle.txs_theorem_runs.specs.Shared.{book_for, may_ask}
use Rattle.txs_theorem_runs.specs.Staged.{StagedActor}
use Rattle.txs_theorem_runs.specs.Stages.{AsksIn, first_stage}
use Rattle.txs_theorem_runs.specs.Told.{Entry, EntryHolds, IsExchanged, ToldBy, before_entry}
use Rattle.txs_theorem_runs.proofs.Growing.{AreOwn, Serves, taken_whole}
use Rattle.txs_theorem_runs.proofs.Serving.{serves}
use Rattle.txs_theorem_runs.proofs.Steps as steps
use Rattle.txs_theorem_runs.proofs.Told.{fresh_stands}
use Rattle.txs_theorem_runs.proofs.Whole.{opening_holds}
use Rattle.txs_theorem_audit_runs.proofs.Comes.{Comes, nothing, one, comes}
use Rattle.txs_theorem_audit_runs.proofs.Keeping.{Role, Thread, AgentOf, is_agent, IsRole, number_of, sender_for, stage_for, EndOf, Walks, others_walk, own_walks, quiet_walks}
use Rattle.txs_theorem_audit_runs.proofs.Plays.{answer, books_served, entry_served, Took, rests, hears, same_books, moves_took}
use Rattle.txs_theorem_audit_runs.proofs.Times.{Time, Times, OneMore, length_more, next_time, next_times}
use Rattle.txs_theorem_audit_runs.proofs.Traces.{last_staged, last_holds}

-- what holds between plays beside what is known of runs
pub record InOrder (cells : List CellDefinition) (threads : ℕ) (st : State) : Type 0 where
  pub time : Time
  pub now : ℕ
  pub times : Times st.shared.books time now
  pub walks : (r : Role) → IsRole cells threads r → Walks cells threads st.shared.books time now r (st.actors (number_of cells threads r)).entries

-- ---- before the first play

pub opening_in_order : (cells : List CellDefinition) (threads : ℕ) (codes : ℕ → ThreadCode) → InOrder cells threads (opens cells codes)
opening_in_order cells threads codes = record {
  time = λ b k. 0;
  now = 0;
  times = record { there = λ b k h. absurd (omega (arith, h)); beyond = λ b k h. refl; ascends = λ b k h. absurd (omega (arith, h)) };
  walks = λ r is. begins r;
}
  where
    begins : (r : Role) → EndOf cells (λ n. []) (λ b k. 0) 0 r [] 0 [] (sender_for r (λ n. []) 0)
    begins (Thread a) = record { counted = λ e. refl; last_past = tt; behind_past = tt; sent = λ b. tt; stands = tt }
    begins (AgentOf g) = record { counted = λ e. refl; last_past = tt; behind_past = tt; sent = λ b. absurd b; stands = tt }

-- ---- one play

-- an actor was told one more
record Told (cells : List CellDefinition) (threads : ℕ) (books : ℕ → List Event) (later : ℕ → List Event) (q : Ask) (a : ℕ) (es fs : List Entry) : Type 0 where
  exchanged : IsExchanged (answer cells threads a books q).reply
  books_are : later ≡ books_served cells threads a books q
  entries_are : fs ≡ es ++ entry_served cells threads a books q ∷ []

same_length : (xs ys : List Event) (x : Event) → ys ≡ xs → ys ≡ xs ++ x ∷ [] → ⊥
same_length xs ys x e f = let l = ap length (sym e ∙ f) ∙ length_more xs x in omega (arith, l)

module _ (cells : List CellDefinition) (threads : ℕ) (books later : ℕ → List Event) (r : Role) (is : IsRole cells threads r) (q : Ask) (es fs : List Entry) (told : Told cells threads books later q (number_of cells threads r) es fs)
    (code : ThreadCode) (x y : Actor) (was_entries : x.entries ≡ es) (are_entries : y.entries ≡ fs) (was : ActorInvariant cells threads (is_agent r) code books (number_of cells threads r) x) (now_is : ActorInvariant cells threads (is_agent r) code later (number_of cells threads r) y)
    (legal : Legal (cells_of cells) threads (later 0)) where
  abbrev a : ℕ
  a = number_of cells threads r

  abbrev own : Entry
  own = entry_served cells threads a books q

  was_told : ToldBy cells threads books (is_agent r) a es was.stage
  was_told = subst (λ l. ToldBy cells threads books (is_agent r) a l was.stage) was_entries was.told

  is_told : ToldBy cells threads later (is_agent r) a (es ++ own ∷ []) now_is.stage
  is_told = subst (λ l. ToldBy cells threads later (is_agent r) a l now_is.stage) (are_entries ∙ told.entries_are) now_is.told

  in_stage : AsksIn (is_agent r) (stage_for r es) q
  in_stage = last_staged (is_agent r) (first_stage (is_agent r)) now_is.stage es own is_told.staged

  holds : EntryHolds cells threads later a own
  holds = last_holds cells threads later a es own is_told.hold

  comes_so : Comes cells books a q (stage_for r es) (answer cells threads a books q)
  comes_so = comes cells books a (is_agent r) (stage_for r es) q in_stage told.exchanged

  -- where it left the books
  told_quiet : (time : Time) (now : ℕ) → Times books time now → Walks cells threads books time now r es → (answer cells threads a books q).book ≡ books (book_for cells q) → later ≡ books → Walks cells threads books time now r fs
  told_quiet time now t w left same = subst (Walks cells threads books time now r) (sym told.entries_are) (go comes_so)
    where
      before : before_entry cells later own ≡ books (book_for cells q)
      before = ap (λ (b : ℕ → List Event). take (length (books (book_for cells q))) (b (book_for cells q))) same ∙ taken_whole (books (book_for cells q))

      may : may_ask cells threads holds.asked.0 a q (books (book_for cells q)) ≡ true
      may = subst (λ l. may_ask cells threads holds.asked.0 a q l ≡ true) before holds.asked.1

      go : Comes cells books a q (stage_for r es) (answer cells threads a books q) → Walks cells threads books time now r (es ++ own ∷ [])
      go (nothing e l) = quiet_walks cells threads books time now t r is q es holds.asked.0 may (subst (λ b. Legal (cells_of cells) threads (b 0)) same legal) left l w
      go (one kind e l) = absurd (same_length (books (book_for cells q)) (answer cells threads a books q).book (event_of a kind) left e)

  -- where it added an event
  told_more : (time : Time) (now : ℕ) (e : Event) → Times books time now → Walks cells threads books time now r es → OneMore books later (book_for cells q) e → (answer cells threads a books q).book ≡ books (book_for cells q) ++ e ∷ []
      → Walks cells threads later (next_time books time now (book_for cells q)) (suc now) r fs
  told_more time now e t w m more = subst (Walks cells threads later (next_time books time now (book_for cells q)) (suc now) r) (sym told.entries_are) (go comes_so)
    where
      go : Comes cells books a q (stage_for r es) (answer cells threads a books q) → Walks cells threads later (next_time books time now (book_for cells q)) (suc now) r (es ++ own ∷ [])
      go (nothing f l) = absurd (same_length (books (book_for cells q)) (answer cells threads a books q).book e f more)
      go (one kind f l) =
          own_walks cells threads books later time now t r is q kind (record { here = m.here ∙ sym more ∙ f; others = m.others }) legal es was_told.hold f l w

module _ (cells : List CellDefinition) (threads : ℕ) (codes : ℕ → ThreadCode) (staged : (r : Role) → IsRole cells threads r → StagedActor (is_agent r) (codes (number_of cells threads r))) where
  module _ (y : Play) (st : State) (was : RunInvariant cells threads codes st) (o : InOrder cells threads st) where
    abbrev player : ℕ
    player = actor_of y

    abbrev books : ℕ → List Event
    books = st.shared.books

    abbrev es : List Entry
    es = (st.actors player).entries

    abbrev later : ℕ → List Event
    later = (moves cells threads codes y st).shared.books

    abbrev moved : Actor
    moved = (moves cells threads codes y st).actor

    after : RunInvariant cells threads codes (play cells threads codes y st)
    after = steps.play_holds serve_stands cells threads codes y st was

    legal : Legal (cells_of cells) threads (later 0)
    legal = after.shared.store.legal

    invariant : (r : Role) → IsRole cells threads r → ActorInvariant cells threads (is_agent r) (codes (number_of cells threads r)) books (number_of cells threads r) (st.actors (number_of cells threads r))
    invariant r is = was.actors (is_agent r) (number_of cells threads r) (staged r is)

    -- of an actor by whether the play was its
    abbrev actor_then : Bool → ℕ → Actor
    actor_then t b = if t then moved else st.actors b

    invariant_then : (r : Role) → IsRole cells threads r → ActorInvariant cells threads (is_agent r) (codes (number_of cells threads r)) later (number_of cells threads r) (actor_then (player == number_of cells threads r) (number_of cells threads r))
    invariant_then r is = after.actors (is_agent r) (number_of cells threads r) (staged r is)

    abbrev WalksThen : Time → ℕ → Role → Bool → Type 0
    WalksThen time now r t = Walks cells threads later time now r (actor_then t (number_of cells threads r)).entries

    in_order_so : (time : Time) (now : ℕ) → Times later time now → ((r : Role) → IsRole cells threads r → (t : Bool) → (player == number_of cells threads r) ≡ t → WalksThen time now r t) → InOrder cells threads (play cells threads codes y st)
    in_order_so time now t w = record { time = time; now = now; times = t; walks = λ r is. w r is (player == number_of cells threads r) refl }

    -- another actor
    away : (b : ℕ) → (player == b) ≡ false → player ≡ b → ⊥
    away b e same = false≢true (sym e ∙ ap (λ i. player == i) (sym same) ∙ number-itself player)

    -- where nothing was asked, or nobody answered
    rested : later ≡ books → moved.entries ≡ es → InOrder cells threads (play cells threads codes y st)
    rested same none = in_order_so o.time o.now (subst (λ b. Times b o.time o.now) (sym same) o.times) walks
      where
        walks : (r : Role) → IsRole cells threads r → (t : Bool) → (player == number_of cells threads r) ≡ t → WalksThen o.time o.now r t
        walks r is true e =
            let entries : moved.entries ≡ (st.actors (number_of cells threads r)).entries = none ∙ ap (λ i. (st.actors i).entries) (numbers player (number_of cells threads r) e) in
            subst (λ b. Walks cells threads b o.time o.now r moved.entries) (sym same) (subst (Walks cells threads books o.time o.now r) (sym entries) (o.walks r is))
        walks r is false e = subst (λ b. Walks cells threads b o.time o.now r (st.actors (number_of cells threads r)).entries) (sym same) (o.walks r is)

    module _ (q : Ask) (t : Told cells threads books later q player es moved.entries) where
      abbrev at_home : ℕ
      at_home = book_for cells q

      -- it is the actor of this role that was told
      told_as : (r : Role) → (player == number_of cells threads r) ≡ true → Told cells threads books later q (number_of cells threads r) (st.actors (number_of cells threads r)).entries moved.entries
      told_as r e = subst (λ i. Told cells threads books later q i (st.actors i).entries moved.entries) (numbers player (number_of cells threads r) e) t

      invariant_as : (r : Role) → IsRole cells threads r → (player == number_of cells threads r) ≡ true → ActorInvariant cells threads (is_agent r) (codes (number_of cells threads r)) later (number_of cells threads r) moved
      invariant_as r is e = subst (λ s. ActorInvariant cells threads (is_agent r) (codes (number_of cells threads r)) later (number_of cells threads r) (actor_then s (number_of cells threads r))) e (invariant_then r is)

      answer_as : (r : Role) → (player == number_of cells threads r) ≡ true → (xs : List Event) → (answer cells threads player books q).book ≡ xs → (answer cells threads (number_of cells threads r) books q).book ≡ xs
      answer_as r e xs f = subst (λ i. (answer cells threads i books q).book ≡ xs) (numbers player (number_of cells threads r) e) f

      left_in_order : (answer cells threads player books q).book ≡ books at_home → InOrder cells threads (play cells threads codes y st)
      left_in_order left = in_order_so o.time o.now (subst (λ b. Times b o.time o.now) (sym same) o.times) walks
        where
          same : later ≡ books
          same = t.books_are ∙ same_books cells threads player books q left

          walks : (r : Role) → IsRole cells threads r → (s : Bool) → (player == number_of cells threads r) ≡ s → WalksThen o.time o.now r s
          walks r is true e =
              subst (λ b. Walks cells threads b o.time o.now r moved.entries) (sym same)
              (told_quiet cells threads books later r is q (st.actors (number_of cells threads r)).entries moved.entries (told_as r e) (codes (number_of cells threads r)) (st.actors (number_of cells threads r)) moved refl refl (invariant r is) (invariant_as r is e) legal
              o.time o.now o.times (o.walks r is) (answer_as r e (books at_home) left) same)
          walks r is false e = subst (λ b. Walks cells threads b o.time o.now r (st.actors (number_of cells threads r)).entries) (sym same) (o.walks r is)

      more_in_order : (e : Event) → e.actor ≡ player → (answer cells threads player books q).book ≡ books at_home ++ e ∷ [] → InOrder cells threads (play cells threads codes y st)
      more_in_order e own more = in_order_so (next_time books o.time o.now at_home) (suc o.now) (next_times books o.time o.now at_home o.times later e one_more) walks
        where
          one_more : OneMore books later at_home e
          one_more = record {
            here = ap (λ (b : ℕ → List Event). b at_home) t.books_are ∙ ap (λ c. if c then (answer cells threads player books q).book else books at_home) (number-itself at_home) ∙ more;
            others = λ b f. ap (λ (c : ℕ → List Event). c b) t.books_are ∙ ap (λ c. if c then (answer cells threads player books q).book else books b) f;
          }

          walks : (r : Role) → IsRole cells threads r → (s : Bool) → (player == number_of cells threads r) ≡ s → WalksThen (next_time books o.time o.now at_home) (suc o.now) r s
          walks r is true f =
              told_more cells threads books later r is q (st.actors (number_of cells threads r)).entries moved.entries (told_as r f) (codes (number_of cells threads r)) (st.actors (number_of cells threads r)) moved refl refl (invariant r is) (invariant_as r is f) legal
              o.time o.now e o.times (o.walks r is) one_more (answer_as r f (books at_home ++ e ∷ []) more)
          walks r is false f =
              others_walk cells threads books later o.time o.now at_home o.times e one_more legal r is (λ same. away (number_of cells threads r) f (sym own ∙ same)) (st.actors (number_of cells threads r)).entries (invariant r is).told.hold (o.walks r is)

      heard_in_order : Serves player (books at_home) (answer cells threads player books q) → InOrder cells threads (play cells threads codes y st)
      heard_in_order s = go s.more s.grown s.own s.few
        where
          go : (more : List Event) → (answer cells threads player books q).book ≡ books at_home ++ more → AreOwn player more → length more ≤ 1 → InOrder cells threads (play cells threads codes y st)
          go [] g own few = left_in_order (g ∙ append-nil (books at_home))
          go (e ∷ []) g own few = more_in_order e own.0 g
          go (e ∷ d ∷ ds) g own few = absurd (omega (arith, few))

    took_in_order : Took cells threads player books es later moved.entries → InOrder cells threads (play cells threads codes y st)
    took_in_order (rests same none) = rested same none
    took_in_order (hears q ex same more) = heard_in_order q (record { exchanged = ex; books_are = same; entries_are = more }) (serves player (books (book_for cells q)) cells q)

    play_in_order : InOrder cells threads (play cells threads codes y st)
    play_in_order = took_in_order (moves_took cells threads codes y st)

  -- ---- all plays

  plays_in_order : (ys : List Play) (st : State) → RunInvariant cells threads codes st → InOrder cells threads st → InOrder cells threads (plays_from cells threads codes ys st)
  plays_in_order [] st k o = o
  plays_in_order (y ∷ ys) st k o = plays_in_order ys (play cells threads codes y st) (steps.play_holds serve_stands cells threads codes y st k) (play_in_order y st k o)

  pub run_in_order : (ys : List Play) → InOrder cells threads (plays cells threads codes ys)
  run_in_order ys = plays_in_order ys (opens cells codes) (opening_holds fresh_stands cells threads codes) (opening_in_order cells threads codes)
