-- What traces say is between events of the books.
use Rattle.std.proofs.Common.{◌≡◌, ◌<◌, ◌≤◌, ℕ, zero, suc, ◌+◌, Bool, true, false, List, [], ◌∷◌, ◌++◌, length, replicate, Option, Some, None, refl, sym, ap, subst, arith, if◌then◌else◌}
use Rattle.std.specs.Prelude.{nat_lt}
use Rattle.std.proofs.lemmas.Bool.Decides.{nat_tests}
use Rattle.txs_value_data.specs.Places.{nth}
use Rattle.txs_value_data.specs.declared.value.CellId.{CellId}
use Rattle.txs_world_protocol.specs.declared.event.Event.{Event}
use Rattle.txs_world_protocol.specs.declared.event.EventKind.{EventKind}
use Rattle.txs_world_book.specs.Book.{is_redo, sent_to}
use Rattle.txs_theorem_runs.specs.Told.{Place}
use Rattle.txs_theorem_serial.specs.Order.{Link, in_book_order, links_to, links_between, point_of, next_event, links_of, is_over, acts_behind, behind_event, event_links, trace_links, actor_links, sent_by, senders_from, as_list, sender_of, no_sender, thread_links, agent_links, all_links}
use Rattle.txs_theorem_serial.specs.Taken.{LinksAreWithin}

-- ---- lists

abbrev IsThere : {A : Type 0} → Option A → Type 0
IsThere None = ⊥
IsThere (Some a) = Unit {0}

-- nothing is there and not
not_there : {A B : Type 0} {a : A} → None ≡ Some a → B
not_there e = absurd (subst IsThere (sym e) tt)

nth_within : {A : Type 0} (xs : List A) (k : ℕ) (x : A) → nth xs k ≡ Some x → k < length xs
nth_within [] k x there = not_there there
nth_within (y ∷ ys) zero x there = omega arith
nth_within (y ∷ ys) (suc k) x there = let lt = nth_within ys k x there in omega (arith, lt)

module _ (books : ℕ → List Event) where
  -- a place is an event's
  abbrev IsIn : Place → Type 0
  IsIn p = p.at < length (books p.book)

  abbrev AreIn : List Place → Type 0
  AreIn [] = Unit {0}
  AreIn (p ∷ ps) = IsIn p × AreIn ps

  -- so are both places of each link
  abbrev AreLinked : List Link → Type 0
  AreLinked [] = Unit {0}
  AreLinked (l ∷ ls) = (IsIn l.earlier × IsIn l.later) × AreLinked ls

  both_in : (ps qs : List Place) → AreIn ps → AreIn qs → AreIn (ps ++ qs)
  both_in [] qs h k = k
  both_in (p ∷ ps) qs h k = (h.0, both_in ps qs h.1 k)

  both_linked : (xs ys : List Link) → AreLinked xs → AreLinked ys → AreLinked (xs ++ ys)
  both_linked [] ys h k = k
  both_linked (x ∷ xs) ys h k = (h.0, both_linked xs ys h.1 k)

  linked_at : (ls : List Link) → AreLinked ls → (i : ℕ) (l : Link) → nth ls i ≡ Some l → IsIn l.earlier × IsIn l.later
  linked_at [] h i l there = not_there there
  linked_at (x ∷ xs) h zero l there = let same : x ≡ l = cc in subst (λ (y : Link). IsIn y.earlier × IsIn y.later) same h.0
  linked_at (x ∷ xs) h (suc i) l there = linked_at xs h.1 i l there

  member_in : (ps : List Place) → AreIn ps → (j : ℕ) → AreIn (as_list (nth ps j))
  member_in [] h j = tt
  member_in (p ∷ ps) h zero = (h.0, tt)
  member_in (p ∷ ps) h (suc j) = member_in ps h.1 j

  -- ---- what came before what

  to_in : (ps : List Place) (q : Place) → AreIn ps → IsIn q → AreLinked (links_to ps q)
  to_in [] q h k = tt
  to_in (p ∷ ps) q h k = test (in_book_order p q) (to_in ps q h.1 k)
    where
      test : (b : Bool) → AreLinked (links_to ps q) → AreLinked (if b then links_to ps q else record { earlier = p; later = q } ∷ links_to ps q)
      test true rest = rest
      test false rest = ((h.0, k), rest)

  between_in : (ps qs : List Place) → AreIn ps → AreIn qs → AreLinked (links_between ps qs)
  between_in ps [] h k = tt
  between_in ps (q ∷ qs) h k = both_linked (links_to ps q) (links_between ps qs) (to_in ps q h k.0) (between_in ps qs h k.1)

  next_in : (b : ℕ) (o : Option ℕ) → AreIn (next_event b (books b) o)
  next_in b None = tt
  next_in b (Some k) = test (nat_lt k (length (books b))) refl
    where
      test : (t : Bool) → nat_lt k (length (books b)) ≡ t → AreIn (if t then record { book = b; at = k } ∷ [] else [])
      test true e = let lt : k < length (books b) = grind (arith, nat_tests, e) in (lt, tt)
      test false e = tt

  of_in : (last behind : List Place) (q : Place) (kind : EventKind) → AreIn last → AreIn behind → IsIn q → AreLinked (links_of books last behind q kind)
  of_in last behind q kind l b k =
      let next = next_event q.book (books q.book) (point_of kind) in
      both_linked (links_to last q) (links_to behind q ++ links_between behind next) (to_in last q l k)
      (both_linked (links_to behind q) (links_between behind next) (to_in behind q b k) (between_in behind next b (next_in q.book (point_of kind))))

  -- ---- the events of an actor

  module _ (sender : ℕ → List Place) (sent : (j : ℕ) → AreIn (sender j)) where
    behind_in : (j : ℕ) (behind : List Place) (q : Place) (kind : EventKind) → AreIn behind → IsIn q → AreIn (behind_event sender j behind q kind)
    behind_in j behind q kind h k = test (is_redo kind) (is_over kind)
      where
        after : (t : Bool) → AreIn (if t then sender (suc j) else [])
        after true = sent (suc j)
        after false = tt

        test : (s t : Bool) → AreIn (if s then behind else q ∷ (if t then sender (suc j) else []))
        test true t = h
        test false t = (k, after t)

    trace_in : (j : ℕ) (last behind trace : List Place) → AreIn last → AreIn behind → AreLinked (trace_links books sender j last behind trace)
    trace_in j last behind [] l b = tt
    trace_in j last behind (q ∷ qs) l b = go (nth (books q.book) q.at) refl (λ j1 last1 behind1 l1 b1. trace_in j1 last1 behind1 qs l1 b1)
      where
        go : (o : Option Event) → nth (books q.book) q.at ≡ o → ((j1 : ℕ) (last1 behind1 : List Place) → AreIn last1 → AreIn behind1 → AreLinked (trace_links books sender j1 last1 behind1 qs))
            → AreLinked (event_links books sender j last behind q o (λ j1 last1 behind1. trace_links books sender j1 last1 behind1 qs))
        go None there rest = rest j last behind l b
        go (Some e) there rest =
            let here = nth_within (books q.book) q.at e there in
            let behind1 = behind_event sender j behind q e.kind in
            both_linked (links_of books last behind q e.kind) (trace_links books sender (acts_behind j e.kind) (q ∷ []) behind1 qs) (of_in last behind q e.kind l b here)
            (rest (acts_behind j e.kind) (q ∷ []) behind1 (here, tt) (behind_in j behind q e.kind b here))

    actor_in : (trace : List Place) → AreLinked (actor_links books sender trace)
    actor_in trace = trace_in 0 [] (sender 0) trace tt (sent 0)

  -- ---- who sent an action

  copies_in : (n : ℕ) (p : Place) → IsIn p → AreIn (replicate n p)
  copies_in zero p h = tt
  copies_in (suc n) p h = (h, copies_in n p h)

  senders_in : (g k : ℕ) (es : List Event) → k + length es ≤ length (books 0) → AreIn (senders_from g k es)
  senders_in g k [] le = tt
  senders_in g k (e ∷ es) le =
      let here : k < length (books 0) = omega (arith, le) in
      let p : Place = record { book = 0; at = k } in
      both_in (replicate (length (sent_to g (sent_by e.kind))) p) (senders_from g (suc k) es) (copies_in (length (sent_to g (sent_by e.kind))) p here) (senders_in g (suc k) es (omega (arith, le)))

  sender_in : (g j : ℕ) → AreIn (sender_of g (books 0) j)
  sender_in g j = member_in (senders_from g 0 (books 0)) (senders_in g 0 (books 0) (omega arith)) j

  -- ---- all actors

  threads_in : (ts : List (List Place)) → AreLinked (thread_links books ts)
  threads_in [] = tt
  threads_in (t ∷ ts) = both_linked (actor_links books no_sender t) (thread_links books ts) (actor_in no_sender (λ j. tt) t) (threads_in ts)

  agents_in : (gs : List CellId) (ts : List (List Place)) → AreLinked (agent_links books gs ts)
  agents_in [] ts = tt
  agents_in (g ∷ gs) [] = tt
  agents_in (g ∷ gs) (t ∷ ts) =
      both_linked (actor_links books (sender_of g.number (books 0)) t) (agent_links books gs ts) (actor_in (sender_of g.number (books 0)) (sender_in g.number) t) (agents_in gs ts)

  -- a book with an event is one of the first n
  below : (n : ℕ) → ((b : ℕ) → nat_lt b n ≡ false → books b ≡ []) → (p : Place) → IsIn p → p.book < n
  below n none p h = test (nat_lt p.book n) refl
    where
      test : (t : Bool) → nat_lt p.book n ≡ t → p.book < n
      test true e = grind (arith, nat_tests, e)
      test false e = let z : length (books p.book) ≡ 0 = ap length (none p.book e) in absurd (omega (arith, z, h))

pub links_are_within : LinksAreWithin
links_are_within books n threads gs agents none i l there =
    let x = linked_at books (all_links books threads gs agents) (both_linked books (thread_links books threads) (agent_links books gs agents) (threads_in books threads) (agents_in books gs agents)) i l there in
    (below books n none l.earlier x.0, x.0, below books n none l.later x.1, x.1)
