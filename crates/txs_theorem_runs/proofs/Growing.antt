-- What a turn of one actor adds to the books, and what it leaves of what actors were told.
use Rattle.std.proofs.Common.{◌≡◌, ◌≤◌, ◌+◌, ℕ, zero, suc, Bool, true, false, ◌==◌, nat_lt, List, [], ◌∷◌, ◌++◌, if◌then◌else◌, length, take, refl, sym, ap, ◌∙◌, subst, arith}
use Rattle.std.proofs.lemmas.Bool.{false≢true}
use Rattle.std.proofs.lemmas.Bool.Decides.{nat_tests}
use Rattle.txs_world_protocol.specs.declared.ask.Ask.{Ask}
use Rattle.txs_world_protocol.specs.declared.ask.Reply.{Reply}
use Rattle.txs_world_protocol.specs.declared.ask.Reply.TheVariants as reply
use Rattle.txs_value_data.specs.Limits.{most_events}
use Rattle.txs_world_protocol.specs.declared.event.Event.{Event}
use Rattle.txs_value_data.proofs.SameLemmas.{numbers, number-itself}
use Rattle.txs_value_cell.specs.declared.cell.CellDefinition.{CellDefinition}
use Rattle.txs_world_book.specs.Served.{Served}
use Rattle.txs_theorem_runs.specs.Shared.{book_for, serve_on, may_ask}
use Rattle.txs_theorem_runs.specs.Stages.{Stage, AsksIn, first_stage, stage_after}
use Rattle.txs_theorem_runs.specs.Told.{Entry, Place, IsExchanged, before_entry, served_at, EntryHolds, AllHold, AreStaged, adding, trace_of, TraceHolds, places_in, places_by, ToldBy}
use Rattle.txs_theorem_runs.specs.Run.{entry}

-- these events are this actor's
abbrev pub AreOwn : ℕ → List Event → Type 0
AreOwn a [] = Unit {0}
AreOwn a (e ∷ es) = (e.actor ≡ a) × AreOwn a es

-- each book as it was, with events of this actor behind it
pub record Grown (a : ℕ) (books later : ℕ → List Event) : Type 0 where
  pub more : ℕ → List Event
  pub grown : (n : ℕ) → later n ≡ books n ++ more n
  pub own : (n : ℕ) → AreOwn a (more n)

append_nil : {A : Type 0} (xs : List A) → xs ++ [] ≡ xs
append_nil [] = refl
append_nil (x ∷ xs) = ap (λ l. x ∷ l) (append_nil xs)

pub nothing_grown : (a : ℕ) (books : ℕ → List Event) → Grown a books books
nothing_grown a books = record { more = λ n. []; grown = λ n. sym (append_nil (books n)); own = λ n. tt }

pub taken_more : {A : Type 0} (k : ℕ) (xs ys : List A) → k ≤ length xs → take k (xs ++ ys) ≡ take k xs
taken_more zero [] [] le = refl
taken_more zero [] (y ∷ ys) le = refl
taken_more zero (x ∷ xs) ys le = refl
taken_more (suc k) [] ys le = absurd (omega (arith, le))
taken_more (suc k) (x ∷ xs) ys le = ap (λ l. x ∷ l) (taken_more k xs ys (omega (arith, le)))

pub taken_within : {A : Type 0} (k : ℕ) (xs : List A) → length (take k xs) ≡ k → k ≤ length xs
taken_within zero xs e = omega arith
taken_within (suc k) [] e = absurd (omega (arith, e))
taken_within (suc k) (x ∷ xs) e = let h = taken_within k xs (omega (arith, e)) in omega (arith, h)

pub taken_whole : {A : Type 0} (xs : List A) → take (length xs) xs ≡ xs
taken_whole [] = refl
taken_whole (x ∷ xs) = ap (λ l. x ∷ l) (taken_whole xs)

pub longer : {A : Type 0} (k : ℕ) (xs ys : List A) → k ≤ length xs → k ≤ length (xs ++ ys)
longer zero xs ys le = omega arith
longer (suc k) [] ys le = absurd (omega (arith, le))
longer (suc k) (x ∷ xs) ys le = let h = longer k xs ys (omega (arith, le)) in omega (arith, h)

not_less : (m n : ℕ) → m ≡ n → nat_lt m n ≡ false
not_less m n h = grind (arith, nat_tests, h)

less : (m n : ℕ) → n ≡ suc m → nat_lt m n ≡ true
less m n h = grind (arith, nat_tests, h)

plus_zero : (m : ℕ) → m ≡ 0 + m
plus_zero m = omega arith

last_length : {A : Type 0} (xs : List A) (x : A) → length (xs ++ x ∷ []) ≡ suc (length xs)
last_length [] x = refl
last_length (y ∷ xs) x = ap suc (last_length xs x)

-- two actors that aren't one
pub differ : (m n : ℕ) → (m ≡ n → ⊥) → (m == n) ≡ false
differ m n h = go (m == n) refl
  where
    go : (b : Bool) → (m == n) ≡ b → (m == n) ≡ false
    go true e = absurd (h (numbers m n e))
    go false e = e

-- another actor's events aren't found
not_by : (a b k : ℕ) (es : List Event) → (a ≡ b → ⊥) → AreOwn a es → places_by b k es ≡ []
not_by a b k [] n own = refl
not_by a b k (e ∷ es) n own = ap (λ t. if t then k ∷ places_by b (suc k) es else places_by b (suc k) es) (differ e.actor b (λ h. n (sym own.0 ∙ h))) ∙ not_by a b (suc k) es n own.1

places_append : (b k : ℕ) (es fs : List Event) → places_by b k (es ++ fs) ≡ places_by b k es ++ places_by b (k + length es) fs
places_append b k [] fs = ap (λ j. places_by b j fs) (omega arith)
places_append b k (e ∷ es) fs = go (e.actor == b) (places_append b (suc k) es fs ∙ ap (λ j. places_by b (suc k) es ++ places_by b j fs) (omega arith))
  where
    go : (t : Bool) → places_by b (suc k) (es ++ fs) ≡ places_by b (suc k) es ++ places_by b (k + length (e ∷ es)) fs
        → (if t then k ∷ places_by b (suc k) (es ++ fs) else places_by b (suc k) (es ++ fs)) ≡ (if t then k ∷ places_by b (suc k) es else places_by b (suc k) es) ++ places_by b (k + length (e ∷ es)) fs
    go true h = ap (λ l. k ∷ l) h
    go false h = h

places_in_append : (n : ℕ) (ps qs : List Place) → places_in n (ps ++ qs) ≡ places_in n ps ++ places_in n qs
places_in_append n [] qs = refl
places_in_append n (p ∷ ps) qs = go (p.book == n) (places_in_append n ps qs)
  where
    go : (t : Bool) → places_in n (ps ++ qs) ≡ places_in n ps ++ places_in n qs
        → (if t then p.at ∷ places_in n (ps ++ qs) else places_in n (ps ++ qs)) ≡ (if t then p.at ∷ places_in n ps else places_in n ps) ++ places_in n qs
    go true h = ap (λ l. p.at ∷ l) h
    go false h = h

pub staged_append : (agent : Bool) (st mid end : Stage) (es fs : List Entry) → AreStaged agent st es mid → AreStaged agent mid fs end → AreStaged agent st (es ++ fs) end
staged_append agent st mid end [] fs e h = subst (λ i. AreStaged agent i fs end) (sym e) h
staged_append agent st mid end (x ∷ es) fs g h = (g.0, staged_append agent (stage_after st x.ask x.reply) mid end es fs g.1 h)

module _ (cells : List CellDefinition) (threads a b : ℕ) (books later : ℕ → List Event) (g : Grown a books later) where
  before_stays : (e : Entry) → EntryHolds cells threads books b e → before_entry cells later e ≡ before_entry cells books e
  before_stays e h = ap (take e.at) (g.grown (book_for cells e.ask)) ∙ taken_more e.at (books (book_for cells e.ask)) (g.more (book_for cells e.ask)) h.within

  served_stays : (e : Entry) → EntryHolds cells threads books b e → served_at cells later b e ≡ served_at cells books b e
  served_stays e h = ap (serve_on cells b e.ask) (before_stays e h)

  -- what holds of an entry goes on to hold
  pub entry_stays : (e : Entry) → EntryHolds cells threads books b e → EntryHolds cells threads later b e
  entry_stays e h = record {
    within = subst (λ l. e.at ≤ length l) (sym (g.grown n)) (longer e.at (books n) (g.more n) h.within);
    asked = (h.asked.0, subst (λ l. may_ask cells threads h.asked.0 b e.ask l ≡ true) (sym (before_stays e h)) h.asked.1);
    replied = h.replied ∙ ap (λ (v : Served). v.reply) (sym (served_stays e h));
    exchanged = h.exchanged;
    stands = subst (λ v. take (length v.book) (later n) ≡ v.book) (sym (served_stays e h))
        (ap (take m) (g.grown n) ∙ taken_more m (books n) (g.more n) (taken_within m (books n) (ap length h.stands)) ∙ h.stands);
  }
    where
      n : ℕ
      n = book_for cells e.ask

      m : ℕ
      m = length (served_at cells books b e).book

  pub all_stay : (es : List Entry) → AllHold cells threads books b es → AllHold cells threads later b es
  all_stay [] h = tt
  all_stay (e ∷ es) h = (entry_stays e h.0, all_stay es h.1)

  pub trace_stays : (es : List Entry) → AllHold cells threads books b es → trace_of cells later b es ≡ trace_of cells books b es
  trace_stays [] h = refl
  trace_stays (e ∷ es) h =
      ap (λ ps. adding cells later b e ps) (trace_stays es h.1)
      ∙ ap (λ (v : Served). if nat_lt e.at (length v.book) then record { book = book_for cells e.ask; at = e.at } ∷ trace_of cells books b es else trace_of cells books b es) (served_stays e h.0)

  -- what another actor adds leaves the trace of one
  pub traced_stays : (a ≡ b → ⊥) → (es : List Entry) → AllHold cells threads books b es → TraceHolds books b (trace_of cells books b es) → TraceHolds later b (trace_of cells later b es)
  traced_stays n es h t i =
      ap (places_in i) (trace_stays es h) ∙ t i ∙ sym (append_nil (places_by b 0 (books i)))
      ∙ ap (λ l. places_by b 0 (books i) ++ l) (sym (not_by a b (0 + length (books i)) (g.more i) n (g.own i)))
      ∙ sym (places_append b 0 (books i) (g.more i)) ∙ ap (places_by b 0) (sym (g.grown i))

  -- and what an actor was told
  pub told_stays : (a ≡ b → ⊥) → (agent : Bool) (es : List Entry) (st : Stage) → ToldBy cells threads books agent b es st → ToldBy cells threads later agent b es st
  told_stays n agent es st t = record {
    hold = all_stay es t.hold;
    staged = t.staged;
    traced = traced_stays n es t.hold t.traced;
  }

-- ---- an actor's own ask

-- a reply that tells of a full book
abbrev pub IsFull : Reply → Type 0
IsFull reply.Full = Unit {0}
IsFull _ = ⊥

-- what was served leaves the book, or adds an event of the actor; where the reply isn't one that an actor goes on with, it leaves the book, which is full where the reply says so
pub record Serves (a : ℕ) (book : List Event) (v : Served) : Type 0 where
  pub more : List Event
  pub grown : v.book ≡ book ++ more
  pub own : AreOwn a more
  pub few : length more ≤ 1
  pub stays : (IsExchanged v.reply → ⊥) → more ≡ []
  pub full : IsFull v.reply → most_events ≤ length book

module _ (cells : List CellDefinition) (threads a : ℕ) (books : ℕ → List Event) (q : Ask) (taken : List Bool) (may : may_ask cells threads taken a q (books (book_for cells q)) ≡ true) where
  abbrev pub home_book : ℕ
  home_book = book_for cells q

  -- the books after something was served
  abbrev pub books_after : Served → ℕ → List Event
  books_after v n = if n == book_for cells q then v.book else books n

  module _ (v : Served) (e : v ≡ serve_on cells a q (books (book_for cells q))) (s : Serves a (books (book_for cells q)) v) where
    later_home : books_after v home_book ≡ v.book
    later_home = ap (λ t. if t then v.book else books home_book) (number-itself home_book)

    pub grows : (n : ℕ) (t : Bool) → (n == home_book) ≡ t → (if t then v.book else books n) ≡ books n ++ (if t then s.more else [])
    grows n true h = s.grown ∙ ap (λ i. books i ++ s.more) (sym (numbers n home_book h))
    grows n false h = sym (append_nil (books n))

    pub owns : (t : Bool) → AreOwn a (if t then s.more else [])
    owns true = s.own
    owns false = tt

    abbrev pub own_grown : Grown a books (books_after v)
    own_grown = record { more = λ n. if n == book_for cells q then s.more else []; grown = λ n. grows n (n == book_for cells q) refl; own = λ n. owns (n == book_for cells q) }

    -- where it left the books, it is as if another actor had added nothing
    pub nothing_served : s.more ≡ [] → Grown (suc a) books (books_after v)
    nothing_served none = record { more = λ n. []; grown = λ n. same n (n == home_book) refl; own = λ n. tt }
      where
        same : (n : ℕ) (t : Bool) → (n == home_book) ≡ t → (if t then v.book else books n) ≡ books n ++ []
        same n true h = s.grown ∙ ap (λ l. books home_book ++ l) none ∙ ap (λ i. books i ++ []) (sym (numbers n home_book h))
        same n false h = sym (append_nil (books n))

    -- its entry
    abbrev own : Entry
    own = entry q v.reply (length (books (book_for cells q)))

    before_own : before_entry cells (books_after v) own ≡ books home_book
    before_own = ap (take (length (books home_book))) (later_home ∙ s.grown) ∙ taken_more (length (books home_book)) (books home_book) s.more (omega arith) ∙ taken_whole (books home_book)

    served_own : served_at cells (books_after v) a own ≡ v
    served_own = ap (serve_on cells a q) before_own ∙ sym e

    own_holds : IsExchanged v.reply → EntryHolds cells threads (books_after v) a own
    own_holds ex = record {
      within = subst (λ l. length (books home_book) ≤ length l) (sym (later_home ∙ s.grown)) (longer (length (books home_book)) (books home_book) s.more (omega arith));
      asked = (taken, subst (λ l. may_ask cells threads taken a q l ≡ true) (sym before_own) may);
      replied = ap (λ (x : Served). x.reply) (sym served_own);
      exchanged = ex;
      stands = subst (λ x. take (length x.book) (books_after v home_book) ≡ x.book) (sym served_own) (ap (take (length v.book)) later_home ∙ taken_whole v.book);
    }

    -- the place of its event
    own_places : (n : ℕ) → places_in n (adding cells (books_after v) a own []) ≡ places_by a (0 + length (books n)) (own_grown.more n)
    own_places n =
        subst (λ (x : Served). places_in n (if nat_lt (length (books home_book)) (length x.book) then record { book = home_book; at = length (books home_book) } ∷ [] else []) ≡ places_by a (0 + length (books n)) (own_grown.more n)) (sym served_own)
        (subst (λ l. places_in n (if nat_lt (length (books home_book)) (length l) then record { book = home_book; at = length (books home_book) } ∷ [] else []) ≡ places_by a (0 + length (books n)) (own_grown.more n)) (sym s.grown)
        (placed n (n == home_book) refl s.more s.own s.few))
      where
        none_longer : (xs : List Event) → nat_lt (length xs) (length (xs ++ [])) ≡ false
        none_longer xs = not_less (length xs) (length (xs ++ [])) (ap length (sym (append_nil xs)))

        one_longer : (xs : List Event) (d : Event) → nat_lt (length xs) (length (xs ++ d ∷ [])) ≡ true
        one_longer xs d = less (length xs) (length (xs ++ d ∷ [])) (last_length xs d)

        turned_round : (n m : ℕ) (t : Bool) → (n == m) ≡ t → (m == n) ≡ t
        turned_round n m true h = subst (λ i. (i == n) ≡ true) (numbers n m h) (number-itself n)
        turned_round n m false h = differ m n (λ i. false≢true (sym h ∙ ap (λ j. n == j) i ∙ number-itself n))

        placed : (n : ℕ) (t : Bool) → (n == home_book) ≡ t → (ds : List Event) → AreOwn a ds → length ds ≤ 1
            → places_in n (if nat_lt (length (books home_book)) (length (books home_book ++ ds)) then record { book = home_book; at = length (books home_book) } ∷ [] else [])
            ≡ places_by a (0 + length (books n)) (if t then ds else [])
        placed n t h [] o f = ap (λ z. places_in n (if z then record { book = home_book; at = length (books home_book) } ∷ [] else [])) (none_longer (books home_book)) ∙ empty t
          where
            empty : (t : Bool) → [] ≡ places_by a (0 + length (books n)) (if t then [] else [])
            empty true = refl
            empty false = refl
        placed n true h (d ∷ []) o f =
            ap (λ z. places_in n (if z then record { book = home_book; at = length (books home_book) } ∷ [] else [])) (one_longer (books home_book) d)
            ∙ ap (λ z. if z then length (books home_book) ∷ [] else []) (turned_round n home_book true h)
            ∙ ap (λ i. length (books i) ∷ []) (sym (numbers n home_book h))
            ∙ ap (λ j. j ∷ []) (plus_zero (length (books n)))
            ∙ sym (ap (λ z. if z then (0 + length (books n)) ∷ [] else []) (ap (λ i. i == a) o.0 ∙ number-itself a))
        placed n false h (d ∷ []) o f =
            ap (λ z. places_in n (if z then record { book = home_book; at = length (books home_book) } ∷ [] else [])) (one_longer (books home_book) d)
            ∙ ap (λ z. if z then length (books home_book) ∷ [] else []) (turned_round n home_book false h)
        placed n t h (d ∷ d2 ∷ ds) o f = absurd (omega (arith, f))

    traces_append : (xs : List Entry) → trace_of cells (books_after v) a (xs ++ own ∷ []) ≡ trace_of cells (books_after v) a xs ++ adding cells (books_after v) a own []
    traces_append [] = refl
    traces_append (x ∷ xs) = ap (adding cells (books_after v) a x) (traces_append xs) ∙ over (nat_lt x.at (length (served_at cells (books_after v) a x).book))
      where
        over : (t : Bool) → (if t then record { book = book_for cells x.ask; at = x.at } ∷ (trace_of cells (books_after v) a xs ++ adding cells (books_after v) a own []) else trace_of cells (books_after v) a xs ++ adding cells (books_after v) a own [])
            ≡ (if t then record { book = book_for cells x.ask; at = x.at } ∷ trace_of cells (books_after v) a xs else trace_of cells (books_after v) a xs) ++ adding cells (books_after v) a own []
        over true = refl
        over false = refl

    all_append : (xs : List Entry) → AllHold cells threads (books_after v) a xs → EntryHolds cells threads (books_after v) a own → AllHold cells threads (books_after v) a (xs ++ own ∷ [])
    all_append [] h o = (o, tt)
    all_append (x ∷ xs) h o = (h.0, all_append xs h.1 o)

    -- with its own entry behind the others, each entry holds
    pub own_hold : IsExchanged v.reply → (xs : List Entry) → AllHold cells threads books a xs → AllHold cells threads (books_after v) a (xs ++ own ∷ [])
    own_hold ex xs h = all_append xs (all_stay cells threads a a books (books_after v) own_grown xs h) (own_holds ex)

    -- and the trace names the actor's events
    pub own_traced : (xs : List Entry) → AllHold cells threads books a xs → TraceHolds books a (trace_of cells books a xs) → TraceHolds (books_after v) a (trace_of cells (books_after v) a (xs ++ own ∷ []))
    own_traced xs h t n =
        ap (places_in n) (traces_append xs) ∙ places_in_append n (trace_of cells (books_after v) a xs) (adding cells (books_after v) a own [])
        ∙ ap (λ ps. places_in n ps ++ places_in n (adding cells (books_after v) a own [])) (trace_stays cells threads a a books (books_after v) own_grown xs h)
        ∙ ap (λ l. l ++ places_in n (adding cells (books_after v) a own [])) (t n)
        ∙ ap (λ l. places_by a 0 (books n) ++ l) (own_places n)
        ∙ sym (places_append a 0 (books n) (own_grown.more n)) ∙ ap (places_by a 0) (sym (own_grown.grown n))

    -- so an actor was told what the books say after it
    pub own_told : IsExchanged v.reply → (agent : Bool) (xs : List Entry) (st : Stage) → AsksIn agent st q → ToldBy cells threads books agent a xs st → ToldBy cells threads (books_after v) agent a (xs ++ own ∷ []) (stage_after st q v.reply)
    own_told ex agent xs st ok t = record {
      hold = own_hold ex xs t.hold;
      staged = staged_append agent (first_stage agent) st (stage_after st q v.reply) xs (own ∷ []) t.staged (ok, refl);
      traced = own_traced xs t.hold t.traced;
    }
