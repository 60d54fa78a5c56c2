-- A read in a transaction, of a value that is kept whatever one more ask writes: it is answered the same behind another actor's ask.
use Rattle.std.proofs.Common.{◌≡◌, ◌<◌, ◌≤◌, ◌+◌, ℕ, zero, suc, Bool, true, false, not, ◌&&◌, ◌==◌, nat_lt, nat_le, List, [], ◌∷◌, ◌++◌, length, if◌then◌else◌, refl, sym, ap, ◌∙◌, arith, length-append}
use Rattle.std.proofs.lemmas.Bool.Decides.{nat_tests}
use Rattle.txs_world_protocol.specs.declared.ask.Ask.TheVariants as ask
use Rattle.txs_world_protocol.specs.declared.ask.Reply.TheVariants as reply
use Rattle.txs_world_protocol.specs.declared.event.Event.{Event}
use Rattle.txs_value_cell.specs.Cells.{World}
use Rattle.txs_value_cell.specs.declared.cell.CellDefinition.{CellDefinition}
use Rattle.txs_value_data.specs.declared.value.CellId.{CellId}
use Rattle.txs_world_book.specs.Book.{after, times_written, most_older, is_outdated, writes_to, counts, all_before, has_ref, opening}
use Rattle.txs_world_book.specs.Served.{cells_of, Served, served}
use Rattle.txs_world_book.proofs.Growth.{after_front}
use Rattle.txs_world.specs.Store as store
use Rattle.txs_world.specs.Store.{looks}
use Rattle.txs_theorem_runs.specs.Shared.{serve_on, may_ask}
use Rattle.txs_theorem_runs.proofs.Growing.{AreOwn, Serves}

-- ---- longer books

times_few : (k p : ℕ) (es : List Event) → times_written k p es ≤ length es
times_few k p [] = omega arith
times_few k zero (e ∷ es) = by (times_few k zero es) (writes_to e.kind k)
  where
    by : times_written k zero es ≤ length es → (b : Bool) → (if b then suc (times_written k zero es) else times_written k zero es) ≤ suc (length es)
    by h true = omega (arith, h)
    by h false = omega (arith, h)
times_few k (suc p) (e ∷ es) = let h = times_few k p es in omega (arith, h)

times_more : (k p : ℕ) (es fs : List Event) → times_written k p (es ++ fs) ≤ times_written k p es + length fs
times_more k p [] fs = omega (arith, times_few k p fs)
times_more k zero (e ∷ es) fs = by (times_more k zero es fs) (writes_to e.kind k)
  where
    by : times_written k zero (es ++ fs) ≤ times_written k zero es + length fs → (b : Bool)
        → (if b then suc (times_written k zero (es ++ fs)) else times_written k zero (es ++ fs)) ≤ (if b then suc (times_written k zero es) else times_written k zero es) + length fs
    by h true = omega (arith, h)
    by h false = h
times_more k (suc p) (e ∷ es) fs = times_more k p es fs

not_his : (a b : ℕ) (e : Event) → (b == a) ≡ false → e.actor ≡ b → (e.actor == a) ≡ false
not_his a b e d own = ap (λ z. z == a) own ∙ d

none_before : (all : Bool) (a b p : ℕ) (es : List Event) → (b == a) ≡ false → AreOwn b es → all_before all a p es ≡ true
none_before all a b p [] d own = refl
none_before all a b zero (e ∷ es) d own = ap (λ z. not (z && counts all e.kind) && all_before all a zero es) (not_his a b e d own.0) ∙ none_before all a b zero es d own.1
none_before all a b (suc p) (e ∷ es) d own = none_before all a b p es d own.1

-- another actor's events leave whether one's own are before a place
before_stays : (all : Bool) (a b p : ℕ) (es fs : List Event) → (b == a) ≡ false → AreOwn b fs → all_before all a p (es ++ fs) ≡ all_before all a p es
before_stays all a b p [] fs d own = none_before all a b p fs d own
before_stays all a b zero (e ∷ es) fs d own = ap (λ z. not (e.actor == a && counts all e.kind) && z) (before_stays all a b zero es fs d own)
before_stays all a b (suc p) (e ∷ es) fs d own = before_stays all a b p es fs d own

within : (m n : ℕ) → nat_le m n ≡ true → m ≤ n
within m n h = grind (arith, nat_tests, h)

is_within : (m n : ℕ) → m ≤ n → nat_le m n ≡ true
is_within m n h = grind (arith, nat_tests, h)

is_less : (m n : ℕ) → nat_lt m n ≡ true → m < n
is_less m n h = grind (arith, nat_tests, h)

is_not_less : (m n : ℕ) → n ≤ m → nat_lt m n ≡ false
is_not_less m n h = grind (arith, nat_tests, h)

-- ---- a read of a kept value

module _ (cells : List CellDefinition) (threads a b : ℕ) (d : (b == a) ≡ false) (c : CellId) (at : ℕ) (book : List Event)
    (there : nat_le at (length book) ≡ true) (kept : nat_lt (times_written c.number at book) most_older ≡ true) where
  -- behind events of another actor, one at most
  module _ (more : List Event) (own : AreOwn b more) (few : length more ≤ 1) where
    kept_still : is_outdated c.number at (book ++ more) ≡ false
    kept_still =
        let l = is_less (times_written c.number at book) most_older kept in
        let m = times_more c.number at book more in
        is_not_less most_older (times_written c.number at (book ++ more)) (omega (arith, l, m, few))

    -- it is answered its value, and the book stays
    pub looked : serve_on cells a (ask.Look c at) (book ++ more) ≡ served (reply.Is (after (opening (cells_of cells)) book at c.number)) (book ++ more)
    looked =
        ap (λ o. looks o (opening (cells_of cells)) a c at (book ++ more)) kept_still
        ∙ ap (λ (w : World). served (reply.Is (w c.number)) (book ++ more)) (after_front (opening (cells_of cells)) book more at (within at (length book) there))

    -- and it may be asked as before
    pub may_still : (taken : List Bool) → may_ask cells threads taken a (ask.Look c at) (book ++ more) ≡ may_ask cells threads taken a (ask.Look c at) book
    may_still taken =
        let far : nat_le at (length (book ++ more)) ≡ true =
        is_within at (length (book ++ more)) (let h = within at (length book) there in let l = length-append book more in omega (arith, h, l)) in
        ap (λ z. store.may_ask (cells_of cells) threads a (ask.Look c at) && (has_ref (cells_of cells) c && z))
        (ap (λ z. z && all_before false a at (book ++ more)) (far ∙ sym there) ∙ ap (λ z. nat_le at (length book) && z) (before_stays false a b at book more d own))

  -- behind an ask of another actor
  pub record Steady (v : Served) : Type 0 where
    pub leaves : (serve_on cells a (ask.Look c at) v.book).book ≡ v.book
    pub same : (serve_on cells a (ask.Look c at) v.book).reply ≡ (serve_on cells a (ask.Look c at) book).reply
    pub may : (taken : List Bool) → may_ask cells threads taken a (ask.Look c at) v.book ≡ may_ask cells threads taken a (ask.Look c at) book

  here : serve_on cells a (ask.Look c at) book ≡ served (reply.Is (after (opening (cells_of cells)) book at c.number)) book
  here =
      let l = is_less (times_written c.number at book) most_older kept in
      ap (λ o. looks o (opening (cells_of cells)) a c at book) (is_not_less most_older (times_written c.number at book) (omega (arith, l)))

  pub leaves_here : (serve_on cells a (ask.Look c at) book).book ≡ book
  leaves_here = ap (λ (v : Served). v.book) here

  pub steady : (v : Served) → Serves b book v → Steady v
  steady v s = record {
    leaves =
        ap (λ l. (serve_on cells a (ask.Look c at) l).book) s.grown ∙ ap (λ (u : Served). u.book) (looked s.more s.own s.few) ∙ sym s.grown;
    same =
        ap (λ l. (serve_on cells a (ask.Look c at) l).reply) s.grown ∙ ap (λ (u : Served). u.reply) (looked s.more s.own s.few) ∙ sym (ap (λ (u : Served). u.reply) here);
    may = λ taken. ap (may_ask cells threads taken a (ask.Look c at)) s.grown ∙ may_still s.more s.own s.few taken;
  }
