-- An atom's parts agree from its opening on, and after each event.
use Rattle.std.proofs.Common.{◌≡◌, ◌≤◌, ◌<◌, ℕ, zero, suc, Bool, true, false, nat_lt, ◌==◌, ◌||◌, List, [], ◌∷◌, ◌++◌, length, Option, Some, None, Result, Ok, Err, refl, ap, subst, sym, ◌∙◌, arith, length-append, if◌then◌else◌}
use Rattle.std.proofs.lemmas.Bool.{ltb-true, false≢true}
use Rattle.txs_world_protocol.specs.declared.ask.Ask.{Ask}
use Rattle.txs_world_protocol.specs.declared.ask.Ask.TheVariants as ask
use Rattle.txs_world_protocol.specs.declared.ask.Reply.{Reply}
use Rattle.txs_world_protocol.specs.declared.ask.Reply.TheVariants as reply
use Rattle.txs_world_protocol.specs.declared.event.Event.{Event}
use Rattle.txs_world_protocol.specs.declared.event.EventKind.{EventKind}
use Rattle.txs_world_protocol.specs.declared.event.EventKind.TheVariants.{Read, Commit, Retry, Fail, Refused, Send, SendRefused, Act, Swap, Broke}
use Rattle.txs_value_data.specs.Limits.{most_events}
use Rattle.txs_value_data.specs.declared.value.CellId.{CellId}
use Rattle.txs_value_data.specs.declared.value.Value.{Value}
use Rattle.std.specs.Prelude.{OnErr, OnOk}
use Rattle.txs_world_book.specs.Atom.{PlainAtom, atom_with, serve_atom, is_lawful_atom, closes_at, swapped_to, atom_after, is_swap, swapped_since, LegalAtomKind, LegalAtom, IsAtomKept}
use Rattle.txs_world_book.specs.Book.{value_or, may_name}
use Rattle.txs_world_book.specs.Stands.{StandsAt, Marked, StandAsBefore}
use Rattle.txs_world_book.specs.Served.{event_of, adds, served}
use Rattle.txs_world_book.proofs.Growth.{neither, each_more}
use Rattle.txs_world_book.proofs.Outcomes.{both}
use Rattle.txs_world_book.proofs.Standing.{actor_more}

-- an atom by its parts
abbrev pub atom_of : CellId → Value → List Event → PlainAtom
atom_of c v book = record { cell = c; opening = v; book = book }

or_true : (b : Bool) → (b || true) ≡ true
or_true true = refl
or_true false = refl

atom_last : (v : Value) (es : List Event) (e : Event) → atom_after v (es ++ e ∷ []) (length (es ++ e ∷ [])) ≡ value_or (swapped_to e.kind) (atom_after v es (length es))
atom_last v [] e = refl
atom_last v (d ∷ es) e = atom_last (value_or (swapped_to d.kind) v) es e

unswapped_more : (p : ℕ) (es : List Event) (e : Event) → is_swap e.kind ≡ false → swapped_since p (es ++ e ∷ []) ≡ swapped_since p es
unswapped_more zero [] e h = ap (λ b. b || false) h
unswapped_more (suc p) [] e h = refl
unswapped_more zero (d ∷ es) e h = ap (λ b. is_swap d.kind || b) (unswapped_more zero es e h)
unswapped_more (suc p) (d ∷ es) e h = unswapped_more p es e h

swapped_more : (p : ℕ) (es : List Event) (e : Event) → is_swap e.kind ≡ true → p ≤ length es → swapped_since p (es ++ e ∷ []) ≡ true
swapped_more zero [] e h le = ap (λ b. b || false) h
swapped_more (suc p) [] e h le = absurd (omega (arith, le))
swapped_more zero (d ∷ es) e h le = ap (λ b. is_swap d.kind || b) (swapped_more zero es e h (omega arith)) ∙ or_true (is_swap d.kind)
swapped_more (suc p) (d ∷ es) e h le = swapped_more p es e h (omega (arith, le))

swapped_end : (p : ℕ) (es : List Event) → length es ≤ p → swapped_since p es ≡ false
swapped_end p [] le = refl
swapped_end zero (e ∷ es) le = absurd (omega (arith, le))
swapped_end (suc p) (e ∷ es) le = swapped_end p es (omega (arith, le))

legal_more : (c : CellId) (book : List Event) (a : ℕ) (d : EventKind) → LegalAtom c book → length book < most_events → LegalAtomKind c book a d → LegalAtom c (book ++ event_of a d ∷ [])
legal_more c book a d h lt l =
    let e = event_of a d in
    record { few = omega (arith, lt, length-append book (e ∷ [])); each = each_more (λ done x. LegalAtomKind c done x.actor x.kind) [] book e h.each l }

pub atom_opened : (c : CellId) (v : Value) (views : List ℕ) (book : List Event) → views ≡ [] → book ≡ [] → IsAtomKept c v None 0 views book
atom_opened c v views book no_views empty =
    subst (λ l. IsAtomKept c v None 0 l book) (sym no_views) (subst (IsAtomKept c v None 0 []) (sym empty) (record {
      newest = refl;
      since = λ p h. absurd (omega (arith, h));
      not_since = λ p h. refl;
      all = λ a. record { stands = λ p h. refl; passed = λ p h. absurd (omega (arith, h)) };
      legal = record { few = omega arith; each = tt };
    }))

-- an event that is no swap gives no value
no_value : (d : EventKind) → is_swap d ≡ false → swapped_to d ≡ None
no_value (Read c) e = refl
no_value (Commit at view ws sends) e = refl
no_value (Retry since c cause) e = refl
no_value (Fail at view) e = refl
no_value (Refused at view g) e = refl
no_value (Send x) e = refl
no_value (SendRefused g) e = refl
no_value (Act g n new sends) e = refl
no_value (Swap new) e = absurd (false≢true (sym e))
no_value (Broke at) e = refl

pub atom_quiet : (c : CellId) (v : Value) (o : Option Value) (n : ℕ) (views vs : List ℕ) (book more : List Event) (a : ℕ) (d : EventKind) → IsAtomKept c v o n views book → length book < most_events → LegalAtomKind c book a d → is_swap d ≡ false
    → Marked true a (suc (length book)) views vs → more ≡ book ++ event_of a d ∷ [] → IsAtomKept c v o n vs more
atom_quiet c v o n views vs book more a d h lt l off marks is =
    subst (IsAtomKept c v o n vs) (sym is) (record {
      newest = h.newest ∙ sym (atom_last v book (event_of a d) ∙ ap (λ x. value_or x (atom_after v book (length book))) (no_value d off));
      since = λ p lt2. unswapped_more p book (event_of a d) off ∙ h.since p lt2;
      not_since = λ p le. unswapped_more p book (event_of a d) off ∙ h.not_since p le;
      all = λ b. actor_more true views vs book a d b marks (h.all b);
      legal = legal_more c book a d h.legal lt l;
    })

pub atom_swapped : (c : CellId) (v new value : Value) (o : Option Value) (n m : ℕ) (views vs : List ℕ) (book more : List Event) (a : ℕ) → IsAtomKept c v o n views book → length book < most_events
    → Marked true a (suc (length book)) views vs → more ≡ book ++ event_of a (Swap new) ∷ [] → value ≡ new → m ≡ suc (length book) → IsAtomKept c v (Some value) m vs more
atom_swapped c v new value o n m views vs book more a h lt marks is same many =
    let e = event_of a (Swap new) in
    let size = length-append book (e ∷ []) in
    subst (IsAtomKept c v (Some value) m vs) (sym is) (record {
      newest = same ∙ sym (atom_last v book e);
      since = λ p lt2. swapped_more p book e refl (omega (arith, lt2, many));
      not_since = λ p le. swapped_end p (book ++ e ∷ []) (omega (arith, le, many, size));
      all = λ b. actor_more true views vs book a (Swap new) b marks (h.all b);
      legal = legal_more c book a (Swap new) h.legal lt tt;
    })

-- only where each actor stands matters
pub atom_stands : (c : CellId) (v : Value) (o : Option Value) (n : ℕ) (views vs : List ℕ) (book more : List Event) → StandAsBefore views vs → more ≡ book → IsAtomKept c v o n views book → IsAtomKept c v o n vs more
atom_stands c v o n views vs book more all is h =
    subst (IsAtomKept c v o n vs) (sym is) (record { newest = h.newest; since = h.since; not_since = h.not_since; all = λ a. subst (StandsAt true book a) (sym (all a)) (h.all a); legal = h.legal })

-- whether one that gives no value stands in the book or not
pub atom_pushed : {E : Type 0} (r : Result ℕ E) (c : CellId) (v : Value) (o : Option Value) (n : ℕ) (views vs : List ℕ) (book more : List Event) (a : ℕ) (d : EventKind) → IsAtomKept c v o n views book → length book < most_events → LegalAtomKind c book a d → is_swap d ≡ false
    → OnOk r (Marked true a (suc (length book)) views vs) → OnOk r (more ≡ book ++ event_of a d ∷ []) → OnErr r (StandAsBefore views vs) → OnErr r (more ≡ book) → IsAtomKept c v o n vs more
atom_pushed (Ok m) c v o n views vs book more a d h lt l off marks is as_before same = atom_quiet c v o n views vs book more a d h lt l off marks is
atom_pushed (Err e) c v o n views vs book more a d h lt l off marks is as_before same = atom_stands c v o n views vs book more as_before same h

-- the atom with one more event
pub atom_stored : (s : PlainAtom) (c : CellId) (v : Value) (book more : List Event) (e : Event) → atom_of c v book ≡ s → more ≡ book ++ e ∷ [] → atom_of c v more ≡ atom_with s (s.book ++ e ∷ [])
atom_stored s c v book more e is added = subst (λ (u : PlainAtom). atom_of c v more ≡ atom_with u (u.book ++ e ∷ [])) is (ap (atom_of c v) added)

-- ---- laws

pub atom_front : (v : Value) (es fs : List Event) (k : ℕ) → k ≤ length es → atom_after v (es ++ fs) k ≡ atom_after v es k
atom_front v [] [] k le = refl
atom_front v [] (f ∷ fs) zero le = refl
atom_front v [] (f ∷ fs) (suc k) le = absurd (omega (arith, le))
atom_front v (e ∷ es) fs zero le = refl
atom_front v (e ∷ es) fs (suc k) le = atom_front (value_or (swapped_to e.kind) v) es fs k (omega (arith, le))

atom_none : (v : Value) (es : List Event) → atom_after v es 0 ≡ v
atom_none v [] = refl
atom_none v (e ∷ es) = refl

pub atom_unswapped : (v : Value) (es : List Event) (p : ℕ) → swapped_since p es ≡ false → atom_after v es (length es) ≡ atom_after v es p
atom_unswapped v [] p h = refl
atom_unswapped v (e ∷ es) zero h =
    let n = neither (is_swap e.kind) (swapped_since zero es) h in
    atom_unswapped (value_or (swapped_to e.kind) v) es zero n.1 ∙ atom_none (value_or (swapped_to e.kind) v) es ∙ ap (λ o. value_or o v) (no_value e.kind n.0)
atom_unswapped v (e ∷ es) (suc p) h = atom_unswapped (value_or (swapped_to e.kind) v) es p h

atom_adds : (c : CellId) (book : List Event) (a : ℕ) (d : EventKind) (r : Reply) → LegalAtom c book → LegalAtomKind c book a d → LegalAtom c (adds a d r book).book
atom_adds c book a d r h l = go (nat_lt (length book) most_events) refl
  where
    go : (b : Bool) → nat_lt (length book) most_events ≡ b → LegalAtom c (if b then served r (book ++ event_of a d ∷ []) else served reply.Full book).book
    go true e = legal_more c book a d h (ltb-true (length book) most_events e) l
    go false e = h

atom_closes : (c : CellId) (b : Bool) (a : ℕ) (new : Value) (book : List Event) → LegalAtom c book → LegalAtom c (closes_at b a c new book).book
atom_closes c true a new book h = h
atom_closes c false a new book h = atom_adds c book a (Swap new) reply.Done h tt

pub atom_serves : (c : CellId) (v : Value) (a : ℕ) (q : Ask) (book : List Event) → is_lawful_atom c a q book ≡ true → LegalAtom c book → LegalAtom c (serve_atom c v a q book).book
atom_serves c v a (ask.Peek d) book l h = atom_adds c book a (Read c) _ h refl
atom_serves c v a (ask.OpenAt d) book l h = h
atom_serves c v a (ask.CloseAt d None new) book l h = atom_closes c false a new book h
atom_serves c v a (ask.CloseAt d (Some p) new) book l h = atom_closes c (swapped_since p book) a new book h
atom_serves c v a (ask.Broke d p) book l h = atom_adds c book a (Broke p) _ h (both (d.number == c.number) (may_name true book a p) l).1
atom_serves c v a ask.Begin book l h = h
atom_serves c v a (ask.Look d p) book l h = h
atom_serves c v a (ask.View cs) book l h = h
atom_serves c v a (ask.Commit p sets ensured q commuted sends) book l h = h
atom_serves c v a (ask.Fail p q) book l h = h
atom_serves c v a (ask.Send x) book l h = h
atom_serves c v a (ask.Take g) book l h = h
atom_serves c v a (ask.Finish g new sends) book l h = h
