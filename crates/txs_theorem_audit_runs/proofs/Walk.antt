-- Going along a trace as its links do: what holds of each event there, and of what is behind the last one.
use Rattle.std.proofs.Common.{◌≡◌, ◌<◌, ℕ, zero, suc, Bool, true, false, nat_lt, List, [], ◌∷◌, ◌++◌, length, Option, Some, None, if◌then◌else◌, refl, sym, ap, subst}
use Rattle.txs_value_data.specs.Places.{nth}
use Rattle.txs_world_protocol.specs.declared.event.Event.{Event}
use Rattle.txs_world_protocol.specs.declared.event.EventKind.{EventKind}
use Rattle.txs_world_book.specs.Book.{is_redo}
use Rattle.txs_theorem_runs.specs.Told.{Place}
use Rattle.txs_theorem_serial.specs.Order.{Link, in_book_order, links_to, links_between, point_of, next_event, links_of, is_over, acts_behind, behind_event, event_links, trace_links}
use Rattle.txs_theorem_audit_runs.proofs.Times.{Time, Before, AllBefore, IsPast, AllPast, AreKept, all_kept}

-- ---- what holds along a trace

-- the places are before what the book has at a read point, if there is one
abbrev pub PointHolds : Time → List Place → ℕ → Option ℕ → Type 0
PointHolds time behind b None = Unit {0}
PointHolds time behind b (Some k) = AllBefore time behind (record { book = b; at = k })

-- an agent's action was sent; a thread is sent none
abbrev pub IsSent : Bool → List Place → Type 0
IsSent false ps = Unit {0}
IsSent true [] = ⊥
IsSent true (p ∷ ps) = Unit {0}

-- behind an event, with so many actions over before it, which stands behind these: where the walk goes on
abbrev pub EventHolds : Time → Bool → (ℕ → List Place) → ℕ → List Place → List Place → Place → Option Event → (ℕ → List Place → List Place → Type 0) → Type 0
EventHolds time agent sender j last behind q None go = ⊥
EventHolds time agent sender j last behind q (Some e) go =
    AllBefore time last q × AllBefore time behind q × PointHolds time behind q.book (point_of e.kind) × IsSent agent (sender j)
    × go (acts_behind j e.kind) (q ∷ []) (behind_event sender j behind q e.kind)

-- each event of a trace came after what it had to come after, and this holds at the trace's end
abbrev pub Along : (ℕ → List Event) → Time → Bool → (ℕ → List Place) → (ℕ → List Place → List Place → Type 0) → ℕ → List Place → List Place → List Place → Type 0
Along books time agent sender End j last behind [] = End j last behind
Along books time agent sender End j last behind (q ∷ qs) =
    EventHolds time agent sender j last behind q (nth (books q.book) q.at) (λ j1 last1 behind1. Along books time agent sender End j1 last1 behind1 qs)

-- ---- links

-- each of these links is from a lesser time to a greater one
abbrev pub AllLinked : Time → List Link → Type 0
AllLinked time [] = Unit {0}
AllLinked time (l ∷ ls) = Before time l.earlier l.later × AllLinked time ls

pub linked_append : (time : Time) (ls ms : List Link) → AllLinked time ls → AllLinked time ms → AllLinked time (ls ++ ms)
linked_append time [] ms h k = k
linked_append time (l ∷ ls) ms h k = (h.0, linked_append time ls ms h.1 k)

abbrev link_or : Link → Option Link → Link
link_or l None = l
link_or l (Some m) = m

abbrev is_some : {A : Type 0} → Option A → Type 0
is_some None = ⊥
is_some (Some x) = Unit {0}

pub linked_at : (time : Time) (ls : List Link) → AllLinked time ls → (i : ℕ) (l : Link) → nth ls i ≡ Some l → Before time l.earlier l.later
linked_at time [] h i l e = absurd (subst is_some (sym e) tt)
linked_at time (m ∷ ls) h zero l e = subst (λ (k : Link). Before time k.earlier k.later) (ap (link_or m) e) h.0
linked_at time (m ∷ ls) h (suc i) l e = linked_at time ls h.1 i l e

to_linked : (time : Time) (ps : List Place) (q : Place) → AllBefore time ps q → AllLinked time (links_to ps q)
to_linked time [] q h = tt
to_linked time (p ∷ ps) q h = go (in_book_order p q) (to_linked time ps q h.1)
  where
    go : (b : Bool) → AllLinked time (links_to ps q) → AllLinked time (if b then links_to ps q else record { earlier = p; later = q } ∷ links_to ps q)
    go true r = r
    go false r = (h.0, r)

next_linked : (time : Time) (behind : List Place) (b : ℕ) (book : List Event) (o : Option ℕ) → PointHolds time behind b o → AllLinked time (links_between behind (next_event b book o))
next_linked time behind b book None h = tt
next_linked time behind b book (Some k) h = go (nat_lt k (length book))
  where
    go : (c : Bool) → AllLinked time (links_between behind (if c then record { book = b; at = k } ∷ [] else []))
    go true = linked_append time (links_to behind (record { book = b; at = k })) [] (to_linked time behind (record { book = b; at = k }) h) tt
    go false = tt

-- so the links of the trace are
pub along_linked : (books : ℕ → List Event) (time : Time) (agent : Bool) (sender : ℕ → List Place) (End : ℕ → List Place → List Place → Type 0) (j : ℕ) (last behind qs : List Place)
    → Along books time agent sender End j last behind qs → AllLinked time (trace_links books sender j last behind qs)
along_linked books time agent sender End j last behind [] h = tt
along_linked books time agent sender End j last behind (q ∷ qs) h = go (nth (books q.book) q.at) h (λ j1 last1 behind1 k. along_linked books time agent sender End j1 last1 behind1 qs k)
  where
    go : (o : Option Event) → EventHolds time agent sender j last behind q o (λ j1 last1 behind1. Along books time agent sender End j1 last1 behind1 qs)
        → ((j1 : ℕ) (last1 behind1 : List Place) → Along books time agent sender End j1 last1 behind1 qs → AllLinked time (trace_links books sender j1 last1 behind1 qs))
        → AllLinked time (event_links books sender j last behind q o (λ j1 last1 behind1. trace_links books sender j1 last1 behind1 qs))
    go None k rest = absurd k
    go (Some e) k rest =
        linked_append time (links_of books last behind q e.kind) (trace_links books sender (acts_behind j e.kind) (q ∷ []) (behind_event sender j behind q e.kind) qs)
        (linked_append time (links_to last q) (links_to behind q ++ links_between behind (next_event q.book (books q.book) (point_of e.kind))) (to_linked time last q k.0)
        (linked_append time (links_to behind q) (links_between behind (next_event q.book (books q.book) (point_of e.kind))) (to_linked time behind q k.1)
        (next_linked time behind q.book (books q.book) (point_of e.kind) k.2)))
        (rest (acts_behind j e.kind) (q ∷ []) (behind_event sender j behind q e.kind) k.4)

-- ---- one more event in the trace

pub along_more : (books : ℕ → List Event) (time : Time) (agent : Bool) (sender : ℕ → List Place) (End : ℕ → List Place → List Place → Type 0) (q : Place) (j : ℕ) (last behind qs : List Place)
    → Along books time agent sender (λ j1 last1 behind1. EventHolds time agent sender j1 last1 behind1 q (nth (books q.book) q.at) End) j last behind qs
    → Along books time agent sender End j last behind (qs ++ q ∷ [])
along_more books time agent sender End q j last behind [] h = h
along_more books time agent sender End q j last behind (p ∷ qs) h = go (nth (books p.book) p.at) h (λ j1 last1 behind1 k. along_more books time agent sender End q j1 last1 behind1 qs k)
  where
    go : {Reaches Goes : ℕ → List Place → List Place → Type 0} → (o : Option Event) → EventHolds time agent sender j last behind p o Reaches
        → ((j1 : ℕ) (last1 behind1 : List Place) → Reaches j1 last1 behind1 → Goes j1 last1 behind1) → EventHolds time agent sender j last behind p o Goes
    go None k rest = absurd k
    go (Some e) k rest = (k.0, k.1, k.2, k.3, rest (acts_behind j e.kind) (p ∷ []) (behind_event sender j behind p e.kind) k.4)

-- ---- the books go on

-- the places where something is
abbrev pub IsThere : (ℕ → List Event) → Place → Type 0
IsThere books p = p.at < length (books p.book)

-- what an actor may take of two states of the books, one later than the other
pub record GoesOn (books later : ℕ → List Event) (time next : Time) (now : ℕ) (agent : Bool) (sender sent : ℕ → List Place) : Type 0 where
  -- the events stay
  pub stays : (p : Place) (e : Event) → nth (books p.book) p.at ≡ Some e → nth (later p.book) p.at ≡ Some e
  pub kept : AreKept time next
  -- what is there is past
  pub past : (p : Place) (e : Event) → nth (later p.book) p.at ≡ Some e → IsPast next now p
  -- who sent an action stays
  pub senders : (j : ℕ) → IsSent agent (sender j) → sent j ≡ sender j
  pub sent_past : (j : ℕ) → AllPast next now (sent j)

point_kept : (time next : Time) → AreKept time next → (behind : List Place) (b : ℕ) (o : Option ℕ) → PointHolds time behind b o → PointHolds next behind b o
point_kept time next kept behind b None h = tt
point_kept time next kept behind b (Some k) h = all_kept time next kept behind (record { book = b; at = k }) h

-- where an actor is behind an event, in the later state: behind the same, if its next action was sent
after_event : (agent : Bool) (sender sent : ℕ → List Place) (j : ℕ) (behind now_behind : List Place) (q : Place) (kind : EventKind) → ((i : ℕ) → IsSent agent (sender i) → sent i ≡ sender i) → now_behind ≡ behind
    → IsSent agent (sender (acts_behind j kind)) → behind_event sent j now_behind q kind ≡ behind_event sender j behind q kind
after_event agent sender sent j behind now_behind q kind senders same = go (is_redo kind) (is_over kind)
  where
    go : (r o : Bool) → IsSent agent (sender (if o then suc j else j))
        → (if r then now_behind else q ∷ (if o then sent (suc j) else [])) ≡ (if r then behind else q ∷ (if o then sender (suc j) else []))
    go true o h = same
    go false true h = ap (λ ps. q ∷ ps) (senders (suc j) h)
    go false false h = refl

module _ (books later : ℕ → List Event) (time next : Time) (now : ℕ) (agent : Bool) (sender sent : ℕ → List Place) (g : GoesOn books later time next now agent sender sent) where
  pub past_after : (j : ℕ) (behind : List Place) (q : Place) (kind : EventKind) → IsPast next now q → AllPast next now behind → AllPast next now (behind_event sent j behind q kind)
  past_after j behind q kind here h = go (is_redo kind) (is_over kind)
    where
      go : (r o : Bool) → AllPast next now (if r then behind else q ∷ (if o then sent (suc j) else []))
      go true o = h
      go false true = (here, g.sent_past (suc j))
      go false false = (here, tt)

  -- What held along a trace holds along it in the later state. Behind what the actor is may have come what sent its next action, where that is sent since.
  pub along_later : (End Later : ℕ → List Place → List Place → Type 0)
      → ((j : ℕ) (last behind now_behind : List Place) → (IsSent agent (sender j) → now_behind ≡ behind) → AllPast next now now_behind → End j last behind → Later j last now_behind)
      → (j : ℕ) (last behind now_behind qs : List Place) → (IsSent agent (sender j) → now_behind ≡ behind) → AllPast next now now_behind
      → Along books time agent sender End j last behind qs → Along later next agent sent Later j last now_behind qs
  along_later End Later ends j last behind now_behind [] same past h = ends j last behind now_behind same past h
  along_later End Later ends j last behind now_behind (q ∷ qs) same past h =
      go (λ j1 last1 behind1. Along books time agent sender End j1 last1 behind1 qs) (λ j1 last1 behind1. Along later next agent sent Later j1 last1 behind1 qs)
      (nth (books q.book) q.at) refl h (λ j1 last1 behind1 now1 same1 past1 k. along_later End Later ends j1 last1 behind1 now1 qs same1 past1 k)
    where
      go : (Was Is : ℕ → List Place → List Place → Type 0) → (o : Option Event) → nth (books q.book) q.at ≡ o → EventHolds time agent sender j last behind q o Was
          → ((j1 : ℕ) (last1 behind1 now1 : List Place) → (IsSent agent (sender j1) → now1 ≡ behind1) → AllPast next now now1 → Was j1 last1 behind1 → Is j1 last1 now1)
          → EventHolds next agent sent j last now_behind q (nth (later q.book) q.at) Is
      go Was Is None e k rest = absurd k
      go Was Is (Some x) e k rest = subst (λ o. EventHolds next agent sent j last now_behind q o Is) (sym (g.stays q x e)) (
        all_kept time next g.kept last q k.0,
        subst (λ ps. AllBefore next ps q) (sym (same k.3)) (all_kept time next g.kept behind q k.1),
        subst (λ ps. PointHolds next ps q.book (point_of x.kind)) (sym (same k.3)) (point_kept time next g.kept behind q.book (point_of x.kind) k.2),
        subst (IsSent agent) (sym (g.senders j k.3)) k.3,
        rest (acts_behind j x.kind) (q ∷ []) (behind_event sender j behind q x.kind) (behind_event sent j now_behind q x.kind)
            (after_event agent sender sent j behind now_behind q x.kind g.senders (same k.3)) (past_after j now_behind q x.kind (g.past q x (g.stays q x e)) past) k.4,
      )

-- where something holds at the end that says another, so does that
pub along_ends : (books : ℕ → List Event) (time : Time) (agent : Bool) (sender : ℕ → List Place) (End Other : ℕ → List Place → List Place → Type 0) → ((j : ℕ) (last behind : List Place) → End j last behind → Other j last behind)
    → (j : ℕ) (last behind qs : List Place) → Along books time agent sender End j last behind qs → Along books time agent sender Other j last behind qs
along_ends books time agent sender End Other ends j last behind [] h = ends j last behind h
along_ends books time agent sender End Other ends j last behind (p ∷ qs) h = go (nth (books p.book) p.at) h (λ j1 last1 behind1 k. along_ends books time agent sender End Other ends j1 last1 behind1 qs k)
  where
    go : {Was Is : ℕ → List Place → List Place → Type 0} → (o : Option Event) → EventHolds time agent sender j last behind p o Was
        → ((j1 : ℕ) (last1 behind1 : List Place) → Was j1 last1 behind1 → Is j1 last1 behind1) → EventHolds time agent sender j last behind p o Is
    go None k rest = absurd k
    go (Some e) k rest = (k.0, k.1, k.2, k.3, rest (acts_behind j e.kind) (p ∷ []) (behind_event sender j behind p e.kind) k.4)
