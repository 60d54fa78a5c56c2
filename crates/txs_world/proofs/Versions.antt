-- What a slot keeps tells what its cell had.
use Rattle.std.proofs.Common.{◌≡◌, ◌<◌, ◌≤◌, ◌+◌, ◌-◌, ℕ, zero, suc, Bool, true, false, nat_lt, nat_le, List, [], ◌∷◌, ◌++◌, length, take, drop, Option, Some, None, refl, sym, ap, subst, ◌∙◌, arith, append_assoc, length-append, if◌then◌else◌}
use Rattle.std.specs.Prelude.{slice_get}
use Rattle.std.proofs.lemmas.Bool.{ltb-true, false≢true}
use Rattle.std.proofs.lemmas.Bool.Decides.{nat_tests}
use Rattle.std.proofs.lemmas.List.{drop-append-le, drop-drop, drop_at, length-drop, take-append-drop}
use Rattle.circular_buffer.specs.Buffer.{keep_last, last_item}
use Rattle.txs_world_protocol.specs.Ask.{buffered}
use Rattle.txs_value_cell.specs.Cells.{World}
use Rattle.txs_value_data.specs.declared.value.Value.{Value}
use Rattle.txs_world_protocol.specs.declared.event.Event.{Event}
use Rattle.txs_world_book.specs.Book.{value_or, changed, after, newest, is_there, writes_of, written, times_written, is_outdated}
use Rattle.txs_world_book.proofs.Older.{times_unwritten, times_some, times_end}
use Rattle.txs_world.specs.Kept.{version, with_version, versions_from, versions, most_versions, slot_of, IsSlot, or_earlier, version_at, kept_at, put_version}
use Rattle.txs_world.specs.declared.slot.Slot.{Slot}
use Rattle.txs_world.specs.declared.slot.Version.{Version}

-- ---- the last items of a list

-- those of a list whose last items alone are kept
pub keep_again : {A : Type 0} (m : ℕ) (xs : List A) (x : A) → keep_last m (keep_last m xs ++ x ∷ []) ≡ keep_last m (xs ++ x ∷ [])
keep_again m xs x =
    let d = length xs - m in
    let le : d ≤ length xs = omega arith in
    let one = length-append xs (x ∷ []) in
    let left = length-drop d (xs ++ x ∷ []) in
    let sum : d + (length (drop d (xs ++ x ∷ [])) - m) ≡ length (xs ++ x ∷ []) - m = omega (arith, one, left) in
    ap (keep_last m) (sym (drop-append-le d xs (x ∷ []) le))
    ∙ drop-drop (length (drop d (xs ++ x ∷ [])) - m) d (xs ++ x ∷ [])
    ∙ ap (λ n. drop n (xs ++ x ∷ [])) sum

-- the last ones that are kept, where they are few
pub keep_few : {A : Type 0} (m : ℕ) (xs ys : List A) → length ys ≤ m → keep_last m (xs ++ ys) ≡ drop (length xs + length ys - m) xs ++ ys
keep_few m xs ys le =
    let all = length-append xs ys in
    let front : length xs + length ys - m ≤ length xs = omega (arith, le) in
    ap (λ n. drop (n - m) (xs ++ ys)) all ∙ drop-append-le (length xs + length ys - m) xs ys front

-- where they are many
pub keep_many : {A : Type 0} (m : ℕ) (xs ys : List A) → m ≤ length ys → keep_last m (xs ++ ys) ≡ drop (length ys - m) ys
keep_many m xs ys le =
    let all = length-append xs ys in
    let sum : length (xs ++ ys) - m ≡ length xs + (length ys - m) = omega (arith, all, le) in
    ap (λ n. drop n (xs ++ ys)) sum
    ∙ sym (drop-drop (length ys - m) (length xs) (xs ++ ys))
    ∙ ap (drop (length ys - m)) (drop_at xs ys (length xs) refl)

last_of : {A : Type 0} (xs : List A) (x : A) → last_item (xs ++ x ∷ []) ≡ Some x
last_of {A = A} xs x =
    let n : length (xs ++ x ∷ []) - 1 ≡ length xs = omega (arith, length-append xs (x ∷ [])) in
    ap (slice_get (xs ++ x ∷ [])) n ∙ go xs
  where
    go : (ys : List A) → slice_get (ys ++ x ∷ []) (length ys) ≡ Some x
    go [] = refl
    go (y ∷ ys) = go ys

-- ---- the version that the first events made

-- each of these versions is of a later event
abbrev pub AreLater : ℕ → List Version → Type 0
AreLater p [] = Unit {0}
AreLater p (x ∷ xs) = (p < x.written) × AreLater p xs

later_none : (p : ℕ) (xs : List Version) → AreLater p xs → version_at p xs ≡ None
later_none p [] h = refl
later_none p (x ∷ xs) h = ap (λ o. or_earlier o (if nat_le x.written p then Some x.value else None)) (later_none p xs h.1) ∙ ap (λ b. if b then Some x.value else None) (too_late (nat_le x.written p) refl)
  where
    too_late : (b : Bool) → nat_le x.written p ≡ b → b ≡ false
    too_late true e = absurd (let lt = h.0 in grind (arith, nat_tests, e, lt))
    too_late false e = refl

later_drop : (p n : ℕ) (xs : List Version) → AreLater p xs → AreLater p (drop n xs)
later_drop p zero xs h = h
later_drop p (suc n) [] h = h
later_drop p (suc n) (x ∷ xs) h = later_drop p n xs h.1

pub at_behind : (p : ℕ) (xs ys : List Version) (v : Value) → version_at p ys ≡ Some v → version_at p (xs ++ ys) ≡ Some v
at_behind p [] ys v e = e
at_behind p (x ∷ xs) ys v e = ap (λ o. or_earlier o (if nat_le x.written p then Some x.value else None)) (at_behind p xs ys v e)

at_first : (p : ℕ) (x : Version) (xs : List Version) → x.written ≤ p → AreLater p xs → version_at p (x ∷ xs) ≡ Some x.value
at_first p x xs le h =
    let early : nat_le x.written p ≡ true = grind (arith, nat_tests, le) in
    ap (λ o. or_earlier o (if nat_le x.written p then Some x.value else None)) (later_none p xs h) ∙ ap (λ b. if b then Some x.value else None) early

-- these versions are some, then the one that the first p events made, which has this value, then so many later ones
pub record Split (xs : List Version) (p : ℕ) (v : Value) (n : ℕ) : Type 0 where
  pub front : List Version
  pub mid : Version
  pub back : List Version
  pub is : xs ≡ front ++ mid ∷ back
  pub value : mid.value ≡ v
  pub early : mid.written ≤ p
  pub later : AreLater p back
  pub many : length back ≡ n

from_later : (k n : ℕ) (es : List Event) → AreLater n (versions_from k n es)
from_later k n [] = tt
from_later k n (e ∷ es) = go (buffered (writes_of e.kind) k) (weaker (versions_from k (suc n) es) (from_later k (suc n) es))
  where
    weaker : (xs : List Version) → AreLater (suc n) xs → AreLater n xs
    weaker [] h = h
    weaker (x ∷ xs) h = (let lt = h.0 in omega (arith, lt), weaker xs h.1)

    go : (o : Option Value) → AreLater n (versions_from k (suc n) es) → AreLater n (with_version o (suc n) (versions_from k (suc n) es))
    go None h = h
    go (Some v) h = (omega arith, h)

from_many : (k n : ℕ) (es : List Event) → length (versions_from k n es) ≡ times_written k 0 es
from_many k n [] = refl
from_many k n (e ∷ es) = go (buffered (writes_of e.kind) k) (from_many k (suc n) es)
  where
    go : (o : Option Value) → length (versions_from k (suc n) es) ≡ times_written k 0 es
        → length (with_version o (suc n) (versions_from k (suc n) es)) ≡ (if is_there o then suc (times_written k 0 es) else times_written k 0 es)
    go None h = h
    go (Some v) h = ap suc h

split_from : (k n p q : ℕ) (w : World) (es : List Event) (x : Version) → q ≡ n + p → x.value ≡ w k → x.written ≤ n → Split (x ∷ versions_from k n es) q (after w es p k) (times_written k p es)
split_from k n p q w [] x sum v le = record { front = []; mid = x; back = []; is = refl; value = v; early = omega (arith, sum, le); later = tt; many = refl }
split_from k n zero q w (e ∷ es) x sum v le =
    let same : n ≡ q = omega (arith, sum) in
    record { front = []; mid = x; back = versions_from k n (e ∷ es); is = refl; value = v; early = omega (arith, sum, le); later = subst (λ m. AreLater m (versions_from k n (e ∷ es))) same (from_later k n (e ∷ es)); many = from_many k n (e ∷ es) }
split_from k n (suc p) q w (e ∷ es) x sum v le =
    go (buffered (writes_of e.kind) k) refl (λ y u less. split_from k (suc n) p q (changed e.kind w) es y (omega (arith, sum)) u less)
  where
    go : (o : Option Value) → buffered (writes_of e.kind) k ≡ o
        → ((y : Version) → y.value ≡ changed e.kind w k → y.written ≤ suc n → Split (y ∷ versions_from k (suc n) es) q (after (changed e.kind w) es p k) (times_written k p es))
        → Split (x ∷ with_version o (suc n) (versions_from k (suc n) es)) q (after (changed e.kind w) es p k) (times_written k p es)
    go None is rest = rest x (v ∙ sym (ap (λ o. value_or o (w k)) is)) (omega (arith, le))
    go (Some u) is rest =
        let s = rest (version u (suc n)) (sym (ap (λ o. value_or o (w k)) is)) (omega arith) in
        record { front = x ∷ s.front; mid = s.mid; back = s.back; is = ap (λ l. x ∷ l) s.is; value = s.value; early = s.early; later = s.later; many = s.many }

-- all that a cell had, told by a place
pub split : (w : World) (book : List Event) (k p : ℕ) → Split (versions w book k) p (after w book p k) (times_written k p book)
split w book k p = split_from k 0 p p w book (version (w k) 0) (omega arith) refl (omega arith)

-- ---- one more event

from_more : (k n : ℕ) (es : List Event) (e : Event) → versions_from k n (es ++ e ∷ []) ≡ versions_from k n es ++ with_version (buffered (writes_of e.kind) k) (suc (n + length es)) []
from_more k n [] e = let m : n ≡ n + 0 = omega arith in ap (λ i. with_version (buffered (writes_of e.kind) k) (suc i) []) m
from_more k n (d ∷ es) e =
    let m : suc n + length es ≡ n + length (d ∷ es) = omega arith in
    ap (with_version (buffered (writes_of d.kind) k) (suc n)) (from_more k (suc n) es e ∙ ap (λ i. versions_from k (suc n) es ++ with_version (buffered (writes_of e.kind) k) (suc i) []) m)
    ∙ go (buffered (writes_of d.kind) k) (with_version (buffered (writes_of e.kind) k) (suc (n + length (d ∷ es))) [])
  where
    go : (o : Option Value) (ys : List Version) → with_version o (suc n) (versions_from k (suc n) es ++ ys) ≡ with_version o (suc n) (versions_from k (suc n) es) ++ ys
    go None ys = refl
    go (Some v) ys = refl

append_none : (xs : List Version) → xs ++ [] ≡ xs
append_none [] = refl
append_none (x ∷ xs) = ap (λ l. x ∷ l) (append_none xs)

versions_more : (w : World) (es : List Event) (e : Event) (k : ℕ) → versions w (es ++ e ∷ []) k ≡ versions w es k ++ with_version (buffered (writes_of e.kind) k) (suc (length es)) []
versions_more w es e k =
    let none : 0 + length es ≡ length es = omega arith in
    ap (λ l. version (w k) 0 ∷ l) (from_more k 0 es e ∙ ap (λ n. versions_from k 0 es ++ with_version (buffered (writes_of e.kind) k) (suc n) []) none)

-- a slot after an event that doesn't write its cell
pub slot_same : (w : World) (es : List Event) (e : Event) (k : ℕ) (s : Slot) → buffered (writes_of e.kind) k ≡ None → IsSlot w es k s → IsSlot w (es ++ e ∷ []) k s
slot_same w es e k s off h =
    let same = versions_more w es e k ∙ ap (λ o. versions w es k ++ with_version o (suc (length es)) []) off ∙ append_none (versions w es k) in
    record { is = h.is ∙ ap (λ l. slot_of (keep_last most_versions l)) (sym same) }

-- after one that does
pub slot_put : (w : World) (es : List Event) (e : Event) (k : ℕ) (v : Value) (s : Slot) → buffered (writes_of e.kind) k ≡ Some v → IsSlot w es k s → IsSlot w (es ++ e ∷ []) k (put_version v (suc (length es)) s)
slot_put w es e k v s on h =
    let n = suc (length es) in
    let more = versions_more w es e k ∙ ap (λ o. versions w es k ++ with_version o n []) on in
    record { is = ap (put_version v n) h.is ∙ ap slot_of (keep_again most_versions (versions w es k) (version v n) ∙ ap (keep_last most_versions) (sym more)) }

-- ---- what a slot tells

-- the newest version
pub record Newest (w : World) (book : List Event) (k : ℕ) (xs : List Version) : Type 0 where
  pub mid : Version
  pub last : last_item xs ≡ Some mid
  pub value : mid.value ≡ newest w book k
  pub since : (p : ℕ) → p < mid.written → written k p book ≡ true
  pub not_since : (p : ℕ) → mid.written ≤ p → written k p book ≡ false

-- the last of these, or the one before them
abbrev last_or : Version → List Version → Version
last_or d [] = d
last_or d (x ∷ xs) = last_or x xs

last_behind : (d y : Version) (xs ys : List Version) → last_or d (xs ++ y ∷ ys) ≡ last_or y ys
last_behind d y [] ys = refl
last_behind d y (x ∷ xs) ys = last_behind x y xs ys

last_later : (p : ℕ) (d : Version) (ys : List Version) → AreLater p ys → 0 < length ys → p < (last_or d ys).written
last_later p d [] h lt = absurd (omega (arith, lt))
last_later p d (y ∷ []) h lt = h.0
last_later p d (y ∷ z ∷ ys) h lt = last_later p y (z ∷ ys) h.1 (omega arith)

last_none : (d : Version) (ys : List Version) → length ys ≡ 0 → last_or d ys ≡ d
last_none d [] e = refl
last_none d (y ∷ ys) e = absurd (omega (arith, e))

alone : (x : Version) (ys : List Version) → length ys ≡ 0 → x ∷ ys ≡ x ∷ []
alone x [] e = refl
alone x (y ∷ ys) e = absurd (omega (arith, e))

pub newest_kept : (w : World) (book : List Event) (k : ℕ) (s : Slot) → IsSlot w book k s → Newest w book k s.ring.items
newest_kept w book k s h =
    record {
      mid = e.mid;
      last = ap (λ (t : Slot). last_item t.ring.items) h.is ∙ ap (λ l. last_item (keep_last most_versions l)) all ∙ ap last_item (keep_few most_versions e.front (e.mid ∷ []) few) ∙ last_of (drop (length e.front + 1 - most_versions) e.front) e.mid;
      value = e.value;
      since = λ p lt. written_so p (written k p book) refl lt;
      not_since = λ p le. unwritten_so p (written k p book) refl le;
    }
  where
    e : Split (versions w book k) (length book) (after w book (length book) k) (times_written k (length book) book)
    e = split w book k (length book)

    all : versions w book k ≡ e.front ++ e.mid ∷ []
    all = e.is ∙ ap (λ l. e.front ++ l) (alone e.mid e.back (e.many ∙ times_end k (length book) book (omega arith)))

    few : 1 ≤ most_versions
    few = omega arith

    same : (p : ℕ) → e.mid ≡ last_or (split w book k p).mid (split w book k p).back
    same p =
        let t = split w book k p in
        sym (last_behind e.mid e.mid e.front []) ∙ sym (ap (last_or e.mid) all) ∙ ap (last_or e.mid) t.is ∙ last_behind e.mid t.mid t.front t.back

    late : (p : ℕ) → written k p book ≡ true → p < e.mid.written
    late p on =
        let t = split w book k p in
        let some = times_some k p book on in
        let many = t.many in
        subst (λ (x : Version). p < x.written) (sym (same p)) (last_later p t.mid t.back t.later (omega (arith, some, many)))

    early : (p : ℕ) → written k p book ≡ false → e.mid.written ≤ p
    early p off =
        let t = split w book k p in
        subst (λ (x : Version). x.written ≤ p) (sym (same p ∙ last_none t.mid t.back (t.many ∙ times_unwritten k p book off))) t.early

    written_so : (p : ℕ) (b : Bool) → written k p book ≡ b → p < e.mid.written → b ≡ true
    written_so p true q lt = refl
    written_so p false q lt = absurd (let le = early p q in omega (arith, le, lt))

    unwritten_so : (p : ℕ) (b : Bool) → written k p book ≡ b → e.mid.written ≤ p → b ≡ false
    unwritten_so p true q le = absurd (let lt = late p q in omega (arith, le, lt))
    unwritten_so p false q le = refl

-- the value that the first events made, if it is still kept
pub kept_value : (w : World) (book : List Event) (k p : ℕ) (s : Slot) → IsSlot w book k s → version_at p s.ring.items ≡ kept_at w k p book
kept_value w book k p s h = ap (λ (t : Slot). version_at p t.ring.items) h.is ∙ ap (λ l. version_at p (keep_last most_versions l)) e.is ∙ go (is_outdated k p book) refl
  where
    e : Split (versions w book k) p (after w book p k) (times_written k p book)
    e = split w book k p

    go : (b : Bool) → is_outdated k p book ≡ b → version_at p (keep_last most_versions (e.front ++ e.mid ∷ e.back)) ≡ (if b then None else Some (after w book p k))
    go true q =
        let lt : 10 < times_written k p book = ltb-true 10 (times_written k p book) q in
        let m = e.many in
        let many : most_versions ≤ length e.back = omega (arith, lt, m) in
        ap (λ l. version_at p (keep_last most_versions l)) (sym (append_assoc e.front (e.mid ∷ []) e.back))
        ∙ ap (version_at p) (keep_many most_versions (e.front ++ e.mid ∷ []) e.back many)
        ∙ later_none p (drop (length e.back - most_versions) e.back) (later_drop p (length e.back - most_versions) e.back e.later)
    go false q =
        let le : times_written k p book ≤ 10 = few (times_written k p book) q in
        let m = e.many in
        let few_more : length (e.mid ∷ e.back) ≤ most_versions = omega (arith, le, m) in
        ap (version_at p) (keep_few most_versions e.front (e.mid ∷ e.back) few_more)
        ∙ at_behind p (drop (length e.front + length (e.mid ∷ e.back) - most_versions) e.front) (e.mid ∷ e.back) e.mid.value (at_first p e.mid e.back e.early e.later)
        ∙ ap Some e.value
      where
        few : (n : ℕ) → nat_lt 10 n ≡ false → n ≤ 10
        few n r = grind (arith, nat_tests, r)

-- a slot keeps a version at least
pub some_kept : (w : World) (book : List Event) (k : ℕ) (s : Slot) → IsSlot w book k s → 0 < length s.ring.items
some_kept w book k s h = there s.ring.items (newest_kept w book k s h).mid (newest_kept w book k s h).last
  where
    there : (xs : List Version) (x : Version) → last_item xs ≡ Some x → 0 < length xs
    there [] x e = absurd (false≢true (ap is_there e))
    there (y ∷ xs) x e = omega arith

-- ---- a look through a slot

-- the versions from a place on
at_step : (xs : List Version) (i : ℕ) (x : Version) → slice_get xs i ≡ Some x → drop i xs ≡ x ∷ drop (suc i) xs
at_step [] i x e = absurd (false≢true (ap is_there e))
at_step (y ∷ xs) zero x e = ap (λ o. first_of o y ∷ xs) e
  where
    first_of : Option Version → Version → Version
    first_of None z = z
    first_of (Some z) u = z
at_step (y ∷ xs) (suc i) x e = at_step xs i x e

at_place : (i : ℕ) (xs : List Version) (x : Version) (o : Option Version) → i < length xs → o ≡ Some x → o ≡ (if nat_lt i (length xs) then slice_get xs (length xs - i - 1) else None) → drop (length xs - (i + 1)) xs ≡ x ∷ drop (length xs - i) xs
at_place i xs x o lt some is =
    let inside : nat_lt i (length xs) ≡ true = grind (arith, nat_tests, lt) in
    let here = ap (λ b. if b then slice_get xs (length xs - i - 1) else None) (sym inside) ∙ sym is ∙ some in
    let m : length xs - (i + 1) ≡ length xs - i - 1 = omega arith in
    let n : suc (length xs - i - 1) ≡ length xs - i = omega (arith, lt) in
    ap (λ k. drop k xs) m ∙ at_step xs (length xs - i - 1) x here ∙ ap (λ k. x ∷ drop k xs) n

-- a version that the first events made, behind which there is none
pub at_found : (p i : ℕ) (xs : List Version) (x : Version) (o : Option Version) → i < length xs → o ≡ Some x → o ≡ (if nat_lt i (length xs) then slice_get xs (length xs - i - 1) else None) → version_at p (drop (length xs - i) xs) ≡ None
    → x.written ≤ p → Some x.value ≡ version_at p xs
at_found p i xs x o lt some is none le =
    let j = length xs - (i + 1) in
    let early : nat_le x.written p ≡ true = grind (arith, nat_tests, le) in
    let here : version_at p (drop j xs) ≡ Some x.value =
    ap (version_at p) (at_place i xs x o lt some is) ∙ ap (λ v. or_earlier v (if nat_le x.written p then Some x.value else None)) none ∙ ap (λ b. if b then Some x.value else None) early in
    sym (ap (version_at p) (sym (take-append-drop j xs)) ∙ at_behind p (take j xs) (drop j xs) x.value here)

-- one that they didn't make
pub at_passed : (p i : ℕ) (xs : List Version) (x : Version) (o : Option Version) → i < length xs → o ≡ Some x → o ≡ (if nat_lt i (length xs) then slice_get xs (length xs - i - 1) else None) → version_at p (drop (length xs - i) xs) ≡ None
    → p < x.written → version_at p (drop (length xs - (i + 1)) xs) ≡ None
at_passed p i xs x o lt some is none late =
    let off : nat_le x.written p ≡ false = grind (arith, nat_tests, late) in
    ap (version_at p) (at_place i xs x o lt some is) ∙ ap (λ v. or_earlier v (if nat_le x.written p then Some x.value else None)) none ∙ ap (λ b. if b then Some x.value else None) off
