-- A script has one reading, or stops at one place for one reason.
use Rattle.std.proofs.Common.{cond, ◌≡◌, ℕ, ◌+◌, ◌-◌, ◌≤◌, Bool, true, false, ltb, List, [], ◌∷◌, ◌++◌, Option, Some, None, Result, Ok, Err, length, refl, sym, ap, subst, ◌∙◌, append_assoc, arith}
use Rattle.std.proofs.lemmas.List.{append-nil, take_all}
use Rattle.std.proofs.lemmas.Bool.{false≢true}
use Rattle.std.proofs.lemmas.Bool.Decides.{nat_tests}
use Rattle.std.specs.Prelude.{IsUtf8}
use Rattle.std.specs.Str.{IsValidUpTo}
use Rattle.std.proofs.lemmas.Str.{utf8_valid_len-IsValidUpTo}
use Rattle.txs_value_data.specs.declared.fault.Span.{Span}
use Rattle.txs_reader.specs.declared.form.Bracket.{Bracket}
use Rattle.txs_reader.specs.declared.form.Bracket.TheVariants.{Round, Square}
use Rattle.txs_reader.specs.declared.error.ReadErrorKind.{ReadErrorKind}
use Rattle.txs_reader.specs.declared.error.ReadErrorKind.TheVariants.{TooLarge}
use Rattle.txs_reader.specs.Bytes.{begins_part, is_word_byte, meaning}
use Rattle.txs_reader.specs.Tree.{Leaf, PlainForm}
use Rattle.txs_reader.specs.Script.{Quoted, Piece, White, Comment, Opening, Closing, Word, closing_byte, written, IsWord, IsPiece, EndsAt, Splits, Token, between, token, tokens, Open, Holds, Reads, FitsLast, StandsLast, HasAll, IsFull, RefusesText, at_text_end, at_backslash, at_quote, Refuses, at_end, at_closing, at_full, at_opening, at_byte, at_text, at_word, StopsWithin, ReadStops, too_long, no_text, within}
use Rattle.txs_reader.proofs.Running.{State, run, run_none, run-append, run-holds, onto, same, fits, has_room, has_room_in}
use Rattle.txs_reader.proofs.Pieces.{class, class_of, rank, part_class, one_piece, one_run, piece_front, word_front, left_out_class, opening_class, quote_class, closing_class, closing_one}
use Rattle.txs_reader.specs.Quoted.{Part, part_text, part_value}
use Rattle.txs_reader.proofs.Texts.{one_text, quote_no_part}
use Rattle.std.specs.List.{flat_map}
use Rattle.txs_reader.proofs.Last.{FitsLast-push, IsFull-last}

-- ---- two splits of one text

-- the second goes on where the first ends
pub record GoesOn (ps : List Piece) (rest : List ℕ) (qs : List Piece) : Type 0 where
  pub next : Piece
  pub others : List Piece
  pub more : List ℕ
  pub longer : qs ≡ ps ++ next ∷ others
  pub front : rest ≡ written next ++ more
  pub is : IsPiece next
  pub ends : EndsAt next more

pub data Compared (ps : List Piece) (x : List ℕ) (qs : List Piece) (y : List ℕ) : Type 0 where
  alike : ps ≡ qs → x ≡ y → Compared ps x qs y
  shorter : GoesOn ps x qs → Compared ps x qs y
  longer : GoesOn qs y ps → Compared ps x qs y

compared_more : (p : Piece) (ps : List Piece) (x : List ℕ) (qs : List Piece) (y : List ℕ) → Compared ps x qs y → Compared (p ∷ ps) x (p ∷ qs) y
compared_more p ps x qs y (alike a b) = alike (ap (λ (rs : List Piece). p ∷ rs) a) b
compared_more p ps x qs y (shorter g) = shorter (record { next = g.next; others = g.others; more = g.more; longer = ap (λ (rs : List Piece). p ∷ rs) g.longer; front = g.front; is = g.is; ends = g.ends })
compared_more p ps x qs y (longer g) = longer (record { next = g.next; others = g.others; more = g.more; longer = ap (λ (rs : List Piece). p ∷ rs) g.longer; front = g.front; is = g.is; ends = g.ends })

pub compare : (bytes : List ℕ) (ps : List Piece) (x : List ℕ) (qs : List Piece) (y : List ℕ) → Splits bytes ps x → Splits bytes qs y → Compared ps x qs y
compare bytes [] x [] y s t = alike refl (sym s ∙ t)
compare bytes [] x (q ∷ qs) y s t = shorter (record { next = q; others = qs; more = t.0; longer = refl; front = sym s ∙ t.1; is = t.2; ends = t.3 })
compare bytes (p ∷ ps) x [] y s t = longer (record { next = p; others = ps; more = s.0; longer = refl; front = sym t ∙ s.1; is = s.2; ends = s.3 })
compare bytes (p ∷ ps) x (q ∷ qs) y s t =
    let one = one_piece p q s.0 t.0 (sym s.1 ∙ t.1) s.2 t.2 s.3 t.3 in
    let P : List ℕ → Type 0 = λ bs. Splits bs qs y in
    let Q : Piece → Type 0 = λ r. Compared (p ∷ ps) x (r ∷ qs) y in
    subst Q one.0 (compared_more p ps x qs y (compare s.0 ps x qs y s.4 (subst P (sym one.1) t.4)))

-- ---- what a state does with a token

abbrev start : Option State
start = Some (record { openings = []; forms = [] })

-- what the tokens up to the rest leave
holds_runs : (bytes : List ℕ) (os : List Open) (fs : List PlainForm) (rest : List ℕ) (h : Holds bytes os fs rest) → run (tokens 0 h.pieces) start ≡ Some (record { openings = onto os []; forms = fs })
holds_runs bytes os fs rest h = ap (λ (ts : List Token). run ts start) h.spells ∙ run-holds os fs [] h.limits tt

tokens-append : (at : ℕ) (ps qs : List Piece) → (n : ℕ) × (tokens at (ps ++ qs) ≡ tokens at ps ++ tokens n qs)
tokens-append at [] qs = (at, refl)
tokens-append at (p ∷ ps) qs =
    let r = tokens-append (at + length (written p)) ps qs in
    (r.0, ap (λ (ts : List Token). token at p ++ ts) r.1 ∙ sym (append_assoc (token at p) _ _))

some_none : (x : State) (o : Option State) → Some x ≡ o → o ≡ None → ⊥
some_none x o e f = absurd cc

-- a text that goes on is refused by no state that its next piece breaks
broken : (bytes : List ℕ) (os : List Open) (fs : List PlainForm) (rest : List ℕ) (h : Holds bytes os fs rest) (os' : List Open) (fs' : List PlainForm) (rest' : List ℕ) (k : Holds bytes os' fs' rest') (g : GoesOn h.pieces rest k.pieces) → ((at : ℕ) → run (token at g.next) (Some (record { openings = onto os []; forms = fs })) ≡ None) → ⊥
broken bytes os fs rest h os' fs' rest' k g stuck =
    let split = tokens-append 0 h.pieces (g.next ∷ g.others) in
    let all : run (tokens 0 k.pieces) start ≡ None =
    ap (λ (ps : List Piece). run (tokens 0 ps) start) g.longer
    ∙ ap (λ (ts : List Token). run ts start) split.1
    ∙ run-append (tokens 0 h.pieces) _ start
    ∙ ap (run (tokens split.0 (g.next ∷ g.others))) (holds_runs bytes os fs rest h)
    ∙ run-append (token split.0 g.next) _ _
    ∙ ap (run (tokens (split.0 + length (written g.next)) g.others)) (stuck split.0)
    ∙ run_none _ in
    some_none _ _ (sym (holds_runs bytes os' fs' rest' k)) all

length-onto : (os done : List Open) → length (onto os done) ≡ length os + length done
length-onto [] done = omega arith
length-onto (o ∷ os) done = omega (arith, length-onto os (o ∷ done))

-- the innermost first
innermost_onto : (os : List Open) (o : Open) (done : List Open) → onto (os ++ o ∷ []) done ≡ o ∷ onto os done
innermost_onto [] o done = refl
innermost_onto (p ∷ os) o done = innermost_onto os o (p ∷ done)

empty_word : (w more : List ℕ) → IsWord w → [] ≡ w ++ more → ⊥
empty_word [] more is e = absurd (omega (arith, is.0))
empty_word (b ∷ w) more is e = absurd cc

abbrev ok : Leaf → Result Leaf ReadErrorKind
ok x = Ok x

abbrev err : ReadErrorKind → Result Leaf ReadErrorKind
err k = Err k

ok_err : (x : Leaf) (k : ReadErrorKind) → ok x ≡ err k → ⊥
ok_err x k e = absurd cc

-- ---- why a reading stops

abbrev head_of : List ℕ → ℕ
head_of [] = 0
head_of (b ∷ bs) = b

abbrev stop_rank : {os : List Open} {fs : List PlainForm} {rest : List ℕ} {at : ℕ} {k : ReadErrorKind} {s : Span} → Refuses os fs rest at k s → ℕ
stop_rank (at_end from e q p r) = 9
stop_rank (at_closing b more e p q r) = 4
stop_rank (at_full b more e is p q r) = class b
stop_rank (at_opening b more e many p q r) = 3
stop_rank (at_byte b more e is p q r) = 1
stop_rank (at_text ps more e is ends why p) = 6
stop_rank (at_word w more e is ends p r full) = 5

stop_class : (os : List Open) (fs : List PlainForm) (rest : List ℕ) (at : ℕ) (k : ReadErrorKind) (s : Span) (w : Refuses os fs rest at k s) → class_of rest ≡ stop_rank w
stop_class os fs rest at k s (at_end from e q p r) = ap class_of e
stop_class os fs rest at k s (at_closing b more e p q r) = ap class_of e ∙ closing_class b
stop_class os fs rest at k s (at_full b more e is p q r) = ap class_of e
stop_class os fs rest at k s (at_opening b more e many p q r) = ap class_of e ∙ opening_class b
stop_class os fs rest at k s (at_byte b more e is p q r) = ap class_of e ∙ left_out_class b is
stop_class os fs rest at k s (at_text ps more e is ends why p) = ap class_of e ∙ quote_class
stop_class os fs rest at k s (at_word w more e is ends p r full) = ap class_of e ∙ word_front w more is

stands_one : (os : List Open) (m n : ℕ) → StandsLast os m → StandsLast os n → m ≡ n
stands_one [] m n p q = absurd p
stands_one (o ∷ []) m n p q = sym p ∙ q
stands_one (o ∷ o' ∷ os) m n p q = stands_one (o' ∷ os) m n p q

err_one : (k l : ReadErrorKind) → err k ≡ err l → k ≡ l
err_one k l e = cc

same_text_stop : (ps : List Part) (rest : List ℕ) (at : ℕ) (k l : ReadErrorKind) (s t : Span) → RefusesText ps rest at k s → RefusesText ps rest at l t → (k ≡ l) × (s ≡ t)
same_text_stop ps rest at k l s t (at_text_end e p q) (at_text_end e' p' q') = (p ∙ sym p', q ∙ sym q')
same_text_stop ps rest at k l s t (at_backslash more e p q) (at_backslash more' e' p' q') = (p ∙ sym p', q ∙ sym q')
same_text_stop ps rest at k l s t (at_quote more e long p q) (at_quote more' e' long' p' q') = (p ∙ sym p', q ∙ sym q')
same_text_stop ps rest at k l s t (at_text_end e p q) (at_backslash more' e' p' q') = absurd cc
same_text_stop ps rest at k l s t (at_text_end e p q) (at_quote more' e' long' p' q') = absurd cc
same_text_stop ps rest at k l s t (at_backslash more e p q) (at_text_end e' p' q') = absurd cc
same_text_stop ps rest at k l s t (at_backslash more e p q) (at_quote more' e' long' p' q') = absurd (differ (sym e ∙ e'))
  where
    differ : 92 ∷ more ≡ 34 ∷ more' → ⊥
    differ f = omega (arith, ap head_of f)
same_text_stop ps rest at k l s t (at_quote more e long p q) (at_text_end e' p' q') = absurd cc
same_text_stop ps rest at k l s t (at_quote more e long p q) (at_backslash more' e' p' q') = absurd (differ (sym e' ∙ e))
  where
    differ : 92 ∷ more' ≡ 34 ∷ more → ⊥
    differ f = omega (arith, ap head_of f)

-- a full bracket refuses in one way
full_one : (os : List Open) (fs : List PlainForm) (rest : List ℕ) (at b : ℕ) (l : ReadErrorKind) (t : Span) (w : Refuses os fs rest at l t) → begins_part b ≡ true → IsFull os fs → class b ≡ stop_rank w → (l ≡ TooLarge) × (t ≡ between at (at + 1))
full_one os fs rest at b l t (at_full c more e is f p q) begins full c_rank = (p, q)
full_one os fs rest at b l t (at_end from e q p r) begins full c_rank = absurd ((part_class b begins).not_end c_rank)
full_one os fs rest at b l t (at_closing c more e p q r) begins full c_rank = absurd ((part_class b begins).not_closing c_rank)
full_one os fs rest at b l t (at_opening c more e many p q r) begins full c_rank = absurd (p full)
full_one os fs rest at b l t (at_byte c more e is p q r) begins full c_rank = absurd (p full)
full_one os fs rest at b l t (at_text ps more e is ends why p) begins full c_rank = absurd (p full)
full_one os fs rest at b l t (at_word w more e is ends p r not_full) begins full c_rank = absurd (not_full full)

same_stop : (os : List Open) (fs : List PlainForm) (rest : List ℕ) (at : ℕ) (k l : ReadErrorKind) (s t : Span) (v : Refuses os fs rest at k s) (w : Refuses os fs rest at l t) → stop_rank v ≡ stop_rank w → (k ≡ l) × (s ≡ t)
same_stop os fs rest at k l s t (at_full b more e is f p q) w same_rank =
    let one = full_one os fs rest at b l t w is f same_rank in
    (p ∙ sym one.0, q ∙ sym one.1)
same_stop os fs rest at k l s t v (at_full b more e is f p q) same_rank =
    let one = full_one os fs rest at b k s v is f (sym same_rank) in
    (one.0 ∙ sym p, one.1 ∙ sym q)
same_stop os fs rest at k l s t (at_end from e q p r) (at_end from' e' q' p' r') same_rank =
    (p ∙ sym p', r ∙ ap (λ (n : ℕ). between n (n + 1)) (stands_one os from from' q q') ∙ sym r')
same_stop os fs rest at k l s t (at_closing b more e p q r) (at_closing b' more' e' p' q' r') same_rank = (q ∙ sym q', r ∙ sym r')
same_stop os fs rest at k l s t (at_opening b more e many p q r) (at_opening b' more' e' many' p' q' r') same_rank = (q ∙ sym q', r ∙ sym r')
same_stop os fs rest at k l s t (at_byte b more e is p q r) (at_byte b' more' e' is' p' q' r') same_rank = (q ∙ sym q', r ∙ sym r')
same_stop os fs rest at k l s t (at_text ps more e is ends why p) (at_text qs more' e' is' ends' why' p') same_rank =
    let fronts : 34 ∷ (flat_map part_text ps ++ more) ≡ 34 ∷ (flat_map part_text qs ++ more') = sym e ∙ e' in
    let tails : flat_map part_text ps ++ more ≡ flat_map part_text qs ++ more' = cc in
    let one = one_text ps qs more more' tails is is' ends ends' in
    let P : List Part → Type 0 = λ rs. RefusesText rs more' at l t in
    let Q : List ℕ → Type 0 = λ x. RefusesText ps x at l t in
    same_text_stop ps more at k l s t why (subst Q (sym one.1) (subst P (sym one.0) why'))
same_stop os fs rest at k l s t (at_word w more e is ends p r full) (at_word w' more' e' is' ends' p' r' full') same_rank =
    let one = one_run is_word_byte w w' more more' (sym e ∙ e') is.1 is'.1 ends ends' in
    (err_one k l (sym p ∙ ap meaning one.0 ∙ p'), r ∙ ap (λ (x : List ℕ). between at (at + length x)) one.0 ∙ sym r')
same_stop os fs rest at k l s t v w same_rank = absurd (omega (arith, same_rank))

-- ---- a stop isn't passed

pub data Ended (os : List Open) : Type 0 where
  empty : os ≡ [] → Ended os
  behind : (init : List Open) (o : Open) → os ≡ init ++ o ∷ [] → Ended os

pub ended : (os : List Open) → Ended os
ended [] = empty refl
ended (o ∷ os) =
    elim (ended os) [
      | empty e ↦ behind [] o (ap (λ (ps : List Open). o ∷ ps) e)
      | behind init p e ↦ behind (o ∷ init) p (ap (λ (ps : List Open). o ∷ ps) e)
    ]

pub same_true : (b c : Bracket) → same b c ≡ true → b ≡ c
same_true Round Round e = refl
same_true Square Square e = refl
same_true Round Square e = absurd (false≢true e)
same_true Square Round e = absurd (false≢true e)

not_true : (b : Bool) → (b ≡ true → ⊥) → b ≡ false
not_true true h = absurd (h refl)
not_true false h = refl

unfit_bracket : (c : Option Bracket) (b : Bracket) → (c ≡ Some b → ⊥) → fits c b ≡ false
unfit_bracket None b h = refl
unfit_bracket (Some c) b h = not_true _ (λ t. h (ap some_bracket (same_true c b t)))
  where
    some_bracket : Bracket → Option Bracket
    some_bracket d = Some d

closing_breaks : (os : List Open) (fs : List PlainForm) (b : Bracket) → ¬ FitsLast os b → Ended os → (at : ℕ) → run (token at (Closing b)) (Some (record { openings = onto os []; forms = fs })) ≡ None
closing_breaks os fs b unfit (empty e) at = ap (λ (ps : List Open). run (token at (Closing b)) (Some (record { openings = onto ps []; forms = fs }))) e
closing_breaks os fs b unfit (behind init o e) at =
    let different : fits o.bracket b ≡ false = unfit_bracket o.bracket b (λ t. unfit (subst (λ (ps : List Open). FitsLast ps b) (sym e) (FitsLast-push init o b t))) in
    ap (λ (ps : List Open). run (token at (Closing b)) (Some (record { openings = onto ps []; forms = fs }))) e
    ∙ ap (λ (ps : List Open). run (token at (Closing b)) (Some (record { openings = ps; forms = fs }))) (innermost_onto init o [])
    ∙ rw different refl

if_room : (r : Bool) (s t : Option State) → t ≡ None → cond r t None ≡ None
if_room true s t e = e
if_room false s t e = refl

opening_breaks : (os : List Open) (fs : List PlainForm) (b : Option Bracket) → 100 ≤ length os → (at : ℕ) → run (token at (Opening b)) (Some (record { openings = onto os []; forms = fs })) ≡ None
opening_breaks os fs b many at =
    let len : length (onto os []) ≡ length os + 0 = length-onto os [] in
    let full : ltb (length (onto os [])) 100 ≡ false = grind (arith, nat_tests) in
    if_room (has_room (onto os []) fs) None _ (rw full refl)

no_room_in : (c : Option Bracket) (fs : List PlainForm) → HasAll c (length fs) → has_room_in c fs ≡ false
no_room_in None fs h = absurd h
no_room_in (Some b) fs h = grind (arith, nat_tests)

no_room : (os : List Open) (fs : List PlainForm) → IsFull os fs → Ended os → has_room (onto os []) fs ≡ false
no_room os fs h (empty e) = absurd (subst (λ (ps : List Open). IsFull ps fs) e h)
no_room os fs h (behind init o e) =
    ap (λ (ps : List Open). has_room (onto ps []) fs) e
    ∙ ap (λ (ps : List Open). has_room ps fs) (innermost_onto init o [])
    ∙ no_room_in o.bracket fs (IsFull-last init o fs (subst (λ (ps : List Open). IsFull ps fs) e h))

-- the next piece after which no state is left
abbrev Breaks : List Open → List PlainForm → Piece → Type 0
Breaks os fs p = (at : ℕ) → run (token at p) (Some (record { openings = onto os []; forms = fs })) ≡ None

full_breaks : (os : List Open) (fs : List PlainForm) (p : Piece) → IsFull os fs → (rank p ≡ 0 → ⊥) → (rank p ≡ 2 → ⊥) → (rank p ≡ 4 → ⊥) → Breaks os fs p
full_breaks os fs (White b) full a c d = absurd (a refl)
full_breaks os fs (Comment b) full a c d = absurd (c refl)
full_breaks os fs (Closing b) full a c d = absurd (d refl)
full_breaks os fs (Opening b) full a c d = λ at. rw (no_room os fs full (ended os)) refl
full_breaks os fs (Quoted ps) full a c d = λ at. rw (no_room os fs full (ended os)) refl
full_breaks os fs (Word w x) full a c d = λ at. rw (no_room os fs full (ended os)) refl

rank_low : (p : Piece) → rank p ≤ 6
rank_low (White b) = omega arith
rank_low (Comment c) = omega arith
rank_low (Opening b) = omega arith
rank_low (Closing b) = omega arith
rank_low (Quoted ps) = omega arith
rank_low (Word w x) = omega arith

rank_not_one : (p : Piece) → rank p ≡ 1 → ⊥
rank_not_one (White b) e = omega (arith, e)
rank_not_one (Comment c) e = omega (arith, e)
rank_not_one (Opening b) e = omega (arith, e)
rank_not_one (Closing b) e = omega (arith, e)
rank_not_one (Quoted ps) e = omega (arith, e)
rank_not_one (Word w x) e = omega (arith, e)

-- what is refused is no whole text
no_whole_text : (ps qs : List Part) (rest more : List ℕ) (at : ℕ) (k : ReadErrorKind) (s : Span) → RefusesText ps rest at k s → ps ≡ qs → rest ≡ 34 ∷ more → length (flat_map part_value qs) ≤ 65535 → ⊥
no_whole_text ps qs rest more at k s (at_text_end e p q) same_parts quote le = absurd cc
no_whole_text ps qs rest more at k s (at_backslash more' e p q) same_parts quote le = omega (arith, ap head_of (sym e ∙ quote))
no_whole_text ps qs rest more at k s (at_quote more' e long p q) same_parts quote le =
    let lengths : length (flat_map part_value ps) ≡ length (flat_map part_value qs) = ap (λ (rs : List Part). length (flat_map part_value rs)) same_parts in
    omega (arith, long, le)

stuck_at : (os : List Open) (fs : List PlainForm) (rest : List ℕ) (n : ℕ) (k : ReadErrorKind) (s : Span) (w : Refuses os fs rest n k s) (p : Piece) (more : List ℕ) → stop_rank w ≡ rank p → rest ≡ written p ++ more → IsPiece p → EndsAt p more → Breaks os fs p
stuck_at os fs rest n k s (at_closing b more' e unfit q r) (Closing c) more same_rank front is ends =
    let bytes : closing_byte b ≡ closing_byte c = cc in
    let one : b ≡ c = closing_one b c bytes in
    subst (λ (d : Bracket). Breaks os fs (Closing d)) one (closing_breaks os fs b unfit (ended os))
stuck_at os fs rest n k s (at_full b more' e begins full q r) p more same_rank front is ends =
    let c = part_class b begins in
    full_breaks os fs p full (λ z. c.not_white (same_rank ∙ z)) (λ z. c.not_comment (same_rank ∙ z)) (λ z. c.not_closing (same_rank ∙ z))
stuck_at os fs rest n k s (at_opening b more' e many f q r) (Opening c) more same_rank front is ends = opening_breaks os fs c many
stuck_at os fs rest n k s (at_text ps more' e all stops why full) (Quoted qs) more same_rank front is ends =
    let fronts : 34 ∷ (flat_map part_text ps ++ more') ≡ 34 ∷ ((flat_map part_text qs ++ 34 ∷ []) ++ more) = sym e ∙ front in
    let tails : flat_map part_text ps ++ more' ≡ (flat_map part_text qs ++ 34 ∷ []) ++ more = cc in
    let one = one_text ps qs more' (34 ∷ more) (tails ∙ append_assoc (flat_map part_text qs) (34 ∷ []) more) all is.0 stops (quote_no_part more) in
    absurd (no_whole_text ps qs more' more n k s why one.0 one.1 is.1)
stuck_at os fs rest n k s (at_word v more' e v_is v_ends p r full) (Word w x) more same_rank front is ends =
    let one = one_run is_word_byte v w more' more (sym e ∙ front) v_is.1 is.0.1 v_ends ends in
    absurd (ok_err x k (sym is.1 ∙ sym (ap meaning one.0) ∙ p))
stuck_at os fs rest n k s (at_end from e q p' r) p more same_rank front is ends = absurd (omega (arith, rank_low p, same_rank))
stuck_at os fs rest n k s (at_byte b more' e left f q r) p more same_rank front is ends = absurd (rank_not_one p (sym same_rank))
stuck_at os fs rest n k s w p more same_rank front is ends = absurd (omega (arith, same_rank))

not_passed : (bytes : List ℕ) (os : List Open) (fs : List PlainForm) (rest : List ℕ) (h : Holds bytes os fs rest) (n : ℕ) (k : ReadErrorKind) (s : Span) → Refuses os fs rest n k s → (os' : List Open) (fs' : List PlainForm) (rest' : List ℕ) (h' : Holds bytes os' fs' rest') → GoesOn h.pieces rest h'.pieces → ⊥
not_passed bytes os fs rest h n k s r os' fs' rest' h' g =
    broken bytes os fs rest h os' fs' rest' h' g
    (stuck_at os fs rest n k s r g.next g.more (sym (stop_class os fs rest n k s r) ∙ ap class_of g.front ∙ piece_front g.next g.more g.is) g.front g.is g.ends)

-- ---- one state

onto_back : (os done more : List Open) → onto (onto os done) more ≡ onto done (os ++ more)
onto_back [] done more = refl
onto_back (o ∷ os) done more = onto_back os (o ∷ done) more

onto_one : (os ps : List Open) → onto os [] ≡ onto ps [] → os ≡ ps
onto_one os ps e = sym (append-nil os) ∙ sym (onto_back os [] []) ∙ ap (λ (x : List Open). onto x []) e ∙ onto_back ps [] [] ∙ append-nil ps

abbrev made : List Open → List PlainForm → Option State
made os fs = Some (record { openings = os; forms = fs })

abbrev openings_of : Option State → List Open
openings_of None = []
openings_of (Some s) = s.openings

abbrev forms_of : Option State → List PlainForm
forms_of None = []
forms_of (Some s) = s.forms

made_one : (os ps : List Open) (fs gs : List PlainForm) → made os fs ≡ made ps gs → (os ≡ ps) × (fs ≡ gs)
made_one os ps fs gs e = (ap openings_of e, ap forms_of e)

one_state : (bytes : List ℕ) (os : List Open) (fs : List PlainForm) (rest : List ℕ) (h : Holds bytes os fs rest) (os' : List Open) (fs' : List PlainForm) (rest' : List ℕ) (k : Holds bytes os' fs' rest') → h.pieces ≡ k.pieces → (os ≡ os') × (fs ≡ fs')
one_state bytes os fs rest h os' fs' rest' k e =
    let same_runs = sym (holds_runs bytes os fs rest h) ∙ ap (λ (ps : List Piece). run (tokens 0 ps) start) e ∙ holds_runs bytes os' fs' rest' k in
    let one = made_one _ _ _ _ same_runs in
    (onto_one os os' one.0, one.1)

-- ---- one answer

nothing_open : (fs : List PlainForm) (n : ℕ) (k : ReadErrorKind) (s : Span) → Refuses [] fs [] n k s → ⊥
nothing_open fs n k s (at_end from e q p r) = q
nothing_open fs n k s (at_closing b more e p q r) = absurd cc
nothing_open fs n k s (at_full b more e is f q r) = f
nothing_open fs n k s (at_opening b more e many p q r) = absurd cc
nothing_open fs n k s (at_byte b more e is p q r) = absurd cc
nothing_open fs n k s (at_text ps more e is ends why p) = absurd cc
nothing_open fs n k s (at_word w more e is ends p r full) = empty_word w more is e

nothing_written : (p : Piece) (more : List ℕ) → IsPiece p → [] ≡ written p ++ more → ⊥
nothing_written (White b) more is e = absurd cc
nothing_written (Comment c) more is e = absurd cc
nothing_written (Opening b) more is e = absurd cc
nothing_written (Closing b) more is e = absurd cc
nothing_written (Quoted ps) more is e = absurd cc
nothing_written (Word w x) more is e = empty_word w more is.0 e

ends_here : (ps : List Piece) (qs : List Piece) → GoesOn ps [] qs → ⊥
ends_here ps qs g = nothing_written g.next g.more g.is g.front

one_reading_within : (bytes : List ℕ) (f g : List PlainForm) → Holds bytes [] f [] → Holds bytes [] g [] → f ≡ g
one_reading_within bytes f g h k =
    elim (compare bytes h.pieces [] k.pieces [] h.splits k.splits) [
      | alike e r ↦ (one_state bytes [] f [] h [] g [] k e).1
      | shorter on ↦ absurd (ends_here _ _ on)
      | longer on ↦ absurd (ends_here _ _ on)
    ]

-- a refusal, at what is the same state
moved : (bytes : List ℕ) (k : ReadErrorKind) (s : Span) (os : List Open) (fs : List PlainForm) (rest : List ℕ) (u : StopsWithin bytes k s) → os ≡ u.open_forms → fs ≡ u.forms → rest ≡ u.rest → Refuses os fs rest (length bytes - length rest) k s
moved bytes k s os fs rest u e f g =
    let R : List Open → List PlainForm → List ℕ → Type 0 = λ os fs rest. Refuses os fs rest (length bytes - length rest) k s in
    subst (λ (os : List Open). R os fs rest) (sym e) (subst (λ (fs : List PlainForm). R u.open_forms fs rest) (sym f) (subst (λ (rest : List ℕ). R u.open_forms u.forms rest) (sym g) u.refuses))

one_stop_within : (bytes : List ℕ) (k l : ReadErrorKind) (s t : Span) → StopsWithin bytes k s → StopsWithin bytes l t → (k ≡ l) × (s ≡ t)
one_stop_within bytes k l s t u v =
    elim (compare bytes u.holds.pieces u.rest v.holds.pieces v.rest u.holds.splits v.holds.splits) [
      | alike e r ↦
          let one = one_state bytes u.open_forms u.forms u.rest u.holds v.open_forms v.forms v.rest v.holds e in
          let other : Refuses u.open_forms u.forms u.rest (length bytes - length u.rest) l t = moved bytes l t u.open_forms u.forms u.rest v one.0 one.1 r in
          let at : ℕ = length bytes - length u.rest in
          same_stop u.open_forms u.forms u.rest at k l s t u.refuses other (sym (stop_class u.open_forms u.forms u.rest at k s u.refuses) ∙ stop_class u.open_forms u.forms u.rest at l t other)
      | shorter on ↦ absurd (not_passed bytes _ _ _ u.holds _ k s u.refuses _ _ _ v.holds on)
      | longer on ↦ absurd (not_passed bytes _ _ _ v.holds _ l t v.refuses _ _ _ u.holds on)
    ]

-- what is read to the end doesn't stop there
read_whole : (bytes : List ℕ) (f : List PlainForm) (h : Holds bytes [] f []) (k : ReadErrorKind) (s : Span) (u : StopsWithin bytes k s) → h.pieces ≡ u.holds.pieces → [] ≡ u.rest → ⊥
read_whole bytes f h k s u e r =
    let one = one_state bytes [] f [] h u.open_forms u.forms u.rest u.holds e in
    nothing_open f _ k s (moved bytes k s [] f [] u one.0 one.1 r)

not_both_within : (bytes : List ℕ) (f : List PlainForm) (k : ReadErrorKind) (s : Span) → Holds bytes [] f [] → StopsWithin bytes k s → ⊥
not_both_within bytes f k s h u =
    elim (compare bytes h.pieces [] u.holds.pieces u.rest h.splits u.holds.splits) [
      | alike e r ↦ read_whole bytes f h k s u e r
      | shorter on ↦ ends_here _ _ on
      | longer on ↦ not_passed bytes _ _ _ u.holds _ k s u.refuses _ _ _ h on
    ]

-- ---- with the length and the characters

pub one_reading : (bytes : List ℕ) (f g : List PlainForm) → Reads bytes f → Reads bytes g → f ≡ g
one_reading bytes f g h k = one_reading_within bytes f g h.holds k.holds

utf8_whole : (bytes : List ℕ) (n : ℕ) → IsUtf8 bytes → IsValidUpTo bytes n → ⊥
utf8_whole bytes n u v = v.longest (length bytes) v.short (subst IsUtf8 (sym (take_all (length bytes) bytes (omega arith))) u)

one_end : (bytes : List ℕ) (m n : ℕ) → IsValidUpTo bytes m → IsValidUpTo bytes n → m ≡ n
one_end bytes m n u v = sym (utf8_valid_len-IsValidUpTo bytes m u) ∙ utf8_valid_len-IsValidUpTo bytes n v

pub one_stop : (bytes : List ℕ) (k l : ReadErrorKind) (s t : Span) → ReadStops bytes k s → ReadStops bytes l t → (k ≡ l) × (s ≡ t)
one_stop bytes k l s t (too_long a p q) (too_long b p' q') = (p ∙ sym p', q ∙ sym q')
one_stop bytes k l s t (too_long a p q) (no_text n b v p' q') = absurd (omega arith)
one_stop bytes k l s t (too_long a p q) (within b u w) = absurd (omega arith)
one_stop bytes k l s t (no_text m a u p q) (too_long b p' q') = absurd (omega arith)
one_stop bytes k l s t (no_text m a u p q) (no_text n b v p' q') = (p ∙ sym p', q ∙ ap (λ (i : ℕ). between i (i + 1)) (one_end bytes m n u v) ∙ sym q')
one_stop bytes k l s t (no_text m a u p q) (within b v w) = absurd (utf8_whole bytes m v u)
one_stop bytes k l s t (within a u w) (too_long b p' q') = absurd (omega arith)
one_stop bytes k l s t (within a u w) (no_text n b v p' q') = absurd (utf8_whole bytes n u v)
one_stop bytes k l s t (within a u w) (within b v x) = one_stop_within bytes k l s t w x

pub not_both : (bytes : List ℕ) (f : List PlainForm) (k : ReadErrorKind) (s : Span) → Reads bytes f → ReadStops bytes k s → ⊥
not_both bytes f k s h (too_long a p q) = omega (arith, h.short)
not_both bytes f k s h (no_text n a v p q) = utf8_whole bytes n h.utf8 v
not_both bytes f k s h (within a u w) = not_both_within bytes f k s h.holds w
