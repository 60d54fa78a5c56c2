-- One step of a reading, at an offset.
use Rattle.std.proofs.Common.{◌≡◌, ◌≢◌, ℕ, zero, suc, ◌+◌, ◌-◌, ◌<◌, ◌≤◌, true, false, not, Option, Some, List, [], ◌∷◌, ◌++◌, Ok, Err, length, length-append, get_or, take, drop, refl, sym, ap, ◌∙◌, subst, append_assoc, arith, length-drop, length-take}
use Rattle.std.proofs.lemmas.Bool.{false≢true}
use Rattle.std.proofs.lemmas.List.{take-append-drop, drop-drop}
use Rattle.std.proofs.lemmas.Bool.Decides.{nat_tests}
use Rattle.std.proofs.Math.Seq.{drop-length, drop-cons}
use Rattle.std.specs.List.{flat_map}
use Rattle.txs_value_data.specs.declared.fault.Span.{Span}
use Rattle.txs_reader.specs.declared.form.Bracket.{Bracket}
use Rattle.txs_reader.specs.declared.error.ReadErrorKind.{ReadErrorKind}
use Rattle.txs_reader.specs.declared.error.ReadErrorKind.TheVariants.{Unclosed, Unopened, BadEscape, TooDeep, TooLarge, LeftOut, Memory}
use Rattle.txs_reader.specs.Bytes.{is_white, is_line_end, is_left_out_byte, is_mark, is_word_byte, begins_part, begins_with, IsRun, meaning}
use Rattle.txs_reader.specs.Quoted.{part_text, part_value, IsAtPart}
use Rattle.txs_reader.specs.Tree.{Leaf, text, PlainForm, leaf, group, trees_of}
use Rattle.txs_reader.specs.Script.{opening_byte, closing_byte, Quoted, written, IsWord, between, Open, opened, Holds, FitsLast, IsFull, at_text_end, at_backslash, at_quote, Refuses, at_end, at_closing, at_full, at_opening, at_byte, at_text, at_word, StopsWithin}
use Rattle.txs_reader.specs.Completes.{Completes}
use Rattle.txs_reader.specs.Escapes.{TextUpTo, TextStops, TextStopsAs}
use Rattle.txs_reader.specs.Refused.{RefusedAs, StopsAs}
use Rattle.txs_reader.proofs.Holding.{Holds-white, Holds-comment, Holds-open, completes_word, completes_text, completes_close}
use Rattle.txs_reader.proofs.Last.{StandsLast-push}
use Rattle.txs_reader.proofs.Texts.{end_no_part, quote_no_part}

pub front : (bytes : List ℕ) (at : ℕ) → at < length bytes → drop at bytes ≡ get_or bytes at 0 ∷ drop (at + 1) bytes
front bytes at lt = let e : at + 1 ≡ suc at = omega arith in rw e (drop-cons bytes at 0 lt)

parts : (bytes : List ℕ) (at n : ℕ) → drop at bytes ≡ take n (drop at bytes) ++ drop (at + n) bytes
parts bytes at n = sym (take-append-drop n (drop at bytes)) ∙ ap (λ (bs : List ℕ). take n (drop at bytes) ++ bs) (drop-drop n at bytes)

pub here : (bytes : List ℕ) (at : ℕ) → at ≤ length bytes → at ≡ length bytes - length (drop at bytes)
here bytes at le = omega (arith, length-drop at bytes)

pub step_white : (bytes : List ℕ) (os : List Open) (fs : List PlainForm) (at : ℕ) → Holds bytes os fs (drop at bytes) → at < length bytes → is_white (get_or bytes at 0) ≡ true → Holds bytes os fs (drop (at + 1) bytes)
step_white bytes os fs at h lt is = Holds-white bytes os fs _ _ _ h (front bytes at lt) is

pub step_comment : (bytes : List ℕ) (os : List Open) (fs : List PlainForm) (at n : ℕ) → Holds bytes os fs (drop at bytes) → at < length bytes → get_or bytes at 0 ≡ 59 → IsRun (λ b. not (is_line_end b)) (drop (at + 1) bytes) n → Holds bytes os fs (drop (at + 1 + n) bytes)
step_comment bytes os fs at n h lt is run =
    Holds-comment bytes os fs (drop at bytes) (take n (drop (at + 1) bytes)) (drop (at + 1 + n) bytes) h
    (front bytes at lt ∙ ap (λ (b : ℕ). b ∷ drop (at + 1) bytes) is ∙ ap (λ (bs : List ℕ). 59 ∷ bs) (parts bytes (at + 1) n))
    run.each (subst (λ (bs : List ℕ). begins_with (λ b. not (is_line_end b)) bs ≡ false) (drop-drop n (at + 1) bytes) run.ends)

-- the word at an offset
pub IsWord-run : (bytes : List ℕ) (at n : ℕ) → at < length bytes → is_word_byte (get_or bytes at 0) ≡ true → IsRun is_word_byte (drop at bytes) n → IsWord (take n (drop at bytes))
IsWord-run bytes at zero lt is run =
    absurd (false≢true (sym run.ends ∙ ap (begins_with is_word_byte) (front bytes at lt) ∙ is))
IsWord-run bytes at (suc n) lt is run = (omega (arith, length-take (suc n) (drop at bytes), run.short), run.each)

pub step_word : (bytes : List ℕ) (os : List Open) (fs : List PlainForm) (at n : ℕ) (x : Leaf) → Holds bytes os fs (drop at bytes) → at < length bytes → is_word_byte (get_or bytes at 0) ≡ true → IsRun is_word_byte (drop at bytes) n → meaning (take n (drop at bytes)) ≡ Ok x → ¬ IsFull os fs → Completes bytes os fs (leaf x (between at (at + n))) (drop (at + n) bytes)
step_word bytes os fs at n x h lt is run means room =
    let len : length (take n (drop at bytes)) ≡ n = omega (arith, length-take n (drop at bytes), run.short) in
    subst (λ (k : ℕ). Completes bytes os fs (leaf x (between at (at + k))) (drop (at + n) bytes)) len
    (completes_word bytes os fs (drop at bytes) (take n (drop at bytes)) (drop (at + n) bytes) x at h (parts bytes at n) (IsWord-run bytes at n lt is run) means
    (subst (λ (bs : List ℕ). begins_with is_word_byte bs ≡ false) (drop-drop n at bytes) run.ends) (here bytes at (omega arith)) room)

begins : (bytes : List ℕ) (at b : ℕ) → at < length bytes → get_or bytes at 0 ≡ b → drop at bytes ≡ b ∷ drop (at + 1) bytes
begins bytes at b lt is = front bytes at lt ∙ ap (λ (b : ℕ). b ∷ drop (at + 1) bytes) is

pub step_open : (bytes : List ℕ) (os : List Open) (fs : List PlainForm) (at : ℕ) (b : Option Bracket) → Holds bytes os fs (drop at bytes) → at < length bytes → get_or bytes at 0 ≡ opening_byte b → length os < 100 → ¬ IsFull os fs → Holds bytes (os ++ opened b at fs ∷ []) [] (drop (at + 1) bytes)
step_open bytes os fs at b h lt is few room = Holds-open bytes os fs (drop at bytes) b (drop (at + 1) bytes) at h (begins bytes at _ lt is) few room (here bytes at (omega arith))

pub step_close : (bytes : List ℕ) (os : List Open) (fs : List PlainForm) (at : ℕ) (b : Bracket) (o : Open) → Holds bytes (os ++ o ∷ []) fs (drop at bytes) → at < length bytes → get_or bytes at 0 ≡ closing_byte b → o.bracket ≡ Some b → Completes bytes os o.before (group b (trees_of fs) (between o.from (at + 1))) (drop (at + 1) bytes)
step_close bytes os fs at b o h lt is fits = completes_close bytes os fs (drop at bytes) o b (drop (at + 1) bytes) at h fits (begins bytes at _ lt is) (here bytes at (omega arith))

-- what a text is written as
whole_text : (bytes : List ℕ) (at k : ℕ) (out : List ℕ) (t : TextUpTo bytes at k out) → k < length bytes → get_or bytes k 0 ≡ 34 → drop at bytes ≡ written (Quoted t.parts) ++ drop (k + 1) bytes
whole_text bytes at k out t lt is =
    t.front
    ∙ ap (λ (bs : List ℕ). 34 ∷ (flat_map part_text t.parts ++ bs)) (begins bytes k 34 lt is)
    ∙ ap (λ (bs : List ℕ). 34 ∷ bs) (sym (append_assoc (flat_map part_text t.parts) (34 ∷ []) (drop (k + 1) bytes)))

text_end : (bytes : List ℕ) (at k : ℕ) (out : List ℕ) (t : TextUpTo bytes at k out) → at + length (written (Quoted t.parts)) ≡ k + 1
text_end bytes at k out t = omega (arith, t.size, length-append (flat_map part_text t.parts) (34 ∷ []))

pub step_text : (bytes : List ℕ) (os : List Open) (fs : List PlainForm) (at k : ℕ) (out : List ℕ) → Holds bytes os fs (drop at bytes) → at < length bytes → TextUpTo bytes at k out → k < length bytes → get_or bytes k 0 ≡ 34 → length out ≤ 65535 → ¬ IsFull os fs → Completes bytes os fs (leaf (text out) (between at (k + 1))) (drop (k + 1) bytes)
step_text bytes os fs at k out h lt t within is short room =
    let few : length (flat_map part_value t.parts) ≤ 65535 = omega (arith, ap length t.value, short) in
    subst (λ (v : List ℕ). Completes bytes os fs (leaf (text v) (between at (k + 1))) (drop (k + 1) bytes)) t.value
    (subst (λ (n : ℕ). Completes bytes os fs (leaf (text (flat_map part_value t.parts)) (between at n)) (drop (k + 1) bytes)) (text_end bytes at k out t)
    (completes_text bytes os fs (drop at bytes) t.parts (drop (k + 1) bytes) at h (whole_text bytes at k out t within is) t.each few (here bytes at (omega arith)) room))

-- ---- refusals

stops : (bytes : List ℕ) (os : List Open) (fs : List PlainForm) (at : ℕ) (kind : ReadErrorKind) (span : Span) → Holds bytes os fs (drop at bytes) → at ≤ length bytes → Refuses os fs (drop at bytes) at kind span → StopsWithin bytes kind span
stops bytes os fs at kind span h le r = record {
  open_forms = os;
  forms = fs;
  rest = drop at bytes;
  holds = h;
  refuses = subst (λ (n : ℕ). Refuses os fs (drop at bytes) n kind span) (here bytes at le) r;
}

pub stop_deep : (bytes : List ℕ) (os : List Open) (fs : List PlainForm) (at : ℕ) (b : Option Bracket) → Holds bytes os fs (drop at bytes) → at < length bytes → get_or bytes at 0 ≡ opening_byte b → 100 ≤ length os → ¬ IsFull os fs → StopsWithin bytes TooDeep (between at (at + 1))
stop_deep bytes os fs at b h lt is many room =
    stops bytes os fs at TooDeep _ h (omega arith) (at_opening b (drop (at + 1) bytes) (begins bytes at _ lt is) many room refl refl)

pub stop_full : (bytes : List ℕ) (os : List Open) (fs : List PlainForm) (at : ℕ) → Holds bytes os fs (drop at bytes) → at < length bytes → begins_part (get_or bytes at 0) ≡ true → IsFull os fs → StopsWithin bytes TooLarge (between at (at + 1))
stop_full bytes os fs at h lt is full =
    stops bytes os fs at TooLarge _ h (omega arith) (at_full (get_or bytes at 0) (drop (at + 1) bytes) (front bytes at lt) is full refl refl)

pub stop_unopened : (bytes : List ℕ) (os : List Open) (fs : List PlainForm) (at : ℕ) (b : Bracket) → Holds bytes os fs (drop at bytes) → at < length bytes → get_or bytes at 0 ≡ closing_byte b → ¬ FitsLast os b → StopsWithin bytes Unopened (between at (at + 1))
stop_unopened bytes os fs at b h lt is unfit =
    stops bytes os fs at Unopened _ h (omega arith) (at_closing b (drop (at + 1) bytes) (begins bytes at _ lt is) unfit refl refl)

pub stop_left_out : (bytes : List ℕ) (os : List Open) (fs : List PlainForm) (at : ℕ) → Holds bytes os fs (drop at bytes) → at < length bytes → is_left_out_byte (get_or bytes at 0) ≡ true → ¬ IsFull os fs → StopsWithin bytes LeftOut (between at (at + 1))
stop_left_out bytes os fs at h lt is room =
    stops bytes os fs at LeftOut _ h (omega arith) (at_byte (get_or bytes at 0) (drop (at + 1) bytes) (front bytes at lt) is room refl refl)

pub stop_unclosed : (bytes : List ℕ) (os : List Open) (fs : List PlainForm) (o : Open) → Holds bytes (os ++ o ∷ []) fs (drop (length bytes) bytes) → StopsWithin bytes Unclosed (between o.from (o.from + 1))
stop_unclosed bytes os fs o h =
    stops bytes (os ++ o ∷ []) fs (length bytes) Unclosed _ h (omega arith) (at_end o.from (drop-length bytes) (StandsLast-push os o) refl refl)

pub stop_word : (bytes : List ℕ) (os : List Open) (fs : List PlainForm) (at n : ℕ) (k : ReadErrorKind) → Holds bytes os fs (drop at bytes) → at < length bytes → is_word_byte (get_or bytes at 0) ≡ true → IsRun is_word_byte (drop at bytes) n → meaning (take n (drop at bytes)) ≡ Err k → ¬ IsFull os fs → StopsWithin bytes k (between at (at + n))
stop_word bytes os fs at n k h lt is run means room =
    let len : length (take n (drop at bytes)) ≡ n = omega (arith, length-take n (drop at bytes), run.short) in
    stops bytes os fs at k _ h (omega arith)
    (at_word (take n (drop at bytes)) (drop (at + n) bytes) (parts bytes at n) (IsWord-run bytes at n lt is run) (subst (λ (bs : List ℕ). begins_with is_word_byte bs ≡ false) (drop-drop n at bytes) run.ends) means (ap (λ (m : ℕ). between at (at + m)) (sym len)) room)

stopped_as : (bytes : List ℕ) (w : List ℕ) (span : Span) (k : ReadErrorKind) (s : Span) → ((l : ReadErrorKind) → meaning w ≡ Err l → StopsWithin bytes l span) → RefusedAs w span k s → StopsAs bytes k s
stopped_as bytes w span Memory s stop r = r
stopped_as bytes w span k s stop r = subst (λ (t : Span). StopsWithin bytes k t) (sym r.1) (stop k r.0)

-- the refusal of a word is that of the script
pub stop_word_as : (bytes : List ℕ) (os : List Open) (fs : List PlainForm) (at n : ℕ) (k : ReadErrorKind) (s : Span) → Holds bytes os fs (drop at bytes) → at < length bytes → is_word_byte (get_or bytes at 0) ≡ true → IsRun is_word_byte (drop at bytes) n → ¬ IsFull os fs → RefusedAs (take n (drop at bytes)) (between at (at + n)) k s → StopsAs bytes k s
stop_word_as bytes os fs at n k s h lt is run room r = stopped_as bytes _ _ k s (λ l means. stop_word bytes os fs at n l h lt is run means room) r

pub stop_text : (bytes : List ℕ) (os : List Open) (fs : List PlainForm) (at : ℕ) (k : ReadErrorKind) (s : Span) → Holds bytes os fs (drop at bytes) → at < length bytes → ¬ IsFull os fs → TextStops bytes at k s → StopsWithin bytes k s
stop_text bytes os fs at k s h lt room t = stops bytes os fs at k s h (omega arith) (at_text t.parts t.rest t.front t.each t.ends t.refuses room)

-- the refusal of a text is that of the script
pub stop_text_as : (bytes : List ℕ) (os : List Open) (fs : List PlainForm) (at : ℕ) (k : ReadErrorKind) (s : Span) → Holds bytes os fs (drop at bytes) → at < length bytes → ¬ IsFull os fs → TextStopsAs bytes at k s → StopsAs bytes k s
stop_text_as bytes os fs at Memory s h lt room t = t
stop_text_as bytes os fs at k s h lt room t = stop_text bytes os fs at k s h lt room t

pub text_too_long : (bytes : List ℕ) (at k : ℕ) (out : List ℕ) → TextUpTo bytes at k out → k < length bytes → get_or bytes k 0 ≡ 34 → 65535 < length out → TextStops bytes at TooLarge (between at (k + 1))
text_too_long bytes at k out t within is long = record {
  parts = t.parts;
  rest = drop k bytes;
  each = t.each;
  front = t.front;
  ends = subst (λ (bs : List ℕ). ¬ IsAtPart bs) (sym (begins bytes k 34 within is)) (quote_no_part (drop (k + 1) bytes));
  refuses = at_quote (drop (k + 1) bytes) (begins bytes k 34 within is) (omega (arith, long, ap length t.value)) refl (ap (λ (n : ℕ). between at n) (sym (text_end bytes at k out t)));
}

pub text_unclosed : (bytes : List ℕ) (at k : ℕ) (out : List ℕ) → TextUpTo bytes at k out → drop k bytes ≡ [] → TextStops bytes at Unclosed (between at (at + 1))
text_unclosed bytes at k out t is = record {
  parts = t.parts;
  rest = drop k bytes;
  each = t.each;
  front = t.front;
  ends = subst (λ (bs : List ℕ). ¬ IsAtPart bs) (sym is) end_no_part;
  refuses = at_text_end is refl refl;
}

pub text_bad_escape : (bytes : List ℕ) (at k : ℕ) (out : List ℕ) → TextUpTo bytes at k out → k < length bytes → get_or bytes k 0 ≡ 92 → ¬ IsAtPart (drop k bytes) → TextStops bytes at BadEscape (between k (k + 1))
text_bad_escape bytes at k out t within is no_part = record {
  parts = t.parts;
  rest = drop k bytes;
  each = t.each;
  front = t.front;
  ends = no_part;
  refuses = at_backslash (drop (k + 1) bytes) (begins bytes k 92 within is) refl (ap (λ (n : ℕ). between n (n + 1)) (sym t.size));
}

-- what is none of the other bytes is a byte of a word
pub word_byte : (b : ℕ) → begins_part b ≡ true → is_left_out_byte b ≡ false → b ≢ 40 → b ≢ 91 → b ≢ 64 → b ≢ 34 → is_word_byte b ≡ true
unfolding is_word_byte is_mark begins_part
word_byte b begins left o p q r = grind (arith, nat_tests)

pub part_byte : (b : ℕ) → is_white b ≡ false → b ≢ 59 → b ≢ 41 → b ≢ 93 → begins_part b ≡ true
unfolding begins_part
part_byte b white o p q = grind (arith, nat_tests)
