-- Each script is read, or its reading stops somewhere.
use Rattle.std.proofs.Common.{◌≡◌, ℕ, zero, suc, ◌+◌, ◌<◌, ◌≤◌, ◌⊎◌, inl, inr, Bool, true, false, not, Option, Some, None, List, [], ◌∷◌, ◌++◌, Result, Ok, Err, length, length-append, get_or, take, drop, refl, sym, ap, subst, ◌∙◌, arith, length-drop}
use Rattle.std.proofs.lemmas.Bool.{cases_Bool, cases_lt, cases_eq, false≢true}
use Rattle.std.proofs.Math.Seq.{drop-length}
use Rattle.std.proofs.lemmas.List.{take_all, drop_all}
use Rattle.std.specs.Prelude.{IsUtf8}
use Rattle.std.specs.Str.{IsValidUpTo, is_utf8}
use Rattle.std.proofs.lemmas.Str.{IsUtf8-nil, IsUtf8-from_is_utf8, is_utf8-from_IsUtf8}
use Rattle.txs_value_data.specs.declared.fault.Span.{Span}
use Rattle.txs_reader.specs.declared.form.Bracket.{Bracket}
use Rattle.txs_reader.specs.declared.form.Bracket.TheVariants.{Round, Square}
use Rattle.txs_reader.specs.declared.error.ReadErrorKind.{ReadErrorKind}
use Rattle.txs_reader.specs.Bytes.{is_white, is_line_end, is_left_out_byte, is_word_byte, begins_part, begins_with, IsRun, meaning}
use Rattle.txs_reader.specs.Quoted.{Part, Plain, Short, Code, part_text, part_value, IsAtPart}
use Rattle.txs_reader.specs.Tree.{Leaf, PlainForm}
use Rattle.txs_reader.specs.Script.{Open, sugar, Holds, Reads, StopsWithin, ReadStops, too_long, no_text, within, FitsLast, EndsWithDeref, HasAll, IsFull, opening_byte, closing_byte}
use Rattle.txs_reader.specs.Completes.{Completes}
use Rattle.txs_reader.specs.Escapes.{TextUpTo}
use Rattle.txs_reader.proofs.Last.{FitsLast-last, EndsWithDeref-last, IsFull-push, IsFull-last}
use Rattle.txs_reader.proofs.Running.{same_itself, fits}
use Rattle.txs_reader.proofs.Holding.{completed, folded}
use Rattle.txs_reader.proofs.Escapes.{escape_or_not, part_more, text_begins}
use Rattle.txs_reader.proofs.OneAnswer.{Ended, empty, behind, ended, same_true}
use Rattle.txs_reader.proofs.Steps.{step_white, step_comment, step_word, step_open, step_close, step_text, stop_left_out, stop_deep, stop_full, stop_unopened, stop_word, stop_text, stop_unclosed, text_unclosed, text_too_long, text_bad_escape, word_byte, part_byte, front}

-- some run stands at the front
run_from : (test : ℕ → Bool) (b : ℕ) (bs : List ℕ) (t : Bool) → test b ≡ t → (n : ℕ) × IsRun test bs n → (n : ℕ) × IsRun test (b ∷ bs) n
run_from test b bs true e r = (suc r.0, record { short = omega (arith, r.1.short); each = rw e r.1.each; ends = r.1.ends })
run_from test b bs false e r = (0, record { short = omega arith; each = refl; ends = e })

run_of : (test : ℕ → Bool) (bs : List ℕ) → (n : ℕ) × IsRun test bs n
run_of test [] = (0, record { short = omega arith; each = refl; ends = refl })
run_of test (b ∷ bs) = run_from test b bs (test b) refl (run_of test bs)

pub record Stops (bytes : List ℕ) : Type 0 where
  pub kind : ReadErrorKind
  pub span : Span
  pub stops : StopsWithin bytes kind span

pub record Next (bytes : List ℕ) (at : ℕ) : Type 0 where
  pub to : ℕ
  pub openings : List Open
  pub forms : List PlainForm
  pub later : at < to
  pub within : to ≤ length bytes
  pub holds : Holds bytes openings forms (drop to bytes)

abbrev Ends : List ℕ → Type 0
Ends bytes = ((forms : List PlainForm) × Holds bytes [] forms []) ⊎ Stops bytes

abbrev Turn : List ℕ → ℕ → Type 0
Turn bytes at = Next bytes at ⊎ Stops bytes

different : (c : Option Bracket) (b : Bracket) → fits c b ≡ false → c ≡ Some b → ⊥
different c b f e = false≢true (sym f ∙ ap (λ (d : Option Bracket). fits d b) e ∙ same_itself b)

fits_true : (c : Option Bracket) (b : Bracket) → fits c b ≡ true → c ≡ Some b
fits_true None b h = absurd (false≢true h)
fits_true (Some c) b h = ap some_bracket (same_true c b h)
  where
    some_bracket : Bracket → Option Bracket
    some_bracket d = Some d

-- a form that has become whole finds its place
pub record Settled (bytes rest : List ℕ) : Type 0 where
  pub openings : List Open
  pub forms : List PlainForm
  pub holds : Holds bytes openings forms rest

deref_or_not : (b : Option Bracket) → (b ≡ None) ⊎ ¬ (b ≡ None)
deref_or_not None = inl refl
deref_or_not (Some b) = inr (λ e. absurd cc)

settle : (n : ℕ) (bytes : List ℕ) (os : List Open) (fs : List PlainForm) (t : PlainForm) (rest : List ℕ) → length os ≤ n → Completes bytes os fs t rest → Ended os → Settled bytes rest
settle n bytes os fs t rest le c (empty e) =
    record { openings = os; forms = fs ++ t ∷ []; holds = completed bytes os fs t rest c (λ h. subst EndsWithDeref e h) }
settle zero bytes os fs t rest le c (behind init o e) = absurd (omega (arith, le, ap length e, length-append init (o ∷ [])))
settle (suc n) bytes os fs t rest le c (behind init o e) =
    elim (deref_or_not o.bracket) [
      | inl is ↦ settle n bytes init o.before (sugar o.from t) rest (omega (arith, le, ap length e, length-append init (o ∷ []))) (folded bytes init o fs t rest (subst (λ (ps : List Open). Completes bytes ps fs t rest) e c) is) (ended init)
      | inr isnt ↦ record { openings = os; forms = fs ++ t ∷ []; holds = completed bytes os fs t rest c (λ h. isnt (EndsWithDeref-last init o (subst EndsWithDeref e h))) }
    ]

settled : (bytes : List ℕ) (os : List Open) (fs : List PlainForm) (t : PlainForm) (at to : ℕ) → Completes bytes os fs t (drop to bytes) → at < to → to ≤ length bytes → Turn bytes at
settled bytes os fs t at to c later inside =
    let s = settle (length os) bytes os fs t (drop to bytes) (omega arith) c (ended os) in
    inl (record { to = to; openings = s.openings; forms = s.forms; later = later; within = inside; holds = s.holds })

stopped : (bytes : List ℕ) (at : ℕ) (k : ReadErrorKind) (s : Span) → StopsWithin bytes k s → Turn bytes at
stopped bytes at k s stop = inr (record { kind = k; span = s; stops = stop })

opening : (bytes : List ℕ) (os : List Open) (fs : List PlainForm) (at : ℕ) (b : Option Bracket) → Holds bytes os fs (drop at bytes) → at < length bytes → get_or bytes at 0 ≡ opening_byte b → ¬ IsFull os fs → Turn bytes at
opening bytes os fs at b h lt is room =
    elim (cases_lt (length os) 100) [
      | inl few ↦ inl (record { to = at + 1; openings = _; forms = _; later = omega arith; within = omega arith; holds = step_open bytes os fs at b h lt is few room })
      | inr many ↦ stopped bytes at _ _ (stop_deep bytes os fs at b h lt is many room)
    ]

closing : (bytes : List ℕ) (os : List Open) (fs : List PlainForm) (at : ℕ) (b : Bracket) → Holds bytes os fs (drop at bytes) → at < length bytes → get_or bytes at 0 ≡ closing_byte b → Ended os → Turn bytes at
closing bytes os fs at b h lt is (empty e) = stopped bytes at _ _ (stop_unopened bytes os fs at b h lt is (λ f. subst (λ (ps : List Open). FitsLast ps b) e f))
closing bytes os fs at b h lt is (behind init o e) =
    elim (cases_Bool (fits o.bracket b)) [
      | inl t ↦ settled bytes init o.before _ at (at + 1) (step_close bytes init fs at b o (subst (λ (ps : List Open). Holds bytes ps fs (drop at bytes)) e h) lt is (fits_true o.bracket b t)) (omega arith) (omega arith)
      | inr f ↦ stopped bytes at _ _ (stop_unopened bytes os fs at b h lt is (λ h. different o.bracket b f (FitsLast-last init o b (subst (λ (ps : List Open). FitsLast ps b) e h))))
    ]

wording : (bytes : List ℕ) (os : List Open) (fs : List PlainForm) (at n : ℕ) (r : Result Leaf ReadErrorKind) → Holds bytes os fs (drop at bytes) → at < length bytes → is_word_byte (get_or bytes at 0) ≡ true → IsRun is_word_byte (drop at bytes) n → 0 < n → meaning (take n (drop at bytes)) ≡ r → ¬ IsFull os fs → Turn bytes at
wording bytes os fs at n (Ok x) h lt is run some e room = settled bytes os fs _ at (at + n) (step_word bytes os fs at n x h lt is run e room) (omega arith) (omega (arith, run.short, length-drop at bytes))
wording bytes os fs at n (Err k) h lt is run some e room = stopped bytes at k _ (stop_word bytes os fs at n k h lt is run e room)

some_run : (test : ℕ → Bool) (bytes : List ℕ) (at n : ℕ) → at < length bytes → test (get_or bytes at 0) ≡ true → IsRun test (drop at bytes) n → 0 < n
some_run test bytes at zero lt is run = absurd (false≢true (sym run.ends ∙ ap (begins_with test) (front bytes at lt) ∙ is))
some_run test bytes at (suc n) lt is run = omega arith

-- ---- texts

-- where the parts of a text end
pub data TextEnd (bytes : List ℕ) (at : ℕ) : Type 0 where
  text_cut : (k : ℕ) (out : List ℕ) → TextUpTo bytes at k out → drop k bytes ≡ [] → TextEnd bytes at
  text_closed : (k : ℕ) (out : List ℕ) → TextUpTo bytes at k out → at < k → k < length bytes → get_or bytes k 0 ≡ 34 → TextEnd bytes at
  text_bad : (k : ℕ) (out : List ℕ) → TextUpTo bytes at k out → k < length bytes → get_or bytes k 0 ≡ 92 → ¬ IsAtPart (drop k bytes) → TextEnd bytes at

some_text : (p : Part) → 1 ≤ length (part_text p)
some_text (Plain b) = omega arith
some_text (Short c) = omega arith
some_text (Code ds) = omega arith

head_is : (bytes : List ℕ) (k : ℕ) → k < length bytes → get_or (drop k bytes) 0 0 ≡ get_or bytes k 0
head_is bytes k lt = ap (λ (bs : List ℕ). get_or bs 0 0) (front bytes k lt)

text_from : (fuel : ℕ) (bytes : List ℕ) (at k : ℕ) (out : List ℕ) → TextUpTo bytes at k out → at < k → length bytes ≤ k + fuel → TextEnd bytes at
text_from zero bytes at k out t lt enough = text_cut k out t (drop_all k bytes (omega (arith, enough)))
text_from (suc fuel) bytes at k out t lt enough =
    elim (cases_lt k (length bytes)) [
      | inr ge ↦ text_cut k out t (drop_all k bytes ge)
      | inl inside ↦ elim (cases_eq (get_or bytes k 0) 34) [
        | inl quote ↦ text_closed k out t lt inside quote
        | inr not_quote ↦ elim (cases_eq (get_or bytes k 0) 92) [
          | inl slash ↦ elim (escape_or_not (drop k bytes) (head_is bytes k inside ∙ slash)) [
            | inl p ↦ text_from fuel bytes at (k + length (part_text p.0)) (out ++ part_value p.0) (part_more bytes at k out p.0 p.1 t p.2 p.3) (omega (arith, lt)) (omega (arith, enough, some_text p.0))
            | inr no_part ↦ text_bad k out t inside slash no_part
          ]
          | inr not_slash ↦ text_from fuel bytes at (k + 1) (out ++ get_or bytes k 0 ∷ []) (part_more bytes at k out (Plain (get_or bytes k 0)) (drop (k + 1) bytes) t (not_quote, not_slash) (front bytes k inside)) (omega (arith, lt)) (omega (arith, enough))
        ]
      ]
    ]

texting : (bytes : List ℕ) (os : List Open) (fs : List PlainForm) (at : ℕ) → Holds bytes os fs (drop at bytes) → at < length bytes → ¬ IsFull os fs → TextEnd bytes at → Turn bytes at
texting bytes os fs at h lt room (text_cut k out t is) = stopped bytes at _ _ (stop_text bytes os fs at _ _ h lt room (text_unclosed bytes at k out t is))
texting bytes os fs at h lt room (text_bad k out t inside is no_part) = stopped bytes at _ _ (stop_text bytes os fs at _ _ h lt room (text_bad_escape bytes at k out t inside is no_part))
texting bytes os fs at h lt room (text_closed k out t later inside is) =
    elim (cases_lt 65535 (length out)) [
      | inl long ↦ stopped bytes at _ _ (stop_text bytes os fs at _ _ h lt room (text_too_long bytes at k out t inside is long))
      | inr short ↦ settled bytes os fs _ at (k + 1) (step_text bytes os fs at k out h lt t inside is short room) (omega (arith, later)) (omega (arith, inside))
    ]

-- ---- by the byte that stands there

by_part : (bytes : List ℕ) (os : List Open) (fs : List PlainForm) (at : ℕ) → Holds bytes os fs (drop at bytes) → at < length bytes → begins_part (get_or bytes at 0) ≡ true → ¬ IsFull os fs → Turn bytes at
by_part bytes os fs at h lt begins room =
    let b : ℕ = get_or bytes at 0 in
    elim (cases_Bool (is_left_out_byte b)) [
      | inl left ↦ stopped bytes at _ _ (stop_left_out bytes os fs at h lt left room)
      | inr not_left ↦ elim (cases_eq b 40) [
        | inl e ↦ opening bytes os fs at (Some Round) h lt e room
        | inr o ↦ elim (cases_eq b 91) [
          | inl e ↦ opening bytes os fs at (Some Square) h lt e room
          | inr p ↦ elim (cases_eq b 64) [
            | inl e ↦ opening bytes os fs at None h lt e room
            | inr q ↦ elim (cases_eq b 34) [
              | inl e ↦ texting bytes os fs at h lt room (text_from (length bytes) bytes at (at + 1) [] (text_begins bytes at (front bytes at lt ∙ ap (λ (c : ℕ). c ∷ drop (at + 1) bytes) e)) (omega arith) (omega arith))
              | inr r ↦ (let is = word_byte b begins not_left o p q r in
                  let run = run_of is_word_byte (drop at bytes) in
                  wording bytes os fs at run.0 _ h lt is run.1 (some_run is_word_byte bytes at run.0 lt is run.1) refl room)
            ]
          ]
        ]
      ]
    ]

all_or_not : (b : Option Bracket) (fs : List PlainForm) → HasAll b (length fs) ⊎ ¬ HasAll b (length fs)
all_or_not None fs = inr (λ h. h)
all_or_not (Some b) fs =
    elim (cases_lt (length fs) 65535) [
      | inl lt ↦ inr (λ h. omega (arith, lt, h))
      | inr ge ↦ inl ge
    ]

full_or_not : (os : List Open) (fs : List PlainForm) → Ended os → IsFull os fs ⊎ ¬ IsFull os fs
full_or_not os fs (empty e) = inr (λ h. subst (λ (ps : List Open). IsFull ps fs) e h)
full_or_not os fs (behind init o e) =
    elim (all_or_not o.bracket fs) [
      | inl all ↦ inl (subst (λ (ps : List Open). IsFull ps fs) (sym e) (IsFull-push init o fs all))
      | inr some ↦ inr (λ h. some (IsFull-last init o fs (subst (λ (ps : List Open). IsFull ps fs) e h)))
    ]

by_mark : (bytes : List ℕ) (os : List Open) (fs : List PlainForm) (at : ℕ) → Holds bytes os fs (drop at bytes) → at < length bytes → is_white (get_or bytes at 0) ≡ false → Turn bytes at
by_mark bytes os fs at h lt not_white =
    let b : ℕ = get_or bytes at 0 in
    elim (cases_eq b 59) [
      | inl e ↦ (let run = run_of (λ c. not (is_line_end c)) (drop (at + 1) bytes) in
          inl (record { to = at + 1 + run.0; openings = os; forms = fs; later = omega arith; within = omega (arith, run.1.short, length-drop (at + 1) bytes); holds = step_comment bytes os fs at run.0 h lt e run.1 }))
      | inr c ↦ elim (cases_eq b 41) [
        | inl e ↦ closing bytes os fs at Round h lt e (ended os)
        | inr q ↦ elim (cases_eq b 93) [
          | inl e ↦ closing bytes os fs at Square h lt e (ended os)
          | inr r ↦ (let begins = part_byte b not_white c q r in
              elim (full_or_not os fs (ended os)) [
                | inl full ↦ stopped bytes at _ _ (stop_full bytes os fs at h lt begins full)
                | inr room ↦ by_part bytes os fs at h lt begins room
              ])
        ]
      ]
    ]

finish : (bytes : List ℕ) (os : List Open) (fs : List PlainForm) (at : ℕ) → Holds bytes os fs (drop at bytes) → at ≡ length bytes → Ended os → Ends bytes
finish bytes os fs at h e (empty none_open) =
    let done : drop at bytes ≡ [] = ap (λ (n : ℕ). drop n bytes) e ∙ drop-length bytes in
    inl (fs, subst (λ (rest : List ℕ). Holds bytes [] fs rest) done (subst (λ (ps : List Open). Holds bytes ps fs (drop at bytes)) none_open h))
finish bytes os fs at h e (behind init o some_open) =
    inr (record { kind = _; span = _; stops = stop_unclosed bytes init fs o (subst (λ (n : ℕ). Holds bytes (init ++ o ∷ []) fs (drop n bytes)) e (subst (λ (ps : List Open). Holds bytes ps fs (drop at bytes)) some_open h)) })

turn : (bytes : List ℕ) (os : List Open) (fs : List PlainForm) (at : ℕ) → Holds bytes os fs (drop at bytes) → at < length bytes → Turn bytes at
turn bytes os fs at h lt =
    let b : ℕ = get_or bytes at 0 in
    elim (cases_Bool (is_white b)) [
      | inl white ↦ inl (record { to = at + 1; openings = os; forms = fs; later = omega arith; within = omega arith; holds = step_white bytes os fs at h lt white })
      | inr not_white ↦ by_mark bytes os fs at h lt not_white
    ]

go : (fuel : ℕ) (bytes : List ℕ) (os : List Open) (fs : List PlainForm) (at : ℕ) → Holds bytes os fs (drop at bytes) → at ≤ length bytes → length bytes ≤ at + fuel → Ends bytes
go zero bytes os fs at h le enough = finish bytes os fs at h (omega arith) (ended os)
go (suc fuel) bytes os fs at h le enough =
    elim (cases_lt at (length bytes)) [
      | inl lt ↦ elim (turn bytes os fs at h lt) [
        | inl next ↦ go fuel bytes next.openings next.forms next.to next.holds next.within (omega (arith, next.later))
        | inr stops ↦ inr stops
      ]
      | inr ge ↦ finish bytes os fs at h (omega arith) (ended os)
    ]

decided_within : (bytes : List ℕ) → Ends bytes
decided_within bytes = go (length bytes) bytes [] [] 0 (record { pieces = []; splits = refl; spells = refl; limits = (omega arith, tt) }) (omega arith) (omega arith)

-- ---- with the length and the characters

-- the longest front of UTF-8 among those of at most k bytes
pub record Front (bytes : List ℕ) (k : ℕ) : Type 0 where
  pub len : ℕ
  pub low : len ≤ k
  pub utf8 : IsUtf8 (take len bytes)
  pub longest : (m : ℕ) → len < m → m ≤ k → ¬ IsUtf8 (take m bytes)

front_of : (bytes : List ℕ) (k : ℕ) → Front bytes k
front_of bytes zero = record { len = 0; low = omega arith; utf8 = IsUtf8-nil; longest = λ m lt le. absurd (omega arith) }
front_of bytes (suc k) =
    let shorter = front_of bytes k in
    elim (cases_Bool (is_utf8 (take (suc k) bytes))) [
      | inl holds ↦ record { len = suc k; low = omega arith; utf8 = IsUtf8-from_is_utf8 _ holds; longest = λ m lt le. absurd (omega arith) }
      | inr fails ↦ record {
        len = shorter.len;
        low = omega (arith, shorter.low);
        utf8 = shorter.utf8;
        longest = λ m lt le u. elim (cases_eq m (suc k)) [
          | inl e ↦ false≢true (sym fails ∙ is_utf8-from_IsUtf8 _ (subst (λ (n : ℕ). IsUtf8 (take n bytes)) e u))
          | inr ne ↦ shorter.longest m lt (omega arith) u
        ];
      }
    ]

within_bytes : (bytes : List ℕ) (m : ℕ) → length bytes < m → take m bytes ≡ take (length bytes) bytes
within_bytes bytes m lt = take_all m bytes (omega arith) ∙ sym (take_all (length bytes) bytes (omega arith))

-- a text is UTF-8, or there is a first byte that begins no character
utf8_or_not : (bytes : List ℕ) → IsUtf8 bytes ⊎ ((n : ℕ) × IsValidUpTo bytes n)
utf8_or_not bytes =
    let f = front_of bytes (length bytes) in
    elim (cases_lt f.len (length bytes)) [
      | inl short ↦ inr (
        f.len,
        record {
          short = short;
          front = f.utf8;
          longest = λ m lt u. elim (cases_lt (length bytes) m) [
            | inl past ↦ f.longest (length bytes) short (omega arith) (subst IsUtf8 (within_bytes bytes m past) u)
            | inr le ↦ f.longest m lt le u
          ];
        },
      )
      | inr whole ↦ inl (subst IsUtf8 (take_all f.len bytes whole) f.utf8)
    ]

pub decided : (bytes : List ℕ) → ((forms : List PlainForm) × Reads bytes forms) ⊎ ((k : ReadErrorKind) × (s : Span) × ReadStops bytes k s)
decided bytes =
    elim (cases_lt 1048576 (length bytes)) [
      | inl long ↦ inr (_, _, too_long long refl refl)
      | inr short ↦ elim (utf8_or_not bytes) [
        | inl u ↦ elim (decided_within bytes) [
          | inl r ↦ inl (r.0, record { short = short; utf8 = u; holds = r.1 })
          | inr s ↦ inr (s.kind, s.span, within short u s.stops)
        ]
        | inr n ↦ inr (_, _, no_text n.0 short n.1 refl refl)
      ]
    ]
