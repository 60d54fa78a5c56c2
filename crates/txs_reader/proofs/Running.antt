-- What openings and forms tokens leave, token by token: so tokens are spelled by one state alone.
use Rattle.std.proofs.Common.{◌≡◌, ℕ, suc, ◌+◌, ◌-◌, ◌≤◌, Bool, true, false, cond, eqb, ltb, ◌&&◌, List, [], ◌∷◌, ◌++◌, Option, Some, None, length, length-append, drop, refl, sym, ap, subst, ◌∙◌, append_assoc, arith, inl, inr}
use Rattle.std.proofs.lemmas.List.{append-nil}
use Rattle.std.proofs.lemmas.Bool.{cases_Bool, false≢true}
use Rattle.std.proofs.lemmas.Bool.Decides.{nat_tests}
use Rattle.std.proofs.lemmas.Slice.Eq.{bytes_eq-Decides}
use Rattle.std.specs.List.{flat_map}
use Rattle.txs_value_data.specs.declared.fault.Span.{Span}
use Rattle.txs_reader.specs.declared.form.Bracket.{Bracket}
use Rattle.txs_reader.specs.declared.form.Bracket.TheVariants.{Round, Square}
use Rattle.txs_reader.specs.Tree.{symbol, PlainForm, leaf, group, PlainForms, none, first, trees_of, parts, IsNarrow, AreNarrow, place, deref, height, height_within}
use Rattle.txs_reader.specs.Script.{Sign, opens, closes, stands_for, Token, between, spelled, spelled_within, is_sugar, sugar, Open, opened, begun, FitAt, WithinLimits, MayHold, whole, begun_behind}

pub record State : Type 0 where
  pub openings : List Open
  pub forms : List PlainForm

abbrev pub same : Bracket → Bracket → Bool
same Round Round = true
same Square Square = true
same Round Square = false
same Square Round = false

abbrev pub fits : Option Bracket → Bracket → Bool
fits None b = false
fits (Some c) b = same c b

abbrev pub at_bracket : Option Bracket → State → State → State
at_bracket None x y = y
at_bracket (Some b) x y = x

-- a form is whole: each `@` right before it closes with it
abbrev pub complete : List Open → List PlainForm → PlainForm → State
complete [] fs t = record { openings = []; forms = fs ++ t ∷ [] }
complete (o ∷ os) fs t = at_bracket o.bracket (record { openings = o ∷ os; forms = fs ++ t ∷ [] }) (complete os o.before (sugar o.from t))

abbrev pub has_room_in : Option Bracket → List PlainForm → Bool
has_room_in None fs = true
has_room_in (Some b) fs = ltb (length fs) 65535

-- one part more may begin
abbrev pub has_room : List Open → List PlainForm → Bool
has_room [] fs = true
has_room (o ∷ os) fs = has_room_in o.bracket fs

abbrev pub opening : Option Bracket → ℕ → State → Option State
opening b at s = cond (has_room s.openings s.forms) (cond (ltb (length s.openings) 100) (Some (record { openings = opened b at s.forms ∷ s.openings; forms = [] })) None) None

abbrev pub after_close : List Open → List PlainForm → Bracket → ℕ → Option State
after_close [] fs b to = None
after_close (o ∷ os) fs b to = cond (fits o.bracket b) (Some (complete os o.before (group b (trees_of fs) (between o.from to)))) None

abbrev pub after : Sign → Span → State → Option State
after (stands_for x) span s = cond (has_room s.openings s.forms) (Some (complete s.openings s.forms (leaf x span))) None
after (opens b) span s = opening b span.from s
after (closes b) span s = after_close s.openings s.forms b span.to

abbrev pub run : List Token → Option State → Option State
run [] s = s
run (t ∷ ts) None = None
run (t ∷ ts) (Some s) = run ts (after t.sign t.span s)

pub run_none : (ts : List Token) → run ts None ≡ None
run_none [] = refl
run_none (t ∷ ts) = refl

pub run-append : (ts us : List Token) (s : Option State) → run (ts ++ us) s ≡ run us (run ts s)
run-append [] us s = refl
run-append (t ∷ ts) us None = sym (run_none us)
run-append (t ∷ ts) us (Some s) = run-append ts us (after t.sign t.span s)

pub same_itself : (b : Bracket) → same b b ≡ true
same_itself Round = refl
same_itself Square = refl

abbrev listed : PlainForms → List PlainForm
listed none = []
listed (first t ts) = t ∷ listed ts

trees_of_listed : (ts : PlainForms) → trees_of (listed ts) ≡ ts
trees_of_listed none = refl
trees_of_listed (first t ts) = ap (first t) (trees_of_listed ts)

abbrev some_state : State → Option State
some_state s = Some s

abbrev pub state : List Open → List PlainForm → Option State
state os fs = Some (record { openings = os; forms = fs })

below : (m n : ℕ) → m + suc n ≤ 100 → ltb m 100 ≡ true
below m n le = grind (arith, nat_tests)

-- the one part behind the first
abbrev second : PlainForms → Option PlainForm
second none = None
second (first u none) = None
second (first u (first t none)) = Some t
second (first u (first t (first v ts))) = None

-- what `@` and a form make
pub record Sugared (b : Bracket) (ts : PlainForms) (span : Span) : Type 0 where
  pub part : PlainForm
  pub is : second ts ≡ Some part
  pub made : group b ts span ≡ sugar span.from part
  pub tokens : drop 1 (spelled_within ts) ≡ spelled part
  pub low : height part ≤ height_within ts
  pub narrow : AreNarrow ts → IsNarrow part

and_left : (a b : Bool) → (a && b) ≡ true → a ≡ true
and_left true b h = refl
and_left false b h = absurd (false≢true h)

and_right : (a b : Bool) → (a && b) ≡ true → b ≡ true
and_right true b h = h
and_right false b h = absurd (false≢true h)

same_number : (m n : ℕ) → eqb m n ≡ true → m ≡ n
same_number m n e = grind (arith, nat_tests)

spans : (a b : Span) → a.from ≡ b.from → a.to ≡ b.to → a ≡ b
spans a b e f = ap (λ (n : ℕ). between n a.to) e ∙ ap (λ (n : ℕ). between b.from n) f

sugared : (b : Bracket) (ts : PlainForms) (span : Span) → is_sugar b ts span ≡ true → Sugared b ts span
sugared Round (first (leaf (symbol s) at) (first t none)) span e =
    let name : s ≡ deref = (bytes_eq-Decides s deref).0 (and_left _ _ (and_left _ _ (and_left _ _ e))) in
    let from : at.from ≡ span.from = same_number _ _ (and_right _ _ (and_left _ _ (and_left _ _ e))) in
    let to : at.to ≡ span.from + 1 = same_number _ _ (and_right _ _ (and_left _ _ e)) in
    let end : (place t).to ≡ span.to = same_number _ _ (and_right _ _ e) in
    let where_at : at ≡ between span.from (span.from + 1) = spans at (between span.from (span.from + 1)) from to in
    record {
      part = t;
      is = refl;
      made =
          ap (λ (n : List ℕ). group Round (first (leaf (symbol n) at) (first t none)) span) name
          ∙ ap (λ (a : Span). group Round (first (leaf (symbol deref) a) (first t none)) span) where_at
          ∙ ap (λ (n : ℕ). group Round (first (leaf (symbol deref) (between span.from (span.from + 1))) (first t none)) (between span.from n)) (sym end);
      tokens = append-nil (spelled t);
      low = omega arith;
      narrow = λ h. h.1.0;
    }
sugared b ts span e = absurd (false≢true e)

few_parts : (m n : ℕ) → m + suc n ≤ 65535 → ltb m 65535 ≡ true
few_parts m n le = grind (arith, nat_tests)

mutual
  run-spelled : (t : PlainForm) (os : List Open) (fs : List PlainForm) → length os + height t ≤ 100 → IsNarrow t → has_room os fs ≡ true → run (spelled t) (state os fs) ≡ Some (complete os fs t)
  run-spelled (leaf x span) os fs le narrow room = ap (λ (v : Bool). cond v (Some (complete os fs (leaf x span))) None) room
  run-spelled (group b ts span) os fs le narrow room =
      let few : ltb (length os) 100 ≡ true = below (length os) (height_within ts) le in
      elim (cases_Bool (is_sugar b ts span)) [
        | inl is ↦
            let s = sugared b ts span is in
            let o : Open = opened None span.from fs in
            rw is
            (ap (run (drop 1 (spelled_within ts))) (ap (λ (v : Bool). cond v (cond (ltb (length os) 100) (state (o ∷ os) []) None) None) room ∙ ap (λ (v : Bool). cond v (state (o ∷ os) []) None) few)
            ∙ ap (λ (us : List Token). run us (state (o ∷ os) [])) s.tokens
            ∙ run-second ts s.part (o ∷ os) [] s.is (omega (arith, le, s.low)) (s.narrow narrow.1) refl
            ∙ ap (λ (t : PlainForm). Some (complete os fs t)) (sym s.made))
        | inr isnt ↦
            let o : Open = opened (Some b) span.from fs in
            let close : Token = record { sign = closes b; span = between (span.to - 1) span.to } in
            rw isnt
            (ap (run (spelled_within ts ++ close ∷ [])) (ap (λ (v : Bool). cond v (cond (ltb (length os) 100) (state (o ∷ os) []) None) None) room ∙ ap (λ (v : Bool). cond v (state (o ∷ os) []) None) few)
            ∙ run-append (spelled_within ts) (close ∷ []) (state (o ∷ os) [])
            ∙ ap (run (close ∷ [])) (run-spelled_within ts os b span.from fs [] (omega (arith, le)) narrow.1 (omega (arith, narrow.0)))
            ∙ ap (λ (v : Bool). cond v (Some (complete os fs (group b (trees_of (listed ts)) span))) None) (same_itself b)
            ∙ ap (λ (us : PlainForms). Some (complete os fs (group b us span))) (trees_of_listed ts))
      ]

  run-spelled_within : (ts : PlainForms) (os : List Open) (b : Bracket) (from : ℕ) (before fs : List PlainForm) → length os + 1 + height_within ts ≤ 100 → AreNarrow ts → length fs + parts ts ≤ 65535 → run (spelled_within ts) (state (opened (Some b) from before ∷ os) fs) ≡ state (opened (Some b) from before ∷ os) (fs ++ listed ts)
  run-spelled_within none os b from before fs le narrow room = ap (state (opened (Some b) from before ∷ os)) (sym (append-nil fs))
  run-spelled_within (first t ts) os b from before fs le narrow room =
      run-append (spelled t) (spelled_within ts) (state (opened (Some b) from before ∷ os) fs)
      ∙ ap (run (spelled_within ts)) (run-spelled t (opened (Some b) from before ∷ os) fs (omega (arith, le)) narrow.0 (few_parts (length fs) (parts ts) room))
      ∙ run-spelled_within ts os b from before (fs ++ t ∷ []) (omega (arith, le)) narrow.1 (omega (arith, room, length-append fs (t ∷ [])))
      ∙ ap (state (opened (Some b) from before ∷ os)) (append_assoc fs (t ∷ []) (listed ts))

  run-second : (ts : PlainForms) (t : PlainForm) (os : List Open) (fs : List PlainForm) → second ts ≡ Some t → length os + height t ≤ 100 → IsNarrow t → has_room os fs ≡ true → run (spelled t) (state os fs) ≡ Some (complete os fs t)
  run-second none t os fs e le narrow room = absurd cc
  run-second (first u none) t os fs e le narrow room = absurd cc
  run-second (first u (first v (first w ts))) t os fs e le narrow room = absurd cc
  run-second (first u (first v none)) t os fs e le narrow room =
      let k : v ≡ t = cc in
      subst (λ (w : PlainForm). length os + height w ≤ 100 → IsNarrow w → run (spelled w) (state os fs) ≡ Some (complete os fs w)) k (λ le' narrow'. run-spelled v os fs le' narrow' room) le narrow

-- ---- a state that is held

-- the innermost opening may hold so many whole and begun forms
abbrev RoomFor : List Open → ℕ → ℕ → Type 0
RoomFor [] done more = Unit {0}
RoomFor (d ∷ ds) done more = MayHold d.bracket done more

room_in : (b : Option Bracket) (done : ℕ) (fs : List PlainForm) → MayHold b done 1 → done ≡ length fs → has_room_in b fs ≡ true
room_in None done fs h e = refl
room_in (Some b) done fs h e = few_parts (length fs) 0 (omega (arith, h, e))

room_for : (ds : List Open) (fs : List PlainForm) → RoomFor ds (length fs) 1 → has_room ds fs ≡ true
room_for [] fs h = refl
room_for (d ∷ ds) fs h = room_in d.bracket (length fs) fs h refl

form_in : (b : Option Bracket) (done : ℕ) (n : ℕ) (fs : List PlainForm) → MayHold b done 0 → done ≡ length fs + suc n → (has_room_in b fs ≡ true) × ((x y : State) → at_bracket b x y ≡ x)
form_in None done n fs h e = absurd (omega (arith, h, e))
form_in (Some b) done n fs h e = (few_parts (length fs) n (omega (arith, h, e)), λ x y. refl)

-- a form more where forms are whole
one_form : (ds : List Open) (fs : List PlainForm) (n : ℕ) (t : PlainForm) → RoomFor ds (length fs + suc n) 0 → length ds + height t ≤ 100 → IsNarrow t → run (spelled t) (state ds fs) ≡ state ds (fs ++ t ∷ [])
one_form [] fs n t h le narrow = run-spelled t [] fs le narrow refl
one_form (d ∷ ds) fs n t h le narrow =
    let room = form_in d.bracket (length fs + suc n) n fs h refl in
    run-spelled t (d ∷ ds) fs le narrow room.0 ∙ ap some_state (room.1 _ _)

run-forms : (gs : List PlainForm) (ds : List Open) (fs : List PlainForm) → RoomFor ds (length fs + length gs) 0 → FitAt (length ds) gs → run (flat_map spelled gs) (state ds fs) ≡ state ds (fs ++ gs)
run-forms [] ds fs room fit = ap (state ds) (sym (append-nil fs))
run-forms (g ∷ gs) ds fs room fit =
    let e : length fs + suc (length gs) ≡ length (fs ++ g ∷ []) + length gs = omega (arith, length-append fs (g ∷ [])) in
    run-append (spelled g) (flat_map spelled gs) (state ds fs)
    ∙ ap (run (flat_map spelled gs)) (one_form ds fs (length gs) g room (omega (arith, fit.0)) fit.1.0)
    ∙ run-forms gs ds (fs ++ g ∷ []) (subst (λ (n : ℕ). RoomFor ds n 0) e room) (omega (arith, fit.0), fit.1.1)
    ∙ ap (state ds) (append_assoc fs (g ∷ []) gs)

-- os, the outermost first, onto those that are open already, the innermost first
abbrev pub onto : List Open → List Open → List Open
onto [] done = done
onto (o ∷ os) done = onto os (o ∷ done)

less_begun : (ds : List Open) (n : ℕ) → RoomFor ds n 1 → RoomFor ds n 0
less_begun [] n h = h
less_begun (d ∷ ds) n h = less_in d.bracket n h
  where
    less_in : (b : Option Bracket) (n : ℕ) → MayHold b n 1 → MayHold b n 0
    less_in None n h = h
    less_in (Some b) n h = omega arith

pub level-limits : (n : ℕ) (os : List Open) (fs : List PlainForm) → WithinLimits n os fs → n + length os ≤ 100
level-limits n [] fs h = omega (arith, h.0)
level-limits n (o ∷ os) fs h = omega (arith, level-limits (n + 1) os fs h.2)

pub run-holds : (os : List Open) (fs : List PlainForm) (done : List Open) → WithinLimits (length done) os fs → RoomFor done (whole os fs) (begun_behind os) → run (flat_map begun os ++ flat_map spelled fs) (state done []) ≡ state (onto os done) fs
run-holds [] fs done h room = run-forms fs done [] (subst (λ (n : ℕ). RoomFor done n 0) (omega arith) room) h
run-holds (o ∷ os) fs done h room =
    let open_sign : Token = record { sign = opens o.bracket; span = between o.from (o.from + 1) } in
    let deep : length done + 1 ≤ 100 = omega (arith, level-limits (length done + 1) os fs h.2) in
    let few : ltb (length done) 100 ≡ true = grind (arith, nat_tests) in
    let e : length done + 1 ≡ length (o ∷ done) = omega arith in
    let zero_more : length o.before ≡ 0 + length o.before = omega arith in
    ap (λ (ts : List Token). run ts (state done [])) (append_assoc (begun o) (flat_map begun os) (flat_map spelled fs))
    ∙ run-append (begun o) (flat_map begun os ++ flat_map spelled fs) (state done [])
    ∙ ap (run (flat_map begun os ++ flat_map spelled fs))
    (run-append (flat_map spelled o.before) (open_sign ∷ []) (state done [])
    ∙ ap (run (open_sign ∷ [])) (run-forms o.before done [] (subst (λ (n : ℕ). RoomFor done n 0) zero_more (less_begun done (length o.before) room)) h.0)
    ∙ ap (λ (v : Bool). cond v (cond (ltb (length done) 100) (state (o ∷ done) []) None) None) (room_for done o.before room)
    ∙ ap (λ (v : Bool). cond v (state (o ∷ done) []) None) few)
    ∙ run-holds os fs (o ∷ done) (subst (λ (n : ℕ). WithinLimits n os fs) e h.2) h.1
