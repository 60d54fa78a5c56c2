-- Values behind their tags, and how deep they are.
use Rattle.std.proofs.Common.{◌≡◌, ℕ, Bool, zero, suc, ◌-◌, ◌<◌, ◌≤◌, List, length, Option, Some, None, Result, Ok, refl, sym, ap, subst, ◌∙◌, arith}
use Rattle.std.specs.Int.{w16, w64}
use mir.Val.{to_z}
use Rattle.std.specs.List.{AllByRecursion}
use Rattle.txs_value_data.specs.Limits.{IsVector}
use Rattle.txs_value_data.specs.PlainValue.{PlainValue, PlainValues, nil, truth, int, key, text, vector, cell, end, more, depth, row_depth, plain_row, plain_list}
use Rattle.txs_value_data.specs.declared.value.CellKind.{CellKind}
use Rattle.txs_code_decode.specs.declared.error.CodeErrorKind.{CodeErrorKind}
use Rattle.txs_code_decode.specs.declared.error.CodeErrorKind.TheVariants.{BadOpcode}
use Rattle.txs_code_decode.specs.declared.error.Refusal.{Refusal}
use Rattle.txs_code_decode.specs.declared.tag.Tag.{Tag}
use Rattle.txs_code_decode.specs.declared.tag.Tag.TheVariants as tag
use Rattle.txs_code_decode.specs.declared.error.Stop.{Stop}
use Rattle.txs_code_decode.specs.declared.error.Stop.TheVariants as stops
use Rattle.txs_code_decode.specs.Format.{Format, Read, ◌>>=◌, Fails, byte, judge, many_at, number_at, one_of}
use Rattle.txs_code_decode.specs.ValueForm.{tags, tag_byte, tag_format, tag_test, value_body, value_over, value_format, item_format}
use Rattle.txs_code_decode.proofs.Exact.{IsBytes, bind_ok, many_exact, ok_is}
use Rattle.txs_code_decode.proofs.ValueExact.{n16, plain_row_again, value_exact}

pub value_read : (cells : Bool) (kinds : List CellKind) (room : ℕ) (bytes : List ℕ) → (value_format cells kinds room).read bytes ≡ (value_over cells kinds room (item_format cells kinds room)).read bytes
unfolding value_format
value_read cells kinds zero bytes = refl
value_read cells kinds (suc room) bytes = refl

-- where a vector may stand, there is room for its level
pub room_is : (cells : Bool) (room : ℕ) → tag_test cells room tag.Vector ≡ None → 0 < room
room_is cells zero h = absurd cc
room_is cells (suc room) h = omega arith

pub item_room : (cells : Bool) (kinds : List CellKind) (room : ℕ) → 0 < room → item_format cells kinds room ≡ value_format cells kinds (room - 1)
item_room cells kinds zero h = absurd (omega (arith, h))
item_room cells kinds (suc room) h = ap (value_format cells kinds) (let e : room ≡ suc room - 1 = omega arith in e)

mutual
  unfolding value_format tag_format

  -- a value that fits has no more levels than there is room for
  pub value_deep : (cells : Bool) (kinds : List CellKind) (room : ℕ) (v : PlainValue) → (value_format cells kinds room).fits v → depth v ≤ room
  value_deep cells kinds room nil fits = omega arith
  value_deep cells kinds room (truth b) fits = omega arith
  value_deep cells kinds room (int z) fits = omega arith
  value_deep cells kinds room (key bs) fits = omega arith
  value_deep cells kinds room (text bs) fits = omega arith
  value_deep cells kinds zero (vector vs) fits = let bad = fits.0.1 in absurd cc
  value_deep cells kinds (suc room) (vector vs) fits = let less = row_deep cells kinds room vs fits.1.0.0.1.1 in omega (arith, less)
  value_deep cells kinds room (cell c) fits = omega arith

  pub row_deep : (cells : Bool) (kinds : List CellKind) (room : ℕ) (vs : PlainValues) → AllByRecursion (value_format cells kinds room).fits (plain_list vs) → row_depth vs ≤ room
  row_deep cells kinds room end fits = omega arith
  row_deep cells kinds room (more v vs) fits = omega (arith, value_deep cells kinds room v fits.0, row_deep cells kinds room vs fits.1)

-- what is read behind a count is what a vector may have
pub is_vector : (cells : Bool) (kinds : List CellKind) (room : ℕ) (bytes rest after : List ℕ) (count : ℕ) (ds : List PlainValue) → room ≤ 31 → IsBytes bytes → number_at w16 bytes ≡ Ok (count, rest)
    → many_at (value_format cells kinds room).read count rest ≡ Ok (ds, after) → IsVector ds
is_vector cells kinds room bytes rest after count ds few fits h k =
    let t = n16.takes bytes (count, rest) fits h in
    let u = (many_exact count (value_format cells kinds room) (value_exact cells kinds room)).takes rest (ds, after) t.rest k in
    let all = subst (λ (xs : List PlainValue). AllByRecursion (value_format cells kinds room).fits xs) (sym (plain_row_again ds)) u.fits.1 in
    let deep = row_deep cells kinds room (plain_row ds) all in
    let small : count < 65536 = t.fits in
    let long : length ds ≡ count = u.fits.0 in
    (omega (arith, small, long), omega (arith, few, deep))

judged : {A : Type 0} (o : Option CodeErrorKind) (bytes : List ℕ) (a : A) (rest : List ℕ) (x : A × List ℕ) → judge o bytes a rest ≡ Ok x → (o ≡ None) × (a ≡ x.0)
judged {A = A} None bytes a rest x e = (refl, ap (λ (p : A × List ℕ). p.0) (ok_is (a, rest) x e))
judged {A = A} (Some k) bytes a rest x e = absurd cc

-- a tag that was read may stand
pub tag_stands : (cells : Bool) (room : ℕ) (bytes : List ℕ) (tag : Tag) (rest : List ℕ) → (tag_format cells room).read bytes ≡ Ok (tag, rest) → tag_test cells room tag ≡ None
unfolding tag_format
tag_stands cells room bytes tag rest h =
    let p = bind_ok ((one_of byte tags tag_byte BadOpcode).read bytes) (λ x. judge (tag_test cells room x.0) bytes x.0 x.1) (tag, rest) h in
    let j = judged (tag_test cells room p.0.0) bytes p.0.0 p.0.1 (tag, rest) p.2 in
    subst (λ (t : Tag). tag_test cells room t ≡ None) j.1 j.0

-- a first field that is refused refuses all
pub fails_first : {A B : Type 0} (e : Stop) (r : Result A Refusal) (f : A → Result B Refusal) → Fails e r → Fails e (r >>= f)
fails_first stops.Memory r f h = tt
fails_first (stops.Refused d) r f h = ap (λ r. r >>= f) h

pub value_reads : (cells : Bool) (kinds : List CellKind) (room : ℕ) (bytes : List ℕ) (tag : Tag) (rest : List ℕ) → (tag_format cells room).read bytes ≡ Ok (tag, rest)
    → (value_format cells kinds room).read bytes ≡ (value_body kinds (item_format cells kinds room) tag).read rest
value_reads cells kinds room bytes tag rest h =
    value_read cells kinds room bytes ∙ ap (λ (r : Read Tag). r >>= λ x. (value_body kinds (item_format cells kinds room) x.0).read x.1) h

pub value_fails : (cells : Bool) (kinds : List CellKind) (room : ℕ) (bytes : List ℕ) (e : Stop) → Fails e ((tag_format cells room).read bytes) → Fails e ((value_format cells kinds room).read bytes)
value_fails cells kinds room bytes e h =
    rw value_read (fails_first e ((tag_format cells room).read bytes) (λ x. (value_body kinds (item_format cells kinds room) x.0).read x.1) h)

-- the same, of a tag that is known
pub value_tagged : (cells : Bool) (kinds : List CellKind) (room : ℕ) (bytes : List ℕ) (t u : Tag) (rest : List ℕ) → (tag_format cells room).read bytes ≡ Ok (t, rest) → t ≡ u
    → (value_format cells kinds room).read bytes ≡ (value_body kinds (item_format cells kinds room) u).read rest
value_tagged cells kinds room bytes t u rest h is =
    value_reads cells kinds room bytes t rest h ∙ ap (λ (x : Tag). (value_body kinds (item_format cells kinds room) x).read rest) is

-- where the tag of a vector was read, there is room for its level
pub vector_room : (cells : Bool) (room : ℕ) (bytes : List ℕ) (t : Tag) (rest : List ℕ) → (tag_format cells room).read bytes ≡ Ok (t, rest) → t ≡ tag.Vector → 0 < room
vector_room cells room bytes t rest h is =
    room_is cells room (subst (λ (x : Tag). tag_test cells room x ≡ None) is (tag_stands cells room bytes t rest h))

pub vector_tagged : (cells : Bool) (kinds : List CellKind) (room : ℕ) (bytes : List ℕ) (t : Tag) (rest : List ℕ) → (tag_format cells room).read bytes ≡ Ok (t, rest) → t ≡ tag.Vector
    → (value_format cells kinds room).read bytes ≡ (value_body kinds (value_format cells kinds (room - 1)) tag.Vector).read rest
vector_tagged cells kinds room bytes t rest h is =
    let some = vector_room cells room bytes t rest h is in
    let same : (value_body kinds (item_format cells kinds room) tag.Vector).read rest ≡ (value_body kinds (value_format cells kinds (room - 1)) tag.Vector).read rest = rw (item_room cells kinds room some) refl in
    value_tagged cells kinds room bytes t tag.Vector rest h is ∙ same

-- a number, read behind its tag
pub int_reads : (cells : Bool) (kinds : List CellKind) (room : ℕ) (bytes : List ℕ) (t : Tag) (rest : List ℕ) (n : ℕ) (after : List ℕ) → (tag_format cells room).read bytes ≡ Ok (t, rest) → t ≡ tag.Int → number_at w64 rest ≡ Ok (n, after)
    → (value_format cells kinds room).read bytes ≡ Ok (int (to_z w64 n), after)
int_reads cells kinds room bytes t rest n after h is k =
    value_tagged cells kinds room bytes t tag.Int rest h is ∙ ap (λ (r : Read ℕ). r >>= λ x. Ok (int (to_z w64 x.0), x.1)) k

pub int_fails : (cells : Bool) (kinds : List CellKind) (room : ℕ) (bytes : List ℕ) (t : Tag) (rest : List ℕ) (e : Stop) → (tag_format cells room).read bytes ≡ Ok (t, rest) → t ≡ tag.Int → Fails e (number_at w64 rest)
    → Fails e ((value_format cells kinds room).read bytes)
int_fails cells kinds room bytes t rest e h is k =
    let same = value_tagged cells kinds room bytes t tag.Int rest h is in
    subst (λ (r : Read PlainValue). Fails e r) (sym same) (fails_first e (number_at w64 rest) (λ x. Ok (int (to_z w64 x.0), x.1)) k)

-- the items of a vector, read behind their count
pub vector_reads : (kinds : List CellKind) (f : Format PlainValue) (bytes rest after : List ℕ) (count : ℕ) (ds : List PlainValue) → number_at w16 bytes ≡ Ok (count, rest) → many_at f.read count rest ≡ Ok (ds, after)
    → (value_body kinds f tag.Vector).read bytes ≡ Ok (vector (plain_row ds), after)
vector_reads kinds f bytes rest after count ds h k = rw (h, k) refl
