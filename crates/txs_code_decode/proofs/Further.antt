-- What is read of some bytes is read of them with more behind them; and what they are refused for stays, but that they end too early.
use Rattle.std.proofs.Common.{◌≡◌, ◌⊎◌, ◌<◌, ◌≤◌, ℕ, zero, suc, ◌+◌, ◌-◌, Bool, true, false, cond, ltb, eqb, List, [], ◌∷◌, ◌++◌, length, take, drop, Option, Some, None, Result, Ok, Err, refl, sym, ap, ◌∙◌, append_assoc, arith, inl, inr}
use Rattle.std.specs.Int.{Width, w16, w32, w64, byte_len, from_be_bytes}
use Rattle.std.proofs.lemmas.Bool.{ltb-false, le-ltb}
use Rattle.std.proofs.lemmas.Bool.Decides.{eqb_tells}
use Rattle.std.proofs.lemmas.List.{length-append, length-take, take-append-drop, take_at, drop_at}
use Rattle.txs_value_data.specs.Places.{nth}
use Rattle.txs_value_data.specs.Operations.{operations, op_number}
use Rattle.txs_value_data.specs.Limits.{most_definitions, most_threads}
use Rattle.txs_value_data.specs.PlainValue.{PlainValue}
use Rattle.txs_value_data.specs.View.{plain_of, value_of}
use Rattle.txs_value_data.specs.declared.value.CellKind.{CellKind}
use Rattle.txs_value_data.specs.declared.op.Callee.{Callee}
use Rattle.txs_code_meaning.specs.declared.instr.Instr.{Instr}
use Rattle.txs_code_meaning.specs.declared.instr.Instr.TheVariants as instr
use Rattle.txs_code_meaning.specs.PlainCode.{CodeBody, PlainCode}
use Rattle.txs_code_decode.specs.declared.error.CodeError.{CodeError}
use Rattle.txs_code_decode.specs.declared.error.CodeErrorKind.{CodeErrorKind}
use Rattle.txs_code_decode.specs.declared.error.CodeErrorKind.TheVariants.{BadOpcode, BadOperand, Trailing, Truncated}
use Rattle.txs_code_decode.specs.declared.error.Refusal.{Refusal}
use Rattle.txs_code_decode.specs.declared.opcode.Opcode.{Opcode}
use Rattle.txs_code_decode.specs.declared.opcode.Opcode.TheVariants as opcode
use Rattle.txs_code_decode.specs.declared.tag.CalleeTag.{CalleeTag}
use Rattle.txs_code_decode.specs.declared.tag.CalleeTag.TheVariants as callee_tag
use Rattle.txs_code_decode.specs.declared.tag.ValidatorTag.{ValidatorTag}
use Rattle.txs_code_decode.specs.declared.tag.ValidatorTag.TheVariants as validator_tag
use Rattle.txs_code_decode.specs.declared.tag.Tag.{Tag}
use Rattle.txs_code_decode.specs.declared.tag.Tag.TheVariants as tag
use Rattle.txs_code_decode.specs.CellForm.{kinds, kind_byte, modes, mode_byte, kind_format, mode_format, constant_format, validator_tags, validator_byte, validator_tag_of, validator_body, validator_format, cell_format, kinds_of}
use Rattle.txs_code_decode.specs.CodeForm.{at_place, all_instructions, bodies_format, body_format, body_of, body_parts, cells_format, code_format, constants_format, decoded, functions_format, instructions, magic_format, most_instructions, parameters_format, program_format, refusal_of, threads_format, told_cells_format}
use Rattle.txs_code_decode.specs.Format.{Read, refuse, ◌>>=◌, Test, judge, judge_left, found, Format, byte_at, byte, bytes_at, some_bytes, number_at, number, tested, tested_before, one_of, only, never, pair, mapped, many_at, many, counted, tagged, sharing_at, sharing, whole}
use Rattle.txs_code_decode.specs.InstrForm.{callee_and_count, callee_body, callee_byte, callee_format, callee_tag_of, callee_tags, instr_format, op_format, opcode_format, opcode_of, opcodes, opcode_byte, operands, placed_format, span_format}
use Rattle.txs_code_decode.specs.Names.{names_cell, names_keyword}
use Rattle.txs_code_decode.specs.ValueForm.{at_most, below, cell_name_format, keyword_format, name_over, tag_byte, tag_format, tag_of, tag_test, tags, text_format, value_body, value_format}

abbrev done : {A : Type 0} → A → Result A Refusal
done x = Ok x

abbrev lost : {A : Type 0} → Refusal → Result A Refusal
lost r = Err r

ok_is : {A : Type 0} (x y : A) → done x ≡ done y → x ≡ y
ok_is x y e = cc

err_is : {A : Type 0} (r s : Refusal) → lost {A = A} r ≡ lost {A = A} s → r ≡ s
err_is r s e = cc

-- the same refusal, where more stands behind
abbrev pub further : List ℕ → Refusal → Refusal
further more r = record { kind = r.kind; left = r.left + length more }

refused_further : {A : Type 0} (kind : CodeErrorKind) (bytes more : List ℕ) → refuse {A = A} kind (bytes ++ more) ≡ lost {A = A} (further more (record { kind = kind; left = length bytes }))
refused_further kind bytes more = ap (λ n. Err (record { kind = kind; left = n })) (length-append bytes more)

-- a value with what stands behind it, and more
abbrev pub with_more : {A : Type 0} → List ℕ → A × List ℕ → A × List ℕ
with_more more x = (x.0, x.1 ++ more)

-- what is read stays so, and what is refused, whatever stands behind
pub record StaysBy {A : Type 0} (read : List ℕ → Read A) : Type 0 where
  pub on : (bytes more : List ℕ) (x : A × List ℕ) → read bytes ≡ Ok x → read (bytes ++ more) ≡ Ok (with_more more x)
  pub off : (bytes more : List ℕ) (r : Refusal) → read bytes ≡ Err r → (r.kind ≡ Truncated → ⊥) → read (bytes ++ more) ≡ Err (further more r)

-- so of a format
pub record Stays {A : Type 0} (f : Format A) : Type 0 where
  pub by : StaysBy f.read

bind_ok : {A B : Type 0} (r : Result A Refusal) (f : A → Result B Refusal) (y : B) → (r >>= f) ≡ Ok y → (x : A) × (r ≡ Ok x) × (f x ≡ Ok y)
bind_ok (Ok x) f y e = (x, refl, e)
bind_ok (Err d) f y e = absurd cc

bind_err : {A B : Type 0} (r : Result A Refusal) (f : A → Result B Refusal) (d : Refusal) → (r >>= f) ≡ Err d → (r ≡ Err d) ⊎ ((x : A) × (r ≡ Ok x) × (f x ≡ Err d))
bind_err (Ok x) f d e = inr (x, refl, e)
bind_err {A} {B} (Err s) f d e = inl (ap (λ k. lost {A = A} k) (err_is {A = B} s d e))

-- ---- fields

truncated_not : {A P : Type 0} (bytes : List ℕ) (r : Refusal) → refuse {A = A} Truncated bytes ≡ lost {A = A} r → (r.kind ≡ Truncated → ⊥) → P
truncated_not {A} bytes r e other = absurd (other (ap (λ (s : Refusal). s.kind) (sym (err_is {A = A} (record { kind = Truncated; left = length bytes }) r e))))

byte_on : (bytes more : List ℕ) (x : ℕ × List ℕ) → byte_at bytes ≡ Ok x → byte_at (bytes ++ more) ≡ Ok (with_more more x)
unfolding byte_at
byte_on [] more x e = absurd cc
byte_on (b ∷ rest) more x e = ap (λ y. Ok (with_more more y)) (ok_is (b, rest) x e)

byte_off : (bytes more : List ℕ) (r : Refusal) → byte_at bytes ≡ Err r → (r.kind ≡ Truncated → ⊥) → byte_at (bytes ++ more) ≡ Err (further more r)
unfolding byte_at
byte_off [] more r e other = truncated_not {A = ℕ × List ℕ} [] r e other
byte_off (b ∷ rest) more r e other = absurd cc

byte_stays : Stays byte
byte_stays = record { by = record { on = byte_on; off = byte_off } }

guard_ok : {A : Type 0} (b : Bool) (bytes : List ℕ) (r : Result A Refusal) (y : A) → cond b (refuse Truncated bytes) r ≡ Ok y → (b ≡ false) × (r ≡ Ok y)
guard_ok true bytes r y e = absurd cc
guard_ok false bytes r y e = (refl, e)

guard_err : {A P : Type 0} (b : Bool) (bytes : List ℕ) (y : A) (r : Refusal) → cond b (refuse Truncated bytes) (Ok y) ≡ lost {A = A} r → (r.kind ≡ Truncated → ⊥) → P
guard_err {A} true bytes y r e other = truncated_not {A = A} bytes r e other
guard_err false bytes y r e other = absurd cc

-- a front of bytes, and what stands behind it
cut_on : (n : ℕ) (bytes more : List ℕ) → n ≤ length bytes → (take n (bytes ++ more) ≡ take n bytes) × (drop n (bytes ++ more) ≡ drop n bytes ++ more)
cut_on n bytes more long =
    let parts : bytes ++ more ≡ take n bytes ++ (drop n bytes ++ more) = ap (λ l. l ++ more) (sym (take-append-drop n bytes)) ∙ append_assoc (take n bytes) (drop n bytes) more in
    let len : length (take n bytes) ≡ n = omega (arith, length-take n bytes, long) in
    (ap (take n) parts ∙ take_at (take n bytes) (drop n bytes ++ more) n len, ap (drop n) parts ∙ drop_at (take n bytes) (drop n bytes ++ more) n len)

longer : (n : ℕ) (bytes more : List ℕ) → n ≤ length bytes → ltb (length (bytes ++ more)) n ≡ false
longer n bytes more long = le-ltb _ _ (omega (arith, length-append bytes more, long))

some_on : (n : ℕ) (bytes more : List ℕ) (x : List ℕ × List ℕ) → bytes_at n bytes ≡ Ok x → bytes_at n (bytes ++ more) ≡ Ok (with_more more x)
unfolding bytes_at
some_on n bytes more x e =
    let g = guard_ok (ltb (length bytes) n) [] (Ok (take n bytes, drop n bytes)) x e in
    let long : n ≤ length bytes = ltb-false _ _ g.0 in
    let cut = cut_on n bytes more long in
    rw (longer n bytes more long, cut.0, cut.1) (ap (λ y. Ok (with_more more y)) (ok_is (take n bytes, drop n bytes) x g.1))

some_off : (n : ℕ) (bytes more : List ℕ) (r : Refusal) → bytes_at n bytes ≡ Err r → (r.kind ≡ Truncated → ⊥) → bytes_at n (bytes ++ more) ≡ Err (further more r)
unfolding bytes_at
some_off n bytes more r e other = guard_err (ltb (length bytes) n) [] (take n bytes, drop n bytes) r e other

some_stays : (n : ℕ) → Stays (some_bytes n)
some_stays n = record { by = record { on = some_on n; off = some_off n } }

number_on : (w : Width) (bytes more : List ℕ) (x : ℕ × List ℕ) → number_at w bytes ≡ Ok x → number_at w (bytes ++ more) ≡ Ok (with_more more x)
unfolding number_at
number_on w bytes more x e =
    let n = byte_len w in
    let g = guard_ok (ltb (length bytes) n) [] (Ok (from_be_bytes w (take n bytes), drop n bytes)) x e in
    let long : n ≤ length bytes = ltb-false _ _ g.0 in
    let cut = cut_on n bytes more long in
    rw (longer n bytes more long, cut.0, cut.1) (ap (λ y. Ok (with_more more y)) (ok_is (from_be_bytes w (take n bytes), drop n bytes) x g.1))

number_off : (w : Width) (bytes more : List ℕ) (r : Refusal) → number_at w bytes ≡ Err r → (r.kind ≡ Truncated → ⊥) → number_at w (bytes ++ more) ≡ Err (further more r)
unfolding number_at
number_off w bytes more r e other = guard_err (ltb (length bytes) (byte_len w)) [] (from_be_bytes w (take (byte_len w) bytes), drop (byte_len w) bytes) r e other

number_stays : (w : Width) → Stays (number w)
number_stays w = record { by = record { on = number_on w; off = number_off w } }

-- a value without a byte
given_by : {A : Type 0} (a : A) → StaysBy (λ bytes. Ok (a, bytes))
given_by a = record { on = λ bytes more x e. ap (λ y. Ok (with_more more y)) (ok_is (a, bytes) x e); off = λ bytes more r e other. absurd cc }

only_stays : {A : Type 0} (a : A) → Stays (only a)
only_stays a = record { by = given_by a }

never_on : {A : Type 0} (bytes more : List ℕ) (x : A × List ℕ) → refuse {A = A × List ℕ} Truncated [] ≡ done x → refuse {A = A × List ℕ} Truncated [] ≡ done (with_more more x)
never_on bytes more x e = absurd cc

never_stays : {A : Type 0} → Stays (never {A = A})
never_stays {A} = record { by = record { on = never_on; off = λ bytes more r e other. truncated_not {A = A × List ℕ} [] r e other } }

-- ---- put together

-- one behind the other
module _ {A B : Type 0} (read : List ℕ → Read A) (next : A → List ℕ → Read B) (h : StaysBy read) (k : (a : A) → StaysBy (next a)) where
  behind : (bytes more : List ℕ) (x : A × List ℕ) → read bytes ≡ Ok x → (read (bytes ++ more) >>= λ y. next y.0 y.1) ≡ next x.0 (x.1 ++ more)
  behind bytes more x e = ap (λ (r : Read A). r >>= λ y. next y.0 y.1) (h.on bytes more x e)

  both_on : (bytes more : List ℕ) (y : B × List ℕ) → (read bytes >>= λ x. next x.0 x.1) ≡ Ok y → (read (bytes ++ more) >>= λ x. next x.0 x.1) ≡ Ok (with_more more y)
  both_on bytes more y e =
      let p = bind_ok (read bytes) (λ x. next x.0 x.1) y e in
      behind bytes more p.0 p.1 ∙ (k p.0.0).on p.0.1 more y p.2

  off_by : (bytes more : List ℕ) (r : Refusal) → (r.kind ≡ Truncated → ⊥) → (read bytes ≡ Err r) ⊎ ((x : A × List ℕ) × (read bytes ≡ Ok x) × (next x.0 x.1 ≡ Err r)) → (read (bytes ++ more) >>= λ x. next x.0 x.1) ≡ Err (further more r)
  off_by bytes more r other (inl e) = ap (λ (s : Read A). s >>= λ y. next y.0 y.1) (h.off bytes more r e other)
  off_by bytes more r other (inr p) = behind bytes more p.0 p.1 ∙ (k p.0.0).off p.0.1 more r p.2 other

  both_by : StaysBy (λ bytes. read bytes >>= λ x. next x.0 x.1)
  both_by = record { on = both_on; off = λ bytes more r e other. off_by bytes more r other (bind_err (read bytes) (λ x. next x.0 x.1) r e) }

-- a field with a test
judge_ok : {A : Type 0} (o : Option CodeErrorKind) (bytes : List ℕ) (a : A) (rest : List ℕ) (x : A × List ℕ) → judge o bytes a rest ≡ Ok x → (o ≡ None) × ((a, rest) ≡ x)
judge_ok None bytes a rest x e = (refl, ok_is (a, rest) x e)
judge_ok (Some k) bytes a rest x e = absurd cc

judge_err : {A : Type 0} (o : Option CodeErrorKind) (bytes more : List ℕ) (a : A) (rest : List ℕ) (r : Refusal) → judge o bytes a rest ≡ Err r → judge o (bytes ++ more) a (rest ++ more) ≡ Err (further more r)
judge_err None bytes more a rest r e = absurd cc
judge_err {A} (Some kind) bytes more a rest r e =
    refused_further {A = A × List ℕ} kind bytes more ∙ ap (λ s. Err (further more s)) (err_is {A = A × List ℕ} (record { kind = kind; left = length bytes }) r e)

module _ {A : Type 0} (f : Format A) (test : Test A) (h : Stays f) where
  tested_by : (bytes more : List ℕ) (x : A × List ℕ) → f.read bytes ≡ Ok x → (tested f test).read (bytes ++ more) ≡ judge (test x.0) (bytes ++ more) x.0 (x.1 ++ more)
  tested_by bytes more x e = ap (λ (r : Read A). r >>= λ y. judge (test y.0) (bytes ++ more) y.0 y.1) (h.by.on bytes more x e)

  tested_on : (bytes more : List ℕ) (z : A × List ℕ) → (tested f test).read bytes ≡ Ok z → (tested f test).read (bytes ++ more) ≡ Ok (with_more more z)
  tested_on bytes more z e =
      let p = bind_ok (f.read bytes) (λ x. judge (test x.0) bytes x.0 x.1) z e in
      let j = judge_ok (test p.0.0) bytes p.0.0 p.0.1 z p.2 in
      tested_by bytes more p.0 p.1 ∙ ap (λ o. judge o (bytes ++ more) p.0.0 (p.0.1 ++ more)) j.0 ∙ ap (λ y. Ok (with_more more y)) j.1

  tested_off : (bytes more : List ℕ) (r : Refusal) → (r.kind ≡ Truncated → ⊥) → (f.read bytes ≡ Err r) ⊎ ((x : A × List ℕ) × (f.read bytes ≡ Ok x) × (judge (test x.0) bytes x.0 x.1 ≡ Err r)) → (tested f test).read (bytes ++ more) ≡ Err (further more r)
  tested_off bytes more r other (inl e) = ap (λ (s : Read A). s >>= λ y. judge (test y.0) (bytes ++ more) y.0 y.1) (h.by.off bytes more r e other)
  tested_off bytes more r other (inr p) = tested_by bytes more p.0 p.1 ∙ judge_err (test p.0.0) bytes more p.0.0 p.0.1 r p.2

  tested_stays : Stays (tested f test)
  tested_stays = record { by = record { on = tested_on; off = λ bytes more r e other. tested_off bytes more r other (bind_err (f.read bytes) (λ x. judge (test x.0) bytes x.0 x.1) r e) } }

-- a field with a test that is told before it
before_ok : {A : Type 0} (o : Option CodeErrorKind) (n m : ℕ) (more : List ℕ) (a : A) (rest : List ℕ) (x : A × List ℕ) → judge_left o n a rest ≡ Ok x → judge_left o m a (rest ++ more) ≡ Ok (with_more more x)
before_ok None n m more a rest x e = ap (λ y. Ok (with_more more y)) (ok_is (a, rest) x e)
before_ok (Some k) n m more a rest x e = absurd cc

before_err : {A : Type 0} (o : Option CodeErrorKind) (n m : ℕ) (more : List ℕ) (a : A) (rest : List ℕ) (r : Refusal) → m ≡ n + length more → judge_left o n a rest ≡ Err r → judge_left o m a (rest ++ more) ≡ Err (further more r)
before_err None n m more a rest r longer e = absurd cc
before_err {A} (Some kind) n m more a rest r longer e =
    ap (λ k. Err (record { kind = kind; left = k })) longer ∙ ap (λ s. Err (further more s)) (err_is {A = A × List ℕ} (record { kind = kind; left = n }) r e)

module _ {A : Type 0} (k : ℕ) (f : Format A) (test : Test A) (h : Stays f) where
  before_by : (bytes more : List ℕ) (x : A × List ℕ) → f.read bytes ≡ Ok x → (tested_before k f test).read (bytes ++ more) ≡ judge_left (test x.0) (length (bytes ++ more) + k) x.0 (x.1 ++ more)
  before_by bytes more x e = ap (λ (r : Read A). r >>= λ y. judge_left (test y.0) (length (bytes ++ more) + k) y.0 y.1) (h.by.on bytes more x e)

  before_on : (bytes more : List ℕ) (z : A × List ℕ) → (tested_before k f test).read bytes ≡ Ok z → (tested_before k f test).read (bytes ++ more) ≡ Ok (with_more more z)
  before_on bytes more z e =
      let p = bind_ok (f.read bytes) (λ x. judge_left (test x.0) (length bytes + k) x.0 x.1) z e in
      before_by bytes more p.0 p.1 ∙ before_ok (test p.0.0) (length bytes + k) (length (bytes ++ more) + k) more p.0.0 p.0.1 z p.2

  before_off : (bytes more : List ℕ) (r : Refusal) → (r.kind ≡ Truncated → ⊥) → (f.read bytes ≡ Err r) ⊎ ((x : A × List ℕ) × (f.read bytes ≡ Ok x) × (judge_left (test x.0) (length bytes + k) x.0 x.1 ≡ Err r)) → (tested_before k f test).read (bytes ++ more) ≡ Err (further more r)
  before_off bytes more r other (inl e) = ap (λ (s : Read A). s >>= λ y. judge_left (test y.0) (length (bytes ++ more) + k) y.0 y.1) (h.by.off bytes more r e other)
  before_off bytes more r other (inr p) =
      before_by bytes more p.0 p.1 ∙ before_err (test p.0.0) (length bytes + k) (length (bytes ++ more) + k) more p.0.0 p.0.1 r (omega (arith, length-append bytes more)) p.2

  before_stays : Stays (tested_before k f test)
  before_stays = record {
    by = record { on = before_on; off = λ bytes more r e other. before_off bytes more r other (bind_err (f.read bytes) (λ x. judge_left (test x.0) (length bytes + k) x.0 x.1) r e) };
  }

-- one of a list
found_ok : {A : Type 0} (kind : CodeErrorKind) (o : Option A) (bytes more rest : List ℕ) (x : A × List ℕ) → found kind o bytes rest ≡ Ok x → found kind o (bytes ++ more) (rest ++ more) ≡ Ok (with_more more x)
found_ok kind None bytes more rest x e = absurd cc
found_ok kind (Some a) bytes more rest x e = ap (λ y. Ok (with_more more y)) (ok_is (a, rest) x e)

found_err : {A : Type 0} (kind : CodeErrorKind) (o : Option A) (bytes more rest : List ℕ) (r : Refusal) → found kind o bytes rest ≡ Err r → found kind o (bytes ++ more) (rest ++ more) ≡ Err (further more r)
found_err {A} kind None bytes more rest r e =
    refused_further {A = A × List ℕ} kind bytes more ∙ ap (λ s. Err (further more s)) (err_is {A = A × List ℕ} (record { kind = kind; left = length bytes }) r e)
found_err kind (Some a) bytes more rest r e = absurd cc

module _ {A : Type 0} (field : Format ℕ) (all : List A) (place : A → ℕ) (kind : CodeErrorKind) (h : Stays field) where
  one_by : (bytes more : List ℕ) (x : ℕ × List ℕ) → field.read bytes ≡ Ok x → (one_of field all place kind).read (bytes ++ more) ≡ found kind (nth all x.0) (bytes ++ more) (x.1 ++ more)
  one_by bytes more x e = ap (λ (r : Read ℕ). r >>= λ n. found kind (nth all n.0) (bytes ++ more) n.1) (h.by.on bytes more x e)

  one_on : (bytes more : List ℕ) (z : A × List ℕ) → (one_of field all place kind).read bytes ≡ Ok z → (one_of field all place kind).read (bytes ++ more) ≡ Ok (with_more more z)
  one_on bytes more z e =
      let p = bind_ok (field.read bytes) (λ n. found kind (nth all n.0) bytes n.1) z e in
      one_by bytes more p.0 p.1 ∙ found_ok kind (nth all p.0.0) bytes more p.0.1 z p.2

  one_off : (bytes more : List ℕ) (r : Refusal) → (r.kind ≡ Truncated → ⊥) → (field.read bytes ≡ Err r) ⊎ ((x : ℕ × List ℕ) × (field.read bytes ≡ Ok x) × (found kind (nth all x.0) bytes x.1 ≡ Err r)) → (one_of field all place kind).read (bytes ++ more) ≡ Err (further more r)
  one_off bytes more r other (inl e) = ap (λ (s : Read ℕ). s >>= λ n. found kind (nth all n.0) (bytes ++ more) n.1) (h.by.off bytes more r e other)
  one_off bytes more r other (inr p) = one_by bytes more p.0 p.1 ∙ found_err kind (nth all p.0.0) bytes more p.0.1 r p.2

  one_stays : Stays (one_of field all place kind)
  one_stays = record { by = record { on = one_on; off = λ bytes more r e other. one_off bytes more r other (bind_err (field.read bytes) (λ n. found kind (nth all n.0) bytes n.1) r e) } }

mapped_by : {A B : Type 0} (to : A → B) (read : List ℕ → Read A) → StaysBy read → StaysBy (λ bytes. read bytes >>= λ x. Ok (to x.0, x.1))
mapped_by to read h = both_by read (λ a bytes. Ok (to a, bytes)) h (λ a. given_by (to a))

mapped_stays : {A B : Type 0} (to : A → B) (from : B → A) (f : Format A) → Stays f → Stays (mapped to from f)
mapped_stays to from f h = record { by = mapped_by to f.read h.by }

pair_stays : {A B : Type 0} (f : Format A) (g : A → Format B) → Stays f → ((a : A) → Stays (g a)) → Stays (pair f g)
pair_stays f g h k = record { by = both_by f.read (λ a bytes. (g a).read bytes >>= λ y. Ok ((a, y.0), y.1)) h.by (λ a. mapped_by (λ b. (a, b)) (g a).read (k a).by) }

many_by : {A : Type 0} (read : List ℕ → Read A) (n : ℕ) → StaysBy read → StaysBy (many_at read n)
unfolding many_at
many_by read zero h = given_by []
many_by read (suc n) h = both_by read (λ a bytes. many_at read n bytes >>= λ xs. Ok (a ∷ xs.0, xs.1)) h (λ a. mapped_by (λ xs. a ∷ xs) (many_at read n) (many_by read n h))

many_stays : {A : Type 0} (n : ℕ) (f : Format A) → Stays f → Stays (many n f)
many_stays n f h = record { by = many_by f.read n h.by }

counted_stays : {A : Type 0} (count : Format ℕ) (f : Format A) → Stays count → Stays f → Stays (counted count f)
counted_stays count f h k = mapped_stays (λ p. p.1) (λ xs. (length xs, xs)) (pair count (λ n. many n f)) (pair_stays count (λ n. many n f) h (λ n. many_stays n f k))

tagged_stays : {A T : Type 0} (field : Format T) (tag : A → T) (body : T → Format A) → Stays field → ((t : T) → Stays (body t)) → Stays (tagged field tag body)
tagged_stays field tag body h k = record { by = both_by field.read (λ t. (body t).read) h.by (λ t. (k t).by) }

sharing_by : {A : Type 0} (size : A → ℕ) (f : ℕ → Format A) (n left : ℕ) → ((left : ℕ) → Stays (f left)) → StaysBy (sharing_at size f n left)
unfolding sharing_at
sharing_by size f zero left h = given_by []
sharing_by size f (suc n) left h =
    both_by (f left).read (λ a bytes. sharing_at size f n (left - size a) bytes >>= λ xs. Ok (a ∷ xs.0, xs.1)) (h left).by (λ a. mapped_by (λ xs. a ∷ xs) (sharing_at size f n (left - size a)) (sharing_by size f n (left - size a) h))

sharing_stays : {A : Type 0} (size : A → ℕ) (f : ℕ → Format A) → ((left : ℕ) → Stays (f left)) → (n left : ℕ) → Stays (sharing size f n left)
sharing_stays size f h n left = record { by = sharing_by size f n left h }

-- ---- names, texts, values

name_stays : (test : List ℕ → Bool) → Stays (name_over test)
name_stays test = mapped_stays _ _ _ (pair_stays (tested byte _) _ (tested_stays byte _ byte_stays) (λ n. tested_stays (some_bytes n) _ (some_stays n)))

keyword_stays : Stays keyword_format
unfolding keyword_format
keyword_stays = name_stays names_keyword

cell_name_stays : Stays cell_name_format
unfolding cell_name_format
cell_name_stays = name_stays names_cell

text_stays : Stays text_format
unfolding text_format
text_stays = mapped_stays _ _ _ (pair_stays (number w16) _ (number_stays w16) (λ n. tested_stays (some_bytes n) _ (some_stays n)))

tag_stays : (cells : Bool) (room : ℕ) → Stays (tag_format cells room)
unfolding tag_format
tag_stays cells room = tested_stays _ (tag_test cells room) (one_stays byte tags tag_byte BadOpcode byte_stays)

body_stays : (cell_kinds : List CellKind) (item : Format PlainValue) → Stays item → (t : Tag) → Stays (value_body cell_kinds item t)
body_stays cell_kinds item h tag.Nil = only_stays _
body_stays cell_kinds item h tag.False = only_stays _
body_stays cell_kinds item h tag.True = only_stays _
body_stays cell_kinds item h tag.Int = mapped_stays _ _ (number w64) (number_stays w64)
body_stays cell_kinds item h tag.Key = mapped_stays _ _ keyword_format keyword_stays
body_stays cell_kinds item h tag.Text = mapped_stays _ _ text_format text_stays
body_stays cell_kinds item h tag.Vector = mapped_stays _ _ (counted (number w16) item) (counted_stays (number w16) item (number_stays w16) h)
body_stays cell_kinds item h tag.Cell = mapped_stays _ _ (tested (number w16) (below (length cell_kinds))) (tested_stays (number w16) (below (length cell_kinds)) (number_stays w16))

value_stays : (cells : Bool) (kinds : List CellKind) (room : ℕ) → Stays (value_format cells kinds room)
unfolding value_format
value_stays cells kinds zero = tagged_stays (tag_format cells 0) tag_of (value_body kinds never) (tag_stays cells 0) (body_stays kinds never never_stays)
value_stays cells kinds (suc room) = tagged_stays (tag_format cells (suc room)) tag_of (value_body kinds (value_format cells kinds room)) (tag_stays cells (suc room)) (body_stays kinds (value_format cells kinds room) (value_stays cells kinds room))

constant_stays : (cells : Bool) (kinds : List CellKind) → Stays (constant_format cells kinds)
unfolding constant_format
constant_stays cells kinds = mapped_stays value_of plain_of _ (value_stays cells kinds 32)

-- ---- callees

op_stays : Stays op_format
unfolding op_format
op_stays = one_stays byte operations op_number BadOperand byte_stays

callee_body_stays : (functions : ℕ) (t : CalleeTag) → Stays (callee_body functions t)
callee_body_stays functions callee_tag.Core = mapped_stays _ _ (one_of (number w16) operations op_number BadOperand) (one_stays (number w16) operations op_number BadOperand (number_stays w16))
callee_body_stays functions callee_tag.Function = mapped_stays _ _ (tested (number w16) (below functions)) (tested_stays (number w16) (below functions) (number_stays w16))

callee_stays : (functions : ℕ) → Stays (callee_format functions)
unfolding callee_format
callee_stays functions = tagged_stays _ callee_tag_of (callee_body functions) (one_stays byte callee_tags callee_byte BadOperand byte_stays) (callee_body_stays functions)

-- ---- cells

validator_body_stays : (t : ValidatorTag) → Stays (validator_body t)
validator_body_stays validator_tag.Nothing = only_stays None
validator_body_stays validator_tag.Callee = mapped_stays _ _ (callee_format most_definitions) (callee_stays most_definitions)

validator_stays : (validated : Bool) → Stays (validator_format validated)
unfolding validator_format
validator_stays false = only_stays None
validator_stays true = tagged_stays _ validator_tag_of validator_body (one_stays byte validator_tags validator_byte BadOperand byte_stays) validator_body_stays

kind_stays : Stays kind_format
unfolding kind_format
kind_stays = one_stays byte kinds kind_byte BadOperand byte_stays

mode_stays : (kind : CellKind) → Stays (mode_format kind)
unfolding mode_format
mode_stays kind = one_stays byte (modes kind) mode_byte BadOperand byte_stays

cell_stays : (validated : Bool) → Stays (cell_format validated)
unfolding cell_format
cell_stays validated =
    mapped_stays _ _ _
    (pair_stays kind_format _ kind_stays (λ kind. pair_stays (mode_format kind) _ (mode_stays kind) (λ mode. pair_stays cell_name_format _ cell_name_stays (λ name. pair_stays (constant_format false []) _ (constant_stays false []) (λ opening. validator_stays validated)))))

-- ---- instructions

counted_callee_stays : (functions : ℕ) (make : Callee → ℕ → Instr) → Stays (callee_and_count functions make)
counted_callee_stays functions make = mapped_stays _ _ _ (pair_stays (callee_format functions) (λ c. number w16) (callee_stays functions) (λ c. number_stays w16))

operands_stay : (ks fs : ℕ) (o : Opcode) → Stays (operands ks fs o)
operands_stay ks fs opcode.Const = mapped_stays _ _ (tested (number w32) (below ks)) (tested_stays (number w32) (below ks) (number_stays w32))
operands_stay ks fs opcode.Local = mapped_stays _ _ byte byte_stays
operands_stay ks fs opcode.Store = mapped_stays _ _ byte byte_stays
operands_stay ks fs opcode.Pop = only_stays _
operands_stay ks fs opcode.Jump = mapped_stays _ _ (number w32) (number_stays w32)
operands_stay ks fs opcode.JumpFalse = mapped_stays _ _ (number w32) (number_stays w32)
operands_stay ks fs opcode.Core = mapped_stays _ _ _ (pair_stays op_format (λ op. number w16) op_stays (λ op. number_stays w16))
operands_stay ks fs opcode.Call = mapped_stays _ _ (tested (number w16) (below fs)) (tested_stays (number w16) (below fs) (number_stays w16))
operands_stay ks fs opcode.Return = only_stays _
operands_stay ks fs opcode.Vector = mapped_stays _ _ (number w16) (number_stays w16)
operands_stay ks fs opcode.Print = mapped_stays _ _ (number w16) (number_stays w16)
operands_stay ks fs opcode.Deref = only_stays _
operands_stay ks fs opcode.TxBegin = only_stays _
operands_stay ks fs opcode.TxEnd = only_stays _
operands_stay ks fs opcode.RefSet = only_stays _
operands_stay ks fs opcode.AlterOpen = mapped_stays _ _ (number w16) (number_stays w16)
operands_stay ks fs opcode.AlterClose = only_stays _
operands_stay ks fs opcode.CommuteOpen = counted_callee_stays fs _
operands_stay ks fs opcode.CommuteClose = only_stays _
operands_stay ks fs opcode.Ensure = only_stays _
operands_stay ks fs opcode.SwapOpen = counted_callee_stays fs _
operands_stay ks fs opcode.SwapClose = only_stays _
operands_stay ks fs opcode.Reset = only_stays _
operands_stay ks fs opcode.Send = counted_callee_stays fs instr.Send
operands_stay ks fs opcode.Halt = only_stays _

opcode_stays : Stays opcode_format
unfolding opcode_format
opcode_stays = one_stays byte opcodes opcode_byte BadOpcode byte_stays

instr_stays : (ks fs : ℕ) → Stays (instr_format ks fs)
unfolding instr_format
instr_stays ks fs = tagged_stays opcode_format opcode_of (operands ks fs) opcode_stays (operands_stay ks fs)

span_stays : Stays span_format
unfolding span_format
span_stays = mapped_stays _ _ _ (pair_stays (number w32) _ (number_stays w32) (λ from. tested_stays (number w32) _ (number_stays w32)))

placed_stays : (ks fs : ℕ) → Stays (placed_format ks fs)
unfolding placed_format
placed_stays ks fs = pair_stays (instr_format ks fs) (λ i. span_format) (instr_stays ks fs) (λ i. span_stays)

-- ---- bodies

parameters_stay : (thread : Bool) → Stays (parameters_format thread)
parameters_stay true = tested_stays byte _ byte_stays
parameters_stay false = byte_stays

one_body_stays : (thread : Bool) (ks fs left : ℕ) → Stays (body_format thread ks fs left)
unfolding body_format
one_body_stays thread ks fs left =
    mapped_stays body_of body_parts _
    (pair_stays (parameters_format thread) _ (parameters_stay thread) (λ p. pair_stays byte _ byte_stays (λ locals. counted_stays (tested (number w32) (at_most left)) (placed_format ks fs) (tested_stays (number w32) (at_most left) (number_stays w32)) (placed_stays ks fs))))

bodies_stay : (most : ℕ) (body : ℕ → ℕ → Format CodeBody) (left : ℕ) → ((n rest : ℕ) → Stays (body n rest)) → Stays (bodies_format most body left)
bodies_stay most body left h =
    mapped_stays (λ p. p.1) (λ bs. (length bs, bs)) _
    (pair_stays (tested (number w16) (at_most most)) _ (tested_stays (number w16) (at_most most) (number_stays w16)) (λ n. sharing_stays instructions (body n) (h n) n left))

functions_stay : (ks : ℕ) → Stays (functions_format ks)
unfolding functions_format
functions_stay ks = bodies_stay most_definitions (λ n. body_format false ks n) most_instructions (λ n left. one_body_stays false ks n left)

threads_stay : (ks fs left : ℕ) → Stays (threads_format ks fs left)
unfolding threads_format
threads_stay ks fs left = bodies_stay most_threads (λ n. body_format true ks fs) left (λ n rest. one_body_stays true ks fs rest)

-- ---- code

magic_stays : Stays magic_format
unfolding magic_format
magic_stays = mapped_stays _ _ _ (tested_stays (number w32) _ (number_stays w32))

cells_stay : (validated : Bool) → Stays (cells_format validated)
unfolding cells_format
cells_stay validated = counted_stays _ (cell_format validated) (tested_stays (number w16) (at_most 1000) (number_stays w16)) (cell_stays validated)

told_cells_stay : (validated : Bool) → Stays (told_cells_format validated)
unfolding told_cells_format
told_cells_stay validated = before_stays 1 (cells_format validated) _ (cells_stay validated)

constants_stay : (kinds : List CellKind) → Stays (constants_format kinds)
unfolding constants_format
constants_stay kinds = counted_stays _ (constant_format true kinds) (tested_stays (number w32) (at_most 1000000) (number_stays w32)) (constant_stays true kinds)

program_stays : (ks : ℕ) → Stays (program_format ks)
unfolding program_format
program_stays ks = pair_stays (functions_format ks) _ (functions_stay ks) (λ fs. threads_stay ks (length fs) (most_instructions - all_instructions fs))

code_stays : Stays code_format
unfolding code_format
code_stays =
    mapped_stays _ _ _
    (pair_stays magic_format _ magic_stays (λ validated. pair_stays (told_cells_format validated) _ (told_cells_stay validated) (λ cells. pair_stays (constants_format (kinds_of cells)) _ (constants_stay (kinds_of cells)) (λ ks. program_stays (length ks)))))

-- ---- all bytes

not_empty : (n : ℕ) → 0 < n → eqb n 0 ≡ false
not_empty n some = elim (eqb_tells n 0) [ inl t ↦ absurd (omega (arith, t.1, some)) | inr t ↦ t.0 ]

empty_longer : (rest more : List ℕ) (r : Refusal) (a : PlainCode) → cond (eqb (length rest) 0) (done a) (refuse Trailing rest) ≡ Err r → cond (eqb (length (rest ++ more)) 0) (done a) (refuse Trailing (rest ++ more)) ≡ Err (further more r)
empty_longer [] more r a e = absurd cc
empty_longer (b ∷ rest) more r a e =
    let long = not_empty (length (b ∷ (rest ++ more))) (omega arith) in
    let some = not_empty (length (b ∷ rest)) (omega arith) in
    let is : refuse {A = PlainCode} Trailing (b ∷ rest) ≡ lost {A = PlainCode} r = sym (ap (λ t. cond t (done a) (refuse Trailing (b ∷ rest))) some) ∙ e in
    ap (λ t. cond t (done a) (refuse Trailing (b ∷ (rest ++ more)))) long
    ∙ refused_further {A = PlainCode} Trailing (b ∷ rest) more
    ∙ ap (λ s. Err (further more s)) (err_is {A = PlainCode} (record { kind = Trailing; left = length (b ∷ rest) }) r is)

whole_by : (bytes more : List ℕ) (r : Refusal) → (r.kind ≡ Truncated → ⊥)
    → (code_format.read bytes ≡ Err r) ⊎ ((x : PlainCode × List ℕ) × (code_format.read bytes ≡ Ok x) × (cond (eqb (length x.1) 0) (done x.0) (refuse Trailing x.1) ≡ Err r)) → whole code_format (bytes ++ more) ≡ Err (further more r)
whole_by bytes more r other (inl e) = ap (λ (s : Read PlainCode). s >>= λ x. cond (eqb (length x.1) 0) (done x.0) (refuse Trailing x.1)) (code_stays.by.off bytes more r e other)
whole_by bytes more r other (inr p) =
    ap (λ (s : Read PlainCode). s >>= λ x. cond (eqb (length x.1) 0) (done x.0) (refuse Trailing x.1)) (code_stays.by.on bytes more p.0 p.1) ∙ empty_longer p.0.1 more r p.0.0 p.2

whole_stays : (bytes more : List ℕ) (r : Refusal) → whole code_format bytes ≡ Err r → (r.kind ≡ Truncated → ⊥) → whole code_format (bytes ++ more) ≡ Err (further more r)
whole_stays bytes more r e other = whole_by bytes more r other (bind_err (code_format.read bytes) (λ x. cond (eqb (length x.1) 0) (done x.0) (refuse Trailing x.1)) r e)

placed_by : (bytes more : List ℕ) (e : CodeError) (w : Result PlainCode Refusal) → whole code_format bytes ≡ w → at_place (length bytes) w ≡ Err e → (e.kind ≡ Truncated → ⊥) → decoded (bytes ++ more) ≡ Err e
placed_by bytes more e (Ok code) is at other = absurd cc
placed_by bytes more e (Err r) is at other =
    let same : refusal_of (length bytes) r ≡ e = cc in
    let kept = whole_stays bytes more r is (λ t. other (ap (λ (x : CodeError). x.kind) (sym same) ∙ t)) in
    let place : length (bytes ++ more) - (r.left + length more) ≡ length bytes - r.left = omega (arith, length-append bytes more) in
    ap (at_place (length (bytes ++ more))) kept ∙ ap (λ n. Err (record { kind = r.kind; at = n })) place ∙ ap (λ x. Err x) same

-- A refusal of bytes stays whatever stands behind them, but that they end too early.
pub refused_on : (bytes more : List ℕ) (e : CodeError) → decoded bytes ≡ Err e → (e.kind ≡ Truncated → ⊥) → decoded (bytes ++ more) ≡ Err e
refused_on bytes more e is other = placed_by bytes more e (whole code_format bytes) refl is other
