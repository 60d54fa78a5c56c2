-- The test for equal data answers true exactly for equal data.
use Rattle.std.proofs.Common.{◌≡◌, ℕ, Bool, true, false, refl, sym, ap, ◌∙◌, arith, IsTrue, ◌↔◌, ◌&&◌, ◌==◌}
use Rattle.std.proofs.lemmas.Bool.{false≢true}
use Rattle.std.proofs.lemmas.Bool.Decides.{Decides-int_eq, same_from_decides, nat_tests}
use Rattle.std.proofs.lemmas.Slice.Eq.{bytes_eq-Decides}
use Rattle.txs_value_data.specs.PlainValue.{PlainValue, nil, truth, int, key, text, vector, cell, PlainValues, end, more, kind_out, kind_in, kind_in-out}
use Rattle.txs_value_data.specs.Same.{same_truth, same_plain, same_plains}
use Rattle.txs_value_data.specs.View.{plain_of}
use Rattle.txs_value_data.proofs.ItemsLemmas.{plain_of-one}
use Rattle.txs_value_data.specs.declared.value.Value.{Value}
use Rattle.txs_value_data.specs.declared.value.CellId.{CellId}

truths : (b c : Bool) → same_truth b c ≡ true → b ≡ c
truths true true h = refl
truths false false h = refl
truths true false h = absurd (false≢true h)
truths false true h = absurd (false≢true h)

same_truth-itself : (b : Bool) → same_truth b b ≡ true
same_truth-itself true = refl
same_truth-itself false = refl

pub and_both : (a b : Bool) → (a && b) ≡ true → (a ≡ true) × (b ≡ true)
and_both true b h = (refl, h)
and_both false b h = absurd (false≢true h)

pub numbers : (m n : ℕ) → (m == n) ≡ true → m ≡ n
numbers m n h = grind (arith, nat_tests)

pub number-itself : (n : ℕ) → (n == n) ≡ true
number-itself n = grind (arith, nat_tests)

pub cells : (c d : CellId) → same_plain (cell c) (cell d) ≡ true → c ≡ d
cells c d h =
    let both = and_both (kind_out c.kind == kind_out d.kind) (c.number == d.number) h in
    let kinds : c.kind ≡ d.kind = sym (kind_in-out c.kind) ∙ ap kind_in (numbers (kind_out c.kind) (kind_out d.kind) both.0) ∙ kind_in-out d.kind in
    let places = numbers c.number d.number both.1 in
    λ i. record { kind = kinds i; number = places i }

pub same_cell-itself : (c : CellId) → same_plain (cell c) (cell c) ≡ true
same_cell-itself c = rw (number-itself (kind_out c.kind), number-itself c.number)

mutual
  pub same_plain-sound : (d e : PlainValue) → same_plain d e ≡ true → d ≡ e
  same_plain-sound nil nil h = refl
  same_plain-sound (truth b) (truth c) h = ap truth (truths b c h)
  same_plain-sound (int x) (int y) h = ap int ((Decides-int_eq x y).0 h)
  same_plain-sound (key x) (key y) h = ap key ((bytes_eq-Decides x y).0 h)
  same_plain-sound (text x) (text y) h = ap text ((bytes_eq-Decides x y).0 h)
  same_plain-sound (vector x) (vector y) h = ap vector (same_plains-sound x y h)
  same_plain-sound (cell c) (cell d) h = ap cell (cells c d h)
  same_plain-sound _ _ h = absurd (false≢true h)

  pub same_plains-sound : (x y : PlainValues) → same_plains x y ≡ true → x ≡ y
  same_plains-sound end end h = refl
  same_plains-sound (more d ds) (more e es) h =
      let both = and_both (same_plain d e) (same_plains ds es) h in
      λ i. more (same_plain-sound d e both.0 i) (same_plains-sound ds es both.1 i)
  same_plains-sound _ _ h = absurd (false≢true h)

mutual
  pub same_plain-itself : (d : PlainValue) → same_plain d d ≡ true
  same_plain-itself nil = refl
  same_plain-itself (truth b) = same_truth-itself b
  same_plain-itself (int x) = (Decides-int_eq x x).1 refl
  same_plain-itself (key x) = (bytes_eq-Decides x x).1 refl
  same_plain-itself (text x) = (bytes_eq-Decides x x).1 refl
  same_plain-itself (vector x) = same_plains-itself x
  same_plain-itself (cell c) = same_cell-itself c

  pub same_plains-itself : (x : PlainValues) → same_plains x x ≡ true
  same_plains-itself end = refl
  same_plains-itself (more d ds) = rw (same_plain-itself d) (same_plains-itself ds)

pub equal_is : (v w : Value) (r : Bool) → (IsTrue r ↔ (v ≡ w)) → r ≡ same_plain (plain_of v) (plain_of w)
equal_is v w r h =
    same_from_decides r (same_plain (plain_of v) (plain_of w)) h
    (λ t. plain_of-one v w (same_plain-sound (plain_of v) (plain_of w) t), λ e. rw e (same_plain-itself (plain_of w)))
