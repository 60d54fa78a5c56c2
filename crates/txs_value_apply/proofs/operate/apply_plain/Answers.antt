-- What an operation takes is there, and its answer is the table's.
use Rattle.std.proofs.Common.{◌≡◌, ℕ, zero, suc, ◌<◌, ◌==◌, ◌∙◌, ap, arith, length, get_or, refl, sym, subst, true, IsTrue, List, Ok, pos}
use Rattle.std.specs.Prelude.{not, int_lt, int_le}
use Rattle.std.specs.Ordering.{int_eq}
use Rattle.std.proofs.lemmas.Bool.{false≢true}
use Rattle.std.proofs.lemmas.List.{get_or_read}
use Rattle.txs_value_apply.specs.Core.{arg, core, takes, compared, count_of, equals, greatest, is_false, is_nil, least, minus, modulo, of_number, of_numbers, plus, quotient, remainder, tested}
use Rattle.txs_value_apply.proofs.CoreLemmas.{takes_some}
use Rattle.txs_value_data.specs.declared.op.Op.{Op}
use Rattle.txs_value_data.specs.declared.op.Op.TheVariants.{Quot, Rem, Mod, Equal, NotEqual, Less, Greater, LessOrEqual, GreaterOrEqual, Max, Min}
use Rattle.txs_value_data.specs.declared.value.Value.{Value}
use Rattle.txs_value_data.specs.declared.value.Value.TheVariants.{Nil, Truth}
use Rattle.txs_value_apply.proofs.operate.apply_plain.Goals as goal

-- where two are taken, there are two
two : (op o : Op) (n : ℕ) → op ≡ o → takes o n ≡ (n == 2) → IsTrue (takes op n) → 1 < n
two op o zero is so t = absurd (false≢true (sym so ∙ subst (λ p. takes p 0 ≡ true) is t))
two op o (suc zero) is so t = absurd (false≢true (sym so ∙ subst (λ p. takes p 1 ≡ true) is t))
two op o (suc (suc n)) is so t = omega arith

-- the answer from one argument
of_one : {R : Type 0} (f : Value → R) (vs : List Value) (x : Value) (r : R) → 0 < length vs → x ≡ get_or vs 0 x → r ≡ f x → r ≡ f (arg 0 vs)
of_one f vs x r lt at is = is ∙ ap f (get_or_read vs 0 x lt at Nil)

-- the answer from two
of_two : {R : Type 0} (f : Value → Value → R) (vs : List Value) (x y : Value) (r : R) → 1 < length vs → x ≡ get_or vs 0 x → y ≡ get_or vs 1 y → r ≡ f x y → r ≡ f (arg 0 vs) (arg 1 vs)
of_two f vs x y r lt at_x at_y is = is ∙ ap (λ v. f v y) (get_or_read vs 0 x (omega arith) at_x Nil) ∙ ap (λ v. f (arg 0 vs) v) (get_or_read vs 1 y lt at_y Nil)

pub bounds-args-0 : goal.bounds-args-0
bounds-args-0 c = takes_some c.args.op (length c.args.args.now) c.requires.takes

pub returns-in-Inc : goal.returns-in-Inc
unfolding core
returns-in-Inc c = subst (λ p. c.inc.result ≡ core p c.args.args.now) (sym c.in-Inc.is) (of_one (of_number (λ x. plus x (pos 1))) c.args.args.now c.index-args-0.result c.inc.result (takes_some c.args.op (length c.args.args.now) c.requires.takes) c.index-args-0.is c.inc.ensures)

pub returns-in-Dec : goal.returns-in-Dec
unfolding core
returns-in-Dec c = subst (λ p. c.dec.result ≡ core p c.args.args.now) (sym c.in-Dec.is) (of_one (of_number (λ x. minus x (pos 1))) c.args.args.now c.index-args-0.result c.dec.result (takes_some c.args.op (length c.args.args.now) c.requires.takes) c.index-args-0.is c.dec.ensures)

pub bounds-args-1 : goal.bounds-args-1
unfolding takes
bounds-args-1 c = two c.args.op Quot (length c.args.args.now) c.in-Quot.is refl c.requires.takes

pub returns-in-Quot : goal.returns-in-Quot
unfolding core takes
returns-in-Quot c = subst (λ p. c.quot.result ≡ core p c.args.args.now) (sym c.in-Quot.is) (of_two (of_numbers quotient) c.args.args.now c.index-args-0.result c.index-args-1.result c.quot.result (two c.args.op Quot (length c.args.args.now) c.in-Quot.is refl c.requires.takes) c.index-args-0.is c.index-args-1.is c.quot.ensures)

pub bounds-args-1-in-Rem : goal.bounds-args-1-in-Rem
unfolding takes
bounds-args-1-in-Rem c = two c.args.op Rem (length c.args.args.now) c.in-Rem.is refl c.requires.takes

pub returns-in-Rem : goal.returns-in-Rem
unfolding core takes
returns-in-Rem c = subst (λ p. c.rem.result ≡ core p c.args.args.now) (sym c.in-Rem.is) (of_two (of_numbers remainder) c.args.args.now c.index-args-0.result c.index-args-1-in-Rem.result c.rem.result (two c.args.op Rem (length c.args.args.now) c.in-Rem.is refl c.requires.takes) c.index-args-0.is c.index-args-1-in-Rem.is c.rem.ensures)

pub bounds-args-1-in-Mod : goal.bounds-args-1-in-Mod
unfolding takes
bounds-args-1-in-Mod c = two c.args.op Mod (length c.args.args.now) c.in-Mod.is refl c.requires.takes

pub returns-in-Mod : goal.returns-in-Mod
unfolding core takes
returns-in-Mod c = subst (λ p. c.remainder_down.result ≡ core p c.args.args.now) (sym c.in-Mod.is) (of_two (of_numbers modulo) c.args.args.now c.index-args-0.result c.index-args-1-in-Mod.result c.remainder_down.result (two c.args.op Mod (length c.args.args.now) c.in-Mod.is refl c.requires.takes) c.index-args-0.is c.index-args-1-in-Mod.is c.remainder_down.ensures)

pub bounds-args-1-in-Equal : goal.bounds-args-1-in-Equal
unfolding takes
bounds-args-1-in-Equal c = two c.args.op Equal (length c.args.args.now) c.in-Equal.is refl c.requires.takes

pub returns-in-Equal : goal.returns-in-Equal
unfolding core takes
returns-in-Equal c = subst (λ p. Ok (Truth c.equal.result) ≡ core p c.args.args.now) (sym c.in-Equal.is) (ap (λ b. Ok (Truth b)) (of_two (equals) c.args.args.now c.index-args-0.result c.index-args-1-in-Equal.result c.equal.result (two c.args.op Equal (length c.args.args.now) c.in-Equal.is refl c.requires.takes) c.index-args-0.is c.index-args-1-in-Equal.is c.equal.ensures))

pub bounds-args-1-in-NotEqual : goal.bounds-args-1-in-NotEqual
unfolding takes
bounds-args-1-in-NotEqual c = two c.args.op NotEqual (length c.args.args.now) c.in-NotEqual.is refl c.requires.takes

pub returns-in-NotEqual : goal.returns-in-NotEqual
unfolding core takes
returns-in-NotEqual c = subst (λ p. Ok (Truth (not c.equal-in-NotEqual.result)) ≡ core p c.args.args.now) (sym c.in-NotEqual.is) (ap (λ b. Ok (Truth (not b))) (of_two (equals) c.args.args.now c.index-args-0.result c.index-args-1-in-NotEqual.result c.equal-in-NotEqual.result (two c.args.op NotEqual (length c.args.args.now) c.in-NotEqual.is refl c.requires.takes) c.index-args-0.is c.index-args-1-in-NotEqual.is c.equal-in-NotEqual.ensures))

pub bounds-args-1-in-Less : goal.bounds-args-1-in-Less
unfolding takes
bounds-args-1-in-Less c = two c.args.op Less (length c.args.args.now) c.in-Less.is refl c.requires.takes

pub returns-in-Less : goal.returns-in-Less
unfolding core takes
returns-in-Less c = subst (λ p. c.less.result ≡ core p c.args.args.now) (sym c.in-Less.is) (of_two (compared int_lt) c.args.args.now c.index-args-0.result c.index-args-1-in-Less.result c.less.result (two c.args.op Less (length c.args.args.now) c.in-Less.is refl c.requires.takes) c.index-args-0.is c.index-args-1-in-Less.is c.less.ensures)

pub bounds-args-1-in-Greater : goal.bounds-args-1-in-Greater
unfolding takes
bounds-args-1-in-Greater c = two c.args.op Greater (length c.args.args.now) c.in-Greater.is refl c.requires.takes

pub returns-in-Greater : goal.returns-in-Greater
unfolding core takes
returns-in-Greater c = subst (λ p. c.greater.result ≡ core p c.args.args.now) (sym c.in-Greater.is) (of_two (compared (λ x y. int_lt y x)) c.args.args.now c.index-args-0.result c.index-args-1-in-Greater.result c.greater.result (two c.args.op Greater (length c.args.args.now) c.in-Greater.is refl c.requires.takes) c.index-args-0.is c.index-args-1-in-Greater.is c.greater.ensures)

pub bounds-args-1-in-LessOrEqual : goal.bounds-args-1-in-LessOrEqual
unfolding takes
bounds-args-1-in-LessOrEqual c = two c.args.op LessOrEqual (length c.args.args.now) c.in-LessOrEqual.is refl c.requires.takes

pub returns-in-LessOrEqual : goal.returns-in-LessOrEqual
unfolding core takes
returns-in-LessOrEqual c = subst (λ p. c.less_or_equal.result ≡ core p c.args.args.now) (sym c.in-LessOrEqual.is) (of_two (compared int_le) c.args.args.now c.index-args-0.result c.index-args-1-in-LessOrEqual.result c.less_or_equal.result (two c.args.op LessOrEqual (length c.args.args.now) c.in-LessOrEqual.is refl c.requires.takes) c.index-args-0.is c.index-args-1-in-LessOrEqual.is c.less_or_equal.ensures)

pub bounds-args-1-in-GreaterOrEqual : goal.bounds-args-1-in-GreaterOrEqual
unfolding takes
bounds-args-1-in-GreaterOrEqual c = two c.args.op GreaterOrEqual (length c.args.args.now) c.in-GreaterOrEqual.is refl c.requires.takes

pub returns-in-GreaterOrEqual : goal.returns-in-GreaterOrEqual
unfolding core takes
returns-in-GreaterOrEqual c = subst (λ p. c.greater_or_equal.result ≡ core p c.args.args.now) (sym c.in-GreaterOrEqual.is) (of_two (compared (λ x y. int_le y x)) c.args.args.now c.index-args-0.result c.index-args-1-in-GreaterOrEqual.result c.greater_or_equal.result (two c.args.op GreaterOrEqual (length c.args.args.now) c.in-GreaterOrEqual.is refl c.requires.takes) c.index-args-0.is c.index-args-1-in-GreaterOrEqual.is c.greater_or_equal.ensures)

pub bounds-args-1-in-Max : goal.bounds-args-1-in-Max
unfolding takes
bounds-args-1-in-Max c = two c.args.op Max (length c.args.args.now) c.in-Max.is refl c.requires.takes

pub returns-in-Max : goal.returns-in-Max
unfolding core takes
returns-in-Max c = subst (λ p. c.max.result ≡ core p c.args.args.now) (sym c.in-Max.is) (of_two (of_numbers greatest) c.args.args.now c.index-args-0.result c.index-args-1-in-Max.result c.max.result (two c.args.op Max (length c.args.args.now) c.in-Max.is refl c.requires.takes) c.index-args-0.is c.index-args-1-in-Max.is c.max.ensures)

pub bounds-args-1-in-Min : goal.bounds-args-1-in-Min
unfolding takes
bounds-args-1-in-Min c = two c.args.op Min (length c.args.args.now) c.in-Min.is refl c.requires.takes

pub returns-in-Min : goal.returns-in-Min
unfolding core takes
returns-in-Min c = subst (λ p. c.min.result ≡ core p c.args.args.now) (sym c.in-Min.is) (of_two (of_numbers least) c.args.args.now c.index-args-0.result c.index-args-1-in-Min.result c.min.result (two c.args.op Min (length c.args.args.now) c.in-Min.is refl c.requires.takes) c.index-args-0.is c.index-args-1-in-Min.is c.min.ensures)

pub returns-in-Not : goal.returns-in-Not
unfolding core
returns-in-Not c = subst (λ p. Ok (Truth c.is_false.result) ≡ core p c.args.args.now) (sym c.in-Not.is) (ap (λ b. Ok (Truth b)) (of_one (is_false) c.args.args.now c.index-args-0.result c.is_false.result (takes_some c.args.op (length c.args.args.now) c.requires.takes) c.index-args-0.is c.is_false.ensures))

pub returns-in-IsNil : goal.returns-in-IsNil
unfolding core
returns-in-IsNil c = subst (λ p. Ok (Truth c.is_nil.result) ≡ core p c.args.args.now) (sym c.in-IsNil.is) (ap (λ b. Ok (Truth b)) (of_one (is_nil) c.args.args.now c.index-args-0.result c.is_nil.result (takes_some c.args.op (length c.args.args.now) c.requires.takes) c.index-args-0.is c.is_nil.ensures))

pub returns-in-IsZero : goal.returns-in-IsZero
unfolding core
returns-in-IsZero c = subst (λ p. c.is_zero.result ≡ core p c.args.args.now) (sym c.in-IsZero.is) (of_one (tested (λ x. int_eq x (pos 0))) c.args.args.now c.index-args-0.result c.is_zero.result (takes_some c.args.op (length c.args.args.now) c.requires.takes) c.index-args-0.is c.is_zero.ensures)

pub returns-in-IsPositive : goal.returns-in-IsPositive
unfolding core
returns-in-IsPositive c = subst (λ p. c.is_positive.result ≡ core p c.args.args.now) (sym c.in-IsPositive.is) (of_one (tested (λ x. int_lt (pos 0) x)) c.args.args.now c.index-args-0.result c.is_positive.result (takes_some c.args.op (length c.args.args.now) c.requires.takes) c.index-args-0.is c.is_positive.ensures)

pub returns-in-IsNegative : goal.returns-in-IsNegative
unfolding core
returns-in-IsNegative c = subst (λ p. c.is_negative.result ≡ core p c.args.args.now) (sym c.in-IsNegative.is) (of_one (tested (λ x. int_lt x (pos 0))) c.args.args.now c.index-args-0.result c.is_negative.result (takes_some c.args.op (length c.args.args.now) c.requires.takes) c.index-args-0.is c.is_negative.ensures)

pub returns-in-Count : goal.returns-in-Count
unfolding core
returns-in-Count c = subst (λ p. c.count.result ≡ core p c.args.args.now) (sym c.in-Count.is) (of_one (count_of) c.args.args.now c.index-args-0.result c.count.result (takes_some c.args.op (length c.args.args.now) c.requires.takes) c.index-args-0.is c.count.ensures)

pub returns-in-Add : goal.returns-in-Add
unfolding core
returns-in-Add c = subst (λ p. c.sum.result ≡ core p c.args.args.now) (sym c.in-Add.is) c.sum.ensures

pub returns-in-Subtract : goal.returns-in-Subtract
unfolding core
returns-in-Subtract c = subst (λ p. c.difference.result ≡ core p c.args.args.now) (sym c.in-Subtract.is) c.difference.ensures

pub returns-in-Multiply : goal.returns-in-Multiply
unfolding core
returns-in-Multiply c = subst (λ p. c.product.result ≡ core p c.args.args.now) (sym c.in-Multiply.is) c.product.ensures
