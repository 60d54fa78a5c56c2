-- What a form is, over the rows of its parts.
use Rattle.std.proofs.Common.{◌≡◌, Bool, true, false, ◌&&◌, ◌||◌, List, refl, ap, ◌∙◌}
use Rattle.txs_value_data.specs.Places.{nth}
use Rattle.txs_tree_meaning.specs.Known.{Known}
use Rattle.txs_tree_meaning.specs.Tree.{Tree, Const, Local, If, Do, Let, Loop, Recur, Core, Call, VectorOf, Println, Dosync, Look, Put, Update, Send, Trees, none}
use Rattle.txs_check.specs.declared.class.Class.{Class}
use Rattle.txs_check.specs.Rows.{alone, rows_of}
use Rattle.txs_check.specs.Signatures.{joined, class_above, class_in, class_in_all, class_known}

or_false : (b : Bool) → b || false ≡ b
or_false true = refl
or_false false = refl

and_true : (b : Bool) → b && true ≡ b
and_true true = refl
and_true false = refl

module _ (ks : List Known) where
  abbrev of : Trees → Class
  of es = class_in_all ks es

  none_last : (c : Class) → joined c (of none) ≡ c
  none_last c = λ i. record { inside = or_false c.inside i; outside = or_false c.outside i; pure = and_true c.pure i }

  of_alone : (e : Tree) → of (alone e) ≡ class_in ks e
  of_alone e = none_last (class_in ks e)

  of_one : (c : Class) → joined c (joined (of none) (of none)) ≡ c
  of_one c = none_last c

  of_two : (a b : Class) → joined a (joined b (of none)) ≡ joined a b
  of_two a b = ap (λ x. joined a x) (none_last b)

  of_binding : (values : Trees) (body : Tree) → joined (of values) (joined (of (alone body)) (of none)) ≡ joined (of values) (class_in ks body)
  of_binding values body = of_two (of values) (of (alone body)) ∙ ap (λ x. joined (of values) x) (of_alone body)

  of_change : (cell : Tree) (args : Trees) → joined (of (alone cell)) (joined (of args) (of none)) ≡ joined (class_in ks cell) (of args)
  of_change cell args = of_two (of (alone cell)) (of args) ∙ ap (λ x. joined x (of args)) (of_alone cell)

  of_part : (e : Tree) → joined (of (alone e)) (joined (of none) (of none)) ≡ class_in ks e
  of_part e = of_one (of (alone e)) ∙ of_alone e

  -- what a form is, by what the rows of its parts are
  pub class_rows : (e : Tree) → class_above ks e (joined (of (rows_of e).one) (joined (of (rows_of e).two) (of (rows_of e).three))) ≡ class_in ks e
  class_rows (Const v m) = refl
  class_rows (Local i m) = refl
  class_rows (If c a b m) = λ i. joined (of_alone c i) (joined (of_alone a i) (of_alone b i))
  class_rows (Do items m) = of_one (of items)
  class_rows (Let values body m) = of_binding values body
  class_rows (Loop values body m) = of_binding values body
  class_rows (Recur values m) = of_one (of values)
  class_rows (Core op args m) = of_one (of args)
  class_rows (Call f args m) = ap (λ x. joined (class_known (nth ks f)) x) (of_one (of args))
  class_rows (VectorOf items m) = of_one (of items)
  class_rows (Println args m) = ap (λ x. class_above ks (Println args m) x) (of_one (of args))
  class_rows (Dosync body m) = ap (λ x. class_above ks (Dosync body m) x) (of_part body)
  class_rows (Look form cell m) = ap (λ x. class_above ks (Look form cell m) x) (of_part cell)
  class_rows (Put form cell value m) = ap (λ x. class_above ks (Put form cell value m) x) (of_two (of (alone cell)) (of (alone value)) ∙ (λ i. joined (of_alone cell i) (of_alone value i)))
  class_rows (Update form cell callee args m) = ap (λ x. class_above ks (Update form cell callee args m) x) (of_change cell args)
  class_rows (Send cell callee args m) = ap (λ x. class_above ks (Send cell callee args m) x) (of_change cell args)
