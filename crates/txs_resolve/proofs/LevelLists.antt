-- The number at a place of a list of levels.
use Rattle.std.proofs.Common.{◌≡◌, ◌<◌, ◌≤◌, ℕ, zero, suc, false, true, nat_lt, List, [], ◌∷◌, length, map, slice_index_or, refl, sym, ap, ◌∙◌, arith}
use Rattle.std.proofs.lemmas.Bool.Decides.{nat_tests}
use Rattle.txs_value_data.specs.Places.{nth}
use Rattle.txs_value_data.specs.declared.op.Callee.{Callee}
use Rattle.txs_value_data.specs.declared.op.Callee.TheVariants.{Core as CoreOp, Function}
use Rattle.txs_tree_meaning.specs.Known.{Known, callee_levels, levels, levels_in, levels_of}
use Rattle.txs_tree_meaning.specs.Tree.{Tree, Trees, Const, Local, If, Do, Let, Loop, Recur, Core, Call, VectorOf, Println, Dosync, Look, Put, Update, Send, none, more}
use Rattle.txs_resolve.specs.Depths.{at_place, callee_depth, depths, depths_in}

beyond : (ls : List ℕ) (n : ℕ) → length ls ≤ n → at_place ls n ≡ 0
beyond [] n h = refl
beyond (l ∷ ls) zero h = absurd (omega (arith, h))
beyond (l ∷ ls) (suc n) h = beyond ls n (omega (arith, h))

within_list : (ls : List ℕ) (n d : ℕ) → n < length ls → slice_index_or ls n d ≡ at_place ls n
within_list [] n d h = absurd (omega (arith, h))
within_list (l ∷ ls) zero d h = refl
within_list (l ∷ ls) (suc n) d h = within_list ls n d (omega (arith, h))

is_less : (m n : ℕ) → nat_lt m n ≡ true → m < n
is_less m n h = grind (arith, nat_tests)

not_less : (m n : ℕ) → nat_lt m n ≡ false → n ≤ m
not_less m n h = grind (arith, nat_tests)

pub place_missing : (ls : List ℕ) (n m : ℕ) → m ≡ n → nat_lt m (length ls) ≡ false → at_place ls n ≡ 0
place_missing ls n m same h = ap (at_place ls) (sym same) ∙ beyond ls m (not_less m (length ls) h)

pub place_found : (ls : List ℕ) (m n d : ℕ) → m ≡ n → nat_lt m (length ls) ≡ true → slice_index_or ls m d ≡ at_place ls n
place_found ls m n d same h = within_list ls m d (is_less m (length ls) h) ∙ ap (at_place ls) same

-- ---- the levels by their numbers are those of the functions that are known

abbrev pub known_levels : List Known → List ℕ
known_levels ks = map (λ k. k.levels) ks

pub place_levels : (ks : List Known) (f : ℕ) → at_place (known_levels ks) f ≡ levels_of (nth ks f)
place_levels [] f = refl
place_levels (k ∷ ks) zero = refl
place_levels (k ∷ ks) (suc f) = place_levels ks f

module _ (ks : List Known) where
  callee_same : (c : Callee) → callee_depth (known_levels ks) c ≡ callee_levels ks c
  callee_same (CoreOp op) = refl
  callee_same (Function f) = place_levels ks f

  mutual
    pub depths_levels : (t : Tree) → depths (known_levels ks) t ≡ levels ks t
    depths_levels (Const v m) = refl
    depths_levels (Local i m) = refl
    depths_levels (If c a b m) = omega (arith, depths_levels c, depths_levels a, depths_levels b)
    depths_levels (Do items m) = omega (arith, depths_all items)
    depths_levels (Let values body m) = omega (arith, depths_all values, depths_levels body)
    depths_levels (Loop values body m) = omega (arith, depths_all values, depths_levels body)
    depths_levels (Recur values m) = omega (arith, depths_all values)
    depths_levels (Core op args m) = omega (arith, depths_all args)
    depths_levels (Call f args m) = omega (arith, place_levels ks f, depths_all args)
    depths_levels (VectorOf items m) = omega (arith, depths_all items)
    depths_levels (Println args m) = omega (arith, depths_all args)
    depths_levels (Dosync body m) = omega (arith, depths_levels body)
    depths_levels (Look form cell m) = omega (arith, depths_levels cell)
    depths_levels (Put form cell value m) = omega (arith, depths_levels cell, depths_levels value)
    depths_levels (Update form cell callee args m) = omega (arith, callee_same callee, depths_levels cell, depths_all args)
    depths_levels (Send cell callee args m) = omega (arith, callee_same callee, depths_levels cell, depths_all args)

    depths_all : (ts : Trees) → depths_in (known_levels ks) ts ≡ levels_in ks ts
    depths_all none = refl
    depths_all (more e rest) = omega (arith, depths_levels e, depths_all rest)
