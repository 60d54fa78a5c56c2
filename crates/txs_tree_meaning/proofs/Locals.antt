-- The locals of a tree: it names none above those that are live, and a tree whose names are resolved keeps the limit.
use Rattle.std.proofs.Common.{◌≡◌, ℕ, zero, suc, ◌+◌, ◌<◌, ◌≤◌, List, [], ◌∷◌, length, get_or, refl, ap, arith}
use Rattle.txs_value_data.specs.Limits.{most_locals}
use Rattle.txs_tree_meaning.specs.Known.{Known}
use Rattle.txs_tree_meaning.specs.Scoped.{ScopedTree, ScopedAll, ScopedLet}
use Rattle.txs_tree_meaning.specs.Tree.{Mark, Tree, Const, Local, If, Do, Let, Loop, Recur, Core, Call, VectorOf, Println, Dosync, Look, Put, Update, Send, Trees, none, more, count}
use Rattle.txs_tree_meaning.specs.View.{tree_of, trees_of}
use Rattle.txs_tree_meaning.specs.declared.node.Node.{Node}
use Rattle.txs_tree_meaning.specs.Locals.{top, top_all, reach, reach_all, reach_let}
use Rattle.txs_tree_meaning.specs.Shapes.{row_tree}
use Rattle.txs_tree_meaning.specs.declared.parts.Row.{Row}
use Rattle.txs_tree_meaning.specs.declared.parts.Row.TheVariants as row_of

pub row_top : (r : Row) (es : Trees) (m : Mark) → top (row_tree r es m) ≡ top_all es
row_top row_of.Do es m = refl
row_top row_of.Recur es m = refl
row_top (row_of.Core op) es m = refl
row_top (row_of.Call f) es m = refl
row_top row_of.Vector es m = refl
row_top row_of.Println es m = refl

pub top_at : (ns : List Node) (i : ℕ) (n : Node) → i < length ns → n ≡ get_or ns i n → top (tree_of n) ≤ top_all (trees_of ns)
top_at [] i n lt at = absurd (omega (arith, lt))
top_at (m ∷ ns) zero n lt at = omega (arith, ap (λ (x : Node). top (tree_of x)) at)
top_at (m ∷ ns) (suc i) n lt at = omega (arith, top_at ns i n (omega (arith, lt)) at)

mutual
  -- it names none above those that are live
  pub top_reach : (e : Tree) (d : ℕ) → top e ≤ reach d e
  top_reach (Const v m) d = omega arith
  top_reach (Local i m) d = omega arith
  top_reach (If c a b m) d = omega (arith, top_reach c d, top_reach a d, top_reach b d)
  top_reach (Do es m) d = top_reach_all es d
  top_reach (Let es body m) d = omega (arith, top_reach_let es d, top_reach body (d + count es))
  top_reach (Loop es body m) d = omega (arith, top_reach_let es d, top_reach body (d + count es))
  top_reach (Recur es m) d = top_reach_all es d
  top_reach (Core op es m) d = top_reach_all es d
  top_reach (Call f es m) d = top_reach_all es d
  top_reach (VectorOf es m) d = top_reach_all es d
  top_reach (Println es m) d = top_reach_all es d
  top_reach (Dosync body m) d = top_reach body d
  top_reach (Look form cell m) d = top_reach cell d
  top_reach (Put form cell value m) d = omega (arith, top_reach cell d, top_reach value d)
  top_reach (Update form cell callee es m) d = omega (arith, top_reach cell d, top_reach_all es d)
  top_reach (Send cell callee es m) d = omega (arith, top_reach cell d, top_reach_all es d)

  top_reach_all : (es : Trees) (d : ℕ) → top_all es ≤ reach_all d es
  top_reach_all none d = omega arith
  top_reach_all (more e es) d = omega (arith, top_reach e d, top_reach_all es d)

  top_reach_let : (es : Trees) (d : ℕ) → top_all es ≤ reach_let d es
  top_reach_let none d = omega arith
  top_reach_let (more e es) d = omega (arith, top_reach e d, top_reach_let es (d + 1))

module _ (ks : List Known) where
  let_ends : (es : Trees) (d : ℕ) → ScopedLet ks d es → d + count es ≤ most_locals
  let_ends none d h = omega (arith, h)
  let_ends (more e es) d h = omega (arith, let_ends es (d + 1) h.1)

  mutual
    -- where names are resolved, the limit on locals is kept
    pub reach_scoped : (e : Tree) (d : ℕ) → d ≤ most_locals → ScopedTree ks d e → reach d e ≤ most_locals
    reach_scoped (Const v m) d few h = few
    reach_scoped (Local i m) d few h = omega (arith, few, h)
    reach_scoped (If c a b m) d few h = omega (arith, reach_scoped c d few h.0, reach_scoped a d few h.1, reach_scoped b d few h.2)
    reach_scoped (Do es m) d few h = all_scoped es d few h.1
    reach_scoped (Let es body m) d few h = omega (arith, let_scoped es d few h.0, reach_scoped body (d + count es) (let_ends es d h.0) h.1)
    reach_scoped (Loop es body m) d few h = omega (arith, let_scoped es d few h.0, reach_scoped body (d + count es) (let_ends es d h.0) h.1)
    reach_scoped (Recur es m) d few h = all_scoped es d few h
    reach_scoped (Core op es m) d few h = all_scoped es d few h.1
    reach_scoped (Call f es m) d few h = all_scoped es d few h.1
    reach_scoped (VectorOf es m) d few h = all_scoped es d few h.1
    reach_scoped (Println es m) d few h = all_scoped es d few h.1
    reach_scoped (Dosync body m) d few h = reach_scoped body d few h
    reach_scoped (Look form cell m) d few h = reach_scoped cell d few h
    reach_scoped (Put form cell value m) d few h = omega (arith, reach_scoped cell d few h.0, reach_scoped value d few h.1)
    reach_scoped (Update form cell callee es m) d few h = omega (arith, reach_scoped cell d few h.0, all_scoped es d few h.3)
    reach_scoped (Send cell callee es m) d few h = omega (arith, reach_scoped cell d few h.0, all_scoped es d few h.3)

    all_scoped : (es : Trees) (d : ℕ) → d ≤ most_locals → ScopedAll ks d es → reach_all d es ≤ most_locals
    all_scoped none d few h = few
    all_scoped (more e es) d few h = omega (arith, reach_scoped e d few h.0, all_scoped es d few h.1)

    let_scoped : (es : Trees) (d : ℕ) → d ≤ most_locals → ScopedLet ks d es → reach_let d es ≤ most_locals
    let_scoped none d few h = few
    let_scoped (more e es) d few h =
        let end = let_ends es (d + 1) h.1 in
        omega (arith, reach_scoped e d few h.0, let_scoped es (d + 1) (omega (arith, end)) h.1)
