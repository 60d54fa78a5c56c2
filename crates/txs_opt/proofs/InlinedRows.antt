-- Nodes, functions and threads with calls inlined, one after the other.
use Rattle.std.proofs.Common.{◌≡◌, ℕ, zero, suc, ◌+◌, ◌<◌, ◌≤◌, List, [], ◌∷◌, ◌++◌, length, get_or, take, drop, refl, sym, ap, ◌∙◌, append_assoc, arith}
use Rattle.std.proofs.lemmas.List.{take_more}
use Rattle.txs_tree_meaning.proofs.Soundness.{count-trees_of, threads_from}
use Rattle.txs_tree_meaning.specs.Tree.{Tree, Trees, none, more, count, PlainFunction, PlainThread}
use Rattle.txs_tree_meaning.specs.View.{tree_of, trees_of, function_of, functions_of, thread_of, threads_of}
use Rattle.txs_tree_meaning.specs.declared.node.Function.{Function}
use Rattle.txs_tree_meaning.specs.declared.node.Node.{Node}
use Rattle.txs_tree_meaning.specs.declared.node.Thread.{Thread}
use Rattle.txs_tree_meaning.proofs.Copies.{functions_behind, threads_behind}
use Rattle.txs_tree_meaning.proofs.Rows.{behind, trees_behind}
use Rattle.txs_tree_meaning.specs.Locals.{reach, reach_all, reach_let}
use Rattle.txs_opt.specs.Inline.{InlinedTree, InlinedTrees, InlinedFunctions, inlined, all_inlined, let_inlined, functions_inlined, threads_inlined}

-- a tree in front of others, which were inlined behind it
abbrev in_front : Tree → InlinedTrees → InlinedTrees
in_front e x = record { trees = more e x.trees; budget = x.budget }

-- a tree behind others, which was inlined behind them
abbrev at_end : Trees → InlinedTree → InlinedTrees
at_end es x = record { trees = behind es x.tree; budget = x.budget }

pub take_behind : (ns : List Node) (i : ℕ) (n : Node) → i < length ns → n ≡ get_or ns i n → trees_of (take (i + 1) ns) ≡ behind (trees_of (take i ns)) (tree_of n)
take_behind ns i n lt at = ap trees_of (take_more ns i n lt ∙ ap (λ (x : Node). take i ns ++ x ∷ []) (sym at)) ∙ trees_behind (take i ns) n

length_take : (ns : List Node) (i : ℕ) → i < length ns → length (take i ns) ≡ i
length_take [] i lt = absurd (omega (arith, lt))
length_take (n ∷ ns) zero lt = refl
length_take (n ∷ ns) (suc i) lt = ap suc (length_take ns i (omega (arith, lt)))

pub count_take : (ns : List Node) (i : ℕ) → i < length ns → count (trees_of (take i ns)) ≡ i
count_take ns i lt = count-trees_of (take i ns) ∙ length_take ns i lt

module _ (fs : List PlainFunction) where
  all_behind : (d b : ℕ) (es : Trees) (e : Tree) → all_inlined fs d b (behind es e) ≡ at_end (all_inlined fs d b es).trees (inlined fs d (all_inlined fs d b es).budget e)
  all_behind d b none e = refl
  all_behind d b (more f es) e = ap (in_front (inlined fs d b f).tree) (all_behind d (inlined fs d b f).budget es e)

  let_behind : (d b i : ℕ) (es : Trees) (e : Tree) → i ≡ d + count es → let_inlined fs d b (behind es e) ≡ at_end (let_inlined fs d b es).trees (inlined fs i (let_inlined fs d b es).budget e)
  let_behind d b i none e at =
      let same : d ≡ i = omega (arith, at) in
      ap (λ j. at_end none (inlined fs j b e)) same
  let_behind d b i (more f es) e at = ap (in_front (inlined fs d b f).tree) (let_behind (d + 1) (inlined fs d b f).budget i es e (omega (arith, at)))

  module _ (ns anew later : List Node) (i : ℕ) (n made : Node) (left after : ℕ) (lt : i < length ns) (at : n ≡ get_or ns i n) (put : later ≡ anew ++ made ∷ []) where
    -- one more node
    pub all_more : (d b : ℕ) → trees_of anew ≡ (all_inlined fs d b (trees_of (take i ns))).trees → left ≡ (all_inlined fs d b (trees_of (take i ns))).budget → tree_of made ≡ (inlined fs d left (tree_of n)).tree → after ≡ (inlined fs d left (tree_of n)).budget
        → (trees_of later ≡ (all_inlined fs d b (trees_of (take (i + 1) ns))).trees) × (after ≡ (all_inlined fs d b (trees_of (take (i + 1) ns))).budget)
    all_more d b trees budget tree rest =
        let x = all_inlined fs d b (trees_of (take i ns)) in
        let whole : at_end x.trees (inlined fs d x.budget (tree_of n)) ≡ all_inlined fs d b (trees_of (take (i + 1) ns)) =
        sym (ap (all_inlined fs d b) (take_behind ns i n lt at) ∙ all_behind d b (trees_of (take i ns)) (tree_of n)) in (
          ap trees_of put ∙ trees_behind anew made ∙ ap (λ es. behind es (tree_of made)) trees ∙ ap (behind x.trees) tree ∙ ap (λ l. behind x.trees (inlined fs d l (tree_of n)).tree) budget ∙ ap (λ y. y.trees) whole,
          rest ∙ ap (λ l. (inlined fs d l (tree_of n)).budget) budget ∙ ap (λ y. y.budget) whole,
        )

    -- one more value of a let
    pub let_more : (d b : ℕ) → trees_of anew ≡ (let_inlined fs d b (trees_of (take i ns))).trees → left ≡ (let_inlined fs d b (trees_of (take i ns))).budget → tree_of made ≡ (inlined fs (d + i) left (tree_of n)).tree → after ≡ (inlined fs (d + i) left (tree_of n)).budget
        → (trees_of later ≡ (let_inlined fs d b (trees_of (take (i + 1) ns))).trees) × (after ≡ (let_inlined fs d b (trees_of (take (i + 1) ns))).budget)
    let_more d b trees budget tree rest =
        let x = let_inlined fs d b (trees_of (take i ns)) in
        let place : d + i ≡ d + count (trees_of (take i ns)) = omega (arith, count_take ns i lt) in
        let whole : at_end x.trees (inlined fs (d + i) x.budget (tree_of n)) ≡ let_inlined fs d b (trees_of (take (i + 1) ns)) =
        sym (ap (let_inlined fs d b) (take_behind ns i n lt at) ∙ let_behind d b (d + i) (trees_of (take i ns)) (tree_of n) place) in (
          ap trees_of put ∙ trees_behind anew made ∙ ap (λ es. behind es (tree_of made)) trees ∙ ap (behind x.trees) tree ∙ ap (λ l. behind x.trees (inlined fs (d + i) l (tree_of n)).tree) budget ∙ ap (λ y. y.trees) whole,
          rest ∙ ap (λ l. (inlined fs (d + i) l (tree_of n)).budget) budget ∙ ap (λ y. y.budget) whole,
        )

-- ---- what a node's share of the locals is

pub reach_at : (d : ℕ) (ns : List Node) (i : ℕ) (n : Node) → i < length ns → n ≡ get_or ns i n → reach d (tree_of n) ≤ reach_all d (trees_of ns)
reach_at d [] i n lt at = absurd (omega (arith, lt))
reach_at d (m ∷ ns) zero n lt at = omega (arith, ap (λ (x : Node). reach d (tree_of x)) at)
reach_at d (m ∷ ns) (suc i) n lt at = omega (arith, reach_at d ns i n (omega (arith, lt)) at)

pub let_reach_at : (d : ℕ) (ns : List Node) (i j : ℕ) (n : Node) → j ≡ d + i → i < length ns → n ≡ get_or ns i n → reach j (tree_of n) ≤ reach_let d (trees_of ns)
let_reach_at d [] i j n is lt at = absurd (omega (arith, lt))
let_reach_at d (m ∷ ns) zero j n is lt at =
    let same : j ≡ d = omega (arith, is) in
    omega (arith, ap (λ x. reach x (tree_of n)) same, ap (λ (x : Node). reach d (tree_of x)) at)
let_reach_at d (m ∷ ns) (suc i) j n is lt at = omega (arith, let_reach_at (d + 1) ns i j n (omega (arith, is)) (omega (arith, lt)) at)

-- ---- functions and threads

functions_from : (fs : List Function) (i : ℕ) (f : Function) → i < length fs → f ≡ get_or fs i f → functions_of (drop i fs) ≡ function_of f ∷ functions_of (drop (i + 1) fs)
functions_from [] i f lt at = absurd (omega (arith, lt))
functions_from (g ∷ fs) zero f lt at = ap (λ (x : Function). function_of x ∷ functions_of fs) (sym at)
functions_from (g ∷ fs) (suc i) f lt at =
    let same : suc i + 1 ≡ suc (i + 1) = omega arith in
    functions_from fs i f (omega (arith, lt)) at ∙ ap (λ j. function_of f ∷ functions_of (drop j (g ∷ fs))) (sym same)

-- one more function, where these are seen as those that are made
pub functions_step : (fs done seen later : List Function) (b after i : ℕ) (f made : Function) (whole : InlinedFunctions) → seen ≡ done → i < length fs → f ≡ get_or fs i f → functions_inlined (functions_of done) b (functions_of (drop i fs)) ≡ whole → later ≡ done ++ made ∷ []
    → function_of made ≡ record (function_of f) { body = (inlined (functions_of seen) f.parameters b (tree_of f.body)).tree } → after ≡ (inlined (functions_of seen) f.parameters b (tree_of f.body)).budget → functions_inlined (functions_of later) after (functions_of (drop (i + 1) fs)) ≡ whole
functions_step fs done seen later b after i f made whole one lt at so_far put same rest =
    let behind_it = functions_of (drop (i + 1) fs) in
    let x = λ (l : List Function). inlined (functions_of l) f.parameters b (tree_of f.body) in
    let g : PlainFunction = record (function_of f) { body = (x done).tree } in
    let is : function_of made ≡ g = same ∙ ap (λ (l : List Function). record (function_of f) { body = (x l).tree }) one in
    ap (λ l. functions_inlined (functions_of l) after behind_it) put ∙ ap (λ l. functions_inlined l after behind_it) (functions_behind done made) ∙ ap (λ (y : PlainFunction). functions_inlined (functions_of done ++ y ∷ []) after behind_it) is
    ∙ ap (λ a. functions_inlined (functions_of done ++ g ∷ []) a behind_it) (rest ∙ ap (λ (l : List Function). (x l).budget) one) ∙ sym (ap (functions_inlined (functions_of done) b) (functions_from fs i f lt at)) ∙ so_far

-- one more thread
pub threads_step : (gs : List PlainFunction) (ts anew later : List Thread) (b after i : ℕ) (t made : Thread) (whole : List PlainThread) → i < length ts → t ≡ get_or ts i t → threads_of anew ++ threads_inlined gs b (threads_of (drop i ts)) ≡ whole → later ≡ anew ++ made ∷ []
    → thread_of made ≡ record (thread_of t) { body = (inlined gs 0 b (tree_of t.body)).tree } → after ≡ (inlined gs 0 b (tree_of t.body)).budget → threads_of later ++ threads_inlined gs after (threads_of (drop (i + 1) ts)) ≡ whole
threads_step gs ts anew later b after i t made whole lt at so_far put same rest =
    let behind_it = threads_of (drop (i + 1) ts) in
    let x = inlined gs 0 b (tree_of t.body) in
    let u : PlainThread = record (thread_of t) { body = x.tree } in
    ap (λ l. threads_of l ++ threads_inlined gs after behind_it) put ∙ ap (λ l. l ++ threads_inlined gs after behind_it) (threads_behind anew made) ∙ append_assoc (threads_of anew) (thread_of made ∷ []) (threads_inlined gs after behind_it)
    ∙ ap (λ (y : PlainThread). threads_of anew ++ y ∷ threads_inlined gs after behind_it) same ∙ ap (λ a. threads_of anew ++ u ∷ threads_inlined gs a behind_it) rest
    ∙ sym (ap (λ l. threads_of anew ++ threads_inlined gs b l) (threads_from ts i t lt at)) ∙ so_far
