-- Calls that become the function's body, and those that don't.
use Rattle.std.proofs.Common.{◌≡◌, ℕ, zero, suc, ◌+◌, ◌-◌, ◌<◌, ◌≤◌, nat_eq, nat_le, Bool, true, false, ◌&&◌, not, List, [], ◌∷◌, ◌++◌, length, get_or, take, Option, Some, None, refl, sym, ap, ◌∙◌, subst, arith}
use Rattle.txs_value_data.specs.Places.{nth}
use Rattle.txs_value_data.specs.Limits.{most_locals}
use Rattle.txs_tree_meaning.specs.Sound.{nodes}
use Rattle.txs_tree_meaning.specs.Tree.{Mark, Tree, Trees, Call, none, more, count, PlainFunction}
use Rattle.txs_tree_meaning.specs.View.{function_of, functions_of, tree_of, trees_of}
use Rattle.txs_tree_meaning.specs.declared.node.Function.{Function}
use Rattle.txs_tree_meaning.specs.declared.node.Node.{Node}
use Rattle.txs_tree_meaning.proofs.Locals.{top_reach}
use Rattle.txs_tree_meaning.proofs.Rows.{behind, trees_behind}
use Rattle.txs_tree_meaning.specs.Locals.{top, reach, reach_let}
use Rattle.txs_tree_meaning.specs.Shift.{shifted}
use Rattle.txs_opt.proofs.InlinedRows.{take_behind, count_take}
use Rattle.txs_opt.proofs.Inlining.{opens_of}
use Rattle.txs_opt.proofs.Reach.{reach_shifted, bound_reach, args_above, arg_at}
use Rattle.txs_opt.proofs.ShiftedSound.{count_bound}
use Rattle.txs_opt.specs.Inline.{InlinedTree, bound, recurs, most_inlined, let_of_call, may_inline, opened, called}

-- ---- tests

pub le_true : (a b : ℕ) → a ≤ b → nat_le a b ≡ true
le_true a b h = grind (arith, h)

pub le_false : (a b : ℕ) → b < a → nat_le a b ≡ false
le_false a b h = grind (arith, h)

pub true_le : (a b : ℕ) → nat_le a b ≡ true → a ≤ b
true_le a b h = grind (arith, h)

pub eq_true : (a b : ℕ) → a ≡ b → nat_eq a b ≡ true
eq_true a b h = grind (arith, h)

pub eq_false : (a b : ℕ) → (a ≡ b → ⊥) → nat_eq a b ≡ false
eq_false a b h = grind (arith, h)

and_false : (a : Bool) → (a && false) ≡ false
and_false true = refl
and_false false = refl

module _ (d : ℕ) (fun : PlainFunction) (args : Trees) (m : Mark) (budget : ℕ) where
  abbrev small : Bool
  small = nat_le (nodes fun.body) most_inlined

  abbrev arity : Bool
  arity = nat_eq fun.parameters (count args)

  abbrev fits : Bool
  fits = nat_le (nodes fun.body) budget

  abbrev few : Bool
  few = nat_le (reach d (let_of_call d fun.body args m)) most_locals

  pub not_arity : (fun.parameters ≡ count args → ⊥) → may_inline d fun args m budget ≡ false
  not_arity h =
      ap (λ x. small && (not (recurs fun.body) && (x && (fits && few)))) (eq_false fun.parameters (count args) h) ∙ ap (λ x. small && x) (and_false (not (recurs fun.body))) ∙ and_false small

  pub not_few : few ≡ false → may_inline d fun args m budget ≡ false
  not_few h =
      ap (λ x. small && (not (recurs fun.body) && (arity && (fits && x)))) h ∙ ap (λ x. small && (not (recurs fun.body) && (arity && x))) (and_false fits)
      ∙ ap (λ x. small && (not (recurs fun.body) && x)) (and_false arity) ∙ ap (λ x. small && x) (and_false (not (recurs fun.body))) ∙ and_false small

  pub may : nodes fun.body ≤ most_inlined → recurs fun.body ≡ false → fun.parameters ≡ count args → nodes fun.body ≤ budget → few ≡ true → may_inline d fun args m budget ≡ true
  may p q r s t =
      ap (λ x. x && (not (recurs fun.body) && (arity && (fits && few)))) (le_true (nodes fun.body) most_inlined p) ∙ ap (λ x. not x && (arity && (fits && few))) q
      ∙ ap (λ x. x && (fits && few)) (eq_true fun.parameters (count args) r) ∙ ap (λ x. x && few) (le_true (nodes fun.body) budget s) ∙ t

-- ---- the function that is called

pub function_missing : (fs : List Function) (i : ℕ) → length fs ≤ i → nth (functions_of fs) i ≡ None
function_missing [] i le = refl
function_missing (f ∷ fs) zero le = absurd (omega (arith, le))
function_missing (f ∷ fs) (suc i) le = function_missing fs i (omega (arith, le))

pub function_there : (fs : List Function) (i : ℕ) (f : Function) → i < length fs → f ≡ get_or fs i f → nth (functions_of fs) i ≡ Some (function_of f)
function_there [] i f lt at = absurd (omega (arith, lt))
function_there (g ∷ fs) zero f lt at = ap (λ (x : Function). Some (function_of x)) (sym at)
function_there (g ∷ fs) (suc i) f lt at = function_there fs i f (omega (arith, lt)) at

module _ (o : Option PlainFunction) (d f : ℕ) (es : Trees) (m : Mark) (budget : ℕ) where
  abbrev kept : InlinedTree
  kept = record { tree = Call f es m; budget = budget }

  pub called_missing : o ≡ None → called o d f es m budget ≡ kept
  called_missing is = ap (λ x. called x d f es m budget) is

  pub called_kept : (fun : PlainFunction) → o ≡ Some fun → may_inline d fun es m budget ≡ false → called o d f es m budget ≡ kept
  called_kept fun is stays = ap (λ x. called x d f es m budget) is ∙ ap (λ b. opened b d f fun es m budget) stays

  pub called_opened : (fun : PlainFunction) → o ≡ Some fun → may_inline d fun es m budget ≡ true → called o d f es m budget ≡ record { tree = let_of_call d fun.body es m; budget = budget - nodes fun.body }
  called_opened fun is opens = ap (λ x. called x d f es m budget) is ∙ ap (λ b. opened b d f fun es m budget) opens

-- a node is what becomes of a call, and so many nodes more are what the program may get behind it
abbrev pub IsCalled : List Function → ℕ → ℕ → List Node → Mark → ℕ → Node → ℕ → Type 0
IsCalled fs i d items m budget made left = (tree_of made ≡ (called (nth (functions_of fs) i) d i (trees_of items) m budget).tree) × (left ≡ (called (nth (functions_of fs) i) d i (trees_of items) m budget).budget)

module _ (fs : List Function) (i d budget : ℕ) (items : List Node) (m : Mark) (made : Node) where
  as_is : called (nth (functions_of fs) i) d i (trees_of items) m budget ≡ record { tree = Call i (trees_of items) m; budget = budget } → tree_of made ≡ Call i (trees_of items) m → IsCalled fs i d items m budget made budget
  as_is e is = (is ∙ ap (λ x. x.tree) (sym e), ap (λ x. x.budget) (sym e))

  pub call_missing : length fs ≤ i → tree_of made ≡ Call i (trees_of items) m → IsCalled fs i d items m budget made budget
  call_missing le is = as_is (called_missing (nth (functions_of fs) i) d i (trees_of items) m budget (function_missing fs i le)) is

  module _ (f : Function) (lt : i < length fs) (at : f ≡ get_or fs i f) (seen : List Node) (same : seen ≡ items) where
    pub call_stays : may_inline d (function_of f) (trees_of seen) m budget ≡ false → tree_of made ≡ Call i (trees_of items) m → IsCalled fs i d items m budget made budget
    call_stays stays is =
        let here = ap (λ l. may_inline d (function_of f) (trees_of l) m budget) (sym same) ∙ stays in
        as_is (called_kept (nth (functions_of fs) i) d i (trees_of items) m budget (function_of f) (function_there fs i f lt at) here) is

    pub call_opens : (left : ℕ) → may_inline d (function_of f) (trees_of seen) m budget ≡ true → left ≡ budget - nodes (tree_of f.body) → tree_of made ≡ let_of_call d (tree_of f.body) (trees_of seen) m → IsCalled fs i d items m budget made left
    call_opens left opens rest is =
        let here = ap (λ l. may_inline d (function_of f) (trees_of l) m budget) (sym same) ∙ opens in
        let e = called_opened (nth (functions_of fs) i) d i (trees_of items) m budget (function_of f) (function_there fs i f lt at) here in
        (is ∙ ap (λ l. let_of_call d (tree_of f.body) (trees_of l) m) same ∙ ap (λ x. x.tree) (sym e), rest ∙ ap (λ x. x.budget) (sym e))

pub opened_reach : (d budget : ℕ) (fun : PlainFunction) (es : Trees) (m : Mark) → may_inline d fun es m budget ≡ true → reach d (let_of_call d fun.body es m) ≤ most_locals
opened_reach d budget fun es m opens = true_le (reach d (let_of_call d fun.body es m)) most_locals (opens_of d fun es m budget opens).few_locals

-- ---- the let that takes a call's place

bound_behind_from : (es : Trees) (e : Tree) (d j i : ℕ) → i ≡ j + count es → bound d j (behind es e) ≡ behind (bound d j es) (shifted d i e)
bound_behind_from none e d j i at =
    let same : j ≡ i = omega (arith, at) in
    ap (λ x. more (shifted d x e) none) same
bound_behind_from (more f es) e d j i at = ap (more (shifted d j f)) (bound_behind_from es e d (suc j) i (omega (arith, at)))

pub bound_behind : (es : Trees) (e : Tree) (d i : ℕ) → i ≡ count es → bound d 0 (behind es e) ≡ behind (bound d 0 es) (shifted d i e)
bound_behind es e d i at = bound_behind_from es e d 0 i (omega (arith, at))

pub body_reach : (d : ℕ) (body : Tree) (es : Trees) → reach (d + count (bound d 0 es)) (shifted 0 d body) ≡ reach (count es) body + d
body_reach d body es =
    let same : count es + d ≡ d + count (bound d 0 es) = omega (arith, count_bound d 0 es) in
    subst (λ j. reach j (shifted 0 d body) ≡ reach (count es) body + d) same (reach_shifted 0 d body (count es) (omega arith))

pub body_top : (d : ℕ) (body : Tree) (es : Trees) (m : Mark) → reach d (let_of_call d body es m) ≤ most_locals → top body + d ≤ 256
body_top d body es m few = omega (arith, few, body_reach d body es, top_reach body (count es))

pub arg_top : (d : ℕ) (ns : List Node) (i : ℕ) (n : Node) → i < length ns → n ≡ get_or ns i n → reach_let d (bound d 0 (trees_of ns)) ≤ most_locals → top (tree_of n) + i ≤ 256
arg_top d ns i n lt at few = omega (arith, few, bound_reach (trees_of ns) d, arg_at ns i 0 n d lt at, top_reach (tree_of n) d)

pub few_args : (d : ℕ) (es : Trees) → reach_let d (bound d 0 es) ≤ most_locals → count es ≤ most_locals
few_args d es few = omega (arith, few, bound_reach es d, args_above es d 0)

-- one more argument
pub bound_more : (d : ℕ) (ns anew later : List Node) (i : ℕ) (n made : Node) → i < length ns → n ≡ get_or ns i n → trees_of anew ≡ bound d 0 (trees_of (take i ns)) → later ≡ anew ++ made ∷ [] → tree_of made ≡ shifted d i (tree_of n)
    → trees_of later ≡ bound d 0 (trees_of (take (i + 1) ns))
bound_more d ns anew later i n made lt at so_far put same =
    ap trees_of put ∙ trees_behind anew made ∙ ap (λ es. behind es (tree_of made)) so_far ∙ ap (behind (bound d 0 (trees_of (take i ns)))) same
    ∙ sym (bound_behind (trees_of (take i ns)) (tree_of n) d i (sym (count_take ns i lt))) ∙ ap (bound d 0) (sym (take_behind ns i n lt at))
