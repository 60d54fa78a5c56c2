-- How many locals are live at once in a shifted tree, in the let that takes a call's place, and at least.
use Rattle.std.proofs.Common.{◌≡◌, ℕ, zero, suc, max, ◌+◌, ◌<◌, ◌≤◌, nat_lt, nat_le, Bool, true, false, if◌then◌else◌, List, [], ◌∷◌, length, get_or, refl, sym, ap, subst, arith}
use Rattle.txs_tree_meaning.specs.Tree.{Tree, Const, Local, If, Do, Let, Loop, Recur, Core, Call, VectorOf, Println, Dosync, Look, Put, Update, Send, Trees, none, more, count}
use Rattle.txs_tree_meaning.specs.View.{tree_of, trees_of}
use Rattle.txs_tree_meaning.specs.declared.node.Node.{Node}
use Rattle.txs_tree_meaning.specs.Locals.{reach, reach_all, reach_let}
use Rattle.txs_tree_meaning.specs.Shift.{shifted, all_shifted}
use Rattle.txs_opt.proofs.Shifting.{count_shifted}
use Rattle.txs_opt.specs.Inline.{bound}

-- ---- at least

pub all_above : (es : Trees) (d : ℕ) → d ≤ reach_all d es
all_above none d = omega arith
all_above (more e es) d = omega (arith, all_above es d)

pub let_above : (es : Trees) (d : ℕ) → d + count es ≤ reach_let d es
let_above none d = omega arith
let_above (more e es) d = omega (arith, let_above es (d + 1))

-- ---- shifted

module _ (c k : ℕ) where
  local_shifted : (i d : ℕ) (b : Bool) → nat_lt i c ≡ b → c ≤ d → max (d + k) (suc (if b then i else i + k)) ≡ max d (suc i) + k
  local_shifted i d true is le = below i d (grind (arith, is)) le
    where
      below : (i d : ℕ) → i < c → c ≤ d → max (d + k) (suc i) ≡ max d (suc i) + k
      below i d lt le = omega (arith, lt, le)
  local_shifted i d false is le = omega arith

  binding_shifted : (es : Trees) (body : Tree) (d : ℕ) → reach_let (d + k) (all_shifted c k es) ≡ reach_let d es + k → reach (d + count es + k) (shifted c k body) ≡ reach (d + count es) body + k
      → max (reach_let (d + k) (all_shifted c k es)) (reach (d + k + count (all_shifted c k es)) (shifted c k body)) ≡ max (reach_let d es) (reach (d + count es) body) + k
  binding_shifted es body d values below =
      let same : d + count es + k ≡ d + k + count (all_shifted c k es) = omega (arith, count_shifted c k es) in
      omega (arith, values, subst (λ j. reach j (shifted c k body) ≡ reach (d + count es) body + k) same below)

  mutual
    pub reach_shifted : (e : Tree) (d : ℕ) → c ≤ d → reach (d + k) (shifted c k e) ≡ reach d e + k
    reach_shifted (Const v m) d le = refl
    reach_shifted (Local i m) d le = local_shifted i d (nat_lt i c) refl le
    reach_shifted (If t a b m) d le = omega (arith, reach_shifted t d le, reach_shifted a d le, reach_shifted b d le)
    reach_shifted (Do es m) d le = all_reach_shifted es d le
    reach_shifted (Let es body m) d le = binding_shifted es body d (let_reach_shifted es d le) (reach_shifted body (d + count es) (omega (arith, le)))
    reach_shifted (Loop es body m) d le = binding_shifted es body d (let_reach_shifted es d le) (reach_shifted body (d + count es) (omega (arith, le)))
    reach_shifted (Recur es m) d le = all_reach_shifted es d le
    reach_shifted (Core op es m) d le = all_reach_shifted es d le
    reach_shifted (Call f es m) d le = all_reach_shifted es d le
    reach_shifted (VectorOf es m) d le = all_reach_shifted es d le
    reach_shifted (Println es m) d le = all_reach_shifted es d le
    reach_shifted (Dosync body m) d le = reach_shifted body d le
    reach_shifted (Look form cell m) d le = reach_shifted cell d le
    reach_shifted (Put form cell value m) d le = omega (arith, reach_shifted cell d le, reach_shifted value d le)
    reach_shifted (Update form cell callee es m) d le = omega (arith, reach_shifted cell d le, all_reach_shifted es d le)
    reach_shifted (Send cell callee es m) d le = omega (arith, reach_shifted cell d le, all_reach_shifted es d le)

    all_reach_shifted : (es : Trees) (d : ℕ) → c ≤ d → reach_all (d + k) (all_shifted c k es) ≡ reach_all d es + k
    all_reach_shifted none d le = refl
    all_reach_shifted (more e es) d le = omega (arith, reach_shifted e d le, all_reach_shifted es d le)

    let_reach_shifted : (es : Trees) (d : ℕ) → c ≤ d → reach_let (d + k) (all_shifted c k es) ≡ reach_let d es + k
    let_reach_shifted none d le = refl
    let_reach_shifted (more e es) d le =
        let same : d + 1 + k ≡ d + k + 1 = omega arith in
        omega (arith, reach_shifted e d le, subst (λ j. reach_let j (all_shifted c k es) ≡ reach_let (d + 1) es + k) same (let_reach_shifted es (d + 1) (omega (arith, le))))

-- ---- arguments as the values of a let

-- the most in arguments that see d locals, the first of which comes behind j others, and behind them
abbrev pub args_reach : ℕ → ℕ → Trees → ℕ
args_reach d j none = d + j
args_reach d j (more e es) = max (reach d e + j) (args_reach d (j + 1) es)

pub args_above : (es : Trees) (d j : ℕ) → d + j + count es ≤ args_reach d j es
args_above none d j = omega arith
args_above (more e es) d j = omega (arith, args_above es d (j + 1))

bound_from : (es : Trees) (d j i : ℕ) → i ≡ d + j → reach_let i (bound d j es) ≡ args_reach d j es
bound_from none d j i at = at
bound_from (more e es) d j i at =
    let first : reach i (shifted d j e) ≡ reach d e + j = subst (λ x. reach x (shifted d j e) ≡ reach d e + j) (sym at) (reach_shifted d j e d (omega arith)) in
    let next : suc j ≡ j + 1 = omega arith in
    let rest : reach_let (i + 1) (bound d (suc j) es) ≡ args_reach d (j + 1) es = subst (λ x. reach_let (i + 1) (bound d x es) ≡ args_reach d (j + 1) es) (sym next) (bound_from es d (j + 1) (i + 1) (omega (arith, at))) in
    omega (arith, first, rest)

pub bound_reach : (es : Trees) (d : ℕ) → reach_let d (bound d 0 es) ≡ args_reach d 0 es
bound_reach es d = bound_from es d 0 d (omega arith)

-- an argument's share
pub arg_at : (ns : List Node) (i j : ℕ) (n : Node) (d : ℕ) → i < length ns → n ≡ get_or ns i n → reach d (tree_of n) + (j + i) ≤ args_reach d j (trees_of ns)
arg_at [] i j n d lt at = absurd (omega (arith, lt))
arg_at (m ∷ ns) zero j n d lt at = omega (arith, ap (λ (x : Node). reach d (tree_of x)) at)
arg_at (m ∷ ns) (suc i) j n d lt at = omega (arith, arg_at ns i (j + 1) n d (omega (arith, lt)) at)

-- a number within a limit, or not
pub within_max : (a b n : ℕ) → nat_le a n ≡ true → nat_le (max a b) n ≡ nat_le b n
within_max a b n h = grind (arith, h)

pub over_max : (a b n : ℕ) → nat_le a n ≡ false → nat_le (max a b) n ≡ false
over_max a b n h = grind (arith, h)
