-- What is sound of a function's body where the function is called, and how far calls go.
use Rattle.std.proofs.Common.{◌≡◌, ℕ, zero, suc, ◌+◌, ◌-◌, ◌*◌, ◌<◌, ◌≤◌, true, List, [], ◌∷◌, Option, Some, None, length, take, sym, ap, ◌∙◌, subst, arith}
use Rattle.txs_value_data.specs.Places.{nth}
use Rattle.txs_value_data.specs.declared.op.Callee.{Callee}
use Rattle.txs_value_data.specs.declared.op.Callee.TheVariants.{Core as CoreOp, Function}
use Rattle.txs_value_cell.specs.Cells.{validators_of, validator_at}
use Rattle.txs_value_cell.specs.declared.cell.CellDefinition.{CellDefinition}
use Rattle.txs_tree_meaning.specs.Known.{Known, is_inside, is_outside, is_pure, known_of, known}
use Rattle.txs_tree_meaning.specs.Sound.{Zone, in_function, MayCall, SoundCall, SoundCallee, SoundCells, SoundValidator, PureCall, SoundTree, SoundFunctions, nodes, nodes_of_functions}
use Rattle.txs_tree_meaning.specs.Tree.{Tree, PlainFunction}
use Rattle.txs_tree_meaning.specs.View.{functions_of}
use Rattle.txs_tree_meaning.specs.declared.node.Function as function
use Rattle.txs_tree_meaning.proofs.Callable.{FunctionAt, missing, same_some, nth-length, nth-take, nth-before, length-known, length-functions_of, function_at, tree-widened, tree-outside, tree-inside, pure_outside, pure_inside}
use Rattle.txs_tree_eval_node.specs.Setting.{Setting, no_view, deeper, deepest, on_view, callable, zone_on, zone_in}
use Rattle.txs_tree_eval_transaction.specs.Views.{PlainTxView, whole_view}

-- what is sound where all functions are defined is sound where as many may be called as there are
pub sound_everywhere : (cells : List CellDefinition) (fs : List function.Function) (n : ℕ) (o : Option PlainTxView) (e : Tree) (zone : Zone) (d : ℕ) (tail : Option ℕ) → SoundTree (known (functions_of fs)) zone d tail e
    → SoundTree (callable (record { cells = cells; functions = fs; depth = length fs; turns = n; world = o })) zone d tail e
sound_everywhere cells fs n o e zone d tail h =
    let all = known (functions_of fs) in
    let many : length all ≡ length fs = length-known (functions_of fs) ∙ length-functions_of fs in
    tree-widened all (take (length fs) all) (λ f k found. nth-before (length fs) all f k (omega (arith, many, nth-length all f k found)) found) e zone d tail h

-- a pure function is among those that may be called, in a transaction and outside
module _ (fs : List PlainFunction) (f : ℕ) (k : Known) (found : nth (known fs) f ≡ Some k) (pure : k.pure ≡ true) where
  tame_on : (o : Option PlainTxView) → MayCall (zone_on o) k
  tame_on None = sym (ap is_inside found) ∙ pure_outside fs f (ap is_pure found ∙ pure)
  tame_on (Some r) = sym (ap is_outside found) ∙ pure_inside fs f (ap is_pure found ∙ pure)

-- a pure callee may be called here
pub pure_here : (setting : Setting) (f n : ℕ) → PureCall (callable setting) f n → SoundCall (callable setting) (zone_in setting) f n
pure_here setting f n h =
    let there = nth-take setting.depth (known (functions_of setting.functions)) f h.function h.found in
    record { function = h.function; found = h.found; arity = h.arity; zoned = tame_on (functions_of setting.functions) f h.function there.1 h.pure setting.world }

-- what is pure where all functions are defined is pure where as many may be called as there are
pub pure_everywhere : (cells : List CellDefinition) (fs : List function.Function) (n f m : ℕ) (o : Option PlainTxView) → PureCall (known (functions_of fs)) f m
    → PureCall (callable (record { cells = cells; functions = fs; depth = length fs; turns = n; world = o })) f m
pure_everywhere cells fs n f m o h =
    let all = known (functions_of fs) in
    let many : length all ≡ length fs = length-known (functions_of fs) ∙ length-functions_of fs in
    record { function = h.function; found = nth-before (length fs) all f h.function (omega (arith, many, nth-length all f h.function h.found)) h.found; arity = h.arity; pure = h.pure }

-- a pure function is pure among all
pub pure_among : (setting : Setting) (f n : ℕ) → PureCall (callable setting) f n → is_pure (nth (known (functions_of setting.functions)) f) ≡ true
pure_among setting f n h =
    let there = nth-take setting.depth (known (functions_of setting.functions)) f h.function h.found in
    ap is_pure there.1 ∙ h.pure

-- ---- a call

-- a function's body where it may be called
tree_on : (o : Option PlainTxView) (ks : List Known) (k : Known) (fun : PlainFunction) (d : ℕ) (tail : Option ℕ) → k ≡ known_of ks fun → MayCall (zone_on o) k → SoundTree ks in_function d tail fun.body → SoundTree ks (zone_on o) d tail fun.body
tree_on None ks k fun d tail is may h = tree-outside ks fun.body d tail h (sym (ap (λ l. l.inside) is) ∙ may)
tree_on (Some r) ks k fun d tail is may h = tree-inside ks fun.body d tail h (sym (ap (λ l. l.outside) is) ∙ may)

module _ (setting : Setting) (f n : ℕ) (h : SoundCall (callable setting) (zone_in setting) f n) where
  found_in : (f < setting.depth) × (nth (known (functions_of setting.functions)) f ≡ Some h.function)
  found_in = nth-take setting.depth (known (functions_of setting.functions)) f h.function h.found

  pub depth_left : 0 < setting.depth
  depth_left = omega (arith, found_in.0)

  pub is_function : f < length setting.functions
  is_function =
      omega (arith, nth-length (known (functions_of setting.functions)) f h.function found_in.1, length-known (functions_of setting.functions), length-functions_of setting.functions)

  module _ (fun : PlainFunction) (sound : SoundFunctions [] (functions_of setting.functions)) (there : nth (functions_of setting.functions) f ≡ Some fun) where
    abbrev all : List Known
    all = known (functions_of setting.functions)

    at_place : FunctionAt all f fun (take f all)
    at_place = function_at (functions_of setting.functions) f fun sound there

    is_known : h.function ≡ known_of (take f all) fun
    is_known = same_some h.function (known_of (take f all) fun) (sym found_in.1 ∙ at_place.0)

    pub as_many : fun.parameters ≡ n
    as_many = sym (ap (λ k. k.parameters) is_known) ∙ h.arity

    pub called_body : SoundTree (callable (deeper setting)) (zone_in setting) n (Some n) fun.body
    called_body =
        let body = tree_on setting.world (take f all) h.function fun fun.parameters (Some fun.parameters) is_known h.zoned at_place.1.1 in
        let grows : (g : ℕ) (k : Known) → nth (take f all) g ≡ Some k → nth (take (setting.depth - 1) all) g ≡ Some k = λ g k is.
        let low = nth-take f all g k is in
        nth-before (setting.depth - 1) all g k (omega (arith, low.0, found_in.0)) low.1 in
        subst (λ m. SoundTree (take (setting.depth - 1) all) (zone_in setting) m (Some m) fun.body) as_many
        (tree-widened (take f all) (take (setting.depth - 1) all) grows fun.body (zone_in setting) fun.parameters (Some fun.parameters) body)

-- ---- what a call needs of the measure

pub nodes-function : (fs : List PlainFunction) (f : ℕ) (fun : PlainFunction) → nth fs f ≡ Some fun → nodes fun.body ≤ nodes_of_functions fs
nodes-function [] f fun h = absurd (missing fun h)
nodes-function (g ∷ fs) zero fun h = omega (arith, ap (λ x. nodes x.body) (same_some g fun h))
nodes-function (g ∷ fs) (suc f) fun h = omega (arith, nodes-function fs f fun h)

-- what the pure callees may take that are applied outside transactions
abbrev outer : Option PlainTxView → ℕ → ℕ
outer None n = n
outer (Some r) n = 0

-- all that calls below may take
pub room : Setting → ℕ
room s = s.depth * (16 * nodes_of_functions (functions_of s.functions) + 2) + outer s.world (length (functions_of s.functions) * (16 * nodes_of_functions (functions_of s.functions) + 2))

one_less : (d m : ℕ) → 0 < d → (d - 1) * m + m ≡ d * m
one_less zero m lt = absurd (omega (arith, lt))
one_less (suc d) m lt = Prim.grind arith

pub room-deeper : (s : Setting) (f : ℕ) (fun : PlainFunction) → 0 < s.depth → nth (functions_of s.functions) f ≡ Some fun → room (deeper s) + (16 * nodes fun.body + 1) < room s
unfolding room
room-deeper s f fun lt h =
    omega (arith, one_less s.depth (16 * nodes_of_functions (functions_of s.functions) + 2) lt, nodes-function (functions_of s.functions) f fun h)

pub in_room : (s : Setting) (a b : ℕ) → a < b → room s + a < room s + b
in_room s a b lt = omega (arith, lt)

pub room_on : (s inner : Setting) (r : PlainTxView) → inner ≡ on_view s r → room inner ≤ room s
unfolding room
room_on s inner r is = subst (λ y. room y ≤ room s) (sym is) (omega arith)

pub room_deepest : (s inner : Setting) → inner ≡ deepest s → s.world ≡ None → room inner ≤ room s
unfolding room
room_deepest s inner is out =
    let m = 16 * nodes_of_functions (functions_of s.functions) + 2 in
    let n = length (functions_of s.functions) in
    subst (λ y. room y ≤ room s) (sym is) (subst (λ o. n * m + 0 ≤ s.depth * m + outer o (n * m)) (sym out) (omega arith))

-- ---- where calls may go as deep as there are functions

all_known : (x : Setting) (f : ℕ) (k : Known) → nth (known (functions_of x.functions)) f ≡ Some k → nth (callable (deepest x)) f ≡ Some k
all_known x f k h =
    let fs = functions_of x.functions in
    nth-before (length fs) (known fs) f k (omega (arith, length-known fs, nth-length (known fs) f k h)) h

-- the same setting, where calls go so deep in a transaction on no cells
abbrev pub so_deep : Setting → ℕ → Setting
so_deep s d = record { cells = s.cells; functions = s.functions; depth = d; turns = s.turns; world = Some (whole_view no_view) }

pub whole_depth : (s : Setting) → so_deep s (length s.functions) ≡ deepest s
whole_depth s = ap (so_deep s) (sym (length-functions_of s.functions))

-- a callee that may be applied may be applied there
pub callee_deepest : (x : Setting) (c : Callee) (n : ℕ) → SoundCallee (callable x) c n → SoundCallee (callable (deepest x)) c n
callee_deepest x (CoreOp op) n h = h
callee_deepest x (Function f) n h =
    let there = nth-take x.depth (known (functions_of x.functions)) f h.function h.found in
    record { function = h.function; found = all_known x f h.function there.1; arity = h.arity; pure = h.pure }

-- so may validators
pub cells_deepest : (x : Setting) (ds : List CellDefinition) → SoundCells (known (functions_of x.functions)) ds → SoundCells (callable (deepest x)) ds
cells_deepest x [] h = tt
cells_deepest x (d ∷ ds) h = (one d.validator h.0, cells_deepest x ds h.1)
  where
    one : (o : Option Callee) → SoundValidator (known (functions_of x.functions)) o → SoundValidator (callable (deepest x)) o
    one None g = tt
    one (Some (CoreOp op)) g = g
    one (Some (Function f)) g = record { function = g.function; found = all_known x f g.function g.found; arity = g.arity; pure = g.pure }

-- the validator of a cell
pub validator_sound : (ks : List Known) (ds : List CellDefinition) (k : ℕ) → SoundCells ks ds → SoundValidator ks (validator_at (validators_of ds) k)
validator_sound ks [] k h = tt
validator_sound ks (d ∷ ds) zero h = h.0
validator_sound ks (d ∷ ds) (suc k) h = validator_sound ks ds k h.1
