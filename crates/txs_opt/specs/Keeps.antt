-- What folding and inlining keep.
use Rattle.std.specs.Prelude.{◌≡◌, ◌≤◌, ◌+◌, ℕ, List, [], length, take, Some}
use Rattle.txs_world_protocol.specs.SeenEvent.{SeenEvent}
use Rattle.txs_value_cell.specs.Cells.{World}
use Rattle.txs_value_cell.specs.declared.action.Action.{Action}
use Rattle.txs_value_data.specs.Places.{nth}
use Rattle.txs_value_data.specs.declared.op.Callee.{Callee}
use Rattle.txs_value_data.specs.declared.value.Value.{Value}
use Rattle.txs_tree_meaning.specs.Known.{known}
use Rattle.txs_tree_meaning.specs.Pure.{pure_meaning}
use Rattle.txs_tree_meaning.specs.Scoped.{ScopedTree}
use Rattle.txs_tree_meaning.specs.Sound.{Sound, SoundFunctions, SoundSource, nodes_of_functions, nodes_of_all}
use Rattle.txs_tree_meaning.specs.Thread.{thread_meaning, action_meaning}
use Rattle.txs_tree_meaning.specs.Transaction.{tx_meaning}
use Rattle.txs_tree_meaning.specs.Tree.{Tree, PlainFunction, PlainThread, PlainProgram, ThreadSource}
use Rattle.txs_opt.specs.Fold.{folded, folded_functions, folded_program}
use Rattle.txs_opt.specs.Inline.{inlined, functions_inlined, budget_of, inlined_program}
use Rattle.txs_opt.specs.Observed.{observed_end}

-- ---- folding: of all trees, whatever they mean

-- a source's thread with its functions, folded
abbrev pub folded_source : ThreadSource → ThreadSource
folded_source p = record { functions = folded_functions p.functions; cells = p.cells; main = folded p.main }

-- pure code means the same
abbrev pub FoldKeepsPure : Type 0
FoldKeepsPure = (n : ℕ) (fs : List PlainFunction) (callee : Callee) (vs : List Value) → pure_meaning n (folded_functions fs) callee vs ≡ pure_meaning n fs callee vs

-- a transaction's body means the same on each world
abbrev pub FoldKeepsTx : Type 0
FoldKeepsTx = (n : ℕ) (fs : List PlainFunction) (d : ℕ) (e : Tree) (env : List Value) (R : World) → tx_meaning n (folded_functions fs) d (folded e) env R ≡ tx_meaning n fs d e env R

-- a thread ends the same on any events, with the same events eaten, bytes printed and transactions, but for the bodies of those
abbrev pub FoldKeepsThread : Type 0
FoldKeepsThread = (p : ThreadSource) (n : ℕ) (es : List SeenEvent) → observed_end (thread_meaning (folded_source p) n es) ≡ observed_end (thread_meaning p n es)

-- a sound program stays sound
abbrev pub FoldKeepsSound : Type 0
FoldKeepsSound = (p : PlainProgram) → Sound p → Sound (folded_program p)

-- ---- inlining: of sound programs

-- functions with the calls in them inlined
abbrev pub inlined_functions : ℕ → List PlainFunction → List PlainFunction
inlined_functions budget fs = (functions_inlined [] budget fs).functions

-- a source's thread with its functions, with calls inlined
abbrev pub inlined_source : ℕ → ℕ → ThreadSource → ThreadSource
inlined_source budget left p =
    let gs = inlined_functions budget p.functions in
    record { functions = gs; cells = p.cells; main = (inlined gs 0 left p.main).tree }

-- pure code means the same
abbrev pub InlineKeepsPure : Type 0
InlineKeepsPure = (n budget : ℕ) (fs : List PlainFunction) → SoundFunctions [] fs → (callee : Callee) (vs : List Value) → pure_meaning n (inlined_functions budget fs) callee vs ≡ pure_meaning n fs callee vs

-- A transaction's body means the same on each world, where it calls functions before the one of the number d alone; also a body that
-- is in a function, where the functions in front of that are inlined.
abbrev pub InlineKeepsTx : Type 0
InlineKeepsTx =
    (n budget left : ℕ) (fs front : List PlainFunction) → SoundFunctions [] fs → ((f : ℕ) (fun : PlainFunction) → nth front f ≡ Some fun → nth (inlined_functions budget fs) f ≡ Some fun)
    → (d : ℕ) (e : Tree) (env : List Value) (R : World) → ScopedTree (known (take d fs)) (length env) e → tx_meaning n (inlined_functions budget fs) d (inlined front (length env) left e).tree env R ≡ tx_meaning n fs d e env R

-- a thread ends the same on any events, also where these are none that it can have
abbrev pub InlineKeepsThread : Type 0
InlineKeepsThread = (p : ThreadSource) → SoundSource p → (budget left n : ℕ) (es : List SeenEvent) → observed_end (thread_meaning (inlined_source budget left p) n es) ≡ observed_end (thread_meaning p n es)

-- a sound program stays sound
abbrev pub InlineKeepsSound : Type 0
InlineKeepsSound = (limit : ℕ) (p : PlainProgram) → Sound p → Sound (inlined_program limit p)

-- a program has at most so many nodes more
abbrev pub InlineKeepsBudget : Type 0
InlineKeepsBudget = (limit : ℕ) (p : PlainProgram) → nodes_of_functions (inlined_program limit p).functions + nodes_of_all (inlined_program limit p).threads ≤ nodes_of_functions p.functions + nodes_of_all p.threads + budget_of limit p

-- ---- whole programs

-- a thread of a program, with the program's functions and cells
abbrev pub source_in : PlainProgram → PlainThread → ThreadSource
source_in p t = record { functions = p.functions; cells = p.cells; main = t.body }

-- A program means what another means: pure callees have the same values and faults for every bound on loops; the threads, one
-- by one, end the same on any events; and so does each action, on any state of its agent, with the same sends held.
pub record MeansSame (p q : PlainProgram) : Type 0 where
  pub cells : q.cells ≡ p.cells
  pub as_many : length q.threads ≡ length p.threads
  pub pure : (n : ℕ) (callee : Callee) (vs : List Value) → pure_meaning n q.functions callee vs ≡ pure_meaning n p.functions callee vs
  pub threads : (i : ℕ) (t u : PlainThread) → nth p.threads i ≡ Some t → nth q.threads i ≡ Some u → (n : ℕ) (es : List SeenEvent) → observed_end (thread_meaning (source_in q u) n es) ≡ observed_end (thread_meaning (source_in p t) n es)
  pub actions : (a : Action) (v : Value) (n : ℕ) (es : List SeenEvent) → observed_end (action_meaning q.cells q.functions n a v es) ≡ observed_end (action_meaning p.cells p.functions n a v es)

-- folded it means the same
abbrev pub FoldKeepsProgram : Type 0
FoldKeepsProgram = (p : PlainProgram) → MeansSame p (folded_program p)

-- with calls inlined it means the same, where it is sound
abbrev pub InlineKeepsProgram : Type 0
InlineKeepsProgram = (limit : ℕ) (p : PlainProgram) → Sound p → MeansSame p (inlined_program limit p)
