-- A program folded, with calls inlined, and folded again; and where there is no call.
use Rattle.std.specs.Prelude.{ℕ, Bool, true, false, ◌||◌, List, [], ◌∷◌}
use Rattle.txs_tree_meaning.specs.Tree.{Tree, Const, Local, If, Do, Let, Loop, Recur, Core, Call, VectorOf, Println, Dosync, Look, Put, Update, Send, Trees, none, more, PlainFunction, PlainThread, PlainProgram}
use Rattle.txs_opt.specs.Fold.{folded_program}
use Rattle.txs_opt.specs.Inline.{inlined_program}

-- a program folded, with calls inlined, and folded again
abbrev pub optimised : ℕ → PlainProgram → PlainProgram
optimised limit p = folded_program (inlined_program limit (folded_program p))

abbrev mutual
  -- whether a call is in a tree
  pub calls : Tree → Bool
  calls (Const v m) = false
  calls (Local i m) = false
  calls (If c a b m) = calls c || (calls a || calls b)
  calls (Do items m) = some_call items
  calls (Let values body m) = some_call values || calls body
  calls (Loop values body m) = some_call values || calls body
  calls (Recur values m) = some_call values
  calls (Core op args m) = some_call args
  calls (Call f args m) = true
  calls (VectorOf items m) = some_call items
  calls (Println args m) = some_call args
  calls (Dosync body m) = calls body
  calls (Look form cell m) = calls cell
  calls (Put form cell value m) = calls cell || calls value
  calls (Update form cell callee args m) = calls cell || some_call args
  calls (Send cell callee args m) = calls cell || some_call args

  -- whether one is in some of these
  pub some_call : Trees → Bool
  some_call none = false
  some_call (more e rest) = calls e || some_call rest

-- whether one is in some function
abbrev pub functions_call : List PlainFunction → Bool
functions_call [] = false
functions_call (f ∷ fs) = calls f.body || functions_call fs

-- whether one is in some thread
abbrev pub threads_call : List PlainThread → Bool
threads_call [] = false
threads_call (t ∷ ts) = calls t.body || threads_call ts
