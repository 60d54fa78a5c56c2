-- What holds everywhere in a program: of each constant, of the span of each node, and of each send.
use Rattle.std.specs.Prelude.{ℕ}
use Rattle.std.specs.List.{AllByRecursion}
use Rattle.txs_value_data.specs.declared.fault.Span.{Span}
use Rattle.txs_value_data.specs.declared.op.Callee.{Callee}
use Rattle.txs_value_data.specs.declared.value.Value.{Value}
use Rattle.txs_tree_meaning.specs.Tree.{Tree, Const, Local, If, Do, Let, Loop, Recur, Core, Call, VectorOf, Println, Dosync, Look, Put, Update, Send, Trees, none, more, count, PlainFunction, PlainThread, PlainProgram}

-- what is said of constants, of spans, and of a send with its callee, the number of its arguments and its span
pub record Facts : Type 1 where
  pub constant : Value → Type 0
  pub span : Span → Type 0
  pub send : Callee → ℕ → Span → Type 0

abbrev mutual
  -- so it is in a tree
  pub Everywhere : Facts → Tree → Type 0
  Everywhere F (Const v m) = F.constant v × F.span m.span
  Everywhere F (Local i m) = F.span m.span
  Everywhere F (If c a b m) = Everywhere F c × Everywhere F a × Everywhere F b × F.span m.span
  Everywhere F (Do items m) = EverywhereIn F items × F.span m.span
  Everywhere F (Let values body m) = EverywhereIn F values × Everywhere F body × F.span m.span
  Everywhere F (Loop values body m) = EverywhereIn F values × Everywhere F body × F.span m.span
  Everywhere F (Recur values m) = EverywhereIn F values × F.span m.span
  Everywhere F (Core op args m) = EverywhereIn F args × F.span m.span
  Everywhere F (Call f args m) = EverywhereIn F args × F.span m.span
  Everywhere F (VectorOf items m) = EverywhereIn F items × F.span m.span
  Everywhere F (Println args m) = EverywhereIn F args × F.span m.span
  Everywhere F (Dosync body m) = Everywhere F body × F.span m.span
  Everywhere F (Look form cell m) = Everywhere F cell × F.span m.span
  Everywhere F (Put form cell value m) = Everywhere F cell × Everywhere F value × F.span m.span
  Everywhere F (Update form cell callee args m) = Everywhere F cell × EverywhereIn F args × F.span m.span
  Everywhere F (Send cell callee args m) = Everywhere F cell × EverywhereIn F args × F.send callee (count args) m.span

  -- so it is in each of these
  pub EverywhereIn : Facts → Trees → Type 0
  EverywhereIn F none = Unit {0}
  EverywhereIn F (more e rest) = Everywhere F e × EverywhereIn F rest

-- so it is in a function's body, and of the function's span
abbrev pub InFunction : Facts → PlainFunction → Type 0
InFunction F f = Everywhere F f.body × F.span f.span

-- so it is in a thread
abbrev pub InThread : Facts → PlainThread → Type 0
InThread F t = Everywhere F t.body × F.span t.span

-- so it is in the functions and threads of a program
pub record InProgram (F : Facts) (p : PlainProgram) : Type 0 where
  pub functions : AllByRecursion (InFunction F) p.functions
  pub threads : AllByRecursion (InThread F) p.threads
