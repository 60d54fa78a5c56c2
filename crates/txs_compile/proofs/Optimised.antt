-- The code of an optimised program: what it names, follows and sends.
use Rattle.std.proofs.Common.{◌≡◌, ◌++◌, ℕ, List, [], ◌∷◌, sym, ap, subst}
use Rattle.std.specs.List.{AllByRecursion}
use Rattle.txs_value_data.specs.PlainValue.{PlainValue, plain_row}
use Rattle.txs_value_cell.specs.Cells.{validators_of}
use Rattle.txs_value_cell.specs.declared.cell.CellDefinition.{CellDefinition}
use Rattle.txs_value_data.specs.declared.value.Value.{Value}
use Rattle.txs_tree_meaning.specs.Known.{known}
use Rattle.txs_tree_meaning.specs.Sound.{Sound}
use Rattle.txs_tree_meaning.specs.Tree.{Tree, Const, Local, If, Do, Let, Loop, Recur, Core, Call, VectorOf, Println, Dosync, Look, Put, Update, Send, Trees, none, more, PlainFunction, PlainThread, PlainProgram}
use Rattle.txs_tree_meaning.specs.Everywhere.{Facts, Everywhere, EverywhereIn, InFunction, InThread}
use Rattle.txs_code_meaning.specs.OwnCells.{HoldsDefined, RowHoldsDefined, NamesDefined, NameDefined, NamesOwnCells}
use Rattle.txs_code_meaning.specs.PlainCode.{PlainCode, library_of}
use Rattle.txs_theorem_threads.specs.FollowsAgent.{FollowsAgents}
use Rattle.txs_theorem_threads.specs.FollowsAll.{FollowsAll}
use Rattle.txs_theorem_threads.specs.Sends.{CodesSendSound, AgentsSendSound}
use Rattle.txs_gen.specs.Agents.{CodeOfActionsBehaves}
use Rattle.txs_gen.specs.CodeFollows.{CodeOfProgramBehaves}
use Rattle.txs_gen.specs.Generated.{IsCodeOf, constants_of, constants_in, constants_of_functions, constants_of_threads}
use Rattle.txs_gen.specs.OwnCells.{ProgramNamesOwnCells}
use Rattle.txs_gen.specs.Sends.{sound_sends, SoundProgramSendsSound, CodeOfProgramSendsSound}
use Rattle.txs_gen.proofs.OwnCells.{code_names_own_cells}
use Rattle.txs_value_apply.proofs.CoreKeeps.{AnyItems, AnyNumber, Rules, by_items, core_keeps, vector_keeps}
use Rattle.txs_opt.proofs.FoldedEverywhere.{KeptByOperations}
use Rattle.txs_compile.proofs.Programs.{optimised_sound, optimised_has}
use Rattle.txs_opt.specs.Optimised.{optimised}
use Rattle.txs_compile.specs.Optimised.{OptimisedFollows, OptimisedFollowsAgents}
use Rattle.txs_compile.specs.Compiled.{codes_of}
use Rattle.txs_compile.proofs.OwnCells.{both, ahead, behind}

module _ (cells : List CellDefinition) where
  -- ---- operations make no cell

  row_all : (ds : List PlainValue) → RowHoldsDefined cells (plain_row ds) → AllByRecursion (HoldsDefined cells) ds
  row_all [] h = tt
  row_all (d ∷ ds) h = (h.0, row_all ds h.1)

  all_row : (ds : List PlainValue) → AllByRecursion (HoldsDefined cells) ds → RowHoldsDefined cells (plain_row ds)
  all_row [] h = tt
  all_row (d ∷ ds) h = (h.0, all_row ds h.1)

  rules : Rules (HoldsDefined cells) AnyNumber AnyItems
  rules = by_items (HoldsDefined cells) tt (λ b. tt) (λ z. tt) row_all all_row

  -- each constant names defined cells alone
  abbrev names : Facts
  names = record { constant = NamesDefined cells; span = λ s. Unit {0}; send = λ f n s. Unit {0} }

  names_kept : KeptByOperations names
  names_kept = record { core_keeps = core_keeps (HoldsDefined cells) AnyNumber AnyItems rules; vector_keeps = vector_keeps (HoldsDefined cells) AnyNumber AnyItems rules }

  -- ---- the constants of a tree, one behind the other

  abbrev Names : List Value → Type 0
  Names vs = NameDefined cells vs

  mutual
    each_named : (e : Tree) → Names (constants_of e) → Everywhere names e
    each_named (Const v m) h = (h.0, tt)
    each_named (Local i m) h = tt
    each_named (If c a b m) h =
        let rest = behind cells (constants_of c) (constants_of a ++ constants_of b) h in
        (each_named c (ahead cells (constants_of c) (constants_of a ++ constants_of b) h), each_named a (ahead cells (constants_of a) (constants_of b) rest), each_named b (behind cells (constants_of a) (constants_of b) rest), tt)
    each_named (Do items m) h = (all_named items h, tt)
    each_named (Let values body m) h = (all_named values (ahead cells (constants_in values) (constants_of body) h), each_named body (behind cells (constants_in values) (constants_of body) h), tt)
    each_named (Loop values body m) h = (all_named values (ahead cells (constants_in values) (constants_of body) h), each_named body (behind cells (constants_in values) (constants_of body) h), tt)
    each_named (Recur values m) h = (all_named values h, tt)
    each_named (Core op args m) h = (all_named args h, tt)
    each_named (Call f args m) h = (all_named args h, tt)
    each_named (VectorOf items m) h = (all_named items h, tt)
    each_named (Println args m) h = (all_named args h, tt)
    each_named (Dosync body m) h = (each_named body h, tt)
    each_named (Look form cell m) h = (each_named cell h, tt)
    each_named (Put form cell value m) h = (each_named cell (ahead cells (constants_of cell) (constants_of value) h), each_named value (behind cells (constants_of cell) (constants_of value) h), tt)
    each_named (Update form cell callee args m) h = (each_named cell (ahead cells (constants_of cell) (constants_in args) h), all_named args (behind cells (constants_of cell) (constants_in args) h), tt)
    each_named (Send cell callee args m) h = (each_named cell (ahead cells (constants_of cell) (constants_in args) h), all_named args (behind cells (constants_of cell) (constants_in args) h), tt)

    all_named : (es : Trees) → Names (constants_in es) → EverywhereIn names es
    all_named none h = tt
    all_named (more e rest) h = (each_named e (ahead cells (constants_of e) (constants_in rest) h), all_named rest (behind cells (constants_of e) (constants_in rest) h))

  mutual
    tree_names : (e : Tree) → Everywhere names e → Names (constants_of e)
    tree_names (Const v m) h = (h.0, tt)
    tree_names (Local i m) h = tt
    tree_names (If c a b m) h = both cells (constants_of c) (constants_of a ++ constants_of b) (tree_names c h.0) (both cells (constants_of a) (constants_of b) (tree_names a h.1) (tree_names b h.2))
    tree_names (Do items m) h = trees_name items h.0
    tree_names (Let values body m) h = both cells (constants_in values) (constants_of body) (trees_name values h.0) (tree_names body h.1)
    tree_names (Loop values body m) h = both cells (constants_in values) (constants_of body) (trees_name values h.0) (tree_names body h.1)
    tree_names (Recur values m) h = trees_name values h.0
    tree_names (Core op args m) h = trees_name args h.0
    tree_names (Call f args m) h = trees_name args h.0
    tree_names (VectorOf items m) h = trees_name items h.0
    tree_names (Println args m) h = trees_name args h.0
    tree_names (Dosync body m) h = tree_names body h.0
    tree_names (Look form cell m) h = tree_names cell h.0
    tree_names (Put form cell value m) h = both cells (constants_of cell) (constants_of value) (tree_names cell h.0) (tree_names value h.1)
    tree_names (Update form cell callee args m) h = both cells (constants_of cell) (constants_in args) (tree_names cell h.0) (trees_name args h.1)
    tree_names (Send cell callee args m) h = both cells (constants_of cell) (constants_in args) (tree_names cell h.0) (trees_name args h.1)

    trees_name : (es : Trees) → EverywhereIn names es → Names (constants_in es)
    trees_name none h = tt
    trees_name (more e rest) h = both cells (constants_of e) (constants_in rest) (tree_names e h.0) (trees_name rest h.1)

  -- ---- programs

  functions_in : (fs : List PlainFunction) → Names (constants_of_functions fs) → AllByRecursion (InFunction names) fs
  functions_in [] h = tt
  functions_in (f ∷ fs) h = ((each_named f.body (ahead cells (constants_of f.body) (constants_of_functions fs) h), tt), functions_in fs (behind cells (constants_of f.body) (constants_of_functions fs) h))

  threads_in : (ts : List PlainThread) → Names (constants_of_threads ts) → AllByRecursion (InThread names) ts
  threads_in [] h = tt
  threads_in (t ∷ ts) h = ((each_named t.body (ahead cells (constants_of t.body) (constants_of_threads ts) h), tt), threads_in ts (behind cells (constants_of t.body) (constants_of_threads ts) h))

  functions_name : (fs : List PlainFunction) → AllByRecursion (InFunction names) fs → Names (constants_of_functions fs)
  functions_name [] h = tt
  functions_name (f ∷ fs) h = both cells (constants_of f.body) (constants_of_functions fs) (tree_names f.body h.0.0) (functions_name fs h.1)

  threads_name : (ts : List PlainThread) → AllByRecursion (InThread names) ts → Names (constants_of_threads ts)
  threads_name [] h = tt
  threads_name (t ∷ ts) h = both cells (constants_of t.body) (constants_of_threads ts) (tree_names t.body h.0.0) (threads_name ts h.1)

pub optimised_names_own_cells : (limit : ℕ) (p : PlainProgram) → ProgramNamesOwnCells p → ProgramNamesOwnCells (optimised limit p)
optimised_names_own_cells limit p h =
    let q = optimised limit p in
    let kept = optimised_has (names p.cells) (names_kept p.cells) limit p (record { functions = functions_in p.cells p.functions h.functions; threads = threads_in p.cells p.threads h.threads }) in
    record { functions = functions_name p.cells q.functions kept.functions; threads = threads_name p.cells q.threads kept.threads; openings = h.openings }

-- ---- its code

module _ (limit : ℕ) (p q : PlainProgram) (same : q ≡ optimised limit p) where
  pub names_own_cells : ProgramNamesOwnCells p → ProgramNamesOwnCells q
  names_own_cells h = subst (λ x. ProgramNamesOwnCells x) (sym same) (optimised_names_own_cells limit p h)

  module _ (code : PlainCode) (of_q : IsCodeOf code q) where
    pub is_made : IsCodeOf code (optimised limit p)
    is_made = subst (λ x. IsCodeOf code x) same of_q

    pub own_cells : ProgramNamesOwnCells p → NamesOwnCells code
    own_cells h = code_names_own_cells code q of_q (names_own_cells h)

    module _ (sound : Sound p) where
      pub follows : CodeOfProgramBehaves → OptimisedFollows → FollowsAll (codes_of code) p
      follows behaves law = law (codes_of code) limit p sound (behaves code (optimised limit p) (optimised_sound limit p sound) is_made)

      pub agents_follow : CodeOfActionsBehaves → OptimisedFollowsAgents → FollowsAgents (library_of code) p.cells p.functions
      agents_follow behaves law = law (library_of code) limit p sound (ap validators_of is_made.cells)
          (λ g a is fits. behaves code (optimised limit p) g a (optimised_sound limit p sound) is_made is fits)

      pub sends : SoundProgramSendsSound → CodeOfProgramSendsSound → CodesSendSound p.functions (codes_of code) × AgentsSendSound p.functions (library_of code)
      sends of_sound law =
          let any : KeptByOperations (sound_sends (known p.functions)) = record { core_keeps = λ op vs v h is. tt; vector_keeps = λ vs v h is. tt } in
          law code p.functions (optimised limit p) (optimised_has (sound_sends (known p.functions)) any limit p (of_sound p sound)) is_made
