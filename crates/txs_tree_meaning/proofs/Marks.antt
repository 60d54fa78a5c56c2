-- Marks that are right stay so where less is asked of them.
use Rattle.std.proofs.Common.{◌≡◌, Bool, true, false, List, [], ◌∷◌, ◌∙◌}
use Rattle.txs_tree_meaning.specs.Marked.{Exactly, AtLeast, MarkedBy, AllMarkedBy, DoMarkedBy, FunctionsMarkedBy, ThreadsMarkedBy, ProgramMarkedBy, Marked, MarkedDo, MarkedProgram}
use Rattle.txs_tree_meaning.specs.Tree.{Tree, Const, Local, If, Do, Let, Loop, Recur, Core, Call, VectorOf, Println, Dosync, Look, Put, Update, Send, Trees, none, more, PlainFunction, PlainThread, PlainProgram}

-- marks that say more say less too
module _ (says less : Bool → Bool → Type 0) (weaker : (used wanted : Bool) → says used wanted → less used wanted) where
  mutual
    tree_weaker : (t : Tree) (used : Bool) → MarkedBy says used t → MarkedBy less used t
    tree_weaker (Const v m) used h = weaker used m.wanted h
    tree_weaker (Local i m) used h = weaker used m.wanted h
    tree_weaker (If c a b m) used h = (weaker used m.wanted h.0, tree_weaker c true h.1, tree_weaker a used h.2, tree_weaker b used h.3)
    tree_weaker (Do items m) used h = (weaker used m.wanted h.0, do_weaker items used h.1)
    tree_weaker (Let values body m) used h = (weaker used m.wanted h.0, all_weaker values h.1, tree_weaker body used h.2)
    tree_weaker (Loop values body m) used h = (weaker used m.wanted h.0, all_weaker values h.1, tree_weaker body used h.2)
    tree_weaker (Recur values m) used h = (weaker used m.wanted h.0, all_weaker values h.1)
    tree_weaker (Core op args m) used h = (weaker used m.wanted h.0, all_weaker args h.1)
    tree_weaker (Call f args m) used h = (weaker used m.wanted h.0, all_weaker args h.1)
    tree_weaker (VectorOf items m) used h = (weaker used m.wanted h.0, all_weaker items h.1)
    tree_weaker (Println args m) used h = (weaker used m.wanted h.0, all_weaker args h.1)
    tree_weaker (Dosync body m) used h = (weaker used m.wanted h.0, tree_weaker body m.wanted h.1)
    tree_weaker (Look form cell m) used h = (weaker used m.wanted h.0, tree_weaker cell true h.1)
    tree_weaker (Put form cell value m) used h = (weaker used m.wanted h.0, tree_weaker cell true h.1, tree_weaker value true h.2)
    tree_weaker (Update form cell callee args m) used h = (weaker used m.wanted h.0, tree_weaker cell true h.1, all_weaker args h.2)
    tree_weaker (Send cell callee args m) used h = (weaker used m.wanted h.0, tree_weaker cell true h.1, all_weaker args h.2)

    all_weaker : (ts : Trees) → AllMarkedBy says ts → AllMarkedBy less ts
    all_weaker none h = tt
    all_weaker (more e rest) h = (tree_weaker e true h.0, all_weaker rest h.1)

    do_weaker : (ts : Trees) (used : Bool) → DoMarkedBy says used ts → DoMarkedBy less used ts
    do_weaker none used h = tt
    do_weaker (more e none) used h = tree_weaker e used h
    do_weaker (more e (more f rest)) used h = (tree_weaker e false h.0, do_weaker (more f rest) used h.1)

  functions_weaker : (fs : List PlainFunction) → FunctionsMarkedBy says fs → FunctionsMarkedBy less fs
  functions_weaker [] h = tt
  functions_weaker (f ∷ fs) h = (tree_weaker f.body true h.0, functions_weaker fs h.1)

  threads_weaker : (ts : List PlainThread) → ThreadsMarkedBy says ts → ThreadsMarkedBy less ts
  threads_weaker [] h = tt
  threads_weaker (t ∷ ts) h = (tree_weaker t.body false h.0, threads_weaker ts h.1)

-- marks that are exact are enough
pub marked_enough : (p : PlainProgram) → ProgramMarkedBy Exactly p → MarkedProgram p
marked_enough p h = record {
  functions = functions_weaker Exactly AtLeast (λ used wanted is u. is ∙ u) p.functions h.functions;
  threads = threads_weaker Exactly AtLeast (λ used wanted is u. is ∙ u) p.threads h.threads;
}

-- marks of a result that is used are right where it isn't
module _ (used less : Bool) (fewer : less ≡ true → used ≡ true) where
  mutual
    pub marked_less : (t : Tree) → Marked used t → Marked less t
    marked_less (Const v m) h = λ u. h (fewer u)
    marked_less (Local i m) h = λ u. h (fewer u)
    marked_less (If c a b m) h = (λ u. h.0 (fewer u), h.1, marked_less a h.2, marked_less b h.3)
    marked_less (Do items m) h = (λ u. h.0 (fewer u), do_less items h.1)
    marked_less (Let values body m) h = (λ u. h.0 (fewer u), h.1, marked_less body h.2)
    marked_less (Loop values body m) h = (λ u. h.0 (fewer u), h.1, marked_less body h.2)
    marked_less (Recur values m) h = (λ u. h.0 (fewer u), h.1)
    marked_less (Core op args m) h = (λ u. h.0 (fewer u), h.1)
    marked_less (Call f args m) h = (λ u. h.0 (fewer u), h.1)
    marked_less (VectorOf items m) h = (λ u. h.0 (fewer u), h.1)
    marked_less (Println args m) h = (λ u. h.0 (fewer u), h.1)
    marked_less (Dosync body m) h = (λ u. h.0 (fewer u), h.1)
    marked_less (Look form cell m) h = (λ u. h.0 (fewer u), h.1)
    marked_less (Put form cell value m) h = (λ u. h.0 (fewer u), h.1, h.2)
    marked_less (Update form cell callee args m) h = (λ u. h.0 (fewer u), h.1, h.2)
    marked_less (Send cell callee args m) h = (λ u. h.0 (fewer u), h.1, h.2)

    do_less : (ts : Trees) → MarkedDo used ts → MarkedDo less ts
    do_less none h = tt
    do_less (more e none) h = marked_less e h
    do_less (more e (more f rest)) h = (h.0, do_less (more f rest) h.1)
