-- Bodies that are sound name what is there: a sound program's names are resolved.
use Rattle.std.proofs.Common.{◌≡◌, ℕ, zero, suc, ◌+◌, ◌<◌, ◌≤◌, List, [], ◌∷◌, ◌++◌, length, take, Option, Some, None, ap, subst, length-append, arith}
use Rattle.txs_value_data.specs.Places.{nth}
use Rattle.txs_value_data.specs.Limits.{most_items, most_parameters, most_definitions, most_threads}
use Rattle.txs_value_data.specs.declared.op.Callee.{Callee}
use Rattle.txs_value_cell.specs.declared.cell.CellDefinition.{CellDefinition}
use Rattle.txs_value_data.specs.declared.op.Callee.TheVariants.{Core as CoreOp, Function}
use Rattle.txs_tree_meaning.proofs.Callable.{missing, nth-length, length-known}
use Rattle.txs_tree_meaning.specs.Known.{Known, known_of, known_from, known}
use Rattle.txs_tree_meaning.specs.Scoped.{Scoped, ScopedTree, ScopedAll, ScopedLet, ScopedCallee, ScopedFunctions, ScopedThreads, ScopedValidator, ScopedCells}
use Rattle.txs_tree_meaning.specs.Sound.{Zone, in_function, in_thread, in_dosync, SoundTree, SoundAll, SoundLet, SoundDo, SoundCallee, SoundSent, SoundFunctions, SoundThreads, SoundValidator, SoundCells}
use Rattle.txs_tree_meaning.specs.Tree.{Tree, Const, Local, If, Do, Let, Loop, Recur, Core, Call, VectorOf, Println, Dosync, Look, Put, Update, Send, Trees, none, more, count, PlainFunction, PlainThread, PlainProgram}
use Rattle.txs_opt.proofs.Below.{Lower, Below, wider_below, Defined, scoped_below}
use Rattle.txs_opt.proofs.InlinedFunctions.{Under}

-- no function has too many parameters
abbrev pub AllFew : List Known → Type 0
AllFew [] = Unit {0}
AllFew (k ∷ ks) = (k.parameters ≤ most_parameters) × AllFew ks

all_few_push : (ks : List Known) (k : Known) → AllFew ks → k.parameters ≤ most_parameters → AllFew (ks ++ k ∷ [])
all_few_push [] k h one = (one, tt)
all_few_push (l ∷ ks) k h one = (h.0, all_few_push ks k h.1 one)

abbrev parameters_or : Known → Option Known → ℕ
parameters_or l None = l.parameters
parameters_or l (Some k) = k.parameters

few_at : (ks : List Known) (f : ℕ) (k : Known) → AllFew ks → nth ks f ≡ Some k → k.parameters ≤ most_parameters
few_at [] f k h is = absurd (missing k is)
few_at (l ∷ ks) zero k h is = subst (λ x. x ≤ most_parameters) (ap (parameters_or l) is) h.0
few_at (l ∷ ks) (suc f) k h is = few_at ks f k h.1 is

module _ (ks : List Known) (few : AllFew ks) where
  callee_scoped : (c : Callee) (n : ℕ) → SoundCallee ks c (suc n) → ScopedCallee ks c × (n < most_items)
  callee_scoped (CoreOp op) n h = (tt, omega (arith, h.1))
  callee_scoped (Function f) n h = (nth-length ks f h.function h.found, omega (arith, h.arity, few_at ks f h.function few h.found))

  sent_scoped : (c : Callee) (n : ℕ) → SoundSent ks c (suc n) → ScopedCallee ks c × (n < most_items)
  sent_scoped (CoreOp op) n h = (tt, omega (arith, h.1))
  sent_scoped (Function f) n h = (nth-length ks f h.function h.found, omega (arith, h.arity, few_at ks f h.function few h.found))

  mutual
    pub tree_scoped : (e : Tree) (zone : Zone) (d : ℕ) (tail : Option ℕ) → SoundTree ks zone d tail e → ScopedTree ks d e
    tree_scoped (Const v m) zone d tail h = tt
    tree_scoped (Local i m) zone d tail h = h
    tree_scoped (If c a b m) zone d tail h = (tree_scoped c zone d None h.0, tree_scoped a zone d tail h.1, tree_scoped b zone d tail h.2)
    tree_scoped (Do items m) zone d tail h = do_scoped items zone d tail h
    tree_scoped (Let values body m) zone d tail h = (let_scoped values zone d h.0, tree_scoped body zone (d + count values) tail h.1)
    tree_scoped (Loop values body m) zone d tail h = (let_scoped values zone d h.0, tree_scoped body zone (d + count values) (Some (count values)) h.1)
    tree_scoped (Recur values m) zone d tail h = all_scoped values zone d h.1
    tree_scoped (Core op args m) zone d tail h = (h.0.1, all_scoped args zone d h.1)
    tree_scoped (Call f args m) zone d tail h = (nth-length ks f h.0.function h.0.found, all_scoped args zone d h.1)
    tree_scoped (VectorOf items m) zone d tail h = (h.0, all_scoped items zone d h.1)
    tree_scoped (Println args m) zone d tail h = (h.1, all_scoped args zone d h.2)
    tree_scoped (Dosync body m) zone d tail h = tree_scoped body in_dosync d None h
    tree_scoped (Look form cell m) zone d tail h = tree_scoped cell zone d None h.1
    tree_scoped (Put form cell value m) zone d tail h = (tree_scoped cell zone d None h.1, tree_scoped value zone d None h.2)
    tree_scoped (Update form cell callee args m) zone d tail h =
        let c = callee_scoped callee (count args) h.2 in
        (tree_scoped cell zone d None h.1, c.0, c.1, all_scoped args zone d h.3)
    tree_scoped (Send cell callee args m) zone d tail h =
        let c = sent_scoped callee (count args) h.1 in
        (tree_scoped cell zone d None h.0, c.0, c.1, all_scoped args zone d h.2)

    all_scoped : (es : Trees) (zone : Zone) (d : ℕ) → SoundAll ks zone d es → ScopedAll ks d es
    all_scoped none zone d h = tt
    all_scoped (more e es) zone d h = (tree_scoped e zone d None h.0, all_scoped es zone d h.1)

    let_scoped : (es : Trees) (zone : Zone) (d : ℕ) → SoundLet ks zone d es → ScopedLet ks d es
    let_scoped none zone d h = h
    let_scoped (more e es) zone d h = (tree_scoped e zone d None h.0, let_scoped es zone (d + 1) h.1)

    do_scoped : (es : Trees) (zone : Zone) (d : ℕ) (tail : Option ℕ) → SoundDo ks zone d tail es → (0 < count es) × ScopedAll ks d es
    do_scoped none zone d tail h = absurd h
    do_scoped (more e none) zone d tail h = (omega arith, (tree_scoped e zone d tail h, tt))
    do_scoped (more e (more f es)) zone d tail h = (omega arith, (tree_scoped e zone d None h.0, (do_scoped (more f es) zone d tail h.1).1))

functions_scoped : (fs : List PlainFunction) (ks : List Known) → AllFew ks → SoundFunctions ks fs → ScopedFunctions ks fs × AllFew (known_from ks fs)
functions_scoped [] ks few h = (tt, few)
functions_scoped (f ∷ fs) ks few h =
    let rest = functions_scoped fs (ks ++ known_of ks f ∷ []) (all_few_push ks (known_of ks f) few h.0.0) h.1 in
    (((h.0.0, tree_scoped ks few f.body in_function f.parameters (Some f.parameters) h.0.1, h.0.2), rest.0), rest.1)

threads_scoped : (ts : List PlainThread) (ks : List Known) → AllFew ks → SoundThreads ks ts → ScopedThreads ks ts
threads_scoped [] ks few h = tt
threads_scoped (t ∷ ts) ks few h = ((tree_scoped ks few t.body in_thread 0 None h.0.0, h.0.1), threads_scoped ts ks few h.1)

cells_scoped : (ks : List Known) → AllFew ks → (ds : List CellDefinition) → SoundCells ks ds → ScopedCells ks ds
cells_scoped ks few [] h = tt
cells_scoped ks few (d ∷ ds) h = (one d.validator h.0, cells_scoped ks few ds h.1)
  where
    one : (o : Option Callee) → SoundValidator ks o → ScopedValidator ks o
    one None g = tt
    one (Some c) g = (callee_scoped ks few c 0 g).0

-- sound bodies within the limits
pub scoped_of : (p : PlainProgram) → SoundFunctions [] p.functions → SoundThreads (known p.functions) p.threads → SoundCells (known p.functions) p.cells → length p.validator_spans ≡ length p.cells → length p.cells ≤ most_definitions → length p.functions ≤ most_definitions → length p.threads ≤ most_threads → Scoped p
scoped_of p functions threads validators placed cells few most =
    let h = functions_scoped p.functions [] tt functions in
    record { functions = h.0; threads = threads_scoped p.threads (known p.functions) h.1 threads; cells = cells_scoped (known p.functions) h.1 p.cells validators; placed = placed; few_cells = cells; few_functions = few; few_threads = most }

-- ---- each function calls functions before it alone

abbrev pub number : ℕ → ℕ
number f = f

scoped_under : (fs : List PlainFunction) (ks : List Known) → ScopedFunctions ks fs → Under number 0 (length ks) fs
scoped_under [] ks h = tt
scoped_under (f ∷ fs) ks h =
    let longer : length (ks ++ known_of ks f ∷ []) ≡ suc (length ks) = omega (arith, length-append ks (known_of ks f ∷ [])) in (
      wider_below (Defined ks) (Lower number 0 (length ks)) (λ g lt. lt) (λ u. omega arith) f.body (scoped_below ks f.body f.parameters h.0.1),
      subst (λ n. Under number 0 n fs) longer (scoped_under fs (ks ++ known_of ks f ∷ []) h.1),
    )

pub sound_under : (fs : List PlainFunction) → SoundFunctions [] fs → Under number 0 0 fs
sound_under fs h = scoped_under fs [] (functions_scoped fs [] tt h).0

-- a thread calls the functions that there are
pub sound_defined : (fs : List PlainFunction) (e : Tree) → SoundFunctions [] fs → SoundTree (known fs) in_thread 0 None e → Below (Defined (known fs)) e
sound_defined fs e h main = scoped_below (known fs) e 0 (tree_scoped (known fs) (functions_scoped fs [] tt h).1 e in_thread 0 None main)

take_short : {A : Type 0} (d : ℕ) (xs : List A) → length (take d xs) ≤ d
take_short zero [] = omega arith
take_short zero (x ∷ xs) = omega arith
take_short (suc d) [] = omega arith
take_short (suc d) (x ∷ xs) = omega (arith, take_short d xs)

-- a body that names functions before this number alone
pub scoped_lower : (fs : List PlainFunction) (d c : ℕ) (e : Tree) → ScopedTree (known (take d fs)) c e → Below (Lower number 0 d) e
scoped_lower fs d c e h =
    wider_below (Defined (known (take d fs))) (Lower number 0 d) (λ f lt. omega (arith, lt, length-known (take d fs), take_short d fs)) (λ u. omega arith) e (scoped_below (known (take d fs)) e c h)
