-- What a script defines is scoped, form by form.
use Rattle.std.proofs.Common.{◌≡◌, ◌<◌, ◌≤◌, ◌+◌, ℕ, zero, suc, true, false, nat_lt, if◌then◌else◌, List, [], ◌∷◌, ◌++◌, length, Option, Some, None, Ok, Err, refl, sym, ap, subst, length-append, arith}
use Rattle.txs_value_data.specs.Limits.{most_depth, most_levels}
use Rattle.txs_value_data.specs.Places.{nth}
use Rattle.txs_value_cell.specs.declared.cell.CellDefinition.{CellDefinition}
use Rattle.txs_value_data.specs.declared.fault.Span.{Span}
use Rattle.txs_value_data.specs.declared.op.Callee.{Callee}
use Rattle.txs_value_data.specs.declared.op.Callee.TheVariants.{Core as CoreOp, Function as TheFunction}
use Rattle.txs_value_data.specs.declared.value.CellId.{CellId}
use Rattle.txs_value_data.specs.declared.value.Value.{Value}
use Rattle.txs_reader.specs.declared.form.Bracket.TheVariants.{Round, Square}
use Rattle.txs_reader.specs.Tree.{PlainForm as Form, PlainForms as Forms, leaf, group, first, number, symbol, nil, truth, text, keyword}
use Rattle.txs_reader.specs.Tree.{none as no_forms}
use Rattle.txs_tree_meaning.specs.Known.{Known, callee_levels, levels, levels_in, levels_of, known, known_from, known_of}
use Rattle.txs_tree_meaning.specs.Scoped.{Scoped, ScopedCallee, ScopedCells, ScopedTree, ScopedAll, ScopedLet, ScopedFunction, ScopedFunctions, ScopedThread, ScopedThreads, ScopedValidator}
use Rattle.txs_tree_meaning.specs.Tree.{Tree, Trees, Const, Local, If, Do, Let, Loop, Recur, Core, Call, VectorOf, Println, Dosync, Look, Put, Update, Send, none, more, count, PlainFunction, PlainThread, PlainProgram}
use Rattle.txs_tree_meaning.proofs.Callable.{length-known}
use Rattle.txs_resolve_expand.specs.declared.error.ResolveErrorKind.TheVariants.{BadForm, TooMany}
use Rattle.txs_resolve_expand.specs.declared.names.FormName.{FormName}
use Rattle.txs_resolve_expand.specs.declared.names.FormName.TheVariants as kind
use Rattle.txs_resolve_expand.specs.declared.scope.Definition.{Definition}
use Rattle.txs_resolve_expand.specs.declared.scope.Definition.TheVariants.{Constant, Cell as ACell, Function as AFunction}
use Rattle.txs_resolve.specs.declared.definition.CellSort.{CellSort}
use Rattle.txs_resolve.specs.declared.definition.Validation.{Validation}
use Rattle.txs_resolve_expand.specs.Expansions.{body, form_at}
use Rattle.txs_resolve_expand.specs.Expressions.{Answer, callee_of, named, spot_at}
use Rattle.txs_resolve.specs.Literals.{literal}
use Rattle.txs_resolve_expand.specs.Namespace.{behind_namespace}
use Rattle.txs_resolve.specs.Names.{State, nothing, program, new_name, Defining, defining_of, new_cell, top_scope, validator_named, validator_place, with_constant, with_definition, defined_as_one, NamedForm, named_form, defined_at, define, parameter, parameters, Written, written, with_function, function, with_thread, future, top_level, step, steps, named_script, Resolves}
use Rattle.txs_resolve_expand.specs.Answers.{◌>>=◌, refuse}
use Rattle.txs_resolve_expand.specs.Scope.{Scope, Entry, may_bind}
use Rattle.txs_resolve.specs.Scripts.{IsKnown, AreKnown, ScopedState}
use Rattle.txs_resolve.proofs.Scoping.{Every, then_every, one_every, three_every, if_every, is_less, CalleeFits, callee_of_fits, Placed, form_named}

-- ---- where more functions are known

abbrev IsFound : {A : Type 0} → Option A → Type 0
IsFound None = ⊥
IsFound (Some x) = Unit {0}

nth_more : {A : Type 0} (xs ys : List A) (i : ℕ) (x : A) → nth xs i ≡ Some x → nth (xs ++ ys) i ≡ Some x
nth_more [] ys i x h = absurd (subst IsFound (sym h) tt)
nth_more (y ∷ xs) ys zero x h = h
nth_more (y ∷ xs) ys (suc i) x h = nth_more xs ys i x h

nth_front : {A : Type 0} (xs ys : List A) (i : ℕ) → i < length xs → nth (xs ++ ys) i ≡ nth xs i
nth_front [] ys i lt = absurd (omega (arith, lt))
nth_front (y ∷ xs) ys zero lt = refl
nth_front (y ∷ xs) ys (suc i) lt = nth_front xs ys i (omega (arith, lt))

nth_last : {A : Type 0} (xs : List A) (x : A) → nth (xs ++ x ∷ []) (length xs) ≡ Some x
nth_last [] x = refl
nth_last (y ∷ xs) x = nth_last xs x

module _ (ks ls : List Known) where
  further : (f : ℕ) → f < length ks → f < length (ks ++ ls)
  further f lt = omega (arith, lt, length-append ks ls)

  callee_front : (c : Callee) → ScopedCallee ks c → ScopedCallee (ks ++ ls) c
  callee_front (CoreOp op) h = tt
  callee_front (TheFunction f) h = further f h

  callee_same : (c : Callee) → ScopedCallee ks c → callee_levels (ks ++ ls) c ≡ callee_levels ks c
  callee_same (CoreOp op) h = refl
  callee_same (TheFunction f) h = ap levels_of (nth_front ks ls f h)

  mutual
    pub tree_front : (t : Tree) (d : ℕ) → ScopedTree ks d t → ScopedTree (ks ++ ls) d t
    tree_front (Const v m) d h = tt
    tree_front (Local i m) d h = h
    tree_front (If c a b m) d h = (tree_front c d h.0, tree_front a d h.1, tree_front b d h.2)
    tree_front (Do items m) d h = (h.0, all_front items d h.1)
    tree_front (Let values body m) d h = (let_front values d h.0, tree_front body (d + count values) h.1)
    tree_front (Loop values body m) d h = (let_front values d h.0, tree_front body (d + count values) h.1)
    tree_front (Recur values m) d h = all_front values d h
    tree_front (Core op args m) d h = (h.0, all_front args d h.1)
    tree_front (Call f args m) d h = (further f h.0, all_front args d h.1)
    tree_front (VectorOf items m) d h = (h.0, all_front items d h.1)
    tree_front (Println args m) d h = (h.0, all_front args d h.1)
    tree_front (Dosync body m) d h = tree_front body d h
    tree_front (Look form cell m) d h = tree_front cell d h
    tree_front (Put form cell value m) d h = (tree_front cell d h.0, tree_front value d h.1)
    tree_front (Update form cell callee args m) d h = (tree_front cell d h.0, callee_front callee h.1, h.2, all_front args d h.3)
    tree_front (Send cell callee args m) d h = (tree_front cell d h.0, callee_front callee h.1, h.2, all_front args d h.3)

    all_front : (ts : Trees) (d : ℕ) → ScopedAll ks d ts → ScopedAll (ks ++ ls) d ts
    all_front none d h = tt
    all_front (more e rest) d h = (tree_front e d h.0, all_front rest d h.1)

    let_front : (ts : Trees) (d : ℕ) → ScopedLet ks d ts → ScopedLet (ks ++ ls) d ts
    let_front none d h = h
    let_front (more e rest) d h = (tree_front e d h.0, let_front rest (d + 1) h.1)

  mutual
    pub same_levels : (t : Tree) (d : ℕ) → ScopedTree ks d t → levels (ks ++ ls) t ≡ levels ks t
    same_levels (Const v m) d h = refl
    same_levels (Local i m) d h = refl
    same_levels (If c a b m) d h = omega (arith, same_levels c d h.0, same_levels a d h.1, same_levels b d h.2)
    same_levels (Do items m) d h = omega (arith, same_all items d h.1)
    same_levels (Let values body m) d h = omega (arith, same_let values d h.0, same_levels body (d + count values) h.1)
    same_levels (Loop values body m) d h = omega (arith, same_let values d h.0, same_levels body (d + count values) h.1)
    same_levels (Recur values m) d h = omega (arith, same_all values d h)
    same_levels (Core op args m) d h = omega (arith, same_all args d h.1)
    same_levels (Call f args m) d h = omega (arith, ap levels_of (nth_front ks ls f h.0), same_all args d h.1)
    same_levels (VectorOf items m) d h = omega (arith, same_all items d h.1)
    same_levels (Println args m) d h = omega (arith, same_all args d h.1)
    same_levels (Dosync body m) d h = omega (arith, same_levels body d h)
    same_levels (Look form cell m) d h = omega (arith, same_levels cell d h)
    same_levels (Put form cell value m) d h = omega (arith, same_levels cell d h.0, same_levels value d h.1)
    same_levels (Update form cell callee args m) d h = omega (arith, same_levels cell d h.0, callee_same callee h.1, same_all args d h.3)
    same_levels (Send cell callee args m) d h = omega (arith, same_levels cell d h.0, callee_same callee h.1, same_all args d h.3)

    same_all : (ts : Trees) (d : ℕ) → ScopedAll ks d ts → levels_in (ks ++ ls) ts ≡ levels_in ks ts
    same_all none d h = refl
    same_all (more e rest) d h = omega (arith, same_levels e d h.0, same_all rest d h.1)

    same_let : (ts : Trees) (d : ℕ) → ScopedLet ks d ts → levels_in (ks ++ ls) ts ≡ levels_in ks ts
    same_let none d h = refl
    same_let (more e rest) d h = omega (arith, same_levels e d h.0, same_let rest (d + 1) h.1)

  threads_front : (ts : List PlainThread) → ScopedThreads ks ts → ScopedThreads (ks ++ ls) ts
  threads_front [] h = tt
  threads_front (t ∷ ts) h = ((tree_front t.body 0 h.0.0, omega (arith, same_levels t.body 0 h.0.0, h.0.1)), threads_front ts h.1)

  cells_front : (ds : List CellDefinition) → ScopedCells ks ds → ScopedCells (ks ++ ls) ds
  cells_front [] h = tt
  cells_front (d ∷ ds) h = (validator_front d.validator h.0, cells_front ds h.1) where
    validator_front : (o : Option Callee) → ScopedValidator ks o → ScopedValidator (ks ++ ls) o
    validator_front None h = tt
    validator_front (Some c) h = callee_front c h

  is_known_front : (what : Definition) → IsKnown ks what → IsKnown (ks ++ ls) what
  is_known_front (Constant v) h = tt
  is_known_front (ACell n) h = tt
  is_known_front (AFunction n l) h = (h.0, nth_more ks ls n h.0 h.1, h.2)

  known_front : (es : List Entry) → AreKnown ks es → AreKnown (ks ++ ls) es
  known_front [] h = tt
  known_front (e ∷ es) h = (is_known_front e.what h.0, known_front es h.1)

-- ---- one more

known_from_more : (ks : List Known) (fs : List PlainFunction) (f : PlainFunction) → known_from ks (fs ++ f ∷ []) ≡ known_from ks fs ++ known_of (known_from ks fs) f ∷ []
known_from_more ks [] f = refl
known_from_more ks (g ∷ fs) f = known_from_more (ks ++ known_of ks g ∷ []) fs f

pub known_more : (fs : List PlainFunction) (f : PlainFunction) → known (fs ++ f ∷ []) ≡ known fs ++ known_of (known fs) f ∷ []
known_more fs f = known_from_more [] fs f

functions_more : (ks : List Known) (fs : List PlainFunction) (f : PlainFunction) → ScopedFunctions ks fs → ScopedFunction (known_from ks fs) f → ScopedFunctions ks (fs ++ f ∷ [])
functions_more ks [] f h one = (one, tt)
functions_more ks (g ∷ fs) f h one = (h.0, functions_more (ks ++ known_of ks g ∷ []) fs f h.1 one)

threads_more : (ks : List Known) (ts : List PlainThread) (t : PlainThread) → ScopedThreads ks ts → ScopedThread ks t → ScopedThreads ks (ts ++ t ∷ [])
threads_more ks [] t h one = (one, tt)
threads_more ks (u ∷ ts) t h one = (h.0, threads_more ks ts t h.1 one)

pub cells_more : (ks : List Known) (ds : List CellDefinition) (d : CellDefinition) → ScopedCells ks ds → ScopedValidator ks d.validator → ScopedCells ks (ds ++ d ∷ [])
cells_more ks [] d h one = (one, tt)
cells_more ks (e ∷ ds) d h one = (h.0, cells_more ks ds d h.1 one)

entries_known : (ks : List Known) (es : List Entry) (e : Entry) → AreKnown ks es → IsKnown ks e.what → AreKnown ks (es ++ e ∷ [])
entries_known ks [] e h one = (one, tt)
entries_known ks (d ∷ es) e h one = (h.0, entries_known ks es e h.1 one)

-- ---- top-level forms

abbrev Anything : {A : Type 0} → A → Type 0
Anything a = Unit {0}

anything : {A : Type 0} (a : Answer A) → Every Anything a
anything (Ok x) = tt
anything (Err e) = tt

pub constant_scoped : (s : State) (name : List ℕ) (v : Value) → ScopedState s → s.defs < 1000 → ScopedState (with_constant s name v)
constant_scoped s name v h lt = record {
  functions = h.functions;
  threads = h.threads;
  known = entries_known (known s.functions) s.defined (record { name = name; what = Constant v }) h.known tt;
  cells = h.cells;
  placed = h.placed;
  few_cells = omega (arith, h.few_cells);
  few_defs = omega (arith, lt);
  few_functions = h.few_functions;
  few_threads = h.few_threads;
}

-- a cell is defined, whatever it is and whatever number it is given
pub cell_scoped : (s : State) (cells : List CellDefinition) (spans : List Span) (name : List ℕ) (n : CellId) → ScopedState s → s.defs < 1000 → length cells ≡ suc (length s.cells)
    → length spans ≡ suc (length s.validator_spans) → ScopedCells (known s.functions) cells
    → ScopedState (record { defined = s.defined ++ record { name = name; what = ACell n } ∷ []; cells = cells; validator_spans = spans; functions = s.functions; threads = s.threads; defs = suc s.defs })
cell_scoped s cells spans name n h lt longer further scoped = record {
  functions = h.functions;
  threads = h.threads;
  known = entries_known (known s.functions) s.defined (record { name = name; what = ACell n }) h.known tt;
  cells = scoped;
  placed = omega (arith, h.placed, longer, further);
  few_cells = omega (arith, h.few_cells, longer);
  few_defs = omega (arith, lt);
  few_functions = h.few_functions;
  few_threads = h.few_threads;
}

definition_scoped : (sort : Option CellSort) (s : State) (name : List ℕ) (v : Value) (validation : Validation) → ScopedState s → s.defs < 1000 → ScopedValidator (known s.functions) validation.callee
    → ScopedState (with_definition sort s name v validation)
definition_scoped None s name v validation h lt scoped = constant_scoped s name v h lt
definition_scoped (Some sort) s name v validation h lt scoped =
    let cell = new_cell name sort v validation.callee in
    cell_scoped s (s.cells ++ cell ∷ []) (s.validator_spans ++ validation.at ∷ []) name (record { kind = sort.kind; number = length s.cells }) h lt
    (omega (arith, length-append s.cells (cell ∷ []))) (omega (arith, length-append s.validator_spans (validation.at ∷ [])))
    (cells_more (known s.functions) s.cells cell h.cells scoped)

-- what a validator calls is there
pub validator_scoped : (s : State) (span : Span) (o : Option Form) → ScopedState s → Every (ScopedValidator (known s.functions)) (validator_named s.defined span o)
validator_scoped s span None h = tt
validator_scoped s span (Some form) h =
    let ks = known s.functions in
    one_every (CalleeFits ks 1001) (ScopedValidator ks) (callee_of (top_scope s.defined) (spot_at 1001 span true) form) (λ callee. Some callee)
    (callee_of_fits ks (top_scope s.defined) (spot_at 1001 span true) form (record { known = h.known; few = omega arith })) (λ callee fits. there callee fits) where
      there : (c : Callee) → CalleeFits (known s.functions) 1001 c → ScopedValidator (known s.functions) (Some c)
      there (CoreOp op) fits = tt
      there (TheFunction n) fits = fits.0

defined_scoped : (s : State) (name : List ℕ) (at span : Span) (o : Option Defining) → ScopedState s → Every ScopedState (defined_as_one s name at span o)
defined_scoped s name at span None h = tt
defined_scoped s name at span (Some d) h =
    let v = literal most_depth d.value in
    let f = validator_named s.defined span d.validator in
    let n = new_name s.defined name at in
    let made : Value → Option Callee → List ℕ → State = λ x c y. with_definition d.sort s y x (record { callee = c; at = validator_place span d.validator }) in
    if_every ScopedState (nat_lt s.defs 1000) (v >>= λ x. f >>= λ c. n >>= λ y. Ok (made x c y)) (record { kind = TooMany; at = span })
    (λ lt. three_every Anything (ScopedValidator (known s.functions)) Anything ScopedState v f n made (anything v) (validator_scoped s span d.validator h) (anything n)
    (λ x c y p q r. definition_scoped d.sort s y x (record { callee = c; at = validator_place span d.validator }) h (is_less s.defs 1000 lt) q))

named_scoped : (s : State) (span : Span) (o : Option NamedForm) → ScopedState s → Every ScopedState (defined_at s span o)
named_scoped s span None h = tt
named_scoped s span (Some f) h = defined_scoped s f.name f.at span (defining_of f.form) h

pub define_scoped : (s : State) (span : Span) (parts : Forms) → ScopedState s → Every ScopedState (define s span parts)
define_scoped s span parts h = named_scoped s span (named_form parts) h

abbrev Few : List (List ℕ) → Type 0
Few names = length names ≤ 20

abbrev FewBefore : ℕ → List ℕ → Type 0
FewBefore k name = k < 20

parameter_few : (k : ℕ) (form : Form) → Every (FewBefore k) (parameter k form)
parameter_few k (leaf nil at) = tt
parameter_few k (leaf (truth b) at) = tt
parameter_few k (leaf (number z) at) = tt
parameter_few k (leaf (text bytes) at) = tt
parameter_few k (leaf (keyword name) at) = tt
parameter_few k (leaf (symbol name) at) =
    if_every (FewBefore k) (may_bind name) (if nat_lt k 20 then Ok name else refuse TooMany at) (record { kind = BadForm; at = at })
    (λ ok. if_every (FewBefore k) (nat_lt k 20) (Ok name) (record { kind = TooMany; at = at }) (λ lt. is_less k 20 lt))
parameter_few k (group b forms at) = tt

parameters_few : (forms : Forms) (names : List (List ℕ)) → Few names → Every Few (parameters names forms)
parameters_few no_forms names h = h
parameters_few (first p rest) names h =
    then_every (FewBefore (length names)) Few (parameter (length names) p) (λ n. parameters (n ∷ names) rest) (parameter_few (length names) p) (λ n lt. parameters_few rest (n ∷ names) (omega (arith, lt)))

pub function_more : (s : State) (name : List ℕ) (n : ℕ) (body : Tree) (span : Span) → ScopedState s → length s.functions < 1000 → n ≤ 20 → Placed (known s.functions) n 1000 body → ScopedState (with_function s name n body span)
function_more s name n body span h lt few p =
    let ks = known s.functions in
    let f : PlainFunction = record { parameters = n; body = body; span = span } in
    let k = known_of ks f in
    let entry : Entry = record { name = name; what = AFunction (length s.functions) (levels ks body) } in
    let whole = known_more s.functions f in
    let here : nth (ks ++ k ∷ []) (length s.functions) ≡ Some k = subst (λ i. nth (ks ++ k ∷ []) i ≡ Some k) (length-known s.functions) (nth_last ks k) in
    let threads = threads_front ks (k ∷ []) s.threads h.threads in
    let entries = entries_known (ks ++ k ∷ []) s.defined entry (known_front ks (k ∷ []) s.defined h.known) (k, here, refl) in
    record {
      functions = functions_more [] s.functions f h.functions (few, p.0, p.1);
      threads = subst (λ l. ScopedThreads l s.threads) (sym whole) threads;
      known = subst (λ l. AreKnown l (s.defined ++ entry ∷ [])) (sym whole) entries;
      cells = subst (λ l. ScopedCells l s.cells) (sym whole) (cells_front ks (k ∷ []) s.cells h.cells);
      placed = h.placed;
      few_cells = h.few_cells;
      few_defs = h.few_defs;
      few_functions = omega (arith, lt, length-append s.functions (f ∷ []));
      few_threads = h.few_threads;
    }

abbrev inside : State → List ℕ → List (List ℕ) → Scope
inside s name locals = record { locals = locals; defined = s.defined; current = Some name }

abbrev outside : State → Scope
outside s = record { locals = []; defined = s.defined; current = None }

pub function_scoped : (s : State) (span : Span) (o : Option Written) → ScopedState s → Every ScopedState (function s span o)
function_scoped s span None h = tt
function_scoped s span (Some w) h =
    let ks = known s.functions in
    if_every ScopedState (nat_lt (length s.functions) 1000)
    (new_name s.defined w.name w.at >>= λ name. parameters [] w.parameters >>= λ locals. named most_levels (inside s name locals) true (body w.body span) >>= λ node. Ok (with_function s name (length locals) node span))
    (record { kind = TooMany; at = span })
    (λ lt. then_every Anything ScopedState (new_name s.defined w.name w.at)
    (λ name. parameters [] w.parameters >>= λ locals. named most_levels (inside s name locals) true (body w.body span) >>= λ node. Ok (with_function s name (length locals) node span))
    (anything (new_name s.defined w.name w.at))
    (λ name p. then_every Few ScopedState (parameters [] w.parameters) (λ locals. named most_levels (inside s name locals) true (body w.body span) >>= λ node. Ok (with_function s name (length locals) node span))
    (parameters_few w.parameters [] (omega arith))
    (λ locals few. one_every (Placed ks (length locals) 1000) ScopedState (named most_levels (inside s name locals) true (body w.body span)) (λ node. with_function s name (length locals) node span)
    (form_named ks most_levels (inside s name locals) true (body w.body span) (record { known = h.known; few = omega (arith, few) }))
    (λ body q. function_more s name (length locals) body span h (is_less (length s.functions) 1000 lt) few q))))

pub thread_more : (s : State) (body : Tree) (span : Span) → ScopedState s → length s.threads < 64 → Placed (known s.functions) 0 1000 body → ScopedState (with_thread s body span)
thread_more s body span h lt p =
    let t : PlainThread = record { body = body; span = span } in
    record {
      functions = h.functions;
      threads = threads_more (known s.functions) s.threads t h.threads p;
      known = h.known;
      cells = h.cells;
      placed = h.placed;
      few_cells = h.few_cells;
      few_defs = h.few_defs;
      few_functions = h.few_functions;
      few_threads = omega (arith, lt, length-append s.threads (t ∷ []));
    }

pub future_scoped : (s : State) (span : Span) (forms : Forms) → ScopedState s → Every ScopedState (future s span forms)
future_scoped s span forms h =
    let ks = known s.functions in
    if_every ScopedState (nat_lt (length s.threads) 64) (named most_levels (outside s) false (body forms span) >>= λ node. Ok (with_thread s node span)) (record { kind = TooMany; at = span })
    (λ lt. one_every (Placed ks 0 1000) ScopedState (named most_levels (outside s) false (body forms span)) (λ node. with_thread s node span)
    (form_named ks most_levels (outside s) false (body forms span) (record { known = h.known; few = omega arith }))
    (λ node p. thread_more s node span h (is_less (length s.threads) 64 lt) p))

top_scoped : (o : Option FormName) (s : State) (span : Span) (parts : Forms) → ScopedState s → Every ScopedState (top_level o s span parts)
top_scoped None s span parts h = tt
top_scoped (Some kind.Ns) s span parts h = tt
top_scoped (Some kind.Def) s span parts h = define_scoped s span parts h
top_scoped (Some kind.Defn) s span parts h = function_scoped s span (written parts) h
top_scoped (Some kind.Future) s span parts h = future_scoped s span parts h
top_scoped (Some kind.If) s span parts h = tt
top_scoped (Some kind.Do) s span parts h = tt
top_scoped (Some kind.Let) s span parts h = tt
top_scoped (Some kind.Loop) s span parts h = tt
top_scoped (Some kind.Recur) s span parts h = tt
top_scoped (Some kind.When) s span parts h = tt
top_scoped (Some kind.WhenNot) s span parts h = tt
top_scoped (Some kind.IfNot) s span parts h = tt
top_scoped (Some kind.And) s span parts h = tt
top_scoped (Some kind.Or) s span parts h = tt
top_scoped (Some kind.Cond) s span parts h = tt
top_scoped (Some kind.Println) s span parts h = tt
top_scoped (Some kind.Dosync) s span parts h = tt
top_scoped (Some kind.Deref) s span parts h = tt
top_scoped (Some kind.RefSet) s span parts h = tt
top_scoped (Some kind.Alter) s span parts h = tt
top_scoped (Some kind.Commute) s span parts h = tt
top_scoped (Some kind.Ensure) s span parts h = tt
top_scoped (Some kind.Swap) s span parts h = tt
top_scoped (Some kind.Reset) s span parts h = tt
top_scoped (Some kind.Send) s span parts h = tt
top_scoped (Some kind.Ref) s span parts h = tt
top_scoped (Some kind.Atom) s span parts h = tt
top_scoped (Some kind.Agent) s span parts h = tt

pub step_scoped : (s : State) (form : Form) → ScopedState s → Every ScopedState (step s form)
step_scoped s (leaf x at) h = tt
step_scoped s (group Round no_forms at) h = tt
step_scoped s (group Round (first head parts) at) h = top_scoped (form_at head) s at parts h
step_scoped s (group Square forms at) h = tt

pub steps_scoped : (forms : List Form) (s : State) → ScopedState s → Every ScopedState (steps s forms)
steps_scoped [] s h = h
steps_scoped (form ∷ forms) s h = then_every ScopedState ScopedState (step s form) (λ t. steps t forms) (step_scoped s form h) (λ t k. steps_scoped forms t k)

pub nothing_scoped : ScopedState nothing
nothing_scoped = record { functions = tt; threads = tt; known = tt; cells = tt; placed = refl; few_cells = omega arith; few_defs = omega arith; few_functions = omega arith; few_threads = omega arith }

pub program_scoped : (s : State) → ScopedState s → Scoped (program s)
program_scoped s h = record { functions = h.functions; threads = h.threads; cells = h.cells; placed = h.placed; few_cells = omega (arith, h.few_cells, h.few_defs); few_functions = h.few_functions; few_threads = h.few_threads }

pub script_scoped : (forms : List Form) → Every Scoped (named_script forms)
script_scoped forms =
    one_every ScopedState Scoped (steps nothing (behind_namespace forms)) program (steps_scoped (behind_namespace forms) nothing nothing_scoped) program_scoped

pub resolved_scoped : (forms : List Form) (p : PlainProgram) → Resolves forms p → Scoped p
resolved_scoped forms p h = subst (Every Scoped) h (script_scoped forms)
