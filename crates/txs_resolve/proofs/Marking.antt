-- The program of a script is marked as it is wanted, form by form.
use Rattle.std.proofs.Common.{ℕ, true, false, nat_lt, Bool, List, [], ◌∷◌, ◌++◌, length, Option, Some, None, Ok, Err, IfOk, subst}
use Rattle.txs_value_data.specs.Limits.{most_definitions, most_depth, most_levels, most_threads}
use Rattle.txs_value_data.specs.declared.fault.Span.{Span}
use Rattle.txs_value_data.specs.declared.value.Value.{Value}
use Rattle.txs_reader.specs.declared.form.Bracket.TheVariants.{Round, Square}
use Rattle.txs_reader.specs.Tree.{PlainForm as Form, PlainForms as Forms, leaf, group, first}
use Rattle.txs_reader.specs.Tree.{none as no_forms}
use Rattle.txs_tree_meaning.specs.Marked.{Exactly, MarkedBy, FunctionsMarkedBy, ThreadsMarkedBy, ProgramMarkedBy}
use Rattle.txs_tree_meaning.specs.Tree.{Tree, PlainFunction, PlainThread, PlainProgram}
use Rattle.txs_resolve_expand.specs.declared.error.ResolveErrorKind.TheVariants.{TooMany}
use Rattle.txs_resolve_expand.specs.declared.names.FormName.{FormName}
use Rattle.txs_resolve_expand.specs.declared.names.FormName.TheVariants as kind
use Rattle.txs_resolve_expand.specs.Scope.{Scope}
use Rattle.txs_resolve.specs.declared.definition.CellSort.{CellSort}
use Rattle.txs_resolve.specs.declared.definition.Validation.{Validation}
use Rattle.txs_value_data.specs.declared.op.Callee.{Callee}
use Rattle.txs_resolve_expand.specs.Answers.{◌>>=◌}
use Rattle.txs_resolve_expand.specs.Expansions.{body, form_at}
use Rattle.txs_resolve_expand.specs.Expressions.{Answer, named}
use Rattle.txs_resolve.specs.Literals.{literal}
use Rattle.txs_resolve.proofs.Marks.{form_marked}
use Rattle.txs_resolve_expand.specs.Namespace.{behind_namespace}
use Rattle.txs_resolve.specs.Names.{State, nothing, program, new_name, Defining, defining_of, validator_named, validator_place, with_definition, defined_as_one, NamedForm, named_form, defined_at, parameters, Written, written, with_function, function, with_thread, future, top_level, step, steps, named_script, Resolves}
use Rattle.txs_resolve.proofs.Scoping.{Every, then_every, one_every, three_every, if_every}

-- what is defined so far is marked
abbrev MarkedState : State → Type 0
MarkedState s = ProgramMarkedBy Exactly (program s)

abbrev Anything : {A : Type 0} → A → Type 0
Anything a = Unit {0}

anything : {A : Type 0} (a : Answer A) → Every Anything a
anything (Ok x) = tt
anything (Err e) = tt

functions_more : (fs : List PlainFunction) (f : PlainFunction) → FunctionsMarkedBy Exactly fs → MarkedBy Exactly true f.body → FunctionsMarkedBy Exactly (fs ++ f ∷ [])
functions_more [] f h one = (one, tt)
functions_more (g ∷ fs) f h one = (h.0, functions_more fs f h.1 one)

threads_more : (ts : List PlainThread) (t : PlainThread) → ThreadsMarkedBy Exactly ts → MarkedBy Exactly false t.body → ThreadsMarkedBy Exactly (ts ++ t ∷ [])
threads_more [] t h one = (one, tt)
threads_more (u ∷ ts) t h one = (h.0, threads_more ts t h.1 one)

definition_marked : (sort : Option CellSort) (s : State) (name : List ℕ) (v : Value) (x : Validation) → MarkedState s → MarkedState (with_definition sort s name v x)
definition_marked None s name v x h = record { functions = h.functions; threads = h.threads }
definition_marked (Some sort) s name v x h = record { functions = h.functions; threads = h.threads }

function_marked : (s : State) (name : List ℕ) (n : ℕ) (t : Tree) (span : Span) → MarkedState s → MarkedBy Exactly true t → MarkedState (with_function s name n t span)
function_marked s name n t span h one = record { functions = functions_more s.functions (record { parameters = n; body = t; span = span }) h.functions one; threads = h.threads }

thread_marked : (s : State) (t : Tree) (span : Span) → MarkedState s → MarkedBy Exactly false t → MarkedState (with_thread s t span)
thread_marked s t span h one = record { functions = h.functions; threads = threads_more s.threads (record { body = t; span = span }) h.threads one }

-- ---- top-level forms

defined_marked : (s : State) (name : List ℕ) (at span : Span) (o : Option Defining) → MarkedState s → Every MarkedState (defined_as_one s name at span o)
defined_marked s name at span None h = tt
defined_marked s name at span (Some d) h =
    let v = literal most_depth d.value in
    let f = validator_named s.defined span d.validator in
    let n = new_name s.defined name at in
    let made : Value → Option Callee → List ℕ → State = λ x c y. with_definition d.sort s y x (record { callee = c; at = validator_place span d.validator }) in
    if_every MarkedState (nat_lt s.defs most_definitions) (v >>= λ x. f >>= λ c. n >>= λ y. Ok (made x c y)) (record { kind = TooMany; at = span })
    (λ lt. three_every Anything Anything Anything MarkedState v f n made (anything v) (anything f) (anything n)
    (λ x c y p q r. definition_marked d.sort s y x (record { callee = c; at = validator_place span d.validator }) h))

named_as_marked : (s : State) (span : Span) (o : Option NamedForm) → MarkedState s → Every MarkedState (defined_at s span o)
named_as_marked s span None h = tt
named_as_marked s span (Some f) h = defined_marked s f.name f.at span (defining_of f.form) h

every : {A : Type 0} (P : A → Type 0) (a : Answer A) → IfOk a P → Every P a
every P (Ok x) h = h
every P (Err e) h = tt

-- a body that may have so many levels
body_marked : (scope : Scope) (wanted : Bool) (forms : Forms) (span : Span) → Every (MarkedBy Exactly wanted) (named most_levels scope wanted (body forms span))
body_marked scope wanted forms span = every (MarkedBy Exactly wanted) (named most_levels scope wanted (body forms span)) (form_marked most_levels scope wanted (body forms span))

abbrev inside : State → List ℕ → List (List ℕ) → Scope
inside s name locals = record { locals = locals; defined = s.defined; current = Some name }

abbrev outside : State → Scope
outside s = record { locals = []; defined = s.defined; current = None }

function_so : (s : State) (span : Span) (o : Option Written) → MarkedState s → Every MarkedState (function s span o)
function_so s span None h = tt
function_so s span (Some w) h =
    if_every MarkedState (nat_lt (length s.functions) most_definitions)
    (new_name s.defined w.name w.at >>= λ name. parameters [] w.parameters >>= λ locals. named most_levels (inside s name locals) true (body w.body span) >>= λ node. Ok (with_function s name (length locals) node span))
    (record { kind = TooMany; at = span })
    (λ lt. then_every Anything MarkedState (new_name s.defined w.name w.at)
    (λ name. parameters [] w.parameters >>= λ locals. named most_levels (inside s name locals) true (body w.body span) >>= λ node. Ok (with_function s name (length locals) node span))
    (anything (new_name s.defined w.name w.at))
    (λ name p. then_every Anything MarkedState (parameters [] w.parameters) (λ locals. named most_levels (inside s name locals) true (body w.body span) >>= λ node. Ok (with_function s name (length locals) node span))
    (anything (parameters [] w.parameters))
    (λ locals few. one_every (MarkedBy Exactly true) MarkedState (named most_levels (inside s name locals) true (body w.body span)) (λ node. with_function s name (length locals) node span)
    (body_marked (inside s name locals) true w.body span) (λ t q. function_marked s name (length locals) t span h q))))

future_so : (s : State) (span : Span) (forms : Forms) → MarkedState s → Every MarkedState (future s span forms)
future_so s span forms h =
    if_every MarkedState (nat_lt (length s.threads) most_threads) (named most_levels (outside s) false (body forms span) >>= λ node. Ok (with_thread s node span)) (record { kind = TooMany; at = span })
    (λ lt. one_every (MarkedBy Exactly false) MarkedState (named most_levels (outside s) false (body forms span)) (λ node. with_thread s node span)
    (body_marked (outside s) false forms span) (λ t p. thread_marked s t span h p))

top_so : (o : Option FormName) (s : State) (span : Span) (parts : Forms) → MarkedState s → Every MarkedState (top_level o s span parts)
top_so (Some kind.Def) s span parts h = named_as_marked s span (named_form parts) h
top_so (Some kind.Defn) s span parts h = function_so s span (written parts) h
top_so (Some kind.Future) s span parts h = future_so s span parts h
top_so _ s span parts h = tt

step_so : (s : State) (form : Form) → MarkedState s → Every MarkedState (step s form)
step_so s (leaf x at) h = tt
step_so s (group Round no_forms at) h = tt
step_so s (group Round (first head parts) at) h = top_so (form_at head) s at parts h
step_so s (group Square forms at) h = tt

steps_so : (forms : List Form) (s : State) → MarkedState s → Every MarkedState (steps s forms)
steps_so [] s h = h
steps_so (form ∷ forms) s h = then_every MarkedState MarkedState (step s form) (λ t. steps t forms) (step_so s form h) (λ t k. steps_so forms t k)

script_marked : (forms : List Form) → Every (ProgramMarkedBy Exactly) (named_script forms)
script_marked forms = one_every MarkedState (ProgramMarkedBy Exactly) (steps nothing (behind_namespace forms)) program (steps_so (behind_namespace forms) nothing (record { functions = tt; threads = tt })) (λ s h. h)

pub resolved_marked : (forms : List Form) (p : PlainProgram) → Resolves forms p → ProgramMarkedBy Exactly p
resolved_marked forms p h = subst (Every (ProgramMarkedBy Exactly)) h (script_marked forms)
