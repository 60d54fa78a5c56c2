-- The bodies of a script's program stand in it one behind the other.
use Rattle.std.proofs.Common.{◌≡◌, ℕ, zero, suc, ◌+◌, ◌<◌, ◌≤◌, ◌⊎◌, inl, inr, Bool, true, false, nat_lt, List, [], ◌∷◌, ◌++◌, length, map, take, drop, Option, Some, None, Ok, Err, refl, sym, ap, subst, ◌∙◌, arith, if◌then◌else◌}
use Rattle.std.proofs.lemmas.Bool.Decides.{nat_tests}
use Rattle.txs_value_data.specs.declared.fault.Span.{Span}
use Rattle.txs_value_data.specs.declared.op.Callee.{Callee}
use Rattle.txs_value_data.specs.declared.value.Value.{Value}
use Rattle.txs_reader.specs.declared.form.Bracket.TheVariants.{Round, Square}
use Rattle.txs_reader.specs.Script.{Reads}
use Rattle.txs_reader.specs.Tree.{PlainForm as Form, PlainForms as Forms, leaf, group, first, place, symbol, text, trees_of}
use Rattle.txs_reader.specs.Tree.{none as no_forms}
use Rattle.txs_tree_meaning.specs.Tree.{Tree, PlainFunction, PlainThread, PlainProgram}
use Rattle.txs_resolve_expand.specs.Scope.{Scope}
use Rattle.txs_resolve_expand.specs.declared.names.FormName.{FormName}
use Rattle.txs_resolve_expand.specs.declared.names.FormName.TheVariants as kind
use Rattle.txs_resolve.specs.declared.definition.CellSort.{CellSort}
use Rattle.txs_resolve.specs.declared.definition.Validation.{Validation}
use Rattle.txs_resolve_expand.specs.declared.error.ResolveError.{ResolveError}
use Rattle.txs_resolve_expand.specs.declared.error.ResolveErrorKind.TheVariants.{TooMany}
use Rattle.txs_resolve_expand.specs.Answers.{◌>>=◌}
use Rattle.txs_resolve_expand.specs.Expansions.{body, form_at}
use Rattle.txs_resolve_expand.specs.Expressions.{Answer, named}
use Rattle.txs_resolve.specs.Literals.{literal}
use Rattle.txs_resolve_expand.specs.Namespace.{behind_namespace, is_namespace}
use Rattle.txs_resolve.specs.Names.{State, nothing, program, new_name, Defining, NamedForm, validator_named, validator_place, with_definition, entered, defined_as_one, defined_at, define, defining_of, named_form, are_symbols, parameters, Written, written, written_behind, untold, with_function, function, with_thread, future, top_level, step, steps, Resolves}
use Rattle.txs_value_cell.specs.declared.cell.CellDefinition.{CellDefinition}
use Rattle.txs_check.specs.Refused.{Body, function_body, thread_body, before, in_order, Validator, validators_in, Checkable, of_body, of_validator, earlier, together}
use Rattle.txs_theorem_language.specs.TextOrder.{Nests, NestIn}
use Rattle.txs_theorem_language.proofs.Earliest.{EachLies}
use Rattle.txs_theorem_language.proofs.Options.{Within, validator_within}
use Rattle.txs_theorem_language.proofs.Reading.{forms_nest}
use Rattle.txs_theorem_language.proofs.Spreads.{Good, Spreads, spreads_wider, named_sees}
use Rattle.txs_theorem_language.proofs.Windows.{nests_on, nest_ends, Frame, is_made, made_body}

-- ---- one form

-- where there is an answer, this is true of it
abbrev pub Each : {A : Type 0} → (A → Type 0) → Answer A → Type 0
Each P (Ok x) = P x
Each P (Err e) = Unit {0}

then_each : {A B : Type 0} (Q : B → Type 0) (a : Answer A) (f : A → Answer B) → ((x : A) → a ≡ Ok x → Each Q (f x)) → Each Q (a >>= f)
then_each Q (Ok x) f h = h x refl
then_each Q (Err e) f h = tt

if_each : {A : Type 0} (Q : A → Type 0) (y : Bool) (a : Answer A) (e : ResolveError) → Each Q a → Each Q (if y then a else Err e)
if_each Q true a e h = h
if_each Q false a e h = tt

-- no body more
pub record Same (s t : State) : Type 0 where
  pub functions : t.functions ≡ s.functions
  pub threads : t.threads ≡ s.threads

-- one function more, at this place
pub record OneFunction (at : Span) (s t : State) : Type 0 where
  pub one : PlainFunction
  pub functions : t.functions ≡ s.functions ++ one ∷ []
  pub threads : t.threads ≡ s.threads
  pub span : one.span ≡ at
  pub spreads : Spreads at.from at.to one.body

-- one thread more, at this place
pub record OneThread (at : Span) (s t : State) : Type 0 where
  pub one : PlainThread
  pub functions : t.functions ≡ s.functions
  pub threads : t.threads ≡ s.threads ++ one ∷ []
  pub span : one.span ≡ at
  pub spreads : Spreads at.from at.to one.body

abbrev pub Grown : Span → State → State → Type 0
Grown at s t = Same s t ⊎ (OneFunction at s t ⊎ OneThread at s t)

-- no cell more
record SameCells (s t : State) : Type 0 where
  cells : t.cells ≡ s.cells
  spans : t.validator_spans ≡ s.validator_spans

-- one cell more, whose validator stands in this place
record OneCell (at : Span) (s t : State) : Type 0 where
  cell : CellDefinition
  span : Span
  cells : t.cells ≡ s.cells ++ cell ∷ []
  spans : t.validator_spans ≡ s.validator_spans ++ span ∷ []
  begins : at.from ≤ span.from
  ends : span.from < at.to

-- a body more, or a cell, or neither
abbrev Joint : Span → State → State → Type 0
Joint at s t = (Grown at s t × SameCells s t) ⊎ (Same s t × OneCell at s t)

-- the body of a function or of a future
spread_in : (at : Span) (from : ℕ) (fs : Forms) → at.from < from → NestIn from at.to fs → (scope : Scope) (wanted : Bool) (node : Tree) → named 1000 scope wanted (body fs at) ≡ Ok node → Spreads at.from at.to node
spread_in at from fs lt h scope wanted node is =
    let frame : Frame at from at.to = record { begins = lt; order = nest_ends from at.to fs h; ends = omega arith } in
    let good = (named_sees 1000).good at from at.to (body fs at) (is_made (body fs at) frame (made_body fs h)) scope wanted in
    spreads_wider at.from from at.to at.to node (omega (arith, lt)) (omega arith) (subst (Good from at.to) is good)

with_same : (sort : Option CellSort) (s : State) (name : List ℕ) (v : Value) (x : Validation) → Same s (with_definition sort s name v x)
with_same None s name v x = record { functions = refl; threads = refl }
with_same (Some sort) s name v x = record { functions = refl; threads = refl }

define_grown : (s : State) (at : Span) (parts : Forms) → Each (Grown at s) (define s at parts)
define_grown s at parts = by (named_form parts)
  where
    inside : (f : NamedForm) (o : Option Defining) → Each (Grown at s) (defined_as_one s f.name f.at at o)
    inside f None = tt
    inside f (Some d) =
        let place = validator_place at d.validator in
        if_each (Grown at s) (nat_lt s.defs 1000) (entered s f.name f.at at d) (record { kind = TooMany; at = at })
        (then_each (Grown at s) (literal 32 d.value) (λ v. validator_named s.defined at d.validator >>= λ c. new_name s.defined f.name f.at >>= λ n. Ok (with_definition d.sort s n v (record { callee = c; at = place })))
        (λ v is. then_each (Grown at s) (validator_named s.defined at d.validator) (λ c. new_name s.defined f.name f.at >>= λ n. Ok (with_definition d.sort s n v (record { callee = c; at = place })))
        (λ c are. then_each (Grown at s) (new_name s.defined f.name f.at) (λ n. Ok (with_definition d.sort s n v (record { callee = c; at = place })))
        (λ n same. inl (with_same d.sort s n v (record { callee = c; at = place }))))))

    by : (o : Option NamedForm) → Each (Grown at s) (defined_at s at o)
    by None = tt
    by (Some f) = inside f (defining_of f.form)

-- where a function's body stands
abbrev BodyStands : Span → Option Written → Type 0
BodyStands at None = Unit {0}
BodyStands at (Some w) = (from : ℕ) × (at.from < from) × NestIn from at.to w.body

behind_stands : (at : Span) (name : List ℕ) (there : Span) (from : ℕ) (fs : Forms) → at.from ≤ from → NestIn from at.to fs → BodyStands at (written_behind name there fs)
behind_stands at name there from (first (group Square params span) forms) le h = by (are_symbols params)
  where
    by : (y : Bool) → BodyStands at (if y then Some (record { name = name; at = there; parameters = params; body = forms }) else None)
    by true = (span.to, omega (arith, le, h.0, h.1.0), h.2)
    by false = tt
behind_stands at name there from _ le h = tt

untold_stands : (at : Span) (from : ℕ) (fs : Forms) → at.from ≤ from → NestIn from at.to fs → (n : ℕ) × (at.from ≤ n) × NestIn n at.to (untold fs)
untold_stands at from (first (leaf (text bytes) span) rest) le h = (span.to, omega (arith, le, h.0, h.1), h.2)
untold_stands at from fs le h = (from, le, h)

written_stands : (at : Span) (from : ℕ) (parts : Forms) → at.from ≤ from → NestIn from at.to parts → BodyStands at (written parts)
written_stands at from (first (leaf (symbol name) there) rest) le h =
    let k = untold_stands at there.to rest (omega (arith, le, h.0, h.1)) h.2 in
    behind_stands at name there k.0 (untold rest) k.1 k.2
written_stands at from _ le h = tt

function_grown : (s : State) (at : Span) (o : Option Written) → BodyStands at o → Each (Grown at s) (function s at o)
function_grown s at None h = tt
function_grown s at (Some w) h =
    if_each (Grown at s) (nat_lt (length s.functions) 1000)
    (new_name s.defined w.name w.at >>= λ name. parameters [] w.parameters >>= λ locals. named 1000 (record { locals = locals; defined = s.defined; current = Some name }) true (body w.body at) >>= λ node. Ok (with_function s name (length locals) node at))
    (record { kind = TooMany; at = at })
    (then_each (Grown at s) (new_name s.defined w.name w.at) (λ name. parameters [] w.parameters >>= λ locals. named 1000 (record { locals = locals; defined = s.defined; current = Some name }) true (body w.body at) >>= λ node. Ok (with_function s name (length locals) node at))
    (λ name is. then_each (Grown at s) (parameters [] w.parameters) (λ locals. named 1000 (record { locals = locals; defined = s.defined; current = Some name }) true (body w.body at) >>= λ node. Ok (with_function s name (length locals) node at))
    (λ locals are. then_each (Grown at s) (named 1000 (record { locals = locals; defined = s.defined; current = Some name }) true (body w.body at)) (λ node. Ok (with_function s name (length locals) node at))
    (λ node made. inr (inl (record {
      one = record { parameters = length locals; body = node; span = at };
      functions = refl;
      threads = refl;
      span = refl;
      spreads = spread_in at h.0 w.body h.1 h.2 (record { locals = locals; defined = s.defined; current = Some name }) true node made;
    }))))))

future_grown : (s : State) (at : Span) (from : ℕ) (forms : Forms) → at.from < from → NestIn from at.to forms → Each (Grown at s) (future s at forms)
future_grown s at from forms lt h =
    if_each (Grown at s) (nat_lt (length s.threads) 64)
    (named 1000 (record { locals = []; defined = s.defined; current = None }) false (body forms at) >>= λ node. Ok (with_thread s node at))
    (record { kind = TooMany; at = at })
    (then_each (Grown at s) (named 1000 (record { locals = []; defined = s.defined; current = None }) false (body forms at)) (λ node. Ok (with_thread s node at))
    (λ node made. inr (inr (record {
      one = record { body = node; span = at };
      functions = refl;
      threads = refl;
      span = refl;
      spreads = spread_in at from forms lt h (record { locals = []; defined = s.defined; current = None }) false node made;
    }))))

top_grown : (o : Option FormName) (s : State) (at : Span) (from : ℕ) (parts : Forms) → at.from < from → NestIn from at.to parts → Each (Grown at s) (top_level o s at parts)
top_grown (Some kind.Def) s at from parts lt h = define_grown s at parts
top_grown (Some kind.Defn) s at from parts lt h = function_grown s at (written parts) (written_stands at from parts (omega (arith, lt)) h)
top_grown (Some kind.Future) s at from parts lt h = future_grown s at from parts lt h
top_grown _ s at from parts lt h = tt

pub step_grown : (s : State) (form : Form) → Nests form → Each (Grown (place form) s) (step s form)
step_grown s (group Round (first head parts) at) h = top_grown (form_at head) s at (place head).to parts (omega (arith, h.1.0, nests_on head h.1.1)) h.1.2
step_grown s _ h = tt

-- ---- cells

each_both : {A : Type 0} (P Q : A → Type 0) (a : Answer A) → Each P a → Each Q a → Each (λ x. P x × Q x) a
each_both P Q (Ok x) p q = (p, q)
each_both P Q (Err e) p q = tt

each_maps : {A : Type 0} (P Q : A → Type 0) (a : Answer A) → Each P a → ((x : A) → P x → Q x) → Each Q a
each_maps P Q (Ok x) p f = f x p
each_maps P Q (Err e) p f = tt

cells_of_function : (s : State) (at : Span) (o : Option Written) → Each (SameCells s) (function s at o)
cells_of_function s at None = tt
cells_of_function s at (Some w) =
    if_each (SameCells s) (nat_lt (length s.functions) 1000)
    (new_name s.defined w.name w.at >>= λ name. parameters [] w.parameters >>= λ locals. named 1000 (record { locals = locals; defined = s.defined; current = Some name }) true (body w.body at) >>= λ node. Ok (with_function s name (length locals) node at))
    (record { kind = TooMany; at = at })
    (then_each (SameCells s) (new_name s.defined w.name w.at) (λ name. parameters [] w.parameters >>= λ locals. named 1000 (record { locals = locals; defined = s.defined; current = Some name }) true (body w.body at) >>= λ node. Ok (with_function s name (length locals) node at))
    (λ name is. then_each (SameCells s) (parameters [] w.parameters) (λ locals. named 1000 (record { locals = locals; defined = s.defined; current = Some name }) true (body w.body at) >>= λ node. Ok (with_function s name (length locals) node at))
    (λ locals are. then_each (SameCells s) (named 1000 (record { locals = locals; defined = s.defined; current = Some name }) true (body w.body at)) (λ node. Ok (with_function s name (length locals) node at))
    (λ node made. record { cells = refl; spans = refl }))))

cells_of_future : (s : State) (at : Span) (forms : Forms) → Each (SameCells s) (future s at forms)
cells_of_future s at forms =
    if_each (SameCells s) (nat_lt (length s.threads) 64) (named 1000 (record { locals = []; defined = s.defined; current = None }) false (body forms at) >>= λ node. Ok (with_thread s node at)) (record { kind = TooMany; at = at })
    (then_each (SameCells s) (named 1000 (record { locals = []; defined = s.defined; current = None }) false (body forms at)) (λ node. Ok (with_thread s node at)) (λ node made. record { cells = refl; spans = refl }))

-- where the validator of a cell stands, or its definition
placed_in : (at inner : Span) (o : Option Form) → at.from < at.to → at.from ≤ inner.from → inner.to ≤ at.to → Within inner o → (at.from ≤ (validator_place at o).from) × ((validator_place at o).from < at.to)
placed_in at inner None lt low high w = (omega arith, lt)
placed_in at inner (Some f) lt low high w = (omega (arith, low, w.0), omega (arith, high, w.1))

with_joint : (sort : Option CellSort) (s : State) (name : List ℕ) (v : Value) (x : Validation) (at : Span) → (at.from ≤ x.at.from) × (x.at.from < at.to) → Joint at s (with_definition sort s name v x)
with_joint None s name v x at w = inl (inl (record { functions = refl; threads = refl }), record { cells = refl; spans = refl })
with_joint (Some sort) s name v x at w = inr (record { functions = refl; threads = refl }, record { cell = _; span = x.at; cells = refl; spans = refl; begins = w.0; ends = w.1 })

one_joint : (s : State) (at : Span) (name : List ℕ) (there : Span) (form : Form) → at.from < at.to → at.from ≤ (place form).from → (place form).to ≤ at.to → Nests form → Each (Joint at s) (defined_as_one s name there at (defining_of form))
one_joint s at name there form lt low high nests = inside (defining_of form) refl
  where
    inside : (o : Option Defining) → defining_of form ≡ o → Each (Joint at s) (defined_as_one s name there at o)
    inside None is = tt
    inside (Some d) is =
        let w = placed_in at (place form) d.validator lt low high (validator_within form nests d is) in
        let made : Value → Option Callee → List ℕ → State = λ v c n. with_definition d.sort s n v (record { callee = c; at = validator_place at d.validator }) in
        if_each (Joint at s) (nat_lt s.defs 1000) (entered s name there at d) (record { kind = TooMany; at = at })
        (then_each (Joint at s) (literal 32 d.value) (λ v. validator_named s.defined at d.validator >>= λ c. new_name s.defined name there >>= λ n. Ok (made v c n))
        (λ v is. then_each (Joint at s) (validator_named s.defined at d.validator) (λ c. new_name s.defined name there >>= λ n. Ok (made v c n))
        (λ c are. then_each (Joint at s) (new_name s.defined name there) (λ n. Ok (made v c n))
        (λ n same. with_joint d.sort s n v (record { callee = c; at = validator_place at d.validator }) at w))))

define_joint : (s : State) (at : Span) (from : ℕ) (parts : Forms) → at.from < at.to → at.from < from → NestIn from at.to parts → Each (Joint at s) (define s at parts)
define_joint s at from (first (leaf (symbol name) there) (first form no_forms)) lt le h = one_joint s at name there form lt (omega (arith, le, h.0, h.1, h.2.0)) h.2.2 h.2.1
define_joint s at from _ lt le h = tt

top_joint : (o : Option FormName) (s : State) (at : Span) (from : ℕ) (parts : Forms) → at.from < at.to → at.from < from → NestIn from at.to parts → Each (Joint at s) (top_level o s at parts)
top_joint (Some kind.Def) s at from parts lt le h = define_joint s at from parts lt le h
top_joint (Some kind.Defn) s at from parts lt le h =
    each_maps (λ t. Grown at s t × SameCells s t) (Joint at s) (function s at (written parts))
    (each_both (Grown at s) (SameCells s) (function s at (written parts)) (top_grown (Some kind.Defn) s at from parts le h) (cells_of_function s at (written parts))) (λ t p. inl p)
top_joint (Some kind.Future) s at from parts lt le h =
    each_maps (λ t. Grown at s t × SameCells s t) (Joint at s) (future s at parts)
    (each_both (Grown at s) (SameCells s) (future s at parts) (top_grown (Some kind.Future) s at from parts le h) (cells_of_future s at parts)) (λ t p. inl p)
top_joint _ s at from parts lt le h = tt

step_joint : (s : State) (form : Form) → Nests form → Each (Joint (place form) s) (step s form)
step_joint s (leaf x at) h = tt
step_joint s (group Square fs at) h = tt
step_joint s (group Round no_forms at) h = tt
step_joint s (group Round (first head parts) at) h = top_joint (form_at head) s at (place head).to parts h.0 (omega (arith, h.1.0, nests_on head h.1.1)) h.1.2

-- ---- bodies in script order

-- all functions, and all threads, begin before this offset
abbrev pub FunctionsBefore : ℕ → List PlainFunction → Type 0
FunctionsBefore n [] = Unit {0}
FunctionsBefore n (f ∷ fs) = (f.span.from < n) × FunctionsBefore n fs

abbrev pub ThreadsBefore : ℕ → List PlainThread → Type 0
ThreadsBefore n [] = Unit {0}
ThreadsBefore n (t ∷ ts) = (t.span.from < n) × ThreadsBefore n ts

pub functions_wider : (m n : ℕ) (fs : List PlainFunction) → m ≤ n → FunctionsBefore m fs → FunctionsBefore n fs
functions_wider m n [] le h = tt
functions_wider m n (f ∷ fs) le h = (omega (arith, le, h.0), functions_wider m n fs le h.1)

pub threads_wider : (m n : ℕ) (ts : List PlainThread) → m ≤ n → ThreadsBefore m ts → ThreadsBefore n ts
threads_wider m n [] le h = tt
threads_wider m n (t ∷ ts) le h = (omega (arith, le, h.0), threads_wider m n ts le h.1)

functions_snoc : (n : ℕ) (fs : List PlainFunction) (f : PlainFunction) → FunctionsBefore n fs → f.span.from < n → FunctionsBefore n (fs ++ f ∷ [])
functions_snoc n [] f h lt = (lt, tt)
functions_snoc n (g ∷ fs) f h lt = (h.0, functions_snoc n fs f h.1 lt)

threads_snoc : (n : ℕ) (ts : List PlainThread) (t : PlainThread) → ThreadsBefore n ts → t.span.from < n → ThreadsBefore n (ts ++ t ∷ [])
threads_snoc n [] t h lt = (lt, tt)
threads_snoc n (u ∷ ts) t h lt = (h.0, threads_snoc n ts t h.1 lt)

threads_drop : (k n : ℕ) (ts : List PlainThread) → ThreadsBefore n ts → ThreadsBefore n (drop k ts)
threads_drop zero n ts h = h
threads_drop (suc k) n [] h = tt
threads_drop (suc k) n (t ∷ ts) h = threads_drop k n ts h.1

append_assoc_bodies : (xs ys zs : List Body) → (xs ++ ys) ++ zs ≡ xs ++ (ys ++ zs)
append_assoc_bodies [] ys zs = refl
append_assoc_bodies (x ∷ xs) ys zs = ap (λ l. x ∷ l) (append_assoc_bodies xs ys zs)

map_snoc : (ts : List PlainThread) (t : PlainThread) → map thread_body (ts ++ t ∷ []) ≡ map thread_body ts ++ thread_body t ∷ []
map_snoc [] t = refl
map_snoc (u ∷ ts) t = ap (λ l. thread_body u ∷ l) (map_snoc ts t)

-- a thread behind all others adds none to those that stand before a function
before_snoc : (from : ℕ) (ts : List PlainThread) (t : PlainThread) → from ≤ t.span.from → before from (ts ++ t ∷ []) ≡ before from ts
before_snoc from [] t le =
    let no : nat_lt t.span.from from ≡ false = grind (arith, nat_tests, le) in
    ap (λ (y : Bool). if y then suc 0 else 0) no
before_snoc from (u ∷ ts) t le = ap (λ (n : ℕ). if nat_lt u.span.from from then suc n else 0) (before_snoc from ts t le)

before_few : (from : ℕ) (ts : List PlainThread) → before from ts ≤ length ts
before_few from [] = omega arith
before_few from (t ∷ ts) = by (before_few from ts) (nat_lt t.span.from from)
  where
    by : before from ts ≤ length ts → (y : Bool) → (if y then suc (before from ts) else 0) ≤ suc (length ts)
    by le true = omega (arith, le)
    by le false = omega arith

take_snoc : (n : ℕ) (ts : List PlainThread) (t : PlainThread) → n ≤ length ts → take n (ts ++ t ∷ []) ≡ take n ts
take_snoc zero ts t le = refl
take_snoc (suc n) [] t le = absurd (omega (arith, le))
take_snoc (suc n) (u ∷ ts) t le = ap (λ l. u ∷ l) (take_snoc n ts t (omega (arith, le)))

drop_snoc : (n : ℕ) (ts : List PlainThread) (t : PlainThread) → n ≤ length ts → drop n (ts ++ t ∷ []) ≡ drop n ts ++ t ∷ []
drop_snoc zero ts t le = refl
drop_snoc (suc n) [] t le = absurd (omega (arith, le))
drop_snoc (suc n) (u ∷ ts) t le = drop_snoc n ts t (omega (arith, le))

-- with k of the threads before a function
abbrev cut : PlainFunction → List PlainFunction → List PlainThread → ℕ → List Body
cut f fs ts k = map thread_body (take k ts) ++ function_body f ∷ in_order fs (drop k ts)

pub thread_last : (fs : List PlainFunction) (ts : List PlainThread) (t : PlainThread) → FunctionsBefore (suc t.span.from) fs → in_order fs (ts ++ t ∷ []) ≡ in_order fs ts ++ thread_body t ∷ []
thread_last [] ts t h = map_snoc ts t
thread_last (f ∷ fs) ts t h =
    let k = before f.span.from ts in
    ap (cut f fs (ts ++ t ∷ [])) (before_snoc f.span.from ts t (omega (arith, h.0)))
    ∙ ap (λ l. map thread_body l ++ function_body f ∷ in_order fs (drop k (ts ++ t ∷ []))) (take_snoc k ts t (before_few f.span.from ts))
    ∙ ap (λ l. map thread_body (take k ts) ++ function_body f ∷ in_order fs l) (drop_snoc k ts t (before_few f.span.from ts))
    ∙ ap (λ l. map thread_body (take k ts) ++ function_body f ∷ l) (thread_last fs (drop k ts) t h.1)
    ∙ sym (append_assoc_bodies (map thread_body (take k ts)) (function_body f ∷ in_order fs (drop k ts)) (thread_body t ∷ []))

-- all threads stand before a function behind them
before_all : (from : ℕ) (ts : List PlainThread) → ThreadsBefore from ts → before from ts ≡ length ts
before_all from [] h = refl
before_all from (t ∷ ts) h =
    let yes : nat_lt t.span.from from ≡ true = grind (arith, nat_tests, h.0) in
    ap (λ (y : Bool). if y then suc (before from ts) else 0) yes ∙ ap suc (before_all from ts h.1)

take_all : (ts : List PlainThread) → take (length ts) ts ≡ ts
take_all [] = refl
take_all (t ∷ ts) = ap (λ l. t ∷ l) (take_all ts)

drop_all : (ts : List PlainThread) → drop (length ts) ts ≡ []
drop_all [] = refl
drop_all (t ∷ ts) = drop_all ts

pub function_last : (fs : List PlainFunction) (ts : List PlainThread) (f : PlainFunction) → ThreadsBefore f.span.from ts → in_order (fs ++ f ∷ []) ts ≡ in_order fs ts ++ function_body f ∷ []
function_last [] ts f h =
    ap (cut f [] ts) (before_all f.span.from ts h)
    ∙ ap (λ l. map thread_body l ++ function_body f ∷ in_order [] (drop (length ts) ts)) (take_all ts)
    ∙ ap (λ (l : List PlainThread). map thread_body ts ++ function_body f ∷ map thread_body l) (drop_all ts)
function_last (g ∷ fs) ts f h =
    let k = before g.span.from ts in
    ap (λ l. map thread_body (take k ts) ++ function_body g ∷ l) (function_last fs (drop k ts) f (threads_drop k f.span.from ts h))
    ∙ sym (append_assoc_bodies (map thread_body (take k ts)) (function_body g ∷ in_order fs (drop k ts)) (function_body f ∷ []))

-- ---- bodies and validators in script order

-- all of them begin before this offset
abbrev BodiesBefore : ℕ → List Body → Type 0
BodiesBefore n [] = Unit {0}
BodiesBefore n (b ∷ bs) = (b.span.from < n) × BodiesBefore n bs

abbrev ValidatorsBefore : ℕ → List Validator → Type 0
ValidatorsBefore n [] = Unit {0}
ValidatorsBefore n (v ∷ vs) = (v.span.from < n) × ValidatorsBefore n vs

validators_wider : (m n : ℕ) (vs : List Validator) → m ≤ n → ValidatorsBefore m vs → ValidatorsBefore n vs
validators_wider m n [] le h = tt
validators_wider m n (v ∷ vs) le h = (omega (arith, le, h.0), validators_wider m n vs le h.1)

validators_snoc : (n : ℕ) (vs : List Validator) (v : Validator) → ValidatorsBefore n vs → v.span.from < n → ValidatorsBefore n (vs ++ v ∷ [])
validators_snoc n [] v h lt = (lt, tt)
validators_snoc n (w ∷ vs) v h lt = (h.0, validators_snoc n vs v h.1 lt)

validators_drop : (k n : ℕ) (vs : List Validator) → ValidatorsBefore n vs → ValidatorsBefore n (drop k vs)
validators_drop zero n vs h = h
validators_drop (suc k) n [] h = tt
validators_drop (suc k) n (v ∷ vs) h = validators_drop k n vs h.1

bodies_append : (n : ℕ) (xs bs : List Body) → BodiesBefore n xs → BodiesBefore n bs → BodiesBefore n (xs ++ bs)
bodies_append n [] bs g h = h
bodies_append n (x ∷ xs) bs g h = (g.0, bodies_append n xs bs g.1 h)

threads_take : (k n : ℕ) (ts : List PlainThread) → ThreadsBefore n ts → BodiesBefore n (map thread_body (take k ts))
threads_take zero n ts h = tt
threads_take (suc k) n [] h = tt
threads_take (suc k) n (t ∷ ts) h = (h.0, threads_take k n ts h.1)

threads_all : (n : ℕ) (ts : List PlainThread) → ThreadsBefore n ts → BodiesBefore n (map thread_body ts)
threads_all n [] h = tt
threads_all n (t ∷ ts) h = (h.0, threads_all n ts h.1)

order_before : (n : ℕ) (fs : List PlainFunction) (ts : List PlainThread) → FunctionsBefore n fs → ThreadsBefore n ts → BodiesBefore n (in_order fs ts)
order_before n [] ts g h = threads_all n ts h
order_before n (f ∷ fs) ts g h =
    let k = before f.span.from ts in
    bodies_append n (map thread_body (take k ts)) (function_body f ∷ in_order fs (drop k ts)) (threads_take k n ts h) (g.0, order_before n fs (drop k ts) g.1 (threads_drop k n ts h))

abbrev of_all : List Validator → List Checkable
of_all vs = map of_validator vs

append_assoc_each : (xs ys zs : List Checkable) → (xs ++ ys) ++ zs ≡ xs ++ (ys ++ zs)
append_assoc_each [] ys zs = refl
append_assoc_each (x ∷ xs) ys zs = ap (λ l. x ∷ l) (append_assoc_each xs ys zs)

all_snoc : (vs : List Validator) (v : Validator) → of_all (vs ++ v ∷ []) ≡ of_all vs ++ of_validator v ∷ []
all_snoc [] v = refl
all_snoc (w ∷ vs) v = ap (λ l. of_validator w ∷ l) (all_snoc vs v)

-- a validator behind a body adds none to those that stand before it
earlier_snoc : (from : ℕ) (vs : List Validator) (v : Validator) → from ≤ v.span.from → earlier from (vs ++ v ∷ []) ≡ earlier from vs
earlier_snoc from [] v le =
    let no : nat_lt v.span.from from ≡ false = grind (arith, nat_tests, le) in
    ap (λ (y : Bool). if y then suc 0 else 0) no
earlier_snoc from (w ∷ vs) v le = ap (λ (n : ℕ). if nat_lt w.span.from from then suc n else 0) (earlier_snoc from vs v le)

earlier_few : (from : ℕ) (vs : List Validator) → earlier from vs ≤ length vs
earlier_few from [] = omega arith
earlier_few from (v ∷ vs) = by (earlier_few from vs) (nat_lt v.span.from from)
  where
    by : earlier from vs ≤ length vs → (y : Bool) → (if y then suc (earlier from vs) else 0) ≤ suc (length vs)
    by le true = omega (arith, le)
    by le false = omega arith

earlier_all : (from : ℕ) (vs : List Validator) → ValidatorsBefore from vs → earlier from vs ≡ length vs
earlier_all from [] h = refl
earlier_all from (v ∷ vs) h =
    let yes : nat_lt v.span.from from ≡ true = grind (arith, nat_tests, h.0) in
    ap (λ (y : Bool). if y then suc (earlier from vs) else 0) yes ∙ ap suc (earlier_all from vs h.1)

take_more : (n : ℕ) (vs : List Validator) (v : Validator) → n ≤ length vs → take n (vs ++ v ∷ []) ≡ take n vs
take_more zero vs v le = refl
take_more (suc n) [] v le = absurd (omega (arith, le))
take_more (suc n) (w ∷ vs) v le = ap (λ l. w ∷ l) (take_more n vs v (omega (arith, le)))

drop_more : (n : ℕ) (vs : List Validator) (v : Validator) → n ≤ length vs → drop n (vs ++ v ∷ []) ≡ drop n vs ++ v ∷ []
drop_more zero vs v le = refl
drop_more (suc n) [] v le = absurd (omega (arith, le))
drop_more (suc n) (w ∷ vs) v le = drop_more n vs v (omega (arith, le))

take_whole : (vs : List Validator) → take (length vs) vs ≡ vs
take_whole [] = refl
take_whole (v ∷ vs) = ap (λ l. v ∷ l) (take_whole vs)

drop_whole : (vs : List Validator) → drop (length vs) vs ≡ []
drop_whole [] = refl
drop_whole (v ∷ vs) = drop_whole vs

-- with k of the validators before a body
abbrev split : Body → List Body → List Validator → ℕ → List Checkable
split b bs vs k = of_all (take k vs) ++ of_body b ∷ together bs (drop k vs)

validator_last : (bs : List Body) (vs : List Validator) (v : Validator) → BodiesBefore (suc v.span.from) bs → together bs (vs ++ v ∷ []) ≡ together bs vs ++ of_validator v ∷ []
validator_last [] vs v h = all_snoc vs v
validator_last (b ∷ bs) vs v h =
    let k = earlier b.span.from vs in
    ap (split b bs (vs ++ v ∷ [])) (earlier_snoc b.span.from vs v (omega (arith, h.0)))
    ∙ ap (λ l. of_all l ++ of_body b ∷ together bs (drop k (vs ++ v ∷ []))) (take_more k vs v (earlier_few b.span.from vs))
    ∙ ap (λ l. of_all (take k vs) ++ of_body b ∷ together bs l) (drop_more k vs v (earlier_few b.span.from vs))
    ∙ ap (λ l. of_all (take k vs) ++ of_body b ∷ l) (validator_last bs (drop k vs) v h.1)
    ∙ sym (append_assoc_each (of_all (take k vs)) (of_body b ∷ together bs (drop k vs)) (of_validator v ∷ []))

body_last : (bs : List Body) (vs : List Validator) (b : Body) → ValidatorsBefore b.span.from vs → together (bs ++ b ∷ []) vs ≡ together bs vs ++ of_body b ∷ []
body_last [] vs b h =
    ap (split b [] vs) (earlier_all b.span.from vs h)
    ∙ ap (λ l. of_all l ++ of_body b ∷ together [] (drop (length vs) vs)) (take_whole vs)
    ∙ ap (λ (l : List Validator). of_all vs ++ of_body b ∷ of_all l) (drop_whole vs)
body_last (c ∷ bs) vs b h =
    let k = earlier c.span.from vs in
    ap (λ l. of_all (take k vs) ++ of_body c ∷ l) (body_last bs (drop k vs) b (validators_drop k b.span.from vs h))
    ∙ sym (append_assoc_each (of_all (take k vs)) (of_body c ∷ together bs (drop k vs)) (of_body b ∷ []))

body_snoc : (lo mid from hi : ℕ) (cs : List Checkable) (b : Body) → EachLies lo mid cs → mid ≤ from → Spreads from hi b.tree → EachLies lo hi (cs ++ of_body b ∷ [])
body_snoc lo mid from hi [] b h le k = (hi, spreads_wider lo from hi hi b.tree (omega (arith, h, le)) (omega arith) k, omega arith)
body_snoc lo mid from hi (of_body c ∷ cs) b h le k = (h.0, h.1, body_snoc h.0 mid from hi cs b h.2 le k)
body_snoc lo mid from hi (of_validator v ∷ cs) b h le k = (h.0, body_snoc v.span.from mid from hi cs b h.1 le k)

validator_snoc : (lo mid hi : ℕ) (cs : List Checkable) (v : Validator) → EachLies lo mid cs → mid ≤ v.span.from → v.span.from ≤ hi → EachLies lo hi (cs ++ of_validator v ∷ [])
validator_snoc lo mid hi [] v h le ge = (omega (arith, h, le), ge)
validator_snoc lo mid hi (of_body c ∷ cs) v h le ge = (h.0, h.1, validator_snoc h.0 mid hi cs v h.2 le ge)
validator_snoc lo mid hi (of_validator w ∷ cs) v h le ge = (h.0, validator_snoc w.span.from mid hi cs v h.1 le ge)

each_wider : (lo mid hi : ℕ) (cs : List Checkable) → EachLies lo mid cs → mid ≤ hi → EachLies lo hi cs
each_wider lo mid hi [] h le = omega (arith, h, le)
each_wider lo mid hi (of_body b ∷ cs) h le = (h.0, h.1, each_wider h.0 mid hi cs h.2 le)
each_wider lo mid hi (of_validator v ∷ cs) h le = (h.0, each_wider v.span.from mid hi cs h.1 le)

validators_behind : (ds : List CellDefinition) (ats : List Span) (d : CellDefinition) (at : Span) → length ats ≡ length ds → validators_in (ds ++ d ∷ []) (ats ++ at ∷ []) ≡ validators_in ds ats ++ record { callee = d.validator; span = at } ∷ []
validators_behind [] [] d at e = refl
validators_behind [] (a ∷ ats) d at e = absurd (omega (arith, e))
validators_behind (c ∷ ds) [] d at e = absurd (omega (arith, e))
validators_behind (c ∷ ds) (a ∷ ats) d at e = ap (λ l. record { callee = c.validator; span = a } ∷ l) (validators_behind ds ats d at (omega (arith, e)))

-- ---- a script

abbrev validators_of : State → List Validator
validators_of s = validators_in s.cells s.validator_spans

-- bodies, in what is defined up to this offset
pub record Upto (n : ℕ) (s : State) : Type 0 where
  pub functions : FunctionsBefore n s.functions
  pub threads : ThreadsBefore n s.threads

-- and with them the validators
record Whole (n : ℕ) (s : State) : Type 0 where
  upto : Upto n s
  lies : EachLies 0 n (together (in_order s.functions s.threads) (validators_of s))
  validators : ValidatorsBefore n (validators_of s)
  placed : length s.validator_spans ≡ length s.cells

pub grown_upto : (n : ℕ) (at : Span) (s t : State) → n ≤ at.from → at.from < at.to → Upto n s → Grown at s t → Upto at.to t
grown_upto n at s t le lt u (inl g) = record {
  functions = subst (FunctionsBefore at.to) (sym g.functions) (functions_wider n at.to s.functions (omega (arith, le, lt)) u.functions);
  threads = subst (ThreadsBefore at.to) (sym g.threads) (threads_wider n at.to s.threads (omega (arith, le, lt)) u.threads);
}
grown_upto n at s t le lt u (inr (inl g)) =
    let begins : g.one.span.from ≡ at.from = ap (λ (p : Span). p.from) g.span in
    record {
      functions = subst (FunctionsBefore at.to) (sym g.functions) (functions_snoc at.to s.functions g.one (functions_wider n at.to s.functions (omega (arith, le, lt)) u.functions) (omega (arith, lt, begins)));
      threads = subst (ThreadsBefore at.to) (sym g.threads) (threads_wider n at.to s.threads (omega (arith, le, lt)) u.threads);
    }
grown_upto n at s t le lt u (inr (inr g)) =
    let begins : g.one.span.from ≡ at.from = ap (λ (p : Span). p.from) g.span in
    record {
      functions = subst (FunctionsBefore at.to) (sym g.functions) (functions_wider n at.to s.functions (omega (arith, le, lt)) u.functions);
      threads = subst (ThreadsBefore at.to) (sym g.threads) (threads_snoc at.to s.threads g.one (threads_wider n at.to s.threads (omega (arith, le, lt)) u.threads) (omega (arith, lt, begins)));
    }

-- the bodies of a state that has one more, or none
order_grown : (n : ℕ) (at : Span) (s t : State) → n ≤ at.from → at.from < at.to → (vs : List Validator) → Upto n s → ValidatorsBefore n vs → EachLies 0 n (together (in_order s.functions s.threads) vs) → Grown at s t
    → EachLies 0 at.to (together (in_order t.functions t.threads) vs)
order_grown n at s t le lt vs u before lies (inl g) =
    each_wider 0 n at.to (together (in_order t.functions t.threads) vs)
    (subst (λ (fs : List PlainFunction). EachLies 0 n (together (in_order fs t.threads) vs)) (sym g.functions) (subst (λ (ts : List PlainThread). EachLies 0 n (together (in_order s.functions ts) vs)) (sym g.threads) lies))
    (omega (arith, le, lt))
order_grown n at s t le lt vs u before lies (inr (inl g)) =
    let begins : g.one.span.from ≡ at.from = ap (λ (p : Span). p.from) g.span in
    let b = function_body g.one in
    subst (λ (fs : List PlainFunction). EachLies 0 at.to (together (in_order fs t.threads) vs)) (sym g.functions)
    (subst (λ (ts : List PlainThread). EachLies 0 at.to (together (in_order (s.functions ++ g.one ∷ []) ts) vs)) (sym g.threads)
    (subst (λ l. EachLies 0 at.to (together l vs)) (sym (function_last s.functions s.threads g.one (threads_wider n g.one.span.from s.threads (omega (arith, le, begins)) u.threads)))
    (subst (EachLies 0 at.to) (sym (body_last (in_order s.functions s.threads) vs b (validators_wider n g.one.span.from vs (omega (arith, le, begins)) before)))
    (body_snoc 0 n at.from at.to (together (in_order s.functions s.threads) vs) b lies le g.spreads))))
order_grown n at s t le lt vs u before lies (inr (inr g)) =
    let begins : g.one.span.from ≡ at.from = ap (λ (p : Span). p.from) g.span in
    let b = thread_body g.one in
    subst (λ (fs : List PlainFunction). EachLies 0 at.to (together (in_order fs t.threads) vs)) (sym g.functions)
    (subst (λ (ts : List PlainThread). EachLies 0 at.to (together (in_order s.functions ts) vs)) (sym g.threads)
    (subst (λ l. EachLies 0 at.to (together l vs)) (sym (thread_last s.functions s.threads g.one (functions_wider n (suc g.one.span.from) s.functions (omega (arith, le, begins)) u.functions)))
    (subst (EachLies 0 at.to) (sym (body_last (in_order s.functions s.threads) vs b (validators_wider n g.one.span.from vs (omega (arith, le, begins)) before)))
    (body_snoc 0 n at.from at.to (together (in_order s.functions s.threads) vs) b lies le g.spreads))))

joint_whole : (n : ℕ) (at : Span) (s t : State) → n ≤ at.from → at.from < at.to → Whole n s → Joint at s t → Whole at.to t
joint_whole n at s t le lt w (inl g) =
    let same : validators_of t ≡ validators_of s = (λ i. validators_in (g.1.cells i) (g.1.spans i)) in
    record {
      upto = grown_upto n at s t le lt w.upto g.0;
      lies = subst (λ vs. EachLies 0 at.to (together (in_order t.functions t.threads) vs)) (sym same) (order_grown n at s t le lt (validators_of s) w.upto w.validators w.lies g.0);
      validators = subst (ValidatorsBefore at.to) (sym same) (validators_wider n at.to (validators_of s) (omega (arith, le, lt)) w.validators);
      placed = ap (λ (l : List Span). length l) g.1.spans ∙ w.placed ∙ ap (λ (l : List CellDefinition). length l) (sym g.1.cells);
    }
joint_whole n at s t le lt w (inr g) =
    let v : Validator = record { callee = g.1.cell.validator; span = g.1.span } in
    let more : validators_of t ≡ validators_of s ++ v ∷ [] = (λ i. validators_in (g.1.cells i) (g.1.spans i)) ∙ validators_behind s.cells s.validator_spans g.1.cell g.1.span w.placed in
    let bodies = in_order s.functions s.threads in
    let lies = validator_snoc 0 n at.to (together bodies (validators_of s)) v w.lies (omega (arith, le, g.1.begins)) (omega (arith, g.1.ends)) in
    let early = order_before (suc g.1.span.from) s.functions s.threads (functions_wider n (suc g.1.span.from) s.functions (omega (arith, le, g.1.begins)) w.upto.functions) (threads_wider n (suc g.1.span.from) s.threads (omega (arith, le, g.1.begins)) w.upto.threads) in
    record {
      upto = grown_upto n at s t le lt w.upto (inl g.0);
      lies = subst (λ vs. EachLies 0 at.to (together (in_order t.functions t.threads) vs)) (sym more)
          (subst (λ (fs : List PlainFunction). EachLies 0 at.to (together (in_order fs t.threads) (validators_of s ++ v ∷ []))) (sym g.0.functions)
          (subst (λ (ts : List PlainThread). EachLies 0 at.to (together (in_order s.functions ts) (validators_of s ++ v ∷ []))) (sym g.0.threads)
          (subst (EachLies 0 at.to) (sym (validator_last bodies (validators_of s) v early)) lies)));
      validators = subst (ValidatorsBefore at.to) (sym more) (validators_snoc at.to (validators_of s) v (validators_wider n at.to (validators_of s) (omega (arith, le, lt)) w.validators) g.1.ends);
      placed =
          ap (λ (l : List Span). length l) g.1.spans ∙ length_snoc s.validator_spans g.1.span ∙ ap suc w.placed ∙ sym (length_snoc s.cells g.1.cell) ∙ ap (λ (l : List CellDefinition). length l) (sym g.1.cells);
    }
  where
    length_snoc : {A : Type 0} (xs : List A) (x : A) → length (xs ++ x ∷ []) ≡ suc (length xs)
    length_snoc [] x = refl
    length_snoc (y ∷ xs) x = ap suc (length_snoc xs x)

steps_whole : (n hi : ℕ) (s : State) (fs : List Form) → NestIn n hi (trees_of fs) → Whole n s → Each (Whole hi) (steps s fs)
steps_whole n hi s [] h w = record {
  upto = record { functions = functions_wider n hi s.functions h w.upto.functions; threads = threads_wider n hi s.threads h w.upto.threads };
  lies = each_wider 0 n hi (together (in_order s.functions s.threads) (validators_of s)) w.lies h;
  validators = validators_wider n hi (validators_of s) h w.validators;
  placed = w.placed;
}
steps_whole n hi s (form ∷ forms) h w = by (λ t k. steps_whole (place form).to hi t forms h.2 k) (step s form) (step_joint s form h.1)
  where
    by : ((t : State) → Whole (place form).to t → Each (Whole hi) (steps t forms)) → (a : Answer State) → Each (Joint (place form) s) a → Each (Whole hi) (a >>= λ t. steps t forms)
    by rest (Ok t) g = rest t (joint_whole n (place form) s t h.0 (nests_on form h.1) w g)
    by rest (Err e) g = tt

pub behind_nest : (n hi : ℕ) (fs : List Form) → NestIn n hi (trees_of fs) → (m : ℕ) × NestIn m hi (trees_of (behind_namespace fs))
behind_nest n hi [] h = (n, h)
behind_nest n hi (form ∷ forms) h = by (is_namespace form)
  where
    by : (y : Bool) → (m : ℕ) × NestIn m hi (trees_of (if y then forms else form ∷ forms))
    by true = ((place form).to, h.2)
    by false = (n, h)

-- what is checked of a program, in order
abbrev pub checked_of : PlainProgram → List Checkable
checked_of p = together (in_order p.functions p.threads) (validators_in p.cells p.validator_spans)

program_lies : (hi : ℕ) (p : PlainProgram) (a : Answer State) → Each (Whole hi) a → (a >>= λ s. Ok (program s)) ≡ Ok p → EachLies 0 hi (checked_of p)
program_lies hi p (Ok s) w is = subst (λ (q : PlainProgram). EachLies 0 hi (checked_of q)) (ap (ok_or p) is) w.lies
  where
    ok_or : PlainProgram → Answer PlainProgram → PlainProgram
    ok_or d (Ok q) = q
    ok_or d (Err e) = d
program_lies hi p (Err e) w is = absurd (subst is_err is tt)
  where
    is_err : Answer PlainProgram → Type 0
    is_err (Ok q) = ⊥
    is_err (Err e) = Unit {0}

pub each_lies : (bytes : List ℕ) (forms : List Form) (p : PlainProgram) → Reads bytes forms → Resolves forms p → EachLies 0 (length bytes) (checked_of p)
each_lies bytes forms p reads resolves =
    let h = behind_nest 0 (length bytes) forms (forms_nest bytes forms reads) in
    program_lies (length bytes) p (steps nothing (behind_namespace forms))
    (steps_whole h.0 (length bytes) nothing (behind_namespace forms) h.1 (record { upto = record { functions = tt; threads = tt }; lies = omega arith; validators = tt; placed = refl }))
    resolves
