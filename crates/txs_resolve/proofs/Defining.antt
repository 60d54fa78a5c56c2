-- What a script has defined is what its forms define, one after the other.
use Rattle.std.proofs.Common.{◌≡◌, ◌≢◌, ℕ, Bool, true, false, ◌&&◌, nat_lt, bytes_eq, if◌then◌else◌, List, [], ◌∷◌, ◌++◌, length, map, append-nil, append_assoc, Option, Some, None, Ok, Err, refl, sym, ap, ◌∙◌, subst}
use Rattle.std.proofs.lemmas.Bool.Decides.{not_from_Decides}
use Rattle.std.proofs.lemmas.List.{map-append}
use Rattle.std.proofs.lemmas.Slice.Eq.{bytes_eq-Decides}
use Rattle.txs_value_data.specs.Limits.{most_depth}
use Rattle.txs_value_data.specs.Operations.{op_name, operations}
use Rattle.txs_value_data.specs.declared.fault.Span.{Span}
use Rattle.txs_value_data.specs.declared.op.Callee.{Callee}
use Rattle.txs_value_data.specs.declared.value.Value.{Value}
use Rattle.txs_reader.specs.declared.form.Bracket.TheVariants.{Round, Square}
use Rattle.txs_reader.specs.Tree.{PlainForm as Form, PlainForms as Forms, leaf, group, first}
use Rattle.txs_reader.specs.Tree.{none as no_forms}
use Rattle.txs_tree_meaning.specs.Tree.{Tree, PlainFunction, PlainThread, PlainProgram}
use Rattle.txs_resolve.specs.declared.definition.CellSort.{CellSort}
use Rattle.txs_resolve_expand.specs.declared.error.ResolveErrorKind.TheVariants.{Redefined, BadForm, TooMany}
use Rattle.txs_resolve_expand.specs.declared.names.FormName.{FormName}
use Rattle.txs_resolve_expand.specs.declared.names.FormName.TheVariants as kind
use Rattle.txs_resolve_expand.specs.declared.scope.Definition.{Definition}
use Rattle.txs_value_data.specs.Places.{with_name}
use Rattle.txs_resolve_expand.specs.Scope.{Entry, definition_of, is_none, may_bind}
use Rattle.txs_resolve_expand.specs.Answers.{◌>>=◌, refuse}
use Rattle.txs_resolve.specs.Defined.{Definitions, no_definitions, unvalidated, opening_cell, cell_as, span_as, def_of, def_as, defn_as, listed_as, defines, and_then, define_all, IsNew, AllDiffer}
use Rattle.txs_resolve_expand.specs.Expansions.{body, form_at}
use Rattle.txs_resolve_expand.specs.Expressions.{Answer, named}
use Rattle.txs_resolve.specs.Literals.{literal}
use Rattle.txs_resolve_expand.specs.Namespace.{behind_namespace}
use Rattle.txs_resolve.specs.Names.{State, nothing, program, new_name, Defining, defining_of, new_cell, validator_named, validator_place, with_definition, defined_as_one, NamedForm, named_form, defined_at, parameters, Written, written, with_function, function, with_thread, future, top_level, step, steps, named_script, Resolves}
use Rattle.txs_resolve.proofs.Scoping.{Every, then_every, one_every, if_every}

-- ---- names

abbrev names_in : List Entry → List (List ℕ)
names_in es = map (λ (e : Entry). e.name) es

abbrev Found : Option Definition → Type 0
Found None = ⊥
Found (Some d) = Unit {0}

-- a name that isn't defined is none of these
undefined : (name : List ℕ) (es : List Entry) → definition_of name es ≡ None → IsNew name (names_in es)
undefined name [] h = tt
undefined name (e ∷ es) h = by (λ g. undefined name es g) (bytes_eq e.name name) refl h where
  by : (definition_of name es ≡ None → IsNew name (names_in es)) → (b : Bool) → bytes_eq e.name name ≡ b → (if b then Some e.what else definition_of name es) ≡ None → IsNew name (names_in (e ∷ es))
  by rest true is g = absurd (subst Found g tt)
  by rest false is g = (not_from_Decides (bytes_eq e.name name) (bytes_eq-Decides e.name name) is, rest g)

-- one more, which is none of those before it
differ_more : (ns : List (List ℕ)) (name : List ℕ) → AllDiffer ns → IsNew name ns → AllDiffer (ns ++ name ∷ [])
differ_more [] name h new = (tt, tt)
differ_more (n ∷ ns) name h new = (new_more ns h.0 new.0, differ_more ns name h.1 new.1) where
  new_more : (ms : List (List ℕ)) → IsNew n ms → n ≢ name → IsNew n (ms ++ name ∷ [])
  new_more [] h differs = ((λ same. differs (sym same)), tt)
  new_more (m ∷ ms) h differs = (h.0, new_more ms h.1 differs)

-- ---- states

-- one state has what the other has, and these definitions behind it
pub record Adds (s : State) (d : Definitions) (t : State) : Type 0 where
  pub cells : map unvalidated t.cells ≡ map unvalidated s.cells ++ d.cells
  pub spans : t.validator_spans ≡ s.validator_spans ++ d.validator_spans
  pub names : names_in t.defined ≡ names_in s.defined ++ d.names
  pub functions : map (λ (f : PlainFunction). f.span) t.functions ≡ map (λ (f : PlainFunction). f.span) s.functions ++ d.functions
  pub threads : map (λ (x : PlainThread). x.span) t.threads ≡ map (λ (x : PlainThread). x.span) s.threads ++ d.threads
  pub differ : AllDiffer (names_in s.defined) → AllDiffer (names_in t.defined)

abbrev IsTrue : Bool → Type 0
IsTrue true = Unit {0}
IsTrue false = ⊥

abbrev Tells : State → List ℕ → List ℕ → Type 0
Tells s name n = (n ≡ name) × IsNew name (names_in s.defined)

new_every : (s : State) (name : List ℕ) (at : Span) → Every (Tells s name) (new_name s.defined name at)
new_every s name at =
    if_every (Tells s name) (may_bind name) (if is_none (with_name op_name name operations) && is_none (definition_of name s.defined) then Ok name else refuse Redefined at) (record { kind = BadForm; at = at })
    (λ ok. if_every (Tells s name) (is_none (with_name op_name name operations) && is_none (definition_of name s.defined)) (Ok name) (record { kind = Redefined; at = at })
    (λ yes. (refl, undefined name s.defined (none_is (definition_of name s.defined) (second (is_none (with_name op_name name operations)) (is_none (definition_of name s.defined)) yes))))) where
      second : (a b : Bool) → (a && b) ≡ true → b ≡ true
      second true b h = h
      second false b h = absurd (subst IsTrue (sym h) tt)

      none_is : (o : Option Definition) → is_none o ≡ true → o ≡ None
      none_is None h = refl
      none_is (Some d) h = absurd (subst IsTrue (sym h) tt)

nil : {A : Type 0} (xs : List A) → xs ≡ xs ++ []
nil xs = sym (append-nil xs)

more_names : (es : List Entry) (e : Entry) → names_in (es ++ e ∷ []) ≡ names_in es ++ e.name ∷ []
more_names es e = map-append (λ (x : Entry). x.name) es (e ∷ [])

-- one more definition
definition_adds : (sort : Option CellSort) (s : State) (name : List ℕ) (value : Form) (span : Span) (o : Option Form) (callee : Option Callee) (v : Value) → literal most_depth value ≡ Ok v → IsNew name (names_in s.defined)
    → Adds s (record { cells = cell_as name sort value; validator_spans = span_as span sort o; names = name ∷ []; functions = []; threads = [] }) (with_definition sort s name v (record { callee = callee; at = validator_place span o }))
definition_adds None s name value span o callee v is new = record {
  cells = nil (map unvalidated s.cells);
  spans = nil s.validator_spans;
  names = more_names s.defined _;
  functions = nil (map (λ (f : PlainFunction). f.span) s.functions);
  threads = nil (map (λ (x : PlainThread). x.span) s.threads);
  differ = λ h. subst AllDiffer (sym (more_names s.defined _)) (differ_more (names_in s.defined) name h new);
}
definition_adds (Some sort) s name value span o callee v is new = record {
  cells = map-append unvalidated s.cells (new_cell name sort v callee ∷ []) ∙ ap (λ (x : Answer Value). map unvalidated s.cells ++ opening_cell name sort x) (sym is);
  spans = refl;
  names = more_names s.defined _;
  functions = nil (map (λ (f : PlainFunction). f.span) s.functions);
  threads = nil (map (λ (x : PlainThread). x.span) s.threads);
  differ = λ h. subst AllDiffer (sym (more_names s.defined _)) (differ_more (names_in s.defined) name h new);
}

-- an answer, and that it is this one
itself : {A : Type 0} (a : Answer A) → Every (λ x. a ≡ Ok x) a
itself (Ok x) = refl
itself (Err e) = tt

abbrev Anything : {A : Type 0} → A → Type 0
Anything a = Unit {0}

anything : {A : Type 0} (a : Answer A) → Every Anything a
anything (Ok x) = tt
anything (Err e) = tt

defined_adds : (s : State) (name : List ℕ) (at span : Span) (o : Option Defining) → Every (Adds s (def_of name o span)) (defined_as_one s name at span o)
defined_adds s name at span None = tt
defined_adds s name at span (Some d) =
    let a = literal most_depth d.value in
    let f = validator_named s.defined span d.validator in
    let n = new_name s.defined name at in
    let Q = Adds s (def_of name (Some d) span) in
    let made : Value → Option Callee → List ℕ → State = λ v callee m. with_definition d.sort s m v (record { callee = callee; at = validator_place span d.validator }) in
    if_every Q (nat_lt s.defs 1000) (a >>= λ v. f >>= λ callee. n >>= λ m. Ok (made v callee m)) (record { kind = TooMany; at = span })
    (λ few. then_every (λ v. a ≡ Ok v) Q a (λ v. f >>= λ callee. n >>= λ m. Ok (made v callee m)) (itself a)
    (λ v is. then_every Anything Q f (λ callee. n >>= λ m. Ok (made v callee m)) (anything f)
    (λ callee any. one_every (Tells s name) Q n (λ m. made v callee m) (new_every s name at)
    (λ m new. subst (λ k. Q (made v callee k)) (sym new.0) (definition_adds d.sort s name d.value span d.validator callee v is new.1)))))

def_adds : (s : State) (span : Span) (o : Option NamedForm) → Every (Adds s (def_as o span)) (defined_at s span o)
def_adds s span None = tt
def_adds s span (Some f) = defined_adds s f.name f.at span (defining_of f.form)

-- one more function
with_function_adds : (s : State) (name : List ℕ) (n : ℕ) (t : Tree) (span : Span) → IsNew name (names_in s.defined)
    → Adds s (record { cells = []; validator_spans = []; names = name ∷ []; functions = span ∷ []; threads = [] }) (with_function s name n t span)
with_function_adds s name n t span new = record {
  cells = nil (map unvalidated s.cells);
  spans = nil s.validator_spans;
  names = more_names s.defined _;
  functions = map-append (λ (f : PlainFunction). f.span) s.functions _;
  threads = nil (map (λ (x : PlainThread). x.span) s.threads);
  differ = λ h. subst AllDiffer (sym (more_names s.defined _)) (differ_more (names_in s.defined) name h new);
}

function_adds : (s : State) (span : Span) (o : Option Written) → Every (Adds s (defn_as o span)) (function s span o)
function_adds s span None = tt
function_adds s span (Some w) =
    let Q = Adds s (defn_as (Some w) span) in
    let inner : List ℕ → List (List ℕ) → Answer Tree = λ name locals. named 1000 (record { locals = locals; defined = s.defined; current = Some name }) true (body w.body span) in
    let rest : List ℕ → Answer State = λ name. parameters [] w.parameters >>= λ locals. inner name locals >>= λ node. Ok (with_function s name (length locals) node span) in
    if_every Q (nat_lt (length s.functions) 1000) (new_name s.defined w.name w.at >>= rest) (record { kind = TooMany; at = span })
    (λ few. then_every (Tells s w.name) Q (new_name s.defined w.name w.at) rest (new_every s w.name w.at)
    (λ name new. then_every Anything Q (parameters [] w.parameters) (λ locals. inner name locals >>= λ node. Ok (with_function s name (length locals) node span)) (anything (parameters [] w.parameters))
    (λ locals l. one_every Anything Q (inner name locals) (λ node. with_function s name (length locals) node span) (anything (inner name locals))
    (λ node k. subst (λ x. Q (with_function s x (length locals) node span)) (sym new.0) (with_function_adds s w.name (length locals) node span new.1)))))

-- one more thread
future_adds : (s : State) (span : Span) (forms : Forms) → Every (Adds s (record { cells = []; validator_spans = []; names = []; functions = []; threads = span ∷ [] })) (future s span forms)
future_adds s span forms =
    let Q = Adds s (record { cells = []; validator_spans = []; names = []; functions = []; threads = span ∷ [] }) in
    let inner : Answer Tree = named 1000 (record { locals = []; defined = s.defined; current = None }) false (body forms span) in
    if_every Q (nat_lt (length s.threads) 64) (inner >>= λ node. Ok (with_thread s node span)) (record { kind = TooMany; at = span })
    (λ few. one_every Anything Q inner (λ node. with_thread s node span) (anything inner)
    (λ node k. record {
      cells = nil (map unvalidated s.cells);
      spans = nil s.validator_spans;
      names = nil (names_in s.defined);
      functions = nil (map (λ (f : PlainFunction). f.span) s.functions);
      threads = map-append (λ (x : PlainThread). x.span) s.threads _;
      differ = λ h. h;
    }))

list_adds : (o : Option FormName) (s : State) (span : Span) (parts : Forms) → Every (Adds s (listed_as o parts span)) (top_level o s span parts)
list_adds (Some kind.Def) s span parts = def_adds s span (named_form parts)
list_adds (Some kind.Defn) s span parts = function_adds s span (written parts)
list_adds (Some kind.Future) s span parts = future_adds s span parts
list_adds _ s span parts = tt

step_adds : (s : State) (form : Form) → Every (Adds s (defines form)) (step s form)
step_adds s (leaf x at) = tt
step_adds s (group Square forms at) = tt
step_adds s (group Round no_forms at) = tt
step_adds s (group Round (first head parts) at) = list_adds (form_at head) s at parts

-- ---- scripts

no_more : (s : State) → Adds s no_definitions s
no_more s = record {
  cells = nil (map unvalidated s.cells);
  spans = nil s.validator_spans;
  names = nil (names_in s.defined);
  functions = nil (map (λ (f : PlainFunction). f.span) s.functions);
  threads = nil (map (λ (x : PlainThread). x.span) s.threads);
  differ = λ h. h;
}

both : {A : Type 0} (a b c d e : List A) → b ≡ a ++ d → c ≡ b ++ e → c ≡ a ++ (d ++ e)
both a b c d e one two = two ∙ ap (λ l. l ++ e) one ∙ append_assoc a d e

adds_both : (s t u : State) (d e : Definitions) → Adds s d t → Adds t e u → Adds s (and_then d e) u
adds_both s t u d e one two = record {
  cells = both _ _ _ d.cells e.cells one.cells two.cells;
  spans = both s.validator_spans t.validator_spans u.validator_spans d.validator_spans e.validator_spans one.spans two.spans;
  names = both (names_in s.defined) (names_in t.defined) (names_in u.defined) d.names e.names one.names two.names;
  functions = both _ _ _ d.functions e.functions one.functions two.functions;
  threads = both _ _ _ d.threads e.threads one.threads two.threads;
  differ = λ h. two.differ (one.differ h);
}

every_more : {A : Type 0} (P Q : A → Type 0) (a : Answer A) → Every P a → ((x : A) → P x → Q x) → Every Q a
every_more P Q (Ok x) h go = go x h
every_more P Q (Err e) h go = tt

steps_add : (forms : List Form) (s : State) → Every (Adds s (define_all forms)) (steps s forms)
steps_add [] s = no_more s
steps_add (form ∷ forms) s =
    then_every (Adds s (defines form)) (Adds s (define_all (form ∷ forms))) (step s form) (λ t. steps t forms) (step_adds s form)
    (λ t one. every_more (Adds t (define_all forms)) (Adds s (define_all (form ∷ forms))) (steps t forms) (steps_add forms t) (λ u two. adds_both s t u (defines form) (define_all forms) one two))

abbrev OfForms : List Form → PlainProgram → Type 0
OfForms forms p =
    let d = define_all (behind_namespace forms) in
    (map unvalidated p.cells ≡ d.cells) × (p.validator_spans ≡ d.validator_spans) × (map (λ (f : PlainFunction). f.span) p.functions ≡ d.functions) × (map (λ (x : PlainThread). x.span) p.threads ≡ d.threads) × AllDiffer d.names

script_adds : (forms : List Form) → Every (OfForms forms) (named_script forms)
script_adds forms =
    one_every (Adds nothing (define_all (behind_namespace forms))) (OfForms forms) (steps nothing (behind_namespace forms)) program (steps_add (behind_namespace forms) nothing)
    (λ s h. (h.cells, h.spans, h.functions, h.threads, subst AllDiffer h.names (h.differ tt)))

resolved : (forms : List Form) (p : PlainProgram) → Resolves forms p → OfForms forms p
resolved forms p h = subst (Every (OfForms forms)) h (script_adds forms)

pub cells : (forms : List Form) (p : PlainProgram) → Resolves forms p → map unvalidated p.cells ≡ (define_all (behind_namespace forms)).cells
cells forms p h = (resolved forms p h).0

pub spans : (forms : List Form) (p : PlainProgram) → Resolves forms p → p.validator_spans ≡ (define_all (behind_namespace forms)).validator_spans
spans forms p h = (resolved forms p h).1

pub functions : (forms : List Form) (p : PlainProgram) → Resolves forms p → map (λ (f : PlainFunction). f.span) p.functions ≡ (define_all (behind_namespace forms)).functions
functions forms p h = (resolved forms p h).2

pub threads : (forms : List Form) (p : PlainProgram) → Resolves forms p → map (λ (x : PlainThread). x.span) p.threads ≡ (define_all (behind_namespace forms)).threads
threads forms p h = (resolved forms p h).3

pub once : (forms : List Form) (p : PlainProgram) → Resolves forms p → AllDiffer (define_all (behind_namespace forms)).names
once forms p h = (resolved forms p h).4
