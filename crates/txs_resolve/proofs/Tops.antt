-- Functions and threads, by what a script has defined before them.
use Rattle.std.proofs.Common.{◌≡◌, ◌<◌, ◌≤◌, ℕ, suc, Bool, true, false, nat_lt, cond, List, [], ◌∷◌, ◌++◌, length, map, Option, Some, None, Ok, refl, sym, ap, ◌∙◌, subst, arith}
use Rattle.std.proofs.lemmas.Bool.Decides.{nat_tests}
use Rattle.std.proofs.lemmas.List.{map-append}
use Rattle.txs_value_data.specs.declared.fault.Span.{Span}
use Rattle.txs_reader.specs.declared.form.Form.{Form}
use Rattle.txs_tree_meaning.specs.Tree.{Tree, PlainFunction, PlainThread}
use Rattle.txs_tree_meaning.specs.View.{tree_of, thread_of, threads_of, function_of, functions_of}
use Rattle.txs_tree_meaning.specs.declared.node.Node.{Node}
use Rattle.txs_tree_meaning.specs.declared.node.Thread.{Thread}
use Rattle.txs_tree_meaning.specs.declared.node.Function.{Function}
use Rattle.txs_tree_meaning.proofs.Callable.{length-functions_of}
use Rattle.txs_tree_meaning.specs.Known.{Known, known, known_of, levels}
use Rattle.txs_resolve.specs.Depths.{depths}
use Rattle.txs_resolve_expand.specs.declared.scope.Definition.TheVariants.{Function as AFunction}
use Rattle.txs_resolve_expand.specs.declared.error.ResolveErrorKind.TheVariants.{TooMany}
use Rattle.txs_resolve.specs.declared.script.Script.{Script}
use Rattle.txs_resolve_expand.specs.Expansions.{body}
use Rattle.txs_resolve_expand.specs.Expressions.{Answer, named}
use Rattle.txs_resolve.specs.Names.{State, with_thread, future, Written, new_name, parameters, with_function, function}
use Rattle.txs_resolve_expand.specs.Answers.{◌>>=◌, refuse}
use Rattle.txs_resolve_expand.specs.Scope.{Scope, Entry}
use Rattle.txs_resolve.specs.Scripts.{state_of, IsScript}
use Rattle.txs_resolve_expand.specs.Parts.{plain}
use Rattle.txs_resolve.proofs.LevelLists.{depths_levels}
use Rattle.txs_resolve.proofs.ScopedScripts.{known_more}
use Rattle.txs_resolve.proofs.Scoping.{Every, Placed, form_named}

is_more : (m n : ℕ) → m < n → nat_lt m n ≡ true
is_more m n h = grind (arith, nat_tests)

not_more : (m n : ℕ) → n ≤ m → nat_lt m n ≡ false
not_more m n h = grind (arith, nat_tests)

pub length-threads_of : (ts : List Thread) → length (threads_of ts) ≡ length ts
length-threads_of [] = refl
length-threads_of (t ∷ ts) = ap suc (length-threads_of ts)

threads_of-more : (ts : List Thread) (t : Thread) → threads_of (ts ++ t ∷ []) ≡ threads_of ts ++ thread_of t ∷ []
threads_of-more [] t = refl
threads_of-more (u ∷ ts) t = ap (λ l. thread_of u ∷ l) (threads_of-more ts t)

-- between two top-level forms the scope has definitions alone
pub at_rest : (s : Script) → IsScript s → s.scope ≡ record { locals = []; defined = s.scope.defined; current = None }
at_rest s h =
    ap (λ (l : List (List ℕ)). record { locals = l; defined = s.scope.defined; current = s.scope.current }) h.outside
    ∙ ap (λ (c : Option (List ℕ)). record { locals = []; defined = s.scope.defined; current = c }) h.idle

abbrev threaded : State → Span → Bool → Answer Tree → Answer State
threaded s span b a = cond b (a >>= λ node. Ok (with_thread s node span)) (refuse TooMany span)

abbrev body_in : Span → Bool → List Form → Scope → Answer Tree
body_in span wanted forms scope = named 1000 scope wanted (body (plain forms) span)

module _ (s : Script) (span : Span) (forms : List Form) (h : IsScript s) where
  pub future_full : 64 ≤ length s.threads.items → future (state_of s) span (plain forms) ≡ refuse TooMany span
  future_full full = ap (λ b. threaded (state_of s) span b (body_in span false forms (record { locals = []; defined = s.scope.defined; current = None }))) (not_more (length (threads_of s.threads.items)) 64 (omega (arith, full, length-threads_of s.threads.items)))

  pub future_as : length s.threads.items < 64 → (a : Answer Tree) → named 1000 s.scope false (body (plain forms) span) ≡ a → future (state_of s) span (plain forms) ≡ (a >>= λ node. Ok (with_thread (state_of s) node span))
  future_as few a e =
      ap (λ b. threaded (state_of s) span b (body_in span false forms (record { locals = []; defined = s.scope.defined; current = None }))) (is_more (length (threads_of s.threads.items)) 64 (omega (arith, few, length-threads_of s.threads.items)))
      ∙ ap (λ (x : Answer Tree). x >>= λ node. Ok (with_thread (state_of s) node span)) (ap (body_in span false forms) (sym (at_rest s h)) ∙ e)

pub new_thread : (s : Script) (scope : Scope) (items : List Thread) (node : Node) (span : Span) → scope ≡ s.scope → items ≡ s.threads.items ++ record { body = node; span = span } ∷ []
    → with_thread (state_of s) (tree_of node) span ≡ record { defined = scope.defined; cells = s.cells.items; validator_spans = s.validator_spans.items; functions = functions_of s.functions.items; threads = threads_of items; defs = s.defs }
new_thread s scope items node span kept pushed =
    let made : Scope → List PlainThread → State = λ (x : Scope) (ts : List PlainThread). record { defined = x.defined; cells = s.cells.items; validator_spans = s.validator_spans.items; functions = functions_of s.functions.items; threads = ts; defs = s.defs } in
    ap (made s.scope) (sym (ap threads_of pushed ∙ threads_of-more s.threads.items (record { body = node; span = span }))) ∙ ap (λ (x : Scope). made x (threads_of items)) (sym kept)

-- ---- functions

functions_of-more : (fs : List Function) (f : Function) → functions_of (fs ++ f ∷ []) ≡ functions_of fs ++ function_of f ∷ []
functions_of-more [] f = refl
functions_of-more (g ∷ fs) f = ap (λ l. function_of g ∷ l) (functions_of-more fs f)

-- what is known of the functions of a script
abbrev pub known_in : Script → List Known
known_in s = known (functions_of s.functions.items)

pub same_depths : (s : Script) (t : Tree) → IsScript s → depths s.levels.items t ≡ levels (known_in s) t
same_depths s t h = ap (λ ls. depths ls t) h.levels ∙ depths_levels (known_in s) t

pub few_levels : (s : Script) (ls : List ℕ) (t : Tree) → ls ≡ s.levels.items → IsScript s → levels (known_in s) t ≤ 1000 → depths ls t ≤ 1000
few_levels s ls t e h few = omega (arith, ap (λ (l : List ℕ). depths l t) e, same_depths s t h, few)

pub functions_count : (s : Script) → length s.functions.items < 1000 → length (functions_of s.functions.items) < 1000
functions_count s few = omega (arith, few, length-functions_of s.functions.items)

functions_are : (s : Script) (n : ℕ) (body : Node) (span : Span) (functions : List Function) → functions ≡ s.functions.items ++ record { parameters = n; body = body; span = span } ∷ []
    → functions_of functions ≡ functions_of s.functions.items ++ record { parameters = n; body = tree_of body; span = span } ∷ []
functions_are s n body span functions more = ap functions_of more ∙ functions_of-more s.functions.items (record { parameters = n; body = body; span = span })

-- a function that is defined
pub state_is : (s : Script) (name : List ℕ) (n : ℕ) (body : Node) (span : Span) (depth : ℕ) (scope : Scope) (functions : List Function)
    → depth ≡ levels (known_in s) (tree_of body)
    → scope ≡ record { locals = s.scope.locals; defined = s.scope.defined ++ record { name = name; what = AFunction (length s.functions.items) depth } ∷ []; current = s.scope.current }
    → functions ≡ s.functions.items ++ record { parameters = n; body = body; span = span } ∷ []
    → with_function (state_of s) name n (tree_of body) span ≡ record { defined = scope.defined; cells = s.cells.items; validator_spans = s.validator_spans.items; functions = functions_of functions; threads = threads_of s.threads.items; defs = s.defs }
state_is s name n body span depth scope functions deep defined more =
    let state : List Entry → List PlainFunction → State = λ (es : List Entry) (fs : List PlainFunction). record { defined = es; cells = s.cells.items; validator_spans = s.validator_spans.items; functions = fs; threads = threads_of s.threads.items; defs = s.defs } in
    let entry : ℕ → ℕ → List Entry = λ (number l : ℕ). s.scope.defined ++ record { name = name; what = AFunction number l } ∷ [] in
    let all = levels (known_in s) (tree_of body) in
    ap (state (entry (length (functions_of s.functions.items)) all)) (sym (functions_are s n body span functions more))
    ∙ ap (λ (number : ℕ). state (entry number all) (functions_of functions)) (length-functions_of s.functions.items)
    ∙ ap (λ (l : ℕ). state (entry (length s.functions.items) l) (functions_of functions)) (sym deep)
    ∙ ap (λ (x : Scope). state x.defined (functions_of functions)) (sym defined)

pub levels_are : (s : Script) (n : ℕ) (body : Node) (span : Span) (depth : ℕ) (functions : List Function) (ls : List ℕ) → IsScript s
    → depth ≡ levels (known_in s) (tree_of body)
    → functions ≡ s.functions.items ++ record { parameters = n; body = body; span = span } ∷ []
    → ls ≡ s.levels.items ++ depth ∷ []
    → ls ≡ map (λ k. k.levels) (known (functions_of functions))
levels_are s n body span depth functions ls h deep more counted =
    let ks = known_in s in
    let made : PlainFunction = record { parameters = n; body = tree_of body; span = span } in
    counted
    ∙ ap (λ (l : List ℕ). l ++ depth ∷ []) h.levels
    ∙ ap (λ (l : ℕ). map (λ (k : Known). k.levels) ks ++ l ∷ []) deep
    ∙ sym (map-append (λ (k : Known). k.levels) ks (known_of ks made ∷ []))
    ∙ ap (map (λ (k : Known). k.levels)) (sym (known_more (functions_of s.functions.items) made))
    ∙ ap (λ (fs : List PlainFunction). map (λ (k : Known). k.levels) (known fs)) (sym (functions_are s n body span functions more))

-- ---- a function as it is written

abbrev functioned : State → Span → Bool → Answer State → Answer State
functioned s span b a = cond b a (refuse TooMany span)

abbrev pub inner_body : State → Written → Span → List ℕ → List (List ℕ) → Answer Tree
inner_body s w span name locals = named 1000 (record { locals = locals; defined = s.defined; current = Some name }) true (body w.body span)

abbrev with_body : State → Written → Span → List ℕ → List (List ℕ) → Answer State
with_body s w span name locals = inner_body s w span name locals >>= λ body. Ok (with_function s name (length locals) body span)

abbrev with_parameters : State → Written → Span → List ℕ → Answer State
with_parameters s w span name = parameters [] w.parameters >>= with_body s w span name

module _ (s : Script) (w : Written) (span : Span) where
  pub function_full : 1000 ≤ length s.functions.items → function (state_of s) span (Some w) ≡ refuse TooMany span
  function_full full =
      ap (λ b. functioned (state_of s) span b (new_name s.scope.defined w.name w.at >>= with_parameters (state_of s) w span)) (not_more (length (functions_of s.functions.items)) 1000 (omega (arith, full, length-functions_of s.functions.items)))

  function_few : length s.functions.items < 1000 → function (state_of s) span (Some w) ≡ (new_name s.scope.defined w.name w.at >>= with_parameters (state_of s) w span)
  function_few few =
      ap (λ b. functioned (state_of s) span b (new_name s.scope.defined w.name w.at >>= with_parameters (state_of s) w span)) (is_more (length (functions_of s.functions.items)) 1000 (omega (arith, few, length-functions_of s.functions.items)))

  pub function_named : length s.functions.items < 1000 → (a : Answer (List ℕ)) → new_name s.scope.defined w.name w.at ≡ a → function (state_of s) span (Some w) ≡ (a >>= with_parameters (state_of s) w span)
  function_named few a e = function_few few ∙ ap (λ (x : Answer (List ℕ)). x >>= with_parameters (state_of s) w span) e

  module _ (few : length s.functions.items < 1000) (name : List ℕ) (as_new : new_name s.scope.defined w.name w.at ≡ Ok name) where
    pub function_bound : (a : Answer (List (List ℕ))) → parameters [] w.parameters ≡ a → function (state_of s) span (Some w) ≡ (a >>= with_body (state_of s) w span name)
    function_bound a e = function_named few (Ok name) as_new ∙ ap (λ (x : Answer (List (List ℕ))). x >>= with_body (state_of s) w span name) e

-- the body of a function is scoped
pub body_placed : (s : Script) (w : Written) (span : Span) (name : List ℕ) (locals : List (List ℕ)) (t : Tree) → IsScript s → length locals ≤ 20
    → inner_body (state_of s) w span name locals ≡ Ok t → Placed (known_in s) (length locals) 1000 t
body_placed s w span name locals t h few e =
    let scope : Scope = record { locals = locals; defined = s.scope.defined; current = Some name } in
    subst (Every (Placed (known_in s) (length locals) 1000)) e (form_named (known_in s) 1000 scope true (body w.body span) (record { known = h.scoped.known; few = omega (arith, few) }))
