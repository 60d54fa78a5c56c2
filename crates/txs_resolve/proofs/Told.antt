-- No refusal of names is a want of memory.
use Rattle.std.proofs.Common.{◌≡◌, ◌≢◌, ℕ, zero, suc, ◌-◌, ◌==◌, Bool, true, false, ◌&&◌, ◌||◌, nat_lt, if◌then◌else◌, List, [], ◌∷◌, length, Option, Some, None, Ok, Err, sym, subst}
use Rattle.txs_value_data.specs.Limits.{most_depth, most_items, most_levels, most_definitions, most_threads, most_parameters, most_locals}
use Rattle.txs_value_data.specs.Operations.{op_name, operations}
use Rattle.txs_value_data.specs.declared.fault.Span.{Span}
use Rattle.txs_value_cell.specs.declared.form.CellForm.{CellForm}
use Rattle.txs_value_cell.specs.declared.form.CellForm.TheVariants as on_cell
use Rattle.txs_value_data.specs.declared.op.Callee.TheVariants.{Function as TheFunction}
use Rattle.txs_value_data.specs.declared.value.Value.{Value}
use Rattle.txs_value_data.specs.declared.value.Value.TheVariants.{Vector, Cell}
use Rattle.txs_value_data.specs.View.{plains_of}
use Rattle.txs_reader.specs.declared.form.Bracket.TheVariants.{Round, Square}
use Rattle.txs_reader.specs.Tree.{PlainForm as Form, PlainForms as Forms, Leaf, leaf, group, first, place, number, symbol, nil, truth, text, keyword, parts}
use Rattle.txs_reader.specs.Tree.{none as no_forms}
use Rattle.txs_tree_meaning.specs.Tree.{Const, Local, Put, more}
use Rattle.txs_resolve_expand.specs.declared.error.ResolveError.{ResolveError}
use Rattle.txs_resolve_expand.specs.declared.error.ResolveErrorKind.{ResolveErrorKind}
use Rattle.txs_resolve_expand.specs.declared.error.ResolveErrorKind.TheVariants.{UnknownName, Redefined, BadForm, NotCallable, LocalCalled, SelfCall, TooMany, Memory}
use Rattle.txs_resolve_expand.specs.declared.names.FormName.{FormName}
use Rattle.txs_resolve_expand.specs.declared.names.FormName.TheVariants as kind
use Rattle.txs_resolve_expand.specs.declared.scope.Definition.TheVariants.{Constant, Cell as ACell, Function as AFunction}
use Rattle.txs_value_data.specs.Places.{with_name}
use Rattle.txs_resolve_expand.specs.Scope.{Scope, Entry, definition_of, is_none, may_bind, meaning, with_local, Meaning, a_form, dotted, a_local, the_current, defined_as, operation, unknown}
use Rattle.txs_resolve_expand.specs.declared.shapes.Spot.{Spot}
use Rattle.txs_resolve_expand.specs.Answers.{◌>>=◌, refuse}
use Rattle.txs_resolve_expand.specs.Expansions.{alone, body, expand_once, form_at}
use Rattle.txs_value_data.specs.declared.op.Callee.{Callee}
use Rattle.txs_resolve_expand.specs.Expressions.{Answer, Special, row, one_part, putting, choice, binding, changing, Core as ACore, whole, parted, Resolver, spot_at, spot_mark, some_room, in_room, narrow, symbol_node, leaf_value, leaf_node, callee_at, callee_of, flag, sequence_node, are_wanted, choice_node, single_node, is_wanted, change_node, binding_node, are_pairs, cell_form, of_family, special, applied, list_core, core_of, bound_name, named_all, named_bindings, put_together, made, resolved, named}
use Rattle.txs_resolve.specs.Literals.{literal, literals}
use Rattle.txs_resolve.specs.declared.stop.Stop.{Stop}
use Rattle.txs_resolve.specs.declared.stop.Stop.TheVariants.{Refused}
use Rattle.txs_resolve.specs.Given.{Ends}
use Rattle.txs_resolve_expand.specs.Namespace.{behind_namespace}
use Rattle.txs_resolve.specs.Names.{State, nothing, program, new_name, Defining, defining_of, top_scope, validator_named, validator_place, with_definition, entered, defined_as_one, NamedForm, named_form, defined_at, parameter, parameters, Written, written, with_function, function, with_thread, future, top_level, step, steps, named_script, ResolveStops}

abbrev IsWant : ResolveErrorKind → Type 0
IsWant UnknownName = ⊥
IsWant Redefined = ⊥
IsWant BadForm = ⊥
IsWant NotCallable = ⊥
IsWant LocalCalled = ⊥
IsWant SelfCall = ⊥
IsWant TooMany = ⊥
IsWant Memory = Unit {0}

-- what is refused isn't refused for want of memory
abbrev Told : {A : Type 0} → Answer A → Type 0
Told (Ok x) = Unit {0}
Told (Err e) = IsWant e.kind → ⊥

told_kind : {A : Type 0} (a : Answer A) (e : ResolveError) → Told a → a ≡ Err e → e.kind ≢ Memory
told_kind {A = A} a e p is m = subst (λ (x : Answer A). Told x) is p (subst IsWant (sym m) tt)

told_then : {A B : Type 0} (a : Answer A) (f : A → Answer B) → Told a → ((x : A) → Told (f x)) → Told (a >>= f)
told_then (Ok x) f p q = q x
told_then (Err e) f p q = p

-- the last of several answers
told_last : {A B : Type 0} (a : Answer A) (f : A → B) → Told a → Told (a >>= λ x. Ok (f x))
told_last (Ok x) f p = tt
told_last (Err e) f p = p

told_if : {A : Type 0} (b : Bool) (x y : Answer A) → Told x → Told y → Told (if b then x else y)
told_if true x y p q = p
told_if false x y p q = q

told_some_room : {A : Type 0} (n : ℕ) (x y : Answer A) → Told x → Told y → Told (some_room n x y)
told_some_room zero x y p q = p
told_some_room (suc n) x y p q = q

told_room : {A : Type 0} (s : Spot) (x : Answer A) → Told x → Told (in_room s x)
told_room s x p = told_some_room s.room (refuse TooMany s.span) x (λ w. w) p

told_narrow : {A : Type 0} (n : ℕ) (s : Spot) (x : Answer A) → Told x → Told (narrow n s x)
told_narrow n s x p = told_if (nat_lt most_items n) (refuse TooMany s.span) x (λ w. w) p

-- ---- symbols, literals and what is called

told_symbol : (m : Meaning) (s : Spot) → Told (symbol_node m s)
told_symbol (a_form f) s = λ w. w
told_symbol dotted s = λ w. w
told_symbol (a_local i) s = told_room s (Ok (Local i (spot_mark s))) tt
told_symbol the_current s = λ w. w
told_symbol (defined_as (Constant v)) s = told_room s (Ok (Const v (spot_mark s))) tt
told_symbol (defined_as (ACell c)) s = told_room s (Ok (Const (Cell c) (spot_mark s))) tt
told_symbol (defined_as (AFunction n l)) s = λ w. w
told_symbol (operation op) s = λ w. w
told_symbol unknown s = λ w. w

told_const : (v : Value) (s : Spot) → Told (in_room s (Ok (Const v (spot_mark s))))
told_const v s = told_room s (Ok (Const v (spot_mark s))) tt

told_leaf : (scope : Scope) (x : Leaf) (s : Spot) → Told (leaf_node scope x s)
told_leaf scope nil s = told_const (leaf_value nil) s
told_leaf scope (truth b) s = told_const (leaf_value (truth b)) s
told_leaf scope (number z) s = told_const (leaf_value (number z)) s
told_leaf scope (text bytes) s = told_const (leaf_value (text bytes)) s
told_leaf scope (keyword name) s = told_const (leaf_value (keyword name)) s
told_leaf scope (symbol name) s = told_symbol (meaning name scope) s

told_callee : (m : Meaning) (s : Spot) (at : Span) → Told (callee_at m s at)
told_callee (a_form f) s at = λ w. w
told_callee dotted s at = λ w. w
told_callee (a_local i) s at = λ w. w
told_callee the_current s at = λ w. w
told_callee (defined_as (Constant v)) s at = λ w. w
told_callee (defined_as (ACell c)) s at = λ w. w
told_callee (defined_as (AFunction n l)) s at = told_if (nat_lt l s.room) (Ok (TheFunction n)) (refuse TooMany s.span) tt (λ w. w)
told_callee (operation op) s at = tt
told_callee unknown s at = λ w. w

told_called : (scope : Scope) (s : Spot) (form : Form) → Told (callee_of scope s form)
told_called scope s (leaf nil at) = λ w. w
told_called scope s (leaf (truth b) at) = λ w. w
told_called scope s (leaf (number z) at) = λ w. w
told_called scope s (leaf (text bytes) at) = λ w. w
told_called scope s (leaf (keyword name) at) = λ w. w
told_called scope s (leaf (symbol name) at) = told_callee (meaning name scope) s at
told_called scope s (group b forms at) = λ w. w

-- ---- special forms

told_family : (o : Option CellForm) (at : Span) (args : Forms) → Told (of_family o at args)
told_family (Some (on_cell.Look form)) at (first r no_forms) = tt
told_family (Some (on_cell.Put form)) at (first r (first e no_forms)) = tt
told_family (Some (on_cell.Update form)) at (first r (first f args)) = tt
told_family (Some on_cell.Send) at (first r (first f args)) = tt
told_family _ at _ = λ w. w

told_bound_in : (is_loop : Bool) (s : Spot) (pairs forms : Forms) → Told (if are_pairs pairs then Ok (parted (binding is_loop pairs (body forms s.span))) else refuse BadForm s.span)
told_bound_in is_loop s pairs forms = told_if (are_pairs pairs) (Ok (parted (binding is_loop pairs (body forms s.span)))) (refuse BadForm s.span) tt (λ w. w)

told_special : (f : FormName) (s : Spot) (args : Forms) → Told (special f s args)
told_special kind.If s (first c (first a no_forms)) = tt
told_special kind.If s (first c (first a (first b no_forms))) = tt
told_special kind.IfNot s (first c (first a no_forms)) = tt
told_special kind.IfNot s (first c (first a (first b no_forms))) = tt
told_special kind.Do s (first e rest) = tt
told_special kind.Let s (first (group Square pairs at) forms) = told_bound_in false s pairs forms
told_special kind.Loop s (first (group Square pairs at) forms) = told_bound_in true s pairs forms
told_special kind.Recur s args = tt
told_special kind.Println s args = tt
told_special kind.Dosync s forms = tt
told_special name s args = told_family (cell_form name) s.span args

told_list : (o : Option FormName) (scope : Scope) (s : Spot) (head : Form) (args : Forms) → Told (list_core o scope s head args)
told_list (Some f) scope s head args = told_special f s args
told_list None scope s head args =
    told_room s (callee_of scope s head >>= λ callee. Ok (applied callee head args s.span)) (told_last (callee_of scope s head) (λ callee. applied callee head args s.span) (told_called scope s head))

told_core : (scope : Scope) (s : Spot) (form : Form) → Told (core_of scope s form)
told_core scope s (leaf x at) = tt
told_core scope s (group Square forms at) = tt
told_core scope s (group Round no_forms at) = λ w. w
told_core scope s (group Round (first head args) at) = told_list (form_at head) scope s head args

told_name : (scope : Scope) (binder : Form) → Told (bound_name scope binder)
told_name scope (leaf nil at) = λ w. w
told_name scope (leaf (truth b) at) = λ w. w
told_name scope (leaf (number z) at) = λ w. w
told_name scope (leaf (text bytes) at) = λ w. w
told_name scope (leaf (keyword name) at) = λ w. w
told_name scope (leaf (symbol name) at) =
    told_if (may_bind name) (if nat_lt (length scope.locals) most_locals then Ok name else refuse TooMany at) (refuse BadForm at)
    (told_if (nat_lt (length scope.locals) most_locals) (Ok name) (refuse TooMany at) tt (λ w. w)) (λ w. w)
told_name scope (group b forms at) = λ w. w

-- ---- expressions

-- of no form is a want of memory told
abbrev AllTold : Resolver → Type 0
AllTold by = (scope : Scope) (wanted : Bool) (form : Form) → Told (by scope wanted form)

module _ (by : Resolver) (each : AllTold by) where
  told_row : (scope : Scope) (inner last : Bool) (forms : Forms) → Told (named_all by scope inner last forms)
  told_row scope inner last no_forms = tt
  told_row scope inner last (first e rest) =
      told_then (by scope (flag inner last rest) e) (λ node. named_all by scope inner last rest >>= λ nodes. Ok (more node nodes)) (each scope (flag inner last rest) e)
      (λ node. told_last (named_all by scope inner last rest) (λ nodes. more node nodes) (told_row scope inner last rest))

  told_bindings : (scope : Scope) (pairs : Forms) → Told (named_bindings by scope pairs)
  told_bindings scope no_forms = tt
  told_bindings scope (first binder no_forms) = λ w. w
  told_bindings scope (first binder (first e rest)) =
      told_then (by scope true e) (λ value. bound_name scope binder >>= λ name. named_bindings by (with_local name scope) rest >>= λ bound. Ok (record { values = more value bound.values; scope = bound.scope })) (each scope true e)
      (λ value. told_then (bound_name scope binder) (λ name. named_bindings by (with_local name scope) rest >>= λ bound. Ok (record { values = more value bound.values; scope = bound.scope })) (told_name scope binder)
      (λ name. told_last (named_bindings by (with_local name scope) rest) (λ bound. record { values = more value bound.values; scope = bound.scope }) (told_bindings (with_local name scope) rest)))

  told_put : (scope : Scope) (s : Spot) (form : Special) → Told (put_together by scope s form)
  told_put scope s (row k forms) =
      let items = named_all by scope (are_wanted k) (are_wanted k || s.wanted) forms in
      told_last (narrow (parts forms) s items) (λ nodes. sequence_node k nodes (spot_mark s)) (told_narrow (parts forms) s items (told_row scope (are_wanted k) (are_wanted k || s.wanted) forms))
  told_put scope s (one_part k form) = told_last (by scope (is_wanted k || s.wanted) form) (λ node. single_node k node (spot_mark s)) (each scope (is_wanted k || s.wanted) form)
  told_put scope s (putting form r e) =
      told_then (by scope true r) (λ cell. by scope true e >>= λ value. Ok (Put form cell value (spot_mark s))) (each scope true r)
      (λ cell. told_last (by scope true e) (λ value. Put form cell value (spot_mark s)) (each scope true e))
  told_put scope s (choice turned c a b) =
      told_then (by scope true c) (λ test. by scope s.wanted a >>= λ one. by scope s.wanted b >>= λ other. Ok (choice_node turned test one other (spot_mark s))) (each scope true c)
      (λ test. told_then (by scope s.wanted a) (λ one. by scope s.wanted b >>= λ other. Ok (choice_node turned test one other (spot_mark s))) (each scope s.wanted a)
      (λ one. told_last (by scope s.wanted b) (λ other. choice_node turned test one other (spot_mark s)) (each scope s.wanted b)))
  told_put scope s (binding is_loop pairs forms) =
      told_then (named_bindings by scope pairs) (λ bound. by bound.scope s.wanted forms >>= λ node. Ok (binding_node is_loop bound.values node (spot_mark s))) (told_bindings scope pairs)
      (λ bound. told_last (by bound.scope s.wanted forms) (λ node. binding_node is_loop bound.values node (spot_mark s)) (each bound.scope s.wanted forms))
  told_put scope s (changing k r f args) =
      let items = narrow (suc (parts args)) s (named_all by scope true true args) in
      told_then (by scope true r) (λ cell. callee_of scope s f >>= λ callee. items >>= λ nodes. Ok (change_node k cell callee nodes (spot_mark s))) (each scope true r)
      (λ cell. told_then (callee_of scope s f) (λ callee. items >>= λ nodes. Ok (change_node k cell callee nodes (spot_mark s))) (told_called scope s f)
      (λ callee. told_last items (λ nodes. change_node k cell callee nodes (spot_mark s)) (told_narrow (suc (parts args)) s (named_all by scope true true args) (told_row scope true true args))))

  told_made : (scope : Scope) (s : Spot) (c : ACore) → Told (made by scope s c)
  told_made scope s (whole x) = told_leaf scope x s
  told_made scope s (parted form) = told_room s (put_together by scope s form) (told_put scope s form)

  told_resolved : (room : ℕ) (scope : Scope) (wanted : Bool) (form : Form) → Told (resolved by room scope wanted form)
  told_resolved room scope wanted form =
      let s = spot_at room (place form) wanted in
      told_then (core_of scope s (expand_once form)) (made by scope s) (told_core scope s (expand_once form)) (λ c. told_made scope s c)

told_form : (room : ℕ) (scope : Scope) (wanted : Bool) (form : Form) → Told (named room scope wanted form)
unfolding named
told_form zero scope wanted form = told_resolved (λ _ _ e. refuse TooMany (place e)) (λ inner u e w. w) 0 scope wanted (alone form)
told_form (suc room) scope wanted form = told_resolved (named room) (λ inner u e. told_form room inner u e) (suc room) scope wanted (alone form)

-- ---- top-level forms

mutual
  told_literal : (room : ℕ) (form : Form) → Told (literal room form)
  told_literal room (leaf nil at) = tt
  told_literal room (leaf (truth b) at) = tt
  told_literal room (leaf (number z) at) = tt
  told_literal room (leaf (text bytes) at) = tt
  told_literal room (leaf (keyword name) at) = tt
  told_literal room (leaf (symbol name) at) = λ w. w
  told_literal room (group Round forms at) = λ w. w
  told_literal room (group Square forms at) =
      told_if (room == 0 || nat_lt most_items (parts forms)) (refuse TooMany at) (literals (room - 1) forms >>= λ vs. Ok (Vector (plains_of vs))) (λ w. w)
      (told_last (literals (room - 1) forms) (λ vs. Vector (plains_of vs)) (told_literals (room - 1) forms))

  told_literals : (room : ℕ) (forms : Forms) → Told (literals room forms)
  told_literals room no_forms = tt
  told_literals room (first e rest) =
      told_then (literal room e) (λ v. literals room rest >>= λ vs. Ok (v ∷ vs)) (told_literal room e)
      (λ v. told_last (literals room rest) (λ vs. v ∷ vs) (told_literals room rest))

told_new : (es : List Entry) (name : List ℕ) (at : Span) → Told (new_name es name at)
told_new es name at =
    let free = is_none (with_name op_name name operations) && is_none (definition_of name es) in
    told_if (may_bind name) (if free then Ok name else refuse Redefined at) (refuse BadForm at) (told_if free (Ok name) (refuse Redefined at) tt (λ w. w)) (λ w. w)

told_validator : (es : List Entry) (span : Span) (o : Option Form) → Told (validator_named es span o)
told_validator es span None = tt
told_validator es span (Some form) = told_last (callee_of (top_scope es) (spot_at 1001 span true) form) (λ c. Some c) (told_called (top_scope es) (spot_at 1001 span true) form)

told_one : (s : State) (name : List ℕ) (at span : Span) (o : Option Defining) → Told (defined_as_one s name at span o)
told_one s name at span None = λ w. w
told_one s name at span (Some d) =
    let f = validator_named s.defined span d.validator in
    let n = new_name s.defined name at in
    let made : Value → Option Callee → List ℕ → State = λ v c m. with_definition d.sort s m v (record { callee = c; at = validator_place span d.validator }) in
    told_if (nat_lt s.defs most_definitions) (entered s name at span d) (refuse TooMany span)
    (told_then (literal most_depth d.value) (λ v. f >>= λ c. n >>= λ m. Ok (made v c m)) (told_literal most_depth d.value)
    (λ v. told_then f (λ c. n >>= λ m. Ok (made v c m)) (told_validator s.defined span d.validator)
    (λ c. told_last n (made v c) (told_new s.defined name at))))
    (λ w. w)

told_define : (s : State) (span : Span) (o : Option NamedForm) → Told (defined_at s span o)
told_define s span None = λ w. w
told_define s span (Some f) = told_one s f.name f.at span (defining_of f.form)

told_parameter : (k : ℕ) (form : Form) → Told (parameter k form)
told_parameter k (leaf nil at) = λ w. w
told_parameter k (leaf (truth b) at) = λ w. w
told_parameter k (leaf (number z) at) = λ w. w
told_parameter k (leaf (text bytes) at) = λ w. w
told_parameter k (leaf (keyword name) at) = λ w. w
told_parameter k (leaf (symbol name) at) =
    told_if (may_bind name) (if nat_lt k most_parameters then Ok name else refuse TooMany at) (refuse BadForm at) (told_if (nat_lt k most_parameters) (Ok name) (refuse TooMany at) tt (λ w. w)) (λ w. w)
told_parameter k (group b forms at) = λ w. w

told_parameters : (names : List (List ℕ)) (forms : Forms) → Told (parameters names forms)
told_parameters names no_forms = tt
told_parameters names (first p rest) = told_then (parameter (length names) p) (λ n. parameters (n ∷ names) rest) (told_parameter (length names) p) (λ n. told_parameters (n ∷ names) rest)

told_function : (s : State) (span : Span) (o : Option Written) → Told (function s span o)
told_function s span None = λ w. w
told_function s span (Some w) =
    let node = λ (locals : List (List ℕ)) (name : List ℕ). named most_levels (record { locals = locals; defined = s.defined; current = Some name }) true (body w.body span) in
    let then_node = λ (name : List ℕ) (locals : List (List ℕ)). node locals name >>= λ t. Ok (with_function s name (length locals) t span) in
    told_if (nat_lt (length s.functions) most_definitions) (new_name s.defined w.name w.at >>= λ name. parameters [] w.parameters >>= then_node name) (refuse TooMany span)
    (told_then (new_name s.defined w.name w.at) (λ name. parameters [] w.parameters >>= then_node name) (told_new s.defined w.name w.at)
    (λ name. told_then (parameters [] w.parameters) (then_node name) (told_parameters [] w.parameters)
    (λ locals. told_last (node locals name) (λ t. with_function s name (length locals) t span)
    (told_form most_levels (record { locals = locals; defined = s.defined; current = Some name }) true (body w.body span)))))
    (λ w. w)

told_future : (s : State) (span : Span) (forms : Forms) → Told (future s span forms)
told_future s span forms =
    let node = named most_levels (record { locals = []; defined = s.defined; current = None }) false (body forms span) in
    told_if (nat_lt (length s.threads) most_threads) (node >>= λ t. Ok (with_thread s t span)) (refuse TooMany span)
    (told_last node (λ t. with_thread s t span) (told_form most_levels (record { locals = []; defined = s.defined; current = None }) false (body forms span)))
    (λ w. w)

told_top : (o : Option FormName) (s : State) (span : Span) (forms : Forms) → Told (top_level o s span forms)
told_top (Some kind.Def) s span forms = told_define s span (named_form forms)
told_top (Some kind.Defn) s span forms = told_function s span (written forms)
told_top (Some kind.Future) s span forms = told_future s span forms
told_top _ s span forms = λ w. w

told_step : (s : State) (form : Form) → Told (step s form)
told_step s (leaf x at) = λ w. w
told_step s (group Square forms at) = λ w. w
told_step s (group Round no_forms at) = λ w. w
told_step s (group Round (first head forms) at) = told_top (form_at head) s at forms

told_steps : (s : State) (forms : List Form) → Told (steps s forms)
told_steps s [] = tt
told_steps s (form ∷ forms) = told_then (step s form) (λ t. steps t forms) (told_step s form) (λ t. told_steps t forms)

-- the walk over top-level forms isn't refused for want of memory
pub no_want_at : (stop : Stop) (now s : State) (forms : List Form) (e : ResolveError) → Ends {A = State} (Err stop) now (steps s forms) → stop ≡ Refused e → e.kind ≢ Memory
no_want_at stop now s forms e h is = told_kind (steps s forms) e (told_steps s forms) (subst (λ (x : Stop). Ends {A = State} (Err x) now (steps s forms)) is h)

-- nor is a script
pub no_want : (forms : List Form) (e : ResolveError) → ResolveStops forms e → e.kind ≢ Memory
no_want forms e h = told_kind (named_script forms) e (told_last (steps nothing (behind_namespace forms)) (λ s. program s) (told_steps nothing (behind_namespace forms))) h
