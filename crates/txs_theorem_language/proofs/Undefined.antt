-- A top-level form that has a fault defines nothing.
use Rattle.std.proofs.Common.{◌≡◌, ◌≢◌, ℕ, suc, ◌+◌, ◌-◌, ◌≤◌, ◌==◌, Bool, true, false, ◌||◌, nat_lt, List, [], ◌∷◌, ◌++◌, length, Option, Some, None, Ok, Err, refl, sym, ap, subst, arith, if◌then◌else◌}
use Rattle.std.proofs.lemmas.Bool.{false≢true}
use Rattle.std.proofs.lemmas.Bool.Decides.{nat_tests}
use Rattle.txs_value_data.specs.Limits.{most_depth, most_levels, most_parameters}
use Rattle.txs_value_data.specs.declared.fault.Span.{Span}
use Rattle.txs_value_data.specs.declared.value.Value.{Value}
use Rattle.txs_value_data.specs.declared.value.Value.TheVariants.{Vector}
use Rattle.txs_value_data.specs.View.{plains_of}
use Rattle.txs_reader.specs.declared.form.Bracket.TheVariants.{Round, Square}
use Rattle.txs_reader.specs.Tree.{PlainForm as Form, PlainForms as Forms, leaf, group, first, symbol, nil, truth, number, text, keyword, parts}
use Rattle.txs_reader.specs.Tree.{none as no_forms}
use Rattle.txs_resolve_expand.specs.declared.names.FormName.{FormName}
use Rattle.txs_resolve_expand.specs.declared.names.FormName.TheVariants as kind
use Rattle.txs_value_data.specs.declared.op.Callee.{Callee}
use Rattle.txs_value_data.specs.declared.op.Callee.TheVariants.{Function as TheFunction}
use Rattle.txs_resolve_expand.specs.declared.scope.Definition.TheVariants.{Constant, Cell as ACell, Function as AFunction}
use Rattle.txs_resolve_expand.specs.Scope.{Meaning, a_form, dotted, a_local, the_current, defined_as, operation, unknown, may_bind, meaning}
use Rattle.txs_resolve_expand.specs.declared.error.ResolveError.{ResolveError}
use Rattle.txs_resolve_expand.specs.declared.error.ResolveErrorKind.{ResolveErrorKind}
use Rattle.txs_resolve_expand.specs.declared.error.ResolveErrorKind.TheVariants.{BadForm, Redefined, TooMany}
use Rattle.txs_resolve_expand.specs.Answers.{◌>>=◌, refuse}
use Rattle.txs_resolve_expand.specs.Expansions.{body, form_at}
use Rattle.txs_resolve_expand.specs.Expressions.{Answer, callee_at, is_symbol, named, spot_at}
use Rattle.txs_resolve.specs.Literals.{literal, literals}
use Rattle.txs_resolve.specs.Names.{State, nothing, new_name, Defining, NamedForm, defining_of, named_form, top_scope, validator_named, validator_place, with_definition, entered, defined_as_one, defined_at, parameter, parameters, Written, written, with_function, function, with_thread, future, top_level, step, steps}
use Rattle.txs_theorem_language.specs.FirstForm.{StopsAt}
use Rattle.txs_theorem_language.specs.Standing.{IsOne, one_now, one_later}
use Rattle.txs_theorem_language.specs.Faults.{is_free, is_definition, is_top_level, Defines, by_def, by_defn, IsTooMuch, is_too_deep, is_too_long, has_too_much, IsNth, nth_now, nth_later, HasParameter, has_parameter, HasTopFault, is_no_definition, defines_other, defines_no_literal, defines_no_function, defines_reserved, parameter_reserved, defines_again, defines_too_many, functions_too_many, threads_too_many, parameters_too_many, defines_too_much, defines_with_validator, ValidatorFault, validator_unknown, validator_dotted, validator_no_symbol, validator_no_function, validator_too_deep, is_no_function, FaultAtTop, of_itself, of_body, of_thread}
use Rattle.txs_theorem_language.proofs.Treeless.{IsRefused, now, next, form_refused}

-- ---- literals

literals_refused : (room : ℕ) (e : Form) → IsRefused (literal room e) → (es : Forms) → IsOne e es → IsRefused (literals room es)
literals_refused room e h _ (one_now rest) = now (literal room e) (λ v. literals room rest >>= λ vs. Ok (v ∷ vs)) h
literals_refused room e h _ (one_later f rest is) =
    next (literal room f) (λ v. literals room rest >>= λ vs. Ok (v ∷ vs)) (λ v. now (literals room rest) (λ vs. Ok (v ∷ vs)) (literals_refused room e h rest is))

literal_refused : (room : ℕ) (at : Span) (f : Form) → IsTooMuch room at f → IsRefused (literal room f)
literal_refused room _ _ (is_too_deep _ es at is) =
    let z : (room == 0) ≡ true = grind (arith, nat_tests, is) in
    subst (λ (x : Bool). IsRefused {A = Value} (if x || nat_lt 65535 (parts es) then refuse TooMany at else (literals (room - 1) es >>= λ vs. Ok (Vector (plains_of vs))))) (sym z) tt
literal_refused room _ _ (is_too_long _ es at lt) =
    let z : nat_lt 65535 (parts es) ≡ true = grind (arith, nat_tests, lt) in
    subst (λ (y : Bool). IsRefused {A = Value} (if (room == 0) || y then refuse TooMany at else (literals (room - 1) es >>= λ vs. Ok (Vector (plains_of vs))))) (sym z) (pick (room == 0))
  where
    pick : (x : Bool) → IsRefused {A = Value} (if x || true then refuse TooMany at else (literals (room - 1) es >>= λ vs. Ok (Vector (plains_of vs))))
    pick true = tt
    pick false = tt
literal_refused _ there _ (has_too_much room es at _ e one h) = pick ((suc room == 0) || nat_lt 65535 (parts es)) (literals_refused room e (literal_refused room there e h) es one)
  where
    same : suc room - 1 ≡ room
    same = omega arith

    pick : (y : Bool) → IsRefused (literals room es) → IsRefused {A = Value} (if y then refuse TooMany at else (literals (suc room - 1) es >>= λ vs. Ok (Vector (plains_of vs))))
    pick true k = tt
    pick false k = now (literals (suc room - 1) es) (λ vs. Ok (Vector (plains_of vs))) (subst (λ n. IsRefused (literals n es)) (sym same) k)

-- ---- parameters

parameters_refused : (p : Form) (i : ℕ) (ps : Forms) → IsNth p i ps → (names : List (List ℕ)) → ((k : ℕ) → k ≡ length names + i → IsRefused (parameter k p)) → IsRefused (parameters names ps)
parameters_refused p _ _ (nth_now rest) names h = now (parameter (length names) p) (λ n. parameters (n ∷ names) rest) (h (length names) (omega arith))
parameters_refused p _ _ (nth_later i other rest is) names h =
    next (parameter (length names) other) (λ n. parameters (n ∷ names) rest) (λ n. parameters_refused p i rest is (n ∷ names) (λ k same. h k (omega (arith, same))))

reserved_parameter : (name : List ℕ) (at : Span) (k : ℕ) → may_bind name ≡ false → IsRefused (parameter k (leaf (symbol name) at))
reserved_parameter name at k is = subst (λ (y : Bool). IsRefused {A = List ℕ} (if y then (if nat_lt k 20 then Ok name else refuse TooMany at) else refuse BadForm at)) (sym is) tt

late_parameter : (name : List ℕ) (at : Span) (k : ℕ) → most_parameters ≤ k → IsRefused (parameter k (leaf (symbol name) at))
late_parameter name at k le =
    let is : nat_lt k 20 ≡ false = grind (arith, nat_tests, le) in
    subst (λ (z : Bool). IsRefused {A = List ℕ} (if may_bind name then (if z then Ok name else refuse TooMany at) else refuse BadForm at)) (sym is) (pick (may_bind name))
  where
    pick : (y : Bool) → IsRefused {A = List ℕ} (if y then refuse TooMany at else refuse BadForm at)
    pick true = tt
    pick false = tt

-- ---- validators

module _ (s : State) (at : Span) where
  abbrev called_as : Meaning → Span → Answer (Option Callee)
  called_as m there = callee_at m (spot_at 1001 at true) there >>= λ callee. Ok (Some callee)

  no_function_refused : (m : Meaning) (there : Span) → is_no_function m ≡ true → IsRefused (called_as m there)
  no_function_refused (a_form f) there h = tt
  no_function_refused dotted there h = absurd (false≢true h)
  no_function_refused (a_local i) there h = absurd (false≢true h)
  no_function_refused the_current there h = absurd (false≢true h)
  no_function_refused (defined_as (Constant v)) there h = tt
  no_function_refused (defined_as (ACell c)) there h = tt
  no_function_refused (defined_as (AFunction n l)) there h = absurd (false≢true h)
  no_function_refused (operation op) there h = absurd (false≢true h)
  no_function_refused unknown there h = absurd (false≢true h)

  no_symbol_refused : (v : Form) → is_symbol v ≡ false → IsRefused (validator_named s.defined at (Some v))
  no_symbol_refused (leaf nil there) h = tt
  no_symbol_refused (leaf (truth b) there) h = tt
  no_symbol_refused (leaf (number z) there) h = tt
  no_symbol_refused (leaf (text t) there) h = tt
  no_symbol_refused (leaf (keyword k) there) h = tt
  no_symbol_refused (leaf (symbol name) there) h = absurd (false≢true (sym h))
  no_symbol_refused (group b fs there) h = tt

  validator_refused : (why : ResolveErrorKind) (there : Span) (v : Form) → ValidatorFault s at why there v → IsRefused (validator_named s.defined at (Some v))
  validator_refused _ _ _ (validator_unknown name there is) = subst (λ m. IsRefused (called_as m there)) (sym is) tt
  validator_refused _ _ _ (validator_dotted name there is) = subst (λ m. IsRefused (called_as m there)) (sym is) tt
  validator_refused _ _ _ (validator_no_symbol form is) = no_symbol_refused form is
  validator_refused _ _ _ (validator_no_function name there is) = no_function_refused (meaning name (top_scope s.defined)) there is
  validator_refused _ _ _ (validator_too_deep name there n levels is lt) =
      let deep : nat_lt levels 1001 ≡ false = grind (arith, nat_tests, lt) in
      subst (λ m. IsRefused (called_as m there)) (sym is) (subst (λ (y : Bool). IsRefused {A = Option Callee} ((if y then Ok (TheFunction n) else refuse TooMany at) >>= λ callee. Ok (Some callee))) (sym deep) tt)

-- ---- definitions

module _ (s : State) where
  -- ---- by what stands at the head

  module _ (head : Form) (es : Forms) (at : Span) where
    at_def : form_at head ≡ Some kind.Def → (o : Option NamedForm) → named_form es ≡ o → IsRefused (defined_at s at o) → IsRefused (step s (group Round (first head es) at))
    at_def is o same h = subst (λ x. IsRefused (top_level x s at es)) (sym is) (subst (λ x. IsRefused (defined_at s at x)) (sym same) h)

    at_defn : form_at head ≡ Some kind.Defn → (o : Option Written) → written es ≡ o → IsRefused (function s at o) → IsRefused (step s (group Round (first head es) at))
    at_defn is o same h = subst (λ x. IsRefused (top_level x s at es)) (sym is) (subst (λ x. IsRefused (function s at x)) (sym same) h)

    at_future : form_at head ≡ Some kind.Future → IsRefused (future s at es) → IsRefused (step s (group Round (first head es) at))
    at_future is h = subst (λ x. IsRefused (top_level x s at es)) (sym is) h

  -- a definition that there is room for, or not
  entering : (f : NamedForm) (at : Span) (d : Defining) → IsRefused (entered s f.name f.at at d) → IsRefused (defined_as_one s f.name f.at at (Some d))
  entering f at d h = pick (nat_lt s.defs 1000)
    where
      pick : (y : Bool) → IsRefused (if y then entered s f.name f.at at d else refuse TooMany at)
      pick true = h
      pick false = tt

  -- what a definition of a constant or a cell gives
  abbrev Made : NamedForm → Span → Defining → Value → Option Callee → List ℕ → State
  Made f at d v c n = with_definition d.sort s n v (record { callee = c; at = validator_place at d.validator })

  naming : (f : NamedForm) (at : Span) → IsRefused (new_name s.defined f.name f.at) → (o : Option Defining) → IsRefused (defined_as_one s f.name f.at at o)
  naming f at h None = tt
  naming f at h (Some d) =
      entering f at d
      (next (literal most_depth d.value) (λ v. validator_named s.defined at d.validator >>= λ c. new_name s.defined f.name f.at >>= λ n. Ok (Made f at d v c n))
      (λ v. next (validator_named s.defined at d.validator) (λ c. new_name s.defined f.name f.at >>= λ n. Ok (Made f at d v c n))
      (λ c. now (new_name s.defined f.name f.at) (λ n. Ok (Made f at d v c n)) h)))

  -- what is made of a function's parts
  abbrev Whole : Written → Span → List ℕ → Answer State
  Whole w at name = parameters [] w.parameters >>= λ locals. named most_levels (record { locals = locals; defined = s.defined; current = Some name }) true (body w.body at) >>= λ node. Ok (with_function s name (length locals) node at)

  making : (w : Written) (at : Span) → IsRefused (new_name s.defined w.name w.at >>= Whole w at) → IsRefused (function s at (Some w))
  making w at h = pick (nat_lt (length s.functions) 1000)
    where
      pick : (y : Bool) → IsRefused (if y then (new_name s.defined w.name w.at >>= Whole w at) else refuse TooMany at)
      pick true = h
      pick false = tt

  -- a name that is new is the name itself
  new_or_refused : (w : Written) (at : Span) → IsRefused (Whole w at w.name) → IsRefused (new_name s.defined w.name w.at >>= Whole w at)
  new_or_refused w at h = pick (may_bind w.name) (is_free s w.name)
    where
      pick : (y z : Bool) → IsRefused ((if y then (if z then Ok w.name else refuse Redefined w.at) else refuse BadForm w.at) >>= Whole w at)
      pick false z = tt
      pick true false = tt
      pick true true = h

  name_refused : (name : List ℕ) (there : Span) (f : Form) → Defines name there f → IsRefused (new_name s.defined name there) → IsRefused (step s f)
  name_refused _ _ _ (by_def head es at f is same) h = at_def head es at is (Some f) same (naming f at h (defining_of f.form))
  name_refused _ _ _ (by_defn head es at w is same) h = at_defn head es at is (Some w) same (making w at (now (new_name s.defined w.name w.at) (Whole w at) h))

  reserved_name : (name : List ℕ) (at : Span) → may_bind name ≡ false → IsRefused (new_name s.defined name at)
  reserved_name name at is = subst (λ (y : Bool). IsRefused {A = List ℕ} (if y then (if is_free s name then Ok name else refuse Redefined at) else refuse BadForm at)) (sym is) tt

  taken_name : (name : List ℕ) (at : Span) → is_free s name ≡ false → IsRefused (new_name s.defined name at)
  taken_name name at is = subst (λ (z : Bool). IsRefused {A = List ℕ} (if may_bind name then (if z then Ok name else refuse Redefined at) else refuse BadForm at)) (sym is) (pick (may_bind name))
    where
      pick : (y : Bool) → IsRefused {A = List ℕ} (if y then refuse Redefined at else refuse BadForm at)
      pick true = tt
      pick false = tt

  parameter_refused : (p : Form) (i : ℕ) (f : Form) → HasParameter p i f → ((k : ℕ) → k ≡ i → IsRefused (parameter k p)) → IsRefused (step s f)
  parameter_refused p i _ (has_parameter head es at w is same behind) h =
      at_defn head es at is (Some w) same
      (making w at
      (next (new_name s.defined w.name w.at) (Whole w at)
      (λ name. now (parameters [] w.parameters) (λ locals. named most_levels (record { locals = locals; defined = s.defined; current = Some name }) true (body w.body at) >>= λ node. Ok (with_function s name (length locals) node at))
      (parameters_refused p i w.parameters behind [] (λ k eq. h k (omega (arith, eq)))))))

  other_refused : (o : Option FormName) (at : Span) (es : Forms) → is_definition o ≡ false → IsRefused (top_level o s at es)
  other_refused (Some kind.Def) at es h = absurd (false≢true (sym h))
  other_refused (Some kind.Defn) at es h = absurd (false≢true (sym h))
  other_refused (Some kind.Future) at es h = absurd (false≢true (sym h))
  other_refused _ at es h = tt

  no_definition_refused : (f : Form) → is_top_level f ≡ false → IsRefused (step s f)
  no_definition_refused (leaf x at) h = tt
  no_definition_refused (group Square es at) h = tt
  no_definition_refused (group Round no_forms at) h = tt
  no_definition_refused (group Round (first head es) at) h = other_refused (form_at head) at es h

  many_definitions : (at : Span) → nat_lt s.defs 1000 ≡ false → (o : Option NamedForm) → IsRefused (defined_at s at o)
  many_definitions at is None = tt
  many_definitions at is (Some f) = pick (defining_of f.form)
    where
      pick : (o : Option Defining) → IsRefused (defined_as_one s f.name f.at at o)
      pick None = tt
      pick (Some d) = subst (λ (y : Bool). IsRefused (if y then entered s f.name f.at at d else refuse TooMany at)) (sym is) tt

  many_functions : (at : Span) → nat_lt (length s.functions) 1000 ≡ false → (o : Option Written) → IsRefused (function s at o)
  many_functions at is None = tt
  many_functions at is (Some w) = subst (λ (y : Bool). IsRefused (if y then (new_name s.defined w.name w.at >>= Whole w at) else refuse TooMany at)) (sym is) tt

  top_refused : (kind : ResolveErrorKind) (at : Span) (f : Form) → HasTopFault s kind at f → IsRefused (step s f)
  top_refused _ _ _ (is_no_definition f is) = no_definition_refused f is
  top_refused _ _ _ (defines_other head es at is same) = at_def head es at is None same tt
  top_refused _ _ _ (defines_no_literal head es at f is same other) = at_def head es at is (Some f) same (subst (λ o. IsRefused (defined_as_one s f.name f.at at o)) (sym other) tt)
  top_refused _ _ _ (defines_no_function head es at is same) = at_defn head es at is None same tt
  top_refused _ _ _ (defines_reserved name at f d is) = name_refused name at f d (reserved_name name at is)
  top_refused _ _ _ (parameter_reserved name at i f p is) = parameter_refused (leaf (symbol name) at) i f p (λ k eq. reserved_parameter name at k is)
  top_refused _ _ _ (defines_again name at f d is) = name_refused name at f d (taken_name name at is)
  top_refused _ _ _ (defines_too_many head es at is le) = let many : nat_lt s.defs 1000 ≡ false = grind (arith, nat_tests, le) in at_def head es at is (named_form es) refl (many_definitions at many (named_form es))
  top_refused _ _ _ (functions_too_many head es at is le) = let many : nat_lt (length s.functions) 1000 ≡ false = grind (arith, nat_tests, le) in at_defn head es at is (written es) refl (many_functions at many (written es))
  top_refused _ _ _ (threads_too_many head es at is le) =
      let many : nat_lt (length s.threads) 64 ≡ false = grind (arith, nat_tests, le) in
      at_future head es at is
      (subst (λ (y : Bool). IsRefused (if y then (named most_levels (record { locals = []; defined = s.defined; current = None }) false (body es at) >>= λ node. Ok (with_thread s node at)) else refuse TooMany at)) (sym many) tt)
  top_refused _ _ _ (parameters_too_many name at i f p le) = parameter_refused (leaf (symbol name) at) i f p (λ k eq. late_parameter name at k (omega (arith, le, eq)))
  top_refused _ _ _ (defines_too_much head es at there f d is same eq h) =
      at_def head es at is (Some f) same
      (subst (λ o. IsRefused (defined_as_one s f.name f.at at o)) (sym eq)
      (entering f at d
      (now (literal most_depth d.value) (λ v. validator_named s.defined at d.validator >>= λ c. new_name s.defined f.name f.at >>= λ n. Ok (Made f at d v c n)) (literal_refused most_depth there d.value h))))
  top_refused _ _ _ (defines_with_validator why head es at there f d v is same eq has h) =
      at_def head es at is (Some f) same
      (subst (λ o. IsRefused (defined_as_one s f.name f.at at o)) (sym eq)
      (entering f at d
      (next (literal most_depth d.value) (λ x. validator_named s.defined at d.validator >>= λ c. new_name s.defined f.name f.at >>= λ n. Ok (Made f at d x c n))
      (λ x. now (validator_named s.defined at d.validator) (λ c. new_name s.defined f.name f.at >>= λ n. Ok (Made f at d x c n))
      (subst (λ o. IsRefused (validator_named s.defined at o)) (sym has) (validator_refused s at why there v h))))))

  fault_refused : (e : ResolveError) (f : Form) → FaultAtTop s e f → IsRefused (step s f)
  fault_refused e _ (of_itself f h) = top_refused e.kind e.at f h
  fault_refused e _ (of_body head es at w locals is same are h) =
      at_defn head es at is (Some w) same
      (making w at
      (new_or_refused w at
      (subst (λ a. IsRefused (a >>= λ names. named most_levels (record { locals = names; defined = s.defined; current = Some w.name }) true (body w.body at) >>= λ node. Ok (with_function s w.name (length names) node at))) (sym are)
      (now (named most_levels (record { locals = locals; defined = s.defined; current = Some w.name }) true (body w.body at)) (λ node. Ok (with_function s w.name (length locals) node at))
      (form_refused most_levels (record { locals = locals; defined = s.defined; current = Some w.name }) true (body w.body at) e h)))))
  fault_refused e _ (of_thread head es at is h) = at_future head es at is (pick (nat_lt (length s.threads) 64))
    where
      pick : (y : Bool) → IsRefused (if y then (named most_levels (record { locals = []; defined = s.defined; current = None }) false (body es at) >>= λ node. Ok (with_thread s node at)) else refuse TooMany at)
      pick true =
          now (named most_levels (record { locals = []; defined = s.defined; current = None }) false (body es at)) (λ node. Ok (with_thread s node at))
          (form_refused most_levels (record { locals = []; defined = s.defined; current = None }) false (body es at) e h)
      pick false = tt

pub defines_nothing : (s : State) (form : Form) (e : ResolveError) → FaultAtTop s e form → (t : State) → step s form ≢ Ok t
defines_nothing s form e h t is = subst IsRefused is (fault_refused s e form h)

-- ---- scripts

abbrev ok_or : {A : Type 0} → A → Answer A → A
ok_or d (Ok x) = x
ok_or d (Err e) = d

-- what is refused behind these forms
behind_refused : (start s : State) (forms others : List Form) → steps start forms ≡ Ok s → IsRefused (steps s others) → IsRefused (steps start (forms ++ others))
behind_refused start s [] others is h = subst (λ t. IsRefused (steps t others)) (sym (ap (ok_or s) is)) h
behind_refused start s (form ∷ forms) others is h = by (λ t k. behind_refused t s forms others k h) (step start form) is
  where
    by : ((t : State) → steps t forms ≡ Ok s → IsRefused (steps t (forms ++ others))) → (a : Answer State) → (a >>= λ t. steps t forms) ≡ Ok s → IsRefused (a >>= λ t. steps t (forms ++ others))
    by rest (Ok t) k = rest t k
    by rest (Err e) k = tt

-- no form before the first that is refused has a fault
pub none_before : (forms : List Form) (e : ResolveError) (stop : StopsAt forms e) (before behind : List Form) (form : Form) (s : State) → stop.before ≡ before ++ form ∷ behind → steps nothing before ≡ Ok s
    → (d : ResolveError) → FaultAtTop s d form → ⊥
none_before forms e stop before behind form s is done d h =
    subst IsRefused stop.resolved
    (subst (λ l. IsRefused (steps nothing l)) (sym is) (behind_refused nothing s before (form ∷ behind) done (now (step s form) (λ t. steps t behind) (fault_refused s d form h))))
