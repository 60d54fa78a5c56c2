-- The refusal of a script's names is that of its first form with a fault.
use Rattle.std.proofs.Common.{◌≡◌, ℕ, suc, ◌+◌, ◌-◌, ◌<◌, ◌≤◌, ◌==◌, Bool, true, false, ◌||◌, nat_lt, List, [], ◌∷◌, length, Option, Some, None, Ok, Err, refl, sym, ap, subst, ◌∙◌, arith, if◌then◌else◌}
use Rattle.std.proofs.lemmas.Bool.{false≢true}
use Rattle.std.proofs.lemmas.Bool.Decides.{nat_tests}
use Rattle.txs_value_data.specs.Limits.{most_depth, most_levels, most_parameters}
use Rattle.txs_value_data.specs.declared.fault.Span.{Span}
use Rattle.txs_value_data.specs.declared.value.Value.{Value}
use Rattle.txs_value_data.specs.declared.value.Value.TheVariants.{Vector}
use Rattle.txs_value_data.specs.declared.value.CellKind.{CellKind}
use Rattle.txs_value_data.specs.declared.op.Callee.{Callee}
use Rattle.txs_value_data.specs.declared.op.Callee.TheVariants.{Function as TheFunction}
use Rattle.txs_value_data.specs.View.{plains_of}
use Rattle.txs_reader.specs.declared.form.Bracket.TheVariants.{Round, Square}
use Rattle.txs_reader.specs.Tree.{PlainForm as Form, PlainForms as Forms, leaf, group, first, number, symbol, nil, truth, text, keyword, parts}
use Rattle.txs_reader.specs.Tree.{none as no_forms}
use Rattle.txs_tree_meaning.specs.Tree.{Tree}
use Rattle.txs_resolve_expand.specs.declared.names.FormName.{FormName}
use Rattle.txs_resolve_expand.specs.declared.names.FormName.TheVariants as kind
use Rattle.txs_resolve_expand.specs.declared.scope.Definition.TheVariants.{Constant, Cell as ACell, Function as AFunction}
use Rattle.txs_resolve_expand.specs.Scope.{Entry, Meaning, a_form, dotted, a_local, the_current, defined_as, operation, unknown, may_bind, meaning}
use Rattle.txs_resolve_expand.proofs.Meanings.{meaning_so}
use Rattle.txs_resolve.specs.declared.definition.CellSort.{CellSort}
use Rattle.txs_resolve_expand.specs.declared.error.ResolveError.{ResolveError}
use Rattle.txs_resolve_expand.specs.declared.error.ResolveErrorKind.TheVariants.{BadForm, Redefined, TooMany}
use Rattle.txs_resolve_expand.specs.Answers.{◌>>=◌, refuse}
use Rattle.txs_resolve_expand.specs.Expansions.{body, form_at}
use Rattle.txs_resolve_expand.specs.Expressions.{Answer, callee_at, callee_of, named, spot_at}
use Rattle.txs_resolve.specs.Literals.{is_literal, are_literals, literal, literals}
use Rattle.txs_resolve.specs.Names.{State, new_name, Defining, NamedForm, Options, mode_or_fail, only_literal, options_behind, opened, top_scope, validator_named, validator_place, cell_of, kind_at, defining_of, named_form, with_definition, entered, defined_as_one, defined_at, are_symbols, parameters, Written, written, written_behind, untold, with_function, function, with_thread, future, top_level, step, ResolveStops}
use Rattle.txs_theorem_language.specs.Standing.{IsOne, one_now, one_later}
use Rattle.txs_theorem_language.specs.Faults.{is_free, is_definition, Defines, by_def, by_defn, IsTooMuch, is_too_deep, is_too_long, has_too_much, IsNth, nth_now, nth_later, has_parameter, HasTopFault, is_no_definition, defines_other, defines_no_literal, defines_no_function, defines_reserved, parameter_reserved, defines_again, defines_too_many, functions_too_many, threads_too_many, parameters_too_many, defines_too_much, defines_with_validator, ValidatorFault, validator_unknown, validator_dotted, validator_no_symbol, validator_no_function, validator_too_deep, is_no_function, FaultAtTop, of_itself, of_body, of_thread, FaultInScript}
use Rattle.txs_theorem_language.proofs.Faults.{IfErr, if_then, and_left, and_right, fault_in_form}
use Rattle.txs_theorem_language.proofs.FirstForm.{stops_at}

-- ---- literals

-- a literal is refused for a vector in it
abbrev LiteralFault : ℕ → Form → ResolveError → Type 0
LiteralFault room f e = (e.kind ≡ TooMany) × IsTooMuch room e.at f

mutual
  literal_is : (room : ℕ) (f : Form) → is_literal f ≡ true → IfErr (LiteralFault room f) (literal room f)
  literal_is room (leaf nil at) h = tt
  literal_is room (leaf (truth b) at) h = tt
  literal_is room (leaf (number z) at) h = tt
  literal_is room (leaf (text t) at) h = tt
  literal_is room (leaf (keyword k) at) h = tt
  literal_is room (leaf (symbol name) at) h = absurd (false≢true h)
  literal_is room (group Round fs at) h = absurd (false≢true h)
  literal_is room (group Square fs at) h = by (room == 0) refl (nat_lt 65535 (parts fs)) refl (literals_are (room - 1) at fs fs (λ e one. one) h)
    where
      by : (x : Bool) → (room == 0) ≡ x → (y : Bool) → nat_lt 65535 (parts fs) ≡ y → IfErr (LiteralFault (suc (room - 1)) (group Square fs at)) (literals (room - 1) fs)
          → IfErr (LiteralFault room (group Square fs at)) (if x || y then refuse TooMany at else (literals (room - 1) fs >>= λ vs. Ok (Vector (plains_of vs))))
      by true is y eq k = let z : room ≡ 0 = grind (arith, nat_tests, is) in (refl, is_too_deep room fs at z)
      by false is true eq k = let lt : 65535 < parts fs = grind (arith, nat_tests, eq) in (refl, is_too_long room fs at lt)
      by false is false eq k =
          let z : suc (room - 1) ≡ room = grind (arith, nat_tests, is) in
          if_then (LiteralFault room (group Square fs at)) (literals (room - 1) fs) (λ vs. Ok (Vector (plains_of vs))) (subst (λ n. IfErr (LiteralFault n (group Square fs at)) (literals (room - 1) fs)) z k) (λ vs. tt)

  literals_are : (room : ℕ) (at : Span) (all fs : Forms) → ((e : Form) → IsOne e fs → IsOne e all) → are_literals fs ≡ true → IfErr (LiteralFault (suc room) (group Square all at)) (literals room fs)
  literals_are room at all no_forms one h = tt
  literals_are room at all (first f rest) one h =
      if_then (LiteralFault (suc room) (group Square all at)) (literal room f) (λ v. literals room rest >>= λ vs. Ok (v ∷ vs))
      (item (literal room f) (literal_is room f (and_left (is_literal f) (are_literals rest) h)))
      (λ v. if_then (LiteralFault (suc room) (group Square all at)) (literals room rest) (λ vs. Ok (v ∷ vs)) (literals_are room at all rest (λ e is. one e (one_later f rest is)) (and_right (is_literal f) (are_literals rest) h)) (λ vs. tt))
    where
      item : (a : Answer Value) → IfErr (LiteralFault room f) a → IfErr (LiteralFault (suc room) (group Square all at)) a
      item (Ok v) k = tt
      item (Err e) k = (k.0, has_too_much room all at e.at f (one f (one_now rest)) k.1)

-- what is defined is a literal
abbrev OfLiteral : Option Defining → Type 0
OfLiteral (Some d) = is_literal d.value ≡ true
OfLiteral None = Unit {0}

only_is : (sort : Option CellSort) (v : Option Form) (f : Form) → OfLiteral (only_literal sort v f)
only_is sort v f = by (is_literal f) refl
  where
    by : (y : Bool) → is_literal f ≡ y → OfLiteral (if y then Some (record { sort = sort; value = f; validator = v }) else None)
    by true is = is
    by false is = tt

opened_is : (k : CellKind) (o : Option Options) (f : Form) → OfLiteral (opened k o f)
opened_is k (Some o) f = only_is (Some (record { kind = k; error_mode = mode_or_fail o.error_mode })) o.validator f
opened_is k None f = tt

cell_is : (k : Option CellKind) (fs : Forms) → OfLiteral (cell_of k fs)
cell_is (Some k) (first f rest) = opened_is k (options_behind k rest) f
cell_is (Some k) no_forms = tt
cell_is None fs = tt

defining_is : (f : Form) → OfLiteral (defining_of f)
defining_is (leaf x at) = only_is None None (leaf x at)
defining_is (group Square fs at) = only_is None None (group Square fs at)
defining_is (group Round no_forms at) = only_is None None (group Round no_forms at)
defining_is (group Round (first head args) at) = cell_is (kind_at (form_at head)) args

-- ---- validators

-- neither a local nor the function that is being defined
abbrev IsOuter : Meaning → Type 0
IsOuter (a_local i) = ⊥
IsOuter the_current = ⊥
IsOuter _ = Unit {0}

no_local : (i : ℕ) → None ≡ Some i → ⊥
no_local i e = cc

top_outer : (name : List ℕ) (es : List Entry) → IsOuter (meaning name (top_scope es))
top_outer name es = meaning_so IsOuter (λ f. tt) tt (λ op. tt) tt name (top_scope es) (λ i e. absurd (no_local i e)) (λ e. absurd (false≢true e)) (λ d e. tt)

module _ (s : State) (at : Span) where
  abbrev Refused : Form → ResolveError → Type 0
  Refused v e = ValidatorFault s at e.kind e.at v

  symbol_is : (name : List ℕ) (there : Span) (m : Meaning) → meaning name (top_scope s.defined) ≡ m → IsOuter m → IfErr (Refused (leaf (symbol name) there)) (callee_at m (spot_at 1001 at true) there)
  symbol_is name there (a_form f) is outer = validator_no_function name there (ap is_no_function is)
  symbol_is name there dotted is outer = validator_dotted name there is
  symbol_is name there (a_local i) is outer = absurd outer
  symbol_is name there the_current is outer = absurd outer
  symbol_is name there (defined_as (Constant v)) is outer = validator_no_function name there (ap is_no_function is)
  symbol_is name there (defined_as (ACell c)) is outer = validator_no_function name there (ap is_no_function is)
  symbol_is name there (defined_as (AFunction n l)) is outer = by (nat_lt l 1001) refl
    where
      by : (y : Bool) → nat_lt l 1001 ≡ y → IfErr {A = Callee} (Refused (leaf (symbol name) there)) (if y then Ok (TheFunction n) else refuse TooMany at)
      by true lt = tt
      by false lt = let le : 1000 < l = grind (arith, nat_tests, lt) in validator_too_deep name there n l is le
  symbol_is name there (operation op) is outer = tt
  symbol_is name there unknown is outer = validator_unknown name there is

  called_is : (v : Form) → IfErr (Refused v) (callee_of (top_scope s.defined) (spot_at 1001 at true) v)
  called_is (leaf nil there) = validator_no_symbol (leaf nil there) refl
  called_is (leaf (truth b) there) = validator_no_symbol (leaf (truth b) there) refl
  called_is (leaf (number z) there) = validator_no_symbol (leaf (number z) there) refl
  called_is (leaf (text t) there) = validator_no_symbol (leaf (text t) there) refl
  called_is (leaf (keyword k) there) = validator_no_symbol (leaf (keyword k) there) refl
  called_is (leaf (symbol name) there) = symbol_is name there (meaning name (top_scope s.defined)) refl (top_outer name s.defined)
  called_is (group b fs there) = validator_no_symbol (group b fs there) refl

-- ---- names

module _ (s : State) where
  abbrev Top : Form → ResolveError → Type 0
  Top f e = FaultAtTop s e f

  name_is : (name : List ℕ) (there : Span) (f : Form) → Defines name there f → IfErr (Top f) (new_name s.defined name there)
  name_is name there f d = by (may_bind name) refl (is_free s name) refl
    where
      by : (y : Bool) → may_bind name ≡ y → (z : Bool) → is_free s name ≡ z → IfErr (Top f) (if y then (if z then Ok name else refuse Redefined there) else refuse BadForm there)
      by false is z eq = of_itself f (defines_reserved name there f d is)
      by true is false eq = of_itself f (defines_again name there f d eq)
      by true is true eq = tt

  -- ---- constants and cells

  module _ (head : Form) (es : Forms) (at : Span) (is_def : form_at head ≡ Some kind.Def) where
    abbrev form : Form
    form = group Round (first head es) at

    entered_is : (f : NamedForm) (d : Defining) → named_form es ≡ Some f → defining_of f.form ≡ Some d → IfErr (Top form) (entered s f.name f.at at d)
    entered_is f d is eq =
        if_then (Top form) (literal most_depth d.value) (λ v. validator_named s.defined at d.validator >>= λ c. new_name s.defined f.name f.at >>= λ n. Ok (made v c n))
        (value (literal most_depth d.value) (literal_is most_depth d.value (subst OfLiteral eq (defining_is f.form))))
        (λ v. if_then (Top form) (validator_named s.defined at d.validator) (λ c. new_name s.defined f.name f.at >>= λ n. Ok (made v c n)) (validator d.validator refl)
        (λ c. if_then (Top form) (new_name s.defined f.name f.at) (λ n. Ok (made v c n)) (name_is f.name f.at form (by_def head es at f is_def is)) (λ n. tt)))
      where
        made : Value → Option Callee → List ℕ → State
        made v c n = with_definition d.sort s n v (record { callee = c; at = validator_place at d.validator })

        value : (a : Answer Value) → IfErr (LiteralFault most_depth d.value) a → IfErr (Top form) a
        value (Ok v) h = tt
        value (Err e) h = of_itself form (subst (λ k. HasTopFault s k e.at form) (sym h.0) (defines_too_much head es at e.at f d is_def is eq h.1))

        of_validator : (v : Form) → d.validator ≡ Some v → (a : Answer Callee) → IfErr (Refused s at v) a → IfErr (Top form) (a >>= λ c. Ok (Some c))
        of_validator v same (Ok c) h = tt
        of_validator v same (Err e) h = of_itself form (defines_with_validator e.kind head es at e.at f d v is_def is eq same h)

        validator : (o : Option Form) → d.validator ≡ o → IfErr (Top form) (validator_named s.defined at o)
        validator None same = tt
        validator (Some v) same = of_validator v same (callee_of (top_scope s.defined) (spot_at 1001 at true) v) (called_is s at v)

    one_is : (f : NamedForm) → named_form es ≡ Some f → (o : Option Defining) → defining_of f.form ≡ o → IfErr (Top form) (defined_as_one s f.name f.at at o)
    one_is f is None eq = of_itself form (defines_no_literal head es at f is_def is eq)
    one_is f is (Some d) eq = by (nat_lt s.defs 1000) refl
      where
        by : (y : Bool) → nat_lt s.defs 1000 ≡ y → IfErr (Top form) (if y then entered s f.name f.at at d else refuse TooMany at)
        by true lt = entered_is f d is eq
        by false lt = let le : 1000 ≤ s.defs = grind (arith, nat_tests, lt) in of_itself form (defines_too_many head es at is_def le)

    def_is : (o : Option NamedForm) → named_form es ≡ o → IfErr (Top form) (defined_at s at o)
    def_is None is = of_itself form (defines_other head es at is_def is)
    def_is (Some f) is = one_is f is (defining_of f.form) refl

  -- ---- functions

  -- the parameters of a function are symbols
  abbrev OfSymbols : Option Written → Type 0
  OfSymbols (Some w) = are_symbols w.parameters ≡ true
  OfSymbols None = Unit {0}

  behind_is : (name : List ℕ) (there : Span) (fs : Forms) → OfSymbols (written_behind name there fs)
  behind_is name there no_forms = tt
  behind_is name there (first (leaf x here) rest) = tt
  behind_is name there (first (group Round ps here) rest) = tt
  behind_is name there (first (group Square ps here) rest) = by (are_symbols ps) refl
    where
      by : (y : Bool) → are_symbols ps ≡ y → OfSymbols (if y then Some (record { name = name; at = there; parameters = ps; body = rest }) else None)
      by true is = is
      by false is = tt

  written_is : (fs : Forms) → OfSymbols (written fs)
  written_is no_forms = tt
  written_is (first (leaf nil there) rest) = tt
  written_is (first (leaf (truth b) there) rest) = tt
  written_is (first (leaf (number z) there) rest) = tt
  written_is (first (leaf (text t) there) rest) = tt
  written_is (first (leaf (keyword k) there) rest) = tt
  written_is (first (leaf (symbol name) there) rest) = behind_is name there (untold rest)
  written_is (first (group b fs there) rest) = tt

  abbrev Names : Form → ℕ → Forms → Type 0
  Names f n ps = (name : List ℕ) (there : Span) (i : ℕ) → IsNth (leaf (symbol name) there) i ps
      → (may_bind name ≡ false → HasTopFault s BadForm there f) × (most_parameters ≤ n + i → HasTopFault s TooMany there f)

  parameters_are : (f : Form) (names : List (List ℕ)) (ps : Forms) → are_symbols ps ≡ true → Names f (length names) ps → IfErr (Top f) (parameters names ps)
  parameters_are f names no_forms h faults = tt
  parameters_are f names (first (leaf nil there) rest) h faults = absurd (false≢true h)
  parameters_are f names (first (leaf (truth b) there) rest) h faults = absurd (false≢true h)
  parameters_are f names (first (leaf (number z) there) rest) h faults = absurd (false≢true h)
  parameters_are f names (first (leaf (text t) there) rest) h faults = absurd (false≢true h)
  parameters_are f names (first (leaf (keyword k) there) rest) h faults = absurd (false≢true h)
  parameters_are f names (first (group b fs there) rest) h faults = absurd (false≢true h)
  parameters_are f names (first (leaf (symbol name) there) rest) h faults =
      by
      (parameters_are f (name ∷ names) rest h (λ other here i is. let both = faults other here (suc i) (nth_later i (leaf (symbol name) there) rest is) in (both.0, λ le. both.1 (omega (arith, le)))))
      (may_bind name) refl (nat_lt (length names) 20) refl
    where
      by : IfErr (Top f) (parameters (name ∷ names) rest) → (y : Bool) → may_bind name ≡ y → (z : Bool) → nat_lt (length names) 20 ≡ z
          → IfErr (Top f) ((if y then (if z then Ok name else refuse TooMany there) else refuse BadForm there) >>= λ n. parameters (n ∷ names) rest)
      by again false is z eq = of_itself f ((faults name there 0 (nth_now rest)).0 is)
      by again true is false eq = let le : 20 ≤ length names = grind (arith, nat_tests, eq) in of_itself f ((faults name there 0 (nth_now rest)).1 (omega (arith, le)))
      by again true is true eq = again

  module _ (head : Form) (es : Forms) (at : Span) (is_defn : form_at head ≡ Some kind.Defn) where
    abbrev defn : Form
    defn = group Round (first head es) at

    body_is : (w : Written) → written es ≡ Some w → (a : Answer (List (List ℕ))) → parameters [] w.parameters ≡ a → IfErr (Top defn) a
        → IfErr (Top defn) (a >>= λ locals. named most_levels (record { locals = locals; defined = s.defined; current = Some w.name }) true (body w.body at) >>= λ node. Ok (with_function s w.name (length locals) node at))
    body_is w is (Err e) eq h = h
    body_is w is (Ok locals) eq h = by (named most_levels (record { locals = locals; defined = s.defined; current = Some w.name }) true (body w.body at)) refl
      where
        by : (a : Answer Tree) → named most_levels (record { locals = locals; defined = s.defined; current = Some w.name }) true (body w.body at) ≡ a → IfErr (Top defn) (a >>= λ node. Ok (with_function s w.name (length locals) node at))
        by (Ok t) same = tt
        by (Err e) same = of_body head es at w locals is_defn is eq (fault_in_form most_levels (record { locals = locals; defined = s.defined; current = Some w.name }) true (body w.body at) e same)

    -- a name that is new is the name itself
    new_is : (w : Written) → written es ≡ Some w
        → IfErr (Top defn) (new_name s.defined w.name w.at >>= λ name. parameters [] w.parameters >>= λ locals. named most_levels (record { locals = locals; defined = s.defined; current = Some name }) true (body w.body at) >>= λ node. Ok (with_function s name (length locals) node at))
    new_is w is = by (may_bind w.name) refl (is_free s w.name) refl
      where
        d : Defines w.name w.at (group Round (first head es) at)
        d = by_defn head es at w is_defn is

        by : (y : Bool) → may_bind w.name ≡ y → (z : Bool) → is_free s w.name ≡ z
            → IfErr (Top defn) ((if y then (if z then Ok w.name else refuse Redefined w.at) else refuse BadForm w.at) >>= λ name. parameters [] w.parameters >>= λ locals. named most_levels (record { locals = locals; defined = s.defined; current = Some name }) true (body w.body at) >>= λ node. Ok (with_function s name (length locals) node at))
        by false isnt z eq = of_itself (group Round (first head es) at) (defines_reserved w.name w.at (group Round (first head es) at) d isnt)
        by true may false eq = of_itself (group Round (first head es) at) (defines_again w.name w.at (group Round (first head es) at) d eq)
        by true may true eq = body_is w is (parameters [] w.parameters) refl
            (parameters_are defn [] w.parameters (subst OfSymbols is (written_is es))
            (λ name there i k. (λ isnt. parameter_reserved name there i defn (has_parameter head es at w is_defn is k) isnt, λ le. parameters_too_many name there i defn (has_parameter head es at w is_defn is k) (omega (arith, le)))))

    function_is : (o : Option Written) → written es ≡ o → IfErr (Top defn) (function s at o)
    function_is None is = of_itself defn (defines_no_function head es at is_defn is)
    function_is (Some w) is = by (nat_lt (length s.functions) 1000) refl
      where
        by : (y : Bool) → nat_lt (length s.functions) 1000 ≡ y
            → IfErr (Top defn) (if y then (new_name s.defined w.name w.at >>= λ name. parameters [] w.parameters >>= λ locals. named most_levels (record { locals = locals; defined = s.defined; current = Some name }) true (body w.body at) >>= λ node. Ok (with_function s name (length locals) node at)) else refuse TooMany at)
        by true lt = new_is w is
        by false lt = let le : 1000 ≤ length s.functions = grind (arith, nat_tests, lt) in of_itself defn (functions_too_many head es at is_defn le)

  -- ---- threads

  future_is : (head : Form) (es : Forms) (at : Span) → form_at head ≡ Some kind.Future → IfErr (Top (group Round (first head es) at)) (future s at es)
  future_is head es at is_future = by (nat_lt (length s.threads) 64) refl
    where
      inside : (a : Answer Tree) → named most_levels (record { locals = []; defined = s.defined; current = None }) false (body es at) ≡ a → IfErr (Top (group Round (first head es) at)) (a >>= λ node. Ok (with_thread s node at))
      inside (Ok t) same = tt
      inside (Err e) same = of_thread head es at is_future (fault_in_form most_levels (record { locals = []; defined = s.defined; current = None }) false (body es at) e same)

      by : (y : Bool) → nat_lt (length s.threads) 64 ≡ y
          → IfErr (Top (group Round (first head es) at)) (if y then (named most_levels (record { locals = []; defined = s.defined; current = None }) false (body es at) >>= λ node. Ok (with_thread s node at)) else refuse TooMany at)
      by true lt = inside (named most_levels (record { locals = []; defined = s.defined; current = None }) false (body es at)) refl
      by false lt = let le : 64 ≤ length s.threads = grind (arith, nat_tests, lt) in of_itself (group Round (first head es) at) (threads_too_many head es at is_future le)

  -- ---- any form of the top level

  module _ (head : Form) (es : Forms) (at : Span) where
    other_is : (o : Option FormName) → form_at head ≡ o → is_definition o ≡ false → FaultAtTop s (record { kind = BadForm; at = at }) (group Round (first head es) at)
    other_is o is eq = of_itself (group Round (first head es) at) (is_no_definition (group Round (first head es) at) (ap is_definition is ∙ eq))

    top_is : (o : Option FormName) → form_at head ≡ o → IfErr (Top (group Round (first head es) at)) (top_level o s at es)
    top_is None is = other_is None is refl
    top_is (Some kind.Def) is = def_is head es at is (named_form es) refl
    top_is (Some kind.Defn) is = function_is head es at is (written es) refl
    top_is (Some kind.Future) is = future_is head es at is
    top_is (Some kind.Ns) is = other_is (Some kind.Ns) is refl
    top_is (Some kind.If) is = other_is (Some kind.If) is refl
    top_is (Some kind.Do) is = other_is (Some kind.Do) is refl
    top_is (Some kind.Let) is = other_is (Some kind.Let) is refl
    top_is (Some kind.Loop) is = other_is (Some kind.Loop) is refl
    top_is (Some kind.Recur) is = other_is (Some kind.Recur) is refl
    top_is (Some kind.When) is = other_is (Some kind.When) is refl
    top_is (Some kind.WhenNot) is = other_is (Some kind.WhenNot) is refl
    top_is (Some kind.IfNot) is = other_is (Some kind.IfNot) is refl
    top_is (Some kind.And) is = other_is (Some kind.And) is refl
    top_is (Some kind.Or) is = other_is (Some kind.Or) is refl
    top_is (Some kind.Cond) is = other_is (Some kind.Cond) is refl
    top_is (Some kind.Println) is = other_is (Some kind.Println) is refl
    top_is (Some kind.Dosync) is = other_is (Some kind.Dosync) is refl
    top_is (Some kind.Deref) is = other_is (Some kind.Deref) is refl
    top_is (Some kind.RefSet) is = other_is (Some kind.RefSet) is refl
    top_is (Some kind.Alter) is = other_is (Some kind.Alter) is refl
    top_is (Some kind.Commute) is = other_is (Some kind.Commute) is refl
    top_is (Some kind.Ensure) is = other_is (Some kind.Ensure) is refl
    top_is (Some kind.Swap) is = other_is (Some kind.Swap) is refl
    top_is (Some kind.Reset) is = other_is (Some kind.Reset) is refl
    top_is (Some kind.Send) is = other_is (Some kind.Send) is refl
    top_is (Some kind.Ref) is = other_is (Some kind.Ref) is refl
    top_is (Some kind.Atom) is = other_is (Some kind.Atom) is refl
    top_is (Some kind.Agent) is = other_is (Some kind.Agent) is refl

  step_is : (f : Form) → IfErr (Top f) (step s f)
  step_is (leaf x at) = of_itself (leaf x at) (is_no_definition (leaf x at) refl)
  step_is (group Square fs at) = of_itself (group Square fs at) (is_no_definition (group Square fs at) refl)
  step_is (group Round no_forms at) = of_itself (group Round no_forms at) (is_no_definition (group Round no_forms at) refl)
  step_is (group Round (first head es) at) = top_is head es at (form_at head) refl

-- ---- scripts

pub fault_in_script : (forms : List Form) (e : ResolveError) → ResolveStops forms e → FaultInScript forms e
fault_in_script forms e h =
    let stop = stops_at forms e h in
    record { stop = stop; fault = subst (IfErr (λ d. FaultAtTop stop.defined d stop.form)) stop.refused (step_is stop.defined stop.form) }
