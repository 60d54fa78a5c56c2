-- The program that the forms of a script are names its own cells alone.
use Rattle.std.proofs.Common.{◌≡◌, ◌||◌, ◌==◌, ◌-◌, ℕ, zero, suc, Bool, true, false, nat_lt, if◌then◌else◌, List, [], ◌∷◌, ◌++◌, length, Option, Some, None, Ok, Err, refl, sym, subst}
use Rattle.txs_value_data.specs.Limits.{most_definitions, most_depth, most_items, most_levels, most_threads}
use Rattle.txs_value_data.specs.PlainValue.{PlainValue, nil, truth, int, key, text, vector, cell, PlainValues, end, plain_row}
use Rattle.txs_value_data.specs.PlainValue as plain
use Rattle.txs_value_data.specs.View.{plain_of, plains_of}
use Rattle.txs_value_cell.specs.declared.cell.CellDefinition.{CellDefinition}
use Rattle.txs_value_data.specs.declared.fault.Span.{Span}
use Rattle.txs_value_data.specs.declared.op.Callee.{Callee}
use Rattle.txs_value_data.specs.declared.value.CellKind.{CellKind}
use Rattle.txs_value_data.specs.declared.value.Value.{Value}
use Rattle.txs_value_data.specs.declared.value.Value.TheVariants.{Cell, Vector}
use Rattle.txs_reader.specs.declared.form.Bracket.TheVariants.{Round, Square}
use Rattle.txs_reader.specs.Tree.{PlainForm as Form, PlainForms as Forms, Leaf, leaf, group, first, place, number, symbol, keyword, parts}
use Rattle.txs_reader.specs.Tree as form
use Rattle.txs_tree_meaning.specs.Known.{known, levels}
use Rattle.txs_tree_meaning.specs.Tree.{Tree, Trees, Mark, Const, Local, Put, more, PlainFunction, PlainThread, PlainProgram}
use Rattle.txs_code_meaning.specs.OwnCells.{kind_at, HoldsDefined, RowHoldsDefined, NamesDefined, NameDefined, NamesNone, OpeningsNameNone}
use Rattle.txs_resolve_expand.specs.declared.names.FormName.{FormName}
use Rattle.txs_resolve_expand.specs.declared.names.FormName.TheVariants as kind
use Rattle.txs_resolve_expand.specs.declared.scope.Definition.{Definition}
use Rattle.txs_resolve_expand.specs.declared.scope.Definition.TheVariants.{Constant, Cell as ACell, Function as AFunction}
use Rattle.txs_resolve_expand.specs.Scope.{Scope, Entry, Meaning, a_form, dotted, a_local, the_current, defined_as, operation, unknown, meaning, with_local}
use Rattle.txs_resolve_expand.proofs.Meanings.{AllDefined, definition_so, meaning_so}
use Rattle.txs_resolve.specs.declared.definition.CellSort.{CellSort}
use Rattle.txs_resolve.specs.declared.definition.Validation.{Validation}
use Rattle.txs_resolve_expand.specs.declared.error.ResolveError.{ResolveError}
use Rattle.txs_resolve_expand.specs.declared.error.ResolveErrorKind.TheVariants.{TooMany}
use Rattle.txs_resolve_expand.specs.declared.shapes.Change.{Change}
use Rattle.txs_resolve_expand.specs.declared.shapes.Change.TheVariants as change_by
use Rattle.txs_resolve_expand.specs.declared.shapes.Sequence.{Sequence}
use Rattle.txs_resolve_expand.specs.declared.shapes.Sequence.TheVariants as sequence
use Rattle.txs_resolve_expand.specs.declared.shapes.Single.{Single}
use Rattle.txs_resolve_expand.specs.declared.shapes.Single.TheVariants as single
use Rattle.txs_resolve_expand.specs.declared.shapes.Spot.{Spot}
use Rattle.txs_resolve_expand.specs.Answers.{◌>>=◌, refuse}
use Rattle.txs_resolve_expand.specs.Expansions.{alone, body, expand_once, form_at}
use Rattle.txs_resolve_expand.specs.Expressions.{Answer, Bound, Special, row, one_part, putting, choice, binding, changing, Core as ACore, whole, parted, Resolver, spot_at, spot_mark, in_room, some_room, narrow, symbol_node, leaf_node, leaf_value, callee_of, flag, sequence_node, are_wanted, choice_node, single_node, is_wanted, change_node, binding_node, core_of, bound_name, named_all, named_bindings, put_together, made, resolved, named}
use Rattle.txs_resolve.specs.Literals.{literal, literals}
use Rattle.txs_resolve_expand.specs.Namespace.{behind_namespace}
use Rattle.txs_resolve.specs.Names.{State, nothing, program, new_name, Defining, defining_of, new_cell, validator_named, validator_place, with_definition, entered, defined_as_one, NamedForm, named_form, defined_at, parameters, Written, written, with_function, function, with_thread, future, top_level, step, steps, Resolves}
use Rattle.txs_resolve.proofs.Scoping.{Every, then_every, one_every, two_every, three_every, if_every}
use Rattle.txs_gen.specs.Generated.{constants_of, constants_in, constants_of_functions, constants_of_threads}
use Rattle.txs_gen.specs.OwnCells.{ProgramNamesOwnCells}

-- ---- where more cells are defined

abbrev IsThere : {A : Type 0} → Option A → Type 0
IsThere None = ⊥
IsThere (Some x) = Unit {0}

kind_front : (cells others : List CellDefinition) (n : ℕ) (k : CellKind) → kind_at cells n ≡ Some k → kind_at (cells ++ others) n ≡ Some k
kind_front [] others n k h = absurd (subst IsThere (sym h) tt)
kind_front (d ∷ ds) others zero k h = h
kind_front (d ∷ ds) others (suc n) k h = kind_front ds others n k h

kind_last : (cells : List CellDefinition) (d : CellDefinition) → kind_at (cells ++ d ∷ []) (length cells) ≡ Some d.kind
kind_last [] d = refl
kind_last (c ∷ cells) d = kind_last cells d

module _ (cells others : List CellDefinition) where
  mutual
    plain_front : (d : PlainValue) → HoldsDefined cells d → HoldsDefined (cells ++ others) d
    plain_front nil h = tt
    plain_front (truth b) h = tt
    plain_front (int z) h = tt
    plain_front (key bs) h = tt
    plain_front (text bs) h = tt
    plain_front (vector ds) h = row_front ds h
    plain_front (cell c) h = kind_front cells others c.number c.kind h

    row_front : (ds : PlainValues) → RowHoldsDefined cells ds → RowHoldsDefined (cells ++ others) ds
    row_front end h = tt
    row_front (plain.more d ds) h = (plain_front d h.0, row_front ds h.1)

  names_front : (v : Value) → NamesDefined cells v → NamesDefined (cells ++ others) v
  names_front v h = plain_front (plain_of v) h

  all_front : (vs : List Value) → NameDefined cells vs → NameDefined (cells ++ others) vs
  all_front [] h = tt
  all_front (v ∷ vs) h = (names_front v h.0, all_front vs h.1)

openings_more : (cells : List CellDefinition) (d : CellDefinition) → OpeningsNameNone cells → NamesNone d.opening → OpeningsNameNone (cells ++ d ∷ [])
openings_more [] d h k = (k, tt)
openings_more (c ∷ cells) d h k = (h.0, openings_more cells d h.1 k)

-- ---- literals hold no cell

row_of : (cells : List CellDefinition) (vs : List Value) → NameDefined cells vs → RowHoldsDefined cells (plain_row (plains_of vs))
row_of cells [] h = tt
row_of cells (v ∷ vs) h = (h.0, row_of cells vs h.1)

leaf_holds : (cells : List CellDefinition) (x : Leaf) → NamesDefined cells (leaf_value x)
leaf_holds cells form.nil = tt
leaf_holds cells (form.truth b) = tt
leaf_holds cells (number z) = tt
leaf_holds cells (form.text bytes) = tt
leaf_holds cells (keyword name) = tt
leaf_holds cells (symbol name) = tt

abbrev AllNone : List Value → Type 0
AllNone vs = NameDefined [] vs

unless_every : {A : Type 0} (P : A → Type 0) (b : Bool) (a : Answer A) (e : ResolveError) → Every P a → Every P (if b then Err e else a)
unless_every P true a e h = tt
unless_every P false a e h = h

mutual
  literal_none : (room : ℕ) (f : Form) → Every NamesNone (literal room f)
  literal_none room (leaf form.nil at) = tt
  literal_none room (leaf (form.truth b) at) = tt
  literal_none room (leaf (number z) at) = tt
  literal_none room (leaf (form.text bytes) at) = tt
  literal_none room (leaf (keyword name) at) = tt
  literal_none room (leaf (symbol name) at) = tt
  literal_none room (group Round forms at) = tt
  literal_none room (group Square forms at) =
      unless_every NamesNone (room == 0 || nat_lt most_items (parts forms)) (literals (room - 1) forms >>= λ vs. Ok (Vector (plains_of vs))) (record { kind = TooMany; at = at })
      (one_every AllNone NamesNone (literals (room - 1) forms) (λ vs. Vector (plains_of vs)) (literals_none (room - 1) forms) (λ vs h. row_of [] vs h))

  literals_none : (room : ℕ) (forms : Forms) → Every AllNone (literals room forms)
  literals_none room form.none = tt
  literals_none room (first e rest) = two_every NamesNone AllNone AllNone (literal room e) (literals room rest) (λ v vs. v ∷ vs) (literal_none room e) (literals_none room rest) (λ v vs h k. (h, k))

-- ---- lists of constants

pub both : (cells : List CellDefinition) (vs ws : List Value) → NameDefined cells vs → NameDefined cells ws → NameDefined cells (vs ++ ws)
both cells [] ws h k = k
both cells (v ∷ vs) ws h k = (h.0, both cells vs ws h.1 k)

pub ahead : (cells : List CellDefinition) (vs ws : List Value) → NameDefined cells (vs ++ ws) → NameDefined cells vs
ahead cells [] ws h = tt
ahead cells (v ∷ vs) ws h = (h.0, ahead cells vs ws h.1)

pub behind : (cells : List CellDefinition) (vs ws : List Value) → NameDefined cells (vs ++ ws) → NameDefined cells ws
behind cells [] ws h = h
behind cells (v ∷ vs) ws h = behind cells vs ws h.1

-- ---- answers

room_every : {A : Type 0} (P : A → Type 0) (n : ℕ) (e : ResolveError) (a : Answer A) → Every P a → Every P (some_room n (Err e) a)
room_every P zero e a h = tt
room_every P (suc n) e a h = h

-- nothing is said of it
abbrev Any : {A : Type 0} → A → Type 0
Any x = Unit {0}

any : {A : Type 0} (a : Answer A) → Every Any a
any (Ok x) = tt
any (Err e) = tt

narrow_every : (P : Trees → Type 0) (n : ℕ) (s : Spot) (a : Answer Trees) → Every P a → Every P (narrow n s a)
narrow_every P n s a h = unless_every P (nat_lt most_items n) a (record { kind = TooMany; at = s.span }) h

module _ (cells : List CellDefinition) where
  -- ---- what names stand for

  -- a constant names defined cells alone, and a cell is one of them
  abbrev IsNamed : Definition → Type 0
  IsNamed (Constant v) = NamesDefined cells v
  IsNamed (ACell c) = kind_at cells c.number ≡ Some c.kind
  IsNamed (AFunction n l) = Unit {0}

  abbrev AreNamed : List Entry → Type 0
  AreNamed es = AllDefined IsNamed es

  abbrev Meant : Meaning → Type 0
  Meant (a_form f) = Unit {0}
  Meant dotted = Unit {0}
  Meant (a_local i) = Unit {0}
  Meant the_current = Unit {0}
  Meant (defined_as what) = IsNamed what
  Meant (operation op) = Unit {0}
  Meant unknown = Unit {0}

  meaning_meant : (name : List ℕ) (scope : Scope) → AreNamed scope.defined → Meant (meaning name scope)
  meaning_meant name scope h = meaning_so Meant (λ f. tt) tt (λ op. tt) tt name scope (λ i e. tt) (λ e. tt) (λ d e. definition_so IsNamed name scope.defined h d e)

  -- ---- trees

  -- each constant of a tree names defined cells alone
  abbrev Names : Tree → Type 0
  Names t = NameDefined cells (constants_of t)

  abbrev AllName : Trees → Type 0
  AllName ts = NameDefined cells (constants_in ts)

  constant_names : (s : Spot) (v : Value) → NamesDefined cells v → Every Names (in_room s (Ok (Const v (spot_mark s))))
  constant_names s v h = room_every Names s.room (record { kind = TooMany; at = s.span }) (Ok (Const v (spot_mark s))) (h, tt)

  symbol_names : (m : Meaning) (s : Spot) → Meant m → Every Names (symbol_node m s)
  symbol_names (a_form f) s h = tt
  symbol_names dotted s h = tt
  symbol_names (a_local i) s h = room_every Names s.room (record { kind = TooMany; at = s.span }) (Ok (Local i (spot_mark s))) tt
  symbol_names the_current s h = tt
  symbol_names (defined_as (Constant v)) s h = constant_names s v h
  symbol_names (defined_as (ACell c)) s h = constant_names s (Cell c) h
  symbol_names (defined_as (AFunction n l)) s h = tt
  symbol_names (operation op) s h = tt
  symbol_names unknown s h = tt

  leaf_names : (scope : Scope) (x : Leaf) (s : Spot) → AreNamed scope.defined → Every Names (leaf_node scope x s)
  leaf_names scope (symbol name) s h = symbol_names (meaning name scope) s (meaning_meant name scope h)
  leaf_names scope form.nil s h = constant_names s (leaf_value form.nil) (leaf_holds cells form.nil)
  leaf_names scope (form.truth b) s h = constant_names s (leaf_value (form.truth b)) (leaf_holds cells (form.truth b))
  leaf_names scope (number z) s h = constant_names s (leaf_value (number z)) (leaf_holds cells (number z))
  leaf_names scope (form.text bytes) s h = constant_names s (leaf_value (form.text bytes)) (leaf_holds cells (form.text bytes))
  leaf_names scope (keyword name) s h = constant_names s (leaf_value (keyword name)) (leaf_holds cells (keyword name))

  sequence_names : (k : Sequence) (ts : Trees) (m : Mark) → AllName ts → Names (sequence_node k ts m)
  sequence_names sequence.Do ts m h = h
  sequence_names sequence.Recur ts m h = h
  sequence_names sequence.Println ts m h = h
  sequence_names sequence.Vector ts m h = h
  sequence_names (sequence.Core op) ts m h = h
  sequence_names (sequence.Call n) ts m h = h

  single_names : (k : Single) (t : Tree) (m : Mark) → Names t → Names (single_node k t m)
  single_names single.Dosync t m h = h
  single_names (single.Look look) t m h = h

  choice_names : (turned : Bool) (test a b : Tree) (m : Mark) → Names test → Names a → Names b → Names (choice_node turned test a b m)
  choice_names false test a b m h k l = both cells (constants_of test) (constants_of a ++ constants_of b) h (both cells (constants_of a) (constants_of b) k l)
  choice_names true test a b m h k l = both cells (constants_of test) (constants_of b ++ constants_of a) h (both cells (constants_of b) (constants_of a) l k)

  binding_names : (is_loop : Bool) (values : Trees) (body : Tree) (m : Mark) → AllName values → Names body → Names (binding_node is_loop values body m)
  binding_names false values body m h k = both cells (constants_in values) (constants_of body) h k
  binding_names true values body m h k = both cells (constants_in values) (constants_of body) h k

  change_names : (k : Change) (t : Tree) (callee : Callee) (args : Trees) (m : Mark) → Names t → AllName args → Names (change_node k t callee args m)
  change_names (change_by.Update update) t callee args m h k = both cells (constants_of t) (constants_in args) h k
  change_names change_by.Send t callee args m h k = both cells (constants_of t) (constants_in args) h k

  abbrev BoundNames : Bound → Type 0
  BoundNames b = AllName b.values × AreNamed b.scope.defined

  -- the parts of a form name defined cells alone
  abbrev Deeper : Resolver → Type 0
  Deeper by = (scope : Scope) (wanted : Bool) (f : Form) → AreNamed scope.defined → Every Names (by scope wanted f)

  module _ (by : Resolver) (each : Deeper by) where
    all_named : (scope : Scope) (inner last : Bool) (forms : Forms) → AreNamed scope.defined → Every AllName (named_all by scope inner last forms)
    all_named scope inner last form.none h = tt
    all_named scope inner last (first e rest) h =
        two_every Names AllName AllName (by scope (flag inner last rest) e) (named_all by scope inner last rest) (λ x y. more x y)
        (each scope (flag inner last rest) e h) (all_named scope inner last rest h) (λ x y p q. both cells (constants_of x) (constants_in y) p q)

    bindings_named : (pairs : Forms) (scope : Scope) → AreNamed scope.defined → Every BoundNames (named_bindings by scope pairs)
    bindings_named form.none scope h = (tt, h)
    bindings_named (first binder form.none) scope h = tt
    bindings_named (first binder (first e rest)) scope h =
        then_every Names BoundNames (by scope true e)
        (λ value. bound_name scope binder >>= λ name. named_bindings by (with_local name scope) rest >>= λ bound. Ok (record { values = more value bound.values; scope = bound.scope }))
        (each scope true e h)
        (λ value p. then_every Any BoundNames (bound_name scope binder)
        (λ name. named_bindings by (with_local name scope) rest >>= λ bound. Ok (record { values = more value bound.values; scope = bound.scope }))
        (any (bound_name scope binder))
        (λ name _. one_every BoundNames BoundNames (named_bindings by (with_local name scope) rest) (λ bound. record { values = more value bound.values; scope = bound.scope })
        (bindings_named rest (with_local name scope) h) (λ bound q. (both cells (constants_of value) (constants_in bound.values) p q.0, q.1))))

    put_named : (scope : Scope) (s : Spot) (f : Special) → AreNamed scope.defined → Every Names (put_together by scope s f)
    put_named scope s (row k forms) h =
        let items = named_all by scope (are_wanted k) (are_wanted k || s.wanted) forms in
        one_every AllName Names (narrow (parts forms) s items) (λ nodes. sequence_node k nodes (spot_mark s))
        (narrow_every AllName (parts forms) s items (all_named scope (are_wanted k) (are_wanted k || s.wanted) forms h))
        (λ ts p. sequence_names k ts (spot_mark s) p)
    put_named scope s (one_part k f) h =
        one_every Names Names (by scope (is_wanted k || s.wanted) f) (λ node. single_node k node (spot_mark s))
        (each scope (is_wanted k || s.wanted) f h) (λ node p. single_names k node (spot_mark s) p)
    put_named scope s (putting put r e) h =
        two_every Names Names Names (by scope true r) (by scope true e) (λ x y. Put put x y (spot_mark s))
        (each scope true r h) (each scope true e h) (λ x y p q. both cells (constants_of x) (constants_of y) p q)
    put_named scope s (choice turned c a b) h =
        three_every Names Names Names Names (by scope true c) (by scope s.wanted a) (by scope s.wanted b) (λ x y z. choice_node turned x y z (spot_mark s))
        (each scope true c h) (each scope s.wanted a h) (each scope s.wanted b h) (λ x y z p q r. choice_names turned x y z (spot_mark s) p q r)
    put_named scope s (binding is_loop pairs f) h =
        then_every BoundNames Names (named_bindings by scope pairs) (λ b. by b.scope s.wanted f >>= λ node. Ok (binding_node is_loop b.values node (spot_mark s)))
        (bindings_named pairs scope h)
        (λ b p. one_every Names Names (by b.scope s.wanted f) (λ node. binding_node is_loop b.values node (spot_mark s))
        (each b.scope s.wanted f p.1) (λ node q. binding_names is_loop b.values node (spot_mark s) p.0 q))
    put_named scope s (changing k r f args) h =
        let items = named_all by scope true true args in
        three_every Names Any AllName Names (by scope true r) (callee_of scope s f) (narrow (suc (parts args)) s items) (λ x y z. change_node k x y z (spot_mark s))
        (each scope true r h) (any (callee_of scope s f)) (narrow_every AllName (suc (parts args)) s items (all_named scope true true args h))
        (λ x y z p q r. change_names k x y z (spot_mark s) p r)

    made_named : (scope : Scope) (s : Spot) (c : ACore) → AreNamed scope.defined → Every Names (made by scope s c)
    made_named scope s (whole x) h = leaf_names scope x s h
    made_named scope s (parted f) h = room_every Names s.room (record { kind = TooMany; at = s.span }) (put_together by scope s f) (put_named scope s f h)

    resolved_named : (room : ℕ) (scope : Scope) (wanted : Bool) (f : Form) → AreNamed scope.defined → Every Names (resolved by room scope wanted f)
    resolved_named room scope wanted f h =
        let s = spot_at room (place f) wanted in
        then_every Any Names (core_of scope s (expand_once f)) (made by scope s) (any (core_of scope s (expand_once f))) (λ c _. made_named scope s c h)

  named_names : (room : ℕ) (scope : Scope) (wanted : Bool) (f : Form) → AreNamed scope.defined → Every Names (named room scope wanted f)
  unfolding named
  named_names zero scope wanted f h = resolved_named (λ _ _ e. refuse TooMany (place e)) (λ _ _ e _. tt) 0 scope wanted (alone f) h
  named_names (suc room) scope wanted f h = resolved_named (named room) (λ inner w e k. named_names room inner w e k) (suc room) scope wanted (alone f) h

  entries_more : (es : List Entry) (e : Entry) → AreNamed es → IsNamed e.what → AreNamed (es ++ e ∷ [])
  entries_more [] e h k = (k, tt)
  entries_more (d ∷ es) e h k = (h.0, entries_more es e h.1 k)

  functions_more : (fs : List PlainFunction) (f : PlainFunction) → NameDefined cells (constants_of_functions fs) → Names f.body → NameDefined cells (constants_of_functions (fs ++ f ∷ []))
  functions_more [] f h k = both cells (constants_of f.body) [] k tt
  functions_more (g ∷ fs) f h k =
      both cells (constants_of g.body) (constants_of_functions (fs ++ f ∷ [])) (ahead cells (constants_of g.body) (constants_of_functions fs) h)
      (functions_more fs f (behind cells (constants_of g.body) (constants_of_functions fs) h) k)

  threads_more : (ts : List PlainThread) (t : PlainThread) → NameDefined cells (constants_of_threads ts) → Names t.body → NameDefined cells (constants_of_threads (ts ++ t ∷ []))
  threads_more [] t h k = both cells (constants_of t.body) [] k tt
  threads_more (u ∷ ts) t h k =
      both cells (constants_of u.body) (constants_of_threads (ts ++ t ∷ [])) (ahead cells (constants_of u.body) (constants_of_threads ts) h)
      (threads_more ts t (behind cells (constants_of u.body) (constants_of_threads ts) h) k)

is_named_front : (cells others : List CellDefinition) (what : Definition) → IsNamed cells what → IsNamed (cells ++ others) what
is_named_front cells others (Constant v) h = names_front cells others v h
is_named_front cells others (ACell c) h = kind_front cells others c.number c.kind h
is_named_front cells others (AFunction n l) h = tt

are_named_front : (cells others : List CellDefinition) (es : List Entry) → AreNamed cells es → AreNamed (cells ++ others) es
are_named_front cells others [] h = tt
are_named_front cells others (e ∷ es) h = (is_named_front cells others e.what h.0, are_named_front cells others es h.1)

-- ---- scripts

-- what is defined so far names defined cells alone
record StateNames (s : State) : Type 0 where
  defined : AreNamed s.cells s.defined
  functions : NameDefined s.cells (constants_of_functions s.functions)
  threads : NameDefined s.cells (constants_of_threads s.threads)
  openings : OpeningsNameNone s.cells

definition_names : (sort : Option CellSort) (s : State) (name : List ℕ) (v : Value) (validation : Validation) → NamesNone v → StateNames s → StateNames (with_definition sort s name v validation)
definition_names None s name v validation n h = record {
  defined = entries_more s.cells s.defined (record { name = name; what = Constant v }) h.defined (names_front [] s.cells v n);
  functions = h.functions;
  threads = h.threads;
  openings = h.openings;
}
definition_names (Some sort) s name v validation n h =
    let d = new_cell name sort v validation.callee in
    let one = d ∷ [] in
    record {
      defined = entries_more (s.cells ++ one) s.defined (record { name = name; what = ACell (record { kind = sort.kind; number = length s.cells }) }) (are_named_front s.cells one s.defined h.defined) (kind_last s.cells d);
      functions = all_front s.cells one (constants_of_functions s.functions) h.functions;
      threads = all_front s.cells one (constants_of_threads s.threads) h.threads;
      openings = openings_more s.cells d h.openings n;
    }

one_names : (s : State) (name : List ℕ) (at span : Span) (o : Option Defining) → StateNames s → Every StateNames (defined_as_one s name at span o)
one_names s name at span None h = tt
one_names s name at span (Some d) h =
    let at_validator = validator_place span d.validator in
    if_every StateNames (nat_lt s.defs most_definitions) (entered s name at span d) (record { kind = TooMany; at = span })
    (λ _. three_every NamesNone Any Any StateNames (literal most_depth d.value) (validator_named s.defined span d.validator) (new_name s.defined name at) (λ v callee n. with_definition d.sort s n v (record { callee = callee; at = at_validator }))
    (literal_none most_depth d.value) (any (validator_named s.defined span d.validator)) (any (new_name s.defined name at))
    (λ v callee n k _ _. definition_names d.sort s n v (record { callee = callee; at = at_validator }) k h))

defined_names : (s : State) (span : Span) (o : Option NamedForm) → StateNames s → Every StateNames (defined_at s span o)
defined_names s span None h = tt
defined_names s span (Some f) h = one_names s f.name f.at span (defining_of f.form) h

function_defined : (s : State) (name : List ℕ) (n : ℕ) (t : Tree) (span : Span) → StateNames s → Names s.cells t → StateNames (with_function s name n t span)
function_defined s name n t span h p = record {
  defined = entries_more s.cells s.defined (record { name = name; what = AFunction (length s.functions) (levels (known s.functions) t) }) h.defined tt;
  functions = functions_more s.cells s.functions (record { parameters = n; body = t; span = span }) h.functions p;
  threads = h.threads;
  openings = h.openings;
}

function_names : (s : State) (span : Span) (o : Option Written) → StateNames s → Every StateNames (function s span o)
function_names s span None h = tt
function_names s span (Some w) h =
    if_every StateNames (nat_lt (length s.functions) most_definitions) (all >>= goes) (record { kind = TooMany; at = span })
    (λ _. then_every Any StateNames all goes (any all)
    (λ name _. then_every Any StateNames (parameters [] w.parameters) (rest name) (any (parameters [] w.parameters))
    (λ locals _. one_every (Names s.cells) StateNames (node name locals) (λ t. with_function s name (length locals) t span)
    (named_names s.cells most_levels (record { locals = locals; defined = s.defined; current = Some name }) true (body w.body span) h.defined)
    (λ t p. function_defined s name (length locals) t span h p)))) where
      all : Answer (List ℕ)
      all = new_name s.defined w.name w.at

      node : List ℕ → List (List ℕ) → Answer Tree
      node name locals = named most_levels (record { locals = locals; defined = s.defined; current = Some name }) true (body w.body span)

      rest : List ℕ → List (List ℕ) → Answer State
      rest name locals = node name locals >>= λ t. Ok (with_function s name (length locals) t span)

      goes : List ℕ → Answer State
      goes name = parameters [] w.parameters >>= rest name

future_names : (s : State) (span : Span) (forms : Forms) → StateNames s → Every StateNames (future s span forms)
future_names s span forms h =
    let node = named most_levels (record { locals = []; defined = s.defined; current = None }) false (body forms span) in
    if_every StateNames (nat_lt (length s.threads) most_threads) (node >>= λ t. Ok (with_thread s t span)) (record { kind = TooMany; at = span })
    (λ _. one_every (Names s.cells) StateNames node (λ t. with_thread s t span)
    (named_names s.cells most_levels (record { locals = []; defined = s.defined; current = None }) false (body forms span) h.defined)
    (λ t p. record { defined = h.defined; functions = h.functions; threads = threads_more s.cells s.threads (record { body = t; span = span }) h.threads p; openings = h.openings }))

top_names : (o : Option FormName) (s : State) (span : Span) (forms : Forms) → StateNames s → Every StateNames (top_level o s span forms)
top_names (Some kind.Def) s span forms h = defined_names s span (named_form forms) h
top_names (Some kind.Defn) s span forms h = function_names s span (written forms) h
top_names (Some kind.Future) s span forms h = future_names s span forms h
top_names _ s span forms h = tt

step_names : (s : State) (f : Form) → StateNames s → Every StateNames (step s f)
step_names s (leaf x at) h = tt
step_names s (group Square forms at) h = tt
step_names s (group Round form.none at) h = tt
step_names s (group Round (first head forms) at) h = top_names (form_at head) s at forms h

steps_names : (forms : List Form) (s : State) → StateNames s → Every StateNames (steps s forms)
steps_names [] s h = h
steps_names (f ∷ forms) s h = then_every StateNames StateNames (step s f) (λ t. steps t forms) (step_names s f h) (λ t g. steps_names forms t g)

-- the program that forms are names its own cells alone
pub names_own_cells : (forms : List Form) (p : PlainProgram) → Resolves forms p → ProgramNamesOwnCells p
names_own_cells forms p e =
    subst (Every ProgramNamesOwnCells) e
    (one_every StateNames ProgramNamesOwnCells (steps nothing (behind_namespace forms)) program
    (steps_names (behind_namespace forms) nothing (record { defined = tt; functions = tt; threads = tt; openings = tt }))
    (λ s h. record { functions = h.functions; threads = h.threads; openings = h.openings }))
