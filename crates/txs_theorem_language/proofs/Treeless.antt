-- A form in which one has a fault has no tree.
use Rattle.std.proofs.Common.{◌≡◌, ◌≢◌, ℕ, zero, suc, ◌+◌, ◌<◌, ◌≤◌, ◌⊎◌, inl, inr, Bool, true, false, ◌||◌, nat_lt, List, [], length, Option, Some, None, Ok, Err, refl, sym, subst, arith, if◌then◌else◌}
use Rattle.std.proofs.lemmas.Bool.{false≢true}
use Rattle.std.proofs.lemmas.Bool.Decides.{nat_tests}
use Rattle.std.specs.List.{list_any}
use Rattle.txs_value_data.specs.Operations.{op_name, operations}
use Rattle.txs_value_data.specs.Limits.{most_items, most_locals}
use Rattle.txs_value_data.specs.declared.fault.Span.{Span}
use Rattle.txs_value_data.specs.declared.op.Callee.{Callee}
use Rattle.txs_value_data.specs.declared.op.Callee.TheVariants.{Core as CoreOp, Function as TheFunction}
use Rattle.txs_value_cell.specs.declared.form.UpdateForm.TheVariants.{Alter, Commute, Swap}
use Rattle.txs_reader.specs.declared.form.Bracket.TheVariants.{Round, Square}
use Rattle.txs_reader.specs.Tree.{PlainForm as Form, PlainForms as Forms, leaf, group, first, place, number, symbol, nil, truth, text, keyword, parts}
use Rattle.txs_reader.specs.Tree.{none as no_forms}
use Rattle.txs_tree_meaning.specs.Tree.{Tree, Put, more}
use Rattle.txs_resolve_expand.specs.declared.names.FormName.{FormName}
use Rattle.txs_resolve_expand.specs.declared.names.FormName.TheVariants as kind
use Rattle.txs_resolve_expand.specs.declared.scope.Definition.TheVariants.{Constant, Cell as ACell, Function as AFunction}
use Rattle.txs_value_data.specs.Places.{with_name}
use Rattle.txs_resolve_expand.specs.Scope.{Scope, Meaning, a_form, dotted, a_local, the_current, defined_as, operation, unknown, definition_of, form_name, form_names, is_current, is_dot, local_number, may_bind, meaning, or_defined, or_form, or_local, or_unknown, with_local}
use Rattle.txs_resolve_expand.specs.declared.error.ResolveError.{ResolveError}
use Rattle.txs_resolve_expand.specs.declared.error.ResolveErrorKind.{ResolveErrorKind}
use Rattle.txs_resolve_expand.specs.declared.error.ResolveErrorKind.TheVariants.{BadForm, TooMany}
use Rattle.txs_resolve_expand.specs.declared.shapes.Sequence.{Sequence}
use Rattle.txs_resolve_expand.specs.declared.shapes.Sequence.TheVariants as sequence
use Rattle.txs_resolve_expand.specs.declared.shapes.Change.{Change}
use Rattle.txs_resolve_expand.specs.declared.shapes.Change.TheVariants as change_by
use Rattle.txs_resolve_expand.specs.declared.shapes.Spot.{Spot}
use Rattle.txs_resolve_expand.specs.Answers.{◌>>=◌, refuse}
use Rattle.txs_resolve_expand.specs.Expansions.{alone, body, expand_once, expansion, form_at, hidden, list, three, two}
use Rattle.txs_resolve_expand.specs.Expressions.{Answer, Bound, Special, row, binding, changing, Core as ACore, whole, parted, Resolver, spot_at, spot_mark, some_room, narrow, symbol_node, callee_at, callee_of, flag, sequence_node, are_wanted, choice_node, single_node, is_wanted, change_node, binding_node, are_pairs, is_symbol, all_but_last, last_of, applied, core_of, bound_name, named_all, named_bindings, put_together, made, resolved, named}
use Rattle.txs_theorem_language.specs.Standing.{IsOne, one_now, one_later, IsValue, value_now, value_later, IsPart, in_row, in_one, in_filled, in_value, in_test, in_first, in_second, in_bound, in_body, in_cell, in_argument, StandsIn, is_whole, in_part}
use Rattle.txs_theorem_language.specs.Faults.{has_shape, is_no_value, is_no_function, applies, IsCalled, at_head, behind_cell, IsBound, bound_now, bound_later, Binds, in_let, in_loop, hides_local, is_row, Counts, of_vector, of_row, of_operation, of_function, of_change, HasFault, is_unknown, calls_unknown, is_no_value_here, calls_dotted, is_empty, has_other_shape, binds_reserved, calls_no_symbol, calls_no_function, calls_local, calls_itself, finds_no_level, calls_too_deep, binds_too_many, hides_too_many, is_too_wide, FaultInForm}
use Rattle.txs_theorem_language.proofs.Faults.{by_name, core_named, core_called}
use Rattle.txs_theorem_language.proofs.Told.{ScopeIs, behind_is}

-- ---- answers

-- it is a refusal
abbrev pub IsRefused : {A : Type 0} → Answer A → Type 0
IsRefused (Ok x) = ⊥
IsRefused (Err e) = Unit {0}

-- the first is refused, or whatever it is, the next
pub now : {A B : Type 0} (a : Answer A) (f : A → Answer B) → IsRefused a → IsRefused (a >>= f)
now (Ok x) f h = absurd h
now (Err e) f h = tt

pub next : {A B : Type 0} (a : Answer A) (f : A → Answer B) → ((x : A) → IsRefused (f x)) → IsRefused (a >>= f)
next (Ok x) f h = h x
next (Err e) f h = tt

in_any_room : {A : Type 0} (n : ℕ) (at : Span) (a : Answer A) → IsRefused a → IsRefused (some_room n (refuse TooMany at) a)
in_any_room zero at a h = tt
in_any_room (suc n) at a h = h

pub too_wide : {A : Type 0} (n : ℕ) (s : Spot) (a : Answer A) → most_items < n → IsRefused (narrow n s a)
too_wide {A} n s a lt =
    let is : nat_lt 65535 n ≡ true = grind (arith, nat_tests, lt) in
    subst (λ (y : Bool). IsRefused {A = A} (if y then refuse TooMany s.span else a)) (sym is) tt

narrowed : {A : Type 0} (n : ℕ) (s : Spot) (a : Answer A) → IsRefused a → IsRefused (narrow n s a)
narrowed {A} n s a h = by (nat_lt 65535 n)
  where
    by : (y : Bool) → IsRefused {A = A} (if y then refuse TooMany s.span else a)
    by true = tt
    by false = h

-- ---- bindings

module _ (by : Resolver) where
  -- a name that isn't bound where so many locals stand before it
  bindings_refused : (f : Form) (i : ℕ) (pairs : Forms) → IsBound f i pairs → (scope : Scope) → ((inner : Scope) → length inner.locals ≡ length scope.locals + i → IsRefused (bound_name inner f)) → IsRefused (named_bindings by scope pairs)
  bindings_refused f _ _ (bound_now value rest) scope h =
      next (by scope true value) (λ t. bound_name scope f >>= λ n. named_bindings by (with_local n scope) rest >>= λ bound. Ok (record { values = more t bound.values; scope = bound.scope }))
      (λ t. now (bound_name scope f) (λ n. named_bindings by (with_local n scope) rest >>= λ bound. Ok (record { values = more t bound.values; scope = bound.scope })) (h scope (omega arith)))
  bindings_refused f _ _ (bound_later i other value rest b) scope h =
      next (by scope true value) (λ t. bound_name scope other >>= λ n. named_bindings by (with_local n scope) rest >>= λ bound. Ok (record { values = more t bound.values; scope = bound.scope }))
      (λ t. next (bound_name scope other) (λ n. named_bindings by (with_local n scope) rest >>= λ bound. Ok (record { values = more t bound.values; scope = bound.scope }))
      (λ n. now (named_bindings by (with_local n scope) rest) (λ bound. Ok (record { values = more t bound.values; scope = bound.scope }))
      (bindings_refused f i rest b (with_local n scope) (λ inner is. h inner (omega (arith, is))))))

reserved_refused : (name : List ℕ) (at : Span) (scope : Scope) → may_bind name ≡ false → IsRefused (bound_name scope (leaf (symbol name) at))
reserved_refused name at scope is = subst (λ (y : Bool). IsRefused {A = List ℕ} (if y then (if nat_lt (length scope.locals) 200 then Ok name else refuse TooMany at) else refuse BadForm at)) (sym is) tt

full_refused : (name : List ℕ) (at : Span) (scope : Scope) → most_locals ≤ length scope.locals → IsRefused (bound_name scope (leaf (symbol name) at))
full_refused name at scope le =
    let is : nat_lt (length scope.locals) 200 ≡ false = grind (arith, nat_tests, le) in
    subst (λ (z : Bool). IsRefused {A = List ℕ} (if may_bind name then (if z then Ok name else refuse TooMany at) else refuse BadForm at)) (sym is) (by (may_bind name))
  where
    by : (y : Bool) → IsRefused {A = List ℕ} (if y then refuse TooMany at else refuse BadForm at)
    by true = tt
    by false = tt

-- ---- what is called

callee_at_refused : (m : Meaning) (s : Spot) (at : Span) → is_no_function m ≡ true → IsRefused (callee_at m s at)
callee_at_refused (a_form f) s at h = tt
callee_at_refused (defined_as (Constant v)) s at h = tt
callee_at_refused (defined_as (ACell c)) s at h = tt
callee_at_refused _ s at h = absurd (false≢true h)

no_symbol_refused : (scope : Scope) (s : Spot) (f : Form) → is_symbol f ≡ false → IsRefused (callee_of scope s f)
no_symbol_refused scope s (leaf (symbol name) at) h = absurd (false≢true (sym h))
no_symbol_refused scope s _ h = tt

-- ---- one form

module _ (by : Resolver) (room : ℕ) (scope : Scope) (wanted : Bool) (at : Span) (head : Form) where
  abbrev s : Spot
  s = spot_at room at wanted

  -- a list with a form's name at its head
  of_named : (name : FormName) (args : Forms) → form_at head ≡ Some name → IsRefused (by_name room scope wanted at head name args (expansion name args at) >>= made by scope s)
      → IsRefused (resolved by room scope wanted (group Round (first head args) at))
  of_named name args is h = subst (λ a. IsRefused (a >>= made by scope s)) (sym (core_named room scope wanted at head args name is)) h

  -- a list without one
  of_called : (args : Forms) → form_at head ≡ None → IsRefused (some_room room (refuse TooMany at) (callee_of scope s head >>= λ callee. Ok (applied callee head args at)) >>= made by scope s)
      → IsRefused (resolved by room scope wanted (group Round (first head args) at))
  of_called args none h = subst (λ a. IsRefused (a >>= made by scope s)) (sym (core_called room scope wanted at head args none)) h

  shape_refused : (name : FormName) (args : Forms) → has_shape name args ≡ false → IsRefused (by_name room scope wanted at head name args (expansion name args at))
  shape_refused kind.If (first c (first a no_forms)) h = absurd (false≢true (sym h))
  shape_refused kind.If (first c (first a (first b no_forms))) h = absurd (false≢true (sym h))
  shape_refused kind.IfNot (first c (first a no_forms)) h = absurd (false≢true (sym h))
  shape_refused kind.IfNot (first c (first a (first b no_forms))) h = absurd (false≢true (sym h))
  shape_refused kind.When (first c es) h = absurd (false≢true (sym h))
  shape_refused kind.WhenNot (first c es) h = absurd (false≢true (sym h))
  shape_refused kind.Cond no_forms h = absurd (false≢true (sym h))
  shape_refused kind.Cond (first c (first e rest)) h =
      subst (λ (y : Bool). IsRefused (by_name room scope wanted at head kind.Cond (first c (first e rest)) (if y then Some (list kind.If (three c e (list kind.Cond rest at)) at) else None))) (sym h) tt
  shape_refused kind.And es h = absurd (false≢true (sym h))
  shape_refused kind.Or es h = absurd (false≢true (sym h))
  shape_refused kind.Do es h = absurd (false≢true (sym h))
  shape_refused kind.Recur es h = absurd (false≢true (sym h))
  shape_refused kind.Println es h = absurd (false≢true (sym h))
  shape_refused kind.Dosync es h = absurd (false≢true (sym h))
  shape_refused kind.Let (first (group Square pairs there) es) h = subst (λ (y : Bool). IsRefused (if y then Ok (parted (binding false pairs (body es at))) else refuse BadForm at)) (sym h) tt
  shape_refused kind.Loop (first (group Square pairs there) es) h = subst (λ (y : Bool). IsRefused (if y then Ok (parted (binding true pairs (body es at))) else refuse BadForm at)) (sym h) tt
  shape_refused kind.Deref (first r no_forms) h = absurd (false≢true (sym h))
  shape_refused kind.Ensure (first r no_forms) h = absurd (false≢true (sym h))
  shape_refused kind.RefSet (first r (first e no_forms)) h = absurd (false≢true (sym h))
  shape_refused kind.Reset (first r (first e no_forms)) h = absurd (false≢true (sym h))
  shape_refused kind.Alter (first r (first f es)) h = absurd (false≢true (sym h))
  shape_refused kind.Commute (first r (first f es)) h = absurd (false≢true (sym h))
  shape_refused kind.Swap (first r (first f es)) h = absurd (false≢true (sym h))
  shape_refused kind.Send (first r (first f es)) h = absurd (false≢true (sym h))
  shape_refused _ es h = tt

  -- a form that applies a function to what a cell holds
  changed : (k : Change) (cell f : Form) (args : Forms) → IsRefused (callee_of scope s f) ⊎ (most_items < suc (parts args)) → IsRefused (made by scope s (parted (changing k cell f args)))
  changed k cell f args h =
      in_any_room room at (put_together by scope s (changing k cell f args))
      (next (by scope true cell) (λ c. callee_of scope s f >>= λ callee. narrow (suc (parts args)) s (named_all by scope true true args) >>= λ nodes. Ok (change_node k c callee nodes (spot_mark s))) (part h))
    where
      part : IsRefused (callee_of scope s f) ⊎ (most_items < suc (parts args)) → (c : Tree) → IsRefused (callee_of scope s f >>= λ callee. narrow (suc (parts args)) s (named_all by scope true true args) >>= λ nodes. Ok (change_node k c callee nodes (spot_mark s)))
      part (inl k2) c = now (callee_of scope s f) (λ callee. narrow (suc (parts args)) s (named_all by scope true true args) >>= λ nodes. Ok (change_node k c callee nodes (spot_mark s))) k2
      part (inr lt) c =
          next (callee_of scope s f) (λ callee. narrow (suc (parts args)) s (named_all by scope true true args) >>= λ nodes. Ok (change_node k c callee nodes (spot_mark s)))
          (λ callee. now (narrow (suc (parts args)) s (named_all by scope true true args)) (λ nodes. Ok (change_node k c callee nodes (spot_mark s))) (too_wide (suc (parts args)) s (named_all by scope true true args) lt))

  change_refused : (name : FormName) (cell f : Form) (args : Forms) → form_at head ≡ Some name → applies name ≡ true → IsRefused (callee_of scope s f) ⊎ (most_items < suc (parts args))
      → IsRefused (resolved by room scope wanted (group Round (first head (first cell (first f args))) at))
  change_refused kind.Alter cell f args is it h = of_named kind.Alter (first cell (first f args)) is (changed (change_by.Update Alter) cell f args h)
  change_refused kind.Commute cell f args is it h = of_named kind.Commute (first cell (first f args)) is (changed (change_by.Update Commute) cell f args h)
  change_refused kind.Swap cell f args is it h = of_named kind.Swap (first cell (first f args)) is (changed (change_by.Update Swap) cell f args h)
  change_refused kind.Send cell f args is it h = of_named kind.Send (first cell (first f args)) is (changed change_by.Send cell f args h)
  change_refused _ cell f args is it h = absurd (false≢true it)

  -- what is called, at the head
  head_refused : (args : Forms) → form_at head ≡ None → IsRefused (callee_of scope s head) → IsRefused (resolved by room scope wanted (group Round (first head args) at))
  head_refused args none h =
      of_called args none
      (now (some_room room (refuse TooMany at) (callee_of scope s head >>= λ callee. Ok (applied callee head args at))) (made by scope s)
      (in_any_room room at (callee_of scope s head >>= λ callee. Ok (applied callee head args at)) (now (callee_of scope s head) (λ callee. Ok (applied callee head args at)) h)))

  -- too many in a row
  wide : (k : Sequence) (fs : Forms) → most_items < parts fs → IsRefused (made by scope s (parted (row k fs)))
  wide k fs lt =
      in_any_room room at (put_together by scope s (row k fs))
      (now (narrow (parts fs) s (named_all by scope (are_wanted k) (are_wanted k || wanted) fs)) (λ nodes. Ok (sequence_node k nodes (spot_mark s))) (too_wide (parts fs) s (named_all by scope (are_wanted k) (are_wanted k || wanted) fs) lt))

  row_refused : (name : FormName) (args : Forms) → form_at head ≡ Some name → is_row name ≡ true → most_items < parts args → IsRefused (resolved by room scope wanted (group Round (first head args) at))
  row_refused kind.Do no_forms is it lt = absurd (omega (arith, lt))
  row_refused kind.Do (first e rest) is it lt = of_named kind.Do (first e rest) is (wide sequence.Do (first e rest) lt)
  row_refused kind.Recur args is it lt = of_named kind.Recur args is (wide sequence.Recur args lt)
  row_refused kind.Println args is it lt = of_named kind.Println args is (wide sequence.Println args lt)
  row_refused _ args is it lt = absurd (false≢true it)

  -- what a `let`, a `loop`, an `and` or an `or` binds
  bound : (is_loop : Bool) (pairs : Forms) (es : Form) → IsRefused (named_bindings by scope pairs) → IsRefused (made by scope s (parted (binding is_loop pairs es)))
  bound is_loop pairs es h =
      in_any_room room at (put_together by scope s (binding is_loop pairs es)) (now (named_bindings by scope pairs) (λ b. by b.scope wanted es >>= λ node. Ok (binding_node is_loop b.values node (spot_mark s))) h)

  pairs_refused : (is_loop : Bool) (pairs es : Forms) → IsRefused (named_bindings by scope pairs) → IsRefused ((if are_pairs pairs then Ok (parted (binding is_loop pairs (body es at))) else refuse BadForm at) >>= made by scope s)
  pairs_refused is_loop pairs es h = pick (are_pairs pairs)
    where
      pick : (y : Bool) → IsRefused ((if y then Ok (parted (binding is_loop pairs (body es at))) else refuse BadForm at) >>= made by scope s)
      pick true = bound is_loop pairs (body es at) h
      pick false = tt

  hidden_refused : (name : FormName) (e1 e2 : Form) (es : Forms) → form_at head ≡ Some name → hides_local name ≡ true → most_locals ≤ length scope.locals → IsRefused (resolved by room scope wanted (group Round (first head (first e1 (first e2 es))) at))
  hidden_refused kind.And e1 e2 es is it le =
      of_named kind.And (first e1 (first e2 es)) is
      (bound false (two (hidden at) e1) (body (first (list kind.If (three (hidden at) (list kind.And (first e2 es) at) (hidden at)) at) no_forms) at)
      (bindings_refused by (hidden at) 0 (two (hidden at) e1) (bound_now e1 no_forms) scope (λ inner same. full_refused [] at inner (omega (arith, same, le)))))
  hidden_refused kind.Or e1 e2 es is it le =
      of_named kind.Or (first e1 (first e2 es)) is
      (bound false (two (hidden at) e1) (body (first (list kind.If (three (hidden at) (hidden at) (list kind.Or (first e2 es) at)) at) no_forms) at)
      (bindings_refused by (hidden at) 0 (two (hidden at) e1) (bound_now e1 no_forms) scope (λ inner same. full_refused [] at inner (omega (arith, same, le)))))
  hidden_refused _ e1 e2 es is it le = absurd (false≢true it)

module _ (by : Resolver) (room : ℕ) (scope : Scope) (wanted : Bool) where
  called_refused : (head f : Form) → IsCalled head f → IsRefused (callee_of scope (spot_at room (place f) wanted) head) → IsRefused (resolved by room scope wanted f)
  called_refused head _ (at_head args at none) h = head_refused by room scope wanted at head args none h
  called_refused head _ (behind_cell top cell name args at is it) h = change_refused by room scope wanted at top name cell head args is it (inl h)

  binds_refused : (n : Form) (i : ℕ) (f : Form) → Binds n i f → ((inner : Scope) → length inner.locals ≡ length scope.locals + i → IsRefused (bound_name inner n)) → IsRefused (resolved by room scope wanted f)
  binds_refused n i _ (in_let head pairs es there at is b) h =
      of_named by room scope wanted at head kind.Let (first (group Square pairs there) es) is (pairs_refused by room scope wanted at head false pairs es (bindings_refused by n i pairs b scope h))
  binds_refused n i _ (in_loop head pairs es there at is b) h =
      of_named by room scope wanted at head kind.Loop (first (group Square pairs there) es) is (pairs_refused by room scope wanted at head true pairs es (bindings_refused by n i pairs b scope h))

  value_refused : (m : Meaning) (s : Spot) → is_no_value m ≡ true → IsRefused (symbol_node m s)
  value_refused (a_local i) s h = absurd (false≢true h)
  value_refused (defined_as (Constant v)) s h = absurd (false≢true h)
  value_refused (defined_as (ACell c)) s h = absurd (false≢true h)
  value_refused unknown s h = tt
  value_refused _ s h = tt

  -- a name of an operation or of a function is that of no form
  abbrev IsForm : Meaning → Type 0
  IsForm (a_form f) = Unit {0}
  IsForm _ = ⊥

  form_first : (o : Option FormName) (other m : Meaning) → or_form o other ≡ m → (IsForm m → ⊥) → o ≡ None
  form_first None other m is not_form = refl
  form_first (Some f) other m is not_form = absurd (not_form (subst IsForm is tt))

  no_form : (name : List ℕ) (m : Meaning) → meaning name scope ≡ m → (IsForm m → ⊥) → with_name form_name name form_names ≡ None
  unfolding meaning
  no_form name m is not_form =
      form_first (with_name form_name name form_names)
      (if list_any is_dot name then dotted else or_local (local_number name scope) (if is_current name scope.current then the_current else or_defined (definition_of name scope.defined) (or_unknown (with_name op_name name operations)))) m is not_form

  counts_refused : (n : ℕ) (f : Form) → Counts scope n f → most_items < n → IsRefused (resolved by room scope wanted f)
  counts_refused _ _ (of_vector es at) lt = wide by room scope wanted at (leaf nil at) sequence.Vector es lt
  counts_refused _ _ (of_row head name es at is it) lt = row_refused by room scope wanted at head name es is it lt
  counts_refused _ _ (of_operation name here op es at is flat) lt =
      of_called by room scope wanted at (leaf (symbol name) here) es (no_form name (operation op) is (λ x. x))
      (subst (λ m. IsRefused (some_room room (refuse TooMany at) (callee_at m (spot_at room at wanted) here >>= λ callee. Ok (applied callee (leaf (symbol name) here) es at)) >>= made by scope (spot_at room at wanted))) (sym is) (pick room))
    where
      pick : (n : ℕ) → IsRefused (some_room n (refuse TooMany at) (Ok (applied (CoreOp op) (leaf (symbol name) here) es at)) >>= made by scope (spot_at room at wanted))
      pick zero = tt
      pick (suc n) = subst (λ (y : Bool). IsRefused (made by scope (spot_at room at wanted) (parted (row (sequence.Core op) (if y then first (group Round (first (leaf (symbol name) here) (all_but_last es)) at) (first (last_of (leaf (symbol name) here) es) no_forms) else es))))) (sym flat)
          (wide by room scope wanted at (leaf (symbol name) here) (sequence.Core op) es lt)
  counts_refused _ _ (of_function name here n levels es at is) lt =
      of_called by room scope wanted at (leaf (symbol name) here) es (no_form name (defined_as (AFunction n levels)) is (λ x. x))
      (subst (λ m. IsRefused (some_room room (refuse TooMany at) (callee_at m (spot_at room at wanted) here >>= λ callee. Ok (applied callee (leaf (symbol name) here) es at)) >>= made by scope (spot_at room at wanted))) (sym is)
      (pick room (nat_lt levels room)))
    where
      pick : (k : ℕ) (y : Bool) → IsRefused (some_room k (refuse TooMany at) ((if y then Ok (TheFunction n) else refuse TooMany at) >>= λ callee. Ok (applied callee (leaf (symbol name) here) es at)) >>= made by scope (spot_at room at wanted))
      pick zero y = tt
      pick (suc k) true = wide by room scope wanted at (leaf (symbol name) here) (sequence.Call n) es lt
      pick (suc k) false = tt
  counts_refused _ _ (of_change head cell f name es at is it) lt = change_refused by room scope wanted at head name cell f es is it (inr lt)

  refused_by : (name : List ℕ) (at : Span) (f : Form) (m : Meaning) → IsCalled (leaf (symbol name) at) f → meaning name scope ≡ m → IsRefused (callee_at m (spot_at room (place f) wanted) at) → IsRefused (resolved by room scope wanted f)
  refused_by name at f m c is h = called_refused (leaf (symbol name) at) f c (subst (λ x. IsRefused (callee_at x (spot_at room (place f) wanted) at)) (sym is) h)

-- nothing is made without a level
symbol_levelless : (m : Meaning) (at : Span) (wanted : Bool) → IsRefused (symbol_node m (spot_at 0 at wanted))
symbol_levelless (a_local i) at wanted = tt
symbol_levelless (defined_as (Constant v)) at wanted = tt
symbol_levelless (defined_as (ACell c)) at wanted = tt
symbol_levelless (defined_as (AFunction n levels)) at wanted = tt
symbol_levelless (a_form f) at wanted = tt
symbol_levelless dotted at wanted = tt
symbol_levelless the_current at wanted = tt
symbol_levelless (operation op) at wanted = tt
symbol_levelless unknown at wanted = tt

levelless : (by : Resolver) (scope : Scope) (at : Span) (wanted : Bool) (c : ACore) → IsRefused (made by scope (spot_at 0 at wanted) c)
levelless by scope at wanted (whole (symbol name)) = symbol_levelless (meaning name scope) at wanted
levelless by scope at wanted (whole nil) = tt
levelless by scope at wanted (whole (truth b)) = tt
levelless by scope at wanted (whole (number z)) = tt
levelless by scope at wanted (whole (text t)) = tt
levelless by scope at wanted (whole (keyword k)) = tt
levelless by scope at wanted (parted sp) = tt

fault_refused : (by : Resolver) (room : ℕ) (scope : Scope) (wanted : Bool) (kind : ResolveErrorKind) (at : Span) (f : Form) → HasFault room scope kind at f → IsRefused (resolved by room scope wanted f)
fault_refused by room scope wanted _ _ _ (is_unknown name at is) = subst (λ m. IsRefused (symbol_node m (spot_at room at wanted))) (sym is) tt
fault_refused by room scope wanted _ _ _ (calls_unknown name at f c is) = refused_by by room scope wanted name at f unknown c is tt
fault_refused by room scope wanted _ _ _ (is_no_value_here name at is) = value_refused by room scope wanted (meaning name scope) (spot_at room at wanted) is
fault_refused by room scope wanted _ _ _ (calls_dotted name at f c is) = refused_by by room scope wanted name at f dotted c is tt
fault_refused by room scope wanted _ _ _ (is_empty at) = tt
fault_refused by room scope wanted _ _ _ (has_other_shape head name es at is other) =
    of_named by room scope wanted at head name es is (now (by_name room scope wanted at head name es (expansion name es at)) (made by scope (spot_at room at wanted)) (shape_refused by room scope wanted at head name es other))
fault_refused by room scope wanted _ _ _ (binds_reserved name at i f b is) = binds_refused by room scope wanted (leaf (symbol name) at) i f b (λ inner same. reserved_refused name at inner is)
fault_refused by room scope wanted _ _ _ (calls_no_symbol head f c is) = called_refused by room scope wanted head f c (no_symbol_refused scope (spot_at room (place f) wanted) head is)
fault_refused by room scope wanted _ _ _ (calls_no_function name at f c is) = called_refused by room scope wanted (leaf (symbol name) at) f c (callee_at_refused (meaning name scope) (spot_at room (place f) wanted) at is)
fault_refused by room scope wanted _ _ _ (calls_local name at i f c is) = refused_by by room scope wanted name at f (a_local i) c is tt
fault_refused by room scope wanted _ _ _ (calls_itself name at f c is) = refused_by by room scope wanted name at f the_current c is tt
fault_refused by room scope wanted _ _ _ (finds_no_level f is) =
    subst (λ k. IsRefused (resolved by k scope wanted f)) (sym is) (next (core_of scope (spot_at 0 (place f) wanted) (expand_once f)) (made by scope (spot_at 0 (place f) wanted)) (levelless by scope (place f) wanted))
fault_refused by room scope wanted _ _ _ (calls_too_deep name at n levels f c is le) =
    let deep : nat_lt levels room ≡ false = grind (arith, nat_tests, le) in
    refused_by by room scope wanted name at f (defined_as (AFunction n levels)) c is (subst (λ (y : Bool). IsRefused {A = Callee} (if y then Ok (TheFunction n) else refuse TooMany (place f))) (sym deep) tt)
fault_refused by room scope wanted _ _ _ (binds_too_many name at i f b le) = binds_refused by room scope wanted (leaf (symbol name) at) i f b (λ inner same. full_refused name at inner (omega (arith, same, le)))
fault_refused by room scope wanted _ _ _ (hides_too_many head e1 e2 name es at is it le) = hidden_refused by room scope wanted at head name e1 e2 es is it le
fault_refused by room scope wanted _ _ _ (is_too_wide n f c lt) = counts_refused by room scope wanted n f c lt

-- ---- a form that stands in another

row_refuses : (by : Resolver) (scope : Scope) (p : Form) → ((w : Bool) → IsRefused (by scope w p)) → (inner last : Bool) (fs : Forms) → IsOne p fs → IsRefused (named_all by scope inner last fs)
row_refuses by scope p h inner last _ (one_now rest) = now (by scope (flag inner last rest) p) (λ node. named_all by scope inner last rest >>= λ nodes. Ok (more node nodes)) (h (flag inner last rest))
row_refuses by scope p h inner last _ (one_later f rest is) =
    next (by scope (flag inner last rest) f) (λ node. named_all by scope inner last rest >>= λ nodes. Ok (more node nodes))
    (λ node. now (named_all by scope inner last rest) (λ nodes. Ok (more node nodes)) (row_refuses by scope p h inner last rest is))

value_refuses : (by : Resolver) (inner : Scope) (p : Form) → ((w : Bool) → IsRefused (by inner w p)) → (scope : Scope) (fs : Forms) → IsValue p inner scope fs → IsRefused (named_bindings by scope fs)
value_refuses by inner p h scope _ (value_now binder rest) =
    now (by scope true p) (λ t. bound_name scope binder >>= λ n. named_bindings by (with_local n scope) rest >>= λ bound. Ok (record { values = more t bound.values; scope = bound.scope })) (h true)
value_refuses by inner p h scope _ (value_later _ binder value rest name is v) =
    next (by scope true value) (λ t. bound_name scope binder >>= λ n. named_bindings by (with_local n scope) rest >>= λ bound. Ok (record { values = more t bound.values; scope = bound.scope }))
    (λ t. subst (λ a. IsRefused {A = Bound} (a >>= λ n. named_bindings by (with_local n scope) rest >>= λ bound. Ok (record { values = more t bound.values; scope = bound.scope }))) (sym is)
    (now (named_bindings by (with_local name scope) rest) (λ bound. Ok (record { values = more t bound.values; scope = bound.scope })) (value_refuses by inner p h (with_local name scope) rest v)))

module _ (by : Resolver) (s : Spot) where
  part_refuses : (scope inner : Scope) (form : Special) (p : Form) → IsPart p inner scope form → ((w : Bool) → IsRefused (by inner w p)) → IsRefused (put_together by scope s form)
  part_refuses scope inner _ p (in_row k fs is) h =
      now (narrow (parts fs) s (named_all by scope (are_wanted k) (are_wanted k || s.wanted) fs)) (λ nodes. Ok (sequence_node k nodes (spot_mark s)))
      (narrowed (parts fs) s (named_all by scope (are_wanted k) (are_wanted k || s.wanted) fs) (row_refuses by scope p h (are_wanted k) (are_wanted k || s.wanted) fs is))
  part_refuses scope inner _ p (in_one k) h = now (by scope (is_wanted k || s.wanted) p) (λ node. Ok (single_node k node (spot_mark s))) (h (is_wanted k || s.wanted))
  part_refuses scope inner _ p (in_filled k e) h = now (by scope true p) (λ cell. by scope true e >>= λ value. Ok (Put k cell value (spot_mark s))) (h true)
  part_refuses scope inner _ p (in_value k r) h =
      next (by scope true r) (λ cell. by scope true p >>= λ value. Ok (Put k cell value (spot_mark s))) (λ cell. now (by scope true p) (λ value. Ok (Put k cell value (spot_mark s))) (h true))
  part_refuses scope inner _ p (in_test turn a b) h = now (by scope true p) (λ test. by scope s.wanted a >>= λ one. by scope s.wanted b >>= λ other. Ok (choice_node turn test one other (spot_mark s))) (h true)
  part_refuses scope inner _ p (in_first turn c b) h =
      next (by scope true c) (λ test. by scope s.wanted p >>= λ one. by scope s.wanted b >>= λ other. Ok (choice_node turn test one other (spot_mark s)))
      (λ test. now (by scope s.wanted p) (λ one. by scope s.wanted b >>= λ other. Ok (choice_node turn test one other (spot_mark s))) (h s.wanted))
  part_refuses scope inner _ p (in_second turn c a) h =
      next (by scope true c) (λ test. by scope s.wanted a >>= λ one. by scope s.wanted p >>= λ other. Ok (choice_node turn test one other (spot_mark s)))
      (λ test. next (by scope s.wanted a) (λ one. by scope s.wanted p >>= λ other. Ok (choice_node turn test one other (spot_mark s)))
      (λ one. now (by scope s.wanted p) (λ other. Ok (choice_node turn test one other (spot_mark s))) (h s.wanted)))
  part_refuses scope inner _ p (in_bound _ is_loop pairs es v) h =
      now (named_bindings by scope pairs) (λ b. by b.scope s.wanted es >>= λ node. Ok (binding_node is_loop b.values node (spot_mark s))) (value_refuses by inner p h scope pairs v)
  part_refuses scope inner _ p (in_body _ is_loop pairs behind) h = pick (named_bindings by scope pairs) (behind_is by inner scope pairs behind)
    where
      pick : (a : Answer Bound) → ScopeIs inner a → IsRefused (a >>= λ b. by b.scope s.wanted p >>= λ node. Ok (binding_node is_loop b.values node (spot_mark s)))
      pick (Err e) is = tt
      pick (Ok b) is = now (by b.scope s.wanted p) (λ node. Ok (binding_node is_loop b.values node (spot_mark s))) (subst (λ (z : Scope). IsRefused (by z s.wanted p)) (sym is) (h s.wanted))
  part_refuses scope inner _ p (in_cell k f args) h =
      now (by scope true p) (λ cell. callee_of scope s f >>= λ callee. narrow (suc (parts args)) s (named_all by scope true true args) >>= λ nodes. Ok (change_node k cell callee nodes (spot_mark s))) (h true)
  part_refuses scope inner _ p (in_argument k r f args is) h =
      next (by scope true r) (λ cell. callee_of scope s f >>= λ callee. narrow (suc (parts args)) s (named_all by scope true true args) >>= λ nodes. Ok (change_node k cell callee nodes (spot_mark s)))
      (λ cell. next (callee_of scope s f) (λ callee. narrow (suc (parts args)) s (named_all by scope true true args) >>= λ nodes. Ok (change_node k cell callee nodes (spot_mark s)))
      (λ callee. now (narrow (suc (parts args)) s (named_all by scope true true args)) (λ nodes. Ok (change_node k cell callee nodes (spot_mark s)))
      (narrowed (suc (parts args)) s (named_all by scope true true args) (row_refuses by scope p h true true args is))))

pub whole_refuses : (room : ℕ) (scope : Scope) (kind : ResolveErrorKind) (at : Span) (f : Form) → HasFault room scope kind at (alone f) → (w : Bool) → IsRefused (named room scope w f)
unfolding named
whole_refuses zero scope kind at f h w = fault_refused (λ _ _ e. refuse TooMany (place e)) 0 scope w kind at (alone f) h
whole_refuses (suc room) scope kind at f h w = fault_refused (named room) (suc room) scope w kind at (alone f) h

pub stands_refuses : (room : ℕ) (scope : Scope) (g : Form) → ((w : Bool) → IsRefused (named room scope w g)) → (k : ℕ) (outer : Scope) (f : Form) → StandsIn room scope g k outer f → (w : Bool) → IsRefused (named k outer w f)
unfolding named
stands_refuses room scope g h _ _ _ is_whole w = h w
stands_refuses room scope g h _ outer f (in_part k _ inner _ part sp same is st) w =
    subst (λ a. IsRefused (a >>= made (named k) outer (spot_at (suc k) (place (alone f)) w))) (sym (same w))
    (part_refuses (named k) (spot_at (suc k) (place (alone f)) w) outer inner sp part is (stands_refuses room scope g h k inner part st))

pub form_refused : (k : ℕ) (outer : Scope) (wanted : Bool) (form : Form) (e : ResolveError) → FaultInForm k outer form e → IsRefused (named k outer wanted form)
form_refused k outer wanted form e h = stands_refuses h.room h.scope h.part (whole_refuses h.room h.scope e.kind e.at h.part h.fault) k outer form h.stands wanted

pub has_no_tree : (k : ℕ) (outer : Scope) (wanted : Bool) (form : Form) (e : ResolveError) → FaultInForm k outer form e → (t : Tree) → named k outer wanted form ≢ Ok t
has_no_tree k outer wanted form e h t is = subst IsRefused is (form_refused k outer wanted form e h)
