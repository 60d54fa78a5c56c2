-- The tree that a form is named by has exactly the marks of what is wanted.
use Rattle.std.proofs.Common.{◌≡◌, ◌||◌, ℕ, zero, suc, Bool, true, false, nat_lt, Ok, Err, IfOk, if◌then◌else◌, refl, subst}
use Rattle.txs_value_data.specs.Limits.{most_items}
use Rattle.txs_value_data.specs.declared.value.Value.{Value}
use Rattle.txs_value_data.specs.declared.value.Value.TheVariants.{Cell}
use Rattle.txs_value_data.specs.declared.op.Callee.{Callee}
use Rattle.txs_reader.specs.Tree.{PlainForm as Form, PlainForms as Forms, Leaf, first, place, number, symbol, nil, truth, text, keyword, parts}
use Rattle.txs_reader.specs.Tree.{none as no_forms}
use Rattle.txs_tree_meaning.specs.Marked.{Exactly, MarkedBy, AllMarkedBy, DoMarkedBy}
use Rattle.txs_tree_meaning.specs.Tree.{Tree, Trees, Mark, Const, Local, Put, none, more}
use Rattle.txs_resolve_expand.specs.Answers.{◌>>=◌, refuse}
use Rattle.txs_resolve_expand.specs.Expansions.{alone, expand_once}
use Rattle.txs_resolve_expand.specs.Expressions.{Answer, Bound, Special, row, one_part, putting, choice, binding, changing, Core as ACore, whole, parted, Resolver, spot_at, spot_mark, some_room, in_room, narrow, symbol_node, leaf_value, leaf_node, callee_of, flag, sequence_node, are_wanted, choice_node, single_node, is_wanted, change_node, binding_node, core_of, bound_name, named_all, named_bindings, put_together, made, resolved, named}
use Rattle.txs_resolve_expand.specs.declared.error.ResolveErrorKind.TheVariants.{TooMany}
use Rattle.txs_resolve_expand.specs.declared.error.ResolveError.{ResolveError}
use Rattle.txs_resolve_expand.specs.declared.shapes.Change.{Change}
use Rattle.txs_resolve_expand.specs.declared.shapes.Change.TheVariants as change_by
use Rattle.txs_resolve_expand.specs.declared.shapes.Sequence.{Sequence}
use Rattle.txs_resolve_expand.specs.declared.shapes.Sequence.TheVariants as sequence
use Rattle.txs_resolve_expand.specs.declared.shapes.Single.{Single}
use Rattle.txs_resolve_expand.specs.declared.shapes.Single.TheVariants as single
use Rattle.txs_resolve_expand.specs.declared.shapes.Spot.{Spot}
use Rattle.txs_resolve_expand.specs.Scope.{Scope, with_local, Meaning, a_form, dotted, a_local, the_current, defined_as, operation, unknown, meaning}
use Rattle.txs_resolve_expand.specs.declared.scope.Definition.TheVariants.{Constant, Cell as ACell, Function as AFunction}

-- ---- answers

-- an answer, and what is made of it
then_so : {A B : Type 0} (P : A → Type 0) (Q : B → Type 0) (a : Answer A) (f : A → Answer B) → IfOk a P → ((x : A) → P x → IfOk (f x) Q) → IfOk (a >>= f) Q
then_so P Q (Ok x) f p q = q x p
then_so P Q (Err e) f p q = tt

-- an answer of which nothing is asked
then_any : {A B : Type 0} (Q : B → Type 0) (a : Answer A) (f : A → Answer B) → ((x : A) → IfOk (f x) Q) → IfOk (a >>= f) Q
then_any Q (Ok x) f q = q x
then_any Q (Err e) f q = tt

-- the last of several answers
last_so : {A B : Type 0} (P : A → Type 0) (Q : B → Type 0) (a : Answer A) (f : A → B) → IfOk a P → ((x : A) → P x → Q (f x)) → IfOk (a >>= λ x. Ok (f x)) Q
last_so P Q (Ok x) f p q = q x p
last_so P Q (Err e) f p q = tt

unless_so : {A : Type 0} (P : A → Type 0) (b : Bool) (e : ResolveError) (a : Answer A) → IfOk a P → IfOk (if b then Err e else a) P
unless_so P true e a h = tt
unless_so P false e a h = h

narrow_so : {A : Type 0} (P : A → Type 0) (n : ℕ) (s : Spot) (a : Answer A) → IfOk a P → IfOk (narrow n s a) P
narrow_so P n s a h = unless_so P (nat_lt most_items n) (record { kind = TooMany; at = s.span }) a h

some_room_so : {A : Type 0} (P : A → Type 0) (n : ℕ) (e : ResolveError) (a : Answer A) → IfOk a P → IfOk (some_room n (Err e) a) P
some_room_so P zero e a h = tt
some_room_so P (suc n) e a h = h

room_so : {A : Type 0} (P : A → Type 0) (s : Spot) (a : Answer A) → IfOk a P → IfOk (in_room s a) P
room_so P s a h = some_room_so P s.room (record { kind = TooMany; at = s.span }) a h

-- ---- forms without parts

symbol_marked : (m : Meaning) (s : Spot) → IfOk (symbol_node m s) (MarkedBy Exactly s.wanted)
symbol_marked (a_form f) s = tt
symbol_marked dotted s = tt
symbol_marked (a_local i) s = room_so (MarkedBy Exactly s.wanted) s (Ok (Local i (spot_mark s))) refl
symbol_marked the_current s = tt
symbol_marked (defined_as (Constant v)) s = room_so (MarkedBy Exactly s.wanted) s (Ok (Const v (spot_mark s))) refl
symbol_marked (defined_as (ACell c)) s = room_so (MarkedBy Exactly s.wanted) s (Ok (Const (Cell c) (spot_mark s))) refl
symbol_marked (defined_as (AFunction n l)) s = tt
symbol_marked (operation op) s = tt
symbol_marked unknown s = tt

const_marked : (v : Value) (s : Spot) → IfOk (in_room s (Ok (Const v (spot_mark s)))) (MarkedBy Exactly s.wanted)
const_marked v s = room_so (MarkedBy Exactly s.wanted) s (Ok (Const v (spot_mark s))) refl

leaf_marked : (scope : Scope) (x : Leaf) (s : Spot) → IfOk (leaf_node scope x s) (MarkedBy Exactly s.wanted)
leaf_marked scope nil s = const_marked (leaf_value nil) s
leaf_marked scope (truth b) s = const_marked (leaf_value (truth b)) s
leaf_marked scope (number z) s = const_marked (leaf_value (number z)) s
leaf_marked scope (text bytes) s = const_marked (leaf_value (text bytes)) s
leaf_marked scope (keyword name) s = const_marked (leaf_value (keyword name)) s
leaf_marked scope (symbol name) s = symbol_marked (meaning name scope) s

-- ---- nodes of parts

-- the items of such a sequence
abbrev RowMarked : Sequence → Bool → Trees → Type 0
RowMarked sequence.Do used ts = DoMarkedBy Exactly used ts
RowMarked sequence.Recur used ts = AllMarkedBy Exactly ts
RowMarked sequence.Println used ts = AllMarkedBy Exactly ts
RowMarked sequence.Vector used ts = AllMarkedBy Exactly ts
RowMarked (sequence.Core op) used ts = AllMarkedBy Exactly ts
RowMarked (sequence.Call n) used ts = AllMarkedBy Exactly ts

sequence_marked : (k : Sequence) (ts : Trees) (m : Mark) → RowMarked k m.wanted ts → MarkedBy Exactly m.wanted (sequence_node k ts m)
sequence_marked sequence.Do ts m h = (refl, h)
sequence_marked sequence.Recur ts m h = (refl, h)
sequence_marked sequence.Println ts m h = (refl, h)
sequence_marked sequence.Vector ts m h = (refl, h)
sequence_marked (sequence.Core op) ts m h = (refl, h)
sequence_marked (sequence.Call n) ts m h = (refl, h)

single_marked : (k : Single) (part : Tree) (m : Mark) → MarkedBy Exactly (is_wanted k || m.wanted) part → MarkedBy Exactly m.wanted (single_node k part m)
single_marked single.Dosync part m h = (refl, h)
single_marked (single.Look form) part m h = (refl, h)

choice_marked : (turned : Bool) (test a b : Tree) (m : Mark) → MarkedBy Exactly true test → MarkedBy Exactly m.wanted a → MarkedBy Exactly m.wanted b → MarkedBy Exactly m.wanted (choice_node turned test a b m)
choice_marked false test a b m p q r = (refl, p, q, r)
choice_marked true test a b m p q r = (refl, p, r, q)

binding_marked : (is_loop : Bool) (values : Trees) (body : Tree) (m : Mark) → AllMarkedBy Exactly values → MarkedBy Exactly m.wanted body → MarkedBy Exactly m.wanted (binding_node is_loop values body m)
binding_marked false values body m p q = (refl, p, q)
binding_marked true values body m p q = (refl, p, q)

change_marked : (k : Change) (cell : Tree) (callee : Callee) (args : Trees) (m : Mark) → MarkedBy Exactly true cell → AllMarkedBy Exactly args → MarkedBy Exactly m.wanted (change_node k cell callee args m)
change_marked (change_by.Update form) cell callee args m p q = (refl, p, q)
change_marked change_by.Send cell callee args m p q = (refl, p, q)

-- ---- special forms

-- the items of a `do`, of which there is one
abbrev SomeDo : Bool → Trees → Type 0
SomeDo used none = ⊥
SomeDo used (more e rest) = DoMarkedBy Exactly used (more e rest)

behind : (used : Bool) (e : Tree) (rest : Trees) → MarkedBy Exactly false e → SomeDo used rest → SomeDo used (more e rest)
behind used e none p q = absurd q
behind used e (more f rest) p q = (p, q)

any_do : (used : Bool) (ts : Trees) → SomeDo used ts → DoMarkedBy Exactly used ts
any_do used none h = tt
any_do used (more e rest) h = h

-- the parts of forms are marked as they are wanted
abbrev MarksAll : Resolver → Type 0
MarksAll by = (scope : Scope) (wanted : Bool) (form : Form) → IfOk (by scope wanted form) (MarkedBy Exactly wanted)

module _ (by : Resolver) (each : MarksAll by) where
  all_marked : (scope : Scope) (forms : Forms) → IfOk (named_all by scope true true forms) (AllMarkedBy Exactly)
  all_marked scope no_forms = tt
  all_marked scope (first e rest) =
      then_so (MarkedBy Exactly true) (AllMarkedBy Exactly) (by scope (flag true true rest) e) (λ node. named_all by scope true true rest >>= λ nodes. Ok (more node nodes)) (here rest)
      (λ x p. last_so (AllMarkedBy Exactly) (AllMarkedBy Exactly) (named_all by scope true true rest) (λ nodes. more x nodes) (all_marked scope rest) (λ xs q. (p, q)))
    where
      here : (rest : Forms) → IfOk (by scope (flag true true rest) e) (MarkedBy Exactly true)
      here no_forms = each scope true e
      here (first f rest) = each scope true e

  some_marked : (scope : Scope) (used : Bool) (e : Form) (rest : Forms) → IfOk (named_all by scope false used (first e rest)) (SomeDo used)
  some_marked scope used e no_forms = last_so (MarkedBy Exactly used) (SomeDo used) (by scope used e) (λ node. more node none) (each scope used e) (λ x p. p)
  some_marked scope used e (first f rest) =
      then_so (MarkedBy Exactly false) (SomeDo used) (by scope false e) (λ node. named_all by scope false used (first f rest) >>= λ nodes. Ok (more node nodes)) (each scope false e)
      (λ x p. last_so (SomeDo used) (SomeDo used) (named_all by scope false used (first f rest)) (λ nodes. more x nodes) (some_marked scope used f rest) (λ xs q. behind used x xs p q))

  do_marked : (scope : Scope) (used : Bool) (forms : Forms) → IfOk (named_all by scope false used forms) (DoMarkedBy Exactly used)
  do_marked scope used no_forms = tt
  do_marked scope used (first e rest) = some_less (named_all by scope false used (first e rest)) (some_marked scope used e rest)
    where
      some_less : (a : Answer Trees) → IfOk a (SomeDo used) → IfOk a (DoMarkedBy Exactly used)
      some_less (Ok ts) h = any_do used ts h
      some_less (Err x) h = tt

  row_marked : (k : Sequence) (scope : Scope) (used : Bool) (forms : Forms) → IfOk (named_all by scope (are_wanted k) (are_wanted k || used) forms) (RowMarked k used)
  row_marked sequence.Do scope used forms = do_marked scope used forms
  row_marked sequence.Recur scope used forms = all_marked scope forms
  row_marked sequence.Println scope used forms = all_marked scope forms
  row_marked sequence.Vector scope used forms = all_marked scope forms
  row_marked (sequence.Core op) scope used forms = all_marked scope forms
  row_marked (sequence.Call n) scope used forms = all_marked scope forms

  abbrev BoundMarked : Bound → Type 0
  BoundMarked b = AllMarkedBy Exactly b.values

  bindings_marked : (scope : Scope) (pairs : Forms) → IfOk (named_bindings by scope pairs) BoundMarked
  bindings_marked scope no_forms = tt
  bindings_marked scope (first binder no_forms) = tt
  bindings_marked scope (first binder (first e rest)) =
      then_so (MarkedBy Exactly true) BoundMarked (by scope true e) (λ value. bound_name scope binder >>= λ name. named_bindings by (with_local name scope) rest >>= λ bound. Ok (record { values = more value bound.values; scope = bound.scope })) (each scope true e)
      (λ x p. then_any BoundMarked (bound_name scope binder) (λ name. named_bindings by (with_local name scope) rest >>= λ bound. Ok (record { values = more x bound.values; scope = bound.scope }))
      (λ name. last_so BoundMarked BoundMarked (named_bindings by (with_local name scope) rest) (λ bound. record { values = more x bound.values; scope = bound.scope }) (bindings_marked (with_local name scope) rest) (λ b q. (p, q))))

  put_marked : (scope : Scope) (s : Spot) (form : Special) → IfOk (put_together by scope s form) (MarkedBy Exactly s.wanted)
  put_marked scope s (row k forms) =
      let items = named_all by scope (are_wanted k) (are_wanted k || s.wanted) forms in
      last_so (RowMarked k s.wanted) (MarkedBy Exactly s.wanted) (narrow (parts forms) s items) (λ nodes. sequence_node k nodes (spot_mark s))
      (narrow_so (RowMarked k s.wanted) (parts forms) s items (row_marked k scope s.wanted forms)) (λ ts h. sequence_marked k ts (spot_mark s) h)
  put_marked scope s (one_part k form) =
      let wanted = is_wanted k || s.wanted in
      last_so (MarkedBy Exactly wanted) (MarkedBy Exactly s.wanted) (by scope wanted form) (λ node. single_node k node (spot_mark s)) (each scope wanted form) (λ t h. single_marked k t (spot_mark s) h)
  put_marked scope s (putting form r e) =
      then_so (MarkedBy Exactly true) (MarkedBy Exactly s.wanted) (by scope true r) (λ cell. by scope true e >>= λ value. Ok (Put form cell value (spot_mark s))) (each scope true r)
      (λ x p. last_so (MarkedBy Exactly true) (MarkedBy Exactly s.wanted) (by scope true e) (λ value. Put form x value (spot_mark s)) (each scope true e) (λ y q. (refl, p, q)))
  put_marked scope s (choice turned c a b) =
      then_so (MarkedBy Exactly true) (MarkedBy Exactly s.wanted) (by scope true c) (λ test. by scope s.wanted a >>= λ one. by scope s.wanted b >>= λ other. Ok (choice_node turned test one other (spot_mark s))) (each scope true c)
      (λ x p. then_so (MarkedBy Exactly s.wanted) (MarkedBy Exactly s.wanted) (by scope s.wanted a) (λ one. by scope s.wanted b >>= λ other. Ok (choice_node turned x one other (spot_mark s))) (each scope s.wanted a)
      (λ y q. last_so (MarkedBy Exactly s.wanted) (MarkedBy Exactly s.wanted) (by scope s.wanted b) (λ other. choice_node turned x y other (spot_mark s)) (each scope s.wanted b) (λ z r. choice_marked turned x y z (spot_mark s) p q r)))
  put_marked scope s (binding is_loop pairs forms) =
      then_so BoundMarked (MarkedBy Exactly s.wanted) (named_bindings by scope pairs) (λ bound. by bound.scope s.wanted forms >>= λ node. Ok (binding_node is_loop bound.values node (spot_mark s))) (bindings_marked scope pairs)
      (λ b p. last_so (MarkedBy Exactly s.wanted) (MarkedBy Exactly s.wanted) (by b.scope s.wanted forms) (λ node. binding_node is_loop b.values node (spot_mark s)) (each b.scope s.wanted forms) (λ t q. binding_marked is_loop b.values t (spot_mark s) p q))
  put_marked scope s (changing k r f args) =
      let items = named_all by scope true true args in
      then_so (MarkedBy Exactly true) (MarkedBy Exactly s.wanted) (by scope true r) (λ cell. callee_of scope s f >>= λ callee. narrow (suc (parts args)) s items >>= λ nodes. Ok (change_node k cell callee nodes (spot_mark s))) (each scope true r)
      (λ x p. then_any (MarkedBy Exactly s.wanted) (callee_of scope s f) (λ callee. narrow (suc (parts args)) s items >>= λ nodes. Ok (change_node k x callee nodes (spot_mark s)))
      (λ callee. last_so (AllMarkedBy Exactly) (MarkedBy Exactly s.wanted) (narrow (suc (parts args)) s items) (λ nodes. change_node k x callee nodes (spot_mark s))
      (narrow_so (AllMarkedBy Exactly) (suc (parts args)) s items (all_marked scope args)) (λ ts q. change_marked k x callee ts (spot_mark s) p q)))

  made_marked : (scope : Scope) (s : Spot) (c : ACore) → IfOk (made by scope s c) (MarkedBy Exactly s.wanted)
  made_marked scope s (whole x) = leaf_marked scope x s
  made_marked scope s (parted form) = room_so (MarkedBy Exactly s.wanted) s (put_together by scope s form) (put_marked scope s form)

  resolved_marked : (room : ℕ) (scope : Scope) (wanted : Bool) (form : Form) → IfOk (resolved by room scope wanted form) (MarkedBy Exactly wanted)
  resolved_marked room scope wanted form =
      let s = spot_at room (place form) wanted in
      then_any (MarkedBy Exactly wanted) (core_of scope s (expand_once form)) (made by scope s) (λ c. made_marked scope s c)

-- what a form is named by is marked as it is wanted
pub form_marked : (room : ℕ) (scope : Scope) (wanted : Bool) (form : Form) → IfOk (named room scope wanted form) (MarkedBy Exactly wanted)
unfolding named
form_marked zero scope wanted form = resolved_marked (λ _ _ e. refuse TooMany (place e)) (λ inner w e. tt) 0 scope wanted (alone form)
form_marked (suc room) scope wanted form = resolved_marked (named room) (λ inner w e. form_marked room inner w e) (suc room) scope wanted (alone form)

-- so it is of the tree that there is
pub named_marked : (room : ℕ) (scope : Scope) (wanted : Bool) (form : Form) (t : Tree) → named room scope wanted form ≡ Ok t → MarkedBy Exactly wanted t
named_marked room scope wanted form t is = subst (λ (a : Answer Tree). IfOk a (MarkedBy Exactly wanted)) is (form_marked room scope wanted form)
