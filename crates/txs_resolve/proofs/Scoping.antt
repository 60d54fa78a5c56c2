-- What the resolution of names makes of forms is scoped, and has no more levels than there is room.
use Rattle.std.proofs.Common.{◌||◌, ◌≡◌, ◌<◌, ◌≤◌, ◌+◌, ℕ, zero, suc, Bool, true, false, nat_lt, bytes_eq, if◌then◌else◌, List, [], ◌∷◌, length, Option, Some, None, Ok, Err, refl, sym, ap, subst, arith}
use Rattle.std.proofs.lemmas.Bool.Decides.{nat_tests}
use Rattle.txs_value_data.specs.Places.{nth}
use Rattle.txs_value_data.specs.declared.fault.Span.{Span}
use Rattle.txs_value_cell.specs.declared.form.CellForm.{CellForm}
use Rattle.txs_value_cell.specs.declared.form.CellForm.TheVariants as on_cell
use Rattle.txs_value_data.specs.declared.op.Callee.{Callee}
use Rattle.txs_value_data.specs.declared.op.Callee.TheVariants.{Core as CoreOp, Function as TheFunction}
use Rattle.txs_value_data.specs.declared.value.Value.{Value}
use Rattle.txs_value_data.specs.declared.value.Value.TheVariants.{Cell}
use Rattle.txs_reader.specs.declared.form.Bracket.TheVariants.{Round, Square}
use Rattle.txs_reader.specs.Tree.{PlainForm as Form, PlainForms as Forms, Leaf, leaf, group, first, place, number, symbol, nil, truth, text, keyword, parts}
use Rattle.txs_reader.specs.Tree.{none as no_forms}
use Rattle.txs_tree_meaning.specs.Known.{Known, levels, levels_in, levels_of}
use Rattle.txs_tree_meaning.specs.Scoped.{ScopedTree, ScopedAll, ScopedLet}
use Rattle.txs_tree_meaning.specs.Tree.{Tree, Trees, Mark, Const, Local, Put, more, count}
use Rattle.txs_tree_meaning.proofs.Callable.{nth-length}
use Rattle.txs_resolve_expand.specs.declared.error.ResolveError.{ResolveError}
use Rattle.txs_resolve_expand.specs.declared.error.ResolveErrorKind.TheVariants.{BadForm, TooMany}
use Rattle.txs_resolve_expand.specs.declared.names.FormName.{FormName}
use Rattle.txs_resolve_expand.specs.declared.names.FormName.TheVariants as kind
use Rattle.txs_resolve_expand.specs.declared.shapes.Change.{Change}
use Rattle.txs_resolve_expand.specs.declared.shapes.Change.TheVariants as change_by
use Rattle.txs_resolve_expand.specs.declared.shapes.Single.{Single}
use Rattle.txs_resolve_expand.specs.declared.shapes.Single.TheVariants as single
use Rattle.txs_resolve_expand.specs.declared.shapes.Sequence.{Sequence}
use Rattle.txs_resolve_expand.specs.declared.shapes.Sequence.TheVariants as sequence
use Rattle.txs_resolve_expand.specs.declared.shapes.Spot.{Spot}
use Rattle.txs_resolve_expand.specs.declared.scope.Definition.{Definition}
use Rattle.txs_resolve_expand.specs.declared.scope.Definition.TheVariants.{Constant, Cell as ACell, Function as AFunction}
use Rattle.txs_resolve_expand.specs.Expansions.{alone, body, expand_once, form_at}
use Rattle.txs_resolve_expand.specs.Expressions.{Answer, Bound, Special, row, one_part, putting, choice, binding, changing, Core as ACore, whole, parted, Resolver, spot_at, spot_mark, some_room, in_room, narrow, symbol_node, leaf_value, leaf_node, callee_at, callee_of, flag, sequence_node, are_wanted, choice_node, single_node, is_wanted, change_node, binding_node, are_pairs, cell_form, of_family, special, applied, list_core, core_of, bound_name, named_all, named_bindings, put_together, made, resolved, named}
use Rattle.txs_resolve_expand.specs.Answers.{◌>>=◌, refuse}
use Rattle.txs_resolve_expand.specs.Scope.{Scope, Entry, with_local, number_in, definition_of, may_bind, Meaning, a_form, dotted, a_local, the_current, defined_as, operation, unknown, meaning}
use Rattle.txs_resolve_expand.proofs.Meanings.{meaning_so}
use Rattle.txs_resolve.specs.Scripts.{IsKnown, AreKnown}

-- ---- answers

-- where there is an answer, this is true of it
abbrev pub Every : {A : Type 0} → (A → Type 0) → Answer A → Type 0
Every P (Ok x) = P x
Every P (Err e) = Unit {0}

pub then_every : {A B : Type 0} (P : A → Type 0) (Q : B → Type 0) (a : Answer A) (f : A → Answer B) → Every P a → ((x : A) → P x → Every Q (f x)) → Every Q (a >>= f)
then_every P Q (Ok x) f p q = q x p
then_every P Q (Err e) f p q = tt

pub one_every : {A D : Type 0} (P : A → Type 0) (Q : D → Type 0) (a : Answer A) (f : A → D) → Every P a → ((x : A) → P x → Q (f x)) → Every Q (a >>= λ x. Ok (f x))
one_every P Q (Ok x) f p q = q x p
one_every P Q (Err e) f p q = tt

pub two_every : {A B D : Type 0} (P : A → Type 0) (R : B → Type 0) (Q : D → Type 0) (a : Answer A) (b : Answer B) (f : A → B → D)
    → Every P a → Every R b → ((x : A) (y : B) → P x → R y → Q (f x y)) → Every Q (a >>= λ x. b >>= λ y. Ok (f x y))
two_every P R Q (Err e) b f p r q = tt
two_every P R Q (Ok x) (Err e) f p r q = tt
two_every P R Q (Ok x) (Ok y) f p r q = q x y p r

pub three_every : {A B C D : Type 0} (P : A → Type 0) (R : B → Type 0) (S : C → Type 0) (Q : D → Type 0) (a : Answer A) (b : Answer B) (c : Answer C) (f : A → B → C → D)
    → Every P a → Every R b → Every S c → ((x : A) (y : B) (z : C) → P x → R y → S z → Q (f x y z)) → Every Q (a >>= λ x. b >>= λ y. c >>= λ z. Ok (f x y z))
three_every P R S Q (Err e) b c f p r s q = tt
three_every P R S Q (Ok x) (Err e) c f p r s q = tt
three_every P R S Q (Ok x) (Ok y) (Err e) f p r s q = tt
three_every P R S Q (Ok x) (Ok y) (Ok z) f p r s q = q x y z p r s

-- a test that refuses
pub if_every : {A : Type 0} (P : A → Type 0) (b : Bool) (a : Answer A) (e : ResolveError) → (b ≡ true → Every P a) → Every P (if b then a else Err e)
if_every P true a e h = h refl
if_every P false a e h = tt

unless_every : {A : Type 0} (P : A → Type 0) (b : Bool) (a : Answer A) (e : ResolveError) → (b ≡ false → Every P a) → Every P (if b then Err e else a)
unless_every P true a e h = tt
unless_every P false a e h = h refl

some_room_every : {A : Type 0} (P : A → Type 0) (n : ℕ) (e : ResolveError) (a : Answer A) → (0 < n → Every P a) → Every P (some_room n (Err e) a)
some_room_every P zero e a h = tt
some_room_every P (suc n) e a h = h (omega arith)

room_every : {A : Type 0} (P : A → Type 0) (s : Spot) (a : Answer A) → (0 < s.room → Every P a) → Every P (in_room s a)
room_every P s a h = some_room_every P s.room (record { kind = TooMany; at = s.span }) a h

pub is_less : (m n : ℕ) → nat_lt m n ≡ true → m < n
is_less m n h = grind (arith, nat_tests)

not_less : (m n : ℕ) → nat_lt m n ≡ false → n ≤ m
not_less m n h = grind (arith, nat_tests)

pub one_more : (d : ℕ) → suc d ≡ d + 1
one_more d = omega arith

-- ---- names

abbrev IsBelow : ℕ → Option ℕ → Type 0
IsBelow d None = Unit {0}
IsBelow d (Some i) = i < d

number_below : (name : List ℕ) (ns : List (List ℕ)) → IsBelow (length ns) (number_in name ns)
number_below name [] = tt
number_below name (n ∷ ns) = here (bytes_eq name n) (number_in name ns) (number_below name ns) where
  more_below : (o : Option ℕ) → IsBelow (length ns) o → IsBelow (suc (length ns)) o
  more_below None h = tt
  more_below (Some i) h = omega (arith, h)

  here : (b : Bool) (o : Option ℕ) → IsBelow (length ns) o → IsBelow (suc (length ns)) (if b then Some (length ns) else o)
  here true o h = omega arith
  here false o h = more_below o h

-- what a name stands for is there
abbrev Meant : List Known → ℕ → Meaning → Type 0
Meant ks d (a_form f) = Unit {0}
Meant ks d dotted = Unit {0}
Meant ks d (a_local i) = i < d
Meant ks d the_current = Unit {0}
Meant ks d (defined_as what) = IsKnown ks what
Meant ks d (operation op) = Unit {0}
Meant ks d unknown = Unit {0}

abbrev KnownIf : List Known → Option Definition → Type 0
KnownIf ks None = Unit {0}
KnownIf ks (Some what) = IsKnown ks what

definition_known : (ks : List Known) (name : List ℕ) (es : List Entry) → AreKnown ks es → KnownIf ks (definition_of name es)
definition_known ks name [] h = tt
definition_known ks name (e ∷ es) h = here (bytes_eq e.name name) (definition_of name es) (definition_known ks name es h.1) where
  here : (b : Bool) (o : Option Definition) → KnownIf ks o → KnownIf ks (if b then Some e.what else o)
  here true o k = h.0
  here false o k = k

meaning_meant : (ks : List Known) (name : List ℕ) (scope : Scope) → AreKnown ks scope.defined → Meant ks (length scope.locals) (meaning name scope)
meaning_meant ks name scope h =
    meaning_so (Meant ks (length scope.locals)) (λ f. tt) tt (λ op. tt) tt name scope (λ i e. subst (IsBelow (length scope.locals)) e (number_below name scope.locals)) (λ e. tt)
    (λ d e. subst (KnownIf ks) e (definition_known ks name scope.defined h))

-- ---- nodes

module _ (ks : List Known) where
  -- a node that stands where so many locals are in scope, and finds so much room
  abbrev pub Placed : ℕ → ℕ → Tree → Type 0
  Placed d room t = ScopedTree ks d t × (levels ks t ≤ room)

  -- so many nodes
  abbrev pub AllPlaced : ℕ → ℕ → ℕ → Trees → Type 0
  AllPlaced d room n ts = ScopedAll ks d ts × (levels_in ks ts ≤ room) × (count ts ≡ n)

  -- the values of a `let`, and the scope behind them
  pub record BoundPlaced (d room : ℕ) (b : Bound) : Type 0 where
    pub values : ScopedLet ks d b.values
    pub levels : levels_in ks b.values ≤ room
    pub locals : length b.scope.locals ≡ d + count b.values
    pub known : AreKnown ks b.scope.defined
    pub few : length b.scope.locals ≤ 200

  abbrev pub CalleeFits : ℕ → Callee → Type 0
  CalleeFits room (CoreOp op) = Unit {0}
  CalleeFits room (TheFunction n) = (n < length ks) × (levels_of (nth ks n) < room)

  -- the definitions in scope are known, and the locals are few
  pub record InScope (scope : Scope) : Type 0 where
    pub known : AreKnown ks scope.defined
    pub few : length scope.locals ≤ 200

  -- ---- symbols

  symbol_placed : (d : ℕ) (m : Meaning) (s : Spot) → Meant ks d m → Every (Placed d s.room) (symbol_node m s)
  symbol_placed d (a_form f) s h = tt
  symbol_placed d dotted s h = tt
  symbol_placed d (a_local i) s h = room_every (Placed d s.room) s (Ok (Local i (spot_mark s))) (λ lt. (h, omega (arith, lt)))
  symbol_placed d the_current s h = tt
  symbol_placed d (defined_as (Constant v)) s h = room_every (Placed d s.room) s (Ok (Const v (spot_mark s))) (λ lt. (tt, omega (arith, lt)))
  symbol_placed d (defined_as (ACell k)) s h = room_every (Placed d s.room) s (Ok (Const (Cell k) (spot_mark s))) (λ lt. (tt, omega (arith, lt)))
  symbol_placed d (defined_as (AFunction n l)) s h = tt
  symbol_placed d (operation op) s h = tt
  symbol_placed d unknown s h = tt

  const_placed : (d : ℕ) (s : Spot) (v : Value) → Every (Placed d s.room) (in_room s (Ok (Const v (spot_mark s))))
  const_placed d s v = room_every (Placed d s.room) s (Ok (Const v (spot_mark s))) (λ lt. (tt, omega (arith, lt)))

  leaf_placed : (scope : Scope) (x : Leaf) (s : Spot) → InScope scope → Every (Placed (length scope.locals) s.room) (leaf_node scope x s)
  leaf_placed scope nil s h = const_placed (length scope.locals) s (leaf_value nil)
  leaf_placed scope (truth b) s h = const_placed (length scope.locals) s (leaf_value (truth b))
  leaf_placed scope (number z) s h = const_placed (length scope.locals) s (leaf_value (number z))
  leaf_placed scope (text bytes) s h = const_placed (length scope.locals) s (leaf_value (text bytes))
  leaf_placed scope (keyword name) s h = const_placed (length scope.locals) s (leaf_value (keyword name))
  leaf_placed scope (symbol name) s h = symbol_placed (length scope.locals) (meaning name scope) s (meaning_meant ks name scope h.known)

  -- ---- what is called

  function_fits : (n l room : ℕ) (s : Spot) → IsKnown ks (AFunction n l) → Every (CalleeFits s.room) (callee_at (defined_as (AFunction n l)) s s.span)
  function_fits n l room s h =
      if_every (CalleeFits s.room) (nat_lt l s.room) (Ok (TheFunction n)) (record { kind = TooMany; at = s.span })
      (λ lt. (nth-length ks n h.0 h.1, omega (arith, is_less l s.room lt, ap levels_of h.1, h.2)))

  callee_fits : (d : ℕ) (m : Meaning) (s : Spot) (at : Span) → Meant ks d m → Every (CalleeFits s.room) (callee_at m s at)
  callee_fits d (a_form f) s at h = tt
  callee_fits d dotted s at h = tt
  callee_fits d (a_local i) s at h = tt
  callee_fits d the_current s at h = tt
  callee_fits d (defined_as (Constant v)) s at h = tt
  callee_fits d (defined_as (ACell k)) s at h = tt
  callee_fits d (defined_as (AFunction n l)) s at h = function_fits n l s.room s h
  callee_fits d (operation op) s at h = tt
  callee_fits d unknown s at h = tt

  pub callee_of_fits : (scope : Scope) (s : Spot) (form : Form) → InScope scope → Every (CalleeFits s.room) (callee_of scope s form)
  callee_of_fits scope s (leaf nil at) h = tt
  callee_of_fits scope s (leaf (truth b) at) h = tt
  callee_of_fits scope s (leaf (number z) at) h = tt
  callee_of_fits scope s (leaf (text bytes) at) h = tt
  callee_of_fits scope s (leaf (keyword name) at) h = tt
  callee_of_fits scope s (leaf (symbol name) at) h = callee_fits (length scope.locals) (meaning name scope) s at (meaning_meant ks name scope h.known)
  callee_of_fits scope s (group b forms at) h = tt

  -- ---- nodes of parts

  choice_placed : (turned : Bool) (d low room : ℕ) (test a b : Tree) (m : Mark) → low < room → Placed d low test → Placed d low a → Placed d low b → Placed d room (choice_node turned test a b m)
  choice_placed false d low room test a b m lt p q r = ((p.0, q.0, r.0), omega (arith, lt, p.1, q.1, r.1))
  choice_placed true d low room test a b m lt p q r = ((p.0, r.0, q.0), omega (arith, lt, p.1, q.1, r.1))

  binding_placed : (is_loop : Bool) (d e low room : ℕ) (values : Trees) (body : Tree) (m : Mark) → low < room → ScopedLet ks d values → levels_in ks values ≤ low → e ≡ d + count values → Placed e low body → Placed d room (binding_node is_loop values body m)
  binding_placed false d e low room values body m lt p l same h = ((p, subst (λ k. ScopedTree ks k body) same h.0), omega (arith, lt, l, h.1))
  binding_placed true d e low room values body m lt p l same h = ((p, subst (λ k. ScopedTree ks k body) same h.0), omega (arith, lt, l, h.1))

  -- one more local
  deeper : (scope : Scope) (name : List ℕ) → InScope scope → length scope.locals < 200 → InScope (with_local name scope)
  deeper scope name h lt = record { known = h.known; few = omega (arith, lt) }

  abbrev HasRoom : Scope → List ℕ → Type 0
  HasRoom scope name = length scope.locals < 200

  name_room : (scope : Scope) (binder : Form) → Every (HasRoom scope) (bound_name scope binder)
  name_room scope (leaf nil at) = tt
  name_room scope (leaf (truth b) at) = tt
  name_room scope (leaf (number z) at) = tt
  name_room scope (leaf (text bytes) at) = tt
  name_room scope (leaf (keyword name) at) = tt
  name_room scope (leaf (symbol name) at) =
      if_every (HasRoom scope) (may_bind name) (if nat_lt (length scope.locals) 200 then Ok name else refuse TooMany at) (record { kind = BadForm; at = at })
      (λ ok. if_every (HasRoom scope) (nat_lt (length scope.locals) 200) (Ok name) (record { kind = TooMany; at = at }) (λ lt. is_less (length scope.locals) 200 lt))
  name_room scope (group b forms at) = tt

  one_bound : (d room : ℕ) (scope : Scope) (name : List ℕ) (value : Tree) (bound : Bound) → d ≡ length scope.locals → Placed d room value → BoundPlaced (suc d) room bound
      → BoundPlaced d room (record { values = more value bound.values; scope = bound.scope })
  one_bound d room scope name value bound same p b = record {
    values = (p.0, subst (λ k. ScopedLet ks k bound.values) (one_more d) b.values);
    levels = omega (arith, p.1, b.levels);
    locals = omega (arith, b.locals);
    known = b.known;
    few = b.few;
  }

  -- ---- special forms

  -- such a sequence of so many items
  abbrev RowFits : Sequence → ℕ → ℕ → Type 0
  RowFits sequence.Do room n = 0 < n
  RowFits sequence.Recur room n = Unit {0}
  RowFits sequence.Println room n = Unit {0}
  RowFits sequence.Vector room n = Unit {0}
  RowFits (sequence.Core op) room n = Unit {0}
  RowFits (sequence.Call f) room n = CalleeFits room (TheFunction f)

  abbrev Fit : ℕ → ACore → Type 0
  Fit room (whole x) = Unit {0}
  Fit room (parted (row k forms)) = RowFits k room (parts forms)
  Fit room (parted (one_part k form)) = Unit {0}
  Fit room (parted (putting form r e)) = Unit {0}
  Fit room (parted (choice turned c a b)) = Unit {0}
  Fit room (parted (binding is_loop pairs forms)) = Unit {0}
  Fit room (parted (changing k r f args)) = Unit {0}

  family_fits : (o : Option CellForm) (args : Forms) (at : Span) (room : ℕ) → Every (Fit room) (of_family o at args)
  family_fits (Some (on_cell.Look form)) (first r no_forms) at room = tt
  family_fits (Some (on_cell.Put form)) (first r (first e no_forms)) at room = tt
  family_fits (Some (on_cell.Update form)) (first r (first f args)) at room = tt
  family_fits (Some on_cell.Send) (first r (first f args)) at room = tt
  family_fits _ _ at room = tt

  special_fits : (f : FormName) (args : Forms) (s : Spot) → Every (Fit s.room) (special f s args)
  special_fits kind.If (first c (first a no_forms)) s = tt
  special_fits kind.If (first c (first a (first b no_forms))) s = tt
  special_fits kind.IfNot (first c (first a no_forms)) s = tt
  special_fits kind.IfNot (first c (first a (first b no_forms))) s = tt
  special_fits kind.Do (first e rest) s = omega arith
  special_fits kind.Let (first (group Square pairs at) forms) s =
      if_every (Fit s.room) (are_pairs pairs) (Ok (parted (binding false pairs (body forms s.span)))) (record { kind = BadForm; at = s.span }) (λ yes. tt)
  special_fits kind.Loop (first (group Square pairs at) forms) s =
      if_every (Fit s.room) (are_pairs pairs) (Ok (parted (binding true pairs (body forms s.span)))) (record { kind = BadForm; at = s.span }) (λ yes. tt)
  special_fits kind.Recur args s = tt
  special_fits kind.Println args s = tt
  special_fits kind.Dosync forms s = tt
  special_fits name args s = family_fits (cell_form name) args s.span s.room

  applied_fits : (callee : Callee) (room : ℕ) (head : Form) (args : Forms) (at : Span) → CalleeFits room callee → Fit room (applied callee head args at)
  applied_fits (CoreOp op) room head args at h = tt
  applied_fits (TheFunction n) room head args at h = h

  list_fits : (o : Option FormName) (scope : Scope) (s : Spot) (head : Form) (args : Forms) → InScope scope → Every (Fit s.room) (list_core o scope s head args)
  list_fits (Some f) scope s head args h = special_fits f args s
  list_fits None scope s head args h =
      room_every (Fit s.room) s (callee_of scope s head >>= λ callee. Ok (applied callee head args s.span))
      (λ lt. one_every (CalleeFits s.room) (Fit s.room) (callee_of scope s head) (λ callee. applied callee head args s.span) (callee_of_fits scope s head h)
      (λ callee fits. applied_fits callee s.room head args s.span fits))

  core_fits : (scope : Scope) (s : Spot) (form : Form) → InScope scope → Every (Fit s.room) (core_of scope s form)
  core_fits scope s (leaf x at) h = tt
  core_fits scope s (group Square forms at) h = tt
  core_fits scope s (group Round no_forms at) h = tt
  core_fits scope s (group Round (first head args) at) h = list_fits (form_at head) scope s head args h

  -- ---- parts

  -- the nodes of parts find so much room
  abbrev Deeper : ℕ → Resolver → Type 0
  Deeper low by = (scope : Scope) (wanted : Bool) (form : Form) → InScope scope → Every (Placed (length scope.locals) low) (by scope wanted form)

  all_placed : (low : ℕ) (by : Resolver) → Deeper low by → (scope : Scope) (inner last : Bool) (forms : Forms) → InScope scope
      → Every (AllPlaced (length scope.locals) low (parts forms)) (named_all by scope inner last forms)
  all_placed low by each scope inner last no_forms h = (tt, omega arith, refl)
  all_placed low by each scope inner last (first e rest) h =
      let d = length scope.locals in
      two_every (Placed d low) (AllPlaced d low (parts rest)) (AllPlaced d low (suc (parts rest))) (by scope (flag inner last rest) e) (named_all by scope inner last rest) (λ x y. more x y)
      (each scope (flag inner last rest) e h) (all_placed low by each scope inner last rest h)
      (λ x y p q. ((p.0, q.0), omega (arith, p.1, q.1), ap suc q.2))

  bindings_placed : (low : ℕ) (by : Resolver) → Deeper low by → (pairs : Forms) (scope : Scope) → InScope scope → Every (BoundPlaced (length scope.locals) low) (named_bindings by scope pairs)
  bindings_placed low by each no_forms scope h = record { values = h.few; levels = omega arith; locals = omega arith; known = h.known; few = h.few }
  bindings_placed low by each (first binder no_forms) scope h = tt
  bindings_placed low by each (first binder (first e rest)) scope h =
      let d = length scope.locals in
      let value = by scope true e in
      let name = bound_name scope binder in
      then_every (Placed d low) (BoundPlaced d low) value (λ x. name >>= λ n. named_bindings by (with_local n scope) rest >>= λ bound. Ok (record { values = more x bound.values; scope = bound.scope }))
      (each scope true e h)
      (λ x p. then_every (HasRoom scope) (BoundPlaced d low) name (λ n. named_bindings by (with_local n scope) rest >>= λ bound. Ok (record { values = more x bound.values; scope = bound.scope }))
      (name_room scope binder)
      (λ n lt. one_every (BoundPlaced (suc d) low) (BoundPlaced d low) (named_bindings by (with_local n scope) rest) (λ bound. record { values = more x bound.values; scope = bound.scope })
      (bindings_placed low by each rest (with_local n scope) (deeper scope n h lt))
      (λ bound b. one_bound d low scope n x bound refl p b)))

  -- a row that an instruction can count
  abbrev Narrow : ℕ → ℕ → ℕ → Trees → Type 0
  Narrow d low n ts = (n ≤ 65535) × AllPlaced d low n ts

  narrow_every : {A : Type 0} (P : A → Type 0) (n : ℕ) (s : Spot) (o : Answer A) → (n ≤ 65535 → Every P o) → Every P (narrow n s o)
  narrow_every P n s o h = unless_every P (nat_lt 65535 n) o (record { kind = TooMany; at = s.span }) (λ no. h (not_less 65535 n no))

  counted : (d low n : ℕ) (o : Answer Trees) → n ≤ 65535 → Every (AllPlaced d low n) o → Every (Narrow d low n) o
  counted d low n (Ok ts) le h = (le, h)
  counted d low n (Err e) le h = tt

  row_placed : (k : Sequence) (d low n room : ℕ) (m : Mark) (ts : Trees) → low < room → RowFits k room n → Narrow d low n ts → Placed d room (sequence_node k ts m)
  row_placed sequence.Do d low n room m ts lt fits h = ((subst (λ k. 0 < k) (sym h.1.2) fits, h.1.0), omega (arith, lt, h.1.1))
  row_placed sequence.Recur d low n room m ts lt fits h = (h.1.0, omega (arith, lt, h.1.1))
  row_placed sequence.Println d low n room m ts lt fits h = ((subst (λ k. k ≤ 65535) (sym h.1.2) h.0, h.1.0), omega (arith, lt, h.1.1))
  row_placed sequence.Vector d low n room m ts lt fits h = ((subst (λ k. k ≤ 65535) (sym h.1.2) h.0, h.1.0), omega (arith, lt, h.1.1))
  row_placed (sequence.Core op) d low n room m ts lt fits h = ((subst (λ k. k ≤ 65535) (sym h.1.2) h.0, h.1.0), omega (arith, lt, h.1.1))
  row_placed (sequence.Call f) d low n room m ts lt fits h = ((fits.0, h.1.0), omega (arith, lt, h.1.1, fits.1))

  single_placed : (k : Single) (d low room : ℕ) (part : Tree) (m : Mark) → low < room → Placed d low part → Placed d room (single_node k part m)
  single_placed single.Dosync d low room part m lt p = (p.0, omega (arith, lt, p.1))
  single_placed (single.Look form) d low room part m lt p = (p.0, omega (arith, lt, p.1))

  change_placed : (k : Change) (d low room n : ℕ) (cell : Tree) (callee : Callee) (args : Trees) (m : Mark) → low < room → suc n ≤ 65535 → Placed d low cell → CalleeFits room callee → AllPlaced d low n args → Placed d room (change_node k cell callee args m)
  change_placed (change_by.Update form) d low room n cell (CoreOp op) args m lt le p q t = ((p.0, tt, omega (arith, le, t.2), t.0), omega (arith, lt, p.1, t.1))
  change_placed (change_by.Update form) d low room n cell (TheFunction f) args m lt le p q t = ((p.0, q.0, omega (arith, le, t.2), t.0), omega (arith, lt, p.1, t.1, q.1))
  change_placed change_by.Send d low room n cell (CoreOp op) args m lt le p q t = ((p.0, tt, omega (arith, le, t.2), t.0), omega (arith, lt, p.1, t.1))
  change_placed change_by.Send d low room n cell (TheFunction f) args m lt le p q t = ((p.0, q.0, omega (arith, le, t.2), t.0), omega (arith, lt, p.1, t.1, q.1))

  module _ (scope : Scope) (s : Spot) (h : InScope scope) (low : ℕ) (by : Resolver) (lt : low < s.room) (each : Deeper low by) where
    put_placed : (form : Special) → Fit s.room (parted form) → Every (Placed (length scope.locals) s.room) (put_together by scope s form)
    put_placed (row k forms) fits =
        let d = length scope.locals in
        let items = named_all by scope (are_wanted k) (are_wanted k || s.wanted) forms in
        one_every (Narrow d low (parts forms)) (Placed d s.room) (narrow (parts forms) s items) (λ nodes. sequence_node k nodes (spot_mark s))
        (narrow_every (Narrow d low (parts forms)) (parts forms) s items (λ le. counted d low (parts forms) items le (all_placed low by each scope (are_wanted k) (are_wanted k || s.wanted) forms h)))
        (λ ts all. row_placed k d low (parts forms) s.room (spot_mark s) ts lt fits all)
    put_placed (one_part k form) fits =
        let d = length scope.locals in
        let wanted = is_wanted k || s.wanted in
        one_every (Placed d low) (Placed d s.room) (by scope wanted form) (λ node. single_node k node (spot_mark s)) (each scope wanted form h) (λ node p. single_placed k d low s.room node (spot_mark s) lt p)
    put_placed (putting form r e) fits =
        let d = length scope.locals in
        two_every (Placed d low) (Placed d low) (Placed d s.room) (by scope true r) (by scope true e) (λ x y. Put form x y (spot_mark s)) (each scope true r h) (each scope true e h)
        (λ x y p q. ((p.0, q.0), omega (arith, lt, p.1, q.1)))
    put_placed (choice turned c a b) fits =
        let d = length scope.locals in
        three_every (Placed d low) (Placed d low) (Placed d low) (Placed d s.room) (by scope true c) (by scope s.wanted a) (by scope s.wanted b) (λ x y z. choice_node turned x y z (spot_mark s))
        (each scope true c h) (each scope s.wanted a h) (each scope s.wanted b h)
        (λ x y z p q r. choice_placed turned d low s.room x y z (spot_mark s) lt p q r)
    put_placed (binding is_loop pairs forms) fits =
        let d = length scope.locals in
        then_every (BoundPlaced d low) (Placed d s.room) (named_bindings by scope pairs) (λ b. by b.scope s.wanted forms >>= λ node. Ok (binding_node is_loop b.values node (spot_mark s)))
        (bindings_placed low by each pairs scope h)
        (λ b p. one_every (Placed (length b.scope.locals) low) (Placed d s.room) (by b.scope s.wanted forms) (λ node. binding_node is_loop b.values node (spot_mark s))
        (each b.scope s.wanted forms (record { known = p.known; few = p.few }))
        (λ node q. binding_placed is_loop d (length b.scope.locals) low s.room b.values node (spot_mark s) lt p.values p.levels p.locals q))
    put_placed (changing k r f args) fits =
        let d = length scope.locals in
        let n = parts args in
        let items = named_all by scope true true args in
        three_every (Placed d low) (CalleeFits s.room) (λ ts. (suc n ≤ 65535) × AllPlaced d low n ts) (Placed d s.room) (by scope true r) (callee_of scope s f) (narrow (suc n) s items) (λ x y z. change_node k x y z (spot_mark s))
        (each scope true r h) (callee_of_fits scope s f h)
        (narrow_every (λ ts. (suc n ≤ 65535) × AllPlaced d low n ts) (suc n) s items
        (λ le. one_all items le (all_placed low by each scope true true args h)))
        (λ x y z p q t. change_placed k d low s.room n x y z (spot_mark s) lt t.0 p q t.1) where
          one_all : {n : ℕ} (o : Answer Trees) → suc n ≤ 65535 → Every (AllPlaced (length scope.locals) low n) o → Every (λ ts. (suc n ≤ 65535) × AllPlaced (length scope.locals) low n ts) o
          one_all (Ok ts) le h = (le, h)
          one_all (Err e) le h = tt

  -- below the last level nothing is asked
  abbrev Below : ℕ → Resolver → Type 0
  Below room by = 0 < room → (low : ℕ) × (low < room) × Deeper low by

  made_placed : (scope : Scope) (s : Spot) (by : Resolver) → InScope scope → Below s.room by → (c : ACore) → Fit s.room c → Every (Placed (length scope.locals) s.room) (made by scope s c)
  made_placed scope s by h below (whole x) fits = leaf_placed scope x s h
  made_placed scope s by h below (parted form) fits =
      room_every (Placed (length scope.locals) s.room) s (put_together by scope s form)
      (λ lt. let b = below lt in put_placed scope s h b.0 by b.1 b.2 form fits)

  resolved_placed : (room : ℕ) (by : Resolver) (scope : Scope) (wanted : Bool) (form : Form) → InScope scope → Below room by → Every (Placed (length scope.locals) room) (resolved by room scope wanted form)
  resolved_placed room by scope wanted form h below =
      let s = spot_at room (place form) wanted in
      then_every (Fit room) (Placed (length scope.locals) room) (core_of scope s (expand_once form)) (made by scope s) (core_fits scope s (expand_once form) h)
      (λ c fits. made_placed scope s by h below c fits)

  pub form_named : (room : ℕ) (scope : Scope) (wanted : Bool) (form : Form) → InScope scope → Every (Placed (length scope.locals) room) (named room scope wanted form)
  unfolding named
  form_named zero scope wanted form h = resolved_placed 0 (λ _ _ e. refuse TooMany (place e)) scope wanted (alone form) h (λ lt. absurd (omega (arith, lt)))
  form_named (suc room) scope wanted form h =
      resolved_placed (suc room) (named room) scope wanted (alone form) h (λ lt. (room, omega arith, λ inner w e k. form_named room inner w e k))
