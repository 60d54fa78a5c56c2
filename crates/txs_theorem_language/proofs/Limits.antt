-- What the limit of levels refuses, and what it lets through.
use Rattle.std.proofs.Common.{◌≡◌, ℕ, zero, suc, ◌+◌, ◌<◌, ◌≤◌, max, Bool, true, false, ◌||◌, bytes_eq, nat_lt, List, [], ◌∷◌, Option, Some, None, Ok, Err, refl, sym, subst, arith, if◌then◌else◌}
use Rattle.std.proofs.Math.Nat.{le-max_left, le-max_right}
use Rattle.std.proofs.lemmas.Bool.Decides.{nat_tests}
use Rattle.txs_value_data.specs.declared.fault.Span.{Span}
use Rattle.txs_value_data.specs.declared.op.Callee.{Callee}
use Rattle.txs_value_data.specs.declared.op.Callee.TheVariants.{Core as CoreOp, Function as TheFunction}
use Rattle.txs_reader.specs.declared.form.Bracket.TheVariants.{Round, Square}
use Rattle.txs_reader.specs.Tree.{Leaf, PlainForm as Form, PlainForms as Forms, leaf, group, first, place, number, symbol, nil, truth, text, keyword, parts}
use Rattle.txs_reader.specs.Tree.{none as no_forms}
use Rattle.txs_tree_meaning.specs.Tree.{Tree, Trees, Mark, Const, Local, If, Do, Let, Loop, Recur, Core, Call, VectorOf, Println, Dosync, Look, Put, Update, Send, more}
use Rattle.txs_resolve_expand.specs.declared.names.FormName.{FormName}
use Rattle.txs_resolve_expand.specs.declared.scope.Definition.{Definition}
use Rattle.txs_resolve_expand.specs.declared.scope.Definition.TheVariants.{Constant, Cell as ACell, Function as AFunction}
use Rattle.txs_resolve_expand.specs.Scope.{Entry, Scope, Meaning, a_form, dotted, a_local, the_current, defined_as, operation, unknown, definition_of, meaning, with_local}
use Rattle.txs_resolve_expand.proofs.Meanings.{meaning_so}
use Rattle.txs_resolve_expand.specs.declared.error.ResolveErrorKind.TheVariants.{TooMany}
use Rattle.txs_resolve_expand.specs.declared.shapes.Change.{Change}
use Rattle.txs_resolve_expand.specs.declared.shapes.Change.TheVariants as change_by
use Rattle.txs_resolve_expand.specs.declared.shapes.Sequence.{Sequence}
use Rattle.txs_resolve_expand.specs.declared.shapes.Sequence.TheVariants as sequence
use Rattle.txs_resolve_expand.specs.declared.shapes.Single.{Single}
use Rattle.txs_resolve_expand.specs.declared.shapes.Single.TheVariants as single
use Rattle.txs_resolve_expand.specs.declared.shapes.Spot.{Spot}
use Rattle.txs_resolve_expand.specs.Answers.{◌>>=◌, refuse}
use Rattle.txs_resolve.specs.Depths.{at_place, callee_depth, depths, depths_in}
use Rattle.txs_resolve_expand.specs.Expansions.{alone, body, expand_once, form_at}
use Rattle.txs_resolve_expand.specs.Expressions.{Answer, Bound, Special, row, one_part, putting, choice, binding, changing, Core as ACore, whole, parted, Resolver, spot_at, spot_mark, some_room, narrow, symbol_node, leaf_node, callee_at, callee_of, flag, sequence_node, are_wanted, choice_node, single_node, is_wanted, change_node, binding_node, special, applied, list_core, core_of, bound_name, named_all, named_bindings, put_together, made, resolved, named}
use Rattle.txs_theorem_language.specs.Levels.{IfGives, Limited, as_wider, too_many}
use Rattle.txs_theorem_language.proofs.Levels.{special_same}

-- ---- levels of the functions that are defined

-- a definition of a function tells the levels that the list has for it
abbrev pub LevelsOf : List ℕ → Definition → Type 0
LevelsOf ls (Constant v) = Unit {0}
LevelsOf ls (ACell c) = Unit {0}
LevelsOf ls (AFunction n levels) = at_place ls n ≡ levels

-- each function that is defined has its levels in the list, at its number
abbrev pub LevelsStand : List ℕ → List Entry → Type 0
LevelsStand ls [] = Unit {0}
LevelsStand ls (e ∷ es) = LevelsOf ls e.what × LevelsStand ls es

-- ---- what answers give

gives_all : {A : Type 0} (P : A → Type 0) → ((v : A) → P v) → (x : Answer A) → IfGives P x
gives_all P h (Ok v) = h v
gives_all P h (Err e) = tt

pub gives_bind : {A B : Type 0} (Q : B → Type 0) (x : Answer A) (f : A → Answer B) → ((v : A) → IfGives Q (f v)) → IfGives Q (x >>= f)
gives_bind Q (Ok v) f h = h v
gives_bind Q (Err e) f h = tt

pub gives_on : {A B : Type 0} (P : A → Type 0) (Q : B → Type 0) (x : Answer A) (f : A → Answer B) → IfGives P x → ((v : A) → P v → IfGives Q (f v)) → IfGives Q (x >>= f)
gives_on P Q (Ok v) f p h = h v p
gives_on P Q (Err e) f p h = tt

pub gives_narrow : {A : Type 0} (P : A → Type 0) (n : ℕ) (s : Spot) (x : Answer A) → IfGives P x → IfGives P (narrow n s x)
gives_narrow P n s x h = by (nat_lt 65535 n)
  where
    by : (z : Bool) → IfGives P (if z then refuse TooMany s.span else x)
    by true = tt
    by false = h

-- ---- how deep nodes are

deeper_left : (n a b : ℕ) → n < a → n < max a b
deeper_left n a b h = omega (arith, h, le-max_left a b)

deeper_right : (n a b : ℕ) → n < b → n < max a b
deeper_right n a b h = omega (arith, h, le-max_right a b)

pub positive : (n : ℕ) → 0 < suc n
positive n = omega arith

lower : (n a : ℕ) → suc n ≤ a → n < a
lower n a h = omega (arith, h)

none_below : (n : ℕ) → suc n ≤ 0 → ⊥
none_below n h = omega (arith, h)

less_sum : (n m a : ℕ) → n + m < a → n < a
less_sum n m a h = omega (arith, h)

known_most : (n a b : ℕ) → n ≤ b → a ≡ b → n ≤ a
known_most n a b h e = omega (arith, h, e)

up : (n a : ℕ) → n < a → suc n < suc a
up n a h = omega (arith, h)

module _ (ls : List ℕ) where
  some_depth : (t : Tree) → 0 < depths ls t
  some_depth (Const v m) = positive _
  some_depth (Local i m) = positive _
  some_depth (If c a b m) = positive _
  some_depth (Do items m) = positive _
  some_depth (Let values body m) = positive _
  some_depth (Loop values body m) = positive _
  some_depth (Recur values m) = positive _
  some_depth (Core op args m) = positive _
  some_depth (Call f args m) = positive _
  some_depth (VectorOf items m) = positive _
  some_depth (Println args m) = positive _
  some_depth (Dosync body m) = positive _
  some_depth (Look form cell m) = positive _
  some_depth (Put form cell value m) = positive _
  some_depth (Update form cell callee args m) = positive _
  some_depth (Send cell callee args m) = positive _

  module _ (n : ℕ) (m : Mark) where
    row_deep : (k : Sequence) (ts : Trees) → n < depths_in ls ts → suc n < depths ls (sequence_node k ts m)
    row_deep sequence.Do ts h = up n (depths_in ls ts) h
    row_deep sequence.Recur ts h = up n (depths_in ls ts) h
    row_deep sequence.Println ts h = up n (depths_in ls ts) h
    row_deep sequence.Vector ts h = up n (depths_in ls ts) h
    row_deep (sequence.Core op) ts h = up n (depths_in ls ts) h
    row_deep (sequence.Call f) ts h = up n (max (at_place ls f) (depths_in ls ts)) (deeper_right n (at_place ls f) (depths_in ls ts) h)

    one_deep : (k : Single) (t : Tree) → n < depths ls t → suc n < depths ls (single_node k t m)
    one_deep single.Dosync t h = up n (depths ls t) h
    one_deep (single.Look form) t h = up n (depths ls t) h

    three_deep : (a b c : ℕ) → n < a → suc n < suc (max a (max b c))
    three_deep a b c h = up n (max a (max b c)) (deeper_left n a (max b c) h)

    second_deep : (a b c : ℕ) → n < b → suc n < suc (max a (max b c))
    second_deep a b c h = up n (max a (max b c)) (deeper_right n a (max b c) (deeper_left n b c h))

    third_deep : (a b c : ℕ) → n < c → suc n < suc (max a (max b c))
    third_deep a b c h = up n (max a (max b c)) (deeper_right n a (max b c) (deeper_right n b c h))

    test_deep : (t : Bool) (c x y : Tree) → n < depths ls c → suc n < depths ls (choice_node t c x y m)
    test_deep false c x y h = three_deep (depths ls c) (depths ls x) (depths ls y) h
    test_deep true c x y h = three_deep (depths ls c) (depths ls y) (depths ls x) h

    first_deep : (t : Bool) (c x y : Tree) → n < depths ls x → suc n < depths ls (choice_node t c x y m)
    first_deep false c x y h = second_deep (depths ls c) (depths ls x) (depths ls y) h
    first_deep true c x y h = third_deep (depths ls c) (depths ls y) (depths ls x) h

    last_deep : (t : Bool) (c x y : Tree) → n < depths ls y → suc n < depths ls (choice_node t c x y m)
    last_deep false c x y h = third_deep (depths ls c) (depths ls x) (depths ls y) h
    last_deep true c x y h = second_deep (depths ls c) (depths ls y) (depths ls x) h

    values_deep : (l : Bool) (vs : Trees) (t : Tree) → n < depths_in ls vs → suc n < depths ls (binding_node l vs t m)
    values_deep false vs t h = up n (max (depths_in ls vs) (depths ls t)) (deeper_left n (depths_in ls vs) (depths ls t) h)
    values_deep true vs t h = up n (max (depths_in ls vs) (depths ls t)) (deeper_left n (depths_in ls vs) (depths ls t) h)

    body_deep : (l : Bool) (vs : Trees) (t : Tree) → n < depths ls t → suc n < depths ls (binding_node l vs t m)
    body_deep false vs t h = up n (max (depths_in ls vs) (depths ls t)) (deeper_right n (depths_in ls vs) (depths ls t) h)
    body_deep true vs t h = up n (max (depths_in ls vs) (depths ls t)) (deeper_right n (depths_in ls vs) (depths ls t) h)

    callee_deep : (k : Change) (r : Tree) (c : Callee) (ts : Trees) → n < callee_depth ls c → suc n < depths ls (change_node k r c ts m)
    callee_deep (change_by.Update form) r c ts h = three_deep (callee_depth ls c) (depths ls r) (depths_in ls ts) h
    callee_deep change_by.Send r c ts h = three_deep (callee_depth ls c) (depths ls r) (depths_in ls ts) h

    cell_deep : (k : Change) (r : Tree) (c : Callee) (ts : Trees) → n < depths ls r → suc n < depths ls (change_node k r c ts m)
    cell_deep (change_by.Update form) r c ts h = second_deep (callee_depth ls c) (depths ls r) (depths_in ls ts) h
    cell_deep change_by.Send r c ts h = second_deep (callee_depth ls c) (depths ls r) (depths_in ls ts) h

    args_deep : (k : Change) (r : Tree) (c : Callee) (ts : Trees) → n < depths_in ls ts → suc n < depths ls (change_node k r c ts m)
    args_deep (change_by.Update form) r c ts h = third_deep (callee_depth ls c) (depths ls r) (depths_in ls ts) h
    args_deep change_by.Send r c ts h = third_deep (callee_depth ls c) (depths ls r) (depths_in ls ts) h

-- ---- less room: the same answer, or too much

limited_bind : {A B : Type 0} (P : A → Type 0) (Q : B → Type 0) (x y : Answer A) (f g : A → Answer B) → Limited A P y x
    → ((v : A) → P v → IfGives Q (g v)) → ((v : A) → Limited B Q (g v) (f v)) → Limited B Q (y >>= g) (x >>= f)
limited_bind {A} {B} P Q _ y f g as_wider deep h = by y
  where
    by : (a : Answer A) → Limited B Q (a >>= g) (a >>= f)
    by (Ok v) = h v
    by (Err e) = as_wider
limited_bind {A} {B} P Q _ y f g (too_many at d) deep h = too_many at (gives_on P Q y g d deep)

-- the same, where what is given is known to be so
limited_given : {A B : Type 0} (P R : A → Type 0) (Q : B → Type 0) (x y : Answer A) (f g : A → Answer B) → Limited A P y x → IfGives R y
    → ((v : A) → P v → IfGives Q (g v)) → ((v : A) → R v → Limited B Q (g v) (f v)) → Limited B Q (y >>= g) (x >>= f)
limited_given {A} {B} P R Q _ y f g as_wider is deep h = by y is
  where
    by : (a : Answer A) → IfGives R a → Limited B Q (a >>= g) (a >>= f)
    by (Ok v) k = h v k
    by (Err e) k = as_wider
limited_given {A} {B} P R Q _ y f g (too_many at d) is deep h = too_many at (gives_on P Q y g d deep)

limited_narrow : {A : Type 0} (P : A → Type 0) (n : ℕ) (s u : Spot) (x y : Answer A) → s.span ≡ u.span → Limited A P y x → Limited A P (narrow n u y) (narrow n s x)
limited_narrow {A} P n s u x y e h = by (nat_lt 65535 n)
  where
    by : (z : Bool) → Limited A P (if z then refuse TooMany u.span else y) (if z then refuse TooMany s.span else x)
    by true = too_many s.span tt
    by false = h

-- ---- what the scope knows of functions

abbrev pub MeaningStands : List ℕ → Meaning → Type 0
MeaningStands ls (defined_as d) = LevelsOf ls d
MeaningStands ls (a_form f) = Unit {0}
MeaningStands ls dotted = Unit {0}
MeaningStands ls (a_local i) = Unit {0}
MeaningStands ls the_current = Unit {0}
MeaningStands ls (operation op) = Unit {0}
MeaningStands ls unknown = Unit {0}

abbrev pub FoundStands : List ℕ → Option Definition → Type 0
FoundStands ls None = Unit {0}
FoundStands ls (Some d) = LevelsOf ls d

found_stands : (ls : List ℕ) (name : List ℕ) (es : List Entry) → LevelsStand ls es → FoundStands ls (definition_of name es)
found_stands ls name [] h = tt
found_stands ls name (e ∷ es) h = by (bytes_eq e.name name) (found_stands ls name es h.1)
  where
    by : (y : Bool) → FoundStands ls (definition_of name es) → FoundStands ls (if y then Some e.what else definition_of name es)
    by true k = h.0
    by false k = k

pub meaning_stands : (ls : List ℕ) (name : List ℕ) (scope : Scope) → LevelsStand ls scope.defined → MeaningStands ls (meaning name scope)
meaning_stands ls name scope h = meaning_so (MeaningStands ls) (λ f. tt) tt (λ op. tt) tt name scope (λ i e. tt) (λ e. tt) (λ d e. subst (FoundStands ls) e (found_stands ls name scope.defined h))

module _ (ls : List ℕ) where
  -- ---- the parts of one form, with so many levels, and with one more

  abbrev Deep : ℕ → Tree → Type 0
  Deep n t = n < depths ls t

  abbrev DeepRow : ℕ → Trees → Type 0
  DeepRow n ts = n < depths_in ls ts

  abbrev DeepBound : ℕ → Bound → Type 0
  DeepBound n b = n < depths_in ls b.values

  abbrev DeepCallee : ℕ → Callee → Type 0
  DeepCallee n c = n ≤ callee_depth ls c

  -- which forms can't find room for so many levels: a call of a function, where the function has as many
  abbrev DeepCore : ℕ → ACore → Type 0
  DeepCore zero c = Unit {0}
  DeepCore (suc n) (parted (row (sequence.Call f) fs)) = n < at_place ls f
  DeepCore (suc n) c = ⊥

  -- two resolvers, of which one has so many levels, and the other one more
  module _ (n : ℕ) (a b : Resolver) (limits : (scope : Scope) → LevelsStand ls scope.defined → (wanted : Bool) (form : Form) → Limited Tree (Deep n) (b scope wanted form) (a scope wanted form)) where
    row_limited : (scope : Scope) → LevelsStand ls scope.defined → (inner last : Bool) (fs : Forms) → Limited Trees (DeepRow n) (named_all b scope inner last fs) (named_all a scope inner last fs)
    row_limited scope st inner last no_forms = as_wider
    row_limited scope st inner last (first f rest) =
        limited_bind (Deep n) (DeepRow n) (a scope (flag inner last rest) f) (b scope (flag inner last rest) f) (λ node. named_all a scope inner last rest >>= λ nodes. Ok (more node nodes)) (λ node. named_all b scope inner last rest >>= λ nodes. Ok (more node nodes))
        (limits scope st (flag inner last rest) f)
        (λ node d. gives_bind (DeepRow n) (named_all b scope inner last rest) (λ nodes. Ok (more node nodes)) (λ nodes. deeper_left n (depths ls node) (depths_in ls nodes) d))
        (λ node. limited_bind (DeepRow n) (DeepRow n) (named_all a scope inner last rest) (named_all b scope inner last rest) (λ nodes. Ok (more node nodes)) (λ nodes. Ok (more node nodes)) (row_limited scope st inner last rest)
        (λ nodes d. deeper_right n (depths ls node) (depths_in ls nodes) d) (λ nodes. as_wider))

    bindings_limited : (scope : Scope) → LevelsStand ls scope.defined → (fs : Forms) → Limited Bound (DeepBound n) (named_bindings b scope fs) (named_bindings a scope fs)
    bindings_limited scope st no_forms = as_wider
    bindings_limited scope st (first x no_forms) = as_wider
    bindings_limited scope st (first x (first e rest)) =
        limited_bind (Deep n) (DeepBound n) (a scope true e) (b scope true e)
        (λ value. bound_name scope x >>= λ name. named_bindings a (with_local name scope) rest >>= λ bound. Ok (record { values = more value bound.values; scope = bound.scope }))
        (λ value. bound_name scope x >>= λ name. named_bindings b (with_local name scope) rest >>= λ bound. Ok (record { values = more value bound.values; scope = bound.scope }))
        (limits scope st true e)
        (λ value d. gives_bind (DeepBound n) (bound_name scope x) (λ name. named_bindings b (with_local name scope) rest >>= λ bound. Ok (record { values = more value bound.values; scope = bound.scope }))
        (λ name. gives_bind (DeepBound n) (named_bindings b (with_local name scope) rest) (λ bound. Ok (record { values = more value bound.values; scope = bound.scope }))
        (λ bound. deeper_left n (depths ls value) (depths_in ls bound.values) d)))
        (λ value. limited_bind (λ name. ⊥) (DeepBound n) (bound_name scope x) (bound_name scope x)
        (λ name. named_bindings a (with_local name scope) rest >>= λ bound. Ok (record { values = more value bound.values; scope = bound.scope }))
        (λ name. named_bindings b (with_local name scope) rest >>= λ bound. Ok (record { values = more value bound.values; scope = bound.scope }))
        as_wider (λ name d. absurd d)
        (λ name. limited_bind (DeepBound n) (DeepBound n) (named_bindings a (with_local name scope) rest) (named_bindings b (with_local name scope) rest)
        (λ bound. Ok (record { values = more value bound.values; scope = bound.scope })) (λ bound. Ok (record { values = more value bound.values; scope = bound.scope }))
        (bindings_limited (with_local name scope) st rest) (λ bound d. deeper_right n (depths ls value) (depths_in ls bound.values) d) (λ bound. as_wider)))

  -- a binding defines nothing
  bindings_stand : (by : Resolver) (scope : Scope) → LevelsStand ls scope.defined → (fs : Forms) → IfGives (λ (bound : Bound). LevelsStand ls bound.scope.defined) (named_bindings by scope fs)
  bindings_stand by scope st no_forms = st
  bindings_stand by scope st (first x no_forms) = tt
  bindings_stand by scope st (first x (first e rest)) =
      gives_bind (λ (bound : Bound). LevelsStand ls bound.scope.defined) (by scope true e)
      (λ value. bound_name scope x >>= λ name. named_bindings by (with_local name scope) rest >>= λ bound. Ok (record { values = more value bound.values; scope = bound.scope }))
      (λ value. gives_bind (λ (bound : Bound). LevelsStand ls bound.scope.defined) (bound_name scope x)
      (λ name. named_bindings by (with_local name scope) rest >>= λ bound. Ok (record { values = more value bound.values; scope = bound.scope }))
      (λ name. gives_on (λ (bound : Bound). LevelsStand ls bound.scope.defined) (λ (bound : Bound). LevelsStand ls bound.scope.defined) (named_bindings by (with_local name scope) rest)
      (λ bound. Ok (record { values = more value bound.values; scope = bound.scope })) (bindings_stand by (with_local name scope) st rest) (λ bound k. k)))

  module _ (room : ℕ) (at : Span) (wanted : Bool) where
    abbrev low : Spot
    low = spot_at room at wanted

    abbrev high : Spot
    high = spot_at (suc room) at wanted

    callee_at_limited : (m : Meaning) → MeaningStands ls m → (there : Span) → Limited Callee (DeepCallee room) (callee_at m high there) (callee_at m low there)
    callee_at_limited (a_form f) st there = as_wider
    callee_at_limited dotted st there = as_wider
    callee_at_limited (a_local i) st there = as_wider
    callee_at_limited the_current st there = as_wider
    callee_at_limited (defined_as (Constant v)) st there = as_wider
    callee_at_limited (defined_as (ACell k)) st there = as_wider
    callee_at_limited (defined_as (AFunction f levels)) st there = by (nat_lt levels room) refl
      where
        other : (z : Bool) → room ≤ levels → IfGives (DeepCallee room) (if z then Ok (TheFunction f) else refuse TooMany at)
        other true le = known_most room (at_place ls f) levels le st
        other false le = tt

        by : (z : Bool) → nat_lt levels room ≡ z → Limited Callee (DeepCallee room) (if nat_lt levels (suc room) then Ok (TheFunction f) else refuse TooMany at) (if z then Ok (TheFunction f) else refuse TooMany at)
        by true is =
            let lt : levels < room = grind (arith, nat_tests, is) in
            let yes : nat_lt levels (suc room) ≡ true = grind (arith, nat_tests, lt) in
            subst (λ (z : Bool). Limited Callee (DeepCallee room) (if z then Ok (TheFunction f) else refuse TooMany at) (Ok (TheFunction f))) (sym yes) as_wider
        by false is =
            let le : room ≤ levels = grind (arith, nat_tests, is) in
            too_many at (other (nat_lt levels (suc room)) le)
    callee_at_limited (operation op) st there = as_wider
    callee_at_limited unknown st there = as_wider

    callee_limited : (scope : Scope) → LevelsStand ls scope.defined → (f : Form) → Limited Callee (DeepCallee room) (callee_of scope high f) (callee_of scope low f)
    callee_limited scope st (leaf (symbol name) there) = callee_at_limited (meaning name scope) (meaning_stands ls name scope st) there
    callee_limited scope st f = as_wider

    leaf_room : (n : ℕ) (t : Tree) → Limited Tree (Deep n) (some_room (suc n) (refuse TooMany at) (Ok t)) (some_room n (refuse TooMany at) (Ok t))
    leaf_room zero t = too_many at (some_depth ls t)
    leaf_room (suc n) t = as_wider

    symbol_limited : (m : Meaning) → Limited Tree (Deep room) (symbol_node m high) (symbol_node m low)
    symbol_limited (a_form f) = as_wider
    symbol_limited dotted = as_wider
    symbol_limited (a_local i) = leaf_room room (Local i (spot_mark low))
    symbol_limited the_current = as_wider
    symbol_limited (defined_as (Constant v)) = leaf_room room (Const v (spot_mark low))
    symbol_limited (defined_as (ACell c)) = leaf_room room _
    symbol_limited (defined_as (AFunction n l)) = as_wider
    symbol_limited (operation op) = as_wider
    symbol_limited unknown = as_wider

    leaf_limited : (scope : Scope) (x : Leaf) → Limited Tree (Deep room) (leaf_node scope x high) (leaf_node scope x low)
    leaf_limited scope nil = leaf_room room _
    leaf_limited scope (truth x) = leaf_room room _
    leaf_limited scope (number x) = leaf_room room _
    leaf_limited scope (text x) = leaf_room room _
    leaf_limited scope (keyword x) = leaf_room room _
    leaf_limited scope (symbol name) = symbol_limited (meaning name scope)

  core_room : (n : ℕ) (at : Span) (x y : Answer ACore) → Limited ACore (DeepCore n) y x → Limited ACore (DeepCore n) (some_room (suc n) (refuse TooMany at) y) (some_room n (refuse TooMany at) x)
  core_room zero at x y h = too_many at (gives_all (DeepCore zero) (λ c. tt) y)
  core_room (suc n) at x y h = h

  applied_deep : (n : ℕ) (c : Callee) (head : Form) (args : Forms) (at : Span) → DeepCallee n c → DeepCore n (applied c head args at)
  applied_deep zero c head args at h = tt
  applied_deep (suc n) (CoreOp op) head args at h = absurd (none_below n h)
  applied_deep (suc n) (TheFunction f) head args at h = lower n (at_place ls f) h

  module _ (room : ℕ) (at : Span) (wanted : Bool) where
    list_limited : (o : Option FormName) (scope : Scope) → LevelsStand ls scope.defined → (head : Form) (args : Forms)
        → Limited ACore (DeepCore room) (list_core o scope (spot_at (suc room) at wanted) head args) (list_core o scope (spot_at room at wanted) head args)
    list_limited (Some f) scope st head args =
        subst (λ x. Limited ACore (DeepCore room) x (special f (spot_at room at wanted) args)) (special_same room at wanted f args) as_wider
    list_limited None scope st head args =
        core_room room at (callee_of scope (spot_at room at wanted) head >>= λ callee. Ok (applied callee head args at)) (callee_of scope (spot_at (suc room) at wanted) head >>= λ callee. Ok (applied callee head args at))
        (limited_bind (DeepCallee room) (DeepCore room) (callee_of scope (spot_at room at wanted) head) (callee_of scope (spot_at (suc room) at wanted) head) (λ callee. Ok (applied callee head args at)) (λ callee. Ok (applied callee head args at))
        (callee_limited room at wanted scope st head) (λ c d. applied_deep room c head args at d) (λ callee. as_wider))

    core_limited : (scope : Scope) → LevelsStand ls scope.defined → (form : Form) → Limited ACore (DeepCore room) (core_of scope (spot_at (suc room) at wanted) form) (core_of scope (spot_at room at wanted) form)
    core_limited scope st (leaf x there) = as_wider
    core_limited scope st (group Square fs there) = as_wider
    core_limited scope st (group Round no_forms there) = as_wider
    core_limited scope st (group Round (first head args) there) = list_limited (form_at head) scope st head args

  module _ (n : ℕ) (a b : Resolver) (limits : (scope : Scope) → LevelsStand ls scope.defined → (wanted : Bool) (form : Form) → Limited Tree (Deep n) (b scope wanted form) (a scope wanted form)) (at : Span) (wanted : Bool) where
    abbrev near : Spot
    near = spot_at (suc n) at wanted

    abbrev wide : Spot
    wide = spot_at (suc (suc n)) at wanted

    abbrev mark : Mark
    mark = spot_mark near

    put_limited : (scope : Scope) → LevelsStand ls scope.defined → (form : Special) → Limited Tree (Deep (suc n)) (put_together b scope wide form) (put_together a scope near form)
    put_limited scope st (row k fs) =
        let inner = are_wanted k in
        let last = are_wanted k || wanted in
        limited_bind (DeepRow n) (Deep (suc n)) (narrow (parts fs) near (named_all a scope inner last fs)) (narrow (parts fs) wide (named_all b scope inner last fs)) (λ nodes. Ok (sequence_node k nodes mark)) (λ nodes. Ok (sequence_node k nodes mark))
        (limited_narrow (DeepRow n) (parts fs) near wide (named_all a scope inner last fs) (named_all b scope inner last fs) refl (row_limited n a b limits scope st inner last fs))
        (λ nodes d. row_deep ls n mark k nodes d) (λ nodes. as_wider)
    put_limited scope st (one_part k f) =
        limited_bind (Deep n) (Deep (suc n)) (a scope (is_wanted k || wanted) f) (b scope (is_wanted k || wanted) f) (λ node. Ok (single_node k node mark)) (λ node. Ok (single_node k node mark)) (limits scope st (is_wanted k || wanted) f)
        (λ node d. one_deep ls n mark k node d) (λ node. as_wider)
    put_limited scope st (putting form r e) =
        limited_bind (Deep n) (Deep (suc n)) (a scope true r) (b scope true r) (λ cell. a scope true e >>= λ value. Ok (Put form cell value mark)) (λ cell. b scope true e >>= λ value. Ok (Put form cell value mark)) (limits scope st true r)
        (λ cell d. gives_bind (Deep (suc n)) (b scope true e) (λ value. Ok (Put form cell value mark)) (λ value. up n (max (depths ls cell) (depths ls value)) (deeper_left n (depths ls cell) (depths ls value) d)))
        (λ cell. limited_bind (Deep n) (Deep (suc n)) (a scope true e) (b scope true e) (λ value. Ok (Put form cell value mark)) (λ value. Ok (Put form cell value mark)) (limits scope st true e)
        (λ value d. up n (max (depths ls cell) (depths ls value)) (deeper_right n (depths ls cell) (depths ls value) d)) (λ value. as_wider))
    put_limited scope st (choice turn c x y) =
        limited_bind (Deep n) (Deep (suc n)) (a scope true c) (b scope true c)
        (λ test. a scope wanted x >>= λ one. a scope wanted y >>= λ other. Ok (choice_node turn test one other mark)) (λ test. b scope wanted x >>= λ one. b scope wanted y >>= λ other. Ok (choice_node turn test one other mark)) (limits scope st true c)
        (λ test d. gives_bind (Deep (suc n)) (b scope wanted x) (λ one. b scope wanted y >>= λ other. Ok (choice_node turn test one other mark))
        (λ one. gives_bind (Deep (suc n)) (b scope wanted y) (λ other. Ok (choice_node turn test one other mark)) (λ other. test_deep ls n mark turn test one other d)))
        (λ test. limited_bind (Deep n) (Deep (suc n)) (a scope wanted x) (b scope wanted x)
        (λ one. a scope wanted y >>= λ other. Ok (choice_node turn test one other mark)) (λ one. b scope wanted y >>= λ other. Ok (choice_node turn test one other mark)) (limits scope st wanted x)
        (λ one d. gives_bind (Deep (suc n)) (b scope wanted y) (λ other. Ok (choice_node turn test one other mark)) (λ other. first_deep ls n mark turn test one other d))
        (λ one. limited_bind (Deep n) (Deep (suc n)) (a scope wanted y) (b scope wanted y) (λ other. Ok (choice_node turn test one other mark)) (λ other. Ok (choice_node turn test one other mark)) (limits scope st wanted y)
        (λ other d. last_deep ls n mark turn test one other d) (λ other. as_wider)))
    put_limited scope st (binding l pairs fs) =
        limited_given (DeepBound n) (λ bound. LevelsStand ls bound.scope.defined) (Deep (suc n)) (named_bindings a scope pairs) (named_bindings b scope pairs)
        (λ bound. a bound.scope wanted fs >>= λ node. Ok (binding_node l bound.values node mark)) (λ bound. b bound.scope wanted fs >>= λ node. Ok (binding_node l bound.values node mark))
        (bindings_limited n a b limits scope st pairs) (bindings_stand b scope st pairs)
        (λ bound d. gives_bind (Deep (suc n)) (b bound.scope wanted fs) (λ node. Ok (binding_node l bound.values node mark)) (λ node. values_deep ls n mark l bound.values node d))
        (λ bound known. limited_bind (Deep n) (Deep (suc n)) (a bound.scope wanted fs) (b bound.scope wanted fs) (λ node. Ok (binding_node l bound.values node mark)) (λ node. Ok (binding_node l bound.values node mark)) (limits bound.scope known wanted fs)
        (λ node d. body_deep ls n mark l bound.values node d) (λ node. as_wider))
    put_limited scope st (changing k r f args) =
        limited_bind (Deep n) (Deep (suc n)) (a scope true r) (b scope true r)
        (λ cell. callee_of scope near f >>= λ callee. narrow (suc (parts args)) near (named_all a scope true true args) >>= λ nodes. Ok (change_node k cell callee nodes mark))
        (λ cell. callee_of scope wide f >>= λ callee. narrow (suc (parts args)) wide (named_all b scope true true args) >>= λ nodes. Ok (change_node k cell callee nodes mark)) (limits scope st true r)
        (λ cell d. gives_bind (Deep (suc n)) (callee_of scope wide f) (λ callee. narrow (suc (parts args)) wide (named_all b scope true true args) >>= λ nodes. Ok (change_node k cell callee nodes mark))
        (λ callee. gives_bind (Deep (suc n)) (narrow (suc (parts args)) wide (named_all b scope true true args)) (λ nodes. Ok (change_node k cell callee nodes mark)) (λ nodes. cell_deep ls n mark k cell callee nodes d)))
        (λ cell. limited_bind (DeepCallee (suc n)) (Deep (suc n)) (callee_of scope near f) (callee_of scope wide f)
        (λ callee. narrow (suc (parts args)) near (named_all a scope true true args) >>= λ nodes. Ok (change_node k cell callee nodes mark))
        (λ callee. narrow (suc (parts args)) wide (named_all b scope true true args) >>= λ nodes. Ok (change_node k cell callee nodes mark)) (callee_limited (suc n) at wanted scope st f)
        (λ callee d. gives_bind (Deep (suc n)) (narrow (suc (parts args)) wide (named_all b scope true true args)) (λ nodes. Ok (change_node k cell callee nodes mark)) (λ nodes. callee_deep ls n mark k cell callee nodes (lower n (callee_depth ls callee) d)))
        (λ callee. limited_bind (DeepRow n) (Deep (suc n)) (narrow (suc (parts args)) near (named_all a scope true true args)) (narrow (suc (parts args)) wide (named_all b scope true true args))
        (λ nodes. Ok (change_node k cell callee nodes mark)) (λ nodes. Ok (change_node k cell callee nodes mark))
        (limited_narrow (DeepRow n) (suc (parts args)) near wide (named_all a scope true true args) (named_all b scope true true args) refl (row_limited n a b limits scope st true true args))
        (λ nodes d. args_deep ls n mark k cell callee nodes d) (λ nodes. as_wider)))

    call_deep : (scope : Scope) (c : ACore) → DeepCore (suc n) c → IfGives (Deep (suc n)) (made b scope wide c)
    call_deep scope (parted (row (sequence.Call f) fs)) d =
        gives_bind (Deep (suc n)) (narrow (parts fs) wide (named_all b scope true true fs)) (λ nodes. Ok (Call f nodes mark)) (λ nodes. up n (max (at_place ls f) (depths_in ls nodes)) (deeper_left n (at_place ls f) (depths_in ls nodes) d))
    call_deep scope c d = absurd d

    made_limited : (scope : Scope) → LevelsStand ls scope.defined → (c : ACore) → Limited Tree (Deep (suc n)) (made b scope wide c) (made a scope near c)
    made_limited scope st (whole x) = leaf_limited (suc n) at wanted scope x
    made_limited scope st (parted form) = put_limited scope st form

  made_none : (a b : Resolver) (at : Span) (wanted : Bool) (scope : Scope) (c : ACore) → Limited Tree (Deep 0) (made b scope (spot_at 1 at wanted) c) (made a scope (spot_at 0 at wanted) c)
  made_none a b at wanted scope (whole x) = leaf_limited 0 at wanted scope x
  made_none a b at wanted scope (parted form) = too_many at (gives_all (Deep 0) (some_depth ls) (made b scope (spot_at 1 at wanted) (parted form)))

  resolved_none : (a b : Resolver) (scope : Scope) → LevelsStand ls scope.defined → (wanted : Bool) (form : Form) → Limited Tree (Deep 0) (resolved b 1 scope wanted form) (resolved a 0 scope wanted form)
  resolved_none a b scope st wanted form =
      limited_bind (DeepCore 0) (Deep 0) (core_of scope (spot_at 0 (place form) wanted) (expand_once form)) (core_of scope (spot_at 1 (place form) wanted) (expand_once form))
      (made a scope (spot_at 0 (place form) wanted)) (made b scope (spot_at 1 (place form) wanted))
      (core_limited 0 (place form) wanted scope st (expand_once form)) (λ c d. gives_all (Deep 0) (some_depth ls) (made b scope (spot_at 1 (place form) wanted) c)) (made_none a b (place form) wanted scope)

  resolved_limited : (n : ℕ) (a b : Resolver) → ((scope : Scope) → LevelsStand ls scope.defined → (wanted : Bool) (form : Form) → Limited Tree (Deep n) (b scope wanted form) (a scope wanted form))
      → (scope : Scope) → LevelsStand ls scope.defined → (wanted : Bool) (form : Form) → Limited Tree (Deep (suc n)) (resolved b (suc (suc n)) scope wanted form) (resolved a (suc n) scope wanted form)
  resolved_limited n a b limits scope st wanted form =
      limited_bind (DeepCore (suc n)) (Deep (suc n)) (core_of scope (spot_at (suc n) (place form) wanted) (expand_once form)) (core_of scope (spot_at (suc (suc n)) (place form) wanted) (expand_once form))
      (made a scope (spot_at (suc n) (place form) wanted)) (made b scope (spot_at (suc (suc n)) (place form) wanted))
      (core_limited (suc n) (place form) wanted scope st (expand_once form)) (call_deep n a b limits (place form) wanted scope) (made_limited n a b limits (place form) wanted scope st)

  one_level_less : (room : ℕ) (scope : Scope) → LevelsStand ls scope.defined → (wanted : Bool) (form : Form) → Limited Tree (Deep room) (named (suc room) scope wanted form) (named room scope wanted form)
  unfolding named
  one_level_less zero scope st wanted form = resolved_none (λ _ _ e. refuse TooMany (place e)) (named zero) scope st wanted (alone form)
  one_level_less (suc room) scope st wanted form =
      resolved_limited room (named room) (named (suc room)) (λ inner k w e. one_level_less room inner k w e) scope st wanted (alone form)

  less_deep : (room further : ℕ) (x : Answer Tree) → IfGives (Deep (room + further)) x → IfGives (Deep room) x
  less_deep room further (Ok t) h = less_sum room further (depths ls t) h
  less_deep room further (Err e) h = tt

  limited_twice : (room further : ℕ) (x y z : Answer Tree) → Limited Tree (Deep room) y x → Limited Tree (Deep (room + further)) z y → Limited Tree (Deep room) z x
  limited_twice room further _ _ z as_wider as_wider = as_wider
  limited_twice room further _ _ z as_wider (too_many at d) = too_many at (less_deep room further z d)
  limited_twice room further _ _ z (too_many at d) as_wider = too_many at d
  limited_twice room further _ _ z (too_many at d) (too_many there k) = too_many at (less_deep room further z k)

  -- so many levels less
  pub levels_less : (room further : ℕ) (scope : Scope) → LevelsStand ls scope.defined → (wanted : Bool) (form : Form) → Limited Tree (Deep room) (named (room + further) scope wanted form) (named room scope wanted form)
  levels_less room zero scope st wanted form =
      let e : room ≡ room + zero = omega arith in
      subst (λ k. Limited Tree (Deep room) (named k scope wanted form) (named room scope wanted form)) e as_wider
  levels_less room (suc further) scope st wanted form =
      let e : suc (room + further) ≡ room + suc further = omega arith in
      subst (λ k. Limited Tree (Deep room) (named k scope wanted form) (named room scope wanted form)) e
      (limited_twice room further (named room scope wanted form) (named (room + further) scope wanted form) (named (suc (room + further)) scope wanted form)
      (levels_less room further scope st wanted form) (one_level_less (room + further) scope st wanted form))
