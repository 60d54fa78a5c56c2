-- One level more changes no tree.
use Rattle.std.proofs.Common.{◌≡◌, ℕ, zero, suc, ◌<◌, Bool, true, false, ◌||◌, nat_lt, Option, Some, None, Ok, Err, refl, sym, ap, subst, ◌∙◌, arith, if◌then◌else◌}
use Rattle.std.proofs.lemmas.Bool.Decides.{nat_tests}
use Rattle.txs_value_data.specs.declared.fault.Span.{Span}
use Rattle.txs_value_data.specs.declared.op.Callee.{Callee}
use Rattle.txs_value_data.specs.declared.op.Callee.TheVariants.{Function as TheFunction}
use Rattle.txs_reader.specs.declared.form.Bracket.TheVariants.{Round, Square}
use Rattle.txs_reader.specs.Tree.{Leaf, PlainForm as Form, PlainForms as Forms, leaf, group, first, place, number, symbol, nil, truth, text, keyword, parts}
use Rattle.txs_reader.specs.Tree.{none as no_forms}
use Rattle.txs_tree_meaning.specs.Tree.{Tree, Trees, Put, more}
use Rattle.txs_resolve_expand.specs.declared.names.FormName.{FormName}
use Rattle.txs_resolve_expand.specs.declared.names.FormName.TheVariants as kind
use Rattle.txs_resolve_expand.specs.declared.scope.Definition.TheVariants.{Constant, Cell as ACell, Function as AFunction}
use Rattle.txs_resolve_expand.specs.Scope.{Scope, Meaning, a_form, dotted, a_local, the_current, defined_as, operation, unknown, meaning, with_local}
use Rattle.txs_resolve_expand.specs.declared.error.ResolveError.{ResolveError}
use Rattle.txs_resolve_expand.specs.declared.error.ResolveErrorKind.TheVariants.{TooMany}
use Rattle.txs_resolve_expand.specs.declared.shapes.Spot.{Spot}
use Rattle.txs_resolve_expand.specs.Answers.{◌>>=◌, refuse}
use Rattle.txs_resolve_expand.specs.Expansions.{alone, expand_once, form_at}
use Rattle.txs_resolve_expand.specs.Expressions.{Answer, Bound, Special, row, one_part, putting, choice, binding, changing, Core as ACore, whole, parted, Resolver, spot_at, spot_mark, some_room, narrow, symbol_node, leaf_node, callee_at, callee_of, flag, sequence_node, are_wanted, choice_node, single_node, is_wanted, change_node, binding_node, special, applied, list_core, core_of, bound_name, named_all, named_bindings, put_together, made, resolved, named}

abbrev IsErr : {A : Type 0} → Answer A → Type 0
IsErr (Ok x) = ⊥
IsErr (Err e) = Unit {0}

no_answer : {A : Type 0} (e : ResolveError) (y : A) → Err e ≡ Ok y → ⊥
no_answer e y h = subst IsErr h tt

-- an answer that goes on
record Goes (A B : Type 0) (a : Answer A) (f : A → Answer B) (y : B) : Type 0 where
  value : A
  is : a ≡ Ok value
  rest : f value ≡ Ok y

goes : {A B : Type 0} (a : Answer A) (f : A → Answer B) (y : B) → (a >>= f) ≡ Ok y → Goes A B a f y
goes (Ok x) f y h = record { value = x; is = refl; rest = h }
goes (Err e) f y h = absurd (no_answer e y h)

go : {A B : Type 0} (a : Answer A) (f : A → Answer B) (x : A) (y : B) → a ≡ Ok x → f x ≡ Ok y → (a >>= f) ≡ Ok y
go a f x y is h = ap (λ z. z >>= f) is ∙ h

-- which special form it is, the levels have no part in
pub special_same : (room : ℕ) (at : Span) (wanted : Bool) (f : FormName) (args : Forms) → special f (spot_at room at wanted) args ≡ special f (spot_at (suc room) at wanted) args
special_same room at wanted kind.If (first c (first x no_forms)) = refl
special_same room at wanted kind.If (first c (first x (first y no_forms))) = refl
special_same room at wanted kind.IfNot (first c (first x no_forms)) = refl
special_same room at wanted kind.IfNot (first c (first x (first y no_forms))) = refl
special_same room at wanted kind.Do (first e rest) = refl
special_same room at wanted kind.Let (first (group Square pairs there) forms) = refl
special_same room at wanted kind.Loop (first (group Square pairs there) forms) = refl
special_same room at wanted kind.Recur args = refl
special_same room at wanted kind.Println args = refl
special_same room at wanted kind.Dosync forms = refl
special_same room at wanted name args = refl

-- whatever one of two has a tree of, the other has the same tree of
abbrev Grows : Resolver → Resolver → Type 0
Grows a b = (scope : Scope) (wanted : Bool) (form : Form) (t : Tree) → a scope wanted form ≡ Ok t → b scope wanted form ≡ Ok t

module _ (a b : Resolver) (grows : Grows a b) where
  row_grows : (scope : Scope) (inner last : Bool) (fs : Forms) (ts : Trees) → named_all a scope inner last fs ≡ Ok ts → named_all b scope inner last fs ≡ Ok ts
  row_grows scope inner last no_forms ts h = h
  row_grows scope inner last (first f rest) ts h =
      let p = goes (a scope (flag inner last rest) f) (λ node. named_all a scope inner last rest >>= λ nodes. Ok (more node nodes)) ts h in
      let q = goes (named_all a scope inner last rest) (λ nodes. Ok (more p.value nodes)) ts p.rest in
      go (b scope (flag inner last rest) f) (λ node. named_all b scope inner last rest >>= λ nodes. Ok (more node nodes)) p.value ts (grows scope (flag inner last rest) f p.value p.is)
      (go (named_all b scope inner last rest) (λ nodes. Ok (more p.value nodes)) q.value ts (row_grows scope inner last rest q.value q.is) q.rest)

  bindings_grow : (scope : Scope) (fs : Forms) (x : Bound) → named_bindings a scope fs ≡ Ok x → named_bindings b scope fs ≡ Ok x
  bindings_grow scope no_forms x h = h
  bindings_grow scope (first n no_forms) x h = h
  bindings_grow scope (first n (first e rest)) x h =
      let p = goes (a scope true e) (λ value. bound_name scope n >>= λ name. named_bindings a (with_local name scope) rest >>= λ bound. Ok (record { values = more value bound.values; scope = bound.scope })) x h in
      let q = goes (bound_name scope n) (λ name. named_bindings a (with_local name scope) rest >>= λ bound. Ok (record { values = more p.value bound.values; scope = bound.scope })) x p.rest in
      let r = goes (named_bindings a (with_local q.value scope) rest) (λ bound. Ok (record { values = more p.value bound.values; scope = bound.scope })) x q.rest in
      go (b scope true e) (λ value. bound_name scope n >>= λ name. named_bindings b (with_local name scope) rest >>= λ bound. Ok (record { values = more value bound.values; scope = bound.scope })) p.value x (grows scope true e p.value p.is)
      (go (bound_name scope n) (λ name. named_bindings b (with_local name scope) rest >>= λ bound. Ok (record { values = more p.value bound.values; scope = bound.scope })) q.value x q.is
      (go (named_bindings b (with_local q.value scope) rest) (λ bound. Ok (record { values = more p.value bound.values; scope = bound.scope })) r.value x (bindings_grow (with_local q.value scope) rest r.value r.is) r.rest))

  narrow_grows : {A : Type 0} (n : ℕ) (s u : Spot) (x y : Answer A) (v : A) → (x ≡ Ok v → y ≡ Ok v) → narrow n s x ≡ Ok v → narrow n u y ≡ Ok v
  narrow_grows {A} n s u x y v f = by (nat_lt 65535 n)
    where
      by : (z : Bool) → (if z then refuse TooMany s.span else x) ≡ Ok v → (if z then refuse TooMany u.span else y) ≡ Ok v
      by true h = absurd (no_answer (record { kind = TooMany; at = s.span }) v h)
      by false h = f h

  module _ (room : ℕ) (at : Span) (wanted : Bool) where
    low : Spot
    low = spot_at room at wanted

    high : Spot
    high = spot_at (suc room) at wanted

    callee_at_grows : (m : Meaning) (there : Span) (c : Callee) → callee_at m (spot_at room at wanted) there ≡ Ok c → callee_at m (spot_at (suc room) at wanted) there ≡ Ok c
    callee_at_grows (a_form f) there c h = h
    callee_at_grows dotted there c h = h
    callee_at_grows (a_local i) there c h = h
    callee_at_grows the_current there c h = h
    callee_at_grows (defined_as (Constant v)) there c h = h
    callee_at_grows (defined_as (ACell k)) there c h = h
    callee_at_grows (defined_as (AFunction n levels)) there c h = by (nat_lt levels room) refl h
      where
        by : (z : Bool) → nat_lt levels room ≡ z → (if z then Ok (TheFunction n) else refuse TooMany at) ≡ Ok c → (if nat_lt levels (suc room) then Ok (TheFunction n) else refuse TooMany at) ≡ Ok c
        by true is k =
            let lt : levels < room = grind (arith, nat_tests, is) in
            let yes : nat_lt levels (suc room) ≡ true = grind (arith, nat_tests, lt) in
            ap (λ (z : Bool). if z then Ok (TheFunction n) else refuse TooMany at) yes ∙ k
        by false is k = absurd (no_answer (record { kind = TooMany; at = at }) c k)
    callee_at_grows (operation op) there c h = h
    callee_at_grows unknown there c h = h

    callee_grows : (scope : Scope) (f : Form) (c : Callee) → callee_of scope (spot_at room at wanted) f ≡ Ok c → callee_of scope (spot_at (suc room) at wanted) f ≡ Ok c
    callee_grows scope (leaf nil there) c h = h
    callee_grows scope (leaf (truth x) there) c h = h
    callee_grows scope (leaf (number x) there) c h = h
    callee_grows scope (leaf (text x) there) c h = h
    callee_grows scope (leaf (keyword x) there) c h = h
    callee_grows scope (leaf (symbol name) there) c h = callee_at_grows (meaning name scope) there c h
    callee_grows scope (group x fs there) c h = h

    room_grows : {A : Type 0} (n : ℕ) (x y : Answer A) (v : A) → (x ≡ Ok v → y ≡ Ok v) → some_room n (refuse TooMany at) x ≡ Ok v → some_room (suc n) (refuse TooMany at) y ≡ Ok v
    room_grows zero x y v f h = absurd (no_answer (record { kind = TooMany; at = at }) v h)
    room_grows (suc n) x y v f h = f h

    list_grows : (o : Option FormName) (scope : Scope) (head : Form) (args : Forms) (c : ACore) → list_core o scope (spot_at room at wanted) head args ≡ Ok c → list_core o scope (spot_at (suc room) at wanted) head args ≡ Ok c
    list_grows (Some f) scope head args c h = sym (special_same room at wanted f args) ∙ h
    list_grows None scope head args c h =
        room_grows room (callee_of scope (spot_at room at wanted) head >>= λ callee. Ok (applied callee head args at)) (callee_of scope (spot_at (suc room) at wanted) head >>= λ callee. Ok (applied callee head args at)) c
        (λ k. let p = goes (callee_of scope (spot_at room at wanted) head) (λ callee. Ok (applied callee head args at)) c k in
        go (callee_of scope (spot_at (suc room) at wanted) head) (λ callee. Ok (applied callee head args at)) p.value c (callee_grows scope head p.value p.is) p.rest) h

    core_grows : (scope : Scope) (form : Form) (c : ACore) → core_of scope (spot_at room at wanted) form ≡ Ok c → core_of scope (spot_at (suc room) at wanted) form ≡ Ok c
    core_grows scope (leaf x there) c h = h
    core_grows scope (group Square fs there) c h = h
    core_grows scope (group Round no_forms there) c h = h
    core_grows scope (group Round (first head args) there) c h = list_grows (form_at head) scope head args c h

    put_grows : (scope : Scope) (form : Special) (t : Tree) → put_together a scope (spot_at room at wanted) form ≡ Ok t → put_together b scope (spot_at (suc room) at wanted) form ≡ Ok t
    put_grows scope (row k fs) t h =
        let inner = are_wanted k in
        let last = are_wanted k || wanted in
        let p = goes (narrow (parts fs) (spot_at room at wanted) (named_all a scope inner last fs)) (λ nodes. Ok (sequence_node k nodes (spot_mark (spot_at room at wanted)))) t h in
        go (narrow (parts fs) (spot_at (suc room) at wanted) (named_all b scope inner last fs)) (λ nodes. Ok (sequence_node k nodes (spot_mark (spot_at room at wanted)))) p.value t
        (narrow_grows (parts fs) (spot_at room at wanted) (spot_at (suc room) at wanted) (named_all a scope inner last fs) (named_all b scope inner last fs) p.value (row_grows scope inner last fs p.value) p.is) p.rest
    put_grows scope (one_part k f) t h =
        let p = goes (a scope (is_wanted k || wanted) f) (λ node. Ok (single_node k node (spot_mark (spot_at room at wanted)))) t h in
        go (b scope (is_wanted k || wanted) f) (λ node. Ok (single_node k node (spot_mark (spot_at room at wanted)))) p.value t (grows scope (is_wanted k || wanted) f p.value p.is) p.rest
    put_grows scope (putting form r e) t h =
        let p = goes (a scope true r) (λ cell. a scope true e >>= λ value. Ok (Put form cell value (spot_mark (spot_at room at wanted)))) t h in
        let q = goes (a scope true e) (λ value. Ok (Put form p.value value (spot_mark (spot_at room at wanted)))) t p.rest in
        go (b scope true r) (λ cell. b scope true e >>= λ value. Ok (Put form cell value (spot_mark (spot_at room at wanted)))) p.value t (grows scope true r p.value p.is)
        (go (b scope true e) (λ value. Ok (Put form p.value value (spot_mark (spot_at room at wanted)))) q.value t (grows scope true e q.value q.is) q.rest)
    put_grows scope (choice turn c x y) t h =
        let m = spot_mark (spot_at room at wanted) in
        let p = goes (a scope true c) (λ test. a scope wanted x >>= λ one. a scope wanted y >>= λ other. Ok (choice_node turn test one other m)) t h in
        let q = goes (a scope wanted x) (λ one. a scope wanted y >>= λ other. Ok (choice_node turn p.value one other m)) t p.rest in
        let r = goes (a scope wanted y) (λ other. Ok (choice_node turn p.value q.value other m)) t q.rest in
        go (b scope true c) (λ test. b scope wanted x >>= λ one. b scope wanted y >>= λ other. Ok (choice_node turn test one other m)) p.value t (grows scope true c p.value p.is)
        (go (b scope wanted x) (λ one. b scope wanted y >>= λ other. Ok (choice_node turn p.value one other m)) q.value t (grows scope wanted x q.value q.is)
        (go (b scope wanted y) (λ other. Ok (choice_node turn p.value q.value other m)) r.value t (grows scope wanted y r.value r.is) r.rest))
    put_grows scope (binding is_loop pairs fs) t h =
        let m = spot_mark (spot_at room at wanted) in
        let p = goes (named_bindings a scope pairs) (λ bound. a bound.scope wanted fs >>= λ node. Ok (binding_node is_loop bound.values node m)) t h in
        let q = goes (a p.value.scope wanted fs) (λ node. Ok (binding_node is_loop p.value.values node m)) t p.rest in
        go (named_bindings b scope pairs) (λ bound. b bound.scope wanted fs >>= λ node. Ok (binding_node is_loop bound.values node m)) p.value t (bindings_grow scope pairs p.value p.is)
        (go (b p.value.scope wanted fs) (λ node. Ok (binding_node is_loop p.value.values node m)) q.value t (grows p.value.scope wanted fs q.value q.is) q.rest)
    put_grows scope (changing k r f args) t h =
        let m = spot_mark (spot_at room at wanted) in
        let n = suc (parts args) in
        let p = goes (a scope true r) (λ cell. callee_of scope (spot_at room at wanted) f >>= λ callee. narrow n (spot_at room at wanted) (named_all a scope true true args) >>= λ nodes. Ok (change_node k cell callee nodes m)) t h in
        let q = goes (callee_of scope (spot_at room at wanted) f) (λ callee. narrow n (spot_at room at wanted) (named_all a scope true true args) >>= λ nodes. Ok (change_node k p.value callee nodes m)) t p.rest in
        let u = goes (narrow n (spot_at room at wanted) (named_all a scope true true args)) (λ nodes. Ok (change_node k p.value q.value nodes m)) t q.rest in
        go (b scope true r) (λ cell. callee_of scope (spot_at (suc room) at wanted) f >>= λ callee. narrow n (spot_at (suc room) at wanted) (named_all b scope true true args) >>= λ nodes. Ok (change_node k cell callee nodes m)) p.value t (grows scope true r p.value p.is)
        (go (callee_of scope (spot_at (suc room) at wanted) f) (λ callee. narrow n (spot_at (suc room) at wanted) (named_all b scope true true args) >>= λ nodes. Ok (change_node k p.value callee nodes m)) q.value t (callee_grows scope f q.value q.is)
        (go (narrow n (spot_at (suc room) at wanted) (named_all b scope true true args)) (λ nodes. Ok (change_node k p.value q.value nodes m)) u.value t
        (narrow_grows n (spot_at room at wanted) (spot_at (suc room) at wanted) (named_all a scope true true args) (named_all b scope true true args) u.value (row_grows scope true true args u.value) u.is) u.rest))

    symbol_grows : (m : Meaning) (t : Tree) → symbol_node m (spot_at room at wanted) ≡ Ok t → symbol_node m (spot_at (suc room) at wanted) ≡ Ok t
    symbol_grows (a_form f) t h = h
    symbol_grows dotted t h = h
    symbol_grows (a_local i) t h = room_grows room _ _ t (λ k. k) h
    symbol_grows the_current t h = h
    symbol_grows (defined_as (Constant v)) t h = room_grows room _ _ t (λ k. k) h
    symbol_grows (defined_as (ACell c)) t h = room_grows room _ _ t (λ k. k) h
    symbol_grows (defined_as (AFunction n l)) t h = h
    symbol_grows (operation op) t h = h
    symbol_grows unknown t h = h

    leaf_grows : (scope : Scope) (x : Leaf) (t : Tree) → leaf_node scope x (spot_at room at wanted) ≡ Ok t → leaf_node scope x (spot_at (suc room) at wanted) ≡ Ok t
    leaf_grows scope nil t h = room_grows room _ _ t (λ k. k) h
    leaf_grows scope (truth x) t h = room_grows room _ _ t (λ k. k) h
    leaf_grows scope (number x) t h = room_grows room _ _ t (λ k. k) h
    leaf_grows scope (text x) t h = room_grows room _ _ t (λ k. k) h
    leaf_grows scope (keyword x) t h = room_grows room _ _ t (λ k. k) h
    leaf_grows scope (symbol name) t h = symbol_grows (meaning name scope) t h

    made_grows : (scope : Scope) (c : ACore) (t : Tree) → made a scope (spot_at room at wanted) c ≡ Ok t → made b scope (spot_at (suc room) at wanted) c ≡ Ok t
    made_grows scope (whole x) t h = leaf_grows scope x t h
    made_grows scope (parted form) t h = room_grows room (put_together a scope (spot_at room at wanted) form) (put_together b scope (spot_at (suc room) at wanted) form) t (put_grows scope form t) h

  resolved_grows : (room : ℕ) (scope : Scope) (wanted : Bool) (form : Form) (t : Tree) → resolved a room scope wanted form ≡ Ok t → resolved b (suc room) scope wanted form ≡ Ok t
  resolved_grows room scope wanted form t h =
      let p = goes (core_of scope (spot_at room (place form) wanted) (expand_once form)) (made a scope (spot_at room (place form) wanted)) t h in
      go (core_of scope (spot_at (suc room) (place form) wanted) (expand_once form)) (made b scope (spot_at (suc room) (place form) wanted)) p.value t
      (core_grows room (place form) wanted scope (expand_once form) p.value p.is) (made_grows room (place form) wanted scope p.value t p.rest)

pub one_level_more : (room : ℕ) (scope : Scope) (wanted : Bool) (form : Form) (t : Tree) → named room scope wanted form ≡ Ok t → named (suc room) scope wanted form ≡ Ok t
unfolding named
one_level_more zero scope wanted form t h =
    resolved_grows (λ _ _ e. refuse TooMany (place e)) (named zero) (λ inner w e u k. absurd (no_answer (record { kind = TooMany; at = place e }) u k)) 0 scope wanted (alone form) t h
one_level_more (suc room) scope wanted form t h = resolved_grows (named room) (named (suc room)) (λ inner w e u k. one_level_more room inner w e u k) (suc room) scope wanted (alone form) t h
