-- The forms of a resolved tree that a check may refuse begin one behind the other, in the order in which they are checked.
use Rattle.std.proofs.Common.{◌≡◌, ℕ, zero, suc, ◌<◌, ◌≤◌, ◌⊎◌, inl, inr, Bool, true, false, ◌&&◌, ◌||◌, nat_lt, List, length, Ok, Err, refl, sym, ap, subst, ◌∙◌, arith, if◌then◌else◌}
use Rattle.std.proofs.lemmas.Bool.Decides.{nat_tests}
use Rattle.txs_value_data.specs.declared.fault.Span.{Span}
use Rattle.txs_value_data.specs.declared.op.Callee.{Callee}
use Rattle.txs_reader.specs.declared.form.Bracket.TheVariants.{Round}
use Rattle.txs_reader.specs.Tree.{Leaf, PlainForm as Form, PlainForms as Forms, leaf, group, first, place, number, symbol, nil, truth, text, keyword, parts}
use Rattle.txs_reader.specs.Tree.{none as no_forms}
use Rattle.txs_tree_meaning.specs.Tree.{Tree, Trees, Const, Local, If, Do, Let, Loop, Recur, Core, Call, VectorOf, Println, Dosync, Look, Put, Update, Send, none, more}
use Rattle.txs_resolve_expand.specs.declared.scope.Definition.TheVariants.{Constant, Cell as ACell, Function as AFunction}
use Rattle.txs_resolve_expand.specs.Scope.{Scope, Meaning, a_form, dotted, a_local, the_current, defined_as, operation, unknown, meaning, may_bind, with_local}
use Rattle.txs_resolve_expand.specs.declared.error.ResolveErrorKind.TheVariants.{BadForm, TooMany}
use Rattle.txs_resolve_expand.specs.declared.shapes.Change.TheVariants as change_by
use Rattle.txs_resolve_expand.specs.declared.shapes.Change.{Change}
use Rattle.txs_resolve_expand.specs.declared.shapes.Sequence.{Sequence}
use Rattle.txs_resolve_expand.specs.declared.shapes.Sequence.TheVariants as sequence
use Rattle.txs_resolve_expand.specs.declared.shapes.Single.{Single}
use Rattle.txs_resolve_expand.specs.declared.shapes.Single.TheVariants as single
use Rattle.txs_resolve_expand.specs.declared.shapes.Spot.{Spot}
use Rattle.txs_resolve_expand.specs.Answers.{◌>>=◌, refuse}
use Rattle.txs_resolve_expand.specs.Expansions.{alone, expand_once}
use Rattle.txs_resolve_expand.specs.Expressions.{Answer, Bound, Special, row, one_part, putting, choice, binding, changing, Core as ACore, whole, parted, Resolver, spot_at, spot_mark, some_room, in_room, narrow, symbol_node, leaf_value, leaf_node, callee_of, flag, sequence_node, are_wanted, choice_node, single_node, is_wanted, change_node, binding_node, core_of, bound_name, named_all, named_bindings, put_together, made, resolved, named}
use Rattle.txs_check.specs.Refused.{place_of, turned, turned_in}
use Rattle.txs_theorem_language.proofs.Windows.{nests_on, nest_ends, Made, made_nil, made_hidden, made_body, made_and, made_or, made_cond, chosen_and, chosen_or, body_and, body_or, Lies, LieRow, is_written, is_made, is_front, lies_alone, lies_order}
use Rattle.txs_theorem_language.proofs.Shapes.{LiePairs, IsStraight, LieBranches, RowLies, Fits, Fit, EndsBefore, callee_of_before, written_fits, made_fits, front_fits}

-- ---- trees

-- of two, the first as it stands or the second where they are turned
abbrev pub InTurn : Bool → Type 0 → Type 0 → Type 0
InTurn false P Q = P
InTurn true P Q = Q

-- The forms of a tree that a check may refuse begin in this stretch, one behind the other.
abbrev mutual
  pub Spreads : ℕ → ℕ → Tree → Type 0
  Spreads lo hi (Const v m) = lo ≤ hi
  Spreads lo hi (Local i m) = lo ≤ hi
  Spreads lo hi (If c a b m) = (n : ℕ) × Spreads lo n c × (k : ℕ) × InTurn (turned_in m a b) (Spreads n k a × Spreads k hi b) (Spreads n k b × Spreads k hi a)
  Spreads lo hi (Do items m) = SpreadRow lo hi items
  Spreads lo hi (Let values body m) = (n : ℕ) × SpreadRow lo n values × Spreads n hi body
  Spreads lo hi (Loop values body m) = (n : ℕ) × SpreadRow lo n values × Spreads n hi body
  Spreads lo hi (Recur values m) = (lo ≤ m.span.from) × SpreadRow m.span.from hi values
  Spreads lo hi (Core op args m) = (lo ≤ m.span.from) × SpreadRow m.span.from hi args
  Spreads lo hi (Call f args m) = (lo ≤ m.span.from) × SpreadRow m.span.from hi args
  Spreads lo hi (VectorOf items m) = (lo ≤ m.span.from) × SpreadRow m.span.from hi items
  Spreads lo hi (Println args m) = (lo ≤ m.span.from) × SpreadRow m.span.from hi args
  Spreads lo hi (Dosync body m) = (lo ≤ m.span.from) × (n : ℕ) × (m.span.from ≤ n) × Spreads n hi body
  Spreads lo hi (Look form cell m) = (lo ≤ m.span.from) × (n : ℕ) × (m.span.from ≤ n) × Spreads n hi cell
  Spreads lo hi (Put form cell value m) = (lo ≤ m.span.from) × (n : ℕ) × Spreads m.span.from n cell × Spreads n hi value
  Spreads lo hi (Update form cell callee args m) = (lo ≤ m.span.from) × (n : ℕ) × Spreads m.span.from n cell × SpreadRow n hi args
  Spreads lo hi (Send cell callee args m) = (lo ≤ m.span.from) × (n : ℕ) × Spreads m.span.from n cell × SpreadRow n hi args

  -- the same of parts in a row
  pub SpreadRow : ℕ → ℕ → Trees → Type 0
  SpreadRow lo hi none = lo ≤ hi
  SpreadRow lo hi (more e rest) = (n : ℕ) × Spreads lo n e × SpreadRow n hi rest

-- ---- answers

-- the tree is spread so, or the refusal begins before the end
abbrev pub Good : ℕ → ℕ → Answer Tree → Type 0
Good lo hi (Ok t) = Spreads lo hi t
Good lo hi (Err e) = e.at.from < hi

abbrev pub GoodRow : ℕ → ℕ → Answer Trees → Type 0
GoodRow lo hi (Ok ts) = SpreadRow lo hi ts
GoodRow lo hi (Err e) = e.at.from < hi

abbrev pub GoodBound : ℕ → ℕ → Answer Bound → Type 0
GoodBound lo hi (Ok b) = SpreadRow lo hi b.values
GoodBound lo hi (Err e) = e.at.from < hi

-- the tree has this place
abbrev pub HasPlace : Span → Answer Tree → Type 0
HasPlace at (Ok t) = place_of t ≡ at
HasPlace at (Err e) = Unit {0}

-- what resolves parts
pub record Sees (by : Resolver) : Type 0 where
  pub good : (at : Span) (lo hi : ℕ) (f : Form) → Lies at lo hi f → (scope : Scope) (wanted : Bool) → Good lo hi (by scope wanted f)
  pub placed : (f : Form) (scope : Scope) (wanted : Bool) → HasPlace (place (alone f)) (by scope wanted f)

-- ---- turning

at_most : (w one other : ℕ) → (other ≤ w) ⊎ (one ≤ other) → turned w one other ≡ false
at_most w one other (inl le) = by (nat_lt w other) refl
  where
    by : (y : Bool) → nat_lt w other ≡ y → (y && nat_lt other one) ≡ false
    by false is = refl
    by true is = let lt : w < other = grind (arith, nat_tests, is) in absurd (omega (arith, le, lt))
at_most w one other (inr le) = by (nat_lt w other)
  where
    less : nat_lt other one ≡ false
    less = grind (arith, nat_tests, le)

    by : (y : Bool) → (y && nat_lt other one) ≡ false
    by false = refl
    by true = less

at_least : (w one other : ℕ) → w < other → other < one → turned w one other ≡ true
at_least w one other lt le =
    let a : nat_lt w other ≡ true = grind (arith, nat_tests, lt) in
    let b : nat_lt other one ≡ true = grind (arith, nat_tests, le) in
    ap (λ x. x && nat_lt other one) a ∙ b

-- ---- rows

pub row_ends : (at : Span) (m n : ℕ) (fs : Forms) → LieRow at m n fs → m ≤ n
row_ends at m n no_forms h = h
row_ends at m n (first f fs) h = omega (arith, lies_order at m h.0 f h.1, row_ends at h.0 n fs h.2)

pub all_good : (by : Resolver) → Sees by → (at : Span) (lo hi : ℕ) (fs : Forms) → LieRow at lo hi fs → (scope : Scope) (inner last : Bool) → GoodRow lo hi (named_all by scope inner last fs)
all_good by sees at lo hi no_forms h scope inner last = h
all_good by sees at lo hi (first f fs) h scope inner last =
    step (by scope (flag inner last fs) f) (named_all by scope inner last fs) (sees.good at lo h.0 f h.1 scope (flag inner last fs)) (all_good by sees at h.0 hi fs h.2 scope inner last)
  where
    step : (x : Answer Tree) (y : Answer Trees) → Good lo h.0 x → GoodRow h.0 hi y → GoodRow lo hi (x >>= λ node. y >>= λ nodes. Ok (more node nodes))
    step (Ok t) (Ok ts) g k = (h.0, g, k)
    step (Ok t) (Err e) g k = k
    step (Err e) y g k = omega (arith, g, row_ends at h.0 hi fs h.2)

pub pairs_end : (at : Span) (m n : ℕ) (fs : Forms) → LiePairs at m n fs → m ≤ n
pairs_end at m n no_forms h = h
pairs_end at m n (first x no_forms) h = h.1
pairs_end at m n (first x (first e fs)) h = omega (arith, lies_order at m h.0 e h.2, pairs_end at h.0 n fs h.3)

name_before : (scope : Scope) (form : Form) (hi : ℕ) → (place form).from < hi → EndsBefore hi (bound_name scope form)
name_before scope (leaf nil at) hi lt = lt
name_before scope (leaf (truth b) at) hi lt = lt
name_before scope (leaf (number z) at) hi lt = lt
name_before scope (leaf (text bytes) at) hi lt = lt
name_before scope (leaf (keyword name) at) hi lt = lt
name_before scope (leaf (symbol name) at) hi lt = by (may_bind name) (nat_lt (length scope.locals) 200)
  where
    by : (x y : Bool) → EndsBefore hi (if x then (if y then Ok name else refuse TooMany at) else refuse BadForm at)
    by true true = tt
    by true false = lt
    by false y = lt
name_before scope (group b forms at) hi lt = lt

pub bindings_good : (by : Resolver) → Sees by → (at : Span) (lo hi : ℕ) (fs : Forms) → LiePairs at lo hi fs → (scope : Scope) → GoodBound lo hi (named_bindings by scope fs)
bindings_good by sees at lo hi no_forms h scope = h
bindings_good by sees at lo hi (first x no_forms) h scope = h.0
bindings_good by sees at lo hi (first x (first e fs)) h scope =
    step (λ inner. bindings_good by sees at h.0 hi fs h.3 inner) (by scope true e) (bound_name scope x) (sees.good at lo h.0 e h.2 scope true) (name_before scope x h.0 h.1)
  where
    le : h.0 ≤ hi
    le = pairs_end at h.0 hi fs h.3

    last : (t : Tree) (b : Answer Bound) → Spreads lo h.0 t → GoodBound h.0 hi b → GoodBound lo hi (b >>= λ bound. Ok (record { values = more t bound.values; scope = bound.scope }))
    last t (Ok b) g k = (h.0, g, k)
    last t (Err error) g k = k

    step : ((inner : Scope) → GoodBound h.0 hi (named_bindings by inner fs)) → (v : Answer Tree) (n : Answer (List ℕ)) → Good lo h.0 v → EndsBefore h.0 n
        → GoodBound lo hi (v >>= λ value. n >>= λ name. named_bindings by (with_local name scope) fs >>= λ bound. Ok (record { values = more value bound.values; scope = bound.scope }))
    step behind (Err error) n g k = omega (arith, g, le)
    step behind (Ok t) (Err error) g k = omega (arith, k, le)
    step behind (Ok t) (Ok name) g k = last t (named_bindings by (with_local name scope) fs) g (behind (with_local name scope))

-- ---- nodes

-- the trees of a row, by what they are put together to
abbrev RowGood : Sequence → Span → ℕ → ℕ → Answer Trees → Type 0
RowGood sequence.Do at lo hi x = GoodRow lo hi x
RowGood _ at lo hi x = (lo ≤ at.from) × GoodRow at.from hi x

row_node : (k : Sequence) (s : Spot) (lo hi : ℕ) (x : Answer Trees) → RowGood k s.span lo hi x → Good lo hi (x >>= λ nodes. Ok (sequence_node k nodes (spot_mark s)))
row_node sequence.Do s lo hi (Ok ts) g = g
row_node sequence.Do s lo hi (Err e) g = g
row_node sequence.Recur s lo hi (Ok ts) g = g
row_node sequence.Recur s lo hi (Err e) g = g.1
row_node sequence.Println s lo hi (Ok ts) g = g
row_node sequence.Println s lo hi (Err e) g = g.1
row_node sequence.Vector s lo hi (Ok ts) g = g
row_node sequence.Vector s lo hi (Err e) g = g.1
row_node (sequence.Core op) s lo hi (Ok ts) g = g
row_node (sequence.Core op) s lo hi (Err e) g = g.1
row_node (sequence.Call n) s lo hi (Ok ts) g = g
row_node (sequence.Call n) s lo hi (Err e) g = g.1

narrow_node : (k : Sequence) (s : Spot) (lo hi : ℕ) (y : Bool) (x : Answer Trees) → s.span.from < hi → RowGood k s.span lo hi x
    → Good lo hi ((if y then refuse TooMany s.span else x) >>= λ nodes. Ok (sequence_node k nodes (spot_mark s)))
narrow_node k s lo hi true x lt g = lt
narrow_node k s lo hi false x lt g = row_node k s lo hi x g

row_good : (by : Resolver) → Sees by → (k : Sequence) (at : Span) (lo hi : ℕ) (fs : Forms) → RowLies k at lo hi fs → (scope : Scope) (inner last : Bool) → RowGood k at lo hi (named_all by scope inner last fs)
row_good by sees sequence.Do at lo hi fs h scope inner last = all_good by sees at lo hi fs h scope inner last
row_good by sees sequence.Recur at lo hi fs h scope inner last = (h.0, all_good by sees at at.from hi fs h.1 scope inner last)
row_good by sees sequence.Println at lo hi fs h scope inner last = (h.0, all_good by sees at at.from hi fs h.1 scope inner last)
row_good by sees sequence.Vector at lo hi fs h scope inner last = (h.0, all_good by sees at at.from hi fs h.1 scope inner last)
row_good by sees (sequence.Core op) at lo hi fs h scope inner last = (h.0, all_good by sees at at.from hi fs h.1 scope inner last)
row_good by sees (sequence.Call n) at lo hi fs h scope inner last = (h.0, all_good by sees at at.from hi fs h.1 scope inner last)

single_good : (k : Single) (s : Spot) (lo mid hi : ℕ) (x : Answer Tree) → lo ≤ s.span.from → s.span.from ≤ mid → Good mid hi x → Good lo hi (x >>= λ node. Ok (single_node k node (spot_mark s)))
single_good single.Dosync s lo mid hi (Ok t) le ge g = (le, mid, ge, g)
single_good (single.Look form) s lo mid hi (Ok t) le ge g = (le, mid, ge, g)
single_good k s lo mid hi (Err e) le ge g = g

change_good : (k : Change) (s : Spot) (lo mid hi : ℕ) (x : Tree) (callee : Callee) (ts : Trees) → lo ≤ s.span.from → Spreads s.span.from mid x → SpreadRow mid hi ts → Spreads lo hi (change_node k x callee ts (spot_mark s))
change_good (change_by.Update form) s lo mid hi x callee ts le g k = (le, mid, g, k)
change_good change_by.Send s lo mid hi x callee ts le g k = (le, mid, g, k)

binding_good : (is_loop : Bool) (s : Spot) (lo mid hi : ℕ) (values : Trees) (x : Answer Tree) → SpreadRow lo mid values → Good mid hi x → Good lo hi (x >>= λ node. Ok (binding_node is_loop values node (spot_mark s)))
binding_good false s lo mid hi values (Ok t) g k = (mid, g, k)
binding_good true s lo mid hi values (Ok t) g k = (mid, g, k)
binding_good is_loop s lo mid hi values (Err e) g k = k

-- the branches of a choice: the places of what they are decide which is first
straight : (from mid hi n : ℕ) (a b : Form) (x y : Tree) (at : Span) → at.from ≡ from → IsStraight from a b → place_of x ≡ place (alone a) → place_of y ≡ place (alone b) → turned at.from (place_of x).from (place_of y).from ≡ false
straight from mid hi n a b x y at is h px py =
    at_most at.from (place_of x).from (place_of y).from (by h)
  where
    by : IsStraight from a b → ((place_of y).from ≤ at.from) ⊎ ((place_of x).from ≤ (place_of y).from)
    by (inl le) = inl (omega (arith, le, is, ap (λ (p : Span). p.from) py))
    by (inr le) = inr (omega (arith, le, ap (λ (p : Span). p.from) px, ap (λ (p : Span). p.from) py))

module _ (by : Resolver) (sees : Sees by) (scope : Scope) (s : Spot) where
  two_good : (hi n : ℕ) (lo : ℕ) (c : Tree) (a b : Form) (m k : ℕ) → n ≤ hi → Spreads lo n c → (mid : ℕ) → n ≤ mid → mid ≤ hi → (x y : Answer Tree) → Good n mid x → Good mid hi y
      → HasPlace (place (alone a)) x → HasPlace (place (alone b)) y → IsStraight s.span.from a b
      → Good lo hi (x >>= λ one. y >>= λ other. Ok (choice_node false c one other (spot_mark s)))
  two_good hi n lo c a b m k le g mid ge le2 (Ok t) (Ok u) p q at_t at_u h =
      (n, g, mid, subst (λ z. InTurn z (Spreads n mid t × Spreads mid hi u) (Spreads n mid u × Spreads mid hi t)) (sym (straight s.span.from mid hi n a b t u s.span refl h at_t at_u)) (p, q))
  two_good hi n lo c a b m k le g mid ge le2 (Ok t) (Err e) p q at_t at_u h = q
  two_good hi n lo c a b m k le g mid ge le2 (Err e) y p q at_t at_u h = omega (arith, p, le2)

  turned_good : (hi n lo : ℕ) (c : Tree) (a b : Form) (mid : ℕ) → Spreads lo n c → mid ≤ hi → (x y : Answer Tree) → Good n mid x → Good mid hi y
      → HasPlace (place (alone a)) x → HasPlace (place (alone b)) y → s.span.from < (place (alone a)).from → (place (alone a)).from < (place (alone b)).from
      → Good lo hi (x >>= λ one. y >>= λ other. Ok (choice_node true c one other (spot_mark s)))
  turned_good hi n lo c a b mid g le (Ok t) (Ok u) p q at_t at_u lt lt2 =
      let is = at_least s.span.from (place_of u).from (place_of t).from (omega (arith, lt, ap (λ (z : Span). z.from) at_t)) (omega (arith, lt2, ap (λ (z : Span). z.from) at_t, ap (λ (z : Span). z.from) at_u)) in
      (n, g, mid, subst (λ z. InTurn z (Spreads n mid u × Spreads mid hi t) (Spreads n mid t × Spreads mid hi u)) (sym is) (p, q))
  turned_good hi n lo c a b mid g le (Ok t) (Err e) p q at_t at_u lt lt2 = q
  turned_good hi n lo c a b mid g le (Err e) y p q at_t at_u lt lt2 = omega (arith, p, le)

  half_good : (hi n lo : ℕ) (c : Tree) (a : Form) → Spreads lo n c → n ≤ hi → (x y : Answer Tree) → Good n hi x → Good n n y
      → HasPlace s.span y
      → Good lo hi (x >>= λ one. y >>= λ other. Ok (choice_node true c one other (spot_mark s)))
  half_good hi n lo c a g le (Ok t) (Ok u) p q at_u =
      let is = at_most s.span.from (place_of u).from (place_of t).from (by_order (place_of u).from (place_of t).from (ap (λ (z : Span). z.from) at_u)) in
      (n, g, n, subst (λ z. InTurn z (Spreads n n u × Spreads n hi t) (Spreads n n t × Spreads n hi u)) (sym is) (q, p))
    where
      by_order : (one other : ℕ) → one ≡ s.span.from → (other ≤ s.span.from) ⊎ (one ≤ other)
      by_order one other is = pick (nat_lt s.span.from other) refl
        where
          pick : (z : Bool) → nat_lt s.span.from other ≡ z → (other ≤ s.span.from) ⊎ (one ≤ other)
          pick true h = let lt : s.span.from < other = grind (arith, nat_tests, h) in inr (omega (arith, is, lt))
          pick false h = inl (grind (arith, nat_tests, h))
  half_good hi n lo c a g le (Ok t) (Err e) p q at_u = omega (arith, q, le)
  half_good hi n lo c a g le (Err e) y p q at_u = p

  branches_good : (turn : Bool) (n hi lo : ℕ) (c : Tree) (a b : Form) → Spreads lo n c → LieBranches turn s.span n hi a b
      → Good lo hi (by scope s.wanted a >>= λ one. by scope s.wanted b >>= λ other. Ok (choice_node turn c one other (spot_mark s)))
  branches_good false n hi lo c a b g h =
      two_good hi n lo c a b 0 0 (omega (arith, lies_order s.span n h.0 a h.1, lies_order s.span h.0 hi b h.2)) g h.0 (lies_order s.span n h.0 a h.1) (lies_order s.span h.0 hi b h.2)
      (by scope s.wanted a) (by scope s.wanted b) (sees.good s.span n h.0 a h.1 scope s.wanted) (sees.good s.span h.0 hi b h.2 scope s.wanted)
      (sees.placed a scope s.wanted) (sees.placed b scope s.wanted) h.3
  branches_good true n hi lo c a b g (inl h) =
      turned_good hi n lo c a b h.mid g (lies_order s.span h.mid hi b h.other)
      (by scope s.wanted a) (by scope s.wanted b) (sees.good s.span n h.mid a h.one scope s.wanted) (sees.good s.span h.mid hi b h.other scope s.wanted)
      (sees.placed a scope s.wanted) (sees.placed b scope s.wanted) h.begins h.order
  branches_good true n hi lo c a b g (inr h) =
      subst (λ (z : Form). Good lo hi (by scope s.wanted a >>= λ one. by scope s.wanted z >>= λ other. Ok (choice_node true c one other (spot_mark s)))) (sym h.is)
      (half_good hi n lo c a g (lies_order s.span n hi a h.one) (by scope s.wanted a) (by scope s.wanted (leaf nil s.span))
      (sees.good s.span n hi a h.one scope s.wanted) (sees.good s.span n n (leaf nil s.span) (is_made (leaf nil s.span) h.other made_nil) scope s.wanted) (sees.placed (leaf nil s.span) scope s.wanted))

  module _ (lo hi : ℕ) (lt : s.span.from < hi) where
    put_good : (form : Special) → Fits s.span lo hi form → Good lo hi (put_together by scope s form)
    put_good (row k fs) h =
        narrow_node k s lo hi (nat_lt 65535 (parts fs)) (named_all by scope (are_wanted k) (are_wanted k || s.wanted) fs) lt (row_good by sees k s.span lo hi fs h scope (are_wanted k) (are_wanted k || s.wanted))
    put_good (one_part k f) h =
        single_good k s lo h.1 hi (by scope (is_wanted k || s.wanted) f) h.0 h.2 (sees.good s.span h.1 hi f h.3 scope (is_wanted k || s.wanted))
    put_good (putting form r e) h =
        step (by scope true r) (by scope true e) (sees.good s.span s.span.from h.1 r h.2 scope true) (sees.good s.span h.1 hi e h.3 scope true)
      where
        step : (x y : Answer Tree) → Good s.span.from h.1 x → Good h.1 hi y → Good lo hi (x >>= λ cell. y >>= λ value. Ok (Put form cell value (spot_mark s)))
        step (Ok t) (Ok u) p q = (h.0, h.1, p, q)
        step (Ok t) (Err error) p q = q
        step (Err error) y p q = omega (arith, p, lies_order s.span h.1 hi e h.3)
    put_good (choice turn c a b) h =
        step (by scope true c) (sees.good s.span lo h.0 c h.1 scope true)
      where
        ends : (turn : Bool) (n m : ℕ) → LieBranches turn s.span n m a b → n ≤ m
        ends false n m k = omega (arith, lies_order s.span n k.0 a k.1, lies_order s.span k.0 m b k.2)
        ends true n m (inl k) = omega (arith, lies_order s.span n k.mid a k.one, lies_order s.span k.mid m b k.other)
        ends true n m (inr k) = lies_order s.span n m a k.one

        step : (x : Answer Tree) → Good lo h.0 x → Good lo hi (x >>= λ test. by scope s.wanted a >>= λ one. by scope s.wanted b >>= λ other. Ok (choice_node turn test one other (spot_mark s)))
        step (Ok t) p = branches_good turn h.0 hi lo t a b p h.2
        step (Err error) p = omega (arith, p, ends turn h.0 hi h.2)
    put_good (binding is_loop pairs fs) h =
        step (named_bindings by scope pairs) (bindings_good by sees s.span lo h.0 pairs h.1 scope)
      where
        step : (x : Answer Bound) → GoodBound lo h.0 x → Good lo hi (x >>= λ bound. by bound.scope s.wanted fs >>= λ node. Ok (binding_node is_loop bound.values node (spot_mark s)))
        step (Ok b) p = binding_good is_loop s lo h.0 hi b.values (by b.scope s.wanted fs) p (sees.good s.span h.0 hi fs h.2 b.scope s.wanted)
        step (Err error) p = omega (arith, p, lies_order s.span h.0 hi fs h.2)
    put_good (changing k r f args) h =
        step (by scope true r) (callee_of scope s f) (nat_lt 65535 (suc (parts args))) (named_all by scope true true args)
        (sees.good s.span s.span.from h.1 r h.2 scope true) (callee_of_before scope s f hi (omega (arith, h.3, row_ends s.span h.1 hi args h.5)) lt) (all_good by sees s.span h.1 hi args h.5 scope true true)
      where
        step : (x : Answer Tree) (y : Answer Callee) (z : Bool) (w : Answer Trees) → Good s.span.from h.1 x → EndsBefore hi y → GoodRow h.1 hi w
            → Good lo hi (x >>= λ cell. y >>= λ callee. (if z then refuse TooMany s.span else w) >>= λ nodes. Ok (change_node k cell callee nodes (spot_mark s)))
        step (Err error) y z w p q g = omega (arith, p, row_ends s.span h.1 hi args h.5)
        step (Ok t) (Err error) z w p q g = q
        step (Ok t) (Ok callee) true w p q g = lt
        step (Ok t) (Ok callee) false (Err error) p q g = g
        step (Ok t) (Ok callee) false (Ok ts) p q g = change_good k s lo h.1 hi t callee ts h.0 p g

-- ---- widening

mutual
  pub spreads_order : (lo hi : ℕ) (t : Tree) → Spreads lo hi t → lo ≤ hi
  spreads_order lo hi (Const v m) h = h
  spreads_order lo hi (Local i m) h = h
  spreads_order lo hi (If c a b m) h = by (spreads_order lo h.0 c h.1) (λ x y k. spreads_order x y a k) (λ x y k. spreads_order x y b k) (turned_in m a b) h.3
    where
      by : lo ≤ h.0 → ((x y : ℕ) → Spreads x y a → x ≤ y) → ((x y : ℕ) → Spreads x y b → x ≤ y) → (z : Bool) → InTurn z (Spreads h.0 h.2 a × Spreads h.2 hi b) (Spreads h.0 h.2 b × Spreads h.2 hi a) → lo ≤ hi
      by le f g false k = omega (arith, le, f h.0 h.2 k.0, g h.2 hi k.1)
      by le f g true k = omega (arith, le, g h.0 h.2 k.0, f h.2 hi k.1)
  spreads_order lo hi (Do items m) h = row_order lo hi items h
  spreads_order lo hi (Let values body m) h = omega (arith, row_order lo h.0 values h.1, spreads_order h.0 hi body h.2)
  spreads_order lo hi (Loop values body m) h = omega (arith, row_order lo h.0 values h.1, spreads_order h.0 hi body h.2)
  spreads_order lo hi (Recur values m) h = omega (arith, h.0, row_order m.span.from hi values h.1)
  spreads_order lo hi (Core op args m) h = omega (arith, h.0, row_order m.span.from hi args h.1)
  spreads_order lo hi (Call f args m) h = omega (arith, h.0, row_order m.span.from hi args h.1)
  spreads_order lo hi (VectorOf items m) h = omega (arith, h.0, row_order m.span.from hi items h.1)
  spreads_order lo hi (Println args m) h = omega (arith, h.0, row_order m.span.from hi args h.1)
  spreads_order lo hi (Dosync body m) h = omega (arith, h.0, h.2, spreads_order h.1 hi body h.3)
  spreads_order lo hi (Look form cell m) h = omega (arith, h.0, h.2, spreads_order h.1 hi cell h.3)
  spreads_order lo hi (Put form cell value m) h = omega (arith, h.0, spreads_order m.span.from h.1 cell h.2, spreads_order h.1 hi value h.3)
  spreads_order lo hi (Update form cell callee args m) h = omega (arith, h.0, spreads_order m.span.from h.1 cell h.2, row_order h.1 hi args h.3)
  spreads_order lo hi (Send cell callee args m) h = omega (arith, h.0, spreads_order m.span.from h.1 cell h.2, row_order h.1 hi args h.3)

  pub row_order : (lo hi : ℕ) (ts : Trees) → SpreadRow lo hi ts → lo ≤ hi
  row_order lo hi none h = h
  row_order lo hi (more e rest) h = omega (arith, spreads_order lo h.0 e h.1, row_order h.0 hi rest h.2)

mutual
  pub spreads_wider : (m n a b : ℕ) (t : Tree) → m ≤ n → a ≤ b → Spreads n a t → Spreads m b t
  spreads_wider m n a b (Const v k) le ge h = omega (arith, le, ge, h)
  spreads_wider m n a b (Local i k) le ge h = omega (arith, le, ge, h)
  spreads_wider m n a b (If c x y k) le ge h = (h.0, spreads_wider m n h.0 h.0 c le (omega arith) h.1, h.2, by (λ g. spreads_wider h.2 h.2 a b x (omega arith) ge g) (λ g. spreads_wider h.2 h.2 a b y (omega arith) ge g) (turned_in k x y) h.3)
    where
      by : (Spreads h.2 a x → Spreads h.2 b x) → (Spreads h.2 a y → Spreads h.2 b y) → (z : Bool) → InTurn z (Spreads h.0 h.2 x × Spreads h.2 a y) (Spreads h.0 h.2 y × Spreads h.2 a x) → InTurn z (Spreads h.0 h.2 x × Spreads h.2 b y) (Spreads h.0 h.2 y × Spreads h.2 b x)
      by f f2 false g = (g.0, f2 g.1)
      by f f2 true g = (g.0, f g.1)
  spreads_wider m n a b (Do items k) le ge h = row_wider m n a b items le ge h
  spreads_wider m n a b (Let values body k) le ge h = (h.0, row_wider m n h.0 h.0 values le (omega arith) h.1, spreads_wider h.0 h.0 a b body (omega arith) ge h.2)
  spreads_wider m n a b (Loop values body k) le ge h = (h.0, row_wider m n h.0 h.0 values le (omega arith) h.1, spreads_wider h.0 h.0 a b body (omega arith) ge h.2)
  spreads_wider m n a b (Recur values k) le ge h = (omega (arith, le, h.0), row_wider k.span.from k.span.from a b values (omega arith) ge h.1)
  spreads_wider m n a b (Core op args k) le ge h = (omega (arith, le, h.0), row_wider k.span.from k.span.from a b args (omega arith) ge h.1)
  spreads_wider m n a b (Call f args k) le ge h = (omega (arith, le, h.0), row_wider k.span.from k.span.from a b args (omega arith) ge h.1)
  spreads_wider m n a b (VectorOf items k) le ge h = (omega (arith, le, h.0), row_wider k.span.from k.span.from a b items (omega arith) ge h.1)
  spreads_wider m n a b (Println args k) le ge h = (omega (arith, le, h.0), row_wider k.span.from k.span.from a b args (omega arith) ge h.1)
  spreads_wider m n a b (Dosync body k) le ge h = (omega (arith, le, h.0), h.1, h.2, spreads_wider h.1 h.1 a b body (omega arith) ge h.3)
  spreads_wider m n a b (Look form cell k) le ge h = (omega (arith, le, h.0), h.1, h.2, spreads_wider h.1 h.1 a b cell (omega arith) ge h.3)
  spreads_wider m n a b (Put form cell value k) le ge h = (omega (arith, le, h.0), h.1, h.2, spreads_wider h.1 h.1 a b value (omega arith) ge h.3)
  spreads_wider m n a b (Update form cell callee args k) le ge h = (omega (arith, le, h.0), h.1, h.2, row_wider h.1 h.1 a b args (omega arith) ge h.3)
  spreads_wider m n a b (Send cell callee args k) le ge h = (omega (arith, le, h.0), h.1, h.2, row_wider h.1 h.1 a b args (omega arith) ge h.3)

  pub row_wider : (m n a b : ℕ) (ts : Trees) → m ≤ n → a ≤ b → SpreadRow n a ts → SpreadRow m b ts
  row_wider m n a b none le ge h = omega (arith, le, ge, h)
  row_wider m n a b (more e rest) le ge h = (h.0, spreads_wider m n h.0 h.0 e le (omega arith) h.1, row_wider h.0 h.0 a b rest (omega arith) ge h.2)

good_wider : (m n a b : ℕ) (x : Answer Tree) → m ≤ n → a ≤ b → Good n a x → Good m b x
good_wider m n a b (Ok t) le ge h = spreads_wider m n a b t le ge h
good_wider m n a b (Err e) le ge h = omega (arith, ge, h)

-- ---- any form

then_place : {A : Type 0} (at : Span) (x : Answer A) (f : A → Answer Tree) → ((y : A) → HasPlace at (f y)) → HasPlace at (x >>= f)
then_place at (Ok y) f h = h y
then_place at (Err e) f h = tt

room_place : (s : Spot) (x : Answer Tree) → HasPlace s.span x → HasPlace s.span (in_room s x)
room_place s x h = by s.room
  where
    by : (n : ℕ) → HasPlace s.span (some_room n (refuse TooMany s.span) x)
    by zero = tt
    by (suc n) = h

symbol_place : (m : Meaning) (s : Spot) → HasPlace s.span (symbol_node m s)
symbol_place (a_form f) s = tt
symbol_place dotted s = tt
symbol_place (a_local i) s = room_place s (Ok (Local i (spot_mark s))) refl
symbol_place the_current s = tt
symbol_place (defined_as (Constant v)) s = room_place s (Ok (Const v (spot_mark s))) refl
symbol_place (defined_as (ACell c)) s = room_place s _ refl
symbol_place (defined_as (AFunction n l)) s = tt
symbol_place (operation op) s = tt
symbol_place unknown s = tt

leaf_place : (scope : Scope) (x : Leaf) (s : Spot) → HasPlace s.span (leaf_node scope x s)
leaf_place scope nil s = room_place s (Ok (Const (leaf_value nil) (spot_mark s))) refl
leaf_place scope (truth b) s = room_place s (Ok (Const (leaf_value (truth b)) (spot_mark s))) refl
leaf_place scope (number z) s = room_place s (Ok (Const (leaf_value (number z)) (spot_mark s))) refl
leaf_place scope (text b) s = room_place s (Ok (Const (leaf_value (text b)) (spot_mark s))) refl
leaf_place scope (keyword b) s = room_place s (Ok (Const (leaf_value (keyword b)) (spot_mark s))) refl
leaf_place scope (symbol name) s = symbol_place (meaning name scope) s

sequence_place : (k : Sequence) (ts : Trees) (s : Spot) → place_of (sequence_node k ts (spot_mark s)) ≡ s.span
sequence_place sequence.Do ts s = refl
sequence_place sequence.Recur ts s = refl
sequence_place sequence.Println ts s = refl
sequence_place sequence.Vector ts s = refl
sequence_place (sequence.Core op) ts s = refl
sequence_place (sequence.Call n) ts s = refl

single_place : (k : Single) (t : Tree) (s : Spot) → place_of (single_node k t (spot_mark s)) ≡ s.span
single_place single.Dosync t s = refl
single_place (single.Look form) t s = refl

choice_place : (turn : Bool) (c a b : Tree) (s : Spot) → place_of (choice_node turn c a b (spot_mark s)) ≡ s.span
choice_place false c a b s = refl
choice_place true c a b s = refl

binding_place : (is_loop : Bool) (ts : Trees) (t : Tree) (s : Spot) → place_of (binding_node is_loop ts t (spot_mark s)) ≡ s.span
binding_place false ts t s = refl
binding_place true ts t s = refl

change_place : (k : Change) (t : Tree) (c : Callee) (ts : Trees) (s : Spot) → place_of (change_node k t c ts (spot_mark s)) ≡ s.span
change_place (change_by.Update form) t c ts s = refl
change_place change_by.Send t c ts s = refl

put_place : (by : Resolver) (scope : Scope) (s : Spot) (form : Special) → HasPlace s.span (put_together by scope s form)
put_place by scope s (row k fs) = then_place s.span (narrow (parts fs) s (named_all by scope (are_wanted k) (are_wanted k || s.wanted) fs)) (λ nodes. Ok (sequence_node k nodes (spot_mark s))) (λ ts. sequence_place k ts s)
put_place by scope s (one_part k f) = then_place s.span (by scope (is_wanted k || s.wanted) f) (λ node. Ok (single_node k node (spot_mark s))) (λ t. single_place k t s)
put_place by scope s (putting form r e) = then_place s.span (by scope true r) (λ cell. by scope true e >>= λ value. Ok (Put form cell value (spot_mark s))) (λ t. then_place s.span (by scope true e) (λ value. Ok (Put form t value (spot_mark s))) (λ u. refl))
put_place by scope s (choice turn c a b) =
    then_place s.span (by scope true c) (λ test. by scope s.wanted a >>= λ one. by scope s.wanted b >>= λ other. Ok (choice_node turn test one other (spot_mark s)))
    (λ t. then_place s.span (by scope s.wanted a) (λ one. by scope s.wanted b >>= λ other. Ok (choice_node turn t one other (spot_mark s)))
    (λ u. then_place s.span (by scope s.wanted b) (λ other. Ok (choice_node turn t u other (spot_mark s))) (λ w. choice_place turn t u w s)))
put_place by scope s (binding is_loop pairs fs) =
    then_place s.span (named_bindings by scope pairs) (λ bound. by bound.scope s.wanted fs >>= λ node. Ok (binding_node is_loop bound.values node (spot_mark s)))
    (λ b. then_place s.span (by b.scope s.wanted fs) (λ node. Ok (binding_node is_loop b.values node (spot_mark s))) (λ t. binding_place is_loop b.values t s))
put_place by scope s (changing k r f args) =
    then_place s.span (by scope true r) (λ cell. callee_of scope s f >>= λ callee. narrow (suc (parts args)) s (named_all by scope true true args) >>= λ nodes. Ok (change_node k cell callee nodes (spot_mark s)))
    (λ t. then_place s.span (callee_of scope s f) (λ callee. narrow (suc (parts args)) s (named_all by scope true true args) >>= λ nodes. Ok (change_node k t callee nodes (spot_mark s)))
    (λ c. then_place s.span (narrow (suc (parts args)) s (named_all by scope true true args)) (λ nodes. Ok (change_node k t c nodes (spot_mark s))) (λ ts. change_place k t c ts s)))

made_place : (by : Resolver) (scope : Scope) (s : Spot) (c : ACore) → HasPlace s.span (made by scope s c)
made_place by scope s (whole x) = leaf_place scope x s
made_place by scope s (parted form) = room_place s (put_together by scope s form) (put_place by scope s form)

resolved_place : (by : Resolver) (room : ℕ) (scope : Scope) (wanted : Bool) (form : Form) → HasPlace (place form) (resolved by room scope wanted form)
resolved_place by room scope wanted form =
    let s = spot_at room (place form) wanted in
    then_place (place form) (core_of scope s (expand_once form)) (made by scope s) (λ c. made_place by scope s c)

room_good : (lo hi : ℕ) (s : Spot) (x : Answer Tree) → s.span.from < hi → Good lo hi x → Good lo hi (in_room s x)
room_good lo hi s x lt h = by s.room
  where
    by : (n : ℕ) → Good lo hi (some_room n (refuse TooMany s.span) x)
    by zero = lt
    by (suc n) = h

symbol_good : (lo hi : ℕ) (m : Meaning) (s : Spot) → lo ≤ hi → s.span.from < hi → Good lo hi (symbol_node m s)
symbol_good lo hi (a_form f) s le lt = lt
symbol_good lo hi dotted s le lt = lt
symbol_good lo hi (a_local i) s le lt = room_good lo hi s (Ok (Local i (spot_mark s))) lt le
symbol_good lo hi the_current s le lt = lt
symbol_good lo hi (defined_as (Constant v)) s le lt = room_good lo hi s (Ok (Const v (spot_mark s))) lt le
symbol_good lo hi (defined_as (ACell c)) s le lt = room_good lo hi s _ lt le
symbol_good lo hi (defined_as (AFunction n l)) s le lt = lt
symbol_good lo hi (operation op) s le lt = lt
symbol_good lo hi unknown s le lt = lt

leaf_good : (lo hi : ℕ) (scope : Scope) (x : Leaf) (s : Spot) → lo ≤ hi → s.span.from < hi → Good lo hi (leaf_node scope x s)
leaf_good lo hi scope nil s le lt = room_good lo hi s (Ok (Const (leaf_value nil) (spot_mark s))) lt le
leaf_good lo hi scope (truth b) s le lt = room_good lo hi s (Ok (Const (leaf_value (truth b)) (spot_mark s))) lt le
leaf_good lo hi scope (number z) s le lt = room_good lo hi s (Ok (Const (leaf_value (number z)) (spot_mark s))) lt le
leaf_good lo hi scope (text b) s le lt = room_good lo hi s (Ok (Const (leaf_value (text b)) (spot_mark s))) lt le
leaf_good lo hi scope (keyword b) s le lt = room_good lo hi s (Ok (Const (leaf_value (keyword b)) (spot_mark s))) lt le
leaf_good lo hi scope (symbol name) s le lt = symbol_good lo hi (meaning name scope) s le lt

-- a part of which nothing is asked where there is no room
abbrev SeesBelow : ℕ → Resolver → Type 0
SeesBelow zero by = Unit {0}
SeesBelow (suc room) by = Sees by

made_good : (by : Resolver) (room : ℕ) → SeesBelow room by → (scope : Scope) (at : Span) (wanted : Bool) (lo hi : ℕ) → lo ≤ hi → at.from < hi → (x : Answer ACore) → Fit at lo hi x
    → Good lo hi (x >>= made by scope (spot_at room at wanted))
made_good by room sees scope at wanted lo hi le lt (Ok (whole x)) h = leaf_good lo hi scope x (spot_at room at wanted) le lt
made_good by zero sees scope at wanted lo hi le lt (Ok (parted form)) h = lt
made_good by (suc room) sees scope at wanted lo hi le lt (Ok (parted form)) h = put_good by sees scope (spot_at (suc room) at wanted) lo hi lt form h
made_good by room sees scope at wanted lo hi le lt (Err e) h = h

pub made_at : (at : Span) (lo hi : ℕ) (f : Form) → Made at lo hi f → place f ≡ at
made_at at lo hi _ made_nil = refl
made_at at lo hi _ made_hidden = refl
made_at at lo hi _ (made_body fs h) = refl
made_at at lo hi _ (made_and f fs h) = refl
made_at at lo hi _ (made_or f fs h) = refl
made_at at lo hi _ (made_cond fs h) = refl
made_at at lo hi _ (chosen_and f fs h) = refl
made_at at lo hi _ (chosen_or f fs h) = refl
made_at at lo hi _ (body_and f fs h) = refl
made_at at lo hi _ (body_or f fs h) = refl

resolved_good : (by : Resolver) (room : ℕ) → SeesBelow room by → (scope : Scope) (wanted : Bool) (at : Span) (lo hi : ℕ) (f : Form) → Lies at lo hi f → Good lo hi (resolved by room scope wanted f)
resolved_good by room sees scope wanted at lo hi _ (is_written f ge h le) =
    good_wider lo (place f).from (place f).to hi (resolved by room scope wanted f) ge le
    (made_good by room sees scope (place f) wanted (place f).from (place f).to (omega (arith, nests_on f h)) (nests_on f h) (core_of scope (spot_at room (place f) wanted) (expand_once f)) (written_fits scope room wanted f h))
resolved_good by room sees scope wanted at lo hi _ (is_made f k m) =
    subst (λ (p : Span). Good lo hi (core_of scope (spot_at room p wanted) (expand_once f) >>= made by scope (spot_at room p wanted))) (sym (made_at at lo hi f m))
    (made_good by room sees scope at wanted lo hi k.order (omega (arith, k.begins, k.order)) (core_of scope (spot_at room at wanted) (expand_once f)) (made_fits scope room wanted at lo hi f k m))
resolved_good by room sees scope wanted at lo hi _ (is_front head e f rest k) =
    let lt : k.from < hi = omega (arith, k.nests.0, nests_on e k.nests.1, nest_ends (place e).to hi (first f rest) k.nests.2) in
    let form = group Round (first head (first e (first f rest))) at in
    made_good by room sees scope at wanted lo hi (omega (arith, k.begins, k.behind, lt)) (omega (arith, k.behind, lt)) (core_of scope (spot_at room at wanted) (expand_once form)) (front_fits scope room wanted at lo hi head e f rest k)

pub named_sees : (room : ℕ) → Sees (named room)
unfolding named
named_sees zero = record {
  good = λ at lo hi f h scope wanted. resolved_good (λ _ _ e. refuse TooMany (place e)) 0 tt scope wanted at lo hi (alone f) (lies_alone at lo hi f h);
  placed = λ f scope wanted. resolved_place (λ _ _ e. refuse TooMany (place e)) 0 scope wanted (alone f);
}
named_sees (suc room) = record {
  good = λ at lo hi f h scope wanted. resolved_good (named room) (suc room) (named_sees room) scope wanted at lo hi (alone f) (lies_alone at lo hi f h);
  placed = λ f scope wanted. resolved_place (named room) (suc room) scope wanted (alone f);
}
