-- What ends before a refusal was resolved.
use Rattle.std.proofs.Common.{◌≡◌, ℕ, suc, ◌<◌, ◌≤◌, ◌⊎◌, inl, inr, Bool, true, false, ◌||◌, nat_lt, Ok, Err, refl, sym, ap, subst, arith, if◌then◌else◌}
use Rattle.txs_value_data.specs.declared.fault.Span.{Span}
use Rattle.txs_reader.specs.declared.form.Bracket.TheVariants.{Round}
use Rattle.txs_reader.specs.Tree.{PlainForm as Form, PlainForms as Forms, leaf, group, first, place, nil, parts}
use Rattle.txs_tree_meaning.specs.Tree.{Tree, Put, more}
use Rattle.txs_resolve_expand.specs.Scope.{Scope, with_local}
use Rattle.txs_resolve_expand.specs.declared.error.ResolveError.{ResolveError}
use Rattle.txs_resolve_expand.specs.declared.error.ResolveErrorKind.TheVariants.{TooMany}
use Rattle.txs_resolve_expand.specs.declared.shapes.Sequence.{Sequence}
use Rattle.txs_resolve_expand.specs.declared.shapes.Sequence.TheVariants as sequence
use Rattle.txs_resolve_expand.specs.declared.shapes.Spot.{Spot}
use Rattle.txs_resolve_expand.specs.Answers.{◌>>=◌, refuse}
use Rattle.txs_resolve_expand.specs.Expansions.{alone, body, expand_once}
use Rattle.txs_resolve_expand.specs.Expressions.{Answer, Bound, Special, Core as ACore, whole, parted, Resolver, spot_at, spot_mark, bound_name, callee_of, flag, sequence_node, are_wanted, choice_node, single_node, is_wanted, change_node, binding_node, core_of, named_all, named_bindings, narrow, put_together, made, named}
use Rattle.txs_theorem_language.specs.TextOrder.{Nests, NestIn}
use Rattle.txs_theorem_language.specs.Standing.{IsOne, one_now, one_later, IsValue, value_now, value_later, IsBehind, behind_none, behind_one, IsPart, in_row, in_one, in_filled, in_value, in_test, in_first, in_second, in_bound, in_body, in_cell, in_argument, StandsIn, is_whole, in_part, HasTree}
use Rattle.txs_theorem_language.proofs.Windows.{nests_on, nest_ends, made_nil, made_body, Front, Lies, LieRow, is_written, is_made, is_front, lies_alone, lies_from, lies_order}
use Rattle.txs_theorem_language.proofs.Shapes.{LiePairs, LieBranches, RowLies, Fits, Fit, EndsBefore, callee_of_before, written_fits, made_fits, front_fits}
use Rattle.txs_theorem_language.proofs.Spreads.{Good, GoodBound, Sees, bindings_good, pairs_end, named_sees, made_at}

-- where a refusal begins no earlier than here, this holds
abbrev Told : {A : Type 0} → Answer A → ℕ → Type 0 → Type 0
Told (Ok x) n G = G
Told (Err e) n G = n ≤ e.at.from → G

told_now : {A B : Type 0} (n : ℕ) (G : Type 0) (a : Answer A) (f : A → Answer B) → Told a n G → Told (a >>= f) n G
told_now n G (Ok x) f h = already (f x)
  where
    already : {B : Type 0} (b : Answer B) → Told b n G
    already (Ok y) = h
    already (Err e) = λ le. h
told_now n G (Err e) f h = h

told_later : {A B : Type 0} (n m : ℕ) (G : Type 0) (a : Answer A) (f : A → Answer B) → EndsBefore m a → m ≤ n → ((x : A) → a ≡ Ok x → Told (f x) n G) → Told (a >>= f) n G
told_later n m G (Ok x) f before le h = h x refl
told_later n m G (Err e) f before le h = λ ge. absurd (omega (arith, before, le, ge))

good_before : (lo hi : ℕ) (a : Answer Tree) → Good lo hi a → EndsBefore hi a
good_before lo hi (Ok t) h = tt
good_before lo hi (Err e) h = h

bound_before : (lo hi : ℕ) (a : Answer Bound) → GoodBound lo hi a → EndsBefore hi a
bound_before lo hi (Ok t) h = tt
bound_before lo hi (Err e) h = h

-- ---- one part

module _ (by : Resolver) (sees : Sees by) (at : Span) (n : ℕ) (G : Type 0) (late : at.from < n) where
  -- a part that lies in such a stretch ends no earlier than it begins
  abbrev Low : Form → Type 0
  Low p = (lo hi : ℕ) → at.from ≤ lo → Lies at lo hi p → lo ≤ n

  row_low : (p : Form) (lo hi : ℕ) (fs : Forms) → at.from ≤ lo → LieRow at lo hi fs → IsOne p fs → Low p → lo ≤ n
  row_low p lo hi _ le h (one_now rest) low = low lo h.0 le h.1
  row_low p lo hi _ le h (one_later f rest is) low = omega (arith, lies_order at lo h.0 f h.1, row_low p h.0 hi rest (omega (arith, le, lies_order at lo h.0 f h.1)) h.2 is low)

  row_told : (scope : Scope) (p : Form) → ((wanted : Bool) → Told (by scope wanted p) n G) → Low p → (lo hi : ℕ) (fs : Forms) → at.from ≤ lo → LieRow at lo hi fs → IsOne p fs → (inner last : Bool)
      → Told (named_all by scope inner last fs) n G
  row_told scope p told low lo hi _ le h (one_now rest) inner last =
      told_now n G (by scope (flag inner last rest) p) (λ node. named_all by scope inner last rest >>= λ nodes. Ok (more node nodes)) (told (flag inner last rest))
  row_told scope p told low lo hi _ le h (one_later f rest is) inner last =
      let ge : at.from ≤ h.0 = omega (arith, le, lies_order at lo h.0 f h.1) in
      told_later n h.0 G (by scope (flag inner last rest) f) (λ node. named_all by scope inner last rest >>= λ nodes. Ok (more node nodes))
      (good_before lo h.0 (by scope (flag inner last rest) f) (sees.good at lo h.0 f h.1 scope (flag inner last rest))) (row_low p h.0 hi rest ge h.2 is low)
      (λ t same. told_now n G (named_all by scope inner last rest) (λ nodes. Ok (more t nodes)) (row_told scope p told low h.0 hi rest ge h.2 is inner last))

  narrow_told : {A : Type 0} (s : Spot) → s.span ≡ at → (k : ℕ) (a : Answer A) → Told a n G → Told (narrow k s a) n G
  narrow_told s is k a h = pick (nat_lt 65535 k)
    where
      pick : (y : Bool) → Told (if y then refuse TooMany s.span else a) n G
      pick true = λ le. absurd (omega (arith, le, late, ap (λ (p : Span). p.from) is))
      pick false = h

  value_low : (p : Form) (inner scope : Scope) (lo hi : ℕ) (fs : Forms) → at.from ≤ lo → LiePairs at lo hi fs → IsValue p inner scope fs → Low p → lo ≤ n
  value_low p inner scope lo hi _ le h (value_now binder rest) low = low lo h.0 le h.2
  value_low p inner scope lo hi _ le h (value_later _ binder value rest name is k) low =
      let ge = lies_order at lo h.0 value h.2 in
      omega (arith, ge, value_low p inner (with_local name scope) h.0 hi rest (omega (arith, le, ge)) h.3 k low)

  value_told : (p : Form) (inner : Scope) → ((wanted : Bool) → Told (by inner wanted p) n G) → Low p → (scope : Scope) (lo hi : ℕ) (fs : Forms) → at.from ≤ lo → LiePairs at lo hi fs → IsValue p inner scope fs
      → Told (named_bindings by scope fs) n G
  value_told p inner told low scope lo hi _ le h (value_now binder rest) =
      told_now n G (by scope true p) (λ value. bound_name scope binder >>= λ name. named_bindings by (with_local name scope) rest >>= λ bound. Ok (record { values = more value bound.values; scope = bound.scope })) (told true)
  value_told p inner told low scope lo hi _ le h (value_later _ binder value rest name is k) =
      let ge = lies_order at lo h.0 value h.2 in
      told_later n h.0 G (by scope true value) (λ t. bound_name scope binder >>= λ name. named_bindings by (with_local name scope) rest >>= λ bound. Ok (record { values = more t bound.values; scope = bound.scope }))
      (good_before lo h.0 (by scope true value) (sees.good at lo h.0 value h.2 scope true)) (value_low p inner (with_local name scope) h.0 hi rest (omega (arith, le, ge)) h.3 k low)
      (λ t same. subst (λ a. Told {A = Bound} (a >>= λ name. named_bindings by (with_local name scope) rest >>= λ bound. Ok (record { values = more t bound.values; scope = bound.scope })) n G) (sym is)
      (told_now n G (named_bindings by (with_local name scope) rest) (λ bound. Ok (record { values = more t bound.values; scope = bound.scope }))
      (value_told p inner told low (with_local name scope) h.0 hi rest (omega (arith, le, ge)) h.3 k)))

-- the scope behind bindings
abbrev pub ScopeIs : Scope → Answer Bound → Type 0
ScopeIs inner (Ok b) = b.scope ≡ inner
ScopeIs inner (Err e) = Unit {0}

pub behind_is : (by : Resolver) (inner scope : Scope) (fs : Forms) → IsBehind inner scope fs → ScopeIs inner (named_bindings by scope fs)
behind_is by inner _ _ behind_none = refl
behind_is by inner scope _ (behind_one _ binder value rest name is k) = step (behind_is by inner (with_local name scope) rest k) (by scope true value)
  where
    last : (t : Tree) (a : Answer Bound) → ScopeIs inner a → ScopeIs inner (a >>= λ bound. Ok (record { values = more t bound.values; scope = bound.scope }))
    last t (Ok b) h = h
    last t (Err e) h = tt

    step : ScopeIs inner (named_bindings by (with_local name scope) rest) → (v : Answer Tree)
        → ScopeIs inner (v >>= λ t. bound_name scope binder >>= λ name. named_bindings by (with_local name scope) rest >>= λ bound. Ok (record { values = more t bound.values; scope = bound.scope }))
    step h (Err e) = tt
    step h (Ok t) = subst (λ a. ScopeIs inner (a >>= λ name. named_bindings by (with_local name scope) rest >>= λ bound. Ok (record { values = more t bound.values; scope = bound.scope }))) (sym is) (last t (named_bindings by (with_local name scope) rest) h)

scope_of : (inner : Scope) (a : Answer Bound) (b : Bound) → ScopeIs inner a → a ≡ Ok b → b.scope ≡ inner
scope_of inner a b h is = subst (ScopeIs inner) is h

-- parts in a row, behind where the form begins
row_part : (k : Sequence) (at : Span) (lo hi : ℕ) (fs : Forms) → at.from ≤ lo → RowLies k at lo hi fs → (m : ℕ) × (at.from ≤ m) × LieRow at m hi fs
row_part sequence.Do at lo hi fs le h = (lo, le, h)
row_part sequence.Recur at lo hi fs le h = (at.from, omega arith, h.1)
row_part sequence.Println at lo hi fs le h = (at.from, omega arith, h.1)
row_part sequence.Vector at lo hi fs le h = (at.from, omega arith, h.1)
row_part (sequence.Core op) at lo hi fs le h = (at.from, omega arith, h.1)
row_part (sequence.Call f) at lo hi fs le h = (at.from, omega arith, h.1)

-- the branches of a choice, in the order in which they are written
record InOrder (at : Span) (lo hi : ℕ) (a b : Form) : Type 0 where
  mid : ℕ
  one : Lies at lo mid a
  other : Lies at mid hi b

module _ (by : Resolver) (sees : Sees by) (s : Spot) (n : ℕ) (G : Type 0) (late : s.span.from < n) where
  put_told : (scope inner : Scope) (form : Special) (p : Form) → IsPart p inner scope form → (lo hi : ℕ) → s.span.from ≤ lo → hi ≤ s.span.to → Fits s.span lo hi form
      → Low by sees s.span n G late p → ((wanted : Bool) → Told (by inner wanted p) n G) → Told (put_together by scope s form) n G
  put_told scope inner _ p (in_row k fs is) lo hi le ends h low told =
      let r = row_part k s.span lo hi fs le h in
      told_now n G (narrow (parts fs) s (named_all by scope (are_wanted k) (are_wanted k || s.wanted) fs)) (λ nodes. Ok (sequence_node k nodes (spot_mark s)))
      (narrow_told by sees s.span n G late s refl (parts fs) (named_all by scope (are_wanted k) (are_wanted k || s.wanted) fs)
      (row_told by sees s.span n G late scope p told low r.0 hi fs r.1 r.2 is (are_wanted k) (are_wanted k || s.wanted)))
  put_told scope inner _ p (in_one k) lo hi le ends h low told =
      told_now n G (by scope (is_wanted k || s.wanted) p) (λ node. Ok (single_node k node (spot_mark s))) (told (is_wanted k || s.wanted))
  put_told scope inner _ p (in_filled k e) lo hi le ends h low told =
      told_now n G (by scope true p) (λ cell. by scope true e >>= λ value. Ok (Put k cell value (spot_mark s))) (told true)
  put_told scope inner _ p (in_value k r) lo hi le ends h low told =
      told_later n h.1 G (by scope true r) (λ cell. by scope true p >>= λ value. Ok (Put k cell value (spot_mark s)))
      (good_before s.span.from h.1 (by scope true r) (sees.good s.span s.span.from h.1 r h.2 scope true)) (low h.1 hi (lies_order s.span s.span.from h.1 r h.2) h.3)
      (λ cell is. told_now n G (by scope true p) (λ value. Ok (Put k cell value (spot_mark s))) (told true))
  put_told scope inner _ p (in_test turn a b) lo hi le ends h low told =
      told_now n G (by scope true p) (λ test. by scope s.wanted a >>= λ one. by scope s.wanted b >>= λ other. Ok (choice_node turn test one other (spot_mark s))) (told true)
  put_told scope inner _ p (in_first turn c b) lo hi le ends h low told =
      told_later n h.0 G (by scope true c) (λ test. by scope s.wanted p >>= λ one. by scope s.wanted b >>= λ other. Ok (choice_node turn test one other (spot_mark s)))
      (good_before lo h.0 (by scope true c) (sees.good s.span lo h.0 c h.1 scope true)) (first_low turn h.2)
      (λ test is. told_now n G (by scope s.wanted p) (λ one. by scope s.wanted b >>= λ other. Ok (choice_node turn test one other (spot_mark s))) (told s.wanted))
    where
      ge : s.span.from ≤ h.0
      ge = omega (arith, le, lies_order s.span lo h.0 c h.1)

      first_low : (turn : Bool) → LieBranches turn s.span h.0 hi p b → h.0 ≤ n
      first_low false k = low h.0 k.0 ge k.1
      first_low true (inl k) = low h.0 k.mid ge k.one
      first_low true (inr k) = low h.0 hi ge k.one
  put_told scope inner _ p (in_second turn c a) lo hi le ends h low told =
      told_later n h.0 G (by scope true c) (λ test. by scope s.wanted a >>= λ one. by scope s.wanted p >>= λ other. Ok (choice_node turn test one other (spot_mark s)))
      (good_before lo h.0 (by scope true c) (sees.good s.span lo h.0 c h.1 scope true)) (second_low turn h.2)
      (λ test is. second_told turn h.2 test)
    where
      ge : s.span.from ≤ h.0
      ge = omega (arith, le, lies_order s.span lo h.0 c h.1)

      second_low : (turn : Bool) → LieBranches turn s.span h.0 hi a p → h.0 ≤ n
      second_low false k = omega (arith, lies_order s.span h.0 k.0 a k.1, low k.0 hi (omega (arith, ge, lies_order s.span h.0 k.0 a k.1)) k.2)
      second_low true (inl k) = omega (arith, lies_order s.span h.0 k.mid a k.one, low k.mid hi (omega (arith, ge, lies_order s.span h.0 k.mid a k.one)) k.other)
      second_low true (inr k) = low h.0 h.0 ge (subst (Lies s.span h.0 h.0) (sym k.is) (is_made (leaf nil s.span) k.other made_nil))

      in_turn : (m : ℕ) → Lies s.span h.0 m a → m ≤ n → (turn : Bool) (test : Tree) → Told (by scope s.wanted a >>= λ one. by scope s.wanted p >>= λ other. Ok (choice_node turn test one other (spot_mark s))) n G
      in_turn m k len turn test =
          told_later n m G (by scope s.wanted a) (λ one. by scope s.wanted p >>= λ other. Ok (choice_node turn test one other (spot_mark s)))
          (good_before h.0 m (by scope s.wanted a) (sees.good s.span h.0 m a k scope s.wanted)) len
          (λ one is. told_now n G (by scope s.wanted p) (λ other. Ok (choice_node turn test one other (spot_mark s))) (told s.wanted))

      second_told : (turn : Bool) → LieBranches turn s.span h.0 hi a p → (test : Tree) → Told (by scope s.wanted a >>= λ one. by scope s.wanted p >>= λ other. Ok (choice_node turn test one other (spot_mark s))) n G
      second_told false k test = in_turn k.0 k.1 (low k.0 hi (omega (arith, ge, lies_order s.span h.0 k.0 a k.1)) k.2) false test
      second_told true (inl k) test = in_turn k.mid k.one (low k.mid hi (omega (arith, ge, lies_order s.span h.0 k.mid a k.one)) k.other) true test
      second_told true (inr k) test =
          let lt : s.span.from < hi = omega (arith, k.other.begins, lies_order s.span h.0 hi a k.one) in
          in_turn hi k.one
          (low hi hi (omega (arith, lt)) (subst (Lies s.span hi hi) (sym k.is) (is_made (leaf nil s.span) (record { begins = lt; order = omega arith; ends = ends }) made_nil)))
          true test
  put_told scope inner _ p (in_bound _ is_loop pairs body is) lo hi le ends h low told =
      told_now n G (named_bindings by scope pairs) (λ bound. by bound.scope s.wanted body >>= λ node. Ok (binding_node is_loop bound.values node (spot_mark s)))
      (value_told by sees s.span n G late p inner told low scope lo h.0 pairs le h.1 is)
  put_told scope inner _ p (in_body _ is_loop pairs is) lo hi le ends h low told =
      told_later n h.0 G (named_bindings by scope pairs) (λ bound. by bound.scope s.wanted p >>= λ node. Ok (binding_node is_loop bound.values node (spot_mark s)))
      (bound_before lo h.0 (named_bindings by scope pairs) (bindings_good by sees s.span lo h.0 pairs h.1 scope)) (low h.0 hi (omega (arith, le, pairs_end s.span lo h.0 pairs h.1)) h.2)
      (λ bound same. told_now n G (by bound.scope s.wanted p) (λ node. Ok (binding_node is_loop bound.values node (spot_mark s)))
      (subst (λ (z : Scope). Told (by z s.wanted p) n G) (sym (scope_of inner (named_bindings by scope pairs) bound (behind_is by inner scope pairs is) same)) (told s.wanted)))
  put_told scope inner _ p (in_cell k f args) lo hi le ends h low told =
      told_now n G (by scope true p) (λ cell. callee_of scope s f >>= λ callee. narrow (suc (parts args)) s (named_all by scope true true args) >>= λ nodes. Ok (change_node k cell callee nodes (spot_mark s))) (told true)
  put_told scope inner _ p (in_argument k r f args is) lo hi le ends h low told =
      let ge : s.span.from ≤ h.1 = lies_order s.span s.span.from h.1 r h.2 in
      let len = row_low by sees s.span n G late p h.1 hi args ge h.5 is low in
      told_later n h.1 G (by scope true r) (λ cell. callee_of scope s f >>= λ callee. narrow (suc (parts args)) s (named_all by scope true true args) >>= λ nodes. Ok (change_node k cell callee nodes (spot_mark s)))
      (good_before s.span.from h.1 (by scope true r) (sees.good s.span s.span.from h.1 r h.2 scope true)) len
      (λ cell same. told_later n h.1 G (callee_of scope s f) (λ callee. narrow (suc (parts args)) s (named_all by scope true true args) >>= λ nodes. Ok (change_node k cell callee nodes (spot_mark s)))
      (callee_of_before scope s f h.1 h.3 h.4) len
      (λ callee same2. told_now n G (narrow (suc (parts args)) s (named_all by scope true true args)) (λ nodes. Ok (change_node k cell callee nodes (spot_mark s)))
      (narrow_told by sees s.span n G late s refl (suc (parts args)) (named_all by scope true true args) (row_told by sees s.span n G late scope p told low h.1 hi args ge h.5 is true true))))

-- ---- any form

-- where the parts of a form stand, whichever it is
record Seen (scope : Scope) (room : ℕ) (wanted : Bool) (lo hi : ℕ) (f : Form) : Type 0 where
  from : ℕ
  to : ℕ
  behind : lo ≤ from
  own : (place f).from ≤ from
  ends : to ≤ (place f).to
  fit : Fit (place f) from to (core_of scope (spot_at room (place f) wanted) (expand_once f))

seen : (scope : Scope) (room : ℕ) (wanted : Bool) (at : Span) (lo hi : ℕ) (f : Form) → Lies at lo hi f → Seen scope room wanted lo hi f
seen scope room wanted at lo hi _ (is_written f ge h le) = record { from = (place f).from; to = (place f).to; behind = ge; own = omega arith; ends = omega arith; fit = written_fits scope room wanted f h }
seen scope room wanted at lo hi _ (is_made f k m) =
    let is = made_at at lo hi f m in
    record {
      from = lo;
      to = hi;
      behind = omega arith;
      own = omega (arith, k.begins, ap (λ (p : Span). p.from) is);
      ends = omega (arith, k.ends, ap (λ (p : Span). p.to) is);
      fit = subst (λ (p : Span). Fit p lo hi (core_of scope (spot_at room p wanted) (expand_once f))) (sym is) (made_fits scope room wanted at lo hi f k m);
    }
seen scope room wanted at lo hi _ (is_front head e f rest k) =
    let again : Front at at.from hi head e f rest = record { operation = k.operation; from = k.from; begins = omega arith; ends = k.ends; behind = k.behind; head_before = k.head_before; nests = k.nests } in
    record { from = at.from; to = hi; behind = k.begins; own = omega arith; ends = k.ends; fit = front_fits scope room wanted at at.from hi head e f rest again }

-- a part that stands somewhere behind
record PartLies (at : Span) (from : ℕ) (p : Form) : Type 0 where
  lo : ℕ
  hi : ℕ
  behind : from ≤ lo
  own : at.from ≤ lo
  lies : Lies at lo hi p

one_lies : (at : Span) (from : ℕ) (p : Form) (lo hi : ℕ) (fs : Forms) → from ≤ lo → at.from ≤ lo → LieRow at lo hi fs → IsOne p fs → PartLies at from p
one_lies at from p lo hi _ le own h (one_now rest) = record { lo = lo; hi = h.0; behind = le; own = own; lies = h.1 }
one_lies at from p lo hi _ le own h (one_later f rest is) =
    let ge = lies_order at lo h.0 f h.1 in
    one_lies at from p h.0 hi rest (omega (arith, le, ge)) (omega (arith, own, ge)) h.2 is

value_lies : (at : Span) (from : ℕ) (p : Form) (inner : Scope) (lo hi : ℕ) (scope : Scope) (fs : Forms) → from ≤ lo → at.from ≤ lo → LiePairs at lo hi fs → IsValue p inner scope fs → PartLies at from p
value_lies at from p inner lo hi scope _ le own h (value_now binder rest) = record { lo = lo; hi = h.0; behind = le; own = own; lies = h.2 }
value_lies at from p inner lo hi scope _ le own h (value_later _ binder value rest name is k) =
    let ge = lies_order at lo h.0 value h.2 in
    value_lies at from p inner h.0 hi (with_local name scope) rest (omega (arith, le, ge)) (omega (arith, own, ge)) h.3 k

branch_lies : (turn : Bool) (at : Span) (from lo hi : ℕ) (a b : Form) → from ≤ lo → at.from ≤ lo → LieBranches turn at lo hi a b → PartLies at from a × PartLies at from b
branch_lies false at from lo hi a b le own h =
    let ge = lies_order at lo h.0 a h.1 in
    (record { lo = lo; hi = h.0; behind = le; own = own; lies = h.1 }, record { lo = h.0; hi = hi; behind = omega (arith, le, ge); own = omega (arith, own, ge); lies = h.2 })
branch_lies true at from lo hi a b le own (inl h) =
    let ge = lies_order at lo h.mid a h.one in
    (record { lo = lo; hi = h.mid; behind = le; own = own; lies = h.one }, record { lo = h.mid; hi = hi; behind = omega (arith, le, ge); own = omega (arith, own, ge); lies = h.other })
branch_lies true at from lo hi a b le own (inr h) =
    (record { lo = lo; hi = hi; behind = le; own = own; lies = h.one }, record { lo = lo; hi = lo; behind = le; own = own; lies = subst (Lies at lo lo) (sym h.is) (is_made (leaf nil at) h.other made_nil) })

part_lies : (at : Span) (lo hi : ℕ) (scope inner : Scope) (form : Special) (p : Form) → at.from ≤ lo → Fits at lo hi form → IsPart p inner scope form → PartLies at lo p ⊎ ((lo ≤ at.from) × PartLies at at.from p)
part_lies at lo hi scope inner _ p le h (in_row k fs is) = by k h
  where
    own_part : (lo ≤ at.from) × LieRow at at.from hi fs → PartLies at lo p ⊎ ((lo ≤ at.from) × PartLies at at.from p)
    own_part g = inr (g.0, one_lies at at.from p at.from hi fs (omega arith) (omega arith) g.1 is)

    by : (k : Sequence) → RowLies k at lo hi fs → PartLies at lo p ⊎ ((lo ≤ at.from) × PartLies at at.from p)
    by sequence.Do g = inl (one_lies at lo p lo hi fs (omega arith) le g is)
    by sequence.Recur g = own_part g
    by sequence.Println g = own_part g
    by sequence.Vector g = own_part g
    by (sequence.Core op) g = own_part g
    by (sequence.Call n) g = own_part g
part_lies at lo hi scope inner _ p le h (in_one k) = inr (h.0, record { lo = h.1; hi = hi; behind = h.2; own = h.2; lies = h.3 })
part_lies at lo hi scope inner _ p le h (in_filled k e) = inr (h.0, record { lo = at.from; hi = h.1; behind = omega arith; own = omega arith; lies = h.2 })
part_lies at lo hi scope inner _ p le h (in_value k r) =
    let ge = lies_order at at.from h.1 r h.2 in
    inr (h.0, record { lo = h.1; hi = hi; behind = ge; own = ge; lies = h.3 })
part_lies at lo hi scope inner _ p le h (in_test turn a b) = inl (record { lo = lo; hi = h.0; behind = omega arith; own = le; lies = h.1 })
part_lies at lo hi scope inner _ p le h (in_first turn c b) =
    let ge = lies_order at lo h.0 c h.1 in
    inl ((branch_lies turn at lo h.0 hi p b ge (omega (arith, le, ge)) h.2).0)
part_lies at lo hi scope inner _ p le h (in_second turn c a) =
    let ge = lies_order at lo h.0 c h.1 in
    inl ((branch_lies turn at lo h.0 hi a p ge (omega (arith, le, ge)) h.2).1)
part_lies at lo hi scope inner _ p le h (in_bound _ is_loop pairs body is) = inl (value_lies at lo p inner lo h.0 scope pairs (omega arith) le h.1 is)
part_lies at lo hi scope inner _ p le h (in_body _ is_loop pairs is) =
    let ge = pairs_end at lo h.0 pairs h.1 in
    inl (record { lo = h.0; hi = hi; behind = ge; own = omega (arith, le, ge); lies = h.2 })
part_lies at lo hi scope inner _ p le h (in_cell k f args) = inr (h.0, record { lo = at.from; hi = h.1; behind = omega arith; own = omega arith; lies = h.2 })
part_lies at lo hi scope inner _ p le h (in_argument k r f args is) =
    let ge = lies_order at at.from h.1 r h.2 in
    inr (h.0, one_lies at at.from p h.1 hi args ge ge h.5 is)

-- a part stands behind where the parts of a form begin
part_behind : (at : Span) (from : ℕ) (p : Form) → PartLies at from p ⊎ ((from ≤ at.from) × PartLies at at.from p) → PartLies at from p
part_behind at from p (inl h) = h
part_behind at from p (inr h) = record { lo = h.1.lo; hi = h.1.hi; behind = omega (arith, h.0, h.1.behind); own = h.1.own; lies = h.1.lies }

fit_special : (at : Span) (lo hi : ℕ) (a : Answer ACore) (sp : Special) → Fit at lo hi a → a ≡ Ok (parted sp) → Fits at lo hi sp
fit_special at lo hi a sp h is = subst (Fit at lo hi) is h

-- the parts of a special form that a form is
special_lies : (k : ℕ) (outer : Scope) (at : Span) (lo hi : ℕ) (f : Form) (sp : Special) → (s : Seen outer (suc k) true lo hi f) → core_of outer (spot_at (suc k) (place f) true) (expand_once f) ≡ Ok (parted sp) → Fits (place f) s.from s.to sp
special_lies k outer at lo hi f sp s same = fit_special (place f) s.from s.to (core_of outer (spot_at (suc k) (place f) true) (expand_once f)) sp s.fit same

-- a form that stands in one ends behind where that one begins
ends_behind : (room : ℕ) (scope : Scope) (g : Form) (k : ℕ) (outer : Scope) (f : Form) → StandsIn room scope g k outer f → (at : Span) (lo hi : ℕ) → at.from ≤ lo → Lies at lo hi f → (lo ≤ (place g).to) × (at.from < (place g).to)
ends_behind room scope g _ _ _ is_whole at lo hi le lies = whole at lo hi g le lies
  where
    whole : (at : Span) (lo hi : ℕ) (g : Form) → at.from ≤ lo → Lies at lo hi g → (lo ≤ (place g).to) × (at.from < (place g).to)
    whole at lo hi _ le (is_written g ge h end) = (omega (arith, ge, nests_on g h), omega (arith, le, ge, nests_on g h))
    whole at lo hi _ le (is_made g fr m) =
        let is = ap (λ (p : Span). p.to) (made_at at lo hi g m) in
        (omega (arith, fr.order, fr.ends, is), omega (arith, fr.begins, fr.order, fr.ends, is))
    whole at lo hi _ le (is_front head e x rest fr) =
        let lt : fr.from < hi = omega (arith, fr.nests.0, nests_on e fr.nests.1, nest_ends (place e).to hi (first x rest) fr.nests.2) in
        (omega (arith, fr.begins, fr.ends, fr.behind, lt), omega (arith, fr.ends, fr.behind, lt))
ends_behind room scope g _ outer f (in_part k _ inner _ part sp same is st) at lo hi le lies =
    let other = lies_alone at lo hi f lies in
    let s = seen outer (suc k) true at lo hi (alone f) other in
    let i = part_behind (place (alone f)) s.from part (part_lies (place (alone f)) s.from s.to outer inner sp part s.own (special_lies k outer at lo hi (alone f) sp s (same true)) is) in
    let r = ends_behind room scope g k inner part st (place (alone f)) i.lo i.hi i.own i.lies in
    (omega (arith, s.behind, i.behind, r.0), omega (arith, lies_from at lo hi (alone f) le other, r.1))

-- a refusal of a form begins before the form's end
whole_before : (k : ℕ) (scope : Scope) (wanted : Bool) (at : Span) (lo hi : ℕ) (g : Form) → Lies at lo hi g → EndsBefore (place g).to (named k scope wanted g)
whole_before k scope wanted at lo hi _ (is_written g ge h end) =
    good_before (place g).from (place g).to (named k scope wanted g) ((named_sees k).good at (place g).from (place g).to g (is_written g (omega arith) h (omega arith)) scope wanted)
whole_before k scope wanted at lo hi _ (is_made g fr m) =
    before_wider (place g).to (named k scope wanted g) (good_before lo hi (named k scope wanted g) ((named_sees k).good at lo hi g (is_made g fr m) scope wanted)) (omega (arith, fr.ends, ap (λ (p : Span). p.to) (made_at at lo hi g m)))
  where
    before_wider : (n : ℕ) (a : Answer Tree) → EndsBefore hi a → hi ≤ n → EndsBefore n a
    before_wider n (Ok t) h le = tt
    before_wider n (Err e) h le = omega (arith, h, le)
whole_before k scope wanted at lo hi _ (is_front head e x rest fr) =
    let g = group Round (first head (first e (first x rest))) at in
    before_wider at.to (named k scope wanted g) (good_before lo hi (named k scope wanted g) ((named_sees k).good at lo hi g (is_front head e x rest fr) scope wanted)) fr.ends
  where
    before_wider : (n : ℕ) (a : Answer Tree) → EndsBefore hi a → hi ≤ n → EndsBefore n a
    before_wider n (Ok t) h le = tt
    before_wider n (Err e) h le = omega (arith, h, le)

whole_told : (k : ℕ) (scope : Scope) (wanted : Bool) (g : Form) (a : Answer Tree) → named k scope wanted g ≡ a → EndsBefore (place g).to a → Told a (place g).to (HasTree k scope g)
whole_told k scope wanted g (Ok t) is before = (wanted, t, is)
whole_told k scope wanted g (Err e) is before = λ le. absurd (omega (arith, before, le))

by_part : (k : ℕ) (outer : Scope) (wanted : Bool) (f : Form) (sp : Special) (n : ℕ) (G : Type 0) → core_of outer (spot_at (suc k) (place (alone f)) wanted) (expand_once (alone f)) ≡ Ok (parted sp)
    → Told (put_together (named k) outer (spot_at (suc k) (place (alone f)) wanted) sp) n G → Told (named (suc k) outer wanted f) n G
unfolding named
by_part k outer wanted f sp n G same h = subst (λ a. Told (a >>= made (named k) outer (spot_at (suc k) (place (alone f)) wanted)) n G) (sym same) h

pub told_form : (room : ℕ) (scope : Scope) (g : Form) (k : ℕ) (outer : Scope) (f : Form) → StandsIn room scope g k outer f → (at : Span) (lo hi : ℕ) → at.from ≤ lo → Lies at lo hi f → (wanted : Bool) → Told (named k outer wanted f) (place g).to (HasTree room scope g)
told_form room scope g _ _ _ is_whole at lo hi le lies wanted = whole_told room scope wanted g (named room scope wanted g) refl (whole_before room scope wanted at lo hi g lies)
told_form room scope g _ outer f (in_part k _ inner _ part sp same is st) at lo hi le lies wanted =
    let other = lies_alone at lo hi f lies in
    let s = seen outer (suc k) true at lo hi (alone f) other in
    let fits = special_lies k outer at lo hi (alone f) sp s (same true) in
    let i = part_behind (place (alone f)) s.from part (part_lies (place (alone f)) s.from s.to outer inner sp part s.own fits is) in
    let n = (place g).to in
    let late = (ends_behind room scope g k inner part st (place (alone f)) i.lo i.hi i.own i.lies).1 in
    by_part k outer wanted f sp n (HasTree room scope g) (same wanted)
    (put_told (named k) (named_sees k) (spot_at (suc k) (place (alone f)) wanted) n (HasTree room scope g) late outer inner sp part is s.from s.to s.own s.ends fits
    (λ a b own lie. (ends_behind room scope g k inner part st (place (alone f)) a b own lie).0)
    (λ w. told_form room scope g k inner part st (place (alone f)) i.lo i.hi i.own i.lies w))

told_error : (a : Answer Tree) (e : ResolveError) (n : ℕ) (G : Type 0) → Told a n G → a ≡ Err e → n ≤ e.at.from → G
told_error a e n G told is = subst (λ x. Told x n G) is told

-- of a written form
pub before_written : (room k : ℕ) (scope outer : Scope) (wanted : Bool) (g f : Form) (e : ResolveError) → Nests f → named k outer wanted f ≡ Err e → StandsIn room scope g k outer f → (place g).to ≤ e.at.from → HasTree room scope g
before_written room k scope outer wanted g f e h is st =
    told_error (named k outer wanted f) e (place g).to (HasTree room scope g) (told_form room scope g k outer f st (place f) (place f).from (place f).to (omega arith) (is_written f (omega arith) h (omega arith)) wanted) is

-- of the body of a function or of a future
pub before_body : (room k : ℕ) (scope outer : Scope) (wanted : Bool) (g : Form) (at : Span) (from : ℕ) (fs : Forms) (e : ResolveError) → at.from < from → NestIn from at.to fs → named k outer wanted (body fs at) ≡ Err e
    → StandsIn room scope g k outer (body fs at) → (place g).to ≤ e.at.from → HasTree room scope g
before_body room k scope outer wanted g at from fs e lt h is st =
    told_error (named k outer wanted (body fs at)) e (place g).to (HasTree room scope g)
    (told_form room scope g k outer (body fs at) st at from at.to (omega (arith, lt)) (is_made (body fs at) (record { begins = lt; order = nest_ends from at.to fs h; ends = omega arith }) (made_body fs h)) wanted) is
