-- A tree is never deeper than its form may be.
use Rattle.std.proofs.Common.{◌≡◌, ℕ, zero, suc, ◌<◌, ◌≤◌, max, Bool, true, false, ◌||◌, nat_lt, List, Option, Some, None, Ok, refl, arith, if◌then◌else◌}
use Rattle.std.proofs.Math.Nat.{max-le}
use Rattle.std.proofs.lemmas.Bool.Decides.{nat_tests}
use Rattle.txs_value_data.specs.declared.fault.Span.{Span}
use Rattle.txs_value_cell.specs.declared.form.CellForm.{CellForm}
use Rattle.txs_value_cell.specs.declared.form.CellForm.TheVariants as on_cell
use Rattle.txs_value_data.specs.declared.op.Callee.{Callee}
use Rattle.txs_value_data.specs.declared.op.Callee.TheVariants.{Core as CoreOp, Function as TheFunction}
use Rattle.txs_reader.specs.declared.form.Bracket.TheVariants.{Round, Square}
use Rattle.txs_reader.specs.Tree.{Leaf, PlainForm as Form, PlainForms as Forms, leaf, group, first, place, number, symbol, nil, truth, text, keyword, parts}
use Rattle.txs_reader.specs.Tree.{none as no_forms}
use Rattle.txs_tree_meaning.specs.Tree.{Tree, Trees, Mark, Put, more}
use Rattle.txs_resolve_expand.specs.declared.names.FormName.{FormName}
use Rattle.txs_resolve_expand.specs.declared.names.FormName.TheVariants as kind
use Rattle.txs_resolve_expand.specs.declared.scope.Definition.TheVariants.{Constant, Cell as ACell, Function as AFunction}
use Rattle.txs_resolve_expand.specs.Scope.{Scope, Meaning, a_form, dotted, a_local, the_current, defined_as, operation, unknown, meaning, with_local}
use Rattle.txs_resolve_expand.specs.declared.error.ResolveErrorKind.TheVariants.{BadForm, TooMany}
use Rattle.txs_resolve_expand.specs.declared.shapes.Change.{Change}
use Rattle.txs_resolve_expand.specs.declared.shapes.Change.TheVariants as change_by
use Rattle.txs_resolve_expand.specs.declared.shapes.Sequence.{Sequence}
use Rattle.txs_resolve_expand.specs.declared.shapes.Sequence.TheVariants as sequence
use Rattle.txs_resolve_expand.specs.declared.shapes.Single.{Single}
use Rattle.txs_resolve_expand.specs.declared.shapes.Single.TheVariants as single
use Rattle.txs_resolve_expand.specs.declared.shapes.Spot.{Spot}
use Rattle.txs_resolve_expand.specs.Answers.{◌>>=◌, refuse}
use Rattle.txs_resolve.specs.Depths.{at_place, callee_depth, depths, depths_in}
use Rattle.txs_resolve_expand.specs.Expansions.{alone, body, expand_once, form_at}
use Rattle.txs_resolve_expand.specs.Expressions.{Bound, Special, row, one_part, putting, choice, binding, changing, Core as ACore, whole, parted, Resolver, spot_at, spot_mark, narrow, symbol_node, leaf_node, callee_at, callee_of, flag, sequence_node, are_wanted, choice_node, single_node, is_wanted, change_node, binding_node, are_pairs, bound_in, cell_form, of_family, special, applied, list_core, core_of, bound_name, named_all, named_bindings, put_together, made, resolved, named}
use Rattle.txs_theorem_language.specs.Levels.{IfGives}
use Rattle.txs_theorem_language.proofs.Limits.{LevelsStand, gives_bind, gives_on, gives_narrow, MeaningStands, meaning_stands}

some_most : (n a : ℕ) → a ≤ n → suc a ≤ suc n
some_most n a h = omega (arith, h)

leaf_most : (n : ℕ) → 1 ≤ suc n
leaf_most n = omega arith

three_most : (n a b c : ℕ) → a ≤ n → b ≤ n → c ≤ n → suc (max a (max b c)) ≤ suc n
three_most n a b c h k l = some_most n (max a (max b c)) (max-le h (max-le k l))

two_most : (n a b : ℕ) → a ≤ n → b ≤ n → suc (max a b) ≤ suc n
two_most n a b h k = some_most n (max a b) (max-le h k)

none_most : (n : ℕ) → 0 ≤ n
none_most n = omega arith

module _ (ls : List ℕ) where
  abbrev Most : ℕ → Tree → Type 0
  Most n t = depths ls t ≤ n

  abbrev MostRow : ℕ → Trees → Type 0
  MostRow n ts = depths_in ls ts ≤ n

  abbrev MostBound : ℕ → Bound → Type 0
  MostBound n b = (depths_in ls b.values ≤ n) × LevelsStand ls b.scope.defined

  abbrev MostCallee : ℕ → Callee → Type 0
  MostCallee n c = callee_depth ls c ≤ n

  -- a call of a function has room for its levels
  abbrev MostSpecial : ℕ → Special → Type 0
  MostSpecial n (row (sequence.Call f) fs) = at_place ls f ≤ n
  MostSpecial n s = Unit {0}

  abbrev MostCore : ℕ → ACore → Type 0
  MostCore n (whole x) = Unit {0}
  MostCore n (parted s) = MostSpecial n s

  -- ---- one form, whose parts may have so many levels

  module _ (n : ℕ) (by : Resolver) (fits : (scope : Scope) → LevelsStand ls scope.defined → (wanted : Bool) (form : Form) → IfGives (Most n) (by scope wanted form)) where
    row_fits : (scope : Scope) → LevelsStand ls scope.defined → (inner last : Bool) (fs : Forms) → IfGives (MostRow n) (named_all by scope inner last fs)
    row_fits scope st inner last no_forms = none_most n
    row_fits scope st inner last (first f rest) =
        gives_on (Most n) (MostRow n) (by scope (flag inner last rest) f) (λ node. named_all by scope inner last rest >>= λ nodes. Ok (more node nodes)) (fits scope st (flag inner last rest) f)
        (λ node h. gives_on (MostRow n) (MostRow n) (named_all by scope inner last rest) (λ nodes. Ok (more node nodes)) (row_fits scope st inner last rest) (λ nodes k. max-le h k))

    bindings_fit : (scope : Scope) → LevelsStand ls scope.defined → (fs : Forms) → IfGives (MostBound n) (named_bindings by scope fs)
    bindings_fit scope st no_forms = (none_most n, st)
    bindings_fit scope st (first x no_forms) = tt
    bindings_fit scope st (first x (first e rest)) =
        gives_on (Most n) (MostBound n) (by scope true e) (λ value. bound_name scope x >>= λ name. named_bindings by (with_local name scope) rest >>= λ bound. Ok (record { values = more value bound.values; scope = bound.scope })) (fits scope st true e)
        (λ value h. gives_bind (MostBound n) (bound_name scope x) (λ name. named_bindings by (with_local name scope) rest >>= λ bound. Ok (record { values = more value bound.values; scope = bound.scope }))
        (λ name. gives_on (MostBound n) (MostBound n) (named_bindings by (with_local name scope) rest) (λ bound. Ok (record { values = more value bound.values; scope = bound.scope })) (bindings_fit (with_local name scope) st rest)
        (λ bound k. (max-le h k.0, k.1))))

    module _ (at : Span) (wanted : Bool) where
      abbrev here : Spot
      here = spot_at (suc n) at wanted

      abbrev mark : Mark
      mark = spot_mark here

      callee_at_fits : (m : Meaning) → MeaningStands ls m → (there : Span) → IfGives (MostCallee n) (callee_at m here there)
      callee_at_fits (a_form f) st there = tt
      callee_at_fits dotted st there = tt
      callee_at_fits (a_local i) st there = tt
      callee_at_fits the_current st there = tt
      callee_at_fits (defined_as (Constant v)) st there = tt
      callee_at_fits (defined_as (ACell k)) st there = tt
      callee_at_fits (defined_as (AFunction f levels)) st there = by_room (nat_lt levels (suc n)) refl
        where
          below : nat_lt levels (suc n) ≡ true → at_place ls f ≤ n
          below is =
              let lt : levels < suc n = grind (arith, nat_tests, is) in
              let e : at_place ls f ≡ levels = st in
              omega (arith, lt, e)

          by_room : (z : Bool) → nat_lt levels (suc n) ≡ z → IfGives (MostCallee n) (if z then Ok (TheFunction f) else refuse TooMany at)
          by_room true is = below is
          by_room false is = tt
      callee_at_fits (operation op) st there = none_most n
      callee_at_fits unknown st there = tt

      callee_fits : (scope : Scope) → LevelsStand ls scope.defined → (f : Form) → IfGives (MostCallee n) (callee_of scope here f)
      callee_fits scope st (leaf (symbol name) there) = callee_at_fits (meaning name scope) (meaning_stands ls name scope st) there
      callee_fits scope st f = tt

      row_most : (k : Sequence) (fs : Forms) (ts : Trees) → MostSpecial n (row k fs) → MostRow n ts → Most (suc n) (sequence_node k ts mark)
      row_most sequence.Do fs ts call h = some_most n (depths_in ls ts) h
      row_most sequence.Recur fs ts call h = some_most n (depths_in ls ts) h
      row_most sequence.Println fs ts call h = some_most n (depths_in ls ts) h
      row_most sequence.Vector fs ts call h = some_most n (depths_in ls ts) h
      row_most (sequence.Core op) fs ts call h = some_most n (depths_in ls ts) h
      row_most (sequence.Call f) fs ts call h = two_most n (at_place ls f) (depths_in ls ts) call h

      one_most : (k : Single) (t : Tree) → Most n t → Most (suc n) (single_node k t mark)
      one_most single.Dosync t h = some_most n (depths ls t) h
      one_most (single.Look form) t h = some_most n (depths ls t) h

      choice_most : (t : Bool) (c x y : Tree) → Most n c → Most n x → Most n y → Most (suc n) (choice_node t c x y mark)
      choice_most false c x y h k l = three_most n (depths ls c) (depths ls x) (depths ls y) h k l
      choice_most true c x y h k l = three_most n (depths ls c) (depths ls y) (depths ls x) h l k

      binding_most : (l : Bool) (vs : Trees) (t : Tree) → MostRow n vs → Most n t → Most (suc n) (binding_node l vs t mark)
      binding_most false vs t h k = two_most n (depths_in ls vs) (depths ls t) h k
      binding_most true vs t h k = two_most n (depths_in ls vs) (depths ls t) h k

      change_most : (k : Change) (r : Tree) (c : Callee) (ts : Trees) → MostCallee n c → Most n r → MostRow n ts → Most (suc n) (change_node k r c ts mark)
      change_most (change_by.Update form) r c ts h k l = three_most n (callee_depth ls c) (depths ls r) (depths_in ls ts) h k l
      change_most change_by.Send r c ts h k l = three_most n (callee_depth ls c) (depths ls r) (depths_in ls ts) h k l

      put_fits : (scope : Scope) → LevelsStand ls scope.defined → (sp : Special) → MostSpecial n sp → IfGives (Most (suc n)) (put_together by scope here sp)
      put_fits scope st (row k fs) call =
          let inner = are_wanted k in
          let last = are_wanted k || wanted in
          gives_on (MostRow n) (Most (suc n)) (narrow (parts fs) here (named_all by scope inner last fs)) (λ nodes. Ok (sequence_node k nodes mark))
          (gives_narrow (MostRow n) (parts fs) here (named_all by scope inner last fs) (row_fits scope st inner last fs)) (λ nodes h. row_most k fs nodes call h)
      put_fits scope st (one_part k f) call =
          gives_on (Most n) (Most (suc n)) (by scope (is_wanted k || wanted) f) (λ node. Ok (single_node k node mark)) (fits scope st (is_wanted k || wanted) f) (λ node h. one_most k node h)
      put_fits scope st (putting form r e) call =
          gives_on (Most n) (Most (suc n)) (by scope true r) (λ cell. by scope true e >>= λ value. Ok (Put form cell value mark)) (fits scope st true r)
          (λ cell h. gives_on (Most n) (Most (suc n)) (by scope true e) (λ value. Ok (Put form cell value mark)) (fits scope st true e) (λ value k. two_most n (depths ls cell) (depths ls value) h k))
      put_fits scope st (choice turn c x y) call =
          gives_on (Most n) (Most (suc n)) (by scope true c) (λ test. by scope wanted x >>= λ one. by scope wanted y >>= λ other. Ok (choice_node turn test one other mark)) (fits scope st true c)
          (λ test h. gives_on (Most n) (Most (suc n)) (by scope wanted x) (λ one. by scope wanted y >>= λ other. Ok (choice_node turn test one other mark)) (fits scope st wanted x)
          (λ one k. gives_on (Most n) (Most (suc n)) (by scope wanted y) (λ other. Ok (choice_node turn test one other mark)) (fits scope st wanted y) (λ other l. choice_most turn test one other h k l)))
      put_fits scope st (binding l pairs fs) call =
          gives_on (MostBound n) (Most (suc n)) (named_bindings by scope pairs) (λ bound. by bound.scope wanted fs >>= λ node. Ok (binding_node l bound.values node mark)) (bindings_fit scope st pairs)
          (λ bound h. gives_on (Most n) (Most (suc n)) (by bound.scope wanted fs) (λ node. Ok (binding_node l bound.values node mark)) (fits bound.scope h.1 wanted fs) (λ node k. binding_most l bound.values node h.0 k))
      put_fits scope st (changing k r f args) call =
          gives_on (Most n) (Most (suc n)) (by scope true r) (λ cell. callee_of scope here f >>= λ callee. narrow (suc (parts args)) here (named_all by scope true true args) >>= λ nodes. Ok (change_node k cell callee nodes mark)) (fits scope st true r)
          (λ cell h. gives_on (MostCallee n) (Most (suc n)) (callee_of scope here f) (λ callee. narrow (suc (parts args)) here (named_all by scope true true args) >>= λ nodes. Ok (change_node k cell callee nodes mark)) (callee_fits scope st f)
          (λ callee c. gives_on (MostRow n) (Most (suc n)) (narrow (suc (parts args)) here (named_all by scope true true args)) (λ nodes. Ok (change_node k cell callee nodes mark))
          (gives_narrow (MostRow n) (suc (parts args)) here (named_all by scope true true args) (row_fits scope st true true args)) (λ nodes l. change_most k cell callee nodes c h l)))

      symbol_fits : (m : Meaning) → IfGives (Most (suc n)) (symbol_node m here)
      symbol_fits (a_form f) = tt
      symbol_fits dotted = tt
      symbol_fits (a_local i) = leaf_most n
      symbol_fits the_current = tt
      symbol_fits (defined_as (Constant v)) = leaf_most n
      symbol_fits (defined_as (ACell c)) = leaf_most n
      symbol_fits (defined_as (AFunction f l)) = tt
      symbol_fits (operation op) = tt
      symbol_fits unknown = tt

      leaf_fits : (scope : Scope) (x : Leaf) → IfGives (Most (suc n)) (leaf_node scope x here)
      leaf_fits scope (symbol name) = symbol_fits (meaning name scope)
      leaf_fits scope nil = leaf_most n
      leaf_fits scope (truth x) = leaf_most n
      leaf_fits scope (number x) = leaf_most n
      leaf_fits scope (text x) = leaf_most n
      leaf_fits scope (keyword x) = leaf_most n

      family_fits : (o : Option CellForm) (there : Span) (args : Forms) → IfGives (MostCore n) (of_family o there args)
      family_fits (Some (on_cell.Look form)) there (first r no_forms) = tt
      family_fits (Some (on_cell.Put form)) there (first r (first e no_forms)) = tt
      family_fits (Some (on_cell.Update form)) there (first r (first f args)) = tt
      family_fits (Some on_cell.Send) there (first r (first f args)) = tt
      family_fits o there args = tt

      bound_fits : (l : Bool) (pairs forms : Forms) → IfGives (MostCore n) (bound_in l here pairs forms)
      bound_fits l pairs forms = split (are_pairs pairs)
        where
          split : (y : Bool) → IfGives (MostCore n) (if y then Ok (parted (binding l pairs (body forms at))) else refuse BadForm at)
          split true = tt
          split false = tt

      special_fits : (k : FormName) (args : Forms) → IfGives (MostCore n) (special k here args)
      special_fits kind.If (first c (first x no_forms)) = tt
      special_fits kind.If (first c (first x (first y no_forms))) = tt
      special_fits kind.IfNot (first c (first x no_forms)) = tt
      special_fits kind.IfNot (first c (first x (first y no_forms))) = tt
      special_fits kind.Do (first e rest) = tt
      special_fits kind.Let (first (group Square pairs there) forms) = bound_fits false pairs forms
      special_fits kind.Loop (first (group Square pairs there) forms) = bound_fits true pairs forms
      special_fits kind.Recur args = tt
      special_fits kind.Println args = tt
      special_fits kind.Dosync forms = tt
      special_fits k args = family_fits (cell_form k) at args

      applied_fits : (c : Callee) (head : Form) (args : Forms) (there : Span) → MostCallee n c → MostCore n (applied c head args there)
      applied_fits (CoreOp op) head args there h = tt
      applied_fits (TheFunction f) head args there h = h

      core_fits : (scope : Scope) → LevelsStand ls scope.defined → (form : Form) → IfGives (MostCore n) (core_of scope here form)
      core_fits scope st (leaf x there) = tt
      core_fits scope st (group Square fs there) = tt
      core_fits scope st (group Round no_forms there) = tt
      core_fits scope st (group Round (first head args) there) = split (form_at head)
        where
          split : (o : Option FormName) → IfGives (MostCore n) (list_core o scope here head args)
          split (Some k) = special_fits k args
          split None = gives_on (MostCallee n) (MostCore n) (callee_of scope here head) (λ callee. Ok (applied callee head args at)) (callee_fits scope st head) (λ callee h. applied_fits callee head args at h)

      made_fits : (scope : Scope) → LevelsStand ls scope.defined → (c : ACore) → MostCore n c → IfGives (Most (suc n)) (made by scope here c)
      made_fits scope st (whole x) h = leaf_fits scope x
      made_fits scope st (parted sp) h = put_fits scope st sp h

    resolved_fits : (scope : Scope) → LevelsStand ls scope.defined → (wanted : Bool) (form : Form) → IfGives (Most (suc n)) (resolved by (suc n) scope wanted form)
    resolved_fits scope st wanted form =
        gives_on (MostCore n) (Most (suc n)) (core_of scope (here (place form) wanted) (expand_once form)) (made by scope (here (place form) wanted)) (core_fits (place form) wanted scope st (expand_once form)) (made_fits (place form) wanted scope st)

  -- nothing has room for no level
  nothing_fits : (by : Resolver) (at : Span) (wanted : Bool) (scope : Scope) (c : ACore) → IfGives (Most 0) (made by scope (spot_at 0 at wanted) c)
  nothing_fits by at wanted scope (whole (symbol name)) = symbol_is (meaning name scope)
    where
      symbol_is : (m : Meaning) → IfGives (Most 0) (symbol_node m (spot_at 0 at wanted))
      symbol_is (a_form f) = tt
      symbol_is dotted = tt
      symbol_is (a_local i) = tt
      symbol_is the_current = tt
      symbol_is (defined_as (Constant v)) = tt
      symbol_is (defined_as (ACell c)) = tt
      symbol_is (defined_as (AFunction f l)) = tt
      symbol_is (operation op) = tt
      symbol_is unknown = tt
  nothing_fits by at wanted scope (whole x) = tt
  nothing_fits by at wanted scope (parted sp) = tt

  pub named_fits : (room : ℕ) (scope : Scope) → LevelsStand ls scope.defined → (wanted : Bool) (form : Form) → IfGives (Most room) (named room scope wanted form)
  unfolding named
  named_fits zero scope st wanted form =
      gives_bind (Most 0) (core_of scope (spot_at 0 (place (alone form)) wanted) (expand_once (alone form))) (made (λ _ _ e. refuse TooMany (place e)) scope (spot_at 0 (place (alone form)) wanted))
      (nothing_fits (λ _ _ e. refuse TooMany (place e)) (place (alone form)) wanted scope)
  named_fits (suc room) scope st wanted form = resolved_fits room (named room) (λ inner k w e. named_fits room inner k w e) scope st wanted (alone form)
