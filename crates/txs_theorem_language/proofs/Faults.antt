-- A refusal of names is that of a form that has the fault.
use Rattle.std.proofs.Common.{◌≡◌, ℕ, zero, suc, ◌+◌, ◌<◌, ◌≤◌, Bool, true, false, ◌&&◌, ◌||◌, nat_lt, List, [], length, Option, Some, None, Ok, Err, refl, sym, ap, subst, ◌∙◌, arith, if◌then◌else◌}
use Rattle.std.proofs.lemmas.Bool.{false≢true}
use Rattle.std.proofs.lemmas.Bool.Decides.{nat_tests}
use Rattle.txs_value_data.specs.Limits.{most_items, most_locals}
use Rattle.txs_value_data.specs.declared.fault.Span.{Span}
use Rattle.txs_value_data.specs.declared.op.Callee.{Callee}
use Rattle.txs_value_data.specs.declared.op.Callee.TheVariants.{Core as CoreOp, Function as TheFunction}
use Rattle.txs_reader.specs.declared.form.Bracket.TheVariants.{Round, Square}
use Rattle.txs_reader.specs.Tree.{PlainForm as Form, PlainForms as Forms, leaf, group, first, place, number, symbol, nil, truth, text, keyword, parts}
use Rattle.txs_reader.specs.Tree.{none as no_forms}
use Rattle.txs_tree_meaning.specs.Tree.{Tree, Put, more}
use Rattle.txs_resolve_expand.specs.declared.names.FormName.{FormName}
use Rattle.txs_resolve_expand.specs.declared.names.FormName.TheVariants as kind
use Rattle.txs_resolve_expand.specs.declared.scope.Definition.TheVariants.{Constant, Cell as ACell, Function as AFunction}
use Rattle.txs_resolve_expand.specs.Scope.{Scope, Meaning, a_form, dotted, a_local, the_current, defined_as, operation, unknown, may_bind, meaning, with_local}
use Rattle.txs_resolve_expand.specs.declared.error.ResolveError.{ResolveError}
use Rattle.txs_resolve_expand.specs.declared.error.ResolveErrorKind.TheVariants.{UnknownName, BadForm, TooMany}
use Rattle.txs_resolve_expand.specs.declared.shapes.Sequence.TheVariants as sequence
use Rattle.txs_resolve_expand.specs.declared.shapes.Spot.{Spot}
use Rattle.txs_resolve_expand.specs.Answers.{◌>>=◌, refuse}
use Rattle.txs_resolve_expand.specs.Expansions.{alone, body, expand_once, expansion, expansion_by, form_at, hidden, is_alone, is_even, list, or_same, three, two}
use Rattle.txs_resolve_expand.specs.Expressions.{Answer, Bound, Special, row, one_part, putting, choice, binding, changing, Core as ACore, whole, parted, Resolver, spot_at, spot_mark, some_room, narrow, symbol_node, callee_at, callee_of, flag, sequence_node, are_wanted, choice_node, single_node, is_wanted, change_node, binding_node, are_pairs, special, is_chain, all_but_last, last_of, operands, applied, list_core, core_of, bound_name, named_all, named_bindings, put_together, made, resolved, named}
use Rattle.txs_theorem_language.specs.Standing.{IsOne, one_now, one_later, IsValue, value_now, value_later, IsBehind, behind_none, behind_one, IsPart, in_row, in_one, in_filled, in_value, in_test, in_first, in_second, in_bound, in_body, in_cell, in_argument, is_whole, in_part}
use Rattle.txs_theorem_language.specs.Faults.{is_no_value, is_no_function, applies, IsCalled, at_head, behind_cell, IsBound, bound_now, bound_later, Binds, in_let, in_loop, is_row, Counts, of_vector, of_row, of_operation, of_function, of_change, HasFault, is_unknown, calls_unknown, is_no_value_here, calls_dotted, is_empty, has_other_shape, binds_reserved, calls_no_symbol, calls_no_function, calls_local, calls_itself, finds_no_level, calls_too_deep, binds_too_many, hides_too_many, is_too_wide, FaultInForm}

-- ---- answers

-- this holds of the refusal, if it is one
abbrev pub IfErr : {A : Type 0} → (ResolveError → Type 0) → Answer A → Type 0
IfErr P (Ok x) = Unit {0}
IfErr P (Err e) = P e

pub if_then : {A B : Type 0} (P : ResolveError → Type 0) (a : Answer A) (f : A → Answer B) → IfErr P a → ((x : A) → IfErr P (f x)) → IfErr P (a >>= f)
if_then P (Ok x) f h k = k x
if_then P (Err e) f h k = h

if_part : {B : Type 0} (P : ResolveError → Type 0) (a : Answer Tree) (f : Tree → Answer B) → ((e : ResolveError) → a ≡ Err e → P e) → ((x : Tree) → IfErr P (f x)) → IfErr P (a >>= f)
if_part P (Ok x) f h k = k x
if_part P (Err e) f h k = h e refl

-- ---- what is called

-- what is called isn't lawful here, or it has as many arguments as are counted
abbrev CalleeIs : ℕ → Scope → Form → Form → Answer Callee → Type 0
CalleeIs room scope f head (Err e) = HasFault room scope e.kind e.at f
CalleeIs room scope f head (Ok (CoreOp op)) = (args : Forms) (at : Span) → is_chain op (parts args) ≡ false → Counts scope (parts args) (group Round (first head args) at)
CalleeIs room scope f head (Ok (TheFunction n)) = (args : Forms) (at : Span) → Counts scope (parts args) (group Round (first head args) at)

callee_is : (room : ℕ) (scope : Scope) (wanted : Bool) (f head : Form) → IsCalled head f → CalleeIs room scope f head (callee_of scope (spot_at room (place f) wanted) head)
callee_is room scope wanted f (leaf nil there) c = calls_no_symbol (leaf nil there) f c refl
callee_is room scope wanted f (leaf (truth b) there) c = calls_no_symbol (leaf (truth b) there) f c refl
callee_is room scope wanted f (leaf (number z) there) c = calls_no_symbol (leaf (number z) there) f c refl
callee_is room scope wanted f (leaf (text t) there) c = calls_no_symbol (leaf (text t) there) f c refl
callee_is room scope wanted f (leaf (keyword k) there) c = calls_no_symbol (leaf (keyword k) there) f c refl
callee_is room scope wanted f (group b fs there) c = calls_no_symbol (group b fs there) f c refl
callee_is room scope wanted f (leaf (symbol name) there) c = by (meaning name scope) refl
  where
    by : (m : Meaning) → meaning name scope ≡ m → CalleeIs room scope f (leaf (symbol name) there) (callee_at m (spot_at room (place f) wanted) there)
    by (a_form g) is = calls_no_function name there f c (ap is_no_function is)
    by dotted is = calls_dotted name there f c is
    by (a_local i) is = calls_local name there i f c is
    by the_current is = calls_itself name there f c is
    by (defined_as (Constant v)) is = calls_no_function name there f c (ap is_no_function is)
    by (defined_as (ACell k)) is = calls_no_function name there f c (ap is_no_function is)
    by (defined_as (AFunction n levels)) is = deep (nat_lt levels room) refl
      where
        deep : (y : Bool) → nat_lt levels room ≡ y → CalleeIs room scope f (leaf (symbol name) there) (if y then Ok (TheFunction n) else refuse TooMany (place f))
        deep true lt = λ args at. of_function name there n levels args at is
        deep false ge = let le : room ≤ levels = grind (arith, nat_tests, ge) in calls_too_deep name there n levels f c is le
    by (operation op) is = λ args at isnt. of_operation name there op args at is isnt
    by unknown is = calls_unknown name there f c is

-- ---- what a form is, once it is expanded

-- the faults that putting together a special form may find itself are those of this form
abbrev Finds : ℕ → Scope → Form → Special → Type 0
Finds room scope f (row k fs) = most_items < parts fs → HasFault room scope TooMany (place f) f
Finds room scope f (one_part k p) = Unit {0}
Finds room scope f (putting k r e) = Unit {0}
Finds room scope f (choice turned c a b) = Unit {0}
Finds room scope f (binding is_loop pairs es) = (are_pairs pairs ≡ true) × ((name : List ℕ) (here : Span) (i : ℕ) → IsBound (leaf (symbol name) here) i pairs
    → (may_bind name ≡ false → HasFault room scope BadForm here f) × (most_locals ≤ length scope.locals + i → HasFault room scope TooMany here f))
Finds room scope f (changing k r g args) = IsCalled g f × (most_items < suc (parts args) → HasFault room scope TooMany (place f) f)

-- what this form is has only faults that are its own, or it is refused for one
abbrev CoreIs : ℕ → Scope → Form → Answer ACore → Type 0
CoreIs room scope f (Err e) = HasFault room scope e.kind e.at f
CoreIs room scope f (Ok (whole (symbol name))) = f ≡ leaf (symbol name) (place f)
CoreIs room scope f (Ok (whole x)) = Unit {0}
CoreIs room scope f (Ok (parted sp)) = Finds room scope f sp

-- it is no `(do e)`, `(and e)` or `(or e)`
abbrev NotAlone : Form → Type 0
NotAlone (group Round (first head (first e no_forms)) at) = is_alone (form_at head) ≡ false
NotAlone _ = Unit {0}

alone_is : (f : Form) → NotAlone (alone f)
alone_is (leaf x at) = tt
alone_is (group Square fs at) = tt
alone_is (group Round no_forms at) = tt
alone_is (group Round (first head no_forms) at) = tt
alone_is (group Round (first head (first e no_forms)) at) = by (is_alone (form_at head)) refl (alone_is e)
  where
    by : (y : Bool) → is_alone (form_at head) ≡ y → NotAlone (alone e) → NotAlone (if y then alone e else group Round (first head (first e no_forms)) at)
    by true is h = h
    by false is h = is
alone_is (group Round (first head (first e (first g rest))) at) = tt

not_alone : (head : Form) (name : FormName) → form_at head ≡ Some name → is_alone (form_at head) ≡ false → is_alone (Some name) ≡ true → ⊥
not_alone head name is isnt it = false≢true (sym isnt ∙ ap is_alone is ∙ it)

pub hidden_lawful : may_bind [] ≡ true
unfolding may_bind
hidden_lawful = refl

module _ (room : ℕ) (scope : Scope) (wanted : Bool) (at : Span) (head : Form) where
  abbrev s : Spot
  s = spot_at room at wanted

  -- a form by its name, expanded once
  abbrev pub by_name : FormName → Forms → Option Form → Answer ACore
  by_name name args (Some form) = core_of scope s form
  by_name name args None = special name s args

  abbrev Is : Forms → Answer ACore → Type 0
  Is args a = CoreIs room scope (group Round (first head args) at) a

  wide_row : (name : FormName) (args : Forms) → form_at head ≡ Some name → is_row name ≡ true → most_items < parts args → HasFault room scope TooMany at (group Round (first head args) at)
  wide_row name args is it lt = is_too_wide (parts args) (group Round (first head args) at) (of_row head name args at is it) lt

  change_is : (name : FormName) (cell g : Form) (args : Forms) → form_at head ≡ Some name → applies name ≡ true
      → IsCalled g (group Round (first head (first cell (first g args))) at) × (most_items < suc (parts args) → HasFault room scope TooMany at (group Round (first head (first cell (first g args))) at))
  change_is name cell g args is it =
      (behind_cell head cell name args at is it, λ lt. is_too_wide (suc (parts args)) (group Round (first head (first cell (first g args))) at) (of_change head cell g name args at is it) lt)

  binders_are : (f : Form) (pairs : Forms) → ((name : List ℕ) (here : Span) (i : ℕ) → IsBound (leaf (symbol name) here) i pairs → Binds (leaf (symbol name) here) i f)
      → (name : List ℕ) (here : Span) (i : ℕ) → IsBound (leaf (symbol name) here) i pairs
      → (may_bind name ≡ false → HasFault room scope BadForm here f) × (most_locals ≤ length scope.locals + i → HasFault room scope TooMany here f)
  binders_are f pairs binds name here i b = (λ isnt. binds_reserved name here i f (binds name here i b) isnt, λ le. binds_too_many name here i f (binds name here i b) le)

  let_is : (pairs es : Forms) (there : Span) → form_at head ≡ Some kind.Let → (y : Bool) → are_pairs pairs ≡ y
      → Is (first (group Square pairs there) es) (if y then Ok (parted (binding false pairs (body es at))) else refuse BadForm at)
  let_is pairs es there is true eq = (eq, binders_are (group Round (first head (first (group Square pairs there) es)) at) pairs (λ name here i b. in_let head pairs es there at is b))
  let_is pairs es there is false eq = has_other_shape head kind.Let (first (group Square pairs there) es) at is eq

  loop_is : (pairs es : Forms) (there : Span) → form_at head ≡ Some kind.Loop → (y : Bool) → are_pairs pairs ≡ y
      → Is (first (group Square pairs there) es) (if y then Ok (parted (binding true pairs (body es at))) else refuse BadForm at)
  loop_is pairs es there is true eq = (eq, binders_are (group Round (first head (first (group Square pairs there) es)) at) pairs (λ name here i b. in_loop head pairs es there at is b))
  loop_is pairs es there is false eq = has_other_shape head kind.Loop (first (group Square pairs there) es) at is eq

  hidden_is : (f e : Form) → (most_locals ≤ length scope.locals → HasFault room scope TooMany at f) → (name : List ℕ) (here : Span) (i : ℕ) → IsBound (leaf (symbol name) here) i (two (hidden at) e)
      → (may_bind name ≡ false → HasFault room scope BadForm here f) × (most_locals ≤ length scope.locals + i → HasFault room scope TooMany here f)
  hidden_is f e many _ _ _ (bound_later _ _ _ _ x) = elim x [ ]
  hidden_is f e many _ _ _ (bound_now value rest) = (λ isnt. absurd (false≢true (sym isnt ∙ hidden_lawful)), λ le. many (omega (arith, le)))

  cond_is : (c e : Form) (rest : Forms) → form_at head ≡ Some kind.Cond → (y : Bool) → is_even (parts rest) ≡ y
      → Is (first c (first e rest)) (by_name kind.Cond (first c (first e rest)) (if y then Some (list kind.If (three c e (list kind.Cond rest at)) at) else None))
  cond_is c e rest is true eq = tt
  cond_is c e rest is false eq = has_other_shape head kind.Cond (first c (first e rest)) at is eq

  named_is : (name : FormName) (args : Forms) → form_at head ≡ Some name → NotAlone (group Round (first head args) at) → Is args (by_name name args (expansion name args at))
  named_is kind.When no_forms is h = has_other_shape head kind.When no_forms at is refl
  named_is kind.When (first c es) is h = tt
  named_is kind.WhenNot no_forms is h = has_other_shape head kind.WhenNot no_forms at is refl
  named_is kind.WhenNot (first c es) is h = tt
  named_is kind.And no_forms is h = tt
  named_is kind.And (first e no_forms) is h = absurd (not_alone head kind.And is h refl)
  named_is kind.And (first e (first g rest)) is h = (refl, hidden_is (group Round (first head (first e (first g rest))) at) e (λ le. hides_too_many head e g kind.And rest at is refl le))
  named_is kind.Or no_forms is h = tt
  named_is kind.Or (first e no_forms) is h = absurd (not_alone head kind.Or is h refl)
  named_is kind.Or (first e (first g rest)) is h = (refl, hidden_is (group Round (first head (first e (first g rest))) at) e (λ le. hides_too_many head e g kind.Or rest at is refl le))
  named_is kind.Cond no_forms is h = tt
  named_is kind.Cond (first c no_forms) is h = has_other_shape head kind.Cond (first c no_forms) at is refl
  named_is kind.Cond (first c (first e rest)) is h = cond_is c e rest is (is_even (parts rest)) refl
  named_is kind.Do no_forms is h = tt
  named_is kind.Do (first e rest) is h = wide_row kind.Do (first e rest) is refl
  named_is kind.Recur args is h = wide_row kind.Recur args is refl
  named_is kind.Println args is h = wide_row kind.Println args is refl
  named_is kind.Dosync args is h = tt
  named_is kind.If no_forms is h = has_other_shape head kind.If no_forms at is refl
  named_is kind.If (first c no_forms) is h = has_other_shape head kind.If (first c no_forms) at is refl
  named_is kind.If (first c (first a no_forms)) is h = tt
  named_is kind.If (first c (first a (first b no_forms))) is h = tt
  named_is kind.If (first c (first a (first b (first x rest)))) is h = has_other_shape head kind.If (first c (first a (first b (first x rest)))) at is refl
  named_is kind.IfNot no_forms is h = has_other_shape head kind.IfNot no_forms at is refl
  named_is kind.IfNot (first c no_forms) is h = has_other_shape head kind.IfNot (first c no_forms) at is refl
  named_is kind.IfNot (first c (first a no_forms)) is h = tt
  named_is kind.IfNot (first c (first a (first b no_forms))) is h = tt
  named_is kind.IfNot (first c (first a (first b (first x rest)))) is h = has_other_shape head kind.IfNot (first c (first a (first b (first x rest)))) at is refl
  named_is kind.Let no_forms is h = has_other_shape head kind.Let no_forms at is refl
  named_is kind.Let (first (leaf x there) es) is h = has_other_shape head kind.Let (first (leaf x there) es) at is refl
  named_is kind.Let (first (group Round fs there) es) is h = has_other_shape head kind.Let (first (group Round fs there) es) at is refl
  named_is kind.Let (first (group Square pairs there) es) is h = let_is pairs es there is (are_pairs pairs) refl
  named_is kind.Loop no_forms is h = has_other_shape head kind.Loop no_forms at is refl
  named_is kind.Loop (first (leaf x there) es) is h = has_other_shape head kind.Loop (first (leaf x there) es) at is refl
  named_is kind.Loop (first (group Round fs there) es) is h = has_other_shape head kind.Loop (first (group Round fs there) es) at is refl
  named_is kind.Loop (first (group Square pairs there) es) is h = loop_is pairs es there is (are_pairs pairs) refl
  named_is kind.Deref no_forms is h = has_other_shape head kind.Deref no_forms at is refl
  named_is kind.Deref (first r no_forms) is h = tt
  named_is kind.Deref (first r (first x rest)) is h = has_other_shape head kind.Deref (first r (first x rest)) at is refl
  named_is kind.Ensure no_forms is h = has_other_shape head kind.Ensure no_forms at is refl
  named_is kind.Ensure (first r no_forms) is h = tt
  named_is kind.Ensure (first r (first x rest)) is h = has_other_shape head kind.Ensure (first r (first x rest)) at is refl
  named_is kind.RefSet no_forms is h = has_other_shape head kind.RefSet no_forms at is refl
  named_is kind.RefSet (first r no_forms) is h = has_other_shape head kind.RefSet (first r no_forms) at is refl
  named_is kind.RefSet (first r (first e no_forms)) is h = tt
  named_is kind.RefSet (first r (first e (first x rest))) is h = has_other_shape head kind.RefSet (first r (first e (first x rest))) at is refl
  named_is kind.Reset no_forms is h = has_other_shape head kind.Reset no_forms at is refl
  named_is kind.Reset (first r no_forms) is h = has_other_shape head kind.Reset (first r no_forms) at is refl
  named_is kind.Reset (first r (first e no_forms)) is h = tt
  named_is kind.Reset (first r (first e (first x rest))) is h = has_other_shape head kind.Reset (first r (first e (first x rest))) at is refl
  named_is kind.Alter no_forms is h = has_other_shape head kind.Alter no_forms at is refl
  named_is kind.Alter (first r no_forms) is h = has_other_shape head kind.Alter (first r no_forms) at is refl
  named_is kind.Alter (first r (first g args)) is h = change_is kind.Alter r g args is refl
  named_is kind.Commute no_forms is h = has_other_shape head kind.Commute no_forms at is refl
  named_is kind.Commute (first r no_forms) is h = has_other_shape head kind.Commute (first r no_forms) at is refl
  named_is kind.Commute (first r (first g args)) is h = change_is kind.Commute r g args is refl
  named_is kind.Swap no_forms is h = has_other_shape head kind.Swap no_forms at is refl
  named_is kind.Swap (first r no_forms) is h = has_other_shape head kind.Swap (first r no_forms) at is refl
  named_is kind.Swap (first r (first g args)) is h = change_is kind.Swap r g args is refl
  named_is kind.Send no_forms is h = has_other_shape head kind.Send no_forms at is refl
  named_is kind.Send (first r no_forms) is h = has_other_shape head kind.Send (first r no_forms) at is refl
  named_is kind.Send (first r (first g args)) is h = change_is kind.Send r g args is refl
  named_is kind.Ns args is h = has_other_shape head kind.Ns args at is refl
  named_is kind.Def args is h = has_other_shape head kind.Def args at is refl
  named_is kind.Defn args is h = has_other_shape head kind.Defn args at is refl
  named_is kind.Future args is h = has_other_shape head kind.Future args at is refl
  named_is kind.Ref args is h = has_other_shape head kind.Ref args at is refl
  named_is kind.Atom args is h = has_other_shape head kind.Atom args at is refl
  named_is kind.Agent args is h = has_other_shape head kind.Agent args at is refl

  -- a list with a form's name at its head
  pub core_named : (args : Forms) (name : FormName) → form_at head ≡ Some name → core_of scope s (expand_once (group Round (first head args) at)) ≡ by_name name args (expansion name args at)
  core_named args name is = ap (λ o. core_of scope s (or_same (expansion_by o args at) (group Round (first head args) at))) is ∙ same (expansion name args at)
    where
      same : (o : Option Form) → core_of scope s (or_same o (group Round (first head args) at)) ≡ by_name name args o
      same (Some form) = refl
      same None = ap (λ o. list_core o scope s head args) is

  list_is : (args : Forms) (name : FormName) → form_at head ≡ Some name → NotAlone (group Round (first head args) at) → Is args (core_of scope s (expand_once (group Round (first head args) at)))
  list_is args name is h = subst (Is args) (sym (core_named args name is)) (named_is name args is h)

  -- arguments that are no chain are counted
  applied_is : (args : Forms) (callee : Callee) → CalleeIs room scope (group Round (first head args) at) head (Ok callee) → Is args (Ok (applied callee head args at))
  applied_is args (TheFunction n) h = λ lt. is_too_wide (parts args) (group Round (first head args) at) (h args at) lt
  applied_is args (CoreOp op) h = by (is_chain op (parts args)) refl
    where
      by : (y : Bool) → is_chain op (parts args) ≡ y → Is args (Ok (parted (row (sequence.Core op) (operands op head args at))))
      by true eq = λ lt. absurd (omega (arith, lt, chain eq))
        where
          chain : is_chain op (parts args) ≡ true → parts (operands op head args at) ≡ 2
          chain it = ap (λ (y : Bool). parts (if y then first (group Round (first head (all_but_last args)) at) (first (last_of head args) no_forms) else args)) it
      by false eq = λ lt. is_too_wide (parts args) (group Round (first head args) at) (h args at eq) (omega (arith, lt, flat eq))
        where
          flat : is_chain op (parts args) ≡ false → parts (operands op head args at) ≡ parts args
          flat isnt = ap (λ (y : Bool). parts (if y then first (group Round (first head (all_but_last args)) at) (first (last_of head args) no_forms) else args)) isnt

-- a list that has no form's name at its head
pub core_called : (room : ℕ) (scope : Scope) (wanted : Bool) (at : Span) (head : Form) (args : Forms) → form_at head ≡ None
    → core_of scope (spot_at room at wanted) (expand_once (group Round (first head args) at))
    ≡ some_room room (refuse TooMany at) (callee_of scope (spot_at room at wanted) head >>= λ callee. Ok (applied callee head args at))
core_called room scope wanted at head args none =
    ap (λ o. core_of scope (spot_at room at wanted) (or_same (expansion_by o args at) (group Round (first head args) at))) none ∙ ap (λ o. list_core o scope (spot_at room at wanted) head args) none

called_is : (room : ℕ) (scope : Scope) (wanted : Bool) (at : Span) (head : Form) (args : Forms) → form_at head ≡ None
    → CoreIs room scope (group Round (first head args) at) (core_of scope (spot_at room at wanted) (expand_once (group Round (first head args) at)))
called_is room scope wanted at head args none =
    subst (CoreIs room scope f) (sym (core_called room scope wanted at head args none))
    (by_room room refl (callee_of scope (spot_at room at wanted) head) (callee_is room scope wanted f head (at_head args at none)))
  where
    f : Form
    f = group Round (first head args) at

    by_room : (n : ℕ) → room ≡ n → (x : Answer Callee) → CalleeIs room scope (group Round (first head args) at) head x
        → CoreIs room scope (group Round (first head args) at) (some_room n (refuse TooMany at) (x >>= λ callee. Ok (applied callee head args at)))
    by_room zero is x h = finds_no_level (group Round (first head args) at) is
    by_room (suc n) is (Ok callee) h = applied_is room scope wanted at head args callee h
    by_room (suc n) is (Err e) h = h

core_is : (room : ℕ) (scope : Scope) (wanted : Bool) (f : Form) → NotAlone f → CoreIs room scope f (core_of scope (spot_at room (place f) wanted) (expand_once f))
core_is room scope wanted (leaf nil at) h = tt
core_is room scope wanted (leaf (truth b) at) h = tt
core_is room scope wanted (leaf (number z) at) h = tt
core_is room scope wanted (leaf (text t) at) h = tt
core_is room scope wanted (leaf (keyword k) at) h = tt
core_is room scope wanted (leaf (symbol name) at) h = refl
core_is room scope wanted (group Square fs at) h = λ lt. is_too_wide (parts fs) (group Square fs at) (of_vector fs at) lt
core_is room scope wanted (group Round no_forms at) h = is_empty at
core_is room scope wanted (group Round (first head args) at) h = by (form_at head) refl
  where
    by : (o : Option FormName) → form_at head ≡ o → CoreIs room scope (group Round (first head args) at) (core_of scope (spot_at room at wanted) (expand_once (group Round (first head args) at)))
    by (Some name) is = list_is room scope wanted at head args name is h
    by None is = called_is room scope wanted at head args is

-- ---- which special form it is, has nothing to do with whether its result is wanted

special_either : (room : ℕ) (at : Span) (wanted other : Bool) (f : FormName) (args : Forms) → special f (spot_at room at wanted) args ≡ special f (spot_at room at other) args
special_either room at wanted other kind.If (first c (first x no_forms)) = refl
special_either room at wanted other kind.If (first c (first x (first y no_forms))) = refl
special_either room at wanted other kind.IfNot (first c (first x no_forms)) = refl
special_either room at wanted other kind.IfNot (first c (first x (first y no_forms))) = refl
special_either room at wanted other kind.Do (first e rest) = refl
special_either room at wanted other kind.Let (first (group Square pairs there) forms) = refl
special_either room at wanted other kind.Loop (first (group Square pairs there) forms) = refl
special_either room at wanted other kind.Recur args = refl
special_either room at wanted other kind.Println args = refl
special_either room at wanted other kind.Dosync forms = refl
special_either room at wanted other name args = refl

callee_at_either : (room : ℕ) (at : Span) (wanted other : Bool) (m : Meaning) (there : Span) → callee_at m (spot_at room at wanted) there ≡ callee_at m (spot_at room at other) there
callee_at_either room at wanted other (a_form f) there = refl
callee_at_either room at wanted other dotted there = refl
callee_at_either room at wanted other (a_local i) there = refl
callee_at_either room at wanted other the_current there = refl
callee_at_either room at wanted other (defined_as (Constant v)) there = refl
callee_at_either room at wanted other (defined_as (ACell c)) there = refl
callee_at_either room at wanted other (defined_as (AFunction n levels)) there = refl
callee_at_either room at wanted other (operation op) there = refl
callee_at_either room at wanted other unknown there = refl

callee_either : (scope : Scope) (room : ℕ) (at : Span) (wanted other : Bool) (f : Form) → callee_of scope (spot_at room at wanted) f ≡ callee_of scope (spot_at room at other) f
callee_either scope room at wanted other (leaf nil there) = refl
callee_either scope room at wanted other (leaf (truth x) there) = refl
callee_either scope room at wanted other (leaf (number x) there) = refl
callee_either scope room at wanted other (leaf (text x) there) = refl
callee_either scope room at wanted other (leaf (keyword x) there) = refl
callee_either scope room at wanted other (leaf (symbol name) there) = callee_at_either room at wanted other (meaning name scope) there
callee_either scope room at wanted other (group b fs there) = refl

list_either : (scope : Scope) (room : ℕ) (at : Span) (wanted other : Bool) (o : Option FormName) (head : Form) (args : Forms) → list_core o scope (spot_at room at wanted) head args ≡ list_core o scope (spot_at room at other) head args
list_either scope room at wanted other (Some f) head args = special_either room at wanted other f args
list_either scope room at wanted other None head args = ap (λ (x : Answer Callee). some_room room (refuse TooMany at) (x >>= λ callee. Ok (applied callee head args at))) (callee_either scope room at wanted other head)

pub core_either : (scope : Scope) (room : ℕ) (at : Span) (wanted other : Bool) (f : Form) → core_of scope (spot_at room at wanted) f ≡ core_of scope (spot_at room at other) f
core_either scope room at wanted other (leaf x there) = refl
core_either scope room at wanted other (group Square fs there) = refl
core_either scope room at wanted other (group Round no_forms there) = refl
core_either scope room at wanted other (group Round (first head args) there) = list_either scope room at wanted other (form_at head) head args

-- ---- the tree of a form, by those of its parts

-- why a form is refused: it has the fault itself, or one of its parts is refused so
data Why (by : Resolver) (room : ℕ) (scope : Scope) (wanted : Bool) (f : Form) (e : ResolveError) : Type 0 where
  own : HasFault room scope e.kind e.at f → Why by room scope wanted f e
  of_part : (n : ℕ) (special : Special) (inner : Scope) (p : Form) (w : Bool) → room ≡ suc n → core_of scope (spot_at room (place f) wanted) (expand_once f) ≡ Ok (parted special)
      → IsPart p inner scope special → by inner w p ≡ Err e → Why by room scope wanted f e

row_why : (by : Resolver) (P : ResolveError → Type 0) (scope : Scope) (fs : Forms) → ((p : Form) (w : Bool) (e : ResolveError) → IsOne p fs → by scope w p ≡ Err e → P e)
    → (inner last : Bool) → IfErr P (named_all by scope inner last fs)
row_why by P scope no_forms why inner last = tt
row_why by P scope (first f rest) why inner last =
    if_part P (by scope (flag inner last rest) f) (λ node. named_all by scope inner last rest >>= λ nodes. Ok (more node nodes)) (λ e is. why f (flag inner last rest) e (one_now rest) is)
    (λ node. if_then P (named_all by scope inner last rest) (λ nodes. Ok (more node nodes)) (row_why by P scope rest (λ p w e one is. why p w e (one_later f rest one) is) inner last) (λ nodes. tt))

narrow_why : {A : Type 0} (P : ResolveError → Type 0) (n : ℕ) (s : Spot) (a : Answer A) → (most_items < n → P (record { kind = TooMany; at = s.span })) → IfErr P a → IfErr P (narrow n s a)
narrow_why {A} P n s a wide h = by (nat_lt 65535 n) refl
  where
    by : (y : Bool) → nat_lt 65535 n ≡ y → IfErr P (if y then refuse TooMany s.span else a)
    by true is = let lt : 65535 < n = grind (arith, nat_tests, is) in wide lt
    by false is = h

-- the scope behind bindings, or why they are refused
abbrev BoundWhy : (ResolveError → Type 0) → Scope → Forms → Answer Bound → Type 0
BoundWhy P scope pairs (Ok b) = IsBehind b.scope scope pairs
BoundWhy P scope pairs (Err e) = P e

pub and_left : (a b : Bool) → (a && b) ≡ true → a ≡ true
and_left true b h = refl
and_left false b h = h

pub and_right : (a b : Bool) → (a && b) ≡ true → b ≡ true
and_right true b h = h
and_right false b h = absurd (false≢true h)

abbrev Binders : (ResolveError → Type 0) → Scope → Forms → Type 0
Binders P scope pairs = (name : List ℕ) (here : Span) (i : ℕ) → IsBound (leaf (symbol name) here) i pairs
    → (may_bind name ≡ false → P (record { kind = BadForm; at = here })) × (most_locals ≤ length scope.locals + i → P (record { kind = TooMany; at = here }))

abbrev Values : Resolver → (ResolveError → Type 0) → Scope → Forms → Type 0
Values by P scope pairs = (p : Form) (inner : Scope) (w : Bool) (e : ResolveError) → IsValue p inner scope pairs → by inner w p ≡ Err e → P e

bound_why : (by : Resolver) (P : ResolveError → Type 0) (scope : Scope) (pairs : Forms) → are_pairs pairs ≡ true → Values by P scope pairs → Binders P scope pairs → BoundWhy P scope pairs (named_bindings by scope pairs)
bound_why by P scope no_forms h values binders = behind_none
bound_why by P scope (first n no_forms) h values binders = absurd (false≢true h)
bound_why by P scope (first (leaf nil here) (first e rest)) h values binders = absurd (false≢true h)
bound_why by P scope (first (leaf (truth b) here) (first e rest)) h values binders = absurd (false≢true h)
bound_why by P scope (first (leaf (number z) here) (first e rest)) h values binders = absurd (false≢true h)
bound_why by P scope (first (leaf (text t) here) (first e rest)) h values binders = absurd (false≢true h)
bound_why by P scope (first (leaf (keyword k) here) (first e rest)) h values binders = absurd (false≢true h)
bound_why by P scope (first (group b fs here) (first e rest)) h values binders = absurd (false≢true h)
bound_why by P scope (first (leaf (symbol name) here) (first e rest)) h values binders =
    value
    (λ is. bound_why by P (with_local name scope) rest h (λ p inner w d v k. values p inner w d (value_later scope (leaf (symbol name) here) e rest name is v) k)
    (λ other there i b. let both = binders other there (suc i) (bound_later i (leaf (symbol name) here) e rest b) in (both.0, λ le. both.1 (omega (arith, le)))))
    (by scope true e) refl
  where
    joined : (t : Tree) → bound_name scope (leaf (symbol name) here) ≡ Ok name → (a : Answer Bound) → BoundWhy P (with_local name scope) rest a
        → BoundWhy P scope (first (leaf (symbol name) here) (first e rest)) (a >>= λ bound. Ok (record { values = more t bound.values; scope = bound.scope }))
    joined t is (Ok b) k = behind_one scope (leaf (symbol name) here) e rest name is k
    joined t is (Err d) k = k

    binder : (bound_name scope (leaf (symbol name) here) ≡ Ok name → BoundWhy P (with_local name scope) rest (named_bindings by (with_local name scope) rest)) → (t : Tree) (y : Bool) → may_bind name ≡ y → (z : Bool) → nat_lt (length scope.locals) 200 ≡ z
        → BoundWhy P scope (first (leaf (symbol name) here) (first e rest))
        ((if y then (if z then Ok name else refuse TooMany here) else refuse BadForm here) >>= λ n. named_bindings by (with_local n scope) rest >>= λ bound. Ok (record { values = more t bound.values; scope = bound.scope }))
    binder again t false isnt z lt = (binders name here 0 (bound_now e rest)).0 isnt
    binder again t true it false lt = let le : 200 ≤ length scope.locals = grind (arith, nat_tests, lt) in (binders name here 0 (bound_now e rest)).1 (omega (arith, le))
    binder again t true it true lt =
        let is : bound_name scope (leaf (symbol name) here) ≡ Ok name = ap (λ (y : Bool). if y then (if nat_lt (length scope.locals) 200 then Ok name else refuse TooMany here) else refuse BadForm here) it ∙ ap (λ (z : Bool). if z then Ok name else refuse TooMany here) lt in
        joined t is (named_bindings by (with_local name scope) rest) (again is)

    value : (bound_name scope (leaf (symbol name) here) ≡ Ok name → BoundWhy P (with_local name scope) rest (named_bindings by (with_local name scope) rest)) → (a : Answer Tree) → by scope true e ≡ a
        → BoundWhy P scope (first (leaf (symbol name) here) (first e rest))
        (a >>= λ t. bound_name scope (leaf (symbol name) here) >>= λ n. named_bindings by (with_local n scope) rest >>= λ bound. Ok (record { values = more t bound.values; scope = bound.scope }))
    value again (Err d) is = values e scope true d (value_now (leaf (symbol name) here) rest) is
    value again (Ok t) is = binder again t (may_bind name) refl (nat_lt (length scope.locals) 200) refl

module _ (by : Resolver) (n : ℕ) (scope : Scope) (wanted : Bool) (f : Form) where
  abbrev P : ResolveError → Type 0
  P = Why by (suc n) scope wanted f

  abbrev here : Spot
  here = spot_at (suc n) (place f) wanted

  put_why : (sp : Special) → core_of scope here (expand_once f) ≡ Ok (parted sp) → Finds (suc n) scope f sp → IfErr P (put_together by scope here sp)
  put_why (row k fs) is finds =
      if_then P (narrow (parts fs) here (named_all by scope (are_wanted k) (are_wanted k || wanted) fs)) (λ nodes. Ok (sequence_node k nodes (spot_mark here)))
      (narrow_why P (parts fs) here (named_all by scope (are_wanted k) (are_wanted k || wanted) fs) (λ lt. own (finds lt))
      (row_why by P scope fs (λ p w e one isnt. of_part n (row k fs) scope p w refl is (in_row k fs one) isnt) (are_wanted k) (are_wanted k || wanted))) (λ nodes. tt)
  put_why (one_part k p) is finds =
      if_part P (by scope (is_wanted k || wanted) p) (λ node. Ok (single_node k node (spot_mark here))) (λ e isnt. of_part n (one_part k p) scope p (is_wanted k || wanted) refl is (in_one k) isnt) (λ node. tt)
  put_why (putting k r e) is finds =
      if_part P (by scope true r) (λ cell. by scope true e >>= λ value. Ok (Put k cell value (spot_mark here))) (λ d isnt. of_part n (putting k r e) scope r true refl is (in_filled k e) isnt)
      (λ cell. if_part P (by scope true e) (λ value. Ok (Put k cell value (spot_mark here))) (λ d isnt. of_part n (putting k r e) scope e true refl is (in_value k r) isnt) (λ value. tt))
  put_why (choice turn c a b) is finds =
      if_part P (by scope true c) (λ test. by scope wanted a >>= λ one. by scope wanted b >>= λ other. Ok (choice_node turn test one other (spot_mark here)))
      (λ d isnt. of_part n (choice turn c a b) scope c true refl is (in_test turn a b) isnt)
      (λ test. if_part P (by scope wanted a) (λ one. by scope wanted b >>= λ other. Ok (choice_node turn test one other (spot_mark here)))
      (λ d isnt. of_part n (choice turn c a b) scope a wanted refl is (in_first turn c b) isnt)
      (λ one. if_part P (by scope wanted b) (λ other. Ok (choice_node turn test one other (spot_mark here)))
      (λ d isnt. of_part n (choice turn c a b) scope b wanted refl is (in_second turn c a) isnt) (λ other. tt)))
  put_why (binding is_loop pairs es) is finds =
      bound (named_bindings by scope pairs)
      (bound_why by P scope pairs finds.0 (λ p inner w e v isnt. of_part n (binding is_loop pairs es) inner p w refl is (in_bound scope is_loop pairs es v) isnt)
      (λ name at i b. let both = finds.1 name at i b in (λ isnt. own (both.0 isnt), λ le. own (both.1 le))))
    where
      bound : (a : Answer Bound) → BoundWhy P scope pairs a → IfErr P (a >>= λ b. by b.scope wanted es >>= λ node. Ok (binding_node is_loop b.values node (spot_mark here)))
      bound (Err e) k = k
      bound (Ok b) k = if_part P (by b.scope wanted es) (λ node. Ok (binding_node is_loop b.values node (spot_mark here))) (λ e isnt. of_part n (binding is_loop pairs es) b.scope es wanted refl is (in_body scope is_loop pairs k) isnt) (λ node. tt)
  put_why (changing k r g args) is finds =
      if_part P (by scope true r) (λ cell. callee_of scope here g >>= λ callee. narrow (suc (parts args)) here (named_all by scope true true args) >>= λ nodes. Ok (change_node k cell callee nodes (spot_mark here)))
      (λ d isnt. of_part n (changing k r g args) scope r true refl is (in_cell k g args) isnt)
      (λ cell. if_then P (callee_of scope here g) (λ callee. narrow (suc (parts args)) here (named_all by scope true true args) >>= λ nodes. Ok (change_node k cell callee nodes (spot_mark here)))
      (callee (callee_of scope here g) (callee_is (suc n) scope wanted f g finds.0))
      (λ c. if_then P (narrow (suc (parts args)) here (named_all by scope true true args)) (λ nodes. Ok (change_node k cell c nodes (spot_mark here)))
      (narrow_why P (suc (parts args)) here (named_all by scope true true args) (λ lt. own (finds.1 lt))
      (row_why by P scope args (λ p w e one isnt. of_part n (changing k r g args) scope p w refl is (in_argument k r g args one) isnt) true true)) (λ nodes. tt)))
    where
      callee : (a : Answer Callee) → CalleeIs (suc n) scope f g a → IfErr P a
      callee (Ok c) h = tt
      callee (Err e) h = own h

module _ (by : Resolver) (room : ℕ) (scope : Scope) (wanted : Bool) (f : Form) where
  abbrev Q : ResolveError → Type 0
  Q = Why by room scope wanted f

  abbrev there : Spot
  there = spot_at room (place f) wanted

  node_why : (n : ℕ) → room ≡ n → (t : Tree) → IfErr Q (some_room n (refuse TooMany (place f)) (Ok t))
  node_why zero is t = own (finds_no_level f is)
  node_why (suc n) is t = tt

  symbol_why : (name : List ℕ) → f ≡ leaf (symbol name) (place f) → (m : Meaning) → meaning name scope ≡ m → IfErr Q (symbol_node m there)
  symbol_why name same (a_local i) is = node_why room refl _
  symbol_why name same (defined_as (Constant v)) is = node_why room refl _
  symbol_why name same (defined_as (ACell c)) is = node_why room refl _
  symbol_why name same unknown is = own (subst (HasFault room scope UnknownName (place f)) (sym same) (is_unknown name (place f) is))
  symbol_why name same (a_form g) is = own (subst (HasFault room scope BadForm (place f)) (sym same) (is_no_value_here name (place f) (ap is_no_value is)))
  symbol_why name same dotted is = own (subst (HasFault room scope BadForm (place f)) (sym same) (is_no_value_here name (place f) (ap is_no_value is)))
  symbol_why name same the_current is = own (subst (HasFault room scope BadForm (place f)) (sym same) (is_no_value_here name (place f) (ap is_no_value is)))
  symbol_why name same (defined_as (AFunction n levels)) is = own (subst (HasFault room scope BadForm (place f)) (sym same) (is_no_value_here name (place f) (ap is_no_value is)))
  symbol_why name same (operation op) is = own (subst (HasFault room scope BadForm (place f)) (sym same) (is_no_value_here name (place f) (ap is_no_value is)))

  made_why : (c : ACore) → core_of scope there (expand_once f) ≡ Ok c → CoreIs room scope f (Ok c) → IfErr Q (made by scope there c)
  made_why (whole nil) is h = node_why room refl _
  made_why (whole (truth b)) is h = node_why room refl _
  made_why (whole (number z)) is h = node_why room refl _
  made_why (whole (text t)) is h = node_why room refl _
  made_why (whole (keyword k)) is h = node_why room refl _
  made_why (whole (symbol name)) is h = symbol_why name h (meaning name scope) refl
  made_why (parted sp) is h = by_room room refl
    where
      by_room : (n : ℕ) → room ≡ n → IfErr Q (some_room n (refuse TooMany (place f)) (put_together by scope there sp))
      by_room zero eq = own (finds_no_level f eq)
      by_room (suc n) eq =
          subst (λ k. core_of scope (spot_at k (place f) wanted) (expand_once f) ≡ Ok (parted sp) → Finds k scope f sp → IfErr (Why by k scope wanted f) (put_together by scope (spot_at k (place f) wanted) sp)) (sym eq)
          (put_why by n scope wanted f sp) is h

  resolved_why : NotAlone f → IfErr Q (resolved by room scope wanted f)
  resolved_why lone = step (core_of scope there (expand_once f)) refl (core_is room scope wanted f lone)
    where
      step : (a : Answer ACore) → core_of scope there (expand_once f) ≡ a → CoreIs room scope f a → IfErr Q (a >>= made by scope there)
      step (Ok c) is h = made_why c is h
      step (Err e) is h = own h

-- ---- any form

abbrev IsZero : ℕ → Type 0
IsZero zero = Unit {0}
IsZero (suc n) = ⊥

pub fault_in_form : (k : ℕ) (outer : Scope) (wanted : Bool) (form : Form) (e : ResolveError) → named k outer wanted form ≡ Err e → FaultInForm k outer form e
unfolding named
fault_in_form zero outer wanted form e is = by (subst (IfErr (Why (λ _ _ x. refuse TooMany (place x)) 0 outer wanted (alone form))) is (resolved_why (λ _ _ x. refuse TooMany (place x)) 0 outer wanted (alone form) (alone_is form)))
  where
    by : Why (λ _ _ x. refuse TooMany (place x)) 0 outer wanted (alone form) e → FaultInForm 0 outer form e
    by (own h) = record { room = 0; scope = outer; part = form; stands = is_whole; fault = h }
    by (of_part n sp inner p w eq core part isnt) = absurd (subst IsZero eq tt)
fault_in_form (suc k) outer wanted form e is = by (fault_in_form k) (subst (IfErr (Why (named k) (suc k) outer wanted (alone form))) is (resolved_why (named k) (suc k) outer wanted (alone form) (alone_is form)))
  where
    by : ((inner : Scope) (w : Bool) (p : Form) (d : ResolveError) → named k inner w p ≡ Err d → FaultInForm k inner p d) → Why (named k) (suc k) outer wanted (alone form) e → FaultInForm (suc k) outer form e
    by again (own h) = record { room = suc k; scope = outer; part = form; stands = is_whole; fault = h }
    by again (of_part n sp inner p w eq core part isnt) =
        let r = again inner w p e isnt in
        record {
          room = r.room;
          scope = r.scope;
          part = r.part;
          stands = in_part k outer inner form p sp (λ other. core_either outer (suc k) (place (alone form)) other wanted (expand_once (alone form)) ∙ core) part r.stands;
          fault = r.fault;
        }
