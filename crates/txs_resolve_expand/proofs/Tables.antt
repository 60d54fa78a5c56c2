-- What a list is, by the name at its head and by how many parts it has.
use Rattle.std.proofs.Common.{◌≡◌, ◌≤◌, ◌<◌, ◌%◌, ◌&&◌, ℕ, zero, suc, Bool, true, false, List, [], ◌∷◌, ◌++◌, Option, Some, None, Ok, if◌then◌else◌, length, nat_lt, refl, sym, ap, subst, ◌∙◌, arith}
use Rattle.txs_value_data.specs.declared.fault.Span.{Span}
use Rattle.txs_value_cell.specs.declared.form.CellForm.{CellForm}
use Rattle.txs_value_cell.specs.declared.form.CellForm.TheVariants as on_cell
use Rattle.txs_value_cell.specs.declared.form.LookForm.{LookForm}
use Rattle.txs_value_cell.specs.declared.form.PutForm.{PutForm}
use Rattle.txs_value_data.specs.declared.op.Op.{Op}
use Rattle.txs_reader.specs.declared.form.Bracket.TheVariants.{Round}
use Rattle.txs_reader.specs.declared.form.Form.{Form}
use Rattle.txs_reader.specs.Tree.{PlainForm as FormTree, PlainForms as Forms, leaf, group, first, tree, symbol}
use Rattle.txs_reader.specs.Tree.{none as no_forms}
use Rattle.txs_resolve_expand.specs.declared.names.FormName.{FormName}
use Rattle.txs_resolve_expand.specs.declared.names.FormName.TheVariants as kind
use Rattle.txs_value_data.specs.Places.{with_name}
use Rattle.txs_resolve_expand.specs.Scope.{Scope, form_name, form_names}
use Rattle.txs_resolve_expand.specs.declared.error.ResolveErrorKind.TheVariants.{BadForm}
use Rattle.txs_resolve_expand.specs.declared.shapes.Sequence.TheVariants as sequence
use Rattle.txs_resolve_expand.specs.declared.shapes.Spot.{Spot}
use Rattle.txs_resolve_expand.specs.Answers.{refuse}
use Rattle.txs_resolve_expand.specs.Expansions.{body, expand_once, expansion, expansion_by, form_at, hidden, is_even, is_zero, list, or_same, three, two}
use Rattle.txs_resolve_expand.specs.Expressions.{Answer, Core, parted, row, choice, binding, all_but_last, core_of, folds, is_chain, last_of, list_core, of_family, operands, special}
use Rattle.txs_resolve_expand.specs.Parts.{choice_name, first_or_nil, guard_name, hidden_choice, logic_name, plain, table}
use Rattle.txs_resolve_expand.proofs.Rows.{parts_plain}

form_found : (f : FormName) → with_name form_name (form_name f) form_names ≡ Some f
form_found kind.Ns = refl
form_found kind.Def = refl
form_found kind.Defn = refl
form_found kind.Future = refl
form_found kind.If = refl
form_found kind.Do = refl
form_found kind.Let = refl
form_found kind.Loop = refl
form_found kind.Recur = refl
form_found kind.When = refl
form_found kind.WhenNot = refl
form_found kind.IfNot = refl
form_found kind.And = refl
form_found kind.Or = refl
form_found kind.Cond = refl
form_found kind.Println = refl
form_found kind.Dosync = refl
form_found kind.Deref = refl
form_found kind.RefSet = refl
form_found kind.Alter = refl
form_found kind.Commute = refl
form_found kind.Ensure = refl
form_found kind.Swap = refl
form_found kind.Reset = refl
form_found kind.Send = refl
form_found kind.Ref = refl
form_found kind.Atom = refl
form_found kind.Agent = refl

abbrev pub head_form : FormName → Span → FormTree
head_form f at = leaf (symbol (form_name f)) at

pub head_named : (f : FormName) (at : Span) → form_at (head_form f at) ≡ Some f
head_named f at = form_found f

module _ (scope : Scope) (s : Spot) where
  -- a form by its name, whatever its head looks like
  abbrev by_name : FormName → Forms → Option FormTree → Answer Core
  by_name name args (Some form) = core_of scope s form
  by_name name args None = special name s args

  by_head : (name : FormName) (head : FormTree) (args : Forms) (at : Span) → form_at head ≡ Some name
      → core_of scope s (expand_once (group Round (first head args) at)) ≡ by_name name args (expansion name args at)
  by_head name head args at is =
      ap (λ o. core_of scope s (or_same (expansion_by o args at) (group Round (first head args) at))) is ∙ same (expansion name args at) where
        same : (o : Option FormTree) → core_of scope s (or_same o (group Round (first head args) at)) ≡ by_name name args o
        same (Some form) = refl
        same None = ap (λ o. list_core o scope s head args) is

  pub list_table : (name : FormName) (head : FormTree) (args : Forms) → form_at head ≡ Some name → core_of scope s (expand_once (group Round (first head args) s.span)) ≡ table name scope s args
  list_table name head args is =
      by_head name head args s.span is ∙ sym (by_head name (leaf (symbol (form_name name)) s.span) args s.span (form_found name))

  pub list_empty : (fs : List Form) → length fs ≡ 0 → refuse BadForm s.span ≡ core_of scope s (expand_once (group Round (plain fs) s.span))
  list_empty [] none = refl
  list_empty (f ∷ fs) none = absurd (omega (arith, none))

  -- a list at whose head stands no form's name
  pub list_called : (head : FormTree) (args : Forms) → form_at head ≡ None → core_of scope s (expand_once (group Round (first head args) s.span)) ≡ list_core None scope s head args
  list_called head args none =
      ap (λ o. core_of scope s (or_same (expansion_by o args s.span) (group Round (first head args) s.span))) none
      ∙ ap (λ o. list_core o scope s head args) none

  pub block_some : (fs : List Form) → (length fs ≡ 0 → ⊥) → Ok (parted (row sequence.Do (plain fs))) ≡ table kind.Do scope s (plain fs)
  block_some [] some = absurd (some refl)
  block_some (f ∷ fs) some = refl

  pub guard_none : (turned : Bool) (fs : List Form) → length fs ≡ 0 → refuse BadForm s.span ≡ table (guard_name turned) scope s (plain fs)
  guard_none false [] none = refl
  guard_none true [] none = refl
  guard_none turned (f ∷ fs) none = absurd (omega (arith, none))

  pub cond_one : (t : Form) (fs : List Form) → length fs ≡ 0 → refuse BadForm s.span ≡ table kind.Cond scope s (plain (t ∷ fs))
  cond_one t [] none = refl
  cond_one t (f ∷ fs) none = absurd (omega (arith, none))

  pub choice_none : (turned : Bool) (fs : List Form) → length fs ≡ 0 → refuse BadForm s.span ≡ table (choice_name turned) scope s (plain fs)
  choice_none false [] none = refl
  choice_none true [] none = refl
  choice_none turned (f ∷ fs) none = absurd (omega (arith, none))

  pub choice_one : (turned : Bool) (t : Form) (fs : List Form) → length fs ≡ 0 → refuse BadForm s.span ≡ table (choice_name turned) scope s (plain (t ∷ fs))
  choice_one false t [] none = refl
  choice_one true t [] none = refl
  choice_one turned t (f ∷ fs) none = absurd (omega (arith, none))

  pub choice_many : (turned : Bool) (t o : Form) (fs : List Form) → 1 < length fs → refuse BadForm s.span ≡ table (choice_name turned) scope s (plain (t ∷ o ∷ fs))
  choice_many turned t o [] lt = absurd (omega (arith, lt))
  choice_many turned t o (f ∷ []) lt = absurd (omega (arith, lt))
  choice_many false t o (f ∷ g ∷ fs) lt = refl
  choice_many true t o (f ∷ g ∷ fs) lt = refl

  pub choice_few : (turned : Bool) (t o : Form) (fs : List Form) → length fs ≤ 1
      → Ok (parted (choice turned (tree t) (tree o) (first_or_nil (plain fs) s.span))) ≡ table (choice_name turned) scope s (plain (t ∷ o ∷ fs))
  choice_few false t o [] le = refl
  choice_few true t o [] le = refl
  choice_few false t o (f ∷ []) le = refl
  choice_few true t o (f ∷ []) le = refl
  choice_few turned t o (f ∷ g ∷ fs) le = absurd (omega (arith, le))

  uneven : (n : ℕ) → (n ≡ 0 → ⊥) → is_zero n ≡ false
  uneven zero h = absurd (h refl)
  uneven (suc n) h = refl

  -- a test and a branch, where the rest is twice a number or not
  abbrev cond_by : Form → Form → List Form → Bool → Answer Core
  cond_by t o fs even =
      core_of scope s (or_same (if even then Some (list kind.If (three (tree t) (tree o) (list kind.Cond (plain fs) s.span)) s.span) else None) (list kind.Cond (plain (t ∷ o ∷ fs)) s.span))

  pub cond_odd : (t o : Form) (fs : List Form) → (length fs % 2 ≡ 0 → ⊥) → refuse BadForm s.span ≡ table kind.Cond scope s (plain (t ∷ o ∷ fs))
  cond_odd t o fs odd = sym (ap (λ (n : ℕ). cond_by t o fs (is_even n)) (parts_plain fs) ∙ ap (cond_by t o fs) (uneven (length fs % 2) odd))

  pub cond_even : (t o : Form) (fs : List Form) → length fs % 2 ≡ 0
      → Ok (parted (choice false (tree t) (tree o) (list kind.Cond (plain fs) s.span))) ≡ table kind.Cond scope s (plain (t ∷ o ∷ fs))
  cond_even t o fs even = sym (ap (λ (n : ℕ). cond_by t o fs (is_even n)) (parts_plain fs) ∙ ap (λ (n : ℕ). cond_by t o fs (is_zero n)) even)

  pub logic_some : (is_or : Bool) (e : Form) (fs : List Form) → (length fs ≡ 0 → ⊥)
      → Ok (parted (binding false (two (hidden s.span) (tree e)) (body (first (hidden_choice is_or (plain fs) s.span) no_forms) s.span))) ≡ table (logic_name is_or) scope s (plain (e ∷ fs))
  logic_some is_or e [] some = absurd (some refl)
  logic_some false e (f ∷ fs) some = refl
  logic_some true e (f ∷ fs) some = refl

  pub logic_one : (is_or : Bool) (e : Form) (fs : List Form) → length fs ≡ 0 → refuse BadForm s.span ≡ table (logic_name is_or) scope s (plain (e ∷ fs))
  logic_one false e [] one = refl
  logic_one true e [] one = refl
  logic_one is_or e (f ∷ fs) one = absurd (omega (arith, one))

-- ---- forms on cells

-- a form on a cell has a cell
pub family_none : (form : Option CellForm) (at : Span) (fs : List Form) → length fs ≡ 0 → refuse BadForm at ≡ of_family form at (plain fs)
family_none None at [] none = refl
family_none (Some (on_cell.Look form)) at [] none = refl
family_none (Some (on_cell.Put form)) at [] none = refl
family_none (Some (on_cell.Update form)) at [] none = refl
family_none (Some on_cell.Send) at [] none = refl
family_none form at (f ∷ fs) none = absurd (omega (arith, none))

pub looks_far : (form : LookForm) (at : Span) (r : FormTree) (fs : List Form) → (length fs ≡ 0 → ⊥) → refuse BadForm at ≡ of_family (Some (on_cell.Look form)) at (first r (plain fs))
looks_far form at r [] some = absurd (some refl)
looks_far form at r (f ∷ fs) some = refl

pub puts_more : (form : PutForm) (at : Span) (r : FormTree) (e : Form) (fs : List Form) → (length fs ≡ 0 → ⊥) → refuse BadForm at ≡ of_family (Some (on_cell.Put form)) at (first r (plain (e ∷ fs)))
puts_more form at r e [] some = absurd (some refl)
puts_more form at r e (f ∷ fs) some = refl

-- ---- chains

-- all but the last of these, and the last
last_prefix : (d : FormTree) (f : Form) (fs : List Form) (e : Form) → all_but_last (plain (f ∷ fs ++ e ∷ [])) ≡ plain (f ∷ fs)
last_prefix d f [] e = refl
last_prefix d f (g ∷ fs) e = ap (first (tree f)) (last_prefix d g fs e)

last_last : (d : FormTree) (fs : List Form) (e : Form) → last_of d (plain (fs ++ e ∷ [])) ≡ tree e
last_last d [] e = refl
last_last d (f ∷ fs) e = last_last (tree f) fs e

abbrev tail_of : List Form → List Form
tail_of [] = []
tail_of (f ∷ fs) = fs

abbrev head_or : Form → List Form → Form
head_or d [] = d
head_or d (f ∷ fs) = f

abbrev Holds : Bool → Type 0
Holds true = Unit {0}
Holds false = ⊥

false_not_true : false ≡ true → ⊥
false_not_true e = subst Holds (sym e) tt

module _ (op : Op) (at : Span) where
  abbrev by_chain : FormTree → Forms → Bool → Forms
  by_chain head args b = if b then first (group Round (first head (all_but_last args)) at) (first (last_of head args) no_forms) else args

  pub operands_plain : (head : FormTree) (args : List Form) → is_chain op (length args) ≡ false → plain args ≡ operands op head (plain args) at
  operands_plain head args isnt = sym (ap (λ (n : ℕ). by_chain head (plain args) (is_chain op n)) (parts_plain args) ∙ ap (by_chain head (plain args)) isnt)

  both_parts : (head : Form) (args prefix : List Form) (e : Form) → head ∷ args ≡ prefix ++ e ∷ [] → 1 ≤ length args
      → first (group Round (first (tree head) (all_but_last (plain args))) at) (first (last_of (tree head) (plain args)) no_forms) ≡ two (group Round (plain prefix) at) (tree e)
  both_parts head args [] e is some = absurd (omega (arith, some, ap (λ (l : List Form). length l) is))
  both_parts head args (p ∷ []) e is some =
      let tails : args ≡ e ∷ [] = ap tail_of is in
      let heads : head ≡ p = ap (λ l. head_or p l) is in
      ap (λ (l : List Form). first (group Round (first (tree head) (all_but_last (plain l))) at) (first (last_of (tree head) (plain l)) no_forms)) tails
      ∙ ap (λ (h : Form). two (group Round (first (tree h) no_forms) at) (tree e)) heads
  both_parts head args (p ∷ q ∷ qs) e is some =
      let tails : args ≡ q ∷ qs ++ e ∷ [] = ap tail_of is in
      let heads : head ≡ p = ap (λ l. head_or p l) is in
      ap (λ (l : List Form). first (group Round (first (tree head) (all_but_last (plain l))) at) (first (last_of (tree head) (plain l)) no_forms)) tails
      ∙ ap (λ (l : Forms). two (group Round (first (tree head) l) at) (last_of (tree head) (plain (q ∷ qs ++ e ∷ [])))) (last_prefix (tree head) q qs e)
      ∙ ap (λ (l : FormTree). two (group Round (first (tree head) (plain (q ∷ qs))) at) l) (last_last (tree head) (q ∷ qs) e)
      ∙ ap (λ (h : Form). two (group Round (first (tree h) (plain (q ∷ qs))) at) (tree e)) heads

  chain_long : (n : ℕ) → is_chain op n ≡ true → 1 ≤ n
  chain_long n is = long (folds op) n is where
    long : (b : Bool) (n : ℕ) → (b && nat_lt 2 n) ≡ true → 1 ≤ n
    long b zero is = absurd (none b is) where
      none : (b : Bool) → (b && false) ≡ true → ⊥
      none false is = false_not_true is
      none true is = false_not_true is
    long b (suc n) is = omega arith

  pub operands_chain : (head : Form) (args prefix : List Form) (e : Form) → head ∷ args ≡ prefix ++ e ∷ [] → is_chain op (length args) ≡ true
      → two (group Round (plain prefix) at) (tree e) ≡ operands op (tree head) (plain args) at
  operands_chain head args prefix e is chained =
      sym (ap (λ (n : ℕ). by_chain (tree head) (plain args) (is_chain op n)) (parts_plain args) ∙ ap (by_chain (tree head) (plain args)) chained
      ∙ both_parts head args prefix e is (chain_long (length args) chained))
