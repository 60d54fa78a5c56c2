-- Renaming goes with expansion: what a renamed form stands for is what the form stands for, renamed.
use Rattle.std.proofs.Common.{◌≡◌, ◌≢◌, ℕ, suc, Bool, true, false, not, ◌&&◌, ◌||◌, bytes_eq, List, [], Option, Some, None, refl, sym, ap, subst, ◌∙◌, if◌then◌else◌}
use Rattle.std.proofs.lemmas.Slice.Eq.{bytes_eq-Decides}
use Rattle.std.specs.List.{list_any}
use Rattle.txs_value_data.specs.declared.fault.Span.{Span}
use Rattle.txs_reader.specs.declared.form.Bracket.TheVariants.{Round, Square}
use Rattle.txs_reader.specs.Tree.{PlainForm as Form, PlainForms as Forms, leaf, group, first, place, number, symbol, nil, truth, text, keyword, parts}
use Rattle.txs_reader.specs.Tree.{none as no_forms}
use Rattle.txs_resolve_expand.specs.declared.names.FormName.{FormName}
use Rattle.txs_resolve_expand.specs.declared.names.FormName.TheVariants as kind
use Rattle.txs_value_data.specs.Places.{with_name}
use Rattle.txs_resolve_expand.specs.Scope.{form_name, form_names, is_dot, is_none, may_bind}
use Rattle.txs_resolve_expand.specs.Expansions.{alone, body, expand_once, expansion, expansion_by, form_at, hidden, is_alone, is_even, let_hidden, list, or_same, three, two}
use Rattle.txs_resolve_expand.specs.Expressions.{are_pairs, is_symbol, flag, all_but_last, last_of}
use Rattle.txs_theorem_language.specs.Renaming.{name_renamed, is_named, hides, is_binding, renamed, all_renamed, scope_renamed, vector_renamed, pairs_renamed, Lacks, AllLack, MayRename}
use Rattle.txs_theorem_language.proofs.Names.{IsTrue, and_first, differs}

abbrev IsSome : {A : Type 0} → Option A → Type 0
IsSome (Some x) = Unit {0}
IsSome None = ⊥

is_nothing : {A : Type 0} (o : Option A) → is_none o ≡ true → o ≡ None
is_nothing None h = refl
is_nothing (Some x) h = absurd (subst IsTrue (sym h) tt)

-- a name that a local may have is that of no form
pub no_form : (name : List ℕ) → may_bind name ≡ true → with_name form_name name form_names ≡ None
unfolding may_bind
no_form name h = is_nothing (with_name form_name name form_names) (and_first (is_none (with_name form_name name form_names)) (not (list_any is_dot name)) h)

-- so the name of a form is none that a local may have
pub no_keyword : (name : List ℕ) → may_bind name ≡ true → (k : FormName) → with_name form_name (form_name k) form_names ≡ Some k → form_name k ≢ name
no_keyword name may k is same = subst IsSome (sym is ∙ ap (λ n. with_name form_name n form_names) same ∙ no_form name may) tt

-- what is made of a form, if there is one
abbrev pub on_some : (Form → Form) → Option Form → Option Form
on_some f (Some e) = Some (f e)
on_some f None = None

-- a list with one part only
alone_one : (head e : Form) (at : Span) → is_alone (form_at head) ≡ false → alone (group Round (first head (first e no_forms)) at) ≡ group Round (first head (first e no_forms)) at
alone_one head e at is = ap (λ (y : Bool). if y then alone e else group Round (first head (first e no_forms)) at) is

not_both : (o : Option FormName) → is_alone o ≡ true → is_binding o ≡ true → ⊥
not_both None h k = subst IsTrue (sym h) tt
not_both (Some kind.Let) h k = subst IsTrue (sym h) tt
not_both (Some kind.Loop) h k = subst IsTrue (sym h) tt
not_both (Some other) h k = subst IsTrue (sym k) tt

-- ---- what stays

module _ (old new : List ℕ) (may : MayRename old new) where
  keyword_stays : (k : FormName) → with_name form_name (form_name k) form_names ≡ Some k → name_renamed old new (form_name k) ≡ form_name k
  keyword_stays k is = ap (λ (y : Bool). if y then new else form_name k) (differs (form_name k) old (no_keyword old may.old_binds k is))

  pub form_at_same : (f : Form) → form_at (renamed old new f) ≡ form_at f
  form_at_same (leaf (symbol name) at) = by (bytes_eq name old) refl
    where
      by : (y : Bool) → bytes_eq name old ≡ y → with_name form_name (if y then new else name) form_names ≡ with_name form_name name form_names
      by true is = no_form new may.new_binds ∙ sym (ap (λ n. with_name form_name n form_names) ((bytes_eq-Decides name old).0 is) ∙ no_form old may.old_binds)
      by false is = refl
  form_at_same (leaf nil at) = refl
  form_at_same (leaf (truth b) at) = refl
  form_at_same (leaf (number z) at) = refl
  form_at_same (leaf (text bytes) at) = refl
  form_at_same (leaf (keyword name) at) = refl
  form_at_same (group b forms at) = refl

  pub place_same : (f : Form) → place (renamed old new f) ≡ place f
  place_same (leaf x at) = refl
  place_same (group b forms at) = refl

  pub parts_same : (fs : Forms) → parts (all_renamed old new fs) ≡ parts fs
  parts_same no_forms = refl
  parts_same (first e rest) = ap suc (parts_same rest)

  pub flag_same : (inner last : Bool) (fs : Forms) → flag inner last (all_renamed old new fs) ≡ flag inner last fs
  flag_same inner last no_forms = refl
  flag_same inner last (first e rest) = refl

  pub are_pairs_same : (fs : Forms) → are_pairs (pairs_renamed old new fs) ≡ are_pairs fs
  are_pairs_same no_forms = refl
  are_pairs_same (first binder no_forms) = refl
  are_pairs_same (first binder (first e rest)) = by (is_named old binder) (are_pairs_same rest)
    where
      by : (y : Bool) → are_pairs (pairs_renamed old new rest) ≡ are_pairs rest → (is_symbol binder && are_pairs (if y then rest else pairs_renamed old new rest)) ≡ (is_symbol binder && are_pairs rest)
      by true h = refl
      by false h = ap (λ (y : Bool). is_symbol binder && y) h

  -- a list that an expansion makes
  pub list_stays : (k : FormName) → with_name form_name (form_name k) form_names ≡ Some k → is_binding (Some k) ≡ false → (args : Forms) (at : Span)
      → renamed old new (list k args at) ≡ list k (all_renamed old new args) at
  list_stays k is plain args at =
      ap (λ (n : List ℕ). group Round (first (leaf (symbol n) at) (if is_binding (with_name form_name (form_name k) form_names) then scope_renamed old new args else all_renamed old new args)) at) (keyword_stays k is)
      ∙ ap (λ o. list k (if is_binding o then scope_renamed old new args else all_renamed old new args) at) is
      ∙ ap (λ (y : Bool). list k (if y then scope_renamed old new args else all_renamed old new args) at) plain

  pub scope_stays : (k : FormName) → with_name form_name (form_name k) form_names ≡ Some k → is_binding (Some k) ≡ true → (args : Forms) (at : Span)
      → renamed old new (list k args at) ≡ list k (scope_renamed old new args) at
  scope_stays k is binding args at =
      ap (λ (n : List ℕ). group Round (first (leaf (symbol n) at) (if is_binding (with_name form_name (form_name k) form_names) then scope_renamed old new args else all_renamed old new args)) at) (keyword_stays k is)
      ∙ ap (λ o. list k (if is_binding o then scope_renamed old new args else all_renamed old new args) at) is
      ∙ ap (λ (y : Bool). list k (if y then scope_renamed old new args else all_renamed old new args) at) binding

  pub body_stays : (forms : Forms) (at : Span) → renamed old new (body forms at) ≡ body (all_renamed old new forms) at
  body_stays forms at = list_stays kind.Do refl refl forms at

  not_hidden : bytes_eq [] old ≡ false
  not_hidden = differs [] old (λ e. may.old_written (sym e))

  hidden_stays : (at : Span) → renamed old new (hidden at) ≡ hidden at
  hidden_stays at = ap (λ (y : Bool). leaf (symbol (if y then new else [])) at) not_hidden

  let_stays : (e choice : Form) (at : Span) → renamed old new (let_hidden e choice at) ≡ let_hidden (renamed old new e) (renamed old new choice) at
  let_stays e choice at =
      scope_stays kind.Let refl refl (two (group Square (two (hidden at) e) at) choice) at
      ∙ ap (λ (y : Bool). list kind.Let (first (group Square (first (hidden at) (first (renamed old new e) (if y then no_forms else no_forms))) at) (if y || false then first choice no_forms else first (renamed old new choice) no_forms)) at) not_hidden

  -- ---- expansions

  -- the parts of a list by the form at its head
  abbrev pub args_renamed : Option FormName → Forms → Forms
  args_renamed o args = if is_binding o then scope_renamed old new args else all_renamed old new args

  expansion_renamed : (k : FormName) (args : Forms) (at : Span) → expansion k (args_renamed (Some k) args) at ≡ on_some (renamed old new) (expansion k args at)
  expansion_renamed kind.When (first c es) at =
      ap Some (sym (list_stays kind.If refl refl (two c (body es at)) at ∙ ap (λ e. list kind.If (two (renamed old new c) e) at) (body_stays es at)))
  expansion_renamed kind.WhenNot (first c es) at =
      ap Some (sym (list_stays kind.IfNot refl refl (two c (body es at)) at ∙ ap (λ e. list kind.IfNot (two (renamed old new c) e) at) (body_stays es at)))
  expansion_renamed kind.And no_forms at = refl
  expansion_renamed kind.And (first e (first f rest)) at =
      let inner = list kind.And (first f rest) at in
      let choice = list kind.If (three (hidden at) inner (hidden at)) at in
      ap Some (sym (let_stays e choice at
      ∙ ap (λ x. let_hidden (renamed old new e) x at) (list_stays kind.If refl refl (three (hidden at) inner (hidden at)) at
      ∙ ap (λ h. list kind.If (three h (renamed old new inner) h) at) (hidden_stays at)
      ∙ ap (λ x. list kind.If (three (hidden at) x (hidden at)) at) (list_stays kind.And refl refl (first f rest) at))))
  expansion_renamed kind.Or no_forms at = refl
  expansion_renamed kind.Or (first e (first f rest)) at =
      let inner = list kind.Or (first f rest) at in
      let choice = list kind.If (three (hidden at) (hidden at) inner) at in
      ap Some (sym (let_stays e choice at
      ∙ ap (λ x. let_hidden (renamed old new e) x at) (list_stays kind.If refl refl (three (hidden at) (hidden at) inner) at
      ∙ ap (λ h. list kind.If (three h h (renamed old new inner)) at) (hidden_stays at)
      ∙ ap (λ x. list kind.If (three (hidden at) (hidden at) x) at) (list_stays kind.Or refl refl (first f rest) at))))
  expansion_renamed kind.Cond no_forms at = refl
  expansion_renamed kind.Cond (first c (first e rest)) at =
      ap (λ n. if is_even n then Some (list kind.If (three (renamed old new c) (renamed old new e) (list kind.Cond (all_renamed old new rest) at)) at) else None) (parts_same rest)
      ∙ by (is_even (parts rest))
    where
      by : (y : Bool) → (if y then Some (list kind.If (three (renamed old new c) (renamed old new e) (list kind.Cond (all_renamed old new rest) at)) at) else None)
          ≡ on_some (renamed old new) (if y then Some (list kind.If (three c e (list kind.Cond rest at)) at) else None)
      by true = ap Some (sym (list_stays kind.If refl refl (three c e (list kind.Cond rest at)) at
          ∙ ap (λ x. list kind.If (three (renamed old new c) (renamed old new e) x) at) (list_stays kind.Cond refl refl rest at)))
      by false = refl
  expansion_renamed kind.Do no_forms at = refl
  expansion_renamed k args at = refl

  by_renamed : (o : Option FormName) (args : Forms) (at : Span) → expansion_by o (args_renamed o args) at ≡ on_some (renamed old new) (expansion_by o args at)
  by_renamed None args at = refl
  by_renamed (Some k) args at = expansion_renamed k args at

  or_renamed : (o : Option Form) (f : Form) → or_same (on_some (renamed old new) o) (renamed old new f) ≡ renamed old new (or_same o f)
  or_renamed None f = refl
  or_renamed (Some e) f = refl

  pub expanded : (f : Form) → expand_once (renamed old new f) ≡ renamed old new (expand_once f)
  expanded (leaf x at) = refl
  expanded (group Square forms at) = refl
  expanded (group Round no_forms at) = refl
  expanded (group Round (first head args) at) =
      ap (λ o. or_same (expansion_by o (args_renamed (form_at head) args) at) (renamed old new (group Round (first head args) at))) (form_at_same head)
      ∙ ap (λ e. or_same e (renamed old new (group Round (first head args) at))) (by_renamed (form_at head) args at)
      ∙ or_renamed (expansion_by (form_at head) args at) (group Round (first head args) at)

  -- the only part of a list, by whether it is the vector of a binding
  abbrev one_of : Form → Bool → Form
  one_of e true = vector_renamed old new e
  one_of e false = renamed old new e

  as_one : (e : Form) (w y : Bool) → (if y then first (vector_renamed old new e) (if w then no_forms else no_forms) else first (renamed old new e) no_forms) ≡ first (one_of e y) no_forms
  as_one e true true = refl
  as_one e false true = refl
  as_one e w false = refl

  pub alone_renamed : (f : Form) → alone (renamed old new f) ≡ renamed old new (alone f)
  alone_renamed (leaf x at) = refl
  alone_renamed (group Square forms at) = refl
  alone_renamed (group Round no_forms at) = refl
  alone_renamed (group Round (first head no_forms) at) = by (is_binding (form_at head))
    where
      by : (y : Bool) → alone (group Round (first (renamed old new head) (if y then no_forms else no_forms)) at) ≡ group Round (first (renamed old new head) (if y then no_forms else no_forms)) at
      by true = refl
      by false = refl
  alone_renamed (group Round (first head (first e no_forms)) at) = by (is_alone (form_at head)) (is_binding (form_at head)) refl refl (alone_renamed e)
    where
      by : (y z : Bool) → is_alone (form_at head) ≡ y → is_binding (form_at head) ≡ z → alone (renamed old new e) ≡ renamed old new (alone e)
          → alone (group Round (first (renamed old new head) (if is_binding (form_at head) then first (vector_renamed old new e) (if hides old e then no_forms else no_forms) else first (renamed old new e) no_forms)) at)
          ≡ renamed old new (if y then alone e else group Round (first head (first e no_forms)) at)
      by true true is bs h = absurd (not_both (form_at head) is bs)
      by true false is bs h =
          ap (λ (y : Bool). alone (group Round (first (renamed old new head) (if y then first (vector_renamed old new e) (if hides old e then no_forms else no_forms) else first (renamed old new e) no_forms)) at)) bs
          ∙ ap (λ (y : Bool). if y then alone (renamed old new e) else group Round (first (renamed old new head) (first (renamed old new e) no_forms)) at) (ap is_alone (form_at_same head) ∙ is) ∙ h
      by false z is bs h =
          ap (λ fs. alone (group Round (first (renamed old new head) fs) at)) (as_one e (hides old e) (is_binding (form_at head)))
          ∙ alone_one (renamed old new head) (one_of e (is_binding (form_at head))) at (ap is_alone (form_at_same head) ∙ is)
          ∙ sym (ap (λ fs. group Round (first (renamed old new head) fs) at) (as_one e (hides old e) (is_binding (form_at head))))
  alone_renamed (group Round (first head (first e (first f rest))) at) = by (is_binding (form_at head)) (hides old e)
    where
      by : (y w : Bool) → alone (group Round (first (renamed old new head) (if y then first (vector_renamed old new e) (if w then first f rest else all_renamed old new (first f rest)) else first (renamed old new e) (first (renamed old new f) (all_renamed old new rest)))) at)
          ≡ group Round (first (renamed old new head) (if y then first (vector_renamed old new e) (if w then first f rest else all_renamed old new (first f rest)) else first (renamed old new e) (first (renamed old new f) (all_renamed old new rest)))) at
      by true true = refl
      by true false = refl
      by false w = refl

  -- ---- the operands of a chain

  pub all_but_last_renamed : (fs : Forms) → all_but_last (all_renamed old new fs) ≡ all_renamed old new (all_but_last fs)
  all_but_last_renamed no_forms = refl
  all_but_last_renamed (first e no_forms) = refl
  all_but_last_renamed (first e (first f rest)) = ap (first (renamed old new e)) (all_but_last_renamed (first f rest))

  pub last_renamed : (e : Form) (fs : Forms) → last_of (renamed old new e) (all_renamed old new fs) ≡ renamed old new (last_of e fs)
  last_renamed e no_forms = refl
  last_renamed e (first f rest) = last_renamed f rest

-- ---- a name that stands in no part

pub lacks_alone : (name : List ℕ) (f : Form) → Lacks name f → Lacks name (alone f)
lacks_alone name (leaf x at) h = h
lacks_alone name (group Square forms at) h = h
lacks_alone name (group Round no_forms at) h = h
lacks_alone name (group Round (first head no_forms) at) h = h
lacks_alone name (group Round (first head (first e no_forms)) at) h = by (is_alone (form_at head)) (lacks_alone name e h.1.0)
  where
    by : (y : Bool) → Lacks name (alone e) → Lacks name (if y then alone e else group Round (first head (first e no_forms)) at)
    by true k = k
    by false k = h
lacks_alone name (group Round (first head (first e (first f rest))) at) h = h

module _ (name : List ℕ) (may : may_bind name ≡ true) (written : name ≢ []) where
  abbrev SomeLacks : Option Form → Type 0
  SomeLacks None = Unit {0}
  SomeLacks (Some f) = Lacks name f

  unwritten : [] ≢ name
  unwritten e = written (sym e)

  expansion_lacks : (k : FormName) (args : Forms) (at : Span) → AllLack name args → SomeLacks (expansion k args at)
  expansion_lacks kind.When (first c es) at h = (no_keyword name may kind.If refl, (h.0, ((no_keyword name may kind.Do refl, h.1), tt)))
  expansion_lacks kind.WhenNot (first c es) at h = (no_keyword name may kind.IfNot refl, (h.0, ((no_keyword name may kind.Do refl, h.1), tt)))
  expansion_lacks kind.And no_forms at h = tt
  expansion_lacks kind.And (first e no_forms) at h = tt
  expansion_lacks kind.And (first e (first f rest)) at h =
      (no_keyword name may kind.Let refl, ((unwritten, (h.0, tt)), ((no_keyword name may kind.If refl, (unwritten, ((no_keyword name may kind.And refl, h.1), (unwritten, tt)))), tt)))
  expansion_lacks kind.Or no_forms at h = tt
  expansion_lacks kind.Or (first e no_forms) at h = tt
  expansion_lacks kind.Or (first e (first f rest)) at h =
      (no_keyword name may kind.Let refl, ((unwritten, (h.0, tt)), ((no_keyword name may kind.If refl, (unwritten, (unwritten, ((no_keyword name may kind.Or refl, h.1), tt)))), tt)))
  expansion_lacks kind.Cond no_forms at h = tt
  expansion_lacks kind.Cond (first c no_forms) at h = tt
  expansion_lacks kind.Cond (first c (first e rest)) at h = by (is_even (parts rest))
    where
      by : (y : Bool) → SomeLacks (if y then Some (list kind.If (three c e (list kind.Cond rest at)) at) else None)
      by true = (no_keyword name may kind.If refl, (h.0, (h.1.0, ((no_keyword name may kind.Cond refl, h.1.1), tt))))
      by false = tt
  expansion_lacks kind.Do no_forms at h = tt
  expansion_lacks k args at h = tt

  by_lacks : (o : Option FormName) (args : Forms) (at : Span) → AllLack name args → SomeLacks (expansion_by o args at)
  by_lacks None args at h = tt
  by_lacks (Some k) args at h = expansion_lacks k args at h

  or_lacks : (o : Option Form) (f : Form) → SomeLacks o → Lacks name f → Lacks name (or_same o f)
  or_lacks None f h k = k
  or_lacks (Some e) f h k = h

  pub lacks_expanded : (f : Form) → Lacks name f → Lacks name (expand_once f)
  lacks_expanded (leaf x at) h = h
  lacks_expanded (group Square forms at) h = h
  lacks_expanded (group Round no_forms at) h = h
  lacks_expanded (group Round (first head args) at) h =
      or_lacks (expansion_by (form_at head) args at) (group Round (first head args) at) (by_lacks (form_at head) args at h.1) h
