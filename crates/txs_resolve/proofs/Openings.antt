-- A form that is no list, as a definition's form and at the top level, a list by the form at its head, and a script by its steps.
use Rattle.std.proofs.Common.{◌≡◌, ◌∷◌, ℕ, ℤ, Bool, List, Option, None, Ok, Err, refl, sym, ap, ◌∙◌, subst}
use Rattle.txs_value_data.specs.declared.fault.Span.{Span}
use Rattle.txs_resolve_expand.specs.declared.names.FormName.{FormName}
use Rattle.txs_reader.specs.declared.form.Bracket.TheVariants.{Round}
use Rattle.txs_reader.specs.declared.form.Form.{Form, Nil, Truth, Number, Text, Keyword, Symbol}
use Rattle.txs_reader.specs.Tree.{PlainForm, Leaf, nil, truth, number, text, keyword, symbol, leaf, group, tree}
use Rattle.txs_reader.proofs.Trees.{tree-Nil, tree-Truth, tree-Number, tree-Text, tree-Keyword, tree-Symbol}
use Rattle.txs_resolve_expand.specs.declared.error.ResolveErrorKind.TheVariants.{BadForm}
use Rattle.txs_resolve_expand.specs.declared.error.ResolveError.{ResolveError}
use Rattle.txs_resolve_expand.specs.Expansions.{form_at}
use Rattle.txs_resolve_expand.specs.Expressions.{Answer}
use Rattle.txs_resolve_expand.specs.Answers.{◌>>=◌}
use Rattle.txs_resolve_expand.specs.Namespace.{behind_namespace}
use Rattle.txs_resolve_expand.specs.Parts.{plain}
use Rattle.txs_resolve.specs.declared.stop.Stop.{Stop}
use Rattle.txs_resolve.specs.declared.stop.Stop.TheVariants.{Refused}
use Rattle.txs_resolve.specs.Given.{Ends, Leaves}
use Rattle.txs_resolve.specs.Names.{State, defining_of, named_script, nothing, only_literal, program, step, steps, top_level}

-- ---- forms without parts

pub is_nil : (f : Form) (at : Span) → f ≡ Nil at → tree f ≡ leaf nil at
is_nil f at e = ap tree e ∙ tree-Nil at

pub is_truth : (f : Form) (b : Bool) (at : Span) → f ≡ Truth b at → tree f ≡ leaf (truth b) at
is_truth f b at e = ap tree e ∙ tree-Truth b at

pub is_number : (f : Form) (z : ℤ) (at : Span) → f ≡ Number z at → tree f ≡ leaf (number z) at
is_number f z at e = ap tree e ∙ tree-Number z at

pub is_text : (f : Form) (t : List ℕ) (at : Span) → f ≡ Text t at → tree f ≡ leaf (text t) at
is_text f t at e = ap tree e ∙ tree-Text t at

pub is_keyword : (f : Form) (name : List ℕ) (at : Span) → f ≡ Keyword name at → tree f ≡ leaf (keyword name) at
is_keyword f name at e = ap tree e ∙ tree-Keyword name at

pub is_symbol : (f : Form) (name : List ℕ) (at : Span) → f ≡ Symbol name at → tree f ≡ leaf (symbol name) at
is_symbol f name at e = ap tree e ∙ tree-Symbol name at

-- it is what a definition is of, where it is a literal
pub leaf_opening : (f : Form) (x : Leaf) (at : Span) → tree f ≡ leaf x at → only_literal None None (tree f) ≡ defining_of (tree f)
leaf_opening f x at e = subst (λ t. only_literal None None t ≡ defining_of t) (sym e) refl

-- at the top level it is refused
pub leaf_step : (s now : State) (f : Form) (x : Leaf) (at : Span) (r : Stop) → tree f ≡ leaf x at → r ≡ Refused (record { kind = BadForm; at = at }) → Leaves (Err r) now (step s (tree f))
leaf_step s now f x at r e is = subst (λ (y : Stop). Leaves (Err y) now (step s (tree f))) (sym is) (ap (step s) e)

-- what a list at the top level is, by the form at its head
pub listed : (s : State) (span : Span) (forms : List Form) (head : Form) (parts : List Form) (o : Option FormName) → forms ≡ head ∷ parts → o ≡ form_at (tree head) → top_level o s span (plain parts) ≡ step s (group Round (plain forms) span)
listed s span forms head parts o e f = ap (λ x. top_level x s span (plain parts)) f ∙ sym (ap (λ l. step s (group Round (plain l) span)) e)

-- ---- a script

module _ (forms : List PlainForm) (start : State) (rest : List PlainForm) (begun : start ≡ nothing) (behind : rest ≡ behind_namespace forms) where
  pub script_as : (a : Answer State) → steps start rest ≡ a → named_script forms ≡ (a >>= λ s. Ok (program s))
  script_as a e =
      ap (λ (x : Answer State). x >>= λ s. Ok (program s)) (ap (λ (s : State). steps s (behind_namespace forms)) (sym begun) ∙ ap (steps start) (sym behind) ∙ e)

  pub script_refused : (stop : Stop) (now : State) (e : ResolveError) → Ends {A = State} (Err stop) now (steps start rest) → stop ≡ Refused e → named_script forms ≡ Err e
  script_refused stop now e h is = script_as (Err e) (subst (λ (x : Stop). Ends {A = State} (Err x) now (steps start rest)) is h)
