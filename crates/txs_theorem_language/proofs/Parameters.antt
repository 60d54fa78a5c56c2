-- A function whose parameter is renamed is the same function, or is refused for the same reason.
use Rattle.std.proofs.Common.{◌≡◌, ℕ, Bool, true, false, not, ◌&&◌, ◌||◌, nat_lt, List, [], ◌∷◌, length, Option, Some, None, Ok, Err, refl, sym, ap, subst, ◌∙◌, if◌then◌else◌}
use Rattle.txs_value_data.specs.Limits.{most_definitions, most_levels}
use Rattle.txs_value_data.specs.declared.fault.Span.{Span}
use Rattle.txs_reader.specs.Tree.{PlainForm as Form, PlainForms as Forms, leaf, first, symbol}
use Rattle.txs_reader.specs.Tree.{none as no_forms}
use Rattle.txs_tree_meaning.specs.Tree.{Tree}
use Rattle.txs_resolve_expand.specs.Scope.{Entry, Scope, may_bind}
use Rattle.txs_resolve_expand.specs.declared.error.ResolveErrorKind.TheVariants.{BadForm, TooMany}
use Rattle.txs_resolve_expand.specs.Answers.{◌>>=◌, refuse}
use Rattle.txs_resolve_expand.specs.Expansions.{body}
use Rattle.txs_resolve_expand.specs.Expressions.{Answer, is_symbol, named}
use Rattle.txs_resolve.specs.Names.{State, step, parameter, parameters, are_symbols, Written, function, new_name, with_function}
use Rattle.txs_theorem_language.specs.Renaming.{is_named, all_renamed, AllLack, Lacks, MayRename, joined, has_parameter, About, function_form}
use Rattle.txs_theorem_language.proofs.Renamed.{body_stays}
use Rattle.txs_theorem_language.proofs.Renaming.{bind_same, turned, Matches, matches_behind, matches_here, named_fit, body_lacks}

-- the scope of a function's body, by its parameters
abbrev scope_of : List Entry → Option (List ℕ) → List (List ℕ) → Scope
scope_of defined current ns = record { locals = ns; defined = defined; current = current }

module _ (old new : List ℕ) (may : MayRename old new) (defined : List Entry) (current : Option (List ℕ)) where
  abbrev Agree : Bool → List (List ℕ) → List (List ℕ) → Type 0
  Agree on ns ms = Matches old new may on (scope_of defined current ns) (scope_of defined current ms)

  -- the names of parameters
  abbrev NamesFit : Bool → Answer (List (List ℕ)) → Answer (List (List ℕ)) → Type 0
  NamesFit on (Ok ns) y = (ms : List (List ℕ)) × (y ≡ Ok ms) × Agree on ns ms
  NamesFit on (Err e) y = y ≡ Err e

  -- a parameter that has the same name in both
  one_fits : (on : Bool) (ns ms : List (List ℕ)) → Agree on ns ms → (p : Form) → Lacks new p → (f g : List ℕ → Answer (List (List ℕ))) (behind : Bool)
      → ((n : List ℕ) → Agree (on && not (is_named old p)) (n ∷ ns) (n ∷ ms) → NamesFit behind (f n) (g n)) → NamesFit behind (parameter (length ns) p >>= f) (parameter (length ms) p >>= g)
  one_fits on ns ms m (leaf (symbol n) at) h f g behind k =
      subst (λ l. NamesFit behind (parameter (length ns) (leaf (symbol n) at) >>= f) ((if may_bind n then (if nat_lt l 20 then Ok n else refuse TooMany at) else refuse BadForm at) >>= g)) m.same
      (by (may_bind n) (nat_lt (length ns) 20))
    where
      by : (y z : Bool) → NamesFit behind ((if y then (if z then Ok n else refuse TooMany at) else refuse BadForm at) >>= f) ((if y then (if z then Ok n else refuse TooMany at) else refuse BadForm at) >>= g)
      by true true = k n (matches_behind old new may on (scope_of defined current ns) (scope_of defined current ms) m n h)
      by true false = refl
      by false z = refl
  one_fits on ns ms m p h f g behind k = refl

  and_not : (on y z : Bool) → (on && not (y || z)) ≡ ((on && not y) && not z)
  and_not true true z = refl
  and_not true false z = refl
  and_not false y z = refl

  behind_fit : (on : Bool) (ns ms : List (List ℕ)) → Agree on ns ms → (fs : Forms) → AllLack new fs → NamesFit (on && not (has_parameter old fs)) (parameters ns fs) (parameters ms fs)
  behind_fit true ns ms m no_forms h = (ms, refl, m)
  behind_fit false ns ms m no_forms h = (ms, refl, m)
  behind_fit on ns ms m (first p rest) h =
      subst (λ o. NamesFit o (parameters ns (first p rest)) (parameters ms (first p rest))) (sym (and_not on (is_named old p) (has_parameter old rest)))
      (one_fits on ns ms m p h.0 (λ n. parameters (n ∷ ns) rest) (λ n. parameters (n ∷ ms) rest) ((on && not (is_named old p)) && not (has_parameter old rest))
      (λ n k. behind_fit (on && not (is_named old p)) (n ∷ ns) (n ∷ ms) k rest h.1))

  module _ (here : Span) (behind : Forms) (lacks : AllLack new behind) where
    this_fits : (ns : List (List ℕ)) → NamesFit (not (has_parameter old behind)) (parameters ns (first (leaf (symbol old) here) behind)) (parameters ns (first (leaf (symbol new) here) behind))
    this_fits ns =
        subst (λ z. NamesFit (not (has_parameter old behind)) ((if z then (if nat_lt (length ns) 20 then Ok old else refuse TooMany here) else refuse BadForm here) >>= λ n. parameters (n ∷ ns) behind) (parameters ns (first (leaf (symbol new) here) behind))) (sym may.old_binds)
        (subst (λ z. NamesFit (not (has_parameter old behind)) ((if nat_lt (length ns) 20 then Ok old else refuse TooMany here) >>= λ n. parameters (n ∷ ns) behind) ((if z then (if nat_lt (length ns) 20 then Ok new else refuse TooMany here) else refuse BadForm here) >>= λ n. parameters (n ∷ ns) behind)) (sym may.new_binds)
        (by (nat_lt (length ns) 20)))
      where
        by : (y : Bool) → NamesFit (not (has_parameter old behind)) ((if y then Ok old else refuse TooMany here) >>= λ n. parameters (n ∷ ns) behind) ((if y then Ok new else refuse TooMany here) >>= λ n. parameters (n ∷ ns) behind)
        by true = behind_fit true (old ∷ ns) (new ∷ ns) (matches_here old new may (scope_of defined current ns) (scope_of defined current ns) refl (λ n. refl)) behind lacks
        by false = refl

    names_bind : (x : Answer (List ℕ)) (f g : List ℕ → Answer (List (List ℕ))) (on : Bool) → ((n : List ℕ) → NamesFit on (f n) (g n)) → NamesFit on (x >>= f) (x >>= g)
    names_bind (Ok n) f g on h = h n
    names_bind (Err e) f g on h = refl

    names_fit : (before : Forms) (ns : List (List ℕ)) → NamesFit (not (has_parameter old behind)) (parameters ns (joined before (first (leaf (symbol old) here) behind))) (parameters ns (joined before (first (leaf (symbol new) here) behind)))
    names_fit no_forms ns = this_fits ns
    names_fit (first p rest) ns = names_bind (parameter (length ns) p) (λ n. parameters (n ∷ ns) (joined rest (first (leaf (symbol old) here) behind))) (λ n. parameters (n ∷ ns) (joined rest (first (leaf (symbol new) here) behind)))
        (not (has_parameter old behind)) (λ n. names_fit rest (n ∷ ns))

    symbols_same : (before : Forms) → are_symbols (joined before (first (leaf (symbol new) here) behind)) ≡ are_symbols (joined before (first (leaf (symbol old) here) behind))
    symbols_same no_forms = refl
    symbols_same (first p rest) = ap (λ (y : Bool). is_symbol p && y) (symbols_same rest)

    -- what is made of the names and the body
    tree_fits : {A : Type 0} (on : Bool) (f : Form) → Lacks new f → (make : ℕ → Tree → A) (x y : Answer (List (List ℕ))) → NamesFit on x y
        → (y >>= λ ms. named most_levels (scope_of defined current ms) true (turned old new may on f) >>= λ node. Ok (make (length ms) node))
        ≡ (x >>= λ ns. named most_levels (scope_of defined current ns) true f >>= λ node. Ok (make (length ns) node))
    tree_fits on f free make (Ok ns) y h =
        ap (λ a. a >>= λ ms. named most_levels (scope_of defined current ms) true (turned old new may on f) >>= λ node. Ok (make (length ms) node)) h.1
        ∙ ap (λ a. a >>= λ node. Ok (make (length h.0) node)) (named_fit old new may most_levels on (scope_of defined current ns) (scope_of defined current h.0) h.2 true f free)
        ∙ ap (λ l. named most_levels (scope_of defined current ns) true f >>= λ node. Ok (make l node)) (sym h.2.same)
    tree_fits on f free make (Err e) y h = ap (λ a. a >>= λ ms. named most_levels (scope_of defined current ms) true (turned old new may on f) >>= λ node. Ok (make (length ms) node)) h

module _ (old new : List ℕ) (may : MayRename old new) (s : State) (name : List ℕ) (named_at : Span) (before : Forms) (here : Span) (behind forms : Forms) (at : Span) (lacks : AllLack new behind) (free : AllLack new forms) where
  new_forms : Forms
  new_forms = if has_parameter old behind then forms else all_renamed old new forms

  new_parameters : Forms
  new_parameters = joined before (first (leaf (symbol new) here) behind)

  old_parameters : Forms
  old_parameters = joined before (first (leaf (symbol old) here) behind)

  -- the parts of the function, with these parameters and this body
  parts_of : Bool → Forms → Forms → Option Written
  parts_of y params forms1 = if y then Some (record { name = name; at = named_at; parameters = params; body = forms1 }) else None

  same_body : body new_forms at ≡ turned old new may (not (has_parameter old behind)) (body forms at)
  unfolding new_forms
  same_body = by (has_parameter old behind)
    where
      by : (y : Bool) → body (if y then forms else all_renamed old new forms) at ≡ turned old new may (not y) (body forms at)
      by true = refl
      by false = sym (body_stays old new may forms at)

  function_fits : (y : Bool) → function s at (parts_of y new_parameters new_forms) ≡ function s at (parts_of y old_parameters forms)
  unfolding new_parameters old_parameters parts_of new_forms
  function_fits false = refl
  function_fits true = by (nat_lt (length s.functions) most_definitions)
    where
      made : (n : List ℕ) → (parameters [] new_parameters >>= λ locals. named most_levels (record { locals = locals; defined = s.defined; current = Some n }) true (body new_forms at) >>= λ node. Ok (with_function s n (length locals) node at))
          ≡ (parameters [] old_parameters >>= λ locals. named most_levels (record { locals = locals; defined = s.defined; current = Some n }) true (body forms at) >>= λ node. Ok (with_function s n (length locals) node at))
      made n =
          ap (λ f. parameters [] new_parameters >>= λ locals. named most_levels (record { locals = locals; defined = s.defined; current = Some n }) true f >>= λ node. Ok (with_function s n (length locals) node at)) same_body
          ∙ tree_fits old new may s.defined (Some n) here behind lacks (not (has_parameter old behind)) (body forms at) (body_lacks old new may forms at free) (λ l node. with_function s n l node at)
          (parameters [] old_parameters) (parameters [] new_parameters) (names_fit old new may s.defined (Some n) here behind lacks before [])

      by : (y : Bool) → (if y then (new_name s.defined name named_at >>= λ n. parameters [] new_parameters >>= λ locals. named most_levels (record { locals = locals; defined = s.defined; current = Some n }) true (body new_forms at) >>= λ node. Ok (with_function s n (length locals) node at)) else refuse TooMany at)
          ≡ (if y then (new_name s.defined name named_at >>= λ n. parameters [] old_parameters >>= λ locals. named most_levels (record { locals = locals; defined = s.defined; current = Some n }) true (body forms at) >>= λ node. Ok (with_function s n (length locals) node at)) else refuse TooMany at)
      by true = bind_same (new_name s.defined name named_at) (new_name s.defined name named_at)
          (λ n. parameters [] old_parameters >>= λ locals. named most_levels (record { locals = locals; defined = s.defined; current = Some n }) true (body forms at) >>= λ node. Ok (with_function s n (length locals) node at))
          (λ n. parameters [] new_parameters >>= λ locals. named most_levels (record { locals = locals; defined = s.defined; current = Some n }) true (body new_forms at) >>= λ node. Ok (with_function s n (length locals) node at)) refl made
      by false = refl

  pub parameter_renamed : (about : Option About) (there : Span)
      → step s (function_form name named_at about (joined before (first (leaf (symbol new) here) behind)) there (if has_parameter old behind then forms else all_renamed old new forms) at)
      ≡ step s (function_form name named_at about (joined before (first (leaf (symbol old) here) behind)) there forms at)
  unfolding new_parameters old_parameters new_forms parts_of
  parameter_renamed None there =
      ap (λ (y : Bool). function s at (parts_of y new_parameters new_forms)) (symbols_same old new may s.defined None here behind lacks before)
      ∙ function_fits (are_symbols old_parameters)
  parameter_renamed (Some about) there =
      ap (λ (y : Bool). function s at (parts_of y new_parameters new_forms)) (symbols_same old new may s.defined None here behind lacks before)
      ∙ function_fits (are_symbols old_parameters)
