-- The resolution of names stops at the first form that is refused.
use Rattle.std.proofs.Common.{◌≡◌, List, [], ◌∷◌, ◌++◌, Ok, Err, refl, sym, ap, subst, ◌∙◌}
use Rattle.txs_reader.specs.Tree.{PlainForm as Form}
use Rattle.txs_resolve_expand.specs.declared.error.ResolveError.{ResolveError}
use Rattle.txs_resolve_expand.specs.Answers.{◌>>=◌}
use Rattle.txs_resolve_expand.specs.Expressions.{Answer}
use Rattle.txs_resolve_expand.specs.Namespace.{behind_namespace}
use Rattle.txs_resolve.specs.Names.{State, nothing, program, step, steps, ResolveStops}
use Rattle.txs_theorem_language.specs.FirstForm.{StopsAt}

abbrev IsErr : {A : Type 0} → Answer A → Type 0
IsErr (Ok x) = ⊥
IsErr (Err e) = Unit {0}

abbrev error_or : {A : Type 0} → ResolveError → Answer A → ResolveError
error_or d (Ok x) = d
error_or d (Err e) = e

same_err : {A : Type 0} (a : Answer A) (d e : ResolveError) → a ≡ Err d → d ≡ e → a ≡ Err e
same_err a d e is same = subst (λ x. a ≡ Err x) same is

-- the same from a state on
record StopsFrom (s : State) (forms : List Form) (e : ResolveError) : Type 0 where
  before : List Form
  form : Form
  behind : List Form
  whole : forms ≡ before ++ form ∷ behind
  defined : State
  resolved : steps s before ≡ Ok defined
  refused : step defined form ≡ Err e
  always : (others : List Form) → steps s (before ++ form ∷ others) ≡ Err e

stops_from : (s : State) (forms : List Form) (e : ResolveError) → steps s forms ≡ Err e → StopsFrom s forms e
stops_from s [] e h = absurd (subst IsErr (sym h) tt)
stops_from s (form ∷ forms) e h = by (λ t k. stops_from t forms e k) (step s form) refl h
  where
    by : ((t : State) → steps t forms ≡ Err e → StopsFrom t forms e) → (a : Answer State) → step s form ≡ a → (a >>= λ t. steps t forms) ≡ Err e → StopsFrom s (form ∷ forms) e
    by rest (Err d) is k =
        let same = same_err (step s form) d e is (ap (error_or d) k) in
        record {
          before = [];
          form = form;
          behind = forms;
          whole = refl;
          defined = s;
          resolved = refl;
          refused = same;
          always = λ others. ap (λ a. a >>= λ t. steps t others) same;
        }
    by rest (Ok t) is k =
        let r = rest t k in
        record {
          before = form ∷ r.before;
          form = r.form;
          behind = r.behind;
          whole = ap (λ l. form ∷ l) r.whole;
          defined = r.defined;
          resolved = ap (λ a. a >>= λ u. steps u r.before) is ∙ r.resolved;
          refused = r.refused;
          always = λ others. ap (λ a. a >>= λ u. steps u (r.before ++ r.form ∷ others)) is ∙ r.always others;
        }

without_program : (a : Answer State) (e : ResolveError) → (a >>= λ s. Ok (program s)) ≡ Err e → a ≡ Err e
without_program (Ok s) e h = absurd (subst IsErr (sym h) tt)
without_program (Err d) e h = ap (λ x. Err x) (ap (error_or d) h)

pub stops_at : (forms : List Form) (e : ResolveError) → ResolveStops forms e → StopsAt forms e
stops_at forms e h =
    let r = stops_from nothing (behind_namespace forms) e (without_program (steps nothing (behind_namespace forms)) e h) in
    record { before = r.before; form = r.form; behind = r.behind; whole = r.whole; defined = r.defined; resolved = r.resolved; refused = r.refused; always = r.always }
