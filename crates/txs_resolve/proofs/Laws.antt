-- Forms are one program, or they are refused for one reason.
use Rattle.std.proofs.Common.{◌≡◌, ◌⊎◌, inl, inr, List, Ok, Err, refl, sym, ap, ◌∙◌, subst}
use Rattle.txs_reader.specs.Tree.{PlainForm as Form}
use Rattle.txs_tree_meaning.specs.Tree.{PlainProgram}
use Rattle.txs_resolve_expand.specs.Expressions.{Answer}
use Rattle.txs_resolve.specs.Names.{named_script, Resolves, ResolveStops}
use Rattle.txs_resolve_expand.specs.declared.error.ResolveError.{ResolveError}

abbrev IsOk : {A : Type 0} → Answer A → Type 0
IsOk (Ok x) = Unit {0}
IsOk (Err e) = ⊥

abbrev ok_or : {A : Type 0} → A → Answer A → A
ok_or d (Ok x) = x
ok_or d (Err e) = d

abbrev err_or : {A : Type 0} → ResolveError → Answer A → ResolveError
err_or d (Ok x) = d
err_or d (Err e) = e

either : (a : Answer PlainProgram) → ((p : PlainProgram) × (a ≡ Ok p)) ⊎ ((e : ResolveError) × (a ≡ Err e))
either (Ok p) = inl (p, refl)
either (Err e) = inr (e, refl)

pub decided : (forms : List Form) → ((p : PlainProgram) × Resolves forms p) ⊎ ((e : ResolveError) × ResolveStops forms e)
decided forms = either (named_script forms)

pub one_program : (forms : List Form) (p q : PlainProgram) → Resolves forms p → Resolves forms q → p ≡ q
one_program forms p q h k = ap (ok_or p) (sym h ∙ k)

pub one_stop : (forms : List Form) (d e : ResolveError) → ResolveStops forms d → ResolveStops forms e → d ≡ e
one_stop forms d e h k = ap (err_or d) (sym h ∙ k)

pub not_both : (forms : List Form) (p : PlainProgram) (e : ResolveError) → Resolves forms p → ResolveStops forms e → ⊥
not_both forms p e h k = subst IsOk (sym h ∙ k) tt
