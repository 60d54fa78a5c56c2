-- In a scope of a script each function that is defined has its levels.
use Rattle.std.proofs.Common.{◌<◌, ◌≤◌, ◌+◌, ℕ, Bool, List, [], ◌∷◌, Ok, Err, sym, ap, subst, ◌∙◌}
use Rattle.txs_reader.specs.Tree.{PlainForm as Form}
use Rattle.txs_tree_meaning.specs.Known.{Known, known, levels, levels_of}
use Rattle.txs_tree_meaning.specs.Tree.{Tree}
use Rattle.txs_resolve_expand.specs.declared.scope.Definition.{Definition}
use Rattle.txs_resolve_expand.specs.declared.scope.Definition.TheVariants.{Constant, Cell, Function}
use Rattle.txs_resolve_expand.specs.Scope.{Entry, Scope}
use Rattle.txs_resolve_expand.specs.Expressions.{Answer, named}
use Rattle.txs_resolve.specs.Depths.{depths}
use Rattle.txs_resolve.proofs.LevelLists.{depths_levels, known_levels, place_levels}
use Rattle.txs_resolve.specs.Names.{State, nothing}
use Rattle.txs_resolve.specs.Scripts.{AreKnown, IsKnown, ScopedState}
use Rattle.txs_resolve.proofs.Scoping.{Every}
use Rattle.txs_resolve.proofs.ScopedScripts.{nothing_scoped, steps_scoped}
use Rattle.txs_theorem_language.specs.Levels.{IfGives, Limited, ScopeBehind, as_wider, too_many}
use Rattle.txs_theorem_language.proofs.Fitting.{named_fits}
use Rattle.txs_theorem_language.proofs.Limits.{LevelsOf, LevelsStand, levels_less}

module _ (ks : List Known) where
  one_stands : (d : Definition) → IsKnown ks d → LevelsOf (known_levels ks) d
  one_stands (Constant v) h = tt
  one_stands (Cell c) h = tt
  one_stands (Function n l) h = place_levels ks n ∙ ap levels_of h.1 ∙ h.2

  all_stand : (es : List Entry) → AreKnown ks es → LevelsStand (known_levels ks) es
  all_stand [] h = tt
  all_stand (e ∷ es) h = (one_stands e.what h.0, all_stand es h.1)

levels_behind : (forms : List Form) (s : State) (scope : Scope) → ScopeBehind forms s scope → LevelsStand (known_levels (known s.functions)) scope.defined
levels_behind forms s scope h =
    let kept : ScopedState s = subst (Every ScopedState) h.0 (steps_scoped forms nothing nothing_scoped) in
    subst (LevelsStand (known_levels (known s.functions))) (sym h.1) (all_stand (known s.functions) s.defined kept.known)

gives_as : {A : Type 0} (P Q : A → Type 0) (a : Answer A) → ((x : A) → P x → Q x) → IfGives P a → IfGives Q a
gives_as P Q (Ok x) go h = go x h
gives_as P Q (Err e) go h = tt

limited_as : {A : Type 0} (P Q : A → Type 0) (wider a : Answer A) → ((x : A) → P x → Q x) → Limited A P wider a → Limited A Q wider a
limited_as P Q wider _ go as_wider = as_wider
limited_as P Q wider _ go (too_many at h) = too_many at (gives_as P Q wider go h)

module _ (forms : List Form) (s : State) (scope : Scope) (behind : ScopeBehind forms s scope) (room : ℕ) where
  abbrev ks : List Known
  ks = known s.functions

  pub refuses : (further : ℕ) (wanted : Bool) (form : Form) → Limited Tree (λ t. room < levels ks t) (named (room + further) scope wanted form) (named room scope wanted form)
  refuses further wanted form =
      limited_as (λ (t : Tree). room < depths (known_levels ks) t) (λ (t : Tree). room < levels ks t) (named (room + further) scope wanted form) (named room scope wanted form) (λ t deep. subst (λ (n : ℕ). room < n) (depths_levels ks t) deep)
      (levels_less (known_levels ks) room further scope (levels_behind forms s scope behind) wanted form)

  pub fits : (wanted : Bool) (form : Form) → IfGives (λ t. levels ks t ≤ room) (named room scope wanted form)
  fits wanted form =
      gives_as (λ (t : Tree). depths (known_levels ks) t ≤ room) (λ (t : Tree). levels ks t ≤ room) (named room scope wanted form) (λ t low. subst (λ (n : ℕ). n ≤ room) (depths_levels ks t) low)
      (named_fits (known_levels ks) room scope (levels_behind forms s scope behind) wanted form)
