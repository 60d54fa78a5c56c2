-- A node by how it is evaluated: what is sound of its parts, how many they are, and what it means.
use Rattle.std.proofs.Common.{◌≡◌, ℕ, ◌+◌, ◌*◌, ◌<◌, List, Option, None, Result, Ok, Err, MatchResult, OnOk, refl, sym, ap, ◌∙◌, subst, arith}
use Rattle.std.specs.Prelude.{IsErrAnd}
use Rattle.std.proofs.lemmas.Result.{err_from_is_err_and}
use Rattle.txs_value_data.specs.declared.value.Value.{Value}
use Rattle.txs_tree_meaning.specs.Known.{Known}
use Rattle.txs_tree_meaning.specs.Meaning.{Completion, Completes}
use Rattle.txs_tree_meaning.specs.Sound.{Zone, SoundTree, SoundAll, nodes, nodes_in}
use Rattle.txs_tree_meaning.specs.Tree.{Mark, Tree, Trees, count}
use Rattle.txs_tree_eval_node.specs.Evaluated.{Part, part, has_all, StepsOn, Yields, Steps, Finishes, ReadyIn, means, strict_means, form_means, step_of}
use Rattle.txs_tree_eval_node.specs.Setting.{Setting, callable, zone_in}
use Rattle.txs_tree_eval_node.specs.Shapes.{strict_tree, IsForm}
use Rattle.txs_tree_eval_node.specs.declared.evaluate.Step.{Step}
use Rattle.txs_tree_eval_node.specs.declared.evaluate.Step.TheVariants.{Value as AValue}
use Rattle.txs_tree_eval_node.specs.declared.shape.Act.{Act}
use Rattle.txs_tree_eval_node.specs.declared.shape.Act.TheVariants.{Look as a_look, Put as a_put, Update as an_update, Send as a_send}
use Rattle.txs_tree_eval_node.specs.declared.shape.Strict.{Strict}
use Rattle.txs_tree_eval_node.specs.declared.shape.Strict.TheVariants.{Recur as a_recur, Core as a_core, Call as a_call, Vector as a_vector, Println as a_println}
use Rattle.txs_tree_eval_node.specs.declared.state.State.{State}
use Rattle.txs_tree_eval_transaction.specs.declared.stop.ThreadStop.{ThreadStop}
use Rattle.txs_tree_eval_transaction.specs.declared.stop.ThreadStop.TheVariants.{Memory}
use Rattle.txs_tree_eval_node.proofs.Evaluation.{put_whole}

-- ---- what is given

-- a copy is given, where that is what is meant
pub copied : (x : Setting) (r : Result Step ThreadStop) (v : Value) (st : State) (c : Completion (Part x.world) Value) → c ≡ Completes v (part x.world st) → MatchResult r (λ s. s ≡ AValue v) (λ y. y ≡ Memory) → Steps x r st c
copied x (Ok s) v st c h g = subst (λ z. StepsOn (has_all x.world) (Ok z) (part x.world st) c) (sym g) h
copied x (Err y) v st c h g = subst (λ z. StepsOn (has_all x.world) (Err z) (part x.world st) c) (sym g) tt

-- a value is given as a node's
pub stepped : (x : Setting) (r : Result Value ThreadStop) (s : Result Step ThreadStop) (st : State) (c : Completion (Part x.world) Value) → s ≡ step_of r → Yields x r st c → Steps x s st c
stepped x (Ok v) s st c is h = subst (λ z. Steps x z st c) (sym is) h
stepped x (Err y) s st c is h = subst (λ z. Steps x z st c) (sym is) h

-- a stop that is handed on
pub halted : {A : Type 0} (r : Result A ThreadStop) (y : ThreadStop) → IsErrAnd r (λ e. e ≡ y) → r ≡ Err y
halted r y h =
    let p = err_from_is_err_and r h in
    p.1 ∙ ap (λ (e : ThreadStop). Err e) p.2

-- what holds whatever is given holds where a value is given
pub kept_by : {V P : Type 0} (r : Result V ThreadStop) → P → OnOk r P
kept_by (Ok v) h = h
kept_by (Err y) h = tt

pub kept_then : {V : Type 0} (P Q : Type 0) (r : Result V ThreadStop) → OnOk r P → (P → Q) → OnOk r Q
kept_then P Q (Ok v) h go = go h
kept_then P Q (Err y) h go = tt

pub kept_as : (P : Type 0) (r : Result Value ThreadStop) (s : Result Step ThreadStop) → s ≡ step_of r → OnOk r P → OnOk s P
kept_as P (Ok v) s is h = subst (λ z. OnOk z P) (sym is) h
kept_as P (Err y) s is h = subst (λ z. OnOk z P) (sym is) tt

-- ---- parts that all come first

module _ (ks : List Known) (zone : Zone) (d : ℕ) (tail : Option ℕ) (es : Trees) (m : Mark) where
  pub strict_sound : (strict : Strict) → SoundTree ks zone d tail (strict_tree strict es m) → SoundAll ks zone d es
  strict_sound a_recur h = h.1
  strict_sound (a_core op) h = h.1
  strict_sound (a_call f) h = h.1
  strict_sound a_vector h = h.1
  strict_sound a_println h = h.2

pub strict_smaller : (strict : Strict) (es : Trees) (m : Mark) → 16 * nodes_in es + 4 < 16 * nodes (strict_tree strict es m)
strict_smaller a_recur es m = omega arith
strict_smaller (a_core op) es m = omega arith
strict_smaller (a_call f) es m = omega arith
strict_smaller a_vector es m = omega arith
strict_smaller a_println es m = omega arith

module _ (x : Setting) (es : Trees) (m : Mark) where
  pub strict_finishes : (strict : Strict) (d : ℕ) (tail : Option ℕ) → SoundTree (callable x) (zone_in x) d tail (strict_tree strict es m) → Finishes x strict (count es)
  strict_finishes a_recur d tail h = tt
  strict_finishes (a_core op) d tail h = h.0.0
  strict_finishes (a_call f) d tail h = h.0
  strict_finishes a_vector d tail h = tt
  strict_finishes a_println d tail h = h.0

  pub strict_whole : (strict : Strict) (env : List Value) (st : State) → strict_means x strict m.span es env st ≡ means x (strict_tree strict es m) env st
  strict_whole a_recur env st = refl
  strict_whole (a_core op) env st = refl
  strict_whole (a_call f) env st = refl
  strict_whole a_vector env st = refl
  strict_whole a_println env st = refl

-- ---- forms on cells

-- what is sound of the parts of a form
abbrev pub FormParts : List Known → Zone → ℕ → Act → Tree → Trees → Type 0
FormParts ks zone d act cell args = SoundTree ks zone d None cell × (SoundAll ks zone d args × ReadyIn ks zone act (count args))

module _ (ks : List Known) (zone : Zone) (d : ℕ) (tail : Option ℕ) (cell : Tree) (args : Trees) (m : Mark) (e : Tree) where
  pub form_sound : (act : Act) → IsForm act cell args m e → SoundTree ks zone d tail e → FormParts ks zone d act cell args
  form_sound (a_look form) is h =
      let s = subst (λ u. SoundTree ks zone d tail u) is.0 h in
      subst (λ l. FormParts ks zone d (a_look form) cell l) (sym is.1) (s.1, (tt, s.0))
  form_sound (a_put form) is h =
      let s = subst (λ u. SoundTree ks zone d tail u) is.1 h in
      subst (λ l. FormParts ks zone d (a_put form) cell l) (sym is.2) (s.1, ((s.2, tt), (s.0, refl)))
  form_sound (an_update form callee) is h =
      let s = subst (λ u. SoundTree ks zone d tail u) is h in
      (s.1, (s.3, (s.0, s.2)))
  form_sound (a_send callee) is h =
      let s = subst (λ u. SoundTree ks zone d tail u) is h in
      (s.0, (s.2, tt))

module _ (cell : Tree) (args : Trees) (m : Mark) (e : Tree) where
  pub form_smaller : (act : Act) → IsForm act cell args m e → 16 * (nodes cell + nodes_in args) + 10 < 16 * nodes e
  form_smaller (a_look form) is = omega (arith, ap nodes is.0, ap nodes_in is.1)
  form_smaller (a_put form) is = omega (arith, ap nodes is.1, ap nodes_in is.2)
  form_smaller (an_update form callee) is = omega (arith, ap nodes is)
  form_smaller (a_send callee) is = omega (arith, ap nodes is)

  pub form_whole : (x : Setting) (act : Act) (env : List Value) (st : State) → IsForm act cell args m e → form_means x act m cell args env st ≡ means x e env st
  form_whole x (a_look form) env st is = ap (λ l. form_means x (a_look form) m cell l env st) is.1 ∙ ap (λ u. means x u env st) (sym is.0)
  form_whole x (a_put form) env st is =
      ap (λ l. form_means x (a_put form) m cell l env st) is.2 ∙ put_whole x form cell is.0 m env st ∙ ap (λ u. means x u env st) (sym is.1)
  form_whole x (an_update form callee) env st is = ap (λ u. means x u env st) (sym is)
  form_whole x (a_send callee) env st is = ap (λ u. means x u env st) (sym is)
