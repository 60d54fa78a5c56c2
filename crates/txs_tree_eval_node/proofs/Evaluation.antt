-- An evaluation one node at a time: what the whole means is what the rest means.
use Rattle.std.proofs.Common.{◌≡◌, ℕ, zero, suc, ◌+◌, ◌-◌, ◌<◌, ◌≤◌, Bool, true, false, if◌then◌else◌, List, [], ◌∷◌, ◌++◌, length, get_or, take, drop, Some, Result, Ok, Err, refl, sym, ap, ◌∙◌, subst, subst₂, append_assoc, length-append, arith}
use Rattle.std.proofs.Math.Seq.{drop-append_seam, take-append_seam}
use Rattle.std.proofs.lemmas.Bool.{eq-eqb, false≢true}
use Rattle.std.proofs.lemmas.List.{length-take, take-append-le, take-append-drop}
use Rattle.txs_value_apply.specs.Core.{is_false}
use Rattle.txs_value_data.specs.Places.{nth}
use Rattle.txs_value_apply.specs.Truth.{choose}
use Rattle.txs_value_cell.specs.declared.form.PutForm.{PutForm}
use Rattle.txs_value_data.specs.declared.value.Value.{Value}
use Rattle.txs_value_data.specs.declared.value.Value.TheVariants.{Nil, Truth, Int, Key, Text, Vector, Cell}
use Rattle.txs_tree_eval_node.specs.Evaluated.{HaltsAt, AnswersAt, Part, part, is_on, has_all, forms_on, forms_in, calls_in, around_it, GivesAll, Yields, Steps, StepsOn, means, all_mean, if_means, do_means, let_means, locals_mean, loop_means, turns_mean, call_means, finishes, finish_means, strict_means, acts, act_means, form_means}
use Rattle.txs_tree_eval_transaction.specs.Worked.{Stops, Gives, GivesOf}
use Rattle.txs_tree_meaning.specs.Meaning.{Completion, Completes, Recurs, Faults, Retries, Waits, OutOfTurns, Invalid, bind, again, give, turns, Effects, eval, eval_all, eval_let, eval_do, call_at}
use Rattle.txs_tree_eval_node.specs.Setting.{Setting, deeper}
use Rattle.txs_tree_meaning.specs.Tree.{Mark, Tree, Const, Local, Put, Trees, none, more, count, PlainFunction}
use Rattle.txs_tree_meaning.specs.View.{tree_of, trees_of, functions_of}
use Rattle.txs_tree_eval_node.specs.declared.shape.Act.{Act}
use Rattle.txs_tree_eval_node.specs.declared.shape.Act.TheVariants.{Put as a_put}
use Rattle.txs_tree_eval_node.specs.declared.evaluate.Step.{Step}
use Rattle.txs_tree_eval_node.specs.declared.shape.Strict.{Strict}
use Rattle.txs_tree_meaning.specs.declared.node.Node.{Node}
use Rattle.txs_tree_eval_node.specs.declared.state.State.{State}
use Rattle.txs_tree_eval_transaction.specs.declared.stop.ThreadStop.{ThreadStop}
use Rattle.txs_tree_eval_transaction.specs.declared.stop.ThreadStop.TheVariants.{Fault, Event, Wrong, Turns, Memory}
use Rattle.txs_value_data.specs.declared.fault.Span.{Span}
use Rattle.txs_tree_meaning.proofs.Soundness.{trees_from}

pub nth_at : (vs : List Value) (i : ℕ) (v : Value) → i < length vs → v ≡ get_or vs i v → nth vs i ≡ Some v
nth_at [] i v lt is = absurd (omega arith)
nth_at (w ∷ vs) zero v lt is = ap Some (sym is)
nth_at (w ∷ vs) (suc i) v lt is = nth_at vs i v (omega arith) is

-- two steps after a first one
pub bind-bind : {S A B C : Type 0} (c : Completion S A) (f : A → S → Completion S B) (g : B → S → Completion S C) → bind (bind c f) g ≡ bind c (λ a s. bind (f a s) g)
bind-bind (Completes a s) f g = refl
bind-bind (Recurs vs s) f g = refl
bind-bind (Faults x s) f g = refl
bind-bind (Retries s) f g = refl
bind-bind (Waits s) f g = refl
bind-bind (OutOfTurns s) f g = refl
bind-bind Invalid f g = refl

module _ {S : Type 0} (fx : Effects S) (call : Bool → ℕ → List Value → S → Completion S Value) (n : ℕ) (inside : Bool) where
  -- the values so far, and those of the rest
  abbrev pub collects : List Value → Trees → List Value → S → Completion S (List Value)
  collects vs es env s = bind (eval_all fx call n inside es env s) (λ ws s1. Completes (vs ++ ws) s1)

  collects-nil : (es : Trees) (env : List Value) (s : S) → eval_all fx call n inside es env s ≡ collects [] es env s
  collects-nil none env s = refl
  collects-nil (more e rest) env s =
      let go : Value → S → Completion S (List Value) = λ v s1. bind (eval_all fx call n inside rest env s1) (λ ws s2. Completes (v ∷ ws) s2) in
      let done : List Value → S → Completion S (List Value) = λ ws s2. Completes ws s2 in
      let each : (v : Value) (s1 : S) → go v s1 ≡ bind (go v s1) done = λ v s1. sym (bind-bind (eval_all fx call n inside rest env s1) (λ ws s2. Completes (v ∷ ws) s2) done) in
      (λ i. bind (eval fx call n inside e env s) (λ v s1. each v s1 i)) ∙ sym (bind-bind (eval fx call n inside e env s) go done)

  pub collects-start : (vs : List Value) (es : Trees) (env : List Value) (s : S) → vs ≡ [] → eval_all fx call n inside es env s ≡ collects vs es env s
  collects-start vs es env s is = collects-nil es env s ∙ ap (λ ws. collects ws es env s) (sym is)

  pub collects-more : (vs : List Value) (e : Tree) (rest : Trees) (env : List Value) (s : S) → collects vs (more e rest) env s ≡ bind (eval fx call n inside e env s) (λ v s1. collects (vs ++ v ∷ []) rest env s1)
  collects-more vs e rest env s =
      let done : List Value → S → Completion S (List Value) = λ ws s2. Completes (vs ++ ws) s2 in
      let go : Value → S → Completion S (List Value) = λ v s1. bind (eval_all fx call n inside rest env s1) (λ ws s2. Completes (v ∷ ws) s2) in
      let one : (v : Value) (ws : List Value) → vs ++ v ∷ ws ≡ (vs ++ v ∷ []) ++ ws = λ v ws. sym (append_assoc vs (v ∷ []) ws) in
      let each : (v : Value) (s1 : S) → bind (go v s1) done ≡ collects (vs ++ v ∷ []) rest env s1 = λ v s1.
      bind-bind (eval_all fx call n inside rest env s1) (λ ws s2. Completes (v ∷ ws) s2) done
      ∙ (λ i. bind (eval_all fx call n inside rest env s1) (λ ws s2. Completes (one v ws i) s2)) in
      bind-bind (eval fx call n inside e env s) go done ∙ (λ i. bind (eval fx call n inside e env s) (λ v s1. each v s1 i))

  -- the locals with the new ones behind them
  abbrev pub locals_after : Trees → List Value → S → Completion S (List Value)
  locals_after es env s = bind (eval_let fx call n inside es env s) (λ vs s1. Completes (env ++ vs) s1)

  pub locals_after-more : (e : Tree) (rest : Trees) (env : List Value) (s : S) → locals_after (more e rest) env s ≡ bind (eval fx call n inside e env s) (λ v s1. locals_after rest (env ++ v ∷ []) s1)
  locals_after-more e rest env s =
      let done : List Value → S → Completion S (List Value) = λ ws s2. Completes (env ++ ws) s2 in
      let go : Value → S → Completion S (List Value) = λ v s1. bind (eval_let fx call n inside rest (env ++ v ∷ []) s1) (λ ws s2. Completes (v ∷ ws) s2) in
      let one : (v : Value) (ws : List Value) → env ++ v ∷ ws ≡ (env ++ v ∷ []) ++ ws = λ v ws. sym (append_assoc env (v ∷ []) ws) in
      let each : (v : Value) (s1 : S) → bind (go v s1) done ≡ locals_after rest (env ++ v ∷ []) s1 = λ v s1.
      bind-bind (eval_let fx call n inside rest (env ++ v ∷ []) s1) (λ ws s2. Completes (v ∷ ws) s2) done
      ∙ (λ i. bind (eval_let fx call n inside rest (env ++ v ∷ []) s1) (λ ws s2. Completes (one v ws i) s2)) in
      bind-bind (eval fx call n inside e env s) go done ∙ (λ i. bind (eval fx call n inside e env s) (λ v s1. each v s1 i))

  -- what goes on from the new locals goes on from all of them
  pub after_locals : (es : Trees) (env : List Value) (s : S) (go : List Value → S → Completion S Value)
      → bind (eval_let fx call n inside es env s) go ≡ bind (locals_after es env s) (λ ls s1. go (drop (length env) ls) s1)
  after_locals es env s go =
      let new : (vs : List Value) → vs ≡ drop (length env) (env ++ vs) = λ vs. sym (drop-append_seam env vs) in
      (λ i. bind (eval_let fx call n inside es env s) (λ vs s1. go (new vs i) s1))
      ∙ sym (bind-bind (eval_let fx call n inside es env s) (λ vs s1. Completes (env ++ vs) s1) (λ ls s1. go (drop (length env) ls) s1))

  -- nodes for their effects, and then a last one
  abbrev pub then_last : Trees → Tree → List Value → S → Completion S Value
  then_last none last env s = eval fx call n inside last env s
  then_last (more e rest) last env s = bind (eval fx call n inside e env s) (λ v s1. then_last rest last env s1)

  -- all but the last as values that nothing uses
  last_after : (es : Trees) (last : Tree) (env : List Value) (s : S) → then_last es last env s ≡ bind (eval_all fx call n inside es env s) (λ vs s1. eval fx call n inside last env s1)
  last_after none last env s = refl
  last_after (more e rest) last env s =
      let go : Value → S → Completion S (List Value) = λ v s1. bind (eval_all fx call n inside rest env s1) (λ ws s2. Completes (v ∷ ws) s2) in
      let end : List Value → S → Completion S Value = λ vs s1. eval fx call n inside last env s1 in
      let each : (v : Value) (s1 : S) → then_last rest last env s1 ≡ bind (go v s1) end = λ v s1. last_after rest last env s1 ∙ sym (bind-bind (eval_all fx call n inside rest env s1) (λ ws s2. Completes (v ∷ ws) s2) end) in
      (λ i. bind (eval fx call n inside e env s) (λ v s1. each v s1 i)) ∙ sym (bind-bind (eval fx call n inside e env s) go end)

  do-then_last : (ns : List Node) (x : Node) (env : List Value) (s : S) → eval_do fx call n inside (trees_of (ns ++ x ∷ [])) env s ≡ then_last (trees_of ns) (tree_of x) env s
  do-then_last [] x env s = refl
  do-then_last (m ∷ []) x env s = refl
  do-then_last (m ∷ k ∷ ns) x env s = λ i. bind (eval fx call n inside (tree_of m) env s) (λ v s1. do-then_last (k ∷ ns) x env s1 i)

-- one turn more
pub turns-more : {S : Type 0} (k d : ℕ) (f : List Value → S → Completion S Value) (vs : List Value) (s : S) → length vs ≡ d → turns (suc k) d f vs s ≡ again (f vs s) (turns k d f)
turns-more k d f vs s many = ap (λ (b : Bool). if b then again (f vs s) (turns k d f) else Invalid) (eq-eqb (length vs) d many)

-- ---- a stop of a part is one of the whole

pub stops_bind : {S A B : Type 0} (on : Bool) (y : ThreadStop) (s : S) (c : Completion S A) (go : A → S → Completion S B) → Stops on y s c → Stops on y s (bind c go)
stops_bind on (Fault f) s c go h = ap (λ d. bind d go) h
stops_bind on Event s c go h = (h.0, ap (λ d. bind d go) h.1)
stops_bind on Wrong s c go h = (h.0, ap (λ d. bind d go) h.1)
stops_bind on Turns s c go h = ap (λ d. bind d go) h
stops_bind on Memory s c go h = h

pub stops_again : {S : Type 0} (on : Bool) (y : ThreadStop) (s : S) (c : Completion S Value) (go : List Value → S → Completion S Value) → Stops on y s c → Stops on y s (again c go)
stops_again on (Fault f) s c go h = ap (λ d. again d go) h
stops_again on Event s c go h = (h.0, ap (λ d. again d go) h.1)
stops_again on Wrong s c go h = (h.0, ap (λ d. again d go) h.1)
stops_again on Turns s c go h = ap (λ d. again d go) h
stops_again on Memory s c go h = h

-- a part's stop, by the equation of the whole
pub stops_whole : {S A B : Type 0} (on : Bool) (y : ThreadStop) (s : S) (whole : Completion S B) (c : Completion S A) (go : A → S → Completion S B) → whole ≡ bind c go → Stops on y s c → Stops on y s whole
stops_whole on y s whole c go is h = subst (λ w. Stops on y s w) (sym is) (stops_bind on y s c go h)

pub stops_steps : {S : Type 0} (on : Bool) (r : Result Step ThreadStop) (y : ThreadStop) (s : S) (c : Completion S Value) → r ≡ Err y → Stops on y s c → StepsOn on r s c
stops_steps on r y s c err h = subst (λ x. StepsOn on x s c) (sym err) h

pub stops_gives : {S V A : Type 0} (f : V → A) (on : Bool) (r : Result V ThreadStop) (y : ThreadStop) (s : S) (c : Completion S A) → r ≡ Err y → Stops on y s c → GivesOf f on r s c
stops_gives f on r y s c err h = subst (λ x. GivesOf f on x s c) (sym err) h

-- what is given by a form that waits for nothing is given in any transaction
pub gives_anywhere : {S A : Type 0} (all : Bool) (r : Result A ThreadStop) (s : S) (c : Completion S A) → Gives true r s c → Gives all r s c
gives_anywhere all (Ok v) s c h = h
gives_anywhere all (Err (Fault f)) s c h = h
gives_anywhere all (Err Event) s c h = absurd (false≢true (sym h.0))
gives_anywhere all (Err Wrong) s c h = absurd (false≢true (sym h.0))
gives_anywhere all (Err Turns) s c h = h
gives_anywhere all (Err Memory) s c h = h

pub halts_bind : {S A B : Type 0} (y : ThreadStop) (s : S) (c : Completion S A) (go : A → S → Completion S B) → HaltsAt y s c → HaltsAt y s (bind c go)
halts_bind (Fault f) s c go h = ap (λ d. bind d go) h
halts_bind Event s c go h = h
halts_bind Wrong s c go h = ap (λ d. bind d go) h
halts_bind Turns s c go h = ap (λ d. bind d go) h
halts_bind Memory s c go h = h

pub halts_answers : {S A : Type 0} (r : Result A ThreadStop) (y : ThreadStop) (s : S) (c : Completion S A) → r ≡ Err y → HaltsAt y s c → AnswersAt r s c
halts_answers r y s c err h = subst (λ x. AnswersAt x s c) (sym err) h

-- ---- here

-- a stop here
abbrev pub StopsAt : (x : Setting) → {A : Type 0} → ThreadStop → State → Completion (Part x.world) A → Type 0
StopsAt x y out c = Stops (has_all x.world) y (part x.world out) c

module _ (setting : Setting) where
  abbrev S : Type 0
  S = Part setting.world

  abbrev on : Bool
  on = is_on setting.world

  abbrev all : Bool
  all = has_all setting.world

  abbrev st : State → S
  st = part setting.world

  abbrev fx : Effects S
  fx = forms_in setting

  abbrev call : Bool → ℕ → List Value → S → Completion S Value
  call = calls_in setting

  module _ (e : Tree) (m : Mark) (env : List Value) (out : State) where
    pub const_done : (v w : Value) → e ≡ Const v m → w ≡ v → means setting e env out ≡ Completes w (st out)
    const_done v w is copy = ap (λ x. means setting x env out) is ∙ ap (λ x. Completes x (st out)) (sym copy)

    pub local_done : (i j : ℕ) (v w : Value) → e ≡ Local i m → j ≡ i → i < length env → w ≡ get_or env j w → v ≡ w → means setting e env out ≡ Completes v (st out)
    local_done i j v w is same lt at copy =
        let there : w ≡ get_or env i w = subst (λ k. w ≡ get_or env k w) same at in
        ap (λ x. means setting x env out) is ∙ ap (λ o. give o (st out)) (nth_at env i w lt there) ∙ ap (λ x. Completes x (st out)) (sym copy)

  -- the branch that the test chooses
  if_branch : (v : Value) (b : Bool) (p q : Completion S Value) → b ≡ is_false v → choose v p q ≡ (if b then q else p)
  if_branch Nil b p q t = ap (λ (x : Bool). if x then q else p) (sym t)
  if_branch (Truth true) b p q t = ap (λ (x : Bool). if x then q else p) (sym t)
  if_branch (Truth false) b p q t = ap (λ (x : Bool). if x then q else p) (sym t)
  if_branch (Int z) b p q t = ap (λ (x : Bool). if x then q else p) (sym t)
  if_branch (Key bs) b p q t = ap (λ (x : Bool). if x then q else p) (sym t)
  if_branch (Text bs) b p q t = ap (λ (x : Bool). if x then q else p) (sym t)
  if_branch (Vector ds) b p q t = ap (λ (x : Bool). if x then q else p) (sym t)
  if_branch (Cell c) b p q t = ap (λ (x : Bool). if x then q else p) (sym t)

  module _ (test first second : Tree) (env : List Value) (out : State) where
    both : (out1 : State) (b : Bool) → (if b then means setting second env out1 else means setting first env out1) ≡ means setting (if b then second else first) env out1
    both out1 true = refl
    both out1 false = refl

    pub if_stop : (y : ThreadStop) (out1 : State) → Stops all y (st out1) (means setting test env out) → Stops all y (st out1) (if_means setting test first second env out)
    if_stop y out1 h = stops_bind all y (st out1) (means setting test env out) (λ v s1. choose v (eval fx call setting.turns on first env s1) (eval fx call setting.turns on second env s1)) h

    pub if_goes : (v : Value) (b : Bool) (later : List Value) (out1 out2 : State) (r : Result Step ThreadStop) → means setting test env out ≡ Completes v (st out1) → b ≡ is_false v → later ≡ env
        → Steps setting r out2 (means setting (if b then second else first) later out1) → Steps setting r out2 (if_means setting test first second env out)
    if_goes v b later out1 out2 r h t same g =
        let whole : if_means setting test first second env out ≡ means setting (if b then second else first) env out1 =
        ap (λ c. bind c (λ w s1. choose w (eval fx call setting.turns on first env s1) (eval fx call setting.turns on second env s1))) h
        ∙ if_branch v b (means setting first env out1) (means setting second env out1) t ∙ both out1 b in
        subst (λ c. Steps setting r out2 c) (sym whole) (subst (λ l. Steps setting r out2 (means setting (if b then second else first) l out1)) same g)

  -- what is done with the values of parts
  module _ (strict : Strict) (span : Span) (es : Trees) (env : List Value) (out out1 : State) where
    pub strict_stop : {V : Type 0} (f : V → List Value) (y : ThreadStop) → GivesAll setting f (Err y) out1 (all_mean setting es env out) → Stops all y (st out1) (strict_means setting strict span es env out)
    strict_stop f y h = stops_bind all y (st out1) (all_mean setting es env out) (λ vs t. finishes setting strict span vs t) h

    pub strict_done : (vs : List Value) (out2 : State) (r : Result Step ThreadStop) → all_mean setting es env out ≡ Completes vs (st out1) → Steps setting r out2 (finish_means setting strict span vs out1)
        → Steps setting r out2 (strict_means setting strict span es env out)
    strict_done vs out2 r h g = subst (λ c. Steps setting r out2 c) (sym (ap (λ c. bind c (λ us t. finishes setting strict span us t)) h)) g

  -- a form on a cell, its cell, its arguments, and what it does
  module _ (act : Act) (m : Mark) (cell : Tree) (args : Trees) (env : List Value) (out : State) where
    pub cell_stop : (y : ThreadStop) (out1 : State) → Stops all y (st out1) (means setting cell env out) → Stops all y (st out1) (form_means setting act m cell args env out)
    cell_stop y out1 h = stops_bind all y (st out1) (means setting cell env out) (λ c t. bind (eval_all fx call setting.turns on args env t) (λ vs t1. acts setting.world setting act m c vs t1)) h

    module _ (c : Value) (out1 : State) (h : means setting cell env out ≡ Completes c (st out1)) (later : List Value) (same : later ≡ env) where
      after_cell : form_means setting act m cell args env out ≡ bind (all_mean setting args later out1) (λ vs t1. acts setting.world setting act m c vs t1)
      after_cell =
          ap (λ r. bind r (λ d t. bind (eval_all fx call setting.turns on args env t) (λ vs t1. acts setting.world setting act m d vs t1))) h
          ∙ ap (λ l. bind (all_mean setting args l out1) (λ vs t1. acts setting.world setting act m c vs t1)) (sym same)

      pub args_stop : {V : Type 0} (f : V → List Value) (y : ThreadStop) (out2 : State) → GivesAll setting f (Err y) out2 (all_mean setting args later out1) → Stops all y (st out2) (form_means setting act m cell args env out)
      args_stop f y out2 g = stops_whole all y (st out2) (form_means setting act m cell args env out) (all_mean setting args later out1) (λ vs t1. acts setting.world setting act m c vs t1) after_cell g

      module _ (vs : List Value) (out2 : State) (g : all_mean setting args later out1 ≡ Completes vs (st out2)) where
        pub acted : form_means setting act m cell args env out ≡ act_means setting act m c vs out2
        acted = after_cell ∙ ap (λ r. bind r (λ us t1. acts setting.world setting act m c us t1)) g

  -- a put has one argument
  pub put_whole : (form : PutForm) (cell value : Tree) (m : Mark) (env : List Value) (out : State) → form_means setting (a_put form) m cell (more value none) env out ≡ means setting (Put form cell value m) env out
  put_whole form cell value m env out =
      λ i. bind (means setting cell env out) (λ c t. bind-bind (eval fx call setting.turns on value env t) (λ v t1. Completes (v ∷ []) t1) (λ vs t1. acts setting.world setting (a_put form) m c vs t1) i)

  -- one node more
  module _ (ns : List Node) (i : ℕ) (x : Node) (lt : i < length ns) (is : x ≡ get_or ns i x) (env now : List Value) (out out1 : State) (same : now ≡ env) where
    rest : Trees
    rest = trees_of (drop (i + 1) ns)

    here : {A : Type 0} (go : Value → S → Completion S A) (v : Value) → means setting (tree_of x) now out ≡ Completes v (st out1) → bind (means setting (tree_of x) env out) go ≡ go v (st out1)
    here go v h = ap (λ c. bind c go) (subst (λ l. means setting (tree_of x) l out ≡ Completes v (st out1)) same h)

    stops_here : (y : ThreadStop) → Stops all y (st out1) (means setting (tree_of x) now out) → Stops all y (st out1) (means setting (tree_of x) env out)
    stops_here y h = subst (λ l. Stops all y (st out1) (means setting (tree_of x) l out)) same h

    all_next : (vs : List Value) → collects fx call setting.turns on vs (trees_of (drop i ns)) env (st out) ≡ bind (means setting (tree_of x) env out) (λ v s1. collects fx call setting.turns on (vs ++ v ∷ []) (trees_of (drop (i + 1) ns)) env s1)
    all_next vs = ap (λ es. collects fx call setting.turns on vs es env (st out)) (trees_from ns i x lt is) ∙ collects-more fx call setting.turns on vs (tree_of x) (trees_of (drop (i + 1) ns)) env (st out)

    pub all_more : (vs us : List Value) (v : Value) → means setting (tree_of x) now out ≡ Completes v (st out1) → us ≡ vs ++ v ∷ []
        → collects fx call setting.turns on vs (trees_of (drop i ns)) env (st out) ≡ collects fx call setting.turns on us (trees_of (drop (i + 1) ns)) env (st out1)
    all_more vs us v h pushed =
        all_next vs ∙ here (λ w s1. collects fx call setting.turns on (vs ++ w ∷ []) (trees_of (drop (i + 1) ns)) env s1) v h
        ∙ ap (λ ws. collects fx call setting.turns on ws (trees_of (drop (i + 1) ns)) env (st out1)) (sym pushed)

    pub all_stop : (vs : List Value) (y : ThreadStop) → Stops all y (st out1) (means setting (tree_of x) now out) → Stops all y (st out1) (collects fx call setting.turns on vs (trees_of (drop i ns)) env (st out))
    all_stop vs y h =
        stops_whole all y (st out1) (collects fx call setting.turns on vs (trees_of (drop i ns)) env (st out)) (means setting (tree_of x) env out) (λ v s1. collects fx call setting.turns on (vs ++ v ∷ []) (trees_of (drop (i + 1) ns)) env s1) (all_next vs) (stops_here y h)

    locals_next : locals_mean setting (trees_of (drop i ns)) env out ≡ bind (means setting (tree_of x) env out) (λ v s1. locals_after fx call setting.turns on (trees_of (drop (i + 1) ns)) (env ++ v ∷ []) s1)
    locals_next = ap (λ es. locals_mean setting es env out) (trees_from ns i x lt is) ∙ locals_after-more fx call setting.turns on (tree_of x) (trees_of (drop (i + 1) ns)) env (st out)

    pub locals_more : (v : Value) (longer : List Value) → means setting (tree_of x) now out ≡ Completes v (st out1) → longer ≡ env ++ v ∷ []
        → locals_mean setting (trees_of (drop i ns)) env out ≡ locals_mean setting (trees_of (drop (i + 1) ns)) longer out1
    locals_more v longer h pushed =
        locals_next ∙ here (λ w s1. locals_after fx call setting.turns on (trees_of (drop (i + 1) ns)) (env ++ w ∷ []) s1) v h
        ∙ ap (λ l. locals_mean setting (trees_of (drop (i + 1) ns)) l out1) (sym pushed)

    pub locals_stop : (y : ThreadStop) → Stops all y (st out1) (means setting (tree_of x) now out) → Stops all y (st out1) (locals_mean setting (trees_of (drop i ns)) env out)
    locals_stop y h =
        stops_whole all y (st out1) (locals_mean setting (trees_of (drop i ns)) env out) (means setting (tree_of x) env out) (λ v s1. locals_after fx call setting.turns on (trees_of (drop (i + 1) ns)) (env ++ v ∷ []) s1) locals_next (stops_here y h)

  -- the nodes before the last one, and then that
  module _ (before ns : List Node) (last : Node) (env : List Value) (out : State) (is : ns ≡ before ++ last ∷ []) where
    do_is : do_means setting (trees_of ns) env out ≡ bind (all_mean setting (trees_of before) env out) (λ vs s1. eval fx call setting.turns on (tree_of last) env s1)
    do_is = ap (λ l. do_means setting (trees_of l) env out) is ∙ do-then_last fx call setting.turns on before last env (st out) ∙ last_after fx call setting.turns on (trees_of before) (tree_of last) env (st out)

    pub do_stop : {V : Type 0} (f : V → List Value) (y : ThreadStop) (out1 : State) → GivesAll setting f (Err y) out1 (all_mean setting (trees_of before) env out) → Stops all y (st out1) (do_means setting (trees_of ns) env out)
    do_stop f y out1 h = stops_whole all y (st out1) (do_means setting (trees_of ns) env out) (all_mean setting (trees_of before) env out) (λ vs s1. eval fx call setting.turns on (tree_of last) env s1) do_is h

    pub do_done : (vs : List Value) (out1 : State) → all_mean setting (trees_of before) env out ≡ Completes vs (st out1) → (later : List Value) → later ≡ env → (r : Result Step ThreadStop) (out2 : State) → Steps setting r out2 (means setting (tree_of last) later out1)
        → Steps setting r out2 (do_means setting (trees_of ns) env out)
    do_done vs out1 h later same r out2 g =
        let whole : do_means setting (trees_of ns) env out ≡ means setting (tree_of last) env out1 = do_is ∙ ap (λ c. bind c (λ us s1. eval fx call setting.turns on (tree_of last) env s1)) h in
        subst (λ c. Steps setting r out2 c) (sym whole) (subst (λ l. Steps setting r out2 (means setting (tree_of last) l out1)) same g)

  -- a body after its new locals
  module _ (es : Trees) (body : Tree) (env : List Value) (out : State) where
    let_is : let_means setting es body env out ≡ bind (locals_mean setting es env out) (λ ls s1. eval fx call setting.turns on body ls s1)
    let_is = sym (bind-bind (eval_let fx call setting.turns on es env (st out)) (λ vs s1. Completes (env ++ vs) s1) (λ ls s1. eval fx call setting.turns on body ls s1))

    loop_is : loop_means setting es body env out ≡ bind (locals_mean setting es env out) (λ ls s1. turns setting.turns (count es) (λ ws s2. eval fx call setting.turns on body (env ++ ws) s2) (drop (length env) ls) s1)
    loop_is = after_locals fx call setting.turns on es env (st out) (λ vs s1. turns setting.turns (count es) (λ ws s2. eval fx call setting.turns on body (env ++ ws) s2) vs s1)

    pub let_stop : (y : ThreadStop) (out1 : State) → Stops all y (st out1) (locals_mean setting es env out) → Stops all y (st out1) (let_means setting es body env out)
    let_stop y out1 h = stops_whole all y (st out1) (let_means setting es body env out) (locals_mean setting es env out) (λ ls s1. eval fx call setting.turns on body ls s1) let_is h

    pub loop_stop : (y : ThreadStop) (out1 : State) → Stops all y (st out1) (locals_mean setting es env out) → Stops all y (st out1) (loop_means setting es body env out)
    loop_stop y out1 h =
        stops_whole all y (st out1) (loop_means setting es body env out) (locals_mean setting es env out) (λ ls s1. turns setting.turns (count es) (λ ws s2. eval fx call setting.turns on body (env ++ ws) s2) (drop (length env) ls) s1) loop_is h

    module _ (now : List Value) (out1 out2 : State) (r : Result Step ThreadStop) (h : locals_mean setting es env out ≡ Completes now (st out1)) where
      pub let_done : Steps setting r out2 (means setting body now out1) → Steps setting r out2 (let_means setting es body env out)
      let_done g = subst (λ c. Steps setting r out2 c) (sym (let_is ∙ ap (λ c. bind c (λ ls s1. eval fx call setting.turns on body ls s1)) h)) g

      pub loop_done : (b d : ℕ) → b ≡ length env → d ≡ count es → take b now ≡ env → Steps setting r out2 (turns_mean setting setting.turns d body (take b now) (drop b now) out1) → Steps setting r out2 (loop_means setting es body env out)
      loop_done b d place many kept g =
          let there : Steps setting r out2 (turns_mean setting setting.turns (count es) body env (drop (length env) now) out1) =
          subst₂ (λ j l. Steps setting r out2 (turns_mean setting setting.turns (count es) body l (drop j now) out1)) place kept (subst (λ k. Steps setting r out2 (turns_mean setting setting.turns k body (take b now) (drop b now) out1)) many g) in
          subst (λ c. Steps setting r out2 c) (sym (loop_is ∙ ap (λ c. bind c (λ ls s1. turns setting.turns (count es) (λ ws s2. eval fx call setting.turns on body (env ++ ws) s2) (drop (length env) ls) s1)) h)) there

  -- one turn of a loop, with these locals and as many turns after it
  module _ (body : Tree) (b d k m : ℕ) (env now : List Value) (out out1 : State) (left : k ≡ suc m) (kept : take b now ≡ env) (many : length (drop b now) ≡ d) where
    turn_next : turns_mean setting k d body env (drop b now) out ≡ again (means setting body now out) (turns m d (λ ws s. eval fx call setting.turns on body (env ++ ws) s))
    turn_next =
        let joined : env ++ drop b now ≡ now = ap (λ l. l ++ drop b now) (sym kept) ∙ take-append-drop b now in
        ap (λ j. turns_mean setting j d body env (drop b now) out) left
        ∙ turns-more m d (λ ws s. eval fx call setting.turns on body (env ++ ws) s) (drop b now) (st out) many
        ∙ ap (λ l. again (means setting body l out) (turns m d (λ ws s. eval fx call setting.turns on body (env ++ ws) s))) joined

    pub turn_value : (v : Value) → means setting body now out ≡ Completes v (st out1) → turns_mean setting k d body env (drop b now) out ≡ Completes v (st out1)
    turn_value v h = turn_next ∙ ap (λ c. again c (turns m d (λ ws s. eval fx call setting.turns on body (env ++ ws) s))) h

    pub turn_stop : (y : ThreadStop) → Stops all y (st out1) (means setting body now out) → Stops all y (st out1) (turns_mean setting k d body env (drop b now) out)
    turn_stop y h = subst (λ c. Stops all y (st out1) c) (sym turn_next) (stops_again all y (st out1) (means setting body now out) (turns m d (λ ws s. eval fx call setting.turns on body (env ++ ws) s)) h)

    pub turn_recur : (ws later : List Value) → means setting body now out ≡ Recurs ws (st out1) → drop b later ≡ ws → turns_mean setting k d body env (drop b now) out ≡ turns_mean setting m d body env (drop b later) out1
    turn_recur ws later h rebound =
        turn_next ∙ ap (λ c. again c (turns m d (λ us s. eval fx call setting.turns on body (env ++ us) s))) h
        ∙ ap (λ us. turns m d (λ us s. eval fx call setting.turns on body (env ++ us) s) us (st out1)) (sym rebound)

-- a call is the turns of the function's body, one level deeper
module _ (setting : Setting) (f : ℕ) (fun : PlainFunction) (left : 0 < setting.depth) (there : nth (functions_of setting.functions) f ≡ Some fun) where
  abbrev fx_at : ℕ → Effects (Part setting.world)
  fx_at = forms_on setting.world (around_it setting)

  abbrev body_at : PlainFunction → List Value → Part setting.world → Completion (Part setting.world) Value
  body_at g = λ ws t. eval (fx_at (setting.depth - 1)) (call_at fx_at setting.turns (functions_of setting.functions) (setting.depth - 1)) setting.turns (is_on setting.world) g.body ws t

  pub call_turns : (d : ℕ) (vs env ws : List Value) (out : State) → fun.parameters ≡ d → env ≡ [] → ws ≡ vs → call_means setting f vs out ≡ turns_mean (deeper setting) (suc setting.turns) d fun.body env ws out
  call_turns d vs env ws out many none_before same =
      let one_more : setting.depth ≡ suc (setting.depth - 1) = omega (arith, left) in
      let s : Part setting.world = part setting.world out in
      ap (λ k. call_at fx_at setting.turns (functions_of setting.functions) k (is_on setting.world) f vs s) one_more
      ∙ ap (λ o. bind (give o s) (λ g t. turns (suc setting.turns) g.parameters (body_at g) vs t)) there
      ∙ ap (λ k. turns (suc setting.turns) k (body_at fun) vs s) many
      ∙ ap (λ us. turns (suc setting.turns) d (body_at fun) us s) (sym same)
      ∙ ap (λ l. turns_mean (deeper setting) (suc setting.turns) d fun.body l ws out) (sym none_before)

  pub called : (n d : ℕ) (vs env ws : List Value) (out out1 : State) (r : Result Value ThreadStop) (x : Setting) → n ≡ suc setting.turns → x ≡ deeper setting → fun.parameters ≡ d → env ≡ [] → ws ≡ vs → Yields x r out1 (turns_mean x n d fun.body env ws out)
      → Yields setting r out1 (call_means setting f vs out)
  called n d vs env ws out out1 r x as_many is many none_before same h =
      let here : Yields x r out1 (turns_mean x (suc setting.turns) d fun.body env ws out) = subst (λ k. Yields x r out1 (turns_mean x k d fun.body env ws out)) as_many h in
      subst (λ c. Yields setting r out1 c) (sym (call_turns d vs env ws out many none_before same)) (subst (λ y. Yields y r out1 (turns_mean y (suc setting.turns) d fun.body env ws out)) is here)

-- the values of the next turn behind the locals before them
pub rebound : (b : ℕ) (now later ws : List Value) → b ≤ length now → later ≡ take b now ++ ws → (take b later ≡ take b now) × (length later ≡ b + length ws) × (drop b later ≡ ws)
rebound b now later ws le is =
    let short : length (take b now) ≡ b = omega (arith, length-take b now, le) in (
      subst (λ k. take k later ≡ take b now) short (ap (λ l. take (length (take b now)) l) is ∙ take-append_seam (take b now) ws),
      ap length is ∙ length-append (take b now) ws ∙ ap (λ k. k + length ws) short,
      subst (λ k. drop k later ≡ ws) short (ap (λ l. drop (length (take b now)) l) is ∙ drop-append_seam (take b now) ws),
    )

-- the locals that were there stay in front
pub take_kept : (env now longer : List Value) (v : Value) → take (length env) now ≡ env → longer ≡ now ++ v ∷ [] → take (length env) longer ≡ env
take_kept env now longer v before pushed =
    let short : length env ≤ length now = omega (arith, length-take (length env) now, ap length before) in
    ap (λ l. take (length env) l) pushed ∙ take-append-le (length env) now (v ∷ []) short ∙ before
