-- What is found of an action, by what its evaluator answers.
use Rattle.std.proofs.Common.{◌≡◌, ◌≤◌, ◌+◌, ◌-◌, ◌==◌, ◌&&◌, ℕ, suc, Bool, true, false, List, [], ◌∷◌, ◌++◌, length, take, Option, Some, None, Result, Ok, refl, sym, ap, ◌∙◌, subst, arith, if◌then◌else◌}
use Rattle.std.specs.Prelude.{nat_le, not}
use Rattle.std.proofs.lemmas.Bool.{eq-eqb, eqb-true, false≢true}
use Rattle.std.proofs.lemmas.List.{length_push}
use Rattle.txs_value_data.specs.Places.{nth}
use Rattle.txs_value_data.specs.declared.fault.Fault.{Fault}
use Rattle.txs_value_data.specs.declared.fault.Span.{Span}
use Rattle.txs_value_data.specs.declared.op.Callee.{Callee}
use Rattle.txs_value_data.specs.declared.op.Callee.TheVariants.{Core as CoreOp, Function}
use Rattle.txs_value_apply.specs.Core.{takes}
use Rattle.txs_value_cell.specs.declared.action.Action.{Action}
use Rattle.txs_value_cell.specs.declared.cell.CellDefinition.{CellDefinition}
use Rattle.txs_value_data.specs.Limits.{most_items}
use Rattle.txs_value_data.specs.declared.value.CellId.{CellId}
use Rattle.txs_value_data.specs.declared.value.Value.{Value}
use Rattle.txs_world_book.specs.Book.{newest, opening}
use Rattle.txs_world_book.specs.Served.{cells_of}
use Rattle.txs_world_book.specs.declared.cell.StoreCell.{StoreCell}
use Rattle.txs_world_protocol.specs.SeenEvent.{SeenEvent}
use Rattle.txs_world_protocol.specs.declared.event.Event.{Event}
use Rattle.txs_tree_eval.specs.ActionTold.{ActionTellsOf, ActionTellsWrong, TellsAction}
use Rattle.txs_tree_eval.specs.declared.action.ActionMeaning.{ActionMeaning}
use Rattle.txs_tree_eval.specs.declared.meaning.Needs.TheVariants as needs
use Rattle.txs_tree_eval_node.specs.Events.{seen_events}
use Rattle.txs_tree_eval_node.specs.declared.seen.Seen.{Seen}
use Rattle.txs_tree_meaning.specs.Known.{Known, known}
use Rattle.txs_tree_meaning.specs.Meaning.{Completion, Completes, Recurs, Faults, Retries, Waits, OutOfTurns, Invalid}
use Rattle.txs_tree_meaning.specs.Right.{is_wrong, right_events}
use Rattle.txs_tree_meaning.specs.Sound.{SentCall, SentCallee, Sound}
use Rattle.txs_tree_meaning.specs.Thread.{ThreadState, action_in, around_action}
use Rattle.txs_tree_meaning.specs.Tree.{PlainProgram}
use Rattle.txs_tree_meaning.proofs.Callable.{both}
use Rattle.txs_theorem_threads.specs.FollowsAgent.{SoundAction}
use Rattle.txs_theorem_threads.specs.Noted.{txs_of}
use Rattle.txs_theorem_runs.specs.Told.{Place, seen_before, seen_of}
use Rattle.txs_theorem_audit.specs.Audited.{PlainReport, books_of, Finding, Fine, Off, and_then}
use Rattle.txs_theorem_audit.specs.Verdict.{act_ends, action_covered, action_found, action_prints, begins, covered_all, full_ends, is_full_book, is_sent_call, is_sent_known, least_of, noted_in, printed_by, part_printed, rest_ends, same_numbers, still_ends, still_found}
use Rattle.txs_theorem_audit.proofs.Agreeing.{sent_of}
use Rattle.txs_theorem_audit.proofs.Findings.{not_there}
use Rattle.txs_theorem_audit.specs.Evaluated.{ActBy, ActionEnd, ActionGives, ActionNotedBy, CalmBy, CoveredBy, RestFullBy, StillBy, act_by, calm_found_by, covered_all_by, means_on, prints_by, rest_full_by, still_by}
use Rattle.txs_audit_book.proofs.Sources.{all_but_last}
use Rattle.txs_audit_book.specs.Judged.{EndsBy, is_fine}
use Rattle.txs_audit_evidence.specs.Acted.{acted, calm_since, covered_since, end_by, waited}
use Rattle.txs_audit_evidence.specs.declared.acts.Ending.{Ending}
use Rattle.txs_audit_evidence.specs.declared.acts.Ending.TheVariants as ending
use Rattle.txs_audit_evidence.proofs.ThreadFound.{fine_is, first_found}

-- ---- callees

-- a callee that may be sent may be applied as an action
pub callee_of : (ks : List Known) (c : Callee) (n : ℕ) → is_sent_call ks c n ≡ true → SentCallee ks c n
callee_of ks (CoreOp op) n h = (both (takes op n) (nat_le n most_items) h).0
callee_of ks (Function f) n h = sent_of ks (Function f) n h

bool_is : (a b : Bool) → (a ≡ true → b ≡ true) → (b ≡ true → a ≡ true) → a ≡ b
bool_is true b h k = sym (h refl)
bool_is false true h k = k refl
bool_is false false h k = refl

pub function_sent : (ks : List Known) (c : Callee) (n f : ℕ) → Function f ≡ c → (sent : Bool) → (sent ≡ true → SentCallee ks c n) → (SentCallee ks c n → sent ≡ true) → sent ≡ is_sent_call ks c n
function_sent ks c n f is sent h k =
    bool_is sent (is_sent_call ks (Function f) n) (λ e. told (subst (λ d. SentCallee ks d n) (sym is) (h e))) (λ e. k (subst (λ d. SentCallee ks d n) is (sent_of ks (Function f) n e))) ∙ ap (λ d. is_sent_call ks d n) is
  where
    told : SentCall ks f n → is_sent_known (nth ks f) n ≡ true
    told s = ap (λ o. is_sent_known o n) s.found ∙ both_true (eq-eqb s.function.parameters n s.arity) s.zoned
      where
        both_true : (s.function.parameters == n) ≡ true → s.function.inside ≡ false → is_sent_known (Some s.function) n ≡ true
        both_true a z = ap (λ b. b && not s.function.inside) a ∙ ap not z

-- ---- events

-- no more events are named than there are entries
pub seen_few : (cells : List CellDefinition) (books : ℕ → List Event) (ps : List Place) → length (seen_of cells books ps) ≤ length ps
seen_few cells books [] = omega arith
seen_few cells books (p ∷ ps) = go (nth (books p.book) p.at) (seen_few cells books ps)
  where
    go : (o : Option Event) → length (seen_of cells books ps) ≤ length ps → length (seen_before cells books p o (seen_of cells books ps)) ≤ suc (length ps)
    go None h = omega (arith, h)
    go (Some e) h = omega (arith, h)

-- an action eats no more events than there are
right_few : (m : List SeenEvent → Completion ThreadState Value) (done es : List SeenEvent) → right_events m done es ≤ length done + length es
right_few m done [] = omega arith
right_few m done (e ∷ es) = go (is_wrong (m (done ++ e ∷ []))) (right_few m (done ++ e ∷ []) es)
  where
    go : (b : Bool) → right_events m (done ++ e ∷ []) es ≤ length (done ++ e ∷ []) + length es → (if b then length done else right_events m (done ++ e ∷ []) es) ≤ length done + suc (length es)
    go true h = omega arith
    go false h = let l = length_push done e in omega (arith, h, l)

ate_few : (m : ActionMeaning) (k right : ℕ) → right ≤ k → (before c : Completion ThreadState Value) → ActionTellsOf m k right before c → m.eaten ≤ k
ate_few m k right le before (Completes v t) h = let e = h.eaten in omega (arith, e)
ate_few m k right le before (Recurs vs t) h = absurd h
ate_few m k right le before (Faults f t) h = let e = h.eaten in omega (arith, e)
ate_few m k right le before (Retries t) h = absurd h
ate_few m k right le before (Waits t) h = let e = h.eaten in omega (arith, e)
ate_few m k right le before (OutOfTurns t) h = let e = h.eaten in omega (arith, e)
ate_few m k right le before Invalid h = wrong before h
  where
    wrong : (c : Completion ThreadState Value) → ActionTellsWrong m right c → m.eaten ≤ k
    wrong (Completes v t) g = absurd g
    wrong (Recurs vs t) g = absurd g
    wrong (Faults f t) g = absurd g
    wrong (Retries t) g = absurd g
    wrong (Waits t) g = let e = g.eaten in omega (arith, e, le)
    wrong (OutOfTurns t) g = absurd g
    wrong Invalid g = absurd g

pub eaten_few : (p : PlainProgram) (c : Callee) (span : Span) (vs : List Value) (n : ℕ) (es : List SeenEvent) (m : ActionMeaning) → TellsAction m p c span vs n es → m.eaten ≤ length es
eaten_few p c span vs n es m tells =
    let means = action_in (around_action p.cells p.functions n) c span vs in
    let few = right_few means [] es in
    let le : right_events means [] es ≤ length es = omega (arith, few) in
    ate_few m (length es) (right_events means [] es) le (means (take (right_events means [] es) es)) (means es) tells

-- an action that has a value needs nothing
value_of : (m : ActionMeaning) (k right : ℕ) (before c : Completion ThreadState Value) → ActionTellsOf m k right before c → (w : Value) → m.result ≡ Some (Ok w) → m.needs ≡ needs.Nothing
value_of m k right before (Completes v t) h w there = h.needs
value_of m k right before (Recurs vs t) h w there = absurd h
value_of m k right before (Faults f t) h w there = h.needs
value_of m k right before (Retries t) h w there = absurd h
value_of m k right before (Waits t) h w there = not_there (sym h.result ∙ there)
value_of m k right before (OutOfTurns t) h w there = not_there (sym h.result ∙ there)
value_of m k right before Invalid h w there = wrong before h
  where
    wrong : (c : Completion ThreadState Value) → ActionTellsWrong m right c → m.needs ≡ needs.Nothing
    wrong (Completes v t) g = absurd g
    wrong (Recurs vs t) g = absurd g
    wrong (Faults f t) g = absurd g
    wrong (Retries t) g = absurd g
    wrong (Waits t) g = not_there (sym g.result ∙ there)
    wrong (OutOfTurns t) g = absurd g
    wrong Invalid g = absurd g

value_needs : (p : PlainProgram) (c : Callee) (span : Span) (vs : List Value) (n : ℕ) (es : List SeenEvent) (m : ActionMeaning) → TellsAction m p c span vs n es → (w : Value) → m.result ≡ Some (Ok w) → m.needs ≡ needs.Nothing
value_needs p c span vs n es m tells =
    let means = action_in (around_action p.cells p.functions n) c span vs in
    value_of m (length es) (right_events means [] es) (means (take (right_events means [] es) es)) (means es) tells

-- ---- what is found of an action with this state on the events of a part of a trace

-- an action of whose end nothing is found has a meaning
act_right : (cells : List StoreCell) (done : List Event) (span : Span) (a i k : ℕ) (m : List SeenEvent → Completion ThreadState Value) (es : List SeenEvent) (new : Result Value Fault) (sends : List Action) (c : Completion ThreadState Value)
    → act_ends cells done span a i k m es new sends c ≡ Fine → is_wrong c ≡ false
act_right cells done span a i k m es new sends (Completes v t) h = refl
act_right cells done span a i k m es new sends (Recurs vs t) h = absurd cc
act_right cells done span a i k m es new sends (Faults f t) h = refl
act_right cells done span a i k m es new sends (Retries t) h = absurd cc
act_right cells done span a i k m es new sends (Waits t) h = refl
act_right cells done span a i k m es new sends (OutOfTurns t) h = refl
act_right cells done span a i k m es new sends Invalid h = absurd cc

full_right : (books : ℕ → List Event) (a i k : ℕ) (m : List SeenEvent → Completion ThreadState Value) (es : List SeenEvent) (out : List ℕ) (c : Completion ThreadState Value) → full_ends books a i k m es out c ≡ Fine → is_wrong c ≡ false
full_right books a i k m es out (Completes v t) h = refl
full_right books a i k m es out (Recurs vs t) h = absurd cc
full_right books a i k m es out (Faults f t) h = refl
full_right books a i k m es out (Retries t) h = absurd cc
full_right books a i k m es out (Waits t) h = refl
full_right books a i k m es out (OutOfTurns t) h = refl
full_right books a i k m es out Invalid h = absurd cc

still_right : (a i k : ℕ) (m : List SeenEvent → Completion ThreadState Value) (es : List SeenEvent) (out : List ℕ) (c : Completion ThreadState Value) → still_ends a i k m es out c ≡ Fine → is_wrong c ≡ false
still_right a i k m es out (Completes v t) h = refl
still_right a i k m es out (Recurs vs t) h = absurd cc
still_right a i k m es out (Faults f t) h = refl
still_right a i k m es out (Retries t) h = absurd cc
still_right a i k m es out (Waits t) h = refl
still_right a i k m es out (OutOfTurns t) h = refl
still_right a i k m es out Invalid h = absurd cc

rest_right : (books : ℕ → List Event) (full : Bool) (a i k : ℕ) (m : List SeenEvent → Completion ThreadState Value) (es : List SeenEvent) (out : List ℕ) (c : Completion ThreadState Value) → rest_ends books full a i k m es out c ≡ Fine → is_wrong c ≡ false
rest_right books true a i k m es out c h = full_right books a i k m es out c h
rest_right books false a i k m es out c h = still_right a i k m es out c h

module _ (p : PlainProgram) (r : PlainReport) (n : ℕ) (x : Action) (v : Value) (since : List Place) (sound : Sound p) (sent : is_sent_call (known p.functions) x.callee (suc (length x.args)) ≡ true)
    (m : ActionMeaning) (tells : TellsAction m p x.callee x.span (v ∷ x.args) n (seen_of p.cells (books_of r) since)) where
  abbrev es : List SeenEvent
  es = seen_of p.cells (books_of r) since

  abbrev means : List SeenEvent → Completion ThreadState Value
  means = means_on p n x v

  fits : SoundAction p.functions x
  fits = sent_of (known p.functions) x.callee (suc (length x.args)) sent

  calm_is : CalmBy → ActionNotedBy → (a i : ℕ) → calm_since p r n a i x v since ≡ calm_found_by (cells_of p.cells) (books_of r) a i since m.txs
  calm_is calm noted a i =
      calm (cells_of p.cells) (books_of r) a i since (noted_in means es) ∙ ap (λ ms. calm_found_by (cells_of p.cells) (books_of r) a i since ms) (sym (noted p n x v es m sound fits tells).0)

  -- where something is found of its transactions, that is found first
  pub off_first : CalmBy → ActionNotedBy → (a i : ℕ) (f : Finding) → f ≡ calm_found_by (cells_of p.cells) (books_of r) a i since m.txs → is_fine f ≡ false → (rest : Finding) → f ≡ and_then (calm_since p r n a i x v since) rest
  off_first calm noted a i f is not rest =
      let all = is ∙ sym (calm_is calm noted a i) in
      all ∙ sym (first_found (calm_since p r n a i x v since) rest (ap is_fine (sym all) ∙ not))

  -- else what is found of its end
  pub end_last : CalmBy → ActionNotedBy → (a i : ℕ) (f : Finding) → f ≡ calm_found_by (cells_of p.cells) (books_of r) a i since m.txs → is_fine f ≡ true → (rest : Finding) → rest ≡ and_then (calm_since p r n a i x v since) rest
  end_last calm noted a i f is fine rest = ap (λ h. and_then h rest) (sym (fine_is f fine) ∙ is ∙ sym (calm_is calm noted a i))

  -- where the action has a meaning, its commits are covered if those are that are answered
  covered_is : CoveredBy → ActionNotedBy → is_wrong (means es) ≡ false → covered_all_by (books_of r) since m.txs ≡ covered_since p r n x v since
  covered_is covered noted right =
      ap (λ ms. covered_all_by (books_of r) since ms) (noted p n x v es m sound fits tells).0
      ∙ sym (covered (books_of r) since (noted_in means es))
      ∙ ap (λ b. covered_all (books_of r) since (txs_of (if b then means (take (right_events means [] es) es) else means es))) right

  -- so they are where nothing is found of its end
  pub end_covered : CoveredBy → ActionNotedBy → (a i k : ℕ) (e : Ending) (f : Finding) → f ≡ end_by p r n a i k x v since e → f ≡ Fine → covered_all_by (books_of r) since m.txs ≡ covered_since p r n x v since
  end_covered covered noted a i k (ending.Act act) f is fine =
      covered_is covered noted (act_right (cells_of p.cells) (take act.at r.book) x.span a i k means es act.new.now act.sends.now (means es) (sym is ∙ fine))
  end_covered covered noted a i k (ending.Waits full out) f is fine = covered_is covered noted (rest_right (books_of r) full a i k means es out.now (means es) (sym is ∙ fine))

-- ---- the end of an action

module _ (p : PlainProgram) (n : ℕ) (x : Action) (v : Value) (es : List SeenEvent) (sound : Sound p) (sent : is_sent_call (known p.functions) x.callee (suc (length x.args)) ≡ true) (m : ActionMeaning)
    (tells : TellsAction m p x.callee x.span (v ∷ x.args) n es) (a i k : ℕ) (end : ActionEnd) (ends : EndsBy p n x m end) (f : Finding) (count : ℕ) (many : count ≡ length es) where
  fits_here : SoundAction p.functions x
  fits_here = sent_of (known p.functions) x.callee (suc (length x.args)) sent

  gives : ActionGives p n x v es m ends.0
  gives = record { tells = tells; validator = λ w there. ends.2 w (value_needs p x.callee x.span (v ∷ x.args) n es m tells w there) there }

  -- of one that is over, by its act
  pub over_is : ActBy → (cells : List StoreCell) (done : List Event) (new : Result Value Fault) (sends : List Action) → f ≡ act_by cells done x.span a i k count m.eaten m.sends new sends end
      → f ≡ act_ends cells done x.span a i k (means_on p n x v) es new sends (means_on p n x v es)
  over_is law cells done new sends is =
      is ∙ ap (λ c. act_by cells done x.span a i k c m.eaten m.sends new sends end) many
      ∙ ap (act_by cells done x.span a i k (length es) m.eaten m.sends new sends) ends.1
      ∙ sym (law p n a i k cells done x v es new sends m ends.0 sound fits_here gives)

  -- of one that isn't, by whether it printed a part
  pub still_is : (out : List ℕ) → StillBy → (part : Bool) → part ≡ part_printed (means_on p n x v) es out m.printed → f ≡ still_by a i k count m.eaten part end → f ≡ still_ends a i k (means_on p n x v) es out (means_on p n x v es)
  still_is out law part printed is =
      is ∙ ap (λ c. still_by a i k c m.eaten part end) many
      ∙ ap (λ b. still_by a i k (length es) m.eaten b end) printed
      ∙ ap (still_by a i k (length es) m.eaten (part_printed (means_on p n x v) es out m.printed)) ends.1
      ∙ sym (law p n a i k x v es out m ends.0 sound fits_here gives)

  -- by whether the books are full
  pub full_is : (out : List ℕ) → RestFullBy → (books : ℕ → List Event) (store full : Bool) → store ≡ is_full_book books (Some 0) → full ≡ is_full_book books m.asks → f ≡ rest_full_by a i k count m.eaten store full (same_numbers out m.printed) end
      → f ≡ full_ends books a i k (means_on p n x v) es out (means_on p n x v es)
  full_is out law books store full store_is asked_is is =
      is ∙ ap (λ c. rest_full_by a i k c m.eaten store full (same_numbers out m.printed) end) many
      ∙ ap (λ b. rest_full_by a i k (length es) m.eaten b full (same_numbers out m.printed) end) store_is
      ∙ ap (λ b. rest_full_by a i k (length es) m.eaten (is_full_book books (Some 0)) b (same_numbers out m.printed) end) asked_is
      ∙ ap (rest_full_by a i k (length es) m.eaten (is_full_book books (Some 0)) (is_full_book books m.asks) (same_numbers out m.printed)) ends.1
      ∙ sym (law books p n a i k x v es out m ends.0 sound fits_here gives)

-- what an action prints on these events
pub action_printed : (p : PlainProgram) (n : ℕ) (x : Action) (v : Value) (es : List SeenEvent) → Sound p → is_sent_call (known p.functions) x.callee (suc (length x.args)) ≡ true → (m : ActionMeaning) → TellsAction m p x.callee x.span (v ∷ x.args) n es
    → ActionNotedBy → prints_by m.needs m.printed ≡ printed_by (means_on p n x v es)
action_printed p n x v es sound sent m tells noted = sym (noted p n x v es m sound (sent_of (known p.functions) x.callee (suc (length x.args)) sent) tells).1

-- what it prints at least
pub least_none : (p : PlainProgram) (n : ℕ) (x : Action) (v : Value) (es : List Seen) (out : List ℕ) → (length es == 0) ≡ true → true ≡ begins (least_of (means_on p n x v) (seen_events es)) out
least_none p n x v [] out none = refl
least_none p n x v (d ∷ ds) out none = (let z = eqb-true (length (d ∷ ds)) 0 none in absurd (omega (arith, z)))

pub least_printed : (p : PlainProgram) (n : ℕ) (x : Action) (v : Value) (es before : List Seen) → Sound p → is_sent_call (known p.functions) x.callee (suc (length x.args)) ≡ true → (length es == 0) ≡ false → before ≡ take (length es - 1) es → (m : ActionMeaning) → TellsAction m p x.callee x.span (v ∷ x.args) n (seen_events before)
    → ActionNotedBy → prints_by m.needs m.printed ≡ least_of (means_on p n x v) (seen_events es)
least_printed p n x v [] before sound sent some is m tells noted = absurd (false≢true (sym some))
least_printed p n x v (e ∷ es) before sound sent some is m tells noted =
    action_printed p n x v (seen_events before) sound sent m tells noted ∙ ap (λ l. printed_by (means_on p n x v l)) (ap seen_events is ∙ all_but_last e es)

-- ---- the action that is next

module _ (p : PlainProgram) (r : PlainReport) (n a i k : ℕ) (done : List Event) (g : CellId) (since : List Place) (new : Result Value Fault) (sends : List Action) where
  abbrev state : Value
  state = newest (opening (cells_of p.cells)) done g.number

  -- none
  pub none_found : (o : Option Action) → None ≡ o → Off a k ≡ action_found p r n a i k done g since new sends o
  none_found o is = ap (action_found p r n a i k done g since new sends) is

  -- one that may not be sent
  pub unsent_found : (o : Option Action) (x : Action) → Some x ≡ o → is_sent_call (known p.functions) x.callee (suc (length x.args)) ≡ false → Off a k ≡ action_found p r n a i k done g since new sends o
  unsent_found o x is not = sym (ap (λ b. if b then acted p r n a i k done x state since new sends else Off a k) not) ∙ ap (action_found p r n a i k done g since new sends) is

  -- one that may
  pub sent_found : (o : Option Action) (x : Action) → Some x ≡ o → (v : Value) → Some v ≡ Some state → is_sent_call (known p.functions) x.callee (suc (length x.args)) ≡ true → acted p r n a i k done x v since new sends ≡ action_found p r n a i k done g since new sends o
  sent_found o x is v its may =
      ap (λ w. acted p r n a i k done x w since new sends) (some_value v state its)
      ∙ sym (ap (λ b. if b then acted p r n a i k done x state since new sends else Off a k) may) ∙ ap (action_found p r n a i k done g since new sends) is
    where
      some_value : (v w : Value) → Some v ≡ Some w → v ≡ w
      some_value v w e = cc

module _ (p : PlainProgram) (r : PlainReport) (n : ℕ) (done : List Event) (g : CellId) (since : List Place) where
  abbrev state_there : Value
  state_there = newest (opening (cells_of p.cells)) done g.number

  same_value_there : (v w : Value) → Some v ≡ Some w → v ≡ w
  same_value_there v w e = cc

  pub sent_covered : (o : Option Action) (x : Action) → Some x ≡ o → (v : Value) → Some v ≡ Some state_there → covered_since p r n x v since ≡ action_covered p r n done g since o
  sent_covered o x is v its = ap (λ w. covered_since p r n x w since) (same_value_there v state_there its) ∙ ap (action_covered p r n done g since) is

  pub none_prints : (o : Option Action) → None ≡ o → [] ≡ action_prints p r n done g since o
  none_prints o is = ap (action_prints p r n done g since) is

  pub unsent_prints : (o : Option Action) (x : Action) → Some x ≡ o → is_sent_call (known p.functions) x.callee (suc (length x.args)) ≡ false → [] ≡ action_prints p r n done g since o
  unsent_prints o x is not =
      sym (ap (λ b. if b then printed_by (means_on p n x state_there (seen_of p.cells (books_of r) since)) else []) not) ∙ ap (action_prints p r n done g since) is

  pub sent_prints : (o : Option Action) (x : Action) → Some x ≡ o → (v : Value) → Some v ≡ Some state_there → is_sent_call (known p.functions) x.callee (suc (length x.args)) ≡ true
      → printed_by (means_on p n x v (seen_of p.cells (books_of r) since)) ≡ action_prints p r n done g since o
  sent_prints o x is v its may =
      ap (λ w. printed_by (means_on p n x w (seen_of p.cells (books_of r) since))) (same_value_there v state_there its)
      ∙ sym (ap (λ b. if b then printed_by (means_on p n x state_there (seen_of p.cells (books_of r) since)) else []) may) ∙ ap (action_prints p r n done g since) is

  -- without events no commit is uncovered
  pub nothing_covered : (o : Option Action) → true ≡ action_covered p r n done g [] o
  nothing_covered None = refl
  nothing_covered (Some x) = refl

module _ (p : PlainProgram) (r : PlainReport) (n : ℕ) (full : Bool) (a i k : ℕ) (g : CellId) (since : List Place) (out : List ℕ) where
  abbrev last_state : Value
  last_state = newest (opening (cells_of p.cells)) r.book g.number

  pub none_still : (o : Option Action) → None ≡ o → Off a i ≡ still_found p r n full a i k g since out o
  none_still o is = ap (still_found p r n full a i k g since out) is

  pub unsent_still : (o : Option Action) (x : Action) → Some x ≡ o → is_sent_call (known p.functions) x.callee (suc (length x.args)) ≡ false → Off a i ≡ still_found p r n full a i k g since out o
  unsent_still o x is not = sym (ap (λ b. if b then waited p r n full a i k x last_state since out else Off a i) not) ∙ ap (still_found p r n full a i k g since out) is

  pub sent_still : (o : Option Action) (x : Action) → Some x ≡ o → (v : Value) → Some v ≡ Some last_state → is_sent_call (known p.functions) x.callee (suc (length x.args)) ≡ true → waited p r n full a i k x v since out ≡ still_found p r n full a i k g since out o
  sent_still o x is v its may =
      ap (λ w. waited p r n full a i k x w since out) (some_value v last_state its)
      ∙ sym (ap (λ b. if b then waited p r n full a i k x last_state since out else Off a i) may) ∙ ap (still_found p r n full a i k g since out) is
    where
      some_value : (v w : Value) → Some v ≡ Some w → v ≡ w
      some_value v w e = cc
