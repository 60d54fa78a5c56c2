-- States that are alike are so to themselves, the other way round and on; the same actors may go on in them, and the same is told of them.
use Rattle.std.proofs.Common.{◌≡◌, ◌≤◌, ℕ, suc, Bool, true, false, not, ◌&&◌, ◌==◌, List, [], ◌∷◌, ◌++◌, length, length-append, append_assoc, Option, refl, sym, ap, subst, ◌∙◌, arith}
use Rattle.txs_world_protocol.specs.SeenEvent.{home}
use Rattle.txs_world_protocol.specs.declared.ask.Ask.TheVariants as ask
use Rattle.txs_world_protocol.specs.declared.event.Event.{Event}
use Rattle.txs_value_data.specs.declared.fault.Fault.{Fault}
use Rattle.txs_value_data.specs.declared.value.CellId.{CellId}
use Rattle.txs_value_data.specs.declared.value.CellKind.{CellKind}
use Rattle.txs_value_data.specs.declared.value.CellKind.TheVariants.{Ref, Atom, Agent}
use Rattle.txs_value_data.specs.declared.value.Value.{Value}
use Rattle.txs_value_data.specs.Places.{nth}
use Rattle.txs_value_cell.specs.Forms.{same_kind}
use Rattle.txs_value_cell.specs.declared.cell.CellDefinition.{CellDefinition}
use Rattle.txs_world_book.specs.Book.{actor_of, has_agent, is_of_kind, is_failed, is_there, times_written, mail_after}
use Rattle.txs_world_book.specs.Served.{cells_of}
use Rattle.txs_world_book.specs.declared.cell.StoreCell.{StoreCell}
use Rattle.txs_world_book.proofs.Outcomes.{both}
use Rattle.txs_world.specs.Store.{first_action, is_taken, next_action}
use Rattle.txs_theorem_runs.specs.Shared.{Shared, may_ask, world_of}
use Rattle.txs_theorem_runs.specs.Stages.{Stage, Resting, Idle, Open, Viewing, Swapping}
use Rattle.txs_world_shared.specs.SharedState.{PlainShared, shared_of}
use Rattle.txs_world_shared.specs.Parts.{values_from, values_of, with_fault, faults_from, faults_of}
use Rattle.txs_theorem_alike.specs.Books.{SamePoint, SameView, SameSwap, Alike}
use Rattle.txs_theorem_alike.specs.Stages.{SameStage, Rests, Idles, Tries, Redoes, Swaps, AllAlike}
use Rattle.txs_theorem_alike.specs.Unseen.{IsWithin, SameNext}
use Rattle.txs_theorem_alike.proofs.Eleven.{outdated_of}

-- ---- to itself

pub alike_itself : (cells : List CellDefinition) (sh : Shared) → Alike cells sh sh
alike_itself cells sh = record { store = λ c i. refl; mail = λ g i. record { actions = refl; fault = refl }; atoms = λ c i. refl; taken = refl }

point_itself : (cells : List StoreCell) (b : List Event) (p : ℕ) → p ≤ length b → SamePoint cells b b p p
point_itself cells b p le = record { in_first = le; in_other = le; refs = λ r i. record { times = refl; value = λ f. refl } }

view_itself : (cells : List StoreCell) (b : List Event) (p : ℕ) → p ≤ length b → SameView cells b b p p
view_itself cells b p le = record { in_first = le; in_other = le; refs = λ r i. refl }

pub stage_itself : (cells : List CellDefinition) (sh : Shared) (st : Stage) → IsWithin cells sh st → SameStage cells sh sh st st
stage_itself cells sh Resting h = Rests
stage_itself cells sh Idle h = Idles
stage_itself cells sh (Open p) h = Tries p p (point_itself (cells_of cells) (sh.books 0) p h)
stage_itself cells sh (Viewing p v) h = Redoes p p v v (point_itself (cells_of cells) (sh.books 0) p h.0) (view_itself (cells_of cells) (sh.books 0) v h.1)
stage_itself cells sh (Swapping c p) h = Swaps c p p (record { in_first = h; in_other = h; since = refl })

pub itself : (cells : List CellDefinition) (sh : Shared) (x : ℕ → Stage) → ((b : ℕ) → IsWithin cells sh (x b)) → AllAlike cells sh sh x x
itself cells sh x h = record { shared = alike_itself cells sh; stages = λ b. stage_itself cells sh (x b) (h b) }

-- ---- the other way round

pub alike_back : (cells : List CellDefinition) (sh th : Shared) → Alike cells sh th → Alike cells th sh
alike_back cells sh th h = record {
  store = λ c i. sym (h.store c i);
  mail = λ g i. record { actions = sym (h.mail g i).actions; fault = sym (h.mail g i).fault };
  atoms = λ c i. sym (h.atoms c i);
  taken = sym h.taken;
}

point_back : (cells : List StoreCell) (b c : List Event) (p q : ℕ) → SamePoint cells b c p q → SamePoint cells c b q p
point_back cells b c p q s = record {
  in_first = s.in_other;
  in_other = s.in_first;
  refs = λ r i. record { times = sym (s.refs r i).times; value = λ f. sym ((s.refs r i).value (outdated_of (times_written r.number p b) (times_written r.number q c) (s.refs r i).times ∙ f)) };
}

view_back : (cells : List StoreCell) (b c : List Event) (p q : ℕ) → SameView cells b c p q → SameView cells c b q p
view_back cells b c p q s = record { in_first = s.in_other; in_other = s.in_first; refs = λ r i. sym (s.refs r i) }

pub stage_back : (cells : List CellDefinition) (sh th : Shared) (st su : Stage) → SameStage cells sh th st su → SameStage cells th sh su st
stage_back cells sh th _ _ Rests = Rests
stage_back cells sh th _ _ Idles = Idles
stage_back cells sh th _ _ (Tries p q s) = Tries q p (point_back (cells_of cells) (sh.books 0) (th.books 0) p q s)
stage_back cells sh th _ _ (Redoes p q v w s t) = Redoes q p w v (point_back (cells_of cells) (sh.books 0) (th.books 0) p q s) (view_back (cells_of cells) (sh.books 0) (th.books 0) v w t)
stage_back cells sh th _ _ (Swaps c p q s) = Swaps c q p (record { in_first = s.in_other; in_other = s.in_first; since = sym s.since })

pub back : (cells : List CellDefinition) (sh th : Shared) (x y : ℕ → Stage) → AllAlike cells sh th x y → AllAlike cells th sh y x
back cells sh th x y h = record { shared = alike_back cells sh th h.shared; stages = λ b. stage_back cells sh th (x b) (y b) (h.stages b) }

-- ---- on

pub alike_on : (cells : List CellDefinition) (sh th uh : Shared) → Alike cells sh th → Alike cells th uh → Alike cells sh uh
alike_on cells sh th uh h g = record {
  store = λ c i. h.store c i ∙ g.store c i;
  mail = λ c i. record { actions = (h.mail c i).actions ∙ (g.mail c i).actions; fault = (h.mail c i).fault ∙ (g.mail c i).fault };
  atoms = λ c i. h.atoms c i ∙ g.atoms c i;
  taken = h.taken ∙ g.taken;
}

point_on : (cells : List StoreCell) (b c d : List Event) (p q r : ℕ) → SamePoint cells b c p q → SamePoint cells c d q r → SamePoint cells b d p r
point_on cells b c d p q r s t = record {
  in_first = s.in_first;
  in_other = t.in_other;
  refs = λ o i. record {
    times = (s.refs o i).times ∙ (t.refs o i).times;
    value = λ f. (s.refs o i).value f ∙ (t.refs o i).value (sym (outdated_of (times_written o.number p b) (times_written o.number q c) (s.refs o i).times) ∙ f);
  };
}

view_on : (cells : List StoreCell) (b c d : List Event) (p q r : ℕ) → SameView cells b c p q → SameView cells c d q r → SameView cells b d p r
view_on cells b c d p q r s t = record { in_first = s.in_first; in_other = t.in_other; refs = λ o i. s.refs o i ∙ t.refs o i }

swap_on : (b c d : List Event) (p q r : ℕ) → SameSwap b c p q → SameSwap c d q r → SameSwap b d p r
swap_on b c d p q r s t = record { in_first = s.in_first; in_other = t.in_other; since = s.since ∙ t.since }

pub stage_on : (cells : List CellDefinition) (sh th uh : Shared) (st su sv : Stage) → SameStage cells sh th st su → SameStage cells th uh su sv → SameStage cells sh uh st sv
stage_on cells sh th uh _ _ _ Rests Rests = Rests
stage_on cells sh th uh _ _ _ Idles Idles = Idles
stage_on cells sh th uh _ _ _ (Tries p q s) (Tries _ r t) = Tries p r (point_on (cells_of cells) (sh.books 0) (th.books 0) (uh.books 0) p q r s t)
stage_on cells sh th uh _ _ _ (Redoes p q v w s a) (Redoes _ r _ u t b) =
    Redoes p r v u (point_on (cells_of cells) (sh.books 0) (th.books 0) (uh.books 0) p q r s t) (view_on (cells_of cells) (sh.books 0) (th.books 0) (uh.books 0) v w u a b)
stage_on cells sh th uh _ _ _ (Swaps c p q s) (Swaps _ _ r t) = Swaps c p r (swap_on (sh.books (home cells c)) (th.books (home cells c)) (uh.books (home cells c)) p q r s t)

pub on : (cells : List CellDefinition) (sh th uh : Shared) (x y z : ℕ → Stage) → AllAlike cells sh th x y → AllAlike cells th uh y z → AllAlike cells sh uh x z
on cells sh th uh x y z h g = record { shared = alike_on cells sh th uh h.shared g.shared; stages = λ b. stage_on cells sh th uh (x b) (y b) (z b) (h.stages b) (g.stages b) }

-- ---- who may go on

module _ (cells : List CellDefinition) (threads a : ℕ) (g : CellId) (sh th : Shared) (h : Alike cells sh th) where
  abbrev may_in : Shared → Bool
  may_in u = may_ask cells threads u.taken a (ask.Take g) (u.books 0)

  next_same : has_agent (cells_of cells) g ≡ true → next_action (cells_of cells) (sh.books 0) g ≡ next_action (cells_of cells) (th.books 0) g
  next_same i =
      ap (λ (o : Option Fault). first_action (is_there o) (mail_after (cells_of cells) (sh.books 0) g.number).actions) (h.mail g i).fault
      ∙ ap (first_action (is_failed (cells_of cells) (th.books 0) g)) (h.mail g i).actions

  may_same : may_in sh ≡ may_in th
  may_same = ap (λ t. may_ask cells threads t a (ask.Take g) (th.books 0)) h.taken

  idle_same : (t : Bool) → may_in sh ≡ t → (may_in sh && not (is_there (next_action (cells_of cells) (sh.books 0) g))) ≡ (may_in th && not (is_there (next_action (cells_of cells) (th.books 0) g)))
  idle_same true e =
      let named = both (a == actor_of threads (cells_of cells) g) (has_agent (cells_of cells) g && not (is_taken sh.taken g)) e in
      let here = (both (has_agent (cells_of cells) g) (not (is_taken sh.taken g)) named.1).0 in
      ap (λ t. t && not (is_there (next_action (cells_of cells) (sh.books 0) g))) may_same ∙ ap (λ o. may_in th && not (is_there o)) (next_same here)
  idle_same false e =
      ap (λ t. t && not (is_there (next_action (cells_of cells) (sh.books 0) g))) e ∙ sym (ap (λ t. t && not (is_there (next_action (cells_of cells) (th.books 0) g))) (sym may_same ∙ e))

pub due : (cells : List CellDefinition) (threads a : ℕ) (g : CellId) (sh th : Shared) → Alike cells sh th → SameNext cells threads a g sh th
due cells threads a g sh th h = record {
  next = next_same cells threads a g sh th h;
  may = may_same cells threads a g sh th h;
  idle = idle_same cells threads a g sh th h (may_ask cells threads sh.taken a (ask.Take g) (sh.books 0)) refl;
}

-- ---- what is told

kind_itself : (k : CellKind) → same_kind k k ≡ true
kind_itself Ref = refl
kind_itself Atom = refl
kind_itself Agent = refl

-- a cell behind these is there
is_there_behind : (done : List CellDefinition) (d : CellDefinition) (ds : List CellDefinition) → is_of_kind d.kind (nth (cells_of (done ++ d ∷ ds)) (length done)) ≡ true
is_there_behind [] d ds = kind_itself d.kind
is_there_behind (c ∷ cs) d ds = is_there_behind cs d ds

abbrev newest_in : List CellDefinition → Shared → CellId → Value
newest_in cells sh c = world_of cells (home cells c) (sh.books (home cells c)) (length (sh.books (home cells c))) c.number

module _ (cells : List CellDefinition) (sh th : Shared) (h : Alike cells sh th) where
  newest_same : (k : CellKind) (n : ℕ) → is_of_kind k (nth (cells_of cells) n) ≡ true → newest_in cells sh (record { kind = k; number = n }) ≡ newest_in cells th (record { kind = k; number = n })
  newest_same Ref n i = h.store (record { kind = Ref; number = n }) i
  newest_same Atom n i = h.atoms (record { kind = Atom; number = n }) i
  newest_same Agent n i = h.store (record { kind = Agent; number = n }) i

  values_same : (done ds : List CellDefinition) (n : ℕ) → length done ≡ n → done ++ ds ≡ cells → values_from (newest_in cells sh) n ds ≡ values_from (newest_in cells th) n ds
  values_same done [] n e i = refl
  values_same done (d ∷ ds) n e i =
      let here : is_of_kind d.kind (nth (cells_of cells) n) ≡ true = subst (λ m. is_of_kind d.kind (nth (cells_of cells) m) ≡ true) e (subst (λ cs. is_of_kind d.kind (nth (cells_of cs) (length done)) ≡ true) i (is_there_behind done d ds)) in
      ap (λ v. v ∷ values_from (newest_in cells sh) (suc n) ds) (newest_same d.kind n here)
      ∙ ap (λ l. newest_in cells th (record { kind = d.kind; number = n }) ∷ l)
      (values_same (done ++ d ∷ []) ds (suc n) (length-append done (d ∷ []) ∙ omega (arith, e)) (append_assoc done (d ∷ []) ds ∙ i))

abbrev fault_in : List CellDefinition → Shared → ℕ → Option Fault
fault_in cells sh n = (mail_after (cells_of cells) (sh.books 0) n).fault

module _ (cells : List CellDefinition) (sh th : Shared) (h : Alike cells sh th) where
  fault_same : (k : CellKind) (n : ℕ) (fs : List (Option Fault)) → is_of_kind k (nth (cells_of cells) n) ≡ true → with_fault (fault_in cells sh) k n fs ≡ with_fault (fault_in cells th) k n fs
  fault_same Ref n fs i = refl
  fault_same Atom n fs i = refl
  fault_same Agent n fs i = ap (λ f. f ∷ fs) (h.mail (record { kind = Agent; number = n }) i).fault

  faults_same : (done ds : List CellDefinition) (n : ℕ) → length done ≡ n → done ++ ds ≡ cells → faults_from (fault_in cells sh) n ds ≡ faults_from (fault_in cells th) n ds
  faults_same done [] n e i = refl
  faults_same done (d ∷ ds) n e i =
      let here : is_of_kind d.kind (nth (cells_of cells) n) ≡ true = subst (λ m. is_of_kind d.kind (nth (cells_of cells) m) ≡ true) e (subst (λ cs. is_of_kind d.kind (nth (cells_of cs) (length done)) ≡ true) i (is_there_behind done d ds)) in
      fault_same d.kind n (faults_from (fault_in cells sh) (suc n) ds) here
      ∙ ap (with_fault (fault_in cells th) d.kind n)
      (faults_same (done ++ d ∷ []) ds (suc n) (length-append done (d ∷ []) ∙ omega (arith, e)) (append_assoc done (d ∷ []) ds ∙ i))

pub told : (s t : PlainShared) → s.cells ≡ t.cells → Alike s.cells (shared_of s) (shared_of t) → (values_of s ≡ values_of t) × (faults_of s ≡ faults_of t)
told s t e h = (
  values_same s.cells (shared_of s) (shared_of t) h [] s.cells 0 refl refl ∙ ap (λ cs. values_from (newest_in cs (shared_of t)) 0 cs) e,
  faults_same s.cells (shared_of s) (shared_of t) h [] s.cells 0 refl refl ∙ ap (λ cs. faults_from (fault_in cs (shared_of t)) 0 cs) e,
)
