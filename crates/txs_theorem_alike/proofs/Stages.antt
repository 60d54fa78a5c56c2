-- An actor's stage after its ask is the same in alike states, but for places that tell the same, and those of the others stay so.
use Rattle.std.proofs.Common.{◌≡◌, ℕ, Bool, true, false, ◌==◌, List, [], ◌∷◌, Some, refl, sym, subst, if◌then◌else◌}
use Rattle.txs_world_protocol.specs.Ask.{Writes}
use Rattle.txs_world_protocol.specs.SeenEvent.{home}
use Rattle.txs_world_protocol.specs.declared.ask.Ask.{Ask}
use Rattle.txs_world_protocol.specs.declared.ask.Ask.TheVariants as ask
use Rattle.txs_world_protocol.specs.declared.ask.Reply.{Reply}
use Rattle.txs_world_protocol.specs.declared.ask.Reply.TheVariants as reply
use Rattle.txs_value_data.specs.declared.value.CellId.{CellId}
use Rattle.txs_value_data.specs.declared.value.Value.{Value}
use Rattle.txs_value_cell.specs.declared.action.Action.{Action}
use Rattle.txs_value_cell.specs.declared.cell.CellDefinition.{CellDefinition}
use Rattle.txs_world_book.specs.Served.{cells_of}
use Rattle.txs_theorem_runs.specs.Shared.{Shared, book_for, serve_on, may_ask}
use Rattle.txs_theorem_runs.specs.Stages.{Stage, Resting, Idle, Open, Viewing, Swapping, AsksIn, stage_after}
use Rattle.txs_theorem_alike.specs.Books.{SamePoint, SameView, SameSwap, ViewServes, SameAsk, Begins, Looks, Views, Commits, Fails, Peeks, Sends, Takes, Finishes, Opens, Closes, Resets, Breaks, SameReply, HasRoom, StayAlike}
use Rattle.txs_theorem_alike.specs.Stages.{SameStage, Rests, Idles, Tries, Redoes, Swaps, EqualBut, AllAlike, with_stage, stages_after, behind, StepsAlike}
use Rattle.txs_theorem_alike.specs.Stages as but
use Rattle.txs_theorem_alike.proofs.Answering.{answers}

-- ---- the stage after a reply

module _ (cells : List CellDefinition) (sh th : Shared) (n : ℕ) where
  -- a transaction begins
  begin_next : (x y : Reply) → SameReply cells sh th n x y → SameStage cells sh th (stage_after Idle ask.Begin x) (stage_after Idle ask.Begin y)
  begin_next (reply.At i) y h = subst (λ z. SameStage cells sh th (Open i) (stage_after Idle ask.Begin z)) (sym h.1) (Tries i h.0 h.2)
  begin_next (reply.Is u) y h = subst (λ z. SameStage cells sh th Idle (stage_after Idle ask.Begin z)) (sym h) Idles
  begin_next (reply.Views i vs) y h = subst (λ z. SameStage cells sh th Idle (stage_after Idle ask.Begin z)) (sym h.1) Idles
  begin_next reply.Done y h = subst (λ z. SameStage cells sh th Idle (stage_after Idle ask.Begin z)) (sym h) Idles
  begin_next (reply.Retry d) y h = subst (λ z. SameStage cells sh th Idle (stage_after Idle ask.Begin z)) (sym h) Idles
  begin_next (reply.Changed d) y h = subst (λ z. SameStage cells sh th Idle (stage_after Idle ask.Begin z)) (sym h) Idles
  begin_next (reply.AgentIsFailed o) y h = subst (λ z. SameStage cells sh th Idle (stage_after Idle ask.Begin z)) (sym h) Idles
  begin_next (reply.Action k z u) y h = subst (λ z. SameStage cells sh th Idle (stage_after Idle ask.Begin z)) (sym h.1) Idles
  begin_next reply.Idle y h = subst (λ z. SameStage cells sh th Idle (stage_after Idle ask.Begin z)) (sym h) Idles
  begin_next (reply.Opened i u) y h = subst (λ z. SameStage cells sh th Idle (stage_after Idle ask.Begin z)) (sym h.1) Idles
  begin_next reply.Full y h = subst (λ z. SameStage cells sh th Idle (stage_after Idle ask.Begin z)) (sym h) Idles
  begin_next reply.Memory y h = subst (λ z. SameStage cells sh th Idle (stage_after Idle ask.Begin z)) (sym h) Idles

  -- a swap begins
  open_next : (c : CellId) → n ≡ home cells c → (x y : Reply) → SameReply cells sh th n x y → SameStage cells sh th (stage_after Idle (ask.OpenAt c) x) (stage_after Idle (ask.OpenAt c) y)
  open_next c m (reply.At i) y h = subst (λ z. SameStage cells sh th Idle (stage_after Idle (ask.OpenAt c) z)) (sym h.1) Idles
  open_next c m (reply.Is u) y h = subst (λ z. SameStage cells sh th Idle (stage_after Idle (ask.OpenAt c) z)) (sym h) Idles
  open_next c m (reply.Views i vs) y h = subst (λ z. SameStage cells sh th Idle (stage_after Idle (ask.OpenAt c) z)) (sym h.1) Idles
  open_next c m reply.Done y h = subst (λ z. SameStage cells sh th Idle (stage_after Idle (ask.OpenAt c) z)) (sym h) Idles
  open_next c m (reply.Retry d) y h = subst (λ z. SameStage cells sh th Idle (stage_after Idle (ask.OpenAt c) z)) (sym h) Idles
  open_next c m (reply.Changed d) y h = subst (λ z. SameStage cells sh th Idle (stage_after Idle (ask.OpenAt c) z)) (sym h) Idles
  open_next c m (reply.AgentIsFailed o) y h = subst (λ z. SameStage cells sh th Idle (stage_after Idle (ask.OpenAt c) z)) (sym h) Idles
  open_next c m (reply.Action k z u) y h = subst (λ z. SameStage cells sh th Idle (stage_after Idle (ask.OpenAt c) z)) (sym h.1) Idles
  open_next c m reply.Idle y h = subst (λ z. SameStage cells sh th Idle (stage_after Idle (ask.OpenAt c) z)) (sym h) Idles
  open_next c m (reply.Opened i u) y h = subst (λ z. SameStage cells sh th (Swapping c i) (stage_after Idle (ask.OpenAt c) z)) (sym h.1) (Swaps c i h.0 (subst (λ j. SameSwap (sh.books j) (th.books j) i h.0) m h.2))
  open_next c m reply.Full y h = subst (λ z. SameStage cells sh th Idle (stage_after Idle (ask.OpenAt c) z)) (sym h) Idles
  open_next c m reply.Memory y h = subst (λ z. SameStage cells sh th Idle (stage_after Idle (ask.OpenAt c) z)) (sym h) Idles

  -- an action is taken
  take_next : (g : CellId) → (x y : Reply) → SameReply cells sh th n x y → SameStage cells sh th (stage_after Resting (ask.Take g) x) (stage_after Resting (ask.Take g) y)
  take_next g (reply.At i) y h = subst (λ z. SameStage cells sh th Resting (stage_after Resting (ask.Take g) z)) (sym h.1) Rests
  take_next g (reply.Is u) y h = subst (λ z. SameStage cells sh th Resting (stage_after Resting (ask.Take g) z)) (sym h) Rests
  take_next g (reply.Views i vs) y h = subst (λ z. SameStage cells sh th Resting (stage_after Resting (ask.Take g) z)) (sym h.1) Rests
  take_next g reply.Done y h = subst (λ z. SameStage cells sh th Resting (stage_after Resting (ask.Take g) z)) (sym h) Rests
  take_next g (reply.Retry d) y h = subst (λ z. SameStage cells sh th Resting (stage_after Resting (ask.Take g) z)) (sym h) Rests
  take_next g (reply.Changed d) y h = subst (λ z. SameStage cells sh th Resting (stage_after Resting (ask.Take g) z)) (sym h) Rests
  take_next g (reply.AgentIsFailed o) y h = subst (λ z. SameStage cells sh th Resting (stage_after Resting (ask.Take g) z)) (sym h) Rests
  take_next g (reply.Action k z u) y h = subst (λ z. SameStage cells sh th Idle (stage_after Resting (ask.Take g) z)) (sym h.1) Idles
  take_next g reply.Idle y h = subst (λ z. SameStage cells sh th Resting (stage_after Resting (ask.Take g) z)) (sym h) Rests
  take_next g (reply.Opened i u) y h = subst (λ z. SameStage cells sh th Resting (stage_after Resting (ask.Take g) z)) (sym h.1) Rests
  take_next g reply.Full y h = subst (λ z. SameStage cells sh th Resting (stage_after Resting (ask.Take g) z)) (sym h) Rests
  take_next g reply.Memory y h = subst (λ z. SameStage cells sh th Resting (stage_after Resting (ask.Take g) z)) (sym h) Rests

  -- a look in a transaction
  look_next : (p q : ℕ) → SamePoint (cells_of cells) (sh.books 0) (th.books 0) p q → (c : CellId) (a b : ℕ) → (x y : Reply) → SameReply cells sh th n x y → SameStage cells sh th (stage_after (Open p) (ask.Look c a) x) (stage_after (Open q) (ask.Look c b) y)
  look_next p q s c a b (reply.At i) y h = subst (λ z. SameStage cells sh th Idle (stage_after (Open q) (ask.Look c b) z)) (sym h.1) Idles
  look_next p q s c a b (reply.Is u) y h = subst (λ z. SameStage cells sh th (Open p) (stage_after (Open q) (ask.Look c b) z)) (sym h) (Tries p q s)
  look_next p q s c a b (reply.Views i vs) y h = subst (λ z. SameStage cells sh th Idle (stage_after (Open q) (ask.Look c b) z)) (sym h.1) Idles
  look_next p q s c a b reply.Done y h = subst (λ z. SameStage cells sh th Idle (stage_after (Open q) (ask.Look c b) z)) (sym h) Idles
  look_next p q s c a b (reply.Retry d) y h = subst (λ z. SameStage cells sh th Idle (stage_after (Open q) (ask.Look c b) z)) (sym h) Idles
  look_next p q s c a b (reply.Changed d) y h = subst (λ z. SameStage cells sh th Idle (stage_after (Open q) (ask.Look c b) z)) (sym h) Idles
  look_next p q s c a b (reply.AgentIsFailed o) y h = subst (λ z. SameStage cells sh th Idle (stage_after (Open q) (ask.Look c b) z)) (sym h) Idles
  look_next p q s c a b (reply.Action k z u) y h = subst (λ z. SameStage cells sh th Idle (stage_after (Open q) (ask.Look c b) z)) (sym h.1) Idles
  look_next p q s c a b reply.Idle y h = subst (λ z. SameStage cells sh th Idle (stage_after (Open q) (ask.Look c b) z)) (sym h) Idles
  look_next p q s c a b (reply.Opened i u) y h = subst (λ z. SameStage cells sh th Idle (stage_after (Open q) (ask.Look c b) z)) (sym h.1) Idles
  look_next p q s c a b reply.Full y h = subst (λ z. SameStage cells sh th Idle (stage_after (Open q) (ask.Look c b) z)) (sym h) Idles
  look_next p q s c a b reply.Memory y h = subst (λ z. SameStage cells sh th Idle (stage_after (Open q) (ask.Look c b) z)) (sym h) Idles

  -- a view
  view_next : (p q : ℕ) → SamePoint (cells_of cells) (sh.books 0) (th.books 0) p q → (cs : List CellId) → (x y : Reply) → SameReply cells sh th n x y → SameStage cells sh th (stage_after (Open p) (ask.View cs) x) (stage_after (Open q) (ask.View cs) y)
  view_next p q s cs (reply.At i) y h = subst (λ z. SameStage cells sh th Idle (stage_after (Open q) (ask.View cs) z)) (sym h.1) Idles
  view_next p q s cs (reply.Is u) y h = subst (λ z. SameStage cells sh th Idle (stage_after (Open q) (ask.View cs) z)) (sym h) Idles
  view_next p q s cs (reply.Views i vs) y h = subst (λ z. SameStage cells sh th (Viewing p i) (stage_after (Open q) (ask.View cs) z)) (sym h.1) (Redoes p q i h.0 s h.2)
  view_next p q s cs reply.Done y h = subst (λ z. SameStage cells sh th Idle (stage_after (Open q) (ask.View cs) z)) (sym h) Idles
  view_next p q s cs (reply.Retry d) y h = subst (λ z. SameStage cells sh th Idle (stage_after (Open q) (ask.View cs) z)) (sym h) Idles
  view_next p q s cs (reply.Changed d) y h = subst (λ z. SameStage cells sh th Idle (stage_after (Open q) (ask.View cs) z)) (sym h) Idles
  view_next p q s cs (reply.AgentIsFailed o) y h = subst (λ z. SameStage cells sh th Idle (stage_after (Open q) (ask.View cs) z)) (sym h) Idles
  view_next p q s cs (reply.Action k z u) y h = subst (λ z. SameStage cells sh th Idle (stage_after (Open q) (ask.View cs) z)) (sym h.1) Idles
  view_next p q s cs reply.Idle y h = subst (λ z. SameStage cells sh th Idle (stage_after (Open q) (ask.View cs) z)) (sym h) Idles
  view_next p q s cs (reply.Opened i u) y h = subst (λ z. SameStage cells sh th Idle (stage_after (Open q) (ask.View cs) z)) (sym h.1) Idles
  view_next p q s cs reply.Full y h = subst (λ z. SameStage cells sh th Idle (stage_after (Open q) (ask.View cs) z)) (sym h) Idles
  view_next p q s cs reply.Memory y h = subst (λ z. SameStage cells sh th Idle (stage_after (Open q) (ask.View cs) z)) (sym h) Idles

  -- a commit without a view
  commit_next : (p q : ℕ) → SamePoint (cells_of cells) (sh.books 0) (th.books 0) p q → (sets commuted : Writes) (ensured : List CellId) (sends : List Action) (a b v w : ℕ) → (x y : Reply) → SameReply cells sh th n x y → SameStage cells sh th (stage_after (Open p) (ask.Commit a sets ensured v commuted sends) x) (stage_after (Open q) (ask.Commit b sets ensured w commuted sends) y)
  commit_next p q s sets commuted ensured sends a b v w (reply.At i) y h = subst (λ z. SameStage cells sh th Idle (stage_after (Open q) (ask.Commit b sets ensured w commuted sends) z)) (sym h.1) Idles
  commit_next p q s sets commuted ensured sends a b v w (reply.Is u) y h = subst (λ z. SameStage cells sh th Idle (stage_after (Open q) (ask.Commit b sets ensured w commuted sends) z)) (sym h) Idles
  commit_next p q s sets commuted ensured sends a b v w (reply.Views i vs) y h = subst (λ z. SameStage cells sh th Idle (stage_after (Open q) (ask.Commit b sets ensured w commuted sends) z)) (sym h.1) Idles
  commit_next p q s sets commuted ensured sends a b v w reply.Done y h = subst (λ z. SameStage cells sh th Idle (stage_after (Open q) (ask.Commit b sets ensured w commuted sends) z)) (sym h) Idles
  commit_next p q s sets commuted ensured sends a b v w (reply.Retry d) y h = subst (λ z. SameStage cells sh th Idle (stage_after (Open q) (ask.Commit b sets ensured w commuted sends) z)) (sym h) Idles
  commit_next p q s sets commuted ensured sends a b v w (reply.Changed d) y h = subst (λ z. SameStage cells sh th (Open p) (stage_after (Open q) (ask.Commit b sets ensured w commuted sends) z)) (sym h) (Tries p q s)
  commit_next p q s sets commuted ensured sends a b v w (reply.AgentIsFailed o) y h = subst (λ z. SameStage cells sh th Idle (stage_after (Open q) (ask.Commit b sets ensured w commuted sends) z)) (sym h) Idles
  commit_next p q s sets commuted ensured sends a b v w (reply.Action k z u) y h = subst (λ z. SameStage cells sh th Idle (stage_after (Open q) (ask.Commit b sets ensured w commuted sends) z)) (sym h.1) Idles
  commit_next p q s sets commuted ensured sends a b v w reply.Idle y h = subst (λ z. SameStage cells sh th Idle (stage_after (Open q) (ask.Commit b sets ensured w commuted sends) z)) (sym h) Idles
  commit_next p q s sets commuted ensured sends a b v w (reply.Opened i u) y h = subst (λ z. SameStage cells sh th Idle (stage_after (Open q) (ask.Commit b sets ensured w commuted sends) z)) (sym h.1) Idles
  commit_next p q s sets commuted ensured sends a b v w reply.Full y h = subst (λ z. SameStage cells sh th Idle (stage_after (Open q) (ask.Commit b sets ensured w commuted sends) z)) (sym h) Idles
  commit_next p q s sets commuted ensured sends a b v w reply.Memory y h = subst (λ z. SameStage cells sh th Idle (stage_after (Open q) (ask.Commit b sets ensured w commuted sends) z)) (sym h) Idles

  -- a commit
  redo_next : (p q : ℕ) → SamePoint (cells_of cells) (sh.books 0) (th.books 0) p q → (e f : ℕ) (sets commuted : Writes) (ensured : List CellId) (sends : List Action) (a b v w : ℕ) → (x y : Reply) → SameReply cells sh th n x y → SameStage cells sh th (stage_after (Viewing p e) (ask.Commit a sets ensured v commuted sends) x) (stage_after (Viewing q f) (ask.Commit b sets ensured w commuted sends) y)
  redo_next p q s e f sets commuted ensured sends a b v w (reply.At i) y h = subst (λ z. SameStage cells sh th Idle (stage_after (Viewing q f) (ask.Commit b sets ensured w commuted sends) z)) (sym h.1) Idles
  redo_next p q s e f sets commuted ensured sends a b v w (reply.Is u) y h = subst (λ z. SameStage cells sh th Idle (stage_after (Viewing q f) (ask.Commit b sets ensured w commuted sends) z)) (sym h) Idles
  redo_next p q s e f sets commuted ensured sends a b v w (reply.Views i vs) y h = subst (λ z. SameStage cells sh th Idle (stage_after (Viewing q f) (ask.Commit b sets ensured w commuted sends) z)) (sym h.1) Idles
  redo_next p q s e f sets commuted ensured sends a b v w reply.Done y h = subst (λ z. SameStage cells sh th Idle (stage_after (Viewing q f) (ask.Commit b sets ensured w commuted sends) z)) (sym h) Idles
  redo_next p q s e f sets commuted ensured sends a b v w (reply.Retry d) y h = subst (λ z. SameStage cells sh th Idle (stage_after (Viewing q f) (ask.Commit b sets ensured w commuted sends) z)) (sym h) Idles
  redo_next p q s e f sets commuted ensured sends a b v w (reply.Changed d) y h = subst (λ z. SameStage cells sh th (Open p) (stage_after (Viewing q f) (ask.Commit b sets ensured w commuted sends) z)) (sym h) (Tries p q s)
  redo_next p q s e f sets commuted ensured sends a b v w (reply.AgentIsFailed o) y h = subst (λ z. SameStage cells sh th Idle (stage_after (Viewing q f) (ask.Commit b sets ensured w commuted sends) z)) (sym h) Idles
  redo_next p q s e f sets commuted ensured sends a b v w (reply.Action k z u) y h = subst (λ z. SameStage cells sh th Idle (stage_after (Viewing q f) (ask.Commit b sets ensured w commuted sends) z)) (sym h.1) Idles
  redo_next p q s e f sets commuted ensured sends a b v w reply.Idle y h = subst (λ z. SameStage cells sh th Idle (stage_after (Viewing q f) (ask.Commit b sets ensured w commuted sends) z)) (sym h) Idles
  redo_next p q s e f sets commuted ensured sends a b v w (reply.Opened i u) y h = subst (λ z. SameStage cells sh th Idle (stage_after (Viewing q f) (ask.Commit b sets ensured w commuted sends) z)) (sym h.1) Idles
  redo_next p q s e f sets commuted ensured sends a b v w reply.Full y h = subst (λ z. SameStage cells sh th Idle (stage_after (Viewing q f) (ask.Commit b sets ensured w commuted sends) z)) (sym h) Idles
  redo_next p q s e f sets commuted ensured sends a b v w reply.Memory y h = subst (λ z. SameStage cells sh th Idle (stage_after (Viewing q f) (ask.Commit b sets ensured w commuted sends) z)) (sym h) Idles

-- all stages and asks
next : (cells : List CellDefinition) (sh th sh2 th2 : Shared) → StayAlike cells sh th sh2 th2 → (st su : Stage) → SameStage cells sh th st su → (q r : Ask) → SameAsk cells sh th q r
    → (n : ℕ) → n ≡ book_for cells q → (x y : Reply) → SameReply cells sh2 th2 n x y → SameStage cells sh2 th2 (stage_after st q x) (stage_after su r y)
next cells sh th sh2 th2 k _ _ Idles _ _ Begins n m x y h = begin_next cells sh2 th2 n x y h
next cells sh th sh2 th2 k _ _ Idles _ _ (Looks c p q s) n m x y h = Idles
next cells sh th sh2 th2 k _ _ Idles _ _ (Views cs) n m x y h = Idles
next cells sh th sh2 th2 k _ _ Idles _ _ (Commits sets commuted ensured sends p q v w s t) n m x y h = Idles
next cells sh th sh2 th2 k _ _ Idles _ _ (Fails p q v w) n m x y h = Idles
next cells sh th sh2 th2 k _ _ Idles _ _ (Peeks c) n m x y h = Idles
next cells sh th sh2 th2 k _ _ Idles _ _ (Sends z) n m x y h = Idles
next cells sh th sh2 th2 k _ _ Idles _ _ (Takes i) n m x y h = Idles
next cells sh th sh2 th2 k _ _ Idles _ _ (Finishes i new sends) n m x y h = Rests
next cells sh th sh2 th2 k _ _ Idles _ _ (Opens c) n m x y h = open_next cells sh2 th2 n c m x y h
next cells sh th sh2 th2 k _ _ Idles _ _ (Closes c p q v s) n m x y h = Idles
next cells sh th sh2 th2 k _ _ Idles _ _ (Resets c v) n m x y h = Idles
next cells sh th sh2 th2 k _ _ Idles _ _ (Breaks c p q) n m x y h = Idles
next cells sh th sh2 th2 k _ _ Rests _ _ Begins n m x y h = Rests
next cells sh th sh2 th2 k _ _ Rests _ _ (Looks c p q s) n m x y h = Rests
next cells sh th sh2 th2 k _ _ Rests _ _ (Views cs) n m x y h = Rests
next cells sh th sh2 th2 k _ _ Rests _ _ (Commits sets commuted ensured sends p q v w s t) n m x y h = Rests
next cells sh th sh2 th2 k _ _ Rests _ _ (Fails p q v w) n m x y h = Rests
next cells sh th sh2 th2 k _ _ Rests _ _ (Peeks c) n m x y h = Rests
next cells sh th sh2 th2 k _ _ Rests _ _ (Sends z) n m x y h = Rests
next cells sh th sh2 th2 k _ _ Rests _ _ (Takes i) n m x y h = take_next cells sh2 th2 n i x y h
next cells sh th sh2 th2 k _ _ Rests _ _ (Finishes i new sends) n m x y h = Rests
next cells sh th sh2 th2 k _ _ Rests _ _ (Opens c) n m x y h = Rests
next cells sh th sh2 th2 k _ _ Rests _ _ (Closes c p q v s) n m x y h = Rests
next cells sh th sh2 th2 k _ _ Rests _ _ (Resets c v) n m x y h = Rests
next cells sh th sh2 th2 k _ _ Rests _ _ (Breaks c p q) n m x y h = Rests
next cells sh th sh2 th2 k _ _ (Tries p q o) _ _ Begins n m x y h = Idles
next cells sh th sh2 th2 k _ _ (Tries p q o) _ _ (Looks c e f s) n m x y h = look_next cells sh2 th2 n p q (k.points p q o) c e f x y h
next cells sh th sh2 th2 k _ _ (Tries p q o) _ _ (Views cs) n m x y h = view_next cells sh2 th2 n p q (k.points p q o) cs x y h
next cells sh th sh2 th2 k _ _ (Tries p q o) _ _ (Commits sets commuted ensured sends e f v w s t) n m x y h = commit_next cells sh2 th2 n p q (k.points p q o) sets commuted ensured sends e f v w x y h
next cells sh th sh2 th2 k _ _ (Tries p q o) _ _ (Fails e f v w) n m x y h = Idles
next cells sh th sh2 th2 k _ _ (Tries p q o) _ _ (Peeks c) n m x y h = Idles
next cells sh th sh2 th2 k _ _ (Tries p q o) _ _ (Sends z) n m x y h = Idles
next cells sh th sh2 th2 k _ _ (Tries p q o) _ _ (Takes i) n m x y h = Idles
next cells sh th sh2 th2 k _ _ (Tries p q o) _ _ (Finishes i new sends) n m x y h = Rests
next cells sh th sh2 th2 k _ _ (Tries p q o) _ _ (Opens c) n m x y h = Idles
next cells sh th sh2 th2 k _ _ (Tries p q o) _ _ (Closes c e f v s) n m x y h = Idles
next cells sh th sh2 th2 k _ _ (Tries p q o) _ _ (Resets c v) n m x y h = Idles
next cells sh th sh2 th2 k _ _ (Tries p q o) _ _ (Breaks c e f) n m x y h = Idles
next cells sh th sh2 th2 k _ _ (Redoes p q a b o u) _ _ Begins n m x y h = Idles
next cells sh th sh2 th2 k _ _ (Redoes p q a b o u) _ _ (Looks c e f s) n m x y h = Idles
next cells sh th sh2 th2 k _ _ (Redoes p q a b o u) _ _ (Views cs) n m x y h = Idles
next cells sh th sh2 th2 k _ _ (Redoes p q a b o u) _ _ (Commits sets commuted ensured sends e f v w s t) n m x y h = redo_next cells sh2 th2 n p q (k.points p q o) a b sets commuted ensured sends e f v w x y h
next cells sh th sh2 th2 k _ _ (Redoes p q a b o u) _ _ (Fails e f v w) n m x y h = Idles
next cells sh th sh2 th2 k _ _ (Redoes p q a b o u) _ _ (Peeks c) n m x y h = Idles
next cells sh th sh2 th2 k _ _ (Redoes p q a b o u) _ _ (Sends z) n m x y h = Idles
next cells sh th sh2 th2 k _ _ (Redoes p q a b o u) _ _ (Takes i) n m x y h = Idles
next cells sh th sh2 th2 k _ _ (Redoes p q a b o u) _ _ (Finishes i new sends) n m x y h = Idles
next cells sh th sh2 th2 k _ _ (Redoes p q a b o u) _ _ (Opens c) n m x y h = Idles
next cells sh th sh2 th2 k _ _ (Redoes p q a b o u) _ _ (Closes c e f v s) n m x y h = Idles
next cells sh th sh2 th2 k _ _ (Redoes p q a b o u) _ _ (Resets c v) n m x y h = Idles
next cells sh th sh2 th2 k _ _ (Redoes p q a b o u) _ _ (Breaks c e f) n m x y h = Idles
next cells sh th sh2 th2 k _ _ (Swaps d p q o) _ _ s n m x y h = Idles

-- ---- the stages of the others

stage_stays : (cells : List CellDefinition) (sh th sh2 th2 : Shared) → StayAlike cells sh th sh2 th2 → (st su : Stage) → SameStage cells sh th st su → SameStage cells sh2 th2 st su
stage_stays cells sh th sh2 th2 k _ _ Rests = Rests
stage_stays cells sh th sh2 th2 k _ _ Idles = Idles
stage_stays cells sh th sh2 th2 k _ _ (Tries p q s) = Tries p q (k.points p q s)
stage_stays cells sh th sh2 th2 k _ _ (Redoes p q v w s t) = Redoes p q v w (k.points p q s) (k.views v w t)
stage_stays cells sh th sh2 th2 k _ _ (Swaps c p q s) = Swaps c p q (k.swaps (home cells c) p q s)

-- ---- the places of an ask are those of its stage

module _ (cells : List CellDefinition) (sh th : Shared) (agent : Bool) where
  look_in : (c : CellId) (p q : ℕ) (st su : Stage) → SameStage cells sh th st su → AsksIn agent st (ask.Look c p) → AsksIn agent su (ask.Look c q) → SameAsk cells sh th (ask.Look c p) (ask.Look c q)
  look_in c p q _ _ Rests i j = absurd i
  look_in c p q _ _ Idles i j = absurd i
  look_in c p q _ _ (Tries e f s) i j = Looks c p q (subst (λ m. SamePoint (cells_of cells) (sh.books 0) (th.books 0) p m) j (subst (λ m. SamePoint (cells_of cells) (sh.books 0) (th.books 0) m f) i s))
  look_in c p q _ _ (Redoes e f v w s t) i j = absurd i
  look_in c p q _ _ (Swaps d e f s) i j = absurd i

  commit_in : (sets commuted : Writes) (ensured : List CellId) (sends : List Action) (p q v w : ℕ) (st su : Stage) → SameStage cells sh th st su
      → AsksIn agent st (ask.Commit p sets ensured v commuted sends) → AsksIn agent su (ask.Commit q sets ensured w commuted sends) → SameAsk cells sh th (ask.Commit p sets ensured v commuted sends) (ask.Commit q sets ensured w commuted sends)
  commit_in sets commuted ensured sends p q v w _ _ Rests i j = absurd i
  commit_in sets commuted ensured sends p q v w _ _ Idles i j = absurd i
  commit_in sets commuted ensured sends p q v w _ _ (Tries e f s) i j =
      Commits sets commuted ensured sends p q v w
      (subst (λ m. SamePoint (cells_of cells) (sh.books 0) (th.books 0) p m) j.0 (subst (λ m. SamePoint (cells_of cells) (sh.books 0) (th.books 0) m f) i.0 s))
      (subst (ViewServes (cells_of cells) (sh.books 0) (th.books 0) v w) (sym i.1) tt)
  commit_in sets commuted ensured sends p q v w _ _ (Redoes e f a b s t) i j =
      Commits sets commuted ensured sends p q v w
      (subst (λ m. SamePoint (cells_of cells) (sh.books 0) (th.books 0) p m) j.0 (subst (λ m. SamePoint (cells_of cells) (sh.books 0) (th.books 0) m f) i.0 s))
      (serves commuted (subst (λ m. SameView (cells_of cells) (sh.books 0) (th.books 0) v m) j.1 (subst (λ m. SameView (cells_of cells) (sh.books 0) (th.books 0) m b) i.1 t)))
    where
      serves : (ws : Writes) → SameView (cells_of cells) (sh.books 0) (th.books 0) v w → ViewServes (cells_of cells) (sh.books 0) (th.books 0) v w ws
      serves [] h = tt
      serves (x ∷ xs) h = h
  commit_in sets commuted ensured sends p q v w _ _ (Swaps d e f s) i j = absurd i

  close_in : (c : CellId) (p q : ℕ) (v : Value) (st su : Stage) → SameStage cells sh th st su → AsksIn agent st (ask.CloseAt c (Some p) v) → AsksIn agent su (ask.CloseAt c (Some q) v)
      → SameAsk cells sh th (ask.CloseAt c (Some p) v) (ask.CloseAt c (Some q) v)
  close_in c p q v _ _ Rests i j = absurd i
  close_in c p q v _ _ Idles i j = absurd i
  close_in c p q v _ _ (Tries e f s) i j = absurd i
  close_in c p q v _ _ (Redoes e f a b s t) i j = absurd i
  close_in c p q v _ _ (Swaps d e f s) i j =
      Closes c p q v (subst (λ m. SameSwap (sh.books (home cells c)) (th.books (home cells c)) p m) j.1
      (subst (λ m. SameSwap (sh.books (home cells c)) (th.books (home cells c)) m f) i.1 (subst (λ g. SameSwap (sh.books (home cells g)) (th.books (home cells g)) e f) i.0 s)))

  same_in : (q r : Ask) → EqualBut q r → (st su : Stage) → SameStage cells sh th st su → AsksIn agent st q → AsksIn agent su r → SameAsk cells sh th q r
  same_in _ _ but.Begins st su h i j = Begins
  same_in _ _ (but.Looks c p q) st su h i j = look_in c p q st su h i j
  same_in _ _ (but.Views cs) st su h i j = Views cs
  same_in _ _ (but.Commits sets commuted ensured sends p q v w) st su h i j = commit_in sets commuted ensured sends p q v w st su h i j
  same_in _ _ (but.Fails p q v w) st su h i j = Fails p q v w
  same_in _ _ (but.Peeks c) st su h i j = Peeks c
  same_in _ _ (but.Sends x) st su h i j = Sends x
  same_in _ _ (but.Takes g) st su h i j = Takes g
  same_in _ _ (but.Finishes g new sends) st su h i j = Finishes g new sends
  same_in _ _ (but.Opens c) st su h i j = Opens c
  same_in _ _ (but.Closes c p q v) st su h i j = close_in c p q v st su h i j
  same_in _ _ (but.Resets c v) st su h i j = Resets c v
  same_in _ _ (but.Breaks c p q) st su h i j = Breaks c p q

pub steps : (cells : List CellDefinition) (threads a : ℕ) (agent : Bool) (q r : Ask) (sh th : Shared) (x y : ℕ → Stage)
    → AllAlike cells sh th x y → AsksIn agent (x a) q → AsksIn agent (y a) r → EqualBut q r → may_ask cells threads sh.taken a q (sh.books (book_for cells q)) ≡ true
    → HasRoom cells q sh → HasRoom cells r th → StepsAlike cells a q r sh th x y
steps cells threads a agent q r sh th x y h i j e l f g =
    let same = same_in cells sh th agent q r e (x a) (y a) (h.stages a) i j in
    let heard = answers cells threads a q r sh th h.shared same l f g in
    let v = (serve_on cells a q (sh.books (book_for cells q))).reply in
    let w = (serve_on cells a r (th.books (book_for cells r))).reply in
    record {
      answers = heard;
      all = record {
        shared = heard.after.alike;
        stages = λ b. by b (a == b) (next cells sh th (behind cells a q sh) (behind cells a r th) heard.after (x a) (y a) (h.stages a) q r same (book_for cells q) refl v w heard.reply)
            (stage_stays cells sh th (behind cells a q sh) (behind cells a r th) heard.after (x b) (y b) (h.stages b));
      };
    }
  where
    by : (b : ℕ) (t : Bool) {st su : Stage} → SameStage cells (behind cells a q sh) (behind cells a r th) st su → SameStage cells (behind cells a q sh) (behind cells a r th) (x b) (y b)
        → SameStage cells (behind cells a q sh) (behind cells a r th) (if t then st else x b) (if t then su else y b)
    by b true s t = s
    by b false s t = t
