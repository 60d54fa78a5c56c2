-- What an ask makes of the agents whose action is taken: at most one is marked anew, the asking actor's own. So another actor's ask finds its own as it was.
use Rattle.std.proofs.Common.{◌≡◌, ◌+◌, ℕ, Bool, true, false, not, ◌&&◌, ◌==◌, List, set, get_or, if◌then◌else◌, refl, sym, ap, ◌∙◌}
use Rattle.std.proofs.lemmas.Bool.{false≢true}
use Rattle.std.proofs.lemmas.List.{get_or-set_other, set_comm}
use Rattle.txs_world_protocol.specs.declared.ask.Ask.{Ask}
use Rattle.txs_world_protocol.specs.declared.ask.Ask.TheVariants as ask
use Rattle.txs_world_protocol.specs.declared.ask.Reply.{Reply}
use Rattle.txs_world_protocol.specs.declared.event.Event.{Event}
use Rattle.txs_value_data.proofs.SameLemmas.{and_both, numbers, number-itself}
use Rattle.txs_value_cell.specs.declared.cell.CellDefinition.{CellDefinition}
use Rattle.txs_value_data.specs.declared.value.CellId.{CellId}
use Rattle.txs_world_book.specs.Book.{actor_of, agents_below, has_agent, may_send, are_sends}
use Rattle.txs_world_book.specs.Served.{cells_of}
use Rattle.txs_world.specs.Store.{taken_after, hands_out, is_over, has_named, store_with}
use Rattle.txs_theorem_runs.specs.Shared.{may_ask}

module _ (cells : List CellDefinition) (threads : ℕ) where
  -- whether this is the actor of the agent
  abbrev is_own : ℕ → CellId → Bool
  is_own a g = a == actor_of threads (cells_of cells) g

  -- nothing is marked, or one agent, whose actor this is
  pub data Marks (a : ℕ) (f : List Bool → List Bool) : Type 0 where
    marks_none : ((t : List Bool) → f t ≡ t) → Marks a f
    marks_one : (g : CellId) (v : Bool) → is_own a g ≡ true → ((t : List Bool) → f t ≡ set t g.number v) → Marks a f

  marks_if : (a : ℕ) (g : CellId) (v b : Bool) → is_own a g ≡ true → Marks a (λ t. if b then set t g.number v else t)
  marks_if a g v true own = marks_one g v own (λ t. refl)
  marks_if a g v false own = marks_none (λ t. refl)

  pub marks : (a : ℕ) (q : Ask) (r : Reply) (taken : List Bool) (book : List Event) → may_ask cells threads taken a q book ≡ true → Marks a (taken_after q r)
  marks a ask.Begin r taken book m = marks_none (λ t. refl)
  marks a (ask.Look c at) r taken book m = marks_none (λ t. refl)
  marks a (ask.View cs) r taken book m = marks_none (λ t. refl)
  marks a (ask.Commit at sets ensured view commuted sends) r taken book m = marks_none (λ t. refl)
  marks a (ask.Fail at view) r taken book m = marks_none (λ t. refl)
  marks a (ask.Peek c) r taken book m = marks_none (λ t. refl)
  marks a (ask.Send x) r taken book m = marks_none (λ t. refl)
  marks a (ask.Take g) r taken book m = marks_if a g true (hands_out r) (and_both (is_own a g) (has_named (store_with (cells_of cells) threads book taken) a (ask.Take g)) m).0
  marks a (ask.Finish g new sends) r taken book m = marks_if a g false (is_over r) (and_both (is_own a g) (has_named (store_with (cells_of cells) threads book taken) a (ask.Finish g new sends)) m).0
  marks a (ask.OpenAt c) r taken book m = marks_none (λ t. refl)
  marks a (ask.CloseAt c at new) r taken book m = marks_none (λ t. refl)
  marks a (ask.Broke c at) r taken book m = marks_none (λ t. refl)

  -- agents of two actors have two numbers
  two_numbers : (a b : ℕ) (g h : CellId) → (a == b) ≡ false → is_own a g ≡ true → is_own b h ≡ true → g.number ≡ h.number → ⊥
  two_numbers a b g h d p q e =
      let first : a ≡ threads + agents_below (cells_of cells) g.number = numbers a (actor_of threads (cells_of cells) g) p in
      let second : b ≡ threads + agents_below (cells_of cells) h.number = numbers b (actor_of threads (cells_of cells) h) q in
      let same : a ≡ b = first ∙ ap (λ n. threads + agents_below (cells_of cells) n) e ∙ sym second in
      false≢true (sym d ∙ ap (λ z. a == z) (sym same) ∙ number-itself a)

  -- marks of two actors may be made in both orders
  pub marks_commute : (a b : ℕ) (f g : List Bool → List Bool) → (a == b) ≡ false → Marks a f → Marks b g → (t : List Bool) → g (f t) ≡ f (g t)
  marks_commute a b f g d (marks_none e) n t = ap g (e t) ∙ sym (e (g t))
  marks_commute a b f g d (marks_one c v own e) (marks_none u) t = u (f t) ∙ ap f (sym (u t))
  marks_commute a b f g d (marks_one c v own e) (marks_one h w his u) t =
      u (f t) ∙ ap (λ l. set l h.number w) (e t) ∙ set_comm t c.number h.number v w (two_numbers a b c h d own his) ∙ ap (λ l. set l c.number v) (sym (u t)) ∙ sym (e (g t))

  -- another actor's mark leaves whether one's own agent is marked
  own_stays : (a b : ℕ) (f : List Bool → List Bool) → (a == b) ≡ false → Marks b f → (g : CellId) → is_own a g ≡ true → (t : List Bool) → get_or (f t) g.number false ≡ get_or t g.number false
  own_stays a b f d (marks_none e) g own t = ap (λ l. get_or l g.number false) (e t)
  own_stays a b f d (marks_one h v his e) g own t =
      ap (λ l. get_or l g.number false) (e t) ∙ get_or-set_other t h.number g.number v false (two_numbers a b g h d own his)

  -- and so what it may ask
  pub marks_leave : (a b : ℕ) (f : List Bool → List Bool) → (a == b) ≡ false → Marks b f → (q : Ask) (t : List Bool) (book : List Event) → may_ask cells threads (f t) a q book ≡ may_ask cells threads t a q book
  marks_leave a b f d m ask.Begin t book = refl
  marks_leave a b f d m (ask.Look c at) t book = refl
  marks_leave a b f d m (ask.View cs) t book = refl
  marks_leave a b f d m (ask.Commit at sets ensured view commuted sends) t book = refl
  marks_leave a b f d m (ask.Fail at view) t book = refl
  marks_leave a b f d m (ask.Peek c) t book = refl
  marks_leave a b f d m (ask.Send x) t book = refl
  marks_leave a b f d m (ask.Take g) t book = by (is_own a g) refl
    where
      by : (o : Bool) → is_own a g ≡ o
          → (o && has_named (store_with (cells_of cells) threads book (f t)) a (ask.Take g)) ≡ (o && has_named (store_with (cells_of cells) threads book t) a (ask.Take g))
      by true own = ap (λ v. has_agent (cells_of cells) g && not v) (own_stays a b f d m g own t)
      by false own = refl
  marks_leave a b f d m (ask.Finish g new sends) t book = by (is_own a g) refl
    where
      by : (o : Bool) → is_own a g ≡ o
          → (o && has_named (store_with (cells_of cells) threads book (f t)) a (ask.Finish g new sends)) ≡ (o && has_named (store_with (cells_of cells) threads book t) a (ask.Finish g new sends))
      by true own = ap (λ v. has_agent (cells_of cells) g && (v && (may_send new sends && are_sends (cells_of cells) sends))) (own_stays a b f d m g own t)
      by false own = refl
  marks_leave a b f d m (ask.OpenAt c) t book = refl
  marks_leave a b f d m (ask.CloseAt c at new) t book = refl
  marks_leave a b f d m (ask.Broke c at) t book = refl
