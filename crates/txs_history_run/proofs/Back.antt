-- Steps of the loops over atoms and actors that are back.
use Rattle.std.proofs.Common.{◌≡◌, ◌+◌, ◌<◌, ◌==◌, ℕ, zero, suc, ◌≤◌, ◌^◌, Bool, true, false, List, [], ◌∷◌, ◌++◌, length, map, take, get_or, Option, Some, refl, ap, sym, ◌∙◌, subst, arith}
use Rattle.std.proofs.lemmas.Bool.Decides.{nat_tests}
use mathlib.Core.List.{IsPrefix}
use Rattle.txs_value_data.specs.Places.{nth}
use Rattle.txs_world_protocol.specs.SeenEvent.{home}
use Rattle.txs_value_cell.specs.declared.cell.CellDefinition.{CellDefinition}
use Rattle.txs_code_meaning.specs.PlainCode.{PlainCode}
use Rattle.txs_value_data.specs.declared.value.CellId.{CellId}
use Rattle.txs_history.proofs.Beginnings.{prefix_trans}
use Rattle.txs_history.specs.History.{events_of, HasOthers, IsWithin}
use Rattle.txs_theorem_runs.specs.Shared.{store_of}
use Rattle.txs_history.specs.Asked.{History, shared_by, sum_to}
use Rattle.txs_history.specs.Logged.{PlainLoggedAtom, PlainLoggedStore, locks_of}
use Rattle.txs_history_run.specs.Actor.{PlainLogged}
use Rattle.txs_history_run.proofs.Answering.{follows_longer}
use Rattle.txs_machine.specs.Running.{attendants}
use Rattle.txs_machine.specs.declared.player.AgentPlayer.{AgentPlayer}
use Rattle.txs_machine.specs.declared.player.Player.{Player}
use Rattle.txs_history_run.specs.Back.{ActorsFollow, ActorsSeen, AreBack, ArePlaced, AreWhole, AtomsLeft, AtomsSeen, IsLeftBy, IsWhole, asked_of, asked_at}
use Rattle.txs_history_run.specs.Settled.{IsSettled, asks_by}
use Rattle.txs_history_run.proofs.Counting.{sum_next, sum_below}
use Rattle.txs_history_run.proofs.Lists.{is_some, or_else, same_at, within_of}

-- ---- one more place

-- what holds of the items at the places below a number, and of the one there, holds below the next
module _ {A : Type 0} (P : ℕ → A → Type 0) (xs : List A) (i : ℕ) (x : A) (at : nth xs i ≡ Some x) (here : P i x) where
  next_case : (k : ℕ) (y : A) → k < i + 1 → nth xs k ≡ Some y → ((j : ℕ) (z : A) → j < i → nth xs j ≡ Some z → P j z) → (b : Bool) → (k == i) ≡ b → P k y
  next_case k y less e before true is =
      let same : i ≡ k = grind (arith, nat_tests, is) in
      subst (λ z. P k z) (same_at xs k x y (subst (λ j. nth xs j ≡ Some x) same at) e) (subst (λ j. P j x) same here)
  next_case k y less e before false is =
      let lower : k < i = grind (arith, nat_tests, is, less) in
      before k y lower e

  pub one_more : ((j : ℕ) (z : A) → j < i → nth xs j ≡ Some z → P j z) → (k : ℕ) (y : A) → k < i + 1 → nth xs k ≡ Some y → P k y
  one_more before k y less e = next_case k y less e before (k == i) refl

pub read_nth : {A : Type 0} (xs : List A) (i : ℕ) (x : A) → i < length xs → x ≡ get_or xs i x → nth xs i ≡ Some x
read_nth [] i x less e = absurd (omega (arith, less))
read_nth (y ∷ xs) zero x less e = ap (λ z. Some z) (sym e)
read_nth (y ∷ xs) (suc i) x less e = read_nth xs i x (omega (arith, less)) e

-- ---- what was seen

pub atoms_next : (atoms : List PlainLoggedAtom) (i : ℕ) (a : PlainLoggedAtom) (h g : History) → IsPrefix h g → nth atoms i ≡ Some a → IsPrefix a.log.log g → AtomsSeen i atoms h → AtomsSeen (i + 1) atoms g
atoms_next atoms i a h g p at here before = one_more (λ k (z : PlainLoggedAtom). IsPrefix z.log.log g) atoms i a at here (λ j z less e. prefix_trans z.log.log h g (before j z less e) p)

pub atoms_later : (n : ℕ) (atoms : List PlainLoggedAtom) (h g : History) → IsPrefix h g → AtomsSeen n atoms h → AtomsSeen n atoms g
atoms_later n atoms h g p seen k a less e = prefix_trans a.log.log h g (seen k a less e) p

pub actors_next : (actors : List PlainLogged) (i : ℕ) (x : PlainLogged) (h g : History) → IsPrefix h g → nth actors i ≡ Some x → IsPrefix x.past g → ActorsSeen i actors h → ActorsSeen (i + 1) actors g
actors_next actors i x h g p at here before = one_more (λ k (z : PlainLogged). IsPrefix z.past g) actors i x at here (λ j z less e. prefix_trans z.past h g (before j z less e) p)

-- ---- what was counted

pub left_next : (cells : List CellDefinition) (h : History) (atoms : List PlainLoggedAtom) (i : ℕ) (a : PlainLoggedAtom) (sum count : ℕ) → nth atoms i ≡ Some a → IsLeftBy cells h a → count ≡ asked_of cells h (Some a) → AtomsLeft cells h i atoms sum → AtomsLeft cells h (i + 1) atoms (sum + count)
left_next cells h atoms i a sum count at here asked before = record {
  each = one_more (λ k (z : PlainLoggedAtom). IsLeftBy cells h z) atoms i a at here before.each;
  counted = (
      let one : count ≡ asked_at cells h atoms i = asked ∙ ap (asked_of cells h) (sym at) in
      let next = sum_next i (asked_at cells h atoms) in
      let was = before.counted in
      omega (arith, one, next, was));
}

asks_there : (actors : List PlainLogged) (i : ℕ) (x : PlainLogged) → nth actors i ≡ Some x → x.asks ≡ asks_by actors i
asks_there [] i x e = absurd (subst is_some (sym e) tt)
asks_there (y ∷ actors) zero x e = sym (ap (λ (o : Option PlainLogged). (or_else y o).asks) e)
asks_there (y ∷ actors) (suc i) x e = asks_there actors i x e

pub follow_next : (code : PlainCode) (limit : ℕ) (actors : List PlainLogged) (i : ℕ) (x : PlainLogged) (sum count : ℕ) → nth actors i ≡ Some x → IsSettled code limit i x.past x → count ≡ x.asks → ActorsFollow code limit i actors sum → ActorsFollow code limit (i + 1) actors (sum + count)
follow_next code limit actors i x sum count at here asked before = record {
  each = one_more (λ k (z : PlainLogged). IsSettled code limit k z.past z) actors i x at here before.each;
  counted = (
      let one : count ≡ asks_by actors i = asked ∙ asks_there actors i x at in
      let next = sum_next i (asks_by actors) in
      let was = before.counted in
      omega (arith, one, next, was));
}

-- an actor follows what the history goes on to be
pub settled_longer : (code : PlainCode) (limit k : ℕ) (h : History) (p : PlainLogged) → IsPrefix p.past h → IsSettled code limit k p.past p → IsSettled code limit k h p
settled_longer code limit k h p on s = record {
  number = s.number;
  limited = s.limited;
  follows = follows_longer code p.player.actor p.player.trace.items p.asks p.past h on s.follows;
}

-- what the tests find
pub back_so : (code : PlainCode) (limit : ℕ) (a b h : History) (store : PlainLoggedStore) (atoms : List PlainLoggedAtom) (actors : List PlainLogged) (count asked made : ℕ)
    → IsPrefix a b → IsPrefix b h → IsWithin (locks_of code.cells) h → ActorsSeen (length actors) actors a
    → store.store ≡ store_of code.cells (length code.threads) (shared_by code.cells h) → AtomsLeft code.cells h (length atoms) atoms count → asked ≡ length (events_of 0 h) + sum_to (length atoms) (asked_at code.cells h atoms)
    → ActorsFollow code limit (length actors) actors made → asked ≡ made → AreBack code limit h store atoms actors
back_so code limit a b h store atoms actors count asked made p q within seen store_is left counted follow same = record {
  within = within;
  store_is = store_is;
  atoms_are = λ k x e. left.each k x (within_of atoms k x e) e;
  each = λ k x e. (
      let less = within_of actors k x e in
      settled_longer code limit k h x (prefix_trans x.past b h (prefix_trans x.past a b (seen k x less e) p) q) (follow.each k x less e));
  all = sym counted ∙ same ∙ follow.counted;
}

-- ---- where something lacks

-- a log beside which the history has others isn't whole
pub lacks_whole : (k : ℕ) (own old new : History) (broken : Bool) → (broken ≡ false → HasOthers k own old new) → IsWhole k new own broken → ⊥
lacks_whole k own old new broken lacks w = (lacks w.works).others w.same

pub atom_lacks : (cells : List CellDefinition) (old new : History) (atoms : List PlainLoggedAtom) (i : ℕ) (a : PlainLoggedAtom) → nth atoms i ≡ Some a
    → (a.broken ≡ false → HasOthers (home cells a.atom.cell) a.log.log old new) → AreWhole cells new atoms → ⊥
atom_lacks cells old new atoms i a at lacks w = lacks_whole (home cells a.atom.cell) a.log.log old new a.broken lacks (w.each i a at)

-- the first atoms alone have as many asks as none may have
pub atoms_over : (cells : List CellDefinition) (h : History) (atoms : List PlainLoggedAtom) (i : ℕ) (a : PlainLoggedAtom) (sum count : ℕ) → nth atoms i ≡ Some a → count ≡ asked_of cells h (Some a)
    → AtomsLeft cells h i atoms sum → i < length atoms → 2 ^ 64 ≤ sum + count → AreWhole cells h atoms → ⊥
atoms_over cells h atoms i a sum count at asked before less over w =
    let one : count ≡ asked_at cells h atoms i = asked ∙ ap (asked_of cells h) (sym at) in
    let next = sum_next i (asked_at cells h atoms) in
    let below = sum_below (i + 1) (length atoms) (asked_at cells h atoms) (omega (arith, less)) in
    omega (arith, one, next, before.counted, below, over, w.few)

-- the first actors alone made as many asks as none may make
pub actors_over : (code : PlainCode) (limit : ℕ) (actors : List PlainLogged) (i : ℕ) (x : PlainLogged) (sum count : ℕ) → nth actors i ≡ Some x → count ≡ x.asks → ActorsFollow code limit i actors sum
    → i < length actors → 2 ^ 64 ≤ sum + count → ArePlaced actors → ⊥
actors_over code limit actors i x sum count at asked before less over p =
    let one : count ≡ asks_by actors i = asked ∙ asks_there actors i x at in
    let next = sum_next i (asks_by actors) in
    let below = sum_below (i + 1) (length actors) (asks_by actors) (omega (arith, less)) in
    omega (arith, one, next, before.counted, below, over, p.few)

-- ---- agents and their actors

abbrev pub agent_of : AgentPlayer → CellId
agent_of x = x.agent

append_end : {A : Type 0} (xs : List A) (x : A) → length (xs ++ x ∷ []) ≡ suc (length xs)
append_end [] x = refl
append_end (y ∷ xs) x = ap suc (append_end xs x)

map_end : {A B : Type 0} (f : A → B) (xs : List A) (x : A) → map f (xs ++ x ∷ []) ≡ map f xs ++ f x ∷ []
map_end f [] x = refl
map_end f (y ∷ xs) x = ap (λ l. f y ∷ l) (map_end f xs x)

take_end : {A : Type 0} (xs : List A) (n : ℕ) (d : A) → n < length xs → take n xs ++ get_or xs n d ∷ [] ≡ take (suc n) xs
take_end [] n d less = absurd (omega (arith, less))
take_end (y ∷ xs) zero d less = refl
take_end (y ∷ xs) (suc n) d less = ap (λ l. y ∷ l) (take_end xs n d (omega (arith, less)))

pub agents_next : (xs later : List AgentPlayer) (agents : List CellId) (x : AgentPlayer) (d : CellId) (n : ℕ) → later ≡ xs ++ x ∷ [] → n ≡ length xs → length xs < length agents → x.agent ≡ get_or agents n d → map agent_of xs ≡ take (length xs) agents → map agent_of later ≡ take (length later) agents
agents_next xs later agents x d n e same less read before =
    ap (map agent_of) e ∙ map_end agent_of xs x ∙ ap (λ l. l ++ x.agent ∷ []) before ∙ ap (λ g. take (length xs) agents ++ g ∷ []) (read ∙ ap (λ k. get_or agents k d) same) ∙ take_end agents (length xs) d less
    ∙ ap (λ k. take k agents) (sym (ap length e ∙ append_end xs x))

attendants_end : (xs : List AgentPlayer) (x : AgentPlayer) (rest : List Player) → attendants (xs ++ x ∷ []) ++ rest ≡ attendants xs ++ x.player ∷ rest
attendants_end [] x rest = refl
attendants_end (y ∷ xs) x rest = ap (λ l. y.player ∷ l) (attendants_end xs x rest)

pub attended_next : (xs later : List AgentPlayer) (x : AgentPlayer) (rest next all : List Player) → later ≡ xs ++ x ∷ [] → rest ≡ x.player ∷ next → attendants xs ++ rest ≡ all → attendants later ++ next ≡ all
attended_next xs later x rest next all e is before =
    ap (λ l. attendants l ++ next) e ∙ attendants_end xs x next ∙ ap (λ l. attendants xs ++ l) (sym is) ∙ before

-- where one is left there is an agent for it
pub more_left : (n m : ℕ) (x : Player) (rest next : List Player) → rest ≡ x ∷ next → n + length rest ≡ m → n < m
more_left n m x rest next is many = let l = ap length is in omega (arith, l, many)
