-- What plays make of all actors of a run.
use Rattle.std.proofs.Common.{◌≡◌, ◌==◌, ◌≤◌, ◌<◌, ◌+◌, ℕ, zero, suc, Bool, true, false, nat_lt, List, [], ◌∷◌, ◌++◌, length, set, get_or, take, Option, Some, None, refl, sym, ap, subst, ◌∙◌, if◌then◌else◌, arith}
use Rattle.std.proofs.lemmas.List.{take_more}
use Rattle.std.proofs.lemmas.Bool.Decides.{nat_tests}
use Rattle.txs_world_protocol.specs.declared.event.Event.{Event}
use Rattle.txs_world_protocol.specs.declared.event.Outcome.{Outcome}
use Rattle.txs_value_data.proofs.SameLemmas.{number-itself}
use Rattle.txs_value_data.specs.Places.{nth}
use Rattle.txs_code_meaning.specs.PlainCode.{PlainCode}
use Rattle.txs_machine_actor.specs.PlainActor.{PlainActor}
use Rattle.txs_theorem_runs.proofs.Growing.{Grown, differ}
use Rattle.txs_machine.specs.RunOver.{IsLimited}
use Rattle.txs_machine.specs.Playing.{IsBetween, AreBetween, IsPlayed, ArePlayedAt, AreLater, HaveSteps, AllEnded, IsUnended, IsReported, AreReported}
use Rattle.txs_machine.specs.Schedule.{player, plays_of}
use Rattle.txs_machine.specs.Running.{attendants}
use Rattle.txs_machine.specs.declared.player.AgentPlayer.{AgentPlayer}
use Rattle.txs_machine.specs.declared.player.Player.{Player}
use Rattle.txs_machine.specs.declared.schedule.Play.{Play}
use Rattle.txs_world_protocol.specs.declared.report.ActorReport.{ActorReport}
use Rattle.txs_machine.proofs.Limits.{rounds_left}
use Rattle.txs_machine.proofs.RunOver.{ValuesKnown, over_others}

abbrev is_some : {A : Type 0} → Option A → Type 0
is_some None = ⊥
is_some (Some x) = Unit {0}

-- ---- what another actor adds

others : (code : PlainCode) (k j limit : ℕ) (books later : ℕ → List Event) (x : Player) → (k ≡ j → ⊥) → Grown k books later → ValuesKnown code later → IsBetween code j limit books x → IsBetween code j limit later x
others code k j limit books later x n g v h = record { lives = h.lives; free = h.free; limited = h.limited; over = over_others code k j books later x.trace.items x.actor n g v h.over }

all_others : (code : PlainCode) (k limit : ℕ) (books later : ℕ → List Event) (j : ℕ) (xs : List Player) → k < j → Grown k books later → ValuesKnown code later → AreBetween code limit books j xs → AreBetween code limit later j xs
all_others code k limit books later j [] n g v h = tt
all_others code k limit books later j (x ∷ xs) n g v h =
    (others code k j limit books later x (λ e. absurd (omega (arith, e, n))) g v h.0, all_others code k limit books later (suc j) xs (omega (arith, n)) g v h.1)

-- the actor at a place, after a play of it
pub placed_between : (code : PlainCode) (k limit : ℕ) (books later : ℕ → List Event) (j i : ℕ) (xs : List Player) (y : Player) → k ≡ j + i → Grown k books later → IsBetween code k limit later y → AreBetween code limit books j xs
    → AreBetween code limit later j (set xs i y)
placed_between code k limit books later j i [] y e g p h = tt
placed_between code k limit books later j zero (x ∷ xs) y e g p h =
    (subst (λ n. IsBetween code n limit later y) (omega (arith, e)) p, all_others code k limit books later (suc j) xs (omega (arith, e)) g p.over.lawful.values h.1)
placed_between code k limit books later j (suc i) (x ∷ xs) y e g p h =
    (others code k j limit books later x (λ d. absurd (omega (arith, e, d))) g p.over.lawful.values h.0, placed_between code k limit books later (suc j) i xs y (omega (arith, e)) g p h.1)

-- the actor at a place
pub between_at : (code : PlainCode) (limit : ℕ) (books : ℕ → List Event) (j i : ℕ) (xs : List Player) (x : Player) → nth xs i ≡ Some x → AreBetween code limit books j xs → IsBetween code (j + i) limit books x
between_at code limit books j i [] x e h = absurd (subst is_some (sym e) tt)
between_at code limit books j zero (y ∷ xs) x e h = subst (λ n. IsBetween code n limit books x) (omega arith) (subst (IsBetween code j limit books) (some_is y x e) h.0)
  where
    or_first : Option Player → Player
    or_first None = y
    or_first (Some z) = z

    some_is : (y z : Player) → Some y ≡ Some z → y ≡ z
    some_is y z e = ap or_first e
between_at code limit books j (suc i) (y ∷ xs) x e h = subst (λ n. IsBetween code n limit books x) (omega arith) (between_at code limit books (suc j) i xs x e h.1)

-- so it is where the first is that of thread 0
pub between_of : (code : PlainCode) (limit : ℕ) (books : ℕ → List Event) (i : ℕ) (xs : List Player) (x : Player) → nth xs i ≡ Some x → AreBetween code limit books 0 xs → IsBetween code i limit books x
between_of code limit books i xs x e h = let same : 0 + i ≡ i = omega arith in subst (λ n. IsBetween code n limit books x) same (between_at code limit books 0 i xs x e h)

-- one more actor behind the others
pub between_more : (code : PlainCode) (limit : ℕ) (books : ℕ → List Event) (j : ℕ) (xs : List Player) (x : Player) → AreBetween code limit books j xs → IsBetween code (j + length xs) limit books x → AreBetween code limit books j (xs ++ x ∷ [])
between_more code limit books j [] x h p = (subst (λ n. IsBetween code n limit books x) (omega arith) p, tt)
between_more code limit books j (y ∷ xs) x h p = (h.0, between_more code limit books (suc j) xs x h.1 (subst (λ n. IsBetween code n limit books x) (omega arith) p))

-- ---- steps

pub played_at : (k : ℕ) (xs : List Player) (a b : Player) → nth xs k ≡ Some a → IsPlayed a.actor b.actor → ArePlayedAt k xs (set xs k b)
played_at k [] a b e h = absurd (subst is_some (sym e) tt)
played_at zero (x ∷ xs) a b e h = (subst (λ (y : Player). IsPlayed y.actor b.actor) (sym (ap or_first e)) h, refl)
  where
    or_first : Option Player → Player
    or_first None = x
    or_first (Some y) = y
played_at (suc k) (x ∷ xs) a b e h = (refl, played_at k xs a b e h)

all_later : (xs : List Player) → AreLater xs xs
all_later [] = tt
all_later (a ∷ xs) = (λ e. (e, omega arith), all_later xs)

pub later_itself : (xs : List Player) → AreLater xs xs
later_itself xs = all_later xs

pub later_than : (xs bs cs : List Player) → AreLater xs bs → AreLater bs cs → AreLater xs cs
later_than [] [] [] h g = tt
later_than [] [] (c ∷ cs) h g = absurd g
later_than [] (b ∷ bs) cs h g = absurd h
later_than (a ∷ xs) [] cs h g = absurd h
later_than (a ∷ xs) (b ∷ bs) [] h g = absurd g
later_than (a ∷ xs) (b ∷ bs) (c ∷ cs) h g =
    (λ e. (let x = g.0 e in let y = h.0 x.0 in (y.0, omega (arith, x.1, y.1))), later_than xs bs cs h.1 g.1)

pub played_later : (k : ℕ) (xs bs : List Player) → ArePlayedAt k xs bs → AreLater xs bs
played_later k [] bs h = absurd h
played_later zero (a ∷ xs) [] h = absurd h
played_later (suc k) (a ∷ xs) [] h = absurd h
played_later zero (a ∷ xs) (b ∷ bs) h = (λ e. (let x = h.0 e in (x.0, omega (arith, x.1))), subst (AreLater xs) (sym h.1) (all_later xs))
played_later (suc k) (a ∷ xs) (b ∷ bs) h = (subst (λ (y : Player). y.actor.outcome ≡ None → (a.actor.outcome ≡ None) × (a.actor.steps ≤ y.actor.steps)) (sym h.0) (λ e. (e, omega arith)), played_later k xs bs h.1)

-- steps don't get fewer
pub steps_later : (ys : List Play) (j : ℕ) (xs bs : List Player) → AreLater xs bs → HaveSteps ys j xs → HaveSteps ys j bs
steps_later ys j [] [] l h = tt
steps_later ys j [] (b ∷ bs) l h = absurd l
steps_later ys j (a ∷ xs) [] l h = absurd l
steps_later ys j (a ∷ xs) (b ∷ bs) l h =
    (λ e. (let x = l.0 e in let y = h.0 x.0 in omega (arith, x.1, y)), steps_later ys (suc j) xs bs l.1 h.1)

-- one more play behind others
plays_more : (k : ℕ) (ys : List Play) (y : Play) → plays_of k (ys ++ y ∷ []) ≡ (if player y == k then suc (plays_of k ys) else plays_of k ys)
plays_more k [] y = refl
plays_more k (x ∷ ys) y = go (player x == k) (player y == k) (plays_more k ys y)
  where
    go : (s t : Bool) → plays_of k (ys ++ y ∷ []) ≡ (if t then suc (plays_of k ys) else plays_of k ys)
        → (if s then suc (plays_of k (ys ++ y ∷ [])) else plays_of k (ys ++ y ∷ [])) ≡ (if t then suc (if s then suc (plays_of k ys) else plays_of k ys) else (if s then suc (plays_of k ys) else plays_of k ys))
    go true true h = ap suc h
    go true false h = ap suc h
    go false true h = h
    go false false h = h

others_steps : (ys : List Play) (y : Play) (j : ℕ) (xs : List Player) → player y < j → HaveSteps ys j xs → HaveSteps (ys ++ y ∷ []) j xs
others_steps ys y j [] n h = tt
others_steps ys y j (a ∷ xs) n h =
    (λ e. subst (λ m. m ≤ a.actor.steps) (sym (plays_more j ys y ∙ ap (λ b. if b then suc (plays_of j ys) else plays_of j ys) (differ (player y) j (λ d. absurd (omega (arith, d, n)))))) (h.0 e), others_steps ys y (suc j) xs (omega (arith, n)) h.1)

-- a play is one more step at least of its actor
steps_more : (ys : List Play) (y : Play) (j i : ℕ) (xs bs : List Player) → player y ≡ j + i → ArePlayedAt i xs bs → HaveSteps ys j xs → HaveSteps (ys ++ y ∷ []) j bs
steps_more ys y j i [] bs e p h = absurd p
steps_more ys y j zero (a ∷ xs) [] e p h = absurd p
steps_more ys y j (suc i) (a ∷ xs) [] e p h = absurd p
steps_more ys y j zero (a ∷ xs) (b ∷ bs) e p h = (
  λ o. (let x = p.0 o in let s = h.0 x.0 in subst (λ m. m ≤ b.actor.steps) (sym (plays_more j ys y ∙ ap (λ t. if t then suc (plays_of j ys) else plays_of j ys) here)) (omega (arith, x.1, s))),
  subst (HaveSteps (ys ++ y ∷ []) (suc j)) (sym p.1) (others_steps ys y (suc j) xs (omega (arith, e)) h.1),
)
  where
    here : (player y == j) ≡ true
    here = ap (λ n. n == j) (omega (arith, e)) ∙ number-itself j
steps_more ys y j (suc i) (a ∷ xs) (b ∷ bs) e p h = (
  subst (λ (x : Player). x.actor.outcome ≡ None → plays_of j (ys ++ y ∷ []) ≤ x.actor.steps) (sym p.0)
      (λ o. subst (λ m. m ≤ a.actor.steps) (sym (plays_more j ys y ∙ ap (λ t. if t then suc (plays_of j ys) else plays_of j ys) (differ (player y) j (λ d. absurd (omega (arith, d, e)))))) (h.0 o)),
  steps_more ys y (suc j) i xs bs (omega (arith, e)) p.1 h.1,
)

pub plays_steps : (ys : List Play) (y : Play) (xs bs : List Player) → ArePlayedAt (player y) xs bs → HaveSteps ys 0 xs → HaveSteps (ys ++ y ∷ []) 0 bs
plays_steps ys y xs bs p h = let e : player y ≡ 0 + player y = omega arith in steps_more ys y 0 (player y) xs bs e p h

-- before the first play
pub no_steps : (j : ℕ) (xs : List Player) → HaveSteps [] j xs
no_steps j [] = tt
no_steps j (a ∷ xs) = (λ e. omega arith, no_steps (suc j) xs)

-- ---- how many rounds there may still be

-- of all actors together
abbrev pub left_in : List Player → ℕ
left_in [] = 0
left_in (a ∷ xs) = rounds_left a.actor.outcome a.actor + left_in xs

ended_none : (a : PlainActor) (o : Outcome) → a.outcome ≡ Some o → (a.outcome ≡ None → ⊥)
ended_none a o e n = absurd (subst is_some (sym e ∙ n) tt)

left_later : (limit : ℕ) (a b : PlainActor) (o p : Option Outcome) → a.outcome ≡ o → b.outcome ≡ p → IsLimited limit a → IsLimited limit b → (b.outcome ≡ None → (a.outcome ≡ None) × (a.steps ≤ b.steps)) → rounds_left p b ≤ rounds_left o a
left_later limit a b o (Some x) e f h g l = omega arith
left_later limit a b None None e f h g l = let x = l f in omega (arith, x.1, h.limited, g.limited)
left_later limit a b (Some y) None e f h g l = absurd (ended_none a y e (l f).0)

left_played : (limit : ℕ) (a b : PlainActor) (p : Option Outcome) → a.outcome ≡ None → b.outcome ≡ p → IsLimited limit a → IsLimited limit b → IsPlayed a b → rounds_left p b < rounds_left None a
left_played limit a b (Some x) e f h g l = omega arith
left_played limit a b None e f h g l = let x = l f in omega (arith, x.1, h.limited, g.limited, g.within)

pub left_all : (code : PlainCode) (limit : ℕ) (books later : ℕ → List Event) (j : ℕ) (xs bs : List Player) → AreBetween code limit books j xs → AreBetween code limit later j bs → AreLater xs bs → left_in bs ≤ left_in xs
left_all code limit books later j [] [] h g l = omega arith
left_all code limit books later j [] (b ∷ bs) h g l = absurd l
left_all code limit books later j (a ∷ xs) [] h g l = absurd l
left_all code limit books later j (a ∷ xs) (b ∷ bs) h g l =
    let x = left_later limit a.actor b.actor a.actor.outcome b.actor.outcome refl refl h.0.limited g.0.limited l.0 in
    let y = left_all code limit books later (suc j) xs bs h.1 g.1 l.1 in
    omega (arith, x, y)

pub left_less : (code : PlainCode) (limit : ℕ) (books later : ℕ → List Event) (j i : ℕ) (xs bs : List Player) → AreBetween code limit books j xs → AreBetween code limit later j bs → IsUnended i xs → ArePlayedAt i xs bs → left_in bs < left_in xs
left_less code limit books later j i [] bs h g u p = absurd p
left_less code limit books later j zero (a ∷ xs) [] h g u p = absurd p
left_less code limit books later j (suc i) (a ∷ xs) [] h g u p = absurd p
left_less code limit books later j zero (a ∷ xs) (b ∷ bs) h g u p =
    let x = subst (λ o. rounds_left b.actor.outcome b.actor < rounds_left o a.actor) (sym u) (left_played limit a.actor b.actor b.actor.outcome u refl h.0.limited g.0.limited p.0) in
    let y = ap left_in p.1 in
    omega (arith, x, y)
left_less code limit books later j (suc i) (a ∷ xs) (b ∷ bs) h g u p =
    let x = ap (λ (c : Player). rounds_left c.actor.outcome c.actor) p.0 in
    let y = left_less code limit books later (suc j) i xs bs h.1 g.1 u p.1 in
    omega (arith, x, y)

-- ---- which have ended

pub ended_more : (xs : List Player) (a : Player) → AllEnded xs → (a.actor.outcome ≡ None → ⊥) → AllEnded (xs ++ a ∷ [])
ended_more [] a h n = (n, tt)
ended_more (x ∷ xs) a h n = (h.0, ended_more xs a h.1 n)

pub unended_at : (xs : List Player) (k : ℕ) (a : Player) → nth xs k ≡ Some a → a.actor.outcome ≡ None → IsUnended k xs
unended_at [] k a e n = absurd (subst is_some (sym e) tt)
unended_at (x ∷ xs) zero a e n = ap (λ (y : Player). y.actor.outcome) (ap or_first e) ∙ n
  where
    or_first : Option Player → Player
    or_first None = x
    or_first (Some y) = y
unended_at (x ∷ xs) (suc k) a e n = unended_at xs k a e n

-- ---- reports

pub reported_more : (code : PlainCode) (xs : List Player) (rs : List ActorReport) (x : Player) (r : ActorReport) → AreReported code xs rs → IsReported code x r → AreReported code (xs ++ x ∷ []) (rs ++ r ∷ [])
reported_more code [] [] x r h p = (p, tt)
reported_more code [] (s ∷ rs) x r h p = absurd h
reported_more code (y ∷ xs) [] x r h p = absurd h
reported_more code (y ∷ xs) (s ∷ rs) x r h p = (h.0, reported_more code xs rs x r h.1 p)

-- an item that was read is there
pub nth_read : {A : Type 0} (xs : List A) (i : ℕ) (x : A) → i < length xs → x ≡ get_or xs i x → nth xs i ≡ Some x
nth_read [] i x l e = absurd (omega (arith, l))
nth_read (y ∷ xs) zero x l e = ap Some (sym e)
nth_read (y ∷ xs) (suc i) x l e = nth_read xs i x (omega (arith, l)) e

-- with one more of a list at hand
pub taken_read : {A : Type 0} (xs : List A) (i : ℕ) (x : A) → i < length xs → x ≡ get_or xs i x → take (i + 1) xs ≡ take i xs ++ x ∷ []
taken_read xs i x l e = take_more xs i x l ∙ ap (λ z. take i xs ++ z ∷ []) (sym e)

-- ---- plays of agents

-- a play of an actor behind these leaves their plays
plays_behind_at : (ys : List Play) (y : Play) (j : ℕ) (xs bs : List Player) → j + length xs ≤ player y → AreLater xs bs → HaveSteps ys j xs → HaveSteps (ys ++ y ∷ []) j bs
plays_behind_at ys y j [] [] n l h = tt
plays_behind_at ys y j [] (b ∷ bs) n l h = absurd l
plays_behind_at ys y j (a ∷ xs) [] n l h = absurd l
plays_behind_at ys y j (a ∷ xs) (b ∷ bs) n l h = (
  λ e. (let x = l.0 e in let s = h.0 x.0 in
      subst (λ m. m ≤ b.actor.steps) (sym (plays_more j ys y ∙ ap (λ t. if t then suc (plays_of j ys) else plays_of j ys) (differ (player y) j (λ d. absurd (omega (arith, d, n)))))) (omega (arith, x.1, s))),
  plays_behind_at ys y (suc j) xs bs (omega (arith, n)) l.1 h.1,
)

pub plays_behind : (ys : List Play) (y : Play) (xs bs : List Player) → length xs ≤ player y → AreLater xs bs → HaveSteps ys 0 xs → HaveSteps (ys ++ y ∷ []) 0 bs
plays_behind ys y xs bs n l h = let e : 0 + length xs ≤ player y = omega (arith, n) in plays_behind_at ys y 0 xs bs e l h

-- a play of one of these, or of an actor behind them
pub at_or_behind : (ys : List Play) (y : Play) (k : ℕ) (xs bs : List Player) → player y ≡ k → (k < length xs → ArePlayedAt k xs bs) → AreLater xs bs → HaveSteps ys 0 xs → HaveSteps (ys ++ y ∷ []) 0 bs
at_or_behind ys y k xs bs e p l h = go (nat_lt k (length xs)) refl
  where
    go : (b : Bool) → nat_lt k (length xs) ≡ b → HaveSteps (ys ++ y ∷ []) 0 bs
    go true f = let lt : k < length xs = grind (arith, nat_tests, f) in plays_steps ys y xs bs (subst (λ n. ArePlayedAt n xs bs) (sym e) (p lt)) h
    go false f = let ge : length xs ≤ k = grind (arith, nat_tests, f) in plays_behind ys y xs bs (subst (λ n. length xs ≤ n) (sym e) ge) l h

pub attendants_append : (xs : List AgentPlayer) (x : AgentPlayer) → attendants (xs ++ x ∷ []) ≡ attendants xs ++ x.player ∷ []
attendants_append [] x = refl
attendants_append (y ∷ xs) x = ap (λ l. y.player ∷ l) (attendants_append xs x)
