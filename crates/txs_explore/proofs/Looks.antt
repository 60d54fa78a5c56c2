-- What is said of actors that went on alone, one after the other.
use Rattle.std.proofs.Common.{◌≡◌, ◌⊎◌, inl, inr, ◌+◌, ◌-◌, ℕ, suc, List, [], ◌∷◌, ◌++◌, length, Option, Some, None, refl, sym, subst, arith}
use Rattle.std.specs.Prelude.{◌^◌}
use Rattle.std.proofs.lemmas.List.{length-append}
use Rattle.txs_world_protocol.specs.declared.ask.Ask.{Ask}
use Rattle.txs_world_protocol.specs.declared.event.Outcome.{Outcome}
use Rattle.txs_value_data.specs.Places.{nth}
use Rattle.txs_code_meaning.specs.PlainCode.{PlainCode}
use Rattle.txs_machine_actor.specs.PlainActor.{PlainActor}
use Rattle.txs_machine_actor.specs.Turns.{Says, TurnsOf}
use Rattle.txs_machine_actor.specs.declared.outcome.Turn.{Turn}
use Rattle.txs_machine.specs.declared.player.Player.{Player}
use Rattle.txs_explore.specs.declared.look.Look.{Look}
use Rattle.txs_explore.specs.Looked.{AreFresh, AreLooks, HasLooked, IsAskOf, IsFresh, IsLook}
use Rattle.txs_explore.proofs.Lists.{is_some, nth_below, nth_either, nth_one}

-- ---- one actor

looked_so : (code : PlainCode) (a b : PlainActor) (r : Turn) (q : Option Ask) → TurnsOf code (2 ^ 64 - 1) a r b → Says r b → IsAskOf r q → HasLooked code a q b
looked_so code a b r None t s h = (h.0, h.1, subst (λ z. TurnsOf code (2 ^ 64 - 1) a z b) h.2 t, subst (λ z. Says z b) h.2 s)
looked_so code a b r (Some q) t s h = (subst (λ z. TurnsOf code (2 ^ 64 - 1) a z b) h t, (subst (λ z. Says z b) h s).0)

pub look_is : (code : PlainCode) (a b : PlainActor) (r : Turn) (q : Option Ask) (o : Option Outcome) (ps : List ℕ) → TurnsOf code (2 ^ 64 - 1) a r b → Says r b → IsAskOf r q → o ≡ b.outcome → ps ≡ b.printed
    → IsLook code a (record { ask = q; end = record { outcome = o; printed = ps } })
look_is code a b r q o ps t s h e f = record { after = b; looked = looked_so code a b r q t s h; ended = e; printed = f }

-- ---- all of them

pub no_looks : (code : PlainCode) → AreLooks code [] []
no_looks code = (refl, λ k x l e f. absurd (subst is_some (sym e) tt))

pub looks_more : (code : PlainCode) (xs : List Player) (ls : List Look) (x : Player) (l : Look) → AreLooks code xs ls → IsLook code x.actor l → AreLooks code (xs ++ x ∷ []) (ls ++ l ∷ [])
looks_more code xs ls x l h here = (many, λ k y m e f. by k y m (nth_either xs (x ∷ []) k y e) (nth_either ls (l ∷ []) k m f))
  where
    many : length (ls ++ l ∷ []) ≡ length (xs ++ x ∷ [])
    many = let a = length-append ls (l ∷ []) in let b = length-append xs (x ∷ []) in let c = h.0 in omega (arith, a, b, c)

    by : (k : ℕ) (y : Player) (m : Look) → (nth xs k ≡ Some y) ⊎ ((i : ℕ) × (k ≡ length xs + i) × (nth (x ∷ []) i ≡ Some y)) → (nth ls k ≡ Some m) ⊎ ((i : ℕ) × (k ≡ length ls + i) × (nth (l ∷ []) i ≡ Some m)) → IsLook code y.actor m
    by k y m (inl e) (inl f) = h.1 k y m e f
    by k y m (inl e) (inr f) = absurd (let a = nth_below xs k y e in let b = f.1 in let c = h.0 in omega (arith, a, b, c))
    by k y m (inr e) (inl f) = absurd (let a = nth_below ls k m f in let b = e.1 in let c = h.0 in omega (arith, a, b, c))
    by k y m (inr e) (inr f) =
        let p = nth_one x e.0 y e.2 in
        let q = nth_one l f.0 m f.2 in
        subst (λ (z : Player). IsLook code z.actor m) (sym p.1) (subst (IsLook code x.actor) (sym q.1) here)

-- ---- those that are left

pub first_fresh : (code : PlainCode) (limit : ℕ) (all : List Player) (x : Player) (xs : List Player) → all ≡ x ∷ xs → AreFresh code limit all → IsFresh code limit x.actor
first_fresh code limit all x xs e h = subst (AreFresh code limit) e h 0 x refl

pub rest_fresh : (code : PlainCode) (limit : ℕ) (all : List Player) (x : Player) (xs : List Player) → all ≡ x ∷ xs → AreFresh code limit all → AreFresh code limit xs
rest_fresh code limit all x xs e h = λ k y f. subst (AreFresh code limit) e h (suc k) y f
