-- Two ends of a part that are alike: the same but for states that go together.
use Rattle.std.proofs.Common.{◌≡◌, ℕ, zero, suc, Bool, true, false, List, Option, Some, None, Result, Ok, Err, length, nat_eq, if◌then◌else◌, refl, sym, ap, ◌∙◌, subst, arith}
use Rattle.txs_value_apply.specs.Core.{core}
use Rattle.txs_value_apply.specs.Truth.{choose}
use Rattle.txs_value_data.specs.declared.fault.Fault.{Fault}
use Rattle.txs_value_data.specs.declared.fault.FaultKind.{FaultKind}
use Rattle.txs_value_data.specs.declared.fault.Span.{Span}
use Rattle.txs_value_data.specs.declared.op.Callee.{Callee}
use Rattle.txs_value_data.specs.declared.op.Callee.TheVariants.{Core as CoreOp, Function}
use Rattle.txs_value_data.specs.declared.value.Value.{Value}
use Rattle.txs_value_data.specs.declared.value.Value.TheVariants.{Nil, Truth, Int, Key, Text, Vector, Cell}
use Rattle.txs_opt.proofs.Below.{Kind, Fine}
use Rattle.txs_tree_meaning.specs.Meaning.{Completion, Completes, Recurs, Faults, Retries, Waits, OutOfTurns, Invalid, bind, again, closed, give, result_of, Applies, turns, last_or, apply}

-- it has no meaning
abbrev pub IsInvalid : {S A : Type 0} → Completion S A → Type 0
IsInvalid (Completes a s) = ⊥
IsInvalid (Recurs vs s) = ⊥
IsInvalid (Faults f s) = ⊥
IsInvalid (Retries s) = ⊥
IsInvalid (Waits s) = ⊥
IsInvalid (OutOfTurns s) = ⊥
IsInvalid Invalid = Unit {0}

-- which states go together, and whether the second end may be any where the first is invalid
pub record Likeness (S : Type 0) : Type 1 where
  pub rel : S → S → Type 0
  pub loose : Type 0

abbrev pub CompletesAs : {S A : Type 0} → Likeness S → A → S → Completion S A → Type 0
CompletesAs k a s (Completes b t) = (a ≡ b) × k.rel s t
CompletesAs k a s _ = ⊥

abbrev pub RecursAs : {S A : Type 0} → Likeness S → List Value → S → Completion S A → Type 0
RecursAs k vs s (Recurs ws t) = (vs ≡ ws) × k.rel s t
RecursAs k vs s _ = ⊥

abbrev pub FaultsAs : {S A : Type 0} → Likeness S → Fault → S → Completion S A → Type 0
FaultsAs k f s (Faults g t) = (f ≡ g) × k.rel s t
FaultsAs k f s _ = ⊥

abbrev pub RetriesAs : {S A : Type 0} → Likeness S → S → Completion S A → Type 0
RetriesAs k s (Retries t) = k.rel s t
RetriesAs k s _ = ⊥

abbrev pub WaitsAs : {S A : Type 0} → Likeness S → S → Completion S A → Type 0
WaitsAs k s (Waits t) = k.rel s t
WaitsAs k s _ = ⊥

abbrev pub NeedsAs : {S A : Type 0} → Likeness S → S → Completion S A → Type 0
NeedsAs k s (OutOfTurns t) = k.rel s t
NeedsAs k s _ = ⊥

abbrev pub InvalidAs : {S A : Type 0} → Likeness S → Completion S A → Type 0
InvalidAs k Invalid = Unit {0}
InvalidAs k _ = k.loose

abbrev pub Like : {S A : Type 0} → Likeness S → Completion S A → Completion S A → Type 0
Like k (Completes a s) y = CompletesAs k a s y
Like k (Recurs vs s) y = RecursAs k vs s y
Like k (Faults f s) y = FaultsAs k f s y
Like k (Retries s) y = RetriesAs k s y
Like k (Waits s) y = WaitsAs k s y
Like k (OutOfTurns s) y = NeedsAs k s y
Like k Invalid y = InvalidAs k y

-- what holds of the value, where there is one
abbrev pub EndsIn : {S A : Type 0} → (A → Type 0) → Completion S A → Type 0
EndsIn P (Completes a s) = P a
EndsIn P (Recurs vs s) = Unit {0}
EndsIn P (Faults f s) = Unit {0}
EndsIn P (Retries s) = Unit {0}
EndsIn P (Waits s) = Unit {0}
EndsIn P (OutOfTurns s) = Unit {0}
EndsIn P Invalid = Unit {0}

pub bind_ends : {S A B : Type 0} (P : B → Type 0) (x : Completion S A) (f : A → S → Completion S B) → ((a : A) (s : S) → EndsIn P (f a s)) → EndsIn P (bind x f)
bind_ends P (Completes a s) f h = h a s
bind_ends P (Recurs vs s) f h = tt
bind_ends P (Faults g s) f h = tt
bind_ends P (Retries s) f h = tt
bind_ends P (Waits s) f h = tt
bind_ends P (OutOfTurns s) f h = tt
bind_ends P Invalid f h = tt

module _ (S : Type 0) (k : Likeness S) where
  -- where the second may be any
  pub loose_any : {A : Type 0} (y : Completion S A) → k.loose → InvalidAs k y
  loose_any Invalid h = tt
  loose_any _ h = h

  pub bind_like : {A B : Type 0} (x y : Completion S A) (f g : A → S → Completion S B) → Like k x y → ((a : A) (s t : S) → k.rel s t → Like k (f a s) (g a t)) → Like k (bind x f) (bind y g)
  bind_like (Completes a s) (Completes b t) f g h hc = subst (λ c. Like k (f a s) (g c t)) h.0 (hc a s t h.1)
  bind_like (Completes a s) _ f g h hc = absurd h
  bind_like (Recurs vs s) (Recurs ws t) f g h hc = tt
  bind_like (Recurs vs s) _ f g h hc = absurd h
  bind_like (Faults x s) (Faults y t) f g h hc = h
  bind_like (Faults x s) _ f g h hc = absurd h
  bind_like (Retries s) (Retries t) f g h hc = h
  bind_like (Retries s) _ f g h hc = absurd h
  bind_like (Waits s) (Waits t) f g h hc = h
  bind_like (Waits s) _ f g h hc = absurd h
  bind_like (OutOfTurns s) (OutOfTurns t) f g h hc = h
  bind_like (OutOfTurns s) _ f g h hc = absurd h
  bind_like Invalid Invalid f g h hc = tt
  bind_like Invalid (Completes b t) f g h hc = loose_any (g b t) h
  bind_like Invalid (Recurs vs t) f g h hc = tt
  bind_like Invalid _ f g h hc = h

  -- the same as of any two parts, where more is known of the value
  pub bind_like_in : {A B : Type 0} (P : A → Type 0) (x y : Completion S A) (f g : A → S → Completion S B) → EndsIn P x → Like k x y → ((a : A) (s t : S) → P a → k.rel s t → Like k (f a s) (g a t)) → Like k (bind x f) (bind y g)
  bind_like_in P (Completes a s) (Completes b t) f g e h hc = subst (λ c. Like k (f a s) (g c t)) h.0 (hc a s t e h.1)
  bind_like_in P (Completes a s) _ f g e h hc = absurd h
  bind_like_in P (Recurs vs s) (Recurs ws t) f g e h hc = tt
  bind_like_in P (Recurs vs s) _ f g e h hc = absurd h
  bind_like_in P (Faults x s) (Faults y t) f g e h hc = h
  bind_like_in P (Faults x s) _ f g e h hc = absurd h
  bind_like_in P (Retries s) (Retries t) f g e h hc = h
  bind_like_in P (Retries s) _ f g e h hc = absurd h
  bind_like_in P (Waits s) (Waits t) f g e h hc = h
  bind_like_in P (Waits s) _ f g e h hc = absurd h
  bind_like_in P (OutOfTurns s) (OutOfTurns t) f g e h hc = h
  bind_like_in P (OutOfTurns s) _ f g e h hc = absurd h
  bind_like_in P Invalid Invalid f g e h hc = tt
  bind_like_in P Invalid (Completes b t) f g e h hc = loose_any (g b t) h
  bind_like_in P Invalid (Recurs vs t) f g e h hc = tt
  bind_like_in P Invalid _ f g e h hc = h

  pub again_like : {A : Type 0} (x y : Completion S A) (f g : List Value → S → Completion S A) → Like k x y → ((vs : List Value) (s t : S) → k.rel s t → Like k (f vs s) (g vs t)) → Like k (again x f) (again y g)
  again_like (Completes a s) (Completes b t) f g h hc = h
  again_like (Completes a s) _ f g h hc = absurd h
  again_like (Recurs vs s) (Recurs ws t) f g h hc = subst (λ c. Like k (f vs s) (g c t)) h.0 (hc vs s t h.1)
  again_like (Recurs vs s) _ f g h hc = absurd h
  again_like (Faults x s) (Faults y t) f g h hc = h
  again_like (Faults x s) _ f g h hc = absurd h
  again_like (Retries s) (Retries t) f g h hc = h
  again_like (Retries s) _ f g h hc = absurd h
  again_like (Waits s) (Waits t) f g h hc = h
  again_like (Waits s) _ f g h hc = absurd h
  again_like (OutOfTurns s) (OutOfTurns t) f g h hc = h
  again_like (OutOfTurns s) _ f g h hc = absurd h
  again_like Invalid (Recurs ws t) f g h hc = loose_any (g ws t) h
  again_like Invalid Invalid f g h hc = tt
  again_like Invalid _ f g h hc = h

  pub closed_like : {A : Type 0} (x y : Completion S A) → Like k x y → Like k (closed x) (closed y)
  closed_like x y h = again_like x y (λ vs s. Invalid) (λ vs t. Invalid) h (λ vs s t r. tt)

  pub choose_like : {A : Type 0} (v : Value) (x1 x2 y1 y2 : Completion S A) → Like k x1 y1 → Like k x2 y2 → Like k (choose v x1 x2) (choose v y1 y2)
  choose_like Nil x1 x2 y1 y2 h1 h2 = h2
  choose_like (Truth false) x1 x2 y1 y2 h1 h2 = h2
  choose_like (Truth true) x1 x2 y1 y2 h1 h2 = h1
  choose_like (Int z) x1 x2 y1 y2 h1 h2 = h1
  choose_like (Key bs) x1 x2 y1 y2 h1 h2 = h1
  choose_like (Text bs) x1 x2 y1 y2 h1 h2 = h1
  choose_like (Vector vs) x1 x2 y1 y2 h1 h2 = h1
  choose_like (Cell c) x1 x2 y1 y2 h1 h2 = h1

  pub give_like : {A : Type 0} (o : Option A) (s t : S) → k.rel s t → Like k (give o s) (give o t)
  give_like None s t r = tt
  give_like (Some a) s t r = (refl, r)

  pub result_like : {A : Type 0} (x : Result A FaultKind) (span : Span) (s t : S) → k.rel s t → Like k (result_of x span s) (result_of x span t)
  result_like (Ok v) span s t r = (refl, r)
  result_like (Err e) span s t r = (refl, r)

  pub last_like : (b : Bool) (x y : Completion S Value) (f g : S → Completion S Value) → Like k x y → ((s t : S) → k.rel s t → Like k (f s) (g t)) → Like k (last_or b x f) (last_or b y g)
  last_like true x y f g h hc = h
  last_like false x y f g h hc = bind_like x y (λ v s. f s) (λ v t. g t) h (λ v s t r. hc s t r)

  same_number : (m d : ℕ) → nat_eq m d ≡ true → m ≡ d
  same_number m d h = grind (arith, h)

  pub turns_like : (n d : ℕ) (f g : List Value → S → Completion S Value) → ((vs : List Value) → length vs ≡ d → (s t : S) → k.rel s t → Like k (f vs s) (g vs t)) → (vs : List Value) (s t : S) → k.rel s t → Like k (turns n d f vs s) (turns n d g vs t)
  turns_like zero d f g h vs s t r = r
  turns_like (suc n) d f g h vs s t r = turn (nat_eq (length vs) d) refl (λ ws s1 t1 r1. turns_like n d f g h ws s1 t1 r1)
    where
      turn : (b : Bool) → nat_eq (length vs) d ≡ b → ((ws : List Value) (s1 t1 : S) → k.rel s1 t1 → Like k (turns n d f ws s1) (turns n d g ws t1)) → Like k (if b then again (f vs s) (turns n d f) else Invalid) (if b then again (g vs t) (turns n d g) else Invalid)
      turn true is next = again_like (f vs s) (g vs t) (turns n d f) (turns n d g) (h vs (same_number (length vs) d is) s t r) next
      turn false is next = tt

  -- parts and callees that are alike from states that go together
  abbrev pub PartsLike : {A : Type 0} → (S → Completion S A) → (S → Completion S A) → Type 0
  PartsLike f g = (s t : S) → k.rel s t → Like k (f s) (g t)

  abbrev pub AppliesLike : Kind → Applies S → Applies S → Type 0
  AppliesLike May f g = (c : Callee) (vs : List Value) → Fine May c → (s t : S) → k.rel s t → Like k (f c vs s) (g c vs t)

  pub apply_like : (May : Kind) (cf cg : ℕ → List Value → S → Completion S Value) → ((f : ℕ) (vs : List Value) → May.calls f → (s t : S) → k.rel s t → Like k (cf f vs s) (cg f vs t)) → (span : Span) → AppliesLike May (apply cf span) (apply cg span)
  apply_like May cf cg h span (CoreOp op) vs fine s t r = result_like (core op vs) span s t r
  apply_like May cf cg h span (Function f) vs fine s t r = h f vs fine s t r

  -- what is like one that is like a third is like the third
  pub like_trans : {A : Type 0} (trans : (s t u : S) → k.rel s t → k.rel t u → k.rel s u) (x y z : Completion S A) → Like k x y → Like k y z → Like k x z
  like_trans trans (Completes a s) (Completes b t) (Completes c u) h j = (h.0 ∙ j.0, trans s t u h.1 j.1)
  like_trans trans (Completes a s) (Completes b t) _ h j = absurd j
  like_trans trans (Completes a s) _ z h j = absurd h
  like_trans trans (Recurs a s) (Recurs b t) (Recurs c u) h j = (h.0 ∙ j.0, trans s t u h.1 j.1)
  like_trans trans (Recurs a s) (Recurs b t) _ h j = absurd j
  like_trans trans (Recurs a s) _ z h j = absurd h
  like_trans trans (Faults a s) (Faults b t) (Faults c u) h j = (h.0 ∙ j.0, trans s t u h.1 j.1)
  like_trans trans (Faults a s) (Faults b t) _ h j = absurd j
  like_trans trans (Faults a s) _ z h j = absurd h
  like_trans trans (Retries s) (Retries t) (Retries u) h j = trans s t u h j
  like_trans trans (Retries s) (Retries t) _ h j = absurd j
  like_trans trans (Retries s) _ z h j = absurd h
  like_trans trans (Waits s) (Waits t) (Waits u) h j = trans s t u h j
  like_trans trans (Waits s) (Waits t) _ h j = absurd j
  like_trans trans (Waits s) _ z h j = absurd h
  like_trans trans (OutOfTurns s) (OutOfTurns t) (OutOfTurns u) h j = trans s t u h j
  like_trans trans (OutOfTurns s) (OutOfTurns t) _ h j = absurd j
  like_trans trans (OutOfTurns s) _ z h j = absurd h
  like_trans trans Invalid Invalid z h j = j
  like_trans trans Invalid (Completes b t) z h j = loose_any z h
  like_trans trans Invalid (Recurs b t) z h j = loose_any z h
  like_trans trans Invalid (Faults b t) z h j = loose_any z h
  like_trans trans Invalid (Retries t) z h j = loose_any z h
  like_trans trans Invalid (Waits t) z h j = loose_any z h
  like_trans trans Invalid (OutOfTurns t) z h j = loose_any z h

  -- an end is like itself
  pub like_itself : {A : Type 0} (same : (s : S) → k.rel s s) (x : Completion S A) → Like k x x
  like_itself same (Completes a s) = (refl, same s)
  like_itself same (Recurs vs s) = (refl, same s)
  like_itself same (Faults f s) = (refl, same s)
  like_itself same (Retries s) = same s
  like_itself same (Waits s) = same s
  like_itself same (OutOfTurns s) = same s
  like_itself same Invalid = tt

-- a likeness that asks less
pub forget : {S A : Type 0} (k l : Likeness S) → ((s t : S) → k.rel s t → l.rel s t) → (k.loose → l.loose) → (x y : Completion S A) → Like k x y → Like l x y
forget k l h j (Completes a s) (Completes b t) e = (e.0, h s t e.1)
forget k l h j (Completes a s) _ e = absurd e
forget k l h j (Recurs vs s) (Recurs ws t) e = (e.0, h s t e.1)
forget k l h j (Recurs vs s) _ e = absurd e
forget k l h j (Faults f s) (Faults g t) e = (e.0, h s t e.1)
forget k l h j (Faults f s) _ e = absurd e
forget k l h j (Retries s) (Retries t) e = h s t e
forget k l h j (Retries s) _ e = absurd e
forget k l h j (Waits s) (Waits t) e = h s t e
forget k l h j (Waits s) _ e = absurd e
forget k l h j (OutOfTurns s) (OutOfTurns t) e = h s t e
forget k l h j (OutOfTurns s) _ e = absurd e
forget k l h j Invalid Invalid e = tt
forget k l h j Invalid (Completes b t) e = j e
forget k l h j Invalid (Recurs ws t) e = j e
forget k l h j Invalid (Faults g t) e = j e
forget k l h j Invalid (Retries t) e = j e
forget k l h j Invalid (Waits t) e = j e
forget k l h j Invalid (OutOfTurns t) e = j e

-- the same states, and the same ends
abbrev pub exact : (S : Type 0) → Likeness S
exact S = record { rel = λ s t. s ≡ t; loose = ⊥ }

-- the same states; where the first is invalid the second may be any
abbrev pub improving : (S : Type 0) → Likeness S
improving S = record { rel = λ s t. s ≡ t; loose = Unit {0} }

module _ (S : Type 0) where
  pub exactly : {A : Type 0} (x y : Completion S A) → Like (exact S) x y → y ≡ x
  exactly (Completes v s) (Completes w t) h = ap (λ u. Completes u t) (sym h.0) ∙ ap (λ u. Completes v u) (sym h.1)
  exactly (Completes v s) _ h = absurd h
  exactly (Recurs vs s) (Recurs ws t) h = ap (λ u. Recurs u t) (sym h.0) ∙ ap (λ u. Recurs vs u) (sym h.1)
  exactly (Recurs vs s) _ h = absurd h
  exactly (Faults f s) (Faults g t) h = ap (λ u. Faults u t) (sym h.0) ∙ ap (λ u. Faults f u) (sym h.1)
  exactly (Faults f s) _ h = absurd h
  exactly (Retries s) (Retries t) h = ap Retries (sym h)
  exactly (Retries s) _ h = absurd h
  exactly (Waits s) (Waits t) h = ap Waits (sym h)
  exactly (Waits s) _ h = absurd h
  exactly (OutOfTurns s) (OutOfTurns t) h = ap OutOfTurns (sym h)
  exactly (OutOfTurns s) _ h = absurd h
  exactly Invalid Invalid h = refl
  exactly Invalid _ h = absurd h

  -- where the first isn't invalid, the second is the same
  pub improved : {A : Type 0} (x y : Completion S A) → Like (improving S) x y → (IsInvalid x → ⊥) → y ≡ x
  improved (Completes v s) (Completes w t) h e = ap (λ u. Completes u t) (sym h.0) ∙ ap (λ u. Completes v u) (sym h.1)
  improved (Completes v s) _ h e = absurd h
  improved (Recurs vs s) (Recurs ws t) h e = ap (λ u. Recurs u t) (sym h.0) ∙ ap (λ u. Recurs vs u) (sym h.1)
  improved (Recurs vs s) _ h e = absurd h
  improved (Faults f s) (Faults g t) h e = ap (λ u. Faults u t) (sym h.0) ∙ ap (λ u. Faults f u) (sym h.1)
  improved (Faults f s) _ h e = absurd h
  improved (Retries s) (Retries t) h e = ap Retries (sym h)
  improved (Retries s) _ h e = absurd h
  improved (Waits s) (Waits t) h e = ap Waits (sym h)
  improved (Waits s) _ h e = absurd h
  improved (OutOfTurns s) (OutOfTurns t) h e = ap OutOfTurns (sym h)
  improved (OutOfTurns s) _ h e = absurd h
  improved Invalid y h e = absurd (e tt)
