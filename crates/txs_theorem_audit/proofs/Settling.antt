-- A meaning with fewer turns and one with more: how far events are right, which transactions are noted and what was printed at least are the
-- same, where fewer turns suffice; where they don't, those with more begin with those with fewer.
use Rattle.std.proofs.Common.{◌≡◌, ◌≤◌, suc, ◌+◌, Bool, true, false, List, [], ◌∷◌, ◌++◌, length, length-append, take, drop, None, refl, sym, ap, ◌∙◌, subst, inl, inr, ◌⊎◌, ⊎_elim, arith, append_assoc, if◌then◌else◌}
use Rattle.std.proofs.lemmas.Bool.{false≢true}
use Rattle.std.proofs.lemmas.List.{append-nil, take-append-drop, take_at}
use Rattle.txs_value_data.specs.declared.value.Value.{Value}
use Rattle.txs_world_protocol.specs.SeenEvent.{SeenEvent}
use Rattle.txs_tree_meaning.specs.Meaning.{Completion, Completes, Recurs, Faults, Retries, Waits, OutOfTurns, Invalid}
use Rattle.txs_tree_meaning.specs.Right.{is_wrong, right_events}
use Rattle.txs_tree_meaning.specs.Thread.{TxRun, ThreadState}
use Rattle.txs_theorem_threads.proofs.Meant.{Any, none_some}
use Rattle.txs_theorem_threads.proofs.Related.{Related}
use Rattle.txs_theorem_threads.specs.EndsSo.{NeedsTurns}
use Rattle.txs_theorem_threads.specs.Noted.{txs_of}
use Rattle.txs_theorem_audit.specs.Verdict.{printed_by, but_last, noted_in, least_of}
use Rattle.txs_theorem_audit.proofs.Beginning.{longer, k}
use Rattle.txs_theorem_audit.proofs.Findings.{true_false}
use Rattle.txs_theorem_audit.proofs.Least.{last_of}
use Rattle.txs_theorem_audit.proofs.Onward.{Onward, From, Step}
use Rattle.txs_theorem_audit.proofs.Resuming.{Resumes, Rests}
use Rattle.txs_theorem_audit.proofs.Waiting.{waits_front}

-- ---- lists

none_left : {A : Type 0} (xs : List A) → length xs ≤ 0 → xs ≡ []
none_left [] h = refl
none_left (x ∷ xs) h = absurd (omega (arith, h))

some_left : (xs : List SeenEvent) → (xs ≡ [] → ⊥) → 1 ≤ length xs
some_left [] h = absurd (h refl)
some_left (x ∷ xs) h = omega arith

-- ---- states and meanings

-- where no event is left, no transaction is noted any more
pub noted_all : (s t : ThreadState) → Onward s t → s.todo ≡ [] → t.txs ≡ s.txs
noted_all s t g e =
    let many : length (g.gone ++ t.todo) ≡ 0 = ap length (sym g.eats ∙ e) in
    let parts : length (g.gone ++ t.todo) ≡ length g.gone + length t.todo = length-append g.gone t.todo in
    let few = g.few in
    let none : g.runs ≡ [] = none_left g.runs (omega (arith, many, parts, few)) in
    g.notes ∙ ap (λ l. s.txs ++ l) none ∙ append-nil s.txs

-- whether turns suffice
pub long_or_short : (c : Completion ThreadState Value) → (NeedsTurns c → ⊥) ⊎ ((u : ThreadState) × (c ≡ OutOfTurns u))
long_or_short (Completes v t) = inl (λ z. z)
long_or_short (Recurs vs t) = inl (λ z. z)
long_or_short (Faults f t) = inl (λ z. z)
long_or_short (Retries t) = inl (λ z. z)
long_or_short (Waits t) = inl (λ z. z)
long_or_short (OutOfTurns t) = inr (t, refl)
long_or_short Invalid = inl (λ z. z)

same_meant : (c d : Completion ThreadState Value) → Step None Any c d → (NeedsTurns c → ⊥) → d ≡ c
same_meant (Completes v t) d h enough = h
same_meant (Recurs vs t) d h enough = h
same_meant (Faults f t) d h enough = h
same_meant (Retries t) d h enough = h
same_meant (Waits t) d h enough = h
same_meant (OutOfTurns t) d h enough = absurd (enough tt)
same_meant Invalid d h enough = h

-- what needs turns needs them on more events, too
short_later : (fs : List SeenEvent) (c d : Completion ThreadState Value) → Related (k fs) c d → NeedsTurns c → NeedsTurns d
short_later fs (Completes v t) d h n = absurd n
short_later fs (Recurs vs t) d h n = absurd n
short_later fs (Faults f t) d h n = absurd n
short_later fs (Retries t) d h n = absurd n
short_later fs (Waits t) d h n = absurd n
short_later fs (OutOfTurns u) (OutOfTurns t) h n = tt
short_later fs (OutOfTurns u) _ h n = absurd h
short_later fs Invalid d h n = absurd n

-- What comes to be noted from a state on, where it isn't wrong.
later_noted : (u : ThreadState) (c : Completion ThreadState Value) → From None Any u c → is_wrong c ≡ false → (rest : List TxRun) × (txs_of c ≡ u.txs ++ rest)
later_noted u (Completes v t) h r = (h.1.runs, h.1.notes)
later_noted u (Recurs vs t) h r = absurd (true_false r)
later_noted u (Faults f t) h r = (h.runs, h.notes)
later_noted u (Retries t) h r = absurd h
later_noted u (Waits t) h r = (h.runs, h.notes)
later_noted u (OutOfTurns t) h r = (h.runs, h.notes)
later_noted u Invalid h r = absurd (true_false r)

-- what goes wrong from a state on has an event to come there
wrong_at : (u : ThreadState) (c : Completion ThreadState Value) → From None Any u c → is_wrong c ≡ true → u.todo ≡ [] → ⊥
wrong_at u (Completes v t) h w e = false≢true w
wrong_at u (Recurs vs t) h w e = none_some (length vs) h.0
wrong_at u (Faults f t) h w e = false≢true w
wrong_at u (Retries t) h w e = h
wrong_at u (Waits t) h w e = false≢true w
wrong_at u (OutOfTurns t) h w e = false≢true w
wrong_at u Invalid h w e = h e

-- ---- the first event that isn't allowed

-- these events are right up to that one
record Halts (m : List SeenEvent → Completion ThreadState Value) (done es : List SeenEvent) : Type 0 where
  front : List SeenEvent
  first : SeenEvent
  rest : List SeenEvent
  all : es ≡ front ++ first ∷ rest
  count : right_events m done es ≡ length done + length front
  right : is_wrong (m (done ++ front)) ≡ false
  wrong : is_wrong (m ((done ++ front) ++ first ∷ [])) ≡ true

halts : (m : List SeenEvent → Completion ThreadState Value) (done es : List SeenEvent) → is_wrong (m done) ≡ false → is_wrong (m (done ++ es)) ≡ true → Halts m done es
halts m done [] r w = absurd (true_false (sym (subst (λ l. is_wrong (m l) ≡ true) (append-nil done) w) ∙ r))
halts m done (e ∷ es) r w = test (is_wrong (m (done ++ e ∷ []))) refl (λ q. halts m (done ++ e ∷ []) es q (subst (λ l. is_wrong (m l) ≡ true) (sym (append_assoc done (e ∷ []) es)) w))
  where
    test : (b : Bool) → is_wrong (m (done ++ e ∷ [])) ≡ b → (is_wrong (m (done ++ e ∷ [])) ≡ false → Halts m (done ++ e ∷ []) es) → Halts m done (e ∷ es)
    test true is next = record {
      front = [];
      first = e;
      rest = es;
      all = refl;
      count = ap (λ b. if b then length done else right_events m (done ++ e ∷ []) es) is ∙ plain;
      right = subst (λ l. is_wrong (m l) ≡ false) (sym (append-nil done)) r;
      wrong = subst (λ l. is_wrong (m (l ++ e ∷ [])) ≡ true) (sym (append-nil done)) is;
    }
      where
        plain : length done ≡ length done + 0
        plain = omega arith
    test false is next =
        let h = next is in
        let here : right_events m done (e ∷ es) ≡ right_events m (done ++ e ∷ []) es = ap (λ b. if b then length done else right_events m (done ++ e ∷ []) es) is in
        let many : length (done ++ e ∷ []) ≡ length done + 1 = length-append done (e ∷ []) in
        let sums : length (done ++ e ∷ []) + length h.front ≡ length done + suc (length h.front) = omega (arith, many) in
        record {
          front = e ∷ h.front;
          first = h.first;
          rest = h.rest;
          all = ap (λ l. e ∷ l) h.all;
          count = here ∙ h.count ∙ sums;
          right = subst (λ l. is_wrong (m l) ≡ false) (append_assoc done (e ∷ []) h.front) h.right;
          wrong = subst (λ l. is_wrong (m (l ++ h.first ∷ [])) ≡ true) (append_assoc done (e ∷ []) h.front) h.wrong;
        }

-- ---- fewer turns and more

-- what is known of a meaning with fewer turns and with more
pub record Turned (x y : List SeenEvent → Completion ThreadState Value) : Type 0 where
  pub steps : (es : List SeenEvent) → Step None Any (x es) (y es)
  pub cuts : (es fs : List SeenEvent) → Related (k fs) (x es) (x (es ++ fs))
  pub resumes : (es fs : List SeenEvent) → Resumes fs None Any (x es) (x (es ++ fs))
  pub first : is_wrong (y []) ≡ false

module _ (x y : List SeenEvent → Completion ThreadState Value) (turned : Turned x y) where
  -- ---- where turns suffice

  pub same_whole : (es : List SeenEvent) → (NeedsTurns (x es) → ⊥) → y es ≡ x es
  same_whole es enough = same_meant (x es) (y es) (turned.steps es) enough

  -- a beginning of the events
  same_front : (es fs : List SeenEvent) → (NeedsTurns (x (es ++ fs)) → ⊥) → y es ≡ x es
  same_front es fs enough = same_whole es (λ z. enough (short_later fs (x es) (x (es ++ fs)) (turned.cuts es fs) z))

  same_part : (es fs all : List SeenEvent) → es ++ fs ≡ all → (NeedsTurns (x all) → ⊥) → y es ≡ x es
  same_part es fs all e enough = same_front es fs (subst (λ l. NeedsTurns (x l) → ⊥) (sym e) enough)

  right_same : (done es : List SeenEvent) → (NeedsTurns (x (done ++ es)) → ⊥) → right_events y done es ≡ right_events x done es
  right_same done [] enough = refl
  right_same done (e ∷ es) enough =
      let long : NeedsTurns (x ((done ++ e ∷ []) ++ es)) → ⊥ = subst (λ l. NeedsTurns (x l) → ⊥) (sym (append_assoc done (e ∷ []) es)) enough in
      ap (λ c. if is_wrong c then length done else right_events y (done ++ e ∷ []) es) (same_front (done ++ e ∷ []) es long) ∙ ap (λ n. if is_wrong (x (done ++ e ∷ [])) then length done else n) (right_same (done ++ e ∷ []) es long)

  pub same_right : (es : List SeenEvent) → (NeedsTurns (x es) → ⊥) → right_events y [] es ≡ right_events x [] es
  same_right es enough = right_same [] es enough

  pub same_noted : (es : List SeenEvent) → (NeedsTurns (x es) → ⊥) → noted_in y es ≡ noted_in x es
  same_noted es enough =
      let n = right_events x [] es in
      ap (λ c. txs_of (if is_wrong c then y (take (right_events y [] es) es) else c)) (same_whole es enough) ∙ ap (λ i. txs_of (if is_wrong (x es) then y (take i es) else x es)) (same_right es enough)
      ∙ ap (λ c. txs_of (if is_wrong (x es) then c else x es)) (same_part (take n es) (drop n es) es (take-append-drop n es) enough)

  pub same_least : (es : List SeenEvent) → (NeedsTurns (x es) → ⊥) → least_of y es ≡ least_of x es
  same_least [] enough = refl
  same_least (e ∷ es) enough = let l = last_of e es in ap printed_by (same_part (but_last (e ∷ es)) (l.0 ∷ []) (e ∷ es) (sym l.1) enough)

  -- ---- where they don't

  from_short : (es : List SeenEvent) (u : ThreadState) → x es ≡ OutOfTurns u → From None Any u (y es)
  from_short es u e = subst (λ c. Step None Any c (y es)) e (turned.steps es)

  -- what was printed at least, where all events are eaten
  pub short_least : (es : List SeenEvent) (u : ThreadState) → x es ≡ OutOfTurns u → u.todo ≡ [] → least_of y es ≡ least_of x es
  short_least [] u e left = refl
  short_least (e ∷ es) u is left =
      let l = last_of e es in
      let front = but_last (e ∷ es) in
      let whole : x (front ++ l.0 ∷ []) ≡ OutOfTurns u = ap x (sym l.1) ∙ is in
      let w = waits_front l.0 (x front) (OutOfTurns u) (subst (λ c. Related (k (l.0 ∷ [])) (x front) c) whole (turned.cuts front (l.0 ∷ []))) left in
      ap printed_by (same_whole front (λ z. subst NeedsTurns w.1 z))

  -- what turns don't suffice for on all events is the same state on fewer
  txs_cut : (es fs : List SeenEvent) (u v : ThreadState) → x es ≡ OutOfTurns v → x (es ++ fs) ≡ OutOfTurns u → u.txs ≡ v.txs
  txs_cut es fs u v e f =
      let r : Related {A = Value} (k fs) (OutOfTurns v) (OutOfTurns u) = subst (λ c. Related (k fs) c (OutOfTurns u)) e (subst (λ c. Related (k fs) (x es) c) f (turned.cuts es fs)) in
      ap (λ (s : ThreadState). s.txs) r

  abbrev NotedBefore : ThreadState → Completion ThreadState Value → Type 0
  NotedBefore u c = (rest : List TxRun) × (txs_of c ≡ u.txs ++ rest)

  -- on the events up to one that isn't allowed with more turns, no fewer transactions are noted
  module _ (es : List SeenEvent) (u : ThreadState) (short : x es ≡ OutOfTurns u) (h : Halts y [] es) where
    abbrev gs : List SeenEvent
    gs = h.front

    abbrev hs : List SeenEvent
    hs = h.front ++ h.first ∷ []

    whole : x (gs ++ h.first ∷ h.rest) ≡ OutOfTurns u
    whole = ap x (sym h.all) ∙ short

    longer_whole : x (hs ++ h.rest) ≡ OutOfTurns u
    longer_whole = ap x (append_assoc h.front (h.first ∷ []) h.rest) ∙ ap x (sym h.all) ∙ short

    -- where it waits before that event, none is noted at it
    same_before : (v t : ThreadState) → x hs ≡ OutOfTurns t → v.todo ≡ [] → Onward (longer (h.first ∷ []) v) t → v.txs ≡ t.txs
    same_before v t e left g =
        let all : length (g.gone ++ t.todo) ≡ length (v.todo ++ h.first ∷ []) = ap length (sym g.eats) in
        let one : length (v.todo ++ h.first ∷ []) ≡ 1 = ap (λ l. length (l ++ h.first ∷ [])) left in
        let parts : length (g.gone ++ t.todo) ≡ length g.gone + length t.todo = length-append g.gone t.todo in
        let some : 1 ≤ length t.todo = some_left t.todo (wrong_at t (y hs) (from_short hs t e) h.wrong) in
        let few = g.few in
        let none : g.runs ≡ [] = none_left g.runs (omega (arith, all, one, parts, some, few)) in
        sym (g.notes ∙ ap (λ l. v.txs ++ l) none ∙ append-nil v.txs)

    waited : (v : ThreadState) → x gs ≡ Waits v → NotedBefore u (y gs)
    waited v e =
        go (x hs) refl (subst (λ c. Related (k h.rest) (x hs) c) longer_whole (turned.cuts hs h.rest)) (subst (λ c. Resumes (h.first ∷ []) None Any c (x hs)) e (turned.resumes gs (h.first ∷ [])))
      where
        same_wait : y gs ≡ Waits v
        same_wait = same_whole gs (λ z. subst NeedsTurns e z) ∙ e

        go : (c : Completion ThreadState Value) → x hs ≡ c → Related (k h.rest) c (OutOfTurns u) → Rests (h.first ∷ []) None Any v c → NotedBefore u (y gs)
        go (Completes w t) f r q = absurd r
        go (Recurs ws t) f r q = absurd r
        go (Faults g t) f r q = absurd r
        go (Retries t) f r q = absurd r
        go (Waits t) f r q = absurd (false≢true (sym (ap is_wrong (same_whole hs (λ z. subst NeedsTurns f z) ∙ f)) ∙ h.wrong))
        go (OutOfTurns t) f r q =
            ⊎_elim (λ g. absurd (subst NeedsTurns g tt))
            (λ g. ([], ap txs_of same_wait ∙ same_before v t f g.0 g.1 ∙ sym (txs_cut hs h.rest u t f longer_whole) ∙ sym (append-nil u.txs))) q
        go Invalid f r q = absurd (false≢true r)

    before : NotedBefore u (y gs)
    before = go (x gs) refl (subst (λ c. Related (k (h.first ∷ h.rest)) (x gs) c) whole (turned.cuts gs (h.first ∷ h.rest)))
      where
        go : (c : Completion ThreadState Value) → x gs ≡ c → Related (k (h.first ∷ h.rest)) c (OutOfTurns u) → NotedBefore u (y gs)
        go (Completes v t) e r = absurd r
        go (Recurs vs t) e r = absurd r
        go (Faults f t) e r = absurd r
        go (Retries t) e r = absurd r
        go (Waits t) e r = waited t e
        go (OutOfTurns t) e r =
            let l = later_noted t (y gs) (from_short gs t e) h.right in
            (l.0, l.1 ∙ ap (λ z. z ++ l.0) (sym (txs_cut gs (h.first ∷ h.rest) u t e whole)))
        go Invalid e r = absurd (false≢true r)

    at_front : take (right_events y [] es) es ≡ gs
    at_front =
        let n = right_events y [] es in
        let c = h.count in
        let many : length gs ≡ n = omega (arith, c) in
        ap (take n) h.all ∙ take_at gs (h.first ∷ h.rest) n many

  -- with more turns, no fewer transactions are noted
  pub short_noted : (es : List SeenEvent) (u : ThreadState) → x es ≡ OutOfTurns u → (rest : List TxRun) × (noted_in y es ≡ u.txs ++ rest)
  short_noted es u e = test (is_wrong (y es)) refl
    where
      test : (b : Bool) → is_wrong (y es) ≡ b → (rest : List TxRun) × (noted_in y es ≡ u.txs ++ rest)
      test true w =
          let h = halts y [] es turned.first w in
          let r = before es u e h in
          (r.0, ap (λ b. txs_of (if b then y (take (right_events y [] es) es) else y es)) w ∙ ap (λ l. txs_of (y l)) (at_front es u e h) ∙ r.1)
      test false w =
          let r = later_noted u (y es) (from_short es u e) w in
          (r.0, ap (λ b. txs_of (if b then y (take (right_events y [] es) es) else y es)) w ∙ r.1)

  -- where all events are eaten, they are the same
  pub short_same : (es : List SeenEvent) (u : ThreadState) → x es ≡ OutOfTurns u → u.todo ≡ [] → (noted_in y es ≡ u.txs) × (txs_of (y es) ≡ u.txs)
  short_same es u e left =
      let same : (is_wrong (y es) ≡ false) × (txs_of (y es) ≡ u.txs) = go (y es) (from_short es u e) in
      (ap (λ b. txs_of (if b then y (take (right_events y [] es) es) else y es)) same.0 ∙ same.1, same.1)
    where
      go : (c : Completion ThreadState Value) → From None Any u c → (is_wrong c ≡ false) × (txs_of c ≡ u.txs)
      go (Completes v t) h = (refl, noted_all u t h.1 left)
      go (Recurs vs t) h = absurd (none_some (length vs) h.0)
      go (Faults f t) h = (refl, noted_all u t h left)
      go (Retries t) h = absurd h
      go (Waits t) h = (refl, noted_all u t h left)
      go (OutOfTurns t) h = (refl, noted_all u t h left)
      go Invalid h = absurd (h left)
