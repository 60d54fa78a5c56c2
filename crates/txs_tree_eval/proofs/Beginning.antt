-- Where a thread, or an action, waits before an event that it doesn't allow, this is the first that gives it no meaning.
use Rattle.std.proofs.Common.{◌≡◌, suc, ◌+◌, ◌-◌, ◌≤◌, Bool, true, false, List, [], ◌∷◌, ◌++◌, length, take, refl, sym, ap, ◌∙◌, subst, inl, inr, ⊎_elim, ◌⊎◌, if◌then◌else◌, append_assoc, length-append, arith}
use Rattle.std.proofs.Math.Seq.{take-append_seam}
use Rattle.std.proofs.lemmas.Bool.{false≢true}
use Rattle.std.proofs.lemmas.List.{append-nil}
use Rattle.txs_world_protocol.specs.SeenEvent.{SeenEvent}
use Rattle.txs_value_data.specs.declared.value.Value.{Value}
use Rattle.txs_tree_meaning.specs.Meaning.{Completion, Completes, Recurs, Faults, Retries, Waits, OutOfTurns, Invalid}
use Rattle.txs_tree_meaning.specs.Right.{is_wrong, right_events}
use Rattle.txs_tree_meaning.specs.Thread.{ThreadState}
use Rattle.txs_tree_eval.proofs.Right.{Steady, longer, unasked, Later, Three}

-- ---- answers that wait

abbrev IsWaiting : Completion ThreadState Value → Type 0
IsWaiting (Completes v s) = ⊥
IsWaiting (Recurs vs s) = ⊥
IsWaiting (Faults e s) = ⊥
IsWaiting (Retries s) = ⊥
IsWaiting (Waits s) = Unit {0}
IsWaiting (OutOfTurns s) = ⊥
IsWaiting Invalid = ⊥

waiting : (c : Completion ThreadState Value) (s : ThreadState) → c ≡ Waits s → IsWaiting c
waiting c s h = subst IsWaiting (sym h) tt

abbrev state_or : ThreadState → Completion ThreadState Value → ThreadState
state_or d (Waits s) = s
state_or d _ = d

abbrev pub waits_at : ThreadState → Completion ThreadState Value
waits_at s = Waits s

pub same_wait : (s t : ThreadState) → waits_at s ≡ waits_at t → s ≡ t
same_wait s t h = ap (λ c. state_or s c) h

-- a thread that waits before an event
abbrev pub Left : ThreadState → Type 0
Left s = (e : SeenEvent) × (es : List SeenEvent) × (s.todo ≡ e ∷ es)

abbrev pub Before : Completion ThreadState Value → Type 0
Before x = (t : ThreadState) × (x ≡ Waits t) × Left t

module _ (f : SeenEvent) (gs : List SeenEvent) where
  -- The meaning is that of the thread that waits before what it doesn't allow; or there is none, and this one waits before an event.
  pub either_way : (c x y : Completion ThreadState Value) → Three f gs c x y → (c ≡ x) ⊎ ((c ≡ Invalid) × Before x)
  either_way (Completes v s) x y h = inl (sym h.0)
  either_way (Recurs vs s) x y h = inl (sym h.0)
  either_way (Faults e s) x y h = inl (sym h.0)
  either_way (Retries s) x y h = inl (sym h.0)
  either_way (Waits s) x y h = inl (sym h.1)
  either_way (OutOfTurns s) x y h = inl (sym h.0)
  either_way Invalid x y h = ⊎_elim (λ p. inl (sym p.0)) (λ p. inr (refl, (p.0, p.4, (p.1, p.2, p.3)))) h

  -- a meaning waits for the event behind all
  pub waits_behind : (c x y : Completion ThreadState Value) (s : ThreadState) → Three f gs c x y → c ≡ Waits s → s.todo ≡ []
  waits_behind (Completes v u) x y s h is = absurd (waiting _ s is)
  waits_behind (Recurs vs u) x y s h is = absurd (waiting _ s is)
  waits_behind (Faults e u) x y s h is = absurd (waiting _ s is)
  waits_behind (Retries u) x y s h is = absurd (waiting _ s is)
  waits_behind (Waits u) x y s h is = sym (ap (λ t. t.todo) (same_wait u s is)) ∙ h.0
  waits_behind (OutOfTurns u) x y s h is = absurd (waiting _ s is)
  waits_behind Invalid x y s h is = absurd (waiting _ s is)

  -- where there is no meaning, what waits on all events waits there
  wrong_stops : (c x y : Completion ThreadState Value) (s : ThreadState) → Three f gs c x y → is_wrong c ≡ true → y ≡ Waits s → (t : ThreadState) × (x ≡ Waits t) × (s ≡ longer f gs t) × Left t
  wrong_stops (Completes v u) x y s h w is = absurd (false≢true w)
  wrong_stops (Recurs vs u) x y s h w is = absurd (subst IsWaiting (sym is ∙ h.1) tt)
  wrong_stops (Faults e u) x y s h w is = absurd (false≢true w)
  wrong_stops (Retries u) x y s h w is = absurd (subst IsWaiting (sym is ∙ h.1) tt)
  wrong_stops (Waits u) x y s h w is = absurd (false≢true w)
  wrong_stops (OutOfTurns u) x y s h w is = absurd (false≢true w)
  wrong_stops Invalid x y s h w is =
      ⊎_elim (λ p. absurd (subst IsWaiting (sym is ∙ p.1) tt)) (λ p. (p.0, p.4, same_wait s (longer f gs p.0) (sym is ∙ p.5), (p.1, p.2, p.3))) h

  wrong_here : (c x y : Completion ThreadState Value) (s : ThreadState) → Three f gs c x y → is_wrong c ≡ true → x ≡ Waits s → Left s
  wrong_here (Completes v u) x y s h w is = absurd (false≢true w)
  wrong_here (Recurs vs u) x y s h w is = absurd (subst IsWaiting (sym is ∙ h.0) tt)
  wrong_here (Faults e u) x y s h w is = absurd (false≢true w)
  wrong_here (Retries u) x y s h w is = absurd (subst IsWaiting (sym is ∙ h.0) tt)
  wrong_here (Waits u) x y s h w is = absurd (false≢true w)
  wrong_here (OutOfTurns u) x y s h w is = absurd (false≢true w)
  wrong_here Invalid x y s h w is =
      ⊎_elim (λ p. absurd (subst IsWaiting (sym is ∙ p.0) tt)) (λ p. (p.1, p.2, ap (λ t. t.todo) (same_wait s p.0 (sym is ∙ p.4)) ∙ p.3)) h

-- what waits before the one event behind waits for it on the events before
right_before : (f : SeenEvent) (c x y : Completion ThreadState Value) (t : ThreadState) → Three f [] c x y → is_wrong c ≡ false → y ≡ Waits t → Left t → (s : ThreadState) × (c ≡ Waits s) × (s.todo ≡ []) × (unasked f [] t ≡ unasked f [] (longer f [] s))
right_before f (Completes v u) x y t h w is left = absurd (subst IsWaiting (sym is ∙ h.1) tt)
right_before f (Recurs vs u) x y t h w is left = absurd (false≢true (sym w))
right_before f (Faults e u) x y t h w is left = absurd (subst IsWaiting (sym is ∙ h.1) tt)
right_before f (Retries u) x y t h w is left = absurd (false≢true (sym w))
right_before f (Waits u) x y t h w is left =
    let later : Later f [] {A = Value} u (Waits t) = subst (λ d. Later f [] u d) is h.2 in
    ⊎_elim (λ same. (u, refl, h.0, same)) (λ few. absurd (omega (arith, few, ap length left.2))) later
right_before f (OutOfTurns u) x y t h w is left = absurd (subst IsWaiting (sym is ∙ h.1) tt)
right_before f Invalid x y t h w is left = absurd (false≢true (sym w))

-- ---- the first event that gives no meaning

module _ (means : List SeenEvent → Completion ThreadState Value) where
  -- the events before it, and it
  pub record First (done es : List SeenEvent) : Type 0 where
    pub front : List SeenEvent
    pub event : SeenEvent
    pub rest : List SeenEvent
    pub all : done ++ es ≡ front ++ event ∷ rest
    pub right : is_wrong (means front) ≡ false
    pub wrong : is_wrong (means (front ++ event ∷ [])) ≡ true
    pub many : right_events means done es ≡ length front

  first : (done es : List SeenEvent) → is_wrong (means done) ≡ false → is_wrong (means (done ++ es)) ≡ true → First done es
  first done [] right wrong = absurd (false≢true (sym right ∙ sym (ap (λ l. is_wrong (means l)) (append-nil done)) ∙ wrong))
  first done (e ∷ es) right wrong = test (is_wrong (means (done ++ e ∷ []))) refl (λ next. first (done ++ e ∷ []) es next (ap (λ l. is_wrong (means l)) joined ∙ wrong))
    where
      joined : (done ++ e ∷ []) ++ es ≡ done ++ e ∷ es
      joined = append_assoc done (e ∷ []) es

      test : (b : Bool) → is_wrong (means (done ++ e ∷ [])) ≡ b → (is_wrong (means (done ++ e ∷ [])) ≡ false → First (done ++ e ∷ []) es) → First done (e ∷ es)
      test true is later =
          record {
            front = done;
            event = e;
            rest = es;
            all = refl;
            right = right;
            wrong = is;
            many = ap (λ (c : Bool). if c then length done else right_events means (done ++ e ∷ []) es) is;
          }
      test false is later =
          let found = later is in
          record {
            front = found.front;
            event = found.event;
            rest = found.rest;
            all = sym joined ∙ found.all;
            right = found.right;
            wrong = found.wrong;
            many = ap (λ (c : Bool). if c then length done else right_events means (done ++ e ∷ []) es) is ∙ found.many;
          }

  -- the thread that waits before what it doesn't allow
  module _ (goes : List SeenEvent → Completion ThreadState Value) (three : (f : SeenEvent) (gs es : List SeenEvent) → Three f gs (means es) (goes es) (goes (es ++ f ∷ gs))) (steady : (es : List SeenEvent) → Steady (length es) (goes es)) (some : SeenEvent) where
    -- without events there is a meaning
    begins : (es : List SeenEvent) (s : ThreadState) → goes es ≡ Waits s → is_wrong (means []) ≡ false
    begins es s is = test es is (is_wrong (means [])) refl
      where
        few : (t : ThreadState) → goes [] ≡ Waits t → Left t → ⊥
        few t at left =
            let low : length t.todo ≤ 0 = subst (λ c. Steady 0 c) at (steady []) in
            omega (arith, low, ap length left.2)

        test : (fs : List SeenEvent) → goes fs ≡ Waits s → (b : Bool) → is_wrong (means []) ≡ b → is_wrong (means []) ≡ false
        test fs at false w = w
        test [] at true w = absurd (few s at (wrong_here some [] (means []) (goes []) (goes (some ∷ [])) s (three some [] []) w at))
        test (f ∷ gs) at true w =
            let stopped = wrong_stops f gs (means []) (goes []) (goes (f ∷ gs)) s (three f gs []) w at in
            absurd (few stopped.0 stopped.1 stopped.3)

    -- it waits before an event that gives no meaning where this is the last, and so it does with more events behind
    stops_at : (front : List SeenEvent) (e : SeenEvent) (rest : List SeenEvent) (s : ThreadState) → is_wrong (means (front ++ e ∷ [])) ≡ true → goes (front ++ e ∷ rest) ≡ Waits s
        → (t : ThreadState) × (goes (front ++ e ∷ []) ≡ Waits t) × Left t × (s.todo ≡ t.todo ++ rest) × (s.printed ≡ t.printed) × (s.txs ≡ t.txs)
    stops_at front e [] s w is =
        (s, is, wrong_here some [] (means (front ++ e ∷ [])) (goes (front ++ e ∷ [])) (goes ((front ++ e ∷ []) ++ some ∷ [])) s (three some [] (front ++ e ∷ [])) w is, sym (append-nil s.todo), refl, refl)
    stops_at front e (f ∷ gs) s w is =
        let joined : (front ++ e ∷ []) ++ f ∷ gs ≡ front ++ e ∷ f ∷ gs = append_assoc front (e ∷ []) (f ∷ gs) in
        let stopped = wrong_stops f gs (means (front ++ e ∷ [])) (goes (front ++ e ∷ [])) (goes ((front ++ e ∷ []) ++ f ∷ gs)) s (three f gs (front ++ e ∷ [])) w (ap goes joined ∙ is) in
        (stopped.0, stopped.1, stopped.3, ap (λ t. t.todo) stopped.2, ap (λ t. t.printed) stopped.2, ap (λ t. t.txs) stopped.2)

    -- how many events are right, and what the thread means on them
    pub goes_right : (es : List SeenEvent) (s : ThreadState) → means es ≡ Invalid → goes es ≡ Waits s
        → (right_events means [] es ≡ length es - length s.todo) × (t : ThreadState) × (means (take (right_events means [] es) es) ≡ Waits t) × (s.printed ≡ t.printed) × (s.txs ≡ t.txs)
    goes_right es s none is =
        let it = first [] es (begins es s is) (ap is_wrong none) in
        let whole : goes (it.front ++ it.event ∷ it.rest) ≡ Waits s = ap goes (sym it.all) ∙ is in
        let stop = stops_at it.front it.event it.rest s it.wrong whole in
        let now = right_before it.event (means it.front) (goes it.front) (goes (it.front ++ it.event ∷ [])) stop.0 (three it.event [] it.front) it.right stop.1 stop.2 in
        let all : length es ≡ length it.front + suc (length it.rest) = ap length it.all ∙ length-append it.front (it.event ∷ it.rest) in
        let one : stop.0.todo ≡ it.event ∷ [] = ap (λ t. t.todo) now.3 ∙ ap (λ l. l ++ it.event ∷ []) now.2 in
        let left : length s.todo ≡ suc (length it.rest) = ap length stop.3 ∙ ap (λ l. length (l ++ it.rest)) one in
        let before : means (take (right_events means [] es) es) ≡ means it.front = ap (λ k. means (take k es)) it.many ∙ ap (λ l. means (take (length it.front) l)) it.all ∙ ap means (take-append_seam it.front (it.event ∷ it.rest)) in (
          omega (arith, it.many, all, left),
          now.0,
          before ∙ now.1,
          stop.4 ∙ ap (λ t. t.printed) now.3,
          stop.5 ∙ ap (λ t. t.txs) now.3,
        )
