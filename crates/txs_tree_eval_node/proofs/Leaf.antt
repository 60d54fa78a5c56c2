-- Events, item by item.
use Rattle.std.proofs.Common.{◌≡◌, ℕ, zero, suc, ◌+◌, ◌<◌, List, [], ◌∷◌, ◌++◌, length, get_or, drop, Some, None, refl, sym, ap, ◌∙◌, subst, arith, Vec, Global}
use Rattle.txs_frame.specs.Frame.{with_sends}
use Rattle.txs_tree_eval_node.specs.Events.{seen_event, seen_events}
use Rattle.txs_tree_eval_node.specs.declared.seen.Seen.{Seen}
use Rattle.txs_tree_eval_node.specs.declared.state.Progress.{Progress}
use Rattle.txs_tree_eval_node.specs.Evaluated.{held_of, thread_state}
use Rattle.txs_tree_meaning.specs.Thread.{holding}
use Rattle.txs_value_cell.specs.declared.action.Action.{Action}
use Rattle.txs_world_protocol.specs.SeenEvent.{SeenEvent}

todo_suc : (es : List Seen) (i : ℕ) (e : Seen) → i < length es → e ≡ get_or es i e → drop i (seen_events es) ≡ seen_event e ∷ drop (suc i) (seen_events es)
todo_suc [] i e lt is = absurd (omega (arith, lt))
todo_suc (f ∷ es) zero e lt is = ap (λ x. seen_event x ∷ seen_events es) (sym is)
todo_suc (f ∷ es) (suc i) e lt is = todo_suc es i e (omega (arith, lt)) is

pub todo_here : (es : List Seen) (i : ℕ) (e : Seen) → i < length es → e ≡ get_or es i e → drop i (seen_events es) ≡ seen_event e ∷ drop (i + 1) (seen_events es)
todo_here es i e lt is =
    let same : suc i ≡ i + 1 = omega arith in
    subst (λ k. drop i (seen_events es) ≡ seen_event e ∷ drop k (seen_events es)) same (todo_suc es i e lt is)

-- where an event is left, there is one
left_some : (es : List Seen) (i : ℕ) (e : SeenEvent) (fs : List SeenEvent) → drop i (seen_events es) ≡ e ∷ fs → i < length es
left_some [] zero e fs h = absurd (omega (arith, ap length h))
left_some [] (suc i) e fs h = absurd (omega (arith, ap length h))
left_some (f ∷ es) zero e fs h = omega arith
left_some (f ∷ es) (suc i) e fs h = omega (arith, left_some es i e fs h)

pub event_left : (p : Progress) (e : SeenEvent) (es : List SeenEvent) → (thread_state p).todo ≡ e ∷ es → p.eaten < length p.events.now
event_left p e es h = left_some p.events.now p.eaten e es h

-- those behind the next event
after_suc : (es : List Seen) (i : ℕ) (e : SeenEvent) (fs : List SeenEvent) → drop i (seen_events es) ≡ e ∷ fs → drop (suc i) (seen_events es) ≡ fs
after_suc [] zero e fs h = absurd (omega (arith, ap length h))
after_suc [] (suc i) e fs h = absurd (omega (arith, ap length h))
after_suc (f ∷ es) zero e fs h = ap (drop 1) h
after_suc (f ∷ es) (suc i) e fs h = after_suc es i e fs h

pub event_skipped : (es : List Seen) (i : ℕ) (e : SeenEvent) (fs : List SeenEvent) → drop i (seen_events es) ≡ e ∷ fs → drop (i + 1) (seen_events es) ≡ fs
event_skipped es i e fs h =
    let same : suc i ≡ i + 1 = omega arith in
    subst (λ k. drop k (seen_events es) ≡ fs) same (after_suc es i e fs h)

pub length-seen : (es : List Seen) → length (seen_events es) ≡ length es
length-seen [] = refl
length-seen (e ∷ es) = ap suc (length-seen es)

-- an action holds these sends, too
pub held_more : (p : Progress) (v w : Vec Action Global) (sends : List Action) → p.held ≡ Some v → w.items ≡ v.items ++ sends → thread_state (record p { held = Some w }) ≡ holding sends (thread_state p)
held_more p v w sends is longer =
    let t = thread_state p in
    let was : t.held ≡ Some v.items = ap held_of is in
    ap (λ l. record t { held = Some l }) longer ∙ ap (λ o. record t { held = with_sends sends o }) (sym was)

-- a thread holds none
pub held_none : (p : Progress) (sends : List Action) → p.held ≡ None → thread_state p ≡ holding sends (thread_state p)
held_none p sends is =
    let t = thread_state p in
    let was : t.held ≡ None = ap held_of is in
    ap (λ o. record t { held = o }) was ∙ ap (λ o. record t { held = with_sends sends o }) (sym was)
