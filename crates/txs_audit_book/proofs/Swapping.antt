-- What an event makes of an atom's swaps.
use Rattle.std.proofs.Common.{◌≡◌, ◌≤◌, ◌<◌, ℕ, zero, suc, Bool, true, false, nat_le, List, [], ◌∷◌, ◌++◌, length, Some, None, refl, sym, ap, ◌∙◌, subst, arith, length-append, if◌then◌else◌}
use Rattle.std.proofs.lemmas.Bool.{lt-ltb, le-ltb, leb-true, leb-false}
use Rattle.txs_tree_eval_transaction.proofs.Halves.{ascend_add, entry_added, entry_beyond}
use Rattle.txs_tree_eval_transaction.specs.Pasts.{Ascend, entry_at, latest}
use Rattle.txs_tree_eval_transaction.specs.Views.{held, value_in}
use Rattle.txs_value_data.specs.declared.value.Value.{Value}
use Rattle.txs_world_book.specs.Atom.{atom_after, swapped_to}
use Rattle.txs_world_book.specs.Book.{value_or}
use Rattle.txs_world_book.specs.Served.{event_of}
use Rattle.txs_world_book.specs.Stands.{Marked}
use Rattle.txs_world_book.proofs.Standing.{actor_more}
use Rattle.txs_world_protocol.specs.declared.event.Event.{Event}
use Rattle.txs_world_protocol.specs.declared.event.EventKind.{EventKind}
use Rattle.txs_world_protocol.specs.declared.event.EventKind.TheVariants.{Read, Commit, Retry, Fail, Refused, Send, SendRefused, Act, Swap, Broke}
use Rattle.txs_audit_book.specs.Swapped.{GoneSwaps, SwapsAre, swaps_put}

atom_front : (v : Value) (es fs : List Event) (p : ℕ) → p ≤ length es → atom_after v (es ++ fs) p ≡ atom_after v es p
atom_front v [] [] p le = refl
atom_front v [] (f ∷ fs) zero le = refl
atom_front v [] (f ∷ fs) (suc p) le = absurd (omega (arith, le))
atom_front v (e ∷ es) fs zero le = refl
atom_front v (e ∷ es) fs (suc p) le = atom_front (value_or (swapped_to e.kind) v) es fs p (omega (arith, le))

atom_beyond : (v : Value) (es : List Event) (p : ℕ) → length es ≤ p → atom_after v es p ≡ atom_after v es (length es)
atom_beyond v [] p le = refl
atom_beyond v (e ∷ es) zero le = absurd (omega (arith, le))
atom_beyond v (e ∷ es) (suc p) le = atom_beyond (value_or (swapped_to e.kind) v) es p (omega (arith, le))

atom_last : (v : Value) (es : List Event) (e : Event) → atom_after v (es ++ e ∷ []) (length (es ++ e ∷ [])) ≡ value_or (swapped_to e.kind) (atom_after v es (length es))
atom_last v [] e = refl
atom_last v (d ∷ es) e = atom_last (value_or (swapped_to d.kind) v) es e

longer : (es : List Event) (e : Event) → length (es ++ e ∷ []) ≡ suc (length es)
longer es e = length-append es (e ∷ []) ∙ omega arith

module _ (h : List (ℕ × Value)) (es : List Event) (e : Event) (are : SwapsAre h es) (within : latest 0 h ≤ length es) (ascend : Ascend 0 h) where
  at_end : (v : Value) (p : ℕ) → length es < p → atom_after v (es ++ e ∷ []) p ≡ value_or (swapped_to e.kind) (atom_after v es (length es))
  at_end v p lt = atom_beyond v (es ++ e ∷ []) p (omega (arith, lt, longer es e)) ∙ atom_last v es e

  are_same : swapped_to e.kind ≡ None → SwapsAre h (es ++ e ∷ [])
  are_same off v p = go (nat_le p (length es)) refl
    where
      go : (b : Bool) → nat_le p (length es) ≡ b → atom_after v (es ++ e ∷ []) p ≡ value_or (held h p) v
      go true q = atom_front v es (e ∷ []) p (leb-true p (length es) q) ∙ are v p
      go false q =
          let lt = leb-false p (length es) q in
          at_end v p lt ∙ ap (λ o. value_or o (atom_after v es (length es))) off ∙ are v (length es) ∙ ap (λ o. value_or (value_in o) v) (entry_beyond h (length es) p ascend within (omega (arith, within, lt)))

  are_put : (x : Value) → swapped_to e.kind ≡ Some x → SwapsAre (h ++ (suc (length es), x) ∷ []) (es ++ e ∷ [])
  are_put x on v p = go (nat_le p (length es)) refl
    where
      go : (b : Bool) → nat_le p (length es) ≡ b → atom_after v (es ++ e ∷ []) p ≡ value_or (held (h ++ (suc (length es), x) ∷ []) p) v
      go true q =
          let le = leb-true p (length es) q in
          atom_front v es (e ∷ []) p le ∙ are v p
          ∙ sym (ap (λ o. value_or (value_in o) v) (entry_added h (suc (length es)) x p ∙ ap (λ b. if b then entry_at h p else Some (suc (length es), x)) (lt-ltb p (suc (length es)) (omega (arith, le)))))
      go false q =
          let lt = leb-false p (length es) q in
          at_end v p lt ∙ ap (λ o. value_or o (atom_after v es (length es))) on
          ∙ sym (ap (λ o. value_or (value_in o) v) (entry_added h (suc (length es)) x p ∙ ap (λ b. if b then entry_at h p else Some (suc (length es), x)) (le-ltb p (suc (length es)) (omega (arith, lt)))))

swaps_more : (h : List (ℕ × Value)) (done : List Event) (a : ℕ) (d : EventKind) → SwapsAre h done → latest 0 h ≤ length done → Ascend 0 h
    → SwapsAre (swaps_put (suc (length done)) d h) (done ++ event_of a d ∷ []) × (latest 0 (swaps_put (suc (length done)) d h) ≤ suc (length done)) × Ascend 0 (swaps_put (suc (length done)) d h)
swaps_more h done a (Read c) are le asc = (are_same h done (event_of a (Read c)) are le asc refl, omega (arith, le), asc)
swaps_more h done a (Commit at view ws sends) are le asc = (are_same h done (event_of a (Commit at view ws sends)) are le asc refl, omega (arith, le), asc)
swaps_more h done a (Retry since c cause) are le asc = (are_same h done (event_of a (Retry since c cause)) are le asc refl, omega (arith, le), asc)
swaps_more h done a (Fail at view) are le asc = (are_same h done (event_of a (Fail at view)) are le asc refl, omega (arith, le), asc)
swaps_more h done a (Refused at view g) are le asc = (are_same h done (event_of a (Refused at view g)) are le asc refl, omega (arith, le), asc)
swaps_more h done a (Send x) are le asc = (are_same h done (event_of a (Send x)) are le asc refl, omega (arith, le), asc)
swaps_more h done a (SendRefused g) are le asc = (are_same h done (event_of a (SendRefused g)) are le asc refl, omega (arith, le), asc)
swaps_more h done a (Act g number new sends) are le asc = (are_same h done (event_of a (Act g number new sends)) are le asc refl, omega (arith, le), asc)
swaps_more h done a (Swap new) are le asc =
    (are_put h done (event_of a (Swap new)) are le asc new refl, (let l = last_of 0 h in omega (arith, l)), ascend_add 0 h (suc (length done)) new (omega (arith, le)) asc)
  where
    last_of : (m : ℕ) (l : List (ℕ × Value)) → latest m (l ++ (suc (length done), new) ∷ []) ≡ suc (length done)
    last_of m [] = refl
    last_of m (x ∷ l) = last_of x.0 l
swaps_more h done a (Broke at) are le asc = (are_same h done (event_of a (Broke at)) are le asc refl, omega (arith, le), asc)

pub gone_swaps : (h now : List (ℕ × Value)) (views vs : List ℕ) (done more : List Event) (a n : ℕ) (d : EventKind) → GoneSwaps h views done → n ≡ suc (length done) → now ≡ swaps_put n d h → Marked true a n views vs → more ≡ done ++ event_of a d ∷ [] → GoneSwaps now vs more
gone_swaps h now views vs done more a n d g is put marks to =
    let r = swaps_more h done a d g.are g.within g.ascend in
    subst (GoneSwaps now vs) (sym to) (subst (λ l. GoneSwaps l vs (done ++ event_of a d ∷ [])) (sym (put ∙ ap (λ i. swaps_put i d h) is)) (record {
      are = r.0;
      within = (let w = r.1 in let l = longer done (event_of a d) in omega (arith, w, l));
      ascend = r.2;
      all = λ b. actor_more true views vs done a d b (subst (λ i. Marked true a i views vs) is marks) (g.all b);
    }))
