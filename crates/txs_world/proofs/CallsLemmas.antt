-- Calls of a mailbox in a row.
use Rattle.std.proofs.Common.{◌≡◌, Bool, true, false, not, ◌&&◌, List, [], ◌∷◌, ◌++◌, drop, Option, Some, None, if◌then◌else◌, refl, sym, ap, subst, ◌∙◌, append_assoc}
use Rattle.std.proofs.lemmas.List.{append-nil}
use Rattle.std.specs.Option.{is_some, option_to_list}
use Rattle.txs_world.specs.Calls.{Call, may_call_all, called_all, all_put, all_run, RunsNothing}
use Rattle.txs_world.specs.Calls.Call.{Put, Take, Finish, Give_back}
use Rattle.txs_world.specs.Mailbox.{PlainMailbox, first, next, put, take, finish, give_back}
use Rattle.txs_value_cell.specs.declared.action.Action.{Action}

-- both of two tests
both : (a b : Bool) → (a && b) ≡ true → (a ≡ true) × (b ≡ true)
both true b e = (refl, e)
both false b e = absurd cc

-- where an action is taken, it is the one in hand, and the first
abbrev Holds : Option Action → PlainMailbox → Type 0
Holds hand m = m.is_taken ≡ true → (a : Action) × (rest : List Action) × (hand ≡ Some a) × (m.actions ≡ a ∷ rest)

-- what is taken is the first
taken : (failed : Bool) (xs : List Action) → is_some (if failed then None else first xs) ≡ true
    → (a : Action) × (rest : List Action) × ((if failed then None else first xs) ≡ Some a) × (xs ≡ a ∷ rest)
taken true xs e = absurd cc
taken false [] e = absurd cc
taken false (a ∷ xs) e = (a, xs, refl, refl)

-- an action in hand is over
one_over : (hand : Option Action) (xs ran after more : List Action) (a : Action) (rest : List Action) → hand ≡ Some a → xs ≡ a ∷ rest
    → ran ++ after ≡ drop 1 xs ++ more → (option_to_list hand ++ ran) ++ after ≡ xs ++ more
one_over hand xs ran after more a rest h x e =
    subst (λ o. (option_to_list o ++ ran) ++ after ≡ xs ++ more) (sym h)
    (subst (λ ys. a ∷ (ran ++ after) ≡ ys ++ more) (sym x) (ap (λ ys. a ∷ ys) (e ∙ ap (λ ys. drop 1 ys ++ more) x)))

-- what is run from now on, and then what waits, is what waits now, and then what is put in
pub in_order : (cs : List Call) (hand : Option Action) (m : PlainMailbox) → Holds hand m → may_call_all cs m ≡ true
    → all_run cs hand m ++ (called_all cs m).actions ≡ m.actions ++ all_put cs
in_order [] hand m h e = sym (append-nil m.actions)
in_order (Put a ∷ cs) hand m h e =
    in_order cs hand (put a m) (λ t. let s = h t in (s.0, s.1 ++ a ∷ [], s.2, ap (λ xs. xs ++ a ∷ []) s.3)) e ∙ append_assoc m.actions (a ∷ []) (all_put cs)
in_order (Take ∷ cs) hand m h e = in_order cs (next m) (take m) (taken m.has_failed m.actions) (both (not m.is_taken) _ e).1
in_order (Finish failed ∷ cs) hand m h e =
    let b = both m.is_taken _ e in
    let s = h b.0 in
    one_over hand m.actions _ _ _ s.0 s.1 s.2 s.3 (in_order cs None (finish failed m) (λ t. absurd cc) b.1)
in_order (Give_back ∷ cs) hand m h e = in_order cs None (give_back m) (λ t. absurd cc) (both m.is_taken _ e).1

-- of a mailbox that has failed nothing is taken
pub not_taken : (is_taken has_failed : Bool) → (is_taken ≡ true → has_failed ≡ false) → has_failed ≡ true → is_taken ≡ false
not_taken false has_failed h f = refl
not_taken true has_failed h f = let g = h refl in absurd cc

-- and nothing can be
none_next : (m : PlainMailbox) → m.has_failed ≡ true → next m ≡ None
none_next m f = ap (λ b. if b then None else first m.actions) f

-- a mailbox that has failed, of which nothing is taken
pub nothing_run : (cs : List Call) (m : PlainMailbox) → m.is_taken ≡ false → m.has_failed ≡ true → may_call_all cs m ≡ true → RunsNothing m cs
nothing_run [] m t f e = record { run = refl; failed = f; actions = sym (append-nil m.actions) }
nothing_run (Put a ∷ cs) m t f e =
    let r = nothing_run cs (put a m) t f e in
    record { run = r.run; failed = r.failed; actions = r.actions ∙ append_assoc m.actions (a ∷ []) (all_put cs) }
nothing_run (Take ∷ cs) m t f e =
    let r = nothing_run cs (take m) (ap is_some (none_next m f)) f (both (not m.is_taken) _ e).1 in
    record { run = ap (λ o. all_run cs o (take m)) (none_next m f) ∙ r.run; failed = r.failed; actions = r.actions }
nothing_run (Finish failed ∷ cs) m t f e = absurd (let b = both m.is_taken _ e in cc)
nothing_run (Give_back ∷ cs) m t f e = absurd (let b = both m.is_taken _ e in cc)
