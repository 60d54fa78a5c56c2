-- A play of an actor in two alike states keeps them alike.
use Rattle.std.proofs.Common.{◌≡◌, ℕ, Bool, true, false, ◌==◌, List, [], ◌∷◌, length, Option, Some, None, if◌then◌else◌, refl, sym, ap, ◌∙◌, subst}
use Rattle.txs_world_protocol.specs.declared.ask.Ask.{Ask}
use Rattle.txs_world_protocol.specs.declared.ask.Ask.TheVariants as ask
use Rattle.txs_world_protocol.specs.declared.ask.Reply.{Reply}
use Rattle.txs_world_protocol.specs.declared.ask.Reply.TheVariants as reply
use Rattle.txs_value_cell.specs.declared.cell.CellDefinition.{CellDefinition}
use Rattle.txs_value_data.proofs.SameLemmas.{numbers}
use Rattle.txs_code_meaning.specs.ActorState.{ActorState}
use Rattle.txs_code_meaning.specs.Machine.{ThreadCode, Configuration, Turned, Ended, Failed, Asking, Unfinished, Stuck, turn}
use Rattle.txs_code_meaning.specs.Opening.{given}
use Rattle.txs_theorem_runs.specs.Goes.{AsksAt}
use Rattle.txs_theorem_runs.specs.Run.{Stop, Actor, Moved, moved, exchange, comes_to, replied, answered, asked, asks_for, turned, turns_from}
use Rattle.txs_theorem_runs.specs.Shared.{Shared, book_for, serve_on}
use Rattle.txs_theorem_runs.specs.Staged.{IsStaged, StagedFrom}
use Rattle.txs_theorem_runs.specs.Stages.{Stage, AsksIn, stage_after}
use Rattle.txs_theorem_alike.specs.Renaming.{ask_with, reply_with, wants_with}
use Rattle.txs_theorem_alike.specs.Actors.{none, plain, SameButPlaces, SameAsk, ActorsAlike, IsReady, AsksNext, AnswersAlike}
use Rattle.txs_theorem_alike.specs.Books as shared
use Rattle.txs_theorem_alike.specs.Books.{HasRoom, StayAlike}
use Rattle.txs_theorem_alike.specs.Stages.{SameStage, Rests, Idles, Tries, Redoes, Swaps, EqualBut, AllAlike, with_stage, stages_after, behind, StepsAlike, AsksKeepAlike}
use Rattle.txs_theorem_alike.specs.Stages as staged
use Rattle.txs_theorem_alike.specs.Turns.{IsAble, Stands, AsksFreely, StayAlikeIn, TurnKeepsAlike}
use Rattle.txs_theorem_alike.proofs.Actors.{Kind, takes_it, stays, is_full, no_memory, kind_of, same_kind, rests, rests_plain, waits, waits_plain, absurdly, at_or, ask_or, wants_or, is_some, same_want, staged_takes, turns_alike, actors_run_alike}

-- ---- asks and replies that are the same but for places

but_none : (p : Ask) → EqualBut (ask_with none p) p
but_none ask.Begin = staged.Begins
but_none (ask.Look c p) = staged.Looks c 0 p
but_none (ask.View cs) = staged.Views cs
but_none (ask.Commit p sets ensured q commuted sends) = staged.Commits sets commuted ensured sends 0 p 0 q
but_none (ask.Fail p q) = staged.Fails 0 p 0 q
but_none (ask.Peek c) = staged.Peeks c
but_none (ask.Send x) = staged.Sends x
but_none (ask.Take g) = staged.Takes g
but_none (ask.Finish g new sends) = staged.Finishes g new sends
but_none (ask.OpenAt c) = staged.Opens c
but_none (ask.CloseAt c None v) = staged.Resets c v
but_none (ask.CloseAt c (Some p) v) = staged.Closes c 0 p v
but_none (ask.Broke c p) = staged.Breaks c 0 p

loosen : (q p : Ask) → EqualBut (ask_with none q) p → EqualBut q p
loosen ask.Begin p h = h
loosen (ask.Look c i) p (staged.Looks d j k) = staged.Looks c i k
loosen (ask.View cs) p h = h
loosen (ask.Commit i sets ensured j commuted sends) p (staged.Commits sets2 commuted2 ensured2 sends2 k l m n) = staged.Commits sets commuted ensured sends i l j n
loosen (ask.Fail i j) p (staged.Fails k l m n) = staged.Fails i l j n
loosen (ask.Peek c) p h = h
loosen (ask.Send x) p h = h
loosen (ask.Take g) p h = h
loosen (ask.Finish g new sends) p h = h
loosen (ask.OpenAt c) p h = h
loosen (ask.CloseAt c None v) p h = h
loosen (ask.CloseAt c (Some i) v) p (staged.Closes d j k w) = staged.Closes c i k v
loosen (ask.Broke c i) p (staged.Breaks d j k) = staged.Breaks c i k

pub equal_but : (q p : Ask) → SameAsk q p → EqualBut q p
equal_but q p e = loosen q p (subst (λ z. EqualBut z p) (sym e) (but_none p))

same_reply : (cells : List CellDefinition) (sh th : Shared) (n : ℕ) (r t : Reply) → shared.SameReply cells sh th n r t → reply_with none r ≡ reply_with none t
same_reply cells sh th n (reply.At p) t h = sym (ap (reply_with none) h.1)
same_reply cells sh th n (reply.Is v) t h = sym (ap (reply_with none) h)
same_reply cells sh th n (reply.Views p vs) t h = sym (ap (reply_with none) h.1)
same_reply cells sh th n reply.Done t h = sym (ap (reply_with none) h)
same_reply cells sh th n (reply.Retry c) t h = sym (ap (reply_with none) h)
same_reply cells sh th n (reply.Changed c) t h = sym (ap (reply_with none) h)
same_reply cells sh th n (reply.AgentIsFailed g) t h = sym (ap (reply_with none) h)
same_reply cells sh th n (reply.Action i x v) t h = sym (ap (reply_with none) h.1)
same_reply cells sh th n reply.Idle t h = sym (ap (reply_with none) h)
same_reply cells sh th n (reply.Opened p v) t h = sym (ap (reply_with none) h.1)
same_reply cells sh th n reply.Full t h = sym (ap (reply_with none) h)
same_reply cells sh th n reply.Memory t h = sym (ap (reply_with none) h)

-- ---- stages

-- stages that are the same stay so, where places that tell the same still do
stage_stays : (cells : List CellDefinition) (sh th sh2 th2 : Shared) → StayAlike cells sh th sh2 th2 → (s t : Stage) → SameStage cells sh th s t → SameStage cells sh2 th2 s t
stage_stays cells sh th sh2 th2 k s t Rests = Rests
stage_stays cells sh th sh2 th2 k s t Idles = Idles
stage_stays cells sh th sh2 th2 k s t (Tries p q h) = Tries p q (k.points p q h)
stage_stays cells sh th sh2 th2 k s t (Redoes p q v w h g) = Redoes p q v w (k.points p q h) (k.views v w g)
stage_stays cells sh th sh2 th2 k s t (Swaps c p q h) = Swaps c p q (k.swaps _ p q h)

-- an actor keeps its stage
kept : (a : ℕ) (x : ℕ → Stage) (b : ℕ) → with_stage a (x a) x b ≡ x b
kept a x b = by (a == b) refl
  where
    by : (i : Bool) → (a == b) ≡ i → (if i then x a else x b) ≡ x b
    by true e = ap x (numbers a b e)
    by false e = refl

all_kept : (cells : List CellDefinition) (sh th : Shared) (a : ℕ) (x y : ℕ → Stage) → AllAlike cells sh th x y → AllAlike cells sh th (with_stage a (x a) x) (with_stage a (y a) y)
all_kept cells sh th a x y h = record {
  shared = h.shared;
  stages = λ b. subst (λ s. SameStage cells sh th s (with_stage a (y a) y b)) (sym (kept a x b)) (subst (λ s. SameStage cells sh th (x b) s) (sym (kept a y b)) (h.stages b));
}

-- ---- moves

moves_rest : (cells : List CellDefinition) (threads : ℕ) (code : ThreadCode) (a : ℕ) (o : Turned Configuration) (w : Option Stop) (k : Actor) (sh : Shared) → rests o ≡ true → turns_from cells threads code a o w k sh ≡ moved k sh
moves_rest cells threads code a (Ended s) w k sh e = refl
moves_rest cells threads code a (Failed f s) w k sh e = refl
moves_rest cells threads code a (Asking s) w k sh e = refl
moves_rest cells threads code a (Unfinished c) w k sh e = absurdly (sym e)
moves_rest cells threads code a Stuck w k sh e = refl

moves_quiet : (cells : List CellDefinition) (threads : ℕ) (code : ThreadCode) (a : ℕ) (c : Configuration) (t : Turned Configuration) (k : Actor) (sh : Shared) → waits t ≡ false → turned cells threads code a c t k sh ≡ moved (comes_to t k) sh
moves_quiet cells threads code a c (Ended s) k sh e = refl
moves_quiet cells threads code a c (Failed f s) k sh e = refl
moves_quiet cells threads code a c (Asking s) k sh e = absurdly e
moves_quiet cells threads code a c (Unfinished d) k sh e = refl
moves_quiet cells threads code a c Stuck k sh e = refl

quiet_staged : (agent : Bool) (st : Stage) (t : Turned Configuration) (go : Ask → Reply → Turned Configuration) → waits t ≡ false → StagedFrom agent st t go → IsStaged agent st t
quiet_staged agent st (Ended s) go e h = h
quiet_staged agent st (Failed f s) go e h = h
quiet_staged agent st (Asking s) go e h = absurdly e
quiet_staged agent st (Unfinished d) go e h = h
quiet_staged agent st Stuck go e h = tt

-- the stage after a reply, by what becomes of the actor
abbrev pub stage_by : Kind → Stage → Stage → Stage
stage_by takes_it after before = after
stage_by stays after before = before
stage_by is_full after before = before
stage_by no_memory after before = before

abbrev is_stop : Option Stop → Bool
is_stop None = false
is_stop (Some why) = true

-- where it is then
pub replied_staged : (agent : Bool) (code : ThreadCode) (c : Configuration) (q : Ask) (r : Reply) (i : ℕ) (k : Actor) (st : Stage) → (k.stopped ≡ None → IsStaged agent st k.at)
    → IsStaged agent (stage_after st q r) (turn code (given (exchange q r ∷ []) c)) → (replied code c q r i k).stopped ≡ None → IsStaged agent (stage_by (kind_of r) (stage_after st q r) st) (replied code c q r i k).at
replied_staged agent code c q (reply.At p) i k st h g e = g
replied_staged agent code c q (reply.Is v) i k st h g e = g
replied_staged agent code c q (reply.Views p vs) i k st h g e = g
replied_staged agent code c q reply.Done i k st h g e = g
replied_staged agent code c q (reply.Retry d) i k st h g e = g
replied_staged agent code c q (reply.Changed d) i k st h g e = g
replied_staged agent code c q (reply.AgentIsFailed d) i k st h g e = g
replied_staged agent code c q (reply.Action n x v) i k st h g e = g
replied_staged agent code c q reply.Idle i k st h g e = h e
replied_staged agent code c q (reply.Opened p v) i k st h g e = g
replied_staged agent code c q reply.Full i k st h g e = absurdly (ap is_stop e)
replied_staged agent code c q reply.Memory i k st h g e = absurdly (ap is_stop e)

module _ (law : AsksKeepAlike) (cells : List CellDefinition) (threads : ℕ) (code : ThreadCode) (agent : Bool) (a : ℕ) (k l : Actor) (sh th : Shared) (x y : ℕ → Stage)
    (all : AllAlike cells sh th x y) (alike : ActorsAlike k l) where
  abbrev StayIn : Moved → Moved → Type 0
  StayIn m n = StayAlikeIn cells agent a x y m n

  -- without an ask
  calm : (v w : Actor) → (v.stopped ≡ None → IsStaged agent (x a) v.at) → (w.stopped ≡ None → IsStaged agent (y a) w.at) → StayIn (moved v sh) (moved w th)
  calm v w h g = record { first = x a; other = y a; all = all_kept cells sh th a x y all; in_first = h; in_other = g }

  module _ (c d : Configuration) (here : k.at ≡ Unfinished c) (there : l.at ≡ Unfinished d) (in_x : IsStaged agent (x a) (Unfinished c)) (in_y : IsStaged agent (y a) (Unfinished d))
      (able : IsAble agent code (Unfinished c)) (can : IsAble agent code (Unfinished d)) (may : AsksFreely cells threads code a (Unfinished c) sh) (might : AsksFreely cells threads code a (Unfinished d) th)
      (same : SameButPlaces (turn code c) (turn code d)) where
    from_c : StagedFrom agent (x a) (turn code c) (λ q r. turn code (given (exchange q r ∷ []) c))
    from_c = able.1 (x a) in_x.1

    from_d : StagedFrom agent (y a) (turn code d) (λ q r. turn code (given (exchange q r ∷ []) d))
    from_d = can.1 (y a) in_y.1

    -- an ask comes in its stage, and its reply leads to the next
    abbrev InStage : Stage → Configuration → Ask → Type 0
    InStage st b q = AsksIn agent st q × ((r : Reply) → IsStaged agent (stage_after st q r) (turn code (given (exchange q r ∷ []) b)))

    in_stage : (st : Stage) (b : Configuration) (q : Ask) → StagedFrom agent st (turn code b) (λ q r. turn code (given (exchange q r ∷ []) b)) → AsksAt code b q → InStage st b q
    in_stage st b q h e =
        let t : StagedFrom agent st (Asking e.0) (λ q r. turn code (given (exchange q r ∷ []) b)) = subst (λ o. StagedFrom agent st o (λ q r. turn code (given (exchange q r ∷ []) b))) e.1 h in
        subst (InStage st b) (same_want e.0 t.0 q t.1 e.2) (t.2, t.3)

    steps : (q p : Ask) → AsksAt code c q → AsksAt code d p → SameAsk q p → StepsAlike cells a q p sh th x y
    steps q p e f s =
        law cells threads a agent q p sh th x y all (in_stage (x a) c q from_c e).0 (in_stage (y a) d p from_d f).0 (equal_but q p s) (may q (c, refl, e)).0 (may q (c, refl, e)).1 (might p (d, refl, f)).1

    answers : (q p : Ask) → AsksAt code c q → AsksAt code d p → SameAsk q p → AnswersAlike cells threads a sh th q p
    answers q p e f s = (
      (may q (c, refl, e)).0 ∙ sym (might p (d, refl, f)).0,
      same_reply cells (behind cells a q sh) (behind cells a p th) (book_for cells q) (serve_on cells a q (sh.books (book_for cells q))).reply (serve_on cells a p (th.books (book_for cells p))).reply (steps q p e f s).answers.reply,
    )

    -- with an ask that is answered
    told : (q p : Ask) → AsksAt code c q → AsksAt code d p → SameAsk q p
        → StayIn (answered cells code c q (serve_on cells a q (sh.books (book_for cells q))) k sh) (answered cells code d p (serve_on cells a p (th.books (book_for cells p))) l th)
    told q p e f s = record {
      first = stage_by (kind_of r) (stage_after (x a) q r) (x a);
      other = stage_by (kind_of t) (stage_after (y a) p t) (y a);
      all = subst (λ i. AllAlike cells (behind cells a q sh) (behind cells a p th) (with_stage a (stage_by (kind_of r) (stage_after (x a) q r) (x a)) x) (with_stage a (stage_by i (stage_after (y a) p t) (y a)) y)) kinds (by (kind_of r));
      in_first = replied_staged agent code c q r (length (sh.books (book_for cells q))) k (x a) (λ z. subst (IsStaged agent (x a)) (sym here) in_x) ((in_stage (x a) c q from_c e).1 r);
      in_other = replied_staged agent code d p t (length (th.books (book_for cells p))) l (y a) (λ z. subst (IsStaged agent (y a)) (sym there) in_y) ((in_stage (y a) d p from_d f).1 t);
    }
      where
        r : Reply
        r = (serve_on cells a q (sh.books (book_for cells q))).reply

        t : Reply
        t = (serve_on cells a p (th.books (book_for cells p))).reply

        kinds : kind_of r ≡ kind_of t
        kinds = sym (same_kind r) ∙ ap kind_of (answers q p e f s).1 ∙ same_kind t

        stay : AllAlike cells (behind cells a q sh) (behind cells a p th) x y
        stay = record {
          shared = (steps q p e f s).answers.after.alike;
          stages = λ b. stage_stays cells sh th (behind cells a q sh) (behind cells a p th) (steps q p e f s).answers.after (x b) (y b) (all.stages b);
        }

        by : (i : Kind) → AllAlike cells (behind cells a q sh) (behind cells a p th) (with_stage a (stage_by i (stage_after (x a) q r) (x a)) x) (with_stage a (stage_by i (stage_after (y a) p t) (y a)) y)
        by takes_it = (steps q p e f s).all
        by stays = all_kept cells (behind cells a q sh) (behind cells a p th) a x y stay
        by is_full = all_kept cells (behind cells a q sh) (behind cells a p th) a x y stay
        by no_memory = all_kept cells (behind cells a q sh) (behind cells a p th) a x y stay

    wants_stay : (s u : ActorState) (o i : Option Ask) → turn code c ≡ Asking s → turn code d ≡ Asking u → s.wants ≡ o → u.wants ≡ i → wants_with none o ≡ wants_with none i → StayIn (asks_for cells threads code a c s o k sh) (asks_for cells threads code a d u i l th)
    wants_stay s u None i e f w v z = absurdly (ap is_some (sym from.1 ∙ w))
      where
        from : (q : Ask) × (s.wants ≡ Some q)
        from = let t : StagedFrom agent (x a) (Asking s) (λ q r. turn code (given (exchange q r ∷ []) c)) = subst (λ o. StagedFrom agent (x a) o (λ q r. turn code (given (exchange q r ∷ []) c))) e from_c in (t.0, t.1)
    wants_stay s u (Some q) None e f w v z = absurdly (ap is_some z)
    wants_stay s u (Some q) (Some p) e f w v z =
        let aq : AsksAt code c q = (s, e, w) in
        let ap2 : AsksAt code d p = (u, f, v) in
        subst (λ b. StayIn (asked b cells code a c q k sh) (asks_for cells threads code a d u (Some p) l th)) (sym (may q (c, refl, aq)).0)
        (subst (λ b. StayIn (answered cells code c q (serve_on cells a q (sh.books (book_for cells q))) k sh) (asked b cells code a d p l th)) (sym (might p (d, refl, ap2)).0)
        (told q p aq ap2 (ap (ask_or (ask_with none q)) z)))

    still : (t u : Turned Configuration) → turn code c ≡ t → turn code d ≡ u → SameButPlaces t u → waits t ≡ false → StayIn (turned cells threads code a c t k sh) (turned cells threads code a d u l th)
    still t u e f n z =
        let zu = sym (sym (waits_plain t) ∙ ap waits n ∙ waits_plain u) ∙ z in
        subst (λ m. StayIn m (turned cells threads code a d u l th)) (sym (moves_quiet cells threads code a c t k sh z))
        (subst (λ m. StayIn (moved (comes_to t k) sh) m) (sym (moves_quiet cells threads code a d u l th zu))
        (calm (comes_to t k) (comes_to u l)
        (λ q. quiet_staged agent (x a) t (λ q r. turn code (given (exchange q r ∷ []) c)) z (subst (λ o. StagedFrom agent (x a) o (λ q r. turn code (given (exchange q r ∷ []) c))) e from_c))
        (λ q. quiet_staged agent (y a) u (λ q r. turn code (given (exchange q r ∷ []) d)) zu (subst (λ o. StagedFrom agent (y a) o (λ q r. turn code (given (exchange q r ∷ []) d))) f from_d))))

    asking_stay : (s : ActorState) (u : Turned Configuration) → turn code c ≡ Asking s → turn code d ≡ u → SameButPlaces (Asking s) u → StayIn (turned cells threads code a c (Asking s) k sh) (turned cells threads code a d u l th)
    asking_stay s (Asking u) e f n = wants_stay s u s.wants u.wants e f refl refl (ap (wants_or None) n)
    asking_stay s (Ended u) e f n = absurdly (ap waits n)
    asking_stay s (Failed w u) e f n = absurdly (ap waits n)
    asking_stay s (Unfinished b) e f n = absurdly (ap waits n)
    asking_stay s Stuck e f n = absurdly (ap waits n)

    turned_stay : (t u : Turned Configuration) → turn code c ≡ t → turn code d ≡ u → SameButPlaces t u → StayIn (turned cells threads code a c t k sh) (turned cells threads code a d u l th)
    turned_stay (Asking s) u e f n = asking_stay s u e f n
    turned_stay (Ended s) u e f n = still (Ended s) u e f n refl
    turned_stay (Failed w s) u e f n = still (Failed w s) u e f n refl
    turned_stay (Unfinished b) u e f n = still (Unfinished b) u e f n refl
    turned_stay Stuck u e f n = still Stuck u e f n refl

  ready : (st : Stage) (o : Turned Configuration) → IsStaged agent st o → IsAble agent code o → IsReady code o
  ready st (Ended s) h g = tt
  ready st (Failed f s) h g = tt
  ready st (Asking s) h g = tt
  ready st (Unfinished c) h g = ((h.0, g.0), staged_takes agent code c st g.1 h.1)
  ready st Stuck h g = tt

  abbrev AsksAs : Turned Configuration → Turned Configuration → Type 0
  AsksAs o p = AsksFreely cells threads code a o sh × AsksFreely cells threads code a p th

  resting : (o p : Turned Configuration) (w : Option Stop) → rests o ≡ true → SameButPlaces o p → Stands agent code (x a) k → Stands agent code (y a) l → StayIn (turns_from cells threads code a o w k sh) (turns_from cells threads code a p w l th)
  resting o p w z n h g =
      subst (λ m. StayIn m (turns_from cells threads code a p w l th)) (sym (moves_rest cells threads code a o w k sh z))
      (subst (λ m. StayIn (moved k sh) m) (sym (moves_rest cells threads code a p w l th (sym (sym (rests_plain o) ∙ ap rests n ∙ rests_plain p) ∙ z)))
      (calm k l (λ e. (h e).0) (λ e. (g e).0)))

  going : (c : Configuration) (p : Turned Configuration) (w : Option Stop) → k.at ≡ Unfinished c → l.at ≡ p → k.stopped ≡ w → SameButPlaces (Unfinished c) p → Stands agent code (x a) k → Stands agent code (y a) l → AsksAs (Unfinished c) p
      → StayIn (turns_from cells threads code a (Unfinished c) w k sh) (turns_from cells threads code a p w l th)
  going c (Unfinished d) None e f w n h g may =
      let hk : IsStaged agent (x a) (Unfinished c) × IsAble agent code (Unfinished c) = subst (λ o. IsStaged agent (x a) o × IsAble agent code o) e (h w) in
      let hl : IsStaged agent (y a) (Unfinished d) × IsAble agent code (Unfinished d) = subst (λ o. IsStaged agent (y a) o × IsAble agent code o) f (g (sym alike.1 ∙ w)) in
      let same = turns_alike code c d (hk.0.0, hk.1.0) (hl.0.0, hl.1.0) (ap (at_or c) n) in
      turned_stay c d e f hk.0 hl.0 hk.1 hl.1 may.0 may.1 same (turn code c) (turn code d) refl refl same
  going c (Unfinished d) (Some why) e f w n h g may = calm k l (λ e. (h e).0) (λ e. (g e).0)
  going c (Ended s) w e f i n h g may = absurdly (sym (ap rests n))
  going c (Failed b s) w e f i n h g may = absurdly (sym (ap rests n))
  going c (Asking s) w e f i n h g may = absurdly (sym (ap rests n))
  going c Stuck w e f i n h g may = absurdly (sym (ap rests n))

  here_stays : (o p : Turned Configuration) (w : Option Stop) → k.at ≡ o → l.at ≡ p → k.stopped ≡ w → SameButPlaces o p → Stands agent code (x a) k → Stands agent code (y a) l → AsksAs o p → StayIn (turns_from cells threads code a o w k sh) (turns_from cells threads code a p w l th)
  here_stays (Unfinished c) p w e f i n h g may = going c p w e f i n h g may
  here_stays (Ended s) p w e f i n h g may = resting (Ended s) p w refl n h g
  here_stays (Failed b s) p w e f i n h g may = resting (Failed b s) p w refl n h g
  here_stays (Asking s) p w e f i n h g may = resting (Asking s) p w refl n h g
  here_stays Stuck p w e f i n h g may = resting Stuck p w refl n h g

  -- the answers to what both ask next
  next_answers : Stands agent code (x a) k → Stands agent code (y a) l → k.stopped ≡ None → AsksAs k.at l.at → (q p : Ask) → AsksNext code k.at q → AsksNext code l.at p → SameAsk q p → AnswersAlike cells threads a sh th q p
  next_answers h g w may q p e f s =
      let hk : IsStaged agent (x a) (Unfinished e.0) × IsAble agent code (Unfinished e.0) = subst (λ o. IsStaged agent (x a) o × IsAble agent code o) e.1 (h w) in
      let hl : IsStaged agent (y a) (Unfinished f.0) × IsAble agent code (Unfinished f.0) = subst (λ o. IsStaged agent (y a) o × IsAble agent code o) f.1 (g (sym alike.1 ∙ w)) in
      let same = turns_alike code e.0 f.0 (hk.0.0, hk.1.0) (hl.0.0, hl.1.0) (ap (at_or e.0) (ap plain (sym e.1) ∙ alike.0 ∙ ap plain f.1)) in
      answers e.0 f.0 e.1 f.1 hk.0 hl.0 hk.1 hl.1 (subst (λ o. AsksFreely cells threads code a o sh) e.1 may.0) (subst (λ o. AsksFreely cells threads code a o th) f.1 may.1) same q p e.2 f.2 s

  moves_stopped : (o : Turned Configuration) (why : Stop) (v : Actor) (s : Shared) → turns_from cells threads code a o (Some why) v s ≡ moved v s
  moves_stopped (Ended s) why v u = refl
  moves_stopped (Failed f s) why v u = refl
  moves_stopped (Asking s) why v u = refl
  moves_stopped (Unfinished c) why v u = refl
  moves_stopped Stuck why v u = refl

  acts : Stands agent code (x a) k → Stands agent code (y a) l → AsksAs k.at l.at → ActorsAlike (turns_from cells threads code a k.at k.stopped k sh).actor (turns_from cells threads code a l.at l.stopped l th).actor
  acts h g may = by k.stopped refl
    where
      by : (w : Option Stop) → k.stopped ≡ w → ActorsAlike (turns_from cells threads code a k.at k.stopped k sh).actor (turns_from cells threads code a l.at l.stopped l th).actor
      by None w =
          let hl = g (sym alike.1 ∙ w) in
          actors_run_alike cells threads code a k l sh th alike (ready (x a) k.at (h w).0 (h w).1) (ready (y a) l.at hl.0 hl.1) (next_answers h g w may)
      by (Some why) w =
          subst (λ m. ActorsAlike m.actor (turns_from cells threads code a l.at l.stopped l th).actor) (sym (ap (λ o. turns_from cells threads code a k.at o k sh) w ∙ moves_stopped k.at why k sh))
          (subst (λ m. ActorsAlike k m.actor) (sym (ap (λ o. turns_from cells threads code a l.at o l th) (sym alike.1 ∙ w) ∙ moves_stopped l.at why l th)) alike)

pub turn_keeps_alike : TurnKeepsAlike
turn_keeps_alike law cells threads code agent a k l sh th x y all alike h g may might = (
  acts law cells threads code agent a k l sh th x y all alike h g (may, might),
  subst (λ w. StayAlikeIn cells agent a x y (turns_from cells threads code a k.at k.stopped k sh) (turns_from cells threads code a l.at w l th)) alike.1
      (here_stays law cells threads code agent a k l sh th x y all alike k.at l.at k.stopped refl refl refl alike.0 h g (may, might)),
)
