-- What is accepted is sound, and what is sound is accepted.
use Rattle.std.proofs.Common.{◌≡◌, ℕ, suc, ◌+◌, ◌<◌, ◌≤◌, true, false, not, eqb, List, Option, Some, None, refl, sym, ap, ◌∙◌, subst, arith}
use Rattle.std.proofs.lemmas.Bool.{eqb-true, eq-eqb, not-true, not_from_false}
use Rattle.txs_value_apply.specs.Core.{takes}
use Rattle.txs_value_data.specs.Places.{nth}
use Rattle.txs_value_data.specs.declared.fault.Span.{Span}
use Rattle.txs_value_cell.specs.Forms.{rule}
use Rattle.txs_value_cell.specs.declared.form.CellForm.TheVariants as form_of
use Rattle.txs_value_cell.specs.declared.form.Standing.{Standing}
use Rattle.txs_value_cell.specs.declared.form.Standing.TheVariants.{Anywhere, Inside, Outside}
use Rattle.txs_value_data.specs.declared.op.Callee.{Callee}
use Rattle.txs_value_data.specs.declared.op.Callee.TheVariants.{Core as CoreOp, Function}
use Rattle.txs_tree_meaning.specs.Known.{Known, is_pure}
use Rattle.txs_tree_meaning.specs.Scoped.{ScopedTree, ScopedAll, ScopedLet}
use Rattle.txs_tree_meaning.specs.Sound.{SoundTree, SoundAll, SoundLet, SoundDo, SoundCall, SoundCallee, SoundSent, PureCall, SentCall, MayCall, MayStand, in_function, in_thread, in_dosync}
use Rattle.txs_tree_meaning.specs.Sound as sound
use Rattle.txs_tree_meaning.specs.Tree.{Tree, Const, Local, If, Do, Let, Loop, Recur, Core, Call, VectorOf, Println, Dosync, Look, Put, Update, Send, Trees, none, more, count}
use Rattle.txs_check.specs.declared.error.CheckErrorKind.TheVariants.{RecurNotTail, RecurCount, RecurAcrossDosync, Arity, NotPure, InsideOnly, OutsideOnly}
use Rattle.txs_check.specs.declared.place.Target.{Target}
use Rattle.txs_check.specs.declared.place.Target.TheVariants.{Nowhere, Across, Nearest}
use Rattle.txs_check.specs.declared.place.Zone.{Zone}
use Rattle.txs_check.specs.declared.place.Zone.TheVariants.{InFunction, InFuture, InDosync}
use Rattle.txs_check.specs.Refused.{fine, ◌>>◌, only, inner, across, recurs, accepts, zoned, calls, called, sent, sent_zoned, placed, formed, applied, turned_in, in_turn, checked, checked_all, checked_do}
use Rattle.txs_check.proofs.Steps.{refused_not_fine, first, second, both, turn_first, turn_second, turn_both, only_true, only_fine}

-- the number of values of a recur that may stand here
abbrev pub tail_of : Target → Option ℕ
tail_of Nowhere = None
tail_of Across = None
tail_of (Nearest n true) = Some n
tail_of (Nearest n false) = None

abbrev pub zone_of : Zone → sound.Zone
zone_of InFunction = in_function
zone_of InFuture = in_thread
zone_of InDosync = in_dosync

pub inner_tail : (t : Target) → tail_of (inner t) ≡ None
inner_tail Nowhere = refl
inner_tail Across = refl
inner_tail (Nearest n tail) = refl

pub across_tail : (t : Target) → tail_of (across t) ≡ None
across_tail Nowhere = refl
across_tail Across = refl
across_tail (Nearest n tail) = refl

abbrev value_or : Option ℕ → ℕ → ℕ
value_or None n = n
value_or (Some k) n = k

abbrev IsSome : Option ℕ → Type 0
IsSome None = ⊥
IsSome (Some k) = Unit {0}

recurs_tail : (t : Target) (n : ℕ) (at : Span) → recurs t n at ≡ fine → tail_of t ≡ Some n
recurs_tail Nowhere n at e = absurd (refused_not_fine RecurNotTail at e)
recurs_tail Across n at e = absurd (refused_not_fine RecurAcrossDosync at e)
recurs_tail (Nearest k false) n at e = absurd (refused_not_fine RecurNotTail at e)
recurs_tail (Nearest k true) n at e = ap Some (eqb-true k n (only_true (eqb k n) RecurCount at e))

tail_recurs : (t : Target) (n : ℕ) (at : Span) → tail_of t ≡ Some n → recurs t n at ≡ fine
tail_recurs Nowhere n at e = absurd (subst IsSome (sym e) tt)
tail_recurs Across n at e = absurd (subst IsSome (sym e) tt)
tail_recurs (Nearest k false) n at e = absurd (subst IsSome (sym e) tt)
tail_recurs (Nearest k true) n at e = only_fine (eqb k n) RecurCount at (eq-eqb k n (ap (λ o. value_or o k) e))

zoned_may : (z : Zone) (k : Known) (at : Span) → zoned z (Some k) at ≡ fine → MayCall (zone_of z) k
zoned_may InFunction k at e = tt
zoned_may InFuture k at e = not-true k.inside (only_true (not k.inside) InsideOnly at e)
zoned_may InDosync k at e = not-true k.outside (only_true (not k.outside) OutsideOnly at e)

may_zoned : (z : Zone) (k : Known) (at : Span) → MayCall (zone_of z) k → zoned z (Some k) at ≡ fine
may_zoned InFunction k at m = refl
may_zoned InFuture k at m = only_fine (not k.inside) InsideOnly at (not_from_false k.inside m)
may_zoned InDosync k at m = only_fine (not k.outside) OutsideOnly at (not_from_false k.outside m)

calls_sound : (ks : List Known) (z : Zone) (f n : ℕ) (at : Span) → calls ks z f n at ≡ fine → SoundCall ks (zone_of z) f n
calls_sound ks z f n at e = by_known (nth ks f) refl e
  where
    by_known : (o : Option Known) → nth ks f ≡ o → only (accepts o n) Arity at >> zoned z o at ≡ fine → SoundCall ks (zone_of z) f n
    by_known None is e = absurd (refused_not_fine Arity at e)
    by_known (Some k) is e = record {
      function = k;
      found = is;
      arity = eqb-true k.parameters n (only_true (eqb k.parameters n) Arity at (first (only (eqb k.parameters n) Arity at) (zoned z (Some k) at) e));
      zoned = zoned_may z k at (second (only (eqb k.parameters n) Arity at) (zoned z (Some k) at) e);
    }

sound_calls : (ks : List Known) (z : Zone) (f n : ℕ) (at : Span) → SoundCall ks (zone_of z) f n → calls ks z f n at ≡ fine
sound_calls ks z f n at s =
    ap (λ o. only (accepts o n) Arity at >> zoned z o at) s.found
    ∙ both (only (eqb s.function.parameters n) Arity at) (zoned z (Some s.function) at)
    (only_fine (eqb s.function.parameters n) Arity at (eq-eqb s.function.parameters n s.arity)) (may_zoned z s.function at s.zoned)

pub called_sound : (ks : List Known) (c : Callee) (n : ℕ) (at : Span) → n ≤ 65535 → called ks c n at ≡ fine → SoundCallee ks c n
called_sound ks (CoreOp op) n at le e = (only_true (takes op n) Arity at e, le)
called_sound ks (Function f) n at le e = by_known (nth ks f) refl e
  where
    by_known : (o : Option Known) → nth ks f ≡ o → only (accepts o n) Arity at >> only (is_pure o) NotPure at ≡ fine → PureCall ks f n
    by_known None is e = absurd (refused_not_fine Arity at e)
    by_known (Some k) is e = record {
      function = k;
      found = is;
      arity = eqb-true k.parameters n (only_true (eqb k.parameters n) Arity at (first (only (eqb k.parameters n) Arity at) (only k.pure NotPure at) e));
      pure = only_true k.pure NotPure at (second (only (eqb k.parameters n) Arity at) (only k.pure NotPure at) e);
    }

pub sound_called : (ks : List Known) (c : Callee) (n : ℕ) (at : Span) → SoundCallee ks c n → called ks c n at ≡ fine
sound_called ks (CoreOp op) n at s = only_fine (takes op n) Arity at s.0
sound_called ks (Function f) n at s =
    ap (λ o. only (accepts o n) Arity at >> only (is_pure o) NotPure at) s.found
    ∙ both (only (eqb s.function.parameters n) Arity at) (only s.function.pure NotPure at)
    (only_fine (eqb s.function.parameters n) Arity at (eq-eqb s.function.parameters n s.arity)) (only_fine s.function.pure NotPure at s.pure)

sent_sound : (ks : List Known) (c : Callee) (n : ℕ) (at : Span) → n ≤ 65535 → sent ks c n at ≡ fine → SoundSent ks c n
sent_sound ks (CoreOp op) n at le e = (only_true (takes op n) Arity at e, le)
sent_sound ks (Function f) n at le e = by_known (nth ks f) refl e
  where
    by_known : (o : Option Known) → nth ks f ≡ o → only (accepts o n) Arity at >> sent_zoned o at ≡ fine → SentCall ks f n
    by_known None is e = absurd (refused_not_fine Arity at e)
    by_known (Some k) is e = record {
      function = k;
      found = is;
      arity = eqb-true k.parameters n (only_true (eqb k.parameters n) Arity at (first (only (eqb k.parameters n) Arity at) (sent_zoned (Some k) at) e));
      zoned = not-true k.inside (only_true (not k.inside) InsideOnly at (second (only (eqb k.parameters n) Arity at) (sent_zoned (Some k) at) e));
    }

sound_sent : (ks : List Known) (c : Callee) (n : ℕ) (at : Span) → SoundSent ks c n → sent ks c n at ≡ fine
sound_sent ks (CoreOp op) n at s = only_fine (takes op n) Arity at s.0
sound_sent ks (Function f) n at s =
    ap (λ o. only (accepts o n) Arity at >> sent_zoned o at) s.found
    ∙ both (only (eqb s.function.parameters n) Arity at) (sent_zoned (Some s.function) at)
    (only_fine (eqb s.function.parameters n) Arity at (eq-eqb s.function.parameters n s.arity)) (only_fine (not s.function.inside) InsideOnly at (not_from_false s.function.inside s.zoned))

placed_may : (z : Zone) (s : Standing) (at : Span) → placed z s at ≡ fine → MayStand (zone_of z) s
placed_may InFunction s at e = tt
placed_may InFuture Anywhere at e = tt
placed_may InFuture Inside at e = refused_not_fine InsideOnly at e
placed_may InFuture Outside at e = tt
placed_may InDosync Anywhere at e = tt
placed_may InDosync Inside at e = tt
placed_may InDosync Outside at e = refused_not_fine OutsideOnly at e

may_placed : (z : Zone) (s : Standing) (at : Span) → MayStand (zone_of z) s → placed z s at ≡ fine
may_placed InFunction s at m = refl
may_placed InFuture Anywhere at m = refl
may_placed InFuture Inside at m = absurd m
may_placed InFuture Outside at m = refl
may_placed InDosync Anywhere at m = refl
may_placed InDosync Inside at m = refl
may_placed InDosync Outside at m = absurd m

-- what may stand anywhere
anywhere : (z : Zone) → MayStand (zone_of z) Anywhere
anywhere InFunction = tt
anywhere InFuture = tt
anywhere InDosync = tt

mutual
  pub accepted_sound : (ks : List Known) (z : Zone) (t : Target) (d : ℕ) (e : Tree) → ScopedTree ks d e → checked ks z t e ≡ fine → SoundTree ks (zone_of z) d (tail_of t) e
  accepted_sound ks z t d (Const v m) s h = tt
  accepted_sound ks z t d (Local i m) s h = s
  accepted_sound ks z t d (If c a b m) s h =
      let x = checked ks z (inner t) c in
      let y = checked ks z t a in
      let w = checked ks z t b in
      let turn = turned_in m a b in
      let g : in_turn turn y w ≡ fine = second x (in_turn turn y w) h in
      (subst (λ o. SoundTree ks (zone_of z) d o c) (inner_tail t) (accepted_sound ks z (inner t) d c s.0 (first x (in_turn turn y w) h)), accepted_sound ks z t d a s.1 (turn_first turn y w g), accepted_sound ks z t d b s.2 (turn_second turn y w g))
  accepted_sound ks z t d (Do items m) s h = accepted_do ks z t d items s.0 s.1 h
  accepted_sound ks z t d (Let values body m) s h =
      let x = checked_all ks z (inner t) values in
      let y = checked ks z t body in
      (accepted_let ks z t d values s.0 (first x y h), accepted_sound ks z t (d + count values) body s.1 (second x y h))
  accepted_sound ks z t d (Loop values body m) s h =
      let x = checked_all ks z (inner t) values in
      let y = checked ks z (Nearest (count values) true) body in
      (accepted_let ks z t d values s.0 (first x y h), accepted_sound ks z (Nearest (count values) true) (d + count values) body s.1 (second x y h))
  accepted_sound ks z t d (Recur values m) s h =
      let x = recurs t (count values) m.span in
      let y = checked_all ks z (inner t) values in
      (recurs_tail t (count values) m.span (first x y h), accepted_all ks z t d values s (second x y h))
  accepted_sound ks z t d (Core op args m) s h =
      let x = only (takes op (count args)) Arity m.span in
      let y = checked_all ks z (inner t) args in
      ((only_true (takes op (count args)) Arity m.span (first x y h), s.0), accepted_all ks z t d args s.1 (second x y h))
  accepted_sound ks z t d (Call f args m) s h =
      let x = calls ks z f (count args) m.span in
      let y = checked_all ks z (inner t) args in
      (calls_sound ks z f (count args) m.span (first x y h), accepted_all ks z t d args s.1 (second x y h))
  accepted_sound ks z t d (VectorOf items m) s h = (s.0, accepted_all ks z t d items s.1 h)
  accepted_sound ks z t d (Println args m) s h =
      let x = placed z Outside m.span in
      let y = checked_all ks z (inner t) args in
      (placed_may z Outside m.span (first x y h), s.0, accepted_all ks z t d args s.1 (second x y h))
  accepted_sound ks z t d (Dosync body m) s h = subst (λ o. SoundTree ks in_dosync d o body) (across_tail t) (accepted_sound ks InDosync (across t) d body s h)
  accepted_sound ks z t d (Look form cell m) s h =
      let x = formed z (form_of.Look form) m.span in
      let y = checked ks z (inner t) cell in
      (placed_may z (rule (form_of.Look form)).stands m.span (first x y h), subst (λ o. SoundTree ks (zone_of z) d o cell) (inner_tail t) (accepted_sound ks z (inner t) d cell s (second x y h)))
  accepted_sound ks z t d (Put form cell value m) s h =
      let x = formed z (form_of.Put form) m.span in
      let y = checked ks z (inner t) cell in
      let w = checked ks z (inner t) value in
      let g : y >> w ≡ fine = second x (y >> w) h in
      (placed_may z (rule (form_of.Put form)).stands m.span (first x (y >> w) h), subst (λ o. SoundTree ks (zone_of z) d o cell) (inner_tail t) (accepted_sound ks z (inner t) d cell s.0 (first y w g)), subst (λ o. SoundTree ks (zone_of z) d o value) (inner_tail t) (accepted_sound ks z (inner t) d value s.1 (second y w g)))
  accepted_sound ks z t d (Send cell callee args m) s h =
      let n = suc (count args) in
      let v = sent ks callee n m.span in
      let w = formed z form_of.Send m.span in
      let x = checked ks z (inner t) cell in
      let y = checked_all ks z (inner t) args in
      let g : v >> w ≡ fine = first (v >> w) (x >> y) h in
      let k : x >> y ≡ fine = second (v >> w) (x >> y) h in
      (subst (λ o. SoundTree ks (zone_of z) d o cell) (inner_tail t) (accepted_sound ks z (inner t) d cell s.0 (first x y k)), sent_sound ks callee n m.span (omega (arith, s.2)) (first v w g), accepted_all ks z t d args s.3 (second x y k))
  accepted_sound ks z t d (Update form cell callee args m) s h =
      let n = suc (count args) in
      let v = called ks callee n m.span in
      let w = formed z (form_of.Update form) m.span in
      let x = checked ks z (inner t) cell in
      let y = checked_all ks z (inner t) args in
      let g : v >> w ≡ fine = first (v >> w) (x >> y) h in
      let k : x >> y ≡ fine = second (v >> w) (x >> y) h in
      (placed_may z (rule (form_of.Update form)).stands m.span (second v w g), subst (λ o. SoundTree ks (zone_of z) d o cell) (inner_tail t) (accepted_sound ks z (inner t) d cell s.0 (first x y k)), called_sound ks callee n m.span (omega (arith, s.2)) (first v w g), accepted_all ks z t d args s.3 (second x y k))

  accepted_all : (ks : List Known) (z : Zone) (t : Target) (d : ℕ) (es : Trees) → ScopedAll ks d es → checked_all ks z (inner t) es ≡ fine → SoundAll ks (zone_of z) d es
  accepted_all ks z t d none s h = tt
  accepted_all ks z t d (more e rest) s h =
      let x = checked ks z (inner t) e in
      let y = checked_all ks z (inner t) rest in
      (subst (λ o. SoundTree ks (zone_of z) d o e) (inner_tail t) (accepted_sound ks z (inner t) d e s.0 (first x y h)), accepted_all ks z t d rest s.1 (second x y h))

  accepted_let : (ks : List Known) (z : Zone) (t : Target) (d : ℕ) (es : Trees) → ScopedLet ks d es → checked_all ks z (inner t) es ≡ fine → SoundLet ks (zone_of z) d es
  accepted_let ks z t d none s h = s
  accepted_let ks z t d (more e rest) s h =
      let x = checked ks z (inner t) e in
      let y = checked_all ks z (inner t) rest in
      (subst (λ o. SoundTree ks (zone_of z) d o e) (inner_tail t) (accepted_sound ks z (inner t) d e s.0 (first x y h)), accepted_let ks z t (d + 1) rest s.1 (second x y h))

  accepted_do : (ks : List Known) (z : Zone) (t : Target) (d : ℕ) (es : Trees) → 0 < count es → ScopedAll ks d es → checked_do ks z t es ≡ fine → SoundDo ks (zone_of z) d (tail_of t) es
  accepted_do ks z t d none lt s h = absurd (omega (arith, lt))
  accepted_do ks z t d (more e none) lt s h = accepted_sound ks z t d e s.0 h
  accepted_do ks z t d (more e (more f rest)) lt s h =
      let x = checked ks z (inner t) e in
      let y = checked_do ks z t (more f rest) in
      (subst (λ o. SoundTree ks (zone_of z) d o e) (inner_tail t) (accepted_sound ks z (inner t) d e s.0 (first x y h)), accepted_do ks z t d (more f rest) (omega arith) s.1 (second x y h))

mutual
  pub sound_accepted : (ks : List Known) (z : Zone) (t : Target) (d : ℕ) (e : Tree) → SoundTree ks (zone_of z) d (tail_of t) e → checked ks z t e ≡ fine
  sound_accepted ks z t d (Const v m) s = refl
  sound_accepted ks z t d (Local i m) s = refl
  sound_accepted ks z t d (If c a b m) s =
      both (checked ks z (inner t) c) (in_turn (turned_in m a b) (checked ks z t a) (checked ks z t b))
      (sound_accepted ks z (inner t) d c (subst (λ o. SoundTree ks (zone_of z) d o c) (sym (inner_tail t)) s.0))
      (turn_both (turned_in m a b) (checked ks z t a) (checked ks z t b) (sound_accepted ks z t d a s.1) (sound_accepted ks z t d b s.2))
  sound_accepted ks z t d (Do items m) s = sound_do ks z t d items s
  sound_accepted ks z t d (Let values body m) s =
      both (checked_all ks z (inner t) values) (checked ks z t body) (sound_let ks z t d values s.0) (sound_accepted ks z t (d + count values) body s.1)
  sound_accepted ks z t d (Loop values body m) s =
      both (checked_all ks z (inner t) values) (checked ks z (Nearest (count values) true) body) (sound_let ks z t d values s.0) (sound_accepted ks z (Nearest (count values) true) (d + count values) body s.1)
  sound_accepted ks z t d (Recur values m) s =
      both (recurs t (count values) m.span) (checked_all ks z (inner t) values) (tail_recurs t (count values) m.span s.0) (sound_all ks z t d values s.1)
  sound_accepted ks z t d (Core op args m) s =
      both (only (takes op (count args)) Arity m.span) (checked_all ks z (inner t) args) (only_fine (takes op (count args)) Arity m.span s.0.0) (sound_all ks z t d args s.1)
  sound_accepted ks z t d (Call f args m) s =
      both (calls ks z f (count args) m.span) (checked_all ks z (inner t) args) (sound_calls ks z f (count args) m.span s.0) (sound_all ks z t d args s.1)
  sound_accepted ks z t d (VectorOf items m) s = sound_all ks z t d items s.1
  sound_accepted ks z t d (Println args m) s =
      both (placed z Outside m.span) (checked_all ks z (inner t) args) (may_placed z Outside m.span s.0) (sound_all ks z t d args s.2)
  sound_accepted ks z t d (Dosync body m) s = sound_accepted ks InDosync (across t) d body (subst (λ o. SoundTree ks in_dosync d o body) (sym (across_tail t)) s)
  sound_accepted ks z t d (Look form cell m) s =
      both (formed z (form_of.Look form) m.span) (checked ks z (inner t) cell) (may_placed z (rule (form_of.Look form)).stands m.span s.0)
      (sound_accepted ks z (inner t) d cell (subst (λ o. SoundTree ks (zone_of z) d o cell) (sym (inner_tail t)) s.1))
  sound_accepted ks z t d (Put form cell value m) s =
      both (formed z (form_of.Put form) m.span) (checked ks z (inner t) cell >> checked ks z (inner t) value) (may_placed z (rule (form_of.Put form)).stands m.span s.0)
      (both (checked ks z (inner t) cell) (checked ks z (inner t) value)
      (sound_accepted ks z (inner t) d cell (subst (λ o. SoundTree ks (zone_of z) d o cell) (sym (inner_tail t)) s.1))
      (sound_accepted ks z (inner t) d value (subst (λ o. SoundTree ks (zone_of z) d o value) (sym (inner_tail t)) s.2)))
  sound_accepted ks z t d (Send cell callee args m) s =
      let n = suc (count args) in
      both (sent ks callee n m.span >> formed z form_of.Send m.span) (checked ks z (inner t) cell >> checked_all ks z (inner t) args)
      (both (sent ks callee n m.span) (formed z form_of.Send m.span) (sound_sent ks callee n m.span s.1) (may_placed z Anywhere m.span (anywhere z)))
      (both (checked ks z (inner t) cell) (checked_all ks z (inner t) args)
      (sound_accepted ks z (inner t) d cell (subst (λ o. SoundTree ks (zone_of z) d o cell) (sym (inner_tail t)) s.0))
      (sound_all ks z t d args s.2))
  sound_accepted ks z t d (Update form cell callee args m) s =
      let n = suc (count args) in
      both (applied ks z (form_of.Update form) callee n m.span) (checked ks z (inner t) cell >> checked_all ks z (inner t) args)
      (both (called ks callee n m.span) (formed z (form_of.Update form) m.span) (sound_called ks callee n m.span s.2) (may_placed z (rule (form_of.Update form)).stands m.span s.0))
      (both (checked ks z (inner t) cell) (checked_all ks z (inner t) args)
      (sound_accepted ks z (inner t) d cell (subst (λ o. SoundTree ks (zone_of z) d o cell) (sym (inner_tail t)) s.1))
      (sound_all ks z t d args s.3))

  sound_all : (ks : List Known) (z : Zone) (t : Target) (d : ℕ) (es : Trees) → SoundAll ks (zone_of z) d es → checked_all ks z (inner t) es ≡ fine
  sound_all ks z t d none s = refl
  sound_all ks z t d (more e rest) s =
      both (checked ks z (inner t) e) (checked_all ks z (inner t) rest)
      (sound_accepted ks z (inner t) d e (subst (λ o. SoundTree ks (zone_of z) d o e) (sym (inner_tail t)) s.0))
      (sound_all ks z t d rest s.1)

  sound_let : (ks : List Known) (z : Zone) (t : Target) (d : ℕ) (es : Trees) → SoundLet ks (zone_of z) d es → checked_all ks z (inner t) es ≡ fine
  sound_let ks z t d none s = refl
  sound_let ks z t d (more e rest) s =
      both (checked ks z (inner t) e) (checked_all ks z (inner t) rest)
      (sound_accepted ks z (inner t) d e (subst (λ o. SoundTree ks (zone_of z) d o e) (sym (inner_tail t)) s.0))
      (sound_let ks z t (d + 1) rest s.1)

  sound_do : (ks : List Known) (z : Zone) (t : Target) (d : ℕ) (es : Trees) → SoundDo ks (zone_of z) d (tail_of t) es → checked_do ks z t es ≡ fine
  sound_do ks z t d none s = absurd s
  sound_do ks z t d (more e none) s = sound_accepted ks z t d e s
  sound_do ks z t d (more e (more f rest)) s =
      both (checked ks z (inner t) e) (checked_do ks z t (more f rest))
      (sound_accepted ks z (inner t) d e (subst (λ o. SoundTree ks (zone_of z) d o e) (sym (inner_tail t)) s.0))
      (sound_do ks z t d (more f rest) s.1)
