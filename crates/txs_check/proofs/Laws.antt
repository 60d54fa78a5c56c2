-- A program is sound exactly where nothing of it is refused, and it is refused for one reason.
use Rattle.std.proofs.Common.{◌≡◌, ◌≢◌, ℕ, suc, ◌≤◌, ◌⊎◌, inl, inr, Bool, true, false, not, eqb, leb, if◌then◌else◌, ◌-◌, Option, List, [], ◌∷◌, ◌++◌, length, arith, map, Some, None, Ok, Err, refl, sym, ap, ◌∙◌, subst}
use Rattle.txs_value_apply.specs.Core.{takes}
use Rattle.txs_value_data.specs.Places.{nth}
use Rattle.txs_value_data.specs.declared.fault.Span.{Span}
use Rattle.txs_value_cell.specs.declared.form.CellForm.TheVariants as form_of
use Rattle.txs_value_cell.specs.Forms.{rule}
use Rattle.txs_value_cell.specs.declared.form.Standing.{Standing}
use Rattle.txs_value_cell.specs.declared.form.Standing.TheVariants.{Anywhere, Inside, Outside}
use Rattle.txs_value_data.specs.declared.op.Callee.{Callee}
use Rattle.txs_value_data.specs.declared.op.Callee.TheVariants.{Core as CoreOp, Function}
use Rattle.txs_tree_meaning.specs.Known.{Known, is_pure, known_of, known_from, known}
use Rattle.txs_tree_meaning.specs.Scoped.{Scoped, ScopedFunctions, ScopedThreads}
use Rattle.txs_tree_meaning.specs.Sound.{Sound, SoundCells, SoundFunctions, SoundThreads, SoundValidator, nodes}
use Rattle.txs_tree_meaning.specs.Tree.{Tree, Const, Local, If, Do, Let, Loop, Recur, Core, Call, VectorOf, Println, Dosync, Look, Put, Update, Send, Trees, none, more, count, PlainFunction, PlainThread, PlainProgram}
use Rattle.txs_tree_meaning.specs.View.{functions_of, threads_of, program_of}
use Rattle.txs_tree_meaning.specs.declared.node.Function.{Function as AFunction}
use Rattle.txs_tree_meaning.specs.declared.node.Thread.{Thread}
use Rattle.txs_value_cell.specs.declared.cell.CellDefinition.{CellDefinition}
use Rattle.txs_check.specs.Signatures.{bare}
use Rattle.txs_check.specs.declared.error.CheckError.{CheckError}
use Rattle.txs_check.specs.declared.error.CheckErrorKind.TheVariants.{RecurNotTail, RecurCount, Arity, NotPure, InsideOnly, OutsideOnly, CodeTooLarge, Memory}
use Rattle.txs_check.specs.declared.place.Target.{Target}
use Rattle.txs_check.specs.declared.place.Target.TheVariants.{Nowhere, Across, Nearest}
use Rattle.txs_check.specs.declared.place.Zone.{Zone}
use Rattle.txs_check.specs.declared.place.Zone.TheVariants.{InFunction, InFuture, InDosync}
use Rattle.txs_check.specs.Refused.{Checked, fine, ◌>>◌, only, inner, across, operates, recurs, accepts, zoned, calls, called, sent, sent_zoned, placed, formed, applied, turned_in, in_turn, checked, checked_all, checked_do, Body, function_body, thread_body, in_order, checked_body, checked_bodies, validators_in, validates, Checkable, of_body, of_validator, together, checked_one, checked_each, ◌>>=◌, room, few, refusal, CheckStops}
use Rattle.txs_check.specs.Walked.{walked}
use Rattle.txs_check.proofs.Steps.{first, second, both, err_not_fine, Told, told_then, told_turn, told_only, told_kind}
use Rattle.txs_check.proofs.Accepted.{accepted_sound, sound_accepted, called_sound, sound_called}
use Rattle.txs_check.proofs.Order.{order_accepted, accepted_order, total_order, room_few, few_room}
use Rattle.txs_check.proofs.Same.{each_same, checked_front, known_front}
use Rattle.txs_check.proofs.Walking.{walked_is, each_accepted, accepted_each}

-- a function's body is checked among all functions as among those before it
function_front : (ks : List Known) (f : PlainFunction) (fs : List PlainFunction) → ScopedFunctions ks (f ∷ fs) → checked_body (known_from ks (f ∷ fs)) (function_body f) ≡ checked_body ks (function_body f)
function_front ks f fs s =
    let r = known_front ks (f ∷ fs) in
    ap (λ l. checked_body l (function_body f)) r.1 ∙ checked_front ks r.0 InFunction (Nearest f.parameters true) f.parameters f.body s.0.1

functions_sound : (ks : List Known) (fs : List PlainFunction) → ScopedFunctions ks fs → checked_bodies (known_from ks fs) (map function_body fs) ≡ fine → SoundFunctions ks fs
functions_sound ks [] s h = tt
functions_sound ks (f ∷ fs) s h =
    let K = known_from ks (f ∷ fs) in
    let x = checked_body K (function_body f) in
    let y = checked_bodies K (map function_body fs) in (
      (s.0.0, accepted_sound ks InFunction (Nearest f.parameters true) f.parameters f.body s.0.1 (sym (function_front ks f fs s) ∙ first x y h), s.0.2),
      functions_sound (ks ++ known_of ks f ∷ []) fs s.1 (second x y h),
    )

functions_accepted : (ks : List Known) (fs : List PlainFunction) → ScopedFunctions ks fs → SoundFunctions ks fs → checked_bodies (known_from ks fs) (map function_body fs) ≡ fine
functions_accepted ks [] s h = refl
functions_accepted ks (f ∷ fs) s h =
    let K = known_from ks (f ∷ fs) in
    let x = checked_body K (function_body f) in
    let y = checked_bodies K (map function_body fs) in
    both x y (function_front ks f fs s ∙ sound_accepted ks InFunction (Nearest f.parameters true) f.parameters f.body h.0.1)
    (functions_accepted (ks ++ known_of ks f ∷ []) fs s.1 h.1)

threads_sound : (ks : List Known) (ts : List PlainThread) → ScopedThreads ks ts → checked_bodies ks (map thread_body ts) ≡ fine → SoundThreads ks ts
threads_sound ks [] s h = tt
threads_sound ks (t ∷ ts) s h =
    let x = checked_body ks (thread_body t) in
    let y = checked_bodies ks (map thread_body ts) in
    ((accepted_sound ks InFuture Nowhere 0 t.body s.0.0 (first x y h), s.0.1), threads_sound ks ts s.1 (second x y h))

threads_accepted : (ks : List Known) (ts : List PlainThread) → SoundThreads ks ts → checked_bodies ks (map thread_body ts) ≡ fine
threads_accepted ks [] h = refl
threads_accepted ks (t ∷ ts) h =
    both (checked_body ks (thread_body t)) (checked_bodies ks (map thread_body ts)) (sound_accepted ks InFuture Nowhere 0 t.body h.0.0) (threads_accepted ks ts h.1)

validator_sound : (ks : List Known) (o : Option Callee) (at : Span) → validates ks o at ≡ fine → SoundValidator ks o
validator_sound ks None at h = tt
validator_sound ks (Some c) at h = called_sound ks c 1 at (omega arith) h

sound_validator : (ks : List Known) (o : Option Callee) (at : Span) → SoundValidator ks o → validates ks o at ≡ fine
sound_validator ks None at h = refl
sound_validator ks (Some c) at h = sound_called ks c 1 at h

cells_sound : (ks : List Known) (ds : List CellDefinition) (spans : List Span) → length spans ≡ length ds → checked_each ks (map of_validator (validators_in ds spans)) ≡ fine → SoundCells ks ds
cells_sound ks [] spans e h = tt
cells_sound ks (d ∷ ds) [] e h = absurd (omega (arith, e))
cells_sound ks (d ∷ ds) (at ∷ ats) e h =
    let x = validates ks d.validator at in
    let y = checked_each ks (map of_validator (validators_in ds ats)) in
    (validator_sound ks d.validator at (first x y h), cells_sound ks ds ats (omega (arith, e)) (second x y h))

cells_accepted : (ks : List Known) (ds : List CellDefinition) (spans : List Span) → SoundCells ks ds → checked_each ks (map of_validator (validators_in ds spans)) ≡ fine
cells_accepted ks [] spans h = refl
cells_accepted ks (d ∷ ds) [] h = refl
cells_accepted ks (d ∷ ds) (at ∷ ats) h =
    both (validates ks d.validator at) (checked_each ks (map of_validator (validators_in ds ats))) (sound_validator ks d.validator at h.0) (cells_accepted ks ds ats h.1)

pub fine_sound : (p : PlainProgram) → Scoped p → refusal p ≡ fine → Sound p
fine_sound p s h =
    let ks = known p.functions in
    let bs = in_order p.functions p.threads in
    let vs = validators_in p.cells p.validator_spans in
    let x = checked_each ks (together bs vs) in
    let y = few (room 200000 bs) in
    let each_fine = each_accepted ks bs vs (first x y h) in
    let both_fine = order_accepted ks p.functions p.threads each_fine.0 in
    record {
      scoped = s;
      functions = functions_sound [] p.functions s.functions both_fine.0;
      cells = cells_sound ks p.cells p.validator_spans s.placed each_fine.1;
      threads = threads_sound ks p.threads s.threads both_fine.1;
      few_nodes = subst (λ n. n ≤ 200000) (total_order p.functions p.threads) (few_room 200000 bs (second x y h));
    }

pub sound_fine : (p : PlainProgram) → Scoped p → Sound p → refusal p ≡ fine
sound_fine p s h =
    let ks = known p.functions in
    let bs = in_order p.functions p.threads in
    let vs = validators_in p.cells p.validator_spans in
    both (checked_each ks (together bs vs)) (few (room 200000 bs))
    (accepted_each ks bs vs (accepted_order ks p.functions p.threads (functions_accepted [] p.functions s.functions h.functions) (threads_accepted ks p.threads h.threads)) (cells_accepted ks p.cells p.validator_spans h.cells))
    (room_few 200000 bs (subst (λ n. n ≤ 200000) (sym (total_order p.functions p.threads)) h.few_nodes))

-- ---- no refusal is a want of memory

told_recurs : (t : Target) (n : ℕ) (at : Span) → Told (recurs t n at)
told_recurs Nowhere n at = λ m. m
told_recurs Across n at = λ m. m
told_recurs (Nearest k tail) n at = told_then (only tail RecurNotTail at) (only (eqb k n) RecurCount at) (told_only tail RecurNotTail at (λ m. m)) (told_only (eqb k n) RecurCount at (λ m. m))

told_zoned : (z : Zone) (o : Option Known) (at : Span) → Told (zoned z o at)
told_zoned z None at = tt
told_zoned InFunction (Some k) at = tt
told_zoned InFuture (Some k) at = told_only (not k.inside) InsideOnly at (λ m. m)
told_zoned InDosync (Some k) at = told_only (not k.outside) OutsideOnly at (λ m. m)

told_calls : (ks : List Known) (z : Zone) (f n : ℕ) (at : Span) → Told (calls ks z f n at)
told_calls ks z f n at = told_then (only (accepts (nth ks f) n) Arity at) (zoned z (nth ks f) at) (told_only (accepts (nth ks f) n) Arity at (λ m. m)) (told_zoned z (nth ks f) at)

told_called : (ks : List Known) (c : Callee) (n : ℕ) (at : Span) → Told (called ks c n at)
told_called ks (CoreOp op) n at = told_only (takes op n) Arity at (λ m. m)
told_called ks (Function f) n at = told_then (only (accepts (nth ks f) n) Arity at) (only (is_pure (nth ks f)) NotPure at) (told_only (accepts (nth ks f) n) Arity at (λ m. m)) (told_only (is_pure (nth ks f)) NotPure at (λ m. m))

told_sent_zoned : (o : Option Known) (at : Span) → Told (sent_zoned o at)
told_sent_zoned None at = tt
told_sent_zoned (Some k) at = told_only (not k.inside) InsideOnly at (λ m. m)

told_sent : (ks : List Known) (c : Callee) (n : ℕ) (at : Span) → Told (sent ks c n at)
told_sent ks (CoreOp op) n at = told_only (takes op n) Arity at (λ m. m)
told_sent ks (Function f) n at = told_then (only (accepts (nth ks f) n) Arity at) (sent_zoned (nth ks f) at) (told_only (accepts (nth ks f) n) Arity at (λ m. m)) (told_sent_zoned (nth ks f) at)

told_placed : (z : Zone) (s : Standing) (at : Span) → Told (placed z s at)
told_placed InFunction s at = tt
told_placed InFuture Anywhere at = tt
told_placed InFuture Inside at = λ m. m
told_placed InFuture Outside at = tt
told_placed InDosync Anywhere at = tt
told_placed InDosync Inside at = tt
told_placed InDosync Outside at = λ m. m

module _ (ks : List Known) where
  mutual
    told_checked : (z : Zone) (t : Target) (e : Tree) → Told (checked ks z t e)
    told_checked z t (Const v m) = tt
    told_checked z t (Local i m) = tt
    told_checked z t (If c a b m) = told_then (checked ks z (inner t) c) (in_turn (turned_in m a b) (checked ks z t a) (checked ks z t b)) (told_checked z (inner t) c) (told_turn (turned_in m a b) (checked ks z t a) (checked ks z t b) (told_checked z t a) (told_checked z t b))
    told_checked z t (Do items m) = told_do z t items
    told_checked z t (Let values body m) = told_then (checked_all ks z (inner t) values) (checked ks z t body) (told_all z (inner t) values) (told_checked z t body)
    told_checked z t (Loop values body m) = told_then (checked_all ks z (inner t) values) (checked ks z (Nearest (count values) true) body) (told_all z (inner t) values) (told_checked z (Nearest (count values) true) body)
    told_checked z t (Recur values m) = told_then (recurs t (count values) m.span) (checked_all ks z (inner t) values) (told_recurs t (count values) m.span) (told_all z (inner t) values)
    told_checked z t (Core op args m) = told_then (operates op (count args) m.span) (checked_all ks z (inner t) args) (told_only (takes op (count args)) Arity m.span (λ x. x)) (told_all z (inner t) args)
    told_checked z t (Call f args m) = told_then (calls ks z f (count args) m.span) (checked_all ks z (inner t) args) (told_calls ks z f (count args) m.span) (told_all z (inner t) args)
    told_checked z t (VectorOf items m) = told_all z (inner t) items
    told_checked z t (Println args m) = told_then (placed z Outside m.span) (checked_all ks z (inner t) args) (told_placed z Outside m.span) (told_all z (inner t) args)
    told_checked z t (Dosync body m) = told_checked InDosync (across t) body
    told_checked z t (Look form cell m) = told_then (formed z (form_of.Look form) m.span) (checked ks z (inner t) cell) (told_placed z (rule (form_of.Look form)).stands m.span) (told_checked z (inner t) cell)
    told_checked z t (Put form cell value m) =
        told_then (formed z (form_of.Put form) m.span) (checked ks z (inner t) cell >> checked ks z (inner t) value) (told_placed z (rule (form_of.Put form)).stands m.span)
        (told_then (checked ks z (inner t) cell) (checked ks z (inner t) value) (told_checked z (inner t) cell) (told_checked z (inner t) value))
    told_checked z t (Update form cell callee args m) =
        let n = suc (count args) in
        told_then (applied ks z (form_of.Update form) callee n m.span) (checked ks z (inner t) cell >> checked_all ks z (inner t) args)
        (told_then (called ks callee n m.span) (formed z (form_of.Update form) m.span) (told_called ks callee n m.span) (told_placed z (rule (form_of.Update form)).stands m.span))
        (told_then (checked ks z (inner t) cell) (checked_all ks z (inner t) args) (told_checked z (inner t) cell) (told_all z (inner t) args))
    told_checked z t (Send cell callee args m) =
        let n = suc (count args) in
        told_then (sent ks callee n m.span >> formed z form_of.Send m.span) (checked ks z (inner t) cell >> checked_all ks z (inner t) args)
        (told_then (sent ks callee n m.span) (formed z form_of.Send m.span) (told_sent ks callee n m.span) (told_placed z Anywhere m.span))
        (told_then (checked ks z (inner t) cell) (checked_all ks z (inner t) args) (told_checked z (inner t) cell) (told_all z (inner t) args))

    told_all : (z : Zone) (t : Target) (es : Trees) → Told (checked_all ks z t es)
    told_all z t none = tt
    told_all z t (more e rest) = told_then (checked ks z t e) (checked_all ks z t rest) (told_checked z t e) (told_all z t rest)

    told_do : (z : Zone) (t : Target) (es : Trees) → Told (checked_do ks z t es)
    told_do z t none = tt
    told_do z t (more e none) = told_checked z t e
    told_do z t (more e (more f rest)) = told_then (checked ks z (inner t) e) (checked_do ks z t (more f rest)) (told_checked z (inner t) e) (told_do z t (more f rest))

  told_validates : (o : Option Callee) (at : Span) → Told (validates ks o at)
  told_validates None at = tt
  told_validates (Some c) at = told_called ks c 1 at

  told_one : (c : Checkable) → Told (checked_one ks c)
  told_one (of_body b) = told_checked b.zone b.target b.tree
  told_one (of_validator v) = told_validates v.callee v.span

  told_each : (cs : List Checkable) → Told (checked_each ks cs)
  told_each [] = tt
  told_each (c ∷ cs) = told_then (checked_one ks c) (checked_each ks cs) (told_one c) (told_each cs)

told_room : (left : ℕ) (bs : List Body) → Told (few (room left bs))
told_room left [] = tt
told_room left (b ∷ bs) = by (told_room (left - nodes b.tree) bs) (leb (nodes b.tree) left)
  where
    by : Told (few (room (left - nodes b.tree) bs)) → (x : Bool) → Told (few ((if x then Ok (left - nodes b.tree) else Err (record { kind = CodeTooLarge; at = b.span })) >>= λ rest. room rest bs))
    by rest true = rest
    by rest false = λ m. m

pub told_refusal : (p : PlainProgram) → Told (refusal p)
told_refusal p =
    let ks = known p.functions in
    let bs = in_order p.functions p.threads in
    let cs = together bs (validators_in p.cells p.validator_spans) in
    told_then (checked_each ks cs) (few (room 200000 bs)) (told_each ks cs) (told_room 200000 bs)

pub no_want : (p : PlainProgram) (e : CheckError) → CheckStops p e → e.kind ≢ Memory
no_want p e h = told_kind (refusal p) e (told_refusal p) h

pub decided : (p : PlainProgram) → Scoped p → Sound p ⊎ ((e : CheckError) × CheckStops p e)
decided p s = by (refusal p) refl
  where
    by : (a : Checked) → refusal p ≡ a → Sound p ⊎ ((e : CheckError) × CheckStops p e)
    by (Ok u) is = inl (fine_sound p s is)
    by (Err e) is = inr (e, is)

abbrev error_or : CheckError → Checked → CheckError
error_or d (Ok u) = d
error_or d (Err e) = e

pub one_stop : (p : PlainProgram) (d e : CheckError) → CheckStops p d → CheckStops p e → d ≡ e
one_stop p d e g h = ap (λ a. error_or d a) (sym g ∙ h)

pub not_both : (p : PlainProgram) (e : CheckError) → Scoped p → Sound p → CheckStops p e → ⊥
not_both p e s h g = err_not_fine (refusal p) e g (sound_fine p s h)

-- the first refusal, by what the table of functions says
pub refusal_of : (cells : List CellDefinition) (spans : List Span) (fs : List AFunction) (ts : List Thread) (ks : List Known) → bare ks ≡ bare (known (functions_of fs)) →
    refusal (program_of (record { cells = cells; validator_spans = spans; functions = fs; threads = ts }))
    ≡ walked ks (in_order (functions_of fs) (threads_of ts)) (validators_in cells spans) >> few (room 200000 (in_order (functions_of fs) (threads_of ts)))
refusal_of cells spans fs ts ks same =
    let bs = in_order (functions_of fs) (threads_of ts) in
    let vs = validators_in cells spans in
    ap (λ x. x >> few (room 200000 bs)) (sym (each_same (known (functions_of fs)) ks same (together bs vs)) ∙ sym (walked_is ks bs vs))
