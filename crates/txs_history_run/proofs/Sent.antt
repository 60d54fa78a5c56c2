-- A function that a send names, where the code comes to it, may be sent; and just these functions are marked.
use Rattle.std.proofs.Common.{◌≡◌, ◌<◌, ◌+◌, ◌⊎◌, ◌↔◌, inl, inr, ℕ, zero, suc, Bool, true, false, nat_eq, nat_lt, List, [], ◌∷◌, length, get_or, replicate, Option, Some, None, refl, sym, ap, subst, ◌∙◌, arith}
use Rattle.std.proofs.lemmas.Bool.{false≢true}
use Rattle.std.proofs.lemmas.Bool.Decides.{nat_tests}
use Rattle.txs_world_protocol.specs.declared.ask.Reply.{Reply}
use Rattle.txs_world_protocol.specs.declared.ask.Reply.TheVariants as reply
use Rattle.txs_value_data.specs.declared.op.Callee.{Callee}
use Rattle.txs_value_data.specs.Places.{nth}
use Rattle.txs_value_data.specs.declared.op.Callee.TheVariants as callee
use Rattle.txs_value_data.specs.declared.value.Value.{Value}
use Rattle.txs_code_meaning.specs.PlainCode.{CodeBody, PlainCode, parameters_of}
use Rattle.txs_code_meaning.specs.WellTyped.{FunctionKind, Functions, Owner, a_function, a_thread, IsLawful, MayBeSent, Stage, plain, opened, applied, Stages, FitsStage, WellTypedBody, WellTypedThreads, WellTyped}
use Rattle.txs_code_meaning.specs.declared.instr.Instr.{Instr}
use Rattle.txs_code_meaning.specs.declared.instr.Instr.TheVariants.{Const, Local, Store, Pop, Jump, JumpFalse, Core, Call, Return, Vector, Print, Look, Put, TxBegin, TxEnd, Open, Close, Send, Halt}
use Rattle.txs_machine_actor.specs.PlainActor.{CanSend, HandsOut, functions_of}
use Rattle.txs_machine_actor.proofs.Calling.{function_at}
use Rattle.txs_verify.specs.Going.{AllJumpWithin, AreReached, JumpsWithin}
use Rattle.txs_verify.specs.Marks.{Marks, mark_at, IsClosed}
use Rattle.txs_verify.specs.Paths.{stage_for}
use Rattle.txs_verify.specs.declared.walk.Mark.{Mark}
use Rattle.txs_verify.proofs.Never.{staged_at}
use Rattle.txs_verify.proofs.Stands.{has_mark}
use Rattle.txs_history_run.specs.Callees.{AreCallees, HandsOutSent, IsBodyOf, IsCallee, IsSentAmong, IsSentAt, IsSentBefore, IsSentIn, MarksMore, SendWithin, TakesSent, sent_by}

abbrev is_some : {A : Type 0} → Option A → Type 0
is_some None = ⊥
is_some (Some x) = Unit {0}

abbrev number_or : ℕ → Option ℕ → ℕ
number_or n None = n
number_or n (Some m) = m

-- ---- bodies

-- a body of well-typed code, whose ever it is
record IsTypedSo (fs : Functions) (ks : List Value) (b : CodeBody) : Type 0 where
  owner : Owner
  callable : ℕ
  room : ℕ
  typed : WellTypedBody fs owner callable ks b room

thread_typed : (fs : Functions) (ks : List Value) (bs : List CodeBody) (rooms : List ℕ) → WellTypedThreads fs ks bs rooms → (k : ℕ) (b : CodeBody) → nth bs k ≡ Some b → IsTypedSo fs ks b
thread_typed fs ks [] rooms w k b e = absurd (subst is_some (sym e) tt)
thread_typed fs ks (c ∷ bs) [] w k b e = absurd w
thread_typed fs ks (c ∷ bs) (r ∷ rooms) w zero b e = subst (IsTypedSo fs ks) (ap body_or e) (record { owner = a_thread; callable = length fs.parameters; room = r; typed = w.1 })
  where
    body_or : Option CodeBody → CodeBody
    body_or None = c
    body_or (Some x) = x
thread_typed fs ks (c ∷ bs) (r ∷ rooms) w (suc k) b e = thread_typed fs ks bs rooms w.2 k b e

abbrev rests_on : PlainCode → List FunctionKind → Functions
rests_on code kinds = record { parameters = parameters_of code.functions; kinds = kinds }

body_typed : (code : PlainCode) (function_rooms thread_rooms : List ℕ) (w : WellTyped code function_rooms thread_rooms) (b : CodeBody) → IsBodyOf code b → IsTypedSo (rests_on code w.kinds) code.constants b
body_typed code function_rooms thread_rooms w b (inl h) =
    let t = function_at (rests_on code w.kinds) 0 code.constants code.functions w.kinds function_rooms h.0 b w.functions h.1 in
    record { owner = a_function t.kind; callable = t.callable; room = _; typed = t.typed }
body_typed code function_rooms thread_rooms w b (inr h) = thread_typed (rests_on code w.kinds) code.constants code.threads thread_rooms w.threads h.0 b h.1

-- its jumps lead to its places
jumps_in : (fs : ℕ) (ps : List ℕ) (ks : List Value) (b : CodeBody) (at : ℕ) (i : Instr) → IsLawful fs ps ks b at i → JumpsWithin (length b.instrs) i
jumps_in fs ps ks b at (Const k) h = tt
jumps_in fs ps ks b at (Local i) h = tt
jumps_in fs ps ks b at (Store i) h = tt
jumps_in fs ps ks b at Pop h = tt
jumps_in fs ps ks b at (Jump to) h = h.0
jumps_in fs ps ks b at (JumpFalse to) h = h.0
jumps_in fs ps ks b at (Core op n) h = tt
jumps_in fs ps ks b at (Call g) h = tt
jumps_in fs ps ks b at Return h = tt
jumps_in fs ps ks b at (Vector n) h = tt
jumps_in fs ps ks b at (Print n) h = tt
jumps_in fs ps ks b at (Look look) h = tt
jumps_in fs ps ks b at (Put put) h = tt
jumps_in fs ps ks b at TxBegin h = tt
jumps_in fs ps ks b at TxEnd h = tt
jumps_in fs ps ks b at (Open by n) h = tt
jumps_in fs ps ks b at (Close by) h = tt
jumps_in fs ps ks b at (Send callee n) h = tt
jumps_in fs ps ks b at Halt h = tt

pub all_jump : (code : PlainCode) (function_rooms thread_rooms : List ℕ) → WellTyped code function_rooms thread_rooms → (b : CodeBody) → IsBodyOf code b → AllJumpWithin b.instrs
all_jump code function_rooms thread_rooms w b of p i e =
    let t = body_typed code function_rooms thread_rooms w b of in
    jumps_in t.callable (parameters_of code.functions) code.constants b p i (t.typed.lawful p i e)

-- ---- sends

send_fits : (fs : Functions) (owner : Owner) (ss : Stages) (at : ℕ) (s : Stage) (g n : ℕ) → FitsStage fs owner ss at s (Send (callee.Function g) n) → MayBeSent fs.kinds (callee.Function g)
send_fits fs owner ss at (plain t) g n h = h.1
send_fits fs owner ss at (opened t m by) g n h = absurd h
send_fits fs owner ss at (applied t by) g n h = absurd h

-- what an instruction sends where it fits a stage may be sent
fits_sent : (fs : Functions) (owner : Owner) (ss : Stages) (at : ℕ) (s : Stage) (i : Instr) (f : ℕ) → FitsStage fs owner ss at s i → sent_by i ≡ Some f → MayBeSent fs.kinds (callee.Function f)
fits_sent fs owner ss at s (Send (callee.Function g) n) f h e = subst (λ n. MayBeSent fs.kinds (callee.Function n)) (ap (number_or f) e) (send_fits fs owner ss at s g n h)
fits_sent fs owner ss at s (Send (callee.Core op) n) f h e = absurd (subst is_some (sym e) tt)
fits_sent fs owner ss at s (Const k) f h e = absurd (subst is_some (sym e) tt)
fits_sent fs owner ss at s (Local j) f h e = absurd (subst is_some (sym e) tt)
fits_sent fs owner ss at s (Store j) f h e = absurd (subst is_some (sym e) tt)
fits_sent fs owner ss at s Pop f h e = absurd (subst is_some (sym e) tt)
fits_sent fs owner ss at s (Jump to) f h e = absurd (subst is_some (sym e) tt)
fits_sent fs owner ss at s (JumpFalse to) f h e = absurd (subst is_some (sym e) tt)
fits_sent fs owner ss at s (Core op n) f h e = absurd (subst is_some (sym e) tt)
fits_sent fs owner ss at s (Call g) f h e = absurd (subst is_some (sym e) tt)
fits_sent fs owner ss at s Return f h e = absurd (subst is_some (sym e) tt)
fits_sent fs owner ss at s (Vector n) f h e = absurd (subst is_some (sym e) tt)
fits_sent fs owner ss at s (Print n) f h e = absurd (subst is_some (sym e) tt)
fits_sent fs owner ss at s (Look look) f h e = absurd (subst is_some (sym e) tt)
fits_sent fs owner ss at s (Put put) f h e = absurd (subst is_some (sym e) tt)
fits_sent fs owner ss at s TxBegin f h e = absurd (subst is_some (sym e) tt)
fits_sent fs owner ss at s TxEnd f h e = absurd (subst is_some (sym e) tt)
fits_sent fs owner ss at s (Open by n) f h e = absurd (subst is_some (sym e) tt)
fits_sent fs owner ss at s (Close by) f h e = absurd (subst is_some (sym e) tt)
fits_sent fs owner ss at s Halt f h e = absurd (subst is_some (sym e) tt)

-- what a body of the code sends, where the code comes to it, may be sent
sent_may : (code : PlainCode) (function_rooms thread_rooms : List ℕ) (w : WellTyped code function_rooms thread_rooms) (b : CodeBody) (f : ℕ) → IsBodyOf code b → IsSentIn code b f → MayBeSent w.kinds (callee.Function f)
sent_may code function_rooms thread_rooms w b f of sent =
    let y = body_typed code function_rooms thread_rooms w b of in
    let s = staged_at (rests_on code w.kinds) y.owner y.callable code.constants b y.room y.typed sent.place sent.depth sent.txs sent.instr sent.met in
    fits_sent (rests_on code w.kinds) y.owner s.0 sent.place (stage_for b.instrs sent.place sent.txs) sent.instr f s.1 sent.sends

can_send : (code : PlainCode) (function_rooms thread_rooms : List ℕ) (w : WellTyped code function_rooms thread_rooms) (c : Callee) (n : ℕ) → TakesSent code c (suc n) → CanSend (functions_of code w.kinds) c n
can_send code function_rooms thread_rooms w (callee.Core op) n h = h
can_send code function_rooms thread_rooms w (callee.Function f) n h = (sent_may code function_rooms thread_rooms w h.0.0 f h.0.1 h.0.2, h.1)

-- so an agent can run what the code can have sent
pub hands_sent : (code : PlainCode) (r : Reply) → HandsOutSent code r → HandsOut code r
hands_sent code (reply.Action n x v) h = λ function_rooms thread_rooms w. can_send code function_rooms thread_rooms w x.callee (length x.args) h
hands_sent code (reply.At p) h = tt
hands_sent code (reply.Is v) h = tt
hands_sent code (reply.Views p vs) h = tt
hands_sent code reply.Done h = tt
hands_sent code (reply.Retry c) h = tt
hands_sent code (reply.Changed c) h = tt
hands_sent code (reply.AgentIsFailed g) h = tt
hands_sent code reply.Idle h = tt
hands_sent code (reply.Opened p v) h = tt
hands_sent code reply.Full h = tt
hands_sent code reply.Memory h = tt

-- ---- places

-- what stands at a place of a list is within it
pub nth_within : {A : Type 0} (xs : List A) (i : ℕ) (x : A) → nth xs i ≡ Some x → i < length xs
nth_within [] i x e = absurd (subst is_some (sym e) tt)
nth_within (y ∷ xs) zero x e = omega arith
nth_within (y ∷ xs) (suc i) x e = omega (arith, nth_within xs i x e)

-- what is read at a place stands there
pub nth_read : {A : Type 0} (xs : List A) (i : ℕ) (x d : A) → i < length xs → x ≡ get_or xs i d → nth xs i ≡ Some x
nth_read [] i x d h e = absurd (omega (arith, h))
nth_read (y ∷ xs) zero x d h e = ap Some (sym e)
nth_read (y ∷ xs) (suc i) x d h e = nth_read xs i x d (omega (arith, h)) e

pub read : {A : Type 0} (xs : List A) (i : ℕ) (d : A) → i < length xs → nth xs i ≡ Some (get_or xs i d)
read [] i d h = absurd (omega (arith, h))
read (y ∷ xs) zero d h = refl
read (y ∷ xs) (suc i) d h = read xs i d (omega (arith, h))

some_is : {A : Type 0} (x y : A) → Some x ≡ Some y → x ≡ y
some_is x y e = cc

-- ---- what the instructions of a body send

-- a function that a lawful instruction sends has parameters
sends_one : (fs : ℕ) (ps : List ℕ) (ks : List Value) (b : CodeBody) (at : ℕ) (i : Instr) (f : ℕ) → IsLawful fs ps ks b at i → sent_by i ≡ Some f → (n : ℕ) × (nth ps f ≡ Some n)
sends_one fs ps ks b at (Send (callee.Function g) n) f h e = (n + 1, ap (λ x. nth ps x) (sym (ap (number_or f) e)) ∙ h.1)
sends_one fs ps ks b at (Send (callee.Core op) n) f h e = absurd (subst is_some (sym e) tt)
sends_one fs ps ks b at (Const k) f h e = absurd (subst is_some (sym e) tt)
sends_one fs ps ks b at (Local j) f h e = absurd (subst is_some (sym e) tt)
sends_one fs ps ks b at (Store j) f h e = absurd (subst is_some (sym e) tt)
sends_one fs ps ks b at Pop f h e = absurd (subst is_some (sym e) tt)
sends_one fs ps ks b at (Jump to) f h e = absurd (subst is_some (sym e) tt)
sends_one fs ps ks b at (JumpFalse to) f h e = absurd (subst is_some (sym e) tt)
sends_one fs ps ks b at (Core op n) f h e = absurd (subst is_some (sym e) tt)
sends_one fs ps ks b at (Call g) f h e = absurd (subst is_some (sym e) tt)
sends_one fs ps ks b at Return f h e = absurd (subst is_some (sym e) tt)
sends_one fs ps ks b at (Vector n) f h e = absurd (subst is_some (sym e) tt)
sends_one fs ps ks b at (Print n) f h e = absurd (subst is_some (sym e) tt)
sends_one fs ps ks b at (Look look) f h e = absurd (subst is_some (sym e) tt)
sends_one fs ps ks b at (Put put) f h e = absurd (subst is_some (sym e) tt)
sends_one fs ps ks b at TxBegin f h e = absurd (subst is_some (sym e) tt)
sends_one fs ps ks b at TxEnd f h e = absurd (subst is_some (sym e) tt)
sends_one fs ps ks b at (Open by n) f h e = absurd (subst is_some (sym e) tt)
sends_one fs ps ks b at (Close by) f h e = absurd (subst is_some (sym e) tt)
sends_one fs ps ks b at Halt f h e = absurd (subst is_some (sym e) tt)

parameters_many : (bs : List CodeBody) → length (parameters_of bs) ≡ length bs
parameters_many [] = refl
parameters_many (b ∷ bs) = ap suc (parameters_many bs)

-- the bodies of the code send functions of the code alone
pub send_within : (code : PlainCode) (function_rooms thread_rooms : List ℕ) → WellTyped code function_rooms thread_rooms → (b : CodeBody) → IsBodyOf code b → SendWithin (length code.functions) b.instrs
send_within code function_rooms thread_rooms w b of p f i e sends =
    let t = body_typed code function_rooms thread_rooms w b of in
    let one = sends_one t.callable (parameters_of code.functions) code.constants b p i f (t.typed.lawful p i e) sends in
    subst (λ n. f < n) (parameters_many code.functions) (nth_within (parameters_of code.functions) f one.0 one.1)

-- ---- marks

-- the mark at a place, as it is read
pub mark_read : (ms : Marks) (at : ℕ) (m : Option Mark) → at < length ms → m ≡ get_or ms at m → mark_at ms at ≡ m
mark_read [] at m h e = absurd (omega (arith, h))
mark_read (x ∷ ms) zero m h e = sym e
mark_read (x ∷ ms) (suc at) m h e = mark_read ms at m (omega (arith, h)) e

-- a place that is read without a mark has none
pub no_mark : (ms : Marks) (at : ℕ) (m : Mark) → mark_at ms at ≡ None → mark_at ms at ≡ Some m → false ≡ true
no_mark ms at m e f = cc

-- what is marked by two, one behind the other
pub two_more : (P Q R : ℕ → Type 0) (a b c : List Bool) → ((f : ℕ) → R f ↔ (P f ⊎ Q f)) → MarksMore P a b → MarksMore Q b c → MarksMore R a c
two_more P Q R a b c same first second = record { many = second.many ∙ first.many; marked = λ f. ((λ e. to f ((second.marked f).0 e)), (λ h. back f h)) }
  where
    there : (f : ℕ) → (nth a f ≡ Some true) ⊎ P f → (nth a f ≡ Some true) ⊎ R f
    there f (inl h) = inl h
    there f (inr h) = inr ((same f).1 (inl h))

    to : (f : ℕ) → (nth b f ≡ Some true) ⊎ Q f → (nth a f ≡ Some true) ⊎ R f
    to f (inl h) = there f ((first.marked f).0 h)
    to f (inr h) = inr ((same f).1 (inr h))

    one : (f : ℕ) → P f ⊎ Q f → nth c f ≡ Some true
    one f (inl h) = (second.marked f).1 (inl ((first.marked f).1 (inr h)))
    one f (inr h) = (second.marked f).1 (inr h)

    back : (f : ℕ) → (nth a f ≡ Some true) ⊎ R f → nth c f ≡ Some true
    back f (inl h) = (second.marked f).1 (inl ((first.marked f).1 (inl h)))
    back f (inr h) = one f ((same f).0 h)

-- what is so by other words
pub same_more : (P Q : ℕ → Type 0) (a b : List Bool) → ((f : ℕ) → Q f ↔ P f) → MarksMore P a b → MarksMore Q a b
same_more P Q a b same h = record { many = h.many; marked = λ f. ((λ e. to f ((h.marked f).0 e)), (λ x. (h.marked f).1 (back f x))) }
  where
    to : (f : ℕ) → (nth a f ≡ Some true) ⊎ P f → (nth a f ≡ Some true) ⊎ Q f
    to f (inl x) = inl x
    to f (inr x) = inr ((same f).1 x)

    back : (f : ℕ) → (nth a f ≡ Some true) ⊎ Q f → (nth a f ≡ Some true) ⊎ P f
    back f (inl x) = inl x
    back f (inr x) = inr ((same f).0 x)

-- what is sent at a marked place
pub place_sent : (is : List Instr) (places : Marks) (at : ℕ) (d : Instr) (m : Mark) (a b : List Bool) → at < length is → mark_at places at ≡ Some m → MarksMore (λ f. sent_by (get_or is at d) ≡ Some f) a b → MarksMore (IsSentAt is places at) a b
place_sent is places at d m a b within marked h =
    same_more (λ f. sent_by i ≡ Some f) (IsSentAt is places at) a b (λ f. (to f, (λ e. record { instr = i; mark = m; stands = stands; marked = marked; sends = e }))) h
  where
    i : Instr
    i = get_or is at d

    stands : nth is at ≡ Some i
    stands = read is at d within

    to : (f : ℕ) → IsSentAt is places at f → sent_by i ≡ Some f
    to f s = subst (λ x. sent_by x ≡ Some f) (some_is s.instr i (sym s.stands ∙ stands)) s.sends

-- and at one without a mark
pub place_unsent : (is : List Instr) (places : Marks) (at : ℕ) (a : List Bool) → ((m : Mark) → mark_at places at ≡ Some m → ⊥) → MarksMore (IsSentAt is places at) a a
place_unsent is places at a none = record { many = refl; marked = λ f. ((λ e. inl e), from f) }
  where
    from : (f : ℕ) → (nth a f ≡ Some true) ⊎ IsSentAt is places at f → nth a f ≡ Some true
    from f (inl e) = e
    from f (inr s) = absurd (none s.mark s.marked)

-- nothing is sent before the first place
pub before_none : (is : List Instr) (places : Marks) (a : List Bool) → MarksMore (IsSentBefore is places 0) a a
before_none is places a = record { many = refl; marked = λ f. ((λ e. inl e), from f) }
  where
    from : (f : ℕ) → (nth a f ≡ Some true) ⊎ IsSentBefore is places 0 f → nth a f ≡ Some true
    from f (inl e) = e
    from f (inr s) = absurd (omega (arith, s.within))

-- ---- the places of a body

below_or_last : (p n : ℕ) → p < suc n → (p < n) ⊎ (p ≡ n)
below_or_last zero zero h = inr refl
below_or_last zero (suc n) h = inl (omega arith)
below_or_last (suc p) zero h = absurd (omega (arith, h))
below_or_last (suc p) (suc n) h = next (below_or_last p n (omega (arith, h)))
  where
    next : (p < n) ⊎ (p ≡ n) → (suc p < suc n) ⊎ (suc p ≡ suc n)
    next (inl x) = inl (omega (arith, x))
    next (inr x) = inr (ap suc x)

-- a place more
pub place_more : (is : List Instr) (places : Marks) (n f : ℕ) → IsSentBefore is places (n + 1) f ↔ (IsSentBefore is places n f ⊎ IsSentAt is places n f)
place_more is places n f = (λ s. to s.place s.sent (below_or_last s.place n (omega (arith, s.within))), back)
  where
    to : (p : ℕ) → IsSentAt is places p f → (p < n) ⊎ (p ≡ n) → IsSentBefore is places n f ⊎ IsSentAt is places n f
    to p s (inl h) = inl (record { place = p; within = h; sent = s })
    to p s (inr h) = inr (subst (λ x. IsSentAt is places x f) h s)

    back : IsSentBefore is places n f ⊎ IsSentAt is places n f → IsSentBefore is places (n + 1) f
    back (inl s) = record { place = s.place; within = omega (arith, s.within); sent = s.sent }
    back (inr s) = record { place = n; within = omega arith; sent = s }

-- at all places of a body just that is sent to which a path comes
pub all_places : (code : PlainCode) (b : CodeBody) (places : Marks) → length b.instrs < 4294967295 → IsClosed (parameters_of code.functions) b.instrs places → AreReached (parameters_of code.functions) b.instrs places → (f : ℕ) → IsSentIn code b f ↔ IsSentBefore b.instrs places (length b.instrs) f
all_places code b places few closed reached f = (to, back)
  where
    to : IsSentIn code b f → IsSentBefore b.instrs places (length b.instrs) f
    to s = record {
      place = s.place;
      within = nth_within b.instrs s.place s.instr s.met.stands;
      sent = record {
        instr = s.instr;
        mark = record { depth = s.depth; txs = s.txs };
        stands = s.met.stands;
        marked = has_mark (parameters_of code.functions) b.instrs places closed s.met.comes.0 s.place s.depth s.txs s.met.comes.1;
        sends = s.sends;
      };
    }

    back : IsSentBefore b.instrs places (length b.instrs) f → IsSentIn code b f
    back s = record {
      few = few;
      place = s.place;
      depth = s.sent.mark.depth;
      txs = s.sent.mark.txs;
      instr = s.sent.instr;
      met = record { comes = reached s.place s.sent.mark s.sent.marked; stands = s.sent.stands };
      sends = s.sent.sends;
    }

-- ---- the bodies of the code

-- a body more
pub body_more : (code : PlainCode) (bodies : List CodeBody) (n : ℕ) (b : CodeBody) → nth bodies n ≡ Some b → (f : ℕ) → IsSentAmong code bodies (n + 1) f ↔ (IsSentAmong code bodies n f ⊎ IsSentIn code b f)
body_more code bodies n b there f = (λ s. to s.number s.body s.there s.sent (below_or_last s.number n (omega (arith, s.within))), back)
  where
    to : (k : ℕ) (c : CodeBody) → nth bodies k ≡ Some c → IsSentIn code c f → (k < n) ⊎ (k ≡ n) → IsSentAmong code bodies n f ⊎ IsSentIn code b f
    to k c e s (inl h) = inl (record { number = k; within = h; body = c; there = e; sent = s })
    to k c e s (inr h) = inr (subst (λ x. IsSentIn code x f) (some_is c b (sym e ∙ ap (nth bodies) h ∙ there)) s)

    back : IsSentAmong code bodies n f ⊎ IsSentIn code b f → IsSentAmong code bodies (n + 1) f
    back (inl s) = record { number = s.number; within = omega (arith, s.within); body = s.body; there = s.there; sent = s.sent }
    back (inr s) = record { number = n; within = omega arith; body = b; there = there; sent = s }

-- none is marked at first
unmarked : (n f : ℕ) → nth (replicate n false) f ≡ Some true → ⊥
unmarked zero f e = subst is_some (sym e) tt
unmarked (suc n) zero e = cc
unmarked (suc n) (suc f) e = unmarked n f e

-- what functions and threads send is all that is marked
pub all_callees : (code : PlainCode) (n : ℕ) (b c : List Bool) → MarksMore (IsSentAmong code code.functions (length code.functions)) (replicate n false) b → MarksMore (IsSentAmong code code.threads (length code.threads)) b c → AreCallees code c
all_callees code n b c first second f = ((λ e. to ((second.marked f).0 e)), (λ h. back h.0 h.1 h.2))
  where
    of_functions : (nth (replicate n false) f ≡ Some true) ⊎ IsSentAmong code code.functions (length code.functions) f → IsCallee code f
    of_functions (inl x) = absurd (unmarked n f x)
    of_functions (inr s) = (s.body, inl (s.number, s.there), s.sent)

    to : (nth b f ≡ Some true) ⊎ IsSentAmong code code.threads (length code.threads) f → IsCallee code f
    to (inl x) = of_functions ((first.marked f).0 x)
    to (inr s) = (s.body, inr (s.number, s.there), s.sent)

    back : (d : CodeBody) → IsBodyOf code d → IsSentIn code d f → nth c f ≡ Some true
    back d (inl k) s = (second.marked f).1 (inl ((first.marked f).1 (inr (record { number = k.0; within = nth_within code.functions k.0 d k.1; body = d; there = k.1; sent = s }))))
    back d (inr k) s = (second.marked f).1 (inr (record { number = k.0; within = nth_within code.threads k.0 d k.1; body = d; there = k.1; sent = s }))

-- ---- parameters

-- how many parameters a function has, as it is read
pub parameters_at : (bs : List CodeBody) (f : ℕ) (b : CodeBody) → f < length bs → b ≡ get_or bs f b → nth (parameters_of bs) f ≡ Some b.parameters
parameters_at [] f b h e = absurd (omega (arith, h))
parameters_at (c ∷ bs) zero b h e = ap (λ (x : CodeBody). Some x.parameters) (sym e)
parameters_at (c ∷ bs) (suc f) b h e = parameters_at bs f b (omega (arith, h)) e

-- so it is told by a test of what is read
pub has_so : (bs : List CodeBody) (f k : ℕ) (b : CodeBody) (n : ℕ) → f < length bs → b ≡ get_or bs f b → n ≡ b.parameters → (nat_eq n k ≡ true → nth (parameters_of bs) f ≡ Some k) × (nth (parameters_of bs) f ≡ Some k → nat_eq n k ≡ true)
has_so bs f k b n h e is = (
  (λ t. (let same : n ≡ k = grind (arith, nat_tests, t) in at ∙ ap Some (sym is ∙ same))),
  (λ x. (let same : n ≡ k = is ∙ some_is b.parameters k (sym at ∙ x) in grind (arith, nat_tests, same))),
)
  where
    at : nth (parameters_of bs) f ≡ Some b.parameters
    at = parameters_at bs f b h e

-- and none has parameters that isn't there
pub has_none : (bs : List CodeBody) (f k : ℕ) → nat_lt f (length bs) ≡ false → (nat_lt f (length bs) ≡ true → nth (parameters_of bs) f ≡ Some k) × (nth (parameters_of bs) f ≡ Some k → nat_lt f (length bs) ≡ true)
has_none bs f k e = (
  (λ t. absurd (grind (arith, nat_tests, e, t))),
  (λ x. (let below : f < length bs = subst (λ m. f < m) (parameters_many bs) (nth_within (parameters_of bs) f k x) in grind (arith, nat_tests, below))),
)

-- ---- what is told of a callee

-- a place that is read
pub marked_so : (ms : List Bool) (f : ℕ) (d : Bool) → f < length ms → (get_or ms f d ≡ true) ↔ (nth ms f ≡ Some true)
marked_so ms f d h = ((λ t. read ms f d h ∙ ap Some t), (λ e. is_so (get_or ms f d) (sym (read ms f d h) ∙ e)))
  where
    is_so : (b : Bool) → Some b ≡ Some true → b ≡ true
    is_so b e = cc

-- and one that isn't there
pub unmarked_so : (ms : List Bool) (f : ℕ) → nat_lt f (length ms) ≡ false → (nat_lt f (length ms) ≡ true) ↔ (nth ms f ≡ Some true)
unmarked_so ms f e = ((λ t. absurd (false≢true (sym e ∙ t))), (λ x. (let below : f < length ms = nth_within ms f true x in grind (arith, nat_tests, below))))

-- a marked function takes so many values where it has so many parameters
pub takes_then : (code : PlainCode) (ms : List Bool) (f n : ℕ) (r : Bool) → AreCallees code ms → nth ms f ≡ Some true → ((r ≡ true) ↔ (nth (parameters_of code.functions) f ≡ Some n)) → (r ≡ true) ↔ (IsCallee code f × (nth (parameters_of code.functions) f ≡ Some n))
takes_then code ms f n r all is h = ((λ t. ((all f).0 is, h.0 t)), (λ x. h.1 x.1))

pub takes_else : (code : PlainCode) (ms : List Bool) (f n : ℕ) (r : Bool) → r ≡ false → AreCallees code ms → (nth ms f ≡ Some true → ⊥) → (r ≡ true) ↔ (IsCallee code f × (nth (parameters_of code.functions) f ≡ Some n))
takes_else code ms f n r e all isnt = ((λ t. absurd (false≢true (sym e ∙ t))), (λ x. absurd (isnt ((all f).1 x.0))))
