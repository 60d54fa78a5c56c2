-- An actor can go on after an instruction on cells or the transaction, and after the answer to what it asks.
use Rattle.std.proofs.Common.{◌≡◌, ℕ, suc, ◌+◌, ◌-◌, ◌<◌, ◌≤◌, true, false, List, [], ◌∷◌, ◌++◌, length, Some, sym, ap, ◌∙◌, subst, arith}
use Rattle.std.proofs.lemmas.List.{length_push}
use Rattle.txs_value_data.specs.Places.{nth}
use Rattle.txs_value_cell.specs.declared.form.LookForm.{LookForm}
use Rattle.txs_value_cell.specs.declared.form.PutForm.{PutForm}
use Rattle.txs_value_cell.specs.declared.form.Standing.TheVariants.{Inside, Outside}
use Rattle.txs_value_cell.specs.declared.form.UpdateForm.{UpdateForm}
use Rattle.txs_value_cell.specs.declared.form.CellForm.TheVariants as form
use Rattle.txs_value_data.specs.declared.op.Callee.{Callee}
use Rattle.txs_value_data.specs.declared.op.Callee.TheVariants as callee
use Rattle.txs_value_data.specs.declared.value.Value.{Value}
use Rattle.txs_code_meaning.specs.PlainCode.{CodeBody}
use Rattle.txs_code_meaning.specs.WellTyped.{Stages, Stage, plain, opened, applied, depth_at, stage_at, Fits, FitsStage, FunctionKind, MayStand, FormMayStand, form_of, CalleeTakes, IsImpure, IsPureCallee, Applies, IsFollowed, IsKind, Returns}
use Rattle.txs_code_meaning.specs.declared.instr.Instr.{Instr}
use Rattle.txs_code_meaning.specs.declared.instr.Instr.TheVariants.{Const, Local, Store, Pop, Jump, JumpFalse, Core, Call, Return, Vector, Print, Look, Put, TxBegin, TxEnd, Open, Close, Send, Halt}
use Rattle.txs_code_meaning.specs.declared.instr.OpenForm.{OpenForm}
use Rattle.txs_code_meaning.specs.declared.instr.OpenForm.TheVariants as open_form
use Rattle.txs_machine_loop.specs.Values.{below, but_last, put_under}
use Rattle.txs_machine_loop.specs.Ready.{Setting, swaps_of, own_at, Ready}
use Rattle.txs_machine_loop.proofs.Lists.{length_but_last, length_below, length_put_under}
use Rattle.txs_machine_loop.proofs.Ready.{here_of}

some : {A : Type 0} {x y : A} → Some x ≡ Some y → x ≡ y
some e = cc

-- what the tables say of an instruction that stands where an actor is
pub record Told (w : Setting) (ks : List Value) (b : CodeBody) (l at : ℕ) (vs : List Value) (room : ℕ) (d : ℕ × ℕ) (r : Ready w ks b l at vs room d) (i : Instr) : Type 0 where
  pub fits : Fits w.owner w.functions.parameters r.depths r.most at (length vs - l) i
  pub shallow : length vs - l ≤ r.most
  pub stages : FitsStage w.functions w.owner r.stages at r.stage i

pub told : (w : Setting) (ks : List Value) (b : CodeBody) (l at : ℕ) (vs : List Value) (room : ℕ) (d : ℕ × ℕ) (r : Ready w ks b l at vs room d) (i : Instr) → nth b.instrs at ≡ Some i → Told w ks b l at vs room d r i
told w ks b l at vs room d r i e =
    let h = here_of w ks b l at vs room d r in
    let same : h.instr ≡ i = some (sym h.is ∙ e) in
    record {
      fits = subst (λ (j : Instr). Fits w.owner w.functions.parameters r.depths r.most at (length vs - l) j) same h.fits;
      shallow = h.shallow;
      stages = subst (λ (j : Instr). FitsStage w.functions w.owner r.stages at r.stage j) same h.stages;
    }

-- the stage at the next place
record Next (ss : Stages) (at : ℕ) (d : ℕ × ℕ) : Type 0 where
  pub stage : Stage
  pub staged : stage_at ss (at + 1) ≡ Some stage
  pub owns : own_at stage ≡ d

-- these stand at no stage of an update
abbrev pub IsAlone : Instr → Type 0
IsAlone (Look look) = Unit {0}
IsAlone (Put put) = Unit {0}
IsAlone TxBegin = Unit {0}
IsAlone TxEnd = Unit {0}
IsAlone (Open by n) = Unit {0}
IsAlone (Send f n) = Unit {0}
IsAlone _ = ⊥

module _ (w : Setting) (ks : List Value) (b : CodeBody) (l at : ℕ) (vs : List Value) (room : ℕ) (d : ℕ × ℕ) (r : Ready w ks b l at vs room d) where
  -- the actor is ready at the next place, where the tables have its depth and its stage
  onward : (d1 : ℕ × ℕ) (us : List Value) → l ≤ length us → depth_at r.depths (at + 1) ≡ Some (length us - l) → Next r.stages at d1 → Ready w ks b l (at + 1) us room d1
  onward d1 us deep e n =
      record { most = r.most; callable = r.callable; depths = r.depths; stages = r.stages; lawful = r.lawful; table = r.table; staging = r.staging; here = e; stage = n.stage; staged = n.staged; owns = n.owns; sized = r.sized; deep = deep; roomy = r.roomy }

  alone_stage : (s : Stage) (i : Instr) → own_at s ≡ d → FitsStage w.functions w.owner r.stages at s i → IsAlone i → d.1 ≡ 0
  alone_stage (plain t) i h g k = sym (ap (λ (x : ℕ × ℕ). x.1) h)
  alone_stage (opened t n by) (Const j) h g k = absurd k
  alone_stage (opened t n by) (Local j) h g k = absurd k
  alone_stage (opened t n by) (Store j) h g k = absurd k
  alone_stage (opened t n by) Pop h g k = absurd k
  alone_stage (opened t n by) (Jump j) h g k = absurd k
  alone_stage (opened t n by) (JumpFalse j) h g k = absurd k
  alone_stage (opened t n by) (Core op m) h g k = absurd k
  alone_stage (opened t n by) (Call f) h g k = absurd k
  alone_stage (opened t n by) Return h g k = absurd k
  alone_stage (opened t n by) (Vector m) h g k = absurd k
  alone_stage (opened t n by) (Print m) h g k = absurd k
  alone_stage (opened t n by) (Look o) h g k = absurd g
  alone_stage (opened t n by) (Put o) h g k = absurd g
  alone_stage (opened t n by) TxBegin h g k = absurd g
  alone_stage (opened t n by) TxEnd h g k = absurd g
  alone_stage (opened t n by) (Open o m) h g k = absurd g
  alone_stage (opened t n by) (Close o) h g k = absurd k
  alone_stage (opened t n by) (Send f m) h g k = absurd g
  alone_stage (opened t n by) Halt h g k = absurd k
  alone_stage (applied t by) (Const j) h g k = absurd k
  alone_stage (applied t by) (Local j) h g k = absurd k
  alone_stage (applied t by) (Store j) h g k = absurd k
  alone_stage (applied t by) Pop h g k = absurd k
  alone_stage (applied t by) (Jump j) h g k = absurd k
  alone_stage (applied t by) (JumpFalse j) h g k = absurd k
  alone_stage (applied t by) (Core op m) h g k = absurd k
  alone_stage (applied t by) (Call f) h g k = absurd k
  alone_stage (applied t by) Return h g k = absurd k
  alone_stage (applied t by) (Vector m) h g k = absurd k
  alone_stage (applied t by) (Print m) h g k = absurd k
  alone_stage (applied t by) (Look o) h g k = absurd g
  alone_stage (applied t by) (Put o) h g k = absurd g
  alone_stage (applied t by) TxBegin h g k = absurd g
  alone_stage (applied t by) TxEnd h g k = absurd g
  alone_stage (applied t by) (Open o m) h g k = absurd g
  alone_stage (applied t by) (Close o) h g k = absurd k
  alone_stage (applied t by) (Send f m) h g k = absurd g
  alone_stage (applied t by) Halt h g k = absurd k

  -- where they stand, the body has no swap in hand
  pub no_own_swap : (i : Instr) → nth b.instrs at ≡ Some i → IsAlone i → d.1 ≡ 0
  no_own_swap i e k = alone_stage r.stage i r.owns (told w ks b l at vs room d r i e).stages k

  -- a print stands outside transactions
  quiet_stage : (m : ℕ) (s : Stage) → own_at s ≡ d → FitsStage w.functions w.owner r.stages at s (Print m) → MayStand w.owner d.0 Outside
  quiet_stage m (plain t) h g = subst (λ (x : ℕ × ℕ). MayStand w.owner x.0 Outside) h g.1
  quiet_stage m (opened t n by) h g = absurd g
  quiet_stage m (applied t by) h g = absurd g

  pub print_stands : (m : ℕ) → nth b.instrs at ≡ Some (Print m) → MayStand w.owner d.0 Outside
  print_stands m e = quiet_stage m r.stage r.owns (told w ks b l at vs room d r (Print m) e).stages

  look_stage : (look : LookForm) (s : Stage) → own_at s ≡ d → FitsStage w.functions w.owner r.stages at s (Look look) → FormMayStand w.owner d.0 (form.Look look) × Next r.stages at d
  look_stage look (plain t) h g = (subst (λ (x : ℕ × ℕ). FormMayStand w.owner x.0 (form.Look look)) h g.0, record { stage = plain t; staged = g.1; owns = h })
  look_stage look (opened t n by) h g = absurd g
  look_stage look (applied t by) h g = absurd g

  pub look_stands : (look : LookForm) → nth b.instrs at ≡ Some (Look look) → FormMayStand w.owner d.0 (form.Look look)
  look_stands look e = (look_stage look r.stage r.owns (told w ks b l at vs room d r (Look look) e).stages).0

  pub look_ready : (look : LookForm) → nth b.instrs at ≡ Some (Look look) → (v : Value) → (l < length vs) × Ready w ks b l (at + 1) (but_last vs ++ v ∷ []) room d
  look_ready look e v =
      let t = told w ks b l at vs room d r (Look look) e in
      let lt : l < length vs = omega (arith, t.fits.0, r.deep) in
      let size : length (but_last vs ++ v ∷ []) ≡ length vs = length_push (but_last vs) v ∙ omega (arith, length_but_last vs, lt) in
      let same : length vs - l ≡ length (but_last vs ++ v ∷ []) - l = omega (arith, size) in
      (lt, onward d (but_last vs ++ v ∷ []) (omega (arith, size, lt)) (t.fits.1 ∙ ap Some same) (look_stage look r.stage r.owns t.stages).1)

  begin_stage : (s : Stage) → own_at s ≡ d → FitsStage w.functions w.owner r.stages at s TxBegin → IsImpure w.owner × Next r.stages at (suc d.0, d.1)
  begin_stage (plain t) h g = (g.0, record { stage = plain (suc t); staged = g.1; owns = ap (λ (x : ℕ × ℕ). (suc x.0, x.1)) h })
  begin_stage (opened t n by) h g = absurd g
  begin_stage (applied t by) h g = absurd g

  pub begin_ready : nth b.instrs at ≡ Some TxBegin → Ready w ks b l (at + 1) vs room (suc d.0, d.1)
  begin_ready e =
      let t = told w ks b l at vs room d r TxBegin e in
      onward (suc d.0, d.1) vs r.deep t.fits (begin_stage r.stage r.owns t.stages).1

  pub begin_stands : nth b.instrs at ≡ Some TxBegin → IsImpure w.owner
  begin_stands e = (begin_stage r.stage r.owns (told w ks b l at vs room d r TxBegin e).stages).0

  end_stage : (s : Stage) → own_at s ≡ d → FitsStage w.functions w.owner r.stages at s TxEnd → (0 < d.0) × Next r.stages at (d.0 - 1, d.1)
  end_stage (plain t) h g =
      let e : t ≡ d.0 = ap (λ (x : ℕ × ℕ). x.0) h in
      (omega (arith, e, g.0), record { stage = plain (t - 1); staged = g.1; owns = ap (λ (x : ℕ × ℕ). (x.0 - 1, x.1)) h })
  end_stage (opened t n by) h g = absurd g
  end_stage (applied t by) h g = absurd g

  pub end_ready : nth b.instrs at ≡ Some TxEnd → (0 < d.0) × Ready w ks b l (at + 1) vs room (d.0 - 1, d.1)
  end_ready e =
      let t = told w ks b l at vs room d r TxEnd e in
      let s = end_stage r.stage r.owns t.stages in
      (s.0, onward (d.0 - 1, d.1) vs r.deep t.fits s.1)

  open_stage : (by : OpenForm) (n : ℕ) (s : Stage) → own_at s ≡ d → FitsStage w.functions w.owner r.stages at s (Open by n) → FormMayStand w.owner d.0 (form.Update (form_of by)) × Next r.stages at (d.0, swaps_of (form_of by))
  open_stage by n (plain t) h g = (subst (λ (x : ℕ × ℕ). FormMayStand w.owner x.0 (form.Update (form_of by))) h g.0, record { stage = opened t n by; staged = g.1; owns = ap (λ (x : ℕ × ℕ). (x.0, swaps_of (form_of by))) h })
  open_stage by n (opened t m o) h g = absurd g
  open_stage by n (applied t o) h g = absurd g

  pub open_stands : (by : OpenForm) (n : ℕ) → nth b.instrs at ≡ Some (Open by n) → (n + l < length vs) × FormMayStand w.owner d.0 (form.Update (form_of by)) × (length vs < room)
  open_stands by n e =
      let t = told w ks b l at vs room d r (Open by n) e in
      (omega (arith, t.fits.0, r.deep), (open_stage by n r.stage r.owns t.stages).0, omega (arith, t.fits.1, r.deep, r.roomy))

  pub open_ready : (by : OpenForm) (n : ℕ) → nth b.instrs at ≡ Some (Open by n) → (v : Value) → Ready w ks b l (at + 1) (put_under n v vs) room (d.0, swaps_of (form_of by))
  open_ready by n e v =
      let t = told w ks b l at vs room d r (Open by n) e in
      let lt : n + l < length vs = omega (arith, t.fits.0, r.deep) in
      let us = put_under n v vs in
      let size : length us ≡ length vs + 1 = length_put_under n v vs (omega (arith, lt)) in
      let same : length vs - l + 1 ≡ length us - l = omega (arith, size, lt) in
      onward (d.0, swaps_of (form_of by)) us (omega (arith, size, lt)) (t.fits.2 ∙ ap Some same) (open_stage by n r.stage r.owns t.stages).1

  -- the callee of a commute takes the ref's value and the further arguments, and is pure
  pub commute_callee : (f : Callee) (n : ℕ) → nth b.instrs at ≡ Some (Open (open_form.Commute f) n) → CalleeTakes r.callable w.functions.parameters f (n + 1) × IsPureCallee w.functions.kinds f
  commute_callee f n e =
      let lawful = r.lawful at (Open (open_form.Commute f) n) e in
      (lawful.0, by_stage r.stage (told w ks b l at vs room d r (Open (open_form.Commute f) n) e).stages lawful.1)
    where
      -- what stands behind the open is the call of its callee
      by_callee : (t : ℕ) (g : Callee) → stage_at r.stages (at + 1) ≡ Some (opened t n (open_form.Commute g)) → IsFollowed w.functions.parameters b.instrs at (open_form.Commute g) n → IsPureCallee w.functions.kinds g
      by_callee t (callee.Core op) h k = tt
      by_callee t (callee.Function g) h k =
          let next = r.staging.fits (at + 1) (opened t n (open_form.Commute (callee.Function g))) h in
          let applies : Applies w.functions.parameters (callee.Function g) (n + 1) k.applied = subst (λ (c : Callee). Applies w.functions.parameters c (n + 1) k.applied) (sym k.named) k.applies in
          let same : next.0 ≡ Call g = some (sym next.1 ∙ k.second) ∙ applies.0 in
          let fits : FitsStage w.functions w.owner r.stages (at + 1) (opened t n (open_form.Commute (callee.Function g))) (Call g) = subst (λ (i : Instr). FitsStage w.functions w.owner r.stages (at + 1) (opened t n (open_form.Commute (callee.Function g))) i) same next.2 in
          fits.1

      by_stage : (s : Stage) → FitsStage w.functions w.owner r.stages at s (Open (open_form.Commute f) n) → IsFollowed w.functions.parameters b.instrs at (open_form.Commute f) n → IsPureCallee w.functions.kinds f
      by_stage (plain t) g k = by_callee t f g.1 k
      by_stage (opened t m o) g k = absurd g
      by_stage (applied t o) g k = absurd g

  -- a value in the place of two
  over_two : (d1 : ℕ × ℕ) (v : Value) → 1 + l < length vs → depth_at r.depths (at + 1) ≡ Some (length vs - l - 1) → Next r.stages at d1 → Ready w ks b l (at + 1) (below 2 vs ++ v ∷ []) room d1
  over_two d1 v lt e n =
      let us = below 2 vs ++ v ∷ [] in
      let size : length us ≡ length vs - 1 = length_push (below 2 vs) v ∙ omega (arith, length_below 2 vs, lt) in
      let same : length vs - l - 1 ≡ length us - l = omega (arith, size, lt) in
      onward d1 us (omega (arith, size, lt)) (e ∙ ap Some same) n

  put_stage : (put : PutForm) (s : Stage) → own_at s ≡ d → FitsStage w.functions w.owner r.stages at s (Put put) → FormMayStand w.owner d.0 (form.Put put) × Next r.stages at d
  put_stage put (plain t) h g = (subst (λ (x : ℕ × ℕ). FormMayStand w.owner x.0 (form.Put put)) h g.0, record { stage = plain t; staged = g.1; owns = h })
  put_stage put (opened t n by) h g = absurd g
  put_stage put (applied t by) h g = absurd g

  pub put_stands : (put : PutForm) → nth b.instrs at ≡ Some (Put put) → (1 + l < length vs) × FormMayStand w.owner d.0 (form.Put put)
  put_stands put e =
      let t = told w ks b l at vs room d r (Put put) e in
      (omega (arith, t.fits.0, r.deep), (put_stage put r.stage r.owns t.stages).0)

  pub put_ready : (put : PutForm) → nth b.instrs at ≡ Some (Put put) → (v : Value) → Ready w ks b l (at + 1) (below 2 vs ++ v ∷ []) room d
  put_ready put e v =
      let t = told w ks b l at vs room d r (Put put) e in
      over_two d v (omega (arith, t.fits.0, r.deep)) t.fits.1 (put_stage put r.stage r.owns t.stages).1

  send_stage : (f : Callee) (n : ℕ) (s : Stage) → own_at s ≡ d → FitsStage w.functions w.owner r.stages at s (Send f n) → FormMayStand w.owner d.0 form.Send × Next r.stages at d
  send_stage f n (plain t) h g = (subst (λ (x : ℕ × ℕ). FormMayStand w.owner x.0 form.Send) h g.0, record { stage = plain t; staged = g.2; owns = h })
  send_stage f n (opened t m by) h g = absurd g
  send_stage f n (applied t by) h g = absurd g

  pub send_stands : (f : Callee) (n : ℕ) → nth b.instrs at ≡ Some (Send f n) → (n + l < length vs) × FormMayStand w.owner d.0 form.Send
  send_stands f n e =
      let t = told w ks b l at vs room d r (Send f n) e in
      (omega (arith, t.fits.0, r.deep), (send_stage f n r.stage r.owns t.stages).0)

  pub send_ready : (f : Callee) (n : ℕ) → nth b.instrs at ≡ Some (Send f n) → (v : Value) → Ready w ks b l (at + 1) (below (n + 1) vs ++ v ∷ []) room d
  send_ready f n e v =
      let t = told w ks b l at vs room d r (Send f n) e in
      let lt : n + l < length vs = omega (arith, t.fits.0, r.deep) in
      let us = below (n + 1) vs ++ v ∷ [] in
      let size : length us ≡ length vs - n = length_push (below (n + 1) vs) v ∙ omega (arith, length_below (n + 1) vs, lt) in
      let same : length vs - l - n ≡ length us - l = omega (arith, size, lt) in
      onward d us (omega (arith, size, lt)) (t.fits.1 ∙ ap Some same) (send_stage f n r.stage r.owns t.stages).1

  close_stage : (by : UpdateForm) (s : Stage) → own_at s ≡ d → FitsStage w.functions w.owner r.stages at s (Close by) → (d.1 ≡ swaps_of by) × Next r.stages at (d.0, 0)
  close_stage by (plain t) h g = absurd g
  close_stage by (opened t n o) h g = absurd g
  close_stage by (applied t o) h g = (sym (ap (λ (x : ℕ × ℕ). x.1) h) ∙ ap swaps_of g.0, record { stage = plain t; staged = g.1; owns = ap (λ (x : ℕ × ℕ). (x.0, 0)) h })

  pub close_stands : (by : UpdateForm) → nth b.instrs at ≡ Some (Close by) → (1 + l < length vs) × (d.1 ≡ swaps_of by)
  close_stands by e =
      let t = told w ks b l at vs room d r (Close by) e in
      (omega (arith, t.fits.0, r.deep), (close_stage by r.stage r.owns t.stages).0)

  pub close_ready : (by : UpdateForm) → nth b.instrs at ≡ Some (Close by) → (v : Value) → Ready w ks b l (at + 1) (below 2 vs ++ v ∷ []) room (d.0, 0)
  close_ready by e v =
      let t = told w ks b l at vs room d r (Close by) e in
      over_two (d.0, 0) v (omega (arith, t.fits.0, r.deep)) t.fits.1 (close_stage by r.stage r.owns t.stages).1

  -- a function of this kind may be called where the body is
  pub record Allows (f : ℕ) : Type 0 where
    pub kind : FunctionKind
    pub is_kind : nth w.functions.kinds f ≡ Some kind
    pub inside : kind.inside ≡ true → MayStand w.owner d.0 Inside
    pub outside : kind.outside ≡ true → MayStand w.owner d.0 Outside
    pub pure : kind.pure ≡ false → IsImpure w.owner
    pub swapping : 0 < d.1 → kind.pure ≡ true

  -- after a call, whatever value it gives, the body goes on; and what is called may be called here
  call_stage : (f : ℕ) (s : Stage) → ((kind : FunctionKind) → nth w.functions.kinds f ≡ Some kind → IsKind kind) → own_at s ≡ d → FitsStage w.functions w.owner r.stages at s (Call f) → Allows f × Next r.stages at d
  call_stage f (plain t) pures h g = (
    record {
      kind = g.0.0;
      is_kind = g.0.1;
      inside = λ e. subst (λ (x : ℕ × ℕ). MayStand w.owner x.0 Inside) h (g.0.2.inside e);
      outside = λ e. subst (λ (x : ℕ × ℕ). MayStand w.owner x.0 Outside) h (g.0.2.outside e);
      pure = g.0.2.pure;
      swapping = λ lt. let e : 0 ≡ d.1 = ap (λ (x : ℕ × ℕ). x.1) h in absurd (omega (arith, lt, e));
    },
    record { stage = plain t; staged = g.1; owns = h },
  )
  call_stage f (opened t m by) pures h g =
      let k = pures g.1.0 g.1.1 g.1.2 in (
        record { kind = g.1.0; is_kind = g.1.1; inside = λ e. let x = sym k.0 ∙ e in cc; outside = λ e. let x = sym k.1 ∙ e in cc; pure = λ e. let x = sym g.1.2 ∙ e in cc; swapping = λ lt. g.1.2 },
        record { stage = applied t (form_of by); staged = g.3; owns = h },
      )
  call_stage f (applied t by) pures h g = absurd g

  -- a call of a function with so many parameters
  pub record Calling (f n : ℕ) : Type 0 where
    pub found : nth w.functions.parameters f ≡ Some n
    pub enough : n + l ≤ length vs
    pub allows : Allows f
    pub goes : (v : Value) → Ready w ks b l (at + 1) (below n vs ++ v ∷ []) room d

  pub call_ready : (f : ℕ) → ((kind : FunctionKind) → nth w.functions.kinds f ≡ Some kind → IsKind kind) → nth b.instrs at ≡ Some (Call f) → (n : ℕ) × Calling f n
  call_ready f pures e =
      let t = told w ks b l at vs room d r (Call f) e in
      let p = t.fits.0 in
      let n = p.parameters in
      let le : n + l ≤ length vs = omega (arith, p.enough, r.deep) in
      let s = call_stage f r.stage pures r.owns t.stages in (
        n,
        record {
          found = p.found;
          enough = le;
          allows = s.0;
          goes = λ v.
              let us = below n vs ++ v ∷ [] in
              let size : length us ≡ length vs - n + 1 = length_push (below n vs) v ∙ omega (arith, length_below n vs) in
              let same : length vs - l - n + 1 ≡ length us - l = omega (arith, size, le) in
              onward d us (omega (arith, size, le)) (t.fits.1 ∙ ap Some same) s.1;
        },
      )

  return_stage : (s : Stage) → own_at s ≡ d → FitsStage w.functions w.owner r.stages at s Return → d ≡ (0, 0)
  return_stage (plain t) h g = sym h ∙ ap (λ (n : ℕ). (n, 0)) g
  return_stage (opened t n by) h g = absurd g
  return_stage (applied t by) h g = absurd g

  -- a return of a function's one value
  pub return_stands : nth b.instrs at ≡ Some Return → Returns w.owner × (l < length vs) × (d ≡ (0, 0))
  return_stands e =
      let t = told w ks b l at vs room d r Return e in
      (t.fits.0, omega (arith, t.fits.1, r.deep), return_stage r.stage r.owns t.stages)
