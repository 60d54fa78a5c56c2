use Rattle.std.proofs.Common.{◌≡◌, ◌<◌, ◌≤◌, ◌+◌, ◌-◌, min, ℕ, None, refl, subst, sym, arith, inl}
use Rattle.txs_code_meaning.specs.PlainCode.{PlainCode}
use Rattle.txs_machine_stack.specs.declared.step.Next.{Next}
use Rattle.txs_machine_stack.specs.declared.step.Next.TheVariants as next
use Rattle.txs_machine_actor.specs.Paces.{MayStep, PausesAt}
use Rattle.txs_machine_actor.specs.PlainActor.{PlainActor, Runs, unanswered}
use Rattle.txs_machine_actor.specs.Turns.{Turns, Strides, Finishes}
use Rattle.txs_machine_actor.specs.declared.outcome.Turn.{Turn}
use Rattle.txs_machine_actor.specs.declared.outcome.Turn.TheVariants as turned
use Rattle.txs_machine_actor.proofs.Striding.{Kept, all_kept, over_so, onward, strides_at, strides_ended, strides_on, strides_more, shared, one_fits, more_fit, one_stride}
use Rattle.txs_machine_actor.proofs.Attending.{runs_or}
use Rattle.txs_machine_actor.proofs.Turning.{single}
use Rattle.txs_machine_turn.proofs.pace.stride.Goals as goal

-- what is known where the body's loop has paused
record Paced (d : PlainCode) (a b : PlainActor) (budget count done : ℕ) (n : Next) : Type 0 where
  may : MayStep a
  some : 0 < count
  le : count ≤ budget
  fits : count ≤ a.limit - a.steps
  pauses : PausesAt d a count done n b
  counted : b.steps ≡ a.steps + done
  limited : b.limit ≡ a.limit

paced : (d : PlainCode) (a x b : PlainActor) (budget count done : ℕ) (n m : Next) → MayStep a × (x ≡ a) → 0 < budget → count ≡ min budget (x.limit - x.steps) → PausesAt d x count done n b → (b.steps ≡ x.steps + done) × (b.limit ≡ x.limit) → n ≡ m
    → Paced d a b budget count done m
paced d a x b budget count done n m o some share pauses counted is =
    let may = o.0 in
    let here : count ≡ min budget (a.limit - a.steps) = subst (λ (y : PlainActor). count ≡ min budget (y.limit - y.steps)) o.1 share in
    record {
      may = may;
      some = omega (arith, here, some, may.1);
      le = omega (arith, here);
      fits = omega (arith, here);
      pauses = subst (λ (k : Next). PausesAt d a count done k b) is (subst (λ (y : PlainActor). PausesAt d y count done n b) o.1 pauses);
      counted = subst (λ (y : PlainActor). b.steps ≡ y.steps + done) o.1 counted.0;
      limited = subst (λ (y : PlainActor). b.limit ≡ y.limit) o.1 counted.1;
    }

-- a turn that went
went_on : (d : PlainCode) (a b n : PlainActor) (budget count done : ℕ) (r : Turn) → Paced d a b budget count done next.Leaves → unanswered a ≡ None → r ≡ turned.Went → Turns d b r n → Kept b n 1
went_on d a b n budget count done r v asked went t =
    let k = onward d a b count done v.may asked v.fits v.pauses.0 v.pauses.1 v.pauses.2 in
    all_kept d 1 b n k.may.0 k.answered (single d b n turned.Went (subst (λ (s : Turn). Turns d b s n) went t))

pub returns-in-Some-clause-strides : goal.returns-in-Some-clause-strides
returns-in-Some-clause-strides c =
    subst (λ (t : Turn). Strides c.args.code.now c.args.actor.now c.args.budget 1 t c.over.new.self) (sym c.tell.ensures)
    (over_so c.args.code.now c.args.actor.now c.args.budget c.args.actor.now.outcome c.in-Some.outcome c.over.new.self c.requires.some refl c.requires.answered (runs_or c.args.code.now c.args.actor.now c.requires.lives (c.is_attending.ensures.no c.if-is_attending.false)) c.in-Some.ensures.over).0

pub returns-in-Some-clause-lives : goal.returns-in-Some-clause-lives
returns-in-Some-clause-lives c =
    inl (over_so c.args.code.now c.args.actor.now c.args.budget c.args.actor.now.outcome c.in-Some.outcome c.over.new.self c.requires.some refl c.requires.answered (runs_or c.args.code.now c.args.actor.now c.requires.lives (c.is_attending.ensures.no c.if-is_attending.false)) c.in-Some.ensures.over).1

pub returns-in-At-clause-strides : goal.returns-in-At-clause-strides
returns-in-At-clause-strides c =
    let a = c.args.actor.now in
    let d = c.args.code.now in
    let count = c.share-count.result in
    let p = c.advance-pause.result in
    let b = c.advance-pause.new.self in
    let v = paced d a c.over.new.self b c.args.budget count p.done p.next (next.At c.in-At.field-0) (c.in_default.ensures.more refl) c.requires.some c.share-count.ensures c.advance-pause.ensures.pauses c.advance-pause.ensures.counted c.in-At.is in
    subst (λ (t : Turn). Strides d a c.args.budget p.done t b) (sym c.requires.went) (strides_at d a b c.args.budget count p.done c.in-At.field-0 v.some v.le v.pauses).0

pub returns-in-At-clause-lives : goal.returns-in-At-clause-lives
returns-in-At-clause-lives c =
    let a = c.args.actor.now in
    let d = c.args.code.now in
    let count = c.share-count.result in
    let p = c.advance-pause.result in
    let b = c.advance-pause.new.self in
    let v = paced d a c.over.new.self b c.args.budget count p.done p.next (next.At c.in-At.field-0) (c.in_default.ensures.more refl) c.requires.some c.share-count.ensures c.advance-pause.ensures.pauses c.advance-pause.ensures.counted c.in-At.is in
    inl (strides_at d a b c.args.budget count p.done c.in-At.field-0 v.some v.le v.pauses).1

pub returns-in-Ended-clause-strides : goal.returns-in-Ended-clause-strides
returns-in-Ended-clause-strides c =
    let a = c.args.actor.now in
    let d = c.args.code.now in
    let count = c.share-count.result in
    let p = c.advance-pause.result in
    let b = c.advance-pause.new.self in
    let v = paced d a c.over.new.self b c.args.budget count p.done p.next (next.Ended c.in-Ended.outcome) (c.in_default.ensures.more refl) c.requires.some c.share-count.ensures c.advance-pause.ensures.pauses c.advance-pause.ensures.counted c.in-Ended.is in
    let h = subst (λ (x : PlainActor). Finishes x c.in-Ended.outcome c.finish.new.turn c.finish.new.self) c.count.ensures c.finish.ensures in
    (strides_ended d a b c.args.budget count p.done c.in-Ended.outcome c.finish.new.turn c.finish.new.self v.le v.pauses h).0

pub returns-in-Ended-clause-lives : goal.returns-in-Ended-clause-lives
returns-in-Ended-clause-lives c =
    let a = c.args.actor.now in
    let d = c.args.code.now in
    let count = c.share-count.result in
    let p = c.advance-pause.result in
    let b = c.advance-pause.new.self in
    let v = paced d a c.over.new.self b c.args.budget count p.done p.next (next.Ended c.in-Ended.outcome) (c.in_default.ensures.more refl) c.requires.some c.share-count.ensures c.advance-pause.ensures.pauses c.advance-pause.ensures.counted c.in-Ended.is in
    let h = subst (λ (x : PlainActor). Finishes x c.in-Ended.outcome c.finish.new.turn c.finish.new.self) c.count.ensures c.finish.ensures in
    inl (strides_ended d a b c.args.budget count p.done c.in-Ended.outcome c.finish.new.turn c.finish.new.self v.le v.pauses h).1

pub count-requires : goal.count-requires
count-requires c =
    let a = c.args.actor.now in
    let d = c.args.code.now in
    let count = c.share-count.result in
    let p = c.advance-pause.result in
    let b = c.advance-pause.new.self in
    let v = paced d a c.over.new.self b c.args.budget count p.done p.next (next.Ended c.in-Ended.outcome) (c.in_default.ensures.more refl) c.requires.some c.share-count.ensures c.advance-pause.ensures.pauses c.advance-pause.ensures.counted c.in-Ended.is in
    let e = v.counted in
    let f = v.limited in
    let fits = v.fits in
    let less = v.pauses.0 in
    let small = v.may.2 in
    (omega (arith, e, f, fits, less), omega (arith, f, small))

pub depart-hopped-requires-clause-answered : goal.depart-hopped-requires-clause-answered
depart-hopped-requires-clause-answered c =
    let a = c.args.actor.now in
    let d = c.args.code.now in
    let count = c.share-count.result in
    let p = c.advance-pause.result in
    let b = c.advance-pause.new.self in
    let v = paced d a c.over.new.self b c.args.budget count p.done p.next next.Leaves (c.in_default.ensures.more refl) c.requires.some c.share-count.ensures c.advance-pause.ensures.pauses c.advance-pause.ensures.counted c.in-Leaves.is in
    (onward d a b count p.done v.may c.requires.answered v.fits v.pauses.0 v.pauses.1 v.pauses.2).answered

pub depart-hopped-requires-clause-may : goal.depart-hopped-requires-clause-may
depart-hopped-requires-clause-may c =
    let a = c.args.actor.now in
    let d = c.args.code.now in
    let count = c.share-count.result in
    let p = c.advance-pause.result in
    let b = c.advance-pause.new.self in
    let v = paced d a c.over.new.self b c.args.budget count p.done p.next next.Leaves (c.in_default.ensures.more refl) c.requires.some c.share-count.ensures c.advance-pause.ensures.pauses c.advance-pause.ensures.counted c.in-Leaves.is in
    (onward d a b count p.done v.may c.requires.answered v.fits v.pauses.0 v.pauses.1 v.pauses.2).may

pub returns-then-went-clause-strides : goal.returns-then-went-clause-strides
returns-then-went-clause-strides c =
    let a = c.args.actor.now in
    let d = c.args.code.now in
    let count = c.share-count.result in
    let p = c.advance-pause.result in
    let b = c.advance-pause.new.self in
    let v = paced d a c.over.new.self b c.args.budget count p.done p.next next.Leaves (c.in_default.ensures.more refl) c.requires.some c.share-count.ensures c.advance-pause.ensures.pauses c.advance-pause.ensures.counted c.in-Leaves.is in
    let n = c.depart-hopped.new.actor in
    let went : c.depart-hopped.new.turn ≡ turned.Went = c.went.ensures.went c.if-went.true in
    let t : Turns d b turned.Went n = subst (λ (r : Turn). Turns d b r n) went c.depart-hopped.ensures.turns in
    let s = strides_on d a b n c.args.budget count p.done turned.Went v.le v.pauses.0 v.pauses.1 t in
    subst (λ (r : Turn). Strides d a c.args.budget (p.done + 1 + c.quicken.result) r c.quicken.new.self) (sym went)
    (strides_more d a n c.quicken.new.self c.args.budget count p.done c.quicken.result turned.Went v.le v.pauses.0 c.quicken.ensures.within s.turns c.quicken.ensures.turns)

pub quicken-requires-clause-answered : goal.quicken-requires-clause-answered
quicken-requires-clause-answered c =
    let a = c.args.actor.now in
    let d = c.args.code.now in
    let count = c.share-count.result in
    let p = c.advance-pause.result in
    let b = c.advance-pause.new.self in
    let v = paced d a c.over.new.self b c.args.budget count p.done p.next next.Leaves (c.in_default.ensures.more refl) c.requires.some c.share-count.ensures c.advance-pause.ensures.pauses c.advance-pause.ensures.counted c.in-Leaves.is in
    let k = went_on d a b c.depart-hopped.new.actor c.args.budget count p.done c.depart-hopped.new.turn v c.requires.answered (c.went.ensures.went c.if-went.true) c.depart-hopped.ensures.turns in
    k.unasked

pub quicken-requires-clause-unended : goal.quicken-requires-clause-unended
quicken-requires-clause-unended c =
    let a = c.args.actor.now in
    let d = c.args.code.now in
    let count = c.share-count.result in
    let p = c.advance-pause.result in
    let b = c.advance-pause.new.self in
    let v = paced d a c.over.new.self b c.args.budget count p.done p.next next.Leaves (c.in_default.ensures.more refl) c.requires.some c.share-count.ensures c.advance-pause.ensures.pauses c.advance-pause.ensures.counted c.in-Leaves.is in
    let k = went_on d a b c.depart-hopped.new.actor c.args.budget count p.done c.depart-hopped.new.turn v c.requires.answered (c.went.ensures.went c.if-went.true) c.depart-hopped.ensures.turns in
    k.unended

pub quicken-requires-clause-fits : goal.quicken-requires-clause-fits
quicken-requires-clause-fits c =
    let a = c.args.actor.now in
    let d = c.args.code.now in
    let count = c.share-count.result in
    let p = c.advance-pause.result in
    let b = c.advance-pause.new.self in
    let v = paced d a c.over.new.self b c.args.budget count p.done p.next next.Leaves (c.in_default.ensures.more refl) c.requires.some c.share-count.ensures c.advance-pause.ensures.pauses c.advance-pause.ensures.counted c.in-Leaves.is in
    let k = went_on d a b c.depart-hopped.new.actor c.args.budget count p.done c.depart-hopped.new.turn v c.requires.answered (c.went.ensures.went c.if-went.true) c.depart-hopped.ensures.turns in
    let counted = v.counted in
    let limited = v.limited in
    let counted_on = k.counted in
    let limited_on = k.limited in
    let fits = v.fits in
    let less = v.pauses.0 in
    omega (arith, counted, limited, counted_on, limited_on, fits, less)

pub quicken-requires-clause-small : goal.quicken-requires-clause-small
quicken-requires-clause-small c =
    let a = c.args.actor.now in
    let d = c.args.code.now in
    let count = c.share-count.result in
    let p = c.advance-pause.result in
    let b = c.advance-pause.new.self in
    let v = paced d a c.over.new.self b c.args.budget count p.done p.next next.Leaves (c.in_default.ensures.more refl) c.requires.some c.share-count.ensures c.advance-pause.ensures.pauses c.advance-pause.ensures.counted c.in-Leaves.is in
    let k = went_on d a b c.depart-hopped.new.actor c.args.budget count p.done c.depart-hopped.new.turn v c.requires.answered (c.went.ensures.went c.if-went.true) c.depart-hopped.ensures.turns in
    let limited = v.limited in
    let limited_on = k.limited in
    let small = v.may.2 in
    omega (arith, limited, limited_on, small)

pub returns-then-not-hopped-clause-strides : goal.returns-then-not-hopped-clause-strides
returns-then-not-hopped-clause-strides c =
    let a = c.args.actor.now in
    let d = c.args.code.now in
    let count = c.share-count.result in
    let p = c.advance-pause.result in
    let b = c.advance-pause.new.self in
    let v = paced d a c.over.new.self b c.args.budget count p.done p.next next.Leaves (c.in_default.ensures.more refl) c.requires.some c.share-count.ensures c.advance-pause.ensures.pauses c.advance-pause.ensures.counted c.in-Leaves.is in
    strides_on d a b c.depart-hopped.new.actor c.args.budget count p.done c.depart-hopped.new.turn v.le v.pauses.0 v.pauses.1 c.depart-hopped.ensures.turns

pub returns-else-went-clause-strides : goal.returns-else-went-clause-strides
returns-else-went-clause-strides c =
    let a = c.args.actor.now in
    let d = c.args.code.now in
    let count = c.share-count.result in
    let p = c.advance-pause.result in
    let b = c.advance-pause.new.self in
    let v = paced d a c.over.new.self b c.args.budget count p.done p.next next.Leaves (c.in_default.ensures.more refl) c.requires.some c.share-count.ensures c.advance-pause.ensures.pauses c.advance-pause.ensures.counted c.in-Leaves.is in
    strides_on d a b c.depart-hopped.new.actor c.args.budget count p.done c.depart-hopped.new.turn v.le v.pauses.0 v.pauses.1 c.depart-hopped.ensures.turns

pub come_home-requires-clause-answered : goal.come_home-requires-clause-answered
come_home-requires-clause-answered c =
    let a = c.args.actor.now in
    let d = c.args.code.now in
    let count = c.share-count.result in
    let p = c.advance-pause.result in
    let b = c.advance-pause.new.self in
    let v = paced d a c.over.new.self b c.args.budget count p.done p.next next.Leaves (c.in_default.ensures.more refl) c.requires.some c.share-count.ensures c.advance-pause.ensures.pauses c.advance-pause.ensures.counted c.in-Leaves.is in
    (onward d a b count p.done v.may c.requires.answered v.fits v.pauses.0 v.pauses.1 v.pauses.2).answered

pub come_home-requires-clause-may : goal.come_home-requires-clause-may
come_home-requires-clause-may c =
    let a = c.args.actor.now in
    let d = c.args.code.now in
    let count = c.share-count.result in
    let p = c.advance-pause.result in
    let b = c.advance-pause.new.self in
    let v = paced d a c.over.new.self b c.args.budget count p.done p.next next.Leaves (c.in_default.ensures.more refl) c.requires.some c.share-count.ensures c.advance-pause.ensures.pauses c.advance-pause.ensures.counted c.in-Leaves.is in
    (onward d a b count p.done v.may c.requires.answered v.fits v.pauses.0 v.pauses.1 v.pauses.2).may

pub returns-then-hands_over-clause-strides : goal.returns-then-hands_over-clause-strides
returns-then-hands_over-clause-strides c =
    let a = c.args.actor.now in
    let d = c.args.code.now in
    let count = c.share-count.result in
    let p = c.advance-pause.result in
    let b = c.advance-pause.new.self in
    let v = paced d a c.over.new.self b c.args.budget count p.done p.next next.Leaves (c.in_default.ensures.more refl) c.requires.some c.share-count.ensures c.advance-pause.ensures.pauses c.advance-pause.ensures.counted c.in-Leaves.is in
    subst (λ (r : Turn). Strides d a c.args.budget (p.done + 1) r c.come_home.new.actor) (sym c.requires.went) (strides_on d a b c.come_home.new.actor c.args.budget count p.done turned.Went v.le v.pauses.0 v.pauses.1 c.come_home.ensures.turns)

pub advance-pause-requires-clause-runs : goal.advance-pause-requires-clause-runs
advance-pause-requires-clause-runs c = subst (λ (x : PlainActor). Runs c.args.code.now x) (sym (c.in_default.ensures.more refl).1) (runs_or c.args.code.now c.args.actor.now c.requires.lives (c.is_attending.ensures.no c.if-is_attending.false))

pub advance-pause-requires-clause-answered : goal.advance-pause-requires-clause-answered
advance-pause-requires-clause-answered c = subst (λ (x : PlainActor). unanswered x ≡ None) (sym (c.in_default.ensures.more refl).1) c.requires.answered

pub advance-pause-requires-clause-may : goal.advance-pause-requires-clause-may
advance-pause-requires-clause-may c = let o = c.in_default.ensures.more refl in subst (λ (x : PlainActor). MayStep x) (sym o.1) o.0

pub advance-pause-requires-clause-fits : goal.advance-pause-requires-clause-fits
advance-pause-requires-clause-fits c = shared c.share-count.result c.args.budget (c.over.new.self.limit - c.over.new.self.steps) c.share-count.ensures

pub overflow_add-result : goal.overflow_add-result
overflow_add-result c =
    let a = c.args.actor.now in
    let d = c.args.code.now in
    let count = c.share-count.result in
    let p = c.advance-pause.result in
    let b = c.advance-pause.new.self in
    let v = paced d a c.over.new.self b c.args.budget count p.done p.next (next.Ended c.in-Ended.outcome) (c.in_default.ensures.more refl) c.requires.some c.share-count.ensures c.advance-pause.ensures.pauses c.advance-pause.ensures.counted c.in-Ended.is in
    one_fits p.done count c.args.budget v.pauses.0 v.le c.ranges.budget

pub hands_over-requires-clause-runs : goal.hands_over-requires-clause-runs
hands_over-requires-clause-runs c =
    let a = c.args.actor.now in
    let d = c.args.code.now in
    let count = c.share-count.result in
    let p = c.advance-pause.result in
    let b = c.advance-pause.new.self in
    let v = paced d a c.over.new.self b c.args.budget count p.done p.next next.Leaves (c.in_default.ensures.more refl) c.requires.some c.share-count.ensures c.advance-pause.ensures.pauses c.advance-pause.ensures.counted c.in-Leaves.is in
    v.pauses.2

pub come_home-requires-clause-runs : goal.come_home-requires-clause-runs
come_home-requires-clause-runs c =
    let a = c.args.actor.now in
    let d = c.args.code.now in
    let count = c.share-count.result in
    let p = c.advance-pause.result in
    let b = c.advance-pause.new.self in
    let v = paced d a c.over.new.self b c.args.budget count p.done p.next next.Leaves (c.in_default.ensures.more refl) c.requires.some c.share-count.ensures c.advance-pause.ensures.pauses c.advance-pause.ensures.counted c.in-Leaves.is in
    v.pauses.2

pub depart-hopped-requires-clause-runs : goal.depart-hopped-requires-clause-runs
depart-hopped-requires-clause-runs c =
    let a = c.args.actor.now in
    let d = c.args.code.now in
    let count = c.share-count.result in
    let p = c.advance-pause.result in
    let b = c.advance-pause.new.self in
    let v = paced d a c.over.new.self b c.args.budget count p.done p.next next.Leaves (c.in_default.ensures.more refl) c.requires.some c.share-count.ensures c.advance-pause.ensures.pauses c.advance-pause.ensures.counted c.in-Leaves.is in
    v.pauses.2

pub depart-hopped-requires-clause-leaves : goal.depart-hopped-requires-clause-leaves
depart-hopped-requires-clause-leaves c =
    let a = c.args.actor.now in
    let d = c.args.code.now in
    let count = c.share-count.result in
    let p = c.advance-pause.result in
    let b = c.advance-pause.new.self in
    let v = paced d a c.over.new.self b c.args.budget count p.done p.next next.Leaves (c.in_default.ensures.more refl) c.requires.some c.share-count.ensures c.advance-pause.ensures.pauses c.advance-pause.ensures.counted c.in-Leaves.is in
    v.pauses.3

pub hands_over-requires-clause-answered : goal.hands_over-requires-clause-answered
hands_over-requires-clause-answered c =
    let a = c.args.actor.now in
    let d = c.args.code.now in
    let count = c.share-count.result in
    let p = c.advance-pause.result in
    let b = c.advance-pause.new.self in
    let v = paced d a c.over.new.self b c.args.budget count p.done p.next next.Leaves (c.in_default.ensures.more refl) c.requires.some c.share-count.ensures c.advance-pause.ensures.pauses c.advance-pause.ensures.counted c.in-Leaves.is in
    (onward d a b count p.done v.may c.requires.answered v.fits v.pauses.0 v.pauses.1 v.pauses.2).answered

pub hands_over-requires-clause-unended : goal.hands_over-requires-clause-unended
hands_over-requires-clause-unended c =
    let a = c.args.actor.now in
    let d = c.args.code.now in
    let count = c.share-count.result in
    let p = c.advance-pause.result in
    let b = c.advance-pause.new.self in
    let v = paced d a c.over.new.self b c.args.budget count p.done p.next next.Leaves (c.in_default.ensures.more refl) c.requires.some c.share-count.ensures c.advance-pause.ensures.pauses c.advance-pause.ensures.counted c.in-Leaves.is in
    (onward d a b count p.done v.may c.requires.answered v.fits v.pauses.0 v.pauses.1 v.pauses.2).may.0

pub come_home-requires-clause-hands_over : goal.come_home-requires-clause-hands_over
come_home-requires-clause-hands_over c = c.hands_over.ensures.yes c.if-hands_over.true

pub depart-hopped-requires-clause-stays : goal.depart-hopped-requires-clause-stays
depart-hopped-requires-clause-stays c = c.hands_over.ensures.no c.if-hands_over.false

pub quicken-requires-clause-runs : goal.quicken-requires-clause-runs
quicken-requires-clause-runs c = c.depart-hopped.ensures.runs

pub overflow_add-result-then-hands_over : goal.overflow_add-result-then-hands_over
overflow_add-result-then-hands_over c =
    let a = c.args.actor.now in
    let d = c.args.code.now in
    let count = c.share-count.result in
    let p = c.advance-pause.result in
    let b = c.advance-pause.new.self in
    let v = paced d a c.over.new.self b c.args.budget count p.done p.next next.Leaves (c.in_default.ensures.more refl) c.requires.some c.share-count.ensures c.advance-pause.ensures.pauses c.advance-pause.ensures.counted c.in-Leaves.is in
    one_fits p.done count c.args.budget v.pauses.0 v.le c.ranges.budget

pub overflow_add-done : goal.overflow_add-done
overflow_add-done c =
    let a = c.args.actor.now in
    let d = c.args.code.now in
    let count = c.share-count.result in
    let p = c.advance-pause.result in
    let b = c.advance-pause.new.self in
    let v = paced d a c.over.new.self b c.args.budget count p.done p.next next.Leaves (c.in_default.ensures.more refl) c.requires.some c.share-count.ensures c.advance-pause.ensures.pauses c.advance-pause.ensures.counted c.in-Leaves.is in
    one_fits p.done count c.args.budget v.pauses.0 v.le c.ranges.budget

pub overflow_add-result-then-went : goal.overflow_add-result-then-went
overflow_add-result-then-went c =
    let a = c.args.actor.now in
    let d = c.args.code.now in
    let count = c.share-count.result in
    let p = c.advance-pause.result in
    let b = c.advance-pause.new.self in
    let v = paced d a c.over.new.self b c.args.budget count p.done p.next next.Leaves (c.in_default.ensures.more refl) c.requires.some c.share-count.ensures c.advance-pause.ensures.pauses c.advance-pause.ensures.counted c.in-Leaves.is in
    more_fit p.done c.quicken.result count c.args.budget v.pauses.0 c.quicken.ensures.within v.le c.ranges.budget

pub returns-then-went-clause-lives : goal.returns-then-went-clause-lives
returns-then-went-clause-lives c = inl c.quicken.ensures.runs

pub returns-then-not-hopped-clause-lives : goal.returns-then-not-hopped-clause-lives
returns-then-not-hopped-clause-lives c = inl c.depart-hopped.ensures.runs

pub returns-else-went-clause-lives : goal.returns-else-went-clause-lives
returns-else-went-clause-lives c = inl c.depart-hopped.ensures.runs

pub returns-then-hands_over-clause-lives : goal.returns-then-hands_over-clause-lives
returns-then-hands_over-clause-lives c = c.come_home.ensures.lives

-- in an agent's own body
pub attend-requires-clause-attending : goal.attend-requires-clause-attending
attend-requires-clause-attending c = c.is_attending.ensures.yes c.if-is_attending.true

pub returns-then-is_attending-clause-strides : goal.returns-then-is_attending-clause-strides
returns-then-is_attending-clause-strides c = one_stride c.args.code.now c.args.actor.now c.attend.new.actor c.args.budget c.attend.new.turn c.requires.some c.attend.ensures.turns

pub returns-then-is_attending-clause-lives : goal.returns-then-is_attending-clause-lives
returns-then-is_attending-clause-lives c = c.attend.ensures.lives
