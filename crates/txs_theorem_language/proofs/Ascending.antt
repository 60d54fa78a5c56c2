-- The bodies of a script's program begin one behind the other.
use Rattle.std.proofs.Common.{◌≡◌, ℕ, suc, ◌<◌, ◌≤◌, inl, inr, List, [], ◌∷◌, ◌++◌, length, Ok, Err, sym, ap, subst, arith}
use Rattle.txs_value_data.specs.declared.fault.Span.{Span}
use Rattle.txs_reader.specs.Script.{Reads}
use Rattle.txs_reader.specs.Tree.{PlainForm as Form, place, trees_of}
use Rattle.txs_tree_meaning.specs.Tree.{PlainFunction, PlainThread, PlainProgram}
use Rattle.txs_resolve_expand.specs.Answers.{◌>>=◌}
use Rattle.txs_resolve_expand.specs.Expressions.{Answer}
use Rattle.txs_resolve_expand.specs.Namespace.{behind_namespace}
use Rattle.txs_resolve.specs.Names.{State, nothing, program, step, steps, Resolves}
use Rattle.txs_check.specs.Order.{Ascend, BeginFrom}
use Rattle.txs_check.specs.Refused.{Body, function_body, thread_body, in_order}
use Rattle.txs_theorem_language.specs.TextOrder.{NestIn}
use Rattle.txs_theorem_language.proofs.Bodies.{Each, Grown, Upto, function_last, thread_last, step_grown, grown_upto, behind_nest, functions_wider, threads_wider}
use Rattle.txs_theorem_language.proofs.Reading.{forms_nest}
use Rattle.txs_theorem_language.proofs.Windows.{nests_on}

-- all of them begin before this offset
abbrev Early : ℕ → List Body → Type 0
Early n [] = Unit {0}
Early n (b ∷ bs) = (b.span.from < n) × Early n bs

early_wider : (m n : ℕ) (bs : List Body) → m ≤ n → Early m bs → Early n bs
early_wider m n [] le h = tt
early_wider m n (b ∷ bs) le h = (omega (arith, le, h.0), early_wider m n bs le h.1)

early_snoc : (n : ℕ) (bs : List Body) (b : Body) → Early n bs → b.span.from < n → Early n (bs ++ b ∷ [])
early_snoc n [] b h lt = (lt, tt)
early_snoc n (c ∷ bs) b h lt = (h.0, early_snoc n bs b h.1 lt)

from_snoc : (n : ℕ) (bs : List Body) (b : Body) → BeginFrom n bs → n ≤ b.span.from → BeginFrom n (bs ++ b ∷ [])
from_snoc n [] b h le = (le, tt)
from_snoc n (c ∷ bs) b h le = (h.0, from_snoc n bs b h.1 le)

ascend_snoc : (n : ℕ) (bs : List Body) (b : Body) → Ascend bs → Early n bs → n ≤ b.span.from → Ascend (bs ++ b ∷ [])
ascend_snoc n [] b h early le = (tt, tt)
ascend_snoc n (c ∷ bs) b h early le = (from_snoc c.span.from bs b h.0 (omega (arith, early.0, le)), ascend_snoc n bs b h.1 early.1 le)

-- what is defined up to this offset ascends
record Rises (n : ℕ) (s : State) : Type 0 where
  upto : Upto n s
  ascend : Ascend (in_order s.functions s.threads)
  early : Early n (in_order s.functions s.threads)

-- of the bodies of a state that has one more
record Last (n : ℕ) (bs : List Body) : Type 0 where
  ascend : Ascend bs
  early : Early n bs

one_more : (n m from : ℕ) (bs : List Body) (b : Body) → Ascend bs → Early n bs → n ≤ from → b.span.from ≡ from → from < m → Last m (bs ++ b ∷ [])
one_more n m from bs b h early le is lt = record {
  ascend = ascend_snoc n bs b h early (omega (arith, le, is));
  early = early_snoc m bs b (early_wider n m bs (omega (arith, le, lt)) early) (omega (arith, is, lt));
}

moved : (n : ℕ) (fs gs : List PlainFunction) (ts us : List PlainThread) → gs ≡ fs → us ≡ ts → Last n (in_order fs ts) → Last n (in_order gs us)
moved n fs gs ts us f t h = subst (λ (x : List PlainFunction). Last n (in_order x us)) (sym f) (subst (λ (x : List PlainThread). Last n (in_order fs x)) (sym t) h)

last_of : (n : ℕ) (at : Span) (s t : State) → n ≤ at.from → at.from < at.to → Rises n s → Grown at s t → Last at.to (in_order t.functions t.threads)
last_of n at s t le lt r (inl g) =
    moved at.to s.functions t.functions s.threads t.threads g.functions g.threads
    (record { ascend = r.ascend; early = early_wider n at.to (in_order s.functions s.threads) (omega (arith, le, lt)) r.early })
last_of n at s t le lt r (inr (inl g)) =
    let begins : g.one.span.from ≡ at.from = ap (λ (p : Span). p.from) g.span in
    moved at.to (s.functions ++ g.one ∷ []) t.functions s.threads t.threads g.functions g.threads
    (subst (Last at.to) (sym (function_last s.functions s.threads g.one (threads_wider n g.one.span.from s.threads (omega (arith, le, begins)) r.upto.threads)))
    (one_more n at.to at.from (in_order s.functions s.threads) (function_body g.one) r.ascend r.early le begins lt))
last_of n at s t le lt r (inr (inr g)) =
    let begins : g.one.span.from ≡ at.from = ap (λ (p : Span). p.from) g.span in
    moved at.to s.functions t.functions (s.threads ++ g.one ∷ []) t.threads g.functions g.threads
    (subst (Last at.to) (sym (thread_last s.functions s.threads g.one (functions_wider n (suc g.one.span.from) s.functions (omega (arith, le, begins)) r.upto.functions)))
    (one_more n at.to at.from (in_order s.functions s.threads) (thread_body g.one) r.ascend r.early le begins lt))

steps_rise : (n hi : ℕ) (s : State) (fs : List Form) → NestIn n hi (trees_of fs) → Rises n s → Each (λ t. Ascend (in_order t.functions t.threads)) (steps s fs)
steps_rise n hi s [] h r = r.ascend
steps_rise n hi s (form ∷ forms) h r = by (λ t k. steps_rise (place form).to hi t forms h.2 k) (step s form) (step_grown s form h.1)
  where
    by : ((t : State) → Rises (place form).to t → Each (λ u. Ascend (in_order u.functions u.threads)) (steps t forms)) → (a : Answer State) → Each (Grown (place form) s) a
        → Each (λ u. Ascend (in_order u.functions u.threads)) (a >>= λ t. steps t forms)
    by rest (Ok t) g =
        let last = last_of n (place form) s t h.0 (nests_on form h.1) r g in
        rest t (record { upto = grown_upto n (place form) s t h.0 (nests_on form h.1) r.upto g; ascend = last.ascend; early = last.early })
    by rest (Err e) g = tt

program_rises : (p : PlainProgram) (a : Answer State) → Each (λ t. Ascend (in_order t.functions t.threads)) a → (a >>= λ s. Ok (program s)) ≡ Ok p → Ascend (in_order p.functions p.threads)
program_rises p (Ok s) h is = subst (λ (q : PlainProgram). Ascend (in_order q.functions q.threads)) (ap (ok_or p) is) h
  where
    ok_or : PlainProgram → Answer PlainProgram → PlainProgram
    ok_or d (Ok q) = q
    ok_or d (Err e) = d
program_rises p (Err e) h is = absurd (subst is_err is tt)
  where
    is_err : Answer PlainProgram → Type 0
    is_err (Ok q) = ⊥
    is_err (Err e) = Unit {0}

pub bodies_ascend : (bytes : List ℕ) (forms : List Form) (p : PlainProgram) → Reads bytes forms → Resolves forms p → Ascend (in_order p.functions p.threads)
bodies_ascend bytes forms p reads resolves =
    let h = behind_nest 0 (length bytes) forms (forms_nest bytes forms reads) in
    program_rises p (steps nothing (behind_namespace forms))
    (steps_rise h.0 (length bytes) nothing (behind_namespace forms) h.1 (record { upto = record { functions = tt; threads = tt }; ascend = tt; early = tt }))
    resolves
