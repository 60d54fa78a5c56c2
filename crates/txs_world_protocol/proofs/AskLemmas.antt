-- The test for equal asks answers true exactly for equal asks.
use Rattle.std.proofs.Common.{◌≡◌, ℕ, Bool, true, List, [], ◌∷◌, get_or, Option, Some, None, Result, Ok, Err, refl, sym, ap, ◌∙◌, ◌&&◌, ◌==◌}
use Rattle.std.proofs.lemmas.Bool.{false≢true}
use Rattle.txs_world_protocol.specs.Ask.{Writes, same_value, same_cell, same_writes, same_place, same_cells, same_values, same_span, same_callee, same_action, same_actions, same_fault, same_new, same_ask}
use Rattle.txs_value_data.specs.Faults.{fault_number}
use Rattle.txs_value_data.specs.Operations.{op_number}
use Rattle.txs_value_data.specs.View.{plain_of}
use Rattle.txs_value_data.proofs.ItemsLemmas.{plain_of-one}
use Rattle.txs_value_data.proofs.OperationsLemmas.{op_number-differs}
use Rattle.txs_value_data.proofs.SameLemmas.{same_plain-sound, same_plain-itself, and_both, numbers, number-itself, cells, same_cell-itself}
use Rattle.txs_value_cell.specs.declared.action.Action.{Action}
use Rattle.txs_value_data.specs.declared.fault.Fault.{Fault}
use Rattle.txs_value_data.specs.declared.fault.FaultKind.{FaultKind}
use Rattle.txs_value_data.specs.declared.fault.FaultKind.TheVariants.{Overflow, DivideByZero, NotANumber, NotAVector, IndexOut, PopEmpty, NotACell, NotARef, NotAnAtom, NotAnAgent, OutsideOnly, SetAfterCommute, RetryLimit, AgentFailed, InvalidState, TooDeep, TooLong}
use Rattle.txs_value_data.specs.declared.fault.Span.{Span}
use Rattle.txs_value_data.specs.declared.op.Callee.{Callee}
use Rattle.txs_value_data.specs.declared.op.Callee.TheVariants.{Core, Function}
use Rattle.txs_value_data.specs.declared.value.CellId.{CellId}
use Rattle.txs_value_data.specs.declared.value.Value.{Value}
use Rattle.txs_world_protocol.specs.declared.ask.Ask.{Ask}
use Rattle.txs_world_protocol.specs.declared.ask.Ask.TheVariants.{Begin, Look, View, Commit, Fail, Peek, Send, Take, Finish, OpenAt, CloseAt, Broke}

pub same_value-sound : (v w : Value) → same_value v w ≡ true → v ≡ w
same_value-sound v w h = plain_of-one v w (same_plain-sound (plain_of v) (plain_of w) h)

pub same_value-itself : (v : Value) → same_value v v ≡ true
same_value-itself v = same_plain-itself (plain_of v)

pub same_cell-sound : (c d : CellId) → same_cell c d ≡ true → c ≡ d
same_cell-sound c d h = cells c d h

and_true : (a b : Bool) → a ≡ true → b ≡ true → (a && b) ≡ true
and_true a b p q = rw (p, q) refl

pub same_writes-sound : (ws xs : Writes) → same_writes ws xs ≡ true → ws ≡ xs
same_writes-sound [] [] h = refl
same_writes-sound [] (x ∷ xs) h = absurd (false≢true h)
same_writes-sound (w ∷ ws) [] h = absurd (false≢true h)
same_writes-sound (w ∷ ws) (x ∷ xs) h =
    let both = and_both (same_cell w.0 x.0) (same_value w.1 x.1 && same_writes ws xs) h in
    let rest = and_both (same_value w.1 x.1) (same_writes ws xs) both.1 in
    λ i. (same_cell-sound w.0 x.0 both.0 i, same_value-sound w.1 x.1 rest.0 i) ∷ same_writes-sound ws xs rest.1 i

pub same_writes-itself : (ws : Writes) → same_writes ws ws ≡ true
same_writes-itself [] = refl
same_writes-itself (w ∷ ws) =
    and_true _ _ (same_cell-itself w.0) (and_true _ _ (same_value-itself w.1) (same_writes-itself ws))

same_place-sound : (a b : Option ℕ) → same_place a b ≡ true → a ≡ b
same_place-sound None None h = refl
same_place-sound None (Some q) h = absurd (false≢true h)
same_place-sound (Some p) None h = absurd (false≢true h)
same_place-sound (Some p) (Some q) h = ap Some (numbers p q h)

same_place-itself : (a : Option ℕ) → same_place a a ≡ true
same_place-itself None = refl
same_place-itself (Some p) = number-itself p

same_cells-sound : (cs ds : List CellId) → same_cells cs ds ≡ true → cs ≡ ds
same_cells-sound [] [] h = refl
same_cells-sound [] (d ∷ ds) h = absurd (false≢true h)
same_cells-sound (c ∷ cs) [] h = absurd (false≢true h)
same_cells-sound (c ∷ cs) (d ∷ ds) h =
    let both = and_both (same_cell c d) (same_cells cs ds) h in
    λ i. same_cell-sound c d both.0 i ∷ same_cells-sound cs ds both.1 i

same_cells-itself : (cs : List CellId) → same_cells cs cs ≡ true
same_cells-itself [] = refl
same_cells-itself (c ∷ cs) = and_true _ _ (same_cell-itself c) (same_cells-itself cs)

pub same_values-sound : (vs ws : List Value) → same_values vs ws ≡ true → vs ≡ ws
same_values-sound [] [] h = refl
same_values-sound [] (w ∷ ws) h = absurd (false≢true h)
same_values-sound (v ∷ vs) [] h = absurd (false≢true h)
same_values-sound (v ∷ vs) (w ∷ ws) h =
    let both = and_both (same_value v w) (same_values vs ws) h in
    λ i. same_value-sound v w both.0 i ∷ same_values-sound vs ws both.1 i

pub same_values-itself : (vs : List Value) → same_values vs vs ≡ true
same_values-itself [] = refl
same_values-itself (v ∷ vs) = and_true _ _ (same_value-itself v) (same_values-itself vs)

pub same_span-sound : (a b : Span) → same_span a b ≡ true → a ≡ b
same_span-sound a b h =
    let both = and_both (a.from == b.from) (a.to == b.to) h in
    λ i. record { from = numbers a.from b.from both.0 i; to = numbers a.to b.to both.1 i }

pub same_span-itself : (a : Span) → same_span a a ≡ true
same_span-itself a = and_true _ _ (number-itself a.from) (number-itself a.to)

pub same_callee-sound : (a b : Callee) → same_callee a b ≡ true → a ≡ b
same_callee-sound (Core a) (Core b) h = ap Core (op_number-differs a b (numbers (op_number a) (op_number b) h))
same_callee-sound (Core a) (Function g) h = absurd (false≢true h)
same_callee-sound (Function f) (Core b) h = absurd (false≢true h)
same_callee-sound (Function f) (Function g) h = ap Function (numbers f g h)

pub same_callee-itself : (a : Callee) → same_callee a a ≡ true
same_callee-itself (Core a) = number-itself (op_number a)
same_callee-itself (Function f) = number-itself f

pub same_action-sound : (a b : Action) → same_action a b ≡ true → a ≡ b
same_action-sound a b h =
    let one = and_both (same_cell a.agent b.agent) (same_callee a.callee b.callee && (same_values a.args b.args && same_span a.span b.span)) h in
    let two = and_both (same_callee a.callee b.callee) (same_values a.args b.args && same_span a.span b.span) one.1 in
    let three = and_both (same_values a.args b.args) (same_span a.span b.span) two.1 in
    λ i. record {
      agent = same_cell-sound a.agent b.agent one.0 i;
      callee = same_callee-sound a.callee b.callee two.0 i;
      args = same_values-sound a.args b.args three.0 i;
      span = same_span-sound a.span b.span three.1 i;
    }

pub same_action-itself : (a : Action) → same_action a a ≡ true
same_action-itself a =
    and_true _ _ (same_cell-itself a.agent) (and_true _ _ (same_callee-itself a.callee) (and_true _ _ (same_values-itself a.args) (same_span-itself a.span)))

pub same_actions-sound : (xs ys : List Action) → same_actions xs ys ≡ true → xs ≡ ys
same_actions-sound [] [] h = refl
same_actions-sound [] (y ∷ ys) h = absurd (false≢true h)
same_actions-sound (x ∷ xs) [] h = absurd (false≢true h)
same_actions-sound (x ∷ xs) (y ∷ ys) h =
    let both = and_both (same_action x y) (same_actions xs ys) h in
    λ i. same_action-sound x y both.0 i ∷ same_actions-sound xs ys both.1 i

pub same_actions-itself : (xs : List Action) → same_actions xs xs ≡ true
same_actions-itself [] = refl
same_actions-itself (x ∷ xs) = and_true _ _ (same_action-itself x) (same_actions-itself xs)

-- the kinds of faults by their numbers
abbrev kinds : List FaultKind
kinds = Overflow ∷ DivideByZero ∷ NotANumber ∷ NotAVector ∷ IndexOut ∷ PopEmpty ∷ NotACell ∷ NotARef ∷ NotAnAtom ∷ NotAnAgent ∷ OutsideOnly ∷ SetAfterCommute ∷ RetryLimit ∷ AgentFailed ∷ InvalidState ∷ TooDeep ∷ TooLong ∷ []

at_number : (k d : FaultKind) → k ≡ get_or kinds (fault_number k) d
at_number Overflow d = refl
at_number DivideByZero d = refl
at_number NotANumber d = refl
at_number NotAVector d = refl
at_number IndexOut d = refl
at_number PopEmpty d = refl
at_number NotACell d = refl
at_number NotARef d = refl
at_number NotAnAtom d = refl
at_number NotAnAgent d = refl
at_number OutsideOnly d = refl
at_number SetAfterCommute d = refl
at_number RetryLimit d = refl
at_number AgentFailed d = refl
at_number InvalidState d = refl
at_number TooDeep d = refl
at_number TooLong d = refl

same_kind_of_fault : (a b : FaultKind) → fault_number a ≡ fault_number b → a ≡ b
same_kind_of_fault a b e = at_number a Overflow ∙ ap (λ n. get_or kinds n Overflow) e ∙ sym (at_number b Overflow)

pub same_fault-sound : (f g : Fault) → same_fault f g ≡ true → f ≡ g
same_fault-sound f g h =
    let both = and_both (fault_number f.kind == fault_number g.kind) (same_span f.span g.span) h in
    λ i. record { kind = same_kind_of_fault f.kind g.kind (numbers (fault_number f.kind) (fault_number g.kind) both.0) i; span = same_span-sound f.span g.span both.1 i }

pub same_fault-itself : (f : Fault) → same_fault f f ≡ true
same_fault-itself f = and_true _ _ (number-itself (fault_number f.kind)) (same_span-itself f.span)

pub same_new-sound : (a b : Result Value Fault) → same_new a b ≡ true → a ≡ b
same_new-sound (Ok v) (Ok w) h = ap Ok (same_value-sound v w h)
same_new-sound (Ok v) (Err g) h = absurd (false≢true h)
same_new-sound (Err f) (Ok w) h = absurd (false≢true h)
same_new-sound (Err f) (Err g) h = ap Err (same_fault-sound f g h)

pub same_new-itself : (a : Result Value Fault) → same_new a a ≡ true
same_new-itself (Ok v) = same_value-itself v
same_new-itself (Err f) = same_fault-itself f

pub same_ask-sound : (a b : Ask) → same_ask a b ≡ true → a ≡ b
same_ask-sound Begin Begin h = refl
same_ask-sound (Look c p) (Look d q) h =
    let both = and_both (same_cell c d) (p == q) h in
    λ i. Look (same_cell-sound c d both.0 i) (numbers p q both.1 i)
same_ask-sound (View cs) (View ds) h = ap View (same_cells-sound cs ds h)
same_ask-sound (Commit p ws es q cs xs) (Commit p1 ws1 es1 q1 cs1 xs1) h =
    let one = and_both (p == p1) (same_writes ws ws1 && (same_cells es es1 && (q == q1 && (same_writes cs cs1 && same_actions xs xs1)))) h in
    let two = and_both (same_writes ws ws1) (same_cells es es1 && (q == q1 && (same_writes cs cs1 && same_actions xs xs1))) one.1 in
    let three = and_both (same_cells es es1) (q == q1 && (same_writes cs cs1 && same_actions xs xs1)) two.1 in
    let four = and_both (q == q1) (same_writes cs cs1 && same_actions xs xs1) three.1 in
    let five = and_both (same_writes cs cs1) (same_actions xs xs1) four.1 in
    λ i. Commit (numbers p p1 one.0 i) (same_writes-sound ws ws1 two.0 i) (same_cells-sound es es1 three.0 i) (numbers q q1 four.0 i) (same_writes-sound cs cs1 five.0 i) (same_actions-sound xs xs1 five.1 i)
same_ask-sound (Fail p q) (Fail p1 q1) h =
    let both = and_both (p == p1) (q == q1) h in
    λ i. Fail (numbers p p1 both.0 i) (numbers q q1 both.1 i)
same_ask-sound (Peek c) (Peek d) h = ap Peek (same_cell-sound c d h)
same_ask-sound (Send a) (Send b) h = ap Send (same_action-sound a b h)
same_ask-sound (Take g) (Take k) h = ap Take (same_cell-sound g k h)
same_ask-sound (Finish g v xs) (Finish k w xs1) h =
    let one = and_both (same_cell g k) (same_new v w && same_actions xs xs1) h in
    let two = and_both (same_new v w) (same_actions xs xs1) one.1 in
    λ i. Finish (same_cell-sound g k one.0 i) (same_new-sound v w two.0 i) (same_actions-sound xs xs1 two.1 i)
same_ask-sound (OpenAt c) (OpenAt d) h = ap OpenAt (same_cell-sound c d h)
same_ask-sound (CloseAt c p v) (CloseAt d q w) h =
    let one = and_both (same_cell c d) (same_place p q && same_value v w) h in
    let two = and_both (same_place p q) (same_value v w) one.1 in
    λ i. CloseAt (same_cell-sound c d one.0 i) (same_place-sound p q two.0 i) (same_value-sound v w two.1 i)
same_ask-sound (Broke c p) (Broke d q) h =
    let both = and_both (same_cell c d) (p == q) h in
    λ i. Broke (same_cell-sound c d both.0 i) (numbers p q both.1 i)
same_ask-sound _ _ h = absurd (false≢true h)

pub same_ask-itself : (a : Ask) → same_ask a a ≡ true
same_ask-itself Begin = refl
same_ask-itself (Look c p) = and_true _ _ (same_cell-itself c) (number-itself p)
same_ask-itself (View cs) = same_cells-itself cs
same_ask-itself (Commit p ws es q cs xs) =
    and_true _ _ (number-itself p) (and_true _ _ (same_writes-itself ws) (and_true _ _ (same_cells-itself es) (and_true _ _ (number-itself q) (and_true _ _ (same_writes-itself cs) (same_actions-itself xs)))))
same_ask-itself (Fail p q) = and_true _ _ (number-itself p) (number-itself q)
same_ask-itself (Peek c) = same_cell-itself c
same_ask-itself (Send a) = same_action-itself a
same_ask-itself (Take g) = same_cell-itself g
same_ask-itself (Finish g v xs) = and_true _ _ (same_cell-itself g) (and_true _ _ (same_new-itself v) (same_actions-itself xs))
same_ask-itself (OpenAt c) = same_cell-itself c
same_ask-itself (CloseAt c p v) = and_true _ _ (same_cell-itself c) (and_true _ _ (same_place-itself p) (same_value-itself v))
same_ask-itself (Broke c p) = and_true _ _ (same_cell-itself c) (number-itself p)
