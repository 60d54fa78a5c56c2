-- What each call does to the parts of a frame, and so to what the transaction has done.
use Rattle.std.proofs.Common.{◌≡◌, ℕ, ◌||◌, true, false, if◌then◌else◌, List, [], ◌∷◌, ◌++◌, map, get_or, Option, Some, None, is_some, Result, Ok, Err, refl, sym, ap, subst, ◌∙◌, arith}
use Rattle.std.specs.Prelude.{insert}
use Rattle.txs_world_protocol.specs.Ask.{Writes, with_write}
use Rattle.txs_value_cell.specs.declared.action.Action.{Action}
use Rattle.txs_value_data.specs.declared.fault.FaultKind.TheVariants as fault
use Rattle.txs_value_data.specs.declared.fault.FaultKind.{FaultKind}
use Rattle.txs_value_data.specs.declared.op.Callee.{Callee}
use Rattle.txs_value_data.specs.declared.value.CellId.{CellId}
use Rattle.txs_value_data.specs.declared.value.CellKind.{CellKind}
use Rattle.txs_value_data.specs.declared.value.CellKind.TheVariants.{Ref}
use Rattle.txs_value_data.specs.declared.value.Value.{Value}
use Rattle.txs_frame.specs.Frame.{PlainTxFrame, empty_frame, with_cell, with_cells, has_number, outside_of, is_set, is_commuted, commuted, set_writes, cells_in, written, set_ref, ensure_ref, commute_ref, SetAnswers}
use Rattle.txs_frame.specs.declared.frame.Commute.{Commute}
use Rattle.txs_frame.specs.declared.frame.SetError.{SetError}
use Rattle.txs_frame.specs.declared.frame.SetError.TheVariants.{SetAfterCommute, Memory}
use Rattle.txs_frame.specs.declared.own.How.{How}
use Rattle.txs_frame.specs.declared.own.How.TheVariants as how
use Rattle.txs_frame.specs.declared.own.Own.{Own}
use Rattle.txs_frame.specs.Kept.{Ascends, item_of, with_item, number_of, cell_number, ref_cell, was_set, was_commuted, was_commuted_if, with_commute, how_of, only_commuted, cells_by, writes_by, writes_of, work_of, IsKept, IsPlaceOf, how_at, put_at}
use Rattle.txs_frame.proofs.Owns.{flag, has_by, writes_with, cells_more, cells_steady, commuted_by, set_by, all_cells, all_by, cells_in_by}
use Rattle.txs_frame.proofs.Places.{ascends_with, cell_joins, cell_stays, cells_ascend, get_there}

-- ---- what is looked up

abbrev pub own_in : List Own → ℕ → Option Own
own_in os k = item_of number_of os k

pub is_commuted_by : (os : List Own) (es : List CellId) (cs : List Commute) (ss : List Action) (k : ℕ) → IsKept os es cs → is_commuted (work_of os es cs ss) k ≡ flag was_commuted (own_in os k)
is_commuted_by os es cs ss k h = ap (λ ds. has_number ds k) h.commuted ∙ has_by was_commuted 0 os k h.own

pub own_exactly : (os : List Own) (es : List CellId) (cs : List Commute) (ss : List Action) (k : ℕ) → IsKept os es cs → is_some (own_in os k) ≡ (is_set (work_of os es cs ss) k || is_commuted (work_of os es cs ss) k)
own_exactly os es cs ss k h =
    test (own_in os k)
    ∙ sym (ap (λ b. b || is_commuted (work_of os es cs ss) k) (has_by was_set 0 os k h.own) ∙ ap (λ b. flag was_set (own_in os k) || b) (is_commuted_by os es cs ss k h))
  where
    ways : (w : How) → true ≡ (was_set w || was_commuted w)
    ways how.Set = refl
    ways how.Commuted = refl
    ways how.Both = refl

    test : (x : Option Own) → is_some x ≡ (flag was_set x || flag was_commuted x)
    test None = refl
    test (Some o) = ways o.how

-- what a search among own values found
pub found : (os : List Own) (k : ℕ) (r : Result ℕ ℕ) (i : ℕ) (x : Own) → IsPlaceOf number_of os k r → r ≡ Ok i → x ≡ get_or os i x → own_in os k ≡ Some x
found os k r i x p e is =
    let q : IsPlaceOf number_of os k (Ok i) = subst (IsPlaceOf number_of os k) e p in
    q.is ∙ get_there os i x q.within ∙ ap Some (sym is)

pub missing : (os : List Own) (k : ℕ) (r : Result ℕ ℕ) (i : ℕ) → IsPlaceOf number_of os k r → r ≡ Err i → own_in os k ≡ None
missing os k r i p e =
    let q : IsPlaceOf number_of os k (Err i) = subst (IsPlaceOf number_of os k) e p in
    q.is

-- a frame of which all is cleared
pub emptied : (os : List Own) (es : List CellId) (cs : List Commute) (ss : List Action) → os ≡ [] → es ≡ [] → cs ≡ [] → ss ≡ [] → work_of os es cs ss ≡ empty_frame
emptied os es cs ss o e c s =
    ap (λ (x : List Own). work_of x es cs ss) o
    ∙ ap (λ (x : List CellId). work_of [] x cs ss) e
    ∙ ap (λ (x : List Commute). work_of [] [] x ss) c
    ∙ ap (λ (x : List Action). work_of [] [] [] x) s

-- ---- a ref is ensured

pub ensure_done : (os : List Own) (es : List CellId) (cs : List Commute) (ss : List Action) (c : CellId) (i : ℕ) → IsPlaceOf cell_number es c.number (Err i) → ensure_ref c (work_of os es cs ss) ≡ work_of os (insert es i c) cs ss
ensure_done os es cs ss c i p = ap (λ ds. work_of os ds cs ss) (cell_joins es c p.is ∙ p.puts c refl)

pub ensure_stays : (os : List Own) (es : List CellId) (cs : List Commute) (ss : List Action) (c : CellId) (i : ℕ) → IsKept os es cs → IsPlaceOf cell_number es c.number (Ok i) → ensure_ref c (work_of os es cs ss) ≡ work_of os es cs ss
ensure_stays os es cs ss c i h p = ap (λ ds. work_of os ds cs ss) (cell_stays 0 es c (get_or es i c) h.ensured (p.is ∙ get_there es i c p.within))

pub ensure_kept : (os : List Own) (es : List CellId) (cs : List Commute) (c : CellId) (i : ℕ) → IsKept os es cs → IsPlaceOf cell_number es c.number (Err i) → IsKept os (insert es i c) cs
ensure_kept os es cs c i h p = record { own = h.own; ensured = subst (Ascends cell_number 0) (p.puts c refl) (ascends_with cell_number 0 es c h.ensured (omega arith)); commuted = h.commuted }

-- the list with one more ref, by the place that a search found
pub joined : (es : List CellId) (c : CellId) (i : ℕ) → IsPlaceOf cell_number es c.number (Err i) → insert es i c ≡ with_cell es c
joined es c i p = sym (cell_joins es c p.is ∙ p.puts c refl)

pub stayed : (es : List CellId) (c : CellId) (i : ℕ) → Ascends cell_number 0 es → IsPlaceOf cell_number es c.number (Ok i) → es ≡ with_cell es c
stayed es c i up p = sym (cell_stays 0 es c (get_or es i c) up (p.is ∙ get_there es i c p.within))

pub ensured_kept : (os : List Own) (es : List CellId) (cs : List Commute) (c : CellId) → IsKept os es cs → IsKept os (with_cell es c) cs
ensured_kept os es cs c h = record { own = h.own; ensured = cells_ascend 0 es c h.ensured (omega arith); commuted = h.commuted }

-- ---- a ref is set

flag_how : (x : Option Own) → flag was_commuted x ≡ was_commuted_if (how_of x)
flag_how None = refl
flag_how (Some o) = refl

the_ref : (c : CellId) → c.kind ≡ Ref → ref_cell c.number ≡ c
the_ref c e = ap (λ (k : CellKind). record { kind = k; number = c.number }) (sym e)

module _ (os : List Own) (es : List CellId) (cs : List Commute) (ss : List Action) (h : IsKept os es cs) (c : CellId) (ref : c.kind ≡ Ref) (v : Value) where
  abbrev was : Option How
  was = how_of (own_in os c.number)

  commuted_so : is_commuted (work_of os es cs ss) c.number ≡ was_commuted_if was
  commuted_so = is_commuted_by os es cs ss c.number h ∙ flag_how (own_in os c.number)

  pub set_refused : was_commuted_if was ≡ true → set_ref c v (work_of os es cs ss) ≡ Err fault.SetAfterCommute
  set_refused e = ap (λ b. if b then Err fault.SetAfterCommute else Ok (record (work_of os es cs ss) { values = with_write (writes_of os) c v; sets = with_cell (cells_by was_set os) c })) (commuted_so ∙ e)

  abbrev pub set_own : Own
  set_own = record { number = c.number; value = v; how = how.Set }

  pub set_done : was_commuted_if was ≡ false → set_ref c v (work_of os es cs ss) ≡ Ok (work_of (with_item number_of os set_own) es cs ss)
  set_done e =
      ap (λ b. if b then Err fault.SetAfterCommute else Ok (record (work_of os es cs ss) { values = with_write (writes_of os) c v; sets = with_cell (cells_by was_set os) c })) (commuted_so ∙ e)
      ∙ sym (
      ap (λ (ws : Writes). Ok (record (work_of os es cs ss) { values = ws; sets = cells_by was_set (with_item number_of os set_own) })) (writes_with os set_own ∙ ap (λ (d : CellId). with_write (writes_of os) d v) (the_ref c ref))
      ∙ ap (λ (ds : List CellId). Ok (record (work_of os es cs ss) { values = with_write (writes_of os) c v; sets = ds })) (cells_more was_set 0 os set_own h.own refl ∙ ap (with_cell (cells_by was_set os)) (the_ref c ref)))

  pub set_kept : was_commuted_if was ≡ false → IsKept (with_item number_of os set_own) es cs
  set_kept e = record {
    own = ascends_with number_of 0 os set_own h.own (omega arith);
    ensured = h.ensured;
    commuted = h.commuted ∙ sym (cells_steady was_commuted 0 os set_own h.own (flag_how (own_in os c.number) ∙ e));
  }

  -- ---- a ref is commuted

  module _ (callee : Callee) (args : List Value) where
    abbrev pub commute_own : Own
    commute_own = record { number = c.number; value = v; how = with_commute was }

    abbrev pub commutes_now : List Commute
    commutes_now = cs ++ record { cell = c; callee = callee; args = args } ∷ []

    commuted_now : (x : Option How) → was_commuted (with_commute x) ≡ true
    commuted_now None = refl
    commuted_now (Some how.Set) = refl
    commuted_now (Some how.Commuted) = refl
    commuted_now (Some how.Both) = refl

    set_as_before : (x : Option Own) → flag was_set x ≡ was_set (with_commute (how_of x))
    set_as_before None = refl
    set_as_before (Some o) = ways o.how
      where
        ways : (w : How) → was_set w ≡ was_set (with_commute (Some w))
        ways how.Set = refl
        ways how.Commuted = refl
        ways how.Both = refl

    refs_more : (ds : List CellId) (xs : List Commute) (x : Commute) → with_cells ds (map (λ y. y.cell) (xs ++ x ∷ [])) ≡ with_cell (with_cells ds (map (λ y. y.cell) xs)) x.cell
    refs_more ds [] x = refl
    refs_more ds (y ∷ ys) x = refs_more (with_cell ds y.cell) ys x

    pub commute_done : commute_ref c callee args v (work_of os es cs ss) ≡ work_of (with_item number_of os commute_own) es commutes_now ss
    commute_done = sym (
        ap (λ (ws : Writes). record { values = ws; sets = cells_by was_set (with_item number_of os commute_own); ensures = es; commutes = commutes_now; sends = ss }) (writes_with os commute_own ∙ ap (λ (d : CellId). with_write (writes_of os) d v) (the_ref c ref))
        ∙ ap (λ (ds : List CellId). record { values = with_write (writes_of os) c v; sets = ds; ensures = es; commutes = commutes_now; sends = ss }) (cells_steady was_set 0 os commute_own h.own (set_as_before (own_in os c.number))))

    pub commute_kept : IsKept (with_item number_of os commute_own) es commutes_now
    commute_kept = record {
      own = ascends_with number_of 0 os commute_own h.own (omega arith);
      ensured = h.ensured;
      commuted =
          refs_more [] cs (record { cell = c; callee = callee; args = args })
          ∙ ap (λ ds. with_cell ds c) h.commuted
          ∙ ap (with_cell (cells_by was_commuted os)) (sym (the_ref c ref))
          ∙ sym (cells_more was_commuted 0 os commute_own h.own (commuted_now was));
    }

-- ---- what the calls leave

module _ (os : List Own) (es : List CellId) (cs : List Commute) (ss : List Action) (h : IsKept os es cs) (c : CellId) (ref : c.kind ≡ Ref) (v : Value) (r : Result ℕ ℕ) (p : IsPlaceOf number_of os c.number r) where
  was_so : was_commuted_if (how_of (own_in os c.number)) ≡ was_commuted_if (how_at os r)
  was_so = ap (λ x. was_commuted_if (how_of x)) p.is

  pub set_call_refused : was_commuted_if (how_at os r) ≡ true → set_ref c v (work_of os es cs ss) ≡ Err fault.SetAfterCommute
  set_call_refused e = set_refused os es cs ss h c ref v (was_so ∙ e)

  pub set_call : was_commuted_if (how_at os r) ≡ false → (now : List Own) → now ≡ put_at os r (record { number = c.number; value = v; how = how.Set }) → (set_ref c v (work_of os es cs ss) ≡ Ok (work_of now es cs ss)) × IsKept now es cs
  set_call e now is =
      let own = set_own os es cs ss h c ref v in
      let same : with_item number_of os own ≡ now = p.puts own refl ∙ sym is in (
        set_done os es cs ss h c ref v (was_so ∙ e) ∙ ap (λ (x : List Own). Ok (work_of x es cs ss)) same,
        subst (λ (x : List Own). IsKept x es cs) same (set_kept os es cs ss h c ref v (was_so ∙ e)),
      )

  pub commute_call : (callee : Callee) (args : List Value) (w : How) → w ≡ with_commute (how_at os r) → (now : List Own) → now ≡ put_at os r (record { number = c.number; value = v; how = w }) → (more : List Commute) → more ≡ cs ++ record { cell = c; callee = callee; args = args } ∷ [] → (work_of now es more ss ≡ commute_ref c callee args v (work_of os es cs ss)) × IsKept now es more
  commute_call callee args w way now is more kept =
      let own = commute_own os es cs ss h c ref v callee args in
      let so : w ≡ own.how = way ∙ ap (λ x. with_commute (how_of x)) (sym p.is) in
      let same : now ≡ with_item number_of os own = is ∙ ap (λ (x : How). put_at os r (record { number = c.number; value = v; how = x })) so ∙ sym (p.puts own refl) in (
        ap (λ (x : List Own). work_of x es more ss) same
            ∙ ap (λ (y : List Commute). work_of (with_item number_of os own) es y ss) kept
            ∙ sym (commute_done os es cs ss h c ref v callee args),
        subst (λ (y : List Commute). IsKept now es y) (sym kept) (subst (λ (x : List Own). IsKept x es (commutes_now os es cs ss h c ref v callee args)) (sym same) (commute_kept os es cs ss h c ref v callee args)),
      )

-- what `set` answers, by what setting gives
pub answers_set : (x : Result PlainTxFrame FaultKind) (old now : PlainTxFrame) → x ≡ Ok now → SetAnswers x old (Ok tt) now
answers_set x old now e = subst (λ (y : Result PlainTxFrame FaultKind). SetAnswers y old (Ok tt) now) (sym e) refl

pub answers_refused : (x : Result PlainTxFrame FaultKind) (old : PlainTxFrame) → x ≡ Err fault.SetAfterCommute → SetAnswers x old (Err SetAfterCommute) old
answers_refused x old e = subst (λ (y : Result PlainTxFrame FaultKind). SetAnswers y old (Err SetAfterCommute) old) (sym e) refl

pub answers_memory : (x : Result PlainTxFrame FaultKind) (old now w : PlainTxFrame) (r : Result (Unit {0}) SetError) → x ≡ Ok w → r ≡ Err Memory → now ≡ old → SetAnswers x old r now
answers_memory x old now w r e f same =
    subst (λ (y : Result PlainTxFrame FaultKind). SetAnswers y old r now) (sym e) (subst (λ (q : Result (Unit {0}) SetError). SetAnswers (Ok w) old q now) (sym f) same)

-- ---- what is gathered

pub commuted_is : (os : List Own) (es : List CellId) (cs : List Commute) (ss : List Action) → IsKept os es cs → cells_by only_commuted os ≡ commuted (work_of os es cs ss)
commuted_is os es cs ss h = sym (ap (outside_of (cells_by was_set os)) h.commuted ∙ commuted_by os h.own)

pub writes_is : (os : List Own) (es : List CellId) (cs : List Commute) (ss : List Action) → IsKept os es cs → writes_by was_set os ≡ set_writes (work_of os es cs ss)
writes_is os es cs ss h = sym (set_by os h.own)

pub written_is : (os : List Own) (es : List CellId) (cs : List Commute) (ss : List Action) → IsKept os es cs → all_cells os ≡ written (work_of os es cs ss)
written_is os es cs ss h =
    sym (
    ap (λ (ws : Writes). with_cells (cells_in ws) (commuted (work_of os es cs ss))) (set_by os h.own)
    ∙ ap (λ (ds : List CellId). with_cells ds (commuted (work_of os es cs ss))) (cells_in_by was_set os)
    ∙ ap (with_cells (cells_by was_set os)) (sym (commuted_is os es cs ss h))
    ∙ all_by 0 os h.own
    )
