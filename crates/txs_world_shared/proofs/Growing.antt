-- Lists that grow by what a report has of the state.
use Rattle.std.proofs.Common.{◌≡◌, ◌<◌, ◌≤◌, ◌+◌, ◌++◌, ◌∷◌, ◌∙◌, [], ℕ, suc, List, Option, length, map, get_or, drop, arith, append_assoc, refl, sym, ap}
use Rattle.std.proofs.lemmas.List.{append-nil, drop_all, drop_more}
use Rattle.txs_value_data.specs.declared.fault.Fault.{Fault}
use Rattle.txs_value_cell.specs.declared.cell.CellDefinition.{CellDefinition}
use Rattle.txs_value_data.specs.declared.value.CellId.{CellId}
use Rattle.txs_value_data.specs.declared.value.CellKind.{CellKind}
use Rattle.txs_value_data.specs.declared.value.CellKind.TheVariants.{Ref, Atom, Agent}
use Rattle.txs_value_data.specs.declared.value.Value.{Value}
use Rattle.txs_world_book.specs.Atom.{PlainAtom}
use Rattle.txs_world_protocol.specs.declared.event.Event.{Event}
use Rattle.txs_world_shared.specs.Parts.{values_from, with_fault, faults_from}

-- one more book, before those to come
pub book_moved : (bs later : List (List Event)) (b : List Event) (a : PlainAtom) (rest more : List PlainAtom) (all : List (List Event)) → later ≡ bs ++ b ∷ [] → b ≡ a.book → rest ≡ a ∷ more
    → bs ++ map (λ (x : PlainAtom). x.book) rest ≡ all → later ++ map (λ (x : PlainAtom). x.book) more ≡ all
book_moved bs later b a rest more all e f g h =
    let books : List PlainAtom → List (List Event) = λ xs. map (λ (x : PlainAtom). x.book) xs in
    ap (λ l. l ++ books more) e ∙ append_assoc bs (b ∷ []) (books more) ∙ ap (λ y. bs ++ y ∷ books more) f ∙ sym (ap (λ l. bs ++ books l) g) ∙ h

-- the cells from this one on
cells_from : (ds : List CellDefinition) (i : ℕ) (d : CellDefinition) → i < length ds → d ≡ get_or ds i d → drop i ds ≡ d ∷ drop (i + 1) ds
cells_from ds i d l e = drop_more ds i d l ∙ ap (λ x. x ∷ drop (i + 1) ds) (sym e)

-- one more value, before those to come
pub value_more : (w : CellId → Value) (ds : List CellDefinition) (i : ℕ) (d : CellDefinition) (v : Value) (vs later all : List Value) → i < length ds → d ≡ get_or ds i d → v ≡ w (record { kind = d.kind; number = i })
    → later ≡ vs ++ v ∷ [] → vs ++ values_from w i (drop i ds) ≡ all → later ++ values_from w (i + 1) (drop (i + 1) ds) ≡ all
value_more w ds i d v vs later all l e is h so_far =
    let next : i + 1 ≡ suc i = omega arith in
    let rest = drop (i + 1) ds in
    ap (λ xs. xs ++ values_from w (i + 1) rest) h
    ∙ append_assoc vs (v ∷ []) (values_from w (i + 1) rest)
    ∙ ap (λ x. vs ++ x ∷ values_from w (i + 1) rest) is
    ∙ ap (λ n. vs ++ w (record { kind = d.kind; number = i }) ∷ values_from w n rest) next
    ∙ ap (λ xs. vs ++ values_from w i xs) (sym (cells_from ds i d l e))
    ∙ so_far

-- behind the last cell none are to come
pub values_all : (w : CellId → Value) (ds : List CellDefinition) (i : ℕ) (vs all : List Value) → length ds ≤ i → vs ++ values_from w i (drop i ds) ≡ all → vs ≡ all
values_all w ds i vs all past h = sym (append-nil vs) ∙ ap (λ xs. vs ++ values_from w i xs) (sym (drop_all i ds past)) ∙ h

-- what a cell adds stands before what those behind it add
fault_first : (fault : ℕ → Option Fault) (k : CellKind) (n : ℕ) (fs : List (Option Fault)) → with_fault fault k n fs ≡ with_fault fault k n [] ++ fs
fault_first fault Ref n fs = refl
fault_first fault Atom n fs = refl
fault_first fault Agent n fs = refl

-- one more cell, before those to come
pub fault_more : (fault : ℕ → Option Fault) (ds : List CellDefinition) (i : ℕ) (d : CellDefinition) (fs later all : List (Option Fault)) → i < length ds → d ≡ get_or ds i d
    → later ≡ fs ++ with_fault fault d.kind i [] → fs ++ faults_from fault i (drop i ds) ≡ all → later ++ faults_from fault (i + 1) (drop (i + 1) ds) ≡ all
fault_more fault ds i d fs later all l e h so_far =
    let next : i + 1 ≡ suc i = omega arith in
    let rest = drop (i + 1) ds in
    ap (λ xs. xs ++ faults_from fault (i + 1) rest) h
    ∙ append_assoc fs (with_fault fault d.kind i []) (faults_from fault (i + 1) rest)
    ∙ ap (λ xs. fs ++ xs) (sym (fault_first fault d.kind i (faults_from fault (i + 1) rest)))
    ∙ ap (λ n. fs ++ with_fault fault d.kind i (faults_from fault n rest)) next
    ∙ ap (λ xs. fs ++ faults_from fault i xs) (sym (cells_from ds i d l e))
    ∙ so_far

pub faults_all : (fault : ℕ → Option Fault) (ds : List CellDefinition) (i : ℕ) (fs all : List (Option Fault)) → length ds ≤ i → fs ++ faults_from fault i (drop i ds) ≡ all → fs ≡ all
faults_all fault ds i fs all past h = sym (append-nil fs) ∙ ap (λ xs. fs ++ faults_from fault i xs) (sym (drop_all i ds past)) ∙ h
