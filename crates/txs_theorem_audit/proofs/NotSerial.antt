-- The commits of write skew aren't what the program's own transactions do, one after the other.
use Rattle.std.proofs.Common.{◌≡◌, ℕ, List, [], ◌∷◌, length, refl, sym, ap, ◌∙◌, arith}
use Rattle.txs_world_protocol.specs.Ask.{Writes}
use Rattle.txs_value_apply.specs.Core.{core}
use Rattle.txs_value_cell.specs.Cells.{World, validators_of}
use Rattle.txs_value_data.specs.declared.value.Value.{Value}
use Rattle.txs_value_data.specs.declared.value.Value.TheVariants.{Int, Nil}
use Rattle.std.specs.Prelude.{pos}
use Rattle.txs_frame.specs.Frame.{PlainTxFrame, empty_frame}
use Rattle.txs_world_book.specs.Book.{changed, opening}
use Rattle.txs_world_book.specs.Served.{cells_of}
use Rattle.txs_tree_meaning.specs.Meaning.{Completion, Completes}
use Rattle.txs_tree_meaning.specs.Pure.{nowhere}
use Rattle.txs_tree_meaning.specs.Thread.{TxRun}
use Rattle.txs_tree_meaning.specs.Transaction.{TxState, tx_meaning, final_writes}
use Rattle.txs_tree_meaning.specs.Tree.{Tree, Const}
use Rattle.txs_theorem_threads.specs.Noted.{txs_of}
use Rattle.txs_theorem_serial.specs.Serial.{purely, IsSerial}
use Rattle.txs_theorem_audit.specs.Examples.{here, takes_one, ref_of, ended, home_at, commits, both_took}
use Rattle.txs_theorem_audit.specs.Explained.{meaning_of}
use Rattle.txs_theorem_audit.specs.NotSerial.{skew, SkewIsNotOneByOne}
use Rattle.txs_value_cell.specs.declared.form.LookForm.TheVariants.{Deref}

-- the first transaction's body and locals
abbrev body_in_front : List TxRun → Tree
body_in_front [] = Const Nil here
body_in_front (x ∷ xs) = x.body

abbrev locals_in_front : List TxRun → List Value
locals_in_front [] = []
locals_in_front (x ∷ xs) = x.locals

-- what the second thread's transactions are
abbrev second : ℕ → List TxRun
second n = txs_of (meaning_of skew both_took (takes_one Deref 1) (ended (home_at 1 ∷ [])) n)

abbrev body : Tree
body = body_in_front (second 0)

same_body : (n : ℕ) → body_in_front (second n) ≡ body
unfolding core
same_body n = refl

no_locals : (n : ℕ) → locals_in_front (second n) ≡ []
unfolding core
no_locals n = refl

-- the refs after the first commit
abbrev left : World
left = changed (commits 0 0 ((ref_of 0, Int (pos 0)) ∷ [])).kind (opening (cells_of skew.cells))

abbrev frame_of : Completion TxState Value → PlainTxFrame
frame_of (Completes v t) = t.done
frame_of _ = empty_frame

-- there the body sets nothing
sets_nothing : (n : ℕ) → frame_of (tx_meaning n [] 0 body [] left) ≡ empty_frame
unfolding core
sets_nothing n = refl

abbrev many_of : Completion (Unit {0}) Writes → ℕ
many_of (Completes ws u) = length ws
many_of _ = 0

module _ (x : TxRun) (is_body : x.body ≡ body) (is_locals : x.locals ≡ []) (ws : Writes) (n : ℕ) (one : length ws ≡ 1) where
  not_alone : IsSerial [] (validators_of skew.cells) n x left ws x.state.done.sends → ⊥
  not_alone s =
      let frame : s.state.done ≡ empty_frame = sym (ap frame_of s.means) ∙ ap (λ e. frame_of (tx_meaning n [] 0 e x.locals left)) is_body ∙ ap (λ l. frame_of (tx_meaning n [] 0 body l left)) is_locals ∙ sets_nothing n in
      let none : 0 ≡ length ws = ap (λ w. many_of (final_writes (purely n []) (validators_of skew.cells) nowhere w left tt)) (sym frame) ∙ ap many_of s.writes_same in
      absurd (omega (arith, none, one))

pub skew_is_not_one_by_one : SkewIsNotOneByOne
skew_is_not_one_by_one runs own h =
    let after_first = h.4 in
    let x = after_first.0 in
    let same = after_first.2 in
    let alone = after_first.3 in
    let mine = own.threads 1 (takes_one Deref 1) (ended (home_at 1 ∷ [])) refl refl in
    let front : x ∷ after_first.1 ≡ second mine.0.turns = sym same ∙ mine.1 in
    not_alone x (ap body_in_front front ∙ same_body mine.0.turns) (ap locals_in_front front ∙ no_locals mine.0.turns) _ alone.0 refl alone.1
