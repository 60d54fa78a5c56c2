-- What is reached, by cases.
use Rattle.std.proofs.Common.{◌≡◌, ◌∙◌, ℕ, ◌≤◌, ◌<◌, lt-ltb, true, false, nat_lt, if◌then◌else◌, ◌++◌, [], ◌∷◌, set, sym, ap, subst, refl, Option, Some, None, Ok, Err, List, Result}
use Rattle.std.proofs.lemmas.Bool.{le-ltb}
use Rattle.txs_code_meaning.specs.declared.instr.Instr.{Instr}
use Rattle.txs_verify.specs.Marks.{Marks, mark_at, mark_behind}
use Rattle.txs_verify.specs.Paths.{wants, depth_behind, txs_behind}
use Rattle.txs_verify.specs.Walk.{Walk, Gives, reached, reached_each, ◌>>=◌, refusal, next_places, ends_nothing, passed}
use Rattle.txs_verify.specs.declared.error.Stop.{Stop}
use Rattle.txs_verify.specs.declared.error.VerifyErrorKind.TheVariants.{StackLow, TxNesting}
use Rattle.txs_verify.specs.declared.walk.Mark.{Mark}

pub unmarked_is : (ms : Marks) (ws : List ℕ) (to : ℕ) (m : Mark) (left : List ℕ) → mark_at ms to ≡ None → left ≡ ws ++ to ∷ [] → reached (mark_at ms to) (ms, ws) to m ≡ Ok (set ms to (Some m), left)
unmarked_is ms ws to m left none e = ap (λ x. reached x (ms, ws) to m) none ∙ ap (λ x. Ok (set ms to (Some m), x)) (sym e)

le_tested : (a c : ℕ) → c ≤ a → nat_lt a c ≡ false
le_tested a c h = le-ltb a c h

-- an instruction that isn't refused leads on
passed_is : (ps : List ℕ) (p : ℕ) (m : Mark) (s : Walk) (o : Option Instr) (i : Instr) → o ≡ Some i → wants ps i ≤ m.depth → ends_nothing i m.txs ≡ false → passed ps p m o s ≡ reached_each (next_places p i) (mark_behind ps i m) s
passed_is ps p m s o i is enough nothing =
    ap (λ x. passed ps p m x s) is ∙ ap (λ x. if x then Err (refusal StackLow p) else (if ends_nothing i m.txs then Err (refusal TxNesting p) else reached_each (next_places p i) (mark_behind ps i m) s)) (le_tested m.depth (wants ps i) enough) ∙ ap (λ x. if x then Err (refusal TxNesting p) else reached_each (next_places p i) (mark_behind ps i m) s) nothing

same_mark : (a b : Mark) → a.depth ≡ b.depth → a.txs ≡ b.txs → a ≡ b
same_mark a b d t = ap (λ x. record { depth = x; txs = a.txs }) d ∙ ap (λ x. record { depth = b.depth; txs = x }) t

pub gives_passed : (ps : List ℕ) (p : ℕ) (m : Mark) (s : Walk) (o : Option Instr) (i : Instr) (b : Mark) (res : Result (Unit {0}) Stop) (left : Walk) → o ≡ Some i → wants ps i ≤ m.depth → ends_nothing i m.txs ≡ false → b.depth ≡ depth_behind ps i m.depth → b.txs ≡ txs_behind i m.txs → Gives res left (reached_each (next_places p i) b s) → Gives res left (passed ps p m o s)
gives_passed ps p m s o i b res left is enough nothing d t gives =
    let same : b ≡ mark_behind ps i m = same_mark b (mark_behind ps i m) d t in
    subst (λ x. Gives res left x) (sym (passed_is ps p m s o i is enough nothing)) (subst (λ x. Gives res left (reached_each (next_places p i) x s)) same gives)

-- too few values
pub passed_low : (ps : List ℕ) (p : ℕ) (m : Mark) (s : Walk) (o : Option Instr) (i : Instr) → o ≡ Some i → m.depth < wants ps i → passed ps p m o s ≡ Err (refusal StackLow p)
passed_low ps p m s o i is low = rw (is, lt-ltb m.depth (wants ps i) low) refl

-- an end where no transaction is open
pub passed_end : (ps : List ℕ) (p : ℕ) (m : Mark) (s : Walk) (o : Option Instr) (i : Instr) → o ≡ Some i → wants ps i ≤ m.depth → ends_nothing i m.txs ≡ true → passed ps p m o s ≡ Err (refusal TxNesting p)
passed_end ps p m s o i is enough nothing = rw (is, le_tested m.depth (wants ps i) enough, nothing) refl
