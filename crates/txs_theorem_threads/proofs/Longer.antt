-- More turns change nothing of a run that is over.
use Rattle.std.proofs.Common.{ℕ, zero, suc, sym, subst, arith, ◌≡◌, ◌≤◌}
use Rattle.txs_code_meaning.specs.Machine.{ThreadCode, Configuration, Outcome, turn, exec}
use Rattle.txs_code_meaning.proofs.Alike.{then_alike}
use Rattle.txs_theorem_threads.specs.Behaves.{IsOver}

-- where the first is over, the second is over with the same outcome
abbrev SameEnd : Outcome → Outcome → Type 0
SameEnd a b = (o : Outcome) → IsOver o → a ≡ o → b ≡ o

-- more turns change nothing of a run that is over
pub longer : (code : ThreadCode) (m n : ℕ) → m ≤ n → (c : Configuration) → SameEnd (exec code m c) (exec code n c)
longer code zero n le c o over e = absurd (subst IsOver (sym e) over)
longer code (suc m) zero le c o over e = absurd (omega (arith, le))
longer code (suc m) (suc n) le c o over e =
    then_alike SameEnd (λ q u ov p. p) (exec code m) (exec code n) (longer code m n (omega (arith, le))) (turn code c) o over e
