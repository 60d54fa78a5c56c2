use Rattle.std.proofs.Common.{◌≡◌, ◌∷◌, [], ℕ, List, Option, sym, subst, arith}
use Rattle.std.specs.Prelude.{MatchOption}
use Rattle.std.specs.Str.Parse.{AllDigits, digits_value}
use Rattle.txs_reader.proofs.escape.code.Goals as goal

-- what the four digits are read as
abbrev IsCode : List ℕ → Option ℕ → Type 0
IsCode ds o = MatchOption o (¬ AllDigits 16 ds) (λ v. AllDigits 16 ds × (v ≡ digits_value 16 ds))

pub returns-in_err-a : goal.returns-in_err-a
returns-in_err-a c = subst (IsCode (c.args.a ∷ c.args.b ∷ c.args.c ∷ c.args.d ∷ [])) (sym c.from_residual.ensures) (λ all. c.in_err-a.ensures all.0)

pub returns-in_err-b : goal.returns-in_err-b
returns-in_err-b c = subst (IsCode (c.args.a ∷ c.args.b ∷ c.args.c ∷ c.args.d ∷ [])) (sym c.from_residual-in_err-b.ensures) (λ all. c.in_err-b.ensures all.1.0)

pub returns-in_err-c : goal.returns-in_err-c
returns-in_err-c c = subst (IsCode (c.args.a ∷ c.args.b ∷ c.args.c ∷ c.args.d ∷ [])) (sym c.from_residual-in_err-c.ensures) (λ all. c.in_err-c.ensures all.1.1.0)

pub returns-in_err-d : goal.returns-in_err-d
returns-in_err-d c = subst (IsCode (c.args.a ∷ c.args.b ∷ c.args.c ∷ c.args.d ∷ [])) (sym c.from_residual-in_err-d.ensures) (λ all. c.in_err-d.ensures all.1.1.1.0)

pub returns : goal.returns
returns c =
    let p = c.in_ok-a.ensures in
    let q = c.in_ok-b.ensures in
    let r = c.in_ok-c.ensures in
    let s = c.in_ok-d.ensures in
    ((omega (arith, p.0, p.1), (omega (arith, q.0, q.1), (omega (arith, r.0, r.1), (omega (arith, s.0, s.1), tt)))), omega (arith, p.0, q.0, r.0, s.0))
