-- A form that was written with the sign `@`.
use Rattle.std.proofs.Common.{◌≡◌, ℕ, ◌+◌, true, eqb, List, [], ◌∷◌, ◌++◌, None, refl, sym, ap, ◌∙◌, append_assoc, arith}
use Rattle.std.proofs.lemmas.List.{append-nil}
use Rattle.std.proofs.lemmas.List.Concat.{flat_map-append}
use Rattle.std.proofs.lemmas.Bool.Decides.{nat_tests}
use Rattle.std.specs.List.{flat_map}
use Rattle.txs_reader.specs.declared.form.Bracket.TheVariants.{Round}
use Rattle.txs_reader.specs.Tree.{symbol, PlainForm, leaf, none, first, place, deref}
use Rattle.txs_reader.specs.Script.{opens, Token, between, spelled, is_sugar, sugar, Open, begun}

eqb_itself : (n : ℕ) → eqb n n ≡ true
eqb_itself n = grind (arith, nat_tests)

is_sugar_sugar : (at : ℕ) (t : PlainForm) → is_sugar Round (first (leaf (symbol deref) (between at (at + 1))) (first t none)) (between at ((place t).to)) ≡ true
is_sugar_sugar at t = rw (eqb_itself at, eqb_itself (at + 1), eqb_itself ((place t).to)) refl

-- it is spelled by the sign and the form
pub spelled-sugar : (at : ℕ) (t : PlainForm) → spelled (sugar at t) ≡ record { sign = opens None; span = between at (at + 1) } ∷ spelled t
spelled-sugar at t = rw (is_sugar_sugar at t) (ap (λ (ts : List Token). record { sign = opens None; span = between at (at + 1) } ∷ ts) (append-nil (spelled t)))

-- an open `@` and a form behind it are what the form that they make is
pub begun-sugar : (os : List Open) (before : List PlainForm) (at : ℕ) (t : PlainForm) → flat_map begun (os ++ record { bracket = None; from = at; before = before } ∷ []) ++ flat_map spelled (t ∷ []) ≡ flat_map begun os ++ flat_map spelled (before ++ sugar at t ∷ [])
begun-sugar os before at t =
    let o : Open = record { bracket = None; from = at; before = before } in
    let sign : Token = record { sign = opens None; span = between at (at + 1) } in
    ap (λ (ts : List Token). ts ++ flat_map spelled (t ∷ [])) (flat_map-append begun os (o ∷ []) ∙ ap (λ (ts : List Token). flat_map begun os ++ ts) (append-nil (begun o)))
    ∙ append_assoc (flat_map begun os) (begun o) _
    ∙ ap (λ (ts : List Token). flat_map begun os ++ ts)
    (append_assoc (flat_map spelled before) (sign ∷ []) _
    ∙ ap (λ (ts : List Token). flat_map spelled before ++ ts) (ap (λ (ts : List Token). ts ++ []) (sym (spelled-sugar at t)))
    ∙ sym (flat_map-append spelled before (sugar at t ∷ [])))
