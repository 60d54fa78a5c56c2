use Rattle.std.proofs.Common.{◌≡◌, ◌++◌, ◌∙◌, ℕ, List, Option, Result, Some, OnOk, ap, codes, decimal, rules, subst, sym, unwrap_or}
use Rattle.std.specs.Option.{option_map}
use Rattle.txs_cli_report.proofs.Fronts.{on_ok}
use Rattle.txs_cli_report.proofs.Lessons.{two_pairs}
use Rattle.txs_value_data.proofs.PrintedLemmas.{then_more}
use Rattle.txs_verify.specs.declared.error.BodyName.{BodyName}
use Rattle.txs_verify.specs.declared.error.BodyName.TheVariants.{Function, Thread, Cell}
use Rattle.txs_cli.specs.CodeLines.{at_number, in_body, refused_front}
use Rattle.txs_cli.proofs.lines.write_line.Goals as goal

-- the place, behind the number and the name
placed : {A E : Type 0} (r : Result A E) (body place : Option BodyName) (at number : ℕ) (name old first second new : List ℕ) → body ≡ place → first ≡ old ++ (codes "refused " ++ decimal number) → second ≡ first ++ (codes " " ++ name)
    → OnOk r (new ≡ second ++ unwrap_or (option_map (λ b. in_body b at) place) (at_number (codes " at ") at))
    → OnOk r (new ≡ old ++ (refused_front number name ++ unwrap_or (option_map (λ b. in_body b at) body) (at_number (codes " at ") at)))
placed r body place at number name old first second new is e f h =
    let behind : Option BodyName → List ℕ = λ b. unwrap_or (option_map (λ x. in_body x at) b) (at_number (codes " at ") at) in
    let front = refused_front number name in
    subst (λ (b : Option BodyName). OnOk r (new ≡ old ++ (front ++ behind b))) (sym is)
    (on_ok r (new ≡ second ++ behind place) (new ≡ old ++ (front ++ behind place)) (then_more old front second (behind place) new (two_pairs old (codes "refused ") (decimal number) (codes " ") name first second e f)) h)

-- the number, as it is written
counted : (old first : List ℕ) (n number : ℕ) → n ≡ number → first ≡ old ++ (codes "refused " ++ decimal n) → first ≡ old ++ (codes "refused " ++ decimal number)
counted old first n number e f = subst (λ (k : ℕ). first ≡ old ++ (codes "refused " ++ decimal k)) e f

pub returns-in-Some-Function : goal.returns-in-Some-Function
returns-in-Some-Function c =
    let old = c.args.line.now.items in
    let first = c.write_number.new.out.items in
    let named = c.in_ok-write_both.ensures.ok ∙ ap (λ (l : List ℕ). first ++ (codes " " ++ l)) c.as_bytes.ensures.value in
    let is : c.args.body ≡ Some (Function c.in-Some-Function.number) = search rules in
    placed c.end_at.result c.args.body _ c.args.at c.args.number c.args.name.now old first c.write_both.new.out.items c.end_at.new.line.items is
    (counted old first c.from.result c.args.number c.from.ensures c.in_ok-write_number.ensures.ok) named c.end_at.ensures

pub returns-in-Some-Thread : goal.returns-in-Some-Thread
returns-in-Some-Thread c =
    let old = c.args.line.now.items in
    let first = c.write_number.new.out.items in
    let named = c.in_ok-write_both.ensures.ok ∙ ap (λ (l : List ℕ). first ++ (codes " " ++ l)) c.as_bytes.ensures.value in
    let is : c.args.body ≡ Some (Thread c.in-Some-Thread.number) = search rules in
    placed c.end_at-in-Some-Thread.result c.args.body _ c.args.at c.args.number c.args.name.now old first c.write_both.new.out.items c.end_at-in-Some-Thread.new.line.items is
    (counted old first c.from.result c.args.number c.from.ensures c.in_ok-write_number.ensures.ok) named c.end_at-in-Some-Thread.ensures

pub returns-in-Some-Cell : goal.returns-in-Some-Cell
returns-in-Some-Cell c =
    let old = c.args.line.now.items in
    let first = c.write_number.new.out.items in
    let named = c.in_ok-write_both.ensures.ok ∙ ap (λ (l : List ℕ). first ++ (codes " " ++ l)) c.as_bytes.ensures.value in
    let is : c.args.body ≡ Some (Cell c.in-Some-Cell.number) = search rules in
    placed c.end_at-in-Some-Cell.result c.args.body _ c.args.at c.args.number c.args.name.now old first c.write_both.new.out.items c.end_at-in-Some-Cell.new.line.items is
    (counted old first c.from.result c.args.number c.from.ensures c.in_ok-write_number.ensures.ok) named c.end_at-in-Some-Cell.ensures

pub returns-in-None : goal.returns-in-None
returns-in-None c =
    let old = c.args.line.now.items in
    let first = c.write_number.new.out.items in
    let named = c.in_ok-write_both.ensures.ok ∙ ap (λ (l : List ℕ). first ++ (codes " " ++ l)) c.as_bytes.ensures.value in
    placed c.end_line.result c.args.body _ c.args.at c.args.number c.args.name.now old first c.write_both.new.out.items c.end_line.new.line.items c.in-None.is
    (counted old first c.from.result c.args.number c.from.ensures c.in_ok-write_number.ensures.ok) named c.end_line.ensures
