use Rattle.std.proofs.Common.{◌≡◌, ◌++◌, ◌∙◌, ℕ, List, [], ap, append_assoc, codes, decimal, sym}
use Rattle.txs_value_data.proofs.PrintedLemmas.{Extends-after, Extends-appended, Extends-by, ended_by, then_more}
use Rattle.txs_cli_report.specs.EventLines.{event_name}
use Rattle.txs_cli_report.proofs.events.write_event.Goals as goal

-- a part and two pairs behind what is before them
written : (old a b c d e first second third : List ℕ) → first ≡ old ++ a → second ≡ first ++ (b ++ c) → third ≡ second ++ (d ++ e) → third ≡ old ++ (a ++ b ++ c ++ d ++ e)
written old a b c d e first second third p q r =
    let two : second ≡ old ++ (a ++ (b ++ c)) = then_more old a first (b ++ c) second p q in
    let three : a ++ (b ++ c) ++ (d ++ e) ≡ a ++ b ++ c ++ d ++ e = ap (λ (l : List ℕ). l ++ (d ++ e)) (sym (append_assoc a b c)) ∙ sym (append_assoc (a ++ b ++ c) d e) in
    then_more old (a ++ (b ++ c)) second (d ++ e) third two r ∙ ap (λ (l : List ℕ). old ++ l) three

pub returns-clause-ok : goal.returns-clause-ok
returns-clause-ok c =
    let old = c.args.output.now.items in
    let e = c.args.event.now in
    let second = c.write_number-2.new.out.items in
    let third = c.write_both.new.out.items in
    let place = decimal c.args.place in
    let actor = decimal e.actor in
    let name = event_name e.kind in
    let space = codes " " in
    let acted = c.in_ok-write_number-2.ensures.ok ∙ ap (λ (n : ℕ). c.write_number.new.out.items ++ (space ++ decimal n)) c.from.ensures in
    let named = c.in_ok-write_both.ensures.ok ∙ ap (λ (l : List ℕ). second ++ (space ++ l)) (c.as_bytes.ensures.value ∙ c.name_of.ensures) in
    ended_by c.extend_from_slice.result old (place ++ space ++ actor ++ space ++ name) third (codes "\n") c.extend_from_slice.new.self.items
    (written old place space actor space name c.write_number.new.out.items second third c.in_ok-write_number.ensures.ok acted named) c.extend_from_slice.ensures.items

-- what is written, up to a part that isn't
pub returns-clause-kept : goal.returns-clause-kept
returns-clause-kept c =
    let first = c.write_number.new.out.items in
    let second = c.write_number-2.new.out.items in
    let third = c.write_both.new.out.items in
    let new = c.extend_from_slice.new.self.items in
    Extends-appended c.args.output.now.items _ _ [] first second new c.in_ok-write_number.ensures.ok c.in_ok-write_number-2.ensures.ok
    (Extends-after second _ third new c.in_ok-write_both.ensures.ok (Extends-by c.extend_from_slice.result third _ new c.extend_from_slice.ensures.items))

pub returns-in_err-write_number-clause-kept : goal.returns-in_err-write_number-clause-kept
returns-in_err-write_number-clause-kept c = c.write_number.ensures.kept

pub returns-in_err-write_number-2-clause-kept : goal.returns-in_err-write_number-2-clause-kept
returns-in_err-write_number-2-clause-kept c =
    Extends-after c.args.output.now.items _ c.write_number.new.out.items c.write_number-2.new.out.items c.in_ok-write_number.ensures.ok c.write_number-2.ensures.kept

pub returns-in_err-write_both-clause-kept : goal.returns-in_err-write_both-clause-kept
returns-in_err-write_both-clause-kept c =
    Extends-appended c.args.output.now.items _ _ [] c.write_number.new.out.items c.write_number-2.new.out.items c.write_both.new.out.items c.in_ok-write_number.ensures.ok c.in_ok-write_number-2.ensures.ok c.write_both.ensures.kept
