use Rattle.std.proofs.Common.{◌≡◌, ◌++◌, ◌∙◌, ℕ, List, ap, append_assoc, codes, sym}
use Rattle.txs_value_data.proofs.PrintedLemmas.{Extends-after, Extends-by, then_more}
use Rattle.txs_cli_report.specs.Explained.{place_where, shown_where}
use Rattle.txs_cli_report.proofs.Fronts.{on_ok}
use Rattle.txs_cli_report.proofs.explain.append_explained.Goals as goal

-- a name, a place, and a sentence behind a colon and a space
named : (old name place word advice first second third : List ℕ) → first ≡ old ++ name → second ≡ first ++ place → third ≡ second ++ (word ++ advice) → third ≡ old ++ (name ++ place ++ word ++ advice)
named old name place word advice first second third a b c =
    then_more old (name ++ place) second (word ++ advice) third (then_more old name first place second a b) c
    ∙ ap (λ (l : List ℕ). old ++ l) (sym (append_assoc (name ++ place) word advice))

pub returns-clause-ok : goal.returns-clause-ok
returns-clause-ok c =
    let old = c.args.out.now.items in
    let first = c.extend_from_slice.new.self.items in
    let second = c.write_place.new.out.items in
    let third = c.write_both.new.out.items in
    let fourth = c.extend_from_slice-2.new.self.items in
    let new = c.write_shown.new.out.items in
    let file = c.args.file.now in
    let advice = c.args.advice.now in
    let place = place_where c.args.text.now c.args.at in
    let shown = shown_where c.args.text.now c.args.at in
    let word = codes ": " in
    let end = codes "\n" in
    let line = named old file place word advice first second third (c.in_ok-extend_from_slice.ensures.items ∙ ap (λ (l : List ℕ). old ++ l) c.as_bytes.ensures.value) c.in_ok-write_place.ensures.ok
    (c.in_ok-write_both.ensures.ok ∙ ap (λ (l : List ℕ). second ++ (word ++ l)) c.as_bytes-2.ensures.value)
    in
    let ended = then_more old (file ++ place ++ word ++ advice) third end fourth line c.in_ok-extend_from_slice-2.ensures.items in
    on_ok c.write_shown.result (new ≡ fourth ++ shown) (new ≡ old ++ (file ++ place ++ word ++ advice ++ end ++ shown)) (then_more old (file ++ place ++ word ++ advice ++ end) fourth shown new ended) c.write_shown.ensures.ok

-- what is written, up to a part that isn't
pub returns-clause-kept : goal.returns-clause-kept
returns-clause-kept c =
    let old = c.args.out.now.items in
    let first = c.extend_from_slice.new.self.items in
    let second = c.write_place.new.out.items in
    let third = c.write_both.new.out.items in
    let fourth = c.extend_from_slice-2.new.self.items in
    let new = c.write_shown.new.out.items in
    Extends-after old _ first new c.in_ok-extend_from_slice.ensures.items
    (Extends-after first _ second new c.in_ok-write_place.ensures.ok (Extends-after second _ third new c.in_ok-write_both.ensures.ok (Extends-after third _ fourth new c.in_ok-extend_from_slice-2.ensures.items c.write_shown.ensures.kept)))

pub returns-in_err-extend_from_slice-clause-kept :
    goal.returns-in_err-extend_from_slice-clause-kept
returns-in_err-extend_from_slice-clause-kept c =
    Extends-by c.extend_from_slice.result c.args.out.now.items _ c.extend_from_slice.new.self.items c.extend_from_slice.ensures.items

pub returns-in_err-write_place-clause-kept : goal.returns-in_err-write_place-clause-kept
returns-in_err-write_place-clause-kept c =
    Extends-after c.args.out.now.items _ c.extend_from_slice.new.self.items c.write_place.new.out.items c.in_ok-extend_from_slice.ensures.items c.write_place.ensures.kept

pub returns-in_err-write_both-clause-kept : goal.returns-in_err-write_both-clause-kept
returns-in_err-write_both-clause-kept c =
    let first = c.extend_from_slice.new.self.items in
    let second = c.write_place.new.out.items in
    let third = c.write_both.new.out.items in
    Extends-after c.args.out.now.items _ first third c.in_ok-extend_from_slice.ensures.items (Extends-after first _ second third c.in_ok-write_place.ensures.ok c.write_both.ensures.kept)

pub returns-in_err-extend_from_slice-2-clause-kept :
    goal.returns-in_err-extend_from_slice-2-clause-kept
returns-in_err-extend_from_slice-2-clause-kept c =
    let first = c.extend_from_slice.new.self.items in
    let second = c.write_place.new.out.items in
    let third = c.write_both.new.out.items in
    let fourth = c.extend_from_slice-2.new.self.items in
    Extends-after c.args.out.now.items _ first fourth c.in_ok-extend_from_slice.ensures.items
    (Extends-after first _ second fourth c.in_ok-write_place.ensures.ok
    (Extends-after second _ third fourth c.in_ok-write_both.ensures.ok (Extends-by c.extend_from_slice-2.result third _ fourth c.extend_from_slice-2.ensures.items)))
