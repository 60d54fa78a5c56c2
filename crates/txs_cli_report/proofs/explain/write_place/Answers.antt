use Rattle.std.proofs.Common.{◌≡◌, ◌++◌, ◌∙◌, [], ℕ, List, Option, OnOk, ap, codes, decimal, subst, sym}
use Rattle.std.proofs.lemmas.List.{append-nil}
use Rattle.txs_reader.specs.Place.{line_number, column_number}
use Rattle.txs_value_data.specs.declared.fault.Span.{Span}
use Rattle.txs_value_data.proofs.PrintedLemmas.{Extends-after}
use Rattle.txs_cli_report.specs.Explained.{place_in, place_where}
use Rattle.txs_cli_report.proofs.Fronts.{on_ok}
use Rattle.txs_cli_report.proofs.Lessons.{two_pairs}
use Rattle.txs_cli_report.proofs.explain.write_place.Goals as goal

pub returns-in_default-clause-kept : goal.returns-in_default-clause-kept
returns-in_default-clause-kept c = record { more = []; is = sym (append-nil c.args.out.now.items) }

pub returns-clause-ok : goal.returns-clause-ok
returns-clause-ok c =
    let old = c.args.out.now.items in
    let text = c.args.text.now in
    let at = c.in-Some.at in
    let place = c.position-place.result in
    let is = c.position-place.ensures in
    let first = c.write_number.new.out.items in
    let new = c.write_number-2.new.out.items in
    let colon = codes ":" in
    let line = decimal (line_number text at.from) in
    let column = decimal (column_number text at.from) in
    let with_line : first ≡ old ++ (colon ++ line) = c.in_ok-write_number.ensures.ok ∙ ap (λ (n : ℕ). old ++ (colon ++ decimal n)) is.line in
    subst (λ (o : Option Span). OnOk c.write_number-2.result (new ≡ old ++ place_where text o)) (sym c.in-Some.is)
    (on_ok c.write_number-2.result (new ≡ first ++ (colon ++ decimal place.column)) (new ≡ old ++ place_in text at.from)
    (λ e. two_pairs old colon line colon column first new with_line (e ∙ ap (λ (n : ℕ). first ++ (colon ++ decimal n)) is.column)) c.write_number-2.ensures.ok)

pub returns-clause-kept : goal.returns-clause-kept
returns-clause-kept c = Extends-after c.args.out.now.items _ c.write_number.new.out.items c.write_number-2.new.out.items c.in_ok-write_number.ensures.ok c.write_number-2.ensures.kept
