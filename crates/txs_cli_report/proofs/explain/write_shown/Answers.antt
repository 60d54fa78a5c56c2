use Rattle.std.proofs.Common.{◌≡◌, ◌++◌, ◌∙◌, [], ℕ, List, Option, Result, Ok, Err, OnOk, OnErr, subst, sym}
use Rattle.std.proofs.lemmas.List.{append-nil}
use Rattle.txs_cli_report.specs.Explained.{shown_where}
use Rattle.txs_value_data.specs.declared.fault.Span.{Span}
use Rattle.txs_value_data.specs.Printed.{Extends}
use Rattle.txs_cli_report.proofs.explain.write_shown.Goals as goal

-- a part is there or isn't
extended : {A E : Type 0} (r : Result A E) (old a new : List ℕ) → OnOk r (new ≡ old ++ a) → OnErr r (new ≡ old) → Extends old new
extended (Ok x) old a new p q = record { more = a; is = p }
extended (Err x) old a new p q = record { more = []; is = q ∙ sym (append-nil old) }

pub returns-in-Some-clause-ok : goal.returns-in-Some-clause-ok
returns-in-Some-clause-ok c =
    let old = c.args.out.now.items in
    let new = c.write_pointed.new.out.items in
    subst (λ (o : Option Span). OnOk c.write_pointed.result (new ≡ old ++ shown_where c.args.text.now o)) (sym c.in-Some.is) c.write_pointed.ensures.ok

pub returns-in-Some-clause-kept : goal.returns-in-Some-clause-kept
returns-in-Some-clause-kept c = extended c.write_pointed.result c.args.out.now.items _ c.write_pointed.new.out.items c.write_pointed.ensures.ok c.write_pointed.ensures.err

pub returns-in-None-clause-kept : goal.returns-in-None-clause-kept
returns-in-None-clause-kept c = record { more = []; is = sym (append-nil c.args.out.now.items) }
