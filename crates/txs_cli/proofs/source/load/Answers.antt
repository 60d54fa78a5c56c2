use Rattle.std.proofs.Common.{IfErr, IfOk, sym, subst}
use Rattle.txs_cli_report.specs.Lent.{text_in}
use Rattle.txs_cli.proofs.source.load.Goals as goal
use Rattle.txs_cli.specs.Source.{IsLoaded, IsRefusedBy, source_of}
use Rattle.txs_cli.specs.declared.source.Source.{Source}

pub returns-in-Script-clause-loaded : goal.returns-in-Script-clause-loaded
returns-in-Script-clause-loaded c =
    subst (λ (s : Source). IfOk c.load_script.result (λ l. IsLoaded (source_of s) c.args.text.now l.program l.code)) (sym c.in-Script.is) (c.load_script.ensures.loaded (text_in c.in-Script.field-0))

pub returns-in-Script-clause-refused : goal.returns-in-Script-clause-refused
returns-in-Script-clause-refused c =
    subst (λ (s : Source). IfErr c.load_script.result (λ e. IsRefusedBy (source_of s) c.args.text.now e)) (sym c.in-Script.is) (c.load_script.ensures.refused (text_in c.in-Script.field-0))

pub returns-in-Form-clause-loaded : goal.returns-in-Form-clause-loaded
returns-in-Form-clause-loaded c = subst (λ (s : Source). IfOk c.load_form.result (λ l. IsLoaded (source_of s) c.args.text.now l.program l.code)) (sym c.in-Form.is) c.load_form.ensures.loaded

pub returns-in-Form-clause-refused : goal.returns-in-Form-clause-refused
returns-in-Form-clause-refused c = subst (λ (s : Source). IfErr c.load_form.result (λ e. IsRefusedBy (source_of s) c.args.text.now e)) (sym c.in-Form.is) c.load_form.ensures.refused
