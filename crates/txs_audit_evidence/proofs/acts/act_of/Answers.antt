use Rattle.std.proofs.Common.{◌∙◌, ap, sym}
use Rattle.std.specs.Prelude.{option_copied}
use Rattle.txs_theorem_audit.specs.Audited.{place_of}
use Rattle.txs_audit_evidence.proofs.Acting.{named_act, names_none, other_book}
use Rattle.txs_audit_evidence.proofs.acts.act_of.Goals as goal

pub returns-then-place-ne0 : goal.returns-then-place-ne0
returns-then-place-ne0 c = other_book c.args.books.now c.are_legal.ensures c.args.place.book c.args.place.at c.if-place-ne0.true

pub returns-in-Some : goal.returns-in-Some
returns-in-Some c = named_act c.args.books.now (place_of c.args.place) c.in-Some.event.now c.if-place-ne0.false (sym c.event_at.ensures ∙ ap option_copied c.in-Some.is) c.act_in.result c.act_in.ensures

pub returns-in-None : goal.returns-in-None
returns-in-None c = names_none c.args.books.now (place_of c.args.place) (sym c.event_at.ensures ∙ ap option_copied c.in-None.is)
