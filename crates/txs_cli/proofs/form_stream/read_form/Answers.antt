use Rattle.std.proofs.Common.{◌∙◌, ap, rules, sym, subst}
use Rattle.txs_verify.specs.Load.{is_settled}
use Rattle.std.specs.Io.KnownBytes.{Consumes}
use Rattle.std.proofs.KnownBytes.{Consumes-nil, Consumes-trans}
use Rattle.txs_cli.proofs.FormStream.{none_settled}
use Rattle.txs_cli.proofs.form_stream.read_form.Goals as goal

pub loop-going-init : goal.loop-going-init
loop-going-init g c =
    let known = g.R.Read.remaining c.args.reader.now in
    record {
      read = subst (Consumes known known) (sym c.new-bytes.ensures.items) (Consumes-nil known);
      going = c.not_yet-asked.ensures;
      open_yet = λ e. ap is_settled c.new-bytes.ensures.items ∙ none_settled;
      enough = λ e. absurd cc;
      further = λ e. absurd cc;
    }

pub loop-going-preserved : goal.loop-going-preserved
loop-going-preserved g c =
    let e = c.in_ok-going.ensures in
    let old = g.R.Read.remaining c.args.reader.now in
    let new = g.R.Read.remaining c.read_further.new.reader in
    record {
      read = subst (Consumes old new) (sym e.read.1) (Consumes-trans old (g.R.Read.remaining c.loop-going.reader) new c.loop-going.bytes.items e.read.0 c.loop-going.invariant.read e.read.2);
      going = e.going;
      open_yet = e.yet;
      enough = e.enough;
      further = λ x. e.further;
    }

pub returns-clause-read : goal.returns-clause-read
returns-clause-read g c = record { first = c.loop-going.invariant.read; enough = c.loop-going.invariant.enough (search rules) }

pub returns-clause-further : goal.returns-clause-further
returns-clause-further g c = c.loop-going.invariant.further (search rules)
