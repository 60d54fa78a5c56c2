use Rattle.std.proofs.Common.{◌≡◌, ◌⊎◌, ◌∙◌, ap, inl, inr, refl, sym, subst}
use Rattle.txs_cli.proofs.task.use_alone.Goals as goal
use Rattle.txs_cli.specs.Runs.{Way}
use Rattle.txs_cli.specs.Source.{Source, source_of}
use Rattle.txs_cli.specs.Telling.{Do, Run, alone, unless, use_of}
use Rattle.txs_cli.specs.declared.tell.Use.{Use}
use Rattle.txs_cli.specs.declared.tell.Use.TheVariants as uses

kept : (s : Source) (u : Use) → (u ≡ uses.Check) ⊎ ((u ≡ uses.Listing) ⊎ (u ≡ uses.Build)) → Do s (use_of u) ≡ alone (Do s (use_of u))
kept s u (inl is) = subst (λ (x : Use). Do s (use_of x) ≡ alone (Do s (use_of x))) (sym is) refl
kept s u (inr (inl is)) = subst (λ (x : Use). Do s (use_of x) ≡ alone (Do s (use_of x))) (sym is) refl
kept s u (inr (inr is)) = subst (λ (x : Use). Do s (use_of x) ≡ alone (Do s (use_of x))) (sym is) refl

pub returns-in-Check : goal.returns-in-Check
returns-in-Check c = kept (source_of c.args.source) c.args.wanted c.in-Check.is

pub returns-in-Run : goal.returns-in-Run
returns-in-Run c =
    let o = c.in-Run.options in
    c.unless.ensures ∙ ap (λ (w : Way). unless o.audit (Do (source_of c.args.source) (Run w o))) c.turns_alone.ensures
    ∙ ap (λ (u : Use). alone (Do (source_of c.args.source) (use_of u))) (sym c.in-Run.is)
