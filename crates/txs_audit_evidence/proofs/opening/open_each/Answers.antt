use Rattle.std.proofs.Common.{◌≡◌, ◌+◌, ◌∙◌, List, ap, arith, get_or, length, refl, subst, sym}
use Rattle.std.proofs.lemmas.List.{get_or_default, length_push}
use Rattle.txs_value_data.specs.Places.{nth}
use Rattle.txs_value_data.specs.declared.value.CellId.{CellId}
use Rattle.txs_value_data.specs.declared.value.CellKind.TheVariants.{Ref}
use Rattle.txs_tree_meaning.specs.View.{program_of}
use Rattle.txs_theorem_audit.specs.Audited.{report_as}
use Rattle.txs_theorem_audit.specs.Verdict.{atoms_found}
use Rattle.txs_audit_book.specs.Judged.{as_found}
use Rattle.txs_audit_evidence.specs.Evidence.{AreSwaps, AtomOpened}
use Rattle.txs_audit_evidence.proofs.Bookwise.{atoms_end, atoms_next, atoms_off, no_swaps, swaps_more}
use Rattle.txs_audit_evidence.proofs.Sized.{nth_at}
use Rattle.txs_audit_evidence.proofs.opening.open_each.Goals as goal

pub loop-n-init : goal.loop-n-init
loop-n-init c =
    let p = c.args.program.now in
    let r = c.args.report.now in
    record {
      swaps = subst (AreSwaps p r) (sym c.new-all.ensures.items) (no_swaps p r);
      many = ap length c.new-all.ensures.items;
      few = omega arith;
      rest = refl;
    }

pub open_atom-requires-clause-there : goal.open_atom-requires-clause-there
open_atom-requires-clause-there c =
    let atoms : List CellId = c.args.atoms.now in
    let n = c.loop-n.n in
    let none : CellId = record { kind = Ref; number = 0 } in
    let cell : CellId = get_or atoms n none in
    ap (λ l. nth l n) (sym c.requires.all) ∙ nth_at atoms n cell c.loop-n-test.true (get_or_default atoms n none cell c.loop-n-test.true)

pub returns-in-Err : goal.returns-in-Err
returns-in-Err c =
    let p = c.args.program.now in
    let r = c.args.report.now in
    let atoms : List CellId = c.args.atoms.now in
    let n = c.loop-n.n in
    let none : CellId = record { kind = Ref; number = 0 } in
    let cell : CellId = get_or atoms n none in
    let lt = c.loop-n-test.true in
    let is = get_or_default atoms n none cell lt in
    let opened = subst (AtomOpened p r n cell) c.in-Err.is c.in_ok-swaps.ensures in
    let found = atoms_off p r atoms n cell lt is (as_found c.in-Err.finding) opened.0 opened.1 in
    (found ∙ c.loop-n.invariant.rest ∙ ap (atoms_found (program_of p) (report_as r)) c.requires.all, opened.1)

pub loop-n-preserved : goal.loop-n-preserved
loop-n-preserved c =
    let p = c.args.program.now in
    let r = c.args.report.now in
    let atoms : List CellId = c.args.atoms.now in
    let n = c.loop-n.n in
    let none : CellId = record { kind = Ref; number = 0 } in
    let cell : CellId = get_or atoms n none in
    let lt = c.loop-n-test.true in
    let is = get_or_default atoms n none cell lt in
    let opened = subst (AtomOpened p r n cell) c.in-Ok.is c.in_ok-swaps.ensures in
    let there = ap (λ l. nth l n) (sym c.requires.all) ∙ nth_at atoms n cell lt is in
    let all = c.loop-n.all.items in
    let many = c.loop-n.invariant.many in
    let items = c.in_ok-push-in-Ok.ensures.items in
    record {
      swaps = subst (AreSwaps p r) (sym items) (swaps_more p r all n cell c.in-Ok.swaps many there opened.0 opened.1 c.loop-n.invariant.swaps);
      many = ap length items ∙ length_push all c.in-Ok.swaps ∙ ap (λ m. m + 1) many;
      few = omega (arith, lt);
      rest = sym (atoms_next p r atoms n cell lt is opened.2) ∙ c.loop-n.invariant.rest;
    }

pub returns : goal.returns
returns c =
    let p = c.args.program.now in
    let r = c.args.report.now in
    let atoms : List CellId = c.args.atoms.now in
    let n = c.loop-n.n in
    let out = c.loop-n-test.false in
    let few = c.loop-n.invariant.few in
    let long : n ≡ length atoms = omega (arith, out, few) in (
      c.loop-n.invariant.swaps,
      c.loop-n.invariant.many ∙ long ∙ ap length c.requires.all,
      ap (atoms_found (program_of p) (report_as r)) (sym c.requires.all) ∙ sym c.loop-n.invariant.rest ∙ atoms_end p r atoms n out,
    )
