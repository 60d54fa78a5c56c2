use Rattle.txs_value_data.proofs.PrintedLemmas.{Extends-by}
use Rattle.txs_value_data.proofs.print.print_leaf.Goals as goal

pub returns-in-Nil-clause-kept : goal.returns-in-Nil-clause-kept
returns-in-Nil-clause-kept c = Extends-by c.extend_from_slice.result c.args.out.now.items _ c.extend_from_slice.new.self.items c.extend_from_slice.ensures.items

pub returns-in-Truth-true-clause-kept : goal.returns-in-Truth-true-clause-kept
returns-in-Truth-true-clause-kept c = Extends-by c.extend_from_slice-in-Truth-true.result c.args.out.now.items _ c.extend_from_slice-in-Truth-true.new.self.items c.extend_from_slice-in-Truth-true.ensures.items

pub returns-in-Truth-false-clause-kept : goal.returns-in-Truth-false-clause-kept
returns-in-Truth-false-clause-kept c = Extends-by c.extend_from_slice-in-Truth-false.result c.args.out.now.items _ c.extend_from_slice-in-Truth-false.new.self.items c.extend_from_slice-in-Truth-false.ensures.items

pub returns-in-Int-clause-kept : goal.returns-in-Int-clause-kept
returns-in-Int-clause-kept c = Extends-by c.extend_from_slice-in-Int.result c.args.out.now.items _ c.extend_from_slice-in-Int.new.self.items c.extend_from_slice-in-Int.ensures.items

pub returns-in-Text-clause-kept : goal.returns-in-Text-clause-kept
returns-in-Text-clause-kept c = Extends-by c.extend_from_slice-in-Text.result c.args.out.now.items _ c.extend_from_slice-in-Text.new.self.items c.extend_from_slice-in-Text.ensures.items
