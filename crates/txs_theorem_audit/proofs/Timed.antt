-- That the events of all books have an order: what is found says so, both ways.
use Rattle.std.proofs.Common.{◌≡◌, ℕ, suc, false, [], length, map, Option, Some, None, refl, sym, ap, ◌∙◌, arith}
use Rattle.std.specs.Prelude.{nat_lt}
use Rattle.std.proofs.lemmas.Bool.Decides.{nat_tests}
use Rattle.txs_value_cell.specs.Agents.{agents_from}
use Rattle.txs_tree_meaning.specs.Tree.{PlainProgram}
use Rattle.txs_theorem_runs.specs.Told.{Place}
use Rattle.txs_theorem_serial.proofs.Within.{links_are_within}
use Rattle.txs_theorem_serial.specs.Order.{IsOrdered}
use Rattle.txs_theorem_serial.specs.Taken.{out_of_order, AreWithin, NoneIsOrdered, SomeIsNotOrdered, NamedOnACycle}
use Rattle.txs_theorem_audit.specs.Audited.{PlainActorReport, PlainReport, books_of, entry_of, Fine}
use Rattle.txs_theorem_audit.specs.Verdict.{index_if, report_links, named_off, place_off, order_found}
use Rattle.txs_theorem_audit.proofs.Findings.{off_fine, NotOff}
use Rattle.txs_theorem_audit.proofs.Listing.{there_is, no_book}

module _ (p : PlainProgram) (r : PlainReport) where
  -- how many books there are
  abbrev many : ℕ
  many = suc (length r.atom_books)

  beyond : (b : ℕ) → nat_lt b many ≡ false → books_of r b ≡ []
  beyond b e = no_book r b (grind (arith, nat_tests, e))

  within_books : AreWithin (books_of r) many (report_links p r)
  within_books = links_are_within (books_of r) many (map (λ (x : PlainActorReport). x.trace) r.threads) (agents_from 0 p.cells) (map (λ (x : PlainActorReport). x.trace) r.agents) beyond

  -- where no event is named as one that comes before itself there is an order
  pub in_order : NoneIsOrdered → NamedOnACycle → order_found p r ≡ Fine → IsOrdered (books_of r) (report_links p r)
  in_order ordered cycle h = go (out_of_order (books_of r) (report_links p r) many) refl h
    where
      go : (o : Option Place) → out_of_order (books_of r) (report_links p r) many ≡ o → place_off r o ≡ Fine → IsOrdered (books_of r) (report_links p r)
      go None e k = ordered (books_of r) many (report_links p r) beyond within_books e
      go (Some q) e k =
          let event = there_is (books_of r q.book) q.at (cycle (books_of r) many (report_links p r) q within_books e).1 in
          off_fine event.0.actor (index_if q.book q.at (entry_of r event.0.actor)) (sym (ap (named_off r q) event.1) ∙ k)

  -- and where there is an order none is
  pub order_not_off : SomeIsNotOrdered → IsOrdered (books_of r) (report_links p r) → NotOff (order_found p r)
  order_not_off unordered h = go (out_of_order (books_of r) (report_links p r) many) refl
    where
      go : (o : Option Place) → out_of_order (books_of r) (report_links p r) many ≡ o → NotOff (place_off r o)
      go None e = tt
      go (Some q) e = absurd (unordered (books_of r) many (report_links p r) q within_books e h)
