-- The verdict, by the first test that finds something.
use Rattle.std.proofs.Common.{◌≡◌, ℕ, suc, ◌+◌, ◌&&◌, Bool, true, false, ◌++◌, length, refl, sym, ap, ◌∙◌}
use Rattle.std.proofs.lemmas.Bool.{false≢true}
use Rattle.txs_value_cell.specs.Agents.{agents_from}
use Rattle.txs_tree_meaning.specs.Tree.{PlainProgram}
use Rattle.txs_theorem_audit.specs.Audited as audited
use Rattle.txs_theorem_audit.specs.Audited.{PlainReport, PlainTerms, books_of, Finding, Fine, Off, Short, and_then, check, answer}
use Rattle.txs_theorem_audit.specs.Pieces.{PiecesAreAll, pieces_finding, pieces_of, pieces_serial}
use Rattle.txs_theorem_audit.specs.Verdict.{agents_found, agents_serial, are_serial, atoms_found, atoms_from, ends_found, fits_sizes, order_found, store_found, threads_found, traces_found, verdict}
use Rattle.txs_theorem_audit.proofs.Findings.{and_fine}
use Rattle.txs_audit_book.specs.Judged.{is_fine}
use Rattle.txs_audit.specs.Started.{actors_found}

three : (f g h : Finding) → and_then (and_then f g) h ≡ and_then f (and_then g h)
three Fine g h = refl
three (Off a i) g h = refl
three (Short a i) g h = refl

stays : (f g : Finding) → is_fine f ≡ false → and_then f g ≡ f
stays Fine g h = absurd (false≢true (sym h))
stays (Off a i) g h = refl
stays (Short a i) g h = refl

answer_off : (f : Finding) (a b : Bool) → is_fine f ≡ false → answer f a ≡ answer f b
answer_off Fine a b h = absurd (false≢true (sym h))
answer_off (Off x i) a b h = refl
answer_off (Short x i) a b h = refl

module _ (p : PlainProgram) (w : PlainTerms) (r : PlainReport) (n : ℕ) where
  abbrev traces : Finding
  traces = traces_found (books_of r) (suc (length r.atom_books)) 0 (r.threads ++ r.agents)

  abbrev atoms : Finding
  atoms = atoms_found p r (atoms_from 0 p.cells)

  abbrev pieces : Finding
  pieces = and_then (threads_found p r n 0 p.threads r.threads) (agents_found p r n (length p.threads) (agents_from 0 p.cells) r.agents)

  -- what is found behind the books
  abbrev behind : Finding
  behind = and_then (ends_found p w r) (and_then (order_found p r) pieces)

  abbrev serial : Bool
  serial = are_serial p r n p.threads r.threads && agents_serial p r n (agents_from 0 p.cells) r.agents

  -- the sizes are wrong
  pub by_sizes : fits_sizes p r ≡ false → audited.Differs 0 0 ≡ verdict p w r n
  by_sizes h = sym (ap (λ b. answer (and_then (check b 0 0) (and_then traces (and_then (store_found p r) (and_then atoms behind)))) serial) h)

  sized : fits_sizes p r ≡ true → answer (and_then traces (and_then (store_found p r) (and_then atoms behind))) serial ≡ verdict p w r n
  sized fits = sym (ap (λ b. answer (and_then (check b 0 0) (and_then traces (and_then (store_found p r) (and_then atoms behind)))) serial) fits)

  -- a trace is wrong
  pub by_traces : fits_sizes p r ≡ true → (a i : ℕ) → Off a i ≡ traces → audited.Differs a i ≡ verdict p w r n
  by_traces fits a i h = ap (λ f. answer (and_then f (and_then (store_found p r) (and_then atoms behind))) serial) h ∙ sized fits

  traced : fits_sizes p r ≡ true → Fine ≡ traces → answer (and_then (store_found p r) (and_then atoms behind)) serial ≡ verdict p w r n
  traced fits fine = ap (λ g. answer (and_then g (and_then (store_found p r) (and_then atoms behind))) serial) fine ∙ sized fits

  -- something is found in the books
  pub by_books : fits_sizes p r ≡ true → Fine ≡ traces → (f : Finding) → f ≡ and_then (store_found p r) atoms → is_fine f ≡ false → (b : Bool) → answer f b ≡ verdict p w r n
  by_books fits fine f h off b =
      answer_off f b serial off
      ∙ ap (λ g. answer g serial) (sym (stays f behind off) ∙ ap (λ g. and_then g behind) h ∙ three (store_found p r) atoms behind)
      ∙ traced fits fine

  -- nothing is: then it is what is found of how actors ended and of the order of all events, and behind that what is found of the pieces
  pub by_actors : fits_sizes p r ≡ true → Fine ≡ traces → store_found p r ≡ Fine → atoms ≡ Fine → PiecesAreAll
      → answer (and_then (actors_found p w r) (pieces_finding p r n (pieces_of r))) (pieces_serial p r n (pieces_of r)) ≡ verdict p w r n
  by_actors fits fine store each all = go (actors_found p w r) refl
    where
      whole : answer (and_then (actors_found p w r) pieces) serial ≡ verdict p w r n
      whole =
          ap (λ g. answer g serial) (three (ends_found p w r) (order_found p r) pieces)
          ∙ ap (λ g. answer (and_then g behind) serial) (sym each)
          ∙ ap (λ g. answer (and_then g (and_then atoms behind)) serial) (sym store)
          ∙ traced fits fine

      go : (f : Finding) → actors_found p w r ≡ f → answer (and_then f (pieces_finding p r n (pieces_of r))) (pieces_serial p r n (pieces_of r)) ≡ verdict p w r n
      go Fine h = (let x = and_fine (ends_found p w r) (order_found p r) h in sym (all p w r n fits (sym fine) store each x.0 x.1))
      go (Off a i) h = ap (λ f. answer (and_then f pieces) serial) (sym h) ∙ whole
      go (Short a i) h = ap (λ f. answer (and_then f pieces) serial) (sym h) ∙ whole
