-- Alike states answer alike.
use Rattle.std.specs.Prelude.{◌≡◌, ℕ, true, List}
use Rattle.txs_world_protocol.specs.declared.ask.Ask.{Ask}
use Rattle.txs_value_cell.specs.declared.cell.CellDefinition.{CellDefinition}
use Rattle.txs_theorem_runs.specs.Shared.{Shared, book_for, serve_on, may_ask, shared_after}
use Rattle.txs_theorem_alike.specs.Books.{Alike, SameAsk, SameReply, HasRoom, StayAlike}

-- An ask that may be made is answered the same in alike states, but for the places that are handed out, which tell the same; the states after it are alike, and every place that told
-- the same still does.
pub record Answers (cells : List CellDefinition) (a : ℕ) (q r : Ask) (sh th : Shared) : Type 0 where
  pub reply : SameReply cells (shared_after cells q (serve_on cells a q (sh.books (book_for cells q))) sh) (shared_after cells r (serve_on cells a r (th.books (book_for cells r))) th) (book_for cells q)
      (serve_on cells a q (sh.books (book_for cells q))).reply (serve_on cells a r (th.books (book_for cells r))).reply
  pub after : StayAlike cells sh th (shared_after cells q (serve_on cells a q (sh.books (book_for cells q))) sh) (shared_after cells r (serve_on cells a r (th.books (book_for cells r))) th)

-- alike books answer alike
abbrev pub AlikeAnswerAlike : Type 0
AlikeAnswerAlike =
    (cells : List CellDefinition) (threads a : ℕ) (q r : Ask) (sh th : Shared)
    → Alike cells sh th → SameAsk cells sh th q r → may_ask cells threads sh.taken a q (sh.books (book_for cells q)) ≡ true → HasRoom cells q sh → HasRoom cells r th
    → Answers cells a q r sh th
