-- What there is a picture of.
use Rattle.std.specs.Prelude.{ℕ, List, IsUtf8}
use Rattle.txs_cli_events.specs.declared.seen.Noted.{Noted}
use Rattle.txs_cli_report.specs.Told.{IsCompiled}
use Rattle.txs_code_meaning.specs.PlainCode.{PlainCode}
use Rattle.txs_tree_meaning.specs.Tree.{PlainProgram}
use Rattle.txs_world_protocol.specs.declared.report.Report.{Report}
use Rattle.txs_cli_show.specs.Shown.{IsListed}

-- There is a run of the code by the plays that the list says, with its events, and the picture is a text in UTF-8.
pub record IsPictureOf (code : PlainCode) (list : List ℕ) (steps : ℕ) (picture : List ℕ) : Type 0 where
  pub report : Report
  pub notes : List Noted
  pub listed : IsListed code list steps report notes
  pub utf8 : IsUtf8 picture

-- so of the code of a script
pub record IsDrawn (text list : List ℕ) (steps : ℕ) (picture : List ℕ) : Type 0 where
  pub program : PlainProgram
  pub code : PlainCode
  pub compiled : IsCompiled text program code
  pub drawn : IsPictureOf code list steps picture
