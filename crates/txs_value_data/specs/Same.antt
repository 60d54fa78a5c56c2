-- Whether two values are equal, as a test that computes.
use Rattle.std.specs.Prelude.{Bool, true, false, ◌&&◌, ◌==◌, bytes_eq}
use Rattle.std.specs.Ordering.{int_eq}
use Rattle.txs_value_data.specs.PlainValue.{PlainValue, nil, truth, int, key, text, vector, cell, PlainValues, end, more, kind_out}

-- whether two truth values are equal
abbrev pub same_truth : Bool → Bool → Bool
same_truth true b = b
same_truth false true = false
same_truth false false = true

-- whether two plain values are equal: of one kind, with the same inside
abbrev mutual
  pub same_plain : PlainValue → PlainValue → Bool
  same_plain nil nil = true
  same_plain (truth b) (truth c) = same_truth b c
  same_plain (int x) (int y) = int_eq x y
  same_plain (key x) (key y) = bytes_eq x y
  same_plain (text x) (text y) = bytes_eq x y
  same_plain (vector x) (vector y) = same_plains x y
  same_plain (cell x) (cell y) = kind_out x.kind == kind_out y.kind && x.number == y.number
  same_plain _ _ = false

  -- whether two rows are equal, item by item
  pub same_plains : PlainValues → PlainValues → Bool
  same_plains end end = true
  same_plains (more d ds) (more e es) = same_plain d e && same_plains ds es
  same_plains _ _ = false
