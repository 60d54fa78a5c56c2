-- A value as plain data, all the way down.
use Rattle.std.specs.Prelude.{◌≡◌, ℕ, zero, suc, ◌+◌, max, ℤ, pos, negsuc, Bool, true, false, List, [], ◌∷◌, refl}
use Rattle.std.proofs.Common.{ap}
use Rattle.std.specs.Coded.{Coded, code_by}
use denote.Struct.Codes.{itself}
use base.Stored.{Gv, gnil, gnum, gcons}
use Rattle.txs_value_data.specs.declared.value.CellId.{CellId}
use Rattle.txs_value_data.specs.declared.value.CellKind.{CellKind}
use Rattle.txs_value_data.specs.declared.value.CellKind.TheVariants.{Ref, Atom, Agent}

-- A value as plain data: nothing, a truth value, a whole number, the name of a keyword, the bytes of a text, the items of a vector,
-- or a cell; and the items of a vector in a row.
mutual
  pub data PlainValue : Type 0 where
    nil : PlainValue
    truth : Bool → PlainValue
    int : ℤ → PlainValue
    key : List ℕ → PlainValue
    text : List ℕ → PlainValue
    vector : PlainValues → PlainValue
    cell : CellId → PlainValue

  pub data PlainValues : Type 0 where
    end : PlainValues
    more : PlainValue → PlainValues → PlainValues

-- the items of a list as a row
abbrev pub plain_row : List PlainValue → PlainValues
plain_row [] = end
plain_row (d ∷ ds) = more d (plain_row ds)

-- the items of a row as a list
abbrev pub plain_list : PlainValues → List PlainValue
plain_list end = []
plain_list (more d ds) = d ∷ plain_list ds

-- how a plain value is stored as a tree of numbers
abbrev pub bytes_out : List ℕ → Gv
bytes_out [] = gnil
bytes_out (b ∷ bs) = gcons (gnum b) (bytes_out bs)

-- the number at a leaf of the tree
abbrev pub number : Gv → ℕ
number gnil = 0
number (gnum n) = n
number (gcons a b) = 0

-- the bytes that are stored so
abbrev pub bytes_in : Gv → List ℕ
bytes_in gnil = []
bytes_in (gnum n) = []
bytes_in (gcons a b) = number a ∷ bytes_in b

-- bytes that were stored are read back
pub bytes_in-out : (bs : List ℕ) → bytes_in (bytes_out bs) ≡ bs
bytes_in-out [] = refl
bytes_in-out (b ∷ bs) = ap (λ xs. b ∷ xs) (bytes_in-out bs)

-- a kind of cells as a number
abbrev pub kind_out : CellKind → ℕ
kind_out Ref = 0
kind_out Atom = 1
kind_out Agent = 2

-- the kind of cells of a number
abbrev pub kind_in : ℕ → CellKind
kind_in zero = Ref
kind_in (suc zero) = Atom
kind_in (suc (suc n)) = Agent

-- a kind that was stored is read back
pub kind_in-out : (k : CellKind) → kind_in (kind_out k) ≡ k
kind_in-out Ref = refl
kind_in-out Atom = refl
kind_in-out Agent = refl

-- a plain value as a tree: its tag, and what it holds; and a row as the list of its items
abbrev mutual
  pub plain_out : PlainValue → Gv
  plain_out nil = gnil
  plain_out (truth true) = gcons (gnum 0) (gnum 1)
  plain_out (truth false) = gcons (gnum 0) (gnum 0)
  plain_out (int (pos n)) = gcons (gnum 1) (gnum n)
  plain_out (int (negsuc n)) = gcons (gnum 2) (gnum n)
  plain_out (text bs) = gcons (gnum 3) (bytes_out bs)
  plain_out (key bs) = gcons (gnum 6) (bytes_out bs)
  plain_out (vector ds) = gcons (gnum 4) (row_out ds)
  plain_out (cell c) = gcons (gnum 5) (gcons (gnum (kind_out c.kind)) (gnum c.number))

  pub row_out : PlainValues → Gv
  row_out end = gnil
  row_out (more d ds) = gcons (plain_out d) (row_out ds)

-- the truth value that is stored so
abbrev pub truth_in : ℕ → Bool
truth_in zero = false
truth_in (suc n) = true

-- the cell that is stored so
abbrev pub cell_in : Gv → CellId
cell_in gnil = record { kind = Ref; number = 0 }
cell_in (gnum n) = record { kind = Ref; number = 0 }
cell_in (gcons a b) = record { kind = kind_in (number a); number = number b }

-- the plain value of a tag, with what it holds as a tree and as a row
abbrev pub by_tag : ℕ → Gv → PlainValues → PlainValue
by_tag zero b r = truth (truth_in (number b))
by_tag (suc zero) b r = int (pos (number b))
by_tag (suc (suc zero)) b r = int (negsuc (number b))
by_tag (suc (suc (suc zero))) b r = text (bytes_in b)
by_tag (suc (suc (suc (suc zero)))) b r = vector r
by_tag (suc (suc (suc (suc (suc zero))))) b r = cell (cell_in b)
by_tag (suc (suc (suc (suc (suc (suc n)))))) b r = key (bytes_in b)

-- a plain value and a row at once, since a tree may be read as either
abbrev pub both_in : Gv → PlainValue × PlainValues
both_in gnil = (nil, end)
both_in (gnum n) = (nil, end)
both_in (gcons a b) = (by_tag (number a) b (both_in b).1, more (both_in a).0 (both_in b).1)

-- plain values and rows that were stored are read back
mutual
  pub plain_in-out : (d : PlainValue) → (both_in (plain_out d)).0 ≡ d
  plain_in-out nil = refl
  plain_in-out (truth true) = refl
  plain_in-out (truth false) = refl
  plain_in-out (int (pos n)) = refl
  plain_in-out (int (negsuc n)) = refl
  plain_in-out (text bs) = ap text (bytes_in-out bs)
  plain_in-out (key bs) = ap key (bytes_in-out bs)
  plain_in-out (vector ds) = ap vector (row_in-out ds)
  plain_in-out (cell c) = ap (λ k. cell (record { kind = k; number = c.number })) (kind_in-out c.kind)

  pub row_in-out : (ds : PlainValues) → (both_in (row_out ds)).1 ≡ ds
  row_in-out end = refl
  row_in-out (more d ds) = λ i. more (plain_in-out d i) (row_in-out ds i)

-- so plain values are data that a model may have
abbrev pub coded_plain_value : Coded PlainValue
coded_plain_value = code_by Gv itself plain_out (λ g. (both_in g).0) plain_in-out

-- a measure that falls from a value to each thing inside, also to the parts by which a vector is stored
abbrev mutual
  pub plain_size : PlainValue → ℕ
  plain_size (vector ds) = 7 + row_nodes ds
  plain_size _ = 0

  -- the measure of a row: one for each item, and what is inside of it
  pub row_nodes : PlainValues → ℕ
  row_nodes end = 0
  row_nodes (more d ds) = suc (plain_size d + row_nodes ds)

-- the measure of a list
abbrev pub row_size : List PlainValue → ℕ
row_size ds = row_nodes (plain_row ds)

-- the same for the parts by which a vector is stored, from the leaves up to the vector
abbrev pub leaf_size : List PlainValue → ℕ
leaf_size ds = 1 + row_size ds

-- of a branch
abbrev pub branch_size : List PlainValue → ℕ
branch_size ds = 2 + row_size ds

-- of the rows
abbrev pub rows_size : List PlainValue → ℕ
rows_size ds = 3 + row_size ds

-- of the pointer to them
abbrev pub root_size : List PlainValue → ℕ
root_size ds = 4 + row_size ds

-- of the rows and the short list behind them
abbrev pub body_size : List PlainValue → ℕ
body_size ds = 5 + row_size ds

-- of the vector
abbrev pub items_size : List PlainValue → ℕ
items_size ds = 6 + row_size ds

-- how deep vectors nest: an empty one has depth 1
abbrev mutual
  pub depth : PlainValue → ℕ
  depth (vector ds) = suc (row_depth ds)
  depth _ = 0

  -- the depth of the deepest item
  pub row_depth : PlainValues → ℕ
  row_depth end = 0
  row_depth (more d ds) = max (depth d) (row_depth ds)
