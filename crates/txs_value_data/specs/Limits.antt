-- How much of each thing there may be. What is one more is refused, or faults.
use Rattle.std.specs.Prelude.{ℕ, ◌≤◌, ◌-◌, List, length}
use Rattle.txs_value_data.specs.PlainValue.{PlainValue, row_depth, plain_row}

-- ---- of values

-- the items of a vector, the parts of a form in brackets, and the arguments of a call
abbrev pub most_items : ℕ
most_items = 65535

-- the levels of a vector
abbrev pub most_depth : ℕ
most_depth = 32

-- the bytes of a text
abbrev pub most_text : ℕ
most_text = 65535

-- a list of no more items than a vector has, each of fewer levels than it may have
abbrev pub IsVector : List PlainValue → Type 0
IsVector ds = (length ds ≤ most_items) × (row_depth (plain_row ds) ≤ 31)

-- ---- of scripts

-- the bytes of a script
abbrev pub most_script : ℕ
most_script = 1048576

-- the levels of a form
abbrev pub most_nesting : ℕ
most_nesting = 100

-- the levels of a body, with those of the functions that it calls
abbrev pub most_levels : ℕ
most_levels = 1000

-- the definitions of cells, and the functions
abbrev pub most_definitions : ℕ
most_definitions = 1000

-- the threads
abbrev pub most_threads : ℕ
most_threads = 64

-- the parameters of a function
abbrev pub most_parameters : ℕ
most_parameters = 20

-- the locals that are live at once
abbrev pub most_locals : ℕ
most_locals = 200

-- the nodes of all bodies
abbrev pub most_nodes : ℕ
most_nodes = 200000

-- ---- of runs

-- the events of a book
unfoldable pub most_events : ℕ
most_events = 1000000

-- a transaction runs again at most so many times, so that its 10,000th try is its last
unfoldable pub reruns : ℕ
reruns = 9999
