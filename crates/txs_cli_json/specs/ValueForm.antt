-- What a value is in JSON.
use Rattle.std.specs.Prelude.{ℕ, List, [], codes, option_map, unwrap_or}
use Rattle.std.specs.List.{slice_get}
use Rattle.std.specs.Str.Lossy.{utf8_lossy}
use Rattle.serde_json.specs.Data.{Data, null, boolean, number, string, array, object, Items, no_items, item, no_members, member}
use Rattle.serde_json.specs.Find.{of_integer}
use Rattle.txs_value_cell.specs.declared.cell.CellDefinition.{CellDefinition}
use Rattle.txs_value_data.specs.PlainValue.{PlainValue, nil, truth, int, key, text, vector, cell, PlainValues, end, more}
use Rattle.txs_value_data.specs.declared.value.CellId.{CellId}
use Rattle.txs_value_data.specs.declared.value.CellKind.{CellKind}
use Rattle.txs_value_data.specs.declared.value.CellKind.TheVariants.{Ref, Atom, Agent}

-- the word for a kind of cells
abbrev pub kind_word : CellKind → List ℕ
kind_word Ref = codes "ref"
kind_word Atom = codes "atom"
kind_word Agent = codes "agent"

-- the name of a cell among these; nothing where there is none of its number
abbrev pub name_among : List CellDefinition → CellId → List ℕ
name_among cells c = unwrap_or (option_map (λ d. d.name) (slice_get cells c.number)) []

-- an object of one member: a name, whose bytes are a text, with the replacement character where they are none
abbrev pub named : List ℕ → List ℕ → Data
named word name = object (member word (string (utf8_lossy name)) no_members)

-- A value as JSON: nil as null, truth values, numbers and texts as they are, a keyword and a cell as an object that says its name,
-- and a vector as an array of its items in order. The first argument is what cells there are.
abbrev mutual
  pub value_json : List CellDefinition → PlainValue → Data
  value_json cells nil = null
  value_json cells (truth b) = boolean b
  value_json cells (int z) = number (of_integer z)
  value_json cells (key bs) = named (codes "keyword") bs
  value_json cells (text bs) = string bs
  value_json cells (vector ds) = array (items_json cells ds)
  value_json cells (cell c) = named (kind_word c.kind) (name_among cells c)

  -- the items of a vector
  pub items_json : List CellDefinition → PlainValues → Items
  items_json cells end = no_items
  items_json cells (more d ds) = item (value_json cells d) (items_json cells ds)
