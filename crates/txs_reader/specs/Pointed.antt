-- A line of a text, and below it what points to a span of it.
use Rattle.std.specs.Prelude.{ℕ, ◌-◌, Bool, if◌then◌else◌, ◌==◌, List, [], ◌∷◌, ◌++◌, length, take, drop, replicate, max, slice_index}
use Rattle.std.specs.List.{flat_map}
use Rattle.txs_reader.specs.Place.{line_before, line_around}
use Rattle.txs_reader.specs.Sign.{Sign, signs, shown, blank, width}
use Rattle.txs_reader.specs.Window.{total, first_within, left_part, right_room, right_part, is_cut, begun}

-- A line without the carriage return at its end, if it has one.
abbrev pub without_return : List ℕ → List ℕ
without_return line = if slice_index line (length line - 1) == 13 then take (length line - 1) line else line

-- The line in which the offset is, as it is shown. A carriage return before the newline is no part of it.
abbrev pub line_shown : List ℕ → ℕ → List ℕ
line_shown text offset = without_return (line_around text offset)

-- The signs of that line before the offset, and from it on.
abbrev pub front : List ℕ → ℕ → List Sign
front text offset = signs (take (length (line_before text offset)) (line_shown text offset))

abbrev pub back : List ℕ → ℕ → List Sign
back text offset = signs (drop (length (line_before text offset)) (line_shown text offset))

-- Three bytes where a line is cut: the mark is `...`.
abbrev pub mark : Bool → ℕ → List ℕ
mark cut byte = if cut then replicate 3 byte else []

-- Some signs of a line, and a mark in place of those behind them.
abbrev pub seen_part : List Sign → List Sign → List ℕ
seen_part part all = flat_map shown part ++ mark (is_cut part all) 46

-- As many of these signs as have this room.
abbrev pub seen : ℕ → List Sign → List ℕ
seen n signs = seen_part (first_within n signs) signs

-- What is seen of a line, given its signs before a span's start, and from it on.
abbrev pub upper : List Sign → List Sign → List ℕ
upper front back =
    mark (is_cut (left_part front back) front) 46 ++ flat_map shown (left_part front back) ++ seen (right_room front back) back

-- Blanks below what is before the span's start.
abbrev pub indent : List Sign → List Sign → List ℕ
indent front back = mark (is_cut (left_part front back) front) 32 ++ flat_map blank (left_part front back)

-- Carets as wide as those signs that begin in the span, of so many bytes, and are seen: one at least.
abbrev pub carets : List Sign → List Sign → ℕ → List ℕ
carets front back size = replicate (max (total width (begun size (right_part front back))) 1) 94

abbrev pub two_lines : List Sign → List Sign → ℕ → List ℕ
two_lines front back size = upper front back ++ 10 ∷ indent front back ++ carets front back size ++ 10 ∷ []

-- The line in which the span begins, a newline, carets below what of the span is seen of it, and a newline.
abbrev pub pointed : List ℕ → ℕ → ℕ → List ℕ
pointed text start end = two_lines (front text start) (back text start) (end - start)
