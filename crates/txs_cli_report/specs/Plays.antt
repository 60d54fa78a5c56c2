-- A list of plays as a person writes it. A play is the number of its thread, for turns up to and with its next ask, or a `t` and that number, for one
-- turn; an `x` and a number behind it say how many times it is made. Between plays stand commas; the empty text is the empty list.
use Rattle.std.specs.Prelude.{◌≡◌, ℕ, ◌&&◌, ◌==◌, ◌+◌, nat_le, nat_lt, List, [], ◌∷◌, ◌++◌, length, replicate, Option, Some, None, if◌then◌else◌}
use Rattle.std.specs.Char.{is_ascii_digit}
use Rattle.std.specs.List.{list_all}
use Rattle.std.specs.Option.{option_map}
use Rattle.std.specs.Str.Parse.{digits_value}
use Rattle.std.specs.declared.result.Result.{Result}
use Rattle.std.specs.declared.result.Result.TheVariants.{Ok, Err}
use Rattle.txs_machine.specs.declared.schedule.Play.{Play}
use Rattle.txs_machine.specs.declared.schedule.Play.TheVariants.{Turn, Ask}
use Rattle.txs_cli_report.specs.declared.plays.WrongPlay.{WrongPlay}
use Rattle.txs_cli_report.specs.declared.plays.ListError.{ListError}
use Rattle.txs_cli_report.specs.declared.plays.ListError.TheVariants.{Wrong, Memory}

-- a number, where it isn't below the least nor above the most
abbrev pub ranged : ℕ → ℕ → ℕ → Option ℕ
ranged least most n = if nat_le least n && nat_le n most then Some n else None

-- the number that these decimal digits write, of which there is one at least, in its range
unfoldable pub number_in : ℕ → ℕ → List ℕ → Option ℕ
number_in least most text = if list_all is_ascii_digit text && nat_lt 0 (length text) then ranged least most (digits_value 10 text) else None

-- the number of a thread
abbrev pub thread_in : List ℕ → Option ℕ
thread_in text = number_in 0 65535 text

-- the play that a text says: a `t` before the thread's number is for one turn
abbrev pub play_in : List ℕ → Option Play
play_in [] = None
play_in (b ∷ bs) = if b == 116 then option_map Turn (thread_in bs) else option_map Ask (thread_in (b ∷ bs))

-- a byte before the first of two texts
abbrev pub lead : ℕ → List ℕ × List ℕ → List ℕ × List ℕ
lead b p = (b ∷ p.0, p.1)

-- what stands before the first such byte, and what stands behind it
abbrev pub cut_at : ℕ → List ℕ → Option (List ℕ × List ℕ)
cut_at c [] = None
cut_at c (b ∷ bs) = if b == c then Some ([], bs) else option_map (lead b) (cut_at c bs)

-- a play, so many times
abbrev pub repeated : Option Play → Option ℕ → Option (List Play)
repeated None times = None
repeated (Some play) None = None
repeated (Some play) (Some times) = Some (replicate times play)

-- the plays of an item that an `x` cuts so: as many as the number behind it says, and one without it
abbrev pub times_in : List ℕ → Option (List ℕ × List ℕ) → Option (List Play)
times_in text None = repeated (play_in text) (Some 1)
times_in text (Some (play, times)) = repeated (play_in play) (number_in 1 100000 times)

-- the plays that an item says
abbrev pub item_in : List ℕ → Option (List Play)
item_in text = times_in text (cut_at 120 text)

-- a byte before the first of some texts
abbrev pub led_by : ℕ → List (List ℕ) → List (List ℕ)
led_by b [] = (b ∷ []) ∷ []
led_by b (t ∷ ts) = (b ∷ t) ∷ ts

-- the items of a text: what stands between its commas
abbrev pub items_in : List ℕ → List (List ℕ)
items_in [] = [] ∷ []
items_in (b ∷ bs) = if b == 44 then [] ∷ items_in bs else led_by b (items_in bs)

-- plays before those of a list, if it is one
abbrev pub followed : List Play → Result (List Play) WrongPlay → Result (List Play) WrongPlay
followed ps (Ok qs) = Ok (ps ++ qs)
followed ps (Err w) = Err w

-- an item's plays before those of the items behind it; or where it stands, if it says none
abbrev pub with_item : ℕ → List ℕ → Option (List Play) → Result (List Play) WrongPlay → Result (List Play) WrongPlay
with_item from text (Some ps) later = followed ps later
with_item from text None later = Err (record { from = from; length = length text })

-- the plays of these items, of which the first begins at this byte; or where the first stands that is none
abbrev pub plays_of : ℕ → List (List ℕ) → Result (List Play) WrongPlay
plays_of from [] = Ok []
plays_of from (t ∷ ts) = with_item from t (item_in t) (plays_of (from + length t + 1) ts)

-- the plays that a text says, or where the first item stands that says none
abbrev pub plays_in : List ℕ → Result (List Play) WrongPlay
plays_in [] = Ok []
plays_in (b ∷ bs) = plays_of 0 (items_in (b ∷ bs))

-- the first of these items says a play
abbrev pub BeginsWithPlay : List (List ℕ) → Type 0
BeginsWithPlay [] = ⊥
BeginsWithPlay (t ∷ ts) = item_in t ≡ None → ⊥

-- a refusal of a list: it says where the first wrong item stands; or there was no memory, where the first item is none
abbrev pub IsListError : List ℕ → ListError → Type 0
IsListError text (Wrong w) = plays_in text ≡ Err w
IsListError text Memory = BeginsWithPlay (items_in text)

-- what an error tells of an item that begins at this byte: that it says no play, and where it stands; or there was no memory for the play that it says
abbrev pub IsItemError : ℕ → List ℕ → ListError → Type 0
IsItemError from text (Wrong w) = (item_in text ≡ None) × (w ≡ record { from = from; length = length text })
IsItemError from text Memory = item_in text ≡ None → ⊥
