use Rattle.std.proofs.Common.{◌≡◌, ◌≤◌, ◌+◌, ◌-◌, length}
use denote.Shadow.{shadow}
use denote.Text.{Utf8}
use Rattle.txs_machine.specs.Schedule.{spread}
use Rattle.txs_cli_report.specs.Plays.{items_in, followed, plays_of}
use Rattle.txs_cli_report.proofs.Reading.{HasBegun}
use Rattle.txs_cli_report.proofs.plays.read_plays.Given as goal

-- the plays so far, and those that the rest says, are those of the whole text; each of them has a byte of its own behind it
abbrev pub invariant-loop-item : goal.invariant-loop-item
invariant-loop-item l =
    record {
      whole : followed (spread l.plays.items) (plays_of (length l.text - length l.rest) (items_in l.rest)) ≡ plays_of 0 (items_in l.text);
      within : length l.rest ≤ length l.text;
      kept : length l.plays.items + length l.rest ≤ length l.text;
      begun : HasBegun l.text l.rest;
      utf8 : shadow (Utf8 l.rest);
    }

abbrev pub decreases-loop-item : goal.decreases-loop-item
decreases-loop-item l = length l.rest
