-- What lines say. Definitions only.
use Rattle.std.specs.Prelude.{ℕ, List, drop, get_or}
use Rattle.replay.specs.Hex.{three_of, hex_of}
use Rattle.replay.specs.declared.command.Command.{Command}
use Rattle.replay.specs.declared.command.Lettered.{Lettered}

-- three digits in front, and the digits behind the next byte
abbrev pub command_of : List ℕ → Command
command_of line = record { code = three_of line; value = hex_of (drop 4 line) }

-- a byte in front, and the digits behind the next one
abbrev pub lettered_of : List ℕ → Lettered
lettered_of line = record { letter = get_or line 0 0; value = hex_of (drop 2 line) }
