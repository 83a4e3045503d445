-- A layout made command by command. Definitions only.
use Rattle.std.specs.Prelude.{ℕ, ◌%◌, ◌/◌, cond, eqb, from_bits}
use Rattle.std.specs.Float.{binary64}
use Rattle.layout.specs.Build.{empty_layout, with_channel, with_layer, with_row, with_anchor}
use Rattle.layout.specs.declared.Channel.{Channel}
use Rattle.replay.specs.declared.room.Room.{Room}

-- a channel of that name; of its flags bit 0 says enabled, bit 1 LFE
abbrev pub channel_of : ℕ → ℕ → Channel
channel_of name flags = record { name = name; enabled = eqb (flags % 2) 1; lfe = eqb (flags / 2 % 2) 1 }

abbrev pub empty_room : Room
empty_room = record { layout = empty_layout; name = 0 }

-- 900 an empty layout, 901 a name, 902 a channel of that name with two flags, 903 a layer, 904 a row, all others an anchor of that name
abbrev pub obeyed : Room → ℕ → ℕ → Room
obeyed r k v =
    cond (eqb k 900) (record { layout = empty_layout; name = r.name })
    (cond (eqb k 901) (record { layout = r.layout; name = v })
    (cond (eqb k 902) (record { layout = with_channel r.layout (channel_of r.name v); name = r.name })
    (cond (eqb k 903) (record { layout = with_layer r.layout (from_bits binary64 v); name = r.name })
    (cond (eqb k 904) (record { layout = with_row r.layout (from_bits binary64 v); name = r.name })
    (record { layout = with_anchor r.layout (record { name = r.name; x = from_bits binary64 v }); name = r.name })))))
