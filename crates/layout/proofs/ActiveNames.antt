-- The names of the active channels in an array.
use Prim.Native.Nat.{ℕ, ◌≤◌}
use mathlib.Core.Path.{◌≡◌}
use mathlib.Core.List.{List, ◌++◌}
use native.Mathlib.Omega.{arith}
use lib.ListN.{length, take, drop, length-map, length-take}
use lib.Seq.{take-append_seam}
use Rattle.std.specs.List.{filter}
use Rattle.std.proofs.lemmas.List.Sums.{length-filter, count_by-le-length}
use Rattle.layout.specs.declared.Layout.{Layout}
use Rattle.layout.specs.Channels.{channels_of, active, channel_name, active_names, active_count}

-- no more are active than there are places
pub count_most : (l : Layout) → length l.channels ≡ 24 → active_count l ≤ 24
count_most l k = omega (arith, length-map (filter active (channels_of l)) channel_name, length-filter active (channels_of l), count_by-le-length active (channels_of l), length-take l.used l.channels)

-- the first entries of an array with the names written to its front are the names
pub names_front : (l : Layout) (n : ℕ) (old out : List ℕ) → n ≡ active_count l → out ≡ active_names l ++ drop (active_count l) old → take n out ≡ active_names l
names_front l n old out p q = rw (p, q) (take-append_seam (active_names l) (drop (active_count l) old))
