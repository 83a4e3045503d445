-- Names written to the front of a list: those of the active channels of `seen`.
use Prim.Native.Nat.{ℕ, ◌+◌, ◌<◌, min}
use mathlib.Core.Path.{◌≡◌, sym, ap, ◌∙◌}
use mathlib.Core.Bool.{true, false}
use mathlib.Core.List.{List, [], ◌∷◌, ◌++◌, map}
use native.Mathlib.Omega.{arith}
use lib.ListN.{length, get_or, take, drop, set, length-map, length-append}
use Rattle.std.specs.List.{filter}
use Rattle.std.proofs.lemmas.List.{append-nil, map-append}
use Rattle.std.proofs.lemmas.List.Elements.{filter_more}
use Rattle.lists.proofs.Filter.{write_more}
use Rattle.lists.proofs.Takes.{take_min}
use Rattle.layout.specs.declared.Channel.{Channel}
use Rattle.layout.specs.declared.Layout.{Layout}
use Rattle.layout.specs.Channels.{channels_of, active, channel_name, no_channel}

-- n names are written, and what lies behind is as it was
pub record Written (seen : List Channel) (old out : List ℕ) (n : ℕ) : Type 0 where
  pub count : n ≡ length (filter active seen)
  pub names : out ≡ map channel_name (filter active seen) ++ drop n old

module _ (xs : List Channel) (i : ℕ) (old out : List ℕ) (n : ℕ) (w : Written (take i xs) old out n) (h : i < length xs) where
  -- channel i is active
  pub written_more : active (get_or xs i no_channel) ≡ true → n < length old → Written (take (i + 1) xs) old (set out n (channel_name (get_or xs i no_channel))) (n + 1)
  written_more q k =
      let x = get_or xs i no_channel in
      let front = filter active (take i xs) in
      let more : filter active (take (i + 1) xs) ≡ front ++ (x ∷ []) = filter_more active xs i no_channel h ∙ rw q in
      record {
        count = rw (more, length-append front (x ∷ [])) (omega (arith, w.count));
        names = rw (more, map-append channel_name front (x ∷ []), w.names) (write_more (map channel_name front) old n (channel_name x) (length-map front channel_name ∙ sym w.count) k);
      }

  -- or not
  pub written_same : active (get_or xs i no_channel) ≡ false → Written (take (i + 1) xs) old out n
  written_same q =
      let more : filter active (take (i + 1) xs) ≡ filter active (take i xs) = filter_more active xs i no_channel h ∙ rw q (append-nil (filter active (take i xs))) in
      record { count = rw more w.count; names = rw more w.names }

-- the channels that a count covers are those of the layout
pub covered_is : (l : Layout) (n : ℕ) → length l.channels ≡ 24 → n ≡ min l.used 24 → take n l.channels ≡ channels_of l
covered_is l n k e = ap (λ (m : ℕ). take m l.channels) e ∙ take_min l.used 24 l.channels (omega arith)
