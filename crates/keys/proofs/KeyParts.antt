-- A key is written in parts: a loop that writes two of them, and a part that lies in its own zeros.
use Prim.Native.Nat.{ℕ, suc, ◌+◌, ◌<◌, ◌≤◌}
use mathlib.Core.Path.{◌≡◌, ◌∙◌}
use mathlib.Core.List.{List, ◌++◌}
use native.Mathlib.Numerals.{add-one}
use native.Mathlib.Omega.{arith}
use lib.ListN.{length, take, drop, set, get_or, length-set, length-append}
use lib.Seq.{paste, paste-suc, length-paste, length-take-le, set-append_left, take-set-lt, drop-set-lt}
use Rattle.keys.specs.Steps.{two_parts}

-- ---- what stands before a part is written apart from it
pub paste_set : {A : Type 0} (d : List A) (at : ℕ) (s : List A) (j k : ℕ) (v : A) → k < at → at ≤ length d → set (paste d at s j) k v ≡ paste (set d k v) at s j
paste_set d at s j k v h r =
    let u : k < length (take at d) = rw (length-take-le at d r) h in
    let w : k < length (take at d ++ take j s) = rw length-append (omega arith) in
    rw (set-append_left (take at d ++ take j s) (drop (at + j) d) k v w, set-append_left (take at d) (take j s) k v u, take-set-lt at d k v h, drop-set-lt (at + j) d k v (omega arith))

-- ---- the first i of xs stand from a on, and of ys from b on
pub record Packed (a : ℕ) (xs : List ℕ) (b : ℕ) (ys : List ℕ) (n : ℕ) (old key : List ℕ) (i : ℕ) : Type 0 where
  pub reached : i ≤ n
  pub firsts : n ≤ length xs
  pub seconds : n ≤ length ys
  pub apart : a + n ≤ b
  pub room : b + n ≤ length old
  pub long : length key ≡ length old
  pub same : key ≡ two_parts a xs b ys i old

module _ (a : ℕ) (xs : List ℕ) (b : ℕ) (ys : List ℕ) (n : ℕ) (old : List ℕ) where
  -- a turn writes one more of each
  pub packed_more : (key : List ℕ) (i j k x y d z : ℕ) → Packed a xs b ys n old key i → i < n → j ≡ a + i → k ≡ b + i → x ≡ get_or xs i d → y ≡ get_or ys i z → Packed a xs b ys n old (set (set key j x) k y) (i + 1)
  packed_more key i j k x y d z w h e f p q =
      let r = length-paste old a xs i (omega arith) (omega arith) in
      let t = length-paste old a xs (suc i) (omega arith) (omega arith) in
      record {
        reached = omega arith;
        firsts = w.firsts;
        seconds = w.seconds;
        apart = w.apart;
        room = w.room;
        long = length-set (set key j x) k y ∙ length-set key j x ∙ w.long;
        same =
            rw (w.same, e, f, p, q, add-one i, paste_set (paste old a xs i) b ys i (a + i) (get_or xs i d) (omega arith) (omega arith), paste-suc old a xs i d (omega arith) (omega arith))
            (paste-suc (paste old a xs (suc i)) b ys i z (omega arith) (omega arith));
      }
