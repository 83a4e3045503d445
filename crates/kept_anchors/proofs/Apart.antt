-- What stays where two parts of a key are written; parts with zeros behind them.
use Prim.Native.Nat.{ℕ, zero, suc, ◌+◌, ◌-◌, ◌<◌, ◌≤◌}
use mathlib.Core.Path.{◌≡◌, sym, ap, ap₂, ◌∙◌}
use mathlib.Core.Bool.{Bool}
use mathlib.Core.List.{List, ◌++◌}
use native.Mathlib.Omega.{arith}
use lib.ListN.{length, take, drop, set, get_or, length-append, get_or-append}
use lib.Seq.{slice, paste, paste-zero, paste-suc, length-paste, take-paste, drop-paste, take_all, length-take-le, take-append-le, get_or-take, get_or-drop, ext_get_or}
use Rattle.std.proofs.lemmas.List.{drop_at, take-take}
use Rattle.keys.specs.Keys.{filled_to}
use Rattle.keys.specs.Steps.{two_parts}
use Rattle.keys.proofs.KeyParts.{paste_set}
use Rattle.keys.proofs.KeyWhole.{length_filled}
use Rattle.kept_anchors.specs.Steps.Kept.{picked, picked_parts}
use Rattle.kept_anchors.proofs.Reached.{part_at, part_long}

-- ---- one part
module _ (d : List ℕ) (at : ℕ) (s : List ℕ) (n : ℕ) (r : at ≤ length d) (j : ℕ) where
  paste_before : j < at → get_or (paste d at s n) j 0 ≡ get_or d j 0
  paste_before h =
      let t = length-take-le at d r in
      get_or-append (take at d ++ take n s) (drop (at + n) d) 0 j (omega (arith, t, length-append (take at d) (take n s)))
      ∙ get_or-append (take at d) (take n s) 0 j (omega (arith, t))
      ∙ get_or-take at d j 0 h

  paste_behind : n ≤ length s → at + n ≤ j → get_or (paste d at s n) j 0 ≡ get_or d j 0
  paste_behind q h =
      let e : j ≡ at + n + (j - (at + n)) = omega arith in
      let to : List ℕ → ℕ → ℕ = λ (t : List ℕ) (i : ℕ). get_or t i 0 in
      ap (to (paste d at s n)) e
      ∙ sym (get_or-drop (at + n) (paste d at s n) (j - (at + n)) 0)
      ∙ ap (λ (t : List ℕ). get_or t (j - (at + n)) 0) (drop-paste d at s n r q)
      ∙ get_or-drop (at + n) d (j - (at + n)) 0
      ∙ ap (to d) (sym e)

-- two parts apart are written in either order
pub paste_apart : (d : List ℕ) (a : ℕ) (xs : List ℕ) (b : ℕ) (ys : List ℕ) (m n : ℕ) → a + n ≤ b → b + m ≤ length d → n ≤ length xs → m ≤ length ys → paste (paste d a xs n) b ys m ≡ paste (paste d b ys m) a xs n
paste_apart d a xs b ys m zero h r p q = ap (λ (l : List ℕ). paste l b ys m) (sym (paste-zero d a xs)) ∙ paste-zero (paste d b ys m) a xs
paste_apart d a xs b ys m (suc n) h r p q =
    let x = get_or xs n 0 in
    let once = length-paste d a xs n (omega arith) (omega arith) in
    let other = length-paste d b ys m r q in
    ap (λ (l : List ℕ). paste l b ys m) (sym (paste-suc d a xs n 0 (omega arith) (omega arith)))
    ∙ sym (paste_set (paste d a xs n) b ys m (a + n) x (omega arith) (omega arith))
    ∙ ap (λ (l : List ℕ). set l (a + n) x) (paste_apart d a xs b ys m n (omega arith) r (omega arith) q)
    ∙ paste-suc (paste d b ys m) a xs n 0 (omega arith) (omega arith)

-- ---- two parts
module _ (a b n : ℕ) (us vs old : List ℕ) (p : n ≤ length us) (q : n ≤ length vs) (apart : a + n ≤ b) (room : b + n ≤ length old) where
  first_long : length (paste old a us n) ≡ length old
  first_long = length-paste old a us n (omega arith) p

  two_long : length (two_parts a us b vs n old) ≡ length old
  two_long = length-paste (paste old a us n) b vs n (omega (arith, first_long)) q ∙ first_long

  pub two_between : (j : ℕ) → a + n ≤ j → j < b → get_or (two_parts a us b vs n old) j 0 ≡ get_or old j 0
  two_between j h k = paste_before (paste old a us n) b vs n (omega (arith, first_long)) j k ∙ paste_behind old a us n (omega arith) j p h

  pub two_behind : (j : ℕ) → b + n ≤ j → get_or (two_parts a us b vs n old) j 0 ≡ get_or old j 0
  two_behind j h = paste_behind (paste old a us n) b vs n (omega (arith, first_long)) j q h ∙ paste_behind old a us n (omega arith) j p (omega arith)

-- a part of two lists that agree there
same_part : (c m : ℕ) (l k : List ℕ) → c + m ≤ length l → c + m ≤ length k → ((j : ℕ) → c ≤ j → j < c + m → get_or l j 0 ≡ get_or k j 0) → slice c (c + m) l ≡ slice c (c + m) k
same_part c m l k p q h =
    let e = part_long c m l p in
    ext_get_or 0 (slice c (c + m) l) (slice c (c + m) k) (e ∙ sym (part_long c m k q))
    (λ i g. sym (part_at c m l i (omega (arith, e))) ∙ h (c + i) (omega arith) (omega (arith, e)) ∙ part_at c m k i (omega (arith, e)))

-- ---- parts with zeros behind them
module _ (a b n : ℕ) (us vs old : List ℕ) (p : length us ≤ n) (q : length vs ≤ n) (apart : a + n ≤ b) (room : b + n ≤ length old) where
  abbrev filled : List ℕ
  filled = two_parts a (filled_to n us) b (filled_to n vs) n old

  firsts_filled : n ≤ length (filled_to n us)
  firsts_filled = omega (arith, length_filled n us p)

  seconds_filled : n ≤ length (filled_to n vs)
  seconds_filled = omega (arith, length_filled n vs q)

  pub filled_long : length filled ≡ length old
  filled_long = two_long a b n (filled_to n us) (filled_to n vs) old firsts_filled seconds_filled apart room

  pub part_between : (c m : ℕ) → a + n ≤ c → c + m ≤ b → slice c (c + m) filled ≡ slice c (c + m) old
  part_between c m h k =
      same_part c m filled old (omega (arith, filled_long)) (omega arith)
      (λ j g f. two_between a b n (filled_to n us) (filled_to n vs) old firsts_filled seconds_filled apart room j (omega arith) (omega arith))

  pub part_behind : (c m : ℕ) → b + n ≤ c → c + m ≤ length old → slice c (c + m) filled ≡ slice c (c + m) old
  part_behind c m h k =
      same_part c m filled old (omega (arith, filled_long)) k
      (λ j g f. two_behind a b n (filled_to n us) (filled_to n vs) old firsts_filled seconds_filled apart room j (omega arith))

-- ---- a part written anew
module _ (a n : ℕ) (xs key : List ℕ) (p : length xs ≡ n) (room : a + n ≤ length key) where
  abbrev anew : List ℕ
  anew = paste key a xs n

  anew_long : length anew ≡ length key
  anew_long = length-paste key a xs n room (omega arith)

  pub before_anew : (c m : ℕ) → c + m ≤ a → slice c (c + m) anew ≡ slice c (c + m) key
  before_anew c m h =
      same_part c m anew key (omega (arith, anew_long)) (omega arith) (λ j g f. paste_before key a xs n (omega arith) j (omega arith))

  pub behind_anew : (c m : ℕ) → a + n ≤ c → c + m ≤ length key → slice c (c + m) anew ≡ slice c (c + m) key
  behind_anew c m h k =
      same_part c m anew key (omega (arith, anew_long)) k (λ j g f. paste_behind key a xs n (omega arith) j (omega arith) (omega arith))

-- ---- the first of two parts written anew
module _ (a b n : ℕ) (xs key : List ℕ) (p : length xs ≡ n) (apart : a + n ≤ b) (room : b + n ≤ length key) where
  abbrev first_new : List ℕ
  first_new = paste key a xs n

  front_long : length (take a key) ≡ a
  front_long = length-take-le a key (omega arith)

  first_anew : slice a (a + n) first_new ≡ xs
  first_anew =
      ap (drop a) (take-paste key a xs n (omega arith) (omega arith))
      ∙ drop_at (take a key) (take n xs) a front_long
      ∙ take_all n xs (omega arith)

  second_anew : slice b (b + n) first_new ≡ slice b (b + n) key
  second_anew = behind_anew a n xs key p (omega arith) b n apart room

  over_anew : (us : List ℕ) → paste first_new a us n ≡ paste key a us n
  over_anew us =
      ap₂ (λ (l r : List ℕ). l ++ take n us ++ r)
      (take-append-le a (take a key ++ take n xs) (drop (a + n) key) (omega (arith, front_long, length-append (take a key) (take n xs)))
      ∙ take-append-le a (take a key) (take n xs) (omega (arith, front_long))
      ∙ take-take a a key (omega arith))
      (drop-paste key a xs n (omega arith) (omega arith))

  -- what is kept of them
  pub anew_picked : (bs : List Bool) → picked_parts a b n bs (slice a (a + n) first_new) (slice b (b + n) first_new) first_new ≡ picked_parts a b n bs xs (slice b (b + n) key) key
  anew_picked bs = rw (first_anew, second_anew, over_anew (filled_to n (picked bs xs)))
