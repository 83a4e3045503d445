-- A list that is put together from two parts of a key.
use Prim.Native.Nat.{ℕ, ◌+◌, ◌≤◌, ◌<◌}
use mathlib.Core.Path.{◌≡◌, sym, ap, ap₂, ◌∙◌}
use mathlib.Core.List.{List}
use native.Mathlib.Omega.{arith}
use lib.ListN.{length, drop, get_or}
use lib.Seq.{slice, length-slice, get_or-take, get_or-drop}
use Rattle.lists.specs.Lists.{zip_with}
use Rattle.std.proofs.lemmas.List.{ext_get_or, drop-take}
use Rattle.lists.proofs.Zips.{zip_length, zip_at}

module _ {A : Type 0} (g : ℕ → ℕ → A) where
  slice_at : (key : List ℕ) (a n i : ℕ) → i < n → get_or (slice a (a + n) key) i 0 ≡ get_or key (a + i) 0
  slice_at key a n i h = ap (λ (l : List ℕ). get_or l i 0) (drop-take a n key) ∙ get_or-take n (drop a key) i 0 h ∙ get_or-drop a key i 0

  module _ (key : List ℕ) (a b n : ℕ) (h : a + n ≤ length key) (k : b + n ≤ length key) where
    as_long : length (slice a (a + n) key) ≡ length (slice b (b + n) key)
    as_long = omega (arith, length-slice a (a + n) key h, length-slice b (b + n) key k)

    parts_length : length (zip_with g (slice a (a + n) key) (slice b (b + n) key)) ≡ n
    parts_length = zip_length g (slice a (a + n) key) (slice b (b + n) key) as_long ∙ omega (arith, length-slice a (a + n) key h)

    -- a list is those entries where it is as long and each of its entries is
    pub parts_are : (out : List A) → length out ≡ n → ((i : ℕ) → i < n → get_or out i (g 0 0) ≡ g (get_or key (a + i) 0) (get_or key (b + i) 0)) → out ≡ zip_with g (slice a (a + n) key) (slice b (b + n) key)
    parts_are out e same =
        ext_get_or (g 0 0) out (zip_with g (slice a (a + n) key) (slice b (b + n) key)) (e ∙ sym parts_length)
        (λ i j. let k : i < n = omega arith in
        same i k ∙ sym (zip_at g (slice a (a + n) key) (slice b (b + n) key) i 0 0 (omega (arith, length-slice a (a + n) key h)) as_long ∙ ap₂ g (slice_at key a n i k) (slice_at key b n i k)))
