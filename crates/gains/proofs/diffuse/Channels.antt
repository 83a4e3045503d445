-- The channels of an array: its first n entries are f 0, f 1, .., and the rest is as it was. Assumes nothing.
use Prim.Native.Nat.{ℕ, zero, suc, ◌<◌}
use mathlib.Core.Path.{◌≡◌, refl, sym, ap, ◌∙◌}
use mathlib.Core.List.{List, [], ◌∷◌, ◌++◌}
use native.Mathlib.Nat.{add-zero}
use native.Mathlib.Omega.{arith}
use lib.Ieee.{Float, nan}
use lib.ListN.{length, get_or}
use lib.Seq.{ext_get_or, get_or-drop}
use Rattle.gains.specs.Lookup.{channels}
use Rattle.gains.proofs.lookup.Listing.{length_listed, get_or_listed}
use Rattle.gains.proofs.lookup.Writing.{Written}

-- functions that are equal below n
pub channels_cong : (n : ℕ) (f g : ℕ → Float) → ((k : ℕ) → k < n → f k ≡ g k) → channels n f ≡ channels n g
channels_cong zero f g h = refl
channels_cong (suc n) f g h =
    ap (λ (l : List Float). l ++ (f n ∷ [])) (channels_cong n f g (λ (k : ℕ) (l : k < n). h k (omega arith)))
    ∙ ap (λ (x : Float). channels n g ++ (x ∷ [])) (h n (omega arith))

-- and as many
pub channels_same : (m n : ℕ) (f g : ℕ → Float) → m ≡ n → ((k : ℕ) → k < n → f k ≡ g k) → channels m f ≡ channels n g
channels_same m n f g e h = rw e (channels_cong n f g h)

-- a list whose entries are f 0, f 1, ..
pub channels_of : (f : ℕ → Float) (n : ℕ) (l : List Float) → length l ≡ n → ((k : ℕ) → k < n → get_or l k nan ≡ f k) → l ≡ channels n f
channels_of f n l e h =
    let long = length_listed f n in
    ext_get_or nan l (channels n f) (omega arith) (λ (k : ℕ) (r : k < length l). let s : k < n = omega arith in h k s ∙ sym (get_or_listed f n k nan s))

-- where a loop writes next, the entry is as it was
pub written_reads : (F : ℕ → Float) (old out : List Float) (k : ℕ) (d : Float) → Written F old out k → get_or out k d ≡ get_or old k d
written_reads F old out k d w =
    ap (λ (i : ℕ). get_or out i d) (sym (add-zero k))
    ∙ sym (get_or-drop k out 0 d)
    ∙ ap (λ (l : List Float). get_or l 0 d) w.rest
    ∙ get_or-drop k old 0 d
    ∙ ap (λ (i : ℕ). get_or old i d) (add-zero k)
