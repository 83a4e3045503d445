-- What a test of all says of one.
use Prim.Native.Nat.{ℕ, ◌<◌}
use mathlib.Core.Path.{◌≡◌, refl}
use mathlib.Core.Bool.{Bool, true}
use mathlib.Core.List.{List}
use lib.ListN.{length, get_or}
use Rattle.std.specs.List.{list_all}
use Rattle.std.proofs.lemmas.List.Recursion.{and_at}

pub all_at : {A : Type 0} (p : A → Bool) (l : List A) (i : ℕ) (d : A) → list_all p l ≡ true → i < length l → p (get_or l i d) ≡ true
all_at p l i d e h = and_at (list_all p) p refl (λ y ys. refl) l i d h e
