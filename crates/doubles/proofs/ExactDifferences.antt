-- Sterbenz: a difference x - y with y ≤ x ≤ 2 * y is exact, in any format. Both sizes are a number of no more digits than the format has, times a power of two. So is their difference, over the smaller of the two powers. Assumes nothing.
use Rattle.std.proofs.Common.{◌≡◌, ℕ, suc, ◌+◌, ◌-◌, ◌*◌, ◌^◌, ◌<◌, ◌≤◌, Bool, true, false, not, T, leb, sym, refl, ap, ◌∙◌, le_trans, le_of_eq, lt_of_lt_of_le, lt_of_le_of_lt, le_of_lt, mul_assoc, mul_comm, sub-add_cancel, le_of_mul-le-mul_right, sub-le, arith, leb→le, pow_pos, pow-add}
use lib.Dec.{nleb→lt}
use lib.Ieee.{Float, nan, inf, fin, Format, prec, emax, low, up, down, round, sub, fits}
use lib.Ieee.Exact.{round_exact}
use Rattle.doubles.proofs.Fractions.{sub_mul}
use Rattle.doubles.proofs.Magnitude.{mag, mag_of, mag_lt, plain, plain_finite, low_enough, small_enough, unit_pow}
use Rattle.doubles.proofs.Differences.{sub_at}

-- ---- a size that is m * 2 ^ j, for an m of no more digits than the format has
record Digits (f : Format) (X : ℕ) : Type 0 where
  m : ℕ
  j : ℕ
  few : m < 2 ^ prec f
  is : X ≡ m * 2 ^ j

digits : (f : Format) (x : Float) → T (fits f x) → T (plain x) → Digits f (mag f x)
digits f nan h p = absurd p
digits f (inf s) h p = absurd p
digits f (fin true m e) h p = absurd p
digits f (fin false m e) h p =
    let r = unit_pow (low f) e (low_enough f false m e h) in
    record {
      m = m;
      j = r.0;
      few = small_enough f false m e h;
      is = mag_of f (fin false m e) false (m * 2 ^ r.0) (refl, mul_assoc m (up e) (2 ^ low f) ∙ ap (λ (z : ℕ). m * z) r.1 ∙ sym (mul_assoc m (2 ^ r.0) (down e)));
    }

-- ---- a difference that is up to the smaller of the two
shifted : (m j k : ℕ) → k ≤ j → m * 2 ^ j ≡ m * 2 ^ (j - k) * 2 ^ k
shifted m j k h = ap (λ (z : ℕ). m * 2 ^ z) (sym (sub-add_cancel h)) ∙ ap (λ (z : ℕ). m * z) (pow-add 2 (j - k) k) ∙ sym (mul_assoc m (2 ^ (j - k)) (2 ^ k))

-- over the smaller of the two powers
over : (f : Format) (X Y a b m k : ℕ) → X ≡ a * 2 ^ k → Y ≡ b * 2 ^ k → X - Y ≤ m * 2 ^ k → m < 2 ^ prec f → Digits f (X - Y)
over f X Y a b m k hx hy le fw =
    let e : X - Y ≡ (a - b) * 2 ^ k = ap (λ (z : ℕ). z - Y) hx ∙ ap (λ (z : ℕ). a * 2 ^ k - z) hy ∙ sym (sub_mul a b (2 ^ k)) in
    let q : a - b ≤ m = le_of_mul-le-mul_right (le_trans (le_of_eq (sym e)) le) (pow_pos k) in
    record { m = a - b; j = k; few = lt_of_le_of_lt q fw; is = e }

difference : (f : Format) (X Y : ℕ) → Digits f X → Digits f Y → X ≤ 2 * Y → Digits f (X - Y)
difference f X Y x y h = go (leb y.j x.j) (leb→le y.j x.j) (nleb→lt y.j x.j)
  where
    half : X - Y ≤ Y
    half = omega arith

    go : (t : Bool) → (T t → y.j ≤ x.j) → (T (not t) → x.j < y.j) → Digits f (X - Y)
    go true l r = over f X Y (x.m * 2 ^ (x.j - y.j)) y.m y.m y.j (x.is ∙ shifted x.m x.j y.j (l tt)) y.is (le_trans half (le_of_eq y.is)) y.few
    go false l r = over f X Y x.m (y.m * 2 ^ (y.j - x.j)) x.m x.j x.is (y.is ∙ shifted y.m y.j x.j (le_of_lt (r tt))) (le_trans (sub-le X Y) (le_of_eq x.is)) x.few

pub sub_exact : (f : Format) (x y : Float) → T (fits f x) → T (fits f y) → T (plain x) → T (plain y) → mag f y ≤ mag f x → mag f x ≤ 2 * mag f y → mag f (sub f x y) ≡ mag f x - mag f y
sub_exact f x y h k p q l o =
    let X = mag f x in
    let Y = mag f y in
    let u = 2 ^ low f in
    let d = difference f X Y (digits f x h p) (digits f y k q) o in
    let top : X - Y < 2 ^ (low f + suc (emax f)) =
    lt_of_le_of_lt (sub-le X Y) (lt_of_lt_of_le (mag_lt f x h (plain_finite x p)) (le_of_eq (mul_comm (2 ^ suc (emax f)) u ∙ sym (pow-add 2 (low f) (suc (emax f)))))) in
    let e = d.is in
    ap (mag f) (sub_at f x y h k p q l)
    ∙ mag_of f (round f false (X - Y) u) false (X - Y) (round_exact f false (X - Y) u d.m d.j (pow_pos (low f)) d.few (lt_of_le_of_lt (le_of_eq (sym e)) top) (ap (λ (z : ℕ). z * u) e))
