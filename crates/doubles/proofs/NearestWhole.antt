-- A sum with 1.5 * 2 ^ 52 is rounded to the nearest whole number, a half going to the even one; and what the proof of `floor_near` cites: the floor is that number or one less. Assumes nothing.
use Rattle.doubles.proofs.Order.{at_least}
use Rattle.std.proofs.Common.{◌≡◌, ℕ, zero, suc, ◌+◌, ◌-◌, ◌*◌, ◌/◌, ◌^◌, ◌<◌, ◌≤◌, Bool, true, false, not, ◌&&◌, T, eqb, ltb, ℤ, pos, negsuc, neg_ℤ, nat_abs, sym, refl, ap, ◌∙◌, subst, inr, zero-le, le_trans, le_of_eq, lt_of_lt_of_le, le_of_suc-le-suc, lt_of_le_of_lt, add-zero, mul-le-mul_right, zero-lt-suc, mul_assoc, mul_comm, div-lt_iff_lt-mul, add-mul, lt_of_mul-lt-mul_right, mul-lt-mul_of_pos_right, mul-pos, le-div_iff_mul-le, zero-mul, mul-one, mul_right_comm, div-mul-le_self, add-one, arith, lit<, ltb→lt, lt→ltb, nltb→le, T_not, pow_pos, pow-add}
use native.Mathlib.Nat.{div-eq_of_lt-le, mul-add-div_right, lt-div-mul-add, div-le_of_le-mul}
use lib.IntN.{suc_ℤ}
use lib.Pow.{pow-lt}
use lib.Ieee.{Float, nan, inf, fin, Format, binary32, binary64, prec, emax, low, up, down, units, round, sum, add, sub, neg, below, lt, le, eq, ne, of_int}
use lib.Ieee.Fits.{two, two-le_pos, up_pos, down_pos, round_is, round-fits}
use lib.Ieee.Bits.{is_true, cond_no}
use lib.Ieee.Exact.{HasValue, units_val}
use lib.Ieee.Back.{round_whole}
use lib.Ieee.Nearest.{closest, closest_same}
use lib.Ieee.Order.{drop}
use lib.Ieee.Positive.{first_pos}
use Rattle.doubles.specs.Floor.{floor_of, shift, floor_near}
use Rattle.doubles.proofs.Rounding.{drop_is, closest_near, closest_moved}
use Rattle.doubles.proofs.Fractions.{rescale, add_of, lt_of, sum_plain, sum_minus, sum_turned}
use Rattle.doubles.proofs.AddZero.{minus_zero, plus_zero, add_zero_same, clear_not, value_not}
use Rattle.doubles.proofs.Signs.{round_clear}
use Rattle.doubles.proofs.Exponents.{cond_yes}

-- ---- from 2 ^ (prec - 1) to 2 ^ prec the values of a format are the whole numbers
under_top : (f : Format) → prec f < suc (emax f)
under_top binary32 = lit< tt
under_top binary64 = lit< tt

at_most : (g P D N : ℕ) → 0 < D → 2 * (g * D) ≤ 2 * N + D → N < P * D → g < suc P
at_most g P D N h a b = lt_of_mul-lt-mul_right (2 * D) (go (g * (2 * D)) (suc P * (2 * D)) (g * D) (P * D) (omega arith) (omega arith) a b)
  where
    go : (x y u v : ℕ) → x ≡ 2 * u → y ≡ 2 * v + 2 * D → 2 * u ≤ 2 * N + D → N < v → x < y
    go x y u v e k a b = omega arith

round_closest : (f : Format) (N D : ℕ) → 0 < D → 2 ^ (prec f - 1) * D ≤ N → N < 2 ^ prec f * D → HasValue (round f false N D) false (closest N D) 1
round_closest f N D P lo hi =
    let l = 2 ^ low f in
    let L = pow_pos (low f) in
    let g = closest N D in
    let k : drop (prec f) (N * l) D ≡ low f =
    drop_is (prec f) (N * l) D (low f) (two-le_pos (prec f) (two f)) P
    (inr (le_trans (le_of_eq (mul_right_comm (2 ^ (prec f - 1)) l D)) (mul-le-mul_right l lo)))
    (lt_of_lt_of_le (mul-lt-mul_of_pos_right hi L) (le_of_eq (mul_right_comm (2 ^ prec f) D l))) in
    let e : round f false N D ≡ units f false g (low f) =
    round_is f false N D ∙ ap (λ (z : ℕ). units f false (closest (N * l) (D * 2 ^ z)) z) k
    ∙ ap (λ (z : ℕ). units f false z (low f)) (closest_same (N * l) (D * l) N D (mul-pos P L) P (mul_right_comm N l D ∙ mul_assoc N D l)) in
    let small : g < 2 ^ suc (emax f) = lt_of_lt_of_le (at_most g (2 ^ prec f) D N P (closest_near N D P).1 hi) (pow-lt (under_top f)) in
    let fits : g * l < 2 ^ (low f + suc (emax f)) = lt_of_lt_of_le (mul-lt-mul_of_pos_right small L) (le_of_eq (mul_comm (2 ^ suc (emax f)) l ∙ sym (pow-add 2 (low f) (suc (emax f))))) in
    subst (λ (z : Float). HasValue z false g 1) (sym e) (rescale (units f false g (low f)) false (g * l) l g 1 L (sym (mul-one (g * l))) (units_val f false g (low f) fits))

-- ---- a whole number z as W + z, for W = 1.5 * 2 ^ 52
abbrev W : ℕ
W = 3 * 2 ^ 51

abbrev Shifted : ℕ → ℤ → Type 0
Shifted g (pos q) = g ≡ W + q
Shifted g (negsuc k) = g + suc k ≡ W

shifted : (g : ℕ) → (z : ℤ) × Shifted g z
shifted g = go (ltb g W) (ltb→lt g W) (nltb→le g W)
  where
    above : W ≤ g → g ≡ W + (g - W)
    above h = omega arith

    below' : g < W → g + suc (W - suc g) ≡ W
    below' h = omega arith

    go : (b : Bool) → (T b → g < W) → (T (not b) → W ≤ g) → (z : ℤ) × Shifted g z
    go true h k = (negsuc (W - suc g), below' (h tt))
    go false h k = (pos (g - W), above (k tt))

-- g as a double less W is z as a double
take_shift : (y : Float) (g : ℕ) (z : ℤ) → Shifted g z → HasValue y false g 1 → sub binary64 y shift ≡ of_int binary64 z
unfolding sub neg of_int
take_shift y g z h v = add_of binary64 y (fin true 3 (pos 51)) false g 1 true W 1 (zero-lt-suc 0) (zero-lt-suc 0) v (refl, refl) ∙ at z h
  where
    at : (z : ℤ) → Shifted g z → sum binary64 false (g * 1) true (W * 1) 1 ≡ of_int binary64 z
    at (pos q) h =
        let l : W ≤ g * 1 = omega arith in
        let e : g * 1 - W ≡ q = omega arith in
        sum_plain binary64 (g * 1) W 1 l ∙ ap (λ (n : ℕ). round binary64 false n 1) e
    at (negsuc k) h =
        let l : g * 1 < W = omega arith in
        let e : W - g * 1 ≡ suc k = omega arith in
        sum_minus binary64 (g * 1) W 1 l ∙ ap (λ (n : ℕ). round binary64 true n 1) e

-- ---- whole numbers as doubles
abbrev pub minus : ℤ → Bool
minus (pos q) = false
minus (negsuc k) = true

pub int_value : (z : ℤ) → nat_abs z ≤ 2 ^ 53 → HasValue (of_int binary64 z) (minus z) (nat_abs z) 1
unfolding of_int
int_value (pos q) h = round_whole binary64 false q h
int_value (negsuc k) h = round_whole binary64 true (suc k) h

-- one less than z + 1
less_one : (z : ℤ) → nat_abs (suc_ℤ z) ≤ 2 ^ 53 → sub binary64 (of_int binary64 (suc_ℤ z)) (fin false 1 (pos 0)) ≡ of_int binary64 z
unfolding sub neg of_int sum
less_one z h = add_of binary64 (of_int binary64 (suc_ℤ z)) (fin true 1 (pos 0)) (minus (suc_ℤ z)) (nat_abs (suc_ℤ z)) 1 true 1 1 (zero-lt-suc 0) (zero-lt-suc 0) (int_value (suc_ℤ z) h) (refl, refl) ∙ at z
  where
    at : (z : ℤ) → sum binary64 (minus (suc_ℤ z)) (nat_abs (suc_ℤ z) * 1) true 1 1 ≡ of_int binary64 z
    at (pos q) =
        let l : 1 ≤ suc q * 1 = omega arith in
        let e : suc q * 1 - 1 ≡ q = omega arith in
        sum_plain binary64 (suc q * 1) 1 1 l ∙ ap (λ (n : ℕ). round binary64 false n 1) e
    at (negsuc zero) = sum_minus binary64 0 1 1 (zero-lt-suc 0)
    at (negsuc (suc k)) =
        let e : suc k * 1 + 1 ≡ suc (suc k) = omega arith in
        ap (λ (n : ℕ). round binary64 true n 1) e

-- ---- the floor of ±a / D as a whole number
abbrev pub floor_int : Bool → ℕ → ℕ → ℤ
floor_int false a D = pos (a / D)
floor_int true a D = neg_ℤ (pos ((a + (D - 1)) / D))

-- the quotient, rounded up, of an a up to B * D
pub up_to : (a D B : ℕ) → 0 < D → a ≤ B * D → (a + (D - 1)) / D ≤ B
up_to a D B P h =
    let e : (B + 1) * D ≡ B * D + 1 * D = add-mul B 1 D in
    let l : a + (D - 1) < (B + 1) * D = omega arith in
    let r : (a + (D - 1)) / D < B + 1 = (div-lt_iff_lt-mul P).1 l in
    omega arith

pub down_to : (a D B : ℕ) → 0 < D → a ≤ B * D → a / D ≤ B
down_to a D B P h = div-le_of_le-mul D (le_trans h (le_of_eq (mul_comm B D)))

minus_int : (c : ℕ) → round binary64 (true && ltb 0 c) c 1 ≡ of_int binary64 (neg_ℤ (pos c))
unfolding of_int
minus_int zero = refl
minus_int (suc k) = ap (λ (b : Bool). round binary64 b (suc k) 1) (is_true (ltb 0 (suc k)) (lt→ltb 0 (suc k) (zero-lt-suc k)))

pub floor_int_lem : (s : Bool) (m : ℕ) (e : ℤ) → m * up e ≤ 2 ^ 53 * down e → add binary64 (floor_of binary64 (fin s m e)) (fin false 0 (pos 0)) ≡ of_int binary64 (floor_int s (m * up e) (down e))
unfolding floor_of of_int
floor_int_lem false m e h =
    let q = m * up e / down e in
    plus_zero binary64 (round binary64 false q 1) false q 1 (zero-lt-suc 0) (round_whole binary64 false q (down_to (m * up e) (down e) (2 ^ 53) (down_pos e) h))
floor_int_lem true m e h =
    let q = (m * up e + (down e - 1)) / down e in
    plus_zero binary64 (round binary64 true q 1) true q 1 (zero-lt-suc 0) (round_whole binary64 true q (up_to (m * up e) (down e) (2 ^ 53) (down_pos e) h)) ∙ minus_int q

-- ---- ±a / D, moved up by W, is N / D, which lies between 2 ^ 52 and 2 ^ 53
abbrev Moved : Bool → ℕ → ℕ → ℕ → Type 0
Moved false a D N = N ≡ W * D + a
Moved true a D N = N + a ≡ W * D

-- the floor moves along
floor_moved : (s : Bool) (a D N : ℕ) → 0 < D → Moved s a D N → Shifted (N / D) (floor_int s a D)
floor_moved false a D N P h = ap (λ (z : ℕ). z / D) h ∙ mul-add-div_right P W a
floor_moved true a D N P h = at ((a + (D - 1)) / D) refl
  where
    most : (c : ℕ) → (a + (D - 1)) / D ≡ c → (a ≤ c * D) × (c * D < a + D)
    most c e =
        let u : a + (D - 1) < c * D + D = subst (λ (z : ℕ). a + (D - 1) < z * D + D) e (lt-div-mul-add P) in
        let v : c * D ≤ a + (D - 1) = subst (λ (z : ℕ). z * D ≤ a + (D - 1)) e (div-mul-le_self (a + (D - 1)) D) in
        (omega arith, omega arith)

    rest : (c : ℕ) → (a ≤ c * D) × (c * D < a + D) → N / D + c ≡ W
    rest c k =
        let k0 = k.0 in
        let k1 = k.1 in
        let e1 : suc W * D ≡ W * D + D = omega arith in
        let l1 : c * D < suc W * D = omega arith in
        let l : c < suc W = lt_of_mul-lt-mul_right D l1 in
        let r = W - c in
        let e2 : W ≡ r + c = omega arith in
        let e3 : W * D ≡ r * D + c * D = ap (λ (z : ℕ). z * D) e2 ∙ add-mul r c D in
        let e4 : (r + 1) * D ≡ r * D + 1 * D = add-mul r 1 D in
        let lo : r * D ≤ N = omega arith in
        let hi : N < (r + 1) * D = omega arith in
        ap (λ (z : ℕ). z + c) (div-eq_of_lt-le D lo hi) ∙ sym e2

    at : (c : ℕ) → (a + (D - 1)) / D ≡ c → Shifted (N / D) (neg_ℤ (pos c))
    at zero e = sym (add-zero (N / D)) ∙ rest zero (most zero e)
    at (suc k) e = rest (suc k) (most (suc k) e)

-- the sum of ±a / D and `shift` is the double nearest to N / D
add_shift : (x : Float) (s : Bool) (a D N : ℕ) → 0 < D → HasValue x s a D → Moved s a D N → add binary64 x shift ≡ round binary64 false N D
unfolding sum
add_shift x s a D N P v h = add_of binary64 x shift s a D false W 1 P (zero-lt-suc 0) v (refl, refl) ∙ at s h
  where
    moved : (n : ℕ) → n ≡ N → round binary64 false n (D * 1) ≡ round binary64 false N D
    moved n e = ap (λ (k : ℕ). round binary64 false k (D * 1)) e ∙ ap (round binary64 false N) (mul-one D)

    at : (s : Bool) → Moved s a D N → sum binary64 s (a * 1) false (W * D) (D * 1) ≡ round binary64 false N D
    at false h = moved (a * 1 + W * D) (omega arith)
    at true h = sum_turned binary64 (a * 1) (W * D) (D * 1) (omega arith) ∙ moved (W * D - a * 1) (omega arith)

-- Of an a / D below 2 ^ 51, or of -0, that is W and the whole number nearest to a / D, a half going to the even one: W is even. It is written as 2 ^ 52 and the digits below.
pub sum_nearest : (x : Float) (s : Bool) (a D : ℕ) → 0 < D → HasValue x s a D → (T s → a ≡ 0) → a < 2 ^ 51 * D → HasValue (add binary64 x shift) false (2 ^ 52 + (2 ^ 51 + closest a D)) 1
sum_nearest x s a D P v z h =
    let N = W * D + a in
    let w : W + closest a D ≡ 2 ^ 52 + (2 ^ 51 + closest a D) = omega arith in
    subst (λ (y : Float). HasValue y false (2 ^ 52 + (2 ^ 51 + closest a D)) 1) (sym (add_shift x s a D N P v (at s z)))
    (subst (λ (g : ℕ). HasValue (round binary64 false N D) false g 1) (closest_moved W a D P refl ∙ w) (round_closest binary64 N D P (omega arith) (omega arith)))
  where
    at : (s : Bool) → (T s → a ≡ 0) → Moved s a D (W * D + a)
    at false z = refl
    at true z = let e = z tt in omega arith

-- whether ±a / D is below z, by the numbers moved up
below_moved : (s : Bool) (a D N g : ℕ) (z : ℤ) → 0 < D → Moved s a D N → Shifted g z → (T (below s (a * 1) (minus z) (nat_abs z * D)) → N < g * D) × (T (not (below s (a * 1) (minus z) (nat_abs z * D))) → g * D ≤ N)
below_moved false a D N g (pos q) P h k =
    let e : g * D ≡ W * D + q * D = ap (λ (n : ℕ). n * D) k ∙ add-mul W q D in (
      λ (t : T (ltb (a * 1) (q * D))). let l = ltb→lt (a * 1) (q * D) t in omega arith,
      λ (t : T (not (ltb (a * 1) (q * D)))). let l = nltb→le (a * 1) (q * D) t in omega arith,
    )
below_moved false a D N g (negsuc j) P h k =
    let e : g * D + suc j * D ≡ W * D = sym (add-mul g (suc j) D) ∙ ap (λ (n : ℕ). n * D) k in (
      λ (t : ⊥). absurd t,
      λ (t : T true). omega arith,
    )
below_moved true a D N g (pos q) P h k =
    let e : g * D ≡ W * D + q * D = ap (λ (n : ℕ). n * D) k ∙ add-mul W q D in (
      λ (t : T (ltb 0 (a * 1 + q * D))). let l = ltb→lt 0 (a * 1 + q * D) t in omega arith,
      λ (t : T (not (ltb 0 (a * 1 + q * D)))). let l = nltb→le 0 (a * 1 + q * D) t in omega arith,
    )
below_moved true a D N g (negsuc j) P h k =
    let e : g * D + suc j * D ≡ W * D = sym (add-mul g (suc j) D) ∙ ap (λ (n : ℕ). n * D) k in (
      λ (t : T (ltb (suc j * D) (a * 1))). let l = ltb→lt (suc j * D) (a * 1) t in omega arith,
      λ (t : T (not (ltb (suc j * D) (a * 1)))). let l = nltb→le (suc j * D) (a * 1) t in omega arith,
    )

-- z is no more than 2 ^ 53 in size
size_of : (g : ℕ) (z : ℤ) → Shifted g z → g ≤ 2 ^ 53 → nat_abs z ≤ 2 ^ 53
size_of g (pos q) h l = omega arith
size_of g (negsuc k) h l = omega arith

up_one : (h : ℕ) (z : ℤ) → Shifted h z → Shifted (suc h) (suc_ℤ z)
up_one h (pos q) k = omega arith
up_one h (negsuc zero) k = omega arith
up_one h (negsuc (suc j)) k = omega arith

-- ---- x from -2 ^ 51 up and below 2 ^ 51
abbrev Near : Float → Type 0
Near x = (s : Bool) × (m : ℕ) × (e : ℤ) × (N : ℕ) × (x ≡ fin s m e) × Moved s (m * up e) (down e) N × (2 ^ 52 * down e ≤ N) × (N < 2 ^ 53 * down e)

near : (x : Float) → T (le (fin true 1 (pos 51)) x) → T (lt x (fin false 1 (pos 51))) → Near x
unfolding le lt eq
near nan p q = absurd q
near (inf true) p q = absurd p
near (inf false) p q = absurd q
near (fin false m e) p q =
    let l = ltb→lt (m * up e * 1) (1 * 2 ^ 51 * down e) q in
    (false, m, e, W * down e + m * up e, refl, refl, omega arith, omega arith)
near (fin true m e) p q =
    let l = at_least (1 * 2 ^ 51 * down e) (m * up e * 1) p in
    let P = down_pos e in
    (true, m, e, W * down e - m * up e, refl, omega arith, omega arith, omega arith)

module _ (s : Bool) (m : ℕ) (e : ℤ) (N : ℕ) (k : Moved s (m * up e) (down e) N) (lo : 2 ^ 52 * down e ≤ N) (hi : N < 2 ^ 53 * down e) where
  -- the sum is rounded to the whole number G
  abbrev G : ℕ
  G = closest N (down e)

  G_le : G ≤ 2 ^ 53
  G_le = le_of_suc-le-suc (at_most G (2 ^ 53) (down e) N (down_pos e) (closest_near N (down e) (down_pos e)).1 hi)

  unfoldable n : Float
  n = sub binary64 (add binary64 (fin s m e) shift) shift

  n_is : (z : ℤ) → Shifted G z → n ≡ of_int binary64 z
  unfolding n
  n_is z h =
      ap (λ (y : Float). sub binary64 y shift) (add_shift (fin s m e) s (m * up e) (down e) N (down_pos e) (refl, refl) k)
      ∙ take_shift (round binary64 false N (down e)) G z h (round_closest binary64 N (down e) (down_pos e) lo hi)

  -- x + 1.5 * 2 ^ 52 in the place of x, and G in that of n
  tests : (T (lt (fin s m e) n) → N < G * down e) × (T (not (lt (fin s m e) n)) → G * down e ≤ N)
  tests =
      let z = shifted G in
      let v = int_value z.0 (size_of G z.0 z.1 G_le) in
      let t = ap (lt (fin s m e)) (n_is z.0 z.1) ∙ lt_of (fin s m e) (of_int binary64 z.0) s (m * up e) (down e) (minus z.0) (nat_abs z.0) 1 (down_pos e) (zero-lt-suc 0) (refl, refl) v in
      let b = below_moved s (m * up e) (down e) N G z.0 (down_pos e) k z.1 in
      (λ (u : T (lt (fin s m e) n)). b.0 (subst T t u), λ (u : T (not (lt (fin s m e) n))). b.1 (subst (λ (w : Bool). T (not w)) t u))

  floor_is : of_int binary64 (floor_int s (m * up e) (down e)) ≡ add binary64 (floor_of binary64 (fin s m e)) (fin false 0 (pos 0))
  floor_is = sym (floor_int_lem s m e (room s k))
    where
      room : (s : Bool) → Moved s (m * up e) (down e) N → m * up e ≤ 2 ^ 53 * down e
      room false h = omega arith
      room true h = omega arith

  one_less : T (lt (fin s m e) n) → sub binary64 n (fin false 1 (pos 0)) ≡ add binary64 (floor_of binary64 (fin s m e)) (fin false 0 (pos 0))
  one_less t =
      let l = tests.0 t in
      let P = down_pos e in
      let near = (closest_near N (down e) P).1 in
      let q = G - 1 in
      let some : 0 < G = first_pos G (down e) (lt_of_le_of_lt zero-le l) in
      let e1 : G ≡ q + 1 = omega arith in
      let e2 : G * down e ≡ q * down e + 1 * down e = ap (λ (z : ℕ). z * down e) e1 ∙ add-mul q 1 (down e) in
      let e3 : (q + 1) * down e ≡ q * down e + 1 * down e = add-mul q 1 (down e) in
      let from : q * down e ≤ N = omega arith in
      let under : N < (q + 1) * down e = omega arith in
      let F = floor_int s (m * up e) (down e) in
      let moved : Shifted q F = subst (λ (z : ℕ). Shifted z F) (div-eq_of_lt-le (down e) from under) (floor_moved s (m * up e) (down e) N P k) in
      let up : Shifted G (suc_ℤ F) = subst (λ (z : ℕ). Shifted z (suc_ℤ F)) (sym (e1 ∙ add-one q)) (up_one q F moved) in
      ap (λ (y : Float). sub binary64 y (fin false 1 (pos 0))) (n_is (suc_ℤ F) up) ∙ less_one F (size_of G (suc_ℤ F) up G_le) ∙ floor_is

  itself : T (not (lt (fin s m e) n)) → n ≡ add binary64 (floor_of binary64 (fin s m e)) (fin false 0 (pos 0))
  itself t =
      let from = tests.1 t in
      let P = down_pos e in
      let near = (closest_near N (down e) P).0 in
      let e3 : (G + 1) * down e ≡ G * down e + 1 * down e = add-mul G 1 (down e) in
      let under : N < (G + 1) * down e = omega arith in
      let F = floor_int s (m * up e) (down e) in
      n_is F (subst (λ (z : ℕ). Shifted z F) (div-eq_of_lt-le (down e) from under) (floor_moved s (m * up e) (down e) N P k)) ∙ floor_is

-- ---- the theorem: x less than n, the sum's difference, or not
abbrev pub difference : Float → Float
difference x = sub binary64 (add binary64 x shift) shift

pub floor_less : (x : Float) → T (lt x (difference x)) → sub binary64 (difference x) (fin false 1 (pos 0)) ≡ floor_near x
floor_less x h = sym (cond_yes (lt x (difference x)) (sub binary64 (difference x) (fin false 1 (pos 0))) (difference x) h)

pub floor_itself : (x : Float) → T (not (lt x (difference x))) → difference x ≡ floor_near x
floor_itself x h = sym (cond_no (lt x (difference x)) (sub binary64 (difference x) (fin false 1 (pos 0))) (difference x) h)

module _ (x : Float) (p : T (le (fin true 1 (pos 51)) x)) (q : T (lt x (fin false 1 (pos 51)))) where
  pub near_less : T (lt x (difference x)) → sub binary64 (difference x) (fin false 1 (pos 0)) ≡ add binary64 (floor_of binary64 x) (fin false 0 (pos 0))
  unfolding n
  near_less =
      let c = near x p q in
      subst (λ (y : Float). T (lt y (difference y)) → sub binary64 (difference y) (fin false 1 (pos 0)) ≡ add binary64 (floor_of binary64 y) (fin false 0 (pos 0))) (sym c.4) (one_less c.0 c.1 c.2 c.3 c.5 c.6 c.7)

  pub near_same : T (not (lt x (difference x))) → difference x ≡ add binary64 (floor_of binary64 x) (fin false 0 (pos 0))
  unfolding n
  near_same =
      let c = near x p q in
      subst (λ (y : Float). T (not (lt y (difference y))) → difference y ≡ add binary64 (floor_of binary64 y) (fin false 0 (pos 0))) (sym c.4) (itself c.0 c.1 c.2 c.3 c.5 c.6 c.7)

-- ---- only of -0 is the floor -0
above_none : (a D : ℕ) → 0 < D → 0 < a → 0 < (a + (D - 1)) / D
above_none a D P h = (le-div_iff_mul-le P).1 (omega arith)

pub floor_same : (x : Float) → T (le (fin true 1 (pos 51)) x) → T (lt x (fin false 1 (pos 51))) → T (not (minus_zero x)) → add binary64 (floor_of binary64 x) (fin false 0 (pos 0)) ≡ floor_of binary64 x
unfolding floor_of le lt eq
floor_same nan p q t = absurd q
floor_same (inf true) p q t = absurd p
floor_same (inf false) p q t = absurd q
floor_same (fin false m e) p q t = let c = m * up e / down e in add_zero_same binary64 (round binary64 false c 1) (round-fits binary64 false c 1) (clear_not (round binary64 false c 1) (round_clear binary64 c 1))
floor_same (fin true zero e) p q t = absurd t
floor_same (fin true (suc m) e) p q t =
    let a = suc m * up e in
    let c = (a + (down e - 1)) / down e in
    let l = at_least (1 * 2 ^ 51 * down e) (a * 1) p in
    let u : a ≤ 2 ^ 53 * down e = omega arith in
    add_zero_same binary64 (round binary64 true c 1) (round-fits binary64 true c 1)
    (value_not (round binary64 true c 1) true c 1 (above_none a (down e) (down_pos e) (mul-pos (zero-lt-suc m) (up_pos e))) (round_whole binary64 true c (up_to a (down e) (2 ^ 53) (down_pos e) u)))

pub differs_not : (x : Float) → T (ne x (fin false 0 (pos 0))) → T (not (minus_zero x))
unfolding ne eq
differs_not nan t = tt
differs_not (inf s) t = tt
differs_not (fin false m e) t = tt
differs_not (fin true (suc m) e) t = tt
differs_not (fin true zero e) t =
    absurd (T_not (eqb (0 * up e * 1) (0 * down e) && eqb (0 * up e * 1) 0) t (subst (λ (z : ℕ). T (eqb (z * 1) (0 * down e) && eqb (z * 1) 0)) (sym (zero-mul (up e))) (subst (λ (z : ℕ). T (eqb 0 z && true)) (sym (zero-mul (down e))) tt)))
