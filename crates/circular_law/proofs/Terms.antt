-- The sums of the definition are the two sides of the alternating sum; and they don't depend on how the fraction p / q is written. Assumes nothing.
use mathlib.Core.Path.{◌≡◌, refl, sym, ap, ap₂, ◌∙◌}
use Prim.Native.Nat.{ℕ, zero, suc, ◌+◌, ◌-◌, ◌*◌, ◌/◌, ◌^◌, ◌≤◌}
use native.Mathlib.Nat.{mul_comm, mul_assoc, pow-suc, add-sub_of_le, mul-zero, zero-mul, add-mul}
use native.Mathlib.Omega.{arith}
use mathlib.Core.Bool.{Bool, true, false, ◌&&◌}
use mathlib.Core.List.{List, [], ◌∷◌}
use lib.Dec.{T, leb, leb→le}
use lib.Pow.{pow-add}
use lib.ListN.{length}
use lib.Ieee.Fits.{and_l, and_r}
use Rattle.std.proofs.lemmas.Nat.{mul-pow}
use Rattle.circular_law.specs.Law.{factorial, terms}
use Rattle.circular_law.proofs.Alternating.{side}
use Rattle.circular_law.proofs.Series.{quotients}

-- ---- powers
pub square_pow : (q m : ℕ) → (q * q) ^ m ≡ q ^ (m + m)
square_pow q m = mul-pow q q m ∙ sym (pow-add q m m)

-- ---- m factorials, e! first, and every other one; the exponents that are added (true) and those that are taken off
abbrev pub factorials : ℕ → ℕ → List ℕ
factorials e zero = []
factorials e (suc m) = factorial e ∷ factorials (suc (suc e)) m

abbrev pub exponents : Bool → ℕ → ℕ → List ℕ
exponents s e zero = []
exponents true e (suc m) = e ∷ exponents false (suc (suc e)) m
exponents false e (suc m) = exponents true (suc (suc e)) m

how_many : (F e m : ℕ) → length (quotients F (factorials e m)) ≡ m
how_many F e zero = refl
how_many F e (suc m) = ap suc (how_many F (suc (suc e)) m)

two_more : (p e s : ℕ) → p ^ e * (p * p * s) ≡ p ^ suc (suc e) * s
two_more p e s = sym (mul_assoc (p ^ e) (p * p) s) ∙ ap (λ (z : ℕ). z * s) (sym (mul_assoc (p ^ e) p p) ∙ sym (pow-suc p (suc e) ∙ ap (λ (z : ℕ). z * p) (pow-suc p e)))

head_term : (c w v p r : ℕ) → w ≡ v → p * (c * w + r) ≡ c * p * v + p * r
head_term c w v p r h = ap (λ (z : ℕ). p * (c * z + r)) h ∙ spread c v p r
  where
    spread : (c v p r : ℕ) → p * (c * v + r) ≡ c * p * v + p * r
    spread c v p r = omega arith

left_over : (n e m : ℕ) → n + 2 ≡ e + 2 * suc m → m + m ≡ n - e
left_over n e m h = omega arith

pub sums : (n p q : ℕ) (s : Bool) (e m : ℕ) → n + 2 ≡ e + 2 * m → p ^ e * side s (p * p) (q * q) (quotients (factorial n) (factorials e m)) ≡ terms n p q (exponents s e m)
unfolding side
sums n p q s e zero h = mul-zero (p ^ e)
sums n p q true e (suc m) h =
    let cs = quotients (factorial n) (factorials (suc (suc e)) m) in
    let r = side false (p * p) (q * q) cs in
    let c = factorial n / factorial e in
    let i = sums n p q false (suc (suc e)) m (omega arith) in
    head_term c ((q * q) ^ length cs) (q ^ (n - e)) (p ^ e) (p * p * r)
    (ap (λ (z : ℕ). (q * q) ^ z) (how_many (factorial n) (suc (suc e)) m) ∙ square_pow q m ∙ ap (λ (z : ℕ). q ^ z) (left_over n e m h))
    ∙ ap (λ (z : ℕ). c * p ^ e * q ^ (n - e) + z) (two_more p e r ∙ i)
sums n p q false e (suc m) h =
    let cs = quotients (factorial n) (factorials (suc (suc e)) m) in
    two_more p e (side true (p * p) (q * q) cs) ∙ sums n p q true (suc (suc e)) m (omega arith)

-- ---- the same fraction, written with other numbers
abbrev pub up_to : ℕ → List ℕ → Bool
up_to n [] = true
up_to n (e ∷ es) = leb e n && up_to n es

term_scaled : (c p q k n e : ℕ) → e ≤ n → c * (p * k) ^ e * (q * k) ^ (n - e) ≡ c * p ^ e * q ^ (n - e) * k ^ n
term_scaled c p q k n e l =
    ap₂ (λ (x y : ℕ). c * x * y) (mul-pow p k e) (mul-pow q k (n - e)) ∙ regroup c (p ^ e) (k ^ e) (q ^ (n - e)) (k ^ (n - e))
    ∙ ap (λ (z : ℕ). c * p ^ e * q ^ (n - e) * z) (sym (pow-add k e (n - e)) ∙ ap (λ (z : ℕ). k ^ z) (add-sub_of_le l))
  where
    regroup : (c a b d g : ℕ) → c * (a * b) * (d * g) ≡ c * a * d * (b * g)
    regroup c a b d g = omega arith

terms_scaled : (n p q k : ℕ) (es : List ℕ) → T (up_to n es) → terms n (p * k) (q * k) es ≡ terms n p q es * k ^ n
terms_scaled n p q k [] t = sym (zero-mul (k ^ n))
terms_scaled n p q k (e ∷ es) t =
    let c = factorial n / factorial e in
    ap₂ ◌+◌ (term_scaled c p q k n e (leb→le e n (and_l (leb e n) (up_to n es) t))) (terms_scaled n p q k es (and_r (leb e n) (up_to n es) t)) ∙ sym (add-mul (c * p ^ e * q ^ (n - e)) (terms n p q es) (k ^ n))

-- p / q and r / s are the same
pub terms_same : (n p q r s : ℕ) (es : List ℕ) → T (up_to n es) → p * s ≡ r * q → terms n p q es * s ^ n ≡ terms n r s es * q ^ n
terms_same n p q r s es t h = sym (terms_scaled n p q s es t) ∙ ap₂ (λ (x y : ℕ). terms n x y es) h (mul_comm q s) ∙ terms_scaled n r s q es t
