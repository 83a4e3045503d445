-- Polynomials whose coefficients are differences a - b of natural numbers: g(P - x) as a polynomial in x, and how far it is from another polynomial, by the gaps between their coefficients. Assumes nothing.
use mathlib.Core.Path.{◌≡◌, refl, sym, ap, subst}
use Prim.Native.Nat.{ℕ, ◌+◌, ◌-◌, ◌*◌, ◌^◌, ◌≤◌, zero-le}
use native.Mathlib.Nat.{le_trans, mul-le-mul, mul-le-mul_right}
use native.Mathlib.Omega.{arith}
use mathlib.Core.Bool.{Bool, true, false}
use mathlib.Core.List.{List, [], ◌∷◌}
use lib.ListN.{length}
use Rattle.doubles.specs.Distance.{Apart}
use Rattle.circular_law.proofs.Alternating.{side}

-- ---- lists of natural coefficients, the constant first
abbrev pub at : List ℕ → ℕ → ℕ
at [] x = 0
at (a ∷ l) x = a + x * at l x

abbrev pub plus : List ℕ → List ℕ → List ℕ
plus [] m = m
plus (a ∷ l) [] = a ∷ l
plus (a ∷ l) (b ∷ m) = (a + b) ∷ plus l m

abbrev pub times : ℕ → List ℕ → List ℕ
times c [] = []
times c (a ∷ l) = c * a ∷ times c l

abbrev pub gaps : List ℕ → List ℕ → List ℕ
gaps [] m = m
gaps (a ∷ l) [] = a ∷ l
gaps (a ∷ l) (b ∷ m) = (a - b + (b - a)) ∷ gaps l m

at_plus : (l m : List ℕ) (x : ℕ) → at (plus l m) x ≡ at l x + at m x
at_plus [] m x = omega arith
at_plus (a ∷ l) [] x = omega arith
at_plus (a ∷ l) (b ∷ m) x = let e = at_plus l m x in rw e (omega arith)

at_times : (c : ℕ) (l : List ℕ) (x : ℕ) → at (times c l) x ≡ c * at l x
at_times c [] x = omega arith
at_times c (a ∷ l) x = let e = at_times c l x in rw e (omega arith)

at_mono : (l : List ℕ) (x z : ℕ) → x ≤ z → at l x ≤ at l z
at_mono [] x z h = zero-le
at_mono (a ∷ l) x z h = let k = mul-le-mul h (at_mono l x z h) in omega arith

one_gap : (a b x s t g : ℕ) → Apart s t g → Apart (a + x * s) (b + x * t) (a - b + (b - a) + x * g)
one_gap a b x s t g h = let k = mul-le-mul_right x h.0 in let l = mul-le-mul_right x h.1 in omega arith

at_gaps : (l m : List ℕ) (x : ℕ) → Apart (at l x) (at m x) (at (gaps l m) x)
at_gaps [] m x = omega arith
at_gaps (a ∷ l) [] x = omega arith
at_gaps (a ∷ l) (b ∷ m) x = one_gap a b x (at l x) (at m x) (at (gaps l m) x) (at_gaps l m x)

-- ---- lists of differences
abbrev pub Differences : Type 0
Differences = List (ℕ × ℕ)

abbrev pub added : Differences → List ℕ
added [] = []
added (d ∷ g) = d.0 ∷ added g

abbrev pub taken : Differences → List ℕ
taken [] = []
taken (d ∷ g) = d.1 ∷ taken g

-- g(P - x) = g0 + (P - x) * g'(P - x): its coefficients, what is added and what is taken off
abbrev pub turned : ℕ → Differences → List ℕ × List ℕ
turned P [] = ([], [])
turned P (d ∷ g) = let r = turned P g in (plus (d.0 ∷ r.1) (times P r.0), plus (d.1 ∷ r.0) (times P r.1))

around : (a b A p s t y z : ℕ) → s + z ≡ t + y → a + p * t + (A + p) * s + (b + A * z) ≡ b + p * s + (A + p) * t + (a + A * y)
around a b A p s t y z h = let e = ap (λ (w : ℕ). A * w) h in omega arith

at_turned : (A p : ℕ) (g : Differences) → at (turned (A + p) g).0 p + at (taken g) A ≡ at (turned (A + p) g).1 p + at (added g) A
at_turned A p [] = refl
at_turned A p (d ∷ g) =
    let P = A + p in
    let r = turned P g in
    rw (at_plus (d.0 ∷ r.1) (times P r.0) p, at_plus (d.1 ∷ r.0) (times P r.1) p, at_times P r.0 p, at_times P r.1 p)
    (around d.0 d.1 A p (at r.0 p) (at r.1 p) (at (added g) A) (at (taken g) A) (at_turned A p g))

-- ---- g at A = P - p beside k at p, for every p up to M: no further apart than the gaps between the coefficients at M
abbrev pub away : ℕ → ℕ → Differences → Differences → ℕ
away P M g k = let r = turned P g in at (gaps (plus r.0 (taken k)) (plus r.1 (added k))) M

through : (s t y z v w g e : ℕ) → Apart (s + w) (t + v) g → s + z ≡ t + y → g ≤ e → Apart (y + w) (v + z) e
through s t y z v w g e a h l = omega arith

turn_bound : (A p M e : ℕ) (g k : Differences) → p ≤ M → away (A + p) M g k ≤ e → Apart (at (added g) A + at (taken k) p) (at (added k) p + at (taken g) A) e
turn_bound A p M e g k l h =
    let r = turned (A + p) g in
    let a = plus r.0 (taken k) in
    let b = plus r.1 (added k) in
    through (at r.0 p) (at r.1 p) (at (added g) A) (at (taken g) A) (at (added k) p) (at (taken k) p) (at (gaps a b) p) e
    (rw (at_plus r.0 (taken k) p, at_plus r.1 (added k) p) at (at_gaps a b p)) (at_turned A p g) (le_trans (at_mono (gaps a b) p M l) h)

pub turn_at : (P A p M e : ℕ) (g k : Differences) (a b c d : ℕ) → A + p ≡ P → p ≤ M → away P M g k ≤ e → at (added g) A ≡ a → at (taken k) p ≡ b → at (added k) p ≡ c → at (taken g) A ≡ d → Apart (a + b) (c + d) e
turn_at P A p M e g k a b c d t l h q r s o =
    let m = turn_bound A p M e g k l (subst (λ (z : ℕ). away z M g k ≤ e) (sym t) h) in
    swap (at (added g) A) a (at (taken k) p) b (at (added k) p) c (at (taken g) A) d m q r s o
  where
    swap : (x a y b z c w d : ℕ) → Apart (x + y) (z + w) e → x ≡ a → y ≡ b → z ≡ c → w ≡ d → Apart (a + b) (c + d) e
    swap x a y b z c w d m q r s o = omega arith

-- ---- an alternating sum in x * x as such a polynomial in x, each coefficient c times
abbrev pub spread : ℕ → ℕ → Bool → List ℕ → Differences
spread c v s [] = []
spread c v true (a ∷ l) = (c * (a * v ^ length l), 0) ∷ (0, 0) ∷ spread c v false l
spread c v false (a ∷ l) = (0, c * (a * v ^ length l)) ∷ (0, 0) ∷ spread c v true l

keep : (c a x s : ℕ) → c * a + x * (0 + x * (c * s)) ≡ c * (a + x * x * s)
keep c a x s = omega arith

skip : (c x s : ℕ) → 0 + x * (0 + x * (c * s)) ≡ c * (x * x * s)
skip c x s = omega arith

pub record Spread (c v x : ℕ) (l : List ℕ) : Type 0 where
  pub up : at (added (spread c v true l)) x ≡ c * side true (x * x) v l
  pub down : at (taken (spread c v true l)) x ≡ c * side false (x * x) v l
  pub up' : at (added (spread c v false l)) x ≡ c * side false (x * x) v l
  pub down' : at (taken (spread c v false l)) x ≡ c * side true (x * x) v l

pub at_spread : (c v x : ℕ) (l : List ℕ) → Spread c v x l
unfolding side
at_spread c v x [] = let e : 0 ≡ c * 0 = omega arith in record { up = e; down = e; up' = e; down' = e }
at_spread c v x (a ∷ l) =
    let r = at_spread c v x l in
    let w = a * v ^ length l in
    record {
      up = rw r.up' (keep c w x (side false (x * x) v l));
      down = rw r.down' (skip c x (side true (x * x) v l));
      up' = rw r.up (skip c x (side true (x * x) v l));
      down' = rw r.down (keep c w x (side false (x * x) v l));
    }
