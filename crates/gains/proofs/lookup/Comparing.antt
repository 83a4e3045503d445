-- The order of doubles, some of them finite with a clear sign. Assumes nothing.
use mathlib.Core.Path.{◌≡◌, refl, sym, ◌∙◌}
use mathlib.Core.Bool.{true, false, true≢false}
use lib.Dec.{T}
use lib.Ieee.{Float, nan, inf, fin, lt, le, eq, is_nan}
use lib.Ieee.Scale.{finite}
use lib.Ieee.Bits.{is_true}
use Rattle.std.proofs.lemmas.Float.{T_from_true, T_from_false, lt_irrefl, lt_of_lt_of_le, le_of_not-lt, le_right}
use Rattle.std.proofs.lemmas.Bool.{false_from_ne_true}
use Rattle.doubles.specs.Arithmetic.{zero64}
use Rattle.doubles.proofs.Magnitude.{plain}
use Rattle.field.proofs.ResponseOrder as order

-- what is above x is not at most x
pub not_le_of_lt : (x y : Float) → lt x y ≡ true → le y x ≡ false
not_le_of_lt x y h = false_from_ne_true (le y x) (λ e. lt_irrefl x (lt_of_lt_of_le x y x (T_from_true _ h) (T_from_true _ e)))

-- of finite values, what is not above is at most
pub le_of_not_lt : (x y : Float) → T (finite x) → T (finite y) → lt x y ≡ false → le y x ≡ true
le_of_not_lt x y h k e = is_true (le y x) (le_of_not-lt x y (order.number x h) (order.number y k) (T_from_false _ e))

-- what is neither above zero nor at most zero is a NaN
pub nan_of : (v : Float) → lt zero64 v ≡ false → le v zero64 ≡ false → v ≡ nan
nan_of nan h k = refl
nan_of (inf true) h k = unfold lt le eq in absurd (true≢false k)
nan_of (inf false) h k = unfold lt in absurd (true≢false h)
nan_of (fin s m e) h k = absurd (true≢false (sym (order.lt_of_not_le (fin s m e) zero64 tt tt k) ∙ h))

-- what lies above x, and not from y up, is finite with a clear sign
pub between_plain : (x y v : Float) → T (plain x) → T (plain y) → lt x v ≡ true → le y v ≡ false → T (plain v)
unfolding lt le eq
between_plain nan y v p q h k = absurd p
between_plain (inf s) y v p q h k = absurd p
between_plain (fin true m e) y v p q h k = absurd p
between_plain (fin false m e) nan v p q h k = absurd q
between_plain (fin false m e) (inf t) v p q h k = absurd q
between_plain (fin false m e) (fin true n d) v p q h k = absurd q
between_plain (fin false m e) (fin false n d) nan p q h k = absurd (true≢false (sym h))
between_plain (fin false m e) (fin false n d) (inf true) p q h k = absurd (true≢false (sym h))
between_plain (fin false m e) (fin false n d) (inf false) p q h k = absurd (true≢false k)
between_plain (fin false m e) (fin false n d) (fin true o g) p q h k = absurd (true≢false (sym h))
between_plain (fin false m e) (fin false n d) (fin false o g) p q h k = tt

-- nothing is at most a NaN
pub no_less : (x : Float) → le x nan ≡ false
unfolding is_nan
no_less x = false_from_ne_true (le x nan) (λ e. le_right x nan (T_from_true _ e))
