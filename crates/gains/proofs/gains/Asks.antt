-- What `project` asks, as facts. Assumes nothing.
use Prim.Native.Nat.{ℕ, ◌≤◌, ◌<◌}
use mathlib.Core.Path.{◌≡◌}
use mathlib.Core.Bool.{true, ◌&&◌}
use lib.Dec.{leb, ltb, leb→le, ltb→lt}
use lib.Ieee.Fits.{and_l, and_r}
use Rattle.std.proofs.lemmas.Float.{T_from_true}
use Rattle.gains.specs.Gains.{projectable}

pub record Asked (size p n given slots : ℕ) : Type 0 where
  pub place : p < 8
  pub channels : n ≤ 24
  pub store : 285312 ≤ size
  pub points : n ≤ given
  pub room : n ≤ slots

pub asked : (size p n given slots : ℕ) → projectable size p n given slots ≡ true → Asked size p n given slots
asked size p n given slots h =
    let a = ltb p 8 in
    let b = leb n 24 in
    let c = leb 285312 size in
    let d = leb n given in
    let e = leb n slots in
    let abcd = and_l (a && b && c && d) e (T_from_true _ h) in
    let abc = and_l (a && b && c) d abcd in
    let ab = and_l (a && b) c abc in
    record {
      place = ltb→lt p 8 (and_l a b ab);
      channels = leb→le n 24 (and_r a b ab);
      store = leb→le 285312 size (and_r (a && b) c abc);
      points = leb→le n given (and_r (a && b && c) d abcd);
      room = leb→le n slots (and_r (a && b && c && d) e (T_from_true _ h));
    }
