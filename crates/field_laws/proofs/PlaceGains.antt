-- The gains over a filled place: they follow from the numbers of the place alone, whichever place it is and whatever else the store holds; and each is finite and from 0 to 5/4. Assumes nothing.
use Prim.Native.Nat.{ℕ, zero, suc, ◌+◌, ◌*◌, ◌/◌, ◌≤◌, ◌<◌}
use mathlib.Core.Path.{◌≡◌, refl, sym, ap, ap₂, ◌∙◌, subst}
use mathlib.Core.Bool.{Bool, true, false, ◌&&◌, ◌||◌, not, cond}
use mathlib.Core.List.{List, [], ◌∷◌, ◌++◌}
use native.Mathlib.Nat.{mul-le-mul_right, sub-zero}
use native.Mathlib.Omega.{arith}
use borrow.Author.Tests.{le-leb, lt-leb, lt-ltb, le-ltb, ltb-true}
use lib.Dec.{T, leb, ltb}
use lib.Ieee.{Float, nan, binary64, fits, lt, eq}
use lib.ListN.{length, get_or, take, drop, get_or-append}
use lib.Seq.{length-take-le, get_or-take}
use Rattle.std.proofs.lemmas.Bool.{and_parts}
use Rattle.doubles.specs.Arithmetic.{◌⊗◌, one64, zero64}
use Rattle.doubles.specs.Norm.{Bounded}
use Rattle.layout.specs.Room.{Room, names_in, active_in}
use Rattle.layout.proofs.SoundRoom.{SoundRoom}
use Rattle.layout.specs.declared.Centre.{Centre}
use Rattle.gains.specs.declared.Wall.{Wall}
use Rattle.gains.specs.declared.Wall.TheVariants.{X, Y, Z}
use Rattle.field.specs.Knots as knots
use Rattle.gains.specs.Lookup.{tabulate, centre_knots, radius_knots, bracket_of}
use Rattle.gains.specs.Walls.{distance_of, nearer_of, wall_x, wall_y, nearest_wall}
use Rattle.gains.specs.Diffuse.{Rows, response_x, response_y, response_z, weight_of, ended, end_product, compensated_of, diffuse_of}
use Rattle.extent.specs.Kernel.{exponent_of}
use Rattle.gains.specs.Gains.{normalized_of, blend_of, blended, clamped_centre, rows_in, gains_of, projectable, projected}
use Rattle.field.specs.Place.{place_number, row_of_z, row_written, place_start, filled}
use Rattle.gains.proofs.DiffuseSigns.{table_rows, CentreFits, Good}
use Rattle.gains.proofs.Lookups.{placed_X, placed_Y, placed_Z, placed_radius, lookup_same}
use Rattle.field.proofs.PlaceNumbers.{place_fits, filled_length, filled_at}
use Rattle.field.proofs.PlaceClear.{room_place_clear}
use Rattle.gains.proofs.GainBounds.{clamped_fits, projected_bounded}
use Rattle.field.proofs.Tables.{row_index}

-- ---- the rows that are read: those of Z only where there is Z
abbrev pub row_read : Bool → ℕ → Bool
row_read deep i = ltb i 1486 && (deep || not (row_of_z i))

read_XY : (deep : Bool) (i : ℕ) → i < 1400 → row_read deep i ≡ true
read_XY true i h = rw (lt-ltb i 1486 (omega arith))
read_XY false i h = rw (lt-ltb i 1486 (omega arith), lt-leb 1400 i h, lt-leb 1484 i (omega arith))

read_ends : (deep : Bool) (i : ℕ) → 1480 ≤ i → i < 1484 → row_read deep i ≡ true
read_ends true i h k = rw (lt-ltb i 1486 (omega arith))
read_ends false i h k = rw (lt-ltb i 1486 (omega arith), le-leb 1400 i (omega arith), le-ltb i 1480 h, lt-leb 1484 i k)

read_deep : (i : ℕ) → i < 1486 → row_read true i ≡ true
read_deep i h = rw (lt-ltb i 1486 h)

-- ---- rows that agree where they are read give one diffuse field
module _ (f g : Rows) (deep : Bool) (c : Centre) (r : Float) (h : CentreFits c) (k : T (fits binary64 r)) (agree : (i : ℕ) → row_read deep i ≡ true → f i ≡ g i) where
  same_X : response_x f c r ≡ response_x g c r
  unfolding response_x
  same_X =
      lookup_same 34 c.x r (bracket_of (centre_knots knots.X) c.x) (bracket_of radius_knots r) (placed_X c.x h.0) (placed_radius r k) f g
      (λ (i : ℕ) (l : i < 700). agree i (read_XY deep i (omega arith)))

  same_Y : response_y f c r ≡ response_y g c r
  unfolding response_y
  same_Y =
      lookup_same 34 c.y r (bracket_of (centre_knots knots.Y) c.y) (bracket_of radius_knots r) (placed_Y c.y h.1) (placed_radius r k) (λ (i : ℕ). f (700 + i)) (λ (i : ℕ). g (700 + i))
      (λ (i : ℕ) (l : i < 700). agree (700 + i) (read_XY deep (700 + i) (omega arith)))

same_Z : (f g : Rows) (deep : Bool) (c : Centre) (r : Float) → CentreFits c → T (fits binary64 r) → ((i : ℕ) → row_read deep i ≡ true → f i ≡ g i) → response_z f deep c r ≡ response_z g deep c r
unfolding response_z
same_Z f g true c r h k agree =
    lookup_same 3 c.z r (bracket_of (centre_knots knots.Z) c.z) (bracket_of radius_knots r) (placed_Z c.z h.2) (placed_radius r k) (λ (i : ℕ). f (1400 + i)) (λ (i : ℕ). g (1400 + i))
    (λ (i : ℕ) (l : i < 80). agree (1400 + i) (read_deep (1400 + i) (omega arith)))
same_Z f g false c r h k agree = refl

-- the end response of a wall
EndSame : Rows → Rows → Wall → Type 0
EndSame f g w = (c : Centre) (r x y z : Float) → end_product w f c r x y z ≡ end_product w g c r x y z

nearer_same : (f g : Rows) (a b : Wall) → EndSame f g a → EndSame f g b → EndSame f g (nearer_of a b)
nearer_same f g a b p q = go (lt (distance_of b) (distance_of a))
  where
    go : (t : Bool) → EndSame f g (cond t b a)
    go true = q
    go false = p

module _ (f g : Rows) (deep : Bool) (agree : (i : ℕ) → row_read deep i ≡ true → f i ≡ g i) where
  ends_X : (far : Bool) (d : Float) → EndSame f g (X far d)
  unfolding EndSame end_product
  ends_X true d c r x y z = ap (λ (v : Float). ended v one64 c.x false r ⊗ y ⊗ z) (agree 1481 (read_ends deep 1481 (omega arith) (omega arith)))
  ends_X false d c r x y z = ap (λ (v : Float). ended v zero64 c.x false r ⊗ y ⊗ z) (agree 1480 (read_ends deep 1480 (omega arith) (omega arith)))

  ends_Y : (far : Bool) (d : Float) → EndSame f g (Y far d)
  unfolding EndSame end_product
  ends_Y true d c r x y z = ap (λ (v : Float). ended v one64 c.y false r ⊗ x ⊗ z) (agree 1483 (read_ends deep 1483 (omega arith) (omega arith)))
  ends_Y false d c r x y z = ap (λ (v : Float). ended v zero64 c.y false r ⊗ x ⊗ z) (agree 1482 (read_ends deep 1482 (omega arith) (omega arith)))

  ends_XY : (c : Centre) → EndSame f g (nearer_of (wall_x c.x) (wall_y c.y))
  ends_XY c =
      nearer_same f g (wall_x c.x) (wall_y c.y) (nearer_same f g _ _ (ends_X false _) (ends_X true _)) (nearer_same f g _ _ (ends_Y false _) (ends_Y true _))

ends_Z : (f g : Rows) → ((i : ℕ) → row_read true i ≡ true → f i ≡ g i) → (d : Float) → EndSame f g (Z d)
unfolding EndSame end_product
ends_Z f g agree d c r x y z = ap (λ (v : Float). ended v one64 c.z true r ⊗ x ⊗ y) (agree 1485 (read_deep 1485 (omega arith)))

ends_same : (f g : Rows) (deep : Bool) → ((i : ℕ) → row_read deep i ≡ true → f i ≡ g i) → (c : Centre) → EndSame f g (nearest_wall c deep)
unfolding nearest_wall
ends_same f g true agree c = nearer_same f g _ _ (ends_XY f g true agree c) (ends_Z f g agree _)
ends_same f g false agree c = ends_XY f g false agree c

-- the value by the three responses and the product with the end response
abbrev joined : Bool → Centre → Float → Float → Float → Float → Float → Float
joined deep c r x y z e = let w = weight_of c deep r in cond (eq w zero64) (x ⊗ y ⊗ z) (compensated_of (x ⊗ y ⊗ z) e w (exponent_of r))

abbrev joined_by : Rows → Bool → Centre → Float → Float → Float → Float → Float
joined_by f deep c r x y z = joined deep c r x y z (end_product (nearest_wall c deep) f c r x y z)

pub diffuse_same : (f g : Rows) (deep : Bool) (c : Centre) (r : Float) → CentreFits c → T (fits binary64 r) → ((i : ℕ) → row_read deep i ≡ true → f i ≡ g i) → diffuse_of f deep c r ≡ diffuse_of g deep c r
unfolding diffuse_of EndSame
diffuse_same f g deep c r h k agree =
    let x = response_x g c r in
    let y = response_y g c r in
    let z = response_z g deep c r in
    ap (λ (v : Float). joined_by f deep c r v (response_y f c r) (response_z f deep c r)) (same_X f g deep c r h k agree)
    ∙ ap (λ (v : Float). joined_by f deep c r x v (response_z f deep c r)) (same_Y f g deep c r h k agree)
    ∙ ap (λ (v : Float). joined_by f deep c r x y v) (same_Z f g deep c r h k agree)
    ∙ ap (λ (v : Float). joined deep c r x y z v) (ends_same f g deep agree c c r x y z)

-- ---- and so the same gains
listed_same : (f g : ℕ → Float) (n : ℕ) → ((k : ℕ) → k < n → f k ≡ g k) → tabulate f n ≡ tabulate g n
listed_same f g zero e = refl
listed_same f g (suc n) e = ap₂ (λ (xs : List Float) (x : Float). xs ++ (x ∷ [])) (listed_same f g n (λ k h. e k (omega arith))) (e n (omega arith))

pub gains_same : (f g : ℕ → Rows) (n : ℕ) (deep : Bool) (mean : ℕ) (r : Float) (c : Centre) (points : List Float) → CentreFits c → T (fits binary64 r) → ((k : ℕ) → k < n → (i : ℕ) → row_read deep i ≡ true → f k i ≡ g k i) → gains_of f n deep mean r c points ≡ gains_of g n deep mean r c points
unfolding gains_of
gains_same f g n deep mean r c points h k agree =
    ap (λ (v : List Float). blended (blend_of mean r) points (normalized_of v))
    (listed_same _ _ n (λ j l. diffuse_same (f j) (g j) deep (clamped_centre c) r (clamped_fits c h) k (agree j l)))

-- what `project` asks, of two places of two stores
both_ask : (p q n : ℕ) (s t : List Float) (given slots : ℕ) → p < 8 → q < 8 → 285312 ≤ length s → 285312 ≤ length t → projectable (length s) p n given slots ≡ projectable (length t) q n given slots
both_ask p q n s t given slots h k b d =
    ap₂ (λ (x y : Bool). x && leb n 24 && y && leb n given && leb n slots) (lt-ltb p 8 h ∙ sym (lt-ltb q 8 k)) (le-leb 285312 (length s) b ∙ sym (le-leb 285312 (length t) d))

-- ---- mean 0: the point gains, whatever the store holds
point_gains : (f : ℕ → Rows) (n : ℕ) (deep : Bool) (r : Float) (c : Centre) (points : List Float) → gains_of f n deep 0 r c points ≡ points
unfolding gains_of blend_of blended
point_gains f n deep r c points = refl

pub point_projected : (p q n : ℕ) (s t : List Float) (deep : Bool) (r : Float) (c : Centre) (points gains : List Float) → p < 8 → q < 8 → 285312 ≤ length s → 285312 ≤ length t → projected s p n deep 0 r c points gains ≡ projected t q n deep 0 r c points gains
unfolding projected
point_projected p q n s t deep r c points gains h k b d =
    ap (λ (g : List Float). cond (projectable (length s) p n (length points) (length gains)) (g ++ drop n gains) gains) (point_gains (rows_in s p n) n deep r c (take n points) ∙ sym (point_gains (rows_in t q n) n deep r c (take n points)))
    ∙ ap (λ (x : Bool). cond x (gains_of (rows_in t q n) n deep 0 r c (take n points) ++ drop n gains) gains) (both_ask p q n s t (length points) (length gains) h k b d)

pub point_bounded : (p n : ℕ) (s : List Float) (deep : Bool) (r : Float) (c : Centre) (points gains : List Float) → projectable (length s) p n (length points) (length gains) ≡ true → n ≤ length points → ((k : ℕ) → k < n → Bounded (get_or points k nan)) → (k : ℕ) → k < n → Bounded (get_or (projected s p n deep 0 r c points gains) k nan)
unfolding projected
point_bounded p n s deep r c points gains e long given k h =
    let m = length-take-le n points long in
    rw (e, point_gains (rows_in s p n) n deep r c (take n points))
    (subst Bounded (sym (get_or-append (take n points) (drop n gains) nan k (omega arith))) (subst Bounded (sym (get_or-take n points k nan h)) (given k h)))

-- ---- a filled place
module _ (room : Room) (sound : SoundRoom room) (p : ℕ) (store : List Float) (low : p < 8) (big : 285312 ≤ length store) (k i : ℕ) (within : k < active_in room) where
  in_store : i < 1486 → place_start p + (i * active_in room + k) < length store
  in_store h =
      let m : i * active_in room ≤ 1485 * active_in room = mul-le-mul_right (active_in room) (omega arith) in
      omega (arith, sound.few_active)

  its_row : (i * active_in room + k) / active_in room ≡ i
  its_row =
      ap (λ (m : ℕ). m / active_in room) (sym (sub-zero (i * active_in room + k)))
      ∙ (row_index 0 (active_in room) i (i * active_in room + k) (omega arith) (omega arith)).0

  pub place_row : i < 1486 → row_written room.layers i ≡ true → rows_in (filled room p store) p (active_in room) k i ≡ place_number room.layers (names_in room) (i * active_in room + k)
  place_row h w = filled_at room p store (i * active_in room + k) (in_store h) (ap (row_written room.layers) its_row ∙ w)

-- the rows read are those that are written
module _ (room : Room) (sound : SoundRoom room) (deep : Bool) (d : deep ≡ ltb 1 (length room.layers)) where
  abbrev n : ℕ
  n = active_in room

  read_written : (i : ℕ) → row_read deep i ≡ true → row_written room.layers i ≡ true
  read_written i h = ap (λ (b : Bool). ltb i 1486 && (b || not (row_of_z i))) (sym d) ∙ h

  read_low : (i : ℕ) → row_read deep i ≡ true → i < 1486
  read_low i h = ltb-true i 1486 ((and_parts (ltb i 1486) (deep || not (row_of_z i)) h).0)

  -- a place filled in one store and another filled in another give the same gains
  module _ (p q : ℕ) (s t : List Float) (lowP : p < 8) (lowQ : q < 8) (bigS : 285312 ≤ length s) (bigT : 285312 ≤ length t) (mean : ℕ) (r : Float) (c : Centre) (points gains : List Float) (centre : CentreFits c) (radius : T (fits binary64 r)) where
    filled_gains : (ps : List Float) → gains_of (rows_in (filled room p s) p n) n deep mean r c ps ≡ gains_of (rows_in (filled room q t) q n) n deep mean r c ps
    filled_gains ps =
        gains_same (rows_in (filled room p s) p n) (rows_in (filled room q t) q n) n deep mean r c ps centre radius
        (λ k h i w.
        let low = read_low i w in
        let wr = read_written i w in
        place_row room sound p s lowP bigS k i h low wr ∙ sym (place_row room sound q t lowQ bigT k i h low wr))

    pub filled_projected : projected (filled room p s) p n deep mean r c points gains ≡ projected (filled room q t) q n deep mean r c points gains
    unfolding projected
    filled_projected =
        let both = both_ask p q n (filled room p s) (filled room q t) (length points) (length gains) lowP lowQ (omega (arith, filled_length room p s)) (omega (arith, filled_length room q t)) in
        ap (λ (g : List Float). cond (projectable (length (filled room p s)) p n (length points) (length gains)) (g ++ drop n gains) gains) (filled_gains (take n points))
        ∙ ap (λ (b : Bool). cond b (gains_of (rows_in (filled room q t) q n) n deep mean r c (take n points) ++ drop n gains) gains) both

  -- each gain over a filled place is finite and from 0 to 5/4
  module _ (p : ℕ) (s : List Float) (low : p < 8) (big : 285312 ≤ length s) (mean : ℕ) (r : Float) (c : Centre) (points gains : List Float) (centre : CentreFits c) (radius : T (fits binary64 r)) where
    table_read : (b : Bool) (i : ℕ) → i < table_rows b → row_read b i ≡ true
    table_read true i h = read_deep i (omega arith)
    table_read false i h = read_XY false i h

    good_rows : (k : ℕ) → k < n → (i : ℕ) → i < table_rows deep → Good (rows_in (filled room p s) p n k i)
    good_rows k h i w =
        let j = i * n + k in
        let rd = table_read deep i w in
        subst Good (sym (place_row room sound p s low big k i h (read_low i rd) (read_written i rd)))
        (room_place_clear room sound j, place_fits room.layers (names_in room) j)

    pub filled_bounded : projectable (length s) p n (length points) (length gains) ≡ true → ((k : ℕ) → k < n → Bounded (get_or points k nan)) → (k : ℕ) → k < n → Bounded (get_or (projected (filled room p s) p n deep mean r c points gains) k nan)
    filled_bounded e given =
        projected_bounded (filled room p s) p n deep mean r c points gains
        (ap (λ (m : ℕ). projectable m p n (length points) (length gains)) (filled_length room p s) ∙ e)
        centre radius good_rows given
