-- What the code writes into a place is the field, row by row, and the rows written are those of `filled_from`. Assumes nothing.
use Prim.Native.Nat.{ℕ, ◌+◌, ◌-◌, ◌*◌, ◌/◌, ◌%◌, ◌≤◌, ◌<◌, zero-le}
use mathlib.Core.Path.{◌≡◌, refl, sym, ap, ap₂, ◌∙◌, subst}
use mathlib.Core.Bool.{Bool, true, false, ◌&&◌, ◌||◌, not}
use mathlib.Core.List.{List, []}
use native.Mathlib.Nat.{mul-le-mul_right, mod-lt, le-div_iff_mul-le, div-lt_iff_lt-mul}
use native.Mathlib.Omega.{arith}
use borrow.Rule.Slice.PartMut.{mid_of, put_mid}
use borrow.Author.Tests.{ltb-true, ltb-false, lt-ltb, le-ltb, le-leb, lt-leb}
use lib.Dec.{leb, ltb}
use lib.Ieee.{Float, nan}
use lib.ListN.{length, get_or, take, drop, length-drop}
use lib.Seq.{take-length}
use Rattle.doubles.specs.Arithmetic.{one64, zero64}
use Rattle.layout.specs.declared.Layout.{Layout}
use Rattle.layout.specs.Channels.{active_names, active_count}
use Rattle.layout.specs.Topology.{TopologyLayer, topology_of}
use Rattle.layout.specs.Room.{Room, room_of, names_in}
use Rattle.extent.specs.Kernel.{kernel_of, exponent_of}
use Rattle.field.specs.Knots.{Axis, X, Y, Z, is_z, sample_count, sample, centre_knot, radius_knot}
use Rattle.field.specs.Responses.{response_on}
use Rattle.field.specs.Patched.{patched, within, either}
use Rattle.field.specs.Tables.{sampled_on, knot_number, number_xy}
use Rattle.field.specs.Place.{end_numbers, row_number, row_of_z, row_written, place_number, filled_from}
use Rattle.field.specs.Steps.Columns.{in_columns, Transposed}
use Rattle.field.specs.Steps.Filling.{ResponsesOn, rows_filled, filled_xy, filled_z, place_filled}
use Rattle.field.proofs.Patching.{same_test, within_says, within_holds, within_fails, within_join, patched_length, patched_as, patched_where, patched_cong, patched_both, part_patched, tail_patched}
use Rattle.field.proofs.ResponseSamples.{first_sample, last_sample_xy, last_sample_z}
use Rattle.field.proofs.Tables.{row_place, sampled_cong}

-- ---- the numbers of a row
module _ (t : List TopologyLayer) (r name : ℕ) where
  row_X : r < 700 → row_number t r name ≡ sampled_on X t (r / 20) (r % 20) name
  unfolding row_number
  row_X h = rw (lt-ltb r 700 h)

  row_Y : 700 ≤ r → r < 1400 → row_number t r name ≡ sampled_on Y t ((r - 700) / 20) ((r - 700) % 20) name
  unfolding row_number
  row_Y h k = rw (le-ltb r 700 h, lt-ltb r 1400 k)

  row_Z : 1400 ≤ r → r < 1480 → row_number t r name ≡ sampled_on Z t ((r - 1400) / 20) ((r - 1400) % 20) name
  unfolding row_number
  row_Z h k = rw (le-ltb r 700 (omega arith), le-ltb r 1400 h, lt-ltb r 1480 k)

module _ (t : List TopologyLayer) (name : ℕ) where
  row_X0 : row_number t 1480 name ≡ response_on X t zero64 name
  unfolding row_number end_numbers
  row_X0 = refl

  row_X1 : row_number t 1481 name ≡ response_on X t one64 name
  unfolding row_number end_numbers
  row_X1 = refl

  row_Y0 : row_number t 1482 name ≡ response_on Y t zero64 name
  unfolding row_number end_numbers
  row_Y0 = refl

  row_Y1 : row_number t 1483 name ≡ response_on Y t one64 name
  unfolding row_number end_numbers
  row_Y1 = refl

  row_Z0 : row_number t 1484 name ≡ response_on Z t zero64 name
  unfolding row_number end_numbers
  row_Z0 = refl

  row_Z1 : row_number t 1485 name ≡ response_on Z t one64 name
  unfolding row_number end_numbers
  row_Z1 = refl

-- ---- from the responses at the samples

-- the n responses of the first and of the last row, one after another
pub record EndsOf (rows : List (List Float)) (last n : ℕ) (ends : List Float) : Type 0 where
  pub first : (k : ℕ) → k < n → get_or ends k nan ≡ get_or (get_or rows 0 []) k nan
  pub end : (k : ℕ) → k < n → get_or ends (n + k) nan ≡ get_or (get_or rows last []) k nan

-- a column for each channel: its responses at the samples
abbrev ColumnsOn : Axis → Layout → List (List Float) → Type 0
ColumnsOn a l columns = (s k : ℕ) → s < sample_count a → k < active_count l → in_columns columns s k ≡ response_on a (topology_of l) (sample a s) (get_or (active_names l) k 0)

columns_on : (a : Axis) (l : Layout) (rows columns : List (List Float)) → ResponsesOn a l rows → Transposed rows columns (sample_count a) (active_count l) → ColumnsOn a l columns
columns_on a l rows columns r t s k h m = t s k h m ∙ r.values s k h m

module _ (l : Layout) where
  abbrev named : ℕ → ℕ
  named k = get_or (active_names l) k 0

  knot_sampled : (a : Axis) (x : List (List Float)) → ColumnsOn a l x → (knot k : ℕ) → k < active_count l → knot_number a x knot k ≡ sampled_on a (topology_of l) (knot / 20) (knot % 20) (named k)
  unfolding knot_number sampled_on
  knot_sampled a x rx knot k m =
      let K : ℕ → Float = λ (s : ℕ). kernel_of (sample a s) (centre_knot a (knot / 20)) (radius_knot (knot % 20)) (is_z a) in
      sampled_cong K K (λ (s : ℕ). in_columns x s k) (λ (s : ℕ). response_on a (topology_of l) (sample a s) (named k)) (exponent_of (radius_knot (knot % 20))) (sample_count a)
      (λ (s : ℕ) (h : s < sample_count a). refl)
      (λ (s : ℕ) (h : s < sample_count a). rx s k h m)

  -- the tables of X and Y
  number_is : (x y : List (List Float)) → ColumnsOn X l x → ColumnsOn Y l y → (r k : ℕ) → r < 1400 → k < active_count l → number_xy x y r k ≡ row_number (topology_of l) r (named k)
  unfolding number_xy
  number_is x y rx ry r k h m = part (ltb r 700) refl
    where
      part : (b : Bool) → ltb r 700 ≡ b → number_xy x y r k ≡ row_number (topology_of l) r (named k)
      part true e =
          let low : number_xy x y r k ≡ knot_number X x r k = rw e in
          low ∙ knot_sampled X x rx r k m ∙ sym (row_X (topology_of l) r (named k) (ltb-true r 700 e))
      part false e =
          let high : number_xy x y r k ≡ knot_number Y y (r - 700) k = rw e in
          high ∙ knot_sampled Y y ry (r - 700) k m ∙ sym (row_Y (topology_of l) r (named k) (ltb-false r 700 e) h)

  abbrev n : ℕ
  n = active_count l

  -- the number that stands at an index
  abbrev number_at : ℕ → Float
  number_at i = place_number (topology_of l) (active_names l) i

  table_xy_filled : (x y : List (List Float)) (place : List Float) → ColumnsOn X l x → ColumnsOn Y l y → 1 ≤ n → patched (within 0 (1400 * n)) (λ (i : ℕ). number_xy x y (i / n) (i % n)) place ≡ rows_filled l 0 1400 place
  unfolding place_number
  table_xy_filled x y place rx ry some =
      patched_cong (within 0 (1400 * n)) (within (0 * n) (1400 * n)) (λ (i : ℕ). number_xy x y (i / n) (i % n)) number_at place
      (λ (i : ℕ) (k : i < length place). ap (λ (b : ℕ). within b (1400 * n) i) (omega arith))
      (λ (i : ℕ) (k : i < length place) (w : within 0 (1400 * n) i ≡ true).
      let p = within_says 0 (1400 * n) i w in
      number_is x y rx ry (i / n) (i % n) ((div-lt_iff_lt-mul some).1 (omega arith)) (mod-lt i some))

  table_z_filled : (z : List (List Float)) (place : List Float) → ColumnsOn Z l z → 1 ≤ n → patched (within (1400 * n) (1480 * n)) (λ (i : ℕ). knot_number Z z (i / n - 1400) (i % n)) place ≡ rows_filled l 1400 1480 place
  unfolding place_number
  table_z_filled z place rz some =
      patched_as (within (1400 * n) (1480 * n)) (λ (i : ℕ). knot_number Z z (i / n - 1400) (i % n)) number_at place
      (λ (i : ℕ) (k : i < length place) (w : within (1400 * n) (1480 * n) i ≡ true).
      let p = within_says (1400 * n) (1480 * n) i w in
      let low : 1400 ≤ i / n = (le-div_iff_mul-le some).1 (omega arith) in
      let high : i / n < 1480 = (div-lt_iff_lt-mul some).1 (omega arith) in
      knot_sampled Z z rz (i / n - 1400) (i % n) (mod-lt i some) ∙ sym (row_Z (topology_of l) (i / n) (named (i % n)) low high))

  -- number k of row r
  number_in : (r k : ℕ) → k < n → number_at (r * n + k) ≡ row_number (topology_of l) r (named k)
  unfolding place_number
  number_in r k h =
      let q = row_place n r (r * n + k) (omega arith) (omega arith) in
      let e : r * n + k - r * n ≡ k = omega arith in
      ap₂ (λ (r' k' : ℕ). row_number (topology_of l) r' (named k')) q.0 (q.1 ∙ e)

  -- the end responses are rows r and r + 1 where these rows' numbers are the responses at the first and the last sample
  ends_filled : (a : Axis) (x : List (List Float)) → ResponsesOn a l x → (last r e : ℕ) → e ≡ r + 2 → 0 < sample_count a → last < sample_count a →
      ((name : ℕ) → row_number (topology_of l) r name ≡ response_on a (topology_of l) (sample a 0) name) →
      ((name : ℕ) → row_number (topology_of l) (r + 1) name ≡ response_on a (topology_of l) (sample a last) name) →
      (place ends : List Float) → EndsOf x last n ends → length ends ≡ length (mid_of (r * n) (e * n - r * n) place) → e * n ≤ length place → put_mid (r * n) (e * n - r * n) place ends ≡ rows_filled l r e place
  ends_filled a x rx last r e is first end low high place ends of size long =
      let k : e * n ≡ r * n + 2 * n = ap (λ (m : ℕ). m * n) is ∙ omega arith in
      part_patched (r * n) (e * n) number_at place ends (omega arith) long size (λ (i : ℕ) (h : i < e * n - r * n). at i (ltb i n) refl (omega arith))
    where
      at : (i : ℕ) (t : Bool) → ltb i n ≡ t → i < 2 * n → get_or ends i nan ≡ number_at (r * n + i)
      at i true q h =
          let k : i < n = ltb-true i n q in
          of.first i k ∙ rx.values 0 i first k ∙ sym (number_in r i k ∙ low (named i))
      at i false q h =
          let k : n ≤ i = ltb-false i n q in
          let m : i - n < n = omega arith in
          let d : n + (i - n) ≡ i = omega arith in
          let f : (r + 1) * n + (i - n) ≡ r * n + i = omega arith in
          ap (λ (j : ℕ). get_or ends j nan) (sym d) ∙ of.end (i - n) m ∙ rx.values last (i - n) end m ∙ sym (ap number_at (sym f) ∙ number_in (r + 1) (i - n) m ∙ high (named (i - n)))

  -- rows a up to b, and then b up to c
  rows_join : (a b c : ℕ) → a ≤ b → b ≤ c → (place : List Float) → rows_filled l b c (rows_filled l a b place) ≡ rows_filled l a c place
  rows_join a b c h k place =
      patched_both (within (b * n) (c * n)) (within (a * n) (b * n)) number_at place
      ∙ patched_where (either (within (a * n) (b * n)) (within (b * n) (c * n))) (within (a * n) (c * n)) number_at place
      (λ (i : ℕ) (j : i < length place). within_join (a * n) (b * n) (c * n) i (mul_mono h) (mul_mono k))
    where
      mul_mono : {x y : ℕ} → x ≤ y → x * n ≤ y * n
      mul_mono h = mul-le-mul_right n h

  abbrev at_first : (a : Axis) → (name : ℕ) → response_on a (topology_of l) zero64 name ≡ response_on a (topology_of l) (sample a 0) name
  at_first a name = ap (λ (u : Float). response_on a (topology_of l) u name) (sym (first_sample a))

  ends_x : (x : List (List Float)) → ResponsesOn X l x → (place ends : List Float) → EndsOf x 19 n ends → length ends ≡ length (mid_of (1480 * n) (1482 * n - 1480 * n) place) → 1482 * n ≤ length place → put_mid (1480 * n) (1482 * n - 1480 * n) place ends ≡ rows_filled l 1480 1482 place
  ends_x x rx place ends =
      ends_filled X x rx 19 1480 1482 refl (omega arith) (omega arith)
      (λ (name : ℕ). row_X0 (topology_of l) name ∙ at_first X name)
      (λ (name : ℕ). row_X1 (topology_of l) name ∙ ap (λ (u : Float). response_on X (topology_of l) u name) (sym last_sample_xy)) place ends

  ends_y : (y : List (List Float)) → ResponsesOn Y l y → (place ends : List Float) → EndsOf y 19 n ends → length ends ≡ length (mid_of (1482 * n) (1484 * n - 1482 * n) place) → 1484 * n ≤ length place → put_mid (1482 * n) (1484 * n - 1482 * n) place ends ≡ rows_filled l 1482 1484 place
  ends_y y ry place ends =
      ends_filled Y y ry 19 1482 1484 refl (omega arith) (omega arith)
      (λ (name : ℕ). row_Y0 (topology_of l) name ∙ at_first Y name)
      (λ (name : ℕ). row_Y1 (topology_of l) name ∙ ap (λ (u : Float). response_on Y (topology_of l) u name) (sym last_sample_xy)) place ends

  ends_z : (z : List (List Float)) → ResponsesOn Z l z → (place ends : List Float) → EndsOf z 7 n ends → length ends ≡ length (mid_of (1484 * n) (1486 * n - 1484 * n) place) → 1486 * n ≤ length place → put_mid (1484 * n) (1486 * n - 1484 * n) place ends ≡ rows_filled l 1484 1486 place
  ends_z z rz place ends =
      ends_filled Z z rz 7 1484 1486 refl (omega arith) (omega arith)
      (λ (name : ℕ). row_Z0 (topology_of l) name ∙ at_first Z name)
      (λ (name : ℕ). row_Z1 (topology_of l) name ∙ ap (λ (u : Float). response_on Z (topology_of l) u name) (sym last_sample_z)) place ends

-- ---- what the code writes, with the n that it counted: xs and ys are the columns of the rows x and y
module _ (l : Layout) (place : List Float) (some : 1 ≤ active_count l) where
  abbrev first_ends : ℕ → List Float → List Float → List Float
  first_ends m table p = put_mid (1480 * m) (1482 * m - 1480 * m) table p

  abbrev pub WrittenXY : ℕ → Type 0
  WrittenXY m = (x y xs ys : List (List Float)) (table p q : List Float) → ResponsesOn X l x → ResponsesOn Y l y → Transposed x xs 20 m → Transposed y ys 20 m → 1484 * m ≤ length place →
      table ≡ patched (within 0 (1400 * m)) (λ (i : ℕ). number_xy xs ys (i / m) (i % m)) place →
      EndsOf x 19 m p → length p ≡ length (mid_of (1480 * m) (1482 * m - 1480 * m) table) →
      EndsOf y 19 m q → length q ≡ length (mid_of (1482 * m) (1484 * m - 1482 * m) (first_ends m table p)) →
      put_mid (1482 * m) (1484 * m - 1482 * m) (first_ends m table p) q ≡ filled_xy l place

  pub written_xy_lem : (m : ℕ) → m ≡ active_count l → WrittenXY m
  written_xy_lem m e = subst WrittenXY (sym e) at_count
    where
      at_count : WrittenXY (active_count l)
      at_count x y xs ys table p q rx ry tx ty long is ex mx ey my =
          ends_y l y ry (first_ends (active_count l) table p) q ey my (rw size long)
          ∙ ap (rows_filled l 1482 1484) first
          ∙ rows_join l 1480 1482 1484 (omega arith) (omega arith) (rows_filled l 0 1400 place)
        where
          tables : table ≡ rows_filled l 0 1400 place
          tables = is ∙ table_xy_filled l xs ys place (columns_on X l x xs rx tx) (columns_on Y l y ys ry ty) some

          same : length table ≡ length place
          same = rw (tables, patched_length)

          first : first_ends (active_count l) table p ≡ rows_filled l 1480 1482 (rows_filled l 0 1400 place)
          first = ends_x l x rx table p ex mx (rw same (omega arith)) ∙ ap (rows_filled l 1480 1482) tables

          size : length (first_ends (active_count l) table p) ≡ length place
          size = rw (first, patched_length, patched_length)

  abbrev pub WrittenZ : ℕ → Type 0
  WrittenZ m = (z zs : List (List Float)) (table p : List Float) → ResponsesOn Z l z → Transposed z zs 8 m → 1486 * m ≤ length place →
      table ≡ patched (within (1400 * m) (1480 * m)) (λ (i : ℕ). knot_number Z zs (i / m - 1400) (i % m)) place →
      EndsOf z 7 m p → length p ≡ length (mid_of (1484 * m) (1486 * m - 1484 * m) table) →
      put_mid (1484 * m) (1486 * m - 1484 * m) table p ≡ filled_z l place

  pub written_z_lem : (m : ℕ) → m ≡ active_count l → WrittenZ m
  written_z_lem m e = subst WrittenZ (sym e) at_count
    where
      at_count : WrittenZ (active_count l)
      at_count z zs table p rz tz long is ez mz = ends_z l z rz table p ez mz (rw (tables, patched_length) long) ∙ ap (rows_filled l 1484 1486) tables
        where
          tables : table ≡ rows_filled l 1400 1480 place
          tables = is ∙ table_z_filled l zs place (columns_on Z l z zs rz tz) some

-- ---- the rows written
-- the places from row a up to row b
rows_within_lem : (n a b i : ℕ) → 1 ≤ n → within (a * n) (b * n) i ≡ within a b (i / n)
rows_within_lem n a b i some =
    let r = i / n in
    same_test (within (a * n) (b * n) i) (within a b r)
    (λ w.
    let p = within_says (a * n) (b * n) i w in
    within_holds a b r ((le-div_iff_mul-le some).1 p.0) ((div-lt_iff_lt-mul some).1 p.1))
    (λ w.
    let p = within_says a b r w in
    within_holds (a * n) (b * n) i ((le-div_iff_mul-le some).0 p.0) ((div-lt_iff_lt-mul some).0 p.1))

-- with one layer
flat_test : (a b x y z a' b' x' y' z' : Bool) → a ≡ a' → b ≡ b' → x ≡ x' → y ≡ y' → z ≡ z' → (a' || b') ≡ (x' && not (y' || z')) → (a || b) ≡ (x && not (y || z))
flat_test a b x y z a' b' x' y' z' ea eb ex ey ez h = ap₂ ◌||◌ ea eb ∙ h ∙ sym (ap₂ ◌&&◌ ex (ap not (ap₂ ◌||◌ ey ez)))

flat_rows : (r : ℕ) → (within 0 1400 r || within 1480 1484 r) ≡ (ltb r 1486 && not (row_of_z r))
flat_rows r = low (ltb r 1400) refl
  where
    rule : (a b x y z : Bool) → within 0 1400 r ≡ a → within 1480 1484 r ≡ b → ltb r 1486 ≡ x → within 1400 1480 r ≡ y → leb 1484 r ≡ z → (a || b) ≡ (x && not (y || z)) → (within 0 1400 r || within 1480 1484 r) ≡ (ltb r 1486 && not (row_of_z r))
    rule a b x y z = flat_test (within 0 1400 r) (within 1480 1484 r) (ltb r 1486) (within 1400 1480 r) (leb 1484 r) a b x y z

    last : (t : Bool) → ltb r 1486 ≡ t → 1484 ≤ r → (within 0 1400 r || within 1480 1484 r) ≡ (ltb r 1486 && not (row_of_z r))
    last true e h = rule false false true false true (within_fails 0 1400 r (λ p q. omega arith)) (within_fails 1480 1484 r (λ p q. omega arith)) e (within_fails 1400 1480 r (λ p q. omega arith)) (le-leb 1484 r h) refl
    last false e h = rule false false false false true (within_fails 0 1400 r (λ p q. omega arith)) (within_fails 1480 1484 r (λ p q. omega arith)) e (within_fails 1400 1480 r (λ p q. omega arith)) (le-leb 1484 r h) refl

    ends : (t : Bool) → ltb r 1484 ≡ t → 1480 ≤ r → (within 0 1400 r || within 1480 1484 r) ≡ (ltb r 1486 && not (row_of_z r))
    ends true e h =
        let k = ltb-true r 1484 e in
        rule false true true false false (within_fails 0 1400 r (λ p q. omega arith)) (within_holds 1480 1484 r h k) (lt-ltb r 1486 (omega arith)) (within_fails 1400 1480 r (λ p q. omega arith)) (lt-leb 1484 r k) refl
    ends false e h = last (ltb r 1486) refl (ltb-false r 1484 e)

    middle : (t : Bool) → ltb r 1480 ≡ t → 1400 ≤ r → (within 0 1400 r || within 1480 1484 r) ≡ (ltb r 1486 && not (row_of_z r))
    middle true e h =
        let k = ltb-true r 1480 e in
        rule false false true true false (within_fails 0 1400 r (λ p q. omega arith)) (within_fails 1480 1484 r (λ p q. omega arith)) (lt-ltb r 1486 (omega arith)) (within_holds 1400 1480 r h k) (lt-leb 1484 r (omega arith)) refl
    middle false e h = ends (ltb r 1484) refl (ltb-false r 1480 e)

    low : (t : Bool) → ltb r 1400 ≡ t → (within 0 1400 r || within 1480 1484 r) ≡ (ltb r 1486 && not (row_of_z r))
    low true e =
        let k = ltb-true r 1400 e in
        rule true false true false false (within_holds 0 1400 r zero-le k) (within_fails 1480 1484 r (λ p q. omega arith)) (lt-ltb r 1486 (omega arith)) (within_fails 1400 1480 r (λ p q. omega arith)) (lt-leb 1484 r (omega arith)) refl
    low false e = middle (ltb r 1480) refl (ltb-false r 1400 e)

-- with more
deep_rows : (r : ℕ) → (((within 0 1400 r || within 1480 1484 r) || within 1400 1480 r) || within 1484 1486 r) ≡ ltb r 1486
deep_rows r =
    ap (λ (b : Bool). b || within 1484 1486 r)
    (swap (within 0 1400 r) (within 1480 1484 r) (within 1400 1480 r)
    ∙ ap (λ (b : Bool). b || within 1480 1484 r) (within_join 0 1400 1480 r (omega arith) (omega arith))
    ∙ within_join 0 1480 1484 r (omega arith) (omega arith))
    ∙ within_join 0 1484 1486 r (omega arith) (omega arith)
    ∙ from_zero
  where
    swap : (a b c : Bool) → ((a || b) || c) ≡ ((a || c) || b)
    swap true b c = refl
    swap false true true = refl
    swap false true false = refl
    swap false false true = refl
    swap false false false = refl

    from_zero : within 0 1486 r ≡ ltb r 1486
    from_zero = ap (λ (b : Bool). b && ltb r 1486) (le-leb 0 r zero-le)

module _ (l : Layout) (place : List Float) (some : 1 ≤ active_count l) where
  abbrev rows_at : ℕ → ℕ → ℕ → Bool
  rows_at a b = within (a * active_count l) (b * active_count l)

  abbrev written : ℕ → Bool
  written i = row_written (topology_of l) (i / active_count l)

  abbrev number : ℕ → Float
  number i = place_number (topology_of l) (active_names l) i

  pub filled_flat : length (topology_of l) ≤ 1 → filled_xy l place ≡ place_filled (room_of l) place
  unfolding place_filled
  filled_flat h =
      patched_both (rows_at 1480 1484) (rows_at 0 1400) number place
      ∙ patched_where (either (rows_at 0 1400) (rows_at 1480 1484)) written number place
      (λ (i : ℕ) (k : i < length place).
      let r = i / active_count l in
      ap₂ ◌||◌ (rows_within_lem (active_count l) 0 1400 i some) (rows_within_lem (active_count l) 1480 1484 i some)
      ∙ flat_rows r
      ∙ ap (λ (b : Bool). ltb r 1486 && (b || not (row_of_z r))) (sym (le-ltb 1 (length (topology_of l)) h)))

  pub filled_deep : 1 < length (topology_of l) → filled_z l (filled_xy l place) ≡ place_filled (room_of l) place
  unfolding place_filled
  filled_deep h =
      ap (λ (s : List Float). filled_z l s) (patched_both (rows_at 1480 1484) (rows_at 0 1400) number place)
      ∙ ap (patched (rows_at 1484 1486) number) (patched_both (rows_at 1400 1480) (either (rows_at 0 1400) (rows_at 1480 1484)) number place)
      ∙ patched_both (rows_at 1484 1486) (either (either (rows_at 0 1400) (rows_at 1480 1484)) (rows_at 1400 1480)) number place
      ∙ patched_where (either (either (either (rows_at 0 1400) (rows_at 1480 1484)) (rows_at 1400 1480)) (rows_at 1484 1486)) written number place
      (λ (i : ℕ) (k : i < length place).
      let r = i / active_count l in
      ap₂ ◌||◌
      (ap₂ ◌||◌
      (ap₂ ◌||◌ (rows_within_lem (active_count l) 0 1400 i some) (rows_within_lem (active_count l) 1480 1484 i some))
      (rows_within_lem (active_count l) 1400 1480 i some))
      (rows_within_lem (active_count l) 1484 1486 i some)
      ∙ deep_rows r
      ∙ all (ltb r 1486)
      ∙ ap (λ (b : Bool). ltb r 1486 && (b || not (row_of_z r))) (sym (lt-ltb 1 (length (topology_of l)) h)))
    where
      all : (x : Bool) → x ≡ (x && true)
      all true = refl
      all false = refl

-- a place filled behind a is the store filled from a on
pub place_from : (r : Room) (a : ℕ) (store : List Float) → a ≤ length store → put_mid a (length store - a) store (place_filled r (mid_of a (length store - a) store)) ≡ filled_from r a store
unfolding place_filled filled_from
place_from r a store h =
    ap (λ (rest : List Float). put_mid a (length store - a) store (place_filled r rest)) (ap (λ (n : ℕ). take n (drop a store)) (sym (length-drop a store)) ∙ take-length (drop a store))
    ∙ tail_patched a (λ (i : ℕ). row_written r.layers (i / length (names_in r))) (place_number r.layers (names_in r)) store h
