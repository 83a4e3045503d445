-- The gains of an accepted call: whichever place serves it, they are those of the selected layout's field. Assumes nothing.
use Prim.Native.Nat.{ℕ, zero, suc, ◌≤◌, ◌<◌}
use mathlib.Core.Path.{◌≡◌, refl, sym, ap, ◌∙◌, subst}
use mathlib.Core.Bool.{Bool, true, false, ◌&&◌, cond}
use mathlib.Core.List.{List, [], ◌∷◌}
use native.Mathlib.Omega.{arith}
use borrow.Author.Tests.{leb-true, eqb-true, le-leb, lt-ltb}
use lib.Dec.{T, eqb, leb, ltb}
use lib.Ieee.{Float, nan, binary64, fits, le, round}
use lib.Ieee.Fits.{and_l, and_r}
use lib.Ieee.Scale.{finite}
use lib.ListN.{length, get_or, take, length-take}
use lib.Seq.{get_or-take}
use lib.Ieee.Bits.{is_true}
use Rattle.doubles.specs.Arithmetic.{zero64, dec}
use Rattle.doubles.specs.Norm.{five_quarters, Bounded}
use Rattle.doubles.specs.Range.{is_between}
use Rattle.std.specs.List.{list_all}
use Rattle.std.proofs.lemmas.Float.{T_from_true}
use Rattle.std.proofs.lemmas.List.Recursion.{and_from_places}
use Rattle.layout.specs.Topology.{TopologyLayer}
use Rattle.layout.specs.Room.{active_in}
use Rattle.layout.proofs.SoundRoom.{SoundRoom}
use Rattle.layout.proofs.QuestionsLoops.{all_at}
use Rattle.extent.specs.Extent.{mean_of, mean_radius}
use Rattle.gains.specs.Gains.{projectable, projected}
use Rattle.field.specs.Place.{filled}
use Rattle.extent.proofs.Extents.{radius_fits}
use Rattle.field_laws.proofs.PlaceGains.{filled_projected, filled_bounded, point_projected, point_bounded}
use Rattle.region.specs.Zones.{is_default}
use Rattle.cache.specs.Questions.{is_gain, question12, question13}
use Rattle.selector.specs.Call.{Call, Typed, state_by, lent_room, answered, selected_of, wanted, gains_by}
use Rattle.selector.proofs.Questions.{Said}
use Rattle.selector.proofs.Selected.{call_sound}

-- ---- gains as tests and as facts
quarters : dec 125 2 ≡ five_quarters
unfolding round
quarters = refl

is_bounded : (g : Float) → is_gain g ≡ true → Bounded g
is_bounded g e =
    let t = T_from_true (is_gain g) e in
    let b = and_r (finite g) (is_between zero64 (dec 125 2) g) t in
    (and_l (finite g) (is_between zero64 (dec 125 2) g) t, and_l (le zero64 g) (le g (dec 125 2)) b, subst (λ (q : Float). T (le g q)) quarters (and_r (le zero64 g) (le g (dec 125 2)) b))

bounded_is : (g : Float) → Bounded g → is_gain g ≡ true
bounded_is g b =
    let u = is_true (le g (dec 125 2)) (subst (λ (q : Float). T (le g q)) (sym quarters) b.2) in
    rw (is_true (finite g) b.0, is_true (le zero64 g) b.1, u)

-- ---- the selected room
module _ (c : Call) (t : Typed c) (size : ℕ) (q : Said c size) where
  pub selected_sound : SoundRoom (selected_of c)
  selected_sound = call_sound c t q.layout q.yes9

  selected_count : active_in (selected_of c) ≡ answered c
  selected_count = go (is_default (state_by c.flags)) _
    where
      go : (b : Bool) (ys : List TopologyLayer) → active_in (cond b (lent_room c) (record { channels = (lent_room c).channels; layers = ys })) ≡ answered c
      go true ys = refl
      go false ys = refl

  pub store_big : 285312 ≤ size
  store_big = leb-true 285312 size (is_true (leb 285312 size) (and_r (leb (answered c) (length c.gains)) (leb 285312 size) (T_from_true (question13 (answered c) (length c.gains) size) q.yes13)))

  slots : answered c ≤ length c.gains
  slots = leb-true (answered c) (length c.gains) (is_true (leb (answered c) (length c.gains)) (and_l (leb (answered c) (length c.gains)) (leb 285312 size) (T_from_true (question13 (answered c) (length c.gains) size) q.yes13)))

  points_many : length c.points ≡ answered c
  points_many = eqb-true (length c.points) (answered c) (is_true _ (and_l (eqb (length c.points) (answered c)) (list_all is_gain c.points) (T_from_true (question12 (answered c) c.points) q.yes12)))

  points_bounded : (i : ℕ) → i < answered c → Bounded (get_or c.points i nan)
  points_bounded i h =
      is_bounded (get_or c.points i nan)
      (all_at is_gain c.points i nan (is_true _ (and_r (eqb (length c.points) (answered c)) (list_all is_gain c.points) (T_from_true (question12 (answered c) c.points) q.yes12))) (omega (arith, points_many)))

  few : answered c ≤ 24
  few = omega (arith, selected_count, selected_sound.few_active)

  projects : (p : ℕ) (s : List Float) → p < 8 → 285312 ≤ length s → projectable (length s) p (answered c) (length c.points) (length c.gains) ≡ true
  projects p s h b =
      rw (lt-ltb p 8 h, le-leb (answered c) 24 few, le-leb 285312 (length s) b, le-leb (answered c) (length c.points) (omega (arith, points_many)), le-leb (answered c) (length c.gains) slots)

  radius : T (fits binary64 (mean_radius (mean_of c.extent)))
  radius = radius_fits _

  -- whichever place is filled, in whichever store
  pub served_field : (p r : ℕ) (s u : List Float) → p < 8 → r < 8 → 285312 ≤ length s → 285312 ≤ length u → gains_by (wanted c) (filled (selected_of c) p s) p ≡ gains_by (wanted c) (filled (selected_of c) r u) r
  served_field p r s u h k b d =
      subst
      (λ (n : ℕ). projected (filled (selected_of c) p s) p n (ltb 1 (length (selected_of c).layers)) (mean_of c.extent) (mean_radius (mean_of c.extent)) c.centre c.points c.gains
      ≡ projected (filled (selected_of c) r u) r n (ltb 1 (length (selected_of c).layers)) (mean_of c.extent) (mean_radius (mean_of c.extent)) c.centre c.points c.gains)
      selected_count
      (filled_projected (selected_of c) selected_sound (ltb 1 (length (selected_of c).layers)) refl p r s u h k b d (mean_of c.extent) (mean_radius (mean_of c.extent)) c.centre c.points c.gains t.centre radius)

  -- mean 0
  pub served_point : mean_of c.extent ≡ 0 → (p r : ℕ) (s u : List Float) → p < 8 → r < 8 → 285312 ≤ length s → 285312 ≤ length u → gains_by (wanted c) s p ≡ gains_by (wanted c) u r
  served_point e p r s u h k b d =
      subst
      (λ (m : ℕ). projected s p (answered c) (ltb 1 (length (selected_of c).layers)) m (mean_radius m) c.centre c.points c.gains
      ≡ projected u r (answered c) (ltb 1 (length (selected_of c).layers)) m (mean_radius m) c.centre c.points c.gains)
      (sym e)
      (point_projected p r (answered c) s u (ltb 1 (length (selected_of c).layers)) (mean_radius 0) c.centre c.points c.gains h k b d)

  -- ---- the bound
  gains_all : (gs : List Float) → ((i : ℕ) → i < answered c → Bounded (get_or gs i nan)) → list_all is_gain (take (answered c) gs) ≡ true
  gains_all gs h =
      and_from_places (list_all is_gain) is_gain refl (λ y ys. refl) (take (answered c) gs) nan
      (λ i l.
      let j : i < answered c = omega (arith, simp length-take at l) in
      ap is_gain (get_or-take (answered c) gs i nan j) ∙ bounded_is (get_or gs i nan) (h i j))

  pub served_bounded : (p : ℕ) (s : List Float) → p < 8 → 285312 ≤ length s → list_all is_gain (take (answered c) (gains_by (wanted c) (filled (selected_of c) p s) p)) ≡ true
  served_bounded p s h b =
      let z = selected_sound in
      let l = selected_of c in
      gains_all (gains_by (wanted c) (filled l p s) p)
      (subst
      (λ (n : ℕ). (i : ℕ) → i < n → Bounded (get_or (projected (filled l p s) p n (ltb 1 (length l.layers)) (mean_of c.extent) (mean_radius (mean_of c.extent)) c.centre c.points c.gains) i nan))
      selected_count
      (filled_bounded l z (ltb 1 (length l.layers)) refl p s h b (mean_of c.extent) (mean_radius (mean_of c.extent)) c.centre c.points c.gains t.centre radius
      (ap (λ (n : ℕ). projectable (length s) p n (length c.points) (length c.gains)) selected_count ∙ projects p s h b)
      (λ i l. points_bounded i (omega (arith, selected_count)))))

  pub point_served_bounded : mean_of c.extent ≡ 0 → (p : ℕ) (s : List Float) → p < 8 → 285312 ≤ length s → list_all is_gain (take (answered c) (gains_by (wanted c) s p)) ≡ true
  point_served_bounded e p s h b =
      gains_all (gains_by (wanted c) s p)
      (subst
      (λ (m : ℕ). (i : ℕ) → i < answered c → Bounded (get_or (projected s p (answered c) (ltb 1 (length (selected_of c).layers)) m (mean_radius m) c.centre c.points c.gains) i nan))
      (sym e)
      (point_bounded p (answered c) s (ltb 1 (length (selected_of c).layers)) (mean_radius 0) c.centre c.points c.gains (projects p s h b) (omega (arith, points_many)) points_bounded))
