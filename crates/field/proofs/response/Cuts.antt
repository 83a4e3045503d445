-- Lists cut to the groups that are looked at: they keep to what is asked, and the responses are the same. Assumes nothing.
use Prim.Native.Nat.{ℕ, zero, suc, ◌+◌, ◌-◌, ◌≤◌, ◌<◌}
use mathlib.Core.Path.{◌≡◌, refl, ap, ◌∙◌}
use mathlib.Core.List.{List}
use native.Mathlib.Omega.{arith}
use lib.Ieee.{Float, nan}
use lib.ListN.{length, get_or, take}
use lib.Seq.{length-take-le, get_or-take}
use Rattle.field.specs.declared.Pick.{Pick}
use Rattle.field.specs.Responses.{pick_of}
use Rattle.field.specs.Steps.Flat.{iterate, pick_added, group_pick, response_added, shifted, Grouped}
use Rattle.field.proofs.ResponseAxes.{slice_take}

-- two runs whose steps are the same
run_same : (f g : ℕ → List Float → List Float) (n : ℕ) (row : List Float) → ((i : ℕ) → i < n → (r : List Float) → f i r ≡ g i r) → iterate n f row ≡ iterate n g row
unfolding iterate
run_same f g zero row h = refl
run_same f g (suc n) row h = h n (omega arith) (iterate n f row) ∙ ap (g n) (run_same f g n row (λ i l. h i (omega arith)))

-- the coordinates of count groups, and where these begin and end
abbrev pub used : List Float → List ℕ → ℕ → List Float
used v groups count = take (get_or groups count 0) v

abbrev pub bounds : List ℕ → ℕ → List ℕ
bounds groups count = take (count + 1) groups

module _ (v : List Float) (groups : List ℕ) (count : ℕ) (k : Grouped v groups count) where
  abbrev cut : List Float
  cut = used v groups count

  abbrev groups_cut : List ℕ
  groups_cut = bounds groups count

  pub cut_length : length (used v groups count) ≡ get_or groups count 0
  cut_length = length-take-le (get_or groups count 0) v k.within

  groups_length : length groups_cut - 1 ≡ count
  groups_length =
      let many = k.many in
      let l = length-take-le (count + 1) groups (omega arith) in
      omega (arith, l)

  at_cut : (g : ℕ) → g ≤ count → get_or groups_cut g 0 ≡ get_or groups g 0
  at_cut g h = get_or-take (count + 1) groups g 0 (omega arith)

  coordinate : (i : ℕ) → i < get_or groups count 0 → get_or cut i nan ≡ get_or v i nan
  coordinate i h = get_or-take (get_or groups count 0) v i nan h

  pub grouped_cut : Grouped (used v groups count) (bounds groups count) (length (bounds groups count) - 1)
  grouped_cut =
      let many = k.many in
      let l = length-take-le (count + 1) groups (omega arith) in
      rw groups_length
      (record {
        many = omega (arith, l);
        some = λ g h. rw (at_cut g (omega arith), at_cut (g + 1) (omega arith)) (k.some g h);
        ends = λ g h. rw (at_cut (g + 1) (omega arith), at_cut count (omega arith)) (k.ends g h);
        within = rw (at_cut count (omega arith), cut_length) (omega arith);
        finites = λ g i h. rw (at_cut g (omega arith), at_cut (g + 1) (omega arith)) (λ a b. rw (coordinate i (below g i h b)) (k.finites g i h a b));
      })
    where
      below : (g i : ℕ) → g < count → i < get_or groups (g + 1) 0 → i < get_or groups count 0
      below g i h b = let e = k.ends g h in omega arith

  pick_same : (u : Float) (g : ℕ) → g < count → group_pick cut groups_cut u g ≡ group_pick v groups u g
  unfolding group_pick
  pick_same u g h =
      rw (at_cut g (omega arith), at_cut (g + 1) (omega arith))
      (ap (λ (xs : List Float). shifted (get_or groups g 0) (pick_of xs u)) (slice_take (get_or groups g 0) (get_or groups (g + 1) 0) (get_or groups count 0) v (k.ends g h)))

  pub response_cut : (at parts : List ℕ) (u : Float) (row : List Float) → response_added at parts (used v groups count) (bounds groups count) (length (bounds groups count) - 1) u row ≡ response_added at parts v groups count u row
  unfolding response_added
  response_cut at parts u row =
      ap (λ (n : ℕ). iterate n (λ (g : ℕ). pick_added at parts (group_pick cut groups_cut u g)) row) groups_length
      ∙ run_same (λ (g : ℕ). pick_added at parts (group_pick cut groups_cut u g)) (λ (g : ℕ). pick_added at parts (group_pick v groups u g)) count row (λ g h r. ap (λ (p : Pick). pick_added at parts p r) (pick_same u g h))
