-- The parts of a topology by their starts in the flat lists: layer i has the rows from start i up to start i + 1, and so each row its anchors.
-- The starts stop at 24, which is as far as the lists reach, so this holds of every layout.
use Prim.Native.Nat.{ℕ, zero, suc, ◌+◌, ◌≤◌, ◌<◌, min}
use mathlib.Core.Path.{◌≡◌, refl, sym, ap, ap₂, ◌∙◌}
use mathlib.Core.List.{List, [], ◌∷◌, map}
use native.Mathlib.Omega.{arith}
use lib.ListN.{length, get_or, take, drop, length-map}
use lib.Seq.{slice, drop-drop}
use Rattle.std.proofs.lemmas.List.{drop-take, take-map}
use Rattle.lists.specs.Lists.{total, chunks}
use Rattle.lists.proofs.Takes.{take_min}
use Rattle.layout.specs.declared.Anchor.{Anchor}
use Rattle.layout.specs.declared.Row.{Row}
use Rattle.layout.specs.declared.Layer.{Layer}
use Rattle.layout.specs.Topology.{TopologyRow, TopologyLayer, rows_of, layers_of, row_y, row_count, layer_z, layer_count}
use Rattle.layout.specs.Steps.Starts.{starts_from, no_row, no_layer}
use Rattle.layout.specs.Questions.{topology_y, topology_z}
use Rattle.layout.proofs.TopologyLists.{drop_cap, total_within}
use Rattle.layout.proofs.StartsFrom.{starts_total}

abbrev pub topology_anchors : TopologyRow → List Anchor
topology_anchors r = r.anchors

abbrev pub topology_rows : TopologyLayer → List TopologyRow
topology_rows l = l.rows

-- ---- the topology, cut by counts

pub rows_y : (rs : List Row) (xs : List Anchor) → map topology_y (rows_of rs xs) ≡ map row_y rs
rows_y [] xs = refl
rows_y (r ∷ rs) xs = ap {B = List _} (λ t. r.y ∷ t) (rows_y rs (drop r.count xs))

pub rows_anchors : (rs : List Row) (xs : List Anchor) → map topology_anchors (rows_of rs xs) ≡ chunks (map row_count rs) xs
rows_anchors [] xs = refl
rows_anchors (r ∷ rs) xs = ap {B = List _} (λ t. take r.count xs ∷ t) (rows_anchors rs (drop r.count xs))

pub rows_take : (k : ℕ) (rs : List Row) (xs : List Anchor) → take k (rows_of rs xs) ≡ rows_of (take k rs) xs
rows_take zero rs xs = refl
rows_take (suc k) [] xs = refl
rows_take (suc k) (r ∷ rs) xs = ap {B = List TopologyRow} (λ t. record { y = r.y; anchors = take r.count xs } ∷ t) (rows_take k rs (drop r.count xs))

pub rows_length : (rs : List Row) (xs : List Anchor) → length (rows_of rs xs) ≡ length rs
rows_length [] xs = refl
rows_length (r ∷ rs) xs = ap suc (rows_length rs (drop r.count xs))

pub layers_z : (ls : List Layer) (rs : List TopologyRow) → map topology_z (layers_of ls rs) ≡ map layer_z ls
layers_z [] rs = refl
layers_z (l ∷ ls) rs = ap {B = List _} (λ t. l.z ∷ t) (layers_z ls (drop l.count rs))

pub layers_rows : (ls : List Layer) (rs : List TopologyRow) → map topology_rows (layers_of ls rs) ≡ chunks (map layer_count ls) rs
layers_rows [] rs = refl
layers_rows (l ∷ ls) rs = ap {B = List _} (λ t. take l.count rs ∷ t) (layers_rows ls (drop l.count rs))

pub layers_length : (ls : List Layer) (rs : List TopologyRow) → length (layers_of ls rs) ≡ length ls
layers_length [] rs = refl
layers_length (l ∷ ls) rs = ap suc (layers_length ls (drop l.count rs))

-- ---- the starts

pub starts_first : (cs : List ℕ) (s : ℕ) → get_or (starts_from s cs) 0 0 ≡ s
starts_first [] s = refl
starts_first (c ∷ cs) s = refl

-- where the sum of n counts is at most 24, a start up to n is the sum of the counts before it
pub start_sum : {A : Type 0} (count : A → ℕ) (l : List A) (i n : ℕ) → i ≤ n → i ≤ length l → total (map count (take n l)) ≤ 24 → get_or (starts_from 0 (map count l)) i 0 ≡ total (map count (take i l))
start_sum count l i n h k m =
    let w = total_within i n (map count l) h in
    let m' : total (take n (map count l)) ≤ 24 = rw (take-map count n l) m in
    starts_total 0 (map count l) i (omega arith) (rw (length-map l count) k) ∙ rw (← take-map count i l) (omega arith)

-- the starts of the first n parts
pub starts_take : (n : ℕ) (cs : List ℕ) (s : ℕ) → n ≤ length cs → starts_from s (take n cs) ≡ take (suc n) (starts_from s cs)
starts_take zero [] s h = refl
starts_take zero (c ∷ cs) s h = refl
starts_take (suc n) [] s h = let z : ⊥ = omega arith in absurd z
starts_take (suc n) (c ∷ cs) s h = ap {B = List ℕ} (λ t. s ∷ t) (starts_take n cs (min (s + c) 24) (omega arith))

-- ---- the parts of a list between starts
module _ {A : Type 0} where
  abbrev pub parts : List ℕ → List A → List (List A)
  parts [] xs = []
  parts (a ∷ []) xs = []
  parts (a ∷ b ∷ starts) xs = slice a b xs ∷ parts (b ∷ starts) xs

  -- one part, and what follows it
  pub part_here : (s c : ℕ) (xs : List A) → length xs ≤ 24 → take c (drop s xs) ≡ slice s (min (s + c) 24) xs
  part_here s c xs h = sym (drop-take s c xs) ∙ ap (drop s) (sym (take_min (s + c) 24 xs h))

  pub part_rest : (s c : ℕ) (xs : List A) → length xs ≤ 24 → drop c (drop s xs) ≡ drop (min (s + c) 24) xs
  part_rest s c xs h = drop-drop c s xs ∙ drop_cap (s + c) 24 xs h

  -- a list cut by counts is cut at their starts
  pub starts_parts : (cs : List ℕ) (s : ℕ) (xs : List A) → length xs ≤ 24 → chunks cs (drop s xs) ≡ parts (starts_from s cs) xs
  starts_parts [] s xs h = refl
  starts_parts (c ∷ []) s xs h = ap (λ (p : List A). p ∷ []) (part_here s c xs h)
  starts_parts (c ∷ d ∷ ds) s xs h =
      ap₂ (λ (p : List A) (r : List (List A)). p ∷ r) (part_here s c xs h)
      (ap (chunks (d ∷ ds)) (part_rest s c xs h) ∙ starts_parts (d ∷ ds) (min (s + c) 24) xs h)

-- ---- row i and layer i of the topology

-- a part that is made of each item and what is cut for it
cut_at : {P X Q : Type 0} (cut : List P → List X → List Q) (make : P → List X → Q) (count : P → ℕ) (step : (p : P) (ps : List P) (xs : List X) → cut (p ∷ ps) xs ≡ make p (take (count p) xs) ∷ cut ps (drop (count p) xs))
    (ps : List P) (xs : List X) (s i : ℕ) (e : P) (d : Q) → length xs ≤ 24 → i < length ps →
    let starts = starts_from s (map count ps) in
    get_or (cut ps (drop s xs)) i d ≡ make (get_or ps i e) (slice (get_or starts i 0) (get_or starts (suc i) 0) xs)
cut_at cut make count step [] xs s i e d h k = let z : ⊥ = omega arith in absurd z
cut_at {Q = Q} cut make count step (p ∷ ps) xs s zero e d h k =
    ap (λ (qs : List Q). get_or qs 0 d) (step p ps (drop s xs))
    ∙ ap (make p) (part_here s (count p) xs h ∙ ap (λ (n : ℕ). slice s n xs) (sym (starts_first (map count ps) (min (s + count p) 24))))
cut_at {X = X} {Q = Q} cut make count step (p ∷ ps) xs s (suc i) e d h k =
    ap (λ (qs : List Q). get_or qs (suc i) d) (step p ps (drop s xs))
    ∙ ap (λ (t : List X). get_or (cut ps t) i d) (part_rest s (count p) xs h)
    ∙ cut_at cut make count step ps xs (min (s + count p) 24) i e d h (omega arith)

pub rows_at : (rs : List Row) (xs : List Anchor) (s i : ℕ) (d : TopologyRow) → length xs ≤ 24 → i < length rs →
    let starts = starts_from s (map row_count rs) in
    get_or (rows_of rs (drop s xs)) i d ≡ record { y = (get_or rs i no_row).y; anchors = slice (get_or starts i 0) (get_or starts (suc i) 0) xs }
rows_at rs xs s i d h k = cut_at rows_of (λ (r : Row) (t : List Anchor). record { y = r.y; anchors = t }) row_count (λ r ps v. refl) rs xs s i no_row d h k

pub layers_at : (ls : List Layer) (rs : List TopologyRow) (s i : ℕ) (d : TopologyLayer) → length rs ≤ 24 → i < length ls →
    let starts = starts_from s (map layer_count ls) in
    get_or (layers_of ls (drop s rs)) i d ≡ record { z = (get_or ls i no_layer).z; rows = slice (get_or starts i 0) (get_or starts (suc i) 0) rs }
layers_at ls rs s i d h k = cut_at layers_of (λ (l : Layer) (t : List TopologyRow). record { z = l.z; rows = t }) layer_count (λ l ps v. refl) ls rs s i no_layer d h k
