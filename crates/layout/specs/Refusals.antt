-- Refusals: which question each names, by document 01's numbers. Definitions only.
use Rattle.std.specs.Prelude.{ℕ, cond, List, [], ◌∷◌, eqb, unwrap_or, Result, Ok, Err}
use Rattle.std.specs.List.{find}
use Rattle.layout.specs.declared.refusal.Refusal.{Refusal}
use Rattle.layout.specs.declared.refusal.Refusal.TheVariants.{Channels, Layers, Active, Counts, Order, Anchors, ExtentX, ExtentY, ExtentZ, Zones, Selection, Classes, Centre, Points, Slices, State}

-- the number of the question that each names
abbrev pub number_of : Refusal → ℕ
number_of Channels = 1
number_of Layers = 2
number_of Active = 3
number_of Counts = 4
number_of Order = 5
number_of Anchors = 6
number_of ExtentX = 7
number_of ExtentY = 18
number_of ExtentZ = 19
number_of Zones = 8
number_of Selection = 9
number_of Classes = 10
number_of Centre = 11
number_of Points = 12
number_of Slices = 13
number_of State = 14

-- in the order in which a call asks
abbrev pub refusals : List Refusal
refusals = Channels ∷ Layers ∷ Active ∷ Counts ∷ Order ∷ Anchors ∷ ExtentX ∷ ExtentY ∷ ExtentZ ∷ Zones ∷ Selection ∷ Classes ∷ Centre ∷ Points ∷ Slices ∷ State ∷ []

-- the one with this number
abbrev pub refusal_of : ℕ → Refusal
refusal_of n = unwrap_or (find (λ r. eqb (number_of r) n) refusals) State

-- an answer in Rust's form: the value where no question had a no, or the refusal with the number of the first
abbrev pub answer_by : {A : Type 0} → ℕ → A → Result A Refusal
answer_by q a = cond (eqb q 0) (Ok a) (Err (refusal_of q))
