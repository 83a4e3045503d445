-- The law of every list of calls. Assumes nothing.
use mathlib.Core.List.{List, [], ◌∷◌}
use lib.ListN.{length}
use Rattle.selector.specs.Call.{Call, Found, answer_of}
use Rattle.selector_law.specs.Rule.{KeptList, none, fresh, after_call, AllRight, AllTyped, SelectorLaw}
use Rattle.selector_law.proofs.Held.{Holds, fresh_holds}
use Rattle.selector_law.proofs.Calls.{step}

all_right : (k : KeptList) (f : Found) (calls : List Call) → Holds k f → AllTyped calls → AllRight k f calls
all_right k f [] h t = tt
all_right k f (c ∷ cs) h t = let s = step c t.0 k f h in (s.right, all_right (after_call (length f.store) k c) (answer_of c f).found cs s.holds t.1)

pub law : SelectorLaw
law store calls t = all_right none (fresh store) calls (fresh_holds store) t
