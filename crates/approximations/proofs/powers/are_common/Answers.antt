-- All so far are common where the fold says so.
use Rattle.std.proofs.Common.{◌≡◌, true, Bool, List, subst, rules}
use Rattle.std.specs.List.{All}
use Rattle.std.proofs.lemmas.List.Elements.{All-nil, All-push}
use Rattle.std.proofs.lemmas.Fn.{fold_over, slice_gives, fronts}
use lib.Ieee.{Float}
use Rattle.approximations.proofs.powers.are_common.Goals as goal

pub returns : goal.returns
returns g c =
    let P : Float → Type 0 = λ v. g.C.Fn.post c.args.is_common (v, tt) true in
    subst (λ (l : List Float). c.fold.result ≡ true → All P l) c.iter.ensures.rest
    (fold_over fronts (λ y. y.now) _ (λ ys (b : Bool). b ≡ true → All P ys) _ (λ ys a x b f' j k. let h : b ≡ true → (a ≡ true) × P x.now = λ e. (search rules, search rules) in (λ e. All-push P ys x.now (j (h e).0) (h e).1, search rules))
    _ _ _ _ (slice_gives c.iter.result) (λ e. All-nil P) c.fold.ensures.ran)
