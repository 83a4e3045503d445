-- `gains::diffuse::unshape` meets its contract: the logarithms of what is above 0, their powers, and these put back. Assumes nothing.
use Prim.Native.Nat.{◌≤◌}
use mathlib.Core.Path.{ap, ◌∙◌}
use mathlib.Core.List.{List}
use native.Mathlib.Omega.{arith}
use lib.Ieee.{Float, nan, of_bits}
use lib.ListN.{length, get_or, take}
use lib.Seq.{get_or-take, length-take-le}
use Rattle.approximations.specs.Exp2.{exp2_of}
use Rattle.std.proofs.lemmas.List.{get_or-map}
use Rattle.gains.proofs.diffuse.Gathering.{powers_back}
use Rattle.gains.proofs.diffuse.unshape.Goals as goal

pub returns : goal.returns
unfolding of_bits
returns c =
    let out = c.args.out.now in
    let l = c.gather-m.new.out in
    let m = c.gather-m.result in
    let most : m ≤ length l = omega arith in
    let long = length-take-le m l most in
    powers_back out l c.approx_exp2_each.new.y _ _ m c.args.exponent (omega arith) c.gather-m.ensures.value c.gather-m.ensures.gathered (omega arith)
    (λ j h. ap (λ (p : List Float). get_or p j nan) c.approx_exp2_each.ensures ∙ get_or-map exp2_of (take m l) j nan nan (omega arith) ∙ ap exp2_of (get_or-take m l j nan h))
    c.scatter.ensures
