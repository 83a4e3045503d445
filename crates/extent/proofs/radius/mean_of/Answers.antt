-- `extent::radius::mean_of` meets its contract: each component is at most 32767. Assumes nothing.
use native.Mathlib.Omega.{arith}
use Rattle.extent.proofs.radius.Ranges.{quantised_le}
use Rattle.extent.proofs.radius.mean_of.Goals as goal

pub overflow_add-result : goal.overflow_add-result
overflow_add-result c =
    let x = quantised_le c.args.e.x in
    let y = quantised_le c.args.e.y in
    omega arith

pub overflow_add-result-2 : goal.overflow_add-result-2
overflow_add-result-2 c =
    let x = quantised_le c.args.e.x in
    let y = quantised_le c.args.e.y in
    let z = quantised_le c.args.e.z in
    omega arith
