-- `approximations::log2::log2_of` meets its contract: the constants are the decimals of the definition. Assumes nothing.
use Rattle.std.proofs.Common.{◌≡◌, refl}
use lib.Ieee.{binary64, of_bits, round}
use Rattle.doubles.specs.Arithmetic.{dec}
use Rattle.approximations.proofs.log2.log2_of.Goals as goal

l1 : of_bits binary64 0x4010_513f_ffca_501b ≡ dec 407934570 8
unfolding of_bits round
l1 = refl

l0 : of_bits binary64 0x4005_8b7f_ff69_ad18 ≡ dec 269311523 8
unfolding of_bits round
l0 = refl

l2 : of_bits binary64 0x3ff6_2e00_0055_e63c ≡ dec 138623047 8
unfolding of_bits round
l2 = refl

pub returns : goal.returns
returns c = rw (l1, l0, l2)
