-- A centre that moves from turn to turn. Definitions only.
use Rattle.std.specs.Prelude.{ℕ, ◌%◌, cond, eqb, from_bits}
use Rattle.std.specs.Float.{binary64}
use Rattle.doubles.specs.Arithmetic.{◌⊕◌}
use Rattle.layout.specs.declared.Centre.{Centre}

-- at an odd turn 1 / 128 to the right
abbrev pub moved : Centre → ℕ → Centre
moved c turn = cond (eqb (turn % 2) 0) c (record { x = c.x ⊕ from_bits binary64 0x3f80000000000000; y = c.y; z = c.z })
