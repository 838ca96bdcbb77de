-- `reader::fill_slots` meets its contract: no vertex at all, then the records put in. Assumes nothing.
use native.Mathlib.Omega.{arith}
use mathlib.Core.Path.{◌≡◌}
use mathlib.Core.List.{List, ◌++◌}
use Prim.Native.Nat.{ℕ, ◌≤◌}
use lib.ListN.{length, take, drop, length-append}
use lib.Seq.{length-take-le}
use Rattle.image_fill.proofs.FillLaws.{sound_from, slots_filled}
use Rattle.image_reader.proofs.reader.fill_slots.Goals as goal

-- a loan whose first n places are written is as long as it was
kept : {A : Type 0} (n : ℕ) (l new : List A) → length new ≡ length (take n l) → n ≤ length l → n ≤ length (new ++ drop n l)
kept n l new e h = let a = length-append new (drop n l) in let t = length-take-le n l h in omega arith

pub put_records-requires : goal.put_records-requires
put_records-requires c = (
  omega (arith, c.requires.0, c.vertex_offset.ensures),
  sound_from _ _ _ _ c.vertex_offset.ensures c.requires.1,
  kept _ _ _ c.fill.ensures.len c.requires.2,
  kept _ _ _ c.fill-2.ensures.len c.requires.3,
)

pub returns : goal.returns
returns c =
    slots_filled _ _ _ _ c.vertex_offset.ensures c.requires.1 c.args.vertices.now c.args.coordinates.now c.requires.2 c.requires.3
    (c.fill.ensures.after (λ y h. h)) (c.fill-2.ensures.after (λ y h. h)) c.put_records.ensures
