-- Worked examples, computed: maps that tell the Rust's walk from its likely variants, each with the face of a dart. Assumes nothing.
use Prim.Native.Nat.{ℕ}
use mathlib.Core.Path.{◌≡◌, refl}
use mathlib.Core.Bool.{true, false}
use mathlib.Core.List.{List, [], ◌∷◌}
use Rattle.cell_steps.specs.Search.{mem, add}
use Rattle.cell_faces.specs.Faces.{fresh, insert, lower, turn, leg, forward, backward, face_walk, face_id, regular_from, regular}

-- the open chain 1, 2: the face of 2 is 2, that of 1 is 1
open_two : List ℕ
open_two = 0 ∷ 0 ∷ 0 ∷ 0 ∷ 0 ∷ 2 ∷ 0 ∷ 0 ∷ 1 ∷ 0 ∷ 0 ∷ 0 ∷ []

open_two_2 : face_id open_two 2 ≡ 2
unfolding open_two mem add fresh insert lower turn leg forward backward face_walk face_id
open_two_2 = refl

open_two_1 : face_id open_two 1 ≡ 1
unfolding open_two mem add fresh insert lower turn leg forward backward face_walk face_id
open_two_1 = refl

-- n = 4, b1(3) = 2, b1(2) = 1, b3(2) = 3: with the right dart marked too the walk would end on 2, and miss 1
crossed : List ℕ
crossed = 0 ∷ 0 ∷ 0 ∷ 0 ∷ 2 ∷ 0 ∷ 0 ∷ 0 ∷ 3 ∷ 1 ∷ 0 ∷ 3 ∷ 0 ∷ 2 ∷ 0 ∷ 2 ∷ []

crossed_3 : face_id crossed 3 ≡ 1
unfolding crossed mem add fresh insert lower turn leg forward backward face_walk face_id
crossed_3 = refl

-- n = 5, b1(3) = 2, b1(2) = 1, b1(4) = 4, b3(3) = 4: a loop against the start of an open chain
loop_start : List ℕ
loop_start = 0 ∷ 0 ∷ 0 ∷ 0 ∷ 2 ∷ 0 ∷ 0 ∷ 0 ∷ 3 ∷ 1 ∷ 0 ∷ 0 ∷ 0 ∷ 2 ∷ 0 ∷ 4 ∷ 4 ∷ 4 ∷ 0 ∷ 3 ∷ []

loop_start_4 : face_id loop_start 4 ≡ 1
unfolding loop_start mem add fresh insert lower turn leg forward backward face_walk face_id
loop_start_4 = refl

-- n = 5, b1(1) = 2, b1(2) = 3, b1(4) = 4, b3(3) = 4: a loop against the end of an open chain
loop_end : List ℕ
loop_end = 0 ∷ 0 ∷ 0 ∷ 0 ∷ 0 ∷ 2 ∷ 0 ∷ 0 ∷ 1 ∷ 3 ∷ 0 ∷ 0 ∷ 2 ∷ 0 ∷ 0 ∷ 4 ∷ 4 ∷ 4 ∷ 0 ∷ 3 ∷ []

loop_end_4 : face_id loop_end 4 ≡ 1
unfolding loop_end mem add fresh insert lower turn leg forward backward face_walk face_id
loop_end_4 = refl

-- the closed triangle 1, 2, 3 is regular; the open chain and the loops against open chains are not
triangle : List ℕ
triangle = 0 ∷ 0 ∷ 0 ∷ 0 ∷ 3 ∷ 2 ∷ 0 ∷ 0 ∷ 1 ∷ 3 ∷ 0 ∷ 0 ∷ 2 ∷ 1 ∷ 0 ∷ 0 ∷ []

triangle_2 : face_id triangle 2 ≡ 1
unfolding triangle mem add fresh insert lower turn leg forward backward face_walk face_id
triangle_2 = refl

triangle_regular : regular triangle 3 ≡ true
unfolding triangle regular_from regular
triangle_regular = refl

open_irregular : regular open_two 1 ≡ false
unfolding open_two regular_from regular
open_irregular = refl

loop_irregular : regular loop_end 4 ≡ false
unfolding loop_end regular_from regular
loop_irregular = refl
