-- `list_face_orbits` meets its contract: it is the list by the orbits of the faces. Assumes nothing.
use Rattle.cell_face_orbits.specs.FaceOrbits.{face_orbits_call}
use Rattle.cell_face_orbits.proofs.list_face_orbits.Goals as goal

pub returns : goal.returns
unfolding face_orbits_call
returns c = c.list_by.ensures
