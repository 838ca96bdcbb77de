-- The darts that the list of faces has done with.
--   round_from          the walk round a chain, from one of its darts on
--   go_round rows d s   s with the darts of d's chain behind it, each with its beta 3 image, by one walk round
--   Faced rows d k     k holds the darts of whole regular faces: all whose least dart is below d, and no dart that is its own identifier from d on
--   Apart rows d k     d reaches none of k
--   WalkedId, DartTested   what the list learns of one dart: by the walk, and in all
use Rattle.std.specs.Prelude.{ℕ, zero, suc, ◌+◌, ◌<◌, ◌≡◌, Bool, cond, List, eqb, take, drop}
use Rattle.map_betas.specs.Betas.{beta, darts}
use Rattle.cell_steps.specs.Steps.{face}
use Rattle.cell_steps.specs.Search.{In, add, Reach}
use Rattle.cell_steps.specs.Idents.{ident}
use Rattle.cell_steps.specs.Loans.{Queue}
use Rattle.cell_faces.specs.Faces.{face_id, Regular}

-- from x on round to d, each dart and its beta 3 image put behind s, with f turns at most
unfoldable pub round_from : List ℕ → ℕ → ℕ → ℕ → List ℕ → List ℕ
round_from rows d zero x s = s
round_from rows d (suc f) x s =
    let t = add (add s x) (beta rows 3 x) in
    let more = round_from rows d f (beta rows 1 x) t in
    cond (eqb (beta rows 1 x) d) t more

unfoldable pub go_round : List ℕ → ℕ → List ℕ → List ℕ
go_round rows d s = round_from rows d (darts rows) d s

pub record Faced (rows : List ℕ) (d : ℕ) (k : List ℕ) : Type 0 where
  pub only : (x : ℕ) → In x k → face_id rows x < d
  pub real : (x : ℕ) → In x k → x ≡ 0 → ⊥
  pub closed : (x y : ℕ) → In x k → Reach rows face x y → In y k
  pub every : (x : ℕ) → x < darts rows → (x ≡ 0 → ⊥) → Regular rows x → ident rows face x < d → In x k

-- none of k is reached from d by the face's steps
pub record Apart (rows : List ℕ) (d : ℕ) (k : List ℕ) : Type 0 where
  pub never : (x : ℕ) → In x k → Reach rows face d x → ⊥

-- the identifier of d, with the first `known` places marked as before
pub record WalkedId (rows : List ℕ) (d : ℕ) (queue : List ℕ) (known : ℕ) (marks' queue' : List ℕ) (id : ℕ) : Type 0 where
  pub id_is : id ≡ face_id rows d
  pub held : Queue marks' queue' known
  pub same : take known queue' ≡ take known queue
  pub rest : drop (darts rows) queue' ≡ drop (darts rows) queue

-- whether d is its own identifier, and the r darts that are done with then
pub record DartTested (rows : List ℕ) (d : ℕ) (queue marks' queue' : List ℕ) (own : Bool) (r : ℕ) : Type 0 where
  pub own_is : own ≡ eqb (face_id rows d) d
  pub held : Queue marks' queue' r
  pub faced : Faced rows (d + 1) (take r queue')
  pub rest : drop (darts rows) queue' ≡ drop (darts rows) queue
