-- The cores of links and unlinks, once over the beta i, which is 1, 2 or 3.
--   link_core rows i l r   links l and r by beta i
--   unlink_core rows i l   unlinks l and its image by beta i, which is answered
use Rattle.std.specs.Prelude.{ℕ, List, cond, not, ◌&&◌, ◌||◌, leb, eqb, Err}
use Rattle.map_betas.specs.declared.error.Refusal.TheVariants.{NonFreeBase, NonFreeImage, AlreadyFree}
use Rattle.map_betas.specs.Betas.{beta, opp, put, cut}
use Rattle.map_betas.specs.Answers.{Out, out, nothing, done}

-- scope: link core. The image forward has to be null, then the one that will lead back; a dart is never its own image by beta 2 or 3.
-- `opp i` is the beta that leads back, 0 for 1, and is what a 7 says.
unfoldable pub link_core : List ℕ → ℕ → ℕ → ℕ → Out
link_core rows i l r =
    cond (not (eqb (beta rows i l) 0)) (out (Err (NonFreeBase i l r)) rows)
    (cond (not (eqb (beta rows (opp i) r) 0) || leb 2 i && eqb l r) (out (Err (NonFreeImage (opp i) l r)) rows)
    (out nothing (put rows i l r)))

-- scope: unlink core. Both images of the pair become null, and the answer is the dart that was linked.
unfoldable pub unlink_core : List ℕ → ℕ → ℕ → Out
unlink_core rows i l =
    cond (eqb (beta rows i l) 0) (out (Err (AlreadyFree i l)) rows)
    (out (done (beta rows i l) 0) (cut rows i l (beta rows i l)))
