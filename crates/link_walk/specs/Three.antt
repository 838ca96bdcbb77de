-- The 3-link and the 3-unlink of real darts of a map, as the walk goes. `entry` is the rows of the call, left as they were after a refusal;
-- d is the dart to answer; `parting` tells the unlink from the link.
--   leg_on, leg_back           the two legs
--   last_leg, after_leg, after_core   what follows the second leg, the first leg, the core at ld and rd
--   three_link_on entry ld rd  the 3-link of ld and rd
--   three_unlink_on entry ld   the 3-unlink of ld and its image, which is answered
use Rattle.std.specs.Prelude.{ℕ, suc, List, Bool, true, false, cond, eqb, length, Err, is_ok}
use Rattle.map_betas.specs.declared.error.Refusal.TheVariants.{AsymmetricalFaces}
use Rattle.map_betas.specs.Betas.{beta}
use Rattle.map_betas.specs.Answers.{Out, out, done}
use Rattle.map_betas.specs.Cores.{link_core, unlink_core}
use Rattle.link_walk.specs.Walk.{step_of, LegOut, walk}

-- the leg forward: l by beta 1, r by beta 0, until l is null or back at ld (scope: 3-link)
abbrev pub leg_on : Bool → List ℕ → ℕ → ℕ → LegOut
leg_on parting rows ld rd = walk (step_of parting ld rd) (suc (length rows)) rows 1 0 ld (beta rows 1 ld) (beta rows 0 rd) 0

-- the leg back: l by beta 0, r by beta 1, until l is null
abbrev pub leg_back : Bool → List ℕ → ℕ → ℕ → LegOut
leg_back parting rows ld rd = walk (step_of parting ld rd) (suc (length rows)) rows 0 1 0 (beta rows 0 ld) (beta rows 1 rd) 0

-- the leg back is the last: wherever r stands at its end, it is done
abbrev pub last_leg : ℕ → List ℕ → LegOut → Out
last_leg d entry w = cond (is_ok w.leg.answer) (out (done d 0) w.rows) (out w.leg.answer entry)

-- once the leg forward is over: a closed face is done, wherever r stands; an open one asks r to be null too, and goes back
abbrev pub after_leg : Bool → ℕ → List ℕ → ℕ → ℕ → LegOut → Out
after_leg parting d entry ld rd w =
    cond (is_ok w.leg.answer)
    (cond (eqb w.leg.pair.l 0)
    (cond (eqb w.leg.pair.r 0) (last_leg d entry (leg_back parting w.rows ld rd)) (out (Err (AsymmetricalFaces ld rd)) entry))
    (out (done d 0) w.rows))
    (out w.leg.answer entry)

abbrev pub after_core : Bool → ℕ → List ℕ → ℕ → ℕ → Out → Out
after_core parting d entry ld rd o = cond (is_ok o.answer) (after_leg parting d entry ld rd (leg_on parting o.rows ld rd)) (out o.answer entry)

-- scope: 3-link
unfoldable pub three_link_on : List ℕ → ℕ → ℕ → Out
three_link_on entry ld rd = after_core false 0 entry ld rd (link_core entry 3 ld rd)

-- scope: 3-unlink. Its answer is the dart that faced ld.
unfoldable pub three_unlink_on : List ℕ → ℕ → Out
three_unlink_on entry ld = after_core true (beta entry 3 ld) entry ld (beta entry 3 ld) (unlink_core entry 3 ld)
