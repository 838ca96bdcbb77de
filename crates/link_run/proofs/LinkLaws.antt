-- The laws of the links and unlinks, once over all six.
--   link_call_lem      the call of its name is the core behind the tests of every link
--   link_on_map    on a map its darts alone are tested
--   on_keeps       each keeps rows well formed and as many, and links no other dart that was free
--   link_kept      so the call leaves a map a map, done or refused
--   link_unmoved   a refused call leaves the rows
--   core_plain, uncore_plain, walk_plain   the answers of the cores and of a walk carry no length and no count
--   link_plain     nor does that of a link or an unlink
--   on_second      the dart that stands second will do
-- Assumes nothing.
use Prim.Native.Nat.{ℕ, zero, suc}
use native.Mathlib.Omega.{arith}
use mathlib.Core.Path.{◌≡◌, refl, sym, ap, ◌∙◌, subst}
use mathlib.Core.Bool.{Bool, true, false, cond, not, ◌&&◌, ◌||◌}
use mathlib.Core.List.{List}
use lib.Dec.{eqb, leb}
use lib.ListN.{length}
use Rattle.map_betas.specs.declared.error.Refusal.TheVariants.{NonFreeBase, NonFreeImage, AlreadyFree, AsymmetricalFaces}
use Rattle.map_betas.specs.Betas.{beta, darts, opp, put, cut}
use Rattle.map_betas.specs.Answers.{Out, out, nothing, Outcome, given, behind, Test, done}
use Rattle.map_betas.specs.Maps.{WellFormed, Map, Keeps, Stays}
use Rattle.map_betas.specs.Guards.{guard_of, no_loans, Dart}
use Rattle.map_betas.proofs.Guarded.{no_loans_lent, on_map}
use Rattle.map_betas.specs.Cores.{link_core, unlink_core}
use Rattle.link_walk.specs.Walk.{step_of, LegOut, leg_out, leg_at, walk}
use Rattle.link_walk.specs.Three.{leg_on, leg_back, last_leg, after_leg, after_core, three_link_on, three_unlink_on}
use Rattle.link_walk.specs.Calls.{bare_link, bare_unlink, three_link, three_unlink}
use Rattle.map_betas.proofs.Spared.{link_keeps_all, unlink_keeps_all}
use Rattle.link_walk.proofs.Kept.{Unmoved, link_kept as three-link-kept, unlink_kept as three-unlink-kept, call_kept}
use Rattle.link_walk.proofs.Kept.{bare_link_unmoved, bare_unlink_unmoved, three_link_unmoved, three_unlink_unmoved}
use Rattle.link_run.specs.declared.links.Link.{Link}
use Rattle.link_run.specs.declared.links.Link.TheVariants.{OneLink, TwoLink, ThreeLink, OneUnlink, TwoUnlink, ThreeUnlink}
use Rattle.link_run.specs.Links.{link_on, link_call, link_second, link_tested, Plain}
use Rattle.std.specs.Prelude.{Err, is_ok}

pub link_call_lem : (l : Link) (rows flags : List ℕ) (ld rd : ℕ) →
    link_call l rows flags ld rd ≡ behind (guard_of rows flags no_loans 1 ld (link_second l ld rd)) rows (given (link_on l rows ld rd))
unfolding bare_link bare_unlink three_link three_unlink
link_call_lem OneLink rows flags ld rd = refl
link_call_lem TwoLink rows flags ld rd = refl
link_call_lem ThreeLink rows flags ld rd = refl
link_call_lem OneUnlink rows flags ld rd = refl
link_call_lem TwoUnlink rows flags ld rd = refl
link_call_lem ThreeUnlink rows flags ld rd = refl

pub link_on_map : (l : Link) (rows flags : List ℕ) (ld rd : ℕ) → Map rows flags → link_call l rows flags ld rd ≡ link_tested l rows flags ld rd
unfolding link_tested
link_on_map l rows flags ld rd m =
    link_call_lem l rows flags ld rd
    ∙ ap (λ (g : Test). behind g rows (given (link_on l rows ld rd)))
    (on_map rows flags no_loans 1 ld (link_second l ld rd) m (no_loans_lent rows m.formed))

-- what each leaves of real darts: rows that are well formed and as many, and no dart linked that was free and is none of its own
pub on_keeps : (l : Link) (rows : List ℕ) (ld rd : ℕ) → WellFormed rows → Dart (darts rows) 1 ld → Dart (darts rows) 1 (link_second l ld rd) →
    Keeps ld (link_second l ld rd) rows (link_on l rows ld rd).rows
on_keeps OneLink rows ld rd w dl dr = link_keeps_all rows 1 ld w (omega arith) (omega arith) rd dl dr
on_keeps TwoLink rows ld rd w dl dr = link_keeps_all rows 2 ld w (omega arith) (omega arith) rd dl dr
on_keeps ThreeLink rows ld rd w dl dr =
    let h = dl.allowed in
    let k = dr.allowed in
    three-link-kept rows ld rd w dl.below (omega arith) dr.below (omega arith)
on_keeps OneUnlink rows ld rd w dl dr = unlink_keeps_all rows 1 ld w (omega arith) (omega arith)
on_keeps TwoUnlink rows ld rd w dl dr = unlink_keeps_all rows 2 ld w (omega arith) (omega arith)
on_keeps ThreeUnlink rows ld rd w dl dr = let h = dl.allowed in three-unlink-kept rows ld w dl.below (omega arith)

pub link_kept : (l : Link) (rows flags : List ℕ) (ld rd : ℕ) → Map rows flags → Stays flags rows (link_call l rows flags ld rd).loans
link_kept l rows flags ld rd m =
    subst (λ (o : Outcome (List ℕ)). Stays flags rows o.loans) (sym (link_call_lem l rows flags ld rd))
    (call_kept rows flags ld (link_second l ld rd) m (link_on l rows ld rd)
    (λ h. on_keeps l rows ld rd h.0 (record { allowed = h.1; below = h.2 }) (record { allowed = h.3; below = h.4 })))

pub link_unmoved : (l : Link) (rows flags : List ℕ) (ld rd : ℕ) → Unmoved rows (link_call l rows flags ld rd)
link_unmoved OneLink rows flags ld rd = bare_link_unmoved rows flags 1 ld rd
link_unmoved TwoLink rows flags ld rd = bare_link_unmoved rows flags 2 ld rd
link_unmoved ThreeLink rows flags ld rd = three_link_unmoved rows flags ld rd
link_unmoved OneUnlink rows flags ld rd = bare_unlink_unmoved rows flags 1 ld
link_unmoved TwoUnlink rows flags ld rd = bare_unlink_unmoved rows flags 2 ld
link_unmoved ThreeUnlink rows flags ld rd = three_unlink_unmoved rows flags ld

-- ---- what answers carry

pub either_plain : (b : Bool) (x y : Out) → Plain x.answer → Plain y.answer → Plain (cond b x y).answer
either_plain true x y p q = p
either_plain false x y p q = q

pub core_plain : (rows : List ℕ) (i l r : ℕ) → Plain (link_core rows i l r).answer
unfolding link_core
core_plain rows i l r =
    either_plain (not (eqb (beta rows i l) 0)) (out (Err (NonFreeBase i l r)) rows) _ tt
    (either_plain (not (eqb (beta rows (opp i) r) 0) || leb 2 i && eqb l r) (out (Err (NonFreeImage (opp i) l r)) rows) (out nothing (put rows i l r)) tt refl)

pub uncore_plain : (rows : List ℕ) (i l : ℕ) → Plain (unlink_core rows i l).answer
unfolding unlink_core
uncore_plain rows i l =
    either_plain (eqb (beta rows i l) 0) (out (Err (AlreadyFree i l)) rows) (out (done (beta rows i l) 0) (cut rows i l (beta rows i l))) tt refl

step_plain : (parting : Bool) (ld rd : ℕ) (rows : List ℕ) (l r : ℕ) → Plain (step_of parting ld rd rows l r).answer
unfolding step_of
step_plain false ld rd rows l r = either_plain (eqb r 0) (out (Err (AsymmetricalFaces ld rd)) rows) (link_core rows 3 l r) tt (core_plain rows 3 l r)
step_plain true ld rd rows l r =
    either_plain (eqb l (beta rows 3 r)) (unlink_core rows 3 l) (out (Err (AsymmetricalFaces ld rd)) rows) (uncore_plain rows 3 l) tt

either_leg : (b : Bool) (x y : LegOut) → Plain x.leg.answer → Plain y.leg.answer → Plain (cond b x y).leg.answer
either_leg true x y p q = p
either_leg false x y p q = q

pub walk_plain : (parting : Bool) (ld rd f : ℕ) (rows : List ℕ) (i j stop l r k : ℕ) → Plain (walk (step_of parting ld rd) f rows i j stop l r k).leg.answer
unfolding walk
walk_plain parting ld rd zero rows i j stop l r k = refl
walk_plain parting ld rd (suc f) rows i j stop l r k =
    let s : Out = step_of parting ld rd rows l r in
    either_leg (eqb l 0 || eqb l stop) (leg_out (leg_at nothing l r k) rows) _ refl
    (either_leg (is_ok s.answer)
    (walk (step_of parting ld rd) f s.rows i j stop (beta s.rows i l) (beta s.rows j r) (suc k)) (leg_out (leg_at s.answer l r k) s.rows)
    (walk_plain parting ld rd f s.rows i j stop (beta s.rows i l) (beta s.rows j r) (suc k)) (step_plain parting ld rd rows l r))

module _ (parting : Bool) (d : ℕ) (entry : List ℕ) (ld rd : ℕ) where
  last_plain : (w : LegOut) → Plain w.leg.answer → Plain (last_leg d entry w).answer
  last_plain w p = either_plain (is_ok w.leg.answer) (out (done d 0) w.rows) (out w.leg.answer entry) refl p

  leg_plain : (w : LegOut) → Plain w.leg.answer → Plain (after_leg parting d entry ld rd w).answer
  leg_plain w p =
      let back : LegOut = leg_back parting w.rows ld rd in
      either_plain (is_ok w.leg.answer) _ (out w.leg.answer entry)
      (either_plain (eqb w.leg.pair.l 0) _ (out (done d 0) w.rows)
      (either_plain (eqb w.leg.pair.r 0) (last_leg d entry back) (out (Err (AsymmetricalFaces ld rd)) entry)
      (last_plain back (walk_plain parting ld rd (suc (length w.rows)) w.rows 0 1 0 _ _ 0)) tt) refl) p

  three_plain : (o : Out) → Plain o.answer → Plain (after_core parting d entry ld rd o).answer
  three_plain o p =
      let on : LegOut = leg_on parting o.rows ld rd in
      either_plain (is_ok o.answer) (after_leg parting d entry ld rd on) (out o.answer entry)
      (leg_plain on (walk_plain parting ld rd (suc (length o.rows)) o.rows 1 0 ld _ _ 0)) p

pub three_unlink_plain : (rows : List ℕ) (ld : ℕ) → Plain (three_unlink_on rows ld).answer
unfolding three_unlink_on
three_unlink_plain rows ld = three_plain true (beta rows 3 ld) rows ld (beta rows 3 ld) (unlink_core rows 3 ld) (uncore_plain rows 3 ld)

three_link_plain : (rows : List ℕ) (ld rd : ℕ) → Plain (three_link_on rows ld rd).answer
unfolding three_link_on
three_link_plain rows ld rd = three_plain false 0 rows ld rd (link_core rows 3 ld rd) (core_plain rows 3 ld rd)

pub link_plain : (l : Link) (rows : List ℕ) (ld rd : ℕ) → Plain (link_on l rows ld rd).answer
link_plain OneLink rows ld rd = core_plain rows 1 ld rd
link_plain TwoLink rows ld rd = core_plain rows 2 ld rd
link_plain ThreeLink rows ld rd = three_link_plain rows ld rd
link_plain OneUnlink rows ld rd = uncore_plain rows 1 ld
link_plain TwoUnlink rows ld rd = uncore_plain rows 2 ld
link_plain ThreeUnlink rows ld rd = three_unlink_plain rows ld

-- ---- for the code

pub on_second : (l : Link) (rows : List ℕ) (ld rd : ℕ) → link_on l rows ld (link_second l ld rd) ≡ link_on l rows ld rd
on_second OneLink rows ld rd = refl
on_second TwoLink rows ld rd = refl
on_second ThreeLink rows ld rd = refl
on_second OneUnlink rows ld rd = refl
on_second TwoUnlink rows ld rd = refl
on_second ThreeUnlink rows ld rd = refl
