-- The loop of the list of faces: the darts before d are passed, and those of regular faces among them are marked.
--   Keeping                        the invariant
--   keeping_starts, -turn, -ends   that it holds at first, that a turn keeps it, and that it gives the list
--   keeping_marks, keeping_queue   scratch at the end
-- Assumes nothing.
use Prim.Native.Nat.{ℕ, suc, ◌+◌, ◌-◌, ◌≤◌, ◌<◌}
use native.Mathlib.Omega.{arith}
use mathlib.Core.Path.{◌≡◌, refl, sym, ap, ◌∙◌}
use mathlib.Core.Bool.{Bool, true, false, cond, ◌&&◌, and_comm}
use mathlib.Core.List.{List, [], ◌∷◌, ◌++◌, append_assoc, append-nil}
use lib.Dec.{eqb}
use lib.ListN.{length, get_or, take, drop, replicate, take-append-drop}
use lib.Seq.{length-take-le}
use Rattle.map_betas.specs.Betas.{darts}
use Rattle.map_betas.specs.Maps.{WellFormed}
use Rattle.cell_steps.specs.Loans.{Queue, Listed, Zero}
use Rattle.cell_steps.specs.Calls.{wiped}
use Rattle.cell_steps.proofs.QueueLaws.{queue_none}
use Rattle.cell_steps.proofs.TurnLaws.{drop_more}
use Rattle.cell_lists.specs.CellLists.{cells_from, cells_by, Put}
use Rattle.cell_lists.proofs.ListingLaws.{marks_same}
use Rattle.cell_faces.specs.Faces.{face_id}
use Rattle.cell_faces.specs.FaceLists.{Faced, DartTested}
use Rattle.cell_faces.proofs.FacedLaws.{faced_starts}

pub record Keeping (rows flags marks₀ queue₀ out₀ marks queue out : List ℕ) (known count d : ℕ) : Type 0 where
  pub marks_n : length marks ≡ length marks₀
  pub queue_same : length queue ≡ length queue₀
  pub queue_rest : drop (darts rows) queue ≡ drop (darts rows) queue₀
  pub out_n : length out ≡ length out₀
  pub some : 0 < d
  pub upto : d ≤ darts rows
  pub few : count < d
  pub held : Queue marks queue known
  pub faced : Faced rows d (take known queue)
  pub left : take count out ++ cells_from (face_id rows) flags d (darts rows - d) ≡ cells_by (face_id rows) (darts rows) flags
  pub rest : drop count out ≡ drop count out₀

-- one step of the list, by the test
one : (id : ℕ → ℕ) (flags : List ℕ) (d f : ℕ) →
    cells_from id flags d (suc f) ≡ cond (eqb (get_or flags d 0) 0 && eqb (id d) d) (d ∷ []) [] ++ cells_from id flags (d + 1) f
unfolding cells_from
one id flags d f = go (eqb (get_or flags d 0) 0 && eqb (id d) d)
  where
    go : (t : Bool) → cond t (d ∷ cells_from id flags (d + 1) f) (cells_from id flags (d + 1) f) ≡ cond t (d ∷ []) [] ++ cells_from id flags (d + 1) f
    go true = refl
    go false = refl

module _ (rows : List ℕ) (w : WellFormed rows) (flags marks₀ queue₀ out₀ : List ℕ) where
  pub keeping_starts : Zero marks₀ → Keeping rows flags marks₀ queue₀ out₀ marks₀ queue₀ out₀ 0 0 1
  unfolding cells_by
  keeping_starts z =
      record {
        marks_n = refl;
        queue_same = refl;
        queue_rest = refl;
        out_n = refl;
        some = omega arith;
        upto = w.sized.some;
        few = omega arith;
        held = queue_none marks₀ queue₀ z;
        faced = faced_starts rows w;
        left = refl;
        rest = refl;
      }

  module _ (marks queue out : List ℕ) (known count d : ℕ) (v : Keeping rows flags marks₀ queue₀ out₀ marks queue out known count d) where
    pub keeping_turn : (marks' queue' out' : List ℕ) (own : Bool) (r c : ℕ) → d < darts rows → length marks' ≡ length marks → length queue' ≡ length queue →
        length out' ≡ length out →
        DartTested rows d queue marks' queue' own r → Put (own && eqb (get_or flags d 0) 0) d out count out' c →
        Keeping rows flags marks₀ queue₀ out₀ marks' queue' out' r c (d + 1)
    keeping_turn marks' queue' out' own r c h e-m e-q e-o s q =
        let p : Put (eqb (get_or flags d 0) 0 && own) d out count out' c = rw (and_comm own (eqb (get_or flags d 0) 0)) at q in
        let f : darts rows - d ≡ suc (darts rows - (d + 1)) = omega arith in
        record {
          marks_n = e-m ∙ v.marks_n;
          queue_same = e-q ∙ v.queue_same;
          queue_rest = s.rest ∙ v.queue_rest;
          out_n = e-o ∙ v.out_n;
          some = omega arith;
          upto = omega arith;
          few = omega (arith, v.few, p.one);
          held = s.held;
          faced = s.faced;
          left =
              ap (λ (x : List ℕ). x ++ cells_from (face_id rows) flags (d + 1) (darts rows - (d + 1)))
              (p.front ∙ ap (λ (k : Bool). take count out ++ cond (eqb (get_or flags d 0) 0 && k) (d ∷ []) []) s.own_is)
              ∙ append_assoc (take count out) (cond (eqb (get_or flags d 0) 0 && eqb (face_id rows d) d) (d ∷ []) [])
              (cells_from (face_id rows) flags (d + 1) (darts rows - (d + 1)))
              ∙ ap (λ (x : List ℕ). take count out ++ x) (sym (one (face_id rows) flags d (darts rows - (d + 1))))
              ∙ ap (λ (k : ℕ). take count out ++ cells_from (face_id rows) flags d k) (sym f)
              ∙ v.left;
          rest = p.back ∙ drop_more out out₀ count c p.more v.rest;
        }

    pub keeping_ends : darts rows ≤ d → count ≤ length out → Listed (cells_by (face_id rows) (darts rows) flags) out₀ out count
    unfolding cells_from
    keeping_ends h room =
        let z : darts rows - d ≡ 0 = omega arith in
        let l : List ℕ = cells_by (face_id rows) (darts rows) flags in
        let e : take count out ≡ cells_by (face_id rows) (darts rows) flags =
        sym (append-nil (take count out)) ∙ ap (λ (i : ℕ). take count out ++ cells_from (face_id rows) flags d i) (sym z) ∙ v.left in
        let k : count ≡ length (cells_by (face_id rows) (darts rows) flags) = sym (length-take-le count out room) ∙ ap length e in
        record {
          count = k;
          places =
              sym (take-append-drop count out)
              ∙ ap (λ (x : List ℕ). x ++ drop count out) e
              ∙ ap (λ (x : List ℕ). l ++ x) (v.rest ∙ ap (λ (i : ℕ). drop i out₀) k);
        }

    pub keeping_marks : (marks' : List ℕ) → Zero marks₀ → marks' ≡ replicate (length marks) 0 → marks' ≡ marks₀
    keeping_marks marks' z e = marks_same marks₀ marks marks' z v.marks_n e

    pub keeping_queue : (n : ℕ) (queue' : List ℕ) → n ≡ darts rows → queue' ≡ wiped n queue → queue' ≡ wiped (darts rows) queue₀
    keeping_queue n queue' n-is e =
        e ∙ ap (λ (k : ℕ). wiped k queue) n-is ∙ ap (λ (t : List ℕ). replicate (darts rows) 0 ++ t) v.queue_rest
