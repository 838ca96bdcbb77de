-- The loop of the list, and that a turn keeps its invariant.
--   put_none, put_one     a dart put behind an output's first places, or not
--   Listing, listing-..   the loop
--   begun                 the null dart in marks and queue
--   marks_same, queue_wiped   scratch at the end
-- Assumes nothing.
use mathlib.Core.Path.{◌≡◌, refl, sym, ap, ◌∙◌}
use mathlib.Core.Bool.{Bool, true, false, cond, ◌&&◌}
use mathlib.Core.Logic.{⊎_elim}
use mathlib.Core.List.Memᴰ
use mathlib.Core.List.{List, [], ◌∷◌, ◌++◌, append_assoc, append-nil}
use Prim.Native.Nat.{ℕ, suc, ◌+◌, ◌-◌, ◌≤◌, ◌<◌}
use native.Mathlib.Nat.{le_refl}
use native.Mathlib.Numerals.{add-one}
use native.Mathlib.Omega.{arith}
use lib.Dec.{eqb, ltb}
use lib.ListN.{length, get_or, take, drop, set, replicate, take-append-drop}
use lib.Seq.{length-take-le, take-suc-set, drop-set-lt}
use borrow.Author.Tests.{eqb-true, eqb-false, lt-ltb, le-ltb}
use Rattle.cell_lists.specs.CellLists.{cells_from, cells_by, cell_list, Put}
use Rattle.cell_joins.specs.Joins.{Whole, Grew}
use Rattle.cell_steps.specs.Idents.{ident}
use Rattle.map_betas.specs.Betas.{darts}
use Rattle.cell_steps.specs.Loans.{Queue, Listed, Zero}
use Rattle.cell_steps.specs.Calls.{wiped}
use Rattle.cell_steps.specs.Search.{In, mem, Bounded, Symmetric}
use Rattle.cell_steps.proofs.Lists.{bool, mem_in, not_mem}
use Rattle.cell_steps.proofs.TurnLaws.{drop_more, seeded}
use Rattle.cell_steps.proofs.ScratchLaws.{zeros_are}
use Rattle.cell_lists.proofs.KnownLaws.{Known, known_closed, known_starts, known_old, known_same}
use Rattle.cell_lists.proofs.KnownLaws.{known_new, known_more, cells_flags, cells_other, cells_own}

-- ---- `put`

module _ (x : ℕ) (out : List ℕ) (count : ℕ) where
  pub put_none : Put false x out count out count
  put_none = record { front = sym (append-nil (take count out)); back = refl; more = le_refl count; one = omega arith }

  pub put_one : count < length out → Put true x out count (set out count x) (count + 1)
  put_one h =
      record {
        front = rw (add-one, take-suc-set out count x h);
        back = drop-set-lt (count + 1) out count x (omega arith);
        more = omega arith;
        one = omega arith;
      }

-- ---- the loop: the darts before d are passed

pub record Listing (rows steps flags : List ℕ) (marks₀ queue₀ out₀ marks queue out : List ℕ) (found count d : ℕ) : Type 0 where
  pub marks_n : length marks ≡ length marks₀
  pub queue_same : length queue ≡ length queue₀
  pub out_n : length out ≡ length out₀
  pub some : 0 < d
  pub upto : d ≤ darts rows
  pub few : count < d
  pub held : Queue marks queue found
  pub known : Known rows steps d (take found queue)
  pub null_there : In 0 (take found queue)
  pub behind : drop found queue ≡ drop found queue₀
  pub left : take count out ++ cells_from (ident rows steps) flags d (darts rows - d) ≡ cell_list rows steps flags
  pub rest : drop count out ≡ drop count out₀

-- what a turn at d gives
record Turned (rows steps flags : List ℕ) (found d r : ℕ) (l : List ℕ) : Type 0 where
  known : Known rows steps (d + 1) l
  null_there : In 0 l
  own : cells_from (ident rows steps) flags d (suc (darts rows - (d + 1))) ≡ cond (ltb found r && eqb (get_or flags d 0) 0) (d ∷ []) []
      ++ cells_from (ident rows steps) flags (d + 1) (darts rows - (d + 1))

module _ (rows steps flags : List ℕ) (b : Bounded rows) (y : Symmetric rows steps) (marks queue : List ℕ) (found d : ℕ) (r : ℕ) (h : d < darts rows)
    (some : 0 < d) (n-is : length marks ≡ darts rows) (q : Queue marks queue found) (k : Known rows steps d (take found queue))
    (z : In 0 (take found queue)) where
  grew : found < r → cond (true && eqb (get_or flags d 0) 0) (d ∷ []) []
      ++ cells_from (ident rows steps) flags (d + 1) (darts rows - (d + 1)) ≡ cond (ltb found r && eqb (get_or flags d 0) 0) (d ∷ []) []
      ++ cells_from (ident rows steps) flags (d + 1) (darts rows - (d + 1))
  grew f = ap (λ (t : Bool). cond (t && eqb (get_or flags d 0) 0) (d ∷ []) [] ++ cells_from (ident rows steps) flags (d + 1) (darts rows - (d + 1)))
      (sym (lt-ltb found r f))

  turned : (marks' queue' : List ℕ) → Grew rows steps d queue found marks' queue' r → Turned rows steps flags found d r (take r queue')
  turned marks' queue' g =
      ⊎_elim
      (λ u.
      let m : In d (take found queue) = mem_in d (take found queue) u in
      let e = g.same m in
      record {
        known = rw e.1 (known_same rows steps b y d (take found queue) h k m);
        null_there = rw e.1 z;
        own =
            cells_other (ident rows steps) flags d (darts rows - (d + 1)) (known_old rows steps b y d (take found queue) h k m)
            ∙ ap (λ (t : Bool). cond (t && eqb (get_or flags d 0) 0) (d ∷ []) [] ++ cells_from (ident rows steps) flags (d + 1) (darts rows - (d + 1)))
            (sym (le-ltb found r (omega (arith, e.0))));
      })
      (λ u.
      let o : In d (take found queue) → ⊥ = not_mem d (take found queue) u in
      let e : d ≡ 0 → ⊥ = λ t. omega arith in
      let j = g.new o in
      record {
        known = known_more rows steps b y d (take found queue) h k e o _ j.1;
        null_there = j.1.old 0 z;
        own =
            ⊎_elim
            (λ t.
            cells_own (ident rows steps) flags d (darts rows - (d + 1)) (eqb-true (get_or flags d 0) 0 t)
            (known_new rows steps b y d (take found queue) h k e o)
            ∙ ap (λ (c : Bool). cond (true && c) (d ∷ []) [] ++ cells_from (ident rows steps) flags (d + 1) (darts rows - (d + 1))) (sym t)
            ∙ grew j.0)
            (λ t.
            cells_flags (ident rows steps) flags d (darts rows - (d + 1)) (eqb-false (get_or flags d 0) 0 t)
            ∙ ap (λ (c : Bool). cond (true && c) (d ∷ []) [] ++ cells_from (ident rows steps) flags (d + 1) (darts rows - (d + 1))) (sym t)
            ∙ grew j.0)
            (bool (eqb (get_or flags d 0) 0));
      })
      (bool (mem d (take found queue)))

module _ (rows steps flags marks₀ queue₀ out₀ : List ℕ) (b : Bounded rows) (y : Symmetric rows steps) (n-is : length marks₀ ≡ darts rows) where
  pub listing_starts : Queue marks₀ queue₀ 1 → take 1 queue₀ ≡ 0 ∷ [] → Listing rows steps flags marks₀ queue₀ out₀ marks₀ queue₀ out₀ 1 0 1
  unfolding cells_by
  listing_starts q e =
      record {
        marks_n = refl;
        queue_same = refl;
        out_n = refl;
        some = omega arith;
        upto = omega (arith, b 0 0);
        few = omega arith;
        held = q;
        known = rw e (known_starts rows steps b y);
        null_there = rw e (Memᴰ.head refl);
        behind = refl;
        left = refl;
        rest = refl;
      }

  module _ (marks queue out : List ℕ) (found count d : ℕ) (v : Listing rows steps flags marks₀ queue₀ out₀ marks queue out found count d) where
    pub listing_closed : d < darts rows → Whole rows steps (take found queue)
    listing_closed h = known_closed rows steps b y d (take found queue) h v.known (λ x m. omega (arith, v.held.below x m, v.marks_n, n-is))

    pub listing_turn : (marks' queue' out' : List ℕ) (r c : ℕ) → d < darts rows → length marks' ≡ length marks → length queue' ≡ length queue →
        length out' ≡ length out → Grew rows steps d queue found marks' queue' r → Put (ltb found r && eqb (get_or flags d 0) 0) d out count out' c →
        Listing rows steps flags marks₀ queue₀ out₀ marks' queue' out' r c (d + 1)
    listing_turn marks' queue' out' r c h e-m e-q e-o g p =
        let t : Turned rows steps flags found d r (take r queue') =
        turned rows steps flags b y marks queue found d r h v.some (v.marks_n ∙ n-is) v.held v.known v.null_there marks' queue' g in
        let f : darts rows - d ≡ suc (darts rows - (d + 1)) = omega arith in
        record {
          marks_n = e-m ∙ v.marks_n;
          queue_same = e-q ∙ v.queue_same;
          out_n = e-o ∙ v.out_n;
          some = omega arith;
          upto = omega arith;
          few = omega (arith, v.few, p.one);
          held = g.held;
          known = t.known;
          null_there = t.null_there;
          behind = g.back ∙ drop_more queue queue₀ found r g.more v.behind;
          left =
              ap (λ (x : List ℕ). x ++ cells_from (ident rows steps) flags (d + 1) (darts rows - (d + 1))) p.front
              ∙ append_assoc (take count out) (cond (ltb found r && eqb (get_or flags d 0) 0) (d ∷ []) [])
              (cells_from (ident rows steps) flags (d + 1) (darts rows - (d + 1)))
              ∙ ap (λ (x : List ℕ). take count out ++ x) (sym t.own)
              ∙ ap (λ (i : ℕ). take count out ++ cells_from (ident rows steps) flags d i) (sym f)
              ∙ v.left;
          rest = p.back ∙ drop_more out out₀ count c p.more v.rest;
        }

    pub listing_ends : darts rows ≤ d → count ≤ length out → Listed (cell_list rows steps flags) out₀ out count
    unfolding cells_from
    listing_ends h w =
        let z : darts rows - d ≡ 0 = omega arith in
        let e : take count out ≡ cell_list rows steps flags =
        sym (append-nil (take count out)) ∙ ap (λ (i : ℕ). take count out ++ cells_from (ident rows steps) flags d i) (sym z) ∙ v.left in
        let k : count ≡ length (cell_list rows steps flags) = sym (length-take-le count out w) ∙ ap length e in
        record {
          count = k;
          places =
              sym (take-append-drop count out)
              ∙ ap (λ (x : List ℕ). x ++ drop count out) e
              ∙ ap (λ (x : List ℕ). cell_list rows steps flags ++ x) (v.rest ∙ ap (λ (i : ℕ). drop i out₀) k);
        }

-- ---- scratch: the null dart begins the queue; at the end n zeros stand where it was, and the marks are as they were

module _ (marks queue : List ℕ) where
  pub begun : Zero marks → 0 < length marks → length marks ≤ length queue → Queue (set marks 0 1) (set queue 0 0) 1 × (take 1 (set queue 0 0) ≡ 0 ∷ [])
  begun z h w = (seeded 0 marks queue h w z, take-suc-set queue 0 0 (omega arith))

pub marks_same : (marks₀ marks marks' : List ℕ) → Zero marks₀ → length marks ≡ length marks₀ → marks' ≡ replicate (length marks) 0 → marks' ≡ marks₀
marks_same marks₀ marks marks' z e w = w ∙ ap (λ (k : ℕ). replicate k 0) e ∙ zeros_are marks₀ z

pub queue_wiped : (n found : ℕ) (queue₀ queue queue' : List ℕ) → 0 < n → found ≤ n → drop found queue ≡ drop found (set queue₀ 0 0) →
    queue' ≡ wiped n queue → queue' ≡ wiped n queue₀
queue_wiped n found queue₀ queue queue' some h e w =
    w ∙ ap (λ (t : List ℕ). replicate n 0 ++ t) (drop_more queue (set queue₀ 0 0) found n h e ∙ drop-set-lt n queue₀ 0 0 some)
