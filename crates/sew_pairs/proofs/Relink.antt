-- A 3-link after a 3-unlink.
--   had_image   a 3-unlink that is done was of a dart with an image
--   answers     and answers that image
--   did         and found each dart of the chain facing its image, and parted exactly these pairs
--   matches     what a 3-unlink has parted faces each other: the images before it are a matching
--   relinks     a 3-link of ld and its former image, after a 3-unlink that is done, gives back every row
-- Assumes nothing.
use Rattle.std.specs.Prelude.{◌≡◌, ℕ, ◌+◌, ◌*◌, ◌/◌, ◌%◌, ◌<◌, true, ◌≢◌, List, length, get_or, is_ok}
use native.Mathlib.Omega.{arith}
use native.Mathlib.Decide.{ℕ_discrete, dec_lt}
use mathlib.Core.Path.{refl, sym, ap, ◌∙◌}
use mathlib.Core.Logic.{by_cases}
use mathlib.Core.Bool.{true≢false}
use lib.Seq.{ext_get_or}
use Rattle.map_betas.specs.Betas.{beta, darts}
use Rattle.map_betas.specs.Answers.{Out, out, nothing, done}
use Rattle.map_betas.specs.Maps.{WellFormed}
use Rattle.map_betas.proofs.Chains.{chain_alike}
use Rattle.link_walk.specs.Three.{three_link_on, three_unlink_on}
use Rattle.link_walk.proofs.Kept.{link_kept, unlink_kept}
use Rattle.link_glue.specs.Matching.{Chain, ClosedChain, Facing, Matching, Linked, Unlinkable, Unlinked}
use Rattle.link_glue.proofs.Found.{unlink_found}
use Rattle.link_glue.proofs.Demand.{succeeds, links, says, free, unlinks_iff}

-- rows are equal where every image is
images : (xs ys : List ℕ) → length xs ≡ length ys → ((i d : ℕ) → i < 4 → beta xs i d ≡ beta ys i d) → xs ≡ ys
images xs ys e h =
    ext_get_or 0 xs ys e
    (λ k b.
    let q : k ≡ 4 * (k / 4) + k % 4 = omega arith in
    ap (λ (x : ℕ). get_or xs x 0) q ∙ h (k % 4) (k / 4) (omega arith) ∙ ap (λ (x : ℕ). get_or ys x 0) (sym q))

module _ (rows : List ℕ) (ld : ℕ) (s : WellFormed rows) (nl : ld ≢ 0) (hl : ld < darts rows) (t : is_ok (three_unlink_on rows ld).answer ≡ true) where
  pub had_image : beta rows 3 ld ≢ 0
  had_image z = true≢false (sym t ∙ ap (λ (o : Out). is_ok o.answer) (free rows ld s hl nl z))

  abbrev cut : List ℕ
  cut = (three_unlink_on rows ld).rows

  pub did : Unlinkable rows ld × Unlinked rows ld cut
  did = unlink_found rows ld (beta rows 3 ld) s hl nl refl had_image t

  long : length cut ≡ length rows
  long = did.1.long

  to : {d : ℕ} → Chain cut ld d → Chain rows ld d
  to = chain_alike ld cut rows (λ i d h. did.1.lower i d (omega arith))

  from : {d : ℕ} → Chain rows ld d → Chain cut ld d
  from = chain_alike ld rows cut (λ i d h. sym (did.1.lower i d (omega arith)))

  closed : ClosedChain rows ld → ClosedChain cut ld
  closed h = record { never_null = λ d c z. h.never_null d (to c) (sym (did.1.lower 1 d (omega arith)) ∙ z) }

  again : (d : ℕ) → Chain cut ld d → beta rows 3 (beta rows 3 d) ≡ d
  again d c = s.back 3 d (omega arith) (did.0.real d (to c))

  faces : Facing cut ld (λ d. beta rows 3 d)
  faces =
      let low = did.1.lower in
      let f = did.0.facing in
      record {
        steps =
            λ d c n k.
            low 0 (beta rows 3 d) (omega arith)
            ∙ f.steps d (to c) (λ z. n (low 1 d (omega arith) ∙ z)) (λ h z. k (closed h) (low 1 d (omega arith) ∙ z))
            ∙ ap (λ (x : ℕ). beta rows 3 x) (sym (low 1 d (omega arith)));
        ends = λ d c z. low 0 (beta rows 3 d) (omega arith) ∙ f.ends d (to c) (sym (low 1 d (omega arith)) ∙ z);
      }

  pub answers : (three_unlink_on rows ld).answer ≡ done (beta rows 3 ld) 0
  answers = (unlinks_iff rows ld s hl nl had_image).0 did.0

  pub matches : Matching cut ld (beta rows 3 ld) (λ d. beta rows 3 d)
  matches =
      record {
        starts = refl;
        facing = faces;
        real = λ d c. (did.0.real d (to c), rw (ap (λ (k : ℕ). k / 4) long) (s.below 3 d));
        outside = λ d c g. did.0.outside d (to c) (to g);
        different = λ d e c g z. sym (again d c) ∙ ap (λ (x : ℕ). beta rows 3 x) z ∙ again e g;
        free = λ d c. (did.1.left d (to c), did.1.right d (to c));
      }

  pub relinks : three_link_on (three_unlink_on rows ld).rows ld (beta rows 3 ld) ≡ out nothing rows
  relinks =
      let rd : ℕ = beta rows 3 ld in
      let n : darts cut ≡ darts rows = ap (λ (k : ℕ). k / 4) long in
      let w : WellFormed cut = (unlink_kept rows ld s hl nl).0 in
      let hl' : ld < darts cut = rw n hl in
      let hr' : beta rows 3 ld < darts cut = rw n (s.below 3 ld) in
      let d = (succeeds cut ld (beta rows 3 ld) w hl' nl hr' had_image).0 ((λ x. beta rows 3 x), matches) in
      let m : Linked cut ld (λ x. beta rows 3 x) (three_link_on cut ld (beta rows 3 ld)).rows =
      links cut ld (beta rows 3 ld) w hl' nl hr' had_image (λ x. beta rows 3 x) matches in
      let e : (three_link_on cut ld (beta rows 3 ld)).rows ≡ rows = same m ((link_kept cut ld (beta rows 3 ld) w hl' nl hr' had_image).1 ∙ long) in
      let a : (three_link_on cut ld (beta rows 3 ld)).answer ≡ nothing = says cut ld (beta rows 3 ld) w hl' nl hr' had_image d in
      λ i. record { answer = a i; rows = e i }
    where
      same : {ys : List ℕ} → Linked cut ld (λ x. beta rows 3 x) ys → length ys ≡ length rows → ys ≡ rows
      same {ys} m e =
          images ys rows e
          (λ i d h. by_cases (dec_lt i 3)
          (λ (b : i < 3). m.lower i d b ∙ did.1.lower i d b)
          (λ (b : i < 3 → ⊥). let q : i ≡ 3 = omega arith in rw q (three m d)))
        where
          three : {zs : List ℕ} → Linked cut ld (λ x. beta rows 3 x) zs → (d : ℕ) → beta zs 3 d ≡ beta rows 3 d
          three {zs} k d =
              by_cases (ℕ_discrete (beta zs 3 d) (beta rows 3 d))
              (λ (y : beta zs 3 d ≡ beta rows 3 d). y)
              (λ (y : beta zs 3 d ≢ beta rows 3 d).
              let out-l : Chain cut ld d → ⊥ = λ c. y (k.left d c) in
              let out-r : (x : ℕ) → Chain cut ld x →
              d ≢ beta rows 3 x = λ x c z. y (ap (λ (v : ℕ). beta zs 3 v) z ∙ k.right x c ∙ sym (again x c) ∙ ap (λ (v : ℕ). beta rows 3 v) (sym z)) in
              k.others d out-l out-r ∙ did.1.others d (λ c. out-l (from c)) (λ x c. out-r x (from c)))
