-- What the 3-link and the 3-unlink promise, without their walks. `Matching`, `Linked`, `Unlinkable` and `Unlinked` are those of
-- `specs/Matching.antt`; `Used rows flags a b` (`specs/Calls.antt` of the crate `link_walk`) says that rows and flags are a map, and a and b real
-- darts of it in use. That is what the calls are told of (demand 3); cores ask for well-formed rows and real darts.
--
--   of the calls
--   call_succeeds         a 3-link is done exactly where there is a matching
--   call_matching_unique  there is at most one
--   call_links            exactly the pairs of the matching become 3-linked: every other image is as it was
--   call_links_what       and what became linked is the matching
--   call_says             a 3-link that is done has nothing to say
--   call_undoes           after a 3-link that is done a 3-unlink of ld, as the very next call, is done, answers rd and gives back every row:
--                         for any rows, flags and darts
--   call_free             a 3-unlink of a 3-free dart is refused with 8, which names that dart
--   call_unlinks_iff      a 3-unlink of a dart with an image is done, and answers it, exactly where each dart of the chain faces its image
--   call_unlinks          exactly these pairs become 3-free
--   call_uneven           elsewhere it is refused with 9, ld and its image
--   call_names_ld         8 only ever names ld
--
--   of their cores, on a map and real darts of it
--   succeeds, matching_unique, links, says, undoes, free, unlinks_iff, unlinks, uneven, names_ld   the same
-- Assumes nothing.
use Prim.Native.Nat.{ℕ, ◌<◌}
use native.Mathlib.Omega.{arith}
use native.Mathlib.Decide.{ℕ_discrete}
use mathlib.Core.Path.{◌≡◌, refl, sym, ap, ◌∙◌}
use mathlib.Core.Logic.{◌≢◌, ◌↔◌, ◌⊎◌, inl, inr, by_cases}
use mathlib.Core.List.{List}
use mathlib.Core.Bool.{Bool, true, false, true≢false}
use lib.ListN.{length}
use Rattle.map_betas.specs.declared.error.Refusal.TheVariants.{AlreadyFree, AsymmetricalFaces}
use Rattle.map_betas.specs.Betas.{beta, darts}
use Rattle.map_betas.specs.Answers.{Out, out, Outcome, outcome, given, nothing, tell_of, Answer, done}
use Rattle.map_betas.specs.Maps.{WellFormed}
use Rattle.link_walk.specs.Three.{three_link_on, three_unlink_on}
use Rattle.link_walk.specs.Calls.{Real, Used, three_link, three_unlink}
use Rattle.link_glue.specs.Matching.{Chain, Matching, Linked, Unlinkable, Unlinked}
use Rattle.map_betas.proofs.Spared.{kept_map}
use Rattle.link_walk.proofs.CallLaws.{through, inside}
use Rattle.link_walk.proofs.Kept.{link_kept}
use Rattle.link_walk.proofs.ThreeLaws.{on_free}
use Rattle.link_glue.proofs.Success.{Success, closed, opened, link_success}
use Rattle.link_glue.proofs.Restore.{restored}
use Rattle.link_glue.proofs.Found.{link_found, unlink_found}
use Rattle.link_glue.proofs.Asked.{link_asked, unlink_asked}
use Rattle.link_glue.proofs.Unique.{unique, linked_by}
use Rattle.link_glue.proofs.UnlinkAnswers.{unlink_answers}
use Rattle.std.specs.Prelude.{Err, is_ok}

-- the cores

module _ (rows : List ℕ) (ld rd : ℕ) (s : WellFormed rows) (hl : ld < darts rows) (nl : ld ≢ 0) (hr : rd < darts rows) (nr : rd ≢ 0) where
  pub succeeds : ((p : ℕ → ℕ) × Matching rows ld rd p) ↔ (is_ok (three_link_on rows ld rd).answer ≡ true)
  succeeds = (
    (λ x. link_asked rows ld rd s nl hl x.0 hr x.1),
    (λ t. ((λ d. beta (three_link_on rows ld rd).rows 3 d), (link_found rows ld rd s hl nl hr nr t).0)),
  )

  pub matching_unique : (p q : ℕ → ℕ) → Matching rows ld rd p → Matching rows ld rd q → (d : ℕ) → Chain rows ld d → p d ≡ q d
  matching_unique = unique rows ld rd s nl hl hr

  pub links : (p : ℕ → ℕ) → Matching rows ld rd p → Linked rows ld p (three_link_on rows ld rd).rows
  links p q = linked_by rows ld rd p s nl hl hr q

  pub says : is_ok (three_link_on rows ld rd).answer ≡ true → (three_link_on rows ld rd).answer ≡ nothing
  says t = go (three_link_on rows ld rd) (link_success rows ld rd s nl nr t)
    where
      go : (o : Out) → Success false 0 rows ld rd o → o.answer ≡ nothing
      go o (closed rows₁ h w e d z q) = ap (λ (x : Out). x.answer) q
      go o (opened rows₁ h w e d z y v e₂ d₂ q) = ap (λ (x : Out). x.answer) q

  pub undoes : is_ok (three_link_on rows ld rd).answer ≡ true → three_unlink_on (three_link_on rows ld rd).rows ld ≡ out (done rd 0) rows
  undoes t = (restored rows ld rd s hl nl hr nr t).2

module _ (rows : List ℕ) (ld : ℕ) (s : WellFormed rows) (hl : ld < darts rows) (nl : ld ≢ 0) where
  abbrev rd : ℕ
  rd = beta rows 3 ld

  pub free : beta rows 3 ld ≡ 0 → three_unlink_on rows ld ≡ out (Err (AlreadyFree 3 ld)) rows
  free z = sym (on_free rows ld z)

  done_says : (o : Out) → (o.answer ≡ done rd 0) ⊎ (o ≡ out (Err (AsymmetricalFaces ld rd)) rows) → is_ok o.answer ≡ true → o.answer ≡ done rd 0
  done_says o (inl e) t = e
  done_says o (inr e) t = absurd (true≢false (sym t ∙ ap (λ (x : Out). is_ok x.answer) e))

  else_says : (o : Out) → (o.answer ≡ done rd 0) ⊎ (o ≡ out (Err (AsymmetricalFaces ld rd)) rows) → is_ok o.answer ≡ false →
      o ≡ out (Err (AsymmetricalFaces ld rd)) rows
  else_says o (inl e) t = absurd (true≢false (sym (ap is_ok e) ∙ t))
  else_says o (inr e) t = e

  pub unlinks_iff : beta rows 3 ld ≢ 0 → (Unlinkable rows ld) ↔ ((three_unlink_on rows ld).answer ≡ done (beta rows 3 ld) 0)
  unlinks_iff n = (
    (λ q. done_says (three_unlink_on rows ld) (unlink_answers rows ld rd s hl nl refl n) (unlink_asked rows ld rd s nl hl refl n q)),
    (λ e. (unlink_found rows ld rd s hl nl refl n (ap is_ok e)).0),
  )

  pub unlinks : beta rows 3 ld ≢ 0 → is_ok (three_unlink_on rows ld).answer ≡ true → Unlinked rows ld (three_unlink_on rows ld).rows
  unlinks n t = (unlink_found rows ld rd s hl nl refl n t).1

  not_done : beta rows 3 ld ≢ 0 → is_ok (three_unlink_on rows ld).answer ≡ false → three_unlink_on rows ld ≡ out (Err (AsymmetricalFaces ld rd)) rows
  not_done n t = else_says (three_unlink_on rows ld) (unlink_answers rows ld rd s hl nl refl n) t

  pub uneven : beta rows 3 ld ≢ 0 → (Unlinkable rows ld → ⊥) → three_unlink_on rows ld ≡ out (Err (AsymmetricalFaces ld (beta rows 3 ld))) rows
  uneven n u = go (is_ok (three_unlink_on rows ld).answer) refl
    where
      go : (b : Bool) → is_ok (three_unlink_on rows ld).answer ≡ b → three_unlink_on rows ld ≡ out (Err (AsymmetricalFaces ld rd)) rows
      go true t = absurd (u (unlink_found rows ld rd s hl nl refl n t).0)
      go false t = not_done n t

  pub names_ld : (i d : ℕ) → (three_unlink_on rows ld).answer ≡ Err (AlreadyFree i d) → (i ≡ 3) × (d ≡ ld) × (beta rows 3 ld ≡ 0)
  names_ld i d e =
      by_cases (ℕ_discrete (beta rows 3 ld) 0)
      (λ (z : beta rows 3 ld ≡ 0).
      let q : Err (AlreadyFree i d) ≡ Err (AlreadyFree 3 ld) = sym e ∙ ap (λ (x : Out). x.answer) (free z) in
      (ap (λ (a : Answer). (tell_of a).first) q, ap (λ (a : Answer). (tell_of a).second) q, z))
      (λ (n : beta rows 3 ld ≢ 0).
      let q : Err (AlreadyFree i d) ≡ Err (AsymmetricalFaces ld rd) = sym e ∙ ap (λ (x : Out). x.answer) (not_done n (ap is_ok e)) in
      let k : ◌≡◌ {A = ℕ} 8 9 = ap (λ (a : Answer). (tell_of a).number) q in
      absurd (omega arith))

-- the calls

module _ (rows flags : List ℕ) (ld rd : ℕ) where
  -- what a 3-link that is done leaves is a map again, and ld is in use there: the next call's tests pass
  pub call_undoes : is_ok (three_link rows flags ld rd).answer ≡ true → three_unlink (three_link rows flags ld rd).loans flags ld ≡ outcome (done rd 0) rows
  unfolding three_link three_unlink
  call_undoes t =
      let p = through rows flags ld rd (given (three_link_on rows ld rd)) t in
      let u = p.0 in
      let h = u.real in
      let l = h.1 in
      let r = h.3 in
      let done : is_ok (three_link_on rows ld rd).answer ≡ true = ap (λ (o : Outcome (List ℕ)). is_ok o.answer) (sym p.1) ∙ t in
      let v = restored rows ld rd h.0 h.2 (omega arith) h.4 (omega arith) done in
      let k : length (three_link_on rows ld rd).rows ≡ length rows = v.1 in
      let hl = h.2 in
      let m = (kept_map ld rd rows flags _ u.map u.left u.right (link_kept rows ld rd h.0 h.2 (omega arith) h.4 (omega arith))).0 in
      let next : Used (three_link_on rows ld rd).rows flags ld ld =
      record { map = m; real = (v.0, l, omega arith, l, omega arith); left = u.left; right = u.left } in
      rw p.1 (inside (three_link_on rows ld rd).rows flags ld ld (given (three_unlink_on (three_link_on rows ld rd).rows ld)) next ∙ ap given v.2)

  module _ (u : Used rows flags ld rd) where
    -- the call is its core
    core : three_link rows flags ld rd ≡ given (three_link_on rows ld rd)
    unfolding three_link
    core = inside rows flags ld rd (given (three_link_on rows ld rd)) u

    h : Real rows ld rd
    h = u.real

    nl : ld ≢ 0
    nl = let a = h.1 in omega arith

    nr : rd ≢ 0
    nr = let a = h.3 in omega arith

    pub call_succeeds : ((p : ℕ → ℕ) × Matching rows ld rd p) ↔ (is_ok (three_link rows flags ld rd).answer ≡ true)
    call_succeeds = rw core (succeeds rows ld rd h.0 h.2 nl h.4 nr)

    pub call_matching_unique : (p q : ℕ → ℕ) → Matching rows ld rd p → Matching rows ld rd q → (d : ℕ) → Chain rows ld d → p d ≡ q d
    call_matching_unique = unique rows ld rd h.0 nl h.2 h.4

    pub call_links : (p : ℕ → ℕ) → Matching rows ld rd p → Linked rows ld p (three_link rows flags ld rd).loans
    call_links p q = rw core (links rows ld rd h.0 h.2 nl h.4 nr p q)

    pub call_links_what : is_ok (three_link rows flags ld rd).answer ≡ true →
        Matching rows ld rd (λ d. beta (three_link rows flags ld rd).loans 3 d) × Linked rows ld (λ d. beta (three_link rows flags ld rd).loans 3 d)
        (three_link rows flags ld rd).loans
    call_links_what t = rw core (link_found rows ld rd h.0 h.2 nl h.4 nr (ap (λ (o : Outcome (List ℕ)). is_ok o.answer) (sym core) ∙ t))

    pub call_says : is_ok (three_link rows flags ld rd).answer ≡ true → (three_link rows flags ld rd).answer ≡ nothing
    call_says t = rw core (says rows ld rd h.0 h.2 nl h.4 nr (ap (λ (o : Outcome (List ℕ)). is_ok o.answer) (sym core) ∙ t))

module _ (rows flags : List ℕ) (ld : ℕ) (u : Used rows flags ld ld) where
  unlink_core_lem : three_unlink rows flags ld ≡ given (three_unlink_on rows ld)
  unfolding three_unlink
  unlink_core_lem = inside rows flags ld ld (given (three_unlink_on rows ld)) u

  at : Real rows ld ld
  at = u.real

  real_ld : ld ≢ 0
  real_ld = let a = at.1 in omega arith

  pub call_free : beta rows 3 ld ≡ 0 → three_unlink rows flags ld ≡ outcome (Err (AlreadyFree 3 ld)) rows
  call_free z = unlink_core_lem ∙ ap given (free rows ld at.0 at.2 real_ld z)

  pub call_unlinks_iff : beta rows 3 ld ≢ 0 → (Unlinkable rows ld) ↔ ((three_unlink rows flags ld).answer ≡ done (beta rows 3 ld) 0)
  call_unlinks_iff n = rw unlink_core_lem (unlinks_iff rows ld at.0 at.2 real_ld n)

  pub call_unlinks : beta rows 3 ld ≢ 0 → is_ok (three_unlink rows flags ld).answer ≡ true → Unlinked rows ld (three_unlink rows flags ld).loans
  call_unlinks n t = rw unlink_core_lem (unlinks rows ld at.0 at.2 real_ld n (ap (λ (o : Outcome (List ℕ)). is_ok o.answer) (sym unlink_core_lem) ∙ t))

  pub call_uneven : beta rows 3 ld ≢ 0 → (Unlinkable rows ld → ⊥) →
      three_unlink rows flags ld ≡ outcome (Err (AsymmetricalFaces ld (beta rows 3 ld))) rows
  call_uneven n e = unlink_core_lem ∙ ap given (uneven rows ld at.0 at.2 real_ld n e)

  pub call_names_ld : (i d : ℕ) → (three_unlink rows flags ld).answer ≡ Err (AlreadyFree i d) → (i ≡ 3) × (d ≡ ld) × (beta rows 3 ld ≡ 0)
  call_names_ld i d e = names_ld rows ld at.0 at.2 real_ld i d (ap (λ (o : Outcome (List ℕ)). o.answer) (sym unlink_core_lem) ∙ e)
