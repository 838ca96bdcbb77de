-- The face walk of a dart with faces marked before that it never meets: it is the walk with nothing marked, behind the list of these.
--   over s w      the walk w with s before what is marked
--   walk_over     the whole walk
-- Assumes nothing.
use Prim.Native.Nat.{ℕ, zero, suc}
use mathlib.Core.Path.{◌≡◌, refl, sym, ap, ◌∙◌}
use mathlib.Core.Bool.{Bool, true, false, cond, not, ◌||◌}
use mathlib.Core.Logic.{◌⊎◌, inl, inr, ⊎_elim}
use mathlib.Core.List.Memᴰ
use mathlib.Core.List.{List, [], ◌∷◌, ◌++◌, append_assoc, append-nil}
use mathlib.Mathlib.Logic.Relation.ReflTransGenᴰ
use lib.Dec.{eqb}
use borrow.Author.Tests.{eq-eqb, ne_eqb}
use Rattle.map_betas.specs.Betas.{beta, darts}
use Rattle.map_betas.specs.Maps.{WellFormed}
use Rattle.cell_steps.specs.Steps.{face}
use Rattle.cell_steps.specs.Search.{In, mem, add, Reach}
use Rattle.cell_faces.specs.Faces.{fresh, insert, lower, Walk, turn, leg, forward, backward, face_walk, face_id}
use Rattle.cell_faces.proofs.SoundLaws.{by_0, by_1, by_3}

-- what is not listed is passed over
mem_skip : (k s : List ℕ) (x : ℕ) → (In x k → ⊥) → mem x (k ++ s) ≡ mem x s
unfolding mem
mem_skip [] s x h = refl
mem_skip (y ∷ k) s x h = simp (ne_eqb x y (λ e. h (Memᴰ.head e))) (mem_skip k s x (λ m. h (Memᴰ.tail m)))

-- x is null or not of the list
abbrev pub Off : List ℕ → ℕ → Type 0
Off k x = (x ≡ 0) ⊎ (In x k → ⊥)

module _ (k s : List ℕ) where
  test_off : (x : ℕ) → Off k x → (eqb x 0 || mem x (k ++ s)) ≡ (eqb x 0 || mem x s)
  test_off x h = ⊎_elim (λ e. simp (eq-eqb x 0 e)) (λ n. ap (λ (b : Bool). eqb x 0 || b) (mem_skip k s x n)) h

  fresh_off : (x : ℕ) → Off k x → fresh (k ++ s) x ≡ fresh s x
  unfolding fresh
  fresh_off x h = ap not (test_off x h)

  add_off : (x : ℕ) → Off k x → add (k ++ s) x ≡ k ++ add s x
  unfolding add
  add_off x h = ap (λ (b : Bool). cond b (k ++ s) ((k ++ s) ++ (x ∷ []))) (test_off x h) ∙ go (eqb x 0 || mem x s)
    where
      go : (b : Bool) → cond b (k ++ s) ((k ++ s) ++ (x ∷ [])) ≡ k ++ cond b s (s ++ (x ∷ []))
      go true = refl
      go false = append_assoc k s (x ∷ [])

  insert_off : (l r : ℕ) → Off k l → Off k r → insert (k ++ s) l r ≡ k ++ insert s l r
  unfolding insert
  insert_off l r a b =
      ap (λ (t : Bool). cond t (add (k ++ s) l) (add (k ++ s) r)) (fresh_off l a) ∙ go (fresh s l)
    where
      go : (t : Bool) → cond t (add (k ++ s) l) (add (k ++ s) r) ≡ k ++ cond t (add s l) (add s r)
      go true = add_off l a
      go false = add_off r b

abbrev pub over : List ℕ → Walk → Walk
over k w = record { seen = k ++ w.seen; l = w.l; r = w.r; low = w.low }

module _ (rows : List ℕ) (m : WellFormed rows) (k : List ℕ) (d : ℕ) (apart : (x : ℕ) → In x k → Reach rows face d x → ⊥) where
  -- a dart of the walk
  On : ℕ → Type 0
  On x = (x ≡ 0) ⊎ Reach rows face d x

  off : (x : ℕ) → On x → Off k x
  unfolding On
  off x h = ⊎_elim inl (λ r. inr (λ i. apart x i r)) h

  module _ (i j : ℕ) (go-i : (x : ℕ) → On x → On (beta rows i x)) (go-j : (x : ℕ) → On x → On (beta rows j x)) where
    turn_over : (w : Walk) → On w.l → On w.r → turn rows i j (over k w) ≡ over k (turn rows i j w)
    unfolding turn
    turn_over w a b =
        λ t. record {
          seen = insert_off k w.seen w.l w.r (off w.l a) (off w.r b) t;
          l = beta rows i w.l;
          r = beta rows j w.r;
          low = lower (lower w.low (beta rows i w.l)) (beta rows j w.r);
        }

    leg_over_lem : (f : ℕ) (w : Walk) → On w.l → On w.r → leg rows i j f (over k w) ≡ over k (leg rows i j f w)
    unfolding leg turn
    leg_over_lem zero w a b = refl
    leg_over_lem (suc f) w a b =
        ap (λ (t : Bool). cond t (leg rows i j f (turn rows i j (over k w))) (over k w)) tests
        ∙ ap (λ (x : Walk). cond (fresh w.seen w.l || fresh w.seen w.r) (leg rows i j f x) (over k w)) (turn_over w a b)
        ∙ go (leg_over_lem f (turn rows i j w) (go-i w.l a) (go-j w.r b)) (fresh w.seen w.l || fresh w.seen w.r)
      where
        tests : (fresh (k ++ w.seen) w.l || fresh (k ++ w.seen) w.r) ≡ (fresh w.seen w.l || fresh w.seen w.r)
        tests =
            ap (λ (t : Bool). t || fresh (k ++ w.seen) w.r) (fresh_off k w.seen w.l (off w.l a))
            ∙ ap (λ (t : Bool). fresh w.seen w.l || t) (fresh_off k w.seen w.r (off w.r b))

        go : leg rows i j f (over k (turn rows i j w)) ≡ over k (leg rows i j f (turn rows i j w)) → (t : Bool) →
            cond t (leg rows i j f (over k (turn rows i j w))) (over k w) ≡ over k (cond t (leg rows i j f (turn rows i j w)) w)
        go h true = h
        go h false = refl

  on_1 : (x : ℕ) → On x → On (beta rows 1 x)
  unfolding On
  on_1 = by_1 rows m d

  on_0 : (x : ℕ) → On x → On (beta rows 0 x)
  unfolding On
  on_0 = by_0 rows m d

  on_3 : (x : ℕ) → On x → On (beta rows 3 x)
  unfolding On
  on_3 = by_3 rows m d

  on_d : On d
  unfolding On
  on_d = inr ReflTransGenᴰ.refl

  forward_over : forward rows k d ≡ over k (forward rows [] d)
  unfolding forward
  forward_over =
      ap (leg rows 1 0 (darts rows)) (λ t. record { seen = sym (append-nil k) t; l = d; r = beta rows 3 d; low = lower d (beta rows 3 d) })
      ∙ leg_over_lem 1 0 on_1 on_0 (darts rows) (record { seen = []; l = d; r = beta rows 3 d; low = lower d (beta rows 3 d) }) on_d (on_3 d on_d)

  backward_over : (w : Walk) → backward rows d (over k w) ≡ over k (backward rows d w)
  unfolding backward
  backward_over w =
      leg_over_lem 0 1 on_0 on_1 (darts rows) (record { seen = w.seen; l = beta rows 0 d; r = beta rows 1 (beta rows 3 d); low = w.low }) (on_0 d on_d)
      (on_1 (beta rows 3 d) (on_3 d on_d))

  pub walk_over : face_walk rows k d ≡ over k (face_walk rows [] d)
  unfolding face_walk
  walk_over =
      ap (λ (x : Walk). cond (eqb x.l 0) (backward rows d x) (cond (eqb x.r 0) (backward rows d x) x)) forward_over
      ∙ go (forward rows [] d) (eqb (forward rows [] d).l 0) (eqb (forward rows [] d).r 0)
    where
      go : (x : Walk) (a b : Bool) →
          cond a (backward rows d (over k x)) (cond b (backward rows d (over k x)) (over k x)) ≡ over k
          (cond a (backward rows d x) (cond b (backward rows d x) x))
      go x true b = backward_over x
      go x false true = backward_over x
      go x false false = refl

  pub walk_low : (face_walk rows k d).low ≡ face_id rows d
  unfolding face_id
  walk_low = ap (λ (x : Walk). x.low) walk_over

  pub walk_seen : (face_walk rows k d).seen ≡ k ++ (face_walk rows [] d).seen
  walk_seen = ap (λ (x : Walk). x.seen) walk_over
