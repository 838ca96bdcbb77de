-- What a 3-link asks and what it does, without a walk. `proofs/Demand.antt` has the theorems that join this page with the calls.
--   Chain rows ld d           d is a dart of the face chain of ld: beta 1 and beta 0 lead from ld to d (map_betas/specs/Chains.antt)
--   ClosedChain rows ld       that chain is closed
--   Facing rows ld p          stepping forward on the chain is stepping back between partners, and ends meet ends
--   Matching rows ld rd p     p gives each dart of the chain its partner, rd to ld: what a 3-link of ld and rd asks
--   Linked rows ld p rows'    from rows to rows' exactly these pairs have become 3-linked
--   Unlinkable rows ld        each dart of the chain faces its beta 3 image: what a 3-unlink of ld asks
--   Unlinked rows ld rows'    from rows to rows' exactly these pairs have become 3-free
use Rattle.std.specs.Prelude.{ℕ, ◌<◌, ◌≡◌, ◌≢◌, List, length}
use Rattle.map_betas.specs.Betas.{beta, darts}
pub use Rattle.map_betas.specs.Chains.{Chain, first, on, back}

-- a chain without an end, which the step back to ld closes (scope: matching)
pub record ClosedChain (rows : List ℕ) (ld : ℕ) : Type 0 where
  pub never_null : (d : ℕ) → Chain rows ld d → beta rows 1 d ≢ 0

-- p d is the partner of d. Only steps from darts of the chain count: what follows the partner of an open chain's first dart is not asked.
pub record Facing (rows : List ℕ) (ld : ℕ) (p : ℕ → ℕ) : Type 0 where
  -- a step forward from d is a step back from its partner; but the step back to ld that closes a closed chain asks nothing
  pub steps : (d : ℕ) → Chain rows ld d → beta rows 1 d ≢ 0 → (ClosedChain rows ld → beta rows 1 d ≢ ld) → beta rows 0 (p d) ≡ p (beta rows 1 d)
  -- where nothing follows d, nothing stands before its partner: null for null
  pub ends : (d : ℕ) → Chain rows ld d → beta rows 1 d ≡ 0 → beta rows 0 (p d) ≡ 0

-- scope: matching. A 3-link of real darts of a map succeeds exactly where there is such a p (demand 3).
pub record Matching (rows : List ℕ) (ld rd : ℕ) (p : ℕ → ℕ) : Type 0 where
  -- rd is the partner of ld
  pub starts : p ld ≡ rd
  pub facing : Facing rows ld p
  -- each partner is a real dart of the map
  pub real : (d : ℕ) → Chain rows ld d → (p d ≢ 0) × (p d < darts rows)
  -- and no dart of the chain itself
  pub outside : (d : ℕ) → Chain rows ld d → Chain rows ld (p d) → ⊥
  -- no two darts have one partner: a loop of four against a loop of two is no matching
  pub different : (d e : ℕ) → Chain rows ld d → Chain rows ld e → p d ≡ p e → d ≡ e
  -- every dart and every partner is 3-free
  pub free : (d : ℕ) → Chain rows ld d → (beta rows 3 d ≡ 0) × (beta rows 3 (p d) ≡ 0)

pub record Linked (rows : List ℕ) (ld : ℕ) (p : ℕ → ℕ) (rows' : List ℕ) : Type 0 where
  -- each dart of the chain leads to its partner by beta 3
  pub left : (d : ℕ) → Chain rows ld d → beta rows' 3 d ≡ p d
  -- and each partner back to its dart
  pub right : (d : ℕ) → Chain rows ld d → beta rows' 3 (p d) ≡ d
  -- every other dart's beta 3 image is as it was
  pub others : (e : ℕ) → (Chain rows ld e → ⊥) → ((d : ℕ) → Chain rows ld d → e ≢ p d) → beta rows' 3 e ≡ beta rows 3 e
  -- and so is every image by beta 0, 1 and 2
  pub lower : (i d : ℕ) → i < 3 → beta rows' i d ≡ beta rows i d
  -- and there are as many rows
  pub long : length rows' ≡ length rows

-- The partner of a dart is its beta 3 image.
pub record Unlinkable (rows : List ℕ) (ld : ℕ) : Type 0 where
  -- each dart of the chain has one
  pub real : (d : ℕ) → Chain rows ld d → beta rows 3 d ≢ 0
  -- outside the chain
  pub outside : (d : ℕ) → Chain rows ld d → Chain rows ld (beta rows 3 d) → ⊥
  pub facing : Facing rows ld (λ d. beta rows 3 d)

pub record Unlinked (rows : List ℕ) (ld : ℕ) (rows' : List ℕ) : Type 0 where
  -- each dart of the chain is 3-free, and so is what was its image
  pub left : (d : ℕ) → Chain rows ld d → beta rows' 3 d ≡ 0
  pub right : (d : ℕ) → Chain rows ld d → beta rows' 3 (beta rows 3 d) ≡ 0
  -- every other image is as it was
  pub others : (e : ℕ) → (Chain rows ld e → ⊥) → ((d : ℕ) → Chain rows ld d → e ≢ beta rows 3 d) → beta rows' 3 e ≡ beta rows 3 e
  pub lower : (i d : ℕ) → i < 3 → beta rows' i d ≡ beta rows i d
  -- and there are as many rows
  pub long : length rows' ≡ length rows
