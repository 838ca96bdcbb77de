-- Which rows and flags are a 3-map.
--   Sized rows            whole rows of 1 to 1,048,576 darts
--   size_test rows         refuses rows that are not
--   breaks rows i d       whether the image of d by beta i breaks a rule
--   NullRow rows          the null dart has no image
--   breach_at rows d       the least beta whose image of d breaks a rule, or 4
--   free_at rows d         whether d has no image
--   unused flags d        whether d is a real dart that its flag says is unused
--   bound rows flags d    whether d is unused and has an image
--   first_breach f rows flags d   refuses the first of f darts from d on that has a breach or is bound
--   map_test rows flags    refuses the first of all
--   WellFormed rows       the rules of the rows as laws
--   Free rows d           d has no image
--   Map rows flags        rows that are well formed, a flag for each dart, and no unused dart with an image; `proofs/Guarded.antt` has that
--                         the tests pass exactly where it holds
--   Spares a b rows rows' from rows to rows' no dart that was free has become linked, but for a and b
--   Keeps a b rows rows'  and rows' are well formed and as many
--   Stays flags rows rows'   rows' are a map with the same flags, and as many
use Rattle.std.specs.Prelude.{ℕ, zero, suc, ◌+◌, ◌*◌, ◌%◌, ◌<◌, ◌≤◌, ◌≡◌, ◌≢◌, List, Bool, true, cond, not, ◌&&◌, ◌||◌, length, get_or, ltb, leb, eqb, Err}
use Rattle.map_betas.specs.declared.error.Refusal.TheVariants.{BadSize, NotAMap}
use Rattle.map_betas.specs.Betas.{beta, darts, opp}
use Rattle.map_betas.specs.Answers.{pass, Test}

-- whole rows of at least one dart and at most as many as there may be (scope: rows)
pub record Sized (rows : List ℕ) : Type 0 where
  pub whole : length rows ≡ 4 * darts rows
  pub some : 1 ≤ darts rows
  pub few : darts rows ≤ 1048576

-- refusal 1: no rows, a row that is not whole, or too many
unfoldable pub bad_size : ℕ → Bool
bad_size k = eqb k 0 || (not (eqb (k % 4) 0) || ltb 4194304 k)

abbrev pub size_test : List ℕ → Test
size_test rows = cond (bad_size (length rows)) (Err (BadSize (length rows))) pass

-- scope: map. Whether the image of d by beta i, taken by itself, breaks a rule: it is no dart, it is an image of the null dart,
-- it does not lead back, or it is d itself by beta 2 or 3. A null image of a real dart breaks none.
unfoldable pub breaks : List ℕ → ℕ → ℕ → Bool
breaks rows i d =
    leb (darts rows) (beta rows i d)
    || (not (eqb (beta rows i d) 0)
    && (eqb d 0 || (leb 2 i && eqb (beta rows i d) d || not (eqb (beta rows (opp i) (beta rows i d)) d))))

abbrev pub NullRow : List ℕ → Type 0
NullRow rows = (i : ℕ) → i < 4 → beta rows i 0 ≡ 0

-- the least beta whose image of d breaks a rule, and 4 where none does
unfoldable pub breach_at : List ℕ → ℕ → ℕ
breach_at rows d = cond (breaks rows 0 d) 0 (cond (breaks rows 1 d) 1 (cond (breaks rows 2 d) 2 (cond (breaks rows 3 d) 3 4)))

-- whether d has no image (scope: reads)
unfoldable pub free_at : List ℕ → ℕ → Bool
free_at rows d = eqb (beta rows 0 d) 0 && (eqb (beta rows 1 d) 0 && (eqb (beta rows 2 d) 0 && eqb (beta rows 3 d) 0))

-- scope: flags. A flag that is not 0 means unused; that of dart 0 is never looked at.
unfoldable pub unused : List ℕ → ℕ → Bool
unused flags d = not (eqb d 0) && not (eqb (get_or flags d 0) 0)

unfoldable pub bound : List ℕ → List ℕ → ℕ → Bool
bound rows flags d = unused flags d && not (free_at rows d)

-- scope: map. Each dart's images by beta, then whether it is unused and linked, before the next dart: 4 stands where the beta would.
unfoldable pub first_breach : ℕ → List ℕ → List ℕ → ℕ → Test
first_breach zero rows flags d = pass
first_breach (suc f) rows flags d =
    let more = first_breach f rows flags (d + 1) in
    cond (ltb (breach_at rows d) 4) (Err (NotAMap (breach_at rows d) d)) (cond (bound rows flags d) (Err (NotAMap 4 d)) more)

unfoldable pub map_test : List ℕ → List ℕ → Test
map_test rows flags = first_breach (darts rows) rows flags 0

-- The rules. Past the end every image is null, so that no law asks for a dart below n.
pub record WellFormed (rows : List ℕ) : Type 0 where
  pub sized : Sized rows
  pub below : (i d : ℕ) → beta rows i d < darts rows
  pub null : NullRow rows
  pub back : (i d : ℕ) → i < 4 → beta rows i d ≢ 0 → beta rows (opp i) (beta rows i d) ≡ d
  pub moved : (i d : ℕ) → 2 ≤ i → i < 4 → beta rows i d ≢ 0 → beta rows i d ≢ d

-- no image by any beta; `free_at` is the test
abbrev pub Free : List ℕ → ℕ → Type 0
Free rows d = (i : ℕ) → i < 4 → beta rows i d ≡ 0

-- A map is rows and flags. Cores ask for `WellFormed rows` alone: no core looks at a flag.
pub record Map (rows flags : List ℕ) : Type 0 where
  pub formed : WellFormed rows
  pub flagged : darts rows ≤ length flags
  pub free : (d : ℕ) → unused flags d ≡ true → Free rows d

-- what keeps unused darts free: a and b are what a call was given, and are in use
abbrev pub Spares : ℕ → ℕ → List ℕ → List ℕ → Type 0
Spares a b rows rows' = (d : ℕ) → d ≢ a → d ≢ b → Free rows d → Free rows' d

-- what every core leaves of rows that are well formed, done or refused: so a map stays a map (`kept_map`, `proofs/Spared.antt`)
abbrev pub Keeps : ℕ → ℕ → List ℕ → List ℕ → Type 0
Keeps a b rows rows' = WellFormed rows' × (length rows' ≡ length rows) × Spares a b rows rows'

-- what every call leaves of a map, done or refused
abbrev pub Stays : List ℕ → List ℕ → List ℕ → Type 0
Stays flags rows rows' = Map rows' flags × (length rows' ≡ length rows)
