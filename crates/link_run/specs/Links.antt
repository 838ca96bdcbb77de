-- The links and unlinks, as one.
--   link_on      what one leaves of real darts of a map
--   link_call    the call of its name, for any rows and any darts
--   link_second  the second dart that it looks at
--   link_tested  one behind the test of its darts: what is left of a call on a map
--   Plain       an answer that carries no length and no count
use Rattle.std.specs.Prelude.{ℕ, ◌≡◌, List, Err, Ok}
use Rattle.map_betas.specs.declared.error.Refusal.{Refusal}
use Rattle.map_betas.specs.declared.error.Refusal.TheVariants.{BadSize, ShortLoan, NotAMap, BadDart, BadBeta, NonFreeBase, NonFreeImage}
use Rattle.map_betas.specs.declared.error.Refusal.TheVariants.{AlreadyFree, AsymmetricalFaces, BadGeometry, PlanRoom, BadImage, BadCommand, ImageRoom}
use Rattle.map_betas.specs.Betas.{darts}
use Rattle.map_betas.specs.Answers.{Out, Outcome, given, behind, Answer}
use Rattle.map_betas.specs.Guards.{dart_test}
use Rattle.map_betas.specs.Cores.{link_core, unlink_core}
use Rattle.link_walk.specs.Three.{three_link_on, three_unlink_on}
use Rattle.link_walk.specs.Calls.{one_link, one_unlink, two_link, two_unlink, three_link, three_unlink}
use Rattle.link_run.specs.declared.links.Link.{Link}
use Rattle.link_run.specs.declared.links.Link.TheVariants.{OneLink, TwoLink, ThreeLink, OneUnlink, TwoUnlink, ThreeUnlink}

abbrev pub link_on : Link → List ℕ → ℕ → ℕ → Out
link_on OneLink rows ld rd = link_core rows 1 ld rd
link_on TwoLink rows ld rd = link_core rows 2 ld rd
link_on ThreeLink rows ld rd = three_link_on rows ld rd
link_on OneUnlink rows ld rd = unlink_core rows 1 ld
link_on TwoUnlink rows ld rd = unlink_core rows 2 ld
link_on ThreeUnlink rows ld rd = three_unlink_on rows ld

-- the calls that a user has; an unlink is not given the second dart (scope: commands)
abbrev pub link_call : Link → List ℕ → List ℕ → ℕ → ℕ → Outcome (List ℕ)
link_call OneLink rows flags ld rd = one_link rows flags ld rd
link_call TwoLink rows flags ld rd = two_link rows flags ld rd
link_call ThreeLink rows flags ld rd = three_link rows flags ld rd
link_call OneUnlink rows flags ld rd = one_unlink rows flags ld
link_call TwoUnlink rows flags ld rd = two_unlink rows flags ld
link_call ThreeUnlink rows flags ld rd = three_unlink rows flags ld

-- an unlink has no second dart: its first stands in
abbrev pub link_second : Link → ℕ → ℕ → ℕ
link_second OneLink ld rd = rd
link_second TwoLink ld rd = rd
link_second ThreeLink ld rd = rd
link_second OneUnlink ld rd = ld
link_second TwoUnlink ld rd = ld
link_second ThreeUnlink ld rd = ld

-- on a map no other test can refuse (`link_on_map`, `proofs/LinkLaws.antt`)
unfoldable pub link_tested : Link → List ℕ → List ℕ → ℕ → ℕ → Outcome (List ℕ)
link_tested l rows flags ld rd = behind (dart_test (darts rows) flags 1 ld (link_second l ld rd)) rows (given (link_on l rows ld rd))

-- a refusal whose values are darts, betas and small numbers, and no length
abbrev pub PlainRefusal : Refusal → Type 0
PlainRefusal (BadSize k) = ⊥
PlainRefusal (ShortLoan k) = Unit {0}
PlainRefusal (NotAMap i d) = Unit {0}
PlainRefusal (BadDart k) = Unit {0}
PlainRefusal (BadBeta i) = Unit {0}
PlainRefusal (NonFreeBase i l r) = Unit {0}
PlainRefusal (NonFreeImage i l r) = Unit {0}
PlainRefusal (AlreadyFree i d) = Unit {0}
PlainRefusal (AsymmetricalFaces l r) = Unit {0}
PlainRefusal (BadGeometry i l r) = Unit {0}
PlainRefusal (PlanRoom k) = ⊥
PlainRefusal (BadImage k) = Unit {0}
PlainRefusal (BadCommand k) = Unit {0}
PlainRefusal (ImageRoom k) = ⊥

-- an answer of a link: it has written nothing, and says no length
abbrev pub Plain : Answer → Type 0
Plain (Ok x) = x.count ≡ 0
Plain (Err w) = PlainRefusal w
