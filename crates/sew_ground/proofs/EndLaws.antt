-- How each sew and unsew ends, from what its parts have left: refused, without room and undone, or done. Assumes nothing.
use Rattle.std.specs.Prelude.{max, ◌≡◌, ℕ, Bool, true, false, not, eqb, List, Err, is_ok}
use native.Mathlib.Omega.{arith}
use mathlib.Core.Path.{sym, ap, ◌∙◌}
use lib.Ieee.{Float}
use Rattle.map_betas.specs.declared.error.Refusal.TheVariants.{BadGeometry}
use Rattle.map_betas.specs.Betas.{beta, darts}
use Rattle.map_betas.specs.Answers.{Out, out, Answer}
use Rattle.map_betas.specs.Cores.{link_core, unlink_core}
use Rattle.map_betas.specs.Guards.{Dart}
use Rattle.map_betas.specs.Maps.{WellFormed}
use Rattle.map_betas.proofs.Kept.{link_pair, unlink_pair, link_refused, unlink_refused, link_undoes, unlink_undoes}
use Rattle.cell_steps.specs.declared.cells.Cell.{Cell}
use Rattle.cell_steps.specs.declared.cells.Class.TheVariants.{Vertex}
use Rattle.cell_steps.specs.Idents.{cell_of}
use Rattle.sew_plan.specs.declared.Kind.{Kind}
use Rattle.sew_plan.specs.declared.Kind.TheVariants.{Merge, Split}
use Rattle.sew_plan.specs.declared.Entry.{Entry}
use Rattle.sew_ground.specs.declared.sides.Side.{Side}
use Rattle.sew_ground.specs.Entries.{entries_if}
use Rattle.sew_ground.specs.Sewn.{leaves, dart_of, settles, settled, sewn}
use Rattle.sew_ground.specs.One.{one_far, one_entries, one_links, one_unlinks, one_sew_on, one_unsew_on, taken_back, relinked}
use Rattle.sew_ground.specs.Two.{side_of, bad_sides, linked_sides, two_entries, two_sew_on, two_unsew_on}
use Rattle.sew_ground.proofs.OneLaws.{rows_of, answer_of_lem, done_of}
use Rattle.sew_ground.proofs.OneBack.{links_kept, links_dart, taken_back_lem, unlinks_kept, unlinks_dart, put_back}
use Rattle.sew_ground.proofs.SewnLaws.{ends_refused, ends_tight, ends_done}

-- the vertices of a 1-sew, from what the code has read
pub one_items_are : (kind : Kind) (rows : List ℕ) (ld rd b₃ b₂ far : ℕ) (vl vr : Cell) (es : List Entry) → b₃ ≡ beta rows 3 ld → b₂ ≡ beta rows 2 ld →
    far ≡ max b₃ b₂ →
    vl ≡ cell_of Vertex rows far → vr ≡ cell_of Vertex rows rd → es ≡ entries_if (not (eqb far 0)) Vertex kind vl vr → es ≡ one_entries kind rows ld rd
unfolding one_entries
one_items_are kind rows ld rd b₃ b₂ far vl vr es p₃ p₂ pf pl pr pe =
    let q : far ≡ one_far rows ld = pf ∙ ap (λ (x : ℕ). max x b₂) p₃ ∙ ap (λ (x : ℕ). max (beta rows 3 ld) x) p₂ in
    pe
    ∙ ap (λ (x : Cell). entries_if (not (eqb far 0)) Vertex kind x vr) (pl ∙ ap (cell_of Vertex rows) q)
    ∙ ap (λ (x : Cell). entries_if (not (eqb far 0)) Vertex kind (cell_of Vertex rows (one_far rows ld)) x) pr
    ∙ ap (λ (x : ℕ). entries_if (not (eqb x 0)) Vertex kind (cell_of Vertex rows (one_far rows ld)) (cell_of Vertex rows rd)) q

-- the 1-sew

module _ (rows plan : List ℕ) (ld rd : ℕ) (a : Answer) (rows₁ : List ℕ) (e : out a rows₁ ≡ one_links rows ld rd) where
  pub one_sew_refused : is_ok a ≡ false → leaves a rows₁ plan ≡ sewn rows plan (one_sew_on rows ld rd)
  unfolding one_sew_on
  one_sew_refused t =
      ends_refused rows plan _ a rows₁ (answer_of_lem a rows₁ _ e) (rows_of a rows₁ _ e ∙ links_kept rows ld rd (done_of a rows₁ _ false e t)) t

  module _ (w : WellFormed rows) (dl : Dart (darts rows) 1 ld) (dr : Dart (darts rows) 1 rd) (t : is_ok a ≡ true) (es : List Entry)
      (ee : es ≡ one_entries Merge rows ld rd) (b : Answer) (plan₁ : List ℕ) (s : settles b plan₁ ≡ settled plan 0 es) where
    pub one_sew_tight : (rows₂ : List ℕ) → rows₂ ≡ taken_back rows₁ ld rd → is_ok b ≡ false → leaves b rows₂ plan₁ ≡ sewn rows plan (one_sew_on rows ld rd)
    unfolding one_sew_on
    one_sew_tight rows₂ r f =
        let d = done_of a rows₁ _ true e t in
        ends_tight rows plan _ d 0 es (links_dart rows ld rd w dl dr d) ee b plan₁ s rows₂
        (r ∙ ap (λ (x : List ℕ). taken_back x ld rd) (rows_of a rows₁ _ e) ∙ taken_back_lem rows ld rd w dl dr d) f

    pub one_sew_done : is_ok b ≡ true → leaves b rows₁ plan₁ ≡ sewn rows plan (one_sew_on rows ld rd)
    unfolding one_sew_on
    one_sew_done f =
        let d = done_of a rows₁ _ true e t in
        ends_done rows plan _ d 0 es (links_dart rows ld rd w dl dr d) ee b plan₁ s rows₁ (rows_of a rows₁ _ e) f

-- the 1-unsew

module _ (rows plan : List ℕ) (ld : ℕ) (a : Answer) (rows₁ : List ℕ) (e : out a rows₁ ≡ one_unlinks rows ld) where
  pub one_unsew_refused : is_ok a ≡ false → leaves a rows₁ plan ≡ sewn rows plan (one_unsew_on rows ld)
  unfolding one_unsew_on
  one_unsew_refused t =
      ends_refused rows plan _ a rows₁ (answer_of_lem a rows₁ _ e) (rows_of a rows₁ _ e ∙ unlinks_kept rows ld (done_of a rows₁ _ false e t)) t

  module _ (w : WellFormed rows) (t : is_ok a ≡ true) (rd : ℕ) (er : rd ≡ dart_of a) where
    pub one_unsew_dart : rd ≡ beta rows 1 ld
    one_unsew_dart = er ∙ ap dart_of (answer_of_lem a rows₁ _ e) ∙ unlinks_dart rows ld w (done_of a rows₁ _ true e t)

    module _ (es : List Entry) (ee : es ≡ one_entries Split rows₁ ld rd) (b : Answer) (plan₁ : List ℕ) (s : settles b plan₁ ≡ settled plan rd es) where
      entries : es ≡ one_entries Split (one_unlinks rows ld).rows ld (dart_of (one_unlinks rows ld).answer)
      entries =
          ee ∙ ap (λ (x : List ℕ). one_entries Split x ld rd) (rows_of a rows₁ _ e)
          ∙ ap (one_entries Split (one_unlinks rows ld).rows ld) (er ∙ ap dart_of (answer_of_lem a rows₁ _ e))

      pub one_unsew_tight : (rows₂ : List ℕ) → rows₂ ≡ relinked rows₁ ld rd → is_ok b ≡ false → leaves b rows₂ plan₁ ≡ sewn rows plan (one_unsew_on rows ld)
      unfolding one_unsew_on
      one_unsew_tight rows₂ r f =
          let d = done_of a rows₁ _ true e t in
          ends_tight rows plan _ d rd es (er ∙ ap dart_of (answer_of_lem a rows₁ _ e)) entries b plan₁ s rows₂
          (r ∙ ap (λ (x : List ℕ). relinked x ld rd) (rows_of a rows₁ _ e) ∙ ap (relinked (one_unlinks rows ld).rows ld) one_unsew_dart
          ∙ put_back rows ld w d) f

      pub one_unsew_done : is_ok b ≡ true → leaves b rows₁ plan₁ ≡ sewn rows plan (one_unsew_on rows ld)
      unfolding one_unsew_on
      one_unsew_done f =
          let d = done_of a rows₁ _ true e t in
          ends_done rows plan _ d rd es (er ∙ ap dart_of (answer_of_lem a rows₁ _ e)) entries b plan₁ s rows₁ (rows_of a rows₁ _ e) f

-- the 2-sew

module _ (rows plan : List ℕ) (ld rd : ℕ) (l r : Side) (a : Answer) (rows₁ : List ℕ) (e : out a rows₁ ≡ link_core rows 2 ld rd) where
  pub sides_refused : is_ok a ≡ false → leaves a rows₁ plan ≡ sewn rows plan (linked_sides rows ld rd l r)
  unfolding linked_sides
  sides_refused t =
      ends_refused rows plan _ a rows₁ (answer_of_lem a rows₁ _ e) (rows_of a rows₁ _ e ∙ link_refused rows 2 ld rd (done_of a rows₁ _ false e t)) t

  module _ (w : WellFormed rows) (dl : Dart (darts rows) 1 ld) (dr : Dart (darts rows) 1 rd) (t : is_ok a ≡ true) (es : List Entry)
      (ee : es ≡ two_entries Merge l r) (b : Answer) (plan₁ : List ℕ) (s : settles b plan₁ ≡ settled plan 0 es) where
    null_dart : 0 ≡ dart_of (link_core rows 2 ld rd).answer
    null_dart =
        sym (ap (λ (o : Out). dart_of o.answer) (link_pair rows 2 ld rd w (omega arith) (omega arith) dl dr (done_of a rows₁ _ true e t)).1)

    pub sides_tight : (u : Answer) (rows₂ : List ℕ) → out u rows₂ ≡ unlink_core rows₁ 2 ld → is_ok b ≡ false →
        leaves b rows₂ plan₁ ≡ sewn rows plan (linked_sides rows ld rd l r)
    unfolding linked_sides
    sides_tight u rows₂ f g =
        let d = done_of a rows₁ _ true e t in
        ends_tight rows plan _ d 0 es null_dart ee b plan₁ s rows₂
        (rows_of u rows₂ _ f ∙ ap (λ (x : List ℕ). (unlink_core x 2 ld).rows) (rows_of a rows₁ _ e)
        ∙ ap (λ (o : Out). o.rows) (unlink_undoes rows 2 ld rd w (omega arith) (omega arith) dl dr d)) g

    pub sides_done : is_ok b ≡ true → leaves b rows₁ plan₁ ≡ sewn rows plan (linked_sides rows ld rd l r)
    unfolding linked_sides
    sides_done g = ends_done rows plan _ (done_of a rows₁ _ true e t) 0 es null_dart ee b plan₁ s rows₁ (rows_of a rows₁ _ e) g

module _ (vertices : List ℕ) (coordinates : List Float) (rows plan : List ℕ) (ld rd : ℕ) (l r : Side) (el : l ≡ side_of rows ld) (er : r ≡ side_of rows rd)
    (b : Bool) (eb : b ≡ bad_sides vertices coordinates l r) where
  bad : bad_sides vertices coordinates (side_of rows ld) (side_of rows rd) ≡ b
  bad =
      ap (λ (x : Side). bad_sides vertices coordinates x (side_of rows rd)) (sym el) ∙ ap (bad_sides vertices coordinates l) (sym er) ∙ sym eb

  pub two_sew_bad : b ≡ true → leaves (Err (BadGeometry 2 ld rd)) rows plan ≡ sewn rows plan (two_sew_on vertices coordinates rows ld rd)
  unfolding two_sew_on sewn
  two_sew_bad t = simp (bad ∙ t)

  pub two_sew_good : b ≡ false → (a : Answer) (rows₁ plan₁ : List ℕ) → leaves a rows₁ plan₁ ≡ sewn rows plan (linked_sides rows ld rd l r) →
      leaves a rows₁ plan₁ ≡ sewn rows plan (two_sew_on vertices coordinates rows ld rd)
  unfolding two_sew_on
  two_sew_good t a rows₁ plan₁ h =
      h ∙ ap (λ (x : Side). sewn rows plan (linked_sides rows ld rd x r)) el ∙ ap (λ (x : Side). sewn rows plan (linked_sides rows ld rd (side_of rows ld) x)) er
      ∙ simp (bad ∙ t)

-- the 2-unsew

module _ (rows plan : List ℕ) (ld : ℕ) (a : Answer) (rows₁ : List ℕ) (e : out a rows₁ ≡ unlink_core rows 2 ld) where
  pub two_unsew_refused : is_ok a ≡ false → leaves a rows₁ plan ≡ sewn rows plan (two_unsew_on rows ld)
  unfolding two_unsew_on
  two_unsew_refused t =
      ends_refused rows plan _ a rows₁ (answer_of_lem a rows₁ _ e) (rows_of a rows₁ _ e ∙ unlink_refused rows 2 ld (done_of a rows₁ _ false e t)) t

  module _ (w : WellFormed rows) (t : is_ok a ≡ true) (rd : ℕ) (er : rd ≡ dart_of a) where
    pub two_unsew_dart : rd ≡ beta rows 2 ld
    two_unsew_dart =
        er ∙ ap dart_of (answer_of_lem a rows₁ _ e)
        ∙ ap (λ (o : Out). dart_of o.answer) (unlink_pair rows 2 ld w (omega arith) (omega arith) (done_of a rows₁ _ true e t)).1

    module _ (l r : Side) (el : l ≡ side_of rows₁ ld) (es : r ≡ side_of rows₁ rd) (entries : List Entry) (ee : entries ≡ two_entries Split l r)
        (b : Answer) (plan₁ : List ℕ) (s : settles b plan₁ ≡ settled plan rd entries) where
      splits : entries
          ≡ two_entries Split (side_of (unlink_core rows 2 ld).rows ld) (side_of (unlink_core rows 2 ld).rows (dart_of (unlink_core rows 2 ld).answer))
      splits =
          let q = rows_of a rows₁ _ e in
          ee ∙ ap (λ (x : Side). two_entries Split x r) (el ∙ ap (λ (x : List ℕ). side_of x ld) q)
          ∙ ap (two_entries Split (side_of (unlink_core rows 2 ld).rows ld))
          (es ∙ ap (λ (x : List ℕ). side_of x rd) q ∙ ap (side_of (unlink_core rows 2 ld).rows) (er ∙ ap dart_of (answer_of_lem a rows₁ _ e)))

      pub two_unsew_tight : (u : Answer) (rows₂ : List ℕ) → out u rows₂ ≡ link_core rows₁ 2 ld rd → is_ok b ≡ false →
          leaves b rows₂ plan₁ ≡ sewn rows plan (two_unsew_on rows ld)
      unfolding two_unsew_on
      two_unsew_tight u rows₂ f g =
          let d = done_of a rows₁ _ true e t in
          ends_tight rows plan _ d rd entries (er ∙ ap dart_of (answer_of_lem a rows₁ _ e)) splits b plan₁ s rows₂
          (rows_of u rows₂ _ f ∙ ap (λ (x : List ℕ). (link_core x 2 ld rd).rows) (rows_of a rows₁ _ e)
          ∙ ap (λ (x : ℕ). (link_core (unlink_core rows 2 ld).rows 2 ld x).rows) two_unsew_dart
          ∙ ap (λ (o : Out). o.rows) (link_undoes rows 2 ld w (omega arith) (omega arith) d)) g

      pub two_unsew_done : is_ok b ≡ true → leaves b rows₁ plan₁ ≡ sewn rows plan (two_unsew_on rows ld)
      unfolding two_unsew_on
      two_unsew_done g =
          ends_done rows plan _ (done_of a rows₁ _ true e t) rd entries (er ∙ ap dart_of (answer_of_lem a rows₁ _ e)) splits b plan₁ s rows₁ (rows_of a rows₁ _ e) g
