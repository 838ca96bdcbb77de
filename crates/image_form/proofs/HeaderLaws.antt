-- The laws of the header test. Assumes nothing.
--   unless_done    a test that was passed was good, and so were those behind it
--   start_..       each case of words 0 and 1
--   layout_..      each case of words 2 to 6
--   header_done    a header that passes has the form
--   header_good    a header that has the form passes
use Prim.Native.Nat.{ℕ, ◌<◌, ◌≤◌}
use native.Mathlib.Omega.{arith}
use mathlib.Core.Path.{◌≡◌, refl, sym}
use mathlib.Core.Logic.{◌≢◌}
use mathlib.Core.List.{List}
use mathlib.Core.Bool.{Bool, true, false, true≢false}
use lib.ListN.{length}
use borrow.Author.Tests.{lt-ltb, le-ltb, le-leb, lt-leb, eq-eqb, ne_eqb, ltb-true, leb-true, eqb-true}
use Rattle.map_betas.specs.declared.error.Refusal.TheVariants.{BadImage}
use Rattle.map_betas.specs.Answers.{pass, Test}
use Rattle.map_betas.proofs.AnswerLaws.{first_done, then_done}
use Rattle.image_form.specs.Form.{form1, row_offset, flag_offset, vertex_offset, total_bytes, header_word, darts_of, vertices_of, Header}
use Rattle.image_form.specs.Tests.{unless, start_test, layout_test, header_test}
use Rattle.std.specs.Prelude.{Err, is_ok}

pub unless_done : (b : Bool) (k : ℕ) (more : Test) → is_ok (unless b k more) ≡ true → (b ≡ true) × (is_ok more ≡ true)
unfolding unless
unless_done true k more t = (refl, t)
unless_done false k more t = absurd (true≢false (sym t))

-- words 0 and 1

module _ (bytes : List ℕ) where
  pub start_short : length bytes < 4 → Err (BadImage 1) ≡ start_test bytes
  unfolding start_test unless
  start_short h = simp (lt-leb 4 (length bytes) h)

  module _ (a : 4 ≤ length bytes) where
    pub start_form : header_word bytes 0 ≢ form1.number → Err (BadImage 0) ≡ start_test bytes
    unfolding start_test unless
    start_form h = simp (le-leb 4 (length bytes) a, ne_eqb _ _ h)

    module _ (b : header_word bytes 0 ≡ form1.number) where
      pub start_cut : length bytes < 28 → Err (BadImage 1) ≡ start_test bytes
      unfolding start_test unless
      start_cut h = simp (le-leb 4 (length bytes) a, eq-eqb _ _ b, lt-leb 28 (length bytes) h)

      module _ (d : 28 ≤ length bytes) where
        pub start_total : header_word bytes 1 ≢ length bytes → Err (BadImage 1) ≡ start_test bytes
        unfolding start_test unless
        start_total h = simp (le-leb 4 (length bytes) a, eq-eqb _ _ b, le-leb 28 (length bytes) d, ne_eqb _ _ h)

        pub start_pass : header_word bytes 1 ≡ length bytes → pass ≡ start_test bytes
        unfolding start_test unless
        start_pass h = simp (le-leb 4 (length bytes) a, eq-eqb _ _ b, le-leb 28 (length bytes) d, eq-eqb _ _ h)

-- words 2 to 6

module _ (most : ℕ) (bytes : List ℕ) where
  pub layout_none : darts_of bytes < 1 → Err (BadImage 2) ≡ layout_test most bytes
  unfolding layout_test unless
  layout_none h = simp (lt-leb 1 (darts_of bytes) h)

  module _ (a : 1 ≤ darts_of bytes) where
    pub layout_many : most < darts_of bytes → Err (BadImage 2) ≡ layout_test most bytes
    unfolding layout_test unless
    layout_many h = simp (le-leb 1 (darts_of bytes) a, lt-leb (darts_of bytes) most h)

    module _ (b : darts_of bytes ≤ most) where
      pub layout_rows : header_word bytes 3 ≢ row_offset → Err (BadImage 3) ≡ layout_test most bytes
      unfolding layout_test unless
      layout_rows h = simp (le-leb 1 (darts_of bytes) a, le-leb (darts_of bytes) most b, ne_eqb _ _ h)

      module _ (d : header_word bytes 3 ≡ row_offset) where
        pub layout_flags : header_word bytes 4 ≢ flag_offset form1 (darts_of bytes) → Err (BadImage 4) ≡ layout_test most bytes
        unfolding layout_test unless
        layout_flags h = simp (le-leb 1 (darts_of bytes) a, le-leb (darts_of bytes) most b, eq-eqb _ _ d, ne_eqb _ _ h)

        module _ (e : header_word bytes 4 ≡ flag_offset form1 (darts_of bytes)) where
          pub layout_vertices : darts_of bytes ≤ vertices_of bytes → Err (BadImage 5) ≡ layout_test most bytes
          unfolding layout_test unless
          layout_vertices h =
              simp (le-leb 1 (darts_of bytes) a, le-leb (darts_of bytes) most b, eq-eqb _ _ d, eq-eqb _ _ e, le-ltb (vertices_of bytes) (darts_of bytes) h)

          module _ (f : vertices_of bytes < darts_of bytes) where
            pub layout_total : length bytes ≢ total_bytes form1 (darts_of bytes) (vertices_of bytes) → Err (BadImage 5) ≡ layout_test most bytes
            unfolding layout_test unless
            layout_total h =
                simp (
                  le-leb 1 (darts_of bytes) a,
                  le-leb (darts_of bytes) most b,
                  eq-eqb _ _ d,
                  eq-eqb _ _ e,
                  lt-ltb (vertices_of bytes) (darts_of bytes) f,
                  ne_eqb _ _ h,
                )

            module _ (g : length bytes ≡ total_bytes form1 (darts_of bytes) (vertices_of bytes)) where
              pub layout_records : header_word bytes 6 ≢ vertex_offset form1 (darts_of bytes) → Err (BadImage 6) ≡ layout_test most bytes
              unfolding layout_test unless
              layout_records h =
                  simp (
                    le-leb 1 (darts_of bytes) a,
                    le-leb (darts_of bytes) most b,
                    eq-eqb _ _ d,
                    eq-eqb _ _ e,
                    lt-ltb (vertices_of bytes) (darts_of bytes) f,
                    eq-eqb _ _ g,
                    ne_eqb _ _ h,
                  )

              pub layout_pass : header_word bytes 6 ≡ vertex_offset form1 (darts_of bytes) → pass ≡ layout_test most bytes
              unfolding layout_test unless
              layout_pass h =
                  simp (
                    le-leb 1 (darts_of bytes) a,
                    le-leb (darts_of bytes) most b,
                    eq-eqb _ _ d,
                    eq-eqb _ _ e,
                    lt-ltb (vertices_of bytes) (darts_of bytes) f,
                    eq-eqb _ _ g,
                    eq-eqb _ _ h,
                  )

-- the whole

pub start_whole : (bytes : List ℕ) → is_ok (start_test bytes) ≡ true →
    (header_word bytes 0 ≡ form1.number) × (28 ≤ length bytes) × (header_word bytes 1 ≡ length bytes)
unfolding start_test
start_whole bytes t =
    let a = unless_done _ _ _ t in
    let b = unless_done _ _ _ a.1 in
    let d = unless_done _ _ _ b.1 in
    let e = unless_done _ _ _ d.1 in
    (eqb-true _ _ b.0, leb-true _ _ d.0, eqb-true _ _ e.0)

pub header_done : (most : ℕ) (bytes : List ℕ) → is_ok (header_test most bytes) ≡ true → Header form1 most bytes
unfolding layout_test
header_done most bytes t =
    let s = start_whole bytes (first_done (start_test bytes) (layout_test most bytes) t) in
    let a = unless_done _ _ _ (then_done (start_test bytes) (layout_test most bytes) t) in
    let b = unless_done _ _ _ a.1 in
    let d = unless_done _ _ _ b.1 in
    let e = unless_done _ _ _ d.1 in
    let f = unless_done _ _ _ e.1 in
    let g = unless_done _ _ _ f.1 in
    let h = unless_done _ _ _ g.1 in
    record {
      whole = s.1;
      form = s.0;
      total = s.2;
      some = leb-true _ _ a.0;
      few = leb-true _ _ b.0;
      rows_start = eqb-true _ _ d.0;
      flags_start = eqb-true _ _ e.0;
      vertex_count = ltb-true _ _ f.0;
      fits = eqb-true _ _ g.0;
      vertices_start = eqb-true _ _ h.0;
    }

pub header_good : (most : ℕ) (bytes : List ℕ) → Header form1 most bytes → header_test most bytes ≡ pass
header_good most bytes h =
    let w : 28 ≤ length bytes = h.whole in
    simp (
      ← start_pass bytes (omega arith) h.form w h.total,
      ← layout_pass most bytes h.some h.few h.rows_start h.flags_start h.vertex_count h.fits h.vertices_start,
    )
