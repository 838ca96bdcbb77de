-- Laws of plans, for callers that write entries one behind another. Assumes nothing.
--
--   entry_stored    the numbers of one entry, put in its places, give `written`
--   length_plan_of   a list of entries takes `width` numbers for each
--   plan_of_append   the numbers of two lists of entries, one behind another
--   put_none        a plan into which nothing was written is itself
--   write_next      writing the next entry behind a list of entries is writing the longer list
--   put_front       the written part of a plan
--   put_rest        the rest of a plan is unchanged
--   length_written  writing an entry for which there is room keeps the length
use Prim.Native.Nat.{ℕ, ◌+◌, ◌*◌, ◌≤◌, ◌-◌}
use mathlib.Core.Path.{◌≡◌, refl, sym, ap, ◌∙◌}
use mathlib.Core.List.{List, [], ◌∷◌, ◌++◌, append_assoc}
use native.Mathlib.Omega.{arith}
use lib.ListN.{length, take, drop, length-append, length-take, length-drop}
use borrow.Rule.Slice.PartMut.{put_mid}
use lib.Seq.{take_at, drop_at, drop-drop}
use Rattle.sew_plan.specs.declared.Entry.{Entry}
use Rattle.sew_plan.specs.Plan.{width, entry_words, written, plan_of, put_plan}

-- ---- one entry

pub entry_stored : (plan : List ℕ) (k : ℕ) (e : Entry) (words : List ℕ) → words ≡ entry_words e
    → put_mid (width * k) (width * k + width - width * k) plan words ≡ written plan k e
unfolding written
entry_stored plan k e words h =
    let n : width * k + width - width * k ≡ width = omega arith in
    rw (n, h, drop-drop width (width * k) plan) refl

-- ---- lists of entries

pub length_plan_of : (es : List Entry) → length (plan_of es) ≡ width * length es
unfolding plan_of
length_plan_of [] = refl
length_plan_of (e ∷ es) = let h : length (plan_of es) ≡ width * length es = length_plan_of es in omega arith

pub plan_of_append : (es fs : List Entry) → plan_of (es ++ fs) ≡ plan_of es ++ plan_of fs
unfolding plan_of
plan_of_append [] fs = refl
plan_of_append (e ∷ es) fs = ap (λ (l : List ℕ). entry_words e ++ l) (plan_of_append es fs)

pub put_none : (plan : List ℕ) → put_plan [] plan ≡ plan
unfolding put_plan plan_of
put_none plan = refl

pub put_front : (es : List Entry) (plan : List ℕ) → take (width * length es) (put_plan es plan) ≡ plan_of es
unfolding put_plan
put_front es plan = take_at (plan_of es) (drop (width * length es) plan) (width * length es) (length_plan_of es)

pub put_rest : (es : List Entry) (plan : List ℕ) → drop (width * length es) (put_plan es plan) ≡ drop (width * length es) plan
unfolding put_plan
put_rest es plan = drop_at (plan_of es) (drop (width * length es) plan) (width * length es) (length_plan_of es)

-- the places of two lists of entries are those of the first and, behind them, those of the second
places_append : (es fs : List Entry) → width * length (es ++ fs) ≡ width * length es + width * length fs
places_append es fs = simp length-append (omega arith)

-- numbers behind those of a list of entries
behind : (es fs : List Entry) (plan : List ℕ)
    → plan_of es ++ (plan_of fs ++ drop (width * length es + width * length fs) plan) ≡ put_plan (es ++ fs) plan
unfolding put_plan
behind es fs plan =
    sym (append_assoc (plan_of es) (plan_of fs) (drop (width * length es + width * length fs) plan)) ∙ rw (plan_of_append es fs, places_append es fs)

pub write_next : (es : List Entry) (plan : List ℕ) (k : ℕ) (e : Entry) → k ≡ length es
    → written (put_plan es plan) k e ≡ put_plan (es ++ (e ∷ [])) plan
unfolding written plan_of
write_next es plan k e h =
    rw (h, put_front es plan, ← drop-drop width (width * length es) (put_plan es plan), put_rest es plan, drop-drop width (width * length es) plan)
    (behind es (e ∷ []) plan)

-- ---- lengths and room

pub length_written : (plan : List ℕ) (k : ℕ) (e : Entry) → width * k + width ≤ length plan → length (written plan k e) ≡ length plan
unfolding written
length_written plan k e h = simp (length-append, length-take, length-drop) (omega arith)
