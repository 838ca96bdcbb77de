-- The lines of the report, one part behind the other. Assumes nothing.
--   value_is, value_next   a space, then a number, and where they end
--   told_is      the line of a refusal
--   used_start, used_yes, used_no   the count of the darts, one dart on
--   head_is, head_length   the line of the darts
--   listed_front, listed_count   a list in the first places of an output
--   class_is, class_fits, class_next   the line of a class, its room, and where it ends
--   map_is       the five lines of a map
--   wiped_four, lists_over_lem   the loans of the four lists, one after the other
use Prim.Native.Nat.{ℕ, zero, suc, ◌+◌, ◌-◌, ◌<◌, ◌≤◌}
use native.Mathlib.Omega.{arith}
use mathlib.Core.Path.{◌≡◌, refl, sym, ap, ◌∙◌}
use mathlib.Core.Logic.{◌≢◌}
use mathlib.Core.Bool.{cond}
use mathlib.Core.List.{List, [], ◌∷◌, ◌++◌}
use lib.ListN.{length, get_or, take, drop, replicate, length-append}
use lib.Seq.{take_at}
use lib.Dec.{eqb}
use borrow.Author.Tests.{eq-eqb, ne_eqb}
use Rattle.map_betas.specs.declared.error.Told.{Told}
use Rattle.map_betas.specs.Betas.{darts}
use Rattle.cell_steps.specs.Loans.{Listed}
use Rattle.cell_steps.specs.Calls.{wiped, headed}
use Rattle.cell_steps.proofs.ScratchLaws.{wiped_back}
use Rattle.cell_steps.specs.declared.cells.Class.{Class}
use Rattle.cell_steps.specs.declared.cells.Class.TheVariants.{Vertex, Edge, Face, Volume}
use Rattle.cell_names.specs.Cells.{list_of}
use Rattle.report_text.specs.Texts.{decimal, put, lay, line_of}
use Rattle.report_text.proofs.TextLaws.{lay_then, lay_next}
use Rattle.report_lines.specs.Report.{value_of, refused_word, darts_word, used_word, vertices_word, edges_word, faces_word}
use Rattle.report_lines.specs.Report.{volumes_word, told_line, used_up_to, head_line, class_line, map_text, lists_over}
use Rattle.report_lines.proofs.Rooms.{value_room, decimal_room, class_room}

pub value_next : (x : ℕ) (out : List ℕ) (at : ℕ) (o₁ o₂ : List ℕ) (a b : ℕ) → x < 18446744073709551616 →
    put a o₁ ≡ lay out at (32 ∷ []) → put b o₂ ≡ lay o₁ a (decimal x) → b ≤ at + 21
value_next x out at o₁ o₂ a b h e₁ e₂ =
    let n₁ = lay_next out at (32 ∷ []) o₁ a e₁ in
    let n₂ = lay_next o₁ a (decimal x) o₂ b e₂ in
    let d = decimal_room x h in
    omega arith

pub value_is : (x : ℕ) (out : List ℕ) (at : ℕ) (o₁ o₂ : List ℕ) (a b : ℕ) → at + 21 ≤ length out →
    put a o₁ ≡ lay out at (32 ∷ []) → put b o₂ ≡ lay o₁ a (decimal x) → put b o₂ ≡ lay out at (value_of x)
unfolding value_of
value_is x out at o₁ o₂ a b room e₁ e₂ = lay_then out at (32 ∷ []) (decimal x) o₁ o₂ a b (omega arith) e₁ e₂

-- the line of a refusal that t says
pub told_is : (t : Told) (out : List ℕ) (at : ℕ) (o₁ o₂ o₃ o₄ o₅ o₆ : List ℕ) (a b c d e f : ℕ) →
    b ≤ a + 21 → c ≤ b + 21 → d ≤ c + 21 → e ≤ d + 21 →
    at + 92 ≤ length out → put a o₁ ≡ lay out at refused_word → put b o₂ ≡ lay o₁ a (value_of t.number) → put c o₃ ≡ lay o₂ b (value_of t.first) →
    put d o₄ ≡ lay o₃ c (value_of t.second) → put e o₅ ≡ lay o₄ d (value_of t.third) → put f o₆ ≡ lay o₅ e (10 ∷ []) →
    put f o₆ ≡ lay out at (told_line t)
unfolding told_line
told_is t out at o₁ o₂ o₃ o₄ o₅ o₆ a b c d e f v₁ v₂ v₃ v₄ room e₁ e₂ e₃ e₄ e₅ e₆ =
    let n₂ = lay_next o₁ a (value_of t.number) o₂ b e₂ in
    let n₃ = lay_next o₂ b (value_of t.first) o₃ c e₃ in
    let n₄ = lay_next o₃ c (value_of t.second) o₄ d e₄ in
    let n₅ = lay_next o₄ d (value_of t.third) o₅ e e₅ in
    let t₁ : List ℕ = refused_word ++ value_of t.number in
    let t₂ : List ℕ = t₁ ++ value_of t.first in
    let t₃ : List ℕ = t₂ ++ value_of t.second in
    let t₄ : List ℕ = t₃ ++ value_of t.third in
    let l₁ : length t₁ ≡ 7 + length (value_of t.number) = length-append refused_word (value_of t.number) in
    let l₂ : length t₂ ≡ length t₁ + length (value_of t.first) = length-append t₁ (value_of t.first) in
    let l₃ : length t₃ ≡ length t₂ + length (value_of t.second) = length-append t₂ (value_of t.second) in
    let l₄ : length t₄ ≡ length t₃ + length (value_of t.third) = length-append t₃ (value_of t.third) in
    lay_then out at t₄ (10 ∷ []) o₅ o₆ e f (omega arith)
    (lay_then out at t₃ (value_of t.third) o₄ o₅ d e (omega arith)
    (lay_then out at t₂ (value_of t.second) o₃ o₄ c d (omega arith)
    (lay_then out at t₁ (value_of t.first) o₂ o₃ b c (omega arith)
    (lay_then out at refused_word (value_of t.number) o₁ o₂ a b (omega arith) e₁ e₂) e₃) e₄) e₅) e₆

-- the darts

pub used_start : (flags : List ℕ) → 0 ≡ used_up_to flags (1 - 1)
unfolding used_up_to
used_start flags = refl

used_next : (flags : List ℕ) (d : ℕ) → 1 ≤ d → used_up_to flags (d + 1 - 1) ≡ used_up_to flags (d - 1) + cond (eqb (get_or flags d 0) 0) 1 0
unfolding used_up_to
used_next flags zero h = absurd (omega arith)
used_next flags (suc k) h =
    let p : suc k + 1 - 1 ≡ suc k = omega arith in
    let q : suc k - 1 ≡ k = omega arith in
    let r : k + 1 ≡ suc k = omega arith in
    ap (used_up_to flags) p ∙ ap (λ (j : ℕ). used_up_to flags k + cond (eqb (get_or flags j 0) 0) 1 0) r
    ∙ ap (λ (j : ℕ). used_up_to flags j + cond (eqb (get_or flags (suc k) 0) 0) 1 0) (sym q)

pub used_yes : (flags : List ℕ) (d used : ℕ) → 1 ≤ d → used ≡ used_up_to flags (d - 1) → get_or flags d 0 ≡ 0 → used + 1 ≡ used_up_to flags (d + 1 - 1)
used_yes flags d used h e g =
    let p : ◌≡◌ {A = ℕ} (cond (eqb (get_or flags d 0) 0) 1 0) 1 = simp (eq-eqb _ _ g) in
    let n = used_next flags d h in
    omega arith

pub used_no : (flags : List ℕ) (d used : ℕ) → 1 ≤ d → used ≡ used_up_to flags (d - 1) → get_or flags d 0 ≢ 0 → used ≡ used_up_to flags (d + 1 - 1)
used_no flags d used h e g =
    let p : ◌≡◌ {A = ℕ} (cond (eqb (get_or flags d 0) 0) 1 0) 0 = simp (ne_eqb _ _ g) in
    let n = used_next flags d h in
    omega arith

pub head_is : (n used : ℕ) (out : List ℕ) (at : ℕ) (o₁ o₂ o₃ o₄ o₅ : List ℕ) (a b c d e : ℕ) →
    b ≤ a + 21 → d ≤ c + 21 → at + 53 ≤ length out → put a o₁ ≡ lay out at darts_word → put b o₂ ≡ lay o₁ a (value_of n) →
    put c o₃ ≡ lay o₂ b used_word → put d o₄ ≡ lay o₃ c (value_of used) → put e o₅ ≡ lay o₄ d (10 ∷ []) → put e o₅ ≡ lay out at (head_line n used)
unfolding head_line
head_is n used out at o₁ o₂ o₃ o₄ o₅ a b c d e v₁ v₂ room e₁ e₂ e₃ e₄ e₅ =
    let n₂ = lay_next o₁ a (value_of n) o₂ b e₂ in
    let n₄ = lay_next o₃ c (value_of used) o₄ d e₄ in
    let t₁ : List ℕ = darts_word ++ value_of n in
    let t₂ : List ℕ = t₁ ++ used_word in
    let t₃ : List ℕ = t₂ ++ value_of used in
    let l₁ : length t₁ ≡ 5 + length (value_of n) = length-append darts_word (value_of n) in
    let l₂ : length t₂ ≡ length t₁ + 5 = length-append t₁ used_word in
    let l₃ : length t₃ ≡ length t₂ + length (value_of used) = length-append t₂ (value_of used) in
    lay_then out at t₃ (10 ∷ []) o₄ o₅ d e (omega arith)
    (lay_then out at t₂ (value_of used) o₃ o₄ c d (omega arith)
    (lay_then out at t₁ used_word o₂ o₃ b c (omega arith) (lay_then out at darts_word (value_of n) o₁ o₂ a b (omega arith) e₁ e₂) e₃) e₄) e₅

head_length : (n used : ℕ) → length (head_line n used) ≡ 11 + length (value_of n) + length (value_of used)
unfolding head_line
head_length n used = simp length-append (omega arith)

-- the cells

-- the listed darts are the first places of the output
listed_front : (l out o : List ℕ) (count : ℕ) → Listed l out o count → take count o ≡ l
listed_front l out o count h = ap (take count) h.places ∙ take_at l (drop (length l) out) count (omega (arith, h.count))

pub listed_count : (l out o : List ℕ) (count : ℕ) → Listed l out o count → count ≤ length o
listed_count l out o count h =
    let e : length o ≡ length l + length (drop (length l) out) = ap length h.places ∙ length-append l (drop (length l) out) in
    omega (arith, h.count)

-- o is what the output holds, t₀ and t₁ the text before and after
pub class_is : (name : List ℕ) (class : Class) (rows flags out o : List ℕ) (count : ℕ) (t₀ t₁ : List ℕ) (at r : ℕ) →
    Listed (list_of class rows flags) out o count → put r t₁ ≡ lay t₀ at (line_of name (take count o) (length (take count o))) →
    put r t₁ ≡ lay t₀ at (class_line name class rows flags)
unfolding class_line
class_is name class rows flags out o count t₀ t₁ at r h e =
    e ∙ ap (λ (x : List ℕ). lay t₀ at (line_of name x (length x))) (listed_front (list_of class rows flags) out o count h)

pub class_fits : (name : List ℕ) (class : Class) (rows flags out o : List ℕ) (count at m : ℕ) → 1 ≤ darts rows → darts rows ≤ 1024 →
    Listed (list_of class rows flags) out o count → at + length name + 5122 ≤ m → at + length (line_of name (take count o) (length (take count o))) ≤ m
unfolding class_line
class_fits name class rows flags out o count at m s f h room =
    let e : length (line_of name (take count o) (length (take count o))) ≡ length (class_line name class rows flags) =
    ap (λ (x : List ℕ). length (line_of name x (length x))) (listed_front (list_of class rows flags) out o count h) in
    let r = class_room name class rows flags s f in
    omega arith

pub class_next : (name : List ℕ) (class : Class) (rows flags t₀ t₁ : List ℕ) (at r : ℕ) → 1 ≤ darts rows → darts rows ≤ 1024 →
    put r t₁ ≡ lay t₀ at (class_line name class rows flags) → r ≤ at + length name + 5122
class_next name class rows flags t₀ t₁ at r s m e =
    let n = lay_next t₀ at (class_line name class rows flags) t₁ r e in
    let l = class_room name class rows flags s m in
    omega arith

pub map_is : (rows flags : List ℕ) (n used : ℕ) (out o₁ o₂ o₃ o₄ o₅ : List ℕ) (a b c d e : ℕ) → 1 ≤ darts rows → darts rows ≤ 1024 → 24576 ≤ length out →
    n ≡ darts rows → used ≡ used_up_to flags (n - 1) → used < n → put a o₁ ≡ lay out 0 (head_line n used) →
    put b o₂ ≡ lay o₁ a (class_line vertices_word Vertex rows flags) → put c o₃ ≡ lay o₂ b (class_line edges_word Edge rows flags) →
    put d o₄ ≡ lay o₃ c (class_line faces_word Face rows flags) → put e o₅ ≡ lay o₄ d (class_line volumes_word Volume rows flags) →
    put e o₅ ≡ lay out 0 (map_text rows flags)
unfolding map_text
map_is rows flags n used out o₁ o₂ o₃ o₄ o₅ a b c d e s m room en eu lu e₁ e₂ e₃ e₄ e₅ =
    let t₁ : List ℕ = head_line n used in
    let cv : List ℕ = class_line vertices_word Vertex rows flags in
    let ce : List ℕ = class_line edges_word Edge rows flags in
    let cf : List ℕ = class_line faces_word Face rows flags in
    let cs : List ℕ = class_line volumes_word Volume rows flags in
    let t₂ : List ℕ = t₁ ++ cv in
    let t₃ : List ℕ = t₂ ++ ce in
    let t₄ : List ℕ = t₃ ++ cf in
    let h₁ = head_length n used in
    let v₁ = value_room n (omega arith) in
    let v₂ = value_room used (omega arith) in
    let r₂ : length cv ≤ 8 + 5122 = class_room vertices_word Vertex rows flags s m in
    let r₃ : length ce ≤ 5 + 5122 = class_room edges_word Edge rows flags s m in
    let r₄ : length cf ≤ 5 + 5122 = class_room faces_word Face rows flags s m in
    let l₂ : length t₂ ≡ length t₁ + length cv = length-append t₁ cv in
    let l₃ : length t₃ ≡ length t₂ + length ce = length-append t₂ ce in
    let l₄ : length t₄ ≡ length t₃ + length cf = length-append t₃ cf in
    let p : head_line n used ≡ head_line (darts rows) (used_up_to flags (darts rows - 1)) =
    ap (head_line n) eu ∙ ap (λ (k : ℕ). head_line k (used_up_to flags (k - 1))) en in
    lay_then out 0 t₄ cs o₄ o₅ d e (omega arith)
    (lay_then out 0 t₃ cf o₃ o₄ c d (omega arith)
    (lay_then out 0 t₂ ce o₂ o₃ b c (omega arith) (lay_then out 0 t₁ cv o₁ o₂ a b (omega arith) e₁ e₂) e₃) e₄) e₅
    ∙ ap (λ (x : List ℕ). lay out 0 ((((x ++ cv) ++ ce) ++ cf) ++ cs)) p

-- ---- the loans of four lists, one after the other

pub wiped_four : (n : ℕ) (l l₁ l₂ l₃ l₄ : List ℕ) → l₁ ≡ wiped n l → l₂ ≡ wiped n l₁ → l₃ ≡ wiped n l₂ → l₄ ≡ wiped n l₃ → l₄ ≡ wiped n l
wiped_four n l l₁ l₂ l₃ l₄ a b c d = d ∙ again l₂ l₃ c ∙ again l₁ l₂ b ∙ again l l₁ a
  where
    again : (x y : List ℕ) → y ≡ wiped n x → wiped n y ≡ wiped n x
    again x y e = ap (λ (t : List ℕ). replicate n 0 ++ t) (wiped_back n x y e)

module _ (rows flags o o₁ o₂ o₃ o₄ : List ℕ) where
  pub lists_over_lem : o₁ ≡ headed (list_of Vertex rows flags) o → o₂ ≡ headed (list_of Edge rows flags) o₁ → o₃ ≡ headed (list_of Face rows flags) o₂ →
      o₄ ≡ headed (list_of Volume rows flags) o₃ → o₄ ≡ lists_over rows flags o
  unfolding lists_over
  lists_over_lem a b c d =
      d ∙ ap (headed (list_of Volume rows flags)) (c ∙ ap (headed (list_of Face rows flags)) (b ∙ ap (headed (list_of Edge rows flags)) a))
