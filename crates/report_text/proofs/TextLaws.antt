-- The laws of text in a buffer. Assumes nothing.
--   lay_none           nothing is written
--   lay_byte           one byte is stored behind what is written
--   lay_part           a text is put into a part of the buffer
--   lay_then           text behind text
--   decimal_one, decimal_more   the last digit, and what is above it
--   items_none, items_more   a list, one number on
use Prim.Native.Nat.{ℕ, zero, suc, ◌+◌, ◌*◌, ◌/◌, ◌%◌, ◌-◌, ◌<◌, ◌≤◌}
use native.Mathlib.Omega.{arith}
use native.Mathlib.Numerals.{add-one}
use native.Mathlib.Decide.{ℕ_discrete}
use mathlib.Core.Logic.{◌≢◌, by_cases}
use mathlib.Core.Path.{◌≡◌, refl, sym, ap, ◌∙◌}
use mathlib.Core.List.{List, [], ◌∷◌, ◌++◌, append_assoc}
use mathlib.Core.Bool.{cond}
use lib.ListN.{length, get_or, take, drop, set, length-append, take-append-drop}
use lib.Seq.{take_at, drop-append-add, drop-drop, drop-cons, set_at, length-take-le}
use lib.Dec.{ltb}
use borrow.Rule.Slice.PartMut.{put_mid}
use Rattle.std.proofs.lemmas.Slice.{put_mid-paste}
use Rattle.std.proofs.lemmas.List.Edits.{paste_all}
use borrow.Author.Tests.{lt-ltb, le-ltb}
use Rattle.report_text.specs.Texts.{digits, decimal, laid, Put, put, lay, items_of, line_of}

-- the part that is written, with what stands before it
front_length : (out : List ℕ) (at : ℕ) (a : List ℕ) → at ≤ length out → length (take at out ++ a) ≡ at + length a
front_length out at a h = length-append (take at out) a ∙ ap (λ (k : ℕ). k + length a) (length-take-le at out h)

append_nil : (l : List ℕ) → l ++ [] ≡ l
append_nil [] = refl
append_nil (x ∷ l) = ap (λ (k : List ℕ). x ∷ k) (append_nil l)

laid_none : (out : List ℕ) (at : ℕ) → out ≡ laid out at []
unfolding laid
laid_none out at =
    let p : at + 0 ≡ at = omega arith in
    rw (append_nil (take at out), p) (sym (take-append-drop at out))

pub lay_none : (out : List ℕ) (at : ℕ) → put at out ≡ lay out at []
unfolding lay
lay_none out at =
    let p : at ≡ at + 0 = omega arith in
    ap (λ (k : ℕ). put k out) p ∙ ap (put (at + 0)) (laid_none out at)

-- one more place
laid_more : (out : List ℕ) (at : ℕ) (a : List ℕ) (b : ℕ) → at + length a < length out → set (laid out at a) (at + length a) b ≡ laid out at (a ++ (b ∷ []))
unfolding laid
laid_more out at a b h =
    let f = front_length out at a (omega arith) in
    let p : at + length a ≡ at + length a = refl in
    let q : suc (at + length a) ≡ at + length (a ++ (b ∷ [])) = ap suc refl ∙ simp length-append (omega arith) in
    rw (drop-cons out (at + length a) 0 h)
    (set_at (take at out ++ a) (get_or out (at + length a) 0) (drop (suc (at + length a)) out) b (at + length a) f
    ∙ sym (append_assoc (take at out ++ a) (b ∷ []) (drop (suc (at + length a)) out))
    ∙ ap (λ (l : List ℕ). l ++ drop (suc (at + length a)) out) (append_assoc (take at out) a (b ∷ []))
    ∙ ap (λ (k : ℕ). (take at out ++ (a ++ (b ∷ []))) ++ drop k out) q)

laid_laid : (out : List ℕ) (at : ℕ) (a b : List ℕ) → at + length a ≤ length out → laid (laid out at a) (at + length a) b ≡ laid out at (a ++ b)
unfolding laid
laid_laid out at a b h =
    let p : ℕ = at + length a in
    let f = front_length out at a (omega arith) in
    let t : take p ((take at out ++ a) ++ drop p out) ≡ take at out ++ a = take_at (take at out ++ a) (drop p out) p f in
    let d : drop (p + length b) ((take at out ++ a) ++ drop p out) ≡ drop (p + length b) out =
    ap (λ (k : ℕ). drop (k + length b) ((take at out ++ a) ++ drop p out)) (sym f) ∙ drop-append-add (take at out ++ a) (drop p out) (length b)
    ∙ drop-drop (length b) p out in
    let q : p + length b ≡ at + length (a ++ b) = simp length-append (omega arith) in
    ap (λ (l : List ℕ). (l ++ b) ++ drop (p + length b) ((take at out ++ a) ++ drop p out)) t
    ∙ ap (λ (l : List ℕ). ((take at out ++ a) ++ b) ++ l) d
    ∙ ap (λ (l : List ℕ). l ++ drop (p + length b) out) (append_assoc (take at out) a b)
    ∙ ap (λ (k : ℕ). (take at out ++ (a ++ b)) ++ drop k out) q

-- o₁ and o₂ are what the code has after one text and after the next
pub lay_then : (out : List ℕ) (at : ℕ) (a b o₁ o₂ : List ℕ) (p q : ℕ) → at + length a ≤ length out → put p o₁ ≡ lay out at a → put q o₂ ≡ lay o₁ p b →
    put q o₂ ≡ lay out at (a ++ b)
unfolding lay
lay_then out at a b o₁ o₂ p q h e g =
    let ep : p ≡ at + length a = ap (λ (r : Put). r.next) e in
    let eo : o₁ ≡ laid out at a = ap (λ (r : Put). r.out) e in
    let l : at + length a + length b ≡ at + length (a ++ b) = simp length-append (omega arith) in
    g
    ∙ ap (λ (k : ℕ). put (k + length b) (laid o₁ k b)) ep
    ∙ ap (λ (x : List ℕ). put (at + length a + length b) (laid x (at + length a) b)) eo
    ∙ ap (λ (x : List ℕ). put (at + length a + length b) x) (laid_laid out at a b h)
    ∙ ap (λ (k : ℕ). put k (laid out at (a ++ b))) l

pub lay_next : (out : List ℕ) (at : ℕ) (a o : List ℕ) (p : ℕ) → put p o ≡ lay out at a → p ≡ at + length a
unfolding lay
lay_next out at a o p e = ap (λ (r : Put). r.next) e

-- one byte stored in the code
pub lay_byte : (out : List ℕ) (at b : ℕ) → at < length out → put (at + 1) (set out at b) ≡ lay out at (b ∷ [])
unfolding lay
lay_byte out at b h =
    let p : at + 0 ≡ at = omega arith in
    let e : set out at b ≡ laid out at (b ∷ []) =
    ap (λ (x : List ℕ). set x at b) (laid_none out at) ∙ ap (λ (k : ℕ). set (laid out at []) k b) (sym p) ∙ laid_more out at [] b (omega arith) in
    ap (put (at + 1)) e

-- numbers

abbrev pub ten : ℕ → ℕ
ten zero = 10
ten (suc f) = 10 * ten f

-- a digit more makes no difference to a number that has room
pub more_digits : (f x : ℕ) → x < ten f → digits (suc f) x ≡ digits f x
unfolding digits
more_digits zero x h = simp (lt-ltb x 10 h)
more_digits (suc f) x h = ap (λ (l : List ℕ). cond (ltb x 10) ((48 + x) ∷ []) (l ++ ((48 + x % 10) ∷ []))) (more_digits f (x / 10) (omega arith))

pub decimal_one : (x : ℕ) → x < 10 → decimal x ≡ (48 + x) ∷ []
unfolding digits
decimal_one x h = simp (lt-ltb x 10 h)

pub decimal_more : (x : ℕ) → 10 ≤ x → x < 18446744073709551616 → decimal x ≡ decimal (x / 10) ++ ((48 + x % 10) ∷ [])
unfolding digits
decimal_more x l h =
    let e : digits 19 (x / 10) ≡ digits 18 (x / 10) = more_digits 18 (x / 10) (omega arith) in
    let u : digits 19 x ≡ digits 18 (x / 10) ++ ((48 + x % 10) ∷ []) = simp (le-ltb x 10 l) in
    u ∙ ap (λ (r : List ℕ). r ++ ((48 + x % 10) ∷ [])) (sym e)

-- a text put into a part of the buffer
pub lay_part : (out : List ℕ) (at : ℕ) (text : List ℕ) {p : List ℕ} {e : ℕ} → e ≡ at + length text → e ≤ length out → p ≡ text →
    put e (put_mid at (e - at) out p) ≡ lay out at text
unfolding lay laid
lay_part out at text {p} {e} w h q =
    let n : length text ≡ e - at = omega arith in
    let m : put_mid at (e - at) out p ≡ (take at out ++ text) ++ drop (at + length text) out =
    put_mid-paste at (e - at) out p text (length text) q n refl ∙ paste_all out at text (length text) refl
    ∙ sym (append_assoc (take at out) text (drop (at + length text) out)) in
    ap (λ (k : ℕ). put k (put_mid at (e - at) out p)) w ∙ ap (put (at + length text)) m

-- where x has room, what is above its last digit has, with one place left
pub decimal_room : (x at n : ℕ) → 10 ≤ x → x < 18446744073709551616 → at + length (decimal x) ≤ n → at + length (decimal (x / 10)) < n
decimal_room x at n l h r =
    let e : length (decimal x) ≡ length (decimal (x / 10)) + 1 = ap length (decimal_more x l h) ∙ length-append (decimal (x / 10)) ((48 + x % 10) ∷ []) in
    omega arith

pub decimal_above : (x at n : ℕ) → 10 ≤ x → x < 18446744073709551616 → at + length (decimal x) ≤ n → at + length (decimal (x / 10)) ≤ n
decimal_above x at n l h r = let s = decimal_room x at n l h r in omega arith

-- lists

pub items_none : (out : List ℕ) (at : ℕ) (list : List ℕ) → put at out ≡ lay out at (items_of list 0)
unfolding items_of
items_none out at list = lay_none out at

items_length : (list : List ℕ) (k : ℕ) → length (items_of list (suc k)) ≡ length (items_of list k) + 1 + length (decimal (get_or list k 0))
unfolding items_of
items_length list k = simp length-append (omega arith)

pub items_room : (list : List ℕ) (count i : ℕ) → i < count → length (items_of list i) + 1 + length (decimal (get_or list i 0)) ≤ length (items_of list count)
items_room list zero i h = absurd (omega arith)
items_room list (suc m) i h =
    let e = items_length list m in
    let next : i < m → length (items_of list i) + 1 + length (decimal (get_or list i 0)) ≤ length (items_of list m) = items_room list m i in
    by_cases (ℕ_discrete i m)
    (λ (p : i ≡ m). rw p (omega arith))
    (λ (p : i ≢ m). let n = next (omega arith) in omega arith)

items_next : (list : List ℕ) (i : ℕ) → (items_of list i ++ (32 ∷ [])) ++ decimal (get_or list i 0) ≡ items_of list (i + 1)
unfolding items_of
items_next list i = rw (add-one i)

-- o, o₁ and o₂ are what the code has at a turn, after the space and after the number
pub items_more : (out : List ℕ) (at : ℕ) (list : List ℕ) (count i : ℕ) (o o₁ o₂ : List ℕ) (p q r : ℕ) → i < count →
    at + length (items_of list count) ≤ length out → put p o ≡ lay out at (items_of list i) → put q o₁ ≡ lay o p (32 ∷ []) →
    put r o₂ ≡ lay o₁ q (decimal (get_or list i 0)) → put r o₂ ≡ lay out at (items_of list (i + 1))
items_more out at list count i o o₁ o₂ p q r h room e₀ e₁ e₂ =
    let m = items_room list count i h in
    let l : length (items_of list i ++ (32 ∷ [])) ≡ length (items_of list i) + 1 = length-append (items_of list i) (32 ∷ []) in
    lay_then out at (items_of list i ++ (32 ∷ [])) (decimal (get_or list i 0)) o₁ o₂ q r (omega arith)
    (lay_then out at (items_of list i) (32 ∷ []) o o₁ p q (omega arith) e₀ e₁) e₂
    ∙ ap (lay out at) (items_next list i)

-- the parts of a line, each with its room, behind those before it
pub line_length : (name list : List ℕ) (k : ℕ) →
    length (line_of name list k) ≡ length name + 1 + length (decimal k) + 1 + length (items_of list k) + 1
unfolding line_of
line_length name list k = simp length-append (omega arith)

pub line_is : (name list : List ℕ) (k : ℕ) (out : List ℕ) (at : ℕ) (o₁ o₂ o₃ o₄ o₅ o₆ : List ℕ) (a b c d e f : ℕ) →
    at + length (line_of name list k) ≤ length out → put a o₁ ≡ lay out at name → put b o₂ ≡ lay o₁ a (32 ∷ []) → put c o₃ ≡ lay o₂ b (decimal k) →
    put d o₄ ≡ lay o₃ c (58 ∷ []) → put e o₅ ≡ lay o₄ d (items_of list k) → put f o₆ ≡ lay o₅ e (10 ∷ []) → put f o₆ ≡ lay out at (line_of name list k)
unfolding line_of
line_is name list k out at o₁ o₂ o₃ o₄ o₅ o₆ a b c d e f room e₁ e₂ e₃ e₄ e₅ e₆ =
    let n : length (line_of name list k) ≡ length name + 1 + length (decimal k) + 1 + length (items_of list k) + 1 = line_length name list k in
    let t₁ : List ℕ = name ++ (32 ∷ []) in
    let t₂ : List ℕ = t₁ ++ decimal k in
    let t₃ : List ℕ = t₂ ++ (58 ∷ []) in
    let t₄ : List ℕ = t₃ ++ items_of list k in
    let l₁ : length t₁ ≡ length name + 1 = length-append name (32 ∷ []) in
    let l₂ : length t₂ ≡ length t₁ + length (decimal k) = length-append t₁ (decimal k) in
    let l₃ : length t₃ ≡ length t₂ + 1 = length-append t₂ (58 ∷ []) in
    let l₄ : length t₄ ≡ length t₃ + length (items_of list k) = length-append t₃ (items_of list k) in
    lay_then out at t₄ (10 ∷ []) o₅ o₆ e f (omega arith)
    (lay_then out at t₃ (items_of list k) o₄ o₅ d e (omega arith)
    (lay_then out at t₂ (58 ∷ []) o₃ o₄ c d (omega arith)
    (lay_then out at t₁ (decimal k) o₂ o₃ b c (omega arith) (lay_then out at name (32 ∷ []) o₁ o₂ a b (omega arith) e₁ e₂) e₃) e₄) e₅) e₆
