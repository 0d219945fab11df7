-- An image is determined by its words: no two images have the same. Assumes nothing.
use Rattle.std.specs.Prelude.{ℕ, ◌+◌, ◌*◌, ◌/◌, ◌≤◌, ◌<◌, ◌≡◌, refl, Bool, true, false, not, ◌&&◌, length, take, drop, ltb}
use Rattle.std.proofs.Common.{sym, ap, ◌∙◌, arith, length-append, ltb-true, leb-true, eqb-true, le-leb, eq-eqb}
use mathlib.Core.List.{List, [], ◌∷◌, ◌++◌, head-eq_of_cons-eq, tail-eq_of_cons-eq}
use Rattle.std.proofs.Math.Option.{Option, none, some}
use Rattle.std.proofs.Math.Seq.{take-append_seam, drop-append_seam}
use Rattle.std.proofs.lemmas.Bool.{not-true}
use Rattle.lists.specs.Lists.{all}
use Rattle.lists.specs.Laws.Filter.{and_left, and_right}
use Rattle.lists.specs.Laws.All.{all_head, all_tail}
use Rattle.table.specs.declared.Header.{Header}
use Rattle.table.specs.Refusing.{outside}
use Rattle.abi.specs.Encoding.{decode_header, encode_option, encode_header}
use Rattle.abi.specs.Laws.Encoding.{header_decoded}
use Rattle.image_spec.specs.Image.{Image, packed, image_body, image_words, is_image, Reads, reads, reads_none}

-- ---- lists

-- two lists joined, by the length of the first
pub joined_first : {A : Type 0} (a b c d : List A) → length a ≡ length b → a ++ c ≡ b ++ d → a ≡ b
joined_first a b c d n e = sym (take-append_seam a c) ∙ ap (take (length a)) e ∙ (rw n (take-append_seam b d))

pub joined_second : {A : Type 0} (a b c d : List A) → length a ≡ length b → a ++ c ≡ b ++ d → c ≡ d
joined_second a b c d n e = sym (drop-append_seam a c) ∙ ap (drop (length a)) e ∙ (rw n (drop-append_seam b d))

-- ---- headers

pub header_unique : (h k : Header) → encode_header h ≡ encode_header k → h ≡ k
header_unique h k e = sym (header_decoded h) ∙ ap decode_header e ∙ header_decoded k

-- ---- texts

abbrev is_byte : ℕ → Bool
is_byte byte = ltb byte 256

first_byte : (x : ℕ) (xs : List ℕ) → all is_byte (x ∷ xs) ≡ true → x < 256
first_byte x xs e = ltb-true x 256 (all_head is_byte x xs e)

-- a word has one lowest byte, and one rest
low_byte : (a b x y : ℕ) → a < 256 → b < 256 → a + 256 * x ≡ b + 256 * y → (a ≡ b) × (x ≡ y)
low_byte a b x y h k e = (omega arith, omega arith)

pub packed_unique : (a b : List ℕ) → all is_byte a ≡ true → all is_byte b ≡ true → length a ≡ length b → packed a ≡ packed b → a ≡ b
unfolding packed
packed_unique [] [] h k n e = refl
packed_unique [] (b₀ ∷ ys) h k n e = absurd (omega arith)
packed_unique (a₀ ∷ xs) [] h k n e = absurd (omega arith)
packed_unique (a₀ ∷ []) (b₀ ∷ []) h k n e = e
packed_unique (a₀ ∷ []) (b₀ ∷ b₁ ∷ ys) h k n e = absurd (omega arith)
packed_unique (a₀ ∷ a₁ ∷ xs) (b₀ ∷ []) h k n e = absurd (omega arith)
packed_unique (a₀ ∷ a₁ ∷ []) (b₀ ∷ b₁ ∷ []) h k n e =
    let z₀ = low_byte a₀ b₀ a₁ b₁ (first_byte _ _ h) (first_byte _ _ k) (head-eq_of_cons-eq e) in
    cc
packed_unique (a₀ ∷ a₁ ∷ []) (b₀ ∷ b₁ ∷ b₂ ∷ ys) h k n e = absurd (omega arith)
packed_unique (a₀ ∷ a₁ ∷ a₂ ∷ xs) (b₀ ∷ b₁ ∷ []) h k n e = absurd (omega arith)
packed_unique (a₀ ∷ a₁ ∷ a₂ ∷ []) (b₀ ∷ b₁ ∷ b₂ ∷ []) h k n e =
    let w : a₀ + 256 * a₁ + 65536 * a₂ ≡ b₀ + 256 * b₁ + 65536 * b₂ = head-eq_of_cons-eq e in
    let z₀ = low_byte a₀ b₀ (a₁ + 256 * a₂) (b₁ + 256 * b₂) (first_byte _ _ h) (first_byte _ _ k) (omega (arith, w)) in
    let z₁ = low_byte a₁ b₁ a₂ b₂ (first_byte _ _ (all_tail is_byte _ _ h)) (first_byte _ _ (all_tail is_byte _ _ k)) z₀.1 in
    cc
packed_unique (a₀ ∷ a₁ ∷ a₂ ∷ []) (b₀ ∷ b₁ ∷ b₂ ∷ b₃ ∷ ys) h k n e = absurd (omega arith)
packed_unique (a₀ ∷ a₁ ∷ a₂ ∷ a₃ ∷ xs) (b₀ ∷ b₁ ∷ b₂ ∷ []) h k n e = absurd (omega arith)
packed_unique (a₀ ∷ a₁ ∷ a₂ ∷ a₃ ∷ xs) (b₀ ∷ b₁ ∷ b₂ ∷ b₃ ∷ ys) h k n e =
    let w : a₀ + 256 * a₁ + 65536 * a₂ + 16777216 * a₃ ≡ b₀ + 256 * b₁ + 65536 * b₂ + 16777216 * b₃ = head-eq_of_cons-eq e in
    let h₁ = all_tail is_byte a₀ _ h in
    let k₁ = all_tail is_byte b₀ _ k in
    let h₂ = all_tail is_byte a₁ _ h₁ in
    let k₂ = all_tail is_byte b₁ _ k₁ in
    let z₀ = low_byte a₀ b₀ (a₁ + 256 * a₂ + 65536 * a₃) (b₁ + 256 * b₂ + 65536 * b₃) (first_byte _ _ h) (first_byte _ _ k) (omega (arith, w)) in
    let z₁ = low_byte a₁ b₁ (a₂ + 256 * a₃) (b₂ + 256 * b₃) (first_byte _ _ h₁) (first_byte _ _ k₁) (omega (arith, z₀.1)) in
    let z₂ = low_byte a₂ b₂ a₃ b₃ (first_byte _ _ h₂) (first_byte _ _ k₂) z₁.1 in
    let rest : xs ≡ ys =
    packed_unique xs ys (all_tail is_byte a₃ _ (all_tail is_byte a₂ _ h₂)) (all_tail is_byte b₃ _ (all_tail is_byte b₂ _ k₂)) (omega (arith, n)) (tail-eq_of_cons-eq e) in
    cc

pub length_packed : (a : List ℕ) → length (packed a) ≡ (length a + 3) / 4
unfolding packed
length_packed [] = refl
length_packed (a ∷ []) = refl
length_packed (a ∷ b ∷ []) = refl
length_packed (a ∷ b ∷ c ∷ []) = refl
length_packed (a ∷ b ∷ c ∷ d ∷ rest) = omega (arith, length_packed rest)

-- ---- images

-- the parts of the test
pub record Parts (i : Image) : Type 0 where
  pub header_fits : outside i.header ≡ false
  pub text_fits : length i.text ≤ 4096
  pub text_bytes : all is_byte i.text ≡ true
  pub rows_counted : length i.rows ≡ i.header.rows * i.header.columns
  pub sorts_counted : length i.sorts ≡ 2 * i.header.entries
  pub pending_counted : length i.pending ≡ i.header.pending

six : (a b c d e f : Bool) → (a && b && c && d && e && f) ≡ true
    → (a ≡ true) × (b ≡ true) × (c ≡ true) × (d ≡ true) × (e ≡ true) × (f ≡ true)
six a b c d e f q =
    let q₅ = and_left (a && b && c && d && e) f q in
    let q₄ = and_left (a && b && c && d) e q₅ in
    let q₃ = and_left (a && b && c) d q₄ in
    let q₂ = and_left (a && b) c q₃ in
    (and_left a b q₂, and_right a b q₂, and_right (a && b) c q₃, and_right (a && b && c) d q₄, and_right (a && b && c && d) e q₅, and_right (a && b && c && d && e) f q)

pub image_parts : (i : Image) → is_image i ≡ true → Parts i
unfolding is_image
image_parts i e =
    let q = six (not (outside i.header)) _ _ _ _ _ e in
    record {
      header_fits = not-true _ q.0;
      text_fits = leb-true _ _ q.1;
      text_bytes = q.2;
      rows_counted = eqb-true _ _ q.3;
      sorts_counted = eqb-true _ _ q.4;
      pending_counted = eqb-true _ _ q.5;
    }

-- and back
pub parts_image : (i : Image) → Parts i → is_image i ≡ true
unfolding is_image
parts_image i p =
    rw (
      p.header_fits,
      le-leb _ _ p.text_fits,
      p.text_bytes,
      eq-eqb _ _ p.rows_counted,
      eq-eqb _ _ p.sorts_counted,
      eq-eqb _ _ p.pending_counted,
    )

pub length_encoded : (h : Header) → length (encode_header h) ≡ 12
unfolding encode_option encode_header
length_encoded h = refl

last_off : (a b : List ℕ) (x y : ℕ) → a ++ (x ∷ []) ≡ b ++ (y ∷ []) → a ≡ b
last_off a b x y e =
    let n : length a ≡ length b = omega (arith, length-append a (x ∷ []), length-append b (y ∷ []), ap length e) in
    joined_first a b (x ∷ []) (y ∷ []) n e

pub image_unique : (i j : Image) → is_image i ≡ true → is_image j ≡ true → image_words i ≡ image_words j → i ≡ j
unfolding image_words image_body
image_unique i j p q e =
    let s = image_parts i p in
    let t = image_parts j q in
    let b : image_body i ≡ image_body j = last_off _ _ _ _ e in
    let r = tail-eq_of_cons-eq (tail-eq_of_cons-eq b) in
    let n = length_encoded i.header ∙ sym (length_encoded j.header) in
    let h : i.header ≡ j.header = header_unique _ _ (joined_first _ _ _ _ n r) in
    let r₁ = joined_second (encode_header i.header) (encode_header j.header) _ _ n r in
    let texts : length i.text ≡ length j.text = head-eq_of_cons-eq r₁ in
    let r₂ = tail-eq_of_cons-eq r₁ in
    let m = length_packed i.text ∙ ap (λ (x : ℕ). (x + 3) / 4) texts ∙ sym (length_packed j.text) in
    let text : i.text ≡ j.text = packed_unique _ _ s.text_bytes t.text_bytes texts (joined_first _ _ _ _ m r₂) in
    let r₃ = joined_second (packed i.text) (packed j.text) _ _ m r₂ in
    let nr : length i.rows ≡ length j.rows = s.rows_counted ∙ ap (λ (x : Header). x.rows * x.columns) h ∙ sym t.rows_counted in
    let rows : i.rows ≡ j.rows = joined_first _ _ _ _ nr r₃ in
    let r₄ = joined_second i.rows j.rows _ _ nr r₃ in
    let ns : length i.sorts ≡ length j.sorts = s.sorts_counted ∙ ap (λ (x : Header). 2 * x.entries) h ∙ sym t.sorts_counted in
    let sorts : i.sorts ≡ j.sorts = joined_first _ _ _ _ ns r₄ in
    let pending : i.pending ≡ j.pending = joined_second i.sorts j.sorts _ _ ns r₄ in
    λ k. record { header = h k; text = text k; rows = rows k; sorts = sorts k; pending = pending k }

-- what words are read as is determined
pub reads_unique : (words : List ℕ) (a b : Option Image) → Reads words a → Reads words b → a ≡ b
reads_unique words (some i) (some j) (reads _ p e) (reads _ q f) = ap some (image_unique i j p q (sym e ∙ f))
reads_unique words (some i) none (reads _ p e) (reads_none never) = absurd (never i p e)
reads_unique words none (some j) (reads_none never) (reads _ q f) = absurd (never j q f)
reads_unique words none none (reads_none _) (reads_none _) = refl
