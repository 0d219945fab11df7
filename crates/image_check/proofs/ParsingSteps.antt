-- The tests of an image one by one: what each way out of a function returns. Assumes nothing.
use Rattle.image_check.proofs.Prelude.{ℕ, ◌+◌, ◌-◌, ◌*◌, ◌/◌, ◌%◌, ◌≤◌, ◌<◌, ◌≡◌, sym, ap, ◌∙◌, true, false, true≢false, List, mul-le-mul, arith, ltb, eqb, length, take, drop, get_or, length-drop, get_or-drop, get_or-take, length-take-le, eqb-true, eqb-false, Decides, decides_yes, decides_no, crc32, bytes_of, Header, outside, outside_inside, reads_none, Layout, None, Some, filled_whole, filled_one, filled_two, filled_three, layout_in, passes_image, image_passes}
use Rattle.std.specs.Prelude.{Ok, Err, Option as Optional}
use Rattle.std.specs.Option.{ok_or}
use Rattle.std.proofs.Math.Option.{none}
use Rattle.refusals.specs.declared.Refusal.{Refusal}
use Rattle.refusals.specs.declared.Refusal.TheVariants.{NoImage}
use Rattle.abi.specs.Encoding.{decode_header}
use Rattle.image_spec.specs.Image.{Reads}
use Rattle.image_check.specs.inner.Parsed.{header_in, layout_of, Placed, Words, Marked, Filled, Measured, Whole, Passes, IsAt, ParsedIs}

-- ---- `is_marked`

module _ (words : List ℕ) where
  pub other_magic : (get_or words 0 0 ≡ 1112819533 → ⊥) → Decides (Marked words) false
  other_magic f = decides_no (λ m. f m.magic)

  pub other_format : (get_or words 1 0 ≡ 1 → ⊥) → Decides (Marked words) false
  other_format f = decides_no (λ m. f m.format)

  module _ (magic : get_or words 0 0 ≡ 1112819533) (format : get_or words 1 0 ≡ 1) where
    pub some_flag : (get_or words 12 0 ≡ 0 → ⊥) → Decides (Marked words) true
    some_flag f = decides_yes (record { magic = magic; format = format; no_value = λ z. absurd (f z) })

    pub no_flag : get_or words 12 0 ≡ 0 → Decides (Marked words) (eqb (get_or words 13 0) 0)
    no_flag z =
        record {
          yes = λ q. record { magic = magic; format = format; no_value = λ _. eqb-true _ _ q };
          no = λ q m. eqb-false _ _ q (m.no_value z);
        }

-- ---- `header_in`

-- a header is decoded from its twelve words
of_twelve : (m : List ℕ) → decode_header (take 12 m) ≡ decode_header m
unfolding decode_header
of_twelve m =
    let g : (i : ℕ) → i < 12 → get_or (take 12 m) i 0 ≡ get_or m i 0 = λ i h. get_or-take 12 m i 0 h in
    simp get_or-drop (rw (g 0 (omega arith), g 1 (omega arith), g 2 (omega arith), g 3 (omega arith), g 4 (omega arith), g 5 (omega arith), g 6 (omega arith), g 7 (omega arith), g 8 (omega arith), g 9 (omega arith), g 10 (omega arith), g 11 (omega arith)))

pub header_of_lem : (w e : List ℕ) → e ≡ take 12 (drop 2 w) → decode_header e ≡ header_in w
unfolding header_in
header_of_lem w e q = ap decode_header q ∙ of_twelve (drop 2 w)

-- ---- `layout_for`

-- the parts of a header within its bounds are counted by a u32
pub record Few (h : Header) : Type 0 where
  pub cells : h.rows * h.columns ≤ 524288
  pub entries : h.entries ≤ 65536

pub few : (h : Header) → outside h ≡ false → Few h
few h e =
    let i = outside_inside h e in
    let n : h.rows ≤ 65536 = omega (arith, i.rows_fit, i.bounds.capacity_few) in
    record { cells = mul-le-mul n i.bounds.columns_few; entries = omega (arith, i.entries_fit) }

pub layout_is : (h : Header) (text rows sorts pending end : ℕ) → rows ≡ 15 + (text + 3) / 4 → sorts ≡ rows + h.rows * h.columns → pending ≡ sorts + 2 * h.entries → end ≡ pending + h.pending
    → record { header = h; text = text; rows = rows; sorts = sorts; pending = pending; end = end } ≡ layout_of h text
unfolding layout_of
layout_is h text rows sorts pending end a b c d = rw (d, c, b, a)

-- ---- `is_filled`

module _ (words : List ℕ) (text : ℕ) (m : Measured words text) where
  behind_small : Words (drop 15 words)
  behind_small i = rw (get_or-drop 15 words i 0) (m.words_are (15 + i))

  behind_long : text / 4 ≤ length (drop 15 words)
  behind_long = rw (length-drop 15 words) (omega (arith, m.long))

  behind_some : (text % 4 ≡ 0 → ⊥) → text / 4 < length (drop 15 words)
  behind_some f = rw (length-drop 15 words) (omega (arith, m.long))

  pub fill_none : text % 4 ≡ 0 → Decides (Filled (drop 15 words) text) true
  fill_none e = decides_yes (filled_whole (drop 15 words) text behind_small e behind_long)

  pub fill_one : text % 4 ≡ 1 → Decides (Filled (drop 15 words) text) (ltb (get_or words (15 + text / 4) 0) 256)
  fill_one e = rw (← get_or-drop 15 words (text / 4) 0) (filled_one (drop 15 words) text behind_small e (behind_some (λ z. omega arith)))

  pub fill_two : text % 4 ≡ 2 → Decides (Filled (drop 15 words) text) (ltb (get_or words (15 + text / 4) 0) 65536)
  fill_two e = rw (← get_or-drop 15 words (text / 4) 0) (filled_two (drop 15 words) text behind_small e (behind_some (λ z. omega arith)))

  pub fill_three : (text % 4 ≡ 0 → ⊥) → (text % 4 ≡ 1 → ⊥) → (text % 4 ≡ 2 → ⊥) → Decides (Filled (drop 15 words) text) (ltb (get_or words (15 + text / 4) 0) 16777216)
  fill_three a b c = rw (← get_or-drop 15 words (text / 4) 0) (filled_three (drop 15 words) text behind_small (omega arith) (behind_some a))

-- ---- `is_whole`

module _ (words : List ℕ) (l : Layout) (long : 16 ≤ length words) (p : Placed l) where
  pub whole_other_count : (length words - 1 ≡ l.end → ⊥) → Decides (Whole words l) false
  whole_other_count f = decides_no (λ w. f (omega (arith, w.counted)))

  pub whole_unfilled : (Filled (drop 15 words) l.text → ⊥) → Decides (Whole words l) false
  whole_unfilled f = decides_no (λ w. f w.filled)

  module _ (e : length words - 1 ≡ l.end) where
    pub whole_measured : Words words → Measured words l.text
    whole_measured w =
        record { words_are = w; few = p.few; long = omega (arith, p.rows_at, p.sorts_at, p.pending_at, p.end_at) }

    pub whole_part : l.end ≡ length (take l.end words)
    whole_part = sym (length-take-le l.end words (omega arith))

    pub whole_checked : Filled (drop 15 words) l.text → (sum : ℕ) → sum ≡ crc32 (bytes_of (take l.end words)) → Decides (Whole words l) (eqb (get_or words l.end 0) sum)
    whole_checked f sum s =
        record {
          yes = λ q. record { counted = omega arith; filled = f; checked = eqb-true _ _ q ∙ s };
          no = λ q w. eqb-false _ _ q (w.checked ∙ sym s);
        }

-- ---- `parse`

module _ (words : List ℕ) where
  pub parsed_none : (Passes words → ⊥) → ParsedIs words None
  parsed_none f = reads_none (λ i p e. f (image_passes words i p e))

  module _ (h : Header) (header : h ≡ header_in words) where
    pub parsed_outside : outside h ≡ true → ParsedIs words None
    parsed_outside e = parsed_none (λ t. true≢false (sym (ap outside (sym header) ∙ e) ∙ t.inside))

    module _ (l : Layout) (layout : l ≡ layout_of h (get_or words 14 0)) where
      layout_there : l ≡ layout_in words
      layout_there = layout ∙ ap (λ (g : Header). layout_of g (get_or words 14 0)) header

      pub parsed_broken : (Whole words l → ⊥) → ParsedIs words None
      parsed_broken f = parsed_none (λ t. f (rw layout_there t.whole))

      pub parsed_whole : 16 ≤ length words → Marked words → outside h ≡ false → get_or words 14 0 ≤ 4096 → Whole words l → ParsedIs words (Some l)
      parsed_whole long m inside few w =
          rw layout_there (passes_image words (record {
            long = long;
            marked = m;
            inside = ap outside (sym header) ∙ inside;
            few = few;
            whole = rw layout_there at w;
          }))

  -- the answer as a result: refused as no image, or the layout of an image
  pub parsed_missing : (o : Optional Layout) (refusal : Refusal) → ParsedIs words o → Err refusal ≡ ok_or o NoImage → Reads words none × (refusal ≡ NoImage)
  parsed_missing None refusal n e = (n, cc)
  parsed_missing (Some l) refusal t e = absurd (let z : ◌≡◌ {A = ℕ} 0 1 = cc in omega arith)

  pub parsed_there : (o : Optional Layout) (l : Layout) → ParsedIs words o → Ok l ≡ ok_or o NoImage → IsAt words l
  parsed_there None l n e = absurd (let z : ◌≡◌ {A = ℕ} 0 1 = cc in omega arith)
  parsed_there (Some m) l t e = let k : m ≡ l = cc in rw (← k) t
