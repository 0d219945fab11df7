-- Words are an image exactly if they pass all tests, and then it is the one whose parts are at their places. Assumes nothing.
use Rattle.std.specs.Prelude.{◌+◌, ◌-◌, ◌*◌, ◌/◌, ◌≤◌, ◌<◌, ◌≡◌, ◌&&◌, ◌∷◌, ◌++◌}
use Rattle.image_check.specs.Laws.Prelude.{ℕ, suc, refl, sym, ap, ap₂, ◌∙◌, inl, inr, true, false, not, true≢false, List, [], append_assoc, Option, none, some, ℕ_discrete, arith, leb, eqb, length, take, drop, get_or, length-append, length-take, length-drop, take-append-drop, drop_of_length-le, take_at, drop_at, drop-drop, drop-cons, take-append-le, get_or_at, get_or-drop, get_or-take, length-take-le, leb-true, leb-false, eqb-true, le-leb, eq-eqb, ne_eqb, not-true, all, split, and_left, and_right, all_of, all_get_d, crc32, bytes_of, Header, outside, header_decoded, flag_refused, Layout, length_packed}
use Rattle.abi.specs.Encoding.{decode_largest, decode_columns, decode_header, encode_option, encode_header}
use Rattle.table.specs.Numbers.{largest_view}
use mathlib.Core.Option.{Option-elim}
use Rattle.image_spec.specs.Image.{Image, packed, image_body, image_words, is_image, reads}
use Rattle.image_check.specs.inner.Parsed.{header_in, layout_of, Placed, part, image_in, Marked, Filled, Whole, Passes, IsAt}
use Rattle.image_check.specs.Laws.Bytes.{length_bytes, bytes_append, is_byte, bytes_small, packed_bytes}

-- ---- what an image has

-- the parts of `is_image`
pub record Proper (i : Image) : Type 0 where
  pub inside : outside i.header ≡ false
  pub few : length i.text ≤ 4096
  pub bytes : all is_byte i.text ≡ true
  pub rows_are : length i.rows ≡ i.header.rows * i.header.columns
  pub sorts_are : length i.sorts ≡ 2 * i.header.entries
  pub pending_are : length i.pending ≡ i.header.pending

pub image_proper : (i : Image) → is_image i ≡ true → Proper i
unfolding is_image
image_proper i e =
    let a = not (outside i.header) in
    let b = leb (length i.text) 4096 in
    let c = all is_byte i.text in
    let d = eqb (length i.rows) (i.header.rows * i.header.columns) in
    let f = eqb (length i.sorts) (2 * i.header.entries) in
    let e1 = and_left (a && b && c && d && f) _ e in
    let e2 = and_left (a && b && c && d) f e1 in
    let e3 = and_left (a && b && c) d e2 in
    let e4 = and_left (a && b) c e3 in
    record {
      inside = not-true _ (and_left a b e4);
      few = leb-true _ _ (and_right a b e4);
      bytes = and_right (a && b) c e3;
      rows_are = eqb-true _ _ (and_right (a && b && c) d e2);
      sorts_are = eqb-true _ _ (and_right (a && b && c && d) f e1);
      pending_are = eqb-true _ _ (and_right (a && b && c && d && f) _ e);
    }

pub proper_image : (i : Image) → Proper i → is_image i ≡ true
unfolding is_image
proper_image i p =
    rw (p.inside, le-leb _ _ p.few, p.bytes, eq-eqb _ _ p.rows_are, eq-eqb _ _ p.sorts_are, eq-eqb _ _ p.pending_are)

-- ---- the header in words

module _ (ws : List ℕ) where
  first_twelve : 12 ≤ length ws → ws ≡ get_or ws 0 0 ∷ get_or ws 1 0 ∷ get_or ws 2 0 ∷ get_or ws 3 0 ∷ get_or ws 4 0 ∷ get_or ws 5 0 ∷ get_or ws 6 0 ∷ get_or ws 7 0 ∷ get_or ws 8 0 ∷ get_or ws 9 0 ∷ get_or ws 10 0 ∷ get_or ws 11 0 ∷ drop 12 ws
  first_twelve k =
      drop-cons ws 0 0 (omega arith) ∙ ap {B = List ℕ} (λ (l : List ℕ). get_or ws 0 0 ∷ l)
      (drop-cons ws 1 0 (omega arith) ∙ ap {B = List ℕ} (λ (l : List ℕ). get_or ws 1 0 ∷ l)
      (drop-cons ws 2 0 (omega arith) ∙ ap {B = List ℕ} (λ (l : List ℕ). get_or ws 2 0 ∷ l)
      (drop-cons ws 3 0 (omega arith) ∙ ap {B = List ℕ} (λ (l : List ℕ). get_or ws 3 0 ∷ l)
      (drop-cons ws 4 0 (omega arith) ∙ ap {B = List ℕ} (λ (l : List ℕ). get_or ws 4 0 ∷ l)
      (drop-cons ws 5 0 (omega arith) ∙ ap {B = List ℕ} (λ (l : List ℕ). get_or ws 5 0 ∷ l)
      (drop-cons ws 6 0 (omega arith) ∙ ap {B = List ℕ} (λ (l : List ℕ). get_or ws 6 0 ∷ l)
      (drop-cons ws 7 0 (omega arith) ∙ ap {B = List ℕ} (λ (l : List ℕ). get_or ws 7 0 ∷ l)
      (drop-cons ws 8 0 (omega arith) ∙ ap {B = List ℕ} (λ (l : List ℕ). get_or ws 8 0 ∷ l)
      (drop-cons ws 9 0 (omega arith) ∙ ap {B = List ℕ} (λ (l : List ℕ). get_or ws 9 0 ∷ l)
      (drop-cons ws 10 0 (omega arith) ∙ ap {B = List ℕ} (λ (l : List ℕ). get_or ws 10 0 ∷ l)
      (drop-cons ws 11 0 (omega arith))))))))))))

  flag_few : outside (decode_header ws) ≡ false → get_or ws 10 0 ≤ 1
  flag_few e =
      elim (split (leb (get_or ws 10 0) 1)) [
        | inl q ↦ leb-true _ _ q
        | inr q ↦ absurd (true≢false (sym (flag_refused ws (leb-false _ _ q)) ∙ e))
      ]

  -- a header that was decoded is encoded as it was
  header_encoded : outside (decode_header ws) ≡ false → (get_or ws 10 0 ≡ 0 → get_or ws 11 0 ≡ 0) → encode_header (decode_header ws) ≡ get_or ws 0 0 ∷ get_or ws 1 0 ∷ get_or ws 2 0 ∷ get_or ws 3 0 ∷ get_or ws 4 0 ∷ get_or ws 5 0 ∷ get_or ws 6 0 ∷ get_or ws 7 0 ∷ get_or ws 8 0 ∷ get_or ws 9 0 ∷ get_or ws 10 0 ∷ get_or ws 11 0 ∷ []
  unfolding encode_header encode_option largest_view Option-elim decode_header decode_columns decode_largest
  header_encoded e bare =
      let few = flag_few e in
      elim (ℕ_discrete (get_or ws 10 0) 1) [
        | yes q ↦ rw (le-leb (get_or ws 10 0) 1 few, eq-eqb (get_or ws 10 0) 1 q, q) (simp get_or-drop)
        | no q ↦ let z : get_or ws 10 0 ≡ 0 = omega arith in rw (le-leb (get_or ws 10 0) 1 few, ne_eqb (get_or ws 10 0) 1 q, z, bare z) (simp get_or-drop)
      ]

-- what words begin with
abbrev Fronted : List ℕ → Type 0
Fronted words = words ≡ 1112819533 ∷ 1 ∷ (encode_header (header_in words) ++ (get_or words 14 0 ∷ drop 15 words))

fronted : (words : List ℕ) → 16 ≤ length words → Marked words → outside (header_in words) ≡ false → Fronted words
unfolding header_in
fronted words long m inside =
    let ws = drop 2 words in
    let k : 13 ≤ length ws = rw (length-drop 2 words) (omega arith) in
    let flag : get_or ws 10 0 ≡ get_or words 12 0 = get_or-drop 2 words 10 0 in
    let value : get_or ws 11 0 ≡ get_or words 13 0 = get_or-drop 2 words 11 0 in
    let e = header_encoded ws inside (λ z. value ∙ m.no_value (sym flag ∙ z)) in
    let rest : drop 12 ws ≡ get_or words 14 0 ∷ drop 15 words = drop-cons ws 12 0 k ∙ ap₂ (λ (x : ℕ) (l : List ℕ). x ∷ l) (get_or-drop 2 words 12 0) (drop-drop 13 2 words) in
    drop-cons words 0 0 (omega arith)
    ∙ ap₂ (λ (x : ℕ) (l : List ℕ). x ∷ l) m.magic (drop-cons words 1 0 (omega arith) ∙ ap₂ (λ (x : ℕ) (l : List ℕ). x ∷ l) m.format (first_twelve ws (omega arith) ∙ ap₂ (λ (a b : List ℕ). a ++ b) (sym e) rest))

-- ---- parts of words

module _ (words : List ℕ) where
  part_on : (from to : ℕ) → from ≤ to → drop from words ≡ part words from to ++ drop to words
  part_on from to k =
      let e : from + (to - from) ≡ to = omega arith in
      sym (take-append-drop (to - from) (drop from words)) ∙ ap (λ (l : List ℕ). part words from to ++ l) (drop-drop (to - from) from words ∙ ap (λ (n : ℕ). drop n words) e)

  pub part_length : (from to : ℕ) → from ≤ to → to ≤ length words → length (part words from to) ≡ to - from
  part_length from to k h = length-take-le (to - from) (drop from words) (rw (length-drop from words) (omega arith))

  last_part : (end : ℕ) → length words ≡ end + 1 → drop end words ≡ get_or words end 0 ∷ []
  last_part end e = drop-cons words end 0 (omega arith) ∙ ap {B = List ℕ} (λ (l : List ℕ). get_or words end 0 ∷ l) (drop_of_length-le words {i = suc end} (omega arith))

-- a part of lists one after another
part_of : (a b c : List ℕ) (from to : ℕ) → length a ≡ from → from + length b ≡ to → part (a ++ (b ++ c)) from to ≡ b
part_of a b c from to e f =
    let n : to - from ≡ length b = omega arith in
    ap (take (to - from)) (drop_at a (b ++ c) from e) ∙ take_at b c (to - from) (sym n)

-- ---- words that pass all tests are an image

pub placed_of : (h : Header) (text : ℕ) → outside h ≡ false → text ≤ 4096 → Placed (layout_of h text)
unfolding layout_of
placed_of h text inside few =
    record { inside = inside; few = few; rows_at = refl; sorts_at = refl; pending_at = refl; end_at = refl }

module _ (words : List ℕ) (l : Layout) (p : Placed l) (counted : length words ≡ l.end + 1) where
  -- the places in order
  pub rows_before_lem : l.rows ≤ l.sorts
  rows_before_lem = omega (arith, p.sorts_at)

  pub sorts_before : l.sorts ≤ l.pending
  sorts_before = omega (arith, p.pending_at)

  pub pending_before : l.pending ≤ l.end
  pending_before = omega (arith, p.end_at)

  pub text_length : length (take l.text (bytes_of (drop 15 words))) ≡ l.text
  text_length =
      length-take-le l.text (bytes_of (drop 15 words))
      (rw (length_bytes, length-drop) (omega (arith, p.rows_at, rows_before_lem, sorts_before, pending_before, counted)))

  text_bytes : all is_byte (take l.text (bytes_of (drop 15 words))) ≡ true
  text_bytes =
      let t = take l.text (bytes_of (drop 15 words)) in
      all_of is_byte 0 t (λ i k.
      let m : i < l.text = omega (arith, text_length) in
      let n : i < length (bytes_of (drop 15 words)) = omega (arith, length-take l.text (bytes_of (drop 15 words))) in
      rw (get_or-take l.text (bytes_of (drop 15 words)) i 0 m) (all_get_d is_byte (bytes_of (drop 15 words)) (bytes_small (drop 15 words)) i n 0))

  pub image_in_proper : Proper (image_in words l)
  unfolding image_in
  image_in_proper =
      record {
        inside = p.inside;
        few = rw text_length p.few;
        bytes = text_bytes;
        rows_are = part_length words l.rows l.sorts rows_before_lem (omega (arith, sorts_before, pending_before)) ∙ omega (arith, p.sorts_at);
        sorts_are = part_length words l.sorts l.pending sorts_before (omega (arith, pending_before)) ∙ omega (arith, p.pending_at);
        pending_are = part_length words l.pending l.end pending_before (omega arith) ∙ omega (arith, p.end_at);
      }

  -- all but the first fifteen words
  rest_parts : Filled (drop 15 words) l.text
      → drop 15 words ≡ packed (take l.text (bytes_of (drop 15 words))) ++ (part words l.rows l.sorts ++ (part words l.sorts l.pending ++ (part words l.pending l.end ++ (get_or words l.end 0 ∷ []))))
  rest_parts f =
      let k : l.rows - 15 ≡ (l.text + 3) / 4 = omega (arith, p.rows_at) in
      let t : part words 15 l.rows ≡ packed (take l.text (bytes_of (drop 15 words))) = ap (λ (n : ℕ). take n (drop 15 words)) k ∙ sym f in
      part_on words 15 l.rows (omega (arith, p.rows_at))
      ∙ ap₂ (λ (a b : List ℕ). a ++ b) t (part_on words l.rows l.sorts rows_before_lem
      ∙ ap (λ (a : List ℕ). part words l.rows l.sorts ++ a) (part_on words l.sorts l.pending sorts_before
      ∙ ap (λ (a : List ℕ). part words l.sorts l.pending ++ a) (part_on words l.pending l.end pending_before
      ∙ ap (λ (a : List ℕ). part words l.pending l.end ++ a) (last_part words l.end counted))))

  body_in : Filled (drop 15 words) l.text → words ≡ 1112819533 ∷ 1 ∷ (encode_header l.header ++ (l.text ∷ drop 15 words)) → words ≡ image_body (image_in words l) ++ (get_or words l.end 0 ∷ [])
  unfolding image_body image_in
  body_in f e =
      let t = packed (take l.text (bytes_of (drop 15 words))) in
      let a = part words l.rows l.sorts in
      let b = part words l.sorts l.pending in
      let c = part words l.pending l.end in
      let x = get_or words l.end 0 ∷ [] in
      let g : encode_header l.header ++ (l.text ∷ (t ++ (a ++ (b ++ (c ++ x))))) ≡ (encode_header l.header ++ (length (take l.text (bytes_of (drop 15 words))) ∷ (t ++ (a ++ (b ++ c))))) ++ x = rw text_length (simp append_assoc) in
      e ∙ ap (λ (r : List ℕ). 1112819533 ∷ 1 ∷ (encode_header l.header ++ (l.text ∷ r))) (rest_parts f) ∙ ap {B = List ℕ} (λ (r : List ℕ). 1112819533 ∷ 1 ∷ r) g

length_body : (i : Image) → Proper i → length (image_body i) ≡ 15 + (length i.text + 3) / 4 + i.header.rows * i.header.columns + 2 * i.header.entries + i.header.pending
unfolding image_body encode_header encode_option
length_body i p =
    let a = length_packed i.text in
    let b = length-append i.sorts i.pending in
    let c = length-append i.rows (i.sorts ++ i.pending) in
    let d = length-append (packed i.text) (i.rows ++ (i.sorts ++ i.pending)) in
    omega (arith, p.rows_are, p.sorts_are, p.pending_are)

-- the layout of the image that words are, if they are one
abbrev pub layout_in : List ℕ → Layout
layout_in words = layout_of (header_in words) (get_or words 14 0)

module _ (words : List ℕ) (t : Passes words) where
  passes_placed : Placed (layout_in words)
  passes_placed = placed_of (header_in words) (get_or words 14 0) t.inside t.few

  passes_words : words ≡ image_words (image_in words (layout_in words))
  unfolding image_words layout_of image_in
  passes_words =
      let l = layout_in words in
      let i = image_in words l in
      let b = body_in words l passes_placed t.whole.counted t.whole.filled (fronted words t.long t.marked t.inside) in
      let n : length (image_body i) ≡ l.end = omega (arith, t.whole.counted, ap length b, length-append (image_body i) (get_or words l.end 0 ∷ [])) in
      let body : take l.end words ≡ image_body i = ap (take l.end) b ∙ take_at (image_body i) (get_or words l.end 0 ∷ []) l.end n in
      b ∙ ap (λ (x : ℕ). image_body i ++ (x ∷ [])) (t.whole.checked ∙ ap (λ (w : List ℕ). crc32 (bytes_of w)) body)

  pub passes_image : IsAt words (layout_in words)
  passes_image =
      record {
        placed = passes_placed;
        counted = t.whole.counted;
        reads = reads (image_in words (layout_in words)) (proper_image _ (image_in_proper words (layout_in words) passes_placed t.whole.counted)) passes_words;
      }

-- ---- an image passes all tests, and is the one whose parts are at their places

no_value : (o : Option ℕ) → Option-elim {B = ℕ} o 0 (λ n. 1) ≡ 0 → mathlib.Core.Option.get_or o 0 ≡ 0
unfolding Option-elim
no_value none e = refl
no_value (some v) e = absurd (omega arith)

module _ (i : Image) (p : Proper i) where
  header_back : header_in (image_words i) ≡ i.header
  unfolding header_in image_words image_body encode_header encode_option decode_header
  header_back = header_decoded i.header

  text_back : get_or (image_words i) 14 0 ≡ length i.text
  unfolding image_words image_body encode_header encode_option
  text_back = refl

  marked_back : Marked (image_words i)
  unfolding image_words image_body encode_header encode_option
  marked_back = record { magic = refl; format = refl; no_value = no_value (largest_view i.header.largest) }

  abbrev stored : Layout
  stored = layout_of i.header (length i.text)

  length_back : length (image_body i) ≡ stored.end
  unfolding layout_of
  length_back = length_body i p

  counted_back : length (image_words i) ≡ stored.end + 1
  unfolding image_words
  counted_back = length-append (image_body i) (crc32 (bytes_of (image_body i)) ∷ []) ∙ ap (λ (n : ℕ). n + 1) length_back

  abbrev behind : List ℕ
  behind = i.rows ++ (i.sorts ++ (i.pending ++ (crc32 (bytes_of (image_body i)) ∷ [])))

  rest_back : drop 15 (image_words i) ≡ packed i.text ++ behind
  unfolding image_words image_body encode_header encode_option
  rest_back = simp append_assoc

  bytes_back : take (length i.text) (bytes_of (drop 15 (image_words i))) ≡ i.text
  bytes_back =
      let k : length i.text ≤ length (bytes_of (packed i.text)) = omega (arith, length_bytes (packed i.text), length_packed i.text) in
      ap (λ (w : List ℕ). take (length i.text) (bytes_of w)) rest_back ∙ ap (take (length i.text)) (bytes_append (packed i.text) behind)
      ∙ take-append-le (length i.text) (bytes_of (packed i.text)) (bytes_of behind) k ∙ packed_bytes i.text p.bytes

  whole_back : Whole (image_words i) stored
  unfolding layout_of
  whole_back =
      record {
        counted = counted_back;
        filled = ap packed bytes_back ∙ sym (ap (take ((length i.text + 3) / 4)) rest_back ∙ take_at (packed i.text) behind ((length i.text + 3) / 4) (length_packed i.text));
        checked = last ∙ ap (λ (w : List ℕ). crc32 (bytes_of w)) (sym body);
      }
    where
      last : get_or (image_words i) stored.end 0 ≡ crc32 (bytes_of (image_body i))
      last = unfold image_words in get_or_at (image_body i) (crc32 (bytes_of (image_body i))) [] 0 stored.end length_back

      body : take stored.end (image_words i) ≡ image_body i
      body = unfold image_words in take_at (image_body i) (crc32 (bytes_of (image_body i)) ∷ []) stored.end length_back

  layout_back : layout_in (image_words i) ≡ stored
  layout_back = ap₂ layout_of header_back text_back

  passes_back : Passes (image_words i)
  passes_back =
      record {
        long = omega (arith, counted_back, end_some);
        marked = marked_back;
        inside = rw header_back p.inside;
        few = rw text_back p.few;
        whole = rw layout_back whole_back;
      }
    where
      end_some : 15 ≤ stored.end
      end_some = unfold layout_of in omega arith

  -- the parts
  abbrev front : List ℕ
  front = 1112819533 ∷ 1 ∷ (encode_header i.header ++ (length i.text ∷ packed i.text))

  length_front_is : length front ≡ 15 + (length i.text + 3) / 4
  unfolding encode_header encode_option
  length_front_is = omega (arith, length_packed i.text)

  split_front : image_words i ≡ front ++ behind
  unfolding image_words image_body encode_header encode_option
  split_front = simp append_assoc

  image_back : image_in (image_words i) stored ≡ i
  unfolding image_in layout_of
  image_back =
      let n = length_front_is in
      let x = crc32 (bytes_of (image_body i)) ∷ [] in
      let a = part_of front i.rows (i.sorts ++ (i.pending ++ x)) stored.rows stored.sorts n (ap (λ (m : ℕ). stored.rows + m) p.rows_are) in
      let m : length (front ++ i.rows) ≡ stored.sorts = length-append front i.rows ∙ omega (arith, n, p.rows_are) in
      let b = part_of (front ++ i.rows) i.sorts (i.pending ++ x) stored.sorts stored.pending m (ap (λ (m : ℕ). stored.sorts + m) p.sorts_are) in
      let k : length ((front ++ i.rows) ++ i.sorts) ≡ stored.pending = length-append (front ++ i.rows) i.sorts ∙ omega (arith, m, p.sorts_are) in
      let c = part_of ((front ++ i.rows) ++ i.sorts) i.pending x stored.pending stored.end k (ap (λ (m : ℕ). stored.pending + m) p.pending_are) in
      let e₂ : front ++ behind ≡ (front ++ i.rows) ++ (i.sorts ++ (i.pending ++ x)) = simp append_assoc in
      let e₃ : front ++ behind ≡ ((front ++ i.rows) ++ i.sorts) ++ (i.pending ++ x) = simp append_assoc in
      let rows_are : part (image_words i) stored.rows stored.sorts ≡ i.rows = ap (λ (w : List ℕ). part w stored.rows stored.sorts) split_front ∙ a in
      let sorts_are : part (image_words i) stored.sorts stored.pending ≡ i.sorts = ap (λ (w : List ℕ). part w stored.sorts stored.pending) (split_front ∙ e₂) ∙ b in
      let pending_are : part (image_words i) stored.pending stored.end ≡ i.pending = ap (λ (w : List ℕ). part w stored.pending stored.end) (split_front ∙ e₃) ∙ c in
      λ d. record { header = i.header; text = bytes_back d; rows = rows_are d; sorts = sorts_are d; pending = pending_are d }

module _ (words : List ℕ) (i : Image) (is : is_image i ≡ true) (e : words ≡ image_words i) where
  pub image_passes : Passes words
  image_passes = rw e (passes_back i (image_proper i is))

  pub image_there : i ≡ image_in words (layout_in words)
  image_there =
      let p = image_proper i is in
      rw e (sym (image_back i p) ∙ ap (image_in (image_words i)) (sym (layout_back i p)))
