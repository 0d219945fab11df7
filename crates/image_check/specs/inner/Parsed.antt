-- What parsing an image promises: the tests that words pass, and the places of the parts. Assumes nothing.
use Rattle.std.specs.Prelude.{ℕ, ◌+◌, ◌-◌, ◌*◌, ◌/◌, ◌≤◌, ◌<◌, ◌≡◌, false, List, Option, MatchOption, length, take, drop, get_or}
use Rattle.std.proofs.Math.Option.{none, some}
use Rattle.crc32.specs.Crc.{crc32, bytes_of}
use Rattle.table.specs.declared.Header.{Header}
use Rattle.table.specs.Refusing.{outside}
use Rattle.abi.specs.Encoding.{decode_header}
use Rattle.image_spec.specs.Image.{Image, packed, Reads}
use Rattle.image_check.specs.declared.parse.Layout.{Layout}

-- ---- the parts

-- the header that words 2 to 13 encode
unfoldable pub header_in : List ℕ → Header
header_in words = decode_header (drop 2 words)

-- the places of the parts of an image with this header and a text of so many bytes
unfoldable pub layout_of : Header → ℕ → Layout
layout_of h text =
    record {
      header = h;
      text = text;
      rows = 15 + (text + 3) / 4;
      sorts = 15 + (text + 3) / 4 + h.rows * h.columns;
      pending = 15 + (text + 3) / 4 + h.rows * h.columns + 2 * h.entries;
      end = 15 + (text + 3) / 4 + h.rows * h.columns + 2 * h.entries + h.pending;
    }

-- the parts follow one another
pub record Placed (l : Layout) : Type 0 where
  pub inside : outside l.header ≡ false
  pub few : l.text ≤ 4096
  pub rows_at : l.rows ≡ 15 + (l.text + 3) / 4
  pub sorts_at : l.sorts ≡ l.rows + l.header.rows * l.header.columns
  pub pending_at : l.pending ≡ l.sorts + 2 * l.header.entries
  pub end_at : l.end ≡ l.pending + l.header.pending

-- the words from one place to another
abbrev pub part : List ℕ → ℕ → ℕ → List ℕ
part words from to = take (to - from) (drop from words)

-- the image whose parts are at these places
unfoldable pub image_in : List ℕ → Layout → Image
image_in words l =
    record {
      header = l.header;
      text = take l.text (bytes_of (drop 15 words));
      rows = part words l.rows l.sorts;
      sorts = part words l.sorts l.pending;
      pending = part words l.pending l.end;
    }

-- ---- the tests

-- each number is a 32-bit word
abbrev pub Words : List ℕ → Type 0
Words ws = (i : ℕ) → get_or ws i 0 < 4294967296

-- magic number and format, and no value beside a flag 0
pub record Marked (words : List ℕ) : Type 0 where
  pub magic : get_or words 0 0 ≡ 1112819533
  pub format : get_or words 1 0 ≡ 1
  pub no_value : get_or words 12 0 ≡ 0 → get_or words 13 0 ≡ 0

-- the words of a text of n bytes begin these words: the last of them is filled up with zeros
abbrev pub Filled : List ℕ → ℕ → Type 0
Filled ws n = packed (take n (bytes_of ws)) ≡ take ((n + 3) / 4) ws

-- words hold the words of a text
pub record Measured (words : List ℕ) (text : ℕ) : Type 0 where
  pub words_are : Words words
  pub few : text ≤ 4096
  pub long : 15 + (text + 3) / 4 < length words

-- as many words as the layout has, the text's last word filled up, and the checksum right
pub record Whole (words : List ℕ) (l : Layout) : Type 0 where
  pub counted : length words ≡ l.end + 1
  pub filled : Filled (drop 15 words) l.text
  pub checked : get_or words l.end 0 ≡ crc32 (bytes_of (take l.end words))

-- all tests
pub record Passes (words : List ℕ) : Type 0 where
  pub long : 16 ≤ length words
  pub marked : Marked words
  pub inside : outside (header_in words) ≡ false
  pub few : get_or words 14 0 ≤ 4096
  pub whole : Whole words (layout_of (header_in words) (get_or words 14 0))

-- ---- the answer

-- words are the image whose parts are at these places
pub record IsAt (words : List ℕ) (l : Layout) : Type 0 where
  pub placed : Placed l
  pub counted : length words ≡ l.end + 1
  pub reads : Reads words (some (image_in words l))

abbrev pub ParsedIs : List ℕ → Option Layout → Type 0
ParsedIs words r = MatchOption r (Reads words none) (λ l. IsAt words l)
