-- The image of a table: a self-contained sequence of 32-bit words, in a file with the lowest byte of each word first. It has the words
-- of the stores that are in use. The key store is left out and rebuilt when the image is read. Assumes nothing.
use Rattle.std.specs.Prelude.{ℕ, ◌+◌, ◌*◌, ◌/◌, ◌≡◌, Bool, true, not, ◌&&◌, List, [], ◌∷◌, ◌++◌, length, take, leb, ltb, eqb}
use Rattle.std.proofs.Math.Option.{Option, none, some}
use Rattle.lists.specs.Lists.{all}
use Rattle.crc32.specs.Crc.{crc32, bytes_of}
use Rattle.plain_table.specs.Staged.{Staged}
use Rattle.table.specs.declared.Header.{Header}
use Rattle.table.specs.Refusing.{outside}
use Rattle.table.specs.Sound.{SoundContents}
use Rattle.abi.specs.Encoding.{encode_header}

-- What an image holds: a header, a text for its readers, in bytes, and the words of each store that are in use.
pub record Image : Type 0 where
  pub header : Header
  pub text : List ℕ
  pub rows : List ℕ
  pub sorts : List ℕ
  pub pending : List ℕ

-- Bytes as words, four in each, lowest first. The last word is filled up with zeros.
unfoldable pub packed : List ℕ → List ℕ
packed [] = []
packed (a ∷ []) = a ∷ []
packed (a ∷ b ∷ []) = (a + 256 * b) ∷ []
packed (a ∷ b ∷ c ∷ []) = (a + 256 * b + 65536 * c) ∷ []
packed (a ∷ b ∷ c ∷ d ∷ bytes) = (a + 256 * b + 65536 * c + 16777216 * d) ∷ packed bytes

-- The words before the checksum: "MGTB" as bytes, the format's number, the header's twelve words, the text's length in bytes, the
-- text, rows, sort entries, pending words.
unfoldable pub image_body : Image → List ℕ
image_body i =
    1112819533 ∷ 1 ∷ (encode_header i.header ++ (length i.text ∷ (packed i.text ++ (i.rows ++ (i.sorts ++ i.pending)))))

-- The whole image: the last word is the CRC-32 of the bytes before it.
unfoldable pub image_words : Image → List ℕ
image_words i = image_body i ++ (crc32 (bytes_of (image_body i)) ∷ [])

-- The header is within its bounds, the text has at most 4,096 bytes, and each store has as many words as the header has in use.
unfoldable pub is_image : Image → Bool
is_image i =
    not (outside i.header)
    && leb (length i.text) 4096
    && all (λ byte. ltb byte 256) i.text
    && eqb (length i.rows) (i.header.rows * i.header.columns)
    && eqb (length i.sorts) (2 * i.header.entries)
    && eqb (length i.pending) i.header.pending

-- The image that these words encode, or none. Words encode at most one image (law `reads_unique`).
pub data Reads (words : List ℕ) : Option Image → Type 0 where
  reads : (i : Image) → is_image i ≡ true → words ≡ image_words i → Reads words (some i)
  reads_none : ((i : Image) → is_image i ≡ true → words ≡ image_words i → ⊥) → Reads words none

-- An image of a sound table: all that soundness requires of a header, rows, sort entries and pending records.
abbrev pub SoundImage : Image → Type 0
SoundImage i = (staged : List Staged) × SoundContents i.header i.rows i.sorts i.pending staged

-- The image of a table: the words of its stores that are in use, with a text.
abbrev pub image_of : Header → List ℕ → List ℕ → List ℕ → List ℕ → Image
image_of h rows sorts pending text =
    record { header = h; text = text; rows = take (h.rows * h.columns) rows; sorts = take (2 * h.entries) sorts; pending = take h.pending pending }

-- How many words an image has: sixteen besides the text and the words in use.
unfoldable pub image_length : Header → ℕ → ℕ
image_length h text = 16 + (text + 3) / 4 + h.rows * h.columns + 2 * h.entries + h.pending
