-- The contracts of the functions that size, write, check and read images: the answer and every lent cell, accepted or refused. A store
-- without a primed name is lent shared and does not change. New refusals: 19, words that are no image (the first word, the format's
-- number, the length or the checksum is wrong; a number of the header is outside its bounds; the flag of the largest value is above 1, or
-- is 0 while the value is not 0; the text is too long, or a byte after it is not 0); 20, an image of a table that is not sound; 21, a
-- text to be written of more than 4,096 bytes. Assumes nothing.
use Rattle.refusals.specs.declared.Refusal.{Refusal}
use Rattle.std.specs.Prelude.{ℕ, ◌*◌, ◌<◌, ◌≡◌, Bool, true, false, cond, not, ◌||◌, List, [], ◌∷◌, length, ltb, eqb, Result}
use Rattle.std.proofs.Math.Option.{Option, some, Option-elim}
use Rattle.lists.specs.Lists.{splice}
use Rattle.refusals.specs.Refusals.{Check, check, first_refusal, Reply, refused, accepted, reply, outcome, answer_view, Effect}
use Rattle.key_index.specs.Slots.{KeysSound}
use Rattle.plain_table.specs.Staged.{Opening}
use Rattle.plain_table.specs.Refusing.{stores_short}
use Rattle.table.specs.declared.Header.{Header}
use Rattle.table.specs.Numbers.{opening_of, header}
use Rattle.table.specs.Refusing.{outside, pending_outside, rows_short, pairs_short}
use Rattle.table.specs.Sound.{index_shape_of}
use Rattle.table.specs.Outcomes.{Body, lengths, SamePast}
use Rattle.image_spec.specs.Image.{Image, image_words, Reads, SoundImage, image_of, image_length}

-- ---- sizes and writing

-- *Image size*: 1, 21
pub record ImageSized (h : Header) (text : ℕ) (answer : Result ℕ Refusal) : Type 0 where
  pub answers : answer_view answer ≡ reply (first_refusal (check (outside h) 1 ∷ check (ltb 4096 text) 21 ∷ [])) (image_length h text)

-- *Write image*: 1, 2, 21; "2 again" for an output shorter than the image
unfoldable pub write_refusal : Header → ℕ → ℕ → ℕ → ℕ → ℕ → ℕ
write_refusal h rows sorts pending text output =
    first_refusal
    (check (pending_outside h pending) 1
    ∷ check (rows_short h rows || pairs_short h sorts) 2
    ∷ check (ltb 4096 text) 21
    ∷ check (ltb output (image_length h text)) 2
    ∷ [])

-- lent rows, sort entries, pending and a text; the image is at the start of the output, and cells past it are unchanged
pub record ImageWritten (h : Header) (rows sorts pending text output : List ℕ) (answer : Result ℕ Refusal) (output' : List ℕ) : Type 0 where
  pub effect : Effect (write_refusal h (length rows) (length sorts) (length pending) (length text) (length output)) (answer_view answer)
      (image_length h (length text)) output output' (splice output 0 (image_words (image_of h rows sorts pending text)))

-- ---- checking and reading

-- the image that these words encode, and whether its table is sound; without an image `sound` may be either
pub record Decoded (words : List ℕ) : Type 0 where
  pub image : Option Image
  pub reads : Reads words image
  pub sound : Bool
  pub if_sound : sound ≡ true → (i : Image) → image ≡ some i → SoundImage i
  pub if_unsound : sound ≡ false → (i : Image) → image ≡ some i → SoundImage i → ⊥

-- an opening with this capacity, or with its own if the number is 0
abbrev pub resized_opening : Opening → ℕ → Opening
resized_opening o capacity =
    record { columns = o.columns; keys = o.keys; sort = o.sort; rule = o.rule; capacity = cond (eqb capacity 0) o.capacity capacity }

-- the header of a table that is read: the image's, with this capacity
abbrev pub with_capacity : Header → ℕ → Header
with_capacity h capacity = header (resized_opening (opening_of h) capacity) h.rows h.dead h.entries h.pending h.generation h.largest

-- *Check image*: 19, 20; else the image's header
unfoldable pub check_reply : Option Image → Bool → Reply Header
check_reply image sound = Option-elim image (refused 19) (λ i. reply (first_refusal (check (not sound) 20 ∷ [])) i.header)

pub record ImageChecked (words : List ℕ) (answer : Result Header Refusal) : Type 0 where
  pub decoded : Decoded words
  pub answers : answer_view answer ≡ check_reply decoded.image decoded.sound

-- 1 for a capacity outside its bounds or below the row count; 2 for a store shorter than needed
abbrev pub stores_checks : Header → ℕ → Body → List ℕ → List Check
stores_checks h capacity b pending =
    check (outside (with_capacity h capacity)) 1
    ∷ check (stores_short (opening_of (with_capacity h capacity)) (lengths b.rows b.keys b.sorts pending [] []) || ltb (length pending) h.pending) 2
    ∷ []

-- *Read image*: 19, 20, then those of the caller's capacity and stores
unfoldable pub read_refusal : Option Image → Bool → ℕ → Body → List ℕ → ℕ
read_refusal image sound capacity b pending =
    Option-elim image 19 (λ i. first_refusal (check (not sound) 20 ∷ stores_checks i.header capacity b pending))

-- The stores begin with the image's words, and cells past them are unchanged. The key store is sound; its slots are the program's
-- choice.
pub record Loaded (i : Image) (capacity : ℕ) (b : Body) (pending : List ℕ) (answer : Result Header Refusal) (b' : Body) (pending' : List ℕ) : Type 0 where
  pub answers : answer_view answer ≡ accepted (with_capacity i.header capacity)
  pub rows_after : b'.rows ≡ splice b.rows 0 i.rows
  pub sorts_after : b'.sorts ≡ splice b.sorts 0 i.sorts
  pub pending_after : pending' ≡ splice pending 0 i.pending
  pub keys_sound : KeysSound (index_shape_of (with_capacity i.header capacity)) b'.rows b'.keys
  pub past : SamePast (2 * (with_capacity i.header capacity).capacity) b.keys b'.keys
  pub slots : length b'.keys ≡ length b.keys

pub record ImageRead (words : List ℕ) (capacity : ℕ) (b : Body) (pending : List ℕ) (answer : Result Header Refusal) (b' : Body) (pending' : List ℕ) : Type 0 where
  pub decoded : Decoded words
  pub refusal : outcome (answer_view answer) ≡ reply (read_refusal decoded.image decoded.sound capacity b pending) tt
  pub unchanged : 0 < read_refusal decoded.image decoded.sound capacity b pending → (b' ≡ b) × (pending' ≡ pending)
  pub loaded : (i : Image) → decoded.image ≡ some i → read_refusal decoded.image decoded.sound capacity b pending ≡ 0
      → Loaded i capacity b pending answer b' pending'

-- *Read text*: 19; 2 for an output shorter than the text; else the text's bytes at the start of the output. The text of an image of an
-- unsound table can be read too.
unfoldable pub text_refusal : Option Image → ℕ → ℕ
text_refusal image output = Option-elim image 19 (λ i. first_refusal (check (ltb output (length i.text)) 2 ∷ []))

unfoldable pub text_of : Option Image → List ℕ
text_of image = Option-elim image [] (λ i. i.text)

pub record TextRead (words output : List ℕ) (answer : Result ℕ Refusal) (output' : List ℕ) : Type 0 where
  pub image : Option Image
  pub reads : Reads words image
  pub effect : Effect (text_refusal image (length output)) (answer_view answer) (length (text_of image)) output output' (splice output 0 (text_of image))
