-- Archives: tables saved as images and loaded again, into the same stores or others, with the same capacity or another. What is known
-- of saving and loading is what the contracts of `write_image` and `read_image` state. Assumes nothing.
use Rattle.refusals.specs.declared.Refusal.{Refusal}
use Rattle.std.specs.Prelude.{ℕ, ◌≤◌, ◌≡◌, true, List, [], ◌∷◌, ◌++◌, length, take, ltb, Result, Ok}
use Rattle.std.proofs.Math.Option.{some}
use Rattle.lists.specs.Lists.{all, splice}
use Rattle.refusals.specs.Refusals.{check, first_refusal, refused, reply, outcome, Effect}
use Rattle.crc32.specs.Crc.{bytes_of}
use Rattle.plain_table.specs.Staged.{Opening}
use Rattle.plain_table.specs.Plain.{Plain, opened}
use Rattle.plain_table.specs.Calls.{LentCall, after, after_all}
use Rattle.table.specs.declared.Header.{Header}
use Rattle.refusals.specs.Refusals.{answer_view}
use Rattle.table.specs.Outcomes.{Stores, Body, body, body_of, joined, Represents}
use Rattle.image_spec.specs.Image.{Image, image_words, Reads, image_of}
use Rattle.image_spec.specs.Outcomes.{ImageWritten, ImageChecked, ImageRead, TextRead, resized_opening, with_capacity, stores_checks}
use Rattle.history.specs.Histories.{behind, Step, History}
use Rattle.history.specs.Claim.{Claimed}

-- the words that `write_image` wrote of these stores, with a text
pub record Saved (s : Stores) (words : List ℕ) : Type 0 where
  pub text : List ℕ
  pub bytes : all (λ byte. ltb byte 256) text ≡ true
  pub output : List ℕ
  pub output' : List ℕ
  pub count : ℕ
  pub written : ImageWritten s.header s.rows s.sorts s.pending text output (Ok count) output'
  pub image : words ≡ take count output'

-- a plain table with this capacity, or with its own if the number is 0
abbrev pub resized : Plain → ℕ → Plain
resized p capacity =
    record { opening = resized_opening p.opening capacity; generation = p.generation; rows = p.rows; staged = p.staged; largest = p.largest }

-- Loading after saving: refused only with 1, a capacity outside its bounds, or 2, a store too short; otherwise it gives the same
-- plain table, with that capacity.
pub record ReadAfterWrite (p : Plain) (s : Stores) (capacity : ℕ) (b : Body) (pending : List ℕ) (answer : Result Header Refusal) (b' : Body) (pending' : List ℕ) : Type 0 where
  pub refusal : outcome (answer_view answer) ≡ reply (first_refusal (stores_checks s.header capacity b pending)) tt
  pub represents : (h : Header) → answer ≡ Ok h → Represents (resized p capacity) (joined h b' pending')

-- An accepted image is the image of the table that was loaded, with the capacity that the image has and its text. So a table, a text
-- and a capacity have one image. The loaded table is sound, whatever program wrote the image; its generation is a word, hence at
-- most 4294967295.
pub record ImageOfLoaded (words : List ℕ) (h : Header) (b' : Body) (pending' : List ℕ) : Type 0 where
  pub capacity : ℕ
  pub text : List ℕ
  pub bytes : all (λ byte. ltb byte 256) text ≡ true
  pub is : words ≡ image_words (image_of (with_capacity h capacity) b'.rows b'.sorts pending' text)
  pub sound : h.generation ≤ 4294967295 → (p : Plain) × Represents p (joined h b' pending')

-- ---- histories

-- A table saved and loaded: `write_image` is lent all but the cells `rows`, `sorts` and `pending` at the end of these stores;
-- `read_image` is lent a first part of other stores; `rest` and `more` are the cells after it.
pub data Reloaded (capacity : ℕ) : Stores → Stores → Type 0 where
  reloaded : {s t : Stores} (rows sorts pending : List ℕ) (words : List ℕ) → Saved s words
      → (b : Body) (before : List ℕ) → ImageRead words capacity b before (Ok t.header) (body_of t) t.pending
      → (rest : Body) (more : List ℕ)
      → Reloaded capacity (behind s (body rows [] sorts) pending) (behind t rest more)

-- A history in which tables are also saved and loaded: the plain table, of which loading changes only the capacity, and the stores.
pub data Archived : Plain → Stores → Type 0 where
  made : {o : Opening} {generation : ℕ} {calls : List LentCall} {s : Stores} → History o generation calls s
      → Archived (after_all (opened o generation) calls) s
  loads : {p : Plain} {s t : Stores} (capacity : ℕ) → Archived p s → Reloaded capacity s t → Archived (resized p capacity) t
  goes_on : {p : Plain} {c : LentCall} {s t : Stores} → Archived p s → Step s c t → Archived (after p c.lengths c.call) t

-- ---- damage

-- two sequences of bytes that differ, in at most four neighbouring bytes
pub data Damaged : List ℕ → List ℕ → Type 0 where
  damaged : (before four four' after : List ℕ) → length four ≡ 4 → length four' ≡ 4 → (four ≡ four' → ⊥)
      → Damaged (before ++ four ++ after) (before ++ four' ++ after)

-- every function that reads images refuses these words with 19
pub record RefusedAsImage (words : List ℕ) : Type 0 where
  pub checked : (answer : Result Header Refusal) → ImageChecked words answer → answer_view answer ≡ refused 19
  pub loaded : (capacity : ℕ) (b : Body) (pending : List ℕ) (answer : Result Header Refusal) (b' : Body) (pending' : List ℕ)
      → ImageRead words capacity b pending answer b' pending' → outcome (answer_view answer) ≡ refused 19
  pub text : (output : List ℕ) (answer : Result ℕ Refusal) (output' : List ℕ) → TextRead words output answer output' → answer_view answer ≡ refused 19

-- ---- what is guaranteed

pub record Archives : Type 0 where
  pub read_after_write : (p : Plain) (s : Stores) (words : List ℕ) (capacity : ℕ) (b : Body) (pending : List ℕ) (answer : Result Header Refusal) (b' : Body) (pending' : List ℕ)
      → Represents p s → Saved s words → ImageRead words capacity b pending answer b' pending'
      → ReadAfterWrite p s capacity b pending answer b' pending'
  -- The text after saving: refused only with 2, an output too short; otherwise the text is at the start of the output.
  pub text_after_write : (p : Plain) (s : Stores) (words : List ℕ) → Represents p s → (saved : Saved s words)
      → (output : List ℕ) (answer : Result ℕ Refusal) (output' : List ℕ) → TextRead words output answer output'
      → Effect (first_refusal (check (ltb (length output) (length saved.text)) 2 ∷ [])) (answer_view answer) (length saved.text) output output'
      (splice output 0 saved.text)
  pub one_image : (words : List ℕ) (capacity : ℕ) (b : Body) (pending : List ℕ) (h : Header) (b' : Body) (pending' : List ℕ)
      → ImageRead words capacity b pending (Ok h) b' pending' → ImageOfLoaded words h b' pending'
  pub damage_refused : (words words' : List ℕ) (i : Image) → Reads words (some i) → Damaged (bytes_of words) (bytes_of words') → RefusedAsImage words'
  -- the claim of term 3
  pub term_three : (p : Plain) (s : Stores) → Archived p s → Claimed p s
