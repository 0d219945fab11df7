-- A bitmap of 65,536 rows, 64 to a word, its summary, and the contract of a pass that sets bits. Assumes nothing.
use Rattle.std.specs.Prelude.{ℕ, ◌+◌, ◌*◌, ◌/◌, ◌%◌, ◌^◌, ◌<◌, ◌≡◌, Bool, true, false, cond, ◌||◌, List, length, get_or, eqb}
use Rattle.row_buffer.specs.Ranks.{bitmap_word, count_to}

-- exactly the rows that pass the test are set in the first 1,024 words
pub record Bitmap (words : List ℕ) (test : ℕ → Bool) : Type 0 where
  pub long : length words ≡ 1040
  pub marked : (w : ℕ) → w < 1024 → get_or words w 0 ≡ bitmap_word (λ bit. test (64 * w + bit)) 64

unfoldable pub bit_of : ℕ → ℕ → Bool
bit_of word bit = eqb (word / 2 ^ bit % 2) 1

-- the other 16 words have a bit for each of the first: where it is not set, the word is 0
pub record Summarised (words : List ℕ) : Type 0 where
  pub empty : (w : ℕ) → w < 1024 → bit_of (get_or words (1024 + w / 64) 0) (w % 64) ≡ false → get_or words w 0 ≡ 0

-- one more row is set: 1 if it was not set before, else 0
pub record MarkedOne (words : List ℕ) (row : ℕ) (words' : List ℕ) (more : ℕ) : Type 0 where
  pub long : length words' ≡ 1040
  pub summary : Summarised words → Summarised words'
  pub one_more : (test : ℕ → Bool) → Bitmap words test → Bitmap words' (λ i. eqb i row || test i)
  pub new : (test : ℕ → Bool) → Bitmap words test → more ≡ cond (test row) 0 1

-- from one test to another: all needed rows and only allowed rows are added
pub record Added (allowed needed test test' : ℕ → Bool) : Type 0 where
  pub kept : (i : ℕ) → test i ≡ true → test' i ≡ true
  pub allowed_only : (i : ℕ) → test i ≡ false → test' i ≡ true → allowed i ≡ true
  pub all_needed : (i : ℕ) → needed i ≡ true → test' i ≡ true

-- the contract of a pass that sets bits; `more` is the number of newly set rows
pub record Marked (allowed needed : ℕ → Bool) (words words' : List ℕ) (more : ℕ) : Type 0 where
  pub long : length words ≡ 1040 → length words' ≡ 1040
  pub summary : Summarised words → Summarised words'
  pub adds : (test : ℕ → Bool) → Bitmap words test
      → (test' : ℕ → Bool) × Added allowed needed test test' × Bitmap words' test' × (count_to test' 65536 ≡ count_to test 65536 + more)
