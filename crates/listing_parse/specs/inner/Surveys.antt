-- Contracts of the scan of a listing's text. Assumes nothing.
use Rattle.std.specs.Prelude.{ℕ, ◌≤◌, ◌<◌, ◌≡◌, Bool, true, false, cond, List, [], ◌∷◌, length, take, drop, get_or}
use Rattle.listing_spec.specs.Listings.{head_width}
use Rattle.listing_spec.specs.inner.Checking.{pieces, rows_good, lines_to_rows, text_good, listing_in}
use Rattle.listing_parse.specs.declared.Survey.{Survey}

-- how many D lines there are from `start` on; 65,537 if one is wrong or there are too many
pub record Counted (numbered : Bool) (columns count : ℕ) (text : List ℕ) (start rows : ℕ) : Type 0 where
  pub bounded : rows ≤ 65537
  pub wrong : rows ≡ 65537 → rows_good numbered columns count 0 65536 (pieces (drop start text)) ≡ false
  pub right : (rows ≡ 65537 → ⊥) → (rows_good numbered columns count 0 65536 (pieces (drop start text)) ≡ true) × (rows ≡ length (lines_to_rows (pieces (drop start text))))

-- a head line that passes its checks, with its numbers stored; the lines after it are the rows
pub record HeadFound (numbered : Bool) (text : List ℕ) (next : ℕ) (stored : List ℕ) : Type 0 where
  pub inside : next ≤ length text
  pub narrow : (1 ≤ get_or stored 0 0) × (get_or stored 0 0 ≤ 8)
  pub good : text_good numbered text ≡ rows_good numbered (get_or stored 0 0) (cond numbered (get_or stored 5 0) 0) 0 65536 (pieces (drop next text))
  pub head : (listing_in text).head ≡ take (head_width numbered) stored
  pub rows : (listing_in text).rows ≡ lines_to_rows (pieces (drop next text))

pub record HeadAt (numbered : Bool) (text : List ℕ) (next : ℕ) (stored : List ℕ) : Type 0 where
  pub wrong : next ≡ 0 → text_good numbered text ≡ false
  pub found : 0 < next → HeadFound numbered text next stored

-- the head's numbers
unfoldable pub head_of : Bool → Survey → List ℕ
head_of true s = s.columns ∷ s.keys ∷ s.sort ∷ s.rule ∷ s.generation ∷ s.count ∷ []
head_of false s = s.columns ∷ s.keys ∷ s.sort ∷ s.rule ∷ s.generation ∷ []

-- the facts that a survey states of a text of the form
pub record Listed (numbered : Bool) (text : List ℕ) (s : Survey) : Type 0 where
  pub of_form : text_good numbered text ≡ true
  pub narrow : (1 ≤ s.columns) × (s.columns ≤ 8)
  pub few : s.rows ≤ 65536
  pub inside : s.start ≤ length text
  pub head : (listing_in text).head ≡ head_of numbered s
  pub counted : s.rows ≡ length (listing_in text).rows
  pub rows_there : (listing_in text).rows ≡ lines_to_rows (pieces (drop s.start text))
  pub good : rows_good numbered s.columns s.count 0 65536 (pieces (drop s.start text)) ≡ true

pub record Surveyed (numbered : Bool) (text : List ℕ) (s : Survey) : Type 0 where
  pub tested : s.is_listing ≡ text_good numbered text
  pub found : s.is_listing ≡ true → Listed numbered text s
