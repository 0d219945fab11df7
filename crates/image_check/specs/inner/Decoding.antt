-- What decoding an image promises. Assumes nothing.
use Rattle.std.specs.Prelude.{ℕ, ◌≡◌, Bool, true, List, Result, Ok, Err}
use Rattle.std.proofs.Math.Option.{some}
use Rattle.refusals.specs.declared.Refusal.{Refusal}
use Rattle.refusals.specs.Refusals.{refused, number}
use Rattle.key_index.specs.Slots.{KeysSound}
use Rattle.sort_entries.specs.inner.Checks.{Decides}
use Rattle.table.specs.Sound.{index_shape_of}
use Rattle.image_spec.specs.Image.{SoundImage}
use Rattle.image_spec.specs.Outcomes.{Decoded, check_reply}
use Rattle.image_check.specs.declared.parse.Layout.{Layout}
use Rattle.image_check.specs.inner.Parsed.{part, image_in, IsAt}

-- the slots lead to exactly the live rows of the image
abbrev pub SlotsBuilt : List ℕ → Layout → List ℕ → Type 0
SlotsBuilt words l slots = KeysSound (index_shape_of l.header) (part words l.rows l.sorts) slots

-- whether the table of an image is sound
pub record ContentsChecked (words : List ℕ) (l : Layout) (r : Bool) (slots : List ℕ) : Type 0 where
  pub decided : Decides (SoundImage (image_in words l)) r
  pub built : r ≡ true → SlotsBuilt words l slots

-- the image of a sound table is at these places
pub record SoundAt (words : List ℕ) (d : Decoded words) (l : Layout) : Type 0 where
  pub there : IsAt words l
  pub image_is : d.image ≡ some (image_in words l)
  pub sound_is : d.sound ≡ true

pub record DecodingIs (words : List ℕ) (r : Result Layout Refusal) (slots : List ℕ) : Type 0 where
  pub decoded : Decoded words
  pub refusal : (refusal : Refusal) → r ≡ Err refusal → check_reply decoded.image decoded.sound ≡ refused (number refusal)
  pub sound_at : (l : Layout) → r ≡ Ok l → SoundAt words decoded l
  pub built : (l : Layout) → r ≡ Ok l → SlotsBuilt words l slots
