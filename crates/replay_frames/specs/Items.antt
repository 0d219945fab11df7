-- The items of a list of words, as `Frames` yields them. Assumes nothing.
use Rattle.std.specs.Prelude.{ℕ, List, [], ◌∷◌}
use Rattle.replay_frames.specs.declared.Frame.{Frame}
use Rattle.replay_frames.specs.declared.Frames.{Frames}
use Rattle.replay_frames.specs.Frames.{framed}

-- an item is its kind and its words
abbrev pub item_of : Frame → ℕ × List ℕ
item_of frame = (frame.kind, frame.words.now)

abbrev pub items : List ℕ → List (ℕ × List ℕ)
items words = framed (λ kind words. (kind, words) ∷ []) words

-- the items that are left
abbrev pub items_left : Frames → List (ℕ × List ℕ)
items_left frames = items (frames.0).now
