-- The turns of a replay: what holds before each request, and that the requests still to come end where all of them do. Assumes
-- nothing.
use Prim.Native.Nat.{ℕ}
use mathlib.Core.Path.{◌≡◌, refl, ◌∙◌}
use mathlib.Core.List.{List, [], ◌∷◌}
use lib.ListN.{length}
use Rattle.replay_frames.specs.Frames.{framed}
use Rattle.replay_frames.specs.Items.{items}
use Rattle.replay_frames.specs.Laws.Frames.{framed_end, framed_next}
use Rattle.plain_table.specs.Refusing.{Lengths}
use Rattle.table.specs.Outcomes.{Stores, CompactionWords}
use Rattle.replay.specs.Encoding.{request_of}
use Rattle.replay.specs.inner.Making.{Made}
use Rattle.replay.specs.Laws.Making.{none_made, made_then}

-- stores keep their lengths
pub lengths_same : {l l' : Lengths} → l'.rows ≡ l.rows → l'.keys ≡ l.keys → l'.sorts ≡ l.sorts → l'.pending ≡ l.pending → l'.live_words ≡ l.live_words → l'.base_words ≡ l.base_words
    → l' ≡ l
lengths_same a b c d e f = λ i. record { rows = a i; keys = b i; sorts = c i; pending = d i; live_words = e i; base_words = f i }

-- before the requests in the words that are left, with stores of these lengths
pub record Going (words : List ℕ) (l l' : Lengths) (s : Stores) (w : CompactionWords) (index : List ℕ) (s' : Stores) (w' : CompactionWords) (index' left : List ℕ) : Type 0 where
  pub same : l' ≡ l
  pub index_same : length index' ≡ length index
  pub rest : (t : Stores) (v : CompactionWords) (i : List ℕ) → Made (framed request_of left) l s' w' index' t v i → Made (framed request_of words) l s w index t v i

module _ {words : List ℕ} {l : Lengths} {s : Stores} {w : CompactionWords} {index : List ℕ} where
  pub going_begin : {left : List ℕ} → left ≡ words → Going words l l s w index s w index left
  going_begin e = record { same = refl; index_same = refl; rest = λ t v i made. rw (← e) made }

  module _ {l' : Lengths} {s' : Stores} {w' : CompactionWords} {index' left : List ℕ} (v : Going words l l' s w index s' w' index' left) where
    -- one request is made
    pub going_again : {l'' : Lengths} {s'' : Stores} {w'' : CompactionWords} {index'' : List ℕ} {item : ℕ × List ℕ} (left' : List ℕ) → items left ≡ item ∷ items left' → l'' ≡ l' → length index'' ≡ length index'
        → Made (request_of item.0 item.1) l' s' w' index' s'' w'' index''
        → Going words l l'' s w index s'' w'' index'' left'
    going_again {l''} {s''} {w''} {index''} {item} left' here lent index-lent one =
        let made : Made (request_of item.0 item.1) l s' w' index' s'' w'' index'' = rw v.same at one in
        record {
          same = lent ∙ v.same;
          index_same = index-lent ∙ v.index_same;
          rest = λ t u i more. v.rest t u i (rw (framed_next request_of left left' here) (made_then made more));
        }

    -- no request is left
    pub going_end : items left ≡ [] → Made (framed request_of words) l s w index s' w' index'
    going_end none = v.rest s' w' index' (none_made l s' w' index' (framed_end request_of left none))
