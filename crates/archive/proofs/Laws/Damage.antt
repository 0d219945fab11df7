-- An image changed within four neighbouring bytes is no image. Assumes nothing.
use Rattle.archive.proofs.Laws.Prelude.{ℕ, zero, suc, ◌≡◌, refl, sym, ap, ◌∙◌, true, List, [], ◌∷◌, ◌++◌, ◌⊎◌, inl, inr, Option, none, some, arith, length, Below, bytes_of_append, bytes_of_below, damage_shows, residue_of_crc, Damaged, damaged, RefusedAsImage}
use Rattle.std.proofs.Math.Option.{Option-elim}
use Rattle.lists.specs.Lists.{flatten}
use Rattle.refusals.specs.Refusals.{reply, outcome}
use Rattle.crc32.specs.Crc.{crc32, bytes_of, word_bytes}
use Rattle.crc32.specs.Laws.Register.{register}
use Rattle.image_spec.specs.Image.{Image, image_body, image_words, is_image, Reads, reads, reads_none}
use Rattle.image_spec.specs.Outcomes.{check_reply, read_refusal, text_refusal, text_of}

-- ---- bytes

below_first : (a b : List ℕ) → Below 256 (a ++ b) → Below 256 a
below_first [] b h i = omega arith
below_first (x ∷ a) b h zero = h 0
below_first (x ∷ a) b h (suc i) = below_first a b (λ k. h (suc k)) i

below_second : (a b : List ℕ) → Below 256 (a ++ b) → Below 256 b
below_second [] b h = h
below_second (x ∷ a) b h = below_second a b (λ k. h (suc k))

-- ---- images

one : (w : ℕ) → bytes_of (w ∷ []) ≡ word_bytes w
unfolding bytes_of word_bytes flatten
one w = refl

-- the register over a whole image is a constant
image_residue : (i : Image) → register (bytes_of (image_words i)) ≡ 3736805603
unfolding image_words
image_residue i =
    let c = crc32 (bytes_of (image_body i)) in
    ap register (bytes_of_append (image_body i) (c ∷ []) ∙ ap (λ (x : List ℕ). bytes_of (image_body i) ++ x) (one c))
    ∙ residue_of_crc (bytes_of (image_body i)) (bytes_of_below (image_body i))

-- words that are read as an image
pub record IsImage (words : List ℕ) (o : Option Image) : Type 0 where
  pub image : Image
  pub is_read : o ≡ some image
  pub passes : is_image image ≡ true
  pub are : words ≡ image_words image

pub read_cases : (words : List ℕ) (o : Option Image) → Reads words o → (o ≡ none) ⊎ IsImage words o
read_cases words (some i) (reads _ p e) = inr (record { image = i; is_read = refl; passes = p; are = e })
read_cases words none (reads_none _) = inl refl

-- damage within four bytes changes the register
damaged_register : (bytes bytes' : List ℕ) → Below 256 bytes → Below 256 bytes' → Damaged bytes bytes' → register bytes ≡ register bytes' → ⊥
damaged_register _ _ k k' (damaged before four four' after long long' differ) e =
    let front = below_first (before ++ four) after k in
    let front' = below_first (before ++ four') after k' in
    differ
    (damage_shows before four four' after (below_first before four front) (below_second before four front)
    (below_second before four' front') (below_second (before ++ four) after k) long long' e)

pub damaged_none : (words words' : List ℕ) (i : Image) → words ≡ image_words i → Damaged (bytes_of words) (bytes_of words')
    → (j : Image) → words' ≡ image_words j → ⊥
damaged_none words words' i e d j f =
    damaged_register (bytes_of words) (bytes_of words') (bytes_of_below words) (bytes_of_below words') d
    (ap (λ (x : List ℕ). register (bytes_of x)) e ∙ image_residue i ∙ sym (ap (λ (x : List ℕ). register (bytes_of x)) f ∙ image_residue j))

-- every function that reads images refuses them
pub no_image_refused : (words : List ℕ) → ((o : Option Image) → Reads words o → o ≡ none) → RefusedAsImage words
unfolding check_reply read_refusal text_refusal Option-elim reply outcome
no_image_refused words never =
    record {
      checked = λ answer m. m.answers ∙ ap (λ (o : Option Image). check_reply o m.decoded.sound) (never _ m.decoded.reads);
      loaded = λ capacity b pending answer b' pending' m.
          m.refusal ∙ ap (λ (o : Option Image). reply (read_refusal o m.decoded.sound capacity b pending) tt) (never _ m.decoded.reads);
      text = λ output answer output' m.
          m.effect.answers ∙ ap (λ (o : Option Image). reply (text_refusal o (length output)) (length (text_of o))) (never _ m.reads);
    }

pub damage_refused : (words words' : List ℕ) (i : Image) → Reads words (some i) → Damaged (bytes_of words) (bytes_of words') → RefusedAsImage words'
damage_refused words words' i r d =
    no_image_refused words'
    (λ o r'. elim (read_cases words' o r') [
      | inl e ↦ e
      | inr k ↦ elim (read_cases words (some i) r) [
        | inl e ↦ absurd (let z : ◌≡◌ {A = ℕ} 0 1 = cc in omega arith)
        | inr j ↦ absurd (damaged_none words words' j.image j.are d k.image k.are)
      ]
    ])
