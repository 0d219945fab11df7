-- A text and its lines. Assumes nothing.
use Rattle.std.specs.Prelude.{◌≡◌, ◌∷◌, ◌++◌}
use Rattle.listing_spec.specs.Laws.Prelude.{ℕ, refl, sym, ◌∙◌, inl, inr, false, cond, false≢true, List, [], eqb, eqb-true, eqb-false, ne_eqb, split}
use Rattle.lists.specs.Lists.{elem}
use Rattle.listing_spec.specs.inner.Checking.{longer, pieces, is_nil}

longer_nil : (byte : ℕ) (ps : List (List ℕ)) → is_nil (longer byte ps) ≡ is_nil ps
unfolding longer is_nil
longer_nil byte [] = refl
longer_nil byte (piece ∷ ps) = refl

pub pieces_some : (bytes : List ℕ) → is_nil (pieces bytes) ≡ false
unfolding pieces
pieces_some [] = unfold is_nil in refl
pieces_some (byte ∷ bytes) =
    elim (split (eqb byte 10)) [
      | inl e ↦ rw e (nil_cons [] (pieces bytes))
      | inr e ↦ rw (e, longer_nil byte (pieces bytes)) (pieces_some bytes)
    ]
  where
    nil_cons : (piece : List ℕ) (ps : List (List ℕ)) → is_nil (piece ∷ ps) ≡ false
    nil_cons piece ps = unfold is_nil in refl

-- the text that has these lines
unfoldable pub joined : List (List ℕ) → List ℕ
joined [] = []
joined (piece ∷ rest) = cond (is_nil rest) piece (piece ++ (10 ∷ joined rest))

joined_longer : (byte : ℕ) (ps : List (List ℕ)) → is_nil ps ≡ false → joined (longer byte ps) ≡ byte ∷ joined ps
unfolding joined longer
joined_longer byte [] e = absurd (false≢true (sym e ∙ (unfold is_nil in refl)))
joined_longer byte (piece ∷ rest) e = elim (split (is_nil rest)) [ inl n ↦ rw n | inr n ↦ rw n ]

pub joined_pieces : (text : List ℕ) → joined (pieces text) ≡ text
unfolding joined pieces
joined_pieces [] = unfold is_nil in refl
joined_pieces (byte ∷ bytes) =
    elim (split (eqb byte 10)) [
      | inl e ↦ rw (e, pieces_some bytes, joined_pieces bytes, eqb-true byte 10 e)
      | inr e ↦ rw (e, joined_longer byte (pieces bytes) (pieces_some bytes), joined_pieces bytes)
    ]

-- ---- a line and the bytes after it

has_tail : (x y : ℕ) (f : List ℕ) → elem x (y ∷ f) ≡ false → (eqb y x ≡ false) × (elem x f ≡ false)
unfolding elem
has_tail x y f e =
    elim (split (eqb x y)) [
      | inl p ↦ absurd (false≢true (sym (rw p at e)))
      | inr p ↦ (ne_eqb y x (λ q. eqb-false x y p (sym q)), rw p at e)
    ]

pub pieces_line : (line more : List ℕ) → elem 10 line ≡ false → pieces (line ++ (10 ∷ more)) ≡ line ∷ pieces more
unfolding pieces longer
pieces_line [] more e = refl
pieces_line (byte ∷ line) more e = let t = has_tail 10 byte line e in rw (t.0, pieces_line line more t.1)
