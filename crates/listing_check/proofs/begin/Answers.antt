-- `listing_check::begin` meets its contract. Assumes nothing.
use Rattle.listing_check.proofs.Prelude.{sym, ◌∙◌, not-true, not-false}
use Rattle.listing_check.proofs.Steps.{settle, no_listing, unknown, out_of_place, begin}
use Rattle.listing_check.proofs.Risen.{none_misplaced, one_misplaced}
use Rattle.listing_check.proofs.begin.Goals as goal

pub returns-then-not-s : goal.returns-then-not-s
returns-then-not-s c = record {
  begins = λ conditions knows.
      rw c.finished.ensures (settle (no_listing _ conditions _ (sym c.requires.tested ∙ not-true _ c.if-not-s.true)));
}

pub returns-then-not-known : goal.returns-then-not-known
returns-then-not-known c = record {
  begins = λ conditions knows.
      let l = c.requires.found (not-false _ c.if-not-s.false) in
      rw c.finished-then-not-known.ensures (settle (unknown _ conditions _ _ l (sym knows ∙ c.if-not-known.true)));
}

pub returns-in-None : goal.returns-in-None
returns-in-None c = record {
  begins = λ conditions knows.
      let l = c.requires.found (not-false _ c.if-not-s.false) in
      begin _ conditions _ _ l (sym knows ∙ c.if-not-known.false) (none_misplaced _ _ c.first_misplaced.ensures c.in-None.is);
}

pub returns-in-Some : goal.returns-in-Some
returns-in-Some c = record {
  begins = λ conditions knows.
      let l = c.requires.found (not-false _ c.if-not-s.false) in
      rw c.finished-in-Some.ensures
      (settle (out_of_place _ conditions _ _ l (sym knows ∙ c.if-not-known.false) (one_misplaced _ _ c.first_misplaced.ensures _ c.in-Some.is)));
}
