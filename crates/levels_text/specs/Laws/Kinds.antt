-- The kind that a letter gives. Assumes nothing.
use Rattle.std.specs.Prelude.{ℕ, ◌≡◌, false, Option, Some, None, Result, Ok, Err, refl}
use Rattle.std.proofs.Common.{sym, ap, ◌∙◌, ne_eqb}
use Rattle.std.specs.Result.{result_ok}
use Rattle.std.proofs.lemmas.Option.{none-some, same_Some}
use Rattle.lists.specs.Lists.{elem}
use Rattle.levels_text.specs.declared.kind.Kind.{Kind}
use Rattle.levels_text.specs.declared.kind.Kind.TheVariants.{Open, Insert, RemoveKey, RemoveRow, Merge, Clear, Compact, Range, Version, List, ListNumbered}
use Rattle.levels_text.specs.declared.kind.UnknownLetter.{UnknownLetter}
use Rattle.levels_text.specs.Kinds.{letter_of, Decodes}
use Rattle.levels_text.specs.Lines.{is_form}

pub kind_some : {letter : ℕ} (r : Result Kind UnknownLetter) {kind : Kind} → Decodes letter r → Some kind ≡ result_ok r → letter_of kind ≡ letter
kind_some (Ok k) d e = ap letter_of (same_Some _ _ e) ∙ d
kind_some (Err u) d e = absurd (none-some _ (sym e))

-- no line of such a letter is of a valid form
pub no_kind : (letter : ℕ) (r : Result Kind UnknownLetter) (count : ℕ) → Decodes letter r → ◌≡◌ {A = Option Kind} None (result_ok r) → is_form letter count ≡ false
unfolding is_form elem
no_kind letter (Ok k) count d e = absurd (none-some _ e)
no_kind letter (Err u) count d e =
    let ne : (n : ℕ) (kind : Kind) → letter_of kind ≡ n → letter ≡ n → ⊥ = λ n kind is same. d kind (is ∙ sym same) in
    simp (ne_eqb letter 79 (ne 79 Open refl), ne_eqb letter 73 (ne 73 Insert refl), ne_eqb letter 82 (ne 82 RemoveKey refl), ne_eqb letter 75 (ne 75 RemoveRow refl), ne_eqb letter 70 (ne 70 Range refl), ne_eqb letter 77 (ne 77 Merge refl), ne_eqb letter 86 (ne 86 Version refl), ne_eqb letter 76 (ne 76 List refl), ne_eqb letter 85 (ne 85 ListNumbered refl), ne_eqb letter 67 (ne 67 Clear refl), ne_eqb letter 71 (ne 71 Compact refl))
