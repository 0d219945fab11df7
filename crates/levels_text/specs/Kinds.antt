-- The letter of each kind of line. Assumes nothing.
use Rattle.std.specs.Prelude.{ℕ, ◌≡◌, Result, MatchResult}
use Rattle.levels_text.specs.declared.kind.Kind.{Kind}
use Rattle.levels_text.specs.declared.kind.Kind.TheVariants.{Open, Insert, RemoveKey, RemoveRow, Merge, Clear, Compact, Range, Version, List, ListNumbered}
use Rattle.levels_text.specs.declared.kind.UnknownLetter.{UnknownLetter}

abbrev pub letter_of : Kind → ℕ
letter_of Open = 79
letter_of Insert = 73
letter_of RemoveKey = 82
letter_of RemoveRow = 75
letter_of Merge = 77
letter_of Clear = 67
letter_of Compact = 71
letter_of Range = 70
letter_of Version = 86
letter_of List = 76
letter_of ListNumbered = 85

-- the kind with this letter, or an error if no kind has it
abbrev pub Decodes : ℕ → Result Kind UnknownLetter → Type 0
Decodes letter r = MatchResult r (λ kind. letter_of kind ≡ letter) (λ e. (kind : Kind) → letter_of kind ≡ letter → ⊥)
