-- The lines that `levels` writes (document 01, "The program `levels`"): a letter and comma-separated decimals, as it reads them.
-- Bytes are numbers, in ASCII. Assumes nothing.
use Rattle.std.specs.Prelude.{ℕ, zero, suc, ◌+◌, ◌/◌, ◌%◌, cond, List, [], ◌∷◌, ◌++◌, map, ltb}
use Rattle.lists.specs.Lists.{flatten}

-- the digits of a number, at most this many, "without leading zeros"
unfoldable pub digits_in : ℕ → ℕ → List ℕ
digits_in zero n = []
digits_in (suc places) n = cond (ltb n 10) ((48 + n) ∷ []) (digits_in places (n / 10) ++ ((48 + n % 10) ∷ []))

-- "decimals up to 4294967295" have at most ten digits
unfoldable pub decimal : ℕ → List ℕ
decimal n = digits_in 10 n

-- a number as a field after others: a comma and its digits
unfoldable pub field : ℕ → List ℕ
field n = 44 ∷ decimal n

-- a letter, numbers, and the newline
unfoldable pub text_line : ℕ → List ℕ → List ℕ
text_line letter numbers = letter ∷ (flatten (map field numbers) ++ (10 ∷ []))
