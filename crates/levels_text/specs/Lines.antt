-- The lines that `levels` reads (document 01, "The program `levels`"): a letter and comma-separated decimals. Bytes are numbers, in
-- ASCII. Assumes nothing.
use Rattle.std.specs.Prelude.{ℕ, ◌+◌, ◌-◌, ◌*◌, Bool, cond, not, ◌&&◌, ◌||◌, List, [], ◌∷◌, map, length, get_or, drop, leb, ltb, eqb}
use Rattle.lists.specs.Lists.{all, elem}

-- adds a byte at the front of the first of these texts
unfoldable pub prepend_to_first : ℕ → List (List ℕ) → List (List ℕ)
prepend_to_first byte [] = (byte ∷ []) ∷ []
prepend_to_first byte (text ∷ texts) = (byte ∷ text) ∷ texts

-- "comma-parted fields": the bytes before, between and after the commas
unfoldable pub fields : List ℕ → List (List ℕ)
fields [] = [] ∷ []
fields (byte ∷ bytes) = cond (eqb byte 44) ([] ∷ fields bytes) (prepend_to_first byte (fields bytes))

-- the value of digits, given the value of the digits before them
unfoldable pub value_from : ℕ → List ℕ → ℕ
value_from n [] = n
value_from n (digit ∷ digits) = value_from (10 * n + (digit - 48)) digits

-- "decimals up to 4294967295 without leading zeros"
unfoldable pub is_decimal : List ℕ → Bool
is_decimal field =
    all (λ byte. leb 48 byte && leb byte 57) field
    && ltb 0 (length field)
    && (eqb (length field) 1 || not (eqb (get_or field 0 0) 48))
    && leb (value_from 0 field) 4294967295

-- a letter and decimals, "at most 120 characters"
unfoldable pub is_line : List ℕ → Bool
is_line bytes = leb (length bytes) 120 && eqb (length (get_or (fields bytes) 0 [])) 1 && all is_decimal (drop 1 (fields bytes))

-- the letter and the numbers of a line
unfoldable pub letter : List ℕ → ℕ
letter bytes = get_or bytes 0 0

unfoldable pub numbers : List ℕ → List ℕ
numbers bytes = map (value_from 0) (drop 1 (fields bytes))

-- the valid forms: how many numbers O (79), I (73), R (82), K (75) and F (70) have; M (77), V (86), L (76), U (85; document 02,
-- change 11), C (67) and G (71) have none
unfoldable pub is_form : ℕ → ℕ → Bool
is_form letter count =
    cond (eqb letter 79) (eqb count 6)
    (cond (eqb letter 73 || eqb letter 82) (leb 1 count)
    (cond (eqb letter 75) (leb 2 count)
    (cond (eqb letter 70) (eqb count 3)
    (elem letter (77 ∷ 86 ∷ 76 ∷ 85 ∷ 67 ∷ 71 ∷ []) && eqb count 0))))

-- "a line not of these forms" is refused with 11
unfoldable pub of_forms : List ℕ → Bool
of_forms bytes = is_line bytes && is_form (letter bytes) (length (numbers bytes))
