-- Standard input as the program sees it: what a read returned, the unread bytes of the chunk, and the line so far. That `read`
-- stores the next bytes of the input, as many as it returns, at the start of the chunk is not in its contract and is assumed by no
-- proof; what is stated here is about the bytes in the chunk. Assumes nothing.
use Rattle.std.specs.Prelude.{ℕ, ◌-◌, min, ◌≡◌, ◌⊎◌, false, List, ℤ, pos, negsuc, length, take, drop}
use Rattle.lists.specs.Lists.{elem}
use Rattle.levels_io.specs.declared.input.Input.{Input}

-- the return value of `read` as a number of bytes; a read that fails (-1) returns no byte
abbrev pub bytes_read : ℤ → ℕ
bytes_read (pos count) = count
bytes_read (negsuc error) = 0

-- the bytes of the chunk that are not taken yet
abbrev pub unread : List ℕ → Input → List ℕ
unread chunk input = take (input.end - input.next) (drop input.next chunk)

-- the input is over: the last read returned no byte, or all of 2^64 − 1 reads are made
abbrev pub AtEnd : Input → Type 0
AtEnd input = (bytes_read input.got ≡ 0) ⊎ (input.reads ≡ 0)

-- the bytes so far of a line that has not ended (its newline is 10); the store has as many of them as fit
pub record LineSoFar (bytes line : List ℕ) (count : ℕ) : Type 0 where
  pub no_newline : elem 10 bytes ≡ false
  pub counted : count ≡ min (length line) (length bytes)
  pub kept : take count line ≡ take (length line) bytes
