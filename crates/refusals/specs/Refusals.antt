-- Refusals: "a refusal gives its number". An operation has a list of checks, in the paper's order; the first that applies gives the
-- number. Assumes nothing.
use Rattle.std.specs.Prelude.{ℕ, zero, suc, ◌<◌, ◌≡◌, Bool, cond, List, [], ◌∷◌, Result, Ok, Err, Option as Optional, Some, None}
use Rattle.std.proofs.Math.Option.{Option, none, some}
use Rattle.refusals.specs.declared.Refusal.{Refusal}
use Rattle.refusals.specs.declared.Refusal.TheVariants.{OutOfBounds, TooShort, WrongWidth, MalformedSubset, PastTheRows, NoSuchColumn, PendingFull, OldSortValue, LastGeneration, NoListing, TooManyColumns, BrokenRow, PairCount, UnknownSequence, PastTheLast, MissingRow, OldNote, NoImage, UnsoundImage, TextTooLong}

-- a check: whether it applies, and its number
pub data Check : Type 0 where
  check : Bool → ℕ → Check

-- the number of the first check that applies, 0 if none does
unfoldable pub first_refusal : List Check → ℕ
first_refusal [] = 0
first_refusal (check applies number ∷ checks) = cond applies number (first_refusal checks)

-- the reply of an operation: the number of its refusal, or a value
pub data Reply (A : Type 0) : Type 0 where
  refused : ℕ → Reply A
  accepted : A → Reply A

-- refused with the number if it is not 0, else accepted with the value
unfoldable pub reply : {A : Type 0} → ℕ → A → Reply A
reply zero value = accepted value
reply (suc n) value = refused (suc n)

-- a reply without its value: whether it is refused, and with which number (`Unit {0}` is the type whose only value is `tt`)
unfoldable pub outcome : {A : Type 0} → Reply A → Reply (Unit {0})
outcome (refused n) = refused n
outcome (accepted value) = accepted tt

-- f of the value if the reply is accepted, `other` if it is refused
unfoldable pub if_accepted : {A B : Type 0} → Reply A → (A → B) → B → B
if_accepted (refused n) f other = other
if_accepted (accepted value) f other = f value

-- The effect of a call that writes one lent store. If `refusal` is not 0, the call answers this number and the store is unchanged. If
-- it is 0, the call answers `value` and the store holds `after`.
pub record Effect {A B : Type 0} (refusal : ℕ) (answer : Reply A) (value : A) (store store' after : B) : Type 0 where
  pub answers : answer ≡ reply refusal value
  pub unchanged : 0 < refusal → store' ≡ store
  pub written : refusal ≡ 0 → store' ≡ after

-- the number of each refusal
abbrev pub number : Refusal → ℕ
number OutOfBounds = 1
number TooShort = 2
number WrongWidth = 3
number MalformedSubset = 4
number PastTheRows = 5
number NoSuchColumn = 6
number PendingFull = 7
number OldSortValue = 9
number LastGeneration = 10
number NoListing = 11
number TooManyColumns = 12
number BrokenRow = 13
number PairCount = 14
number UnknownSequence = 15
number PastTheLast = 16
number MissingRow = 17
number OldNote = 18
number NoImage = 19
number UnsoundImage = 20
number TextTooLong = 21

-- the number of a result's refusal, 0 if it has none
abbrev pub refusal_number : {A : Type 0} → Result A Refusal → ℕ
refusal_number (Ok value) = 0
refusal_number (Err refusal) = number refusal

-- the reply that a result is
unfoldable pub answer_view : {A : Type 0} → Result A Refusal → Reply A
answer_view (Ok value) = accepted value
answer_view (Err refusal) = refused (number refusal)

-- the same for a result whose value may be absent
unfoldable pub found_view : {A : Type 0} → Result (Optional A) Refusal → Reply (Option A)
found_view (Ok None) = accepted none
found_view (Ok (Some value)) = accepted (some value)
found_view (Err refusal) = refused (number refusal)
