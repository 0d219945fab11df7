-- Decoding a header inverts its encoding, a subset answer decodes to the subset that it is, and a flag above 1 is refused. Assumes
-- nothing.
use Rattle.std.specs.Prelude.{ℕ, ◌<◌, ◌≡◌, refl, Bool, true, false, List, get_or, Option, None, Some, Result, Ok, Err, IfOk, IfErr, IsOkAnd, MatchResult}
use Rattle.std.proofs.Common.{ap, ◌∙◌}
use Rattle.std.proofs.Math.Option.{Option-elim}
use Rattle.std.proofs.lemmas.Bool.{lt-leb}
use Rattle.refusals.specs.declared.Refusal.{Refusal}
use Rattle.refusals.specs.Refusals.{Reply, refused, accepted, if_accepted, number, answer_view, found_view}
use Rattle.plain_table.specs.Staged.{Opening, openable}
use Rattle.table.specs.declared.Header.{Header}
use Rattle.sort_entries.specs.declared.Range.{Range}
use Rattle.table.specs.Numbers.{opening_of, largest_view, range_view, header}
use Rattle.table.specs.Refusing.{outside}
use Rattle.abi.specs.Encoding.{SubsetHead, decode_largest, decode_columns, decode_header, decode_subset, encode_option, encode_header, encode_subset, encode_range, range_of, returned, Stored, Answers}

-- by cases of the largest sort value
numbers_decoded : (o : Opening) (rows dead entries pending generation : ℕ) (l : Option ℕ)
    → decode_header (encode_header (header o rows dead entries pending generation l)) ≡ header o rows dead entries pending generation l
unfolding decode_header encode_header encode_option largest_view decode_largest decode_columns Option-elim
numbers_decoded o rows dead entries pending generation None = refl
numbers_decoded o rows dead entries pending generation (Some v) = refl

pub header_decoded : (h : Header) → decode_header (encode_header h) ≡ h
header_decoded h = numbers_decoded (opening_of h) h.rows h.dead h.entries h.pending h.generation h.largest

-- a flag above 1 fails check 1
pub flag_refused : (words : List ℕ) → 1 < get_or words 10 0 → outside (decode_header words) ≡ true
unfolding decode_header decode_columns outside openable
flag_refused words h = rw (lt-leb (get_or words 10 0) 1 h)

-- an answer can be passed on as the next argument
dense_decoded : (dense : Bool) (start end : ℕ) → decode_subset (encode_subset (record { dense = dense; start = start; end = end })) ≡ record { dense = dense; start = start; end = end }
unfolding encode_subset
dense_decoded true start end = refl
dense_decoded false start end = refl

pub subset_decoded : (s : SubsetHead) → decode_subset (encode_subset s) ≡ s
subset_decoded s = dense_decoded s.dense s.start s.end

-- what is stored for an answer, by cases of the answer
pub stored_as : {R A : Type 0} {view : R → Reply A} {encode : A → List ℕ} {answer a : R} {words : List ℕ} {r : ℕ} {words' : List ℕ}
    → answer ≡ a → r ≡ returned (view a) → words' ≡ if_accepted (view a) encode words → Stored view encode answer words r words'
stored_as e p q = rw e record { returns = p; stores = q }

found_value : (v : Option ℕ) → found_view (Ok v) ≡ accepted (largest_view v)
unfolding found_view largest_view
found_value None = refl
found_value (Some n) = refl

range_value : (v : Option Range) → range_view (Ok v) ≡ accepted (range_of v)
unfolding range_view range_of
range_value None = refl
range_value (Some r) = refl

-- what `store` stores for a result, in the words of its view
module _ {words : List ℕ} {r : ℕ} {words' : List ℕ} where
  -- `of` gives the value that a view has for a result's
  pub stored_result : {T A : Type 0} {view : Result T Refusal → Reply A} {encode : A → List ℕ} (of : T → A) → ((v : T) → view (Ok v) ≡ accepted (of v))
      → ((refusal : Refusal) → view (Err refusal) ≡ refused (number refusal)) → (answer : Result T Refusal) → IfErr answer (λ refusal. (r ≡ number refusal) × (words' ≡ words))
      → IfOk answer (λ v. (r ≡ 0) × (words' ≡ encode (of v))) → Stored view encode answer words r words'
  unfolding returned if_accepted
  stored_result of ok err (Ok v) n y = record { returns = rw (ok v) y.0; stores = rw (ok v) y.1 }
  stored_result of ok err (Err refusal) n y = record { returns = rw (err refusal) n.0; stores = rw (err refusal) n.1 }

  pub stored_answer : {A : Type 0} {encode : A → List ℕ} (answer : Result A Refusal) → IfErr answer (λ refusal. (r ≡ number refusal) × (words' ≡ words))
      → IfOk answer (λ v. (r ≡ 0) × (words' ≡ encode v)) → Stored answer_view encode answer words r words'
  unfolding answer_view
  stored_answer answer n y = stored_result (λ v. v) (λ v. refl) (λ r. refl) answer n y

  pub stored_found : (answer : Result (Option ℕ) Refusal) → IfErr answer (λ refusal. (r ≡ number refusal) × (words' ≡ words))
      → IfOk answer (λ v. (r ≡ 0) × (words' ≡ encode_option (largest_view v))) → Stored found_view encode_option answer words r words'
  unfolding found_view
  stored_found answer n y = stored_result largest_view found_value (λ r. refl) answer n y

  pub stored_range : (answer : Result (Option Range) Refusal) → IfErr answer (λ refusal. (r ≡ number refusal) × (words' ≡ words))
      → IfOk answer (λ v. (r ≡ 0) × (words' ≡ encode_range (range_of v))) → Stored range_view encode_range answer words r words'
  unfolding range_view
  stored_range answer n y = stored_result range_of range_value (λ r. refl) answer n y

-- what `store` stores for a part of a result's value, which a closure takes from it
pub stored_mapped : {T U : Type 0} {Gives : T → U → Type 0} {encode : U → List ℕ} {words : List ℕ} {r : ℕ} {words' : List ℕ} (of : T → U) → ((v : T) (part : U) → Gives v part → part ≡ of v) → (answer : Result T Refusal) (mapped : Result U Refusal)
    → MatchResult answer (λ v. IsOkAnd mapped (λ part. Gives v part)) (λ refusal. mapped ≡ Err refusal) → Stored answer_view encode mapped words r words' → Stored answer_view (λ v. encode (of v)) answer words r words'
unfolding answer_view returned if_accepted
stored_mapped {encode = encode} of gives (Ok v) (Ok part) e s = record { returns = s.returns; stores = s.stores ∙ ap encode (gives v part e) }
stored_mapped of gives (Ok v) (Err refusal) e s = absurd e
stored_mapped of gives (Err refusal) (Ok part) e s = record { returns = cc; stores = cc }
stored_mapped of gives (Err refusal) (Err other) e s = let same : other ≡ refusal = cc in record { returns = s.returns ∙ ap number same; stores = s.stores }

-- the contract of a C function, for this answer
pub answers : {R A : Type 0} {contract : R → Type 0} {view : R → Reply A} {encode : A → List ℕ} {answer : R} {words : List ℕ} {r : ℕ} {words' : List ℕ}
    → contract answer → Stored view encode answer words r words' → Answers contract view encode words r words'
answers {answer = answer} p s = record { answer = answer; contract_met = p; stores = s }
