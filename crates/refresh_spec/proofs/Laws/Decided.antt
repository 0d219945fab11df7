-- Whether an index store is sound is decidable: every quantifier of `IndexSound` is bounded. So each refresh has one of the two
-- kinds that a history has (`history` Laws/Total). Assumes nothing.
use Rattle.refresh_spec.proofs.Laws.Prelude.{ℕ, zero, suc, ◌+◌, ◌*◌, ◌≤◌, ◌<◌, ◌≡◌, sym, ◌∙◌, ◌⊎◌, inl, inr, Bool, true, false, false≢true, List, ℕ_discrete, dec_le, arith, get_or, elem, row_at, split, is_live, Header, rows_seen, columns_named, entries_under, IndexOf, IndexSound}

-- ---- decisions

abbrev Decided : Type 0 → Type 0
Decided A = A ⊎ (A → ⊥)

le_decided : (m n : ℕ) → Decided (m ≤ n)
le_decided m n = elim (dec_le m n) [ yes h ↦ inl h | no h ↦ inr h ]

true_decided : (b : Bool) → Decided (b ≡ true)
true_decided b = elim (split b) [ inl e ↦ inl e | inr e ↦ inr (λ t. false≢true (sym e ∙ t)) ]

false_decided : (b : Bool) → Decided (b ≡ false)
false_decided b = elim (split b) [ inl e ↦ inr (λ f. false≢true (sym f ∙ e)) | inr e ↦ inl e ]

module _ {A B : Type 0} where
  same_decided : (A → B) → (B → A) → Decided A → Decided B
  same_decided to from (inl a) = inl (to a)
  same_decided to from (inr n) = inr (λ b. n (from b))

  both_decided : Decided A → Decided B → Decided (A × B)
  both_decided (inl a) (inl b) = inl (a, b)
  both_decided (inl a) (inr n) = inr (λ p. n p.1)
  both_decided (inr n) d = inr (λ p. n p.0)

  implies_decided : Decided A → Decided B → Decided (A → B)
  implies_decided (inl a) (inl b) = inl (λ _. b)
  implies_decided (inl a) (inr n) = inr (λ f. n (f a))
  implies_decided (inr n) d = inl (λ a. absurd (n a))

-- for all numbers below n
all_decided : (P : ℕ → Type 0) → ((i : ℕ) → Decided (P i)) → (n : ℕ) → Decided ((i : ℕ) → i < n → P i)
all_decided P d zero = inl (λ i h. absurd (omega arith))
all_decided P d (suc n) = same_decided to from (both_decided (all_decided P d n) (d n))
  where
    to : ((i : ℕ) → i < n → P i) × P n → (i : ℕ) → i < suc n → P i
    to f i h = elim (ℕ_discrete i n) [ yes e ↦ rw e f.1 | no e ↦ f.0 i (omega arith) ]

    from : ((i : ℕ) → i < suc n → P i) → ((i : ℕ) → i < n → P i) × P n
    from f = (λ i h. f i (omega arith), f n (omega arith))

-- ---- an index store

module _ (h : Header) (rows index : List ℕ) where
  -- the entry of a row and a place is in the bucket of the value there
  abbrev Entered : ℕ → ℕ → Type 0
  Entered row place =
      elem (row * columns_named index + place) (entries_under h.capacity index (get_or (row_at h.columns row rows) (get_or index (4 + place) 0) 0)) ≡ true

  abbrev AllEntered : Type 0
  AllEntered = (row : ℕ) → row < rows_seen index → is_live (row_at h.columns row rows) ≡ true → (place : ℕ) → place < columns_named index → Entered row place

  entered_decided : Decided AllEntered
  entered_decided =
      all_decided (λ row. is_live (row_at h.columns row rows) ≡ true → (place : ℕ) → place < columns_named index → Entered row place)
      (λ row. implies_decided (true_decided _) (all_decided (Entered row) (λ place. true_decided _) (columns_named index)))
      (rows_seen index)

  index_of_decided : Decided (IndexOf h rows index)
  index_of_decided =
      same_decided
      (λ p. record { seen = p.0; buckets_few = p.1.0; listed = λ row place below live there. p.1.1 row below live place there })
      (λ o. (o.seen, (o.buckets_few, λ row below live place there. o.listed row place below live there)))
      (both_decided (le_decided _ _) (both_decided (le_decided _ _) entered_decided))

pub index_decided : (h : Header) (rows columns index : List ℕ) → IndexSound h rows columns index ⊎ (IndexSound h rows columns index → ⊥)
index_decided h rows columns index =
    implies_decided (le_decided _ _) (implies_decided (false_decided _) (implies_decided (false_decided _) (index_of_decided h rows index)))
