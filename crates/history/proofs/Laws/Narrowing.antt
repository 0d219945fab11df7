-- The ids that accepted queries leave: how they start, how each query changes them, and that they end as the wanted ids. Assumes
-- nothing.
use Rattle.history.proofs.Laws.Prelude.{ℕ, ◌<◌, ◌≡◌, refl, sym, ap, ◌∙◌, inl, inr, Bool, true, false, ◌&&◌, ◌||◌, and-true, and-false, false≢true, List, [], ◌∷◌, ◌++◌, ltb, ltb-true, lt-ltb, split, and_left, and_right, or_second, rising_filter, rising_ext, elem_filter, is_live, Stores, Query, refines}
use Rattle.lists.specs.Lists.{filter, all, any, rising, elem, row_at}
use Rattle.history.specs.Claim.{satisfies, wanted}

-- ---- tests of an id

-- a live row
unfoldable pub alive : Stores → ℕ → Bool
alive s id = ltb id s.header.rows && is_live (row_at s.header.columns id s.rows)

-- the row satisfies all accepted queries
unfoldable pub fits : Stores → List Query → ℕ → Bool
fits s accepted id = all (satisfies id (row_at s.header.columns id s.rows)) accepted

pub alive_of : (s : Stores) (id : ℕ) → id < s.header.rows → is_live (row_at s.header.columns id s.rows) ≡ true → alive s id ≡ true
unfolding alive
alive_of s id h e = rw (lt-ltb _ _ h, e)

pub alive_below : (s : Stores) (id : ℕ) → alive s id ≡ true → id < s.header.rows
unfolding alive
alive_below s id e = ltb-true _ _ (and_left _ _ e)

pub alive_live : (s : Stores) (id : ℕ) → alive s id ≡ true → is_live (row_at s.header.columns id s.rows) ≡ true
unfolding alive
alive_live s id e = and_right (ltb id s.header.rows) _ e

-- the wanted ids are the live ones that fit
wanted_is : (s : Stores) (accepted : List Query) (id : ℕ) → wanted s accepted id ≡ (alive s id && fits s accepted id)
unfolding wanted alive fits
wanted_is s accepted id = refl

and_assoc : (a b c : Bool) → ((a && b) && c) ≡ (a && (b && c))
and_assoc true b c = refl
and_assoc false b c = refl

pub or_assoc : (a b c : Bool) → ((a || b) || c) ≡ (a || (b || c))
or_assoc true b c = refl
or_assoc false b c = refl

all_both : {A : Type 0} (test : A → Bool) (xs ys : List A) → all test (xs ++ ys) ≡ (all test xs && all test ys)
unfolding all
all_both test [] ys = refl
all_both test (x ∷ xs) ys = rw (all_both test xs ys) (sym (and_assoc (test x) (all test xs) (all test ys)))

pub or-false : (b : Bool) → (b || false) ≡ b
or-false true = refl
or-false false = refl

pub any_both : {A : Type 0} (test : A → Bool) (xs ys : List A) → any test (xs ++ ys) ≡ (any test xs || any test ys)
unfolding any
any_both test [] ys = refl
any_both test (x ∷ xs) ys = rw (any_both test xs ys) (sym (or_assoc (test x) (any test xs) (any test ys)))

-- ---- what is left

pub record Narrows (s : Stores) (before after : List ℕ) (accepted : List Query) : Type 0 where
  -- of the live rows, those that fit
  pub live : (id : ℕ) → alive s id ≡ true → elem id after ≡ (elem id before && fits s accepted id)
  -- no id is added
  pub among : (id : ℕ) → elem id after ≡ true → elem id before ≡ true
  -- after refining only live rows are left
  pub only_live : any refines accepted ≡ true → (id : ℕ) → elem id after ≡ true → alive s id ≡ true
  -- an accepted query takes rising ids and leaves rising ids, any other leaves them unchanged
  pub rises : rising after ≡ rising before
  pub rising_before : any refines accepted ≡ true → rising before ≡ true

-- no query was accepted
pub narrows_not : (s : Stores) (ids : List ℕ) → Narrows s ids ids []
unfolding fits all any
narrows_not s ids =
    record {
      live = λ id e. sym (and-true (elem id ids));
      among = λ id e. e;
      only_live = λ e. absurd (false≢true e);
      rises = refl;
      rising_before = λ e. absurd (false≢true e);
    }

-- a query was accepted: of rising ids it left those that pass a test
pub narrows_filter : {s : Stores} {before after : List ℕ} {q : Query} (test : ℕ → Bool) → rising before ≡ true → after ≡ filter test before
    → ((id : ℕ) → alive s id ≡ true → test id ≡ satisfies id (row_at s.header.columns id s.rows) q)
    → (refines q ≡ true → (id : ℕ) → elem id before ≡ true → test id ≡ true → alive s id ≡ true)
    → Narrows s before after (q ∷ [])
unfolding fits all any
narrows_filter {before = before} {after = after} {q} test up left passes only =
    record {
      live = λ id e. is id ∙ ap (λ (b : Bool). elem id before && b) (passes id e ∙ sym (and-true _));
      among = λ id e. and_left _ _ (sym (is id) ∙ e);
      only_live = λ r id e. only (sym (or-false (refines q)) ∙ r) id (and_left _ _ (sym (is id) ∙ e)) (and_right (elem id before) _ (sym (is id) ∙ e));
      rises = rw (left, up) (rising_filter test before up);
      rising_before = λ r. up;
    }
  where
    is : (id : ℕ) → elem id after ≡ (elem id before && test id)
    is id = rw left (elem_filter test id before)

-- one query after others
fits_both : (s : Stores) (xs ys : List Query) (id : ℕ) (before : Bool) → ((before && fits s xs id) && fits s ys id) ≡ (before && fits s (xs ++ ys) id)
unfolding fits
fits_both s xs ys id before = rw (all_both (satisfies id (row_at s.header.columns id s.rows)) xs ys) (and_assoc before _ _)

pub narrows_then : {s : Stores} {before between after : List ℕ} {xs ys : List Query} → Narrows s before between xs → Narrows s between after ys → Narrows s before after (xs ++ ys)
narrows_then {s} {before} {xs = xs} {ys} m n =
    record {
      live = λ id e. n.live id e ∙ ap (λ (b : Bool). b && fits s ys id) (m.live id e) ∙ fits_both s xs ys id (elem id before);
      among = λ id e. m.among id (n.among id e);
      only_live = λ r id e. elim (split (any refines xs)) [
        | inl q ↦ m.only_live q id (n.among id e)
        | inr q ↦ n.only_live (later r q) id e
      ];
      rises = n.rises ∙ m.rises;
      rising_before = λ r. elim (split (any refines xs)) [
        | inl q ↦ m.rising_before q
        | inr q ↦ sym m.rises ∙ n.rising_before (later r q)
      ];
    }
  where
    later : any refines (xs ++ ys) ≡ true → any refines xs ≡ false → any refines ys ≡ true
    later r q = or_second (any refines xs) (any refines ys) (sym (any_both refines xs ys) ∙ r) q

-- ---- what is left in the end

module _ {s : Stores} {before after : List ℕ} {accepted : List Query} (n : Narrows s before after accepted) (r : any refines accepted ≡ true) where
  pub narrowed_rising : rising after ≡ true
  narrowed_rising = n.rises ∙ n.rising_before r

  left_wanted : (id : ℕ) → elem id after ≡ (elem id before && wanted s accepted id)
  left_wanted id =
      elim (split (alive s id)) [
        | inl e ↦ n.live id e ∙ ap (λ (b : Bool). elem id before && b) (sym (wanted_is s accepted id ∙ rw e))
        | inr e ↦
            none (λ q. false≢true (sym e ∙ n.only_live r id q))
            ∙ sym (ap (λ (b : Bool). elem id before && b) (wanted_is s accepted id ∙ rw e) ∙ and-false (elem id before))
      ]
    where
      none : (elem id after ≡ true → ⊥) → elem id after ≡ false
      none f = elim (split (elem id after)) [ inl q ↦ absurd (f q) | inr q ↦ q ]

  -- after refining, exactly the wanted ids are left
  pub narrowed_wanted : after ≡ filter (wanted s accepted) before
  narrowed_wanted =
      rising_ext after (filter (wanted s accepted) before) narrowed_rising (rising_filter (wanted s accepted) before (n.rising_before r))
      (λ id. left_wanted id ∙ sym (elem_filter (wanted s accepted) id before))
