-- Changes after a version: the opening's numbers do not change, and the generation never falls. While the generation is the same,
-- rows only die or are appended. Assumes nothing.
use Rattle.plain_table.proofs.Laws.Prelude.{ℕ, zero, suc, ◌+◌, ◌≤◌, ◌<◌, suc-le-suc, ◌≡◌, refl, sym, ap, ◌∙◌, inl, inr, Bool, true, false, false≢true, List, [], ◌∷◌, ◌++◌, add-zero, arith, ltb, length, drop, get_or, split}
use Rattle.lists.specs.Lists.{filter}
use Rattle.plain_table.specs.Plain.{Row, dead_row, Plain, live_from, stage, live_with_key, kill_if, dies, removed, applied, compacted, unstaged, compacts_after, merged, cleared, opened}
use Rattle.plain_table.specs.Calls.{Call, staging, merging, compacting, clearing, refreshing, feeding, stage_all, done, LentCall, after_all}
use Rattle.plain_table.proofs.Laws.Rows.{no_row}
use Rattle.plain_table.proofs.Laws.Calls.{leads_all}
use Rattle.plain_table.proofs.Laws.Counts.{Appended, new, again, removed_keeps, applied_keeps, applied_alike}

-- the second list is the first with some rows dead, followed by more rows
pub data Follows : List Row → List Row → Type 0 where
  behind : (rows : List Row) → Follows [] rows
  stays : (row : Row) {a b : List Row} → Follows a b → Follows (row ∷ a) (row ∷ b)
  falls : (row : Row) {a b : List Row} → Follows a b → Follows (row ∷ a) (dead_row row ∷ b)

follows_same : (rows : List Row) → Follows rows rows
follows_same [] = behind []
follows_same (row ∷ rows) = stays row (follows_same rows)

follows_then : {a b c : List Row} → Follows a b → Follows b c → Follows a c
follows_then {c = c} (behind rows) g = behind c
follows_then (stays row f) (stays _ g) = stays row (follows_then f g)
follows_then (stays row f) (falls _ g) = falls row (follows_then f g)
follows_then (falls row f) (stays _ g) = falls row (follows_then f g)
follows_then (falls row f) (falls _ g) = falls row (follows_then f g)

follows_more : {a b : List Row} (more : List Row) → Follows a b → Follows a (b ++ more)
follows_more more (behind rows) = behind (rows ++ more)
follows_more more (stays row f) = stays row (follows_more more f)
follows_more more (falls row f) = falls row (follows_more more f)

-- ---- the parts of a merge

killed_follows : (test : Row → Bool) (rows : List Row) → Follows rows (kill_if test rows)
unfolding kill_if
killed_follows test [] = behind []
killed_follows test (row ∷ rows) =
    let h = killed_follows test rows in
    elim (split (test row)) [ inl e ↦ rw e (falls row h) | inr e ↦ rw e (stays row h) ]

dies_follows : (keys : ℕ) (key : List ℕ) (number : ℕ) (rows : List Row) → Follows rows (dies keys key number rows)
unfolding dies
dies_follows keys key number [] = behind []
dies_follows keys key zero (row ∷ rows) =
    let h = follows_same rows in
    elim (split (live_with_key keys key row)) [ inl e ↦ rw e (falls row h) | inr e ↦ rw e (stays row h) ]
dies_follows keys key (suc number) (row ∷ rows) = stays row (dies_follows keys key number rows)

removed_follows : (p : Plain) → Follows p.rows (removed p).rows
removed_follows p =
    removed_keeps (λ q. Follows p.rows q.rows) (λ q test f. follows_then f (killed_follows test q.rows))
    (λ q keys key number f. follows_then f (dies_follows keys key number q.rows)) p (follows_same p.rows)

appended_follows : {cells : List ℕ} {p p' : Plain} → Appended cells p p' → Follows p.rows p'.rows
appended_follows {p = p} (new s l q) = follows_more _ (follows_same p.rows)
appended_follows {p = p} (again old row s l c m q) = follows_more _ (killed_follows _ p.rows)

applied_follows : (p : Plain) → Follows p.rows (applied p).table.rows
applied_follows p =
    applied_keeps (λ t. Follows p.rows t.rows) (λ cells t t' h a. follows_then h (appended_follows a)) p (removed_follows p)

-- ---- the calls

-- The opening's numbers are the same, and the generation is no lower. If it is the same, rows have only died or been appended.
pub record Onward (p q : Plain) : Type 0 where
  pub opening : q.opening ≡ p.opening
  pub generation : p.generation ≤ q.generation
  pub follows : q.generation ≡ p.generation → Follows p.rows q.rows

onward_rows : {p q : Plain} → q.opening ≡ p.opening → q.generation ≡ p.generation → Follows p.rows q.rows → Onward p q
onward_rows o g f = record { opening = o; generation = omega arith; follows = λ e. f }

onward_risen : {p q : Plain} → q.opening ≡ p.opening → p.generation < q.generation → Onward p q
onward_risen o h = record { opening = o; generation = omega arith; follows = λ e. absurd (omega arith) }

onward_same : (p : Plain) → Onward p p
onward_same p = onward_rows refl refl (follows_same p.rows)

onward_then : {p q r : Plain} → Onward p q → Onward q r → Onward p r
onward_then a b =
    record {
      opening = b.opening ∙ a.opening;
      generation = omega (arith, a.generation, b.generation);
      follows = λ e. follows_then (a.follows (omega (arith, a.generation, b.generation))) (b.follows (omega (arith, a.generation, b.generation)));
    }

onward_compacted : (p : Plain) → Onward p (compacted p)
unfolding compacted
onward_compacted p = onward_risen refl (omega arith)

onward_unstaged : (p : Plain) → Onward p (unstaged p)
unfolding unstaged
onward_unstaged p = onward_rows refl refl (follows_same p.rows)

onward_merged : (p : Plain) → Onward p (merged p).table
unfolding merged
onward_merged p =
    let t : Plain = (applied p).table in
    let a = applied_alike p in
    let u = onward_then (onward_rows a.opening a.generation (applied_follows p)) (onward_unstaged t) in
    elim (split (compacts_after (applied p).status t)) [ inl e ↦ rw e (onward_then u (onward_compacted (unstaged t))) | inr e ↦ rw e u ]

onward_cleared : (p : Plain) → Onward p (cleared p)
unfolding cleared opened
onward_cleared p = elim (split (ltb 0 (length p.rows))) [ inl e ↦ rw e (onward_risen refl (omega arith)) | inr e ↦ rw e (onward_unstaged p) ]

onward_done : (p : Plain) (c : Call) → Onward p (done p c)
unfolding done stage stage_all
onward_done p (staging r) = onward_rows refl refl (follows_same p.rows)
onward_done p merging = onward_merged p
onward_done p compacting = onward_compacted p
onward_done p clearing = onward_cleared p
onward_done p (refreshing r index) = onward_rows refl refl (follows_same p.rows)
onward_done p (feeding rs) = onward_rows refl refl (follows_same p.rows)

-- the same for a list of calls, with refused and stopped ones and clears of an empty table among them
pub onward_all : (p : Plain) (cs : List LentCall) → Onward p (after_all p cs)
onward_all = leads_all Onward onward_same (λ p q r a b. onward_then a b) onward_done

-- ---- the earlier rows

-- an earlier row that is still live has not changed
pub follows_at : {a b : List Row} → Follows a b → (i : ℕ) → i < length a → (get_or b i no_row).live ≡ true → get_or b i no_row ≡ get_or a i no_row
follows_at (behind rows) i h e = absurd (omega arith)
follows_at (stays row f) zero h e = refl
follows_at (falls row f) zero h e = absurd (false≢true e)
follows_at (stays row f) (suc i) h e = follows_at f i (omega arith) e
follows_at (falls row f) (suc i) h e = follows_at f i (omega arith) e

pub follows_length : {a b : List Row} → Follows a b → length a < suc (length b)
follows_length (behind rows) = omega arith
follows_length (stays row f) = suc-le-suc (follows_length f)
follows_length (falls row f) = suc-le-suc (follows_length f)

shift : (n i : ℕ) → suc n + i ≡ n + suc i
shift n i = omega arith

shifted : (n : ℕ) (still : ℕ → Bool) (a b : List Row)
    → live_from (suc n) b ≡ filter (λ row. still row.number) (live_from (suc n) a) ++ live_from (suc n + length a) (drop (length a) b)
    → live_from (suc n) b ≡ filter (λ row. still row.number) (live_from (suc n) a) ++ live_from (n + suc (length a)) (drop (length a) b)
shifted n still a b h = rw (shift n (length a)) at h

-- the live rows: the earlier live rows that are still live, followed by the live rows appended since
pub follows_live : (n : ℕ) (still : ℕ → Bool) {a b : List Row} → Follows a b → ((i : ℕ) → i < length a → still (n + i) ≡ (get_or b i no_row).live)
    → live_from n b ≡ filter (λ row. still row.number) (live_from n a) ++ live_from (n + length a) (drop (length a) b)
unfolding live_from filter
follows_live n still (behind rows) f = rw (add-zero n)
follows_live n still (stays row {a} {b} g) f =
    let q : still n ≡ row.live = ap still (sym (add-zero n)) ∙ f 0 (omega arith) in
    let h = shifted n still a b (follows_live (suc n) still g (λ i k. ap still (shift n i) ∙ f (suc i) (suc-le-suc k))) in
    elim (split row.live) [ inl e ↦ let t : still n ≡ true = q ∙ e in rw (e, t, h) | inr e ↦ rw (e, h) ]
follows_live n still (falls row {a} {b} g) f =
    let t : still n ≡ false = ap still (sym (add-zero n)) ∙ f 0 (omega arith) in
    let h = shifted n still a b (follows_live (suc n) still g (λ i k. ap still (shift n i) ∙ f (suc i) (suc-le-suc k))) in
    elim (split row.live) [ inl e ↦ rw (e, t) h | inr e ↦ rw e h ]

-- ---- the appended rows

module _ (new : ℕ → Bool) where
  -- if all rows are new, the new live rows are all live rows
  live_new : (n : ℕ) (rows : List Row) → ((i : ℕ) → i < length rows → new (n + i) ≡ true) → filter (λ row. new row.number) (live_from n rows) ≡ live_from n rows
  unfolding live_from filter
  live_new n [] f = refl
  live_new n (row ∷ rows) f =
      let t : new n ≡ true = ap new (sym (add-zero n)) ∙ f 0 (omega arith) in
      let h = live_new (suc n) rows (λ i k. ap new (shift n i) ∙ f (suc i) (suc-le-suc k)) in
      elim (split row.live) [ inl e ↦ rw (e, t, h) | inr e ↦ rw (e, h) ]

  -- if the rows from k on are the new ones, the new live rows are those from k on
  pub live_behind : (n k : ℕ) (rows : List Row) → k ≤ length rows → ((i : ℕ) → i < k → new (n + i) ≡ false)
      → ((i : ℕ) → k ≤ i → i < length rows → new (n + i) ≡ true) → filter (λ row. new row.number) (live_from n rows) ≡ live_from (n + k) (drop k rows)
  unfolding live_from filter
  live_behind n zero rows b f g = rw (add-zero n) (live_new n rows (λ i h. g i (omega arith) h))
  live_behind n (suc k) [] b f g = absurd (omega arith)
  live_behind n (suc k) (row ∷ rows) b f g =
      let t : new n ≡ false = ap new (sym (add-zero n)) ∙ f 0 (omega arith) in
      let h = live_behind (suc n) k rows (omega arith) (λ i m. ap new (shift n i) ∙ f (suc i) (suc-le-suc m))
      (λ i m m'. ap new (shift n i) ∙ g (suc i) (suc-le-suc m) (suc-le-suc m')) in
      elim (split row.live) [ inl e ↦ rw (e, t, ← shift n k) h | inr e ↦ rw (e, ← shift n k) h ]
