-- The ids that a page visits: each is written, has a dead row, or has a live row that fails a condition. Assumes nothing.
use Rattle.std.specs.Prelude.{Ok}
use Rattle.query_spec.proofs.Laws.Prelude.{ℕ, ◌+◌, ◌≡◌, refl, sym, ap, ◌∙◌, inl, inr, not, ◌&&◌, List, [], ◌∷◌, ℕ_discrete, arith, length, split, Reply, refused, accepted, reply_refused, reply_accepted, Constraint, Header, Page}
use Rattle.lists.specs.Lists.{filter, count, all, row_at}
use Rattle.offsets.specs.Subsets.{Subset}
use Rattle.constraints.specs.Constraints.{met, is_live, meets}
use Rattle.query_spec.specs.Queries.{matches, dead_among, page_refusal, visited, next_place, page_ids, next_view, PageResult, page_of, page_view, PageRead}

-- how many of these ids have a live row that fails a condition
unfoldable pub failed_among : Header → List ℕ → List Constraint → List ℕ → ℕ
failed_among h rows conditions ids = count (λ id. is_live (row_at h.columns id rows) && not (all (met (row_at h.columns id rows)) conditions)) ids

pub visited_parts : (h : Header) (rows : List ℕ) (conditions : List Constraint) (ids : List ℕ)
    → length (filter (matches h rows conditions) ids) + dead_among h rows ids + failed_among h rows conditions ids ≡ length ids
unfolding matches meets filter count dead_among failed_among
visited_parts h rows conditions [] = refl
visited_parts h rows conditions (x ∷ xs) =
    let rest = visited_parts h rows conditions xs in
    elim (split (is_live (row_at h.columns x rows))) [
      | inl live ↦ elim (split (all (met (row_at h.columns x rows)) conditions)) [
        | inl all_hold ↦ rw (live, all_hold) (omega (arith, rest))
        | inr some ↦ rw (live, some) (omega (arith, rest))
      ]
      | inr dead ↦ rw dead (omega (arith, rest))
    ]

-- so the numbers of a page account for every id that it visits
pub page_parts : (h : Header) (rows : List ℕ) (subset : Subset) (start n : ℕ) (conditions : List Constraint) (output : List ℕ) (page : Page) (output' : List ℕ)
    → PageRead h rows subset start n conditions output (Ok page) output'
    → page.written + page.dead + failed_among h rows conditions (visited subset start n) ≡ length (visited subset start n)
unfolding page_of page_ids page_view
page_parts h rows subset start n conditions output page output' p =
    elim (ℕ_discrete number 0) [
      | yes z ↦
          let same_view : ◌≡◌ {A = Reply PageResult} (accepted (record { written = page.written; dead = page.dead; next = next_view page.next })) (accepted read) =
          p.effect.answers ∙ sym (reply_accepted (accepted read) number read refl z) in
          let same : ◌≡◌ {A = PageResult} (record { written = page.written; dead = page.dead; next = next_view page.next }) read = cc in
          let written : page.written ≡ read.written = ap (λ (t : PageResult). t.written) same in
          let dead : page.dead ≡ read.dead = ap (λ (t : PageResult). t.dead) same in
          rw (written, dead) (visited_parts h rows conditions (visited subset start n))
      | no m ↦
          let same_view : ◌≡◌ {A = Reply PageResult} (accepted (record { written = page.written; dead = page.dead; next = next_view page.next })) (refused number) =
          p.effect.answers ∙ sym (reply_refused (refused number) number number read refl refl m) in
          cc
    ]
  where
    number : ℕ
    number = page_refusal h (length rows) subset start n conditions (length output)

    read : PageResult
    read = record { written = length (filter (matches h rows conditions) (visited subset start n)); dead = dead_among h rows (visited subset start n); next = next_place subset start n }
