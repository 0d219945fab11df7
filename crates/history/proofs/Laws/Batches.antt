-- A batch of inserts may be cut anywhere. Assumes nothing but the contracts that batches consist of.
use Rattle.std.specs.Prelude.{Ok}
use Rattle.history.proofs.Laws.Prelude.{ℕ, ◌≡◌, sym, ap, ◌∙◌, List, map, arith, length, insert, Header, Merge, stage_refusal, merge_refusal, accepted_number, stage_accepted, merge_accepted, staging_done, merging_done, pending_part, pending_more, body_part, body_more, sound_represents, live_shown, behind}
use Rattle.refusals.specs.Refusals.{Reply, accepted, outcome, if_accepted}
use Rattle.plain_table.specs.Plain.{Plain, Numbered, merged as mergedPlain, stage as stagePlain}
use Rattle.plain_table.proofs.Laws.Batches.{batch, live_cells, cut_anywhere}
use Rattle.refusals.specs.Refusals.{answer_view}
use Rattle.table.specs.Outcomes.{Stores, Body, body_of, joined, CompactionWords, lengths_lent, Represents, merge_of, Staging, Merging}
use Rattle.history.specs.Claim.{live_in}
use Rattle.history.specs.Batches.{Batch, merge, stage, live_cells_in, CutAnywhere}

-- ---- the calls of a batch, on a plain table; each is lent a first part of the stores

module _ {p : Plain} (s : Stores) (rest : Body) (more : List ℕ) (r : Represents p (behind s rest more)) where
  -- an accepted staging
  stage_represents : {row pending' : List ℕ} {h : Header} → Staging s.header s.pending (insert row) (Ok h) pending'
      → Represents (stagePlain p (insert row)) (behind (joined h (body_of s) pending') rest more)
  unfolding answer_view if_accepted
  stage_represents {row} {h = h} m =
      let n = accepted_number (stage_refusal s.header (length s.pending) (insert row)) h _ m.answers in
      let k = (stage_accepted s.header (length s.pending) (insert row) n).free in
      pending_more more (staging_done m n (pending_part more r (omega arith)))

  -- an accepted merge, and its status
  merge_represents : {w w' : CompactionWords} {m : Merge} {b' : Body} → Merging s w (Ok m) b' w'
      → Represents (mergedPlain p).table (behind (joined m.header b' s.pending) rest more) × (m.status ≡ (mergedPlain p).status)
  unfolding answer_view if_accepted outcome
  merge_represents {w} {m = m} c =
      let n = accepted_number (merge_refusal s.header (lengths_lent s w)) tt tt c.refusal in
      let k = merge_accepted s.header (lengths_lent s w) n in
      let lent = body_part rest (pending_part more r k.pending_fits) k.long in
      let answers : ◌≡◌ {A = Reply Merge} (accepted m) (accepted (merge_of p)) = (c.table n p lent).answers in
      let same : m ≡ merge_of p = cc in
      (pending_more more (body_more rest (merging_done c n lent)), ap (λ (x : Merge). x.status) same)

-- a batch stages its rows and merges them, without a stop
batch_represents : {p : Plain} {s t : Stores} {rows : List (List ℕ)} → Represents p s → Batch s rows t
    → Represents (mergedPlain (batch rows p)).table t × ((mergedPlain (batch rows p)).status ≡ 0)
unfolding batch
batch_represents r (merge s rest pending w m b' w' c e) = let k = merge_represents s rest pending r c in (k.0, sym k.1 ∙ e)
batch_represents {p = p} r (stage {row = row} s rest pending h pending' c more) = batch_represents {p = stagePlain p (insert row)} (stage_represents s rest pending r c) more

-- ---- the theorem

cells_shown : {p : Plain} {s : Stores} → Represents p s → live_cells_in s ≡ live_cells p
unfolding live_cells_in live_in live_cells
cells_shown r = ap (map (λ (row : Numbered). row.cells)) (live_shown r)

pub batch_cut : CutAnywhere
batch_cut s one two both a b sound generation first second whole =
    let start = sound_represents sound generation in
    let p = start.0 in
    let f = batch_represents start.1 first in
    let g = batch_represents f.0 second in
    let w = batch_represents start.1 whole in
    cells_shown g.0 ∙ cut_anywhere p a b start.2 f.1 g.1 w.1 ∙ sym (cells_shown w.0)
