use Rattle.refresh_index.proofs.Prelude.{◌≡◌, refl, ◌∙◌, [], arith, leb-true, leb-false, rules, chain_none, chain_above}
use Rattle.refresh_spec.specs.Index.{chain, entries_under}
use Rattle.refresh_index.proofs.Sizes.{readable}
use Rattle.refresh_index.proofs.Goings.{going_few}
use Rattle.refresh_index.proofs.ChainSteps.{ChainReady, chain_ready, under_is, chain_begin, chain_step, chain_end}
use Rattle.refresh_index.proofs.mark_chain.Goals.{Start}
use Rattle.refresh_index.proofs.mark_chain.Goals as goal

sizes : (s : Start) → ChainReady s.args.h s.args.columns.now s.args.index.now
sizes s = chain_ready _ s.args.rows.now _ _ s.requires.0 s.requires.1

pub bounds-index-2 : goal.bounds-index-2
bounds-index-2 c = omega (arith, sizes (goal.at.bounds-index-2 c).Start)

pub overflow_mul-limit : goal.overflow_mul-limit
overflow_mul-limit c = omega (arith, sizes (goal.at.overflow_mul-limit c).Start)

pub returns-then-limit-eq0 : goal.returns-then-limit-eq0
returns-then-limit-eq0 c =
    let none : entries_under c.args.h.capacity c.args.index.now c.args.value ≡ [] = under_is _ _ _ c.args.value c.requires.1 ∙ rw c.if-limit-eq0.true (unfold chain in refl) in
    chain_end _ _ _ c.args.value _ none (chain_begin _ _ _ c.args.value _ _ _ refl)

pub bounds-index-12 : goal.bounds-index-12
bounds-index-12 c = omega (arith, sizes (goal.at.bounds-index-12 c).Start)

pub bucket_of-requires : goal.bucket_of-requires
bucket_of-requires c = omega (arith, sizes (goal.at.bucket_of-requires c).Start, c.if-limit-eq0.false)

pub overflow_add-link : goal.overflow_add-link
overflow_add-link c = omega (arith, sizes (goal.at.overflow_add-link c).Start)

pub offset_bounds-index-heads_at : goal.offset_bounds-index-heads_at
offset_bounds-index-heads_at c = omega (arith, sizes (goal.at.offset_bounds-index-heads_at c).Start)

pub bounds-index-heads_at : goal.bounds-index-heads_at
bounds-index-heads_at c = omega (arith, sizes (goal.at.bounds-index-heads_at c).Start)

pub loop-link-init : goal.loop-link-init
loop-link-init c = (
  omega arith,
  refl,
  chain_begin _ _ _ c.args.value _ _ _ (rw (c.bucket_of.ensures.0, c.heads_at.ensures) (under_is _ _ _ c.args.value c.requires.1)),
)

pub mark_entry-marked-requires : goal.mark_entry-marked-requires
mark_entry-marked-requires c =
    let l = c.loop-link in
    (readable c.requires.0, omega (arith, sizes (goal.at.mark_entry-marked-requires c).Start, leb-true), l.invariant.1 ∙ c.requires.2)

pub overflow_add-marked : goal.overflow_add-marked
overflow_add-marked c =
    let l = c.loop-link in
    let g = chain_step _ _ _ c.args.value _ l.limit l.link c.loop-link-test.true (omega (arith, leb-true)) l.invariant.2 c.mark_entry-marked.ensures in
    omega (arith, going_few g c.requires.2 (λ w. search rules))

pub overflow_cast-link : goal.overflow_cast-link
overflow_cast-link c = omega (arith, sizes (goal.at.overflow_cast-link c).Start, leb-true)

pub overflow_add-link-in-loop-link : goal.overflow_add-link-in-loop-link
overflow_add-link-in-loop-link c = omega (arith, sizes (goal.at.overflow_add-link-in-loop-link c).Start, leb-true)

pub offset_bounds-index-entry : goal.offset_bounds-index-entry
offset_bounds-index-entry c = omega (arith, sizes (goal.at.offset_bounds-index-entry c).Start, leb-true)

pub bounds-index-entry : goal.bounds-index-entry
bounds-index-entry c = omega (arith, sizes (goal.at.bounds-index-entry c).Start, leb-true)

pub loop-link-smaller : goal.loop-link-smaller
loop-link-smaller c = omega (arith, leb-true)

pub loop-link-preserved : goal.loop-link-preserved
loop-link-preserved c =
    let l = c.loop-link in
    (omega (arith, leb-true), c.mark_entry-marked.auto.words ∙ l.invariant.1, chain_step _ _ _ c.args.value _ l.limit l.link c.loop-link-test.true (omega (arith, leb-true)) l.invariant.2 c.mark_entry-marked.ensures)

pub returns-else-link-limit : goal.returns-else-link-limit
returns-else-link-limit c =
    chain_end _ _ _ c.args.value _ (chain_above _ _ _ (omega (arith, leb-false))) c.loop-link.invariant.2

pub returns-after-loop-link : goal.returns-after-loop-link
returns-after-loop-link c =
    let l = c.loop-link in
    let z : l.link ≡ 0 = omega arith in
    chain_end _ _ _ c.args.value _ (rw z (chain_none _ _)) l.invariant.2
