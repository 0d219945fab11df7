-- `image_check::is_contents_sound` meets its contract. Assumes nothing.
use Rattle.image_check.proofs.CheckingSteps.{contents_cells, contents_held, contents_fit, contents_pending, unsound_rows, unsound_keys, sound_by_pending}
use Rattle.image_check.proofs.is_contents_sound.Goals as goal

pub rows_sound-requires : goal.rows_sound-requires
rows_sound-requires c = record { cells = contents_cells _ c.args.l c.requires.0; entries_fit = contents_held _ c.args.l c.requires.0 }

pub returns-then-not-rows_sound : goal.returns-then-not-rows_sound
returns-then-not-rows_sound c = unsound_rows _ c.args.l c.requires.0 (c.rows_sound.ensures.no c.if-not-rows_sound.true) _

pub build_unique-requires : goal.build_unique-requires
build_unique-requires c = contents_fit _ c.args.l c.requires.0 _ c.index_shape.ensures _ c.requires.1

pub returns-then-not-build_unique : goal.returns-then-not-build_unique
returns-then-not-build_unique c =
    unsound_keys _ c.args.l c.requires.0 _ c.index_shape.ensures _ _ c.build_unique.ensures c.if-not-build_unique.true

pub pending_whole-requires : goal.pending_whole-requires
pending_whole-requires c = contents_pending _ c.args.l c.requires.0

pub returns : goal.returns
returns c =
    sound_by_pending _ c.args.l c.requires.0 _ c.index_shape.ensures _ _ c.build_unique.ensures c.if-not-build_unique.false
    (c.rows_sound.ensures.yes c.if-not-rows_sound.false) _ c.pending_whole.ensures
