-- Every refresh that meets its contract is a call of a history: its index store is sound or it is not. Assumes nothing.
use Rattle.history.proofs.Laws.Prelude.{[], inl, inr, index_decided, CompactionWords, compaction_words, refreshes, refreshes_unsound, EveryRefreshIsACall}

-- a refresh is lent no compaction words
abbrev none_lent : CompactionWords
none_lent = compaction_words [] []

pub every_refresh_is_a_call : EveryRefreshIsACall
every_refresh_is_a_call s r index answer pending' index' m =
    elim (index_decided s.header s.rows r.columns index) [
      | inl sound ↦ (_, refreshes none_lent r index answer pending' index' m sound)
      | inr unsound ↦ (_, refreshes_unsound none_lent r index answer pending' index' m unsound)
    ]
