-- The manual proof of straight-line code over `Locals`, between its contract and its code:
--     ends             the end of a proof: the tokens, the last values, the result, and what is ensured for it
--     ends-ensuring    the same, with what is ensured for the result shown
--     answers          a call of a function without a `requires`: its result is stored, and what it ensures for it is had
--     skips, pads      k parameters without a statement on their last values, before those with one
--     proved           a function without a `requires` meets its contract: the proof over its code starts from its tokens and what its
--                      parameters own, at the machine values
-- Assumes `Logic`.
use Rattle.manual_proofs.proofs.Prelude.{Ura, SProp, Memory, Routine, Fun, Calls, Loops, WpFn, Lfts, FmC, ◌$◌, !, move, drop, fsplit, types_at, Meets, triple_of, Triple, ℕ, zero, suc, ◌≡◌, Option, just, List, [], ◌∷◌, T as T', Ty, place, Operand, Body, seq, call, Fn, Name, Val, WT, has_ty, ent, sep, emp, via, fst∗, mono_r, Fml, ftrue, fsep, Names, Closed, spot_of, Shares, AllOutlive, fm_of, Go, Item, ‵, raw, Post, Goal, prop, runs, Seq, Step, step, use0, use1, join, fjoin, frame, updating, at_once, show, done, from, stop, land, look_in, RattleType, owns, flat, mirs, Is, Lawful, Typed, Are, Ises, valss, Lawfuls, all_Typed, shows, Signature, type_at, said, peeks, nothing, Model, Running, tables, tables_of, Args, Res, on_entry, entered, calls_at, Ended, Clauses, Lasts, at_exit, lasts, closing}
use types.Logic.{Logic, sem}
use denote.Triple.Entry.{Vals, alive}
use denote.Triple.Bound.{passed}
use denote.Triple.Clauses.{ensured}
use Rattle.manual_proofs.proofs.Locals.{Locals, set, Within, operands, all_read, cell, fills}
pub use Rattle.manual_proofs.proofs.Walking.{Cites, Knowns, number, reads, struct, writes}
use Rattle.manual_proofs.proofs.Walking.{Callee, spells, tells, returned}

module _ {M : Type 1} {𝓤 : Ura M} (𝓛 : Logic 𝓤) where
  open 𝓛 use {H}

  lawfuls : (Rs : List RattleType) → Knowns Rs → Lawfuls 𝓛 Rs
  lawfuls [] ks = tt
  lawfuls (R ∷ Rs) ks = (ks.0.lawful 𝓛, lawfuls Rs ks.1)

  module _ (T : Ended) (c : Clauses 𝓤 T) where
    abbrev S : Signature
    S = T.signature

    module _ (known : (κs : Lfts S.lifetimes) → Knowns (types_at S.params κs)) where
      -- the machine values
      abbrev pub machine : (κs : Lfts S.lifetimes) → Args S κs → Vals S κs
      machine κs a = valss (types_at S.params κs) (spells (types_at S.params κs) (known κs)) a

      -- a proof over a function's code
      abbrev Walk : Calls 𝓤 H → Loops 𝓤 H → Fn → Type 1
      Walk C Λ f =
          (κs : Lfts S.lifetimes) (qs : Shares S.lifetimes) (bounds : AllOutlive S.lifetimes S.outlives κs) (a : Args S κs) (g : (c κs a).ghost)
          → Are (types_at S.params κs) (Ises (types_at S.params κs)) a (machine κs a) → Typed (mirs (types_at S.params κs)) (flat (types_at S.params κs) (machine κs a))
          → Seq (Go {0}) 𝓛 (raw (alive 𝓛 S κs qs) ∷ ‵ (owns (types_at S.params κs) a (machine κs a)) ∷ [])
          (prop (WpFn 𝓤 H C Λ f (flat (types_at S.params κs) (machine κs a)) ((triple_of 𝓛 S (closing 𝓛 T c)).post ((κs, qs, bounds, a, machine κs a), g))))

      met : (C : Calls 𝓤 H) (Λ : Loops 𝓤 H) (f : Fn) → Walk C Λ f → Meets 𝓛 S (WpFn 𝓤 H C Λ f) (closing 𝓛 T c)
      met C Λ f walk y =
          let κs : Lfts S.lifetimes = y.0.0 in
          let a : Args S κs = y.0.3 in
          let Q : Vals S κs → SProp 𝓤 = λ us. WpFn 𝓤 H C Λ f (flat (types_at S.params κs) us) ((triple_of 𝓛 S (closing 𝓛 T c)).post ((κs, y.0.1, y.0.2, a, us), y.1)) in
          via 𝓤 (on_entry 𝓛 S κs y.0.1 a y.0.4) (fst∗ 𝓤 (on_entry 𝓛 S κs y.0.1 a y.0.4) ((c κs a).requires y.1))
          (said 𝓛 S κs y.0.1 (spells (types_at S.params κs) (known κs)) (tells (types_at S.params κs) (known κs)) a Q y.0.4
          (λ are. (walk κs y.0.1 y.0.2 a y.1 are (all_Typed 𝓛 (types_at S.params κs) (lawfuls (types_at S.params κs) (known κs)) a (machine κs a) are)).prf))

    module _ (y : (triple_of 𝓛 S (closing 𝓛 T c)).Ghost) (v : Val) (r : Res S y.0.0) (ws : Lasts T y.0.0 y.0.3) where
      abbrev Result : Res S y.0.0 → SProp 𝓤
      Result r' = sep 𝓤 (sep 𝓤 (alive 𝓛 S y.0.0 y.0.1) (sem 𝓛 ((type_at S.result y.0.0).own_val r' (v ∷ [])))) (ensured 𝓛 T c y.0.0 y.0.3 y.1 r')

      abbrev Last : Lasts T y.0.0 y.0.3 → SProp 𝓤
      Last ws' = sep 𝓤 (sem 𝓛 (lasts T y.0.0 y.0.3 ws')) ((c y.0.0 y.0.3).ensures y.1 r (at_exit T y.0.0 y.0.3 ws'))

      pub ends : Seq (Go {0}) 𝓛 (raw (alive 𝓛 S y.0.0 y.0.1) ∷ ‵ (lasts T y.0.0 y.0.3 ws) ∷ ‵ ((type_at S.result y.0.0).own_val r (v ∷ [])) ∷ raw ((c y.0.0 y.0.3).ensures y.1 r (at_exit T y.0.0 y.0.3 ws)) ∷ [])
          (prop ((triple_of 𝓛 S (closing 𝓛 T c)).post y v))
      ends = updating ! $ at_once ! $ show ! Result r $ move ! (0 ∷ 2 ∷ []) $ join ! $ frame ! $ show ! Last ws $ frame ! $ done !

      pub ends_ensuring : ent 𝓤 (emp 𝓤) ((c y.0.0 y.0.3).ensures y.1 r (at_exit T y.0.0 y.0.3 ws))
          → Seq (Go {0}) 𝓛 (raw (alive 𝓛 S y.0.0 y.0.1) ∷ ‵ (lasts T y.0.0 y.0.3 ws) ∷ ‵ ((type_at S.result y.0.0).own_val r (v ∷ [])) ∷ []) (prop ((triple_of 𝓛 S (closing 𝓛 T c)).post y v))
      ends_ensuring said = use0 𝓛 (raw ((c y.0.0 y.0.3).ensures y.1 r (at_exit T y.0.0 y.0.3 ws))) said $ move ! (1 ∷ 2 ∷ 3 ∷ 0 ∷ []) $ ends

module _ {M : Type 1} {𝓤 : Ura M} {𝓛 : Logic 𝓤} {K : Type 0} {E : List (Ty × ℕ)} {hs : List (Option Val)} {Γ : List (Item 𝓤)} {C : Calls 𝓤 𝓛.H} {Λ : Loops 𝓤 𝓛.H} {q : Post 𝓤 𝓛.H} {rest : Body} where
  open 𝓛 use {H}

  pub answers : K → FmC 𝓤 H 𝓛.laws C → (T : Ended) (c : Clauses 𝓤 T) {f : Name} {xs : List Operand} {j : ℕ} → Triple 𝓤 (C f) (triple_of 𝓛 T.signature (closing 𝓛 T c))
      → (x : (triple_of 𝓛 T.signature (closing 𝓛 T c)).Ghost) → ent 𝓤 (emp 𝓤) ((c x.0.0 x.0.3).requires x.1) → operands E hs xs ≡ just (passed 𝓛 T.signature x.0)
      → Lawful 𝓛 (type_at T.signature.result x.0.0) → ((v : Val) → Typed (type_at T.signature.result x.0.0).mir (v ∷ []) → T' (has_ty (spot_of 𝓤 H E j).0 v) × WT v) → Within E hs j
      → ((v : Val) (r : Res T.signature x.0.0) (ws : Lasts T x.0.0 x.0.3) → Is (type_at T.signature.result x.0.0) r (v ∷ [])
      → Seq K 𝓛 (Locals 𝓤 H E (set hs j v) ∷ raw (alive 𝓛 T.signature x.0.0 x.0.1) ∷ ‵ (lasts T x.0.0 x.0.3 ws) ∷ ‵ ((type_at T.signature.result x.0.0).own_val r (v ∷ [])) ∷ raw ((c x.0.0 x.0.3).ensures x.1 r (at_exit T x.0.0 x.0.3 ws)) ∷ Γ) (runs C Λ E rest q))
      → Seq K 𝓛 (raw (alive 𝓛 T.signature x.0.0 x.0.1) ∷ ‵ (owns (types_at T.signature.params x.0.0) x.0.3 x.0.4) ∷ Locals 𝓤 H E hs ∷ Γ) (runs C Λ E (seq (call f xs (place j [])) rest) q)
  answers t fm T c {f} {xs} {j} known x free reads-them result fits z k =
      let κs : Lfts T.signature.lifetimes = x.0.0 in
      let R : RattleType = type_at T.signature.result κs in
      join t $ nothing t $ move t (1 ∷ 0 ∷ []) $ join t $ use1 𝓛 (raw ((triple_of 𝓛 T.signature (closing 𝓛 T c)).pre x)) (mono_r 𝓤 (on_entry 𝓛 T.signature κs x.0.1 x.0.3 x.0.4) free) $
      calls_at t fm (triple_of 𝓛 T.signature (closing 𝓛 T c)) known x (all_read t E hs (raw ((triple_of 𝓛 T.signature (closing 𝓛 T c)).pre x) ∷ Locals 𝓤 H E hs ∷ Γ) (λ i v p. look_in t 1 (cell t i p)) xs reads-them) (λ v. returned T c x t tt v (λ r ws.
      move t (1 ∷ []) $ peeks t R (Is R) (shows 𝓛 R) r (v ∷ []) (λ is. move t (4 ∷ 1 ∷ 2 ∷ 0 ∷ []) $ land t (from t (stop t)) (fills t j z (fits v (result.typed r (v ∷ []) is))) $ k v r ws is)))

-- ---- what a function ensures for last values: nothing, for a parameter that it cannot change
abbrev pub Behind : ℕ → Fml → Fml
Behind zero P = P
Behind (suc k) P = fsep ftrue (Behind k P)

module _ {M : Type 1} {𝓤 : Ura M} {𝓛 : Logic 𝓤} {K : Type 0} {G : Goal 𝓤 𝓛.H} where
  pub skips : K → (k : ℕ) (P : Fml) {Γ : List (Item 𝓤)} → Step K 𝓛 (‵ P ∷ Γ) G (‵ (Behind k P) ∷ Γ) G
  skips t zero P = step (λ s. s)
  skips t (suc k) P = step (λ s. fsplit t $ drop t $ skips t k P $ s)

  pub pads : K → (k : ℕ) {P : Fml} {Γ : List (Item 𝓤)} → Step K 𝓛 (‵ (Behind k P) ∷ Γ) G (‵ P ∷ Γ) G
  pads t zero = step (λ s. s)
  pads t (suc k) = step (λ s. pads t k $ nothing t $ fjoin t $ s)

-- a function that its code meets is met by its entry in the table, which is monotone under a frame. Its code is proved over any
-- table in which the functions that it calls meet their contracts
module _ {M : Type 1} {𝓤 : Ura M} (𝓛 : Logic 𝓤) (𝓜 : Model 𝓤 𝓛.H) (𝓡 : Running 𝓤 𝓛.H 𝓜) (γ : Names) (T : Ended) (c : (Memory → SProp 𝓤) → (Routine → Fun 𝓤) → Clauses 𝓤 T)
    (known : (κs : Lfts T.signature.lifetimes) → Knowns (types_at T.signature.params κs)) (Known-calls : (Memory → SProp 𝓤) → (Routine → Fun 𝓤) → Calls 𝓤 𝓛.H → Type 1) where
  open 𝓛 use {H}

  pub proved : (k : Name) (f : Fn) → Closed 𝓤 H (tables 𝓤 H 𝓜 𝓡 γ).C (tables 𝓤 H 𝓜 𝓡 γ).Λ k f → Known-calls 𝓜.mem 𝓡.run (tables 𝓤 H 𝓜 𝓡 γ).C
      → ((mem : Memory → SProp 𝓤) (run : Routine → Fun 𝓤) (C : Calls 𝓤 H) (Λ : Loops 𝓤 H) → Known-calls mem run C → FmC 𝓤 H 𝓛.laws C → Walk 𝓛 T (c mem run) known C Λ f)
      → Triple 𝓤 ((tables 𝓤 H 𝓜 𝓡 γ).C k) (Callee 𝓛 T (c 𝓜.mem 𝓡.run))
  unfolding tables_of
  proved k f closed calls walk =
      entered 𝓤 H _ (tables 𝓤 H 𝓜 𝓡 γ).C (tables 𝓤 H 𝓜 𝓡 γ).Λ k f closed
      (met 𝓛 T (c 𝓜.mem 𝓡.run) known (tables 𝓤 H 𝓜 𝓡 γ).C (tables 𝓤 H 𝓜 𝓡 γ).Λ f (walk 𝓜.mem 𝓡.run _ _ calls (fm_of 𝓤 H 𝓛.laws (tables_of 𝓤 H 𝓜 (tables 𝓤 H 𝓜 𝓡 γ)))))
